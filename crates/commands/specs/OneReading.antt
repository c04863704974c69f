-- A pattern is read in one way: two trees with the same bytes spell the same commands. Assumes nothing.
use Rattle.std.specs.Prelude.{◌≡◌, refl, ◌⊎◌, Bool, true, false, List, [], ◌∷◌, ◌++◌, ℕ}
use Rattle.std.proofs.Common.{sym, ap, ap₂, subst, ◌∙◌, inl, inr, ⊎_elim, append_assoc, arith}
use Rattle.scpi.specs.Bytes.{colon_sign, query_sign, open_sign, close_sign, star_sign, Between, Capital, Small, All, caseless}
use Rattle.scpi.specs.Grammar.{Word, short, long, Row, Row.r_none, Row.r_word, Row.r_bracket, text, mark, Tree, Tree.t_path, Tree.t_star, source}
use Rattle.commands.specs.Spelling.{SpellsWord, SpellsWord.in_short, SpellsWord.in_long, SpellsRow, SpellsRow.s_word, SpellsRow.s_kept, SpellsRow.s_dropped, SpellsTree, SpellsTree.s_path}
use Rattle.scpi.specs.Words.{HeadNot}
use Rattle.commands.specs.Walks.{Ends, NoLetter, no_letter}
use Rattle.commands.specs.Whole.{star_in, star_out}

-- two runs of bytes of one kind, each up to its end
run_same : (low high : ℕ) (x y s t : List ℕ) → All (Between low high) x → All (Between low high) y → HeadNot low high s → HeadNot low high t
    → x ++ s ≡ y ++ t → (x ≡ y) × (s ≡ t)
run_same low high [] [] s t h k m n e = (refl, e)
run_same low high [] (b ∷ y) s t h k m n e = absurd (subst (HeadNot low high) e m k.0)
run_same low high (a ∷ x) [] s t h k m n e = absurd (subst (HeadNot low high) (sym e) n h.0)
run_same low high (a ∷ x) (b ∷ y) s t h k m n e =
    let f : a ≡ b = cc in
    let g : x ++ s ≡ y ++ t = cc in
    let r = run_same low high x y s t h.1 k.1 m n g in
    (ap₂ (λ (i : ℕ) (l : List ℕ). i ∷ l) f r.0, r.1)

small_head : (ss t : List ℕ) → All Small ss → HeadNot 65 90 t → HeadNot 65 90 (ss ++ t)
small_head [] t h n = n
small_head (b ∷ ss) t h n = λ z. omega arith

word_same : (v w : Word) (s t : List ℕ) → NoLetter s → NoLetter t → long v ++ s ≡ long w ++ t → (short v ≡ short w) × (long v ≡ long w) × (s ≡ t)
word_same v w s t m n e =
    let f : short v ++ (v.smalls ++ s) ≡ short w ++ (w.smalls ++ t) = sym (append_assoc (short v) v.smalls s) ∙ e ∙ append_assoc (short w) w.smalls t in
    let a = run_same 65 90 (short v) (short w) (v.smalls ++ s) (w.smalls ++ t) (v.is_capital, v.are_capitals) (w.is_capital, w.are_capitals)
    (small_head v.smalls s v.are_small m.0) (small_head w.smalls t w.are_small n.0) f in
    let b = run_same 97 122 v.smalls w.smalls s t v.are_small w.are_small m.1 n.1 a.1 in
    (a.0, ap₂ (λ (x y : List ℕ). x ++ y) a.0 b.0, b.1)

word_moved : (v w : Word) → short v ≡ short w → long v ≡ long w → (u : List ℕ) → SpellsWord v u → SpellsWord w u
word_moved v w f g u (in_short e) = in_short (e ∙ ap caseless f)
word_moved v w f g u (in_long e) = in_long (e ∙ ap caseless g)

-- r spells what q spells
abbrev Moved : Row → Row → Type 0
Moved q r = (u : List ℕ) → SpellsRow q u → SpellsRow r u

moved_word : (v w : Word) (q r : Row) → short v ≡ short w → long v ≡ long w → Moved q r → Moved (r_word v q) (r_word w r)
moved_word v w q r f g h x (s_word {u = a} {v = b} m n) = s_word (word_moved v w f g a m) (h b n)

moved_bracket : (p q r s : Row) → Moved p r → Moved q s → Moved (r_bracket p q) (r_bracket r s)
moved_bracket p q r s f g x (s_kept {u = a} {v = b} m n) = s_kept (f a m) (g b n)
moved_bracket p q r s f g x (s_dropped n) = s_dropped (g x n)

-- what ends a row begins no item
no_item : (b : ℕ) (s l : List ℕ) → Ends s → s ≡ b ∷ l → (b ≡ colon_sign) ⊎ (b ≡ open_sign) → ⊥
no_item b [] l h e k = let z : ◌≡◌ {A = ℕ} 0 1 = cc in omega arith
no_item b (x ∷ xs) l h e k =
    let f : x ≡ b = cc in
    ⊎_elim
    (λ (y : x ≡ query_sign). ⊎_elim (λ (z : b ≡ colon_sign). omega arith) (λ (z : b ≡ open_sign). omega arith) k)
    (λ (y : x ≡ close_sign). ⊎_elim (λ (z : b ≡ colon_sign). omega arith) (λ (z : b ≡ open_sign). omega arith) k)
    h

-- the tails of two lists that begin alike
tail_same : (a b : ℕ) (x y : List ℕ) → a ∷ x ≡ b ∷ y → x ≡ y
tail_same a b x y e = cc

row_same : (q r : Row) (s t : List ℕ) → Ends s → Ends t → text q ++ s ≡ text r ++ t → (s ≡ t) × Moved q r
row_same r_none r_none s t h k e = (e, λ u z. z)
row_same r_none (r_word w r) s t h k e = absurd (no_item colon_sign s ((long w ++ text r) ++ t) h e (inl refl))
row_same r_none (r_bracket p r) s t h k e = absurd (no_item open_sign s ((text p ++ (close_sign ∷ text r)) ++ t) h e (inr refl))
row_same (r_word v q) r_none s t h k e = absurd (no_item colon_sign t ((long v ++ text q) ++ s) k (sym e) (inl refl))
row_same (r_bracket p q) r_none s t h k e = absurd (no_item open_sign t ((text p ++ (close_sign ∷ text q)) ++ s) k (sym e) (inr refl))
row_same (r_word v q) (r_bracket p r) s t h k e = absurd (let f : colon_sign ≡ open_sign = cc in omega arith)
row_same (r_bracket p q) (r_word v r) s t h k e = absurd (let f : open_sign ≡ colon_sign = cc in omega arith)
row_same (r_word v q) (r_word w r) s t h k e =
    let f : long v ++ (text q ++ s) ≡ long w ++ (text r ++ t) =
    sym (append_assoc (long v) (text q) s) ∙ tail_same colon_sign colon_sign ((long v ++ text q) ++ s) ((long w ++ text r) ++ t) e ∙ append_assoc (long w) (text r) t in
    let a = word_same v w (text q ++ s) (text r ++ t) (no_letter q s h) (no_letter r t k) f in
    let b = row_same q r s t h k a.2 in
    (b.0, moved_word v w q r a.0 a.1 b.1)
row_same (r_bracket p q) (r_bracket o r) s t h k e =
    let f : text p ++ (close_sign ∷ (text q ++ s)) ≡ text o ++ (close_sign ∷ (text r ++ t)) =
    sym (append_assoc (text p) (close_sign ∷ text q) s)
    ∙ tail_same open_sign open_sign ((text p ++ (close_sign ∷ text q)) ++ s) ((text o ++ (close_sign ∷ text r)) ++ t) e
    ∙ append_assoc (text o) (close_sign ∷ text r) t in
    let a = row_same p o (close_sign ∷ (text q ++ s)) (close_sign ∷ (text r ++ t)) (inr refl) (inr refl) f in
    let b = row_same q r s t h k (tail_same close_sign close_sign (text q ++ s) (text r ++ t) a.0) in
    (b.0, moved_bracket p q o r a.1 b.1)

mark_ends : (q : Bool) → Ends (mark q)
mark_ends true = inl refl
mark_ends false = tt

path_moved : (v w : Word) (q r : Row) (a b : Bool) → short v ≡ short w → long v ≡ long w → Moved q r → mark a ≡ mark b → (c : List ℕ) → SpellsTree (t_path v q a) c → SpellsTree (t_path w r b) c
path_moved v w q r a b f g h m c (s_path {u = x} {v = y} k l) =
    subst (λ (z : List ℕ). SpellsTree (t_path w r b) (x ++ (y ++ z))) (sym m) (s_path (word_moved v w f g x k) (h y l))

capital_star : (b : ℕ) (x y : List ℕ) → Capital b → b ∷ x ≡ star_sign ∷ y → ⊥
capital_star b x y h e = let f : b ≡ star_sign = cc in omega arith

pub one_reading : (s t : Tree) → source s ≡ source t → (c : List ℕ) → SpellsTree s c → SpellsTree t c
one_reading (t_path v q a) (t_path w r b) e c z =
    let m = word_same v w (text q ++ mark a) (text r ++ mark b) (no_letter q (mark a) (mark_ends a)) (no_letter r (mark b) (mark_ends b)) e in
    let n = row_same q r (mark a) (mark b) (mark_ends a) (mark_ends b) m.2 in
    path_moved v w q r a b m.0 m.1 n.1 n.0 c z
one_reading (t_path v q a) (t_star b bs d) e c z = absurd (capital_star v.capital ((v.capitals ++ v.smalls) ++ (text q ++ mark a)) ((b ∷ bs) ++ mark d) v.is_capital e)
one_reading (t_star b bs d) (t_path v q a) e c z = absurd (capital_star v.capital ((v.capitals ++ v.smalls) ++ (text q ++ mark a)) ((b ∷ bs) ++ mark d) v.is_capital (sym e))
one_reading (t_star b bs d) (t_star a as' f) e c z = star_out a as' f c (star_in b bs d c z ∙ ap caseless e)
