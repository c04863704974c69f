-- A whole pattern against a whole command. Assumes nothing.
use Rattle.std.specs.Prelude.{◌≡◌, refl, ◌⊎◌, ◌↔◌, Bool, true, false, cond, ◌&&◌, List, [], ◌∷◌, ◌++◌, ℕ, suc, ◌+◌, ◌-◌, ◌≤◌, ◌<◌, leb, length, get_or, take, drop, Ok}
use Rattle.std.proofs.Common.{sym, ap, ap₂, subst, ◌∙◌, inl, inr, ⊎_elim, append_assoc, append-nil, arith, lit<, length-append, length-drop, drop_of_length-le, drop-cons, leb-true}
use Rattle.std.proofs.Math.Nat.{sub-zero}
use Rattle.std.proofs.Math.Seq.{drop-append_seam, take-length}
use Rattle.scpi.specs.Bytes.{Capital, query_sign, star_sign, upper, caseless}
use Rattle.scpi.specs.Grammar.{Word, short, long, Row, text, Within, mark, Tree, Tree.t_path, Tree.t_star, source, Fine, GoodPattern, good}
use Rattle.commands.specs.Spelling.{SpellsWord, SpellsWord.in_short, SpellsWord.in_long, SpellsRow, SpellsRow.s_none, SpellsRow.s_word, SpellsRow.s_kept}
use Rattle.commands.specs.Spelling.{SpellsRow.s_dropped, SpellsTree, SpellsTree.s_path, SpellsTree.s_star, Spells, Matches}
use Rattle.commands.specs.Cuts.{Cut, cut_behind, cut_append, cut_first, cut_last, cut_inside}
use Rattle.commands.specs.Sets.{On, Lands, Reach}
use Rattle.scpi.specs.Answers.{Says, says_as}
use Rattle.scpi.specs.Scans.{PathRead, path_end, path_stay, word_on, whole_end, EndRead, end_good, end_asked}
use Rattle.scpi.specs.Verdicts.{Verdict}
use Rattle.scpi.proofs.Verdicts.{verdict_short}
use Rattle.scpi.specs.Words.{leading, starts, part, Begins, begins_starts, starts_begins, like_length, between_yes}
use Rattle.commands.specs.Walks.{Ends, NoLetter, Walked, no_letter, behind_word, part_short, part_long}

-- the word and the row spell the command up to place k
pub record Upto (w : Word) (r : Row) (c : List ℕ) (k : ℕ) : Type 0 where
  pub first : List ℕ
  pub row : List ℕ
  pub word_spelled : SpellsWord w first
  pub row_spelled : SpellsRow r row
  pub cut : Cut c 0 (first ++ row) k

-- with the mark behind it, they spell the whole
pub upto_in : (w : Word) (r : Row) (q : Bool) (c : List ℕ) → SpellsTree (t_path w r q) c → (k : ℕ) × Upto w r c k × (drop k c ≡ mark q)
upto_in w r q c (s_path {u = u} {v = v} a b) = (
  length (u ++ v),
  record { first = u; row = v; word_spelled = a; row_spelled = b; cut = record { rest = mark q; split = sym (append_assoc u v (mark q)); ends = omega arith } },
  rw (← append_assoc u v (mark q)) (drop-append_seam (u ++ v) (mark q)),
)

pub upto_out : (w : Word) (r : Row) (q : Bool) (c : List ℕ) (k : ℕ) → Upto w r c k → drop k c ≡ mark q → SpellsTree (t_path w r q) c
upto_out w r q c k h e =
    let f : c ≡ h.first ++ (h.row ++ mark q) = h.cut.split
    ∙ ap (λ (l : List ℕ). (h.first ++ h.row) ++ l) (sym (cut_behind c 0 (h.first ++ h.row) k h.cut) ∙ e)
    ∙ append_assoc h.first h.row (mark q) in
    subst (λ (l : List ℕ). SpellsTree (t_path w r q) l) (sym f) (s_path h.word_spelled h.row_spelled)

-- the walk's set holds these places
module _ (w : Word) (r : Row) (c s t u : List ℕ) (origin : (j : ℕ) → On s j ↔ (j ≡ 0))
    (step : (k : ℕ) → On t k ↔ (Lands (short w) c s k ⊎ Lands (long w) c s k)) (walk : (j : ℕ) → On u j ↔ Reach r c t j) where
  first_out : (j k : ℕ) (v x : List ℕ) → ((a : List ℕ) → caseless a ≡ caseless x → SpellsWord w a) → Lands x c s k → SpellsRow r v → Cut c k v j → Upto w r c j
  first_out j k v x f y b z =
      let e : y.from ≡ 0 = (origin y.from).0 y.begins in
      record {
        first = y.spelling;
        row = v;
        word_spelled = f y.spelling y.like;
        row_spelled = b;
        cut = cut_append c 0 y.spelling k v j (subst (λ (m : ℕ). Cut c m y.spelling k) e y.cut) z;
      }

  first_in : (k : ℕ) (a : List ℕ) → SpellsWord w a → Cut c 0 a k → On t k
  first_in k a (in_short e) z = (step k).1 (inl (record { from = 0; spelling = a; begins = (origin 0).1 refl; like = e; cut = z }))
  first_in k a (in_long e) z = (step k).1 (inr (record { from = 0; spelling = a; begins = (origin 0).1 refl; like = e; cut = z }))

  pub on_upto : (j : ℕ) → On u j ↔ Upto w r c j
  on_upto j = (
    λ h. let x = (walk j).0 h in ⊎_elim
        (λ (y : Lands (short w) c s x.from). first_out j x.from x.spelling (short w) (λ a e. in_short e) y x.spelled x.cut)
        (λ (y : Lands (long w) c s x.from). first_out j x.from x.spelling (long w) (λ a e. in_long e) y x.spelled x.cut)
        ((step x.from).0 x.begins),
    λ h. (walk j).1 (record {
      from = 0 + length h.first;
      spelling = h.row;
      begins = first_in (0 + length h.first) h.first h.word_spelled (cut_first c 0 h.first h.row j h.cut);
      spelled = h.row_spelled;
      cut = cut_last c 0 h.first h.row j h.cut;
    }),
  )

  -- with no "?" the place is the command's end
  pub on_plain : On u (length c) ↔ SpellsTree (t_path w r false) c
  on_plain = (
    λ h. upto_out w r false c (length c) ((on_upto (length c)).0 h) (drop_of_length-le c (let l : length c ≤ length c = omega arith in l)),
    λ h. let x = upto_in w r false c h in
        let l : x.0 ≤ length c = cut_inside c 0 (x.1.first ++ x.1.row) x.0 (omega arith) x.1.cut in
        let z : length (drop x.0 c) ≡ 0 = ap length x.2 in
        let e : x.0 ≡ length c = let f : length (drop x.0 c) ≡ length c - x.0 = length-drop x.0 c in omega arith in
        subst (λ (m : ℕ). On u m) e ((on_upto x.0).1 x.1),
  )

  -- with "?" it is the place of the command's "?", its last byte
  pub on_asked : (0 < length c) × (get_or c (length c - 1) 0 ≡ query_sign) × On u (length c - 1) ↔ SpellsTree (t_path w r true) c
  on_asked = (
    λ h. let n : ℕ = length c - 1 in
        let l : n < length c = omega (arith, h.0) in
        let d : drop n c ≡ get_or c n 0 ∷ drop (suc n) c = drop-cons c n 0 l in
        let z : drop (suc n) c ≡ [] = drop_of_length-le c (let l' : length c ≤ suc n = omega arith in l') in
        upto_out w r true c n ((on_upto n).0 h.2) (d ∙ ap₂ (λ (a : ℕ) (b : List ℕ). a ∷ b) h.1 z),
    λ h. let x = upto_in w r true c h in
        let z : length (drop x.0 c) ≡ 1 = ap length x.2 in
        let f : length (drop x.0 c) ≡ length c - x.0 = length-drop x.0 c in
        let l : x.0 < length c = omega arith in
        let e : x.0 ≡ length c - 1 = omega arith in
        let d : drop x.0 c ≡ get_or c x.0 0 ∷ drop (suc x.0) c = drop-cons c x.0 0 l in
        let g : drop x.0 c ≡ query_sign ∷ [] = x.2 in
        let b : get_or c x.0 0 ≡ query_sign = cc in
        (omega arith, subst (λ (m : ℕ). get_or c m 0 ≡ query_sign) e b, subst (λ (m : ℕ). On u m) e ((on_upto x.0).1 x.1)),
  )

caseless_append : (x y : List ℕ) → caseless (x ++ y) ≡ caseless x ++ caseless y
caseless_append [] y = refl
caseless_append (a ∷ x) y = ap (λ (l : List ℕ). upper a ∷ l) (caseless_append x y)

-- what is like x and then y is what is like x, and then what is like y
pub record Parted (x y l : List ℕ) : Type 0 where
  pub front : List ℕ
  pub back : List ℕ
  pub joined : l ≡ front ++ back
  pub front_like : caseless front ≡ caseless x
  pub back_like : caseless back ≡ y

parted : (x y l : List ℕ) → caseless l ≡ caseless x ++ y → Parted x y l
parted [] y l e = record { front = []; back = l; joined = refl; front_like = refl; back_like = e }
parted (a ∷ x) y [] e = absurd (let z : ◌≡◌ {A = ℕ} 0 1 = cc in omega arith)
parted (a ∷ x) y (b ∷ l) e =
    let g : upper b ≡ upper a = cc in
    let t = parted x y l (let f : caseless l ≡ caseless x ++ y = cc in f) in
    record {
      front = b ∷ t.front;
      back = t.back;
      joined = ap (λ (k : List ℕ). b ∷ k) t.joined;
      front_like = ap₂ (λ (m : ℕ) (k : List ℕ). m ∷ k) g t.front_like;
      back_like = t.back_like;
    }

-- no other byte is "?", or a star, in the other case
upper_sign : (n b : ℕ) → n < 65 → upper b ≡ n → b ≡ n
upper_sign n b h e = go (leb 97 b) (leb b 122) refl e
  where
    go : (l m : Bool) → leb 97 b ≡ l → cond (l && m) (b - 32) b ≡ n → b ≡ n
    go true true p q = omega (arith, leb-true 97 b p)
    go true false p q = q
    go false m p q = q

like_mark : (q : Bool) (l : List ℕ) → caseless l ≡ mark q → l ≡ mark q
like_mark false [] e = refl
like_mark false (b ∷ l) e = absurd (let z : ◌≡◌ {A = ℕ} 0 1 = cc in omega arith)
like_mark true [] e = absurd (let z : ◌≡◌ {A = ℕ} 0 1 = cc in omega arith)
like_mark true (b ∷ []) e = let f : upper b ≡ query_sign = cc in ap (λ (m : ℕ). m ∷ []) (upper_sign query_sign b (lit< tt) f)
like_mark true (b ∷ d ∷ l) e = absurd (let z : ◌≡◌ {A = ℕ} 0 1 = cc in omega arith)

mark_same : (q : Bool) → caseless (mark q) ≡ mark q
mark_same true = refl
mark_same false = refl

-- a star form spells exactly what is like its bytes
module _ (b : ℕ) (bs : List ℕ) (q : Bool) where
  star_text : caseless (source (t_star b bs q)) ≡ star_sign ∷ (caseless (b ∷ bs) ++ mark q)
  star_text = ap (λ (l : List ℕ). star_sign ∷ l) (caseless_append (b ∷ bs) (mark q) ∙ ap (λ (l : List ℕ). caseless (b ∷ bs) ++ l) (mark_same q))

  pub star_in : (c : List ℕ) → SpellsTree (t_star b bs q) c → caseless c ≡ caseless (source (t_star b bs q))
  star_in c (s_star u e) = ap (λ (l : List ℕ). star_sign ∷ l) (caseless_append u (mark q) ∙ ap₂ (λ (l k : List ℕ). l ++ k) e (mark_same q)) ∙ sym star_text

  pub star_out : (c : List ℕ) → caseless c ≡ caseless (source (t_star b bs q)) → SpellsTree (t_star b bs q) c
  star_out [] e = absurd (let z : ◌≡◌ {A = ℕ} 0 1 = cc in omega arith)
  star_out (a ∷ c) e =
      let f : upper a ∷ caseless c ≡ star_sign ∷ (caseless (b ∷ bs) ++ mark q) = e ∙ star_text in
      let g : upper a ≡ star_sign = cc in
      let t = parted (b ∷ bs) (mark q) c (let h : caseless c ≡ caseless (b ∷ bs) ++ mark q = cc in h) in
      let m : a ∷ c ≡ star_sign ∷ (t.front ++ mark q) = ap₂ (λ (n : ℕ) (k : List ℕ). n ∷ k) (upper_sign star_sign a (lit< tt) g)
      (t.joined ∙ ap (λ (k : List ℕ). t.front ++ k) (like_mark q t.back t.back_like)) in
      subst (λ (l : List ℕ). SpellsTree (t_star b bs q) l) (sym m) (s_star t.front t.front_like)

-- comparing all of p with all of c
pub like_starts : (p c : List ℕ) → length p ≡ length c → (r : Bool) → r ≡ starts (part 0 (length p) p) (drop 0 c) → Says r (caseless c ≡ caseless p)
like_starts p c n r e = go r (e ∙ ap (λ (l : List ℕ). starts l c) (ap (λ (m : ℕ). take m p) (sub-zero (length p)) ∙ take-length p))
  where
    go : (r : Bool) → r ≡ starts p c → Says r (caseless c ≡ caseless p)
    go true f =
        let b = begins_starts p c (sym f) in
        let l : length b.spelling ≡ length p = like_length b.spelling p b.like in
        let m : length c ≡ length b.spelling + length b.rest = ap length b.split ∙ length-append b.spelling b.rest in
        let z : b.rest ≡ [] = none b.rest (omega arith) in
        let s : c ≡ b.spelling = b.split ∙ ap (λ (k : List ℕ). b.spelling ++ k) z ∙ append-nil b.spelling in
        ap caseless s ∙ b.like
      where
        none : (l : List ℕ) → length l ≡ 0 → l ≡ []
        none [] e = refl
        none (x ∷ xs) e = absurd (omega arith)
    go false f = λ h.
        let t : starts p c ≡ true = starts_begins p c (record { spelling = c; rest = []; split = sym (append-nil c); like = h }) in
        absurd (let z : ◌≡◌ {A = ℕ} 0 1 = cc in omega arith)

-- both forms begin with the short one's bytes: where the command does not, nothing is spelled
pub first_short : (w : Word) (r : Row) (q : Bool) (c : List ℕ) → SpellsTree (t_path w r q) c → starts (short w) c ≡ true
first_short w r q c (s_path {u = u} {v = v} a b) = starts_begins (short w) (u ++ (v ++ mark q)) (go a)
  where
    go : SpellsWord w u → Begins (short w) (u ++ (v ++ mark q))
    go (in_short e) = record { spelling = u; rest = v ++ mark q; split = refl; like = e }
    go (in_long e) =
        let t = parted (short w) (caseless w.smalls) u (e ∙ caseless_append (short w) w.smalls) in
        record {
          spelling = t.front;
          rest = t.back ++ (v ++ mark q);
          split = ap (λ (k : List ℕ). k ++ (v ++ mark q)) t.joined ∙ append_assoc t.front t.back (v ++ mark q);
          like = t.front_like;
        }

-- a spelling is no longer than the pattern
word_length : (w : Word) (u : List ℕ) → SpellsWord w u → length u ≤ length (long w)
word_length w u (in_short e) =
    let l : length u ≡ length (short w) = like_length u (short w) e in
    let m : length (long w) ≡ length (short w) + length w.smalls = length-append (short w) w.smalls in
    omega arith
word_length w u (in_long e) = let l : length u ≡ length (long w) = like_length u (long w) e in omega arith

row_length : (r : Row) (u : List ℕ) → SpellsRow r u → length u ≤ length (text r)
row_length r u s_none = omega arith
row_length r x (s_word {w = w} {r = t} {u = u} {v = v} a b) =
    let h : length u ≤ length (long w) = word_length w u a in
    let k : length v ≤ length (text t) = row_length t v b in
    let l : length (u ++ v) ≡ length u + length v = length-append u v in
    let m : length (long w ++ text t) ≡ length (long w) + length (text t) = length-append (long w) (text t) in
    omega arith
row_length r x (s_kept {s = s} {r = t} {u = u} {v = v} a b) =
    let h : length u ≤ length (text s) = row_length s u a in
    let k : length v ≤ length (text t) = row_length t v b in
    let l : length (u ++ v) ≡ length u + length v = length-append u v in
    let m : length (text s ++ (93 ∷ text t)) ≡ length (text s) + suc (length (text t)) = length-append (text s) (93 ∷ text t) in
    omega arith
row_length r v (s_dropped {s = s} {r = t} b) =
    let k : length v ≤ length (text t) = row_length t v b in
    let m : length (text s ++ (93 ∷ text t)) ≡ length (text s) + suc (length (text t)) = length-append (text s) (93 ∷ text t) in
    omega arith

pub tree_length : (t : Tree) (c : List ℕ) → SpellsTree t c → length c ≤ length (source t)
tree_length t c (s_path {w = w} {r = r} {q = q} {u = u} {v = v} a b) =
    let h : length u ≤ length (long w) = word_length w u a in
    let k : length v ≤ length (text r) = row_length r v b in
    let l : length (u ++ (v ++ mark q)) ≡ length u + (length v + length (mark q)) = simp length-append in
    let m : length (text r ++ mark q) ≡ length (text r) + length (mark q) = length-append (text r) (mark q) in
    let n : length (long w ++ (text r ++ mark q)) ≡ length (long w) + length (text r ++ mark q) = length-append (long w) (text r ++ mark q) in
    omega arith
tree_length t c (s_star {b = b} {bs = bs} {q = q} u e) =
    let h : length u ≡ length (b ∷ bs) = like_length u (b ∷ bs) e in
    simp length-append (omega arith)

-- what the two ways of matching say, of a pattern read as a path, and of a star form
abbrev pub PathSays : List ℕ → List ℕ → Bool → Type 0
PathSays p c b = (w : Word) (r : Row) (q : Bool) → Within 0 r → source (t_path w r q) ≡ p → Says b (SpellsTree (t_path w r q) c)

module _ (p c : List ℕ) where
  -- a path begins with a capital, a star form with a star
  path_first : (w : Word) (r : Row) (q : Bool) → source (t_path w r q) ≡ p → Capital (get_or p 0 0)
  path_first w r q e = subst (λ (l : List ℕ). Capital (get_or l 0 0)) e w.is_capital

  star_first : (b : ℕ) (bs : List ℕ) (q : Bool) → source (t_star b bs q) ≡ p → get_or p 0 0 ≡ star_sign
  star_first b bs q e = subst (λ (l : List ℕ). get_or l 0 0 ≡ star_sign) e refl

  says_path : (b : Bool) → (get_or p 0 0 ≡ star_sign → ⊥) → PathSays p c b → GoodPattern p → Says b (Spells p c)
  says_path true n f g = yes g.pattern.tree g.pattern.fine g.pattern.same
    where
      yes : (t : Tree) → Fine t → source t ≡ p → Spells p c
      yes (t_path w r q) h e = record { tree = t_path w r q; fine = h; same = e; spelled = f w r q h e }
      yes (t_star a bs q) h e = absurd (n (star_first a bs q e))
  says_path false n f g = λ s. no s.tree s.fine s.same s.spelled
    where
      no : (t : Tree) → Fine t → source t ≡ p → SpellsTree t c → ⊥
      no (t_path w r q) h e s = f w r q h e s
      no (t_star a bs q) h e s = n (star_first a bs q e)

  -- of one that spells nothing it need not be asked whether it is good
  pub path_refused : (get_or p 0 0 ≡ star_sign → ⊥) → PathSays p c false → Matches p c → ⊥
  path_refused n f m = says_path false n f m.good m.spells

  path_matches : (b : Bool) → (get_or p 0 0 ≡ star_sign → ⊥) → PathSays p c b → GoodPattern p → Says b (Matches p c)
  path_matches true n f g = record { good = g; spells = says_path true n f g }
  path_matches false n f g = path_refused n f

  pub says_star : (b : Bool) → get_or p 0 0 ≡ star_sign → Says b (caseless c ≡ caseless p) → GoodPattern p → Says b (Spells p c)
  says_star true n f g = yes g.pattern.tree g.pattern.fine g.pattern.same
    where
      yes : (t : Tree) → Fine t → source t ≡ p → Spells p c
      yes (t_path w r q) h e = absurd (let k : Capital (get_or p 0 0) = path_first w r q e in omega arith)
      yes (t_star a bs q) h e = record { tree = t_star a bs q; fine = h; same = e; spelled = star_out a bs q c (f ∙ ap caseless (sym e)) }
  says_star false n f g = λ s. no s.tree s.fine s.same s.spelled
    where
      no : (t : Tree) → Fine t → source t ≡ p → SpellsTree t c → ⊥
      no (t_path w r q) h e s = let k : Capital (get_or p 0 0) = path_first w r q e in omega arith
      no (t_star a bs q) h e s = f (star_in a bs q c s ∙ ap caseless e)

  -- no pattern is empty or longer than 128, and none spells a command longer than itself
  pub says_long : 128 < length p → GoodPattern p → Spells p c → ⊥
  says_long l g s = omega (arith, g.fits)

  pub says_longer : 128 < length c → GoodPattern p → Spells p c → ⊥
  says_longer l g s = omega (arith, g.fits, tree_length s.tree c s.spelled, ap length s.same)

  pub says_empty : length p ≡ 0 → GoodPattern p → Spells p c → ⊥
  says_empty l g s = go s.tree s.same
    where
      go : (t : Tree) → source t ≡ p → ⊥
      go (t_path w r q) e = omega (arith, ap length e)
      go (t_star a bs q) e = omega (arith, ap length e)

-- a path, read and walked along
module _ (p c : List ℕ) (m e : ℕ) (s t : List ℕ) (to : ℕ) (u : List ℕ)
    (em : m ≡ 0 + leading 65 90 (drop 0 p)) (ee : e ≡ m + leading 97 122 (drop m p)) (le : e ≤ length p)
    (origin : (j : ℕ) → On s j ↔ (j ≡ 0)) (step : (k : ℕ) → On t k ↔ (Lands (part 0 m p) c s k ⊎ Lands (part 0 e p) c s k)) (walk : Walked 0 p e c t to u) where
  module _ (w : Word) (r : Row) (q : Bool) (h : Within 0 r) (same : source (t_path w r q) ≡ p) where
    ends : (q : Bool) → Ends (mark q)
    ends true = inl refl
    ends false = tt

    here : drop 0 p ≡ long w ++ (text r ++ mark q)
    here = sym same

    nl : NoLetter (text r ++ mark q)
    nl = no_letter r (mark q) (ends q)

    walked : (to ≤ length p) × (drop to p ≡ mark q) × ((j : ℕ) → On u j ↔ Reach r c t j)
    walked = walk.row le r (mark q) h (ends q) (behind_word p 0 w (text r ++ mark q) here nl m em e ee)

    stepped : (k : ℕ) → On t k ↔ (Lands (short w) c s k ⊎ Lands (long w) c s k)
    stepped =
        let ps : part 0 m p ≡ short w = part_short p 0 w (text r ++ mark q) here nl m em e ee 0 [] here refl in
        let pl : part 0 e p ≡ long w = part_long p 0 w (text r ++ mark q) here nl m em e ee 0 [] here refl in
        subst (λ (a : List ℕ). (k : ℕ) → On t k ↔ (Lands (short w) c s k ⊎ Lands a c s k)) pl (subst (λ (a : List ℕ). (k : ℕ) → On t k ↔ (Lands a c s k ⊎ Lands (part 0 e p) c s k)) ps step)

    left : length p - to ≡ length (mark q)
    left = sym (length-drop to p) ∙ ap length walked.1

  says_plain : to ≡ length p → (b : Bool) → Says b (On u (length c)) → PathSays p c b
  says_plain l b y w r true h same = absurd (omega (arith, left w r true h same))
  says_plain l b y w r false h same = says_as b y (on_plain w r c s t u origin (stepped w r false h same) (walked w r false h same).2)

  says_asked : to + 1 ≡ length p → (b : Bool) → Says b ((0 < length c) × (get_or c (length c - 1) 0 ≡ query_sign) × On u (length c - 1)) → PathSays p c b
  says_asked l b y w r true h same = says_as b y (on_asked w r c s t u origin (stepped w r true h same) (walked w r true h same).2)
  says_asked l b y w r false h same = absurd (omega (arith, left w r false h same))

  says_behind : (to ≡ length p → ⊥) → (to + 1 ≡ length p → get_or p to 0 ≡ query_sign → ⊥) → PathSays p c false
  says_behind f g w r true h same = λ s.
      let x = walked w r true h same in
      let l : to + 1 ≡ length p = omega (arith, left w r true h same, x.0) in
      let d : get_or p to 0 ∷ drop (suc to) p ≡ query_sign ∷ [] = sym (drop-cons p to 0 (omega arith)) ∙ x.1 in
      g l (let b : get_or p to 0 ≡ query_sign = cc in b)
  says_behind f g w r false h same = λ s. let x = walked w r false h same in f (omega (arith, left w r false h same, x.0))

  -- what the walk read up to a good end is a good pattern
  module _ (fits : length p ≤ 128) (some : 0 < m) (n : get_or p 0 0 ≡ star_sign → ⊥) where
    read_whole : PathRead 0 p e (Ok to) → EndRead p to good → GoodPattern p
    read_whole x f =
        let l : m ≤ e = omega arith in
        subst (Verdict p) (whole_end p (omega arith) n e (word_on p 0 m em e some (omega arith) ee le) to x good f) (verdict_short p fits)

    -- the pattern ended with the row
    pub matches_plain : to ≡ length p → (b : Bool) → Says b (On u (length c)) → Says b (Matches p c)
    matches_plain l b y =
        let g : length p ≤ to = omega arith in
        let h : to ≤ length p = omega arith in
        path_matches p c b n (says_plain l b y) (read_whole (walk.onward, h, (path_end 0 p to h g).2, walk.read h) (end_good p to g))

    -- "?" is left
    pub matches_asked : to + 1 ≡ length p → get_or p to 0 ≡ query_sign → (b : Bool) → Says b ((0 < length c) × (get_or c (length c - 1) 0 ≡ query_sign) × On u (length c - 1)) → Says b (Matches p c)
    matches_asked l q b y =
        let g : to < length p = omega arith in
        let h : to ≤ length p = omega arith in
        path_matches p c b n (says_asked l b y) (read_whole (walk.onward, h, (path_stay 0 p to g (λ z. omega arith) (λ z. omega arith)).2, walk.read h) (end_asked p to g q (omega arith)))

    -- something else is left, or the walk found the pattern bad
    pub matches_none : (to ≡ length p → ⊥) → (to + 1 ≡ length p → get_or p to 0 ≡ query_sign → ⊥) → Matches p c → ⊥
    matches_none f g = path_refused p c n (says_behind f g)

-- the command does not begin with the pattern's capitals
pub says_other : (p c : List ℕ) (m : ℕ) → m ≡ 0 + leading 65 90 (drop 0 p) → starts (part 0 m p) (drop 0 c) ≡ false → PathSays p c false
says_other p c m em n w r q h same = λ s.
    let here : drop 0 p ≡ long w ++ (text r ++ mark q) = sym same in
    let nl : NoLetter (text r ++ mark q) = no_letter r (mark q) (ends q) in
    let ps : part 0 m p ≡ short w = part_short p 0 w (text r ++ mark q) here nl m em (m + leading 97 122 (drop m p)) refl 0 [] here refl in
    let f : starts (short w) c ≡ true = first_short w r q c s in
    let g : starts (short w) c ≡ false = ap (λ (l : List ℕ). starts l c) (sym ps) ∙ n in
    absurd (let k : ◌≡◌ {A = ℕ} 0 1 = cc in omega arith)
  where
    ends : (q : Bool) → Ends (mark q)
    ends true = inl refl
    ends false = tt

-- no capital begins the pattern
pub says_none : (p c : List ℕ) → 0 ≡ 0 + leading 65 90 (drop 0 p) → PathSays p c false
unfolding leading
says_none p c e w r q h same = λ s.
    let f : leading 65 90 p ≡ suc (leading 65 90 ((w.capitals ++ w.smalls) ++ (text r ++ mark q))) = ap (leading 65 90) (sym same) ∙ rw (between_yes 65 90 w.capital w.is_capital) in
    omega arith
