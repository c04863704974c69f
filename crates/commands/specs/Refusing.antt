-- A pattern that matches a command has its first byte, and its second where that is a capital: by these two most lines of a list are refused. Assumes nothing.
use Rattle.std.specs.Prelude.{◌≡◌, ◌⊎◌, ◌↔◌, Bool, cond, ◌&&◌, ◌||◌, ℕ, suc, ◌+◌, ◌-◌, ◌≤◌, ◌<◌, length, take}
use Rattle.std.proofs.Math.Path.{refl, sym, ap}
use Rattle.std.proofs.Common.{subst, ◌∙◌, inl, inr, ⊎_elim, take-append-drop, length-drop, drop-cons}
use Rattle.std.proofs.Math.Bool.{true, false, not}
use mathlib.Core.List.{List, [], ◌∷◌, ◌++◌}
use Rattle.std.proofs.Math.Numerals.{add-one}
use native.Mathlib.Omega.{arith}
use Rattle.std.proofs.Math.Dec.{eqb}
use Rattle.std.proofs.Math.ListN.{get_or, drop, get_or-eq_default}
use borrow.Author.Tests.{eq-eqb, ne_eqb, eqb-true}
use Rattle.scpi.specs.Answers.{lt_or_ge, untrue}
use Rattle.scpi.specs.Bytes.{Capital, Small, All, between, upper, caseless}
use Rattle.scpi.specs.Grammar.{Word, short, long, Row, Row.r_none, Row.r_word, Row.r_bracket, text, mark, Tree, Tree.t_path, Tree.t_star, source, Fine}
use Rattle.scpi.specs.Words.{between_no}
use Rattle.commands.specs.Spelling.{SpellsWord, SpellsWord.in_short, SpellsWord.in_long, SpellsTree, SpellsTree.s_path, SpellsTree.s_star, Matches}
use Rattle.commands.specs.Lists.{lines_of, line_length, Allows}
use Rattle.commands.specs.Lines.{lines_end}

-- there is a newline at i, and the byte behind it is f
unfoldable pub begins : List ℕ → ℕ → ℕ → Bool
begins s i f = eqb (get_or s i 0) 10 && eqb (get_or s (i + 1) 0) f

-- and the one behind that is g or no capital
unfoldable pub opens : List ℕ → ℕ → ℕ → ℕ → Bool
opens s i f g = (eqb (get_or s i 0) 10 && eqb (get_or s (i + 1) 0) f) && (eqb (get_or s (i + 2) 0) g || not (between 65 90 (get_or s (i + 2) 0)))

module _ (s : List ℕ) (i f g : ℕ) where
  pub opens_newline : opens s i f g ≡ true → get_or s i 0 ≡ 10
  unfolding opens
  opens_newline e = go (eqb (get_or s i 0) 10) refl e
    where
      go : (t : Bool) → eqb (get_or s i 0) 10 ≡ t → ((t && eqb (get_or s (i + 1) 0) f) && (eqb (get_or s (i + 2) 0) g || not (between 65 90 (get_or s (i + 2) 0)))) ≡ true → get_or s i 0 ≡ 10
      go true h k = eqb-true _ _ h
      go false h k = untrue k

  module _ (a : get_or s i 0 ≡ 10) (b : get_or s (i + 1) 0 ≡ f) where
    two : opens s i f g ≡ (eqb (get_or s (i + 2) 0) g || not (between 65 90 (get_or s (i + 2) 0)))
    unfolding opens
    two = rw (eq-eqb _ _ a, eq-eqb _ _ b)

    or_true : (t : Bool) → (t || true) ≡ true
    or_true true = refl
    or_true false = refl

    pub opens_last : length s ≤ i + 2 → opens s i f g ≡ true
    opens_last l = two ∙ ap (λ (x : ℕ). eqb x g || not (between 65 90 x)) (get_or-eq_default s 0 l) ∙ or_true (eqb 0 g)

    pub opens_second : get_or s (i + 2) 0 ≡ g → opens s i f g ≡ true
    opens_second e = two ∙ rw (eq-eqb _ _ e)

    pub opens_other : (get_or s (i + 2) 0 ≡ g → ⊥) → opens s i f g ≡ not (between 65 90 (get_or s (i + 2) 0))
    opens_other e = two ∙ rw (ne_eqb _ _ e)

-- no place from a up to e does
abbrev pub Shut : List ℕ → ℕ → ℕ → ℕ → ℕ → Type 0
Shut s f g a e = (k : ℕ) → a ≤ k → k < e → opens s k f g ≡ false

pub shut_none : (s : List ℕ) (f g a : ℕ) → Shut s f g a (a + 0)
shut_none s f g a k l h = absurd (omega arith)

pub shut_nothing : (s : List ℕ) (f g a : ℕ) → Shut s f g a a
shut_nothing s f g a k l h = absurd (omega arith)

pub shut_one : (s : List ℕ) (f g a e : ℕ) → Shut s f g a e → opens s e f g ≡ false → Shut s f g a (e + 1)
shut_one s f g a e h o k l m = ⊎_elim (λ (x : k < e). h k l x) (λ (x : e ≤ k). let q : k ≡ e = omega arith in ap (λ (i : ℕ). opens s i f g) q ∙ o) (lt_or_ge k e)

pub shut_join : (s : List ℕ) (f g a b e : ℕ) → Shut s f g a b → Shut s f g b e → Shut s f g a e
shut_join s f g a b e h j k l m = ⊎_elim (λ (x : k < b). h k l x) (λ (x : b ≤ k). j k x m) (lt_or_ge k b)

-- nothing was found, and nothing is
pub shut_more : (s : List ℕ) (f g a n : ℕ) (t : Bool) → (t || opens s (a + n) f g) ≡ false → (t ≡ false → Shut s f g a (a + n)) → Shut s f g a (a + (n + 1))
shut_more s f g a n true e h = untrue (sym e)
shut_more s f g a n false e h = let q : a + n + 1 ≡ a + (n + 1) = omega arith in subst (λ (i : ℕ). Shut s f g a i) q (shut_one s f g a (a + n) (h refl) e)

-- the same, by the first byte alone
begins_not : (s : List ℕ) (i f g : ℕ) → begins s i f ≡ false → opens s i f g ≡ false
unfolding opens begins
begins_not s i f g e = rw e

pub bare_more : (s : List ℕ) (f a n : ℕ) (t : Bool) → (t || begins s (a + n) f) ≡ false → (t ≡ false → (g : ℕ) → Shut s f g a (a + n)) → (g : ℕ) → Shut s f g a (a + (n + 1))
bare_more s f a n true e h g = untrue (sym e)
bare_more s f a n false e h g = let q : a + n + 1 ≡ a + (n + 1) = omega arith in subst (λ (i : ℕ). Shut s f g a i) q (shut_one s f g a (a + n) (h refl g) (begins_not s (a + n) f g e))

-- the lines behind the first newline
abbrev pub behind : List ℕ → List (List ℕ)
behind s = lines_of (drop (suc (line_length s)) s)

-- a capital is its own
upper_capital : (b : ℕ) → Capital b → upper b ≡ b
upper_capital b h = ap (λ (t : Bool). cond t (b - 32) b) (between_no 97 122 b (λ z. omega (arith, h.1, z.0)))

-- the first two bytes of what is like a list
like_first : (u z : List ℕ) (x : ℕ) (xs : List ℕ) → caseless u ≡ upper x ∷ xs → upper (get_or (u ++ z) 0 0) ≡ upper x
like_first [] z x xs e = absurd (let k : ◌≡◌ {A = ℕ} 0 1 = cc in omega arith)
like_first (a ∷ u) z x xs e = let f : upper a ≡ upper x = cc in f

like_second : (u z : List ℕ) (x y : ℕ) (ys : List ℕ) → caseless u ≡ upper x ∷ upper y ∷ ys → upper (get_or (u ++ z) 1 0) ≡ upper y
like_second [] z x y ys e = absurd (let k : ◌≡◌ {A = ℕ} 0 1 = cc in omega arith)
like_second (a ∷ []) z x y ys e = absurd (let k : ◌≡◌ {A = ℕ} 0 1 = cc in omega arith)
like_second (a ∷ b ∷ u) z x y ys e = let f : upper b ≡ upper y = cc in f

-- a line's bytes, l, may be those of a pattern that spells the command
abbrev pub Fits : List ℕ → List ℕ → Type 0
Fits l c = (get_or l 0 0 ≡ upper (get_or c 0 0)) × (Capital (get_or l 1 0) → get_or l 1 0 ≡ upper (get_or c 1 0))

-- with t behind it, which is nothing or begins with a newline
module _ (t : List ℕ) (newline : (b : ℕ) (k : List ℕ) → t ≡ b ∷ k → b ≡ 10) where
  -- a word of one capital has no capital behind it
  bare_tail : (z : List ℕ) → t ≡ z → Capital (get_or z 0 0) → ⊥
  bare_tail [] e h = omega (arith, h.0)
  bare_tail (b ∷ k) e h = let f : b ≡ 10 = newline b k e in omega (arith, h.0)

  bare : (ss : List ℕ) → All Small ss → (r : Row) (q : Bool) → Capital (get_or ((ss ++ (text r ++ mark q)) ++ t) 0 0) → ⊥
  bare [] a r_none true h = omega (arith, h.1, h.0)
  bare [] a r_none false h = bare_tail t refl h
  bare [] a (r_word w r) q h = omega (arith, h.0)
  bare [] a (r_bracket s r) q h = omega (arith, h.1)
  bare (x ∷ xs) a r q h = omega (arith, h.1, a.0.0)

  fits_word : (x : ℕ) (xs ss : List ℕ) → Capital x → All Capital xs → All Small ss → (r : Row) (q : Bool) (u z : List ℕ) → (caseless u ≡ caseless (x ∷ xs)) ⊎ (caseless u ≡ caseless ((x ∷ xs) ++ ss))
      → Fits ((((x ∷ xs) ++ ss) ++ (text r ++ mark q)) ++ t) (u ++ z)
  fits_word x [] ss cx cs sm r q u z e = (
    ⊎_elim (λ (f : caseless u ≡ caseless (x ∷ [])). sym (like_first u z x [] f ∙ upper_capital x cx))
        (λ (f : caseless u ≡ caseless ((x ∷ []) ++ ss)). sym (like_first u z x (caseless ss) f ∙ upper_capital x cx)) e,
    λ h. absurd (bare ss sm r q h),
  )
  fits_word x (y ∷ ys) ss cx cs sm r q u z e = (
    ⊎_elim (λ (f : caseless u ≡ caseless (x ∷ y ∷ ys)). sym (like_first u z x (caseless (y ∷ ys)) f ∙ upper_capital x cx))
        (λ (f : caseless u ≡ caseless ((x ∷ y ∷ ys) ++ ss)). sym (like_first u z x (caseless ((y ∷ ys) ++ ss)) f ∙ upper_capital x cx)) e,
    λ h. ⊎_elim (λ (f : caseless u ≡ caseless (x ∷ y ∷ ys)). sym (like_second u z x y (caseless ys) f ∙ upper_capital y cs.0))
        (λ (f : caseless u ≡ caseless ((x ∷ y ∷ ys) ++ ss)). sym (like_second u z x y (caseless (ys ++ ss)) f ∙ upper_capital y cs.0)) e,
  )

  word_in : (w : Word) (u : List ℕ) → SpellsWord w u → (caseless u ≡ caseless (short w)) ⊎ (caseless u ≡ caseless (long w))
  word_in w u (in_short e) = inl e
  word_in w u (in_long e) = inr e

  fits_tree : (q : Tree) → Fine q → (c : List ℕ) → SpellsTree q c → Fits (source q ++ t) c
  fits_tree (t_path w r q) f c (s_path {u = u} {v = v} a b) = fits_word w.capital w.capitals w.smalls w.is_capital w.are_capitals w.are_small r q u (v ++ mark q) (word_in w u a)
  fits_tree (t_star b bs q) f c (s_star u e) = (refl, λ h. sym (like_first u (mark q) b (caseless bs) e ∙ upper_capital b f.0))

-- what stands behind a line
after_line : (l : List ℕ) (b : ℕ) (k : List ℕ) → drop (line_length l) l ≡ b ∷ k → b ≡ 10
unfolding line_length
after_line [] b k e = absurd (let z : ◌≡◌ {A = ℕ} 0 1 = cc in omega arith)
after_line (x ∷ l) b k e = go (eqb x 10) refl e (after_line l b k)
  where
    go : (t : Bool) → eqb x 10 ≡ t → drop (cond t 0 (suc (line_length l))) (x ∷ l) ≡ b ∷ k → (drop (line_length l) l ≡ b ∷ k → b ≡ 10) → b ≡ 10
    go true h f g = let y : x ≡ b = cc in sym y ∙ eqb-true x 10 h
    go false h f g = g f

pub line_fits : (l c : List ℕ) → Matches (take (line_length l) l) c → Fits l c
line_fits l c m =
    let n : ℕ = line_length l in
    let s = m.spells in
    let h : Fits (source s.tree ++ drop n l) c = fits_tree (drop n l) (after_line l) s.tree s.fine c s.spelled in
    let e : source s.tree ++ drop n l ≡ l = ap (λ (x : List ℕ). x ++ drop n l) s.same ∙ take-append-drop n l in
    subst (λ (x : List ℕ). Fits x c) e h

-- lines, and what is behind them
module _ (s c : List ℕ) where
  pub same_allows : (x y : List (List ℕ)) → x ≡ y → Allows x c ↔ Allows y c
  same_allows x y e = (λ h. subst (λ (z : List (List ℕ)). Allows z c) e h, λ h. subst (λ (z : List (List ℕ)). Allows z c) (sym e) h)

  pub behind_newline : (i : ℕ) → i < length s → get_or s i 0 ≡ 10 → behind (drop i s) ≡ lines_of (drop (i + 1) s)
  unfolding line_length
  behind_newline i l b =
      let d : drop i s ≡ get_or s i 0 ∷ drop (i + 1) s = rw add-one (drop-cons s i 0 l) in
      rw (d, b)

  pub behind_end : (i : ℕ) → length s ≤ i + 1 → Allows (behind (drop i s)) c → ⊥
  behind_end i l h =
      let d : length (drop i s) ≡ length s - i = length-drop i s in
      let e : behind (drop i s) ≡ [] = lines_end (drop i s) (suc (line_length (drop i s))) (omega arith) in
      subst (λ (x : List (List ℕ)). Allows x c) e h
