-- Laws of what specs/Refusing.antt defines. Assumes nothing.
use Rattle.std.specs.Prelude.{◌≡◌, ◌↔◌, Bool, cond, ◌||◌, ℕ, zero, suc, ◌+◌, ◌-◌, ◌≤◌, ◌<◌, min, length, take}
use Rattle.std.proofs.Math.Path.{refl, sym, ap}
use Rattle.std.proofs.Common.{subst, ◌∙◌, inl, ⊎_elim, drop_of_length-le, length-take, drop-cons, drop-drop}
use Rattle.std.proofs.Math.Logic.{Iff.trans as iff_trans}
use Rattle.std.proofs.Math.Bool.{true, false, not}
use mathlib.Core.List.{List, [], ◌∷◌}
use Rattle.std.proofs.Math.Nat.{sub-zero}
use Rattle.std.proofs.Math.Numerals.{add-one}
use native.Mathlib.Omega.{arith}
use Rattle.std.proofs.Math.Dec.{eqb}
use Rattle.std.proofs.Math.ListN.{get_or, drop}
use Rattle.std.proofs.Math.Seq.{get_or-drop}
use borrow.Author.Tests.{eq-eqb, ne_eqb, eqb-true}
use Rattle.scpi.specs.Answers.{lt_or_ge, untrue}
use Rattle.scpi.specs.Bytes.{Capital, between, upper}
use Rattle.scpi.specs.Words.{part, between_true}
use Rattle.commands.specs.Spelling.{Matches}
use Rattle.commands.specs.Lists.{lines_of, line_length, Allows}
use Rattle.commands.specs.Whole.{says_empty}
use Rattle.commands.specs.Lines.{lines_end, allows_rest}
use Rattle.commands.proofs.Lines.{lines_next}
use Rattle.commands.specs.Refusing.{opens, Shut, behind, Fits, line_fits, same_allows, behind_newline}

-- a second byte that fits passes its test
third : (x g : ℕ) → (Capital x → x ≡ g) → (eqb x g || not (between 65 90 x)) ≡ true
third x g h = go (between 65 90 x) refl (eqb x g) refl
  where
    go : (t : Bool) → between 65 90 x ≡ t → (e : Bool) → eqb x g ≡ e → (e || not t) ≡ true
    go true p true q = refl
    go true p false q = untrue (sym q ∙ eq-eqb x g (h (between_true 65 90 x p)))
    go false p true q = refl
    go false p false q = refl

nothing_behind : behind [] ≡ []
unfolding lines_of
nothing_behind = refl

-- lines, and what is behind them
module _ (s c : List ℕ) where
  behind_byte : (i : ℕ) → i < length s → (get_or s i 0 ≡ 10 → ⊥) → behind (drop i s) ≡ behind (drop (i + 1) s)
  unfolding line_length
  behind_byte i l b =
      let d : drop i s ≡ get_or s i 0 ∷ drop (i + 1) s = rw add-one (drop-cons s i 0 l) in
      rw (d, ne_eqb _ _ b)

  -- the line from `at` on, up to e
  module _ (at e : ℕ) (ends : e ≡ at + line_length (drop at s)) where
    line_behind : (l : List ℕ) → behind (drop (line_length l) l) ≡ behind l
    unfolding line_length
    line_behind [] = refl
    line_behind (x ∷ l) = go (eqb x 10) refl (line_behind l)
      where
        go : (t : Bool) → eqb x 10 ≡ t → behind (drop (line_length l) l) ≡ behind l →
            behind (drop (cond t 0 (suc (line_length l))) (x ∷ l)) ≡ lines_of (drop (suc (cond t 0 (suc (line_length l)))) (x ∷ l))
        go true h k = rw h
        go false h k = k

    same_behind : behind (drop e s) ≡ behind (drop at s)
    same_behind = ap behind (ap (λ (x : ℕ). drop x s) ends ∙ sym (drop-drop (line_length (drop at s)) at s)) ∙ line_behind (drop at s)

    first_line : at < length s → lines_of (drop at s) ≡ part at e s ∷ behind (drop e s)
    first_line l =
        let m : at + suc (line_length (drop at s)) ≡ e + 1 = omega arith in
        lines_next s at e l ends ∙ ap (λ (x : List (List ℕ)). part at e s ∷ x) (ap lines_of (sym (drop-drop (suc (line_length (drop at s))) at s ∙ ap (λ (x : ℕ). drop x s) m)) ∙ sym same_behind)

    pub line_matched : at < length s → Matches (part at e s) c → Allows (lines_of (drop at s)) c
    line_matched l m = subst (λ (x : List (List ℕ)). Allows x c) (sym (first_line l)) (inl m)

    pub line_refused : (Matches (part at e s) c → ⊥) → Allows (lines_of (drop at s)) c ↔ Allows (behind (drop e s)) c
    line_refused n = ⊎_elim
        (λ (l : at < length s). allows_rest (lines_of (drop at s)) (part at e s) (behind (drop e s)) c (first_line l) n)
        (λ (l : length s ≤ at). iff_trans (same_allows s c _ _ (lines_end s at l))
        (same_allows s c [] (behind (drop e s)) (sym (ap behind (drop_of_length-le s (let k : length s ≤ e = omega arith in k)) ∙ nothing_behind))))
        (lt_or_ge at (length s))

  -- the first line of all
  module _ (e : ℕ) (ends : e ≡ 0 + line_length (drop 0 s)) where
    pub first_matched : Matches (take e s) c → Allows (lines_of s) c
    first_matched m = ⊎_elim
        (λ (l : 0 < length s). line_matched 0 e ends l (subst (λ (x : ℕ). Matches (take x s) c) (sym (sub-zero e)) m))
        (λ (l : length s ≤ 0). let n : length (take e s) ≡ 0 = let d : length (take e s) ≡ min e (length s) = length-take e s in omega arith in
        absurd (says_empty (take e s) c n m.good m.spells))
        (lt_or_ge 0 (length s))

    first_refused : (Matches (take e s) c → ⊥) → Allows (lines_of s) c ↔ Allows (behind (drop e s)) c
    first_refused n = line_refused 0 e ends (λ m. n (subst (λ (x : ℕ). Matches (take x s) c) (sub-zero e) m))

    pub first_passed : (Matches (take e s) c → ⊥) → Allows (lines_of s) c ↔ Allows (behind s) c
    first_passed n = iff_trans (first_refused n) (same_allows s c _ _ (same_behind 0 e ends))

  pub first_empty : length s ≡ 0 → Allows (lines_of s) c ↔ Allows (behind s) c
  first_empty z =
      let n : ℕ = 0 + line_length (drop 0 s) in
      let d : length (take n s) ≡ min n (length s) = length-take n s in
      let y : length (take n s) ≡ 0 = omega arith in
      first_passed n refl (λ m. says_empty (take n s) c y m.good m.spells)

  -- it begins with another byte
  pub first_other : (f : ℕ) → f ≡ upper (get_or c 0 0) → (get_or s 0 0 ≡ f → ⊥) → Allows (lines_of s) c ↔ Allows (behind s) c
  first_other f ef n =
      let e : 0 + line_length s ≡ line_length s = omega arith in
      first_passed (0 + line_length (drop 0 s)) refl (λ m. n ((line_fits s c (subst (λ (x : ℕ). Matches (take x s) c) e m)).0 ∙ sym ef))

  -- or its second byte is another capital
  pub first_second : (g : ℕ) → g ≡ upper (get_or c 1 0) → Capital (get_or s 1 0) → (get_or s 1 0 ≡ g → ⊥) → Allows (lines_of s) c ↔ Allows (behind s) c
  first_second g eg k n =
      let e : 0 + line_length s ≡ line_length s = omega arith in
      first_passed (0 + line_length (drop 0 s)) refl (λ m. n ((line_fits s c (subst (λ (x : ℕ). Matches (take x s) c) e m)).1 k ∙ sym eg))

module _ (s c : List ℕ) (f g : ℕ) (ef : f ≡ upper (get_or c 0 0)) (eg : g ≡ upper (get_or c 1 0)) where
  -- a line that place i does not open matches nothing
  refused : (i : ℕ) → get_or s i 0 ≡ 10 → opens s i f g ≡ false → Matches (take (line_length (drop (i + 1) s)) (drop (i + 1) s)) c → ⊥
  unfolding opens
  refused i b o m =
      let h : Fits (drop (i + 1) s) c = line_fits (drop (i + 1) s) c m in
      let a : get_or (drop (i + 1) s) 0 0 ≡ get_or s (i + 1) 0 = get_or-drop (i + 1) s 0 0 ∙ ap (λ (n : ℕ). get_or s n 0) (let e : i + 1 + 0 ≡ i + 1 = omega arith in e) in
      let a' : get_or (drop (i + 1) s) 1 0 ≡ get_or s (i + 2) 0 = get_or-drop (i + 1) s 1 0 ∙ ap (λ (n : ℕ). get_or s n 0) (let e : i + 1 + 1 ≡ i + 2 = omega arith in e) in
      let x : eqb (get_or s i 0) 10 ≡ true = eq-eqb _ _ b in
      let y : eqb (get_or s (i + 1) 0) f ≡ true = eq-eqb _ _ (sym a ∙ h.0 ∙ sym ef) in
      let z : (eqb (get_or s (i + 2) 0) g || not (between 65 90 (get_or s (i + 2) 0))) ≡ true = third (get_or s (i + 2) 0) g (λ p. sym a' ∙ h.1 (rw a' p) ∙ sym eg) in
      untrue (sym o ∙ rw (x, y, z))

  -- a place that opens no line is passed
  passed_line : (i : ℕ) → get_or s i 0 ≡ 10 → i + 1 < length s → opens s i f g ≡ false → Allows (lines_of (drop (i + 1) s)) c ↔ Allows (behind (drop (i + 1) s)) c
  passed_line i b l o =
      let n : ℕ = line_length (drop (i + 1) s) in
      let e : lines_of (drop (i + 1) s) ≡ part (i + 1) (i + 1 + n) s ∷ lines_of (drop (i + 1 + n + 1) s) = lines_next s (i + 1) (i + 1 + n) l refl in
      let k : i + 1 + n - (i + 1) ≡ n = omega arith in
      let m : i + 1 + suc n ≡ i + 1 + n + 1 = omega arith in
      let d : drop (suc n) (drop (i + 1) s) ≡ drop (i + 1 + n + 1) s = drop-drop (suc n) (i + 1) s ∙ ap (λ (x : ℕ). drop x s) m in
      let r = allows_rest (lines_of (drop (i + 1) s)) (part (i + 1) (i + 1 + n) s) (lines_of (drop (i + 1 + n + 1) s)) c e
      (λ h. refused i b o (subst (λ (x : ℕ). Matches (take x (drop (i + 1) s)) c) k h)) in
      subst (λ (x : List ℕ). Allows (lines_of (drop (i + 1) s)) c ↔ Allows (lines_of x) c) (sym d) r

  pass : (i : ℕ) → i < length s → opens s i f g ≡ false → Allows (behind (drop i s)) c ↔ Allows (behind (drop (i + 1) s)) c
  pass i l o = go (eqb (get_or s i 0) 10) refl
    where
      go : (t : Bool) → eqb (get_or s i 0) 10 ≡ t → Allows (behind (drop i s)) c ↔ Allows (behind (drop (i + 1) s)) c
      go true e =
          let b : get_or s i 0 ≡ 10 = eqb-true _ _ e in
          iff_trans (same_allows s c _ _ (behind_newline s c i l b)) (⊎_elim
          (λ (k : i + 1 < length s). passed_line i b k o)
          (λ (k : length s ≤ i + 1). let d : drop (i + 1) s ≡ [] = drop_of_length-le s k in subst (λ (x : List ℕ). Allows (lines_of x) c ↔ Allows (behind x) c) (sym d) (λ h. h, λ h. h))
          (lt_or_ge (i + 1) (length s)))
      go false e = same_allows s c _ _ (behind_byte s c i l (λ b. untrue (sym e ∙ eq-eqb _ _ b)))

  shut_passed : (n a : ℕ) → a + n ≤ length s → Shut s f g a (a + n) → Allows (behind (drop a s)) c ↔ Allows (behind (drop (a + n) s)) c
  shut_passed zero a l h = same_allows s c _ _ (ap (λ (x : ℕ). behind (drop x s)) (let e : a ≡ a + 0 = omega arith in e))
  shut_passed (suc n) a l h =
      let e : a + 1 + n ≡ a + suc n = omega arith in
      iff_trans (pass a (omega arith) (h a (omega arith) (omega arith)))
      (iff_trans (shut_passed n (a + 1) (omega arith) (λ k p q. h k (omega arith) (omega arith)))
      (same_allows s c _ _ (ap (λ (x : ℕ). behind (drop x s)) e)))

  pub moved : (e r : ℕ) → e ≤ r → r ≤ length s → Shut s f g e r → Allows (behind (drop e s)) c ↔ Allows (behind (drop r s)) c
  moved e r l k h =
      let n : e + (r - e) ≡ r = omega arith in
      subst (λ (x : ℕ). Allows (behind (drop e s)) c ↔ Allows (behind (drop x s)) c) n (shut_passed (r - e) e (omega arith) (subst (λ (x : ℕ). Shut s f g e x) (sym n) h))
