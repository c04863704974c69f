-- The lines of a text one after the other, a text made of lines, and how long a text that is taken can be. Assumes nothing.
use Rattle.std.specs.Prelude.{◌≡◌, refl, ◌↔◌, Bool, true, false, ◌||◌, eqb, length, take}
use Rattle.std.proofs.Common.{sym, ap, subst, ◌∙◌, inr, ⊎_elim, take-suc}
use mathlib.Core.List.{List, [], ◌∷◌, ◌++◌, append_assoc, append-nil}
use Prim.Native.Nat.{ℕ, suc, ◌+◌, ◌≤◌, ◌<◌}
use Rattle.std.proofs.Math.Numerals.{add-one}
use native.Mathlib.Omega.{arith}
use Rattle.std.proofs.Math.ListN.{get_or, drop, drop_of_length-le}
use Rattle.std.proofs.Math.Seq.{drop-cons}
use borrow.Author.Tests.{eq-eqb, ne_eqb}
use Rattle.scpi.specs.Answers.{untrue}
use Rattle.scpi.specs.Bytes.{All}
use Rattle.commands.specs.Spelling.{Matches}
use Rattle.commands.specs.Lists.{lines_of, line_length, command_of, Allows}

abbrev pub NoNewline : List ℕ → Type 0
NoNewline p = All (λ (b : ℕ). b ≡ 10 → ⊥) p

abbrev pub NoNewlines : List (List ℕ) → Type 0
NoNewlines [] = Unit {0}
NoNewlines (p ∷ ps) = NoNewline p × NoNewlines ps

-- each line with its newline
abbrev pub text_of : List (List ℕ) → List ℕ
text_of [] = []
text_of (p ∷ ps) = p ++ (10 ∷ text_of ps)

pub lines_first : (p s : List ℕ) → NoNewline p → lines_of (p ++ (10 ∷ s)) ≡ p ∷ lines_of s
unfolding lines_of
lines_first [] s h = refl
lines_first (b ∷ p) s h = rw (ne_eqb b 10 h.0, lines_first p s h.1)

pub lines_text : (ps : List (List ℕ)) → NoNewlines ps → lines_of (text_of ps) ≡ ps
unfolding lines_of
lines_text [] h = refl
lines_text (p ∷ ps) h = lines_first p (text_of ps) h.0 ∙ ap (λ (l : List (List ℕ)). p ∷ l) (lines_text ps h.1)

-- ---- a text that is taken has at most 32 lines of 129 bytes

abbrev pub total : List (List ℕ) → ℕ
total [] = 0
total (p ∷ ps) = length p + 1 + total ps

-- ---- the laws of the loops

-- where the line ends
module _ (s : List ℕ) (i : ℕ) where
  pub line_stop : i < length s → get_or s i 0 ≡ 10 → i ≡ i + line_length (drop i s)
  unfolding line_length
  line_stop l e =
      let d : drop i s ≡ get_or s i 0 ∷ drop (suc i) s = drop-cons s i 0 l in
      let f : line_length (drop i s) ≡ 0 = rw (d, e) in
      omega arith

  pub line_more : i < length s → (get_or s i 0 ≡ 10 → ⊥) → i + line_length (drop i s) ≡ i + 1 + line_length (drop (i + 1) s)
  unfolding line_length
  line_more l e =
      let d : drop i s ≡ get_or s i 0 ∷ drop (i + 1) s = rw add-one (drop-cons s i 0 l) in
      let f : line_length (drop i s) ≡ suc (line_length (drop (i + 1) s)) = rw (d, ne_eqb _ _ e) in
      omega arith

  pub line_out : length s ≤ i → i ≡ i + line_length (drop i s)
  unfolding line_length
  line_out l = let d : drop i s ≡ [] = drop_of_length-le s l in rw d (let e : i ≡ i + 0 = omega arith in e)

-- a line, and the lines behind it
-- nothing was found, and nothing is
pub line_clear : (s : List ℕ) (a n : ℕ) (t : Bool) → a + n < length s → (t || eqb (get_or s (a + n) 0) 10) ≡ false →
    (t ≡ false → a + line_length (drop a s) ≡ a + n + line_length (drop (a + n) s)) →
    a + line_length (drop a s) ≡ a + (n + 1) + line_length (drop (a + (n + 1)) s)
line_clear s a n true l e h = untrue (sym e)
line_clear s a n false l e h =
    let q : a + n + 1 ≡ a + (n + 1) = omega arith in
    h refl ∙ line_more s (a + n) l (λ b. untrue (sym e ∙ eq-eqb _ _ b)) ∙ ap (λ (i : ℕ). i + line_length (drop i s)) q

pub lines_end : (s : List ℕ) (at : ℕ) → length s ≤ at → lines_of (drop at s) ≡ []
unfolding lines_of
lines_end s at l = let d : drop at s ≡ [] = drop_of_length-le s l in rw d

-- a list whose first pattern does not match allows what the others allow
pub allows_rest : (ls : List (List ℕ)) (p : List ℕ) (ps : List (List ℕ)) (c : List ℕ) → ls ≡ p ∷ ps → (Matches p c → ⊥) → Allows ls c ↔ Allows ps c
allows_rest ls p ps c e n = (
  λ a. ⊎_elim (λ (x : Matches p c). absurd (n x)) (λ (x : Allows ps c). x) (subst (λ (l : List (List ℕ)). Allows l c) e a),
  λ a. subst (λ (l : List (List ℕ)). Allows l c) (sym e) (inr a),
)

-- ---- the command of a payload

module _ (s : List ℕ) (i : ℕ) (h : i < length s) where
  there : drop i s ≡ get_or s i 0 ∷ drop (i + 1) s
  there = rw add-one (drop-cons s i 0 h)

  pub command_space : get_or s i 0 ≡ 32 → command_of (drop i s) ≡ []
  unfolding command_of
  command_space e = rw (there, eq-eqb _ _ e)

  pub command_line : get_or s i 0 ≡ 10 → command_of (drop i s) ≡ []
  unfolding command_of
  command_line e = rw (there, e)

  pub command_more : (get_or s i 0 ≡ 32 → ⊥) → (get_or s i 0 ≡ 10 → ⊥) → command_of (drop i s) ≡ get_or s i 0 ∷ command_of (drop (i + 1) s)
  unfolding command_of
  command_more f g = rw (there, ne_eqb _ _ f, ne_eqb _ _ g)

pub command_turn : (s : List ℕ) (i : ℕ) → i < length s → (get_or s i 0 ≡ 32 → ⊥) → (get_or s i 0 ≡ 10 → ⊥) → take i s ++ command_of (drop i s) ≡ take (i + 1) s ++ command_of (drop (i + 1) s)
command_turn s i h f g =
    ap (λ (l : List ℕ). take i s ++ l) (command_more s i h f g)
    ∙ sym (append_assoc (take i s) (get_or s i 0 ∷ []) (command_of (drop (i + 1) s)))
    ∙ ap (λ (l : List ℕ). l ++ command_of (drop (i + 1) s)) (sym (take-suc s i 0 h) ∙ ap (λ (m : ℕ). take m s) (sym (add-one i)))

pub command_stop : (s : List ℕ) (i : ℕ) → command_of (drop i s) ≡ [] → take i s ++ command_of (drop i s) ≡ command_of s → take i s ≡ command_of s
command_stop s i e f = sym (append-nil (take i s)) ∙ ap (λ (l : List ℕ). take i s ++ l) (sym e) ∙ f

pub command_end : (s : List ℕ) (i : ℕ) → length s ≤ i → command_of (drop i s) ≡ []
unfolding command_of
command_end s i l = let d : drop i s ≡ [] = drop_of_length-le s l in rw d
