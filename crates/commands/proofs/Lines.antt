-- Laws of what specs/Lines.antt defines. Assumes nothing.
use Rattle.std.specs.Prelude.{◌≡◌, refl, Bool, true, false, cond, eqb, length, take}
use Rattle.std.proofs.Common.{ap, ◌∙◌, not-suc-le-zero, drop-drop}
use mathlib.Core.List.{List, [], ◌∷◌, ◌++◌, append_assoc}
use Prim.Native.Nat.{ℕ, suc, ◌+◌, ◌-◌, ◌*◌, ◌≤◌, ◌<◌}
use native.Mathlib.Omega.{arith}
use Rattle.std.proofs.Math.ListN.{get_or, drop}
use Rattle.std.proofs.Math.Seq.{drop-cons}
use borrow.Author.Tests.{ne_eqb}
use Rattle.scpi.specs.Words.{part}
use Rattle.commands.specs.Lists.{more, lines_of, line_length, AllGood, Listed}
use Rattle.commands.specs.Lines.{NoNewline, NoNewlines, text_of, lines_first, total}

lines_only : (b : ℕ) (p : List ℕ) → NoNewline (b ∷ p) → lines_of (b ∷ p) ≡ (b ∷ p) ∷ []
unfolding lines_of
lines_only b [] h = rw (ne_eqb b 10 h.0)
lines_only b (x ∷ p) h = ap (λ (t : Bool). cond t ([] ∷ lines_of (x ∷ p)) (more b (lines_of (x ∷ p)))) (ne_eqb b 10 h.0) ∙ ap (more b) (lines_only x p h.1)

-- the last one may lack its newline
pub lines_last : (ps : List (List ℕ)) (b : ℕ) (p : List ℕ) → NoNewlines ps → NoNewline (b ∷ p) → lines_of (text_of ps ++ (b ∷ p)) ≡ ps ++ ((b ∷ p) ∷ [])
lines_last [] b p h k = lines_only b p k
lines_last (q ∷ ps) b p h k =
    ap lines_of (append_assoc q (10 ∷ text_of ps) (b ∷ p))
    ∙ lines_first q (text_of ps ++ (b ∷ p)) h.0
    ∙ ap (λ (l : List (List ℕ)). q ∷ l) (lines_last ps b p h.1 k)

total_more : (b : ℕ) (ls : List (List ℕ)) → suc (total ls) ≤ total (more b ls)
total_more b [] = omega arith
total_more b (l ∷ ls) = omega arith

length_lines : (s : List ℕ) → length s ≤ total (lines_of s)
unfolding lines_of
length_lines [] = omega arith
length_lines (b ∷ s) = go (eqb b 10) (length_lines s)
  where
    go : (t : Bool) → length s ≤ total (lines_of s) → suc (length s) ≤ total (cond t ([] ∷ lines_of s) (more b (lines_of s)))
    go true h = omega arith
    go false h = omega (arith, total_more b (lines_of s))

total_good : (ps : List (List ℕ)) → AllGood ps → total ps ≤ 129 * length ps
total_good [] g = omega arith
total_good (p ∷ ps) g = omega (arith, g.0.fits, total_good ps g.1)

pub listed_room : (s : List ℕ) → Listed (lines_of s) → length s ≤ 4128
listed_room s h = omega (arith, length_lines s, total_good (lines_of s) h.1, h.0)

lines_step : (s : List ℕ) → 0 < length s → lines_of s ≡ take (line_length s) s ∷ lines_of (drop (suc (line_length s)) s)
unfolding lines_of line_length
lines_step [] h = absurd (not-suc-le-zero h)
lines_step (b ∷ s) h = go (eqb b 10) s (lines_step s)
  where
    go : (t : Bool) (s : List ℕ) → (0 < length s → lines_of s ≡ take (line_length s) s ∷ lines_of (drop (suc (line_length s)) s))
        → cond t ([] ∷ lines_of s) (more b (lines_of s)) ≡ take (cond t 0 (suc (line_length s))) (b ∷ s) ∷ lines_of (drop (suc (cond t 0 (suc (line_length s)))) (b ∷ s))
    go true s f = refl
    go false [] f = refl
    go false (x ∷ s) f = ap (more b) (f (omega arith))

pub lines_next : (s : List ℕ) (at e : ℕ) → at < length s → e ≡ at + line_length (drop at s) → lines_of (drop at s) ≡ part at e s ∷ lines_of (drop (e + 1) s)
lines_next s at e l h =
    let d : drop at s ≡ get_or s at 0 ∷ drop (suc at) s = drop-cons s at 0 l in
    let n : 0 < length (drop at s) = rw d (omega arith) in
    let k : line_length (drop at s) ≡ e - at = omega arith in
    let m : suc (e - at) + at ≡ e + 1 = omega arith in
    lines_step (drop at s) n ∙ ap (λ (x : ℕ). take x (drop at s) ∷ lines_of (drop (suc x) (drop at s))) k
    ∙ ap (λ (x : List ℕ). part at e s ∷ lines_of x) (drop-drop (suc (e - at)) at s ∙ ap (λ (x : ℕ). drop x s) (let o : at + suc (e - at) ≡ e + 1 = omega arith in o))
