-- What the reading answers is the verdict of the grammar, and the only one. Assumes nothing.
use Rattle.std.specs.Prelude.{◌≡◌, refl, ◌⊎◌, ◌↔◌, true, false, cond, List, [], ◌++◌, ℕ, suc, ◌+◌, ◌≤◌, ◌<◌, leb, length, take, drop, Ok, Err}
use Rattle.std.proofs.Common.{sym, ap, subst, ◌∙◌, ⊎_elim, append_assoc, append-nil, arith, take-append-drop, take-take}
use Rattle.std.proofs.Math.Seq.{take-length}
use Rattle.scpi.specs.Grammar.{Pattern, Viable, longest, GoodPattern, BadAt, BadAt.b_byte, BadAt.b_short, BadAt.b_long, Checked, bad}
use Rattle.scpi.specs.Answers.{lt_or_ge}
use Rattle.scpi.specs.Automaton.{State, State.a_start, accepts, dead, run, scan}
use Rattle.scpi.specs.Accepting.{Accepted}

-- the answer to a pattern
abbrev pub Verdict : List ℕ → Checked → Type 0
Verdict p (Ok u) = GoodPattern p
Verdict p (Err b) = BadAt p b.place

-- r is the verdict, and no other answer is
abbrev pub Exactly : List ℕ → Checked → Type 0
Exactly p r = (s : Checked) → Verdict p s ↔ (s ≡ r)

prefix : (p : List ℕ) (i j : ℕ) → i ≤ j → Viable (take j p) → Viable (take i p)
prefix p i j h v =
    let e : take i p ++ (drop i (take j p) ++ v.rest) ≡ take j p ++ v.rest =
    sym (append_assoc (take i p) (drop i (take j p)) v.rest)
    ∙ ap (λ (l : List ℕ). l ++ v.rest) (ap (λ (l : List ℕ). l ++ drop i (take j p)) (sym (take-take i j p h)) ∙ take-append-drop i (take j p)) in
    record { rest = drop i (take j p) ++ v.rest; pattern = subst Pattern (sym e) v.pattern }

whole_viable : (p : List ℕ) → Viable p → Viable (take (length p) p)
whole_viable p v = subst Viable (sym (take-length p)) v

pub pattern_viable : (p : List ℕ) → Pattern p → Viable p
pattern_viable p h = record { rest = []; pattern = subst Pattern (sym (append-nil p)) h }

one_byte : (p : List ℕ) (i j : ℕ) → (Viable (take (suc i) p) → ⊥) → (Viable (take (suc j) p) → ⊥) → Viable (take i p) → Viable (take j p) → i ≡ j
one_byte p i j ni nj vi vj = ⊎_elim
    (λ (l : i < j). absurd (ni (prefix p (suc i) j l vj)))
    (λ (l : j ≤ i). ⊎_elim (λ (k : j < i). absurd (nj (prefix p (suc j) i k vi))) (λ (k : i ≤ j). let e : i ≡ j = omega arith in e) (lt_or_ge j i))
    (lt_or_ge i j)

pub bad_one : (p : List ℕ) {i j : ℕ} → BadAt p i → BadAt p j → i ≡ j
bad_one p (b_byte {i = i} l h v n) (b_byte {i = j} l' h' v' n') = one_byte p i j n n' v v'
bad_one p (b_byte {i = i} l h v n) (b_short l' v' n') = absurd (n (prefix p (suc i) (length p) l (whole_viable p v')))
bad_one p (b_byte {i = i} l h v n) (b_long l' v') = absurd (n (prefix p (suc i) longest h v'))
bad_one p (b_short l v n) (b_byte {i = i} l' h' v' n') = absurd (n' (prefix p (suc i) (length p) l' (whole_viable p v)))
bad_one p (b_short l v n) (b_short l' v' n') = refl
bad_one p (b_short l v n) (b_long l' v') = absurd (omega arith)
bad_one p (b_long l v) (b_byte {i = i} l' h' v' n') = absurd (n' (prefix p (suc i) longest h' v))
bad_one p (b_long l v) (b_short l' v' n') = absurd (omega arith)
bad_one p (b_long l v) (b_long l' v') = refl

pub good_not_bad : (p : List ℕ) {i : ℕ} → GoodPattern p → BadAt p i → ⊥
good_not_bad p g (b_byte {i = i} l h v n) = n (prefix p (suc i) (length p) l (whole_viable p (pattern_viable p g.pattern)))
good_not_bad p g (b_short l v n) = n g.pattern
good_not_bad p g (b_long l v) = let h : length p ≤ 128 = g.fits in omega arith

one_verdict : (p : List ℕ) (r s : Checked) → Verdict p r → Verdict p s → s ≡ r
one_verdict p (Ok u) (Ok v) h k = refl
one_verdict p (Ok u) (Err b) h k = absurd (good_not_bad p h k)
one_verdict p (Err b) (Ok v) h k = absurd (good_not_bad p k h)
one_verdict p (Err b) (Err d) h k = ap bad (bad_one p k h)

pub exactly : (p : List ℕ) (r : Checked) → Verdict p r → Exactly p r
exactly p r h s = (λ k. one_verdict p r s h k, λ e. subst (Verdict p) (sym e) h)

-- ---- the reading's answer is the verdict

abbrev pub Scanned : State → List ℕ → ℕ → Checked → Type 0
Scanned s l n (Ok u) = Accepted (run s l)
Scanned s l n (Err b) = (k : ℕ) × (b.place ≡ n + k)
    × (((k ≡ length l) × (dead (run s l) ≡ false) × (accepts (run s l) ≡ false))
    ⊎ ((k < length l) × (dead (run s (take k l)) ≡ false) × (dead (run s (take (suc k) l)) ≡ true)))

abbrev pub too_long : Checked → Checked
too_long (Ok u) = bad 128
too_long (Err b) = Err b

-- the verdict as a function
unfoldable pub verdict_of : List ℕ → Checked
verdict_of p = cond (leb (length p) 128) (scan a_start p 0) (too_long (scan a_start (take 128 p) 0))
