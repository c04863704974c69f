-- Laws of what specs/Verdicts.antt defines. Assumes nothing.
use Rattle.std.specs.Prelude.{◌≡◌, refl, Bool, true, false, cond, List, [], ◌∷◌, ℕ, suc, ◌+◌, ◌≤◌, ◌<◌, leb, length, take, Ok, Err}
use Rattle.std.proofs.Common.{sym, ap, subst, ◌∙◌, inl, inr, ⊎_elim, arith, take-take, length-take-le, leb-true, leb-false}
use Rattle.scpi.specs.Grammar.{Viable, BadAt, BadAt.b_byte, BadAt.b_short, BadAt.b_long, Checked, good, bad}
use Rattle.scpi.specs.Automaton.{kind_of, State, State.a_start, step, accepts, dead, run, scan}
use Rattle.scpi.proofs.Accepting.{accepts_pattern, pattern_accepted, viable_alive, alive_viable}
use Rattle.scpi.specs.Verdicts.{Verdict, Exactly, pattern_viable, exactly, Scanned, too_long, verdict_of}

-- ---- there is one verdict

same_type : {X : Type 0} → true ≡ false → X
same_type e = absurd (let z : ◌≡◌ {A = ℕ} 0 1 = cc in omega arith)

shift : (s : State) (b : ℕ) (l : List ℕ) (n : ℕ) (r : Checked) → Scanned (step s (kind_of b)) l (n + 1) r → Scanned s (b ∷ l) n r
shift s b l n (Ok u) h = h
shift s b l n (Err d) h = (
  suc h.0,
  (let e : d.place ≡ n + 1 + h.0 = h.1 in omega arith),
  ⊎_elim (λ (x : (h.0 ≡ length l) × (dead (run (step s (kind_of b)) l) ≡ false) × (accepts (run (step s (kind_of b)) l) ≡ false)). inl (ap suc x.0, x.1, x.2))
      (λ (x : (h.0 < length l) × (dead (run (step s (kind_of b)) (take h.0 l)) ≡ false) × (dead (run (step s (kind_of b)) (take (suc h.0) l)) ≡ true)). inr
      (omega (arith, x.0), x.1, x.2)) h.2,
)

scan_says : (l : List ℕ) (s : State) (n : ℕ) → dead s ≡ false → Scanned s l n (scan s l n)
unfolding scan
scan_says [] s n h = go (accepts s) refl
  where
    go : (t : Bool) → accepts s ≡ t → Scanned s [] n (cond t good (bad n))
    go true e = e
    go false e = (0, omega arith, inl (refl, h, e))
scan_says (b ∷ l) s n h = go (dead (step s (kind_of b))) refl (scan_says l (step s (kind_of b)) (n + 1))
  where
    go : (t : Bool) → dead (step s (kind_of b)) ≡ t → (dead (step s (kind_of b)) ≡ false → Scanned (step s (kind_of b)) l (n + 1) (scan (step s (kind_of b)) l (n + 1)))
        → Scanned s (b ∷ l) n (cond t (bad n) (scan (step s (kind_of b)) l (n + 1)))
    go true e f = (0, omega arith, inr (omega arith, h, e))
    go false e f = shift s b l n (scan (step s (kind_of b)) l (n + 1)) (f e)

dead_not_viable : (p : List ℕ) → dead (run a_start p) ≡ true → Viable p → ⊥
dead_not_viable p d v = same_type (sym d ∙ alive_viable p v)

pub verdict_short : (p : List ℕ) → length p ≤ 128 → Verdict p (scan a_start p 0)
verdict_short p l = go (scan a_start p 0) (scan_says p a_start 0 refl)
  where
    go : (r : Checked) → Scanned a_start p 0 r → Verdict p r
    go (Ok u) h = record { pattern = pattern_accepted p h; fits = l }
    go (Err b) h = ⊎_elim
        (λ (x : (h.0 ≡ length p) × (dead (run a_start p) ≡ false) × (accepts (run a_start p) ≡ false)).
        let e : length p ≡ b.place = omega (arith, x.0, h.1) in
        subst (BadAt p) e (b_short l (viable_alive p x.1) (λ q. same_type (sym (accepts_pattern p q) ∙ x.2))))
        (λ (x : (h.0 < length p) × (dead (run a_start (take h.0 p)) ≡ false) × (dead (run a_start (take (suc h.0) p)) ≡ true)).
        let e : h.0 ≡ b.place = omega (arith, h.1) in
        subst (BadAt p) e (b_byte x.0 (omega (arith, x.0)) (viable_alive (take h.0 p) x.1) (dead_not_viable (take (suc h.0) p) x.2)))
        h.2

pub verdict_long : (p : List ℕ) → 128 < length p → Verdict p (too_long (scan a_start (take 128 p) 0))
verdict_long p l = go (scan a_start (take 128 p) 0) (scan_says (take 128 p) a_start 0 refl)
  where
    n : length (take 128 p) ≡ 128
    n = length-take-le 128 p (omega arith)

    go : (r : Checked) → Scanned a_start (take 128 p) 0 r → Verdict p (too_long r)
    go (Ok u) h = b_long l (pattern_viable (take 128 p) (pattern_accepted (take 128 p) h))
    go (Err b) h = ⊎_elim
        (λ (x : (h.0 ≡ length (take 128 p)) × (dead (run a_start (take 128 p)) ≡ false) × (accepts (run a_start (take 128 p)) ≡ false)).
        let e : 128 ≡ b.place = omega (arith, x.0, h.1, n) in
        subst (BadAt p) e (b_long l (viable_alive (take 128 p) x.1)))
        (λ (x : (h.0 < length (take 128 p)) × (dead (run a_start (take h.0 (take 128 p))) ≡ false) × (dead (run a_start (take (suc h.0) (take 128 p))) ≡ true)).
        let e : h.0 ≡ b.place = omega (arith, h.1) in
        let k : h.0 < 128 = omega (arith, x.0, n) in
        let k' : h.0 ≤ 128 = omega arith in
        let t0 : take h.0 (take 128 p) ≡ take h.0 p = take-take h.0 128 p k' in
        let t1 : take (suc h.0) (take 128 p) ≡ take (suc h.0) p = take-take (suc h.0) 128 p k in
        subst (BadAt p) e (b_byte (omega arith) k (subst Viable t0 (viable_alive (take h.0 (take 128 p)) x.1))
        (λ v. dead_not_viable (take (suc h.0) (take 128 p)) x.2 (subst Viable (sym t1) v))))
        h.2

pub check_short : (p : List ℕ) → length p ≤ 128 → (r : Checked) → scan a_start p 0 ≡ r → Exactly p r
check_short p l r e = exactly p r (subst (Verdict p) e (verdict_short p l))

pub check_long : (p : List ℕ) → 128 < length p → (r : Checked) → scan a_start (take 128 p) 0 ≡ r → Exactly p (too_long r)
check_long p l r e = exactly p (too_long r) (subst (λ (x : Checked). Verdict p (too_long x)) e (verdict_long p l))

pub verdict_is : (p : List ℕ) → Verdict p (verdict_of p)
unfolding verdict_of
verdict_is p = go (leb (length p) 128) refl
  where
    go : (t : Bool) → leb (length p) 128 ≡ t → Verdict p (cond t (scan a_start p 0) (too_long (scan a_start (take 128 p) 0)))
    go true e = verdict_short p (leb-true (length p) 128 e)
    go false e = verdict_long p (leb-false (length p) 128 e)

pub exactly_verdict : (p : List ℕ) (r : Checked) → Exactly p r → r ≡ verdict_of p
exactly_verdict p r h = sym ((h (verdict_of p)).0 (verdict_is p))
