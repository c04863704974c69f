-- From a verdict to what is done: the plan of each verdict but "acts", and of a message that acts. Assumes nothing.
use Rattle.std.specs.Prelude.{◌≡◌, Bool, List, [], take, drop}
use Rattle.std.proofs.Common.{sym, subst, arith}
use Prim.Native.Nat.{ℕ, ◌+◌, ◌-◌}
use Rattle.wire.specs.declared.Header.{Header}
use Rattle.wire.specs.Message.{header, payload_of}
use Rattle.model.specs.MessageTypes.{Error}
use Rattle.model.specs.State.{Server, exchange_at, open_connection, with_connection, with_exchange}
use Rattle.model.specs.Interface.{Reply.took, Outcome.more_needed, Outcome.held, Outcome.error_sent}
use Rattle.model.specs.Scan.{Scan, Scan.whole, size, leftover}
use Rattle.model.specs.Place.{Role}
use Rattle.model.specs.Checks.{Verdict, Verdict.v_more, Verdict.v_held, Verdict.v_ignored, Verdict.v_closed, Verdict.v_acts, Verdict.v_error, Verdict.v_fatal, judged}
use Rattle.model.specs.Exchange.{with_number}
use Rattle.model.specs.Acts.{acts, say}
use Rattle.model.specs.Step.{finish, effect, idle, channels, number_taken}
use Rattle.state.specs.Change.{on_rest}
use Rattle.state.specs.Tidy.{Tidy}
use Rattle.state.specs.View.{Memory}
use Rattle.checks.specs.Verdicts.{message}
use Rattle.sessions.specs.declared.Delivery.{Delivery}
use Rattle.sessions.specs.Did.{Did, plainly}
use Rattle.effects.specs.Numbering.{moved_by}
use Rattle.sessions.specs.Synchronous.{with_slot}
use Rattle.delivery.specs.Numbering.{error_moved}
use Rattle.sessions.specs.Replies.{error_plan, ignore_plan, close_plan, fatals}

module _ (d : Server) (c i : ℕ) (x : Scan) (ro : Role) (r : Delivery) (m m' : Memory) (out out' : List ℕ) where
  -- what verdict y does with what was scanned was done
  abbrev pub Done : Verdict → Type 0
  Done y = Did (finish d (effect y x ro d i c)) r m m' out out'

  -- what was done by a verdict was done by one that is the same
  pub by_verdict : (y z : Verdict) → y ≡ z → Done z → Done y
  by_verdict y z e q = subst Done (sym e) q

  pub fatal_done : (k : ℕ) → Did (finish d (close_plan d c i (fatals k (channels d c)))) r m m' out out' → Done (v_fatal k)
  unfolding effect
  fatal_done k q = q

  -- an Error that takes k bytes, leaves l to skip, and n as the number expected
  abbrev Erred : ℕ → ℕ → ℕ → ℕ → Type 0
  Erred v k l n =
      Did (finish d (plainly (took error_sent k 0) (with_connection (with_exchange d.rest i (with_number n (exchange_at d.rest i))) c (open_connection l)) (say c Error v 0))) r m m' out out'

  pub error_done : (v k l : ℕ) → size x ≡ k → leftover x ≡ l → (b : Bool) → number_taken ro x (exchange_at d.rest i) ≡ (moved_by b (exchange_at d.rest i)).number_expected
      → (d₁ : Server) (m₁ : Memory) → d₁ ≡ on_rest d (with_slot i (moved_by b)) → (Tidy m → Tidy m₁) → Did (finish d₁ (error_plan d₁ c v k l)) r m₁ m' out out' → Done (v_error v)
  unfolding effect
  error_done v k l e f b g d₁ m₁ p t q =
      let n : ℕ = (moved_by b (exchange_at d.rest i)).number_expected in
      subst (λ (a : ℕ). Erred v (size x) (leftover x) a) (sym g)
      (subst (λ (a : ℕ). Erred v (size x) a n) (sym f)
      (subst (λ (a : ℕ). Erred v a l n) (sym e) (error_moved d d₁ (with_slot i (moved_by b) d.rest) c v k l r m m₁ m' out out' p t q)))

  pub closed_done : Did (finish d (close_plan d c i [])) r m m' out out' → Done v_closed
  unfolding effect
  closed_done q = q

  pub ignored_done : (k : ℕ) → size x ≡ k → Did (finish d (ignore_plan d k)) r m m' out out' → Done v_ignored
  unfolding effect
  ignored_done k f q = subst (λ (a : ℕ). Did (finish d (ignore_plan d a)) r m m' out out') (sym f) q

  pub held_done : Did (finish d (idle d (took held 0 0))) r m m' out out' → Done v_held
  unfolding effect
  held_done q = q

  pub more_done : Did (finish d (idle d (took more_needed 0 0))) r m m' out out' → Done v_more
  unfolding effect
  more_done q = q

-- where the slot is one that was told
pub done_at : (d : Server) (c i k : ℕ) (x : Scan) (ro : Role) (r : Delivery) (m m' : Memory) (out out' : List ℕ) (y : Verdict) (b : Bool) → k ≡ i
    → (number_taken ro x (exchange_at d.rest k) ≡ (moved_by b (exchange_at d.rest k)).number_expected → Done d c k x ro r m m' out out' y)
    → number_taken ro x (exchange_at d.rest i) ≡ (moved_by b (exchange_at d.rest i)).number_expected → Done d c i x ro r m m' out out' y
done_at d c i k x ro r m m' out out' y b e =
    subst (λ (j : ℕ). number_taken ro x (exchange_at d.rest j) ≡ (moved_by b (exchange_at d.rest j)).number_expected → Done d c j x ro r m m' out out' y) e

-- a whole message that acts
pub acts_done : (d : Server) (c i : ℕ) (h : Header) (p : List ℕ) (ro : Role) (r : Delivery) (m m' : Memory) (out out' : List ℕ) (y : Verdict) → y ≡ v_acts
    → Did (finish d (acts ro d i c h p)) r m m' out out' → Done d c i (whole h p) ro r m m' out out' y
unfolding effect
acts_done d c i h p ro r m m' out out' y e q = by_verdict d c i (whole h p) ro r m m' out out' y v_acts e q

-- a whole message whose kind is told by number
pub of_kind : (d : Server) (c i : ℕ) (h : Header) (p : List ℕ) (ro : Role) (r : Delivery) (m m' : Memory) (out out' : List ℕ) (k : ℕ) → h.kind ≡ k
    → Done d c i (whole (message k h.code h.param h.len) p) ro r m m' out out' (judged ro d i (message k h.code h.param h.len) p)
    → Done d c i (whole h p) ro r m m' out out' (judged ro d i h p)
of_kind d c i h p ro r m m' out out' k e q =
    subst (λ (x : ℕ). Done d c i (whole (message x h.code h.param h.len) p) ro r m m' out out' (judged ro d i (message x h.code h.param h.len) p)) (sym e) q

-- and one whose header was read from its bytes, with the payload cut out behind it
pub of_bytes : (d : Server) (c i : ℕ) (h : Header) (bs : List ℕ) (ro : Role) (r : Delivery) (m m' : Memory) (out out' : List ℕ) → h ≡ header bs
    → Done d c i (whole h (take (16 + h.len - 16) (drop 16 bs))) ro r m m' out out' (judged ro d i h (take (16 + h.len - 16) (drop 16 bs)))
    → Done d c i (whole (header bs) (payload_of (header bs) bs)) ro r m m' out out' (judged ro d i (header bs) (payload_of (header bs) bs))
of_bytes d c i h bs ro r m m' out out' e q =
    let z : 16 + h.len - 16 ≡ h.len = omega arith in
    subst (λ (x : Header). Done d c i (whole x (payload_of x bs)) ro r m m' out out' (judged ro d i x (payload_of x bs))) e
    (subst (λ (n : ℕ). Done d c i (whole h (take n (drop 16 bs))) ro r m m' out out' (judged ro d i h (take n (drop 16 bs)))) z q)
