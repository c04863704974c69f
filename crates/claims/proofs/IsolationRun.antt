-- N, proved: how an exclusive lock begins, and that from then on every command that acts is its holder's.
use mathlib.Core.Path.{◌≡◌, refl, sym, ap, ◌∙◌}
use mathlib.Core.Bool.{true}
use mathlib.Core.List.{List, [], ◌∷◌}
use Prim.Native.Nat.{ℕ}
use Rattle.wire.specs.Message.{header}
use Rattle.wire.specs.Class.{one_of}
use Rattle.model.specs.MessageTypes.{commands}
use Rattle.model.specs.State.{Server, fresh, Making}
use Rattle.model.specs.Interface.{Event, Event.delivery, Outcome.acted, Reply.took}
use Rattle.model.specs.Step.{step, final, log}
use Rattle.model.specs.IsolationRun.{Undisturbed, Holder, Exclusive, IsolationRun}
use Rattle.claims.proofs.Invariant.{Inv}
use Rattle.claims.proofs.Fits.{inv_call, inv_run}
use Rattle.claims.proofs.Isolation.{step_own}
use Rattle.claims.proofs.Exclusive.{still_holds}
use Rattle.claims.proofs.Beginning.{begins_holding}

-- the run
holds_list : (fs : List Event) (d : Server) (n j : ℕ) → Inv d.locks → Holder n j d → Undisturbed j d fs → Exclusive n j d fs
unfolding log
holds_list [] d n j v h u = record { holds_on = h; only_its_own = tt }
holds_list (e ∷ fs) d n j v h u =
    let r = holds_list fs (step d e).server n j (inv_call d e v) (still_holds d v n j e u.0 h) u.1 in
    record { holds_on = (h, r.holds_on); only_its_own = (only, r.only_its_own) }
  where
    only : (c : ℕ) (bs : List ℕ) (room k m : ℕ) → e ≡ delivery c bs room → (step d e).reply ≡ took acted k m → one_of commands (header bs).kind ≡ true → m ≡ n
    only c bs room k m q r t = step_own d v j h.exclusive c k m bs room (ap (λ x. (step d x).reply) (sym q) ∙ r) t ∙ h.number

-- after any list from the fresh server
pub isolation_run : (v : Making) (es : List Event) (j : ℕ) → IsolationRun v es j
isolation_run v es j =
    record {
      from_now = λ fs h u. holds_list fs (final (fresh v) es) _ j (inv_run v es) (record { number = refl; exclusive = h }) u;
      from_grant =
          λ e fs b u.
          holds_list fs (step (final (fresh v) es) e).server _ j (inv_call (final (fresh v) es) e (inv_run v es)) (begins_holding (final (fresh v) es) (inv_run v es) j b) u;
    }
