-- `asking::client_size` meets its contract: the slot that is found is one.
use Rattle.std.proofs.Common.{Result, subst, []}
use Prim.Native.Nat.{ℕ}
use native.Mathlib.Omega.{arith}
use Rattle.sessions.specs.declared.refusal.Refusal.{Refusal}
use Rattle.state.specs.View.{locks_of}
use Rattle.questions.specs.Found.{Finds}
use Rattle.questions.proofs.asking.client_size.Goals as goal

pub exchange-requires : goal.exchange-requires
exchange-requires c =
    let l = subst (λ (r : Result ℕ Refusal). Finds (locks_of c.args.words.now []).entries c.args.session r) c.in_ok-i.was (c.live_slot.ensures []) in
    (l.within, omega arith)
