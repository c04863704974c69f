-- `found::live_slot` meets its contract: no such slot, a free one, a session's.
use mathlib.Core.Path.{refl, ap, ◌∙◌}
use Prim.Native.Nat.{ℕ}
use Rattle.model.specs.State.{at, live}
use Rattle.state.specs.View.{locks_of}
use Rattle.questions.specs.Found.{not_there}
use Rattle.questions.proofs.found.live_slot.Goals as goal

pub returns-then-i-ge-SESSION_LIMIT : goal.returns-then-i-ge-SESSION_LIMIT
returns-then-i-ge-SESSION_LIMIT c = let w = c.args.w.now in
    let f = c.slot_of_number-i in
    λ s. record {
      missing = ap (λ (j : ℕ). live (at (locks_of w s).entries j)) (f.ensures.1 s) ∙ not_there w s f.result c.if-i-ge-SESSION_LIMIT.true;
      refused = refl;
    }
