-- `waiting::keep_staying` meets its contract. The invariant: those kept so far and those that stay from place j on are all that stay.
use Prim.Native.Nat.{◌≤◌}
use Rattle.holding.specs.Waiting.{halfway, stays}
use Rattle.queue.specs.Queue.{on_waiting}
use Rattle.state.specs.Tidy.{Tidy}
use Rattle.state.specs.View.{memory, view}
use mathlib.Core.Path.{◌≡◌}
use Rattle.model.specs.Lists.{keep}
use Rattle.queue.specs.Requests.{count_of}
use Rattle.holding.proofs.waiting.keep_staying.Given as goal

abbrev pub invariant-loop-j : goal.invariant-loop-j
invariant-loop-j l = (l.k ≤ l.j) × (count_of l.w ≡ l.n)
    × (on_waiting (view (memory l.initial.w l.strings)) (keep (stays l.leaving)) ≡ halfway (stays l.leaving) l.j l.k (view (memory l.w l.strings)))
    × (Tidy (memory l.initial.w l.strings) → Tidy (memory l.w l.strings))
