-- `waiting::answer_leaving` meets its contract. The invariant: answering those from place j on ends where answering all does.
use Prim.Native.Nat.{ℕ, ◌+◌, ◌-◌, ◌*◌, ◌≤◌}
use Rattle.model.specs.Locks.{refuse}
use Rattle.holding.specs.Outcome.{ends}
use Rattle.holding.specs.Waiting.{stays}
use Rattle.state.specs.View.{locks_of}
use mathlib.Core.Path.{◌≡◌}
use mathlib.Core.List.{List}
use lib.ListN.{length, drop}
use Rattle.holding.proofs.waiting.answer_leaving.Given as goal

abbrev pub invariant-loop-j : goal.invariant-loop-j
invariant-loop-j l = (l.at + 17 * (l.n - l.j) ≤ length l.out) × (length l.out ≡ length l.initial.out)
    × ((s : List ℕ) → ends (refuse (locks_of l.w s).entries (stays l.leaving) (locks_of l.w s).waiting) l.initial.out l.start ≡ ends
    (refuse (locks_of l.w s).entries (stays l.leaving) (drop l.j (locks_of l.w s).waiting)) l.out l.at)
