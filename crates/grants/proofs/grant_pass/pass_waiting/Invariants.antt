-- `grant_pass::pass_waiting` meets its contract. The invariant: the pass over those from place j on ends where the whole pass does.
use mathlib.Core.Path.{◌≡◌}
use Prim.Native.Nat.{◌+◌, ◌-◌, ◌*◌, ◌≤◌}
use lib.ListN.{length}
use Rattle.grants.specs.Pass.{passed}
use Rattle.queue.specs.Requests.{count_of}
use Rattle.state.specs.Tidy.{Tidy}
use Rattle.state.specs.View.{memory, view}
use Rattle.grants.proofs.grant_pass.pass_waiting.Given as goal

abbrev pub invariant-loop-j : goal.invariant-loop-j
invariant-loop-j l = (l.k ≤ l.j) × (count_of l.w ≡ l.n) × (l.at + 17 * (l.n - l.j) ≤ length l.out)
    × (length l.out ≡ length l.initial.out) × (passed 0 0 (view (memory l.initial.w l.initial.strings)) l.initial.out l.start ≡ passed l.j l.k (view (memory l.w l.strings)) l.out l.at)
    × (Tidy (memory l.initial.w l.initial.strings) → Tidy (memory l.w l.strings))
