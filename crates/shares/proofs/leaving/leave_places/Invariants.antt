-- `leaving::leave_places` meets its contract. The invariant: nothing is seen to change, and the places from n to p are wiped.
use Rattle.std.specs.Prelude.{◌≡◌}
use Rattle.state.specs.Layout.{COUNT}
use Rattle.state.specs.Tidy.{TidyOver}
use Rattle.state.specs.View.{memory, view, word}
use Rattle.queue.specs.Leaving.{Members, Still}
use Rattle.shares.proofs.leaving.leave_places.Given as goal

abbrev pub invariant-loop-p : goal.invariant-loop-p
invariant-loop-p l = (word l.w COUNT ≡ l.n) × Members l.w l.n l.stay
    × (view (memory l.w l.strings) ≡ view (memory l.initial.w l.initial.strings)) × (TidyOver (Still l.n l.n l.m) (memory l.initial.w l.initial.strings) → TidyOver (Still l.n l.p l.m) (memory l.w l.strings))
