-- `search::slot_of_number` meets its contract. The invariant: what the search finds from slot i on is what it finds.
use Rattle.std.specs.Prelude.{◌≡◌, ◌+◌, List, ℕ}
use Rattle.std.proofs.Math.Dec.{eqb}
use Rattle.model.specs.Lists.{position}
use Rattle.model.specs.State.{Entry}
use Rattle.state.specs.Search.{from}
use Rattle.state.specs.View.{locks_of}
use Rattle.state.proofs.search.slot_of_number.Given as goal

abbrev pub invariant-loop-i : goal.invariant-loop-i
invariant-loop-i l = (s : List ℕ) → position (λ (e : Entry). eqb e.number l.n) (locks_of l.w s).entries ≡ l.i + from l.w s (λ (e : Entry). eqb e.number l.n) l.i
