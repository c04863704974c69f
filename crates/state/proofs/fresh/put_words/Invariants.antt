-- `fresh::put_words` meets its contract. The invariant: the first i slots have started.
use Rattle.std.specs.Prelude.{◌≡◌}
use Rattle.state.specs.Fresh.{started}
use Rattle.state.proofs.fresh.put_words.Given as goal

abbrev pub invariant-loop-i : goal.invariant-loop-i
invariant-loop-i l = l.w ≡ started l.i
