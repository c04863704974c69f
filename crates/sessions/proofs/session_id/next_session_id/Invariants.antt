-- `session_id::next_session_id` meets its contract. The invariant: the tries that are left give the whole.
use mathlib.Core.Path.{◌≡◌}
use mathlib.Core.List.{List}
use Prim.Native.Nat.{ℕ}
use Rattle.model.specs.Sizes.{session_limit}
use Rattle.model.specs.Locks.{issued}
use Rattle.state.specs.View.{locks_of, rest_of}
use Rattle.sessions.specs.SessionIds.{tries_from}
use Rattle.sessions.proofs.session_id.next_session_id.Given as goal

abbrev pub invariant-loop-k : goal.invariant-loop-k
invariant-loop-k l = ((s : List ℕ) → issued session_limit 0 (locks_of l.w s).entries (rest_of l.w).last_issued ≡ tries_from l.k (locks_of l.w s).entries l.last)
