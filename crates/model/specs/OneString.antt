-- M. One shared string at a time, strings of at most 256 bytes, and no deadline that the clock has reached. Assumes nothing.
use Rattle.std.specs.Prelude.{◌≡◌, true, List, [], ℕ, ◌≤◌, leb, ltb, length}
use Rattle.model.specs.Sizes.{string_limit}
use Rattle.model.specs.Lists.{all}
use Rattle.model.specs.State.{Locks, at, fresh, Making}
use Rattle.model.specs.Interface.{Event}
use Rattle.model.specs.Step.{final}

pub record OneString (l : Locks) : Type 0 where
  -- 01: "Shared with string K may be granted if no other holds exclusive and every shared holder's string is K": so all have the same one
  pub one_string : (i j : ℕ) → ((at l.entries i).shared ≡ [] → ⊥) → ((at l.entries j).shared ≡ [] → ⊥) → (at l.entries i).shared ≡ (at l.entries j).shared
  -- Q-6: lock strings to 256 bytes; a longer one is answered 3
  pub short_holders : (i : ℕ) → length (at l.entries i).shared ≤ string_limit
  pub short_requests : all (λ w. leb (length w.string) string_limit) l.waiting ≡ true
  -- 01: "A clock reading at or past a deadline answers 0": so every request that waits has its deadline above the clock
  pub deadlines_ahead : all (λ w. ltb l.clock w.deadline) l.waiting ≡ true

-- after any list from the fresh server
pub record OneStringRun (v : Making) (es : List Event) : Type 0 where
  pub holds : OneString (final (fresh v) es).locks
