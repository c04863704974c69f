-- What AsyncLockInfo tells, by the tests of the code and slot after slot. Assumes nothing.
use Rattle.std.specs.Prelude.{◌≡◌, Bool, true, false, not, cond, List, ◌∷◌, ℕ, suc, ◌+◌, ◌≤◌, ◌<◌, length, drop}
use Rattle.std.proofs.Common.{ap, ◌∙◌, add-one, drop_of_length-le, drop-cons}
use Rattle.model.specs.Sizes.{session_limit}
use Rattle.model.specs.Lists.{tally}
use Rattle.model.specs.State.{Entry, at, blank}
use Rattle.model.specs.Locks.{no_shared}
use Rattle.model.specs.Acts.{holder}
use Rattle.state.specs.Change.{sessions_held}
use Rattle.state.specs.View.{locks_of}

pub holder_exclusive : (e : Entry) → e.exclusive ≡ true → holder e ≡ true
holder_exclusive e p = rw p

pub holder_sharing : (e : Entry) (b : Bool) → e.exclusive ≡ false → no_shared e ≡ not b → holder e ≡ b
holder_sharing e true p q = rw (p, q)
holder_sharing e false p q = rw (p, q)

-- those from slot k on are slot k and those from k + 1 on
module _ (w s : List ℕ) (k : ℕ) where
  from : k < session_limit → drop k (locks_of w s).entries ≡ at (locks_of w s).entries k ∷ drop (k + 1) (locks_of w s).entries
  from h = rw add-one (drop-cons (locks_of w s).entries k blank (rw (sessions_held w s) h))

  pub count_holder : k < session_limit → holder (at (locks_of w s).entries k) ≡ true
      → tally holder (drop k (locks_of w s).entries) ≡ suc (tally holder (drop (k + 1) (locks_of w s).entries))
  count_holder h e = ap (tally holder) (from h) ∙ ap (λ (b : Bool). cond b (suc (tally holder (drop (k + 1) (locks_of w s).entries))) (tally holder (drop (k + 1) (locks_of w s).entries))) e

  pub count_other : k < session_limit → holder (at (locks_of w s).entries k) ≡ false
      → tally holder (drop k (locks_of w s).entries) ≡ tally holder (drop (k + 1) (locks_of w s).entries)
  count_other h e = ap (tally holder) (from h) ∙ ap (λ (b : Bool). cond b (suc (tally holder (drop (k + 1) (locks_of w s).entries))) (tally holder (drop (k + 1) (locks_of w s).entries))) e

  pub count_end : session_limit ≤ k → tally holder (drop k (locks_of w s).entries) ≡ 0
  count_end h = let l : length (locks_of w s).entries ≤ k = rw (sessions_held w s) h in ap (tally holder) (drop_of_length-le (locks_of w s).entries l)
