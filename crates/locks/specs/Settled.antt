-- A lock event and, where it freed a lock, the grant pass behind it: their answers one behind the other. Assumes nothing.
use Rattle.std.specs.Prelude.{◌≡◌, List, ◌++◌, map, ℕ, ◌+◌, ◌≤◌, length}
use Rattle.std.proofs.Common.{sym, ap, ap₂, subst, ◌∙◌, arith, length-append}
use Rattle.std.proofs.lemmas.List.{map-append}
use Rattle.wire.specs.Frame.{bytes_of}
use Rattle.wire.specs.Splice.{splice, splice_splice}
use Rattle.model.specs.State.{Locks}
use Rattle.model.specs.Locks.{Answer, LockEvent, LockResult, change, grant_pass, frees, settle}
use Rattle.model.specs.Step.{lock_frame}
use Rattle.state.specs.View.{Memory, view}
use Rattle.holding.specs.Outcome.{Met, bytes_of_append}

-- one event behind another
abbrev pub both : LockResult → LockResult → LockResult
both x y = record { locks = y.locks; answers = x.answers ++ y.answers }

abbrev pub settled : Locks → LockEvent → LockResult
settled l e = both (change l e) (settle (frees l e) (change l e).locks)

abbrev answers_bytes : List Answer → List ℕ
answers_bytes xs = bytes_of (map lock_frame xs)

answers_append : (xs ys : List Answer) → answers_bytes (xs ++ ys) ≡ answers_bytes xs ++ answers_bytes ys
answers_append xs ys = ap bytes_of (map-append lock_frame xs ys) ∙ bytes_of_append (map lock_frame xs) (map lock_frame ys)

module _ (x y : LockResult) (m m₁ m' : Memory) (out out₁ out' : List ℕ) (at a r : ℕ) (fits : a ≤ length out) (p : Met x m m₁ out out₁ at a) where
  pub met_both : Met y m₁ m' out₁ out' a r → Met (both x y) m m' out out' at r
  met_both q =
      let xs : List ℕ = answers_bytes x.answers in
      let ys : List ℕ = answers_bytes y.answers in
      let f : at + length xs ≤ length out = subst (λ (n : ℕ). n ≤ length out) p.place fits in
      record {
        locks = q.locks;
        rest = q.rest ∙ p.rest;
        buffer =
            q.buffer
            ∙ ap₂ (λ (l : List ℕ) (n : ℕ). splice l n ys) p.buffer p.place
            ∙ splice_splice out at xs f ys
            ∙ ap (splice out at) (sym (answers_append x.answers y.answers));
        place = omega (arith, p.place, q.place, ap length (answers_append x.answers y.answers), length-append xs ys);
        tidy = λ t. q.tidy (p.tidy t);
      }

-- the pass over the locks that an event left
pub met_pass : (x : LockResult) (m m₁ m' : Memory) (out out₁ out' : List ℕ) (at a r : ℕ) → a ≤ length out → Met x m m₁ out out₁ at a
    → Met (grant_pass (view m₁).locks) m₁ m' out₁ out' a r → Met (both x (grant_pass x.locks)) m m' out out' at r
met_pass x m m₁ m' out out₁ out' at a r fits p q =
    met_both x (grant_pass x.locks) m m₁ m' out out₁ out' at a r fits p
    (subst (λ (l : Locks). Met (grant_pass l) m₁ m' out₁ out' a r) p.locks q)
