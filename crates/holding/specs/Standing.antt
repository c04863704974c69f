-- The release that stands (02, Q-3), as a row of the table of sessions keeps it. Assumes nothing.
use Rattle.std.specs.Prelude.{◌≡◌, refl, Bool, true, false, not, cond, Option, Some, None, ℕ, ◌+◌, ◌-◌, ◌%◌, ◌^◌, ◌≤◌, ◌<◌, eqb, ltb}
use Rattle.std.proofs.Common.{sym, ap, ◌∙◌, mod-eq_of_lt, arith, lt-ltb, le-ltb, eq-eqb, ne_eqb}
use Rattle.model.specs.State.{Entry, Kind, Kind.exclusive_lock, Kind.shared_lock, Standing, Standing.no_release, Standing.release_of}
use Rattle.model.specs.Locks.{stands}
use Rattle.holding.specs.declared.standing.LockKind.{LockKind}
use Rattle.holding.specs.declared.standing.LockKind.TheVariants.{Exclusive, Shared}
use Rattle.holding.specs.declared.standing.Standing.{Standing as Kept}
use Rattle.state.specs.Change.{order_with}
use Rattle.state.specs.View.{standing_of}

-- the lock that the code names
abbrev pub kind_of : LockKind → Kind
kind_of Exclusive = exclusive_lock
kind_of Shared = shared_lock

-- the release that stands, as the code reads it
abbrev pub standing_as : Option Kept → Standing
standing_as None = no_release
standing_as (Some x) = release_of (kind_of x.kind) x.number

-- fields of a row, as they were read
pub last_read : (e : Entry) (v : ℕ) → order_with 0 v e ≡ e → e.last ≡ v % 2 ^ 32
last_read e v q = sym (ap (λ (x : Entry). x.last) q)

pub standing_read : (e : Entry) (v : ℕ) → order_with 1 v e ≡ e → e.standing ≡ standing_of v
standing_read e v q = sym (ap (λ (x : Entry). x.standing) q)

-- what a word of it tells
pub word_none : (v : ℕ) → v ≡ 0 → standing_of v ≡ no_release
word_none v e = rw (eq-eqb v 0 e)

pub word_exclusive : (v : ℕ) → (v ≡ 0 → ⊥) → v ≤ 2 ^ 32 → standing_of v ≡ release_of exclusive_lock ((v - 1) % 2 ^ 32)
word_exclusive v o h = rw (ne_eqb v 0 o, lt-ltb (v - 1) (2 ^ 32) (omega arith))

pub word_shared : (v : ℕ) → 2 ^ 32 < v → standing_of v ≡ release_of shared_lock ((v - 1) % 2 ^ 32)
word_shared v h = rw (ne_eqb v 0 (omega arith), le-ltb (v - 1) (2 ^ 32) (omega arith))

-- and which one is stored
pub stored_exclusive : (n : ℕ) → n < 2 ^ 32 → standing_of (n + 1) ≡ release_of exclusive_lock n
stored_exclusive n h =
    let e : n + 1 - 1 ≡ n = omega arith in
    word_exclusive (n + 1) (omega arith) (omega arith) ∙ ap (release_of exclusive_lock) (ap (λ (x : ℕ). x % 2 ^ 32) e ∙ mod-eq_of_lt h)

pub stored_shared : (n : ℕ) → n < 2 ^ 32 → standing_of (n + 1 + 2 ^ 32) ≡ release_of shared_lock n
stored_shared n h =
    let e : (n + 1 + 2 ^ 32 - 1) % 2 ^ 32 ≡ n = omega arith in
    word_shared (n + 1 + 2 ^ 32) (omega arith) ∙ ap (release_of shared_lock) e

pub stands_word : (v : ℕ) (x : Standing) → x ≡ standing_of v → stands x ≡ not (eqb v 0)
stands_word v x e = ap stands e ∙ by (eqb v 0)
  where
    by : (b : Bool) → stands (cond b no_release (release_of (cond (ltb (v - 1) (2 ^ 32)) exclusive_lock shared_lock) ((v - 1) % 2 ^ 32))) ≡ not b
    by true = refl
    by false = refl
