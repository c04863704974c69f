-- What a release, a command and a device clear store: at the session's slot an entry with no lock that it did not have.
use mathlib.Core.Path.{◌≡◌, refl, sym, ap}
use mathlib.Core.Bool.{Bool, true, false, not, cond}
use mathlib.Core.List.{[], ◌∷◌}
use mathlib.Core.Logic.{inl, inr}
use Prim.Native.Nat.{ℕ, ◌≤◌}
use native.Mathlib.Omega.{arith}
use lib.Dec.{eqb}
use lib.ListN.{set, length}
use lib.Seq.{set-get_or}
use Rattle.model.specs.State.{Entry, Locks, Kind, Kind.exclusive_lock, Kind.shared_lock, Standing, Standing.no_release, Standing.release_of, blank, at, live}
use Rattle.model.specs.Locks
use Rattle.model.specs.Locks.{LockResult, Releasing, Releasing.r_invalid, Releasing.r_now, Releasing.r_stands, Due, Due.not_due, Due.due_now, stands}
use Rattle.model.specs.Locks.{releasing, releasing_of, released, completed, without, with_order, with_entries, no_shared, due_at, due_any}
use Rattle.model.proofs.Basics.{not_of}
use Rattle.claims.proofs.Invariant.{Good, Firm, Sound, Lesser, backing, backed_at, firm_lesser, ready_lesser, good_weaker}

pub record Stores (l : Locks) (i : ℕ) (x : LockResult) : Type 0 where
  pub entry : Entry
  pub lesser : Lesser (at l.entries i) entry
  pub locks : x.locks ≡ with_entries l (set l.entries i entry)
  pub few : length x.answers ≤ 1

-- without a lock; with another order
lesser_without : (k : Kind) (n : ℕ) (s : Standing) (e : Entry) → backing s (without k e) ≡ true → Lesser e (with_order n s (without k e))
lesser_without exclusive_lock n s e b = record {
  number = refl;
  synchronous = refl;
  asynchronous = refl;
  exclusive = λ h. absurd (mathlib.Core.Bool.false≢true h);
  shared = inr refl;
  standing = go s b;
}
  where
    go : (s : Standing) → backing s (without exclusive_lock e) ≡ true → backing s (with_order n s (without exclusive_lock e)) ≡ true
    go no_release b = refl
    go (release_of exclusive_lock m) b = b
    go (release_of shared_lock m) b = b
lesser_without shared_lock n s e b = record { number = refl; synchronous = refl; asynchronous = refl; exclusive = λ h. h; shared = inl refl; standing = go s b }
  where
    go : (s : Standing) → backing s (without shared_lock e) ≡ true → backing s (with_order n s (without shared_lock e)) ≡ true
    go no_release b = refl
    go (release_of exclusive_lock m) b = b
    go (release_of shared_lock m) b = b

lesser_order : (n : ℕ) (s : Standing) (e : Entry) → backing s e ≡ true → Lesser e (with_order n s e)
lesser_order n s e b = record { number = refl; synchronous = refl; asynchronous = refl; exclusive = λ h. h; shared = inr refl; standing = go s b }
  where
    go : (s : Standing) → backing s e ≡ true → backing s (with_order n s e) ≡ true
    go no_release b = refl
    go (release_of exclusive_lock m) b = b
    go (release_of shared_lock m) b = b

none_stands : (s : Standing) (e : Entry) → stands s ≡ false → backing s e ≡ true
none_stands no_release e h = refl
none_stands (release_of k n) e h = absurd (mathlib.Core.Bool.true≢false h)

module _ (l : Locks) (i n : ℕ) (f : Firm l.entries) where
  e₀ : Entry
  e₀ = at l.entries i

  same : Stores l i (record { locks = l; answers = Locks.tell l.entries i 3 false ∷ [] })
  same =
      record {
        entry = at l.entries i;
        lesser = lesser_order (at l.entries i).last (at l.entries i).standing (at l.entries i) (backed_at l.entries i f);
        locks = ap (with_entries l) (sym (set-get_or l.entries i blank));
        few = omega arith;
      }

  free : (k : Kind) → stands (at l.entries i).standing ≡ false → Stores l i (released (r_now k) l i n)
  free k h =
      record {
        entry = without k (at l.entries i);
        lesser = keeps k;
        locks = refl;
        few = omega arith;
      }
    where
      keeps : (k : Kind) → Lesser (at l.entries i) (without k (at l.entries i))
      keeps exclusive_lock = lesser_without exclusive_lock (at l.entries i).last (at l.entries i).standing (at l.entries i) (none_stands (at l.entries i).standing _ h)
      keeps shared_lock = lesser_without shared_lock (at l.entries i).last (at l.entries i).standing (at l.entries i) (none_stands (at l.entries i).standing _ h)

  stay : (k : Kind) → backing (release_of k n) (at l.entries i) ≡ true → Stores l i (released (r_stands k) l i n)
  stay k b = record { entry = _; lesser = lesser_order (at l.entries i).last (release_of k n) (at l.entries i) b; locks = refl; few = omega arith }

  pub release_stores : Stores l i (released (releasing_of (at l.entries i) n) l i n)
  release_stores = go (stands (at l.entries i).standing) (at l.entries i).exclusive (no_shared (at l.entries i)) (eqb (at l.entries i).last n) refl refl refl
    where
      go : (t x s a : Bool) → stands (at l.entries i).standing ≡ t → (at l.entries i).exclusive ≡ x → no_shared (at l.entries i) ≡ s → Stores l i (released (releasing t x s a) l i n)
      go true x s a et ex es = same
      go false true s true et ex es = free exclusive_lock et
      go false true s false et ex es = stay exclusive_lock ex
      go false false false true et ex es = free shared_lock et
      go false false false false et ex es = stay shared_lock (ap not es)
      go false false true a et ex es = same

  pub complete_stores : (u : Due) → Stores l i (completed u l i n)
  complete_stores not_due = record { entry = _; lesser = lesser_order n (at l.entries i).standing (at l.entries i) (backed_at l.entries i f); locks = refl; few = omega arith }
  complete_stores (due_now k) = record { entry = _; lesser = lesser_without k n no_release (at l.entries i) refl; locks = refl; few = omega arith }

-- so the invariant goes on
pub stores_sound : (l : Locks) (i : ℕ) (x : LockResult) → Good l.entries l.waiting → Firm l.entries → live (at l.entries i) ≡ true → Stores l i x →
    Sound x.locks.entries x.locks.waiting
stores_sound l i x g f v s =
    rw s.locks
    record {
      good = good_weaker l.entries i s.entry l.waiting (ready_lesser (at l.entries i) s.entry s.lesser v) g;
      firm = firm_lesser l.entries i s.entry v s.lesser f;
    }

-- a release that is due frees a lock that is held
abbrev pub Owed : Due → Entry → Type 0
Owed not_due e = Unit {0}
Owed (due_now exclusive_lock) e = e.exclusive ≡ true
Owed (due_now shared_lock) e = no_shared e ≡ false

pub owed_any : (s : Standing) (e : Entry) → backing s e ≡ true → Owed (due_any s) e
owed_any no_release e b = tt
owed_any (release_of exclusive_lock m) e b = b
owed_any (release_of shared_lock m) e b = not_of _ b

pub owed_at : (n : ℕ) (s : Standing) (e : Entry) → backing s e ≡ true → Owed (due_at n s) e
owed_at n no_release e b = tt
owed_at n (release_of k m) e b = go (eqb m n)
  where
    go : (c : Bool) → Owed (cond c (due_now k) not_due) e
    go true = owed_any (release_of k m) e b
    go false = tt

pub without_num : (k : Kind) (e : Entry) → (without k e).number ≡ e.number
without_num exclusive_lock e = refl
without_num shared_lock e = refl
