-- Opening a session, its second connection and its closing, as changes of one slot. Assumes nothing.
use Rattle.std.specs.Prelude.{◌≡◌, refl, ℕ}
use Rattle.std.proofs.Common.{sym, ap, ◌∙◌}
use Rattle.model.specs.Lists.{keep}
use Rattle.model.specs.Sizes.{no_connection, before_first}
use Rattle.model.specs.State.{Entry, Server, Standing.no_release, no_grants, blank}
use Rattle.model.specs.Locks.{with_row, LockEvent.enter, LockEvent.join, LockEvent.close, elsewhere, without_exclusive, without_shared, with_order, with_granted, opened, joined, change}
use Rattle.state.specs.Grid.{upd_upd, upd_set}
use Rattle.state.specs.Change.{on_entry, order_with}
use Rattle.queue.specs.Queue.{on_waiting}
use Rattle.state.specs.Tidy.{Tidy}
use Rattle.state.specs.View.{Memory, view}
use Rattle.holding.specs.Outcome.{Quiet}

-- a slot without its locks, where no message acted, no release stands and no lock was granted
abbrev pub without_locks : Entry → Entry
without_locks e = with_granted no_grants (with_order before_first no_release (without_shared (without_exclusive e)))

-- six stores make it so
pub unlocked : (i : ℕ) (d d₁ d₂ d₃ d₄ d₅ d₆ : Server) → d₁ ≡ on_entry d i (order_with 0 before_first) → d₂ ≡ on_entry d₁ i (order_with 1 0) →
    d₃ ≡ on_entry d₂ i (order_with 2 0) → d₄ ≡ on_entry d₃ i (order_with 3 0)
    → d₅ ≡ on_entry d₄ i without_exclusive → d₆ ≡ on_entry d₅ i without_shared → d₆ ≡ on_entry d i without_locks
unlocked i d d₁ d₂ d₃ d₄ d₅ d₆ e₁ e₂ e₃ e₄ e₅ e₆ = rw (e₆, e₅, e₄, e₃, e₂, e₁, upd_upd, upd_upd, upd_upd, upd_upd, upd_upd)

-- another row without locks
pub renewed : (i n a b : ℕ) (d d₁ d₂ : Server) → d₁ ≡ on_entry d i (with_row n a b) → d₂ ≡ on_entry d₁ i without_locks → d₂ ≡ on_entry d i (λ (e : Entry). without_locks (with_row n a b e))
renewed i n a b d d₁ d₂ e₁ e₂ = rw (e₂, e₁, upd_upd)

pub entered : (m m₁ m' : Memory) (i n c : ℕ) → view m₁ ≡ on_entry (view m) i (with_row n c no_connection) → view m' ≡ on_entry (view m₁) i without_locks → (Tidy m → Tidy m')
    → Quiet (change (view m).locks (enter i n c)) m m'
unfolding change
entered m m₁ m' i n c e f t =
    let g : view m' ≡ on_entry (view m) i (λ (e : Entry). without_locks (with_row n c no_connection e)) = renewed i n c no_connection (view m) (view m₁) (view m') e f in
    record {
      locks = ap (λ (d : Server). d.locks) g ∙ (λ k. record {
        clock = (view m).locks.clock;
        entries = sym (upd_set (view m).locks.entries i blank (λ (e : Entry). opened n c)) k;
        waiting = (view m).locks.waiting;
      });
      rest = ap (λ (d : Server). d.rest) g;
      silent = refl;
      tidy = t;
    }

pub joining : (m m' : Memory) (i c : ℕ) → view m' ≡ on_entry (view m) i (joined c) → (Tidy m → Tidy m') → Quiet (change (view m).locks (join i c)) m m'
unfolding change
joining m m' i c e t =
    record {
      locks = ap (λ (d : Server). d.locks) e ∙ (λ k. record { clock = (view m).locks.clock; entries = sym (upd_set (view m).locks.entries i blank (joined c)) k; waiting = (view m).locks.waiting });
      rest = ap (λ (d : Server). d.rest) e;
      silent = refl;
      tidy = t;
    }

-- a closing: the slot is blank, its request is dropped
pub closed : (m m₁ m₂ m' : Memory) (i : ℕ) → view m₁ ≡ on_entry (view m) i (with_row 0 no_connection no_connection) → view m₂ ≡ on_entry (view m₁) i without_locks →
    view m' ≡ on_waiting (view m₂) (keep (elsewhere i)) → (Tidy m → Tidy m')
    → Quiet (change (view m).locks (close i)) m m'
unfolding change
closed m m₁ m₂ m' i e f k t =
    let b : Entry → Entry = (λ (e : Entry). without_locks (with_row 0 no_connection no_connection e)) in
    let g : view m' ≡ on_waiting (on_entry (view m) i b) (keep (elsewhere i)) = k
    ∙ ap (λ (d : Server). on_waiting d (keep (elsewhere i))) (renewed i 0 no_connection no_connection (view m) (view m₁) (view m₂) e f) in
    record {
      locks = ap (λ (d : Server). d.locks) g
          ∙ (λ k. record {
            clock = (view m).locks.clock;
            entries = sym (upd_set (view m).locks.entries i blank (λ (e : Entry). blank)) k;
            waiting = keep (elsewhere i) (view m).locks.waiting;
          });
      rest = ap (λ (d : Server). d.rest) g;
      silent = refl;
      tidy = t;
    }
