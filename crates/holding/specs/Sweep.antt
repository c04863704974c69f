-- A sweep of the queue: a request turned away by a device clear, a clock reading, a closing. Assumes nothing.
use Rattle.std.specs.Prelude.{◌≡◌, Bool, true, false, cond, ℕ, suc, ◌+◌, ◌*◌, ◌≤◌, length}
use Rattle.std.proofs.Math.Path.{refl}
use Rattle.std.proofs.Common.{sym, ap, ◌∙◌, arith, length-append}
use mathlib.Core.List.{List, [], ◌∷◌, map}
use Rattle.std.proofs.Math.Nat.{min-le_right}
use Rattle.wire.specs.Frame.{frame_bytes, bytes_of, length_frame}
use Rattle.model.specs.Sizes.{session_limit}
use Rattle.model.specs.Bound.{answers_room}
use Rattle.model.specs.Lists.{keep}
use Rattle.model.specs.State.{Entry, Waiting, Locks, Server}
use Rattle.model.specs.Locks.{Answer, LockEvent.reading, LockResult, tell, elsewhere, refuse, with_waiting, change}
use Rattle.model.specs.Step.{lock_frame}
use Rattle.state.specs.Change.{with_clock}
use Rattle.queue.specs.Queue.{on_waiting, count_is}
use Rattle.queue.specs.Requests.{count_of}
use Rattle.state.specs.Tidy.{Tidy}
use Rattle.state.specs.View.{Memory, locks_of, view}
use Rattle.holding.specs.Outcome.{Met, spot, ends, met, met_is, no_answers}
use Rattle.holding.specs.Waiting.{stays, swept}
use Rattle.holding.specs.declared.waiting.Leaving.{Leaving}
use Rattle.holding.specs.declared.waiting.Leaving.TheVariants.{OfSlot, By}

-- where nobody is answered, all stay
refuse_none : (es : List Entry) (p : Waiting → Bool) (ws : List Waiting) → refuse es p ws ≡ [] → keep p ws ≡ ws
refuse_none es p [] e = refl
refuse_none es p (w ∷ ws) e = by (p w) (refuse_none es p ws) e
  where
    by : (b : Bool) → (refuse es p ws ≡ [] → keep p ws ≡ ws) → cond b (refuse es p ws) (tell es w.slot 0 true ∷ refuse es p ws) ≡ [] → cond b (w ∷ keep p ws) (keep p ws) ≡ w ∷ ws
    by true f e = ap (λ (xs : List Waiting). w ∷ xs) (f e)
    by false f e = let z : ◌≡◌ {A = ℕ} 0 1 = cc in absurd (omega arith)

module _ (m : Memory) (g : Leaving) (out out' : List ℕ) (at r : ℕ)
    (e : ends (refuse (view m).locks.entries (stays g) (view m).locks.waiting) out at ≡ spot out' r) where
  pub swept_none : r ≡ at → Met (swept (view m).locks g) m m out out' at r
  unfolding swept
  swept_none p =
      let n : refuse (view m).locks.entries (stays g) (view m).locks.waiting ≡ [] = no_answers (refuse (view m).locks.entries (stays g) (view m).locks.waiting) out at out' r e p in
      met (swept (view m).locks g) m m out out' at r
      (ap (with_waiting (view m).locks) (sym (refuse_none (view m).locks.entries (stays g) (view m).locks.waiting n)))
      refl
      (sym e)
      (λ t. t)

  pub swept_some : (m' : Memory) → view m' ≡ on_waiting (view m) (keep (stays g)) → (Tidy m → Tidy m') → Met (swept (view m).locks g) m m' out out' at r
  unfolding swept
  swept_some m' v = met (swept (view m).locks g) m m' out out' at r (ap (λ (d : Server). d.locks) v) (ap (λ (d : Server). d.rest) v) (sym e)

-- the request of slot i is turned away
abbrev pub turned_away : Locks → ℕ → LockResult
turned_away l i = record { locks = with_waiting l (keep (elsewhere i) l.waiting); answers = refuse l.entries (elsewhere i) l.waiting }

pub cleared : (l : Locks) (i : ℕ) → swept l (OfSlot i) ≡ turned_away l i
unfolding swept
cleared l i = refl

-- a clock reading
pub expired : (m m₁ m' : Memory) (t : ℕ) (out out' : List ℕ) (at r : ℕ) → view m₁ ≡ with_clock (view m) t → (Tidy m → Tidy m₁) → Met (swept (view m₁).locks (By t)) m₁ m' out out' at r
    → Met (change (view m).locks (reading t)) m m' out out' at r
unfolding swept change
expired m m₁ m' t out out' at r e u p =
    let x : swept (view m₁).locks (By t) ≡ change (view m).locks (reading t) = ap (λ (d : Server). swept d.locks (By t)) e in
    let q : Met (change (view m).locks (reading t)) m₁ m' out out' at r = met_is (swept (view m₁).locks (By t)) (change (view m).locks (reading t)) m₁ m' out out' at r x p in
    record { locks = q.locks; rest = q.rest ∙ ap (λ (d : Server). d.rest) e; buffer = q.buffer; place = q.place; tidy = λ x. q.tidy (u x) }

-- how long the answers are
pub answers_length : (xs : List Answer) → length (bytes_of (map lock_frame xs)) ≡ 17 * length xs
unfolding bytes_of
answers_length [] = refl
answers_length (x ∷ xs) = omega (arith, length-append (frame_bytes (lock_frame x)) (bytes_of (map lock_frame xs)), length_frame (lock_frame x), answers_length xs)

refuse_length : (es : List Entry) (p : Waiting → Bool) (ws : List Waiting) → length (refuse es p ws) ≤ length ws
refuse_length es p [] = omega arith
refuse_length es p (w ∷ ws) = by (p w) (refuse_length es p ws)
  where
    by : (b : Bool) → length (refuse es p ws) ≤ length ws → length (cond b (refuse es p ws) (tell es w.slot 0 true ∷ refuse es p ws)) ≤ suc (length ws)
    by true h = omega arith
    by false h = omega arith

pub turned_short : (w s : List ℕ) (m m' : Memory) (i : ℕ) (out out' : List ℕ) (at r : ℕ) → Met (turned_away (locks_of w s) i) m m' out out' at r → r ≤ at + answers_room
turned_short w s m m' i out out' at r x =
    let es : List Entry = (locks_of w s).entries in
    let ws : List Waiting = (locks_of w s).waiting in
    let l : count_of w ≤ session_limit = min-le_right _ _ in
    omega (arith, x.place, answers_length (refuse es (elsewhere i) ws), refuse_length es (elsewhere i) ws, count_is w s)
