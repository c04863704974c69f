-- 02, Q-5: a command that is tested just before it acts: what it notes, and what is done by it with its lock event. Assumes nothing.
use Rattle.std.specs.Prelude.{◌≡◌, cond, length}
use Rattle.std.proofs.Math.Path.{refl}
use Rattle.std.proofs.Common.{sym, ap, ap₂, subst, ◌∙◌, true≢false, zero-add}
use mathlib.Core.List.{List, [], ◌∷◌, ◌++◌, map, map-append}
use Prim.Native.Nat.{ℕ, zero, suc, ◌+◌, ◌≤◌}
use Rattle.wire.specs.Frame.{Frame, frame_of, bytes_of, written}
use Rattle.wire.specs.Splice.{splice}
use Rattle.model.specs.MessageTypes.{Interrupted, AsyncInterrupted}
use Rattle.model.specs.State.{Locks, Server, Rest, Entry, Exchange, at, exchange_at}
use Rattle.model.specs.Locks.{LockEvent, LockResult, change, frees, settle}
use Rattle.model.specs.Exchange.{out_of_turn, stepped, tested}
use Rattle.model.specs.Acts.{interruptions}
use Rattle.model.specs.Step.{finish, lock_frame}
use Rattle.state.specs.Grid.{upd}
use Rattle.state.specs.Change.{on_rest, on_entry, entry_with, order_with}
use Rattle.state.specs.Tidy.{Tidy}
use Rattle.state.specs.View.{Memory, view}
use Rattle.holding.specs.Outcome.{Met}
use Rattle.locks.specs.Settled.{settled}
use Rattle.sessions.specs.declared.Delivery.{Delivery}
use Rattle.sessions.specs.Did.{Did, numbers_of}
use Rattle.sessions.specs.Asynchronous.{delivered, plan_first}
use Rattle.sessions.specs.Synchronous.{with_slot, slot_changed, slot_twice, command_notes}
use Rattle.exchanges.specs.Interrupted.{Noted}
pub use Rattle.exchanges.specs.Interrupted.{commands_are}
use Rattle.effects.specs.LockMessages.{behind, behind_length}

-- a command just before it acts: tested, then what it notes, then the number expected moves
pub noted_then : (d d₁ d₂ : Server) (i : ℕ) (f g : Exchange → Exchange) (fs : List Frame) (out out₁ : List ℕ) (a : ℕ) → Noted d i f fs d₁ out out₁ a → d₂ ≡ on_rest d₁ (with_slot i g)
    → Noted d i (λ (x : Exchange). g (f x)) fs d₂ out out₁ a
noted_then d d₁ d₂ i f g fs out out₁ a p q = record { server = slot_twice d d₁ d₂ i f g (p.server ∙ sym (slot_changed d i f)) q; buffer = p.buffer; place = p.place }

abbrev pub Turned : Server → ℕ → ℕ → ℕ → ℕ → Server → List ℕ → List ℕ → ℕ → Type 0
Turned d i kind code n d' out out' r =
    Noted d i (λ (x : Exchange). stepped (command_notes kind code n (tested code x))) (cond (out_of_turn code (exchange_at d.rest i)) (interruptions (at d.locks.entries i) n) []) d' out out' r

-- what is done by a message that says fs first and leaves this rest: the answers of its lock event stand behind that
did_frames : (m m' : Memory) (out out₁ out' : List ℕ) (i n len a r : ℕ) (left : Rest) (fs : List Frame) (v : LockEvent) (told : Delivery) → told ≡ delivered n len r
    → entry_with 0 n (at (view m).locks.entries i) ≡ at (view m).locks.entries i → a ≤ length out → out₁ ≡ written out fs → a ≡ length (bytes_of fs)
    → (view m').locks ≡ (settled (view m).locks v).locks → (view m').rest ≡ left
    → out' ≡ splice out₁ a (bytes_of (map lock_frame (settled (view m).locks v).answers)) → r ≡ a + length (bytes_of (map lock_frame (settled (view m).locks v).answers)) → (Tidy m → Tidy m')
    → Did (finish (view m) (plan_first (view m) i len left fs v)) told m m' out out'
unfolding finish
did_frames m m' out out₁ out' i n len a r left fs v told t e fits o l ls rs ys zs u =
    let d : Server = view m in
    let x : LockResult = change d.locks v in
    let y : LockResult = settle (frees d.locks v) x.locks in
    let gs : List Frame = map lock_frame (x.answers ++ y.answers) in
    let s : fs ++ (map lock_frame x.answers ++ map lock_frame y.answers) ≡ fs ++ gs = ap (λ (l : List Frame). fs ++ l) (sym (map-append lock_frame x.answers y.answers)) in
    let c : a ≡ 0 + length (bytes_of fs) = l ∙ sym (zero-add _) in
    let z : r ≡ length (bytes_of (fs ++ gs)) = behind_length fs gs a c r zs in
    record {
      numbers = ap numbers_of t ∙ (λ j. record {
        refusal = 0;
        outcome = 6;
        session = ap (λ (x : Entry). x.number) e j;
        taken = 16 + len;
        output = (z ∙ ap (λ (l : List Frame). length (bytes_of l)) (sym s)) j;
        missing = 0;
      });
      server = (λ j. record { locks = ls j; rest = rs j });
      buffer = behind fs gs a c out out₁ out' fits o ys ∙ ap (written out) (sym s);
      same_memory = λ y. absurd (true≢false (sym y));
      same_buffer = λ y. absurd (true≢false (sym y));
      tidy = u;
    }

-- a command: what is said first and noted, then the lock event
pub did_noted : (m m₂ m' : Memory) (out out₁ out' : List ℕ) (i n len a r : ℕ) (g : Exchange → Exchange) (fs : List Frame) (v : LockEvent) (told : Delivery) → told ≡ delivered n len r
    → entry_with 0 n (at (view m).locks.entries i) ≡ at (view m).locks.entries i → a ≤ length out → Noted (view m) i g fs (view m₂) out out₁ a
    → (Tidy m → Tidy m₂) → Met (settled (view m₂).locks v) m₂ m' out₁ out' a r
    → Did (finish (view m) (plan_first (view m) i len (with_slot i g (view m).rest) fs v)) told m m' out out'
did_noted m m₂ m' out out₁ out' i n len a r g fs v told t e fits p u x =
    let y : Met (settled (view m).locks v) m₂ m' out₁ out' a r = subst (λ (l : Locks). Met (settled l v) m₂ m' out₁ out' a r) (ap (λ (k : Server). k.locks) p.server) x in
    did_frames m m' out out₁ out' i n len a r (with_slot i g (view m).rest) fs v told t e fits p.buffer p.place y.locks
    (y.rest ∙ ap (λ (k : Server). k.rest) p.server) y.buffer y.place (λ z. y.tidy (u z))

-- the number of a slot's last message says nothing of its connections
module _ {B : Type 0} (f : Entry → B) (g : Entry → Entry) (h : (x : Entry) → f (g x) ≡ f x) where
  kept : (l : List Entry) (i j : ℕ) → f (at (upd l i g) j) ≡ f (at l j)
  unfolding upd
  kept [] i j = refl
  kept (x ∷ xs) zero zero = h x
  kept (x ∷ xs) zero (suc j) = refl
  kept (x ∷ xs) (suc i) zero = refl
  kept (x ∷ xs) (suc i) (suc j) = kept xs i j

same_pair : (d d₁ : Server) (i k n : ℕ) → d₁ ≡ on_entry d i (order_with 0 k) → interruptions (at d₁.locks.entries i) n ≡ interruptions (at d.locks.entries i) n
same_pair d d₁ i k n e =
    let es : List Entry = d.locks.entries in
    ap (λ (x : Server). interruptions (at x.locks.entries i) n) e
    ∙ ap₂ (λ (a b : ℕ). frame_of a AsyncInterrupted 0 n [] ∷ frame_of b Interrupted 0 n [] ∷ [])
    (kept (λ (x : Entry). x.asynchronous) (order_with 0 k) (λ x. refl) es i i) (kept (λ (x : Entry). x.synchronous) (order_with 0 k) (λ x. refl) es i i)

-- the same with the lock event first: it notes the number, and nobody is told
pub did_after : (m m₁ m' : Memory) (out out' : List ℕ) (i n len a kind code k : ℕ) (v : LockEvent) (told : Delivery) → told ≡ delivered n len a
    → entry_with 0 n (at (view m).locks.entries i) ≡ at (view m).locks.entries i → a ≤ length out → view m₁ ≡ on_entry (view m) i (order_with 0 k)
    → Met (settled (view m).locks v) m m₁ out' out' a a → Turned (view m₁) i kind code k (view m') out out' a → (Tidy m₁ → Tidy m')
    → Did (finish (view m) (plan_first (view m) i len (with_slot i (λ (x : Exchange). stepped (command_notes kind code k (tested code x))) (view m).rest)
    (cond (out_of_turn code (exchange_at (view m).rest i)) (interruptions (at (view m).locks.entries i) k) []) v)) told m m' out out'
did_after m m₁ m' out out' i n len a kind code k v told t e fits o y q u =
    let d : Server = view m in
    let g : Exchange → Exchange = λ x. stepped (command_notes kind code k (tested code x)) in
    let fs : List Frame = cond (out_of_turn code (exchange_at d.rest i)) (interruptions (at d.locks.entries i) k) [] in
    let same : cond (out_of_turn code (exchange_at (view m₁).rest i)) (interruptions (at (view m₁).locks.entries i) k) [] ≡ fs =
    ap₂ (λ (x : Exchange) (l : List Frame). cond (out_of_turn code x) l []) (ap (λ (r : Rest). exchange_at r i) y.rest) (same_pair d (view m₁) i k k o) in
    let p : Noted (view m₁) i g fs (view m') out out' a = subst (λ (l : List Frame). Noted (view m₁) i g l (view m') out out' a) same q in
    did_frames m m' out out' out' i n len a a (with_slot i g d.rest) fs v told t e fits p.buffer p.place
    (ap (λ (x : Server). x.locks) p.server ∙ y.locks) (ap (λ (x : Server). x.rest) p.server ∙ ap (with_slot i g) y.rest) y.buffer y.place (λ z. u (y.tidy z))
