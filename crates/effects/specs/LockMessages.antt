-- Device clear and the lock messages: the answers of the lock event, what is said, and the answers of the grant pass. Assumes nothing.
use Rattle.std.specs.Prelude.{◌≡◌, refl, Bool, ℕ, ◌+◌, ◌≤◌, length}
use Rattle.std.proofs.Math.Path.{sym, ap, subst}
use Rattle.std.proofs.Common.{ap₂, ◌∙◌, arith, zero-add, length-append, eq-eqb, ne_eqb}
use Rattle.std.proofs.Math.Bool.{true, false}
use mathlib.Core.List.{List, [], ◌∷◌, ◌++◌, map, map-append, append-nil, append_assoc}
use Rattle.wire.specs.Frame.{Frame, frame_of, frame_bytes, bytes_of, written, bytes_one}
use Rattle.wire.specs.Splice.{splice, splice_splice}
use Rattle.model.specs.State.{Locks, Rest, Server, Standing, Standing.no_release, Standing.release_of, at, exchange_at, with_exchange}
use Rattle.model.specs.Interface.{Reply.took, Outcome.acted}
use Rattle.wire.specs.MessageId.{start}
use Rattle.model.specs.Exchange.{with_count, enter_clear}
use Rattle.model.specs.Locks.{LockEvent, LockEvent.request, LockEvent.release, LockEvent.clear, LockResult, stands, is_due, due_any, change, frees, settle, grant_pass}
use Rattle.model.specs.Acts.{preference, AsynchronousKind.k_lock, AsynchronousKind.k_device_clear, asynchronous_rest, asynchronous_said, asynchronous_event}
use Rattle.model.specs.Step.{Result, finish, lock_frame}
use Rattle.state.specs.Grid.{upd_upd}
use Rattle.state.specs.Change.{on_exchange, exchange_with, entry_with}
use Rattle.state.specs.Tidy.{Tidy}
use Rattle.state.specs.View.{Memory, memory, view, locks_of}
use Rattle.sessions.specs.Did.{Did}
use Rattle.sessions.specs.declared.Delivery.{Delivery}
use Rattle.sessions.specs.Asynchronous.{DidKind, delivered, plan_with, did_with, one_length}
use Rattle.sessions.specs.Synchronous.{slot_changed}
use Rattle.holding.specs.Outcome.{Met, bytes_of_append}
use Rattle.locks.specs.Settled.{settled}

-- frames behind frames
module _ (xs ys : List Frame) (a : ℕ) (e : a ≡ 0 + length (bytes_of xs)) where
  pub behind : (out out₁ out' : List ℕ) → a ≤ length out → out₁ ≡ splice out 0 (bytes_of xs) → out' ≡ splice out₁ a (bytes_of ys) → out' ≡ written out (xs ++ ys)
  behind out out₁ out' l p q =
      let f : 0 + length (bytes_of xs) ≤ length out = omega arith in
      q ∙ ap₂ (λ (x : List ℕ) (y : ℕ). splice x y (bytes_of ys)) p e ∙ splice_splice out 0 (bytes_of xs) f (bytes_of ys) ∙ ap (splice out 0) (sym (bytes_of_append xs ys))

  pub behind_length : (r : ℕ) → r ≡ a + length (bytes_of ys) → r ≡ length (bytes_of (xs ++ ys))
  behind_length r p = omega (arith, ap length (bytes_of_append xs ys), length-append (bytes_of xs) (bytes_of ys))

-- three stores enter device clear, and the count begins anew
pub clear_entered : (i : ℕ) (d d₁ d₂ d₃ d₄ d₅ d₆ : Server) → d₁ ≡ on_exchange d i (exchange_with 0 1) → d₂ ≡ on_exchange d₁ i (exchange_with 1 0) → d₃ ≡ on_exchange d₂ i (exchange_with 2 0)
    → d₄ ≡ on_exchange d₃ i (exchange_with 7 0) → d₅ ≡ on_exchange d₄ i (exchange_with 8 start) → d₆ ≡ on_exchange d₅ i (with_count start false) → d₆ ≡ on_exchange d i enter_clear
clear_entered i d d₁ d₂ d₃ d₄ d₅ d₆ e₁ e₂ e₃ e₄ e₅ e₆ = rw (e₆, e₅, e₄, e₃, e₂, e₁, upd_upd, upd_upd, upd_upd, upd_upd, upd_upd)

-- an event that says nothing but its answers, with the pass behind it; other stores came first
pub did_settled : (m m₁ m' : Memory) (out out' : List ℕ) (i n len r : ℕ) (q : Rest) (v : LockEvent) (told : Delivery) → told ≡ delivered n len r
    → entry_with 0 n (at (view m).locks.entries i) ≡ at (view m).locks.entries i → view m₁ ≡ record { locks = (view m).locks; rest = q } → (Tidy m → Tidy m₁)
    → Met (settled (view m₁).locks v) m₁ m' out out' 0 r → Did (finish (view m) (plan_with (view m) i len q [] v)) told m m' out out'
unfolding finish
did_settled m m₁ m' out out' i n len r q v told z e f u x =
    let d : Server = view m in
    let y : Met (settled d.locks v) m₁ m' out out' 0 r = subst (λ (l : Locks). Met (settled l v) m₁ m' out out' 0 r) (ap (λ (k : Server). k.locks) f) x in
    let xs : LockResult = change d.locks v in
    let ys : LockResult = settle (frees d.locks v) xs.locks in
    did_with d i n len r q [] v told m m' out out' (map lock_frame (xs.answers ++ ys.answers)) z e (sym (map-append lock_frame xs.answers ys.answers))
    (λ j. record { locks = y.locks j; rest = (y.rest ∙ ap (λ (k : Server). k.rest) f) j }) y.buffer (y.place ∙ zero-add _) (λ t. y.tidy (u t))

-- a release of slot i stands: one is due at a device clear
stood_due : (x : Standing) (b : Bool) → stands x ≡ b → is_due (due_any x) ≡ b
stood_due no_release b e = e
stood_due (release_of k n) b e = e

module _ (w s w₁ s₁ w₂ out out₁ out₂ : List ℕ) (i c n a k len : ℕ) (e : entry_with 0 n (at (locks_of w s).entries i) ≡ at (locks_of w s).entries i) (fits : a + 17 ≤ length out)
    (told : Delivery) (x : Met (change (locks_of w s) (clear i)) (memory w s) (memory w₁ s₁) out out₁ 0 a)
    (v : view (memory w₂ s₁) ≡ on_exchange (view (memory w₁ s₁)) i enter_clear)
    (prefers : preference (view (memory w s)) ≡ k) (o : out₂ ≡ splice out₁ a (frame_bytes (frame_of c 23 k 0 []))) (stay : Tidy (memory w₁ s₁) → Tidy (memory w₂ s₁)) where
  abbrev d : Server
  d = view (memory w s)

  abbrev left : LockResult
  left = change (locks_of w s) (clear i)

  abbrev q : Rest
  q = with_exchange d.rest i (enter_clear (exchange_at d.rest i))

  abbrev f : Frame
  f = frame_of c 23 (preference d) 0 []

  abbrev xs : List Frame
  xs = map lock_frame left.answers

  entered : view (memory w₂ s₁) ≡ record { locks = left.locks; rest = q }
  entered = v ∙ slot_changed (view (memory w₁ s₁)) i enter_clear ∙ (λ j. record { locks = x.locks j; rest = ap (λ (r : Rest). with_exchange r i (enter_clear (exchange_at r i))) x.rest j })

  -- the plan's result, by whether a release stood
  result : (b : Bool) → stands (at (locks_of w s).entries i).standing ≡ b
      → finish d (plan_with d i len q (f ∷ []) (clear i)) ≡ record {
        server = record { locks = (settle b left.locks).locks; rest = q };
        reply = took acted (16 + len) (at d.locks.entries i).number;
        frames = xs ++ ((f ∷ []) ++ map lock_frame (settle b left.locks).answers);
      }
  unfolding finish
  result b h =
      ap (λ (y : Bool). record {
        server = record { locks = (settle y left.locks).locks; rest = q };
        reply = took acted (16 + len) (at d.locks.entries i).number;
        frames = xs ++ ((f ∷ []) ++ map lock_frame (settle y left.locks).answers);
      })
      (stood_due (at (locks_of w s).entries i).standing b h)

  -- the answers and the acknowledgement behind them
  acknowledged : out₂ ≡ written out (xs ++ (f ∷ []))
  acknowledged = behind xs (f ∷ []) a x.place out out₁ out₂ (omega arith) x.buffer
      (o ∙ ap (λ (y : ℕ). splice out₁ a (frame_bytes (frame_of c 23 y 0 []))) (sym prefers) ∙ ap (splice out₁ a) (sym (bytes_one f)))

  acknowledged_length : a + 17 ≡ length (bytes_of (xs ++ (f ∷ [])))
  acknowledged_length = behind_length xs (f ∷ []) a x.place (a + 17) (ap (λ (y : ℕ). a + y) (one_length f 0 refl))

  pub clear_told : (code param : ℕ) (p : List ℕ) → told ≡ delivered n len (a + 17) → stands (at (locks_of w s).entries i).standing ≡ false
      → DidKind k_device_clear i c code param len p told (memory w s) (memory w₂ s₁) out out₂
  unfolding asynchronous_rest asynchronous_said asynchronous_event
  clear_told code param p z h t =
      did_with d i n len (a + 17) q (f ∷ []) (clear i) told (memory w s) (memory w₂ s₁) out out₂ (xs ++ (f ∷ [])) z e (ap (λ (y : Result). y.frames) (result false h))
      (entered ∙ sym (ap (λ (y : Result). y.server) (result false h))) acknowledged acknowledged_length (λ u. stay (x.tidy u))

  pub clear_granted : (w' s' out' : List ℕ) (r code param : ℕ) (p : List ℕ) → told ≡ delivered n len r → stands (at (locks_of w s).entries i).standing ≡ true
      → Met (grant_pass (locks_of w₂ s₁)) (memory w₂ s₁) (memory w' s') out₂ out' (a + 17) r → DidKind k_device_clear i c code param len p told (memory w s) (memory w' s') out out'
  unfolding asynchronous_rest asynchronous_said asynchronous_event
  clear_granted w' s' out' r code param p z h y t =
      let g : locks_of w₂ s₁ ≡ left.locks = ap (λ (k : Server). k.locks) entered in
      let y' : Met (grant_pass left.locks) (memory w₂ s₁) (memory w' s') out₂ out' (a + 17) r = subst (λ (l : Locks). Met (grant_pass l) (memory w₂ s₁) (memory w' s') out₂ out' (a + 17) r) g y in
      let ys : List Frame = map lock_frame (grant_pass left.locks).answers in
      let u : view (memory w' s') ≡ record { locks = (grant_pass left.locks).locks; rest = q } = (λ j. record { locks = y'.locks j; rest = (y'.rest ∙ ap (λ (k : Server). k.rest) entered) j }) in
      did_with d i n len r q (f ∷ []) (clear i) told (memory w s) (memory w' s') out out' ((xs ++ (f ∷ [])) ++ ys) z e
      (ap (λ (k : Result). k.frames) (result true h) ∙ sym (append_assoc xs (f ∷ []) ys))
      (u ∙ sym (ap (λ (k : Result). k.server) (result true h)))
      (behind (xs ++ (f ∷ [])) ys (a + 17) (acknowledged_length ∙ sym (zero-add _)) out out₂ out' fits acknowledged y'.buffer)
      (behind_length (xs ++ (f ∷ [])) ys (a + 17) (acknowledged_length ∙ sym (zero-add _)) r y'.place)
      (λ u. y'.tidy (stay (x.tidy u)))

pub release_told : (w s w' s' out out' : List ℕ) (i c n code param len r : ℕ) (p : List ℕ) (told : Delivery) → told ≡ delivered n len r →
    entry_with 0 n (at (locks_of w s).entries i) ≡ at (locks_of w s).entries i
    → code ≡ 0 → Met (settled (locks_of w s) (release i param)) (memory w s) (memory w' s') out out' 0 r
    → DidKind k_lock i c code param len p told (memory w s) (memory w' s') out out'
unfolding asynchronous_rest asynchronous_said asynchronous_event
release_told w s w' s' out out' i c n code param len r p told q e z x t =
    let g : Did (finish (view (memory w s)) (plan_with (view (memory w s)) i len (view (memory w s)).rest [] (release i param))) told (memory w s) (memory w' s') out out' =
    did_settled (memory w s) (memory w s) (memory w' s') out out' i n len r (view (memory w s)).rest (release i param) told q e refl (λ t. t) x in
    rw (eq-eqb code 0 z) g

pub request_told : (w s w' s' out out' : List ℕ) (i c n code param len r : ℕ) (p : List ℕ) (told : Delivery) → told ≡ delivered n len r →
    entry_with 0 n (at (locks_of w s).entries i) ≡ at (locks_of w s).entries i
    → (code ≡ 0 → ⊥) → Met (change (locks_of w s) (request i param p)) (memory w s) (memory w' s') out out' 0 r
    → DidKind k_lock i c code param len p told (memory w s) (memory w' s') out out'
unfolding finish asynchronous_rest asynchronous_said asynchronous_event
request_told w s w' s' out out' i c n code param len r p told q e z x t =
    let d : Server = view (memory w s) in
    let xs : List Frame = map lock_frame (change (locks_of w s) (request i param p)).answers in
    let g : Did (finish d (plan_with d i len d.rest [] (request i param p))) told (memory w s) (memory w' s') out out' =
    did_with d i n len r d.rest [] (request i param p) told (memory w s) (memory w' s') out out' xs q e (append-nil xs)
    (λ j. record { locks = x.locks j; rest = x.rest j }) x.buffer (x.place ∙ omega arith) x.tidy in
    rw (ne_eqb code 0 z) g
