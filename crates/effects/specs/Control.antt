-- Remote/local control, the maximum message size, and lock info. Assumes nothing.
use Rattle.std.specs.Prelude.{◌≡◌, Bool, true, false, cond, List, [], ◌∷◌, ℕ, ◌≤◌, length, take}
use Rattle.std.proofs.Math.Path.{refl, ap}
use Rattle.std.proofs.Common.{sym, ap₂, ◌∙◌, arith}
use Rattle.std.proofs.Math.Seq.{take-length}
use Rattle.wire.specs.Field.{number, number_at, field}
use Rattle.wire.specs.Frame.{Frame, frame_of, frame_bytes}
use Rattle.wire.specs.Splice.{splice}
use Rattle.model.specs.State.{RemoteLocal, Rest, Server, at, exchange_at, with_exchange, with_remote_local}
use Rattle.model.specs.Exchange.{with_client_size, flags, controlled}
use Rattle.model.specs.Locks.{no_exclusive}
use Rattle.model.specs.Lists.{all, tally}
use Rattle.model.specs.Acts.{holder, AsynchronousKind.k_remote_local, AsynchronousKind.k_maximum_size, AsynchronousKind.k_lock_info, asynchronous_rest, asynchronous_said, asynchronous_event}
use Rattle.state.specs.Change.{on_rest, on_exchange, exchange_with, entry_with, single_with}
use Rattle.state.specs.Tidy.{Tidy}
use Rattle.state.specs.View.{flag, memory, view, locks_of}
use Rattle.sessions.specs.declared.Delivery.{Delivery}
use Rattle.sessions.specs.Asynchronous.{DidKind, delivered, did_one}
use Rattle.sessions.specs.Synchronous.{slot_changed}

-- all three flags
abbrev pub flagging : RemoteLocal → Rest → Rest
flagging x r = with_remote_local r x

-- the flags as the code says
abbrev pub controlling : ℕ → Rest → Rest
controlling code r = with_remote_local r (controlled code r.remote_local)

-- the three words, read
pub flags_read : (r : Rest) (e l m : ℕ) → single_with 4 e r ≡ r → single_with 5 l r ≡ r → single_with 6 m r ≡ r → flags (flag e) (flag l) (flag m) ≡ r.remote_local
flags_read r e l m p q o = λ k. record { enable = (p k).remote_local.enable; lockout = (q k).remote_local.lockout; remote = (o k).remote_local.remote }

flag_word : (b : Bool) (v : ℕ) → v ≡ cond b 1 0 → flag v ≡ b
flag_word true v e = ap flag e
flag_word false v e = ap flag e

pub flag_small : (b : Bool) (v : ℕ) → v ≡ cond b 1 0 → v ≤ 1
flag_small true v e = omega arith
flag_small false v e = omega arith

module _ (d : Server) where
  -- the three words, stored one after the other
  pub flagged : (d₁ d₂ d₃ : Server) (x : RemoteLocal) (e l m : ℕ) → e ≡ cond x.enable 1 0 → l ≡ cond x.lockout 1 0 → m ≡ cond x.remote 1 0
      → d₁ ≡ on_rest d (single_with 4 e) → d₂ ≡ on_rest d₁ (single_with 5 l) → d₃ ≡ on_rest d₂ (single_with 6 m) → d₃ ≡ on_rest d (flagging x)
  flagged d₁ d₂ d₃ x e l m p q o v₁ v₂ v₃ =
      v₃ ∙ ap (λ (y : Server). on_rest y (single_with 6 m)) (v₂ ∙ ap (λ (y : Server). on_rest y (single_with 5 l)) v₁)
      ∙ (λ k. on_rest d (flagging (record { enable = flag_word x.enable e p k; lockout = flag_word x.lockout l q k; remote = flag_word x.remote m o k })))

  -- read, made anew by the code, stored
  pub controls : (d' : Server) (code : ℕ) (x y : RemoteLocal) → x ≡ d.rest.remote_local → y ≡ controlled code x → d' ≡ on_rest d (flagging y) → d' ≡ on_rest d (controlling code)
  controls d' code x y e f v = v ∙ ap (λ (z : RemoteLocal). on_rest d (flagging z)) (f ∙ ap (controlled code) e)

module _ (w s w' out out' : List ℕ) (i c n : ℕ) (e : entry_with 0 n (at (locks_of w s).entries i) ≡ at (locks_of w s).entries i) (told : Delivery) where
  pub control_told : (code param len : ℕ) (p : List ℕ) → told ≡ delivered n len 17 → view (memory w' s) ≡ on_rest (view (memory w s)) (controlling code)
      → out' ≡ splice out 0 (frame_bytes (frame_of c 11 0 0 [])) → (Tidy (memory w s) → Tidy (memory w' s))
      → DidKind k_remote_local i c code param len p told (memory w s) (memory w' s) out out'
  unfolding asynchronous_rest asynchronous_said asynchronous_event
  control_told code param len p q v o u t =
      did_one (view (memory w s)) i n len 0 (controlling code (view (memory w s)).rest) (frame_of c 11 0 0 []) (frame_of c 11 0 0 []) told (memory w s) (memory w' s) out out' q e refl refl v o u

  -- 1,024 in 8 bytes
  pub size_told : (code param len size : ℕ) (p : List ℕ) → told ≡ delivered n len 25 → length p ≡ 8 → size ≡ number_at p 0 8 →
      view (memory w' s) ≡ on_exchange (view (memory w s)) i (exchange_with 3 size)
      → out' ≡ splice out 0 (frame_bytes (frame_of c 16 0 0 (0 ∷ 0 ∷ 0 ∷ 0 ∷ 0 ∷ 0 ∷ 4 ∷ 0 ∷ []))) → (Tidy (memory w s) → Tidy (memory w' s))
      → DidKind k_maximum_size i c code param len p told (memory w s) (memory w' s) out out'
  unfolding asynchronous_rest asynchronous_said asynchronous_event field
  size_told code param len size p r l q v o u t =
      let d : Server = view (memory w s) in
      let f : Frame = frame_of c 16 0 0 (0 ∷ 0 ∷ 0 ∷ 0 ∷ 0 ∷ 0 ∷ 4 ∷ 0 ∷ []) in
      let z : size ≡ number p = q ∙ ap (λ (x : ℕ). number (take x p)) (sym l) ∙ ap number (take-length p) in
      did_one d i n len 8 (with_exchange d.rest i (with_client_size (number p) (exchange_at d.rest i))) f f told (memory w s) (memory w' s) out out' r e refl refl
      (v ∙ ap (λ (x : ℕ). on_exchange d i (exchange_with 3 x)) z ∙ slot_changed d i (with_client_size (number p))) o u

  pub info_told : (code param len x y : ℕ) (p : List ℕ) → told ≡ delivered n len 17 → cond (all no_exclusive (locks_of w s).entries) 0 1 ≡ x → tally holder (locks_of w s).entries ≡ y
      → out' ≡ splice out 0 (frame_bytes (frame_of c 25 x y []))
      → DidKind k_lock_info i c code param len p told (memory w s) (memory w s) out out'
  unfolding asynchronous_rest asynchronous_said asynchronous_event
  info_told code param len x y p z q r o t =
      did_one (view (memory w s)) i n len 0 (view (memory w s)).rest
      (frame_of c 25 (cond (all no_exclusive (locks_of w s).entries) 0 1) (tally holder (locks_of w s).entries) []) (frame_of c 25 x y []) told
      (memory w s) (memory w s) out out' z e (ap₂ (λ (a b : ℕ). frame_of c 25 a b []) q r) refl refl o (λ u. u)
