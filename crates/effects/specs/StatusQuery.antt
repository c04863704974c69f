-- The status query: message available, and the byte that is answered. Assumes nothing.
use Rattle.std.specs.Prelude.{◌≡◌, Bool, true, false, not, ◌&&◌, cond, List, [], ℕ, ◌+◌, ◌*◌, ◌-◌, ◌/◌, ◌%◌, ◌<◌, eqb}
use Rattle.std.proofs.Math.Path.{refl, ap}
use Rattle.std.proofs.Common.{sym, ap₂, ◌∙◌, arith, get_or-set_same, eq-eqb, ne_eqb}
use Rattle.std.proofs.Math.ListN.{length}
use Rattle.wire.specs.MessageId.{next}
use Rattle.wire.specs.declared.Header.{Header}
use Rattle.wire.specs.Frame.{frame_of, frame_bytes}
use Rattle.wire.specs.Splice.{splice}
use Rattle.model.specs.State.{Exchange, Rest, Server, at, exchange_at, fresh_exchange, with_exchange}
use Rattle.model.specs.Sizes.{session_limit}
use Rattle.model.specs.MessageTypes.{AsyncStatusQuery}
use Rattle.model.specs.Exchange.{queried, available_in, available_at, status_byte}
use Rattle.model.specs.Acts.{AsynchronousKind.k_status_query, asynchronous_rest, asynchronous_said, asynchronous_event}
use Rattle.state.specs.Change.{on_rest, exchange_with, entry_with, single_with}
use Rattle.state.specs.Tidy.{Tidy}
use Rattle.state.specs.View.{memory, view, rest_of, locks_of}
use Rattle.sessions.specs.Closing.{exchanges_held}
use Rattle.sessions.specs.declared.Delivery.{Delivery}
use Rattle.sessions.specs.Asynchronous.{heading, DidKind, delivered, did_one}
use Rattle.sessions.specs.Synchronous.{with_slot}

-- the byte: the status byte with value 16 replaced by message available
abbrev pub low_status : ℕ → ℕ
low_status v = v % 256 % 16 + v % 256 / 32 * 32

without_16 : (b : ℕ) → b - b / 16 % 2 * 16 ≡ b % 16 + b / 32 * 32
without_16 b = omega arith

sixteen : (p : Bool) → cond p 1 0 * 16 ≡ cond p 16 0
sixteen true = refl
sixteen false = refl

module _ (r : Rest) (v : ℕ) (s : single_with 2 v r ≡ r) where
  pub byte_flag : (b : Bool) (m : ℕ) → m ≡ cond b 1 0 → low_status v + m * 16 ≡ status_byte r.status b
  byte_flag b m e =
      ap₂ ◌+◌ (sym (without_16 (v % 256)) ∙ ap (λ (y : Rest). y.status - y.status / 16 % 2 * 16) s) (ap (λ (y : ℕ). y * 16) e ∙ sixteen b)

-- message available, as a query of number n finds it that does not tell RMT-delivered
abbrev pub available_now : ℕ → Exchange → Bool
available_now n x = available_in x.overlap (heading AsyncStatusQuery 0 n 0) x

-- in overlap mode: some answer was sent, and the number behind the query's is not the next answer's
abbrev pub unread_by : ℕ → Exchange → Bool
unread_by n x = x.any_sent && not (eqb (next n) x.count)

module _ (x : Exchange) (n : ℕ) where
  pub unread_none : x.any_sent ≡ false → ◌≡◌ {A = ℕ} 0 (cond (unread_by n x) 1 0)
  unread_none h = rw h

  pub unread_last : x.any_sent ≡ true → next n ≡ x.count → ◌≡◌ {A = ℕ} 0 (cond (unread_by n x) 1 0)
  unread_last h e = rw (h, eq-eqb (next n) x.count e)

  pub unread_other : x.any_sent ≡ true → (next n ≡ x.count → ⊥) → ◌≡◌ {A = ℕ} 1 (cond (unread_by n x) 1 0)
  unread_other h o = rw (h, ne_eqb (next n) x.count o)

  -- by the mode
  pub now_overlap : (m : ℕ) → x.overlap ≡ true → m ≡ cond (unread_by n x) 1 0 → m ≡ cond (available_now n x) 1 0
  now_overlap m h e = rw h e

  pub now_synchronized : (m r : ℕ) → x.overlap ≡ false → exchange_with 2 r x ≡ x → m ≡ cond (eqb r 1) 1 0 → m ≡ cond (available_now n x) 1 0
  now_synchronized m r h q e = rw h (e ∙ ap (λ (y : Exchange). cond y.message_available 1 0) q)

-- as the query that tells it leaves it
available_behind : (h : Header) (x : Exchange) → available_at h x ≡ available_now h.param (queried h.code x)
unfolding available_at
available_behind h x = by x.overlap
  where
    by : (b : Bool) → available_in b h x ≡ available_in b (heading AsyncStatusQuery 0 h.param 0) (queried h.code x)
    by true = refl
    by false = refl

module _ (w s w' out out' : List ℕ) (i c n : ℕ) (few : i < session_limit) (e : entry_with 0 n (at (locks_of w s).entries i) ≡ at (locks_of w s).entries i) (told : Delivery) where
  pub status_told : (code param len b : ℕ) (p : List ℕ) → told ≡ delivered n len 17 → view (memory w' s) ≡ on_rest (view (memory w s)) (with_slot i (queried code))
      → b ≡ status_byte (rest_of w').status (available_now param (exchange_at (rest_of w') i))
      → out' ≡ splice out 0 (frame_bytes (frame_of c 22 b 0 [])) → (Tidy (memory w s) → Tidy (memory w' s))
      → DidKind k_status_query i c code param len p told (memory w s) (memory w' s) out out'
  unfolding asynchronous_rest asynchronous_said asynchronous_event
  status_told code param len b p r v q o u t =
      let d : Server = view (memory w s) in
      let h : Header = heading t code param len in
      let x : Exchange = exchange_at d.rest i in
      let l : i < length d.rest.exchanges = rw (exchanges_held w) few in
      let g : b ≡ status_byte d.rest.status (available_at h x) =
      q ∙ ap (λ (y : Server). status_byte y.rest.status (available_now param (exchange_at y.rest i))) v
      ∙ ap (λ (y : Exchange). status_byte d.rest.status (available_now param y)) (get_or-set_same d.rest.exchanges i (queried code x) fresh_exchange l)
      ∙ ap (status_byte d.rest.status) (sym (available_behind h x)) in
      did_one d i n len 0 (with_exchange d.rest i (queried code x)) (frame_of c 22 (status_byte d.rest.status (available_at h x)) 0 []) (frame_of c 22 b 0 []) told
      (memory w s) (memory w' s) out out' r e (ap (λ (y : ℕ). frame_of c 22 y 0 []) (sym g)) refl v o u
