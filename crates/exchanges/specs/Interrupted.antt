-- 02, Q-5: interrupted queries. What is noted in a session's exchange and said with it; the test of each Data, DataEND and Trigger just
-- before it acts; and whether an answer is withheld. Assumes nothing.
use Rattle.std.specs.Prelude.{◌≡◌, refl, Bool, true, ◌&&◌, ◌||◌, cond, ℕ, ◌+◌, ◌≤◌, ◌<◌, eqb, leb}
use Rattle.std.proofs.Math.Path.{sym, ap, ap₂}
use Rattle.std.proofs.Common.{subst, ◌∙◌, true≢false, length-append, eq-eqb, ne_eqb, le-leb, leb-true}
use Rattle.std.proofs.Math.Bool.{false, not}
use mathlib.Core.List.{List, [], ◌∷◌, ◌++◌}
use Rattle.std.proofs.Math.ListN.{length, get_or-eq_default}
use Rattle.std.proofs.lemmas.Bool.{lt-leb}
use Rattle.wire.specs.declared.Header.{Header}
use Rattle.wire.specs.Frame.{Frame, frame_of, frame_bytes, bytes_of, written, length_frame}
use Rattle.wire.specs.Splice.{splice, splice_nil}
use Rattle.wire.specs.Message.{header, prologue}
use Rattle.wire.specs.Class.{one_of}
use Rattle.model.specs.Sizes.{connection_limit}
use Rattle.model.specs.MessageTypes.{Data, DataEND, Trigger, Interrupted, AsyncInterrupted, commands}
use Rattle.model.specs.State.{Server, Rest, Entry, Exchange, Connection, closed_connection, at, exchange_at, connection_at, with_exchange}
use Rattle.model.specs.Exchange.{after_rmt, note_rmt, queried, interrupted, interrupts, differs, out_of_turn, tested, with_expectation}
use Rattle.model.specs.Acts.{interruptions}
use Rattle.state.specs.Change.{on_rest, on_exchange, exchange_with, connection_with}
use Rattle.state.specs.View.{rest_of}
use Rattle.sessions.specs.Closing.{connections_held}
use Rattle.sessions.specs.Replies.{two_frames}
use Rattle.sessions.specs.Synchronous.{with_slot, slot_changed, slot_twice, slot_then, is_command}

-- slot i's exchange changed by g, and these frames at the beginning of the buffer; r is the place behind them
pub record Noted (d : Server) (i : ℕ) (g : Exchange → Exchange) (fs : List Frame) (d' : Server) (out out' : List ℕ) (r : ℕ) : Type 0 where
  pub server : d' ≡ on_rest d (with_slot i g)
  pub buffer : out' ≡ written out fs
  pub place : r ≡ length (bytes_of fs)

-- the pair of frames
module _ (e : Entry) (n : ℕ) where
  pub pair_length : 34 ≡ length (bytes_of (interruptions e n))
  unfolding bytes_of
  pair_length =
      let f : Frame = frame_of e.asynchronous AsyncInterrupted 0 n [] in
      let g : Frame = frame_of e.synchronous Interrupted 0 n [] in
      sym (length-append (frame_bytes f) (frame_bytes g ++ []) ∙ ap₂ (λ (a b : ℕ). a + b) (length_frame f) (length-append (frame_bytes g) [] ∙ ap (λ (a : ℕ). a + 0) (length_frame g)))

  pub pair_put : (x y : ℕ) (out out₁ out₂ : List ℕ) → e.asynchronous ≡ x → e.synchronous ≡ y → 17 ≤ length out
      → out₁ ≡ splice out 0 (frame_bytes (frame_of x AsyncInterrupted 0 n [])) → out₂ ≡ splice out₁ 17 (frame_bytes (frame_of y Interrupted 0 n []))
      → out₂ ≡ splice out 0 (bytes_of (interruptions e n))
  pair_put x y out out₁ out₂ p q h o₁ o₂ =
      two_frames out out₁ out₂ (frame_of x AsyncInterrupted 0 n []) (frame_of y Interrupted 0 n []) (length_frame (frame_of x AsyncInterrupted 0 n [])) h o₁ o₂
      ∙ ap₂ (λ (a b : ℕ). splice out 0 (bytes_of (frame_of a AsyncInterrupted 0 n [] ∷ frame_of b Interrupted 0 n [] ∷ []))) (sym p) (sym q)

-- two stores: nothing is asked, message available is off
pub both_off : (d d₁ d₂ : Server) (i : ℕ) → d₁ ≡ on_exchange d i (exchange_with 1 0) → d₂ ≡ on_exchange d₁ i (exchange_with 2 0) → d₂ ≡ on_rest d (with_slot i interrupted)
both_off d d₁ d₂ i e₁ e₂ = slot_then d d₁ d₂ i (exchange_with 1 0) (exchange_with 2 0) (e₁ ∙ slot_changed d i (exchange_with 1 0)) e₂

module _ (d : Server) (i n : ℕ) where
  abbrev mine : Exchange
  mine = exchange_at d.rest i

  -- what a message says and leaves that interrupts, or does not
  abbrev pair_if : Bool → List Frame
  pair_if b = cond b (interruptions (at d.locks.entries i) n) []

  abbrev left_if : Bool → Server
  left_if b = on_rest d (λ (r : Rest). with_exchange r i (with_expectation false (cond b (interrupted mine) mine)))

  -- a message out of turn: unless the session is in overlap mode it interrupts
  abbrev pub OutOfTurn : Server → List ℕ → List ℕ → ℕ → Type 0
  OutOfTurn d' out out' r = Noted d i (λ (x : Exchange). with_expectation false (cond (not x.overlap) (interrupted x) x)) (pair_if (not mine.overlap)) d' out out' r

  -- each Data, DataEND and Trigger, tested just before it acts
  abbrev pub Tested : ℕ → Server → List ℕ → List ℕ → ℕ → Type 0
  Tested code d' out out' r = Noted d i (tested code) (pair_if (out_of_turn code mine)) d' out out' r

  pub overlap_turn : (d' : Server) (out : List ℕ) → d' ≡ on_exchange d i (exchange_with 7 0) → mine.overlap ≡ true → OutOfTurn d' out out 0
  unfolding bytes_of
  overlap_turn d' out v e =
      let t : false ≡ not mine.overlap = ap not (sym e) in
      record {
        server = v ∙ slot_changed d i (exchange_with 7 0) ∙ ap left_if t;
        buffer = sym (splice_nil out 0) ∙ ap (λ (b : Bool). written out (pair_if b)) t;
        place = ap (λ (b : Bool). length (bytes_of (pair_if b))) t;
      }

  pub interrupting_turn : (d₁ d' : Server) (out out' : List ℕ) (r : ℕ) → Noted d i interrupted (interruptions (at d.locks.entries i) n) d₁ out out' r
      → d' ≡ on_exchange d₁ i (exchange_with 7 0) → mine.overlap ≡ false → OutOfTurn d' out out' r
  interrupting_turn d₁ d' out out' r x v e =
      let t : true ≡ not mine.overlap = ap not (sym e) in
      record {
        server = slot_then d d₁ d' i interrupted (exchange_with 7 0) x.server v ∙ ap left_if t;
        buffer = x.buffer ∙ ap (λ (b : Bool). written out (pair_if b)) t;
        place = x.place ∙ ap (λ (b : Bool). length (bytes_of (pair_if b))) t;
      }

  -- the test, by whether RMT-delivered differs from what is expected
  and_false : (b : Bool) → (b && false) ≡ false
  and_false true = refl
  and_false false = refl

  and_true : (b : Bool) → (b && true) ≡ b
  and_true true = refl
  and_true false = refl

  pub tested_in_turn : (code : ℕ) (d' : Server) (out : List ℕ) → differs (eqb code 1) mine.rmt_expected ≡ false → d' ≡ on_exchange d i (exchange_with 7 0) → Tested code d' out out 0
  unfolding bytes_of
  tested_in_turn code d' out h v =
      let t : false ≡ out_of_turn code mine = sym (ap (λ (b : Bool). not mine.overlap && b) h ∙ and_false (not mine.overlap)) in
      record {
        server = v ∙ slot_changed d i (exchange_with 7 0) ∙ ap left_if t;
        buffer = sym (splice_nil out 0) ∙ ap (λ (b : Bool). written out (pair_if b)) t;
        place = ap (λ (b : Bool). length (bytes_of (pair_if b))) t;
      }

  pub tested_out_of_turn : (code : ℕ) (d' : Server) (out out' : List ℕ) (r : ℕ) → differs (eqb code 1) mine.rmt_expected ≡ true → OutOfTurn d' out out' r → Tested code d' out out' r
  tested_out_of_turn code d' out out' r h z =
      let t : not mine.overlap ≡ out_of_turn code mine = sym (ap (λ (b : Bool). not mine.overlap && b) h ∙ and_true (not mine.overlap)) in
      record {
        server = z.server ∙ ap left_if t;
        buffer = z.buffer ∙ ap (λ (b : Bool). written out (pair_if b)) t;
        place = z.place ∙ ap (λ (b : Bool). length (bytes_of (pair_if b))) t;
      }

-- the comparison of two words that are 1 or 0
module _ (x : Exchange) (code a n m : ℕ) (read : exchange_with 7 a x ≡ x) (p : n ≡ cond (eqb code 1) 1 0) (q : m ≡ cond (eqb a 1) 1 0) where
  abbrev bit : Bool → ℕ
  bit b = cond b 1 0

  as_bits : (b c : Bool) → differs b c ≡ not (eqb (bit b) (bit c))
  as_bits true true = refl
  as_bits true false = refl
  as_bits false true = refl
  as_bits false false = refl

  expected : x.rmt_expected ≡ eqb a 1
  expected = sym (ap (λ (z : Exchange). z.rmt_expected) read)

  pub differs_by_words : differs (eqb code 1) x.rmt_expected ≡ not (eqb n m)
  differs_by_words = as_bits (eqb code 1) x.rmt_expected ∙ ap₂ (λ (u v : ℕ). not (eqb u v)) (sym p) (ap bit expected ∙ sym q)

-- the bytes shown with an answer
pub commands_are : (k : ℕ) → is_command k ≡ one_of commands k
commands_are k = by (eqb k Data) (eqb k DataEND) (eqb k Trigger)
  where
    by : (x y z : Bool) → (x || (y || z)) ≡ (x || (y || (z || false)))
    by true y z = refl
    by false true z = refl
    by false false true = refl
    by false false false = refl

module _ (r : ℕ) (bs : List ℕ) where
  pub skips_first : (r ≡ 0 → ⊥) → interrupts r bs ≡ false
  skips_first o = rw (ne_eqb r 0 o)

  pub no_header : r ≡ 0 → length bs < 16 → interrupts r bs ≡ false
  no_header e l = rw (eq-eqb r 0 e, lt-leb 16 (length bs) l)

  pub no_prologue : r ≡ 0 → 16 ≤ length bs → prologue bs ≡ false → interrupts r bs ≡ false
  no_prologue e l p = rw (eq-eqb r 0 e, le-leb 16 (length bs) l, p)

  pub by_kind : r ≡ 0 → 16 ≤ length bs → prologue bs ≡ true → (h : Header) → h ≡ header bs → (b : Bool) → is_command h.kind ≡ b → interrupts r bs ≡ b
  by_kind e l p h f b c = rw (eq-eqb r 0 e, le-leb 16 (length bs) l, p) (sym (commands_are (header bs).kind) ∙ ap (λ (x : Header). is_command x.kind) (sym f) ∙ c)

-- is an answer of slot i withheld?
abbrev pub withheld_at : Server → ℕ → Bool → List ℕ → Bool
withheld_at d i end sh =
    end && (not (exchange_at d.rest i).overlap && interrupts (connection_at d.rest (at d.locks.entries i).synchronous).remainder sh)

module _ (d : Server) (i : ℕ) (end : Bool) (sh : List ℕ) where
  pub sent_without_end : end ≡ false → withheld_at d i end sh ≡ false
  sent_without_end e = rw e

  pub sent_in_overlap : end ≡ true → (exchange_at d.rest i).overlap ≡ true → withheld_at d i end sh ≡ false
  sent_in_overlap e o = rw (e, o)

  pub withheld_by : end ≡ true → (exchange_at d.rest i).overlap ≡ false → (c r : ℕ) (b : Bool) → (at d.locks.entries i).synchronous ≡ c →
      (connection_at d.rest c).remainder ≡ r → interrupts r sh ≡ b
      → withheld_at d i end sh ≡ b
  withheld_by e o c r b p q t =
      rw (e, o) (ap (λ (x : ℕ). interrupts (connection_at d.rest x).remainder sh) p ∙ ap (λ (x : ℕ). interrupts x sh) q ∙ t)

  -- then a whole header is here
  pub header_shown : withheld_at d i end sh ≡ true → 16 ≤ length sh
  header_shown e = leb-true 16 (length sh) (deep end (not (exchange_at d.rest i).overlap)
      (eqb (connection_at d.rest (at d.locks.entries i).synchronous).remainder 0) (leb 16 (length sh))
      (prologue sh && one_of commands (header sh).kind) e)
    where
      deep : (a b c x y : Bool) → (a && (b && (c && (x && y)))) ≡ true → x ≡ true
      deep true true true true y e = refl
      deep true true true false y e = e
      deep true true false x y e = absurd (true≢false (sym e))
      deep true false c x y e = absurd (true≢false (sym e))
      deep false b c x y e = absurd (true≢false (sym e))

-- the remainder of a connection, from the word that was read; past the table there is none
pub remainder_read : (x : Connection) (r : ℕ) → connection_with 1 r x ≡ x → x.remainder ≡ r
remainder_read x r e = sym (ap (λ (y : Connection). y.remainder) e)

pub remainder_past : (w : List ℕ) (c : ℕ) → connection_limit ≤ c → (connection_at (rest_of w) c).remainder ≡ 0
remainder_past w c h =
    let l : length (rest_of w).connections ≤ c = rw (connections_held w) h in
    ap (λ (x : Connection). x.remainder) (get_or-eq_default (rest_of w).connections closed_connection l)

-- the number shown
pub noted_number : (d : Server) (i : ℕ) (n n' : ℕ) (d' : Server) (out out' : List ℕ) (r : ℕ) → n ≡ n'
    → Noted d i interrupted (interruptions (at d.locks.entries i) n) d' out out' r → Noted d i interrupted (interruptions (at d.locks.entries i) n') d' out out' r
noted_number d i n n' d' out out' r e x = subst (λ (k : ℕ). Noted d i interrupted (interruptions (at d.locks.entries i) k) d' out out' r) e x

-- a control code as a word
pub wide_bit : (a code x : ℕ) → a ≡ code → x ≡ cond (eqb a 1) 1 0 → x ≡ cond (eqb code 1) 1 0
wide_bit a code x e p = rw (← e) p

-- a status query: the expectation, then message available
abbrev still : ℕ → Exchange → Exchange
still code x = with_expectation (after_rmt code x.rmt_expected) x

pub expectation_kept : (d d₁ : Server) (i code a v : ℕ) → exchange_with 7 a (exchange_at d.rest i) ≡ exchange_at d.rest i
    → eqb v 1 ≡ (not (eqb code 1) && eqb a 1) → d₁ ≡ on_exchange d i (exchange_with 7 v) → (d₂ : Server) → d₂ ≡ on_rest d₁ (with_slot i (note_rmt code)) → d₂ ≡ on_rest d (with_slot i (queried code))
expectation_kept d d₁ i code a v x e q d₂ p =
    let t : d₁ ≡ on_rest d (with_slot i (still code)) =
    q ∙ slot_changed d i (exchange_with 7 v) ∙ ap (λ (b : Bool). on_rest d (with_slot i (with_expectation b))) (e ∙ ap (λ (z : Exchange). not (eqb code 1) && z.rmt_expected) x) in
    slot_twice d d₁ d₂ i (still code) (note_rmt code) (t ∙ sym (slot_changed d i (still code))) p
