-- Messages that act on the synchronous channel: what their stores do to the session's exchange, and the model's plan by kind.
-- Assumes nothing.
use Rattle.std.specs.Prelude.{◌≡◌, Bool, not, ◌&&◌, ◌||◌, cond, List, [], ℕ, ◌+◌, ◌*◌, ◌-◌, ◌%◌, ◌^◌, ◌<◌, ◌≤◌, eqb}
use Rattle.std.proofs.Math.Path.{refl}
use Rattle.std.proofs.Common.{sym, ap, subst, ◌∙◌, true≢false, mod-eq_of_lt, arith, eq-eqb, ne_eqb}
use Rattle.std.proofs.Math.Bool.{true, false}
use Rattle.wire.specs.Frame.{Frame}
use Rattle.wire.specs.declared.Header.{Header}
use Rattle.model.specs.MessageTypes.{Data, DataEND, Trigger, DeviceClearAcknowledge}
use Rattle.model.specs.State.{Server, Rest, Exchange, Asked, Asked.none, Asked.some, at, fresh_exchange, exchange_at, with_exchange}
use Rattle.model.specs.Interface.{Reply.took, Outcome.acted}
use Rattle.model.specs.Exchange.{after_rmt, with_answering, note_rmt, ask, bit0, leave_clear, out_of_turn, stepped, tested}
use Rattle.model.specs.Place.{Role.r_synchronous}
use Rattle.model.specs.Locks.{LockEvent.nothing, LockEvent.command}
use Rattle.model.specs.Acts.{Plan, say, SynchronousKind, SynchronousKind.k_data, SynchronousKind.k_data_end, SynchronousKind.k_trigger}
use Rattle.model.specs.Acts.{SynchronousKind.k_clear_complete, synchronous_exchange, interruptions, synchronous_first, synchronous_said}
use Rattle.model.specs.Acts.{synchronous_event, acts}
use Rattle.state.specs.Grid.{upd_upd, upd_set}
use Rattle.state.specs.Change.{on_rest, on_exchange, exchange_with}
use Rattle.state.specs.View.{Memory, asked_of}
use Rattle.model.specs.Step.{finish}
use Rattle.sessions.specs.declared.Delivery.{Delivery}
use Rattle.sessions.specs.Asynchronous.{plan_with, plan_first}
use Rattle.sessions.specs.Did.{Did}

-- the session's exchange changed by g
abbrev pub with_slot : ℕ → (Exchange → Exchange) → Rest → Rest
with_slot i g r = with_exchange r i (g (exchange_at r i))

-- a change of one exchange, as the state has it and as the model has it
pub slot_changed : (d : Server) (i : ℕ) (g : Exchange → Exchange) → on_exchange d i g ≡ on_rest d (with_slot i g)
slot_changed d i g =
    ap (λ (l : List Exchange). on_rest d (λ (r : Rest). record {
      exchanges = l;
      sensings = r.sensings;
      connections = r.connections;
      last_issued = r.last_issued;
      made = r.made;
      status = r.status;
      remote_local = r.remote_local;
      allowed = r.allowed;
    })) (sym (upd_set d.rest.exchanges i fresh_exchange g))

-- two changes of one exchange
pub slot_twice : (d d₁ d₂ : Server) (i : ℕ) (f g : Exchange → Exchange) → d₁ ≡ on_exchange d i f → d₂ ≡ on_rest d₁ (with_slot i g) → d₂ ≡ on_rest d (with_slot i (λ (x : Exchange). g (f x)))
slot_twice d d₁ d₂ i f g e₁ e₂ =
    e₂ ∙ sym (slot_changed d₁ i g) ∙ ap (λ (x : Server). on_exchange x i g) e₁
    ∙ ap (λ (l : List Exchange). on_rest d (λ (r : Rest). record {
      exchanges = l;
      sensings = r.sensings;
      connections = r.connections;
      last_issued = r.last_issued;
      made = r.made;
      status = r.status;
      remote_local = r.remote_local;
      allowed = r.allowed;
    }))
    (upd_upd d.rest.exchanges i f g)
    ∙ slot_changed d i (λ (x : Exchange). g (f x))

pub slot_then : (d d₁ d₂ : Server) (i : ℕ) (f g : Exchange → Exchange) → d₁ ≡ on_rest d (with_slot i f) → d₂ ≡ on_exchange d₁ i g → d₂ ≡ on_rest d (with_slot i (λ (x : Exchange). g (f x)))
slot_then d d₁ d₂ i f g e₁ e₂ = slot_twice d d₁ d₂ i f g (e₁ ∙ sym (slot_changed d i f)) (e₂ ∙ slot_changed d₁ i g)

-- two changes of one exchange, as the model has them
pub slot_both : (d d₁ d₂ : Server) (i : ℕ) (f g : Exchange → Exchange) → d₁ ≡ on_rest d (with_slot i f) → d₂ ≡ on_rest d₁ (with_slot i g) → d₂ ≡ on_rest d (with_slot i (λ (x : Exchange). g (f x)))
slot_both d d₁ d₂ i f g e₁ e₂ = slot_twice d d₁ d₂ i f g (e₁ ∙ sym (slot_changed d i f)) e₂

-- DeviceClearComplete: two stores, the second by the code's bit 0
pub clear_left : (d d₁ d₂ : Server) (i code : ℕ) → d₁ ≡ on_exchange d i (exchange_with 0 0) → d₂ ≡ on_exchange d₁ i (exchange_with 4 (code % 2)) → d₂ ≡ on_rest d (with_slot i (leave_clear code))
clear_left d d₁ d₂ i code e₁ e₂ = slot_twice d d₁ d₂ i (exchange_with 0 0) (exchange_with 4 (code % 2)) e₁ (e₂ ∙ slot_changed d₁ i (exchange_with 4 (code % 2)))

-- RMT-delivered: the word that is stored says what the word that stood there and the code say
pub rmt_kept : (d : Server) (i code : ℕ) (d₁ : Server) (a v : ℕ) → exchange_with 2 a (exchange_at d.rest i) ≡ exchange_at d.rest i
    → eqb v 1 ≡ (not (eqb code 1) && eqb a 1) → d₁ ≡ on_exchange d i (exchange_with 2 v) → d₁ ≡ on_rest d (with_slot i (note_rmt code))
rmt_kept d i code d₁ a v x e q =
    q ∙ slot_changed d i (exchange_with 2 v)
    ∙ ap (λ (b : Bool). on_rest d (with_slot i (λ (x : Exchange). with_answering x.asked b x)))
    (e ∙ ap (λ (z : Exchange). not (eqb code 1) && z.message_available) x)

-- a product is a test
pub both_on : (p q : Bool) → eqb (cond p 1 0 * (1 - cond q 1 0)) 1 ≡ (not q && p)
both_on true true = refl
both_on true false = refl
both_on false true = refl
both_on false false = refl

pub both_small : (p q : Bool) → cond p 1 0 * (1 - cond q 1 0) ≤ 1
both_small true true = omega arith
both_small true false = omega arith
both_small false true = omega arith
both_small false false = omega arith

-- what is asked, plus 1
pub asked_stored : (p : ℕ) → p < 2 ^ 32 → asked_of (p + 1) ≡ some p
asked_stored p h =
    let e : p + 1 - 1 ≡ p = omega arith in
    ap (λ (b : Bool). cond b none (some ((p + 1 - 1) % 2 ^ 32))) (ne_eqb (p + 1) 0 (omega arith)) ∙ ap some (ap (λ (x : ℕ). x % 2 ^ 32) e ∙ mod-eq_of_lt h)

pub asked_told : (d d₁ d₂ : Server) (i code p : ℕ) → p < 2 ^ 32 → d₁ ≡ on_exchange d i (exchange_with 1 (p + 1)) → d₂ ≡ on_rest d₁ (with_slot i (note_rmt code)) → d₂ ≡ on_rest d (with_slot i (ask code p))
asked_told d d₁ d₂ i code p h e₁ e₂ =
    slot_twice d d₁ d₂ i (exchange_with 1 (p + 1)) (note_rmt code) e₁ e₂
    ∙ ap (λ (y : Asked). on_rest d (with_slot i (λ (x : Exchange). with_answering y (after_rmt code x.message_available) x))) (asked_stored p h)

-- a Data, DataEND or Trigger, and what it notes
abbrev pub is_command : ℕ → Bool
is_command t = eqb t Data || (eqb t DataEND || eqb t Trigger)

abbrev pub command_notes : ℕ → ℕ → ℕ → Exchange → Exchange
command_notes t code n x = cond (eqb t Data) (note_rmt code x) (ask code n x)

module _ (t : ℕ) where
  pub command_data : t ≡ Data → is_command t ≡ true
  command_data e = rw (eq-eqb t Data e)

  pub command_end : (t ≡ Data → ⊥) → t ≡ DataEND → is_command t ≡ true
  command_end o e = rw (ne_eqb t Data o, eq-eqb t DataEND e)

  pub command_trigger : (t ≡ Data → ⊥) → (t ≡ DataEND → ⊥) → is_command t ≡ eqb t Trigger
  command_trigger o p = rw (ne_eqb t Data o, ne_eqb t DataEND p)

module _ (d : Server) (i t code n : ℕ) where
  pub notes_data : t ≡ Data → on_rest d (with_slot i (note_rmt code)) ≡ on_rest d (with_slot i (command_notes t code n))
  notes_data e = ap (λ (b : Bool). on_rest d (with_slot i (λ (x : Exchange). cond b (note_rmt code x) (ask code n x)))) (sym (eq-eqb t Data e))

  pub notes_ask : (t ≡ Data → ⊥) → on_rest d (with_slot i (ask code n)) ≡ on_rest d (with_slot i (command_notes t code n))
  notes_ask o = ap (λ (b : Bool). on_rest d (with_slot i (λ (x : Exchange). cond b (note_rmt code x) (ask code n x)))) (sym (ne_eqb t Data o))

-- the plan of a message that acts: a command's, and that of DeviceClearComplete
module _ (d : Server) (i c : ℕ) (h : Header) (p : List ℕ) where
  -- by the three tests of the kind
  abbrev kinds : Bool → Bool → Bool → SynchronousKind
  kinds x y z = cond x k_data (cond y k_data_end (cond z k_trigger k_clear_complete))

  abbrev plan_by : SynchronousKind → Plan
  plan_by k =
      record {
        reply = took acted (16 + h.len) (at d.locks.entries i).number;
        rest = with_slot i (synchronous_exchange k h) d.rest;
        first = synchronous_first k (at d.locks.entries i) (exchange_at d.rest i) h;
        said = synchronous_said k c h;
        event = synchronous_event k i h;
      }

  -- 02, Q-5: what a command says first: the pair where it is out of turn
  abbrev turn_frames : List Frame
  turn_frames = cond (out_of_turn h.code (exchange_at d.rest i)) (interruptions (at d.locks.entries i) h.param) []

  pub plan_command : is_command h.kind ≡ true
      → acts r_synchronous d i c h p ≡ plan_first d i h.len
      (with_slot i (λ (e : Exchange). stepped (command_notes h.kind h.code h.param (tested h.code e))) d.rest) turn_frames
      (command i h.param)
  unfolding acts synchronous_exchange synchronous_said
  plan_command = by (eqb h.kind Data) (eqb h.kind DataEND) (eqb h.kind Trigger)
    where
      by : (x y z : Bool) → (x || (y || z)) ≡ true
          → plan_by (kinds x y z) ≡ plan_first d i h.len (with_slot i
          (λ (e : Exchange). stepped (cond x (note_rmt h.code (tested h.code e)) (ask h.code h.param (tested h.code e)))) d.rest)
          turn_frames (command i h.param)
      by true y z q = refl
      by false true z q = refl
      by false false true q = refl
      by false false false q = absurd (true≢false (sym q))

  pub plan_complete : is_command h.kind ≡ false → acts r_synchronous d i c h p ≡ plan_with d i h.len (with_slot i (leave_clear h.code) d.rest)
      (say c DeviceClearAcknowledge (bit0 h.code) 0) nothing
  unfolding acts synchronous_exchange synchronous_said
  plan_complete = by (eqb h.kind Data) (eqb h.kind DataEND) (eqb h.kind Trigger)
    where
      by : (x y z : Bool) → (x || (y || z)) ≡ false → plan_by (kinds x y z) ≡ plan_with d i h.len (with_slot i (leave_clear h.code) d.rest)
          (say c DeviceClearAcknowledge (bit0 h.code) 0) nothing
      by true y z q = absurd (true≢false q)
      by false true z q = absurd (true≢false q)
      by false false true q = absurd (true≢false q)
      by false false false q = refl

-- what is done by a plan is done by the message
pub did_plan : (d : Server) (x y : Plan) (r : Delivery) (m m' : Memory) (out out' : List ℕ) → x ≡ y → Did (finish d y) r m m' out out' → Did (finish d x) r m m' out out'
did_plan d x y r m m' out out' e q = subst (λ (z : Plan). Did (finish d z) r m m' out out') (sym e) q
