-- What the functions of the asynchronous lane ensure, and how a plan of that lane is met. Assumes nothing.
use Rattle.std.specs.Prelude.{◌≡◌, List, [], ◌∷◌, ℕ, ◌+◌, length}
use Rattle.std.proofs.Common.{sym, ap, ◌∙◌, true≢false, ne_eqb}
use Rattle.wire.specs.declared.Header.{Header}
use Rattle.wire.specs.Frame.{Frame, frame_bytes, bytes_of, bytes_one, written, length_frame}
use Rattle.wire.specs.Splice.{splice}
use Rattle.model.specs.State.{Entry, Rest, Server, at}
use Rattle.model.specs.Interface.{Reply.took, Outcome.acted}
use Rattle.model.specs.Place.{Role.r_asynchronous}
use Rattle.model.specs.Locks.{LockEvent, LockEvent.nothing, change}
use Rattle.model.specs.Acts.{Plan, AsynchronousKind, AsynchronousKind.k_lock_info, asynchronous_kind, asynchronous_rest, asynchronous_said, asynchronous_event, acts}
use Rattle.model.specs.Step.{finish}
use Rattle.state.specs.Change.{entry_with}
use Rattle.state.specs.Tidy.{Tidy}
use Rattle.state.specs.View.{Memory, view}
use Rattle.sessions.specs.declared.Delivery.{Delivery}
use Rattle.sessions.specs.Did.{Did, numbers_of}

-- a header of any type, with its numbers
abbrev pub heading : ℕ → ℕ → ℕ → ℕ → Header
heading t code param len = record { kind = t; code = code; param = param; len = len }

-- the plan of a kind; that of a message is the plan of its kind
abbrev pub plan_of : AsynchronousKind → Server → ℕ → ℕ → Header → List ℕ → Plan
plan_of k d i c h p =
    record {
      reply = took acted (16 + h.len) (at d.locks.entries i).number;
      rest = asynchronous_rest k d.rest i h p;
      first = [];
      said = asynchronous_said k d i c h;
      event = asynchronous_event k i h p;
    }

-- what the function of kind k ensures, whatever the header's type
abbrev pub DidKind : AsynchronousKind → ℕ → ℕ → ℕ → ℕ → ℕ → List ℕ → Delivery → Memory → Memory → List ℕ → List ℕ → Type 0
DidKind k i c code param len p r m m' out out' = (t : ℕ) → Did (finish (view m) (plan_of k (view m) i c (heading t code param len) p)) r m m' out out'

pub did_message : (k : AsynchronousKind) (i c t code param len : ℕ) (p : List ℕ) (r : Delivery) (m m' : Memory) (out out' : List ℕ)
    → asynchronous_kind t ≡ k → DidKind k i c code param len p r m m' out out'
    → Did (finish (view m) (acts r_asynchronous (view m) i c (heading t code param len) p)) r m m' out out'
unfolding acts
did_message k i c t code param len p r m m' out out' e x = rw e (x t)

-- the last kind: lock info
pub kind_last : (t : ℕ) → (t ≡ 4 → ⊥) → (t ≡ 10 → ⊥) → (t ≡ 15 → ⊥) → (t ≡ 19 → ⊥) → (t ≡ 21 → ⊥) → asynchronous_kind t ≡ k_lock_info
kind_last t n₁ n₂ n₃ n₄ n₅ = rw (ne_eqb t 4 n₁, ne_eqb t 10 n₂, ne_eqb t 15 n₃, ne_eqb t 19 n₄, ne_eqb t 21 n₅)

-- what is returned: of session n, with so many bytes of payload taken and so many bytes written
abbrev pub delivered : ℕ → ℕ → ℕ → Delivery
delivered n len size = record { refusal = 0; outcome = 6; session = n; taken = 16 + len; output = size; missing = 0 }

-- a plan of this lane: all but the locks, what is said, the lock event
abbrev pub plan_with : Server → ℕ → ℕ → Rest → List Frame → LockEvent → Plan
plan_with d i len q fs v = record { reply = took acted (16 + len) (at d.locks.entries i).number; rest = q; first = []; said = fs; event = v }

-- a plan that says nothing but what comes before the answers of its event
abbrev pub plan_first : Server → ℕ → ℕ → Rest → List Frame → LockEvent → Plan
plan_first d i len q fs v = record { reply = took acted (16 + len) (at d.locks.entries i).number; rest = q; first = fs; said = []; event = v }

-- any plan: what is told, the session's number as it was read, the server and the frames
pub did_with : (d : Server) (i n len size : ℕ) (q : Rest) (fs : List Frame) (v : LockEvent) (told : Delivery) (m m' : Memory) (out out' : List ℕ) (xs : List Frame)
    → told ≡ delivered n len size → entry_with 0 n (at d.locks.entries i) ≡ at d.locks.entries i
    → (finish d (plan_with d i len q fs v)).frames ≡ xs
    → view m' ≡ (finish d (plan_with d i len q fs v)).server → out' ≡ written out xs → size ≡ length (bytes_of xs) → (Tidy m → Tidy m')
    → Did (finish d (plan_with d i len q fs v)) told m m' out out'
unfolding finish
did_with d i n len size q fs v told m m' out out' xs t e f y b z u =
    record {
      numbers = ap numbers_of t ∙ (λ j. record {
        refusal = 0;
        outcome = 6;
        session = ap (λ (x : Entry). x.number) e j;
        taken = 16 + len;
        output = (z ∙ ap (λ (x : List Frame). length (bytes_of x)) (sym f)) j;
        missing = 0;
      });
      server = y;
      buffer = b ∙ ap (written out) (sym f);
      same_memory = λ y. absurd (true≢false (sym y));
      same_buffer = λ y. absurd (true≢false (sym y));
      tidy = u;
    }

pub one_length : (f : Frame) (n : ℕ) → length f.message.payload ≡ n → 17 + n ≡ length (bytes_of (f ∷ []))
one_length f n e = ap (λ (x : ℕ). 17 + x) (sym e) ∙ sym (length_frame f) ∙ ap length (sym (bytes_one f))

-- a plan that says one frame and is no lock event
pub did_one : (d : Server) (i n len z : ℕ) (q : Rest) (f g : Frame) (told : Delivery) (m m' : Memory) (out out' : List ℕ)
    → told ≡ delivered n len (17 + z) → entry_with 0 n (at d.locks.entries i) ≡ at d.locks.entries i
    → f ≡ g → length g.message.payload ≡ z → view m' ≡ record { locks = d.locks; rest = q } → out' ≡ splice out 0 (frame_bytes g) → (Tidy m → Tidy m')
    → Did (finish d (plan_with d i len q (f ∷ []) nothing)) told m m' out out'
unfolding finish change
did_one d i n len z q f g told m m' out out' t e p l v o u =
    did_with d i n len (17 + z) q (f ∷ []) nothing told m m' out out' (g ∷ []) t e (ap (λ (x : Frame). x ∷ []) p) v (o ∙ ap (splice out 0) (sym (bytes_one g))) (one_length g z l) u
