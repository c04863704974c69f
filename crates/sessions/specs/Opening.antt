-- The opening of a session: what the code's stores do, and that this, with the frame that is sent, is the model's plan. The event of
-- the plan has no answer and frees no lock. Assumes nothing.
use Rattle.std.specs.Prelude.{◌≡◌, refl, Bool, true, false, List, [], ◌∷◌, ◌++◌, map, ℕ, ◌+◌, ◌*◌, ◌/◌, ◌<◌, min, eqb, length, set}
use Rattle.std.proofs.Common.{sym, ap, subst, ◌∙◌, true≢false, append-nil, mod-eq_of_lt}
use Rattle.wire.specs.declared.Header.{Header}
use Rattle.wire.specs.Frame.{Frame, frame_of, frame_bytes, bytes_of, written, length_frame, bytes_one}
use Rattle.wire.specs.Splice.{splice}
use Rattle.model.specs.Sizes.{session_limit, protocol_version}
use Rattle.model.specs.MessageTypes.{InitializeResponse, AsyncInitializeResponse}
use Rattle.model.specs.State.{Locks, Rest, Server, slot_of_number, open_exchange, with_exchange, with_session}
use Rattle.model.specs.Interface.{Reply, Reply.took, Outcome.acted, delivery_answer}
use Rattle.model.specs.Canonical.{omits}
use Rattle.model.specs.Place.{Role.r_none}
use Rattle.model.specs.Locks.{Answer, LockResult, LockEvent, LockEvent.enter, LockEvent.join, change, frees, settle, issued}
use Rattle.model.specs.Acts.{Plan, preference, opens, acts}
use Rattle.model.specs.Step.{Result, finish, lock_frame}
use Rattle.state.specs.Change.{on_rest, single_with}
use Rattle.state.specs.Tidy.{Tidy}
use Rattle.state.specs.View.{Memory, view}
use Rattle.sessions.specs.declared.Delivery.{Delivery}
use Rattle.sessions.specs.Did.{Did, numbers_of}

abbrev pub planned : Reply → Rest → List Frame → LockEvent → Plan
planned y q fs e = record { reply = y; rest = q; first = []; said = fs; event = e }

abbrev pub resulting : Reply → Locks → Rest → List Frame → Result
resulting y l q fs = record { server = record { locks = l; rest = q }; reply = y; frames = fs }

-- the server with its locks as an event leaves them
abbrev pub changed : Server → LockEvent → Rest → Server
changed d e q = record { locks = (change d.locks e).locks; rest = q }

-- an event without answers that frees nothing: what is said is all that is sent
pub finish_quietly : (d : Server) (y : Reply) (q : Rest) (fs : List Frame) (e : LockEvent) → (change d.locks e).answers ≡ [] → frees d.locks e ≡ false
    → finish d (planned y q fs e) ≡ resulting y (change d.locks e).locks q fs
unfolding finish
finish_quietly d y q fs e a f =
    let x : LockResult = change d.locks e in
    ap (λ (b : Bool). resulting y (settle b x.locks).locks q (map lock_frame x.answers ++ (fs ++ map lock_frame (settle b x.locks).answers))) f
    ∙ ap (λ (l : List Answer). resulting y x.locks q (map lock_frame l ++ (fs ++ []))) a
    ∙ ap (resulting y x.locks q) (append-nil fs)

pub did_quietly : (d : Server) (y : Reply) (q : Rest) (fs : List Frame) (e : LockEvent) (r : Delivery) (m m' : Memory) (out out' : List ℕ)
    → (change d.locks e).answers ≡ [] → frees d.locks e ≡ false
    → numbers_of r ≡ delivery_answer y (length (bytes_of fs)) 0 → view m' ≡ changed d e q → out' ≡ written out fs → omits y ≡ false → (Tidy m → Tidy m')
    → Did (finish d (planned y q fs e)) r m m' out out'
did_quietly d y q fs e r m m' out out' a f n v b o t =
    subst (λ (z : Result). Did z r m m' out out') (sym (finish_quietly d y q fs e a f))
    record {
      numbers = n;
      server = v;
      buffer = b;
      same_memory = λ z. absurd (true≢false (sym z ∙ o));
      same_buffer = λ z. absurd (true≢false (sym z ∙ o));
      tidy = t;
    }

-- a message that acts, of session n, with k bytes taken and one frame without payload sent
pub did_with_frame : (d : Server) (k n : ℕ) (q : Rest) (c t code p : ℕ) (e : LockEvent) (r : Delivery) (m m' : Memory) (out out' : List ℕ)
    → (change d.locks e).answers ≡ [] → frees d.locks e ≡ false
    → numbers_of r ≡ record { refusal = 0; outcome = 6; session = n; taken = k; output = 17; missing = 0 }
    → view m' ≡ changed d e q
    → out' ≡ splice out 0 (frame_bytes (frame_of c t code p [])) → (Tidy m → Tidy m')
    → Did (finish d (planned (took acted k n) q (frame_of c t code p [] ∷ []) e)) r m m' out out'
did_with_frame d k n q c t code p e r m m' out out' a f g v b u =
    let x : Frame = frame_of c t code p [] in
    let l : length (bytes_of (x ∷ [])) ≡ 17 = ap length (bytes_one x) ∙ length_frame x in
    did_quietly d (took acted k n) q (x ∷ []) e r m m' out out' a f
    (g ∙ ap (λ (z : ℕ). delivery_answer (took acted k n) z 0) (sym l)) v (b ∙ ap (splice out 0) (sym (bytes_one x))) refl u

-- a session's slot, exchange (in the preferred mode) and number are stored
pub session_entered : (d d₁ d₂ d₃ : Server) (l : Locks) (i n : ℕ) (b : Bool) → n < 65536 → d₁.locks ≡ l → d₁.rest ≡ d.rest → d₁.rest.made.prefers_overlap ≡ b
    → d₂ ≡ on_rest d₁ (λ (r : Rest). with_exchange r i (open_exchange b)) → d₃ ≡ on_rest d₂ (single_with 3 n)
    → d₃ ≡ record { locks = l; rest = with_session d.rest i n }
session_entered d d₁ d₂ d₃ l i n b h p q o e₂ e₃ =
    let r : Rest = d.rest in
    e₃
    ∙ ap (λ (x : Server). on_rest x (single_with 3 n)) e₂
    ∙ ap (λ (x : Bool). on_rest d₁ (λ (r : Rest). single_with 3 n (with_exchange r i (open_exchange x)))) (sym o)
    ∙ (λ k. record { locks = p k; rest = single_with 3 n (with_exchange (q k) i (open_exchange (q k).made.prefers_overlap)) })
    ∙ ap (λ (x : ℕ). record {
      locks = l;
      rest = record {
        exchanges = set r.exchanges i (open_exchange r.made.prefers_overlap);
        sensings = r.sensings;
        connections = r.connections;
        last_issued = x;
        made = r.made;
        status = r.status;
        remote_local = r.remote_local;
        allowed = r.allowed;
      };
    })
    (mod-eq_of_lt h)

-- Initialize: from the slot and the number that were found
pub initialized : (d : Server) (c i n v m₀ : ℕ) (h : Header) (r : Delivery) (m m' : Memory) (out out' : List ℕ)
    → slot_of_number d.locks.entries 0 ≡ i → issued session_limit 0 d.locks.entries d.rest.last_issued ≡ n → v ≡ min (h.param / 65536) protocol_version → preference d ≡ m₀
    → numbers_of r ≡ record { refusal = 0; outcome = 6; session = n; taken = 16 + h.len; output = 17; missing = 0 }
    → view m' ≡ changed d (enter i n c) (with_session d.rest i n)
    → out' ≡ splice out 0 (frame_bytes (frame_of c InitializeResponse m₀ (v * 65536 + n) [])) → (Tidy m → Tidy m')
    → Did (finish d (opens true d c h)) r m m' out out'
unfolding change
initialized d c i n v m₀ h r m m' out out' e f g o x s b t =
    let plan : ℕ → ℕ → ℕ → ℕ → Plan =
    (λ j k u y. planned (took acted (16 + h.len) k) (with_session d.rest j k) (frame_of c InitializeResponse y (u * 65536 + k) [] ∷ []) (enter j k c)) in
    let z : plan i n v m₀ ≡ opens true d c h = (λ k. plan (sym e k) (sym f k) (g k) (sym o k)) in
    subst (λ (p : Plan). Did (finish d p) r m m' out out') z
    (did_with_frame d (16 + h.len) n (with_session d.rest i n) c InitializeResponse m₀ (v * 65536 + n) (enter i n c) r m m' out out' refl refl x s b t)

-- AsyncInitialize: from the slot that was found and the vendor number that was read
pub async_initialized : (d : Server) (c i v : ℕ) (h : Header) (r : Delivery) (m m' : Memory) (out out' : List ℕ)
    → slot_of_number d.locks.entries h.param ≡ i → d.rest.made.vendor ≡ v
    → numbers_of r ≡ record { refusal = 0; outcome = 6; session = h.param; taken = 16 + h.len; output = 17; missing = 0 }
    → (view m').locks ≡ (change d.locks (join i c)).locks → (view m').rest ≡ d.rest
    → out' ≡ splice out 0 (frame_bytes (frame_of c AsyncInitializeResponse 0 v [])) → (Tidy m → Tidy m')
    → Did (finish d (opens false d c h)) r m m' out out'
unfolding change
async_initialized d c i v h r m m' out out' e f x s t b u =
    let plan : ℕ → ℕ → Plan = (λ j u. planned (took acted (16 + h.len) h.param) d.rest (frame_of c AsyncInitializeResponse 0 u [] ∷ []) (join j c)) in
    let z : plan i v ≡ opens false d c h = (λ k. plan (sym e k) (sym f k)) in
    subst (λ (p : Plan). Did (finish d p) r m m' out out') z
    (did_with_frame d (16 + h.len) h.param d.rest c AsyncInitializeResponse 0 v (join i c) r m m' out out' refl refl x (λ k. record { locks = s k; rest = t k }) b u)

-- by the kind of the message
pub opens_by : (d : Server) (i c : ℕ) (h : Header) (p : List ℕ) (b : Bool) (r : Delivery) (m m' : Memory) (out out' : List ℕ)
    → eqb h.kind 0 ≡ b → Did (finish d (opens b d c h)) r m m' out out' → Did (finish d (acts r_none d i c h p)) r m m' out out'
unfolding acts
opens_by d i c h p b r m m' out out' e x = subst (λ (b : Bool). Did (finish d (opens b d c h)) r m m' out out') (sym e) x
