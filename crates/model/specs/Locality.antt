-- Locality: which call may change which field of whose session and connection, and to what; and every field of every frame that it
-- sends. For every field of the server, on any server and for any call, refused ones too.
use Rattle.std.specs.Prelude.{◌≡◌, Bool, true, false, not, ◌&&◌, ◌||◌, cond, List, [], ◌∷◌, ◌++◌, map, ℕ, ◌<◌, eqb, length}
use Rattle.wire.specs.Message.{header, prologue}
use Rattle.model.specs.Sizes.{no_connection}
use Rattle.model.specs.Lists.{is_nil, any}
use Rattle.model.specs.State.{Server, Granted, Entry, Waiting, Exchange, Connection, at, live, exchange_at, sensing_at, connection_at}
use Rattle.model.specs.Place.{entry_of}
use Rattle.model.specs.Interface.{Event, Event.delivery, Outcome, Outcome.closed, Reply.took}
use Rattle.model.specs.Step.{Line, Result, step, final, log}
use Rattle.model.specs.Closing.{OldestFirst}
use Rattle.model.specs.Happening.{Happening, heard, happened}
use Rattle.model.specs.LocalityRows.{Row, in_slot, clear_row, asked_row, available_row, size_row, mode_row, count_row, sent_row, expected_row, step_row}
use Rattle.model.specs.LocalityRows.{number_row, synchronous_row, asynchronous_row, exclusive_row, shared_row, last_row, standing_row, more_granted}
use Rattle.model.specs.LocalityRows.{granted_row, requests_left, looks_after, Way, in_place, open_row, remainder_row, is_silence, Single, singly, clock_row}
use Rattle.model.specs.LocalityRows.{status_row, made_row, allowed_row, issued_row, enable_row, lockout_row, remote_row, sensing_row}
use Rattle.model.specs.LocalityReplies.{said_first, direct, answered_first, waiting_answer, session_said}

-- what happened at a call, as the host sees it
abbrev pub at_call : Server → Event → Happening
at_call d e = happened e (step d e).reply (step d e).frames

-- the entry that the call itself makes of slot i while the clock reads now, before waiting requests are looked at
abbrev pub entry_due : ℕ → List Entry → Happening → ℕ → Entry → Entry
entry_due now es h i x =
    record {
      number = in_slot number_row es i h x.number;
      synchronous = in_slot synchronous_row es i h x.synchronous;
      asynchronous = in_slot asynchronous_row es i h x.asynchronous;
      exclusive = in_slot (exclusive_row x) es i h x.exclusive;
      shared = in_slot (shared_row x) es i h x.shared;
      last = in_slot last_row es i h x.last;
      standing = in_slot (standing_row x) es i h x.standing;
      locks_granted = in_slot (granted_row now) es i h x.locks_granted;
    }

-- what a grant makes of a session's locks: exclusive if the string is empty, else shared with that string
abbrev pub given_exclusive : List Waiting → ℕ → Bool
given_exclusive gs i = any (λ w. eqb w.slot i && is_nil w.string) gs

abbrev pub given_shared : List Waiting → ℕ → List ℕ → List ℕ
given_shared [] i s = s
given_shared (w ∷ gs) i s = given_shared gs i (cond (eqb w.slot i && not (is_nil w.string)) w.string s)

-- 02, Q-9: each is noted
abbrev pub given_grants : ℕ → List Waiting → ℕ → Granted → Granted
given_grants now [] i g = g
given_grants now (w ∷ gs) i g = given_grants now gs i (cond (eqb w.slot i) (more_granted now g) g)

-- waiting requests are looked at, oldest first (`OldestFirst`), or are not: then nobody is granted
abbrev pub Look : ℕ → Bool → List Entry → List Waiting → List Entry → List Waiting → List Waiting → Type 0
Look now true es ws es' ws' gs = OldestFirst now es ws es' ws' gs
Look now false es ws es' ws' gs = (es' ≡ es) × (ws' ≡ ws) × (gs ≡ [])

-- a row for what stands once; for the exchange of each slot; for each connection; for the session of each slot
abbrev pub StandsOnce : {A : Type 0} → Server → Happening → Result → (Server → A) → Single A → Type 0
StandsOnce d h r field row = field r.server ≡ singly row h (field d)

-- the row may go by the exchange's other fields
abbrev pub EachExchange : {A : Type 0} → Server → Happening → Result → (Exchange → A) → (Exchange → Row A) → Type 0
EachExchange d h r field row =
    (i : ℕ) → i < length d.rest.exchanges
    → field (exchange_at r.server.rest i) ≡ in_slot (row (exchange_at d.rest i)) d.locks.entries i h (field (exchange_at d.rest i))

abbrev pub EachConnection : {A : Type 0} → Server → Happening → Result → (Connection → A) → Way A → Type 0
EachConnection d h r field row =
    (x : ℕ) → x < length d.rest.connections → field (connection_at r.server.rest x) ≡ in_place row d.locks.entries x h (field (connection_at d.rest x))

-- the row may go by the session's other fields; with what the requests that are granted then make of it
abbrev pub EachSession : {A : Type 0} → Server → Happening → Result → (ℕ → A → A) → (Entry → A) → (Entry → Row A) → Type 0
EachSession d h r given field row =
    (i : ℕ) → i < length d.locks.entries
    → field (at r.server.locks.entries i) ≡ given i (in_slot (row (at d.locks.entries i)) d.locks.entries i h (field (at d.locks.entries i)))

-- h happened, and a call left server r .server and sent frames r .frames: one row for every field of the server
pub record Local (d : Server) (h : Happening) (r : Result) : Type 0 where
  pub clock : StandsOnce d h r (λ s. s.locks.clock) clock_row
  pub status : StandsOnce d h r (λ s. s.rest.status) status_row
  pub made : StandsOnce d h r (λ s. s.rest.made) made_row
  pub last_issued_lem : StandsOnce d h r (λ s. s.rest.last_issued) issued_row
  pub allowed : StandsOnce d h r (λ s. s.rest.allowed) allowed_row
  pub enable : StandsOnce d h r (λ s. s.rest.remote_local.enable) enable_row
  pub lockout : StandsOnce d h r (λ s. s.rest.remote_local.lockout) lockout_row
  pub remote : StandsOnce d h r (λ s. s.rest.remote_local.remote) remote_row
  -- exchanges
  pub exchange_slots : length r.server.rest.exchanges ≡ length d.rest.exchanges
  pub in_clear_lem : EachExchange d h r (λ x. x.in_clear) (λ x. clear_row)
  pub asked : EachExchange d h r (λ x. x.asked) asked_row
  pub message_available_lem : EachExchange d h r (λ x. x.message_available) available_row
  pub client_size_lem : EachExchange d h r (λ x. x.client_size) (λ x. size_row)
  pub mode : EachExchange d h r (λ x. x.overlap) (λ x. mode_row d.rest.made.prefers_overlap)
  pub count : EachExchange d h r (λ x. x.count) (λ x. count_row)
  pub any_sent_lem : EachExchange d h r (λ x. x.any_sent) (λ x. sent_row)
  pub rmt_expected_lem : EachExchange d h r (λ x. x.rmt_expected) (λ x. expected_row)
  pub number_expected_lem : EachExchange d h r (λ x. x.number_expected) step_row
  -- readings
  pub sensing_slots : length r.server.rest.sensings ≡ length d.rest.sensings
  pub sensing : (i : ℕ) → i < length d.rest.sensings → sensing_at r.server.rest i ≡ sensing_row d.locks.entries i h (sensing_at d.rest i)
  -- connections
  pub connection_places : length r.server.rest.connections ≡ length d.rest.connections
  pub is_open : EachConnection d h r (λ y. y.is_open) open_row
  pub remainder : EachConnection d h r (λ y. y.remainder) remainder_row
  -- sessions; their locks: first the session's own doing, then the requests that are granted
  pub granted : List Waiting
  pub slots : length r.server.locks.entries ≡ length d.locks.entries
  pub number : EachSession d h r (λ i n. n) (λ e. e.number) (λ e. number_row)
  pub synchronous : EachSession d h r (λ i c. c) (λ e. e.synchronous) (λ e. synchronous_row)
  pub asynchronous : EachSession d h r (λ i c. c) (λ e. e.asynchronous) (λ e. asynchronous_row)
  pub exclusive : EachSession d h r (λ i b. given_exclusive granted i || b) (λ e. e.exclusive) exclusive_row
  pub shared : EachSession d h r (λ i s. given_shared granted i s) (λ e. e.shared) shared_row
  pub last : EachSession d h r (λ i n. n) (λ e. e.last) (λ e. last_row)
  pub standing : EachSession d h r (λ i s. s) (λ e. e.standing) standing_row
  pub locks_granted_lem : EachSession d h r (λ i g. given_grants d.locks.clock granted i g) (λ e. e.locks_granted) (λ e. granted_row d.locks.clock)
  -- requests: which are granted and which wait on. The look begins with the slots and the requests as the call itself leaves them
  pub due : List Entry
  pub due_slots : length due ≡ length d.locks.entries
  pub due_is : (i : ℕ) → i < length d.locks.entries → at due i ≡ entry_due d.locks.clock d.locks.entries h i (at d.locks.entries i)
  pub waiting : Look d.locks.clock (looks_after d.locks.entries h) due (requests_left d.locks.entries d.locks.clock h d.locks.waiting)
      r.server.locks.entries r.server.locks.waiting granted
  -- every frame: an interruption (02, Q-5), the lock answers that come first, direct replies (02, Q-11: with the request for service), answers 1 to those granted
  pub frames : r.frames ≡ said_first d h ++ (answered_first d h ++ (direct d h ++ map (waiting_answer 1 due) granted))
  -- the session's number in the reply
  pub session : (o : Outcome) (k n : ℕ) → r.reply ≡ took o k n → n ≡ session_said d h n

-- 01, check 6: FatalError (2) from a client closes its session without reply. On an established session
abbrev pub clients_fatal_error : Server → ℕ → List ℕ → Bool
clients_fatal_error d c bs =
    let e = entry_of d c in
    prologue bs && (eqb (header bs).kind 2 && (live e && not (eqb e.asynchronous no_connection)))

pub record Locality (d : Server) (e : Event) : Type 0 where
  pub local : Local d (at_call d e) (step d e)
  -- any other delivery that closes sends FatalError
  pub silent : (c : ℕ) (bs : List ℕ) (room k n : ℕ) → e ≡ delivery c bs room → (step d e).reply ≡ took closed k n → is_silence (heard 2 (step d e).frames) ≡ clients_fatal_error d c bs

-- each call of a list, the first on server d
abbrev pub EachLocal : Server → List Event → Type 0
EachLocal d [] = Unit {0}
EachLocal d (e ∷ es) = Locality d e × EachLocal (step d e).server es

-- a single field after a list, read off the log alone
abbrev pub over_log : {A : Type 0} → Single A → List Line → A → A
over_log r [] x = x
over_log r (l ∷ ls) x = over_log r ls (singly r (happened l.event l.reply l.frames) x)

pub record LocalRun (d : Server) (es : List Event) : Type 0 where
  pub each : EachLocal d es
  pub clock : (final d es).locks.clock ≡ over_log clock_row (log d es) d.locks.clock
  pub status : (final d es).rest.status ≡ over_log status_row (log d es) d.rest.status
  pub made : (final d es).rest.made ≡ d.rest.made
  pub last_issued_lem : (final d es).rest.last_issued ≡ over_log issued_row (log d es) d.rest.last_issued
  pub allowed : (final d es).rest.allowed ≡ over_log allowed_row (log d es) d.rest.allowed
  pub enable : (final d es).rest.remote_local.enable ≡ over_log enable_row (log d es) d.rest.remote_local.enable
  pub lockout : (final d es).rest.remote_local.lockout ≡ over_log lockout_row (log d es) d.rest.remote_local.lockout
  pub remote : (final d es).rest.remote_local.remote ≡ over_log remote_row (log d es) d.rest.remote_local.remote

-- the table leaves nothing free: what happened decides the whole server after, and every frame
pub record NothingFree : Type 0 where
  pub decides : (d : Server) (h : Happening) (r r' : Result) → Local d h r → Local d h r' → (r.server ≡ r'.server) × (r.frames ≡ r'.frames)
