-- Which deliveries act: exactly those that a table of forms permits, in the place where they belong. The table is written apart from the
-- rules of specs/Checks.antt. Assumes nothing.
use Rattle.std.specs.Prelude.{◌≡◌, Bool, true, false, ◌&&◌, ◌||◌, List, [], ◌∷◌, ◌⊎◌, ℕ, ◌+◌, ◌<◌, eqb, leb}
use Rattle.wire.specs.declared.Header.{Header}
use Rattle.wire.specs.Message.{header, payload_of}
use Rattle.model.specs.Sizes.{session_limit, no_connection}
use Rattle.model.specs.MessageTypes.{Initialize, AsyncLock, Data, DataEND, DeviceClearComplete, AsyncRemoteLocalControl, Trigger}
use Rattle.model.specs.MessageTypes.{AsyncMaximumMessageSize, AsyncInitialize, AsyncDeviceClear, AsyncStatusQuery, AsyncLockInfo}
use Rattle.model.specs.Lists.{tally}
use Rattle.model.specs.State.{at, live, half_open, Server, exchange_at, connection_at, fresh, Making}
use Rattle.model.specs.Allowing.{Admits}
use Rattle.model.specs.Interface.{Event, Event.delivery, Outcome.acted, Reply.took}
use Rattle.model.specs.Place.{is_on_connection, slot_of, entry_of}
use Rattle.model.specs.Checks.{hislip0}
use Rattle.model.specs.Refusals.{refusal}
use Rattle.model.specs.Step.{step, final, log}
use Rattle.model.specs.Access.{OnSynchronous, WholeMessage, access_of}
use Rattle.model.specs.SessionId.{FirstFree, last_in_log}

-- control codes, or payload lengths
pub data Range : Type 0 where
  whatever none : Range
  up_to_lem exactly : ℕ → Range

abbrev pub within : Range → ℕ → Bool
within whatever x = true
within none x = eqb x 0
within (up_to_lem n) x = leb x n
within (exactly n) x = eqb x n

pub record Form : Type 0 where
  pub kind : ℕ
  pub codes : Range
  pub payload : Range

abbrev pub form : ℕ → Range → Range → Form
form t k p = record { kind = t; codes = k; payload = p }

-- 01, check 10: "0 or 1 for Data, DataEND, Trigger, status query and lock; 0 to 6 for remote/local; any for the others", and payload
-- "belongs to Initialize, Data, DataEND, a lock request and type 15", "8 bytes for type 15"
abbrev pub command_forms : List Form
command_forms = form Data (up_to_lem 1) whatever ∷ form DataEND (up_to_lem 1) whatever ∷ form Trigger (up_to_lem 1) none ∷ []

abbrev pub clear_forms : List Form
clear_forms = form DeviceClearComplete whatever none ∷ []

abbrev pub asynchronous_forms : List Form
asynchronous_forms =
    form AsyncLock (exactly 0) none
    ∷ form AsyncLock (exactly 1) whatever
    ∷ form AsyncRemoteLocalControl (up_to_lem 6) none
    ∷ form AsyncMaximumMessageSize whatever (exactly 8)
    ∷ form AsyncDeviceClear whatever none
    ∷ form AsyncStatusQuery (up_to_lem 1) none
    ∷ form AsyncLockInfo whatever none
    ∷ []

abbrev pub initialize_forms : List Form
initialize_forms = form Initialize whatever whatever ∷ []

abbrev pub async_initialize_forms : List Form
async_initialize_forms = form AsyncInitialize whatever none ∷ []

-- some form of the list is the message's
abbrev pub permits : List Form → Header → Bool
permits [] h = false
permits (f ∷ fs) h = (eqb h.kind f.kind && (within f.codes h.code && within f.payload h.len)) || permits fs h

-- the connection is the asynchronous one of an established session
pub record OnAsynchronous (d : Server) (c : ℕ) : Type 0 where
  pub alive : live (entry_of d c) ≡ true
  pub established : (entry_of d c).asynchronous ≡ no_connection → ⊥
  pub asynchronous_one : (entry_of d c).asynchronous ≡ c
  pub not_synchronous : (entry_of d c).synchronous ≡ c → ⊥

-- 01: a connection without a role
pub record WithoutRole (d : Server) (c : ℕ) : Type 0 where
  pub no_session : (j : ℕ) → is_on_connection c (at d.locks.entries j) ≡ true → ⊥

-- 01: "sub-address empty or "hislip0""
pub record SubAddress (p : List ℕ) : Type 0 where
  pub empty_or_hislip0 : (p ≡ []) ⊎ (p ≡ hislip0)

-- the forms that a connection of an established session takes of a message with number n
pub data Takes (d : Server) (c n : ℕ) : List Form → Type 0 where
  -- outside a device clear, with access; 02, Q-10: "must carry the number expected"
  commands : OnSynchronous d c → (exchange_at d.rest (slot_of d c)).in_clear ≡ false → access_of d c ≡ true
      → n ≡ (exchange_at d.rest (slot_of d c)).number_expected → Takes d c n command_forms
  -- in a device clear
  clear_complete : OnSynchronous d c → (exchange_at d.rest (slot_of d c)).in_clear ≡ true → Takes d c n clear_forms
  -- 01: "Asynchronous messages are not held"
  on_asynchronous : OnAsynchronous d c → Takes d c n asynchronous_forms

-- 02, Q-12: "With a list set", a DataEND must be allowed by it
abbrev pub ListAllows : Server → List ℕ → Type 0
ListAllows d bs = (header bs).kind ≡ DataEND → Admits d.rest.allowed (payload_of (header bs) bs)

-- what a delivery must show on connection c to act as a message of session n; LAST is the SessionID issued last
pub data Permitted (d : Server) (last c : ℕ) (bs : List ℕ) : ℕ → Type 0 where
  established : (fs : List Form) → WholeMessage (connection_at d.rest c).remainder bs → Takes d c (header bs).param fs → permits fs (header bs) ≡ true
      → ListAllows d bs → Permitted d last c bs (entry_of d c).number
  -- Initialize: fewer than 32 live sessions, half-open ones included; n is the next SessionID
  initialize : (n : ℕ) → WholeMessage (connection_at d.rest c).remainder bs → WithoutRole d c → permits initialize_forms (header bs) ≡ true
      → SubAddress (payload_of (header bs) bs) → tally live d.locks.entries < session_limit → FirstFree d.locks.entries last n → Permitted d last c bs n
  -- AsyncInitialize: "the parameter must equal a half-open session's number"
  async_initialize : (j : ℕ) → WholeMessage (connection_at d.rest c).remainder bs → WithoutRole d c → permits async_initialize_forms (header bs) ≡ true
      → half_open (at d.locks.entries j) ≡ true → (at d.locks.entries j).number ≡ (header bs).param → Permitted d last c bs (header bs).param

-- what is permitted acts, and is taken whole; nothing else acts
pub record ActsExactly (d : Server) (last c : ℕ) (bs : List ℕ) (room : ℕ) : Type 0 where
  pub acts : (n : ℕ) → refusal d (delivery c bs room) ≡ 0 → Permitted d last c bs n → (step d (delivery c bs room)).reply ≡ took acted (16 + (header bs).len) n
  pub only : (k n : ℕ) → (step d (delivery c bs room)).reply ≡ took acted k n → (k ≡ 16 + (header bs).len) × Permitted d last c bs n

-- after any list from the fresh server, whatever is delivered next
pub record PermittedActs (v : Making) (es : List Event) : Type 0 where
  pub acts_next : (c : ℕ) (bs : List ℕ) (room : ℕ) → ActsExactly (final (fresh v) es) (last_in_log (log (fresh v) es) 0) c bs room
