-- 01, "Opening a session": what an Initialize and an AsyncInitialize that act send, and what they leave. Assumes nothing.
use Rattle.std.specs.Prelude.{◌≡◌, true, false, cond, List, [], ◌∷◌, ℕ, ◌+◌, ◌*◌, ◌/◌, min}
use Rattle.wire.specs.Message.{header}
use Rattle.wire.specs.Frame.{frame_of}
use Rattle.wire.specs.MessageId.{start}
use Rattle.model.specs.Sizes.{payload_limit, protocol_version, no_connection, before_first}
use Rattle.model.specs.MessageTypes.{Initialize, InitializeResponse, AsyncInitialize, AsyncInitializeResponse}
use Rattle.model.specs.State.{Entry, Standing.no_release, Asked.none, no_grants, at, live, half_open, Server, exchange_at, fresh, Making}
use Rattle.model.specs.Interface.{Event, Event.delivery, Outcome.acted, Reply.took}
use Rattle.model.specs.Step.{step, final}

-- a session in a slot, before and after: every other slot is as it was, and so are the waiting requests and the clock
pub record OnlySlot (d d' : Server) (i : ℕ) : Type 0 where
  pub others_same : (j : ℕ) → (j ≡ i → ⊥) → at d'.locks.entries j ≡ at d.locks.entries j
  pub exchanges_same : (j : ℕ) → (j ≡ i → ⊥) → exchange_at d'.rest j ≡ exchange_at d.rest j
  pub waiting_same : d'.locks.waiting ≡ d.locks.waiting
  pub clock_same : d'.locks.clock ≡ d.locks.clock

-- session n is opened over connection c: half-open, without locks, no message acted on, no release standing, no lock granted (02, Q-9), with
-- nothing asked, in the mode that the host prefers (02, Q-1), no answer counted, no RMT expected (02, Q-5), and the first number expected
-- (02, Q-10)
pub record Opened (d d' : Server) (v : Making) (c n : ℕ) : Type 0 where
  pub slot : ℕ
  pub was_free : live (at d.locks.entries slot) ≡ false
  pub session : at d'.locks.entries slot ≡ record {
    number = n;
    synchronous = c;
    asynchronous = no_connection;
    exclusive = false;
    shared = [];
    last = before_first;
    standing = no_release;
    locks_granted = no_grants;
  }
  pub exchange : exchange_at d'.rest slot ≡ record {
    in_clear = false;
    asked = none;
    message_available = false;
    client_size = payload_limit;
    overlap = v.prefers_overlap;
    count = start;
    any_sent = false;
    rmt_expected = false;
    number_expected = start;
  }
  pub no_more : OnlySlot d d' slot

-- half-open session n gets connection c as its second one, and is otherwise as it was
abbrev pub with_second : ℕ → Entry → Entry
with_second c e = record {
  number = e.number;
  synchronous = e.synchronous;
  asynchronous = c;
  exclusive = e.exclusive;
  shared = e.shared;
  last = e.last;
  standing = e.standing;
  locks_granted = e.locks_granted;
}

pub record Joined (d d' : Server) (c n : ℕ) : Type 0 where
  pub slot : ℕ
  pub its_number : (at d.locks.entries slot).number ≡ n
  pub was_half_open : half_open (at d.locks.entries slot) ≡ true
  pub session : at d'.locks.entries slot ≡ with_second c (at d.locks.entries slot)
  pub exchange : exchange_at d'.rest slot ≡ exchange_at d.rest slot
  pub no_more : OnlySlot d d' slot

-- a delivery that acted as a message of session n; v is how the server was made
pub record Opens (d : Server) (v : Making) (c : ℕ) (bs : List ℕ) (room : ℕ) : Type 0 where
  -- 01: "Reply: control 0 (02, Q-1: the preference in bit 0); upper half the smaller of client version and 0100 hex; lower half the SessionID"
  pub opens : (k n : ℕ) → (step d (delivery c bs room)).reply ≡ took acted k n → (header bs).kind ≡ Initialize
      → ((step d (delivery c bs room)).frames ≡ frame_of c InitializeResponse (cond v.prefers_overlap 1 0) (min ((header bs).param / 65536) protocol_version * 65536 + n) [] ∷ [])
      × Opened d (step d (delivery c bs room)).server v c n
  -- 01: "reply: vendor number in the lower half"
  pub joins : (k n : ℕ) → (step d (delivery c bs room)).reply ≡ took acted k n → (header bs).kind ≡ AsyncInitialize
      → ((step d (delivery c bs room)).frames ≡ frame_of c AsyncInitializeResponse 0 v.vendor [] ∷ [])
      × Joined d (step d (delivery c bs room)).server c n

-- after any list from the fresh server, whatever is delivered next
pub record Opening (v : Making) (es : List Event) : Type 0 where
  pub opens_next : (c : ℕ) (bs : List ℕ) (room : ℕ) → Opens (final (fresh v) es) v c bs room
