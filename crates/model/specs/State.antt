-- What the server keeps (01: desk): the sessions with their locks, the waiting requests, the clock, and the rest. Every value of
-- these records means something, also one that no run reaches. Assumes nothing.
use Rattle.std.specs.Prelude.{Bool, true, false, not, ◌&&◌, List, [], ℕ, eqb, get_or, set, replicate}
use Rattle.wire.specs.MessageId.{start}
use Rattle.readings.specs.Watch.{Limits, Limits.off}
use Rattle.readings.specs.Record.{Recorded}
use Rattle.readings.specs.Record as Record
use Rattle.model.specs.Lists.{position}
use Rattle.model.specs.Sizes.{session_limit, connection_limit, payload_limit, no_connection, before_first}

-- the two kinds of lock
pub data Kind : Type 0 where
  exclusive_lock shared_lock : Kind

-- 02, Q-3: a release that stands: which lock it frees (fixed when it arrives), and the number of the message that it waits for
pub data Standing : Type 0 where
  no_release : Standing
  release_of : Kind → ℕ → Standing

-- 02, Q-9: "the clock reading of its last grant and the number of locks granted to it, as answers sent since it opened"
pub record Granted : Type 0 where
  pub granted_at : ℕ
  pub grants : ℕ

-- one slot of the table of sessions: the SessionID (0: the slot is free), the two connections (255: none), the exclusive lock,
-- the string of the shared lock (empty: none); the number of the last Data, DataEND or Trigger that acted since it opened or since
-- its last AsyncDeviceClear (fffffefe hex: none), and the release that stands; what was granted to it
pub record Entry : Type 0 where
  pub number : ℕ
  pub synchronous : ℕ
  pub asynchronous : ℕ
  pub exclusive : Bool
  pub shared : List ℕ
  pub last : ℕ
  pub standing : Standing
  pub locks_granted : Granted

-- a waiting request: the slot of its session, its deadline, its string (empty: it asks for the exclusive lock)
pub record Waiting : Type 0 where
  pub slot : ℕ
  pub deadline : ℕ
  pub string : List ℕ

-- the part of the server that the lock rules read and change: the clock, the sessions, the waiting requests by arrival
pub record Locks : Type 0 where
  pub clock : ℕ
  pub entries : List Entry
  pub waiting : List Waiting

-- what a session has asked: nothing, or the message with this MessageID
pub data Asked : Type 0 where
  none : Asked
  some : ℕ → Asked

-- of a session, beside its locks: in device clear, what is asked, message available, the client's size; 02, Q-1: in overlap mode, the
-- number of its next answer there, and whether some answer was sent since the last reset; 02, Q-5: whether an RMT is expected; 02, Q-10: the
-- number that its next Data, DataEND or Trigger must carry. All are kept in both modes: a mode changes only in a device clear, which resets
-- them
pub record Exchange : Type 0 where
  pub in_clear : Bool
  pub asked : Asked
  pub message_available : Bool
  pub client_size : ℕ
  pub overlap : Bool
  pub count : ℕ
  pub any_sent : Bool
  pub rmt_expected : Bool
  pub number_expected : ℕ

-- 02, Q-11: of a session's readings: its watch, whether a reading has tripped it since it was set, and the record of the readings sent, watch
-- or none
pub record Sensing : Type 0 where
  pub watch : Limits
  pub tripped : Bool
  pub recorded : Recorded

-- of a connection: whether it is open, the remainder to skip
pub record Connection : Type 0 where
  pub is_open : Bool
  pub remainder : ℕ

-- 01: three flags (remote enable, lockout, remote), shared by all sessions
pub record RemoteLocal : Type 0 where
  pub enable : Bool
  pub lockout : Bool
  pub remote : Bool

-- what the host says when it makes the server: the vendor number; 02, Q-1: whether it prefers overlap mode
pub record Making : Type 0 where
  pub vendor : ℕ
  pub prefers_overlap : Bool

-- 02, Q-12: which commands are allowed: any, while no list is set, or those of a list, kept as the host gave it: a text, a pattern a line
pub data Allowed : Type 0 where
  any_command : Allowed
  only : List ℕ → Allowed

-- all of the server but its locks: an exchange for each slot, a sensing for each slot, the connections by number, the SessionID issued last, how the server was
-- made, the instrument's (01: meter's) status byte, the flags, the allowed commands
pub record Rest : Type 0 where
  pub exchanges : List Exchange
  pub sensings : List Sensing
  pub connections : List Connection
  pub last_issued : ℕ
  pub made : Making
  pub status : ℕ
  pub remote_local : RemoteLocal
  pub allowed : Allowed

pub record Server : Type 0 where
  pub locks : Locks
  pub rest : Rest

-- nothing was granted yet
abbrev pub no_grants : Granted
no_grants = record { granted_at = 0; grants = 0 }

-- a free slot
abbrev pub blank : Entry
blank = record { number = 0; synchronous = no_connection; asynchronous = no_connection; exclusive = false; shared = []; last = before_first; standing = no_release; locks_granted = no_grants }

-- 01: a client's size starts at 1,024 per session; 02, Q-1: a session starts in the preferred mode, and its count at ffffff00 hex; 02, Q-10: and
-- so does the number expected
abbrev pub open_exchange : Bool → Exchange
open_exchange b =
    record {
      in_clear = false;
      asked = none;
      message_available = false;
      client_size = payload_limit;
      overlap = b;
      count = start;
      any_sent = false;
      rmt_expected = false;
      number_expected = start;
    }

abbrev pub fresh_exchange : Exchange
fresh_exchange = open_exchange false

-- no watch is set, no reading was sent
abbrev pub fresh_sensing : Sensing
fresh_sensing = record { watch = off; tripped = false; recorded = Record.nothing }

abbrev pub closed_connection : Connection
closed_connection = record { is_open = false; remainder = 0 }

abbrev pub open_connection : ℕ → Connection
open_connection n = record { is_open = true; remainder = n }

abbrev pub fresh_locks : ℕ → Locks
fresh_locks n = record { clock = 0; entries = replicate n blank; waiting = [] }

-- 01: a fresh desk is made from the two-letter vendor number (02, Q-1: and the mode that the host prefers), with clock 0 and status byte 0; the flags start off
abbrev pub fresh : Making → Server
fresh v =
    record {
      locks = fresh_locks session_limit;
      rest = record {
        exchanges = replicate session_limit fresh_exchange;
        sensings = replicate session_limit fresh_sensing;
        connections = replicate connection_limit closed_connection;
        last_issued = 0;
        made = v;
        status = 0;
        remote_local = record { enable = false; lockout = false; remote = false };
        allowed = any_command;
      };
    }

-- reading: outside the table a slot is free, and outside 0 to 63 a connection is closed
abbrev pub at : List Entry → ℕ → Entry
at es i = get_or es i blank

abbrev pub exchange_at : Rest → ℕ → Exchange
exchange_at r i = get_or r.exchanges i fresh_exchange

abbrev pub sensing_at : Rest → ℕ → Sensing
sensing_at r i = get_or r.sensings i fresh_sensing

abbrev pub connection_at : Rest → ℕ → Connection
connection_at r c = get_or r.connections c closed_connection

-- 01: 16 (02, Q-6: 32) live sessions, half-open ones included
abbrev pub live : Entry → Bool
live e = not (eqb e.number 0)

abbrev pub half_open : Entry → Bool
half_open e = live e && eqb e.asynchronous no_connection

-- the slot of the session with a number; of number 0, the first free slot
abbrev pub slot_of_number : List Entry → ℕ → ℕ
slot_of_number es n = position (λ e. eqb e.number n) es

-- a change of one part of the rest
abbrev pub with_connections : Rest → List Connection → Rest
with_connections r cs = record {
  exchanges = r.exchanges;
  sensings = r.sensings;
  connections = cs;
  last_issued = r.last_issued;
  made = r.made;
  status = r.status;
  remote_local = r.remote_local;
  allowed = r.allowed;
}

abbrev pub with_connection : Rest → ℕ → Connection → Rest
with_connection r c x = with_connections r (set r.connections c x)

abbrev pub with_exchange : Rest → ℕ → Exchange → Rest
with_exchange r i x = record {
  exchanges = set r.exchanges i x;
  sensings = r.sensings;
  connections = r.connections;
  last_issued = r.last_issued;
  made = r.made;
  status = r.status;
  remote_local = r.remote_local;
  allowed = r.allowed;
}

abbrev pub with_sensings : Rest → List Sensing → Rest
with_sensings r ss = record {
  exchanges = r.exchanges;
  sensings = ss;
  connections = r.connections;
  last_issued = r.last_issued;
  made = r.made;
  status = r.status;
  remote_local = r.remote_local;
  allowed = r.allowed;
}

abbrev pub with_sensing : Rest → ℕ → Sensing → Rest
with_sensing r i x = with_sensings r (set r.sensings i x)

abbrev pub with_remote_local : Rest → RemoteLocal → Rest
with_remote_local r x = record {
  exchanges = r.exchanges;
  sensings = r.sensings;
  connections = r.connections;
  last_issued = r.last_issued;
  made = r.made;
  status = r.status;
  remote_local = x;
  allowed = r.allowed;
}

abbrev pub with_status : Rest → ℕ → Rest
with_status r b = record {
  exchanges = r.exchanges;
  sensings = r.sensings;
  connections = r.connections;
  last_issued = r.last_issued;
  made = r.made;
  status = b;
  remote_local = r.remote_local;
  allowed = r.allowed;
}

abbrev pub with_allowed : Rest → Allowed → Rest
with_allowed r a = record {
  exchanges = r.exchanges;
  sensings = r.sensings;
  connections = r.connections;
  last_issued = r.last_issued;
  made = r.made;
  status = r.status;
  remote_local = r.remote_local;
  allowed = a;
}

-- session n opens in slot i
abbrev pub with_session : Rest → ℕ → ℕ → Rest
with_session r i n = record { exchanges = set r.exchanges i (open_exchange r.made.prefers_overlap); sensings = r.sensings; connections = r.connections; last_issued = n; made = r.made; status = r.status; remote_local = r.remote_local; allowed = r.allowed }
