-- The server that stands in the lent memory. Whatever bits the memory holds, it shows a server: each word is read within its range.
-- Every later answer depends on the memory through this view alone. Assumes nothing.
use Rattle.std.specs.Prelude.{Bool, not, ◌&&◌, cond, List, [], ◌∷◌, ℕ, zero, suc, ◌+◌, ◌*◌, ◌-◌, ◌%◌, ◌^◌, min, ◌/◌, eqb, ltb, get_or, take}
use Rattle.model.specs.Sizes.{session_limit, connection_limit, string_limit, list_limit, no_connection}
use Rattle.model.specs.State.{Entry, Kind.exclusive_lock, Kind.shared_lock, Standing, Standing.no_release, Standing.release_of, Waiting, Locks, Asked}
use Rattle.model.specs.State.{Asked.none, Asked.some, Exchange, Connection, Allowed, Allowed.any_command, Allowed.only, Rest, Server, with_allowed}
use Rattle.model.specs.State.{Sensing}
use Rattle.state.specs.Table.{tab}
use Rattle.state.specs.Grid.{part, grid}
use Rattle.bits.specs.Bits.{bit}
use Rattle.state.specs.Layout.{CLOCK, VENDOR, PREFERENCE, STATUS, LAST, ENABLE, LOCKOUT, REMOTE, HOLDER, SHARERS, KEY, COUNT, ENTRIES, ENTRY, ORDERS}
use Rattle.state.specs.Layout.{ORDER, EXCHANGES, EXCHANGE, CONNECTIONS, CONNECTION, HOME, LISTED, REQUESTS, REQUEST, QUEUE, LIST, SENSINGS, SENSING}
use Rattle.readings.specs.Bits.{not_number}
use Rattle.readings.specs.Watch.{Limits, Limits.off, Limits.above, Limits.outside}

-- all that the host lends
pub record Memory : Type 0 where
  pub words : List ℕ
  pub strings : List ℕ

abbrev pub memory : List ℕ → List ℕ → Memory
memory w s = record { words = w; strings = s }

abbrev pub word : List ℕ → ℕ → ℕ
word w i = get_or w i 0

-- a flag is on where its word is 1
abbrev pub flag : ℕ → Bool
flag x = eqb x 1

-- the string of the shared lock: at least one byte, at most 256
unfoldable pub key_of : List ℕ → List ℕ → List ℕ
key_of w s = word s 0 ∷ take (word w KEY) (part s 1 (string_limit - 1))

-- slot i's SessionID and connections stand in a row of words
abbrev pub row_word : List ℕ → ℕ → ℕ → ℕ
row_word w i f = word w (ENTRIES + i * ENTRY + f)

-- the home of a connection: the slot and the place in its row (1: synchronous, 2: asynchronous) that have it, as one number
abbrev pub home_in : ℕ → ℕ → ℕ
home_in i f = i * 2 + f

abbrev pub home_at : ℕ → ℕ
home_at c = CONNECTIONS + c * CONNECTION + HOME

abbrev pub home_of : List ℕ → ℕ → ℕ
home_of w c = word w (home_at c)

-- a connection is read confirmed: a live slot n names it, and its own home is that slot and place; so no two slots show one connection
abbrev pub confirmed : ℕ → ℕ → ℕ → ℕ → ℕ
confirmed n c home k = cond (not (eqb n 0) && (ltb c connection_limit && eqb home k)) c no_connection

unfoldable pub field_of : List ℕ → ℕ → ℕ → ℕ
field_of w i zero = row_word w i 0
field_of w i (suc f) = confirmed (row_word w i 0) (row_word w i (suc f)) (home_of w (row_word w i (suc f))) (home_in i (suc f))

-- slot i's last message, the release that stands, and what was granted to it, in another row
abbrev pub order_word : List ℕ → ℕ → ℕ → ℕ
order_word w i f = word w (ORDERS + i * ORDER + f)

-- 0: no release stands; else, less 1: its number, and above it which lock it frees
abbrev pub standing_of : ℕ → Standing
standing_of x = cond (eqb x 0) no_release (release_of (cond (ltb (x - 1) (2 ^ 32)) exclusive_lock shared_lock) ((x - 1) % 2 ^ 32))

-- slot i: its SessionID and connections, and its order; exclusive and shared stand in words that all slots have in common
abbrev pub entry_from : (ℕ → ℕ) → (ℕ → ℕ) → Bool → List ℕ → Entry
entry_from t r x y = record {
  number = t 0;
  synchronous = t 1;
  asynchronous = t 2;
  exclusive = x;
  shared = y;
  last = r 0 % 2 ^ 32;
  standing = standing_of (r 1);
  locks_granted = record { granted_at = r 2; grants = r 3 };
}

unfoldable pub entry_at : List ℕ → List ℕ → ℕ → Entry
entry_at w key i = entry_from (field_of w i) (order_word w i) (eqb (word w HOLDER) (i + 1)) (cond (eqb (bit (word w SHARERS) i) 1) key [])

unfoldable pub entries_of : List ℕ → List ℕ → List Entry
entries_of w key = tab (entry_at w key) 0 session_limit

-- the request of the j-th in the queue
unfoldable pub slot_at : List ℕ → ℕ → ℕ
slot_at w j = word w (QUEUE + j) % session_limit

unfoldable pub request_at : List ℕ → List ℕ → ℕ → Waiting
request_at w s i =
    record {
      slot = i;
      deadline = word w (REQUESTS + i * REQUEST);
      string = take (word w (REQUESTS + i * REQUEST + 1)) (part s (string_limit + i * string_limit) string_limit);
    }

unfoldable pub waiting_of : List ℕ → List ℕ → List Waiting
waiting_of w s = tab (λ (j : ℕ). request_at w s (slot_at w j)) 0 (min (word w COUNT) session_limit)

unfoldable pub locks_of : List ℕ → List ℕ → Locks
locks_of w s = record { clock = word w CLOCK % 2 ^ 63; entries = entries_of w (key_of w s); waiting = waiting_of w s }

-- 0: nothing is asked; else the MessageID, plus 1
abbrev pub asked_of : ℕ → Asked
asked_of x = cond (eqb x 0) none (some ((x - 1) % 2 ^ 32))

abbrev pub exchange_from : (ℕ → ℕ) → Exchange
exchange_from t =
    record {
      in_clear = flag (t 0);
      asked = asked_of (t 1);
      message_available = flag (t 2);
      client_size = t 3;
      overlap = flag (t 4);
      count = t 5 % 2 ^ 32;
      any_sent = flag (t 6);
      rmt_expected = flag (t 7);
      number_expected = t 8 % 2 ^ 32;
    }

abbrev pub exchange_of : List ℕ → Exchange
exchange_of r = exchange_from (word r)

-- a connection is open where its word is odd: whether it is open and has nothing to skip is then one comparison of its two words
abbrev pub connection_from : (ℕ → ℕ) → Connection
connection_from t = record { is_open = flag (t 0 % 2); remainder = t 1 }

abbrev pub connection_of : List ℕ → Connection
connection_of r = connection_from (word r)

-- 02, Q-11: a reading by its bits: what is no number's bits shows as 0
unfoldable pub numeral : ℕ → ℕ
numeral x = cond (not_number (x % 2 ^ 32)) 0 (x % 2 ^ 32)

-- a watch: the high limit's bits in the upper half of the word, the low limit's in the lower half, each less than ffffffff hex by them. What is
-- not a number there is no limit; so 0, without a high limit, is no watch
abbrev pub limits_of : ℕ → ℕ → Limits
limits_of low high = cond (not_number high) off (cond (not_number low) (above high) (outside low high))

abbrev pub last_bits : ℕ
last_bits = 2 ^ 32 - 1

unfoldable pub watch_of : ℕ → Limits
watch_of x = limits_of (last_bits - x % 2 ^ 32) (last_bits - x / 2 ^ 32)

abbrev pub sensing_from : (ℕ → ℕ) → Sensing
sensing_from t =
    record {
      watch = watch_of (t 0);
      tripped = flag (t 1);
      recorded = record { last = numeral (t 3); lowest = numeral (t 4); highest = numeral (t 5); seen = flag (t 2) };
    }

abbrev pub sensing_of : List ℕ → Sensing
sensing_of r = sensing_from (word r)

-- all but the allowed commands, whose text stands in the bytes
abbrev pub rest_from : List Exchange → List Sensing → List Connection → (ℕ → ℕ) → Rest
rest_from x z y t =
    record {
      exchanges = x;
      sensings = z;
      connections = y;
      last_issued = t LAST % 65536;
      made = record { vendor = t VENDOR % 65536; prefers_overlap = flag (t PREFERENCE) };
      status = t STATUS % 256;
      remote_local = record { enable = flag (t ENABLE); lockout = flag (t LOCKOUT); remote = flag (t REMOTE) };
      allowed = any_command;
    }

unfoldable pub rest_of : List ℕ → Rest
rest_of w = rest_from (grid exchange_of EXCHANGES EXCHANGE session_limit w) (grid sensing_of SENSINGS SENSING session_limit w) (grid connection_of CONNECTIONS CONNECTION connection_limit w) (word w)

-- 02, Q-12: 0: no list is set; else the length of its text, plus 1
abbrev pub allowed_from : ℕ → List ℕ → Allowed
allowed_from x text = cond (eqb x 0) any_command (only (take (x - 1) text))

unfoldable pub allowed_of : List ℕ → List ℕ → Allowed
allowed_of w s = allowed_from (word w LISTED) (part s LIST list_limit)

abbrev pub view : Memory → Server
view m = record { locks = locks_of m.words m.strings; rest = with_allowed (rest_of m.words) (allowed_of m.words m.strings) }
