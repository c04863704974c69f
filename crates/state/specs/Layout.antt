-- Where each part of the server stands in the lent words and bytes: one part behind the other, each as long as its rows; docs/MEMORY.md draws it.
-- The code's constants have these names.
use Rattle.std.specs.Prelude.{ℕ, ◌+◌, ◌*◌}
use Rattle.model.specs.Sizes.{session_limit, connection_limit, string_limit, list_limit}

-- the vendor number
abbrev pub VENDOR : ℕ
VENDOR = 0

-- 02, Q-1: the mode that the host prefers
abbrev pub PREFERENCE : ℕ
PREFERENCE = 1

-- the instrument's status byte
abbrev pub STATUS : ℕ
STATUS = 2

-- the SessionID issued last
abbrev pub LAST : ℕ
LAST = 3

-- the three remote/local flags
abbrev pub ENABLE : ℕ
ENABLE = 4

abbrev pub LOCKOUT : ℕ
LOCKOUT = 5

abbrev pub REMOTE : ℕ
REMOTE = 6

-- a row for each slot: in device clear, what is asked (plus 1), message available, the client's size; 02, Q-1: in overlap mode, the number
-- of its next answer there, whether some answer was sent; 02, Q-5: whether an RMT is expected; 02, Q-10: the number expected
abbrev pub EXCHANGES : ℕ
EXCHANGES = 7

-- words a row
abbrev pub EXCHANGE : ℕ
EXCHANGE = 9

-- a row for each connection: open, remainder to skip, its home (the slot and the place in the slot's row that have it; 0: none)
abbrev pub CONNECTIONS : ℕ
CONNECTIONS = EXCHANGES + session_limit * EXCHANGE

-- words a row
abbrev pub CONNECTION : ℕ
CONNECTION = 3

-- the place of the home in the row
abbrev pub HOME : ℕ
HOME = 2

-- 02, Q-11: a row for each slot: its watch, whether it has tripped, whether a reading was seen, the last, the lowest, the highest
abbrev pub SENSINGS : ℕ
SENSINGS = CONNECTIONS + connection_limit * CONNECTION

-- words a row
abbrev pub SENSING : ℕ
SENSING = 6

-- 02, Q-12: the length of the text of the allowed commands, plus 1; 0: no list is set
abbrev pub LISTED : ℕ
LISTED = SENSINGS + session_limit * SENSING

-- here the words of the locks begin
abbrev pub LOCKS : ℕ
LOCKS = LISTED + 1

abbrev pub CLOCK : ℕ
CLOCK = LOCKS

-- the slot of the exclusive holder, plus 1; 0 or a number past the slots: nobody
abbrev pub HOLDER : ℕ
HOLDER = CLOCK + 1

-- bit i: slot i holds the shared lock
abbrev pub SHARERS : ℕ
SHARERS = HOLDER + 1

-- the length of the shared string, less 1
abbrev pub KEY : ℕ
KEY = SHARERS + 1

-- how many requests wait
abbrev pub COUNT : ℕ
COUNT = KEY + 1

-- a row for each slot: SessionID, synchronous and asynchronous connection
abbrev pub ENTRIES : ℕ
ENTRIES = COUNT + 1

-- words a row
abbrev pub ENTRY : ℕ
ENTRY = 3

-- a row for each slot: the number of its last message, its release that stands; 02, Q-9: the clock reading of its last grant, the number of
-- locks granted to it
abbrev pub ORDERS : ℕ
ORDERS = ENTRIES + session_limit * ENTRY

-- words a row
abbrev pub ORDER : ℕ
ORDER = 4

-- a row for each slot: its request's deadline, the length of its string
abbrev pub REQUESTS : ℕ
REQUESTS = ORDERS + session_limit * ORDER

-- words a row
abbrev pub REQUEST : ℕ
REQUEST = 2

-- the slots that wait, oldest first
abbrev pub QUEUE : ℕ
QUEUE = REQUESTS + session_limit * REQUEST

-- words to lend
abbrev pub WORDS : ℕ
WORDS = QUEUE + session_limit

-- the bytes: the shared string, then the string of each slot's request, then the text of the allowed commands (02, Q-12)
abbrev pub LIST : ℕ
LIST = string_limit + session_limit * string_limit

-- bytes to lend
abbrev pub STRINGS : ℕ
STRINGS = LIST + list_limit
