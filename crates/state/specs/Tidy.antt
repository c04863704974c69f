-- Memory in order: every word within the range that it is read in, and in every place that nothing reads what a fresh server has there: the
-- deadline, the length and the string of a slot that does not wait, queue places past the count, string bytes past a string's end, the
-- shared string when nobody shares, bytes past the end of the list's text, the connections of a free slot, the home of a connection that no slot shows: 0. Memory in order is a
-- function of the server that it shows (`one_memory`, OneMemory.antt). Assumes nothing.
use Rattle.std.specs.Prelude.{◌≡◌, ◌⊎◌, cond, List, ℕ, zero, suc, ◌+◌, ◌*◌, ◌^◌, ◌≤◌, ◌<◌, ◌-◌, eqb, length}
use Rattle.model.specs.Sizes.{session_limit, connection_limit, string_limit, list_limit}
use Rattle.state.specs.Layout.{EXCHANGES, EXCHANGE, CONNECTIONS, CONNECTION, HOME, LISTED, CLOCK, HOLDER, SHARERS, KEY, COUNT, ENTRY, ORDERS, ORDER}
use Rattle.state.specs.Layout.{REQUESTS, REQUEST, QUEUE, WORDS, LIST, STRINGS, SENSINGS, SENSING}
use Rattle.state.specs.View.{Memory, word, row_word, home_of, field_of, slot_at, last_bits, watch_of, numeral}
use Rattle.readings.specs.Watch.{Limits, Limits.off, Limits.above, Limits.outside}

-- any word
abbrev pub Any : ℕ → Type 0
Any v = 0 ≤ v

-- a flag is 0 or 1
abbrev pub Flag : ℕ → Type 0
Flag v = v ≤ 1

-- 0, or a number of 32 bits plus 1
abbrev pub Number : ℕ → Type 0
Number v = v ≤ 2 ^ 32

-- the range of a field, by its place in the row: a line each
abbrev pub SingleRange : ℕ → ℕ → Type 0
SingleRange zero v = v < 65536
SingleRange (suc zero) v = Flag v
SingleRange (suc (suc zero)) v = v < 256
SingleRange (suc (suc (suc zero))) v = v < 65536
SingleRange (suc (suc (suc (suc f)))) v = Flag v

abbrev pub ExchangeRange : ℕ → ℕ → Type 0
ExchangeRange zero v = Flag v
ExchangeRange (suc zero) v = Number v
ExchangeRange (suc (suc zero)) v = Flag v
ExchangeRange (suc (suc (suc zero))) v = Any v
ExchangeRange (suc (suc (suc (suc zero)))) v = Flag v
ExchangeRange (suc (suc (suc (suc (suc zero))))) v = v < 2 ^ 32
ExchangeRange (suc (suc (suc (suc (suc (suc zero)))))) v = Flag v
ExchangeRange (suc (suc (suc (suc (suc (suc (suc zero))))))) v = Flag v
ExchangeRange (suc (suc (suc (suc (suc (suc (suc (suc f)))))))) v = v < 2 ^ 32

-- 02, Q-11: a watch as the word that it is stored as; the bits of a number
abbrev pub watch_word : Limits → ℕ
watch_word off = 0
watch_word (above high) = (last_bits - high) * 2 ^ 32
watch_word (outside low high) = (last_bits - high) * 2 ^ 32 + (last_bits - low)

abbrev pub Watched : ℕ → Type 0
Watched v = v ≡ watch_word (watch_of v)

abbrev pub Numeral : ℕ → Type 0
Numeral v = v ≡ numeral v

abbrev pub SensingRange : ℕ → ℕ → Type 0
SensingRange zero v = Watched v
SensingRange (suc zero) v = Flag v
SensingRange (suc (suc zero)) v = Flag v
SensingRange (suc (suc (suc f))) v = Numeral v

abbrev pub ConnectionRange : ℕ → ℕ → Type 0
ConnectionRange zero v = Flag v
ConnectionRange (suc f) v = Any v

-- the number of the last message; 0, or the release that stands plus 1; 02, Q-9: a clock reading; the number of locks granted
abbrev pub OrderRange : ℕ → ℕ → Type 0
OrderRange zero v = v < 2 ^ 32
OrderRange (suc zero) v = v ≤ 2 ^ 33
OrderRange (suc (suc zero)) v = v < 2 ^ 63
OrderRange (suc (suc (suc f))) v = v ≤ 2 ^ 62

-- n rows of k words from word b on, of each the first so many fields within their ranges
abbrev pub InRange : (ℕ → ℕ → Type 0) → ℕ → ℕ → ℕ → ℕ → List ℕ → Type 0
InRange R b k few n w = (i f : ℕ) → i < n → f < few → R f (word w (b + i * k + f))

-- the words of the locks that stand alone
pub record TidySingles (w : List ℕ) : Type 0 where
  pub clock : word w CLOCK < 2 ^ 63
  pub holder : word w HOLDER ≤ session_limit
  pub sharers : word w SHARERS < 2 ^ session_limit
  pub count : word w COUNT ≤ session_limit

-- slot i's connections: in a free slot 0, in a live one as they are shown; the SessionID is any word
abbrev pub TidyRow : List ℕ → ℕ → Type 0
TidyRow w i = (f : ℕ) → 0 < f → f < ENTRY → row_word w i f ≡ cond (eqb (row_word w i 0) 0) 0 (field_of w i f)

-- a slot shows connection c
pub record Shown (w : List ℕ) (c : ℕ) : Type 0 where
  pub slot : ℕ
  pub field : ℕ
  pub few : slot < session_limit
  pub some : 0 < field
  pub small : field < ENTRY
  pub is : field_of w slot field ≡ c

-- a connection has a home where a slot shows it, and else none
abbrev pub TidyHome : List ℕ → ℕ → Type 0
TidyHome w c = (home_of w c ≡ 0) ⊎ Shown w c

-- slot i stands at none of some places of the queue
abbrev pub Away : (ℕ → Type 0) → List ℕ → ℕ → Type 0
Away In w i = (j : ℕ) → In j → slot_at w j ≡ i → ⊥

-- slot i's request: no bytes behind its string; one that does not wait has no deadline and no string
pub record TidyRequest (In : ℕ → Type 0) (w s : List ℕ) (i : ℕ) : Type 0 where
  pub fits : word w (REQUESTS + i * REQUEST + 1) ≤ string_limit
  pub behind : (j : ℕ) → word w (REQUESTS + i * REQUEST + 1) ≤ j → j < string_limit → word s (string_limit + i * string_limit + j) ≡ 0
  pub no_deadline : Away In w i → word w (REQUESTS + i * REQUEST + 0) ≡ 0
  pub no_string : Away In w i → word w (REQUESTS + i * REQUEST + 1) ≡ 0

-- the queue: slots at its places, and nowhere else
pub record TidyQueue (In : ℕ → Type 0) (w : List ℕ) : Type 0 where
  pub slots : (j : ℕ) → In j → word w (QUEUE + j) < session_limit
  pub behind : (j : ℕ) → (In j → ⊥) → j < session_limit → word w (QUEUE + j) ≡ 0

-- the shared string: no bytes behind it; where nobody shares there is none
pub record TidyKey (w s : List ℕ) : Type 0 where
  pub fits : word w KEY < string_limit
  pub behind : (j : ℕ) → word w KEY < j → j < string_limit → word s j ≡ 0
  pub no_length : word w SHARERS ≡ 0 → word w KEY ≡ 0
  pub no_byte : word w SHARERS ≡ 0 → word s 0 ≡ 0

-- 02, Q-12: the text of the list: no bytes behind it; where no list is set there is none
pub record TidyList (w s : List ℕ) : Type 0 where
  pub fits : word w LISTED ≤ list_limit + 1
  pub behind : (j : ℕ) → word w LISTED ≤ j + 1 → j < list_limit → word s (LIST + j) ≡ 0

-- memory in order whose queue has these places
pub record TidyOver (In : ℕ → Type 0) (m : Memory) : Type 0 where
  pub long : length m.words ≡ WORDS
  pub room : length m.strings ≡ STRINGS
  pub values : (f : ℕ) → f < EXCHANGES → SingleRange f (word m.words f)
  pub exchanges : InRange ExchangeRange EXCHANGES EXCHANGE EXCHANGE session_limit m.words
  pub sensings : InRange SensingRange SENSINGS SENSING SENSING session_limit m.words
  pub connections : InRange ConnectionRange CONNECTIONS CONNECTION HOME connection_limit m.words
  pub orders : InRange OrderRange ORDERS ORDER ORDER session_limit m.words
  pub singles : TidySingles m.words
  pub rows : (i : ℕ) → i < session_limit → TidyRow m.words i
  pub homes : (c : ℕ) → c < connection_limit → TidyHome m.words c
  pub requests : (i : ℕ) → i < session_limit → TidyRequest In m.words m.strings i
  pub queue : TidyQueue In m.words
  pub key : TidyKey m.words m.strings
  pub list : TidyList m.words m.strings

-- the places of the queue: as far as the count
abbrev pub Counted : List ℕ → ℕ → Type 0
Counted w j = j < word w COUNT

abbrev pub Tidy : Memory → Type 0
Tidy m = TidyOver (Counted m.words) m
