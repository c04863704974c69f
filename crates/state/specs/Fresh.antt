-- The memory of a fresh server, word for word and byte for byte; and that it shows the fresh server. Assumes nothing.
use Rattle.std.specs.Prelude.{◌≡◌, refl, Bool, true, false, cond, List, [], ◌∷◌, ◌++◌, ℕ, zero, suc, ◌+◌, ◌*◌, ◌-◌, ◌%◌, ◌^◌, ◌<◌, eqb, ltb, get_or, set, replicate}
use Rattle.std.proofs.Common.{sym, ap, ap₂, ◌∙◌, mod-eq_of_lt, zero-add}
use Rattle.wire.specs.MessageId.{start}
use Rattle.readings.specs.Bits.{not_number}
use Rattle.model.specs.Sizes.{session_limit, connection_limit, payload_limit, before_first}
use Rattle.model.specs.State.{Making, Allowed.any_command, Rest, fresh}
use Rattle.state.specs.Table.{tab, get_d_tab}
use Rattle.state.specs.Grid.{grid}
use Rattle.state.specs.Layout.{EXCHANGES, EXCHANGE, CONNECTIONS, CONNECTION, ENTRY, ORDERS, ORDER, REQUESTS, REQUEST, WORDS, STRINGS, SENSING}
use Rattle.state.specs.View.{memory, view, key_of, field_of, entry_at, entries_of, waiting_of, locks_of, rest_of, allowed_of, watch_of, numeral}

-- n rows alike
abbrev pub rows : ℕ → List ℕ → List ℕ
rows zero r = []
rows (suc n) r = r ++ rows n r

-- the word of a flag
abbrev pub flag_word : Bool → ℕ
flag_word b = cond b 1 0

-- vendor number; preference; status, last SessionID and the flags; exchanges (the client's size is 1,024, the count and the number expected at their start);
-- connections; sensings (no watch, no reading); no list of allowed commands; clock, holder, sharers, key, count; entries (free); orders (no message acted, no lock granted);
-- requests; queue
abbrev pub fresh_words : Making → List ℕ
fresh_words v =
    v.vendor
    ∷ flag_word v.prefers_overlap
    ∷ replicate 5 0
    ++ rows session_limit (0 ∷ 0 ∷ 0 ∷ payload_limit ∷ 0 ∷ start ∷ 0 ∷ 0 ∷ start ∷ [])
    ++ replicate (connection_limit * CONNECTION) 0
    ++ replicate (session_limit * SENSING) 0
    ++ replicate 6 0
    ++ replicate (session_limit * ENTRY) 0
    ++ rows session_limit (before_first ∷ 0 ∷ 0 ∷ 0 ∷ [])
    ++ replicate (session_limit * REQUEST) 0
    ++ replicate session_limit 0

-- the word of an exchange's field
abbrev pub fresh_field : ℕ → ℕ
fresh_field f = cond (eqb f 3) payload_limit (cond (eqb f 5) start (cond (eqb f 8) start 0))

-- the word at a place
unfoldable pub fresh_word : ℕ → ℕ
fresh_word i =
    cond (ltb i EXCHANGES) 0
    (cond (ltb i CONNECTIONS) (fresh_field ((i - EXCHANGES) % EXCHANGE))
    (cond (ltb i ORDERS) 0 (cond (ltb i REQUESTS) (cond (eqb ((i - ORDERS) % ORDER) 0) before_first 0) 0)))

-- nothing said: vendor number 0, and no preference for overlap mode
abbrev pub unmade : Making
unmade = record { vendor = 0; prefers_overlap = false }

-- it is that of the list: computed over every place
fresh_table : tab fresh_word 0 WORDS ≡ fresh_words unmade
unfolding tab fresh_word
fresh_table = refl

pub fresh_at : (i : ℕ) → i < WORDS → get_or (fresh_words unmade) i 0 ≡ fresh_word i
fresh_at i h = ap (λ (l : List ℕ). get_or l i 0) (sym fresh_table) ∙ get_d_tab fresh_word 0 WORDS i 0 h ∙ ap fresh_word (zero-add i)

abbrev pub fresh_strings : List ℕ
fresh_strings = replicate STRINGS 0

flag_back : (b : Bool) → eqb (flag_word b) 1 ≡ b
flag_back true = refl
flag_back false = refl

pub fresh_view : (v : Making) → v.vendor < 2 ^ 16 → view (memory (fresh_words v) fresh_strings) ≡ fresh v
unfolding locks_of rest_of allowed_of key_of entries_of entry_at field_of waiting_of grid tab watch_of numeral not_number
fresh_view v h =
    let r : Rest = (fresh v).rest in
    ap₂ (λ (x : ℕ) (b : Bool). record {
      locks = (fresh v).locks;
      rest = record {
        exchanges = r.exchanges;
        sensings = r.sensings;
        connections = r.connections;
        last_issued = 0;
        made = record { vendor = x; prefers_overlap = b };
        status = 0;
        remote_local = r.remote_local;
        allowed = any_command;
      };
    })
    (mod-eq_of_lt h) (flag_back v.prefers_overlap)

-- the words of a fresh server while its slots start: those of the first n slots are there, all else is 0
unfoldable pub started : ℕ → List ℕ
started zero = replicate WORDS 0
started (suc i) =
    set
    (set (set (set (started i) (EXCHANGES + i * EXCHANGE + 3) payload_limit) (EXCHANGES + i * EXCHANGE + 5) start) (EXCHANGES + i * EXCHANGE + 8) start)
    (ORDERS + i * ORDER + 0)
    before_first

-- computed over every slot
pub all_started : started session_limit ≡ fresh_words unmade
unfolding started
all_started = refl
