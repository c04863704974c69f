-- What a store into one field does to the server: a change of one row of a table, or of one single value. A field is named by its place
-- in the row, and one law over the place serves every field. Assumes nothing.
use Rattle.std.specs.Prelude.{◌≡◌, ◌⊎◌, Bool, true, false, List, [], ◌∷◌, length, set}
use Rattle.std.proofs.Math.Path.{refl, sym, ap, ap₂}
use Rattle.std.proofs.Common.{◌∙◌, inl, inr, zero-add, arith, lit<, get_or-set_same, get_or-set_other, eqb-true}
use Rattle.std.proofs.Math.Logic.{⊎_elim}
use Rattle.std.proofs.Math.Bool.{cond}
use Prim.Native.Nat.{ℕ, zero, suc, ◌+◌, ◌*◌, ◌-◌, ◌%◌, ◌^◌, ◌≤◌, ◌<◌, min}
use Rattle.std.proofs.Math.Nat.{mod-eq_of_lt}
use Rattle.std.proofs.Math.Dec.{eqb}
use Rattle.std.proofs.Math.ListN.{take}
use Rattle.std.proofs.lemmas.Bool.{eqb-false}
use Rattle.model.specs.Sizes.{session_limit, connection_limit, string_limit, list_limit}
use Rattle.model.specs.State.{Entry, Exchange, Connection, RemoteLocal, Allowed, Allowed.any_command, Rest, Server, with_allowed, blank, at}
use Rattle.model.specs.State.{fresh_exchange, closed_connection, exchange_at, connection_at, Sensing, fresh_sensing, sensing_at}
use Rattle.readings.specs.Record.{Recorded}
use Rattle.model.specs.Exchange.{with_answering, with_clear, with_client_size, with_mode, with_count, with_expectation, with_number}
use Rattle.model.specs.Locks.{with_row, with_order, with_granted}
use Rattle.state.specs.Table.{tab, tab_same, tab_set, get_d_tab, length_tab, apart}
use Rattle.state.specs.Grid.{upd, upd_set, part, grid, grid_set, grid_off, get_d_grid, word_of}
use Rattle.bits.specs.Bits.{bit}
use Rattle.state.specs.Layout.{LOCKS, CLOCK, VENDOR, PREFERENCE, STATUS, LAST, ENABLE, LOCKOUT, REMOTE, HOLDER, SHARERS, KEY, COUNT, ENTRIES, ENTRY}
use Rattle.state.specs.Layout.{ORDERS, ORDER, EXCHANGES, EXCHANGE, CONNECTIONS, CONNECTION, HOME, LISTED, REQUESTS, REQUEST, QUEUE, WORDS, LIST}
use Rattle.state.specs.Layout.{SENSINGS, SENSING}
use Rattle.state.specs.View.{memory, standing_of, word, flag, key_of, home_at, field_of, order_word, entry_from, entry_at, entries_of}
use Rattle.state.specs.View.{slot_at, request_at, waiting_of, locks_of, asked_of, exchange_from, exchange_of, connection_from, connection_of, rest_from, rest_of}
use Rattle.state.specs.View.{allowed_from, allowed_of, view, watch_of, numeral, sensing_from, sensing_of}
use Rattle.state.specs.Confirmed.{field_same, field_small}

-- the word of a field, in the row of a slot or of a connection
abbrev pub exchange_word : List ℕ → ℕ → ℕ → ℕ
exchange_word w i f = word w (EXCHANGES + i * EXCHANGE + f)

abbrev pub sensing_word : List ℕ → ℕ → ℕ → ℕ
sensing_word w i f = word w (SENSINGS + i * SENSING + f)

abbrev pub connection_word : List ℕ → ℕ → ℕ → ℕ
connection_word w i f = word w (CONNECTIONS + i * CONNECTION + f)

-- a field of a row, by its place
abbrev pub exchange_with : ℕ → ℕ → Exchange → Exchange
exchange_with zero v x = with_clear (flag v) x
exchange_with (suc zero) v x = with_answering (asked_of v) x.message_available x
exchange_with (suc (suc zero)) v x = with_answering x.asked (flag v) x
exchange_with (suc (suc (suc zero))) v x = with_client_size v x
exchange_with (suc (suc (suc (suc zero)))) v x = with_mode (flag v) x
exchange_with (suc (suc (suc (suc (suc zero))))) v x = with_count (v % 2 ^ 32) x.any_sent x
exchange_with (suc (suc (suc (suc (suc (suc zero)))))) v x = with_count x.count (flag v) x
exchange_with (suc (suc (suc (suc (suc (suc (suc zero))))))) v x = with_expectation (flag v) x
exchange_with (suc (suc (suc (suc (suc (suc (suc (suc f)))))))) v x = with_number (v % 2 ^ 32) x

abbrev pub record_with : ℕ → ℕ → Recorded → Recorded
record_with zero v r = record { last = r.last; lowest = r.lowest; highest = r.highest; seen = flag v }
record_with (suc zero) v r = record { last = numeral v; lowest = r.lowest; highest = r.highest; seen = r.seen }
record_with (suc (suc zero)) v r = record { last = r.last; lowest = numeral v; highest = r.highest; seen = r.seen }
record_with (suc (suc (suc f))) v r = record { last = r.last; lowest = r.lowest; highest = numeral v; seen = r.seen }

abbrev pub sensing_with : ℕ → ℕ → Sensing → Sensing
sensing_with zero v x = record { watch = watch_of v; tripped = x.tripped; recorded = x.recorded }
sensing_with (suc zero) v x = record { watch = x.watch; tripped = flag v; recorded = x.recorded }
sensing_with (suc (suc f)) v x = record { watch = x.watch; tripped = x.tripped; recorded = record_with f v x.recorded }

abbrev pub connection_with : ℕ → ℕ → Connection → Connection
connection_with zero v x = record { is_open = flag (v % 2); remainder = x.remainder }
connection_with (suc f) v x = record { is_open = x.is_open; remainder = v }

abbrev pub entry_with : ℕ → ℕ → Entry → Entry
entry_with zero v e = with_row v e.synchronous e.asynchronous e
entry_with (suc zero) v e = with_row e.number (v % 256) e.asynchronous e
entry_with (suc (suc f)) v e = with_row e.number e.synchronous (v % 256) e

abbrev pub order_with : ℕ → ℕ → Entry → Entry
order_with zero v e = with_order (v % 2 ^ 32) e.standing e
order_with (suc zero) v e = with_order e.last (standing_of v) e
order_with (suc (suc zero)) v e = with_granted (record { granted_at = v; grants = e.locks_granted.grants }) e
order_with (suc (suc (suc f))) v e = with_granted (record { granted_at = e.locks_granted.granted_at; grants = v }) e

-- a single value of the rest, by its place: vendor number, preference, status byte, last SessionID, the three flags
abbrev pub flags_with : ℕ → ℕ → RemoteLocal → RemoteLocal
flags_with zero v x = record { enable = flag v; lockout = x.lockout; remote = x.remote }
flags_with (suc zero) v x = record { enable = x.enable; lockout = flag v; remote = x.remote }
flags_with (suc (suc f)) v x = record { enable = x.enable; lockout = x.lockout; remote = flag v }

abbrev pub single_with : ℕ → ℕ → Rest → Rest
single_with zero v r = record {
  exchanges = r.exchanges;
  sensings = r.sensings;
  connections = r.connections;
  last_issued = r.last_issued;
  made = record { vendor = v % 65536; prefers_overlap = r.made.prefers_overlap };
  status = r.status;
  remote_local = r.remote_local;
  allowed = r.allowed;
}
single_with (suc zero) v r = record {
  exchanges = r.exchanges;
  sensings = r.sensings;
  connections = r.connections;
  last_issued = r.last_issued;
  made = record { vendor = r.made.vendor; prefers_overlap = flag v };
  status = r.status;
  remote_local = r.remote_local;
  allowed = r.allowed;
}
single_with (suc (suc zero)) v r = record {
  exchanges = r.exchanges;
  sensings = r.sensings;
  connections = r.connections;
  last_issued = r.last_issued;
  made = r.made;
  status = v % 256;
  remote_local = r.remote_local;
  allowed = r.allowed;
}
single_with (suc (suc (suc zero))) v r = record {
  exchanges = r.exchanges;
  sensings = r.sensings;
  connections = r.connections;
  last_issued = v % 65536;
  made = r.made;
  status = r.status;
  remote_local = r.remote_local;
  allowed = r.allowed;
}
single_with (suc (suc (suc (suc f)))) v r = record {
  exchanges = r.exchanges;
  sensings = r.sensings;
  connections = r.connections;
  last_issued = r.last_issued;
  made = r.made;
  status = r.status;
  remote_local = flags_with f v r.remote_local;
  allowed = r.allowed;
}

abbrev pub with_clock : Server → ℕ → Server
with_clock d t = record { locks = record { clock = t; entries = d.locks.entries; waiting = d.locks.waiting }; rest = d.rest }

abbrev pub on_rest : Server → (Rest → Rest) → Server
on_rest d g = record { locks = d.locks; rest = g d.rest }

-- a change of one row
abbrev pub on_exchange : Server → ℕ → (Exchange → Exchange) → Server
on_exchange d i g =
    record {
      locks = d.locks;
      rest = record {
        exchanges = upd d.rest.exchanges i g;
        sensings = d.rest.sensings;
        connections = d.rest.connections;
        last_issued = d.rest.last_issued;
        made = d.rest.made;
        status = d.rest.status;
        remote_local = d.rest.remote_local;
        allowed = d.rest.allowed;
      };
    }

abbrev pub on_sensing : Server → ℕ → (Sensing → Sensing) → Server
on_sensing d i g =
    record {
      locks = d.locks;
      rest = record {
        exchanges = d.rest.exchanges;
        sensings = upd d.rest.sensings i g;
        connections = d.rest.connections;
        last_issued = d.rest.last_issued;
        made = d.rest.made;
        status = d.rest.status;
        remote_local = d.rest.remote_local;
        allowed = d.rest.allowed;
      };
    }

abbrev pub on_connection : Server → ℕ → (Connection → Connection) → Server
on_connection d i g =
    record {
      locks = d.locks;
      rest = record {
        exchanges = d.rest.exchanges;
        sensings = d.rest.sensings;
        connections = upd d.rest.connections i g;
        last_issued = d.rest.last_issued;
        made = d.rest.made;
        status = d.rest.status;
        remote_local = d.rest.remote_local;
        allowed = d.rest.allowed;
      };
    }

abbrev pub on_entry : Server → ℕ → (Entry → Entry) → Server
on_entry d i g =
    record {
      locks = record { clock = d.locks.clock; entries = upd d.locks.entries i g; waiting = d.locks.waiting };
      rest = d.rest;
    }

-- equal words make equal entries, exchanges and connections
pub entry_same : (t t' r r' : ℕ → ℕ) (x x' : Bool) (y y' : List ℕ) → ((f : ℕ) → f < ENTRY → t f ≡ t' f) → ((f : ℕ) → f < ORDER → r f ≡ r' f) → x ≡ x' → y ≡ y'
    → entry_from t r x y ≡ entry_from t' r' x' y'
entry_same t t' r r' x x' y y' p q u v =
    λ k. record {
      number = p 0 (lit< tt) k;
      synchronous = p 1 (lit< tt) k;
      asynchronous = p 2 (lit< tt) k;
      exclusive = u k;
      shared = v k;
      last = q 0 (lit< tt) k % 2 ^ 32;
      standing = standing_of (q 1 (lit< tt) k);
      locks_granted = record { granted_at = q 2 (lit< tt) k; grants = q 3 (lit< tt) k };
    }

exchange_same : (t t' : ℕ → ℕ) → ((f : ℕ) → t f ≡ t' f) → exchange_from t ≡ exchange_from t'
exchange_same t t' e =
    λ k. record {
      in_clear = flag (e 0 k);
      asked = asked_of (e 1 k);
      message_available = flag (e 2 k);
      client_size = e 3 k;
      overlap = flag (e 4 k);
      count = e 5 k % 2 ^ 32;
      any_sent = flag (e 6 k);
      rmt_expected = flag (e 7 k);
      number_expected = e 8 k % 2 ^ 32;
    }

pub connection_same : (t t' : ℕ → ℕ) → ((f : ℕ) → f < HOME → t f ≡ t' f) → connection_from t ≡ connection_from t'
connection_same t t' e = λ k. record { is_open = flag (e 0 (lit< tt) k % 2); remainder = e 1 (lit< tt) k }

module _ (w : List ℕ) where
  -- a store elsewhere is not seen in a word; here it is
  pub off : (a v i : ℕ) → (i ≡ a → ⊥) → word (set w a v) i ≡ word w i
  off a v i o = get_or-set_other w a i v 0 o

  pub here : (a v : ℕ) → a < length w → word (set w a v) a ≡ v
  here a v h = get_or-set_same w a v 0 h

  -- both at once: word g of those from a on, after a store into word f of them
  pub stored : (a f v g : ℕ) → a + f < length w → word (set w (a + f) v) (a + g) ≡ cond (eqb g f) v (word w (a + g))
  stored a f v g h = by (eqb g f) refl
    where
      by : (b : Bool) → eqb g f ≡ b → word (set w (a + f) v) (a + g) ≡ cond b v (word w (a + g))
      by true e = let n : a + g ≡ a + f = ap (λ (x : ℕ). a + x) (eqb-true g f e) in ap (word (set w (a + f) v)) n ∙ here (a + f) v h
      by false e = off (a + f) v (a + g) (λ q. eqb-false g f e (let z : g ≡ f = omega arith in z))

  -- no connection's home stands at a place, as nowhere among the words of the locks
  abbrev pub Homeless : ℕ → Type 0
  Homeless a = (c : ℕ) → c < connection_limit → home_at c ≡ a → ⊥

  pub past_homes : (a : ℕ) → LOCKS ≤ a → Homeless a
  past_homes a h c l e = omega arith

  -- the parts of the locks, each with the words that it is read from
  field_off : (a v i f : ℕ) → i < session_limit → f < ENTRY → Homeless a → (a < ENTRIES) ⊎ (REQUESTS ≤ a) → field_of (set w a v) i f ≡ field_of w i f
  field_off a v i f h l n o =
      field_same w (set w a v) i
      (λ g x. off a v (ENTRIES + i * ENTRY + g) (λ e. ⊎_elim (λ (y : a < ENTRIES). omega arith) (λ (y : REQUESTS ≤ a). omega arith) o))
      (λ c x. off a v (home_at c) (n c x)) f l

  order_off : (a v i f : ℕ) → i < session_limit → f < ORDER → (a < ENTRIES) ⊎ (REQUESTS ≤ a) → order_word (set w a v) i f ≡ order_word w i f
  order_off a v i f h l o = off a v (ORDERS + i * ORDER + f) (λ e. ⊎_elim (λ (y : a < ENTRIES). omega arith) (λ (y : REQUESTS ≤ a). omega arith) o)

  pub entry_off : (key : List ℕ) (a v i : ℕ) → i < session_limit → (HOLDER ≡ a → ⊥) → (SHARERS ≡ a → ⊥) → Homeless a → (a < ENTRIES) ⊎ (REQUESTS ≤ a)
      → entry_at (set w a v) key i ≡ entry_at w key i
  unfolding entry_at
  entry_off key a v i h p q n o =
      entry_same (field_of (set w a v) i) (field_of w i) (order_word (set w a v) i) (order_word w i) _ _ _ _ (λ f l. field_off a v i f h l n o) (λ f l. order_off a v i f h l o)
      (ap (λ (x : ℕ). eqb x (i + 1)) (off a v HOLDER p)) (ap (λ (x : ℕ). cond (eqb (bit x i) 1) key []) (off a v SHARERS q))

  pub entries_off : (key : List ℕ) (a v : ℕ) → (HOLDER ≡ a → ⊥) → (SHARERS ≡ a → ⊥) → Homeless a → (a < ENTRIES) ⊎ (REQUESTS ≤ a)
      → entries_of (set w a v) key ≡ entries_of w key
  unfolding entries_of
  entries_off key a v p q n o = tab_same (entry_at (set w a v) key) (entry_at w key) 0 session_limit (λ j x y. entry_off key a v j (omega arith) p q n o)

  pub key_off : (s : List ℕ) (a v : ℕ) → (KEY ≡ a → ⊥) → key_of (set w a v) s ≡ key_of w s
  unfolding key_of
  key_off s a v o = ap (λ (x : ℕ). word s 0 ∷ take x (part s 1 (string_limit - 1))) (off a v KEY o)

  request_off : (s : List ℕ) (a v j : ℕ) → a < REQUESTS → request_at (set w a v) s (slot_at (set w a v) j) ≡ request_at w s (slot_at w j)
  unfolding request_at slot_at
  request_off s a v j h =
      let i : ℕ = word w (QUEUE + j) % session_limit in
      ap (λ (x : ℕ). request_at (set w a v) s (x % session_limit)) (off a v (QUEUE + j) (omega arith))
      ∙ λ k. record {
        slot = i;
        deadline = off a v (REQUESTS + i * REQUEST) (omega arith) k;
        string = take (off a v (REQUESTS + i * REQUEST + 1) (omega arith) k) (part s (string_limit + i * string_limit) string_limit);
      }

  pub waiting_off : (s : List ℕ) (a v : ℕ) → a < REQUESTS → (COUNT ≡ a → ⊥) → waiting_of (set w a v) s ≡ waiting_of w s
  unfolding waiting_of
  waiting_off s a v h o =
      ap (λ (x : ℕ). tab (λ (j : ℕ). request_at (set w a v) s (slot_at (set w a v) j)) 0 (min x session_limit)) (off a v COUNT o)
      ∙ tab_same (λ (j : ℕ). request_at (set w a v) s (slot_at (set w a v) j)) (λ (j : ℕ). request_at w s (slot_at w j)) 0 (min (word w COUNT) session_limit) (λ j p q. request_off s a v j h)

  -- a store among the words of the rest leaves the locks, one among the words of the locks leaves the rest
  pub locks_off : (s : List ℕ) (a v : ℕ) → a < LOCKS → Homeless a → locks_of (set w a v) s ≡ locks_of w s
  unfolding locks_of
  locks_off s a v h n =
      λ k. record {
        clock = off a v CLOCK (omega arith) k % 2 ^ 63;
        entries = (ap (entries_of (set w a v)) (key_off s a v (omega arith)) ∙ entries_off (key_of w s) a v (omega arith) (omega arith) n (inl (omega arith))) k;
        waiting = waiting_off s a v (omega arith) (omega arith) k;
      }

  pub rest_words : (a v : ℕ) → LISTED ≤ a → rest_of (set w a v) ≡ rest_of w
  unfolding rest_of
  rest_words a v h =
      λ k. record {
        exchanges = grid_off exchange_of EXCHANGES EXCHANGE session_limit w a v (inr (omega arith)) k;
        sensings = grid_off sensing_of SENSINGS SENSING session_limit w a v (inr (omega arith)) k;
        connections = grid_off connection_of CONNECTIONS CONNECTION connection_limit w a v (inr (omega arith)) k;
        last_issued = off a v LAST (omega arith) k % 65536;
        made = record { vendor = off a v VENDOR (omega arith) k % 65536; prefers_overlap = flag (off a v PREFERENCE (omega arith) k) };
        status = off a v STATUS (omega arith) k % 256;
        remote_local = record {
          enable = flag (off a v ENABLE (omega arith) k);
          lockout = flag (off a v LOCKOUT (omega arith) k);
          remote = flag (off a v REMOTE (omega arith) k);
        };
        allowed = any_command;
      }

  -- the allowed commands stay where their word and the bytes of their text do
  pub allowed_off : (s s' : List ℕ) (a v : ℕ) → (LISTED ≡ a → ⊥) → part s' LIST list_limit ≡ part s LIST list_limit → allowed_of (set w a v) s' ≡ allowed_of w s
  unfolding allowed_of
  allowed_off s s' a v o e = ap₂ allowed_from (off a v LISTED o) e

  pub rest_off : (s s' : List ℕ) (a v : ℕ) → LOCKS ≤ a → part s' LIST list_limit ≡ part s LIST list_limit → (view (memory (set w a v) s')).rest ≡ (view (memory w s)).rest
  rest_off s s' a v h e = ap₂ with_allowed (rest_words a v (omega arith)) (allowed_off s s' a v (omega arith) e)

-- a field of a row, stored: one law over the place for each table
row_stored : (r : List ℕ) (f v g : ℕ) → f < length r → word (set r f v) g ≡ cond (eqb g f) v (word r g)
row_stored r f v g h =
    let e : 0 + f ≡ f = zero-add f in
    let d : 0 + g ≡ g = zero-add g in
    (rw (e, d) at (stored r 0 f v g (rw e h)))

exchange_by : (t : ℕ → ℕ) (f v : ℕ) → f < EXCHANGE → exchange_from (λ (g : ℕ). cond (eqb g f) v (t g)) ≡ exchange_with f v (exchange_from t)
exchange_by t zero v l = refl
exchange_by t (suc zero) v l = refl
exchange_by t (suc (suc zero)) v l = refl
exchange_by t (suc (suc (suc zero))) v l = refl
exchange_by t (suc (suc (suc (suc zero)))) v l = refl
exchange_by t (suc (suc (suc (suc (suc zero))))) v l = refl
exchange_by t (suc (suc (suc (suc (suc (suc zero)))))) v l = refl
exchange_by t (suc (suc (suc (suc (suc (suc (suc zero))))))) v l = refl
exchange_by t (suc (suc (suc (suc (suc (suc (suc (suc zero)))))))) v l = refl
exchange_by t (suc (suc (suc (suc (suc (suc (suc (suc (suc f))))))))) v l = absurd (omega arith)

exchange_row_lem : (r : List ℕ) (f v : ℕ) → length r ≡ EXCHANGE → f < EXCHANGE → exchange_of (set r f v) ≡ exchange_with f v (exchange_of r)
exchange_row_lem r f v h l = exchange_same (word (set r f v)) (λ (g : ℕ). cond (eqb g f) v (word r g)) (λ g. row_stored r f v g (omega arith)) ∙ exchange_by (word r) f v l

sensing_row : (r : List ℕ) (f v : ℕ) → length r ≡ SENSING → f < SENSING → sensing_of (set r f v) ≡ sensing_with f v (sensing_of r)
sensing_row r f v h l =
    let t : (g : ℕ) → word (set r f v) g ≡ cond (eqb g f) v (word r g) = (λ g. row_stored r f v g (omega arith)) in
    (λ k. record { watch = watch_of (t 0 k); tripped = flag (t 1 k); recorded = record { last = numeral (t 3 k); lowest = numeral (t 4 k); highest = numeral (t 5 k); seen = flag (t 2 k) } }) ∙ by f l
  where
    by : (f : ℕ) → f < SENSING → sensing_from (λ (g : ℕ). cond (eqb g f) v (word r g)) ≡ sensing_with f v (sensing_of r)
    by zero l = refl
    by (suc zero) l = refl
    by (suc (suc zero)) l = refl
    by (suc (suc (suc zero))) l = refl
    by (suc (suc (suc (suc zero)))) l = refl
    by (suc (suc (suc (suc (suc zero))))) l = refl
    by (suc (suc (suc (suc (suc (suc f)))))) l = absurd (omega arith)

connection_by : (t : ℕ → ℕ) (f v : ℕ) → f < HOME → connection_from (λ (g : ℕ). cond (eqb g f) v (t g)) ≡ connection_with f v (connection_from t)
connection_by t zero v l = refl
connection_by t (suc zero) v l = refl
connection_by t (suc (suc f)) v l = absurd (omega arith)

connection_row : (r : List ℕ) (f v : ℕ) → length r ≡ CONNECTION → f < HOME → connection_of (set r f v) ≡ connection_with f v (connection_of r)
connection_row r f v h l = connection_same (word (set r f v)) (λ (g : ℕ). cond (eqb g f) v (word r g)) (λ g x. row_stored r f v g (omega arith)) ∙ connection_by (word r) f v l

module _ (w s : List ℕ) (i f v : ℕ) (long : length w ≡ WORDS) where
  pub exchange_stored : i < session_limit → f < EXCHANGE
      → view (memory (set w (EXCHANGES + i * EXCHANGE + f) v) s) ≡ on_exchange (view (memory w s)) i (exchange_with f v)
  unfolding rest_of
  exchange_stored h l =
      let a : ℕ = EXCHANGES + i * EXCHANGE + f in
      λ k. record {
        locks = locks_off w s a v (omega arith) (λ c x e. omega arith) k;
        rest = record {
          exchanges = grid_set exchange_of EXCHANGES EXCHANGE session_limit w i f v (exchange_with f v) (λ r e. exchange_row_lem r f v e l) h l (omega arith) k;
          sensings = grid_off sensing_of SENSINGS SENSING session_limit w a v (inl (omega arith)) k;
          connections = grid_off connection_of CONNECTIONS CONNECTION connection_limit w a v (inl (omega arith)) k;
          last_issued = off w a v LAST (omega arith) k % 65536;
          made = record { vendor = off w a v VENDOR (omega arith) k % 65536; prefers_overlap = flag (off w a v PREFERENCE (omega arith) k) };
          status = off w a v STATUS (omega arith) k % 256;
          remote_local = record { enable = flag (off w a v ENABLE (omega arith) k); lockout = flag (off w a v LOCKOUT (omega arith) k); remote = flag (off w a v REMOTE (omega arith) k) };
          allowed = allowed_off w s s a v (omega arith) refl k;
        };
      }

  pub sensing_stored : i < session_limit → f < SENSING
      → view (memory (set w (SENSINGS + i * SENSING + f) v) s) ≡ on_sensing (view (memory w s)) i (sensing_with f v)
  unfolding rest_of
  sensing_stored h l =
      let a : ℕ = SENSINGS + i * SENSING + f in
      λ k. record {
        locks = locks_off w s a v (omega arith) (λ c x e. omega arith) k;
        rest = record {
          exchanges = grid_off exchange_of EXCHANGES EXCHANGE session_limit w a v (inr (omega arith)) k;
          sensings = grid_set sensing_of SENSINGS SENSING session_limit w i f v (sensing_with f v) (λ r e. sensing_row r f v e l) h l (omega arith) k;
          connections = grid_off connection_of CONNECTIONS CONNECTION connection_limit w a v (inr (omega arith)) k;
          last_issued = off w a v LAST (omega arith) k % 65536;
          made = record { vendor = off w a v VENDOR (omega arith) k % 65536; prefers_overlap = flag (off w a v PREFERENCE (omega arith) k) };
          status = off w a v STATUS (omega arith) k % 256;
          remote_local = record { enable = flag (off w a v ENABLE (omega arith) k); lockout = flag (off w a v LOCKOUT (omega arith) k); remote = flag (off w a v REMOTE (omega arith) k) };
          allowed = allowed_off w s s a v (omega arith) refl k;
        };
      }

  pub connection_stored : i < connection_limit → f < HOME
      → view (memory (set w (CONNECTIONS + i * CONNECTION + f) v) s) ≡ on_connection (view (memory w s)) i (connection_with f v)
  unfolding rest_of
  connection_stored h l =
      let a : ℕ = CONNECTIONS + i * CONNECTION + f in
      λ k. record {
        locks = locks_off w s a v (omega arith) (λ c x e. omega arith) k;
        rest = record {
          exchanges = grid_off exchange_of EXCHANGES EXCHANGE session_limit w a v (inr (omega arith)) k;
          sensings = grid_off sensing_of SENSINGS SENSING session_limit w a v (inl (omega arith)) k;
          connections = grid_set connection_of CONNECTIONS CONNECTION connection_limit w i f v (connection_with f v) (λ r e. connection_row r f v e l) h (omega arith) (omega arith) k;
          last_issued = off w a v LAST (omega arith) k % 65536;
          made = record { vendor = off w a v VENDOR (omega arith) k % 65536; prefers_overlap = flag (off w a v PREFERENCE (omega arith) k) };
          status = off w a v STATUS (omega arith) k % 256;
          remote_local = record { enable = flag (off w a v ENABLE (omega arith) k); lockout = flag (off w a v LOCKOUT (omega arith) k); remote = flag (off w a v REMOTE (omega arith) k) };
          allowed = allowed_off w s s a v (omega arith) refl k;
        };
      }

-- of a slot, its last message, the release that stands, and what was granted to it
order_by : (t : ℕ → ℕ) (x : Bool) (y : List ℕ) (r : ℕ → ℕ) (f v : ℕ) → f < ORDER
    → entry_from t (λ (g : ℕ). cond (eqb g f) v (r g)) x y ≡ order_with f v (entry_from t r x y)
order_by t x y r zero v l = refl
order_by t x y r (suc zero) v l = refl
order_by t x y r (suc (suc zero)) v l = refl
order_by t x y r (suc (suc (suc zero))) v l = refl
order_by t x y r (suc (suc (suc (suc f)))) v l = absurd (omega arith)

module _ (w key : List ℕ) (i f v : ℕ) (h : i < session_limit) (l : f < ORDER) where
  abbrev ordered : List ℕ
  ordered = set w (ORDERS + i * ORDER + f) v

  -- no other part of the table is there
  order_fields : (j g : ℕ) → j < session_limit → g < ENTRY → field_of ordered j g ≡ field_of w j g
  order_fields j g m x =
      field_same w ordered j (λ y z. off w (ORDERS + i * ORDER + f) v (ENTRIES + j * ENTRY + y) (omega arith)) (λ c z. off w (ORDERS + i * ORDER + f) v (home_at c) (omega arith)) g x

  entry_with_lem : (j : ℕ) (r : ℕ → ℕ) → j < session_limit → ((g : ℕ) → g < ORDER → order_word ordered j g ≡ r g)
      → entry_at ordered key j ≡ entry_from (field_of w j) r (eqb (word w HOLDER) (j + 1)) (cond (eqb (bit (word w SHARERS) j) 1) key [])
  unfolding entry_at
  entry_with_lem j r m p =
      let a : ℕ = ORDERS + i * ORDER + f in
      entry_same (field_of ordered j) (field_of w j) (order_word ordered j) r _ _ _ _ (λ g l. order_fields j g m l) p
      (ap (λ (x : ℕ). eqb x (j + 1)) (off w a v HOLDER (omega arith))) (ap (λ (x : ℕ). cond (eqb (bit x j) 1) key []) (off w a v SHARERS (omega arith)))

  order_row : length w ≡ WORDS → entry_at ordered key i ≡ order_with f v (entry_at w key i)
  unfolding entry_at
  order_row n =
      let b : ℕ = ORDERS + i * ORDER in
      entry_with_lem i (λ (g : ℕ). cond (eqb g f) v (order_word w i g)) h (λ g x. stored w b f v g (omega arith))
      ∙ order_by (field_of w i) (eqb (word w HOLDER) (i + 1)) (cond (eqb (bit (word w SHARERS) i) 1) key []) (order_word w i) f v l

  order_other : (j : ℕ) → j < session_limit → (j ≡ i → ⊥) → entry_at ordered key j ≡ entry_at w key j
  unfolding entry_at
  order_other j m o =
      let n : (g : ℕ) → g < ORDER → order_word ordered j g ≡ order_word w j g =
      (λ g x. off w (ORDERS + i * ORDER + f) v (ORDERS + j * ORDER + g)
      (λ e. ⊎_elim (λ (y : j < i). omega arith) (λ (y : i < j). omega arith) (apart j i o))) in
      entry_with_lem j (order_word w j) m n

-- a memory whose table differs in slot i alone
pub entries_change : (w w' key key' : List ℕ) (i : ℕ) (g : Entry → Entry) → i < session_limit
    → entry_at w' key' i ≡ g (entry_at w key i)
    → ((j : ℕ) → j < session_limit → (j ≡ i → ⊥) → entry_at w' key' j ≡ entry_at w key j)
    → entries_of w' key' ≡ upd (entries_of w key) i g
unfolding entries_of
entries_change w w' key key' i g h e o =
    tab_set (entry_at w key) (entry_at w' key') 0 session_limit i (g (entry_at w key i)) h
    (ap (entry_at w' key') (zero-add i) ∙ e)
    (λ j p q n. o j (omega arith) (λ e. n (e ∙ sym (zero-add i))))
    ∙ ap (λ (x : Entry). set (entries_of w key) i (g x)) (sym (get_d_tab (entry_at w key) 0 session_limit i blank h ∙ ap (entry_at w key) (zero-add i)))
    ∙ upd_set (entries_of w key) i blank g

pub order_stored : (w s : List ℕ) (i f v : ℕ) → length w ≡ WORDS → i < session_limit → f < ORDER
    → view (memory (set w (ORDERS + i * ORDER + f) v) s) ≡ on_entry (view (memory w s)) i (order_with f v)
unfolding locks_of
order_stored w s i f v n h l =
    let a : ℕ = ORDERS + i * ORDER + f in
    let key : List ℕ = key_of w s in
    λ k. record {
      locks = record {
        clock = off w a v CLOCK (omega arith) k % 2 ^ 63;
        entries = (ap (entries_of (set w a v)) (key_off w s a v (omega arith)) ∙ entries_change w (set w a v) key key i (order_with f v) h (order_row w key i f v h l n) (order_other w key i f v h l)) k;
        waiting = waiting_off w s a v (omega arith) (omega arith) k;
      };
      rest = rest_off w s s a v (omega arith) refl k;
    }

-- a field of a row, read: the word that stands there, stored again, changes nothing
again : (t : ℕ → ℕ) (f g : ℕ) → cond (eqb g f) (t f) (t g) ≡ t g
again t f g = by (eqb g f) refl
  where
    by : (b : Bool) → eqb g f ≡ b → cond b (t f) (t g) ≡ t g
    by true e = ap t (sym (eqb-true g f e))
    by false e = refl

-- there are as many slots as sessions
pub sessions_held : (w s : List ℕ) → length (locks_of w s).entries ≡ session_limit
unfolding locks_of entries_of
sessions_held w s = length_tab (entry_at w (key_of w s)) 0 session_limit

module _ (w : List ℕ) (i : ℕ) where
  exchange_at_lem : i < session_limit → exchange_at (rest_of w) i ≡ exchange_of (part w (EXCHANGES + i * EXCHANGE) EXCHANGE)
  unfolding rest_of
  exchange_at_lem h = get_d_grid exchange_of EXCHANGES EXCHANGE session_limit w i fresh_exchange h

  pub exchange_read : (f : ℕ) → i < session_limit → f < EXCHANGE → exchange_with f (word w (EXCHANGES + i * EXCHANGE + f)) (exchange_at (rest_of w) i) ≡ exchange_at (rest_of w) i
  exchange_read f h l =
      let b : ℕ = EXCHANGES + i * EXCHANGE in
      let r : ℕ → ℕ = word (part w b EXCHANGE) in
      ap₂ (exchange_with f) (sym (word_of w b EXCHANGE f l)) (exchange_at_lem h) ∙ sym (exchange_by r f (r f) l) ∙ exchange_same (λ (g : ℕ). cond (eqb g f) (r f) (r g)) r (again r f) ∙ sym (exchange_at_lem h)

  pub sensing_at_lem : i < session_limit → sensing_at (rest_of w) i ≡ sensing_from (sensing_word w i)
  unfolding rest_of
  sensing_at_lem h =
      let b : ℕ = SENSINGS + i * SENSING in
      let t : (f : ℕ) → f < SENSING → word (part w b SENSING) f ≡ word w (b + f) = (λ f l. word_of w b SENSING f l) in
      get_d_grid sensing_of SENSINGS SENSING session_limit w i fresh_sensing h
      ∙ λ k. record {
        watch = watch_of (t 0 (lit< tt) k);
        tripped = flag (t 1 (lit< tt) k);
        recorded = record { last = numeral (t 3 (lit< tt) k); lowest = numeral (t 4 (lit< tt) k); highest = numeral (t 5 (lit< tt) k); seen = flag (t 2 (lit< tt) k) };
      }

  connection_at_lem : i < connection_limit → connection_at (rest_of w) i ≡ connection_of (part w (CONNECTIONS + i * CONNECTION) CONNECTION)
  unfolding rest_of
  connection_at_lem h = get_d_grid connection_of CONNECTIONS CONNECTION connection_limit w i closed_connection h

  pub connection_read : (f : ℕ) → i < connection_limit → f < HOME → connection_with f (word w (CONNECTIONS + i * CONNECTION + f)) (connection_at (rest_of w) i) ≡ connection_at (rest_of w) i
  connection_read f h l =
      let b : ℕ = CONNECTIONS + i * CONNECTION in
      let r : ℕ → ℕ = word (part w b CONNECTION) in
      ap₂ (connection_with f) (sym (word_of w b CONNECTION f (omega arith))) (connection_at_lem h) ∙ sym (connection_by r f (r f) l)
      ∙ connection_same (λ (g : ℕ). cond (eqb g f) (r f) (r g)) r (λ g x. again r f g) ∙ sym (connection_at_lem h)

  pub entry_at_lem : (s : List ℕ) → i < session_limit → at (locks_of w s).entries i ≡ entry_at w (key_of w s) i
  unfolding locks_of entries_of
  entry_at_lem s h = get_d_tab (entry_at w (key_of w s)) 0 session_limit i blank h ∙ ap (entry_at w (key_of w s)) (zero-add i)

  entry_again : (key : List ℕ) (f : ℕ) → f < ENTRY → entry_with f (field_of w i f) (entry_at w key i) ≡ entry_at w key i
  unfolding entry_at
  entry_again key zero l = refl
  entry_again key (suc zero) l = λ k. entry_from (λ (f : ℕ). cond (eqb f 1) (mod-eq_of_lt (field_small w i 0) k) (field_of w i f)) (order_word w i)
      (entry_at w key i).exclusive (entry_at w key i).shared
  entry_again key (suc (suc zero)) l = λ k. entry_from (λ (f : ℕ). cond (eqb f 2) (mod-eq_of_lt (field_small w i 1) k) (field_of w i f)) (order_word w i)
      (entry_at w key i).exclusive (entry_at w key i).shared
  entry_again key (suc (suc (suc f))) l = absurd (omega arith)

  pub entry_read : (s : List ℕ) (f : ℕ) → i < session_limit → f < ENTRY → entry_with f (field_of w i f) (at (locks_of w s).entries i) ≡ at (locks_of w s).entries i
  entry_read s f h l = ap (entry_with f (field_of w i f)) (entry_at_lem s h) ∙ entry_again (key_of w s) f l ∙ sym (entry_at_lem s h)

  pub entry_told : (f r : ℕ) → i < session_limit → f < ENTRY → r ≡ field_of w i f
      → ((s : List ℕ) → entry_with f r (at (locks_of w s).entries i) ≡ at (locks_of w s).entries i) × (r ≡ field_of w i f)
  entry_told f r h l e = (λ s. ap (λ (x : ℕ). entry_with f x (at (locks_of w s).entries i)) e ∙ entry_read s f h l, e)

  order_again : (key : List ℕ) (f : ℕ) → f < ORDER → order_with f (order_word w i f) (entry_at w key i) ≡ entry_at w key i
  unfolding entry_at
  order_again key f l =
      let r : ℕ → ℕ = order_word w i in
      sym (order_by (field_of w i) _ _ r f (r f) l) ∙ entry_same (field_of w i) (field_of w i) (λ (g : ℕ). cond (eqb g f) (r f) (r g)) r _ _ _ _ (λ g x. refl) (λ g x. again r f g) refl refl

  pub order_read : (s : List ℕ) (f : ℕ) → i < session_limit → f < ORDER → order_with f (order_word w i f) (at (locks_of w s).entries i) ≡ at (locks_of w s).entries i
  order_read s f h l = ap (order_with f (order_word w i f)) (entry_at_lem s h) ∙ order_again (key_of w s) f l ∙ sym (entry_at_lem s h)

-- single values
module _ (w s : List ℕ) (v : ℕ) (long : length w ≡ WORDS) where
  pub clock_stored : v < 2 ^ 63 → view (memory (set w CLOCK v) s) ≡ with_clock (view (memory w s)) v
  unfolding locks_of
  clock_stored h =
      λ k. record {
        locks = record {
          clock = (ap (λ (x : ℕ). x % 2 ^ 63) (here w CLOCK v (omega arith)) ∙ mod-eq_of_lt h) k;
          entries = (ap (entries_of (set w CLOCK v)) (key_off w s CLOCK v (omega arith))
              ∙ entries_off w (key_of w s) CLOCK v (omega arith) (omega arith) (past_homes w CLOCK (omega arith)) (inl (omega arith))) k;
          waiting = waiting_off w s CLOCK v (omega arith) (omega arith) k;
        };
        rest = rest_off w s s CLOCK v (omega arith) refl k;
      }

-- the rest's single values
module _ (w : List ℕ) (v : ℕ) (long : length w ≡ WORDS) where
  rest_by : (x : List Exchange) (z : List Sensing) (y : List Connection) (t : ℕ → ℕ) (f : ℕ) → f < EXCHANGES → rest_from x z y (λ (g : ℕ). cond (eqb g f) v (t g)) ≡ single_with f v (rest_from x z y t)
  rest_by x z y t zero h = refl
  rest_by x z y t (suc zero) h = refl
  rest_by x z y t (suc (suc zero)) h = refl
  rest_by x z y t (suc (suc (suc zero))) h = refl
  rest_by x z y t (suc (suc (suc (suc zero)))) h = refl
  rest_by x z y t (suc (suc (suc (suc (suc zero))))) h = refl
  rest_by x z y t (suc (suc (suc (suc (suc (suc zero)))))) h = refl
  rest_by x z y t (suc (suc (suc (suc (suc (suc (suc f))))))) h = absurd (omega arith)

  exchanges_keep : (f : ℕ) → f < EXCHANGES → grid exchange_of EXCHANGES EXCHANGE session_limit (set w f v) ≡ grid exchange_of EXCHANGES EXCHANGE session_limit w
  exchanges_keep f h = grid_off exchange_of EXCHANGES EXCHANGE session_limit w f v (inl h)

  sensings_keep : (f : ℕ) → f < EXCHANGES → grid sensing_of SENSINGS SENSING session_limit (set w f v) ≡ grid sensing_of SENSINGS SENSING session_limit w
  sensings_keep f h = grid_off sensing_of SENSINGS SENSING session_limit w f v (inl (omega arith))

  connections_keep : (f : ℕ) → f < EXCHANGES → grid connection_of CONNECTIONS CONNECTION connection_limit (set w f v) ≡ grid connection_of CONNECTIONS CONNECTION connection_limit w
  connections_keep f h = grid_off connection_of CONNECTIONS CONNECTION connection_limit w f v (inl (omega arith))

  rest_row : (f : ℕ) → f < EXCHANGES → rest_of (set w f v) ≡ single_with f v (rest_of w)
  unfolding rest_of
  rest_row f h =
      let t : (g : ℕ) → word (set w f v) g ≡ cond (eqb g f) v (word w g) = (λ g. row_stored w f v g (omega arith)) in
      (λ k. record {
        exchanges = exchanges_keep f h k;
        sensings = sensings_keep f h k;
        connections = connections_keep f h k;
        last_issued = t LAST k % 65536;
        made = record { vendor = t VENDOR k % 65536; prefers_overlap = flag (t PREFERENCE k) };
        status = t STATUS k % 256;
        remote_local = record { enable = flag (t ENABLE k); lockout = flag (t LOCKOUT k); remote = flag (t REMOTE k) };
        allowed = any_command;
      })
      ∙ rest_by (grid exchange_of EXCHANGES EXCHANGE session_limit w) (grid sensing_of SENSINGS SENSING session_limit w) (grid connection_of CONNECTIONS CONNECTION connection_limit w) (word w) f h

  with_list : (f : ℕ) → f < EXCHANGES → (x : Allowed) → with_allowed (single_with f v (rest_of w)) x ≡ single_with f v (with_allowed (rest_of w) x)
  with_list zero h x = refl
  with_list (suc zero) h x = refl
  with_list (suc (suc zero)) h x = refl
  with_list (suc (suc (suc zero))) h x = refl
  with_list (suc (suc (suc (suc f)))) h x = refl

  pub single_stored : (s : List ℕ) (f : ℕ) → f < EXCHANGES → view (memory (set w f v) s) ≡ on_rest (view (memory w s)) (single_with f v)
  single_stored s f h = λ k. record {
    locks = locks_off w s f v (omega arith) (λ c x e. omega arith) k;
    rest = ((λ j. with_allowed (rest_row f h j) (allowed_off w s s f v (omega arith) refl j)) ∙ with_list f h (allowed_of w s)) k;
  }

pub single_read : (w : List ℕ) (f : ℕ) → f < EXCHANGES → single_with f (word w f) (rest_of w) ≡ rest_of w
unfolding rest_of
single_read w zero h = refl
single_read w (suc zero) h = refl
single_read w (suc (suc zero)) h = refl
single_read w (suc (suc (suc zero))) h = refl
single_read w (suc (suc (suc (suc zero)))) h = refl
single_read w (suc (suc (suc (suc (suc zero))))) h = refl
single_read w (suc (suc (suc (suc (suc (suc zero)))))) h = refl
single_read w (suc (suc (suc (suc (suc (suc (suc f))))))) h = absurd (omega arith)
