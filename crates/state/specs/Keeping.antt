-- What leaves memory in order: each part of it stays where the words and bytes that it is read from stay; and so a store of a word within
-- its range leaves all of it. Assumes nothing.
use Rattle.std.specs.Prelude.{◌≡◌, refl, ◌⊎◌, Bool, true, false, cond, List, ℕ, ◌+◌, ◌*◌, ◌%◌, ◌^◌, ◌≤◌, ◌<◌, eqb, length, set}
use Rattle.std.proofs.Common.{sym, ap, ap₂, subst, ◌∙◌, inl, inr, ⊎_elim, arith, lit<, length-set, eqb-true, ne_eqb}
use Rattle.std.proofs.lemmas.Bool.{eqb-false}
use Rattle.model.specs.Sizes.{session_limit, connection_limit, string_limit, list_limit}
use Rattle.state.specs.Bits.{with_bit, with_small, with_some}
use Rattle.state.specs.Layout.{EXCHANGES, EXCHANGE, CONNECTIONS, CONNECTION, HOME, LISTED, CLOCK, HOLDER, SHARERS, KEY, COUNT, ENTRIES, ENTRY}
use Rattle.state.specs.Layout.{ORDERS, ORDER, REQUESTS, REQUEST, QUEUE, WORDS, LIST, SENSINGS, SENSING}
use Rattle.state.specs.View.{memory, word, row_word, home_at, home_of, field_of, slot_at}
use Rattle.state.specs.Confirmed.{field_same}
use Rattle.state.specs.Change.{off, here}
use Rattle.state.specs.Tidy.{Tidy, TidyOver, Counted, Away, InRange, SingleRange, ExchangeRange, ConnectionRange, OrderRange, TidySingles, TidyRow}
use Rattle.state.specs.Tidy.{TidyHome, Shown, TidyRequest, TidyQueue, TidyKey, TidyList, SensingRange}

-- from memory w, s in order: the parts of w', s'
module _ (In : ℕ → Type 0) (w w' s s' : List ℕ) (t : TidyOver In (memory w s)) where
  pub kept_values : ((p : ℕ) → p < EXCHANGES → word w' p ≡ word w p) → (f : ℕ) → f < EXCHANGES → SingleRange f (word w' f)
  kept_values e f h = subst (SingleRange f) (sym (e f h)) (t.values f h)

  pub kept_range : (R : ℕ → ℕ → Type 0) (b k few n : ℕ) → ((i f : ℕ) → i < n → f < few → word w' (b + i * k + f) ≡ word w (b + i * k + f))
      → InRange R b k few n w → InRange R b k few n w'
  kept_range R b k few n e r i f h l = subst (R f) (sym (e i f h l)) (r i f h l)

  pub kept_singles : word w' CLOCK ≡ word w CLOCK → word w' HOLDER ≡ word w HOLDER → word w' SHARERS < 2 ^ session_limit → word w' COUNT ≤ session_limit → TidySingles w'
  kept_singles a b c d =
      record {
        clock = subst (λ (x : ℕ). x < 2 ^ 63) (sym a) t.singles.clock;
        holder = subst (λ (x : ℕ). x ≤ session_limit) (sym b) t.singles.holder;
        sharers = c;
        count = d;
      }

  -- the table of sessions
  module _ (row : (i f : ℕ) → i < session_limit → f < ENTRY → row_word w' i f ≡ row_word w i f)
      (home : (c : ℕ) → c < connection_limit → home_of w' c ≡ home_of w c) where
    pub kept_field : (i f : ℕ) → i < session_limit → f < ENTRY → field_of w' i f ≡ field_of w i f
    kept_field i f h l = field_same w w' i (λ g x. row i g h x) home f l

    pub kept_rows : (i : ℕ) → i < session_limit → TidyRow w' i
    kept_rows i h f o l =
        row i f h l
        ∙ t.rows i h f o l
        ∙ sym (ap₂ (λ (x y : ℕ). cond (eqb x 0) 0 y) (row i 0 h (lit< tt)) (kept_field i f h l))

    pub kept_homes : (c : ℕ) → c < connection_limit → TidyHome w' c
    kept_homes c h =
        ⊎_elim
        (λ (z : home_of w c ≡ 0). inl (home c h ∙ z))
        (λ (x : Shown w c). inr record { slot = x.slot; field = x.field; few = x.few; some = x.some; small = x.small; is = kept_field x.slot x.field x.few x.small ∙ x.is })
        (t.homes c h)

  -- a request that stays, the queue, the shared string; perhaps with other places of the queue
  pub kept_request : (In' : ℕ → Type 0) (i : ℕ) → i < session_limit
      → ((f : ℕ) → f < REQUEST → word w' (REQUESTS + i * REQUEST + f) ≡ word w (REQUESTS + i * REQUEST + f))
      → ((j : ℕ) → j < string_limit → word s' (string_limit + i * string_limit + j) ≡ word s (string_limit + i * string_limit + j))
      → (Away In' w' i → Away In w i) → TidyRequest In' w' s' i
  kept_request In' i h e b o =
      let r : TidyRequest In w s i = t.requests i h in
      let n : word w' (REQUESTS + i * REQUEST + 1) ≡ word w (REQUESTS + i * REQUEST + 1) = e 1 (lit< tt) in
      record {
        fits = subst (λ (x : ℕ). x ≤ string_limit) (sym n) r.fits;
        behind = λ j a l. b j l ∙ r.behind j (subst (λ (x : ℕ). x ≤ j) n a) l;
        no_deadline = λ x. e 0 (lit< tt) ∙ r.no_deadline (o x);
        no_string = λ x. n ∙ r.no_string (o x);
      }

  pub kept_queue : (In' : ℕ → Type 0) → ((j : ℕ) → word w' (QUEUE + j) ≡ word w (QUEUE + j)) → ((j : ℕ) → In' j → In j) → ((j : ℕ) → In j → In' j) → TidyQueue In' w'
  kept_queue In' e from to =
      record {
        slots = λ j x. subst (λ (y : ℕ). y < session_limit) (sym (e j)) (t.queue.slots j (from j x));
        behind = λ j o h. e j ∙ t.queue.behind j (λ x. o (to j x)) h;
      }

  pub kept_key : word w' KEY ≡ word w KEY → (word w' SHARERS ≡ 0 → word w SHARERS ≡ 0) → ((j : ℕ) → j < string_limit → word s' j ≡ word s j) → TidyKey w' s'
  kept_key e o b =
      record {
        fits = subst (λ (x : ℕ). x < string_limit) (sym e) t.key.fits;
        behind = λ j a l. b j l ∙ t.key.behind j (subst (λ (x : ℕ). x < j) e a) l;
        no_length = λ z. e ∙ t.key.no_length (o z);
        no_byte = λ z. b 0 (lit< tt) ∙ t.key.no_byte (o z);
      }

  pub kept_list : word w' LISTED ≡ word w LISTED → ((j : ℕ) → j < list_limit → word s' (LIST + j) ≡ word s (LIST + j)) → TidyList w' s'
  kept_list e b =
      record {
        fits = subst (λ (x : ℕ). x ≤ list_limit + 1) (sym e) t.list.fits;
        behind = λ j a l. b j l ∙ t.list.behind j (subst (λ (x : ℕ). x ≤ j + 1) e a) l;
      }

  -- the same places of the queue hold the same slots
  pub kept_away : (In' : ℕ → Type 0) (i : ℕ) → ((j : ℕ) → word w' (QUEUE + j) ≡ word w (QUEUE + j)) → ((j : ℕ) → In j → In' j) → Away In' w' i → Away In w i
  unfolding slot_at
  kept_away In' i e to o j x q = o j (to j x) (ap (λ (y : ℕ). y % session_limit) (e j) ∙ q)

-- the places as far as a count that stays
module _ (w w' : List ℕ) (e : word w' COUNT ≡ word w COUNT) where
  pub count_from : (j : ℕ) → Counted w' j → Counted w j
  count_from j x = subst (λ (y : ℕ). j < y) e x

  pub count_to : (j : ℕ) → Counted w j → Counted w' j
  count_to j x = subst (λ (y : ℕ). j < y) (sym e) x

-- v may stand at a place a that is read as it is, behind no home, row of connections, request, count or length of a string or text
pub record InPlace (w : List ℕ) (a v : ℕ) : Type 0 where
  pub value : (f : ℕ) → f < EXCHANGES → f ≡ a → SingleRange f v
  pub exchange : (i f : ℕ) → i < session_limit → f < EXCHANGE → EXCHANGES + i * EXCHANGE + f ≡ a → ExchangeRange f v
  pub sensing : (i f : ℕ) → i < session_limit → f < SENSING → SENSINGS + i * SENSING + f ≡ a → SensingRange f v
  pub connection : (i f : ℕ) → i < connection_limit → f < HOME → CONNECTIONS + i * CONNECTION + f ≡ a → ConnectionRange f v
  pub order : (i f : ℕ) → i < session_limit → f < ORDER → ORDERS + i * ORDER + f ≡ a → OrderRange f v
  pub clock : CLOCK ≡ a → v < 2 ^ 63
  pub holder : HOLDER ≡ a → v ≤ session_limit
  pub sharers : SHARERS ≡ a → v < 2 ^ session_limit
  pub shared : SHARERS ≡ a → v ≡ 0 → word w SHARERS ≡ 0
  pub no_home : (c : ℕ) → c < connection_limit → home_at c ≡ a → ⊥
  pub no_key : KEY ≡ a → ⊥
  pub no_list : LISTED ≡ a → ⊥
  pub no_count : COUNT ≡ a → ⊥
  pub no_row : (a < ENTRIES) ⊎ (ORDERS ≤ a)
  pub before : a < REQUESTS

module _ (w s : List ℕ) (a v : ℕ) (t : Tidy (memory w s)) (x : InPlace w a v) where
  abbrev w' : List ℕ
  w' = set w a v

  -- what holds of the word at a place, as it was or as it is stored
  placed : (P : ℕ → Type 0) (p : ℕ) → P (word w p) → (p ≡ a → P v) → P (word w' p)
  placed P p y g = by (eqb p a) refl
    where
      by : (b : Bool) → eqb p a ≡ b → P (word w' p)
      by true e =
          let z : p ≡ a = eqb-true p a e in
          let n : length w ≡ WORDS = t.long in
          let l : a < REQUESTS = x.before in
          subst P (sym (ap (word w') z ∙ here w a v (omega arith))) (g z)
      by false e = subst P (sym (off w a v p (eqb-false p a e))) y

  behind_all : (p : ℕ) → REQUESTS ≤ p → word w' p ≡ word w p
  behind_all p h = let l : a < REQUESTS = x.before in off w a v p (omega arith)

  row_off : (i f : ℕ) → i < session_limit → f < ENTRY → row_word w' i f ≡ row_word w i f
  row_off i f h l = off w a v (ENTRIES + i * ENTRY + f) (λ e. ⊎_elim (λ (y : a < ENTRIES). omega arith) (λ (y : ORDERS ≤ a). omega arith) x.no_row)

  home_off : (c : ℕ) → c < connection_limit → home_of w' c ≡ home_of w c
  home_off c h = off w a v (home_at c) (x.no_home c h)

  count_off : word w' COUNT ≡ word w COUNT
  count_off = off w a v COUNT x.no_count

  queue_off : (j : ℕ) → word w' (QUEUE + j) ≡ word w (QUEUE + j)
  queue_off j = behind_all (QUEUE + j) (omega arith)

  nobody : word w' SHARERS ≡ 0 → word w SHARERS ≡ 0
  nobody = placed (λ (y : ℕ). y ≡ 0 → word w SHARERS ≡ 0) SHARERS (λ z. z) x.shared

  pub stored_tidy : Tidy (memory (set w a v) s)
  stored_tidy =
      record {
        long = length-set w a v ∙ t.long;
        room = t.room;
        values = λ f h. placed (SingleRange f) f (t.values f h) (x.value f h);
        exchanges = λ i f h l. placed (ExchangeRange f) (EXCHANGES + i * EXCHANGE + f) (t.exchanges i f h l) (x.exchange i f h l);
        sensings = λ i f h l. placed (SensingRange f) (SENSINGS + i * SENSING + f) (t.sensings i f h l) (x.sensing i f h l);
        connections = λ i f h l. placed (ConnectionRange f) (CONNECTIONS + i * CONNECTION + f) (t.connections i f h l) (x.connection i f h l);
        orders = λ i f h l. placed (OrderRange f) (ORDERS + i * ORDER + f) (t.orders i f h l) (x.order i f h l);
        singles = record {
          clock = placed (λ (y : ℕ). y < 2 ^ 63) CLOCK t.singles.clock x.clock;
          holder = placed (λ (y : ℕ). y ≤ session_limit) HOLDER t.singles.holder x.holder;
          sharers = placed (λ (y : ℕ). y < 2 ^ session_limit) SHARERS t.singles.sharers x.sharers;
          count = subst (λ (y : ℕ). y ≤ session_limit) (sym count_off) t.singles.count;
        };
        rows = kept_rows (Counted w) w w' s s t row_off home_off;
        homes = kept_homes (Counted w) w w' s s t row_off home_off;
        requests = λ i h.
            kept_request (Counted w) w w' s s t (Counted w') i h (λ f l. behind_all (REQUESTS + i * REQUEST + f) (omega arith)) (λ j l. refl)
            (kept_away (Counted w) w w' s s t (Counted w') i queue_off (count_to w w' count_off));
        queue = kept_queue (Counted w) w w' s s t (Counted w') queue_off (count_from w w' count_off) (count_to w w' count_off);
        key = kept_key (Counted w) w w' s s t (off w a v KEY x.no_key) nobody (λ j l. refl);
        list = kept_list (Counted w) w w' s s t (off w a v LISTED x.no_list) (λ j l. refl);
      }

-- a field of a table, a single value, the clock, a holder, a set of sharers that is not empty: each within its range
module _ (w s : List ℕ) (i f v : ℕ) (t : Tidy (memory w s)) where
  pub exchange_tidy : i < session_limit → f < EXCHANGE → ExchangeRange f v → Tidy (memory (set w (EXCHANGES + i * EXCHANGE + f) v) s)
  exchange_tidy h l r =
      stored_tidy w s (EXCHANGES + i * EXCHANGE + f) v t
      record {
        value = λ g x e. absurd (omega arith);
        exchange = λ j g x y e. let z : f ≡ g = omega arith in subst (λ (k : ℕ). ExchangeRange k v) z r;
        sensing = λ j g x y e. absurd (omega arith);
        connection = λ j g x y e. absurd (omega arith);
        order = λ j g x y e. absurd (omega arith);
        clock = λ e. absurd (omega arith);
        holder = λ e. absurd (omega arith);
        sharers = λ e. absurd (omega arith);
        shared = λ e. absurd (omega arith);
        no_home = λ c x e. omega arith;
        no_key = λ e. omega arith;
        no_list = λ e. omega arith;
        no_count = λ e. omega arith;
        no_row = inl (omega arith);
        before = omega arith;
      }

  pub sensing_tidy : i < session_limit → f < SENSING → SensingRange f v → Tidy (memory (set w (SENSINGS + i * SENSING + f) v) s)
  sensing_tidy h l r =
      stored_tidy w s (SENSINGS + i * SENSING + f) v t
      record {
        value = λ g x e. absurd (omega arith);
        exchange = λ j g x y e. absurd (omega arith);
        sensing = λ j g x y e. let z : f ≡ g = omega arith in subst (λ (k : ℕ). SensingRange k v) z r;
        connection = λ j g x y e. absurd (omega arith);
        order = λ j g x y e. absurd (omega arith);
        clock = λ e. absurd (omega arith);
        holder = λ e. absurd (omega arith);
        sharers = λ e. absurd (omega arith);
        shared = λ e. absurd (omega arith);
        no_home = λ c x e. omega arith;
        no_key = λ e. omega arith;
        no_list = λ e. omega arith;
        no_count = λ e. omega arith;
        no_row = inl (omega arith);
        before = omega arith;
      }

  pub connection_tidy : i < connection_limit → f < HOME → ConnectionRange f v → Tidy (memory (set w (CONNECTIONS + i * CONNECTION + f) v) s)
  connection_tidy h l r =
      stored_tidy w s (CONNECTIONS + i * CONNECTION + f) v t
      record {
        value = λ g x e. absurd (omega arith);
        exchange = λ j g x y e. absurd (omega arith);
        sensing = λ j g x y e. absurd (omega arith);
        connection = λ j g x y e. let z : f ≡ g = omega arith in subst (λ (k : ℕ). ConnectionRange k v) z r;
        order = λ j g x y e. absurd (omega arith);
        clock = λ e. absurd (omega arith);
        holder = λ e. absurd (omega arith);
        sharers = λ e. absurd (omega arith);
        shared = λ e. absurd (omega arith);
        no_home = λ c x e. omega arith;
        no_key = λ e. omega arith;
        no_list = λ e. omega arith;
        no_count = λ e. omega arith;
        no_row = inl (omega arith);
        before = omega arith;
      }

  pub order_tidy : i < session_limit → f < ORDER → OrderRange f v → Tidy (memory (set w (ORDERS + i * ORDER + f) v) s)
  order_tidy h l r =
      stored_tidy w s (ORDERS + i * ORDER + f) v t
      record {
        value = λ g x e. absurd (omega arith);
        exchange = λ j g x y e. absurd (omega arith);
        sensing = λ j g x y e. absurd (omega arith);
        connection = λ j g x y e. absurd (omega arith);
        order = λ j g x y e. let z : f ≡ g = omega arith in subst (λ (k : ℕ). OrderRange k v) z r;
        clock = λ e. absurd (omega arith);
        holder = λ e. absurd (omega arith);
        sharers = λ e. absurd (omega arith);
        shared = λ e. absurd (omega arith);
        no_home = λ c x e. omega arith;
        no_key = λ e. omega arith;
        no_list = λ e. omega arith;
        no_count = λ e. omega arith;
        no_row = inr (omega arith);
        before = omega arith;
      }

module _ (w s : List ℕ) (v : ℕ) (t : Tidy (memory w s)) where
  pub value_tidy : (f : ℕ) → f < EXCHANGES → SingleRange f v → Tidy (memory (set w f v) s)
  value_tidy f l r =
      stored_tidy w s f v t
      record {
        value = λ g x e. subst (λ (k : ℕ). SingleRange k v) (sym e) r;
        exchange = λ j g x y e. absurd (omega arith);
        sensing = λ j g x y e. absurd (omega arith);
        connection = λ j g x y e. absurd (omega arith);
        order = λ j g x y e. absurd (omega arith);
        clock = λ e. absurd (omega arith);
        holder = λ e. absurd (omega arith);
        sharers = λ e. absurd (omega arith);
        shared = λ e. absurd (omega arith);
        no_home = λ c x e. omega arith;
        no_key = λ e. omega arith;
        no_list = λ e. omega arith;
        no_count = λ e. omega arith;
        no_row = inl (omega arith);
        before = omega arith;
      }

  -- a place among the clock, the holder and the sharers
  lock_place : (a : ℕ) → CLOCK ≤ a → a < KEY → (CLOCK ≡ a → v < 2 ^ 63) → (HOLDER ≡ a → v ≤ session_limit) → (SHARERS ≡ a → v < 2 ^ session_limit) → (SHARERS ≡ a → v ≡ 0 → word w SHARERS ≡ 0)
      → Tidy (memory (set w a v) s)
  lock_place a h l p q r z =
      stored_tidy w s a v t
      record {
        value = λ g x e. absurd (omega arith);
        exchange = λ j g x y e. absurd (omega arith);
        sensing = λ j g x y e. absurd (omega arith);
        connection = λ j g x y e. absurd (omega arith);
        order = λ j g x y e. absurd (omega arith);
        clock = p;
        holder = q;
        sharers = r;
        shared = z;
        no_home = λ c x e. omega arith;
        no_key = λ e. omega arith;
        no_list = λ e. omega arith;
        no_count = λ e. omega arith;
        no_row = inl (omega arith);
        before = omega arith;
      }

  pub clock_tidy : v < 2 ^ 63 → Tidy (memory (set w CLOCK v) s)
  clock_tidy h = lock_place CLOCK (omega arith) (omega arith) (λ e. h) (λ e. absurd (omega arith)) (λ e. absurd (omega arith)) (λ e. absurd (omega arith))

  pub holder_tidy : v ≤ session_limit → Tidy (memory (set w HOLDER v) s)
  holder_tidy h = lock_place HOLDER (omega arith) (omega arith) (λ e. absurd (omega arith)) (λ e. h) (λ e. absurd (omega arith)) (λ e. absurd (omega arith))

  pub sharers_tidy : v < 2 ^ session_limit → (v ≡ 0 → word w SHARERS ≡ 0) → Tidy (memory (set w SHARERS v) s)
  sharers_tidy h z = lock_place SHARERS (omega arith) (omega arith) (λ e. absurd (omega arith)) (λ e. absurd (omega arith)) (λ e. h) (λ e. z)

-- memory that agrees with w, s in order in all but the table of sessions and the homes
module _ (w w' s : List ℕ) (t : Tidy (memory w s)) (long : length w' ≡ WORDS)
    (same : (a : ℕ) → (a < ENTRIES) ⊎ (ORDERS ≤ a) → ((c : ℕ) → c < connection_limit → a ≡ home_at c → ⊥) → word w' a ≡ word w a) where
  pub table_tidy : ((i : ℕ) → i < session_limit → TidyRow w' i) → ((c : ℕ) → c < connection_limit → TidyHome w' c) → Tidy (memory w' s)
  table_tidy r k =
      let count : word w' COUNT ≡ word w COUNT = same COUNT (inl (omega arith)) (λ c l e. omega arith) in
      let sharers : word w' SHARERS ≡ word w SHARERS = same SHARERS (inl (omega arith)) (λ c l e. omega arith) in
      let queue : (j : ℕ) → word w' (QUEUE + j) ≡ word w (QUEUE + j) = (λ j. same (QUEUE + j) (inr (omega arith)) (λ c l e. omega arith)) in
      record {
        long = long;
        room = t.room;
        values = kept_values (Counted w) w w' s s t (λ p h. same p (inl (omega arith)) (λ c l e. omega arith));
        exchanges = kept_range (Counted w) w w' s s t ExchangeRange EXCHANGES EXCHANGE EXCHANGE session_limit
            (λ i f h l. same (EXCHANGES + i * EXCHANGE + f) (inl (omega arith)) (λ c m e. omega arith)) t.exchanges;
        sensings = kept_range (Counted w) w w' s s t SensingRange SENSINGS SENSING SENSING session_limit
            (λ i f h l. same (SENSINGS + i * SENSING + f) (inl (omega arith)) (λ c m e. omega arith)) t.sensings;
        connections = kept_range (Counted w) w w' s s t ConnectionRange CONNECTIONS CONNECTION HOME connection_limit
            (λ i f h l. same (CONNECTIONS + i * CONNECTION + f) (inl (omega arith)) (λ c m e. omega arith)) t.connections;
        orders = kept_range (Counted w) w w' s s t OrderRange ORDERS ORDER ORDER session_limit (λ i f h l. same (ORDERS + i * ORDER + f) (inr (omega arith)) (λ c m e. omega arith)) t.orders;
        singles = kept_singles (Counted w) w w' s s t (same CLOCK (inl (omega arith)) (λ c l e. omega arith)) (same HOLDER (inl (omega arith)) (λ c l e. omega arith))
            (subst (λ (x : ℕ). x < 2 ^ session_limit) (sym sharers) t.singles.sharers) (subst (λ (x : ℕ). x ≤ session_limit) (sym count) t.singles.count);
        rows = r;
        homes = k;
        requests = λ i h.
            kept_request (Counted w) w w' s s t (Counted w') i h (λ f l. same (REQUESTS + i * REQUEST + f) (inr (omega arith)) (λ c m e. omega arith)) (λ j l. refl)
            (kept_away (Counted w) w w' s s t (Counted w') i queue (count_to w w' count));
        queue = kept_queue (Counted w) w w' s s t (Counted w') queue (count_from w w' count) (count_to w w' count);
        key = kept_key (Counted w) w w' s s t (same KEY (inl (omega arith)) (λ c l e. omega arith)) (λ z. sym sharers ∙ z) (λ j l. refl);
        list = kept_list (Counted w) w w' s s t (same LISTED (inl (omega arith)) (λ c l e. omega arith)) (λ j l. refl);
      }

-- a word of a live slot's row that is shown
pub live_row : (w : List ℕ) (i f : ℕ) → (row_word w i 0 ≡ 0 → ⊥) → row_word w i f ≡ field_of w i f → row_word w i f ≡ cond (eqb (row_word w i 0) 0) 0 (field_of w i f)
live_row w i f o e = e ∙ sym (ap (λ (b : Bool). cond b 0 (field_of w i f)) (ne_eqb (row_word w i 0) 0 o))

-- a row that stays, with what it shows
pub same_row : (w w' : List ℕ) (i f : ℕ) → row_word w' i 0 ≡ row_word w i 0 → row_word w' i f ≡ row_word w i f → field_of w' i f ≡ field_of w i f
    → row_word w i f ≡ cond (eqb (row_word w i 0) 0) 0 (field_of w i f) → row_word w' i f ≡ cond (eqb (row_word w' i 0) 0) 0 (field_of w' i f)
same_row w w' i f a b c e = b ∙ e ∙ sym (ap₂ (λ (x y : ℕ). cond (eqb x 0) 0 y) a c)

-- slot i joins those that share
pub joins_tidy : (w s : List ℕ) (i : ℕ) → i < session_limit → Tidy (memory w s) → Tidy (memory (set w SHARERS (with_bit session_limit (word w SHARERS) i)) s)
joins_tidy w s i h t =
    let m : ℕ = word w SHARERS in
    sharers_tidy w s (with_bit session_limit m i) t (with_small session_limit m i h t.singles.sharers) (λ z. absurd (with_some session_limit m i z))
