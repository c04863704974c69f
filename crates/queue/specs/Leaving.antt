-- Requests that come and leave, in memory in order: one is put at the end of the queue; two change places; the queue is cut short, and of
-- those that left the places, the rows and the strings are wiped. Assumes nothing.
use Rattle.std.specs.Prelude.{◌≡◌, refl, ◌⊎◌, Bool, true, false, List, [], ◌∷◌, ◌++◌, ℕ, ◌+◌, ◌*◌, ◌%◌, ◌^◌, ◌≤◌, ◌<◌, min, eqb, length, get_or, set}
use Rattle.std.proofs.Common.{sym, subst, ◌∙◌, inl, inr, ⊎_elim, lit<, length-set, eqb-true}
use Rattle.std.proofs.Math.Path.{ap}
use Rattle.std.proofs.Math.Nat.{mod-eq_of_lt}
use native.Mathlib.Omega.{arith}
use Rattle.std.proofs.lemmas.Bool.{eqb-false}
use Rattle.wire.specs.Splice.{splice, length_splice}
use Rattle.model.specs.Sizes.{session_limit, connection_limit, string_limit}
use Rattle.model.specs.State.{Waiting, Server}
use Rattle.state.specs.Table.{apart, below}
use Rattle.state.specs.Grid.{word_of}
use Rattle.bits.specs.Bits.{bit}
use Rattle.state.specs.Bits.{with_bit, with_same, with_other, empty_bits}
use Rattle.state.specs.Layout.{EXCHANGES, EXCHANGE, CONNECTIONS, CONNECTION, HOME, LISTED, CLOCK, HOLDER, SHARERS, KEY, COUNT, ENTRIES, ENTRY, ORDERS, ORDER}
use Rattle.state.specs.Layout.{REQUESTS, REQUEST, QUEUE, WORDS, LIST, STRINGS, SENSINGS, SENSING}
use Rattle.state.specs.View.{memory, word, home_at, slot_at, view}
use Rattle.state.specs.Change.{off, here}
use Rattle.queue.specs.Requests.{count_of, Idle, part_behind, part_before, slot_small, laid_view, laid_string}
use Rattle.queue.specs.Queue.{slot_off, past_count, on_waiting, queued}
use Rattle.state.specs.Tidy.{Tidy, TidyOver, Counted, Away, ExchangeRange, ConnectionRange, OrderRange, TidyRequest, TidyQueue, SensingRange}
use Rattle.state.specs.Keeping.{kept_values, kept_range, kept_singles, kept_rows, kept_homes, kept_request, kept_queue, kept_key, kept_list}
use Rattle.queue.specs.Wiping.{Wiped, request_wiped}

-- memory that agrees with w, s in order in all but the queue, the count and the requests
module _ (In In' : ℕ → Type 0) (w w' s s' : List ℕ) (t : TidyOver In (memory w s)) (long : length w' ≡ WORDS) (room : length s' ≡ length s)
    (front : (a : ℕ) → a < REQUESTS → (a ≡ COUNT → ⊥) → word w' a ≡ word w a)
    (letters : (j : ℕ) → (j < string_limit) ⊎ (LIST ≤ j) → word s' j ≡ word s j)
    (count : word w' COUNT ≤ session_limit) where
  pub queue_tidy : ((i : ℕ) → i < session_limit → TidyRequest In' w' s' i) → TidyQueue In' w' → TidyOver In' (memory w' s')
  queue_tidy r q =
      let sharers : word w' SHARERS ≡ word w SHARERS = front SHARERS (omega arith) (omega arith) in
      record {
        long = long;
        room = room ∙ t.room;
        values = kept_values In w w' s s' t (λ p h. front p (omega arith) (omega arith));
        exchanges = kept_range In w w' s s' t ExchangeRange EXCHANGES EXCHANGE EXCHANGE session_limit (λ i f h l. front (EXCHANGES + i * EXCHANGE + f) (omega arith) (omega arith)) t.exchanges;
        sensings = kept_range In w w' s s' t SensingRange SENSINGS SENSING SENSING session_limit (λ i f h l. front (SENSINGS + i * SENSING + f) (omega arith) (omega arith)) t.sensings;
        connections = kept_range In w w' s s' t ConnectionRange CONNECTIONS CONNECTION HOME connection_limit
            (λ i f h l. front (CONNECTIONS + i * CONNECTION + f) (omega arith) (omega arith)) t.connections;
        orders = kept_range In w w' s s' t OrderRange ORDERS ORDER ORDER session_limit (λ i f h l. front (ORDERS + i * ORDER + f) (omega arith) (omega arith)) t.orders;
        singles = kept_singles In w w' s s' t (front CLOCK (omega arith) (omega arith)) (front HOLDER (omega arith) (omega arith))
            (subst (λ (x : ℕ). x < 2 ^ session_limit) (sym sharers) t.singles.sharers) count;
        rows = kept_rows In w w' s s' t (λ i f h l. front (ENTRIES + i * ENTRY + f) (omega arith) (omega arith)) (λ c h. front (home_at c) (omega arith) (omega arith));
        homes = kept_homes In w w' s s' t (λ i f h l. front (ENTRIES + i * ENTRY + f) (omega arith) (omega arith)) (λ c h. front (home_at c) (omega arith) (omega arith));
        requests = r;
        queue = q;
        key = kept_key In w w' s s' t (front KEY (omega arith) (omega arith)) (λ z. sym sharers ∙ z) (λ j l. letters j (inl l));
        list = kept_list In w w' s s' t (front LISTED (omega arith) (omega arith)) (λ j l. letters (LIST + j) (inr (omega arith)));
      }

-- a byte before or behind a splice
pub splice_off : (s : List ℕ) (a : ℕ) (x : List ℕ) (p : ℕ) → a + length x ≤ length s → (p < a) ⊎ (a + length x ≤ p) → word (splice s a x) p ≡ word s p
splice_off s a x p h o =
    let z : p + 0 ≡ p = omega arith in
    ap (word (splice s a x)) (sym z) ∙ sym (word_of (splice s a x) p 1 0 (lit< tt))
    ∙ ap (λ (l : List ℕ). get_or l 0 0) (⊎_elim (λ (y : p < a). part_before s a x h p 1 (omega arith)) (λ (y : a + length x ≤ p). part_behind s a x h p 1 y) o)
    ∙ word_of s p 1 0 (lit< tt) ∙ ap (word s) z

-- a slot in a tidy queue is its word
module _ (In : ℕ → Type 0) (w : List ℕ) (q : TidyQueue In w) where
  pub slot_word : (j : ℕ) → In j → slot_at w j ≡ word w (QUEUE + j)
  unfolding slot_at
  slot_word j h = mod-eq_of_lt (q.slots j h)

-- slot i's request with string x is put at the end of the queue, with a deadline
module _ (w s : List ℕ) (i d : ℕ) (x : List ℕ) (t : Tidy (memory w s)) (h : i < session_limit) (small : length x ≤ string_limit)
    (free : Idle w i) (left : count_of w < session_limit) where
  abbrev n : ℕ
  n = count_of w

  abbrev w₁ : List ℕ
  w₁ = set w (REQUESTS + i * REQUEST + 1) (length x)

  abbrev w₂ : List ℕ
  w₂ = set w₁ (REQUESTS + i * REQUEST + 0) d

  abbrev w₃ : List ℕ
  w₃ = set w₂ (QUEUE + n) i

  abbrev w₄ : List ℕ
  w₄ = set w₃ COUNT (n + 1)

  abbrev s₁ : List ℕ
  s₁ = splice s (string_limit + i * string_limit) x

  counted : n ≡ word w COUNT
  counted = let c : word w COUNT ≤ session_limit = t.singles.count in omega arith

  long₁ : length w₁ ≡ WORDS
  long₁ = length-set w (REQUESTS + i * REQUEST + 1) (length x) ∙ t.long

  long₂ : length w₂ ≡ WORDS
  long₂ = length-set w₁ (REQUESTS + i * REQUEST + 0) d ∙ long₁

  long₃ : length w₃ ≡ WORDS
  long₃ = length-set w₂ (QUEUE + n) i ∙ long₂

  there : string_limit + i * string_limit + length x ≤ length s
  there = let r : length s ≡ STRINGS = t.room in omega arith

  same : (a : ℕ) → (a ≡ COUNT → ⊥) → (a ≡ QUEUE + n → ⊥) → ((f : ℕ) → f < REQUEST → a ≡ REQUESTS + i * REQUEST + f → ⊥) → word w₄ a ≡ word w a
  same a o p q =
      off w₃ COUNT (n + 1) a o ∙ off w₂ (QUEUE + n) i a p ∙ off w₁ (REQUESTS + i * REQUEST + 0) d a (q 0 (lit< tt)) ∙ off w (REQUESTS + i * REQUEST + 1) (length x) a (q 1 (lit< tt))

  count_now : word w₄ COUNT ≡ n + 1
  count_now = here w₃ COUNT (n + 1) (omega (arith, long₃))

  place_now : word w₄ (QUEUE + n) ≡ i
  place_now = off w₃ COUNT (n + 1) (QUEUE + n) (omega arith) ∙ here w₂ (QUEUE + n) i (omega (arith, long₂))

  length_now : word w₄ (REQUESTS + i * REQUEST + 1) ≡ length x
  length_now =
      off w₃ COUNT (n + 1) (REQUESTS + i * REQUEST + 1) (omega arith) ∙ off w₂ (QUEUE + n) i (REQUESTS + i * REQUEST + 1) (omega arith)
      ∙ off w₁ (REQUESTS + i * REQUEST + 0) d (REQUESTS + i * REQUEST + 1) (omega arith) ∙ here w (REQUESTS + i * REQUEST + 1) (length x) (omega (arith, t.long))

  queue_else : (j : ℕ) → (j ≡ n → ⊥) → word w₄ (QUEUE + j) ≡ word w (QUEUE + j)
  queue_else j o = same (QUEUE + j) (omega arith) (λ e. o (let z : j ≡ n = omega arith in z)) (λ f l e. omega arith)

  slot_else : (j : ℕ) → (j ≡ n → ⊥) → slot_at w₄ j ≡ slot_at w j
  unfolding slot_at
  slot_else j o = ap (λ (y : ℕ). y % session_limit) (queue_else j o)

  slot_now : slot_at w₄ n ≡ i
  unfolding slot_at
  slot_now = ap (λ (y : ℕ). y % session_limit) place_now ∙ mod-eq_of_lt h

  away : Away (Counted w) w i
  away j l = free j (omega (arith, counted))

  away_else : (j : ℕ) → Away (Counted w₄) w₄ j → Away (Counted w) w j
  away_else j o k l e =
      let c : word w₄ COUNT ≡ n + 1 = count_now in
      let y : n ≡ word w COUNT = counted in
      o k (omega arith) (slot_else k (omega arith) ∙ e)

  own : TidyRequest (Counted w₄) w₄ s₁ i
  own =
      let z : word w (REQUESTS + i * REQUEST + 1) ≡ 0 = (t.requests i h).no_string away in
      let m : word w₄ (REQUESTS + i * REQUEST + 1) ≡ length x = length_now in
      let c : word w₄ COUNT ≡ n + 1 = count_now in
      let waits : Away (Counted w₄) w₄ i → ⊥ = (λ o. o n (omega arith) slot_now) in
      record {
        fits = omega arith;
        behind = λ j a l. splice_off s (string_limit + i * string_limit) x (string_limit + i * string_limit + j) there (inr (omega arith)) ∙ (t.requests i h).behind j (omega arith) l;
        no_deadline = λ o. absurd (waits o);
        no_string = λ o. absurd (waits o);
      }

  other : (j : ℕ) → j < session_limit → (j < i) ⊎ (i < j) → TidyRequest (Counted w₄) w₄ s₁ j
  other j l o =
      kept_request (Counted w) w w₄ s s₁ t (Counted w₄) j l
      (λ f m. same (REQUESTS + j * REQUEST + f) (omega arith) (omega arith) (λ g y e. ⊎_elim (λ (z : j < i). omega arith) (λ (z : i < j). omega arith) o))
      (λ k m. splice_off s (string_limit + i * string_limit) x (string_limit + j * string_limit + k) there (⊎_elim (λ (z : j < i). inl (omega arith)) (λ (z : i < j). inr (omega arith)) o))
      (away_else j)

  every : (j : ℕ) → j < session_limit → TidyRequest (Counted w₄) w₄ s₁ j
  every j l = by (eqb j i) refl
    where
      by : (b : Bool) → eqb j i ≡ b → TidyRequest (Counted w₄) w₄ s₁ j
      by true e = subst (TidyRequest (Counted w₄) w₄ s₁) (sym (eqb-true j i e)) own
      by false e = other j l (apart j i (eqb-false j i e))

  slots_now : (j : ℕ) → Counted w₄ j → (b : Bool) → eqb j n ≡ b → word w₄ (QUEUE + j) < session_limit
  slots_now j l true e = let z : j ≡ n = eqb-true j n e in subst (λ (y : ℕ). y < session_limit) (sym (ap (λ (k : ℕ). word w₄ (QUEUE + k)) z ∙ place_now)) h
  slots_now j l false e =
      let o : j ≡ n → ⊥ = eqb-false j n e in
      let c : word w₄ COUNT ≡ n + 1 = count_now in
      let y : n ≡ word w COUNT = counted in
      subst (λ (y : ℕ). y < session_limit) (sym (queue_else j o))
      (t.queue.slots j (⊎_elim (λ (z : j < n). omega arith) (λ (z : n < j). absurd (omega arith)) (apart j n o)))

  pub queued_tidy : Tidy (memory w₄ s₁)
  queued_tidy =
      let c : word w₄ COUNT ≡ n + 1 = count_now in
      let y : n ≡ word w COUNT = counted in
      queue_tidy (Counted w) (Counted w₄) w w₄ s s₁ t (length-set w₃ COUNT (n + 1) ∙ long₃) (length_splice s (string_limit + i * string_limit) x there)
      (λ a l o. same a o (omega arith) (λ f m e. omega arith))
      (λ j l. splice_off s (string_limit + i * string_limit) x j there (⊎_elim (λ (y : j < string_limit). inl (omega arith)) (λ (y : LIST ≤ j). inr (omega arith)) l))
      (omega arith) every
      record {
        slots = λ j l. slots_now j l (eqb j n) refl;
        behind = λ j o l. queue_else j (λ z. o (omega arith)) ∙ t.queue.behind j (λ z. o (omega arith)) l;
      }

-- and what it shows
pub put_view : (w s : List ℕ) (i d : ℕ) (x : List ℕ) → i < session_limit → length x ≤ string_limit → length w ≡ WORDS → length s ≡ STRINGS → Idle w i → count_of w < session_limit
    → view (memory (set (set (set (set w (REQUESTS + i * REQUEST + 1) (length x)) (REQUESTS + i * REQUEST + 0) d) (QUEUE + count_of w) i) COUNT (count_of w + 1))
    (splice s (string_limit + i * string_limit) x))
    ≡ on_waiting (view (memory w s)) (λ (l : List Waiting). l ++ (record { slot = i; deadline = d; string = x } ∷ []))
put_view w s i d x h small long room free left =
    let a : ℕ = REQUESTS + i * REQUEST + 1 in
    let y : List ℕ = set w a (length x) in
    let z : List ℕ = splice s (string_limit + i * string_limit) x in
    let k : word y COUNT ≡ word w COUNT = off w a (length x) COUNT (omega arith) in
    let c : count_of w ≡ count_of y = omega arith in
    let o : Idle y i = (λ j l e. free j (omega arith) (sym (slot_off w a (length x) j (omega arith)) ∙ e)) in
    ap (λ (m : ℕ). view (memory (set (set (set y (REQUESTS + i * REQUEST + 0) d) (QUEUE + m) i) COUNT (m + 1)) z)) c
    ∙ queued y z i d h (length-set w a (length x) ∙ long) (omega arith) o
    ∙ ap (λ (r : List ℕ). on_waiting (view (memory y z)) (λ (l : List Waiting). l ++ (record { slot = i; deadline = d; string = r } ∷ []))) (laid_string w s i x h small long room)
    ∙ ap (λ (v : Server). on_waiting v (λ (l : List Waiting). l ++ (record { slot = i; deadline = d; string = x } ∷ []))) (laid_view w s i x h small long room free)

-- the requests at j and k change places
module _ (w s : List ℕ) (j k : ℕ) (t : Tidy (memory w s)) (h : j < count_of w) (l : k < count_of w) where
  abbrev v₁ : List ℕ
  v₁ = set w (QUEUE + k) (slot_at w j)

  abbrev v₂ : List ℕ
  v₂ = set v₁ (QUEUE + j) (slot_at w k)

  long_v : length v₁ ≡ WORDS
  long_v = length-set w (QUEUE + k) (slot_at w j) ∙ t.long

  still : (a : ℕ) → (a ≡ QUEUE + j → ⊥) → (a ≡ QUEUE + k → ⊥) → word v₂ a ≡ word w a
  still a o p = off v₁ (QUEUE + j) (slot_at w k) a o ∙ off w (QUEUE + k) (slot_at w j) a p

  at_first : word v₂ (QUEUE + j) ≡ slot_at w k
  at_first = here v₁ (QUEUE + j) (slot_at w k) (omega (arith, long_v))

  at_second : word v₂ (QUEUE + k) ≡ slot_at w j
  at_second = by (eqb k j) refl
    where
      by : (b : Bool) → eqb k j ≡ b → word v₂ (QUEUE + k) ≡ slot_at w j
      by true e = let z : k ≡ j = eqb-true k j e in ap (λ (y : ℕ). word v₂ (QUEUE + y)) z ∙ at_first ∙ ap (slot_at w) z
      by false e =
          off v₁ (QUEUE + j) (slot_at w k) (QUEUE + k) (λ q. eqb-false k j e (let z : k ≡ j = omega arith in z))
          ∙ here w (QUEUE + k) (slot_at w j) (omega (arith, t.long))

  slot_of : (q i : ℕ) → word v₂ (QUEUE + q) ≡ i → i < session_limit → slot_at v₂ q ≡ i
  unfolding slot_at
  slot_of q i e m = ap (λ (y : ℕ). y % session_limit) e ∙ mod-eq_of_lt m

  slot_still : (q : ℕ) → (q ≡ j → ⊥) → (q ≡ k → ⊥) → slot_at v₂ q ≡ slot_at w q
  unfolding slot_at
  slot_still q o p = ap (λ (y : ℕ). y % session_limit) (still (QUEUE + q) (λ e. o (let z : q ≡ j = omega arith in z)) (λ e. p (let z : q ≡ k = omega arith in z)))

  count_still : word v₂ COUNT ≡ word w COUNT
  count_still = still COUNT (omega arith) (omega arith)

  -- whoever stood in the queue stands there
  away_still : (i : ℕ) → Away (Counted v₂) v₂ i → Away (Counted w) w i
  away_still i o q m e = by (eqb q j) refl (eqb q k) refl
    where
      by : (a : Bool) → eqb q j ≡ a → (b : Bool) → eqb q k ≡ b → ⊥
      by true x b y =
          o k (omega (arith, count_still)) (slot_of k (slot_at w j) at_second (slot_small w j) ∙ ap (slot_at w) (sym (eqb-true q j x)) ∙ e)
      by false x true y =
          o j (omega (arith, count_still)) (slot_of j (slot_at w k) at_first (slot_small w k) ∙ ap (slot_at w) (sym (eqb-true q k y)) ∙ e)
      by false x false y = o q (omega (arith, count_still)) (slot_still q (eqb-false q j x) (eqb-false q k y) ∙ e)

  slots_still : (q : ℕ) → Counted v₂ q → (a : Bool) → eqb q j ≡ a → (b : Bool) → eqb q k ≡ b → word v₂ (QUEUE + q) < session_limit
  slots_still q m true x b y = subst (λ (z : ℕ). z < session_limit) (sym (ap (λ (y : ℕ). word v₂ (QUEUE + y)) (eqb-true q j x) ∙ at_first)) (slot_small w k)
  slots_still q m false x true y = subst (λ (z : ℕ). z < session_limit) (sym (ap (λ (y : ℕ). word v₂ (QUEUE + y)) (eqb-true q k y) ∙ at_second)) (slot_small w j)
  slots_still q m false x false y =
      subst (λ (z : ℕ). z < session_limit)
      (sym (still (QUEUE + q) (λ e. eqb-false q j x (let z : q ≡ j = omega arith in z)) (λ e. eqb-false q k y (let z : q ≡ k = omega arith in z))))
      (t.queue.slots q (omega (arith, count_still)))

  pub swapped_tidy : Tidy (memory v₂ s)
  swapped_tidy =
      let c : word v₂ COUNT ≡ word w COUNT = count_still in
      let n : word w COUNT ≤ session_limit = t.singles.count in
      queue_tidy (Counted w) (Counted v₂) w v₂ s s t (length-set v₁ (QUEUE + j) (slot_at w k) ∙ long_v) refl
      (λ a m o. still a (omega arith) (omega arith))
      (λ q m. refl)
      (omega arith)
      (λ i m. kept_request (Counted w) w v₂ s s t (Counted v₂) i m (λ f x. still (REQUESTS + i * REQUEST + f) (omega arith) (omega arith)) (λ q x. refl) (away_still i))
      record {
        slots = λ q m. slots_still q m (eqb q j) refl (eqb q k) refl;
        behind = λ q o m.
            still (QUEUE + q) (λ e. o (let z : q ≡ j = omega arith in omega arith)) (λ e. o (let z : q ≡ k = omega arith in omega arith))
            ∙ t.queue.behind q (λ z. o (omega arith)) m;
      }

-- cut short to n of m, wiped as far as place p: the places of the queue that still hold a slot
abbrev pub Still : ℕ → ℕ → ℕ → ℕ → Type 0
Still n p m q = (q < n) ⊎ ((p ≤ q) × (q < m))

module _ (w s : List ℕ) (n m : ℕ) (t : Tidy (memory w s)) (c : m ≡ count_of w) (l : n ≤ m) where
  abbrev cut : List ℕ
  cut = set w COUNT n

  all_counted : m ≡ word w COUNT
  all_counted = let y : word w COUNT ≤ session_limit = t.singles.count in omega arith

  from : (q : ℕ) → Still n n m q → Counted w q
  from q = ⊎_elim (λ (x : q < n). omega (arith, all_counted)) (λ (x : (n ≤ q) × (q < m)). omega (arith, all_counted, x.1))

  to : (q : ℕ) → Counted w q → Still n n m q
  to q x = ⊎_elim (λ (y : q < n). inl y) (λ (y : n ≤ q). inr (y, omega (arith, all_counted))) (below q n)

  stay : (a : ℕ) → (a ≡ COUNT → ⊥) → word cut a ≡ word w a
  stay a o = off w COUNT n a o

  slot_stays : (q : ℕ) → slot_at cut q ≡ slot_at w q
  slot_stays q = slot_off w COUNT n q (omega arith)

  pub cut_tidy : TidyOver (Still n n m) (memory cut s)
  cut_tidy =
      let y : word w COUNT ≤ session_limit = t.singles.count in
      let e : word cut COUNT ≡ n = here w COUNT n (omega (arith, t.long)) in
      queue_tidy (Counted w) (Still n n m) w cut s s t (length-set w COUNT n ∙ t.long) refl (λ a h o. stay a o) (λ j h. refl) (omega (arith, all_counted))
      (λ i h.
      kept_request (Counted w) w cut s s t (Still n n m) i h (λ f x. stay (REQUESTS + i * REQUEST + f) (omega arith)) (λ j x. refl)
      (λ o q x z. o q (to q x) (slot_stays q ∙ z)))
      (kept_queue (Counted w) w cut s s t (Still n n m) (λ j. stay (QUEUE + j) (omega arith)) from to)

-- one place more: it is 0, and nothing else but the request of the slot that stood there changed
module _ (w s w' s' : List ℕ) (n p m : ℕ) (t : TidyOver (Still n p m) (memory w s)) (c : n ≤ p) (l : p < m)
    (long : length w' ≡ WORDS) (room : length s' ≡ length s)
    (front : (a : ℕ) → a < REQUESTS → word w' a ≡ word w a)
    (gone : word w' (QUEUE + p) ≡ 0)
    (queue : (q : ℕ) → (q ≡ p → ⊥) → word w' (QUEUE + q) ≡ word w (QUEUE + q))
    (letters : (j : ℕ) → (j < string_limit) ⊎ (LIST ≤ j) → word s' j ≡ word s j)
    (row : (i f : ℕ) → i < session_limit → f < REQUEST → (i ≡ slot_at w p → ⊥) → word w' (REQUESTS + i * REQUEST + f) ≡ word w (REQUESTS + i * REQUEST + f))
    (bytes : (i j : ℕ) → i < session_limit → j < string_limit → (i ≡ slot_at w p → ⊥) → word s' (string_limit + i * string_limit + j) ≡ word s (string_limit + i * string_limit + j)) where
  fewer : (q : ℕ) → Still n (p + 1) m q → Still n p m q
  fewer q = ⊎_elim (λ (x : q < n). inl x) (λ (x : (p + 1 ≤ q) × (q < m)). inr (omega (arith, x.0), x.1))

  more : (q : ℕ) → (q ≡ p → ⊥) → Still n p m q → Still n (p + 1) m q
  more q o =
      ⊎_elim (λ (x : q < n). inl x)
      (λ (x : (p ≤ q) × (q < m)). ⊎_elim (λ (y : q < p). absurd (omega (arith, x.0))) (λ (y : p < q). inr (omega arith, x.1)) (apart q p o))

  off_place : (q : ℕ) → Still n (p + 1) m q → q ≡ p → ⊥
  off_place q x e = ⊎_elim (λ (y : q < n). omega arith) (λ (y : (p + 1 ≤ q) × (q < m)). omega (arith, y.0)) x

  slot_same : (q : ℕ) → (q ≡ p → ⊥) → slot_at w' q ≡ slot_at w q
  unfolding slot_at
  slot_same q o = ap (λ (y : ℕ). y % session_limit) (queue q o)

  away_now : (i : ℕ) → (i ≡ slot_at w p → ⊥) → Away (Still n (p + 1) m) w' i → Away (Still n p m) w i
  away_now i o a q x e = by (eqb q p) refl
    where
      by : (b : Bool) → eqb q p ≡ b → ⊥
      by true y = o (sym e ∙ ap (slot_at w) (eqb-true q p y))
      by false y = let z : q ≡ p → ⊥ = eqb-false q p y in a q (more q z x) (slot_same q z ∙ e)

  behind_now : (q : ℕ) → (Still n (p + 1) m q → ⊥) → q < session_limit → (b : Bool) → eqb q p ≡ b → word w' (QUEUE + q) ≡ 0
  behind_now q o h true y = ap (λ (z : ℕ). word w' (QUEUE + z)) (eqb-true q p y) ∙ gone
  behind_now q o h false y = let z : q ≡ p → ⊥ = eqb-false q p y in queue q z ∙ t.queue.behind q (λ x. o (more q z x)) h

  pub left_tidy : TidyRequest (Still n (p + 1) m) w' s' (slot_at w p) → TidyOver (Still n (p + 1) m) (memory w' s')
  left_tidy own =
      queue_tidy (Still n p m) (Still n (p + 1) m) w w' s s' t long room (λ a h o. front a h) letters
      (subst (λ (x : ℕ). x ≤ session_limit) (sym (front COUNT (omega arith))) t.singles.count)
      (λ i h. by i h (eqb i (slot_at w p)) refl)
      record {
        slots = λ q x. subst (λ (y : ℕ). y < session_limit) (sym (queue q (off_place q x))) (t.queue.slots q (fewer q x));
        behind = λ q o h. behind_now q o h (eqb q p) refl;
      }
    where
      by : (i : ℕ) → i < session_limit → (b : Bool) → eqb i (slot_at w p) ≡ b → TidyRequest (Still n (p + 1) m) w' s' i
      by i h true e = subst (TidyRequest (Still n (p + 1) m) w' s') (sym (eqb-true i (slot_at w p) e)) own
      by i h false e =
          let o : i ≡ slot_at w p → ⊥ = eqb-false i (slot_at w p) e in
          kept_request (Still n p m) w w' s s' t (Still n (p + 1) m) i h (λ f x. row i f h x o) (λ j x. bytes i j h x o) (away_now i o)

-- all places behind n are wiped
pub over_tidy : (w s : List ℕ) (n m : ℕ) → TidyOver (Still n m m) (memory w s) → word w COUNT ≡ n → Tidy (memory w s)
over_tidy w s n m t e =
    let from : (q : ℕ) → Counted w q → Still n m m q = (λ q x. inl (omega arith)) in
    let to : (q : ℕ) → Still n m m q → Counted w q = (λ q x. ⊎_elim (λ (y : q < n). omega arith) (λ (y : (m ≤ q) × (q < m)). absurd (omega (arith, y.0, y.1))) x) in
    queue_tidy (Still n m m) (Counted w) w w s s t t.long refl (λ a h o. refl) (λ j h. refl) t.singles.count
    (λ i h. kept_request (Still n m m) w w s s t (Counted w) i h (λ f x. refl) (λ j x. refl) (λ o q x z. o q (to q x) z))
    (kept_queue (Still n m m) w w s s t (Counted w) (λ j. refl) from to)

-- slot x stands at one of the first n places
pub record Waits (w : List ℕ) (x n : ℕ) : Type 0 where
  pub place : ℕ
  pub before : place < n
  pub is : slot_at w place ≡ x

-- the slots of the first n places, as the bits of one word
abbrev pub Members : List ℕ → ℕ → ℕ → Type 0
Members w n m = (x : ℕ) → x < session_limit → (bit m x ≡ 1 → Waits w x n) × (bit m x ≡ 0 → (q : ℕ) → q < n → slot_at w q ≡ x → ⊥)

pub no_members : (w : List ℕ) → Members w 0 0
no_members w x h =
    let z : bit 0 x ≡ 0 = empty_bits 0 session_limit x refl h in
    (λ o. absurd (omega arith), λ o q l e. omega arith)

pub members_more : (w : List ℕ) (j m : ℕ) → Members w j m → Members w (j + 1) (with_bit session_limit m (slot_at w j))
members_more w j m y x h = by (eqb x (slot_at w j)) refl
  where
    by : (b : Bool) → eqb x (slot_at w j) ≡ b
        → (bit (with_bit session_limit m (slot_at w j)) x ≡ 1 → Waits w x (j + 1)) × (bit (with_bit session_limit m (slot_at w j)) x ≡ 0 → (q : ℕ) → q < j + 1 → slot_at w q ≡ x → ⊥)
    by true e =
        let z : x ≡ slot_at w j = eqb-true x (slot_at w j) e in
        let o : bit (with_bit session_limit m (slot_at w j)) x ≡ 1 = ap (λ (i : ℕ). bit (with_bit session_limit m (slot_at w j)) i) z ∙ with_same session_limit m (slot_at w j) (slot_small w j) in
        (λ a. record { place = j; before = omega arith; is = sym z }, λ a. absurd (let i : 1 ≡ 0 = sym o ∙ a in omega arith))
    by false e =
        let o : x ≡ slot_at w j → ⊥ = eqb-false x (slot_at w j) e in
        let b : bit (with_bit session_limit m (slot_at w j)) x ≡ bit m x = with_other session_limit m (slot_at w j) (slot_small w j) x h o in (
          λ a. let r : Waits w x j = (y x h).0 (sym b ∙ a) in record { place = r.place; before = omega (arith, r.before); is = r.is },
          λ a q l i. ⊎_elim (λ (k : q < j). (y x h).1 (sym b ∙ a) q k i) (λ (k : j ≤ q). o (let z : q ≡ j = omega arith in sym i ∙ ap (slot_at w) z)) (below q j),
        )

-- what is done with place p, behind the count
pub record Left (w s w' s' : List ℕ) (p : ℕ) : Type 0 where
  pub shown : view (memory w' s') ≡ view (memory w s)
  pub long : length w' ≡ WORDS
  pub room : length s' ≡ STRINGS
  pub count : word w' COUNT ≡ word w COUNT
  pub slots : (q : ℕ) → (q ≡ p → ⊥) → slot_at w' q ≡ slot_at w q
  pub tidy : (n m : ℕ) → TidyOver (Still n p m) (memory w s) → word w COUNT ≡ n → n ≤ p → p < m → TidyOver (Still n (p + 1) m) (memory w' s')

pub members_left : (w s w' s' : List ℕ) (p n m : ℕ) → Left w s w' s' p → n ≤ p → Members w n m → Members w' n m
members_left w s w' s' p n m x h y i l = (
  λ a. let r : Waits w i n = (y i l).0 a in record { place = r.place; before = r.before; is = x.slots r.place (omega (arith, r.before)) ∙ r.is },
  λ a q k e. (y i l).1 a q k (sym (x.slots q (omega arith)) ∙ e),
)

module _ (w s : List ℕ) (p : ℕ) (few : p < session_limit) (long : length w ≡ WORDS) (room : length s ≡ STRINGS) (past : count_of w ≤ p) where
  -- its slot waits still: the place alone is wiped
  pub kept_left : Waits w (slot_at w p) (count_of w) → Left w s (set w (QUEUE + p) 0) s p
  kept_left x =
      let w' : List ℕ = set w (QUEUE + p) 0 in
      let long' : length w' ≡ WORDS = length-set w (QUEUE + p) 0 ∙ long in
      let slot : (q : ℕ) → (q ≡ p → ⊥) → slot_at w' q ≡ slot_at w q = (λ q o. slot_off w (QUEUE + p) 0 q (λ e. o (let z : q ≡ p = omega arith in z))) in
      record {
        shown = past_count w s p 0 past;
        long = long';
        room = room;
        count = off w (QUEUE + p) 0 COUNT (omega arith);
        slots = slot;
        tidy = λ n m t c a b.
            left_tidy w s w' s n p m t a b long' refl
            (λ i l. off w (QUEUE + p) 0 i (omega arith))
            (here w (QUEUE + p) 0 (omega arith))
            (λ q o. off w (QUEUE + p) 0 (QUEUE + q) (λ e. o (let z : q ≡ p = omega arith in z)))
            (λ j l. refl)
            (λ i f l k o. off w (QUEUE + p) 0 (REQUESTS + i * REQUEST + f) (omega arith))
            (λ i j l k o. refl)
            (kept_request (Still n p m) w w' s s t (Still n (p + 1) m) (slot_at w p) (slot_small w p)
            (λ f k. off w (QUEUE + p) 0 (REQUESTS + slot_at w p * REQUEST + f) (omega (arith, slot_small w p))) (λ j k. refl)
            (λ o. absurd (o x.place (inl (omega (arith, x.before))) (slot x.place (omega (arith, x.before)) ∙ x.is))));
      }

  -- its slot waits no more: its request is wiped with it
  module _ (s' : List ℕ) (idle : Idle w (slot_at w p)) (x : Wiped s s' (string_limit + slot_at w p * string_limit) (min (word w (REQUESTS + slot_at w p * REQUEST + 1)) string_limit)) where
    abbrev i : ℕ
    i = slot_at w p

    abbrev k : ℕ
    k = min (word w (REQUESTS + i * REQUEST + 1)) string_limit

    abbrev u : List ℕ
    u = set (set w (REQUESTS + i * REQUEST + 0) 0) (REQUESTS + i * REQUEST + 1) 0

    abbrev u' : List ℕ
    u' = set u (QUEUE + p) 0

    short : i < session_limit
    short = slot_small w p

    long_1 : length (set w (REQUESTS + i * REQUEST + 0) 0) ≡ WORDS
    long_1 = length-set w (REQUESTS + i * REQUEST + 0) 0 ∙ long

    long_2 : length u ≡ WORDS
    long_2 = length-set (set w (REQUESTS + i * REQUEST + 0) 0) (REQUESTS + i * REQUEST + 1) 0 ∙ long_1

    long_3 : length u' ≡ WORDS
    long_3 = length-set u (QUEUE + p) 0 ∙ long_2

    same_word : (a : ℕ) → (a ≡ QUEUE + p → ⊥) → ((f : ℕ) → f < REQUEST → a ≡ REQUESTS + i * REQUEST + f → ⊥) → word u' a ≡ word w a
    same_word a o q = off u (QUEUE + p) 0 a o ∙ off (set w (REQUESTS + i * REQUEST + 0) 0) (REQUESTS + i * REQUEST + 1) 0 a (q 1 (lit< tt)) ∙ off w (REQUESTS + i * REQUEST + 0) 0 a (q 0 (lit< tt))

    no_date : word u' (REQUESTS + i * REQUEST + 0) ≡ 0
    no_date =
        off u (QUEUE + p) 0 (REQUESTS + i * REQUEST + 0) (omega (arith, short))
        ∙ off (set w (REQUESTS + i * REQUEST + 0) 0) (REQUESTS + i * REQUEST + 1) 0 (REQUESTS + i * REQUEST + 0) (omega arith)
        ∙ here w (REQUESTS + i * REQUEST + 0) 0 (omega (arith, short))

    no_long : word u' (REQUESTS + i * REQUEST + 1) ≡ 0
    no_long = off u (QUEUE + p) 0 (REQUESTS + i * REQUEST + 1) (omega (arith, short)) ∙ here (set w (REQUESTS + i * REQUEST + 0) 0) (REQUESTS + i * REQUEST + 1) 0 (omega (arith, short, long_1))

    queue_same : (q : ℕ) → (q ≡ p → ⊥) → word u' (QUEUE + q) ≡ word w (QUEUE + q)
    queue_same q o = same_word (QUEUE + q) (λ e. o (let z : q ≡ p = omega arith in z)) (λ f l e. omega (arith, short))

    slots_same : (q : ℕ) → (q ≡ p → ⊥) → slot_at u' q ≡ slot_at w q
    unfolding slot_at
    slots_same q o = ap (λ (y : ℕ). y % session_limit) (queue_same q o)

    front_same : (a : ℕ) → a < REQUESTS → word u' a ≡ word w a
    front_same a l = same_word a (omega arith) (λ f m e. omega arith)

    no_bytes : (n m : ℕ) → TidyOver (Still n p m) (memory w s) → (j : ℕ) → j < string_limit → (j < k) ⊎ (k ≤ j) → word s' (string_limit + i * string_limit + j) ≡ 0
    no_bytes n m t j l =
        ⊎_elim
        (λ (y : j < k). x.blank (string_limit + i * string_limit + j) (omega arith) (omega arith))
        (λ (y : k ≤ j). x.others (string_limit + i * string_limit + j) (inr (omega arith)) ∙ (t.requests i short).behind j (omega arith) l)

    pub wiped_left : Left w s u' s' p
    wiped_left =
        record {
          shown = past_count u s' p 0
              (omega (
                arith,
                off (set w (REQUESTS + i * REQUEST + 0) 0) (REQUESTS + i * REQUEST + 1) 0 COUNT (omega arith),
                off w (REQUESTS + i * REQUEST + 0)
                    0 COUNT (omega arith),
              )) ∙ request_wiped w s s' i k short long room (omega arith) x idle;
          long = long_3;
          room = x.room ∙ room;
          count = front_same COUNT (omega arith);
          slots = slots_same;
          tidy = λ n m t c a b.
              left_tidy w s u' s' n p m t a b long_3 x.room
              front_same
              (here u (QUEUE + p) 0 (omega (arith, long_2)))
              queue_same
              (λ j l. x.others j (⊎_elim (λ (y : j < string_limit). inl (omega (arith, short))) (λ (y : LIST ≤ j). inr (omega (arith, short))) l))
              (λ j f l m o. same_word (REQUESTS + j * REQUEST + f) (omega arith) (λ g y e. ⊎_elim (λ (z : j < i). omega arith) (λ (z : i < j). omega arith) (apart j i o)))
              (λ j q l m o. x.others (string_limit + j * string_limit + q) (⊎_elim (λ (z : j < i). inl (omega arith)) (λ (z : i < j). inr (omega arith)) (apart j i o)))
              record {
                fits = omega (arith, no_long);
                behind = λ j y l. no_bytes n m t j l (below j k);
                no_deadline = λ o. no_date;
                no_string = λ o. no_long;
              };
        }

-- the queue cut short to n: all stay, or the places behind are wiped
pub kept_all : (w s : List ℕ) (n m : ℕ) → length w ≡ WORDS → m ≡ count_of w → n ≡ m → Tidy (memory w s) → Tidy (memory (set w COUNT n) s)
kept_all w s n m long c e t =
    over_tidy (set w COUNT n) s n n (subst (λ (k : ℕ). TidyOver (Still n n k) (memory (set w COUNT n) s)) (sym e) (cut_tidy w s n m t c (omega arith))) (here w COUNT n (omega arith))

pub kept_some : (w s w' s' : List ℕ) (n m : ℕ) → m ≡ count_of w → n ≤ m → (TidyOver (Still n n m) (memory (set w COUNT n) s) → Tidy (memory w' s')) → Tidy (memory w s) → Tidy (memory w' s')
kept_some w s w' s' n m c l k t = k (cut_tidy w s n m t c l)
