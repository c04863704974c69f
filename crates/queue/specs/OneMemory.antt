-- Memory in order that shows one server is one memory: word for word and byte for byte. Assumes nothing.
use Rattle.std.specs.Prelude.{◌≡◌, refl, ◌⊎◌, Bool, false, List, [], ltb, take}
use Rattle.std.proofs.Math.Path.{sym, ap}
use Rattle.std.proofs.Common.{ap₂, ◌∙◌, inl, inr, true≢false, mod-eq_of_lt, arith, lit<, length-take, ext_get_or, get_or-take}
use Rattle.std.proofs.Math.Logic.{⊎_elim}
use Rattle.std.proofs.Math.Bool.{true, cond}
use Prim.Native.Nat.{ℕ, zero, suc, ◌+◌, ◌*◌, ◌-◌, ◌%◌, ◌^◌, ◌≤◌, ◌<◌, min}
use Rattle.std.proofs.Math.Dec.{eqb}
use Rattle.std.proofs.Math.ListN.{length, get_or}
use borrow.Author.Tests.{eq-eqb, ne_eqb, eqb-true, eqb-false, ltb-true, ltb-false}
use Rattle.model.specs.Sizes.{session_limit, connection_limit, string_limit, list_limit}
use Rattle.model.specs.State.{Entry, Waiting, Locks, Kind.exclusive_lock, Kind.shared_lock, Standing, Standing.no_release, Standing.release_of}
use Rattle.model.specs.State.{Asked.none, Asked.some, Exchange, Connection, Allowed, Allowed.any_command, Allowed.only, Rest, Server, with_allowed, at}
use Rattle.model.specs.State.{fresh_exchange, closed_connection, Sensing, sensing_at}
use Rattle.model.specs.Exchange.{is_asked, number_asked}
use Rattle.model.specs.Locks.{stands}
use Rattle.state.specs.Table.{below}
use Rattle.state.specs.Grid.{part, word_of, length_part, get_d_grid}
use Rattle.bits.specs.Bits.{bit}
use Rattle.state.specs.Bits.{low_bits, Member, member}
use Rattle.state.specs.Layout.{LOCKS, VENDOR, PREFERENCE, STATUS, LAST, ENABLE, LOCKOUT, REMOTE, EXCHANGES, EXCHANGE, CONNECTIONS, CONNECTION, HOME, LISTED}
use Rattle.state.specs.Layout.{CLOCK, HOLDER, SHARERS, KEY, COUNT, ENTRIES, ENTRY, ORDERS, ORDER, REQUESTS, REQUEST, QUEUE, WORDS, LIST, STRINGS, SENSINGS}
use Rattle.state.specs.Layout.{SENSING}
use Rattle.state.specs.View.{Memory, memory, word, key_of, row_word, home_of, field_of, standing_of, entry_at, slot_at, request_at, locks_of, asked_of}
use Rattle.state.specs.View.{exchange_of, connection_of, rest_of, allowed_from, allowed_of, view, numeral, sensing_from}
use Rattle.state.specs.Change.{entry_at_lem, sensing_word, sensing_at_lem}
use Rattle.queue.specs.Requests.{count_of, Idle, string_at}
use Rattle.queue.specs.Queue.{no_request, count_is, waiting_at}
use Rattle.queue.specs.Strings.{key_part, string_part, string_length}
use Rattle.state.specs.Confirmed.{field_number, Shows, shows}
use Rattle.state.specs.Tidy.{Tidy, Away, Counted, Shown, Numeral, watch_word}

-- words that are read alike, within the range that they are read in
flag_one : (x y : ℕ) → x ≤ 1 → y ≤ 1 → eqb x 1 ≡ eqb y 1 → x ≡ y
flag_one zero zero h l e = refl
flag_one zero (suc zero) h l e = absurd (true≢false (sym e))
flag_one (suc zero) zero h l e = absurd (true≢false e)
flag_one (suc zero) (suc zero) h l e = refl
flag_one zero (suc (suc y)) h l e = absurd (omega arith)
flag_one (suc zero) (suc (suc y)) h l e = absurd (omega arith)
flag_one (suc (suc x)) y h l e = absurd (omega arith)

odd_one : (x y : ℕ) → x ≤ 1 → y ≤ 1 → eqb (x % 2) 1 ≡ eqb (y % 2) 1 → x ≡ y
odd_one x y h l e =
    let ex : x % 2 ≡ x = omega arith in
    let ey : y % 2 ≡ y = omega arith in
    flag_one x y h l (ap (λ (z : ℕ). eqb z 1) (sym ex) ∙ e ∙ ap (λ (z : ℕ). eqb z 1) ey)

mod_one : (x y n : ℕ) → x < n → y < n → x % n ≡ y % n → x ≡ y
mod_one x y n h l e = sym (mod-eq_of_lt h) ∙ e ∙ mod-eq_of_lt l

-- a word that is not 0 asks for a message
asked_some : (y : ℕ) → asked_of (suc y) ≡ some ((suc y - 1) % 2 ^ 32)
asked_some y = ap (λ (b : Bool). cond b none (some ((suc y - 1) % 2 ^ 32))) (ne_eqb (suc y) 0 (omega arith))

asked_one : (x y : ℕ) → x ≤ 2 ^ 32 → y ≤ 2 ^ 32 → asked_of x ≡ asked_of y → x ≡ y
asked_one zero zero h l e = refl
asked_one zero (suc y) h l e = absurd (true≢false (sym (ap is_asked (e ∙ asked_some y))))
asked_one (suc x) zero h l e = absurd (true≢false (ap is_asked (sym (asked_some x) ∙ e)))
asked_one (suc x) (suc y) h l e =
    let r : (suc x - 1) % 2 ^ 32 ≡ (suc y - 1) % 2 ^ 32 = ap number_asked (sym (asked_some x) ∙ e ∙ asked_some y) in
    let q : suc x - 1 ≡ suc y - 1 = mod_one (suc x - 1) (suc y - 1) (2 ^ 32) (omega arith) (omega arith) r in
    omega arith

number_standing : Standing → ℕ
number_standing no_release = 0
number_standing (release_of k n) = n

is_exclusive : Standing → Bool
is_exclusive no_release = false
is_exclusive (release_of exclusive_lock n) = true
is_exclusive (release_of shared_lock n) = false

standing_some : (y : ℕ) → standing_of (suc y) ≡ release_of (cond (ltb y (2 ^ 32)) exclusive_lock shared_lock) (y % 2 ^ 32)
standing_some y =
    let z : suc y - 1 ≡ y = omega arith in
    ap (λ (b : Bool). cond b no_release (release_of (cond (ltb (suc y - 1) (2 ^ 32)) exclusive_lock shared_lock) ((suc y - 1) % 2 ^ 32))) (ne_eqb (suc y) 0 (omega arith))
    ∙ ap (λ (x : ℕ). release_of (cond (ltb x (2 ^ 32)) exclusive_lock shared_lock) (x % 2 ^ 32)) z

kind_of_lem : (b : Bool) (n : ℕ) → is_exclusive (release_of (cond b exclusive_lock shared_lock) n) ≡ b
unfolding is_exclusive
kind_of_lem true n = refl
kind_of_lem false n = refl

-- a number of 33 bits, by its high bit and the others
halves_one : (x y : ℕ) → x < 2 ^ 33 → y < 2 ^ 33 → ltb x (2 ^ 32) ≡ ltb y (2 ^ 32) → x % 2 ^ 32 ≡ y % 2 ^ 32 → x ≡ y
halves_one x y h l e r = by (ltb x (2 ^ 32)) refl
  where
    by : (b : Bool) → ltb x (2 ^ 32) ≡ b → x ≡ y
    by true q =
        let a : x < 2 ^ 32 = ltb-true x (2 ^ 32) q in
        let b : y < 2 ^ 32 = ltb-true y (2 ^ 32) (sym e ∙ q) in
        omega arith
    by false q =
        let a : 2 ^ 32 ≤ x = ltb-false x (2 ^ 32) q in
        let b : 2 ^ 32 ≤ y = ltb-false y (2 ^ 32) (sym e ∙ q) in
        omega arith

standing_one : (x y : ℕ) → x ≤ 2 ^ 33 → y ≤ 2 ^ 33 → standing_of x ≡ standing_of y → x ≡ y
unfolding number_standing
standing_one zero zero h l e = refl
standing_one zero (suc y) h l e = absurd (true≢false (sym (ap stands (e ∙ standing_some y))))
standing_one (suc x) zero h l e = absurd (true≢false (ap stands (sym (standing_some x) ∙ e)))
standing_one (suc x) (suc y) h l e =
    let s = sym (standing_some x) ∙ e ∙ standing_some y in
    ap suc (halves_one x y (omega arith) (omega arith) (sym (kind_of_lem (ltb x (2 ^ 32)) (x % 2 ^ 32)) ∙ ap is_exclusive s ∙ kind_of_lem (ltb y (2 ^ 32)) (y % 2 ^ 32)) (ap number_standing s))

-- is a list set? While none is, any payload is allowed
abbrev pub is_set : Allowed → Bool
is_set any_command = false
is_set (only text) = true

text_of : Allowed → List ℕ
text_of any_command = []
text_of (only text) = text

listed_some : (x : ℕ) (l : List ℕ) → allowed_from (suc x) l ≡ only (take x l)
listed_some x l =
    let z : suc x - 1 ≡ x = omega arith in
    ap (λ (b : Bool). cond b any_command (only (take (suc x - 1) l))) (ne_eqb (suc x) 0 (omega arith)) ∙ ap (λ (n : ℕ). only (take n l)) z

-- a list that is read alike has one length, and its text is one
listed_one : (x y : ℕ) (l k : List ℕ) → x ≤ length l + 1 → y ≤ length k + 1 → allowed_from x l ≡ allowed_from y k → (x ≡ y) × ((j : ℕ) → j + 1 < x → get_or l j 0 ≡ get_or k j 0)
unfolding text_of
listed_one zero zero l k h m e = (refl, λ j q. absurd (omega arith))
listed_one zero (suc y) l k h m e = absurd (true≢false (sym (ap is_set (e ∙ listed_some y k))))
listed_one (suc x) zero l k h m e = absurd (true≢false (ap is_set (sym (listed_some x l) ∙ e)))
listed_one (suc x) (suc y) l k h m e =
    let f : take x l ≡ take y k = ap text_of (sym (listed_some x l) ∙ e ∙ listed_some y k) in
    let a : length (take x l) ≡ x = simp length-take (omega arith) in
    let b : length (take y k) ≡ y = simp length-take (omega arith) in
    let g : length (take x l) ≡ length (take y k) = ap length f in
    let n : x ≡ y = omega arith in
    (ap suc n, λ j q. sym (get_or-take x l j 0 (omega arith)) ∙ ap (λ (t : List ℕ). get_or t j 0) f ∙ get_or-take y k j 0 (omega arith))

holder_one : (a b n : ℕ) → a ≤ n → b ≤ n → ((i : ℕ) → i < n → eqb a (i + 1) ≡ eqb b (i + 1)) → a ≡ b
holder_one zero zero n h l e = refl
holder_one zero (suc b) n h l e =
    absurd (true≢false (sym (eq-eqb (suc b) (b + 1) (omega arith)) ∙ sym (e b (omega arith)) ∙ ne_eqb 0 (b + 1) (omega arith)))
holder_one (suc a) b n h l e =
    let q : b ≡ a + 1 = eqb-true b (a + 1) (sym (e a (omega arith)) ∙ eq-eqb (suc a) (a + 1) (omega arith)) in
    omega arith

bits_one : (m m' n : ℕ) → ((j : ℕ) → j < n → bit m j ≡ bit m' j) → m % 2 ^ n ≡ m' % 2 ^ n
bits_one m m' zero e = omega arith
bits_one m m' (suc n) e =
    low_bits m n
    ∙ ap₂ (λ (x y : ℕ). x * 2 ^ n + y) (e n (omega arith)) (bits_one m m' n (λ j h. e j (omega arith)))
    ∙ sym (low_bits m' n)

-- a lock with a string, or none
shared_one : (b b' : Bool) (k k' : List ℕ) → 0 < length k → 0 < length k' → cond b k [] ≡ cond b' k' [] → b ≡ b'
shared_one true true k k' h l e = refl
shared_one false false k k' h l e = refl
shared_one true false k k' h l e = let z : length k ≡ 0 = ap length e in absurd (omega arith)
shared_one false true k k' h l e = let z : 0 ≡ length k' = ap length e in absurd (omega arith)

-- a place in a table: its row and its field
record Found (b k n p : ℕ) : Type 0 where
  pub row : ℕ
  pub field : ℕ
  pub few : row < n
  pub small : field < k
  pub is : p ≡ b + row * k + field

find : (b k n p : ℕ) → b ≤ p → p < b + n * k → Found b k n p
find b k zero p h l = absurd (omega arith)
find b k (suc n) p h l =
    ⊎_elim
    (λ (x : p < b + k). record { row = 0; field = p - b; few = omega arith; small = omega arith; is = omega arith })
    (λ (x : b + k ≤ p).
    let r : Found (b + k) k n p = find (b + k) k n p x (omega arith) in
    let q : p ≡ b + k + r.row * k + r.field = r.is in
    record { row = suc r.row; field = r.field; few = omega (arith, r.few); small = r.small; is = omega arith })
    (below p (b + k))

rows_same : (l l' : List ℕ) (b k n : ℕ) → ((i f : ℕ) → i < n → f < k → word l (b + i * k + f) ≡ word l' (b + i * k + f))
    → (p : ℕ) → b ≤ p → p < b + n * k → word l p ≡ word l' p
rows_same l l' b k n g p h q =
    let r : Found b k n p = find b k n p h q in
    ap (word l) r.is ∙ g r.row r.field r.few r.small ∙ ap (word l') (sym r.is)

-- a slot waits at a place of the queue, or nowhere
record Waits (w : List ℕ) (i n : ℕ) : Type 0 where
  pub place : ℕ
  pub before : place < n
  pub is : slot_at w place ≡ i

waits : (w : List ℕ) (i n : ℕ) → Waits w i n ⊎ ((j : ℕ) → j < n → slot_at w j ≡ i → ⊥)
waits w i zero = inr (λ j h q. omega arith)
waits w i (suc n) =
    ⊎_elim
    (λ (x : Waits w i n). inl record { place = x.place; before = omega (arith, x.before); is = x.is })
    (λ (o : (j : ℕ) → j < n → slot_at w j ≡ i → ⊥). by o (eqb (slot_at w n) i) refl)
    (waits w i n)
  where
    by : ((j : ℕ) → j < n → slot_at w j ≡ i → ⊥) → (b : Bool) → eqb (slot_at w n) i ≡ b → Waits w i (suc n) ⊎ ((j : ℕ) → j < suc n → slot_at w j ≡ i → ⊥)
    by o true e = inl record { place = n; before = omega arith; is = eqb-true (slot_at w n) i e }
    by o false e = inr (λ j h q. ⊎_elim (λ (l : j < n). o j l q) (λ (l : n ≤ j). let z : j ≡ n = omega arith in eqb-false (slot_at w n) i e (ap (slot_at w) (sym z) ∙ q)) (below j n))

-- the shared string is never empty
some_key : (w s : List ℕ) → 0 < length (key_of w s)
unfolding key_of
some_key w s = omega arith

module _ (w s w' s' : List ℕ) (t : Tidy (memory w s)) (t' : Tidy (memory w' s')) (e : view (memory w s) ≡ view (memory w' s')) where
  rest_same : rest_of w ≡ rest_of w'
  unfolding rest_of
  rest_same = ap (λ (d : Server). with_allowed d.rest any_command) e

  -- the allowed commands
  list_same : allowed_of w s ≡ allowed_of w' s'
  list_same = ap (λ (d : Server). d.rest.allowed) e

  locks_same : locks_of w s ≡ locks_of w' s'
  locks_same = ap (λ (d : Server). d.locks) e

  -- the words that stand alone
  single_word : (p : ℕ) → p < EXCHANGES → word w p ≡ word w' p
  unfolding rest_of
  single_word zero h = mod_one (word w VENDOR) (word w' VENDOR) 65536 (t.values 0 h) (t'.values 0 h) (ap (λ (r : Rest). r.made.vendor) rest_same)
  single_word (suc zero) h = flag_one (word w PREFERENCE) (word w' PREFERENCE) (t.values 1 h) (t'.values 1 h) (ap (λ (r : Rest). r.made.prefers_overlap) rest_same)
  single_word (suc (suc zero)) h = mod_one (word w STATUS) (word w' STATUS) 256 (t.values 2 h) (t'.values 2 h) (ap (λ (r : Rest). r.status) rest_same)
  single_word (suc (suc (suc zero))) h = mod_one (word w LAST) (word w' LAST) 65536 (t.values 3 h) (t'.values 3 h) (ap (λ (r : Rest). r.last_issued) rest_same)
  single_word (suc (suc (suc (suc zero)))) h = flag_one (word w ENABLE) (word w' ENABLE) (t.values 4 h) (t'.values 4 h) (ap (λ (r : Rest). r.remote_local.enable) rest_same)
  single_word (suc (suc (suc (suc (suc zero))))) h = flag_one (word w LOCKOUT) (word w' LOCKOUT) (t.values 5 h) (t'.values 5 h) (ap (λ (r : Rest). r.remote_local.lockout) rest_same)
  single_word (suc (suc (suc (suc (suc (suc zero)))))) h = flag_one (word w REMOTE) (word w' REMOTE) (t.values 6 h) (t'.values 6 h) (ap (λ (r : Rest). r.remote_local.remote) rest_same)
  single_word (suc (suc (suc (suc (suc (suc (suc p))))))) h = absurd (omega arith)

  -- a word of a row, read as the row has it
  read : {A : Type 0} (of : ℕ → A) (b k f : ℕ) → f < k → of (word (part w b k) f) ≡ of (word (part w' b k) f) → of (word w (b + f)) ≡ of (word w' (b + f))
  read of b k f h q = ap of (sym (word_of w b k f h)) ∙ q ∙ ap of (word_of w' b k f h)

  -- the exchanges
  exchange_same : (i : ℕ) → i < session_limit → exchange_of (part w (EXCHANGES + i * EXCHANGE) EXCHANGE) ≡ exchange_of (part w' (EXCHANGES + i * EXCHANGE) EXCHANGE)
  unfolding rest_of
  exchange_same i h =
      sym (get_d_grid exchange_of EXCHANGES EXCHANGE session_limit w i fresh_exchange h)
      ∙ ap (λ (r : Rest). get_or r.exchanges i fresh_exchange) rest_same
      ∙ get_d_grid exchange_of EXCHANGES EXCHANGE session_limit w' i fresh_exchange h

  exchange_word_lem : (i f : ℕ) → i < session_limit → f < EXCHANGE → word w (EXCHANGES + i * EXCHANGE + f) ≡ word w' (EXCHANGES + i * EXCHANGE + f)
  exchange_word_lem i zero h l = flag_one _ _ (t.exchanges i 0 h l) (t'.exchanges i 0 h l)
      (read (λ (x : ℕ). eqb x 1) (EXCHANGES + i * EXCHANGE) EXCHANGE 0 l (ap (λ (x : Exchange). x.in_clear) (exchange_same i h)))
  exchange_word_lem i (suc zero) h l = asked_one _ _ (t.exchanges i 1 h l) (t'.exchanges i 1 h l)
      (read asked_of (EXCHANGES + i * EXCHANGE) EXCHANGE 1 l (ap (λ (x : Exchange). x.asked) (exchange_same i h)))
  exchange_word_lem i (suc (suc zero)) h l = flag_one _ _ (t.exchanges i 2 h l) (t'.exchanges i 2 h l)
      (read (λ (x : ℕ). eqb x 1) (EXCHANGES + i * EXCHANGE) EXCHANGE 2 l (ap (λ (x : Exchange). x.message_available) (exchange_same i h)))
  exchange_word_lem i (suc (suc (suc zero))) h l = read (λ (x : ℕ). x) (EXCHANGES + i * EXCHANGE) EXCHANGE 3 l (ap (λ (x : Exchange). x.client_size) (exchange_same i h))
  exchange_word_lem i (suc (suc (suc (suc zero)))) h l = flag_one _ _ (t.exchanges i 4 h l) (t'.exchanges i 4 h l)
      (read (λ (x : ℕ). eqb x 1) (EXCHANGES + i * EXCHANGE) EXCHANGE 4 l (ap (λ (x : Exchange). x.overlap) (exchange_same i h)))
  exchange_word_lem i (suc (suc (suc (suc (suc zero))))) h l =
      mod_one _ _ (2 ^ 32) (t.exchanges i 5 h l) (t'.exchanges i 5 h l)
      (read (λ (x : ℕ). x % 2 ^ 32) (EXCHANGES + i * EXCHANGE) EXCHANGE 5 l (ap (λ (x : Exchange). x.count) (exchange_same i h)))
  exchange_word_lem i (suc (suc (suc (suc (suc (suc zero)))))) h l =
      flag_one _ _ (t.exchanges i 6 h l) (t'.exchanges i 6 h l)
      (read (λ (x : ℕ). eqb x 1) (EXCHANGES + i * EXCHANGE) EXCHANGE 6 l (ap (λ (x : Exchange). x.any_sent) (exchange_same i h)))
  exchange_word_lem i (suc (suc (suc (suc (suc (suc (suc zero))))))) h l =
      flag_one _ _ (t.exchanges i 7 h l) (t'.exchanges i 7 h l)
      (read (λ (x : ℕ). eqb x 1) (EXCHANGES + i * EXCHANGE) EXCHANGE 7 l (ap (λ (x : Exchange). x.rmt_expected) (exchange_same i h)))
  exchange_word_lem i (suc (suc (suc (suc (suc (suc (suc (suc zero)))))))) h l =
      mod_one _ _ (2 ^ 32) (t.exchanges i 8 h l) (t'.exchanges i 8 h l)
      (read (λ (x : ℕ). x % 2 ^ 32) (EXCHANGES + i * EXCHANGE) EXCHANGE 8 l (ap (λ (x : Exchange). x.number_expected) (exchange_same i h)))
  exchange_word_lem i (suc (suc (suc (suc (suc (suc (suc (suc (suc f))))))))) h l = absurd (omega arith)

  -- 02, Q-11: the readings
  sensing_same : (i : ℕ) → i < session_limit → sensing_from (sensing_word w i) ≡ sensing_from (sensing_word w' i)
  sensing_same i h = sym (sensing_at_lem w i h) ∙ ap (λ (r : Rest). sensing_at r i) rest_same ∙ sensing_at_lem w' i h

  numeral_one : (x y : ℕ) → Numeral x → Numeral y → numeral x ≡ numeral y → x ≡ y
  numeral_one x y h l q = h ∙ q ∙ sym l

  sensing_word_lem : (i f : ℕ) → i < session_limit → f < SENSING → word w (SENSINGS + i * SENSING + f) ≡ word w' (SENSINGS + i * SENSING + f)
  sensing_word_lem i zero h l = t.sensings i 0 h l ∙ ap (λ (x : Sensing). watch_word x.watch) (sensing_same i h) ∙ sym (t'.sensings i 0 h l)
  sensing_word_lem i (suc zero) h l = flag_one _ _ (t.sensings i 1 h l) (t'.sensings i 1 h l) (ap (λ (x : Sensing). x.tripped) (sensing_same i h))
  sensing_word_lem i (suc (suc zero)) h l = flag_one _ _ (t.sensings i 2 h l) (t'.sensings i 2 h l) (ap (λ (x : Sensing). x.recorded.seen) (sensing_same i h))
  sensing_word_lem i (suc (suc (suc zero))) h l = numeral_one _ _ (t.sensings i 3 h l) (t'.sensings i 3 h l) (ap (λ (x : Sensing). x.recorded.last) (sensing_same i h))
  sensing_word_lem i (suc (suc (suc (suc zero)))) h l = numeral_one _ _ (t.sensings i 4 h l) (t'.sensings i 4 h l) (ap (λ (x : Sensing). x.recorded.lowest) (sensing_same i h))
  sensing_word_lem i (suc (suc (suc (suc (suc zero))))) h l = numeral_one _ _ (t.sensings i 5 h l) (t'.sensings i 5 h l) (ap (λ (x : Sensing). x.recorded.highest) (sensing_same i h))
  sensing_word_lem i (suc (suc (suc (suc (suc (suc f)))))) h l = absurd (omega arith)

  -- the connections
  connection_same : (i : ℕ) → i < connection_limit → connection_of (part w (CONNECTIONS + i * CONNECTION) CONNECTION) ≡ connection_of (part w' (CONNECTIONS + i * CONNECTION) CONNECTION)
  unfolding rest_of
  connection_same i h =
      sym (get_d_grid connection_of CONNECTIONS CONNECTION connection_limit w i closed_connection h)
      ∙ ap (λ (r : Rest). get_or r.connections i closed_connection) rest_same
      ∙ get_d_grid connection_of CONNECTIONS CONNECTION connection_limit w' i closed_connection h

  connection_word_lem : (i f : ℕ) → i < connection_limit → f < HOME → word w (CONNECTIONS + i * CONNECTION + f) ≡ word w' (CONNECTIONS + i * CONNECTION + f)
  connection_word_lem i zero h l = odd_one _ _ (t.connections i 0 h l) (t'.connections i 0 h l)
      (read (λ (x : ℕ). eqb (x % 2) 1) (CONNECTIONS + i * CONNECTION) CONNECTION 0 (lit< tt) (ap (λ (x : Connection). x.is_open) (connection_same i h)))
  connection_word_lem i (suc zero) h l = read (λ (x : ℕ). x) (CONNECTIONS + i * CONNECTION) CONNECTION 1 (lit< tt) (ap (λ (x : Connection). x.remainder) (connection_same i h))
  connection_word_lem i (suc (suc f)) h l = absurd (omega arith)

  -- the table of sessions
  entry_same : (i : ℕ) → i < session_limit → entry_at w (key_of w s) i ≡ entry_at w' (key_of w' s') i
  entry_same i h = sym (entry_at_lem w i s h) ∙ ap (λ (l : Locks). at l.entries i) locks_same ∙ entry_at_lem w' i s' h

  -- what a slot shows
  field_one : (i f : ℕ) → i < session_limit → f < ENTRY → field_of w i f ≡ field_of w' i f
  unfolding entry_at
  field_one i zero h l = ap (λ (x : Entry). x.number) (entry_same i h)
  field_one i (suc zero) h l = ap (λ (x : Entry). x.synchronous) (entry_same i h)
  field_one i (suc (suc zero)) h l = ap (λ (x : Entry). x.asynchronous) (entry_same i h)
  field_one i (suc (suc (suc f))) h l = absurd (omega arith)

  number_one : (i : ℕ) → i < session_limit → row_word w i 0 ≡ row_word w' i 0
  number_one i h = sym (field_number w i) ∙ field_one i 0 h (lit< tt) ∙ field_number w' i

  entry_word : (i f : ℕ) → i < session_limit → f < ENTRY → word w (ENTRIES + i * ENTRY + f) ≡ word w' (ENTRIES + i * ENTRY + f)
  entry_word i zero h l = number_one i h
  entry_word i (suc f) h l =
      t.rows i h (suc f) (omega arith) l
      ∙ ap₂ (λ (x y : ℕ). cond (eqb x 0) 0 y) (number_one i h) (field_one i (suc f) h l)
      ∙ sym (t'.rows i h (suc f) (omega arith) l)

  -- the homes: that of a connection that is shown is where it is shown
  home_shown : (c : ℕ) → c < connection_limit → (i f : ℕ) → i < session_limit → 0 < f → f < ENTRY → field_of w i f ≡ c → home_of w c ≡ home_of w' c
  home_shown c h i f l o m e =
      let a : Shows w i c f = shows w i c f (omega arith) h e in
      let b : Shows w' i c f = shows w' i c f (omega arith) h (sym (field_one i f l m) ∙ e) in
      a.home ∙ sym b.home

  home_word : (c : ℕ) → c < connection_limit → home_of w c ≡ home_of w' c
  home_word c h =
      ⊎_elim
      (λ (z : home_of w c ≡ 0).
      ⊎_elim
      (λ (z' : home_of w' c ≡ 0). z ∙ sym z')
      (λ (x : Shown w' c). home_shown c h x.slot x.field x.few x.some x.small (field_one x.slot x.field x.few x.small ∙ x.is))
      (t'.homes c h))
      (λ (x : Shown w c). home_shown c h x.slot x.field x.few x.some x.small x.is)
      (t.homes c h)

  -- a row of a connection, with its home
  connection_row : (i f : ℕ) → i < connection_limit → f < CONNECTION → word w (CONNECTIONS + i * CONNECTION + f) ≡ word w' (CONNECTIONS + i * CONNECTION + f)
  connection_row i zero h l = connection_word_lem i 0 h (lit< tt)
  connection_row i (suc zero) h l = connection_word_lem i 1 h (lit< tt)
  connection_row i (suc (suc zero)) h l = home_word i h
  connection_row i (suc (suc (suc f))) h l = absurd (omega arith)

  -- the orders
  order_word_lem : (i f : ℕ) → i < session_limit → f < ORDER → word w (ORDERS + i * ORDER + f) ≡ word w' (ORDERS + i * ORDER + f)
  unfolding entry_at
  order_word_lem i zero h l = mod_one _ _ (2 ^ 32) (t.orders i 0 h l) (t'.orders i 0 h l) (ap (λ (x : Entry). x.last) (entry_same i h))
  order_word_lem i (suc zero) h l = standing_one _ _ (t.orders i 1 h l) (t'.orders i 1 h l) (ap (λ (x : Entry). x.standing) (entry_same i h))
  order_word_lem i (suc (suc zero)) h l = ap (λ (x : Entry). x.locks_granted.granted_at) (entry_same i h)
  order_word_lem i (suc (suc (suc zero))) h l = ap (λ (x : Entry). x.locks_granted.grants) (entry_same i h)
  order_word_lem i (suc (suc (suc (suc f)))) h l = absurd (omega arith)

  -- those that hold
  holder_same : word w HOLDER ≡ word w' HOLDER
  unfolding entry_at
  holder_same = holder_one (word w HOLDER) (word w' HOLDER) session_limit t.singles.holder t'.singles.holder (λ i h. ap (λ (x : Entry). x.exclusive) (entry_same i h))

  sharing_same : (i : ℕ) → i < session_limit → eqb (bit (word w SHARERS) i) 1 ≡ eqb (bit (word w' SHARERS) i) 1
  unfolding entry_at
  sharing_same i h = shared_one (eqb (bit (word w SHARERS) i) 1) (eqb (bit (word w' SHARERS) i) 1) (key_of w s) (key_of w' s') (some_key w s) (some_key w' s')
      (ap (λ (x : Entry). x.shared) (entry_same i h))

  sharers_same : word w SHARERS ≡ word w' SHARERS
  sharers_same =
      mod_one (word w SHARERS) (word w' SHARERS) (2 ^ session_limit) t.singles.sharers t'.singles.sharers
      (bits_one (word w SHARERS) (word w' SHARERS) session_limit
      (λ j h. flag_one (bit (word w SHARERS) j) (bit (word w' SHARERS) j) (omega arith) (omega arith) (sharing_same j h)))

  -- the shared string, where somebody shares
  key_same : (j : ℕ) → j < session_limit → bit (word w SHARERS) j ≡ 1 → key_of w s ≡ key_of w' s'
  unfolding entry_at
  key_same j h q =
      let p : eqb (bit (word w SHARERS) j) 1 ≡ true = eq-eqb (bit (word w SHARERS) j) 1 q in
      sym (ap (λ (b : Bool). cond b (key_of w s) []) p)
      ∙ ap (λ (x : Entry). x.shared) (entry_same j h)
      ∙ ap (λ (b : Bool). cond b (key_of w' s') []) (sym (sharing_same j h) ∙ p)

  -- the first bytes of the strings, where the shared strings are one
  front : (w s : List ℕ) → Tidy (memory w s) → key_of w s ≡ take (word w KEY + 1) s
  front w s t =
      let n : length s ≡ STRINGS = t.room in
      let f : word w KEY < string_limit = t.key.fits in
      let m : min (word w KEY) (string_limit - 1) + 1 ≡ word w KEY + 1 = omega arith in
      key_part w s (omega arith) ∙ ap (λ (x : ℕ). take x s) m

  long_key : (w s : List ℕ) → Tidy (memory w s) → length (key_of w s) ≡ word w KEY + 1
  long_key w s t =
      let n : length s ≡ STRINGS = t.room in
      let f : word w KEY < string_limit = t.key.fits in
      ap length (front w s t) ∙ simp length-take (omega arith)

  -- nobody shares, or somebody does
  sharer : (word w SHARERS ≡ 0) ⊎ Member (word w SHARERS) session_limit
  sharer = by (eqb (word w SHARERS) 0) refl
    where
      by : (b : Bool) → eqb (word w SHARERS) 0 ≡ b → (word w SHARERS ≡ 0) ⊎ Member (word w SHARERS) session_limit
      by true q = inl (eqb-true (word w SHARERS) 0 q)
      by false q = inr (member (word w SHARERS) session_limit (λ z. eqb-false (word w SHARERS) 0 q (sym (mod-eq_of_lt t.singles.sharers) ∙ z)))

  key_length : word w KEY ≡ word w' KEY
  key_length =
      ⊎_elim
      (λ (z : word w SHARERS ≡ 0). t.key.no_length z ∙ sym (t'.key.no_length (sym sharers_same ∙ z)))
      (λ (m : Member (word w SHARERS) session_limit).
      let q : word w KEY + 1 ≡ word w' KEY + 1 = sym (long_key w s t) ∙ ap length (key_same m.place m.below m.is_set_lem) ∙ long_key w' s' t' in
      omega arith)
      sharer

  no_key : (w s : List ℕ) → Tidy (memory w s) → word w SHARERS ≡ 0 → (j : ℕ) → j < string_limit → word s j ≡ 0
  no_key w s t z zero h = t.key.no_byte z
  no_key w s t z (suc j) h = let q : word w KEY ≡ 0 = t.key.no_length z in t.key.behind (suc j) (omega arith) h

  key_byte : (j : ℕ) → j < string_limit → word s j ≡ word s' j
  key_byte j h =
      let n : word w KEY ≡ word w' KEY = key_length in
      ⊎_elim
      (λ (z : word w SHARERS ≡ 0). no_key w s t z j h ∙ sym (no_key w' s' t' (sym sharers_same ∙ z) j h))
      (λ (m : Member (word w SHARERS) session_limit).
      ⊎_elim
      (λ (l : j < word w KEY + 1).
      sym (get_or-take (word w KEY + 1) s j 0 l)
      ∙ ap (λ (x : List ℕ). get_or x j 0) (sym (front w s t) ∙ key_same m.place m.below m.is_set_lem ∙ front w' s' t')
      ∙ get_or-take (word w' KEY + 1) s' j 0 (omega arith))
      (λ (l : word w KEY + 1 ≤ j). t.key.behind j (omega arith) h ∙ sym (t'.key.behind j (omega arith) h))
      (below j (word w KEY + 1)))
      sharer

  -- the list
  listed_same : (word w LISTED ≡ word w' LISTED) × ((j : ℕ) → j + 1 < word w LISTED → get_or (part s LIST list_limit) j 0 ≡ get_or (part s' LIST list_limit) j 0)
  unfolding allowed_of
  listed_same =
      let a : length (part s LIST list_limit) ≡ list_limit = length_part s LIST list_limit (let n : length s ≡ STRINGS = t.room in omega arith) in
      let b : length (part s' LIST list_limit) ≡ list_limit = length_part s' LIST list_limit (let n : length s' ≡ STRINGS = t'.room in omega arith) in
      let h : word w LISTED ≤ list_limit + 1 = t.list.fits in
      let h' : word w' LISTED ≤ list_limit + 1 = t'.list.fits in
      listed_one (word w LISTED) (word w' LISTED) (part s LIST list_limit) (part s' LIST list_limit) (omega arith) (omega arith) list_same

  list_byte : (j : ℕ) → j < list_limit → word s (LIST + j) ≡ word s' (LIST + j)
  list_byte j l =
      let q : word w LISTED ≡ word w' LISTED = listed_same.0 in
      ⊎_elim
      (λ (x : j + 1 < word w LISTED). sym (word_of s LIST list_limit j l) ∙ listed_same.1 j x ∙ word_of s' LIST list_limit j l)
      (λ (x : word w LISTED ≤ j + 1). t.list.behind j x l ∙ sym (t'.list.behind j (omega arith) l))
      (below (j + 1) (word w LISTED))

  -- the queue
  counts_same : count_of w ≡ count_of w'
  counts_same = count_is w s ∙ ap (λ (l : Locks). length l.waiting) locks_same ∙ sym (count_is w' s')

  count_same : word w COUNT ≡ word w' COUNT
  count_same = let a : word w COUNT ≤ session_limit = t.singles.count in let b : word w' COUNT ≤ session_limit = t'.singles.count in let q : count_of w ≡ count_of w' = counts_same in omega arith

  queued_same : (j : ℕ) → j < count_of w → request_at w s (slot_at w j) ≡ request_at w' s' (slot_at w' j)
  queued_same j h =
      let q : count_of w ≡ count_of w' = counts_same in
      sym (waiting_at w s j h) ∙ ap (λ (l : Locks). get_or l.waiting j no_request) locks_same ∙ waiting_at w' s' j (omega arith)

  slot_same : (j : ℕ) → j < count_of w → slot_at w j ≡ slot_at w' j
  unfolding request_at
  slot_same j h = ap (λ (r : Waiting). r.slot) (queued_same j h)

  queue_word : (j : ℕ) → j < session_limit → word w (QUEUE + j) ≡ word w' (QUEUE + j)
  unfolding slot_at
  queue_word j h =
      let c : word w COUNT ≡ word w' COUNT = count_same in
      ⊎_elim
      (λ (x : j < word w COUNT). mod_one (word w (QUEUE + j)) (word w' (QUEUE + j)) session_limit (t.queue.slots j x) (t'.queue.slots j (omega arith)) (slot_same j (omega arith)))
      (λ (x : word w COUNT ≤ j). t.queue.behind j (λ y. omega arith) h ∙ sym (t'.queue.behind j (λ y. omega arith) h))
      (below j (word w COUNT))

  -- the requests: one that waits is seen, another is not there
  idle_too : (i : ℕ) → Idle w i → Idle w' i
  idle_too i o j h q = let c : count_of w ≡ count_of w' = counts_same in let l : j < count_of w = omega arith in o j l (slot_same j l ∙ q)

  away : (i : ℕ) → Idle w i → Away (Counted w) w i
  away i o j h = let c : word w COUNT ≤ session_limit = t.singles.count in o j (omega arith)

  away_too : (i : ℕ) → Idle w i → Away (Counted w') w' i
  away_too i o j h = let c : word w' COUNT ≤ session_limit = t'.singles.count in idle_too i o j (omega arith)

  request_same : (i : ℕ) → Waits w i (count_of w) → request_at w s i ≡ request_at w' s' i
  request_same i x =
      ap (request_at w s) (sym x.is) ∙ queued_same x.place x.before ∙ ap (request_at w' s') (sym (slot_same x.place x.before) ∙ x.is)

  string_same : (i : ℕ) → Waits w i (count_of w) → string_at w s i ≡ string_at w' s' i
  string_same i x = ap (λ (r : Waiting). r.string) (request_same i x)

  deadline_same : (i : ℕ) → Waits w i (count_of w) → word w (REQUESTS + i * REQUEST) ≡ word w' (REQUESTS + i * REQUEST)
  unfolding request_at
  deadline_same i x = ap (λ (r : Waiting). r.deadline) (request_same i x)

  request_word : (i f : ℕ) → i < session_limit → f < REQUEST → word w (REQUESTS + i * REQUEST + f) ≡ word w' (REQUESTS + i * REQUEST + f)
  request_word i zero h l =
      let z : REQUESTS + i * REQUEST + 0 ≡ REQUESTS + i * REQUEST = omega arith in
      ⊎_elim
      (λ (x : Waits w i (count_of w)). ap (word w) z ∙ deadline_same i x ∙ ap (word w') (sym z))
      (λ (o : Idle w i). (t.requests i h).no_deadline (away i o) ∙ sym ((t'.requests i h).no_deadline (away_too i o)))
      (waits w i (count_of w))
  request_word i (suc zero) h l =
      ⊎_elim
      (λ (x : Waits w i (count_of w)).
      let a : min (word w (REQUESTS + i * REQUEST + 1)) string_limit ≡ length (string_at w s i) = string_length w s i h t.room in
      let b : min (word w' (REQUESTS + i * REQUEST + 1)) string_limit ≡ length (string_at w' s' i) = string_length w' s' i h t'.room in
      let q : length (string_at w s i) ≡ length (string_at w' s' i) = ap length (string_same i x) in
      let c : word w (REQUESTS + i * REQUEST + 1) ≤ string_limit = (t.requests i h).fits in
      let d : word w' (REQUESTS + i * REQUEST + 1) ≤ string_limit = (t'.requests i h).fits in
      omega arith)
      (λ (o : Idle w i). (t.requests i h).no_string (away i o) ∙ sym ((t'.requests i h).no_string (away_too i o)))
      (waits w i (count_of w))
  request_word i (suc (suc f)) h l = absurd (omega arith)

  request_byte : (i j : ℕ) → i < session_limit → j < string_limit → word s (string_limit + i * string_limit + j) ≡ word s' (string_limit + i * string_limit + j)
  request_byte i j h l =
      let n : ℕ = word w (REQUESTS + i * REQUEST + 1) in
      let n' : ℕ = word w' (REQUESTS + i * REQUEST + 1) in
      let q : n ≡ n' = request_word i 1 h (lit< tt) in
      let b : ℕ = string_limit + i * string_limit in
      ⊎_elim
      (λ (x : j < n).
      ⊎_elim
      (λ (y : Waits w i (count_of w)).
      sym (word_of s b (min n string_limit) j (omega arith))
      ∙ ap (λ (k : List ℕ). get_or k j 0) (sym (string_part w s i) ∙ string_same i y ∙ string_part w' s' i)
      ∙ word_of s' b (min n' string_limit) j (omega arith))
      (λ (o : Idle w i). let z : n ≡ 0 = (t.requests i h).no_string (away i o) in absurd (omega arith))
      (waits w i (count_of w)))
      (λ (x : n ≤ j). (t.requests i h).behind j x l ∙ sym ((t'.requests i h).behind j (omega arith) l))
      (below j n)

  -- the words of the locks that stand alone
  lock_word : (f : ℕ) → LOCKS + f < ENTRIES → word w (LOCKS + f) ≡ word w' (LOCKS + f)
  unfolding locks_of
  lock_word zero h = mod_one (word w CLOCK) (word w' CLOCK) (2 ^ 63) t.singles.clock t'.singles.clock (ap (λ (l : Locks). l.clock) locks_same)
  lock_word (suc zero) h = holder_same
  lock_word (suc (suc zero)) h = sharers_same
  lock_word (suc (suc (suc zero))) h = key_length
  lock_word (suc (suc (suc (suc zero)))) h = count_same
  lock_word (suc (suc (suc (suc (suc f))))) h = absurd (omega arith)

  -- every word
  word_same : (p : ℕ) → p < WORDS → word w p ≡ word w' p
  word_same p h =
      ⊎_elim (λ (a : p < EXCHANGES). single_word p a)
      (λ (a : EXCHANGES ≤ p).
      ⊎_elim (λ (b : p < CONNECTIONS). rows_same w w' EXCHANGES EXCHANGE session_limit exchange_word_lem p a (omega arith))
      (λ (b : CONNECTIONS ≤ p).
      ⊎_elim (λ (c : p < SENSINGS). rows_same w w' CONNECTIONS CONNECTION connection_limit connection_row p b (omega arith))
      (λ (c : SENSINGS ≤ p).
      ⊎_elim (λ (k : p < LISTED). rows_same w w' SENSINGS SENSING session_limit sensing_word_lem p c (omega arith))
      (λ (l : LISTED ≤ p).
      ⊎_elim (λ (k : p < LOCKS). let z : p ≡ LISTED = omega arith in ap (word w) z ∙ listed_same.0 ∙ ap (word w') (sym z))
      (λ (k : LOCKS ≤ p).
      ⊎_elim (λ (d : p < ENTRIES). let z : p ≡ LOCKS + (p - LOCKS) = omega arith in ap (word w) z ∙ lock_word (p - LOCKS) (omega arith) ∙ ap (word w') (sym z))
      (λ (d : ENTRIES ≤ p).
      ⊎_elim (λ (o : p < ORDERS). rows_same w w' ENTRIES ENTRY session_limit entry_word p d (omega arith))
      (λ (o : ORDERS ≤ p).
      ⊎_elim (λ (f : p < REQUESTS). rows_same w w' ORDERS ORDER session_limit order_word_lem p o (omega arith))
      (λ (f : REQUESTS ≤ p).
      ⊎_elim (λ (g : p < QUEUE). rows_same w w' REQUESTS REQUEST session_limit request_word p f (omega arith))
      (λ (g : QUEUE ≤ p). let z : p ≡ QUEUE + (p - QUEUE) = omega arith in ap (word w) z ∙ queue_word (p - QUEUE) (omega arith) ∙ ap (word w') (sym z))
      (below p QUEUE))
      (below p REQUESTS))
      (below p ORDERS))
      (below p ENTRIES))
      (below p LOCKS))
      (below p LISTED))
      (below p SENSINGS))
      (below p CONNECTIONS))
      (below p EXCHANGES)

  words_one : w ≡ w'
  words_one = let a : length w ≡ WORDS = t.long in ext_get_or 0 w w' (a ∙ sym t'.long) (λ p h. word_same p (omega arith))

  -- every byte
  byte_same : (p : ℕ) → p < STRINGS → word s p ≡ word s' p
  byte_same p h =
      ⊎_elim
      (λ (a : p < string_limit). key_byte p a)
      (λ (a : string_limit ≤ p).
      ⊎_elim (λ (b : p < LIST). rows_same s s' string_limit string_limit session_limit request_byte p a (omega arith))
      (λ (b : LIST ≤ p). let z : p ≡ LIST + (p - LIST) = omega arith in ap (word s) z ∙ list_byte (p - LIST) (omega arith) ∙ ap (word s') (sym z))
      (below p LIST))
      (below p string_limit)

  strings_one : s ≡ s'
  strings_one = let a : length s ≡ STRINGS = t.room in ext_get_or 0 s s' (a ∙ sym t'.room) (λ p h. byte_same p (omega arith))

pub one_memory : (m n : Memory) → Tidy m → Tidy n → view m ≡ view n → m ≡ n
one_memory m n t t' e = λ k. memory (words_one m.words m.strings n.words n.strings t t' e k) (strings_one m.words m.strings n.words n.strings t t' e k)
