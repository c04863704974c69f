-- The memory of a fresh server is in order. Assumes nothing.
use Rattle.std.specs.Prelude.{◌≡◌, Bool, true, false, cond}
use Rattle.std.proofs.Math.Path.{refl}
use Rattle.std.proofs.Common.{sym, ap, subst, ◌∙◌, inl, lit<}
use Prim.Native.Nat.{ℕ, zero, suc, ◌+◌, ◌*◌, ◌-◌, ◌%◌, ◌≤◌, ◌<◌}
use native.Mathlib.Omega.{arith}
use Rattle.std.proofs.lemmas.List.{get_or-replicate}
use borrow.Author.Tests.{lt-ltb, le-ltb, eq-eqb, ne_eqb}
use Rattle.readings.specs.Bits.{not_number}
use Rattle.model.specs.Sizes.{session_limit, connection_limit, string_limit, before_first}
use Rattle.model.specs.State.{Making}
use Rattle.state.specs.Layout.{EXCHANGES, EXCHANGE, CONNECTIONS, CONNECTION, HOME, ENTRIES, ENTRY, ORDERS, ORDER, REQUESTS, REQUEST, QUEUE, WORDS, LIST, STRINGS, SENSINGS, SENSING}
use Rattle.state.specs.View.{memory, word, row_word, field_of, watch_of, numeral}
use Rattle.state.specs.Fresh.{fresh_words, fresh_field, fresh_word, flag_word, fresh_at, fresh_strings}
use Rattle.state.specs.Tidy.{Tidy, InRange, SingleRange, ExchangeRange, ConnectionRange, OrderRange, SensingRange}

a_flag : (b : Bool) → flag_word b ≤ 1
a_flag true = omega arith
a_flag false = omega arith

module _ (v : Making) where
  -- the words behind what the host makes it with
  behind_made : (p : ℕ) → 1 < p → p < WORDS → word (fresh_words v) p ≡ fresh_word p
  behind_made zero h l = absurd (omega arith)
  behind_made (suc zero) h l = absurd (omega arith)
  behind_made (suc (suc p)) h l = fresh_at (suc (suc p)) l

  exchange_is : (i f : ℕ) → i < session_limit → f < EXCHANGE → word (fresh_words v) (EXCHANGES + i * EXCHANGE + f) ≡ fresh_field f
  unfolding fresh_word
  exchange_is i f h l =
      let p : ℕ = EXCHANGES + i * EXCHANGE + f in
      let m : (p - EXCHANGES) % EXCHANGE ≡ f = omega arith in
      behind_made p (omega arith) (omega arith)
      ∙ rw (le-ltb p EXCHANGES (omega arith), lt-ltb p CONNECTIONS (omega arith), m)

  connection_0 : (c f : ℕ) → c < connection_limit → f < CONNECTION → word (fresh_words v) (CONNECTIONS + c * CONNECTION + f) ≡ 0
  unfolding fresh_word
  connection_0 c f h l =
      let p : ℕ = CONNECTIONS + c * CONNECTION + f in
      behind_made p (omega arith) (omega arith)
      ∙ rw (le-ltb p EXCHANGES (omega arith), le-ltb p CONNECTIONS (omega arith), lt-ltb p ORDERS (omega arith))

  sensing_0 : (i f : ℕ) → i < session_limit → f < SENSING → word (fresh_words v) (SENSINGS + i * SENSING + f) ≡ 0
  unfolding fresh_word
  sensing_0 i f h l =
      let p : ℕ = SENSINGS + i * SENSING + f in
      behind_made p (omega arith) (omega arith)
      ∙ rw (le-ltb p EXCHANGES (omega arith), le-ltb p CONNECTIONS (omega arith), lt-ltb p ORDERS (omega arith))

  -- no watch, and no reading
  zero_sensing : (f : ℕ) → SensingRange f 0
  unfolding watch_of numeral not_number
  zero_sensing zero = refl
  zero_sensing (suc zero) = omega arith
  zero_sensing (suc (suc zero)) = omega arith
  zero_sensing (suc (suc (suc f))) = refl

  entry_0 : (i f : ℕ) → i < session_limit → f < ENTRY → word (fresh_words v) (ENTRIES + i * ENTRY + f) ≡ 0
  unfolding fresh_word
  entry_0 i f h l =
      let p : ℕ = ENTRIES + i * ENTRY + f in
      behind_made p (omega arith) (omega arith)
      ∙ rw (le-ltb p EXCHANGES (omega arith), le-ltb p CONNECTIONS (omega arith), lt-ltb p ORDERS (omega arith))

  -- in no slot a message acted, and no release stands
  last_before : (i : ℕ) → i < session_limit → word (fresh_words v) (ORDERS + i * ORDER + 0) ≡ before_first
  unfolding fresh_word
  last_before i h =
      let p : ℕ = ORDERS + i * ORDER + 0 in
      let m : (p - ORDERS) % ORDER ≡ 0 = omega arith in
      behind_made p (omega arith) (omega arith)
      ∙ rw (le-ltb p EXCHANGES (omega arith), le-ltb p CONNECTIONS (omega arith), le-ltb p ORDERS (omega arith), lt-ltb p REQUESTS (omega arith), eq-eqb ((p - ORDERS) % ORDER) 0 m)

  -- no release stands, and nothing was granted
  order_0 : (i f : ℕ) → i < session_limit → 0 < f → f < ORDER → word (fresh_words v) (ORDERS + i * ORDER + f) ≡ 0
  unfolding fresh_word
  order_0 i f h o l =
      let p : ℕ = ORDERS + i * ORDER + f in
      let m : (p - ORDERS) % ORDER ≡ 0 → ⊥ = (λ q. omega arith) in
      behind_made p (omega arith) (omega arith)
      ∙ rw (le-ltb p EXCHANGES (omega arith), le-ltb p CONNECTIONS (omega arith), le-ltb p ORDERS (omega arith), lt-ltb p REQUESTS (omega arith), ne_eqb ((p - ORDERS) % ORDER) 0 m)

  request_0 : (p : ℕ) → REQUESTS ≤ p → p < WORDS → word (fresh_words v) p ≡ 0
  unfolding fresh_word
  request_0 p h l =
      behind_made p (omega arith) l
      ∙ rw (le-ltb p EXCHANGES (omega arith), le-ltb p CONNECTIONS (omega arith), le-ltb p ORDERS (omega arith), le-ltb p REQUESTS h)

  byte_0 : (p : ℕ) → p < STRINGS → word fresh_strings p ≡ 0
  byte_0 p h = get_or-replicate STRINGS p 0 0 h

  -- each field within its range: a line each
  fresh_value : v.vendor < 65536 → (f : ℕ) → f < EXCHANGES → SingleRange f (word (fresh_words v) f)
  fresh_value h zero l = h
  fresh_value h (suc zero) l = a_flag v.prefers_overlap
  fresh_value h (suc (suc zero)) l = lit< tt
  fresh_value h (suc (suc (suc zero))) l = lit< tt
  fresh_value h (suc (suc (suc (suc zero)))) l = omega arith
  fresh_value h (suc (suc (suc (suc (suc zero))))) l = omega arith
  fresh_value h (suc (suc (suc (suc (suc (suc zero)))))) l = omega arith
  fresh_value h (suc (suc (suc (suc (suc (suc (suc f))))))) l = absurd (omega arith)

  fresh_field_lem : (f : ℕ) → f < EXCHANGE → ExchangeRange f (fresh_field f)
  fresh_field_lem zero l = omega arith
  fresh_field_lem (suc zero) l = omega arith
  fresh_field_lem (suc (suc zero)) l = omega arith
  fresh_field_lem (suc (suc (suc zero))) l = omega arith
  fresh_field_lem (suc (suc (suc (suc zero)))) l = omega arith
  fresh_field_lem (suc (suc (suc (suc (suc zero))))) l = lit< tt
  fresh_field_lem (suc (suc (suc (suc (suc (suc zero)))))) l = omega arith
  fresh_field_lem (suc (suc (suc (suc (suc (suc (suc zero))))))) l = omega arith
  fresh_field_lem (suc (suc (suc (suc (suc (suc (suc (suc zero)))))))) l = lit< tt
  fresh_field_lem (suc (suc (suc (suc (suc (suc (suc (suc (suc f))))))))) l = absurd (omega arith)

  fresh_exchange_lem : InRange ExchangeRange EXCHANGES EXCHANGE EXCHANGE session_limit (fresh_words v)
  fresh_exchange_lem i f h l = subst (ExchangeRange f) (sym (exchange_is i f h l)) (fresh_field_lem f l)

  fresh_connection : InRange ConnectionRange CONNECTIONS CONNECTION HOME connection_limit (fresh_words v)
  fresh_connection c zero h l = subst (ConnectionRange 0) (sym (connection_0 c 0 h (lit< tt))) (omega arith)
  fresh_connection c (suc f) h l = omega arith

  fresh_order : InRange OrderRange ORDERS ORDER ORDER session_limit (fresh_words v)
  fresh_order i zero h l = subst (OrderRange 0) (sym (last_before i h)) (lit< tt)
  fresh_order i (suc zero) h l = subst (OrderRange 1) (sym (order_0 i 1 h (lit< tt) l)) (omega arith)
  fresh_order i (suc (suc zero)) h l = subst (OrderRange 2) (sym (order_0 i 2 h (lit< tt) l)) (lit< tt)
  fresh_order i (suc (suc (suc zero))) h l = subst (OrderRange 3) (sym (order_0 i 3 h (lit< tt) l)) (omega arith)
  fresh_order i (suc (suc (suc (suc f)))) h l = absurd (omega arith)

  pub fresh_tidy : v.vendor < 65536 → Tidy (memory (fresh_words v) fresh_strings)
  fresh_tidy h =
      record {
        long = refl;
        room = refl;
        values = fresh_value h;
        exchanges = fresh_exchange_lem;
        sensings = λ i f h l. subst (SensingRange f) (sym (sensing_0 i f h l)) (zero_sensing f);
        connections = fresh_connection;
        orders = fresh_order;
        singles = record { clock = lit< tt; holder = omega arith; sharers = lit< tt; count = omega arith };
        rows = λ i l f o m.
            entry_0 i f l m ∙ sym (ap (λ (b : Bool). cond b 0 (field_of (fresh_words v) i f)) (eq-eqb (row_word (fresh_words v) i 0) 0 (entry_0 i 0 l (lit< tt))));
        homes = λ c l. inl (connection_0 c HOME l (lit< tt));
        requests = λ i l. record {
          fits = omega (arith, request_0 (REQUESTS + i * REQUEST + 1) (omega arith) (omega arith));
          behind = λ j a b. byte_0 (string_limit + i * string_limit + j) (omega arith);
          no_deadline = λ o. request_0 (REQUESTS + i * REQUEST + 0) (omega arith) (omega arith);
          no_string = λ o. request_0 (REQUESTS + i * REQUEST + 1) (omega arith) (omega arith);
        };
        queue = record {
          slots = λ j l. absurd (omega arith);
          behind = λ j a b. request_0 (QUEUE + j) (omega arith) (omega arith);
        };
        key = record {
          fits = lit< tt;
          behind = λ j a b. byte_0 j (omega arith);
          no_length = λ o. refl;
          no_byte = λ o. refl;
        };
        list = record { fits = omega arith; behind = λ j a b. byte_0 (LIST + j) (omega arith) };
      }
