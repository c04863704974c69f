-- The shared string in memory in order: it comes with the first that shares, and goes with the last. Assumes nothing.
use Rattle.std.specs.Prelude.{◌≡◌, List, ℕ, ◌+◌, ◌*◌, ◌-◌, ◌%◌, ◌^◌, ◌≤◌, ◌<◌, min, length, set}
use Rattle.std.proofs.Common.{sym, ap, subst, ◌∙◌, inr, ⊎_elim, mod-eq_of_lt, arith, lit<, length-set}
use Rattle.std.proofs.Math.Nat.{one-le-pow}
use Rattle.wire.specs.Splice.{splice, length_splice}
use Rattle.model.specs.Sizes.{session_limit, connection_limit, string_limit}
use Rattle.state.specs.Table.{below}
use Rattle.state.specs.Bits.{without}
use Rattle.state.specs.Layout.{EXCHANGES, EXCHANGE, CONNECTIONS, CONNECTION, HOME, LISTED, CLOCK, HOLDER, SHARERS, KEY, COUNT, ENTRIES, ENTRY, ORDERS, ORDER}
use Rattle.state.specs.Layout.{REQUESTS, REQUEST, QUEUE, WORDS, LIST, STRINGS, SENSINGS, SENSING}
use Rattle.state.specs.View.{memory, word, home_at}
use Rattle.state.specs.Change.{off, here}
use Rattle.state.specs.Tidy.{Tidy, Counted, ExchangeRange, ConnectionRange, OrderRange, TidyKey, SensingRange}
use Rattle.state.specs.Keeping.{kept_values, kept_range, kept_singles, kept_rows, kept_homes, kept_request, kept_queue, kept_list, kept_away, count_from, count_to, sharers_tidy}
use Rattle.queue.specs.Leaving.{splice_off}
use Rattle.queue.specs.Wiping.{Wiped}

-- memory that agrees with w, s in order in all but the sharers and their string
module _ (w w' s s' : List ℕ) (t : Tidy (memory w s)) (long : length w' ≡ WORDS) (room : length s' ≡ length s)
    (same : (a : ℕ) → (a ≡ SHARERS → ⊥) → (a ≡ KEY → ⊥) → word w' a ≡ word w a)
    (letters : (p : ℕ) → string_limit ≤ p → word s' p ≡ word s p)
    (sharers : word w' SHARERS < 2 ^ session_limit) where
  pub key_tidy : TidyKey w' s' → Tidy (memory w' s')
  key_tidy k =
      let count : word w' COUNT ≡ word w COUNT = same COUNT (omega arith) (omega arith) in
      let queue : (j : ℕ) → word w' (QUEUE + j) ≡ word w (QUEUE + j) = (λ j. same (QUEUE + j) (omega arith) (omega arith)) in
      record {
        long = long;
        room = room ∙ t.room;
        values = kept_values (Counted w) w w' s s' t (λ p h. same p (omega arith) (omega arith));
        exchanges = kept_range (Counted w) w w' s s' t ExchangeRange EXCHANGES EXCHANGE EXCHANGE session_limit
            (λ i f h l. same (EXCHANGES + i * EXCHANGE + f) (omega arith) (omega arith)) t.exchanges;
        sensings = kept_range (Counted w) w w' s s' t SensingRange SENSINGS SENSING SENSING session_limit (λ i f h l. same (SENSINGS + i * SENSING + f) (omega arith) (omega arith)) t.sensings;
        connections = kept_range (Counted w) w w' s s' t ConnectionRange CONNECTIONS CONNECTION HOME connection_limit
            (λ i f h l. same (CONNECTIONS + i * CONNECTION + f) (omega arith) (omega arith)) t.connections;
        orders = kept_range (Counted w) w w' s s' t OrderRange ORDERS ORDER ORDER session_limit (λ i f h l. same (ORDERS + i * ORDER + f) (omega arith) (omega arith)) t.orders;
        singles = kept_singles (Counted w) w w' s s' t (same CLOCK (omega arith) (omega arith)) (same HOLDER (omega arith) (omega arith)) sharers
            (subst (λ (x : ℕ). x ≤ session_limit) (sym count) t.singles.count);
        rows = kept_rows (Counted w) w w' s s' t (λ i f h l. same (ENTRIES + i * ENTRY + f) (omega arith) (omega arith)) (λ c h. same (home_at c) (omega arith) (omega arith));
        homes = kept_homes (Counted w) w w' s s' t (λ i f h l. same (ENTRIES + i * ENTRY + f) (omega arith) (omega arith)) (λ c h. same (home_at c) (omega arith) (omega arith));
        requests = λ i h.
            kept_request (Counted w) w w' s s' t (Counted w') i h (λ f l. same (REQUESTS + i * REQUEST + f) (omega arith) (omega arith))
            (λ j l. letters (string_limit + i * string_limit + j) (omega arith))
            (kept_away (Counted w) w w' s s' t (Counted w') i queue (count_to w w' count));
        queue = kept_queue (Counted w) w w' s s' t (Counted w') queue (count_from w w' count) (count_to w w' count);
        key = k;
        list = kept_list (Counted w) w w' s s' t (same LISTED (omega arith) (omega arith)) (λ j l. letters (LIST + j) (omega arith));
      }

without_less : (m i : ℕ) → without m i ≤ m
unfolding without
without_less m i = omega arith

-- slot i leaves those that share: it did not share, others do still, or it was the last
module _ (w s : List ℕ) (i left : ℕ) (t : Tidy (memory w s)) (e : left ≡ without (word w SHARERS) i) where
  less : left ≤ word w SHARERS
  less = let l : without (word w SHARERS) i ≤ word w SHARERS = without_less (word w SHARERS) i in omega arith

  small : left < 2 ^ session_limit
  small = let l : left ≤ word w SHARERS = less in let m : word w SHARERS < 2 ^ session_limit = t.singles.sharers in omega arith

  pub none_left : left ≡ word w SHARERS → Tidy (memory (set w SHARERS left) s)
  none_left q = sharers_tidy w s left t small (λ z. sym q ∙ z)

  pub others_left : (left % 2 ^ session_limit ≡ 0 → ⊥) → Tidy (memory (set w SHARERS left) s)
  others_left o = sharers_tidy w s left t small (λ z. absurd (o (ap (λ (x : ℕ). x % 2 ^ session_limit) z)))

  module _ (s' : List ℕ) (x : Wiped s s' 0 (min (word (set w SHARERS left) KEY) (string_limit - 1) + 1)) where
    abbrev w' : List ℕ
    w' = set (set w SHARERS left) KEY 0

    long₁ : length (set w SHARERS left) ≡ WORDS
    long₁ = length-set w SHARERS left ∙ t.long

    no_length : word w' KEY ≡ 0
    no_length = here (set w SHARERS left) KEY 0 (omega (arith, long₁))

    shares : word w' SHARERS ≡ left
    shares = off (set w SHARERS left) KEY 0 SHARERS (omega arith) ∙ here w SHARERS left (omega (arith, t.long))

    no_byte : (j : ℕ) → j < string_limit → word s' j ≡ 0
    no_byte j l =
        let k : word (set w SHARERS left) KEY ≡ word w KEY = off w SHARERS left KEY (omega arith) in
        let f : word w KEY < string_limit = t.key.fits in
        let n : ℕ = min (word (set w SHARERS left) KEY) (string_limit - 1) + 1 in
        ⊎_elim
        (λ (y : j < n). x.blank j (omega arith) (omega arith))
        (λ (y : n ≤ j). x.others j (inr (omega arith)) ∙ t.key.behind j (omega arith) l)
        (below j n)

    pub last_left : Tidy (memory w' s')
    last_left =
        let f : word w KEY < string_limit = t.key.fits in
        key_tidy w w' s s' t (length-set (set w SHARERS left) KEY 0 ∙ long₁) x.room
        (λ a o p. off (set w SHARERS left) KEY 0 a p ∙ off w SHARERS left a o)
        (λ p h. x.others p (inr (omega arith)))
        (subst (λ (y : ℕ). y < 2 ^ session_limit) (sym shares) small)
        record {
          fits = omega (arith, no_length);
          behind = λ j a l. no_byte j l;
          no_length = λ z. no_length;
          no_byte = λ z. no_byte 0 (lit< tt);
        }

-- slot i is the first that shares, with string k
module _ (w s k : List ℕ) (i : ℕ) (t : Tidy (memory w s)) (h : i < session_limit) (some : 0 < length k) (fits : length k ≤ string_limit)
    (none : word w SHARERS % 2 ^ session_limit ≡ 0) (fit : 2 ^ i < 2 ^ session_limit) where
  abbrev v₁ : List ℕ
  v₁ = set w KEY (length k - 1)

  abbrev v₂ : List ℕ
  v₂ = set v₁ SHARERS (2 ^ i)

  long_v : length v₁ ≡ WORDS
  long_v = length-set w KEY (length k - 1) ∙ t.long

  there : 0 + length k ≤ length s
  there = let r : length s ≡ STRINGS = t.room in omega arith

  nobody : word w SHARERS ≡ 0
  nobody = sym (mod-eq_of_lt t.singles.sharers) ∙ none

  key_now : word v₂ KEY ≡ length k - 1
  key_now = off v₁ SHARERS (2 ^ i) KEY (omega arith) ∙ here w KEY (length k - 1) (omega (arith, t.long))

  sharers_now : word v₂ SHARERS ≡ 2 ^ i
  sharers_now = here v₁ SHARERS (2 ^ i) (omega (arith, long_v))

  shared : word v₂ SHARERS ≡ 0 → ⊥
  shared z = let p : 0 < 2 ^ i = one-le-pow i 2 (lit< tt) in let q : 2 ^ i ≡ 0 = sym sharers_now ∙ z in omega arith

  pub first_tidy : Tidy (memory v₂ (splice s 0 k))
  first_tidy =
      let n : word w KEY ≡ 0 = t.key.no_length nobody in
      let m : word v₂ KEY ≡ length k - 1 = key_now in
      key_tidy w v₂ s (splice s 0 k) t (length-set v₁ SHARERS (2 ^ i) ∙ long_v) (length_splice s 0 k there)
      (λ a o p. off v₁ SHARERS (2 ^ i) a o ∙ off w KEY (length k - 1) a p)
      (λ p l. splice_off s 0 k p there (inr (omega arith)))
      (subst (λ (y : ℕ). y < 2 ^ session_limit) (sym sharers_now) fit)
      record {
        fits = omega arith;
        behind = λ j a l. splice_off s 0 k j there (inr (omega arith)) ∙ t.key.behind j (omega arith) l;
        no_length = λ z. absurd (shared z);
        no_byte = λ z. absurd (shared z);
      }
