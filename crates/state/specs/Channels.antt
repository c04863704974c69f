-- Which session has a connection: what opening, joining and closing do to the table of sessions, and what one look finds. Assumes nothing.
use Rattle.std.specs.Prelude.{◌≡◌, refl, Bool, true, false, length, set}
use Rattle.std.proofs.Math.Path.{sym, ap}
use Rattle.std.proofs.Common.{subst, ◌∙◌, inl, inr, ⊎_elim, lit<, length-set, eqb-true}
use Rattle.std.proofs.Math.Bool.{cond}
use mathlib.Core.List.{List, []}
use Prim.Native.Nat.{ℕ, zero, suc, ◌+◌, ◌*◌, ◌%◌, ◌^◌, ◌≤◌, ◌<◌}
use native.Mathlib.Omega.{arith}
use Rattle.std.proofs.Math.Dec.{eqb}
use Rattle.std.proofs.lemmas.Bool.{eqb-false}
use Rattle.model.specs.Sizes.{session_limit, connection_limit, no_connection}
use Rattle.model.specs.State.{Entry, Connection, Allowed.any_command, Server, with_allowed}
use Rattle.model.specs.Locks.{with_row, joined}
use Rattle.state.specs.Table.{tab_same}
use Rattle.state.specs.Grid.{upd_same, grid, grid_set, grid_off}
use Rattle.bits.specs.Bits.{bit}
use Rattle.state.specs.Layout.{CLOCK, VENDOR, PREFERENCE, STATUS, LAST, ENABLE, LOCKOUT, REMOTE, HOLDER, SHARERS, ENTRIES, ENTRY, ORDERS, ORDER}
use Rattle.state.specs.Layout.{EXCHANGES, EXCHANGE, CONNECTIONS, CONNECTION, HOME, WORDS, SENSINGS, SENSING}
use Rattle.state.specs.View.{memory, word, flag, key_of, order_word, row_word, home_in, home_at, home_of, field_of, entry_at, entries_of, locks_of, exchange_of, connection_of, rest_of, view, sensing_of}
use Rattle.state.specs.Confirmed.{field_same, field_else, field_number, field_free, field_past, field_shown, Shows, shows}
use Rattle.state.specs.Change.{on_entry, off, here, entry_same, connection_same, key_off, waiting_off, allowed_off, rest_off, entries_change}
use Rattle.state.specs.Tidy.{Tidy, TidyHome, Shown}
use Rattle.state.specs.Keeping.{table_tidy, live_row, same_row}

-- no slot shows connection c
abbrev pub Unshown : List ℕ → ℕ → Type 0
Unshown w c = (j f : ℕ) → j < session_limit → f < 2 → field_of w j (suc f) ≡ c → ⊥

-- a store into a slot's row or a connection's home: another table of sessions, all else the same
abbrev with_entries : Server → List Entry → Server
with_entries d es = record { locks = record { clock = d.locks.clock; entries = es; waiting = d.locks.waiting }; rest = d.rest }

row_stored : (w s : List ℕ) (i f v : ℕ) → i < session_limit → f < ENTRY
    → view (memory (set w (ENTRIES + i * ENTRY + f) v) s) ≡ with_entries (view (memory w s)) (entries_of (set w (ENTRIES + i * ENTRY + f) v) (key_of w s))
unfolding locks_of
row_stored w s i f v h l =
    let a : ℕ = ENTRIES + i * ENTRY + f in
    λ k. record {
      locks = record {
        clock = off w a v CLOCK (omega arith) k % 2 ^ 63;
        entries = entries_of (set w a v) (key_off w s a v (omega arith) k);
        waiting = waiting_off w s a v (omega arith) (omega arith) k;
      };
      rest = rest_off w s s a v (omega arith) refl k;
    }

home_row : (r : List ℕ) (v : ℕ) → connection_of (set r HOME v) ≡ connection_of r
home_row r v = connection_same (word (set r HOME v)) (word r) (λ f l. off r HOME v f (omega arith))

home_rest : (w : List ℕ) (c v : ℕ) → length w ≡ WORDS → c < connection_limit → rest_of (set w (home_at c) v) ≡ rest_of w
unfolding rest_of
home_rest w c v long h =
    let a : ℕ = CONNECTIONS + c * CONNECTION + HOME in
    λ k. record {
      exchanges = grid_off exchange_of EXCHANGES EXCHANGE session_limit w a v (inr (omega arith)) k;
      sensings = grid_off sensing_of SENSINGS SENSING session_limit w a v (inl (omega arith)) k;
      connections = (grid_set connection_of CONNECTIONS CONNECTION connection_limit w c HOME v (λ (x : Connection). x) (λ r e. home_row r v) h (lit< tt) (omega arith)
          ∙ upd_same (grid connection_of CONNECTIONS CONNECTION connection_limit w) c) k;
      last_issued = off w a v LAST (omega arith) k % 65536;
      made = record { vendor = off w a v VENDOR (omega arith) k % 65536; prefers_overlap = flag (off w a v PREFERENCE (omega arith) k) };
      status = off w a v STATUS (omega arith) k % 256;
      remote_local = record { enable = flag (off w a v ENABLE (omega arith) k); lockout = flag (off w a v LOCKOUT (omega arith) k); remote = flag (off w a v REMOTE (omega arith) k) };
      allowed = any_command;
    }

home_stored : (w s : List ℕ) (c v : ℕ) → length w ≡ WORDS → c < connection_limit
    → view (memory (set w (home_at c) v) s) ≡ with_entries (view (memory w s)) (entries_of (set w (home_at c) v) (key_of w s))
unfolding locks_of
home_stored w s c v long h =
    let a : ℕ = home_at c in
    λ k. record {
      locks = record {
        clock = off w a v CLOCK (omega arith) k % 2 ^ 63;
        entries = entries_of (set w a v) (key_off w s a v (omega arith) k);
        waiting = waiting_off w s a v (omega arith) (omega arith) k;
      };
      rest = with_allowed (home_rest w c v long h k) (allowed_off w s s a v (omega arith) refl k);
    }

-- slot j by the fields that it shows
module _ (w w' key : List ℕ) (j : ℕ) (holder : word w' HOLDER ≡ word w HOLDER) (sharers : word w' SHARERS ≡ word w SHARERS) (order : (f : ℕ) → order_word w' j f ≡ order_word w j f) where
  entry_rowed : (n a b : ℕ) → field_of w' j 0 ≡ n → field_of w' j 1 ≡ a → field_of w' j 2 ≡ b → entry_at w' key j ≡ with_row n a b (entry_at w key j)
  unfolding entry_at
  entry_rowed n a b p q r =
      entry_same (field_of w' j) (field_of w' j) (order_word w' j) (order_word w j) _ _ _ _ (λ f l. refl) (λ f l. order f) (ap (λ (x : ℕ). eqb x (j + 1)) holder)
      (ap (λ (x : ℕ). cond (eqb (bit x j) 1) key []) sharers)
      ∙ λ k. with_row (p k) (q k) (r k) (entry_at w key j)

  entry_kept : ((f : ℕ) → f < ENTRY → field_of w' j f ≡ field_of w j f) → entry_at w' key j ≡ entry_at w key j
  unfolding entry_at
  entry_kept e = entry_rowed (field_of w j 0) (field_of w j 1) (field_of w j 2) (e 0 (lit< tt)) (e 1 (lit< tt)) (e 2 (lit< tt))

-- slot j where connection c, which it did not show, gets a home that is not here
keeps : (w w' : List ℕ) (c j : ℕ) → c < connection_limit → j < session_limit → Unshown w c
    → ((g : ℕ) → g < ENTRY → row_word w' j g ≡ row_word w j g)
    → ((x : ℕ) → x < connection_limit → (x ≡ c → ⊥) → home_of w' x ≡ home_of w x)
    → ((f : ℕ) → f < 2 → home_of w' c ≡ home_in j (suc f) → ⊥)
    → (f : ℕ) → f < ENTRY → field_of w' j f ≡ field_of w j f
keeps w w' c j few h lone row homes away zero l = field_number w' j ∙ row 0 l ∙ sym (field_number w j)
keeps w w' c j few h lone row homes away (suc f) l = field_else w w' j c f few (row 0 (omega arith)) (row (suc f) l) homes (lone j f h (omega arith)) (away f (omega arith))

-- session n opens in slot i over connection c, which no slot shows: four stores
module _ (w s : List ℕ) (i n c : ℕ) (long : length w ≡ WORDS) (h : i < session_limit) (some : n ≡ 0 → ⊥) (few : c < connection_limit) (lone : Unshown w c) where
  abbrev w₁ : List ℕ
  w₁ = set w (ENTRIES + i * ENTRY + 0) n

  abbrev w₂ : List ℕ
  w₂ = set w₁ (ENTRIES + i * ENTRY + 1) c

  abbrev w₃ : List ℕ
  w₃ = set w₂ (ENTRIES + i * ENTRY + 2) no_connection

  abbrev w₄ : List ℕ
  w₄ = set w₃ (home_at c) (home_in i 1)

  long₁ : length w₁ ≡ WORDS
  long₁ = length-set w (ENTRIES + i * ENTRY + 0) n ∙ long

  long₂ : length w₂ ≡ WORDS
  long₂ = length-set w₁ (ENTRIES + i * ENTRY + 1) c ∙ long₁

  long₃ : length w₃ ≡ WORDS
  long₃ = length-set w₂ (ENTRIES + i * ENTRY + 2) no_connection ∙ long₂

  -- every other word is as it was
  same : (a : ℕ) → ((f : ℕ) → f < ENTRY → a ≡ ENTRIES + i * ENTRY + f → ⊥) → (a ≡ home_at c → ⊥) → word w₄ a ≡ word w a
  same a p q =
      off w₃ (home_at c) (home_in i 1) a q
      ∙ off w₂ (ENTRIES + i * ENTRY + 2) no_connection a (p 2 (lit< tt))
      ∙ off w₁ (ENTRIES + i * ENTRY + 1) c a (p 1 (lit< tt))
      ∙ off w (ENTRIES + i * ENTRY + 0) n a (p 0 (lit< tt))

  number_here : row_word w₄ i 0 ≡ n
  number_here =
      off w₃ (home_at c) (home_in i 1) (ENTRIES + i * ENTRY + 0) (omega arith)
      ∙ off w₂ (ENTRIES + i * ENTRY + 2) no_connection (ENTRIES + i * ENTRY + 0) (omega arith)
      ∙ off w₁ (ENTRIES + i * ENTRY + 1) c (ENTRIES + i * ENTRY + 0) (omega arith)
      ∙ here w (ENTRIES + i * ENTRY + 0) n (omega arith)

  first_here : row_word w₄ i 1 ≡ c
  first_here =
      off w₃ (home_at c) (home_in i 1) (ENTRIES + i * ENTRY + 1) (omega arith)
      ∙ off w₂ (ENTRIES + i * ENTRY + 2) no_connection (ENTRIES + i * ENTRY + 1) (omega arith)
      ∙ here w₁ (ENTRIES + i * ENTRY + 1) c (omega (arith, long₁))

  second_here : row_word w₄ i 2 ≡ no_connection
  second_here = off w₃ (home_at c) (home_in i 1) (ENTRIES + i * ENTRY + 2) (omega arith) ∙ here w₂ (ENTRIES + i * ENTRY + 2) no_connection (omega (arith, long₂))

  home_here : home_of w₄ c ≡ home_in i 1
  home_here = here w₃ (home_at c) (home_in i 1) (omega (arith, long₃))

  first_shown : field_of w₄ i 1 ≡ c
  first_shown =
      field_shown w₄ i 1 (omega arith) (λ e. some (sym number_here ∙ e)) (omega (arith, first_here)) (ap (home_of w₄) first_here ∙ home_here) ∙ first_here

  second_none : field_of w₄ i 2 ≡ no_connection
  second_none = field_past w₄ i 2 (omega arith) (omega (arith, second_here))

  pub session_opened : view (memory w₄ s) ≡ on_entry (view (memory w s)) i (with_row n c no_connection)
  unfolding locks_of
  session_opened =
      let key : List ℕ = key_of w s in
      let d : Server = view (memory w s) in
      let es : List Entry = entries_of w₄ key in
      home_stored w₃ s c (home_in i 1) long₃ few
      ∙ ap (λ (x : List ℕ). with_entries (view (memory w₃ s)) (entries_of w₄ x))
      (key_off w₂ s (ENTRIES + i * ENTRY + 2) no_connection (omega arith) ∙ key_off w₁ s (ENTRIES + i * ENTRY + 1) c (omega arith) ∙ key_off w s (ENTRIES + i * ENTRY + 0) n (omega arith))
      ∙ ap (λ (x : Server). with_entries x es) (row_stored w₂ s i 2 no_connection h (lit< tt))
      ∙ ap (λ (x : Server). with_entries x es) (row_stored w₁ s i 1 c h (lit< tt))
      ∙ ap (λ (x : Server). with_entries x es) (row_stored w s i 0 n h (lit< tt))
      ∙ ap (λ (x : List Entry). with_entries d x)
      (entries_change w w₄ key key i (with_row n c no_connection) h
      (entry_rowed w w₄ key i (same HOLDER (omega arith) (omega arith)) (same SHARERS (omega arith) (omega arith))
      (λ f. same (ORDERS + i * ORDER + f) (omega arith) (omega arith)) n c no_connection (field_number w₄ i ∙ number_here) first_shown second_none)
      (λ j l o.
      entry_kept w w₄ key j (same HOLDER (omega arith) (omega arith)) (same SHARERS (omega arith) (omega arith)) (λ f. same (ORDERS + j * ORDER + f) (omega arith) (omega arith))
      (keeps w w₄ c j few l lone
      (λ g m. same (ENTRIES + j * ENTRY + g) (λ f x e. o (let z : j ≡ i = omega arith in z)) (omega arith))
      (λ x m q. same (home_at x) (λ f y e. omega arith) (λ e. q (let z : x ≡ c = omega arith in z)))
      (λ f m e. o (let y : home_in i 1 ≡ home_in j (suc f) = sym home_here ∙ e in let z : j ≡ i = omega arith in z)))))

  -- memory stays in order where slot i was free
  others_show : (j g : ℕ) → j < session_limit → g < ENTRY → (j ≡ i → ⊥) → field_of w₄ j g ≡ field_of w j g
  others_show j g l m o =
      keeps w w₄ c j few l lone
      (λ x y. same (ENTRIES + j * ENTRY + x) (λ f z e. o (let z : j ≡ i = omega arith in z)) (omega arith))
      (λ x y q. same (home_at x) (λ f z e. omega arith) (λ e. q (let z : x ≡ c = omega arith in z)))
      (λ f y e. o (let x : home_in i 1 ≡ home_in j (suc f) = sym home_here ∙ e in let z : j ≡ i = omega arith in z)) g m

  own_row : (f : ℕ) → 0 < f → f < ENTRY → row_word w₄ i f ≡ cond (eqb (row_word w₄ i 0) 0) 0 (field_of w₄ i f)
  own_row zero o l = absurd (omega arith)
  own_row (suc zero) o l = live_row w₄ i 1 (λ e. some (sym number_here ∙ e)) (first_here ∙ sym first_shown)
  own_row (suc (suc zero)) o l = live_row w₄ i 2 (λ e. some (sym number_here ∙ e)) (second_here ∙ sym second_none)
  own_row (suc (suc (suc f))) o l = absurd (omega arith)

  pub opened_tidy : row_word w i 0 ≡ 0 → Tidy (memory w s) → Tidy (memory w₄ s)
  opened_tidy free t =
      table_tidy w w₄ s t (length-set w₃ (home_at c) (home_in i 1) ∙ long₃)
      (λ a o q. same a (λ f l e. ⊎_elim (λ (y : a < ENTRIES). omega arith) (λ (y : ORDERS ≤ a). omega arith) o) (q c few))
      (λ j l f o m. row j l f o m (eqb j i) refl)
      (λ x l. home x l (eqb x c) refl)
    where
      row : (j : ℕ) → j < session_limit → (f : ℕ) → 0 < f → f < ENTRY → (b : Bool) → eqb j i ≡ b → row_word w₄ j f ≡ cond (eqb (row_word w₄ j 0) 0) 0 (field_of w₄ j f)
      row j l f o m true e = let z : i ≡ j = sym (eqb-true j i e) in subst (λ (k : ℕ). row_word w₄ k f ≡ cond (eqb (row_word w₄ k 0) 0) 0 (field_of w₄ k f)) z (own_row f o m)
      row j l f o m false e =
          let q : j ≡ i → ⊥ = eqb-false j i e in
          let k : (g : ℕ) → g < ENTRY → row_word w₄ j g ≡ row_word w j g = (λ g x. same (ENTRIES + j * ENTRY + g) (λ f z e. q (let z : j ≡ i = omega arith in z)) (omega arith)) in
          same_row w w₄ j f (k 0 (lit< tt)) (k f m) (others_show j f l m q) (t.rows j l f o m)

      shown_still : (x : ℕ) → x < connection_limit → Shown w x → TidyHome w₄ x
      shown_still x l y = by (eqb y.slot i) refl
        where
          by : (b : Bool) → eqb y.slot i ≡ b → TidyHome w₄ x
          by true e =
              let z : y.slot ≡ i = eqb-true y.slot i e in
              let n : no_connection ≡ x = sym (field_free w i y.field (omega (arith, y.some)) free) ∙ ap (λ (k : ℕ). field_of w k y.field) (sym z) ∙ y.is in
              absurd (omega arith)
          by false e =
              inr record {
                slot = y.slot;
                field = y.field;
                few = y.few;
                some = y.some;
                small = y.small;
                is = others_show y.slot y.field y.few y.small (eqb-false y.slot i e) ∙ y.is;
              }

      home : (x : ℕ) → x < connection_limit → (b : Bool) → eqb x c ≡ b → TidyHome w₄ x
      home x l true e = inr record { slot = i; field = 1; few = h; some = lit< tt; small = lit< tt; is = first_shown ∙ sym (eqb-true x c e) }
      home x l false e =
          ⊎_elim
          (λ (z : home_of w x ≡ 0). inl (same (home_at x) (λ f z e. omega arith) (λ q. eqb-false x c e (let z : x ≡ c = omega arith in z)) ∙ z))
          (λ (y : Shown w x). shown_still x l y)
          (t.homes x l)

-- connection c, which no slot shows, is the second of the live slot i: two stores
module _ (w s : List ℕ) (i c : ℕ) (long : length w ≡ WORDS) (h : i < session_limit) (lives : row_word w i 0 ≡ 0 → ⊥) (few : c < connection_limit) (lone : Unshown w c) where
  abbrev v₁ : List ℕ
  v₁ = set w (ENTRIES + i * ENTRY + 2) c

  abbrev v₂ : List ℕ
  v₂ = set v₁ (home_at c) (home_in i 2)

  long_v : length v₁ ≡ WORDS
  long_v = length-set w (ENTRIES + i * ENTRY + 2) c ∙ long

  still : (a : ℕ) → (a ≡ ENTRIES + i * ENTRY + 2 → ⊥) → (a ≡ home_at c → ⊥) → word v₂ a ≡ word w a
  still a p q = off v₁ (home_at c) (home_in i 2) a q ∙ off w (ENTRIES + i * ENTRY + 2) c a p

  named : row_word v₂ i 2 ≡ c
  named = off v₁ (home_at c) (home_in i 2) (ENTRIES + i * ENTRY + 2) (omega arith) ∙ here w (ENTRIES + i * ENTRY + 2) c (omega arith)

  housed : home_of v₂ c ≡ home_in i 2
  housed = here v₁ (home_at c) (home_in i 2) (omega (arith, long_v))

  alive : row_word v₂ i 0 ≡ row_word w i 0
  alive = still (ENTRIES + i * ENTRY + 0) (omega arith) (omega arith)

  other_homes : (x : ℕ) → x < connection_limit → (x ≡ c → ⊥) → home_of v₂ x ≡ home_of w x
  other_homes x m q = still (home_at x) (omega arith) (λ e. q (let z : x ≡ c = omega arith in z))

  pub session_joined : view (memory v₂ s) ≡ on_entry (view (memory w s)) i (joined c)
  unfolding locks_of entry_at
  session_joined =
      let key : List ℕ = key_of w s in
      let d : Server = view (memory w s) in
      let es : List Entry = entries_of v₂ key in
      home_stored v₁ s c (home_in i 2) long_v few
      ∙ ap (λ (x : List ℕ). with_entries (view (memory v₁ s)) (entries_of v₂ x)) (key_off w s (ENTRIES + i * ENTRY + 2) c (omega arith))
      ∙ ap (λ (x : Server). with_entries x es) (row_stored w s i 2 c h (lit< tt))
      ∙ ap (λ (x : List Entry). with_entries d x)
      (entries_change w v₂ key key i (joined c) h
      (entry_rowed w v₂ key i (still HOLDER (omega arith) (omega arith)) (still SHARERS (omega arith) (omega arith))
      (λ f. still (ORDERS + i * ORDER + f) (omega arith) (omega arith)) (field_of w i 0) (field_of w i 1) c
      (field_number v₂ i ∙ alive ∙ sym (field_number w i))
      (field_else w v₂ i c 0 few alive (still (ENTRIES + i * ENTRY + 1) (omega arith) (omega arith)) other_homes (lone i 0 h (lit< tt))
      (λ e. let y : home_in i 2 ≡ home_in i 1 = sym housed ∙ e in omega arith))
      (field_shown v₂ i 2 (omega arith) (λ e. lives (sym alive ∙ e)) (omega (arith, named)) (ap (home_of v₂) named ∙ housed) ∙ named))
      (λ j l o.
      entry_kept w v₂ key j (still HOLDER (omega arith) (omega arith)) (still SHARERS (omega arith) (omega arith)) (λ f. still (ORDERS + j * ORDER + f) (omega arith) (omega arith))
      (keeps w v₂ c j few l lone
      (λ g m. still (ENTRIES + j * ENTRY + g) (λ e. o (let z : j ≡ i = omega arith in z)) (omega arith))
      other_homes
      (λ f m e. o (let y : home_in i 2 ≡ home_in j (suc f) = sym housed ∙ e in let z : j ≡ i = omega arith in z)))))

  -- memory stays in order where slot i had no second connection
  others_still : (j g : ℕ) → j < session_limit → g < ENTRY → (j ≡ i → ⊥) → field_of v₂ j g ≡ field_of w j g
  others_still j g l m o =
      keeps w v₂ c j few l lone
      (λ x y. still (ENTRIES + j * ENTRY + x) (λ e. o (let z : j ≡ i = omega arith in z)) (omega arith))
      other_homes
      (λ f y e. o (let x : home_in i 2 ≡ home_in j (suc f) = sym housed ∙ e in let z : j ≡ i = omega arith in z)) g m

  first_still : field_of v₂ i 1 ≡ field_of w i 1
  first_still = field_else w v₂ i c 0 few alive (still (ENTRIES + i * ENTRY + 1) (omega arith) (omega arith)) other_homes (lone i 0 h (lit< tt))
      (λ e. let y : home_in i 2 ≡ home_in i 1 = sym housed ∙ e in omega arith)

  second_now : field_of v₂ i 2 ≡ c
  second_now = field_shown v₂ i 2 (omega arith) (λ e. lives (sym alive ∙ e)) (omega (arith, named)) (ap (home_of v₂) named ∙ housed) ∙ named

  pub joined_tidy : field_of w i 2 ≡ no_connection → Tidy (memory w s) → Tidy (memory v₂ s)
  joined_tidy none t =
      table_tidy w v₂ s t (length-set v₁ (home_at c) (home_in i 2) ∙ long_v)
      (λ a o q. still a (λ e. ⊎_elim (λ (y : a < ENTRIES). omega arith) (λ (y : ORDERS ≤ a). omega arith) o) (q c few))
      (λ j l f o m. row j l f o m (eqb j i) refl)
      (λ x l. home x l (eqb x c) refl)
    where
      own : (f : ℕ) → 0 < f → f < ENTRY → row_word v₂ i f ≡ cond (eqb (row_word v₂ i 0) 0) 0 (field_of v₂ i f)
      own zero o l = absurd (omega arith)
      own (suc zero) o l = same_row w v₂ i 1 alive (still (ENTRIES + i * ENTRY + 1) (omega arith) (omega arith)) first_still (t.rows i h 1 o l)
      own (suc (suc zero)) o l = live_row v₂ i 2 (λ e. lives (sym alive ∙ e)) (named ∙ sym second_now)
      own (suc (suc (suc f))) o l = absurd (omega arith)

      row : (j : ℕ) → j < session_limit → (f : ℕ) → 0 < f → f < ENTRY → (b : Bool) → eqb j i ≡ b → row_word v₂ j f ≡ cond (eqb (row_word v₂ j 0) 0) 0 (field_of v₂ j f)
      row j l f o m true e = let z : i ≡ j = sym (eqb-true j i e) in subst (λ (k : ℕ). row_word v₂ k f ≡ cond (eqb (row_word v₂ k 0) 0) 0 (field_of v₂ k f)) z (own f o m)
      row j l f o m false e =
          let q : j ≡ i → ⊥ = eqb-false j i e in
          let k : (g : ℕ) → g < ENTRY → row_word v₂ j g ≡ row_word w j g = (λ g x. still (ENTRIES + j * ENTRY + g) (λ e. q (let z : j ≡ i = omega arith in z)) (omega arith)) in
          same_row w v₂ j f (k 0 (lit< tt)) (k f m) (others_still j f l m q) (t.rows j l f o m)

      here_still : (x f : ℕ) → x < connection_limit → 0 < f → f < ENTRY → field_of w i f ≡ x → TidyHome v₂ x
      here_still x zero l o m e = absurd (omega arith)
      here_still x (suc zero) l o m e = inr record { slot = i; field = 1; few = h; some = lit< tt; small = lit< tt; is = first_still ∙ e }
      here_still x (suc (suc zero)) l o m e = let n : no_connection ≡ x = sym none ∙ e in absurd (omega arith)
      here_still x (suc (suc (suc f))) l o m e = absurd (omega arith)

      shown_still : (x : ℕ) → x < connection_limit → Shown w x → TidyHome v₂ x
      shown_still x l y = by (eqb y.slot i) refl
        where
          by : (b : Bool) → eqb y.slot i ≡ b → TidyHome v₂ x
          by true e = here_still x y.field l y.some y.small (ap (λ (k : ℕ). field_of w k y.field) (sym (eqb-true y.slot i e)) ∙ y.is)
          by false e =
              inr record {
                slot = y.slot;
                field = y.field;
                few = y.few;
                some = y.some;
                small = y.small;
                is = others_still y.slot y.field y.few y.small (eqb-false y.slot i e) ∙ y.is;
              }

      home : (x : ℕ) → x < connection_limit → (b : Bool) → eqb x c ≡ b → TidyHome v₂ x
      home x l true e = inr record { slot = i; field = 2; few = h; some = lit< tt; small = lit< tt; is = second_now ∙ sym (eqb-true x c e) }
      home x l false e =
          ⊎_elim
          (λ (z : home_of w x ≡ 0). inl (other_homes x l (eqb-false x c e) ∙ z))
          (λ (y : Shown w x). shown_still x l y)
          (t.homes x l)

-- a closing: the number of slot i is 0, and it shows no connections
module _ (w s : List ℕ) (i : ℕ) (long : length w ≡ WORDS) (h : i < session_limit) where
  abbrev freed : List ℕ
  freed = set w (ENTRIES + i * ENTRY + 0) 0

  pub free_here : row_word freed i 0 ≡ 0
  free_here = here w (ENTRIES + i * ENTRY + 0) 0 (omega arith)

  pub session_freed : view (memory freed s) ≡ on_entry (view (memory w s)) i (with_row 0 no_connection no_connection)
  unfolding locks_of
  session_freed =
      let a : ℕ = ENTRIES + i * ENTRY + 0 in
      let key : List ℕ = key_of w s in
      row_stored w s i 0 0 h (lit< tt)
      ∙ ap (λ (x : List Entry). with_entries (view (memory w s)) x)
      (entries_change w freed key key i (with_row 0 no_connection no_connection) h
      (entry_rowed w freed key i (off w a 0 HOLDER (omega arith)) (off w a 0 SHARERS (omega arith)) (λ f. off w a 0 (ORDERS + i * ORDER + f) (omega arith)) 0 no_connection no_connection
      (field_number freed i ∙ free_here) (field_free freed i 1 (omega arith) free_here) (field_free freed i 2 (omega arith) free_here))
      (λ j l o.
      entry_kept w freed key j (off w a 0 HOLDER (omega arith)) (off w a 0 SHARERS (omega arith)) (λ f. off w a 0 (ORDERS + j * ORDER + f) (omega arith))
      (field_same w freed j (λ g m. off w a 0 (ENTRIES + j * ENTRY + g) (λ e. o (let z : j ≡ i = omega arith in z))) (λ c m. off w a 0 (home_at c) (omega arith)))))

-- what is left of a free slot i is not seen: the words of its row, and the home of a connection there
module _ (w s : List ℕ) (i f : ℕ) (long : length w ≡ WORDS) (h : i < session_limit) (free : row_word w i 0 ≡ 0) (o : 0 < f) (l : f < ENTRY) where
  abbrev cleared : List ℕ
  cleared = set w (ENTRIES + i * ENTRY + f) 0

  pub still_free : row_word cleared i 0 ≡ 0
  still_free = off w (ENTRIES + i * ENTRY + f) 0 (ENTRIES + i * ENTRY + 0) (omega arith) ∙ free

  cleared_here : (g : ℕ) → field_of cleared i g ≡ field_of w i g
  cleared_here zero = field_number cleared i ∙ still_free ∙ sym (field_number w i ∙ free)
  cleared_here (suc g) = field_free cleared i (suc g) (omega arith) still_free ∙ sym (field_free w i (suc g) (omega arith) free)

  cleared_field : (j g : ℕ) → g < ENTRY → field_of cleared j g ≡ field_of w j g
  cleared_field j g m = by (eqb j i) refl
    where
      by : (b : Bool) → eqb j i ≡ b → field_of cleared j g ≡ field_of w j g
      by true e = let z : j ≡ i = eqb-true j i e in ap (λ (x : ℕ). field_of cleared x g) z ∙ cleared_here g ∙ ap (λ (x : ℕ). field_of w x g) (sym z)
      by false e =
          field_same w cleared j (λ x y. off w (ENTRIES + i * ENTRY + f) 0 (ENTRIES + j * ENTRY + x) (λ q. eqb-false j i e (let z : j ≡ i = omega arith in z)))
          (λ c y. off w (ENTRIES + i * ENTRY + f) 0 (home_at c) (omega arith)) g m

  pub row_cleared : view (memory cleared s) ≡ view (memory w s)
  unfolding locks_of entries_of
  row_cleared =
      let a : ℕ = ENTRIES + i * ENTRY + f in
      let key : List ℕ = key_of w s in
      row_stored w s i f 0 h l
      ∙ ap (λ (x : List Entry). with_entries (view (memory w s)) x)
      (tab_same (entry_at cleared key) (entry_at w key) 0 session_limit
      (λ j p q. entry_kept w cleared key j (off w a 0 HOLDER (omega arith)) (off w a 0 SHARERS (omega arith)) (λ f. off w a 0 (ORDERS + j * ORDER + f) (omega arith)) (cleared_field j)))

  module _ (c : ℕ) (few : c < connection_limit) (housed : home_of w c ≡ home_in i f) where
    abbrev homeless : List ℕ
    homeless = set w (home_at c) 0

    pub free_still : row_word homeless i 0 ≡ 0
    free_still = off w (home_at c) 0 (ENTRIES + i * ENTRY + 0) (omega arith) ∙ free

    unshown : Unshown w c
    unshown j g m x e =
        let r : Shows w j c (suc g) = shows w j c (suc g) (omega arith) few e in
        let y : home_in i f ≡ home_in j (suc g) = sym housed ∙ r.home in
        let z : j ≡ i = omega arith in
        r.lives (ap (λ (x : ℕ). row_word w x 0) z ∙ free)

    away : (j g : ℕ) → home_of homeless c ≡ home_in j (suc g) → ⊥
    away j g e = let y : 0 ≡ home_in j (suc g) = sym (here w (home_at c) 0 (omega arith)) ∙ e in omega arith

    pub home_cleared : view (memory homeless s) ≡ view (memory w s)
    unfolding locks_of entries_of
    home_cleared =
        let a : ℕ = home_at c in
        let key : List ℕ = key_of w s in
        home_stored w s c 0 long few
        ∙ ap (λ (x : List Entry). with_entries (view (memory w s)) x)
        (tab_same (entry_at homeless key) (entry_at w key) 0 session_limit
        (λ j p q.
        entry_kept w homeless key j (off w a 0 HOLDER (omega arith)) (off w a 0 SHARERS (omega arith)) (λ f. off w a 0 (ORDERS + j * ORDER + f) (omega arith))
        (keeps w homeless c j few (omega arith) unshown
        (λ g m. off w a 0 (ENTRIES + j * ENTRY + g) (omega arith))
        (λ x m r. off w a 0 (home_at x) (λ e. r (let z : x ≡ c = omega arith in z)))
        (λ g m. away j g))))

-- the same of the memories that the code's stores leave
pub opened_by : (w x₁ x₂ x₃ x₄ s : List ℕ) (i n c k : ℕ) → x₁ ≡ set w (ENTRIES + i * ENTRY + 0) n → x₂ ≡ set x₁ (ENTRIES + i * ENTRY + 1) c → x₃ ≡ set x₂ (ENTRIES + i * ENTRY + 2) no_connection
    → x₄ ≡ set x₃ (home_at c) k → k ≡ home_in i 1 → length w ≡ WORDS → i < session_limit → (n ≡ 0 → ⊥) → c < connection_limit → Unshown w c
    → view (memory x₄ s) ≡ on_entry (view (memory w s)) i (with_row n c no_connection)
opened_by w x₁ x₂ x₃ x₄ s i n c k e₁ e₂ e₃ e₄ e long h some few lone =
    ap (λ (x : List ℕ). view (memory x s))
    (e₄ ∙ ap (set x₃ (home_at c)) e
    ∙ ap (λ (x : List ℕ). set x (home_at c) (home_in i 1)) (e₃ ∙ ap (λ (x : List ℕ). set x (ENTRIES + i * ENTRY + 2) no_connection) (e₂ ∙ ap (λ (x : List ℕ). set x (ENTRIES + i * ENTRY + 1) c) e₁)))
    ∙ session_opened w s i n c long h some few lone

pub opened_in_order : (w x₁ x₂ x₃ x₄ s : List ℕ) (i n c k : ℕ) → x₁ ≡ set w (ENTRIES + i * ENTRY + 0) n → x₂ ≡ set x₁ (ENTRIES + i * ENTRY + 1) c → x₃ ≡ set x₂ (ENTRIES + i * ENTRY + 2) no_connection
    → x₄ ≡ set x₃ (home_at c) k → k ≡ home_in i 1 → length w ≡ WORDS → i < session_limit → (n ≡ 0 → ⊥) → c < connection_limit → Unshown w c
    → row_word w i 0 ≡ 0 → Tidy (memory w s) → Tidy (memory x₄ s)
opened_in_order w x₁ x₂ x₃ x₄ s i n c k e₁ e₂ e₃ e₄ e long h some few lone free t =
    subst (λ (x : List ℕ). Tidy (memory x s))
    (sym
    (e₄ ∙ ap (set x₃ (home_at c)) e
    ∙ ap (λ (x : List ℕ). set x (home_at c) (home_in i 1)) (e₃ ∙ ap (λ (x : List ℕ). set x (ENTRIES + i * ENTRY + 2) no_connection) (e₂ ∙ ap (λ (x : List ℕ). set x (ENTRIES + i * ENTRY + 1) c) e₁))))
    (opened_tidy w s i n c long h some few lone free t)

pub joined_in_order : (w x₁ x₂ s : List ℕ) (i c k : ℕ) → x₁ ≡ set w (ENTRIES + i * ENTRY + 2) c → x₂ ≡ set x₁ (home_at c) k → k ≡ home_in i 2 → length w ≡ WORDS →
    i < session_limit → (row_word w i 0 ≡ 0 → ⊥) → c < connection_limit → Unshown w c
    → field_of w i 2 ≡ no_connection → Tidy (memory w s) → Tidy (memory x₂ s)
joined_in_order w x₁ x₂ s i c k e₁ e₂ e long h lives few lone none t =
    subst (λ (x : List ℕ). Tidy (memory x s)) (sym (e₂ ∙ ap (set x₁ (home_at c)) e ∙ ap (λ (x : List ℕ). set x (home_at c) (home_in i 2)) e₁)) (joined_tidy w s i c long h lives few lone none t)

pub joined_by : (w x₁ x₂ s : List ℕ) (i c k : ℕ) → x₁ ≡ set w (ENTRIES + i * ENTRY + 2) c → x₂ ≡ set x₁ (home_at c) k → k ≡ home_in i 2 → length w ≡ WORDS →
    i < session_limit → (row_word w i 0 ≡ 0 → ⊥) → c < connection_limit → Unshown w c
    → view (memory x₂ s) ≡ on_entry (view (memory w s)) i (joined c)
joined_by w x₁ x₂ s i c k e₁ e₂ e long h lives few lone =
    ap (λ (x : List ℕ). view (memory x s)) (e₂ ∙ ap (set x₁ (home_at c)) e ∙ ap (λ (x : List ℕ). set x (home_at c) (home_in i 2)) e₁) ∙ session_joined w s i c long h lives few lone

pub cleared_by : (w₀ w x : List ℕ) (i f : ℕ) → ((s : List ℕ) → view (memory w s) ≡ view (memory w₀ s)) → x ≡ set w (ENTRIES + i * ENTRY + f) 0 →
    length w ≡ WORDS → i < session_limit → row_word w i 0 ≡ 0 → 0 < f → f < ENTRY
    → ((s : List ℕ) → view (memory x s) ≡ view (memory w₀ s)) × (row_word x i 0 ≡ 0)
cleared_by w₀ w x i f k e long h free o l =
    (λ s. ap (λ (y : List ℕ). view (memory y s)) e ∙ row_cleared w s i f long h free o l ∙ k s, ap (λ (y : List ℕ). row_word y i 0) e ∙ still_free w [] i f long h free o l)
