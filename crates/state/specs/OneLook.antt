-- Q-2: one look finds the session of a connection. Whatever the memory holds, no two slots show one connection, so where its home is
-- confirmed there is its session, the one that a search of all slots finds; else it has none. Assumes nothing.
use Rattle.std.specs.Prelude.{◌≡◌, refl, ◌⊎◌, ◌↔◌, Bool, true, false, not, ◌||◌, List, ℕ, zero, suc, ◌*◌, ◌<◌, eqb, length}
use Rattle.std.proofs.Common.{sym, ◌∙◌, inl, inr, ⊎_elim, true≢false, arith, lit<, eqb-true, eq-eqb}
use Rattle.std.proofs.Math.Path.{ap, ap₂}
use Rattle.std.proofs.lemmas.Bool.{eqb-false}
use Rattle.model.specs.Sizes.{session_limit, connection_limit, no_connection}
use Rattle.model.specs.State.{Entry, at, live, half_open, slot_of_number}
use Rattle.model.specs.Place.{Role, Role.r_none, Role.r_half_open, Role.r_synchronous, Role.r_asynchronous, role_in, is_on_connection, place_of, slot_in, role_of}
use Rattle.model.proofs.Basics.{and_l, and_r, inside, pos_passes, pos_past, Sole}
use Rattle.model.proofs.Place.{place_unique, place_role as role-is, no_role}
use Rattle.state.specs.Table.{length_tab}
use Rattle.state.specs.View.{row_word, home_in, home_of, key_of, field_of, entry_at, entries_of, locks_of}
use Rattle.state.specs.Confirmed.{field_number, shows}
use Rattle.state.specs.Change.{entry_at_lem}
use Rattle.state.specs.Channels.{Unshown}
use Rattle.state.specs.Search.{seat, place_slot, on_synchronous, on_asynchronous, role_half_open, role_synchronous, role_asynchronous, past_none}

-- slot i of the table, by what it shows
module _ (w s : List ℕ) (i : ℕ) (h : i < session_limit) where
  number_at_lem : (at (locks_of w s).entries i).number ≡ row_word w i 0
  unfolding entry_at
  number_at_lem = ap (λ (e : Entry). e.number) (entry_at_lem w i s h) ∙ field_number w i

  synchronous_at : (at (locks_of w s).entries i).synchronous ≡ field_of w i 1
  unfolding entry_at
  synchronous_at = ap (λ (e : Entry). e.synchronous) (entry_at_lem w i s h)

  asynchronous_at : (at (locks_of w s).entries i).asynchronous ≡ field_of w i 2
  unfolding entry_at
  asynchronous_at = ap (λ (e : Entry). e.asynchronous) (entry_at_lem w i s h)

-- a session found by its number
pub lives_there : (w s : List ℕ) (n i : ℕ) → slot_of_number (locks_of w s).entries n ≡ i → i < session_limit →
    live (at (locks_of w s).entries (slot_of_number (locks_of w s).entries n)) ≡ true → row_word w i 0 ≡ 0 → ⊥
lives_there w s n i e h l z =
    let x : Entry = at (locks_of w s).entries i in
    true≢false (sym l ∙ ap (λ (j : ℕ). live (at (locks_of w s).entries j)) e ∙ ap not (eq-eqb x.number 0 (number_at_lem w s i h ∙ z)))

-- a free slot found
pub free_there : (w s : List ℕ) (i : ℕ) → slot_of_number (locks_of w s).entries 0 ≡ i → i < session_limit → row_word w i 0 ≡ 0
free_there w s i e h =
    let es : List Entry = (locks_of w s).entries in
    sym (number_at_lem w s i h) ∙ ap (λ (j : ℕ). (at es j).number) (sym e) ∙ eqb-true (at es (slot_of_number es 0)).number 0 (pos_passes (λ (x : Entry). eqb x.number 0) es refl)

-- a session that waits for its second connection
pub half_lives : (e : Entry) → half_open e ≡ true → live e ≡ true
half_lives e h = and_l (live e) (eqb e.asynchronous no_connection) h

pub half_there : (w s : List ℕ) (n i : ℕ) → slot_of_number (locks_of w s).entries n ≡ i → i < session_limit → half_open (at (locks_of w s).entries (slot_of_number (locks_of w s).entries n)) ≡ true
    → field_of w i 2 ≡ no_connection
half_there w s n i e h l =
    let es : List Entry = (locks_of w s).entries in
    let x : Entry = at es (slot_of_number es n) in
    sym (asynchronous_at w s i h) ∙ ap (λ (j : ℕ). (at es j).asynchronous) (sym e) ∙ eqb-true x.asynchronous no_connection (and_r (live x) (eqb x.asynchronous no_connection) l)

either : (x y : Bool) → (x || y) ≡ true → (x ≡ true) ⊎ (y ≡ true)
either true y e = inl refl
either false y e = inr e

module _ (w s : List ℕ) (c : ℕ) (few : c < connection_limit) where
  abbrev es : List Entry
  es = (locks_of w s).entries

  slots : length es ≡ session_limit
  unfolding locks_of entries_of
  slots = length_tab (entry_at w (key_of w s)) 0 session_limit

  -- a slot that shows the connection has it
  lives_at : (i f : ℕ) → i < session_limit → (f ≡ 0 → ⊥) → field_of w i f ≡ c → (at es i).number ≡ 0 → ⊥
  lives_at i f h o e z = (shows w i c f o few e).lives (sym (number_at_lem w s i h) ∙ z)

  not_both : (i : ℕ) → field_of w i 2 ≡ c → field_of w i 1 ≡ c → ⊥
  not_both i e q =
      let x : home_in i 2 ≡ home_in i 1 = sym (shows w i c 2 (omega arith) few e).home ∙ (shows w i c 1 (omega arith) few q).home in
      omega arith

  has : (i f : ℕ) → i < session_limit → 0 < f → f < 3 → field_of w i f ≡ c → is_on_connection c (at es i) ≡ true
  has i zero h o l e = absurd (let z : ⊥ = omega arith in z)
  has i (suc zero) h o l e = on_synchronous c (at es i) (lives_at i 1 h (omega arith) e) (synchronous_at w s i h ∙ e)
  has i (suc (suc zero)) h o l e =
      on_asynchronous c (at es i) (lives_at i 2 h (omega arith) e) (λ q. not_both i e (sym (synchronous_at w s i h) ∙ q)) ∙ eq-eqb (at es i).asynchronous c (asynchronous_at w s i h ∙ e)
  has i (suc (suc (suc f))) h o l e = absurd (let z : ⊥ = omega arith in z)

  -- and back
  within : (j : ℕ) → is_on_connection c (at es j) ≡ true → j < session_limit
  within j e = omega (arith, inside (is_on_connection c) es j refl e, slots)

  shown_by : (j : ℕ) → is_on_connection c (at es j) ≡ true → (field_of w j 1 ≡ c) ⊎ (field_of w j 2 ≡ c)
  shown_by j e =
      let x : Entry = at es j in
      let h : j < session_limit = within j e in
      ⊎_elim
      (λ (q : eqb x.synchronous c ≡ true). inl (sym (synchronous_at w s j h) ∙ eqb-true x.synchronous c q))
      (λ (q : eqb x.asynchronous c ≡ true). inr (sym (asynchronous_at w s j h) ∙ eqb-true x.asynchronous c q))
      (either (eqb x.synchronous c) (eqb x.asynchronous c) (and_r (live x) (eqb x.synchronous c || eqb x.asynchronous c) e))

  home_of_lem : (j : ℕ) → is_on_connection c (at es j) ≡ true → (home_of w c ≡ home_in j 1) ⊎ (home_of w c ≡ home_in j 2)
  home_of_lem j e =
      ⊎_elim
      (λ (q : field_of w j 1 ≡ c). inl (shows w j c 1 (omega arith) few q).home)
      (λ (q : field_of w j 2 ≡ c). inr (shows w j c 2 (omega arith) few q).home)
      (shown_by j e)

  -- in any memory, no connection is in two sessions
  pub one_session : Sole (is_on_connection c) es
  one_session i j e q =
      let x = home_of_lem i e in
      let y = home_of_lem j q in
      ⊎_elim
      (λ (a : home_of w c ≡ home_in i 1). ⊎_elim (λ (b : home_of w c ≡ home_in j 1). let z : i ≡ j = omega arith in z) (λ (b : home_of w c ≡ home_in j 2). let z : i ≡ j = omega arith in z) y)
      (λ (a : home_of w c ≡ home_in i 2). ⊎_elim (λ (b : home_of w c ≡ home_in j 1). let z : i ≡ j = omega arith in z) (λ (b : home_of w c ≡ home_in j 2). let z : i ≡ j = omega arith in z) y)
      x

  -- the look: the home is confirmed, or nobody shows the connection
  pub place_found : (i f : ℕ) → i < session_limit → 0 < f → f < 3 → field_of w i f ≡ c → slot_in es c ≡ i
  place_found i f h o l e = sym (place_unique es c i one_session (has i f h o l e))

  pub place_none : Unshown w c → slot_in es c ≡ session_limit
  place_none lone =
      place_slot w s c
      ∙ pos_past (is_on_connection c) es (λ j e. ⊎_elim (λ (q : field_of w j 1 ≡ c). lone j 0 (within j e) (lit< tt) q) (λ (q : field_of w j 2 ≡ c). lone j 1 (within j e) (lit< tt) q) (shown_by j e))
      ∙ slots

  pub role_nowhere : Unshown w c → role_of es c ≡ r_none
  role_nowhere lone =
      role-is es c
      ∙ past_none w s c (slot_in es c) (omega (arith, place_none lone))

  pub role_found : (i : ℕ) (r : Role) → slot_in es c ≡ i → role_in c (at es i) ≡ r → role_of es c ≡ r
  role_found i r e q = role-is es c ∙ ap (λ (j : ℕ). role_in c (at es j)) e ∙ q

  -- both together
  pub nowhere_meant : Unshown w c → place_of es c ≡ seat session_limit r_none
  nowhere_meant lone = ap₂ seat (place_none lone) (role_nowhere lone)

  pub seat_found : (i f : ℕ) → i < session_limit → 0 < f → f < 3 → field_of w i f ≡ c → place_of es c ≡ seat i (role_in c (at es i))
  seat_found i f h o l e =
      let p : slot_in es c ≡ i = place_found i f h o l e in
      ap₂ seat p (role_found i (role_in c (at es i)) p refl)

  -- the role, by the place in the row
  pub role_second : (i : ℕ) → i < session_limit → field_of w i 2 ≡ c → role_in c (at es i) ≡ r_asynchronous
  role_second i h e =
      role_asynchronous c (at es i) (lives_at i 2 h (omega arith) e) (λ q. let z : c ≡ no_connection = sym (asynchronous_at w s i h ∙ e) ∙ q in omega arith)
      (λ q. not_both i e (sym (synchronous_at w s i h) ∙ q))

  module _ (i : ℕ) (h : i < session_limit) (e : field_of w i 1 ≡ c) where
    pub role_half : field_of w i 2 ≡ no_connection → role_in c (at es i) ≡ r_half_open
    role_half q = role_half_open c (at es i) (lives_at i 1 h (omega arith) e) (asynchronous_at w s i h ∙ q)

    pub role_first : (field_of w i 2 ≡ no_connection → ⊥) → role_in c (at es i) ≡ r_synchronous
    role_first q = role_synchronous c (at es i) (lives_at i 1 h (omega arith) e) (λ z. q (sym (asynchronous_at w s i h) ∙ z)) (synchronous_at w s i h ∙ e)

  -- where no session is found, nobody shows the connection
  pub nobody : slot_in es c ≡ session_limit → Unshown w c
  nobody e j f h l q = let z : j ≡ session_limit = sym (place_found j (suc f) h (omega arith) (omega arith) q) ∙ e in omega arith

-- a home that its slot does not confirm, and none
module _ (w : List ℕ) (c : ℕ) (few : c < connection_limit) where
  pub no_home : (home_of w c ≡ 0) ⊎ (session_limit * 2 < home_of w c) → Unshown w c
  no_home o j f h l e =
      let x : home_of w c ≡ home_in j (suc f) = (shows w j c (suc f) (omega arith) few e).home in
      ⊎_elim (λ (q : home_of w c ≡ 0). omega arith) (λ (q : session_limit * 2 < home_of w c). omega arith) o

  pub not_confirmed : (i f : ℕ) → 0 < f → f < 3 → home_of w c ≡ home_in i f → eqb (field_of w i f) c ≡ false → Unshown w c
  not_confirmed i f o l p q j g h m e =
      let x : home_in j (suc g) ≡ home_in i f = sym (shows w j c (suc g) (omega arith) few e).home ∙ p in
      let y : j ≡ i = omega arith in
      let z : suc g ≡ f = omega arith in
      eqb-false (field_of w i f) c q (ap (λ (t : ℕ). field_of w t f) (sym y) ∙ ap (field_of w j) (sym z) ∙ e)

-- Q-2's theorem: in any memory, of every connection. No two sessions have it; the session found is the one that has it; none is found exactly
-- where none has it.
pub record OneLook (w s : List ℕ) (c : ℕ) : Type 0 where
  pub in_one_session : (i j : ℕ) → is_on_connection c (at (locks_of w s).entries i) ≡ true → is_on_connection c (at (locks_of w s).entries j) ≡ true → i ≡ j
  pub finds_it : (i : ℕ) → is_on_connection c (at (locks_of w s).entries i) ≡ true → slot_in (locks_of w s).entries c ≡ i
  pub or_none : (role_of (locks_of w s).entries c ≡ r_none) ↔ ((j : ℕ) → is_on_connection c (at (locks_of w s).entries j) ≡ true → ⊥)

pub one_look : (w s : List ℕ) (c : ℕ) → c < connection_limit → OneLook w s c
one_look w s c few =
    record {
      in_one_session = one_session w s c few;
      finds_it = λ i e. sym (place_unique (locks_of w s).entries c i (one_session w s c few) e);
      or_none = (no_role (locks_of w s).entries c, λ n. none (λ j f h l e. n j (has w s c few j (suc f) h (omega arith) (omega arith) e)));
    }
  where
    none : Unshown w c → role_of (locks_of w s).entries c ≡ r_none
    none lone = role_nowhere w s c few lone
