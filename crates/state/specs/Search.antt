-- Searching the table of sessions for a number; and a session's connections and roles, test by test. Assumes nothing.
use Rattle.std.specs.Prelude.{◌≡◌, Bool, true, false, List, ℕ, suc, ◌+◌, ◌-◌, ◌%◌, ◌≤◌, ◌<◌, eqb, length}
use Rattle.std.proofs.Math.Path.{refl, sym}
use Rattle.std.proofs.Common.{ap, ◌∙◌, zero-add, arith, eq-eqb, ne_eqb}
use Rattle.std.proofs.Math.ListN.{get_or-eq_default}
use Rattle.model.specs.Sizes.{session_limit, no_connection}
use Rattle.model.specs.Lists.{position}
use Rattle.model.specs.State.{Entry, at, blank}
use Rattle.model.specs.Place.{Place, Role, Role.r_none, Role.r_half_open, Role.r_synchronous, Role.r_asynchronous, role_in, is_on_connection, place_of}
use Rattle.state.specs.declared.search.Place.{Place as Found}
use Rattle.state.specs.declared.search.Place.TheVariants.{Nowhere, HalfOpen, OnSynchronous, OnAsynchronous}
use Rattle.state.specs.Table.{tab, length_tab}
use Rattle.state.specs.View.{key_of, entry_at, entries_of, locks_of}
use Rattle.state.specs.Change.{entry_with, entry_at_lem}

-- a slot and a role
abbrev pub seat : ℕ → Role → Place
seat i r = record { slot = i; role = r }

-- what a place means: without a session the slot is one past the table
abbrev pub place_meant : Found → Place
place_meant Nowhere = seat session_limit r_none
place_meant (HalfOpen i) = seat i r_half_open
place_meant (OnSynchronous i) = seat i r_synchronous
place_meant (OnAsynchronous i) = seat i r_asynchronous

-- a place in a session is one in the table
abbrev pub IsWithin : Found → Type 0
IsWithin Nowhere = Unit {0}
IsWithin (HalfOpen i) = i < session_limit
IsWithin (OnSynchronous i) = i < session_limit
IsWithin (OnAsynchronous i) = i < session_limit

-- a search from row a on, over n rows: found at a, further on, nowhere
module _ {A : Type 0} (p : A → Bool) (f : ℕ → A) where
  pub found : (a n : ℕ) → p (f a) ≡ true → position p (tab f a (suc n)) ≡ 0
  unfolding tab
  found a n e = rw e

  pub further : (a n : ℕ) → p (f a) ≡ false → position p (tab f a (suc n)) ≡ suc (position p (tab f (suc a) n))
  unfolding tab
  further a n e = rw e

  pub nowhere : (a : ℕ) → position p (tab f a 0) ≡ 0
  unfolding tab
  nowhere a = refl

-- the same in the turns of a loop: from slot i on, of the table in the memory
module _ (w s : List ℕ) (p : Entry → Bool) where
  abbrev pub from : ℕ → ℕ
  from i = position p (tab (entry_at w (key_of w s)) i (session_limit - i))

  pub search_starts : position p (locks_of w s).entries ≡ 0 + from 0
  unfolding locks_of entries_of
  search_starts = sym (zero-add (position p (tab (entry_at w (key_of w s)) 0 session_limit)))

  pub search_hits : (i : ℕ) → i < session_limit → p (at (locks_of w s).entries i) ≡ true → i + from i ≡ i
  search_hits i h q =
      let e : p (entry_at w (key_of w s) i) ≡ true = ap p (sym (entry_at_lem w i s h)) ∙ q in
      let n : session_limit - i ≡ suc (session_limit - (i + 1)) = omega arith in
      let z : from i ≡ 0 = ap (λ (m : ℕ). position p (tab (entry_at w (key_of w s)) i m)) n ∙ found p (entry_at w (key_of w s)) i (session_limit - (i + 1)) e in
      omega arith

  pub search_goes_on : (i : ℕ) → i < session_limit → p (at (locks_of w s).entries i) ≡ false → i + from i ≡ i + 1 + from (i + 1)
  search_goes_on i h q =
      let e : p (entry_at w (key_of w s) i) ≡ false = ap p (sym (entry_at_lem w i s h)) ∙ q in
      let n : session_limit - i ≡ suc (session_limit - (i + 1)) = omega arith in
      let m : suc i ≡ i + 1 = omega arith in
      let z : from i ≡ suc (from (i + 1)) = ap (λ (m : ℕ). position p (tab (entry_at w (key_of w s)) i m)) n
      ∙ further p (entry_at w (key_of w s)) i (session_limit - (i + 1)) e
      ∙ ap (λ (k : ℕ). suc (position p (tab (entry_at w (key_of w s)) k (session_limit - (i + 1))))) m in
      omega arith

  pub search_ends : (i : ℕ) → session_limit ≤ i → i ≤ session_limit → i + from i ≡ i
  search_ends i h l =
      let n : session_limit - i ≡ 0 = omega arith in
      let z : from i ≡ 0 = ap (λ (m : ℕ). position p (tab (entry_at w (key_of w s)) i m)) n ∙ nowhere p (entry_at w (key_of w s)) i in
      omega arith

-- the slot of a connection is where the search ends
pub place_slot : (w s : List ℕ) (c : ℕ) → (place_of (locks_of w s).entries c).slot ≡ position (is_on_connection c) (locks_of w s).entries
unfolding place_of
place_slot w s c = refl

-- what the words that were read of a slot say of it
module _ (e : Entry) (r : ℕ) where
  pub number_read : entry_with 0 r e ≡ e → e.number ≡ r
  number_read q = sym (ap (λ (x : Entry). x.number) q)

  pub synchronous_read : entry_with 1 r e ≡ e → e.synchronous ≡ r % 256
  synchronous_read q = sym (ap (λ (x : Entry). x.synchronous) q)

  pub asynchronous_read : entry_with 2 r e ≡ e → e.asynchronous ≡ r % 256
  asynchronous_read q = sym (ap (λ (x : Entry). x.asynchronous) q)

-- a live slot has the synchronous connection, or the asynchronous one; and the role of each
module _ (c : ℕ) (e : Entry) where
  pub on_synchronous : (e.number ≡ 0 → ⊥) → e.synchronous ≡ c → is_on_connection c e ≡ true
  on_synchronous p q = rw (ne_eqb e.number 0 p, eq-eqb e.synchronous c q)

  pub on_asynchronous : (e.number ≡ 0 → ⊥) → (e.synchronous ≡ c → ⊥) → is_on_connection c e ≡ eqb e.asynchronous c
  on_asynchronous p q = rw (ne_eqb e.number 0 p, ne_eqb e.synchronous c q)

  pub role_half_open : (e.number ≡ 0 → ⊥) → e.asynchronous ≡ no_connection → role_in c e ≡ r_half_open
  role_half_open p q = rw (ne_eqb e.number 0 p, eq-eqb e.asynchronous no_connection q)

  pub role_synchronous : (e.number ≡ 0 → ⊥) → (e.asynchronous ≡ no_connection → ⊥) → e.synchronous ≡ c → role_in c e ≡ r_synchronous
  role_synchronous p q r = rw (ne_eqb e.number 0 p, ne_eqb e.asynchronous no_connection q, eq-eqb e.synchronous c r)

  pub role_asynchronous : (e.number ≡ 0 → ⊥) → (e.asynchronous ≡ no_connection → ⊥) → (e.synchronous ≡ c → ⊥) → role_in c e ≡ r_asynchronous
  role_asynchronous p q r = rw (ne_eqb e.number 0 p, ne_eqb e.asynchronous no_connection q, ne_eqb e.synchronous c r)

-- past the table there is no session
pub past_none : (w s : List ℕ) (c i : ℕ) → session_limit ≤ i → role_in c (at (locks_of w s).entries i) ≡ r_none
unfolding locks_of entries_of
past_none w s c i h =
    let l : length (tab (entry_at w (key_of w s)) 0 session_limit) ≤ i = rw (length_tab (entry_at w (key_of w s)) 0 session_limit) h in
    ap (λ (e : Entry). role_in c e) (get_or-eq_default (tab (entry_at w (key_of w s)) 0 session_limit) blank l)
