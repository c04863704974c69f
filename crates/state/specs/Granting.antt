-- What granting and freeing a lock does to the words of the holders, and so to the table of sessions. Assumes nothing.
use Rattle.std.specs.Prelude.{◌≡◌, Bool, true, List, [], ◌∷◌, ℕ, ◌+◌, ◌*◌, ◌%◌, ◌^◌, ◌<◌, length, set}
use Rattle.std.proofs.Math.Path.{refl, ap₂}
use Rattle.std.proofs.Common.{sym, ap, ◌∙◌}
use Rattle.std.proofs.Math.Bool.{false, cond}
use native.Mathlib.Omega.{arith}
use Rattle.std.proofs.Math.Dec.{eqb}
use borrow.Author.Tests.{eq-eqb, ne_eqb}
use Rattle.model.specs.Sizes.{session_limit}
use Rattle.model.specs.State.{Entry}
use Rattle.model.specs.Locks.{give, without_exclusive, without_shared}
use Rattle.state.specs.Grid.{upd}
use Rattle.bits.specs.Bits.{bit}
use Rattle.state.specs.Bits.{without, with_bit, without_same, without_other, with_same, with_other, with_first}
use Rattle.state.specs.Layout.{CLOCK, HOLDER, SHARERS, KEY, ENTRIES, ENTRY, ORDERS, ORDER, WORDS}
use Rattle.state.specs.View.{memory, word, key_of, home_at, field_of, order_word, entry_from, entry_at, entries_of, waiting_of, locks_of, view}
use Rattle.state.specs.Confirmed.{field_same}
use Rattle.state.specs.Change.{on_entry, off, here, entry_same, key_off, waiting_off, rest_off, entries_change}

-- slot j with another exclusive holder, with another set of sharers
module _ (w key : List ℕ) (j : ℕ) (long : length w ≡ WORDS) where
  entry_holder : (v : ℕ) → entry_at (set w HOLDER v) key j ≡ entry_from (field_of w j) (order_word w j) (eqb v (j + 1)) (entry_at w key j).shared
  unfolding entry_at
  entry_holder v =
      let t : (f : ℕ) → f < ENTRY → field_of (set w HOLDER v) j f ≡ field_of w j f =
      field_same w (set w HOLDER v) j (λ g l. off w HOLDER v (ENTRIES + j * ENTRY + g) (omega arith)) (λ c l. off w HOLDER v (home_at c) (omega arith)) in
      entry_same _ (field_of w j) (order_word (set w HOLDER v) j) (order_word w j) _ _ _ _ t (λ f l. off w HOLDER v (ORDERS + j * ORDER + f) (omega arith))
      (ap (λ (x : ℕ). eqb x (j + 1)) (here w HOLDER v (omega arith)))
      (ap (λ (x : ℕ). cond (eqb (bit x j) 1) key []) (off w HOLDER v SHARERS (omega arith)))

  entry_sharers : (v : ℕ) → entry_at (set w SHARERS v) key j ≡ entry_from (field_of w j) (order_word w j) (entry_at w key j).exclusive (cond (eqb (bit v j) 1) key [])
  unfolding entry_at
  entry_sharers v =
      let t : (f : ℕ) → f < ENTRY → field_of (set w SHARERS v) j f ≡ field_of w j f =
      field_same w (set w SHARERS v) j (λ g l. off w SHARERS v (ENTRIES + j * ENTRY + g) (omega arith)) (λ c l. off w SHARERS v (home_at c) (omega arith))
      in
      entry_same _ (field_of w j) (order_word (set w SHARERS v) j) (order_word w j) _ _ _ _ t (λ f l. off w SHARERS v (ORDERS + j * ORDER + f) (omega arith))
      (ap (λ (x : ℕ). eqb x (j + 1)) (off w SHARERS v HOLDER (omega arith)))
      (ap (λ (x : ℕ). cond (eqb (bit x j) 1) key []) (here w SHARERS v (omega arith)))

  -- slot j as its words have it, with these locks
  entry_as : (x : Bool) (y : List ℕ) → (entry_at w key j).exclusive ≡ x → (entry_at w key j).shared ≡ y
      → entry_from (field_of w j) (order_word w j) x y ≡ entry_at w key j
  unfolding entry_at
  entry_as x y p q = ap₂ (entry_from (field_of w j) (order_word w j)) (sym p) (sym q)

exclusive_of : (w key : List ℕ) (j : ℕ) → (entry_at w key j).exclusive ≡ eqb (word w HOLDER) (j + 1)
unfolding entry_at
exclusive_of w key j = refl

shared_of : (w key : List ℕ) (j : ℕ) → (entry_at w key j).shared ≡ cond (eqb (bit (word w SHARERS) j) 1) key []
unfolding entry_at
shared_of w key j = refl

-- slot j with one lock given or taken away, from its words
module _ (w key : List ℕ) (j : ℕ) where
  as_given : entry_from (field_of w j) (order_word w j) true (entry_at w key j).shared ≡ give [] (entry_at w key j)
  unfolding entry_at
  as_given = refl

  as_dropped : entry_from (field_of w j) (order_word w j) false (entry_at w key j).shared ≡ without_exclusive (entry_at w key j)
  unfolding entry_at
  as_dropped = refl

  as_shared : (x : ℕ) (xs : List ℕ) → entry_from (field_of w j) (order_word w j) (entry_at w key j).exclusive (x ∷ xs) ≡ give (x ∷ xs) (entry_at w key j)
  unfolding entry_at
  as_shared x xs = refl

  as_unshared : entry_from (field_of w j) (order_word w j) (entry_at w key j).exclusive [] ≡ without_shared (entry_at w key j)
  unfolding entry_at
  as_unshared = refl

-- the words of the locks, with the table of sessions changed in slot i alone
module _ (w s : List ℕ) (i : ℕ) (h : i < session_limit) (long : length w ≡ WORDS) where
  by_entries : (a v : ℕ) (g : Entry → Entry) → CLOCK < a → a < KEY
      → entries_of (set w a v) (key_of w s) ≡ upd (entries_of w (key_of w s)) i g
      → view (memory (set w a v) s) ≡ on_entry (view (memory w s)) i g
  unfolding locks_of
  by_entries a v g p r e =
      λ k. record {
        locks = record {
          clock = off w a v CLOCK (omega arith) k % 2 ^ 63;
          entries = (ap (entries_of (set w a v)) (key_off w s a v (omega arith)) ∙ e) k;
          waiting = waiting_off w s a v (omega arith) (omega arith) k;
        };
        rest = rest_off w s s a v (omega arith) refl k;
      }

  -- another holder v: slot i holds or not as g says, and nobody else did or does
  holder_stored : (v : ℕ) (b : Bool) (g : Entry → Entry) → eqb v (i + 1) ≡ b
      → entry_from (field_of w i) (order_word w i) b (entry_at w (key_of w s) i).shared ≡ g (entry_at w (key_of w s) i)
      → ((j : ℕ) → j < session_limit → (j ≡ i → ⊥) → word w HOLDER ≡ j + 1 → ⊥)
      → ((j : ℕ) → j < session_limit → (j ≡ i → ⊥) → v ≡ j + 1 → ⊥)
      → view (memory (set w HOLDER v) s) ≡ on_entry (view (memory w s)) i g
  holder_stored v b g e f o o' =
      let key : List ℕ = key_of w s in
      by_entries HOLDER v g (omega arith) (omega arith)
      (entries_change w (set w HOLDER v) key key i g h
      (entry_holder w key i long v ∙ ap (λ (x : Bool). entry_from (field_of w i) (order_word w i) x (entry_at w key i).shared) e ∙ f)
      (λ j l n.
      entry_holder w key j long v
      ∙ ap (λ (x : Bool). entry_from (field_of w j) (order_word w j) x (entry_at w key j).shared) (ne_eqb v (j + 1) (o' j l n))
      ∙ entry_as w key j long false (entry_at w key j).shared (exclusive_of w key j ∙ ne_eqb (word w HOLDER) (j + 1) (o j l n)) refl))

  -- the exclusive lock is granted: nobody else has it
  pub exclusive_given : ((j : ℕ) → j < session_limit → (j ≡ i → ⊥) → word w HOLDER ≡ j + 1 → ⊥)
      → view (memory (set w HOLDER (i + 1)) s) ≡ on_entry (view (memory w s)) i (give [])
  exclusive_given o =
      holder_stored (i + 1) true (give []) (eq-eqb (i + 1) (i + 1) refl) (as_given w (key_of w s) i) o (λ j l n e. n (let z : j ≡ i = omega arith in z))

  -- it is freed by its holder
  pub exclusive_dropped : word w HOLDER ≡ i + 1 → view (memory (set w HOLDER 0) s) ≡ on_entry (view (memory w s)) i without_exclusive
  exclusive_dropped e =
      holder_stored 0 false without_exclusive (ne_eqb 0 (i + 1) (omega arith)) (as_dropped w (key_of w s) i) (λ j l n f. n (let z : j ≡ i = omega arith in z)) (λ j l n f. omega arith)

  -- a slot that does not hold it has nothing to free
  pub exclusive_stays : (word w HOLDER ≡ i + 1 → ⊥) → view (memory w s) ≡ on_entry (view (memory w s)) i without_exclusive
  unfolding locks_of
  exclusive_stays o =
      λ k. record {
        locks = record {
          clock = word w CLOCK % 2 ^ 63;
          entries = entries_change w w (key_of w s) (key_of w s) i without_exclusive h
              (sym (entry_as w (key_of w s) i long false (entry_at w (key_of w s) i).shared (exclusive_of w (key_of w s) i ∙ ne_eqb (word w HOLDER) (i + 1) o) refl) ∙ as_dropped w (key_of w s) i)
              (λ j l n. refl) k;
          waiting = waiting_of w s;
        };
        rest = (view (memory w s)).rest;
      }

  -- another set of sharers, which differs in i alone
  sharers_stored : (v : ℕ) (g : Entry → Entry)
      → entry_from (field_of w i) (order_word w i) (entry_at w (key_of w s) i).exclusive (cond (eqb (bit v i) 1) (key_of w s) []) ≡ g (entry_at w (key_of w s) i)
      → ((j : ℕ) → j < session_limit → (j ≡ i → ⊥) → bit v j ≡ bit (word w SHARERS) j)
      → view (memory (set w SHARERS v) s) ≡ on_entry (view (memory w s)) i g
  sharers_stored v g f o =
      let key : List ℕ = key_of w s in
      by_entries SHARERS v g (omega arith) (omega arith)
      (entries_change w (set w SHARERS v) key key i g h
      (entry_sharers w key i long v ∙ f)
      (λ j l n.
      entry_sharers w key j long v
      ∙ ap (λ (x : ℕ). entry_from (field_of w j) (order_word w j) (entry_at w key j).exclusive (cond (eqb x 1) key [])) (o j l n)
      ∙ entry_as w key j long (entry_at w key j).exclusive (cond (eqb (bit (word w SHARERS) j) 1) key []) refl (shared_of w key j)))

  -- the shared lock is freed, held or not
  pub shared_dropped : view (memory (set w SHARERS (without (word w SHARERS) i)) s) ≡ on_entry (view (memory w s)) i without_shared
  shared_dropped =
      sharers_stored (without (word w SHARERS) i) without_shared
      (ap (λ (x : Bool). entry_from (field_of w i) (order_word w i) (entry_at w (key_of w s) i).exclusive (cond x (key_of w s) []))
      (ne_eqb (bit (without (word w SHARERS) i) i) 1 (let z : bit (without (word w SHARERS) i) i ≡ 0 = without_same (word w SHARERS) i in omega arith))
      ∙ as_unshared w (key_of w s) i)
      (λ j l n. without_other (word w SHARERS) i j n)

  -- slot i joins those that share, with their string, which is never empty
  as_joined : (k : List ℕ) → 0 < length k
      → entry_from (field_of w i) (order_word w i) (entry_at w (key_of w s) i).exclusive k ≡ give k (entry_at w (key_of w s) i)
  as_joined [] p = absurd (omega arith)
  as_joined (x ∷ k) p = as_shared w (key_of w s) i x k

  some_key : 0 < length (key_of w s)
  unfolding key_of
  some_key = omega arith

  pub sharer_joined : view (memory (set w SHARERS (with_bit session_limit (word w SHARERS) i)) s) ≡ on_entry (view (memory w s)) i (give (key_of w s))
  sharer_joined =
      sharers_stored (with_bit session_limit (word w SHARERS) i) (give (key_of w s))
      (ap (λ (x : Bool). entry_from (field_of w i) (order_word w i) (entry_at w (key_of w s) i).exclusive (cond x (key_of w s) []))
      (eq-eqb (bit (with_bit session_limit (word w SHARERS) i) i) 1 (with_same session_limit (word w SHARERS) i h))
      ∙ as_joined (key_of w s) some_key)
      (λ j l n. with_other session_limit (word w SHARERS) i h j l n)

  -- the first of them
  pub first_joined : word w SHARERS % 2 ^ session_limit ≡ 0 → view (memory (set w SHARERS (2 ^ i)) s) ≡ on_entry (view (memory w s)) i (give (key_of w s))
  first_joined e = ap (λ (v : ℕ). view (memory (set w SHARERS v) s)) (sym (with_first session_limit (word w SHARERS) i h e)) ∙ sharer_joined
