-- Who holds which lock, read off two words in one look: the exclusive holder, and the set of those that share. Assumes nothing.
use Rattle.std.specs.Prelude.{◌≡◌, Bool, not, ◌||◌, List, [], ℕ, ◌+◌, ◌-◌, ◌%◌, ◌^◌, ◌≤◌, ◌<◌, eqb, ltb}
use Rattle.std.proofs.Math.Path.{refl, sym, ap}
use Rattle.std.proofs.Common.{◌∙◌, true≢false, zero-add, arith, eq-eqb, ne_eqb, eqb-true, ltb-true, ltb-false}
use Rattle.std.proofs.Math.Bool.{true, false, cond}
use Rattle.std.proofs.lemmas.Bool.{eqb-false}
use Rattle.model.specs.Sizes.{session_limit}
use Rattle.model.specs.Lists.{is_nil, same, all, all_but}
use Rattle.model.specs.State.{Entry, at}
use Rattle.model.specs.Locks.{no_exclusive, no_shared, fits}
use Rattle.state.specs.Table.{tab, all_tab, not_all_tab, all_but_tab, not_all_but_tab}
use Rattle.bits.specs.Bits.{bit}
use Rattle.state.specs.Bits.{empty_bits, member}
use Rattle.state.specs.Layout.{HOLDER, SHARERS}
use Rattle.state.specs.View.{word, key_of, entry_at, entries_of, locks_of}
use Rattle.state.specs.Change.{entry_at_lem}

module _ (w s : List ℕ) where
  key_first : List ℕ
  key_first = key_of w s

  -- the shared string is never empty
  nil_shared : (b : Bool) → is_nil (cond b (key_of w s) []) ≡ not b
  unfolding key_of
  nil_shared true = refl
  nil_shared false = refl

  exclusive_at : (j : ℕ) → (entry_at w (key_of w s) j).exclusive ≡ eqb (word w HOLDER) (j + 1)
  unfolding entry_at
  exclusive_at j = refl

  shared_at : (j : ℕ) → no_shared (entry_at w (key_of w s) j) ≡ not (eqb (bit (word w SHARERS) j) 1)
  unfolding entry_at
  shared_at j = nil_shared (eqb (bit (word w SHARERS) j) 1)

  -- one slot
  pub holds_exclusive : (i : ℕ) → i < session_limit → (at (locks_of w s).entries i).exclusive ≡ eqb (word w HOLDER) (i + 1)
  holds_exclusive i h = ap (λ (e : Entry). e.exclusive) (entry_at_lem w i s h) ∙ exclusive_at i

  pub holds_shared : (i : ℕ) → i < session_limit → no_shared (at (locks_of w s).entries i) ≡ not (eqb (bit (word w SHARERS) i) 1)
  holds_shared i h = ap no_shared (entry_at_lem w i s h) ∙ shared_at i

  -- nobody holds exclusive, or somebody does; and the same of all slots but one
  free_of : (j : ℕ) → (word w HOLDER ≡ j + 1 → ⊥) → no_exclusive (entry_at w (key_of w s) j) ≡ true
  free_of j o = ap not (exclusive_at j ∙ ne_eqb (word w HOLDER) (j + 1) o)

  held_by : (j : ℕ) → word w HOLDER ≡ j + 1 → no_exclusive (entry_at w (key_of w s) j) ≡ false
  held_by j e = ap not (exclusive_at j ∙ eq-eqb (word w HOLDER) (j + 1) e)

  pub nobody_exclusive : ((j : ℕ) → j < session_limit → word w HOLDER ≡ j + 1 → ⊥) → all no_exclusive (locks_of w s).entries ≡ true
  unfolding locks_of entries_of
  nobody_exclusive o = all_tab no_exclusive (entry_at w (key_of w s)) 0 session_limit (λ j p q. free_of j (o j (omega arith)))

  pub somebody_exclusive : (j : ℕ) → j < session_limit → word w HOLDER ≡ j + 1 → all no_exclusive (locks_of w s).entries ≡ false
  unfolding locks_of entries_of
  somebody_exclusive j h e =
      not_all_tab no_exclusive (entry_at w (key_of w s)) 0 session_limit j h (ap (λ (x : ℕ). no_exclusive (entry_at w (key_of w s) x)) (zero-add j) ∙ held_by j e)

  pub no_other_exclusive : (i : ℕ) → ((j : ℕ) → j < session_limit → (j ≡ i → ⊥) → word w HOLDER ≡ j + 1 → ⊥) → all_but no_exclusive i (locks_of w s).entries ≡ true
  unfolding locks_of entries_of
  no_other_exclusive i o =
      all_but_tab no_exclusive (entry_at w (key_of w s)) 0 session_limit i (λ j p q n. free_of j (o j (omega arith) (λ e. n (e ∙ sym (zero-add i)))))

  pub other_exclusive : (i j : ℕ) → j < session_limit → (j ≡ i → ⊥) → word w HOLDER ≡ j + 1 → all_but no_exclusive i (locks_of w s).entries ≡ false
  unfolding locks_of entries_of
  other_exclusive i j h n e =
      not_all_but_tab no_exclusive (entry_at w (key_of w s)) 0 session_limit i j h n
      (ap (λ (x : ℕ). no_exclusive (entry_at w (key_of w s) x)) (zero-add j) ∙ held_by j e)

  -- nobody shares, or somebody does
  unshared_of : (j : ℕ) → bit (word w SHARERS) j ≡ 0 → no_shared (entry_at w (key_of w s) j) ≡ true
  unshared_of j e = shared_at j ∙ ap not (ne_eqb (bit (word w SHARERS) j) 1 (omega arith))

  shared_of : (j : ℕ) → bit (word w SHARERS) j ≡ 1 → no_shared (entry_at w (key_of w s) j) ≡ false
  shared_of j e = shared_at j ∙ ap not (eq-eqb (bit (word w SHARERS) j) 1 e)

  pub nobody_shares : word w SHARERS % 2 ^ session_limit ≡ 0 → all no_shared (locks_of w s).entries ≡ true
  unfolding locks_of entries_of
  nobody_shares e =
      all_tab no_shared (entry_at w (key_of w s)) 0 session_limit (λ j p q. unshared_of j (empty_bits (word w SHARERS) session_limit j e (omega arith)))

  pub somebody_shares : (word w SHARERS % 2 ^ session_limit ≡ 0 → ⊥) → all no_shared (locks_of w s).entries ≡ false
  unfolding locks_of entries_of
  somebody_shares o =
      let m = member (word w SHARERS) session_limit o in
      not_all_tab no_shared (entry_at w (key_of w s)) 0 session_limit m.place m.below
      (ap (λ (x : ℕ). no_shared (entry_at w (key_of w s) x)) (zero-add m.place) ∙ shared_of m.place m.is_set_lem)

  -- a string fits the shared locks: nobody shares, or it is their string
  fits_of : (k : List ℕ) (b : Bool) (x : List ℕ) → (is_nil (cond b x []) || same (cond b x []) k) ≡ cond b (is_nil x || same x k) true
  fits_of k true x = refl
  fits_of k false x = refl

  fits_at : (k : List ℕ) (j : ℕ) → fits k (entry_at w (key_of w s) j) ≡ cond (eqb (bit (word w SHARERS) j) 1) (same (key_of w s) k) true
  unfolding entry_at key_of
  fits_at k j = fits_of k (eqb (bit (word w SHARERS) j) 1) (key_of w s)

  pub fits_none : (k : List ℕ) → word w SHARERS % 2 ^ session_limit ≡ 0 → all (fits k) (locks_of w s).entries ≡ true
  unfolding locks_of entries_of
  fits_none k e =
      all_tab (fits k) (entry_at w (key_of w s)) 0 session_limit
      (λ j p q.
      let z : bit (word w SHARERS) j ≡ 0 = empty_bits (word w SHARERS) session_limit j e (omega arith) in
      fits_at k j ∙ ap (λ (b : Bool). cond b (same (key_of w s) k) true) (ne_eqb (bit (word w SHARERS) j) 1 (omega arith)))

  fits_same : (k : List ℕ) (b : Bool) → cond b true true ≡ true
  fits_same k true = refl
  fits_same k false = refl

  pub fits_some : (k : List ℕ) → (word w SHARERS % 2 ^ session_limit ≡ 0 → ⊥) → all (fits k) (locks_of w s).entries ≡ same (key_of w s) k
  unfolding locks_of entries_of
  fits_some k o = by (same (key_of w s) k) refl
    where
      by : (b : Bool) → same (key_of w s) k ≡ b → all (fits k) (tab (entry_at w (key_of w s)) 0 session_limit) ≡ b
      by true e =
          all_tab (fits k) (entry_at w (key_of w s)) 0 session_limit
          (λ j p q. fits_at k j ∙ ap (λ (x : Bool). cond (eqb (bit (word w SHARERS) j) 1) x true) e ∙ fits_same k (eqb (bit (word w SHARERS) j) 1))
      by false e =
          let m = member (word w SHARERS) session_limit o in
          not_all_tab (fits k) (entry_at w (key_of w s)) 0 session_limit m.place m.below
          (ap (λ (x : ℕ). fits k (entry_at w (key_of w s) x)) (zero-add m.place)
          ∙ fits_at k m.place
          ∙ ap (λ (x : Bool). cond x (same (key_of w s) k) true) (eq-eqb (bit (word w SHARERS) m.place) 1 m.is_set_lem)
          ∙ e)

-- nobody else than slot i holds exclusive, by the word of the holder
abbrev pub NoOther : List ℕ → ℕ → Type 0
NoOther w i = (j : ℕ) → j < session_limit → (j ≡ i → ⊥) → word w HOLDER ≡ j + 1 → ⊥

module _ (w s : List ℕ) where
  -- a holder's word that is not 0 names a slot, or stands past the slots
  pub holder_test : (word w HOLDER ≡ 0 → ⊥) → all no_exclusive (locks_of w s).entries ≡ ltb session_limit (word w HOLDER)
  holder_test o = by (ltb session_limit (word w HOLDER)) refl
    where
      by : (b : Bool) → ltb session_limit (word w HOLDER) ≡ b → all no_exclusive (locks_of w s).entries ≡ b
      by true e = let l : session_limit < word w HOLDER = ltb-true session_limit (word w HOLDER) e in nobody_exclusive w s (λ j h q. omega arith)
      by false e =
          let l : word w HOLDER ≤ session_limit = ltb-false session_limit (word w HOLDER) e in
          somebody_exclusive w s (word w HOLDER - 1) (omega arith) (omega arith)

  -- and of all slots but i, where i is not the holder
  pub other_test : (i : ℕ) → (word w HOLDER ≡ i + 1 → ⊥) → (word w HOLDER ≡ 0 → ⊥) → all_but no_exclusive i (locks_of w s).entries ≡ ltb session_limit (word w HOLDER)
  other_test i n o = by (ltb session_limit (word w HOLDER)) refl
    where
      by : (b : Bool) → ltb session_limit (word w HOLDER) ≡ b → all_but no_exclusive i (locks_of w s).entries ≡ b
      by true e = let l : session_limit < word w HOLDER = ltb-true session_limit (word w HOLDER) e in no_other_exclusive w s i (λ j h m q. omega arith)
      by false e =
          let l : word w HOLDER ≤ session_limit = ltb-false session_limit (word w HOLDER) e in
          other_exclusive w s i (word w HOLDER - 1) (omega arith) (λ q. n (let z : word w HOLDER ≡ i + 1 = omega arith in z)) (omega arith)

  pub no_other : (i : ℕ) → all_but no_exclusive i (locks_of w s).entries ≡ true → NoOther w i
  no_other i e j h n q = let z : true ≡ false = sym e ∙ other_exclusive w s i j h n q in true≢false z

  -- the tests of the code: the sharers' word within the slots is 0
  pub sharers_test : all no_shared (locks_of w s).entries ≡ eqb (word w SHARERS % 2 ^ session_limit) 0
  sharers_test = by (eqb (word w SHARERS % 2 ^ session_limit) 0) refl
    where
      by : (b : Bool) → eqb (word w SHARERS % 2 ^ session_limit) 0 ≡ b → all no_shared (locks_of w s).entries ≡ b
      by true e = nobody_shares w s (eqb-true (word w SHARERS % 2 ^ session_limit) 0 e)
      by false e = somebody_shares w s (eqb-false (word w SHARERS % 2 ^ session_limit) 0 e)
