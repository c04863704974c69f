-- The number of the next session: what the code reads, and its turns, each a try of the model's. Assumes nothing.
use Rattle.std.specs.Prelude.{◌≡◌, Bool, not, List, eqb, length}
use Rattle.std.proofs.Common.{sym, ◌∙◌, ne_eqb, eqb-true}
use Rattle.std.proofs.Math.Path.{ap}
use Rattle.std.proofs.Math.Bool.{true, false}
use Prim.Native.Nat.{ℕ, suc, ◌+◌, ◌-◌, ◌%◌, ◌≤◌, ◌<◌}
use native.Mathlib.Omega.{arith}
use Rattle.std.proofs.Math.ListN.{get_or-eq_default}
use Rattle.model.specs.Sizes.{session_limit}
use Rattle.model.specs.Lists.{position}
use Rattle.model.specs.State.{Entry, Rest, at, blank, live, slot_of_number}
use Rattle.model.specs.Locks.{candidate, IsLive, issued}
use Rattle.state.specs.Change.{single_with}
use Rattle.state.specs.View.{locks_of}
use Rattle.state.specs.Change.{sessions_held}
use Rattle.sessions.specs.Closing.{found_passes}

-- the single values that are read
pub last_read : (q : Rest) (r : ℕ) → single_with 3 r q ≡ q → q.last_issued ≡ r % 65536
last_read q r e = sym (ap (λ (x : Rest). x.last_issued) e)

pub vendor_read : (q : Rest) (r : ℕ) → single_with 0 r q ≡ q → q.made.vendor ≡ r % 65536
vendor_read q r e = sym (ap (λ (x : Rest). x.made.vendor) e)

-- a number is a live session's if the search finds it
module _ (w s : List ℕ) (n i : ℕ) (found : slot_of_number (locks_of w s).entries n ≡ i) where
  pub live_found : (n ≡ 0 → ⊥) → i < session_limit → IsLive (locks_of w s).entries n ≡ true
  live_found o h =
      let es : List Entry = (locks_of w s).entries in
      let p : Entry → Bool = (λ (e : Entry). eqb e.number n) in
      let l : position p es < length es = rw (found, sessions_held w s) h in
      let e : (at es (slot_of_number es n)).number ≡ n = eqb-true (at es (slot_of_number es n)).number n (found_passes p es blank l) in
      ap not (ne_eqb (at es (slot_of_number es n)).number 0 (λ q. o (sym e ∙ q)))

  pub live_missed : session_limit ≤ i → IsLive (locks_of w s).entries n ≡ false
  live_missed h =
      let es : List Entry = (locks_of w s).entries in
      let l : length es ≤ i = rw (sessions_held w s) h in
      ap (λ (j : ℕ). live (at es j)) found ∙ ap live (get_or-eq_default es blank l)

-- the number that the tries from the k-th on give
unfoldable pub tries_from : ℕ → List Entry → ℕ → ℕ
tries_from k es last = issued (session_limit - k) k es last

-- the k-th number that is tried
abbrev pub tried : ℕ → ℕ → ℕ
tried last k = (last + k) % 65535 + 1

pub tries_start : (es : List Entry) (a b : ℕ) → a ≡ b → issued session_limit 0 es a ≡ tries_from 0 es b
unfolding tries_from
tries_start es a b e = ap (λ (x : ℕ). issued session_limit 0 es x) e

module _ (es : List Entry) (last k : ℕ) where
  tried_is : candidate last k ≡ tried last k
  tried_is = omega arith

  try : (tries : ℕ) (b : Bool) → IsLive es (tried last k) ≡ b → issued (suc tries) k es last ≡ elim b [ true ↦ issued tries (suc k) es last | false ↦ candidate last k ]
  try tries b e =
      ap (λ (x : Bool). elim x [ true ↦ issued tries (suc k) es last | false ↦ candidate last k ]) (ap (IsLive es) tried_is ∙ e)

  pub tries_go_on : k < session_limit → IsLive es (tried last k) ≡ true → tries_from k es last ≡ tries_from (k + 1) es last
  unfolding tries_from
  tries_go_on h e =
      let n : session_limit - k ≡ suc (session_limit - (k + 1)) = omega arith in
      let m : suc k ≡ k + 1 = omega arith in
      ap (λ (x : ℕ). issued x k es last) n ∙ try (session_limit - (k + 1)) true e ∙ ap (λ (x : ℕ). issued (session_limit - (k + 1)) x es last) m

  pub tries_hit : k < session_limit → IsLive es (tried last k) ≡ false → tries_from k es last ≡ tried last k
  unfolding tries_from
  tries_hit h e =
      let n : session_limit - k ≡ suc (session_limit - (k + 1)) = omega arith in
      ap (λ (x : ℕ). issued x k es last) n ∙ try (session_limit - (k + 1)) false e ∙ tried_is

  pub tries_end : session_limit ≤ k → tries_from k es last ≡ tried last k
  unfolding tries_from
  tries_end h =
      let n : session_limit - k ≡ 0 = omega arith in
      ap (λ (x : ℕ). issued x k es last) n ∙ tried_is
