-- A lock request by the tests of the code. Assumes nothing.
use Rattle.std.specs.Prelude.{◌≡◌, Bool, not, ◌&&◌, ◌||◌, List, [], ◌∷◌, ◌++◌, ℕ, ◌+◌, ◌<◌, ◌≤◌, eqb, leb, ltb, length, get_or, drop}
use Rattle.std.proofs.Math.Path.{refl, ap}
use Rattle.std.proofs.Common.{sym, ◌∙◌, true≢false, arith, drop_of_length-le}
use Rattle.std.proofs.Math.Bool.{true, false}
use borrow.Author.Tests.{lt-ltb, le-ltb, eq-eqb, ne_eqb, ltb-false, leb-false}
use Rattle.model.specs.Sizes.{session_limit, string_limit}
use Rattle.model.specs.Lists.{all}
use Rattle.model.specs.State.{Entry, Waiting, Locks, Server, at, blank}
use Rattle.model.specs.Locks.{LockResult, LockEvent.request, no_shared, may_grant, give_at, holds, tell, with_entries, with_waiting, unanswered, elsewhere, no_place}
use Rattle.model.specs.Locks.{invalid_by, stands, Ruling, Ruling.invalid, ruling, respond, change}
use Rattle.state.specs.Grid.{upd, upd_set}
use Rattle.queue.specs.Queue.{no_request, on_waiting, count_is}
use Rattle.queue.specs.Requests.{count_of}
use Rattle.state.specs.Tidy.{Tidy}
use Rattle.state.specs.View.{Memory, locks_of, view}
use Rattle.holding.specs.Outcome.{Met, ends, ends_nil, met, told}
use Rattle.holding.specs.Waiting.{next}

-- answered 3: that kind is held, a request waits, the string is too long, or a release stands
unfoldable pub unable : Locks → ℕ → List ℕ → Bool
unable l i k = invalid_by k (at l.entries i) || (holds k (at l.entries i) || not (all (elsewhere i) l.waiting))

-- what becomes of a request that is not
unfoldable pub decided : Locks → ℕ → ℕ → List ℕ → LockResult
decided l i t k = respond (ruling false true false (may_grant l.entries i k) (eqb t 0 || no_place l.waiting)) l i t k

module _ (l : Locks) (i : ℕ) (k : List ℕ) where
  -- the tests of the code, in its order
  pub unable_long : string_limit < length k → unable l i k ≡ true
  unfolding unable
  unable_long h = rw (lt-ltb string_limit (length k) h)

  pub unable_stands : length k ≤ string_limit → stands (at l.entries i).standing ≡ true → unable l i k ≡ true
  unfolding unable
  unable_stands h t = rw (le-ltb string_limit (length k) h, t)

  pub unable_holds : length k ≤ string_limit → stands (at l.entries i).standing ≡ false → holds k (at l.entries i) ≡ true → unable l i k ≡ true
  unfolding unable
  unable_holds h t e = rw (le-ltb string_limit (length k) h, t, e)

  pub unable_waits : (b : Bool) → length k ≤ string_limit → stands (at l.entries i).standing ≡ false → holds k (at l.entries i) ≡ false → all (elsewhere i) l.waiting ≡ b
      → unable l i k ≡ not b
  unfolding unable
  unable_waits b h t e o = rw (le-ltb string_limit (length k) h, t, e, o)

  -- what they say together
  short_of : (s h a : Bool) → (s || (h || not a)) ≡ false → s ≡ false
  short_of true h a e = e
  short_of false h a e = refl

  free_of : (s h a : Bool) → (s || (h || not a)) ≡ false → h ≡ false
  free_of true true a e = e
  free_of true false a e = refl
  free_of false true a e = e
  free_of false false a e = refl

  idle_of : (s h a : Bool) → (s || (h || not a)) ≡ false → a ≡ true
  idle_of s h true e = refl
  idle_of true h false e = sym e
  idle_of false true false e = sym e
  idle_of false false false e = sym e

  pub able_short : unable l i k ≡ false → length k ≤ string_limit
  unfolding unable
  able_short e = ltb-false string_limit (length k) (or_first (ltb string_limit (length k)) (stands (at l.entries i).standing)
      (short_of (invalid_by k (at l.entries i)) (holds k (at l.entries i)) (all (elsewhere i) l.waiting) e))
    where
      or_first : (p q : Bool) → (p || q) ≡ false → p ≡ false
      or_first true q e = e
      or_first false q e = refl

  pub able_idle : unable l i k ≡ false → all (elsewhere i) l.waiting ≡ true
  unfolding unable
  able_idle e = idle_of (invalid_by k (at l.entries i)) (holds k (at l.entries i)) (all (elsewhere i) l.waiting) e

  ruled_out : (s h a m z : Bool) → (s || (h || not a)) ≡ true → ruling h a s m z ≡ invalid
  ruled_out s true a m z e = refl
  ruled_out s false false m z e = refl
  ruled_out true false true m z e = refl
  ruled_out false false true m z e = absurd (true≢false (sym e))

  ruled : (s h a m z : Bool) → (s || (h || not a)) ≡ false → ruling h a s m z ≡ ruling false true false m z
  ruled s h a m z e =
      ap (λ (x : Bool). ruling x a s m z) (free_of s h a e)
      ∙ ap (λ (x : Bool). ruling false x s m z) (idle_of s h a e)
      ∙ ap (λ (x : Bool). ruling false true x m z) (short_of s h a e)

  module _ (t : ℕ) where
    pub request_invalid : unable l i k ≡ true → change l (request i t k) ≡ told l (tell l.entries i 3 true)
    unfolding change unable
    request_invalid e =
        ap (λ (r : Ruling). respond r l i t k)
        (ruled_out (invalid_by k (at l.entries i)) (holds k (at l.entries i)) (all (elsewhere i) l.waiting) (may_grant l.entries i k) (eqb t 0 || no_place l.waiting) e)

    pub request_decided : unable l i k ≡ false → change l (request i t k) ≡ decided l i t k
    unfolding change unable decided
    request_decided e =
        ap (λ (r : Ruling). respond r l i t k)
        (ruled (invalid_by k (at l.entries i)) (holds k (at l.entries i)) (all (elsewhere i) l.waiting) (may_grant l.entries i k) (eqb t 0 || no_place l.waiting) e)

    pub decided_granted : may_grant l.entries i k ≡ true → decided l i t k ≡ told (with_entries l (upd l.entries i (give_at l.clock k))) (tell l.entries i 1 true)
    unfolding decided
    decided_granted e = rw (e, upd_set l.entries i blank (give_at l.clock k))

    pub decided_denied : may_grant l.entries i k ≡ false → (eqb t 0 || no_place l.waiting) ≡ true → decided l i t k ≡ told l (tell l.entries i 0 true)
    unfolding decided
    decided_denied e o = rw (e, o)

    pub decided_queued : may_grant l.entries i k ≡ false → (eqb t 0 || no_place l.waiting) ≡ false
        → decided l i t k ≡ unanswered (with_waiting l (l.waiting ++ record { slot = i; deadline = l.clock + t; string = k } ∷ []))
    unfolding decided
    decided_queued e o = rw (e, o)

-- the kind that a string asks for, by its length
pub holds_none : (k : List ℕ) (e : Entry) → length k ≡ 0 → holds k e ≡ e.exclusive
holds_none [] e n = refl
holds_none (x ∷ k) e n = absurd (omega arith)

pub holds_some : (k : List ℕ) (e : Entry) (b : Bool) → (length k ≡ 0 → ⊥) → no_shared e ≡ not b → holds k e ≡ b
holds_some [] e b n q = absurd (n refl)
holds_some (x ∷ k) e true n q = rw q
holds_some (x ∷ k) e false n q = rw q

-- looking for a request of slot i, from place j on
module _ (i : ℕ) (ws : List Waiting) (j : ℕ) where
  pub idle_stop : (r : Waiting) → j < length ws → get_or ws j no_request ≡ r → r.slot ≡ i → all (elsewhere i) (drop j ws) ≡ false
  idle_stop r h e q =
      ap (all (elsewhere i)) (next ws j r h e) ∙ ap (λ (b : Bool). not b && all (elsewhere i) (drop (j + 1) ws)) (eq-eqb r.slot i q)

  pub idle_on : (r : Waiting) → j < length ws → get_or ws j no_request ≡ r → (r.slot ≡ i → ⊥) → all (elsewhere i) (drop j ws) ≡ all (elsewhere i) (drop (j + 1) ws)
  idle_on r h e o =
      ap (all (elsewhere i)) (next ws j r h e) ∙ ap (λ (b : Bool). not b && all (elsewhere i) (drop (j + 1) ws)) (ne_eqb r.slot i o)

  pub idle_end : length ws ≤ j → all (elsewhere i) (drop j ws) ≡ true
  idle_end h = ap (all (elsewhere i)) (drop_of_length-le ws h)

-- a request that cannot wait
pub denied_now : (t : ℕ) (ws : List Waiting) → t ≡ 0 → (eqb t 0 || no_place ws) ≡ true
denied_now t ws e = rw (eq-eqb t 0 e)

pub denied_full : (t n : ℕ) (ws : List Waiting) → (t ≡ 0 → ⊥) → n ≡ length ws → (eqb t 0 || no_place ws) ≡ leb session_limit n
denied_full t n ws o e = rw (ne_eqb t 0 o, e)

pub has_place : (t : ℕ) (ws : List Waiting) → (eqb t 0 || no_place ws) ≡ false → length ws < session_limit
has_place t ws e = leb-false session_limit (length ws) (by (eqb t 0) (leb session_limit (length ws)) e)
  where
    by : (p q : Bool) → (p || q) ≡ false → q ≡ false
    by true true e = e
    by true false e = refl
    by false q e = e

-- no answer
pub met_none : (x : LockResult) (l : Locks) (m m' : Memory) (out : List ℕ) (at : ℕ) → x ≡ unanswered l → view m' ≡ record { locks = l; rest = (view m).rest }
    → (Tidy m → Tidy m') → Met x m m' out out at at
met_none x l m m' out at e v t =
    met x m m' out out at at
    (ap (λ (d : Server). d.locks) v ∙ sym (ap (λ (y : LockResult). y.locks) e))
    (ap (λ (d : Server). d.rest) v)
    (sym (ap (λ (y : LockResult). ends y.answers out at) e ∙ ends_nil out at))
    t

-- a request that waits: there is a place for it, and its deadline is the clock and the timeout
pub room_left : (w s : List ℕ) → length (locks_of w s).waiting < session_limit → count_of w < session_limit
room_left w s h = omega (arith, h, count_is w s)

pub waits_until : (m : Memory) (d' : Server) (i t n : ℕ) (k : List ℕ) → n ≡ (view m).locks.clock
    → d' ≡ on_waiting (view m) (λ (x : List Waiting). x ++ (record { slot = i; deadline = n + t; string = k } ∷ []))
    → d' ≡ on_waiting (view m) (λ (x : List Waiting). x ++ (record { slot = i; deadline = (view m).locks.clock + t; string = k } ∷ []))
waits_until m d' i t n k c q = q ∙ ap (λ (y : ℕ). on_waiting (view m) (λ (x : List Waiting). x ++ (record { slot = i; deadline = y + t; string = k } ∷ []))) c
