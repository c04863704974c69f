-- Requests: each slot has a row for one (deadline, length) and a place for its string; the queue lists the slots that wait, oldest
-- first. A request that does not wait is not seen. Assumes nothing.
use Rattle.std.specs.Prelude.{◌≡◌, refl, true, not, eqb, set}
use Rattle.std.proofs.Math.Path.{sym, ap, ap₂}
use Rattle.std.proofs.Common.{◌∙◌, inr, zero-add, lit<, length-drop, take-append-drop, ne_eqb}
use Rattle.std.proofs.Math.Logic.{⊎_elim}
use mathlib.Core.List.{List, ◌∷◌, ◌++◌, append_assoc}
use Prim.Native.Nat.{ℕ, zero, suc, ◌+◌, ◌*◌, ◌-◌, ◌%◌, ◌^◌, ◌≤◌, ◌<◌, min}
use native.Mathlib.Omega.{arith}
use Rattle.std.proofs.Math.ListN.{length, get_or, take, drop, length-take}
use Rattle.std.proofs.Math.Seq.{take-take, drop_at, take-append_seam}
use Rattle.std.proofs.lemmas.List.{drop-append-le, take-append-le}
use Rattle.std.proofs.lemmas.Bool.{eqb-false, not-true}
use Rattle.wire.specs.Splice.{splice, drop_splice}
use Rattle.model.specs.Sizes.{session_limit, string_limit, list_limit}
use Rattle.model.specs.Lists.{all}
use Rattle.model.specs.Locks.{elsewhere}
use Rattle.state.specs.Table.{tab, tab_same, all_tab_row, apart}
use Rattle.state.specs.Grid.{part, word_of}
use Rattle.state.specs.Layout.{CLOCK, KEY, COUNT, REQUESTS, REQUEST, QUEUE, WORDS, LIST, STRINGS}
use Rattle.state.specs.View.{memory, word, key_of, entries_of, slot_at, request_at, waiting_of, locks_of, view}
use Rattle.state.specs.Change.{off, here, key_off, past_homes, entries_off, rest_off}

-- how many wait
abbrev pub count_of : List ℕ → ℕ
count_of w = min (word w COUNT) session_limit

pub none_counted : (c : ℕ) → eqb (min c session_limit) 0 ≡ eqb c 0
none_counted zero = refl
none_counted (suc c) = ne_eqb (min (suc c) session_limit) 0 (λ e. omega arith) ∙ sym (ne_eqb (suc c) 0 (λ e. omega arith))

-- slot i does not wait
abbrev pub Idle : List ℕ → ℕ → Type 0
Idle w i = (j : ℕ) → j < count_of w → slot_at w j ≡ i → ⊥

-- the string of slot i's request, waiting or not
abbrev pub string_at : List ℕ → List ℕ → ℕ → List ℕ
string_at w s i = (request_at w s i).string

pub slot_small : (w : List ℕ) (j : ℕ) → slot_at w j < session_limit
unfolding slot_at
slot_small w j = omega arith

-- a part of bytes that a splice is in front of, behind, or just at
front : (p r : List ℕ) (c k : ℕ) → c + k ≤ length p → part (p ++ r) c k ≡ part p c k
front p r c k h =
    let e : length (drop c p) ≡ length p - c = length-drop c p in
    ap (take k) (drop-append-le c p r (omega arith)) ∙ take-append-le k (drop c p) r (omega arith)

module _ (s : List ℕ) (a : ℕ) (x : List ℕ) (fits : a + length x ≤ length s) where
  pub part_behind : (c k : ℕ) → a + length x ≤ c → part (splice s a x) c k ≡ part s c k
  part_behind c k h =
      let e : c ≡ a + length x + (c - (a + length x)) = omega arith in
      rw e (ap (take k) (drop_splice s a x fits (c - (a + length x))))

  pub part_before : (c k : ℕ) → c + k ≤ a → part (splice s a x) c k ≡ part s c k
  unfolding splice
  part_before c k h =
      let f : c + k ≤ length (take a s) = simp length-take (omega arith) in
      ap (λ (l : List ℕ). part l c k) (append_assoc (take a s) x (drop (a + length x) s))
      ∙ front (take a s) (x ++ drop (a + length x) s) c k f
      ∙ sym (front (take a s) (drop a s) c k f)
      ∙ ap (λ (l : List ℕ). part l c k) (take-append-drop a s)

  -- what was spliced in is read there, from a part that is large enough
  pub take_here : (k : ℕ) → length x ≤ k → take (length x) (part (splice s a x) a k) ≡ x
  unfolding splice
  take_here k h =
      let f : length (take a s) ≡ a = simp length-take (omega arith) in
      let t : List ℕ = drop (a + length x) s in
      ap (λ (l : List ℕ). take (length x) (take k l)) (ap (drop a) (append_assoc (take a s) x t) ∙ drop_at (take a s) (x ++ t) a f)
      ∙ take-take (length x) k (x ++ t) h
      ∙ take-append_seam x t

-- strings of requests that stay, and so do the requests that wait
pub waiting_strings : (w s s' : List ℕ) → ((i : ℕ) → i < session_limit → part s' (string_limit + i * string_limit) string_limit ≡ part s (string_limit + i * string_limit) string_limit)
    → waiting_of w s' ≡ waiting_of w s
unfolding waiting_of request_at
waiting_strings w s s' h =
    tab_same (λ (j : ℕ). request_at w s' (slot_at w j)) (λ (j : ℕ). request_at w s (slot_at w j)) 0 (count_of w)
    (λ j p q. λ k. record { slot = slot_at w j; deadline = word w (REQUESTS + slot_at w j * REQUEST); string = take (word w (REQUESTS + slot_at w j * REQUEST + 1)) (h (slot_at w j) (slot_small w j) k) })

-- as the model says it
pub idle_of : (w s : List ℕ) (i : ℕ) → all (elsewhere i) (locks_of w s).waiting ≡ true → Idle w i
unfolding locks_of waiting_of request_at
idle_of w s i e j h q =
    let r : not (eqb (slot_at w j) i) ≡ true = ap (λ (m : ℕ). not (eqb (slot_at w m) i)) (sym (zero-add j)) ∙ all_tab_row (elsewhere i) (λ (j : ℕ). request_at w s (slot_at w j)) 0 (count_of w) j e h in
    eqb-false (slot_at w j) i (not-true (eqb (slot_at w j) i) r) q

-- a request that does not wait, changed in its row (fields 0 deadline, 1 length) and in its place for a string: nobody sees it
module _ (w s s' : List ℕ) (i f v : ℕ) (h : i < session_limit) (l : f < REQUEST) (long : length w ≡ WORDS) where
  request_else : (j : ℕ) → (slot_at w j ≡ i → ⊥)
      → part s' (string_limit + slot_at w j * string_limit) string_limit ≡ part s (string_limit + slot_at w j * string_limit) string_limit
      → request_at (set w (REQUESTS + i * REQUEST + f) v) s' (slot_at (set w (REQUESTS + i * REQUEST + f) v) j) ≡ request_at w s (slot_at w j)
  unfolding request_at slot_at
  request_else j o e =
      let a : ℕ = REQUESTS + i * REQUEST + f in
      let t : ℕ = word w (QUEUE + j) % session_limit in
      let n : (g : ℕ) → g < REQUEST → REQUESTS + t * REQUEST + g ≡ a → ⊥ = (λ g x q. ⊎_elim (λ (y : t < i). omega arith) (λ (y : i < t). omega arith) (apart t i o)) in
      let b : REQUESTS + t * REQUEST + 0 ≡ REQUESTS + t * REQUEST = omega arith in
      ap (λ (x : ℕ). request_at (set w a v) s' (x % session_limit)) (off w a v (QUEUE + j) (omega arith))
      ∙ λ k. record {
        slot = t;
        deadline = off w a v (REQUESTS + t * REQUEST) (λ q. n 0 (omega arith) (b ∙ q)) k;
        string = take (off w a v (REQUESTS + t * REQUEST + 1) (n 1 (omega arith)) k) (e k);
      }

  unseen_waiting : Idle w i
      → ((j : ℕ) → j < session_limit → (j ≡ i → ⊥) → part s' (string_limit + j * string_limit) string_limit ≡ part s (string_limit + j * string_limit) string_limit)
      → waiting_of (set w (REQUESTS + i * REQUEST + f) v) s' ≡ waiting_of w s
  unfolding waiting_of
  unseen_waiting free e =
      let a : ℕ = REQUESTS + i * REQUEST + f in
      ap (λ (x : ℕ). tab (λ (j : ℕ). request_at (set w a v) s' (slot_at (set w a v) j)) 0 (min x session_limit)) (off w a v COUNT (omega arith))
      ∙ tab_same (λ (j : ℕ). request_at (set w a v) s' (slot_at (set w a v) j)) (λ (j : ℕ). request_at w s (slot_at w j)) 0 (count_of w)
      (λ j p q. let n : slot_at w j ≡ i → ⊥ = free j (omega arith) in request_else j n (e (slot_at w j) (slot_small w j) n))

  pub unseen : Idle w i
      → ((j : ℕ) → j < session_limit → (j ≡ i → ⊥) → part s' (string_limit + j * string_limit) string_limit ≡ part s (string_limit + j * string_limit) string_limit)
      → key_of w s' ≡ key_of w s → part s' LIST list_limit ≡ part s LIST list_limit
      → view (memory (set w (REQUESTS + i * REQUEST + f) v) s') ≡ view (memory w s)
  unfolding locks_of
  unseen free e d q =
      let a : ℕ = REQUESTS + i * REQUEST + f in
      λ k. record {
        locks = record {
          clock = off w a v CLOCK (omega arith) k % 2 ^ 63;
          entries = (ap (entries_of (set w a v)) (key_off w s' a v (omega arith) ∙ d) ∙ entries_off w (key_of w s) a v (omega arith) (omega arith) (past_homes w a (omega arith)) (inr (omega arith))) k;
          waiting = unseen_waiting free e k;
        };
        rest = rest_off w s s' a v (omega arith) q k;
      }

-- a string laid into slot i's place: the others' stay, so does the shared one, and it is there
module _ (w s : List ℕ) (i : ℕ) (x : List ℕ) (h : i < session_limit) (small : length x ≤ string_limit) (long : length w ≡ WORDS) (room : length s ≡ STRINGS) where
  there : string_limit + i * string_limit + length x ≤ length s
  there = omega arith

  others_stay : (j : ℕ) → j < session_limit → (j ≡ i → ⊥)
      → part (splice s (string_limit + i * string_limit) x) (string_limit + j * string_limit) string_limit ≡ part s (string_limit + j * string_limit) string_limit
  others_stay j l o =
      ⊎_elim
      (λ (y : j < i). part_before s (string_limit + i * string_limit) x there (string_limit + j * string_limit) string_limit (omega arith))
      (λ (y : i < j). part_behind s (string_limit + i * string_limit) x there (string_limit + j * string_limit) string_limit (omega arith))
      (apart j i o)

  key_stays : key_of w (splice s (string_limit + i * string_limit) x) ≡ key_of w s
  unfolding key_of
  key_stays =
      let s' : List ℕ = splice s (string_limit + i * string_limit) x in
      let e : part s' 0 1 ≡ part s 0 1 = part_before s (string_limit + i * string_limit) x there 0 1 (omega arith) in
      let f : word s' 0 ≡ word s 0 = sym (word_of s' 0 1 0 (lit< tt)) ∙ ap (λ (l : List ℕ). get_or l 0 0) e ∙ word_of s 0 1 0 (lit< tt) in
      ap₂ (λ (a : ℕ) (b : List ℕ). a ∷ take (word w KEY) b) f (part_before s (string_limit + i * string_limit) x there 1 (string_limit - 1) (omega arith))

  -- with its length in the row, while slot i does not wait
  pub laid_view : Idle w i
      → view (memory (set w (REQUESTS + i * REQUEST + 1) (length x)) (splice s (string_limit + i * string_limit) x)) ≡ view (memory w s)
  laid_view free = unseen w s (splice s (string_limit + i * string_limit) x) i 1 (length x) h (lit< tt) long free others_stay key_stays
      (part_behind s (string_limit + i * string_limit) x there LIST list_limit (omega arith))

  pub laid_string : string_at (set w (REQUESTS + i * REQUEST + 1) (length x)) (splice s (string_limit + i * string_limit) x) i ≡ x
  unfolding request_at
  laid_string =
      ap (λ (n : ℕ). take n (part (splice s (string_limit + i * string_limit) x) (string_limit + i * string_limit) string_limit)) (here w (REQUESTS + i * REQUEST + 1) (length x) (omega arith))
      ∙ take_here s (string_limit + i * string_limit) x there string_limit small
