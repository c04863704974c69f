-- Bytes that are wiped, and the words that go with them: the request of a slot that does not wait, the shared string where nobody shares.
-- Nobody sees it. Assumes nothing.
use Rattle.std.specs.Prelude.{◌≡◌, refl, ◌⊎◌, ℕ, ◌+◌, ◌*◌, ◌-◌, ◌%◌, ◌^◌, ◌≤◌, ◌<◌, length, set}
use Rattle.std.proofs.Common.{sym, ◌∙◌, inl, inr, ⊎_elim, arith, lit<, length-set, ext_get_or}
use Rattle.std.proofs.Math.Path.{ap₂}
use mathlib.Core.List.{List, ◌∷◌}
use Rattle.std.proofs.Math.ListN.{take}
use Rattle.model.specs.Sizes.{session_limit, string_limit, list_limit}
use Rattle.state.specs.Table.{apart}
use Rattle.state.specs.Grid.{part, word_of, length_part}
use Rattle.state.specs.Layout.{CLOCK, SHARERS, KEY, COUNT, REQUESTS, REQUEST, WORDS, LIST, STRINGS}
use Rattle.state.specs.View.{memory, word, key_of, locks_of, view}
use Rattle.state.specs.Change.{off, past_homes, entries_off, waiting_off, rest_off}
use Rattle.queue.specs.Requests.{Idle, unseen, waiting_strings}
use Rattle.queue.specs.Queue.{slot_off}
use Rattle.queue.specs.Sharing.{unshared_entries}

-- the n bytes from a on are 0, and no other changed
pub record Wiped (s s' : List ℕ) (a n : ℕ) : Type 0 where
  pub room : length s' ≡ length s
  pub blank : (p : ℕ) → a ≤ p → p < a + n → word s' p ≡ 0
  pub others : (p : ℕ) → (p < a) ⊎ (a + n ≤ p) → word s' p ≡ word s p

-- a part that agrees byte for byte
pub part_same : (s s' : List ℕ) (c k : ℕ) → length s' ≡ length s → c + k ≤ length s → ((p : ℕ) → c ≤ p → p < c + k → word s' p ≡ word s p) → part s' c k ≡ part s c k
part_same s s' c k n h e =
    let a : length (part s' c k) ≡ k = length_part s' c k (omega arith) in
    let b : length (part s c k) ≡ k = length_part s c k h in
    ext_get_or 0 (part s' c k) (part s c k) (a ∙ sym b)
    (λ j l. let m : j < k = omega arith in word_of s' c k j m ∙ e (c + j) (omega arith) (omega arith) ∙ sym (word_of s c k j m))

-- the request of slot i, which does not wait
module _ (w s s' : List ℕ) (i n : ℕ) (h : i < session_limit) (long : length w ≡ WORDS) (room : length s ≡ STRINGS) (small : n ≤ string_limit)
    (x : Wiped s s' (string_limit + i * string_limit) n) where
  abbrev pub undated : List ℕ
  undated = set w (REQUESTS + i * REQUEST + 0) 0

  abbrev pub emptied : List ℕ
  emptied = set undated (REQUESTS + i * REQUEST + 1) 0

  string_else : (j : ℕ) → j < session_limit → (j ≡ i → ⊥) → part s' (string_limit + j * string_limit) string_limit ≡ part s (string_limit + j * string_limit) string_limit
  string_else j l o =
      part_same s s' (string_limit + j * string_limit) string_limit x.room (omega arith)
      (λ p a b.
      x.others p
      (⊎_elim (λ (y : j < i). inl (omega arith)) (λ (y : i < j). inr (omega arith)) (apart j i o)))

  key_else : key_of undated s' ≡ key_of undated s
  unfolding key_of
  key_else =
      ap₂ (λ (a : ℕ) (b : List ℕ). a ∷ take (word undated KEY) b) (x.others 0 (inl (omega arith)))
      (part_same s s' 1 (string_limit - 1) x.room (omega arith) (λ p a b. x.others p (inl (omega arith))))

  list_else : part s' LIST list_limit ≡ part s LIST list_limit
  list_else = part_same s s' LIST list_limit x.room (omega arith) (λ p a b. x.others p (inr (omega arith)))

  idle_undated : Idle w i → Idle undated i
  idle_undated o j l e =
      let c : word undated COUNT ≡ word w COUNT = off w (REQUESTS + i * REQUEST + 0) 0 COUNT (omega arith) in
      o j (omega arith) (sym (slot_off w (REQUESTS + i * REQUEST + 0) 0 j (omega arith)) ∙ e)

  pub request_wiped : Idle w i → view (memory emptied s') ≡ view (memory w s)
  request_wiped o =
      unseen undated s s' i 1 0 h (lit< tt) (length-set w (REQUESTS + i * REQUEST + 0) 0 ∙ long) (idle_undated o) string_else key_else list_else
      ∙ unseen w s s i 0 0 h (lit< tt) long o (λ j l q. refl) refl refl

-- the shared string, where nobody shares
pub key_wiped : (w s s' : List ℕ) (n : ℕ) → length s ≡ STRINGS → n ≤ string_limit → Wiped s s' 0 n → word w SHARERS % 2 ^ session_limit ≡ 0
    → view (memory (set w KEY 0) s') ≡ view (memory w s)
unfolding locks_of
key_wiped w s s' n room small x z =
    λ k. record {
      locks = record {
        clock = off w KEY 0 CLOCK (omega arith) k % 2 ^ 63;
        entries = (entries_off w (key_of (set w KEY 0) s') KEY 0 (omega arith) (omega arith) (past_homes w KEY (omega arith)) (inl (omega arith))
            ∙ unshared_entries w (key_of w s) (key_of (set w KEY 0) s') z) k;
        waiting = (waiting_off w s' KEY 0 (omega arith) (omega arith)
            ∙ waiting_strings w s s' (λ i l. part_same s s' (string_limit + i * string_limit) string_limit x.room (omega arith) (λ p a b. x.others p (inr (omega arith))))) k;
      };
      rest = rest_off w s s' KEY 0 (omega arith) (part_same s s' LIST list_limit x.room (omega arith) (λ p a b. x.others p (inr (omega arith)))) k;
    }
