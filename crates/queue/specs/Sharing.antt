-- The string of the shared lock: laid while nobody shares, it is seen by nobody; a session that joins those that share has it. Assumes nothing.
use Rattle.std.specs.Prelude.{◌≡◌, Bool, true, false, cond, List, [], ℕ, ◌+◌, ◌*◌, ◌-◌, ◌%◌, ◌^◌, ◌≤◌, ◌<◌, min, eqb, length, set, take}
use Rattle.std.proofs.Common.{sym, ap, ◌∙◌, inl, arith, take-take, ne_eqb, eqb-true}
use Rattle.std.proofs.lemmas.Bool.{eqb-false}
use Rattle.wire.specs.Splice.{splice, length_splice}
use Rattle.model.specs.Sizes.{session_limit, string_limit, list_limit}
use Rattle.model.specs.Lists.{all}
use Rattle.model.specs.Locks.{no_shared, fits, give}
use Rattle.model.specs.State.{Server}
use Rattle.state.specs.Table.{tab_same}
use Rattle.bits.specs.Bits.{bit}
use Rattle.state.specs.Bits.{empty_bits}
use Rattle.state.specs.Layout.{CLOCK, HOLDER, SHARERS, KEY, WORDS, LIST, STRINGS}
use Rattle.state.specs.View.{Memory, memory, word, key_of, field_of, order_word, entry_from, entry_at, entries_of, locks_of, view}
use Rattle.state.specs.Change.{on_entry, off, here, past_homes, entries_off, waiting_off, rest_off}
use Rattle.state.specs.Holders.{sharers_test, fits_some}
use Rattle.queue.specs.Requests.{part_behind, take_here, waiting_strings}
use Rattle.queue.specs.Strings.{key_part, same_true}

-- nobody shares, by the word of those that share
pub no_sharers : (w s : List ℕ) → all no_shared (locks_of w s).entries ≡ true → word w SHARERS % 2 ^ session_limit ≡ 0
no_sharers w s e = eqb-true (word w SHARERS % 2 ^ session_limit) 0 (sym (sharers_test w s) ∙ e)

-- while nobody shares, the shared string is not seen
pub unshared_entries : (w k k' : List ℕ) → word w SHARERS % 2 ^ session_limit ≡ 0 → entries_of w k' ≡ entries_of w k
unfolding entries_of entry_at
unshared_entries w k k' e =
    tab_same (entry_at w k') (entry_at w k) 0 session_limit
    (λ j p q.
    let z : bit (word w SHARERS) j ≡ 0 = empty_bits (word w SHARERS) session_limit j e (omega arith) in
    let f : eqb (bit (word w SHARERS) j) 1 ≡ false = ne_eqb (bit (word w SHARERS) j) 1 (omega arith) in
    ap (λ (b : Bool). entry_from (field_of w j) (order_word w j) (eqb (word w HOLDER) (j + 1)) (cond b k' [])) f
    ∙ ap (λ (b : Bool). entry_from (field_of w j) (order_word w j) (eqb (word w HOLDER) (j + 1)) (cond b k [])) (sym f))

module _ (w s k : List ℕ) (some : 0 < length k) (small : length k ≤ string_limit) (long : length w ≡ WORDS) (room : length s ≡ STRINGS) where
  abbrev pub keyed : List ℕ
  keyed = set w KEY (length k - 1)

  abbrev pub lettered : List ℕ
  lettered = splice s 0 k

  inside : 0 + length k ≤ length s
  inside = omega arith

  pub key_laid : key_of keyed lettered ≡ k
  key_laid =
      let n : length lettered ≡ length s = length_splice s 0 k inside in
      let v : word keyed KEY ≡ length k - 1 = here w KEY (length k - 1) (omega arith) in
      let e : min (word keyed KEY) (string_limit - 1) + 1 ≡ length k = omega arith in
      key_part keyed lettered (omega arith)
      ∙ ap (λ (m : ℕ). take m lettered) e
      ∙ sym (take-take (length k) string_limit lettered small)
      ∙ take_here s 0 k inside string_limit small

  pub key_unseen : all no_shared (locks_of w s).entries ≡ true → view (memory keyed lettered) ≡ view (memory w s)
  unfolding locks_of
  key_unseen e =
      let z : word w SHARERS % 2 ^ session_limit ≡ 0 = no_sharers w s e in
      λ j. record {
        locks = record {
          clock = off w KEY (length k - 1) CLOCK (omega arith) j % 2 ^ 63;
          entries = (entries_off w (key_of keyed lettered) KEY (length k - 1) (omega arith) (omega arith) (past_homes w KEY (omega arith)) (inl (omega arith))
              ∙ unshared_entries w (key_of w s) (key_of keyed lettered) z) j;
          waiting = (waiting_off w lettered KEY (length k - 1) (omega arith) (omega arith)
              ∙ waiting_strings w s lettered (λ i l. part_behind s 0 k inside (string_limit + i * string_limit) string_limit (omega arith))) j;
        };
        rest = rest_off w s lettered KEY (length k - 1) (omega arith) (part_behind s 0 k inside LIST list_limit (omega arith)) j;
      }

-- a string that fits those that share is theirs
pub fits_key : (w s k : List ℕ) → all no_shared (locks_of w s).entries ≡ false → all (fits k) (locks_of w s).entries ≡ true → key_of w s ≡ k
fits_key w s k o e =
    same_true (key_of w s) k (sym (fits_some w s k (eqb-false (word w SHARERS % 2 ^ session_limit) 0 (sym (sharers_test w s) ∙ o))) ∙ e)

-- slot i has joined: with the string that was laid, or with theirs
pub given_laid : (m m₁ : Memory) (d' : Server) (i : ℕ) (key k : List ℕ) → view m₁ ≡ view m → key ≡ k → d' ≡ on_entry (view m₁) i (give key)
    → d' ≡ on_entry (view m) i (give k)
given_laid m m₁ d' i key k v e q = q ∙ ap (λ (d : Server). on_entry d i (give key)) v ∙ ap (λ (y : List ℕ). on_entry (view m) i (give y)) e
