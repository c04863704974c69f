-- The text of the allowed commands in the lent bytes: what it allows, and a list laid in the place of another. Assumes nothing.
use Rattle.std.specs.Prelude.{◌≡◌, refl, ◌↔◌, Bool, true, false, not, ℕ, ◌+◌, ◌*◌, ◌-◌, ◌%◌, ◌^◌, ◌≤◌, ◌<◌, min, eqb, set, drop}
use Rattle.std.proofs.Common.{sym, subst, ◌∙◌, inl, inr, ⊎_elim, true≢false, length-set, eq-eqb, ne_eqb}
use Rattle.std.proofs.Math.Path.{ap, ap₂}
use Rattle.std.proofs.Math.Bool.{cond}
use mathlib.Core.List.{List, ◌∷◌}
use native.Mathlib.Omega.{arith}
use Rattle.std.proofs.Math.ListN.{length, take}
use Rattle.wire.specs.Splice.{splice, length_splice}
use Rattle.commands.specs.Lists.{lines_of, command_of, Allows}
use Rattle.commands.specs.Deciding.{allows, allows_is, same_answer}
use Rattle.model.specs.Sizes.{session_limit, connection_limit, string_limit, list_limit}
use Rattle.model.specs.State.{Allowed, Allowed.any_command, Allowed.only, Rest, with_allowed}
use Rattle.model.specs.Allowing.{admits}
use Rattle.state.specs.Table.{below}
use Rattle.state.specs.Grid.{part}
use Rattle.state.specs.Layout.{CLOCK, HOLDER, SHARERS, KEY, COUNT, ENTRIES, ENTRY, ORDERS, ORDER, EXCHANGES, EXCHANGE, CONNECTIONS, CONNECTION, HOME}
use Rattle.state.specs.Layout.{SENSINGS, SENSING, LISTED, REQUESTS, REQUEST, QUEUE, WORDS, LIST, STRINGS}
use Rattle.state.specs.View.{memory, word, home_at, key_of, entries_of, waiting_of, locks_of, allowed_from, allowed_of, view}
use Rattle.state.specs.Change.{on_rest, off, here, locks_off, rest_words}
use Rattle.queue.specs.OneMemory.{is_set}
use Rattle.queue.specs.Requests.{take_here, waiting_strings}
use Rattle.queue.specs.Strings.{take_least}
use Rattle.queue.specs.Wiping.{Wiped, part_same}
use Rattle.queue.specs.Leaving.{splice_off}
use Rattle.state.specs.Tidy.{Tidy, Counted, ExchangeRange, SensingRange, ConnectionRange, OrderRange}
use Rattle.state.specs.Keeping.{kept_values, kept_range, kept_singles, kept_rows, kept_homes, kept_request, kept_queue, kept_key, kept_away, count_from, count_to}

-- the answer that the code gives is what the definition says
pub part_admits : (text p : List ℕ) (r : Bool) → (r ≡ true) ↔ Allows (lines_of text) (command_of p) → admits (only text) p ≡ r
part_admits text p r h = same_answer (allows (lines_of text) (command_of p)) r (allows_is (lines_of text) (command_of p)) h

pub unset_admits : (a : Allowed) (p : List ℕ) → is_set a ≡ false → admits a p ≡ true
unset_admits any_command p e = refl
unset_admits (only text) p e = absurd (true≢false e)

pub set_read : (w s : List ℕ) (b : Bool) → eqb (word w LISTED) 0 ≡ b → is_set (allowed_of w s) ≡ not b
unfolding allowed_of
set_read w s true e = ap (λ (x : Bool). is_set (cond x any_command (only (take (word w LISTED - 1) (part s LIST list_limit))))) e
set_read w s false e = ap (λ (x : Bool). is_set (cond x any_command (only (take (word w LISTED - 1) (part s LIST list_limit))))) e

-- no list, and a list of which so many bytes are there
pub none_admits : (w s p : List ℕ) → word w LISTED ≡ 0 → admits (allowed_of w s) p ≡ true
unfolding allowed_of
none_admits w s p e = ap (λ (b : Bool). admits (cond b any_command (only (take (word w LISTED - 1) (part s LIST list_limit)))) p) (eq-eqb (word w LISTED) 0 e)

pub list_there : (w s : List ℕ) → (word w LISTED ≡ 0 → ⊥) → allowed_of w s ≡ only (take (min (word w LISTED - 1) list_limit) (drop LIST s))
unfolding allowed_of
list_there w s o =
    ap (λ (b : Bool). cond b any_command (only (take (word w LISTED - 1) (part s LIST list_limit)))) (ne_eqb (word w LISTED) 0 o)
    ∙ ap only (take_least (word w LISTED - 1) list_limit (drop LIST s))

-- what was there is wiped, and a text laid there
module _ (w s s₁ text : List ℕ) (small : length text ≤ list_limit) (long : length w ≡ WORDS) (room : length s ≡ STRINGS) (x : Wiped s s₁ LIST (min (word w LISTED) list_limit)) where
  abbrev pub laid : List ℕ
  laid = splice s₁ LIST text

  abbrev pub listed : List ℕ
  listed = set w LISTED (length text + 1)

  there : LIST + length text ≤ length s₁
  there = omega (arith, x.room)

  laid_room : length laid ≡ length s
  laid_room = length_splice s₁ LIST text there ∙ x.room

  -- the lock strings stay, and so do the locks
  before_list : (p : ℕ) → p < LIST → word laid p ≡ word s p
  before_list p h = splice_off s₁ LIST text p there (inl h) ∙ x.others p (inl h)

  key_still : key_of w laid ≡ key_of w s
  unfolding key_of
  key_still =
      ap₂ (λ (a : ℕ) (b : List ℕ). a ∷ take (word w KEY) b) (before_list 0 (omega arith))
      (part_same s laid 1 (string_limit - 1) laid_room (omega arith) (λ p a b. before_list p (omega arith)))

  waiting_still : waiting_of w laid ≡ waiting_of w s
  waiting_still = waiting_strings w s laid (λ i l. part_same s laid (string_limit + i * string_limit) string_limit laid_room (omega arith) (λ p a b. before_list p (omega arith)))

  locks_still : locks_of w laid ≡ locks_of w s
  unfolding locks_of
  locks_still = λ k. record { clock = word w CLOCK % 2 ^ 63; entries = entries_of w (key_still k); waiting = waiting_still k }

  list_now : allowed_of listed laid ≡ only text
  unfolding allowed_of
  list_now =
      let n : length text + 1 - 1 ≡ length text = omega arith in
      ap (λ (v : ℕ). allowed_from v (part laid LIST list_limit)) (here w LISTED (length text + 1) (omega arith))
      ∙ ap (λ (b : Bool). cond b any_command (only (take (length text + 1 - 1) (part laid LIST list_limit)))) (ne_eqb (length text + 1) 0 (omega arith))
      ∙ ap (λ (m : ℕ). only (take m (part laid LIST list_limit))) n
      ∙ ap only (take_here s₁ LIST text there list_limit small)

  pub list_laid : view (memory listed laid) ≡ on_rest (view (memory w s)) (λ (r : Rest). with_allowed r (only text))
  list_laid =
      λ k. record {
        locks = (locks_off w laid LISTED (length text + 1) (omega arith) (λ c l e. omega arith) ∙ locks_still) k;
        rest = with_allowed (rest_words w LISTED (length text + 1) (omega arith) k) (list_now k);
      }

  -- memory in order stays so: behind the text nothing is left of the old one
  same : (a : ℕ) → (a ≡ LISTED → ⊥) → word listed a ≡ word w a
  same a o = off w LISTED (length text + 1) a o

  behind_text : Tidy (memory w s) → (j : ℕ) → word listed LISTED ≤ j + 1 → j < list_limit → word laid (LIST + j) ≡ 0
  behind_text t j h l =
      let v : word listed LISTED ≡ length text + 1 = here w LISTED (length text + 1) (omega arith) in
      splice_off s₁ LIST text (LIST + j) there (inr (omega arith))
      ∙ ⊎_elim
      (λ (y : j < min (word w LISTED) list_limit). x.blank (LIST + j) (omega arith) (omega arith))
      (λ (y : min (word w LISTED) list_limit ≤ j). x.others (LIST + j) (inr (omega arith)) ∙ t.list.behind j (omega arith) l)
      (below j (min (word w LISTED) list_limit))

  pub list_tidy : Tidy (memory w s) → Tidy (memory listed laid)
  list_tidy t =
      let count : word listed COUNT ≡ word w COUNT = same COUNT (omega arith) in
      let sharers : word listed SHARERS ≡ word w SHARERS = same SHARERS (omega arith) in
      let queue : (j : ℕ) → word listed (QUEUE + j) ≡ word w (QUEUE + j) = (λ j. same (QUEUE + j) (omega arith)) in
      let v : word listed LISTED ≡ length text + 1 = here w LISTED (length text + 1) (omega arith) in
      record {
        long = length-set w LISTED (length text + 1) ∙ long;
        room = laid_room ∙ room;
        values = kept_values (Counted w) w listed s laid t (λ p h. same p (omega arith));
        exchanges = kept_range (Counted w) w listed s laid t ExchangeRange EXCHANGES EXCHANGE EXCHANGE session_limit (λ i f h l. same (EXCHANGES + i * EXCHANGE + f) (omega arith)) t.exchanges;
        sensings = kept_range (Counted w) w listed s laid t SensingRange SENSINGS SENSING SENSING session_limit (λ i f h l. same (SENSINGS + i * SENSING + f) (omega arith)) t.sensings;
        connections = kept_range (Counted w) w listed s laid t ConnectionRange CONNECTIONS CONNECTION HOME connection_limit
            (λ i f h l. same (CONNECTIONS + i * CONNECTION + f) (omega arith)) t.connections;
        orders = kept_range (Counted w) w listed s laid t OrderRange ORDERS ORDER ORDER session_limit (λ i f h l. same (ORDERS + i * ORDER + f) (omega arith)) t.orders;
        singles = kept_singles (Counted w) w listed s laid t (same CLOCK (omega arith)) (same HOLDER (omega arith))
            (subst (λ (y : ℕ). y < 2 ^ session_limit) (sym sharers) t.singles.sharers)
            (subst (λ (y : ℕ). y ≤ session_limit) (sym count) t.singles.count);
        rows = kept_rows (Counted w) w listed s laid t (λ i f h l. same (ENTRIES + i * ENTRY + f) (omega arith)) (λ c h. same (home_at c) (omega arith));
        homes = kept_homes (Counted w) w listed s laid t (λ i f h l. same (ENTRIES + i * ENTRY + f) (omega arith)) (λ c h. same (home_at c) (omega arith));
        requests = λ i h.
            kept_request (Counted w) w listed s laid t (Counted listed) i h (λ f l. same (REQUESTS + i * REQUEST + f) (omega arith))
            (λ j l. before_list (string_limit + i * string_limit + j) (omega arith))
            (kept_away (Counted w) w listed s laid t (Counted listed) i queue (count_to w listed count));
        queue = kept_queue (Counted w) w listed s laid t (Counted listed) queue (count_from w listed count) (count_to w listed count);
        key = kept_key (Counted w) w listed s laid t (same KEY (omega arith)) (λ z. sym sharers ∙ z) (λ j l. before_list j (omega arith));
        list = record { fits = omega arith; behind = behind_text t };
      }
