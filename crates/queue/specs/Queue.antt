-- The queue of waiting requests: moving one forward, keeping the first so many, and putting one at the end. Assumes nothing.
use Rattle.std.specs.Prelude.{◌≡◌, ◌⊎◌, length, get_or}
use Rattle.std.proofs.Math.Path.{refl, ap, ap₂}
use Rattle.std.proofs.Common.{sym, ◌∙◌, zero-add, mod-eq_of_lt, lit<, length-set}
use Rattle.std.proofs.Math.Logic.{inl, inr, ⊎_elim}
use mathlib.Core.List.{List, [], ◌∷◌, ◌++◌}
use Prim.Native.Nat.{ℕ, zero, suc, ◌+◌, ◌*◌, ◌%◌, ◌^◌, ◌≤◌, ◌<◌, min}
use native.Mathlib.Omega.{arith}
use Rattle.std.proofs.Math.ListN.{set, take}
use Rattle.model.specs.Sizes.{session_limit, string_limit}
use Rattle.state.specs.Grid.{part}
use Rattle.model.specs.State.{Waiting, Server}
use Rattle.state.specs.Table.{tab, tab_same, tab_set, tab_more, get_d_tab, length_tab}
use Rattle.state.specs.Layout.{LOCKS, CLOCK, HOLDER, SHARERS, KEY, COUNT, ENTRIES, REQUESTS, REQUEST, QUEUE, WORDS}
use Rattle.state.specs.View.{memory, word, key_of, entries_of, slot_at, request_at, waiting_of, locks_of, view}
use Rattle.state.specs.Change.{off, here, key_off, past_homes, entries_off, rest_off}
use Rattle.queue.specs.Requests.{count_of, Idle, string_at, slot_small, unseen}

-- stands where no request does
abbrev pub no_request : Waiting
no_request = record { slot = 0; deadline = 0; string = [] }

abbrev pub on_waiting : Server → (List Waiting → List Waiting) → Server
on_waiting d g = record { locks = record { clock = d.locks.clock; entries = d.locks.entries; waiting = g d.locks.waiting }; rest = d.rest }

-- how many wait, and who
pub count_is : (w s : List ℕ) → count_of w ≡ length (locks_of w s).waiting
unfolding locks_of waiting_of
count_is w s = sym (length_tab (λ (j : ℕ). request_at w s (slot_at w j)) 0 (count_of w))

pub waiting_at : (w s : List ℕ) (j : ℕ) → j < count_of w → get_or (locks_of w s).waiting j no_request ≡ request_at w s (slot_at w j)
unfolding locks_of waiting_of
waiting_at w s j h = get_d_tab (λ (j : ℕ). request_at w s (slot_at w j)) 0 (count_of w) j no_request h ∙ ap (λ (j : ℕ). request_at w s (slot_at w j)) (zero-add j)

-- a store among the words of the queue leaves all but the waiting requests
module _ (w s : List ℕ) (a v : ℕ) (o : (a ≡ COUNT) ⊎ (QUEUE ≤ a)) where
  queue_stored : (ws : List Waiting) → waiting_of (set w a v) s ≡ ws → view (memory (set w a v) s) ≡ on_waiting (view (memory w s)) (λ (x : List Waiting). ws)
  unfolding locks_of
  queue_stored ws e =
      let p : (n : ℕ) → n < COUNT → n ≡ a → ⊥ = (λ n l q. ⊎_elim (λ (x : a ≡ COUNT). omega arith) (λ (x : QUEUE ≤ a). omega arith) o) in
      let t : (a < ENTRIES) ⊎ (REQUESTS ≤ a) = ⊎_elim (λ (x : a ≡ COUNT). inl (omega arith)) (λ (x : QUEUE ≤ a). inr (omega arith)) o in
      let r : LOCKS ≤ a = ⊎_elim (λ (x : a ≡ COUNT). omega arith) (λ (x : QUEUE ≤ a). omega arith) o in
      λ k. record {
        locks = record {
          clock = off w a v CLOCK (p CLOCK (lit< tt)) k % 2 ^ 63;
          entries = (ap (entries_of (set w a v)) (key_off w s a v (p KEY (lit< tt))) ∙ entries_off w (key_of w s) a v (p HOLDER (lit< tt)) (p SHARERS (lit< tt)) (past_homes w a r) t) k;
          waiting = e k;
        };
        rest = rest_off w s s a v r refl k;
      }

  -- a request as its row has it
  pub request_row : (i : ℕ) → i < session_limit → request_at (set w a v) s i ≡ request_at w s i
  unfolding request_at
  request_row i l =
      let n : (g : ℕ) → g < REQUEST → REQUESTS + i * REQUEST + g ≡ a → ⊥ = (λ g x q. ⊎_elim (λ (y : a ≡ COUNT). omega arith) (λ (y : QUEUE ≤ a). omega arith) o) in
      let b : REQUESTS + i * REQUEST + 0 ≡ REQUESTS + i * REQUEST = omega arith in
      λ k. record {
        slot = i;
        deadline = off w a v (REQUESTS + i * REQUEST) (λ q. n 0 (lit< tt) (b ∙ q)) k;
        string = take (off w a v (REQUESTS + i * REQUEST + 1) (n 1 (lit< tt)) k) (part s (string_limit + i * string_limit) string_limit);
      }

pub slot_here : (w : List ℕ) (k v : ℕ) → k < session_limit → length w ≡ WORDS → v < session_limit → slot_at (set w (QUEUE + k) v) k ≡ v
unfolding slot_at
slot_here w k v h n l = ap (λ (x : ℕ). x % session_limit) (here w (QUEUE + k) v (omega arith)) ∙ mod-eq_of_lt l

pub slot_off : (w : List ℕ) (a v j : ℕ) → (QUEUE + j ≡ a → ⊥) → slot_at (set w a v) j ≡ slot_at w j
unfolding slot_at
slot_off w a v j o = ap (λ (x : ℕ). x % session_limit) (off w a v (QUEUE + j) o)

-- the slot at place k of the queue becomes v
module _ (w s : List ℕ) (k v : ℕ) (h : k < count_of w) (l : v < session_limit) (long : length w ≡ WORDS) where
  placed : waiting_of (set w (QUEUE + k) v) s ≡ set (waiting_of w s) k (request_at w s v)
  unfolding waiting_of
  placed =
      let a : ℕ = QUEUE + k in
      let w' : List ℕ = set w a v in
      let o : (a ≡ COUNT) ⊎ (QUEUE ≤ a) = inr (omega arith) in
      ap (λ (x : ℕ). tab (λ (j : ℕ). request_at w' s (slot_at w' j)) 0 (min x session_limit)) (off w a v COUNT (omega arith))
      ∙ tab_set (λ (j : ℕ). request_at w s (slot_at w j)) (λ (j : ℕ). request_at w' s (slot_at w' j)) 0 (count_of w) k (request_at w s v) h
      (ap (λ (j : ℕ). request_at w' s (slot_at w' j)) (zero-add k) ∙ ap (request_at w' s) (slot_here w k v (omega arith) long l) ∙ request_row w s a v o v l)
      (λ j p q n.
      ap (request_at w' s) (slot_off w a v j (λ e. n (let z : j ≡ 0 + k = omega arith in z)))
      ∙ request_row w s a v o (slot_at w j) (slot_small w j))

  pub slot_placed : view (memory (set w (QUEUE + k) v) s) ≡ on_waiting (view (memory w s)) (λ (x : List Waiting). set x k (request_at w s v))
  unfolding locks_of
  slot_placed = queue_stored w s (QUEUE + k) v (inr (omega arith)) (set (waiting_of w s) k (request_at w s v)) placed

-- the request at j is moved to k
pub moved : (w s : List ℕ) (j k : ℕ) → j < count_of w → k < count_of w → length w ≡ WORDS
    → view (memory (set w (QUEUE + k) (slot_at w j)) s) ≡ on_waiting (view (memory w s)) (λ (x : List Waiting). set x k (get_or x j no_request))
moved w s j k h l long =
    slot_placed w s k (slot_at w j) l (slot_small w j) long
    ∙ ap (λ (r : Waiting). on_waiting (view (memory w s)) (λ (x : List Waiting). set x k r)) (sym (waiting_at w s j h))

-- the requests at j and k change places
pub swapped : (w s : List ℕ) (j k : ℕ) → j < count_of w → k < count_of w → length w ≡ WORDS
    → view (memory (set (set w (QUEUE + k) (slot_at w j)) (QUEUE + j) (slot_at w k)) s)
    ≡ on_waiting (view (memory w s)) (λ (x : List Waiting). set (set x k (get_or x j no_request)) j (get_or x k no_request))
swapped w s j k h l long =
    let w₁ : List ℕ = set w (QUEUE + k) (slot_at w j) in
    let c : count_of w₁ ≡ count_of w = ap (λ (x : ℕ). min x session_limit) (off w (QUEUE + k) (slot_at w j) COUNT (omega arith)) in
    let r : request_at w₁ s (slot_at w k) ≡ get_or (locks_of w s).waiting k no_request =
    request_row w s (QUEUE + k) (slot_at w j) (inr (omega arith)) (slot_at w k) (slot_small w k) ∙ sym (waiting_at w s k l) in
    slot_placed w₁ s j (slot_at w k) (omega arith) (slot_small w k) (length-set w (QUEUE + k) (slot_at w j) ∙ long)
    ∙ ap (λ (x : Waiting). on_waiting (view (memory w₁ s)) (λ (y : List Waiting). set y j x)) r
    ∙ ap (λ (d : Server). on_waiting d (λ (y : List Waiting). set y j (get_or (locks_of w s).waiting k no_request))) (moved w s j k h l long)

-- a place behind the count is not seen
pub past_count : (w s : List ℕ) (p v : ℕ) → count_of w ≤ p → view (memory (set w (QUEUE + p) v) s) ≡ view (memory w s)
unfolding locks_of waiting_of
past_count w s p v h =
    let a : ℕ = QUEUE + p in
    λ k. record {
      locks = record {
        clock = off w a v CLOCK (omega arith) k % 2 ^ 63;
        entries = (ap (entries_of (set w a v)) (key_off w s a v (omega arith)) ∙ entries_off w (key_of w s) a v (omega arith) (omega arith) (past_homes w a (omega arith)) (inr (omega arith))) k;
        waiting = (ap (λ (x : ℕ). tab (λ (j : ℕ). request_at (set w a v) s (slot_at (set w a v) j)) 0 (min x session_limit)) (off w a v COUNT (omega arith))
            ∙ tab_same (λ (j : ℕ). request_at (set w a v) s (slot_at (set w a v) j)) (λ (j : ℕ). request_at w s (slot_at w j)) 0 (count_of w)
            (λ j x y. ap (request_at (set w a v) s) (slot_off w a v j (omega arith)) ∙ request_row w s a v (inr (omega arith)) (slot_at w j) (slot_small w j))) k;
      };
      rest = rest_off w s s a v (omega arith) refl k;
    }

-- the first n are kept
tab_take : {A : Type 0} (f : ℕ → A) (a m n : ℕ) → n ≤ m → tab f a n ≡ take n (tab f a m)
unfolding tab
tab_take f a m zero h = refl
tab_take f a zero (suc n) h = absurd (omega arith)
tab_take {A} f a (suc m) (suc n) h = ap (λ (l : List A). f a ∷ l) (tab_take f (suc a) m n (omega arith))

module _ (w s : List ℕ) (n : ℕ) (long : length w ≡ WORDS) where
  counted : count_of (set w COUNT n) ≡ min n session_limit
  counted = ap (λ (x : ℕ). min x session_limit) (here w COUNT n (omega arith))

  rows_stay : (m : ℕ) → tab (λ (j : ℕ). request_at (set w COUNT n) s (slot_at (set w COUNT n) j)) 0 m ≡ tab (λ (j : ℕ). request_at w s (slot_at w j)) 0 m
  rows_stay m =
      tab_same (λ (j : ℕ). request_at (set w COUNT n) s (slot_at (set w COUNT n) j)) (λ (j : ℕ). request_at w s (slot_at w j)) 0 m
      (λ j p q. ap (request_at (set w COUNT n) s) (slot_off w COUNT n j (omega arith)) ∙ request_row w s COUNT n (inl refl) (slot_at w j) (slot_small w j))

  pub cut_short : n ≤ count_of w → view (memory (set w COUNT n) s) ≡ on_waiting (view (memory w s)) (take n)
  unfolding locks_of waiting_of
  cut_short h =
      let e : min n session_limit ≡ n = omega arith in
      queue_stored w s COUNT n (inl refl) (take n (waiting_of w s))
      (ap (tab (λ (j : ℕ). request_at (set w COUNT n) s (slot_at (set w COUNT n) j)) 0) (counted ∙ e)
      ∙ rows_stay n
      ∙ tab_take (λ (j : ℕ). request_at w s (slot_at w j)) 0 (count_of w) n h)

-- slot i's request, its string laid already, is put at the end with a deadline
module _ (w s : List ℕ) (i d : ℕ) (h : i < session_limit) (long : length w ≡ WORDS) (room : count_of w < session_limit)
    (free : Idle w i) where
  abbrev pub dated : List ℕ
  dated = set w (REQUESTS + i * REQUEST + 0) d

  dated_view : view (memory dated s) ≡ view (memory w s)
  dated_view = unseen w s s i 0 d h (lit< tt) long free (λ j l o. refl) refl refl

  dated_request : request_at dated s i ≡ record { slot = i; deadline = d; string = string_at w s i }
  unfolding request_at
  dated_request =
      let a : ℕ = REQUESTS + i * REQUEST + 0 in
      let e : REQUESTS + i * REQUEST ≡ a = omega arith in
      λ k. record {
        slot = i;
        deadline = (ap (word (set w a d)) e ∙ here w a d (omega arith)) k;
        string = take (off w a d (REQUESTS + i * REQUEST + 1) (omega arith) k) (part s (string_limit + i * string_limit) string_limit);
      }

  dated_count : count_of dated ≡ count_of w
  dated_count = ap (λ (x : ℕ). min x session_limit) (off w (REQUESTS + i * REQUEST + 0) d COUNT (omega arith))

  dated_length : length dated ≡ WORDS
  dated_length = length-set w (REQUESTS + i * REQUEST + 0) d ∙ long

  abbrev pub ended : List ℕ
  ended = set dated (QUEUE + count_of w) i

  ended_length : length ended ≡ WORDS
  ended_length = length-set dated (QUEUE + count_of w) i ∙ dated_length

  -- the rows before the end, and the one at the end
  rows_before : tab (λ (j : ℕ). request_at ended s (slot_at ended j)) 0 (count_of w) ≡ waiting_of w s
  unfolding waiting_of locks_of
  rows_before =
      let a : ℕ = QUEUE + count_of w in
      tab_same (λ (j : ℕ). request_at ended s (slot_at ended j)) (λ (j : ℕ). request_at dated s (slot_at dated j)) 0 (count_of w)
      (λ j p q. ap (request_at ended s) (slot_off dated a i j (omega arith)) ∙ request_row dated s a i (inr (omega arith)) (slot_at dated j) (slot_small dated j))
      ∙ ap (tab (λ (j : ℕ). request_at dated s (slot_at dated j)) 0) (sym dated_count)
      ∙ ap (λ (x : Server). x.locks.waiting) dated_view

  row_end : request_at ended s (slot_at ended (0 + count_of w)) ≡ record { slot = i; deadline = d; string = string_at w s i }
  row_end =
      let a : ℕ = QUEUE + count_of w in
      ap (λ (j : ℕ). request_at ended s (slot_at ended j)) (zero-add (count_of w))
      ∙ ap (request_at ended s) (slot_here dated (count_of w) i room dated_length h)
      ∙ request_row dated s a i (inr (omega arith)) i h
      ∙ dated_request

  all_rows : waiting_of (set ended COUNT (count_of w + 1)) s ≡ waiting_of w s ++ (record { slot = i; deadline = d; string = string_at w s i } ∷ [])
  unfolding waiting_of
  all_rows =
      let n : ℕ = count_of w in
      let e : min (n + 1) session_limit ≡ suc n = omega arith in
      ap (tab (λ (j : ℕ). request_at (set ended COUNT (n + 1)) s (slot_at (set ended COUNT (n + 1)) j)) 0) (counted ended s (n + 1) ended_length ∙ e)
      ∙ rows_stay ended s (n + 1) ended_length (suc n)
      ∙ tab_more (λ (j : ℕ). request_at ended s (slot_at ended j)) 0 n
      ∙ ap₂ (λ (x : List Waiting) (y : Waiting). x ++ (y ∷ [])) rows_before row_end

  pub queued : view (memory (set ended COUNT (count_of w + 1)) s)
      ≡ on_waiting (view (memory w s)) (λ (x : List Waiting). x ++ (record { slot = i; deadline = d; string = string_at w s i } ∷ []))
  unfolding locks_of
  queued =
      let ws : List Waiting = waiting_of w s ++ (record { slot = i; deadline = d; string = string_at w s i } ∷ []) in
      let a : ℕ = QUEUE + count_of w in
      queue_stored ended s COUNT (count_of w + 1) (inl refl) ws all_rows
      ∙ ap (λ (x : Server). on_waiting x (λ (y : List Waiting). ws)) (queue_stored dated s a i (inr (omega arith)) (waiting_of ended s) refl)
      ∙ ap (λ (x : Server). on_waiting x (λ (y : List Waiting). ws)) dated_view
