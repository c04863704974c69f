-- The queue of waiting requests, walked from the oldest on: what is kept so far stands at its front, what is still to be looked at from
-- place j on, and the two give the whole. Assumes nothing.
use Rattle.std.specs.Prelude.{◌≡◌, refl, Bool, true, false, not, cond, List, [], ◌∷◌, ◌++◌, ℕ, ◌+◌, ◌≤◌, ◌<◌, eqb, leb, ltb, length, get_or, set, take, drop}
use Rattle.std.proofs.Common.{sym, ap, ap₂, ◌∙◌, append-nil, add-one, arith, length-set, drop_of_length-le, drop-cons, drop-set-lt, set-set, take-suc-set, eqb-true, lt-ltb, le-ltb, leb-true, leb-false}
use Rattle.std.proofs.lemmas.List.{take-set-le}
use Rattle.std.proofs.Math.Seq.{append_snoc}
use Rattle.std.proofs.lemmas.Bool.{eqb-false}
use Rattle.wire.specs.Frame.{frame_bytes}
use Rattle.holding.specs.declared.waiting.Leaving.{Leaving}
use Rattle.holding.specs.declared.waiting.Leaving.TheVariants.{OfSlot, By}
use Rattle.wire.specs.Splice.{splice}
use Rattle.model.specs.Lists.{keep}
use Rattle.model.specs.State.{Entry, Waiting, Locks, Server}
use Rattle.model.specs.Locks.{Answer, LockResult, tell, elsewhere, unexpired, refuse, with_waiting}
use Rattle.queue.specs.Queue.{no_request, on_waiting, count_is}
use Rattle.queue.specs.Requests.{count_of}
use Rattle.state.specs.View.{memory, request_at, locks_of, view}
use Rattle.holding.specs.Outcome.{ends, ends_cons, lock_answer_frame}

-- what stays in a sweep: the requests of other slots, or those whose deadline is past a reading
abbrev pub stays : Leaving → Waiting → Bool
stays (OfSlot i) r = elsewhere i r
stays (By t) r = unexpired t r

-- by the tests of the code
pub else_stays : (w s : List ℕ) (x i : ℕ) → stays (OfSlot i) (request_at w s x) ≡ not (eqb x i)
unfolding request_at
else_stays w s x i = refl

pub past_stays : (w s : List ℕ) (x t d : ℕ) → (request_at w s x).deadline ≡ d → stays (By t) (request_at w s x) ≡ ltb t d
past_stays w s x t d e = rw e (later d t)
  where
    later : (d t : ℕ) → not (leb d t) ≡ ltb t d
    later d t = by (leb d t) refl
      where
        by : (b : Bool) → leb d t ≡ b → not b ≡ ltb t d
        by true e = sym (le-ltb t d (leb-true d t e))
        by false e = sym (lt-ltb t d (leb-false d t e))

-- a sweep: what does not stay is answered 0
unfoldable pub swept : Locks → Leaving → LockResult
swept l g = record { locks = with_waiting l (keep (stays g) l.waiting); answers = refuse l.entries (stays g) l.waiting }

-- the slot of a request, as its row has it
pub slot_is : (w s : List ℕ) (i : ℕ) → (request_at w s i).slot ≡ i
unfolding request_at
slot_is w s i = refl

-- two requests that change places
abbrev pub swapped : List Waiting → ℕ → ℕ → List Waiting
swapped ws j k = set (set ws k (get_or ws j no_request)) j (get_or ws k no_request)

-- the queue from place j on
module _ (ws : List Waiting) (j : ℕ) (r : Waiting) (h : j < length ws) (e : get_or ws j no_request ≡ r) where
  pub next : drop j ws ≡ r ∷ drop (j + 1) ws
  next = drop-cons ws j no_request h ∙ ap₂ (λ (x : Waiting) (n : ℕ). x ∷ drop n ws) e (sym (add-one j))

  -- the request at j changes places with that at k, behind those that are kept
  module _ (k : ℕ) (l : k ≤ j) where
    pub moved_on : drop (j + 1) (swapped ws j k) ≡ drop (j + 1) ws
    moved_on = drop-set-lt (j + 1) (set ws k (get_or ws j no_request)) j (get_or ws k no_request) (omega arith) ∙ drop-set-lt (j + 1) ws k (get_or ws j no_request) (omega arith)

    front : take (k + 1) (swapped ws j k) ≡ take (k + 1) (set ws k r)
    front = by (eqb j k) refl ∙ ap (λ (x : Waiting). take (k + 1) (set ws k x)) e
      where
        by : (b : Bool) → eqb j k ≡ b → take (k + 1) (swapped ws j k) ≡ take (k + 1) (set ws k (get_or ws j no_request))
        by true q =
            let z : j ≡ k = eqb-true j k q in
            ap (λ (x : ℕ). take (k + 1) (swapped ws x k)) z
            ∙ ap (take (k + 1)) (set-set ws k (get_or ws k no_request) (get_or ws k no_request))
            ∙ ap (λ (x : ℕ). take (k + 1) (set ws k (get_or ws x no_request))) (sym z)
        by false q = take-set-le (k + 1) (set ws k (get_or ws j no_request)) j (get_or ws k no_request) (let o : j ≡ k → ⊥ = eqb-false j k q in omega arith)

    pub kept_more : (xs : List Waiting) → take (k + 1) (swapped ws j k) ++ xs ≡ take k ws ++ r ∷ xs
    kept_more xs =
        ap (λ (l : List Waiting). l ++ xs) front
        ∙ ap (λ (n : ℕ). take n (set ws k r) ++ xs) (add-one k)
        ∙ ap (λ (l : List Waiting). l ++ xs) (take-suc-set ws k r (omega arith))
        ∙ append_snoc (take k ws) r xs

-- answering those that do not stay, oldest first: a turn of the walk
module _ (es : List Entry) (p : Waiting → Bool) (ws : List Waiting) (j : ℕ) (r : Waiting) (h : j < length ws) (e : get_or ws j no_request ≡ r) where
  pub refuse_stay : p r ≡ true → refuse es p (drop j ws) ≡ refuse es p (drop (j + 1) ws)
  refuse_stay q =
      ap (refuse es p) (next ws j r h e)
      ∙ ap (λ (b : Bool). cond b (refuse es p (drop (j + 1) ws)) (tell es r.slot 0 true ∷ refuse es p (drop (j + 1) ws))) q

  pub refuse_leave : p r ≡ false → refuse es p (drop j ws) ≡ tell es r.slot 0 true ∷ refuse es p (drop (j + 1) ws)
  refuse_leave q =
      ap (refuse es p) (next ws j r h e)
      ∙ ap (λ (b : Bool). cond b (refuse es p (drop (j + 1) ws)) (tell es r.slot 0 true ∷ refuse es p (drop (j + 1) ws))) q

  pub answer_leave : (x : ℕ) (out : List ℕ) (at : ℕ) → r.slot ≡ x → p r ≡ false → at + 17 ≤ length out
      → ends (refuse es p (drop j ws)) out at ≡ ends (refuse es p (drop (j + 1) ws)) (splice out at (frame_bytes (lock_answer_frame es x 0))) (at + 17)
  answer_leave x out at y q f =
      ap (λ (xs : List Answer). ends xs out at) (refuse_leave q ∙ ap (λ (n : ℕ). tell es n 0 true ∷ refuse es p (drop (j + 1) ws)) y)
      ∙ ends_cons (tell es x 0 true) (refuse es p (drop (j + 1) ws)) out at f

  -- keeping those that stay
  pub keep_stay : p r ≡ true → keep p (drop j ws) ≡ r ∷ keep p (drop (j + 1) ws)
  keep_stay q =
      ap (keep p) (next ws j r h e) ∙ ap (λ (b : Bool). cond b (r ∷ keep p (drop (j + 1) ws)) (keep p (drop (j + 1) ws))) q

  pub keep_leave : p r ≡ false → keep p (drop j ws) ≡ keep p (drop (j + 1) ws)
  keep_leave q =
      ap (keep p) (next ws j r h e) ∙ ap (λ (b : Bool). cond b (r ∷ keep p (drop (j + 1) ws)) (keep p (drop (j + 1) ws))) q

  pub keep_moved : (k : ℕ) → k ≤ j → p r ≡ true
      → take (k + 1) (swapped ws j k) ++ keep p (drop (j + 1) (swapped ws j k)) ≡ take k ws ++ keep p (drop j ws)
  keep_moved k l q =
      ap (λ (xs : List Waiting). take (k + 1) (swapped ws j k) ++ keep p xs) (moved_on ws j r h e k l)
      ∙ kept_more ws j r h e k l (keep p (drop (j + 1) ws))
      ∙ ap (λ (xs : List Waiting). take k ws ++ xs) (sym (keep_stay q))

-- behind the last nothing is left
pub refuse_end : (es : List Entry) (p : Waiting → Bool) (ws : List Waiting) (j : ℕ) → length ws ≤ j → refuse es p (drop j ws) ≡ []
refuse_end es p ws j h = ap (refuse es p) (drop_of_length-le ws h)

pub keep_end : (p : Waiting → Bool) (ws : List Waiting) (j k : ℕ) → length ws ≤ j → take k ws ++ keep p (drop j ws) ≡ take k ws
keep_end p ws j k h = ap (λ (xs : List Waiting). take k ws ++ keep p xs) (drop_of_length-le ws h) ∙ append-nil (take k ws)

-- the queue with the kept ones at its front, k of them, and from j on those that are still to be looked at
abbrev pub halfway : (Waiting → Bool) → ℕ → ℕ → Server → Server
halfway p j k d = on_waiting d (λ (x : List Waiting). take k x ++ keep p (drop j x))

module _ (p : Waiting → Bool) (d : Server) (j k : ℕ) (r : Waiting) (h : j < length d.locks.waiting) (e : get_or d.locks.waiting j no_request ≡ r) where
  pub halfway_stay : (d' : Server) → d' ≡ on_waiting d (λ (x : List Waiting). swapped x j k) → k ≤ j → p r ≡ true
      → halfway p (j + 1) (k + 1) d' ≡ halfway p j k d
  halfway_stay d' m l q =
      ap (halfway p (j + 1) (k + 1)) m
      ∙ ap (λ (ws : List Waiting). on_waiting d (λ (x : List Waiting). ws)) (keep_moved d.locks.entries p d.locks.waiting j r h e k l q)

  pub halfway_leave : p r ≡ false → halfway p (j + 1) k d ≡ halfway p j k d
  halfway_leave q =
      ap (λ (ws : List Waiting). on_waiting d (λ (x : List Waiting). take k d.locks.waiting ++ ws)) (sym (keep_leave d.locks.entries p d.locks.waiting j r h e q))

pub halfway_end : (p : Waiting → Bool) (d d' : Server) (j k : ℕ) → length d.locks.waiting ≤ j → d' ≡ on_waiting d (take k) → d' ≡ halfway p j k d
halfway_end p d d' j k h m = m ∙ ap (λ (ws : List Waiting). on_waiting d (λ (x : List Waiting). ws)) (sym (keep_end p d.locks.waiting j k h))

-- as many wait as before where one was only moved
pub count_moved : (w w' : List ℕ) (j k : ℕ) → view (memory w' []) ≡ on_waiting (view (memory w [])) (λ (x : List Waiting). swapped x j k) → count_of w' ≡ count_of w
count_moved w w' j k m =
    count_is w' []
    ∙ ap (λ (d : Server). length d.locks.waiting) m
    ∙ length-set (set (locks_of w []).waiting k (get_or (locks_of w []).waiting j no_request)) j (get_or (locks_of w []).waiting k no_request)
    ∙ length-set (locks_of w []).waiting k (get_or (locks_of w []).waiting j no_request)
    ∙ sym (count_is w [])
