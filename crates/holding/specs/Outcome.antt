-- What a function ensures that does what the model says of one lock event: the locks in memory, the rest of the server,
-- the frames in the lent buffer, and the place behind them; and that memory in order stays so. Assumes nothing.
use Rattle.std.specs.Prelude.{◌≡◌, refl, true, List, [], ◌∷◌, ◌++◌, map, ℕ, ◌+◌, ◌≤◌, length}
use Rattle.std.proofs.Common.{sym, ap, subst, ◌∙◌, append_assoc, add-zero, arith, length-append}
use Rattle.wire.specs.Frame.{Frame, frame_bytes, bytes_of, length_frame}
use Rattle.wire.specs.Splice.{splice, splice_nil, splice_then}
use Rattle.model.specs.State.{Entry, Locks, Server}
use Rattle.model.specs.Locks.{Answer, LockResult, tell}
use Rattle.model.specs.Step.{lock_frame}
use Rattle.state.specs.Tidy.{Tidy}
use Rattle.state.specs.View.{Memory, view}

-- x is the model's answer, m and m' the memory before and after, r the place behind the frames that were written from `at` on
pub record Met (x : LockResult) (m m' : Memory) (out out' : List ℕ) (at r : ℕ) : Type 0 where
  pub locks : (view m').locks ≡ x.locks
  pub rest : (view m').rest ≡ (view m).rest
  pub buffer : out' ≡ splice out at (bytes_of (map lock_frame x.answers))
  pub place : r ≡ at + length (bytes_of (map lock_frame x.answers))
  pub tidy : Tidy m → Tidy m'

-- the same of an event that is never answered
pub record Quiet (x : LockResult) (m m' : Memory) : Type 0 where
  pub locks : (view m').locks ≡ x.locks
  pub rest : (view m').rest ≡ (view m).rest
  pub silent : x.answers ≡ []
  pub tidy : Tidy m → Tidy m'

-- an answer to slot i, as a frame; whether it answers a request or a release is not seen
abbrev pub lock_answer_frame : List Entry → ℕ → ℕ → Frame
lock_answer_frame es i n = lock_frame (tell es i n true)

-- frames in a row
pub bytes_of_append : (xs ys : List Frame) → bytes_of (xs ++ ys) ≡ bytes_of xs ++ bytes_of ys
unfolding bytes_of
bytes_of_append [] ys = refl
bytes_of_append (x ∷ xs) ys = ap (λ (l : List ℕ). frame_bytes x ++ l) (bytes_of_append xs ys) ∙ sym (append_assoc (frame_bytes x) (bytes_of xs) (bytes_of ys))

-- where writing ends: the buffer and the place behind the last frame
pub record Spot : Type 0 where
  pub out : List ℕ
  pub place : ℕ

abbrev pub spot : List ℕ → ℕ → Spot
spot out at = record { out = out; place = at }

unfoldable pub ends : List Answer → List ℕ → ℕ → Spot
ends xs out at = spot (splice out at (bytes_of (map lock_frame xs))) (at + length (bytes_of (map lock_frame xs)))

pub ends_nil : (out : List ℕ) (at : ℕ) → ends [] out at ≡ spot out at
unfolding ends bytes_of
ends_nil out at = λ k. record { out = splice_nil out at k; place = add-zero at k }

-- one frame is written, the others are still to be written behind it
pub ends_cons : (a : Answer) (xs : List Answer) (out : List ℕ) (at : ℕ) → at + 17 ≤ length out
    → ends (a ∷ xs) out at ≡ ends xs (splice out at (frame_bytes (lock_frame a))) (at + 17)
unfolding ends bytes_of
ends_cons a xs out at h =
    let e : length (frame_bytes (lock_frame a)) ≡ 17 = length_frame (lock_frame a) in
    let x : List ℕ = bytes_of (map lock_frame xs) in
    let g : at + length (frame_bytes (lock_frame a) ++ x) ≡ at + 17 + length x = simp (length-append, e) (omega arith) in
    λ k. record { out = sym (splice_then out at (frame_bytes (lock_frame a)) 17 x e h) k; place = g k }

-- the contract, from where the writing ends
pub met : (x : LockResult) (m m' : Memory) (out out' : List ℕ) (at r : ℕ) → (view m').locks ≡ x.locks → (view m').rest ≡ (view m).rest
    → spot out' r ≡ ends x.answers out at → (Tidy m → Tidy m') → Met x m m' out out' at r
unfolding ends
met x m m' out out' at r l q e t =
    record { locks = l; rest = q; buffer = ap (λ (p : Spot). p.out) e; place = ap (λ (p : Spot). p.place) e; tidy = t }

-- one answer and no more
pub ends_one : (a : Answer) (out : List ℕ) (at : ℕ) → at + 17 ≤ length out → ends (a ∷ []) out at ≡ spot (splice out at (frame_bytes (lock_frame a))) (at + 17)
ends_one a out at h = ends_cons a [] out at h ∙ ends_nil (splice out at (frame_bytes (lock_frame a))) (at + 17)

-- an event that leaves locks l with one answer
abbrev pub told : Locks → Answer → LockResult
told l a = record { locks = l; answers = a ∷ [] }

pub met_one : (x : LockResult) (l : Locks) (a : Answer) (m m' : Memory) (out out' : List ℕ) (at r : ℕ) → x ≡ told l a
    → view m' ≡ record { locks = l; rest = (view m).rest } → out' ≡ splice out at (frame_bytes (lock_frame a)) → r ≡ at + 17 → at + 17 ≤ length out
    → (Tidy m → Tidy m') → Met x m m' out out' at r
met_one x l a m m' out out' at r e v o p h t =
    met x m m' out out' at r
    (ap (λ (d : Server). d.locks) v ∙ sym (ap (λ (y : LockResult). y.locks) e))
    (ap (λ (d : Server). d.rest) v)
    ((λ k. record { out = o k; place = p k }) ∙ sym (ends_one a out at h) ∙ ap (λ (y : LockResult). ends y.answers out at) (sym e))
    t

-- what does x does y, where the two are one
pub met_is : (x y : LockResult) (m m' : Memory) (out out' : List ℕ) (at r : ℕ) → x ≡ y → Met x m m' out out' at r → Met y m m' out out' at r
met_is x y m m' out out' at r e p = subst (λ (z : LockResult). Met z m m' out out' at r) e p

-- a place that did not move: nothing was written
pub no_answers : (xs : List Answer) (out : List ℕ) (at : ℕ) (out' : List ℕ) (r : ℕ) → ends xs out at ≡ spot out' r → r ≡ at → xs ≡ []
unfolding ends bytes_of
no_answers [] out at out' r e p = refl
no_answers (x ∷ xs) out at out' r e p =
    let f : length (frame_bytes (lock_frame x)) ≡ 17 = length_frame (lock_frame x) in
    let g : length (frame_bytes (lock_frame x) ++ bytes_of (map lock_frame xs)) ≡ 17 + length (bytes_of (map lock_frame xs)) = simp (length-append, f) in
    let q : at + length (frame_bytes (lock_frame x) ++ bytes_of (map lock_frame xs)) ≡ r = ap (λ (s : Spot). s.place) e in
    absurd (omega arith)
