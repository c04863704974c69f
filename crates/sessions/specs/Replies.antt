-- Error and FatalError as the model plans them, and their frames in the buffer. Assumes nothing.
use Rattle.std.specs.Prelude.{◌≡◌, refl, ℕ, ◌+◌, ◌-◌, ◌%◌, ◌≤◌}
use Rattle.std.proofs.Math.Path.{sym, ap, ap₂}
use Rattle.std.proofs.Common.{◌∙◌, true≢false, zero-add, arith}
use mathlib.Core.List.{List, [], ◌∷◌, ◌++◌, map, append-nil}
use Rattle.std.proofs.Math.ListN.{length, length-append, get_or-eq_default}
use Rattle.wire.specs.Frame.{Frame, frame_of, frame_bytes, bytes_of, bytes_one, written, length_frame}
use Rattle.wire.specs.Splice.{splice, splice_nil, splice_then, splice_splice}
use Rattle.model.specs.Sizes.{session_limit}
use Rattle.model.specs.MessageTypes.{FatalError, Error}
use Rattle.model.specs.State.{Server, Rest, Entry, Connection, at, blank, open_connection, connection_at, with_connection}
use Rattle.model.specs.Interface.{Reply.took, delivery_answer, Outcome.skipped, Outcome.ignored, Outcome.error_sent, Outcome.closed}
use Rattle.model.specs.Locks.{LockEvent.close, change, grant_pass}
use Rattle.model.specs.Acts.{Plan, say}
use Rattle.model.specs.Step.{finish, closing, lock_frame}
use Rattle.state.specs.Grid.{upd_upd, upd_set}
use Rattle.state.specs.Change.{on_rest, on_connection, connection_with}
use Rattle.state.specs.Tidy.{Tidy}
use Rattle.state.specs.View.{Memory, flag, locks_of}
use Rattle.sessions.specs.declared.Delivery.{Delivery}
use Rattle.sessions.specs.Did.{Did, numbers_of, plainly}
use Rattle.state.specs.Change.{sessions_held}
use Rattle.holding.specs.Outcome.{bytes_of_append}
use Rattle.sessions.specs.Closing.{ClosesPlace, closed_server}

-- the plans
abbrev pub error_plan : Server → ℕ → ℕ → ℕ → ℕ → Plan
error_plan d c n k l = plainly (took error_sent k 0) (with_connection d.rest c (open_connection l)) (say c Error n 0)

abbrev pub skip_plan : Server → ℕ → ℕ → Plan
skip_plan d c k = plainly (took skipped k 0) (with_connection d.rest c (open_connection ((connection_at d.rest c).remainder - k))) []

abbrev pub ignore_plan : Server → ℕ → Plan
ignore_plan d k = plainly (took ignored k 0) d.rest []

abbrev pub close_plan : Server → ℕ → ℕ → List Frame → Plan
close_plan d c i fs = record { reply = took closed 0 (at d.locks.entries i).number; rest = closing d c; first = []; said = fs; event = close i }

abbrev pub fatals : ℕ → List ℕ → List Frame
fatals n xs = map (λ (x : ℕ). frame_of x FatalError n 0 []) xs

-- two stores write a connection's row
pub connection_written : (x v l : ℕ) (d d₁ d₂ : Server) → d₁ ≡ on_connection d x (connection_with 0 v) → d₂ ≡ on_connection d₁ x (connection_with 1 l)
    → d₂ ≡ on_rest d (λ (r : Rest). with_connection r x (record { is_open = flag (v % 2); remainder = l }))
connection_written x v l d d₁ d₂ e₁ e₂ =
    e₂
    ∙ ap (λ (y : Server). on_connection y x (connection_with 1 l)) e₁
    ∙ ap (λ (z : List Connection). on_rest d (λ (r : Rest). record {
      exchanges = r.exchanges;
      sensings = r.sensings;
      connections = z;
      last_issued = r.last_issued;
      made = r.made;
      status = r.status;
      remote_local = r.remote_local;
      allowed = r.allowed;
    }))
    (upd_upd d.rest.connections x (connection_with 0 v) (connection_with 1 l)
    ∙ sym (upd_set d.rest.connections x (record { is_open = flag (v % 2); remainder = l }) (λ (y : Connection). record { is_open = flag (v % 2); remainder = l })))

-- a frame without payload is 17 bytes
pub length_one : (c t n p : ℕ) → length (bytes_of (say c t n p)) ≡ 17
length_one c t n p = ap length (bytes_one (frame_of c t n p [])) ∙ length_frame (frame_of c t n p [])

pub one_frame : (out out' : List ℕ) (f : Frame) → out' ≡ splice out 0 (frame_bytes f) → out' ≡ written out (f ∷ [])
one_frame out out' f e = e ∙ ap (splice out 0) (sym (bytes_one f))

-- a closing: what is said first, then the answers of the grant pass
pub did_closing : (d : Server) (c i : ℕ) (fs : List Frame) (r : Delivery) (m m' : Memory) (out out₁ out' : List ℕ) (at' end : ℕ)
    → out₁ ≡ splice out 0 (bytes_of fs) → at' ≡ length (bytes_of fs) → length (bytes_of fs) ≤ length out → ClosesPlace d c i m' out₁ out' at' end
    → numbers_of r ≡ delivery_answer (took closed 0 (at d.locks.entries i).number) end 0 → (Tidy m → Tidy m')
    → Did (finish d (close_plan d c i fs)) r m m' out out'
unfolding finish change
did_closing d c i fs r m m' out out₁ out' at' end b a room p n t =
    let gs : List Frame = map lock_frame (grant_pass (closed_server d c i).locks).answers in
    let e : bytes_of (fs ++ gs) ≡ bytes_of fs ++ bytes_of gs = bytes_of_append fs gs in
    let z : 0 + length (bytes_of fs) ≡ length (bytes_of fs) = zero-add (length (bytes_of fs)) in
    let l : end ≡ length (bytes_of (fs ++ gs)) = p.place ∙ ap (λ (x : ℕ). x + length (bytes_of gs)) a ∙ sym (ap length e ∙ length-append (bytes_of fs) (bytes_of gs)) in
    let q : 0 + length (bytes_of fs) ≤ length out = omega arith in
    record {
      numbers = n ∙ ap (λ (x : ℕ). delivery_answer (took closed 0 (at d.locks.entries i).number) x 0) l;
      server = p.server;
      buffer = p.buffer ∙ ap₂ (λ (x : List ℕ) (y : ℕ). splice x y (bytes_of gs)) b (a ∙ sym z) ∙ splice_splice out 0 (bytes_of fs) q (bytes_of gs) ∙ ap (splice out 0) (sym e);
      same_memory = λ y. absurd (true≢false (sym y));
      same_buffer = λ y. absurd (true≢false (sym y));
      tidy = t;
    }

-- past the table there is no number
pub number_past : (w s : List ℕ) (i : ℕ) → session_limit ≤ i → (at (locks_of w s).entries i).number ≡ 0
number_past w s i h =
    let l : length (locks_of w s).entries ≤ i = rw (sessions_held w s) h in
    ap (λ (e : Entry). e.number) (get_or-eq_default (locks_of w s).entries blank l)

-- a second frame behind the first
pub two_frames : (out out₁ out₂ : List ℕ) (f g : Frame) → length (frame_bytes f) ≡ 17 → 17 ≤ length out → out₁ ≡ splice out 0 (frame_bytes f) → out₂ ≡ splice out₁ 17 (frame_bytes g)
    → out₂ ≡ splice out 0 (bytes_of (f ∷ g ∷ []))
unfolding bytes_of
two_frames out out₁ out₂ f g n h e₁ e₂ =
    e₂ ∙ ap (λ (x : List ℕ). splice x 17 (frame_bytes g)) e₁
    ∙ splice_then out 0 (frame_bytes f) 17 (frame_bytes g) n h
    ∙ ap (λ (x : List ℕ). splice out 0 (frame_bytes f ++ x)) (sym (append-nil (frame_bytes g)))

-- a FatalError to one connection, to two
module _ (out out' : List ℕ) (code x : ℕ) (xs : List ℕ) where
  pub fatal_one : xs ≡ x ∷ [] → out' ≡ splice out 0 (frame_bytes (frame_of x FatalError code 0 [])) → out' ≡ splice out 0 (bytes_of (fatals code xs))
  fatal_one e b = one_frame out out' (frame_of x FatalError code 0 []) b ∙ ap (λ (l : List ℕ). splice out 0 (bytes_of (fatals code l))) (sym e)

  pub fatal_one_length : xs ≡ x ∷ [] → 17 ≡ length (bytes_of (fatals code xs))
  fatal_one_length e = sym (length_one x FatalError code 0) ∙ ap (λ (l : List ℕ). length (bytes_of (fatals code l))) (sym e)

  pub fatal_two : (out₁ : List ℕ) (y : ℕ) → xs ≡ x ∷ y ∷ [] → 17 ≤ length out → out₁ ≡ splice out 0 (frame_bytes (frame_of x FatalError code 0 [])) →
      out' ≡ splice out₁ 17 (frame_bytes (frame_of y FatalError code 0 []))
      → out' ≡ splice out 0 (bytes_of (fatals code xs))
  fatal_two out₁ y e h p q =
      two_frames out out₁ out' (frame_of x FatalError code 0 []) (frame_of y FatalError code 0 []) (length_frame (frame_of x FatalError code 0 [])) h p q
      ∙ ap (λ (l : List ℕ). splice out 0 (bytes_of (fatals code l))) (sym e)

  pub fatal_two_length : (y : ℕ) → xs ≡ x ∷ y ∷ [] → 34 ≡ length (bytes_of (fatals code xs))
  unfolding bytes_of
  fatal_two_length y e =
      let f : Frame = frame_of x FatalError code 0 [] in
      let g : Frame = frame_of y FatalError code 0 [] in
      let l : length (frame_bytes f ++ (frame_bytes g ++ [])) ≡ 34 =
      length-append (frame_bytes f) (frame_bytes g ++ []) ∙ ap₂ (λ (a b : ℕ). a + b) (length_frame f) (length-append (frame_bytes g) [] ∙ ap (λ (a : ℕ). a + 0) (length_frame g)) in
      sym l ∙ ap (λ (z : List ℕ). length (bytes_of (fatals code z))) (sym e)

-- nothing said: a closing without reply
pub nothing_said : (out : List ℕ) → out ≡ splice out 0 (bytes_of [])
unfolding bytes_of
nothing_said out = sym (splice_nil out 0)

pub nothing_long : 0 ≡ length (bytes_of [])
unfolding bytes_of
nothing_long = refl
