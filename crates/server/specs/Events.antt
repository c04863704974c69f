-- The calls other than deliveries: what each ensures, its refusals in 01's order, and its plan carried out. Assumes nothing.
use Rattle.std.specs.Prelude.{◌≡◌, refl, true, false, Result as Res, Ok, Err, List, [], map, ℕ, zero, suc, ◌+◌, ◌≤◌, ◌<◌, length}
use Rattle.std.proofs.Common.{sym, ap, ◌∙◌, true≢false, append-nil, zero-add, lt-ltb, le-ltb, le-leb}
use Rattle.std.proofs.lemmas.Bool.{lt-leb}
use Rattle.wire.specs.Frame.{Frame, bytes_of, written}
use Rattle.wire.specs.Splice.{splice_nil}
use Rattle.model.specs.Sizes.{connection_limit, output_minimum, clock_limit}
use Rattle.model.specs.State.{Making, Server, Rest, fresh, connection_at, with_status}
use Rattle.model.specs.Interface.{Event, Event.opening, Event.cut, Event.clock, Event.status, Reply.refused, Reply.done, DoneAnswer, done_answer, AnsweredAnswer, answered_answer}
use Rattle.model.specs.Canonical.{omits}
use Rattle.model.specs.Refusals.{causes, refusal}
use Rattle.model.specs.Locks.{LockEvent.reading, change, grant_pass}
use Rattle.model.specs.Place.{slot_of}
use Rattle.model.specs.Step.{Result, finish, plan, answered, step, closing, lock_frame}
use Rattle.model.specs.Post.{Post}
use Rattle.state.specs.Tidy.{Tidy}
use Rattle.state.specs.View.{Memory, view}
use Rattle.state.specs.Change.{on_rest}
use Rattle.state.specs.Fresh.{fresh_words, fresh_strings}
use Rattle.holding.specs.Outcome.{Met}
use Rattle.sessions.specs.Closing.{ClosesPlace, closed_server}
use Rattle.server.specs.declared.Answered.{Answered}
use Rattle.server.specs.declared.Done.{Done}
use Rattle.sessions.specs.Refusals.{number_of}
use Rattle.sessions.specs.declared.refusal.Refusal.{Refusal}
use Rattle.server.specs.Causes.{untimely, enough_room, clock_causes}

abbrev pub done_numbers : Done → DoneAnswer
done_numbers r = record { refusal = r.refusal; output = r.output }

-- what a call tells: how many bytes hold frames, or its refusal
abbrev pub done_told : Res ℕ Refusal → Done
done_told (Ok n) = record { refusal = 0; output = n }
done_told (Err e) = record { refusal = number_of e; output = 0 }

pub record Called (e : Event) (r : Done) (m m' : Memory) (out out' : List ℕ) : Type 0 where
  pub numbers : done_numbers r ≡ done_answer (step (view m) e).reply (length (bytes_of (step (view m) e).frames))
  pub post : Post view e m m' out out' (step (view m) e).reply (length (bytes_of (step (view m) e).frames))
  pub tidy : Tidy m → Tidy m'

-- 02, Q-5: the same of an answer, which may be withheld
abbrev pub answered_numbers : Answered → AnsweredAnswer
answered_numbers r = record { refusal = r.refusal; withheld = r.withheld; output = r.output }

pub record Replied (e : Event) (r : Answered) (m m' : Memory) (out out' : List ℕ) : Type 0 where
  pub numbers : answered_numbers r ≡ answered_answer (step (view m) e).reply (length (bytes_of (step (view m) e).frames))
  pub post : Post view e m m' out out' (step (view m) e).reply (length (bytes_of (step (view m) e).frames))
  pub tidy : Tidy m → Tidy m'

-- what hislip_new leaves: every word and byte is written, whatever was there, and the memory shows the fresh server
pub record Fresh (v : Making) (m : Memory) : Type 0 where
  pub words : m.words ≡ fresh_words v
  pub strings : m.strings ≡ fresh_strings
  pub shows : view m ≡ fresh v

-- a refused call's post-condition, a taken one's
pub refused_post : (e : Event) (n : ℕ) (m : Memory) (out : List ℕ) → step (view m) e ≡ record { server = view m; reply = refused (suc n); frames = [] }
    → Post view e m m out out (step (view m) e).reply (length (bytes_of (step (view m) e).frames))
unfolding bytes_of
refused_post e n m out x =
    record {
      new_server = ap (λ (y : Result). y.server) (sym x);
      replies = refl;
      buffer = sym (splice_nil out 0) ∙ ap (λ (y : Result). written out y.frames) (sym x);
      output_length = refl;
      same_memory = λ z. refl;
      same_buffer = λ z. refl;
    }

pub taken_post : (e : Event) (x : Result) (m m' : Memory) (out out' : List ℕ) → step (view m) e ≡ x → omits x.reply ≡ false → view m' ≡ x.server → out' ≡ written out x.frames
    → Post view e m m' out out' (step (view m) e).reply (length (bytes_of (step (view m) e).frames))
taken_post e x m m' out out' s o v b =
    record {
      new_server = v ∙ ap (λ (y : Result). y.server) (sym s);
      replies = refl;
      buffer = b ∙ ap (λ (y : Result). written out y.frames) (sym s);
      output_length = refl;
      same_memory = λ z. absurd (true≢false (sym z ∙ ap (λ (y : Result). omits y.reply) s ∙ o));
      same_buffer = λ z. absurd (true≢false (sym z ∙ ap (λ (y : Result). omits y.reply) s ∙ o));
    }

-- a refused call
pub refused_call : (e : Event) (n : ℕ) (r : Done) (m : Memory) (out : List ℕ) → refusal (view m) e ≡ suc n → r ≡ record { refusal = suc n; output = 0 } → Called e r m m out out
unfolding bytes_of step answered
refused_call e n r m out q f =
    let x : step (view m) e ≡ record { server = view m; reply = refused (suc n); frames = [] } = ap (λ (k : ℕ). answered k (view m) e) q in
    record {
      numbers = ap done_numbers f ∙ ap (λ (y : Result). done_answer y.reply (length (bytes_of y.frames))) (sym x);
      post = refused_post e n m out x;
      tidy = λ t. t;
    }

-- a call that is taken: the new server, the frames, and the numbers
pub taken_call : (e : Event) (d' : Server) (fs : List Frame) (r : Done) (m m' : Memory) (out out' : List ℕ) → refusal (view m) e ≡ 0 →
    finish (view m) (plan (view m) e) ≡ record { server = d'; reply = done; frames = fs }
    → view m' ≡ d' → out' ≡ written out fs → r ≡ record { refusal = 0; output = length (bytes_of fs) } → (Tidy m → Tidy m') → Called e r m m' out out'
unfolding step answered
taken_call e d' fs r m m' out out' q p v b f t =
    let x : step (view m) e ≡ record { server = d'; reply = done; frames = fs } = ap (λ (k : ℕ). answered k (view m) e) q ∙ p in
    record {
      numbers = ap done_numbers f ∙ ap (λ (y : Result). done_answer y.reply (length (bytes_of y.frames))) (sym x);
      post = taken_post e (record { server = d'; reply = done; frames = fs }) m m' out out' x refl v b;
      tidy = t;
    }

-- an answer, refused and taken
pub refused_answer : (e : Event) (n : ℕ) (r : Answered) (m : Memory) (out : List ℕ) → refusal (view m) e ≡ suc n → r ≡ record { refusal = suc n; withheld = 0; output = 0 } → Replied e r m m out out
unfolding bytes_of step answered
refused_answer e n r m out q f =
    let x : step (view m) e ≡ record { server = view m; reply = refused (suc n); frames = [] } = ap (λ (k : ℕ). answered k (view m) e) q in
    record { numbers = ap answered_numbers f ∙ ap (λ (y : Result). answered_answer y.reply (length (bytes_of y.frames))) (sym x); post = refused_post e n m out x; tidy = λ t. t }

-- the same, by a number that is not 0
pub refused_by_lem : (e : Event) (k : ℕ) (r : Answered) (m : Memory) (out : List ℕ) → (k ≡ 0 → ⊥) → refusal (view m) e ≡ k → r ≡ record { refusal = k; withheld = 0; output = 0 } → Replied e r m m out out
refused_by_lem e zero r m out h q f = absurd (h refl)
refused_by_lem e (suc n) r m out h q f = refused_answer e n r m out q f

pub taken_answer : (e : Event) (x : Result) (r : Answered) (m m' : Memory) (out out' : List ℕ) → refusal (view m) e ≡ 0 → finish (view m) (plan (view m) e) ≡ x → omits x.reply ≡ false
    → view m' ≡ x.server → out' ≡ written out x.frames → answered_numbers r ≡ answered_answer x.reply (length (bytes_of x.frames)) → (Tidy m → Tidy m') → Replied e r m m' out out'
unfolding step answered
taken_answer e x r m m' out out' q p o v b f t =
    let s : step (view m) e ≡ x = ap (λ (k : ℕ). answered k (view m) e) q ∙ p in
    record { numbers = f ∙ ap (λ (y : Result). answered_answer y.reply (length (bytes_of y.frames))) (sym s); post = taken_post e x m m' out out' s o v b; tidy = t }

-- the refusals
module _ (d : Server) (c : ℕ) where
  pub open_no_number : connection_limit ≤ c → refusal d (opening c) ≡ 1
  unfolding refusal causes
  open_no_number l = rw (le-leb connection_limit c l)

  pub open_already : c < connection_limit → (connection_at d.rest c).is_open ≡ true → refusal d (opening c) ≡ 2
  unfolding refusal causes
  open_already l o = rw (lt-leb connection_limit c l, o)

  pub open_taken : c < connection_limit → (connection_at d.rest c).is_open ≡ false → refusal d (opening c) ≡ 0
  unfolding refusal causes
  open_taken l o = rw (lt-leb connection_limit c l, o)

module _ (d : Server) (t room : ℕ) where
  pub clock_above_lem : output_minimum ≤ room → clock_limit < t → refusal d (clock t room) ≡ 4
  clock_above_lem h l = enough_room d (clock t room) room (untimely d t) (clock_causes d room t) h ∙ rw (lt-ltb clock_limit t l)

  pub clock_back_lem : output_minimum ≤ room → t ≤ clock_limit → t < d.locks.clock → refusal d (clock t room) ≡ 3
  clock_back_lem h l o = enough_room d (clock t room) room (untimely d t) (clock_causes d room t) h ∙ rw (le-ltb clock_limit t l, lt-ltb t d.locks.clock o)

  pub clock_taken : output_minimum ≤ room → t ≤ clock_limit → d.locks.clock ≤ t → refusal d (clock t room) ≡ 0
  clock_taken h l o = enough_room d (clock t room) room (untimely d t) (clock_causes d room t) h ∙ rw (le-ltb clock_limit t l, le-ltb t d.locks.clock o)

-- a cut: the session closes, and those that wait are looked at
pub cut_finishes : (d : Server) (c room : ℕ) → finish d (plan d (cut c room)) ≡ record {
  server = record { locks = (grant_pass (closed_server d c (slot_of d c)).locks).locks; rest = closing d c };
  reply = done;
  frames = map lock_frame (grant_pass (closed_server d c (slot_of d c)).locks).answers;
}
unfolding finish plan change
cut_finishes d c room = refl

-- a clock reading: deadlines that are reached
pub clock_finishes : (d : Server) (t room : ℕ) → finish d (plan d (clock t room)) ≡ record {
  server = record { locks = (change d.locks (reading t)).locks; rest = d.rest };
  reply = done;
  frames = map lock_frame (change d.locks (reading t)).answers;
}
unfolding finish plan
clock_finishes d t room = ap (λ (fs : List Frame). record {
  server = record { locks = (change d.locks (reading t)).locks; rest = d.rest };
  reply = done;
  frames = fs;
}) (append-nil (map lock_frame (change d.locks (reading t)).answers))

-- a status change is never turned away, and sends nothing
pub status_call : (b : ℕ) (m m' : Memory) → view m' ≡ on_rest (view m) (λ (x : Rest). with_status x b) → Post view (status b) m m' [] [] done 0
unfolding refusal causes step answered finish plan change bytes_of
status_call b m m' v =
    record { new_server = v; replies = refl; buffer = sym (splice_nil [] 0); output_length = refl; same_memory = λ z. absurd (true≢false (sym z)); same_buffer = λ z. absurd (true≢false (sym z)) }

-- nothing is sent
pub empty_buffer : (out : List ℕ) → out ≡ written out []
unfolding bytes_of
empty_buffer out = sym (splice_nil out 0)

pub empty_output : (r : Done) → r ≡ record { refusal = 0; output = 0 } → r ≡ record { refusal = 0; output = length (bytes_of []) }
unfolding bytes_of
empty_output r e = e

-- so much was sent
pub so_much : (r : Done) (end : ℕ) (fs : List Frame) → r ≡ record { refusal = 0; output = end } → end ≡ 0 + length (bytes_of fs) → r ≡ record { refusal = 0; output = length (bytes_of fs) }
so_much r end fs e p = e ∙ ap (λ (x : ℕ). record { refusal = 0; output = x }) (p ∙ zero-add (length (bytes_of fs)))

pub cut_call : (c i room : ℕ) (r : Done) (m m' : Memory) (out out' : List ℕ) (end : ℕ) → refusal (view m) (cut c room) ≡ 0 → slot_of (view m) c ≡ i →
    ClosesPlace (view m) c i m' out out' 0 end → r ≡ record { refusal = 0; output = end } → (Tidy m → Tidy m')
    → Called (cut c room) r m m' out out'
cut_call c i room r m m' out out' end q e p f t =
    let d : Server = view m in
    let gs : List Frame = map lock_frame (grant_pass (closed_server d c i).locks).answers in
    taken_call (cut c room) (record { locks = (grant_pass (closed_server d c i).locks).locks; rest = closing d c }) gs r m m' out out' q
    (cut_finishes d c room
    ∙ ap (λ (j : ℕ). record {
      server = record { locks = (grant_pass (closed_server d c j).locks).locks; rest = closing d c };
      reply = done;
      frames = map lock_frame (grant_pass (closed_server d c j).locks).answers;
    }) e)
    p.server p.buffer (so_much r end gs f p.place) t

pub clock_call : (t room : ℕ) (r : Done) (m m' : Memory) (out out' : List ℕ) (end : ℕ) → refusal (view m) (clock t room) ≡ 0 →
    Met (change (view m).locks (reading t)) m m' out out' 0 end → r ≡ record { refusal = 0; output = end }
    → Called (clock t room) r m m' out out'
clock_call t room r m m' out out' end q p f =
    let d : Server = view m in
    let gs : List Frame = map lock_frame (change d.locks (reading t)).answers in
    taken_call (clock t room) (record { locks = (change d.locks (reading t)).locks; rest = d.rest }) gs r m m' out out' q (clock_finishes d t room)
    (λ k. record { locks = p.locks k; rest = p.rest k }) p.buffer (so_much r end gs f p.place) p.tidy
