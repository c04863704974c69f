-- Demand 3 about the program, proved: the returned structs tell the model's replies, so a run of the C interface is a list of calls
-- that each meet `Post`. The statement is specs/Program.antt.
use mathlib.Core.Path.{◌≡◌, refl, sym, ap, ap₂, subst, ◌∙◌}
use mathlib.Core.Bool.{Bool, true, false, not, ◌&&◌, cond}
use mathlib.Core.List.{List, [], ◌∷◌, map, ◌++◌}
use Prim.Native.Nat.{ℕ, zero, suc, ◌+◌, ◌<◌, ◌^◌}
use lib.Dec.{eqb}
use native.Mathlib.Omega.{arith}
use lib.ListN.{get_or, length}
use lib.Seq.{take-nil}
use Rattle.wire.specs.Class.{one_of}
use Rattle.wire.specs.Message.{header, payload_of, encode, header_bytes}
use Rattle.wire.specs.Frame.{bytes_of, bytes_one, frame_bytes, frame_of, Frame}
use Rattle.model.specs.Sizes.{no_connection}
use Rattle.model.specs.State.{Making, Allowed, Allowed.any_command, Server, at, exchange_at, fresh, live, slot_of_number, fresh_sensing, sensing_at}
use Rattle.wire.proofs.ReadFrames.{read_frames_lem}
use Rattle.model.specs.Lists.{any, tally, keep}
use Rattle.model.specs.Interface.{Event, Event.opening, Event.delivery, Event.cut, Event.clock, Event.answer, Event.status, Event.setting, Setting.patterns}
use Rattle.model.specs.Interface.{Outcome, Outcome.more_needed, Outcome.skipped, Outcome.held, Outcome.ignored, Outcome.error_sent, Outcome.closed}
use Rattle.model.specs.Interface.{Outcome.acted, Reply, Reply.refused, Reply.done, Reply.withheld, Reply.took, outcome_number, DeliveryAnswer, delivery_answer}
use Rattle.model.specs.Interface.{DoneAnswer, done_answer, AnsweredAnswer, answered_answer, Setting.watch}
use Rattle.model.specs.Place.{slot_of}
use Rattle.model.specs.Refusals.{refusal}
use Rattle.model.specs.Step.{Line, Result, answer_type, answered, withholds, final, finish, log, plan, received, step}
use Rattle.model.specs.Post.{Post}
use Rattle.model.specs.Demand3.{Seen, seen, seen_events, Calls, Calls.none as no_call, Calls.call}
use Rattle.model.specs.Tie.{Track, nothing_yet, track, track_of_log, said}
use Rattle.model.specs.IsolationRun as Log
use Rattle.model.specs.IsolationRun.{Undisturbed}
use Rattle.claims.proofs.Demand3.{demand3, made}
use Rattle.claims.proofs.Refused.{Took, effect_took}
use Rattle.model.specs.SessionId.{last_in_log}
use Rattle.model.specs.Permitted.{ActsExactly}
use Rattle.model.specs.Opening.{Opens}
use Rattle.model.specs.Standing.{StandsOn}
use Rattle.claims.proofs.Deciding.{run_decides}
use Rattle.claims.proofs.OnlyWhole.{taken_whole}
use Rattle.claims.proofs.ReadBack.{reads_back}
use Rattle.claims.proofs.Permitted.{permitted_acts}
use Rattle.claims.proofs.Opening.{sessions_open}
use Rattle.claims.proofs.Locality.{local_run}
use Rattle.claims.proofs.Standing.{stands_on}
use Rattle.claims.proofs.Tied.{tie}
use Rattle.claims.proofs.NextQuestion.{next_question}
use Rattle.model.specs.NextQuestion.{question_unread, synchronous_of, asynchronous_of, owes}
use Rattle.model.specs.MessageTypes.{Error, DataEND, Interrupted, AsyncInterrupted, commands, AsyncLock, AsyncLockResponse}
use Rattle.model.specs.Access.{Command, access_of}
use Rattle.model.specs.InStep.{Numbering, Knows, first_numbering, expected, error_0, numbering}
use Rattle.claims.proofs.InStep.{in_steps, out}
use Rattle.commands.specs.Lists.{lines_of}
use Rattle.commands.specs.Rulings.{judged}
use Rattle.model.specs.Allowing.{Admits}
use Rattle.model.specs.AllowedOnly.{PassesBefore, answered_128, sends128, Refused128, list_after, list_read, list_set, GoodList}
use Rattle.model.specs.Listing.{ListedAnswer, listed_answer}
use Rattle.claims.proofs.AllowedOnly as Allowing
use Rattle.claims.proofs.Listing.{allowed_run}
use Rattle.model.specs.Possible.{AllPossible}
use Rattle.model.specs.SentFits.{LinesFit}
use Rattle.claims.proofs.SentFits.{sent_fits}
use Rattle.model.specs.Fewer.{FewerLocks, answers1}
use Rattle.claims.proofs.Fewer.{fewer_never_hurts}
use Rattle.model.specs.AnsweredOnce.{Release.none_stands, Once, clock_in}
use Rattle.claims.proofs.AnsweredOnce.{answered_once}
use Rattle.model.specs.LockModel.{not_shared}
use Rattle.model.specs.Deciding.{model_after}
use Rattle.model.specs.Holders.{holders_of, Ascending, holds_lock}
use Rattle.claims.proofs.Holders.{holders_shown}
use Rattle.model.specs.GrantsSeen.{none_yet, grants_of, AsTold}
use Rattle.claims.proofs.GrantsSeen.{grants_seen}
use Rattle.claims.proofs.IsolationRun.{isolation_run}
use Rattle.model.specs.Canonical.{canonical, omits}
use Rattle.model.specs.Sensing.{service_after}
use Rattle.model.specs.Watching.{is_service, served_by}
use Rattle.claims.proofs.Watching.{watches}
use Rattle.model.specs.ReadBack.{frames_seen}
use Rattle.model.specs.Happening.{happened}
use Rattle.state.specs.Fresh.{fresh_strings, fresh_words}
use Rattle.state.specs.FreshTidy.{fresh_tidy}
use Rattle.queue.specs.OneMemory.{one_memory}
use Rattle.state.specs.Tidy.{Tidy}
use Rattle.state.specs.View.{Memory, memory, view}
use Rattle.sessions.specs.declared.Delivery.{Delivery}
use Rattle.sessions.specs.Did.{numbers_of}
use Rattle.server.specs.declared.Answered.{Answered}
use Rattle.server.specs.declared.Done.{Done}
use Rattle.server.specs.declared.listing.Listed.{Listed}
use Rattle.server.specs.Calls.{Delivered}
use Rattle.server.specs.Events.{Called, Fresh, Replied, done_numbers, answered_numbers}
use Rattle.server.specs.Listing.{listed_numbers}
use Rattle.server.specs.Program.{outcome_of, refused_or, delivery_reply, done_reply, answered_reply, listed_reply, list_in, list_shown, Run, Run.stop}
use Rattle.server.specs.Program.{Run.hislip_patterns, Run.hislip_open, Run.hislip_deliver, Run.hislip_cut, Run.hislip_clock, Run.hislip_answer}
use Rattle.server.specs.Program.{Run.hislip_status, track_in, shown_of, Tied, taken_of, CountsIn, NeverOutIn, OnlyOf, Program, NoWorseSeen, line_seen}
use Rattle.server.specs.Program.{Run.hislip_watch, sensing_seen}
use Rattle.server.proofs.Numbering.{noted_seen_lem, counts_seen, never_seen}
use Rattle.server.proofs.Watching.{served_same, sensing_lines}

-- was the call done?
abbrev Done? : Reply → Type 0
Done? (refused n) = ⊥
Done? done = Unit {0}
Done? withheld = ⊥
Done? (took o k n) = ⊥

-- the struct tells the reply y and how many bytes of the buffer hold frames
abbrev Tells : Delivery → Reply → ℕ → Type 0
Tells r y n = (delivery_reply r ≡ y) × (r.output ≡ n)

outcome_of_lem : (o : Outcome) → outcome_of (outcome_number o) ≡ o
outcome_of_lem more_needed = refl
outcome_of_lem skipped = refl
outcome_of_lem held = refl
outcome_of_lem ignored = refl
outcome_of_lem error_sent = refl
outcome_of_lem closed = refl
outcome_of_lem acted = refl

abbrev tells : DeliveryAnswer → Reply
tells a = refused_or a.refusal (took (outcome_of a.outcome) a.taken a.session)

-- an accepted delivery's numbers, a refused one's
told_took : (y : Reply) → Took y → (n l : ℕ) (r : Delivery) → numbers_of r ≡ delivery_answer y n l → Tells r y n
told_took (refused z) t n l r e = absurd t
told_took done t n l r e = absurd t
told_took withheld t n l r e = absurd t
told_took (took o k s) t n l r e = (ap tells e ∙ ap (λ (x : Outcome). took x k s) (outcome_of_lem o), ap (λ (a : DeliveryAnswer). a.output) e)

told_delivery : (d : Server) (c : ℕ) (bs : List ℕ) (room l : ℕ) (r : Delivery) →
    numbers_of r ≡ delivery_answer (step d (delivery c bs room)).reply (length (bytes_of (step d (delivery c bs room)).frames)) l
    → Tells r (step d (delivery c bs room)).reply (length (bytes_of (step d (delivery c bs room)).frames))
unfolding step answered plan received finish bytes_of
told_delivery d c bs room l r e = go (refusal d (delivery c bs room)) e
  where
    go : (z : ℕ) → numbers_of r ≡ delivery_answer (answered z d (delivery c bs room)).reply (length (bytes_of (answered z d (delivery c bs room)).frames)) l
        → Tells r (answered z d (delivery c bs room)).reply (length (bytes_of (answered z d (delivery c bs room)).frames))
    go zero e = told_took _ (effect_took _ _ _ d _ c) _ l r e
    go (suc z) e = (ap tells e, ap (λ (a : DeliveryAnswer). a.output) e)

-- the same of the other calls: done, or refused
told_call : (d : Server) (e : Event) → (plan d e).reply ≡ done → (r : Done) → done_numbers r ≡ done_answer (step d e).reply (length (bytes_of (step d e).frames))
    → (done_reply r ≡ (step d e).reply) × (r.output ≡ length (bytes_of (step d e).frames))
unfolding step answered finish bytes_of
told_call d e f r q = go (refusal d e) q
  where
    reply-of : DoneAnswer → Reply
    reply-of a = refused_or a.refusal done

    taken : (y : Reply) → y ≡ done → (n : ℕ) → done_numbers r ≡ done_answer y n → (done_reply r ≡ y) × (r.output ≡ n)
    taken y g n q =
        let p : done_numbers r ≡ done_answer done n = q ∙ ap (λ (x : Reply). done_answer x n) g in
        (ap reply-of p ∙ sym g, ap (λ (a : DoneAnswer). a.output) p)

    go : (z : ℕ) → done_numbers r ≡ done_answer (answered z d e).reply (length (bytes_of (answered z d e).frames))
        → (done_reply r ≡ (answered z d e).reply) × (r.output ≡ length (bytes_of (answered z d e).frames))
    go zero q = taken _ f _ q
    go (suc z) q = (ap reply-of q, ap (λ (a : DoneAnswer). a.output) q)

-- so each call meets `Post` with what the struct tells
module _ (e : Event) (m m' : Memory) (out out' : List ℕ) where
  retold : (y : Reply) (n : ℕ) → y ≡ (step (view m) e).reply → n ≡ length (bytes_of (step (view m) e).frames)
      → Post view e m m' out out' (step (view m) e).reply (length (bytes_of (step (view m) e).frames)) → Post view e m m' out out' y n
  retold y n f g p =
      record {
        new_server = p.new_server;
        replies = f;
        buffer = p.buffer;
        output_length = g;
        same_memory = λ z. p.same_memory (rw f at z);
        same_buffer = λ z. p.same_buffer (rw f at z);
      }

  call_post : (plan (view m) e).reply ≡ done → (r : Done) → Called e r m m' out out' → Post view e m m' out out' (done_reply r) r.output
  call_post f r p = let t = told_call (view m) e f r p.numbers in retold (done_reply r) r.output t.0 t.1 p.post

delivery_post : (c : ℕ) (bs : List ℕ) (room : ℕ) (m m' : Memory) (out out' : List ℕ) (r : Delivery) → Delivered (delivery c bs room) r m m' out out'
    → Post view (delivery c bs room) m m' out out' (delivery_reply r) r.output
delivery_post c bs room m m' out out' r p =
    let t = told_delivery (view m) c bs room _ r p.numbers in
    retold (delivery c bs room) m m' out out' (delivery_reply r) r.output t.0 t.1 p.post

-- an answer: done, withheld or refused
told_answer : (d : Server) (n : ℕ) (x : List ℕ) (end : Bool) (sh : List ℕ) (room : ℕ) (r : Answered)
    → answered_numbers r ≡ answered_answer (step d (answer n x end sh room)).reply (length (bytes_of (step d (answer n x end sh room)).frames))
    → (answered_reply r ≡ (step d (answer n x end sh room)).reply) × (r.output ≡ length (bytes_of (step d (answer n x end sh room)).frames))
unfolding step answered plan finish bytes_of
told_answer d n x end sh room r q = go (refusal d (answer n x end sh room)) q
  where
    reply-of : AnsweredAnswer → Reply
    reply-of a = refused_or a.refusal (cond (eqb a.withheld 1) withheld done)

    taken : (b : Bool) (k : ℕ) → answered_numbers r ≡ answered_answer (cond b withheld done) k → (answered_reply r ≡ cond b withheld done) × (r.output ≡ k)
    taken true k q = (ap reply-of q, ap (λ (a : AnsweredAnswer). a.output) q)
    taken false k q = (ap reply-of q, ap (λ (a : AnsweredAnswer). a.output) q)

    go : (z : ℕ) → answered_numbers r ≡ answered_answer (answered z d (answer n x end sh room)).reply (length (bytes_of (answered z d (answer n x end sh room)).frames))
        → (answered_reply r ≡ (answered z d (answer n x end sh room)).reply) × (r.output ≡ length (bytes_of (answered z d (answer n x end sh room)).frames))
    go zero q = taken (withholds d n end sh) _ q
    go (suc z) q = (ap reply-of q, ap (λ (a : AnsweredAnswer). a.output) q)

answer_post : (n : ℕ) (x : List ℕ) (end : Bool) (sh : List ℕ) (room : ℕ) (m m' : Memory) (out out' : List ℕ) (r : Answered) → Replied (answer n x end sh room) r m m' out out'
    → Post view (answer n x end sh room) m m' out out' (answered_reply r) r.output
answer_post n x end sh room m m' out out' r p =
    let t = told_answer (view m) n x end sh room r p.numbers in
    retold (answer n x end sh room) m m' out out' (answered_reply r) r.output t.0 t.1 p.post

-- a list: done, or refused; nothing is sent
told_list : (d : Server) (text : List ℕ) (r : Listed) → listed_numbers r ≡ listed_answer (step d (setting (patterns text))).reply (judged (lines_of text))
    → (listed_reply r ≡ (step d (setting (patterns text))).reply) × (0 ≡ length (bytes_of (step d (setting (patterns text))).frames))
unfolding step answered plan finish bytes_of Rattle.model.specs.Locks.change
told_list d text r q = go (refusal d (setting (patterns text))) q
  where
    reply-of : ListedAnswer → Reply
    reply-of a = refused_or a.refusal done

    go : (z : ℕ) → listed_numbers r ≡ listed_answer (answered z d (setting (patterns text))).reply (judged (lines_of text))
        → (listed_reply r ≡ (answered z d (setting (patterns text))).reply) × (0 ≡ length (bytes_of (answered z d (setting (patterns text))).frames))
    go zero q = (ap reply-of q, refl)
    go (suc z) q = (ap reply-of q, refl)

-- a run is a list of calls
calls : {m m' : Memory} {ss : List Seen} → Run m ss m' → Calls view m ss m'
unfolding plan
calls stop = no_call
calls {m = m} (hislip_open {m' = m'} {m'' = m''} {ss = ss} c r p g) =
    subst (λ (o : List ℕ). Calls view m (record { event = opening c; reply = done_reply r; output = o } ∷ ss) m'') (take-nil r.output)
    (call (opening c) [] [] (done_reply r) r.output (call_post (opening c) m m' [] [] refl r p) (calls g))
calls {m = m} (hislip_deliver {m' = m'} c bs out out' r p g) =
    call (delivery c bs (length out)) out out' (delivery_reply r) r.output (delivery_post c bs (length out) m m' out out' r p) (calls g)
calls {m = m} (hislip_cut {m' = m'} c out out' r p g) =
    call (cut c (length out)) out out' (done_reply r) r.output (call_post (cut c (length out)) m m' out out' refl r p) (calls g)
calls {m = m} (hislip_clock {m' = m'} t out out' r p g) =
    call (clock t (length out)) out out' (done_reply r) r.output (call_post (clock t (length out)) m m' out out' refl r p) (calls g)
calls {m = m} (hislip_answer {m' = m'} n q end sh out out' r p g) =
    call (answer n q (not (eqb end 0)) sh (length out)) out out' (answered_reply r) r.output (answer_post n q (not (eqb end 0)) sh (length out) m m' out out' r p) (calls g)
calls {m = m} (hislip_watch {m' = m'} {m'' = m''} {ss = ss} n l r p g) =
    subst (λ (o : List ℕ). Calls view m (record { event = setting (watch n l); reply = done_reply r; output = o } ∷ ss) m'') (take-nil r.output)
    (call (setting (watch n l)) [] [] (done_reply r) r.output (call_post (setting (watch n l)) m m' [] [] refl r p) (calls g))
calls (hislip_status b p g) = call (status b) [] [] done 0 p.0 (calls g)
calls {m = m} (hislip_patterns {m' = m'} text r p g) =
    let t = told_list (view m) text r p.numbers in
    call (setting (patterns text)) [] [] (listed_reply r) 0 (retold (setting (patterns text)) m m' [] [] (listed_reply r) 0 t.0 t.1 p.post) (calls g)

-- memory in order stays so over a run
tidies : {m m' : Memory} {ss : List Seen} → Run m ss m' → Tidy m → Tidy m'
tidies stop t = t
tidies (hislip_open c r p g) t = tidies g (p.tidy t)
tidies (hislip_deliver c bs out out' r p g) t = tidies g (p.tidy t)
tidies (hislip_cut c out out' r p g) t = tidies g (p.tidy t)
tidies (hislip_clock k out out' r p g) t = tidies g (p.tidy t)
tidies (hislip_answer n q end sh out out' r p g) t = tidies g (p.tidy t)
tidies (hislip_watch n l r p g) t = tidies g (p.tidy t)
tidies (hislip_status b p g) t = tidies g (p.1 t)
tidies (hislip_patterns text r p g) t = tidies g (p.tidy t)

orderly : (v : Making) (m m' : Memory) (ss : List Seen) → v.vendor < 2 ^ 16 → Fresh v m → Run m ss m' → Tidy m'
orderly v m m' ss h f g =
    let e : m ≡ memory (fresh_words v) fresh_strings = (λ k. memory (f.words k) (f.strings k)) in
    tidies g (subst Tidy (sym e) (fresh_tidy v h))

-- two runs with one canonical history
one_left : (v : Making) (m m' n n' : Memory) (ss rs : List Seen) → v.vendor < 2 ^ 16 → Fresh v m → Run m ss m' → Fresh v n → Run n rs n'
    → canonical (fresh v) (seen_events ss) ≡ canonical (fresh v) (seen_events rs) → m' ≡ n'
one_left v m m' n n' ss rs h f g f' g' e =
    one_memory m' n' (orderly v m m' ss h f g) (orderly v n n' rs h f' g')
    (sym (demand3 view v m f.shows (calls g)).same_server ∙ ap (final (fresh v)) e ∙ (demand3 view v n f'.shows (calls g')).same_server)

-- a session's track, by what the host saw and by the log
track_seen : (w : Bool) (ls : List Line) (n : ℕ) (p : Track) → track_in w (map seen ls) n p ≡ track_of_log w ls n p
unfolding track_of_log
track_seen w [] n p = refl
track_seen w (l ∷ ls) n p = track_seen w ls n (track w l.event l.reply n p)

-- a call that was not refused, by what the host saw
not_refused : (d : Server) (e : Event) → (step d e).reply ≡ done → refusal d e ≡ 0
unfolding step answered
not_refused d e q = go (refusal d e) q
  where
    done≢refused : (k : ℕ) → refused (suc k) ≡ done → ⊥
    done≢refused k z = subst (λ (y : Reply). Done? y) (sym z) tt

    go : (k : ℕ) → (answered k d e).reply ≡ done → k ≡ 0
    go zero q = refl
    go (suc k) q = absurd (done≢refused k q)

-- the list that is set, by what the host saw and by the log
list_seen : (ls : List Line) (a : Allowed) → list_in (map seen ls) a ≡ list_read ls a
unfolding list_read
list_seen [] a = refl
list_seen (l ∷ ls) a = list_seen ls (list_after l.event l.reply a)

-- 02, Q-10: a run by the log, and the reader of what the host saw by that of the log
module _ (v : Making) (m m' : Memory) (ss : List Seen) (f : Fresh v m) (g : Run m ss m') where
  by_log : ss ≡ map seen (log (fresh v) (seen_events ss))
  by_log = (made view (calls g)).0 ∙ ap (λ (x : Server). map seen (log x (seen_events ss))) f.shows

  took_seen : (n : ℕ) → taken_of ss n ≡ numbering v (seen_events ss) n
  took_seen n = ap (λ (a : List Seen). taken_of a n) by_log ∙ noted_seen_lem (log (fresh v) (seen_events ss)) n (first_numbering no_connection)

  in_step : (n : ℕ) → CountsIn ss n (first_numbering no_connection) → NeverOutIn ss n (first_numbering no_connection)
  in_step n c =
      subst (λ (a : List Seen). NeverOutIn a n (first_numbering no_connection)) (sym by_log)
      (never_seen (seen_events ss) (fresh v) n (first_numbering no_connection)
      ((in_steps v (seen_events ss)).never n (counts_seen (log (fresh v) (seen_events ss)) n (first_numbering no_connection)
      (subst (λ (a : List Seen). CountsIn a n (first_numbering no_connection)) by_log c))))

-- one call from any memory
module _ (m m' : Memory) (s : Seen) (g : Run m (s ∷ []) m') where
  abbrev only : List Seen → Seen
  only [] = s
  only (a ∷ rest) = a

  shown : s ≡ seen record { event = s.event; reply = (step (view m) s.event).reply; frames = (step (view m) s.event).frames }
  unfolding log
  shown = ap only (made view (calls g)).0

  leaves : view m' ≡ (step (view m) s.event).server
  unfolding final
  leaves = (made view (calls g)).1

  out_of_step : (c : ℕ) (bs : List ℕ) (room : ℕ) → s.event ≡ delivery c bs room
      → refusal (view m) (delivery c bs room) ≡ 0 → Command (view m) c bs → access_of (view m) c ≡ true → ((header bs).param ≡ (exchange_at (view m).rest (slot_of (view m) c)).number_expected → ⊥)
      → (s.reply ≡ took error_sent (16 + (header bs).len) 0) × (s.output ≡ bytes_of (error_0 c)) × (view m' ≡ view m)
  out_of_step c bs room x z w a o =
      let q = ap (step (view m)) x ∙ (out (view m) c bs room).answered z w a o in
      (ap (λ (b : Seen). b.reply) shown ∙ ap (λ (r : Result). r.reply) q, ap (λ (b : Seen). b.output) shown ∙ ap (λ (r : Result). bytes_of r.frames) q, leaves ∙ ap (λ (r : Result). r.server) q)

-- one more call behind a run, by the log
module _ (v : Making) (m m' m'' : Memory) (ss : List Seen) (s : Seen) (f : Fresh v m) (g : Run m ss m') (g' : Run m' (s ∷ []) m'') where
  abbrev es : List Event
  es = seen_events ss

  abbrev d : Server
  d = final (fresh v) es

  there : view m' ≡ d
  there = (made view (calls g)).1 ∙ ap (λ (x : Server). final x es) f.shows

  first : List Seen → Seen
  first [] = s
  first (a ∷ rest) = a

  then : (e : Event) → s.event ≡ e → s ≡ seen record { event = e; reply = (step d e).reply; frames = (step d e).frames }
  unfolding log first
  then e x = ap first ((made view (calls g')).0 ∙ ap₂ (λ (a : Server) (b : Event). map seen (log a (b ∷ []))) there x)

  shown_said : (n : ℕ) → shown_of v ss n ≡ said v es n
  shown_said n =
      let t : ss ≡ map seen (log (fresh v) es) = (made view (calls g)).0 ∙ ap (λ (x : Server). map seen (log x es)) f.shows in
      ap (λ (a : List Seen). shown_of v a n) t ∙ track_seen v.prefers_overlap (log (fresh v) es) n (nothing_yet v.prefers_overlap)

  tied : (n : ℕ) (payload : List ℕ) (end : Bool) (shown : List ℕ) (room : ℕ) → s.event ≡ answer n payload end shown room → s.reply ≡ done → Tied v ss m' n payload end s.output
  tied n payload end shown room x y =
      let o = then (answer n payload end shown room) x in
      let q = tie v es n payload end shown room (sym (ap (λ (a : Seen). a.reply) o) ∙ y) in
      let k = shown_said n in
      record {
        number = q.number;
        asked = λ z. ap (λ (a : Track). a.asked) k ∙ q.asked (sym (ap (λ (a : Track). a.overlap) k) ∙ z);
        counted = λ z. ap (λ (a : Track). a.count) k ∙ q.counted (sym (ap (λ (a : Track). a.overlap) k) ∙ z);
        sent =
            ap (λ (a : Seen). a.output) o
            ∙ ap bytes_of q.sent
            ∙ ap (λ (a : Server). bytes_of (frame_of (at a.locks.entries (slot_of_number a.locks.entries n)).synchronous (answer_type end) 0 q.number
            payload ∷ service_after a n payload)) (sym there);
      }

  module _ (possible : AllPossible es) (n : ℕ) (payload shown : List ℕ) (room : ℕ) (x : s.event ≡ answer n payload true shown room) (o : (shown_of v ss n).overlap ≡ false) (r : owes v es n ≡ 0) where
    mode : (said v es n).overlap ≡ false
    mode = sym (ap (λ (a : Track). a.overlap) (shown_said n)) ∙ o

    withheld_then : refusal (view m') s.event ≡ 0 → question_unread shown ≡ true
        → (s.reply ≡ withheld)
        × (s.output ≡ bytes_of (frame_of (asynchronous_of v es n) AsyncInterrupted 0 (header shown).param []
        ∷ frame_of (synchronous_of v es n) Interrupted 0 (header shown).param [] ∷ []))
    withheld_then q u =
        let w = (next_question v es).withholds n payload shown room possible (ap₂ refusal (sym there) (sym x) ∙ q) mode r u in
        let h = then (answer n payload true shown room) x in
        (ap (λ (a : Seen). a.reply) h ∙ w.0, ap (λ (a : Seen). a.output) h ∙ ap bytes_of w.1)

    in_time : s.reply ≡ done → question_unread shown ≡ false
    in_time y = by (question_unread shown) refl
      where
        by : (b : Bool) → question_unread shown ≡ b → b ≡ false
        by false u = refl
        by true u =
            let h = then (answer n payload true shown room) x in
            let w = (next_question v es).withholds n payload shown room possible (not_refused d (answer n payload true shown room) (sym (ap (λ (a : Seen). a.reply) h) ∙ y)) mode r u in
            absurd (subst (λ (z : Reply). Done? z) (sym y ∙ ap (λ (a : Seen). a.reply) h ∙ w.0) tt)

  -- 02, Q-10: what acts carries the number expected
  carried : (c : ℕ) (bs : List ℕ) (room k n : ℕ) → s.event ≡ delivery c bs room → s.reply ≡ took acted k n → one_of commands (header bs).kind ≡ true
      → (header bs).param ≡ expected (taken_of ss n).taken
  carried c bs room k n x y o =
      ((in_steps v es).acts c bs room k n (sym (ap (λ (a : Seen). a.reply) (then (delivery c bs room) x)) ∙ y) o).2
      ∙ ap (λ (a : Numbering). expected a.taken) (sym (took_seen v m m' ss f g n))

  -- 02, Q-12: what acts is allowed by the list that was set, and what is not gets Error 128
  abbrev listed : Allowed
  listed = list_shown ss

  list_is : listed ≡ list_set v es
  list_is = ap list_shown (by_log v m m' ss f g) ∙ list_seen (log (fresh v) es) any_command

  allowed_then : (c : ℕ) (bs : List ℕ) (room k n : ℕ) → s.event ≡ delivery c bs room → s.reply ≡ took acted k n → (header bs).kind ≡ DataEND → Admits listed (payload_of (header bs) bs)
  allowed_then c bs room k n x y o =
      subst (λ (a : Allowed). Admits a (payload_of (header bs) bs)) (sym list_is)
      ((allowed_run v es).acts c bs room k n (sym (ap (λ (a : Seen). a.reply) (then (delivery c bs room) x)) ∙ y) o)

  not_allowed_then : (c : ℕ) (bs : List ℕ) (room : ℕ) → s.event ≡ delivery c bs room → refusal (view m') (delivery c bs room) ≡ 0 → PassesBefore (view m') c bs
      → (Admits listed (payload_of (header bs) bs) → ⊥)
      → (s.reply ≡ took error_sent (16 + (header bs).len) 0) × (s.output ≡ frame_bytes (frame_of c Error 128 0 [])) × (view m'' ≡ (answered_128 (view m') c bs).server)
  unfolding final
  not_allowed_then c bs room x z w n =
      let q : step d (delivery c bs room) ≡ answered_128 d c bs =
      (allowed_run v es).refuses c bs room (ap (λ (a : Server). refusal a (delivery c bs room)) (sym there) ∙ z) (subst (λ (a : Server). PassesBefore a c bs) there w)
      (λ a. n (subst (λ (b : Allowed). Admits b (payload_of (header bs) bs)) (sym list_is) a)) in
      let h = then (delivery c bs room) x in (
        ap (λ (a : Seen). a.reply) h ∙ ap (λ (a : Result). a.reply) q,
        ap (λ (a : Seen). a.output) h ∙ ap (λ (a : Result). bytes_of a.frames) q ∙ bytes_one _,
        (made view (calls g')).1 ∙ ap₂ (λ (a : Server) (b : Event). (step a b).server) there x ∙ ap (λ (a : Result). a.server) q ∙ ap (λ (a : Server). (answered_128 a c bs).server) (sym there),
      )

decided : (m m' n n' : Memory) (ss rs : List Seen) → view m ≡ view n → Run m ss m' → Run n rs n' → seen_events ss ≡ seen_events rs → (ss ≡ rs) × (view m' ≡ view n')
decided m m' n n' ss rs v f g e =
    let h = made view (calls f) in
    let k = made view (calls g) in
    let both : (d : Server) (es : List Event) → view m ≡ d → seen_events ss ≡ es → (ss ≡ map seen (log d es)) × (view m' ≡ final d es) =
    λ d es p q. rw (← p, ← q) (h.0, h.1) in
    let t = both (view n) (seen_events rs) v e in
    (t.0 ∙ sym k.0, t.1 ∙ sym k.1)

-- the commands that acted, by what the host saw and by the log
only_seen : (n : ℕ) (ls : List Line) → Log.OnlyOf n ls → OnlyOf n (map seen ls)
only_seen n [] o = tt
only_seen n (l ∷ ls) o = (o.0, only_seen n ls o.1)

isolated : (v : Making) (m m' m'' : Memory) (ss rs : List Seen) → Fresh v m → Run m ss m'
    → (j : ℕ) → (at (view m').locks.entries j).exclusive ≡ true → Run m' rs m'' → Undisturbed j (view m') (seen_events rs)
    → OnlyOf (at (view m').locks.entries j).number rs
isolated v m m' m'' ss rs f g j h g' u =
    let es : List Event = seen_events ss in
    let fs : List Event = seen_events rs in
    let k = made view (calls g) in
    let d : view m' ≡ final (fresh v) es = k.1 ∙ ap (λ (x : Server). final x es) f.shows in
    let whole : (x : Server) → x ≡ final (fresh v) es → (at x.locks.entries j).exclusive ≡ true → Undisturbed j x fs → Log.OnlyOf (at x.locks.entries j).number (log x fs) =
    λ x e a b. subst (λ (y : Server). (at y.locks.entries j).exclusive ≡ true → Undisturbed j y fs →
    Log.OnlyOf (at y.locks.entries j).number (log y fs)) (sym e) (λ a b. ((isolation_run v es j).from_now fs a b).only_its_own) a b in
    subst (OnlyOf (at (view m').locks.entries j).number) (sym (made view (calls g')).0) (only_seen _ (log (view m') fs) (whole (view m') d h u))

-- the server that a run from a new one leaves
left : (v : Making) (m m' : Memory) (ss : List Seen) → Fresh v m → Run m ss m' → view m' ≡ final (fresh v) (seen_events ss)
left v m m' ss f g = (made view (calls g)).1 ∙ ap (λ (x : Server). final x (seen_events ss)) f.shows

-- one call, from any memory
first_of : List Seen → Seen → Seen
first_of [] s = s
first_of (a ∷ rest) s = a

one_call : (m m' : Memory) (s : Seen) → Run m (s ∷ []) m' → (e : Event) → s.event ≡ e
    → (s ≡ seen record { event = e; reply = (step (view m) e).reply; frames = (step (view m) e).frames }) × (view m' ≡ (step (view m) e).server)
unfolding log final first_of
one_call m m' s g e x =
    let h = made view (calls g) in (
      ap (λ (ss : List Seen). first_of ss s) h.0 ∙ ap (λ (y : Event). seen record {
        event = y;
        reply = (step (view m) y).reply;
        frames = (step (view m) y).frames;
      }) x,
      h.1 ∙ ap (λ (y : Event). (step (view m) y).server) x,
    )

abbrev some_byte : List ℕ → ℕ
some_byte [] = 0
some_byte (x ∷ xs) = 1

-- an output that begins with AsyncLockResponse 1
granted_in : (c : ℕ) (fs : List Frame) → bytes_of fs ≡ frame_bytes (frame_of c AsyncLockResponse 1 0 []) → any answers1 fs ≡ true
unfolding bytes_of frame_bytes encode header_bytes
granted_in c [] e = absurd (let z : ◌≡◌ {A = ℕ} 0 1 = ap some_byte e in omega arith)
granted_in c (f ∷ fs) e =
    let t : f.message.kind ≡ AsyncLockResponse = ap (λ (bs : List ℕ). get_or bs 3 0) e in
    let k : f.message.code ≡ 1 = ap (λ (bs : List ℕ). get_or bs 4 0) e in
    rw (t, k)

-- an output that is an Error 128
told_128 : (c : ℕ) (fs : List Frame) → bytes_of fs ≡ frame_bytes (frame_of c Error 128 0 []) → sends128 fs ≡ true
unfolding bytes_of frame_bytes encode header_bytes
told_128 c [] e = absurd (let z : ◌≡◌ {A = ℕ} 0 1 = ap some_byte e in omega arith)
told_128 c (f ∷ fs) e =
    let t : f.message.kind ≡ Error = ap (λ (bs : List ℕ). get_or bs 3 0) e in
    let k : f.message.code ≡ 128 = ap (λ (bs : List ℕ). get_or bs 4 0) e in
    rw (t, k)

told_only : (m m' : Memory) (s : Seen) → Run m (s ∷ []) m' → (c : ℕ) → s.output ≡ frame_bytes (frame_of c Error 128 0 []) → Refused128 (view m) s.event
told_only m m' s g c o =
    let h = one_call m m' s g s.event refl in
    (Allowing.only_128 (view m) s.event).only (told_128 c (step (view m) s.event).frames (sym (ap (λ (a : Seen). a.output) h.0) ∙ o))

-- a refused call leaves every byte
same_left : {m m' : Memory} {ss : List Seen} {s : Seen} → Calls view m (s ∷ ss) m' → ss ≡ [] → (n : ℕ) → s.reply ≡ refused n → m' ≡ m
same_left (call e out out' reply output p g) z n q = ended g z ∙ p.same_memory (ap omits q)
  where
    ended : {m m' : Memory} {ss : List Seen} → Calls view m ss m' → ss ≡ [] → m' ≡ m
    ended no_call z = refl
    ended (call {ss = rs} e out out' reply output p g) z = absurd (let y : suc (length rs) ≡ 0 = ap length z in omega arith)

-- one delivery to each of two memories
module _ (m m' n n' : Memory) (a b : Seen) (g : Run m (a ∷ []) m') (g' : Run n (b ∷ []) n') (c : ℕ) (bs : List ℕ) (room : ℕ) (x : a.event ≡ delivery c bs room)
    (y : b.event ≡ delivery c bs room) (f : FewerLocks (slot_of (view m) c) (view m) (view n)) where
  at_first : (a ≡ seen record {
    event = delivery c bs room;
    reply = (step (view m) (delivery c bs room)).reply;
    frames = (step (view m) (delivery c bs room)).frames;
  }) × (view m' ≡ (step (view m) (delivery c bs room)).server)
  at_first = one_call m m' a g (delivery c bs room) x

  at_second : (b ≡ seen record {
    event = delivery c bs room;
    reply = (step (view n) (delivery c bs room)).reply;
    frames = (step (view n) (delivery c bs room)).frames;
  }) × (view n' ≡ (step (view n) (delivery c bs room)).server)
  at_second = one_call n n' b g' (delivery c bs room) y

  reply_one : a.reply ≡ (step (view m) (delivery c bs room)).reply
  reply_one = ap (λ (s : Seen). s.reply) at_first.0

  reply_two : b.reply ≡ (step (view n) (delivery c bs room)).reply
  reply_two = ap (λ (s : Seen). s.reply) at_second.0

  no_worse_lem : NoWorseSeen (view m) c bs a b m' n'
  no_worse_lem =
      let h = fewer_never_hurts.calls (view m) (view n) c f bs room in
      record {
        granted = λ k z e t o w.
            let r = h.granted k z (sym reply_one ∙ e) t o (granted_in c _ (sym (ap (λ (s : Seen). s.output) at_first.0) ∙ w)) in (
              reply_two ∙ r.0,
              ap (λ (s : Seen). s.output) at_second.0 ∙ ap bytes_of r.1 ∙ sym (ap (λ (s : Seen). s.output) at_first.0) ∙ w,
              ap (λ (d : Server). at d.locks.entries (slot_of (view m) c)) at_second.1 ∙ r.2 ∙ sym (ap (λ (d : Server). at d.locks.entries (slot_of (view m) c)) at_first.1),
            );
        alike = λ alive no.
            let r = h.alike alive (λ e. no (reply_one ∙ e)) in
            (reply_two ∙ r.0 ∙ sym reply_one, ap (λ (d : Server). d.rest) at_second.1 ∙ r.1 ∙ sym (ap (λ (d : Server). d.rest) at_first.1));
        held = λ k z e. reply_one ∙ h.held k z (sym reply_two ∙ e);
      }

-- the lines that the host reads are those of the definitions
read_lines : (ls : List Line) → LinesFit ls → map line_seen (map seen ls) ≡ ls
read_lines [] f = refl
read_lines (l ∷ ls) f = ap₂ (λ (x : List Frame) (xs : List Line). record { event = l.event; reply = l.reply; frames = x } ∷ xs) (read_frames_lem l.frames f.0) (read_lines ls f.1)

fit_behind : (es fs : List Event) (d : Server) → LinesFit (log d (es ++ fs)) → LinesFit (log (final d es) fs)
unfolding log final
fit_behind [] fs d f = f
fit_behind (e ∷ es) fs d f = fit_behind es fs (step d e).server f.1

possible_both : (es fs : List Event) → AllPossible es → AllPossible fs → AllPossible (es ++ fs)
possible_both [] fs p q = q
possible_both (e ∷ es) fs p q = (p.0, possible_both es fs p.1 q)

nothing_in : (fs : List Frame) → bytes_of fs ≡ [] → fs ≡ []
unfolding bytes_of frame_bytes
nothing_in [] e = refl
nothing_in (f ∷ fs) e = absurd (let z : ◌≡◌ {A = ℕ} 0 1 = sym (ap some_byte e) in omega arith)

-- a request that waits, and the calls behind it
module _ (v : Making) (m m' m'' m''' : Memory) (ss : List Seen) (s : Seen) (rs : List Seen) (small : v.vendor < 2 ^ 16) (f : Fresh v m) (g : Run m ss m') (g' : Run m' (s ∷ []) m'') (g'' : Run m'' rs m''')
    (p : AllPossible (seen_events ss)) (p' : AllPossible (seen_events (s ∷ []))) (p'' : AllPossible (seen_events rs)) (c : ℕ) (bs : List ℕ) (room : ℕ) (x : s.event ≡ delivery c bs room) where
  abbrev before : List Event
  before = seen_events ss

  abbrev behind : List Event
  behind = seen_events rs

  abbrev e₀ : Event
  e₀ = delivery c bs room

  abbrev d₀ : Server
  d₀ = final (fresh v) before

  at_call : (s ≡ seen record { event = e₀; reply = (step d₀ e₀).reply; frames = (step d₀ e₀).frames }) × (view m'' ≡ (step d₀ e₀).server)
  at_call =
      let h = one_call m' m'' s g' e₀ x in
      let l : view m' ≡ d₀ = left v m m' ss f g in
      (h.0 ∙ ap (λ (d : Server). seen record { event = e₀; reply = (step d e₀).reply; frames = (step d e₀).frames }) l, h.1 ∙ ap (λ (d : Server). (step d e₀).server) l)

  lines_before : map line_seen ss ≡ log (fresh v) before
  lines_before =
      ap (map line_seen) ((made view (calls g)).0 ∙ ap (λ (d : Server). map seen (log d before)) f.shows)
      ∙ read_lines (log (fresh v) before) (sent_fits.any_run v before small p)

  fit_rest : LinesFit (log (step d₀ e₀).server behind)
  unfolding log
  fit_rest =
      (fit_behind before (e₀ ∷ behind) (fresh v) (sent_fits.any_run v (before ++ (e₀ ∷ behind)) small
      (possible_both before (e₀ ∷ behind) p ((subst (λ (e : Event). AllPossible (e ∷ [])) x p').0, p'')))).1

  lines_behind : map line_seen rs ≡ log (step d₀ e₀).server behind
  lines_behind =
      ap (map line_seen) ((made view (calls g'')).0 ∙ ap (λ (d : Server). map seen (log d behind)) at_call.1)
      ∙ read_lines (log (step d₀ e₀).server behind) fit_rest

  once_seen : (k n : ℕ) → s.reply ≡ took acted k n → (header bs).kind ≡ AsyncLock → (header bs).code ≡ 1 → s.output ≡ []
      → Once c (synchronous_of v before n) (clock_in (map line_seen ss) + (header bs).param) none_stands (map line_seen rs)
  once_seen k n e t o w =
      let r = (answered_once v before).once c bs room k n (sym (ap (λ (a : Seen). a.reply) at_call.0) ∙ e) t o (nothing_in _ (sym (ap (λ (a : Seen). a.output) at_call.0) ∙ w)) behind in
      let u : Once c (synchronous_of v before n) (clock_in (map line_seen ss) + (header bs).param) none_stands (log (step d₀ e₀).server behind) =
      subst (λ (ls : List Line). Once c (synchronous_of v before n) (clock_in ls + (header bs).param) none_stands (log (step d₀ e₀).server behind)) (sym lines_before) r in
      subst (λ (ls : List Line). Once c (synchronous_of v before n) (clock_in (map line_seen ss) + (header bs).param) none_stands ls) (sym lines_behind) u

-- 02, Q-11: a call, and its frames read off its bytes
module _ (v : Making) (m m' m'' : Memory) (ss : List Seen) (s : Seen) (small : v.vendor < 2 ^ 16) (f : Fresh v m) (g : Run m ss m') (g' : Run m' (s ∷ []) m'')
    (p : AllPossible (seen_events ss)) (p' : AllPossible (seen_events (s ∷ []))) where
  abbrev d₁ : Server
  d₁ = final (fresh v) (seen_events ss)

  abbrev e₁ : Event
  e₁ = s.event

  at_once : s ≡ seen record { event = e₁; reply = (step d₁ e₁).reply; frames = (step d₁ e₁).frames }
  at_once = (one_call m' m'' s g' e₁ refl).0 ∙ ap (λ (d : Server). seen record { event = e₁; reply = (step d e₁).reply; frames = (step d e₁).frames }) (left v m m' ss f g)

  abbrev frames_first : List Line → List Frame
  frames_first [] = []
  frames_first (l ∷ ls) = l.frames

  frames_read : frames_seen s ≡ (step d₁ e₁).frames
  unfolding log
  frames_read =
      ap frames_seen at_once
      ∙ ap frames_first (read_lines (log d₁ (e₁ ∷ [])) (fit_behind (seen_events ss) (e₁ ∷ []) (fresh v)
      (sent_fits.any_run v (seen_events ss ++ (e₁ ∷ [])) small (possible_both (seen_events ss) (e₁ ∷ []) p p'))))

  served_seen : keep is_service (frames_seen s) ≡ served_by v (seen_events ss) (happened e₁ s.reply [])
  served_seen =
      ap (keep is_service) frames_read
      ∙ (watches v (seen_events ss)).serves e₁
      ∙ served_same v (seen_events ss) e₁ (step d₁ e₁).reply (step d₁ e₁).frames
      ∙ ap (λ (y : Reply). served_by v (seen_events ss) (happened e₁ y [])) (sym (ap (λ (a : Seen). a.reply) at_once))

-- who holds what, since when
module _ (v : Making) (m m' : Memory) (ss : List Seen) (f : Fresh v m) (g : Run m ss m') where
  shown_holders : Ascending (holders_of (view m').locks.entries)
      × ((p : ℕ → Bool → Bool → Bool) → tally (λ r. p r.session r.exclusive r.shared) (holders_of (view m').locks.entries)
      ≡ tally (λ s. holds_lock s && p s.number s.exclusive (not (not_shared s))) (model_after v (seen_events ss)).sessions)
  shown_holders =
      let h = holders_shown v (seen_events ss) in
      let e : view m' ≡ final (fresh v) (seen_events ss) = left v m m' ss f g in (
        subst (λ (d : Server). Ascending (holders_of d.locks.entries)) (sym e) h.ascending,
        λ p. ap (λ (d : Server). tally (λ r. p r.session r.exclusive r.shared) (holders_of d.locks.entries)) e ∙ h.exactly p,
      )

  read_all : v.vendor < 2 ^ 16 → AllPossible (seen_events ss) → map line_seen ss ≡ log (fresh v) (seen_events ss)
  read_all small p =
      ap (map line_seen) ((made view (calls g)).0 ∙ ap (λ (d : Server). map seen (log d (seen_events ss))) f.shows)
      ∙ read_lines (log (fresh v) (seen_events ss)) (sent_fits.any_run v (seen_events ss) small p)

  seen_grants : v.vendor < 2 ^ 16 → AllPossible (seen_events ss) → (j : ℕ) → live (at (view m').locks.entries j) ≡ true
      → AsTold (grants_of (map line_seen ss) 0 (at (view m').locks.entries j).number none_yet) (at (view m').locks.entries j)
  seen_grants small p j =
      subst (λ (ls : List Line). live (at (view m').locks.entries j) ≡ true →
      AsTold (grants_of ls 0 (at (view m').locks.entries j).number none_yet) (at (view m').locks.entries j)) (sym (read_all small p))
      (subst (λ (d : Server). live (at d.locks.entries j) ≡ true →
      AsTold (grants_of (log (fresh v) (seen_events ss)) 0 (at d.locks.entries j).number none_yet) (at d.locks.entries j))
      (sym (left v m m' ss f g))
      ((grants_seen v (seen_events ss)).shows j))

pub program : Program Fresh Run
program =
    record {
      by_definition = λ m m' ss g. let h = made view (calls g) in record { seen_is = h.0; server_is = h.1 };
      view_decides = decided;
      demand3 = λ v m m' ss f g. demand3 view v m f.shows (calls g);
      in_order = orderly;
      one_memory = one_left;
      decides = λ v m m' ss f g. run_decides v (seen_events ss);
      taken_whole = λ v m m' ss f g p. taken_whole.any_run v (seen_events ss) p;
      reads_back = λ v m m' ss l f g p. (reads_back view).any_calls v m l f.shows (calls g) p;
      acts_exactly = λ v m m' ss f g c bs room.
          subst (λ (d : Server). ActsExactly d (last_in_log (log (fresh v) (seen_events ss)) 0) c bs room) (sym (left v m m' ss f g)) ((permitted_acts v (seen_events ss)).acts_next c bs room);
      opens = λ v m m' ss f g c bs room. subst (λ (d : Server). Opens d v c bs room) (sym (left v m m' ss f g)) ((sessions_open v (seen_events ss)).opens_next c bs room);
      locality = λ m m' ss g. local_run (view m) (seen_events ss);
      tie = tied;
      in_time = λ v m m' m'' ss s f g g' p n payload shown room x y o r. in_time v m m' m'' ss s f g g' p n payload shown room x o r y;
      withheld_answer = λ v m m' m'' ss s f g g' p n payload shown room x q o r u. withheld_then v m m' m'' ss s f g g' p n payload shown room x o r q u;
      number_read = λ v m m' ss f g j a.
          subst (λ (d : Server). live (at d.locks.entries j) ≡ true →
          Knows (taken_of ss (at d.locks.entries j).number) (at d.locks.entries j) (exchange_at d.rest j)) (sym (left v m m' ss f g))
          (λ a. let d : Server = final (fresh v) (seen_events ss) in
          subst (λ (p : Numbering). Knows p (at d.locks.entries j) (exchange_at d.rest j))
          (sym (took_seen v m m' ss f g (at d.locks.entries j).number)) ((in_steps v (seen_events ss)).reads j a)) a;
      number_carried = carried;
      out_of_step = out_of_step;
      in_step = in_step;
      list_read_lem = λ v m m' ss f g.
          let e = seen_events ss in
          let q : list_set v e ≡ list_shown ss = sym (ap list_shown (by_log v m m' ss f g) ∙ list_seen (log (fresh v) e) any_command) in
          (ap (λ (d : Server). d.rest.allowed) (left v m m' ss f g) ∙ (allowed_run v e).reads ∙ q, subst GoodList q (allowed_run v e).good);
      allowed_only = allowed_then;
      not_allowed = not_allowed_then;
      only_128 = told_only;
      refused_same = λ m m' s g n q. same_left (calls g) refl n q;
      standing = λ v m m' ss f g j k n. subst (λ (d : Server). StandsOn d j k n) (sym (left v m m' ss f g)) (stands_on v (seen_events ss) j k n);
      isolation = isolated;
      fewer_locks = λ m m' n n' a b g g' c bs room x y f. no_worse_lem m m' n n' a b g g' c bs room x y f;
      answered_once = λ v m m' m'' m''' ss s rs small f g g' g'' p p' p'' c bs room k n x e t o w. once_seen v m m' m'' m''' ss s rs small f g g' g'' p p' p'' c bs room x k n e t o w;
      sensing_seen_lem = λ v m m' ss f g j.
          subst (λ (d : Server). live (at d.locks.entries j) ≡ true → sensing_at d.rest j ≡ sensing_seen ss (at d.locks.entries j).number fresh_sensing) (sym (left v m m' ss f g))
          (λ a. let d : Server = final (fresh v) (seen_events ss) in
          (watches v (seen_events ss)).known j a
          ∙ sym (ap (λ (x : List Seen). sensing_seen x (at d.locks.entries j).number fresh_sensing) (by_log v m m' ss f g)
          ∙ sensing_lines (log (fresh v) (seen_events ss)) (at d.locks.entries j).number fresh_sensing));
      served = λ v m m' m'' ss s small f g g' p p'. served_seen v m m' m'' ss s small f g g' p p';
      holders_shown = λ v m m' ss f g. shown_holders v m m' ss f g;
      grants_seen = λ v m m' ss small f g p j. seen_grants v m m' ss f g small p j;
    }
