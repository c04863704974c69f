-- Every statement about the program, fully quantified: runs of the C interface, call by call, each as its function's `ensures` says, from
-- memory that `hislip_new` wrote. What the host saw is read off the structs that the calls returned and the buffers that they wrote.
-- The predicates are the model's; proofs/Contracts.antt has `about_the_code`, whose premises are the functions' own contracts.
use Rattle.std.specs.Prelude.{◌≡◌, Bool, true, false, not, ◌&&◌, cond, List, [], ◌∷◌, map, ℕ, zero, suc, ◌+◌, ◌<◌, ◌^◌, eqb, length, take}
use Rattle.wire.specs.Class.{one_of}
use Rattle.wire.specs.Frame.{frame_of, frame_bytes, bytes_of}
use Rattle.wire.specs.Message.{header, payload_of}
use Rattle.model.specs.Interface.{Event.opening, Event.delivery, Event.cut, Event.clock, Event.answer, Event.status, Event.setting, Setting.patterns, Outcome}
use Rattle.model.specs.Interface.{Outcome.more_needed, Outcome.skipped, Outcome.held, Outcome.ignored, Outcome.error_sent, Outcome.closed, Outcome.acted}
use Rattle.model.specs.Interface.{Reply, Reply.refused, Reply.done, Reply.withheld, Reply.took, Setting.watch}
use Rattle.model.specs.Sizes.{no_connection}
use Rattle.model.specs.Lists.{tally, keep}
use Rattle.model.specs.State.{Asked.some, Allowed, Allowed.any_command, Kind, Making, at, exchange_at, fresh, live, slot_of_number, Server, Sensing, fresh_sensing, sensing_at}
use Rattle.readings.specs.Watch.{Limits}
use Rattle.model.specs.Step.{final, log, answer_type, Line}
use Rattle.model.specs.Post.{Post}
use Rattle.model.specs.MessageTypes.{Error, DataEND, Trigger, Interrupted, AsyncInterrupted, commands, AsyncLock, AsyncLockResponse}
use Rattle.model.specs.Place.{slot_of, entry_of}
use Rattle.model.specs.Access.{Command, access_of}
use Rattle.model.specs.Happening.{happened}
use Rattle.model.specs.InStep.{Numbering, Knows, first_numbering, expected, numbering_after, count_up, error_0}
use Rattle.model.specs.Allowing.{Admits}
use Rattle.model.specs.AllowedOnly.{PassesBefore, answered_128, Refused128, list_after, GoodList}
use Rattle.model.specs.IsolationRun.{Undisturbed}
use Rattle.model.specs.Tie.{Track, nothing_yet, track}
use Rattle.model.specs.Demand3.{Seen, seen, seen_events, Demand3}
use Rattle.model.specs.LockModel.{fresh_model, not_shared}
use Rattle.model.specs.Deciding.{EachDecides, model_after}
use Rattle.model.specs.Canonical.{canonical, kept}
use Rattle.model.specs.OnlyWhole.{OnlyWhole}
use Rattle.model.specs.Possible.{AllPossible}
use Rattle.model.specs.ReadBack.{ReadBack, frames_seen}
use Rattle.model.specs.SessionId.{last_in_log}
use Rattle.model.specs.Permitted.{ActsExactly}
use Rattle.model.specs.Opening.{Opens}
use Rattle.model.specs.Locality.{LocalRun}
use Rattle.model.specs.NextQuestion.{question_unread, synchronous_of, asynchronous_of, owes}
use Rattle.model.specs.Fewer.{FewerLocks}
use Rattle.model.specs.AnsweredOnce.{Release.none_stands, Once, clock_in}
use Rattle.model.specs.Holders.{holders_of, Ascending, holds_lock}
use Rattle.model.specs.GrantsSeen.{none_yet, grants_of, AsTold}
use Rattle.model.specs.Refusals.{refusal}
use Rattle.model.specs.Standing.{StandsOn}
use Rattle.model.specs.Sensing.{service_after}
use Rattle.model.specs.Watching.{senses, is_service, served_by}
use Rattle.state.specs.Tidy.{Tidy}
use Rattle.state.specs.View.{Memory, view}
use Rattle.sessions.specs.declared.Delivery.{Delivery}
use Rattle.server.specs.declared.Answered.{Answered}
use Rattle.server.specs.declared.Done.{Done}
use Rattle.server.specs.declared.listing.Listed.{Listed}
use Rattle.server.specs.Calls.{Delivered}
use Rattle.server.specs.Events.{Called, Replied}
use Rattle.server.specs.Listing.{SetsList}

-- the reply that a returned struct tells: a refusal, else the outcome by its number, the bytes taken and the session
abbrev pub outcome_of : ℕ → Outcome
outcome_of n =
    cond (eqb n 0) more_needed
    (cond (eqb n 1) skipped
    (cond (eqb n 2) held
    (cond (eqb n 3) ignored
    (cond (eqb n 4) error_sent
    (cond (eqb n 5) closed acted)))))

abbrev pub refused_or : ℕ → Reply → Reply
refused_or zero y = y
refused_or (suc n) y = refused (suc n)

abbrev pub delivery_reply : Delivery → Reply
delivery_reply r = refused_or r.refusal (took (outcome_of r.outcome) r.taken r.session)

abbrev pub done_reply : Done → Reply
done_reply r = refused_or r.refusal done

-- 02, Q-5: of an answer also whether it was withheld
abbrev pub answered_reply : Answered → Reply
answered_reply r = refused_or r.refusal (cond (eqb r.withheld 1) withheld done)

-- 02, Q-12: of a list that the host sets
abbrev pub listed_reply : Listed → Reply
listed_reply r = refused_or r.refusal done

-- from one memory to another; nobody else writes it, and each call lends whatever buffer
pub data Run : Memory → List Seen → Memory → Type 0 where
  stop : {m : Memory} → Run m [] m
  hislip_open : {m m' m'' : Memory} {ss : List Seen} (c : ℕ) (r : Done) → Called (opening c) r m m' [] [] → Run m' ss m''
      → Run m (record { event = opening c; reply = done_reply r; output = [] } ∷ ss) m''
  hislip_deliver : {m m' m'' : Memory} {ss : List Seen} (c : ℕ) (bytes out out' : List ℕ) (r : Delivery) → Delivered (delivery c bytes (length out)) r m m' out out' → Run m' ss m''
      → Run m (record { event = delivery c bytes (length out); reply = delivery_reply r; output = take r.output out' } ∷ ss) m''
  hislip_cut : {m m' m'' : Memory} {ss : List Seen} (c : ℕ) (out out' : List ℕ) (r : Done) → Called (cut c (length out)) r m m' out out' → Run m' ss m''
      → Run m (record { event = cut c (length out); reply = done_reply r; output = take r.output out' } ∷ ss) m''
  hislip_clock : {m m' m'' : Memory} {ss : List Seen} (t : ℕ) (out out' : List ℕ) (r : Done) → Called (clock t (length out)) r m m' out out' → Run m' ss m''
      → Run m (record { event = clock t (length out); reply = done_reply r; output = take r.output out' } ∷ ss) m''
  hislip_answer : {m m' m'' : Memory} {ss : List Seen} (n : ℕ) (payload : List ℕ) (end : ℕ) (shown out out' : List ℕ) (r : Answered) →
      Replied (answer n payload (not (eqb end 0)) shown (length out)) r m m' out out' → Run m' ss m''
      → Run m (record { event = answer n payload (not (eqb end 0)) shown (length out); reply = answered_reply r; output = take r.output out' } ∷ ss) m''
  -- 02, Q-11: by whichever of the three functions
  hislip_watch : {m m' m'' : Memory} {ss : List Seen} (n : ℕ) (l : Limits) (r : Done) → Called (setting (watch n l)) r m m' [] [] → Run m' ss m''
      → Run m (record { event = setting (watch n l); reply = done_reply r; output = [] } ∷ ss) m''
  hislip_status : {m m' m'' : Memory} {ss : List Seen} (b : ℕ) → (Post view (status b) m m' [] [] done 0 × (Tidy m → Tidy m')) → Run m' ss m''
      → Run m (record { event = status b; reply = done; output = [] } ∷ ss) m''
  hislip_patterns : {m m' m'' : Memory} {ss : List Seen} (text : List ℕ) (r : Listed) → SetsList text r m m' → Run m' ss m''
      → Run m (record { event = setting (patterns text); reply = listed_reply r; output = [] } ∷ ss) m''

-- from any memory, whatever bits it holds: a run is the one of the definitions, so what is proved of `log` and `final` is proved of the
-- program
pub record ByDefinition (m m' : Memory) (ss : List Seen) : Type 0 where
  pub seen_is : ss ≡ map seen (log (view m) (seen_events ss))
  pub server_is : view m' ≡ final (view m) (seen_events ss)

-- of session n, read off what the host saw (the rule is the tie's): its mode, what is asked, the number of its next answer in overlap mode
abbrev pub track_in : Bool → List Seen → ℕ → Track → Track
track_in w [] n p = p
track_in w (s ∷ ss) n p = track_in w ss n (track w s.event s.reply n p)

abbrev pub shown_of : Making → List Seen → ℕ → Track
shown_of v ss n = track_in v.prefers_overlap ss n (nothing_yet v.prefers_overlap)

-- F about the program: an answer of the instrument that is not refused and not withheld writes one frame, to the session's synchronous connection (02,
-- Q-11: and behind it the request for service, if it is the first to trip the watch). In
-- synchronized mode its MessageID is that of the last DataEND or Trigger of the session that acted, with no device clear, no END answer and
-- no interruption (02, Q-5) since; 02, Q-1: in overlap mode it is the count of the session's answers since it opened or was cleared
pub record Tied (v : Making) (ss : List Seen) (m : Memory) (n : ℕ) (payload : List ℕ) (end : Bool) (output : List ℕ) : Type 0 where
  pub number : ℕ
  pub asked : (shown_of v ss n).overlap ≡ false → (shown_of v ss n).asked ≡ some number
  pub counted : (shown_of v ss n).overlap ≡ true → (shown_of v ss n).count ≡ number
  pub sent : output ≡ bytes_of (frame_of (at (view m).locks.entries (slot_of_number (view m).locks.entries n)).synchronous (answer_type end) 0 number payload ∷ service_after (view m) n payload)

-- 02, Q-11: of session n, its watch, trip and record, read off what the host saw (the rule is the model's reader's)
abbrev pub sensing_seen : List Seen → ℕ → Sensing → Sensing
sensing_seen [] n x = x
sensing_seen (s ∷ ss) n x = sensing_seen ss n (senses (happened s.event s.reply []) n x)

-- 02, Q-10: of session n, the numbers of its Data, DataEND and Trigger messages, read off what the host saw (the rule is the model's reader's)
abbrev pub noted_seen : Seen → ℕ → Numbering → Numbering
noted_seen s n p = numbering_after (happened s.event s.reply []) n p

abbrev pub noted_in : List Seen → ℕ → Numbering → Numbering
noted_in [] n p = p
noted_in (s ∷ ss) n p = noted_in ss n (noted_seen s n p)

abbrev pub taken_of : List Seen → ℕ → Numbering
taken_of ss n = noted_in ss n (first_numbering no_connection)

-- each number that is taken of the session is the next of 003's count
abbrev pub CountsIn : List Seen → ℕ → Numbering → Type 0
CountsIn [] n p = Unit {0}
CountsIn (s ∷ ss) n p = ((noted_seen s n p).taken ≡ count_up (length (noted_seen s n p).taken)) × CountsIn ss n (noted_seen s n p)

-- of the session's Data, DataEND and Trigger messages outside a clear a call answers Error 0 only to a Trigger with payload
abbrev pub NeverOutIn : List Seen → ℕ → Numbering → Type 0
NeverOutIn [] n p = Unit {0}
NeverOutIn (s ∷ ss) n p =
    ((bs : List ℕ) (room k m : ℕ) → s.event ≡ delivery p.connection bs room → s.reply ≡ took error_sent k m → p.in_clear ≡ false → one_of commands (header bs).kind ≡ true
    → s.output ≡ bytes_of (error_0 p.connection) → ((header bs).kind ≡ Trigger) × (0 < (header bs).len))
    × NeverOutIn ss n (noted_seen s n p)

-- 02, Q-12: the list that is set, read off what the host saw: that of the last setting that was not refused (the rule is the model's reader's)
abbrev pub list_in : List Seen → Allowed → Allowed
list_in [] a = a
list_in (s ∷ ss) a = list_in ss (list_after s.event s.reply a)

abbrev pub list_shown : List Seen → Allowed
list_shown ss = list_in ss any_command

-- every Data, DataEND and Trigger that acted is session n's
abbrev pub OnlyOf : ℕ → List Seen → Type 0
OnlyOf n [] = Unit {0}
OnlyOf n (s ∷ ss) =
    ((c : ℕ) (bs : List ℕ) (room k m : ℕ) → s.event ≡ delivery c bs room → s.reply ≡ took acted k m → one_of commands (header bs).kind ≡ true → m ≡ n)
    × OnlyOf n ss

-- 02, Q-14: a server like view m, but that other sessions hold fewer locks; a and b are what the host saw of one delivery to each, of the same
-- bytes on the same connection c. A request (AsyncLock with code 1) granted at once in the first is granted so in the second; a message that was
-- not held in the first is not held in the second, and gets the same reply
pub record NoWorseSeen (d : Server) (c : ℕ) (bs : List ℕ) (a b : Seen) (m n : Memory) : Type 0 where
  pub granted : (k x : ℕ) → a.reply ≡ took acted k x → (header bs).kind ≡ AsyncLock → (header bs).code ≡ 1 → a.output ≡ frame_bytes (frame_of c AsyncLockResponse 1 0 [])
      → (b.reply ≡ took acted k x) × (b.output ≡ frame_bytes (frame_of c AsyncLockResponse 1 0 [])) × (at (view n).locks.entries (slot_of d c) ≡ at (view m).locks.entries (slot_of d c))
  pub alike : live (entry_of d c) ≡ true → (a.reply ≡ took held 0 0 → ⊥) → (b.reply ≡ a.reply) × ((view n).rest ≡ (view m).rest)
  pub held : (k x : ℕ) → b.reply ≡ took held k x → a.reply ≡ took held 0 0

-- what the host saw of a call, its output read as a row of frames
abbrev pub line_seen : Seen → Line
line_seen s = record { event = s.event; reply = s.reply; frames = frames_seen s }

-- the claims, for memory that is new (made as v says) and for runs, in whatever way the two are told: by the words of the contracts
-- (`Fresh`, `Run`), or by what the toolchain reads off the functions themselves (proofs/Contracts.antt)
pub record Program (New : Making → Memory → Type 0) (Ran : Memory → List Seen → Memory → Type 0) : Type 0 where
  pub by_definition : (m m' : Memory) (ss : List Seen) → Ran m ss m' → ByDefinition m m' ss
  -- the view shows everything that a later call can depend on: from two memories with one view the same events show the host the same
  pub view_decides : (m m' n n' : Memory) (ss rs : List Seen) → view m ≡ view n → Ran m ss m' → Ran n rs n' → seen_events ss ≡ seen_events rs
      → (ss ≡ rs) × (view m' ≡ view n')
  pub demand3 : (v : Making) (m m' : Memory) (ss : List Seen) → New v m → Ran m ss m' → Demand3 view v ss m'
  -- "After it the desk is the very one": the lent memory is in order, and two runs with one canonical history leave one memory, word for
  -- word and byte for byte
  pub in_order : (v : Making) (m m' : Memory) (ss : List Seen) → v.vendor < 2 ^ 16 → New v m → Ran m ss m' → Tidy m'
  pub one_memory : (v : Making) (m m' n n' : Memory) (ss rs : List Seen) → v.vendor < 2 ^ 16 → New v m → Ran m ss m' → New v n → Ran n rs n'
      → canonical (fresh v) (seen_events ss) ≡ canonical (fresh v) (seen_events rs) → m' ≡ n'
  -- each call of the list decides by the lock model's holders just before it: held or not, granted or not, AsyncLockInfo's frame
  pub decides : (v : Making) (m m' : Memory) (ss : List Seen) → New v m → Ran m ss m' → EachDecides (fresh v) fresh_model (seen_events ss)
  -- each kept delivery shows one whole message, the header of one that is too long, or skipped bytes that are owed
  pub taken_whole : (v : Making) (m m' : Memory) (ss : List Seen) → New v m → Ran m ss m' → AllPossible (seen_events ss) → OnlyWhole (λ c. 0) (kept (log (fresh v) (seen_events ss)))
  -- the frames, and among them the lock answers, are read off the bytes that the host saw
  pub reads_back : (v : Making) (m m' : Memory) (ss : List Seen) → v.vendor < 2 ^ 16 → New v m → Ran m ss m' → AllPossible (seen_events ss) → ReadBack v ss
  -- after the list: a delivery acts exactly where the table of forms permits it; what opens and joins a session, and how
  pub acts_exactly : (v : Making) (m m' : Memory) (ss : List Seen) → New v m → Ran m ss m' → (c : ℕ) (bs : List ℕ) (room : ℕ) →
      ActsExactly (view m') (last_in_log (log (fresh v) (seen_events ss)) 0) c bs room
  pub opens : (v : Making) (m m' : Memory) (ss : List Seen) → New v m → Ran m ss m' → (c : ℕ) (bs : List ℕ) (room : ℕ) → Opens (view m') v c bs room
  -- from any memory: which call changed which field, and to what
  pub locality : (m m' : Memory) (ss : List Seen) → Ran m ss m' → LocalRun (view m) (seen_events ss)
  -- of an answer that was sent
  pub tie : (v : Making) (m m' m'' : Memory) (ss : List Seen) (s : Seen) → New v m → Ran m ss m' → Ran m' (s ∷ []) m''
      → (n : ℕ) (payload : List ℕ) (end : Bool) (shown : List ℕ) (room : ℕ) → s.event ≡ answer n payload end shown room → s.reply ≡ done → Tied v ss m' n payload end s.output
  -- 02, Q-5: an answer that ended, was sent in synchronized mode with nothing to skip: no next question was unread
  pub in_time : (v : Making) (m m' m'' : Memory) (ss : List Seen) (s : Seen) → New v m → Ran m ss m' → Ran m' (s ∷ []) m'' → AllPossible (seen_events ss)
      → (n : ℕ) (payload shown : List ℕ) (room : ℕ) → s.event ≡ answer n payload true shown room → s.reply ≡ done
      → (shown_of v ss n).overlap ≡ false → owes v (seen_events ss) n ≡ 0 → question_unread shown ≡ false
  -- where one was unread, it is withheld: AsyncInterrupted, then Interrupted, with the question's number
  pub withheld_answer : (v : Making) (m m' m'' : Memory) (ss : List Seen) (s : Seen) → New v m → Ran m ss m' → Ran m' (s ∷ []) m'' → AllPossible (seen_events ss)
      → (n : ℕ) (payload shown : List ℕ) (room : ℕ) → s.event ≡ answer n payload true shown room → refusal (view m') s.event ≡ 0
      → (shown_of v ss n).overlap ≡ false → owes v (seen_events ss) n ≡ 0 → question_unread shown ≡ true
      → (s.reply ≡ withheld) × (s.output
      ≡ bytes_of (frame_of (asynchronous_of v (seen_events ss) n) AsyncInterrupted 0 (header shown).param []
      ∷ frame_of (synchronous_of v (seen_events ss) n) Interrupted 0 (header shown).param [] ∷ []))
  -- 02, Q-10: "Data, DataEND and Trigger must carry the number expected": of each live session it is known from what the host saw
  pub number_read : (v : Making) (m m' : Memory) (ss : List Seen) → New v m → Ran m ss m' → (j : ℕ) → live (at (view m').locks.entries j) ≡ true
      → Knows (taken_of ss (at (view m').locks.entries j).number) (at (view m').locks.entries j) (exchange_at (view m').rest j)
  -- one that acts carries it
  pub number_carried : (v : Making) (m m' m'' : Memory) (ss : List Seen) (s : Seen) → New v m → Ran m ss m' → Ran m' (s ∷ []) m''
      → (c : ℕ) (bs : List ℕ) (room k n : ℕ) → s.event ≡ delivery c bs room → s.reply ≡ took acted k n → one_of commands (header bs).kind ≡ true
      → (header bs).param ≡ expected (taken_of ss n).taken
  -- from any memory: "any other of permitted size is Error 0, expectation unchanged", and so is all else
  pub out_of_step : (m m' : Memory) (s : Seen) → Ran m (s ∷ []) m' → (c : ℕ) (bs : List ℕ) (room : ℕ) → s.event ≡ delivery c bs room
      → refusal (view m) (delivery c bs room) ≡ 0 → Command (view m) c bs → access_of (view m) c ≡ true → ((header bs).param ≡ (exchange_at (view m).rest (slot_of (view m) c)).number_expected → ⊥)
      → (s.reply ≡ took error_sent (16 + (header bs).len) 0) × (s.output ≡ bytes_of (error_0 c)) × (view m' ≡ view m)
  -- a client that counts as 003 says never meets this Error 0, whatever of it is held, cut, too large or refused in between
  pub in_step : (v : Making) (m m' : Memory) (ss : List Seen) → New v m → Ran m ss m' → (n : ℕ) → CountsIn ss n (first_numbering no_connection) → NeverOutIn ss n (first_numbering no_connection)
  -- 02, Q-12: the list that is set is known from what the host saw, and has at most 32 patterns, each of them good
  pub list_read_lem : (v : Making) (m m' : Memory) (ss : List Seen) → New v m → Ran m ss m' → ((view m').rest.allowed ≡ list_shown ss) × GoodList (list_shown ss)
  -- a DataEND acts only if that list allows it
  pub allowed_only : (v : Making) (m m' m'' : Memory) (ss : List Seen) (s : Seen) → New v m → Ran m ss m' → Ran m' (s ∷ []) m''
      → (c : ℕ) (bs : List ℕ) (room k n : ℕ) → s.event ≡ delivery c bs room → s.reply ≡ took acted k n → (header bs).kind ≡ DataEND
      → Admits (list_shown ss) (payload_of (header bs) bs)
  -- one that it does not allow, and that passes the checks before, gets exactly Error 128
  pub not_allowed : (v : Making) (m m' m'' : Memory) (ss : List Seen) (s : Seen) → New v m → Ran m ss m' → Ran m' (s ∷ []) m''
      → (c : ℕ) (bs : List ℕ) (room : ℕ) → s.event ≡ delivery c bs room → refusal (view m') (delivery c bs room) ≡ 0 → PassesBefore (view m') c bs
      → (Admits (list_shown ss) (payload_of (header bs) bs) → ⊥)
      → (s.reply ≡ took error_sent (16 + (header bs).len) 0) × (s.output ≡ frame_bytes (frame_of c Error 128 0 [])) × (view m'' ≡ (answered_128 (view m') c bs).server)
  -- from any memory: nothing else is answered Error 128, and a list that is refused, as any call, leaves every lent byte as it was
  pub only_128 : (m m' : Memory) (s : Seen) → Ran m (s ∷ []) m' → (c : ℕ) → s.output ≡ frame_bytes (frame_of c Error 128 0 []) → Refused128 (view m) s.event
  pub refused_same : (m m' : Memory) (s : Seen) → Ran m (s ∷ []) m' → (n : ℕ) → s.reply ≡ refused n → m' ≡ m
  -- Q about the program: a release that is not answered at once stands until its message, a device clear or its session's closing
  pub standing : (v : Making) (m m' : Memory) (ss : List Seen) → New v m → Ran m ss m' → (j : ℕ) (k : Kind) (n : ℕ) → StandsOn (view m') j k n
  -- N about the program: from where a session holds exclusive until its release is answered or its closing, nobody else's command acts
  pub isolation : (v : Making) (m m' m'' : Memory) (ss rs : List Seen) → New v m → Ran m ss m'
      → (j : ℕ) → (at (view m').locks.entries j).exclusive ≡ true → Ran m' rs m'' → Undisturbed j (view m') (seen_events rs)
      → OnlyOf (at (view m').locks.entries j).number rs
  -- H about the program, from any memories: where other sessions hold fewer locks nobody is worse off, one delivery to each
  pub fewer_locks : (m m' n n' : Memory) (a b : Seen) → Ran m (a ∷ []) m' → Ran n (b ∷ []) n'
      → (c : ℕ) (bs : List ℕ) (room : ℕ) → a.event ≡ delivery c bs room → b.event ≡ delivery c bs room
      → FewerLocks (slot_of (view m) c) (view m) (view n) → NoWorseSeen (view m) c bs a b m' n'
  -- 02, Q-14: a request that acted and was not answered, in the calls that follow: answered just once, 1 by a grant, 0 by its session's
  -- AsyncDeviceClear or the first accepted reading at or past its deadline, unless its session closes before
  pub answered_once : (v : Making) (m m' m'' m''' : Memory) (ss : List Seen) (s : Seen) (rs : List Seen) → v.vendor < 2 ^ 16
      → New v m → Ran m ss m' → Ran m' (s ∷ []) m'' → Ran m'' rs m'''
      → AllPossible (seen_events ss) → AllPossible (seen_events (s ∷ [])) → AllPossible (seen_events rs)
      → (c : ℕ) (bs : List ℕ) (room k n : ℕ) → s.event ≡ delivery c bs room → s.reply ≡ took acted k n → (header bs).kind ≡ AsyncLock → (header bs).code ≡ 1 → s.output ≡ []
      → Once c (synchronous_of v (seen_events ss) n) (clock_in (map line_seen ss) + (header bs).param) none_stands (map line_seen rs)
  -- 02, Q-11: of each live session the watch, whether it tripped, and the record that `hislip_readings` tells, as the host set and saw them
  pub sensing_seen_lem : (v : Making) (m m' : Memory) (ss : List Seen) → New v m → Ran m ss m' → (j : ℕ) → live (at (view m').locks.entries j) ≡ true
      → sensing_at (view m').rest j ≡ sensing_seen ss (at (view m').locks.entries j).number fresh_sensing
  -- every request for service: of an answer that is sent, exactly if its readings are the first to trip the watch since it was set
  pub served : (v : Making) (m m' m'' : Memory) (ss : List Seen) (s : Seen) → v.vendor < 2 ^ 16 → New v m → Ran m ss m' → Ran m' (s ∷ []) m'' →
      AllPossible (seen_events ss) → AllPossible (seen_events (s ∷ []))
      → keep is_service (frames_seen s) ≡ served_by v (seen_events ss) (happened s.event s.reply [])
  -- 02, Q-9: the rows that `hislip_holders` writes are the lock model's holders, each once, ascending by SessionID
  pub holders_shown : (v : Making) (m m' : Memory) (ss : List Seen) → New v m → Ran m ss m'
      → Ascending (holders_of (view m').locks.entries)
      × ((p : ℕ → Bool → Bool → Bool) → tally (λ r. p r.session r.exclusive r.shared) (holders_of (view m').locks.entries)
      ≡ tally (λ s. holds_lock s && p s.number s.exclusive (not (not_shared s))) (model_after v (seen_events ss)).sessions)
  -- the number of each session is that of the answers 1 to its requests since it opened, its reading that of the last, as the host saw them
  pub grants_seen : (v : Making) (m m' : Memory) (ss : List Seen) → v.vendor < 2 ^ 16 → New v m → Ran m ss m' → AllPossible (seen_events ss) → (j : ℕ) → live (at (view m').locks.entries j) ≡ true
      → AsTold (grants_of (map line_seen ss) 0 (at (view m').locks.entries j).number none_yet) (at (view m').locks.entries j)
