-- Every statement about the definitions, fully quantified, in the order of the customer's demands (00). A reader may stop here: the predicates
-- that it names are this folder's, and claims/proofs/Statements.antt proves all of it. What a host meets is the program: server/specs/Program.antt.
use Rattle.std.specs.Prelude.{◌≡◌, Bool, true, not, ◌↔◌, List, [], ◌∷◌, ℕ, suc}
use Rattle.model.specs.Sizes.{no_connection}
use Rattle.model.specs.Lists.{all}
use Rattle.model.specs.State.{Server, Entry, Kind, at, fresh, Making}
use Rattle.model.specs.Interface.{Event, Event.answer, Reply.refused, Reply.done}
use Rattle.model.specs.Refusals.{refusal}
use Rattle.model.specs.Place.{is_on_connection, slot_of}
use Rattle.model.specs.Locks.{may_grant}
use Rattle.model.specs.Step.{step, final}
use Rattle.model.specs.Bound.{OutputFits}
use Rattle.model.specs.Reader.{OneReader}
use Rattle.model.specs.SentFits.{SentFits}
use Rattle.model.specs.Permitted.{PermittedActs}
use Rattle.model.specs.Malformed.{Malformed}
use Rattle.model.specs.Opening.{Opening}
use Rattle.model.specs.SessionId.{NumbersIssued}
use Rattle.model.specs.Sending.{Sending}
use Rattle.model.specs.Granting.{MayExclusive, MayShared}
use Rattle.model.specs.Access.{Access}
use Rattle.model.specs.InStep.{OutOfStep, InStep}
use Rattle.model.specs.AllowedOnly.{AllowedOnly, Only128, AllowedRun}
use Rattle.model.specs.Listing.{TellsBad}
use Rattle.model.specs.Canonical.{Canonical}
use Rattle.model.specs.FixedPoint.{FixedPoint}
use Rattle.model.specs.OnlyWhole.{TakenWhole}
use Rattle.model.specs.Outcomes.{OutcomesTell}
use Rattle.model.specs.Standing.{StandsOn}
use Rattle.model.specs.Missing.{TellsMissing}
use Rattle.model.specs.LockModel.{fresh_model}
use Rattle.model.specs.Agreement.{Agreement}
use Rattle.model.specs.Deciding.{Deciding, EachDecides}
use Rattle.model.specs.Closing.{Closings}
use Rattle.model.specs.Count.{Count}
use Rattle.model.specs.ReadBack.{ReadsBack}
use Rattle.model.specs.Demand3.{Seen, Calls, Demand3}
use Rattle.model.specs.Tie.{Tie}
use Rattle.model.specs.NextQuestion.{NextQuestion}
use Rattle.model.specs.Isolation.{Isolated}
use Rattle.model.specs.IsolationRun.{IsolationRun}
use Rattle.model.specs.Fewer.{FewerNeverHurts}
use Rattle.model.specs.AnsweredOnce.{AnsweredOnce}
use Rattle.model.specs.Holders.{HoldersShown}
use Rattle.model.specs.GrantsSeen.{GrantsSeen}
use Rattle.model.specs.Watching.{Watches}
use Rattle.model.specs.Locality.{LocalRun, NothingFree}
use Rattle.model.specs.OneString.{OneStringRun}
use Rattle.model.specs.AlwaysRoom.{AlwaysRoom}

-- Demand 1. That every call ends and answers is what a definition is: `step` is total
pub record Demand1 : Type 0 where
  -- "A refusal to the host has a number and a stated cause, is given for that cause only": the first cause of 01's list that holds
  pub for_its_cause : (d : Server) (e : Event) (n : ℕ) → ((step d e).reply ≡ refused (suc n)) ↔ (refusal d e ≡ suc n)
  -- "and changes nothing the desk holds", and sends nothing (that no lent byte changes is `Post`, `same_memory` and `same_buffer`)
  pub changes_nothing_lem : (d : Server) (e : Event) (n : ℕ) → (step d e).reply ≡ refused n → step d e ≡ record { server = d; reply = refused n; frames = [] }
  -- every call's output fits the buffer that is lent with it
  pub output_fits : OutputFits

-- Demand 2
pub record Demand2 : Type 0 where
  -- "Messages are read .. as IVI-6.1 lays them out": the reader of the checks is wire's `decode`, whose round trip is wire's
  pub one_reader : OneReader
  -- "and written": what is sent fits its fields, so it reads back
  pub sent_fits : SentFits
  -- what a table of types, codes and payloads permits acts, and nothing else does; what it does not permit gets its Error
  pub permitted : (v : Making) (es : List Event) → PermittedActs v es
  pub malformed : (d : Server) (c : ℕ) (bs : List ℕ) (room : ℕ) → Malformed d c bs room
  -- a session opens and is joined, with these replies, and gets the first free SessionID
  pub openings : (v : Making) (es : List Event) → Opening v es
  pub session_ids : NumbersIssued
  -- every other message that acts: the whole of what it sends
  pub sends : (v : Making) (es : List Event) → Sending v es
  -- "Locks are granted exactly when the rules allow"
  pub exclusive_rule : (es : List Entry) (i : ℕ) → (may_grant es i [] ≡ true) ↔ MayExclusive es i
  pub shared_rule : (es : List Entry) (i x : ℕ) (k : List ℕ) → (may_grant es i (x ∷ k) ≡ true) ↔ MayShared es i (x ∷ k)
  -- "While a program lacks access, its data and triggers of permitted size are held, neither acted on nor lost"
  pub access : (d : Server) (c : ℕ) (bs : List ℕ) (room : ℕ) → Access d c bs room
  -- 02, Q-10: "Data, DataEND and Trigger must carry the number expected", any other is Error 0 and changes nothing; after any list that number is
  -- known from the taken messages alone, and a client that counts never meets this Error 0
  pub out_of_step : (d : Server) (c : ℕ) (bs : List ℕ) (room : ℕ) → OutOfStep d c bs room
  pub in_step : (v : Making) (es : List Event) → InStep v es
  -- 02, Q-12: with a list set a DataEND acts only if it is allowed; one that is not, and passes the checks before, gets exactly Error 128; and
  -- nothing else is answered so
  pub allowed_only : (d : Server) (c : ℕ) (bs : List ℕ) (room : ℕ) → AllowedOnly d c bs room
  pub only_128 : (d : Server) (e : Event) → Only128 d e
  -- and the list set last is known from what the host saw; a list that is refused, 12 before 11 with the first bad pattern and the place in it,
  -- changes nothing
  pub allowed_run : (v : Making) (es : List Event) → AllowedRun v es
  pub tells_bad : (d : Server) (text : List ℕ) → TellsBad d text
  -- 02, Q-3: a release that is not answered at once stands until its message acts, a device clear acts or its session closes, and until
  -- then every AsyncLock of the session gets 3
  pub standing : (v : Making) (es : List Event) (j : ℕ) (k : Kind) (m : ℕ) → StandsOn (final (fresh v) es) j k m
  -- 02, Q-4: "With "more needed" the answer tells how many bytes are missing", and that many are enough
  pub missing : (d : Server) (c : ℕ) (bs : List ℕ) (room : ℕ) → TellsMissing d c bs room

-- Demand 3, part by part, and whole (`calls`) for any list of calls that each meet the contract `Post`
pub record Demand3Parts : Type 1 where
  -- "the very one that document 01's shortened list leaves, which has only the whole messages taken and the other events"
  pub canonical_history : (d : Server) (es : List Event) → Canonical d es
  pub fixed_point : (d : Server) (es : List Event) → FixedPoint d es
  pub taken_whole : TakenWhole
  -- and what is not taken: more needed, held and closed, by the bytes shown
  pub outcomes_tell : OutcomesTell
  -- "Who holds which lock, who waits in what order, and every lock answer sent are exactly as document 01's ledger has them"
  pub lock_model : (v : Making) (es : List Event) → Agreement (fresh v) fresh_model es
  -- 01: "By exactly its holders .. the desk grants, gives access and answers AsyncLockInfo", at every call of a list, and at the next one
  pub decides : (v : Making) (es : List Event) → EachDecides (fresh v) fresh_model es
  pub decides_next : (v : Making) (es : List Event) → Deciding v es
  -- "whoever may now be granted is granted": after any list no request waits that may be granted
  pub settled : (v : Making) (es : List Event) → all (λ w. not (may_grant (final (fresh v) es).locks.entries w.slot w.string)) (final (fresh v) es).locks.waiting ≡ true
  -- "A closing .. takes exactly that program's locks and its waiting request. Everyone else keeps theirs"
  pub closings : (v : Making) (es : List Event) → Closings v es
  -- "Locks granted .. = those released + those dropped by closings + those still held"
  pub count : (v : Making) (es : List Event) → Count v es
  -- all of it of what the host sees and of the memory that it lends, whatever its layout
  pub calls : {M : Type 0} (view : M → Server) (v : Making) (m m' : M) (ss : List Seen) → view m ≡ fresh v → Calls view m ss m' → Demand3 view v ss m'
  -- and what the host saw can be read back from its bytes, lock answers too
  pub reads_back : {M : Type 0} (view : M → Server) → ReadsBack view

-- Beyond the demands
pub record Beyond : Type 0 where
  -- the tie of an answer to its command: of each one that is sent (02, Q-5: one that is withheld is not)
  pub tie : (v : Making) (es : List Event) (n : ℕ) (x : List ℕ) (end : Bool) (sh : List ℕ) (room : ℕ) → (step (final (fresh v) es) (answer n x end sh room)).reply ≡ done → Tie v es n x end sh room
  -- 02, Q-5: no client gets the end of an answer after its next question has arrived
  pub next_question : (v : Making) (es : List Event) → NextQuestion v es
  -- isolation of whoever holds exclusive, at a call and over time
  pub isolated : (v : Making) (es : List Event) → Isolated (final (fresh v) es)
  pub isolation : (v : Making) (es : List Event) (j : ℕ) → IsolationRun v es j
  -- which call changes which field, and to what
  pub locality : (d : Server) (es : List Event) → LocalRun d es
  -- and that table leaves nothing free: what happened decides the whole server after the call, and every frame
  pub nothing_free : NothingFree
  -- where others hold fewer locks nobody is worse off
  pub fewer_locks : FewerNeverHurts
  -- 02, Q-14: a request that waits is answered exactly once, by a grant, its session's device clear or its deadline, unless its session closes
  pub answered_once : (v : Making) (es : List Event) → AnsweredOnce v es
  -- 02, Q-9: the rows for the front panel are the lock model's holders, each once, ascending; the number of each session is that of the answers 1
  -- to its requests since it opened, and its reading that of the last one
  pub holders_shown : (v : Making) (es : List Event) → HoldersShown v es
  pub grants_seen : (v : Making) (es : List Event) → GrantsSeen v es
  -- 02, Q-11: each session's watch, its trip and its record are read off what the host set and saw, and so is every request for service: an answer that
  -- is sent has one exactly if it is the first to trip the watch since it was set
  pub watches : (v : Making) (es : List Event) → Watches v es
  -- the session that has a connection is the one that is found
  pub found : (v : Making) (es : List Event) (c j : ℕ) → (c ≡ no_connection → ⊥) → is_on_connection c (at (final (fresh v) es).locks.entries j) ≡ true → j ≡ slot_of (final (fresh v) es) c
  pub one_string : (v : Making) (es : List Event) → OneStringRun v es
  pub always_room : (v : Making) (es : List Event) → AlwaysRoom v es

pub record Statements : Type 1 where
  pub demand1 : Demand1
  pub demand2 : Demand2
  pub demand3 : Demand3Parts
  pub beyond : Beyond
