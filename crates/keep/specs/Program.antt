-- 02, Q-7, about the program: lists of calls that keep a journal, from memory that `hislip_new` wrote and a book that `hislip_journal_new`
-- began, each call as its function's `ensures` says. proofs/Contracts.antt has `kept_code`, whose premises are the functions' own contracts.
-- Assumes nothing.
use Rattle.std.specs.Prelude.{◌≡◌, Bool, true, ◌&&◌, cond, List, [], ◌∷◌, ◌++◌, reverse, ℕ, ◌^◌, ◌≤◌, ◌<◌, eqb, length, take}
use Rattle.readings.specs.Watch.{Limits.off, Limits.above, Limits.outside}
use Rattle.model.specs.State.{Making}
use Rattle.model.specs.Interface.{Event, Event.opening, Event.delivery, Event.cut, Event.clock, Event.answer, Event.status, Event.setting, Setting.watch, Setting.patterns}
use Rattle.model.specs.Demand3.{Seen, seen_events}
use Rattle.model.specs.Possible.{AllPossible}
use Rattle.state.specs.View.{Memory, view}
use Rattle.server.specs.Program.{Run}
use Rattle.journal.specs.Journal.{closed_journal, forward, backward}
use Rattle.journal.specs.Prefix.{within}
use Rattle.journal.specs.Writer.{place, new_of}
use Rattle.record.specs.Layout.{body_bytes, decode, found}
use Rattle.verifier.specs.Judge.{accepted as passed}
use Rattle.judging.specs.Kept.{recorded, AllKeepable}
use Rattle.judging.specs.Replay.{verdict}
use Rattle.keep.specs.Keeping.{Keeps, keeping, looked, refused_by}

-- what the host saw of a call that keeps a journal: what it would have seen of the plain one, and what became of the entry
pub record Told : Type 0 where
  pub seen : Seen
  pub kept : ℕ

abbrev pub seens : List Told → List Seen
seens [] = []
seens (t ∷ ts) = t.seen ∷ seens ts

-- 02: "one event that was not refused, and its parcels": the event that was done, and the very bytes that the host was handed
abbrev pub body : Seen → List ℕ
body s = body_bytes (recorded s.event) s.output

abbrev pub accepted : Seen → Bool
accepted s = eqb (refused_by s.reply) 0

-- a call's entry: none of a refused one, and none where there was no room
abbrev pub entry_of : Told → List (List ℕ)
entry_of t = cond (accepted t.seen && eqb t.kept 0) (body t.seen ∷ []) []

abbrev pub bodies : List Told → List (List ℕ)
bodies [] = []
bodies (t ∷ ts) = entry_of t ++ bodies ts

-- the accepted events, in order
abbrev pub accepted_of : List Seen → List (List ℕ)
accepted_of [] = []
accepted_of (s ∷ ss) = cond (accepted s) (body s ∷ []) [] ++ accepted_of ss

-- until the first "no room"
abbrev pub AllWritten : List Told → Type 0
AllWritten [] = Unit {0}
AllWritten (t ∷ ts) = (t.kept ≡ 0) × AllWritten ts

-- what the C interface's types say of an event's numbers, beside `Possible`: a session is a uint32_t, a limit a float. (The other numbers of an accepted event
-- are small by the rules themselves, and a list that is taken consists of letters and signs.)
abbrev pub Typed : Event → Type 0
Typed (opening c) = Unit {0}
Typed (delivery c bs room) = Unit {0}
Typed (cut c room) = Unit {0}
Typed (clock t room) = Unit {0}
Typed (answer n p end sh room) = n < 256 ^ 4
Typed (status b) = Unit {0}
Typed (setting (watch n off)) = n < 256 ^ 4
Typed (setting (watch n (above b))) = (n < 256 ^ 4) × (b < 256 ^ 4)
Typed (setting (watch n (outside b c))) = (n < 256 ^ 4) × (b < 256 ^ 4) × (c < 256 ^ 4)
Typed (setting (patterns s)) = Unit {0}

abbrev pub AllTyped : List Event → Type 0
AllTyped [] = Unit {0}
AllTyped (e ∷ es) = Typed e × AllTyped es

-- each accepted event's body, read by the layout, is that event with the bytes that the host was handed
abbrev pub EachRead : List Told → Type 0
EachRead [] = Unit {0}
EachRead (t ∷ ts) = (accepted t.seen ≡ true → decode (body t.seen) ≡ found (recorded t.seen.event) t.seen.output) × EachRead ts

-- a call of the plain interface, which may stand before any run of it
abbrev pub PlainCall : Memory → Seen → Memory → Type 0
PlainCall m s m' = (m'' : Memory) (ss : List Seen) → Run m' ss m'' → Run m (s ∷ ss) m''

-- a book that was begun: the words whatever they were before, the answer 0
pub data Begun : List ℕ → List ℕ → Type 0 where
  begun : (before words book : List ℕ) (k : ℕ) → k ≡ 0 → Keeps (new_of before book) k words book → Begun words book

-- calls that keep a journal; nobody else writes the memory, the writer's words or the book
pub data KeptRun : Memory → List ℕ → List ℕ → List Told → Memory → List ℕ → List ℕ → Type 0 where
  stop : {m : Memory} {words book : List ℕ} → KeptRun m words book [] m words book
  call : {m m' m'' : Memory} {words book words' book' words'' book'' : List ℕ} {ts : List Told} (s : Seen) (k : ℕ) (e : Event) → s.event ≡ looked e → PlainCall m s m'
      → Keeps (keeping (view m) s.event words book) k words' book' → KeptRun m' words' book' ts m'' words'' book''
      → KeptRun m words book (record { seen = s; kept = k } ∷ ts) m'' words'' book''

-- the book of a writer with these words, closed: its bytes, both readers, and what the forward one had found had writing stopped after any byte
pub record ClosedAs (bs : List (List ℕ)) (words book : List ℕ) : Type 0 where
  pub whole : take (place words) book ≡ closed_journal bs
  pub forwards : forward (take (place words) book) ≡ bs
  pub backwards : backward (take (place words) book) ≡ reverse bs
  pub torn : (n : ℕ) → n ≤ place words → forward (take n book) ≡ within n bs

pub record KeptProgram (New : Making → Memory → Type 0) (Begins : List ℕ → List ℕ → Type 0) (Ran : Memory → List ℕ → List ℕ → List Told → Memory → List ℕ → List ℕ → Type 0)
    (Closes : List ℕ → List ℕ → ℕ → List ℕ → List ℕ → Type 0) : Type 0 where
  -- a run of kept calls is a run of the plain ones, on what was looked at: whatever is proved of the program holds of it
  pub plainly : (m m' : Memory) (words book words' book' : List ℕ) (ts : List Told) → Ran m words book ts m' words' book' → Run m (seens ts) m'
  -- the entries of the open journal are those of the calls that were not refused and found room, in order
  pub entries : (v : Making) (m m' : Memory) (words book words' book' : List ℕ) (ts : List Told) → v.vendor < 2 ^ 16 → New v m → Begins words book → Ran m words book ts m' words' book'
      → AllPossible (seen_events (seens ts)) → forward (take (place words') book') ≡ bodies ts
  -- until the first "no room" these are exactly the accepted events
  pub until_no_room : (ts : List Told) → AllWritten ts → bodies ts ≡ accepted_of (seens ts)
  pub read : (m m' : Memory) (words book words' book' : List ℕ) (ts : List Told) → Ran m words book ts m' words' book' → AllPossible (seen_events (seens ts)) →
      AllTyped (seen_events (seens ts)) → EachRead ts
  -- then the journal can be closed, and both readers find them, the second last first
  pub closed : (v : Making) (m m' : Memory) (words book words' book' words'' book'' : List ℕ) (ts : List Told) (k : ℕ) → v.vendor < 2 ^ 16 → New v m → Begins words book
      → Ran m words book ts m' words' book' → AllPossible (seen_events (seens ts)) → Closes words' book' k words'' book'' → (k ≡ 0) × ClosedAs (bodies ts) words'' book''
  -- 02, Q-8: "Every book our writer closes, kept from a fresh desk with no event left out, passes": with as many entries as calls were accepted
  pub judged : (v : Making) (m m' : Memory) (words book words' book' words'' book'' : List ℕ) (ts : List Told) (k : ℕ) → v.vendor < 2 ^ 16 → New v m → Begins words book
      → Ran m words book ts m' words' book' → AllKeepable (seen_events (seens ts)) → AllWritten ts → Closes words' book' k words'' book''
      → verdict v (take (place words'') book'') ≡ passed (length (accepted_of (seens ts)))
