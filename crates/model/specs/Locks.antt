-- 01, "Locks": SessionIDs and the table of sessions, the granting rule, access, request, release, deadlines, and the grant pass. A call
-- names one lock event; only `change` and the grant pass make a new `Locks`. Assumes nothing.
use Rattle.std.specs.Prelude.{Bool, true, false, not, ◌&&◌, ◌||◌, cond, List, [], ◌∷◌, ◌++◌, ℕ, zero, suc, ◌+◌, ◌%◌, eqb, leb, ltb, set, length}
use Rattle.model.specs.Lists.{is_nil, same, all, all_but, keep}
use Rattle.model.specs.Sizes.{session_limit, string_limit, last_session_id, no_connection, before_first, grants_limit}
use Rattle.model.specs.State.{Granted, Entry, Waiting, Locks, Kind, Kind.exclusive_lock, Kind.shared_lock, Standing, Standing.no_release}
use Rattle.model.specs.State.{Standing.release_of, at, live, blank, slot_of_number}

-- an answer (type 5): to which connection, the code, and whether it answers a request (true) or a release (false)
pub record Answer : Type 0 where
  pub to : ℕ
  pub code : ℕ
  pub request : Bool

pub record LockResult : Type 0 where
  pub locks : Locks
  pub answers : List Answer

-- what a call does to the locks, by slot
pub data LockEvent : Type 0 where
  nothing : LockEvent
  -- in slot i session n opens over connection c; connection c is the second of slot i
  enter : ℕ → ℕ → ℕ → LockEvent
  join : ℕ → ℕ → LockEvent
  -- of slot i: a request with a timeout and a string; a release that names a number; a Data, DataEND or Trigger of a number that acts;
  -- a device clear; its closing
  request : ℕ → ℕ → List ℕ → LockEvent
  release command : ℕ → ℕ → LockEvent
  clear close : ℕ → LockEvent
  -- the clock reads so many milliseconds
  reading : ℕ → LockEvent

-- 01, "Opening a session": the next after the last issued, from 65,535 back to 1, passing over live ones
abbrev pub candidate : ℕ → ℕ → ℕ
candidate last k = suc ((last + k) % last_session_id)

abbrev pub IsLive : List Entry → ℕ → Bool
IsLive es n = live (at es (slot_of_number es n))

-- from the k-th candidate on, with so many tries
abbrev pub issued : ℕ → ℕ → List Entry → ℕ → ℕ
issued zero k es last = candidate last k
issued (suc tries) k es last = elim (IsLive es (candidate last k)) [ true ↦ issued tries (suc k) es last | false ↦ candidate last k ]

abbrev pub no_exclusive : Entry → Bool
no_exclusive e = not e.exclusive

abbrev pub no_shared : Entry → Bool
no_shared e = is_nil e.shared

-- no shared lock, or one with string k
abbrev pub fits : List ℕ → Entry → Bool
fits k e = is_nil e.shared || same e.shared k

-- the granting rule. Exclusive (empty string) may be granted to S if no other session holds exclusive, and nobody else holds
-- shared or S itself holds shared; shared with string K if no other holds exclusive and every shared holder's string is K.
-- Shut: proofs go by the laws in claims/proofs/GrantingRule.antt
unfoldable pub may_grant : List Entry → ℕ → List ℕ → Bool
may_grant es i [] = all_but no_exclusive i es && (all_but no_shared i es || not (no_shared (at es i)))
may_grant es i (x ∷ xs) = all_but no_exclusive i es && all (fits (x ∷ xs)) es

-- access: the exclusive holder alone; with none, the shared holders; with no locks, everyone
unfoldable pub access : List Entry → ℕ → Bool
access es i = (at es i).exclusive || (all no_exclusive es && (not (no_shared (at es i)) || all no_shared es))

-- with another SessionID and other connections
abbrev pub with_row : ℕ → ℕ → ℕ → Entry → Entry
with_row n a b e = record { number = n; synchronous = a; asynchronous = b; exclusive = e.exclusive; shared = e.shared; last = e.last; standing = e.standing; locks_granted = e.locks_granted }

-- the entry of a session that opens, in a free slot; with its second connection
abbrev pub opened : ℕ → ℕ → Entry
opened n c = with_row n c no_connection blank

abbrev pub joined : ℕ → Entry → Entry
joined c e = with_row e.number e.synchronous c e

-- with other locks; with another last number and standing release
abbrev pub with_locks : Bool → List ℕ → Entry → Entry
with_locks x k e = record {
  number = e.number;
  synchronous = e.synchronous;
  asynchronous = e.asynchronous;
  exclusive = x;
  shared = k;
  last = e.last;
  standing = e.standing;
  locks_granted = e.locks_granted;
}

abbrev pub with_order : ℕ → Standing → Entry → Entry
with_order n s e = record {
  number = e.number;
  synchronous = e.synchronous;
  asynchronous = e.asynchronous;
  exclusive = e.exclusive;
  shared = e.shared;
  last = n;
  standing = s;
  locks_granted = e.locks_granted;
}

-- with the lock that a string asks for; without its exclusive lock; without its shared one; without the lock of a kind
abbrev pub give : List ℕ → Entry → Entry
give [] e = with_locks true e.shared e
give (x ∷ xs) e = with_locks e.exclusive (x ∷ xs) e

-- 02, Q-9: the number of locks granted, "once at 2^62 it stays there"
abbrev pub one_more : ℕ → ℕ
one_more n = cond (ltb n grants_limit) (suc n) n

abbrev pub with_granted : Granted → Entry → Entry
with_granted g e = record {
  number = e.number;
  synchronous = e.synchronous;
  asynchronous = e.asynchronous;
  exclusive = e.exclusive;
  shared = e.shared;
  last = e.last;
  standing = e.standing;
  locks_granted = g;
}

-- the clock reads now: the lock is given, and its grant is noted
abbrev pub note_grant : ℕ → Entry → Entry
note_grant now e = with_granted (record { granted_at = now; grants = one_more e.locks_granted.grants }) e

abbrev pub give_at : ℕ → List ℕ → Entry → Entry
give_at now k e = note_grant now (give k e)

abbrev pub without_exclusive : Entry → Entry
without_exclusive e = with_locks false e.shared e

abbrev pub without_shared : Entry → Entry
without_shared e = with_locks e.exclusive [] e

abbrev pub without : Kind → Entry → Entry
without exclusive_lock e = without_exclusive e
without shared_lock e = without_shared e

-- the kind that a string asks for is held
abbrev pub holds : List ℕ → Entry → Bool
holds [] e = e.exclusive
holds (x ∷ xs) e = not (no_shared e)

abbrev pub update : List Entry → ℕ → (Entry → Entry) → List Entry
update es i f = set es i (f (at es i))

-- a grant, at once or later, at a clock reading
abbrev pub grant : ℕ → List Entry → ℕ → List ℕ → List Entry
grant now es i k = update es i (give_at now k)

-- an answer goes to the session's asynchronous connection
abbrev pub tell : List Entry → ℕ → ℕ → Bool → Answer
tell es i n q = record { to = (at es i).asynchronous; code = n; request = q }

abbrev pub with_entries : Locks → List Entry → Locks
with_entries l es = record { clock = l.clock; entries = es; waiting = l.waiting }

abbrev pub with_waiting : Locks → List Waiting → Locks
with_waiting l ws = record { clock = l.clock; entries = l.entries; waiting = ws }

abbrev pub unanswered : Locks → LockResult
unanswered l = record { locks = l; answers = [] }

-- a request of another slot
abbrev pub elsewhere : ℕ → Waiting → Bool
elsewhere i w = not (eqb w.slot i)

-- no place is left to wait: every place of the table of waiting requests is taken
abbrev pub no_place : List Waiting → Bool
no_place ws = leb session_limit (length ws)

-- request answers, in this order: 3 if S already holds that kind, has a request waiting, or the string exceeds 256, and (02, Q-3) while a
-- release of S stands; 1 if it may be granted, and it is; 0 if timeout is 0; also if no place is left to wait, which no run reaches
-- (theorem AlwaysRoom); else it waits
pub data Ruling : Type 0 where
  invalid granted denied queued : Ruling

-- by the tests: that kind is held, no request of the session waits, the string is too long or a release stands, the granting rule,
-- timeout 0 or no place
abbrev pub ruling : Bool → Bool → Bool → Bool → Bool → Ruling
ruling true a s m z = invalid
ruling false false s m z = invalid
ruling false true true m z = invalid
ruling false true false true z = granted
ruling false true false false true = denied
ruling false true false false false = queued

-- of slot i, with timeout t and string k; it waits until clock of arrival plus timeout
abbrev pub respond : Ruling → Locks → ℕ → ℕ → List ℕ → LockResult
respond invalid l i t k = record { locks = l; answers = tell l.entries i 3 true ∷ [] }
respond granted l i t k = record { locks = with_entries l (grant l.clock l.entries i k); answers = tell l.entries i 1 true ∷ [] }
respond denied l i t k = record { locks = l; answers = tell l.entries i 0 true ∷ [] }
respond queued l i t k = unanswered (with_waiting l (l.waiting ++ record { slot = i; deadline = l.clock + t; string = k } ∷ []))

-- release frees exclusive first (1), then shared (2), with none held 3
abbrev pub release_code : Kind → ℕ
release_code exclusive_lock = 1
release_code shared_lock = 2

-- 02, Q-3: "A further AsyncLock while it stands gets 3"; "A release with no lock held is still 3 at once"; it "acts at once if that number is
-- the last Data, DataEND or Trigger acted on"; "Otherwise it stands". "Which lock it frees is fixed when it arrives"
pub data Releasing : Type 0 where
  r_invalid : Releasing
  r_now r_stands : Kind → Releasing

abbrev pub stands : Standing → Bool
stands no_release = false
stands (release_of k n) = true

-- by the tests: a release stands, exclusive is held, no shared is, the number is that of the last message
abbrev pub releasing : Bool → Bool → Bool → Bool → Releasing
releasing true x s a = r_invalid
releasing false true s true = r_now exclusive_lock
releasing false true s false = r_stands exclusive_lock
releasing false false false true = r_now shared_lock
releasing false false false false = r_stands shared_lock
releasing false false true a = r_invalid

abbrev pub releasing_of : Entry → ℕ → Releasing
releasing_of e n = releasing (stands e.standing) e.exclusive (no_shared e) (eqb e.last n)

abbrev pub released : Releasing → Locks → ℕ → ℕ → LockResult
released r_invalid l i n = record { locks = l; answers = tell l.entries i 3 false ∷ [] }
released (r_now k) l i n = record { locks = with_entries l (update l.entries i (without k)); answers = tell l.entries i (release_code k) false ∷ [] }
released (r_stands k) l i n = unanswered (with_entries l (update l.entries i (λ e. with_order e.last (release_of k n) e)))

-- 02, Q-3: "it stands until a Data, DataEND or Trigger of that number acts, an AsyncDeviceClear acts (the release then takes effect ..)"
pub data Due : Type 0 where
  not_due : Due
  due_now : Kind → Due

abbrev pub due_at : ℕ → Standing → Due
due_at n no_release = not_due
due_at n (release_of k m) = cond (eqb m n) (due_now k) not_due

abbrev pub due_any : Standing → Due
due_any no_release = not_due
due_any (release_of k m) = due_now k

-- the last message's number becomes n, and a release that is due takes effect
abbrev pub completed : Due → Locks → ℕ → ℕ → LockResult
completed not_due l i n = unanswered (with_entries l (update l.entries i (λ e. with_order n e.standing e)))
completed (due_now k) l i n =
    record { locks = with_entries l (update l.entries i (λ e. with_order n no_release (without k e))); answers = tell l.entries i (release_code k) false ∷ [] }

-- the requests that pass stay; the others are answered 0, oldest first
abbrev pub refuse : List Entry → (Waiting → Bool) → List Waiting → List Answer
refuse es p [] = []
refuse es p (w ∷ ws) = cond (p w) (refuse es p ws) (tell es w.slot 0 true ∷ refuse es p ws)

-- a clock reading at or past a deadline answers 0
abbrev pub unexpired : ℕ → Waiting → Bool
unexpired t w = not (leb w.deadline t)

-- the string is too long, or a release stands
abbrev pub invalid_by : List ℕ → Entry → Bool
invalid_by k e = ltb string_limit (length k) || stands e.standing

unfoldable pub change : Locks → LockEvent → LockResult
change l nothing = unanswered l
change l (enter i n c) = unanswered (with_entries l (set l.entries i (opened n c)))
change l (join i c) = unanswered (with_entries l (update l.entries i (joined c)))
change l (request i t k) =
    let es = l.entries in
    respond (ruling (holds k (at es i)) (all (elsewhere i) l.waiting) (invalid_by k (at es i)) (may_grant es i k) (eqb t 0 || no_place l.waiting)) l i t k
change l (release i n) = released (releasing_of (at l.entries i) n) l i n
change l (command i n) = completed (due_at n (at l.entries i).standing) l i n
-- 01: AsyncDeviceClear: a waiting request is answered 0; 02, Q-3: then a release that stands takes effect
change l (clear i) =
    let x = completed (due_any (at l.entries i).standing) (with_waiting l (keep (elsewhere i) l.waiting)) i before_first in
    record { locks = x.locks; answers = refuse l.entries (elsewhere i) l.waiting ++ x.answers }
-- a closing takes the session's locks and its waiting request, unanswered
change l (close i) = unanswered record { clock = l.clock; entries = set l.entries i blank; waiting = keep (elsewhere i) l.waiting }
change l (reading t) =
    record {
      locks = record { clock = t; entries = l.entries; waiting = keep (unexpired t) l.waiting };
      answers = refuse l.entries (unexpired t) l.waiting;
    }

-- the grant pass (01: requests are looked at once, oldest first, and each that may be granted is)
pub record Passed : Type 0 where
  pub entries : List Entry
  pub waiting : List Waiting
  pub answers : List Answer

-- by the test that request w may be granted: the table that the next request meets, and what is noted of w
abbrev pub after : ℕ → Bool → Waiting → List Entry → List Entry
after now true w es = grant now es w.slot w.string
after now false w es = es

abbrev pub put : Bool → Waiting → List Entry → Passed → Passed
put true w es r = record { entries = r.entries; waiting = r.waiting; answers = tell es w.slot 1 true ∷ r.answers }
put false w es r = record { entries = r.entries; waiting = w ∷ r.waiting; answers = r.answers }

unfoldable pub pass_over : ℕ → List Waiting → List Entry → Passed
pass_over now [] es = record { entries = es; waiting = []; answers = [] }
pass_over now (w ∷ ws) es = let b = may_grant es w.slot w.string in put b w es (pass_over now ws (after now b w es))

unfoldable pub grant_pass : Locks → LockResult
grant_pass l =
    let r = pass_over l.clock l.waiting l.entries in
    record { locks = record { clock = l.clock; entries = r.entries; waiting = r.waiting }; answers = r.answers }

-- the events that free a lock: the server passes over the waiting requests only after these. That a pass would do nothing after any
-- other event is a theorem (claims/proofs/Events.antt, always-settled)
abbrev pub frees_now : Releasing → Bool
frees_now r_invalid = false
frees_now (r_now k) = true
frees_now (r_stands k) = false

abbrev pub is_due : Due → Bool
is_due not_due = false
is_due (due_now k) = true

abbrev pub frees : Locks → LockEvent → Bool
frees l nothing = false
frees l (enter i n c) = false
frees l (join i c) = false
frees l (request i t k) = false
frees l (release i n) = frees_now (releasing_of (at l.entries i) n)
frees l (command i n) = is_due (due_at n (at l.entries i).standing)
frees l (clear i) = is_due (due_any (at l.entries i).standing)
frees l (close i) = true
frees l (reading t) = false

abbrev pub settle : Bool → Locks → LockResult
settle true l = grant_pass l
settle false l = unanswered l
