-- The lock model (01: ledger), written from 01's "Locks" and "Demand 3" alone: sessions by number, in no slots, with its own granting
-- rule, request, release, deadlines and look. It shares with the server's definitions list operations (and `one_of`, a look in a list), the
-- header's reader, the types of messages by number, the sizes with `no_connection`, and the names of outcomes; and nothing else. Assumes nothing.
use Rattle.std.specs.Prelude.{Bool, true, false, not, ◌&&◌, ◌||◌, cond, List, [], ◌∷◌, ◌++◌, map, ℕ, ◌+◌, eqb, leb, ltb, get_or, length, drop}
use Rattle.wire.specs.declared.Header.{Header}
use Rattle.wire.specs.Message.{header}
use Rattle.wire.specs.Class.{one_of}
use Rattle.model.specs.Sizes.{string_limit, no_connection, before_first}
use Rattle.model.specs.MessageTypes.{Initialize, AsyncInitialize, AsyncLock, AsyncDeviceClear, commands}
use Rattle.model.specs.Lists.{is_nil, same, all, any, keep}
use Rattle.model.specs.Interface.{Outcome, Outcome.more_needed, Outcome.skipped, Outcome.held, Outcome.ignored, Outcome.error_sent, Outcome.closed, Outcome.acted}

-- a release that was not answered yet, of the exclusive or of the shared lock, and the number that it named
pub data Pending : Type 0 where
  none_pending : Pending
  exclusive_until shared_until : ℕ → Pending

-- a session: its number, its connections in the order in which they were entered, exclusive, the shared string (empty: none); the number
-- of its last Data, DataEND or Trigger acted on (fffffefe hex before the first and after a device clear); the pending release
pub record Session : Type 0 where
  pub number : ℕ
  pub connections : List ℕ
  pub exclusive : Bool
  pub shared : List ℕ
  pub heard : ℕ
  pub pending : Pending

-- a waiting request of a session; an empty string asks for exclusive
pub record Request : Type 0 where
  pub number : ℕ
  pub deadline : ℕ
  pub string : List ℕ

-- it holds the clock, each session's connections and locks, and the waiting requests by arrival
pub record Model : Type 0 where
  pub clock : ℕ
  pub sessions : List Session
  pub waiting : List Request

-- an answer: connection, code, to a request (true) or a release (false)
pub record Told : Type 0 where
  pub connection : ℕ
  pub code : ℕ
  pub request : Bool

pub record ModelResult : Type 0 where
  pub model : Model
  pub told : List Told

-- it is fed the calls, whether each was refused, and each delivery's outcome, session number and taken bytes
pub data Fed : Type 0 where
  f_refused f_other : Fed
  f_cut f_clock : ℕ → Fed
  f_delivery : ℕ → Outcome → ℕ → List ℕ → Fed

abbrev pub fresh_model : Model
fresh_model = record { clock = 0; sessions = []; waiting = [] }

-- questions to the sessions: of session n; of every other one
abbrev pub own : ℕ → (Session → Bool) → List Session → Bool
own n p ss = any (λ s. eqb s.number n && p s) ss

abbrev pub others : ℕ → (Session → Bool) → List Session → Bool
others n p ss = all (λ s. eqb s.number n || p s) ss

abbrev pub not_shared : Session → Bool
not_shared s = is_nil s.shared

abbrev pub not_exclusive : Session → Bool
not_exclusive s = not s.exclusive

-- 01: exclusive may be granted to S if no other session holds exclusive, and nobody else holds shared or S itself holds shared;
-- shared with string K may be granted if no other holds exclusive and every shared holder's string is K
unfoldable pub allowed : List Session → ℕ → List ℕ → Bool
allowed ss n [] = others n not_exclusive ss && (others n not_shared ss || own n (λ s. not (not_shared s)) ss)
allowed ss n (x ∷ k) = others n not_exclusive ss && all (λ s. not_shared s || same s.shared (x ∷ k)) ss

abbrev pub has : List ℕ → Session → Bool
has [] s = s.exclusive
has (x ∷ k) s = not (not_shared s)

-- the same session with other locks, connections, number heard and pending release
abbrev pub changed : Session → List ℕ → Bool → List ℕ → ℕ → Pending → Session
changed s cs x k n p = record { number = s.number; connections = cs; exclusive = x; shared = k; heard = n; pending = p }

abbrev pub with_lock : List ℕ → Session → Session
with_lock [] s = changed s s.connections true s.shared s.heard s.pending
with_lock (x ∷ k) s = changed s s.connections s.exclusive (x ∷ k) s.heard s.pending

abbrev pub exclusive_freed : Session → Session
exclusive_freed s = changed s s.connections false s.shared s.heard s.pending

abbrev pub shared_freed : Session → Session
shared_freed s = changed s s.connections s.exclusive [] s.heard s.pending

abbrev pub also_on : ℕ → Session → Session
also_on c s = changed s (s.connections ++ (c ∷ [])) s.exclusive s.shared s.heard s.pending

abbrev pub hearing : ℕ → Session → Session
hearing n s = changed s s.connections s.exclusive s.shared n s.pending

abbrev pub pends : Pending → Session → Session
pends p s = changed s s.connections s.exclusive s.shared s.heard p

-- a change of session n alone
abbrev pub on_number : ℕ → (Session → Session) → Session → Session
on_number n f s = cond (eqb s.number n) (f s) s

abbrev pub alter : ℕ → (Session → Session) → List Session → List Session
alter n f ss = map (on_number n f) ss

-- answers go to the second connection of session n
abbrev pub second_connection : ℕ → List Session → ℕ
second_connection n [] = no_connection
second_connection n (s ∷ ss) = cond (eqb s.number n) (get_or s.connections 1 no_connection) (second_connection n ss)

abbrev pub tells : List Session → ℕ → ℕ → Bool → Told
tells ss n k q = record { connection = second_connection n ss; code = k; request = q }

abbrev pub with_sessions : Model → List Session → Model
with_sessions m ss = record { clock = m.clock; sessions = ss; waiting = m.waiting }

abbrev pub with_waiting_lem : Model → List Request → Model
with_waiting_lem m ws = record { clock = m.clock; sessions = m.sessions; waiting = ws }

abbrev pub is_pending : Pending → Bool
is_pending none_pending = false
is_pending (exclusive_until p) = true
is_pending (shared_until p) = true

-- 01, Q-6 and Q-3: 3 if S already holds that kind, has a request waiting, the string exceeds 256, or a release is pending; 1 if it may be
-- granted, and it is; 0 if timeout is 0; else it waits until clock of arrival plus timeout. By the tests: 3, may be granted, timeout 0
abbrev pub decided : Bool → Bool → Bool → Model → ℕ → ℕ → List ℕ → ModelResult
decided true g z m n t k = record { model = m; told = tells m.sessions n 3 true ∷ [] }
decided false true z m n t k = record { model = with_sessions m (alter n (with_lock k) m.sessions); told = tells m.sessions n 1 true ∷ [] }
decided false false true m n t k = record { model = m; told = tells m.sessions n 0 true ∷ [] }
decided false false false m n t k = record { model = with_waiting_lem m (m.waiting ++ record { number = n; deadline = m.clock + t; string = k } ∷ []); told = [] }

unfoldable pub request : Model → ℕ → ℕ → List ℕ → ModelResult
request m n t k =
    decided
    (own n (has k) m.sessions || (any (λ w. eqb w.number n) m.waiting || (ltb string_limit (length k) || own n (λ s. is_pending s.pending) m.sessions)))
    (allowed m.sessions n k)
    (eqb t 0)
    m
    n
    t
    k

-- 02, Q-3: a release is answered 3 while one is pending or with no lock held. It frees exclusive (1) before shared (2): at once if it
-- names the number heard last, else it is pending. By the tests: one is pending, exclusive held, shared held, the number heard last
abbrev pub freed : Bool → Bool → Bool → Bool → Model → ℕ → ℕ → ModelResult
freed true x s a m n p = record { model = m; told = tells m.sessions n 3 false ∷ [] }
freed false true s true m n p = record { model = with_sessions m (alter n exclusive_freed m.sessions); told = tells m.sessions n 1 false ∷ [] }
freed false true s false m n p = record { model = with_sessions m (alter n (pends (exclusive_until p)) m.sessions); told = [] }
freed false false true true m n p = record { model = with_sessions m (alter n shared_freed m.sessions); told = tells m.sessions n 2 false ∷ [] }
freed false false true false m n p = record { model = with_sessions m (alter n (pends (shared_until p)) m.sessions); told = [] }
freed false false false a m n p = record { model = m; told = tells m.sessions n 3 false ∷ [] }

unfoldable pub release : Model → ℕ → ℕ → ModelResult
release m n p =
    freed
    (own n (λ s. is_pending s.pending) m.sessions)
    (own n (λ s. s.exclusive) m.sessions)
    (own n (λ s. not (not_shared s)) m.sessions)
    (own n (λ s. eqb s.heard p) m.sessions)
    m
    n
    p

-- session n is heard of with number p; a pending release that this ends is answered. By the tests: it frees exclusive, it frees shared
abbrev pub hears : Bool → Bool → Model → ℕ → ℕ → ModelResult
hears true s m n p =
    record { model = with_sessions m (alter n (λ s. hearing p (pends none_pending (exclusive_freed s))) m.sessions); told = tells m.sessions n 1 false ∷ [] }
hears false true m n p =
    record { model = with_sessions m (alter n (λ s. hearing p (pends none_pending (shared_freed s))) m.sessions); told = tells m.sessions n 2 false ∷ [] }
hears false false m n p = record { model = with_sessions m (alter n (hearing p) m.sessions); told = [] }

-- a pending release of exclusive, of shared, that passes a test of its number
abbrev pub ends_exclusive : (ℕ → Bool) → Pending → Bool
ends_exclusive t none_pending = false
ends_exclusive t (exclusive_until p) = t p
ends_exclusive t (shared_until p) = false

abbrev pub ends_shared : (ℕ → Bool) → Pending → Bool
ends_shared t none_pending = false
ends_shared t (exclusive_until p) = false
ends_shared t (shared_until p) = t p

-- 02, Q-3: a Data, DataEND or Trigger acted on ends a pending release of its number
unfoldable pub message : Model → ℕ → ℕ → ModelResult
message m n p = hears (own n (λ s. ends_exclusive (λ q. eqb q p) s.pending) m.sessions) (own n (λ s. ends_shared (λ q. eqb q p) s.pending) m.sessions) m n p

-- the waiting requests that a test finds are answered 0, oldest first, and wait no more
abbrev pub zeros : List Session → List Request → List Told
zeros ss [] = []
zeros ss (w ∷ ws) = tells ss w.number 0 true ∷ zeros ss ws

abbrev pub answer0 : (Request → Bool) → Model → ModelResult
answer0 p m = record { model = with_waiting_lem m (keep (λ w. not (p w)) m.waiting); told = zeros m.sessions (keep p m.waiting) }

-- 01: a clock reading answers the requests whose deadline it reaches
unfoldable pub reading : ℕ → Model → ModelResult
reading t m =
    let r = answer0 (λ w. leb w.deadline t) m in
    record { model = record { clock = t; sessions = r.model.sessions; waiting = r.model.waiting }; told = r.told }

-- 01: AsyncDeviceClear acted on answers that session's request 0; 02, Q-3: and then ends a pending release, whatever its number
unfoldable pub clearing : ℕ → Model → ModelResult
clearing n m =
    let r = answer0 (λ w. eqb w.number n) m in
    let s = hears (own n (λ s. ends_exclusive (λ q. true) s.pending) m.sessions) (own n (λ s. ends_shared (λ q. true) s.pending) m.sessions) r.model n before_first in
    record { model = s.model; told = r.told ++ s.told }

-- 01: removes that connection's session, if any, with its locks and request, unanswered
abbrev pub on : ℕ → Session → Bool
on c s = one_of s.connections c

unfoldable pub removal : ℕ → Model → ModelResult
removal c m =
    record {
      model = record {
        clock = m.clock;
        sessions = keep (λ s. not (on c s)) m.sessions;
        waiting = keep (λ w. not (own w.number (on c) m.sessions)) m.waiting;
      };
      told = [];
    }

-- 01: type 0 or 17 acted on enters its connection under the session
abbrev pub enters : ℕ → ℕ → Model → ModelResult
enters n c m = record { model = with_sessions m (record { number = n; connections = c ∷ []; exclusive = false; shared = []; heard = before_first; pending = none_pending } ∷ m.sessions); told = [] }

abbrev pub joins : ℕ → ℕ → Model → ModelResult
joins n c m = record { model = with_sessions m (alter n (also_on c) m.sessions); told = [] }

abbrev pub as_before : Model → ModelResult
as_before m = record { model = m; told = [] }

-- AsyncLock acted on: code 0 releases and names the parameter, else a request with the parameter as timeout and the payload as string
abbrev pub lock_message : Bool → ℕ → Header → List ℕ → Model → ModelResult
lock_message true n h bs m = release m n h.param
lock_message false n h bs m = request m n h.param (drop 16 bs)

pub data Act : Type 0 where
  a_enter a_join a_lock a_clear a_message a_none : Act

abbrev pub act_of : ℕ → Act
act_of t = cond (eqb t Initialize) a_enter (cond (eqb t AsyncInitialize) a_join (cond (eqb t AsyncLock) a_lock (cond (eqb t AsyncDeviceClear) a_clear (cond (one_of commands t) a_message a_none))))

abbrev pub do_act : Act → ℕ → ℕ → Header → List ℕ → Model → ModelResult
do_act a_enter c n h bs m = enters n c m
do_act a_join c n h bs m = joins n c m
do_act a_lock c n h bs m = lock_message (eqb h.code 0) n h bs m
do_act a_clear c n h bs m = clearing n m
do_act a_message c n h bs m = message m n h.param
do_act a_none c n h bs m = as_before m

unfoldable pub delivered : Outcome → ℕ → ℕ → List ℕ → Model → ModelResult
delivered more_needed c n bs m = as_before m
delivered skipped c n bs m = as_before m
delivered held c n bs m = as_before m
delivered ignored c n bs m = as_before m
delivered error_sent c n bs m = as_before m
delivered closed c n bs m = removal c m
delivered acted c n bs m = do_act (act_of (header bs).kind) c n (header bs) bs m

-- 01: after each event, closings too, waiting requests are looked at once, oldest first, and each that may be granted is
pub record Looked : Type 0 where
  pub sessions : List Session
  pub waiting : List Request
  pub told : List Told

abbrev pub given : Bool → Request → List Session → List Session
given true w ss = alter w.number (with_lock w.string) ss
given false w ss = ss

abbrev pub noted : Bool → Request → List Session → Looked → Looked
noted true w ss r = record { sessions = r.sessions; waiting = r.waiting; told = tells ss w.number 1 true ∷ r.told }
noted false w ss r = record { sessions = r.sessions; waiting = w ∷ r.waiting; told = r.told }

unfoldable pub look : List Request → List Session → Looked
look [] ss = record { sessions = ss; waiting = []; told = [] }
look (w ∷ ws) ss = let b = allowed ss w.number w.string in noted b w ss (look ws (given b w ss))

unfoldable pub looked : ModelResult → ModelResult
looked o =
    let r = look o.model.waiting o.model.sessions in
    record { model = record { clock = o.model.clock; sessions = r.sessions; waiting = r.waiting }; told = o.told ++ r.told }

-- one call; a refused call changes nothing
unfoldable pub model_step : Model → Fed → ModelResult
model_step m f_refused = as_before m
model_step m f_other = looked (as_before m)
model_step m (f_cut c) = looked (removal c m)
model_step m (f_clock t) = looked (reading t m)
model_step m (f_delivery c o n bs) = looked (delivered o c n bs m)

unfoldable pub model_run : Model → List Fed → ModelResult
model_run m [] = as_before m
model_run m (f ∷ fs) =
    let x = model_step m f in
    let y = model_run x.model fs in
    record { model = y.model; told = x.told ++ y.told }
