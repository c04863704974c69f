-- Answered once (02, Q-14): "from a fresh desk, by the first accepted clock reading at or past its deadline every waiting request has been answered
-- exactly once, before that reading only by a grant or its session's AsyncDeviceClear, if its session hasn't closed before". Over what the host
-- saw: of an AsyncLock that acted and was not answered, the answers to it in the calls that follow, call by call. Assumes nothing.
use Rattle.std.specs.Prelude.{◌≡◌, Bool, true, false, not, ◌&&◌, ◌||◌, cond, List, [], ◌∷◌, ◌⊎◌, ℕ, ◌+◌, eqb, leb, drop}
use Rattle.wire.specs.Message.{header}
use Rattle.wire.specs.Class.{one_of}
use Rattle.wire.specs.Frame.{Frame}
use Rattle.model.specs.MessageTypes.{AsyncLock, AsyncLockResponse, AsyncInitialize, AsyncDeviceClear, commands}
use Rattle.model.specs.Lists.{keep}
use Rattle.model.specs.State.{fresh, Making}
use Rattle.model.specs.Interface.{Event, Event.delivery, Outcome.acted, Reply.took}
use Rattle.model.specs.Step.{Line, step, final, log}
use Rattle.model.specs.Happening.{Action, Happening, Happening.unmoved, Happening.connected, Happening.disconnected, Happening.skipped_over}
use Rattle.model.specs.Happening.{Happening.errored, Happening.message_acted, Happening.clock_read, Happening.status_set, Happening.setting_made}
use Rattle.model.specs.Happening.{Happening.answer_sent, Happening.answer_withheld, happened}
use Rattle.model.specs.LocalityRows.{kind_of, is_silence, clock_row}
use Rattle.model.specs.Locality.{over_log}
use Rattle.model.specs.NextQuestion.{synchronous_of}

-- the codes of the lock answers (type 5) to connection c among the frames of a call, in order
abbrev pub lock_only : List Frame → List Frame
lock_only fs = keep (λ f. eqb f.message.kind AsyncLockResponse) fs

abbrev pub codes_to : ℕ → List Frame → List ℕ
codes_to c [] = []
codes_to c (f ∷ fs) = cond (eqb f.to c) (f.message.code ∷ codes_to c fs) (codes_to c fs)

-- the release that stands of the session with connections c (asynchronous) and s, by the number that it names: an AsyncLock with code 0 that
-- acted and was not answered, until the message of that number or a device clear acts (02, Q-3)
pub data Release : Type 0 where
  none_stands : Release
  stands_for : ℕ → Release

abbrev pub is_standing : Release → Bool
is_standing none_stands = false
is_standing (stands_for n) = true

abbrev pub waits_for : Release → ℕ → Bool
waits_for none_stands m = false
waits_for (stands_for n) m = eqb n m

-- a message of the session: an AsyncLock, an AsyncDeviceClear, the message that ends its release
abbrev pub asks_lock : ℕ → Action → Bool
asks_lock c a = eqb a.connection c && eqb (kind_of a) AsyncLock

abbrev pub clears_all : ℕ → Action → Bool
clears_all c a = eqb a.connection c && eqb (kind_of a) AsyncDeviceClear

abbrev pub ends_release : ℕ → Release → Action → Bool
ends_release s p a = eqb a.connection s && (one_of commands (kind_of a) && waits_for p a.message.param)

abbrev pub release_after : ℕ → ℕ → Happening → Release → Release
release_after c s (message_acted a) p =
    cond (asks_lock c a) (cond (eqb a.message.code 0 && is_silence a.told) (stands_for a.message.param) p)
    (cond (clears_all c a || ends_release s p a) none_stands p)
release_after c s (disconnected x k) p = cond (eqb x c || eqb x s) none_stands p
release_after c s unmoved p = p
release_after c s (connected x) p = p
release_after c s (skipped_over x k) p = p
release_after c s (errored x h k) p = p
release_after c s (clock_read t) p = p
release_after c s (status_set b) p = p
release_after c s (setting_made u) p = p
release_after c s (answer_sent n x end) p = p
release_after c s (answer_withheld n m) p = p

-- of codes, all but the first that is not 0
abbrev pub less_release : List ℕ → List ℕ
less_release [] = []
less_release (x ∷ xs) = cond (eqb x 0) (x ∷ less_release xs) xs

-- which of the codes to the session answer its waiting request: all but the one that answers its AsyncLock, which comes first, or its release
-- that stood: first where a message ends it, the first that is not 0 in a device clear, since a request is answered 0 there
abbrev pub less_own : ℕ → ℕ → Release → Happening → List ℕ → List ℕ
less_own c s p (message_acted a) xs = cond (asks_lock c a || ends_release s p a) (drop 1 xs) (cond (clears_all c a && is_standing p) (less_release xs) xs)
less_own c s p unmoved xs = xs
less_own c s p (connected x) xs = xs
less_own c s p (disconnected x k) xs = xs
less_own c s p (skipped_over x k) xs = xs
less_own c s p (errored x h k) xs = xs
less_own c s p (clock_read t) xs = xs
less_own c s p (status_set b) xs = xs
less_own c s p (setting_made u) xs = xs
less_own c s p (answer_sent n x end) xs = xs
less_own c s p (answer_withheld n m) xs = xs

abbrev pub happening : Line → Happening
happening l = happened l.event l.reply l.frames

-- the codes with which a call answers the request of the session with connections c and s, whose standing release is p
abbrev pub answered_to : ℕ → ℕ → Release → Happening → List Frame → List ℕ
answered_to c s p h fs = less_own c s p h (codes_to c (lock_only fs))

-- what a call is to the request of the session with connections c (asynchronous) and s
pub data Call : Type 0 where
  closes expires clears other : Call

-- it closes the session; it is a reading at or past deadline t; it is the session's AsyncDeviceClear; or none of these
abbrev pub call_of : ℕ → ℕ → ℕ → Happening → Call
call_of c s t (disconnected x k) = cond (eqb x c || eqb x s) closes other
call_of c s t (clock_read u) = cond (leb t u) expires other
call_of c s t (message_acted a) = cond (eqb (kind_of a) AsyncDeviceClear && eqb a.connection c) clears other
call_of c s t unmoved = other
call_of c s t (connected x) = other
call_of c s t (skipped_over x k) = other
call_of c s t (errored x h k) = other
call_of c s t (status_set b) = other
call_of c s t (setting_made u) = other
call_of c s t (answer_sent n p end) = other
call_of c s t (answer_withheld n m) = other

abbrev pub nothing_sent : List Frame → Bool
nothing_sent [] = true
nothing_sent (f ∷ fs) = false

-- a request comes to wait on connection c
abbrev pub begins_to_wait : ℕ → Happening → List Frame → Bool
begins_to_wait c (message_acted a) fs = asks_lock c a && (not (eqb a.message.code 0) && nothing_sent fs)
begins_to_wait c unmoved fs = false
begins_to_wait c (connected x) fs = false
begins_to_wait c (disconnected x k) fs = false
begins_to_wait c (skipped_over x k) fs = false
begins_to_wait c (errored x h k) fs = false
begins_to_wait c (clock_read t) fs = false
begins_to_wait c (status_set b) fs = false
begins_to_wait c (setting_made s) fs = false
begins_to_wait c (answer_sent n p end) fs = false
begins_to_wait c (answer_withheld n m) fs = false

-- another session takes connection c
abbrev pub takes_connection : ℕ → Happening → Bool
takes_connection c (message_acted a) = eqb (kind_of a) AsyncInitialize && eqb a.connection c
takes_connection c unmoved = false
takes_connection c (connected x) = false
takes_connection c (disconnected x k) = false
takes_connection c (skipped_over x k) = false
takes_connection c (errored x h k) = false
takes_connection c (clock_read t) = false
takes_connection c (status_set b) = false
takes_connection c (setting_made s) = false
takes_connection c (answer_sent n p end) = false
takes_connection c (answer_withheld n m) = false

-- the same of a session whose other connection and release are not known: a Data, DataEND or Trigger of anyone may end its release
abbrev pub less_any : ℕ → Happening → List ℕ → List ℕ
less_any c (message_acted a) xs = cond (asks_lock c a || one_of commands (kind_of a)) (drop 1 xs) (cond (clears_all c a) (less_release xs) xs)
less_any c unmoved xs = xs
less_any c (connected x) xs = xs
less_any c (disconnected x k) xs = xs
less_any c (skipped_over x k) xs = xs
less_any c (errored x h k) xs = xs
less_any c (clock_read t) xs = xs
less_any c (status_set b) xs = xs
less_any c (setting_made s) xs = xs
less_any c (answer_sent n x end) xs = xs
less_any c (answer_withheld n m) xs = xs

-- another session has connection c: nothing is answered there, until a request of its own comes to wait
pub data NoneWaits (c : ℕ) : List Line → Type 0 where
  last : NoneWaits c []
  own_request : (l : Line) (ls : List Line) → begins_to_wait c (happening l) l.frames ≡ true → NoneWaits c (l ∷ ls)
  still : (l : Line) (ls : List Line) → less_any c (happening l) (codes_to c (lock_only l.frames)) ≡ [] → NoneWaits c ls → NoneWaits c (l ∷ ls)

-- it is answered no more: nothing is, until another request comes to wait on its connection, also where another session takes it
pub data NoMore (c s : ℕ) : Release → List Line → Type 0 where
  ended : (p : Release) → NoMore c s p []
  anew : (p : Release) (l : Line) (ls : List Line) → begins_to_wait c (happening l) l.frames ≡ true → NoMore c s p (l ∷ ls)
  taken_over : (p : Release) (l : Line) (ls : List Line) → takes_connection c (happening l) ≡ true → codes_to c (lock_only l.frames) ≡ [] → NoneWaits c ls → NoMore c s p (l ∷ ls)
  silent : (p : Release) (l : Line) (ls : List Line) → answered_to c s p (happening l) l.frames ≡ [] → NoMore c s (release_after c s (happening l) p) ls → NoMore c s p (l ∷ ls)

-- a call that answers the request with codes xs meets it while it waits: its closing answers nothing, a reading at or past the deadline and a
-- device clear answer 0, any other call answers nothing, and the request waits on, or grants it; then it is answered no more
abbrev pub Meets : Call → List ℕ → Type 0 → Type 0 → Type 0
Meets closes xs waits no_more = (xs ≡ []) × no_more
Meets expires xs waits no_more = (xs ≡ 0 ∷ []) × no_more
Meets clears xs waits no_more = (xs ≡ 0 ∷ []) × no_more
Meets other xs waits no_more = ((xs ≡ []) × waits) ⊎ ((xs ≡ 1 ∷ []) × no_more)

abbrev pub Once : ℕ → ℕ → ℕ → Release → List Line → Type 0
Once c s t p [] = Unit {0}
Once c s t p (l ∷ ls) =
    let q = release_after c s (happening l) p in
    Meets (call_of c s t (happening l)) (answered_to c s p (happening l) l.frames) (Once c s t q ls) (NoMore c s q ls)

-- the clock, as the readings that were accepted tell it
abbrev pub clock_in : List Line → ℕ
clock_in ls = over_log clock_row ls 0

-- after any list: a request, AsyncLock with code 1, that acts and is not answered waits until the clock plus its timeout, and no release of its
-- session stands (02, Q-3: it would have got 3); then any calls
pub record AnsweredOnce (v : Making) (es : List Event) : Type 0 where
  pub once : (c : ℕ) (bs : List ℕ) (room k n : ℕ) → (step (final (fresh v) es) (delivery c bs room)).reply ≡ took acted k n → (header bs).kind ≡ AsyncLock → (header bs).code ≡ 1
      → (step (final (fresh v) es) (delivery c bs room)).frames ≡ [] → (fs : List Event)
      → Once c (synchronous_of v es n) (clock_in (log (fresh v) es) + (header bs).param) none_stands (log (step (final (fresh v) es) (delivery c bs room)).server fs)
