-- 02, Q-9: "the clock reading of its last grant and the number of locks granted to it, as answers sent since it opened (once at 2^62 it stays
-- there)", over what the host saw: a reader of the log alone notes the clock at each answer 1 to a request of a session. Assumes nothing.
use Rattle.std.specs.Prelude.{◌≡◌, true, ◌&&◌, cond, List, [], ◌∷◌, ℕ, eqb, ltb, length, drop}
use Rattle.wire.specs.Class.{one_of}
use Rattle.wire.specs.Frame.{Frame}
use Rattle.model.specs.Sizes.{no_connection, grants_limit}
use Rattle.model.specs.MessageTypes.{Initialize, AsyncInitialize}
use Rattle.model.specs.State.{Entry, at, live, fresh, Making}
use Rattle.model.specs.Interface.{Event}
use Rattle.model.specs.Step.{Line, final, log}
use Rattle.model.specs.Happening.{Action, Happening, Happening.unmoved, Happening.connected, Happening.disconnected, Happening.skipped_over}
use Rattle.model.specs.Happening.{Happening.errored, Happening.message_acted, Happening.clock_read, Happening.status_set, Happening.setting_made}
use Rattle.model.specs.Happening.{Happening.answer_sent, Happening.answer_withheld}
use Rattle.model.specs.LocalityRows.{kind_of, obtains, singly, clock_row}
use Rattle.model.specs.AnsweredOnce.{lock_only, happening}

-- the frames of a call that answer waiting requests, whoever's they are. Of an AsyncDeviceClear: code 0 before the acknowledgement (23), and all
-- after it (a release that stood is answered 1 or 2 before it)
abbrev pub of_clear : List Frame → List Frame
of_clear [] = []
of_clear (f ∷ fs) = cond (eqb f.message.kind 23) (lock_only fs) (cond (eqb f.message.kind 5 && eqb f.message.code 0) (f ∷ of_clear fs) (of_clear fs))

-- an AsyncLock's own answer comes first, and so does that of a release which a Data, DataEND or Trigger ends
abbrev pub to_waiting : Happening → List Frame → List Frame
to_waiting (message_acted a) fs = cond (one_of (4 ∷ 6 ∷ 7 ∷ 12 ∷ []) (kind_of a)) (drop 1 (lock_only fs)) (cond (eqb (kind_of a) 19) (of_clear fs) (lock_only fs))
to_waiting unmoved fs = lock_only fs
to_waiting (connected c) fs = lock_only fs
to_waiting (disconnected c k) fs = lock_only fs
to_waiting (skipped_over c k) fs = lock_only fs
to_waiting (errored c h k) fs = lock_only fs
to_waiting (clock_read t) fs = lock_only fs
to_waiting (status_set b) fs = lock_only fs
to_waiting (setting_made s) fs = lock_only fs
to_waiting (answer_sent n p end) fs = lock_only fs
to_waiting (answer_withheld n m) fs = lock_only fs

-- what the log tells of a session: its second connection, and the clock's readings at the answers 1 to its requests since it opened, the last
-- one first
pub record Grants : Type 0 where
  pub second : ℕ
  pub readings : List ℕ

abbrev pub none_yet : Grants
none_yet = record { second = no_connection; readings = [] }

-- a message of the session that acted while the clock read now: it opens, gets its second connection, or is granted at once
abbrev pub own_grants : ℕ → Action → Grants → Grants
own_grants now a p =
    cond (eqb (kind_of a) AsyncInitialize) (record { second = a.connection; readings = p.readings })
    (cond (eqb (kind_of a) Initialize) none_yet
    (cond (obtains a) (record { second = p.second; readings = now ∷ p.readings }) p))

abbrev pub after_own : ℕ → Happening → ℕ → Grants → Grants
after_own now (message_acted a) n p = cond (eqb a.session n) (own_grants now a p) p
after_own now unmoved n p = p
after_own now (connected c) n p = p
after_own now (disconnected c k) n p = p
after_own now (skipped_over c k) n p = p
after_own now (errored c h k) n p = p
after_own now (clock_read t) n p = p
after_own now (status_set b) n p = p
after_own now (setting_made s) n p = p
after_own now (answer_sent m x end) n p = p
after_own now (answer_withheld m x) n p = p

-- with the answers 1 to connection c among some
abbrev pub answers_to : ℕ → ℕ → List Frame → List ℕ → List ℕ
answers_to now c [] xs = xs
answers_to now c (f ∷ fs) xs = answers_to now c fs (cond (eqb f.message.code 1 && eqb f.to c) (now ∷ xs) xs)

-- of session n, one call
abbrev pub grants_by : ℕ → Happening → List Frame → ℕ → Grants → Grants
grants_by now h fs n p = let q = after_own now h n p in record { second = q.second; readings = answers_to now q.second (to_waiting h fs) q.readings }

-- of session n, read off the log alone, from a clock reading on
unfoldable pub grants_of : List Line → ℕ → ℕ → Grants → Grants
grants_of [] now n p = p
grants_of (l ∷ ls) now n p = grants_of ls (singly clock_row (happening l) now) n (grants_by now (happening l) l.frames n p)

-- of session n, after the list
abbrev pub grants_of_session : Making → List Event → ℕ → Grants
grants_of_session v es n = grants_of (log (fresh v) es) 0 n none_yet

-- at most so many; the last reading, 0 if there is none
abbrev pub at_most : ℕ → ℕ → ℕ
at_most m n = cond (ltb n m) n m

abbrev pub last_reading : List ℕ → ℕ
last_reading [] = 0
last_reading (t ∷ ts) = t

-- what the log tells is so
pub record AsTold (p : Grants) (e : Entry) : Type 0 where
  pub second : e.asynchronous ≡ p.second
  pub grants : e.locks_granted.grants ≡ at_most grants_limit (length p.readings)
  pub granted_at_lem : e.locks_granted.granted_at ≡ last_reading p.readings

-- after any list from the fresh server, of each live session
pub record GrantsSeen (v : Making) (es : List Event) : Type 0 where
  pub shows : (j : ℕ) → live (at (final (fresh v) es).locks.entries j) ≡ true
      → AsTold (grants_of_session v es (at (final (fresh v) es).locks.entries j).number) (at (final (fresh v) es).locks.entries j)
