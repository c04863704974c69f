-- 01, "One delivery, check by check": the rows of rules, one for each role, and the verdict. Nothing is changed here. Assumes nothing.
use Rattle.std.specs.Prelude.{Bool, true, false, not, ◌&&◌, ◌||◌, cond, List, [], ◌∷◌, ℕ, eqb, ltb}
use Rattle.wire.specs.declared.Header.{Header}
use Rattle.wire.specs.Class.{Class, Class.acted_on, Class.vendor, Class.unrecognised, class_of, synchronous, asynchronous, one_of}
use Rattle.model.specs.Lists.{is_nil, same, all}
use Rattle.model.specs.MessageTypes.{Initialize, FatalError, Error, AsyncLock, DataEND, DeviceClearComplete, AsyncRemoteLocalControl, Trigger}
use Rattle.model.specs.MessageTypes.{AsyncMaximumMessageSize, AsyncInitialize, AsyncDeviceClear, AsyncStatusQuery, AsyncLockInfo, commands}
use Rattle.model.specs.State.{Server, at, live, half_open, slot_of_number, exchange_at}
use Rattle.model.specs.Allowing.{admits}
use Rattle.model.specs.Scan.{Scan, Scan.empty, Scan.few, Scan.wrong, Scan.skipping, Scan.long, Scan.part, Scan.whole}
use Rattle.model.specs.Place.{Role, Role.r_none, Role.r_half_open, Role.r_synchronous, Role.r_asynchronous}
use Rattle.model.specs.Locks.{access}

-- more needed, skipped, held, ignored, closed without reply, acted on; Error and FatalError with a code
pub data Verdict : Type 0 where
  v_more v_skipped v_held v_ignored v_closed v_acts : Verdict
  v_error v_fatal : ℕ → Verdict

-- the first rule whose test holds decides; a message that passes all of them acts (check 11)
pub record Rule : Type 0 where
  pub test : Bool
  pub then : Verdict

abbrev pub first : List Rule → Verdict
first [] = v_acts
first (r ∷ rs) = cond r.test r.then (first rs)

abbrev pub either : ℕ → ℕ → ℕ → Bool
either a b t = eqb t a || eqb t b

-- the class of a type on a channel (wire's table)
abbrev pub is_vendor : Class → Bool
is_vendor acted_on = false
is_vendor vendor = true
is_vendor unrecognised = false

abbrev pub is_unrecognised : Class → Bool
is_unrecognised acted_on = false
is_unrecognised vendor = false
is_unrecognised unrecognised = true

-- "hislip0"
abbrev pub hislip0 : List ℕ
hislip0 = 0x68 ∷ 0x69 ∷ 0x73 ∷ 0x6c ∷ 0x69 ∷ 0x70 ∷ 0x30 ∷ []

-- a connection without a role
abbrev pub opening_rules : Server → Header → List ℕ → List Rule
opening_rules d h p =
    let es = d.locks.entries in
    let t = h.kind in
    -- check 3: any type but 0 and 17
    record { test = not (either Initialize AsyncInitialize t); then = v_fatal 3 }
    -- check 10: payload where none belongs
    ∷ record { test = eqb t AsyncInitialize && ltb 0 h.len; then = v_fatal 3 }
    -- Initialize, in this order: sub-address empty or "hislip0", else FatalError 3; 16 (02, Q-6: 32) live sessions, FatalError 4
    ∷ record { test = eqb t Initialize && not (is_nil p || same p hislip0); then = v_fatal 3 }
    ∷ record { test = eqb t Initialize && all live es; then = v_fatal 4 }
    -- AsyncInitialize: the parameter must equal a half-open session's number, else FatalError 3
    ∷ record { test = eqb t AsyncInitialize && not (half_open (at es (slot_of_number es h.param))); then = v_fatal 3 }
    ∷ []

-- the synchronous channel of the session in slot i
abbrev pub synchronous_rules : Server → ℕ → Header → List ℕ → List Rule
synchronous_rules d i h p =
    let t = h.kind in
    let clearing = (exchange_at d.rest i).in_clear in
    -- check 6: FatalError closes without reply; Error is taken and ignored
    record { test = eqb t FatalError; then = v_closed }
    ∷ record { test = eqb t Error; then = v_ignored }
    -- check 7: in device clear, anything but type 8
    ∷ record { test = clearing && not (eqb t DeviceClearComplete); then = v_ignored }
    -- check 8: vendor type, unrecognised, type 0 on its own channel
    ∷ record { test = is_vendor (class_of synchronous t); then = v_error 3 }
    ∷ record { test = is_unrecognised (class_of synchronous t); then = v_error 1 }
    ∷ record { test = eqb t Initialize; then = v_fatal 3 }
    -- check 9: Data, DataEND or Trigger without access
    ∷ record { test = one_of commands t && not (access d.locks.entries i); then = v_held }
    -- 02, Q-10, "between document 01's checks 9 and 10": any other number than the one expected
    ∷ record { test = one_of commands t && not (eqb h.param (exchange_at d.rest i).number_expected); then = v_error 0 }
    -- check 10: code 0 or 1 for Data, DataEND, Trigger; then no payload for DeviceClearComplete and Trigger
    ∷ record { test = one_of commands t && ltb 1 h.code; then = v_error 2 }
    ∷ record { test = either DeviceClearComplete Trigger t && ltb 0 h.len; then = v_error 0 }
    -- DeviceClearComplete outside a clear
    ∷ record { test = eqb t DeviceClearComplete && not clearing; then = v_error 0 }
    -- 02, Q-12, "after the code check": "With a list set, a DataEND whose payload, up to its first space, newline or end, matches no pattern"
    ∷ record { test = eqb t DataEND && not (admits d.rest.allowed p); then = v_error 128 }
    ∷ []

-- the asynchronous channel
abbrev pub asynchronous_rules : Header → List ℕ → List Rule
asynchronous_rules h p =
    let t = h.kind in
    -- check 6
    record { test = eqb t FatalError; then = v_closed }
    ∷ record { test = eqb t Error; then = v_ignored }
    -- check 8: vendor type, unrecognised, type 17 on its own channel
    ∷ record { test = is_vendor (class_of asynchronous t); then = v_error 3 }
    ∷ record { test = is_unrecognised (class_of asynchronous t); then = v_error 1 }
    ∷ record { test = eqb t AsyncInitialize; then = v_fatal 3 }
    -- check 10: code 0 or 1 for status query and lock, 0 to 6 for remote/local
    ∷ record { test = either AsyncLock AsyncStatusQuery t && ltb 1 h.code; then = v_error 2 }
    ∷ record { test = eqb t AsyncRemoteLocalControl && ltb 6 h.code; then = v_error 2 }
    -- then payload where none belongs (of a lock message, it belongs to a request alone), or not 8 bytes for type 15
    ∷ record { test = one_of (AsyncRemoteLocalControl ∷ AsyncDeviceClear ∷ AsyncStatusQuery ∷ AsyncLockInfo ∷ []) t && ltb 0 h.len; then = v_error 0 }
    ∷ record { test = eqb t AsyncLock && (eqb h.code 0 && ltb 0 h.len); then = v_error 0 }
    ∷ record { test = eqb t AsyncMaximumMessageSize && not (eqb h.len 8); then = v_error 0 }
    ∷ []

-- a whole message; check 3: a session without its second channel, FatalError 2
abbrev pub judged : Role → Server → ℕ → Header → List ℕ → Verdict
judged r_none d i h p = first (opening_rules d h p)
judged r_half_open d i h p = v_fatal 2
judged r_synchronous d i h p = first (synchronous_rules d i h p)
judged r_asynchronous d i h p = first (asynchronous_rules h p)

-- length above 1,024: checks 3 and 4
abbrev pub too_long : Role → Verdict
too_long r_none = v_fatal 3
too_long r_half_open = v_fatal 2
too_long r_synchronous = v_error 4
too_long r_asynchronous = v_error 4

-- payload not all here: checks 3 and 5
abbrev pub partly : Role → Header → Verdict
partly r_none h = cond (either Initialize AsyncInitialize h.kind) v_more (v_fatal 3)
partly r_half_open h = v_fatal 2
partly r_synchronous h = v_more
partly r_asynchronous h = v_more

unfoldable pub verdict : Role → Server → ℕ → Scan → Verdict
-- check 1
verdict r d i empty = v_more
verdict r d i (skipping k) = v_skipped
-- check 2
verdict r d i few = v_more
verdict r d i wrong = v_fatal 1
-- checks 3 to 11
verdict r d i (long h) = too_long r
verdict r d i (part h) = partly r h
verdict r d i (whole h p) = judged r d i h p
