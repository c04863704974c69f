-- A journal kept of calls (02, Q-7): of each that was not refused its event and its frames. Assumes nothing.
use Rattle.std.specs.Prelude.{◌≡◌, Bool, true, false, cond, List, [], ◌∷◌, ℕ, ◌^◌, ◌<◌, length}
use Rattle.wire.specs.Field.{Bytes}
use Rattle.wire.specs.Frame.{bytes_of}
use Rattle.journal.specs.Journal.{closed_journal, last_offset}
use Rattle.record.specs.Layout.{Event as Recorded, opening as r-opening, delivery as r-delivery, cut as r-cut, clock as r-clock, answer as r-answer}
use Rattle.record.specs.Layout.{status as r-status, watch_off, watch_above, watch_outside, patterns as r-patterns, Row, most_delivered, most_shown, body_bytes}
use Rattle.readings.specs.Watch.{Limits, Limits.off, Limits.above, Limits.outside}
use Rattle.model.specs.State.{Making, fresh}
use Rattle.model.specs.Interface.{Event, Event.opening, Event.delivery, Event.cut, Event.clock, Event.answer, Event.status, Event.setting, Setting}
use Rattle.model.specs.Interface.{Setting.watch, Setting.patterns, Reply, Reply.refused, Reply.done, Reply.withheld, Reply.took}
use Rattle.model.specs.Step.{Line, log}

-- what the host sets, as it is recorded
abbrev pub recorded_watch : ℕ → Limits → Recorded
recorded_watch n off = watch_off n
recorded_watch n (above limit) = watch_above n limit
recorded_watch n (outside low high) = watch_outside n low high

abbrev pub recorded_setting : Setting → Recorded
recorded_setting (watch n l) = recorded_watch n l
recorded_setting (patterns text) = r-patterns text

-- a call as it is recorded: the output buffer's length is not
abbrev pub recorded : Event → Recorded
recorded (opening c) = r-opening c
recorded (delivery c bs room) = r-delivery c bs
recorded (cut c room) = r-cut c
recorded (clock t room) = r-clock t
recorded (answer n p end sh room) = r-answer n (cond end 1 0) p sh
recorded (status b) = r-status b
recorded (setting s) = recorded_setting s

-- the calls of a host that keeps a journal: numbers as the C interface has them, bytes that are bytes; 02: "a delivery looks at no more than
-- the first 1,040 unread bytes", "Of bytes shown with a meter answer only the first 16 count"
abbrev pub KeepableLimits : Limits → Type 0
KeepableLimits off = Unit {0}
KeepableLimits (above limit) = limit < 256 ^ 4
KeepableLimits (outside low high) = (low < 256 ^ 4) × (high < 256 ^ 4)

abbrev pub KeepableSetting : Setting → Type 0
KeepableSetting (watch n l) = (n < 256 ^ 4) × KeepableLimits l
KeepableSetting (patterns text) = Bytes text

abbrev pub Keepable : Event → Type 0
Keepable (opening c) = c < 256 ^ 4
Keepable (delivery c bs room) = (c < 256 ^ 4) × Row most_delivered bs
Keepable (cut c room) = c < 256 ^ 4
Keepable (clock t room) = t < 256 ^ 8
Keepable (answer n p end sh room) = (n < 256 ^ 4) × Bytes p × Row most_shown sh
Keepable (status b) = b < 256 ^ 1
Keepable (setting s) = KeepableSetting s

abbrev pub AllKeepable : List Event → Type 0
AllKeepable [] = Unit {0}
AllKeepable (e ∷ es) = Keepable e × AllKeepable es

abbrev pub is_refused : Reply → Bool
is_refused (refused n) = true
is_refused done = false
is_refused withheld = false
is_refused (took o k n) = false

-- the body of a call's entry
abbrev pub body_of : Line → List ℕ
body_of l = body_bytes (recorded l.event) (bytes_of l.frames)

-- one entry for each call that was not refused
unfoldable pub bodies_of : List Line → List (List ℕ)
bodies_of [] = []
bodies_of (l ∷ ls) = cond (is_refused l.reply) (bodies_of ls) (body_of l ∷ bodies_of ls)

abbrev pub NoneRefused : List Line → Type 0
NoneRefused [] = Unit {0}
NoneRefused (l ∷ ls) = (is_refused l.reply ≡ false) × NoneRefused ls

-- A good book of n entries: the closed journal of calls from a fresh server made as v says, an entry for each. That the last offset and the
-- number of entries fit their four bytes is said apart: the writer's definition takes what it gets
pub record Good (v : Making) (book : List ℕ) (n : ℕ) : Type 0 where
  pub calls : List Event
  pub keepable : AllKeepable calls
  pub none_refused : NoneRefused (log (fresh v) calls)
  pub is : book ≡ closed_journal (bodies_of (log (fresh v) calls))
  pub count : n ≡ length calls
  pub near : last_offset (bodies_of (log (fresh v) calls)) < 256 ^ 4
  pub few : length calls < 256 ^ 4
