-- 02, Q-11, over whole lists: each session's watch, its trip and its record, read off what the host set and saw; and which calls send a request
-- for service. Assumes nothing.
use Rattle.std.specs.Prelude.{◌≡◌, Bool, false, ◌&&◌, ◌||◌, cond, true, List, [], ◌∷◌, ℕ, eqb}
use Rattle.wire.specs.Frame.{Frame}
use Rattle.readings.specs.Payload.{readings_of}
use Rattle.model.specs.MessageTypes.{AsyncServiceRequest}
use Rattle.model.specs.Lists.{keep}
use Rattle.model.specs.State.{Sensing, at, live, fresh_sensing, sensing_at, fresh, Making}
use Rattle.model.specs.Interface.{Event, Setting, Setting.watch, Setting.patterns}
use Rattle.model.specs.Step.{Line, step, final, log}
use Rattle.model.specs.Happening.{Action, Happening, Happening.unmoved, Happening.connected, Happening.disconnected, Happening.skipped_over}
use Rattle.model.specs.Happening.{Happening.errored, Happening.message_acted, Happening.clock_read, Happening.status_set, Happening.setting_made}
use Rattle.model.specs.Happening.{Happening.answer_sent, Happening.answer_withheld, happened}
use Rattle.model.specs.LocalityRows.{kind_of, trips_by, noted_all, status_row}
use Rattle.model.specs.LocalityReplies.{service_from}
use Rattle.model.specs.Locality.{over_log}
use Rattle.model.specs.NextQuestion.{asynchronous_of}

-- of session n, one call: it opens with neither; what is set for it; what an answer that was sent to it says
abbrev pub opens_session : Action → ℕ → Bool
opens_session a n = eqb (kind_of a) 0 && eqb a.session n

abbrev pub set_for : Setting → ℕ → Sensing → Sensing
set_for (watch m l) n s = cond (eqb m n) (record { watch = l; tripped = false; recorded = s.recorded }) s
set_for (patterns text) n s = s

abbrev pub told_by : List ℕ → Sensing → Sensing
told_by p s = record { watch = s.watch; tripped = s.tripped || trips_by p s; recorded = noted_all (readings_of p) s.recorded }

abbrev pub senses : Happening → ℕ → Sensing → Sensing
senses unmoved n s = s
senses (connected c) n s = s
senses (disconnected c k) n s = s
senses (skipped_over c k) n s = s
senses (errored c h k) n s = s
senses (message_acted a) n s = cond (opens_session a n) fresh_sensing s
senses (clock_read t) n s = s
senses (status_set b) n s = s
senses (setting_made x) n s = set_for x n s
senses (answer_sent m p end) n s = cond (eqb m n) (told_by p s) s
senses (answer_withheld m k) n s = s

unfoldable pub sensing_in : List Line → ℕ → Sensing → Sensing
sensing_in [] n s = s
sensing_in (l ∷ ls) n s = sensing_in ls n (senses (happened l.event l.reply l.frames) n s)

-- after the list: of session n; the status byte
abbrev pub sensing_of : Making → List Event → ℕ → Sensing
sensing_of v es n = sensing_in (log (fresh v) es) n fresh_sensing

abbrev pub status_of : Making → List Event → ℕ
status_of v es = over_log status_row (log (fresh v) es) 0

abbrev pub is_service : Frame → Bool
is_service f = eqb f.message.kind AsyncServiceRequest

-- the requests for service that a call sends: an answer that is sent and whose readings are the first to trip the watch since it was set sends one,
-- on the session's asynchronous connection
abbrev pub served_by : Making → List Event → Happening → List Frame
served_by v es unmoved = []
served_by v es (connected c) = []
served_by v es (disconnected c k) = []
served_by v es (skipped_over c k) = []
served_by v es (errored c h k) = []
served_by v es (message_acted a) = []
served_by v es (clock_read t) = []
served_by v es (status_set b) = []
served_by v es (setting_made x) = []
served_by v es (answer_sent n p end) = service_from (asynchronous_of v es n) (sensing_of v es n) p (status_of v es)
served_by v es (answer_withheld n m) = []

pub record Watches (v : Making) (es : List Event) : Type 0 where
  -- what the server keeps of each live session is what the log says
  pub known : (j : ℕ) → live (at (final (fresh v) es).locks.entries j) ≡ true
      → sensing_at (final (fresh v) es).rest j ≡ sensing_of v es (at (final (fresh v) es).locks.entries j).number
  -- of every call: all its requests for service
  pub serves : (e : Event) → keep is_service (step (final (fresh v) es) e).frames ≡ served_by v es (happened e (step (final (fresh v) es) e).reply (step (final (fresh v) es) e).frames)
