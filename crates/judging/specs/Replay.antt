-- 02, Q-8: the replay of a journal by the server's definition, and the verdict: "from a fresh desk of the stated vendor number and mode, each
-- event in turn yields the very parcels beside it". Assumes nothing.
use Rattle.std.specs.Prelude.{not, List, ℕ, eqb}
use Rattle.wire.specs.Frame.{bytes_of}
use Rattle.record.specs.Layout.{Event as Recorded, opening as r-opening, delivery as r-delivery, cut as r-cut, clock as r-clock, answer as r-answer}
use Rattle.record.specs.Layout.{status as r-status, watch_off, watch_above, watch_outside, patterns as r-patterns}
use Rattle.readings.specs.Watch.{Limits.off, Limits.above, Limits.outside}
use Rattle.verifier.specs.Judge.{Verdict, Deed, refused, gave, judge}
use Rattle.model.specs.Sizes.{output_minimum}
use Rattle.model.specs.State.{Server, Making, fresh}
use Rattle.model.specs.Interface.{Event, Event.opening, Event.delivery, Event.cut, Event.clock, Event.answer, Event.status, Event.setting, Setting.watch}
use Rattle.model.specs.Interface.{Setting.patterns, Reply, Reply.refused as turned_away_lem, Reply.done, Reply.withheld, Reply.took}
use Rattle.model.specs.Step.{step}

-- a recorded event's call: with the least output buffer that is not refused; bytes shown as they were recorded
abbrev pub call_of : Recorded → Event
call_of (r-opening c) = opening c
call_of (r-delivery c bs) = delivery c bs output_minimum
call_of (r-cut c) = cut c output_minimum
call_of (r-clock t) = clock t output_minimum
call_of (r-answer n end p sh) = answer n p (not (eqb end 0)) sh output_minimum
call_of (r-status b) = status b
call_of (watch_off n) = setting (watch n off)
call_of (watch_above n limit) = setting (watch n (above limit))
call_of (watch_outside n low high) = setting (watch n (outside low high))
call_of (r-patterns text) = setting (patterns text)

-- 02: "A refused event is a fault of parcels"; else the frames, as bytes
unfoldable pub by_reply : Reply → List ℕ → Server → Deed Server
by_reply (turned_away_lem n) frames d = refused
by_reply done frames d = gave frames d
by_reply withheld frames d = gave frames d
by_reply (took o k n) frames d = gave frames d

unfoldable pub by_call : Server → Event → Deed Server
by_call d e = by_reply (step d e).reply (bytes_of (step d e).frames) (step d e).server

abbrev pub deed : Server → Recorded → Deed Server
deed d r = by_call d (call_of r)

-- the verdict over a whole book
unfoldable pub verdict : Making → List ℕ → Verdict
verdict v book = judge deed (fresh v) book
