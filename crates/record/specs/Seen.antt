-- What the reader answers: the event of a body, and the frames behind it. Assumes nothing.
use Rattle.std.specs.Prelude.{◌≡◌, Option, List, ℕ, if◌then◌else◌, MatchOption}
use denote.Ref.{Bor}
use Rattle.record.specs.Layout.{Event as Recorded, opening, delivery, cut, clock, answer, status, watch_off, watch_above, watch_outside, patterns, Read, found, none}
use Rattle.record.specs.declared.events.Event.{Event}
use Rattle.record.specs.declared.events.Event.TheVariants.{Opening, Delivery, Cut, Clock, Answer, Status, WatchOff, WatchAbove, WatchOutside, Patterns}

abbrev pub event_of : Event → Recorded
event_of (Opening connection) = opening connection
event_of (Delivery connection bytes) = delivery connection bytes.now
event_of (Cut connection) = cut connection
event_of (Clock milliseconds) = clock milliseconds
event_of (Answer session end payload shown) = answer session (if end then 1 else 0) payload.now shown.now
event_of (Status byte) = status byte
event_of (WatchOff session) = watch_off session
event_of (WatchAbove session limit) = watch_above session limit
event_of (WatchOutside session low high) = watch_outside session low high
event_of (Patterns text) = patterns text.now

-- the answer r for bytes from which x is read
abbrev pub Reads : Option (Event × Bor (List ℕ)) → Read Recorded → Type 0
Reads r x = MatchOption r (x ≡ none) (λ p. x ≡ found (event_of p.0) p.1.now)
