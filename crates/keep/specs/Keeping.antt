-- 02, Q-7, the calls that keep a journal: what such a call looks at, what is kept of its event, and what it ensures beside the plain call's
-- promise. Assumes nothing.
use Rattle.std.specs.Prelude.{List, ℕ, take}
use Rattle.wire.specs.Frame.{bytes_of}
use Rattle.model.specs.State.{Server}
use Rattle.model.specs.Interface.{Event, Event.opening, Event.delivery, Event.cut, Event.clock, Event.answer, Event.status, Event.setting, Reply, Reply.refused, Reply.done, Reply.withheld, Reply.took}
use Rattle.model.specs.Refusals.{refusal}
use Rattle.model.specs.Step.{step}
use Rattle.sessions.specs.declared.Delivery.{Delivery}
use Rattle.server.specs.declared.Answered.{Answered}
use Rattle.server.specs.declared.Done.{Done as Called}
use Rattle.server.specs.declared.listing.Listed.{Listed}
use Rattle.journal.specs.Writer.{Done}
use Rattle.record.specs.Layout as layout
unfoldable pub use Rattle.entries.specs.Entries.{entry_unless}
pub use Rattle.entries.specs.Entries.{Keeps}
use Rattle.judging.specs.Kept.{recorded}
use Rattle.keep.specs.declared.KeptDelivery.{KeptDelivery}
use Rattle.keep.specs.declared.KeptDone.{KeptDone}
use Rattle.keep.specs.declared.KeptAnswered.{KeptAnswered}
use Rattle.keep.specs.declared.lists.KeptListed.{KeptListed}

-- 02: "With a book kept, a delivery looks at no more than the first 1,040 unread bytes." "Of bytes shown with a meter answer only the first
-- 16 count."
abbrev pub looked : Event → Event
looked (opening c) = opening c
looked (delivery c bs room) = delivery c (take layout.most_delivered bs) room
looked (cut c room) = cut c room
looked (clock t room) = clock t room
looked (answer n p end sh room) = answer n p end (take layout.most_shown sh) room
looked (status b) = status b
looked (setting x) = setting x

-- the number of a refusal; 0: the call was not refused
abbrev pub refused_by : Reply → ℕ
refused_by (refused n) = n
refused_by done = 0
refused_by withheld = 0
refused_by (took o k n) = 0

-- what a kept call on server d does to the writer's words and the book
abbrev pub keeping : Server → Event → List ℕ → List ℕ → Done
keeping d e words book = entry_unless (refusal d e) words book (layout.body_bytes (recorded e) (bytes_of (step d e).frames))

-- what a kept call tells of the event: the plain call's struct
abbrev pub of_delivery : KeptDelivery → Delivery
of_delivery r = record { refusal = r.refusal; outcome = r.outcome; session = r.session; taken = r.taken; output = r.output; missing = r.missing }

abbrev pub of_done : KeptDone → Called
of_done r = record { refusal = r.refusal; output = r.output }

abbrev pub of_answered : KeptAnswered → Answered
of_answered r = record { refusal = r.refusal; withheld = r.withheld; output = r.output }

abbrev pub of_listed : KeptListed → Listed
of_listed r = record { refusal = r.refusal; pattern = r.pattern; place = r.place }
