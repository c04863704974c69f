-- What the replay of one event and of one body answers: the server's next state, or the fault. Assumes nothing.
use Rattle.std.specs.Prelude.{◌≡◌, Bool, List, ℕ, Result, Ok, Err, if◌then◌else◌, eqb, leb, length, take}
use Rattle.journal.specs.Journal.{choose}
use Rattle.record.specs.Layout.{Event as Recorded, decode}
use Rattle.verifier.specs.Judge.{Went, on, fault, same, by_deed, by_event}
use Rattle.verifier.specs.Framing.{fault_of}
use Rattle.verifier.specs.declared.Fault.{Fault}
use Rattle.verifier.specs.declared.Fault.TheVariants.{Parcels}
use Rattle.model.specs.State.{Server}
use Rattle.judging.specs.Replay.{deed}
use Rattle.state.specs.View.{Memory, view}

unfoldable pub went_of : Result (Unit {0}) Fault → Server → Went Server
went_of (Ok u) d = on d
went_of (Err f) d = fault (fault_of f)

-- a call's refusal and output beside the frames recorded
unfoldable pub compared_of : ℕ → ℕ → List ℕ → List ℕ → Result (Unit {0}) Fault
compared_of refusal output out frames =
    choose (eqb refusal 0) (choose (leb output (length out)) (choose (same (take output out) frames) (Ok tt) (Err Parcels)) (Err Parcels)) (Err Parcels)

-- END as it is recorded
abbrev pub byte_of : Bool → ℕ
byte_of end = if end then 1 else 0

-- a recorded event turns memory m into m', or is a fault
abbrev pub Replays : Result (Unit {0}) Fault → Recorded → Memory → Memory → List ℕ → Type 0
Replays r e m m' frames = went_of r (view m') ≡ by_deed (deed (view m) e) frames

abbrev pub Judges : Result (Unit {0}) Fault → Memory → Memory → List ℕ → Type 0
Judges r m m' body = went_of r (view m') ≡ by_event deed (view m) (decode body)
