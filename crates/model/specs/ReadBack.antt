-- The host can read back what it saw: the output of each call, read as a row of frames, is the frames of that call; and the lock answers
-- in those bytes are just the lock model's.
use Rattle.std.specs.Prelude.{◌≡◌, List, [], ◌∷◌, ◌++◌, map, ◌^◌, ◌<◌}
use Rattle.wire.specs.Frame.{Frame}
use Rattle.wire.specs.ReadFrames.{read_frames}
use Rattle.model.specs.Lists.{keep}
use Rattle.model.specs.State.{Server, fresh, Making}
use Rattle.model.specs.Step.{Line, log}
use Rattle.model.specs.Agreement.{is_lock, told_frame}
use Rattle.model.specs.Demand3.{Seen, seen_events, Calls, model_of}
use Rattle.model.specs.Possible.{AllPossible}

abbrev pub frames_seen : Seen → List Frame
frames_seen s = read_frames s.output

-- the type 5 messages in the bytes that the host saw, in order
abbrev pub lock_seen : List Seen → List Frame
lock_seen [] = []
lock_seen (s ∷ ss) = keep is_lock (frames_seen s) ++ lock_seen ss

pub record ReadBack (v : Making) (ss : List Seen) : Type 0 where
  pub frames : map frames_seen ss ≡ map (λ (l : Line). l.frames) (log (fresh v) (seen_events ss))
  -- 00: "every lock answer sent are exactly as document 01's ledger has them"
  pub lock_answers : map told_frame (model_of ss).told ≡ lock_seen ss

-- of any list of possible calls from a fresh server, however its memory is laid out
pub record ReadsBack {M : Type 0} (view : M → Server) : Type 0 where
  pub any_calls : (v : Making) (m : M) {m' : M} {ss : List Seen} → v.vendor < 2 ^ 16 → view m ≡ fresh v → Calls view m ss m' → AllPossible (seen_events ss) → ReadBack v ss
