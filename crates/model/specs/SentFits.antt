-- Every frame that is sent fits its places in the output: the connection is one byte, and so are type and code; the parameter is four
-- bytes, the payload is bytes and its length fits eight.
use Rattle.std.specs.Prelude.{List, [], ◌∷◌, ◌^◌, ◌<◌}
use Rattle.wire.specs.ReadFrames.{AllFit}
use Rattle.model.specs.State.{fresh, Making}
use Rattle.model.specs.Interface.{Event}
use Rattle.model.specs.Step.{Line, log}
use Rattle.model.specs.Possible.{AllPossible}

abbrev pub LinesFit : List Line → Type 0
LinesFit [] = Unit {0}
LinesFit (l ∷ ls) = AllFit l.frames × LinesFit ls

-- the vendor number has two letters
pub record SentFits : Type 0 where
  pub any_run : (v : Making) (es : List Event) → v.vendor < 2 ^ 16 → AllPossible es → LinesFit (log (fresh v) es)
