-- Corners of 02, Q-12: which lists are refused and how, what a list asks of which message, and that a list which is refused leaves the one
-- before. Each row is some calls from the fresh server, then one call with its reply and its whole output. Assumes nothing.
use mathlib.Core.Path.{◌≡◌, refl}
use mathlib.Core.List.{List, [], ◌∷◌, ◌++◌, map}
use Prim.Native.Nat.{ℕ}
use lib.ListN.{replicate}
use Rattle.wire.specs.Field.{field}
use Rattle.wire.specs.Message.{header, encode, header_bytes}
use Rattle.wire.specs.Frame.{frame_bytes, bytes_of}
use Rattle.wire.specs.Class.{class_of}
use Rattle.commands.specs.declared.ListFault.TheVariants.{BadPattern, TooMany}
use Rattle.std.specs.Prelude.{Ok, Err}
use Rattle.commands.specs.Lists.{Judged, lines_of, command_of}
use Rattle.commands.specs.Lists as Lists
use Rattle.commands.specs.Rulings.{judged, judged_from}
use Rattle.model.specs.State.{Server}
use Rattle.model.specs.Interface.{Event, Event.setting, Setting.patterns, Outcome.error_sent, Outcome.acted, Reply.refused, Reply.took, bad_pattern, too_many_patterns}
use Rattle.model.specs.Allowing.{is_bad, is_too_many}
use Rattle.model.specs.Scan.{fresh_scan, scan}
use Rattle.model.specs.Place.{place_of}
use Rattle.model.specs.Locks.{access, change}
use Rattle.model.specs.Checks.{verdict}
use Rattle.model.specs.Acts.{acts, synchronous_exchange, synchronous_said}
use Rattle.model.specs.Sensing.{setting_sensings}
use Rattle.model.specs.Refusals.{first_cause, refusal, causes}
use Rattle.model.specs.Step.{final, step, answered, plan, finish, received, effect}
use Rattle.model.proofs.Table.{Corner, corner, found, sought, message, send, eight_zeros, single}

-- a list without a pattern, and one of 33 empty ones, each of them bad
abbrev no_pattern : Event
no_pattern = setting (patterns [])

abbrev too_many : Event
too_many = setting (patterns (replicate 33 10))

-- a message of session 1 with payload "A" and the number expected; its Error
abbrev command : ℕ → ℕ → Event
command t k = send 0 (message t k 0xffffff00 (0x41 ∷ []))

abbrev error_frame : ℕ → List ℕ
error_frame n = 0 ∷ 0x48 ∷ 0x53 ∷ 3 ∷ n ∷ 0 ∷ 0 ∷ 0 ∷ 0 ∷ eight_zeros

-- what a list asks
pub asks : List Corner
asks =
    -- "An empty list allows nothing."; "a DataEND": of Data nothing is matched; "after the code check"
    corner (single ++ (no_pattern ∷ [])) (command 7 0) (took error_sent 17 0) (error_frame 128)
    ∷ corner (single ++ (no_pattern ∷ [])) (command 6 0) (took acted 17 1) []
    ∷ corner (single ++ (no_pattern ∷ [])) (command 7 2) (took error_sent 17 0) (error_frame 2)
    ∷ []

pub asks_hold : map found asks ≡ map sought asks
unfolding asks final step refusal causes answered plan finish received effect verdict place_of acts synchronous_exchange synchronous_said setting_sensings lines_of
    command_of judged judged_from scan fresh_scan header field encode header_bytes frame_bytes bytes_of class_of access change
asks_hold = refl

-- what is refused
pub refuses : List Corner
refuses =
    -- "a list above 32 is refused as 12, before that"; it leaves the one before, or none
    corner [] too_many (refused 12) []
    ∷ corner (single ++ (no_pattern ∷ too_many ∷ [])) (command 7 0) (took error_sent 17 0) (error_frame 128)
    ∷ corner (single ++ (too_many ∷ [])) (command 7 0) (took acted 17 1) []
    ∷ []

pub refuses_hold : map found refuses ≡ map sought refuses
unfolding refuses final step refusal causes answered plan finish received effect verdict place_of acts synchronous_exchange synchronous_said setting_sensings
    lines_of command_of judged judged_from scan fresh_scan header field encode header_bytes frame_bytes bytes_of class_of access change
refuses_hold = refl

-- "The first bad pattern is refused as 11 ..; a list above 32 is refused as 12": on every server each text by its ruling, 0, 11 or 12
pub by_ruling : (d : Server) (text : List ℕ) → refusal d (setting (patterns text)) ≡ Lists.refusal (judged (lines_of text))
unfolding refusal causes
by_ruling d text = go (judged (lines_of text))
  where
    go : (j : Judged) → first_cause (record { test = is_too_many j; number = too_many_patterns } ∷ record { test = is_bad j; number = bad_pattern } ∷ []) ≡ Lists.refusal j
    go (Ok u) = refl
    go (Err (BadPattern k i)) = refl
    go (Err TooMany) = refl
