-- "The first bad pattern is refused as 11 with the place of the first byte that no pattern could have there": which one and where.
-- Nothing that is kept depends on it: it is read off the call beside the reply. Assumes nothing.
use Rattle.std.specs.Prelude.{◌≡◌, List, [], ℕ, ◌≤◌, ◌<◌, length, Ok, Err}
use Rattle.commands.specs.declared.ListFault.TheVariants.{BadPattern, TooMany}
use Rattle.commands.specs.Lists.{Judged, lines_of, Listed, FirstBad}
use Rattle.commands.specs.Rulings.{judged}
use Rattle.model.specs.State.{Server, Allowed.only, with_allowed}
use Rattle.model.specs.Interface.{Event.setting, Setting.patterns, Reply, Reply.refused, Reply.done, Reply.withheld, Reply.took, bad_pattern, too_many_patterns}
use Rattle.model.specs.Step.{Result, step}

-- the first bad pattern, from 0, and the place in it
abbrev pub pattern_of : Judged → ℕ
pattern_of (Ok u) = 0
pattern_of (Err (BadPattern k i)) = k
pattern_of (Err TooMany) = 0

abbrev pub place_of : Judged → ℕ
place_of (Ok u) = 0
place_of (Err (BadPattern k i)) = i
place_of (Err TooMany) = 0

-- what hislip_patterns returns: where nothing is refused each number is 0
pub record ListedAnswer : Type 0 where
  pub refusal : ℕ
  pub pattern : ℕ
  pub place : ℕ

abbrev pub listed_answer : Reply → Judged → ListedAnswer
listed_answer (refused n) j = record { refusal = n; pattern = pattern_of j; place = place_of j }
listed_answer done j = record { refusal = 0; pattern = 0; place = 0 }
listed_answer withheld j = record { refusal = 0; pattern = 0; place = 0 }
listed_answer (took o k n) j = record { refusal = 0; pattern = 0; place = 0 }

-- a list that is refused changes nothing
abbrev pub turned_away : Server → ℕ → Result
turned_away d n = record { server = d; reply = refused n; frames = [] }

-- on any server, of any text
pub record TellsBad (d : Server) (text : List ℕ) : Type 0 where
  -- "a list of up to 32 command patterns", each of them good: it is kept as it was given, and nothing else changes
  pub taken : Listed (lines_of text) → step d (setting (patterns text)) ≡ record { server = record { locks = d.locks; rest = with_allowed d.rest (only text) }; reply = done; frames = [] }
  -- "a list above 32 is refused as 12, before that"
  pub too_many : 32 < length (lines_of text) → step d (setting (patterns text)) ≡ turned_away d too_many_patterns
  -- "The first bad pattern is refused as 11 with the place": of the two numbers that the answer has
  pub bad : (k i : ℕ) → length (lines_of text) ≤ 32 → FirstBad (lines_of text) k i
      → (step d (setting (patterns text)) ≡ turned_away d bad_pattern) × (pattern_of (judged (lines_of text)) ≡ k) × (place_of (judged (lines_of text)) ≡ i)
  -- and for no other cause
  pub done_only : (step d (setting (patterns text))).reply ≡ done → Listed (lines_of text)
  pub too_many_only : (step d (setting (patterns text))).reply ≡ refused too_many_patterns → 32 < length (lines_of text)
  pub bad_only : (step d (setting (patterns text))).reply ≡ refused bad_pattern
      → (length (lines_of text) ≤ 32) × FirstBad (lines_of text) (pattern_of (judged (lines_of text))) (place_of (judged (lines_of text)))
