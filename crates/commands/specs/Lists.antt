-- A list of patterns, what is refused, and what it allows. The list is a text, one pattern a line. Assumes nothing.
use Rattle.std.specs.Prelude.{◌⊎◌, cond, List, [], ◌∷◌, ℕ, zero, suc, ◌≤◌, ◌<◌, eqb, length, Result, Ok, Err}
use Rattle.commands.specs.declared.ListFault.{ListFault}
use Rattle.commands.specs.declared.ListFault.TheVariants.{BadPattern, TooMany}
use Rattle.scpi.specs.Grammar.{GoodPattern, BadAt}
use Rattle.commands.specs.Spelling.{Matches}

-- a byte in front of the first line
abbrev pub more : ℕ → List (List ℕ) → List (List ℕ)
more b [] = (b ∷ []) ∷ []
more b (l ∷ ls) = (b ∷ l) ∷ ls

-- the lines of a text: each ends with a newline (10), a last one may lack it, and no bytes are no lines
unfoldable pub lines_of : List ℕ → List (List ℕ)
lines_of [] = []
lines_of (b ∷ s) = cond (eqb b 10) ([] ∷ lines_of s) (more b (lines_of s))

-- how many bytes stand before the first newline
unfoldable pub line_length : List ℕ → ℕ
line_length [] = 0
line_length (b ∷ s) = cond (eqb b 10) 0 (suc (line_length s))

-- "a list of up to 32 command patterns", each of them good
abbrev pub AllGood : List (List ℕ) → Type 0
AllGood [] = Unit {0}
AllGood (p ∷ ps) = GoodPattern p × AllGood ps

abbrev pub Listed : List (List ℕ) → Type 0
Listed ps = (length ps ≤ 32) × AllGood ps

-- "The first bad pattern": it is number k, from 0, and bad at place i
abbrev pub FirstBad : List (List ℕ) → ℕ → ℕ → Type 0
FirstBad [] k i = ⊥
FirstBad (p ∷ ps) zero i = BadAt p i
FirstBad (p ∷ ps) (suc k) i = GoodPattern p × FirstBad ps k i

-- what a list is answered: it is taken, or it has a fault
abbrev pub Judged : Type 0
Judged = Result (Unit {0}) ListFault

abbrev pub taken : Judged
taken = Ok tt

abbrev pub bad_pattern_at : ℕ → ℕ → Judged
bad_pattern_at k i = Err (BadPattern k i)

abbrev pub list_too_long : Judged
list_too_long = Err TooMany

-- "The first bad pattern is refused as 11 with the place ..; a list above 32 is refused as 12, before that."
abbrev pub Ruling : List (List ℕ) → Judged → Type 0
Ruling ps (Ok u) = Listed ps
Ruling ps (Err (BadPattern k i)) = (length ps ≤ 32) × FirstBad ps k i
Ruling ps (Err TooMany) = 32 < length ps

-- the numbers of the refusals
abbrev pub refusal : Judged → ℕ
refusal (Ok u) = 0
refusal (Err (BadPattern k i)) = 11
refusal (Err TooMany) = 12

-- a "payload, up to its first space, newline or end"
unfoldable pub command_of : List ℕ → List ℕ
command_of [] = []
command_of (b ∷ bs) = cond (eqb b 32) [] (cond (eqb b 10) [] (b ∷ command_of bs))

-- some pattern of the list matches the command; "An empty list allows nothing."
abbrev pub Allows : List (List ℕ) → List ℕ → Type 0
Allows [] c = ⊥
Allows (p ∷ ps) c = Matches p c ⊎ Allows ps c
