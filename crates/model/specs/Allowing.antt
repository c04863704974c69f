-- Which payloads of a DataEND the server allows. `Admits` says it without a search, `admits` answers it, and they say the same.
-- Assumes nothing.
use Rattle.std.specs.Prelude.{◌≡◌, refl, ◌↔◌, Bool, true, false, List, ℕ, Ok, Err}
use Rattle.commands.specs.declared.ListFault.TheVariants.{BadPattern, TooMany}
use Rattle.commands.specs.Lists.{Judged, lines_of, command_of, Allows}
use Rattle.commands.specs.Deciding.{allows, allows_is}
use Rattle.model.specs.State.{Allowed, Allowed.any_command, Allowed.only}

-- no list set: anything; "With a list set", where its "payload, up to its first space, newline or end" matches some pattern
abbrev pub Admits : Allowed → List ℕ → Type 0
Admits any_command p = Unit {0}
Admits (only text) p = Allows (lines_of text) (command_of p)

abbrev pub admits : Allowed → List ℕ → Bool
admits any_command p = true
admits (only text) p = allows (lines_of text) (command_of p)

pub admits_is : (a : Allowed) (p : List ℕ) → (admits a p ≡ true) ↔ Admits a p
admits_is any_command p = (λ e. tt, λ u. refl)
admits_is (only text) p = allows_is (lines_of text) (command_of p)

-- the ruling on a list that the host sets: it has a bad pattern, it has too many
abbrev pub is_bad : Judged → Bool
is_bad (Ok u) = false
is_bad (Err (BadPattern k i)) = true
is_bad (Err TooMany) = false

abbrev pub is_too_many : Judged → Bool
is_too_many (Ok u) = false
is_too_many (Err (BadPattern k i)) = false
is_too_many (Err TooMany) = true
