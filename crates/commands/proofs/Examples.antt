-- Laws of what specs/Examples.antt defines. Assumes nothing.
use Rattle.std.specs.Prelude.{◌≡◌, refl, [], ◌∷◌}
use Rattle.commands.specs.Lists.{lines_of}

pub two_lines : lines_of (65 ∷ 10 ∷ 66 ∷ []) ≡ (65 ∷ []) ∷ (66 ∷ []) ∷ []
unfolding lines_of
two_lines = refl
