-- Laws of what specs/Examples.antt defines. Assumes nothing.
use Rattle.std.specs.Prelude.{refl, [], ◌∷◌}
use Rattle.std.proofs.Common.{lit≤}
use Rattle.scpi.specs.Grammar.{good, bad}
use Rattle.scpi.specs.Automaton.{kind_of, scan}
use Rattle.scpi.specs.Verdicts.{Exactly}
use Rattle.scpi.proofs.Verdicts.{check_short}
use Rattle.scpi.specs.Examples.{measure}

pub measure_good : Exactly measure good
unfolding scan kind_of
measure_good = check_short measure (lit≤ tt) good refl

-- nothing at all stops short
pub empty_bad : Exactly [] (bad 0)
unfolding scan kind_of
empty_bad = check_short [] (lit≤ tt) (bad 0) refl

-- *WAIt: behind a star there are no small letters
pub wait_bad : Exactly (42 ∷ 87 ∷ 65 ∷ 73 ∷ 116 ∷ []) (bad 4)
unfolding scan kind_of
wait_bad = check_short (42 ∷ 87 ∷ 65 ∷ 73 ∷ 116 ∷ []) (lit≤ tt) (bad 4) refl

-- A[]: a bracket is not empty
pub hollow_bad : Exactly (65 ∷ 91 ∷ 93 ∷ []) (bad 2)
unfolding scan kind_of
hollow_bad = check_short (65 ∷ 91 ∷ 93 ∷ []) (lit≤ tt) (bad 2) refl

-- A[:B stops short
pub open_bad : Exactly (65 ∷ 91 ∷ 58 ∷ 66 ∷ []) (bad 4)
unfolding scan kind_of
open_bad = check_short (65 ∷ 91 ∷ 58 ∷ 66 ∷ []) (lit≤ tt) (bad 4) refl

-- A[:B?]: "?" stands outside the brackets
pub asked_inside_bad : Exactly (65 ∷ 91 ∷ 58 ∷ 66 ∷ 63 ∷ 93 ∷ []) (bad 4)
unfolding scan kind_of
asked_inside_bad = check_short (65 ∷ 91 ∷ 58 ∷ 66 ∷ 63 ∷ 93 ∷ []) (lit≤ tt) (bad 4) refl

-- the ninth bracket
pub ninth_bad : Exactly (65 ∷ 91 ∷ 91 ∷ 91 ∷ 91 ∷ 91 ∷ 91 ∷ 91 ∷ 91 ∷ 91 ∷ []) (bad 9)
unfolding scan kind_of
ninth_bad = check_short (65 ∷ 91 ∷ 91 ∷ 91 ∷ 91 ∷ 91 ∷ 91 ∷ 91 ∷ 91 ∷ 91 ∷ []) (lit≤ tt) (bad 9) refl
