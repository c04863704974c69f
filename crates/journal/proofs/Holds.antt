-- Laws of what specs/Holds.antt defines. Assumes nothing.
use Rattle.std.specs.Prelude.{◌≡◌, ℕ, List, [], take}
use Rattle.std.proofs.Math.Path.{sym, ap}
use Rattle.std.proofs.Common.{◌∙◌, append-nil}
use native.Mathlib.Omega.{arith}
use Rattle.journal.specs.Journal.{entries, forward}
use Rattle.journal.specs.Entry.{short}
use Rattle.journal.proofs.Forward.{forward_exact}
use Rattle.journal.specs.Writer.{place}
use Rattle.journal.specs.Holds.{Holds}

-- what the forward reader finds in the bytes of an open journal
pub read_open : (bs : List (List ℕ)) (words book : List ℕ) → Holds bs words book → forward (take (place words) book) ≡ bs
read_open bs words book o =
    ap (λ (w : List ℕ). forward (take (place w) book)) o.says
    ∙ ap forward (o.begins ∙ sym (append-nil (entries bs)))
    ∙ forward_exact bs [] o.fine (short [] (omega arith))
