-- Laws of what specs/Written.antt defines. Assumes nothing.
use Rattle.std.specs.Prelude.{◌≡◌, ℕ, ◌+◌, ◌-◌, ◌≤◌, List, [], ◌++◌, length, take, drop}
use Rattle.std.proofs.Common.{ap, ap₂, ◌∙◌, arith, length-append}
use Rattle.wire.specs.Field.{field, length_field}
use Rattle.wire.specs.Splice.{splice}
use Rattle.crc.specs.Crc.{crc_of}
use Rattle.journal.specs.Journal.{headed, entry}
use Rattle.journal.specs.Entry.{headed_length}
use Rattle.journal.specs.Written.{next, headed_back}

pub entry_written : (l : List ℕ) (at : ℕ) (b : List ℕ) (n s : ℕ) → n ≡ length b → s ≡ crc_of (take (at + (n + 4) - at) (drop at (splice l at (headed b)))) → at + 12 + n ≤ length l
    → splice (splice (splice l at (headed b)) (at + (n + 4)) (field 4 (n + 4))) (at + (n + 8)) (field 4 s) ≡ splice l at (entry b)
unfolding entry
entry_written l at b n s e p h =
    let x : length (headed b) ≡ length b + 4 = headed_length b [] in
    let y : length (headed b ++ field 4 (length b + 4)) ≡ length b + 8 = simp (length-append, length_field) (omega arith) in
    let q : s ≡ crc_of (headed b) = p ∙ ap crc_of (headed_back l at (headed b) (at + (n + 4)) (omega arith) (omega arith)) in
    ap₂ (λ (k m : ℕ). splice (splice (splice l at (headed b)) (at + (k + 4)) (field 4 (k + 4))) (at + (k + 8)) (field 4 m)) e q
    ∙ ap (λ (z : List ℕ). splice z (at + (length b + 8)) (field 4 (crc_of (headed b))))
    (next l at (headed b) (at + (length b + 4)) (field 4 (length b + 4)) (omega arith) (omega arith))
    ∙ next l at (headed b ++ field 4 (length b + 4)) (at + (length b + 8)) (field 4 (crc_of (headed b))) (omega arith) (omega arith)
