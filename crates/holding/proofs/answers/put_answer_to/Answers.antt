-- `answers::put_answer_to` meets its contract: connection c is the slot's.
use mathlib.Core.Path.{refl, sym, ap, ◌∙◌}
use mathlib.Core.List.{[]}
use Prim.Native.Nat.{ℕ}
use Rattle.wire.specs.Frame.{frame_bytes, frame_of}
use Rattle.wire.specs.Splice.{splice}
use Rattle.holding.proofs.answers.put_answer_to.Goals as goal

pub returns : goal.returns
returns c = let a = c.args in
    (refl, λ s. c.put_frame.ensures ∙ ap (λ (x : ℕ). splice a.out.now a.at (frame_bytes (frame_of x 5 a.code 0 []))) (sym (c.requires.1 s)))
