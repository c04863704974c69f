-- `replay::events::compared` meets its contract.
use mathlib.Core.Path.{◌∙◌}
use native.Mathlib.Omega.{arith}
use lib.ListN.{take, length-take}
use Rattle.replay.proofs.Laws.{not_taken, too_much, alike, unlike, compares}
use Rattle.replay.proofs.events.compared.Goals as goal

pub returns-then-refusal-ne0 : goal.returns-then-refusal-ne0
returns-then-refusal-ne0 c = not_taken _ _ _ _ c.if-refusal-ne0.true

pub returns-then-output-out : goal.returns-then-output-out
returns-then-output-out c = too_much _ _ _ _ c.if-refusal-ne0.false c.if-output-out.true

pub slice_bounds-eq-end : goal.slice_bounds-eq-end
slice_bounds-eq-end c = simp length-take (omega arith)

pub returns-then-eq : goal.returns-then-eq
returns-then-eq c = alike _ _ _ _ c.if-refusal-ne0.false c.if-output-out.false _ (c.eq.ensures ∙ compares (take c.args.output c.args.out.now) c.args.frames.now) c.if-eq.true

pub returns : goal.returns
returns c = unlike _ _ _ _ c.if-refusal-ne0.false c.if-output-out.false _ (c.eq.ensures ∙ compares (take c.args.output c.args.out.now) c.args.frames.now) c.if-eq.false
