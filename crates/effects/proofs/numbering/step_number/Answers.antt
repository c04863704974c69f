-- `numbering::step_number` meets its contract: the number behind the one that was read.
use mathlib.Core.Path.{ap, ◌∙◌}
use native.Mathlib.Omega.{arith}
use Rattle.wire.specs.MessageId.{next, next_fits}
use Rattle.state.specs.View.{memory, view}
use Rattle.effects.specs.Numbering.{number_stepped}
use Rattle.effects.proofs.numbering.step_number.Goals as goal

pub returns : goal.returns
returns c = let a = c.args in
    let x = c.exchange-expected in
    let m = c.new in
    let n = c.next-behind in (
      λ s. number_stepped (view (memory a.w.now s)) _ a.i x.result n.result.number x.ensures.0 (n.ensures ∙ ap next m.ensures) (c.set_exchange.ensures.0 s),
      λ s. c.set_exchange.ensures.1 s (omega (arith, n.ensures, next_fits m.result.number)),
    )
