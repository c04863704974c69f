-- `asynchronous::clear` meets its contract: the answers, the stores, the frame behind them; where a release stood, the grant pass.
use mathlib.Core.Path.{◌∙◌}
use native.Mathlib.Omega.{arith}
use Rattle.effects.specs.LockMessages.{clear_granted, clear_told}
use Rattle.effects.proofs.asynchronous.clear.Goals as goal

pub put_frame-requires : goal.put_frame-requires
put_frame-requires c = omega (arith, c.at_clear-at.ensures.0)

pub overflow_add-end : goal.overflow_add-end
overflow_add-end c = omega (arith, c.at_clear-at.ensures.0)

pub grant_waiting-last-requires : goal.grant_waiting-last-requires
grant_waiting-last-requires c = omega (arith, c.at_clear-at.ensures.0)

pub returns-then-stood : goal.returns-then-stood
returns-then-stood c = let a = c.args in
    let s = a.strings.now in
    λ p code param. clear_granted a.w.now s _ _ _ a.out.now _ _ a.i a.c
    c.entry-n.result
    c.at_clear-at.result
    c.preference-mode.result a.len
    (c.entry-n.ensures.0 s)
    (omega (
      arith,
      c.at_clear-at.ensures.0,
      c.requires.3,
    )) _
    c.at_clear-at.ensures.1
    (c.enter_clear.ensures.0 _)
    c.preference-mode.ensures
    c.put_frame.ensures
    (c.enter_clear.ensures.1 _) _ _ _
    c.grant_waiting-last.result code param p c.acted.ensures
    (c.stands-stood.ensures s ∙ c.if-stood.true)
    c.grant_waiting-last.ensures

pub returns : goal.returns
returns c = let a = c.args in
    let s = a.strings.now in
    λ p code param. clear_told a.w.now s _ _ _ a.out.now _ _ a.i a.c
    c.entry-n.result c.at_clear-at.result
    c.preference-mode.result a.len (c.entry-n.ensures.0 s)
    (omega (
      arith,
      c.at_clear-at.ensures.0,
      c.requires.3,
    )) _
    c.at_clear-at.ensures.1
    (c.enter_clear.ensures.0 _)
    c.preference-mode.ensures c.put_frame.ensures (c.enter_clear.ensures.1 _) code
    param p c.acted-2.ensures
    (c.stands-stood.ensures s
    ∙ c.if-stood.false)
