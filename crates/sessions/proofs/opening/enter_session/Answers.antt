-- `opening::enter_session` meets its contract: the slot, the exchange, the number.
use native.Mathlib.Omega.{arith}
use lib.Dec.{eqb, lit<}
use Rattle.sessions.specs.Mode.{preference_read}
use Rattle.sessions.specs.Opening.{session_entered}
use Rattle.state.specs.View.{memory, view}
use borrow.Author.Rules.{rules}
use Rattle.sessions.proofs.opening.enter_session.Goals as goal

pub enter_slot-requires : goal.enter_slot-requires
enter_slot-requires c = let p = c.requires in (search rules, p.2, search rules, p.4, p.5)

pub returns : goal.returns
returns c = let a = c.args in
    let x = c.single-mode in
    let e = c.enter_slot.ensures in
    let y = c.renew_exchange.ensures in
    let z = c.set_single.ensures in (
      session_entered (view (memory a.w.now a.strings.now)) _ _ _ _ a.i a.n (eqb x.result 1) (search rules) e.locks e.rest
          (preference_read _ x.result x.ensures.0) (y.0 _) (z.0 _),
      λ t. z.1 _ (search rules) (y.1 _ (omega (arith, x.ensures.1, (e.tidy t).values 1 (lit< tt))) (e.tidy t)),
    )
