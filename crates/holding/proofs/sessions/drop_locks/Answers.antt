-- `sessions::drop_locks` meets its contract.
use native.Mathlib.Omega.{arith}
use lib.Dec.{lit<}
use Rattle.holding.specs.Sessions.{unlocked}
use Rattle.holding.proofs.sessions.drop_locks.Goals as goal

pub returns : goal.returns
returns c = let a = c.args in
    let s = a.strings.now in
    let o₁ = c.set_order.ensures in
    let o₂ = c.set_order-2.ensures in
    let o₃ = c.set_order-3.ensures in
    let o₄ = c.set_order-4.ensures in
    let x = c.drop_exclusive.ensures in
    let y = c.leave_sharers.ensures in (
      unlocked a.i _ _ _ _ _ _ _ (o₁.0 s) (o₂.0 s) (o₃.0 s) (o₄.0 s) (x.0 s) y.0,
      λ t. y.1
          (x.1 s (o₄.1 s (omega arith) (o₃.1 s (lit< tt) (o₂.1 s (omega arith) (o₁.1 s (omega arith) t))))),
    )
