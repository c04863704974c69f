-- `synchronous::note_asked` meets its contract: the number asked, then RMT-delivered.
use native.Mathlib.Omega.{arith}
use Prim.Native.Nat.{◌^◌, ◌<◌}
use Rattle.sessions.specs.Synchronous.{asked_told}
use borrow.Author.Rules.{rules}
use Rattle.effects.proofs.synchronous.note_asked.Goals as goal

pub returns : goal.returns
returns c = let a = c.args in (
  λ s. asked_told _ _ _ a.i a.code a.id.number (search rules) (c.set_exchange.ensures.0 s) (c.note_rmt.ensures.0 s),
  λ s t. c.note_rmt.ensures.1 s (c.set_exchange.ensures.1 s (let h : a.id.number < 2 ^ 32 = search rules in omega arith) t),
)
