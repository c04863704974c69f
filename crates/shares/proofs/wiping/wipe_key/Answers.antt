-- `wiping::wipe_key` meets its contract: where nobody shares, the string is not seen.
use native.Mathlib.Omega.{arith}
use Rattle.queue.specs.Wiping.{key_wiped}
use borrow.Author.Rules.{rules}
use Rattle.shares.proofs.wiping.wipe_key.Goals as goal

pub returns : goal.returns
returns c = let a = c.args in
    let k = c.least-n.ensures in
    let x = c.wipe.ensures in
    (key_wiped a.w.now a.strings.now _ _ c.told-strings (omega (arith, k.0)) x c.requires, search rules, rw k.0 at x)
