-- `verifier::verdict` meets its contract. Assumes nothing.
use native.Mathlib.Omega.{arith}
use lib.ListN.{length-take}
use Rattle.verifier.specs.Standing.{ends_fault, ends_reading}
use Rattle.verifier.proofs.verdict.Goals as goal

pub returns-in-Some : goal.returns-in-Some
returns-in-Some c = let a = c.args in ends_fault a.r a.buf.now _ c.in-Some.is

pub returns : goal.returns
returns c = let a = c.args in ends_reading a.r a.buf.now _ c.in_default.is c.ending.ensures

pub slice_bounds-ending-end : goal.slice_bounds-ending-end
slice_bounds-ending-end c = simp length-take (omega (arith, c.requires c.in_default.is))
