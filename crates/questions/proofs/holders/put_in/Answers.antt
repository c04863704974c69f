-- `holders::put_in` meets its contract. The invariant: the first i rows, and what is carried put into the others, are the whole.
use mathlib.Core.Path.{◌≡◌, ◌∙◌}
use Prim.Native.Nat.{ℕ, ◌<◌}
use native.Mathlib.Nat.{sub-zero}
use native.Mathlib.Omega.{arith}
use lib.ListN.{length, length-set}
use Rattle.questions.specs.Holders.{put_stays, put_swaps, put_last}
use Rattle.questions.proofs.holders.put_in.Goals as goal
use Rattle.questions.proofs.holders.put_in.Goals.{then-carried-x, else-carried-x}

pub loop-i-init : goal.loop-i-init
loop-i-init c = (omega arith, rw sub-zero)

pub offset_bounds-out-i : goal.offset_bounds-out-i
offset_bounds-out-i c = omega arith

pub bounds-out-i : goal.bounds-out-i
bounds-out-i c = omega arith

pub offset_bounds-out-i-then-carried-x : goal.offset_bounds-out-i-then-carried-x
offset_bounds-out-i-then-carried-x c = omega arith

pub bounds-out-i-then-carried-x : goal.bounds-out-i-then-carried-x
bounds-out-i-then-carried-x c = omega arith

pub loop-i-preserved : goal.loop-i-preserved
loop-i-preserved c = let n : ℕ = c.args.n in
    let h : c.loop-i.i < length c.loop-i.out = omega arith in
    elim c.if-carried-x.branch [
      | then-carried-x y ↦ (rw y.out-is (simp length-set c.loop-i.invariant.0), rw (y.out-is, y.carried-is) (put_swaps n c.loop-i.i c.loop-i.out c.loop-i.carried _ (omega arith) h y.if-carried-x.true ∙ c.loop-i.invariant.1))
      | else-carried-x y ↦ (rw y.out-is c.loop-i.invariant.0, rw (y.out-is, y.carried-is) (put_stays n c.loop-i.i c.loop-i.out c.loop-i.carried _ (omega arith) h y.if-carried-x.false ∙ c.loop-i.invariant.1))
    ]

pub offset_bounds-out-n : goal.offset_bounds-out-n
offset_bounds-out-n c = omega arith

pub bounds-out-n : goal.bounds-out-n
bounds-out-n c = omega arith

pub returns : goal.returns
returns c = let l = c.loop-i in
    let n : ℕ = c.args.n in
    let e : l.i ≡ n = omega arith in
    let h : n < length l.out = omega arith in
    put_last n l.i l.out l.carried e h ∙ l.invariant.1
