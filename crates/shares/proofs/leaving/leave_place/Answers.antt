-- `leaving::leave_place` meets its contract: a slot that waits still keeps its request; of another it is wiped.
use Rattle.bits.specs.Bits.{bit}
use Rattle.queue.specs.Leaving.{kept_left, wiped_left}
use Rattle.queue.specs.Requests.{slot_small}
use Rattle.state.specs.View.{slot_at}
use Rattle.std.proofs.Common.{true≢false, eqb-true, eq-eqb, sym, ◌∙◌, arith}
use Rattle.std.specs.Prelude.{◌≡◌, ℕ, eqb, false}
use Rattle.shares.proofs.leaving.leave_place.Goals as goal
use Rattle.shares.proofs.leaving.leave_place.Goals.{then-not-is_in, else-not-is_in}

unset : (m i : ℕ) → eqb (bit m i) 1 ≡ false → bit m i ≡ 0
unset m i e = let o : bit m i ≡ 1 → ⊥ = λ q. true≢false (sym (eq-eqb (bit m i) 1 q) ∙ e) in omega arith

pub returns : goal.returns
unfolding slot_at
returns c = let a = c.args in
    let p = c.requires in
    let x = slot_at a.w.now a.p in
    let m = p.2 x (slot_small a.w.now a.p) in
    elim c.if-not-is_in.branch [
      | then-not-is_in b ↦
          let e : bit a.stay x ≡ 0 = unset a.stay x (c.is_in.ensures ∙ b.if-not-is_in.true) in
          let y = b.wipe_request.ensures in
          rw (b.w-is, b.strings-is, y.0) (wiped_left a.w.now a.strings.now a.p p.0 c.told-w c.told-strings p.1 _ (m.1 e) y.1)
      | else-not-is_in b ↦
          rw (b.w-is, b.strings-is) (kept_left a.w.now a.strings.now a.p p.0 c.told-w c.told-strings p.1 (m.0 (eqb-true _ _ (c.is_in.ensures ∙ b.if-not-is_in.false))))
    ]
