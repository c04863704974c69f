-- `quick::release_quickly` meets its contract: it ends at once and nobody waits, or it is a release in full.
use mathlib.Core.Path.{refl, sym, ap, ◌∙◌}
use native.Mathlib.Omega.{arith}
use lib.ListN.{length}
use Rattle.model.specs.State.{Server}
use Prim.Native.Nat.{ℕ}
use Rattle.wire.specs.Frame.{frame_bytes}
use Rattle.wire.specs.Splice.{splice}
use Rattle.holding.specs.Outcome.{lock_answer_frame, met_is, met_one}
use Rattle.grants.specs.Pass.{pass_met, pass_none}
use Rattle.locks.specs.Quick.{ended_release}
use Rattle.locks.specs.Settled.{met_pass}
use Rattle.state.specs.View.{locks_of}
use borrow.Author.Rules.{rules}
use Rattle.locks.proofs.quick.release_quickly.Goals as goal

pub put_answer_to-r-requires : goal.put_answer_to-r-requires
put_answer_to-r-requires c = (search rules, c.requires.2)

pub returns-then-ends_at_once : goal.returns-then-ends_at_once
returns-then-ends_at_once c = let a = c.args in
    let s = a.strings.now in
    let p = c.put_answer_to-r.ensures in
    let g = c.drop_exclusive.ensures in
    let f = c.ends_at_once.ensures c.if-ends_at_once.true s in
    met_is _ _ _ _ _ _ _ _
    (sym (ended_release (locks_of a.w.now s) a.i a.n f))
    (met_pass _ _ _ _ _ _ _ _ _ _ (omega (arith, p.0))
    (met_one _ _ _ _ _ _ _ _ _ refl (g.0 s)
    (p.1 s ∙ ap (λ (x : ℕ). splice a.out.now a.at (frame_bytes (lock_answer_frame (locks_of a.w.now s).entries a.i x))) c.code.ensures) p.0 (search rules) (g.1 s))
    (pass_met _ _ _ _ _ _ (pass_none _ _ _ (ap (λ (d : Server). length d.locks.waiting) (g.0 s) ∙ f.waiting)) (λ t. t)))
