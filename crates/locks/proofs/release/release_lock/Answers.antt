-- `release::release_lock` meets its contract: 3, it acts at once and the pass follows, or it stands.
use mathlib.Core.Path.{refl, sym, ap, ◌∙◌}
use Prim.Native.Nat.{ℕ}
use native.Mathlib.Omega.{arith}
use lib.Dec.{eqb}
use Rattle.wire.specs.Frame.{frame_bytes}
use Rattle.wire.specs.Splice.{splice}
use Rattle.model.specs.State.{at}
use Rattle.locks.specs.Asking.{met_none}
use Rattle.holding.specs.Outcome.{lock_answer_frame, met_is, met_one}
use Rattle.locks.specs.Release.{release_invalid, release_now, release_stands, ruled_invalid, ruled_now, ruled_stands, standing_stored}
use Rattle.locks.specs.Settled.{met_pass}
use Rattle.holding.specs.Standing.{kind_of}
use Rattle.state.specs.View.{locks_of, memory, view}
use borrow.Author.Rules.{rules}
use Rattle.locks.proofs.release.release_lock.Goals as goal

pub returns-in_default : goal.returns-in_default
returns-in_default c = let a = c.args in
    let s = a.strings.now in
    let p = c.put_answer.ensures in
    met_one _ _ _ _ _ _ _ _ _ (release_invalid (locks_of a.w.now s) a.i a.n
    (c.freed_kind.ensures s a.n
    ∙ ruled_invalid c.freed_kind.result
    (eqb (at (locks_of a.w.now s).entries a.i).last a.n) c.in_default.is)) refl (p.1 s) p.0
    (search rules) (λ t. t)

pub grant_waiting-requires : goal.grant_waiting-requires
grant_waiting-requires c = omega (arith, c.put_answer-r.ensures.0)

pub returns-then-is_last : goal.returns-then-is_last
returns-then-is_last c = let a = c.args in
    let s = a.strings.now in
    let k = kind_of c.in-Some.kind in
    let p = c.put_answer-r.ensures in
    met_is _ _ _ _ _ _ _ _
    (sym (release_now (locks_of a.w.now s) a.i a.n k
    (c.freed_kind.ensures s a.n
    ∙ ruled_now c.freed_kind.result _ c.in-Some.kind c.in-Some.is
    (c.is_last.ensures s
    ∙ c.if-is_last.true))))
    (met_pass _ _ _ _ _ _ _ _ _ _ (omega (arith, p.0))
    (met_one _ _ _ _ _ _ _ _ _ refl c.free_lock.ensures.0
    (p.1 s ∙ ap (λ (x : ℕ). splice a.out.now a.at (frame_bytes (lock_answer_frame (locks_of a.w.now s).entries a.i x)))
    c.code.ensures) p.0 (search rules) c.free_lock.ensures.1)
    c.grant_waiting.ensures)

pub returns : goal.returns
returns c = let a = c.args in
    let s = a.strings.now in
    let k = kind_of c.in-Some.kind in
    met_none _ _ _ _ _ _
    (release_stands (locks_of a.w.now s) a.i a.n k
    (c.freed_kind.ensures s a.n
    ∙ ruled_stands c.freed_kind.result _ c.in-Some.kind c.in-Some.is
    (c.is_last.ensures s ∙ c.if-is_last.false)))
    (standing_stored (view (memory a.w.now s)) _ a.i c.standing_word-word.result k a.n c.standing_word-word.ensures.0 (c.set_order.ensures.0 s))
    (c.set_order.ensures.1 s c.standing_word-word.ensures.1)
