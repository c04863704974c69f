-- `replay::events::answers` meets its contract.
use mathlib.Core.Path.{◌≡◌, subst}
use Prim.Native.Nat.{ℕ}
use Rattle.record.specs.Layout.{answer}
use Rattle.state.specs.View.{memory}
use Rattle.replay.specs.Replays.{byte_of, Replays}
use Rattle.replay.proofs.Laws.{answered_so, byte_is}
use Rattle.replay.proofs.events.answers.Goals as goal

pub returns : goal.returns
returns c =
    let a = c.args in
    let e : c.from.result ≡ byte_of a.end = byte_is _ _ c.from.ensures in
    subst (λ (k : ℕ). Replays c.compared.result (answer a.session k a.payload.now a.shown.now) (memory a.words.now a.strings.now)
    (memory c.hislip_answer-a.new.words c.hislip_answer-a.new.strings) a.frames.now) e
    (answered_so (memory a.words.now a.strings.now) _ a.frames.now a.out.now _
    c.requires
    c.hislip_answer-a.auto.out a.session c.from.result a.payload.now a.shown.now _ _
    c.hislip_answer-a.ensures c.compared.ensures)
