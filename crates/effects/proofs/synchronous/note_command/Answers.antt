-- `synchronous::note_command` meets its contract: by the kind.
use mathlib.Core.Path.{ap, ◌∙◌}
use Prim.Native.Nat.{ℕ}
use Rattle.model.specs.Exchange.{ask}
use Rattle.sessions.specs.Synchronous.{notes_ask, notes_data, with_slot}
use Rattle.state.specs.Change.{on_rest}
use Rattle.state.specs.View.{memory, view}
use Rattle.effects.proofs.synchronous.note_command.Goals as goal

pub returns-then-kind-eq-DATA : goal.returns-then-kind-eq-DATA
returns-then-kind-eq-DATA c = let a = c.args in (
  λ s. c.note_rmt.ensures.0 s ∙ notes_data (view (memory a.w.now s)) a.i a.kind a.code a.param c.if-kind-eq-DATA.true,
  c.note_rmt.ensures.1,
)

pub returns : goal.returns
returns c = let a = c.args in (
  λ s. c.note_asked.ensures.0 s
      ∙ ap (λ (n : ℕ). on_rest (view (memory a.w.now s)) (with_slot a.i (ask a.code n))) c.new.ensures
      ∙ notes_ask (view (memory a.w.now s)) a.i a.kind a.code a.param c.if-kind-eq-DATA.false,
  c.note_asked.ensures.1,
)
