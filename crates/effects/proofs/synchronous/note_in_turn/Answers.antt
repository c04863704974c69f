-- `synchronous::note_in_turn` meets its contract: the expectation, what the command notes, then the number expected.
use native.Mathlib.Omega.{arith}
use Rattle.model.specs.Exchange.{stepped, tested}
use Rattle.exchanges.specs.Interrupted.{tested_in_turn}
use Rattle.effects.specs.Interrupted.{noted_then}
use Rattle.sessions.specs.Synchronous.{command_notes}
use Rattle.state.specs.View.{memory, view}
use Rattle.effects.proofs.synchronous.note_in_turn.Goals as goal

pub returns : goal.returns
returns c = let a = c.args in (
  λ s out. let d = view (memory a.w.now s) in
      noted_then d _ _ a.i (λ x. command_notes a.kind a.code a.param (tested a.code x)) stepped _ out out 0
      (noted_then d _ _ a.i (tested a.code) (command_notes a.kind a.code a.param) _ out out 0
      (tested_in_turn d a.i a.param a.code _ out c.requires.1 (c.set_exchange.ensures.0 s)) (c.note_command.ensures.0 s))
      (c.step_number.ensures.0 s),
  λ s t. c.step_number.ensures.1 s (c.note_command.ensures.1 s (c.set_exchange.ensures.1 s (omega arith) t)),
)
