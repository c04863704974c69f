-- `synchronous::note_out_of_turn` meets its contract: the interruption, what the command notes, then the number expected.
use Rattle.model.specs.Exchange.{stepped, tested}
use Rattle.exchanges.specs.Interrupted.{tested_out_of_turn}
use Rattle.effects.specs.Interrupted.{noted_then}
use Rattle.sessions.specs.Synchronous.{command_notes}
use Rattle.state.specs.View.{memory, view}
use Rattle.effects.proofs.synchronous.note_out_of_turn.Goals as goal

pub returns : goal.returns
returns c = let a = c.args in
    let x = c.out_of_turn-end in (
      x.ensures.0,
      λ s. let d = view (memory a.w.now s) in
          noted_then d _ _ a.i (λ x. command_notes a.kind a.code a.param (tested a.code x)) stepped _ _ _ _
          (noted_then d _ _ a.i (tested a.code) (command_notes a.kind a.code a.param) _ _ _ _
          (tested_out_of_turn d a.i a.param a.code _ _ _ _ c.requires.2 (x.ensures.1 s)) (c.note_command.ensures.0 s))
          (c.step_number.ensures.0 s),
      λ s t. c.step_number.ensures.1 s (c.note_command.ensures.1 s (x.ensures.2 s t)),
    )
