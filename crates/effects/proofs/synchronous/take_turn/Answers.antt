-- `synchronous::take_turn` meets its contract: by whether the command is in turn.
use mathlib.Core.Path.{ap, ◌∙◌}
use mathlib.Core.Bool.{not}
use borrow.Author.Rules.{rules}
use Rattle.effects.proofs.synchronous.take_turn.Goals as goal

pub note_in_turn-requires : goal.note_in_turn-requires
note_in_turn-requires c = (search rules, c.in_turn.ensures ∙ ap not c.if-in_turn.true)

pub returns-then-in_turn : goal.returns-then-in_turn
returns-then-in_turn c = let a = c.args in (search rules, λ s. c.note_in_turn.ensures.0 s a.out.now, c.note_in_turn.ensures.1)

pub note_out_of_turn-requires : goal.note_out_of_turn-requires
note_out_of_turn-requires c = (search rules, search rules, c.in_turn.ensures ∙ ap not c.if-in_turn.false)

pub returns : goal.returns
returns c = c.note_out_of_turn.ensures
