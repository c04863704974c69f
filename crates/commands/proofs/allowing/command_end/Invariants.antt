-- `allowing::command_end` meets its contract. The invariant: what was passed, and the command of what is left, are the command.
use Rattle.std.specs.Prelude.{◌≡◌, ◌++◌, take, drop}
use Rattle.commands.specs.Lists.{command_of}
use Rattle.commands.proofs.allowing.command_end.Given as goal

abbrev pub invariant-loop-i : goal.invariant-loop-i
invariant-loop-i l = take l.i l.s ++ command_of (drop l.i l.s) ≡ command_of l.s
