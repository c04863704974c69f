-- `allowing::command_end` meets its contract. The invariant: what was passed, and the command of what is left, are the command.
use Rattle.std.proofs.Common.{rules, arith, sym, ◌∙◌, inl, inr, ⊎_elim, subst, take, length, ℕ, ◌≡◌}
use Rattle.commands.specs.Lists.{command_of}
use Rattle.scpi.specs.Answers.{says_yes, says_no}
use Rattle.commands.specs.Lines.{command_space, command_line, command_turn, command_stop, command_end}
use Rattle.commands.proofs.allowing.command_end.Goals as goal

pub returns-then-ends_command : goal.returns-then-ends_command
returns-then-ends_command c = let b = c.ends_command in
    let s = c.args.s.now in (
      ⊎_elim
          (λ e. command_stop s c.loop-i.i (command_space s c.loop-i.i (search rules) e) c.loop-i.invariant)
          (λ e. command_stop s c.loop-i.i (command_line s c.loop-i.i (search rules) e) c.loop-i.invariant)
          (says_yes b.result b.ensures c.if-ends_command.true),
      search rules,
    )

pub loop-i-preserved : goal.loop-i-preserved
loop-i-preserved c = let b = c.ends_command in
    let s = c.args.s.now in
    let n = says_no b.result b.ensures c.if-ends_command.false in
    sym (command_turn s c.loop-i.i (search rules) (λ e. n (inl e)) (λ e. n (inr e))) ∙ c.loop-i.invariant

pub returns : goal.returns
returns c = let s = c.args.s.now in
    let e : c.loop-i.i ≡ length s = omega arith in
    (subst (λ (n : ℕ). take n s ≡ command_of s) e (command_stop s c.loop-i.i (command_end s c.loop-i.i (search rules)) c.loop-i.invariant), search rules)
