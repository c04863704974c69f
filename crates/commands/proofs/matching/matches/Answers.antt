-- `matching::matches` meets its contract.
use Rattle.std.proofs.Common.{rules}
use Rattle.scpi.specs.Answers.{untrue}
use Rattle.commands.specs.Whole.{says_long, says_longer, says_empty}
use Rattle.commands.proofs.matching.matches.Goals.{then-p-gt-LONGEST-via-then-p-gt-LONGEST, then-p-gt-LONGEST-via-else-p-gt-LONGEST+then-c-gt-LONGEST, then-p-gt-LONGEST-via-else-p-gt-LONGEST+else-c-gt-LONGEST+then-is_empty}
use Rattle.commands.proofs.matching.matches.Goals as goal

pub returns-then-p-gt-LONGEST : goal.returns-then-p-gt-LONGEST
returns-then-p-gt-LONGEST c = let a = c.args in
    elim c.then-p-gt-LONGEST.branch [
      | then-p-gt-LONGEST-via-then-p-gt-LONGEST w ↦ (λ e. untrue e, λ m. absurd (says_long a.p.now a.c.now w.if-p-gt-LONGEST.true m.good m.spells))
      | then-p-gt-LONGEST-via-else-p-gt-LONGEST+then-c-gt-LONGEST w ↦ (λ e. untrue e, λ m. absurd (says_longer a.p.now a.c.now w.if-c-gt-LONGEST.true m.good m.spells))
      | then-p-gt-LONGEST-via-else-p-gt-LONGEST+else-c-gt-LONGEST+then-is_empty w ↦ (λ e. untrue e, λ m. absurd (says_empty a.p.now a.c.now (search rules) m.good m.spells))
    ]
