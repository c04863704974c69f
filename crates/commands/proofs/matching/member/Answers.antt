-- `matching::member` meets its contract. The invariant: the words that were passed have no place.
use Rattle.std.proofs.Common.{rules, arith, ℕ, ◌≡◌, subst, ◌*◌, ◌≤◌}
use Rattle.commands.specs.Sets.{On}
use Rattle.commands.specs.Places.{member_here, member_behind, member_none}
use Rattle.commands.proofs.matching.member.Goals as goal

pub returns-then-i-lt64 : goal.returns-then-i-lt64
returns-then-i-lt64 c = let l = c.loop-k in
    member_here c.args.s.now l.k l.invariant (search rules) c.if-i-lt64.true
