-- `granting::may_grant` meets its contract: another session's exclusive lock is asked first.
use mathlib.Core.Path.{◌∙◌}
use Rattle.grants.specs.Granting.{may_not}
use Rattle.queue.specs.Requests.{string_at}
use Rattle.state.specs.View.{locks_of}
use Rattle.grants.proofs.granting.may_grant.Goals as goal

pub returns-then-not-no_other_exclusive : goal.returns-then-not-no_other_exclusive
returns-then-not-no_other_exclusive c = let a = c.args in let w = a.w.now in let s = a.strings.now in
    may_not (locks_of w s).entries a.i (string_at w s a.i) (c.no_other_exclusive.ensures s ∙ c.if-not-no_other_exclusive.true)
