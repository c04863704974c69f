-- `granting::grant` meets its contract: a string of no bytes asks for the exclusive lock.
use mathlib.Core.Path.{sym, ap, ◌∙◌}
use mathlib.Core.List.{List}
use Prim.Native.Nat.{ℕ}
use native.Mathlib.Omega.{arith}
use Rattle.model.specs.Locks.{give}
use Rattle.grants.specs.Granting.{may_exclusive, may_fits, no_string}
use Rattle.state.specs.Change.{on_entry}
use Rattle.state.specs.Holders.{no_other}
use Rattle.queue.specs.Requests.{string_at}
use Rattle.state.specs.View.{locks_of, memory, view}
use borrow.Author.Rules.{rules}
use Rattle.grants.proofs.granting.grant.Goals as goal

pub give_exclusive-requires : goal.give_exclusive-requires
give_exclusive-requires c = let a = c.args in (
  search rules,
  no_other a.w.now a.strings.now a.i
      (may_exclusive (locks_of a.w.now a.strings.now).entries a.i (string_at a.w.now a.strings.now a.i)
      c.requires.1),
)

pub returns-then-n-eq0 : goal.returns-then-n-eq0
returns-then-n-eq0 c = let a = c.args in (
  c.give_exclusive.ensures.0 a.strings.now
      ∙ ap (λ (k : List ℕ). on_entry (view (memory a.w.now a.strings.now)) a.i (give k))
      (sym (no_string (string_at a.w.now a.strings.now a.i)
      (sym c.asked_length-n.ensures.1 ∙ c.if-n-eq0.true))),
  c.give_exclusive.ensures.1 a.strings.now,
)

pub give_shared-requires : goal.give_shared-requires
give_shared-requires c = let a = c.args in (
  search rules,
  c.asked_length-n.ensures.1,
  omega arith,
  search rules,
  may_fits (locks_of a.w.now a.strings.now).entries
      a.i (string_at a.w.now a.strings.now a.i) (λ e. c.if-n-eq0.false (c.asked_length-n.ensures.1 ∙ e))
      c.requires.1,
)
