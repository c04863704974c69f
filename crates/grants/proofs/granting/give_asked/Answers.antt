-- `granting::give_asked` meets its contract: a string of no bytes asks for the exclusive lock.
use mathlib.Core.Path.{sym, ap, ◌∙◌}
use mathlib.Core.List.{List}
use Prim.Native.Nat.{ℕ}
use native.Mathlib.Omega.{arith}
use Rattle.model.specs.Locks.{give}
use Rattle.grants.specs.Granting.{may_exclusive, may_fits, no_string}
use Rattle.state.specs.Change.{on_entry}
use Rattle.state.specs.Holders.{no_other}
use Rattle.state.specs.View.{locks_of, memory, view}
use borrow.Author.Rules.{rules}
use Rattle.grants.proofs.granting.give_asked.Goals as goal

pub give_exclusive-requires : goal.give_exclusive-requires
give_exclusive-requires c = let a = c.args in
    (search rules, no_other a.w.now a.strings.now a.i (may_exclusive (locks_of a.w.now a.strings.now).entries a.i a.string.now c.requires.2))

pub returns-then-string-eq0 : goal.returns-then-string-eq0
returns-then-string-eq0 c = let a = c.args in (
  c.give_exclusive.ensures.0 a.strings.now
      ∙ ap (λ (k : List ℕ). on_entry (view (memory a.w.now a.strings.now)) a.i (give k)) (sym (no_string a.string.now c.if-string-eq0.true)),
  c.give_exclusive.ensures.1 a.strings.now,
)

pub give_key-requires : goal.give_key-requires
give_key-requires c = let a = c.args in
    let n = c.if-string-eq0.false in
    (search rules, omega (arith, n), search rules, may_fits (locks_of a.w.now a.strings.now).entries a.i a.string.now n c.requires.2)
