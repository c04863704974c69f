-- `quick::request_quickly` meets its contract: all is free and the exclusive lock is granted, or it is a request in full.
use mathlib.Core.Path.{◌≡◌, sym, ap, ◌∙◌}
use mathlib.Core.List.{List}
use Prim.Native.Nat.{ℕ}
use lib.ListN.{length}
use Rattle.model.specs.Locks.{give}
use Rattle.grants.specs.Granting.{given_noted, may_exclusive, no_string}
use Rattle.holding.specs.Outcome.{met_one}
use Rattle.locks.specs.Quick.{free_grants, free_request}
use Rattle.state.specs.Change.{on_entry}
use Rattle.state.specs.Holders.{no_other}
use Rattle.state.specs.View.{locks_of, memory, view}
use borrow.Author.Rules.{rules}
use Rattle.locks.proofs.quick.request_quickly.Goals as goal

pub give_exclusive-requires : goal.give_exclusive-requires
give_exclusive-requires c = let a = c.args in
    let l = locks_of a.w.now a.strings.now in
    let f = c.is_free.ensures c.if-is_free.true a.strings.now in (
      search rules,
      no_other a.w.now a.strings.now a.i
          (may_exclusive l.entries a.i a.string.now (free_grants l a.i a.string.now
          (search rules) f)),
    )

pub returns-then-is_free : goal.returns-then-is_free
returns-then-is_free c = let a = c.args in
    let s = a.strings.now in
    let p = c.put_answer_to-r.ensures in
    let g = c.give_exclusive.ensures in
    let n = c.note_grant.ensures in
    let e : length a.string.now ≡ 0 = search rules in
    let f = c.is_free.ensures
    c.if-is_free.true s in
    met_one _ _ _ _ _ _ _ _ _ (free_request (locks_of a.w.now s) a.i a.string.now e f a.timeout)
    (given_noted (view (memory a.w.now s)) _ _ a.i a.string.now
    (g.0 s ∙ ap (λ (k : List ℕ). on_entry (view (memory a.w.now s)) a.i (give k)) (sym (no_string a.string.now e))) (n.0 s)) (p.1 s) p.0
    (search rules) (λ t. n.1 s (g.1 s t))
