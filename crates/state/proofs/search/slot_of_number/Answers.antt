-- `search::slot_of_number` meets its contract. The invariant: what the search finds from slot i on is what it finds.
use mathlib.Core.Path.{ap, ◌∙◌}
use Prim.Native.Nat.{ℕ}
use native.Mathlib.Omega.{arith}
use lib.Dec.{eqb}
use Rattle.model.specs.State.{at}
use Rattle.model.specs.State.{Entry}
use Rattle.state.specs.Search.{search_starts, search_hits, search_goes_on, search_ends, number_read}
use Rattle.state.specs.View.{locks_of}
use borrow.Author.Tests.{eq-eqb, ne_eqb}
use Rattle.state.proofs.search.slot_of_number.Goals as goal

pub loop-i-init : goal.loop-i-init
loop-i-init c = let a = c.args in λ s. search_starts a.w.now s (λ (e : Entry). eqb e.number a.n)

pub returns-then-entry-n : goal.returns-then-entry-n
returns-then-entry-n c = let a = c.args in let l = c.loop-i in (
  omega arith,
  λ s. l.invariant s ∙ search_hits a.w.now s (λ (e : Entry). eqb e.number a.n) l.i (omega arith)
      (ap (λ (x : ℕ). eqb x a.n) (number_read (at (locks_of a.w.now s).entries l.i) c.entry.result (c.entry.ensures.0 s))
      ∙ eq-eqb c.entry.result a.n c.if-entry-n.true),
)

pub loop-i-preserved : goal.loop-i-preserved
loop-i-preserved c = let a = c.args in let l = c.loop-i in
    λ s. l.invariant s ∙ search_goes_on a.w.now s (λ (e : Entry). eqb e.number a.n) l.i (omega arith)
    (ap (λ (x : ℕ). eqb x a.n) (number_read (at (locks_of a.w.now s).entries l.i) c.entry.result (c.entry.ensures.0 s))
    ∙ ne_eqb c.entry.result a.n c.if-entry-n.false)

pub returns : goal.returns
returns c = let a = c.args in let l = c.loop-i in
    (omega arith, λ s. l.invariant s ∙ search_ends a.w.now s (λ (e : Entry). eqb e.number a.n) l.i (omega arith) (omega arith) ∙ (omega arith))
