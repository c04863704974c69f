-- `matching::spread` meets its contract: where the short form is not there, nothing is.
use mathlib.Core.Path.{◌≡◌, sym, ◌∙◌}
use mathlib.Core.Logic.{inl, ⊎_elim}
use mathlib.Core.Bool.{false}
use lib.ListN.{drop}
use Rattle.scpi.specs.Answers.{untrue}
use Rattle.scpi.specs.Words.{starts, part, starts_stop}
use Rattle.commands.specs.Sets.{On}
use Rattle.commands.specs.Landing.{From, long_not, from_behind}
use borrow.Author.Rules.{rules}
use Rattle.commands.proofs.matching.spread.Goals as goal

pub returns-then-i-c : goal.returns-then-i-c
returns-then-i-c c = let a = c.args in
    λ k. (
      λ h. inl h,
      λ h. ⊎_elim (λ (x : On a.t k). x) (λ y. absurd
          (⊎_elim (λ (x : From (part a.a a.m a.p.now) a.c.now a.i k). from_behind a.p.now a.c.now a.a a.m a.e a.i
          (search rules) (search rules) (search rules) (search rules) (search rules) k x)
          (λ (x : From (part a.a a.e a.p.now) a.c.now a.i k). from_behind a.p.now a.c.now a.a a.e a.e a.i (search rules)
          (search rules) (search rules) (search rules) (search rules) k x) y)) h,
    )

pub returns-then-differs : goal.returns-then-differs
returns-then-differs c = let a = c.args in
    let n : starts (part a.a a.m a.p.now) (drop a.i a.c.now) ≡ false =
    starts_stop a.p.now a.c.now a.a a.m a.i (search rules) (search rules) (search rules) (c.differs.ensures c.if-differs.true) in
    let o : starts (part a.a a.e a.p.now) (drop a.i a.c.now) ≡ false = long_not a.p.now a.c.now a.a a.m a.e a.i (search rules) (search rules) (search rules) n in
    λ k. (
      λ h. inl h,
      λ h. ⊎_elim (λ (x : On a.t k). x) (λ y. absurd
          (⊎_elim (λ (x : From (part a.a a.m a.p.now) a.c.now a.i k). untrue (sym n ∙ x.1))
          (λ (x : From (part a.a a.e a.p.now) a.c.now a.i k). untrue (sym o ∙ x.1)) y)) h,
    )

pub returns-then-not-goes_on : goal.returns-then-not-goes_on
returns-then-not-goes_on c = let a = c.args in
    let n : starts (part a.a a.m a.p.now) (drop a.i a.c.now) ≡ false = sym c.goes_on.ensures ∙ c.if-not-goes_on.true in
    let o : starts (part a.a a.e a.p.now) (drop a.i a.c.now) ≡ false = long_not a.p.now a.c.now a.a a.m a.e a.i (search rules) (search rules) (search rules) n in
    λ k. (
      λ h. inl h,
      λ h. ⊎_elim (λ (x : On a.t k). x) (λ y. absurd
          (⊎_elim (λ (x : From (part a.a a.m a.p.now) a.c.now a.i k). untrue (sym n ∙ x.1))
          (λ (x : From (part a.a a.e a.p.now) a.c.now a.i k). untrue (sym o ∙ x.1)) y)) h,
    )
