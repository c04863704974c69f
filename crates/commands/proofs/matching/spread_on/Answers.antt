-- `matching::spread_on` meets its contract: the long form goes on where the short one ends.
use mathlib.Core.Path.{◌≡◌, sym, ap, ◌∙◌}
use mathlib.Core.List.{List}
use mathlib.Core.Logic.{inl, inr, ⊎_elim}
use mathlib.Core.Bool.{true, false}
use Prim.Native.Nat.{ℕ, ◌+◌, ◌-◌, ◌≤◌}
use lib.ListN.{length, drop, length-drop}
use Rattle.scpi.specs.Answers.{untrue}
use Rattle.scpi.specs.Words.{starts, part, length_part}
use Rattle.commands.specs.Sets.{On}
use Rattle.commands.specs.Landing.{From, starts_length, long_on}
use borrow.Author.Rules.{rules}
use Rattle.commands.proofs.matching.spread_on.Goals as goal

pub with-u-requires : goal.with-u-requires
with-u-requires c = let a = c.args in
    let y : starts (part a.a a.m a.p.now) (drop a.i a.c.now) ≡ true = c.requires.5 in
    let l : length (part a.a a.m a.p.now) ≤ length (drop a.i a.c.now) = starts_length _ _ y in
    let d : length (drop a.i a.c.now) ≡ length a.c.now - a.i = length-drop a.i a.c.now in
    let n : length (part a.a a.m a.p.now) ≡ a.m - a.a = length_part a.a a.m a.p.now (search rules) in
    search rules

pub returns-then-m-e : goal.returns-then-m-e
returns-then-m-e c = let a = c.args in
    let y : starts (part a.a a.m a.p.now) (drop a.i a.c.now) ≡ true = c.requires.5 in
    let w = c.with-u in
    let n : length (part a.a a.m a.p.now) ≡ a.m - a.a = length_part a.a a.m a.p.now (search rules) in
    let e : a.i + length (part a.a a.m a.p.now) ≡ a.i + (a.m - a.a) = ap (λ (x : ℕ). a.i + x) n in
    let q : part a.a a.e a.p.now ≡ part a.a a.m a.p.now = ap (λ (x : ℕ). part a.a x a.p.now) (sym c.if-m-e.true) in
    λ k. (
      λ h. ⊎_elim (λ (x : On a.t k). inl x) (λ (x : k ≡ a.i + (a.m - a.a)). inr (inl (x ∙ sym e, y))) ((w.ensures k).0 h),
      λ h. (w.ensures k).1 (⊎_elim (λ (x : On a.t k). inl x)
          (λ z. ⊎_elim (λ (x : From (part a.a a.m a.p.now) a.c.now a.i k). inr (x.0 ∙ e))
          (λ (x : From (part a.a a.e a.p.now) a.c.now a.i k). inr (x.0 ∙ ap (λ (v : List ℕ). a.i + length v) q ∙ e)) z) h),
    )

pub goes_on-requires : goal.goes_on-requires
goes_on-requires c = let a = c.args in
    let y : starts (part a.a a.m a.p.now) (drop a.i a.c.now) ≡ true = c.requires.5 in
    let l : length (part a.a a.m a.p.now) ≤ length (drop a.i a.c.now) = starts_length _ _ y in
    let d : length (drop a.i a.c.now) ≡ length a.c.now - a.i = length-drop a.i a.c.now in
    let n : length (part a.a a.m a.p.now) ≡ a.m - a.a = length_part a.a a.m a.p.now (search rules) in
    search rules

pub returns-then-not-goes_on : goal.returns-then-not-goes_on
returns-then-not-goes_on c = let a = c.args in
    let y : starts (part a.a a.m a.p.now) (drop a.i a.c.now) ≡ true = c.requires.5 in
    let w = c.with-u in
    let o : starts (part a.a a.e a.p.now) (drop a.i a.c.now) ≡ false =
    long_on a.p.now a.c.now a.a a.m a.e a.i (search rules) (search rules) (search rules) y ∙ sym c.goes_on.ensures
    ∙ c.if-not-goes_on.true in
    let n : length (part a.a a.m a.p.now) ≡ a.m - a.a = length_part a.a a.m a.p.now (search rules) in
    let e : a.i + length (part a.a a.m a.p.now) ≡ a.i + (a.m - a.a) = ap (λ (x : ℕ). a.i + x) n in
    λ k. (
      λ h. ⊎_elim (λ (x : On a.t k). inl x) (λ (x : k ≡ a.i + (a.m - a.a)). inr (inl (x ∙ sym e, y))) ((w.ensures k).0 h),
      λ h. (w.ensures k).1 (⊎_elim (λ (x : On a.t k). inl x)
          (λ z. ⊎_elim (λ (x : From (part a.a a.m a.p.now) a.c.now a.i k). inr (x.0 ∙ e))
          (λ (x : From (part a.a a.e a.p.now) a.c.now a.i k). untrue (sym o ∙ x.1)) z) h),
    )

pub with-requires : goal.with-requires
with-requires c = let a = c.args in
    let y : starts (part a.a a.m a.p.now) (drop a.i a.c.now) ≡ true = c.requires.5 in
    let o : starts (part a.a a.e a.p.now) (drop a.i a.c.now) ≡ true =
    long_on a.p.now a.c.now a.a a.m a.e a.i (search rules) (search rules) (search rules) y ∙ sym c.goes_on.ensures
    ∙ c.if-not-goes_on.false in
    let l : length (part a.a a.e a.p.now) ≤ length (drop a.i a.c.now) = starts_length _ _ o in
    let d : length (drop a.i a.c.now) ≡ length a.c.now - a.i = length-drop a.i a.c.now in
    let n : length (part a.a a.e a.p.now) ≡ a.e - a.a = length_part a.a a.e a.p.now (search rules) in
    search rules

pub returns : goal.returns
returns c = let a = c.args in
    let y : starts (part a.a a.m a.p.now) (drop a.i a.c.now) ≡ true = c.requires.5 in
    let w = c.with-u in
    let v = c.with in
    let o : starts (part a.a a.e a.p.now) (drop a.i a.c.now) ≡ true =
    long_on a.p.now a.c.now a.a a.m a.e a.i (search rules) (search rules) (search rules) y ∙ sym c.goes_on.ensures
    ∙ c.if-not-goes_on.false in
    let n : length (part a.a a.m a.p.now) ≡ a.m - a.a = length_part a.a a.m a.p.now (search rules) in
    let n' : length (part a.a a.e a.p.now) ≡ a.e - a.a = length_part a.a a.e a.p.now (search rules) in
    let e : a.i + length (part a.a a.m a.p.now) ≡ a.i + (a.m - a.a) = ap (λ (x : ℕ). a.i + x) n in
    let e' : a.i + length (part a.a a.e a.p.now) ≡ a.i + (a.e - a.a) = ap (λ (x : ℕ). a.i + x) n' in
    λ k. (
      λ h. ⊎_elim (λ (x : On w.result k). ⊎_elim (λ (z : On a.t k). inl z) (λ (z : k ≡ a.i + (a.m - a.a)). inr (inl (z ∙ sym e, y)))
          ((w.ensures k).0 x)) (λ (x : k ≡ a.i + (a.e - a.a)). inr (inr (x ∙ sym e', o))) ((v.ensures k).0 h),
      λ h. (v.ensures k).1 (⊎_elim (λ (x : On a.t k). inl ((w.ensures k).1 (inl x)))
          (λ z. ⊎_elim (λ (x : From (part a.a a.m a.p.now) a.c.now a.i k). inl ((w.ensures k).1 (inr (x.0 ∙ e))))
          (λ (x : From (part a.a a.e a.p.now) a.c.now a.i k). inr (x.0 ∙ e')) z) h),
    )
