-- `allowing::any_matches` meets its contract. The invariant: the lines behind the next newline allow what the whole list allows, and a line that may match begins there.
use mathlib.Core.Path.{refl, sym, ◌∙◌, subst}
use mathlib.Core.List.{List}
use mathlib.Core.Logic.Iff
use Prim.Native.Nat.{ℕ, ◌+◌}
use native.Mathlib.Omega.{arith}
use Rattle.scpi.specs.Answers.{untrue}
use Rattle.commands.specs.Lists.{Allows}
use Rattle.commands.specs.Refusing.{opens_newline, behind_newline, behind_end, same_allows}
use Rattle.commands.proofs.Refusing.{line_matched, line_refused, moved}
use borrow.Author.Rules.{rules}
use Rattle.commands.proofs.allowing.any_matches.Goals as goal

pub loop-at-init : goal.loop-at-init
loop-at-init c = let n = c.opening_from-at in
    let m = c.first_matches in
    let g = c.raised_at-g in
    let f = c.raised_at-f in
    let a = c.args in (
      n.ensures.1,
      n.ensures.3,
      Iff.trans (m.ensures.1 c.if-first_matches.false)
          (moved a.text.now a.c.now f.result g.result f.ensures g.ensures 0 n.result n.ensures.0 n.ensures.1 n.ensures.2),
    )

pub returns-then-matches : goal.returns-then-matches
returns-then-matches c = let m = c.matches in
    let e = c.line_end-e in
    let t = c.loop-at-test in
    let l = c.loop-at in
    let g = c.raised_at-g in
    let f = c.raised_at-f in
    let a = c.args in
    let b = behind_newline a.text.now a.c.now l.at (search rules) (opens_newline a.text.now l.at f.result g.result (l.invariant.1 t.true)) in (
      λ x. l.invariant.2.1 (subst (λ (y : List (List ℕ)). Allows y a.c.now) (sym b)
          (line_matched a.text.now a.c.now (l.at + 1) e.result e.ensures.0 t.true (m.ensures.0 c.if-matches.true))),
      λ x. refl,
    )

pub loop-at-preserved : goal.loop-at-preserved
loop-at-preserved c = let n = c.next_opening-at in
    let m = c.matches in
    let e = c.line_end-e in
    let t = c.loop-at-test in
    let l = c.loop-at in
    let g = c.raised_at-g in
    let f = c.raised_at-f in
    let a = c.args in
    let b = behind_newline a.text.now a.c.now l.at (search rules) (opens_newline a.text.now l.at f.result g.result (l.invariant.1 t.true)) in (
      n.ensures.1,
      n.ensures.3,
      Iff.trans l.invariant.2
          (Iff.trans (same_allows a.text.now a.c.now _ _ b)
          (Iff.trans (line_refused a.text.now a.c.now (l.at + 1) e.result e.ensures.0 (λ x. untrue (sym c.if-matches.false ∙ m.ensures.1 x)))
          (moved a.text.now a.c.now f.result g.result f.ensures g.ensures e.result n.result n.ensures.0 n.ensures.1 n.ensures.2))),
    )

pub returns : goal.returns
returns c = let l = c.loop-at in
    let a = c.args in
    (λ t. untrue t, λ x. absurd (behind_end a.text.now a.c.now l.at (search rules) (l.invariant.2.0 x)))
