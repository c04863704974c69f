-- `allowing::first_matches` meets its contract.
use Rattle.std.proofs.Common.{rules, sym, ◌∙◌, ◌↔◌}
use borrow.Author.Tests.{eq-eqb}
use Rattle.scpi.specs.Answers.{untrue}
use Rattle.commands.specs.Lists.{Allows, lines_of}
use Rattle.commands.specs.Refusing.{behind}
use Rattle.commands.proofs.Refusing.{first_matched, first_passed, first_empty, first_other, first_second}
use Rattle.commands.proofs.allowing.first_matches.Goals.{then-not-is_empty, else-not-is_empty, then-text-f, else-text-f}
use Rattle.commands.proofs.allowing.first_matches.Goals as goal

pub returns-then-not-second_differs : goal.returns-then-not-second_differs
returns-then-not-second_differs c = let m = c.matches in
    let e = c.line_end in
    let a = c.args in (
      λ t. first_matched a.text.now a.c.now e.result e.ensures.0 (m.ensures.0 t),
      λ t. first_passed a.text.now a.c.now e.result e.ensures.0 (λ x. untrue (sym t ∙ m.ensures.1 x)),
    )

pub returns-else-not-second_differs : goal.returns-else-not-second_differs
returns-else-not-second_differs c = let a = c.args in
    let z = c.if-not-second_differs.false in
    let refused : Allows (lines_of a.text.now) a.c.now ↔ Allows (behind a.text.now) a.c.now = elim c.if-text-f.branch [
      | then-text-f w ↦ (let x = w.second_differs.ensures (search rules) in first_second a.text.now a.c.now a.g c.requires.1 x.0 x.1)
      | else-text-f w ↦ elim c.if-not-is_empty.branch [
        | then-not-is_empty v ↦ first_other a.text.now a.c.now a.f c.requires.0 (λ e. untrue (sym w.if-text-f.false ∙ v.value-is ∙ eq-eqb _ _ e))
        | else-not-is_empty v ↦ first_empty a.text.now a.c.now (search rules)
      ]
    ] in
    (λ t. untrue (sym z ∙ t), λ t. refused)
