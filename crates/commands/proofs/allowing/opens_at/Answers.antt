-- `allowing::opens_at` meets its contract.
use Rattle.std.proofs.Common.{sym, ap, ◌∙◌, ◌≡◌, ◌+◌, not, get_or, false}
use borrow.Author.Tests.{eqb-true, eq-eqb, ne_eqb, le-leb}
use Rattle.scpi.specs.Answers.{untrue}
use Rattle.commands.specs.Refusing.{opens, opens_last, opens_second, opens_other}
use Rattle.commands.proofs.allowing.opens_at.Goals.{then-text-i-eq10, else-text-i-eq10, then-i-text, else-i-text}
use Rattle.commands.proofs.allowing.opens_at.Goals as goal

pub returns-else-text-i : goal.returns-else-text-i
unfolding opens
returns-else-text-i c = let a = c.args in
    let t = a.text.now in
    let z = c.if-text-i.false in
    elim c.if-text-i-eq10.branch [
      | then-text-i-eq10 w ↦ (let n : opens t a.i a.f a.g ≡ false = rw (eq-eqb _ _ w.if-text-i-eq10.true, sym w.value-is ∙ z) in z ∙ sym n)
      | else-text-i-eq10 w ↦ (let n : opens t a.i a.f a.g ≡ false = rw (ne_eqb _ _ w.if-text-i-eq10.false) in z ∙ sym n)
    ]

pub returns-then-text-i-2 : goal.returns-then-text-i-2
returns-then-text-i-2 c = let a = c.args in
    let t = a.text.now in
    let z = c.if-text-i-2.true in
    let both : (get_or t a.i 0 ≡ 10) × (get_or t (a.i + 1) 0 ≡ a.f) = elim c.if-text-i-eq10.branch [
      | then-text-i-eq10 w ↦ (w.if-text-i-eq10.true, eqb-true _ _ (sym w.value-is ∙ c.if-text-i.true))
      | else-text-i-eq10 w ↦ absurd (w.if-text-i-eq10.false (eqb-true _ _ (sym w.value-is ∙ c.if-text-i.true)))
    ] in
    elim c.if-i-text.branch [
      | then-i-text w ↦ z ∙ sym (opens_last t a.i a.f a.g both.0 both.1 w.if-i-text.true)
      | else-i-text w ↦ z ∙ sym (opens_second t a.i a.f a.g both.0 both.1 (eqb-true _ _ (sym w.value-is ∙ z)))
    ]

pub returns-else-text-i-2 : goal.returns-else-text-i-2
returns-else-text-i-2 c = let a = c.args in
    let t = a.text.now in
    let z = c.if-text-i-2.false in
    let both : (get_or t a.i 0 ≡ 10) × (get_or t (a.i + 1) 0 ≡ a.f) = elim c.if-text-i-eq10.branch [
      | then-text-i-eq10 w ↦ (w.if-text-i-eq10.true, eqb-true _ _ (sym w.value-is ∙ c.if-text-i.true))
      | else-text-i-eq10 w ↦ absurd (w.if-text-i-eq10.false (eqb-true _ _ (sym w.value-is ∙ c.if-text-i.true)))
    ] in
    elim c.if-i-text.branch [
      | then-i-text w ↦ untrue (sym z ∙ w.value-is ∙ le-leb _ _ w.if-i-text.true)
      | else-i-text w ↦ ap not c.is_between.ensures
          ∙ sym (opens_other t a.i a.f a.g both.0 both.1 (λ e. untrue (sym z ∙ w.value-is ∙ eq-eqb _ _ e)))
    ]
