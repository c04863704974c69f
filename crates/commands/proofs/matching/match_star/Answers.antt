-- `matching::match_star` meets its contract.
use Rattle.std.proofs.Common.{refl, sym, subst, ◌∙◌, ◌≡◌, Bool, true, false, Ok, Err, get_or, ℕ, List, is_ok}
use borrow.Author.Tests.{eqb-true}
use Rattle.scpi.specs.Answers.{Says, says_yes, says_no, good_or_bad, untrue}
use Rattle.scpi.specs.Grammar.{Checked, good}
use Rattle.scpi.specs.Bytes.{star_sign, caseless}
use Rattle.scpi.specs.Verdicts.{Exactly}
use Rattle.scpi.specs.Words.{like_length}
use Rattle.commands.specs.Spelling.{Matches}
use Rattle.commands.specs.Whole.{like_starts, says_star}
use Rattle.commands.proofs.matching.match_star.Goals.{then-p-c, else-p-c}
use Rattle.commands.proofs.matching.match_star.Goals as goal

-- bytes that are alike match if they are a pattern
checked : (p c : List ℕ) → get_or p 0 0 ≡ star_sign → caseless c ≡ caseless p → (r : Checked) → Exactly p r → (b : Bool) → b ≡ is_ok r → Says b (Matches p c)
checked p c s h (Ok u) x true e = let g = (x good).1 refl in record { good = g; spells = says_star p c true s h g }
checked p c s h (Ok u) x false e = untrue e
checked p c s h (Err b) x true e = untrue (sym e)
checked p c s h (Err b) x false e = λ m. good_or_bad b.place ((x good).0 m.good)

pub returns-then-goes_on : goal.returns-then-goes_on
returns-then-goes_on c = let a = c.args in
    let h : caseless a.c.now ≡ caseless a.p.now = elim c.if-p-c.branch [
      | then-p-c w ↦ says_yes w.goes_on.result (like_starts a.p.now a.c.now w.if-p-c.true w.goes_on.result w.goes_on.ensures) (sym w.value-is ∙ c.if-goes_on.true)
      | else-p-c w ↦ absurd (w.if-p-c.false (eqb-true _ _ (sym w.value-is ∙ c.if-goes_on.true)))
    ] in
    checked a.p.now a.c.now c.requires h c.check.result c.check.ensures c.is_ok.result c.is_ok.ensures.value

pub returns-else-goes_on : goal.returns-else-goes_on
returns-else-goes_on c = let a = c.args in
    let X = Matches a.p.now a.c.now in
    subst (λ (b : Bool). Says b X) (sym c.if-goes_on.false) (elim c.if-p-c.branch [
      | then-p-c w ↦ λ m. says_star a.p.now a.c.now false c.requires
          (says_no w.goes_on.result (like_starts a.p.now a.c.now w.if-p-c.true w.goes_on.result w.goes_on.ensures) (sym w.value-is ∙ c.if-goes_on.false)) m.good m.spells
      | else-p-c w ↦ λ m. says_star a.p.now a.c.now false c.requires (λ h. w.if-p-c.false (sym (like_length a.c.now a.p.now h))) m.good m.spells
    ])
