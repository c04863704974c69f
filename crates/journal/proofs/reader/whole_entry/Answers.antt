-- `reader::whole_entry` meets its contract: a law for each way out.
use Rattle.std.proofs.Common.{sym, ◌∙◌}
use Rattle.std.proofs.lemmas.Bool.{leb-true, leb-false, eqb-true, eq-eqb, lt-leb, false≢true}
use Rattle.journal.specs.Steps.{not_enough, over_limit, falls_short, wrong_distance, last_test}
use Rattle.journal.proofs.reader.whole_entry.Goals.{then-n-le-BODY_LIMIT, else-n-le-BODY_LIMIT, then-n-s, else-n-s}
use Rattle.journal.proofs.reader.whole_entry.Goals as goal

pub returns-then-s-lt12 : goal.returns-then-s-lt12
returns-then-s-lt12 c = not_enough _ c.if-s-lt12.true

pub returns-then-number-n : goal.returns-then-number-n
returns-then-number-n c = elim c.if-n-s.branch [
  | then-n-s w ↦ (elim c.if-n-le-BODY_LIMIT.branch [
    | then-n-le-BODY_LIMIT v ↦ last_test _ _ c.length_of-n.ensures.0 _ _ _ (leb-true _ _ (sym v.value-is ∙ w.if-n-s.true)) v.if-n-le-BODY_LIMIT.true
        w.number.ensures.value (eqb-true _ _ (sym w.value-is ∙ c.if-number-n.true)) c.number-then-number-n.ensures.value (c.from.ensures ∙ c.crc32.ensures)
    | else-n-le-BODY_LIMIT v ↦ absurd (false≢true (sym (lt-leb _ _ v.if-n-le-BODY_LIMIT.false) ∙ sym v.value-is ∙ w.if-n-s.true))
  ])
  | else-n-s w ↦ absurd (false≢true (sym w.if-n-s.false ∙ sym w.value-is ∙ c.if-number-n.true))
]

pub returns-else-number-n : goal.returns-else-number-n
returns-else-number-n c = elim c.if-n-s.branch [
  | then-n-s w ↦ (elim c.if-n-le-BODY_LIMIT.branch [
    | then-n-le-BODY_LIMIT v ↦ c.if-number-n.false ∙ wrong_distance _ _ c.length_of-n.ensures.0 _ w.number.ensures.value
        (λ e. false≢true (sym c.if-number-n.false ∙ w.value-is ∙ eq-eqb _ _ e))
    | else-n-le-BODY_LIMIT v ↦ c.if-number-n.false ∙ over_limit _ _ c.length_of-n.ensures.0 v.if-n-le-BODY_LIMIT.false
  ])
  | else-n-s w ↦ (elim c.if-n-le-BODY_LIMIT.branch [
    | then-n-le-BODY_LIMIT v ↦ c.if-number-n.false ∙ falls_short _ _ c.length_of-n.ensures.0 (leb-false _ _ (sym v.value-is ∙ w.if-n-s.false))
    | else-n-le-BODY_LIMIT v ↦ c.if-number-n.false ∙ over_limit _ _ c.length_of-n.ensures.0 v.if-n-le-BODY_LIMIT.false
  ])
]
