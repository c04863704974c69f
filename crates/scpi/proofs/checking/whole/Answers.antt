-- `checking::whole` meets its contract.
use Rattle.std.proofs.Common.{rules, ◌∙◌, sym, ◌≡◌}
use Rattle.scpi.specs.Grammar.{bad}
use Rattle.scpi.specs.Scans.{start_empty, start_star, whole_word_bad, whole_path_bad, whole_end}
use Rattle.scpi.proofs.checking.whole.Goals as goal

pub returns-then-is_empty : goal.returns-then-is_empty
returns-then-is_empty c = start_empty c.args.p.now (search rules)

pub returns-then-p-eq42 : goal.returns-then-p-eq42
returns-then-p-eq42 c = let a = c.args in start_star a.p.now (search rules) c.if-p-eq42.true ∙ c.star.ensures

pub returns-in_err-e : goal.returns-in_err-e
returns-in_err-e c = let a = c.args in
    let e : c.from_residual.result ≡ bad c.in_err-e.field-0.0.place = search rules in
    whole_word_bad a.p.now (search rules) c.if-p-eq42.false c.in_err-e.field-0.0.place c.in_err-e.ensures ∙ sym e

pub returns-in_err-i : goal.returns-in_err-i
returns-in_err-i c = let a = c.args in
    let e : c.from_residual-in_err-i.result ≡ bad c.in_err-i.field-0.0.place = search rules in
    whole_path_bad a.p.now (search rules) c.if-p-eq42.false c.in_ok-e.e c.in_ok-e.ensures
    c.in_err-i.field-0.0.place c.in_err-i.ensures ∙ sym e

pub returns : goal.returns
returns c = let a = c.args in
    whole_end a.p.now (search rules) c.if-p-eq42.false c.in_ok-e.e c.in_ok-e.ensures
    c.in_ok-i.i c.in_ok-i.ensures c.finish.result c.finish.ensures
