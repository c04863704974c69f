-- `bytes::goes_on` meets its contract. The invariant: comparing what is left says what the whole comparison says.
use Rattle.std.proofs.Common.{rules, arith, sym, ◌∙◌, ◌≡◌, ◌+◌, drop, ℕ, ap₂}
use borrow.Author.Tests.{eqb-true}
use Rattle.scpi.specs.Words.{starts, part, starts_more, starts_stop, starts_out, starts_end}
use Rattle.scpi.proofs.bytes.goes_on.Goals as goal

pub returns-then-e-a : goal.returns-then-e-a
returns-then-e-a c = let a = c.args in
    sym (starts_out a.p.now a.c.now a.a a.e a.i (search rules) c.if-e-a.true)

pub returns-then-not-alike : goal.returns-then-not-alike
returns-then-not-alike c = let l = c.loop-k in
    let a = c.args in
    sym (starts_stop a.p.now a.c.now (a.a + l.k) a.e (a.i + l.k) (omega arith) (search rules) (omega arith) (sym c.alike.ensures ∙ c.if-not-alike.true)) ∙ l.invariant

pub loop-k-preserved : goal.loop-k-preserved
loop-k-preserved c = let l = c.loop-k in
    let a = c.args in
    let x : a.a + l.k + 1 ≡ a.a + (l.k + 1) = omega arith in
    let y : a.i + l.k + 1 ≡ a.i + (l.k + 1) = omega arith in
    ap₂ (λ (m n : ℕ). starts (part m a.e a.p.now) (drop n a.c.now)) (sym x) (sym y)
    ∙ sym (starts_more a.p.now a.c.now (a.a + l.k) a.e (a.i + l.k) (omega arith) (search rules) (omega arith) (eqb-true _ _ (sym c.alike.ensures ∙ c.if-not-alike.false))) ∙ l.invariant

pub returns : goal.returns
returns c = let l = c.loop-k in
    let a = c.args in
    sym (starts_end a.p.now (drop (a.i + l.k) a.c.now) (a.a + l.k) a.e (omega arith)) ∙ l.invariant
