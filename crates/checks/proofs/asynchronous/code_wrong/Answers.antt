-- `asynchronous::code_wrong` meets its contract: a law for each kind.
use Rattle.std.proofs.Common.{inl, inr, ⊎_elim}
use Rattle.checks.specs.Asynchronous.{code_lock, code_query, code_control, code_any}
use Rattle.checks.proofs.asynchronous.code_wrong.Goals as goal

pub returns-in-4 : goal.returns-in-4
returns-in-4 c = let a = c.args in ⊎_elim (code_lock a.kind a.code) (code_query a.kind a.code) c.in-4.is

pub returns-in-10 : goal.returns-in-10
returns-in-10 c = let a = c.args in code_control a.kind a.code c.in-10.is

pub returns-in_default : goal.returns-in_default
returns-in_default c = let a = c.args in let n = c.in_default.in_default-own.rest in
    code_any a.kind a.code (λ q. n.0.1 (inl q)) n.1 (λ q. n.0.1 (inr q))
