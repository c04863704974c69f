-- `asynchronous::payload_wrong` meets its contract: a law for each kind.
use Rattle.std.proofs.Common.{inl, inr, ⊎_elim, ◌∙◌, ne_eqb}
use Rattle.checks.specs.Asynchronous.{payload_control, payload_clear, payload_query, payload_info, payload_release, payload_request, payload_size, payload_any}
use Rattle.checks.proofs.asynchronous.payload_wrong.Goals as goal

pub returns-then-code-eq0 : goal.returns-then-code-eq0
returns-then-code-eq0 c = let a = c.args in payload_release a.kind a.code a.len c.in-4.is c.if-code-eq0.true

pub returns-else-code-eq0 : goal.returns-else-code-eq0
returns-else-code-eq0 c = let a = c.args in ne_eqb a.code 0 c.if-code-eq0.false ∙ payload_request a.kind a.code a.len c.in-4.is c.if-code-eq0.false

pub returns-in-15 : goal.returns-in-15
returns-in-15 c = let a = c.args in payload_size a.kind a.code a.len c.in-15.is

pub returns-in-10 : goal.returns-in-10
returns-in-10 c = let a = c.args in ⊎_elim (payload_control a.kind a.code a.len) (⊎_elim (payload_clear a.kind a.code a.len) (⊎_elim (payload_query a.kind a.code a.len) (payload_info a.kind a.code a.len))) c.in-10.is

pub returns-in_default : goal.returns-in_default
returns-in_default c = let a = c.args in let n = c.in_default.in_default-own.rest in
    payload_any a.kind a.code a.len n.0.0.1 (λ q. n.1 (inl q)) n.0.1 (λ q. n.1 (inr (inl q))) (λ q. n.1 (inr (inr (inl q)))) (λ q. n.1 (inr (inr (inr q))))
