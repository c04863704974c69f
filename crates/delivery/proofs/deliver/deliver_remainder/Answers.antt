-- `deliver::deliver_remainder` meets its contract: without bytes, and with some.
use mathlib.Core.Path.{◌≡◌, refl, sym, ap, ◌∙◌}
use Prim.Native.Nat.{ℕ, min}
use native.Mathlib.Omega.{arith}
use lib.ListN.{length}
use Rattle.model.specs.Interface.{Reply.took, Outcome.more_needed, delivery_answer}
use Rattle.model.specs.Place.{role_of, slot_in}
use Rattle.model.specs.Scan.{Scan.empty, scan}
use Rattle.model.specs.State.{Connection, connection_at}
use Rattle.state.specs.View.{locks_of, memory, rest_of, view}
use Rattle.sessions.specs.Did.{did_nothing, numbers_of}
use Rattle.delivery.specs.Scanning.{received_as, on_scan, scan_empty, skip_none, skipped_on}
use borrow.Author.Tests.{eqb-true}
use Rattle.std.proofs.lemmas.Bool.{eqb-false}
use Rattle.delivery.proofs.deliver.deliver_remainder.Goals as goal

pub returns-then-is_empty : goal.returns-then-is_empty
returns-then-is_empty c s out = let a = c.args in
    let bs = a.bytes.now in
    let d = view (memory a.w.now s) in
    let es = (locks_of a.w.now s).entries in
    let left = (connection_at (rest_of a.w.now) a.c).remainder in
    let er : c.connection-left.result ≡ left = ap (λ (y : Connection). y.remainder) c.connection-left.ensures.0 in
    received_as d a.c (slot_in es a.c) _ _ _ _ _ left (length bs) (scan left bs) refl
    (on_scan d a.c (slot_in es a.c) _ _ _ _ _ left (length bs) (role_of es a.c) (scan left bs) empty (scan_empty left bs (eqb-true (length bs) 0 (sym c.is_empty.ensures ∙ c.if-is_empty.true)))
    (skip_none d a.c (slot_in es a.c) _ _ _ _ _ left (length bs) (role_of es a.c) c.requires.1
    (did_nothing left (took more_needed 0 0) _ _ _ (ap numbers_of c.more_needed.ensures ∙ ap (delivery_answer (took more_needed 0 0) 0) er))))

pub returns : goal.returns
returns c s out = let a = c.args in
    let bs = a.bytes.now in
    let d = view (memory a.w.now s) in
    let es = (locks_of a.w.now s).entries in
    let left = (connection_at (rest_of a.w.now) a.c).remainder in
    let er : c.connection-left.result ≡ left = ap (λ (y : Connection). y.remainder) c.connection-left.ensures.0 in
    let some : length bs ≡ 0 → ⊥ = eqb-false (length bs) 0 (sym c.is_empty.ensures ∙ c.if-is_empty.false) in
    received_as d a.c (slot_in es a.c) _ _ _ _ _ left (length bs) (scan left bs) refl
    (skipped_on d a.c (slot_in es a.c) _ _ _ _ _ left bs (role_of es a.c) _ (omega (arith, some)) c.requires.1 (c.skip.ensures s out)
    (omega (arith, ap (λ (y : ℕ). min y (length bs)) er)))
