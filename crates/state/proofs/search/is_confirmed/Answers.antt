-- `search::is_confirmed` meets its contract: the row names another connection, the slot is free, or it shows this one.
use mathlib.Core.Path.{◌≡◌, refl, sym, ap, ◌∙◌}
use mathlib.Core.Bool.{Bool, true, false, not}
use native.Mathlib.Omega.{arith}
use lib.Dec.{eqb}
use borrow.Author.Tests.{eq-eqb, ne_eqb, eqb-true}
use Rattle.std.proofs.lemmas.Bool.{eqb-false}
use Rattle.state.specs.Confirmed.{field_shown, shows}
use Prim.Native.Nat.{◌-◌, ◌*◌}
use Rattle.state.specs.View.{field_of, home_in, home_of}
use borrow.Author.Rules.{rules}
use Rattle.state.proofs.search.is_confirmed.Goals as goal

pub returns-then-row_of_home-c : goal.returns-then-row_of_home-c
returns-then-row_of_home-c c = let a = c.args in
    let p = c.requires in
    let w = a.w.now in
    let f = a.h - a.i * 2 in
    let r = sym c.row_of_home.ensures ∙ c.if-row_of_home-c.true in
    let k : a.h ≡ home_in a.i f = omega arith in
    let free = λ (q : eqb c.row.result 0 ≡ true).
    ne_eqb (field_of w a.i f) a.c (λ e. (shows w a.i a.c f (λ z. omega arith) (search rules) e).lives (sym c.row.ensures ∙ eqb-true c.row.result 0 q)) in
    let taken = λ (q : eqb c.row.result 0 ≡ false).
    eq-eqb (field_of w a.i f) a.c
    (field_shown w a.i f (λ z. omega arith) (λ z. eqb-false c.row.result 0 q (c.row.ensures ∙ z)) (omega (arith, r)) (ap (home_of w) r ∙ p.4 ∙ k) ∙ r) in
    by (eqb (field_of w a.i f) a.c) (eqb c.row.result 0) free taken
  where
    by : (x b : Bool) → (b ≡ true → x ≡ false) → (b ≡ false → x ≡ true) → x ≡ not b
    by x true s t = s refl
    by x false s t = t refl

pub returns-else-row_of_home-c : goal.returns-else-row_of_home-c
returns-else-row_of_home-c c = let a = c.args in
    let w = a.w.now in
    let f = a.h - a.i * 2 in
    ne_eqb (field_of w a.i f) a.c (λ q. c.if-row_of_home-c.false (c.row_of_home.ensures ∙ (shows w a.i a.c f (λ z. omega arith) (search rules) q).names))
    ∙ sym (ne_eqb c.row_of_home.result a.c c.if-row_of_home-c.false)
