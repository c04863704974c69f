-- `search::place_at` meets its contract: by the home, and whether the slot shows a second connection.
use mathlib.Core.Path.{◌≡◌, sym, ap, ◌∙◌}
use Prim.Native.Nat.{◌+◌, ◌-◌, ◌*◌, ◌<◌}
use native.Mathlib.Omega.{arith}
use Rattle.state.specs.OneLook.{role_second, role_half, role_first}
use Rattle.state.specs.Search.{seat}
use Rattle.model.specs.Sizes.{connection_limit, no_connection}
use Rattle.state.specs.Confirmed.{field_past, field_stray, field_shown}
use Rattle.state.specs.View.{field_of, home_in, home_of, row_word}
use borrow.Author.Rules.{rules}
use Rattle.state.proofs.search.place_at.Goals as goal

pub returns-then-h-eq0-clause-found : goal.returns-then-h-eq0-clause-found
returns-then-h-eq0-clause-found c = let a = c.args in
    let w = a.w.now in
    let f : a.h - a.i * 2 ≡ 2 = omega (arith, c.if-h-eq0.true) in
    λ s x l e. ap (seat a.i) (role_second w s x l a.i (search rules) (ap (field_of w a.i) (sym f) ∙ e))

pub returns-then-second-ge-CONNECTIONS-clause-found : goal.returns-then-second-ge-CONNECTIONS-clause-found
returns-then-second-ge-CONNECTIONS-clause-found c = let a = c.args in
    let w = a.w.now in
    let f : a.h - a.i * 2 ≡ 1 = omega (arith, c.if-h-eq0.false) in
    λ s x l e. ap (seat a.i) (role_half w s x l a.i (search rules) (ap (field_of w a.i) (sym f) ∙ e)
    (field_past w a.i 2 (λ z. omega arith) (omega (arith, c.row-second.ensures, c.if-second-ge-CONNECTIONS.true))))

pub returns-then-home-h-clause-found : goal.returns-then-home-h-clause-found
returns-then-home-h-clause-found c = let a = c.args in
    let w = a.w.now in
    let f : a.h - a.i * 2 ≡ 1 = omega (arith, c.if-h-eq0.false) in
    let k : home_in a.i 2 ≡ a.h + 1 = omega (arith, f) in
    let r = c.row-second.ensures in
    λ s x l e. ap (seat a.i) (role_half w s x l a.i (search rules) (ap (field_of w a.i) (sym f) ∙ e)
    (field_stray w a.i 2 (λ z. omega arith) (λ q. c.if-home-h.true (c.home.ensures ∙ ap (home_of w) r ∙ q ∙ k))))

pub returns-clause-found : goal.returns-clause-found
returns-clause-found c = let a = c.args in
    let p = c.requires in
    let w = a.w.now in
    let f : a.h - a.i * 2 ≡ 1 = omega (arith, c.if-h-eq0.false) in
    let k : a.h + 1 ≡ home_in a.i 2 = omega (arith, f) in
    let r = c.row-second.ensures in
    let n : row_word w a.i 2 < connection_limit = omega (arith, r, c.if-second-ge-CONNECTIONS.false) in
    let y : field_of w a.i 2 ≡ row_word w a.i 2 = field_shown w a.i 2 (λ z. omega arith) p.3 n (ap (home_of w) (sym r) ∙ sym c.home.ensures ∙ c.if-home-h.false ∙ k) in
    λ s x l e. ap (seat a.i) (role_first w s x l a.i (search rules) (ap (field_of w a.i) (sym f) ∙ e) (λ q. let z : row_word w a.i 2 ≡ no_connection = sym y ∙ q in omega arith))
