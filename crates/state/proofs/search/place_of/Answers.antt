-- `search::place_of` meets its contract: no home, a home past the table, one that its slot does not confirm, the session.
use mathlib.Core.Path.{◌≡◌, sym, ◌∙◌}
use mathlib.Core.Logic.{◌⊎◌, inl, inr}
use mathlib.Core.List.{List}
use Prim.Native.Nat.{ℕ, ◌-◌, ◌*◌, ◌/◌, ◌<◌}
use native.Mathlib.Omega.{arith}
use borrow.Author.Tests.{eqb-true}
use Rattle.model.specs.Sizes.{connection_limit, session_limit}
use Rattle.state.specs.Channels.{Unshown}
use Rattle.state.specs.Confirmed.{shows}
use Rattle.state.specs.OneLook.{no_home, not_confirmed, nowhere_meant, seat_found}
use Rattle.state.specs.View.{field_of, home_of}
use borrow.Author.Rules.{rules}
use Rattle.state.proofs.search.place_of.Goals as goal

outside : (w : List ℕ) (c h : ℕ) → c < connection_limit → h ≡ home_of w c → (h ≡ 0) ⊎ ((h ≡ 0 → ⊥) × (session_limit * 2 < h)) → Unshown w c
outside w c h l e (inl z) = no_home w c l (inl (sym e ∙ z))
outside w c h l e (inr z) = no_home w c l (inr (omega (arith, e, z.1)))

pub returns-then-h-eq0-clause-unshown : goal.returns-then-h-eq0-clause-unshown
returns-then-h-eq0-clause-unshown c = λ z. outside c.args.w.now c.args.c c.home-h.result (search rules) c.home-h.ensures c.then-h-eq0.either

pub returns-then-h-eq0-clause-found : goal.returns-then-h-eq0-clause-found
returns-then-h-eq0-clause-found c = λ s. nowhere_meant c.args.w.now s c.args.c (search rules) (outside c.args.w.now c.args.c c.home-h.result (search rules) c.home-h.ensures c.then-h-eq0.either)

pub returns-then-not-is_confirmed-clause-unshown : goal.returns-then-not-is_confirmed-clause-unshown
returns-then-not-is_confirmed-clause-unshown c = let a = c.args in
    let h = c.home-h in
    let i = (h.result - 1) / 2 in
    let f = h.result - i * 2 in
    λ z. not_confirmed a.w.now a.c (search rules) i f (omega (arith, c.if-h-eq0.false)) (omega arith)
    (sym h.ensures ∙ omega (arith, c.if-h-eq0.false))
    (c.is_confirmed.ensures ∙ c.if-not-is_confirmed.true)

pub returns-then-not-is_confirmed-clause-found : goal.returns-then-not-is_confirmed-clause-found
returns-then-not-is_confirmed-clause-found c = let a = c.args in
    let h = c.home-h in
    let i = (h.result - 1) / 2 in
    let f = h.result - i * 2 in
    λ s. nowhere_meant a.w.now s a.c (search rules)
    (not_confirmed a.w.now a.c (search rules) i f (omega (arith, c.if-h-eq0.false)) (omega arith)
    (sym h.ensures ∙ omega (arith, c.if-h-eq0.false))
    (c.is_confirmed.ensures ∙ c.if-not-is_confirmed.true))

pub place_at-requires : goal.place_at-requires
place_at-requires c = let a = c.args in
    let w = a.w.now in
    let h = c.home-h in
    let i = (h.result - 1) / 2 in
    let f = h.result - i * 2 in
    let e : field_of w i f ≡ a.c = eqb-true (field_of w i f) a.c (c.is_confirmed.ensures ∙ c.if-not-is_confirmed.false) in (
      omega (arith, c.if-h-gt-LAST_HOME.false),
      omega (arith, c.if-h-eq0.false),
      omega arith,
      (shows w i a.c f (λ z. omega (arith, c.if-h-eq0.false)) (search rules) e).lives,
    )

pub returns-clause-found : goal.returns-clause-found
returns-clause-found c = let a = c.args in
    let w = a.w.now in
    let h = c.home-h in
    let i = (h.result - 1) / 2 in
    let f = h.result - i * 2 in
    let e : field_of w i f ≡ a.c = eqb-true (field_of w i f) a.c (c.is_confirmed.ensures ∙ c.if-not-is_confirmed.false) in
    λ s. seat_found w s a.c (search rules) i f (omega (arith, c.if-h-gt-LAST_HOME.false))
    (omega (arith, c.if-h-eq0.false)) (omega arith) e
    ∙ c.place_at.ensures.found s a.c (search rules) e
