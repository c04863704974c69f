-- `closing::close_parts` meets its contract: the connection alone, or the session with all that it has.
use native.Mathlib.Omega.{arith}
use mathlib.Core.Path.{sym, ap, ◌∙◌}
use mathlib.Core.List.{List}
use Prim.Native.Nat.{ℕ}
use Rattle.model.specs.State.{Rest, Server, with_connections}
use Rattle.model.specs.Step.{shut_all}
use Rattle.state.specs.Change.{on_rest}
use Rattle.state.specs.View.{memory, view}
use Rattle.sessions.specs.Closing.{channels_of, closed_alone, closed_session}
use borrow.Author.Rules.{rules}
use Rattle.sessions.proofs.closing.close_parts.Goals as goal

pub returns-then-i-ge-SESSION_LIMIT : goal.returns-then-i-ge-SESSION_LIMIT
returns-then-i-ge-SESSION_LIMIT c = let a = c.args in
    let s = a.strings.now in
    let x = c.shut_connection.ensures in
    (closed_alone a.w.now s a.c a.i (c.requires s) (search rules) _ (x.0 s), x.1 s)

pub returns : goal.returns
returns c = let a = c.args in
    let s = a.strings.now in
    let d : Server = view (memory a.w.now s) in
    let f = c.requires s in
    let x = c.shut_channels.ensures in
    let y = c.renew_exchange.ensures in
    let f₂ = c.forget.ensures in
    let z = c.close_slot.ensures in (
      closed_session a.w.now s a.c a.i f (search rules) _ _ _ _
          (x.0 s ∙ ap (λ (l : List ℕ). on_rest d (λ (r : Rest). with_connections r (shut_all r.connections l))) (sym (channels_of a.w.now s a.c a.i f (search rules))))
          (y.0 s) (f₂.0 s) z.locks z.rest,
      λ t. z.tidy (f₂.1 s (y.1 s (omega arith) (x.1 s t))),
    )
