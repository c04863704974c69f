-- `closing::shut_channels` meets its contract: the synchronous connection, and the asynchronous one if there is one.
use mathlib.Core.Path.{sym, ap, ◌∙◌}
use mathlib.Core.List.{List}
use Prim.Native.Nat.{ℕ, ◌%◌}
use Rattle.model.specs.State.{Entry, Rest, Server, at, with_connections}
use Rattle.model.specs.Step.{shut_all}
use Rattle.state.specs.Change.{on_rest}
use Rattle.state.specs.View.{locks_of, memory, view}
use Rattle.state.specs.Search.{synchronous_read, asynchronous_read}
use Rattle.sessions.specs.Closing.{one_channel, two_channels, shut_both}
use Rattle.sessions.proofs.closing.shut_channels.Goals as goal

pub returns-then-y-eq-NO_CONNECTION : goal.returns-then-y-eq-NO_CONNECTION
returns-then-y-eq-NO_CONNECTION c = let a = c.args in (
  λ s. let e : Entry = at (locks_of a.w.now s).entries a.i in
      let d : Server = view (memory a.w.now s) in
      let x = c.entry-x.result % 256 in
      let y = c.entry-y.result % 256 in
      let p = synchronous_read e c.entry-x.result (c.entry-x.ensures.0 s) in
      let q = asynchronous_read e c.entry-y.result (c.entry-y.ensures.0 s) in
      c.shut_connection.ensures.0 s ∙ ap (λ (l : List ℕ). on_rest d (λ (r : Rest). with_connections r (shut_all r.connections l))) (sym (one_channel e x y p q c.if-y-eq-NO_CONNECTION.true)),
  λ s. c.shut_connection.ensures.1 s,
)

pub returns : goal.returns
returns c = let a = c.args in (
  λ s. let e : Entry = at (locks_of a.w.now s).entries a.i in
      let d : Server = view (memory a.w.now s) in
      let x = c.entry-x.result % 256 in
      let y = c.entry-y.result % 256 in
      let p = synchronous_read e c.entry-x.result (c.entry-x.ensures.0 s) in
      let q = asynchronous_read e c.entry-y.result (c.entry-y.ensures.0 s) in
      shut_both d _ _ x y (c.shut_connection.ensures.0 s) (c.shut_connection-2.ensures.0 s)
      ∙ ap (λ (l : List ℕ). on_rest d (λ (r : Rest). with_connections r (shut_all r.connections l)))
      (sym (two_channels e x y p q c.if-y-eq-NO_CONNECTION.false)),
  λ s t. c.shut_connection-2.ensures.1 s (c.shut_connection.ensures.1 s t),
)
