-- `mode::count_answer` meets its contract: two stores, of the number behind the one that was read.
use native.Mathlib.Omega.{arith}
use mathlib.Core.Path.{sym, ap, ◌∙◌}
use Prim.Native.Nat.{ℕ, ◌%◌, ◌^◌}
use native.Mathlib.Nat.{mod-eq_of_lt}
use Rattle.wire.specs.MessageId.{next, next_fits}
use Rattle.state.specs.View.{memory, view}
use Rattle.sessions.specs.Mode.{count_stepped}
use Rattle.sessions.proofs.mode.count_answer.Goals as goal

pub returns : goal.returns
returns c = let a = c.args in
    let m = c.count_of in
    let n = c.next-id in (
      λ s. count_stepped a.i n.result.number (view (memory a.w.now s)) _ _
          (ap (λ (x : ℕ). x % 2 ^ 32) n.ensures ∙ mod-eq_of_lt (next_fits m.result.number) ∙ ap next (sym m.ensures))
          (c.set_exchange.ensures.0 s) (c.set_exchange-2.ensures.0 s),
      λ s t. c.set_exchange-2.ensures.1 s (omega arith) (c.set_exchange.ensures.1 s (omega (arith, n.ensures, next_fits m.result.number)) t),
    )
