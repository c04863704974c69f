-- `replies::send_fatal` meets its contract: the frames, then the closing behind them.
use mathlib.Core.Path.{sym, ap, ◌∙◌}
use Prim.Native.Nat.{ℕ}
use native.Mathlib.Omega.{arith}
use Rattle.model.specs.Step.{channels}
use Rattle.sessions.specs.Did.{numbers_of}
use Rattle.sessions.specs.Replies.{did_closing, fatals}
use Rattle.state.specs.View.{memory, view}
use Rattle.sessions.proofs.replies.send_fatal.Goals as goal

pub returns : goal.returns
returns c = let a = c.args in
    let s = a.strings.now in
    let p = c.put_fatal-at.ensures in
    let q = c.close_place-end in
    did_closing (view (memory a.w.now s)) a.c a.i (fatals a.code (channels (view (memory a.w.now s)) a.c)) _ _ _ a.out.now _ _ _
    q.result (p.1 s) (p.2 s) (omega (arith, p.2 s)) q.ensures.0
    (ap numbers_of c.closed.ensures ∙ ap (λ (x : ℕ). record { refusal = 0; outcome = 5; session = x; taken = 0; output = q.result; missing = 0 })
    (sym (c.number_of-session.ensures s)))
    q.ensures.1
