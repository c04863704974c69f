-- `replies::close_silently` meets its contract: the closing, from the front of the buffer.
use mathlib.Core.Path.{sym, ap, ◌∙◌}
use Prim.Native.Nat.{ℕ}
use native.Mathlib.Omega.{arith}
use mathlib.Core.List.{[]}
use Rattle.sessions.specs.Did.{numbers_of}
use Rattle.sessions.specs.Replies.{did_closing, nothing_said, nothing_long}
use Rattle.state.specs.View.{memory, view}
use Rattle.sessions.proofs.replies.close_silently.Goals as goal

pub returns : goal.returns
returns c = let a = c.args in
    let s = a.strings.now in
    let q = c.close_place-end in
    did_closing (view (memory a.w.now s)) a.c a.i [] _ _ _ a.out.now _ _ _ q.result (nothing_said a.out.now) nothing_long (omega (arith, nothing_long)) q.ensures.0
    (ap numbers_of c.closed.ensures ∙ ap (λ (x : ℕ). record { refusal = 0; outcome = 5; session = x; taken = 0; output = q.result; missing = 0 })
    (sym (c.number_of-session.ensures s)))
    q.ensures.1
