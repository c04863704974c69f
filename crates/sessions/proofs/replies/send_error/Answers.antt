-- `replies::send_error` meets its contract: the connection, the frame, and the numbers.
use mathlib.Core.Path.{refl, sym, ap, ◌∙◌}
use mathlib.Core.List.{[]}
use Prim.Native.Nat.{ℕ}
use Rattle.wire.specs.Frame.{frame_of}
use Rattle.model.specs.Acts.{say}
use Rattle.model.specs.Interface.{delivery_answer, Reply.took, Outcome.error_sent}
use Rattle.model.specs.MessageTypes.{Error}
use Rattle.model.specs.State.{open_connection, with_connection}
use Rattle.sessions.specs.Did.{did_plainly, numbers_of}
use Rattle.sessions.specs.Replies.{length_one, one_frame}
use Rattle.state.specs.View.{memory, view}
use Rattle.sessions.proofs.replies.send_error.Goals as goal

pub returns : goal.returns
returns c = let a = c.args in
    λ s. did_plainly (view (memory a.w.now s)) (took error_sent a.taken 0)
    (with_connection (view (memory a.w.now s)).rest a.c (open_connection a.left)) (say a.c Error a.code 0) _ _ _ _ _
    (ap numbers_of c.error_sent.ensures ∙ ap (λ (x : ℕ). delivery_answer (took error_sent a.taken 0) x 0) (sym (length_one a.c Error a.code 0)))
    (c.keep_open.ensures.0 s)
    (one_frame _ _ (frame_of a.c Error a.code 0 []) c.put_frame.ensures)
    refl
    (c.keep_open.ensures.1 s)
