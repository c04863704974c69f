-- `events::send_answer` meets its contract: what is read, the exchange, the frame.
use Rattle.exchanges.specs.Events.{answers}
use Rattle.state.specs.View.{locks_of, memory, view}
use Rattle.state.specs.Search.{synchronous_read}
use Rattle.model.specs.State.{at}
use mathlib.Core.Path.{refl}
use Prim.Native.Nat.{◌%◌}
use Rattle.exchanges.proofs.events.send_answer.Goals as goal

pub returns : goal.returns
returns c = let a = c.args in (
  λ s. answers (view (memory a.w.now s)) a.i a.«end» a.payload.now _ _ _ _
      (c.entry.result % 256) c.answer_kind.result
      c.answer_number-id.result.number
      (c.note_answer.ensures.0 s)
      (synchronous_read (at (locks_of a.w.now s).entries a.i) c.entry.result
      (c.entry.ensures.0 s)) c.answer_kind.ensures
      c.answer_number-id.ensures
      c.put_message.ensures refl,
  c.note_answer.ensures.1,
)
