-- `replies::skip` meets its contract: what is left of the remainder.
use mathlib.Core.Path.{refl, ap, ◌∙◌}
use mathlib.Core.List.{[]}
use Prim.Native.Nat.{ℕ, ◌-◌}
use Rattle.wire.specs.Frame.{bytes_of}
use Rattle.model.specs.Interface.{Reply.took, Outcome.skipped}
use Rattle.model.specs.State.{Rest, open_connection, connection_at, with_connection}
use Rattle.state.specs.Change.{on_rest}
use Rattle.sessions.specs.Did.{did_plainly, numbers_of}
use Rattle.sessions.specs.Replies.{nothing_said}
use Rattle.state.specs.View.{memory, view, rest_of}
use Rattle.sessions.proofs.replies.skip.Goals as goal

pub returns : goal.returns
unfolding bytes_of
returns c = let a = c.args in
    λ s out. did_plainly (view (memory a.w.now s)) (took skipped a.taken 0)
    (with_connection (view (memory a.w.now s)).rest a.c (open_connection ((connection_at (rest_of a.w.now) a.c).remainder - a.taken))) [] _ _
    _ _ _
    (ap numbers_of c.quiet.ensures)
    (c.keep_open.ensures.0 s ∙ ap (λ (x : ℕ). on_rest (view (memory a.w.now s))
    (λ (q : Rest). with_connection q a.c (open_connection (x - a.taken)))) c.requires.2)
    (nothing_said out)
    refl
    (c.keep_open.ensures.1 s)
