-- `session_id::next_session_id` meets its contract. The invariant: the tries that are left give the whole.
use mathlib.Core.Path.{◌≡◌, ap, ◌∙◌}
use mathlib.Core.List.{List}
use Prim.Native.Nat.{ℕ, ◌%◌}
use native.Mathlib.Omega.{arith}
use Rattle.model.specs.State.{Entry}
use Rattle.state.specs.View.{locks_of, rest_of}
use Rattle.sessions.specs.SessionIds.{tried, last_read, live_found, live_missed, tries_start, tries_go_on, tries_hit, tries_end}
use Rattle.sessions.proofs.session_id.next_session_id.Goals as goal

pub loop-k-init : goal.loop-k-init
loop-k-init c = (
    λ s. tries_start (locks_of c.args.w.now s).entries (rest_of c.args.w.now).last_issued
    (c.single-last.result % 65536) (last_read (rest_of c.args.w.now) c.single-last.result c.single-last.ensures.0)
    )

pub returns-then-slot_of_number-ge-SESSION_LIMIT : goal.returns-then-slot_of_number-ge-SESSION_LIMIT
returns-then-slot_of_number-ge-SESSION_LIMIT c = let a = c.args in let l = c.loop-k in let last =
    c.single-last.result % 65536 in let es : List ℕ → List Entry = (λ s. (locks_of a.w.now s).entries) in (
      omega arith,
      omega arith,
      λ s. l.invariant s ∙ tries_hit (es s) last l.k (omega arith)
          (live_missed a.w.now s (tried last l.k) _ (c.slot_of_number.ensures.1 s) (omega arith)),
    )

pub loop-k-preserved : goal.loop-k-preserved
loop-k-preserved c = let a = c.args in let l = c.loop-k in let last =
    c.single-last.result % 65536 in let es : List ℕ → List Entry = (λ s. (locks_of a.w.now s).entries) in (
    λ s. l.invariant s ∙ tries_go_on (es s) last l.k (omega arith)
    (live_found a.w.now s (tried last l.k) _ (c.slot_of_number.ensures.1 s) (omega arith) (omega arith))
    )

pub returns : goal.returns
returns c = let a = c.args in let l = c.loop-k in let last = c.single-last.result % 65536 in let es : List ℕ →
    List Entry = (λ s. (locks_of a.w.now s).entries) in (omega arith, omega arith, λ s. l.invariant s ∙ tries_end (es s) last l.k (omega arith) ∙ ap (tried last) (let e : l.k ≡ 32 = omega arith in e))
