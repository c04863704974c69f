-- `requests::copy_to_front` meets its contract: the bytes are laid aside, and laid in front.
use Rattle.std.specs.Prelude.{◌≡◌, ◌+◌, ◌-◌, List, ℕ, length, take, drop}
use Rattle.std.proofs.Common.{ap, arith, length-drop, length-take, zero-add, ◌∙◌}
use Rattle.wire.specs.Splice.{splice}
use Rattle.queue.proofs.requests.copy_to_front.Goals as goal

pub returns : goal.returns
unfolding splice
returns c = let a = c.args in
    let x : List ℕ = take a.n (drop a.a a.strings.now) in
    let k : a.a + a.n - a.a ≡ a.n = omega arith in
    let e : c.copy_from_slice-2.new.self ≡ x = c.copy_from_slice-2.ensures.after ∙ c.copy_from_slice.ensures.after ∙ ap (λ (m : ℕ). take m (drop a.a a.strings.now)) k in
    let l : length x ≡ a.n = simp (length-take, length-drop) (omega arith) in
    rw (e, l, zero-add)
