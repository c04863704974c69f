-- `fresh::start` meets its contract: the words, the bytes, and what they show.
use Rattle.std.specs.Prelude.{◌≡◌, List, ℕ, replicate, set}
use Rattle.std.proofs.Common.{rules, ap, ap₂, ◌∙◌}
use Rattle.state.specs.Fresh.{flag_word, fresh_strings, fresh_view, fresh_words}
use Rattle.model.specs.State.{Making}
use Rattle.state.specs.View.{memory, view}
use Rattle.state.proofs.fresh.start.Goals as goal

pub returns : goal.returns
returns c = let a = c.args in
    let m : Making = record { vendor = a.vendor; prefers_overlap = a.overlap } in
    let o : c.from-2.result ≡ flag_word a.overlap = search rules in
    let w : set (set c.put_words.new.w 0 c.from.result) 1 c.from-2.result ≡ fresh_words m =
    ap₂ (λ (l : List ℕ) (x : ℕ). set l 1 x) (ap₂ (λ (l : List ℕ) (x : ℕ). set l 0 x) c.put_words.ensures c.from.ensures) o in
    let z : c.fill.new.self ≡ fresh_strings = c.fill.ensures.after (λ y e. e) ∙ ap (λ (n : ℕ). replicate n 0) c.told-strings in
    (w, z, ap₂ (λ (x y : List ℕ). view (memory x y)) w z ∙ fresh_view m (search rules))
