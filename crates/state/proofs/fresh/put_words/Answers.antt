-- `fresh::put_words` meets its contract: at first every word is 0.
use Rattle.std.specs.Prelude.{ℕ, replicate}
use Rattle.std.proofs.Common.{ap, ◌∙◌}
use Rattle.state.specs.Fresh.{started}
use Rattle.state.proofs.fresh.put_words.Goals as goal

pub loop-i-init : goal.loop-i-init
unfolding started
loop-i-init c = c.fill.ensures.after (λ y e. e) ∙ ap (λ (n : ℕ). replicate n 0) c.told-w
