-- `interrupted::in_turn` meets its contract: by the two words that are compared.
use Rattle.model.specs.State.{exchange_at}
use Rattle.exchanges.specs.Interrupted.{differs_by_words, wide_bit}
use Rattle.state.specs.View.{rest_of}
use Rattle.exchanges.proofs.interrupted.in_turn.Goals as goal

pub returns : goal.returns
returns c = let a = c.args in
    let e = c.exchange in
    differs_by_words (exchange_at (rest_of a.w.now) a.i) a.code e.result c.same_number.result c.same_number-expected.result e.ensures.0
    (wide_bit c.from.result a.code _ c.from.ensures c.same_number.ensures.0) c.same_number-expected.ensures.0
