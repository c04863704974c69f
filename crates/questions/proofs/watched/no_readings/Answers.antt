-- `watched::no_readings` meets its contract: all is 0.
use Rattle.readings.specs.Order.{bits_zero}
use Rattle.questions.proofs.watched.no_readings.Goals as goal

pub returns : goal.returns
returns c = λ k. record { refusal = c.args.refusal; seen = 0; last = bits_zero k; lowest = bits_zero k; highest = bits_zero k }
