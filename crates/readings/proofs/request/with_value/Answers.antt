-- `request::with_value` meets its contract, at each of its two values.
use Rattle.std.proofs.Common.{⊎_elim, arith}
use Rattle.readings.proofs.Requests.{joined_16, joined_64}
use Rattle.readings.proofs.request.with_value.Goals as goal

pub returns : goal.returns
returns c =
    let s = c.args.status in
    ⊎_elim (λ e. rw e (joined_16 s (omega arith))) (λ e. rw e (joined_64 s (omega arith))) c.requires
