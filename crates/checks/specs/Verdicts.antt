-- What a verdict of the code means, and a header from its numbers. (Skipping is decided before there is a message.) Assumes nothing.
use Rattle.std.specs.Prelude.{ℕ}
use Rattle.wire.specs.declared.Header.{Header}
use Rattle.model.specs.Checks.{Verdict, Verdict.v_more, Verdict.v_held, Verdict.v_ignored, Verdict.v_closed, Verdict.v_acts, Verdict.v_error, Verdict.v_fatal}
use Rattle.checks.specs.declared.verdict.Verdict.{Verdict as Told}
use Rattle.checks.specs.declared.verdict.Verdict.TheVariants.{More, Held, Ignored, Closed, Acts, Fatal, Error}

abbrev pub verdict_meant : Told → Verdict
verdict_meant More = v_more
verdict_meant Held = v_held
verdict_meant Ignored = v_ignored
verdict_meant Closed = v_closed
verdict_meant Acts = v_acts
verdict_meant (Fatal k) = v_fatal k
verdict_meant (Error k) = v_error k

abbrev pub message : ℕ → ℕ → ℕ → ℕ → Header
message kind code param len = record { kind = kind; code = code; param = param; len = len }
