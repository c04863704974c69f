-- What each outcome of the code means. Assumes nothing.
use Rattle.model.specs.Interface.{Outcome, Outcome.more_needed, Outcome.skipped, Outcome.held, Outcome.ignored, Outcome.error_sent, Outcome.closed, Outcome.acted}
use Rattle.sessions.specs.declared.outcome.Outcome.{Outcome as Told}
use Rattle.sessions.specs.declared.outcome.Outcome.TheVariants.{MoreNeeded, Skipped, Held, Ignored, ErrorSent, Closed, Acted}

abbrev pub outcome_meant : Told → Outcome
outcome_meant MoreNeeded = more_needed
outcome_meant Skipped = skipped
outcome_meant Held = held
outcome_meant Ignored = ignored
outcome_meant ErrorSent = error_sent
outcome_meant Closed = closed
outcome_meant Acted = acted
