-- The refusals of the code, by the numbers that the host is told. Assumes nothing.
use Rattle.std.specs.Prelude.{ℕ}
use Rattle.model.specs.Interface.{no_such_connection, already_open, clock_back, clock_above, nothing_asked, answer_too_long, buffer_too_small, no_such_session, bad_limits}
use Rattle.model.specs.Holders.{list_too_short}
use Rattle.sessions.specs.declared.refusal.Refusal.{Refusal}
use Rattle.sessions.specs.declared.refusal.Refusal.TheVariants.{NoSuchConnection, AlreadyOpen, ClockBack, ClockAbove, NothingAsked, AnswerTooLong, BufferTooSmall, NoSuchSession, ListTooShort, BadLimits}

abbrev pub number_of : Refusal → ℕ
number_of NoSuchConnection = no_such_connection
number_of AlreadyOpen = already_open
number_of ClockBack = clock_back
number_of ClockAbove = clock_above
number_of NothingAsked = nothing_asked
number_of AnswerTooLong = answer_too_long
number_of BufferTooSmall = buffer_too_small
number_of NoSuchSession = no_such_session
number_of ListTooShort = list_too_short
number_of BadLimits = bad_limits
