-- What a host can show: where bytes are handed over they are bytes. The C interface takes uint8_t there, so each of its calls is possible.
use Rattle.std.specs.Prelude.{List, [], ◌∷◌, ◌<◌}
use Rattle.wire.specs.Field.{Bytes}
use Rattle.model.specs.Interface.{Event, Event.opening, Event.delivery, Event.cut, Event.clock, Event.answer, Event.status, Event.setting}

abbrev pub Possible : Event → Type 0
Possible (opening c) = Unit {0}
Possible (delivery c bs room) = Bytes bs
Possible (cut c room) = Unit {0}
Possible (clock t room) = Unit {0}
Possible (answer n p end sh room) = Bytes p × Bytes sh
Possible (status b) = b < 256
Possible (setting s) = Unit {0}

abbrev pub AllPossible : List Event → Type 0
AllPossible [] = Unit {0}
AllPossible (e ∷ es) = Possible e × AllPossible es
