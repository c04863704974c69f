-- The first byte of a body, by its event (docs/JOURNAL.md, "Bodies"). Assumes nothing.
use Rattle.std.specs.Prelude.{ℕ}
use Rattle.entries.specs.declared.heads.Tag.{Tag}
use Rattle.entries.specs.declared.heads.Tag.TheVariants.{Opening, Delivery, Cut, Clock, Answer, Status, WatchOff, WatchAbove, WatchOutside, Patterns}

abbrev pub tag_of : Tag → ℕ
tag_of Opening = 0
tag_of Delivery = 1
tag_of Cut = 2
tag_of Clock = 3
tag_of Answer = 4
tag_of Status = 5
tag_of WatchOff = 6
tag_of WatchAbove = 7
tag_of WatchOutside = 8
tag_of Patterns = 9
