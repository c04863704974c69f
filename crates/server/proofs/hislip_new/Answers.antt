-- `hislip_new` meets its contract: the memory that is started, with the preference as the byte says it.
use Rattle.server.proofs.hislip_new.Goals as goal

pub returns : goal.returns
returns c = let e = c.start.ensures in record { words = e.0; strings = e.1; shows = e.2 }
