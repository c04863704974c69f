-- `listing::put_list` meets its contract: the old text is wiped, the new one laid, and its length stored.
use Rattle.allowed.specs.Listing.{list_laid, list_tidy}
use Rattle.allowed.proofs.listing.put_list.Goals as goal

pub returns : goal.returns
returns c = let a = c.args in
    let x = rw c.least-n.ensures.0 at c.wipe.ensures in
    rw c.put_bytes.ensures (
      list_laid a.w.now a.strings.now _ a.text.now c.requires c.told-w c.told-strings x,
      λ t. list_tidy a.w.now a.strings.now _ a.text.now c.requires c.told-w c.told-strings x t,
    )
