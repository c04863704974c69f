-- `hislip_keep_status` meets its contract: the plain call, then the entry of its event.
use Rattle.model.specs.Interface.{Event, Event.status}
use Rattle.state.specs.View.{memory}
use Rattle.entries.specs.Parts.{met}
use Rattle.keep.specs.Calls.{told_status, status_head, numbers_are, body_kept}
use Rattle.keep.proofs.hislip_keep_status.Goals as goal

pub returns : goal.returns
returns c = let a = c.args in
    let m = memory a.words.now a.strings.now in
    let e : Event = status a.status in
    let t = told_status m _ a.status c.hislip_status.ensures.0 in (
      c.hislip_status.ensures,
      body_kept m e _ _ _ t _ _ _ _ _ _
          (numbers_are m e _ _ _ t _ (status_head a.status c.byte-head.ensures))
          (met c.keep_numbers-told.ensures c.from.ensures),
    )
