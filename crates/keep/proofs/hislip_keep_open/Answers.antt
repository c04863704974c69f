-- `hislip_keep_open` meets its contract: the plain call, then the entry of its event.
use mathlib.Core.Path.{refl}
use mathlib.Core.List.{[]}
use Rattle.model.specs.Interface.{Event, Event.opening}
use Rattle.state.specs.View.{memory}
use Rattle.entries.specs.Parts.{met}
use Rattle.keep.specs.Calls.{told_done, none_handed, opening_head, numbers_are, body_kept, called_again}
use Rattle.keep.proofs.hislip_keep_open.Goals as goal

pub returns : goal.returns
returns c = let a = c.args in
    let m = memory a.words.now a.strings.now in
    let e : Event = opening a.connection in
    let t = none_handed (told_done m _ e [] [] refl _ c.hislip_open-r.ensures) in (
      called_again c.from.ensures.0 c.hislip_open-r.ensures,
      body_kept m e _ _ _ t _ _ _ _ _ _
          (numbers_are m e _ _ _ t _ (opening_head a.connection c.one-head.ensures))
          (met c.keep_numbers-told.ensures c.from.ensures.1),
    )
