-- `hislip_keep_watch_off` meets its contract: the plain call, then the entry of its event.
use mathlib.Core.Path.{refl}
use mathlib.Core.List.{[]}
use Rattle.model.specs.Interface.{Event, Event.setting, Setting.watch}
use Rattle.readings.specs.Watch.{Limits.off}
use Rattle.entries.specs.Parts.{met}
use Rattle.keep.specs.Calls.{told_done, none_handed, called_again, off_head, numbers_are, body_kept}
use Rattle.state.specs.View.{memory}
use Rattle.keep.proofs.watches.hislip_keep_watch_off.Goals as goal

pub returns : goal.returns
returns c = let a = c.args in
    let m = memory a.words.now a.strings.now in
    let e : Event = setting (watch a.session off) in
    let t = none_handed (told_done m _ e [] [] refl _ c.hislip_watch_off-r.ensures) in (
      called_again c.from.ensures.0 c.hislip_watch_off-r.ensures,
      body_kept m e _ _ _ t _ _ _ _ _ _ (numbers_are m e _ _ _ t _ (off_head a.session c.one-head.ensures))
          (met c.keep_numbers-told.ensures c.from.ensures.1),
    )
