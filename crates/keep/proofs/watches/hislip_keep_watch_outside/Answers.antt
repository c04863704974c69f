-- `hislip_keep_watch_outside` meets its contract: the plain call, then the entry of its event.
use mathlib.Core.Path.{refl}
use mathlib.Core.List.{[]}
use Rattle.model.specs.Interface.{Event, Event.setting, Setting.watch}
use Rattle.readings.specs.Bits.{bits}
use Rattle.readings.specs.Watch.{Limits.outside}
use Rattle.entries.specs.Parts.{met}
use Rattle.keep.specs.Calls.{told_done, none_handed, called_again, outside_head, numbers_kept_if}
use Rattle.state.specs.View.{memory}
use Rattle.keep.proofs.watches.hislip_keep_watch_outside.Goals as goal

pub returns : goal.returns
returns c = let a = c.args in
    let m = memory a.words.now a.strings.now in
    let e : Event = setting (watch a.session (outside (bits a.low) (bits a.high))) in
    let t = none_handed (told_done m _ e [] [] refl _ c.hislip_watch_outside-r.ensures) in (
      called_again c.from.ensures.0 c.hislip_watch_outside-r.ensures,
      numbers_kept_if m e _ _ _ t _ _ _ _ _ _ (outside_head m a.session (bits a.low) (bits a.high) _ _ _ _ t
          c.bits_of-x.ensures.0
          c.bits_of-y.ensures.0
          c.triple-head.ensures)
          (met c.keep_numbers-told.ensures c.from.ensures.1),
    )
