-- `hislip_keep_patterns` meets its contract: the plain call, then the entry of its event.
use Rattle.state.specs.View.{memory}
use Rattle.entries.specs.Parts.{met}
use Rattle.keep.specs.Calls.{list_again, told_list, list_within, list_kept}
use Rattle.keep.proofs.lists.hislip_keep_patterns.Goals as goal

pub keep_numbers-told-requires : goal.keep_numbers-told-requires
keep_numbers-told-requires c = let a = c.args in
    let m = memory a.words.now a.strings.now in
    let t = told_list m _ a.text.now _ c.hislip_patterns-r.ensures in
    list_within m a.text.now _ t _ c.one-head.ensures

pub returns : goal.returns
returns c = let a = c.args in
    let m = memory a.words.now a.strings.now in
    let g = c.hislip_patterns-r.ensures in
    let t = told_list m _ a.text.now _ g in
    (list_again c.from.ensures.0 g, list_kept m a.text.now _ t _ c.one-head.ensures _ _ _ _ _ (met c.keep_numbers-told.ensures c.from.ensures.1))
