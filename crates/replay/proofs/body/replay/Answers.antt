-- `body::replay` meets its contract.
use Rattle.state.specs.View.{memory}
use Rattle.replay.proofs.Laws.{judged, no_layout}
use Rattle.replay.proofs.body.replay.Goals as goal

pub returns-in_default : goal.returns-in_default
returns-in_default c = no_layout _ _ c.in_default.ensures

pub returns-in-Opening : goal.returns-in-Opening
returns-in-Opening c = let a = c.args in judged (memory a.words.now a.strings.now) _ _ _ _ _ _ c.in-Opening.is c.in-Some.ensures c.opens.ensures

pub returns-in-Delivery : goal.returns-in-Delivery
returns-in-Delivery c = let a = c.args in judged (memory a.words.now a.strings.now) _ _ _ _ _ _ c.in-Delivery.is c.in-Some.ensures c.delivers.ensures

pub returns-in-Cut : goal.returns-in-Cut
returns-in-Cut c = let a = c.args in judged (memory a.words.now a.strings.now) _ _ _ _ _ _ c.in-Cut.is c.in-Some.ensures c.cuts.ensures

pub returns-in-Clock : goal.returns-in-Clock
returns-in-Clock c = let a = c.args in judged (memory a.words.now a.strings.now) _ _ _ _ _ _ c.in-Clock.is c.in-Some.ensures c.reads_clock.ensures

pub returns-in-Answer : goal.returns-in-Answer
returns-in-Answer c = let a = c.args in judged (memory a.words.now a.strings.now) _ _ _ _ _ _ c.in-Answer.is c.in-Some.ensures c.answers.ensures

pub returns-in-Status : goal.returns-in-Status
returns-in-Status c = let a = c.args in judged (memory a.words.now a.strings.now) _ _ _ _ _ _ c.in-Status.is c.in-Some.ensures c.sets_status.ensures

pub returns-in-WatchOff : goal.returns-in-WatchOff
returns-in-WatchOff c = let a = c.args in judged (memory a.words.now a.strings.now) _ _ _ _ _ _ c.in-WatchOff.is c.in-Some.ensures c.sets_off.ensures

pub returns-in-WatchAbove : goal.returns-in-WatchAbove
returns-in-WatchAbove c = let a = c.args in judged (memory a.words.now a.strings.now) _ _ _ _ _ _ c.in-WatchAbove.is c.in-Some.ensures c.sets_above.ensures

pub returns-in-WatchOutside : goal.returns-in-WatchOutside
returns-in-WatchOutside c = let a = c.args in judged (memory a.words.now a.strings.now) _ _ _ _ _ _ c.in-WatchOutside.is c.in-Some.ensures c.sets_outside.ensures

pub returns-in-Patterns : goal.returns-in-Patterns
returns-in-Patterns c = let a = c.args in judged (memory a.words.now a.strings.now) _ _ _ _ _ _ c.in-Patterns.is c.in-Some.ensures c.sets_list.ensures
