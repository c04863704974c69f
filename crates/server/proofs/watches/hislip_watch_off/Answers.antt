-- `watches::hislip_watch_off` meets its contract: a watch off.
use mathlib.Core.Path.{sym, subst}
use mathlib.Core.List.{[]}
use Rattle.readings.specs.Watch.{limits, Limits.off}
use Rattle.model.specs.Interface.{Event.setting, Setting.watch}
use Rattle.state.specs.View.{memory}
use Rattle.server.specs.declared.Done.{Done}
use Rattle.server.specs.Events.{Called}
use Rattle.server.proofs.watches.hislip_watch_off.Goals as goal

pub returns : goal.returns
unfolding limits
returns c = let a = c.args in
    let n = c.set_watch.new in
    subst (λ (r : Done). Called (setting (watch a.session off)) r (memory a.words.now a.strings.now) (memory n.words n.strings) [] []) (sym c.from.ensures) c.set_watch.ensures
