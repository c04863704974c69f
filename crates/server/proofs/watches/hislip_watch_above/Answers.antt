-- `watches::hislip_watch_above` meets its contract: a watch above its limit.
use mathlib.Core.Path.{sym, subst}
use mathlib.Core.List.{[]}
use Rattle.readings.specs.Bits.{bits}
use Rattle.readings.specs.Watch.{limits, Limits.above}
use Rattle.model.specs.Interface.{Event.setting, Setting.watch}
use Rattle.state.specs.View.{memory}
use Rattle.server.specs.declared.Done.{Done}
use Rattle.server.specs.Events.{Called}
use Rattle.server.proofs.watches.hislip_watch_above.Goals as goal

pub returns : goal.returns
unfolding limits
returns c = let a = c.args in
    let n = c.set_watch.new in
    subst (λ (r : Done). Called (setting (watch a.session (above (bits a.limit)))) r (memory a.words.now a.strings.now) (memory n.words n.strings) [] []) (sym c.from.ensures) c.set_watch.ensures
