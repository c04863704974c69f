-- `listing::hislip_patterns` meets its contract: refused by the ruling, or kept.
use Rattle.std.proofs.Common.{subst, refl, Err}
use Rattle.commands.specs.declared.ListFault.{ListFault}
use Rattle.commands.specs.Lists.{lines_of}
use Rattle.commands.specs.Rulings.{Ruled}
use Rattle.state.specs.View.{memory}
use Rattle.server.specs.Listing.{room_for, too_many, bad_pattern_lem, taken_list}
use Rattle.server.proofs.listing.hislip_patterns.Goals as goal

pub put_list-requires : goal.put_list-requires
put_list-requires c = room_for c.args.text.now c.in-Ok.ensures

pub returns-in-Err-TooMany : goal.returns-in-Err-TooMany
returns-in-Err-TooMany c = let a = c.args in
    too_many a.text.now _ (memory a.words.now a.strings.now)
    (subst (λ (f : ListFault). Ruled (lines_of a.text.now) (Err f)) c.in-Err-TooMany.field-0-is c.in-Err-TooMany.ensures) refl

pub returns-in-Err-BadPattern : goal.returns-in-Err-BadPattern
returns-in-Err-BadPattern c = let a = c.args in
    bad_pattern_lem a.text.now _ (memory a.words.now a.strings.now) c.in-Err-BadPattern.pattern c.in-Err-BadPattern.place
    (subst (λ (f : ListFault). Ruled (lines_of a.text.now) (Err f)) c.in-Err-BadPattern.field-0-is c.in-Err-BadPattern.ensures) refl

pub returns-in-Ok : goal.returns-in-Ok
returns-in-Ok c = let a = c.args in
    taken_list a.text.now _ (memory a.words.now a.strings.now) _ c.in-Ok.ensures c.put_list.ensures.0 c.put_list.ensures.1 refl
