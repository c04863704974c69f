-- P, proved: by the invariant of the run.
use mathlib.Core.List.{List}
use native.Mathlib.Omega.{arith}
use Rattle.model.specs.State.{fresh, Making}
use Rattle.model.specs.Interface.{Event}
use Rattle.model.specs.Step.{final}
use Rattle.model.specs.AlwaysRoom.{AlwaysRoom}
use Rattle.claims.proofs.Waiting.{room_to_wait, request_rule}
use Rattle.claims.proofs.Fits.{inv_run}

pub always_room : (v : Making) (es : List Event) → AlwaysRoom v es
always_room v es =
    let l = (final (fresh v) es).locks in
    let s = (inv_run v es).sound in
    record {
      room = λ i h. record {
        fewer_wait = λ a. omega (arith, room_to_wait l.entries l.waiting i s.good h a, s.firm.slots);
        as_in_01 = λ t k. request_rule l s.good s.firm i h t k;
      };
    }
