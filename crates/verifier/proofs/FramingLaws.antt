-- Laws of what specs/Framing.antt defines. Assumes nothing.
use Rattle.std.specs.Prelude.{◌≡◌, List, ℕ, Result, Ok, Err, ◌+◌, leb, length, take}
use Rattle.std.proofs.Math.Path.{refl}
use Rattle.std.proofs.Common.{◌∙◌}
use Rattle.std.proofs.Math.Bool.{Bool, true, false}
use Rattle.std.proofs.Math.Dec.{eqb}
use Rattle.wire.specs.Field.{number_at}
use Rattle.crc.specs.Crc.{crc_of}
use Rattle.journal.specs.Journal.{choose, body_limit, length_of, body_of}
use Rattle.record.specs.Layout.{Event, decode}
use Rattle.verifier.specs.Judge.{in_length, in_distance, in_sum, in_trailer, wrong, Deed, Place, Next}
use Rattle.verifier.specs.Judge.{stops, is_back, by_step, by_event, entry_of}
use Rattle.verifier.specs.Feed.{Reading, reading, done, by_next, settle}
use Rattle.verifier.specs.Framing.{framing_of, fault_of, by_framing, to}
use Rattle.verifier.specs.declared.Fault.{Fault}
use Rattle.verifier.specs.declared.Fault.TheVariants.{Length, Distance, Sum, Trailer}
use Rattle.verifier.specs.declared.Progress.{Progress}
use Rattle.verifier.specs.declared.Progress.TheVariants.{More, Whole}

module _ {S : Type 0} (deed : S → Event → Deed S) where
  module _ (p : Place S) (s : List ℕ) where
    to_choose : (c : Bool) (a b : Result Progress Fault) (x y : Reading S) → x ≡ (to {S = S} deed p s) a → y ≡ (to {S = S} deed p s) b → choose c x y ≡ (to {S = S} deed p s) (choose c a b)
    unfolding choose
    to_choose true a b x y e f = e
    to_choose false a b x y e f = f

    is_more : reading p s ≡ (to {S = S} deed p s) (Ok More)
    unfolding by_framing
    is_more = refl

    at_length : done (wrong p.count in_length) ≡ (to {S = S} deed p s) (Err Length)
    unfolding by_framing fault_of
    at_length = refl

    at_distance : by_next (stops (wrong p.count in_distance)) ≡ (to {S = S} deed p s) (Err Distance)
    unfolding by_framing fault_of by_next
    at_distance = refl

    at_sum : by_next (stops (wrong p.count in_sum)) ≡ (to {S = S} deed p s) (Err Sum)
    unfolding by_framing fault_of by_next
    at_sum = refl

    at_trailer : done (wrong p.count in_trailer) ≡ (to {S = S} deed p s) (Err Trailer)
    unfolding by_framing fault_of
    at_trailer = refl

    is_whole : by_next (by_step p (length s) (by_event deed p.server (decode (body_of s)))) ≡ (to {S = S} deed p s) (Ok Whole)
    unfolding by_framing
    is_whole = refl

    next_choose : (c : Bool) (x y : Next S) → by_next (choose c x y) ≡ choose c (by_next x) (by_next y)
    unfolding choose
    next_choose true x y = refl
    next_choose false x y = refl

    entry_frame : by_next (entry_of deed p s)
        ≡ (to {S = S} deed p s) (choose (eqb (number_at s (length_of s + 4) 4) (length_of s + 4))
        (choose (eqb (number_at s (length_of s + 8) 4) (crc_of (take (length_of s + 4) s))) (Ok Whole) (Err Sum))
        (Err Distance))
    unfolding entry_of
    entry_frame =
        let c : Bool = eqb (number_at s (length_of s + 4) 4) (length_of s + 4) in
        let d : Bool = eqb (number_at s (length_of s + 8) 4) (crc_of (take (length_of s + 4) s)) in
        next_choose c _ _ ∙ to_choose c (choose d (Ok Whole) (Err Sum)) (Err Distance) _ _ (next_choose d _ _ ∙ to_choose d (Ok Whole) (Err Sum) _ _ is_whole at_sum) at_distance

    -- A byte more, by the answer: all of `settle` but the layout and the server.
    pub settle_framing : settle deed p s ≡ (by_framing {S = S} deed) p s (framing_of s)
    unfolding settle framing_of
    settle_framing =
        to_choose (leb (length s) 3) (Ok More) _ _ _ is_more
        (to_choose (is_back s) _ _ _ _ (to_choose (leb (length s) 12) (Ok More) (Err Trailer) _ _ is_more at_trailer)
        (to_choose (leb (length_of s) body_limit) _ (Err Length) _ _ (to_choose (leb (length_of s + 12) (length s)) _ (Ok More) _ _ entry_frame is_more) at_length))
