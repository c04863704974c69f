-- The definition on small books, computed. The server here keeps the status byte, gives no frames, and refuses all other events. Assumes nothing.
use Rattle.std.specs.Prelude.{◌≡◌, refl, [], ◌∷◌, ◌++◌, ℕ, take}
use Rattle.wire.specs.Field.{field}
use Rattle.crc.specs.Crc.{steps, bit_step, byte_step, feed_of, crc_of}
use Rattle.journal.specs.Journal.{choose, entry, entries, closing, length_of, closed_journal, last_from}
use Rattle.record.specs.Layout.{Event, opening, delivery, cut, clock, answer, status, watch_off, watch_above, watch_outside, patterns, encode, decode, by_tag}
use Rattle.record.specs.Layout.{and_then, get_number, get_status, get_clock}
use Rattle.verifier.specs.Judge.{accepted, wrong, in_length, in_sum, in_layout, in_parcels, in_trailer, Deed, refused, gave}
use Rattle.verifier.specs.Judge.{is_back, enough, by_step, trailer_of, and_on, by_deed, by_event, entry_of, place_of, judge_on, judge}

abbrev pub keep : ℕ → Event → Deed ℕ
keep d (opening c) = refused
keep d (delivery c b) = refused
keep d (cut c) = refused
keep d (clock m) = refused
keep d (answer n e p b) = refused
keep d (status b) = gave [] b
keep d (watch_off n) = refused
keep d (watch_above n l) = refused
keep d (watch_outside n l h) = refused
keep d (patterns text) = refused

-- an empty file; an empty book; "BAC"; a trailer that stops short; a byte behind it; a wrong count; a wrong offset
no_bytes : judge keep 0 [] ≡ wrong 0 in_length
unfolding judge judge_on and_on place_of is_back enough length_of choose
no_bytes = refl

empty_book : judge keep 0 (closed_journal []) ≡ accepted 0
unfolding judge judge_on and_on place_of is_back enough length_of choose trailer_of closed_journal entries last_from closing field
empty_book = refl

part_of_mark : judge keep 0 (take 3 (closing 0 0)) ≡ wrong 0 in_length
unfolding judge judge_on and_on place_of is_back enough length_of choose trailer_of closing field
part_of_mark = refl

short_trailer : judge keep 0 (take 11 (closing 0 0)) ≡ wrong 0 in_trailer
unfolding judge judge_on and_on place_of is_back enough length_of choose trailer_of closing field
short_trailer = refl

behind_trailer : judge keep 0 (closing 0 0 ++ (0 ∷ [])) ≡ wrong 0 in_trailer
unfolding judge judge_on and_on place_of is_back enough length_of choose trailer_of closing field
behind_trailer = refl

wrong_count : judge keep 0 (closing 0 1) ≡ wrong 0 in_trailer
unfolding judge judge_on and_on place_of is_back enough length_of choose trailer_of closing field
wrong_count = refl

refused_event : judge keep 0 (closed_journal (encode (clock 3) ∷ [])) ≡ wrong 0 in_parcels
unfolding judge judge_on and_on place_of is_back enough length_of choose trailer_of closed_journal entries last_from closing field entry entry_of by_step by_event by_deed
    decode by_tag get_clock and_then get_number encode crc_of feed_of byte_step steps bit_step
refused_event = refl

no_layout : judge keep 0 (closed_journal ((10 ∷ []) ∷ [])) ≡ wrong 0 in_layout
unfolding judge judge_on and_on place_of is_back enough length_of choose trailer_of closed_journal entries last_from closing field entry entry_of by_step by_event by_deed
    decode by_tag get_status and_then get_number encode crc_of feed_of byte_step steps bit_step
no_layout = refl

bad_sum : judge keep 0 (field 4 2 ++ (5 ∷ 65 ∷ []) ++ field 4 6 ++ field 4 0) ≡ wrong 0 in_sum
unfolding judge judge_on and_on place_of is_back enough length_of choose field entry_of crc_of feed_of byte_step steps bit_step
bad_sum = refl
