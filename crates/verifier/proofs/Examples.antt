-- Laws of what specs/Examples.antt defines. Assumes nothing.
use Rattle.std.specs.Prelude.{◌≡◌, refl, [], ◌∷◌, ◌++◌}
use Rattle.wire.specs.Field.{field}
use Rattle.crc.specs.Crc.{steps, bit_step, byte_step, feed_of, crc_of}
use Rattle.journal.specs.Journal.{choose, entry, entries, closing, length_of, closed_journal, last_from}
use Rattle.record.specs.Layout.{status, encode, decode, by_tag}
use Rattle.record.specs.Layout.{and_then, get_number, get_status}
use Rattle.verifier.specs.Judge.{accepted, wrong, in_length, in_distance, in_parcels}
use Rattle.verifier.specs.Judge.{is_back, enough, by_step, trailer_of, and_on, by_deed, by_event, entry_of, place_of, judge_on, judge}
use Rattle.verifier.specs.Examples.{keep}

-- two status changes; the second with a frame that was not given; a refused event; no layout; no trailer
two_entries : judge keep 0 (closed_journal (encode (status 65) ∷ encode (status 7) ∷ [])) ≡ accepted 2
unfolding judge judge_on and_on place_of is_back enough length_of choose trailer_of closed_journal entries last_from closing field entry entry_of by_step by_event by_deed
    decode by_tag get_status and_then get_number encode crc_of feed_of byte_step steps bit_step
two_entries = refl

other_frames : judge keep 0 (closed_journal (encode (status 65) ∷ (encode (status 7) ++ (1 ∷ [])) ∷ [])) ≡ wrong 1 in_parcels
unfolding judge judge_on and_on place_of is_back enough length_of choose trailer_of closed_journal entries last_from closing field entry entry_of by_step by_event by_deed
    decode by_tag get_status and_then get_number encode crc_of feed_of byte_step steps bit_step
other_frames = refl

not_closed : judge keep 0 (entry (encode (status 65))) ≡ wrong 1 in_length
unfolding judge judge_on and_on place_of is_back enough length_of choose trailer_of closed_journal entries last_from closing field entry entry_of by_step by_event by_deed
    decode by_tag get_status and_then get_number encode crc_of feed_of byte_step steps bit_step
not_closed = refl

-- an entry that says one byte more than its body has, and one whose last byte is not the sum's
bad_distance : judge keep 0 (field 4 2 ++ (5 ∷ 65 ∷ []) ++ field 4 7 ++ field 4 0) ≡ wrong 0 in_distance
unfolding judge judge_on and_on place_of is_back enough length_of choose field entry_of crc_of feed_of byte_step steps bit_step
bad_distance = refl
