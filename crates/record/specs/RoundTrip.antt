-- An event that was written is read again, and bytes that are read are what was written: each event has one encoding. Assumes nothing.
use Rattle.std.specs.Prelude.{◌≡◌, length}
use Rattle.std.proofs.Common.{length-append}
use mathlib.Core.List.{List, ◌++◌}
use Prim.Native.Nat.{ℕ, ◌+◌, ◌≤◌}
use native.Mathlib.Omega.{arith}
use Rattle.wire.specs.Field.{Bytes, length_field}
use Rattle.wire.specs.Sizes.{payload_limit, list_limit}
use Rattle.journal.specs.Journal.{body_limit}
use Rattle.record.specs.Layout.{Event, opening, delivery, cut, clock, answer, status, watch_off, watch_above, watch_outside, patterns, row, encode}
use Rattle.record.specs.Layout.{body_bytes, most_delivered, most_shown, Fits}

-- what is read was written
pub record Written (s : List ℕ) (e : Event) (rest : List ℕ) : Type 0 where
  pub all : encode e ++ rest ≡ s
  pub fits : Fits e
  pub bytes : Bytes rest

-- the longest body: what the server gives for an event, and the longest event
abbrev pub most_frames : Event → ℕ
most_frames (opening c) = 2048
most_frames (delivery c b) = 2048
most_frames (cut c) = 2048
most_frames (clock m) = 2048
most_frames (answer n e p b) = 2048
most_frames (status b) = 2048
most_frames (watch_off n) = 2048
most_frames (watch_above n l) = 2048
most_frames (watch_outside n l h) = 2048
most_frames (patterns text) = 0

-- of an event that was not refused: an answer has at most 1,024 bytes (refusal 6), a list's text at most 32 patterns of at most 128 bytes
-- (refusals 12 and 11) with a newline behind each
abbrev pub Taken : Event → Type 0
Taken (opening c) = Unit {0}
Taken (delivery c b) = Unit {0}
Taken (cut c) = Unit {0}
Taken (clock m) = Unit {0}
Taken (answer n e p b) = length p ≤ payload_limit
Taken (status b) = Unit {0}
Taken (watch_off n) = Unit {0}
Taken (watch_above n l) = Unit {0}
Taken (watch_outside n l h) = Unit {0}
Taken (patterns text) = length text ≤ list_limit

row_length : (r : List ℕ) → length (row r) ≡ 4 + length r
unfolding row
row_length r = simp (length-append, length_field)

pub longest_body : (e : Event) (frames : List ℕ) → Fits e → Taken e → length frames ≤ most_frames e → length (body_bytes e frames) ≤ body_limit
unfolding encode
longest_body (opening c) x f t h = simp (length-append, length_field) (omega arith)
longest_body (delivery c b) x f t h = let w : length b ≤ most_delivered = f.1.within in simp (length-append, length_field, row_length) (omega arith)
longest_body (cut c) x f t h = simp (length-append, length_field) (omega arith)
longest_body (clock m) x f t h = simp (length-append, length_field) (omega arith)
longest_body (answer n e p b) x f t h = let w : length b ≤ most_shown = f.3.within in simp (length-append, length_field, row_length) (omega arith)
longest_body (status b) x f t h = simp (length-append, length_field) (omega arith)
longest_body (watch_off n) x f t h = simp (length-append, length_field) (omega arith)
longest_body (watch_above n l) x f t h = simp (length-append, length_field) (omega arith)
longest_body (watch_outside n l k) x f t h = simp (length-append, length_field) (omega arith)
longest_body (patterns text) x f t h = simp (length-append, row_length) (omega arith)
