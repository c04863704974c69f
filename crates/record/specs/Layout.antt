-- The body of a journal entry: one event, then the frames that it gave, up to the body's end. All numbers big endian.
--
--   tag  event           fields, in this order
--   0    opening         connection 4
--   1    delivery        connection 4, bytes shown (at most 1,040)
--   2    cut             connection 4
--   3    clock           milliseconds 8
--   4    answer          session 4, END 1 (0 or 1), payload, bytes shown (at most 16)
--   5    status          status byte 1
--   6    watch off       session 4
--   7    watch above     session 4, limit 4 (IEEE 754 single bits)
--   8    watch outside   session 4, low 4, high 4
--   9    patterns        the list's text as the host gave it
--
-- The tag is one byte. A number stands beside its name in so many bytes. A row of bytes is its length in 4 bytes, then the bytes.
-- The layout says shape only: what the server would refuse (33 patterns, a payload above 1,024 bytes, connection 200) has a layout as
-- long as it fits a body. The two limits of bytes shown keep one encoding for each event: bytes beyond them count for nothing.
-- Assumes nothing.
use Rattle.std.specs.Prelude.{◌&&◌, List, [], ◌∷◌, ◌++◌, ℕ, ◌^◌, ◌≤◌, ◌<◌, eqb, leb, length, take, drop}
use Rattle.wire.specs.Field.{field, number, Bytes}
use Rattle.journal.specs.Journal.{choose, body_limit}

pub data Event : Type 0 where
  opening : ℕ → Event
  delivery : ℕ → List ℕ → Event
  cut : ℕ → Event
  clock : ℕ → Event
  answer : ℕ → ℕ → List ℕ → List ℕ → Event
  status : ℕ → Event
  watch_off : ℕ → Event
  watch_above : ℕ → ℕ → Event
  watch_outside : ℕ → ℕ → ℕ → Event
  patterns : List ℕ → Event

-- a row of bytes
unfoldable pub row : List ℕ → List ℕ
row bytes = field 4 (length bytes) ++ bytes

unfoldable pub encode : Event → List ℕ
encode (opening connection) = 0 ∷ field 4 connection
encode (delivery connection shown) = 1 ∷ (field 4 connection ++ row shown)
encode (cut connection) = 2 ∷ field 4 connection
encode (clock milliseconds) = 3 ∷ field 8 milliseconds
encode (answer session end payload shown) = 4 ∷ (field 4 session ++ (field 1 end ++ (row payload ++ row shown)))
encode (status byte) = 5 ∷ field 1 byte
encode (watch_off session) = 6 ∷ field 4 session
encode (watch_above session limit) = 7 ∷ (field 4 session ++ field 4 limit)
encode (watch_outside session low high) = 8 ∷ (field 4 session ++ (field 4 low ++ field 4 high))
encode (patterns text) = 9 ∷ row text

-- an entry's body
abbrev pub body_bytes : Event → List ℕ → List ℕ
body_bytes event frames = encode event ++ frames

-- 02: a delivery looks at no more than the first 1,040 unread bytes
abbrev pub most_delivered : ℕ
most_delivered = 1040

-- 02: of bytes shown with an answer only the first 16 count
abbrev pub most_shown : ℕ
most_shown = 16

pub record Row (most : ℕ) (r : List ℕ) : Type 0 where
  pub bytes : Bytes r
  pub within : length r ≤ most

-- an event whose numbers fit their fields, and whose rows their limits
abbrev pub Fits : Event → Type 0
Fits (opening connection) = connection < 256 ^ 4
Fits (delivery connection shown) = (connection < 256 ^ 4) × Row most_delivered shown
Fits (cut connection) = connection < 256 ^ 4
Fits (clock milliseconds) = milliseconds < 256 ^ 8
Fits (answer session end payload shown) = (session < 256 ^ 4) × (end < 2) × Row body_limit payload × Row most_shown shown
Fits (status byte) = byte < 256 ^ 1
Fits (watch_off session) = session < 256 ^ 4
Fits (watch_above session limit) = (session < 256 ^ 4) × (limit < 256 ^ 4)
Fits (watch_outside session low high) = (session < 256 ^ 4) × (low < 256 ^ 4) × (high < 256 ^ 4)
Fits (patterns text) = Row body_limit text

-- what is read from the front of bytes, and what stands behind it; or no layout
pub data Read (A : Type 0) : Type 0 where
  found : A → List ℕ → Read A
  none : Read A

unfoldable pub and_then : {A B : Type 0} → Read A → (A → List ℕ → Read B) → Read B
and_then (found a s) f = f a s
and_then none f = none

unfoldable pub get_number : ℕ → List ℕ → Read ℕ
get_number n s = choose (leb n (length s)) (found (number (take n s)) (drop n s)) none

unfoldable pub get_row : ℕ → List ℕ → Read (List ℕ)
get_row most s = and_then (get_number 4 s) λ n t. choose (leb n most && leb n (length t)) (found (take n t) (drop n t)) none

-- what stands behind each tag
unfoldable pub get_opening : List ℕ → Read Event
get_opening s = and_then (get_number 4 s) λ c t. found (opening c) t

unfoldable pub get_delivery : List ℕ → Read Event
get_delivery s = and_then (get_number 4 s) λ c t. and_then (get_row most_delivered t) λ b u. found (delivery c b) u

unfoldable pub get_cut : List ℕ → Read Event
get_cut s = and_then (get_number 4 s) λ c t. found (cut c) t

unfoldable pub get_clock : List ℕ → Read Event
get_clock s = and_then (get_number 8 s) λ m t. found (clock m) t

unfoldable pub get_answer : List ℕ → Read Event
get_answer s =
    and_then (get_number 4 s) λ n t. and_then (get_number 1 t) λ e u. choose (leb e 1)
    (and_then (get_row body_limit u) λ p v. and_then (get_row most_shown v) λ b w. found (answer n e p b) w)
    none

unfoldable pub get_status : List ℕ → Read Event
get_status s = and_then (get_number 1 s) λ b t. found (status b) t

unfoldable pub get_off : List ℕ → Read Event
get_off s = and_then (get_number 4 s) λ n t. found (watch_off n) t

unfoldable pub get_above : List ℕ → Read Event
get_above s = and_then (get_number 4 s) λ n t. and_then (get_number 4 t) λ l u. found (watch_above n l) u

unfoldable pub get_outside : List ℕ → Read Event
get_outside s = and_then (get_number 4 s) λ n t. and_then (get_number 4 t) λ l u. and_then (get_number 4 u) λ h v. found (watch_outside n l h) v

unfoldable pub get_patterns : List ℕ → Read Event
get_patterns s = and_then (get_row body_limit s) λ text t. found (patterns text) t

unfoldable pub by_tag : ℕ → List ℕ → Read Event
by_tag tag s =
    choose (eqb tag 0) (get_opening s)
    (choose (eqb tag 1) (get_delivery s)
    (choose (eqb tag 2) (get_cut s)
    (choose (eqb tag 3) (get_clock s)
    (choose (eqb tag 4) (get_answer s)
    (choose (eqb tag 5) (get_status s)
    (choose (eqb tag 6) (get_off s)
    (choose (eqb tag 7) (get_above s)
    (choose (eqb tag 8) (get_outside s)
    (choose (eqb tag 9) (get_patterns s)
    none)))))))))

unfoldable pub decode : List ℕ → Read Event
decode [] = none
decode (tag ∷ s) = by_tag tag s
