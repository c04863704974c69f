-- The output to the host read back: a byte of connection number, then the message that `decode` reads, again and again. What stands
-- behind the last whole frame is not looked at.
use Rattle.std.specs.Prelude.{◌≡◌, ℕ, zero, suc, ◌+◌, ◌<◌, List, [], ◌∷◌, ◌++◌, length, drop}
use Rattle.wire.specs.Message.{Message, Decoded, Decoded.short, Decoded.wrong, Decoded.whole, decode, Fits}
use Rattle.wire.specs.Field.{Bytes}
use Rattle.wire.specs.Frame.{Frame, bytes_of}

-- by what stands behind the connection's byte: no message, and the row ends; or one, and it goes on
abbrev pub goes_on : List Frame → (Message → List Frame) → Decoded → List Frame
goes_on end on short = end
goes_on end on wrong = end
goes_on end on (whole m) = on m

-- at most n frames
abbrev pub frames_in : ℕ → List ℕ → List Frame
frames_in zero bs = []
frames_in (suc n) [] = []
frames_in (suc n) (c ∷ bs) = goes_on [] (λ m. record { to = c; message = m } ∷ frames_in n (drop (16 + length m.payload) bs)) (decode bs)

unfoldable pub read_frames : List ℕ → List Frame
read_frames bs = frames_in (length bs) bs

-- a frame's numbers fit their places in the output
pub record FrameFits (f : Frame) : Type 0 where
  pub connection : f.to < 256
  pub fields : Fits f.message

abbrev pub AllFit : List Frame → Type 0
AllFit [] = Unit {0}
AllFit (f ∷ fs) = FrameFits f × AllFit fs

-- the bytes of these frames, and what stands behind the last
pub record Front (fs : List Frame) (bs : List ℕ) : Type 0 where
  pub behind : List ℕ
  pub is : bs ≡ bytes_of fs ++ behind

-- writing and reading a row of frames are inverse
pub record RowsRead : Type 0 where
  pub again : (fs : List Frame) → AllFit fs → read_frames (bytes_of fs) ≡ fs
  -- so an output is the row of frames of one row at most
  pub one_row_lem : (fs gs : List Frame) → AllFit fs → AllFit gs → bytes_of fs ≡ bytes_of gs → fs ≡ gs
  -- nothing is read that does not stand there
  pub front : (bs : List ℕ) → Bytes bs → Front (read_frames bs) bs
  -- a row of frames that fit is bytes
  pub bytes : (fs : List Frame) → AllFit fs → Bytes (bytes_of fs)
