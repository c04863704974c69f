-- Writing and reading a row of frames are inverse.
use Rattle.std.proofs.Common.{◌≡◌, ℕ, zero, suc, ◌+◌, ◌<◌, ◌≤◌, List, [], ◌∷◌, ◌++◌, length, drop, sym, refl, ap, ◌∙◌, append_assoc, arith, lit<, length-append, drop-drop, drop_at}
use Rattle.wire.specs.Field.{field, Bytes}
use Rattle.wire.specs.Message.{Message, header_bytes, header_of, encode, Decoded, Decoded.short, Decoded.wrong, Decoded.whole, decode}
use Rattle.wire.specs.RoundTrip.{length_header}
use Rattle.wire.proofs.RoundTrip.{decode_encode, encode_decode}
use Rattle.wire.specs.declared.Header.{Header}
use Rattle.wire.specs.Frame.{Frame, frame_bytes, bytes_of, length_frame}
use Rattle.wire.proofs.Bytes.{drop_bytes, bytes_append, bytes_cons, bytes_field}
use Rattle.wire.specs.ReadFrames.{goes_on, frames_in, read_frames, FrameFits, AllFit, Front, RowsRead}

pub length_encode : (m : Message) → length (encode m) ≡ 16 + length m.payload
unfolding encode
length_encode m = length-append (header_bytes (header_of m)) m.payload ∙ ap (λ (k : ℕ). k + length m.payload) (length_header (header_of m))

-- a frame is at least one byte
few_frames : (fs : List Frame) → length fs ≤ length (bytes_of fs)
unfolding bytes_of
few_frames [] = omega arith
few_frames (f ∷ fs) = simp length-append (omega (arith, length_frame f, few_frames fs))

frames_again : (n : ℕ) (fs : List Frame) → length fs ≤ n → AllFit fs → frames_in n (bytes_of fs) ≡ fs
unfolding bytes_of frame_bytes
frames_again zero [] l a = refl
frames_again zero (f ∷ fs) l a = absurd (omega arith)
frames_again (suc n) [] l a = refl
frames_again (suc n) (f ∷ fs) l a =
    let m : Message = f.message in
    ap (goes_on [] (λ x. record { to = f.to; message = x } ∷ frames_in n (drop (16 + length x.payload) (encode m ++ bytes_of fs)))) (decode_encode m a.0.fields (bytes_of fs))
    ∙ ap (λ (bs : List ℕ). f ∷ frames_in n bs) (drop_at (encode m) (bytes_of fs) (16 + length m.payload) (length_encode m))
    ∙ ap (λ (gs : List Frame). f ∷ gs) (frames_again n fs (omega arith) a.1)

-- what is read off a row of frames that fit is the row
pub read_frames_lem : (fs : List Frame) → AllFit fs → read_frames (bytes_of fs) ≡ fs
unfolding read_frames
read_frames_lem fs a = frames_again (length (bytes_of fs)) fs (few_frames fs) a

-- so bytes are the row of frames of one row at most
pub one_row_lem : (fs gs : List Frame) → AllFit fs → AllFit gs → bytes_of fs ≡ bytes_of gs → fs ≡ gs
one_row_lem fs gs a b e = sym (read_frames_lem fs a) ∙ ap read_frames e ∙ read_frames_lem gs b

-- bytes that are read are the frames read, and what stands behind the last
module _ (n c : ℕ) (bs : List ℕ) (b : Bytes bs) (more : (x : List ℕ) → Bytes x → Front (frames_in n x) x) where
  front_by : (d : Decoded) → decode bs ≡ d → Front (goes_on [] (λ m. record { to = c; message = m } ∷ frames_in n (drop (16 + length m.payload) bs)) d) (c ∷ bs)
  unfolding bytes_of frame_bytes
  front_by short e = record { behind = c ∷ bs; is = refl }
  front_by wrong e = record { behind = c ∷ bs; is = refl }
  front_by (whole m) e =
      let k : ℕ = length m.payload in
      let r = more (drop (16 + k) bs) (drop_bytes (16 + k) bs b) in
      record {
        behind = r.behind;
        is = ap (λ (x : List ℕ). c ∷ x) (encode_decode bs m b e ∙ ap (λ (x : List ℕ). encode m ++ x) (drop-drop k 16 bs ∙ r.is))
            ∙ sym (append_assoc (c ∷ encode m) (bytes_of (frames_in n (drop (16 + k) bs))) r.behind);
      }

front_in : (n : ℕ) (bs : List ℕ) → Bytes bs → Front (frames_in n bs) bs
unfolding bytes_of
front_in zero bs b = record { behind = bs; is = refl }
front_in (suc n) [] b = record { behind = []; is = refl }
front_in (suc n) (c ∷ bs) b = front_by n c bs (λ (i : ℕ). b (suc i)) (λ x. front_in n x) (decode bs) refl

pub front : (bs : List ℕ) → Bytes bs → Front (read_frames bs) bs
unfolding read_frames
front bs b = front_in (length bs) bs b

-- the output is bytes
bytes_header : (h : Header) → h.kind < 256 → h.code < 256 → Bytes (header_bytes h)
unfolding header_bytes
bytes_header h k c =
    let x : List ℕ = field 4 h.param ++ field 8 h.len in
    let b : Bytes x = bytes_append (field 4 h.param) (field 8 h.len) (bytes_field 4 h.param) (bytes_field 8 h.len) in
    bytes_cons 0x48 (0x53 ∷ h.kind ∷ h.code ∷ x) (lit< tt)
    (bytes_cons 0x53 (h.kind ∷ h.code ∷ x) (lit< tt) (bytes_cons h.kind (h.code ∷ x) k (bytes_cons h.code x c b)))

bytes_frame : (f : Frame) → FrameFits f → Bytes (frame_bytes f)
unfolding frame_bytes encode
bytes_frame f a =
    let m : Message = f.message in
    let b : Bytes (encode m) = bytes_append (header_bytes (header_of m)) m.payload (bytes_header (header_of m) a.fields.kind a.fields.code) a.fields.payload in
    bytes_cons f.to (encode m) a.connection b

pub bytes_row : (fs : List Frame) → AllFit fs → Bytes (bytes_of fs)
unfolding bytes_of
bytes_row [] a = λ (i : ℕ). lit< tt
bytes_row (f ∷ fs) a = bytes_append (frame_bytes f) (bytes_of fs) (bytes_frame f a.0) (bytes_row fs a.1)

pub rows_read : RowsRead
rows_read = record { again = read_frames_lem; one_row_lem = one_row_lem; front = front; bytes = bytes_row }
