-- Laws of what specs/RoundTrip.antt defines. Assumes nothing.
use Rattle.std.specs.Prelude.{◌≡◌, ℕ, zero, suc, ◌+◌, ◌^◌, ◌<◌, ◌≤◌, Bool, true, false, ltb, List, [], ◌∷◌, ◌++◌, length, take, drop, ◌==◌, nat_lt, slice_index, slice_index_or, refl}
use Rattle.std.proofs.Math.Path.{sym, ap, ap₂}
use Rattle.std.proofs.Common.{subst, ◌∙◌, append_assoc, append-nil, arith, lit<, length-append, length-take, length-drop, take-append-drop, drop_of_length-le, drop-cons, drop-drop, get_or-drop, le-ltb, ltb-false, eqb-true}
use Rattle.std.proofs.Math.Seq.{take-append_seam}
use Rattle.wire.specs.Both.{and_left, and_right}
use Rattle.wire.specs.Field.{field, number, number_at, Bytes, field_number, number_bound}
use Rattle.wire.specs.Message.{Message, header_bytes, header_of, encode, header, prologue, message_of, Decoded.whole, decided, decode, Fits}
use Rattle.wire.specs.declared.Header.{Header}
use Rattle.wire.specs.RoundTrip.{header_again, length_header, Read}

drop_header : (h : Header) (rest : List ℕ) → drop 16 (header_bytes h ++ rest) ≡ rest
unfolding header_bytes field
drop_header h rest = refl

-- a header and enough behind it are a message
decode_front : (h : Header) (rest : List ℕ) → h.param < 2 ^ 32 → h.len < 2 ^ 64 → h.len ≤ length rest
    → decode (header_bytes h ++ rest) ≡ whole record { kind = h.kind; code = h.code; param = h.param; payload = take h.len rest }
unfolding decode header_bytes
decode_front h rest p l r =
    let bs : List ℕ = header_bytes h ++ rest in
    let n : length bs ≡ 16 + length rest = length-append (header_bytes h) rest ∙ ap (λ (k : ℕ). k + length rest) (length_header h) in
    let a : ltb (length bs) 16 ≡ false = le-ltb (length bs) 16 (omega arith) in
    let b : ltb (length bs) (16 + h.len) ≡ false = le-ltb (length bs) (16 + h.len) (omega arith) in
    ap (λ (x : Header). decided (nat_lt (length bs) 16) true (nat_lt (length bs) (16 + x.len)) (message_of x bs)) (header_again h rest p l)
    ∙ ap₂ (λ (x y : Bool). decided x true y (message_of h bs)) a b
    ∙ ap (λ (x : List ℕ). whole record { kind = h.kind; code = h.code; param = h.param; payload = take h.len x }) (drop_header h rest)

-- decode of encode is the message; nothing past the message is looked at
pub decode_encode : (m : Message) → Fits m → (rest : List ℕ) → decode (encode m ++ rest) ≡ whole m
unfolding encode
decode_encode m f rest =
    let r : length m.payload ≤ length (m.payload ++ rest) = simp length-append (omega arith) in
    ap decode (append_assoc (header_bytes (header_of m)) m.payload rest)
    ∙ decode_front (header_of m) (m.payload ++ rest) f.param f.length r
    ∙ ap (λ (x : List ℕ). whole record { kind = m.kind; code = m.code; param = m.param; payload = x }) (take-append_seam m.payload rest)

module _ (bs : List ℕ) (m : Message) where
  by_tests : (a p s : Bool) → a ≡ nat_lt (length bs) 16 → p ≡ prologue bs → s ≡ nat_lt (length bs) (16 + (header bs).len)
      → decided a p s (message_of (header bs) bs) ≡ whole m → Read bs m
  by_tests true p s ea ep es e = let z : ◌≡◌ {A = ℕ} 0 1 = cc in absurd (omega arith)
  by_tests false false s ea ep es e = let z : ◌≡◌ {A = ℕ} 0 1 = cc in absurd (omega arith)
  by_tests false true true ea ep es e = let z : ◌≡◌ {A = ℕ} 0 1 = cc in absurd (omega arith)
  by_tests false true false ea ep es e = record { enough = sym ea; begins = sym ep; here = sym es; message = cc }

pub read_of : (bs : List ℕ) (m : Message) → decode bs ≡ whole m → Read bs m
unfolding decode
read_of bs m e = by_tests bs m (nat_lt (length bs) 16) (prologue bs) (nat_lt (length bs) (16 + (header bs).len)) refl refl refl e

take_bytes : (n : ℕ) (bs : List ℕ) → Bytes bs → Bytes (take n bs)
take_bytes zero bs b i = lit< tt
take_bytes (suc n) [] b i = lit< tt
take_bytes (suc n) (x ∷ bs) b zero = b 0
take_bytes (suc n) (x ∷ bs) b (suc i) = take_bytes n bs (λ (j : ℕ). b (suc j)) i

drop_bytes : (n : ℕ) (bs : List ℕ) → Bytes bs → Bytes (drop n bs)
drop_bytes n bs b i = rw (get_or-drop n bs i 0) (b (n + i))

-- the field at a place, written again, is the bytes that stand there
field_at : (bs : List ℕ) (place n : ℕ) → place + n ≤ length bs → Bytes bs → field n (number_at bs place n) ≡ take n (drop place bs)
field_at bs place n h b =
    let x : List ℕ = take n (drop place bs) in
    let e : length x ≡ n = simp (length-take, length-drop) (omega arith) in
    ap (λ (k : ℕ). field k (number x)) (sym e) ∙ field_number x (take_bytes n (drop place bs) (drop_bytes place bs b))

-- sixteen bytes that begin "HS" are the header that they are read as
module _ (bs : List ℕ) (h : 16 ≤ length bs) (b : Bytes bs) (p : prologue bs ≡ true) where
  begins_H : slice_index_or bs 0 0 ≡ 0x48
  begins_H = eqb-true (slice_index bs 0) 0x48 (and_left (slice_index bs 0 == 0x48) (slice_index bs 1 == 0x53) p)

  begins_S : slice_index_or bs 1 0 ≡ 0x53
  begins_S = eqb-true (slice_index bs 1) 0x53 (and_right (slice_index bs 0 == 0x48) (slice_index bs 1 == 0x53) p)

  first_four : bs ≡ slice_index bs 0 ∷ slice_index bs 1 ∷ slice_index bs 2 ∷ slice_index bs 3 ∷ drop 4 bs
  first_four =
      drop-cons bs 0 0 (omega arith)
      ∙ ap (λ (l : List ℕ). slice_index bs 0 ∷ l) (drop-cons bs 1 0 (omega arith))
      ∙ ap (λ (l : List ℕ). slice_index bs 0 ∷ slice_index bs 1 ∷ l) (drop-cons bs 2 0 (omega arith))
      ∙ ap (λ (l : List ℕ). slice_index bs 0 ∷ slice_index bs 1 ∷ slice_index bs 2 ∷ l) (drop-cons bs 3 0 (omega arith))

  last_twelve : field 4 (number_at bs 4 4) ++ field 8 (number_at bs 8 8) ++ drop 16 bs ≡ drop 4 bs
  last_twelve =
      ap₂ (λ (x y : List ℕ). x ++ y ++ drop 16 bs) (field_at bs 4 4 (omega arith) b) (field_at bs 8 8 (omega arith) b)
      ∙ append_assoc (take 4 (drop 4 bs)) (take 8 (drop 8 bs)) (drop 16 bs)
      ∙ ap (λ (l : List ℕ). take 4 (drop 4 bs) ++ (take 8 (drop 8 bs) ++ l)) (sym (drop-drop 8 8 bs))
      ∙ ap (λ (l : List ℕ). take 4 (drop 4 bs) ++ l) (take-append-drop 8 (drop 8 bs))
      ∙ ap (λ (l : List ℕ). take 4 (drop 4 bs) ++ l) (sym (drop-drop 4 4 bs))
      ∙ take-append-drop 4 (drop 4 bs)

  header_back : header_bytes (header bs) ++ drop 16 bs ≡ bs
  unfolding header_bytes header
  header_back =
      ap (λ (l : List ℕ). 0x48 ∷ 0x53 ∷ slice_index bs 2 ∷ slice_index bs 3 ∷ l) last_twelve
      ∙ ap₂ (λ (x y : ℕ). x ∷ y ∷ slice_index bs 2 ∷ slice_index bs 3 ∷ drop 4 bs) (sym begins_H) (sym begins_S)
      ∙ sym first_four

-- bytes that decode are the encoding of what they decode to, and what follows it
pub encode_decode : (bs : List ℕ) (m : Message) → Bytes bs → decode bs ≡ whole m → bs ≡ encode m ++ drop (length m.payload) (drop 16 bs)
unfolding encode
encode_decode bs m b e =
    let r = read_of bs m e in
    let h : Header = header bs in
    let x : List ℕ = take h.len (drop 16 bs) in
    let l : 16 ≤ length bs = ltb-false (length bs) 16 r.enough in
    let k : 16 + h.len ≤ length bs = ltb-false (length bs) (16 + h.len) r.here in
    let n : length x ≡ h.len = simp (length-take, length-drop) (omega arith) in
    let g : header_of (message_of h bs) ≡ h = (λ i. record { kind = h.kind; code = h.code; param = h.param; len = n i }) in
    let f : bs ≡ header_bytes (header_of (message_of h bs)) ++ x ++ drop (length x) (drop 16 bs) =
    sym (header_back bs l b r.begins)
    ∙ ap (λ (y : List ℕ). header_bytes h ++ y) (sym (take-append-drop h.len (drop 16 bs)))
    ∙ sym (append_assoc (header_bytes h) x (drop h.len (drop 16 bs)))
    ∙ ap₂ (λ (y : Header) (z : ℕ). header_bytes y ++ x ++ drop z (drop 16 bs)) (sym g) (sym n) in
    f ∙ ap (λ (y : Message). header_bytes (header_of y) ++ y.payload ++ drop (length y.payload) (drop 16 bs)) r.message

-- so each message has exactly one encoding: bytes that are just a message are its encoding
pub one_encoding : (bs : List ℕ) (m : Message) → Bytes bs → decode bs ≡ whole m → length bs ≡ 16 + length m.payload → bs ≡ encode m
one_encoding bs m b e n =
    let z : length (drop 16 bs) ≤ length m.payload = simp length-drop (omega arith) in
    encode_decode bs m b e ∙ ap (λ (l : List ℕ). encode m ++ l) (drop_of_length-le (drop 16 bs) z) ∙ append-nil (encode m)

-- the number in n bytes fits n bytes
number_at_bound : (bs : List ℕ) (place n : ℕ) → place + n ≤ length bs → Bytes bs → number_at bs place n < 256 ^ n
number_at_bound bs place n h b =
    let x : List ℕ = take n (drop place bs) in
    let e : length x ≡ n = simp (length-take, length-drop) (omega arith) in
    rw e at (number_bound x (take_bytes n (drop place bs) (drop_bytes place bs b)))

-- what is decoded from bytes fits
pub decoded_fits : (bs : List ℕ) (m : Message) → Bytes bs → decode bs ≡ whole m → length bs < 2 ^ 64 → Fits m
unfolding header
decoded_fits bs m b e n =
    let r = read_of bs m e in
    let l : 16 ≤ length bs = ltb-false (length bs) 16 r.enough in
    subst (λ (x : Message). Fits x) r.message
    record {
      kind = b 2;
      code = b 3;
      param = number_at_bound bs 4 4 (omega arith) b;
      length = simp (length-take, length-drop) (omega arith);
      payload = take_bytes (number_at bs 8 8) (drop 16 bs) (drop_bytes 16 bs b);
    }
