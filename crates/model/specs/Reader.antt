-- The reader of the checks (`fresh_scan`) and the wire's `decode` are one reader, in both directions: the same messages are whole, with the
-- same fields and payload, the same bytes are no message, and what is left to wait for is the same, but that a header with a length
-- above 1,024 is told apart before its payload is here.
use Rattle.std.specs.Prelude.{◌≡◌, true, List, ◌↔◌, ℕ, ◌+◌, ◌≤◌, ◌<◌, length, take}
use Rattle.wire.specs.declared.Header.{Header}
use Rattle.wire.specs.Field.{Bytes}
use Rattle.wire.specs.Message.{Message, header, header_of, prologue, encode, Decoded, decode}
use Rattle.model.specs.Sizes.{payload_limit}
use Rattle.model.specs.Scan.{Scan, fresh_scan}

-- the message of a header and a payload
abbrev pub message_with : Header → List ℕ → Message
message_with h p = record { kind = h.kind; code = h.code; param = h.param; payload = p }

-- bytes bs that decode to x: a whole message with header h and payload p, which is as long as the header says and at most 1,024 bytes
pub record ReadsWhole (x : Decoded) (h : Header) (p : List ℕ) : Type 0 where
  pub decodes : x ≡ Decoded.whole (message_with h p)
  pub head : header_of (message_with h p) ≡ h
  pub within : length p ≤ payload_limit

-- a header h that is all here, with a length of at most 1,024, and less than its payload
pub record ReadsPart (bs : List ℕ) (x : Decoded) (h : Header) : Type 0 where
  pub sixteen : 16 ≤ length bs
  pub head : header bs ≡ h
  pub within : h.len ≤ payload_limit
  pub waits : x ≡ Decoded.short

-- a header h that is all here, with a length above 1,024
pub record ReadsLong (bs : List ℕ) (h : Header) : Type 0 where
  pub sixteen : 16 ≤ length bs
  pub begins : prologue bs ≡ true
  pub head : header bs ≡ h
  pub above : payload_limit < h.len

-- bytes bs, what the checks make of them, and what decode makes of them
pub record SameReading (bs : List ℕ) (s : Scan) (x : Decoded) : Type 0 where
  pub whole : (h : Header) (p : List ℕ) → (s ≡ Scan.whole h p) ↔ ReadsWhole x h p
  pub wrong : (s ≡ Scan.wrong) ↔ (x ≡ Decoded.wrong)
  pub few : (s ≡ Scan.few) ↔ ((length bs < 16) × (x ≡ Decoded.short))
  pub part : (h : Header) → (s ≡ Scan.part h) ↔ ReadsPart bs x h
  pub long : (h : Header) → (s ≡ Scan.long h) ↔ ReadsLong bs h

pub record OneReader : Type 0 where
  pub alike : (bs : List ℕ) → SameReading bs (fresh_scan bs) (decode bs)
  -- of bytes, what is taken is the message as the wire writes it
  pub taken : (bs : List ℕ) (h : Header) (p : List ℕ) → Bytes bs → fresh_scan bs ≡ Scan.whole h p → take (16 + h.len) bs ≡ encode (message_with h p)
