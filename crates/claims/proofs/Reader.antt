-- The reader of the checks and `decode` are one, proved by their four tests.
use mathlib.Core.Path.{◌≡◌, refl, sym, ap, ap₂, subst, ◌∙◌}
use mathlib.Core.Bool.{Bool, true, false}
use mathlib.Core.List.{List}
use Prim.Native.Nat.{ℕ, ◌+◌, ◌≤◌, ◌<◌}
use native.Mathlib.Omega.{arith}
use lib.Dec.{ltb}
use lib.ListN.{length, take, drop, length-take, length-drop}
use lib.Seq.{take_at}
use borrow.Author.Tests.{ltb-true, ltb-false}
use Rattle.wire.specs.declared.Header.{Header}
use Rattle.wire.specs.Field.{Bytes}
use Rattle.wire.specs.Message.{Message, header, header_of, prologue, message_of, encode, Decoded, decided, decode}
use Rattle.wire.proofs.RoundTrip.{encode_decode}
use Rattle.wire.proofs.ReadFrames.{length_encode}
use Rattle.model.specs.Sizes.{payload_limit}
use Rattle.model.specs.Scan.{Scan, sorted, fresh_scan}
use Rattle.model.specs.Reader.{message_with, ReadsWhole, ReadsPart, ReadsLong, SameReading, OneReader}

pub never : {A : Type 0} → ◌≡◌ {A = ℕ} 0 1 → A
never z = absurd (omega arith)

module _ (bs : List ℕ) where
  abbrev h₀ : Header
  h₀ = header bs

  abbrev m₀ : Message
  m₀ = message_of h₀ bs

  payload_length : ltb (length bs) (16 + h₀.len) ≡ false → length m₀.payload ≡ h₀.len
  payload_length e = let l : 16 + h₀.len ≤ length bs = ltb-false _ _ e in simp (length-take, length-drop) (omega arith)

  head_again : length m₀.payload ≡ h₀.len → header_of m₀ ≡ h₀
  head_again e = λ k. record { kind = h₀.kind; code = h₀.code; param = h₀.param; len = e k }

  by_tests : (a b c d : Bool) → ltb (length bs) 16 ≡ a → prologue bs ≡ b → ltb payload_limit h₀.len ≡ c → ltb (length bs) (16 + h₀.len) ≡ d
      → SameReading bs (sorted a b c d bs h₀) (decided a b d m₀)
  by_tests true b c d ea eb ec ed =
      let l : length bs < 16 = ltb-true _ _ ea in
      record {
        whole = λ h p. ((λ e. never cc), (λ r. let e = r.decodes in never cc));
        wrong = ((λ e. never cc), (λ e. never cc));
        few = ((λ e. (l, refl)), (λ r. refl));
        part = λ h. ((λ e. never cc), (λ r. absurd (let z = r.sixteen in omega arith)));
        long = λ h. ((λ e. never cc), (λ r. absurd (let z = r.sixteen in omega arith)));
      }
  by_tests false false c d ea eb ec ed =
      let l : 16 ≤ length bs = ltb-false _ _ ea in
      record {
        whole = λ h p. ((λ e. never cc), (λ r. let e = r.decodes in never cc));
        wrong = ((λ e. refl), (λ e. refl));
        few = ((λ e. never cc), (λ r. absurd (let z = r.0 in omega arith)));
        part = λ h. ((λ e. never cc), (λ r. let e = r.waits in never cc));
        long = λ h. ((λ e. never cc), (λ r. let e : false ≡ true = sym eb ∙ r.begins in never cc));
      }
  by_tests false true true true ea eb ec ed =
      let l : 16 ≤ length bs = ltb-false _ _ ea in
      let a : payload_limit < h₀.len = ltb-true _ _ ec in
      record {
        whole = λ h p. ((λ e. never cc), (λ r. let e = r.decodes in never cc));
        wrong = ((λ e. never cc), (λ e. never cc));
        few = ((λ e. never cc), (λ r. absurd (let z = r.0 in omega arith)));
        part = λ h. ((λ e. never cc), (λ r. absurd (let z = r.within in let y : h₀.len ≡ h.len = ap (λ (x : Header). x.len) r.head in omega arith)));
        long = λ h. ((λ e. let q : h₀ ≡ h = cc in subst (λ (x : Header). ReadsLong bs x) q (record { sixteen = l; begins = eb; head = refl; above = a })), (λ r. ap Scan.long r.head));
      }
  by_tests false true true false ea eb ec ed =
      let l : 16 ≤ length bs = ltb-false _ _ ea in
      let a : payload_limit < h₀.len = ltb-true _ _ ec in
      let n : length m₀.payload ≡ h₀.len = payload_length ed in
      record {
        whole = λ h p. (
          (λ e. never cc),
          (λ r. let e : m₀ ≡ message_with h p = let z = r.decodes in cc in
              absurd (let y : length m₀.payload ≡ length p = ap (λ (x : Message). length x.payload) e in let w = r.within in omega arith)),
        );
        wrong = ((λ e. never cc), (λ e. never cc));
        few = ((λ e. never cc), (λ r. absurd (let z = r.0 in omega arith)));
        part = λ h. ((λ e. never cc), (λ r. let e = r.waits in never cc));
        long = λ h. ((λ e. let q : h₀ ≡ h = cc in subst (λ (x : Header). ReadsLong bs x) q (record { sixteen = l; begins = eb; head = refl; above = a })), (λ r. ap Scan.long r.head));
      }
  by_tests false true false true ea eb ec ed =
      let l : 16 ≤ length bs = ltb-false _ _ ea in
      let a : h₀.len ≤ payload_limit = ltb-false _ _ ec in
      record {
        whole = λ h p. ((λ e. never cc), (λ r. let e = r.decodes in never cc));
        wrong = ((λ e. never cc), (λ e. never cc));
        few = ((λ e. never cc), (λ r. absurd (let z = r.0 in omega arith)));
        part = λ h. (
          (λ e. let q : h₀ ≡ h = cc in subst (λ (x : Header). ReadsPart bs Decoded.short x) q
              (record { sixteen = l; head = refl; within = a; waits = refl })),
          (λ r. ap Scan.part r.head),
        );
        long = λ h. ((λ e. never cc), (λ r. absurd (let z = r.above in let y : h₀.len ≡ h.len = ap (λ (x : Header). x.len) r.head in omega arith)));
      }
  by_tests false true false false ea eb ec ed =
      let l : 16 ≤ length bs = ltb-false _ _ ea in
      let a : h₀.len ≤ payload_limit = ltb-false _ _ ec in
      let n : length m₀.payload ≡ h₀.len = payload_length ed in
      let g : header_of m₀ ≡ h₀ = head_again n in
      let w : ReadsWhole (Decoded.whole m₀) h₀ m₀.payload = record { decodes = refl; head = g; within = omega arith } in
      record {
        whole = λ h p. (
          (λ e. let q : h₀ ≡ h = cc in let y : m₀.payload ≡ p = cc in subst (λ (x : Header). ReadsWhole (Decoded.whole m₀) x p) q (subst (λ (x : List ℕ). ReadsWhole (Decoded.whole m₀) h₀ x) y w)),
          (λ r. let e : m₀ ≡ message_with h p = let z = r.decodes in cc in ap₂ Scan.whole (sym g ∙ ap header_of e ∙ r.head) (ap (λ (x : Message). x.payload) e)),
        );
        wrong = ((λ e. never cc), (λ e. never cc));
        few = ((λ e. never cc), (λ r. absurd (let z = r.0 in omega arith)));
        part = λ h. ((λ e. never cc), (λ r. let e = r.waits in never cc));
        long = λ h. ((λ e. never cc), (λ r. absurd (let z = r.above in let y : h₀.len ≡ h.len = ap (λ (x : Header). x.len) r.head in omega arith)));
      }

  pub alike : SameReading bs (fresh_scan bs) (decode bs)
  unfolding fresh_scan decode
  alike = by_tests (ltb (length bs) 16) (prologue bs) (ltb payload_limit h₀.len) (ltb (length bs) (16 + h₀.len)) refl refl refl refl

-- what is taken of bytes is the message as the wire writes it
pub taken_is : (bs : List ℕ) (h : Header) (p : List ℕ) → Bytes bs → fresh_scan bs ≡ Scan.whole h p → take (16 + h.len) bs ≡ encode (message_with h p)
taken_is bs h p b e =
    let r = ((alike bs).whole h p).0 e in
    let m : Message = message_with h p in
    let n : length (encode m) ≡ 16 + h.len = length_encode m ∙ ap (λ (x : Header). 16 + x.len) r.head in
    ap (take (16 + h.len)) (encode_decode bs m b r.decodes) ∙ take_at (encode m) (drop (length p) (drop 16 bs)) (16 + h.len) n

pub one_reader : OneReader
one_reader = record { alike = alike; taken = taken_is }
