-- What the number of missing bytes tells, proved: more is needed with no bytes, less than a header or less than a payload; in each case
-- the number is what completes it.
use mathlib.Core.Path.{◌≡◌, refl, sym, ap, ◌∙◌}
use mathlib.Core.Bool.{Bool, true, false, false≢true}
use mathlib.Core.List.{List, [], ◌∷◌, ◌++◌}
use mathlib.Core.Logic.{◌⊎◌, inl, inr}
use Prim.Native.Nat.{ℕ, zero, suc, ◌+◌, ◌<◌, ◌≤◌}
use native.Mathlib.Omega.{arith}
use lib.Dec.{eqb, ltb}
use lib.ListN.{length, length-append}
use lib.Seq.{take_at}
use borrow.Author.Tests.{ltb-true, ltb-false}
use Rattle.wire.specs.declared.Header.{Header}
use Rattle.wire.specs.Message.{header, prologue}
use Rattle.model.specs.Sizes.{payload_limit}
use Rattle.model.specs.State.{Server, connection_at}
use Rattle.model.specs.Interface.{Event.delivery, Outcome.more_needed, Outcome.skipped, Outcome.held, Outcome.ignored, Outcome.error_sent, Outcome.closed}
use Rattle.model.specs.Interface.{Outcome.acted, Reply, Reply.refused, Reply.done, Reply.withheld, Reply.took}
use Rattle.model.specs.Scan.{Scan, Scan.empty, Scan.few, Scan.wrong, Scan.skipping, Scan.long, Scan.part, Scan.whole, sorted, fresh_scan, scan}
use Rattle.model.specs.Place.{slot_of, role_of, Role, Role.r_none, Role.r_half_open, Role.r_synchronous, Role.r_asynchronous}
use Rattle.model.specs.Checks.{Verdict, Verdict.v_more, Verdict.v_skipped, Verdict.v_held, Verdict.v_ignored, Verdict.v_closed, Verdict.v_acts}
use Rattle.model.specs.Checks.{Verdict.v_error, Verdict.v_fatal, verdict, judged, either}
use Rattle.model.specs.Checks
use Rattle.model.specs.Acts
use Rattle.model.specs.Refusals.{causes, refusal}
use Rattle.model.specs.Step.{effect, received, plan, answered, finish, step}
use Rattle.model.specs.Missing.{lacking, if_more, lacking_in, missing, TellsMissing}
use Rattle.claims.proofs.Codes.{of_message, judged_of}
use Rattle.claims.proofs.Reader.{never}
use Rattle.claims.proofs.Replies.{accepted}
use Rattle.claims.proofs.Scanning.{header_take}

-- what more is needed for
abbrev waits : Scan → Bool
waits empty = true
waits few = true
waits wrong = false
waits (skipping k) = false
waits (long h) = false
waits (part h) = true
waits (whole h p) = false

module _ (d : Server) (i c k n : ℕ) where
  acts_not : (o : Role) (h : Header) (p : List ℕ) → (Acts.acts o d i c h p).reply ≡ took more_needed k n → ⊥
  unfolding Acts.acts
  acts_not r_none h p e = go (eqb h.kind 0) e
    where
      go : (b : Bool) → (Acts.opens b d c h).reply ≡ took more_needed k n → ⊥
      go true e = never cc
      go false e = never cc
  acts_not r_half_open h p e = never cc
  acts_not r_synchronous h p e = never cc
  acts_not r_asynchronous h p e = never cc

  message_not : (v : Verdict) (o : Role) (h : Header) (p : List ℕ) → of_message v ≡ true → (effect v (Scan.whole h p) o d i c).reply ≡ took more_needed k n → ⊥
  unfolding effect
  message_not v_more o h p m e = absurd (false≢true m)
  message_not v_skipped o h p m e = absurd (false≢true m)
  message_not v_held o h p m e = never cc
  message_not v_ignored o h p m e = never cc
  message_not v_closed o h p m e = never cc
  message_not (v_error x) o h p m e = never cc
  message_not (v_fatal x) o h p m e = never cc
  message_not v_acts o h p m e = acts_not o h p e

  long_not : (o : Role) (h : Header) → (effect (Checks.too_long o) (Scan.long h) o d i c).reply ≡ took more_needed k n → ⊥
  unfolding effect
  long_not r_none h e = never cc
  long_not r_half_open h e = never cc
  long_not r_synchronous h e = never cc
  long_not r_asynchronous h e = never cc

  effect_waits : (s : Scan) (o : Role) → (effect (verdict o d i s) s o d i c).reply ≡ took more_needed k n → waits s ≡ true
  unfolding verdict effect
  effect_waits empty o e = refl
  effect_waits few o e = refl
  effect_waits wrong o e = never cc
  effect_waits (skipping x) o e = never cc
  effect_waits (long h) o e = absurd (long_not o h e)
  effect_waits (part h) o e = refl
  effect_waits (whole h p) o e = absurd (message_not (judged o d i h p) o h p (judged_of o d i h p) e)

-- the three cases: no bytes of a remainder; less than a header; a header without all of its payload
abbrev NoBytes : ℕ → List ℕ → ℕ → Type 0
NoBytes r bs k = (0 < r) × (k ≡ r)

abbrev PartHeader : ℕ → List ℕ → ℕ → Type 0
PartHeader r bs k = (r ≡ 0) × (length bs < 16) × (length bs + k ≡ 16)

abbrev PartPayload : ℕ → List ℕ → ℕ → Type 0
PartPayload r bs k = (r ≡ 0) × (16 ≤ length bs) × (length bs < 16 + (header bs).len) × (length bs + k ≡ 16 + (header bs).len)

abbrev Case : ℕ → List ℕ → ℕ → Type 0
Case r bs k = NoBytes r bs k ⊎ (PartHeader r bs k ⊎ PartPayload r bs k)

fresh_case : (bs : List ℕ) → waits (fresh_scan bs) ≡ true → Case 0 bs (lacking 0 (length bs) (fresh_scan bs))
unfolding fresh_scan
fresh_case bs w = go (ltb (length bs) 16) (prologue bs) (ltb payload_limit l) (ltb (length bs) (16 + l)) refl refl w
  where
    l : ℕ
    l = (header bs).len

    go : (a b c d : Bool) → ltb (length bs) 16 ≡ a → ltb (length bs) (16 + l) ≡ d → waits (sorted a b c d bs (header bs)) ≡ true → Case 0 bs (lacking 0 (length bs) (sorted a b c d bs (header bs)))
    go true b c d ea ed w = let s : length bs < 16 = ltb-true _ _ ea in inr (inl (refl, s, omega arith))
    go false false c d ea ed w = absurd (false≢true w)
    go false true true d ea ed w = absurd (false≢true w)
    go false true false true ea ed w =
        let s : 16 ≤ length bs = ltb-false _ _ ea in
        let t : length bs < 16 + l = ltb-true _ _ ed in
        inr (inr (refl, s, t, omega arith))
    go false true false false ea ed w = absurd (false≢true w)

scan_case : (r : ℕ) (bs : List ℕ) → waits (scan r bs) ≡ true → Case r bs (lacking r (length bs) (scan r bs))
unfolding scan
scan_case zero [] w = inr (inl (refl, omega arith, omega arith))
scan_case (suc r) [] w = inl (omega arith, refl)
scan_case zero (b ∷ bs) w = fresh_case (b ∷ bs) w
scan_case (suc r) (b ∷ bs) w = absurd (false≢true w)

-- as many bytes as a remainder has skip it
skips_all : (r : ℕ) (xs : List ℕ) → 0 < r → length xs ≡ r → scan r xs ≡ Scan.skipping (length xs)
unfolding scan
skips_all zero xs l e = absurd (omega arith)
skips_all (suc r) [] l e = absurd (omega arith)
skips_all (suc r) (x ∷ xs) l e = ap Scan.skipping (omega arith)

header_more : (bs xs : List ℕ) → 16 ≤ length bs → header (bs ++ xs) ≡ header bs
header_more bs xs l = sym (header_take (length bs) (bs ++ xs) l) ∙ ap header (take_at bs xs (length bs) refl)

not_more : (y : Reply) (k : ℕ) → ((x n : ℕ) → y ≡ took more_needed x n → ⊥) → if_more y k ≡ 0
not_more (refused n) k f = refl
not_more done k f = refl
not_more withheld k f = refl
not_more (took more_needed x n) k f = absurd (f x n refl)
not_more (took skipped x n) k f = refl
not_more (took held x n) k f = refl
not_more (took ignored x n) k f = refl
not_more (took error_sent x n) k f = refl
not_more (took closed x n) k f = refl
not_more (took acted x n) k f = refl

module _ (d : Server) (c : ℕ) (room : ℕ) where
  by_case : (bs : List ℕ) (k n : ℕ) → (step d (delivery c bs room)).reply ≡ took more_needed k n → Case (connection_at d.rest c).remainder bs (missing d (delivery c bs room))
  unfolding step answered plan received finish
  by_case bs k n q =
      let r = (connection_at d.rest c).remainder in
      let e : missing d (delivery c bs room) ≡ lacking r (length bs) (scan r bs) = ap (λ (y : Reply). if_more y (lacking_in d (delivery c bs room))) q in
      rw e (scan_case r bs (go (refusal d (delivery c bs room)) q))
    where
      go : (z : ℕ) → (answered z d (delivery c bs room)).reply ≡ took more_needed k n → waits (scan (connection_at d.rest c).remainder bs) ≡ true
      go zero e = effect_waits d (slot_of d c) c k n (scan (connection_at d.rest c).remainder bs) (role_of d.locks.entries c) e
      go (suc z) e = never cc

  skipped_so : (bs xs : List ℕ) → refusal d (delivery c bs room) ≡ 0 → scan (connection_at d.rest c).remainder xs ≡ Scan.skipping (length xs) →
      (step d (delivery c xs room)).reply ≡ took skipped (length xs) 0
  unfolding step answered plan received finish effect verdict refusal causes
  skipped_so bs xs z e = ap (λ (n : ℕ). (answered n d (delivery c xs room)).reply) z ∙ ap (λ (s : Scan). (received d c s).reply) e

  pub tells_missing : (bs : List ℕ) → TellsMissing d c bs room
  tells_missing bs =
      record {
        some = λ k n q. positive (by_case bs k n q);
        none = λ f. not_more (step d (delivery c bs room)).reply (lacking_in d (delivery c bs room)) f;
        remainder = λ k n q l. of_remainder k n q l (by_case bs k n q);
        header_rest = λ k n q z l. of_header z l (by_case bs k n q);
        payload_rest = λ k n q z l. of_payload z l (by_case bs k n q);
      }
    where
      positive : {k : ℕ} → Case (connection_at d.rest c).remainder bs k → 0 < k
      positive (inl (a, e)) = omega arith
      positive (inr (inl (a, l, e))) = omega arith
      positive (inr (inr (a, l, t, e))) = omega arith

      of_remainder : (k n : ℕ) → (step d (delivery c bs room)).reply ≡ took more_needed k n → 0 < (connection_at d.rest c).remainder
          → Case (connection_at d.rest c).remainder bs (missing d (delivery c bs room))
          → (missing d (delivery c bs room) ≡ (connection_at d.rest c).remainder)
          × ((xs : List ℕ) → length xs ≡ missing d (delivery c bs room) → (step d (delivery c xs room)).reply ≡ took skipped (length xs) 0)
      of_remainder k n q l (inl (a, e)) = (e, λ xs g. skipped_so bs xs (accepted d (delivery c bs room) more_needed k n q) (skips_all (connection_at d.rest c).remainder xs l (g ∙ e)))
      of_remainder k n q l (inr (inl (a, t, e))) = absurd (omega arith)
      of_remainder k n q l (inr (inr (a, t, u, e))) = absurd (omega arith)

      of_header : (connection_at d.rest c).remainder ≡ 0 → length bs < 16 → Case (connection_at d.rest c).remainder bs (missing d (delivery c bs room))
          → (length bs + missing d (delivery c bs room) ≡ 16)
          × ((xs : List ℕ) → length xs ≡ missing d (delivery c bs room)
          → (x y : ℕ) → (step d (delivery c (bs ++ xs) room)).reply ≡ took more_needed x y → missing d (delivery c (bs ++ xs) room) ≡ (header (bs ++ xs)).len)
      of_header z l (inl (a, e)) = absurd (omega arith)
      of_header z l (inr (inr (a, t, u, e))) = absurd (omega arith)
      of_header z l (inr (inl (a, t, e))) = (e, λ xs g x y q. then xs g (by_case (bs ++ xs) x y q))
        where
          then : (xs : List ℕ) → length xs ≡ missing d (delivery c bs room) → Case (connection_at d.rest c).remainder (bs ++ xs) (missing d (delivery c (bs ++ xs) room))
              → missing d (delivery c (bs ++ xs) room) ≡ (header (bs ++ xs)).len
          then xs g (inl (a, f)) = absurd (omega arith)
          then xs g (inr (inl (a, t, f))) = let n : length (bs ++ xs) ≡ length bs + length xs = length-append bs xs in absurd (omega arith)
          then xs g (inr (inr (a, t, u, f))) = let n : length (bs ++ xs) ≡ length bs + length xs = length-append bs xs in omega arith

      of_payload : (connection_at d.rest c).remainder ≡ 0 → 16 ≤ length bs → Case (connection_at d.rest c).remainder bs (missing d (delivery c bs room))
          → (length bs + missing d (delivery c bs room) ≡ 16 + (header bs).len)
          × ((xs : List ℕ) → length xs ≡ missing d (delivery c bs room)
          → (x y : ℕ) → (step d (delivery c (bs ++ xs) room)).reply ≡ took more_needed x y → ⊥)
      of_payload z l (inl (a, e)) = absurd (omega arith)
      of_payload z l (inr (inl (a, t, e))) = absurd (omega arith)
      of_payload z l (inr (inr (a, t, u, e))) = (e, λ xs g x y q. then xs g (by_case (bs ++ xs) x y q))
        where
          then : (xs : List ℕ) → length xs ≡ missing d (delivery c bs room) → Case (connection_at d.rest c).remainder (bs ++ xs) (missing d (delivery c (bs ++ xs) room)) → ⊥
          then xs g (inl (a, f)) = omega arith
          then xs g (inr (inl (a, t, f))) = let n : length (bs ++ xs) ≡ length bs + length xs = length-append bs xs in omega arith
          then xs g (inr (inr (a, t, u, f))) =
              let n : length (bs ++ xs) ≡ length bs + length xs = length-append bs xs in
              let h : (header (bs ++ xs)).len ≡ (header bs).len = ap (λ (x : Header). x.len) (header_more bs xs l) in
              omega arith
