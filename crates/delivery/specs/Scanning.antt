-- What the bytes of a delivery show, from the tests of the code; and what is done where there is no whole message. Assumes nothing.
use Rattle.std.specs.Prelude.{◌≡◌, Bool, cond, List, [], ◌∷◌, ℕ, zero, suc, ◌+◌, ◌-◌, ◌≤◌, ◌<◌, min, ltb, length}
use Rattle.std.proofs.Math.Path.{refl, ap, ap₂, subst}
use Rattle.std.proofs.Common.{true≢false, sym, ◌∙◌, not-suc-le-zero, arith, lt-ltb, le-ltb}
use Rattle.std.proofs.Math.Bool.{true, false}
use Rattle.wire.specs.declared.Header.{Header}
use Rattle.wire.specs.Field.{number_at}
use Rattle.wire.specs.Message.{header, prologue, payload_of}
use Rattle.model.specs.Sizes.{payload_limit}
use Rattle.model.specs.State.{Server, connection_at}
use Rattle.model.specs.Interface.{Outcome.more_needed, Outcome.skipped, Outcome.held, Outcome.ignored, Outcome.error_sent, Outcome.closed, Outcome.acted}
use Rattle.model.specs.Interface.{Reply, Reply.refused, Reply.done, Reply.withheld, Reply.took}
use Rattle.model.specs.Scan.{Scan, Scan.empty, Scan.few, Scan.wrong, Scan.skipping, Scan.long, Scan.part, Scan.whole, sorted, fresh_scan, scan}
use Rattle.model.specs.Missing.{if_more, lacking}
use Rattle.model.specs.MessageTypes.{Initialize, AsyncInitialize}
use Rattle.model.specs.Place.{Place, Role, Role.r_none, Role.r_half_open, Role.r_synchronous, Role.r_asynchronous, role_of, slot_of}
use Rattle.model.specs.Checks.{Verdict, Verdict.v_more, Verdict.v_skipped, Verdict.v_held, Verdict.v_ignored, Verdict.v_closed, Verdict.v_acts, Verdict.v_error, Verdict.v_fatal, either, verdict, judged, partly, too_long}
use Rattle.model.specs.Step.{finish, effect, idle, channels, received}
use Rattle.state.specs.View.{Memory}
use Rattle.checks.specs.declared.verdict.Verdict.{Verdict as Told}
use Rattle.checks.specs.declared.verdict.Verdict.TheVariants.{More, Held, Ignored, Closed, Acts, Fatal, Error}
use Rattle.checks.specs.Verdicts.{verdict_meant}
use Rattle.sessions.specs.declared.Delivery.{Delivery}
use Rattle.sessions.specs.Did.{Did, DidWith}
use Rattle.sessions.specs.Replies.{skip_plan, close_plan, fatals}
use Rattle.delivery.specs.Verdicts.{by_verdict}

-- the length alone
pub length_field : (bs : List ℕ) → (header bs).len ≡ number_at bs 8 8
unfolding header
length_field bs = refl

module _ (bs : List ℕ) (enough : 16 ≤ length bs) where
  sorted_as : (p l q : Bool) → prologue bs ≡ p → ltb payload_limit (header bs).len ≡ l → ltb (length bs) (16 + (header bs).len) ≡ q → fresh_scan bs ≡ sorted false p l q bs (header bs)
  unfolding fresh_scan
  sorted_as p l q a b e =
      ap (λ (x : Bool). sorted x (prologue bs) (ltb payload_limit (header bs).len) (ltb (length bs) (16 + (header bs).len)) bs (header bs)) (le-ltb (length bs) 16 enough)
      ∙ ap (λ (x : Bool). sorted false x (ltb payload_limit (header bs).len) (ltb (length bs) (16 + (header bs).len)) bs (header bs)) a
      ∙ ap₂ (λ (x y : Bool). sorted false p x y bs (header bs)) b e

  pub scan_wrong : prologue bs ≡ false → fresh_scan bs ≡ wrong
  scan_wrong a = sorted_as false (ltb payload_limit (header bs).len) (ltb (length bs) (16 + (header bs).len)) a refl refl

  pub scan_long : prologue bs ≡ true → payload_limit < (header bs).len → fresh_scan bs ≡ long (header bs)
  scan_long a b = sorted_as true true (ltb (length bs) (16 + (header bs).len)) a (lt-ltb payload_limit (header bs).len b) refl

  pub scan_part : prologue bs ≡ true → (header bs).len ≤ payload_limit → length bs < 16 + (header bs).len → fresh_scan bs ≡ part (header bs)
  scan_part a b e = sorted_as true false true a (le-ltb payload_limit (header bs).len b) (lt-ltb (length bs) (16 + (header bs).len) e)

  pub scan_whole : prologue bs ≡ true → (header bs).len ≤ payload_limit → 16 + (header bs).len ≤ length bs → fresh_scan bs ≡ whole (header bs) (payload_of (header bs) bs)
  scan_whole a b e = sorted_as true false false a (le-ltb payload_limit (header bs).len b) (le-ltb (length bs) (16 + (header bs).len) e)

-- with a remainder, without bytes, with too few
pub scan_empty : (r : ℕ) (bs : List ℕ) → length bs ≡ 0 → scan r bs ≡ empty
unfolding scan
scan_empty r [] e = refl
scan_empty r (b ∷ bs) e = absurd (omega arith)

pub scan_skips : (r : ℕ) (bs : List ℕ) → 0 < length bs → 0 < r → scan r bs ≡ skipping (min r (length bs))
unfolding scan
scan_skips r [] h l = absurd (not-suc-le-zero h)
scan_skips zero (b ∷ bs) h l = absurd (not-suc-le-zero l)
scan_skips (suc r) (b ∷ bs) h l = refl

pub scan_fresh : (r : ℕ) (bs : List ℕ) → 0 < length bs → r ≡ 0 → scan r bs ≡ fresh_scan bs
unfolding scan
scan_fresh r [] h e = absurd (not-suc-le-zero h)
scan_fresh zero (b ∷ bs) h e = refl
scan_fresh (suc r) (b ∷ bs) h e = absurd (omega arith)

pub scan_few : (bs : List ℕ) → length bs < 16 → fresh_scan bs ≡ few
unfolding fresh_scan
scan_few bs h = ap (λ (x : Bool). sorted x (prologue bs) (ltb payload_limit (header bs).len) (ltb (length bs) (16 + (header bs).len)) bs (header bs)) (lt-ltb (length bs) 16 h)

-- nothing is missing but with more needed
none_missing : (y : Reply) → if_more y 0 ≡ 0
none_missing (refused n) = refl
none_missing done = refl
none_missing withheld = refl
none_missing (took more_needed k n) = refl
none_missing (took skipped k n) = refl
none_missing (took held k n) = refl
none_missing (took ignored k n) = refl
none_missing (took error_sent k n) = refl
none_missing (took closed k n) = refl
none_missing (took acted k n) = refl

-- what is done by the scan and by the role, with so many bytes to skip and so many here
module _ (d : Server) (c i : ℕ) (r : Delivery) (m m' : Memory) (out out' : List ℕ) (left here : ℕ) where
  abbrev pub DidOn : Role → Scan → Type 0
  DidOn ro s =
      DidWith (if_more (finish d (effect (verdict ro d i s) s ro d i c)).reply (lacking left here s)) (finish d (effect (verdict ro d i s) s ro d i c)) r m m' out out'

  pub on_scan : (ro : Role) (s s' : Scan) → s ≡ s' → DidOn ro s' → DidOn ro s
  on_scan ro s s' e q = subst (λ (x : Scan). DidOn ro x) (sym e) q

  -- nothing is missing
  whole_told : (ro : Role) (s : Scan) → lacking left here s ≡ 0 → Did (finish d (effect (verdict ro d i s) s ro d i c)) r m m' out out' → DidOn ro s
  whole_told ro s e q =
      let y : Reply = (finish d (effect (verdict ro d i s) s ro d i c)).reply in
      subst (λ (k : ℕ). DidWith k (finish d (effect (verdict ro d i s) s ro d i c)) r m m' out out') (sym (ap (if_more y) e ∙ none_missing y)) q

  pub wrong_done : (ro : Role) → Did (finish d (close_plan d c i (fatals 1 (channels d c)))) r m m' out out' → DidOn ro wrong
  unfolding verdict effect
  wrong_done ro q = whole_told ro wrong refl q

  -- no bytes
  pub empty_done : (ro : Role) → DidWith (lacking left here empty) (finish d (idle d (took more_needed 0 0))) r m m' out out' → DidOn ro empty
  unfolding verdict effect finish
  empty_done ro q = q

  pub few_done : (ro : Role) → DidWith (16 - here) (finish d (idle d (took more_needed 0 0))) r m m' out out' → DidOn ro few
  unfolding verdict effect finish
  few_done ro q = q

  pub skip_done : (ro : Role) (k : ℕ) → Did (finish d (skip_plan d c k)) r m m' out out' → DidOn ro (skipping k)
  unfolding verdict effect
  skip_done ro k q = whole_told ro (skipping k) refl q

  pub whole_done : (ro : Role) (h : Header) (p : List ℕ) → Did (finish d (effect (judged ro d i h p) (whole h p) ro d i c)) r m m' out out' → DidOn ro (whole h p)
  unfolding verdict
  whole_done ro h p q = whole_told ro (whole h p) refl q

  -- a header alone
  pub long_done : (ro : Role) (h : Header) (v : Verdict) → too_long ro ≡ v → Did (finish d (effect v (long h) ro d i c)) r m m' out out' → DidOn ro (long h)
  unfolding verdict
  long_done ro h v e q = whole_told ro (long h) refl (by_verdict d c i (long h) ro r m m' out out' (too_long ro) v e q)

  -- the payload not all here: more needed, or FatalError
  abbrev part_by : (v : Verdict) (h : Header) (ro : Role) → Type 0
  part_by v h ro = DidWith (if_more (finish d (effect v (part h) ro d i c)).reply (16 + h.len - here)) (finish d (effect v (part h) ro d i c)) r m m' out out'

  pub part_more : (ro : Role) (h : Header) → partly ro h ≡ v_more → DidWith (16 + h.len - here) (finish d (idle d (took more_needed 0 0))) r m m' out out' → DidOn ro (part h)
  unfolding verdict effect finish
  part_more ro h e q = subst (λ (v : Verdict). part_by v h ro) (sym e) q

  fatal_by : (v : Verdict) (h : Header) (ro : Role) (n : ℕ) → v ≡ v_fatal n → Did (finish d (effect v (part h) ro d i c)) r m m' out out' → part_by v h ro
  unfolding effect finish
  fatal_by v h ro n e q =
      subst (λ (v : Verdict). part_by v h ro) (sym e) (subst (λ (v : Verdict). Did (finish d (effect v (part h) ro d i c)) r m m' out out') e q)

  pub part_done : (ro : Role) (h : Header) (v : Verdict) → partly ro h ≡ v → (v ≡ v_more → ⊥) → Did (finish d (effect v (part h) ro d i c)) r m m' out out' → DidOn ro (part h)
  unfolding verdict
  part_done ro h v e o q = go ro (λ z. o (sym e ∙ z)) (by_verdict d c i (part h) ro r m m' out out' (partly ro h) v e q)
    where
      go : (ro : Role) → (partly ro h ≡ v_more → ⊥) → Did (finish d (effect (partly ro h) (part h) ro d i c)) r m m' out out' → part_by (partly ro h) h ro
      go r_none o q = opening (either Initialize AsyncInitialize h.kind) o q
        where
          opening : (b : Bool) → (cond b v_more (v_fatal 3) ≡ v_more → ⊥) → Did (finish d (effect (cond b v_more (v_fatal 3)) (part h) r_none d i c)) r m m' out out'
              → part_by (cond b v_more (v_fatal 3)) h r_none
          opening true o q = absurd (o refl)
          opening false o q = fatal_by (v_fatal 3) h r_none 3 refl q
      go r_half_open o q = fatal_by (v_fatal 2) h r_half_open 2 refl q
      go r_synchronous o q = absurd (o refl)
      go r_asynchronous o q = absurd (o refl)

-- one verdict of the code means that more is needed
abbrev is_more : Verdict → Bool
is_more v_more = true
is_more v_skipped = false
is_more v_held = false
is_more v_ignored = false
is_more v_closed = false
is_more v_acts = false
is_more (v_error k) = false
is_more (v_fatal k) = false

pub only_more : (v : Told) → verdict_meant v ≡ v_more → v ≡ More
only_more More e = refl
only_more Held e = absurd (true≢false (ap is_more (sym e)))
only_more Ignored e = absurd (true≢false (ap is_more (sym e)))
only_more Closed e = absurd (true≢false (ap is_more (sym e)))
only_more Acts e = absurd (true≢false (ap is_more (sym e)))
only_more (Fatal k) e = absurd (true≢false (ap is_more (sym e)))
only_more (Error k) e = absurd (true≢false (ap is_more (sym e)))

-- some bytes, and some to skip
pub skipped_on : (d : Server) (c i : ℕ) (r : Delivery) (m m' : Memory) (out out' : List ℕ) (left : ℕ) (bs : List ℕ) (ro : Role) (k : ℕ) → 0 < length bs → 0 < left
    → Did (finish d (skip_plan d c k)) r m m' out out' → min left (length bs) ≡ k → DidOn d c i r m m' out out' left (length bs) ro (scan left bs)
skipped_on d c i r m m' out out' left bs ro k h l q e =
    on_scan d c i r m m' out out' left (length bs) ro (scan left bs) (skipping k) (scan_skips left bs h l ∙ ap skipping e) (skip_done d c i r m m' out out' left (length bs) ro k q)

-- fewer than sixteen bytes and nothing to skip: none, or some
pub short_done : (d : Server) (c i : ℕ) (r : Delivery) (m m' : Memory) (out out' : List ℕ) (left : ℕ) (bs : List ℕ) (ro : Role) → left ≡ 0 → length bs < 16
    → DidWith (16 - length bs) (finish d (idle d (took more_needed 0 0))) r m m' out out' → DidOn d c i r m m' out out' left (length bs) ro (scan left bs)
short_done d c i r m m' out out' left bs ro e l q = subst (λ (x : ℕ). DidOn d c i r m m' out out' x (length bs) ro (scan x bs)) (sym e) (go bs l q)
  where
    go : (bs : List ℕ) → length bs < 16 → DidWith (16 - length bs) (finish d (idle d (took more_needed 0 0))) r m m' out out'
        → DidOn d c i r m m' out out' 0 (length bs) ro (scan 0 bs)
    go [] l q = on_scan d c i r m m' out out' 0 0 ro (scan 0 []) empty (scan_empty 0 [] refl) (empty_done d c i r m m' out out' 0 0 ro q)
    go (b ∷ bs) l q =
        on_scan d c i r m m' out out' 0 (length (b ∷ bs)) ro (scan 0 (b ∷ bs)) few (scan_fresh 0 (b ∷ bs) (omega arith) refl ∙ scan_few (b ∷ bs) l)
        (few_done d c i r m m' out out' 0 (length (b ∷ bs)) ro q)

-- no bytes, and some to skip
pub skip_none : (d : Server) (c i : ℕ) (r : Delivery) (m m' : Memory) (out out' : List ℕ) (left here : ℕ) (ro : Role) → 0 < left
    → DidWith left (finish d (idle d (took more_needed 0 0))) r m m' out out' → DidOn d c i r m m' out out' left here ro empty
skip_none d c i r m m' out out' zero here ro l q = absurd (not-suc-le-zero l)
skip_none d c i r m m' out out' (suc left) here ro l q = empty_done d c i r m m' out out' (suc left) here ro q

-- the place is the one that was found
pub at_place : (d : Server) (c : ℕ) (p q : Place) (r : Delivery) (m m' : Memory) (out out' : List ℕ) (left here : ℕ) (s : Scan) → p ≡ q
    → DidOn d c q.slot r m m' out out' left here q.role s → DidOn d c p.slot r m m' out out' left here p.role s
at_place d c p q r m m' out out' left here s e x = subst (λ (k : Place). DidOn d c k.slot r m m' out out' left here k.role s) (sym e) x

-- the place of the connection is the one that was found
pub received_as : (d : Server) (c i : ℕ) (r : Delivery) (m m' : Memory) (out out' : List ℕ) (left here : ℕ) (s : Scan) → slot_of d c ≡ i
    → DidOn d c i r m m' out out' left here (role_of d.locks.entries c) s
    → DidWith (if_more (finish d (received d c s)).reply (lacking left here s)) (finish d (received d c s)) r m m' out out'
unfolding received
received_as d c i r m m' out out' left here s e q =
    subst (λ (j : ℕ). DidOn d c j r m m' out out' left here (role_of d.locks.entries c) s) (sym e) q

-- what a delivery of the bytes bs to connection c does, with what is missing
abbrev pub DidDeliver : Server → ℕ → List ℕ → Delivery → Memory → Memory → List ℕ → List ℕ → Type 0
DidDeliver d c bs r m m' out out' =
    let left : ℕ = (connection_at d.rest c).remainder in
    DidWith (if_more (finish d (received d c (scan left bs))).reply (lacking left (length bs) (scan left bs))) (finish d (received d c (scan left bs))) r m m' out out'

-- nothing to skip: a header is here at least, or not even that
module _ (d : Server) (c : ℕ) (bs : List ℕ) (r : Delivery) (m m' : Memory) (out out' : List ℕ) (none : (connection_at d.rest c).remainder ≡ 0) where
  abbrev left : ℕ
  left = (connection_at d.rest c).remainder

  abbrev role : Role
  role = role_of d.locks.entries c

  pub message_received : 16 ≤ length bs → DidOn d c (slot_of d c) r m m' out out' 0 (length bs) role (fresh_scan bs) → DidDeliver d c bs r m m' out out'
  message_received h q =
      received_as d c (slot_of d c) r m m' out out' left (length bs) (scan left bs) refl
      (on_scan d c (slot_of d c) r m m' out out' left (length bs) role (scan left bs) (fresh_scan bs) (scan_fresh left bs (omega arith) none)
      (subst (λ (x : ℕ). DidOn d c (slot_of d c) r m m' out out' x (length bs) role (fresh_scan bs)) (sym none) q))

  pub short_received : length bs < 16 → DidWith (16 - length bs) (finish d (idle d (took more_needed 0 0))) r m m' out out' → DidDeliver d c bs r m m' out out'
  short_received h q =
      received_as d c (slot_of d c) r m m' out out' left (length bs) (scan left bs) refl (short_done d c (slot_of d c) r m m' out out' left bs role none h q)
