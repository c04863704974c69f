-- Allowed commands, proved: the rule of the list read both ways, and what else a call sends is no Error.
use mathlib.Core.Path.{◌≡◌, refl, sym, ap, ap₂, ◌∙◌}
use mathlib.Core.Bool.{Bool, true, false, not, ◌&&◌, cond, true≢false, false≢true}
use mathlib.Core.List.{List, [], ◌∷◌, ◌++◌, map}
use mathlib.Core.Logic.{inl, inr}
use Prim.Native.Nat.{ℕ, zero, suc, ◌+◌}
use lib.Dec.{eqb, ltb}
use lib.ListN.{set, drop}
use borrow.Author.Tests.{eqb-true, eq-eqb, ltb-false, le-leb, le-ltb}
use Rattle.wire.specs.declared.Header.{Header}
use Rattle.wire.specs.Message.{header, payload_of}
use Rattle.wire.specs.Class.{one_of, class_of}
use Rattle.wire.specs.Frame.{Frame, frame_of}
use Rattle.model.specs.MessageTypes.{FatalError, Error, DataEND, commands}
use Rattle.model.specs.Lists.{all}
use Rattle.model.specs.State.{Server, Entry, Exchange, Connection, at, slot_of_number, exchange_at, connection_at, sensing_at}
use Rattle.model.specs.Allowing.{admits, admits_is}
use Rattle.model.specs.Interface.{Event, Event.opening, Event.delivery, Event.cut, Event.clock, Event.answer, Event.status, Event.setting, Outcome.error_sent, Outcome.acted, Reply.took}
use Rattle.model.specs.Scan.{Scan, Scan.empty, Scan.few, Scan.wrong, Scan.skipping, Scan.long, Scan.part, Scan.whole, scan}
use Rattle.model.specs.Place.{slot_of, entry_of, Role, Role.r_none, Role.r_half_open, Role.r_synchronous, Role.r_asynchronous, role_of}
use Rattle.model.specs.Locks.{Answer, access, change, frees, settle}
use Rattle.model.specs.Exchange.{stepped, out_of_turn, answer_number}
use Rattle.model.specs.Sensing.{requested, trips_first, service_after}
use Rattle.model.specs.Checks
use Rattle.model.specs.Checks.{Verdict, Verdict.v_more, Verdict.v_skipped, Verdict.v_held, Verdict.v_ignored, Verdict.v_closed, Verdict.v_acts}
use Rattle.model.specs.Checks.{Verdict.v_error, Verdict.v_fatal, Rule, first, verdict, judged, either}
use Rattle.model.specs.Acts
use Rattle.model.specs.Refusals.{refusal}
use Rattle.model.specs.Step.{Result, answer_type, withholds, counted, effect, received, plan, answered, finish, step, lock_frame, channels}
use Rattle.model.specs.Access.{Command, access_of}
use Rattle.model.specs.Permitted.{permits, command_forms}
use Rattle.model.specs.AllowedOnly.{PassesBefore, AdmittedBy, answered_128, sends128, AllowedOnly, Refused128, Only128}
use Rattle.model.proofs.Basics.{and_l, and_r, not_of, not_off, isn't}
use Rattle.claims.proofs.FirstRule.{never, before, applies}
use Rattle.claims.proofs.Scanning.{whole_scan}
use Rattle.claims.proofs.Access.{accessed, made, outside, role_sync}
use Rattle.claims.proofs.Forms.{typed, command_passes, sync_permitted, Synchronous}
use Rattle.claims.proofs.Permitted.{shows, whole_step, whole_does}
use Rattle.claims.proofs.InStep.{connections_kept}

-- ---- the rule of the list

module _ (d : Server) (i : ℕ) (p : List ℕ) where
  -- a DataEND that comes to it
  listed_128 : (exchange_at d.rest i).in_clear ≡ false → access d.locks.entries i ≡ true → (h : Header) → eqb h.param (exchange_at d.rest i).number_expected ≡ true
      → ltb 1 h.code ≡ false → admits d.rest.allowed p ≡ false → first (Checks.synchronous_rules d i (typed DataEND h) p) ≡ v_error 128
  unfolding class_of
  listed_128 n a h m k l = rw (n, a, m, k, l)

is128 : Verdict → Bool
is128 v_more = false
is128 v_skipped = false
is128 v_held = false
is128 v_ignored = false
is128 v_closed = false
is128 v_acts = false
is128 (v_error n) = eqb n 128
is128 (v_fatal n) = false

module _ (d : Server) (c : ℕ) (h : Header) (p : List ℕ) where
  abbrev rules : List Rule
  rules = Checks.synchronous_rules d (slot_of d c) h p

  -- what it takes to come to it
  pub record Comes : Type 0 where
    pub data_end : h.kind ≡ DataEND
    pub outside_clear : (exchange_at d.rest (slot_of d c)).in_clear ≡ false
    pub has_access : access_of d c ≡ true
    pub in_step : h.param ≡ (exchange_at d.rest (slot_of d c)).number_expected
    pub good_code : ltb 1 h.code ≡ false
    pub not_listed : admits d.rest.allowed p ≡ false

  comes : is128 (first rules) ≡ true → Comes
  unfolding is128
  comes e =
      let b = before is128 refl 11 rules refl e in
      let t : (eqb h.kind DataEND && not (admits d.rest.allowed p)) ≡ true = applies is128 refl (drop 11 rules) refl b.1.1.1.1.1.1.1.1.1.1.1 in
      let k : h.kind ≡ DataEND = eqb-true _ _ (and_l (eqb h.kind DataEND) _ t) in
      let o : one_of commands h.kind ≡ true = rw k in
      let a : (one_of commands h.kind && not (access_of d c)) ≡ false = b.1.1.1.1.1.1.0 in
      let m : (one_of commands h.kind && not (eqb h.param (exchange_at d.rest (slot_of d c)).number_expected)) ≡ false = b.1.1.1.1.1.1.1.0 in
      let g : (one_of commands h.kind && ltb 1 h.code) ≡ false = b.1.1.1.1.1.1.1.1.0 in
      record {
        data_end = k;
        outside_clear = outside _ h.kind o b.1.1.0;
        has_access = not_off _ (rw o at a);
        in_step = eqb-true _ _ (not_off _ (rw o at m));
        good_code = rw o at g;
        not_listed = not_of _ (and_r (eqb h.kind DataEND) _ t);
      }

module _ (d : Server) (c : ℕ) (bs : List ℕ) (room : ℕ) where
  abbrev p₀ : List ℕ
  p₀ = payload_of (header bs) bs

  abbrev i₀ : ℕ
  i₀ = slot_of d c

  abbrev x₀ : Exchange
  x₀ = exchange_at d.rest i₀

  not_admitted : (AdmittedBy d bs → ⊥) → admits d.rest.allowed p₀ ≡ false
  not_admitted n = isn't _ (λ e. n ((admits_is d.rest.allowed p₀).0 e))

  good : PassesBefore d c bs → permits command_forms (header bs) ≡ true
  good w = rw (w.data_end, le-leb (header bs).code 1 w.good_code)

  allowed_acts : refusal d (delivery c bs room) ≡ 0 → PassesBefore d c bs → AdmittedBy d bs → (step d (delivery c bs room)).reply ≡ took acted (16 + (header bs).len) (entry_of d c).number
  unfolding finish Acts.acts
  allowed_acts z w a =
      let o = w.command.on_synchronous in
      ap (λ (x : Result). x.reply)
      (whole_does d c bs room z w.command.message r_synchronous (role_sync d c o)
      (command_passes d i₀ p₀ w.command.not_in_clear w.has_access (header bs) w.in_step (good w) (λ t. (admits_is d.rest.allowed p₀).1 a)))

  -- Error 128 leaves all but the number expected
  abbrev left : List Exchange → List Connection → Result
  left xs ks =
      record {
        server = record {
          locks = d.locks;
          rest = record {
            exchanges = xs;
            sensings = d.rest.sensings;
            connections = ks;
            last_issued = d.rest.last_issued;
            made = d.rest.made;
            status = d.rest.status;
            remote_local = d.rest.remote_local;
            allowed = d.rest.allowed;
          };
        };
        reply = took error_sent (16 + (header bs).len) 0;
        frames = frame_of c Error 128 0 [] ∷ [];
      }

  errs : finish d (effect (v_error 128) (Scan.whole (header bs) p₀) r_synchronous d i₀ c) ≡ left
      (set d.rest.exchanges i₀ (counted r_synchronous (Scan.whole (header bs) p₀) x₀))
      (effect (v_error 128) (Scan.whole (header bs) p₀) r_synchronous d i₀ c).rest.connections
  unfolding finish effect change
  errs = refl

  refuses : refusal d (delivery c bs room) ≡ 0 → PassesBefore d c bs → (AdmittedBy d bs → ⊥) → step d (delivery c bs room) ≡ answered_128 d c bs
  refuses z w n =
      let m : eqb (header bs).param x₀.number_expected ≡ true = eq-eqb _ _ w.in_step in
      let k : ltb 1 (header bs).code ≡ false = le-ltb 1 (header bs).code w.good_code in
      let s : counted r_synchronous (Scan.whole (header bs) p₀) x₀ ≡ stepped x₀ = rw (w.command.not_in_clear, w.command.of_type_lem, m) in
      let t : header bs ≡ typed DataEND (header bs) = λ j. record { kind = w.data_end j; code = (header bs).code; param = (header bs).param; len = (header bs).len } in
      whole_step d c bs room z w.command.message r_synchronous (role_sync d c w.command.on_synchronous)
      ∙ ap (λ v. finish d (effect v (Scan.whole (header bs) p₀) r_synchronous d i₀ c))
      (ap (λ (h : Header). first (Checks.synchronous_rules d i₀ h p₀)) t
      ∙ listed_128 d i₀ p₀ w.command.not_in_clear w.has_access (header bs) m k (not_admitted n))
      ∙ errs
      ∙ ap₂ left (ap (set d.rest.exchanges i₀) s) (connections_kept d c bs room 128 z w.command.message.no_remainder)

  only_allowed : (k n : ℕ) → (step d (delivery c bs room)).reply ≡ took acted k n → (header bs).kind ≡ DataEND → AdmittedBy d bs
  only_allowed k n e t = (admits_is d.rest.allowed p₀).0 (go (sync_permitted d i₀ p₀ (header bs) (ap (λ (r : Role). judged r d i₀ (header bs) p₀) (sym on) ∙ (shows d c bs room k n e).passes)))
    where
      a : Command d c bs
      a = ((accessed d c bs room).acts_with k n e (rw t)).0

      on : role_of d.locks.entries c ≡ r_synchronous
      on = role_sync d c a.on_synchronous

      go : Synchronous d i₀ p₀ (header bs) → admits d.rest.allowed p₀ ≡ true
      go (inl x) = x.4 t
      go (inr x) = absurd (true≢false (sym x.0 ∙ a.not_in_clear))

  pub allowed_only : AllowedOnly d c bs room
  allowed_only = record { acts = allowed_acts; refuses = refuses; only_allowed = only_allowed }

-- ---- nothing else sends Error 128

abbrev no_error : Frame → Bool
no_error f = not (eqb f.message.kind Error)

Silent : List Frame → Type 0
Silent fs = all no_error fs ≡ true

silent_append : (xs ys : List Frame) → Silent xs → Silent ys → Silent (xs ++ ys)
unfolding Silent
silent_append [] ys a b = b
silent_append (x ∷ xs) ys a b = rw (and_l (no_error x) _ a) (silent_append xs ys (and_r (no_error x) _ a) b)

silent_locks : (xs : List Answer) → Silent (map lock_frame xs)
unfolding Silent
silent_locks [] = refl
silent_locks (x ∷ xs) = silent_locks xs

silent_128 : (fs : List Frame) → Silent fs → sends128 fs ≡ true → ⊥
unfolding Silent
silent_128 [] a e = false≢true e
silent_128 (f ∷ fs) a e = silent_128 fs (and_r (no_error f) _ a) (rw (not_of (eqb f.message.kind Error) (and_l (no_error f) _ a)) at e)

-- what a call says directly
fatal_silent : (n : ℕ) (cs : List ℕ) → Silent (map (λ x. frame_of x FatalError n 0 []) cs)
unfolding Silent
fatal_silent n [] = refl
fatal_silent n (c ∷ cs) = fatal_silent n cs

opens_silent : (b : Bool) (d : Server) (c : ℕ) (h : Header) → Silent (Acts.opens b d c h).said
unfolding Silent
opens_silent true d c h = refl
opens_silent false d c h = refl

sync_silent : (k : Acts.SynchronousKind) (c : ℕ) (h : Header) → Silent (Acts.synchronous_said k c h)
unfolding Silent Acts.synchronous_said
sync_silent Acts.k_data c h = refl
sync_silent Acts.k_data_end c h = refl
sync_silent Acts.k_trigger c h = refl
sync_silent Acts.k_clear_complete c h = refl

async_silent : (k : Acts.AsynchronousKind) (d : Server) (i c : ℕ) (h : Header) → Silent (Acts.asynchronous_said k d i c h)
unfolding Silent Acts.asynchronous_said
async_silent Acts.k_lock d i c h = refl
async_silent Acts.k_remote_local d i c h = refl
async_silent Acts.k_maximum_size d i c h = refl
async_silent Acts.k_device_clear d i c h = refl
async_silent Acts.k_status_query d i c h = refl
async_silent Acts.k_lock_info d i c h = refl

acts_silent : (r : Role) (d : Server) (i c : ℕ) (h : Header) (p : List ℕ) → Silent (Acts.acts r d i c h p).said
unfolding Silent Acts.acts
acts_silent r_none d i c h p = opens_silent (eqb h.kind 0) d c h
acts_silent r_half_open d i c h p = refl
acts_silent r_synchronous d i c h p = sync_silent (Acts.synchronous_kind h.kind) c h
acts_silent r_asynchronous d i c h p = async_silent (Acts.asynchronous_kind h.kind) d i c h

-- and first
first_silent : (w : Bool) (e : Entry) (n : ℕ) → Silent (cond w (Acts.interruptions e n) [])
unfolding Silent
first_silent true e n = refl
first_silent false e n = refl

sync_first : (k : Acts.SynchronousKind) (e : Entry) (x : Exchange) (h : Header) → Silent (Acts.synchronous_first k e x h)
unfolding Silent
sync_first Acts.k_data e x h = first_silent (out_of_turn h.code x) e h.param
sync_first Acts.k_data_end e x h = first_silent (out_of_turn h.code x) e h.param
sync_first Acts.k_trigger e x h = first_silent (out_of_turn h.code x) e h.param
sync_first Acts.k_clear_complete e x h = refl

opens_first : (b : Bool) (d : Server) (c : ℕ) (h : Header) → Silent (Acts.opens b d c h).first
unfolding Silent
opens_first true d c h = refl
opens_first false d c h = refl

acts_first : (r : Role) (d : Server) (i c : ℕ) (h : Header) (p : List ℕ) → Silent (Acts.acts r d i c h p).first
unfolding Silent Acts.acts
acts_first r_none d i c h p = opens_first (eqb h.kind 0) d c h
acts_first r_half_open d i c h p = refl
acts_first r_synchronous d i c h p = sync_first (Acts.synchronous_kind h.kind) (at d.locks.entries i) (exchange_at d.rest i) h
acts_first r_asynchronous d i c h p = refl

-- a plan that says no Error
record SilentPlan (x : Acts.Plan) : Type 0 where
  first : Silent x.first
  said : Silent x.said

finish_silent : (d : Server) (x : Acts.Plan) → SilentPlan x → sends128 (finish d x).frames ≡ true → ⊥
unfolding finish
finish_silent d x s e =
    silent_128 _ (silent_append x.first _ s.first (silent_append (map lock_frame (change d.locks x.event).answers) _ (silent_locks (change d.locks x.event).answers)
    (silent_append x.said _ s.said (silent_locks (settle (frees d.locks x.event) (change d.locks x.event).locks).answers)))) e

service_silent : (t : Bool) (e : Entry) (b : ℕ) → Silent (requested t e b)
unfolding Silent requested
service_silent true e b = refl
service_silent false e b = refl

answer_silent : (w end : Bool) (e : Entry) (x k : ℕ) (p : List ℕ) (fs : List Frame) → Silent fs → Silent (cond w (Acts.interruptions e x) (frame_of e.synchronous (answer_type end) 0 k p ∷ fs))
unfolding Silent
answer_silent true end e x k p fs q = refl
answer_silent false true e x k p fs q = q
answer_silent false false e x k p fs q = q

module _ (d : Server) (c : ℕ) where
  error_not : (s : Scan) (r : Role) (x : ℕ) → eqb x 128 ≡ false → sends128 (finish d (effect (v_error x) s r d (slot_of d c) c)).frames ≡ true → ⊥
  unfolding finish effect change
  error_not s r x n e = false≢true (rw n at e)

  -- a verdict that is no Error 128
  effect_128 : (v : Verdict) (s : Scan) (r : Role) → is128 v ≡ false → sends128 (finish d (effect v s r d (slot_of d c) c)).frames ≡ true → ⊥
  unfolding effect Silent is128
  effect_128 v_more s r n e = finish_silent d _ (record { first = refl; said = refl }) e
  effect_128 v_held s r n e = finish_silent d _ (record { first = refl; said = refl }) e
  effect_128 v_skipped s r n e = finish_silent d _ (record { first = refl; said = refl }) e
  effect_128 v_ignored s r n e = finish_silent d _ (record { first = refl; said = refl }) e
  effect_128 (v_error x) s r n e = error_not s r x n e
  effect_128 (v_fatal x) s r n e = finish_silent d _ (record { first = refl; said = fatal_silent x (channels d c) }) e
  effect_128 v_closed s r n e = finish_silent d _ (record { first = refl; said = refl }) e
  effect_128 v_acts empty r n e = finish_silent d _ (record { first = refl; said = refl }) e
  effect_128 v_acts few r n e = finish_silent d _ (record { first = refl; said = refl }) e
  effect_128 v_acts wrong r n e = finish_silent d _ (record { first = refl; said = refl }) e
  effect_128 v_acts (skipping k) r n e = finish_silent d _ (record { first = refl; said = refl }) e
  effect_128 v_acts (long h) r n e = finish_silent d _ (record { first = refl; said = refl }) e
  effect_128 v_acts (part h) r n e = finish_silent d _ (record { first = refl; said = refl }) e
  effect_128 v_acts (whole h p) r n e = finish_silent d _ (record { first = acts_first r d (slot_of d c) c h p; said = acts_silent r d (slot_of d c) c h p }) e

  -- where it comes from
  judged_128 : (r : Role) (h : Header) (p : List ℕ) → is128 (judged r d (slot_of d c) h p) ≡ true → (r ≡ r_synchronous) × Comes d c h p
  unfolding is128
  judged_128 r_none h p e = absurd (never is128 refl (Checks.opening_rules d h p) refl e)
  judged_128 r_half_open h p e = absurd (false≢true e)
  judged_128 r_synchronous h p e = (refl, comes d c h p e)
  judged_128 r_asynchronous h p e = absurd (never is128 refl (Checks.asynchronous_rules h p) refl e)

  long_not : (r : Role) → is128 (Checks.too_long r) ≡ true → ⊥
  unfolding is128
  long_not r_none e = false≢true e
  long_not r_half_open e = false≢true e
  long_not r_synchronous e = false≢true e
  long_not r_asynchronous e = false≢true e

  part_not : (r : Role) (h : Header) → is128 (Checks.partly r h) ≡ true → ⊥
  unfolding is128
  part_not r_none h e = go (either 0 17 h.kind) e
    where
      go : (b : Bool) → is128 (cond b v_more (v_fatal 3)) ≡ true → ⊥
      go true e = false≢true e
      go false e = false≢true e
  part_not r_half_open h e = false≢true e
  part_not r_synchronous h e = false≢true e
  part_not r_asynchronous h e = false≢true e

  pub record Told (bs : List ℕ) : Type 0 where
    pub passes_before : PassesBefore d c bs
    pub not_allowed : AdmittedBy d bs → ⊥

  verdict_128 : (bs : List ℕ) (s : Scan) → scan (connection_at d.rest c).remainder bs ≡ s → is128 (verdict (role_of d.locks.entries c) d (slot_of d c) s) ≡ true → Told bs
  unfolding verdict is128
  verdict_128 bs empty es e = absurd (false≢true e)
  verdict_128 bs few es e = absurd (false≢true e)
  verdict_128 bs wrong es e = absurd (false≢true e)
  verdict_128 bs (skipping k) es e = absurd (false≢true e)
  verdict_128 bs (long h) es e = absurd (long_not (role_of d.locks.entries c) e)
  verdict_128 bs (part h) es e = absurd (part_not (role_of d.locks.entries c) h e)
  verdict_128 bs (whole h p) es e =
      let j = judged_128 (role_of d.locks.entries c) h p e in
      let w = whole_scan _ bs h p es in
      let k = j.1 in
      let g : header bs ≡ h = w.0 in
      let o : payload_of (header bs) bs ≡ p = w.2 in
      record {
        passes_before =
            record {
              command = made d c bs h p es j.0 k.outside_clear (rw k.data_end);
              data_end = rw g k.data_end;
              has_access = k.has_access;
              in_step = rw g k.in_step;
              good_code = rw g (ltb-false 1 h.code k.good_code);
            };
        not_allowed = λ a. true≢false (sym ((admits_is d.rest.allowed (payload_of (header bs) bs)).1 a) ∙ ap (admits d.rest.allowed) o ∙ k.not_listed);
      }

pub only_128 : (d : Server) (e : Event) → Only128 d e
unfolding step answered plan received Silent
only_128 d e = record { only = λ q. go (refusal d e) e q }
  where
    by_verdict : (c : ℕ) (bs : List ℕ) (room : ℕ) (v : Bool) → is128 (verdict (role_of d.locks.entries c) d (slot_of d c) (scan (connection_at d.rest c).remainder bs)) ≡ v
        → sends128 (finish d (plan d (delivery c bs room))).frames ≡ true → Refused128 d (delivery c bs room)
    by_verdict c bs room true ev q =
        let t = verdict_128 d c bs _ refl ev in
        record { connection = c; shown = bs; room = room; delivered = refl; passes_before = t.passes_before; not_allowed = t.not_allowed }
    by_verdict c bs room false ev q = absurd (effect_128 d c _ _ _ ev q)

    go : (n : ℕ) (e : Event) → sends128 (answered n d e).frames ≡ true → Refused128 d e
    go (suc n) e q = absurd (false≢true q)
    go zero (delivery c bs room) q = by_verdict c bs room _ refl q
    go zero (opening c) q = absurd (finish_silent d _ (record { first = refl; said = refl }) q)
    go zero (cut c room) q = absurd (finish_silent d _ (record { first = refl; said = refl }) q)
    go zero (clock t room) q = absurd (finish_silent d _ (record { first = refl; said = refl }) q)
    go zero (answer n p end sh room) q =
        let i = slot_of_number d.locks.entries n in
        absurd (finish_silent d _
        (record {
          first = refl;
          said = answer_silent (withholds d n end sh) end (at d.locks.entries i) (header sh).param (answer_number (exchange_at d.rest i)) p
              (service_after d n p) (service_silent (trips_first p (sensing_at d.rest i)) (at d.locks.entries i) d.rest.status);
        }) q)
    go zero (status b) q = absurd (finish_silent d _ (record { first = refl; said = refl }) q)
    go zero (setting s) q = absurd (finish_silent d _ (record { first = refl; said = refl }) q)
