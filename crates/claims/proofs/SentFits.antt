-- Every frame that is sent fits: connections, what is asked, the vendor number and the status byte stay in range from call to call.
use mathlib.Core.Path.{◌≡◌, refl, ap, sym, ◌∙◌}
use mathlib.Core.Bool.{Bool, true, false, not, ◌&&◌, ◌||◌, cond, true≢false}
use mathlib.Core.List.{List, [], ◌∷◌, ◌++◌, map}
use Prim.Native.Nat.{ℕ, zero, suc, ◌+◌, ◌*◌, ◌/◌, ◌^◌, ◌≤◌, ◌<◌, min, ◌%◌}
use native.Mathlib.Omega.{arith}
use lib.Dec.{eqb, leb, ltb, lit<}
use lib.ListN.{get_or, length, take, drop, length-take, length-drop, set}
use borrow.Author.Tests.{eqb-true, ltb-true, ltb-false, lt-ltb, leb-true, leb-false, eq-eqb}
use Rattle.wire.specs.declared.Header.{Header}
use Rattle.wire.specs.Field.{Bytes, length_field, number_bound}
use Rattle.wire.specs.Message.{Fits, header}
use Rattle.wire.proofs.RoundTrip.{decoded_fits}
use Rattle.wire.specs.Frame.{Frame, frame_of}
use Rattle.wire.specs.ReadFrames.{FrameFits, AllFit}
use Rattle.wire.proofs.Bytes.{take_bytes, drop_bytes, bytes_field}
use Rattle.model.specs.Sizes.{connection_limit, payload_limit, session_limit, last_session_id, protocol_version, no_connection}
use Rattle.model.specs.MessageTypes.{FatalError}
use Rattle.model.specs.Lists.{all, tally}
use Rattle.model.specs.State.{Asked, Asked.none, Asked.some, Exchange, Rest, Entry, Server, at, live, slot_of_number, exchange_at, connection_at, fresh_exchange}
use Rattle.model.specs.State.{open_exchange, with_exchange, fresh, Making, sensing_at, with_sensings}
use Rattle.model.specs.Interface.{Event, Event.opening, Event.delivery, Event.cut, Event.clock, Event.answer, Event.status, Event.setting}
use Rattle.model.specs.Scan.{Scan, Scan.empty, Scan.few, Scan.wrong, Scan.skipping, Scan.long, Scan.part, Scan.whole, scan}
use Rattle.model.specs.Place.{slot_of, entry_of, role_of, Role, Role.r_none, Role.r_half_open, Role.r_synchronous, Role.r_asynchronous}
use Rattle.model.specs.Locks
use Rattle.model.specs.Locks.{Answer, candidate, IsLive, issued, change, frees, settle}
use Rattle.wire.specs.MessageId.{next, next_fits}
use Rattle.readings.specs.Request.{with_value, request_code}
use Rattle.model.specs.Exchange
use Rattle.model.specs.Exchange.{answered_with, answer_number, answer_number_in, number_asked, status_byte, available_at}
use Rattle.model.specs.Checks.{Verdict, Verdict.v_more, Verdict.v_skipped, Verdict.v_held, Verdict.v_ignored, Verdict.v_closed, Verdict.v_acts, Verdict.v_error, Verdict.v_fatal, verdict}
use Rattle.model.specs.Acts
use Rattle.model.specs.Refusals.{causes, refusal}
use Rattle.model.specs.Step.{effect, received, plan, answered, finish, step, log, lock_frame, closing, answer_type, withholds}
use Rattle.model.specs.Reader.{message_with}
use Rattle.model.specs.Possible.{Possible, AllPossible}
use Rattle.model.specs.SentFits.{LinesFit, SentFits}
use Rattle.model.specs.Sensing.{requested, trips_first, service_after, sensed}
use Rattle.model.proofs.Basics.{and_l, and_r, both, all_set, all_at}
use Rattle.claims.proofs.Invariant.{Inv}
use Rattle.claims.proofs.Events.{inv_fresh}
use Rattle.claims.proofs.Fits.{uncaused, inv_call}
use Rattle.claims.proofs.Scanning.{whole_cut}
use Rattle.claims.proofs.Reader.{alike}
use Rattle.claims.proofs.Codes.{coded, verdict_coded}
use Rattle.claims.proofs.Reached.{reachable, answer_fits, Reachable, Brings, change_kept, settle_kept}

-- what is asked is a 32-bit number, and so is the count of answers
abbrev asked_fits : Asked → Bool
asked_fits none = true
asked_fits (some n) = ltb n (2 ^ 32)

abbrev exchange_fits : Exchange → Bool
exchange_fits x = ltb x.count (2 ^ 32) && asked_fits x.asked

record RestFits (r : Rest) : Type 0 where
  asked : all exchange_fits r.exchanges ≡ true
  vendor : r.made.vendor < 2 ^ 16
  status : r.status < 256

record InRange (d : Server) : Type 0 where
  inv : Inv d.locks
  entries : Reachable d.locks.entries
  rest : RestFits d.rest

-- frames
plain : (c k n p : ℕ) → c < 256 → k < 256 → n < 256 → p < 2 ^ 32 → FrameFits (frame_of c k n p [])
plain c k n p a b e f = record { connection = a; fields = record { kind = b; code = e; param = f; length = lit< tt; payload = λ (i : ℕ). lit< tt } }

fit_append : (xs ys : List Frame) → AllFit xs → AllFit ys → AllFit (xs ++ ys)
fit_append [] ys a b = b
fit_append (x ∷ xs) ys a b = (a.0, fit_append xs ys a.1 b)

lock_fit : (xs : List Answer) → all answer_fits xs ≡ true → AllFit (map lock_frame xs)
lock_fit [] a = tt
lock_fit (x ∷ xs) a =
    let h : answer_fits x ≡ true = and_l (answer_fits x) _ a in
    (plain x.to 5 x.code 0 (ltb-true _ _ (and_l (ltb x.to 256) _ h)) (lit< tt) (ltb-true _ _ (and_r (ltb x.to 256) _ h)) (lit< tt), lock_fit xs (and_r (answer_fits x) _ a))

-- a whole message's parameter is a 32-bit number
abbrev Parameter : Scan → Type 0
Parameter empty = Unit {0}
Parameter few = Unit {0}
Parameter wrong = Unit {0}
Parameter (skipping k) = Unit {0}
Parameter (long h) = Unit {0}
Parameter (part h) = Unit {0}
Parameter (whole h p) = h.param < 2 ^ 32

pub whole_fits : (r : ℕ) (bs : List ℕ) (h : Header) (p : List ℕ) → Bytes bs → scan r bs ≡ Scan.whole h p → Fits (message_with h p)
whole_fits r bs h p b e =
    let x : List ℕ = take (16 + h.len) bs in
    let w = ((alike x).whole h p).0 (whole_cut r bs h p e) in
    let n : length p ≡ h.len = ap (λ (z : Header). z.len) w.head in
    let l : length x < 2 ^ 64 = rw (length-take (16 + h.len) bs) (let z = w.within in omega arith) in
    decoded_fits x (message_with h p) (take_bytes (16 + h.len) bs b) w.decodes l

parameter : (r : ℕ) (bs : List ℕ) → Bytes bs → (s : Scan) → scan r bs ≡ s → Parameter s
parameter r bs b empty e = tt
parameter r bs b few e = tt
parameter r bs b wrong e = tt
parameter r bs b (skipping k) e = tt
parameter r bs b (long h) e = tt
parameter r bs b (part h) e = tt
parameter r bs b (whole h p) e = (whole_fits r bs h p b e).param

-- the number of a new session
issued_small : (f k : ℕ) (es : List Entry) (last : ℕ) → issued f k es last ≤ last_session_id
issued_small zero k es last = omega arith
issued_small (suc f) k es last = go (IsLive es (candidate last k)) (issued_small f (suc k) es last)
  where
    go : (b : Bool) → issued f (suc k) es last ≤ last_session_id → elim b [ true ↦ issued f (suc k) es last | false ↦ candidate last k ] ≤ last_session_id
    go true i = i
    go false i = omega arith

tally_le : (p : Entry → Bool) (es : List Entry) → tally p es ≤ length es
tally_le p [] = omega arith
tally_le p (x ∷ es) = go (p x) (tally_le p es)
  where
    go : (a : Bool) → tally p es ≤ length es → cond a (suc (tally p es)) (tally p es) ≤ suc (length es)
    go true l = omega arith
    go false l = omega arith

status_fits : (b : ℕ) (m : Bool) → b < 256 → status_byte b m < 256
status_fits b true l = omega arith
status_fits b false l = omega arith

held_code : (b : Bool) → cond b 0 1 < 256
held_code true = lit< tt
held_code false = lit< tt

exchange_at_lem : (xs : List Exchange) (i : ℕ) → all exchange_fits xs ≡ true → exchange_fits (get_or xs i fresh_exchange) ≡ true
exchange_at_lem [] i a = refl
exchange_at_lem (x ∷ xs) zero a = and_l (exchange_fits x) _ a
exchange_at_lem (x ∷ xs) (suc i) a = exchange_at_lem xs i (and_r (exchange_fits x) _ a)

asked_number_lem : (a : Asked) → asked_fits a ≡ true → number_asked a < 2 ^ 32
asked_number_lem none e = lit< tt
asked_number_lem (some n) e = ltb-true n (2 ^ 32) e

-- a call's plan: what it says first and then fits, the rest stays in range, its lock event brings a byte
record PlanFits (p : Acts.Plan) : Type 0 where
  first : AllFit p.first
  said : AllFit p.said
  rest : RestFits p.rest
  brings : Brings p.event

-- AsyncInterrupted and Interrupted
pair_fits : (e : Entry) (n : ℕ) → reachable e ≡ true → n < 2 ^ 32 → AllFit (Acts.interruptions e n)
pair_fits e n h l = (
  plain e.asynchronous 14 0 n (ltb-true _ _ (and_r (ltb e.synchronous 256) _ h)) (lit< tt) (lit< tt) l,
  (plain e.synchronous 13 0 n (ltb-true _ _ (and_l (ltb e.synchronous 256) _ h)) (lit< tt) (lit< tt) l, tt),
)

-- a request for service: the code is a byte
with_16 : (b : ℕ) → b < 256 → with_value b 16 < 256
unfolding with_value
with_16 b l = go (eqb (b / 16 % 2) 1) refl
  where
    go : (t : Bool) → eqb (b / 16 % 2) 1 ≡ t → cond t b (b + 16) < 256
    go true e = l
    go false e = let n : b / 16 % 2 ≡ 1 → ⊥ = λ q. true≢false (sym (eq-eqb _ _ q) ∙ e) in omega arith

with_64 : (b : ℕ) → b < 256 → with_value b 64 < 256
unfolding with_value
with_64 b l = go (eqb (b / 64 % 2) 1) refl
  where
    go : (t : Bool) → eqb (b / 64 % 2) 1 ≡ t → cond t b (b + 64) < 256
    go true e = l
    go false e = let n : b / 64 % 2 ≡ 1 → ⊥ = λ q. true≢false (sym (eq-eqb _ _ q) ∙ e) in omega arith

request_fits : (t : Bool) (e : Entry) (b : ℕ) → reachable e ≡ true → b < 256 → AllFit (requested t e b)
unfolding requested
request_fits true e b h l = (plain e.asynchronous 20 (request_code b) 0 (ltb-true _ _ (and_r (ltb e.synchronous 256) _ h)) (lit< tt) (with_64 (with_value b 16) (with_16 b l)) (lit< tt), tt)
request_fits false e b h l = tt

turn_fits : (w : Bool) (e : Entry) (n : ℕ) → reachable e ≡ true → n < 2 ^ 32 → AllFit (cond w (Acts.interruptions e n) [])
turn_fits true e n h l = pair_fits e n h l
turn_fits false e n h l = tt

sync_first : (k : Acts.SynchronousKind) (e : Entry) (x : Exchange) (h : Header) → reachable e ≡ true → h.param < 2 ^ 32 → AllFit (Acts.synchronous_first k e x h)
sync_first Acts.k_data e x h q l = turn_fits (Exchange.out_of_turn h.code x) e h.param q l
sync_first Acts.k_data_end e x h q l = turn_fits (Exchange.out_of_turn h.code x) e h.param q l
sync_first Acts.k_trigger e x h q l = turn_fits (Exchange.out_of_turn h.code x) e h.param q l
sync_first Acts.k_clear_complete e x h q l = tt

-- a command after its test
tested_fits : (w : Bool) (x : Exchange) → exchange_fits x ≡ true → exchange_fits (Exchange.with_expectation false (cond w (Exchange.interrupted x) x)) ≡ true
tested_fits true x e = both _ _ (and_l (ltb x.count (2 ^ 32)) _ e) refl
tested_fits false x e = e

preference_fits : (d : Server) → Acts.preference d < 256
preference_fits d = go d.rest.made.prefers_overlap
  where
    go : (b : Bool) → cond b 1 0 < 256
    go true = lit< tt
    go false = lit< tt

module _ (d : Server) (g : InRange d) (c : ℕ) (small : c < 256) where
  one : (k n p : ℕ) → k < 256 → n < 256 → p < 2 ^ 32 → AllFit (Acts.say c k n p)
  one k n p a b e = (plain c k n p small a b e, tt)

  with_exchange_lem : (i : ℕ) (x : Exchange) → exchange_fits x ≡ true → RestFits (with_exchange d.rest i x)
  with_exchange_lem i x e = record { asked = all_set exchange_fits d.rest.exchanges i x e g.rest.asked; vendor = g.rest.vendor; status = g.rest.status }

  own_exchange : (i : ℕ) → exchange_fits (exchange_at d.rest i) ≡ true
  own_exchange i = exchange_at_lem d.rest.exchanges i g.rest.asked

  opens_fit : (b : Bool) (h : Header) → PlanFits (Acts.opens b d c h)
  opens_fit true h =
      let n = issued_small session_limit 0 d.locks.entries d.rest.last_issued in
      record {
        first = tt;
        said = one 1 (Acts.preference d) (min (h.param / 65536) protocol_version * 65536 + issued session_limit 0 d.locks.entries d.rest.last_issued) (lit< tt) (preference_fits d) (omega arith);
        rest = record { asked = all_set exchange_fits d.rest.exchanges _ (open_exchange d.rest.made.prefers_overlap) refl g.rest.asked; vendor = g.rest.vendor; status = g.rest.status };
        brings = small;
      }
  opens_fit false h = record { first = tt; said = one 18 0 d.rest.made.vendor (lit< tt) (lit< tt) (let v = g.rest.vendor in omega arith); rest = g.rest; brings = small }

  sync_said : (k : Acts.SynchronousKind) (h : Header) → AllFit (Acts.synchronous_said k c h)
  unfolding Acts.synchronous_said
  sync_said Acts.k_data h = tt
  sync_said Acts.k_data_end h = tt
  sync_said Acts.k_trigger h = tt
  sync_said Acts.k_clear_complete h = one 9 (Exchange.bit0 h.code) 0 (lit< tt) (omega arith) (lit< tt)

  sync_exchange : (k : Acts.SynchronousKind) (h : Header) (x : Exchange) → h.param < 2 ^ 32 → exchange_fits x ≡ true → exchange_fits (Acts.synchronous_exchange k h x) ≡ true
  unfolding Acts.synchronous_exchange
  sync_exchange Acts.k_data h x l e = tested_fits (Exchange.out_of_turn h.code x) x e
  sync_exchange Acts.k_data_end h x l e = both _ _ (and_l (ltb (Exchange.tested h.code x).count (2 ^ 32)) _ (tested_fits (Exchange.out_of_turn h.code x) x e)) (lt-ltb h.param (2 ^ 32) l)
  sync_exchange Acts.k_trigger h x l e = both _ _ (and_l (ltb (Exchange.tested h.code x).count (2 ^ 32)) _ (tested_fits (Exchange.out_of_turn h.code x) x e)) (lt-ltb h.param (2 ^ 32) l)
  sync_exchange Acts.k_clear_complete h x l e = e

  async_said : (k : Acts.AsynchronousKind) (i : ℕ) (h : Header) → AllFit (Acts.asynchronous_said k d i c h)
  unfolding Acts.asynchronous_said
  async_said Acts.k_lock i h = tt
  async_said Acts.k_remote_local i h = one 11 0 0 (lit< tt) (lit< tt) (lit< tt)
  async_said Acts.k_maximum_size i h = (
    record {
      connection = small;
      fields = record {
        kind = lit< tt;
        code = lit< tt;
        param = lit< tt;
        length = rw (length_field 8 payload_limit) (lit< tt);
        payload = bytes_field 8 payload_limit;
      };
    },
    tt,
  )
  async_said Acts.k_device_clear i h = one 23 (Acts.preference d) 0 (lit< tt) (preference_fits d) (lit< tt)
  async_said Acts.k_status_query i h = one 22 _ 0 (lit< tt) (status_fits d.rest.status (available_at h (exchange_at d.rest i)) g.rest.status) (lit< tt)
  async_said Acts.k_lock_info i h =
      let n = tally_le Acts.holder d.locks.entries in
      let s = g.inv.sound.firm.slots in
      one 25 _ (tally Acts.holder d.locks.entries) (lit< tt) (held_code (all Locks.no_exclusive d.locks.entries)) (omega arith)

  async_rest : (k : Acts.AsynchronousKind) (i : ℕ) (h : Header) (p : List ℕ) → RestFits (Acts.asynchronous_rest k d.rest i h p)
  unfolding Acts.asynchronous_rest
  async_rest Acts.k_lock i h p = g.rest
  async_rest Acts.k_remote_local i h p = record { asked = g.rest.asked; vendor = g.rest.vendor; status = g.rest.status }
  async_rest Acts.k_maximum_size i h p = with_exchange_lem i _ (own_exchange i)
  async_rest Acts.k_device_clear i h p = with_exchange_lem i _ refl
  async_rest Acts.k_status_query i h p = with_exchange_lem i _ (own_exchange i)
  async_rest Acts.k_lock_info i h p = g.rest

  lock_brings : (b : Bool) (i : ℕ) (h : Header) (p : List ℕ) → Brings (Acts.lock_event b i h p)
  lock_brings true i h p = tt
  lock_brings false i h p = tt

  async_brings : (k : Acts.AsynchronousKind) (i : ℕ) (h : Header) (p : List ℕ) → Brings (Acts.asynchronous_event k i h p)
  unfolding Acts.asynchronous_event
  async_brings Acts.k_lock i h p = lock_brings (eqb h.code 0) i h p
  async_brings Acts.k_remote_local i h p = tt
  async_brings Acts.k_maximum_size i h p = tt
  async_brings Acts.k_device_clear i h p = tt
  async_brings Acts.k_status_query i h p = tt
  async_brings Acts.k_lock_info i h p = tt

  sync_brings : (k : Acts.SynchronousKind) (i : ℕ) (h : Header) → Brings (Acts.synchronous_event k i h)
  sync_brings Acts.k_data i h = tt
  sync_brings Acts.k_data_end i h = tt
  sync_brings Acts.k_trigger i h = tt
  sync_brings Acts.k_clear_complete i h = tt

  acts_fit : (r : Role) (i : ℕ) (h : Header) (p : List ℕ) → h.param < 2 ^ 32 → PlanFits (Acts.acts r d i c h p)
  unfolding Acts.acts
  acts_fit r_none i h p l = opens_fit (eqb h.kind 0) h
  acts_fit r_half_open i h p l = record { first = tt; said = tt; rest = g.rest; brings = tt }
  acts_fit r_synchronous i h p l =
      let k = Acts.synchronous_kind h.kind in
      record {
        first = sync_first k (at d.locks.entries i) (exchange_at d.rest i) h (all_at reachable d.locks.entries i refl g.entries) l;
        said = sync_said k h;
        rest = with_exchange_lem i _ (sync_exchange k h (exchange_at d.rest i) l (own_exchange i));
        brings = sync_brings k i h;
      }
  acts_fit r_asynchronous i h p l =
      let k = Acts.asynchronous_kind h.kind in
      record { first = tt; said = async_said k i h; rest = async_rest k i h p; brings = async_brings k i h p }

  -- a FatalError goes to the connections of the session
  fatal_fits : (n : ℕ) (a b : Bool) (e : Entry) → n < 256 → reachable e ≡ true
      → AllFit (map (λ x. frame_of x FatalError n 0 []) (cond a (e.synchronous ∷ cond b [] (e.asynchronous ∷ [])) (c ∷ [])))
  fatal_fits n true true e l h = (plain e.synchronous 2 n 0 (ltb-true _ _ (and_l (ltb e.synchronous 256) _ h)) (lit< tt) l (lit< tt), tt)
  fatal_fits n true false e l h = (
    plain e.synchronous 2 n 0 (ltb-true _ _ (and_l (ltb e.synchronous 256) _ h)) (lit< tt) l (lit< tt),
    (plain e.asynchronous 2 n 0 (ltb-true _ _ (and_r (ltb e.synchronous 256) _ h)) (lit< tt) l (lit< tt), tt),
  )
  fatal_fits n false b e l h = one 2 n 0 (lit< tt) l (lit< tt)

  closing_fits : RestFits (closing d c)
  closing_fits = record { asked = all_set exchange_fits d.rest.exchanges _ fresh_exchange refl g.rest.asked; vendor = g.rest.vendor; status = g.rest.status }

  error_code : (n : ℕ) → coded (v_error n) ≡ true → n < 256
  error_code n e = go (ltb n 5) refl e
    where
      go : (b : Bool) → ltb n 5 ≡ b → (b || eqb n 128) ≡ true → n < 256
      go true q e = omega (arith, ltb-true n 5 q)
      go false q e = omega (arith, eqb-true n 128 e)

  effect_fits : (v : Verdict) (s : Scan) (r : Role) (i : ℕ) → coded v ≡ true → Parameter s → PlanFits (effect v s r d i c)
  unfolding effect
  effect_fits v_more s r i e q = record { first = tt; said = tt; rest = g.rest; brings = tt }
  effect_fits v_held s r i e q = record { first = tt; said = tt; rest = g.rest; brings = tt }
  effect_fits v_skipped s r i e q = record { first = tt; said = tt; rest = record { asked = g.rest.asked; vendor = g.rest.vendor; status = g.rest.status }; brings = tt }
  effect_fits v_ignored s r i e q = record { first = tt; said = tt; rest = g.rest; brings = tt }
  effect_fits (v_error n) s r i e q =
      record {
        first = tt;
        said = one 3 n 0 (lit< tt) (error_code n e) (lit< tt);
        rest = record {
          asked = all_set exchange_fits d.rest.exchanges i _ (own_exchange i) g.rest.asked;
          vendor = g.rest.vendor;
          status = g.rest.status;
        };
        brings = tt;
      }
  effect_fits (v_fatal n) s r i e q =
      let x = entry_of d c in
      record {
        first = tt;
        said = fatal_fits n (live x) (eqb x.asynchronous no_connection) x (let l = ltb-true n 5 e in omega arith)
            (all_at reachable d.locks.entries (slot_of d c) refl g.entries);
        rest = closing_fits;
        brings = tt;
      }
  effect_fits v_closed s r i e q = record { first = tt; said = tt; rest = closing_fits; brings = tt }
  effect_fits v_acts empty r i e q = record { first = tt; said = tt; rest = g.rest; brings = tt }
  effect_fits v_acts few r i e q = record { first = tt; said = tt; rest = g.rest; brings = tt }
  effect_fits v_acts wrong r i e q = record { first = tt; said = tt; rest = g.rest; brings = tt }
  effect_fits v_acts (skipping k) r i e q = record { first = tt; said = tt; rest = g.rest; brings = tt }
  effect_fits v_acts (long h) r i e q = record { first = tt; said = tt; rest = g.rest; brings = tt }
  effect_fits v_acts (part h) r i e q = record { first = tt; said = tt; rest = g.rest; brings = tt }
  effect_fits v_acts (whole h p) r i e q = acts_fit r i h p q

below_32 : (c : ℕ) → leb connection_limit c ≡ false → c < 256
below_32 c e = omega (arith, leb-false connection_limit c e)

answer_kind : (b : Bool) → answer_type b < 256
answer_kind true = lit< tt
answer_kind false = lit< tt

answered_asked : (b : Bool) (x : Exchange) → exchange_fits x ≡ true → exchange_fits (answered_with b x) ≡ true
answered_asked true x e = both _ _ (lt-ltb (next x.count) (2 ^ 32) (next_fits x.count)) refl
answered_asked false x e = both _ _ (lt-ltb (next x.count) (2 ^ 32) (next_fits x.count)) (and_r (ltb x.count (2 ^ 32)) _ e)

answer_number_lem : (x : Exchange) → exchange_fits x ≡ true → answer_number x < 2 ^ 32
unfolding answer_number
answer_number_lem x e = go x.overlap
  where
    go : (b : Bool) → answer_number_in b x < 2 ^ 32
    go true = ltb-true _ _ (and_l (ltb x.count (2 ^ 32)) _ e)
    go false = asked_number_lem x.asked (and_r (ltb x.count (2 ^ 32)) _ e)

neither : (a b : Bool) → (a || b) ≡ false → a ≡ false
neither true b e = e
neither false b e = refl

-- bytes that interrupt begin with a whole header, whose parameter is a 32-bit number
whole_header : (end o r : Bool) (bs : List ℕ) (y : Bool) → (end && (not o && (r && (leb 16 (length bs) && y)))) ≡ true → 16 ≤ length bs
whole_header end o r bs y e =
    leb-true 16 (length bs) (and_l (leb 16 (length bs)) y (and_r r _ (and_r (not o) _ (and_r end _ e))))

shown_parameter : (bs : List ℕ) → Bytes bs → 16 ≤ length bs → (header bs).param < 2 ^ 32
unfolding header
shown_parameter bs b l =
    let x : List ℕ = take 4 (drop 4 bs) in
    let e : length x ≡ 4 = simp (length-take, length-drop) (omega arith) in
    rw e at (number_bound x (take_bytes 4 (drop 4 bs) (drop_bytes 4 bs b)))

plan_fits : (d : Server) (e : Event) → InRange d → Possible e → refusal d e ≡ 0 → PlanFits (plan d e)
unfolding plan received refusal causes answer_number
plan_fits d (opening c) g q z = record { first = tt; said = tt; rest = record { asked = g.rest.asked; vendor = g.rest.vendor; status = g.rest.status }; brings = tt }
plan_fits d (delivery c bs room) g q z =
    let r = role_of d.locks.entries c in
    let i = slot_of d c in
    let k = (connection_at d.rest c).remainder in
    effect_fits d g c (below_32 c (uncaused (causes d (delivery c bs room)) refl z).1.0) (verdict r d i (scan k bs)) (scan k bs) r i
    (verdict_coded r d i (scan k bs)) (parameter k bs q (scan k bs) refl)
plan_fits d (cut c room) g q z = record { first = tt; said = tt; rest = closing_fits d g c (below_32 c (uncaused (causes d (cut c room)) refl z).1.0); brings = tt }
plan_fits d (clock t room) g q z = record { first = tt; said = tt; rest = g.rest; brings = tt }
plan_fits d (answer n p end sh room) g q z = record { first = tt; said = says (withholds d n end sh) refl; rest = leaves (withholds d n end sh); brings = tt }
  where
    es : List Entry
    es = d.locks.entries

    i : ℕ
    i = slot_of_number es n

    x : Exchange
    x = exchange_at d.rest i

    f : exchange_fits x ≡ true
    f = exchange_at_lem d.rest.exchanges i g.rest.asked

    here : reachable (at es i) ≡ true
    here = all_at reachable es i refl g.entries

    says : (w : Bool) → withholds d n end sh ≡ w → AllFit (cond w (Acts.interruptions (at es i) (header sh).param)
        (frame_of (at es i).synchronous (answer_type end) 0 (answer_number x) p ∷ service_after d n p))
    says true e = pair_fits (at es i) (header sh).param here
        (shown_parameter sh q.1 (whole_header end (exchange_at d.rest i).overlap
        (eqb (connection_at d.rest (at es i).synchronous).remainder 0) sh _ e))
    says false e =
        let l = ltb-false payload_limit (length p) (neither _ _ (uncaused (causes d (answer n p end sh room)) refl z).1.1.1.0) in (
          record {
            connection = ltb-true _ _ (and_l (ltb (at es i).synchronous 256) _ here);
            fields = record { kind = answer_kind end; code = lit< tt; param = answer_number_lem x f; length = omega arith; payload = q.0 };
          },
          request_fits (trips_first p (sensing_at d.rest i)) (at es i) d.rest.status here g.rest.status,
        )

    leaves : (w : Bool) → RestFits (with_sensings (with_exchange d.rest i (cond w (Exchange.interrupted x) (answered_with end x)))
        (cond w d.rest.sensings (set d.rest.sensings i (sensed p (sensing_at d.rest i)))))
    leaves true = record {
      asked = all_set exchange_fits d.rest.exchanges i _ (both _ _ (and_l (ltb x.count (2 ^ 32)) _ f) refl) g.rest.asked;
      vendor = g.rest.vendor;
      status = g.rest.status;
    }
    leaves false = record { asked = all_set exchange_fits d.rest.exchanges i _ (answered_asked end x f) g.rest.asked; vendor = g.rest.vendor; status = g.rest.status }
plan_fits d (status b) g q z = record { first = tt; said = tt; rest = record { asked = g.rest.asked; vendor = g.rest.vendor; status = q }; brings = tt }
plan_fits d (setting s) g q z = record { first = tt; said = tt; rest = record { asked = g.rest.asked; vendor = g.rest.vendor; status = g.rest.status }; brings = tt }

-- one call
record StepFits (d : Server) (e : Event) : Type 0 where
  frames : AllFit (step d e).frames
  range : InRange (step d e).server

step_fits : (d : Server) (e : Event) → InRange d → Possible e → StepFits d e
unfolding step answered finish
step_fits d e g q = let r = go (refusal d e) refl (inv_call d e g.inv) in record { frames = r.0; range = r.1 }
  where
    go : (n : ℕ) → refusal d e ≡ n → Inv (answered n d e).server.locks → (AllFit (answered n d e).frames) × (InRange (answered n d e).server)
    go (suc n) z v = (tt, g)
    go zero z v =
        let f = plan_fits d e g q z in
        let ev = (plan d e).event in
        let x = change_kept d.locks ev f.brings g.entries in
        let y = settle_kept (frees d.locks ev) (change d.locks ev).locks x.entries in
        let xs = (change d.locks ev).answers in
        let ys = (settle (frees d.locks ev) (change d.locks ev).locks).answers in (
          fit_append (plan d e).first (map lock_frame xs ++ ((plan d e).said ++ map lock_frame ys)) f.first
              (fit_append (map lock_frame xs) ((plan d e).said ++ map lock_frame ys) (lock_fit xs x.answers) (fit_append (plan d e).said (map lock_frame ys) f.said (lock_fit ys y.answers))),
          record { inv = v; entries = y.entries; rest = f.rest },
        )

-- every list
lines_fit : (es : List Event) (d : Server) → InRange d → AllPossible es → LinesFit (log d es)
unfolding log
lines_fit [] d g q = tt
lines_fit (e ∷ es) d g q = let s = step_fits d e g q.0 in (s.frames, lines_fit es (step d e).server s.range q.1)

fresh_range : (v : Making) → v.vendor < 2 ^ 16 → InRange (fresh v)
fresh_range v l = record { inv = inv_fresh; entries = refl; rest = record { asked = refl; vendor = l; status = lit< tt } }

pub sent_fits : SentFits
sent_fits = record { any_run = λ v es l q. lines_fit es (fresh v) (fresh_range v l) q }
