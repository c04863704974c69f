-- What an Initialize and an AsyncInitialize that act send and leave.
use mathlib.Core.Path.{◌≡◌, refl, sym, ap, subst, ◌∙◌}
use mathlib.Core.Bool.{Bool, true, false, cond, true≢false}
use mathlib.Core.List.{List, [], ◌∷◌}
use Prim.Native.Nat.{ℕ, ◌+◌, ◌*◌, ◌/◌, min}
use native.Mathlib.Omega.{arith}
use lib.Dec.{eqb}
use lib.ListN.{length}
use lib.Seq.{get_or-set_same, get_or-set_other}
use borrow.Author.Tests.{eq-eqb}
use Rattle.wire.specs.declared.Header.{Header}
use Rattle.wire.specs.Message.{header, payload_of}
use Rattle.wire.specs.Frame.{frame_of}
use Rattle.wire.specs.Class.{class_of, synchronous, asynchronous}
use Rattle.model.specs.Sizes.{session_limit, protocol_version, no_connection}
use Rattle.model.specs.MessageTypes.{Initialize, InitializeResponse, AsyncInitialize, AsyncInitializeResponse}
use Rattle.model.specs.State.{blank, live, slot_of_number, Server, fresh_exchange, open_exchange, fresh, Making}
use Rattle.model.specs.Interface.{Event, Event.delivery, Outcome.acted, Reply.took}
use Rattle.model.specs.Place.{slot_of, Role, Role.r_none, Role.r_half_open, Role.r_synchronous, Role.r_asynchronous, role_of}
use Rattle.model.specs.Locks.{issued, change}
use Rattle.model.specs.Checks.{Verdict.v_acts}
use Rattle.model.specs.Checks.{is_unrecognised, judged}
use Rattle.model.specs.Acts
use Rattle.model.specs.Step.{Result, finish, step, final}
use Rattle.model.specs.Opening.{Opened, Joined, Opening}
use Rattle.model.proofs.Basics.{both, inside}
use Rattle.claims.proofs.Invariant.{Inv}
use Rattle.claims.proofs.Events.{Enters, Pairs}
use Rattle.claims.proofs.Fits.{opening_passed, sync_passed, async_passed, opens_fit, real_delivery, inv_run}
use Rattle.claims.proofs.Numbers.{live_found}
use Rattle.claims.proofs.Replies.{accepted}
use Rattle.claims.proofs.Permitted.{shows}
use Rattle.claims.proofs.Locality.{exchange_slots, same_made}

-- Initialize and AsyncInitialize act on a connection without a role alone
initialize_role : (d : Server) (c : ℕ) (h : Header) (p : List ℕ) (r : Role) → h.kind ≡ Initialize → judged r d (slot_of d c) h p ≡ v_acts → r ≡ r_none
unfolding class_of
initialize_role d c h p r_none t q = refl
initialize_role d c h p r_half_open t q = absurd (let y : ◌≡◌ {A = ℕ} 0 1 = cc in omega arith)
initialize_role d c h p r_synchronous t q = absurd (true≢false (ap (λ n. eqb n 0) (sym t) ∙ (sync_passed d (slot_of d c) h p q).1.1.1.1.1.0))
initialize_role d c h p r_asynchronous t q = absurd (true≢false (ap (λ n. is_unrecognised (class_of asynchronous n)) (sym t) ∙ (async_passed h p q).1.1.1.0))

join_role : (d : Server) (c : ℕ) (h : Header) (p : List ℕ) (r : Role) → h.kind ≡ AsyncInitialize → judged r d (slot_of d c) h p ≡ v_acts → r ≡ r_none
unfolding class_of
join_role d c h p r_none t q = refl
join_role d c h p r_half_open t q = absurd (let y : ◌≡◌ {A = ℕ} 0 1 = cc in omega arith)
join_role d c h p r_synchronous t q = absurd (true≢false (ap (λ n. is_unrecognised (class_of synchronous n)) (sym t) ∙ (sync_passed d (slot_of d c) h p q).1.1.1.1.0))
join_role d c h p r_asynchronous t q = absurd (true≢false (ap (λ n. eqb n 17) (sym t) ∙ (async_passed h p q).1.1.1.1.0))

module _ (d : Server) (inv : Inv d.locks) (v : Making) (made : d.rest.made ≡ v) (room_for : length d.rest.exchanges ≡ length d.locks.entries) (c : ℕ) (bs : List ℕ) (room : ℕ) where
  abbrev R : Result
  R = step d (delivery c bs room)

  -- what the call comes to
  does : (b : Bool) (k n : ℕ) → R.reply ≡ took acted k n → eqb (header bs).kind 0 ≡ b → role_of d.locks.entries c ≡ r_none → R ≡ finish d (Acts.opens b d c (header bs))
  unfolding Acts.acts
  does b k n e t r =
      (shows d c bs room k n e).does
      ∙ ap (λ x. finish d (Acts.acts x d (slot_of d c) c (header bs) (payload_of (header bs) bs))) r
      ∙ ap (λ x. finish d (Acts.opens x d c (header bs))) t

  real : (k n : ℕ) → R.reply ≡ took acted k n → c ≡ no_connection → ⊥
  real k n e = real_delivery d c bs room (accepted d (delivery c bs room) acted k n e)

  -- Initialize
  abbrev OpensTo : ℕ → Result → Type 0
  OpensTo n x = (x.frames ≡ frame_of c InitializeResponse (cond v.prefers_overlap 1 0) (min ((header bs).param / 65536) protocol_version * 65536 + n) [] ∷ []) × Opened d x.server v c n

  opens_to : Enters d.locks.entries (slot_of_number d.locks.entries 0) (issued session_limit 0 d.locks.entries d.rest.last_issued) c
      → OpensTo (issued session_limit 0 d.locks.entries d.rest.last_issued) (finish d (Acts.opens true d c (header bs)))
  unfolding finish change
  opens_to f =
      let i = slot_of_number d.locks.entries 0 in (
        ap (λ (x : Making). frame_of c InitializeResponse (cond x.prefers_overlap 1 0)
            (min ((header bs).param / 65536) protocol_version * 65536 + issued session_limit 0 d.locks.entries d.rest.last_issued) [] ∷ []) made,
        record {
          slot = i;
          was_free = f.vacant;
          session = get_or-set_same d.locks.entries i _ blank f.within;
          exchange = get_or-set_same d.rest.exchanges i (open_exchange d.rest.made.prefers_overlap) fresh_exchange (omega (arith, f.within, room_for))
              ∙ ap (λ (x : Making). open_exchange x.prefers_overlap) made;
          no_more = record {
            others_same = λ j o. get_or-set_other d.locks.entries i j _ blank o;
            exchanges_same = λ j o. get_or-set_other d.rest.exchanges i j _ fresh_exchange o;
            waiting_same = refl;
            clock_same = refl;
          };
        },
      )

  -- a free slot, a number and a connection that no session has
  pub entering : (k n : ℕ) → R.reply ≡ took acted k n → (header bs).kind ≡ Initialize → Enters d.locks.entries (slot_of_number d.locks.entries 0) n c
  unfolding finish
  entering k n e t =
      let s = shows d c bs room k n e in
      let r = initialize_role d c (header bs) (payload_of (header bs) bs) (role_of d.locks.entries c) t s.passes in
      let b : eqb (header bs).kind 0 ≡ true = eq-eqb _ _ t in
      let passes = opening_passed d (header bs) (payload_of (header bs) bs) (ap (λ x. judged x d (slot_of d c) (header bs) (payload_of (header bs) bs)) (sym r) ∙ s.passes) in
      let replied : took acted (16 + (header bs).len) (issued session_limit 0 d.locks.entries d.rest.last_issued) ≡ took acted k n =
      ap (λ (x : Result). x.reply) (sym (does true k n e b r)) ∙ e in
      let n-is : issued session_limit 0 d.locks.entries d.rest.last_issued ≡ n = cc in
      subst (λ m. Enters d.locks.entries (slot_of_number d.locks.entries 0) m c) n-is (opens_fit d c (header bs) (payload_of (header bs) bs) true b (real k n e) inv r passes)

  opens : (k n : ℕ) → R.reply ≡ took acted k n → (header bs).kind ≡ Initialize → OpensTo n R
  unfolding finish
  opens k n e t =
      let s = shows d c bs room k n e in
      let r = initialize_role d c (header bs) (payload_of (header bs) bs) (role_of d.locks.entries c) t s.passes in
      let b : eqb (header bs).kind 0 ≡ true = eq-eqb _ _ t in
      let one = does true k n e b r in
      let passes = opening_passed d (header bs) (payload_of (header bs) bs) (ap (λ x. judged x d (slot_of d c) (header bs) (payload_of (header bs) bs)) (sym r) ∙ s.passes) in
      let replied : took acted (16 + (header bs).len) (issued session_limit 0 d.locks.entries d.rest.last_issued) ≡ took acted k n = ap (λ (x : Result). x.reply) (sym one) ∙ e in
      let n-is : issued session_limit 0 d.locks.entries d.rest.last_issued ≡ n = cc in
      subst (λ m. OpensTo m R) n-is (subst (OpensTo (issued session_limit 0 d.locks.entries d.rest.last_issued)) (sym one)
      (opens_to (opens_fit d c (header bs) (payload_of (header bs) bs) true b (real k n e) inv r passes)))

  -- AsyncInitialize
  abbrev JoinsTo : ℕ → Result → Type 0
  JoinsTo n x = (x.frames ≡ frame_of c AsyncInitializeResponse 0 v.vendor [] ∷ []) × Joined d x.server c n

  joins_to : Pairs d.locks.entries (slot_of_number d.locks.entries (header bs).param) c → JoinsTo (header bs).param (finish d (Acts.opens false d c (header bs)))
  unfolding finish change
  joins_to f =
      let i = slot_of_number d.locks.entries (header bs).param in (
        ap (λ (x : Making). frame_of c AsyncInitializeResponse 0 x.vendor [] ∷ []) made,
        record {
          slot = i;
          its_number = live_found d.locks.entries (header bs).param f.alive;
          was_half_open = both _ _ f.alive (eq-eqb _ _ f.half);
          session = get_or-set_same d.locks.entries i _ blank (inside live d.locks.entries i refl f.alive);
          exchange = refl;
          no_more = record {
            others_same = λ j o. get_or-set_other d.locks.entries i j _ blank o;
            exchanges_same = λ j o. refl;
            waiting_same = refl;
            clock_same = refl;
          };
        },
      )

  -- a half-open session, and a connection that no session has
  pub pairing : (k n : ℕ) → R.reply ≡ took acted k n → (header bs).kind ≡ AsyncInitialize → Pairs d.locks.entries (slot_of_number d.locks.entries (header bs).param) c
  pairing k n e t =
      let s = shows d c bs room k n e in
      let r = join_role d c (header bs) (payload_of (header bs) bs) (role_of d.locks.entries c) t s.passes in
      let b : eqb (header bs).kind 0 ≡ false = rw t in
      opens_fit d c (header bs) (payload_of (header bs) bs) false b (real k n e) inv r
      (opening_passed d (header bs) (payload_of (header bs) bs)
      (ap (λ x. judged x d (slot_of d c) (header bs) (payload_of (header bs) bs)) (sym r) ∙ s.passes))

  joins : (k n : ℕ) → R.reply ≡ took acted k n → (header bs).kind ≡ AsyncInitialize → JoinsTo n R
  unfolding finish
  joins k n e t =
      let s = shows d c bs room k n e in
      let r = join_role d c (header bs) (payload_of (header bs) bs) (role_of d.locks.entries c) t s.passes in
      let b : eqb (header bs).kind 0 ≡ false = rw t in
      let one = does false k n e b r in
      let passes = opening_passed d (header bs) (payload_of (header bs) bs) (ap (λ x. judged x d (slot_of d c) (header bs) (payload_of (header bs) bs)) (sym r) ∙ s.passes) in
      let replied : took acted (16 + (header bs).len) (header bs).param ≡ took acted k n = ap (λ (x : Result). x.reply) (sym one) ∙ e in
      let n-is : (header bs).param ≡ n = cc in
      subst (λ m. JoinsTo m R) n-is (subst (JoinsTo (header bs).param) (sym one) (joins_to (opens_fit d c (header bs) (payload_of (header bs) bs) false b (real k n e) inv r passes)))

pub sessions_open : (v : Making) (es : List Event) → Opening v es
sessions_open v es =
    record {
      opens_next = λ c bs room.
          let d = final (fresh v) es in
          record {
            opens = opens d (inv_run v es) v (same_made es (fresh v)) (exchange_slots es (fresh v) ∙ sym (inv_run v es).sound.firm.slots) c bs room;
            joins = joins d (inv_run v es) v (same_made es (fresh v)) (exchange_slots es (fresh v) ∙ sym (inv_run v es).sound.firm.slots) c bs room;
          };
    }
