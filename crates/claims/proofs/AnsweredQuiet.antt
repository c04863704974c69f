-- A call on a server where no request waits of the session with a connection answers none, until one comes: what is known of a call beside the table
-- of locality, who may come to have the connection, and that every request that waits is of a session with both connections.
use mathlib.Core.Path.{◌≡◌, refl, sym, ap, ap₂, subst, ◌∙◌}
use mathlib.Core.Bool.{Bool, true, false, not, ◌&&◌, cond, false≢true, true≢false}
use mathlib.Core.List.{List, [], ◌∷◌, ◌++◌, map}
use Prim.Native.Nat.{ℕ, zero, suc, ◌+◌, ◌≤◌, ◌<◌}
use native.Mathlib.Omega.{arith}
use lib.Dec.{eqb, ltb}
use lib.ListN.{length}
use borrow.Author.Tests.{eqb-true, ne_eqb, ltb-true, ltb-false}
use Rattle.wire.specs.Message.{header, message_of}
use Rattle.wire.specs.Class.{one_of, class_of, synchronous, asynchronous}
use Rattle.wire.specs.Frame.{Frame}
use Rattle.model.specs.Sizes.{no_connection}
use Rattle.model.specs.Lists.{all, keep}
use Rattle.model.specs.State.{Server, Entry, Waiting, Making, at, live, blank, slot_of_number, fresh}
use Rattle.model.specs.Interface.{Event, Event.opening, Event.delivery, Event.cut, Event.clock, Event.answer, Event.status, Event.setting, Outcome}
use Rattle.model.specs.Interface.{Outcome.more_needed, Outcome.skipped, Outcome.held, Outcome.ignored, Outcome.error_sent, Outcome.closed, Outcome.acted}
use Rattle.model.specs.Interface.{Reply, Reply.refused, Reply.done, Reply.withheld, Reply.took}
use Rattle.model.specs.Place.{slot_in, slot_of, Role.r_synchronous, Role.r_asynchronous, role_by, role_of}
use Rattle.model.specs.Refusals.{refusal}
use Rattle.model.specs.Step.{Result, answered, step, final}
use Rattle.model.specs.Happening.{Heard, Heard.silence, Action, Happening, Happening.unmoved, Happening.connected, Happening.disconnected}
use Rattle.model.specs.Happening.{Happening.skipped_over, Happening.errored, Happening.message_acted, Happening.clock_read, Happening.status_set}
use Rattle.model.specs.Happening.{Happening.setting_made, Happening.answer_sent, Happening.answer_withheld, heard, happened}
use Rattle.model.specs.LocalityRows.{kind_of, slot_acted, in_slot, asynchronous_row, is_silence, waits, requests_of, reached_by, requests_left, looks_after}
use Rattle.model.specs.LocalityReplies.{waiting_answer}
use Rattle.model.specs.Locality.{at_call, Local}
use Rattle.model.specs.AnsweredOnce.{codes_to, nothing_sent, begins_to_wait, takes_connection}
use Rattle.model.proofs.Basics.{and_l, and_r, both, not_of, inside, all_keep, all_snoc}
use Rattle.claims.proofs.Invariant.{Inv, Good}
use Rattle.claims.proofs.Events.{Pairs}
use Rattle.claims.proofs.Fits.{real_delivery, real_cut, inv_call, inv_run}
use Rattle.claims.proofs.Replies.{accepted}
use Rattle.model.proofs.Place.{place_role, sync_live, async_live}
use Rattle.claims.proofs.Opening.{entering, pairing}
use Rattle.claims.proofs.Deciding.{async_own}
use Rattle.claims.proofs.ReadOff.{each_of}
use Rattle.claims.proofs.Sending.{OnlyOn, role_of_async, role_of_sync}
use Rattle.claims.proofs.Locality.{local_call, exchange_slots}
use Rattle.claims.proofs.WaitingOne.{all_imp, all_and, look_all, away, codes_none, codes_append}
use Rattle.model.specs.GrantsSeen.{to_waiting}
use Rattle.claims.proofs.AnsweredFrames.{taken, unanswered, Told, frames_told}

-- what is known of a call, beside the table
pub record ActedFacts (d : Server) (a : Action) (fs : List Frame) : Type 0 where
  pub told : a.told ≡ heard 5 fs
  pub vacant : kind_of a ≡ 0 → live (at d.locks.entries (slot_acted d.locks.entries a)) ≡ false
  pub pairs : kind_of a ≡ 17 → Pairs d.locks.entries (slot_acted d.locks.entries a) a.connection
  pub second : one_of (4 ∷ 19 ∷ []) (kind_of a) ≡ true → (at d.locks.entries (slot_acted d.locks.entries a)).asynchronous ≡ a.connection
  pub second_live : one_of (4 ∷ 19 ∷ []) (kind_of a) ≡ true → live (at d.locks.entries (slot_acted d.locks.entries a)) ≡ true
  pub first : one_of (6 ∷ 7 ∷ 12 ∷ []) (kind_of a) ≡ true → (at d.locks.entries (slot_acted d.locks.entries a)).synchronous ≡ a.connection
  pub first_live : one_of (6 ∷ 7 ∷ 12 ∷ []) (kind_of a) ≡ true → live (at d.locks.entries (slot_acted d.locks.entries a)) ≡ true
  pub real : a.connection ≡ no_connection → ⊥

abbrev pub Facts : Server → Happening → List Frame → Type 0
Facts d unmoved fs = Unit {0}
Facts d (connected c) fs = Unit {0}
Facts d (disconnected c k) fs = c ≡ no_connection → ⊥
Facts d (skipped_over c k) fs = Unit {0}
Facts d (errored c h k) fs = Unit {0}
Facts d (message_acted a) fs = ActedFacts d a fs
Facts d (clock_read t) fs = Unit {0}
Facts d (status_set b) fs = Unit {0}
Facts d (setting_made s) fs = Unit {0}
Facts d (answer_sent n p end) fs = Unit {0}
Facts d (answer_withheld n m) fs = Unit {0}

sync_own : (es : List Entry) (c : ℕ) → role_of es c ≡ r_synchronous → (at es (slot_in es c)).synchronous ≡ c
sync_own es c e =
    let x = at es (slot_in es c) in
    eqb-true _ _ (go (live x) (eqb x.asynchronous no_connection) (eqb x.synchronous c) (sym (place_role es c) ∙ e))
  where
    go : (a b c : Bool) → role_by a b c ≡ r_synchronous → c ≡ true
    go true true c e = cc
    go true false true e = refl
    go true false false e = cc
    go false b c e = cc

done_accepted : (d : Server) (e : Event) → (step d e).reply ≡ done → refusal d e ≡ 0
unfolding step answered
done_accepted d e q = go (refusal d e) q
  where
    go : (z : ℕ) → (answered z d e).reply ≡ done → z ≡ 0
    go zero q = refl
    go (suc z) q = absurd (let y : ◌≡◌ {A = ℕ} 0 1 = cc in omega arith)

module _ (d : Server) (i : Inv d.locks) (z : length d.rest.exchanges ≡ length d.locks.entries) (c : ℕ) (bs : List ℕ) (room k n : ℕ)
    (e : (step d (delivery c bs room)).reply ≡ took acted k n) where
  abbrev t₁ : ℕ
  t₁ = (header bs).kind

  -- its slot, by its type
  abbrev slot_by : ℕ → ℕ
  slot_by t = cond (eqb t 0) (slot_of_number d.locks.entries 0) (cond (eqb t 17) (slot_of_number d.locks.entries (header bs).param) (slot_of d c))

  abbrev Second : ℕ → Type 0
  Second t = t₁ ≡ t → (live (at d.locks.entries (slot_by t)) ≡ true) × ((at d.locks.entries (slot_by t)).asynchronous ≡ c)

  async_second : (t : ℕ) → one_of (4 ∷ 19 ∷ []) t ≡ true → Second t
  unfolding class_of
  async_second t o = each_of Second (4 ∷ 19 ∷ []) ((λ q. both_of (there 4 q (refl, refl))), ((λ q. both_of (there 19 q (refl, refl))), tt)) t o
    where
      there : (t : ℕ) → t₁ ≡ t → OnlyOn synchronous t → role_of d.locks.entries c ≡ r_asynchronous
      there t q o = role_of_async d c bs room t k n e q o

      both_of : role_of d.locks.entries c ≡ r_asynchronous → (live (at d.locks.entries (slot_of d c)) ≡ true) × ((at d.locks.entries (slot_of d c)).asynchronous ≡ c)
      both_of r = (async_live d.locks.entries c r, async_own d.locks.entries c r)

  abbrev First : ℕ → Type 0
  First t = t₁ ≡ t → (live (at d.locks.entries (slot_by t)) ≡ true) × ((at d.locks.entries (slot_by t)).synchronous ≡ c)

  sync_first : (t : ℕ) → one_of (6 ∷ 7 ∷ 12 ∷ []) t ≡ true → First t
  unfolding class_of
  sync_first t o = each_of First (6 ∷ 7 ∷ 12 ∷ []) ((λ q. both_of (there 6 q (refl, refl))), ((λ q. both_of (there 7 q (refl, refl))), ((λ q. both_of (there 12 q (refl, refl))), tt))) t o
    where
      there : (t : ℕ) → t₁ ≡ t → OnlyOn asynchronous t → role_of d.locks.entries c ≡ r_synchronous
      there t q o = role_of_sync d c bs room t k n e q o

      both_of : role_of d.locks.entries c ≡ r_synchronous → (live (at d.locks.entries (slot_of d c)) ≡ true) × ((at d.locks.entries (slot_of d c)).synchronous ≡ c)
      both_of r = (sync_live d.locks.entries c r, sync_own d.locks.entries c r)

  pub acted_facts : ActedFacts d (record {
    connection = c;
    message = message_of (header bs) bs;
    session = n;
    told = heard 5 (step d (delivery c bs room)).frames;
  }) (step d (delivery c bs room)).frames
  acted_facts =
      record {
        told = refl;
        vacant = λ q. subst (λ (t : ℕ). live (at d.locks.entries
            (cond (eqb t 0) (slot_of_number d.locks.entries 0) (cond (eqb t 17) (slot_of_number d.locks.entries (header bs).param) (slot_of d c)))) ≡
            false) (sym q) (entering d i d.rest.made refl z c bs room k n e q).vacant;
        pairs = λ q. subst (λ (t : ℕ). Pairs d.locks.entries
            (cond (eqb t 0) (slot_of_number d.locks.entries 0) (cond (eqb t 17) (slot_of_number d.locks.entries (header bs).param) (slot_of d c))) c)
            (sym q) (pairing d i d.rest.made refl z c bs room k n e q);
        second = λ o. (async_second t₁ o refl).1;
        second_live = λ o. (async_second t₁ o refl).0;
        first = λ o. (sync_first t₁ o refl).1;
        first_live = λ o. (sync_first t₁ o refl).0;
        real = real_delivery d c bs room (accepted d (delivery c bs room) acted k n e);
      }

delivered : (d : Server) → Inv d.locks → length d.rest.exchanges ≡ length d.locks.entries → (c : ℕ) (bs : List ℕ) (room : ℕ) (o : Outcome) (k n : ℕ)
    → (step d (delivery c bs room)).reply ≡ took o k n
    → Facts d (happened (delivery c bs room) (took o k n) (step d (delivery c bs room)).frames) (step d (delivery c bs room)).frames
delivered d i z c bs room more_needed k n e = tt
delivered d i z c bs room skipped k n e = tt
delivered d i z c bs room held k n e = tt
delivered d i z c bs room ignored k n e = tt
delivered d i z c bs room error_sent k n e = tt
delivered d i z c bs room closed k n e = real_delivery d c bs room (accepted d (delivery c bs room) closed k n e)
delivered d i z c bs room acted k n e = acted_facts d i z c bs room k n e

pub facts : (d : Server) → Inv d.locks → length d.rest.exchanges ≡ length d.locks.entries → (e : Event) (r : Reply) → (step d e).reply ≡ r →
    Facts d (happened e r (step d e).frames) (step d e).frames
facts d i z (delivery c bs room) (refused n) q = tt
facts d i z (delivery c bs room) done q = tt
facts d i z (delivery c bs room) withheld q = tt
facts d i z (delivery c bs room) (took o k n) q = delivered d i z c bs room o k n q
facts d i z (opening c) (refused n) q = tt
facts d i z (opening c) done q = tt
facts d i z (opening c) withheld q = tt
facts d i z (opening c) (took o k n) q = tt
facts d i z (cut c room) (refused n) q = tt
facts d i z (cut c room) done q = real_cut d c room (done_accepted d (cut c room) q)
facts d i z (cut c room) withheld q = tt
facts d i z (cut c room) (took o k n) q = tt
facts d i z (clock t room) (refused n) q = tt
facts d i z (clock t room) done q = tt
facts d i z (clock t room) withheld q = tt
facts d i z (clock t room) (took o k n) q = tt
facts d i z (answer m x end sh room) (refused n) q = tt
facts d i z (answer m x end sh room) done q = tt
facts d i z (answer m x end sh room) withheld q = tt
facts d i z (answer m x end sh room) (took o k n) q = tt
facts d i z (status b) (refused n) q = tt
facts d i z (setting s) (refused n) q = tt
facts d i z (status b) done q = tt
facts d i z (setting s) done q = tt
facts d i z (status b) withheld q = tt
facts d i z (setting s) withheld q = tt
facts d i z (status b) (took o k n) q = tt
facts d i z (setting s) (took o k n) q = tt

pub told_own : (d : Server) (h : Happening) (fs : List Frame) → Facts d h fs → Told d h fs
told_own d (message_acted b) fs f = record { own = λ a e. subst (λ (x : Heard). x ≡ heard 5 fs) (same a e) f.told }
  where
    same : (a : Action) → message_acted b ≡ message_acted a → b.told ≡ a.told
    same a e = let z : b ≡ a = cc in ap (λ (x : Action). x.told) z
told_own d unmoved fs f = record { own = λ a e. absurd (let z : ◌≡◌ {A = ℕ} 0 1 = cc in omega arith) }
told_own d (connected c) fs f = record { own = λ a e. absurd (let z : ◌≡◌ {A = ℕ} 0 1 = cc in omega arith) }
told_own d (disconnected c k) fs f = record { own = λ a e. absurd (let z : ◌≡◌ {A = ℕ} 0 1 = cc in omega arith) }
told_own d (skipped_over c k) fs f = record { own = λ a e. absurd (let z : ◌≡◌ {A = ℕ} 0 1 = cc in omega arith) }
told_own d (errored c h k) fs f = record { own = λ a e. absurd (let z : ◌≡◌ {A = ℕ} 0 1 = cc in omega arith) }
told_own d (clock_read t) fs f = record { own = λ a e. absurd (let z : ◌≡◌ {A = ℕ} 0 1 = cc in omega arith) }
told_own d (status_set b) fs f = record { own = λ a e. absurd (let z : ◌≡◌ {A = ℕ} 0 1 = cc in omega arith) }
told_own d (setting_made s) fs f = record { own = λ a e. absurd (let z : ◌≡◌ {A = ℕ} 0 1 = cc in omega arith) }
told_own d (answer_sent n p end) fs f = record { own = λ a e. absurd (let z : ◌≡◌ {A = ℕ} 0 1 = cc in omega arith) }
told_own d (answer_withheld n m) fs f = record { own = λ a e. absurd (let z : ◌≡◌ {A = ℕ} 0 1 = cc in omega arith) }

pub past : (es : List Entry) (i : ℕ) → length es ≤ i → at es i ≡ blank
past [] i l = refl
past (x ∷ es) zero l = absurd (omega arith)
past (x ∷ es) (suc i) l = past es i (omega arith)

row_away : (c : ℕ) → (c ≡ no_connection → ⊥) → (es : List Entry) (i : ℕ) (h : Happening) (x : ℕ) → takes_connection c h ≡ false → eqb x c ≡ false → eqb (in_slot asynchronous_row es i h x) c ≡ false
row_away c real es i unmoved x n e = e
row_away c real es i (connected y) x n e = e
row_away c real es i (disconnected y k) x n e = go (eqb i (slot_in es y))
  where
    go : (b : Bool) → eqb (cond b no_connection x) c ≡ false
    go true = ne_eqb no_connection c (λ z. real (sym z))
    go false = e
row_away c real es i (skipped_over y k) x n e = e
row_away c real es i (errored y h k) x n e = go (eqb i (slot_in es y) && eqb (at es i).synchronous y)
  where
    go : (b : Bool) → eqb (cond b x x) c ≡ false
    go true = e
    go false = e
row_away c real es i (message_acted a) x n e = go (eqb i (slot_acted es a)) (eqb (kind_of a) 17) (eqb (kind_of a) 0) n
  where
    go : (b u v : Bool) → (u && eqb a.connection c) ≡ false → eqb (cond b (cond u a.connection (cond v no_connection x)) x) c ≡ false
    go false u v n = e
    go true true v n = n
    go true false true n = ne_eqb no_connection c (λ z. real (sym z))
    go true false false n = e
row_away c real es i (clock_read t) x n e = e
row_away c real es i (status_set b) x n e = e
row_away c real es i (setting_made s) x n e = e
row_away c real es i (answer_sent m p end) x n e = go (eqb i (slot_of_number es m))
  where
    go : (b : Bool) → eqb (cond b x x) c ≡ false
    go true = e
    go false = e
row_away c real es i (answer_withheld m j) x n e = go (eqb i (slot_of_number es m))
  where
    go : (b : Bool) → eqb (cond b x x) c ≡ false
    go true = e
    go false = e

-- one call on a server with its invariant
module _ (c : ℕ) (real : c ≡ no_connection → ⊥) (d : Server) (h : Happening) (r : Result) (l : Local d h r) (f : Facts d h r.frames) (v : Inv d.locks) (v' : Inv r.server.locks) where
  abbrev es : List Entry
  es = d.locks.entries

  abbrev es' : List Entry
  es' = r.server.locks.entries

  abbrev ws : List Waiting
  ws = d.locks.waiting

  abbrev ws' : List Waiting
  ws' = r.server.locks.waiting

  abbrev left : List Waiting
  left = requests_left es d.locks.clock h ws

  -- what it answers to connection c
  pub codes : codes_to c (to_waiting h r.frames) ≡ codes_to c (map (waiting_answer 0 es) (taken d h)) ++ codes_to c (map (waiting_answer 1 l.due) l.granted)
  codes = ap (codes_to c) (frames_told d h r l (told_own d h r.frames f)) ∙ codes_append c (map (waiting_answer 0 es) (taken d h)) _

  -- no slot gets connection c but by a join
  pub away_due : takes_connection c h ≡ false → (i : ℕ) → eqb (at es i).asynchronous c ≡ false → eqb (at l.due i).asynchronous c ≡ false
  away_due n i e = go (ltb i (length es)) refl
    where
      go : (b : Bool) → ltb i (length es) ≡ b → eqb (at l.due i).asynchronous c ≡ false
      go true q = ap (λ (x : Entry). eqb x.asynchronous c) (l.due_is i (ltb-true _ _ q)) ∙ row_away c real es i h (at es i).asynchronous n e
      go false q = ap (λ (x : Entry). eqb x.asynchronous c) (past l.due i (omega (arith, ltb-false i (length es) q, l.due_slots))) ∙ ne_eqb no_connection c (λ z. real (sym z))

  pub away_after : takes_connection c h ≡ false → (i : ℕ) → eqb (at es i).asynchronous c ≡ false → eqb (at es' i).asynchronous c ≡ false
  away_after n i e = go (ltb i (length es)) refl
    where
      go : (b : Bool) → ltb i (length es) ≡ b → eqb (at es' i).asynchronous c ≡ false
      go true q = ap (λ (x : ℕ). eqb x c) (l.asynchronous i (ltb-true _ _ q)) ∙ row_away c real es i h (at es i).asynchronous n e
      go false q = ap (λ (x : Entry). eqb x.asynchronous c) (past es' i (omega (arith, ltb-false i (length es) q, l.slots))) ∙ ne_eqb no_connection c (λ z. real (sym z))

  -- where no request that is left is of a session with connection c, none is granted to it, and none is after
  pub quiet_after : takes_connection c h ≡ false → all (away c 0 es) left ≡ true → (codes_to c (map (waiting_answer 1 l.due) l.granted) ≡ []) × (all (away c 0 es') ws' ≡ true)
  quiet_after n a =
      let q = look_all d.locks.clock (away c 0 es) (looks_after es h) l.due left es' ws' l.granted l.waiting a in (
        codes_none c 1 l.due l.granted (all_imp (away c 0 es) (away c 1 l.due) (λ w e. ap not (away_due n w.slot (not_of _ e))) l.granted q.1),
        all_imp (away c 0 es) (away c 0 es') (λ w e. ap not (away_after n w.slot (not_of _ e))) ws' q.0,
      )

-- no request waits of a session with connection c
pub record Quiet (c : ℕ) (d : Server) : Type 0 where
  pub inv : Inv d.locks
  pub sized : length d.rest.exchanges ≡ length d.locks.entries
  pub none : all (away c 0 d.locks.entries) d.locks.waiting ≡ true
  pub second : all (away no_connection 0 d.locks.entries) d.locks.waiting ≡ true

silent_told : (x : Heard) → is_silence x ≡ true → x ≡ silence
silent_told silence e = refl
silent_told (Heard.with_code k) e = absurd (false≢true e)

-- a request that comes to wait sends nothing, and nobody is looked at
module _ (d : Server) (a : Action) (r : Result) (l : Local d (message_acted a) r) (f : ActedFacts d a r.frames) (w : waits a ≡ true) where
  pub is_lock_lem : kind_of a ≡ 4
  is_lock_lem = eqb-true _ _ (and_l (eqb (kind_of a) 4) _ w)

  asks : eqb a.message.code 0 ≡ false
  asks = not_of _ (and_l (not (eqb a.message.code 0)) _ (and_r (eqb (kind_of a) 4) _ w))

  not_told : a.told ≡ silence
  not_told = silent_told a.told (and_r (not (eqb a.message.code 0)) _ (and_r (eqb (kind_of a) 4) _ w))

  unlooked : looks_after d.locks.entries (message_acted a) ≡ false
  unlooked = rw (is_lock_lem, asks)

  pub lefts : (r.server.locks.waiting ≡ requests_left d.locks.entries d.locks.clock (message_acted a) d.locks.waiting) × (l.granted ≡ [])
  lefts = let x = rw unlooked at l.waiting in (x.1, x.2)

  says_nothing : r.frames ≡ []
  says_nothing = unanswered d a r.frames l.due l.granted f.told l.frames (λ e. lefts.1) is_lock_lem not_told

  abbrev pub newest : Waiting
  newest = record { slot = slot_acted d.locks.entries a; deadline = d.locks.clock + a.message.param; string = a.message.payload }

  pub comes : r.server.locks.waiting ≡ d.locks.waiting ++ newest ∷ []
  comes = lefts.0 ∙ ap (λ (b : Bool). cond b (d.locks.waiting ++ record {
    slot = slot_acted d.locks.entries a;
    deadline = d.locks.clock + a.message.param;
    string = a.message.payload;
  } ∷ [])
      (cond (eqb (kind_of a) 19) (keep (λ w. not (requests_of (slot_acted d.locks.entries a) w)) d.locks.waiting) d.locks.waiting)) w

-- no request waits on connection c: one call
module _ (c : ℕ) (real : c ≡ no_connection → ⊥) (d : Server) (q : Quiet c d) where
  abbrev Stays : Happening → Result → Type 0
  Stays h r = (codes_to c (to_waiting h r.frames) ≡ []) × (all (away c 0 r.server.locks.entries) r.server.locks.waiting ≡ true)

  module _ (h : Happening) (r : Result) (l : Local d h r) (f : Facts d h r.frames) (v' : Inv r.server.locks) where
    stays : takes_connection c h ≡ false → all (away c 0 d.locks.entries) (taken d h) ≡ true →
        all (away c 0 d.locks.entries) (requests_left d.locks.entries d.locks.clock h d.locks.waiting) ≡ true → Stays h r
    stays n a b =
        let x = quiet_after c real d h r l f q.inv v' n b in
        (codes c real d h r l f q.inv v' ∙ ap₂ ◌++◌ (codes_none c 0 d.locks.entries (taken d h) a) x.0, x.1)

  kept : (p : Waiting → Bool) → all (away c 0 d.locks.entries) (keep p d.locks.waiting) ≡ true
  kept p = all_keep (away c 0 d.locks.entries) p d.locks.waiting q.none

  acted_quiet : (a : Action) (r : Result) (l : Local d (message_acted a) r) (f : ActedFacts d a r.frames) → Inv r.server.locks →
      begins_to_wait c (message_acted a) r.frames ≡ false → takes_connection c (message_acted a) ≡ false → Stays (message_acted a) r
  acted_quiet a r l f v' n not-join = stays (message_acted a) r l f v' not-join (taken_away (eqb (kind_of a) 19)) (left_away (waits a) refl (eqb (kind_of a) 19))
    where
      taken_away : (b : Bool) → all (away c 0 d.locks.entries) (cond b (keep (requests_of (slot_acted d.locks.entries a)) d.locks.waiting) []) ≡ true
      taken_away true = kept (requests_of (slot_acted d.locks.entries a))
      taken_away false = refl

      elsewhere_asked : waits a ≡ true → eqb (at d.locks.entries (slot_acted d.locks.entries a)).asynchronous c ≡ false
      elsewhere_asked w =
          ap (λ (x : ℕ). eqb x c) (f.second (ap (one_of (4 ∷ 19 ∷ [])) (is_lock_lem d a r l f w)))
          ∙ go (eqb a.connection c)
          (ap₂ (λ (x : ℕ) (fs : List Frame). (eqb a.connection c && eqb x 4) && (not (eqb a.message.code 0) && nothing_sent fs))
          (sym (is_lock_lem d a r l f w)) (sym (says_nothing d a r l f w)) ∙ n)
        where
          go : (b : Bool) → ((b && true) && (not (eqb a.message.code 0) && true)) ≡ false → b ≡ false
          go true e = absurd (true≢false (ap (λ (x : Bool). not x && true) (sym (asks d a r l f w)) ∙ e))
          go false e = refl

      left_away : (b : Bool) → waits a ≡ b → (y : Bool) → all (away c 0 d.locks.entries)
          (cond b (d.locks.waiting ++ record {
            slot = slot_acted d.locks.entries a;
            deadline = d.locks.clock + a.message.param;
            string = a.message.payload;
          } ∷ []) (cond y (keep (λ w. not (requests_of (slot_acted d.locks.entries a) w)) d.locks.waiting)
          d.locks.waiting)) ≡ true
      left_away true w y = all_snoc (away c 0 d.locks.entries) d.locks.waiting _ q.none (ap not (elsewhere_asked w))
      left_away false w true = kept (λ w. not (requests_of (slot_acted d.locks.entries a) w))
      left_away false w false = q.none

  pub quiet_at : (h : Happening) (r : Result) → Local d h r → Facts d h r.frames → Inv r.server.locks → begins_to_wait c h r.frames ≡ false → takes_connection c h ≡ false → Stays h r
  quiet_at unmoved r l f v' n m = stays unmoved r l f v' refl refl q.none
  quiet_at (connected x) r l f v' n m = stays (connected x) r l f v' refl refl q.none
  quiet_at (disconnected x k) r l f v' n m = stays (disconnected x k) r l f v' refl refl (kept (λ w. not (requests_of (slot_in d.locks.entries x) w)))
  quiet_at (skipped_over x k) r l f v' n m = stays (skipped_over x k) r l f v' refl refl q.none
  quiet_at (errored x g k) r l f v' n m = stays (errored x g k) r l f v' refl refl q.none
  quiet_at (message_acted a) r l f v' n m = acted_quiet a r l f v' n m
  quiet_at (clock_read t) r l f v' n m = stays (clock_read t) r l f v' refl (kept (reached_by t)) (kept (λ w. not (reached_by t w)))
  quiet_at (status_set b) r l f v' n m = stays (status_set b) r l f v' refl refl q.none
  quiet_at (setting_made s) r l f v' n m = stays (setting_made s) r l f v' refl refl q.none
  quiet_at (answer_sent k p end) r l f v' n m = stays (answer_sent k p end) r l f v' refl refl q.none
  quiet_at (answer_withheld j k) r l f v' n m = stays (answer_withheld j k) r l f v' refl refl q.none

-- the two counts of slots stay
pub sized_call : (d : Server) (e : Event) → length d.rest.exchanges ≡ length d.locks.entries → length (step d e).server.rest.exchanges ≡ length (step d e).server.locks.entries
sized_call d e z = let l = local_call d e in l.exchange_slots ∙ z ∙ sym l.slots

-- every request that waits is of a session with both connections
module _ (d : Server) (h : Happening) (r : Result) (l : Local d h r) (f : Facts d h r.frames) (v : Inv d.locks) where
  abbrev es₂ : List Entry
  es₂ = d.locks.entries

  abbrev es₃ : List Entry
  es₃ = r.server.locks.entries

  abbrev both₂ : Waiting → Bool
  both₂ w = live (at es₂ w.slot) && away no_connection 0 es₂ w

  goods : (ws : List Waiting) → Good es₂ ws → all (away no_connection 0 es₂) ws ≡ true → all both₂ ws ≡ true
  goods [] g a = refl
  goods (w ∷ ws) g a = both _ _ (both _ _ (and_l (live (at es₂ w.slot)) _ g.0) (and_l (away no_connection 0 es₂ w) _ a)) (goods ws g.2 (and_r (away no_connection 0 es₂ w) _ a))

  -- as the row of its slot leaves it
  pub kept_row : (w : Waiting) → both₂ w ≡ true → in_slot asynchronous_row es₂ w.slot h (at es₂ w.slot).asynchronous ≡ (at es₂ w.slot).asynchronous → away no_connection 0 es₃ w ≡ true
  kept_row w b e =
      let within = inside live es₂ w.slot refl (and_l (live (at es₂ w.slot)) _ b) in
      ap (λ (x : ℕ). not (eqb x no_connection)) (l.asynchronous w.slot within ∙ e) ∙ and_r (live (at es₂ w.slot)) _ b

  looked_second : all (away no_connection 0 es₃) (requests_left es₂ d.locks.clock h d.locks.waiting) ≡ true → all (away no_connection 0 es₃) r.server.locks.waiting ≡ true
  looked_second a = (look_all d.locks.clock (away no_connection 0 es₃) (looks_after es₂ h) l.due (requests_left es₂ d.locks.clock h d.locks.waiting)
      es₃ r.server.locks.waiting l.granted l.waiting a).0

pub all_kept : (p : Waiting → Bool) (ws : List Waiting) → all p (keep p ws) ≡ true
all_kept p [] = refl
all_kept p (w ∷ ws) = go (p w) refl (all_kept p ws)
  where
    go : (b : Bool) → p w ≡ b → all p (keep p ws) ≡ true → all p (cond b (w ∷ keep p ws) (keep p ws)) ≡ true
    go true e a = both _ _ e a
    go false e a = a

module _ (d : Server) (v : Inv d.locks) (s : all (away no_connection 0 d.locks.entries) d.locks.waiting ≡ true) where
  abbrev Seconded : Happening → Type 0
  Seconded h = (r : Result) → Local d h r → Facts d h r.frames → all (away no_connection 0 r.server.locks.entries) r.server.locks.waiting ≡ true

  abbrev E₂ : List Entry
  E₂ = d.locks.entries

  abbrev W₂ : List Waiting
  W₂ = d.locks.waiting

  abbrev held₂ : Waiting → Bool
  held₂ w = live (at E₂ w.slot) && away no_connection 0 E₂ w

  calm_second : (h : Happening) → requests_left E₂ d.locks.clock h W₂ ≡ W₂ → ((i : ℕ) → in_slot asynchronous_row E₂ i h (at E₂ i).asynchronous ≡ (at E₂ i).asynchronous) → Seconded h
  calm_second h left same r l f =
      looked_second d h r l f v
      (rw left (all_imp held₂ (away no_connection 0 r.server.locks.entries) (λ w b. kept_row d h r l f v w b (same w.slot)) W₂
      (goods d h r l f v W₂ v.sound.good s)))

  same_both₂ : (b : Bool) (x : ℕ) → cond b x x ≡ x
  same_both₂ true x = refl
  same_both₂ false x = refl

  closed_second : (x : ℕ) (q : Heard) → Seconded (disconnected x q)
  closed_second x q r l f =
      let p : Waiting → Bool = λ w. not (requests_of (slot_in E₂ x) w) in
      looked_second d (disconnected x q) r l f v
      (all_imp (λ w. held₂ w && p w) (away no_connection 0 r.server.locks.entries) (λ w b. kept_row d (disconnected x q) r l f v w (and_l (held₂ w) _ b) (far w (and_r (held₂ w) _ b))) (keep p W₂)
      (all_and held₂ p (keep p W₂) (all_keep held₂ p W₂ (goods d (disconnected x q) r l f v W₂ v.sound.good s)) (all_kept p W₂)))
    where
      far : (w : Waiting) → not (eqb w.slot (slot_in E₂ x)) ≡ true → cond (eqb w.slot (slot_in E₂ x)) no_connection (at E₂ w.slot).asynchronous ≡ (at E₂ w.slot).asynchronous
      far w n = ap (λ (b : Bool). cond b no_connection (at E₂ w.slot).asynchronous) (not_of (eqb w.slot (slot_in E₂ x)) n)

  acted_second : (a : Action) → Seconded (message_acted a)
  acted_second a r l f = looked_second d (message_acted a) r l f v (go (waits a) refl (eqb (kind_of a) 19))
    where
      es' : List Entry
      es' = r.server.locks.entries

      j : ℕ
      j = slot_acted E₂ a

      all_held : all held₂ W₂ ≡ true
      all_held = goods d (message_acted a) r l f v W₂ v.sound.good s

      row : (w : Waiting) → held₂ w ≡ true → away no_connection 0 es' w ≡ true
      row w b = by (eqb w.slot j) refl
        where
          alive : live (at E₂ w.slot) ≡ true
          alive = and_l (live (at E₂ w.slot)) _ b

          within : w.slot < length E₂
          within = inside live E₂ w.slot refl alive

          own : (y z : Bool) → eqb (kind_of a) 17 ≡ y → eqb (kind_of a) 0 ≡ z → w.slot ≡ j →
              not (eqb (cond y a.connection (cond z no_connection (at E₂ w.slot).asynchronous)) no_connection) ≡ true
          own true z ey ez n = ap not (ne_eqb a.connection no_connection f.real)
          own false true ey ez n = absurd (true≢false (sym alive ∙ ap (λ (i : ℕ). live (at E₂ i)) n ∙ f.vacant (eqb-true _ _ ez)))
          own false false ey ez n = and_r (live (at E₂ w.slot)) _ b

          cell : (x : Bool) → eqb w.slot j ≡ x →
              not (eqb (cond x (cond (eqb (kind_of a) 17) a.connection (cond (eqb (kind_of a) 0) no_connection (at E₂ w.slot).asynchronous))
              (at E₂ w.slot).asynchronous) no_connection) ≡ true
          cell true n = own (eqb (kind_of a) 17) (eqb (kind_of a) 0) refl refl (eqb-true _ _ n)
          cell false n = and_r (live (at E₂ w.slot)) _ b

          by : (x : Bool) → eqb w.slot j ≡ x → away no_connection 0 es' w ≡ true
          by x n = ap (λ (y : ℕ). not (eqb y no_connection)) (l.asynchronous w.slot within) ∙ cell (eqb w.slot j) refl

      newcomer : waits a ≡ true → held₂ (record { slot = j; deadline = d.locks.clock + a.message.param; string = a.message.payload }) ≡ true
      newcomer w =
          let o : one_of (4 ∷ 19 ∷ []) (kind_of a) ≡ true = ap (one_of (4 ∷ 19 ∷ [])) (is_lock_lem d a r l f w) in
          both _ _ (f.second_live o) (ap (λ (x : ℕ). not (eqb x no_connection)) (f.second o) ∙ ap not (ne_eqb _ _ f.real))

      go : (b : Bool) → waits a ≡ b → (y : Bool) → all (away no_connection 0 es')
          (cond b (W₂ ++ record { slot = j; deadline = d.locks.clock + a.message.param; string = a.message.payload } ∷ [])
          (cond y (keep (λ w. not (requests_of j w)) W₂) W₂)) ≡ true
      go true w y = all_imp held₂ (away no_connection 0 es') row
          (W₂ ++ record { slot = j; deadline = d.locks.clock + a.message.param; string = a.message.payload } ∷ [])
          (all_snoc held₂ W₂ _ all_held (newcomer w))
      go false w true = all_imp held₂ (away no_connection 0 es') row (keep (λ w. not (requests_of j w)) W₂) (all_keep held₂ (λ w. not (requests_of j w)) W₂ all_held)
      go false w false = all_imp held₂ (away no_connection 0 es') row W₂ all_held

  reading_second : (t : ℕ) → Seconded (clock_read t)
  reading_second t r l f =
      looked_second d (clock_read t) r l f v
      (all_imp held₂ (away no_connection 0 r.server.locks.entries) (λ w b. kept_row d (clock_read t) r l f v w b refl) (keep (λ w. not (reached_by t w)) W₂)
      (all_keep held₂ (λ w. not (reached_by t w)) W₂ (goods d (clock_read t) r l f v W₂ v.sound.good s)))

  pub second_after : (h : Happening) → Seconded h
  second_after (message_acted a) = acted_second a
  second_after (disconnected x q) = closed_second x q
  second_after (clock_read t) = reading_second t
  second_after unmoved = calm_second unmoved refl (λ i. refl)
  second_after (connected x) = calm_second (connected x) refl (λ i. refl)
  second_after (skipped_over x k) = calm_second (skipped_over x k) refl (λ i. refl)
  second_after (errored x g k) = calm_second (errored x g k) refl (λ i. same_both₂ (eqb i (slot_in E₂ x) && eqb (at E₂ i).synchronous x) (at E₂ i).asynchronous)
  second_after (status_set b) = calm_second (status_set b) refl (λ i. refl)
  second_after (setting_made s) = calm_second (setting_made s) refl (λ i. refl)
  second_after (answer_sent k p end) = calm_second (answer_sent k p end) refl (λ i. same_both₂ (eqb i (slot_of_number E₂ k)) (at E₂ i).asynchronous)
  second_after (answer_withheld j k) = calm_second (answer_withheld j k) refl (λ i. same_both₂ (eqb i (slot_of_number E₂ j)) (at E₂ i).asynchronous)

pub second_call : (d : Server) (e : Event) → Inv d.locks → length d.rest.exchanges ≡ length d.locks.entries → all (away no_connection 0 d.locks.entries) d.locks.waiting ≡ true
    → all (away no_connection 0 (step d e).server.locks.entries) (step d e).server.locks.waiting ≡ true
second_call d e v z s = second_after d v s (at_call d e) (step d e) (local_call d e) (facts d v z e (step d e).reply refl)

second_list : (es : List Event) (d : Server) → Inv d.locks → length d.rest.exchanges ≡ length d.locks.entries → all (away no_connection 0 d.locks.entries) d.locks.waiting ≡ true
    → all (away no_connection 0 (final d es).locks.entries) (final d es).locks.waiting ≡ true
unfolding final
second_list [] d v z s = s
second_list (e ∷ es) d v z s = second_list es (step d e).server (inv_call d e v) (sized_call d e z) (second_call d e v z s)

pub second_run : (v : Making) (es : List Event) → all (away no_connection 0 (final (fresh v) es).locks.entries) (final (fresh v) es).locks.waiting ≡ true
unfolding final
second_run v es = let i = inv_run v [] in second_list es (fresh v) i (exchange_slots [] (fresh v) ∙ sym i.sound.firm.slots) refl
