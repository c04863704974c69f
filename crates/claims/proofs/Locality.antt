-- Locality, proved: on any server, of any call, and so of each call of any list.
use mathlib.Core.Path.{◌≡◌, refl, sym, ap, ap₂, subst, ◌∙◌}
use mathlib.Core.Bool.{Bool, true, false, ◌||◌, cond, true≢false}
use mathlib.Core.List.{List, [], ◌∷◌, ◌++◌}
use mathlib.Core.Logic.{◌⊎◌, inl, inr}
use Prim.Native.Nat.{ℕ, zero, suc, ◌+◌}
use native.Mathlib.Omega.{arith}
use lib.Dec.{eqb}
use lib.ListN.{take, drop, length, set}
use borrow.Author.Tests.{eqb-true, ne_eqb}
use Rattle.wire.specs.declared.Header.{Header}
use Rattle.wire.specs.Message.{Message, header, message_of}
use Rattle.wire.specs.Frame.{Frame, frame_of}
use Rattle.wire.specs.Class.{one_of, synchronous, asynchronous}
use Rattle.model.specs.Sizes.{no_connection}
use Rattle.model.specs.State.{Making, Server, Entry, at, live, half_open, blank, slot_of_number, connection_at, exchange_at, Asked, Asked.none, Asked.some, Exchange, with_exchange, sensing_at, with_sensings}
use Rattle.model.specs.Interface.{Event, Event.opening, Event.delivery, Event.cut, Event.clock, Event.answer, Event.status, Event.setting, Outcome.acted}
use Rattle.model.specs.Interface.{Outcome.closed, Reply, Reply.done, Reply.withheld, Reply.took}
use Rattle.model.specs.Scan.{Scan, Scan.empty, Scan.few, Scan.wrong, Scan.skipping, Scan.long, Scan.part, Scan.whole, scan, size}
use Rattle.model.specs.Place.{slot_in, slot_of, role_of, role_by, is_on_connection, entry_of, Role, Role.r_none, Role.r_half_open, Role.r_synchronous, Role.r_asynchronous}
use Rattle.model.specs.Locks.{LockEvent, change, grant_pass, pass_over}
use Rattle.model.specs.Exchange.{with_number, answer_number_in, answer_number, number_asked, answered_with, interrupted}
use Rattle.model.specs.Checks
use Rattle.model.specs.Checks.{Verdict, Verdict.v_more, Verdict.v_skipped, Verdict.v_held, Verdict.v_ignored, Verdict.v_closed, Verdict.v_acts}
use Rattle.model.specs.Checks.{Verdict.v_error, Verdict.v_fatal, verdict, judged, either}
use Rattle.model.specs.Acts
use Rattle.model.specs.Acts.{Plan}
use Rattle.model.specs.Refusals.{causes, refusal}
use Rattle.model.specs.Step.{counted, effect, received, plan, answered, finish, step, final, log, channels, closing, answer_type, withholds}
use Rattle.model.specs.Happening.{Heard, Heard.silence, Heard.with_code, Happening, Happening.unmoved, Happening.disconnected, Happening.message_acted, heard, happened}
use Rattle.model.specs.LocalityReplies.{said_to, asked_number, number_sent}
use Rattle.model.specs.LocalityRows.{step_row, is_silence, Single, singly, clock_row, status_row, made_row, allowed_row, issued_row, enable_row, lockout_row, remote_row}
use Rattle.model.specs.Locality.{at_call, Local, clients_fatal_error, Locality, EachLocal, over_log, LocalRun}
use Rattle.model.specs.Sensing.{sensed, service_after}
use Rattle.model.proofs.Basics.{and_l, and_r, or→, not_off}
use Rattle.claims.proofs.Scanning.{whole_scan, long_scan}
use Rattle.model.proofs.Place.{place_sound, place_role, no_role, async_live}
use Rattle.claims.proofs.Classes.{acted_class}
use Rattle.claims.proofs.Numbers.{live_found}
use Rattle.claims.proofs.Fits.{Passes, uncaused, opening_passed, sync_passed, async_passed, real_delivery, real_cut}
use Rattle.claims.proofs.Closing.{pass_looks}
use Rattle.claims.proofs.LocalityLists.{with_remainder, kept_open}
use Rattle.claims.proofs.LocalityParts.{assemble}
use Rattle.claims.proofs.LocalityRest.{rest_unmoved, rest_clock, rest_status, rest_setting, service_due, rest_answer, rest_withheld, rest_opening}
use Rattle.claims.proofs.LocalityRest.{rest_skipped, rest_error, scan_error, rest_closing}
use Rattle.claims.proofs.LocalityLocks.{locks_unmoved, locks_opening, locks_skipped, locks_error, locks_status, locks_setting, locks_answer}
use Rattle.claims.proofs.LocalityLocks.{locks_withheld, locks_clock, locks_closing, freed, stay, pass_frames, refused_frames}
use Rattle.claims.proofs.LocalitySilence.{fatal_heard, none_heard, closes_silently}
use Rattle.claims.proofs.LocalityMessages.{num, synchronously, asynchronously, local_synchronous, local_asynchronous, issued_now, local_0, local_17}

-- the asynchronous channel's connection is its session's second
pub second_is : (es : List Entry) (c : ℕ) → role_of es c ≡ r_asynchronous → (at es (slot_in es c)).asynchronous ≡ c
second_is es c r = go (place_sound es c)
  where
    e : Entry
    e = at es (slot_in es c)

    not_first : (a b s : Bool) → role_by a b s ≡ r_asynchronous → s ≡ false
    not_first true true s q = cc
    not_first true false true q = cc
    not_first true false false q = refl
    not_first false b s q = cc

    on : (eqb e.synchronous c ≡ true) ⊎ (eqb e.asynchronous c ≡ true) → e.asynchronous ≡ c
    on (inl h) = absurd (true≢false (sym h ∙ not_first (live e) (eqb e.asynchronous no_connection) (eqb e.synchronous c) (sym (place_role es c) ∙ r)))
    on (inr h) = eqb-true e.asynchronous c h

    go : (is_on_connection c e ≡ true) ⊎ (e ≡ blank) → e.asynchronous ≡ c
    go (inl h) = on (or→ (eqb e.synchronous c) (eqb e.asynchronous c) (and_r (live e) (eqb e.synchronous c || eqb e.asynchronous c) h))
    go (inr h) = absurd (true≢false (sym (async_live es c r) ∙ ap live h))

-- nothing happened
pub local_unmoved : (d : Server) (r : Reply) → ((o : _) (k n : ℕ) → r ≡ took o k n → n ≡ 0) → Local d unmoved record { server = d; reply = r; frames = [] }
local_unmoved d r s = assemble d unmoved record { server = d; reply = r; frames = [] } d.locks.entries [] (rest_unmoved d) (locks_unmoved d) refl s

-- a closing, with what it said
pub local_closing : (d : Server) (c : ℕ) → (c ≡ no_connection → ⊥) → (k : Heard) (reply : Reply) → ((o : _) (j n : ℕ) → reply ≡ took o j n → n ≡ (entry_of d c).number)
    → Local d (disconnected c k) (finish d record { reply = reply; rest = closing d c; first = []; said = said_to k 2 (channels d c); event = LockEvent.close (slot_of d c) })
unfolding finish change grant_pass
local_closing d c real k reply s =
    assemble
    d
    (disconnected c k)
    _
    (freed d c)
    (pass_looks d.locks.clock (stay d c) (freed d c)).grants
    (rest_closing d c real k)
    (locks_closing d c k)
    (ap (λ (fs : List Frame). said_to k 2 (channels d c) ++ fs) (pass_frames d.locks.clock (stay d c) (freed d c)))
    s

-- a message that acted
module _ (d : Server) (c : ℕ) (bs : List ℕ) (h : Header) (p : List ℕ) where
  abbrev Acted : Plan → ℕ → Type 0
  Acted x n = Local d (message_acted record {
    connection = c;
    message = record { kind = h.kind; code = h.code; param = h.param; payload = p };
    session = n;
    told = heard 5 (finish d x).frames;
  }) (finish d x)

  opens_local : (b : Bool) → eqb h.kind 0 ≡ b → Passes (Checks.opening_rules d h p)
      → (n : ℕ) → (Acts.opens b d c h).reply ≡ took acted (16 + h.len) n → Acted (Acts.opens b d c h) n
  opens_local true t q n e = rw (let z : n ≡ issued_now d c h p = cc in z, eqb-true h.kind 0 t) (local_0 d c h p)
  opens_local false t q n e =
      let es = d.locks.entries in
      let t17 : eqb h.kind 17 ≡ true = rw t at (not_off (either 0 17 h.kind) q.0) in
      let half : half_open (at es (slot_of_number es h.param)) ≡ true = not_off _ (rw t17 at q.1.1.1.1.0) in
      rw (let z : n ≡ h.param = cc in z, eqb-true h.kind 17 t17) (local_17 d c h p (live_found es h.param (and_l (live (at es (slot_of_number es h.param))) _ half)))

  sync_acts : Passes (Checks.synchronous_rules d (slot_of d c) h p) → one_of (6 ∷ 7 ∷ 8 ∷ 12 ∷ []) h.kind ≡ true
  sync_acts g = rw (g.0, g.1.0, g.1.1.1.1.1.0) at (acted_class synchronous h.kind g.1.1.1.0 g.1.1.1.1.0)

  async_acts : Passes (Checks.asynchronous_rules h p) → one_of (4 ∷ 10 ∷ 15 ∷ 19 ∷ 21 ∷ 24 ∷ []) h.kind ≡ true
  async_acts g = rw (g.0, g.1.0, g.1.1.1.1.0) at (acted_class asynchronous h.kind g.1.1.0 g.1.1.1.0)

  -- read off the bytes that were shown
  shown_acted : (x : Plan) (n : ℕ) → header bs ≡ h → take (header bs).len (drop 16 bs) ≡ p → Acted x n
      → Local d (message_acted record { connection = c; message = message_of (header bs) bs; session = n; told = heard 5 (finish d x).frames }) (finish d x)
  shown_acted x n eh ep l =
      subst (λ (m : Message). Local d (message_acted record { connection = c; message = m; session = n; told = heard 5 (finish d x).frames }) (finish d x))
      (sym (ap₂ (λ (k : Header) (y : List ℕ). record { kind = k.kind; code = k.code; param = k.param; payload = y }) eh ep)) l

  acts_local : (room : ℕ) → header bs ≡ h → take (header bs).len (drop 16 bs) ≡ p → (r : Role) → role_of d.locks.entries c ≡ r → judged r d (slot_of d c) h p ≡ v_acts
      → Local d (happened (delivery c bs room) (Acts.acts r d (slot_of d c) c h p).reply (finish d (Acts.acts r d (slot_of d c) c h p)).frames) (finish d (Acts.acts r d (slot_of d c) c h p))
  unfolding Acts.acts
  acts_local room eh ep r_none e q = go (eqb h.kind 0) refl
    where
      go : (b : Bool) → eqb h.kind 0 ≡ b → Local d (happened (delivery c bs room) (Acts.opens b d c h).reply (finish d (Acts.opens b d c h)).frames) (finish d (Acts.opens b d c h))
      go true t = shown_acted (Acts.opens true d c h) (issued_now d c h p) eh ep (opens_local true t (opening_passed d h p q) (issued_now d c h p) refl)
      go false t = shown_acted (Acts.opens false d c h) h.param eh ep (opens_local false t (opening_passed d h p q) h.param refl)
  acts_local room eh ep r_half_open e q = absurd (let y : ◌≡◌ {A = ℕ} 0 1 = cc in omega arith)
  acts_local room eh ep r_synchronous e q = shown_acted (synchronously d c h p h.kind) (num d c h p) eh ep (local_synchronous d c h p h.kind (sync_acts (sync_passed d (slot_of d c) h p q)))
  acts_local room eh ep r_asynchronous e q =
      let g = async_passed h p q in
      shown_acted (asynchronously d c h p h.kind) (num d c h p) eh ep (local_asynchronous d c h p (second_is d.locks.entries c e) h.kind (async_acts g) g.1.1.1.1.1.1.0)

-- an Error answers a message that is not skipped
error_scan : (r : Role) (d : Server) (i : ℕ) (s : Scan) (n : ℕ) → verdict r d i s ≡ v_error n → (size s ≡ 0 → ⊥) × ((k : ℕ) → s ≡ Scan.skipping k → ⊥)
unfolding verdict
error_scan r d i empty n e = absurd (let y : ◌≡◌ {A = ℕ} 0 1 = cc in omega arith)
error_scan r d i few n e = absurd (let y : ◌≡◌ {A = ℕ} 0 1 = cc in omega arith)
error_scan r d i wrong n e = absurd (let y : ◌≡◌ {A = ℕ} 0 1 = cc in omega arith)
error_scan r d i (skipping k) n e = absurd (let y : ◌≡◌ {A = ℕ} 0 1 = cc in omega arith)
error_scan r d i (long h) n e = (λ z. omega arith, λ k z. let y : ◌≡◌ {A = ℕ} 0 1 = cc in omega arith)
error_scan r_none d i (part h) n e = absurd (go (either 0 17 h.kind) e)
  where
    go : (b : Bool) → cond b v_more (v_fatal 3) ≡ v_error n → ⊥
    go true e = let y : ◌≡◌ {A = ℕ} 0 1 = cc in omega arith
    go false e = let y : ◌≡◌ {A = ℕ} 0 1 = cc in omega arith
error_scan r_half_open d i (part h) n e = absurd (let y : ◌≡◌ {A = ℕ} 0 1 = cc in omega arith)
error_scan r_synchronous d i (part h) n e = absurd (let y : ◌≡◌ {A = ℕ} 0 1 = cc in omega arith)
error_scan r_asynchronous d i (part h) n e = absurd (let y : ◌≡◌ {A = ℕ} 0 1 = cc in omega arith)
error_scan r d i (whole h p) n e = (λ z. omega arith, λ k z. let y : ◌≡◌ {A = ℕ} 0 1 = cc in omega arith)

-- the number expected after an Error: by the message's header, if it came on its session's synchronous connection
module _ (d : Server) (c : ℕ) (bs : List ℕ) (real : c ≡ no_connection → ⊥) where
  abbrev e₀ : Entry
  e₀ = entry_of d c

  abbrev number_by : Header → Exchange → ℕ
  number_by h x = (step_row x).by_error h x.number_expected

  abbrev RowBy : Role → Scan → Exchange → Type 0
  RowBy r s x = counted r s x ≡ cond (eqb e₀.synchronous c) (with_number (number_by (header bs) x) x) x

  on_first : (a b s : Bool) → role_by a b s ≡ r_synchronous → s ≡ true
  on_first true true s q = cc
  on_first true false true q = refl
  on_first true false false q = cc
  on_first false b s q = cc

  not_first : (a b s : Bool) → role_by a b s ≡ r_asynchronous → s ≡ false
  not_first true true s q = cc
  not_first true false true q = cc
  not_first true false false q = refl
  not_first false b s q = cc

  headed : (h : Header) (x : Exchange) → role_of d.locks.entries c ≡ r_synchronous → header bs ≡ h → RowBy r_synchronous (Scan.long h) x
  headed h x er eh =
      ap (λ (k : Header). with_number (number_by k x) x) (sym eh)
      ∙ sym (ap (λ b. cond b (with_number (number_by (header bs) x) x) x)
      (on_first (live e₀) (eqb e₀.asynchronous no_connection) (eqb e₀.synchronous c) (sym (place_role d.locks.entries c) ∙ er)))

  no_session : role_of d.locks.entries c ≡ r_none → eqb e₀.synchronous c ≡ false
  no_session er = go (place_sound d.locks.entries c)
    where
      go : (is_on_connection c e₀ ≡ true) ⊎ (e₀ ≡ blank) → eqb e₀.synchronous c ≡ false
      go (inl h) = absurd (no_role d.locks.entries c er (slot_of d c) h)
      go (inr h) = ap (λ (e : Entry). eqb e.synchronous c) h ∙ ne_eqb no_connection c (λ z. real (sym z))

  numbered_row : (n : ℕ) (r : Role) (s : Scan) (x : Exchange) → scan (connection_at d.rest c).remainder bs ≡ s → role_of d.locks.entries c ≡ r →
      verdict r d (slot_of d c) s ≡ v_error n → RowBy r s x
  unfolding verdict
  numbered_row n r_synchronous (long h) x es er ev = headed h x er (long_scan _ bs h es)
  numbered_row n r_synchronous (whole h p) x es er ev = headed h x er (whole_scan _ bs h p es).0
  numbered_row n r_synchronous empty x es er ev = absurd (let y : ◌≡◌ {A = ℕ} 0 1 = cc in omega arith)
  numbered_row n r_synchronous few x es er ev = absurd (let y : ◌≡◌ {A = ℕ} 0 1 = cc in omega arith)
  numbered_row n r_synchronous wrong x es er ev = absurd (let y : ◌≡◌ {A = ℕ} 0 1 = cc in omega arith)
  numbered_row n r_synchronous (skipping k) x es er ev = absurd (let y : ◌≡◌ {A = ℕ} 0 1 = cc in omega arith)
  numbered_row n r_synchronous (part h) x es er ev = absurd (let y : ◌≡◌ {A = ℕ} 0 1 = cc in omega arith)
  numbered_row n r_asynchronous s x es er ev =
      sym (ap (λ b. cond b (with_number (number_by (header bs) x) x) x)
      (not_first (live e₀) (eqb e₀.asynchronous no_connection) (eqb e₀.synchronous c) (sym (place_role d.locks.entries c) ∙ er)))
  numbered_row n r_none s x es er ev = sym (ap (λ b. cond b (with_number (number_by (header bs) x) x) x) (no_session er))
  numbered_row n r_half_open empty x es er ev = absurd (let y : ◌≡◌ {A = ℕ} 0 1 = cc in omega arith)
  numbered_row n r_half_open few x es er ev = absurd (let y : ◌≡◌ {A = ℕ} 0 1 = cc in omega arith)
  numbered_row n r_half_open wrong x es er ev = absurd (let y : ◌≡◌ {A = ℕ} 0 1 = cc in omega arith)
  numbered_row n r_half_open (skipping k) x es er ev = absurd (let y : ◌≡◌ {A = ℕ} 0 1 = cc in omega arith)
  numbered_row n r_half_open (long h) x es er ev = absurd (let y : ◌≡◌ {A = ℕ} 0 1 = cc in omega arith)
  numbered_row n r_half_open (part h) x es er ev = absurd (let y : ◌≡◌ {A = ℕ} 0 1 = cc in omega arith)
  numbered_row n r_half_open (whole h p) x es er ev = absurd (let y : ◌≡◌ {A = ℕ} 0 1 = cc in omega arith)

module _ (d : Server) (c : ℕ) (bs : List ℕ) (room : ℕ) (real : c ≡ no_connection → ⊥) (opened : (connection_at d.rest c).is_open ≡ true) where
  abbrev Does : Plan → Type 0
  Does x = Local d (happened (delivery c bs room) x.reply (finish d x).frames) (finish d x)

  idle_local : (o : _) → Local d unmoved record { server = d; reply = took o 0 0; frames = [] }
  idle_local o = local_unmoved d (took o 0 0) (λ o k n e. cc)

  effect_local : (v : Verdict) (s : Scan) (r : Role) → scan (connection_at d.rest c).remainder bs ≡ s → role_of d.locks.entries c ≡ r →
      verdict r d (slot_of d c) s ≡ v → Does (effect v s r d (slot_of d c) c)
  unfolding effect verdict finish change grant_pass
  effect_local v_more s r es er ev = idle_local _
  effect_local v_held s r es er ev = idle_local _
  effect_local v_skipped s r es er ev =
      assemble d _ _ d.locks.entries [] (rest_skipped d c (size s) _ (kept_open _ (connection_at d.rest c) opened)) (locks_skipped d c (size s)) refl (λ o k n e. cc)
  effect_local v_ignored s r es er ev = local_unmoved d _ (λ o k n e. cc)
  effect_local (v_error x) s r es er ev =
      let z = error_scan r d (slot_of d c) s x ev in
      let y = exchange_at d.rest (slot_of d c) in
      assemble d _ _ d.locks.entries []
      (rest_error d c (header bs) _ (counted r s y) (with_code x)
      (kept_open _ (connection_at d.rest c) opened ∙ ap (λ (k : ℕ). with_remainder k (connection_at d.rest c))
      (scan_error (connection_at d.rest c).remainder bs s es z.0 z.1)) (numbered_row d c bs real x r s y es er ev))
      (locks_error d c (header bs) (with_code x))
      refl
      (λ o k n e. cc)
  effect_local (v_fatal x) s r es er ev =
      rw (fatal_heard x (live (entry_of d c)) (entry_of d c).synchronous c
      (cond (eqb (entry_of d c).asynchronous no_connection) [] ((entry_of d c).asynchronous ∷ [])) _)
      (local_closing d c real (with_code x) _ (λ o k n e. cc))
  effect_local v_closed s r es er ev = rw (none_heard (pass_over d.locks.clock (stay d c) (freed d c)).answers) (local_closing d c real silence _ (λ o k n e. cc))
  effect_local v_acts empty r es er ev = idle_local _
  effect_local v_acts few r es er ev = idle_local _
  effect_local v_acts wrong r es er ev = idle_local _
  effect_local v_acts (skipping x) r es er ev = idle_local _
  effect_local v_acts (long x) r es er ev = idle_local _
  effect_local v_acts (part x) r es er ev = idle_local _
  effect_local v_acts (whole h p) r es er ev = let w = whole_scan (connection_at d.rest c).remainder bs h p es in acts_local d c bs h p room w.0 w.2 r er ev

-- any call that is not refused
asked_same : (a : Asked) → number_asked a ≡ asked_number a
asked_same none = refl
asked_same (some n) = refl

number_same : (x : Exchange) → answer_number x ≡ number_sent x
unfolding answer_number
number_same x = go x.overlap
  where
    go : (b : Bool) → answer_number_in b x ≡ cond b x.count (asked_number x.asked)
    go true = refl
    go false = asked_same x.asked

type_same : (b : Bool) → answer_type b ≡ cond b 7 6
type_same true = refl
type_same false = refl

-- an answer names no session in its reply
done_none : (o : _) (k n : ℕ) → done ≡ took o k n → n ≡ 0
done_none o k n e = absurd (let y : ◌≡◌ {A = ℕ} 0 1 = cc in omega arith)

withheld_none : (o : _) (k n : ℕ) → withheld ≡ took o k n → n ≡ 0
withheld_none o k n e = absurd (let y : ◌≡◌ {A = ℕ} 0 1 = cc in omega arith)

plan_local : (d : Server) (e : Event) → refusal d e ≡ 0 → Local d (happened e (plan d e).reply (finish d (plan d e)).frames) (finish d (plan d e))
unfolding plan received finish change grant_pass answer_number refusal causes
plan_local d (opening c) q = assemble d _ _ d.locks.entries [] (rest_opening d c) (locks_opening d c) refl (λ o k n e. absurd (let y : ◌≡◌ {A = ℕ} 0 1 = cc in omega arith))
plan_local d (delivery c bs room) q =
    effect_local d c bs room (real_delivery d c bs room q) (not_off _ (uncaused (causes d (delivery c bs room)) refl q).1.1.0) _
    (scan (connection_at d.rest c).remainder bs) (role_of d.locks.entries c) refl refl refl
plan_local d (cut c room) q = local_closing d c (real_cut d c room q) silence done (λ o k n e. absurd (let y : ◌≡◌ {A = ℕ} 0 1 = cc in omega arith))
plan_local d (clock t room) q =
    assemble d _ _ d.locks.entries [] (rest_clock d t) (locks_clock d t)
    (ap (λ (fs : List Frame). fs ++ []) (refused_frames d.locks.entries (λ w. lib.Dec.leb w.deadline t) d.locks.waiting))
    (λ o k n e. absurd (let y : ◌≡◌ {A = ℕ} 0 1 = cc in omega arith))
plan_local d (answer n p end sh room) q = go (withholds d n end sh)
  where
    i : ℕ
    i = slot_of_number d.locks.entries n

    by : Bool → Plan
    by w =
        record {
          reply = cond w withheld done;
          rest = with_sensings (with_exchange d.rest i (cond w (interrupted (exchange_at d.rest i)) (answered_with end (exchange_at d.rest i))))
              (cond w d.rest.sensings (set d.rest.sensings i (sensed p (sensing_at d.rest i))));
          first = [];
          said = cond w (Acts.interruptions (at d.locks.entries i) (header sh).param)
              (frame_of (at d.locks.entries i).synchronous (answer_type end) 0 (answer_number (exchange_at d.rest i)) p ∷ service_after d n p);
          event = LockEvent.nothing;
        }

    go : (w : Bool) → Local d (happened (answer n p end sh room) (by w).reply (finish d (by w)).frames) (finish d (by w))
    go true = assemble d _ _ d.locks.entries [] (rest_withheld d n (header sh).param) (locks_withheld d n (header sh).param) refl withheld_none
    go false =
        assemble d _ _ d.locks.entries [] (rest_answer d n p end) (locks_answer d n p end)
        (ap (λ (fs : List Frame). fs ++ []) (ap₂ (λ (t x : ℕ). frame_of (at d.locks.entries i).synchronous t 0 x p ∷ service_after d n p) (type_same end) (number_same (exchange_at d.rest i))
        ∙ ap (λ (fs : List Frame). frame_of (at d.locks.entries i).synchronous (cond end 7 6) 0 (number_sent (exchange_at d.rest i)) p ∷ fs) (service_due d n p)))
        done_none
plan_local d (status b) q = assemble d _ _ d.locks.entries [] (rest_status d b) (locks_status d b) refl (λ o k n e. absurd (let y : ◌≡◌ {A = ℕ} 0 1 = cc in omega arith))
plan_local d (setting s) q = assemble d _ _ d.locks.entries [] (rest_setting d s) (locks_setting d s) refl (λ o k n e. absurd (let y : ◌≡◌ {A = ℕ} 0 1 = cc in omega arith))

-- any call
pub local_call : (d : Server) (e : Event) → Local d (at_call d e) (step d e)
unfolding step answered finish
local_call d e = go (refusal d e) refl
  where
    go : (k : ℕ) → refusal d e ≡ k → Local d (happened e (answered k d e).reply (answered k d e).frames) (answered k d e)
    go zero q = plan_local d e q
    go (suc k) q = local_unmoved d _ (λ o k n e. absurd (let y : ◌≡◌ {A = ℕ} 0 1 = cc in omega arith))

pub locality : (d : Server) (e : Event) → Locality d e
locality d e =
    record {
      local = local_call d e;
      silent = λ c bs room k n q. subst (λ (x : Event). (step d x).reply ≡ took closed k n →
          is_silence (heard 2 (step d x).frames) ≡ clients_fatal_error d c bs) (sym q) (closes_silently d c bs room k n);
    }

-- each call of a list, and the single fields after it
each_local : (es : List Event) (d : Server) → EachLocal d es
each_local [] d = tt
each_local (e ∷ es) d = (locality d e, each_local es (step d e).server)

read_off : {A : Type 0} (g : Server → A) (r : Single A) → ((d : Server) (e : Event) → g (step d e).server ≡ singly r (at_call d e) (g d)) →
    (es : List Event) (d : Server) → g (final d es) ≡ over_log r (log d es) (g d)
unfolding final log
read_off g r f [] d = refl
read_off g r f (e ∷ es) d = read_off g r f es (step d e).server ∙ ap (over_log r (log (step d e).server es)) (f d e)

pub exchange_slots : (es : List Event) (d : Server) → length (final d es).rest.exchanges ≡ length d.rest.exchanges
unfolding final
exchange_slots [] d = refl
exchange_slots (e ∷ es) d = exchange_slots es (step d e).server ∙ (local_call d e).exchange_slots

pub same_made : (es : List Event) (d : Server) → (final d es).rest.made ≡ d.rest.made
unfolding final
same_made [] d = refl
same_made (e ∷ es) d = same_made es (step d e).server ∙ (local_call d e).made ∙ never (at_call d e) d.rest.made
  where
    never : (h : Happening) (x : Making) → singly made_row h x ≡ x
    never unmoved x = refl
    never (Happening.connected c) x = refl
    never (disconnected c k) x = refl
    never (Happening.skipped_over c k) x = refl
    never (Happening.errored c h k) x = refl
    never (message_acted a) x = refl
    never (Happening.clock_read t) x = refl
    never (Happening.status_set b) x = refl
    never (Happening.setting_made s) x = refl
    never (Happening.answer_sent n p end) x = refl
    never (Happening.answer_withheld n m) x = refl

pub local_run : (d : Server) (es : List Event) → LocalRun d es
local_run d es =
    record {
      each = each_local es d;
      clock = read_off (λ (d : Server). d.locks.clock) clock_row (λ d e. (local_call d e).clock) es d;
      status = read_off (λ (d : Server). d.rest.status) status_row (λ d e. (local_call d e).status) es d;
      made = same_made es d;
      last_issued_lem = read_off (λ (d : Server). d.rest.last_issued) issued_row (λ d e. (local_call d e).last_issued_lem) es d;
      allowed = read_off (λ (d : Server). d.rest.allowed) allowed_row (λ d e. (local_call d e).allowed) es d;
      enable = read_off (λ (d : Server). d.rest.remote_local.enable) enable_row (λ d e. (local_call d e).enable) es d;
      lockout = read_off (λ (d : Server). d.rest.remote_local.lockout) lockout_row (λ d e. (local_call d e).lockout) es d;
      remote = read_off (λ (d : Server). d.rest.remote_local.remote) remote_row (λ d e. (local_call d e).remote) es d;
    }
