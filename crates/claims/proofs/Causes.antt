-- Which call makes which lock event, walked once. Whatever Q is: if it holds of the mild events, of every release, command and device clear
-- that acts, and of every closing, it holds of the event of every call that is not refused.
use mathlib.Core.Path.{◌≡◌, refl, ap, ◌∙◌}
use mathlib.Core.Bool.{Bool, true, false, not, ◌&&◌, ◌||◌, cond}
use mathlib.Core.List.{List, [], ◌∷◌, ◌++◌, map}
use Prim.Native.Nat.{ℕ}
use native.Mathlib.Omega.{arith}
use lib.Dec.{eqb}
use borrow.Author.Tests.{eqb-true, eq-eqb}
use Rattle.wire.specs.declared.Header.{Header}
use Rattle.wire.specs.Message.{header}
use Rattle.wire.specs.Frame.{Frame}
use Rattle.wire.specs.Class.{one_of}
use Rattle.model.specs.MessageTypes.{AsyncLock, AsyncDeviceClear, commands}
use Rattle.model.specs.Lists.{all, any}
use Rattle.model.specs.State.{Rest, Server, connection_at}
use Rattle.model.specs.Interface.{Event, Event.opening, Event.delivery, Event.cut, Event.clock, Event.answer, Event.status, Event.setting, Outcome.acted, Reply.took}
use Rattle.model.specs.Scan.{Scan, Scan.empty, Scan.few, Scan.wrong, Scan.skipping, Scan.long, Scan.part, Scan.whole, scan}
use Rattle.model.specs.Place.{slot_of, Role, Role.r_none, Role.r_half_open, Role.r_synchronous, Role.r_asynchronous, role_of}
use Rattle.model.specs.Locks
use Rattle.model.specs.Locks.{LockEvent, Answer, change, settle, frees}
use Rattle.model.specs.Checks.{Verdict, Verdict.v_more, Verdict.v_skipped, Verdict.v_held, Verdict.v_ignored, Verdict.v_closed, Verdict.v_acts, Verdict.v_error, Verdict.v_fatal}
use Rattle.model.specs.Acts
use Rattle.model.specs.Refusals.{refusal}
use Rattle.model.specs.Step.{Result, effect, received, plan, answered, finish, step, lock_frame}
use Rattle.model.specs.Closing.{Closes, Closes.by_cut, Closes.by_delivery}
use Rattle.model.specs.Standing.{is_answer_to}
use Rattle.claims.proofs.Scanning.{whole_scan}

-- the type of a lock message
lock_kind : (a b c e f : Bool) → cond a Acts.k_lock (cond b Acts.k_remote_local
    (cond c Acts.k_maximum_size (cond e Acts.k_device_clear (cond f Acts.k_status_query Acts.k_lock_info)))) ≡ Acts.k_lock → a ≡ true
lock_kind true b c e f q = refl
lock_kind false true c e f q = cc
lock_kind false false true e f q = cc
lock_kind false false false true f q = cc
lock_kind false false false false true q = cc
lock_kind false false false false false q = cc

is_lock_lem : (t : ℕ) → Acts.asynchronous_kind t ≡ Acts.k_lock → t ≡ 4
is_lock_lem t q = eqb-true t 4 (lock_kind (eqb t 4) (eqb t 10) (eqb t 15) (eqb t 19) (eqb t 21) q)

clear_kind : (a b c e f : Bool) → cond a Acts.k_lock (cond b Acts.k_remote_local
    (cond c Acts.k_maximum_size (cond e Acts.k_device_clear (cond f Acts.k_status_query Acts.k_lock_info)))) ≡ Acts.k_device_clear → e ≡ true
clear_kind true b c e f q = cc
clear_kind false true c e f q = cc
clear_kind false false true e f q = cc
clear_kind false false false true f q = refl
clear_kind false false false false true q = cc
clear_kind false false false false false q = cc

is_clear : (t : ℕ) → Acts.asynchronous_kind t ≡ Acts.k_device_clear → eqb t AsyncDeviceClear ≡ true
is_clear t q = clear_kind (eqb t 4) (eqb t 10) (eqb t 15) (eqb t 19) (eqb t 21) q

command_kind : (a b c : Bool) → (cond a Acts.k_data (cond b Acts.k_data_end (cond c Acts.k_trigger Acts.k_clear_complete)) ≡ Acts.k_clear_complete → ⊥) → (a || (b || (c || false))) ≡ true
command_kind true b c n = refl
command_kind false true c n = refl
command_kind false false true n = refl
command_kind false false false n = absurd (n refl)

is_command_lem : (t : ℕ) → (Acts.synchronous_kind t ≡ Acts.k_clear_complete → ⊥) → one_of commands t ≡ true
is_command_lem t n = command_kind (eqb t 6) (eqb t 7) (eqb t 12) n

-- events that are no release, command, clear or closing
abbrev pub Mild : LockEvent → Type 0
Mild Locks.nothing = Unit {0}
Mild (Locks.enter i n c) = Unit {0}
Mild (Locks.join i c) = Unit {0}
Mild (Locks.request i t k) = Unit {0}
Mild (Locks.release i n) = ⊥
Mild (Locks.command i n) = ⊥
Mild (Locks.clear i) = ⊥
Mild (Locks.close i) = ⊥
Mild (Locks.reading t) = Unit {0}

-- a message that acted, with event x
pub record Acted (d : Server) (c : ℕ) (bs : List ℕ) (room : ℕ) (x : LockEvent) : Type 0 where
  pub rest : Rest
  pub first : List Frame
  pub said : List Frame
  pub taken : ℕ
  pub number : ℕ
  pub does : step d (delivery c bs room) ≡ finish d (record { reply = took acted taken number; rest = rest; first = first; said = said; event = x })

-- its reply; and where its event's lock answers end with one of a code to a connection, such a frame is sent
pub acted_reply : {d : Server} {c : ℕ} {bs : List ℕ} {room : ℕ} {x : LockEvent} (a : Acted d c bs room x) → (step d (delivery c bs room)).reply ≡ took acted a.taken a.number
unfolding finish
acted_reply a = ap (λ (r : Result). r.reply) a.does

sent_answer : (n x : ℕ) (gs : List Frame) (xs : List Answer) (a : Answer) (fs : List Frame) → a.to ≡ x → a.code ≡ n → any (is_answer_to n x) (gs ++ (map lock_frame (xs ++ a ∷ []) ++ fs)) ≡ true
sent_answer n x gs xs a fs et ec = ap not (behind gs)
  where
    and_false : (b : Bool) → (b && false) ≡ false
    and_false true = refl
    and_false false = refl

    none : (xs : List Answer) → all (λ f. not (is_answer_to n x f)) (map lock_frame (xs ++ a ∷ []) ++ fs) ≡ false
    none [] = rw (eq-eqb a.code n ec, eq-eqb a.to x et)
    none (y ∷ ys) = rw (none ys) (and_false (not (is_answer_to n x (lock_frame y))))

    behind : (gs : List Frame) → all (λ f. not (is_answer_to n x f)) (gs ++ (map lock_frame (xs ++ a ∷ []) ++ fs)) ≡ false
    behind [] = none xs
    behind (g ∷ gs) = rw (behind gs) (and_false (not (is_answer_to n x g)))

pub acted_sends : {d : Server} {c : ℕ} {bs : List ℕ} {room : ℕ} {x : LockEvent} → Acted d c bs room x → (n y : ℕ) (xs : List Answer) (a : Answer) →
    (change d.locks x).answers ≡ xs ++ a ∷ [] → a.to ≡ y → a.code ≡ n
    → any (is_answer_to n y) (step d (delivery c bs room)).frames ≡ true
unfolding finish
acted_sends {d = d} {x = x} m n y xs a q et ec =
    ap (λ (r : Result). any (is_answer_to n y) r.frames) m.does
    ∙ ap (λ ys. any (is_answer_to n y) (m.first ++ (map lock_frame ys ++ (m.said ++ map lock_frame (settle (frees d.locks x) (change d.locks x).locks).answers)))) q
    ∙ sent_answer n y m.first xs a _ et ec

module _
    (d : Server)
    (Q : Event → LockEvent → Type 0)
    (mild : (e : Event) (x : LockEvent) → Mild x → Q e x)
    (on-release : (c : ℕ) (bs : List ℕ) (room : ℕ) (h : Header) → header bs ≡ h → h.kind ≡ AsyncLock → eqb h.code 0 ≡ true →
    Acted d c bs room (LockEvent.release (slot_of d c) h.param) → Q (delivery c bs room) (LockEvent.release (slot_of d c) h.param))
    (on-command : (c : ℕ) (bs : List ℕ) (room : ℕ) (h : Header) → header bs ≡ h → one_of commands h.kind ≡ true →
    Acted d c bs room (LockEvent.command (slot_of d c) h.param) → Q (delivery c bs room) (LockEvent.command (slot_of d c) h.param))
    (on-clear : (c : ℕ) (bs : List ℕ) (room : ℕ) (h : Header) → header bs ≡ h → eqb h.kind AsyncDeviceClear ≡ true →
    Acted d c bs room (LockEvent.clear (slot_of d c)) → Q (delivery c bs room) (LockEvent.clear (slot_of d c)))
    (on-closing : (e : Event) (c : ℕ) → Closes d e c → Q e (LockEvent.close (slot_of d c)))
  where
    opens_cause : (b : Bool) (c : ℕ) (h : Header) (e : Event) → Q e (Acts.opens b d c h).event
    opens_cause true c h e = mild e _ tt
    opens_cause false c h e = mild e _ tt

    module _ (c : ℕ) (bs : List ℕ) (room : ℕ) where
      abbrev e₀ : Event
      e₀ = delivery c bs room

      lock_cause : (b : Bool) (h : Header) (p : List ℕ) → eqb h.code 0 ≡ b → header bs ≡ h → h.kind ≡ AsyncLock →
          Acted d c bs room (Acts.lock_event b (slot_of d c) h p) → Q e₀ (Acts.lock_event b (slot_of d c) h p)
      lock_cause false h p eb eh t a = mild e₀ _ tt
      lock_cause true h p eb eh t a = on-release c bs room h eh t eb a

      async_cause : (k : Acts.AsynchronousKind) (h : Header) (p : List ℕ) → Acts.asynchronous_kind h.kind ≡ k → header bs ≡ h →
          Acted d c bs room (Acts.asynchronous_event k (slot_of d c) h p) → Q e₀ (Acts.asynchronous_event k (slot_of d c) h p)
      unfolding Acts.asynchronous_event
      async_cause Acts.k_lock h p ek eh a = lock_cause (eqb h.code 0) h p refl eh (is_lock_lem h.kind ek) a
      async_cause Acts.k_remote_local h p ek eh a = mild e₀ _ tt
      async_cause Acts.k_maximum_size h p ek eh a = mild e₀ _ tt
      async_cause Acts.k_device_clear h p ek eh a = on-clear c bs room h eh (is_clear h.kind ek) a
      async_cause Acts.k_status_query h p ek eh a = mild e₀ _ tt
      async_cause Acts.k_lock_info h p ek eh a = mild e₀ _ tt

      sync_cause : (k : Acts.SynchronousKind) (h : Header) → Acts.synchronous_kind h.kind ≡ k → header bs ≡ h →
          Acted d c bs room (Acts.synchronous_event k (slot_of d c) h) → Q e₀ (Acts.synchronous_event k (slot_of d c) h)
      sync_cause Acts.k_data h ek eh a = on-command c bs room h eh (is_command_lem h.kind (λ q. let z : ◌≡◌ {A = ℕ} 0 1 = cc in omega arith)) a
      sync_cause Acts.k_data_end h ek eh a = on-command c bs room h eh (is_command_lem h.kind (λ q. let z : ◌≡◌ {A = ℕ} 0 1 = cc in omega arith)) a
      sync_cause Acts.k_trigger h ek eh a = on-command c bs room h eh (is_command_lem h.kind (λ q. let z : ◌≡◌ {A = ℕ} 0 1 = cc in omega arith)) a
      sync_cause Acts.k_clear_complete h ek eh a = mild e₀ _ tt

      acts_cause : (r : Role) (h : Header) (p : List ℕ) → header bs ≡ h → step d e₀ ≡ finish d (Acts.acts r d (slot_of d c) c h p) → Q e₀ (Acts.acts r d (slot_of d c) c h p).event
      unfolding Acts.acts
      acts_cause r_none h p eh q = opens_cause (eqb h.kind 0) c h e₀
      acts_cause r_half_open h p eh q = mild e₀ _ tt
      acts_cause r_synchronous h p eh q = sync_cause (Acts.synchronous_kind h.kind) h refl eh (record { rest = _; first = _; said = _; taken = _; number = _; does = q })
      acts_cause r_asynchronous h p eh q = async_cause (Acts.asynchronous_kind h.kind) h p refl eh (record { rest = _; first = _; said = _; taken = _; number = _; does = q })

      effect_cause : (v : Verdict) (s : Scan) (r : Role) → scan (connection_at d.rest c).remainder bs ≡ s →
          step d e₀ ≡ finish d (effect v s r d (slot_of d c) c) → Q e₀ (effect v s r d (slot_of d c) c).event
      unfolding effect finish
      effect_cause v_more s r es q = mild e₀ _ tt
      effect_cause v_held s r es q = mild e₀ _ tt
      effect_cause v_skipped s r es q = mild e₀ _ tt
      effect_cause v_ignored s r es q = mild e₀ _ tt
      effect_cause (v_error x) s r es q = mild e₀ _ tt
      effect_cause (v_fatal x) s r es q = on-closing e₀ c (by_delivery c bs room _ _ (ap (λ (x : Result). x.reply) q))
      effect_cause v_closed s r es q = on-closing e₀ c (by_delivery c bs room _ _ (ap (λ (x : Result). x.reply) q))
      effect_cause v_acts empty r es q = mild e₀ _ tt
      effect_cause v_acts few r es q = mild e₀ _ tt
      effect_cause v_acts wrong r es q = mild e₀ _ tt
      effect_cause v_acts (skipping x) r es q = mild e₀ _ tt
      effect_cause v_acts (long x) r es q = mild e₀ _ tt
      effect_cause v_acts (part x) r es q = mild e₀ _ tt
      effect_cause v_acts (whole h p) r es q = acts_cause r h p (whole_scan _ bs h p es).0 q

    pub plan_cause : (e : Event) → refusal d e ≡ 0 → Q e (plan d e).event
    unfolding plan received step answered
    plan_cause (opening c) z = mild _ _ tt
    plan_cause (delivery c bs room) z =
        effect_cause c bs room _ (scan (connection_at d.rest c).remainder bs) (role_of d.locks.entries c) refl (ap (λ n. answered n d (delivery c bs room)) z)
    plan_cause (cut c room) z = on-closing (cut c room) c (by_cut c room z)
    plan_cause (clock t room) z = mild _ _ tt
    plan_cause (answer n p end sh room) z = mild _ _ tt
    plan_cause (status b) z = mild _ _ tt
    plan_cause (setting s) z = mild _ _ tt
