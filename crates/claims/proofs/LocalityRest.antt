-- Locality of all but the locks: what each kind of call leaves of the exchanges, the connections and the single fields.
use mathlib.Core.Path.{◌≡◌, refl, sym, ap, ◌∙◌}
use mathlib.Core.Bool.{Bool, true, false, not, ◌&&◌, ◌||◌, cond, true≢false}
use mathlib.Core.List.{List, [], ◌∷◌}
use mathlib.Core.Logic.{◌⊎◌, inl, inr}
use Prim.Native.Nat.{ℕ, zero, suc, ◌+◌, ◌<◌, ◌≤◌}
use native.Mathlib.Omega.{arith}
use lib.Dec.{eqb, ltb}
use lib.ListN.{get_or, set, length, length-set}
use borrow.Author.Tests.{eqb-true, eq-eqb, ltb-false}
use Rattle.wire.specs.declared.Header.{Header}
use Rattle.wire.specs.Message.{header, prologue}
use Rattle.wire.specs.Class.{one_of}
use Rattle.readings.specs.Watch.{Limits}
use Rattle.readings.specs.Payload.{Noticed, noticed, watched, stepped, readings_of}
use Rattle.readings.specs.Some.{tripped_some}
use Rattle.readings.specs.Request.{request_code}
use Rattle.model.specs.Sizes.{no_connection, payload_limit}
use Rattle.model.specs.State.{Server, Entry, Exchange, Connection, RemoteLocal, at, live, blank, fresh_exchange, open_exchange, closed_connection, open_connection}
use Rattle.model.specs.State.{exchange_at, connection_at, slot_of_number, with_connection, with_exchange, with_remote_local, with_session, with_status, Sensing}
use Rattle.model.specs.State.{fresh_sensing, sensing_at, with_sensing}
use Rattle.model.specs.Place.{slot_of, entry_of, is_on_connection}
use Rattle.model.specs.Scan.{Scan, sorted, fresh_scan, scan, size, leftover}
use Rattle.model.specs.Exchange
use Rattle.model.specs.Exchange.{controlled}
use Rattle.model.specs.Step.{channels, shut_all, closing}
use Rattle.model.specs.Happening.{Heard, Action, Happening, Happening.unmoved, Happening.connected, Happening.disconnected, Happening.skipped_over}
use Rattle.model.specs.Happening.{Happening.errored, Happening.message_acted, Happening.clock_read, Happening.status_set, Happening.answer_sent}
use Rattle.model.specs.Happening.{Happening.answer_withheld, Happening.setting_made}
use Rattle.model.specs.LocalityRows.{kind_of, concerns, connections_of, Single, singly, status_row, made_row, allowed_row, issued_row, enable_row, lockout_row, remote_row, trips_by, noted_all}
use Rattle.model.specs.Sensing.{armed, sensed, requested, service_after, setting_sensings, setting_rest}
use Rattle.model.specs.LocalityReplies.{service_to}
use Rattle.model.specs.Interface.{Setting, Setting.watch, Setting.patterns}
use Rattle.model.specs.Acts.{say}
use Rattle.model.proofs.Basics.{or→, or_of, or_r}
use Rattle.model.proofs.Place.{place_sound}
use Rattle.claims.proofs.LocalityLists.{set_at, touch, row_message, row_kept, exchange_row, connection_way}
use Rattle.claims.proofs.LocalityParts.{Singles, RestPart}

-- what stands once changes by messages, clock readings, status changes and settings alone
abbrev Still : Happening → Type 0
Still unmoved = Unit {0}
Still (connected c) = Unit {0}
Still (disconnected c k) = Unit {0}
Still (skipped_over c k) = Unit {0}
Still (errored c h k) = Unit {0}
Still (message_acted a) = ⊥
Still (clock_read t) = ⊥
Still (status_set b) = ⊥
Still (setting_made s) = ⊥
Still (answer_sent n p end) = Unit {0}
Still (answer_withheld n m) = Unit {0}

as_it_was : {A : Type 0} (r : Single A) (h : Happening) (x : A) → Still h → x ≡ singly r h x
as_it_was r unmoved x s = refl
as_it_was r (connected c) x s = refl
as_it_was r (disconnected c k) x s = refl
as_it_was r (skipped_over c k) x s = refl
as_it_was r (errored c h k) x s = refl
as_it_was r (message_acted a) x s = absurd s
as_it_was r (clock_read t) x s = absurd s
as_it_was r (status_set b) x s = absurd s
as_it_was r (setting_made u) x s = absurd s
as_it_was r (answer_sent n p end) x s = refl
as_it_was r (answer_withheld n m) x s = refl

singles_still : (d : Server) (h : Happening) → Still h → Singles d h d.rest.status d.rest.made d.rest.last_issued d.rest.remote_local d.rest.allowed
singles_still d h s =
    record {
      status = as_it_was status_row h d.rest.status s;
      made = as_it_was made_row h d.rest.made s;
      last_issued_lem = as_it_was issued_row h d.rest.last_issued s;
      enable = as_it_was enable_row h d.rest.remote_local.enable s;
      lockout = as_it_was lockout_row h d.rest.remote_local.lockout s;
      remote = as_it_was remote_row h d.rest.remote_local.remote s;
      allowed = as_it_was allowed_row h d.rest.allowed s;
    }

-- calls that leave all of it
pub rest_unmoved : (d : Server) → RestPart d unmoved d.rest
rest_unmoved d =
    record {
      singles = singles_still d unmoved tt;
      exchanges = record { size = refl; each = λ i l. refl };
      sensings = record { size = refl; each = λ i l. refl };
      connections = record { size = refl; each = λ x l. refl };
    }

pub rest_clock : (d : Server) (t : ℕ) → RestPart d (clock_read t) d.rest
rest_clock d t =
    record {
      singles = record { status = refl; made = refl; last_issued_lem = refl; enable = refl; lockout = refl; remote = refl; allowed = refl };
      exchanges = record { size = refl; each = λ i l. refl };
      sensings = record { size = refl; each = λ i l. refl };
      connections = record { size = refl; each = λ x l. refl };
    }

pub rest_status : (d : Server) (b : ℕ) → RestPart d (status_set b) (with_status d.rest b)
rest_status d b =
    record {
      singles = record { status = refl; made = refl; last_issued_lem = refl; enable = refl; lockout = refl; remote = refl; allowed = refl };
      exchanges = record { size = refl; each = λ i l. refl };
      sensings = record { size = refl; each = λ i l. refl };
      connections = record { size = refl; each = λ x l. refl };
    }

answered_row : (b end : Bool) (x : Exchange) → Exchange.answered_with end x ≡ (exchange_row b).by_answer end x
answered_row b true x = refl
answered_row b false x = refl

-- 02, Q-11: the readings of an answer, all at once
abbrev sensed_due : List ℕ → Sensing → Sensing
sensed_due p s = record { watch = s.watch; tripped = s.tripped || trips_by p s; recorded = noted_all (readings_of p) s.recorded }

noted_all_lem : (l : Limits) (o : Noticed) (bs : List ℕ) → (watched l o bs).recorded ≡ noted_all bs o.recorded
unfolding watched stepped
noted_all_lem l o [] = refl
noted_all_lem l o (b ∷ bs) = noted_all_lem l (stepped l o b) bs

sensed_due_lem : (p : List ℕ) (s : Sensing) → sensed p s ≡ sensed_due p s
unfolding sensed
sensed_due_lem p s = λ j. record {
  watch = s.watch;
  tripped = tripped_some s.watch (noticed s.recorded s.tripped) (readings_of p) j;
  recorded = noted_all_lem s.watch (noticed s.recorded s.tripped) (readings_of p) j;
}

-- the first trip since the watch was set
first_trip : (t u : Bool) → (not t && (t || u)) ≡ (not t && u)
first_trip true u = refl
first_trip false u = refl

pub service_due : (d : Server) (n : ℕ) (p : List ℕ) → service_after d n p ≡ service_to (at d.locks.entries (slot_of_number d.locks.entries n))
    (sensing_at d.rest (slot_of_number d.locks.entries n)) p d.rest.status
unfolding requested
service_due d n p =
    let i = slot_of_number d.locks.entries n in
    let s = sensing_at d.rest i in
    ap (λ (t : Bool). cond t (say (at d.locks.entries i).asynchronous 20 (request_code d.rest.status) 0) [])
    (ap (λ (x : Sensing). not s.tripped && x.tripped) (sensed_due_lem p s) ∙ first_trip s.tripped (trips_by p s))

-- what the host sets
pub rest_setting : (d : Server) (x : Setting) → RestPart d (setting_made x) (setting_rest d x)
unfolding setting_sensings
rest_setting d (watch n l) =
    let i = slot_of_number d.locks.entries n in
    record {
      singles = record { status = refl; made = refl; last_issued_lem = refl; enable = refl; lockout = refl; remote = refl; allowed = refl };
      exchanges = record { size = refl; each = λ i l. refl };
      sensings = record { size = length-set d.rest.sensings i _; each = λ j q. touch d.rest.sensings i (armed l) _ fresh_sensing j q refl };
      connections = record { size = refl; each = λ x l. refl };
    }
rest_setting d (patterns text) =
    record {
      singles = record { status = refl; made = refl; last_issued_lem = refl; enable = refl; lockout = refl; remote = refl; allowed = refl };
      exchanges = record { size = refl; each = λ i l. refl };
      sensings = record { size = refl; each = λ j q. refl };
      connections = record { size = refl; each = λ x l. refl };
    }

pub rest_answer : (d : Server) (n : ℕ) (p : List ℕ) (end : Bool) →
    RestPart d (answer_sent n p end)
    (with_sensing (with_exchange d.rest (slot_of_number d.locks.entries n)
    (Exchange.answered_with end (exchange_at d.rest (slot_of_number d.locks.entries n)))) (slot_of_number d.locks.entries n)
    (sensed p (sensing_at d.rest (slot_of_number d.locks.entries n))))
rest_answer d n p end =
    let i = slot_of_number d.locks.entries n in
    record {
      singles = singles_still d (answer_sent n p end) tt;
      exchanges =
          record {
            size = length-set d.rest.exchanges i _;
            each = λ j l. touch d.rest.exchanges i ((exchange_row d.rest.made.prefers_overlap).by_answer end) _ fresh_exchange j l
                (answered_row d.rest.made.prefers_overlap end (exchange_at d.rest i));
          };
      sensings = record { size = length-set d.rest.sensings i _; each = λ j l. touch d.rest.sensings i (sensed_due p) _ fresh_sensing j l (sensed_due_lem p (sensing_at d.rest i)) };
      connections = record { size = refl; each = λ x l. refl };
    }

-- 02, Q-5: one that is withheld
pub rest_withheld : (d : Server) (n m : ℕ) → RestPart d (answer_withheld n m)
    (with_exchange d.rest (slot_of_number d.locks.entries n) (Exchange.interrupted (exchange_at d.rest (slot_of_number d.locks.entries n))))
rest_withheld d n m =
    let i = slot_of_number d.locks.entries n in
    record {
      singles = singles_still d (answer_withheld n m) tt;
      exchanges = record {
        size = length-set d.rest.exchanges i _;
        each = λ j l. touch d.rest.exchanges i (exchange_row d.rest.made.prefers_overlap).when_withheld _ fresh_exchange j l refl;
      };
      sensings = record { size = refl; each = λ i l. refl };
      connections = record { size = refl; each = λ x l. refl };
    }

-- connections
pub rest_opening : (d : Server) (c : ℕ) → RestPart d (connected c) (with_connection d.rest c (open_connection 0))
rest_opening d c =
    record {
      singles = singles_still d (connected c) tt;
      exchanges = record { size = refl; each = λ i l. refl };
      sensings = record { size = refl; each = λ i l. refl };
      connections = record { size = length-set d.rest.connections c _; each = λ x l. set_at d.rest.connections c (open_connection 0) closed_connection x l };
    }

pub rest_skipped : (d : Server) (c k : ℕ) (z : Connection) → z ≡ connection_way.by_skip k (connection_at d.rest c) → RestPart d (skipped_over c k) (with_connection d.rest c z)
rest_skipped d c k z e =
    record {
      singles = singles_still d (skipped_over c k) tt;
      exchanges = record { size = refl; each = λ i l. refl };
      sensings = record { size = refl; each = λ i l. refl };
      connections =
          record {
            size = length-set d.rest.connections c _;
            each = λ x l. touch d.rest.connections c (connection_way.by_skip k) z closed_connection x l e;
          };
    }

-- an Error leaves a remainder just where the length is above 1,024, and moves the number expected of a session on its synchronous connection
pub rest_error : (d : Server) (c : ℕ) (h : Header) (z : Connection) (y : Exchange) (k : Heard) → z ≡ connection_way.by_error h (connection_at d.rest c)
    → y ≡ cond (eqb (entry_of d c).synchronous c) ((exchange_row d.rest.made.prefers_overlap).by_error h (exchange_at d.rest (slot_of d c))) (exchange_at d.rest (slot_of d c))
    → RestPart d (errored c h k) (with_connection (with_exchange d.rest (slot_of d c) y) c z)
rest_error d c h z y k e ey =
    record {
      singles = singles_still d (errored c h k) tt;
      exchanges =
          record {
            size = length-set d.rest.exchanges (slot_of d c) y;
            each = λ i l. touch d.rest.exchanges (slot_of d c) g y fresh_exchange i l ey ∙ here i (eqb i (slot_of d c)) refl (exchange_at d.rest i);
          };
      sensings = record { size = refl; each = λ i l. refl };
      connections =
          record {
            size = length-set d.rest.connections c _;
            each = λ x l. touch d.rest.connections c (connection_way.by_error h) z closed_connection x l e;
          };
    }
  where
    moves : Exchange → Exchange
    moves x = (exchange_row d.rest.made.prefers_overlap).by_error h x

    g : Exchange → Exchange
    g x = cond (eqb (entry_of d c).synchronous c) (moves x) x

    here : (i : ℕ) (b : Bool) → eqb i (slot_of d c) ≡ b → (x : Exchange) → cond b (g x) x ≡ cond (b && eqb (at d.locks.entries i).synchronous c) (moves x) x
    here i true q x = ap (λ (j : ℕ). cond (eqb (at d.locks.entries j).synchronous c) (moves x) x) (sym (eqb-true i (slot_of d c) q))
    here i false q x = refl

fresh_error : (bs : List ℕ) (s : Scan) → fresh_scan bs ≡ s → (size s ≡ 0 → ⊥) → leftover s ≡ cond (ltb 1024 (header bs).len) (header bs).len 0
unfolding fresh_scan
fresh_error bs s e z = go (ltb (length bs) 16) (prologue bs) (ltb payload_limit n) (ltb (length bs) (16 + n)) refl e
  where
    n : ℕ
    n = (header bs).len

    go : (a b c f : Bool) → ltb payload_limit n ≡ c → sorted a b c f bs (header bs) ≡ s → leftover s ≡ cond (ltb 1024 (header bs).len) (header bs).len 0
    go true b c f ec e = absurd (z (sym (ap size e)))
    go false false c f ec e = absurd (z (sym (ap size e)))
    go false true true f ec e = sym (ap leftover e) ∙ sym (ap (λ b. cond b (header bs).len 0) ec)
    go false true false true ec e = absurd (z (sym (ap size e)))
    go false true false false ec e = sym (ap leftover e) ∙ sym (ap (λ b. cond b (header bs).len 0) ec)

-- the remainder that a message leaves that is not skipped
pub scan_error : (r : ℕ) (bs : List ℕ) (s : Scan) → scan r bs ≡ s → (size s ≡ 0 → ⊥) → ((k : ℕ) → s ≡ Scan.skipping k → ⊥) → leftover s ≡ cond (ltb 1024 (header bs).len) (header bs).len r
unfolding scan
scan_error r [] s e z n = absurd (z (sym (ap size e)))
scan_error zero (b ∷ bs) s e z n = fresh_error (b ∷ bs) s e z
scan_error (suc r) (b ∷ bs) s e z n = absurd (n _ (sym e))

-- a closing
shut_at : (cs : List Connection) (xs : List ℕ) (x : ℕ) → x < length cs → get_or (shut_all cs xs) x closed_connection ≡ cond (one_of xs x) closed_connection (get_or cs x closed_connection)
shut_at cs [] x l = refl
shut_at cs (y ∷ ys) x l =
    shut_at (set cs y closed_connection) ys x (rw (length-set cs y closed_connection) l)
    ∙ ap (cond (one_of ys x) closed_connection) (set_at cs y closed_connection closed_connection x l)
    ∙ either (eqb x y) (one_of ys x) (get_or cs x closed_connection)
  where
    either : (a b : Bool) (z : Connection) → cond b closed_connection (cond a closed_connection z) ≡ cond (a || b) closed_connection z
    either true true z = refl
    either true false z = refl
    either false b z = refl

shut_size : (cs : List Connection) (xs : List ℕ) → length (shut_all cs xs) ≡ length cs
shut_size cs [] = refl
shut_size cs (y ∷ ys) = shut_size (set cs y closed_connection) ys ∙ length-set cs y closed_connection

module _ (d : Server) (c : ℕ) (real : c ≡ no_connection → ⊥) where
  abbrev e : Entry
  e = entry_of d c

  own : (x : ℕ) → live e ≡ true → eqb x c ≡ true → one_of (connections_of e) x ≡ true
  own x v q = go (place_sound d.locks.entries c)
    where
      second : e.asynchronous ≡ c → (b : Bool) → eqb e.asynchronous no_connection ≡ b → one_of (cond b [] (e.asynchronous ∷ [])) x ≡ true
      second s true f = absurd (real (sym s ∙ eqb-true e.asynchronous no_connection f))
      second s false f = or_of (eqb x e.asynchronous) false (eq-eqb x e.asynchronous (eqb-true x c q ∙ sym s))

      on : (eqb e.synchronous c ≡ true) ⊎ (eqb e.asynchronous c ≡ true) → one_of (connections_of e) x ≡ true
      on (inl s) = or_of (eqb x e.synchronous) (one_of (cond (eqb e.asynchronous no_connection) [] (e.asynchronous ∷ [])) x)
          (eq-eqb x e.synchronous (eqb-true x c q ∙ sym (eqb-true e.synchronous c s)))
      on (inr s) = or_r (eqb x e.synchronous) (one_of (cond (eqb e.asynchronous no_connection) [] (e.asynchronous ∷ [])) x)
          (second (eqb-true e.asynchronous c s) (eqb e.asynchronous no_connection) refl)

      go : (is_on_connection c e ≡ true) ⊎ (e ≡ blank) → one_of (connections_of e) x ≡ true
      go (inl h) = on (or→ (eqb e.synchronous c) _ (rw v at h))
      go (inr h) = absurd (true≢false (sym v ∙ ap live h))

  concerned : (x : ℕ) → one_of (channels d c) x ≡ concerns d.locks.entries c x
  concerned x = go (live e) refl
    where
      covered : (a b : Bool) → (a ≡ true → b ≡ true) → b ≡ (a || b)
      covered true b f = f refl
      covered false b f = refl

      go : (b : Bool) → live e ≡ b → one_of (cond b (connections_of e) (c ∷ [])) x ≡ (eqb x c || (b && one_of (connections_of e) x))
      go true v = covered (eqb x c) (one_of (connections_of e) x) (own x v)
      go false v = refl

  pub rest_closing : (k : Heard) → RestPart d (disconnected c k) (closing d c)
  rest_closing k =
      record {
        singles = singles_still d (disconnected c k) tt;
        exchanges = record { size = length-set d.rest.exchanges (slot_of d c) fresh_exchange; each = λ i l. set_at d.rest.exchanges (slot_of d c) fresh_exchange fresh_exchange i l };
        sensings = record { size = length-set d.rest.sensings (slot_of d c) fresh_sensing; each = λ i l. set_at d.rest.sensings (slot_of d c) fresh_sensing fresh_sensing i l };
        connections =
            record {
              size = shut_size d.rest.connections (channels d c);
              each = λ x l. shut_at d.rest.connections (channels d c) x l ∙ ap (λ b. cond b closed_connection (connection_at d.rest x)) (concerned x);
            };
      }

-- a message that acted, of a session: of the single fields the flags alone, by type 10
module _ (d : Server) (a : Action) (q0 : eqb (kind_of a) 0 ≡ false) where
  no_singles : eqb (kind_of a) 10 ≡ false → Singles d (message_acted a) d.rest.status d.rest.made d.rest.last_issued d.rest.remote_local d.rest.allowed
  no_singles q = record { status = refl; made = refl; last_issued_lem = rw q0; enable = rw q; lockout = rw q; remote = rw q; allowed = refl }

  -- one that changes its session's exchange
  pub rest_touched : eqb (kind_of a) 17 ≡ false → eqb (kind_of a) 10 ≡ false → (y : Exchange) →
      y ≡ (exchange_row d.rest.made.prefers_overlap).by_message a (exchange_at d.rest (slot_of d a.connection))
      → RestPart d (message_acted a) (with_exchange d.rest (slot_of d a.connection) y)
  rest_touched q17 q10 y e =
      record {
        singles = no_singles q10;
        exchanges = row_message fresh_exchange (exchange_row d.rest.made.prefers_overlap) d.locks.entries d.rest.exchanges a (slot_of d a.connection) y (rw (q0, q17)) e;
        sensings = record { size = refl; each = λ i l. refl };
        connections = record { size = refl; each = λ x l. refl };
      }

  -- one that changes nothing here
  pub rest_kept : eqb (kind_of a) 10 ≡ false → ((x : Exchange) → (exchange_row d.rest.made.prefers_overlap).by_message a x ≡ x) → RestPart d (message_acted a) d.rest
  rest_kept q10 f =
      record {
        singles = no_singles q10;
        exchanges = row_kept fresh_exchange (exchange_row d.rest.made.prefers_overlap) d.locks.entries d.rest.exchanges a f;
        sensings = record { size = refl; each = λ i l. refl };
        connections = record { size = refl; each = λ x l. refl };
      }

-- 01: codes 0 and 2 clear all three; 1 sets enable; 3 sets enable and remote; 4 enable and lockout; 5 all; 6 clears remote
abbrev flag_due : List ℕ → List ℕ → ℕ → Bool → Bool
flag_due ons offs k b = cond (one_of ons k) true (cond (one_of offs k) false b)

abbrev flags_due : ℕ → RemoteLocal → RemoteLocal
flags_due k r =
    record {
      enable = flag_due (1 ∷ 3 ∷ 4 ∷ 5 ∷ []) (0 ∷ 2 ∷ []) k r.enable;
      lockout = flag_due (4 ∷ 5 ∷ []) (0 ∷ 2 ∷ []) k r.lockout;
      remote = flag_due (3 ∷ 5 ∷ []) (0 ∷ 2 ∷ 6 ∷ []) k r.remote;
    }

flags_due_lem : (k : ℕ) (r : RemoteLocal) → k ≤ 6 → controlled k r ≡ flags_due k r
unfolding controlled
flags_due_lem zero r l = refl
flags_due_lem (suc zero) r l = refl
flags_due_lem (suc (suc zero)) r l = refl
flags_due_lem (suc (suc (suc zero))) r l = refl
flags_due_lem (suc (suc (suc (suc zero)))) r l = refl
flags_due_lem (suc (suc (suc (suc (suc zero))))) r l = refl
flags_due_lem (suc (suc (suc (suc (suc (suc zero)))))) r l = refl
flags_due_lem (suc (suc (suc (suc (suc (suc (suc k))))))) r l = absurd (omega arith)

pub rest_flags : (d : Server) (a : Action) → kind_of a ≡ 10 → ltb 6 a.message.code ≡ false →
    RestPart d (message_acted a) (with_remote_local d.rest (controlled a.message.code d.rest.remote_local))
rest_flags d a e l =
    let f = flags_due_lem a.message.code d.rest.remote_local (ltb-false _ _ l) in
    record {
      singles =
          record {
            status = refl;
            made = refl;
            last_issued_lem = rw e;
            enable = rw e (ap (λ (x : RemoteLocal). x.enable) f);
            lockout = rw e (ap (λ (x : RemoteLocal). x.lockout) f);
            remote = rw e (ap (λ (x : RemoteLocal). x.remote) f);
            allowed = refl;
          };
      exchanges = row_kept fresh_exchange (exchange_row d.rest.made.prefers_overlap) d.locks.entries d.rest.exchanges a (λ x. rw e);
      sensings = record { size = refl; each = λ i l. refl };
      connections = record { size = refl; each = λ x l. refl };
    }

-- Initialize: a fresh exchange in the first free slot, and the number issued
pub rest_enter : (d : Server) (a : Action) → kind_of a ≡ 0 → RestPart d (message_acted a) (with_session d.rest (slot_of_number d.locks.entries 0) a.session)
rest_enter d a e =
    record {
      singles = record { status = refl; made = refl; last_issued_lem = rw e; enable = rw e; lockout = rw e; remote = rw e; allowed = refl };
      exchanges = row_message fresh_exchange (exchange_row d.rest.made.prefers_overlap) d.locks.entries d.rest.exchanges a
          (slot_of_number d.locks.entries 0) (open_exchange d.rest.made.prefers_overlap) (rw e) (rw e);
      sensings = record { size = refl; each = λ i l. refl };
      connections = record { size = refl; each = λ x l. refl };
    }
