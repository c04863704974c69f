-- Locality of a message that acted, type by type.
use mathlib.Core.Path.{◌≡◌, refl, sym, ap, ap₂, ◌∙◌}
use mathlib.Core.Bool.{Bool, true, false, not, ◌&&◌, ◌||◌, cond}
use mathlib.Core.List.{List, [], ◌∷◌, ◌++◌, map}
use Prim.Native.Nat.{ℕ, suc, ◌+◌, ◌%◌, ◌^◌}
use native.Mathlib.Omega.{arith}
use lib.Dec.{eqb, ltb}
use lib.ListN.{set}
use Rattle.wire.specs.Field.{field, number}
use Rattle.wire.specs.declared.Header.{Header}
use Rattle.wire.specs.Frame.{Frame, frame_of}
use Rattle.wire.specs.Class.{one_of}
use Rattle.model.specs.Sizes.{session_limit, before_first}
use Rattle.model.specs.Lists.{is_nil, all, keep, tally}
use Rattle.model.specs.State.{Server, Rest, Entry, Waiting, Exchange, Kind, Kind.exclusive_lock, Kind.shared_lock, Standing.release_of, Asked, Asked.none}
use Rattle.model.specs.State.{Asked.some, at, blank, exchange_at, slot_of_number, with_exchange}
use Rattle.model.specs.Interface.{Outcome.acted, Reply.took}
use Rattle.model.specs.Place.{slot_of}
use Rattle.model.specs.Locks
use Rattle.model.specs.Locks.{Answer, give, no_exclusive, no_shared, is_due, grant_pass, change, settle}
use Rattle.model.specs.Exchange
use Rattle.model.specs.Exchange.{status_byte, available_at}
use Rattle.model.specs.Acts
use Rattle.model.specs.Acts.{Plan, holder}
use Rattle.model.specs.Step.{Result, finish, lock_frame}
use Rattle.model.specs.Happening.{Heard, Heard.silence, Heard.with_code, Action, Happening.message_acted, heard}
use Rattle.model.specs.LocalityReplies.{with16, holds_any, said_to, said_first, direct, answered_first, session_said}
use Rattle.model.specs.LocalityRows.{slot_acted, is_code, code_where, released_with, requests_left, looks_after}
use Rattle.model.specs.Locality.{Local}
use Rattle.claims.proofs.ReadOff.{each_of}
use Rattle.claims.proofs.Simulation.{due_by, due_at_lem, due_any_lem}
use Rattle.claims.proofs.Agreement.{frames_append}
use Rattle.claims.proofs.Closing.{pass_looks}
use Rattle.claims.proofs.LocalityLists.{row_message, row_kept, entry_row}
use Rattle.claims.proofs.LocalityParts.{RestPart, assemble}
use Rattle.claims.proofs.LocalityRest.{rest_touched, rest_kept, rest_flags, rest_enter}
use Rattle.claims.proofs.LocalityLocks.{locks_kept, locks_enter, locks_join, ended, grants_by, settle_frames, completes, locks_ended, pass_frames, refused_frames}

rmt : (b a : Bool) → (not b && a) ≡ cond b false a
rmt true a = refl
rmt false a = refl

status_same : (b : ℕ) (v : Bool) → status_byte b v ≡ with16 b v
status_same b true = omega arith
status_same b false = omega arith

held_same : (a : Bool) → ◌≡◌ {A = ℕ} (cond a 0 1) (cond (not a) 1 0)
held_same true = refl
held_same false = refl

holder_same : (e : Entry) → holder e ≡ holds_any e
holder_same e = go e.exclusive (is_nil e.shared)
  where
    go : (a b : Bool) → not (not a && b) ≡ (a || not b)
    go true b = refl
    go false b = refl

count_same : (es : List Entry) → tally holder es ≡ tally holds_any es
count_same [] = refl
count_same (e ∷ es) = ap₂ (λ (b : Bool) (n : ℕ). cond b (suc n) n) (holder_same e) (count_same es)

give_row : (p : List ℕ) (x : Entry) → give p x ≡ Locks.with_locks (cond (is_nil p) true x.exclusive) (cond (not (is_nil p)) p x.shared) x
give_row [] x = refl
give_row (y ∷ p) x = refl

-- a command after its test, with what it makes of what is asked: interrupted or not, with RMT-delivered or without
abbrev after_test : Bool → Exchange → Exchange
after_test b x = Exchange.with_expectation false (cond b (Exchange.interrupted x) x)

test_row : (b k : Bool) (x : Exchange) (f : Asked → Asked)
    → ◌≡◌ {A = Exchange} (Exchange.stepped (Exchange.with_answering (f (after_test b x).asked) (not k && (after_test b x).message_available) (after_test b x)))
    (Exchange.with_number ((x.number_expected + 2) % 2 ^ 32) (Exchange.with_expectation false (Exchange.with_answering (f (cond b none x.asked)) (cond (b || k) false x.message_available) x)))
test_row true true x f = refl
test_row true false x f = refl
test_row false true x f = refl
test_row false false x f = refl

module _ (d : Server) (c : ℕ) (h : Header) (p : List ℕ) where
  abbrev pub action : ℕ → ℕ → Heard → Action
  action t n q = record { connection = c; message = record { kind = t; code = h.code; param = h.param; payload = p }; session = n; told = q }

  abbrev pub num : ℕ
  num = (at d.locks.entries (slot_of d c)).number

  abbrev pub ours : Exchange
  ours = exchange_at d.rest (slot_of d c)

  -- RMT-delivered at a status query
  rmt_row : ◌≡◌ {A = Exchange} (Exchange.queried h.code ours)
      (Exchange.with_expectation (cond (eqb h.code 1) false ours.rmt_expected) (Exchange.with_answering ours.asked (cond (eqb h.code 1) false ours.message_available) ours))
  rmt_row = λ j. Exchange.with_expectation (rmt (eqb h.code 1) ours.rmt_expected j) (Exchange.with_answering ours.asked (rmt (eqb h.code 1) ours.message_available j) ours)

  -- message available at a status query, by the mode
  seen_row : (b : Bool) → Exchange.available_in b h ours
      ≡ cond b (ours.any_sent && not (eqb ((h.param + 2) % 2 ^ 32) ours.count)) (cond (eqb h.code 1) false ours.message_available)
  seen_row true = refl
  seen_row false = rmt (eqb h.code 1) ours.message_available

  abbrev pub LocalBy : ℕ → ℕ → Plan → Type 0
  LocalBy t n x = Local d (message_acted (action t n (heard 5 (finish d x).frames))) (finish d x)

  -- on the synchronous channel
  abbrev pub synchronously : ℕ → Plan
  synchronously t =
      record {
        reply = took acted (16 + h.len) num;
        rest = with_exchange d.rest (slot_of d c) (Acts.synchronous_exchange (Acts.synchronous_kind t) h ours);
        first = Acts.synchronous_first (Acts.synchronous_kind t) (at d.locks.entries (slot_of d c)) ours h;
        said = Acts.synchronous_said (Acts.synchronous_kind t) c h;
        event = Acts.synchronous_event (Acts.synchronous_kind t) (slot_of d c) h;
      }

  -- Data, DataEND, Trigger and a device clear: the last number becomes n, and a standing release whose number passes test t ends. Requests
  -- ws are left; gs is said first, then zs answered
  abbrev ending_by : List Frame → Locks.Due → List Waiting → ℕ → List Answer → Rest → List Frame → Result
  ending_by gs u ws n zs rest said =
      let x = Locks.completed u (Locks.with_waiting d.locks ws) (slot_of d c) n in
      let y = settle (is_due u) x.locks in
      record {
        server = record { locks = y.locks; rest = rest };
        reply = took acted (16 + h.len) num;
        frames = gs ++ (map lock_frame (zs ++ x.answers) ++ (said ++ map lock_frame y.answers));
      }

  ending_local : (gs : List Frame) (k : ℕ) (q : Heard) (t : ℕ → Bool) (ws : List Waiting) (n : ℕ) (zs : List Answer) (rest : Rest) (said : List Frame)
      → RestPart d (message_acted (action k num q)) rest
      → ((x : Entry) → (entry_row d.locks.clock).by_message (action k num q) x ≡ ended t n x)
      → slot_of d c ≡ slot_acted d.locks.entries (action k num q)
      → released_with (at d.locks.entries (slot_acted d.locks.entries (action k num q))) (action k num q) ≡ code_where t (at d.locks.entries (slot_of d c)).standing
      → requests_left d.locks.entries d.locks.clock (message_acted (action k num q)) d.locks.waiting ≡ ws
      → said_first d (message_acted (action k num q)) ≡ gs
      → answered_first d (message_acted (action k num q)) ≡ map lock_frame zs
      ++ said_to (code_where t (at d.locks.entries (slot_of d c)).standing) 5 ((at d.locks.entries (slot_of d c)).asynchronous ∷ [])
      → direct d (message_acted (action k num q)) ≡ said
      → ((o : _) (j m : ℕ) → took acted (16 + h.len) num ≡ took o j m → m ≡ session_said d (message_acted (action k num q)) m)
      → Local d (message_acted (action k num q)) (ending_by gs (due_by t (at d.locks.entries (slot_of d c)).standing) ws n zs rest said)
  ending_local gs k q t ws n zs rest said r row ei er ew eg ef es ss =
      let l = Locks.with_waiting d.locks ws in
      let i = slot_of d c in
      let s = (at d.locks.entries i).standing in
      let y = set d.locks.entries i (ended t n (at d.locks.entries i)) in
      let z = completes l i n t s refl in
      let b = is_code 1 (code_where t s) || is_code 2 (code_where t s) in
      let eb : looks_after d.locks.entries (message_acted (action k num q)) ≡ b = ap (λ (x : Heard). is_code 1 x || is_code 2 x) er in
      let left : settle (is_due (due_by t s)) (Locks.completed (due_by t s) l i n).locks ≡ settle b (Locks.with_entries l y) = ap₂ settle z.2 z.0 in
      assemble d _ (ending_by gs (due_by t s) ws n zs rest said) y (grants_by d.locks.clock b ws y) r
      (rw left (locks_ended d (action k num q) t n ws b row eb ew i ei y refl))
      (ap₂ ◌++◌ (sym eg) (ap₂ ◌++◌ (frames_append zs (Locks.completed (due_by t s) l i n).answers ∙ ap (λ (fs : List Frame). map lock_frame zs ++ fs) z.1 ∙ sym ef)
      (ap₂ ◌++◌ (sym es) (ap (λ (x : Locks.LockResult). map lock_frame x.answers) left ∙ settle_frames b (Locks.with_entries l y)))))
      ss

  -- what a command that interrupts says first
  abbrev says_first : List Frame
  says_first = cond (Exchange.out_of_turn h.code ours) (Acts.interruptions (at d.locks.entries (slot_of d c)) h.param) []

  commands_local : (k : ℕ) (q : Heard) (rest : Rest) → RestPart d (message_acted (action k num q)) rest → one_of (6 ∷ 7 ∷ 12 ∷ []) k ≡ true
      → Local d (message_acted (action k num q)) (ending_by says_first (Locks.due_at h.param (at d.locks.entries (slot_of d c)).standing) d.locks.waiting h.param [] rest [])
  commands_local k q rest r e =
      rw (due_at_lem h.param (at d.locks.entries (slot_of d c)).standing)
      (each_of
      (λ k. RestPart d (message_acted (action k num q)) rest →
      Local d (message_acted (action k num q)) (ending_by says_first (due_by (λ m. eqb m h.param) (at d.locks.entries (slot_of d c)).standing)
      d.locks.waiting h.param [] rest []))
      (6 ∷ 7 ∷ 12 ∷ []) (
        (λ r. ending_local says_first 6 q (λ m. eqb m h.param) d.locks.waiting h.param [] rest [] r (λ x. refl) refl refl refl refl refl refl (λ o j m e. cc)),
        (
          (λ r. ending_local says_first 7 q (λ m. eqb m h.param) d.locks.waiting h.param [] rest [] r (λ x. refl) refl refl refl refl refl refl (λ o j m e. cc)),
          ((λ r. ending_local says_first 12 q (λ m. eqb m h.param) d.locks.waiting h.param [] rest [] r (λ x. refl) refl refl refl refl refl refl (λ o j m e. cc)), tt),
        ),
      )
      k
      e
      r)

  local_6 : LocalBy 6 num (synchronously 6)
  unfolding finish change Acts.synchronous_exchange Acts.synchronous_said
  local_6 = commands_local 6 _ _ (rest_touched d (action 6 num _) refl refl refl (Acts.synchronous_exchange (Acts.synchronous_kind 6) h ours)
      (test_row (Exchange.out_of_turn h.code ours) (eqb h.code 1) ours (λ a. a))) refl

  local_7 : LocalBy 7 num (synchronously 7)
  unfolding finish change Acts.synchronous_exchange Acts.synchronous_said
  local_7 = commands_local 7 _ _ (rest_touched d (action 7 num _) refl refl refl (Acts.synchronous_exchange (Acts.synchronous_kind 7) h ours)
      (test_row (Exchange.out_of_turn h.code ours) (eqb h.code 1) ours (λ a. some h.param))) refl

  local_12 : LocalBy 12 num (synchronously 12)
  unfolding finish change Acts.synchronous_exchange Acts.synchronous_said
  local_12 = commands_local 12 _ _ (rest_touched d (action 12 num _) refl refl refl (Acts.synchronous_exchange (Acts.synchronous_kind 12) h ours)
      (test_row (Exchange.out_of_turn h.code ours) (eqb h.code 1) ours (λ a. some h.param))) refl

  local_8 : LocalBy 8 num (synchronously 8)
  unfolding finish change Acts.synchronous_exchange Acts.synchronous_said
  local_8 =
      assemble d _ (finish d (synchronously 8)) d.locks.entries []
      (rest_touched d (action 8 num _) refl refl refl (Acts.synchronous_exchange (Acts.synchronous_kind 8) h ours) refl)
      (locks_kept d (action 8 num _) refl refl refl refl refl refl refl)
      refl
      (λ o k n e. cc)

  pub local_synchronous : (t : ℕ) → one_of (6 ∷ 7 ∷ 8 ∷ 12 ∷ []) t ≡ true → LocalBy t num (synchronously t)
  local_synchronous t e = each_of (λ t. LocalBy t num (synchronously t)) (6 ∷ 7 ∷ 8 ∷ 12 ∷ []) (local_6, (local_7, (local_8, (local_12, tt)))) t e

  -- on the asynchronous channel
  abbrev pub asynchronously : ℕ → Plan
  asynchronously t =
      record {
        reply = took acted (16 + h.len) num;
        rest = Acts.asynchronous_rest (Acts.asynchronous_kind t) d.rest (slot_of d c) h p;
        first = [];
        said = Acts.asynchronous_said (Acts.asynchronous_kind t) d (slot_of d c) c h;
        event = Acts.asynchronous_event (Acts.asynchronous_kind t) (slot_of d c) h p;
      }

  local_10 : ltb 6 h.code ≡ false → LocalBy 10 num (asynchronously 10)
  unfolding finish change Acts.asynchronous_rest Acts.asynchronous_said Acts.asynchronous_event
  local_10 l =
      assemble d _ (finish d (asynchronously 10)) d.locks.entries []
      (rest_flags d (action 10 num _) refl l)
      (locks_kept d (action 10 num _) refl refl refl refl refl refl refl)
      refl
      (λ o k n e. cc)

  local_15 : LocalBy 15 num (asynchronously 15)
  unfolding finish change Acts.asynchronous_rest Acts.asynchronous_said Acts.asynchronous_event field
  local_15 =
      assemble d _ (finish d (asynchronously 15)) d.locks.entries []
      (rest_touched d (action 15 num _) refl refl refl (Exchange.with_client_size (number p) ours) refl)
      (locks_kept d (action 15 num _) refl refl refl refl refl refl refl)
      refl
      (λ o k n e. cc)

  local_19 : LocalBy 19 num (asynchronously 19)
  unfolding finish change Acts.asynchronous_rest Acts.asynchronous_said Acts.asynchronous_event
  local_19 =
      let i = slot_of d c in
      rw (due_any_lem (at d.locks.entries (slot_of d c)).standing)
      (ending_local [] 19 _ (λ m. true) (keep (Locks.elsewhere i) d.locks.waiting) before_first
      (Locks.refuse d.locks.entries (Locks.elsewhere i) d.locks.waiting) _ (frame_of c 23 (Acts.preference d) 0 [] ∷ [])
      (rest_touched d (action 19 num _) refl refl refl (Exchange.enter_clear ours) refl)
      (λ x. refl)
      refl
      refl
      refl
      refl
      (ap (λ (fs : List Frame). fs ++ said_to (code_where (λ m. true) (at d.locks.entries i).standing) 5 ((at d.locks.entries i).asynchronous ∷ []))
      (sym (refused_frames d.locks.entries (λ w. eqb w.slot i) d.locks.waiting)))
      refl
      (λ o j m e. cc))

  local_21 : LocalBy 21 num (asynchronously 21)
  unfolding finish change Acts.asynchronous_rest Acts.asynchronous_said Acts.asynchronous_event available_at
  local_21 =
      assemble d _ (finish d (asynchronously 21)) d.locks.entries []
      (rest_touched d (action 21 num _) refl refl refl (Exchange.queried h.code ours) rmt_row)
      (locks_kept d (action 21 num _) refl refl refl refl refl refl refl)
      (ap (λ b. frame_of c 22 b 0 [] ∷ []) (ap (status_byte d.rest.status) (seen_row ours.overlap)
      ∙ status_same d.rest.status (cond ours.overlap (ours.any_sent && not (eqb ((h.param + 2) % 2 ^ 32) ours.count))
      (cond (eqb h.code 1) false ours.message_available))))
      (λ o k n e. cc)

  local_24 : LocalBy 24 num (asynchronously 24)
  unfolding finish change Acts.asynchronous_rest Acts.asynchronous_said Acts.asynchronous_event
  local_24 =
      assemble d _ (finish d (asynchronously 24)) d.locks.entries []
      (rest_kept d (action 24 num _) refl refl (λ x. refl))
      (locks_kept d (action 24 num _) refl refl refl refl refl refl refl)
      (ap₂ (λ (a n : ℕ). frame_of c 25 a n [] ∷ []) (held_same (all no_exclusive d.locks.entries)) (count_same d.locks.entries))
      (λ o k n e. cc)

  -- AsyncLock. An answer goes to the connection that the message came on
  module _ (mine : (at d.locks.entries (slot_of d c)).asynchronous ≡ c) where
    abbrev es : List Entry
    es = d.locks.entries

    -- a release, by what becomes of it
    abbrev after_release : Locks.Releasing → Locks.LockResult
    after_release u = Locks.released u d.locks (slot_of d c) h.param

    abbrev releasing : Locks.Releasing → Result
    releasing u =
        let y = settle (Locks.frees_now u) (after_release u).locks in
        record {
          server = record { locks = y.locks; rest = d.rest };
          reply = took acted (16 + h.len) num;
          frames = map lock_frame (after_release u).answers ++ map lock_frame y.answers;
        }

    abbrev ReleasedBy : Locks.Releasing → Type 0
    ReleasedBy u = Local d (message_acted (action 4 num (heard 5 (releasing u).frames))) (releasing u)

    freed_now : eqb h.code 0 ≡ true → (k : Kind) → ReleasedBy (Locks.r_now k)
    unfolding grant_pass
    freed_now q exclusive_lock =
        let y = Locks.update es (slot_of d c) Locks.without_exclusive in
        assemble d _ (releasing (Locks.r_now exclusive_lock)) y (pass_looks d.locks.clock d.locks.waiting y).grants
        (rest_kept d (action 4 num (with_code 1)) refl refl (λ x. refl))
        record {
          clock = refl;
          rows = row_message blank (entry_row d.locks.clock) es es (action 4 num (with_code 1)) (slot_of d c) _ refl (rw q);
          look = rw q (pass_looks d.locks.clock d.locks.waiting y).looked;
        }
        (ap₂ (λ (a : ℕ) (fs : List Frame). frame_of a 5 1 0 [] ∷ fs) mine (pass_frames d.locks.clock d.locks.waiting y))
        (λ o k n e. cc)
    freed_now q shared_lock =
        let y = Locks.update es (slot_of d c) Locks.without_shared in
        assemble d _ (releasing (Locks.r_now shared_lock)) y (pass_looks d.locks.clock d.locks.waiting y).grants
        (rest_kept d (action 4 num (with_code 2)) refl refl (λ x. refl))
        record {
          clock = refl;
          rows = row_message blank (entry_row d.locks.clock) es es (action 4 num (with_code 2)) (slot_of d c) _ refl (rw q);
          look = rw q (pass_looks d.locks.clock d.locks.waiting y).looked;
        }
        (ap₂ (λ (a : ℕ) (fs : List Frame). frame_of a 5 2 0 [] ∷ fs) mine (pass_frames d.locks.clock d.locks.waiting y))
        (λ o k n e. cc)

    not_freed : eqb h.code 0 ≡ true → ReleasedBy Locks.r_invalid
    not_freed q =
        assemble d _ (releasing Locks.r_invalid) es []
        (rest_kept d (action 4 num (with_code 3)) refl refl (λ x. refl))
        record { clock = refl; rows = row_kept blank (entry_row d.locks.clock) es es (action 4 num (with_code 3)) (λ x. rw q); look = rw q (refl, refl, refl) }
        (ap (λ (a : ℕ). frame_of a 5 3 0 [] ∷ []) mine)
        (λ o k n e. cc)

    stands_on : eqb h.code 0 ≡ true → (k : Kind) → cond (at es (slot_of d c)).exclusive exclusive_lock shared_lock ≡ k → ReleasedBy (Locks.r_stands k)
    stands_on q k ek =
        assemble d _ (releasing (Locks.r_stands k)) (Locks.update es (slot_of d c) (λ e. Locks.with_order e.last (release_of k h.param) e)) []
        (rest_kept d (action 4 num silence) refl refl (λ x. refl))
        record {
          clock = refl;
          rows = row_message blank (entry_row d.locks.clock) es es (action 4 num silence) (slot_of d c) _ refl (rw (q, ek));
          look = rw q (refl, refl, refl);
        }
        refl
        (λ o k n e. cc)

    released_by : eqb h.code 0 ≡ true → (t x s b : Bool) → (at es (slot_of d c)).exclusive ≡ x → ReleasedBy (Locks.releasing t x s b)
    released_by q true x s b ex = not_freed q
    released_by q false true s true ex = freed_now q exclusive_lock
    released_by q false true s false ex = stands_on q exclusive_lock (rw ex)
    released_by q false false false true ex = freed_now q shared_lock
    released_by q false false false false ex = stands_on q shared_lock (rw ex)
    released_by q false false true b ex = not_freed q

    -- a request, by its ruling
    abbrev after_request : Locks.Ruling → Locks.LockResult
    after_request u = Locks.respond u d.locks (slot_of d c) h.param p

    abbrev requesting : Locks.Ruling → Result
    requesting u =
        record {
          server = record { locks = (after_request u).locks; rest = d.rest };
          reply = took acted (16 + h.len) num;
          frames = map lock_frame (after_request u).answers ++ [];
        }

    requested_by : eqb h.code 0 ≡ false → (u : Locks.Ruling) → Local d (message_acted (action 4 num (heard 5 (requesting u).frames))) (requesting u)
    requested_by q Locks.invalid =
        assemble d _ (requesting Locks.invalid) es []
        (rest_kept d (action 4 num (with_code 3)) refl refl (λ x. refl))
        record { clock = refl; rows = row_kept blank (entry_row d.locks.clock) es es (action 4 num (with_code 3)) (λ x. rw q); look = rw q (refl, refl, refl) }
        (ap (λ (a : ℕ). frame_of a 5 3 0 [] ∷ []) mine)
        (λ o k n e. cc)
    requested_by q Locks.granted =
        assemble d _ (requesting Locks.granted) (Locks.grant d.locks.clock es (slot_of d c) p) []
        (rest_kept d (action 4 num (with_code 1)) refl refl (λ x. refl))
        record {
          clock = refl;
          rows = row_message blank (entry_row d.locks.clock) es es (action 4 num (with_code 1)) (slot_of d c) _ refl
              (rw q (ap (Locks.note_grant d.locks.clock) (give_row p (at es (slot_of d c)))));
          look = rw q (refl, refl, refl);
        }
        (ap (λ (a : ℕ). frame_of a 5 1 0 [] ∷ []) mine)
        (λ o k n e. cc)
    requested_by q Locks.denied =
        assemble d _ (requesting Locks.denied) es []
        (rest_kept d (action 4 num (with_code 0)) refl refl (λ x. refl))
        record { clock = refl; rows = row_kept blank (entry_row d.locks.clock) es es (action 4 num (with_code 0)) (λ x. rw q); look = rw q (refl, refl, refl) }
        (ap (λ (a : ℕ). frame_of a 5 0 0 [] ∷ []) mine)
        (λ o k n e. cc)
    requested_by q Locks.queued =
        assemble d _ (requesting Locks.queued) es []
        (rest_kept d (action 4 num silence) refl refl (λ x. refl))
        record { clock = refl; rows = row_kept blank (entry_row d.locks.clock) es es (action 4 num silence) (λ x. rw q); look = rw q (refl, refl, refl) }
        refl
        (λ o k n e. cc)

    local_4 : LocalBy 4 num (asynchronously 4)
    unfolding finish change Acts.asynchronous_rest Acts.asynchronous_said Acts.asynchronous_event
    local_4 = go (eqb h.code 0) refl
      where
        by : Bool → Plan
        by b = record { reply = took acted (16 + h.len) num; rest = d.rest; first = []; said = []; event = Acts.lock_event b (slot_of d c) h p }

        go : (b : Bool) → eqb h.code 0 ≡ b → LocalBy 4 num (by b)
        go true q = released_by q (Locks.stands (at es (slot_of d c)).standing) (at es (slot_of d c)).exclusive (no_shared (at es (slot_of d c))) (eqb (at es (slot_of d c)).last h.param) refl
        go false q =
            requested_by
            q
            (Locks.ruling (Locks.holds p (at es (slot_of d c))) (all (Locks.elsewhere (slot_of d c)) d.locks.waiting) (Locks.invalid_by p (at es (slot_of d c)))
            (Locks.may_grant es (slot_of d c) p) (eqb h.param 0 || Locks.no_place d.locks.waiting))

    pub local_asynchronous : (t : ℕ) → one_of (4 ∷ 10 ∷ 15 ∷ 19 ∷ 21 ∷ 24 ∷ []) t ≡ true → (eqb t 10 && ltb 6 h.code) ≡ false → LocalBy t num (asynchronously t)
    local_asynchronous t e =
        each_of
        (λ t. (eqb t 10 && ltb 6 h.code) ≡ false → LocalBy t num (asynchronously t))
        (4 ∷ 10 ∷ 15 ∷ 19 ∷ 21 ∷ 24 ∷ [])
        ((λ q. local_4), ((λ q. local_10 q), ((λ q. local_15), ((λ q. local_19), ((λ q. local_21), ((λ q. local_24), tt))))))
        t
        e

  -- on a connection without a role: Initialize, with the number that it issues, and AsyncInitialize
  abbrev pub issued_now : ℕ
  issued_now = Locks.issued session_limit 0 d.locks.entries d.rest.last_issued

  pub local_0 : LocalBy 0 issued_now (Acts.opens true d c h)
  unfolding finish change
  local_0 =
      assemble d _ (finish d (Acts.opens true d c h)) (set d.locks.entries (slot_of_number d.locks.entries 0) (Locks.opened issued_now c)) []
      (rest_enter d (action 0 issued_now _) refl)
      (locks_enter d (action 0 issued_now _) refl)
      refl
      (λ o k n e. refl)

  pub local_17 : (at d.locks.entries (slot_of_number d.locks.entries h.param)).number ≡ h.param → LocalBy 17 h.param (Acts.opens false d c h)
  unfolding finish change
  local_17 f =
      assemble d _ (finish d (Acts.opens false d c h)) (Locks.update d.locks.entries (slot_of_number d.locks.entries h.param) (Locks.joined c)) []
      (rest_kept d (action 17 h.param _) refl refl (λ x. refl))
      (locks_join d (action 17 h.param _) refl)
      refl
      (λ o k n e. cc)
