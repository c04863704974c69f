-- Locality of the locks: what each lock event and its look leave of the slots and of the requests, and what they answer.
use mathlib.Core.Path.{◌≡◌, refl, sym, ap, ◌∙◌}
use mathlib.Core.Bool.{Bool, true, false, not, ◌&&◌, ◌||◌, cond}
use mathlib.Core.List.{List, [], ◌∷◌, map}
use Prim.Native.Nat.{ℕ}
use lib.Dec.{eqb}
use lib.ListN.{set, length-set}
use Rattle.wire.specs.declared.Header.{Header}
use Rattle.wire.specs.Frame.{Frame}
use Rattle.model.specs.Lists.{keep}
use Rattle.model.specs.State.{Server, Locks, Entry, Waiting, Kind.exclusive_lock, Kind.shared_lock, Standing, Standing.no_release, Standing.release_of, at, blank, slot_of_number}
use Rattle.model.specs.Place.{slot_of}
use Rattle.model.specs.Locks
use Rattle.model.specs.Locks.{with_locks, with_order, tell, refuse, unexpired, elsewhere, is_due, pass_over, grant_pass, settle}
use Rattle.model.specs.Step.{lock_frame}
use Rattle.model.specs.Happening.{Heard, Action, Happening.unmoved, Happening.connected, Happening.disconnected, Happening.skipped_over, Happening.errored}
use Rattle.model.specs.Happening.{Happening.message_acted, Happening.clock_read, Happening.status_set, Happening.setting_made, Happening.answer_sent}
use Rattle.model.specs.Happening.{Happening.answer_withheld}
use Rattle.model.specs.LocalityRows.{kind_of, slot_acted, is_code, is_silence, code_where, requests_left, looks_after}
use Rattle.model.specs.LocalityReplies.{said_to, waiting_answer}
use Rattle.model.specs.Locality.{Look}
use Rattle.model.specs.Interface.{Setting}
use Rattle.claims.proofs.Simulation.{due_by}
use Rattle.claims.proofs.Closing.{told, pass_looks}
use Rattle.claims.proofs.LocalityLists.{set_at, same_both, row_message, row_kept, entry_row}
use Rattle.claims.proofs.LocalityParts.{LocksPart}

-- calls that leave the locks
module _ (d : Server) where
  pub locks_unmoved : LocksPart d unmoved d.locks d.locks.entries []
  locks_unmoved = record { clock = refl; rows = record { size = refl; each = λ i l. refl }; look = (refl, refl, refl) }

  pub locks_opening : (c : ℕ) → LocksPart d (connected c) d.locks d.locks.entries []
  locks_opening c = record { clock = refl; rows = record { size = refl; each = λ i l. refl }; look = (refl, refl, refl) }

  pub locks_skipped : (c k : ℕ) → LocksPart d (skipped_over c k) d.locks d.locks.entries []
  locks_skipped c k = record { clock = refl; rows = record { size = refl; each = λ i l. refl }; look = (refl, refl, refl) }

  pub locks_error : (c : ℕ) (h : Header) (k : Heard) → LocksPart d (errored c h k) d.locks d.locks.entries []
  locks_error c h k =
      record {
        clock = refl;
        rows = record { size = refl; each = λ i l. sym (same_both (eqb i (slot_of d c) && eqb (at d.locks.entries i).synchronous c) (at d.locks.entries i) (at d.locks.entries i) refl) };
        look = (refl, refl, refl);
      }

  pub locks_status : (b : ℕ) → LocksPart d (status_set b) d.locks d.locks.entries []
  locks_status b = record { clock = refl; rows = record { size = refl; each = λ i l. refl }; look = (refl, refl, refl) }

  pub locks_setting : (s : Setting) → LocksPart d (setting_made s) d.locks d.locks.entries []
  locks_setting s = record { clock = refl; rows = record { size = refl; each = λ i l. refl }; look = (refl, refl, refl) }

  pub locks_answer : (n : ℕ) (p : List ℕ) (end : Bool) → LocksPart d (answer_sent n p end) d.locks d.locks.entries []
  locks_answer n p end =
      record {
        clock = refl;
        rows = record { size = refl; each = λ i l. sym (same_both (eqb i (slot_of_number d.locks.entries n)) (at d.locks.entries i) (at d.locks.entries i) refl) };
        look = (refl, refl, refl);
      }

  pub locks_withheld : (n m : ℕ) → LocksPart d (answer_withheld n m) d.locks d.locks.entries []
  locks_withheld n m =
      record {
        clock = refl;
        rows = record { size = refl; each = λ i l. sym (same_both (eqb i (slot_of_number d.locks.entries n)) (at d.locks.entries i) (at d.locks.entries i) refl) };
        look = (refl, refl, refl);
      }

  pub locks_clock : (t : ℕ) → LocksPart d (clock_read t) record { clock = t; entries = d.locks.entries; waiting = keep (unexpired t) d.locks.waiting } d.locks.entries []
  locks_clock t = record { clock = refl; rows = record { size = refl; each = λ i l. refl }; look = (refl, refl, refl) }

  -- a message that is neither Initialize nor AsyncInitialize, AsyncLock, AsyncDeviceClear, Data, DataEND, Trigger
  pub locks_kept : (a : Action) → eqb (kind_of a) 0 ≡ false → eqb (kind_of a) 4 ≡ false → eqb (kind_of a) 17 ≡ false → eqb (kind_of a) 19 ≡ false →
      eqb (kind_of a) 6 ≡ false → eqb (kind_of a) 7 ≡ false → eqb (kind_of a) 12 ≡ false
      → LocksPart d (message_acted a) d.locks d.locks.entries []
  locks_kept a q0 q4 q17 q19 q6 q7 q12 =
      record {
        clock = refl;
        rows = row_kept blank (entry_row d.locks.clock) d.locks.entries d.locks.entries a (λ x. rw (q0, q4, q17, q19, q6, q7, q12));
        look = rw (q4, q19, q6, q7, q12) (refl, refl, refl);
      }

-- answers, as frames
pub told_frames : (es : List Entry) (gs : List Waiting) → map lock_frame (map (told es) gs) ≡ map (waiting_answer 1 es) gs
told_frames es [] = refl
told_frames es (w ∷ gs) = ap (λ (fs : List Frame). waiting_answer 1 es w ∷ fs) (told_frames es gs)

pub pass_frames : (now : ℕ) (ws : List Waiting) (es : List Entry) → map lock_frame (pass_over now ws es).answers ≡ map (waiting_answer 1 es) (pass_looks now ws es).grants
pass_frames now ws es = ap (map lock_frame) (pass_looks now ws es).answers ∙ told_frames es (pass_looks now ws es).grants

pub refused_frames : (es : List Entry) (q : Waiting → Bool) (ws : List Waiting) → map lock_frame (refuse es (λ w. not (q w)) ws) ≡ map (waiting_answer 0 es) (keep q ws)
refused_frames es q [] = refl
refused_frames es q (w ∷ ws) = go (q w) (refused_frames es q ws)
  where
    go : (b : Bool) → map lock_frame (refuse es (λ w. not (q w)) ws) ≡ map (waiting_answer 0 es) (keep q ws)
        → map lock_frame (cond (not b) (refuse es (λ w. not (q w)) ws) (tell es w.slot 0 true ∷ refuse es (λ w. not (q w)) ws)) ≡ map (waiting_answer 0 es) (cond b (w ∷ keep q ws) (keep q ws))
    go true h = ap (λ (fs : List Frame). waiting_answer 0 es w ∷ fs) h
    go false h = h

-- a closing
module _ (d : Server) (c : ℕ) where
  abbrev pub freed : List Entry
  freed = set d.locks.entries (slot_of d c) blank

  abbrev pub stay : List Waiting
  stay = keep (elsewhere (slot_of d c)) d.locks.waiting

  pub locks_closing : (k : Heard)
      → LocksPart d (disconnected c k) record {
        clock = d.locks.clock;
        entries = (pass_over d.locks.clock stay freed).entries;
        waiting = (pass_over d.locks.clock stay freed).waiting;
      } freed (pass_looks d.locks.clock stay freed).grants
  locks_closing k =
      record {
        clock = refl;
        rows = record { size = length-set d.locks.entries (slot_of d c) blank; each = λ i l. set_at d.locks.entries (slot_of d c) blank blank i l };
        look = (pass_looks d.locks.clock stay freed).looked;
      }

-- a session begins, and gets its second connection
pub locks_enter : (d : Server) (a : Action) → kind_of a ≡ 0
    → LocksPart d (message_acted a) (Locks.with_entries d.locks
    (set d.locks.entries (slot_of_number d.locks.entries 0) (Locks.opened a.session a.connection)))
    (set d.locks.entries (slot_of_number d.locks.entries 0) (Locks.opened a.session a.connection)) []
locks_enter d a e =
    record {
      clock = refl;
      rows = row_message blank (entry_row d.locks.clock) d.locks.entries d.locks.entries a (slot_of_number d.locks.entries 0) _ (rw e) (rw e);
      look = rw e (refl, refl, refl);
    }

pub locks_join : (d : Server) (a : Action) → kind_of a ≡ 17
    → LocksPart d (message_acted a) (Locks.with_entries d.locks
    (Locks.update d.locks.entries (slot_of_number d.locks.entries a.message.param) (Locks.joined a.connection)))
    (Locks.update d.locks.entries (slot_of_number d.locks.entries a.message.param) (Locks.joined a.connection)) []
locks_join d a e =
    record {
      clock = refl;
      rows = row_message blank (entry_row d.locks.clock) d.locks.entries d.locks.entries a (slot_of_number d.locks.entries a.message.param) _ (rw e) (rw e);
      look = rw e (refl, refl, refl);
    }

-- what a message leaves of its session that is the last with number n, and ends a standing release whose number passes test t
abbrev pub ended : (ℕ → Bool) → ℕ → Entry → Entry
ended t n x =
    let r = code_where t x.standing in
    with_order n (cond (not (is_silence r)) no_release x.standing) (with_locks (cond (is_code 1 r) false x.exclusive) (cond (is_code 2 r) [] x.shared) x)

-- whom the look after it grants, if there is one
abbrev pub grants_by : ℕ → Bool → List Waiting → List Entry → List Waiting
grants_by now true ws es = (pass_looks now ws es).grants
grants_by now false ws es = []

pub settle_frames : (b : Bool) (l : Locks) → map lock_frame (settle b l).answers ≡ map (waiting_answer 1 l.entries) (grants_by l.clock b l.waiting l.entries)
unfolding grant_pass
settle_frames true l = pass_frames l.clock l.waiting l.entries
settle_frames false l = refl

settle_looks : (b : Bool) (l : Locks) → Look l.clock b l.entries l.waiting (settle b l).locks.entries (settle b l).locks.waiting (grants_by l.clock b l.waiting l.entries)
unfolding grant_pass
settle_looks true l = (pass_looks l.clock l.waiting l.entries).looked
settle_looks false l = (refl, refl, refl)

settle_clock : (b : Bool) (l : Locks) → (settle b l).locks.clock ≡ l.clock
unfolding grant_pass
settle_clock true l = refl
settle_clock false l = refl

-- by the release that stood in slot i
module _ (l : Locks) (i n : ℕ) (t : ℕ → Bool) where
  abbrev x₀ : Entry
  x₀ = at l.entries i

  abbrev Completes : Standing → Type 0
  Completes s =
      ((Locks.completed (due_by t s) l i n).locks ≡ Locks.with_entries l (set l.entries i (ended t n x₀)))
      × (map lock_frame (Locks.completed (due_by t s) l i n).answers ≡ said_to (code_where t s) 5 (x₀.asynchronous ∷ []))
      × (is_due (due_by t s) ≡ (is_code 1 (code_where t s) || is_code 2 (code_where t s)))

  pub completes : (s : Standing) → x₀.standing ≡ s → Completes s
  completes no_release e = (ap (λ y. Locks.with_entries l (set l.entries i y)) (rw e), refl, refl)
  completes (release_of exclusive_lock m) e = go (t m) refl
    where
      go : (b : Bool) → t m ≡ b → Completes (release_of exclusive_lock m)
      go true q = rw q (ap (λ y. Locks.with_entries l (set l.entries i y)) (rw (e, q)), refl, refl)
      go false q = rw q (ap (λ y. Locks.with_entries l (set l.entries i y)) (rw (e, q)), refl, refl)
  completes (release_of shared_lock m) e = go (t m) refl
    where
      go : (b : Bool) → t m ≡ b → Completes (release_of shared_lock m)
      go true q = rw q (ap (λ y. Locks.with_entries l (set l.entries i y)) (rw (e, q)), refl, refl)
      go false q = rw q (ap (λ y. Locks.with_entries l (set l.entries i y)) (rw (e, q)), refl, refl)

-- the part of a message that is the last with number n
pub locks_ended : (d : Server) (a : Action) (t : ℕ → Bool) (n : ℕ) (ws : List Waiting) (b : Bool)
    → ((x : Entry) → (entry_row d.locks.clock).by_message a x ≡ ended t n x) → looks_after d.locks.entries (message_acted a) ≡ b →
    requests_left d.locks.entries d.locks.clock (message_acted a) d.locks.waiting ≡ ws
    → (i : ℕ) → i ≡ slot_acted d.locks.entries a → (y : List Entry) → y ≡ set d.locks.entries i (ended t n (at d.locks.entries i))
    → LocksPart d (message_acted a) (settle b (Locks.with_entries (Locks.with_waiting d.locks ws) y)).locks y (grants_by d.locks.clock b ws y)
locks_ended d a t n ws b row eb ew i ei y ey =
    record {
      clock = settle_clock b _;
      rows = rw ey (row_message blank (entry_row d.locks.clock) d.locks.entries d.locks.entries a i _ ei (sym (row (at d.locks.entries i))));
      look = rw (eb, ew) (settle_looks b (Locks.with_entries (Locks.with_waiting d.locks ws) y));
    }
