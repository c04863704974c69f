-- J, proved: the server's grant pass is the one of the statement; what it leaves and what it answers are read off that.
use mathlib.Core.Path.{◌≡◌, refl, sym, ap, ap₂, subst, ◌∙◌}
use mathlib.Core.Bool.{Bool, true, false, not, false≢true, true≢false}
use mathlib.Core.List.{List, [], ◌∷◌, ◌++◌, map}
use mathlib.Core.Logic.{◌⊎◌, inl, inr}
use Prim.Native.Nat.{ℕ, zero, suc}
use lib.Dec.{eqb}
use lib.ListN.{set}
use lib.Seq.{get_or-set_same, get_or-set_other, set-get_or}
use borrow.Author.Tests.{eq-eqb, ne_eqb}
use Rattle.model.specs.Sizes.{no_connection}
use Rattle.model.specs.Lists.{all, keep}
use Rattle.model.specs.State.{Locks, Entry, Waiting, blank, at, live, Server, fresh, Making}
use Rattle.model.specs.Interface.{Event, Event.delivery, Event.cut}
use Rattle.model.specs.Place.{is_on_connection, slot_of, entry_of}
use Rattle.model.specs.Locks
use Rattle.model.specs.Locks.{Answer, LockEvent, no_shared, may_grant, give, give_at, grant, elsewhere, tell, after, put, pass_over, grant_pass, change, settle, frees}
use Rattle.model.specs.Acts
use Rattle.model.specs.Refusals.{refusal}
use Rattle.model.specs.Step.{plan, answered, finish, step, lock_frame}
use Rattle.model.specs.Agreement.{is_lock}
use Rattle.model.specs.Closing.{Closes, Closes.by_cut, Closes.by_delivery, OldestFirst, OldestFirst.pass_end, OldestFirst.pass_grant, OldestFirst.pass_wait}
use Rattle.model.specs.Closing.{Keeps, Each, grant_frame, Closed, EachCloses, Closings}
use Rattle.model.proofs.Basics.{and_l, and_r, both, or_r, not_not, apart, inside, at_set, all_kept}
use Rattle.claims.proofs.Invariant.{Inv, Good, Sound, good_apart, good_keep, pass_after, pass_still}
use Rattle.claims.proofs.GrantingRule.{ready, nil→}
use Rattle.claims.proofs.Events.{change_sound, inv_fresh}
use Rattle.claims.proofs.Fits.{inv_call}
use Rattle.model.proofs.Place.{place_sound}
use Rattle.claims.proofs.Agreement.{frames_locks}
use Rattle.claims.proofs.Replies.{closed_by}

-- who a session is does not change by a grant
give_keeps : (now : ℕ) (k : List ℕ) (e : Entry) → ready e k ≡ true → Keeps e (give_at now k e)
give_keeps now [] e r = record { same_number = refl; same_synchronous = refl; same_asynchronous = refl; exclusive = λ h. refl; shared = λ n. refl }
give_keeps now (x ∷ k) e r =
    record { same_number = refl; same_synchronous = refl; same_asynchronous = refl; exclusive = λ h. h; shared = λ n. absurd (n (nil→ _ (sym (not_not (no_shared e)) ∙ and_r (live e) _ r))) }

keeps_same : (e e' : Entry) → e' ≡ e → Keeps e e'
keeps_same e e' q =
    record {
      same_number = ap (λ (x : Entry). x.number) q;
      same_synchronous = ap (λ (x : Entry). x.synchronous) q;
      same_asynchronous = ap (λ (x : Entry). x.asynchronous) q;
      exclusive = λ h. ap (λ (x : Entry). x.exclusive) q ∙ h;
      shared = λ n. ap (λ (x : Entry). x.shared) q;
    }

keeps_on : (e f g : Entry) → Keeps e f → Keeps f g → Keeps e g
keeps_on e f g a b =
    record {
      same_number = b.same_number ∙ a.same_number;
      same_synchronous = b.same_synchronous ∙ a.same_synchronous;
      same_asynchronous = b.same_asynchronous ∙ a.same_asynchronous;
      exclusive = λ h. b.exclusive (a.exclusive h);
      shared = λ n. b.shared (λ z. n (sym (a.shared n) ∙ z)) ∙ a.shared n;
    }

give_async : (k : List ℕ) (e : Entry) → (give k e).asynchronous ≡ e.asynchronous
give_async [] e = refl
give_async (x ∷ k) e = refl

-- the pass of the statement
pub looked_both : {now : ℕ} {es es' : List Entry} {ws vs gs : List Waiting} (p : Waiting → Bool) → OldestFirst now es ws es' vs gs → all p ws ≡ true → (all p vs ≡ true) × (all p gs ≡ true)
looked_both p pass_end a = (refl, refl)
looked_both p (pass_grant w m l) a = let r = looked_both p l (and_r (p w) _ a) in (r.0, both _ _ (and_l (p w) _ a) r.1)
looked_both p (pass_wait w m l) a = let r = looked_both p l (and_r (p w) _ a) in (both _ _ (and_l (p w) _ a) r.0, r.1)

pub looked_each : {now : ℕ} {es es' : List Entry} {ws vs gs : List Waiting} (P : Waiting → Type 0) → OldestFirst now es ws es' vs gs → Each P ws → Each P gs
looked_each P pass_end h = tt
looked_each P (pass_grant w m l) h = (h.0, looked_each P l h.1)
looked_each P (pass_wait w m l) h = looked_each P l h.1

looked_apart : {now : ℕ} {es es' : List Entry} {ws vs gs : List Waiting} → OldestFirst now es ws es' vs gs → (j : ℕ) → all (elsewhere j) gs ≡ true → at es' j ≡ at es j
looked_apart pass_end j a = refl
looked_apart {now = now} (pass_grant {es = es} w m l) j a =
    looked_apart l j (and_r (elsewhere j w) _ a) ∙ get_or-set_other es w.slot j (give_at now w.string (at es w.slot)) blank (λ e. apart j w (and_l (elsewhere j w) _ a) (sym e))
looked_apart (pass_wait w m l) j a = looked_apart l j a

pub each_map : (P Q : Waiting → Type 0) (p : Waiting → Bool) (ws : List Waiting) → all p ws ≡ true → ((w : Waiting) → p w ≡ true → P w → Q w) → Each P ws → Each Q ws
each_map P Q p [] a f h = tt
each_map P Q p (w ∷ ws) a f h = (f w (and_l (p w) _ a) h.0, each_map P Q p ws (and_r (p w) _ a) f h.1)

pub looked_get : {now : ℕ} {es es' : List Entry} {ws vs gs : List Waiting} → OldestFirst now es ws es' vs gs → Good es ws → Each (λ w. at es' w.slot ≡ give_at now w.string (at es w.slot)) gs
looked_get pass_end g = tt
looked_get {now = now} (pass_grant {es = es} {es' = es'} {ws = ws} {gs = gs} w m l) g =
    let i = w.slot in
    let y = give_at now w.string (at es i) in
    let a = (looked_both (elsewhere i) l g.1).1 in (
      looked_apart l i a ∙ get_or-set_same es i y blank (inside live es i refl (and_l (live (at es i)) _ g.0)),
      each_map
          (λ v. at es' v.slot ≡ give_at now v.string (at (set es i y) v.slot))
          (λ v. at es' v.slot ≡ give_at now v.string (at es v.slot))
          (elsewhere i)
          gs
          a
          (λ v b q. q ∙ ap (give_at now v.string) (get_or-set_other es i v.slot y blank (apart i v b)))
          (looked_get l (good_apart es i y ws g.1 g.2)),
    )
looked_get (pass_wait w m l) g = looked_get l g.2

looked_keeps : {now : ℕ} {es es' : List Entry} {ws vs gs : List Waiting} → OldestFirst now es ws es' vs gs → Good es ws → (j : ℕ) → Keeps (at es j) (at es' j)
looked_keeps pass_end g j = keeps_same _ _ refl
looked_keeps {now = now} (pass_grant {es = es} {es' = es'} {ws = ws} w m l) g j =
    keeps_on (at es j) (at (set es w.slot y) j) (at es' j) (go (at_set es w.slot y j)) (looked_keeps l (good_apart es w.slot y ws g.1 g.2) j)
  where
    y : Entry
    y = give_at now w.string (at es w.slot)

    go : ((j ≡ w.slot) × (at (set es w.slot y) j ≡ y)) ⊎ (at (set es w.slot y) j ≡ at es j) → Keeps (at es j) (at (set es w.slot y) j)
    go (inl h) = keeps_on (at es j) y _ (subst (λ z. Keeps (at es z) y) (sym h.0) (give_keeps now w.string (at es w.slot) g.0)) (keeps_same y _ h.1)
    go (inr h) = keeps_same (at es j) _ h
looked_keeps (pass_wait w m l) g j = looked_keeps l g.2 j

-- the server's pass is such a pass
abbrev pub told : List Entry → Waiting → Answer
told es w = tell es w.slot 1 true

pub record Found (now : ℕ) (es : List Entry) (ws : List Waiting) (r : Locks.Passed) : Type 0 where
  pub grants : List Waiting
  pub looked : OldestFirst now es ws r.entries r.waiting grants
  pub answers : r.answers ≡ map (told es) grants

told_same : (es es' : List Entry) → ((j : ℕ) → (at es' j).asynchronous ≡ (at es j).asynchronous) → (ws : List Waiting) → map (told es') ws ≡ map (told es) ws
told_same es es' h [] = refl
told_same es es' h (w ∷ ws) = ap₂ (λ (c : ℕ) (l : List Answer). record { to = c; code = 1; request = true } ∷ l) (h w.slot) (told_same es es' h ws)

grant_async : (now : ℕ) (es : List Entry) (i : ℕ) (k : List ℕ) (j : ℕ) → (at (grant now es i k) j).asynchronous ≡ (at es j).asynchronous
grant_async now es i k j = go (at_set es i (give_at now k (at es i)) j)
  where
    go : ((j ≡ i) × (at (set es i (give_at now k (at es i))) j ≡ give_at now k (at es i))) ⊎ (at (set es i (give_at now k (at es i))) j ≡ at es j) →
        (at (grant now es i k) j).asynchronous ≡ (at es j).asynchronous
    go (inl h) = ap (λ (x : Entry). x.asynchronous) h.1 ∙ give_async k (at es i) ∙ ap (λ z. (at es z).asynchronous) (sym h.0)
    go (inr h) = ap (λ (x : Entry). x.asynchronous) h

pub pass_looks : (now : ℕ) (ws : List Waiting) (es : List Entry) → Found now es ws (pass_over now ws es)
unfolding pass_over
pass_looks now [] es = record { grants = []; looked = pass_end; answers = refl }
pass_looks now (w ∷ ws) es = go (may_grant es w.slot w.string) refl (λ es. pass_looks now ws es)
  where
    go : (b : Bool) → may_grant es w.slot w.string ≡ b → ((es : List Entry) → Found now es ws (pass_over now ws es)) → Found now es (w ∷ ws) (put b w es (pass_over now ws (after now b w es)))
    go true e ih =
        let r = ih (grant now es w.slot w.string) in
        record {
          grants = w ∷ r.grants;
          looked = pass_grant w e r.looked;
          answers = ap (λ l. told es w ∷ l) (r.answers ∙ told_same es (grant now es w.slot w.string) (grant_async now es w.slot w.string) r.grants);
        }
    go false e ih =
        let r = ih es in
        record { grants = r.grants; looked = pass_wait w e r.looked; answers = r.answers }

pub pass_keeps : (now : ℕ) (ws : List Waiting) (es : List Entry) → Good es ws → (j : ℕ) → Keeps (at es j) (at (pass_over now ws es).entries j)
pass_keeps now ws es g j = looked_keeps (pass_looks now ws es).looked g j

-- waiting sessions are live
pub good_live : (es : List Entry) (ws : List Waiting) → Good es ws → Each (λ w. live (at es w.slot) ≡ true) ws
good_live es [] g = tt
good_live es (w ∷ ws) g = (and_l (live (at es w.slot)) _ g.0, good_live es ws g.2)

-- the closing of slot i, with its pass
module _ (l : Locks) (v : Inv l) (i : ℕ) where
  abbrev es₀ : List Entry
  es₀ = set l.entries i blank

  abbrev ws₀ : List Waiting
  ws₀ = keep (elsewhere i) l.waiting

  abbrev ends : Locks.Passed
  ends = pass_over l.clock ws₀ es₀

  sound : Sound es₀ ws₀
  unfolding change
  sound = change_sound l v.sound.good v.sound.firm (LockEvent.close i) tt

  blank_set : (es : List Entry) (i : ℕ) → at (set es i blank) i ≡ blank
  blank_set [] i = refl
  blank_set (x ∷ es) zero = refl
  blank_set (x ∷ es) (suc i) = blank_set es i

  other : (j : ℕ) → (j ≡ i → ⊥) → at es₀ j ≡ at l.entries j
  other j n = get_or-set_other l.entries i j blank blank n

  told_before : (ws : List Waiting) → all (elsewhere i) ws ≡ true → map (told es₀) ws ≡ map (told l.entries) ws
  told_before [] a = refl
  told_before (w ∷ ws) a =
      ap₂ (λ (e : Entry) (xs : List Answer). record { to = e.asynchronous; code = 1; request = true } ∷ xs)
      (other w.slot (apart i w (and_l (elsewhere i w) _ a))) (told_before ws (and_r (elsewhere i w) _ a))

  frames_told : (ws : List Waiting) → map lock_frame (map (told l.entries) ws) ≡ map (grant_frame l.entries) ws
  frames_told [] = refl
  frames_told (w ∷ ws) = ap (λ xs. grant_frame l.entries w ∷ xs) (frames_told ws)

  -- a connection of slot i gets none of the answers
  sent_elsewhere : (x : ℕ) → (x ≡ no_connection → ⊥) → is_on_connection x (at l.entries i) ≡ true → (ws : List Waiting) → all (elsewhere i) ws ≡ true →
      Each (λ w. live (at l.entries w.slot) ≡ true) ws
      → all (λ f. not (eqb f.to x)) (map (grant_frame l.entries) ws) ≡ true
  sent_elsewhere x n o [] a h = refl
  sent_elsewhere x n o (w ∷ ws) a h =
      both
      _
      _
      (ap not (ne_eqb (at l.entries w.slot).asynchronous x
      (λ e. apart i w (and_l (elsewhere i w) _ a) (v.sound.firm.connections x n w.slot i
      (both _ _ h.0 (or_r (eqb (at l.entries w.slot).synchronous x) _ (eq-eqb _ _ e))) o))))
      (sent_elsewhere x n o ws (and_r (elsewhere i w) _ a) h.1)

  -- nothing to close
  unmoved : at l.entries i ≡ blank → (es₀ ≡ l.entries) × (ws₀ ≡ l.waiting)
  unmoved b = (ap (set l.entries i) (sym b) ∙ set-get_or l.entries i blank, kept l.waiting v.sound.good)
    where
      kept : (ws : List Waiting) → Good l.entries ws → keep (elsewhere i) ws ≡ ws
      kept [] g = refl
      kept (w ∷ ws) g =
          let n : elsewhere i w ≡ true = ap not (ne_eqb w.slot i (λ e. false≢true (sym (ap live (ap (at l.entries) e ∙ b)) ∙ and_l (live (at l.entries w.slot)) _ g.0))) in
          rw n (ap (λ vs. w ∷ vs) (kept ws g.2))

-- the call
module _ (d : Server) (e : Event) (c : ℕ) (v : Inv d.locks) (z : refusal d e ≡ 0) (p : (plan d e).event ≡ LockEvent.close (slot_of d c)) where
  abbrev left : Locks.Passed
  left = ends d.locks v (slot_of d c)

  leaves : (step d e).server.locks ≡ record { clock = d.locks.clock; entries = left.entries; waiting = left.waiting }
  unfolding step answered finish change grant_pass
  leaves = ap (λ n. (answered n d e).server.locks) z ∙ ap (λ x. (settle (frees d.locks x) (change d.locks x).locks).locks) p

  sends : keep is_lock (step d e).frames ≡ map lock_frame left.answers
  unfolding step answered finish change grant_pass
  sends =
      ap (λ n. keep is_lock (answered n d e).frames) z
      ∙ ap (λ x. keep is_lock
      ((plan d e).first ++ (map lock_frame (change d.locks x).answers
      ++ ((plan d e).said ++ map lock_frame (settle (frees d.locks x) (change d.locks x).locks).answers)))) p
      ∙ frames_locks d e [] left.answers

  -- without a session the pass has nothing to do
  still : live (entry_of d c) ≡ false → (record { clock = d.locks.clock; entries = left.entries; waiting = left.waiting } ≡ d.locks) × (left.answers ≡ [])
  unfolding grant_pass
  still n =
      let u = unmoved d.locks v (slot_of d c) (vacant (place_sound d.locks.entries c)) in
      let q = pass_still d.locks v.quiet in (
        ap₂ (λ (ws : List Waiting) (es : List Entry). record {
          clock = d.locks.clock;
          entries = (pass_over d.locks.clock ws es).entries;
          waiting = (pass_over d.locks.clock ws es).waiting;
        }) u.1 u.0 ∙ ap (λ (x : Locks.LockResult). x.locks) q,
        ap₂ (λ (ws : List Waiting) (es : List Entry). (pass_over d.locks.clock ws es).answers) u.1 u.0 ∙ ap (λ (x : Locks.LockResult). x.answers) q,
      )
    where
      vacant : (is_on_connection c (entry_of d c) ≡ true) ⊎ (entry_of d c ≡ blank) → entry_of d c ≡ blank
      vacant (inl h) = absurd (true≢false (sym (and_l (live (entry_of d c)) _ h) ∙ n))
      vacant (inr h) = h

  pub closes : Closed d e c
  closes =
      let i = slot_of d c in
      let s = sound d.locks v i in
      let f = pass_looks d.locks.clock (ws₀ d.locks v i) (es₀ d.locks v i) in
      let a = pass_after d.locks.clock (ws₀ d.locks v i) (es₀ d.locks v i) s.good s.firm in
      let g = looked_both (elsewhere i) f.looked (all_kept (elsewhere i) d.locks.waiting) in
      let sent : keep is_lock (step d e).frames ≡ map (grant_frame d.locks.entries) f.grants =
      sends ∙ ap (map lock_frame) (f.answers ∙ told_before d.locks v i f.grants g.1) ∙ frames_told d.locks v i f.grants in
      record {
        slot_free = ap (λ (l : Locks). at l.entries i) leaves ∙ looked_apart f.looked i g.1 ∙ blank_set d.locks v i d.locks.entries i;
        request_gone = ap (λ (l : Locks). all (elsewhere i) l.waiting) leaves ∙ g.0;
        unanswered = λ x n o. ap (all (λ f. not (eqb f.to x))) sent
            ∙ sent_elsewhere d.locks v i x n o f.grants g.1
            (looked_each (λ w. live (at d.locks.entries w.slot) ≡ true) f.looked
            (good_live d.locks.entries (ws₀ d.locks v i) (good_keep d.locks.entries (elsewhere i) d.locks.waiting v.sound.good)));
        others_keep = λ j n. rw leaves (keeps_on (at d.locks.entries j) (at (es₀ d.locks v i) j) (at left.entries j)
            (keeps_same _ _ (other d.locks v i j n)) (looked_keeps f.looked s.good j));
        grants = f.grants;
        oldest_first = rw leaves f.looked;
        granted_get =
            rw leaves
            (each_map
            (λ w. at left.entries w.slot ≡ give_at d.locks.clock w.string (at (es₀ d.locks v i) w.slot))
            (λ w. at left.entries w.slot ≡ give_at d.locks.clock w.string (at d.locks.entries w.slot))
            (elsewhere i)
            f.grants
            g.1
            (λ w b q. q ∙ ap (give_at d.locks.clock w.string) (other d.locks v i w.slot (apart i w b)))
            (looked_get f.looked s.good));
        answers = sent;
        others_same = λ j n q. ap (λ (l : Locks). at l.entries j) leaves ∙ looked_apart f.looked j q ∙ other d.locks v i j n;
        none_left = rw leaves a.quiet;
        no_session = λ n. (leaves ∙ (still n).0, sends ∙ ap (map lock_frame) (still n).1);
      }

-- by a cut, by a delivery
pub closed_of : (d : Server) → Inv d.locks → {e : Event} {c : ℕ} → Closes d e c → Closed d e c
unfolding plan
closed_of d v (by_cut c room z) = closes d (cut c room) c v z refl
closed_of d v (by_delivery c bs room k n q) = let x = closed_by d c bs room k n q in closes d (delivery c bs room) c v x.accepted (ap (λ (p : Acts.Plan). p.event) x.planned ∙ x.closes_slot)

closings_from : (es : List Event) (d : Server) → Inv d.locks → EachCloses d es
closings_from [] d v = tt
closings_from (e ∷ es) d v = (λ c x. closed_of d v x, closings_from es (step d e).server (inv_call d e v))

pub closings : (v : Making) (es : List Event) → Closings v es
closings v es = record { each = closings_from es (fresh v) inv_fresh }
