-- For N: an answer 1 to a session's request for exclusive, at once or after waiting, leaves it holding exclusive.
use mathlib.Core.Path.{◌≡◌, refl, sym, ap, ap₂, subst, ◌∙◌}
use mathlib.Core.Bool.{Bool, true, false, not, ◌&&◌, ◌||◌, cond, false≢true, true≢false}
use mathlib.Core.List.{List, [], ◌∷◌, ◌++◌, map, append-nil}
use mathlib.Core.Logic.{◌⊎◌, inl, inr}
use Prim.Native.Nat.{ℕ, zero, suc}
use lib.Dec.{eqb}
use lib.ListN.{set, take, drop}
use lib.Seq.{get_or-set_same, get_or-set_other}
use borrow.Author.Tests.{eqb-true, eq-eqb, ne_eqb}
use Rattle.wire.specs.Message.{header}
use Rattle.wire.specs.Frame.{Frame}
use Rattle.model.specs.Sizes.{no_connection, before_first}
use Rattle.model.specs.MessageTypes.{AsyncLock}
use Rattle.model.specs.Lists.{is_nil, all, any, keep}
use Rattle.model.specs.State.{Locks, Entry, Waiting, Kind.exclusive_lock, Kind.shared_lock, blank, at, live, Server}
use Rattle.model.specs.Interface.{Event, Event.delivery, Outcome.acted, Reply.took}
use Rattle.model.specs.Place.{slot_of}
use Rattle.model.specs.Locks
use Rattle.model.specs.Locks.{Answer, LockEvent, no_shared, holds, may_grant, give_at, grant, elsewhere, unexpired, refuse, tell, pass_over, grant_pass, change, settle, frees, no_place}
use Rattle.model.specs.Refusals.{refusal}
use Rattle.model.specs.Step.{Result, plan, answered, finish, step, lock_frame}
use Rattle.model.specs.Agreement.{is_lock}
use Rattle.model.specs.Fewer.{answers1}
use Rattle.model.specs.IsolationRun.{awaits_exclusive, Begins, Begins.at_once, Begins.later, Holder}
use Rattle.model.specs.Closing.{Each}
use Rattle.model.proofs.Basics.{and_l, and_r, both, not_of, or→, or_r, or_of, apart, inside, at_set, all_keep, all_kept}
use Rattle.claims.proofs.Invariant.{Inv, Good, backed_at, good_keep}
use Rattle.claims.proofs.Releasing.{Stores, release_stores, complete_stores, Owed, owed_at, owed_any}
use Rattle.claims.proofs.GrantingRule.{ready}
use Rattle.claims.proofs.Events.{Fit, change_sound}
use Rattle.claims.proofs.Fits.{plan_fit}
use Rattle.model.proofs.Place.{async_live}
use Rattle.claims.proofs.Scanning.{whole_scan}
use Rattle.claims.proofs.Agreement.{frames_locks}
use Rattle.claims.proofs.GrantingRule.{nil→}
use Rattle.claims.proofs.Closing.{told, looked_both, looked_each, looked_get, pass_looks, good_live}
use Rattle.claims.proofs.Fewer.{request_step, step_request}

-- an answer 1 to connection x
abbrev one_to : ℕ → Answer → Bool
one_to x a = eqb a.code 1 && eqb a.to x

abbrev frame_to : ℕ → Frame → Bool
frame_to x f = answers1 f && eqb f.to x

-- no such answer, over lists
abbrev free : ℕ → Frame → Bool
free x f = not (frame_to x f)

abbrev spare : ℕ → Answer → Bool
spare x a = not (one_to x a)

all_append : (p : Frame → Bool) (xs ys : List Frame) → all p (xs ++ ys) ≡ (all p xs && all p ys)
all_append p [] ys = refl
all_append p (x ∷ xs) ys = ap (λ b. p x && b) (all_append p xs ys) ∙ and_assoc (p x) (all p xs) (all p ys)
  where
    and_assoc : (a b c : Bool) → (a && (b && c)) ≡ ((a && b) && c)
    and_assoc true b c = refl
    and_assoc false b c = refl

all_locks : (x : ℕ) (fs : List Frame) → all (free x) fs ≡ all (free x) (keep is_lock fs)
all_locks x [] = refl
all_locks x (f ∷ fs) = go (is_lock f) refl (all_locks x fs)
  where
    go : (b : Bool) → is_lock f ≡ b → all (free x) fs ≡ all (free x) (keep is_lock fs) → (free x f && all (free x) fs) ≡ all (free x) (cond b (f ∷ keep is_lock fs) (keep is_lock fs))
    go true e h = ap (λ b. free x f && b) h
    go false e h = rw e h

all_answers : (x : ℕ) (xs : List Answer) → all (free x) (map lock_frame xs) ≡ all (spare x) xs
all_answers x [] = refl
all_answers x (a ∷ xs) = ap (λ b. spare x a && b) (all_answers x xs)

-- requests
each_all : (P : Waiting → Type 0) (p : Waiting → Bool) (ws : List Waiting) → all p ws ≡ true → ((w : Waiting) → p w ≡ true → P w) → Each P ws
each_all P p [] a f = tt
each_all P p (w ∷ ws) a f = (f w (and_l (p w) _ a), each_all P p ws (and_r (p w) _ a) f)

module _ (l : Locks) (v : Inv l) (j : ℕ) (aw : awaits_exclusive l j ≡ true) (real : (at l.entries j).asynchronous ≡ no_connection → ⊥) where
  abbrev mine : Waiting → Bool
  mine w = elsewhere j w || is_nil w.string

  -- the session in slot j has one request, which is for exclusive; it is live, and does not hold exclusive
  one_request : (ws : List Waiting) → Good l.entries ws → any (λ w. eqb w.slot j && is_nil w.string) ws ≡ true
      → (ready (at l.entries j) [] ≡ true) × (all mine ws ≡ true) × (all (elsewhere j) ws ≡ false)
  one_request [] g a = absurd (false≢true a)
  one_request (w ∷ ws) g a = go (eqb w.slot j) (is_nil w.string) refl refl a (λ a. one_request ws g.2 a)
    where
      others : (ws : List Waiting) → all (elsewhere j) ws ≡ true → all mine ws ≡ true
      others [] a = refl
      others (v ∷ ws) a = both _ _ (or_of _ _ (and_l (elsewhere j v) _ a)) (others ws (and_r (elsewhere j v) _ a))

      go : (b n : Bool) → eqb w.slot j ≡ b → is_nil w.string ≡ n → not (not (b && n) && all (λ w. not (eqb w.slot j && is_nil w.string)) ws) ≡ true
          → (any (λ w. eqb w.slot j && is_nil w.string) ws ≡ true → (ready (at l.entries j) [] ≡ true) × (all mine ws ≡ true) × (all (elsewhere j) ws ≡ false))
          → (ready (at l.entries j) [] ≡ true) × (((not b || n) && all mine ws) ≡ true) × ((not b && all (elsewhere j) ws) ≡ false)
      go true true eb en a ih =
          let q = eqb-true w.slot j eb in
          (ap₂ (λ (z : ℕ) (k : List ℕ). ready (at l.entries z) k) (sym q) (sym (nil→ w.string en)) ∙ g.0, others ws (ap (λ z. all (elsewhere z) ws) (sym q) ∙ g.1), refl)
      go true false eb en a ih =
          let r = ih a in
          absurd (true≢false (sym (ap (λ z. all (elsewhere z) ws) (sym (eqb-true w.slot j eb)) ∙ g.1) ∙ r.2))
      go false n eb en a ih = ih a

  have : (ready (at l.entries j) [] ≡ true) × (all mine l.waiting ≡ true) × (all (elsewhere j) l.waiting ≡ false)
  have = one_request l.waiting v.sound.good aw

  alive : live (at l.entries j) ≡ true
  alive = and_l (live (at l.entries j)) _ have.0

  lacks : (at l.entries j).exclusive ≡ false
  lacks = not_of _ (and_r (live (at l.entries j)) _ have.0)

  abbrev x : ℕ
  x = (at l.entries j).asynchronous

  -- its asynchronous connection is no other session's
  sole : (i : ℕ) → live (at l.entries i) ≡ true → (at l.entries i).asynchronous ≡ x → i ≡ j
  sole i u e =
      v.sound.firm.connections x real i j
      (both _ _ u (or_r (eqb (at l.entries i).synchronous x) _ (eq-eqb _ _ e)))
      (both _ _ alive (or_r (eqb (at l.entries j).synchronous x) _ (eq-eqb x x refl)))

  other_spare : (i : ℕ) (q : Bool) → live (at l.entries i) ≡ true → (i ≡ j → ⊥) → all (spare x) (tell l.entries i 1 q ∷ []) ≡ true
  other_spare i q u n = both _ _ (ap not (ne_eqb (at l.entries i).asynchronous x (λ e. n (sole i u e)))) refl

  -- the event itself sends it no answer 1
  ask_spare : (i t : ℕ) (k : List ℕ) (h a s m z : Bool) → all (elsewhere i) l.waiting ≡ a → live (at l.entries i) ≡ true →
      all (spare x) (Locks.respond (Locks.ruling h a s m z) l i t k).answers ≡ true
  ask_spare i t k true a s m z ea u = refl
  ask_spare i t k false false s m z ea u = refl
  ask_spare i t k false true true m z ea u = refl
  ask_spare i t k false true false true z ea u = other_spare i true u (λ e. true≢false (sym (ap (λ y. all (elsewhere y) l.waiting) (sym e) ∙ ea) ∙ have.2))
  ask_spare i t k false true false false true ea u = refl
  ask_spare i t k false true false false false ea u = refl

  -- it does not hold exclusive, so no release of it is answered 1
  free_spare : (i n : ℕ) (t e s b : Bool) → (at l.entries i).exclusive ≡ e → live (at l.entries i) ≡ true → all (spare x) (Locks.released (Locks.releasing t e s b) l i n).answers ≡ true
  free_spare i n true e s b ee u = refl
  free_spare i n false true s true ee u = other_spare i false u (λ q. true≢false (sym ee ∙ ap (λ z. (at l.entries z).exclusive) q ∙ lacks))
  free_spare i n false true s false ee u = refl
  free_spare i n false false false true ee u = refl
  free_spare i n false false false false ee u = refl
  free_spare i n false false true b ee u = refl

  complete_spare : (ws : List Waiting) (i n : ℕ) (u : Locks.Due) → Owed u (at l.entries i) → live (at l.entries i) ≡ true →
      all (spare x) (Locks.completed u (Locks.with_waiting l ws) i n).answers ≡ true
  complete_spare ws i n Locks.not_due o u = refl
  complete_spare ws i n (Locks.due_now exclusive_lock) o u = other_spare i false u (λ q. true≢false (sym o ∙ ap (λ z. (at l.entries z).exclusive) q ∙ lacks))
  complete_spare ws i n (Locks.due_now shared_lock) o u = refl

  both_spare : (xs ys : List Answer) → all (spare x) xs ≡ true → all (spare x) ys ≡ true → all (spare x) (xs ++ ys) ≡ true
  both_spare [] ys p q = q
  both_spare (a ∷ xs) ys p q = both _ _ (and_l (spare x a) _ p) (both_spare xs ys (and_r (spare x a) _ p) q)

  refuse_spare : (p : Waiting → Bool) (ws : List Waiting) → all (spare x) (refuse l.entries p ws) ≡ true
  refuse_spare p [] = refl
  refuse_spare p (w ∷ ws) = go (p w) (refuse_spare p ws)
    where
      go : (b : Bool) → all (spare x) (refuse l.entries p ws) ≡ true → all (spare x) (cond b (refuse l.entries p ws) (tell l.entries w.slot 0 true ∷ refuse l.entries p ws)) ≡ true
      go true r = r
      go false r = r

  change_spare : (e : LockEvent) → Fit l.entries e → all (spare x) (change l e).answers ≡ true
  unfolding change
  change_spare Locks.nothing f = refl
  change_spare (Locks.enter i n c) f = refl
  change_spare (Locks.join i c) f = refl
  change_spare (Locks.request i t k) f = ask_spare i t k (holds k (at l.entries i)) (all (elsewhere i) l.waiting) (Locks.invalid_by k (at l.entries i))
      (may_grant l.entries i k) (eqb t 0 || no_place l.waiting) refl f
  change_spare (Locks.release i n) f = free_spare i n (Locks.stands (at l.entries i).standing) (at l.entries i).exclusive
      (no_shared (at l.entries i)) (eqb (at l.entries i).last n) refl f
  change_spare (Locks.command i n) f = complete_spare l.waiting i n (Locks.due_at n (at l.entries i).standing)
      (owed_at n (at l.entries i).standing (at l.entries i) (backed_at l.entries i v.sound.firm)) f
  change_spare (Locks.clear i) f =
      both_spare (refuse l.entries (elsewhere i) l.waiting) _ (refuse_spare (elsewhere i) l.waiting)
      (complete_spare (keep (elsewhere i) l.waiting) i before_first (Locks.due_any (at l.entries i).standing)
      (owed_any (at l.entries i).standing (at l.entries i) (backed_at l.entries i v.sound.firm)) f)
  change_spare (Locks.close i) f = refl
  change_spare (Locks.reading t) f = refuse_spare (unexpired t) l.waiting

  -- the pass does so only with the lock
  abbrev Got : List Entry → Type 0
  Got es = ((at es j).number ≡ (at l.entries j).number) × ((at es j).exclusive ≡ true)

  abbrev Unmoved : List Entry → Waiting → Type 0
  Unmoved es₁ w = ((at es₁ w.slot).asynchronous ≡ (at l.entries w.slot).asynchronous) × ((at es₁ w.slot).number ≡ (at l.entries w.slot).number)

  granted_got : (now : ℕ) (es₁ es' : List Entry) (gs : List Waiting) → Each (λ w. at es' w.slot ≡ give_at now w.string (at es₁ w.slot)) gs →
      Each (λ w. live (at l.entries w.slot) ≡ true) gs
      → Each (Unmoved es₁) gs → all mine gs ≡ true → all (spare x) (map (told es₁) gs) ≡ false → Got es'
  granted_got now es₁ es' [] g u m a n = absurd (true≢false n)
  granted_got now es₁ es' (w ∷ gs) g u m a n = go (eqb (at es₁ w.slot).asynchronous x) refl n (granted_got now es₁ es' gs g.1 u.1 m.1 (and_r (mine w) _ a))
    where
      here : w.slot ≡ j → (elsewhere j w ≡ true) ⊎ (is_nil w.string ≡ true) → Got es'
      here q (inl e) = absurd (apart j w e q)
      here q (inr e) =
          let y : at es' j ≡ give_at now [] (at es₁ w.slot) = ap (at es') (sym q) ∙ g.0 ∙ ap (λ k. give_at now k (at es₁ w.slot)) (nil→ w.string e) in
          (ap (λ (z : Entry). z.number) y ∙ m.0.1 ∙ ap (λ z. (at l.entries z).number) q, ap (λ (z : Entry). z.exclusive) y)

      go : (b : Bool) → eqb (at es₁ w.slot).asynchronous x ≡ b → (not b && all (spare x) (map (told es₁) gs)) ≡ false → (all (spare x) (map (told es₁) gs) ≡ false → Got es') → Got es'
      go true e n ih = here (sole w.slot u.0 (sym m.0.0 ∙ eqb-true _ _ e)) (or→ (elsewhere j w) _ (and_l (mine w) _ a))
      go false e n ih = ih n

  pass_got : (now : ℕ) (es₁ : List Entry) (ws₁ : List Waiting) → Good es₁ ws₁ → Each (λ w. live (at l.entries w.slot) ≡ true) ws₁ → Each (Unmoved es₁) ws₁ → all mine ws₁ ≡ true
      → all (spare x) (pass_over now ws₁ es₁).answers ≡ false → Got (pass_over now ws₁ es₁).entries
  pass_got now es₁ ws₁ g u m a n =
      let f = pass_looks now ws₁ es₁ in
      granted_got now es₁ (pass_over now ws₁ es₁).entries f.grants (looked_get f.looked g)
      (looked_each (λ w. live (at l.entries w.slot) ≡ true) f.looked u) (looked_each (Unmoved es₁) f.looked m)
      (looked_both mine f.looked a).1 (ap (all (spare x)) (sym f.answers) ∙ n)

  kept_who : (i : ℕ) (y : Entry) → y.asynchronous ≡ (at l.entries i).asynchronous → y.number ≡ (at l.entries i).number → (w : Waiting) → Unmoved (set l.entries i y) w
  kept_who i y ea en w = go (at_set l.entries i y w.slot)
    where
      go : ((w.slot ≡ i) × (at (set l.entries i y) w.slot ≡ y)) ⊎ (at (set l.entries i y) w.slot ≡ at l.entries w.slot) → Unmoved (set l.entries i y) w
      go (inl q) = (
        ap (λ (z : Entry). z.asynchronous) q.1 ∙ ea
            ∙ ap (λ z. (at l.entries z).asynchronous) (sym q.0),
        ap (λ (z : Entry). z.number) q.1 ∙ en
            ∙ ap (λ z. (at l.entries z).number) (sym q.0),
      )
      go (inr q) = (ap (λ (z : Entry). z.asynchronous) q, ap (λ (z : Entry). z.number) q)

  always : (ws : List Waiting) → all (λ w. true) ws ≡ true
  always [] = refl
  always (w ∷ ws) = always ws

  -- after a store that keeps who the session is
  stores_got : (ws : List Waiting) (i : ℕ) (r : Locks.LockResult) → Stores (Locks.with_waiting l ws) i r → Good l.entries ws → Good r.locks.entries r.locks.waiting → all mine ws ≡ true
      → all (spare x) (grant_pass r.locks).answers ≡ false → Got (grant_pass r.locks).locks.entries
  unfolding grant_pass
  stores_got ws i r s g₀ g a n =
      rw s.locks
      (pass_got l.clock (set l.entries i s.entry) ws (rw s.locks at g) (good_live l.entries ws g₀)
      (each_all (Unmoved (set l.entries i s.entry)) (λ w. true) ws (always ws)
      (λ w t. kept_who i s.entry s.lesser.asynchronous s.lesser.number w)) a (rw s.locks at n))

  settled_got : (b : Bool) (ws : List Waiting) (i : ℕ) (r : Locks.LockResult) → Stores (Locks.with_waiting l ws) i r → Good l.entries ws →
      Good r.locks.entries r.locks.waiting → all mine ws ≡ true
      → all (spare x) (settle b r.locks).answers ≡ false → Got (settle b r.locks).locks.entries
  settled_got true ws i r s g₀ g a n = stores_got ws i r s g₀ g a n
  settled_got false ws i r s g₀ g a n = absurd (true≢false n)

  event_got : (e : LockEvent) → Fit l.entries e → all (spare x) (settle (frees l e) (change l e).locks).answers ≡ false → Got (settle (frees l e) (change l e).locks).locks.entries
  unfolding change grant_pass
  event_got Locks.nothing f n = absurd (true≢false n)
  event_got (Locks.enter i m c) f n = absurd (true≢false n)
  event_got (Locks.join i c) f n = absurd (true≢false n)
  event_got (Locks.request i t k) f n = absurd (true≢false n)
  event_got (Locks.release i m) f n = settled_got (frees l (LockEvent.release i m)) l.waiting i _ (release_stores l i m v.sound.firm) v.sound.good
      (change_sound l v.sound.good v.sound.firm (LockEvent.release i m) f).good have.1 n
  event_got (Locks.command i m) f n = settled_got (frees l (LockEvent.command i m)) l.waiting i _
      (complete_stores l i m v.sound.firm (Locks.due_at m (at l.entries i).standing)) v.sound.good
      (change_sound l v.sound.good v.sound.firm (LockEvent.command i m) f).good have.1 n
  event_got (Locks.clear i) f n =
      let ks = keep (elsewhere i) l.waiting in
      settled_got (frees l (LockEvent.clear i)) ks i _ (complete_stores (Locks.with_waiting l ks) i before_first v.sound.firm
      (Locks.due_any (at l.entries i).standing)) (good_keep l.entries (elsewhere i) l.waiting v.sound.good)
      (change_sound l v.sound.good v.sound.firm (LockEvent.clear i) f).good (all_keep mine (elsewhere i) l.waiting have.1) n
  event_got (Locks.close i) f n =
      let ks = keep (elsewhere i) l.waiting in
      pass_got l.clock (set l.entries i blank) ks (change_sound l v.sound.good v.sound.firm (LockEvent.close i) tt).good
      (good_live l.entries ks (good_keep l.entries (elsewhere i) l.waiting v.sound.good))
      (each_all (Unmoved (set l.entries i blank)) (elsewhere i) ks (all_kept (elsewhere i) l.waiting)
      (λ w a. let q = get_or-set_other l.entries i w.slot blank blank (apart i w a) in
      (ap (λ (z : Entry). z.asynchronous) q, ap (λ (z : Entry). z.number) q)))
      (all_keep mine (elsewhere i) l.waiting have.1)
      n
  event_got (Locks.reading t) f n = absurd (true≢false n)

-- after waiting
later_holds : (d : Server) → Inv d.locks → (j : ℕ) (e : Event) → awaits_exclusive d.locks j ≡ true → ((at d.locks.entries j).asynchronous ≡ no_connection → ⊥)
    → any (frame_to (at d.locks.entries j).asynchronous) (step d e).frames ≡ true → Holder (at d.locks.entries j).number j (step d e).server
unfolding step answered finish
later_holds d v j e aw real a = go (refusal d e) refl a
  where
    y : ℕ
    y = (at d.locks.entries j).asynchronous

    go : (n : ℕ) → refusal d e ≡ n → any (frame_to y) (answered n d e).frames ≡ true → Holder (at d.locks.entries j).number j (answered n d e).server
    go (suc n) z a = absurd (false≢true a)
    go zero z a =
        let f = plan_fit d e v z in
        let ev = (plan d e).event in
        let c = change d.locks ev in
        let s = settle (frees d.locks ev) c.locks in
        let none : (all (spare y) c.answers && all (spare y) s.answers) ≡ false =
        sym (ap₂ ◌&&◌ (all_answers y c.answers) (all_answers y s.answers))
        ∙ sym (all_append (free y) (map lock_frame c.answers) (map lock_frame s.answers))
        ∙ ap (all (free y)) (sym (frames_locks d e c.answers s.answers))
        ∙ sym (all_locks y ((plan d e).first ++ (map lock_frame c.answers ++ ((plan d e).said ++ map lock_frame s.answers)))) ∙ not_of _ a in
        let r = event_got d.locks v j aw real ev f (ap (λ (b : Bool). b && all (spare y) s.answers) (sym (change_spare d.locks v j aw real ev f)) ∙ none) in
        record { number = r.0; exclusive = r.1 }

-- at once
ask_yes : (l : Locks) (i t : ℕ) (k : List ℕ) → any answers1 (map lock_frame (change l (LockEvent.request i t k)).answers) ≡ true →
    (change l (LockEvent.request i t k)).locks.entries ≡ grant l.clock l.entries i k
unfolding change
ask_yes l i t k a = go (holds k (at l.entries i)) (all (elsewhere i) l.waiting) (Locks.invalid_by k (at l.entries i)) (may_grant l.entries i k) (eqb t 0 || no_place l.waiting) a
  where
    go : (h a s m z : Bool) → any answers1 (map lock_frame (Locks.respond (Locks.ruling h a s m z) l i t k).answers) ≡ true →
        (Locks.respond (Locks.ruling h a s m z) l i t k).locks.entries ≡ grant l.clock l.entries i k
    go true a s m z q = absurd (false≢true q)
    go false false s m z q = absurd (false≢true q)
    go false true true m z q = absurd (false≢true q)
    go false true false true z q = refl
    go false true false false true q = absurd (false≢true q)
    go false true false false false q = absurd (false≢true q)

once_holds : (d : Server) (c : ℕ) (bs : List ℕ) (room k n : ℕ) → (step d (delivery c bs room)).reply ≡ took acted k n → (header bs).kind ≡ AsyncLock → (header bs).code ≡ 1 → (header bs).len ≡ 0
    → any answers1 (step d (delivery c bs room)).frames ≡ true → Holder (at d.locks.entries (slot_of d c)).number (slot_of d c) (step d (delivery c bs room)).server
unfolding finish
once_holds d c bs room k n e t o z a =
    let r = step_request d c bs room k n e t in
    let h = r.head in
    let p = r.string in
    let i = slot_of d c in
    let es = d.locks.entries in
    let one = request_step d c bs room r t o in
    let empty : p ≡ [] = sym (whole_scan _ bs h p r.shows).2 ∙ ap (λ m. take m (drop 16 bs)) z in
    let answers = map lock_frame (change d.locks (LockEvent.request i h.param p)).answers in
    let g = ask_yes d.locks i h.param p (ap (any answers1) (sym (append-nil answers)) ∙ ap (λ (x : Result). any answers1 x.frames) (sym one) ∙ a) in
    let q : at (step d (delivery c bs room)).server.locks.entries i ≡ give_at d.locks.clock [] (at es i) =
    ap (λ (x : Result). at x.server.locks.entries i) one ∙ ap (λ es. at es i) g ∙ ap (λ k. at (grant d.locks.clock es i k) i) empty
    ∙ get_or-set_same es i (give_at d.locks.clock [] (at es i)) blank (inside live es i refl (async_live es c r.role)) in
    record { number = ap (λ (x : Entry). x.number) q; exclusive = ap (λ (x : Entry). x.exclusive) q }

pub begins_holding : (d : Server) → Inv d.locks → (j : ℕ) {e : Event} → Begins d j e → Holder (at d.locks.entries j).number j (step d e).server
begins_holding d v j (at_once c bs room k n s e t o z a) = subst (λ i. Holder (at d.locks.entries i).number i (step d (delivery c bs room)).server) s (once_holds d c bs room k n e t o z a)
begins_holding d v j (later e aw real a) = later_holds d v j e aw real a
