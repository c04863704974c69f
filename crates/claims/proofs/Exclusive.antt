-- For N: an exclusive lock stays where it is through every call but one with which its session's own release takes effect, and its closing.
use mathlib.Core.Path.{◌≡◌, refl, sym, ap, ◌∙◌}
use mathlib.Core.Bool.{Bool, true, false, not, ◌&&◌, ◌||◌, cond, false≢true, true≢false}
use mathlib.Core.List.{List, [], ◌∷◌, ◌++◌}
use mathlib.Core.Logic.{◌⊎◌, inl, inr}
use Prim.Native.Nat.{ℕ, zero, suc}
use lib.Dec.{eqb}
use lib.ListN.{set}
use borrow.Author.Tests.{eqb-true}
use Rattle.wire.specs.declared.Header.{Header}
use Rattle.wire.specs.Message.{header}
use Rattle.wire.specs.Class.{one_of}
use Rattle.model.specs.Sizes.{before_first}
use Rattle.model.specs.MessageTypes.{AsyncLock, AsyncDeviceClear, commands}
use Rattle.model.specs.Lists.{all, keep}
use Rattle.model.specs.State.{Locks, Entry, Waiting, Kind, Kind.exclusive_lock, Kind.shared_lock, Standing, Standing.no_release, Standing.release_of, at, live, Server, blank}
use Rattle.model.specs.Interface.{Event, Event.delivery}
use Rattle.model.specs.Place.{slot_of}
use Rattle.model.specs.Locks
use Rattle.model.specs.Locks.{LockEvent, Answer, no_exclusive, no_shared, holds, may_grant, give, elsewhere, grant_pass, change, settle, frees, no_place}
use Rattle.model.specs.Refusals.{refusal}
use Rattle.model.specs.Step.{plan, answered, finish, step}
use Rattle.model.specs.Closing.{Closes}
use Rattle.model.specs.Standing.{Answers, Completes.by_message, Completes.by_clear}
use Rattle.model.specs.IsolationRun.{Ends, Ends.released_now, Ends.released_later, Ends.closes, Holder}
use Rattle.model.proofs.Basics.{and_l, same?, all_at, at_set}
use Rattle.claims.proofs.Invariant.{Inv, clean}
use Rattle.claims.proofs.Events.{Fit, change_sound}
use Rattle.claims.proofs.Fits.{plan_fit}
use Rattle.claims.proofs.Causes.{Mild, Acted, acted_reply, acted_sends, plan_cause}
use Rattle.claims.proofs.Simulation.{give_num}
use Rattle.claims.proofs.Closing.{pass_keeps}

-- a release that takes effect now frees exclusive
abbrev pub takes_now : Locks.Releasing → Bool
takes_now (Locks.r_now exclusive_lock) = true
takes_now (Locks.r_now shared_lock) = false
takes_now (Locks.r_stands k) = false
takes_now Locks.r_invalid = false

abbrev pub takes_due : Locks.Due → Bool
takes_due (Locks.due_now exclusive_lock) = true
takes_due (Locks.due_now shared_lock) = false
takes_due Locks.not_due = false

-- where it does: none stands and it names the last number; or one stands for exclusive, with that number, or any
now_when : (t x s a : Bool) → takes_now (Locks.releasing t x s a) ≡ true → (t ≡ false) × (a ≡ true)
now_when true x s a f = absurd (false≢true f)
now_when false true s true f = (refl, refl)
now_when false true s false f = absurd (false≢true f)
now_when false false false true f = absurd (false≢true f)
now_when false false false false f = absurd (false≢true f)
now_when false false true a f = absurd (false≢true f)

none_stands : (s : Standing) → Locks.stands s ≡ false → s ≡ no_release
none_stands no_release f = refl
none_stands (release_of k m) f = absurd (true≢false f)

due_of : (n : ℕ) (s : Standing) → takes_due (Locks.due_at n s) ≡ true → s ≡ release_of exclusive_lock n
due_of n no_release f = absurd (false≢true f)
due_of n (release_of k m) f = go k (eqb m n) refl f
  where
    go : (k : Kind) (b : Bool) → eqb m n ≡ b → takes_due (cond b (Locks.due_now k) Locks.not_due) ≡ true → release_of k m ≡ release_of exclusive_lock n
    go exclusive_lock true e f = ap (release_of exclusive_lock) (eqb-true m n e)
    go shared_lock true e f = absurd (false≢true f)
    go k false e f = absurd (false≢true f)

number_of : Standing → ℕ
number_of no_release = 0
number_of (release_of k m) = m

any_of : (s : Standing) → takes_due (Locks.due_any s) ≡ true → s ≡ release_of exclusive_lock (number_of s)
unfolding number_of
any_of no_release f = absurd (false≢true f)
any_of (release_of exclusive_lock m) f = refl
any_of (release_of shared_lock m) f = absurd (false≢true f)

-- an event that takes nothing from slot j
abbrev pub Harmless : Locks → ℕ → LockEvent → Type 0
Harmless l j Locks.nothing = Unit {0}
Harmless l j (Locks.enter i n c) = Unit {0}
Harmless l j (Locks.join i c) = Unit {0}
Harmless l j (Locks.request i t k) = Unit {0}
Harmless l j (Locks.release i n) = (j ≡ i → ⊥) ⊎ (takes_now (Locks.releasing_of (at l.entries i) n) ≡ false)
Harmless l j (Locks.command i n) = (j ≡ i → ⊥) ⊎ (takes_due (Locks.due_at n (at l.entries i).standing) ≡ false)
Harmless l j (Locks.clear i) = (j ≡ i → ⊥) ⊎ (takes_due (Locks.due_any (at l.entries i).standing) ≡ false)
Harmless l j (Locks.close i) = j ≡ i → ⊥
Harmless l j (Locks.reading t) = Unit {0}

give_excl : (k : List ℕ) (e : Entry) → e.exclusive ≡ true → (give k e).exclusive ≡ true
give_excl [] e h = refl
give_excl (x ∷ k) e h = h

module _ (l : Locks) (v : Inv l) (j : ℕ) (h : (at l.entries j).exclusive ≡ true) where
  abbrev Held : List Entry → Type 0
  Held es = ((at es j).number ≡ (at l.entries j).number) × ((at es j).exclusive ≡ true)

  alive : live (at l.entries j) ≡ true
  alive = go (live (at l.entries j)) refl (all_at clean l.entries j refl v.sound.firm.clean_all)
    where
      go : (b : Bool) → live (at l.entries j) ≡ b → (b || (no_exclusive (at l.entries j) && no_shared (at l.entries j))) ≡ true → live (at l.entries j) ≡ true
      go true e c = e
      go false e c = absurd (false≢true (sym (ap not h) ∙ and_l (no_exclusive (at l.entries j)) _ c))

  store : (i : ℕ) (y : Entry) → (j ≡ i → (y.number ≡ (at l.entries i).number) × (y.exclusive ≡ true)) → Held (set l.entries i y)
  store i y f = go (at_set l.entries i y j)
    where
      go : ((j ≡ i) × (at (set l.entries i y) j ≡ y)) ⊎ (at (set l.entries i y) j ≡ at l.entries j) → Held (set l.entries i y)
      go (inl q) = (ap (λ (x : Entry). x.number) q.1 ∙ (f q.0).0 ∙ ap (λ z. (at l.entries z).number) (sym q.0), ap (λ (x : Entry). x.exclusive) q.1 ∙ (f q.0).1)
      go (inr q) = (ap (λ (x : Entry). x.number) q, ap (λ (x : Entry). x.exclusive) q ∙ h)

  there : (i : ℕ) → j ≡ i → (at l.entries i).exclusive ≡ true
  there i q = ap (λ z. (at l.entries z).exclusive) (sym q) ∙ h

  asked_holds : (a : Locks.Ruling) (i t : ℕ) (k : List ℕ) → Held (Locks.respond a l i t k).locks.entries
  asked_holds Locks.invalid i t k = (refl, h)
  asked_holds Locks.granted i t k = store i (Locks.give_at l.clock k (at l.entries i)) (λ q. (give_num k (at l.entries i), give_excl k (at l.entries i) (there i q)))
  asked_holds Locks.denied i t k = (refl, h)
  asked_holds Locks.queued i t k = (refl, h)

  freed_holds : (u : Locks.Releasing) (i n : ℕ) → (j ≡ i → ⊥) ⊎ (takes_now u ≡ false) → Held (Locks.released u l i n).locks.entries
  freed_holds Locks.r_invalid i n f = (refl, h)
  freed_holds (Locks.r_now exclusive_lock) i n (inl f) = store i _ (λ q. absurd (f q))
  freed_holds (Locks.r_now exclusive_lock) i n (inr f) = absurd (true≢false f)
  freed_holds (Locks.r_now shared_lock) i n f = store i _ (λ q. (refl, there i q))
  freed_holds (Locks.r_stands k) i n f = store i _ (λ q. (refl, there i q))

  completed_holds : (u : Locks.Due) (ws : List Waiting) (i n : ℕ) → (j ≡ i → ⊥) ⊎ (takes_due u ≡ false) → Held (Locks.completed u (Locks.with_waiting l ws) i n).locks.entries
  completed_holds Locks.not_due ws i n f = store i _ (λ q. (refl, there i q))
  completed_holds (Locks.due_now exclusive_lock) ws i n (inl f) = store i _ (λ q. absurd (f q))
  completed_holds (Locks.due_now exclusive_lock) ws i n (inr f) = absurd (true≢false f)
  completed_holds (Locks.due_now shared_lock) ws i n f = store i _ (λ q. (refl, there i q))

  change_holds : (e : LockEvent) → Fit l.entries e → Harmless l j e → Held (change l e).locks.entries
  unfolding change
  change_holds Locks.nothing f n = (refl, h)
  change_holds (Locks.enter i m c) f n = store i (Locks.opened m c) (λ q. absurd (true≢false (sym alive ∙ ap (λ z. live (at l.entries z)) q ∙ f.vacant)))
  change_holds (Locks.join i c) f n = store i (Locks.joined c (at l.entries i)) (λ q. (refl, there i q))
  change_holds (Locks.request i t k) f n = asked_holds (Locks.ruling (holds k (at l.entries i)) (all (elsewhere i) l.waiting)
      (Locks.invalid_by k (at l.entries i)) (may_grant l.entries i k) (eqb t 0 || no_place l.waiting)) i t k
  change_holds (Locks.release i m) f n = freed_holds (Locks.releasing_of (at l.entries i) m) i m n
  change_holds (Locks.command i m) f n = completed_holds (Locks.due_at m (at l.entries i).standing) l.waiting i m n
  change_holds (Locks.clear i) f n = completed_holds (Locks.due_any (at l.entries i).standing) (keep (elsewhere i) l.waiting) i before_first n
  change_holds (Locks.close i) f n = store i blank (λ q. absurd (n q))
  change_holds (Locks.reading t) f n = (refl, h)

  event_holds : (e : LockEvent) → Fit l.entries e → Harmless l j e → Held (settle (frees l e) (change l e).locks).locks.entries
  unfolding grant_pass
  event_holds e f n = go (frees l e)
    where
      go : (b : Bool) → Held (settle b (change l e).locks).locks.entries
      go false = change_holds e f n
      go true =
          let x = change_holds e f n in
          let s = change_sound l v.sound.good v.sound.firm e f in
          let k = pass_keeps (change l e).locks.clock (change l e).locks.waiting (change l e).locks.entries s.good j in
          (k.same_number ∙ x.0, k.exclusive x.1)

-- every call takes nothing from slot j, or is its session's release or closing
module _ (d : Server) (j : ℕ) where
  abbrev Or : Event → LockEvent → Type 0
  Or e x = Harmless d.locks j x ⊎ Ends d j e

  mild_or : (e : Event) (x : LockEvent) → Mild x → Or e x
  mild_or e Locks.nothing m = inl tt
  mild_or e (Locks.enter i n c) m = inl tt
  mild_or e (Locks.join i c) m = inl tt
  mild_or e (Locks.request i t k) m = inl tt
  mild_or e (Locks.release i n) m = absurd m
  mild_or e (Locks.command i n) m = absurd m
  mild_or e (Locks.clear i) m = absurd m
  mild_or e (Locks.close i) m = absurd m
  mild_or e (Locks.reading t) m = inl tt

  module _ (c : ℕ) (bs : List ℕ) (room : ℕ) where
    abbrev e₀ : Event
    e₀ = delivery c bs room

    abbrev i₀ : ℕ
    i₀ = slot_of d c

    -- an answer 1 of the event goes to slot j's session
    told_1 : {x : LockEvent} (xs : List Answer) → Acted d c bs room x → (change d.locks x).answers ≡ xs ++ Locks.tell d.locks.entries i₀ 1 false ∷ [] → j ≡ i₀ → Answers d j 1 e₀
    told_1 xs a q e = acted_sends a 1 (at d.locks.entries j).asynchronous xs (Locks.tell d.locks.entries i₀ 1 false) q (ap (λ z. (at d.locks.entries z).asynchronous) (sym e)) refl

    its : j ≡ i₀ → at d.locks.entries j ≡ at d.locks.entries i₀
    its e = ap (at d.locks.entries) e

    -- by whether the event takes exclusive, and whether slot j is its session's
    taking : (t : Bool) → (t ≡ true → j ≡ i₀ → Ends d j e₀) → ((j ≡ i₀ → ⊥) ⊎ (t ≡ false)) ⊎ Ends d j e₀
    taking false f = inl (inr refl)
    taking true f = go (same? j i₀)
      where
        go : (j ≡ i₀) ⊎ (j ≡ i₀ → ⊥) → ((j ≡ i₀ → ⊥) ⊎ (true ≡ false)) ⊎ Ends d j e₀
        go (inl q) = inr (f refl q)
        go (inr n) = inl (inl n)

    now_one : (n : ℕ) (u : Locks.Releasing) → takes_now u ≡ true → (Locks.released u d.locks i₀ n).answers ≡ Locks.tell d.locks.entries i₀ 1 false ∷ []
    now_one n (Locks.r_now exclusive_lock) t = refl
    now_one n (Locks.r_now shared_lock) t = absurd (false≢true t)
    now_one n (Locks.r_stands k) t = absurd (false≢true t)
    now_one n Locks.r_invalid t = absurd (false≢true t)

    due_one : (n : ℕ) (ws : List Waiting) (u : Locks.Due) → takes_due u ≡ true → (Locks.completed u (Locks.with_waiting d.locks ws) i₀ n).answers ≡ Locks.tell d.locks.entries i₀ 1 false ∷ []
    due_one n ws (Locks.due_now exclusive_lock) t = refl
    due_one n ws (Locks.due_now shared_lock) t = absurd (false≢true t)
    due_one n ws Locks.not_due t = absurd (false≢true t)

    release_or : (h : Header) → header bs ≡ h → h.kind ≡ AsyncLock → eqb h.code 0 ≡ true → Acted d c bs room (LockEvent.release i₀ h.param) → Or e₀ (LockEvent.release i₀ h.param)
    unfolding change
    release_or h eh t eb a =
        let x = at d.locks.entries i₀ in
        let u = Locks.releasing_of x h.param in
        taking (takes_now u)
        (λ f q.
        let w = now_when (Locks.stands x.standing) x.exclusive (no_shared x) (eqb x.last h.param) f in
        released_now c bs room a.taken a.number (sym q) (acted_reply a) (ap (λ (y : Header). y.kind) eh ∙ t) (ap (λ (y : Header). y.code) eh ∙ eqb-true h.code 0 eb)
        (ap (λ (y : Entry). y.standing) (its q) ∙ none_stands x.standing w.0)
        (ap (λ (y : Entry). y.last) (its q) ∙ eqb-true x.last h.param w.1 ∙ sym (ap (λ (y : Header). y.param) eh))
        (told_1 [] a (now_one h.param u f) q))

    command_or : (h : Header) → header bs ≡ h → one_of commands h.kind ≡ true → Acted d c bs room (LockEvent.command i₀ h.param) → Or e₀ (LockEvent.command i₀ h.param)
    unfolding change
    command_or h eh t a =
        let s = (at d.locks.entries i₀).standing in
        let u = Locks.due_at h.param s in
        taking (takes_due u)
        (λ f q.
        released_later h.param (ap (λ (y : Entry). y.standing) (its q) ∙ due_of h.param s f)
        (by_message c bs room a.taken a.number (sym q) (acted_reply a) (ap (λ (y : Header). one_of commands y.kind) eh ∙ t)
        (ap (λ (y : Header). y.param) eh) (told_1 [] a (due_one h.param d.locks.waiting u f) q)))

    clear_or : (h : Header) → header bs ≡ h → eqb h.kind AsyncDeviceClear ≡ true → Acted d c bs room (LockEvent.clear i₀) → Or e₀ (LockEvent.clear i₀)
    unfolding change
    clear_or h eh t a =
        let s = (at d.locks.entries i₀).standing in
        let u = Locks.due_any s in
        let zs = Locks.refuse d.locks.entries (elsewhere i₀) d.locks.waiting in
        taking (takes_due u)
        (λ f q.
        released_later (number_of s) (ap (λ (y : Entry). y.standing) (its q) ∙ any_of s f)
        (by_clear c bs room a.taken a.number (sym q) (acted_reply a) (ap (λ (y : Header). y.kind) eh ∙ eqb-true h.kind AsyncDeviceClear t)
        (told_1 zs a (ap (λ ys. zs ++ ys) (due_one before_first (keep (elsewhere i₀) d.locks.waiting) u f)) q)))

  closing_or : (e : Event) (c : ℕ) → Closes d e c → Or e (LockEvent.close (slot_of d c))
  closing_or e c x = go (same? j (slot_of d c))
    where
      go : (j ≡ slot_of d c) ⊎ (j ≡ slot_of d c → ⊥) → (j ≡ slot_of d c → ⊥) ⊎ Ends d j e
      go (inl q) = inr (closes c (sym q) x)
      go (inr n) = inl n

  plan_or : (e : Event) → refusal d e ≡ 0 → Or e (plan d e).event
  plan_or = plan_cause d Or mild_or release_or command_or clear_or closing_or

-- so a holder that no call disturbs holds on
pub still_holds : (d : Server) → Inv d.locks → (n j : ℕ) (e : Event) → (Ends d j e → ⊥) → Holder n j d → Holder n j (step d e).server
unfolding step answered finish
still_holds d v n j e u h = go (refusal d e) refl
  where
    done : refusal d e ≡ 0 → Harmless d.locks j (plan d e).event ⊎ Ends d j e → Holder n j (finish d (plan d e)).server
    done z (inl m) =
        let r = event_holds d.locks v j h.exclusive (plan d e).event (plan_fit d e v z) m in
        record { number = r.0 ∙ h.number; exclusive = r.1 }
    done z (inr m) = absurd (u m)

    go : (z : ℕ) → refusal d e ≡ z → Holder n j (answered z d e).server
    go zero z = done z (plan_or d j e z)
    go (suc m) z = h
