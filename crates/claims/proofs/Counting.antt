-- C, proved: each event and each pass keeps the count; what the lock model drops is what the server's slot locks_held.
use mathlib.Core.Path.{◌≡◌, refl, sym, ap, ap₂, ◌∙◌}
use mathlib.Core.Bool.{Bool, true, false, not, ◌&&◌, cond, false≢true, true≢false}
use mathlib.Core.List.{List, [], ◌∷◌, ◌++◌, map}
use mathlib.Core.Logic.{◌⊎◌, inl, inr}
use Prim.Native.Nat.{ℕ, zero, suc, ◌+◌}
use native.Mathlib.Omega.{arith}
use lib.Dec.{eqb}
use lib.ListN.{set}
use Rattle.wire.specs.declared.Header.{Header}
use Rattle.model.specs.Sizes.{no_connection, before_first}
use Rattle.model.specs.Lists.{tally}
use Rattle.model.specs.State.{Locks, Entry, Waiting, Kind.exclusive_lock, Kind.shared_lock, Standing.no_release, Standing.release_of, blank, at, live, Server, fresh, Making}
use Rattle.model.specs.Interface.{Event, Event.opening, Event.delivery, Event.cut, Event.clock, Event.answer, Event.status, Event.setting, Reply}
use Rattle.model.specs.Scan.{Scan, Scan.empty, Scan.few, Scan.wrong, Scan.skipping, Scan.long, Scan.part, Scan.whole}
use Rattle.model.specs.Place.{slot_in, is_on_connection, slot_of, Role, Role.r_none, Role.r_half_open, Role.r_synchronous, Role.r_asynchronous}
use Rattle.model.specs.Locks
use Rattle.model.specs.Locks.{LockResult, Answer, LockEvent, elsewhere, holds, give, give_at, grant, may_grant, after, put, pass_over, grant_pass, change, refuse, tell, no_shared}
use Rattle.model.specs.Checks.{Verdict, Verdict.v_more, Verdict.v_skipped, Verdict.v_held, Verdict.v_ignored, Verdict.v_closed, Verdict.v_acts, Verdict.v_error, Verdict.v_fatal}
use Rattle.model.specs.Acts
use Rattle.model.specs.Refusals.{refusal}
use Rattle.model.specs.Step.{withholds, effect, received, plan, answered, finish, step, final, log}
use Rattle.model.specs.LockModel.{Session, Model, Told, Fed, model_step, model_run, fresh_model, on, not_shared}
use Rattle.model.specs.Agreement.{as_session, feed, Agrees}
use Rattle.model.specs.Count.{locks_of, locks_held, is_grant, tells_release, count, locks_on, lost, dropped, Balanced, Count}
use Rattle.model.proofs.Basics.{and_l, and_r, both, not_of, isn't, inside, all_at}
use Rattle.model.proofs.Place.{place_sound, place_complete}
use Rattle.claims.proofs.Invariant.{Inv, Good, Firm, clean, backed_at, good_apart}
use Rattle.claims.proofs.Releasing.{Owed, owed_at, owed_any}
use Rattle.claims.proofs.Events.{Fit, change_sound, always_settled, inv_fresh}
use Rattle.claims.proofs.Fits.{plan_fit, inv_call, real_delivery, real_cut}
use Rattle.claims.proofs.Tallies.{one, lower, tally_seen, tally_but, tally_split, tally_cong, tally_but_cong}
use Rattle.claims.proofs.Seen.{Same, while, on_seen}
use Rattle.claims.proofs.Simulation.{told_of, map_append}
use Rattle.claims.proofs.Agreement.{call_core, call_locks, fresh_agrees}

-- a store at a slot: of a live session; of as many locks; of none
held_set : (es : List Entry) (i : ℕ) (y : Entry) → live (at es i) ≡ true → locks_held (set es i y) + locks_of (at es i) ≡ locks_held es + locks_of y
unfolding locks_held
held_set [] i y v = absurd (false≢true v)
held_set (x ∷ es) zero y v = omega arith
held_set (x ∷ es) (suc i) y v = omega (arith, held_set es i y v)

held_same : (es : List Entry) (i : ℕ) (y : Entry) → locks_of y ≡ locks_of (at es i) → locks_held (set es i y) ≡ locks_held es
unfolding locks_held
held_same [] i y e = refl
held_same (x ∷ es) zero y e = omega arith
held_same (x ∷ es) (suc i) y e = omega (arith, held_same es i y e)

held_blank : (es : List Entry) (i : ℕ) → locks_held (set es i blank) + locks_of (at es i) ≡ locks_held es
unfolding locks_held
held_blank [] i = refl
held_blank (x ∷ es) zero = omega arith
held_blank (x ∷ es) (suc i) = omega (arith, held_blank es i)

give_one : (k : List ℕ) (e : Entry) → holds k e ≡ false → locks_of (give k e) ≡ suc (locks_of e)
give_one [] e h = rw h (omega arith)
give_one (x ∷ k) e h = shared (no_shared e) h
  where
    shared : (b : Bool) → not b ≡ false → cond e.exclusive 1 0 + 1 ≡ suc (cond e.exclusive 1 0 + cond b 0 1)
    shared true h = omega arith
    shared false h = absurd (true≢false h)

granted : (now : ℕ) (es : List Entry) (i : ℕ) (k : List ℕ) → live (at es i) ≡ true → holds k (at es i) ≡ false → locks_held (grant now es i k) ≡ suc (locks_held es)
granted now es i k v h = omega (arith, held_set es i (give_at now k (at es i)) v, give_one k (at es i) h)

-- answers
count_append : (p : Told → Bool) (xs ys : List Told) → count p (xs ++ ys) ≡ count p xs + count p ys
unfolding count
count_append p [] ys = omega arith
count_append p (x ∷ xs) ys = omega (arith, count_append p xs ys)

refuse_none : (es : List Entry) (p : Waiting → Bool) (ws : List Waiting) → (count is_grant (map told_of (refuse es p ws)) ≡ 0) × (count tells_release (map told_of (refuse es p ws)) ≡ 0)
unfolding count
refuse_none es p [] = (refl, refl)
refuse_none es p (w ∷ ws) = go (p w) (refuse_none es p ws)
  where
    rs : List Answer
    rs = refuse es p ws

    go : (b : Bool) → (count is_grant (map told_of rs) ≡ 0) × (count tells_release (map told_of rs) ≡ 0)
        → (count is_grant (map told_of (cond b rs (tell es w.slot 0 true ∷ rs))) ≡ 0) × (count tells_release (map told_of (cond b rs (tell es w.slot 0 true ∷ rs))) ≡ 0)
    go true h = h
    go false h = (omega arith, omega arith)

-- the pass grants what it answers
abbrev Passing : List Entry → Locks.Passed → Type 0
Passing es r = (locks_held r.entries ≡ locks_held es + count is_grant (map told_of r.answers)) × (count tells_release (map told_of r.answers) ≡ 0)

pass_count : (now : ℕ) (ws : List Waiting) (es : List Entry) → Good es ws → Passing es (pass_over now ws es)
unfolding pass_over count
pass_count now [] es g = (omega arith, refl)
pass_count now (w ∷ ws) es g = go (may_grant es w.slot w.string) (λ es g. pass_count now ws es g)
  where
    go : (b : Bool) → ((es : List Entry) → Good es ws → Passing es (pass_over now ws es)) → Passing es (put b w es (pass_over now ws (after now b w es)))
    go true ih =
        let e = at es w.slot in
        let r = ih (grant now es w.slot w.string) (good_apart es w.slot _ ws g.1 g.2) in
        let one = granted now es w.slot w.string (and_l (live e) _ g.0) (not_of (holds w.string e) (and_r (live e) _ g.0)) in
        (omega arith, omega arith)
    go false ih = ih es g.2

-- an event
abbrev lost_in : List Entry → LockEvent → ℕ
lost_in es Locks.nothing = 0
lost_in es (Locks.enter i n c) = 0
lost_in es (Locks.join i c) = 0
lost_in es (Locks.request i t k) = 0
lost_in es (Locks.release i n) = 0
lost_in es (Locks.command i n) = 0
lost_in es (Locks.clear i) = 0
lost_in es (Locks.close i) = locks_of (at es i)
lost_in es (Locks.reading t) = 0

abbrev Even : Locks → List Entry → List Answer → ℕ → Type 0
Even l es xs n = locks_held l.entries + count is_grant (map told_of xs) ≡ count tells_release (map told_of xs) + n + locks_held es

-- releases: a lock that is freed and answered was held
free_even : (l : Locks) (i n : ℕ) (t x s b : Bool) → live (at l.entries i) ≡ true → (at l.entries i).exclusive ≡ x → no_shared (at l.entries i) ≡ s
    → Even l (Locks.released (Locks.releasing t x s b) l i n).locks.entries (Locks.released (Locks.releasing t x s b) l i n).answers 0
unfolding count
free_even l i n true x s b v ex es = omega arith
free_even l i n false true s true v ex es = omega (arith, rw ex at (held_set l.entries i (Locks.without exclusive_lock (at l.entries i)) v))
free_even l i n false true s false v ex es = omega (arith, held_same l.entries i (Locks.with_order (at l.entries i).last (release_of exclusive_lock n) (at l.entries i)) refl)
free_even l i n false false false true v ex es = omega (arith, rw es at (held_set l.entries i (Locks.without shared_lock (at l.entries i)) v))
free_even l i n false false false false v ex es = omega (arith, held_same l.entries i (Locks.with_order (at l.entries i).last (release_of shared_lock n) (at l.entries i)) refl)
free_even l i n false false true b v ex es = omega arith

complete_even : (l : Locks) (i n : ℕ) (u : Locks.Due) → live (at l.entries i) ≡ true → Owed u (at l.entries i) →
    Even l (Locks.completed u l i n).locks.entries (Locks.completed u l i n).answers 0
unfolding count
complete_even l i n Locks.not_due v o = omega (arith, held_same l.entries i (Locks.with_order n (at l.entries i).standing (at l.entries i)) refl)
complete_even l i n (Locks.due_now exclusive_lock) v o = omega (arith, rw o at (held_set l.entries i (Locks.with_order n no_release (Locks.without exclusive_lock (at l.entries i))) v))
complete_even l i n (Locks.due_now shared_lock) v o = omega (arith, rw o at (held_set l.entries i (Locks.with_order n no_release (Locks.without shared_lock (at l.entries i))) v))

module _ (l : Locks) (g : Good l.entries l.waiting) (f : Firm l.entries) where
  abbrev EvenL : LockResult → ℕ → Type 0
  EvenL x n = Even l x.locks.entries x.answers n

  ask_even : (i t : ℕ) (k : List ℕ) (h a s m z : Bool) → live (at l.entries i) ≡ true → holds k (at l.entries i) ≡ h → EvenL (Locks.respond (Locks.ruling h a s m z) l i t k) 0
  unfolding count
  ask_even i t k true a s m z v eh = omega arith
  ask_even i t k false false s m z v eh = omega arith
  ask_even i t k false true true m z v eh = omega arith
  ask_even i t k false true false true z v eh = omega (arith, granted l.clock l.entries i k v eh)
  ask_even i t k false true false false true v eh = omega arith
  ask_even i t k false true false false false v eh = omega arith

  vacant_none : (e : Entry) → live e ≡ false → clean e ≡ true → locks_of e ≡ 0
  vacant_none e v c =
      let b : (Locks.no_exclusive e && no_shared e) ≡ true = rw v at c in
      rw (not_of e.exclusive (and_l (Locks.no_exclusive e) _ b), and_r (Locks.no_exclusive e) _ b)

  change_even : (e : LockEvent) → Fit l.entries e → EvenL (change l e) (lost_in l.entries e)
  unfolding change count
  change_even Locks.nothing x = omega arith
  change_even (Locks.enter i n c) x = omega (arith, held_same l.entries i (Locks.opened n c) (sym (vacant_none (at l.entries i) x.vacant (all_at clean l.entries i refl f.clean_all))))
  change_even (Locks.join i c) x = omega (arith, held_same l.entries i (Locks.joined c (at l.entries i)) refl)
  change_even (Locks.request i t k) x = ask_even i t k (holds k (at l.entries i)) _ _ _ _ x refl
  change_even (Locks.release i n) x = free_even l i n (Locks.stands (at l.entries i).standing) (at l.entries i).exclusive
      (no_shared (at l.entries i)) (eqb (at l.entries i).last n) x refl refl
  change_even (Locks.command i n) x = complete_even l i n (Locks.due_at n (at l.entries i).standing) x (owed_at n (at l.entries i).standing (at l.entries i) (backed_at l.entries i f))
  change_even (Locks.clear i) x =
      let u = Locks.due_any (at l.entries i).standing in
      let l' = Locks.with_waiting l (Rattle.model.specs.Lists.keep (elsewhere i) l.waiting) in
      let r = refuse_none l.entries (elsewhere i) l.waiting in
      let h = complete_even l' i before_first u x (owed_any (at l.entries i).standing (at l.entries i) (backed_at l.entries i f)) in
      rw (
        map_append (refuse l.entries (elsewhere i) l.waiting) (Locks.completed u l' i before_first).answers,
        count_append is_grant
            (map told_of (refuse l.entries (elsewhere i) l.waiting)),
        count_append tells_release
            (map told_of (refuse l.entries (elsewhere i) l.waiting)),
      ) (omega arith)
  change_even (Locks.close i) x = omega (arith, held_blank l.entries i)
  change_even (Locks.reading t) x = let r = refuse_none l.entries (Locks.unexpired t) l.waiting in omega arith

  -- with its pass
  event_even : (e : LockEvent) → Fit l.entries e
      → Even l (grant_pass (change l e).locks).locks.entries ((change l e).answers ++ (grant_pass (change l e).locks).answers) (lost_in l.entries e)
  unfolding grant_pass
  event_even e x =
      let c = change l e in
      let h = change_even e x in
      let r = pass_count c.locks.clock c.locks.waiting c.locks.entries (change_sound l g f e x).good in
      rw (
        map_append c.answers (pass_over c.locks.clock c.locks.waiting c.locks.entries).answers,
        count_append is_grant
            (map told_of c.answers),
        count_append tells_release (map told_of c.answers),
      ) (omega arith)

-- the locks of a connection's session
conn_own : (ss : List Session) (es : List Entry) → Same ss es → Firm es → (c : ℕ) → (c ≡ no_connection → ⊥) → (p : Session → Bool) → p (as_session blank) ≡ false
    → tally (λ s. on c s && p s) ss ≡ one (p (as_session (at es (slot_in es c))))
conn_own ss es s f c r p b = s (λ x. on c x && p x) ∙ tally_seen (λ x. on c x && p x) es ∙ go (place_sound es c)
  where
    i : ℕ
    i = slot_in es c

    off : (j : ℕ) → (is_on_connection c (at es j) ≡ true → ⊥) → lower (λ x. on c x && p x) (at es j) ≡ false
    off j n = while (live (at es j)) _ false (λ u. ap (λ z. z && p (as_session (at es j))) (on_seen c (at es j) r ∙ isn't _ (λ h. n (both _ _ u h)))) ∙ and_last (live (at es j))
      where
        and_last : (a : Bool) → (a && false) ≡ false
        and_last true = refl
        and_last false = refl

    none-tally : (es : List Entry) → tally (λ e. false) es ≡ 0
    none-tally [] = refl
    none-tally (x ∷ es) = none-tally es

    none-but : (es : List Entry) (i : ℕ) → tally_but (λ e. false) i es ≡ 0
    none-but [] i = refl
    none-but (x ∷ es) zero = none-tally es
    none-but (x ∷ es) (suc i) = omega (arith, none-but es i)

    go : (is_on_connection c (at es i) ≡ true) ⊎ (at es i ≡ blank) → tally (lower (λ x. on c x && p x)) es ≡ one (p (as_session (at es i)))
    go (inl h) =
        tally_split (lower (λ x. on c x && p x)) es i (inside (is_on_connection c) es i refl h)
        ∙ ap₂ (λ (x : Bool) (n : ℕ). one x + n) (ap₂ (λ (y z : Bool). y && (z && p (as_session (at es i)))) (and_l (live (at es i)) _ h)
        (on_seen c (at es i) r ∙ and_r (live (at es i)) _ h))
        (tally_but_cong _ (λ e. false) es i (λ j d. off j (λ h'. d (f.connections c r j i h' h))) ∙ none-but es i)
        ∙ omega arith
    go (inr h) =
        tally_cong _ (λ e. false) es (λ j. off j (λ h'. true≢false (sym (place_complete es c j h') ∙ ap (is_on_connection c) h)))
        ∙ none-tally es
        ∙ sym (ap one (ap (λ e. p (as_session e)) h ∙ b))

drops : (d : Server) (m : Model) → Agrees d.locks m → Inv d.locks → (c : ℕ) → (c ≡ no_connection → ⊥) → locks_on c m.sessions ≡ locks_of (at d.locks.entries (slot_of d c))
drops d m a i c r =
    rw (
      conn_own m.sessions d.locks.entries a.sessions i.sound.firm c r (λ s. s.exclusive) refl,
      conn_own m.sessions d.locks.entries
          a.sessions i.sound.firm c r (λ s. not (not_shared s)) refl,
    )
    (flip (no_shared (at d.locks.entries (slot_of d c))))
  where
    flip : (b : Bool) → cond (at d.locks.entries (slot_of d c)).exclusive 1 0 + cond (not b) 1 0 ≡ cond (at d.locks.entries (slot_of d c)).exclusive 1 0 + cond b 0 1
    flip true = refl
    flip false = refl

-- what the lock model drops, the server's event loses
module _ (d : Server) (m : Model) (a : Agrees d.locks m) (i : Inv d.locks) where
  abbrev Lost : Fed → LockEvent → Type 0
  Lost f e = lost m f ≡ lost_in d.locks.entries e

  opens_lost : (b : Bool) (c : ℕ) (h : Header) (bs : List ℕ) (room : ℕ) → Lost (feed (delivery c bs room) (Acts.opens b d c h).reply) (Acts.opens b d c h).event
  opens_lost true c h bs room = refl
  opens_lost false c h bs room = refl

  lock_lost : (b : Bool) (j : ℕ) (h : Header) (p : List ℕ) → 0 ≡ lost_in d.locks.entries (Acts.lock_event b j h p)
  lock_lost true j h p = refl
  lock_lost false j h p = refl

  async_lost : (k : Acts.AsynchronousKind) (j : ℕ) (h : Header) (p : List ℕ) → 0 ≡ lost_in d.locks.entries (Acts.asynchronous_event k j h p)
  unfolding Acts.asynchronous_event
  async_lost Acts.k_lock j h p = lock_lost (eqb h.code 0) j h p
  async_lost Acts.k_remote_local j h p = refl
  async_lost Acts.k_maximum_size j h p = refl
  async_lost Acts.k_device_clear j h p = refl
  async_lost Acts.k_status_query j h p = refl
  async_lost Acts.k_lock_info j h p = refl

  sync_lost : (k : Acts.SynchronousKind) (j : ℕ) (h : Header) → 0 ≡ lost_in d.locks.entries (Acts.synchronous_event k j h)
  sync_lost Acts.k_data j h = refl
  sync_lost Acts.k_data_end j h = refl
  sync_lost Acts.k_trigger j h = refl
  sync_lost Acts.k_clear_complete j h = refl

  acts_lost : (r : Role) (c j : ℕ) (h : Header) (p bs : List ℕ) (room : ℕ) → Lost (feed (delivery c bs room) (Acts.acts r d j c h p).reply) (Acts.acts r d j c h p).event
  unfolding Acts.acts
  acts_lost r_none c j h p bs room = opens_lost (eqb h.kind 0) c h bs room
  acts_lost r_half_open c j h p bs room = refl
  acts_lost r_synchronous c j h p bs room = sync_lost (Acts.synchronous_kind h.kind) j h
  acts_lost r_asynchronous c j h p bs room = async_lost (Acts.asynchronous_kind h.kind) j h p

  effect_lost : (c : ℕ) (bs : List ℕ) (room : ℕ) → (c ≡ no_connection → ⊥) → (v : Verdict) (s : Scan) (r : Role)
      → Lost (feed (delivery c bs room) (effect v s r d (slot_of d c) c).reply) (effect v s r d (slot_of d c) c).event
  unfolding effect
  effect_lost c bs room n v_more s r = refl
  effect_lost c bs room n v_held s r = refl
  effect_lost c bs room n v_skipped s r = refl
  effect_lost c bs room n v_ignored s r = refl
  effect_lost c bs room n (v_error x) s r = refl
  effect_lost c bs room n (v_fatal x) s r = drops d m a i c n
  effect_lost c bs room n v_closed s r = drops d m a i c n
  effect_lost c bs room n v_acts empty r = refl
  effect_lost c bs room n v_acts few r = refl
  effect_lost c bs room n v_acts wrong r = refl
  effect_lost c bs room n v_acts (skipping x) r = refl
  effect_lost c bs room n v_acts (long x) r = refl
  effect_lost c bs room n v_acts (part x) r = refl
  effect_lost c bs room n v_acts (whole h p) r = acts_lost r c (slot_of d c) h p bs room

  plan_lost : (e : Event) → refusal d e ≡ 0 → Lost (feed e (plan d e).reply) (plan d e).event
  unfolding plan received
  plan_lost (opening c) z = refl
  plan_lost (delivery c bs room) z = effect_lost c bs room (real_delivery d c bs room z) _ _ _
  plan_lost (cut c room) z = drops d m a i c (real_cut d c room z)
  plan_lost (clock t room) z = refl
  plan_lost (answer n p end sh room) z = go (withholds d n end sh)
    where
      go : (w : Bool) → Lost (feed (answer n p end sh room) (cond w Reply.withheld Reply.done)) LockEvent.nothing
      go true = refl
      go false = refl
  plan_lost (status b) z = refl
  plan_lost (setting s) z = refl

  -- one call
  call_even : (e : Event) → locks_held d.locks.entries + count is_grant (model_step m (feed e (step d e).reply)).told
      ≡ count tells_release (model_step m (feed e (step d e).reply)).told + lost m (feed e (step d e).reply) + locks_held (step d e).server.locks.entries
  unfolding step answered finish model_step count
  call_even e = go (refusal d e) refl
    where
      go : (n : ℕ) → refusal d e ≡ n → locks_held d.locks.entries + count is_grant (model_step m (feed e (answered n d e).reply)).told
          ≡ count tells_release (model_step m (feed e (answered n d e).reply)).told + lost m (feed e (answered n d e).reply) + locks_held (answered n d e).server.locks.entries
      go zero z =
          let f = plan_fit d e i z in
          rw (always_settled d.locks i (plan d e).event f, (call_core d m e a i z).told, plan_lost e z) (event_even d.locks i.sound.good i.sound.firm (plan d e).event f)
      go (suc n) z = omega arith

-- the whole list
pub balances : (es : List Event) (d : Server) (m : Model) → Agrees d.locks m → Inv d.locks → Balanced d m es
unfolding final log model_run dropped count
balances [] d m a i = record { balance = omega arith }
balances (e ∷ es) d m a i =
    let x = model_step m (feed e (step d e).reply) in
    let h = call_even d m a i e in
    let ih = balances es (step d e).server x.model (call_locks d m e a i) (inv_call d e i) in
    record { balance = rw (count_append is_grant x.told, count_append tells_release x.told) (omega (arith, h, ih.balance)) }

pub counted : (v : Making) (es : List Event) → Count v es
unfolding locks_held
counted v es = record { balance = omega (arith, (balances es (fresh v) fresh_model (fresh_agrees v) inv_fresh).balance) }
