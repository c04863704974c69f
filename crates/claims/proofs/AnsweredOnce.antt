-- Answered once: a request that waits, from call to call, by the table of locality.
use mathlib.Core.Path.{◌≡◌, refl, sym, ap, ap₂, subst, ◌∙◌}
use mathlib.Core.Bool.{Bool, true, false, not, ◌&&◌, ◌||◌, cond, true≢false}
use mathlib.Core.List.{List, [], ◌∷◌, ◌++◌, map}
use mathlib.Core.Logic.{◌⊎◌, inl, inr}
use Prim.Native.Nat.{ℕ, ◌+◌, ◌<◌}
use native.Mathlib.Omega.{arith}
use lib.Dec.{eqb, leb, ltb}
use lib.ListN.{length}
use borrow.Author.Tests.{eqb-true, eqb-false, eq-eqb, ne_eqb}
use Rattle.wire.specs.Message.{header, message_of}
use Rattle.wire.specs.Class.{one_of, class_of}
use Rattle.model.specs.Sizes.{no_connection, string_limit}
use Rattle.model.specs.MessageTypes.{AsyncLock}
use Rattle.model.specs.Lists.{all, keep}
use Rattle.model.specs.State.{Server, Locks, Entry, Waiting, Standing, Standing.no_release, Standing.release_of, Kind.exclusive_lock, Kind.shared_lock, at, live, blank, slot_of_number, fresh, Making}
use Rattle.model.specs.Interface.{Event, Event.delivery, Outcome.acted, Reply, Reply.took}
use Rattle.model.specs.Place.{is_on_connection, slot_in, slot_of, entry_of, Role.r_asynchronous, role_of}
use Rattle.model.specs.Locks.{Answer, LockEvent.request, elsewhere, no_place, holds, may_grant, stands, ruling, respond, change}
use Rattle.model.specs.Step.{Result, finish, lock_frame, step, final, log}
use Rattle.model.specs.Happening.{Heard, Action, Happening, Happening.unmoved, Happening.connected, Happening.disconnected, Happening.skipped_over}
use Rattle.model.specs.Happening.{Happening.errored, Happening.message_acted, Happening.clock_read, Happening.status_set, Happening.setting_made}
use Rattle.model.specs.Happening.{Happening.answer_sent, Happening.answer_withheld, heard, happened}
use Rattle.model.specs.LocalityRows.{kind_of, slot_acted, in_slot, asynchronous_row, synchronous_row, number_row, is_silence, ended_with, waits, requests_of, reached_by, requests_left, looks_after}
use Rattle.model.specs.LocalityReplies.{waiting_answer}
use Rattle.model.specs.Locality.{at_call, Local}
use Rattle.model.specs.NextQuestion.{synchronous_of}
use Rattle.model.specs.AnsweredOnce.{codes_to, Release, Release.none_stands, answered_to, release_after, Call, Call.closes, Call.expires, Call.clears, Call.other}
use Rattle.model.specs.AnsweredOnce.{call_of, takes_connection, NoMore, Meets, Once, clock_in, AnsweredOnce}
use Rattle.model.proofs.Basics.{and_l, and_r, both, or_of, or_r, or→, not_of, inside, all_keep}
use Rattle.claims.proofs.Invariant.{Inv, Good}
use Rattle.model.proofs.Place.{place_sound, place_unique, async_live}
use Rattle.claims.proofs.Numbers.{live_number, live_found}
use Rattle.claims.proofs.Fits.{real_delivery, inv_call, inv_run}
use Rattle.claims.proofs.Replies.{accepted}
use Rattle.claims.proofs.Deciding.{async_own}
use Rattle.claims.proofs.Fewer.{step_request, request_step}
use Rattle.claims.proofs.Sending.{role_of_async}
use Rattle.claims.proofs.NextQuestion.{first_is}
use Rattle.claims.proofs.Locality.{local_call, local_run, exchange_slots}
use Rattle.claims.proofs.WaitingOne.{One, None, all_imp, all_and, keep_one, keep_gone, look_all, look_one, snoc_one, new_one, good_none, one_none, away, codes_none, codes_one}
use Rattle.model.specs.GrantsSeen.{to_waiting}
use Rattle.claims.proofs.AnsweredFrames.{taken}
use Rattle.claims.proofs.AnsweredQuiet.{ActedFacts, Facts, acted_facts, facts, codes, away_due, away_after, quiet_after, is_lock_lem, lefts, newest, comes, sized_call, second_call, second_run}
use Rattle.claims.proofs.AnsweredRead.{release_from, Known, codes_read, known_after, quiet_list}

-- the request of the session in slot j, with connections c and s and standing release p, waits until t
pub record Waits (c s t j : ℕ) (p : Release) (d : Server) : Type 0 where
  pub inv : Inv d.locks
  pub sized : length d.rest.exchanges ≡ length d.locks.entries
  pub alive : live (at d.locks.entries j) ≡ true
  pub second : (at d.locks.entries j).asynchronous ≡ c
  pub first : (at d.locks.entries j).synchronous ≡ s
  pub one : One j t d.locks.waiting
  pub known : Known c s p d.locks.entries
  pub seconds : all (away no_connection 0 d.locks.entries) d.locks.waiting ≡ true

module _ (c : ℕ) (real : c ≡ no_connection → ⊥) (s t j : ℕ) (p : Release) (d : Server) (k : Waits c s t j p d) where
  abbrev E : List Entry
  E = d.locks.entries

  abbrev W : List Waiting
  W = d.locks.waiting

  -- of slot j, or not on connection c
  abbrev apart_from : Waiting → Bool
  apart_from w = eqb w.slot j || away c 0 E w

  own_connection : is_on_connection c (at E j) ≡ true
  own_connection = both _ _ k.alive (or_r (eqb (at E j).synchronous c) _ (eq-eqb _ _ k.second))

  others : (ws : List Waiting) → Good E ws → all apart_from ws ≡ true
  others [] g = refl
  others (w ∷ ws) g = both _ _ (go (eqb w.slot j) (eqb (at E w.slot).asynchronous c) refl refl) (others ws g.2)
    where
      go : (x y : Bool) → eqb w.slot j ≡ x → eqb (at E w.slot).asynchronous c ≡ y → (x || not y) ≡ true
      go true y ex ey = refl
      go false false ex ey = refl
      go false true ex ey =
          let on : is_on_connection c (at E w.slot) ≡ true = both _ _ (and_l (live (at E w.slot)) _ g.0) (or_r (eqb (at E w.slot).synchronous c) _ ey) in
          absurd (eqb-false _ _ ex (k.inv.sound.firm.connections c real w.slot j on own_connection))

  all_others : all apart_from W ≡ true
  all_others = others W k.inv.sound.good

  away_of : (ws : List Waiting) → all apart_from ws ≡ true → None j ws → all (away c 0 E) ws ≡ true
  away_of ws a n = all_imp (λ w. apart_from w && elsewhere j w) (away c 0 E) drops ws (all_and apart_from (elsewhere j) ws a n)
    where
      drops : (w : Waiting) → (apart_from w && elsewhere j w) ≡ true → away c 0 E w ≡ true
      drops w h = go (eqb w.slot j) h
        where
          go : (b : Bool) → ((b || away c 0 E w) && not b) ≡ true → away c 0 E w ≡ true
          go true h = absurd (true≢false (sym (and_r (true || away c 0 E w) (not true) h)))
          go false h = and_l (away c 0 E w) true h

  module _ (h : Happening) (r : Result) (l : Local d h r) (f : Facts d h r.frames) (v' : Inv r.server.locks) where
    abbrev A : List ℕ
    A = codes_to c (to_waiting h r.frames)

    abbrev left₀ : List Waiting
    left₀ = requests_left E d.locks.clock h W

    abbrev Quieted : Type 0
    Quieted = all (away c 0 r.server.locks.entries) r.server.locks.waiting ≡ true

    A-is : A ≡ codes_to c (map (waiting_answer 0 E) (taken d h)) ++ codes_to c (map (waiting_answer 1 l.due) l.granted)
    A-is = codes c real d h r l f k.inv v'

    -- it is dropped, with these codes
    dropped : (xs : List ℕ) → takes_connection c h ≡ false → codes_to c (map (waiting_answer 0 E) (taken d h)) ≡ xs → all apart_from left₀ ≡ true → None j left₀ → (A ≡ xs ++ []) × Quieted
    dropped xs n e a o =
        let x = quiet_after c real d h r l f k.inv v' n (away_of left₀ a o) in
        (A-is ∙ ap₂ ◌++◌ e x.0, x.1)

    -- the session stays
    abbrev Same : Type 0
    Same = ((at r.server.locks.entries j).number ≡ (at E j).number) × ((at r.server.locks.entries j).synchronous ≡ (at E j).synchronous)
        × ((at r.server.locks.entries j).asynchronous ≡ (at E j).asynchronous) × ((at l.due j).asynchronous ≡ (at E j).asynchronous)

    abbrev On : Type 0
    On = ((A ≡ []) × (One j t r.server.locks.waiting)) ⊎ ((A ≡ 1 ∷ []) × Quieted)

    looked : takes_connection c h ≡ false → all (away c 0 E) (taken d h) ≡ true → all apart_from left₀ ≡ true → One j t left₀ → Same → On
    looked n a b o m = go (look_one d.locks.clock j t (looks_after E h) l.due left₀ r.server.locks.entries r.server.locks.waiting l.granted l.waiting o)
      where
        q : (all apart_from r.server.locks.waiting ≡ true) × (all apart_from l.granted ≡ true)
        q = look_all d.locks.clock apart_from (looks_after E h) l.due left₀ r.server.locks.entries r.server.locks.waiting l.granted l.waiting b

        none_taken : codes_to c (map (waiting_answer 0 E) (taken d h)) ≡ []
        none_taken = codes_none c 0 E (taken d h) a

        due_apart : (w : Waiting) → apart_from w ≡ true → (eqb w.slot j || away c 1 l.due w) ≡ true
        due_apart w e = by (eqb w.slot j) e
          where
            by : (x : Bool) → (x || away c 0 E w) ≡ true → (x || away c 1 l.due w) ≡ true
            by true e = refl
            by false e = ap not (away_due c real d h r l f k.inv v' n w.slot (not_of _ e))

        go : (One j t r.server.locks.waiting × None j l.granted) ⊎ (None j r.server.locks.waiting × One j t l.granted) → On
        go (inl x) =
            inl (
              A-is ∙ ap₂ ◌++◌ none_taken (codes_none c 1 l.due l.granted
                  (all_imp (away c 0 E) (away c 1 l.due) (λ w e. ap not (away_due c real d h r l f k.inv v' n w.slot (not_of _ e))) l.granted
                  (away_of l.granted q.1 x.1))),
              x.0,
            )
        go (inr x) =
            inr (
              A-is ∙ ap₂ ◌++◌ none_taken (codes_one c 1 l.due j t (m.3 ∙ k.second) l.granted
                  (all_imp apart_from (λ w. eqb w.slot j || away c 1 l.due w) due_apart l.granted q.1) x.1),
              all_imp (away c 0 E) (away c 0 r.server.locks.entries) (λ w e. ap not (away_after c real d h r l f k.inv v' n w.slot (not_of _ e)))
                  r.server.locks.waiting (away_of r.server.locks.waiting q.0 x.0),
            )

    -- slot j, by the rows
    within : j < length E
    within = inside live E j refl k.alive

    rows : in_slot number_row E j h (at E j).number ≡ (at E j).number → in_slot synchronous_row E j h (at E j).synchronous ≡ (at E j).synchronous →
        in_slot asynchronous_row E j h (at E j).asynchronous ≡ (at E j).asynchronous → Same
    rows n s a = (l.number j within ∙ n, l.synchronous j within ∙ s, l.asynchronous j within ∙ a, ap (λ (x : Entry). x.asynchronous) (l.due_is j within) ∙ a)

    -- nothing of the session or the requests is touched
    abbrev Untouched : Type 0
    Untouched = On × Same

    calm : takes_connection c h ≡ false → taken d h ≡ [] → left₀ ≡ W → Same → Untouched
    calm n a b m = (looked n (rw a) (rw b all_others) (rw b k.one) m, m)

  -- by what happened
  abbrev Met : Happening → Result → Call → Type 0
  Met h r closes = (codes_to c (to_waiting h r.frames) ≡ []) × (all (away c 0 r.server.locks.entries) r.server.locks.waiting ≡ true)
  Met h r expires = (codes_to c (to_waiting h r.frames) ≡ 0 ∷ []) × (all (away c 0 r.server.locks.entries) r.server.locks.waiting ≡ true)
  Met h r clears = (codes_to c (to_waiting h r.frames) ≡ 0 ∷ []) × (all (away c 0 r.server.locks.entries) r.server.locks.waiting ≡ true)
  Met h r other =
      (((codes_to c (to_waiting h r.frames) ≡ []) × One j t r.server.locks.waiting) ⊎
      ((codes_to c (to_waiting h r.frames) ≡ 1 ∷ []) × (all (away c 0 r.server.locks.entries) r.server.locks.waiting ≡ true)))
      × ((at r.server.locks.entries j).number ≡ (at E j).number) × ((at r.server.locks.entries j).synchronous ≡ (at E j).synchronous)
      × ((at r.server.locks.entries j).asynchronous ≡ (at E j).asynchronous) × Unit {0}

  abbrev Meeting : Happening → Type 0
  Meeting h = (r : Result) → Local d h r → Facts d h r.frames → Inv r.server.locks → Met h r (call_of c s t h)

  plainly : (h : Happening) (r : Result) (l : Local d h r) (f : Facts d h r.frames) (v' : Inv r.server.locks) → Untouched h r l f v' → Met h r other
  plainly h r l f v' u = (u.0, u.1.0, u.1.1, u.1.2, tt)

  same_both₀ : (b : Bool) (x : ℕ) → cond b x x ≡ x
  same_both₀ true x = refl
  same_both₀ false x = refl

  -- a closing
  its_slot : (x : ℕ) → (x ≡ no_connection → ⊥) → (eqb x c || eqb x s) ≡ true → j ≡ slot_in E x
  its_slot x r e = place_unique E x j (k.inv.sound.firm.connections x r) (both _ _ k.alive (on (or→ (eqb x c) _ e)))
    where
      on : (eqb x c ≡ true) ⊎ (eqb x s ≡ true) → (eqb (at E j).synchronous x || eqb (at E j).asynchronous x) ≡ true
      on (inl q) = or_r (eqb (at E j).synchronous x) _ (eq-eqb _ _ (k.second ∙ sym (eqb-true x c q)))
      on (inr q) = or_of _ _ (eq-eqb _ _ (k.first ∙ sym (eqb-true x s q)))

  not_its_slot : (x : ℕ) → (eqb x c || eqb x s) ≡ false → slot_in E x ≡ j → ⊥
  not_its_slot x e q = go (place_sound E x)
    where
      by : (eqb (at E (slot_in E x)).synchronous x ≡ true) ⊎ (eqb (at E (slot_in E x)).asynchronous x ≡ true) → ⊥
      by (inl z) = true≢false (sym (or_r (eqb x c) _ (eq-eqb _ _ (sym (eqb-true _ _ z) ∙ ap (λ (i : ℕ). (at E i).synchronous) q ∙ k.first))) ∙ e)
      by (inr z) = true≢false (sym (or_of _ _ (eq-eqb _ _ (sym (eqb-true _ _ z) ∙ ap (λ (i : ℕ). (at E i).asynchronous) q ∙ k.second))) ∙ e)

      go : (is_on_connection x (at E (slot_in E x)) ≡ true) ⊎ (at E (slot_in E x) ≡ blank) → ⊥
      go (inl h) = by (or→ (eqb (at E (slot_in E x)).synchronous x) _ (and_r (live (at E (slot_in E x))) _ h))
      go (inr h) = true≢false (sym k.alive ∙ ap (λ (i : ℕ). live (at E i)) (sym q) ∙ ap live h)

  closing_met : (x : ℕ) (q : Heard) → Meeting (disconnected x q)
  closing_met x q r l f v' = go (eqb x c || eqb x s) refl
    where
      go : (b : Bool) → (eqb x c || eqb x s) ≡ b → Met (disconnected x q) r (cond b closes other)
      go true e =
          let gone : None j (keep (λ w. not (requests_of (slot_in E x) w)) W) = keep_gone j t (λ w. not (requests_of (slot_in E x) w)) (λ w z y. ap not (eq-eqb _ _ (z ∙ its_slot x f e))) W k.one in
          dropped (disconnected x q) r l f v' [] refl refl (all_keep apart_from (λ w. not (requests_of (slot_in E x) w)) W all_others) gone
      go false e =
          let far : eqb j (slot_in E x) ≡ false = ne_eqb _ _ (λ z. not_its_slot x e (sym z)) in
          let m : Same (disconnected x q) r l f v' = rows (disconnected x q) r l f v' (rw far) (rw far) (rw far) in
          plainly (disconnected x q) r l f v' (
            looked (disconnected x q) r l f v' refl refl (all_keep apart_from (λ w. not (requests_of (slot_in E x) w)) W all_others)
                (keep_one j t (λ w. not (requests_of (slot_in E x) w)) (λ w z y. ap not (ap (λ (i : ℕ). eqb i (slot_in E x)) z ∙ far)) W k.one) m,
            m,
          )

  -- a clock reading
  reading_met : (u : ℕ) → Meeting (clock_read u)
  reading_met u r l f v' = go (leb t u) refl
    where
      go : (b : Bool) → leb t u ≡ b → Met (clock_read u) r (cond b expires other)
      go true e =
          dropped (clock_read u) r l f v' (0 ∷ []) refl
          (codes_one c 0 E j t k.second (keep (reached_by u) W) (all_keep apart_from (reached_by u) W all_others) (keep_one j t (reached_by u) (λ w z y. ap (λ (i : ℕ). leb i u) y ∙ e) W k.one))
          (all_keep apart_from (λ w. not (reached_by u w)) W all_others)
          (keep_gone j t (λ w. not (reached_by u w)) (λ w z y. ap not (ap (λ (i : ℕ). leb i u) y ∙ e)) W k.one)
      go false e =
          let m : Same (clock_read u) r l f v' = rows (clock_read u) r l f v' refl refl refl in
          plainly (clock_read u) r l f v' (
            looked (clock_read u) r l f v' refl (away_of (keep (reached_by u) W) (all_keep apart_from (reached_by u) W all_others)
                (keep_gone j t (reached_by u) (λ w z y. ap (λ (i : ℕ). leb i u) y ∙ e) W k.one))
                (all_keep apart_from (λ w. not (reached_by u w)) W all_others)
                (keep_one j t (λ w. not (reached_by u w)) (λ w z y. ap not (ap (λ (i : ℕ). leb i u) y ∙ e)) W k.one)
                m,
            m,
          )

  -- a message
  module _ (a : Action) (r : Result) (l : Local d (message_acted a) r) (f : ActedFacts d a r.frames) (v' : Inv r.server.locks) where
    abbrev s₀ : ℕ
    s₀ = slot_acted E a

    no_join : takes_connection c (message_acted a) ≡ false
    no_join = go (eqb (kind_of a) 17) (eqb a.connection c) refl refl
      where
        go : (x y : Bool) → eqb (kind_of a) 17 ≡ x → eqb a.connection c ≡ y → (x && y) ≡ false
        go true true ex ey = absurd ((f.pairs (eqb-true _ _ ex)).unused j (subst (λ (i : ℕ). is_on_connection i (at E j) ≡ true) (sym (eqb-true _ _ ey)) own_connection))
        go true false ex ey = refl
        go false y ex ey = refl

    msame : Same (message_acted a) r l f v'
    msame = rows (message_acted a) r l f v' (by (eqb j s₀) refl (at E j).number a.session a.session)
        (by (eqb j s₀) refl (at E j).synchronous a.connection a.connection) (second_row (eqb j s₀) refl)
      where
        not_0 : eqb j s₀ ≡ true → eqb (kind_of a) 0 ≡ false
        not_0 e = ne_eqb _ _ (λ q. true≢false (sym k.alive ∙ ap (λ (i : ℕ). live (at E i)) (eqb-true _ _ e) ∙ f.vacant q))

        not_17 : eqb j s₀ ≡ true → eqb (kind_of a) 17 ≡ false
        not_17 e = ne_eqb _ _ (λ q. real (sym k.second ∙ ap (λ (i : ℕ). (at E i).asynchronous) (eqb-true _ _ e) ∙ (f.pairs q).half))

        by : (b : Bool) → eqb j s₀ ≡ b → (x y z : ℕ) → cond b (cond (eqb (kind_of a) 0) y x) x ≡ x
        by true e x y z = ap (λ (u : Bool). cond u y x) (not_0 e)
        by false e x y z = refl

        second_row : (b : Bool) → eqb j s₀ ≡ b → cond b (cond (eqb (kind_of a) 17) a.connection
            (cond (eqb (kind_of a) 0) no_connection (at E j).asynchronous)) (at E j).asynchronous ≡ (at E j).asynchronous
        second_row true e = ap₂ (λ (u v : Bool). cond u a.connection (cond v no_connection (at E j).asynchronous)) (not_17 e) (not_0 e)
        second_row false e = refl

    -- another session's request comes to wait
    new_comes : waits a ≡ true → Met (message_acted a) r other
    new_comes w = (
      inl (
        A-is (message_acted a) r l f v' ∙ rw (lefts d a r l f w).1 (ap (λ xs. xs ++ []) (none_taken)),
        subst (One j t) (sym (comes d a r l f w))
            (snoc_one j t (newest d a r l f w) elsewhere_new W k.one),
      ),
      msame.0,
      msame.1,
      msame.2,
      tt,
    )
      where
        not_own : s₀ ≡ j → ⊥
        not_own e = one_none j t W k.one (good_none r.server.locks.entries j (newest d a r l f w) e W (subst (Good r.server.locks.entries) (comes d a r l f w) v'.sound.good))

        elsewhere_new : elsewhere j (newest d a r l f w) ≡ true
        elsewhere_new = ap not (ne_eqb s₀ j not_own)

        none_taken : codes_to c (map (waiting_answer 0 E) (taken d (message_acted a))) ≡ []
        none_taken = ap (λ (i : ℕ). codes_to c (map (waiting_answer 0 E) (cond (eqb i 19) (keep (requests_of s₀) W) []))) (is_lock_lem d a r l f w)

    -- its own device clear, and another's
    module _ (q : kind_of a ≡ 19) where
      clear_slot : s₀ ≡ slot_in E a.connection
      clear_slot = ap (λ (i : ℕ). cond (eqb i 0) (slot_of_number E 0) (cond (eqb i 17) (slot_of_number E a.message.param) (slot_in E a.connection))) q

      clear_left : requests_left E d.locks.clock (message_acted a) W ≡ keep (λ w. not (requests_of s₀ w)) W
      clear_left = ap (λ (i : ℕ). cond (eqb i 4 && (not (eqb a.message.code 0) && is_silence a.told))
          (W ++ record { slot = s₀; deadline = d.locks.clock + a.message.param; string = a.message.payload } ∷ [])
          (cond (eqb i 19) (keep (λ w. not (requests_of s₀ w)) W) W)) q

      clear_taken : taken d (message_acted a) ≡ keep (requests_of s₀) W
      clear_taken = ap (λ (i : ℕ). cond (eqb i 19) (keep (requests_of s₀) W) []) q

      own_clear : a.connection ≡ c → Met (message_acted a) r clears
      own_clear e =
          let mine : s₀ ≡ j = clear_slot ∙ ap (slot_in E) e ∙ sym (place_unique E c j (k.inv.sound.firm.connections c real) own_connection) in
          dropped (message_acted a) r l f v' (0 ∷ []) no_join
          (ap (λ (ws : List Waiting). codes_to c (map (waiting_answer 0 E) ws)) clear_taken
          ∙ codes_one c 0 E j t k.second (keep (requests_of s₀) W) (all_keep apart_from (requests_of s₀) W all_others)
          (keep_one j t (requests_of s₀) (λ w z y. eq-eqb _ _ (z ∙ sym mine)) W k.one))
          (rw clear_left (all_keep apart_from (λ w. not (requests_of s₀ w)) W all_others))
          (rw clear_left (keep_gone j t (λ w. not (requests_of s₀ w)) (λ w z y. ap not (eq-eqb _ _ (z ∙ sym mine))) W k.one))

      others_clear : (a.connection ≡ c → ⊥) → Met (message_acted a) r other
      others_clear n =
          let second-own : (at E s₀).asynchronous ≡ a.connection = f.second (ap (one_of (4 ∷ 19 ∷ [])) q) in
          let far : (w : Waiting) → w.slot ≡ j → requests_of s₀ w ≡ false = λ w z. ne_eqb w.slot s₀ (λ e. n (sym second-own ∙ ap (λ (i : ℕ). (at E i).asynchronous) (sym e ∙ z) ∙ k.second)) in
          plainly (message_acted a) r l f v' (
            looked (message_acted a) r l f v' no_join (rw clear_taken
                (away_of (keep (requests_of s₀) W) (all_keep apart_from (requests_of s₀) W all_others)
                (keep_gone j t (requests_of s₀) (λ w z y. far w z) W k.one)))
                (rw clear_left (all_keep apart_from (λ w. not (requests_of s₀ w)) W all_others))
                (rw clear_left (keep_one j t (λ w. not (requests_of s₀ w)) (λ w z y. ap not (far w z)) W k.one))
                msame,
            msame,
          )

    message_met : Met (message_acted a) r (call_of c s t (message_acted a))
    message_met = go (eqb (kind_of a) 19) (eqb a.connection c) (waits a) refl refl refl
      where
        go : (x y z : Bool) → eqb (kind_of a) 19 ≡ x → eqb a.connection c ≡ y → waits a ≡ z → Met (message_acted a) r (cond (x && y) clears other)
        go true true z ex ey ez = own_clear (eqb-true _ _ ex) (eqb-true _ _ ey)
        go true false z ex ey ez = others_clear (eqb-true _ _ ex) (eqb-false _ _ ey)
        go false y true ex ey ez = new_comes ez
        go false y false ex ey ez = plainly (message_acted a) r l f v' (calm (message_acted a) r l f v' no_join (rw ex) (rw (ez, ex)) msame)

  met : (h : Happening) → Meeting h
  met unmoved r l f v' = plainly unmoved r l f v' (calm unmoved r l f v' refl refl refl (rows unmoved r l f v' refl refl refl))
  met (connected x) r l f v' = plainly (connected x) r l f v' (calm (connected x) r l f v' refl refl refl (rows (connected x) r l f v' refl refl refl))
  met (disconnected x q) r l f v' = closing_met x q r l f v'
  met (skipped_over x q) r l f v' = plainly (skipped_over x q) r l f v' (calm (skipped_over x q) r l f v' refl refl refl (rows (skipped_over x q) r l f v' refl refl refl))
  met (errored x g q) r l f v' = let b = eqb j (slot_in E x) && eqb (at E j).synchronous x in
      plainly (errored x g q) r l f v' (calm (errored x g q) r l f v' refl refl refl
      (rows (errored x g q) r l f v' (same_both₀ b (at E j).number) (same_both₀ b (at E j).synchronous) (same_both₀ b (at E j).asynchronous)))
  met (message_acted a) r l f v' = message_met a r l f v'
  met (clock_read u) r l f v' = reading_met u r l f v'
  met (status_set b) r l f v' = plainly (status_set b) r l f v' (calm (status_set b) r l f v' refl refl refl (rows (status_set b) r l f v' refl refl refl))
  met (setting_made s) r l f v' = plainly (setting_made s) r l f v' (calm (setting_made s) r l f v' refl refl refl (rows (setting_made s) r l f v' refl refl refl))
  met (answer_sent m p end) r l f v' = let b = eqb j (slot_of_number E m) in
      plainly (answer_sent m p end) r l f v' (calm (answer_sent m p end) r l f v' refl refl refl
      (rows (answer_sent m p end) r l f v' (same_both₀ b (at E j).number) (same_both₀ b (at E j).synchronous) (same_both₀ b (at E j).asynchronous)))
  met (answer_withheld m q) r l f v' = let b = eqb j (slot_of_number E m) in
      plainly (answer_withheld m q) r l f v' (calm (answer_withheld m q) r l f v' refl refl refl
      (rows (answer_withheld m q) r l f v' (same_both₀ b (at E j).number) (same_both₀ b (at E j).synchronous) (same_both₀ b (at E j).asynchronous)))

  -- no other session takes the connection, and none has the other one
  unjoined : (h : Happening) (r : Result) → Local d h r → Facts d h r.frames → Inv r.server.locks → takes_connection c h ≡ false
  unjoined (message_acted a) r l f v' = no_join a r l f v'
  unjoined unmoved r l f v' = refl
  unjoined (connected x) r l f v' = refl
  unjoined (disconnected x q) r l f v' = refl
  unjoined (skipped_over x q) r l f v' = refl
  unjoined (errored x g q) r l f v' = refl
  unjoined (clock_read u) r l f v' = refl
  unjoined (status_set b) r l f v' = refl
  unjoined (setting_made s) r l f v' = refl
  unjoined (answer_sent m x end) r l f v' = refl
  unjoined (answer_withheld m q) r l f v' = refl

  alone : (i : ℕ) → (s ≡ no_connection → ⊥) → live (at E i) ≡ true → (at E i).synchronous ≡ s → eqb (at E i).asynchronous c ≡ false → ⊥
  alone i n a e far =
      let same : i ≡ j = k.inv.sound.firm.connections s n i j (both _ _ a (or_of _ _ (eq-eqb _ _ e))) (both _ _ k.alive (or_of _ _ (eq-eqb _ _ k.first))) in
      eqb-false _ _ far (ap (λ (x : ℕ). (at E x).asynchronous) same ∙ k.second)

-- a list
once_list : (c : ℕ) → (c ≡ no_connection → ⊥) → (s t j : ℕ) (p : Release) (es : List Event) (d : Server) → Waits c s t j p d → Once c s t p (log d es)
unfolding log
once_list c real s t j p [] d k = tt
once_list c real s t j p (e ∷ es) d k = go (call_of c s t h₀) (met c real s t j p d k h₀ (step d e) l₀ f₀ v') (λ x. once_list c real s t j q es (step d e).server x)
  where
    h₀ : Happening
    h₀ = at_call d e

    l₀ : Local d h₀ (step d e)
    l₀ = local_call d e

    f₀ : Facts d h₀ (step d e).frames
    f₀ = facts d k.inv k.sized e (step d e).reply refl

    v' : Inv (step d e).server.locks
    v' = inv_call d e k.inv

    z' : length (step d e).server.rest.exchanges ≡ length (step d e).server.locks.entries
    z' = sized_call d e k.sized

    q : Release
    q = release_after c s h₀ p

    known' : Known c s q (step d e).server.locks.entries
    known' = known_after c real s p d k.inv k.known h₀ (step d e) l₀ f₀ (unjoined c real s t j p d k h₀ (step d e) l₀ f₀ v')

    seconds' : all (away no_connection 0 (step d e).server.locks.entries) (step d e).server.locks.waiting ≡ true
    seconds' = second_call d e k.inv k.sized k.seconds

    A : List ℕ
    A = answered_to c s p h₀ (step d e).frames

    read : A ≡ codes_to c (to_waiting h₀ (step d e).frames)
    read = codes_read c s p d h₀ (step d e) l₀ f₀ k.known (λ i n a x far. absurd (alone c real s t j p d k i n a x far))

    no_more : all (away c 0 (step d e).server.locks.entries) (step d e).server.locks.waiting ≡ true → NoMore c s q (log (step d e).server es)
    no_more a = quiet_list c real s q es (step d e).server record { inv = v'; sized = z'; none = a; second = seconds' } known'

    go : (x : Call) → Met c real s t j p d k h₀ (step d e) x → (Waits c s t j q (step d e).server → Once c s t q (log (step d e).server es)) →
        Meets x A (Once c s t q (log (step d e).server es)) (NoMore c s q (log (step d e).server es))
    go closes m rest = (read ∙ m.0, no_more m.1)
    go expires m rest = (read ∙ m.0, no_more m.1)
    go clears m rest = (read ∙ m.0, no_more m.1)
    go other m rest = by m.0
      where
        by : ((codes_to c (to_waiting h₀ (step d e).frames) ≡ []) × One j t (step d e).server.locks.waiting) ⊎
            ((codes_to c (to_waiting h₀ (step d e).frames) ≡ 1 ∷ [])
            × (all (away c 0 (step d e).server.locks.entries) (step d e).server.locks.waiting ≡ true))
            → ((A ≡ []) × Once c s t q (log (step d e).server es)) ⊎ ((A ≡ 1 ∷ []) × NoMore c s q (log (step d e).server es))
        by (inl x) =
            inl (
              read ∙ x.0,
              rest record {
                inv = v';
                sized = z';
                alive = ap (λ (i : ℕ). not (eqb i 0)) m.1 ∙ k.alive;
                second = m.3 ∙ k.second;
                first = m.2 ∙ k.first;
                one = x.1;
                known = known';
                seconds = seconds';
              },
            )
        by (inr x) = inr (read ∙ x.0, no_more x.1)

-- a request that is not answered: no release of its session stands
unstood : (l : Locks) (i t : ℕ) (k : List ℕ) → (change l (request i t k)).answers ≡ [] → (at l.entries i).standing ≡ no_release
unfolding change
unstood l i t k e =
    go (holds k (at l.entries i)) (all (elsewhere i) l.waiting) (ltb string_limit (length k)) (at l.entries i).standing (may_grant l.entries i k) (eqb t 0 || no_place l.waiting) e
  where
    go : (h a w : Bool) (x : Standing) (m z : Bool) → (respond (ruling h a (w || stands x) m z) l i t k).answers ≡ [] → x ≡ no_release
    go true a w x m z e = absurd (let y : ◌≡◌ {A = ℕ} 0 1 = cc in omega arith)
    go false false w x m z e = absurd (let y : ◌≡◌ {A = ℕ} 0 1 = cc in omega arith)
    go false true true x m z e = absurd (let y : ◌≡◌ {A = ℕ} 0 1 = cc in omega arith)
    go false true false no_release m z e = refl
    go false true false (release_of y n) m z e = absurd (let y : ◌≡◌ {A = ℕ} 0 1 = cc in omega arith)

-- it begins
module _ (v : Making) (es : List Event) (c : ℕ) (bs : List ℕ) (room k n : ℕ) (e : (step (final (fresh v) es) (delivery c bs room)).reply ≡ took acted k n)
    (q : (header bs).kind ≡ AsyncLock) (o : (header bs).code ≡ 1)
    (nothing : (step (final (fresh v) es) (delivery c bs room)).frames ≡ []) where
  abbrev D : Server
  D = final (fresh v) es

  abbrev R : Result
  R = step D (delivery c bs room)

  abbrev act : Action
  act = record { connection = c; message = message_of (header bs) bs; session = n; told = heard 5 R.frames }

  inv₀ : Inv D.locks
  inv₀ = inv_run v es

  sized₀ : length D.rest.exchanges ≡ length D.locks.entries
  sized₀ = exchange_slots es (fresh v) ∙ sym inv₀.sound.firm.slots

  local₀ : Local D (message_acted act) R
  local₀ = subst (λ (r : Reply). Local D (happened (delivery c bs room) r R.frames) R) e (local_call D (delivery c bs room))

  facts₀ : ActedFacts D act R.frames
  facts₀ = acted_facts D inv₀ sized₀ c bs room k n e

  role₀ : role_of D.locks.entries c ≡ r_asynchronous
  unfolding class_of
  role₀ = role_of_async D c bs room 4 k n e q (refl, refl)

  waits₀ : waits act ≡ true
  waits₀ = rw (q, o, nothing)

  slot₀ : slot_acted D.locks.entries act ≡ slot_of D c
  slot₀ = ap (λ (i : ℕ). cond (eqb i 0) (slot_of_number D.locks.entries 0) (cond (eqb i 17) (slot_of_number D.locks.entries (header bs).param) (slot_of D c))) q

  alive₀ : live (entry_of D c) ≡ true
  alive₀ = async_live D.locks.entries c role₀

  number₀ : n ≡ (entry_of D c).number
  number₀ = local₀.session acted k n e ∙ ap₂ (λ (i : ℕ) (x : Entry). cond (eqb i 0) n x.number) q (ap (at D.locks.entries) slot₀)

  number_slot : slot_of_number D.locks.entries n ≡ slot_of D c
  number_slot =
      let es = D.locks.entries in
      let u : (live (entry_of D c) && eqb (entry_of D c).number n) ≡ true = both _ _ alive₀ (eq-eqb _ _ (sym number₀)) in
      let x = live_number es n (slot_of D c) u in
      inv₀.sound.firm.numbers n (slot_of_number es n) (slot_of D c) (both _ _ x (eq-eqb _ _ (live_found es n x))) u

  first₀ : (entry_of D c).synchronous ≡ synchronous_of v es n
  first₀ =
      sym (first_is v es n (ap (λ (i : ℕ). live (at D.locks.entries i)) number_slot ∙ alive₀) ∙ ap (λ (i : ℕ). (at D.locks.entries i).synchronous) number_slot)

  within₀ : slot_of D c < length D.locks.entries
  within₀ = inside live D.locks.entries (slot_of D c) refl alive₀

  kind₀ : eqb (header bs).kind 0 ≡ false
  kind₀ = rw q

  kind₁ : eqb (header bs).kind 17 ≡ false
  kind₁ = rw q

  v₀ : Inv R.server.locks
  v₀ = inv_call D (delivery c bs room) inv₀

  real₀ : c ≡ no_connection → ⊥
  real₀ = real_delivery D c bs room (accepted D (delivery c bs room) acted k n e)

  unstood₀ : (entry_of D c).standing ≡ no_release
  unfolding finish
  unstood₀ =
      let r = step_request D c bs room k n e q in
      unstood D.locks (slot_of D c) r.head.param r.string (no_answers _ (sym (ap (λ (x : Result). x.frames) (request_step D c bs room r q o)) ∙ nothing))
    where
      no_answers : (xs : List Answer) → map lock_frame xs ++ [] ≡ [] → xs ≡ []
      no_answers [] e = refl
      no_answers (x ∷ xs) e = absurd (let z : ◌≡◌ {A = ℕ} 0 1 = cc in omega arith)

  waits_now : Waits c (synchronous_of v es n) (clock_in (log (fresh v) es) + (header bs).param) (slot_of D c) none_stands R.server
  waits_now =
      record {
        inv = v₀;
        sized = sized_call D (delivery c bs room) sized₀;
        alive = alive_now;
        second = second_now;
        first = first_now;
        one = subst (One (slot_of D c) (clock_in (log (fresh v) es) + (header bs).param)) (sym (comes D act R local₀ facts₀ waits₀))
            (new_one (slot_of D c) (clock_in (log (fresh v) es) + (header bs).param) (newest D act R local₀ facts₀ waits₀) slot₀
            (ap (λ (i : ℕ). i + (header bs).param) (local_run (fresh v) es).clock) D.locks.waiting none_before);
        known = known_now;
        seconds = second_call D (delivery c bs room) inv₀ sized₀ (second_run v es);
      }
    where
      kept : (b z : Bool) (x y : ℕ) → z ≡ false → cond b (cond z x y) y ≡ y
      kept true z x y e = ap (λ (u : Bool). cond u x y) e
      kept false z x y e = refl

      kept_second : (b : Bool) → cond b (cond (eqb (header bs).kind 17) c (cond (eqb (header bs).kind 0) no_connection (entry_of D c).asynchronous))
          (entry_of D c).asynchronous ≡ (entry_of D c).asynchronous
      kept_second true = ap₂ (λ (u w : Bool). cond u c (cond w no_connection (entry_of D c).asynchronous)) kind₁ kind₀
      kept_second false = refl

      now : Entry
      now = at R.server.locks.entries (slot_of D c)

      second_now : now.asynchronous ≡ c
      second_now = local₀.asynchronous (slot_of D c) within₀ ∙ kept_second (eqb (slot_of D c) (slot_acted D.locks.entries act)) ∙ async_own D.locks.entries c role₀

      first_now : now.synchronous ≡ synchronous_of v es n
      first_now = local₀.synchronous (slot_of D c) within₀ ∙ kept (eqb (slot_of D c) (slot_acted D.locks.entries act)) (eqb (header bs).kind 0) c (entry_of D c).synchronous kind₀ ∙ first₀

      alive_now : live now ≡ true
      alive_now = ap (λ (i : ℕ). not (eqb i 0)) (local₀.number (slot_of D c) within₀
          ∙ kept (eqb (slot_of D c) (slot_acted D.locks.entries act)) (eqb (header bs).kind 0) n (entry_of D c).number kind₀) ∙ alive₀

      -- no release stands: the request would have been answered 3
      standing_now : now.standing ≡ no_release
      standing_now =
          let x = entry_of D c in
          local₀.standing (slot_of D c) within₀
          ∙ row_is (eqb (slot_of D c) (slot_acted D.locks.entries act)) ((eqb (header bs).kind 4 && eqb (header bs).code 0) && is_silence act.told)
          (eqb (header bs).kind 0 || not (is_silence (ended_with act x.standing)))
          (release_of (cond x.exclusive exclusive_lock shared_lock) (header bs).param) x.standing no_release_asked unstood₀
        where
          no_release_asked : ((eqb (header bs).kind 4 && eqb (header bs).code 0) && is_silence act.told) ≡ false
          no_release_asked = rw (q, o)

          row_is : (b u w : Bool) (y x : Standing) → u ≡ false → x ≡ no_release → cond b (cond u y (cond w no_release x)) x ≡ no_release
          row_is true true w y x e f = absurd (true≢false e)
          row_is true false true y x e f = refl
          row_is true false false y x e f = f
          row_is false u w y x e f = f

      known_now : Known c (synchronous_of v es n) none_stands R.server.locks.entries
      known_now i a e =
          let here : i ≡ slot_of D c = v₀.sound.firm.connections c real₀ i (slot_of D c)
          (both _ _ a (or_r (eqb (at R.server.locks.entries i).synchronous c) _ (eq-eqb _ _ e)))
          (both _ _ alive_now (or_r (eqb now.synchronous c) _ (eq-eqb _ _ second_now))) in
          subst (λ (j : ℕ). ((at R.server.locks.entries j).synchronous ≡ synchronous_of v es n)
          × (release_from (at R.server.locks.entries j).standing ≡ none_stands)) (sym here) (first_now, ap release_from standing_now)

      none_before : None (slot_of D c) D.locks.waiting
      none_before = good_none R.server.locks.entries (slot_of D c) (newest D act R local₀ facts₀ waits₀) slot₀ D.locks.waiting
          (subst (Good R.server.locks.entries) (comes D act R local₀ facts₀ waits₀) v₀.sound.good)

  once_after : (fs : List Event) → Once c (synchronous_of v es n) (clock_in (log (fresh v) es) + (header bs).param) none_stands (log R.server fs)
  once_after fs = once_list c real₀ (synchronous_of v es n) (clock_in (log (fresh v) es) + (header bs).param) (slot_of D c) none_stands fs R.server waits_now

pub answered_once : (v : Making) (es : List Event) → AnsweredOnce v es
answered_once v es = record { once = λ c bs room k n e q o z fs. once_after v es c bs room k n e q o z fs }
