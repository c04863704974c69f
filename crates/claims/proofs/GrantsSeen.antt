-- The reader of model/specs/GrantsSeen.antt knows every live session's second connection and its grants: kept from call to call, by the table of
-- locality. Its answers are found by that connection, so it goes by that every session whose request waits has one.
use mathlib.Core.Path.{◌≡◌, refl, sym, ap, subst, ◌∙◌}
use mathlib.Core.Bool.{Bool, true, false, not, ◌&&◌, ◌||◌, cond, true≢false, false≢true}
use mathlib.Core.List.{List, [], ◌∷◌, ◌++◌, map}
use mathlib.Core.Logic.{◌⊎◌, inl, inr}
use Prim.Native.Nat.{ℕ, suc, ◌+◌, ◌<◌, ◌≤◌}
use native.Mathlib.Omega.{arith}
use lib.Dec.{eqb, ltb, lit<}
use lib.ListN.{length}
use borrow.Author.Tests.{eqb-true, eqb-false, eq-eqb, ne_eqb, lt-ltb, le-ltb, ltb-true, ltb-false}
use Rattle.wire.specs.Class.{one_of}
use Rattle.wire.specs.Frame.{Frame}
use Rattle.model.specs.Sizes.{no_connection, session_limit, grants_limit}
use Rattle.model.specs.Lists.{all, keep}
use Rattle.model.specs.State.{Server, Granted, Entry, Waiting, at, live, no_grants, slot_of_number, fresh, Making}
use Rattle.model.specs.Interface.{Event}
use Rattle.model.specs.Place.{is_on_connection, slot_in}
use Rattle.model.specs.Step.{Result, step, final, log}
use Rattle.model.specs.Happening.{Heard.silence, Action, Happening, Happening.unmoved, Happening.connected, Happening.disconnected, Happening.skipped_over}
use Rattle.model.specs.Happening.{Happening.errored, Happening.message_acted, Happening.clock_read, Happening.status_set, Happening.setting_made}
use Rattle.model.specs.Happening.{Happening.answer_sent, Happening.answer_withheld}
use Rattle.model.specs.LocalityRows.{kind_of, slot_acted, in_slot, is_code, code_where, obtains, waits, number_row, asynchronous_row, more_granted, granted_row}
use Rattle.model.specs.LocalityRows.{requests_of, requests_left, looks_after}
use Rattle.model.specs.LocalityReplies.{waiting_answer}
use Rattle.model.specs.Locality.{at_call, given_grants, Local}
use Rattle.model.specs.GrantsSeen.{Grants, none_yet, own_grants, after_own, answers_to, grants_by, grants_of, grants_of_session, at_most, last_reading, GrantsSeen}
use Rattle.model.proofs.Basics.{and_l, and_r, both, not_of, all_keep, inside, same?}
use Rattle.claims.proofs.Invariant.{Inv, Good}
use Rattle.claims.proofs.Events.{inv_fresh, blank_at}
use Rattle.claims.proofs.Fits.{inv_call}
use Rattle.claims.proofs.Locality.{local_call}
use Rattle.claims.proofs.WaitingOne.{all_imp, all_and, look_all, away}
use Rattle.claims.proofs.AnsweredFrames.{taken, frames_told}
use Rattle.claims.proofs.AnsweredQuiet
use Rattle.claims.proofs.AnsweredQuiet.{told_own, all_kept, sized_call, second_call}
use Rattle.claims.proofs.Numbering

abbrev made : ℕ → ℕ → Granted
made t n = record { granted_at = t; grants = n }

-- a session's record after answers at these readings
abbrev noted : List ℕ → Granted
noted xs = made (last_reading xs) (at_most grants_limit (length xs))

none_noted : no_grants ≡ noted []
none_noted = ap (λ (b : Bool). made 0 (cond b 0 grants_limit)) (sym (lt-ltb 0 grants_limit (lit< tt)))

-- one more
more : (m n : ℕ) → cond (ltb (at_most m n) m) (suc (at_most m n)) (at_most m n) ≡ at_most m (suc n)
more m n = go (ltb n m) refl (ltb (suc n) m) refl
  where
    go : (b : Bool) → ltb n m ≡ b → (s : Bool) → ltb (suc n) m ≡ s → cond (ltb (cond b n m) m) (suc (cond b n m)) (cond b n m) ≡ cond s (suc n) m
    go true e true f = ap (λ (b : Bool). cond b (suc n) n) e
    go true e false f =
        let x : n < m = ltb-true n m e in
        let y : m ≤ suc n = ltb-false (suc n) m f in
        let z : suc n ≡ m = omega arith in
        ap (λ (b : Bool). cond b (suc n) n) e ∙ z
    go false e true f =
        let x : m ≤ n = ltb-false n m e in
        let y : suc n < m = ltb-true (suc n) m f in
        absurd (omega arith)
    go false e false f = ap (λ (b : Bool). cond b (suc m) m) (le-ltb m m (omega arith))

one_more : (now : ℕ) (xs : List ℕ) → more_granted now (noted xs) ≡ noted (now ∷ xs)
one_more now xs = ap (made now) (more grants_limit (length xs))

module _ (now c : ℕ) where
  answers_append : (fs gs : List Frame) (xs : List ℕ) → answers_to now c (fs ++ gs) xs ≡ answers_to now c gs (answers_to now c fs xs)
  answers_append [] gs xs = refl
  answers_append (f ∷ fs) gs xs = answers_append fs gs (cond (eqb f.message.code 1 && eqb f.to c) (now ∷ xs) xs)

  -- answers 0 do not count
  zeros : (es : List Entry) (ws : List Waiting) (xs : List ℕ) → answers_to now c (map (waiting_answer 0 es) ws) xs ≡ xs
  zeros es [] xs = refl
  zeros es (w ∷ ws) xs = zeros es ws xs

  -- answers 1 do where they are to slot i's connection
  module _ (i : ℕ) (due : List Entry) (Q : Waiting → Bool) (m : (w : Waiting) → Q w ≡ true → eqb (at due w.slot).asynchronous c ≡ eqb w.slot i) where
    ones : (gs : List Waiting) (xs : List ℕ) → all Q gs ≡ true → noted (answers_to now c (map (waiting_answer 1 due) gs) xs) ≡ given_grants now gs i (noted xs)
    ones [] xs a = refl
    ones (w ∷ gs) xs a =
        ones gs (cond (eqb (at due w.slot).asynchronous c) (now ∷ xs) xs) (and_r (Q w) _ a)
        ∙ ap (given_grants now gs i) (go (eqb (at due w.slot).asynchronous c) (eqb w.slot i) (m w (and_l (Q w) _ a)))
      where
        go : (b e : Bool) → b ≡ e → noted (cond b (now ∷ xs) xs) ≡ cond e (more_granted now (noted xs)) (noted xs)
        go true true q = sym (one_more now xs)
        go false false q = refl
        go true false q = absurd (true≢false q)
        go false true q = absurd (false≢true q)

-- of each live slot
pub record Counts (d : Server) (f : ℕ → Grants) : Type 0 where
  pub inv : Inv d.locks
  pub sized : length d.rest.exchanges ≡ length d.locks.entries
  pub both_connections : all (away no_connection 0 d.locks.entries) d.locks.waiting ≡ true
  pub knows : (i : ℕ) → live (at d.locks.entries i) ≡ true
      → ((at d.locks.entries i).asynchronous ≡ (f (at d.locks.entries i).number).second)
      × ((at d.locks.entries i).locks_granted ≡ noted (f (at d.locks.entries i).number).readings)

module _ (d : Server) (f : ℕ → Grants) (g : Counts d f) (r : Result) where
  abbrev es : List Entry
  es = d.locks.entries

  abbrev es' : List Entry
  es' = r.server.locks.entries

  abbrev ws : List Waiting
  ws = d.locks.waiting

  abbrev now : ℕ
  now = d.locks.clock

  abbrev n' : ℕ → ℕ
  n' i = (at es' i).number

  abbrev Alive : ℕ → Type 0
  Alive i = live (at es' i) ≡ true

  within : (h : Happening) → Local d h r → (i : ℕ) → Alive i → i < length es
  within h l i v = subst (λ (n : ℕ). i < n) l.slots (inside live es' i refl v)

  -- a session that goes on
  lived : (i : ℕ) → Alive i → n' i ≡ (at es i).number → live (at es i) ≡ true
  lived i v e = ap (λ (n : ℕ). not (eqb n 0)) (sym e) ∙ v

  abbrev Known : ℕ → Type 0
  Known i = ((at es i).asynchronous ≡ (f (n' i)).second) × ((at es i).locks_granted ≡ noted (f (n' i)).readings)

  known : (i : ℕ) → Alive i → n' i ≡ (at es i).number → Known i
  known i v e =
      let w = g.knows i (lived i v e) in
      (w.0 ∙ ap (λ (n : ℕ). (f n).second) (sym e), w.1 ∙ ap (λ (n : ℕ). noted (f n).readings) (sym e))

  -- by its own doing
  abbrev Own : Happening → ℕ → Type 0
  Own h i =
      (in_slot asynchronous_row es i h (at es i).asynchronous ≡ (after_own now h (n' i) (f (n' i))).second)
      × (in_slot (granted_row now) es i h (at es i).locks_granted ≡ noted (after_own now h (n' i) (f (n' i))).readings)

  flat : (b : Bool) (i : ℕ) → Alive i → n' i ≡ cond b (at es i).number (at es i).number
      → (cond b (at es i).asynchronous (at es i).asynchronous ≡ (f (n' i)).second) × (cond b (at es i).locks_granted (at es i).locks_granted ≡ noted (f (n' i)).readings)
  flat true i v e = known i v e
  flat false i v e = known i v e

  not_closed : (b : Bool) (i : ℕ) → Alive i → n' i ≡ cond b 0 (at es i).number → b ≡ false
  not_closed true i v e = absurd (false≢true (ap (λ (n : ℕ). not (eqb n 0)) (sym e) ∙ v))
  not_closed false i v e = refl

  closed : (b : Bool) (i : ℕ) → Alive i → n' i ≡ cond b 0 (at es i).number
      → (cond b no_connection (at es i).asynchronous ≡ (f (n' i)).second) × (cond b no_grants (at es i).locks_granted ≡ noted (f (n' i)).readings)
  closed true i v e = absurd (true≢false (not_closed true i v e))
  closed false i v e = known i v e

  -- a message
  module _ (a : Action) (k : Numbering.ActedFacts d a) where
    abbrev t₀ : ℕ
    t₀ = kind_of a

    abbrev s₀ : ℕ
    s₀ = slot_acted es a

    abbrev number_of : Bool → ℕ → ℕ
    number_of b i = cond b (cond (eqb t₀ 0) a.session (at es i).number) (at es i).number

    -- whose message it is, by the number in the reply
    mine : (i : ℕ) → Alive i → n' i ≡ number_of (eqb i s₀) i → eqb a.session (n' i) ≡ eqb i s₀
    mine i v e = go (same? i s₀)
      where
        here : i ≡ s₀ → (z : Bool) → eqb t₀ 0 ≡ z → n' i ≡ cond z a.session (at es i).number → a.session ≡ n' i
        here x true q w = sym w
        here x false q w = k.own_number q ∙ ap (λ (j : ℕ). (at es j).number) (sym x) ∙ sym w

        there : (i ≡ s₀ → ⊥) → n' i ≡ (at es i).number → (z : Bool) → eqb t₀ 0 ≡ z → a.session ≡ n' i → ⊥
        there x w true q u = (k.enters (eqb-true _ _ q)).fresh i (both _ _ (lived i v w) (eq-eqb (at es i).number a.session (sym w ∙ sym u)))
        there x w false q u =
            let y : (at es s₀).number ≡ (at es i).number = sym (k.own_number q) ∙ u ∙ w in
            let l : live (at es s₀) ≡ true = ap (λ (n : ℕ). not (eqb n 0)) y ∙ lived i v w in
            x (g.inv.sound.firm.numbers (at es i).number i s₀ (both _ _ (lived i v w) (eq-eqb (at es i).number (at es i).number refl))
            (both _ _ l (eq-eqb (at es s₀).number (at es i).number y)))

        go : (i ≡ s₀) ⊎ (i ≡ s₀ → ⊥) → eqb a.session (n' i) ≡ eqb i s₀
        go (inl x) = eq-eqb _ _ (here x (eqb t₀ 0) refl (e ∙ ap (λ (b : Bool). number_of b i) (eq-eqb i s₀ x))) ∙ sym (eq-eqb i s₀ x)
        go (inr x) = ne_eqb _ _ (there x (e ∙ ap (λ (b : Bool). number_of b i) (ne_eqb i s₀ x)) (eqb t₀ 0) refl) ∙ sym (ne_eqb i s₀ x)

    abbrev p₀ : ℕ → Grants
    p₀ i = f (n' i)

    by_kind : (i : ℕ) → Alive i → (y z o : Bool) → eqb t₀ 17 ≡ y → eqb t₀ 0 ≡ z → obtains a ≡ o → n' i ≡ cond z a.session (at es i).number
        → (cond y a.connection (cond z no_connection (at es i).asynchronous)
        ≡ (cond y (record { second = a.connection; readings = (p₀ i).readings }) (cond z none_yet (cond o (record { second = (p₀ i).second; readings = now ∷ (p₀ i).readings }) (p₀ i)))).second)
        × (cond z no_grants (cond o (more_granted now (at es i).locks_granted) (at es i).locks_granted)
        ≡ noted (cond y (record { second = a.connection; readings = (p₀ i).readings })
        (cond z none_yet (cond o (record { second = (p₀ i).second; readings = now ∷ (p₀ i).readings }) (p₀ i)))).readings)
    by_kind i v true true o ey ez eo e = absurd (let x : t₀ ≡ 17 = eqb-true _ _ ey in let w : t₀ ≡ 0 = eqb-true _ _ ez in omega arith)
    by_kind i v true false true ey ez eo e =
        absurd (let x : t₀ ≡ 17 = eqb-true _ _ ey in let w : t₀ ≡ 4 = eqb-true _ _ (and_l (eqb t₀ 4) _ eo) in omega arith)
    by_kind i v true false false ey ez eo e = (refl, (known i v e).1)
    by_kind i v false true o ey ez eo e = (refl, none_noted)
    by_kind i v false false true ey ez eo e = let w = known i v e in (w.0, ap (more_granted now) w.1 ∙ one_more now (p₀ i).readings)
    by_kind i v false false false ey ez eo e = known i v e

    abbrev Acted : ℕ → Bool → Bool → Type 0
    Acted i b s =
        (cond b (cond (eqb t₀ 17) a.connection (cond (eqb t₀ 0) no_connection (at es i).asynchronous)) (at es i).asynchronous ≡ (cond s (own_grants now a (p₀ i)) (p₀ i)).second)
        × (cond b (cond (eqb t₀ 0) no_grants (cond (obtains a) (more_granted now (at es i).locks_granted) (at es i).locks_granted)) (at es i).locks_granted
        ≡ noted (cond s (own_grants now a (p₀ i)) (p₀ i)).readings)

    acted_by : (i : ℕ) → Alive i → (b : Bool) → n' i ≡ number_of b i → Acted i b b
    acted_by i v true e = by_kind i v (eqb t₀ 17) (eqb t₀ 0) (obtains a) refl refl refl e
    acted_by i v false e = known i v e

    acted_at : (i : ℕ) → Alive i → n' i ≡ number_of (eqb i s₀) i → Own (message_acted a) i
    acted_at i v e = subst (Acted i (eqb i s₀)) (sym (mine i v e)) (acted_by i v (eqb i s₀) e)

  own_at : (h : Happening) → Local d h r → Numbering.Facts d h → (i : ℕ) → Alive i → Own h i
  own_at unmoved l k i v = known i v (l.number i (within unmoved l i v))
  own_at (connected c) l k i v = known i v (l.number i (within (connected c) l i v))
  own_at (disconnected c j) l k i v = closed (eqb i (slot_in es c)) i v (l.number i (within (disconnected c j) l i v))
  own_at (skipped_over c j) l k i v = known i v (l.number i (within (skipped_over c j) l i v))
  own_at (errored c h j) l k i v = flat (eqb i (slot_in es c) && eqb (at es i).synchronous c) i v (l.number i (within (errored c h j) l i v))
  own_at (message_acted a) l k i v = acted_at a k i v (l.number i (within (message_acted a) l i v))
  own_at (clock_read t) l k i v = known i v (l.number i (within (clock_read t) l i v))
  own_at (status_set b) l k i v = known i v (l.number i (within (status_set b) l i v))
  own_at (setting_made s) l k i v = known i v (l.number i (within (setting_made s) l i v))
  own_at (answer_sent m p end) l k i v = flat (eqb i (slot_of_number es m)) i v (l.number i (within (answer_sent m p end) l i v))
  own_at (answer_withheld m j) l k i v = flat (eqb i (slot_of_number es m)) i v (l.number i (within (answer_withheld m j) l i v))

  -- a request that waits is of a live session with both connections
  abbrev held : Waiting → Bool
  held w = live (at es w.slot) && away no_connection 0 es w

  all_held : (us : List Waiting) → Good es us → all (away no_connection 0 es) us ≡ true → all held us ≡ true
  all_held [] q a = refl
  all_held (w ∷ us) q a = both _ _ (both _ _ (and_l (live (at es w.slot)) _ q.0) (and_l (away no_connection 0 es w) _ a)) (all_held us q.2 (and_r (away no_connection 0 es w) _ a))

  held_all : all held ws ≡ true
  held_all = all_held ws g.inv.sound.good g.both_connections

  -- where waiting requests are looked at, no session that goes on changes its second connection
  abbrev Fixed : Happening → ℕ → Type 0
  Fixed h i = in_slot asynchronous_row es i h (at es i).asynchronous ≡ (at es i).asynchronous

  module _ (a : Action) (q : looks_after es (message_acted a) ≡ true) where
    -- by its type
    abbrev look_by : ℕ → Bool
    look_by t =
        let s = (at es (slot_acted es a)).standing in
        let x = cond (eqb t 4 && eqb a.message.code 0) a.told
        (cond (one_of (6 ∷ 7 ∷ 12 ∷ []) t) (code_where (λ n. eqb n a.message.param) s) (cond (eqb t 19) (code_where (λ n. true) s) silence)) in
        is_code 1 x || is_code 2 x

    no_opening : eqb (kind_of a) 0 ≡ false
    no_opening = ne_eqb (kind_of a) 0 (λ e. true≢false (sym q ∙ ap look_by e))

    no_joining : eqb (kind_of a) 17 ≡ false
    no_joining = ne_eqb (kind_of a) 17 (λ e. true≢false (sym q ∙ ap look_by e))

    no_asking : waits a ≡ false
    no_asking = go (waits a) refl
      where
        go : (b : Bool) → waits a ≡ b → b ≡ false
        go false e = refl
        go true e =
            let is_lock_lem : kind_of a ≡ 4 = eqb-true _ _ (and_l (eqb (kind_of a) 4) _ e) in
            let asks : eqb a.message.code 0 ≡ false = not_of _ (and_l (not (eqb a.message.code 0)) _ (and_r (eqb (kind_of a) 4) _ e)) in
            absurd (true≢false (sym q ∙ ap look_by is_lock_lem ∙ ap (λ (b : Bool). is_code 1 (cond b a.told silence) || is_code 2 (cond b a.told silence)) asks))

    acted_fixed : (i : ℕ) → Fixed (message_acted a) i
    acted_fixed i = go (eqb i (slot_acted es a)) (eqb (kind_of a) 17) (eqb (kind_of a) 0) no_joining no_opening
      where
        go : (b y z : Bool) → y ≡ false → z ≡ false → cond b (cond y a.connection (cond z no_connection (at es i).asynchronous)) (at es i).asynchronous ≡ (at es i).asynchronous
        go false y z ey ez = refl
        go true false false ey ez = refl
        go true true z ey ez = absurd (true≢false ey)
        go true false true ey ez = absurd (true≢false ez)

    number_fixed : (i : ℕ) → in_slot number_row es i (message_acted a) (at es i).number ≡ (at es i).number
    number_fixed i = go (eqb i (slot_acted es a)) (eqb (kind_of a) 0) no_opening
      where
        go : (b z : Bool) → z ≡ false → cond b (cond z a.session (at es i).number) (at es i).number ≡ (at es i).number
        go false z ez = refl
        go true false ez = refl
        go true true ez = absurd (true≢false ez)

  -- a request that is left: its session is as held, and keeps its second connection
  abbrev Left : Happening → Waiting → Bool
  Left h w = held w && eqb (in_slot asynchronous_row es w.slot h (at es w.slot).asynchronous) (at es w.slot).asynchronous

  lefts : (h : Happening) → looks_after es h ≡ true → all (Left h) (requests_left es now h ws) ≡ true
  lefts unmoved q = absurd (false≢true q)
  lefts (connected c) q = absurd (false≢true q)
  lefts (disconnected c j) q =
      let p : Waiting → Bool = λ w. not (requests_of (slot_in es c) w) in
      all_imp (λ w. held w && p w) (Left (disconnected c j))
      (λ w b. both _ _ (and_l (held w) _ b)
      (eq-eqb _ _ (ap (λ (b : Bool). cond b no_connection (at es w.slot).asynchronous) (not_of (eqb w.slot (slot_in es c)) (and_r (held w) _ b)))))
      (keep p ws) (all_and held p (keep p ws) (all_keep held p ws held_all) (all_kept p ws))
  lefts (skipped_over c j) q = absurd (false≢true q)
  lefts (errored c h j) q = absurd (false≢true q)
  lefts (message_acted a) q = go (waits a) (eqb (kind_of a) 19) (no_asking a q)
    where
      fixed : (w : Waiting) → held w ≡ true → Left (message_acted a) w ≡ true
      fixed w b = both _ _ b (eq-eqb _ _ (acted_fixed a q w.slot))

      all_fixed : all (Left (message_acted a)) ws ≡ true
      all_fixed = all_imp held (Left (message_acted a)) fixed ws held_all

      go : (b y : Bool) → b ≡ false
          → all (Left (message_acted a)) (cond b (ws ++ record { slot = slot_acted es a; deadline = now + a.message.param; string = a.message.payload } ∷ [])
          (cond y (keep (λ w. not (requests_of (slot_acted es a) w)) ws) ws)) ≡ true
      go true y e = absurd (true≢false e)
      go false true e = all_keep (Left (message_acted a)) (λ w. not (requests_of (slot_acted es a) w)) ws all_fixed
      go false false e = all_fixed
  lefts (clock_read t) q = absurd (false≢true q)
  lefts (status_set b) q = absurd (false≢true q)
  lefts (setting_made s) q = absurd (false≢true q)
  lefts (answer_sent m p end) q = absurd (false≢true q)
  lefts (answer_withheld m j) q = absurd (false≢true q)

  -- and so does slot i
  goes_on : (h : Happening) → Local d h r → looks_after es h ≡ true → (i : ℕ) → Alive i → (n' i ≡ (at es i).number) × Fixed h i
  goes_on unmoved l q i v = absurd (false≢true q)
  goes_on (connected c) l q i v = absurd (false≢true q)
  goes_on (disconnected c j) l q i v =
      let e = l.number i (within (disconnected c j) l i v) in
      let o = not_closed (eqb i (slot_in es c)) i v e in
      (e ∙ ap (λ (b : Bool). cond b 0 (at es i).number) o, ap (λ (b : Bool). cond b no_connection (at es i).asynchronous) o)
  goes_on (skipped_over c j) l q i v = absurd (false≢true q)
  goes_on (errored c h j) l q i v = absurd (false≢true q)
  goes_on (message_acted a) l q i v = (l.number i (within (message_acted a) l i v) ∙ number_fixed a q i, acted_fixed a q i)
  goes_on (clock_read t) l q i v = absurd (false≢true q)
  goes_on (status_set b) l q i v = absurd (false≢true q)
  goes_on (setting_made s) l q i v = absurd (false≢true q)
  goes_on (answer_sent m p end) l q i v = absurd (false≢true q)
  goes_on (answer_withheld m j) l q i v = absurd (false≢true q)

  module _ (h : Happening) (l : Local d h r) (k : AnsweredQuiet.Facts d h r.frames) (k₂ : Numbering.Facts d h) (i : ℕ) (v : Alive i) where
    abbrev q₀ : Grants
    q₀ = after_own now h (n' i) (f (n' i))

    o₀ : Own h i
    o₀ = own_at h l k₂ i v

    -- an answer to a request that is left goes to slot i's second connection just where the request is slot i's
    to_slot : looks_after es h ≡ true → (w : Waiting) → Left h w ≡ true → eqb (at l.due w.slot).asynchronous q₀.second ≡ eqb w.slot i
    to_slot q w b = ap (λ (x : ℕ). eqb x q₀.second) due_second ∙ ap (eqb (at es w.slot).asynchronous) (sym o₀.0 ∙ goes.1) ∙ go (same? w.slot i)
      where
        goes : (n' i ≡ (at es i).number) × Fixed h i
        goes = goes_on h l q i v

        is_held : held w ≡ true
        is_held = and_l (held w) _ b

        alive : live (at es w.slot) ≡ true
        alive = and_l (live (at es w.slot)) _ is_held

        real : (at es w.slot).asynchronous ≡ no_connection → ⊥
        real = eqb-false _ _ (not_of _ (and_r (live (at es w.slot)) _ is_held))

        due_second : (at l.due w.slot).asynchronous ≡ (at es w.slot).asynchronous
        due_second = ap (λ (e : Entry). e.asynchronous) (l.due_is w.slot (inside live es w.slot refl alive)) ∙ eqb-true _ _ (and_r (held w) _ b)

        or_right : (x y : Bool) → y ≡ true → (x || y) ≡ true
        or_right true y e = refl
        or_right false y e = e

        on : (j : ℕ) → live (at es j) ≡ true → (at es j).asynchronous ≡ (at es w.slot).asynchronous → is_on_connection (at es w.slot).asynchronous (at es j) ≡ true
        on j a e = both _ _ a (or_right (eqb (at es j).synchronous (at es w.slot).asynchronous) _ (eq-eqb _ _ e))

        go : (w.slot ≡ i) ⊎ (w.slot ≡ i → ⊥) → eqb (at es w.slot).asynchronous (at es i).asynchronous ≡ eqb w.slot i
        go (inl e) = eq-eqb _ _ (ap (λ (j : ℕ). (at es j).asynchronous) e) ∙ sym (eq-eqb _ _ e)
        go (inr e) =
            ne_eqb (at es w.slot).asynchronous (at es i).asynchronous
            (λ x. e (g.inv.sound.firm.connections (at es w.slot).asynchronous real w.slot i (on w.slot alive refl)
            (on i (lived i v goes.0) (sym x))))
            ∙ sym (ne_eqb _ _ e)

    passed : noted (answers_to now q₀.second (map (waiting_answer 1 l.due) l.granted) q₀.readings) ≡ given_grants now l.granted i (noted q₀.readings)
    passed = go (looks_after es h) refl
      where
        go : (b : Bool) → looks_after es h ≡ b → noted (answers_to now q₀.second (map (waiting_answer 1 l.due) l.granted) q₀.readings) ≡ given_grants now l.granted i (noted q₀.readings)
        go true q =
            ones now q₀.second i l.due (Left h) (to_slot q) l.granted q₀.readings
            (look_all now (Left h) (looks_after es h) l.due (requests_left es now h ws) es' r.server.locks.waiting l.granted l.waiting (lefts h q)).1
        go false q =
            let x = rw q at l.waiting in
            subst (λ (gs : List Waiting). noted (answers_to now q₀.second (map (waiting_answer 1 l.due) gs) q₀.readings) ≡ given_grants now gs i (noted q₀.readings)) (sym x.2) refl

    counted : ((at es' i).asynchronous ≡ (grants_by now h r.frames (n' i) (f (n' i))).second) × ((at es' i).locks_granted ≡ noted (grants_by now h r.frames (n' i) (f (n' i))).readings)
    counted =
        let w = within h l i v in (
          l.asynchronous i w ∙ o₀.0,
          l.locks_granted_lem i w
              ∙ ap (given_grants now l.granted i) o₀.1
              ∙ sym passed
              ∙ ap noted (sym
              (ap (λ (fs : List Frame). answers_to now q₀.second fs q₀.readings) (frames_told d h r l (told_own d h r.frames k))
              ∙ answers_append now q₀.second (map (waiting_answer 0 es) (taken d h)) (map (waiting_answer 1 l.due) l.granted) q₀.readings
              ∙ ap (answers_to now q₀.second (map (waiting_answer 1 l.due) l.granted)) (zeros now q₀.second es (taken d h) q₀.readings))),
        )

counts_call : (d : Server) (f : ℕ → Grants) (e : Event) → Counts d f → Counts (step d e).server (λ n. grants_by d.locks.clock (at_call d e) (step d e).frames n (f n))
counts_call d f e g =
    let l = local_call d e in
    let k = AnsweredQuiet.facts d g.inv g.sized e (step d e).reply refl in
    let k₂ = Numbering.facts d g.inv g.sized e (step d e).reply refl in
    record {
      inv = inv_call d e g.inv;
      sized = sized_call d e g.sized;
      both_connections = second_call d e g.inv g.sized g.both_connections;
      knows = λ i v. counted d f g (step d e) (at_call d e) l k k₂ i v;
    }

-- a list: the clock goes along
counts_list : (es : List Event) (d : Server) (f : ℕ → Grants) → Counts d f → Counts (final d es) (λ n. grants_of (log d es) d.locks.clock n (f n))
unfolding final log grants_of
counts_list [] d f g = record { inv = g.inv; sized = g.sized; both_connections = g.both_connections; knows = g.knows }
counts_list (e ∷ es) d f g =
    subst (λ (t : ℕ). Counts (final (step d e).server es) (λ n. grants_of (log (step d e).server es) t n (grants_by d.locks.clock (at_call d e) (step d e).frames n (f n))))
    (local_call d e).clock
    (counts_list es (step d e).server (λ n. grants_by d.locks.clock (at_call d e) (step d e).frames n (f n)) (counts_call d f e g))

counts_fresh : (v : Making) → Counts (fresh v) (λ n. none_yet)
counts_fresh v =
    record {
      inv = inv_fresh;
      sized = refl;
      both_connections = refl;
      knows = λ i u. absurd (false≢true (rw (blank_at session_limit i) at u));
    }

pub grants_seen : (v : Making) (es : List Event) → GrantsSeen v es
grants_seen v es =
    let g : Counts (final (fresh v) es) (λ n. grants_of_session v es n) = counts_list es (fresh v) (λ n. none_yet) (counts_fresh v) in
    record {
      shows = λ j u. let w = g.knows j u in record { second = w.0; grants = ap (λ (x : Granted). x.grants) w.1; granted_at_lem = ap (λ (x : Granted). x.granted_at) w.1 };
    }
