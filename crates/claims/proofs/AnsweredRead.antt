-- The codes with which a call answers the request of a session, as a host reads them (model/specs/AnsweredOnce.antt), are those of the frames that answer
-- waiting requests, since the host knows whether a release of the session stands; and the calls after the request was answered.
use mathlib.Core.Path.{◌≡◌, refl, sym, ap, ap₂, subst, ◌∙◌}
use mathlib.Core.Bool.{Bool, true, false, not, ◌&&◌, ◌||◌, cond, true≢false}
use mathlib.Core.List.{List, [], ◌∷◌, ◌++◌, map}
use Prim.Native.Nat.{ℕ}
use native.Mathlib.Omega.{arith}
use lib.Dec.{eqb, ltb}
use lib.ListN.{length, drop}
use borrow.Author.Tests.{eqb-true, eqb-false, eq-eqb, ne_eqb, ltb-true, ltb-false}
use Rattle.wire.specs.Class.{one_of}
use Rattle.wire.specs.Frame.{Frame}
use Rattle.model.specs.Sizes.{no_connection}
use Rattle.model.specs.Lists.{all, keep}
use Rattle.model.specs.State.{Server, Entry, Waiting, Standing, Standing.no_release, Standing.release_of, Kind.exclusive_lock, Kind.shared_lock, at, live, blank, slot_of_number}
use Rattle.model.specs.Interface.{Event}
use Rattle.model.specs.Locks.{with_row, with_order}
use Rattle.model.specs.Place.{is_on_connection, slot_in}
use Rattle.model.specs.Step.{Result, step, log}
use Rattle.model.specs.Happening.{Heard, Heard.silence, Heard.with_code, Action, Happening, Happening.unmoved, Happening.connected, Happening.disconnected}
use Rattle.model.specs.Happening.{Happening.skipped_over, Happening.errored, Happening.message_acted, Happening.clock_read, Happening.status_set}
use Rattle.model.specs.Happening.{Happening.setting_made, Happening.answer_sent, Happening.answer_withheld}
use Rattle.model.specs.LocalityRows.{kind_of, slot_acted, in_slot, number_row, synchronous_row, asynchronous_row, standing_row, is_silence, code_where, ended_with, requests_of, looks_after}
use Rattle.model.specs.LocalityReplies.{said_to, waiting_answer}
use Rattle.model.specs.Locality.{at_call, Local}
use Rattle.model.specs.AnsweredOnce.{lock_only, codes_to, Release, Release.none_stands, Release.stands_for, is_standing, waits_for, asks_lock, clears_all}
use Rattle.model.specs.AnsweredOnce.{ends_release, release_after, less_release, less_own, begins_to_wait, takes_connection, less_any, NoneWaits}
use Rattle.model.specs.AnsweredOnce.{NoMore}
use Rattle.model.proofs.Basics.{and_l, and_r, both, or_of, or_r}
use Rattle.claims.proofs.Invariant.{Inv}
use Rattle.model.proofs.Place.{place_unique}
use Rattle.claims.proofs.Fits.{inv_call}
use Rattle.claims.proofs.Locality.{local_call}
use Rattle.claims.proofs.WaitingOne.{codes_append, away}
use Rattle.model.specs.GrantsSeen.{to_waiting}
use Rattle.claims.proofs.AnsweredFrames.{taken, lock_append, lock_to, lock_own, first_is, unanswered, acted_frames}
use Rattle.claims.proofs.AnsweredQuiet.{ActedFacts, Facts, facts, past, Quiet, quiet_at, sized_call, second_call}

-- the release that stands of a session, by its number
abbrev pub release_from : Standing → Release
release_from no_release = none_stands
release_from (release_of k n) = stands_for n

-- a session on connection c has s as its other one, and this release stands
abbrev pub Known : ℕ → ℕ → Release → List Entry → Type 0
Known c s p es = (i : ℕ) → live (at es i) ≡ true → (at es i).asynchronous ≡ c → ((at es i).synchronous ≡ s) × (release_from (at es i).standing ≡ p)

and_false : (b x : Bool) → x ≡ false → (b && x) ≡ false
and_false true x e = e
and_false false x e = refl

-- the codes in a frame to a connection
abbrev code_in : Heard → List ℕ
code_in silence = []
code_in (with_code k) = k ∷ []

said_here : (c : ℕ) (q : Heard) (x : ℕ) → eqb x c ≡ true → codes_to c (said_to q 5 (x ∷ [])) ≡ code_in q
said_here c silence x e = refl
said_here c (with_code k) x e = rw e

said_away : (c : ℕ) (q : Heard) (x : ℕ) → eqb x c ≡ false → codes_to c (said_to q 5 (x ∷ [])) ≡ []
said_away c silence x e = refl
said_away c (with_code k) x e = rw e

-- a release's code behind zeros
less_zeros : (c k : ℕ) (es : List Entry) (ws : List Waiting) (ys : List ℕ) → eqb k 0 ≡ false →
    less_release (codes_to c (map (waiting_answer 0 es) ws) ++ k ∷ ys) ≡ codes_to c (map (waiting_answer 0 es) ws) ++ ys
less_zeros c k es [] ys e = rw e
less_zeros c k es (w ∷ ws) ys e = go (eqb (at es w.slot).asynchronous c) (less_zeros c k es ws ys e)
  where
    go : (b : Bool) → less_release (codes_to c (map (waiting_answer 0 es) ws) ++ k ∷ ys) ≡ codes_to c (map (waiting_answer 0 es) ws) ++ ys
        → less_release (cond b (0 ∷ codes_to c (map (waiting_answer 0 es) ws)) (codes_to c (map (waiting_answer 0 es) ws)) ++ k ∷ ys) ≡ cond b
        (0 ∷ codes_to c (map (waiting_answer 0 es) ws)) (codes_to c (map (waiting_answer 0 es) ws)) ++ ys
    go true h = ap (λ zs. 0 ∷ zs) h
    go false h = h

append₃ : (xs ys zs : List ℕ) → (xs ++ ys) ++ zs ≡ xs ++ (ys ++ zs)
append₃ [] ys zs = refl
append₃ (x ∷ xs) ys zs = ap (λ us. x ∷ us) (append₃ xs ys zs)

-- what the four tests make of the codes
abbrev less : Bool → Bool → Bool → Bool → List ℕ → List ℕ
less asks ends clears stands xs = cond (asks || ends) (drop 1 xs) (cond (clears && stands) (less_release xs) xs)

-- a message that acted
module _ (c s : ℕ) (p : Release) (d : Server) (a : Action) (r : Result) (l : Local d (message_acted a) r) (f : ActedFacts d a r.frames) where
  abbrev es : List Entry
  es = d.locks.entries

  abbrev s₀ : ℕ
  s₀ = slot_acted es a

  abbrev e₀ : Entry
  e₀ = at es s₀

  abbrev t₀ : ℕ
  t₀ = kind_of a

  abbrev gs : List Frame
  gs = map (waiting_answer 1 l.due) l.granted

  abbrev g : List ℕ
  g = codes_to c gs

  abbrev ws₀ : List Waiting
  ws₀ = keep (requests_of s₀) d.locks.waiting

  abbrev zs : List ℕ
  zs = codes_to c (map (waiting_answer 0 es) ws₀)

  abbrev xs : List ℕ
  xs = codes_to c (lock_only r.frames)

  nobody : looks_after es (message_acted a) ≡ false → l.granted ≡ []
  nobody e = (rw e at l.waiting).2

  -- what the host knows; and where another session has connection s
  abbrev Knows : Type 0
  Knows = Known c s p es

  abbrev Alone : Type 0
  Alone = (i : ℕ) → (s ≡ no_connection → ⊥) → live (at es i) ≡ true → (at es i).synchronous ≡ s → eqb (at es i).asynchronous c ≡ false → codes_to c (to_waiting (message_acted a) r.frames) ≡ []

  -- what is to be read
  abbrev Reads : Bool → Bool → Bool → Type 0
  Reads x y z = less x y z (is_standing p) xs ≡ codes_to c (to_waiting (message_acted a) r.frames)

  waiting_are : codes_to c (to_waiting (message_acted a) r.frames) ≡ codes_to c (map (waiting_answer 0 es) (taken d (message_acted a))) ++ g
  waiting_are = ap (codes_to c) (acted_frames d a r.frames l.due l.granted f.told l.frames nobody) ∙ codes_append c (map (waiting_answer 0 es) (taken d (message_acted a))) gs

  waiting_grants : eqb t₀ 19 ≡ false → codes_to c (to_waiting (message_acted a) r.frames) ≡ g
  waiting_grants e = waiting_are ∙ ap (λ (b : Bool). codes_to c (map (waiting_answer 0 es) (cond b ws₀ [])) ++ g) e

  waiting_clear : eqb t₀ 19 ≡ true → codes_to c (to_waiting (message_acted a) r.frames) ≡ zs ++ g
  waiting_clear e = waiting_are ∙ ap (λ (b : Bool). codes_to c (map (waiting_answer 0 es) (cond b ws₀ [])) ++ g) e

  -- AsyncLock
  module _ (q : t₀ ≡ 4) where
    lock_not_clear : eqb t₀ 19 ≡ false
    lock_not_clear = ap (λ (t : ℕ). eqb t 19) q

    lock_codes : xs ≡ codes_to c (said_to a.told 5 (a.connection ∷ [])) ++ g
    lock_codes =
        ap (codes_to c) (first_is d a r.frames l.due l.granted f.told l.frames nobody true false (eq-eqb _ _ q) lock_not_clear
        ∙ ap (λ (fs : List Frame). fs ++ gs) (lock_own a.told a.connection))
        ∙ codes_append c (said_to a.told 5 (a.connection ∷ [])) gs

    lock_own_read : eqb a.connection c ≡ true → (y z : Bool) → Reads true y z
    lock_own_read e y z = go a.told refl
      where
        go : (h : Heard) → a.told ≡ h → drop 1 xs ≡ codes_to c (to_waiting (message_acted a) r.frames)
        go silence t =
            let none : xs ≡ [] = ap (λ (fs : List Frame). codes_to c (lock_only fs)) (unanswered d a r.frames l.due l.granted f.told l.frames nobody q t) in
            let same : xs ≡ g = lock_codes ∙ ap (λ (h : Heard). codes_to c (said_to h 5 (a.connection ∷ [])) ++ g) t in
            ap (drop 1) none ∙ sym none ∙ same ∙ sym (waiting_grants lock_not_clear)
        go (with_code m) t =
            ap (drop 1) (lock_codes ∙ ap (λ (h : Heard). codes_to c (said_to h 5 (a.connection ∷ [])) ++ g) t
            ∙ ap (λ ys. ys ++ g) (said_here c (with_code m) a.connection e)) ∙ sym (waiting_grants lock_not_clear)

    lock_other_read : eqb a.connection c ≡ false → Reads false false false
    lock_other_read e = lock_codes ∙ ap (λ ys. ys ++ g) (said_away c a.told a.connection e) ∙ sym (waiting_grants lock_not_clear)

  -- what a release that ends is answered
  ended_codes_lem : eqb t₀ 4 ≡ false → (y : Bool) → eqb t₀ 19 ≡ y →
      xs ≡ (codes_to c (cond y (map (waiting_answer 0 es) ws₀) []) ++ codes_to c (said_to (ended_with a e₀.standing) 5 (e₀.asynchronous ∷ []))) ++ g
  ended_codes_lem e y z =
      ap (codes_to c) (first_is d a r.frames l.due l.granted f.told l.frames nobody false y e z ∙ ap (λ (fs : List Frame). fs ++ gs) (locks y))
      ∙ codes_append c (cond y (map (waiting_answer 0 es) ws₀) [] ++ said) gs
      ∙ ap (λ ys. ys ++ g) (codes_append c (cond y (map (waiting_answer 0 es) ws₀) []) said)
    where
      said : List Frame
      said = said_to (ended_with a e₀.standing) 5 (e₀.asynchronous ∷ [])

      locks : (y : Bool) → lock_only (cond y (map (waiting_answer 0 es) ws₀) [] ++ said) ≡ cond y (map (waiting_answer 0 es) ws₀) [] ++ said
      locks true = lock_append (map (waiting_answer 0 es) ws₀) said ∙ ap₂ ◌++◌ (lock_to 0 es ws₀) (lock_own (ended_with a e₀.standing) e₀.asynchronous)
      locks false = lock_own (ended_with a e₀.standing) e₀.asynchronous

  -- AsyncDeviceClear
  module _ (q : t₀ ≡ 19) where
    clear_codes : xs ≡ (zs ++ codes_to c (said_to (code_where (λ n. true) e₀.standing) 5 (a.connection ∷ []))) ++ g
    clear_codes =
        ended_codes_lem (ap (λ (t : ℕ). eqb t 4) q) true (eq-eqb _ _ q)
        ∙ ap₂ (λ (h : Heard) (x : ℕ). (zs ++ codes_to c (said_to h 5 (x ∷ []))) ++ g)
        (ap (λ (t : ℕ). cond (one_of (6 ∷ 7 ∷ 12 ∷ []) t) (code_where (λ n. eqb n a.message.param) e₀.standing) (cond (eqb t 19) (code_where (λ n. true) e₀.standing) silence)) q)
        (f.second (ap (one_of (4 ∷ 19 ∷ [])) q))

    clear_own_read : Knows → eqb a.connection c ≡ true → Reads false false true
    clear_own_read k e = rw clear_codes (ap (λ ys. cond (is_standing p) (less_release ((zs ++ ys) ++ g)) ((zs ++ ys) ++ g))
        (said_here c (code_where (λ n. true) e₀.standing) a.connection e) ∙ by e₀.standing known) ∙ sym (waiting_clear (eq-eqb _ _ q))
      where
        known : release_from e₀.standing ≡ p
        known = (k s₀ (f.second_live (ap (one_of (4 ∷ 19 ∷ [])) q)) (f.second (ap (one_of (4 ∷ 19 ∷ [])) q) ∙ eqb-true _ _ e)).1

        by : (x : Standing) → release_from x ≡ p → cond (is_standing p) (less_release ((zs ++ code_in (code_where (λ n. true) x)) ++ g)) ((zs ++ code_in (code_where (λ n. true) x)) ++ g) ≡ zs ++ g
        by no_release z = ap (λ (v : Release). cond (is_standing v) (less_release ((zs ++ []) ++ g)) ((zs ++ []) ++ g)) (sym z) ∙ append₃ zs [] g
        by (release_of exclusive_lock n) z =
            ap (λ (v : Release). cond (is_standing v) (less_release ((zs ++ 1 ∷ []) ++ g)) ((zs ++ 1 ∷ []) ++ g)) (sym z) ∙ ap less_release (append₃ zs (1 ∷ []) g) ∙ less_zeros c 1 es ws₀ g refl
        by (release_of shared_lock n) z =
            ap (λ (v : Release). cond (is_standing v) (less_release ((zs ++ 2 ∷ []) ++ g)) ((zs ++ 2 ∷ []) ++ g)) (sym z) ∙ ap less_release (append₃ zs (2 ∷ []) g) ∙ less_zeros c 2 es ws₀ g refl

    clear_any : codes_to c (to_waiting (message_acted a) r.frames) ≡ [] → less_release xs ≡ []
    clear_any none = ap less_release clear_codes ∙ go (eqb a.connection c) refl
      where
        z : zs ++ g ≡ []
        z = sym (waiting_clear (eq-eqb _ _ q)) ∙ none

        by : (x : Standing) → less_release ((zs ++ code_in (code_where (λ n. true) x)) ++ g) ≡ []
        by no_release = ap less_release (append₃ zs [] g ∙ z)
        by (release_of exclusive_lock n) = ap less_release (append₃ zs (1 ∷ []) g) ∙ less_zeros c 1 es ws₀ g refl ∙ z
        by (release_of shared_lock n) = ap less_release (append₃ zs (2 ∷ []) g) ∙ less_zeros c 2 es ws₀ g refl ∙ z

        go : (b : Bool) → eqb a.connection c ≡ b → less_release ((zs ++ codes_to c (said_to (code_where (λ n. true) e₀.standing) 5 (a.connection ∷ []))) ++ g) ≡ []
        go true e = ap (λ ys. less_release ((zs ++ ys) ++ g)) (said_here c (code_where (λ n. true) e₀.standing) a.connection e) ∙ by e₀.standing
        go false e = ap (λ ys. less_release ((zs ++ ys) ++ g)) (said_away c (code_where (λ n. true) e₀.standing) a.connection e) ∙ ap less_release (append₃ zs [] g ∙ z)

    clear_other_read : eqb a.connection c ≡ false → Reads false false false
    clear_other_read e =
        clear_codes
        ∙ ap (λ ys. (zs ++ ys) ++ g) (said_away c (code_where (λ n. true) e₀.standing) a.connection e)
        ∙ append₃ zs [] g
        ∙ sym (waiting_clear (eq-eqb _ _ q))

  -- Data, DataEND, Trigger
  module _ (q4 : eqb t₀ 4 ≡ false) (q19 : eqb t₀ 19 ≡ false) (o : one_of (6 ∷ 7 ∷ 12 ∷ []) t₀ ≡ true) where
    abbrev hit : Standing → Heard
    hit x = code_where (λ n. eqb n a.message.param) x

    command_codes : xs ≡ codes_to c (said_to (hit e₀.standing) 5 (e₀.asynchronous ∷ [])) ++ g
    command_codes = ended_codes_lem q4 false q19 ∙ ap (λ (b : Bool). codes_to c
        (said_to (cond b (hit e₀.standing) (cond (eqb t₀ 19) (code_where (λ n. true) e₀.standing) silence)) 5 (e₀.asynchronous ∷ [])) ++ g) o

    abbrev ends : Bool
    ends = eqb a.connection s && (true && waits_for p a.message.param)

    command_own : Knows → eqb e₀.asynchronous c ≡ true → Reads false ends false
    command_own k e = rw (command_codes, said_here c (hit e₀.standing) e₀.asynchronous e, on_s) (by e₀.standing known.1) ∙ sym (waiting_grants q19)
      where
        known : (e₀.synchronous ≡ s) × (release_from e₀.standing ≡ p)
        known = k s₀ (f.first_live o) (eqb-true _ _ e)

        on_s : eqb a.connection s ≡ true
        on_s = eq-eqb _ _ (sym (f.first o) ∙ known.0)

        tested : (m n : ℕ) (b : Bool) → eqb n a.message.param ≡ b → cond b (drop 1 (code_in (cond b (with_code m) silence) ++ g)) (code_in (cond b (with_code m) silence) ++ g) ≡ g
        tested m n true e = refl
        tested m n false e = refl

        by : (x : Standing) → release_from x ≡ p → cond (waits_for p a.message.param) (drop 1 (code_in (hit x) ++ g)) (code_in (hit x) ++ g) ≡ g
        by no_release z = ap (λ (v : Release). cond (waits_for v a.message.param) (drop 1 g) g) (sym z)
        by (release_of exclusive_lock n) z =
            ap (λ (v : Release). cond (waits_for v a.message.param) (drop 1 (code_in (hit (release_of exclusive_lock n)) ++ g)) (code_in (hit (release_of exclusive_lock n)) ++ g)) (sym z)
            ∙ tested 1 n (eqb n a.message.param) refl
        by (release_of shared_lock n) z =
            ap (λ (v : Release). cond (waits_for v a.message.param) (drop 1 (code_in (hit (release_of shared_lock n)) ++ g)) (code_in (hit (release_of shared_lock n)) ++ g)) (sym z)
            ∙ tested 2 n (eqb n a.message.param) refl

    command_other : Alone → eqb e₀.asynchronous c ≡ false → (y : Bool) → ends ≡ y → Reads false y false
    command_other alone e false z = command_codes ∙ ap (λ ys. ys ++ g) (said_away c (hit e₀.standing) e₀.asynchronous e) ∙ sym (waiting_grants q19)
    command_other alone e true z =
        let here : a.connection ≡ s = eqb-true _ _ (and_l (eqb a.connection s) _ z) in
        let none : codes_to c (to_waiting (message_acted a) r.frames) ≡ [] = alone s₀ (λ n. f.real (here ∙ n)) (f.first_live o) (f.first o ∙ here) e in
        ap (drop 1) (command_codes ∙ ap (λ ys. ys ++ g) (said_away c (hit e₀.standing) e₀.asynchronous e) ∙ sym (waiting_grants q19) ∙ none) ∙ sym none

    command_read : Knows → Alone → (b : Bool) → eqb e₀.asynchronous c ≡ b → Reads false ends false
    command_read k alone true e = command_own k e
    command_read k alone false e = command_other alone e ends refl

    -- at most one of the codes is a release's
    command_any : codes_to c (to_waiting (message_acted a) r.frames) ≡ [] → drop 1 xs ≡ []
    command_any none = ap (drop 1) (command_codes ∙ ap (λ ys. codes_to c (said_to (hit e₀.standing) 5 (e₀.asynchronous ∷ [])) ++ ys) (sym (waiting_grants q19) ∙ none)) ∙ by (hit e₀.standing)
      where
        cell : (b : Bool) (m : ℕ) → drop 1 (cond b (m ∷ []) [] ++ []) ≡ []
        cell true m = refl
        cell false m = refl

        by : (h : Heard) → drop 1 (codes_to c (said_to h 5 (e₀.asynchronous ∷ [])) ++ []) ≡ []
        by silence = refl
        by (with_code m) = cell (eqb e₀.asynchronous c) m

  -- any other
  other_read : eqb t₀ 4 ≡ false → eqb t₀ 19 ≡ false → one_of (6 ∷ 7 ∷ 12 ∷ []) t₀ ≡ false → Reads false false false
  other_read q4 q19 o = rw (q4, q19, o)

  abbrev rest : Bool → Bool → Bool → List ℕ
  rest u v w = cond (u || v) (drop 1 xs) (cond w (less_release xs) xs)

  acted_any : codes_to c (to_waiting (message_acted a) r.frames) ≡ [] → less_any c (message_acted a) xs ≡ []
  acted_any none = go (eqb t₀ 4) (eqb t₀ 19) (one_of (6 ∷ 7 ∷ 12 ∷ []) t₀) (eqb a.connection c) refl refl refl refl
    where
      go : (x y z b : Bool) → eqb t₀ 4 ≡ x → eqb t₀ 19 ≡ y → one_of (6 ∷ 7 ∷ 12 ∷ []) t₀ ≡ z → eqb a.connection c ≡ b
          → rest (eqb a.connection c && eqb t₀ 4) (one_of (6 ∷ 7 ∷ 12 ∷ []) t₀) (eqb a.connection c && eqb t₀ 19) ≡ []
      go true y z true ex ey ez eb =
          ap₂ (λ (u v : Bool). rest (u && v) (one_of (6 ∷ 7 ∷ 12 ∷ []) t₀) (eqb a.connection c && eqb t₀ 19)) eb ex
          ∙ lock_own_read (eqb-true _ _ ex) eb false false ∙ none
      go true y z false ex ey ez eb =
          let no : one_of (6 ∷ 7 ∷ 12 ∷ []) t₀ ≡ false = ap (one_of (6 ∷ 7 ∷ 12 ∷ [])) (eqb-true t₀ 4 ex) in
          ap₂ (λ (u v : Bool). rest (u && eqb t₀ 4) v (u && eqb t₀ 19)) eb no ∙ lock_other_read (eqb-true _ _ ex) eb ∙ none
      go false true z true ex ey ez eb =
          let no : one_of (6 ∷ 7 ∷ 12 ∷ []) t₀ ≡ false = ap (one_of (6 ∷ 7 ∷ 12 ∷ [])) (eqb-true t₀ 19 ey) in
          ap₂ (λ (u v : Bool). rest (u && eqb t₀ 4) v (u && eqb t₀ 19)) eb no ∙ ap₂ (λ (u v : Bool). rest u false v) ex ey ∙ clear_any (eqb-true _ _ ey) none
      go false true z false ex ey ez eb =
          let no : one_of (6 ∷ 7 ∷ 12 ∷ []) t₀ ≡ false = ap (one_of (6 ∷ 7 ∷ 12 ∷ [])) (eqb-true t₀ 19 ey) in
          ap₂ (λ (u v : Bool). rest (u && eqb t₀ 4) v (u && eqb t₀ 19)) eb no ∙ clear_other_read (eqb-true _ _ ey) eb ∙ none
      go false false true b ex ey ez eb =
          ap₂ (λ (u v : Bool). rest u v (eqb a.connection c && eqb t₀ 19)) (and_false (eqb a.connection c) _ ex) ez ∙ command_any ex ey ez none
      go false false false b ex ey ez eb =
          ap₂ (λ (u v : Bool). rest u v (eqb a.connection c && eqb t₀ 19)) (and_false (eqb a.connection c) _ ex) ez
          ∙ ap (λ (u : Bool). rest false false u) (and_false (eqb a.connection c) _ ey) ∙ other_read ex ey ez ∙ none

  acted_read : Knows → Alone → less_own c s p (message_acted a) xs ≡ codes_to c (to_waiting (message_acted a) r.frames)
  acted_read k alone = go (eqb t₀ 4) (eqb t₀ 19) (one_of (6 ∷ 7 ∷ 12 ∷ []) t₀) (eqb a.connection c) refl refl refl refl
    where
      go : (x y z b : Bool) → eqb t₀ 4 ≡ x → eqb t₀ 19 ≡ y → one_of (6 ∷ 7 ∷ 12 ∷ []) t₀ ≡ z → eqb a.connection c ≡ b
          → less (eqb a.connection c && eqb t₀ 4) (eqb a.connection s && (one_of (6 ∷ 7 ∷ 12 ∷ []) t₀ && waits_for p a.message.param)) (eqb a.connection c && eqb t₀ 19) (is_standing p) xs
          ≡ codes_to c (to_waiting (message_acted a) r.frames)
      go true y z true ex ey ez eb =
          let q : t₀ ≡ 4 = eqb-true _ _ ex in
          ap₂ (λ (u v : Bool). less (u && v) (eqb a.connection s && (one_of (6 ∷ 7 ∷ 12 ∷ []) t₀ && waits_for p a.message.param)) (eqb a.connection c && eqb t₀ 19) (is_standing p) xs) eb ex
          ∙ lock_own_read q eb (eqb a.connection s && (one_of (6 ∷ 7 ∷ 12 ∷ []) t₀ && waits_for p a.message.param)) (eqb a.connection c && eqb t₀ 19)
      go true y z false ex ey ez eb =
          let q : t₀ ≡ 4 = eqb-true _ _ ex in
          let no : (eqb a.connection s && (one_of (6 ∷ 7 ∷ 12 ∷ []) t₀ && waits_for p a.message.param)) ≡ false =
          and_false (eqb a.connection s) _ (ap (λ (t : ℕ). one_of (6 ∷ 7 ∷ 12 ∷ []) t && waits_for p a.message.param) q) in
          ap₂ (λ (u v : Bool). less (u && eqb t₀ 4) v (u && eqb t₀ 19) (is_standing p) xs) eb no ∙ lock_other_read q eb
      go false true z true ex ey ez eb =
          let q : t₀ ≡ 19 = eqb-true _ _ ey in
          let no : (eqb a.connection s && (one_of (6 ∷ 7 ∷ 12 ∷ []) t₀ && waits_for p a.message.param)) ≡ false =
          and_false (eqb a.connection s) _ (ap (λ (t : ℕ). one_of (6 ∷ 7 ∷ 12 ∷ []) t && waits_for p a.message.param) q) in
          ap₂ (λ (u v : Bool). less (u && eqb t₀ 4) v (u && eqb t₀ 19) (is_standing p) xs) eb no ∙ ap₂ (λ (u v : Bool). less u false v (is_standing p) xs) ex ey ∙ clear_own_read q k eb
      go false true z false ex ey ez eb =
          let q : t₀ ≡ 19 = eqb-true _ _ ey in
          let no : (eqb a.connection s && (one_of (6 ∷ 7 ∷ 12 ∷ []) t₀ && waits_for p a.message.param)) ≡ false =
          and_false (eqb a.connection s) _ (ap (λ (t : ℕ). one_of (6 ∷ 7 ∷ 12 ∷ []) t && waits_for p a.message.param) q) in
          ap₂ (λ (u v : Bool). less (u && eqb t₀ 4) v (u && eqb t₀ 19) (is_standing p) xs) eb no ∙ clear_other_read q eb
      go false false true b ex ey ez eb =
          ap₂ (λ (u v : Bool). less u (eqb a.connection s && (one_of (6 ∷ 7 ∷ 12 ∷ []) t₀ && waits_for p a.message.param)) v (is_standing p) xs)
          (and_false (eqb a.connection c) _ ex) (and_false (eqb a.connection c) _ ey)
          ∙ ap (λ (u : Bool). less false (eqb a.connection s && (u && waits_for p a.message.param)) false (is_standing p) xs) ez
          ∙ command_read ex ey ez k alone (eqb e₀.asynchronous c) refl
      go false false false b ex ey ez eb =
          ap₂ (λ (u v : Bool). less u (eqb a.connection s && (one_of (6 ∷ 7 ∷ 12 ∷ []) t₀ && waits_for p a.message.param)) v (is_standing p) xs)
          (and_false (eqb a.connection c) _ ex) (and_false (eqb a.connection c) _ ey)
          ∙ ap (λ (u : Bool). less false u false (is_standing p) xs) (and_false (eqb a.connection s) _ (ap (λ (u : Bool). u && waits_for p a.message.param) ez))
          ∙ other_read ex ey ez

pub codes_read : (c s : ℕ) (p : Release) (d : Server) (h : Happening) (r : Result) → Local d h r → Facts d h r.frames → Known c s p d.locks.entries
    → ((i : ℕ) → (s ≡ no_connection → ⊥) → live (at d.locks.entries i) ≡ true → (at d.locks.entries i).synchronous ≡ s →
    eqb (at d.locks.entries i).asynchronous c ≡ false → codes_to c (to_waiting h r.frames) ≡ [])
    → less_own c s p h (codes_to c (lock_only r.frames)) ≡ codes_to c (to_waiting h r.frames)
codes_read c s p d (message_acted a) r l f k alone = acted_read c s p d a r l f k alone
codes_read c s p d unmoved r l f k alone = refl
codes_read c s p d (connected x) r l f k alone = refl
codes_read c s p d (disconnected x q) r l f k alone = refl
codes_read c s p d (skipped_over x q) r l f k alone = refl
codes_read c s p d (errored x n q) r l f k alone = refl
codes_read c s p d (clock_read t) r l f k alone = refl
codes_read c s p d (status_set b) r l f k alone = refl
codes_read c s p d (setting_made u) r l f k alone = refl
codes_read c s p d (answer_sent n x end) r l f k alone = refl
codes_read c s p d (answer_withheld n m) r l f k alone = refl

-- what is known stays so, unless another session takes connection c
module _ (c : ℕ) (real : c ≡ no_connection → ⊥) (s : ℕ) (p : Release) (d : Server) (v : Inv d.locks) (k : Known c s p d.locks.entries) where
  abbrev E : List Entry
  E = d.locks.entries

  on_second : (i : ℕ) → live (at E i) ≡ true → (at E i).asynchronous ≡ c → is_on_connection c (at E i) ≡ true
  on_second i a e = both _ _ a (or_r (eqb (at E i).synchronous c) _ (eq-eqb _ _ e))

  on_first : (x i : ℕ) → live (at E i) ≡ true → (at E i).synchronous ≡ x → is_on_connection x (at E i) ≡ true
  on_first x i a e = both _ _ a (or_of _ _ (eq-eqb _ _ e))

  -- of the entry that a call leaves in slot i
  abbrev Holds : Release → Entry → Type 0
  Holds q x = live x ≡ true → x.asynchronous ≡ c → (x.synchronous ≡ s) × (release_from x.standing ≡ q)

  -- the entry has these fields
  built : (q : Release) (x y : Entry) → y.number ≡ x.number → y.synchronous ≡ x.synchronous → y.asynchronous ≡ x.asynchronous → y.standing ≡ x.standing → Holds q x → Holds q y
  built q x y n f a z h alive e =
      let w = h (ap (λ (m : ℕ). not (eqb m 0)) (sym n) ∙ alive) (sym a ∙ e) in
      (f ∙ w.0, ap release_from z ∙ w.1)

  abbrev rowed : Happening → ℕ → Entry
  rowed h i =
      let x = at E i in
      with_order x.last (in_slot (standing_row x) E i h x.standing)
      (with_row (in_slot number_row E i h x.number) (in_slot synchronous_row E i h x.synchronous) (in_slot asynchronous_row E i h x.asynchronous) x)

  same_both : {A : Type 0} (b : Bool) (x : A) → cond b x x ≡ x
  same_both true x = refl
  same_both false x = refl

  closed_row : (x : ℕ) (q : Heard) → (x ≡ no_connection → ⊥) → (i : ℕ) → Holds (release_after c s (disconnected x q) p) (rowed (disconnected x q) i)
  closed_row x q r i = go (eqb i (slot_in E x)) refl
    where
      apart : eqb i (slot_in E x) ≡ false → live (at E i) ≡ true → (at E i).asynchronous ≡ c → (at E i).synchronous ≡ s → (u w : Bool) → eqb x c ≡ u → eqb x s ≡ w → cond (u || w) none_stands p ≡ p
      apart n alive e z true w eu ew = absurd (eqb-false _ _ n
          (place_unique E x i (v.sound.firm.connections x r)
          (subst (λ (y : ℕ). is_on_connection y (at E i) ≡ true) (sym (eqb-true _ _ eu)) (on_second i alive e))))
      apart n alive e z false true eu ew = absurd (eqb-false _ _ n (place_unique E x i (v.sound.firm.connections x r) (on_first x i alive (z ∙ sym (eqb-true _ _ ew)))))
      apart n alive e z false false eu ew = refl

      go : (b : Bool) → eqb i (slot_in E x) ≡ b → not (eqb (cond b 0 (at E i).number) 0) ≡ true → cond b no_connection (at E i).asynchronous ≡ c
          → (cond b no_connection (at E i).synchronous ≡ s) × (release_from (cond b no_release (at E i).standing) ≡ cond (eqb x c || eqb x s) none_stands p)
      go true n alive e = absurd (real (sym e))
      go false n alive e = let w = k i alive e in (w.0, w.1 ∙ sym (apart n alive e w.0 (eqb x c) (eqb x s) refl refl))

  module _ (a : Action) (fs : List Frame) (f : ActedFacts d a fs) (away : takes_connection c (message_acted a) ≡ false) where
    abbrev j₀ : ℕ
    j₀ = slot_acted E a

    abbrev u₀ : ℕ
    u₀ = kind_of a

    abbrev p' : Release
    p' = release_after c s (message_acted a) p

    abbrev next : Bool → Bool → Bool → Bool → Release
    next asks quiet clears over = cond asks (cond quiet (stands_for a.message.param) p) (cond (clears || over) none_stands p)

    -- the standing release as the row has it
    abbrev stood : Bool → Bool → Heard → Entry → Standing
    stood b z h x = cond b (release_of (cond x.exclusive exclusive_lock shared_lock) a.message.param) (cond (z || not (is_silence h)) no_release x.standing)

    named : (b : Bool) (x : Entry) (y : Standing) → release_from (cond b (release_of (cond x.exclusive exclusive_lock shared_lock) a.message.param) y) ≡
        cond b (stands_for a.message.param) (release_from y)
    named true x y = refl
    named false x y = refl

    -- its own message, that opens or joins no session
    own_row : (x : Entry) → live x ≡ true → x.asynchronous ≡ c → at E j₀ ≡ x → eqb u₀ 0 ≡ false
        → release_from (stood ((eqb u₀ 4 && eqb a.message.code 0) && is_silence a.told) (eqb u₀ 0) (ended_with a x.standing) x) ≡ p'
    own_row x alive e i z = go (eqb u₀ 4) (eqb u₀ 19) (one_of (6 ∷ 7 ∷ 12 ∷ []) u₀) refl refl refl
      where
        known : (x.synchronous ≡ s) × (release_from x.standing ≡ p)
        known = subst (λ (y : Entry). live y ≡ true → y.asynchronous ≡ c → (y.synchronous ≡ s) × (release_from y.standing ≡ p)) i (k j₀) alive e

        on_c : one_of (4 ∷ 19 ∷ []) u₀ ≡ true → eqb a.connection c ≡ true
        on_c o = eq-eqb _ _ (sym (f.second o) ∙ ap (λ (y : Entry). y.asynchronous) i ∙ e)

        on_s : one_of (6 ∷ 7 ∷ 12 ∷ []) u₀ ≡ true → eqb a.connection s ≡ true
        on_s o = eq-eqb _ _ (sym (f.first o) ∙ ap (λ (y : Entry). y.synchronous) i ∙ known.0)

        cleared : (y : Standing) → release_from (cond (false || not (is_silence (code_where (λ n. true) y))) no_release y) ≡ none_stands
        cleared no_release = refl
        cleared (release_of exclusive_lock n) = refl
        cleared (release_of shared_lock n) = refl

        tested : (b : Bool) (m n : ℕ) (y : Standing) → release_from y ≡ stands_for n →
            release_from (cond (false || not (is_silence (cond b (with_code m) silence))) no_release y) ≡ cond b none_stands (stands_for n)
        tested true m n y e = refl
        tested false m n y e = e

        ended : (y : Standing) → release_from (cond (false || not (is_silence (code_where (λ n. eqb n a.message.param) y))) no_release y) ≡ cond
            (waits_for (release_from y) a.message.param) none_stands (release_from y)
        ended no_release = refl
        ended (release_of exclusive_lock n) = tested (eqb n a.message.param) 1 n (release_of exclusive_lock n) refl
        ended (release_of shared_lock n) = tested (eqb n a.message.param) 2 n (release_of shared_lock n) refl

        heard_by : (o w : Bool) → one_of (6 ∷ 7 ∷ 12 ∷ []) u₀ ≡ o → eqb u₀ 19 ≡ w →
            ended_with a x.standing ≡ cond o (code_where (λ n. eqb n a.message.param) x.standing)
            (cond w (code_where (λ n. true) x.standing) silence)
        heard_by o w eo ew = ap₂ (λ (u v : Bool). cond u (code_where (λ n. eqb n a.message.param) x.standing) (cond v (code_where (λ n. true) x.standing) silence)) eo ew

        stood_by : (q : Bool) (h : Heard) → eqb u₀ 4 ≡ q → ended_with a x.standing ≡ h
            → release_from (stood ((eqb u₀ 4 && eqb a.message.code 0) && is_silence a.told) (eqb u₀ 0) (ended_with a x.standing) x) ≡ release_from
            (stood ((q && eqb a.message.code 0) && is_silence a.told) false h x)
        stood_by q h eq eh = ap₂ (λ (u : Bool) (y : Heard). release_from (stood ((u && eqb a.message.code 0) && is_silence a.told) (eqb u₀ 0) y x)) eq eh
            ∙ ap (λ (u : Bool). release_from (stood ((q && eqb a.message.code 0) && is_silence a.told) u h x)) z

        next_by : (asks clears ends : Bool) → (eqb a.connection c && eqb u₀ 4) ≡ asks → (eqb a.connection c && eqb u₀ 19) ≡ clears
            → (eqb a.connection s && (one_of (6 ∷ 7 ∷ 12 ∷ []) u₀ && waits_for p a.message.param)) ≡ ends → p' ≡ next asks (eqb a.message.code 0 && is_silence a.told) clears ends
        next_by asks clears ends ea ec ee = ap₂ (λ (u v : Bool). next u (eqb a.message.code 0 && is_silence a.told) v
            (eqb a.connection s && (one_of (6 ∷ 7 ∷ 12 ∷ []) u₀ && waits_for p a.message.param))) ea ec
            ∙ ap (λ (u : Bool). next asks (eqb a.message.code 0 && is_silence a.told) clears u) ee

        go : (q w o : Bool) → eqb u₀ 4 ≡ q → eqb u₀ 19 ≡ w → one_of (6 ∷ 7 ∷ 12 ∷ []) u₀ ≡ o
            → release_from (stood ((eqb u₀ 4 && eqb a.message.code 0) && is_silence a.told) (eqb u₀ 0) (ended_with a x.standing) x) ≡ p'
        go true w o eq ew eo =
            let t : u₀ ≡ 4 = eqb-true _ _ eq in
            let quiet : ended_with a x.standing ≡ silence = heard_by false false (ap (one_of (6 ∷ 7 ∷ 12 ∷ [])) t) (ap (λ (u : ℕ). eqb u 19) t) in
            let asks : (eqb a.connection c && eqb u₀ 4) ≡ true = both _ _ (on_c (ap (one_of (4 ∷ 19 ∷ [])) t)) eq in
            stood_by true silence eq quiet
            ∙ named (eqb a.message.code 0 && is_silence a.told) x x.standing
            ∙ ap (λ (y : Release). cond (eqb a.message.code 0 && is_silence a.told) (stands_for a.message.param) y) known.1
            ∙ sym (next_by true (eqb a.connection c && eqb u₀ 19) (eqb a.connection s && (one_of (6 ∷ 7 ∷ 12 ∷ []) u₀ && waits_for p a.message.param)) asks refl refl)
        go false true o eq ew eo =
            let t : u₀ ≡ 19 = eqb-true _ _ ew in
            let heard : ended_with a x.standing ≡ code_where (λ n. true) x.standing = heard_by false true (ap (one_of (6 ∷ 7 ∷ 12 ∷ [])) t) ew in
            let clears : (eqb a.connection c && eqb u₀ 19) ≡ true = both _ _ (on_c (ap (one_of (4 ∷ 19 ∷ [])) t)) ew in
            stood_by false (code_where (λ n. true) x.standing) eq heard
            ∙ cleared x.standing
            ∙ sym (next_by false true (eqb a.connection s && (one_of (6 ∷ 7 ∷ 12 ∷ []) u₀ && waits_for p a.message.param)) (and_false (eqb a.connection c) _ eq) clears refl)
        go false false true eq ew eo =
            let heard : ended_with a x.standing ≡ code_where (λ n. eqb n a.message.param) x.standing = heard_by true false eo ew in
            let ends : (eqb a.connection s && (one_of (6 ∷ 7 ∷ 12 ∷ []) u₀ && waits_for p a.message.param)) ≡ waits_for p a.message.param =
            ap₂ (λ (u v : Bool). u && (v && waits_for p a.message.param)) (on_s eo) eo in
            stood_by false (code_where (λ n. eqb n a.message.param) x.standing) eq heard
            ∙ ended x.standing
            ∙ ap (λ (y : Release). cond (waits_for y a.message.param) none_stands y) known.1
            ∙ sym (next_by false false (waits_for p a.message.param) (and_false (eqb a.connection c) _ eq) (and_false (eqb a.connection c) _ ew) ends)
        go false false false eq ew eo =
            stood_by false silence eq (heard_by false false eo ew)
            ∙ known.1
            ∙ sym (next_by false false false (and_false (eqb a.connection c) _ eq) (and_false (eqb a.connection c) _ ew)
            (and_false (eqb a.connection s) _ (ap (λ (u : Bool). u && waits_for p a.message.param) eo)))

    -- another's message
    others_row : (i : ℕ) → eqb i j₀ ≡ false → live (at E i) ≡ true → (at E i).asynchronous ≡ c → p ≡ p'
    others_row i n alive e = go (asks_lock c a) (clears_all c a) (ends_release s p a) refl refl refl
      where
        not_c : one_of (4 ∷ 19 ∷ []) u₀ ≡ true → eqb a.connection c ≡ true → ⊥
        not_c o x = eqb-false _ _ n (v.sound.firm.connections c real i j₀ (on_second i alive e) (on_second j₀ (f.second_live o) (f.second o ∙ eqb-true _ _ x)))

        not_s : one_of (6 ∷ 7 ∷ 12 ∷ []) u₀ ≡ true → eqb a.connection s ≡ true → ⊥
        not_s o x =
            let w = k i alive e in
            eqb-false _ _ n (v.sound.firm.connections a.connection f.real i j₀ (on_first a.connection i alive (w.0 ∙ sym (eqb-true _ _ x)))
            (on_first a.connection j₀ (f.first_live o) (f.first o)))

        go : (x y z : Bool) → asks_lock c a ≡ x → clears_all c a ≡ y → ends_release s p a ≡ z → p ≡ p'
        go true y z ex ey ez = absurd (not_c (ap (one_of (4 ∷ 19 ∷ [])) (eqb-true u₀ 4 (and_r (eqb a.connection c) _ ex))) (and_l (eqb a.connection c) _ ex))
        go false true z ex ey ez = absurd (not_c (ap (one_of (4 ∷ 19 ∷ [])) (eqb-true u₀ 19 (and_r (eqb a.connection c) _ ey))) (and_l (eqb a.connection c) _ ey))
        go false false true ex ey ez = absurd (not_s (and_l (one_of (6 ∷ 7 ∷ 12 ∷ []) u₀) _ (and_r (eqb a.connection s) _ ez)) (and_l (eqb a.connection s) _ ez))
        go false false false ex ey ez =
            sym (ap₂ (λ (x y : Bool). next x (eqb a.message.code 0 && is_silence a.told) y (ends_release s p a)) ex ey
            ∙ ap (λ (z : Bool). next false (eqb a.message.code 0 && is_silence a.told) false z) ez)

    acted_row : (i : ℕ) → Holds p' (rowed (message_acted a) i)
    acted_row i = go (eqb i j₀) refl
      where
        x : Entry
        x = at E i

        own : (y z : Bool) → eqb u₀ 17 ≡ y → eqb u₀ 0 ≡ z → i ≡ j₀ → not (eqb (cond z a.session x.number) 0) ≡ true → cond y a.connection (cond z no_connection x.asynchronous) ≡ c
            → (cond z a.connection x.synchronous ≡ s) × (release_from (stood ((eqb u₀ 4 && eqb a.message.code 0) && is_silence a.told) (eqb u₀ 0) (ended_with a x.standing) x) ≡ p')
        own true z ey ez n alive e = absurd (true≢false (sym (both _ _ ey (eq-eqb _ _ e)) ∙ away))
        own false true ey ez n alive e = absurd (real (sym e))
        own false false ey ez n alive e = ((k i alive e).0, own_row x alive e (ap (at E) (sym n)) ez)

        go : (b : Bool) → eqb i j₀ ≡ b → not (eqb (cond b (cond (eqb u₀ 0) a.session x.number) x.number) 0) ≡ true
            → cond b (cond (eqb u₀ 17) a.connection (cond (eqb u₀ 0) no_connection x.asynchronous)) x.asynchronous ≡ c
            → (cond b (cond (eqb u₀ 0) a.connection x.synchronous) x.synchronous ≡ s)
            × (release_from (cond b (stood ((eqb u₀ 4 && eqb a.message.code 0) && is_silence a.told) (eqb u₀ 0) (ended_with a x.standing) x) x.standing) ≡ p')
        go true n alive e = own (eqb u₀ 17) (eqb u₀ 0) refl refl (eqb-true _ _ n) alive e
        go false n alive e = let w = k i alive e in (w.0, w.1 ∙ others_row i n alive e)

  row_known : (h : Happening) (fs : List Frame) → Facts d h fs → takes_connection c h ≡ false → (i : ℕ) → Holds (release_after c s h p) (rowed h i)
  row_known (message_acted a) fs f n i = acted_row a fs f n i
  row_known (disconnected x q) fs f n i = closed_row x q f i
  row_known unmoved fs f n i = k i
  row_known (connected x) fs f n i = k i
  row_known (skipped_over x q) fs f n i = k i
  row_known (errored x m q) fs f n i =
      let b = eqb i (slot_in E x) && eqb (at E i).synchronous x in
      built p (at E i) (rowed (errored x m q) i) (same_both b (at E i).number) (same_both b (at E i).synchronous) (same_both b (at E i).asynchronous) (same_both b (at E i).standing) (k i)
  row_known (clock_read t) fs f n i = k i
  row_known (status_set b) fs f n i = k i
  row_known (setting_made s) fs f n i = k i
  row_known (answer_sent m x end) fs f n i =
      let b = eqb i (slot_of_number E m) in
      built p (at E i) (rowed (answer_sent m x end) i) (same_both b (at E i).number) (same_both b (at E i).synchronous)
      (same_both b (at E i).asynchronous) (same_both b (at E i).standing) (k i)
  row_known (answer_withheld m q) fs f n i =
      let b = eqb i (slot_of_number E m) in
      built p (at E i) (rowed (answer_withheld m q) i) (same_both b (at E i).number) (same_both b (at E i).synchronous)
      (same_both b (at E i).asynchronous) (same_both b (at E i).standing) (k i)

  pub known_after : (h : Happening) (r : Result) (l : Local d h r) → Facts d h r.frames → takes_connection c h ≡ false → Known c s (release_after c s h p) r.server.locks.entries
  known_after h r l f n i = go (ltb i (length E)) refl
    where
      go : (b : Bool) → ltb i (length E) ≡ b → Holds (release_after c s h p) (at r.server.locks.entries i)
      go true q =
          let w = ltb-true _ _ q in
          built (release_after c s h p) (rowed h i) (at r.server.locks.entries i) (l.number i w) (l.synchronous i w) (l.asynchronous i w) (l.standing i w) (row_known h r.frames f n i)
      go false q = λ alive e. absurd (true≢false (sym alive ∙ ap live (past r.server.locks.entries i (omega (arith, ltb-false i (length E) q, l.slots)))))

-- the same where the session is not known
any_read : (c : ℕ) (d : Server) (h : Happening) (r : Result) → Local d h r → Facts d h r.frames → codes_to c (to_waiting h r.frames) ≡ [] → less_any c h (codes_to c (lock_only r.frames)) ≡ []
any_read c d (message_acted a) r l f none = acted_any c 0 none_stands d a r l f none
any_read c d unmoved r l f none = none
any_read c d (connected x) r l f none = none
any_read c d (disconnected x q) r l f none = none
any_read c d (skipped_over x q) r l f none = none
any_read c d (errored x n q) r l f none = none
any_read c d (clock_read t) r l f none = none
any_read c d (status_set b) r l f none = none
any_read c d (setting_made s) r l f none = none
any_read c d (answer_sent n x end) r l f none = none
any_read c d (answer_withheld n m) r l f none = none

-- another session takes connection c: it has no request, and nothing is answered
module _ (c : ℕ) (d : Server) (q : Quiet c d) where
  abbrev Taken : Happening → Result → Type 0
  Taken h r = (codes_to c (lock_only r.frames) ≡ []) × (less_any c h (codes_to c (lock_only r.frames)) ≡ []) × (all (away c 0 r.server.locks.entries) r.server.locks.waiting ≡ true)

  acted_joins : (a : Action) (r : Result) → Local d (message_acted a) r → ActedFacts d a r.frames → takes_connection c (message_acted a) ≡ true → Taken (message_acted a) r
  acted_joins a r l f n = (
    no_codes,
    any_read c d (message_acted a) r l f (waiting_grants c 0 none_stands d a r l f (rw t) ∙ no_grants_lem),
    rw waiting_same
        (free d.locks.waiting q.none q.second),
  )
    where
      E₀ : List Entry
      E₀ = d.locks.entries

      t : kind_of a ≡ 17
      t = eqb-true _ _ (and_l (eqb (kind_of a) 17) _ n)

      unlooked : looks_after E₀ (message_acted a) ≡ false
      unlooked = rw t

      looked : (r.server.locks.waiting ≡ d.locks.waiting) × (l.granted ≡ [])
      looked = let x = rw unlooked at l.waiting in (x.1 ∙ rw t, x.2)

      waiting_same : r.server.locks.waiting ≡ d.locks.waiting
      waiting_same = looked.0

      no_grants_lem : codes_to c (map (waiting_answer 1 l.due) l.granted) ≡ []
      no_grants_lem = ap (λ (ws : List Waiting). codes_to c (map (waiting_answer 1 l.due) ws)) looked.1

      no_codes : codes_to c (lock_only r.frames) ≡ []
      no_codes = other_read c 0 none_stands d a r l f (rw t) (rw t) (rw t) ∙ waiting_grants c 0 none_stands d a r l f (rw t) ∙ no_grants_lem

      -- the session that joins was half-open, so no request waits of it
      half : (at E₀ (slot_acted E₀ a)).asynchronous ≡ no_connection
      half = (f.pairs t).half

      cell : (w : Waiting) → away c 0 E₀ w ≡ true → away no_connection 0 E₀ w ≡ true → away c 0 r.server.locks.entries w ≡ true
      cell w x y = go (ltb w.slot (length E₀)) refl
        where
          far : eqb w.slot (slot_acted E₀ a) ≡ false
          far = ne_eqb _ _ (λ e. true≢false (sym y ∙ ap not (eq-eqb _ _ (ap (λ (i : ℕ). (at E₀ i).asynchronous) e ∙ half))))

          go : (b : Bool) → ltb w.slot (length E₀) ≡ b → not (eqb (at r.server.locks.entries w.slot).asynchronous c) ≡ true
          go true z =
              ap (λ (i : ℕ). not (eqb i c)) (l.asynchronous w.slot (ltb-true _ _ z)
              ∙ ap (λ (b : Bool). cond b (cond (eqb (kind_of a) 17) a.connection
              (cond (eqb (kind_of a) 0) no_connection (at E₀ w.slot).asynchronous)) (at E₀ w.slot).asynchronous) far)
              ∙ x
          go false z =
              let out : at E₀ w.slot ≡ blank = past E₀ w.slot (omega (arith, ltb-false w.slot (length E₀) z)) in
              absurd (true≢false (sym y ∙ ap (λ (e : Entry). not (eqb e.asynchronous no_connection)) out))

      free : (ws : List Waiting) → all (away c 0 E₀) ws ≡ true → all (away no_connection 0 E₀) ws ≡ true → all (away c 0 r.server.locks.entries) ws ≡ true
      free [] x y = refl
      free (w ∷ ws) x y = both _ _ (cell w (and_l (away c 0 E₀ w) _ x) (and_l (away no_connection 0 E₀ w) _ y)) (free ws (and_r (away c 0 E₀ w) _ x) (and_r (away no_connection 0 E₀ w) _ y))

  joins_at : (h : Happening) (r : Result) → Local d h r → Facts d h r.frames → takes_connection c h ≡ true → Taken h r
  joins_at (message_acted a) r l f n = acted_joins a r l f n
  joins_at unmoved r l f n = absurd (true≢false (sym n))
  joins_at (connected x) r l f n = absurd (true≢false (sym n))
  joins_at (disconnected x k) r l f n = absurd (true≢false (sym n))
  joins_at (skipped_over x k) r l f n = absurd (true≢false (sym n))
  joins_at (errored x g k) r l f n = absurd (true≢false (sym n))
  joins_at (clock_read t) r l f n = absurd (true≢false (sym n))
  joins_at (status_set b) r l f n = absurd (true≢false (sym n))
  joins_at (setting_made s) r l f n = absurd (true≢false (sym n))
  joins_at (answer_sent m x end) r l f n = absurd (true≢false (sym n))
  joins_at (answer_withheld m k) r l f n = absurd (true≢false (sym n))

-- where no request waits on connection c, none is answered, until one comes
module _ (c : ℕ) (real : c ≡ no_connection → ⊥) (e : Event) (d : Server) (q : Quiet c d) where
  abbrev now : Happening
  now = at_call d e

  abbrev here : Local d now (step d e)
  here = local_call d e

  abbrev known_of : Facts d now (step d e).frames
  known_of = facts d q.inv q.sized e (step d e).reply refl

  next_quiet : all (away c 0 (step d e).server.locks.entries) (step d e).server.locks.waiting ≡ true → Quiet c (step d e).server
  next_quiet a = record { inv = inv_call d e q.inv; sized = sized_call d e q.sized; none = a; second = second_call d e q.inv q.sized q.second }

  still_quiet : begins_to_wait c now (step d e).frames ≡ false → (b : Bool) → takes_connection c now ≡ b →
      (less_any c now (codes_to c (lock_only (step d e).frames)) ≡ []) × Quiet c (step d e).server
  still_quiet w true j = let x = joins_at c d q now (step d e) here known_of j in (x.1, next_quiet x.2)
  still_quiet w false j =
      let x = quiet_at c real d q now (step d e) here known_of (inv_call d e q.inv) w j in
      (any_read c d now (step d e) here known_of x.0, next_quiet x.1)

none_list : (c : ℕ) → (c ≡ no_connection → ⊥) → (es : List Event) (d : Server) → Quiet c d → NoneWaits c (log d es)
unfolding log
none_list c real [] d q = NoneWaits.last
none_list c real (e ∷ es) d q = go (begins_to_wait c (at_call d e) (step d e).frames) refl (λ z. none_list c real es (step d e).server z)
  where
    go : (b : Bool) → begins_to_wait c (at_call d e) (step d e).frames ≡ b → (Quiet c (step d e).server → NoneWaits c (log (step d e).server es)) →
        NoneWaits c (record { event = e; reply = (step d e).reply; frames = (step d e).frames } ∷ log (step d e).server es)
    go true w rest = NoneWaits.own_request _ _ w
    go false w rest = let x = still_quiet c real e d q w (takes_connection c (at_call d e)) refl in NoneWaits.still _ _ x.0 (rest x.1)

pub quiet_list : (c : ℕ) → (c ≡ no_connection → ⊥) → (s : ℕ) (p : Release) (es : List Event) (d : Server) → Quiet c d → Known c s p d.locks.entries → NoMore c s p (log d es)
unfolding log
quiet_list c real s p [] d q k = NoMore.ended p
quiet_list c real s p (e ∷ es) d q k = go (begins_to_wait c h₀ (step d e).frames) (takes_connection c h₀) refl refl (λ z y. quiet_list c real s (release_after c s h₀ p) es (step d e).server z y)
  where
    h₀ : Happening
    h₀ = at_call d e

    l₀ : Local d h₀ (step d e)
    l₀ = local_call d e

    f₀ : Facts d h₀ (step d e).frames
    f₀ = facts d q.inv q.sized e (step d e).reply refl

    go : (b j : Bool) → begins_to_wait c h₀ (step d e).frames ≡ b → takes_connection c h₀ ≡ j →
        (Quiet c (step d e).server → Known c s (release_after c s h₀ p) (step d e).server.locks.entries →
        NoMore c s (release_after c s h₀ p) (log (step d e).server es))
        → NoMore c s p (record { event = e; reply = (step d e).reply; frames = (step d e).frames } ∷ log (step d e).server es)
    go true j w n rest = NoMore.anew p _ _ w
    go false true w n rest =
        let x = joins_at c d q h₀ (step d e) l₀ f₀ n in
        NoMore.taken_over p _ _ n x.0 (none_list c real es (step d e).server (next_quiet c real e d q x.2))
    go false false w n rest =
        let x = quiet_at c real d q h₀ (step d e) l₀ f₀ (inv_call d e q.inv) w n in
        NoMore.silent p _ _ (codes_read c s p d h₀ (step d e) l₀ f₀ k (λ i a b f g. x.0) ∙ x.0) (rest (next_quiet c real e d q x.1) (known_after c real s p d q.inv k h₀ (step d e) l₀ f₀ n))
