-- The server's entries as the lock model sees them: each question to the model's sessions is one about the entries, each change a store.
use mathlib.Core.Path.{◌≡◌, refl, sym, ap, ap₂, ◌∙◌}
use mathlib.Core.Bool.{Bool, true, false, not, ◌&&◌, ◌||◌, cond, true≢false}
use mathlib.Core.List.{List, [], ◌∷◌}
use mathlib.Core.Logic.{◌⊎◌, inl, inr}
use Prim.Native.Nat.{ℕ, ◌+◌, ◌<◌}
use native.Mathlib.Omega.{arith}
use lib.Dec.{eqb}
use lib.ListN.{get_or, set, length, length-set}
use lib.Seq.{get_or-set_same}
use borrow.Author.Tests.{eqb-true, eq-eqb, ne_eqb}
use Rattle.wire.specs.Class.{one_of}
use Rattle.model.specs.Sizes.{no_connection}
use Rattle.model.specs.Lists.{all, all_but, keep, same, tally}
use Rattle.model.specs.State.{Entry, blank, at, live}
use Rattle.model.specs.Place.{is_on_connection, slot_in}
use Rattle.model.specs.Locks.{no_exclusive, no_shared, fits, may_grant}
use Rattle.model.specs.LockModel.{Session, own, others, not_shared, not_exclusive, allowed, on_number, alter, second_connection, on}
use Rattle.model.specs.Agreement.{as_session, as_sessions}
use Rattle.model.proofs.Basics.{and_l, and_r, both, isn't, or_of, not_not, and_true, same?, inside, all_at, all_split, all_cong, all_but_cong, all_but_true}
use Rattle.claims.proofs.Invariant.{clean, Firm}
use Rattle.model.proofs.Place.{place_sound, place_complete}
use Rattle.claims.proofs.GrantingRule.{exclusive_rule, shared_rule}
use Rattle.claims.proofs.Tallies.{one, tally_cons, all_tally, tally_keep, tally_map, lower, tally_seen, tally_but, tally_split, tally_but_at, tally_same, tally_cong, tally_but_cong}

-- a test of live sessions as a test of entries
abbrev pub lift : (Session → Bool) → Entry → Bool
lift p e = not (live e) || p (as_session e)

pub all_seen : (p : Session → Bool) (es : List Entry) → all p (as_sessions es) ≡ all (lift p) es
all_seen p [] = refl
all_seen p (e ∷ es) = go (live e) (all_seen p es)
  where
    go : (b : Bool) → all p (as_sessions es) ≡ all (lift p) es → all p (cond b (as_session e ∷ as_sessions es) (as_sessions es)) ≡ ((not b || p (as_session e)) && all (lift p) es)
    go true h = ap (λ z. p (as_session e) && z) h
    go false h = h

-- the same sessions, in whatever order
abbrev pub Same : List Session → List Entry → Type 0
Same ss es = (p : Session → Bool) → tally p ss ≡ tally p (as_sessions es)

pub all_lift : (ss : List Session) (es : List Entry) → Same ss es → (p : Session → Bool) → all p ss ≡ all (lift p) es
all_lift ss es s p = all_tally p ss ∙ ap (λ n. eqb n 0) (s (λ x. not (p x))) ∙ sym (all_tally p (as_sessions es)) ∙ all_seen p es

pub when : (b : Bool) (x y : Bool) → (b ≡ true → x ≡ y) → (not b || x) ≡ (not b || y)
when true x y h = h refl
when false x y h = refl

pub while : (b : Bool) (x y : Bool) → (b ≡ true → x ≡ y) → (b && x) ≡ (b && y)
while true x y h = h refl
while false x y h = refl

module _ (ss : List Session) (es : List Entry) (s : Same ss es) (f : Firm es) (i : ℕ) (v : live (at es i) ≡ true) where
  other : (j : ℕ) → (j ≡ i → ⊥) → live (at es j) ≡ true → eqb (at es j).number (at es i).number ≡ false
  other j d u = isn't _ (λ h. d (f.numbers (at es i).number j i (both _ _ u h) (both _ _ v (eq-eqb (at es i).number (at es i).number refl))))

  here : (p : Session → Bool) → all p ss ≡ (p (as_session (at es i)) && all_but (lift p) i es)
  here p = all_lift ss es s p ∙ all_split (lift p) es i (inside live es i refl v) ∙ ap (λ b. (not b || p (as_session (at es i))) && all_but (lift p) i es) v

  -- of session n alone
  none_own : (p : Session → Bool) → all (λ x. not (eqb x.number (at es i).number && p x)) ss ≡ not (p (as_session (at es i)))
  none_own p =
      here (λ x. not (eqb x.number (at es i).number && p x))
      ∙ ap₂ ◌&&◌ (ap (λ b. not (b && p (as_session (at es i)))) (eq-eqb (at es i).number (at es i).number refl))
      (all_but_cong _ (λ e. true) es i (λ j d. out j d (live (at es j)) refl) ∙ all_but_true es i)
      ∙ and_true _
    where
      out : (j : ℕ) → (j ≡ i → ⊥) → (b : Bool) → live (at es j) ≡ b → (not b || not (eqb (at es j).number (at es i).number && p (as_session (at es j)))) ≡ true
      out j d true u = rw (other j d u)
      out j d false u = refl

  pub own_seen : (p : Session → Bool) → own (at es i).number p ss ≡ p (as_session (at es i))
  own_seen p = ap not (none_own p) ∙ not_not _

  -- of every other one
  pub others_seen : (p : Session → Bool) → others (at es i).number p ss ≡ all_but (lift p) i es
  others_seen p =
      here (λ x. eqb x.number (at es i).number || p x)
      ∙ ap₂ ◌&&◌ (or_of _ _ (eq-eqb (at es i).number (at es i).number refl))
      (all_but_cong _ (lift p) es i (λ j d. when (live (at es j)) _ _ (λ u. ap (λ b. b || p (as_session (at es j))) (other j d u))))

  -- answers go to its second connection
  second : (e : Entry) → get_or (as_session e).connections 1 no_connection ≡ e.asynchronous
  second e = go (eqb e.asynchronous no_connection) refl
    where
      go : (b : Bool) → eqb e.asynchronous no_connection ≡ b → get_or (e.synchronous ∷ cond b [] (e.asynchronous ∷ [])) 1 no_connection ≡ e.asynchronous
      go true h = sym (eqb-true _ _ h)
      go false h = refl

  found : (ss : List Session) (n a : ℕ) → all (λ x. not (eqb x.number n && not (eqb (get_or x.connections 1 no_connection) a))) ss ≡ true →
      all (λ x. not (eqb x.number n && true)) ss ≡ false → second_connection n ss ≡ a
  found [] n a h k = absurd (true≢false k)
  found (x ∷ ss) n a h k = go (eqb x.number n) h k (λ h k. found ss n a h k)
    where
      go : (b : Bool) → (not (b && not (eqb (get_or x.connections 1 no_connection) a)) && all (λ x. not (eqb x.number n && not (eqb (get_or x.connections 1 no_connection) a))) ss) ≡ true
          → (not (b && true) && all (λ x. not (eqb x.number n && true)) ss) ≡ false
          → (all (λ x. not (eqb x.number n && not (eqb (get_or x.connections 1 no_connection) a))) ss ≡ true → all (λ x. not (eqb x.number n && true)) ss ≡ false → second_connection n ss ≡ a)
          → cond b (get_or x.connections 1 no_connection) (second_connection n ss) ≡ a
      go true h k r = eqb-true _ _ (sym (not_not _) ∙ and_l (not (not (eqb (get_or x.connections 1 no_connection) a))) _ h)
      go false h k r = r h k

  pub channel_seen : second_connection (at es i).number ss ≡ (at es i).asynchronous
  channel_seen =
      found ss (at es i).number (at es i).asynchronous
      (none_own (λ x. not (eqb (get_or x.connections 1 no_connection) (at es i).asynchronous)) ∙ not_not _ ∙ eq-eqb _ _ (second (at es i)))
      (none_own (λ x. true))

  -- a change of session n alone is a store in its slot
  pub alter_seen : (g : Session → Session) (y : Entry) → live y ≡ true → as_session y ≡ g (as_session (at es i)) → Same (alter (at es i).number g ss) (set es i y)
  alter_seen g y w e p =
      tally_map p (on_number (at es i).number g) ss
      ∙ s (λ x. p (on_number (at es i).number g x))
      ∙ tally_seen (λ x. p (on_number (at es i).number g x)) es
      ∙ tally_split (lower (λ x. p (on_number (at es i).number g x))) es i in_range
      ∙ ap₂ (λ (b : Bool) (n : ℕ). one b + n) (ap₂ (λ (u b : Bool). u && p (cond b (g (as_session (at es i))) (as_session (at es i)))) v
      (eq-eqb (at es i).number (at es i).number refl) ∙ ap p (sym e))
      (tally_but_cong _ (lower p) es i (λ j d. while (live (at es j)) _ _
      (λ u. ap (λ b. p (cond b (g (as_session (at es j))) (as_session (at es j)))) (other j d u))))
      ∙ sym (tally_seen p (set es i y) ∙ tally_split (lower p) (set es i y) i (rw (length-set es i y) in_range)
      ∙ ap₂ (λ (b : Bool) (n : ℕ). one b + n) (ap (lower p) (get_or-set_same es i y blank in_range) ∙ ap (λ b. b && p (as_session y)) w)
      (tally_but_at (lower p) es i y))
    where
      in_range : i < length es
      in_range = inside live es i refl v

-- a new session, in a free slot
pub enter_seen : (ss : List Session) (es : List Entry) → Same ss es → (i : ℕ) (y : Entry) → live (at es i) ≡ false → i < length es → live y ≡ true → Same (as_session y ∷ ss) (set es i y)
enter_seen ss es s i y v l w p =
    tally_cons p (as_session y) ss
    ∙ ap (λ n. one (p (as_session y)) + n) (s p ∙ tally_seen p es ∙ tally_split (lower p) es i l ∙ ap (λ b. one (b && p (as_session (at es i))) + tally_but (lower p) i es) v ∙ omega arith)
    ∙ sym (tally_seen p (set es i y) ∙ tally_split (lower p) (set es i y) i (rw (length-set es i y) l)
    ∙ ap₂ (λ (b : Bool) (n : ℕ). one b + n) (ap (lower p) (get_or-set_same es i y blank l) ∙ ap (λ b. b && p (as_session y)) w)
    (tally_but_at (lower p) es i y))

-- the granting rule: free slots hold nothing, so they never matter
clean_lift : (p : Session → Bool) (q : Entry → Bool) (e : Entry) → p (as_session e) ≡ q e → ((no_exclusive e && no_shared e) ≡ true → q e ≡ true) → clean e ≡ true → lift p e ≡ q e
clean_lift p q e h k c = go (live e) refl
  where
    go : (b : Bool) → live e ≡ b → (not b || p (as_session e)) ≡ q e
    go true v = h
    go false v = sym (k (rw v at c))

pub lift_excl : (e : Entry) → clean e ≡ true → lift not_exclusive e ≡ no_exclusive e
lift_excl e c = clean_lift not_exclusive no_exclusive e refl (λ h. and_l (no_exclusive e) _ h) c

pub lift_shared : (e : Entry) → clean e ≡ true → lift not_shared e ≡ no_shared e
lift_shared e c = clean_lift not_shared no_shared e refl (λ h. and_r (no_exclusive e) _ h) c

lift_fits : (k : List ℕ) (e : Entry) → clean e ≡ true → lift (λ s. not_shared s || same s.shared k) e ≡ fits k e
lift_fits k e c = clean_lift (λ s. not_shared s || same s.shared k) (fits k) e refl (λ h. or_of _ _ (and_r (no_exclusive e) _ h)) c

pub allowed_seen : (ss : List Session) (es : List Entry) → Same ss es → Firm es → (i : ℕ) → live (at es i) ≡ true → (k : List ℕ) → allowed ss (at es i).number k ≡ may_grant es i k
unfolding allowed
allowed_seen ss es s f i v [] =
    ap₂ ◌&&◌ (others_seen ss es s f i v not_exclusive ∙ all_but_cong (lift not_exclusive) no_exclusive es i (λ j d. lift_excl (at es j) (all_at clean es j refl f.clean_all)))
    (ap₂ ◌||◌ (others_seen ss es s f i v not_shared ∙ all_but_cong (lift not_shared) no_shared es i
    (λ j d. lift_shared (at es j) (all_at clean es j refl f.clean_all))) (own_seen ss es s f i v (λ s. not (not_shared s))))
    ∙ sym (exclusive_rule es i)
allowed_seen ss es s f i v (x ∷ k) =
    ap₂ ◌&&◌ (others_seen ss es s f i v not_exclusive ∙ all_but_cong (lift not_exclusive) no_exclusive es i (λ j d. lift_excl (at es j) (all_at clean es j refl f.clean_all)))
    (all_lift ss es s (λ s. not_shared s || same s.shared (x ∷ k))
    ∙ all_cong (lift (λ s. not_shared s || same s.shared (x ∷ k))) (fits (x ∷ k)) es
    (λ j. lift_fits (x ∷ k) (at es j) (all_at clean es j refl f.clean_all)))
    ∙ sym (shared_rule es i x k)

-- a connection's session
eqb_comm : (a b : ℕ) → eqb a b ≡ eqb b a
eqb_comm a b = go (same? a b)
  where
    go : (a ≡ b) ⊎ (a ≡ b → ⊥) → eqb a b ≡ eqb b a
    go (inl e) = eq-eqb a b e ∙ sym (eq-eqb b a (sym e))
    go (inr n) = ne_eqb a b n ∙ sym (ne_eqb b a (λ e. n (sym e)))

pub on_seen : (c : ℕ) (e : Entry) → (c ≡ no_connection → ⊥) → on c (as_session e) ≡ (eqb e.synchronous c || eqb e.asynchronous c)
on_seen c e r = go (eqb e.asynchronous no_connection) refl
  where
    nil-or : (a : Bool) → (a || false) ≡ a
    nil-or true = refl
    nil-or false = refl

    go : (b : Bool) → eqb e.asynchronous no_connection ≡ b → one_of (e.synchronous ∷ cond b [] (e.asynchronous ∷ [])) c ≡ (eqb e.synchronous c || eqb e.asynchronous c)
    go true h = ap₂ ◌||◌ (eqb_comm c e.synchronous) (sym (ne_eqb e.asynchronous c (λ q. r (sym q ∙ eqb-true _ _ h))))
    go false h = ap₂ ◌||◌ (eqb_comm c e.synchronous) (nil-or (eqb c e.asynchronous) ∙ eqb_comm c e.asynchronous)

-- its removal empties its slot; where there is none, nothing changes
pub drop_seen : (ss : List Session) (es : List Entry) → Same ss es → Firm es → (c : ℕ) → (c ≡ no_connection → ⊥) → Same (keep (λ x. not (on c x)) ss) (set es (slot_in es c) blank)
drop_seen ss es s f c r p = tally_keep p (on c) ss ∙ s (λ x. not (on c x) && p x) ∙ tally_seen (λ x. not (on c x) && p x) es ∙ go (place_sound es c) ∙ sym (tally_seen p (set es i blank))
  where
    i : ℕ
    i = slot_in es c

    off : (j : ℕ) → (is_on_connection c (at es j) ≡ true → ⊥) → lower (λ x. not (on c x) && p x) (at es j) ≡ lower p (at es j)
    off j n = while (live (at es j)) _ _ (λ u. ap (λ b. not b && p (as_session (at es j))) (on_seen c (at es j) r ∙ isn't _ (λ h. n (both _ _ u h))))

    go : (is_on_connection c (at es i) ≡ true) ⊎ (at es i ≡ blank) → tally (lower (λ x. not (on c x) && p x)) es ≡ tally (lower p) (set es i blank)
    go (inl h) =
        let l : i < length es = inside (is_on_connection c) es i refl h in
        tally_split (lower (λ x. not (on c x) && p x)) es i l
        ∙ ap₂ (λ (b : Bool) (n : ℕ). one b + n) (ap₂ (λ (u b : Bool). u && (not b && p (as_session (at es i)))) (and_l (live (at es i)) _ h)
        (on_seen c (at es i) r ∙ and_r (live (at es i)) _ h)) (tally_but_cong _ (lower p) es i (λ j d. off j (λ h'. d (f.connections c r j i h' h))))
        ∙ sym (tally_split (lower p) (set es i blank) i (rw (length-set es i blank) l)
        ∙ ap₂ (λ (b : Bool) (n : ℕ). one b + n) (ap (lower p) (get_or-set_same es i blank blank l)) (tally_but_at (lower p) es i blank))
    go (inr h) =
        tally_cong _ (lower p) es (λ j. off j (λ h'. true≢false (sym (place_complete es c j h') ∙ ap (is_on_connection c) h)))
        ∙ sym (tally_same (lower p) es i blank (ap (lower p) (sym h)))
