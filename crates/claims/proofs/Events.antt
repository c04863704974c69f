-- Each lock event that fits keeps the invariant; only a release that takes effect and a closing can leave something to grant, so a pass after
-- any other event does nothing.
use mathlib.Core.Path.{◌≡◌, refl, sym, ap, ◌∙◌}
use mathlib.Core.Bool.{Bool, true, false, not, ◌&&◌, false≢true, true≢false}
use mathlib.Core.List.{List, [], ◌∷◌}
use mathlib.Core.Logic.{◌⊎◌, inl, inr}
use Prim.Native.Nat.{ℕ, zero, suc, ◌<◌}
use lib.Dec.{eqb}
use lib.ListN.{set, length, length-set, replicate}
use borrow.Author.Tests.{eqb-true}
use Rattle.model.specs.Sizes.{no_connection, session_limit, before_first}
use Rattle.model.specs.Lists.{all, keep, is_nil}
use Rattle.model.specs.State.{Entry, Waiting, blank, at, live, Locks, Kind.exclusive_lock, Kind.shared_lock, Standing, Standing.no_release, Standing.release_of, fresh_locks}
use Rattle.model.specs.Place.{is_on_connection}
use Rattle.model.specs.Locks
use Rattle.model.specs.Locks.{elsewhere, holds, no_exclusive, no_shared, grant, may_grant, change, settle, frees}
use Rattle.model.proofs.Basics.{and_l, and_r, both, not_of, contra, or_of, or_r, or→, apart, all_set, all_snoc, all_keep, all_kept, all_at, sole_store, sole_same}
use Rattle.claims.proofs.GrantingRule.{ready, may_back, may_same}
use Rattle.claims.proofs.Invariant.{Good, clean, blocked, numbered, exclusive, Firm, Sound, Inv, backing, backed, backed_at, firm_give, firm_blank}
use Rattle.claims.proofs.Invariant.{good_apart, good_weaker, good_keep, good_snoc, pass_after, pass_still}
use Rattle.claims.proofs.Releasing.{release_stores, complete_stores, stores_sound}

-- what the checks make sure of before an event
pub record Enters (es : List Entry) (i n c : ℕ) : Type 0 where
  pub vacant : live (at es i) ≡ false
  pub within : i < length es
  pub fresh : (j : ℕ) → numbered n (at es j) ≡ true → ⊥
  pub nonzero : eqb n 0 ≡ false
  pub unused : (j : ℕ) → is_on_connection c (at es j) ≡ true → ⊥
  pub real : c ≡ no_connection → ⊥

pub record Pairs (es : List Entry) (i c : ℕ) : Type 0 where
  pub alive : live (at es i) ≡ true
  pub half : (at es i).asynchronous ≡ no_connection
  pub unused : (j : ℕ) → is_on_connection c (at es j) ≡ true → ⊥
  pub real : c ≡ no_connection → ⊥

abbrev pub Fit : List Entry → Locks.LockEvent → Type 0
Fit es Locks.nothing = Unit {0}
Fit es (Locks.enter i n c) = Enters es i n c
Fit es (Locks.join i c) = Pairs es i c
Fit es (Locks.request i t k) = live (at es i) ≡ true
Fit es (Locks.release i n) = live (at es i) ≡ true
Fit es (Locks.command i n) = live (at es i) ≡ true
Fit es (Locks.clear i) = live (at es i) ≡ true
Fit es (Locks.close i) = Unit {0}
Fit es (Locks.reading t) = Unit {0}

firm_enter : (es : List Entry) (i n c : ℕ) → Enters es i n c → Firm es → Firm (set es i (Locks.opened n c))
firm_enter es i n c x f =
    record {
      clean_all = all_set clean es i _ (or_r (not (eqb n 0)) true refl) f.clean_all;
      numbers = λ m. sole_store (numbered m) es i _ (λ h j d v. taken-by m j (eqb-true n m (and_r (not (eqb n 0)) _ h)) v) (f.numbers m);
      connections = λ c' r. sole_store (is_on_connection c') es i _ (λ h j d v. other c' r j (or→ (eqb c c') _ (and_r (not (eqb n 0)) _ h)) v) (f.connections c' r);
      one_exclusive = sole_same exclusive es i _ (λ h. absurd (false≢true h)) f.one_exclusive;
      backed_all = all_set backed es i _ refl f.backed_all;
      slots = length-set es i _ ∙ f.slots;
    }
  where
    taken-by : (m j : ℕ) → n ≡ m → numbered m (at es j) ≡ true → ⊥
    taken-by m j e v = x.fresh j (rw (← e) at v)

    other : (c' : ℕ) → (c' ≡ no_connection → ⊥) → (j : ℕ) → (eqb c c' ≡ true) ⊎ (eqb no_connection c' ≡ true) → is_on_connection c' (at es j) ≡ true → ⊥
    other c' r j (inl e) v = x.unused j (rw (← eqb-true c c' e) at v)
    other c' r j (inr e) v = r (sym (eqb-true no_connection c' e))

joined_backed : (e : Entry) (c : ℕ) → backed e ≡ true → backed (Locks.joined c e) ≡ true
joined_backed e c b = go e.standing b
  where
    go : (s : Standing) → backing s e ≡ true → backing s (Locks.joined c e) ≡ true
    go no_release b = refl
    go (release_of exclusive_lock n) b = b
    go (release_of shared_lock n) b = b

firm_pair : (es : List Entry) (i c : ℕ) → Pairs es i c → Firm es → Firm (Locks.update es i (Locks.joined c))
firm_pair es i c x f =
    record {
      clean_all = all_set clean es i _ (all_at clean es i refl f.clean_all) f.clean_all;
      numbers = λ m. sole_same (numbered m) es i _ (λ h. h) (f.numbers m);
      connections = λ c' r. sole_store (is_on_connection c') es i _ (λ h j d v. other c' r j d (or→ (eqb (at es i).synchronous c') _ (and_r (live (at es i)) _ h)) v) (f.connections c' r);
      one_exclusive = sole_same exclusive es i _ (λ h. h) f.one_exclusive;
      backed_all = all_set backed es i _ (joined_backed (at es i) c (backed_at es i f)) f.backed_all;
      slots = length-set es i _ ∙ f.slots;
    }
  where
    other : (c' : ℕ) → (c' ≡ no_connection → ⊥) → (j : ℕ) → (j ≡ i → ⊥) → (eqb (at es i).synchronous c' ≡ true) ⊎ (eqb c c' ≡ true) → is_on_connection c' (at es j) ≡ true → ⊥
    other c' r j d (inl e) v = d (f.connections c' r j i v (both _ _ x.alive (or_of _ _ e)))
    other c' r j d (inr e) v = x.unused j (rw (← eqb-true c c' e) at v)

paired : (e : Entry) (c : ℕ) (k : List ℕ) → ready e k ≡ true → ready (Locks.joined c e) k ≡ true
paired e c [] r = r
paired e c (x ∷ k) r = r

abbrev SoundL : Locks → Type 0
SoundL l = Sound l.entries l.waiting

module _ (l : Locks) (g : Good l.entries l.waiting) (c : Firm l.entries) where
  ask_sound : (i t : ℕ) (k : List ℕ) (h a s m z : Bool) → live (at l.entries i) ≡ true → holds k (at l.entries i) ≡ h
      → all (elsewhere i) l.waiting ≡ a → may_grant l.entries i k ≡ m → SoundL (Locks.respond (Locks.ruling h a s m z) l i t k).locks
  ask_sound i t k true a s m z v eh ea em = record { good = g; firm = c }
  ask_sound i t k false false s m z v eh ea em = record { good = g; firm = c }
  ask_sound i t k false true true m z v eh ea em = record { good = g; firm = c }
  ask_sound i t k false true false true z v eh ea em =
      record { good = good_apart l.entries i _ l.waiting ea g; firm = firm_give l.clock l.entries i k (both _ _ v (ap not eh)) em c }
  ask_sound i t k false true false false true v eh ea em = record { good = g; firm = c }
  ask_sound i t k false true false false false v eh ea em = record { good = good_snoc l.entries l.waiting _ g (both _ _ v (ap not eh)) ea; firm = c }

  pub change_sound : (e : Locks.LockEvent) → Fit l.entries e → SoundL (change l e).locks
  unfolding change
  change_sound Locks.nothing x = record { good = g; firm = c }
  change_sound (Locks.enter i n o) x =
      record {
        good = good_weaker l.entries i _ l.waiting (λ k r. absurd (true≢false (sym (and_l (live (at l.entries i)) _ r) ∙ x.vacant))) g;
        firm = firm_enter l.entries i n o x c;
      }
  change_sound (Locks.join i o) x = record { good = good_weaker l.entries i _ l.waiting (paired (at l.entries i) o) g; firm = firm_pair l.entries i o x c }
  change_sound (Locks.request i t k) x = ask_sound i t k (holds k (at l.entries i)) (all (elsewhere i) l.waiting) _ (may_grant l.entries i k) _ x refl refl refl
  change_sound (Locks.release i n) x = stores_sound l i _ g c x (release_stores l i n c)
  change_sound (Locks.command i n) x = stores_sound l i _ g c x (complete_stores l i n c (Locks.due_at n (at l.entries i).standing))
  change_sound (Locks.clear i) x = let l' = Locks.with_waiting l (keep (elsewhere i) l.waiting) in
      stores_sound l' i _ (good_keep l.entries _ l.waiting g) c x (complete_stores l' i before_first c (Locks.due_any (at l.entries i).standing))
  change_sound (Locks.close i) x =
      record {
        good = good_apart l.entries i blank (keep (elsewhere i) l.waiting) (all_kept (elsewhere i) l.waiting) (good_keep l.entries (elsewhere i) l.waiting g);
        firm = firm_blank l.entries i c;
      }
  change_sound (Locks.reading t) x = record { good = good_keep l.entries _ l.waiting g; firm = c }

-- quiet
blocked_same : (es es' : List Entry) → ((j : ℕ) (k : List ℕ) → may_grant es' j k ≡ may_grant es j k) → (ws : List Waiting) → all (blocked es) ws ≡ true → all (blocked es') ws ≡ true
blocked_same es es' h [] q = refl
blocked_same es es' h (w ∷ ws) q = both _ _ (ap not (h w.slot w.string) ∙ and_l (blocked es w) _ q) (blocked_same es es' h ws (and_r (blocked es w) _ q))

blocked_give : (now : ℕ) (es : List Entry) (i : ℕ) (m : List ℕ) → ready (at es i) m ≡ true → (ws : List Waiting) → all (elsewhere i) ws ≡ true →
    all (blocked es) ws ≡ true → all (blocked (grant now es i m)) ws ≡ true
blocked_give now es i m r [] a q = refl
blocked_give now es i m r (w ∷ ws) a q =
    both
    _
    _
    (ap not (contra _ _ (may_back now es i w.slot m w.string (apart i w (and_l (elsewhere i w) _ a)) r) (not_of _ (and_l (blocked es w) _ q))))
    (blocked_give now es i m r ws (and_r (elsewhere i w) _ a) (and_r (blocked es w) _ q))

nil→ : (l : List ℕ) → is_nil l ≡ true → l ≡ []
nil→ [] e = refl
nil→ (x ∷ l) e = absurd (false≢true e)

-- a free slot holds nothing
vacant_none : (e : Entry) → live e ≡ false → clean e ≡ true → (e.exclusive ≡ false) × (e.shared ≡ [])
vacant_none e v c =
    let b : (no_exclusive e && no_shared e) ≡ true = rw v at c in
    (not_of _ (and_l (no_exclusive e) _ b), nil→ _ (and_r (no_exclusive e) _ b))

abbrev Quiet : Locks → Type 0
Quiet l = all (blocked l.entries) l.waiting ≡ true

-- a release that stands and a number that is noted change no lock
order_quiet : (l : Locks) (j n : ℕ) (s : Standing) → Quiet l → Quiet (Locks.with_entries l (Locks.update l.entries j (Locks.with_order n s)))
order_quiet l j n s q = blocked_same l.entries _ (λ a k. may_same l.entries j a _ k refl refl) l.waiting q

release_quiet : (l : Locks) (j n : ℕ) (u : Locks.Releasing) → Quiet l → Locks.frees_now u ≡ false → Quiet (Locks.released u l j n).locks
release_quiet l j n Locks.r_invalid q f = q
release_quiet l j n (Locks.r_now k) q f = absurd (true≢false f)
release_quiet l j n (Locks.r_stands k) q f = order_quiet l j (at l.entries j).last (release_of k n) q

complete_quiet : (l : Locks) (j n : ℕ) (u : Locks.Due) → Quiet l → Locks.is_due u ≡ false → Quiet (Locks.completed u l j n).locks
complete_quiet l j n Locks.not_due q f = order_quiet l j n (at l.entries j).standing q
complete_quiet l j n (Locks.due_now k) q f = absurd (true≢false f)

module _ (l : Locks) (i : Inv l) where
  ask_quiet : (j t : ℕ) (k : List ℕ) (h a s m z : Bool) → live (at l.entries j) ≡ true → holds k (at l.entries j) ≡ h
      → all (elsewhere j) l.waiting ≡ a → may_grant l.entries j k ≡ m → Quiet (Locks.respond (Locks.ruling h a s m z) l j t k).locks
  ask_quiet j t k true a s m z v eh ea em = i.quiet
  ask_quiet j t k false false s m z v eh ea em = i.quiet
  ask_quiet j t k false true true m z v eh ea em = i.quiet
  ask_quiet j t k false true false true z v eh ea em = blocked_give l.clock l.entries j k (both _ _ v (ap not eh)) l.waiting ea i.quiet
  ask_quiet j t k false true false false true v eh ea em = i.quiet
  ask_quiet j t k false true false false false v eh ea em = all_snoc (blocked l.entries) l.waiting _ i.quiet (ap not em)

  pub change_quiet : (e : Locks.LockEvent) → Fit l.entries e → frees l e ≡ false → Quiet (change l e).locks
  unfolding change
  change_quiet Locks.nothing x f = i.quiet
  change_quiet (Locks.enter j n o) x f =
      let h = vacant_none (at l.entries j) x.vacant (all_at clean l.entries j refl i.sound.firm.clean_all) in
      blocked_same l.entries _ (λ a k. may_same l.entries j a _ k (sym h.0) (sym h.1)) l.waiting i.quiet
  change_quiet (Locks.join j o) x f = blocked_same l.entries _ (λ a k. may_same l.entries j a _ k refl refl) l.waiting i.quiet
  change_quiet (Locks.request j t k) x f = ask_quiet j t k (holds k (at l.entries j)) (all (elsewhere j) l.waiting) _ (may_grant l.entries j k) _ x refl refl refl
  change_quiet (Locks.release j n) x f = release_quiet l j n (Locks.releasing_of (at l.entries j) n) i.quiet f
  change_quiet (Locks.command j n) x f = complete_quiet l j n (Locks.due_at n (at l.entries j).standing) i.quiet f
  change_quiet (Locks.clear j) x f =
      complete_quiet (Locks.with_waiting l (keep (elsewhere j) l.waiting)) j before_first (Locks.due_any (at l.entries j).standing) (all_keep (blocked l.entries) _ l.waiting i.quiet) f
  change_quiet (Locks.close j) x f = absurd (true≢false f)
  change_quiet (Locks.reading t) x f = all_keep (blocked l.entries) _ l.waiting i.quiet

  -- a pass after any other event would do nothing: the server that passes only after a release takes effect and after a closing passes, in
  -- effect, after every event
  pub always_settled : (e : Locks.LockEvent) → Fit l.entries e → settle (frees l e) (change l e).locks ≡ Locks.grant_pass (change l e).locks
  always_settled e x = go (frees l e) refl
    where
      go : (b : Bool) → frees l e ≡ b → settle b (change l e).locks ≡ Locks.grant_pass (change l e).locks
      go true f = refl
      go false f = sym (pass_still _ (change_quiet e x f))

  pub inv_event : (e : Locks.LockEvent) → Fit l.entries e → Inv (Locks.grant_pass (change l e).locks).locks
  unfolding Locks.grant_pass
  inv_event e x =
      let s = change_sound l i.sound.good i.sound.firm e x in
      let r = pass_after (change l e).locks.clock (change l e).locks.waiting (change l e).locks.entries s.good s.firm in
      record { sound = r.sound; quiet = r.quiet }

-- the fresh server
pub blank_at : (n i : ℕ) → at (replicate n blank) i ≡ blank
blank_at zero i = refl
blank_at (suc n) zero = refl
blank_at (suc n) (suc i) = blank_at n i

pub inv_fresh : Inv (fresh_locks session_limit)
inv_fresh =
    record {
      sound = record {
        good = tt;
        firm = record {
          clean_all = refl;
          numbers = λ n i j u v. absurd (false≢true (rw (blank_at session_limit i) at u));
          connections = λ c r i j u v. absurd (false≢true (rw (blank_at session_limit i) at u));
          one_exclusive = λ i j u v. absurd (false≢true (rw (blank_at session_limit i) at u));
          backed_all = refl;
          slots = refl;
        };
      };
      quiet = refl;
    }
