-- The simulation: each lock event of the server, and the grant pass, against the lock model's own request, release, reading, removal and look.
use mathlib.Core.Path.{◌≡◌, refl, sym, ap, ap₂, ◌∙◌}
use mathlib.Core.Bool.{Bool, true, false, not, ◌&&◌, ◌||◌, cond, true≢false}
use mathlib.Core.List.{List, [], ◌∷◌, ◌++◌, map}
use mathlib.Core.Logic.{◌⊎◌, inl, inr}
use Prim.Native.Nat.{ℕ, zero, suc, ◌+◌}
use lib.Dec.{eqb, leb}
use lib.ListN.{set}
use lib.Seq.{get_or-set_other}
use borrow.Author.Tests.{eq-eqb, ne_eqb}
use Rattle.model.specs.Sizes.{no_connection, before_first}
use Rattle.model.specs.Lists.{all, keep, any}
use Rattle.model.specs.State.{Locks, Entry, Waiting, Kind.exclusive_lock, Kind.shared_lock, Standing, Standing.no_release, Standing.release_of, blank, at, live}
use Rattle.model.specs.Place.{is_on_connection, slot_in}
use Rattle.model.specs.Locks
use Rattle.model.specs.Locks.{LockResult, Answer, elsewhere, holds, no_shared, give, may_grant, change, tell, refuse, ruling}
use Rattle.model.specs.LockModel
use Rattle.model.specs.LockModel.{Session, Request, Model, Told, ModelResult, own, has, tells, zeros, decided, is_pending}
use Rattle.model.specs.Agreement.{as_pending, as_session, as_request, Agrees}
use Rattle.model.proofs.Basics.{and_l, and_r, both, isn't, not_not, same?, apart, all_kept}
use Rattle.model.proofs.Place.{place_sound, place_complete}
use Rattle.claims.proofs.Invariant.{Good, Firm, good_keep}
use Rattle.claims.proofs.Waiting.{request_rule}
use Rattle.claims.proofs.Events.{Enters, Pairs}
use Rattle.claims.proofs.Seen.{Same, own_seen, channel_seen, alter_seen, enter_seen, allowed_seen, on_seen, drop_seen}

abbrev pub told_of : Answer → Told
told_of a = record { connection = a.to; code = a.code; request = a.request }

pub map_append : (xs ys : List Answer) → map told_of (xs ++ ys) ≡ map told_of xs ++ map told_of ys
map_append [] ys = refl
map_append (x ∷ xs) ys = ap (λ l. told_of x ∷ l) (map_append xs ys)

-- the server's locks and answers, the lock model's
pub record Alike (x : LockResult) (o : ModelResult) : Type 0 where
  pub agrees : Agrees x.locks o.model
  pub told : o.told ≡ map told_of x.answers

-- requests
module _ (es : List Entry) where
  pub keep_seen : (P : Request → Bool) (Q : Waiting → Bool) → ((w : Waiting) → live (at es w.slot) ≡ true → P (as_request es w) ≡ Q w)
      → (ws : List Waiting) → Good es ws → keep P (map (as_request es) ws) ≡ map (as_request es) (keep Q ws)
  keep_seen P Q h [] g = refl
  keep_seen P Q h (w ∷ ws) g = ap (λ b. cond b (as_request es w ∷ keep P (map (as_request es) ws)) (keep P (map (as_request es) ws)))
      (h w (and_l (live (at es w.slot)) _ g.0)) ∙ go (Q w) (keep_seen P Q h ws g.2)
    where
      go : (b : Bool) → keep P (map (as_request es) ws) ≡ map (as_request es) (keep Q ws)
          → cond b (as_request es w ∷ keep P (map (as_request es) ws)) (keep P (map (as_request es) ws)) ≡ map (as_request es) (cond b (w ∷ keep Q ws) (keep Q ws))
      go true e = ap (λ l. as_request es w ∷ l) e
      go false e = e

  all_requests : (P : Request → Bool) (Q : Waiting → Bool) → ((w : Waiting) → live (at es w.slot) ≡ true → P (as_request es w) ≡ Q w)
      → (ws : List Waiting) → Good es ws → all P (map (as_request es) ws) ≡ all Q ws
  all_requests P Q h [] g = refl
  all_requests P Q h (w ∷ ws) g = ap₂ ◌&&◌ (h w (and_l (live (at es w.slot)) _ g.0)) (all_requests P Q h ws g.2)

  -- a number is a slot's
  num_slot : Firm es → (i j : ℕ) → live (at es i) ≡ true → live (at es j) ≡ true → eqb (at es j).number (at es i).number ≡ eqb j i
  num_slot f i j v u = go (same? j i)
    where
      go : (j ≡ i) ⊎ (j ≡ i → ⊥) → eqb (at es j).number (at es i).number ≡ eqb j i
      go (inl e) = eq-eqb _ _ (ap (λ k. (at es k).number) e) ∙ sym (eq-eqb j i e)
      go (inr n) = isn't _ (λ h. n (f.numbers (at es i).number j i (both _ _ u h) (both _ _ v (eq-eqb (at es i).number (at es i).number refl)))) ∙ sym (ne_eqb j i n)

  zeros_seen : (ss : List Session) → Same ss es → Firm es → (P : Request → Bool) (Q : Waiting → Bool) → ((w : Waiting) → live (at es w.slot) ≡ true → P (as_request es w) ≡ not (Q w))
      → (ws : List Waiting) → Good es ws → zeros ss (keep P (map (as_request es) ws)) ≡ map told_of (refuse es Q ws)
  zeros_seen ss s f P Q h [] g = refl
  zeros_seen ss s f P Q h (w ∷ ws) g =
      ap (λ b. zeros ss (cond b (as_request es w ∷ keep P (map (as_request es) ws)) (keep P (map (as_request es) ws)))) (h w (and_l (live (at es w.slot)) _ g.0))
      ∙ go (Q w) (zeros_seen ss s f P Q h ws g.2)
    where
      go : (b : Bool) → zeros ss (keep P (map (as_request es) ws)) ≡ map told_of (refuse es Q ws)
          → zeros ss (cond (not b) (as_request es w ∷ keep P (map (as_request es) ws)) (keep P (map (as_request es) ws))) ≡ map told_of
          (cond b (refuse es Q ws) (tell es w.slot 0 true ∷ refuse es Q ws))
      go true e = e
      go false e = ap₂ (λ (c : ℕ) (l : List Told). record { connection = c; code = 0; request = true } ∷ l) (channel_seen ss es s f w.slot (and_l (live (at es w.slot)) _ g.0)) e

-- requests are seen alike after a store that keeps the numbers of those that wait
pub requests_same : (es es' : List Entry) → ((j : ℕ) → live (at es j) ≡ true → (at es' j).number ≡ (at es j).number) → (ws : List Waiting) → Good es ws →
    map (as_request es) ws ≡ map (as_request es') ws
requests_same es es' h [] g = refl
requests_same es es' h (w ∷ ws) g = ap₂ (λ (n : ℕ) (l : List Request). record { number = n; deadline = w.deadline; string = w.string } ∷ l)
    (sym (h w.slot (and_l (live (at es w.slot)) _ g.0))) (requests_same es es' h ws g.2)

pub num_same : (es : List Entry) (i : ℕ) (y : Entry) → y.number ≡ (at es i).number → (j : ℕ) → (at (set es i y) j).number ≡ (at es j).number
num_same [] i y e j = refl
num_same (x ∷ es) zero y e zero = e
num_same (x ∷ es) zero y e (suc j) = refl
num_same (x ∷ es) (suc i) y e zero = refl
num_same (x ∷ es) (suc i) y e (suc j) = num_same es i y e j

requests_apart : (es : List Entry) (i : ℕ) (y : Entry) (ws : List Waiting) → all (elsewhere i) ws ≡ true → map (as_request es) ws ≡ map (as_request (set es i y)) ws
requests_apart es i y [] a = refl
requests_apart es i y (w ∷ ws) a =
    ap₂ (λ (e : Entry) (l : List Request). record { number = e.number; deadline = w.deadline; string = w.string } ∷ l)
    (sym (get_or-set_other es i w.slot y blank (apart i w (and_l (elsewhere i w) _ a)))) (requests_apart es i y ws (and_r (elsewhere i w) _ a))

pub give_num : (k : List ℕ) (e : Entry) → (give k e).number ≡ e.number
give_num [] e = refl
give_num (x ∷ k) e = refl

pub give_live : (k : List ℕ) (e : Entry) → live e ≡ true → live (give k e) ≡ true
give_live [] e v = v
give_live (x ∷ k) e v = v

pub give_seen : (k : List ℕ) (e : Entry) → as_session (give k e) ≡ LockModel.with_lock k (as_session e)
give_seen [] e = refl
give_seen (x ∷ k) e = refl

holds_seen : (k : List ℕ) (e : Entry) → has k (as_session e) ≡ holds k e
holds_seen [] e = refl
holds_seen (x ∷ k) e = refl

pending_seen : (s : Standing) → is_pending (as_pending s) ≡ Locks.stands s
pending_seen no_release = refl
pending_seen (release_of exclusive_lock n) = refl
pending_seen (release_of shared_lock n) = refl

-- a release that stands and passes a test of its number is due
abbrev pub due_by : (ℕ → Bool) → Standing → Locks.Due
due_by p no_release = Locks.not_due
due_by p (release_of k m) = cond (p m) (Locks.due_now k) Locks.not_due

pub due_at_lem : (n : ℕ) (s : Standing) → Locks.due_at n s ≡ due_by (λ q. eqb q n) s
due_at_lem n no_release = refl
due_at_lem n (release_of k m) = refl

pub due_any_lem : (s : Standing) → Locks.due_any s ≡ due_by (λ q. true) s
due_any_lem no_release = refl
due_any_lem (release_of k m) = refl

module _ (l : Locks) (m : Model) (a : Agrees l m) (g : Good l.entries l.waiting) (f : Firm l.entries) where
  module _ (i : ℕ) (v : live (at l.entries i) ≡ true) where
    tells_seen : (k : ℕ) (q : Bool) → tells m.sessions (at l.entries i).number k q ≡ told_of (tell l.entries i k q)
    tells_seen k q = ap (λ (c : ℕ). record { connection = c; code = k; request = q }) (channel_seen m.sessions l.entries a.sessions f i v)

    stored : (y : Entry) → y.number ≡ (at l.entries i).number → map (as_request l.entries) l.waiting ≡ map (as_request (set l.entries i y)) l.waiting
    stored y e = requests_same l.entries (set l.entries i y) (λ j u. num_same l.entries i y e j) l.waiting g

    -- by the tests: held, no request waits, too long, may be granted, timeout 0
    ask_seen : (t : ℕ) (k : List ℕ) (h b s y z : Bool) → Alike (Locks.respond (ruling h b s y z) l i t k) (decided (h || (not b || s)) y z m (at l.entries i).number t k)
    ask_seen t k true b s y z = record { agrees = a; told = ap (λ (x : Told). x ∷ []) (tells_seen 3 true) }
    ask_seen t k false false s y z = record { agrees = a; told = ap (λ (x : Told). x ∷ []) (tells_seen 3 true) }
    ask_seen t k false true true y z = record { agrees = a; told = ap (λ (x : Told). x ∷ []) (tells_seen 3 true) }
    ask_seen t k false true false true z =
        record {
          agrees = record {
            clock = a.clock;
            waiting = a.waiting ∙ stored (Locks.give_at l.clock k (at l.entries i)) (give_num k _);
            sessions = alter_seen m.sessions l.entries a.sessions f i v (LockModel.with_lock k) (Locks.give_at l.clock k (at l.entries i)) (give_live k _ v) (give_seen k _);
          };
          told = ap (λ (x : Told). x ∷ []) (tells_seen 1 true);
        }
    ask_seen t k false true false false true = record { agrees = a; told = ap (λ (x : Told). x ∷ []) (tells_seen 0 true) }
    ask_seen t k false true false false false =
        record {
          agrees = record {
            clock = a.clock;
            waiting = ap₂ (λ (ws : List Request) (c : ℕ). ws ++ record { number = (at l.entries i).number; deadline = c + t; string = k } ∷ []) a.waiting
                a.clock ∙ sym (map_snoc (as_request l.entries) l.waiting _);
            sessions = a.sessions;
          };
          told = refl;
        }
      where
        map_snoc : (q : Waiting → Request) (ws : List Waiting) (w : Waiting) → map q (ws ++ w ∷ []) ≡ map q ws ++ q w ∷ []
        map_snoc q [] w = refl
        map_snoc q (x ∷ ws) w = ap (λ (r : List Request). q x ∷ r) (map_snoc q ws w)

    pub waits_seen : any (λ w. eqb w.number (at l.entries i).number) m.waiting ≡ not (all (elsewhere i) l.waiting)
    waits_seen =
        ap not (ap (λ ws. all (λ w. not (eqb w.number (at l.entries i).number)) ws) a.waiting
        ∙ all_requests l.entries (λ w. not (eqb w.number (at l.entries i).number)) (elsewhere i)
        (λ w u. ap not (num_slot l.entries f i w.slot v u)) l.waiting g)

    pub sim_ask : (t : ℕ) (k : List ℕ) → Alike (change l (Locks.request i t k)) (LockModel.request m (at l.entries i).number t k)
    unfolding LockModel.request
    sim_ask t k =
        rw (
          request_rule l g f i v t k,
          own_seen m.sessions l.entries a.sessions f i v (has k),
          own_seen m.sessions l.entries a.sessions f i v
              (λ s. is_pending s.pending),
          holds_seen k (at l.entries i),
          pending_seen (at l.entries i).standing,
          waits_seen,
          allowed_seen
              m.sessions l.entries a.sessions f i v k,
        )
        (ask_seen t k (holds k (at l.entries i)) (all (elsewhere i) l.waiting) _ (may_grant l.entries i k) (eqb t 0))

    -- a store at slot i, with an answer to a release or without
    told_store : (y : Entry) (h : Session → Session) (k : ℕ) → y.number ≡ (at l.entries i).number → as_session y ≡ h (as_session (at l.entries i))
        → Alike (record { locks = Locks.with_entries l (set l.entries i y); answers = tell l.entries i k false ∷ [] })
        (record {
          model = LockModel.with_sessions m (LockModel.alter (at l.entries i).number h m.sessions);
          told = tells m.sessions (at l.entries i).number k false ∷ [];
        })
    told_store y h k n e =
        record {
          agrees = record { clock = a.clock; waiting = a.waiting ∙ stored y n; sessions = alter_seen m.sessions l.entries a.sessions f i v h y (ap (λ n. not (eqb n 0)) n ∙ v) e };
          told = ap (λ (x : Told). x ∷ []) (tells_seen k false);
        }

    quiet_store : (y : Entry) (h : Session → Session) → y.number ≡ (at l.entries i).number → as_session y ≡ h (as_session (at l.entries i))
        → Alike (Locks.unanswered (Locks.with_entries l (set l.entries i y)))
        (record { model = LockModel.with_sessions m (LockModel.alter (at l.entries i).number h m.sessions); told = [] })
    quiet_store y h n e =
        record {
          agrees = record { clock = a.clock; waiting = a.waiting ∙ stored y n; sessions = alter_seen m.sessions l.entries a.sessions f i v h y (ap (λ n. not (eqb n 0)) n ∙ v) e };
          told = refl;
        }

    free_seen : (n : ℕ) (t x s b : Bool) → Alike (Locks.released (Locks.releasing t x s b) l i n) (LockModel.freed t x (not s) b m (at l.entries i).number n)
    free_seen n true x s b = record { agrees = a; told = ap (λ (x : Told). x ∷ []) (tells_seen 3 false) }
    free_seen n false true s true = told_store _ LockModel.exclusive_freed 1 refl refl
    free_seen n false true s false = quiet_store _ (LockModel.pends (LockModel.exclusive_until n)) refl refl
    free_seen n false false false true = told_store _ LockModel.shared_freed 2 refl refl
    free_seen n false false false false = quiet_store _ (LockModel.pends (LockModel.shared_until n)) refl refl
    free_seen n false false true b = record { agrees = a; told = ap (λ (x : Told). x ∷ []) (tells_seen 3 false) }

    pub sim_free : (n : ℕ) → Alike (change l (Locks.release i n)) (LockModel.release m (at l.entries i).number n)
    unfolding change LockModel.release
    sim_free n =
        rw (
          own_seen m.sessions l.entries a.sessions f i v (λ s. is_pending s.pending),
          own_seen m.sessions l.entries a.sessions f i v
              (λ s. s.exclusive),
          own_seen m.sessions l.entries a.sessions f i v (λ s. not (LockModel.not_shared s)),
          own_seen m.sessions
              l.entries a.sessions f i v (λ s. eqb s.heard n),
          pending_seen (at l.entries i).standing,
        )
        (free_seen n (Locks.stands (at l.entries i).standing) (at l.entries i).exclusive (no_shared (at l.entries i)) (eqb (at l.entries i).last n))

    -- a message is heard of; by the standing release and the test of its number
    hears_seen : (n : ℕ) (p : ℕ → Bool) (s : Standing) → Alike (Locks.completed (due_by p s) l i n)
        (LockModel.hears (LockModel.ends_exclusive p (as_pending s)) (LockModel.ends_shared p (as_pending s)) m (at l.entries i).number n)
    hears_seen n p no_release = quiet_store _ (LockModel.hearing n) refl refl
    hears_seen n p (release_of exclusive_lock q) = go (p q)
      where
        go : (b : Bool) → Alike (Locks.completed (cond b (Locks.due_now exclusive_lock) Locks.not_due) l i n) (LockModel.hears b false m (at l.entries i).number n)
        go true = told_store _ (λ s. LockModel.hearing n (LockModel.pends LockModel.none_pending (LockModel.exclusive_freed s))) 1 refl refl
        go false = quiet_store _ (LockModel.hearing n) refl refl
    hears_seen n p (release_of shared_lock q) = go (p q)
      where
        go : (b : Bool) → Alike (Locks.completed (cond b (Locks.due_now shared_lock) Locks.not_due) l i n) (LockModel.hears false b m (at l.entries i).number n)
        go true = told_store _ (λ s. LockModel.hearing n (LockModel.pends LockModel.none_pending (LockModel.shared_freed s))) 2 refl refl
        go false = quiet_store _ (LockModel.hearing n) refl refl

    pub sim_command : (n : ℕ) → Alike (change l (Locks.command i n)) (LockModel.message m (at l.entries i).number n)
    unfolding change LockModel.message
    sim_command n =
        rw (
          own_seen m.sessions l.entries a.sessions f i v (λ s. LockModel.ends_exclusive (λ q. eqb q n) s.pending),
          own_seen m.sessions
              l.entries a.sessions f i v (λ s. LockModel.ends_shared (λ q. eqb q n) s.pending),
          due_at_lem n (at l.entries i).standing,
        )
        (hears_seen n (λ q. eqb q n) (at l.entries i).standing)

  pub sim_tick : (t : ℕ) → Alike (change l (Locks.reading t)) (LockModel.reading t m)
  unfolding change LockModel.reading
  sim_tick t =
      rw a.waiting
      record {
        agrees = record { clock = refl; waiting = keep_seen l.entries (λ w. not (leb w.deadline t)) (Locks.unexpired t) (λ w u. refl) l.waiting g; sessions = a.sessions };
        told = zeros_seen l.entries m.sessions a.sessions f (λ w. leb w.deadline t) (Locks.unexpired t) (λ w u. sym (not_not _)) l.waiting g;
      }

  pub sim_enter : (i n c : ℕ) → Enters l.entries i n c → Alike (change l (Locks.enter i n c)) (LockModel.enters n c m)
  unfolding change
  sim_enter i n c x =
      record {
        agrees = record {
          clock = a.clock;
          waiting = a.waiting ∙ requests_same l.entries (set l.entries i (Locks.opened n c))
              (λ j u. ap (λ (e : Entry). e.number) (get_or-set_other l.entries i j (Locks.opened n c) blank
              (λ e. true≢false (sym u ∙ ap (λ k. live (at l.entries k)) e ∙ x.vacant)))) l.waiting g;
          sessions = enter_seen m.sessions l.entries a.sessions i (Locks.opened n c) x.vacant x.within (ap not x.nonzero);
        };
        told = refl;
      }

  pub sim_pair : (i c : ℕ) → Pairs l.entries i c → Alike (change l (Locks.join i c)) (LockModel.joins (at l.entries i).number c m)
  unfolding change
  sim_pair i c x =
      record {
        agrees = record {
          clock = a.clock;
          waiting = a.waiting ∙ requests_same l.entries (set l.entries i (Locks.joined c (at l.entries i)))
              (λ j u. num_same l.entries i (Locks.joined c (at l.entries i)) refl j) l.waiting g;
          sessions = alter_seen m.sessions l.entries a.sessions f i x.alive (LockModel.also_on c) (Locks.joined c (at l.entries i)) x.alive
              (joined_seen (at l.entries i) x.half);
        };
        told = refl;
      }
    where
      joined_seen : (e : Entry) → e.asynchronous ≡ no_connection → as_session (Locks.joined c e) ≡ LockModel.also_on c (as_session e)
      joined_seen e h = rw (ne_eqb c no_connection x.real, eq-eqb e.asynchronous no_connection h)

  -- the session of a connection
  gone_seen : (c : ℕ) → (c ≡ no_connection → ⊥) → (w : Waiting) → live (at l.entries w.slot) ≡ true
      → not (own (as_request l.entries w).number (LockModel.on c) m.sessions) ≡ elsewhere (slot_in l.entries c) w
  gone_seen c r w u =
      ap not (own_seen m.sessions l.entries a.sessions f w.slot u (LockModel.on c) ∙ on_seen c (at l.entries w.slot) r ∙ go (same? w.slot (slot_in l.entries c)))
    where
      go : (w.slot ≡ slot_in l.entries c) ⊎ (w.slot ≡ slot_in l.entries c → ⊥)
          → (eqb (at l.entries w.slot).synchronous c || eqb (at l.entries w.slot).asynchronous c) ≡ eqb w.slot (slot_in l.entries c)
      go (inl e) = at_conn (place_sound l.entries c) ∙ sym (eq-eqb _ _ e)
        where
          at_conn : (is_on_connection c (at l.entries (slot_in l.entries c)) ≡ true) ⊎ (at l.entries (slot_in l.entries c) ≡ blank)
              → (eqb (at l.entries w.slot).synchronous c || eqb (at l.entries w.slot).asynchronous c) ≡ true
          at_conn (inl h) = ap (λ k. eqb (at l.entries k).synchronous c || eqb (at l.entries k).asynchronous c) e ∙ and_r (live (at l.entries (slot_in l.entries c))) _ h
          at_conn (inr h) = absurd (true≢false (sym u ∙ ap (λ k. live (at l.entries k)) e ∙ ap live h))
      go (inr n) =
          isn't _ (λ h. n (f.connections c r w.slot (slot_in l.entries c) (both _ _ u h) (place_complete l.entries c w.slot (both _ _ u h))))
          ∙ sym (ne_eqb _ _ n)

  pub sim_drop : (c : ℕ) → (c ≡ no_connection → ⊥) → Alike (change l (Locks.close (slot_in l.entries c))) (LockModel.removal c m)
  unfolding change LockModel.removal
  sim_drop c r =
      let i = slot_in l.entries c in
      record {
        agrees = record {
          clock = a.clock;
          waiting =
              ap (keep (λ w. not (own w.number (LockModel.on c) m.sessions))) a.waiting
              ∙ keep_seen l.entries (λ w. not (own w.number (LockModel.on c) m.sessions)) (elsewhere i) (gone_seen c r) l.waiting g
              ∙ requests_apart l.entries i blank (keep (elsewhere i) l.waiting) (all_kept (elsewhere i) l.waiting);
          sessions = drop_seen m.sessions l.entries a.sessions f c r;
        };
        told = refl;
      }

-- a device clear: the request is answered 0, then a message is heard of
pub sim_clear : (l : Locks) (m : Model) → Agrees l m → Good l.entries l.waiting → Firm l.entries → (i : ℕ) → live (at l.entries i) ≡ true
    → Alike (change l (Locks.clear i)) (LockModel.clearing (at l.entries i).number m)
unfolding change LockModel.clearing
sim_clear l m a g f i v =
    let n = (at l.entries i).number in
    let l' = Locks.with_waiting l (keep (elsewhere i) l.waiting) in
    let m' = LockModel.with_waiting_lem m (keep (λ w. not (eqb w.number n)) m.waiting) in
    let a' : Agrees l' m' =
    record {
      clock = a.clock;
      waiting = ap (keep (λ w. not (eqb w.number n))) a.waiting
          ∙ keep_seen l.entries (λ w. not (eqb w.number n)) (elsewhere i) (λ w u. ap not (num_slot l.entries f i w.slot v u)) l.waiting g;
      sessions = a.sessions;
    }
    in
    let told : zeros m.sessions (keep (λ w. eqb w.number n) m.waiting) ≡ map told_of (refuse l.entries (elsewhere i) l.waiting) =
    ap (λ ws. zeros m.sessions (keep (λ w. eqb w.number n) ws)) a.waiting
    ∙ zeros_seen l.entries m.sessions a.sessions f (λ w. eqb w.number n) (elsewhere i) (λ w u. num_slot l.entries f i w.slot v u ∙ sym (not_not _)) l.waiting g in
    rw (
      own_seen m.sessions l.entries a.sessions f i v (λ s. LockModel.ends_exclusive (λ q. true) s.pending),
      own_seen m.sessions l.entries
          a.sessions f i v (λ s. LockModel.ends_shared (λ q. true) s.pending),
      due_any_lem (at l.entries i).standing,
    )
    (then (refuse l.entries (elsewhere i) l.waiting) (hears_seen l' m' a' (good_keep l.entries (elsewhere i) l.waiting g) f i v before_first
    (λ q. true) (at l.entries i).standing) told)
  where
    then : {x : LockResult} {o : ModelResult} {ts : List Told} (zs : List Answer) → Alike x o → ts ≡ map told_of zs →
        Alike (record { locks = x.locks; answers = zs ++ x.answers }) (record { model = o.model; told = ts ++ o.told })
    then {x = x} zs h e = record { agrees = h.agrees; told = ap₂ ◌++◌ e h.told ∙ sym (map_append zs x.answers) }
