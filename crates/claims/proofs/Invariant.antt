-- The invariant of the locks, and that the grant pass keeps it: what each waiting request, each entry and the whole list of entries has.
use mathlib.Core.Path.{◌≡◌, refl, sym, ap, ◌∙◌}
use mathlib.Core.Bool.{Bool, true, false, not, ◌&&◌, ◌||◌, cond, false≢true, true≢false}
use mathlib.Core.List.{List, [], ◌∷◌, ◌++◌}
use mathlib.Core.Logic.{◌⊎◌, inl, inr}
use Prim.Native.Nat.{ℕ, zero, suc}
use lib.Dec.{eqb}
use lib.ListN.{set, length, length-set}
use lib.Seq.{get_or-set_other}
use borrow.Author.Tests.{ne_eqb}
use Rattle.model.specs.Sizes.{no_connection, session_limit}
use Rattle.model.specs.Lists.{all, keep, is_nil}
use Rattle.model.specs.State.{Entry, Waiting, blank, at, live, Locks, Kind.exclusive_lock, Kind.shared_lock, Standing, Standing.no_release, Standing.release_of}
use Rattle.model.specs.Place.{is_on_connection}
use Rattle.model.specs.Locks
use Rattle.model.specs.Locks.{Passed, elsewhere, no_exclusive, no_shared, give, give_at, grant, may_grant, after, put, pass_over}
use Rattle.claims.proofs.GrantingRule.{ready, may_exclusive, may_back}
use Rattle.model.proofs.Basics.{and_l, and_r, both, not_of, not_not, contra, or_of, apart, all_at, all_set, all_snoc, all_keep, Sole, sole_store, sole_same}

-- each waiting request is of such a session, and a session has at most one
abbrev pub Good : List Entry → List Waiting → Type 0
Good es [] = Unit {0}
Good es (w ∷ ws) = (ready (at es w.slot) w.string ≡ true) × (all (elsewhere w.slot) ws ≡ true) × Good es ws

-- a free slot holds nothing
abbrev pub clean : Entry → Bool
clean e = live e || (no_exclusive e && no_shared e)

-- a release stands only for a lock that is held
abbrev pub backing : Standing → Entry → Bool
backing no_release e = true
backing (release_of exclusive_lock n) e = e.exclusive
backing (release_of shared_lock n) e = not (no_shared e)

abbrev pub backed : Entry → Bool
backed e = backing e.standing e

-- the grant pass would not grant it
abbrev pub blocked : List Entry → Waiting → Bool
blocked es w = not (may_grant es w.slot w.string)

abbrev pub numbered : ℕ → Entry → Bool
numbered n e = live e && eqb e.number n

-- unique live numbers, unique connections (255 is none), one exclusive holder, releases stand for locks that are held, 32 slots
abbrev pub exclusive : Entry → Bool
exclusive e = e.exclusive

pub record Firm (es : List Entry) : Type 0 where
  pub clean_all : all clean es ≡ true
  pub numbers : (n : ℕ) → Sole (numbered n) es
  pub connections : (c : ℕ) → (c ≡ no_connection → ⊥) → Sole (is_on_connection c) es
  pub one_exclusive : Sole exclusive es
  pub backed_all : all backed es ≡ true
  pub slots : length es ≡ session_limit

pub record Sound (es : List Entry) (ws : List Waiting) : Type 0 where
  pub good : Good es ws
  pub firm : Firm es

pub record Inv (l : Locks) : Type 0 where
  pub sound : Sound l.entries l.waiting
  pub quiet : all (blocked l.entries) l.waiting ≡ true

-- a store that keeps who the session is
firm_same : (es : List Entry) (i : ℕ) (y : Entry) → clean y ≡ true → backed y ≡ true → y.number ≡ (at es i).number → y.synchronous ≡ (at es i).synchronous →
    y.asynchronous ≡ (at es i).asynchronous → Sole exclusive (set es i y) → Firm es → Firm (set es i y)
firm_same es i y c b n s a x f =
    record {
      clean_all = all_set clean es i y c f.clean_all;
      numbers = λ m. sole_same (numbered m) es i y (λ h. rw n at h) (f.numbers m);
      connections = λ c r. sole_same (is_on_connection c) es i y (λ h. rw (n, s, a) at h) (f.connections c r);
      one_exclusive = x;
      backed_all = all_set backed es i y b f.backed_all;
      slots = length-set es i y ∙ f.slots;
    }

give_num : (k : List ℕ) (e : Entry) → (give k e).number ≡ e.number
give_num [] e = refl
give_num (x ∷ k) e = refl

give_sync : (k : List ℕ) (e : Entry) → (give k e).synchronous ≡ e.synchronous
give_sync [] e = refl
give_sync (x ∷ k) e = refl

give_async : (k : List ℕ) (e : Entry) → (give k e).asynchronous ≡ e.asynchronous
give_async [] e = refl
give_async (x ∷ k) e = refl

clean_give : (k : List ℕ) (e : Entry) → ready e k ≡ true → clean (give k e) ≡ true
clean_give [] e r = or_of _ _ (and_l (live e) _ r)
clean_give (x ∷ k) e r = or_of _ _ (and_l (live e) _ r)

one_give : (now : ℕ) (es : List Entry) (i : ℕ) (k : List ℕ) → may_grant es i k ≡ true → Sole exclusive es → Sole exclusive (grant now es i k)
one_give now es i [] m s = sole_store exclusive es i (give_at now [] (at es i)) (λ h j d v. true≢false (sym v ∙ (may_exclusive es i m).no_other j d)) s
one_give now es i (x ∷ k) m s = sole_same exclusive es i (give_at now (x ∷ k) (at es i)) (λ h. h) s

backed_give : (now : ℕ) (k : List ℕ) (s : Standing) (e : Entry) → backing s e ≡ true → backing s (give_at now k e) ≡ true
backed_give now k no_release e h = refl
backed_give now [] (release_of exclusive_lock n) e h = refl
backed_give now [] (release_of shared_lock n) e h = h
backed_give now (x ∷ k) (release_of exclusive_lock n) e h = h
backed_give now (x ∷ k) (release_of shared_lock n) e h = refl

give_standing : (k : List ℕ) (e : Entry) → (give k e).standing ≡ e.standing
give_standing [] e = refl
give_standing (x ∷ k) e = refl

pub backed_at : (es : List Entry) (i : ℕ) → Firm es → backed (at es i) ≡ true
backed_at es i f = all_at backed es i refl f.backed_all

pub firm_give : (now : ℕ) (es : List Entry) (i : ℕ) (k : List ℕ) → ready (at es i) k ≡ true → may_grant es i k ≡ true → Firm es → Firm (grant now es i k)
firm_give now es i k r m f =
    firm_same es i _ (clean_give k (at es i) r) (ap (λ s. backing s (give_at now k (at es i))) (give_standing k (at es i))
    ∙ backed_give now k (at es i).standing (at es i) (backed_at es i f)) (give_num k _) (give_sync k _) (give_async k _)
    (one_give now es i k m f.one_exclusive) f

-- an entry of the same session with no lock that it did not have
pub record Lesser (e y : Entry) : Type 0 where
  pub number : y.number ≡ e.number
  pub synchronous : y.synchronous ≡ e.synchronous
  pub asynchronous : y.asynchronous ≡ e.asynchronous
  pub exclusive : y.exclusive ≡ true → e.exclusive ≡ true
  pub shared : (y.shared ≡ []) ⊎ (y.shared ≡ e.shared)
  pub standing : backed y ≡ true

pub lesser_live : (e y : Entry) → Lesser e y → live e ≡ true → live y ≡ true
lesser_live e y l v = ap (λ n. not (eqb n 0)) l.number ∙ v

pub firm_lesser : (es : List Entry) (i : ℕ) (y : Entry) → live (at es i) ≡ true → Lesser (at es i) y → Firm es → Firm (set es i y)
firm_lesser es i y v l f =
    firm_same es i y (or_of _ _ (lesser_live (at es i) y l v)) l.standing l.number l.synchronous l.asynchronous (sole_same exclusive es i y l.exclusive f.one_exclusive) f

pub ready_lesser : (e y : Entry) → Lesser e y → live e ≡ true → (k : List ℕ) → ready e k ≡ true → ready y k ≡ true
ready_lesser e y l v [] r = both _ _ (lesser_live e y l v) (ap not (contra _ _ l.exclusive (not_of _ (and_r (live e) _ r))))
ready_lesser e y l v (x ∷ k) r = both _ _ (lesser_live e y l v) (ap (λ b. not (not b)) (none l.shared))
  where
    none : (y.shared ≡ []) ⊎ (y.shared ≡ e.shared) → no_shared y ≡ true
    none (inl q) = ap is_nil q
    none (inr q) = ap is_nil q ∙ sym (not_not (no_shared e)) ∙ and_r (live e) _ r

pub firm_blank : (es : List Entry) (i : ℕ) → Firm es → Firm (set es i blank)
firm_blank es i f =
    record {
      clean_all = all_set clean es i blank refl f.clean_all;
      numbers = λ m. sole_same (numbered m) es i blank (λ h. absurd (false≢true h)) (f.numbers m);
      connections = λ c r. sole_same (is_on_connection c) es i blank (λ h. absurd (false≢true h)) (f.connections c r);
      one_exclusive = sole_same exclusive es i blank (λ h. absurd (false≢true h)) f.one_exclusive;
      backed_all = all_set backed es i blank refl f.backed_all;
      slots = length-set es i blank ∙ f.slots;
    }

-- requests and a store at slot i
pub good_apart : (es : List Entry) (i : ℕ) (y : Entry) (ws : List Waiting) → all (elsewhere i) ws ≡ true → Good es ws → Good (set es i y) ws
good_apart es i y [] a g = tt
good_apart es i y (w ∷ ws) a g =
    (rw (get_or-set_other es i w.slot y blank (apart i w (and_l (elsewhere i w) _ a))) g.0, g.1, good_apart es i y ws (and_r (elsewhere i w) _ a) g.2)

weaker : (es : List Entry) (i j : ℕ) (y : Entry) (k : List ℕ) → (ready (at es i) k ≡ true → ready y k ≡ true) → ready (at es j) k ≡ true → ready (at (set es i y) j) k ≡ true
weaker [] i j y k h r = r
weaker (x ∷ es) zero zero y k h r = h r
weaker (x ∷ es) zero (suc j) y k h r = r
weaker (x ∷ es) (suc i) zero y k h r = r
weaker (x ∷ es) (suc i) (suc j) y k h r = weaker es i j y k h r

pub good_weaker : (es : List Entry) (i : ℕ) (y : Entry) (ws : List Waiting) → ((k : List ℕ) → ready (at es i) k ≡ true → ready y k ≡ true) → Good es ws → Good (set es i y) ws
good_weaker es i y [] h g = tt
good_weaker es i y (w ∷ ws) h g = (weaker es i w.slot y w.string (h w.string) g.0, g.1, good_weaker es i y ws h g.2)

pub good_keep : (es : List Entry) (q : Waiting → Bool) (ws : List Waiting) → Good es ws → Good es (keep q ws)
good_keep es q [] g = tt
good_keep es q (w ∷ ws) g = go (q w) (good_keep es q ws g.2)
  where
    go : (b : Bool) → Good es (keep q ws) → Good es (cond b (w ∷ keep q ws) (keep q ws))
    go true r = (g.0, all_keep (elsewhere w.slot) q ws g.1, r)
    go false r = r

pub good_snoc : (es : List Entry) (ws : List Waiting) (w : Waiting) → Good es ws → ready (at es w.slot) w.string ≡ true → all (elsewhere w.slot) ws ≡ true
    → Good es (ws ++ w ∷ [])
good_snoc es [] w g r a = (r, refl, tt)
good_snoc es (v ∷ ws) w g r a = (
  g.0,
  all_snoc (elsewhere v.slot) ws w g.1 (ap not
      (ne_eqb w.slot v.slot (λ e. apart w.slot v (and_l (elsewhere w.slot v) _ a) (sym e)))),
  good_snoc es ws w g.2 r
      (and_r (elsewhere w.slot v) _ a),
)

-- the pass
pass_at : (now : ℕ) (ws : List Waiting) (es : List Entry) (j : ℕ) → all (elsewhere j) ws ≡ true → at (pass_over now ws es).entries j ≡ at es j
unfolding pass_over
pass_at now [] es j a = refl
pass_at now (w ∷ ws) es j a = go (may_grant es w.slot w.string) (λ b. pass_at now ws (after now b w es) j (and_r (elsewhere j w) _ a))
  where
    go : (b : Bool) → ((b : Bool) → at (pass_over now ws (after now b w es)).entries j ≡ at (after now b w es) j)
        → at (put b w es (pass_over now ws (after now b w es))).entries j ≡ at es j
    go true ih = ih true ∙ get_or-set_other es w.slot j _ blank (λ e. apart j w (and_l (elsewhere j w) _ a) (sym e))
    go false ih = ih false

pass_all : (now : ℕ) (p : Waiting → Bool) (ws : List Waiting) (es : List Entry) → all p ws ≡ true → all p (pass_over now ws es).waiting ≡ true
unfolding pass_over
pass_all now p [] es a = refl
pass_all now p (w ∷ ws) es a = go (may_grant es w.slot w.string) (λ es. pass_all now p ws es (and_r (p w) _ a))
  where
    go : (b : Bool) → ((es : List Entry) → all p (pass_over now ws es).waiting ≡ true)
        → all p (put b w es (pass_over now ws (after now b w es))).waiting ≡ true
    go true ih = ih _
    go false ih = both _ _ (and_l (p w) _ a) (ih _)

pass_no : (now : ℕ) (ws : List Waiting) (es : List Entry) (j : ℕ) (k : List ℕ) → Good es ws → all (elsewhere j) ws ≡ true → may_grant es j k ≡ false
    → may_grant (pass_over now ws es).entries j k ≡ false
unfolding pass_over
pass_no now [] es j k g a e = e
pass_no now (w ∷ ws) es j k g a e =
    go (may_grant es w.slot w.string) (λ es g e. pass_no now ws es j k g (and_r (elsewhere j w) _ a) e)
  where
    go : (b : Bool) → ((es : List Entry) → Good es ws → may_grant es j k ≡ false → may_grant (pass_over now ws es).entries j k ≡ false)
        → may_grant (put b w es (pass_over now ws (after now b w es))).entries j k ≡ false
    go true ih =
        ih
        _
        (good_apart es w.slot _ ws g.1 g.2)
        (contra _ _ (may_back now es w.slot j w.string k (λ q. apart j w (and_l (elsewhere j w) _ a) (sym q)) g.0) e)
    go false ih = ih es g.2 e

-- after a pass the invariant holds whole
pub record After (r : Passed) : Type 0 where
  pub sound : Sound r.entries r.waiting
  pub quiet : all (blocked r.entries) r.waiting ≡ true

pub pass_after : (now : ℕ) (ws : List Waiting) (es : List Entry) → Good es ws → Firm es → After (pass_over now ws es)
unfolding pass_over
pass_after now [] es g c = record { sound = record { good = tt; firm = c }; quiet = refl }
pass_after now (w ∷ ws) es g c = go (may_grant es w.slot w.string) refl (λ es g c. pass_after now ws es g c)
  where
    go : (b : Bool) → may_grant es w.slot w.string ≡ b → ((es : List Entry) → Good es ws → Firm es → After (pass_over now ws es))
        → After (put b w es (pass_over now ws (after now b w es)))
    go true e ih =
        let r = ih (grant now es w.slot w.string) (good_apart es w.slot _ ws g.1 g.2) (firm_give now es w.slot w.string g.0 e c) in
        record { sound = record { good = r.sound.good; firm = r.sound.firm }; quiet = r.quiet }
    go false e ih =
        let r = ih es g.2 c in
        record {
          sound = record { good = (rw (pass_at now ws es w.slot g.1) g.0, pass_all now (elsewhere w.slot) ws es g.1, r.sound.good); firm = r.sound.firm };
          quiet = both _ _ (ap not (pass_no now ws es w.slot w.string g.2 g.1 e)) r.quiet;
        }

-- and where nothing may be granted a pass does nothing
still : (now : ℕ) (ws : List Waiting) (es : List Entry) → all (blocked es) ws ≡ true → pass_over now ws es ≡ record { entries = es; waiting = ws; answers = [] }
unfolding pass_over
still now [] es a = refl
still now (w ∷ ws) es a =
    let e : may_grant es w.slot w.string ≡ false = not_of _ (and_l (blocked es w) _ a) in
    rw (e, still now ws es (and_r (blocked es w) _ a))

pub pass_still : (l : Locks) → all (blocked l.entries) l.waiting ≡ true → Locks.grant_pass l ≡ Locks.unanswered l
unfolding Locks.grant_pass
pass_still l q = rw (still l.clock l.waiting l.entries q)
