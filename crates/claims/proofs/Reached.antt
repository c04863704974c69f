-- The connections that the locks name are single bytes, and so are the codes of the answers, through each lock event and grant pass.
use mathlib.Core.Path.{◌≡◌, refl}
use mathlib.Core.Bool.{Bool, true, false, ◌&&◌, ◌||◌, cond}
use mathlib.Core.List.{List, [], ◌∷◌, ◌++◌}
use Prim.Native.Nat.{ℕ, ◌<◌}
use lib.Dec.{eqb, ltb}
use borrow.Author.Tests.{lt-ltb}
use Rattle.model.specs.Sizes.{before_first}
use Rattle.model.specs.Lists.{all, keep}
use Rattle.model.specs.State.{Locks, Entry, Waiting, Kind, Kind.exclusive_lock, Kind.shared_lock, at, blank}
use Rattle.model.specs.Locks
use Rattle.model.specs.Locks.{Answer, LockEvent, LockResult, Passed, elsewhere, holds, invalid_by, no_place, give, without, release_code, grant, may_grant, tell}
use Rattle.model.specs.Locks.{refuse, unexpired, after, put, pass_over, grant_pass, change, settle}
use Rattle.model.proofs.Basics.{and_l, and_r, both, all_set, all_at}

abbrev pub reachable : Entry → Bool
reachable e = ltb e.synchronous 256 && ltb e.asynchronous 256

abbrev pub answer_fits : Answer → Bool
answer_fits a = ltb a.to 256 && ltb a.code 256

abbrev pub Reachable : List Entry → Type 0
Reachable es = all reachable es ≡ true

abbrev AnswersFit : List Answer → Type 0
AnswersFit xs = all answer_fits xs ≡ true

-- the connection that a lock event brings is a byte
abbrev pub Brings : LockEvent → Type 0
Brings Locks.nothing = Unit {0}
Brings (Locks.enter i n c) = c < 256
Brings (Locks.join i c) = c < 256
Brings (Locks.request i t k) = Unit {0}
Brings (Locks.release i n) = Unit {0}
Brings (Locks.command i n) = Unit {0}
Brings (Locks.clear i) = Unit {0}
Brings (Locks.close i) = Unit {0}
Brings (Locks.reading t) = Unit {0}

pub record Kept (r : LockResult) : Type 0 where
  pub entries : Reachable r.locks.entries
  pub answers : AnswersFit r.answers

give_reach : (k : List ℕ) (e : Entry) → reachable e ≡ true → reachable (give k e) ≡ true
give_reach [] e h = h
give_reach (x ∷ k) e h = h

grant_reach : (now : ℕ) (es : List Entry) (i : ℕ) (k : List ℕ) → Reachable es → Reachable (grant now es i k)
grant_reach now es i k h = all_set reachable es i _ (give_reach k (at es i) (all_at reachable es i refl h)) h

tell_fits : (es : List Entry) (i n : ℕ) (q : Bool) → Reachable es → ltb n 256 ≡ true → answer_fits (tell es i n q) ≡ true
tell_fits es i n q h e = both _ _ (and_r (ltb (at es i).synchronous 256) _ (all_at reachable es i refl h)) e

one_fits : (es : List Entry) (i n : ℕ) (q : Bool) → Reachable es → ltb n 256 ≡ true → AnswersFit (tell es i n q ∷ [])
one_fits es i n q h e = both _ _ (tell_fits es i n q h e) refl

refuse_fits : (es : List Entry) (p : Waiting → Bool) (ws : List Waiting) → Reachable es → AnswersFit (refuse es p ws)
refuse_fits es p [] h = refl
refuse_fits es p (w ∷ ws) h = go (p w) (refuse_fits es p ws h)
  where
    go : (b : Bool) → AnswersFit (refuse es p ws) → AnswersFit (cond b (refuse es p ws) (tell es w.slot 0 true ∷ refuse es p ws))
    go true r = r
    go false r = both _ _ (tell_fits es w.slot 0 true h refl) r

respond_kept : (a : Locks.Ruling) (l : Locks) (i t : ℕ) (k : List ℕ) → Reachable l.entries → Kept (Locks.respond a l i t k)
respond_kept Locks.invalid l i t k h = record { entries = h; answers = one_fits l.entries i 3 true h refl }
respond_kept Locks.granted l i t k h = record { entries = grant_reach l.clock l.entries i k h; answers = one_fits l.entries i 1 true h refl }
respond_kept Locks.denied l i t k h = record { entries = h; answers = one_fits l.entries i 0 true h refl }
respond_kept Locks.queued l i t k h = record { entries = h; answers = refl }

without_reach : (k : Kind) (e : Entry) → reachable e ≡ true → reachable (without k e) ≡ true
without_reach exclusive_lock e h = h
without_reach shared_lock e h = h

code_fits : (k : Kind) → ltb (release_code k) 256 ≡ true
code_fits exclusive_lock = refl
code_fits shared_lock = refl

released_kept : (u : Locks.Releasing) (l : Locks) (i n : ℕ) → Reachable l.entries → Kept (Locks.released u l i n)
released_kept Locks.r_invalid l i n h = record { entries = h; answers = one_fits l.entries i 3 false h refl }
released_kept (Locks.r_now k) l i n h =
    record {
      entries = all_set reachable l.entries i _ (without_reach k (at l.entries i) (all_at reachable l.entries i refl h)) h;
      answers = one_fits l.entries i (release_code k) false h (code_fits k);
    }
released_kept (Locks.r_stands k) l i n h = record { entries = all_set reachable l.entries i _ (all_at reachable l.entries i refl h) h; answers = refl }

completed_kept : (u : Locks.Due) (l : Locks) (i n : ℕ) → Reachable l.entries → Kept (Locks.completed u l i n)
completed_kept Locks.not_due l i n h = record { entries = all_set reachable l.entries i _ (all_at reachable l.entries i refl h) h; answers = refl }
completed_kept (Locks.due_now k) l i n h =
    record {
      entries = all_set reachable l.entries i _ (without_reach k (at l.entries i) (all_at reachable l.entries i refl h)) h;
      answers = one_fits l.entries i (release_code k) false h (code_fits k);
    }

both_fit : (xs ys : List Answer) → AnswersFit xs → AnswersFit ys → AnswersFit (xs ++ ys)
both_fit [] ys p q = q
both_fit (x ∷ xs) ys p q = both _ _ (and_l (answer_fits x) _ p) (both_fit xs ys (and_r (answer_fits x) _ p) q)

pub change_kept : (l : Locks) (e : LockEvent) → Brings e → Reachable l.entries → Kept (change l e)
unfolding change
change_kept l Locks.nothing b h = record { entries = h; answers = refl }
change_kept l (Locks.enter i n c) b h = record { entries = all_set reachable l.entries i _ (both _ _ (lt-ltb c 256 b) refl) h; answers = refl }
change_kept l (Locks.join i c) b h =
    record {
      entries = all_set reachable l.entries i _ (both _ _
          (and_l (ltb (at l.entries i).synchronous 256) _ (all_at reachable l.entries i refl h)) (lt-ltb c 256 b)) h;
      answers = refl;
    }
change_kept l (Locks.request i t k) b h =
    respond_kept (Locks.ruling (holds k (at l.entries i)) (all (elsewhere i) l.waiting) (invalid_by k (at l.entries i)) (may_grant l.entries i k) (eqb t 0 || no_place l.waiting)) l i t k h
change_kept l (Locks.release i n) b h = released_kept (Locks.releasing_of (at l.entries i) n) l i n h
change_kept l (Locks.command i n) b h = completed_kept (Locks.due_at n (at l.entries i).standing) l i n h
change_kept l (Locks.clear i) b h =
    let x = completed_kept (Locks.due_any (at l.entries i).standing) (Locks.with_waiting l (keep (elsewhere i) l.waiting)) i before_first h in
    record { entries = x.entries; answers = both_fit (refuse l.entries (elsewhere i) l.waiting) _ (refuse_fits l.entries (elsewhere i) l.waiting h) x.answers }
change_kept l (Locks.close i) b h = record { entries = all_set reachable l.entries i blank refl h; answers = refl }
change_kept l (Locks.reading t) b h = record { entries = h; answers = refuse_fits l.entries (unexpired t) l.waiting h }

record PassKept (r : Passed) : Type 0 where
  entries : Reachable r.entries
  answers : AnswersFit r.answers

pass_kept : (now : ℕ) (ws : List Waiting) (es : List Entry) → Reachable es → PassKept (pass_over now ws es)
unfolding pass_over
pass_kept now [] es h = record { entries = h; answers = refl }
pass_kept now (w ∷ ws) es h = go (may_grant es w.slot w.string) (λ es h. pass_kept now ws es h)
  where
    go : (b : Bool) → ((es : List Entry) → Reachable es → PassKept (pass_over now ws es)) → PassKept (put b w es (pass_over now ws (after now b w es)))
    go true ih =
        let r = ih (grant now es w.slot w.string) (grant_reach now es w.slot w.string h) in
        record { entries = r.entries; answers = both _ _ (tell_fits es w.slot 1 true h refl) r.answers }
    go false ih = let r = ih es h in record { entries = r.entries; answers = r.answers }

pub settle_kept : (b : Bool) (l : Locks) → Reachable l.entries → Kept (settle b l)
unfolding grant_pass
settle_kept true l h = let r = pass_kept l.clock l.waiting l.entries h in record { entries = r.entries; answers = r.answers }
settle_kept false l h = record { entries = h; answers = refl }
