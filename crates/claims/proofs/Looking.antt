-- The grant pass of the server against the lock model's look, and one whole event with its pass.
use mathlib.Core.Path.{◌≡◌, refl, sym, ap₂, ◌∙◌}
use mathlib.Core.Bool.{Bool, true, false}
use mathlib.Core.List.{List, [], ◌∷◌, ◌++◌, map}
use Prim.Native.Nat.{ℕ}
use lib.ListN.{set}
use Rattle.model.specs.State.{Entry, Waiting, at, live}
use Rattle.model.specs.Locks.{LockResult, Passed, give_at, grant, may_grant, after, put, pass_over, grant_pass}
use Rattle.model.specs.LockModel
use Rattle.model.specs.LockModel.{Session, Request, Told, ModelResult, Looked, look, looked, given, noted}
use Rattle.model.specs.Agreement.{as_request, Agrees}
use Rattle.model.proofs.Basics.{and_l}
use Rattle.claims.proofs.Invariant.{Good, Firm, Sound, firm_give, good_apart}
use Rattle.claims.proofs.Seen.{Same, channel_seen, alter_seen, allowed_seen}
use Rattle.claims.proofs.Simulation.{told_of, map_append, Alike, requests_same, num_same, give_num, give_live, give_seen}

pub record Looks (r : Passed) (k : Looked) : Type 0 where
  pub sessions : Same k.sessions r.entries
  pub waiting : k.waiting ≡ map (as_request r.entries) r.waiting
  pub told : k.told ≡ map told_of r.answers

-- a pass changes no number
pub pass_num : (now : ℕ) (ws : List Waiting) (es : List Entry) (j : ℕ) → (at (pass_over now ws es).entries j).number ≡ (at es j).number
unfolding pass_over
pass_num now [] es j = refl
pass_num now (w ∷ ws) es j = go (may_grant es w.slot w.string) (λ es. pass_num now ws es j)
  where
    go : (b : Bool) → ((es : List Entry) → (at (pass_over now ws es).entries j).number ≡ (at es j).number)
        → (at (put b w es (pass_over now ws (after now b w es))).entries j).number ≡ (at es j).number
    go true ih = ih (grant now es w.slot w.string) ∙ num_same es w.slot (give_at now w.string (at es w.slot)) (give_num w.string (at es w.slot)) j
    go false ih = ih es

look_seen : (now : ℕ) (ws : List Waiting) (es : List Entry) (ss : List Session) → Same ss es → Firm es → Good es ws → Looks (pass_over now ws es) (look (map (as_request es) ws) ss)
unfolding pass_over look
look_seen now [] es ss s f g = record { sessions = s; waiting = refl; told = refl }
look_seen now (w ∷ ws) es ss s f g =
    rw (allowed_seen ss es s f i v w.string) (go (may_grant es i w.string) refl (λ es ss s f g. look_seen now ws es ss s f g))
  where
    i : ℕ
    i = w.slot

    v : live (at es w.slot) ≡ true
    v = and_l (live (at es w.slot)) _ g.0

    go : (b : Bool) → may_grant es w.slot w.string ≡ b → ((es : List Entry) (ss : List Session) → Same ss es → Firm es → Good es ws → Looks (pass_over now ws es) (look (map (as_request es) ws) ss))
        → Looks (put b w es (pass_over now ws (after now b w es))) (noted b (as_request es w) ss (look (map (as_request es) ws) (given b (as_request es w) ss)))
    go true em ih =
        let y = give_at now w.string (at es w.slot) in
        let e' = set es w.slot y in
        let same-requests : map (as_request es) ws ≡ map (as_request e') ws = requests_same es e' (λ j u. num_same es w.slot y (give_num w.string (at es w.slot)) j) ws g.2 in
        let r = ih e' (LockModel.alter (at es w.slot).number (LockModel.with_lock w.string) ss)
        (alter_seen ss es s f w.slot v (LockModel.with_lock w.string) y (give_live w.string (at es w.slot) v)
        (give_seen w.string (at es w.slot))) (firm_give now es w.slot w.string g.0 em f) (good_apart es w.slot y ws g.1 g.2) in
        rw same-requests
        record {
          sessions = r.sessions;
          waiting = r.waiting;
          told = ap₂ (λ (c : ℕ) (l : List Told). record { connection = c; code = 1; request = true } ∷ l) (channel_seen ss es s f w.slot v) r.told;
        }
    go false em ih =
        let r = ih es ss s f g.2 in
        record {
          sessions = r.sessions;
          waiting = ap₂ (λ (n : ℕ) (l : List Request). record { number = n; deadline = w.deadline; string = w.string } ∷ l) (sym (pass_num now ws es w.slot)) r.waiting;
          told = r.told;
        }

-- whom a pass grants is whom the look grants
pub grants_seen : (x : LockResult) (o : ModelResult) → Alike x o → Sound x.locks.entries x.locks.waiting →
    (look o.model.waiting o.model.sessions).told ≡ map told_of (grant_pass x.locks).answers
unfolding grant_pass
grants_seen x o a s = rw a.agrees.waiting (look_seen x.locks.clock x.locks.waiting x.locks.entries o.model.sessions a.agrees.sessions s.firm s.good).told

-- an event and its pass
pub record AlikeAll (x : LockResult) (o : ModelResult) : Type 0 where
  pub agrees : Agrees (grant_pass x.locks).locks o.model
  pub told : o.told ≡ map told_of (x.answers ++ (grant_pass x.locks).answers)

pub sim_look : (x : LockResult) (o : ModelResult) → Alike x o → Sound x.locks.entries x.locks.waiting → AlikeAll x (looked o)
unfolding grant_pass looked
sim_look x o a s =
    let r = look_seen x.locks.clock x.locks.waiting x.locks.entries o.model.sessions a.agrees.sessions s.firm s.good in
    rw a.agrees.waiting
    record {
      agrees = record { clock = a.agrees.clock; waiting = r.waiting; sessions = r.sessions };
      told = ap₂ ◌++◌ a.told r.told ∙ sym (map_append x.answers (pass_over x.locks.clock x.locks.waiting x.locks.entries).answers);
    }
