-- A list that the host sets: what is refused, and what is set after any list of calls.
use mathlib.Core.Path.{◌≡◌, refl, sym, ap, subst, ◌∙◌}
use mathlib.Core.Bool.{cond}
use mathlib.Core.List.{List, [], ◌∷◌}
use Prim.Native.Nat.{ℕ, ◌≤◌, ◌<◌}
use native.Mathlib.Omega.{arith}
use lib.ListN.{length}
use Rattle.wire.specs.Frame.{Frame}
use Rattle.wire.specs.Message.{header, payload_of}
use Rattle.commands.specs.declared.ListFault.TheVariants.{BadPattern, TooMany}
use Rattle.std.specs.Prelude.{Ok, Err}
use Rattle.commands.specs.Lists.{Judged, taken, bad_pattern_at, list_too_long, lines_of, Listed, FirstBad, Ruling}
use Rattle.commands.specs.Rulings.{judged, judged_is}
use Rattle.model.specs.State.{Server, Making, Allowed, Allowed.any_command, Allowed.only, fresh, with_allowed}
use Rattle.model.specs.Allowing.{Admits, is_bad, is_too_many}
use Rattle.model.specs.Interface.{Event, Event.opening, Event.delivery, Event.cut, Event.clock, Event.answer, Event.status, Event.setting}
use Rattle.model.specs.Interface.{Setting.watch, Setting.patterns, Outcome, Outcome.more_needed, Outcome.skipped, Outcome.held, Outcome.ignored}
use Rattle.model.specs.Interface.{Outcome.error_sent, Outcome.closed, Outcome.acted, Reply, Reply.refused, Reply.done, Reply.withheld, Reply.took, bad_pattern}
use Rattle.model.specs.Interface.{too_many_patterns}
use Rattle.model.specs.Locks.{change}
use Rattle.model.specs.Refusals.{causes, refusal}
use Rattle.model.specs.Sensing.{setting_sensings}
use Rattle.model.specs.Step.{Result, plan, answered, finish, step, final, log}
use Rattle.model.specs.Happening.{happened}
use Rattle.model.specs.LocalityRows.{singly, allowed_row}
use Rattle.model.specs.AllowedOnly.{set_on, list_after, list_read, list_set, GoodList, AllowedRun}
use Rattle.model.specs.Listing.{pattern_of, place_of, turned_away, TellsBad}
use Rattle.claims.proofs.Locality.{local_call}
use Rattle.claims.proofs.AllowedOnly.{allowed_only, only_128}

-- the number that a ruling is refused with
abbrev number_of : Judged → ℕ
number_of j = cond (is_too_many j) too_many_patterns (cond (is_bad j) bad_pattern 0)

module _ (d : Server) (text : List ℕ) where
  abbrev ls : List (List ℕ)
  ls = lines_of text

  refused_as : refusal d (setting (patterns text)) ≡ number_of (judged ls)
  unfolding refusal causes
  refused_as = refl

  -- by the ruling
  abbrev Does : Judged → Result
  Does j = answered (number_of j) d (setting (patterns text))

  step_is : (j : Judged) → Ruling ls j → (step d (setting (patterns text)) ≡ Does j) × (judged ls ≡ j)
  unfolding step
  step_is j r =
      let e : j ≡ judged ls = (judged_is ls j).0 r in
      (ap (λ (n : ℕ). answered n d (setting (patterns text))) (refused_as ∙ ap number_of (sym e)), sym e)

  set_now : Does taken ≡ record { server = record { locks = d.locks; rest = with_allowed d.rest (only text) }; reply = done; frames = [] }
  unfolding answered finish plan change setting_sensings
  set_now = refl

  away_12 : Does list_too_long ≡ turned_away d too_many_patterns
  unfolding answered
  away_12 = refl

  away_11 : (k i : ℕ) → Does (bad_pattern_at k i) ≡ turned_away d bad_pattern
  unfolding answered
  away_11 k i = refl

  -- what was answered tells the ruling
  told : (j : Judged) → Ruling ls j → (r : Reply) → (step d (setting (patterns text))).reply ≡ r → (Does j).reply ≡ r
  told j g r e = ap (λ (x : Result). x.reply) (sym (step_is j g).0) ∙ e

  abbrev Ruled' : Type 0
  Ruled' = (j : Judged) × Ruling ls j

  ruling : Ruling ls (judged ls)
  ruling = (judged_is ls (judged ls)).1 refl

  done_only : (j : Judged) → Ruling ls j → (Does j).reply ≡ done → Listed ls
  unfolding answered
  done_only (Ok u) g e = g
  done_only (Err (BadPattern k i)) g e = absurd (let z : ◌≡◌ {A = ℕ} 0 1 = cc in omega arith)
  done_only (Err TooMany) g e = absurd (let z : ◌≡◌ {A = ℕ} 0 1 = cc in omega arith)

  too_many_only : (j : Judged) → Ruling ls j → (Does j).reply ≡ refused too_many_patterns → 32 < length ls
  unfolding answered finish plan
  too_many_only (Ok u) g e = absurd (let z : ◌≡◌ {A = ℕ} 0 1 = cc in omega arith)
  too_many_only (Err (BadPattern k i)) g e = absurd (let z : ◌≡◌ {A = ℕ} 11 12 = cc in omega arith)
  too_many_only (Err TooMany) g e = g

  bad_only : (j : Judged) → Ruling ls j → (Does j).reply ≡ refused bad_pattern → (length ls ≤ 32) × FirstBad ls (pattern_of j) (place_of j)
  unfolding answered finish plan
  bad_only (Ok u) g e = absurd (let z : ◌≡◌ {A = ℕ} 0 1 = cc in omega arith)
  bad_only (Err (BadPattern k i)) g e = g
  bad_only (Err TooMany) g e = absurd (let z : ◌≡◌ {A = ℕ} 12 11 = cc in omega arith)

  pub tells_bad : TellsBad d text
  tells_bad =
      record {
        taken = λ g. (step_is taken g).0 ∙ set_now;
        too_many = λ g. (step_is list_too_long g).0 ∙ away_12;
        bad = λ k i l g. let s = step_is (bad_pattern_at k i) (l, g) in (s.0 ∙ away_11 k i, ap pattern_of s.1, ap place_of s.1);
        done_only = λ e. done_only (judged ls) ruling (told (judged ls) ruling done e);
        too_many_only = λ e. too_many_only (judged ls) ruling (told (judged ls) ruling (refused too_many_patterns) e);
        bad_only = λ e. bad_only (judged ls) ruling (told (judged ls) ruling (refused bad_pattern) e);
      }

-- ---- what is set

by_delivery : (o : Outcome) (c : ℕ) (bs : List ℕ) (room k n : ℕ) (fs : List Frame) (a : Allowed) → singly allowed_row (happened (delivery c bs room) (took o k n) fs) a ≡ a
by_delivery more_needed c bs room k n fs a = refl
by_delivery skipped c bs room k n fs a = refl
by_delivery held c bs room k n fs a = refl
by_delivery ignored c bs room k n fs a = refl
by_delivery error_sent c bs room k n fs a = refl
by_delivery closed c bs room k n fs a = refl
by_delivery acted c bs room k n fs a = refl

by_call : (e : Event) (r : Reply) (fs : List Frame) (a : Allowed) → singly allowed_row (happened e r fs) a ≡ list_after e r a
by_call e (refused n) fs a = refl
by_call (opening c) done fs a = refl
by_call (delivery c bs room) done fs a = refl
by_call (cut c room) done fs a = refl
by_call (clock t room) done fs a = refl
by_call (answer n p end sh room) done fs a = refl
by_call (status b) done fs a = refl
by_call (setting s) done fs a = refl
by_call (opening c) withheld fs a = refl
by_call (delivery c bs room) withheld fs a = refl
by_call (cut c room) withheld fs a = refl
by_call (clock t room) withheld fs a = refl
by_call (answer n p end sh room) withheld fs a = refl
by_call (status b) withheld fs a = refl
by_call (setting s) withheld fs a = refl
by_call (opening c) (took o k n) fs a = refl
by_call (delivery c bs room) (took o k n) fs a = by_delivery o c bs room k n fs a
by_call (cut c room) (took o k n) fs a = refl
by_call (clock t room) (took o k n) fs a = refl
by_call (answer s p end sh room) (took o k n) fs a = refl
by_call (status b) (took o k n) fs a = refl
by_call (setting s) (took o k n) fs a = refl

set_call : (d : Server) (e : Event) → (step d e).server.rest.allowed ≡ list_after e (step d e).reply d.rest.allowed
set_call d e = (local_call d e).allowed ∙ by_call e (step d e).reply (step d e).frames d.rest.allowed

run_set : (es : List Event) (d : Server) → (final d es).rest.allowed ≡ list_read (log d es) d.rest.allowed
unfolding final log list_read
run_set [] d = refl
run_set (e ∷ es) d = run_set es (step d e).server ∙ ap (list_read (log (step d e).server es)) (set_call d e)

-- it is good
good_done : (d : Server) (e : Event) (a : Allowed) → (step d e).reply ≡ done → GoodList a → GoodList (set_on e a)
good_done d (setting (patterns text)) a q g = (tells_bad d text).done_only q
good_done d (setting (watch n l)) a q g = g
good_done d (opening c) a q g = g
good_done d (delivery c bs room) a q g = g
good_done d (cut c room) a q g = g
good_done d (clock t room) a q g = g
good_done d (answer n p end sh room) a q g = g
good_done d (status b) a q g = g

good_call : (d : Server) (e : Event) (a : Allowed) → GoodList a → GoodList (list_after e (step d e).reply a)
good_call d e a g = go (step d e).reply refl
  where
    go : (r : Reply) → (step d e).reply ≡ r → GoodList (list_after e r a)
    go (refused n) q = g
    go done q = good_done d e a q g
    go withheld q = g
    go (took o k n) q = g

good_run : (es : List Event) (d : Server) (a : Allowed) → GoodList a → GoodList (list_read (log d es) a)
unfolding log list_read
good_run [] d a g = g
good_run (e ∷ es) d a g = good_run es (step d e).server _ (good_call d e a g)

pub allowed_run : (v : Making) (es : List Event) → AllowedRun v es
allowed_run v es =
    record {
      reads = read;
      good = good_run es (fresh v) any_command tt;
      acts = λ c bs room k n e t. subst (λ (a : Allowed). Admits a (payload_of (header bs) bs)) read ((allowed_only d c bs room).only_allowed k n e t);
      refuses = λ c bs room z w n. (allowed_only d c bs room).refuses z w (λ a. n (subst (λ (x : Allowed). Admits x (payload_of (header bs) bs)) read a));
      only = λ e q. (only_128 d e).only q;
    }
  where
    d : Server
    d = final (fresh v) es

    read : d.rest.allowed ≡ list_set v es
    read = run_set es (fresh v)
