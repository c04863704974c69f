-- The codes of Error and FatalError: of a whole message below 4 or 128, of any verdict at most 4 or 128.
use mathlib.Core.Path.{◌≡◌, refl}
use mathlib.Core.Bool.{Bool, true, false, ◌||◌, cond}
use mathlib.Core.List.{List, [], ◌∷◌}
use Prim.Native.Nat.{ℕ}
use native.Mathlib.Omega.{arith}
use lib.Dec.{eqb, ltb}
use borrow.Author.Tests.{ltb-true, lt-ltb}
use Rattle.wire.specs.declared.Header.{Header}
use Rattle.model.specs.Lists.{all}
use Rattle.model.specs.State.{Server}
use Rattle.model.specs.Scan.{Scan, Scan.empty, Scan.few, Scan.wrong, Scan.skipping, Scan.long, Scan.part, Scan.whole}
use Rattle.model.specs.Place.{Role, Role.r_none, Role.r_half_open, Role.r_synchronous, Role.r_asynchronous}
use Rattle.model.specs.Checks
use Rattle.model.specs.Checks.{Verdict, Verdict.v_more, Verdict.v_skipped, Verdict.v_held, Verdict.v_ignored, Verdict.v_closed, Verdict.v_acts}
use Rattle.model.specs.Checks.{Verdict.v_error, Verdict.v_fatal, Rule, first, judged, partly, verdict, either}
use Rattle.model.proofs.Basics.{and_l, and_r}

-- what any delivery may be answered: codes at most 4; 02, Q-12: or Error 128
abbrev pub coded : Verdict → Bool
coded v_more = true
coded v_skipped = true
coded v_held = true
coded v_ignored = true
coded v_closed = true
coded v_acts = true
coded (v_error n) = ltb n 5 || eqb n 128
coded (v_fatal n) = ltb n 5

-- what a whole message may be answered: Error below 4, or 128; it waits for nothing, and no bytes are skipped
abbrev pub of_message : Verdict → Bool
of_message v_more = false
of_message v_skipped = false
of_message v_held = true
of_message v_ignored = true
of_message v_closed = true
of_message v_acts = true
of_message (v_error n) = ltb n 4 || eqb n 128
of_message (v_fatal n) = ltb n 5

first_of : (rs : List Rule) → all (λ r. of_message r.then) rs ≡ true → of_message (first rs) ≡ true
first_of [] a = refl
first_of (r ∷ rs) a = go r.test (first_of rs (and_r (of_message r.then) _ a))
  where
    go : (t : Bool) → of_message (first rs) ≡ true → of_message (cond t r.then (first rs)) ≡ true
    go true i = and_l (of_message r.then) _ a
    go false i = i

pub judged_of : (r : Role) (d : Server) (i : ℕ) (h : Header) (p : List ℕ) → of_message (judged r d i h p) ≡ true
judged_of r_none d i h p = first_of (Checks.opening_rules d h p) refl
judged_of r_half_open d i h p = refl
judged_of r_synchronous d i h p = first_of (Checks.synchronous_rules d i h p) refl
judged_of r_asynchronous d i h p = first_of (Checks.asynchronous_rules h p) refl

or_true : (b : Bool) → (b || true) ≡ true
or_true true = refl
or_true false = refl

weaker : (v : Verdict) → of_message v ≡ true → coded v ≡ true
weaker v_more e = refl
weaker v_skipped e = refl
weaker v_held e = refl
weaker v_ignored e = refl
weaker v_closed e = refl
weaker v_acts e = refl
weaker (v_error n) e = go (ltb n 4) refl e
  where
    go : (b : Bool) → ltb n 4 ≡ b → (b || eqb n 128) ≡ true → (ltb n 5 || eqb n 128) ≡ true
    go true q e = rw (lt-ltb n 5 (omega (arith, ltb-true n 4 q)))
    go false q e = rw e (or_true (ltb n 5))
weaker (v_fatal n) e = e

long_coded : (r : Role) → coded (Checks.too_long r) ≡ true
long_coded r_none = refl
long_coded r_half_open = refl
long_coded r_synchronous = refl
long_coded r_asynchronous = refl

part_coded : (r : Role) (h : Header) → coded (partly r h) ≡ true
part_coded r_none h = go (either 0 17 h.kind)
  where
    go : (b : Bool) → coded (cond b v_more (v_fatal 3)) ≡ true
    go true = refl
    go false = refl
part_coded r_half_open h = refl
part_coded r_synchronous h = refl
part_coded r_asynchronous h = refl

pub verdict_coded : (r : Role) (d : Server) (i : ℕ) (s : Scan) → coded (verdict r d i s) ≡ true
unfolding verdict
verdict_coded r d i empty = refl
verdict_coded r d i few = refl
verdict_coded r d i wrong = refl
verdict_coded r d i (skipping k) = refl
verdict_coded r d i (long h) = long_coded r
verdict_coded r d i (part h) = part_coded r h
verdict_coded r d i (whole h p) = weaker (judged r d i h p) (judged_of r d i h p)
