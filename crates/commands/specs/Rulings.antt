-- There is one ruling on a list, and reading its patterns one after the other gives it. Assumes nothing.
use Rattle.std.specs.Prelude.{◌≡◌, refl, ◌↔◌, List, [], ◌∷◌, Bool, true, false, cond, ℕ, zero, suc, ◌+◌, ◌≤◌, ltb, length, Ok, Err}
use Rattle.std.proofs.Common.{sym, ap₂, subst, ◌∙◌, arith, ltb-true, ltb-false}
use Rattle.std.proofs.Math.Path.{ap}
use Rattle.commands.specs.declared.ListFault.TheVariants.{BadPattern, TooMany}
use Rattle.scpi.specs.Grammar.{GoodPattern, Checked, good, bad}
use Rattle.scpi.specs.Verdicts.{Verdict, Exactly, verdict_of, bad_one, good_not_bad}
use Rattle.scpi.proofs.Verdicts.{verdict_is, exactly_verdict}
use Rattle.commands.specs.Lists.{AllGood, FirstBad, Judged, taken, bad_pattern_at, list_too_long, Ruling}

-- r is the ruling, and no other is
abbrev pub Ruled : List (List ℕ) → Judged → Type 0
Ruled ps r = (s : Judged) → Ruling ps s ↔ (s ≡ r)

-- one pattern after the other, the first of them number k
abbrev pub judged_by : ℕ → Checked → Judged → Judged
judged_by k (Ok u) j = j
judged_by k (Err b) j = bad_pattern_at k b.place

unfoldable pub judged_from : ℕ → List (List ℕ) → Judged
judged_from k [] = taken
judged_from k (p ∷ ps) = judged_by k (verdict_of p) (judged_from (suc k) ps)

-- the ruling as a function
unfoldable pub judged : List (List ℕ) → Judged
judged ps = cond (ltb 32 (length ps)) list_too_long (judged_from 0 ps)

-- ---- there is one ruling

good_bad : (ps : List (List ℕ)) (k i : ℕ) → AllGood ps → FirstBad ps k i → ⊥
good_bad [] k i g b = b
good_bad (p ∷ ps) zero i g b = good_not_bad p g.0 b
good_bad (p ∷ ps) (suc k) i g b = good_bad ps k i g.1 b.1

one_bad : (ps : List (List ℕ)) (k i l j : ℕ) → FirstBad ps k i → FirstBad ps l j → (l ≡ k) × (j ≡ i)
one_bad [] k i l j a b = absurd a
one_bad (p ∷ ps) zero i zero j a b = (refl, bad_one p b a)
one_bad (p ∷ ps) zero i (suc l) j a b = absurd (good_not_bad p b.0 a)
one_bad (p ∷ ps) (suc k) i zero j a b = absurd (good_not_bad p a.0 b)
one_bad (p ∷ ps) (suc k) i (suc l) j a b = let e = one_bad ps k i l j a.1 b.1 in (ap suc e.0, e.1)

one_ruling : (ps : List (List ℕ)) (r s : Judged) → Ruling ps r → Ruling ps s → s ≡ r
one_ruling ps (Ok u) (Ok v) a b = refl
one_ruling ps (Ok u) (Err (BadPattern k i)) a b = absurd (good_bad ps k i a.1 b.1)
one_ruling ps (Ok u) (Err TooMany) a b = absurd (omega (arith, a.0))
one_ruling ps (Err (BadPattern k i)) (Ok v) a b = absurd (good_bad ps k i b.1 a.1)
one_ruling ps (Err (BadPattern k i)) (Err (BadPattern l j)) a b =
    let e = one_bad ps k i l j a.1 b.1 in
    ap₂ bad_pattern_at e.0 e.1
one_ruling ps (Err (BadPattern k i)) (Err TooMany) a b = absurd (omega (arith, a.0))
one_ruling ps (Err TooMany) (Ok v) a b = absurd (omega (arith, b.0))
one_ruling ps (Err TooMany) (Err (BadPattern k i)) a b = absurd (omega (arith, b.0))
one_ruling ps (Err TooMany) (Err TooMany) a b = refl

pub ruled : (ps : List (List ℕ)) (r : Judged) → Ruling ps r → Ruled ps r
ruled ps r a s = (λ b. one_ruling ps r s a b, λ e. subst (Ruling ps) (sym e) a)

-- ---- and the function gives it

abbrev From : ℕ → List (List ℕ) → Judged → Type 0
From k ps (Ok u) = AllGood ps
From k ps (Err (BadPattern n i)) = (m : ℕ) × (n ≡ k + m) × FirstBad ps m i
From k ps (Err TooMany) = ⊥

from_more : (k : ℕ) (p : List ℕ) (ps : List (List ℕ)) → GoodPattern p → (j : Judged) → From (suc k) ps j → From k (p ∷ ps) j
from_more k p ps g (Ok u) a = (g, a)
from_more k p ps g (Err (BadPattern n i)) a = (suc a.0, (let e : n ≡ suc k + a.0 = a.1 in omega arith), (g, a.2))
from_more k p ps g (Err TooMany) a = absurd a

from_one : (k : ℕ) (p : List ℕ) (ps : List (List ℕ)) (r : Checked) → Verdict p r → (j : Judged) → From (suc k) ps j → From k (p ∷ ps) (judged_by k r j)
from_one k p ps (Ok u) v j a = from_more k p ps v j a
from_one k p ps (Err b) v j a = (0, omega arith, v)

from_is : (k : ℕ) (ps : List (List ℕ)) → From k ps (judged_from k ps)
unfolding judged_from
from_is k [] = tt
from_is k (p ∷ ps) = from_one k p ps (verdict_of p) (verdict_is p) (judged_from (suc k) ps) (from_is (suc k) ps)

from_ruling : (ps : List (List ℕ)) → length ps ≤ 32 → (j : Judged) → From 0 ps j → Ruling ps j
from_ruling ps l (Ok u) a = (l, a)
from_ruling ps l (Err (BadPattern n i)) a = (l, subst (λ (m : ℕ). FirstBad ps m i) (let e : a.0 ≡ n = omega (arith, a.1) in e) a.2)
from_ruling ps l (Err TooMany) a = absurd a

-- a list that is not too long is ruled by its patterns
pub ruled_few : (ps : List (List ℕ)) → length ps ≤ 32 → Ruled ps (judged_from 0 ps)
ruled_few ps l = ruled ps (judged_from 0 ps) (from_ruling ps l (judged_from 0 ps) (from_is 0 ps))

pub judged_is : (ps : List (List ℕ)) → Ruled ps (judged ps)
unfolding judged
judged_is ps = go (ltb 32 (length ps)) refl
  where
    go : (t : Bool) → ltb 32 (length ps) ≡ t → Ruled ps (cond t list_too_long (judged_from 0 ps))
    go true e = ruled ps list_too_long (ltb-true 32 (length ps) e)
    go false e = ruled_few ps (ltb-false 32 (length ps) e)

-- so an answer that is the ruling is what the function says
pub ruled_judged : (ps : List (List ℕ)) (r : Judged) → Ruled ps r → r ≡ judged ps
ruled_judged ps r h = (judged_is ps r).0 ((h r).1 refl)

-- ---- a turn of the reading: the first of the patterns that are left, and what `check` says of it
module _ (k : ℕ) (ls : List (List ℕ)) (p : List ℕ) (ps : List (List ℕ)) (first : ls ≡ p ∷ ps) (r : Checked) (said : Exactly p r) where
  turned : judged_from k ls ≡ judged_by k r (judged_from (suc k) ps)
  unfolding judged_from
  turned = ap (judged_from k) first ∙ ap (λ (v : Checked). judged_by k v (judged_from (suc k) ps)) (sym (exactly_verdict p r said))

  pub turn_bad : (i : ℕ) → r ≡ bad i → bad_pattern_at k i ≡ judged_from k ls
  turn_bad i e = sym (turned ∙ ap (λ (v : Checked). judged_by k v (judged_from (suc k) ps)) e)

  pub turn_good : r ≡ good → judged_from (k + 1) ps ≡ judged_from k ls
  turn_good e = ap (λ (n : ℕ). judged_from n ps) (let o : k + 1 ≡ suc k = omega arith in o) ∙ sym (turned ∙ ap (λ (v : Checked). judged_by k v (judged_from (suc k) ps)) e)

pub turn_end : (k : ℕ) (ls : List (List ℕ)) → ls ≡ [] → taken ≡ judged_from k ls
unfolding judged_from
turn_end k ls e = sym (ap (judged_from k) e)
