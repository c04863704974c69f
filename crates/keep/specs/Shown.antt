-- 02, Q-7: "Of bytes shown with a meter answer only the first 16 count": the plain call on these is the plain call on all. Assumes nothing.
use Rattle.std.specs.Prelude.{◌≡◌, List, Bool, leb, length, take}
use Rattle.std.proofs.Math.Path.{refl}
use Rattle.std.proofs.Common.{sym, ap, ◌∙◌, ⊎_elim, arith, length-take, take_all, le-leb}
use Prim.Native.Nat.{ℕ, zero, suc, ◌≤◌, ◌<◌}
use Rattle.std.proofs.Math.Seq.{get_or-take}
use Rattle.model.specs.State.{Server}
use Rattle.model.specs.Interface.{Event.answer}
use Rattle.model.specs.Refusals.{causes, refusal}
use Rattle.model.specs.Step.{answered, finish, plan, step}
use Rattle.claims.proofs.Scanning.{header_take}
use Rattle.journal.specs.Bytes.{below}
use Rattle.record.specs.Layout.{most_shown}

enough : (sh : List ℕ) → leb 16 (length (take most_shown sh)) ≡ leb 16 (length sh)
enough sh =
    ⊎_elim (λ (l : length sh < 16). ap (λ (x : List ℕ). leb 16 (length x)) (take_all 16 sh (omega arith)))
    (λ (l : 16 ≤ length sh).
    let e : length (take 16 sh) ≡ 16 = simp length-take (omega arith) in
    le-leb 16 (length (take 16 sh)) (omega arith) ∙ sym (le-leb 16 (length sh) l))
    (below (length sh) 16)

module _ (d : Server) (n : ℕ) (p : List ℕ) (end : Bool) (sh : List ℕ) (room : ℕ) where
  same_refusal : refusal d (answer n p end (take most_shown sh) room) ≡ refusal d (answer n p end sh room)
  unfolding refusal causes
  same_refusal = refl

  same_finish : finish d (plan d (answer n p end (take most_shown sh) room)) ≡ finish d (plan d (answer n p end sh room))
  unfolding plan
  same_finish = rw (enough sh, get_or-take 16 sh 0 0 (omega arith), get_or-take 16 sh 1 0 (omega arith), header_take 16 sh (omega arith))

  pub first_16_count : step d (answer n p end (take most_shown sh) room) ≡ step d (answer n p end sh room)
  unfolding step answered
  first_16_count = go (refusal d (answer n p end sh room)) same_refusal
    where
      go : (z : ℕ) → refusal d (answer n p end (take most_shown sh) room) ≡ z →
          answered (refusal d (answer n p end (take most_shown sh) room)) d (answer n p end (take most_shown sh) room) ≡ answered z d (answer n p end sh room)
      go zero e = rw e same_finish
      go (suc z) e = rw e
