-- A role by its number. Assumes nothing.
use Rattle.std.specs.Prelude.{◌≡◌, refl, List, ℕ}
use Rattle.std.proofs.Common.{ap, arith}
use Rattle.wire.specs.declared.Header.{Header}
use Rattle.model.specs.State.{Server}
use Rattle.model.specs.Checks.{first, opening_rules, asynchronous_rules, judged}
use Rattle.model.specs.Place.{Role, Role.r_none, Role.r_half_open, Role.r_synchronous, Role.r_asynchronous}

-- the number of each role
abbrev pub role_number : Role → ℕ
role_number r_none = 0
role_number r_half_open = 1
role_number r_synchronous = 2
role_number r_asynchronous = 3

pub is_none : (r : Role) → role_number r ≡ 0 → r ≡ r_none
is_none r_none e = refl
is_none r_half_open e = absurd (let z : ⊥ = omega arith in z)
is_none r_synchronous e = absurd (let z : ⊥ = omega arith in z)
is_none r_asynchronous e = absurd (let z : ⊥ = omega arith in z)

pub is_asynchronous : (r : Role) → (role_number r ≡ 0 → ⊥) → (role_number r ≡ 1 → ⊥) → (role_number r ≡ 2 → ⊥) → r ≡ r_asynchronous
is_asynchronous r_none a b c = absurd (a refl)
is_asynchronous r_half_open a b c = absurd (b refl)
is_asynchronous r_synchronous a b c = absurd (c refl)
is_asynchronous r_asynchronous a b c = refl

-- a whole message, by the role
module _ (d : Server) (i : ℕ) (h : Header) (p : List ℕ) (r : Role) where
  pub judged_none : role_number r ≡ 0 → judged r d i h p ≡ first (opening_rules d h p)
  judged_none e = ap (λ (x : Role). judged x d i h p) (is_none r e)

  pub judged_asynchronous : (role_number r ≡ 0 → ⊥) → (role_number r ≡ 1 → ⊥) → (role_number r ≡ 2 → ⊥) → judged r d i h p ≡ first (asynchronous_rules h p)
  judged_asynchronous a b c = ap (λ (x : Role). judged x d i h p) (is_asynchronous r a b c)
