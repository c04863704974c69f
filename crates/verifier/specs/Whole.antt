-- What the program knows when `framing` answers a whole entry: the body lies where its length says, and the bytes had are just one entry. Assumes nothing.
use Rattle.std.specs.Prelude.{◌≡◌, refl, Bool, true, false, List, ℕ, Ok, Err, ◌+◌, ◌≤◌, leb, length}
use Rattle.std.proofs.Common.{leb-true}
use Rattle.journal.specs.Journal.{choose, body_limit, length_of}
use Rattle.verifier.specs.Judge.{is_back}
use Rattle.verifier.specs.Places.{chosen}
use Rattle.verifier.specs.Framing.{framing_of}
use Rattle.verifier.specs.declared.Fault.TheVariants.{Length, Trailer}
use Rattle.verifier.specs.declared.Progress.TheVariants.{More, Whole}

pub not_chosen : {A : Type 0} (c : Bool) (a b x : A) → choose c a b ≡ x → (a ≡ x → ⊥) → (c ≡ false) × (b ≡ x)
unfolding choose
not_chosen true a b x e f = absurd (f e)
not_chosen false a b x e f = (refl, e)

pub neither : {A : Type 0} (c : Bool) (a b x : A) → (a ≡ x → ⊥) → (b ≡ x → ⊥) → choose c a b ≡ x → ⊥
unfolding choose
neither true a b x f g = f
neither false a b x f g = g

pub record IsWhole (s : List ℕ) : Type 0 where
  pub entry : is_back s ≡ false
  pub within : length_of s ≤ body_limit
  pub there : length_of s + 12 ≤ length s

pub frame_whole : (s : List ℕ) → framing_of s ≡ Ok Whole → IsWhole s
unfolding framing_of
frame_whole s e =
    let a = not_chosen (leb (length s) 3) (Ok More) _ (Ok Whole) e (λ z. cc) in
    let b = not_chosen (is_back s) _ _ (Ok Whole) a.1 (neither (leb (length s) 12) (Ok More) (Err Trailer) (Ok Whole) (λ z. cc) (λ z. cc)) in
    let c = chosen (leb (length_of s) body_limit) _ (Err Length) (Ok Whole) b.1 (λ z. cc) in
    let d = chosen (leb (length_of s + 12) (length s)) _ (Ok More) (Ok Whole) c.1 (λ z. cc) in
    record { entry = b.0; within = leb-true (length_of s) body_limit c.0; there = leb-true (length_of s + 12) (length s) d.0 }
