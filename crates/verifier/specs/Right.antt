-- What a right book is, said without the verifier. Assumes nothing.
use Rattle.std.specs.Prelude.{◌≡◌, List, [], ◌∷◌, ℕ}
use Rattle.journal.specs.Journal.{Fine}
use Rattle.record.specs.Layout.{Event, Fits, body_bytes}
use Rattle.verifier.specs.Judge.{Deed, gave}

module _ {S : Type 0} (deed : S → Event → Deed S) where
  -- a body is an event that the server does not refuse, and the very frames that it gives
  pub record Yields (d : S) (body : List ℕ) (d' : S) : Type 0 where
    pub event : Event
    pub frames : List ℕ
    pub is : body ≡ body_bytes event frames
    pub fits : Fits event
    pub gives : deed d event ≡ gave frames d'

  -- each event in turn, from d to d'
  pub data Right : S → List (List ℕ) → S → Type 0 where
    none : {d : S} → Right d [] d
    more : {d e f : S} {b : List ℕ} {bs : List (List ℕ)} → Fine b → Yields d b e → Right e bs f → Right d (b ∷ bs) f
