-- The causes of a refusal that several calls have: 7 first, and of a delivery and a cut, then the connection's. The law is over an event whose causes
-- begin so; which events' do stands below it.
use Rattle.std.specs.Prelude.{◌≡◌, true, false, List, [], ◌∷◌, ℕ, ◌≤◌, ◌<◌, ltb}
use Rattle.std.proofs.Math.Path.{refl, ap}
use Rattle.std.proofs.Common.{◌∙◌, lt-ltb, le-ltb, le-leb}
use Rattle.std.proofs.lemmas.Bool.{lt-leb}
use Rattle.model.specs.Sizes.{connection_limit, output_minimum, clock_limit}
use Rattle.model.specs.State.{Server, connection_at}
use Rattle.model.specs.Interface.{Event, Event.delivery, Event.cut, Event.clock, clock_back, clock_above}
use Rattle.model.specs.Refusals.{Cause, first_cause, causes, refusal, small_room, above_limit, not_open}

-- no such connection: the number is above the limit, or the connection is not open
abbrev pub unknown : Server → ℕ → List Cause
unknown d c = above_limit c ∷ not_open d c ∷ []

-- the clock is above its limit, or goes back
abbrev pub untimely : Server → ℕ → List Cause
untimely d t = record { test = ltb clock_limit t; number = clock_above } ∷ record { test = ltb t d.locks.clock; number = clock_back } ∷ []

module _ (d : Server) (e : Event) (room : ℕ) where
  module _ (cs : List Cause) (q : causes d e ≡ small_room room ∷ cs) where
    pub short_room : room < output_minimum → refusal d e ≡ 7
    unfolding refusal
    short_room h = ap first_cause q ∙ rw (lt-ltb room output_minimum h)

    pub enough_room : output_minimum ≤ room → refusal d e ≡ first_cause cs
    unfolding refusal
    enough_room h = ap first_cause q ∙ rw (le-ltb room output_minimum h)

  module _ (c : ℕ) (q : causes d e ≡ small_room room ∷ unknown d c) (h : output_minimum ≤ room) where
    pub no_number : connection_limit ≤ c → refusal d e ≡ 1
    no_number l = enough_room (unknown d c) q h ∙ rw (le-leb connection_limit c l)

    pub not_open_lem : c < connection_limit → (connection_at d.rest c).is_open ≡ false → refusal d e ≡ 1
    not_open_lem l o = enough_room (unknown d c) q h ∙ rw (lt-leb connection_limit c l, o)

    pub is_open : c < connection_limit → (connection_at d.rest c).is_open ≡ true → refusal d e ≡ 0
    is_open l o = enough_room (unknown d c) q h ∙ rw (lt-leb connection_limit c l, o)

module _ (d : Server) (room : ℕ) where
  pub delivery_causes : (c : ℕ) (bs : List ℕ) → causes d (delivery c bs room) ≡ small_room room ∷ unknown d c
  unfolding causes
  delivery_causes c bs = refl

  pub cut_causes : (c : ℕ) → causes d (cut c room) ≡ small_room room ∷ unknown d c
  unfolding causes
  cut_causes c = refl

  pub clock_causes : (t : ℕ) → causes d (clock t room) ≡ small_room room ∷ untimely d t
  unfolding causes
  clock_causes t = refl
