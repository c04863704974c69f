-- Which entry a verdict names. Assumes nothing.
use Rattle.std.specs.Prelude.{◌≡◌, List, ◌++◌, ℕ, ◌+◌, length}
use Rattle.journal.specs.Journal.{entries, last_from}
use Rattle.record.specs.Layout.{Event}
use Rattle.verifier.specs.Judge.{Fault, wrong, Deed, Place, stops, first, place_of}
use Rattle.verifier.specs.Right.{Right}

module _ {S : Type 0} where
  -- the place behind some entries, with the server there
  abbrev pub after : Place S → List (List ℕ) → S → Place S
  after p bs d = record { count = p.count + length bs; at = p.at + length (entries bs); last = last_from p.at p.last bs; server = d }

module _ {S : Type 0} (deed : S → Event → Deed S) where
  -- Which entry a verdict names: right entries up to its number, each in turn, and the fault of the place behind them.
  pub record Named (d : S) (book : List ℕ) (n : ℕ) (f : Fault) : Type 0 where
    pub bodies : List (List ℕ)
    pub rest : List ℕ
    pub server : S
    pub all : entries bodies ++ rest ≡ book
    pub right : Right deed d bodies server
    pub number : n ≡ length bodies
    pub stopped : place_of deed (after (first d) bodies server) rest ≡ stops (wrong n f)
