-- Bytes of the book are fed: the reading that stands afterwards is the definition's. Assumes nothing.
use Rattle.std.specs.Prelude.{◌≡◌, ◌↔◌, List, ℕ, Some, ◌+◌, ◌≤◌, length}
use Rattle.verifier.specs.Feed.{feed}
use Rattle.verifier.specs.Standing.{reading_of, Sound}
use Rattle.verifier.specs.declared.Fault.TheVariants.{Own}
use Rattle.verifier.specs.declared.Standing.{Standing}
use Rattle.judging.specs.Replay.{deed}
use Rattle.state.specs.View.{Memory, view}

pub record Turned (s r : Standing) (buf buf' : List ℕ) (m m' : Memory) (bytes : List ℕ) : Type 0 where
  pub reading : reading_of s buf' (view m') ≡ feed deed (reading_of r buf (view m)) bytes
  pub sound : Sound s buf'
  pub offset : s.at + s.have ≤ r.at + r.have + length bytes
  -- a caller's own fault stands just where it stood
  pub own : (n : ℕ) → (s.fault ≡ Some (Own n)) ↔ (r.fault ≡ Some (Own n))
