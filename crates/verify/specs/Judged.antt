-- What is judged: of bytes that were read, the reading is the definition's. Which bytes a file gives no contract can say, so they are just
-- some. Assumes nothing.
use Rattle.std.specs.Prelude.{◌≡◌, List, [], ◌++◌, ℕ, None, Some, ◌+◌, ◌-◌, ◌*◌, ◌^◌, ◌≤◌, ◌<◌, length, take}
use Rattle.std.proofs.Common.{sym, ap, subst, ◌∙◌, arith, length-take}
use Rattle.journal.specs.Journal.{body_limit}
use Rattle.verifier.specs.Judge.{first}
use Rattle.verifier.specs.Feed.{Reading, reading, feed}
use Rattle.verifier.specs.Pieces.{feed_append}
use Rattle.verifier.specs.Standing.{reading_of, Sound, start, start_sound, start_reading}
use Rattle.verifier.specs.declared.Fault.TheVariants.{Own}
use Rattle.verifier.specs.declared.Standing.{Standing}
use Rattle.model.specs.Sizes.{output_minimum}
use Rattle.model.specs.State.{Server}
use Rattle.judging.specs.Replay.{deed}
use Rattle.state.specs.View.{Memory, view}
use Rattle.replay.specs.Turn.{Turned}

-- the buffers' sizes
abbrev pub entry_limit : ℕ
entry_limit = body_limit + 12

abbrev pub piece_limit : ℕ
piece_limit = 16384

-- the reading that stands, from the server in memory m on, for the bytes that were read
pub record Judged (r : Standing) (buf : List ℕ) (m m' : Memory) : Type 0 where
  pub bytes : List ℕ
  pub reads : reading_of r buf (view m') ≡ feed deed (reading (first (view m)) []) bytes
  pub have : r.fault ≡ None → r.have ≤ length buf
  -- a fault is the book's, none of the caller's own
  pub own : (n : ℕ) → r.fault ≡ Some (Own n) → ⊥

-- between two pieces, with so many turns left
pub record Going (r : Standing) (buf : List ℕ) (m m' : Memory) (turns : ℕ) : Type 0 where
  pub bytes : List ℕ
  pub reads : reading_of r buf (view m') ≡ feed deed (reading (first (view m)) []) bytes
  pub sound : Sound r buf
  pub offset : r.at + r.have + turns * 16384 ≤ 2 ^ 61
  pub own : (n : ℕ) → r.fault ≡ Some (Own n) → ⊥

pub begun : (r : Standing) (buf : List ℕ) (m : Memory) → r ≡ start → length buf ≡ entry_limit → Going r buf m m 140737488355328
unfolding feed
begun r buf m e l =
    subst (λ (x : Standing). Going x buf m m 140737488355328) (sym e)
    (record { bytes = []; reads = start_reading buf (view m); sound = start_sound buf l; offset = omega arith; own = λ n z. cc })

sound_have : (r : Standing) (buf : List ℕ) → Sound r buf → r.fault ≡ None → r.have ≤ length buf
sound_have r buf o z = omega (arith, o.short z, o.fits z, o.room)

module _ (r : Standing) (buf : List ℕ) (m m' : Memory) (turns : ℕ) (g : Going r buf m m' turns) where
  pub stopped : Judged r buf m m'
  stopped = record { bytes = g.bytes; reads = g.reads; have = sound_have r buf g.sound; own = g.own }

  module _ (t : 0 < turns) (x : List ℕ) (l : length x ≤ 16384) where
    pub may_feed : (out : List ℕ) → length out ≡ output_minimum → Sound r buf × (r.at + r.have + length x < 2 ^ 63) × (length out ≡ output_minimum)
    may_feed out h = (g.sound, omega (arith, g.offset), h)

    module _ (s : Standing) (buf' : List ℕ) (m'' : Memory) (u : Turned s r buf buf' m' m'' x) where
      read_on : reading_of s buf' (view m'') ≡ feed deed (reading (first (view m)) []) (g.bytes ++ x)
      read_on =
          u.reading ∙ ap (λ (y : Reading Server). feed deed y x) g.reads
          ∙ sym (feed_append deed (reading (first (view m)) []) g.bytes x)

      still_named : (n : ℕ) → s.fault ≡ Some (Own n) → ⊥
      still_named n z = g.own n ((u.own n).0 z)

      pub faulty : Judged s buf' m m''
      faulty = record { bytes = g.bytes ++ x; reads = read_on; have = sound_have s buf' u.sound; own = still_named }

      pub on : (k : ℕ) → k ≡ turns - 1 → Going s buf' m m'' k
      on k e = record { bytes = g.bytes ++ x; reads = read_on; sound = u.sound; offset = omega (arith, e, g.offset, u.offset); own = still_named }

pub short_piece : (n : ℕ) (piece : List ℕ) → length piece ≤ 16384 → length (take n piece) ≤ 16384
short_piece n piece h = simp length-take (omega arith)
