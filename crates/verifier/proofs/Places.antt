-- Laws of what specs/Places.antt defines. Assumes nothing.
use Rattle.std.proofs.Math.Path.{◌≡◌, refl, sym, ap}
use Rattle.std.proofs.Common.{◌∙◌, arith, drop_of_length-le}
use Rattle.std.specs.Prelude.{Bool, true, eqb, leb}
use Rattle.std.proofs.Math.Bool.{false}
use mathlib.Core.List.{List, ◌++◌, append-nil}
use Prim.Native.Nat.{ℕ, ◌+◌, ◌≤◌}
use Rattle.std.proofs.Math.ListN.{length, take, drop, length-take, take-append-drop}
use borrow.Author.Tests.{leb-true, eqb-true}
use Rattle.wire.specs.Field.{number_at, Bytes}
use Rattle.crc.specs.Crc.{crc_of}
use Rattle.journal.specs.Journal.{body_limit, entry, Fine, length_of, body_of}
use Rattle.journal.specs.Bytes.{yes_is, no_is, and_left, and_right, take_bytes}
use Rattle.journal.specs.Entry.{Whole, read_fine}
use Rattle.journal.proofs.Entry.{entry_again}
use Rattle.record.specs.Layout.{Event, decode}
use Rattle.verifier.specs.Judge.{in_length, in_distance, in_sum, Verdict, wrong, Deed, Went}
use Rattle.verifier.specs.Judge.{on, fault, Place, goes, stops, is_back, enough, by_step, trailer_of, by_event, entry_of}
use Rattle.verifier.specs.Judge.{place_of}
use Rattle.verifier.specs.Pieces.{length_front}
use Rattle.verifier.specs.Right.{Yields}
use Rattle.verifier.specs.Places.{chosen, step_yields, moved}

-- bytes that are just one entry are its body's entry
encoded : (t : List ℕ) → Bytes t → Whole t → length t ≡ length_of t + 12 → t ≡ entry (body_of t)
encoded t y w l =
    let n : length t ≤ length_of t + 12 = omega arith in
    sym (entry_again t y w) ∙ ap (λ (x : List ℕ). entry (body_of t) ++ x) (drop_of_length-le t n) ∙ append-nil (entry (body_of t))

module _ {S : Type 0} (deed : S → Event → Deed S) where
  -- an entry that was passed, from its bytes
  pub record Passed (p : Place S) (t : List ℕ) (q : Place S) : Type 0 where
    pub distance : number_at t (length_of t + 4) 4 ≡ length_of t + 4
    pub summed : number_at t (length_of t + 8) 4 ≡ crc_of (take (length_of t + 4) t)
    pub steps : by_event deed p.server (decode (body_of t)) ≡ on q.server
    pub moves : q ≡ record { count = p.count + 1; at = p.at + length t; last = p.at; server = q.server }

  by_step_lem : (p : Place S) (n : ℕ) (w : Went S) (q : Place S) → by_step p n w ≡ goes q → (w ≡ on q.server) × (q ≡ record { count = p.count + 1; at = p.at + n; last = p.at; server = q.server })
  unfolding by_step
  by_step_lem p n (on d) q e =
      let x : record { count = p.count + 1; at = p.at + n; last = p.at; server = d } ≡ q = cc in
      (ap (λ (y : Place S). on y.server) x, sym x ∙ λ i. record { count = p.count + 1; at = p.at + n; last = p.at; server = (x i).server })
  by_step_lem p n (fault f) q e = let z : ◌≡◌ {A = ℕ} 0 1 = cc in absurd (omega arith)

  never : (v : Verdict) (q : Place S) → stops v ≡ goes q → ⊥
  never v q e = let z : ◌≡◌ {A = ℕ} 0 1 = cc in omega arith

  pub entry_passed : (p : Place S) (t : List ℕ) (q : Place S) → entry_of deed p t ≡ goes q → Passed p t q
  unfolding entry_of
  entry_passed p t q e =
      let c = chosen (eqb (number_at t (length_of t + 4) 4) (length_of t + 4)) _ (stops (wrong p.count in_distance)) (goes q) e (never _ q) in
      let d = chosen (eqb (number_at t (length_of t + 8) 4) (crc_of (take (length_of t + 4) t))) _ (stops (wrong p.count in_sum)) (goes q) c.1 (never _ q) in
      let f = by_step_lem p (length t) (by_event deed p.server (decode (body_of t))) q d.1 in
      record {
        distance = eqb-true (number_at t (length_of t + 4) 4) (length_of t + 4) c.0;
        summed = eqb-true (number_at t (length_of t + 8) 4) (crc_of (take (length_of t + 4) t)) d.0;
        steps = f.0;
        moves = f.1;
      }

  -- a place that goes on: an entry stands there, and its body yields its frames
  pub record Gone (p : Place S) (s : List ℕ) (q : Place S) : Type 0 where
    pub body : List ℕ
    pub all : entry body ++ drop (length_of s + 12) s ≡ s
    pub fine : Fine body
    pub yields : Yields deed p.server body q.server
    pub moves : q ≡ (moved {S = S} deed) p body q.server
    pub there : length_of s + 12 ≤ length s

  pub place_gone : (p : Place S) (s : List ℕ) (q : Place S) → Bytes s → place_of deed p s ≡ goes q → Gone p s q
  unfolding place_of enough
  place_gone p s q y e = by_back (is_back s) refl
    where
      entry_there : is_back s ≡ false → (enough s ≡ true) × (entry_of deed p (take (length_of s + 12) s) ≡ goes q) → Gone p s q
      entry_there b c =
          let n : ℕ = length_of s in
          let t : List ℕ = take (n + 12) s in
          let w : n ≤ body_limit = leb-true n body_limit (and_left (leb n body_limit) (leb (n + 12) (length s)) c.0) in
          let l : n + 12 ≤ length s = leb-true (n + 12) (length s) (and_right (leb n body_limit) (leb (n + 12) (length s)) c.0) in
          let m : length t ≡ n + 12 = simp length-take (omega arith) in
          let a : t ++ drop (n + 12) s ≡ s = take-append-drop (n + 12) s in
          let k : length_of t ≡ n = sym (length_front t (drop (n + 12) s) (omega arith)) ∙ ap length_of a in
          let g = entry_passed p t q c.1 in
          let v : Whole t = record { enough = omega arith; within = omega arith; distance = g.distance; summed = g.summed } in
          let z : Bytes t = take_bytes (n + 12) s y in
          let f : Fine (body_of t) = read_fine t z v in
          let i : t ≡ entry (body_of t) = encoded t z v (omega arith) in
          record {
            body = body_of t;
            all = ap (λ (x : List ℕ). x ++ drop (n + 12) s) (sym i) ∙ a;
            fine = f;
            yields = (step_yields {S = S} deed) p.server (body_of t) q.server f.bytes g.steps;
            moves = g.moves ∙ ap (λ (x : List ℕ). record { count = p.count + 1; at = p.at + length x; last = p.at; server = q.server }) i;
            there = l;
          }

      by_back : (c : Bool) → is_back s ≡ c → Gone p s q
      by_back true b = absurd (never (trailer_of p s) q (sym (yes_is _ _ b) ∙ e))
      by_back false b =
          entry_there b (chosen (enough s) (entry_of deed p (take (length_of s + 12) s)) (stops (wrong p.count in_length)) (goes q) (sym (no_is _ _ b) ∙ e) (never _ q))
