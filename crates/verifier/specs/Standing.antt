-- Where a reading stands, in four numbers, a fault and a buffer: what the code keeps between two pieces. Bytes are put behind those had as many at
-- once as are wanted, and what that comes to is the definition's, byte by byte. Assumes nothing.
use Rattle.std.specs.Prelude.{◌≡◌, Bool, ℕ, Option, Some, None, Result, Ok, Err, ◌+◌, ◌≤◌, ◌<◌, leb}
use Rattle.std.proofs.Math.Path.{refl, sym, ap}
use Rattle.std.proofs.Common.{◌∙◌, length-take}
use Rattle.std.proofs.Math.Logic.{⊎_elim}
use Rattle.std.proofs.Math.Bool.{true, false}
use mathlib.Core.List.{List, [], ◌∷◌, ◌++◌}
use native.Mathlib.Omega.{arith}
use Rattle.std.proofs.Math.Dec.{eqb}
use Rattle.std.proofs.Math.ListN.{length, take, length-append}
use borrow.Author.Tests.{le-leb, lt-leb, leb-true, leb-false, eq-eqb, ne_eqb}
use Rattle.wire.specs.Field.{number, number_at}
use Rattle.crc.specs.Crc.{crc_of}
use Rattle.journal.specs.Journal.{choose, body_limit, mark, length_of}
use Rattle.journal.specs.Bytes.{yes_is, no_is, and_is, not_and, below}
use Rattle.record.specs.Layout.{Event}
use Rattle.verifier.specs.Judge.{wrong, Deed, Place, is_back, first}
use Rattle.verifier.specs.Feed.{Reading, reading, done, finish, feed_byte, feed}
use Rattle.verifier.specs.Pieces.{length_front, back_front}
use Rattle.verifier.specs.Places.{chosen}
use Rattle.verifier.specs.Framing.{framing_of, end_of, fault_of, by_end, finish_end, Fed}
use Rattle.verifier.specs.Whole.{frame_whole, not_chosen, neither}
use Rattle.verifier.specs.declared.Fault.{Fault}
use Rattle.verifier.specs.declared.Fault.TheVariants.{Length, Distance, Sum, Trailer}
use Rattle.verifier.specs.declared.Progress.{Progress}
use Rattle.verifier.specs.declared.Progress.TheVariants.{More, Whole}
use Rattle.verifier.specs.declared.Standing.{Standing}

-- how many bytes from a place on decide what it comes to: the four of its length, then the trailer and one more, or the entry
unfoldable pub wanted_of : List ℕ → ℕ
wanted_of s = choose (leb (length s) 3) 4 (choose (is_back s) 13 (length_of s + 12))

module _ {S : Type 0} where
  abbrev pub place_in : Standing → S → Place S
  place_in r d = record { count = r.count; at = r.at; last = r.last; server = d }

  -- a fault is the verdict
  unfoldable pub stands : Option Fault → ℕ → Reading S → Reading S
  stands None n x = x
  stands (Some f) n x = done (wrong n (fault_of f))

  -- the reading that the numbers, the fault, the buffer and the server stand for
  unfoldable pub reading_of : Standing → List ℕ → S → Reading S
  reading_of r buf d = stands r.fault r.count (reading (place_in r d) (take r.have buf))

-- where there is no fault, the bytes had decide nothing yet, and what they want fits the buffer; the numbers do not run over
pub record Sound (r : Standing) (buf : List ℕ) : Type 0 where
  pub room : length buf ≡ body_limit + 12
  pub short : r.fault ≡ None → r.have < wanted_of (take r.have buf)
  pub fits : r.fault ≡ None → wanted_of (take r.have buf) ≤ body_limit + 12
  pub count : r.count ≤ r.at

abbrev pub start : Standing
start = record { have = 0; count = 0; at = 0; last = 0; fault = None }

pub start_sound : (buf : List ℕ) → length buf ≡ body_limit + 12 → Sound start buf
unfolding wanted_of choose
start_sound buf l = record { room = l; short = λ _. omega arith; fits = λ _. omega arith; count = omega arith }

pub start_reading : {S : Type 0} (buf : List ℕ) (d : S) → reading_of start buf d ≡ reading (first d) []
unfolding reading_of stands
start_reading buf d = refl

-- the end of the book: accepted, or the fault
unfoldable pub ends : Option Fault → Result (Unit {0}) Fault → Result (Unit {0}) Fault
ends None x = x
ends (Some f) x = Err f

unfoldable pub ending_of : Standing → List ℕ → Result (Unit {0}) Fault
ending_of r buf = ends r.fault (end_of (take r.have buf) r.last r.count)

-- laws of wanting
pub wanted_few : (s : List ℕ) → length s ≤ 3 → wanted_of s ≡ 4
unfolding wanted_of
wanted_few s h = yes_is _ _ (le-leb (length s) 3 h)

pub wanted_back : (s : List ℕ) → 3 < length s → is_back s ≡ true → wanted_of s ≡ 13
unfolding wanted_of
wanted_back s h b = no_is _ _ (lt-leb (length s) 3 h) ∙ yes_is _ _ b

pub wanted_entry : (s : List ℕ) → 3 < length s → is_back s ≡ false → wanted_of s ≡ length_of s + 12
unfolding wanted_of
wanted_entry s h b = no_is _ _ (lt-leb (length s) 3 h) ∙ no_is _ _ b

-- where more are needed, more are wanted
module _ (t : List ℕ) (e : framing_of t ≡ Ok More) where
  short_few : length t < 4 → (length t < wanted_of t) × (wanted_of t ≤ body_limit + 12)
  short_few c = let w : wanted_of t ≡ 4 = wanted_few t (omega arith) in (omega (arith, w), omega (arith, w))

  short_back : 4 ≤ length t → is_back t ≡ true → (length t < wanted_of t) × (wanted_of t ≤ body_limit + 12)
  unfolding framing_of
  short_back c b =
      let w : wanted_of t ≡ 13 = wanted_back t (omega arith) b in
      let g = chosen (leb (length t) 12) (Ok More) (Err Trailer) (Ok More) (sym (yes_is _ _ b) ∙ sym (no_is _ _ (lt-leb (length t) 3 (omega arith))) ∙ e) (λ z. cc) in
      let n : length t ≤ 12 = leb-true (length t) 12 g.0 in
      (omega (arith, w), omega (arith, w))

  short_entry : 4 ≤ length t → is_back t ≡ false → (length t < wanted_of t) × (wanted_of t ≤ body_limit + 12)
  unfolding framing_of
  short_entry c b =
      let w : wanted_of t ≡ length_of t + 12 = wanted_entry t (omega arith) b in
      let g = chosen (leb (length_of t) body_limit) _ (Err Length) (Ok More) (sym (no_is _ _ b) ∙ sym (no_is _ _ (lt-leb (length t) 3 (omega arith))) ∙ e) (λ z. cc) in
      let m : length_of t ≤ body_limit = leb-true (length_of t) body_limit g.0 in
      let q = not_chosen (leb (length_of t + 12) (length t)) _ (Ok More) (Ok More) g.1
      (neither (eqb (number_at t (length_of t + 4) 4) (length_of t + 4)) _ (Err Distance) (Ok More)
      (neither (eqb (number_at t (length_of t + 8) 4) (crc_of (take (length_of t + 4) t))) (Ok Whole) (Err Sum) (Ok More) (λ z. cc) (λ z. cc))
      (λ z. cc)) in
      let n : length t < length_of t + 12 = leb-false (length_of t + 12) (length t) q.0 in
      (omega (arith, w), omega (arith, w))

  by_back : 4 ≤ length t → (b : Bool) → is_back t ≡ b → (length t < wanted_of t) × (wanted_of t ≤ body_limit + 12)
  by_back c true b = short_back c b
  by_back c false b = short_entry c b

  pub still_short : (length t < wanted_of t) × (wanted_of t ≤ body_limit + 12)
  still_short = ⊎_elim (λ (c : length t < 4). short_few c) (λ (c : 4 ≤ length t). by_back c (is_back t) refl) (below (length t) 4)

-- a whole entry is just one
pub just_one : (s x : List ℕ) → length s + length x ≤ wanted_of s → framing_of (s ++ x) ≡ Ok Whole → length (s ++ x) ≡ length_of (s ++ x) + 12
just_one s x h e =
    let w = frame_whole (s ++ x) e in
    let t : length_of (s ++ x) + 12 ≤ length (s ++ x) = w.there in
    let l : length (s ++ x) ≡ length s + length x = length-append s x in
    ⊎_elim
    (λ (c : length s < 4). let f : wanted_of s ≡ 4 = wanted_few s (omega arith) in omega (arith, f, l, t, h))
    (λ (c : 4 ≤ length s).
    let f : wanted_of s ≡ length_of s + 12 = wanted_entry s (omega arith) (sym (back_front s x c) ∙ w.entry) in
    let g : length_of (s ++ x) ≡ length_of s = length_front s x c in
    omega (arith, f, g, l, t, h))
    (below (length s) 4)

-- A turn of the code, for any server: bytes up to those wanted are put behind those had, and `framing` tells what they come to.
module _ {S : Type 0} (deed : S → Event → Deed S) (r : Standing) (buf new : List ℕ) (b : ℕ) (x : List ℕ) (k : Result Progress Fault) (d : S)
    (o : Sound r buf) (going : r.fault ≡ None) (h : r.have + length (b ∷ x) ≤ wanted_of (take r.have buf)) (f : Fed k r.have (b ∷ x) buf new) where
  abbrev pub had : List ℕ
  had = take r.have buf

  abbrev pub all : List ℕ
  all = had ++ (b ∷ x)

  pub had_length : length had ≡ r.have
  had_length =
      let a : r.have < wanted_of had = o.short going in
      let c : wanted_of had ≤ body_limit + 12 = o.fits going in
      let n : length buf ≡ body_limit + 12 = o.room in
      simp length-take (omega arith)

  pub all_length : length all ≡ r.have + length (b ∷ x)
  all_length = length-append had (b ∷ x) ∙ ap (λ (n : ℕ). n + length (b ∷ x)) had_length

  -- a whole entry
  module _ (z : k ≡ Ok Whole) where
    pub one : length all ≡ length_of all + 12
    one = just_one had (b ∷ x) (omega (arith, had_length, h)) (sym f.kind ∙ z)

    pub entry_long : 12 ≤ r.have + length (b ∷ x)
    entry_long = omega (arith, one, all_length)

-- a verdict that was given stays
pub stays : {S : Type 0} (deed : S → Event → Deed S) (r : Standing) (buf : List ℕ) (d : S) (x : List ℕ) (f : Fault) → r.fault ≡ Some f
    → feed deed (reading_of r buf d) x ≡ reading_of r buf d
unfolding reading_of stands feed feed_byte
stays {S} deed r buf d x f n =
    ap (λ (o : Option Fault). feed deed (stands o r.count (reading (place_in r d) (take r.have buf))) x) n ∙ go x
    ∙ sym (ap (λ (o : Option Fault). stands o r.count (reading (place_in r d) (take r.have buf))) n)
  where
    go : (x : List ℕ) → feed deed (done (wrong r.count (fault_of f))) x ≡ done (wrong r.count (fault_of f))
    go [] = refl
    go (b ∷ x) = go x

-- the end of the book
module _ {S : Type 0} (deed : S → Event → Deed S) (r : Standing) (buf : List ℕ) (d : S) where
  ends_by : (o : Option Fault) → finish (stands o r.count (reading (place_in r d) (take r.have buf))) ≡ by_end deed r.count (ends o (end_of (take r.have buf) r.last r.count))
  unfolding stands ends by_end finish
  ends_by None = finish_end deed (place_in r d) (take r.have buf)
  ends_by (Some f) = refl

  -- the verdict that is answered is that of the reading
  pub ending_is : finish (reading_of r buf d) ≡ by_end deed r.count (ending_of r buf)
  unfolding reading_of ending_of
  ending_is = ends_by r.fault

-- laws for the code
pub wants_few : (s : List ℕ) → length s ≤ 3 → 4 ≡ wanted_of s
wants_few s h = sym (wanted_few s h)

module _ (s : List ℕ) (n : ℕ) (e : n ≡ number_at s 0 4) (h : 3 < length s) where
  pub wants_back : n ≡ 1111573323 → 13 ≡ wanted_of s
  unfolding is_back
  wants_back b = sym (wanted_back s h (and_is (le-leb 4 (length s) (omega arith)) (eq-eqb (number_at s 0 4) (number mark) (sym e ∙ b))))

  pub wants_entry : (n ≡ 1111573323 → ⊥) → n + 12 ≡ wanted_of s
  unfolding is_back length_of
  wants_entry b = ap (λ (k : ℕ). k + 12) e ∙ sym (wanted_entry s h (not_and (leb 4 (length s)) (ne_eqb (number_at s 0 4) (number mark) (λ z. b (e ∙ z)))))

module _ (r : Standing) (buf : List ℕ) where
  pub ends_fault : (f : Fault) → r.fault ≡ Some f → Err f ≡ ending_of r buf
  unfolding ending_of ends
  ends_fault f n = sym (ap (λ (o : Option Fault). ends o (end_of (take r.have buf) r.last r.count)) n)

  pub ends_reading : (k : Result (Unit {0}) Fault) → r.fault ≡ None → k ≡ end_of (take r.have buf) r.last r.count → k ≡ ending_of r buf
  unfolding ending_of ends
  ends_reading k e q = q ∙ sym (ap (λ (o : Option Fault). ends o (end_of (take r.have buf) r.last r.count)) e)
