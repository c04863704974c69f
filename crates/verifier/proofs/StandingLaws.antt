-- Laws of what specs/Standing.antt defines. Assumes nothing.
use Rattle.std.specs.Prelude.{◌≡◌, Bool, ℕ, Option, Some, None, Result, Ok, Err, ◌+◌, ◌-◌, ◌≤◌, ◌<◌, leb, drop}
use Rattle.std.proofs.Math.Path.{refl, sym, ap, subst}
use Rattle.std.proofs.Common.{◌∙◌, take-take}
use Rattle.std.proofs.Math.Logic.{⊎_elim}
use Rattle.std.proofs.Math.Bool.{true, false}
use mathlib.Core.List.{List, [], ◌∷◌, ◌++◌, append_assoc}
use native.Mathlib.Omega.{arith}
use Rattle.std.proofs.Math.ListN.{length, take, length-append}
use borrow.Author.Tests.{le-leb, lt-leb}
use Rattle.journal.specs.Journal.{choose, body_limit, length_of, body_of}
use Rattle.journal.specs.Bytes.{yes_is, no_is, below}
use Rattle.journal.specs.Steps.{drop_take}
use Rattle.crc.specs.Crc.{crc_of}
use Rattle.record.specs.Layout.{Event, Read, found, none, decode}
use Rattle.verifier.specs.Judge.{wrong, in_length, in_parcels, in_trailer, Deed, refused, gave, Went, on, fault, Place, same, by_step, is_back, by_deed, by_event, entry_of}
use Rattle.verifier.specs.Feed.{Reading, reading, done, by_next, settle, feed_byte, feed}
use Rattle.verifier.specs.Pieces.{length_front, back_front}
use Rattle.verifier.specs.Framing.{framing_of, fault_of, by_framing, Fed}
use Rattle.verifier.proofs.FramingLaws.{settle_framing}
use Rattle.verifier.specs.declared.Fault.{Fault}
use Rattle.verifier.specs.declared.Fault.TheVariants.{Length, Distance, Sum, Trailer, Own}
use Rattle.verifier.specs.declared.Progress.{Progress}
use Rattle.verifier.specs.declared.Progress.TheVariants.{More, Whole}
use Rattle.verifier.specs.declared.Standing.{Standing}
use Rattle.verifier.specs.Whole.{neither}
use Rattle.wire.specs.Field.{number_at}
use Rattle.std.proofs.Math.Dec.{eqb}
use Rattle.verifier.specs.Standing.{wanted_of, place_in, stands, reading_of, Sound, wanted_few, wanted_back, wanted_entry, still_short, had, all, had_length, all_length, one, entry_long}

-- a byte more that is not the last one wanted wants no other number
wanted_same : (s : List ℕ) (b : ℕ) → length s + 1 < wanted_of s → wanted_of (s ++ (b ∷ [])) ≡ wanted_of s
unfolding wanted_of
wanted_same s b h =
    let l : length (s ++ (b ∷ [])) ≡ length s + 1 = length-append s (b ∷ []) in
    ⊎_elim
    (λ (c : length s < 4).
    let w : wanted_of s ≡ 4 = wanted_few s (omega arith) in
    let g : length (s ++ (b ∷ [])) ≤ 3 = omega (arith, l, w) in
    wanted_few (s ++ (b ∷ [])) g ∙ sym w)
    (λ (c : 4 ≤ length s).
    let p : leb (length (s ++ (b ∷ []))) 3 ≡ leb (length s) 3 = lt-leb (length (s ++ (b ∷ []))) 3 (omega (arith, l)) ∙ sym (lt-leb (length s) 3 (omega arith)) in
    λ i. choose (p i) 4 (choose (back_front s (b ∷ []) c i) 13 (length_front s (b ∷ []) c i + 12)))
    (below (length s) 4)

module _ {S : Type 0} (deed : S → Event → Deed S) where
  -- bytes that want more settle nothing
  settle_more : (p : Place S) (t : List ℕ) → length t < wanted_of t → wanted_of t ≤ body_limit + 12 → settle deed p t ≡ reading p t
  unfolding settle
  settle_more p t h f =
      ⊎_elim
      (λ (c : length t < 4). yes_is _ _ (le-leb (length t) 3 (omega arith)))
      (λ (c : 4 ≤ length t). no_is _ _ (lt-leb (length t) 3 (omega arith)) ∙ by c (is_back t) refl)
      (below (length t) 4)
    where
      by : 4 ≤ length t → (b : Bool) → is_back t ≡ b
          → choose (is_back t)
          (choose (leb (length t) 12) (reading p t) (done (wrong p.count in_trailer)))
          (choose (leb (length_of t) body_limit)
          (choose (leb (length_of t + 12) (length t)) (by_next (entry_of deed p t)) (reading p t))
          (done (wrong p.count in_length)))
          ≡ reading p t
      by c true b =
          let w : wanted_of t ≡ 13 = wanted_back t (omega arith) b in
          yes_is _ _ b ∙ yes_is _ _ (le-leb (length t) 12 (omega (arith, w, h)))
      by c false b =
          let w : wanted_of t ≡ length_of t + 12 = wanted_entry t (omega arith) b in
          no_is _ _ b ∙ yes_is _ _ (le-leb (length_of t) body_limit (omega (arith, w, f))) ∙ no_is _ _ (lt-leb (length_of t + 12) (length t) (omega (arith, w, h)))

  -- so bytes up to those wanted may be put at once
  pub at_once : (x : List ℕ) (p : Place S) (s : List ℕ) (b : ℕ) → length s + length (b ∷ x) ≤ wanted_of s → wanted_of s ≤ body_limit + 12
      → feed deed (reading p s) (b ∷ x) ≡ settle deed p (s ++ (b ∷ x))
  unfolding feed feed_byte
  at_once [] p s b h f = refl
  at_once (c ∷ x) p s b h f =
      let w : wanted_of (s ++ (b ∷ [])) ≡ wanted_of s = wanted_same s b (omega arith) in
      let l : length (s ++ (b ∷ [])) ≡ length s + 1 = length-append s (b ∷ []) in
      ap (λ (r : Reading S). feed deed r (c ∷ x)) (settle_more p (s ++ (b ∷ [])) (omega (arith, w, l, h)) (omega (arith, w, f)))
      ∙ at_once x p (s ++ (b ∷ [])) c (omega (arith, w, l, h)) (omega (arith, w, f))
      ∙ ap (settle deed p) (append_assoc s (b ∷ []) (c ∷ x))

-- A turn of the code, for any server: bytes up to those wanted are put behind those had, and `framing` tells what they come to.
module _ {S : Type 0} (deed : S → Event → Deed S) (r : Standing) (buf new : List ℕ) (b : ℕ) (x : List ℕ) (k : Result Progress Fault) (d : S)
    (o : Sound r buf) (going : r.fault ≡ None) (h : r.have + length (b ∷ x) ≤ wanted_of (take r.have buf)) (f : Fed k r.have (b ∷ x) buf new) where
  -- what the definition says of these bytes, by the answer
  turned : feed deed (reading_of r buf d) (b ∷ x) ≡ by_framing deed (place_in r d) (all {S = S} deed r buf new b x k d o going h f) k
  unfolding reading_of stands
  turned =
      ap (λ (o : Option Fault). feed deed (stands o r.count (reading (place_in r d) (take r.have buf))) (b ∷ x)) going
      ∙ at_once deed x (place_in r d) (had {S = S} deed r buf new b x k d o going h f) b (omega (arith, (had_length {S = S} deed r buf new b x k d o going h f), h)) (o.fits going)
      ∙ settle_framing deed (place_in r d) (all {S = S} deed r buf new b x k d o going h f)
      ∙ ap (by_framing deed (place_in r d) (all {S = S} deed r buf new b x k d o going h f)) (sym f.kind)

  module _ (r' : Standing) where
    -- more are needed
    pub turn_more : k ≡ Ok More → r' ≡ record { have = r.have + length (b ∷ x); count = r.count; at = r.at; last = r.last; fault = None }
        → (reading_of r' new d ≡ feed deed (reading_of r buf d) (b ∷ x)) × Sound r' new
    unfolding reading_of stands by_framing
    turn_more z e =
        let q = still_short (all {S = S} deed r buf new b x k d o going h f) (sym f.kind ∙ z) in
        let w : take (r.have + length (b ∷ x)) new ≡ (all {S = S} deed r buf new b x k d o going h f) = f.had in
        rw e (
          ap (reading (place_in r d)) w
              ∙ sym (turned ∙ ap (by_framing deed (place_in r d) (all {S = S} deed r buf new b x k d o going h f)) z),
          record {
            room = f.size ∙ o.room;
            short = λ _. subst (λ (y : List ℕ). r.have + length (b ∷ x) < wanted_of y) (sym w) (omega (arith, q.0, (all_length {S = S} deed r buf new b x k d o going h f)));
            fits = λ _. subst (λ (y : List ℕ). wanted_of y ≤ body_limit + 12) (sym w) q.1;
            count = o.count;
          },
        )

    faulty : (j : Fault) → r' ≡ record { have = r.have; count = r.count; at = r.at; last = r.last; fault = Some j } → (reading_of r' new d ≡ done (wrong r.count (fault_of j))) × Sound r' new
    unfolding reading_of stands
    faulty j e =
        rw e
        (refl, record { room = f.size ∙ o.room; short = λ z. cc; fits = λ z. cc; count = o.count })

    -- a fault of the framing
    pub turn_fault : (j : Fault) → k ≡ Err j → r' ≡ record { have = r.have; count = r.count; at = r.at; last = r.last; fault = Some j }
        → (reading_of r' new d ≡ feed deed (reading_of r buf d) (b ∷ x)) × Sound r' new
    unfolding by_framing
    turn_fault j z e =
        let y = faulty j e in
        (y.0 ∙ sym (turned ∙ ap (by_framing deed (place_in r d) (all {S = S} deed r buf new b x k d o going h f)) z), y.1)

  -- a whole entry
  module _ (z : k ≡ Ok Whole) where
    -- its body is what the code cuts out
    body_is : (e : ℕ) → e ≡ r.have + length (b ∷ x) → take (e - 8 - 4) (drop 4 new) ≡ body_of (all {S = S} deed r buf new b x k d o going h f)
    body_is e q =
        let m : e - 8 - 4 ≡ length_of (all {S = S} deed r buf new b x k d o going h f) = omega (arith, (all_length {S = S} deed r buf new b x k d o going h f), (one {S = S} deed r buf new b x k d o going h f z)) in
        let u : length_of (all {S = S} deed r buf new b x k d o going h f) ≤ e - 4 = omega (arith, (all_length {S = S} deed r buf new b x k d o going h f), (one {S = S} deed r buf new b x k d o going h f z)) in
        ap (λ (j : ℕ). take j (drop 4 new)) m
        ∙ sym (take-take (length_of (all {S = S} deed r buf new b x k d o going h f)) (e - 4) (drop 4 new) u)
        ∙ ap (take (length_of (all {S = S} deed r buf new b x k d o going h f))) (sym (drop_take 4 e new) ∙ ap (drop 4) (ap (λ (j : ℕ). take j new) q ∙ f.had))

    whole_turn : (e : ℕ) → e ≡ r.have + length (b ∷ x)
        → feed deed (reading_of r buf d) (b ∷ x) ≡ by_next (by_step (place_in r d) (length (all {S = S} deed r buf new b x k d o going h f)) (by_event deed d (decode (take (e - 8 - 4) (drop 4 new)))))
    unfolding by_framing
    whole_turn e q =
        turned ∙ ap (by_framing deed (place_in r d) (all {S = S} deed r buf new b x k d o going h f)) z
        ∙ ap (λ (y : List ℕ). by_next (by_step (place_in r d) (length (all {S = S} deed r buf new b x k d o going h f)) (by_event deed d (decode y)))) (sym (body_is e q))

    module _ (r' : Standing) (e : ℕ) (q : e ≡ r.have + length (b ∷ x)) where
      -- its layout or its frames are wrong
      pub turn_wrong : (j : Fault) → by_event deed d (decode (take (e - 8 - 4) (drop 4 new))) ≡ fault (fault_of j)
          → r' ≡ record { have = r.have; count = r.count; at = r.at; last = r.last; fault = Some j }
          → (d' : S) → (reading_of r' new d' ≡ feed deed (reading_of r buf d) (b ∷ x)) × Sound r' new
      unfolding reading_of stands by_step by_next
      turn_wrong j w i d' =
          rw i (
            sym (whole_turn e q ∙ ap (λ (y : Went S). by_next (by_step (place_in r d) (length (all {S = S} deed r buf new b x k d o going h f)) y)) w),
            record { room = f.size ∙ o.room; short = λ y. cc; fits = λ y. cc; count = o.count },
          )

      -- it is right
      pub turn_pass : (d' : S) → by_event deed d (decode (take (e - 8 - 4) (drop 4 new))) ≡ on d'
          → r' ≡ record { have = 0; count = r.count + 1; at = r.at + e; last = r.at; fault = None }
          → (reading_of r' new d' ≡ feed deed (reading_of r buf d) (b ∷ x)) × Sound r' new
      unfolding reading_of stands by_step by_next wanted_of choose
      turn_pass d' w i =
          let c : r.count ≤ r.at = o.count in
          let l : e ≡ length (all {S = S} deed r buf new b x k d o going h f) = q ∙ sym (all_length {S = S} deed r buf new b x k d o going h f) in
          let g : 12 ≤ e = omega (arith, (entry_long {S = S} deed r buf new b x k d o going h f z)) in
          rw i (
            ap (λ (n : ℕ). reading (record { count = r.count + 1; at = r.at + n; last = r.at; server = d' }) []) l
                ∙ sym (whole_turn e q ∙ ap (λ (y : Went S). by_next (by_step (place_in r d) (length (all {S = S} deed r buf new b x k d o going h f)) y)) w),
            record { room = f.size ∙ o.room; short = λ _. omega arith; fits = λ _. omega arith; count = omega arith },
          )

-- no answer of the framing is a caller's own fault
pub framing_named : (s : List ℕ) (n : ℕ) → framing_of s ≡ Err (Own n) → ⊥
unfolding framing_of
framing_named s n =
    neither (leb (length s) 3) (Ok More) _ (Err (Own n)) (λ z. cc)
    (neither (is_back s) _ _ (Err (Own n)) (neither (leb (length s) 12) (Ok More) (Err Trailer) (Err (Own n)) (λ z. cc) (λ z. cc))
    (neither (leb (length_of s) body_limit) _ (Err Length) (Err (Own n))
    (neither (leb (length_of s + 12) (length s)) _ (Ok More) (Err (Own n))
    (neither (eqb (number_at s (length_of s + 4) 4) (length_of s + 4)) _ (Err Distance) (Err (Own n))
    (neither (eqb (number_at s (length_of s + 8) 4) (crc_of (take (length_of s + 4) s))) (Ok Whole) (Err Sum) (Err (Own n)) (λ z. cc) (λ z. cc))
    (λ z. cc))
    (λ z. cc))
    (λ z. cc)))

-- nor does a body come to one: it is read as the trailer's
deed_named : {S : Type 0} (a : Deed S) (frames : List ℕ) → by_deed a frames ≡ fault in_trailer → ⊥
unfolding by_deed
deed_named refused frames = λ z. cc
deed_named (gave given d) frames = neither (same given frames) (on d) (fault in_parcels) (fault in_trailer) (λ z. cc) (λ z. cc)

pub event_named : {S : Type 0} (deed : S → Event → Deed S) (d : S) (e : Read Event) (n : ℕ) → by_event deed d e ≡ fault (fault_of (Own n)) → ⊥
unfolding by_event fault_of
event_named deed d none n = λ z. cc
event_named deed d (found event frames) n = deed_named (deed d event) frames
