-- What the bytes had come to, without the server: what the code answers. Assumes nothing.
use Rattle.std.specs.Prelude.{◌≡◌, ◌&&◌, List, ◌++◌, ℕ, Result, Ok, Err, ◌+◌, ◌≤◌, ◌<◌, leb, length, take}
use Rattle.std.proofs.Math.Path.{refl, sym, ap}
use Rattle.std.proofs.Common.{ap₂, ◌∙◌, arith, le-leb, eq-eqb, ne_eqb}
use Rattle.std.proofs.Math.Bool.{Bool, true, false}
use Rattle.std.proofs.Math.Dec.{eqb}
use Rattle.std.proofs.lemmas.Bool.{lt-leb}
use Rattle.wire.specs.Field.{number, number_at}
use Rattle.wire.specs.Splice.{splice, length_splice, take_splice}
use Rattle.crc.specs.Crc.{crc_of}
use Rattle.journal.specs.Journal.{choose, body_limit, mark, length_of, body_of}
use Rattle.journal.specs.Bytes.{yes_is, no_is, and_is, and_not, not_and}
use Rattle.record.specs.Layout.{Event, decode}
use Rattle.verifier.specs.Judge.{Fault as Named, in_length, in_distance, in_sum, in_layout, in_parcels, in_trailer, Verdict, accepted, wrong, Deed, Place}
use Rattle.verifier.specs.Judge.{is_back, by_step, trailer_of, by_event}
use Rattle.verifier.specs.Feed.{Reading, reading, done, by_next, finish}
use Rattle.verifier.specs.Pieces.{few_not_back}
use Rattle.verifier.specs.declared.Fault.{Fault}
use Rattle.verifier.specs.declared.Fault.TheVariants.{Length, Distance, Sum, Layout, Parcels, Trailer, Own}
use Rattle.verifier.specs.declared.Progress.{Progress}
use Rattle.verifier.specs.declared.Progress.TheVariants.{More, Whole}

-- more bytes are needed, a whole entry with right distance and sum, or the fault
unfoldable pub framing_of : List ℕ → Result Progress Fault
framing_of s =
    choose (leb (length s) 3) (Ok More)
    (choose (is_back s) (choose (leb (length s) 12) (Ok More) (Err Trailer))
    (choose (leb (length_of s) body_limit)
    (choose (leb (length_of s + 12) (length s))
    (choose (eqb (number_at s (length_of s + 4) 4) (length_of s + 4))
    (choose (eqb (number_at s (length_of s + 8) 4) (crc_of (take (length_of s + 4) s))) (Ok Whole) (Err Sum))
    (Err Distance))
    (Ok More))
    (Err Length)))

-- at the end of the book: accepted, or the fault
unfoldable pub end_of : List ℕ → ℕ → ℕ → Result (Unit {0}) Fault
end_of s last count =
    choose (is_back s)
    (choose (eqb (length s) 12 && eqb (number_at s 4 4) last && eqb (number_at s 8 4) count) (Ok tt) (Err Trailer))
    (Err Length)

-- the code's faults are the definition's; a caller's own is read as the trailer's
unfoldable pub fault_of : Fault → Named
fault_of Length = in_length
fault_of Distance = in_distance
fault_of Sum = in_sum
fault_of Layout = in_layout
fault_of Parcels = in_parcels
fault_of Trailer = in_trailer
fault_of (Own n) = in_trailer

module _ {S : Type 0} (deed : S → Event → Deed S) where
  -- what a reading becomes by the answer
  unfoldable pub by_framing : Place S → List ℕ → Result Progress Fault → Reading S
  by_framing p s (Ok More) = reading p s
  by_framing p s (Ok Whole) = by_next (by_step p (length s) (by_event deed p.server (decode (body_of s))))
  by_framing p s (Err f) = done (wrong p.count (fault_of f))

  module _ (p : Place S) (s : List ℕ) where
    abbrev pub to : Result Progress Fault → Reading S
    to k = by_framing p s k

  -- the verdict at the end, by the answer
  unfoldable pub by_end : ℕ → Result (Unit {0}) Fault → Verdict
  by_end count (Ok u) = accepted count
  by_end count (Err f) = wrong count (fault_of f)

  module _ (p : Place S) (s : List ℕ) where
    end_choose : (c : Bool) (a b : Result (Unit {0}) Fault) (x y : Verdict) → x ≡ by_end p.count a → y ≡ by_end p.count b → choose c x y ≡ by_end p.count (choose c a b)
    unfolding choose
    end_choose true a b x y e f = e
    end_choose false a b x y e f = f

    end_right_lem : accepted p.count ≡ by_end p.count (Ok tt)
    unfolding by_end
    end_right_lem = refl

    end_at_length : wrong p.count in_length ≡ by_end p.count (Err Length)
    unfolding by_end fault_of
    end_at_length = refl

    end_at_trailer : wrong p.count in_trailer ≡ by_end p.count (Err Trailer)
    unfolding by_end fault_of
    end_at_trailer = refl

    pub finish_end : finish (reading p s) ≡ by_end p.count (end_of s p.last p.count)
    unfolding finish end_of trailer_of
    finish_end =
        end_choose (is_back s) _ (Err Length) _ _
        (end_choose (eqb (length s) 12 && eqb (number_at s 4 4) p.last && eqb (number_at s 8 4) p.count) (Ok tt) (Err Trailer) _ _ end_right_lem end_at_trailer)
        end_at_length

-- laws for the code: one for each way out
module _ (s : List ℕ) where
  pub few : length s ≤ 3 → Ok More ≡ framing_of s
  unfolding framing_of
  few h = sym (yes_is _ _ (le-leb (length s) 3 h))

  is_back_lem : (n : ℕ) → n ≡ number_at s 0 4 → 3 < length s → n ≡ 1111573323 → is_back s ≡ true
  unfolding is_back
  is_back_lem n e h b = and_is (le-leb 4 (length s) (omega arith)) (eq-eqb (number_at s 0 4) (number mark) (sym e ∙ b))

  not_back : (n : ℕ) → n ≡ number_at s 0 4 → (n ≡ 1111573323 → ⊥) → is_back s ≡ false
  unfolding is_back
  not_back n e b = not_and (leb 4 (length s)) (ne_eqb (number_at s 0 4) (number mark) (λ z. b (e ∙ z)))

  module _ (n : ℕ) (e : n ≡ number_at s 0 4) (h : 3 < length s) where
    pub back_short : n ≡ 1111573323 → length s ≤ 12 → Ok More ≡ framing_of s
    unfolding framing_of
    back_short b l = sym (no_is _ _ (lt-leb (length s) 3 h) ∙ yes_is _ _ (is_back_lem n e h b) ∙ yes_is _ _ (le-leb (length s) 12 l))

    pub back_long : n ≡ 1111573323 → 12 < length s → Err Trailer ≡ framing_of s
    unfolding framing_of
    back_long b l = sym (no_is _ _ (lt-leb (length s) 3 h) ∙ yes_is _ _ (is_back_lem n e h b) ∙ no_is _ _ (lt-leb (length s) 12 l))

    module _ (b : n ≡ 1111573323 → ⊥) where
      to_limit : framing_of s
          ≡ choose (leb n body_limit)
          (choose (leb (n + 12) (length s))
          (choose (eqb (number_at s (n + 4) 4) (n + 4)) (choose (eqb (number_at s (n + 8) 4) (crc_of (take (n + 4) s))) (Ok Whole) (Err Sum)) (Err Distance))
          (Ok More))
          (Err Length)
      unfolding framing_of length_of
      to_limit =
          no_is _ _ (lt-leb (length s) 3 h) ∙ no_is _ _ (not_back n e b)
          ∙ ap
          (λ (k : ℕ). choose (leb k body_limit)
          (choose (leb (k + 12) (length s))
          (choose (eqb (number_at s (k + 4) 4) (k + 4)) (choose (eqb (number_at s (k + 8) 4) (crc_of (take (k + 4) s))) (Ok Whole) (Err Sum)) (Err Distance))
          (Ok More))
          (Err Length))
          (sym e)

      pub too_long : body_limit < n → Err Length ≡ framing_of s
      too_long l = sym (to_limit ∙ no_is _ _ (lt-leb n body_limit l))

      module _ (w : n ≤ body_limit) where
        pub short : length s < n + 12 → Ok More ≡ framing_of s
        short l = sym (to_limit ∙ yes_is _ _ (le-leb n body_limit w) ∙ no_is _ _ (lt-leb (n + 12) (length s) l))

        module _ (l : n + 12 ≤ length s) (d : ℕ) (f : d ≡ number_at s (n + 4) 4) where
          to_distance : framing_of s ≡ choose (eqb d (n + 4)) (choose (eqb (number_at s (n + 8) 4) (crc_of (take (n + 4) s))) (Ok Whole) (Err Sum)) (Err Distance)
          to_distance =
              to_limit ∙ yes_is _ _ (le-leb n body_limit w) ∙ yes_is _ _ (le-leb (n + 12) (length s) l)
              ∙ ap (λ (k : ℕ). choose (eqb k (n + 4)) (choose (eqb (number_at s (n + 8) 4) (crc_of (take (n + 4) s))) (Ok Whole) (Err Sum)) (Err Distance)) (sym f)

          pub bad_distance : (d ≡ n + 4 → ⊥) → Err Distance ≡ framing_of s
          bad_distance g = sym (to_distance ∙ no_is _ _ (ne_eqb d (n + 4) g))

          module _ (g : d ≡ n + 4) (x y : ℕ) (i : x ≡ number_at s (n + 8) 4) (j : y ≡ crc_of (take (n + 4) s)) where
            to_sum : framing_of s ≡ choose (eqb x y) (Ok Whole) (Err Sum)
            to_sum = to_distance ∙ yes_is _ _ (eq-eqb d (n + 4) g) ∙ ap₂ (λ (u v : ℕ). choose (eqb u v) (Ok Whole) (Err Sum)) (sym i) (sym j)

            pub bad_sum : (x ≡ y → ⊥) → Err Sum ≡ framing_of s
            bad_sum q = sym (to_sum ∙ no_is _ _ (ne_eqb x y q))

            pub all_right : x ≡ y → Ok Whole ≡ framing_of s
            all_right q = sym (to_sum ∙ yes_is _ _ (eq-eqb x y q))

-- the end of the book
module _ (s : List ℕ) (last count : ℕ) where
  no_trailer : is_back s ≡ false → Err Length ≡ end_of s last count
  unfolding end_of
  no_trailer e = sym (no_is _ _ e)

  pub end_few : length s < 4 → Err Length ≡ end_of s last count
  end_few h = no_trailer (few_not_back s h)

  module _ (n : ℕ) (e : n ≡ number_at s 0 4) (h : 4 ≤ length s) where
    pub end_entry : (n ≡ 1111573323 → ⊥) → Err Length ≡ end_of s last count
    end_entry b = no_trailer (not_back s n e b)

    module _ (b : n ≡ 1111573323) where
      bad : (eqb (length s) 12 && eqb (number_at s 4 4) last && eqb (number_at s 8 4) count) ≡ false → Err Trailer ≡ end_of s last count
      unfolding end_of
      bad f = sym (yes_is _ _ (is_back_lem s n e (omega arith) b) ∙ no_is _ _ f)

      pub end_length : (length s ≡ 12 → ⊥) → Err Trailer ≡ end_of s last count
      end_length f = bad (and_not (eqb (number_at s 8 4) count) (and_not (eqb (number_at s 4 4) last) (ne_eqb (length s) 12 f)))

      pub end_last : (x : ℕ) → x ≡ number_at s 4 4 → (x ≡ last → ⊥) → Err Trailer ≡ end_of s last count
      end_last x i f = bad (and_not (eqb (number_at s 8 4) count) (not_and (eqb (length s) 12) (ne_eqb (number_at s 4 4) last (λ z. f (i ∙ z)))))

      pub end_count : (y : ℕ) → y ≡ number_at s 8 4 → (y ≡ count → ⊥) → Err Trailer ≡ end_of s last count
      end_count y j f = bad (not_and (eqb (length s) 12 && eqb (number_at s 4 4) last) (ne_eqb (number_at s 8 4) count (λ z. f (j ∙ z))))

      pub end_right : length s ≡ 12 → (x y : ℕ) → x ≡ number_at s 4 4 → x ≡ last → y ≡ number_at s 8 4 → y ≡ count → Ok tt ≡ end_of s last count
      unfolding end_of
      end_right l x y i p j q =
          sym
          (yes_is _ _ (is_back_lem s n e (omega arith) b)
          ∙ yes_is _ _
          (and_is (and_is (eq-eqb (length s) 12 l) (eq-eqb (number_at s 4 4) last (sym i ∙ p))) (eq-eqb (number_at s 8 4) count (sym j ∙ q))))

-- bytes put behind those had
pub record Fed (r : Result Progress Fault) (have : ℕ) (bytes old new : List ℕ) : Type 0 where
  pub kind : r ≡ framing_of (take have old ++ bytes)
  pub had : take (have + length bytes) new ≡ take have old ++ bytes
  pub size : length new ≡ length old

pub put_behind : (r : Result Progress Fault) (have : ℕ) (bytes old new : List ℕ) → have + length bytes ≤ length old → new ≡ splice old have bytes → r ≡ framing_of (take (have + length bytes) new)
    → Fed r have bytes old new
put_behind r have bytes old new h e k =
    let t : take (have + length bytes) new ≡ take have old ++ bytes = ap (take (have + length bytes)) e ∙ take_splice old have bytes h in
    record { kind = k ∙ ap framing_of t; had = t; size = ap length e ∙ length_splice old have bytes h }
