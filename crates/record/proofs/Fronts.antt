-- Laws of what is read at the front of bytes, and behind a tag.
use Rattle.std.specs.Prelude.{◌≡◌, List, [], ◌∷◌, ℕ, ◌-◌, ◌≤◌, ◌<◌, leb, length, take, drop, Option, Some, None, MatchOption, if◌then◌else◌, ◌==◌, zero, suc, not, refl}
use Rattle.std.proofs.Common.{sym, ap, ap₂, subst, ◌∙◌, arith, le-leb, ne_eqb, take_all, length-drop}
use Rattle.std.proofs.lemmas.Bool.{lt-leb}
use Rattle.std.specs.List.{IsSplitAt}
use denote.Ref.{Bor}
use Rattle.wire.specs.Field.{number_at}
use Rattle.journal.specs.Journal.{choose}
use Rattle.journal.specs.Bytes.{yes_is, no_is, and_is, and_not, not_and}
use Rattle.record.specs.Layout.{Read, found, none, and_then, get_number, get_row, get_opening, get_delivery, get_cut, get_clock, get_answer}
use Rattle.record.specs.Layout.{get_status, get_off, get_above, get_outside, get_patterns, by_tag, decode}
use Rattle.record.specs.Fields.{then_is}
use Rattle.record.specs.Seen.{Reads}
use Rattle.record.specs.declared.events.Event.{Event}

pub then_none : {A B : Type 0} {r : Read A} (f : A → List ℕ → Read B) → r ≡ none → and_then r f ≡ none
unfolding and_then
then_none f e = rw e

pub number_missing : (n : ℕ) (s : List ℕ) → length s < n → get_number n s ≡ none
unfolding get_number
number_missing n s h = no_is _ none (lt-leb n (length s) h)

pub number_there : (n : ℕ) (s : List ℕ) (x : ℕ) → n ≤ length s → x ≡ number_at s 0 n → get_number n s ≡ found x (take (length s - n) (drop n s))
unfolding get_number
number_there n s x h e =
    yes_is _ none (le-leb n (length s) h)
    ∙ ap₂ found (sym e) (sym (take_all (length s - n) (drop n s) (simp length-drop (omega arith))))

pub byte_there : (s : List ℕ) (b : ℕ) (t : List ℕ) → s ≡ b ∷ t → get_number 1 s ≡ found b t
unfolding get_number
byte_there s b t e =
    ap (get_number 1) e ∙ yes_is _ none (le-leb 1 (length (b ∷ t)) (omega arith))
    ∙ ap (λ (x : ℕ). found x t) (omega arith)

-- a row: its length is at most so many, and its bytes are there
module _ (most : ℕ) (s : List ℕ) (n : ℕ) (t : List ℕ) (e : get_number 4 s ≡ found n t) where
  pub row_too_long : most < n → get_row most s ≡ none
  unfolding get_row
  row_too_long h = then_is _ e ∙ no_is _ none (and_not (leb n (length t)) (lt-leb n most h))

  pub row_by : (r : Option (Bor (List ℕ) × Bor (List ℕ))) → n ≤ most
      → MatchOption r (length t < n) (λ p. IsSplitAt t n p.0.now p.1.now)
      → MatchOption r (get_row most s ≡ none) (λ p. get_row most s ≡ found p.0.now p.1.now)
  unfolding get_row
  row_by None w h = then_is _ e ∙ no_is _ none (not_and (leb n most) (lt-leb n (length t) h))
  row_by (Some p) w h =
      then_is _ e ∙ yes_is _ none (and_is (le-leb n most w) (le-leb n (length t) h.0))
      ∙ ap₂ (λ (a b : List ℕ). found a b) (sym h.1) (sym h.2)

-- a tag
module _ {tag : ℕ} (s : List ℕ) where
  pub tag_0 : tag ≡ 0 → by_tag tag s ≡ get_opening s
  unfolding by_tag choose
  tag_0 e = rw e

  pub tag_1 : tag ≡ 1 → by_tag tag s ≡ get_delivery s
  unfolding by_tag choose
  tag_1 e = rw e

  pub tag_2 : tag ≡ 2 → by_tag tag s ≡ get_cut s
  unfolding by_tag choose
  tag_2 e = rw e

  pub tag_3 : tag ≡ 3 → by_tag tag s ≡ get_clock s
  unfolding by_tag choose
  tag_3 e = rw e

  pub tag_4 : tag ≡ 4 → by_tag tag s ≡ get_answer s
  unfolding by_tag choose
  tag_4 e = rw e

  pub tag_5 : tag ≡ 5 → by_tag tag s ≡ get_status s
  unfolding by_tag choose
  tag_5 e = rw e

  pub tag_6 : tag ≡ 6 → by_tag tag s ≡ get_off s
  unfolding by_tag choose
  tag_6 e = rw e

  pub tag_7 : tag ≡ 7 → by_tag tag s ≡ get_above s
  unfolding by_tag choose
  tag_7 e = rw e

  pub tag_8 : tag ≡ 8 → by_tag tag s ≡ get_outside s
  unfolding by_tag choose
  tag_8 e = rw e

  pub tag_9 : tag ≡ 9 → by_tag tag s ≡ get_patterns s
  unfolding by_tag choose
  tag_9 e = rw e

  pub tag_unknown : 9 < tag → by_tag tag s ≡ none
  unfolding by_tag
  tag_unknown l =
      no_is _ _ (ne_eqb tag 0 (λ z. omega arith)) ∙ no_is _ _ (ne_eqb tag 1 (λ z. omega arith)) ∙ no_is _ _ (ne_eqb tag 2 (λ z. omega arith))
      ∙ no_is _ _ (ne_eqb tag 3 (λ z. omega arith)) ∙ no_is _ _ (ne_eqb tag 4 (λ z. omega arith)) ∙ no_is _ _ (ne_eqb tag 5 (λ z. omega arith))
      ∙ no_is _ _ (ne_eqb tag 6 (λ z. omega arith)) ∙ no_is _ _ (ne_eqb tag 7 (λ z. omega arith)) ∙ no_is _ _ (ne_eqb tag 8 (λ z. omega arith))
      ∙ no_is _ _ (ne_eqb tag 9 (λ z. omega arith))

-- nothing was read
pub missing : {A B : Type 0} {r : Option A} {x : Read B} (Q : A → Type 0) → r ≡ None → x ≡ none → MatchOption r (x ≡ none) Q
missing {A = A} {r = r} {x = x} Q n e = subst (λ (o : Option A). MatchOption o (x ≡ none) Q) (sym n) e

-- END is 0 or 1
pub end_is : (e : ℕ) → e ≤ 1 → (if not (e == 0) then 1 else 0) ≡ e
end_is zero h = refl
end_is (suc zero) h = refl
end_is (suc (suc e)) h = absurd (omega arith)

pub decode_empty : (s : List ℕ) → length s ≡ 0 → decode s ≡ none
unfolding decode
decode_empty [] h = refl
decode_empty (x ∷ s) h = absurd (omega arith)

pub decode_first : (r : Option (Event × Bor (List ℕ))) (s : List ℕ) (tag : ℕ) (rest : List ℕ) → s ≡ tag ∷ rest → Reads r (by_tag tag rest) → Reads r (decode s)
unfolding decode
decode_first r s tag rest e h = subst (λ (x : List ℕ). Reads r (decode x)) (sym e) h
