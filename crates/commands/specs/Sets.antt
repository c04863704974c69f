-- Sets of places of a command, as the bits of three words, and what a row makes of one: the places where a spelling that began in it can end. Assumes nothing.
use Rattle.std.specs.Prelude.{◌≡◌, refl, ◌⊎◌, ◌↔◌, Bool, true, false, cond, ◌&&◌, List, [], ◌∷◌, ◌++◌, ℕ, ◌+◌, ◌-◌, ◌≤◌, ◌<◌, leb, length, get_or}
use Rattle.std.proofs.Common.{ap, subst, inl, inr, ⊎_elim, arith, leb-true}
use Rattle.scpi.specs.Bytes.{colon_sign, upper, caseless}
use Rattle.scpi.specs.Grammar.{Word, short, long, Row, Row.r_none, Row.r_word, Row.r_bracket}
use Rattle.commands.specs.Spelling.{SpellsWord, SpellsWord.in_short, SpellsWord.in_long, SpellsRow, SpellsRow.s_none, SpellsRow.s_word, SpellsRow.s_kept, SpellsRow.s_dropped}
use Rattle.bits.specs.Bits.{bit}
use Rattle.commands.specs.Cuts.{Cut, cut_nil, cut_append, cut_first, cut_last}

-- place j is in the word of the places from b on
abbrev pub In : ℕ → ℕ → ℕ → Type 0
In m b j = (b ≤ j) × (j < b + 64) × (bit m (j - b) ≡ 1)

-- place j is in the set
abbrev pub On : List ℕ → ℕ → Type 0
On s j = In (get_or s 0 0) 0 j ⊎ (In (get_or s 1 0) 64 j ⊎ In (get_or s 2 0) 128 j)

-- the bytes x, whatever their case, from a place of the set to place j
pub record Lands (x c s : List ℕ) (j : ℕ) : Type 0 where
  pub from : ℕ
  pub spelling : List ℕ
  pub begins : On s from
  pub like : caseless spelling ≡ caseless x
  pub cut : Cut c from spelling j

-- a spelling of the row, from a place of the set to place j
pub record Reach (r : Row) (c s : List ℕ) (j : ℕ) : Type 0 where
  pub from : ℕ
  pub spelling : List ℕ
  pub begins : On s from
  pub spelled : SpellsRow r spelling
  pub cut : Cut c from spelling j

-- no byte but ":" is ":" in the other case
pub upper_colon : (b : ℕ) → upper b ≡ 58 → b ≡ 58
upper_colon b e = go (leb 97 b) (leb b 122) refl e
  where
    go : (l h : Bool) → leb 97 b ≡ l → cond (l && h) (b - 32) b ≡ 58 → b ≡ 58
    go true true p q = omega (arith, leb-true 97 b p)
    go true false p q = q
    go false h p q = q

module _ (c s : List ℕ) (j : ℕ) where
  pub reach_none : On s j ↔ Reach r_none c s j
  reach_none = (λ h. record { from = j; spelling = []; begins = h; spelled = s_none; cut = cut_nil c j }, λ h. back h.from h.spelling h.begins h.spelled h.cut)
    where
      back : (i : ℕ) (u : List ℕ) → On s i → SpellsRow r_none u → Cut c i u j → On s j
      back i u h s_none k = let e : i ≡ j = omega (arith, k.ends) in subst (λ (m : ℕ). On s m) e h

module _ (w : Word) (r : Row) (c s t : List ℕ) (j : ℕ) (step : (k : ℕ) → On t k ↔ (Lands (colon_sign ∷ short w) c s k ⊎ Lands (colon_sign ∷ long w) c s k)) where
  word_on : (i : ℕ) (u : List ℕ) (k : ℕ) → On s i → SpellsWord w u → Cut c i (colon_sign ∷ u) k → On t k
  word_on i u k h (in_short e) z = (step k).1 (inl (record { from = i; spelling = colon_sign ∷ u; begins = h; like = ap (λ (l : List ℕ). colon_sign ∷ l) e; cut = z }))
  word_on i u k h (in_long e) z = (step k).1 (inr (record { from = i; spelling = colon_sign ∷ u; begins = h; like = ap (λ (l : List ℕ). colon_sign ∷ l) e; cut = z }))

  word_in : (i : ℕ) (u : List ℕ) → On s i → SpellsRow (r_word w r) u → Cut c i u j → Reach r c t j
  word_in i x h (s_word {u = u} {v = v} a b) z = record {
    from = i + length (colon_sign ∷ u);
    spelling = v;
    begins = word_on i u (i + length (colon_sign ∷ u)) h a (cut_first c i (colon_sign ∷ u) v j z);
    spelled = b;
    cut = cut_last c i (colon_sign ∷ u) v j z;
  }

  -- what is like a colon and a word is a colon and what is like the word
  word_out : (i k : ℕ) (u v x : List ℕ) → On s i → caseless u ≡ caseless (colon_sign ∷ x) → ((u' : List ℕ) → caseless u' ≡ caseless x → SpellsWord w u')
      → Cut c i u k → SpellsRow r v → Cut c k v j → Reach (r_word w r) c s j
  word_out i k [] v x h e f y b z = absurd (let q : ◌≡◌ {A = ℕ} 0 1 = cc in omega arith)
  word_out i k (a ∷ u) v x h e f y b z =
      let e0 : upper a ≡ colon_sign = cc in
      let e1 : a ≡ colon_sign = upper_colon a e0 in
      let e2 : caseless u ≡ caseless x = cc in
      record {
        from = i;
        spelling = colon_sign ∷ (u ++ v);
        begins = h;
        spelled = s_word (f u e2) b;
        cut = subst (λ (m : ℕ). Cut c i (m ∷ (u ++ v)) j) e1 (cut_append c i (a ∷ u) k v j y z);
      }

  pub reach_word : Reach r c t j ↔ Reach (r_word w r) c s j
  reach_word = (
    λ h. ⊎_elim
        (λ (y : Lands (colon_sign ∷ short w) c s h.from). word_out y.from h.from y.spelling h.spelling (short w) y.begins y.like
        (λ u' e. in_short e) y.cut h.spelled h.cut)
        (λ (y : Lands (colon_sign ∷ long w) c s h.from). word_out y.from h.from y.spelling h.spelling (long w) y.begins y.like (λ u' e. in_long e) y.cut h.spelled h.cut)
        ((step h.from).0 h.begins),
    λ h. word_in h.from h.spelling h.begins h.spelled h.cut,
  )

module _ (q r : Row) (c s t : List ℕ) (j : ℕ) (step : (k : ℕ) → On t k ↔ (On s k ⊎ Reach q c s k)) where
  bracket_in : (i : ℕ) (u : List ℕ) → On s i → SpellsRow (r_bracket q r) u → Cut c i u j → Reach r c t j
  bracket_in i x h (s_kept {u = u} {v = v} a b) z = record {
    from = i + length u;
    spelling = v;
    begins = (step (i + length u)).1 (inr (record { from = i; spelling = u; begins = h; spelled = a; cut = cut_first c i u v j z }));
    spelled = b;
    cut = cut_last c i u v j z;
  }
  bracket_in i x h (s_dropped b) z = record { from = i; spelling = x; begins = (step i).1 (inl h); spelled = b; cut = z }

  pub reach_bracket : Reach r c t j ↔ Reach (r_bracket q r) c s j
  reach_bracket = (
    λ h. ⊎_elim
        (λ (y : On s h.from). record { from = h.from; spelling = h.spelling; begins = y; spelled = s_dropped h.spelled; cut = h.cut })
        (λ (y : Reach q c s h.from). record {
          from = y.from;
          spelling = y.spelling ++ h.spelling;
          begins = y.begins;
          spelled = s_kept y.spelled h.spelled;
          cut = cut_append c y.from y.spelling h.from h.spelling j y.cut h.cut;
        })
        ((step h.from).0 h.begins),
    λ h. bracket_in h.from h.spelling h.begins h.spelled h.cut,
  )
