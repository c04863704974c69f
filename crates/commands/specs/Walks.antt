-- What walking along a row of a pattern with a set of places of a command comes to. Assumes nothing.
use Rattle.std.specs.Prelude.{◌≡◌, refl, ◌⊎◌, ◌↔◌, List, [], ◌∷◌, ◌++◌, ℕ, suc, ◌+◌, ◌-◌, ◌≤◌, ◌<◌, length, get_or, take, drop, Option, Some, None}
use Rattle.std.proofs.Common.{sym, ap, subst, ◌∙◌, inl, inr, ⊎_elim, append_assoc, arith, length-append, drop_of_length-le, drop-cons, drop-drop, take_at}
use Rattle.std.proofs.Math.Logic.{Iff.trans as iff_trans}
use Rattle.std.proofs.Math.Seq.{drop-append_seam}
use Rattle.scpi.specs.Bytes.{colon_sign, query_sign, open_sign, close_sign, Small, All}
use Rattle.scpi.specs.Grammar.{Word, short, long, Row, Row.r_none, Row.r_word, Row.r_bracket, text, Filled, Within}
use Rattle.scpi.specs.Automaton.{scan, State.a_first, State.a_opened, State.a_closed}
use Rattle.scpi.specs.Scans.{path_stay, path_colon, path_open, row_closed}
use Rattle.commands.specs.declared.matching.Walk.{Walk}
use Rattle.commands.specs.Sets.{On, Lands, Reach, reach_none, reach_word, reach_bracket}
use Rattle.scpi.specs.Answers.{lt_or_ge}
use Rattle.scpi.specs.Words.{leading, leading_all, part, HeadNot}

-- what may follow a row: nothing, "?" or "]"
abbrev pub Ends : List ℕ → Type 0
Ends [] = Unit {0}
Ends (b ∷ bs) = (b ≡ query_sign) ⊎ (b ≡ close_sign)

-- no letter follows a word
abbrev pub NoLetter : List ℕ → Type 0
NoLetter l = HeadNot 65 90 l × HeadNot 97 122 l

pub no_letter : (r : Row) (rest : List ℕ) → Ends rest → NoLetter (text r ++ rest)
no_letter r_none [] h = (tt, tt)
no_letter r_none (b ∷ bs) h = ⊎_elim (λ (e : b ≡ query_sign). (λ z. omega arith, λ z. omega arith)) (λ (e : b ≡ close_sign). (λ z. omega arith, λ z. omega arith)) h
no_letter (r_word w r) rest h = (λ z. omega arith, λ z. omega arith)
no_letter (r_bracket s r) rest h = (λ z. omega arith, λ z. omega arith)

-- the word w stands in p from b on, with t behind it: where it ends, and its bytes from an earlier place a on
module _ (p : List ℕ) (b : ℕ) (w : Word) (t : List ℕ) (here : drop b p ≡ long w ++ t) (n : NoLetter t) where
  caps_not : (ss : List ℕ) → All Small ss → HeadNot 65 90 (ss ++ t)
  caps_not [] h = n.0
  caps_not (x ∷ xs) h = λ z. omega arith

  there : drop b p ≡ short w ++ (w.smalls ++ t)
  there = here ∙ append_assoc (short w) w.smalls t

  pub word_caps : b + leading 65 90 (drop b p) ≡ b + length (short w)
  word_caps = rw there (ap (λ (m : ℕ). b + m) (leading_all 65 90 (short w) (w.smalls ++ t) (w.is_capital, w.are_capitals) (caps_not w.smalls w.are_small)))

  module _ (m : ℕ) (em : m ≡ b + leading 65 90 (drop b p)) where
    at_caps : m ≡ b + length (short w)
    at_caps = em ∙ word_caps

    pub behind_caps : drop m p ≡ w.smalls ++ t
    behind_caps = rw (at_caps, ← drop-drop, there) (drop-append_seam (short w) (w.smalls ++ t))

    module _ (e : ℕ) (ee : e ≡ m + leading 97 122 (drop m p)) where
      at_end : e ≡ m + length w.smalls
      at_end = ee ∙ rw behind_caps (ap (λ (k : ℕ). m + k) (leading_all 97 122 w.smalls t w.are_small n.1))

      pub behind_word : drop e p ≡ t
      behind_word = rw (at_end, ← drop-drop, behind_caps) (drop-append_seam w.smalls t)

      pub part_short : (a : ℕ) (pre : List ℕ) → drop a p ≡ pre ++ (long w ++ t) → b ≡ a + length pre → part a m p ≡ pre ++ short w
      part_short a pre d f =
          let g : length (pre ++ short w) ≡ m - a = let l : length (pre ++ short w) ≡ length pre + length (short w) = length-append pre (short w) in omega (arith, at_caps) in
          let s : drop a p ≡ (pre ++ short w) ++ (w.smalls ++ t) = d ∙ ap (λ (l : List ℕ). pre ++ l) (append_assoc (short w) w.smalls t) ∙ sym (append_assoc pre (short w) (w.smalls ++ t)) in
          ap (take (m - a)) s ∙ take_at (pre ++ short w) (w.smalls ++ t) (m - a) g

      pub part_long : (a : ℕ) (pre : List ℕ) → drop a p ≡ pre ++ (long w ++ t) → b ≡ a + length pre → part a e p ≡ pre ++ long w
      part_long a pre d f =
          let g : length (pre ++ long w) ≡ e - a =
          let l : length (pre ++ long w) ≡ length pre + length (long w) = length-append pre (long w) in
          let l' : length (long w) ≡ length (short w) + length w.smalls = length-append (short w) w.smalls in
          omega (arith, at_caps, at_end) in
          let s : drop a p ≡ (pre ++ long w) ++ t = d ∙ sym (append_assoc pre (long w) t) in
          ap (take (e - a)) s ∙ take_at (pre ++ long w) t (e - a) g

-- an item of a row begins at `at`
abbrev pub Item : List ℕ → ℕ → Type 0
Item p at = (get_or p at 0 ≡ colon_sign) ⊎ (get_or p at 0 ≡ open_sign)

-- the walk along a row inside d brackets, from place `at` of p and the set s, to place `to` and the set t: behind the end of p where the reading is bad
pub record Walked (d : ℕ) (p : List ℕ) (at : ℕ) (c s : List ℕ) (to : ℕ) (t : List ℕ) : Type 0 where
  pub onward : at ≤ to
  pub inside : to ≤ length p + 1
  pub item : at < to → Item p at
  pub read : to ≤ length p → scan (a_closed d) (drop at p) at ≡ scan (a_closed d) (drop to p) to
  pub row : at ≤ length p → (r : Row) (rest : List ℕ) → Within d r → Ends rest → drop at p ≡ text r ++ rest
      → (to ≤ length p) × (drop to p ≡ rest) × ((j : ℕ) → On t j ↔ Reach r c s j)

-- the same behind "[", inside d other brackets: the row is kept or dropped
pub record Bracketed (d : ℕ) (p : List ℕ) (at : ℕ) (c s : List ℕ) (to : ℕ) (t : List ℕ) : Type 0 where
  pub onward : at ≤ to
  pub inside : to ≤ length p + 1
  pub read : to ≤ length p → scan (a_opened (suc d)) (drop at p) at ≡ scan (a_closed d) (drop to p) to
  pub row : (r : Row) (rest : List ℕ) → Filled r → Within (suc d) r → drop at p ≡ text r ++ (close_sign ∷ rest)
      → (to ≤ length p) × (drop to p ≡ rest) × ((j : ℕ) → On t j ↔ (On s j ⊎ Reach r c s j))

-- a colon and a word stand at `at`: behind them the set is where its short or its long form ends
pub record Worded (p : List ℕ) (at : ℕ) (c s : List ℕ) (to : ℕ) (t : List ℕ) : Type 0 where
  pub caps : ℕ
  pub onward : at < to
  pub inside : to ≤ length p + 1
  pub caps_end : caps ≡ at + 1 + leading 65 90 (drop (at + 1) p)
  pub read : to ≤ length p → (d : ℕ) → scan (a_first d) (drop (at + 1) p) (at + 1) ≡ scan (a_closed d) (drop to p) to
  pub word : at + 1 < caps → (to ≤ length p) × (to ≡ caps + leading 97 122 (drop caps p)) × ((k : ℕ) → On t k ↔ (Lands (part at caps p) c s k ⊎ Lands (part at to p) c s k))

-- an item of a row begins at `at`, where `left` brackets may still be opened
abbrev pub ItemAt : ℕ → List ℕ → ℕ → Type 0
ItemAt left p at = (at < length p) × ((get_or p at 0 ≡ colon_sign) ⊎ ((get_or p at 0 ≡ open_sign) × (0 < left)))

clash : {X : Type 0} (a b : ℕ) (l k : List ℕ) → a ∷ l ≡ b ∷ k → (a ≡ b → ⊥) → X
clash a b l k e f = absurd (f (let g : a ≡ b = cc in g))

-- nothing to walk along: the end, or a byte that begins no item here
pub walk_stay : (d : ℕ) (p : List ℕ) (at : ℕ) (c s : List ℕ) → at ≤ length p + 1
    → ((b : ℕ) (l : List ℕ) → drop at p ≡ b ∷ l → (b ≡ colon_sign → ⊥) × (b ≡ open_sign → d < 8 → ⊥)) → Walked d p at c s at s
walk_stay d p at c s h f = record { onward = omega arith; inside = h; item = λ l. absurd (omega arith); read = λ l. refl; row = go }
  where
    go : at ≤ length p → (r : Row) (rest : List ℕ) → Within d r → Ends rest → drop at p ≡ text r ++ rest → (at ≤ length p) × (drop at p ≡ rest) × ((j : ℕ) → On s j ↔ Reach r c s j)
    go l r_none rest w n e = (l, e, λ j. reach_none c s j)
    go l (r_word w r) rest n m e = absurd ((f colon_sign ((long w ++ text r) ++ rest) e).0 refl)
    go l (r_bracket q r) rest n m e = absurd ((f open_sign ((text q ++ (close_sign ∷ text r)) ++ rest) e).1 refl n.0)

module _ (d : ℕ) (p : List ℕ) (at : ℕ) (c s : List ℕ) (h : at < length p) (to : ℕ) (u : List ℕ) where
  tail_at : (b : ℕ) (l : List ℕ) → drop at p ≡ b ∷ l → drop (at + 1) p ≡ l
  tail_at b l e = sym (drop-drop 1 at p) ∙ ap (drop 1) e

  -- a colon and a word, and the walk behind it
  pub walk_word : (e : ℕ) (t : List ℕ) → get_or p at 0 ≡ colon_sign → Worded p at c s e t → Walked d p e c t to u → Walked d p at c s to u
  walk_word e t b k w = record {
    onward = omega (arith, k.onward, w.onward);
    inside = w.inside;
    item = λ l. inl b;
    read = λ l. path_colon d p at h b ∙ k.read (omega (arith, w.onward)) d ∙ w.read l;
    row = λ l. go;
  }
    where
      here : drop at p ≡ colon_sign ∷ drop (suc at) p
      here = rw b at (drop-cons p at 0 h)

      go : (r : Row) (rest : List ℕ) → Within d r → Ends rest → drop at p ≡ text r ++ rest → (to ≤ length p) × (drop to p ≡ rest) × ((j : ℕ) → On u j ↔ Reach r c s j)
      go r_none [] n m e = let z : colon_sign ∷ drop (suc at) p ≡ [] = sym here ∙ e in absurd (let y : ◌≡◌ {A = ℕ} 0 1 = cc in omega arith)
      go r_none (x ∷ xs) n m e = clash colon_sign x (drop (suc at) p) xs (sym here ∙ e) (λ y. ⊎_elim (λ (z : x ≡ query_sign). omega arith) (λ (z : x ≡ close_sign). omega arith) m)
      go (r_bracket q r) rest n m e = clash colon_sign open_sign (drop (suc at) p) ((text q ++ (close_sign ∷ text r)) ++ rest) (sym here ∙ e) (λ y. omega arith)
      go (r_word v r) rest n f q =
          let m : ℕ = k.caps in
          let em : m ≡ at + 1 + leading 65 90 (drop (at + 1) p) = k.caps_end in
          let q' : drop at p ≡ colon_sign ∷ (long v ++ (text r ++ rest)) = q ∙ ap (λ (l : List ℕ). colon_sign ∷ l) (append_assoc (long v) (text r) rest) in
          let there : drop (at + 1) p ≡ long v ++ (text r ++ rest) = tail_at colon_sign (long v ++ (text r ++ rest)) q' in
          let nl : NoLetter (text r ++ rest) = no_letter r rest f in
          let y = k.word (omega (arith, em, word_caps p (at + 1) v (text r ++ rest) there nl)) in
          let ee : e ≡ m + leading 97 122 (drop m p) = y.1 in
          let x = w.row y.0 r rest n f (behind_word p (at + 1) v (text r ++ rest) there nl m em e ee) in
          let ps : part at m p ≡ colon_sign ∷ short v = part_short p (at + 1) v (text r ++ rest) there nl m em e ee at (colon_sign ∷ []) q' refl in
          let pl : part at e p ≡ colon_sign ∷ long v = part_long p (at + 1) v (text r ++ rest) there nl m em e ee at (colon_sign ∷ []) q' refl in
          let st : (k : ℕ) → On t k ↔ (Lands (colon_sign ∷ short v) c s k ⊎ Lands (colon_sign ∷ long v) c s k) =
          subst (λ (a : List ℕ). (k : ℕ) → On t k ↔ (Lands (colon_sign ∷ short v) c s k ⊎ Lands a c s k)) pl
          (subst (λ (a : List ℕ). (k : ℕ) → On t k ↔ (Lands a c s k ⊎ Lands (part at e p) c s k)) ps y.2) in
          (x.0, x.1, λ j. iff_trans (x.2 j) (reach_word v r c s t j st))

  -- a bracket, and the walk behind it
  pub walk_bracket : (i : ℕ) (t : List ℕ) → get_or p at 0 ≡ open_sign → d < 8 → Bracketed d p (at + 1) c s i t → Walked d p i c t to u → Walked d p at c s to u
  walk_bracket i t b o k w = record {
    onward = omega (arith, k.onward, w.onward);
    inside = w.inside;
    item = λ l. inr b;
    read = λ l. path_open d p at h b o ∙ k.read (omega (arith, w.onward)) ∙ w.read l;
    row = λ l. go;
  }
    where
      here : drop at p ≡ open_sign ∷ drop (suc at) p
      here = rw b at (drop-cons p at 0 h)

      go : (r : Row) (rest : List ℕ) → Within d r → Ends rest → drop at p ≡ text r ++ rest → (to ≤ length p) × (drop to p ≡ rest) × ((j : ℕ) → On u j ↔ Reach r c s j)
      go r_none [] n m e = let z : open_sign ∷ drop (suc at) p ≡ [] = sym here ∙ e in absurd (let y : ◌≡◌ {A = ℕ} 0 1 = cc in omega arith)
      go r_none (x ∷ xs) n m e = clash open_sign x (drop (suc at) p) xs (sym here ∙ e) (λ y. ⊎_elim (λ (z : x ≡ query_sign). omega arith) (λ (z : x ≡ close_sign). omega arith) m)
      go (r_word v r) rest n m e = clash open_sign colon_sign (drop (suc at) p) ((long v ++ text r) ++ rest) (sym here ∙ e) (λ y. omega arith)
      go (r_bracket q r) rest n f e =
          let e' : drop (at + 1) p ≡ text q ++ (close_sign ∷ (text r ++ rest)) = tail_at open_sign ((text q ++ (close_sign ∷ text r)) ++ rest) e ∙ append_assoc (text q) (close_sign ∷ text r) rest in
          let y = k.row q (text r ++ rest) n.1 n.2 e' in
          let x = w.row y.0 r rest n.3 f y.1 in
          (x.0, x.1, λ j. iff_trans (x.2 j) (reach_bracket q r c s t j y.2))

-- "]" stands at i, behind a row from `at` on that is not empty
abbrev pub Closes : List ℕ → ℕ → ℕ → Type 0
Closes p at i = (i < length p) × (get_or p i 0 ≡ close_sign) × (i ≡ at → ⊥)

head_at : (p : List ℕ) (i b : ℕ) (l : List ℕ) → drop i p ≡ b ∷ l → (i < length p) × (get_or p i 0 ≡ b)
head_at p i b l e = ⊎_elim
    (λ (o : i < length p). let g : get_or p i 0 ∷ drop (suc i) p ≡ b ∷ l = sym (drop-cons p i 0 o) ∙ e in (o, let q : get_or p i 0 ≡ b = cc in q))
    (λ (o : length p ≤ i). let g : [] ≡ b ∷ l = sym (drop_of_length-le p o) ∙ e in absurd (let z : ◌≡◌ {A = ℕ} 0 1 = cc in omega arith))
    (lt_or_ge i (length p))

-- behind "[": the walk along the row, the union of the sets, and "]"
module _ (d : ℕ) (p : List ℕ) (at : ℕ) (c s : List ℕ) (i : ℕ) (t : List ℕ) (h : at ≤ length p) (w : Walked (suc d) p at c s i t) where
  pub bracket_close : (u : List ℕ) → ((j : ℕ) → On u j ↔ (On s j ⊎ On t j)) → Closes p at i → Bracketed d p at c s (i + 1) u
  bracket_close u both k = record {
    onward = omega (arith, w.onward);
    inside = omega (arith, k.0);
    read = λ l. closed.2;
    row = λ r rest f n e.
        let x = w.row h r (close_sign ∷ rest) n (inr refl) e in (
          omega (arith, k.0),
          sym (drop-drop 1 i p) ∙ ap (drop 1) x.1,
          λ j. (
            λ y. ⊎_elim (λ (z : On s j). inl z) (λ (z : On t j). inr ((x.2 j).0 z)) ((both j).0 y),
            λ y. (both j).1
                (⊎_elim (λ (z : On s j). inl z) (λ (z : Reach r c s j). inr ((x.2 j).1 z)) y),
          ),
        );
  }
    where
      begun : at < i
      begun = omega (arith, w.onward, k.2)

      ended : i ≤ length p
      ended = omega (arith, k.0)

      closed : (at ≤ i + 1) × (i + 1 ≤ length p) × (scan (a_opened (suc d)) (drop at p) at ≡ scan (a_closed d) (drop (i + 1) p) (i + 1))
      closed =
          row_closed d p at (omega (arith, begun, k.0)) (w.item begun) i
          (w.onward, ended, (path_stay (suc d) p i k.0 (λ e. omega (arith, k.1)) (λ e. omega (arith, k.1))).2, w.read ended)
          k.0 k.1

  -- no row, or no "]" behind it: the pattern is bad
  pub bracket_open : (Closes p at i → ⊥) → Bracketed d p at c s (length p + 1) s
  bracket_open f = record { onward = omega arith; inside = omega arith; read = λ l. absurd (omega arith); row = λ r rest k n e. absurd (go r rest k n e) }
    where
      filled : (r : Row) (rest : List ℕ) → Filled r → close_sign ∷ rest ≡ text r ++ (close_sign ∷ rest) → ⊥
      filled r_none rest k e = k
      filled (r_word v r) rest k e = let g : close_sign ≡ colon_sign = cc in omega arith
      filled (r_bracket q r) rest k e = let g : close_sign ≡ open_sign = cc in omega arith

      go : (r : Row) (rest : List ℕ) → Filled r → Within (suc d) r → drop at p ≡ text r ++ (close_sign ∷ rest) → ⊥
      go r rest k n e =
          let x = w.row h r (close_sign ∷ rest) n (inr refl) e in
          let y = head_at p i close_sign rest x.1 in
          f (y.0, y.1, λ q. filled r rest k (sym x.1 ∙ ap (λ (m : ℕ). drop m p) q ∙ e))

-- where a walk came to, and with which set: where the pattern is bad it is one behind its end, and the set is the one before
abbrev pub to_of : List ℕ → Option Walk → ℕ
to_of p None = length p + 1
to_of p (Some w) = w.at

abbrev pub set_of : List ℕ → Option Walk → List ℕ
set_of s None = s
set_of s (Some w) = w.on

-- where it is bad no set is promised
pub walked_bad : (d : ℕ) (p : List ℕ) (at : ℕ) (c s t u : List ℕ) → Walked d p at c s (length p + 1) t → Walked d p at c s (length p + 1) u
walked_bad d p at c s t u w = record { onward = w.onward; inside = w.inside; item = w.item; read = w.read; row = λ l r rest n m e. absurd (omega (arith, (w.row l r rest n m e).0)) }

pub shallower : (l : ℕ) → 8 - l < 8 → l ≤ 8 → 0 < l
shallower l h k = omega arith

-- ---- item by item: what is walked from a later place on is walked from the first on
abbrev pub Leads : ℕ → List ℕ → ℕ → List ℕ → List ℕ → ℕ → List ℕ → Type 0
Leads d p at c s i t = (to : ℕ) (u : List ℕ) → Walked d p i c t to u → Walked d p at c s to u

module _ (d : ℕ) (p : List ℕ) (at : ℕ) (c s : List ℕ) (i : ℕ) (t : List ℕ) (so_far : Leads d p at c s i t) (h : i < length p) (j : ℕ) (v : List ℕ) where
  pub leads_word : get_or p i 0 ≡ colon_sign → Worded p i c t j v → Leads d p at c s j v
  leads_word b w to u k = so_far to u (walk_word d p i c t h to u j v b w k)

  pub leads_bracket : get_or p i 0 ≡ open_sign → d < 8 → Bracketed d p (i + 1) c t j v → Leads d p at c s j v
  leads_bracket b o w to u k = so_far to u (walk_bracket d p i c t h to u j v b o w k)

-- where no item begins the walk ends
pub leads_end : (l : ℕ) (p : List ℕ) (at : ℕ) (c s : List ℕ) (i : ℕ) (t : List ℕ) → l ≤ 8 → i ≤ length p + 1 → (ItemAt l p i → ⊥) → Leads (8 - l) p at c s i t → Walked (8 - l) p at c s i t
leads_end l p at c s i t m h n f = f i t (walk_stay (8 - l) p i c t h stays)
  where
    stays : (b : ℕ) (k : List ℕ) → drop i p ≡ b ∷ k → (b ≡ colon_sign → ⊥) × (b ≡ open_sign → 8 - l < 8 → ⊥)
    stays b k e = let o = head_at p i b k e in (λ x. n (o.0, inl (o.1 ∙ x)), λ x y. n (o.0, inr (o.1 ∙ x, shallower l y m)))

pub item_open : (l : ℕ) (p : List ℕ) (i : ℕ) → ItemAt l p i → (get_or p i 0 ≡ colon_sign → ⊥) → (get_or p i 0 ≡ open_sign) × (0 < l)
item_open l p i h n = ⊎_elim (λ (x : get_or p i 0 ≡ colon_sign). absurd (n x)) (λ (x : (get_or p i 0 ≡ open_sign) × (0 < l)). x) h.1
