-- Where a spelling of bytes begins and ends in a command, and where the spellings from a set of places end. Assumes nothing.
use Rattle.std.specs.Prelude.{◌≡◌, refl, ◌⊎◌, ◌↔◌, Bool, true, false, cond, List, [], ◌∷◌, ◌++◌, ℕ, ◌+◌, ◌-◌, ◌≤◌, ◌<◌, eqb, length, take, drop}
use Rattle.std.proofs.Common.{sym, ap, ◌∙◌, inl, inr, ⊎_elim, arith, length-drop, drop-drop, take-add, ne_eqb}
use Rattle.scpi.specs.Bytes.{between, upper}
use Rattle.scpi.specs.Words.{between_true, between_no, starts, part, length_part, begins_starts, starts_begins, like_length}
use Rattle.commands.specs.Places.{none, none_on, origin, origin_with}
use Rattle.commands.specs.Sets.{On, Lands}

-- the bytes x, whatever their case, from place i to place k
abbrev pub From : List ℕ → List ℕ → ℕ → ℕ → Type 0
From x c i k = (k ≡ i + length x) × (starts x (drop i c) ≡ true)

-- what begins with x is no shorter
pub starts_length : (x l : List ℕ) → starts x l ≡ true → length x ≤ length l
unfolding starts
starts_length [] l e = omega arith
starts_length (x ∷ xs) [] e = absurd (let z : ◌≡◌ {A = ℕ} 0 1 = cc in omega arith)
starts_length (x ∷ xs) (y ∷ ys) e = go (eqb (upper x) (upper y)) e (starts_length xs ys)
  where
    go : (t : Bool) → cond t (starts xs ys) false ≡ true → (starts xs ys ≡ true → length xs ≤ length ys) → length (x ∷ xs) ≤ length (y ∷ ys)
    go true f g = omega (arith, g f)
    go false f g = absurd (let z : ◌≡◌ {A = ℕ} 0 1 = cc in omega arith)

-- a sign before the letters is like no other byte
pub sign_differs : (x y : ℕ) → x < 65 → (x ≡ y → ⊥) → eqb (upper x) (upper y) ≡ false
sign_differs x y l n = go (between 97 122 y) refl
  where
    own : upper x ≡ x
    own = ap (λ (t : Bool). cond t (x - 32) x) (between_no 97 122 x (λ z. omega (arith, z.0)))

    go : (t : Bool) → between 97 122 y ≡ t → eqb (upper x) (upper y) ≡ false
    go true e =
        let b = between_true 97 122 y e in
        let u : upper y ≡ y - 32 = rw e in
        ne_eqb _ _ (λ q. let k : x ≡ y - 32 = sym own ∙ q ∙ u in omega (arith, b.0))
    go false e = let u : upper y ≡ y = rw e in ne_eqb _ _ (λ q. n (sym own ∙ q ∙ u))

-- x and then y
starts_append : (x y l : List ℕ) → starts (x ++ y) l ≡ cond (starts x l) (starts y (drop (length x) l)) false
unfolding starts
starts_append [] y l = refl
starts_append (x ∷ xs) y [] = refl
starts_append (x ∷ xs) y (z ∷ l) = go (eqb (upper x) (upper z)) (starts_append xs y l)
  where
    go : (t : Bool) → starts (xs ++ y) l ≡ cond (starts xs l) (starts y (drop (length xs) l)) false →
        cond t (starts (xs ++ y) l) false ≡ cond (cond t (starts xs l) false) (starts y (drop (length xs) l)) false
    go true h = h
    go false h = refl

module _ (p c : List ℕ) (a m e i : ℕ) (l : a ≤ m) (k : m ≤ e) (n : e ≤ length p) where
  parts : part a e p ≡ part a m p ++ part m e p
  parts =
      let f : e - a ≡ (m - a) + (e - m) = omega arith in
      let g : a + (m - a) ≡ m = omega arith in
      ap (λ (x : ℕ). take x (drop a p)) f ∙ take-add (m - a) (e - m) (drop a p) ∙ ap (λ (x : List ℕ). part a m p ++ take (e - m) x) (drop-drop (m - a) a p ∙ ap (λ (x : ℕ). drop x p) g)

  long_starts : starts (part a e p) (drop i c) ≡ cond (starts (part a m p) (drop i c)) (starts (part m e p) (drop (i + (m - a)) c)) false
  long_starts =
      ap (λ (x : List ℕ). starts x (drop i c)) parts ∙ starts_append (part a m p) (part m e p) (drop i c)
      ∙ ap (λ (x : List ℕ). cond (starts (part a m p) (drop i c)) (starts (part m e p) x) false) (ap (λ (x : ℕ). drop x (drop i c)) (length_part a m p (omega arith)) ∙ drop-drop (m - a) i c)

  pub long_on : starts (part a m p) (drop i c) ≡ true → starts (part a e p) (drop i c) ≡ starts (part m e p) (drop (i + (m - a)) c)
  long_on h = long_starts ∙ rw h

  pub long_not : starts (part a m p) (drop i c) ≡ false → starts (part a e p) (drop i c) ≡ false
  long_not h = long_starts ∙ rw h

  -- nothing begins behind the end
  pub from_behind : length c ≤ i → a < m → (j : ℕ) → From (part a m p) c i j → ⊥
  from_behind b h j f =
      let d : length (drop i c) ≡ length c - i = length-drop i c in
      omega (arith, starts_length (part a m p) (drop i c) f.1, length_part a m p (omega arith))

-- the set u has place i more than v: so much more it lands
module _ (x c u v : List ℕ) (i : ℕ) (taken : (k : ℕ) → On u k ↔ (On v k ⊎ (k ≡ i))) (k : ℕ) where
  lands_one : (h : Lands x c u k) → h.from ≡ i → From x c i k
  lands_one h e = (
    let n : length h.spelling ≡ length x = like_length h.spelling x h.like in omega (arith, h.cut.ends),
    starts_begins x (drop i c) (record { spelling = h.spelling; rest = h.cut.rest; split = rw e at h.cut.split; like = h.like }),
  )

  one_lands : From x c i k → Lands x c u k
  one_lands f =
      let b = begins_starts x (drop i c) f.1 in
      let n : length b.spelling ≡ length x = like_length b.spelling x b.like in
      record { from = i; spelling = b.spelling; begins = (taken i).1 (inr refl); like = b.like; cut = record { rest = b.rest; split = b.split; ends = omega (arith, f.0) } }

  pub lands_taken : Lands x c u k ↔ (Lands x c v k ⊎ From x c i k)
  lands_taken = (
    λ h. ⊎_elim
        (λ (y : On v h.from). inl (record { from = h.from; spelling = h.spelling; begins = y; like = h.like; cut = h.cut }))
        (λ (y : h.from ≡ i). inr (lands_one h y))
        ((taken h.from).0 h.begins),
    λ h. ⊎_elim
        (λ (y : Lands x c v k). record { from = y.from; spelling = y.spelling; begins = (taken y.from).1 (inl y.begins); like = y.like; cut = y.cut })
        one_lands
        h,
  )

-- where the short form x or the long form y ends that begins in the set
abbrev pub Either : List ℕ → List ℕ → List ℕ → List ℕ → ℕ → Type 0
Either x y c s k = Lands x c s k ⊎ Lands y c s k

abbrev pub Spread : List ℕ → List ℕ → List ℕ → ℕ → List ℕ → List ℕ → Type 0
Spread x y c i t r = (k : ℕ) → On r k ↔ (On t k ⊎ (From x c i k ⊎ From y c i k))

-- what has landed, and what will from the places that are left
abbrev pub Landing : List ℕ → List ℕ → List ℕ → List ℕ → List ℕ → List ℕ → Type 0
Landing x y c s t u = (k : ℕ) → (On t k ⊎ Either x y c u k) ↔ Either x y c s k

module _ (x y c s : List ℕ) where
  nothing_lands : (u : List ℕ) → ((j : ℕ) → On u j → ⊥) → (k : ℕ) → Either x y c u k → ⊥
  nothing_lands u n k h = ⊎_elim (λ (a : Lands x c u k). n a.from a.begins) (λ (a : Lands y c u k). n a.from a.begins) h

  pub landing_first : (u : List ℕ) → ((j : ℕ) → On u j ↔ On s j) → Landing x y c s none u
  landing_first u e k = (
    λ h. ⊎_elim (λ (n : On none k). absurd (none_on k n)) (λ (z : Either x y c u k). ⊎_elim (λ (a : Lands x c u k). inl (there x a)) (λ (a : Lands y c u k). inr (there y a)) z) h,
    λ h. inr (⊎_elim (λ (a : Lands x c s k). inl (back x a)) (λ (a : Lands y c s k). inr (back y a)) h),
  )
    where
      there : (z : List ℕ) → Lands z c u k → Lands z c s k
      there z a = record { from = a.from; spelling = a.spelling; begins = (e a.from).0 a.begins; like = a.like; cut = a.cut }

      back : (z : List ℕ) → Lands z c s k → Lands z c u k
      back z a = record { from = a.from; spelling = a.spelling; begins = (e a.from).1 a.begins; like = a.like; cut = a.cut }

  pub landing_more : (t u v r : List ℕ) (i : ℕ) → ((k : ℕ) → On u k ↔ (On v k ⊎ (k ≡ i))) → Spread x y c i t r → Landing x y c s t u → Landing x y c s r v
  landing_more t u v r i taken spread so_far k =
      let fx = lands_taken x c u v i taken k in
      let fy = lands_taken y c u v i taken k in (
        λ h. (so_far k).0 (⊎_elim
            (λ (o : On r k). ⊎_elim (λ (a : On t k). inl a) (λ (z : From x c i k ⊎ From y c i k). inr
            (⊎_elim (λ (a : From x c i k). inl (fx.1 (inr a))) (λ (a : From y c i k). inr (fy.1 (inr a))) z)) ((spread k).0 o))
            (λ (z : Either x y c v k). inr (⊎_elim (λ (a : Lands x c v k). inl (fx.1 (inl a))) (λ (a : Lands y c v k). inr (fy.1 (inl a))) z))
            h),
        λ h. ⊎_elim
            (λ (a : On t k). inl ((spread k).1 (inl a)))
            (λ (z : Either x y c u k). ⊎_elim
            (λ (a : Lands x c u k). ⊎_elim (λ (b : Lands x c v k). inr (inl b)) (λ (b : From x c i k). inl ((spread k).1 (inr (inl b)))) (fx.0 a))
            (λ (a : Lands y c u k). ⊎_elim (λ (b : Lands y c v k). inr (inr b)) (λ (b : From y c i k). inl ((spread k).1 (inr (inr b)))) (fy.0 a))
            z)
            ((so_far k).1 h),
      )

  pub landing_last : (t u : List ℕ) → ((j : ℕ) → On u j → ⊥) → Landing x y c s t u → (k : ℕ) → On t k ↔ Either x y c s k
  landing_last t u n so_far k = (
    λ h. (so_far k).0 (inl h),
    λ h. ⊎_elim (λ (a : On t k). a) (λ (z : Either x y c u k). absurd (nothing_lands u n k z)) ((so_far k).1 h),
  )

-- from place 0 alone
pub landing_origin : (x y c r : List ℕ) → Spread x y c 0 none r → (k : ℕ) → On r k ↔ Either x y c origin k
landing_origin x y c r f = landing_last x y c origin r none none_on (landing_more x y c origin none origin none r 0 origin_with f (landing_first x y c origin origin (λ j. (λ h. h, λ h. h))))
