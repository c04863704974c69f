-- Tables in a flat list of words: n rows of k words from word b on, each read by `of`. What a store does to such a table, for any
-- table, row and field. Assumes nothing.
use Rattle.std.specs.Prelude.{◌≡◌, ◌⊎◌, get_or, take, drop}
use Rattle.std.proofs.Math.Path.{refl, sym, ap}
use Rattle.std.proofs.Common.{◌∙◌, zero-add, length-take, length-drop, get_or-take, get_or-drop, drop-set-lt}
use Rattle.std.proofs.Math.Logic.{inl, inr, ⊎_elim}
use mathlib.Core.List.{List, [], ◌∷◌}
use Prim.Native.Nat.{ℕ, zero, suc, ◌+◌, ◌*◌, ◌-◌, ◌≤◌, ◌<◌}
use Rattle.std.proofs.Math.Nat.{mul-le-mul_right}
use native.Mathlib.Omega.{arith}
use Rattle.std.proofs.Math.ListN.{length, set}
use Rattle.std.proofs.lemmas.List.{drop-set-add, take-set-le}
use Rattle.std.proofs.Math.Seq.{take-set-lt}
use Rattle.state.specs.Table.{tab, tab_same, tab_set, get_d_tab, apart}

-- the element at i changed by f, if there is one
unfoldable pub upd : {A : Type 0} → List A → ℕ → (A → A) → List A
upd [] i f = []
upd (x ∷ xs) zero f = f x ∷ xs
upd (x ∷ xs) (suc i) f = x ∷ upd xs i f

module _ {A : Type 0} where
  -- two changes of one element are one, with no condition
  pub upd_upd : (l : List A) (i : ℕ) (f g : A → A) → upd (upd l i f) i g ≡ upd l i (λ (x : A). g (f x))
  unfolding upd
  upd_upd [] i f g = refl
  upd_upd (x ∷ xs) zero f g = refl
  upd_upd (x ∷ xs) (suc i) f g = ap (λ (l : List A). x ∷ l) (upd_upd xs i f g)

  -- a change that changes nothing
  pub upd_same : (l : List A) (i : ℕ) → upd l i (λ (x : A). x) ≡ l
  unfolding upd
  upd_same [] i = refl
  upd_same (x ∷ xs) zero = refl
  upd_same (x ∷ xs) (suc i) = ap (λ (l : List A). x ∷ l) (upd_same xs i)

  -- a change as the model writes it
  pub upd_set : (l : List A) (i : ℕ) (d : A) (f : A → A) → set l i (f (get_or l i d)) ≡ upd l i f
  unfolding upd
  upd_set [] i d f = refl
  upd_set (x ∷ xs) zero d f = refl
  upd_set (x ∷ xs) (suc i) d f = ap (λ (l : List A). x ∷ l) (upd_set xs i d f)

-- the k words from a on
abbrev pub part : List ℕ → ℕ → ℕ → List ℕ
part w a k = take k (drop a w)

-- a part that a store is in, and one that it is not in
pub part_set : (w : List ℕ) (a k f v : ℕ) → f < k → part (set w (a + f) v) a k ≡ set (part w a k) f v
part_set w a k f v h = ap (take k) (drop-set-add a w f v) ∙ take-set-lt k (drop a w) f v h

pub part_off : (w : List ℕ) (a v c k : ℕ) → (c + k ≤ a) ⊎ (a < c) → part (set w a v) c k ≡ part w c k
part_off w a v c k =
    ⊎_elim
    (λ (l : c + k ≤ a).
    let m : ℕ = a - c in
    let e : a ≡ c + m = omega arith in
    ap (λ (x : ℕ). part (set w x v) c k) e ∙ ap (take k) (drop-set-add c w m v) ∙ take-set-le k (drop c w) m v (omega arith))
    (λ (l : a < c). ap (take k) (drop-set-lt c w a v l))

pub word_of : (w : List ℕ) (a k j : ℕ) → j < k → get_or (part w a k) j 0 ≡ get_or w (a + j) 0
word_of w a k j h = get_or-take k (drop a w) j 0 h ∙ get_or-drop a w j 0

pub length_part : (w : List ℕ) (a k : ℕ) → a + k ≤ length w → length (part w a k) ≡ k
length_part w a k h = simp (length-take, length-drop) (omega arith)

module _ {R : Type 0} (of : List ℕ → R) (b k n : ℕ) where
  unfoldable pub grid : List ℕ → List R
  grid w = tab (λ (i : ℕ). of (part w (b + i * k) k)) 0 n

  pub get_d_grid : (w : List ℕ) (i : ℕ) (d : R) → i < n → get_or (grid w) i d ≡ of (part w (b + i * k) k)
  unfolding grid
  get_d_grid w i d h =
      get_d_tab (λ (i : ℕ). of (part w (b + i * k) k)) 0 n i d h ∙ ap (λ (j : ℕ). of (part w (b + j * k) k)) (zero-add i)

  -- a word of row i is stored, and that changes what the row is read as by g
  pub grid_set : (w : List ℕ) (i f v : ℕ) (g : R → R) → ((r : List ℕ) → length r ≡ k → of (set r f v) ≡ g (of r)) → i < n → f < k → b + n * k ≤ length w
      → grid (set w (b + i * k + f) v) ≡ upd (grid w) i g
  unfolding grid
  grid_set w i f v g e h l r =
      let m : suc i * k ≤ n * k = mul-le-mul_right k h in
      let a : ℕ = b + i * k + f in
      let row : List ℕ = part w (b + i * k) k in
      let q : length row ≡ k = length_part w (b + i * k) k (omega arith) in
      tab_set (λ (j : ℕ). of (part w (b + j * k) k)) (λ (j : ℕ). of (part (set w a v) (b + j * k) k)) 0 n i (g (of row)) h
      (ap (λ (j : ℕ). of (part (set w a v) (b + j * k) k)) (zero-add i) ∙ ap of (part_set w (b + i * k) k f v l) ∙ e row q)
      (λ j p s o.
      ⊎_elim
      (λ (x : j < i). ap of (part_off w a v (b + j * k) k (let m' : suc j * k ≤ i * k = mul-le-mul_right k x in inl (omega arith))))
      (λ (x : i < j). ap of (part_off w a v (b + j * k) k (let m' : suc i * k ≤ j * k = mul-le-mul_right k x in inr (omega arith))))
      (apart j i (λ y. o (y ∙ sym (zero-add i)))))
      ∙ ap (λ (x : R). set (grid w) i (g x)) (sym (get_d_grid w i (of []) h))
      ∙ upd_set (grid w) i (of []) g

  -- a store off the table leaves it
  pub grid_off : (w : List ℕ) (a v : ℕ) → (a < b) ⊎ (b + n * k ≤ a) → grid (set w a v) ≡ grid w
  unfolding grid
  grid_off w a v o =
      tab_same (λ (j : ℕ). of (part (set w a v) (b + j * k) k)) (λ (j : ℕ). of (part w (b + j * k) k)) 0 n
      (λ j p q.
      let l : j < n = omega arith in
      let m : suc j * k ≤ n * k = mul-le-mul_right k l in
      ap of
      (part_off w a v (b + j * k) k
      (⊎_elim (λ (x : a < b). inr (omega arith)) (λ (x : b + n * k ≤ a). inl (omega arith)) o)))
