-- Comparing two strings in windows: a window compared whole, by a mark that is kept while bytes are the same; the last window, then the others
-- from the front. Assumes nothing.
use Rattle.std.specs.Prelude.{◌≡◌, refl, Bool, true, false, ◌&&◌, cond, List, [], ◌∷◌, ◌++◌, ℕ, suc, ◌+◌, ◌-◌, ◌≤◌, ◌<◌, eqb, length, get_or, take, drop}
use Rattle.std.proofs.Common.{sym, ap, ap₂, ◌∙◌, true≢false, add-one, arith, take-append-drop, length-take, length-drop, get_or-drop, take-add, take_all, take-suc, take-take, eq-eqb}
use Rattle.model.specs.Lists.{same}
use Rattle.queue.specs.Strings.{same_true}

pub same_self : (a : List ℕ) → same a a ≡ true
same_self [] = refl
same_self (x ∷ a) = rw (eq-eqb x x refl) (same_self a)

pub same_one : (a b : List ℕ) → a ≡ b → same a b ≡ true
same_one a b e = rw e (same_self b)

-- one byte more
pub same_snoc : (a b : List ℕ) (x y : ℕ) → length a ≡ length b → same (a ++ x ∷ []) (b ++ y ∷ []) ≡ (same a b && eqb x y)
same_snoc [] [] x y e = and_true (eqb x y)
  where
    and_true : (p : Bool) → (p && true) ≡ p
    and_true true = refl
    and_true false = refl
same_snoc [] (z ∷ b) x y e = absurd (let q : 0 ≡ suc (length b) = e in omega arith)
same_snoc (z ∷ a) [] x y e = absurd (let q : suc (length a) ≡ 0 = e in omega arith)
same_snoc (z ∷ a) (u ∷ b) x y e =
    ap (λ (q : Bool). eqb z u && q) (same_snoc a b x y (let q : suc (length a) ≡ suc (length b) = e in omega arith))
    ∙ and-and (eqb z u) (same a b) (eqb x y)
  where
    and-and : (p q r : Bool) → (p && (q && r)) ≡ ((p && q) && r)
    and-and true q r = refl
    and-and false q r = refl

-- a mark that is kept while bytes are the same
pub marked : (d x y : ℕ) → eqb (cond (eqb x y) d 1) 0 ≡ (eqb d 0 && eqb x y)
marked d x y = by (eqb x y)
  where
    by : (p : Bool) → eqb (cond p d 1) 0 ≡ (eqb d 0 && p)
    by true = and_true (eqb d 0)
      where
        and_true : (p : Bool) → p ≡ (p && true)
        and_true true = refl
        and_true false = refl
    by false = and_false (eqb d 0)
      where
        and_false : (p : Bool) → false ≡ (p && false)
        and_false true = refl
        and_false false = refl

-- the window from i on, one byte wider
pub wider : (a b : List ℕ) (i k d : ℕ) → i + k < length a → i + k < length b → same (take k (drop i a)) (take k (drop i b)) ≡ eqb d 0
    → same (take (k + 1) (drop i a)) (take (k + 1) (drop i b)) ≡ eqb (cond (eqb (get_or a (i + k) 0) (get_or b (i + k) 0)) d 1) 0
wider a b i k d h l e =
    let p : k < length (drop i a) = simp length-drop (omega arith) in
    let q : k < length (drop i b) = simp length-drop (omega arith) in
    let s : length (take k (drop i a)) ≡ length (take k (drop i b)) = simp (length-take, length-drop) (omega arith) in
    rw (add-one, take-suc (drop i a) k 0 p, take-suc (drop i b) k 0 q, get_or-drop i a k 0, get_or-drop i b k 0)
    (same_snoc (take k (drop i a)) (take k (drop i b)) (get_or a (i + k) 0) (get_or b (i + k) 0) s
    ∙ ap (λ (r : Bool). r && eqb (get_or a (i + k) 0) (get_or b (i + k) 0)) e
    ∙ sym (marked d (get_or a (i + k) 0) (get_or b (i + k) 0)))

-- strings with a window that differs differ
pub window_differs : (a b : List ℕ) (i n : ℕ) → same (take n (drop i a)) (take n (drop i b)) ≡ false → same a b ≡ false
window_differs a b i n e = by (same a b) (λ t. true≢false (sym (same_one (take n (drop i a)) (take n (drop i b)) (ap (λ (l : List ℕ). take n (drop i l)) (same_true a b t))) ∙ e))
  where
    by : (p : Bool) → (p ≡ true → ⊥) → p ≡ false
    by true o = absurd (o refl)
    by false o = refl

-- the front up to i, and a window from i on
pub front_wider : (a b : List ℕ) (i n : ℕ) → take i a ≡ take i b → same (take n (drop i a)) (take n (drop i b)) ≡ true → take (i + n) a ≡ take (i + n) b
front_wider a b i n e s = take-add i n a ∙ ap₂ (λ (x y : List ℕ). x ++ y) e (same_true (take n (drop i a)) (take n (drop i b)) s) ∙ sym (take-add i n b)

-- fronts and ends that meet
pub all_same : (a b : List ℕ) (i m : ℕ) → m ≤ i → take i a ≡ take i b → drop m a ≡ drop m b → same a b ≡ true
all_same a b i m h e f =
    same_one a b
    (sym (take-append-drop m a)
    ∙ ap₂ (λ (x y : List ℕ). x ++ y) (sym (take-take m i a h) ∙ ap (take m) e ∙ take-take m i b h) f
    ∙ take-append-drop m b)

-- the last window is the end
pub last_window : (a b : List ℕ) (n v : ℕ) → v ≤ length a → length a ≡ length b → n ≡ length a
    → same (take v (drop (n - v) a)) (take v (drop (n - v) b)) ≡ true → drop (n - v) a ≡ drop (n - v) b
last_window a b n v h l e s =
    let p : length (drop (n - v) a) ≤ v = simp length-drop (omega arith) in
    let q : length (drop (n - v) b) ≤ v = simp length-drop (omega arith) in
    sym (take_all v (drop (n - v) a) p) ∙ same_true (take v (drop (n - v) a)) (take v (drop (n - v) b)) s ∙ take_all v (drop (n - v) b) q
