-- Strings in the lent bytes: the shared one and each slot's, as parts of the bytes, and comparing two. Assumes nothing.
use Rattle.std.specs.Prelude.{◌≡◌, refl, Bool, true, false, ◌&&◌, List, [], ◌∷◌, ℕ, zero, suc, ◌+◌, ◌*◌, ◌-◌, ◌<◌, min, eqb, length, take, drop}
use Rattle.std.proofs.Common.{sym, ap, ◌∙◌, true≢false, not-suc-le-zero, arith, length-take, length-drop, eqb-true}
use Rattle.model.specs.Sizes.{session_limit, string_limit}
use Rattle.wire.specs.Both.{and_left, and_right}
use Rattle.model.specs.Lists.{same}
use Rattle.state.specs.Grid.{part}
use Rattle.state.specs.Layout.{KEY, REQUESTS, REQUEST, STRINGS}
use Rattle.state.specs.View.{word, key_of, request_at}
use Rattle.queue.specs.Requests.{string_at}

pub take_least : (m n : ℕ) (l : List ℕ) → take m (take n l) ≡ take (min m n) l
take_least zero n l = let e : min 0 n ≡ 0 = omega arith in ap (λ (k : ℕ). take k l) (sym e)
take_least (suc m) zero l = let e : min (suc m) 0 ≡ 0 = omega arith in ap (λ (k : ℕ). take k l) (sym e)
take_least (suc m) (suc n) [] = let e : min (suc m) (suc n) ≡ suc (min m n) = omega arith in ap (λ (k : ℕ). take k []) (sym e)
take_least (suc m) (suc n) (x ∷ l) =
    let e : min (suc m) (suc n) ≡ suc (min m n) = omega arith in
    ap (λ (l : List ℕ). x ∷ l) (take_least m n l) ∙ ap (λ (k : ℕ). take k (x ∷ l)) (sym e)

-- the shared string is at the front of the bytes
pub key_part : (w s : List ℕ) → 0 < length s → key_of w s ≡ take (min (word w KEY) (string_limit - 1) + 1) s
unfolding key_of
key_part w [] h = absurd (not-suc-le-zero h)
key_part w (x ∷ s) h =
    let e : min (word w KEY) (string_limit - 1) + 1 ≡ suc (min (word w KEY) (string_limit - 1)) = omega arith in
    ap (λ (l : List ℕ). x ∷ l) (take_least (word w KEY) (string_limit - 1) s) ∙ ap (λ (k : ℕ). take k (x ∷ s)) (sym e)

-- slot i's string is at its place
pub string_part : (w s : List ℕ) (i : ℕ) → string_at w s i ≡ part s (string_limit + i * string_limit) (min (word w (REQUESTS + i * REQUEST + 1)) string_limit)
unfolding request_at
string_part w s i = take_least (word w (REQUESTS + i * REQUEST + 1)) string_limit (drop (string_limit + i * string_limit) s)

pub string_length : (w s : List ℕ) (i : ℕ) → i < session_limit → length s ≡ STRINGS → min (word w (REQUESTS + i * REQUEST + 1)) string_limit ≡ length (string_at w s i)
string_length w s i h n = sym (ap length (string_part w s i) ∙ simp (length-take, length-drop) (omega arith))

-- of two lengths
pub same_lengths : (a b : List ℕ) → (length a ≡ length b → ⊥) → same a b ≡ false
same_lengths [] [] o = absurd (o refl)
same_lengths [] (y ∷ b) o = refl
same_lengths (x ∷ a) [] o = refl
same_lengths (x ∷ a) (y ∷ b) o = and_no (eqb x y) (same a b) (same_lengths a b (λ e. o (ap suc e)))
  where
    and_no : (p q : Bool) → q ≡ false → (p && q) ≡ false
    and_no true q e = e
    and_no false q e = refl

-- strings found the same are one
pub same_true : (a b : List ℕ) → same a b ≡ true → a ≡ b
same_true [] [] e = refl
same_true [] (y ∷ b) e = absurd (true≢false (sym e))
same_true (x ∷ a) [] e = absurd (true≢false (sym e))
same_true (x ∷ a) (y ∷ b) e = λ k. eqb-true x y (and_left (eqb x y) (same a b) e) k ∷ same_true a b (and_right (eqb x y) (same a b) e) k

-- the bytes of slot i's string
pub string_bytes : (w s : List ℕ) (i n : ℕ) → i < session_limit → length s ≡ STRINGS → n ≡ length (string_at w s i)
    → take n (drop (string_limit + i * string_limit) s) ≡ string_at w s i
string_bytes w s i n h m e =
    ap (λ (k : ℕ). take k (drop (string_limit + i * string_limit) s)) (e ∙ sym (string_length w s i h m)) ∙ sym (string_part w s i)
