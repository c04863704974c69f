-- A session closes in memory in order: the words of its row and its connections' homes go, and nothing else does. Assumes nothing.
use Rattle.std.specs.Prelude.{◌≡◌, refl, ◌⊎◌, Bool, true, false, cond, List, ℕ, zero, suc, ◌+◌, ◌*◌, ◌≤◌, ◌<◌, eqb, length, set}
use Rattle.std.proofs.Common.{sym, ap, subst, ◌∙◌, inl, inr, ⊎_elim, arith, lit<, length-set, eqb-true, eq-eqb}
use Rattle.std.proofs.lemmas.Bool.{eqb-false}
use Rattle.model.specs.Sizes.{session_limit, connection_limit}
use Rattle.state.specs.Layout.{ENTRIES, ENTRY, ORDERS, WORDS}
use Rattle.state.specs.View.{memory, word, row_word, home_in, home_at, home_of, field_of}
use Rattle.state.specs.Confirmed.{field_number, field_same, field_kept, Shows, shows}
use Rattle.state.specs.Change.{off, here}
use Rattle.state.specs.Tidy.{Tidy, TidyHome, Shown}
use Rattle.state.specs.Keeping.{table_tidy, same_row}

-- a word that is no home
abbrev pub NoHome : ℕ → Type 0
NoHome a = (c : ℕ) → c < connection_limit → a ≡ home_at c → ⊥

-- the connection at a place in the row of slot i has no home there any more
pub record LeftHome (w w' : List ℕ) (i f : ℕ) : Type 0 where
  pub long : length w' ≡ length w
  pub others : (a : ℕ) → NoHome a → word w' a ≡ word w a
  pub stays : (c : ℕ) → c < connection_limit → (home_of w c ≡ home_in i f → ⊥) → home_of w' c ≡ home_of w c
  pub either : (c : ℕ) → c < connection_limit → (home_of w' c ≡ home_of w c) ⊎ (home_of w' c ≡ 0)
  pub left : (c : ℕ) → c < connection_limit → row_word w i f ≡ c → home_of w c ≡ home_in i f → home_of w' c ≡ 0

-- nothing is done where no connection has its home there
pub left_none : (w : List ℕ) (i f : ℕ) → ((c : ℕ) → c < connection_limit → row_word w i f ≡ c → home_of w c ≡ home_in i f → ⊥) → LeftHome w w i f
left_none w i f o = record { long = refl; others = λ a q. refl; stays = λ c l q. refl; either = λ c l. inl refl; left = λ c l p q. absurd (o c l p q) }

-- its home is wiped
module _ (w : List ℕ) (i f c : ℕ) (long : length w ≡ WORDS) (few : c < connection_limit) (named : row_word w i f ≡ c) (housed : home_of w c ≡ home_in i f) where
  home_else : (x : ℕ) → (x ≡ c → ⊥) → home_of (set w (home_at c) 0) x ≡ home_of w x
  home_else x o = off w (home_at c) 0 (home_at x) (λ e. o (let z : x ≡ c = omega arith in z))

  home_gone : home_of (set w (home_at c) 0) c ≡ 0
  home_gone = here w (home_at c) 0 (omega arith)

  gone_at : (x : ℕ) → x ≡ c → home_of (set w (home_at c) 0) x ≡ 0
  gone_at x e = ap (home_of (set w (home_at c) 0)) e ∙ home_gone

  home_either : (x : ℕ) (b : Bool) → eqb x c ≡ b → (home_of (set w (home_at c) 0) x ≡ home_of w x) ⊎ (home_of (set w (home_at c) 0) x ≡ 0)
  home_either x true e = inr (gone_at x (eqb-true x c e))
  home_either x false e = inl (home_else x (eqb-false x c e))

  pub left_wiped : LeftHome w (set w (home_at c) 0) i f
  left_wiped =
      record {
        long = length-set w (home_at c) 0;
        others = λ a q. off w (home_at c) 0 a (q c few);
        stays = λ x l q. home_else x (λ e. q (ap (home_of w) e ∙ housed));
        either = λ x l. home_either x (eqb x c) refl;
        left = λ x l p q. gone_at x (sym p ∙ named);
      }

-- besides, the place is 0 again
pub record Cleared (w w' : List ℕ) (i f : ℕ) : Type 0 where
  pub long : length w' ≡ length w
  pub gone : row_word w' i f ≡ 0
  pub others : (a : ℕ) → (a ≡ ENTRIES + i * ENTRY + f → ⊥) → NoHome a → word w' a ≡ word w a
  pub stays : (c : ℕ) → c < connection_limit → (home_of w c ≡ home_in i f → ⊥) → home_of w' c ≡ home_of w c
  pub either : (c : ℕ) → c < connection_limit → (home_of w' c ≡ home_of w c) ⊎ (home_of w' c ≡ 0)
  pub left : (c : ℕ) → c < connection_limit → row_word w i f ≡ c → home_of w c ≡ home_in i f → home_of w' c ≡ 0

pub place_cleared : (w x : List ℕ) (i f : ℕ) → i < session_limit → f < ENTRY → length x ≡ WORDS → LeftHome w x i f → Cleared w (set x (ENTRIES + i * ENTRY + f) 0) i f
place_cleared w x i f h l long y =
    let a : ℕ = ENTRIES + i * ENTRY + f in
    let home : (c : ℕ) → c < connection_limit → home_of (set x a 0) c ≡ home_of x c = (λ c m. off x a 0 (home_at c) (omega arith)) in
    record {
      long = length-set x a 0 ∙ y.long;
      gone = here x a 0 (omega arith);
      others = λ b o q. off x a 0 b o ∙ y.others b q;
      stays = λ c m q. home c m ∙ y.stays c m q;
      either = λ c m. ⊎_elim (λ (e : home_of x c ≡ home_of w c). inl (home c m ∙ e)) (λ (e : home_of x c ≡ 0). inr (home c m ∙ e)) (y.either c m);
      left = λ c m p q. home c m ∙ y.left c m p q;
    }

-- another slot shows what it showed
module _ (w w' : List ℕ) (i f : ℕ) (h : i < session_limit) (o : 0 < f) (l : f < ENTRY) (x : Cleared w w' i f) where
  row_other : (j g : ℕ) → j < session_limit → g < ENTRY → (j ≡ i → ⊥) → row_word w' j g ≡ row_word w j g
  row_other j g m k q = x.others (ENTRIES + j * ENTRY + g) (λ e. q (let z : j ≡ i = omega arith in z)) (λ c n e. omega arith)

  field_other : (j g : ℕ) → j < session_limit → g < ENTRY → (j ≡ i → ⊥) → field_of w' j g ≡ field_of w j g
  field_other j zero m k q = field_number w' j ∙ row_other j 0 m k q ∙ sym (field_number w j)
  field_other j (suc g) m k q =
      field_kept w w' j g (row_other j 0 m (omega arith) q) (row_other j (suc g) m k q)
      (λ c n e. x.stays c n (λ r. q (let y : home_in j (suc g) ≡ home_in i f = sym e ∙ r in let z : j ≡ i = omega arith in z)))
      (λ c n e. ⊎_elim (λ (r : home_of w' c ≡ home_of w c). sym r ∙ e) (λ (r : home_of w' c ≡ 0). absurd (let y : 0 ≡ home_in j (suc g) = sym r ∙ e in omega arith)) (x.either c n))

-- the closing: the number, and the two connections
module _ (w w₁ w₂ s : List ℕ) (i : ℕ) (long : length w ≡ WORDS) (h : i < session_limit)
    (x : Cleared (set w (ENTRIES + i * ENTRY + 0) 0) w₁ i 1) (y : Cleared w₁ w₂ i 2) (t : Tidy (memory w s)) where
  abbrev w₀ : List ℕ
  w₀ = set w (ENTRIES + i * ENTRY + 0) 0

  homes₀ : (c : ℕ) → c < connection_limit → home_of w₀ c ≡ home_of w c
  homes₀ c l = off w (ENTRIES + i * ENTRY + 0) 0 (home_at c) (omega arith)

  row₀ : (j g : ℕ) → (j ≡ i → ⊥) → g < ENTRY → row_word w₀ j g ≡ row_word w j g
  row₀ j g q l = off w (ENTRIES + i * ENTRY + 0) 0 (ENTRIES + j * ENTRY + g) (λ e. q (let z : j ≡ i = omega arith in z))

  rows_else : (j g : ℕ) → j < session_limit → g < ENTRY → (j ≡ i → ⊥) → row_word w₂ j g ≡ row_word w j g
  rows_else j g m l q = row_other w₁ w₂ i 2 h (lit< tt) (lit< tt) y j g m l q ∙ row_other w₀ w₁ i 1 h (lit< tt) (lit< tt) x j g m l q ∙ row₀ j g q l

  fields_else : (j g : ℕ) → j < session_limit → g < ENTRY → (j ≡ i → ⊥) → field_of w₂ j g ≡ field_of w j g
  fields_else j g m l q =
      field_other w₁ w₂ i 2 h (lit< tt) (lit< tt) y j g m l q
      ∙ field_other w₀ w₁ i 1 h (lit< tt) (lit< tt) x j g m l q
      ∙ field_same w w₀ j (λ f z. row₀ j f q z) homes₀ g l

  -- nothing of its row is left
  own : (g : ℕ) → g < ENTRY → row_word w₂ i g ≡ 0
  own zero l =
      y.others (ENTRIES + i * ENTRY + 0) (omega arith) (λ c n e. omega arith)
      ∙ x.others (ENTRIES + i * ENTRY + 0) (omega arith) (λ c n e. omega arith)
      ∙ here w (ENTRIES + i * ENTRY + 0) 0 (omega arith)
  own (suc zero) l = y.others (ENTRIES + i * ENTRY + 1) (omega arith) (λ c n e. omega arith) ∙ x.gone
  own (suc (suc zero)) l = y.gone
  own (suc (suc (suc g))) l = absurd (omega arith)

  row : (j : ℕ) → j < session_limit → (f : ℕ) → 0 < f → f < ENTRY → (b : Bool) → eqb j i ≡ b → row_word w₂ j f ≡ cond (eqb (row_word w₂ j 0) 0) 0 (field_of w₂ j f)
  row j l f o m true e =
      subst (λ (k : ℕ). row_word w₂ k f ≡ cond (eqb (row_word w₂ k 0) 0) 0 (field_of w₂ k f)) (sym (eqb-true j i e))
      (own f m ∙ sym (ap (λ (b : Bool). cond b 0 (field_of w₂ i f)) (eq-eqb (row_word w₂ i 0) 0 (own 0 (lit< tt)))))
  row j l f o m false e =
      let q : j ≡ i → ⊥ = eqb-false j i e in
      same_row w w₂ j f (rows_else j 0 l (lit< tt) q) (rows_else j f l m q) (fields_else j f l m q) (t.rows j l f o m)

  -- a home that was 0 is so still
  still_none : (c : ℕ) → c < connection_limit → home_of w₁ c ≡ 0 → home_of w₂ c ≡ 0
  still_none c l z = y.stays c l (λ e. let q : 0 ≡ home_in i 2 = sym z ∙ e in omega arith) ∙ z

  -- the homes of its own connections are gone
  own_home : (c f : ℕ) → c < connection_limit → 0 < f → f < ENTRY → field_of w i f ≡ c → home_of w₂ c ≡ 0
  own_home c zero l o m e = absurd (omega arith)
  own_home c (suc zero) l o m e =
      let r : Shows w i c 1 = shows w i c 1 (omega arith) l e in
      still_none c l (x.left c l (off w (ENTRIES + i * ENTRY + 0) 0 (ENTRIES + i * ENTRY + 1) (omega arith) ∙ r.names) (homes₀ c l ∙ r.home))
  own_home c (suc (suc zero)) l o m e =
      let r : Shows w i c 2 = shows w i c 2 (omega arith) l e in
      let u : home_of w c ≡ home_in i 2 = r.home in
      y.left c l
      (x.others (ENTRIES + i * ENTRY + 2) (omega arith) (λ c n e. omega arith) ∙ off w (ENTRIES + i * ENTRY + 0) 0 (ENTRIES + i * ENTRY + 2) (omega arith) ∙ r.names)
      (x.stays c l (λ q. let z : home_in i 2 ≡ home_in i 1 = sym (homes₀ c l ∙ u) ∙ q in omega arith) ∙ homes₀ c l ∙ u)
  own_home c (suc (suc (suc f))) l o m e = absurd (omega arith)

  shown_home : (c : ℕ) → c < connection_limit → Shown w c → TidyHome w₂ c
  shown_home c l z = by (eqb z.slot i) refl
    where
      by : (b : Bool) → eqb z.slot i ≡ b → TidyHome w₂ c
      by true e = inl (own_home c z.field l z.some z.small (ap (λ (k : ℕ). field_of w k z.field) (sym (eqb-true z.slot i e)) ∙ z.is))
      by false e =
          inr record { slot = z.slot; field = z.field; few = z.few; some = z.some; small = z.small; is = fields_else z.slot z.field z.few z.small (eqb-false z.slot i e) ∙ z.is }

  home : (c : ℕ) → c < connection_limit → TidyHome w₂ c
  home c l =
      ⊎_elim
      (λ (z : home_of w c ≡ 0). inl (still_none c l (x.stays c l (λ e. let q : 0 ≡ home_in i 1 = sym (homes₀ c l ∙ z) ∙ e in omega arith) ∙ homes₀ c l ∙ z)))
      (λ (z : Shown w c). shown_home c l z)
      (t.homes c l)

  closed_tidy : Tidy (memory w₂ s)
  closed_tidy =
      table_tidy w w₂ s t (y.long ∙ x.long ∙ length-set w (ENTRIES + i * ENTRY + 0) 0 ∙ long)
      (λ a o q.
      y.others a (λ e. ⊎_elim (λ (z : a < ENTRIES). omega arith) (λ (z : ORDERS ≤ a). omega arith) o) q
      ∙ x.others a (λ e. ⊎_elim (λ (z : a < ENTRIES). omega arith) (λ (z : ORDERS ≤ a). omega arith) o) q
      ∙ off w (ENTRIES + i * ENTRY + 0) 0 a (λ e. ⊎_elim (λ (z : a < ENTRIES). omega arith) (λ (z : ORDERS ≤ a). omega arith) o))
      (λ j l f o m. row j l f o m (eqb j i) refl)
      home

-- the same of the memories that the code's stores leave
pub closed_in_order : (w x w₁ w₂ s : List ℕ) (i : ℕ) → x ≡ set w (ENTRIES + i * ENTRY + 0) 0 → length w ≡ WORDS → i < session_limit → Cleared x w₁ i 1 → Cleared w₁ w₂ i 2
    → Tidy (memory w s) → Tidy (memory w₂ s)
closed_in_order w x w₁ w₂ s i e long h p q t = closed_tidy w w₁ w₂ s i long h (subst (λ (y : List ℕ). Cleared y w₁ i 1) e p) q t
