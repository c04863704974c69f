-- Connections read confirmed: when a slot shows one, and that another memory shows the same. Assumes nothing.
use Rattle.std.specs.Prelude.{◌≡◌, Bool, not, ◌&&◌, cond, List}
use Rattle.std.proofs.Math.Path.{refl, sym, ap}
use Rattle.std.proofs.Common.{◌∙◌, arith}
use Rattle.std.proofs.Math.Bool.{true, false}
use Prim.Native.Nat.{ℕ, zero, suc, ◌≤◌, ◌<◌}
use Rattle.std.proofs.Math.Dec.{eqb, ltb}
use borrow.Author.Tests.{eq-eqb, ne_eqb, eqb-true, eqb-false, lt-ltb, le-ltb, ltb-true, ltb-false}
use Rattle.model.specs.Sizes.{connection_limit, no_connection}
use Rattle.state.specs.Layout.{ENTRY}
use Rattle.state.specs.View.{row_word, home_in, home_of, confirmed, field_of}

module _ (n c h k : ℕ) where
  -- a live slot that names a connection whose home it is shows it
  pub shown : (n ≡ 0 → ⊥) → c < connection_limit → h ≡ k → confirmed n c h k ≡ c
  shown p q r = rw (ne_eqb n 0 p, lt-ltb c connection_limit q, eq-eqb h k r)

  -- a free slot shows none, nor does one that names no connection, nor one that is not the connection's home
  pub free_shows_none : n ≡ 0 → confirmed n c h k ≡ no_connection
  free_shows_none p = rw (eq-eqb n 0 p)

  pub past_shows_none : connection_limit ≤ c → confirmed n c h k ≡ no_connection
  past_shows_none q = by (not (eqb n 0))
    where
      by : (b : Bool) → cond (b && (ltb c connection_limit && eqb h k)) c no_connection ≡ no_connection
      by true = rw (le-ltb c connection_limit q)
      by false = refl

  pub stray_shows_none : (h ≡ k → ⊥) → confirmed n c h k ≡ no_connection
  stray_shows_none r = by (not (eqb n 0)) (ltb c connection_limit)
    where
      by : (b d : Bool) → cond (b && (d && eqb h k)) c no_connection ≡ no_connection
      by true true = rw (ne_eqb h k r)
      by true false = refl
      by false d = refl

  -- what is shown is within its range
  pub shown_small : confirmed n c h k < 256
  shown_small = by (not (eqb n 0)) (ltb c connection_limit) refl (eqb h k)
    where
      by : (b d : Bool) → ltb c connection_limit ≡ d → (e : Bool) → cond (b && (d && e)) c no_connection < 256
      by true true q true = let l : c < connection_limit = ltb-true c connection_limit q in omega arith
      by true true q false = omega arith
      by true false q e = omega arith
      by false d q e = omega arith

  -- and back: a connection that is shown
  module _ (x : ℕ) (small : x < connection_limit) (e : confirmed n c h k ≡ x) where
    pub shown_live : n ≡ 0 → ⊥
    shown_live p = let z : no_connection ≡ x = sym (free_shows_none p) ∙ e in omega arith

    pub shown_home : h ≡ k
    shown_home = by (eqb h k) refl
      where
        by : (b : Bool) → eqb h k ≡ b → h ≡ k
        by true q = eqb-true h k q
        by false q = absurd (let z : no_connection ≡ x = sym (stray_shows_none (eqb-false h k q)) ∙ e in omega arith)

    pub shown_named : c ≡ x
    shown_named = by (ltb c connection_limit) refl
      where
        by : (b : Bool) → ltb c connection_limit ≡ b → c ≡ x
        by true q = sym (shown shown_live (ltb-true c connection_limit q) shown_home) ∙ e
        by false q = absurd (let z : no_connection ≡ x = sym (past_shows_none (ltb-false c connection_limit q)) ∙ e in omega arith)

pub field_small : (w : List ℕ) (i f : ℕ) → field_of w i (suc f) < 256
unfolding field_of
field_small w i f = shown_small (row_word w i 0) (row_word w i (suc f)) (home_of w (row_word w i (suc f))) (home_in i (suc f))

-- two memories with the same row and the same homes show the same
module _ (w w' : List ℕ) (i : ℕ) where
  confirmed_same : (f : ℕ) → row_word w' i 0 ≡ row_word w i 0 → row_word w' i (suc f) ≡ row_word w i (suc f)
      → (row_word w i (suc f) < connection_limit → home_of w' (row_word w i (suc f)) ≡ home_of w (row_word w i (suc f)))
      → field_of w' i (suc f) ≡ field_of w i (suc f)
  unfolding field_of
  confirmed_same f p q r =
      let k : ℕ = home_in i (suc f) in
      let c : ℕ = row_word w i (suc f) in
      (λ t. confirmed (p t) (q t) (home_of w' (q t)) k) ∙ by (ltb c connection_limit) refl
    where
      by : (b : Bool) → ltb (row_word w i (suc f)) connection_limit ≡ b
          → confirmed (row_word w i 0) (row_word w i (suc f)) (home_of w' (row_word w i (suc f))) (home_in i (suc f)) ≡ confirmed (row_word w i 0)
          (row_word w i (suc f)) (home_of w (row_word w i (suc f))) (home_in i (suc f))
      by true e = ap (λ (h : ℕ). confirmed (row_word w i 0) (row_word w i (suc f)) h (home_in i (suc f))) (r (ltb-true (row_word w i (suc f)) connection_limit e))
      by false e =
          let l : connection_limit ≤ row_word w i (suc f) = ltb-false (row_word w i (suc f)) connection_limit e in
          past_shows_none (row_word w i 0) (row_word w i (suc f)) (home_of w' (row_word w i (suc f))) (home_in i (suc f)) l
          ∙ sym (past_shows_none (row_word w i 0) (row_word w i (suc f)) (home_of w (row_word w i (suc f))) (home_in i (suc f)) l)

  pub field_same : ((g : ℕ) → g < ENTRY → row_word w' i g ≡ row_word w i g) → ((c : ℕ) → c < connection_limit → home_of w' c ≡ home_of w c)
      → (f : ℕ) → f < ENTRY → field_of w' i f ≡ field_of w i f
  unfolding field_of
  field_same p q zero l = p 0 (omega arith)
  field_same p q (suc f) l = confirmed_same f (p 0 (omega arith)) (p (suc f) l) (q (row_word w i (suc f)))

  -- the same where a connection at home here stays so, and no other comes here
  pub field_kept : (f : ℕ) → row_word w' i 0 ≡ row_word w i 0 → row_word w' i (suc f) ≡ row_word w i (suc f)
      → ((c : ℕ) → c < connection_limit → home_of w c ≡ home_in i (suc f) → home_of w' c ≡ home_of w c)
      → ((c : ℕ) → c < connection_limit → home_of w' c ≡ home_in i (suc f) → home_of w c ≡ home_in i (suc f))
      → field_of w' i (suc f) ≡ field_of w i (suc f)
  unfolding field_of
  field_kept f p q keep back = by (ltb (row_word w i (suc f)) connection_limit) refl (eqb (home_of w (row_word w i (suc f))) (home_in i (suc f))) refl
    where
      by : (b : Bool) → ltb (row_word w i (suc f)) connection_limit ≡ b → (d : Bool) → eqb (home_of w (row_word w i (suc f))) (home_in i (suc f)) ≡ d → field_of w' i (suc f) ≡ field_of w i (suc f)
      by false l d e = confirmed_same f p q (λ m. absurd (let z : connection_limit ≤ row_word w i (suc f) = ltb-false (row_word w i (suc f)) connection_limit l in omega arith))
      by true l true e = confirmed_same f p q (λ m. keep (row_word w i (suc f)) m (eqb-true (home_of w (row_word w i (suc f))) (home_in i (suc f)) e))
      by true l false e =
          let stray : home_of w (row_word w i (suc f)) ≡ home_in i (suc f) → ⊥ = eqb-false (home_of w (row_word w i (suc f))) (home_in i (suc f)) e in
          let m : row_word w i (suc f) < connection_limit = ltb-true (row_word w i (suc f)) connection_limit l in
          stray_shows_none (row_word w' i 0) (row_word w' i (suc f)) (home_of w' (row_word w' i (suc f))) (home_in i (suc f)) (λ t. stray (back (row_word w i (suc f)) m (ap (home_of w') (sym q) ∙ t)))
          ∙ sym (stray_shows_none (row_word w i 0) (row_word w i (suc f)) (home_of w (row_word w i (suc f))) (home_in i (suc f)) stray)

  -- the same where one connection c that the slot did not show has another home, which is not here
  pub field_else : (c f : ℕ) → c < connection_limit → row_word w' i 0 ≡ row_word w i 0 → row_word w' i (suc f) ≡ row_word w i (suc f)
      → ((x : ℕ) → x < connection_limit → (x ≡ c → ⊥) → home_of w' x ≡ home_of w x)
      → (field_of w i (suc f) ≡ c → ⊥) → (home_of w' c ≡ home_in i (suc f) → ⊥) → field_of w' i (suc f) ≡ field_of w i (suc f)
  unfolding field_of
  field_else c f small p q homes unshown away = by (eqb (row_word w i (suc f)) c) refl
    where
      hidden : row_word w i (suc f) ≡ c → field_of w' i (suc f) ≡ no_connection
      hidden e =
          let h : home_of w' (row_word w' i (suc f)) ≡ home_of w' c = ap (home_of w') (q ∙ e) in
          stray_shows_none (row_word w' i 0) (row_word w' i (suc f)) (home_of w' (row_word w' i (suc f))) (home_in i (suc f)) (λ t. away (sym h ∙ t))

      was_hidden : row_word w i (suc f) ≡ c → field_of w i (suc f) ≡ no_connection
      was_hidden e = on (not (eqb (row_word w i 0) 0) && (ltb (row_word w i (suc f)) connection_limit && eqb (home_of w (row_word w i (suc f))) (home_in i (suc f)))) refl
        where
          on : (b : Bool) → (not (eqb (row_word w i 0) 0) && (ltb (row_word w i (suc f)) connection_limit && eqb (home_of w (row_word w i (suc f))) (home_in i (suc f)))) ≡ b
              → cond b (row_word w i (suc f)) no_connection ≡ no_connection
          on true t = absurd (unshown (ap (λ (b : Bool). cond b (row_word w i (suc f)) no_connection) t ∙ e))
          on false t = refl

      by : (b : Bool) → eqb (row_word w i (suc f)) c ≡ b → field_of w' i (suc f) ≡ field_of w i (suc f)
      by true e = let z : row_word w i (suc f) ≡ c = eqb-true (row_word w i (suc f)) c e in hidden z ∙ sym (was_hidden z)
      by false e = confirmed_same f p q (λ l. homes (row_word w i (suc f)) l (eqb-false (row_word w i (suc f)) c e))

-- what slot i shows in field f, by its words
pub field_number : (w : List ℕ) (i : ℕ) → field_of w i 0 ≡ row_word w i 0
unfolding field_of
field_number w i = refl

module _ (w : List ℕ) (i : ℕ) where
  pub field_free : (f : ℕ) → (f ≡ 0 → ⊥) → row_word w i 0 ≡ 0 → field_of w i f ≡ no_connection
  unfolding field_of
  field_free zero o e = absurd (o refl)
  field_free (suc f) o e = free_shows_none (row_word w i 0) (row_word w i (suc f)) (home_of w (row_word w i (suc f))) (home_in i (suc f)) e

  pub field_past : (f : ℕ) → (f ≡ 0 → ⊥) → connection_limit ≤ row_word w i f → field_of w i f ≡ no_connection
  unfolding field_of
  field_past zero o e = absurd (o refl)
  field_past (suc f) o e = past_shows_none (row_word w i 0) (row_word w i (suc f)) (home_of w (row_word w i (suc f))) (home_in i (suc f)) e

  pub field_stray : (f : ℕ) → (f ≡ 0 → ⊥) → (home_of w (row_word w i f) ≡ home_in i f → ⊥) → field_of w i f ≡ no_connection
  unfolding field_of
  field_stray zero o e = absurd (o refl)
  field_stray (suc f) o e = stray_shows_none (row_word w i 0) (row_word w i (suc f)) (home_of w (row_word w i (suc f))) (home_in i (suc f)) e

  pub field_shown : (f : ℕ) → (f ≡ 0 → ⊥) → (row_word w i 0 ≡ 0 → ⊥) → row_word w i f < connection_limit → home_of w (row_word w i f) ≡ home_in i f → field_of w i f ≡ row_word w i f
  unfolding field_of
  field_shown zero o p q e = absurd (o refl)
  field_shown (suc f) o p q e = shown (row_word w i 0) (row_word w i (suc f)) (home_of w (row_word w i (suc f))) (home_in i (suc f)) p q e

  -- and back: a slot that shows a connection is live, names it, and is its home
  pub record Shows (c f : ℕ) : Type 0 where
    pub lives : row_word w i 0 ≡ 0 → ⊥
    pub names : row_word w i f ≡ c
    pub home : home_of w c ≡ home_in i f

  pub shows : (c f : ℕ) → (f ≡ 0 → ⊥) → c < connection_limit → field_of w i f ≡ c → Shows c f
  unfolding field_of
  shows c zero o l e = absurd (o refl)
  shows c (suc f) o l e =
      let x : ℕ = row_word w i (suc f) in
      let n : x ≡ c = shown_named (row_word w i 0) x (home_of w x) (home_in i (suc f)) c l e in
      record {
        lives = shown_live (row_word w i 0) x (home_of w x) (home_in i (suc f)) c l e;
        names = n;
        home = ap (home_of w) (sym n) ∙ shown_home (row_word w i 0) x (home_of w x) (home_in i (suc f)) c l e;
      }
