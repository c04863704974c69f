-- 02, Q-1: the two modes: what the words say of them, and the count of a session's answers. Assumes nothing.
use Rattle.std.specs.Prelude.{◌≡◌, refl, Bool, true, false, not, ◌&&◌, cond, ℕ, ◌%◌, ◌^◌, eqb}
use Rattle.std.proofs.lemmas.Bool.{eqb-false}
use Rattle.std.proofs.Common.{eqb-true, sym, ◌∙◌, eq-eqb, ne_eqb}
use Rattle.std.proofs.Math.Path.{ap}
use Rattle.wire.specs.MessageId.{start, next}
use Rattle.model.specs.Sizes.{no_connection}
use Rattle.model.specs.State.{Entry, Exchange, Rest, Server, exchange_at, half_open}
use Rattle.model.specs.Exchange.{with_count, is_asked, may_answer}
use Rattle.state.specs.Grid.{upd_upd}
use Rattle.state.specs.Change.{on_rest, on_exchange, exchange_with, single_with}
use Rattle.state.specs.View.{asked_of}
use Rattle.sessions.specs.Synchronous.{with_slot, slot_changed}

-- the preference, from the word that was read; as a control code
pub preference_read : (q : Rest) (r : ℕ) → single_with 1 r q ≡ q → q.made.prefers_overlap ≡ eqb r 1
preference_read q r e = sym (ap (λ (x : Rest). x.made.prefers_overlap) e)

module _ (q : Rest) (r : ℕ) (e : single_with 1 r q ≡ q) where
  pub prefers_overlap_lem : r ≡ 1 → ◌≡◌ {A = ℕ} (cond q.made.prefers_overlap 1 0) 1
  prefers_overlap_lem h = ap (λ (b : Bool). cond b 1 0) (preference_read q r e ∙ eq-eqb r 1 h)

  pub prefers_synchronized : (r ≡ 1 → ⊥) → ◌≡◌ {A = ℕ} (cond q.made.prefers_overlap 1 0) 0
  prefers_synchronized h = ap (λ (b : Bool). cond b 1 0) (preference_read q r e ∙ ne_eqb r 1 h)

-- a session's words
module _ (x : Exchange) (r : ℕ) where
  pub clear_read : exchange_with 0 r x ≡ x → x.in_clear ≡ eqb r 1
  clear_read e = sym (ap (λ (y : Exchange). y.in_clear) e)

  pub overlap_read : exchange_with 4 r x ≡ x → x.overlap ≡ eqb r 1
  overlap_read e = sym (ap (λ (y : Exchange). y.overlap) e)

  pub count_read : exchange_with 5 r x ≡ x → x.count ≡ r % 2 ^ 32
  count_read e = sym (ap (λ (y : Exchange). y.count) e)

  pub sent_read : exchange_with 6 r x ≡ x → x.any_sent ≡ eqb r 1
  sent_read e = sym (ap (λ (y : Exchange). y.any_sent) e)

-- the count begins anew: two stores
pub count_reset : (i : ℕ) (d d₁ d₂ : Server) → d₁ ≡ on_exchange d i (exchange_with 5 start) → d₂ ≡ on_exchange d₁ i (exchange_with 6 0) → d₂ ≡ on_exchange d i (with_count start false)
count_reset i d d₁ d₂ e₁ e₂ = rw (e₂, e₁, upd_upd)

-- an answer is counted: the number behind the one that was read
abbrev pub counted : Exchange → Exchange
counted x = with_count (next x.count) true x

pub count_stepped : (i v : ℕ) (d d₁ d₂ : Server) → v % 2 ^ 32 ≡ next (exchange_at d.rest i).count
    → d₁ ≡ on_exchange d i (exchange_with 5 v) → d₂ ≡ on_exchange d₁ i (exchange_with 6 1) → d₂ ≡ on_rest d (with_slot i counted)
count_stepped i v d d₁ d₂ n e₁ e₂ =
    let e : d₂ ≡ on_exchange d i (with_count (v % 2 ^ 32) true) = rw (e₂, e₁, upd_upd) in
    e ∙ slot_changed d i (with_count (v % 2 ^ 32) true) ∙ ap (λ (m : ℕ). on_rest d (with_slot i (with_count m true))) n

-- refusal 5, in overlap mode: by the clear, then by the second connection
module _ (e : Entry) (x : Exchange) where
  pub overlap_clear : x.in_clear ≡ true → (not (half_open e) && not x.in_clear) ≡ false
  overlap_clear h = rw h (by (not (half_open e)))
    where
      by : (b : Bool) → (b && false) ≡ false
      by true = refl
      by false = refl

  pub overlap_open : x.in_clear ≡ false → (not (half_open e) && not x.in_clear) ≡ not (half_open e)
  overlap_open h = rw h (by (not (half_open e)))
    where
      by : (b : Bool) → (b && true) ≡ b
      by true = refl
      by false = refl

pub not_half : (e : Entry) → e.number ≡ 0 → not (half_open e) ≡ true
not_half e h = rw (eq-eqb e.number 0 h)

pub half_by : (e : Entry) (y : ℕ) → (e.number ≡ 0 → ⊥) → e.asynchronous ≡ y → not (half_open e) ≡ not (eqb y no_connection)
half_by e y h q = rw (ne_eqb e.number 0 h, q)

-- by the mode
module _ (e : Entry) (x : Exchange) where
  pub may_in_overlap : (b : Bool) → x.overlap ≡ true → (not (half_open e) && not x.in_clear) ≡ b → may_answer e x ≡ b
  unfolding may_answer
  may_in_overlap b o h = rw o h

  pub may_asked : (r : ℕ) → x.overlap ≡ false → exchange_with 1 r x ≡ x → (r ≡ 0 → ⊥) → may_answer e x ≡ true
  unfolding may_answer
  may_asked r o q h = rw o (ap is_asked (sym (ap (λ (y : Exchange). y.asked) q)) ∙ rw (ne_eqb r 0 h))

  pub may_unasked : (r : ℕ) → x.overlap ≡ false → exchange_with 1 r x ≡ x → r ≡ 0 → may_answer e x ≡ false
  unfolding may_answer
  may_unasked r o q h = rw o (ap is_asked (sym (ap (λ (y : Exchange). y.asked) q) ∙ ap asked_of h))

  pub may_by_asked : (r : ℕ) → x.overlap ≡ false → exchange_with 1 r x ≡ x → may_answer e x ≡ not (eqb r 0)
  may_by_asked r o q = by (eqb r 0) refl
    where
      by : (b : Bool) → eqb r 0 ≡ b → may_answer e x ≡ not b
      by true h = may_unasked r o q (eqb-true r 0 h)
      by false h = may_asked r o q (eqb-false r 0 h)
