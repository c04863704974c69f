-- What the words say of the slot that a session's number finds: whether a session is there, and its client's size. Assumes nothing.
use Rattle.std.specs.Prelude.{◌≡◌, true, false, not, Result, Ok, Err, List, ℕ, ◌≤◌, ◌<◌, length}
use Rattle.sessions.specs.declared.refusal.Refusal.{Refusal}
use Rattle.sessions.specs.declared.refusal.Refusal.TheVariants.{NoSuchSession}
use Rattle.std.proofs.Common.{sym, ap, ◌∙◌, eq-eqb, ne_eqb}
use Rattle.std.proofs.Math.ListN.{get_or-eq_default}
use Rattle.model.specs.Sizes.{session_limit}
use Rattle.model.specs.State.{Entry, Exchange, at, blank, live, slot_of_number}
use Rattle.state.specs.Change.{sessions_held, exchange_with}
use Rattle.state.specs.View.{locks_of}

pub not_there : (w s : List ℕ) (i : ℕ) → session_limit ≤ i → live (at (locks_of w s).entries i) ≡ false
not_there w s i h =
    let l : length (locks_of w s).entries ≤ i = rw (sessions_held w s) h in
    ap live (get_or-eq_default (locks_of w s).entries blank l)

pub not_live : (e : Entry) (r : ℕ) → e.number ≡ r → r ≡ 0 → live e ≡ false
not_live e r p q = ap not (eq-eqb e.number 0 (p ∙ q))

pub is_live : (e : Entry) (r : ℕ) → e.number ≡ r → (r ≡ 0 → ⊥) → live e ≡ true
is_live e r p q = ap not (ne_eqb e.number 0 (λ z. q (sym p ∙ z)))

pub size_read : (x : Exchange) (r : ℕ) → exchange_with 3 r x ≡ x → r ≡ x.client_size
size_read x r e = ap (λ (y : Exchange). y.client_size) e

-- what a look for the session with number n finds: its slot, which is live, or that there is none
pub record Lives (es : List Entry) (n i : ℕ) : Type 0 where
  pub found : slot_of_number es n ≡ i
  pub lives : live (at es i) ≡ true
  pub within : i < session_limit

pub record Missing (es : List Entry) (n : ℕ) (e : Refusal) : Type 0 where
  pub missing : live (at es (slot_of_number es n)) ≡ false
  pub refused : e ≡ NoSuchSession

abbrev pub Finds : List Entry → ℕ → Result ℕ Refusal → Type 0
Finds es n (Ok i) = Lives es n i
Finds es n (Err e) = Missing es n e
