-- A host that sleeps until the deadline told, proved: by one walk over those that wait, with the earliest deadline so far.
use mathlib.Core.Path.{◌≡◌, refl}
use mathlib.Core.Logic.{◌⊎◌, inl, inr, ⊎_elim}
use mathlib.Core.Bool.{Bool, true, false, not, cond}
use mathlib.Core.List.{List, [], ◌∷◌}
use Prim.Native.Nat.{ℕ, zero, suc, ◌≤◌, ◌<◌, min}
use native.Mathlib.Omega.{arith}
use lib.Dec.{leb}
use lib.ListN.{length, length-append, length-map}
use borrow.Author.Tests.{lt-leb, leb-false}
use Rattle.model.specs.State.{Server, Entry, Waiting}
use Rattle.model.specs.Interface.{Event.clock, Reply.done}
use Rattle.model.specs.Refusals.{refusal}
use Rattle.model.specs.Locks.{Answer, tell, refuse, unexpired, change}
use Rattle.model.specs.Step.{step, answered, finish, plan}
use Rattle.model.specs.Asking.{earliest_of, earliest, Wakes}

module _ (es : List Entry) (t : ℕ) where
  -- a reading before the earliest deadline is before each
  none_due : (u : ℕ) (ws : List Waiting) → t < earliest_of u ws → (t < u) × (refuse es (unexpired t) ws ≡ [])
  none_due u [] h = (h, refl)
  none_due u (w ∷ ws) h =
      let r = none_due (min u w.deadline) ws h in
      let q : t < min u w.deadline = r.0 in
      (omega arith, rw (lt-leb w.deadline t (omega arith)) r.1)

  -- one at or past it is at or past one of them
  some_due : (u : ℕ) (ws : List Waiting) → earliest_of u ws ≤ t → (u ≤ t) ⊎ (0 < length (refuse es (unexpired t) ws))
  some_due u [] h = inl h
  some_due u (w ∷ ws) h = by (leb w.deadline t) refl (some_due (min u w.deadline) ws h)
    where
      by : (b : Bool) → leb w.deadline t ≡ b → (min u w.deadline ≤ t) ⊎ (0 < length (refuse es (unexpired t) ws))
          → (u ≤ t) ⊎ (0 < length (cond (not b) (refuse es (unexpired t) ws) (tell es w.slot 0 true ∷ refuse es (unexpired t) ws)))
      by true e r = inr (omega arith)
      by false e r =
          let q : t < w.deadline = leb-false w.deadline t e in
          ⊎_elim (λ (x : min u w.deadline ≤ t). inl (omega arith)) (λ (x : 0 < length (refuse es (unexpired t) ws)). inr x) r

  none_answered : (ws : List Waiting) → t < earliest ws → refuse es (unexpired t) ws ≡ []
  none_answered [] h = refl
  none_answered (w ∷ ws) h = let r = none_due w.deadline ws h in rw (lt-leb w.deadline t r.0) r.1

  some_answered : (ws : List Waiting) → 0 < length ws → earliest ws ≤ t → 0 < length (refuse es (unexpired t) ws)
  some_answered [] l h = absurd (omega arith)
  some_answered (w ∷ ws) l h = by (leb w.deadline t) refl (some_due w.deadline ws h)
    where
      by : (b : Bool) → leb w.deadline t ≡ b → (w.deadline ≤ t) ⊎ (0 < length (refuse es (unexpired t) ws))
          → 0 < length (cond (not b) (refuse es (unexpired t) ws) (tell es w.slot 0 true ∷ refuse es (unexpired t) ws))
      by true e r = omega arith
      by false e r =
          let q : t < w.deadline = leb-false w.deadline t e in
          ⊎_elim (λ (x : w.deadline ≤ t). absurd (omega arith)) (λ (x : 0 < length (refuse es (unexpired t) ws)). x) r

pub wakes : (d : Server) → Wakes d
unfolding step answered finish plan change
wakes d = record { before = before; at_last = at_last }
  where
    es : List Entry
    es = d.locks.entries

    before : (t room : ℕ) → t < earliest d.locks.waiting → (answered (refusal d (clock t room)) d (clock t room)).frames ≡ []
    before t room h = go (refusal d (clock t room))
      where
        go : (n : ℕ) → (answered n d (clock t room)).frames ≡ []
        go (suc n) = refl
        go zero = rw (none_answered d.locks.entries t d.locks.waiting h) refl

    at_last : (t room : ℕ) → 0 < length d.locks.waiting → earliest d.locks.waiting ≤ t → (answered (refusal d (clock t room)) d (clock t room)).reply ≡ done
        → 0 < length (answered (refusal d (clock t room)) d (clock t room)).frames
    at_last t room l h = go (refusal d (clock t room))
      where
        go : (n : ℕ) → (answered n d (clock t room)).reply ≡ done → 0 < length (answered n d (clock t room)).frames
        go (suc n) e = let w : ◌≡◌ {A = ℕ} 0 1 = cc in omega arith
        go zero e =
            let a : List Answer = refuse d.locks.entries (unexpired t) d.locks.waiting in
            simp (length-append, length-map) (omega (arith, some_answered d.locks.entries t d.locks.waiting l h))
