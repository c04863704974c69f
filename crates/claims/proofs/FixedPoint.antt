-- O, proved: lines that are kept are kept again, with the same bytes shown.
use mathlib.Core.Path.{◌≡◌, refl, ap, ◌∙◌}
use mathlib.Core.Bool.{Bool, true, false, cond}
use mathlib.Core.List.{List, [], ◌∷◌}
use Prim.Native.Nat.{ℕ, zero, suc}
use native.Mathlib.Omega.{arith}
use lib.Seq.{take-take}
use Rattle.model.specs.State.{Server}
use Rattle.model.specs.Interface.{Event, Event.opening, Event.delivery, Event.cut, Event.clock, Event.answer, Event.status, Event.setting}
use Rattle.model.specs.Step.{Line, log}
use Rattle.model.specs.Canonical.{omits, taken, bytes, shown, kept, events}
use Rattle.model.specs.FixedPoint.{FixedPoint}
use Rattle.claims.proofs.Canonical.{canonical_history}

bytes_again : (k : ℕ) (bs : List ℕ) → bytes k (bytes k bs) ≡ bytes k bs
bytes_again zero bs = refl
bytes_again (suc k) bs = take-take (suc k) (suc k) bs (omega arith)

shown_again : (e : Event) (k : ℕ) → shown (shown e k) k ≡ shown e k
shown_again (opening c) k = refl
shown_again (delivery c bs room) k = ap (λ x. delivery c x room) (bytes_again k bs)
shown_again (cut c room) k = refl
shown_again (clock t room) k = refl
shown_again (answer n p end sh room) k = refl
shown_again (status b) k = refl
shown_again (setting s) k = refl

kept_again : (ls : List Line) → kept (kept ls) ≡ kept ls
kept_again [] = refl
kept_again (l ∷ ls) = go (omits l.reply) refl (kept_again ls)
  where
    go : (b : Bool) → omits l.reply ≡ b → kept (kept ls) ≡ kept ls
        → kept (cond b (kept ls) (record { event = shown l.event (taken l.reply); reply = l.reply; frames = l.frames } ∷ kept ls))
        ≡ cond b (kept ls) (record { event = shown l.event (taken l.reply); reply = l.reply; frames = l.frames } ∷ kept ls)
    go true e h = h
    go false e h = rw (e, h, shown_again l.event (taken l.reply))

pub fixed_point : (d : Server) (es : List Event) → FixedPoint d es
fixed_point d es = record { fixed = ap (λ ls. events (kept ls)) (canonical_history es d).same_lines ∙ ap events (kept_again (log d es)) }
