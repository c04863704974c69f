-- The earliest deadline, by a walk over the queue: what is looked at already is one number. Assumes nothing.
use Rattle.std.specs.Prelude.{◌≡◌, refl, List, [], ◌∷◌, ℕ, ◌+◌, ◌≤◌, ◌<◌, min, length, get_or, drop}
use Rattle.std.proofs.Common.{ap, arith, drop_of_length-le}
use Rattle.model.specs.State.{Waiting}
use Rattle.model.specs.Asking.{earliest_of, earliest}
use Rattle.queue.specs.Queue.{no_request}
use Rattle.holding.specs.Waiting.{next}

pub none_waits : (ws : List Waiting) → length ws ≡ 0 → earliest ws ≡ 0
none_waits [] e = refl
none_waits (w ∷ ws) e = absurd (omega arith)

pub earliest_first : (ws : List Waiting) (r : Waiting) → 0 < length ws → get_or ws 0 no_request ≡ r → earliest ws ≡ earliest_of r.deadline (drop 1 ws)
earliest_first [] r h e = absurd (omega arith)
earliest_first (w ∷ ws) r h e = ap (λ (x : Waiting). earliest_of x.deadline ws) e

pub earliest_next : (ws : List Waiting) (b j : ℕ) (r : Waiting) → j < length ws → get_or ws j no_request ≡ r → earliest_of b (drop j ws) ≡ earliest_of (min b r.deadline) (drop (j + 1) ws)
earliest_next ws b j r h e = ap (earliest_of b) (next ws j r h e)

pub earliest_last : (ws : List Waiting) (b j : ℕ) → length ws ≤ j → earliest_of b (drop j ws) ≡ b
earliest_last ws b j h = ap (earliest_of b) (drop_of_length-le ws h)
