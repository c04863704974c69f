-- The laws of the three shut definitions about a session's exchange. Nothing else opens them.
use mathlib.Core.Path.{◌≡◌, refl}
use mathlib.Core.Bool.{true, false, not, ◌&&◌, false≢true}
use Prim.Native.Nat.{ℕ}
use lib.Dec.{eqb}
use Rattle.wire.specs.MessageId.{next}
use Rattle.wire.specs.declared.Header.{Header}
use Rattle.model.specs.State.{Entry, Exchange, half_open, Asked, Asked.none, Asked.some}
use Rattle.model.specs.Exchange.{may_answer, answer_number, available_at, is_asked, number_asked, note_rmt}

-- in synchronized mode an answer may be given just when something is asked, and carries its number
pub may_answer_lem : (e : Entry) (x : Exchange) → may_answer e x ≡ true → x.overlap ≡ false → x.asked ≡ some (answer_number x)
unfolding may_answer answer_number
may_answer_lem e x h o = rw o (go x.asked (rw o at h))
  where
    go : (a : Asked) → is_asked a ≡ true → a ≡ some (number_asked a)
    go none h = absurd (false≢true h)
    go (some n) h = refl

pub answer_may : (e : Entry) (x : Exchange) (n : ℕ) → x.overlap ≡ false → x.asked ≡ some n → (may_answer e x ≡ true) × (answer_number x ≡ n)
unfolding may_answer answer_number
answer_may e x n o q = (rw (o, q), rw (o, q))

-- in overlap mode just when the session is neither half-open nor in a device clear, and carries the count
pub may_overlap : (e : Entry) (x : Exchange) → x.overlap ≡ true → may_answer e x ≡ (not (half_open e) && not x.in_clear)
unfolding may_answer
may_overlap e x o = rw o

pub answer_counts : (x : Exchange) → x.overlap ≡ true → answer_number x ≡ x.count
unfolding answer_number
answer_counts x o = rw o

-- a status query is answered, in synchronized mode, by message available as the query leaves it
pub available_at_lem : (h : Header) (x : Exchange) → x.overlap ≡ false → available_at h x ≡ (note_rmt h.code x).message_available
unfolding available_at
available_at_lem h x o = rw o

-- in overlap mode, by whether the last one sent differs from the number that it carries
pub available_overlap : (h : Header) (x : Exchange) → x.overlap ≡ true → available_at h x ≡ (x.any_sent && not (eqb (next h.param) x.count))
unfolding available_at
available_overlap h x o = rw o
