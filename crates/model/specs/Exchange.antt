-- 01, "Clear, status, remote, sizes": what a session has asked and been sent. Three definitions are shut, and proofs go by the laws in
-- claims/proofs/Exchange.antt: whether an answer may be given, the number that it carries, message available at a status query.
-- Assumes nothing.
use Rattle.std.specs.Prelude.{Bool, true, false, not, ◌&&◌, ◌||◌, cond, List, ℕ, ◌+◌, ◌*◌, ◌-◌, ◌/◌, ◌%◌, eqb, leb, length}
use Rattle.wire.specs.declared.Header.{Header}
use Rattle.wire.specs.Message.{header, prologue}
use Rattle.wire.specs.Class.{one_of}
use Rattle.wire.specs.MessageId.{start, next}
use Rattle.model.specs.MessageTypes.{commands}
use Rattle.model.specs.State.{Entry, Exchange, Asked, Asked.none, Asked.some, RemoteLocal, half_open}

-- RMT-delivered is control code 1: message available goes off when a message that acts carries it
abbrev pub after_rmt : ℕ → Bool → Bool
after_rmt code available = not (eqb code 1) && available

-- a change of one part: what is asked and message available; the device clear; the client's size; the mode; the count of answers; whether an
-- RMT is expected; the number expected
abbrev pub with_answering : Asked → Bool → Exchange → Exchange
with_answering a m x =
    record {
      in_clear = x.in_clear;
      asked = a;
      message_available = m;
      client_size = x.client_size;
      overlap = x.overlap;
      count = x.count;
      any_sent = x.any_sent;
      rmt_expected = x.rmt_expected;
      number_expected = x.number_expected;
    }

abbrev pub with_clear : Bool → Exchange → Exchange
with_clear b x =
    record {
      in_clear = b;
      asked = x.asked;
      message_available = x.message_available;
      client_size = x.client_size;
      overlap = x.overlap;
      count = x.count;
      any_sent = x.any_sent;
      rmt_expected = x.rmt_expected;
      number_expected = x.number_expected;
    }

abbrev pub with_client_size : ℕ → Exchange → Exchange
with_client_size n x =
    record {
      in_clear = x.in_clear;
      asked = x.asked;
      message_available = x.message_available;
      client_size = n;
      overlap = x.overlap;
      count = x.count;
      any_sent = x.any_sent;
      rmt_expected = x.rmt_expected;
      number_expected = x.number_expected;
    }

abbrev pub with_mode : Bool → Exchange → Exchange
with_mode b x =
    record {
      in_clear = x.in_clear;
      asked = x.asked;
      message_available = x.message_available;
      client_size = x.client_size;
      overlap = b;
      count = x.count;
      any_sent = x.any_sent;
      rmt_expected = x.rmt_expected;
      number_expected = x.number_expected;
    }

abbrev pub with_count : ℕ → Bool → Exchange → Exchange
with_count n b x =
    record {
      in_clear = x.in_clear;
      asked = x.asked;
      message_available = x.message_available;
      client_size = x.client_size;
      overlap = x.overlap;
      count = n;
      any_sent = b;
      rmt_expected = x.rmt_expected;
      number_expected = x.number_expected;
    }

abbrev pub with_expectation : Bool → Exchange → Exchange
with_expectation b x =
    record {
      in_clear = x.in_clear;
      asked = x.asked;
      message_available = x.message_available;
      client_size = x.client_size;
      overlap = x.overlap;
      count = x.count;
      any_sent = x.any_sent;
      rmt_expected = b;
      number_expected = x.number_expected;
    }

abbrev pub with_number : ℕ → Exchange → Exchange
with_number n x =
    record {
      in_clear = x.in_clear;
      asked = x.asked;
      message_available = x.message_available;
      client_size = x.client_size;
      overlap = x.overlap;
      count = x.count;
      any_sent = x.any_sent;
      rmt_expected = x.rmt_expected;
      number_expected = n;
    }

-- 02, Q-10: "each next two more, wrapping"
abbrev pub stepped : Exchange → Exchange
stepped x = with_number (next x.number_expected) x

-- outside a clear, a Data, DataEND or Trigger that carries the number expected moves it, also one that does not act
abbrev pub carries : Header → Exchange → Bool
carries h x = not x.in_clear && (one_of commands h.kind && eqb h.param x.number_expected)

abbrev pub number_after : Header → Exchange → ℕ
number_after h x = cond (carries h x) (next x.number_expected) x.number_expected

-- 02, Q-5: an interrupted session: what is asked is cleared, message available goes off
abbrev pub interrupted : Exchange → Exchange
interrupted x = with_answering none false x

-- 02, Q-5: in synchronized mode each Data, DataEND and Trigger is tested just before it acts: RMT-delivered differs from the expectation
abbrev pub differs : Bool → Bool → Bool
differs a b = cond a (not b) b

abbrev pub out_of_turn : ℕ → Exchange → Bool
out_of_turn code x = not x.overlap && differs (eqb code 1) x.rmt_expected

-- the test clears the expectation
abbrev pub tested : ℕ → Exchange → Exchange
tested code x = with_expectation false (cond (out_of_turn code x) (interrupted x) x)

-- Data, and a status query
abbrev pub note_rmt : ℕ → Exchange → Exchange
note_rmt code x = with_answering x.asked (after_rmt code x.message_available) x

-- DataEND and Trigger acted on set what is asked to their MessageID
abbrev pub ask : ℕ → ℕ → Exchange → Exchange
ask code id x = with_answering (some id) (after_rmt code x.message_available) x

-- AsyncDeviceClear: nothing is asked any more and message available goes off; 02, Q-1: the count is reset; Q-5: no RMT is expected; Q-10: the
-- first number is
abbrev pub enter_clear : Exchange → Exchange
enter_clear x = with_number start (with_expectation false (with_count start false (with_clear true (with_answering none false x))))

-- DeviceClearComplete ends it; 02, Q-1: its bit 0 is granted as asked
abbrev pub bit0 : ℕ → ℕ
bit0 k = k % 2

abbrev pub leave_clear : ℕ → Exchange → Exchange
leave_clear code x = with_mode (eqb (bit0 code) 1) (with_clear false x)

-- an answer: DataEND then clears what is asked; message available goes on when an answer is sent; 02, Q-1: answers are counted by two,
-- wrapping; 02, Q-5: an END sent sets the expectation
abbrev pub answered_with : Bool → Exchange → Exchange
answered_with end x = with_expectation (end || x.rmt_expected) (with_count (next x.count) true (with_answering (cond end none x.asked) true x))

-- a status query with RMT-delivered clears the expectation
abbrev pub queried : ℕ → Exchange → Exchange
queried code x = with_expectation (after_rmt code x.rmt_expected) (note_rmt code x)

-- refusal 5: the session has asked nothing
abbrev pub is_asked : Asked → Bool
is_asked none = false
is_asked (some n) = true

-- 02, Q-1: in overlap mode refusal 5 is given exactly to a session half-open or in a clear
abbrev pub may_answer_in : Bool → Entry → Exchange → Bool
may_answer_in true e x = not (half_open e) && not x.in_clear
may_answer_in false e x = is_asked x.asked

unfoldable pub may_answer : Entry → Exchange → Bool
may_answer e x = may_answer_in x.overlap e x

-- a meter answer is sent with the number that is asked; 02, Q-1: in overlap mode with the count of answers in its place
abbrev pub number_asked : Asked → ℕ
number_asked none = 0
number_asked (some n) = n

abbrev pub answer_number_in : Bool → Exchange → ℕ
answer_number_in true x = x.count
answer_number_in false x = number_asked x.asked

unfoldable pub answer_number : Exchange → ℕ
answer_number x = answer_number_in x.overlap x

-- message available at a status query: RMT-delivered counts before the response is formed; 02, Q-1: in overlap mode, some answer was sent
-- since the last reset and the query's number differs from the last one sent, which is the one before the count
abbrev pub available_in : Bool → Header → Exchange → Bool
available_in true h x = x.any_sent && not (eqb (next h.param) x.count)
available_in false h x = after_rmt h.code x.message_available

unfoldable pub available_at : Header → Exchange → Bool
available_at h x = available_in x.overlap h x

-- 02, Q-5: the bytes shown with an answer interrupt it: with no remainder to skip, they begin with a whole header, "HS" and type 6, 7 or 12
abbrev pub interrupts : ℕ → List ℕ → Bool
interrupts r bs = eqb r 0 && (leb 16 (length bs) && (prologue bs && one_of commands (header bs).kind))

-- the status response is the meter's byte with value 16 replaced by message available
abbrev pub status_byte : ℕ → Bool → ℕ
status_byte b available = (b - b / 16 % 2 * 16) + cond available 16 0

-- codes 0 and 2 clear all three; 1 sets enable; 3 sets enable and remote; 4 enable and lockout; 5 all; 6 clears remote
abbrev pub flags : Bool → Bool → Bool → RemoteLocal
flags e l r = record { enable = e; lockout = l; remote = r }

unfoldable pub controlled : ℕ → RemoteLocal → RemoteLocal
controlled k r =
    cond (eqb k 1) (flags true r.lockout r.remote)
    (cond (eqb k 3) (flags true r.lockout true)
    (cond (eqb k 4) (flags true true r.remote)
    (cond (eqb k 5) (flags true true true)
    (cond (eqb k 6) (flags r.enable r.lockout false) (flags false false false)))))
