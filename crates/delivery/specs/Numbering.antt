-- Whether a message that is answered Error moves the number expected, from the tests of the code; and what is then done.
-- Assumes nothing.
use Rattle.std.specs.Prelude.{◌≡◌, refl, Bool, true, false, List, ℕ, eqb}
use Rattle.std.proofs.Common.{sym, ap, ◌∙◌, true≢false}
use Rattle.wire.specs.declared.Header.{Header}
use Rattle.model.specs.MessageTypes.{Error}
use Rattle.model.specs.State.{Server, Rest, Exchange, open_connection, with_connection}
use Rattle.model.specs.Interface.{Reply.took, Outcome.error_sent}
use Rattle.model.specs.Exchange.{carries}
use Rattle.model.specs.Scan.{Scan.long, Scan.part, Scan.whole}
use Rattle.model.specs.Place.{Role, Role.r_none, Role.r_half_open, Role.r_synchronous, Role.r_asynchronous}
use Rattle.model.specs.Locks.{change}
use Rattle.model.specs.Acts.{say}
use Rattle.model.specs.Step.{finish, number_taken}
use Rattle.state.specs.Tidy.{Tidy}
use Rattle.state.specs.View.{Memory}
use Rattle.sessions.specs.declared.Delivery.{Delivery}
use Rattle.sessions.specs.Did.{Did, plainly}
use Rattle.effects.specs.Interrupted.{commands_are}
use Rattle.effects.specs.Numbering.{moved_by}
use Rattle.sessions.specs.Replies.{error_plan}
use Rattle.sessions.specs.Synchronous.{is_command}

-- only a message on the synchronous channel does
abbrev pub moves_on : Role → Header → Exchange → Bool
moves_on r_none h x = false
moves_on r_half_open h x = false
moves_on r_synchronous h x = carries h x
moves_on r_asynchronous h x = false

-- the number expected behind an Error, by that: of a whole message, of one too large, of one whose payload is not all here
module _ (h : Header) (x : Exchange) where
  abbrev By : Role → ℕ
  By ro = (moved_by (moves_on ro h x) x).number_expected

  pub moved_whole : (ro : Role) (p : List ℕ) (b : Bool) → moves_on ro h x ≡ b → number_taken ro (whole h p) x ≡ (moved_by b x).number_expected
  moved_whole ro p b e = by ro ∙ ap (λ (c : Bool). (moved_by c x).number_expected) e
    where
      by : (ro : Role) → number_taken ro (whole h p) x ≡ By ro
      by r_none = refl
      by r_half_open = refl
      by r_synchronous = refl
      by r_asynchronous = refl

  pub moved_long : (ro : Role) (b : Bool) → moves_on ro h x ≡ b → number_taken ro (long h) x ≡ (moved_by b x).number_expected
  moved_long ro b e = by ro ∙ ap (λ (c : Bool). (moved_by c x).number_expected) e
    where
      by : (ro : Role) → number_taken ro (long h) x ≡ By ro
      by r_none = refl
      by r_half_open = refl
      by r_synchronous = refl
      by r_asynchronous = refl

  pub left_part : (ro : Role) → number_taken ro (part h) x ≡ x.number_expected
  left_part r_none = refl
  left_part r_half_open = refl
  left_part r_synchronous = refl
  left_part r_asynchronous = refl

  -- test by test, on the synchronous channel
  pub left_in_clear : x.in_clear ≡ true → moves_on r_synchronous h x ≡ false
  left_in_clear q = rw q

  module _ (q : x.in_clear ≡ false) where
    pub left_by_kind : is_command h.kind ≡ false → moves_on r_synchronous h x ≡ false
    left_by_kind k = rw (q, sym (commands_are h.kind) ∙ k)

    pub by_number : is_command h.kind ≡ true → (b : Bool) → eqb h.param x.number_expected ≡ b → moves_on r_synchronous h x ≡ b
    by_number k b n = rw (q, sym (commands_are h.kind) ∙ k) n

-- an Error, behind a change of the session's exchange
pub error_moved : (d d₁ : Server) (q : Rest) (c n k l : ℕ) (r : Delivery) (m m₁ m' : Memory) (out out' : List ℕ) → d₁ ≡ record { locks = d.locks; rest = q }
    → (Tidy m → Tidy m₁) → Did (finish d₁ (error_plan d₁ c n k l)) r m₁ m' out out'
    → Did (finish d (plainly (took error_sent k 0) (with_connection q c (open_connection l)) (say c Error n 0))) r m m' out out'
unfolding finish change
error_moved d d₁ q c n k l r m m₁ m' out out' e t x =
    record {
      numbers = x.numbers;
      server = x.server ∙ ap (λ (z : Server). record { locks = z.locks; rest = with_connection z.rest c (open_connection l) }) e;
      buffer = x.buffer;
      same_memory = λ y. absurd (true≢false (sym y));
      same_buffer = λ y. absurd (true≢false (sym y));
      tidy = λ z. x.tidy (t z);
    }
