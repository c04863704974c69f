-- What an exported function ensures: the model's `Post` for its event, the numbers that it returns, and that memory in order stays so. And how the stages of a call
-- give it: a refusal, or the plan carried out. Assumes nothing.
use Rattle.std.specs.Prelude.{◌≡◌, refl, List, [], ℕ, suc, length}
use Rattle.std.proofs.Common.{sym, ap, subst}
use Rattle.wire.specs.Frame.{bytes_of}
use Rattle.wire.specs.Splice.{splice_nil}
use Rattle.model.specs.State.{Server, connection_at}
use Rattle.model.specs.Interface.{Event, Event.delivery, Reply.refused, delivery_answer}
use Rattle.model.specs.Missing.{if_more, lacking_in, missing}
use Rattle.model.specs.Refusals.{refusal}
use Rattle.model.specs.Scan.{scan}
use Rattle.model.specs.Step.{Result, finish, plan, answered, step, received}
use Rattle.model.specs.Post.{Post}
use Rattle.state.specs.Tidy.{Tidy}
use Rattle.state.specs.View.{Memory, view}
use Rattle.sessions.specs.declared.Delivery.{Delivery}
use Rattle.sessions.specs.Did.{DidWith, numbers_of}

pub record Delivered (e : Event) (r : Delivery) (m m' : Memory) (out out' : List ℕ) : Type 0 where
  pub numbers : numbers_of r ≡ delivery_answer (step (view m) e).reply (length (bytes_of (step (view m) e).frames)) (missing (view m) e)
  pub post : Post view e m m' out out' (step (view m) e).reply (length (bytes_of (step (view m) e).frames))
  pub tidy : Tidy m → Tidy m'

delivered : (e : Event) (r : Delivery) (m m' : Memory) (out out' : List ℕ) → DidWith (missing (view m) e) (step (view m) e) r m m' out out' → Delivered e r m m' out out'
delivered e r m m' out out' p =
    record {
      numbers = p.numbers;
      post = record { new_server = p.server; replies = refl; buffer = p.buffer; output_length = refl; same_memory = p.same_memory; same_buffer = p.same_buffer };
      tidy = p.tidy;
    }

-- a refused call
step_refused : (d : Server) (e : Event) (n : ℕ) → refusal d e ≡ suc n → step d e ≡ record { server = d; reply = refused (suc n); frames = [] }
unfolding step answered
step_refused d e n q = ap (λ (k : ℕ). answered k d e) q

step_taken : (d : Server) (e : Event) → refusal d e ≡ 0 → step d e ≡ finish d (plan d e)
unfolding step answered
step_taken d e q = ap (λ (k : ℕ). answered k d e) q

pub refused_delivery : (e : Event) (n : ℕ) (r : Delivery) (m : Memory) (out : List ℕ) → refusal (view m) e ≡ suc n → r ≡ record {
  refusal = suc n;
  outcome = 0;
  session = 0;
  taken = 0;
  output = 0;
  missing = 0;
}
    → Delivered e r m m out out
unfolding bytes_of
refused_delivery e n r m out q f =
    delivered e r m m out out
    (subst (λ (x : Result). DidWith (if_more x.reply (lacking_in (view m) e)) x r m m out out) (sym (step_refused (view m) e n q))
    (record { numbers = ap numbers_of f; server = refl; buffer = sym (splice_nil out 0); same_memory = λ z. refl; same_buffer = λ z. refl; tidy = λ t. t }))

pub taken_delivery : (c : ℕ) (bs : List ℕ) (room : ℕ) (r : Delivery) (m m' : Memory) (out out' : List ℕ) → refusal (view m) (delivery c bs room) ≡ 0
    → DidWith (if_more (finish (view m) (received (view m) c (scan (connection_at (view m).rest c).remainder bs))).reply (lacking_in (view m) (delivery c bs room)))
    (finish (view m) (received (view m) c (scan (connection_at (view m).rest c).remainder bs))) r m m' out out'
    → Delivered (delivery c bs room) r m m' out out'
unfolding plan
taken_delivery c bs room r m m' out out' q p =
    delivered (delivery c bs room) r m m' out out'
    (subst (λ (x : Result). DidWith (if_more x.reply (lacking_in (view m) (delivery c bs room))) x r m m' out out')
    (sym (step_taken (view m) (delivery c bs room) q)) p)
