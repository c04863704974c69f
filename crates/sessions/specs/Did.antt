-- What a function of a delivery ensures that does what the model says: the numbers it returns, the server in memory, every byte of the
-- lent buffer; and that a delivery which takes nothing and closes nothing leaves every lent byte alone; memory in order
-- stays so. Assumes nothing.
use Rattle.std.specs.Prelude.{◌≡◌, refl, true, false, List, [], ◌++◌, ℕ, length}
use Rattle.std.proofs.Common.{sym, ap, ◌∙◌, true≢false, append-nil}
use Rattle.wire.specs.Frame.{Frame, bytes_of, written}
use Rattle.wire.specs.Splice.{splice_nil}
use Rattle.model.specs.State.{Server, Rest}
use Rattle.model.specs.Interface.{Reply, DeliveryAnswer, delivery_answer}
use Rattle.model.specs.Canonical.{omits}
use Rattle.model.specs.Locks.{LockEvent.nothing, change}
use Rattle.model.specs.Acts.{Plan}
use Rattle.model.specs.Step.{Result, finish, idle}
use Rattle.state.specs.Tidy.{Tidy}
use Rattle.state.specs.View.{Memory, view}
use Rattle.sessions.specs.declared.Delivery.{Delivery}

abbrev pub numbers_of : Delivery → DeliveryAnswer
numbers_of r = record { refusal = r.refusal; outcome = r.outcome; session = r.session; taken = r.taken; output = r.output; missing = r.missing }

-- k bytes are missing, x is the model's result, r what is returned, m and m' the memory before and after
pub record DidWith (k : ℕ) (x : Result) (r : Delivery) (m m' : Memory) (out out' : List ℕ) : Type 0 where
  pub numbers : numbers_of r ≡ delivery_answer x.reply (length (bytes_of x.frames)) k
  pub server : view m' ≡ x.server
  pub buffer : out' ≡ written out x.frames
  pub same_memory : omits x.reply ≡ true → m' ≡ m
  pub same_buffer : omits x.reply ≡ true → out' ≡ out
  pub tidy : Tidy m → Tidy m'

-- nothing is missing
abbrev pub Did : Result → Delivery → Memory → Memory → List ℕ → List ℕ → Type 0
Did x r m m' out out' = DidWith 0 x r m m' out out'

-- a plan that is no lock event
abbrev pub plainly : Reply → Rest → List Frame → Plan
plainly y q fs = record { reply = y; rest = q; first = []; said = fs; event = nothing }

pub did_plainly : (d : Server) (y : Reply) (q : Rest) (fs : List Frame) (r : Delivery) (m m' : Memory) (out out' : List ℕ)
    → numbers_of r ≡ delivery_answer y (length (bytes_of fs)) 0 → view m' ≡ record { locks = d.locks; rest = q } → out' ≡ written out fs → omits y ≡ false → (Tidy m → Tidy m')
    → Did (finish d (plainly y q fs)) r m m' out out'
unfolding finish change
did_plainly d y q fs r m m' out out' n v b o t =
    let e : fs ++ [] ≡ fs = append-nil fs in
    record {
      numbers = n ∙ ap (λ (x : List Frame). delivery_answer y (length (bytes_of x)) 0) (sym e);
      server = v;
      buffer = b ∙ ap (written out) (sym e);
      same_memory = λ z. absurd (true≢false (sym z ∙ o));
      same_buffer = λ z. absurd (true≢false (sym z ∙ o));
      tidy = t;
    }

-- nothing is changed and nothing is sent: more needed, held
pub did_nothing : (k : ℕ) (y : Reply) (r : Delivery) (m : Memory) (out : List ℕ) → numbers_of r ≡ delivery_answer y 0 k → DidWith k (finish (view m) (idle (view m) y)) r m m out out
unfolding finish change bytes_of
did_nothing k y r m out n =
    record { numbers = n; server = refl; buffer = sym (splice_nil out 0); same_memory = λ z. refl; same_buffer = λ z. refl; tidy = λ t. t }
