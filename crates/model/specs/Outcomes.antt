-- What the outcome of a delivery tells of the bytes that the host showed, where they are not taken: more needed, only where nothing
-- or less than a message is here; held, only a whole message; and an established session closes only by a wrong prologue or a whole
-- message. What is taken: specs/OnlyWhole.antt.
use Rattle.std.specs.Prelude.{◌≡◌, Bool, true, false, List, [], ◌∷◌, ◌⊎◌, ℕ, ◌≤◌, length}
use Rattle.wire.specs.Message.{Message, Decoded, decode}
use Rattle.model.specs.Sizes.{payload_limit}
use Rattle.model.specs.State.{fresh, Making}
use Rattle.model.specs.Interface.{Event, Event.delivery, Outcome, Outcome.more_needed, Outcome.skipped, Outcome.held, Outcome.ignored}
use Rattle.model.specs.Interface.{Outcome.error_sent, Outcome.closed, Outcome.acted, Reply, Reply.refused, Reply.done, Reply.withheld, Reply.took}
use Rattle.model.specs.Place.{Role, Role.r_none, Role.r_half_open, Role.r_synchronous, Role.r_asynchronous, role_of}
use Rattle.model.specs.Step.{Line, step, final, log}
use Rattle.model.specs.Canonical.{kept}
use Rattle.model.specs.Possible.{AllPossible}
use Rattle.model.specs.OnlyWhole.{owes_next}

-- what each connection owes after some lines
abbrev pub owed_in : (ℕ → ℕ) → List Line → ℕ → ℕ
owed_in owed [] = owed
owed_in owed (l ∷ ls) = owed_in (owes_next l.event l.reply owed) ls

abbrev pub established : Role → Bool
established r_none = false
established r_half_open = false
established r_synchronous = true
established r_asynchronous = true

-- at the front of the bytes stands a whole message, with a payload of at most 1,024 bytes
pub record BeginsWhole (bs : List ℕ) : Type 0 where
  pub message : Message
  pub reads : decode bs ≡ Decoded.whole message
  pub within : length message.payload ≤ payload_limit

-- on a connection that owes r bytes
abbrev pub TellsBy : Outcome → Bool → ℕ → List ℕ → ℕ → Type 0
TellsBy more_needed e r bs k = (k ≡ 0) × ((bs ≡ []) ⊎ ((r ≡ 0) × (decode bs ≡ Decoded.short)))
TellsBy held e r bs k = (k ≡ 0) × (r ≡ 0) × BeginsWhole bs
TellsBy closed e r bs k = (k ≡ 0) × (r ≡ 0) × (e ≡ true → (decode bs ≡ Decoded.wrong) ⊎ BeginsWhole bs)
TellsBy skipped e r bs k = Unit {0}
TellsBy ignored e r bs k = Unit {0}
TellsBy error_sent e r bs k = Unit {0}
TellsBy acted e r bs k = Unit {0}

abbrev pub Tells : Reply → Bool → ℕ → List ℕ → Type 0
Tells (refused n) e r bs = Unit {0}
Tells done e r bs = ⊥
Tells withheld e r bs = ⊥
Tells (took o k n) e r bs = TellsBy o e r bs k

-- any delivery after any list of possible calls
pub record OutcomesTell : Type 0 where
  pub any_run : (v : Making) (es : List Event) (c : ℕ) (bs : List ℕ) (room : ℕ) → AllPossible es
      → Tells (step (final (fresh v) es) (delivery c bs room)).reply (established (role_of (final (fresh v) es).locks.entries c)) (owed_in (λ c. 0) (kept (log (fresh v) es)) c) bs
