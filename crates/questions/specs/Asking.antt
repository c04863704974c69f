-- The questions' answers as numbers. Assumes nothing.
use Rattle.std.specs.Prelude.{◌≡◌, Bool, true, false, cond, Result, Ok, Err, ℕ}
use Rattle.sessions.specs.Refusals.{number_of}
use Rattle.sessions.specs.declared.refusal.Refusal.{Refusal}
use Rattle.std.proofs.Common.{ap, ◌∙◌, sym}
use Rattle.readings.specs.Bits.{bits}
use Rattle.readings.specs.Record.{Recorded}
use Rattle.model.specs.State.{Server, at, live, slot_of_number, exchange_at, sensing_at}
use Rattle.model.specs.Interface.{no_such_session}
use Rattle.model.specs.Asking.{DeadlineAnswer, SizeAnswer, size_answer, ReadingsAnswer, no_readings, readings_told, readings_answer}
use Rattle.questions.specs.declared.asking.Deadline.{Deadline}
use Rattle.questions.specs.declared.asking.Size.{Size}
use Rattle.questions.specs.declared.watched.Readings.{Readings}

abbrev pub deadline_numbers : Deadline → DeadlineAnswer
deadline_numbers r = record { waiting = r.waiting; deadline = r.deadline }

abbrev pub size_numbers : Size → SizeAnswer
size_numbers r = record { refusal = r.refusal; size = r.size }

-- a size that is told, or a refusal
abbrev pub size_told : Result ℕ Refusal → Size
size_told (Ok x) = record { refusal = 0; size = x }
size_told (Err e) = record { refusal = number_of e; size = 0 }

-- by the slot found, and whether it is live
module _ (d : Server) (n i : ℕ) (f : slot_of_number d.locks.entries n ≡ i) (r : Size) where
  by_slot : (b : Bool) → live (at d.locks.entries i) ≡ b
      → size_answer d n ≡ cond b (record { refusal = 0; size = (exchange_at d.rest i).client_size }) (record { refusal = no_such_session; size = 0 })
  by_slot b e =
      ap (λ (j : ℕ). cond (live (at d.locks.entries j)) (record { refusal = 0; size = (exchange_at d.rest j).client_size }) (record { refusal = no_such_session; size = 0 })) f
      ∙ ap (λ (x : Bool). cond {A = SizeAnswer} x (record { refusal = 0; size = (exchange_at d.rest i).client_size }) (record { refusal = no_such_session; size = 0 })) e

  pub no_session : live (at d.locks.entries i) ≡ false → r ≡ record { refusal = no_such_session; size = 0 } → size_numbers r ≡ size_answer d n
  no_session e q = ap size_numbers q ∙ sym (by_slot false e)

  pub session_size : (x : ℕ) → live (at d.locks.entries i) ≡ true → (exchange_at d.rest i).client_size ≡ x → r ≡ record { refusal = 0; size = x } → size_numbers r ≡ size_answer d n
  session_size x e z q = ap size_numbers q ∙ ap (λ (y : ℕ). record { refusal = 0; size = y }) (sym z) ∙ sym (by_slot true e)

-- a record by its bits
abbrev pub readings_numbers : Readings → ReadingsAnswer
readings_numbers r = record { refusal = r.refusal; seen = r.seen; last = bits r.last; lowest = bits r.lowest; highest = bits r.highest }

module _ (d : Server) (n i : ℕ) (f : slot_of_number d.locks.entries n ≡ i) (x : ReadingsAnswer) where
  told_by_lem : (b : Bool) → live (at d.locks.entries i) ≡ b → readings_answer d n ≡ cond b (readings_told (sensing_at d.rest i).recorded) (no_readings no_such_session)
  told_by_lem b e =
      ap (λ (j : ℕ). cond (live (at d.locks.entries j)) (readings_told (sensing_at d.rest j).recorded) (no_readings no_such_session)) f
      ∙ ap (λ (y : Bool). cond y (readings_told (sensing_at d.rest i).recorded) (no_readings no_such_session)) e

  pub nobody_told : live (at d.locks.entries i) ≡ false → x ≡ no_readings no_such_session → x ≡ readings_answer d n
  nobody_told e q = q ∙ sym (told_by_lem false e)

  pub none_told : (r : Recorded) → live (at d.locks.entries i) ≡ true → r ≡ (sensing_at d.rest i).recorded → r.seen ≡ false → x ≡ no_readings 0 → x ≡ readings_answer d n
  none_told r e q s z = z ∙ sym (told_by_lem true e ∙ ap readings_told (sym q)
      ∙ ap (λ (b : Bool). cond b (record { refusal = 0; seen = 1; last = r.last; lowest = r.lowest; highest = r.highest }) (no_readings 0)) s)

  pub some_told : (r : Recorded) → live (at d.locks.entries i) ≡ true → r ≡ (sensing_at d.rest i).recorded → r.seen ≡ true
      → x ≡ record { refusal = 0; seen = 1; last = r.last; lowest = r.lowest; highest = r.highest } → x ≡ readings_answer d n
  some_told r e q s z = z ∙ sym (told_by_lem true e ∙ ap readings_told (sym q)
      ∙ ap (λ (b : Bool). cond b (record { refusal = 0; seen = 1; last = r.last; lowest = r.lowest; highest = r.highest }) (no_readings 0)) s)
