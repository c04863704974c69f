-- Laws of what specs/Run.antt defines. Assumes nothing.
use Rattle.std.specs.Prelude.{◌≡◌, ℕ, ◌-◌, ◌≤◌, min, List, [], length, take, nat_eq}
use Rattle.std.proofs.Common.{sym, ◌∙◌, take-take}
use Rattle.std.proofs.Math.Path.{ap}
use native.Mathlib.Omega.{arith}
use Rattle.wire.specs.Field.{number_at}
use Rattle.journal.specs.Journal.{closed_journal, AllFine, forward, backward, reach, used}
use Rattle.journal.proofs.Forward.{forward_closed}
use Rattle.journal.proofs.Backward.{backward_closed}
use Rattle.journal.specs.Holds.{stays_closed, IsClosed, close_closes}
use Rattle.journal.specs.Places.{forward_at, backward_at}
use Rattle.journal.proofs.Prefix.{stopped}
use Rattle.journal.specs.Trailer.{says_last, says_count}
use Rattle.journal.specs.Walks.{walk, forward_all, used_short}
use Rattle.journal.proofs.Walks.{backward_all}
use Rattle.journal.specs.Writer.{Done, place, shut, left, new_of, close_of, offered, kept, bytes_written}
use Rattle.journal.specs.Run.{open_run, Journaled}

journaled : (bs : List (List ℕ)) (done : Done) → IsClosed bs done → Journaled bs done
journaled bs done c =
    let s : List ℕ = closed_journal bs in
    let p : place done.words ≡ length s = ap place c.says in
    let e : bytes_written done ≡ s = ap (λ (k : ℕ). take k done.book) p ∙ c.all in
    let u : used s ≡ s = used_short s c.reaches in
    let still = stays_closed done.words done.book (ap (λ (w : List ℕ). nat_eq (shut w) 0) c.says) in
    record {
      answer = c.answer;
      whole = e;
      offset = ap (λ (x : List ℕ). number_at x (length x - 8) 4) e ∙ says_last bs c.reaches;
      count = ap (λ (x : List ℕ). number_at x (length x - 4) 4) e ∙ says_count bs c.reaches;
      forwards =
          ap (λ (x : List ℕ). walk forward_at (length x) x 0) e
          ∙ ap (λ (x : List ℕ). walk forward_at (length x) s 0) (sym u)
          ∙ forward_all s
          ∙ ap forward u
          ∙ forward_closed bs c.fine;
      backwards =
          ap (λ (x : List ℕ). walk backward_at (length x) x (length x - 12)) e
          ∙ ap (λ (x : List ℕ). walk backward_at (length x) s (length x - 12)) (sym u)
          ∙ backward_all s
          ∙ ap backward u
          ∙ backward_closed bs c.fine;
      torn = λ k h.
          ap forward (sym (take-take k (length s) done.book (omega arith)) ∙ ap (take k) c.all) ∙ stopped bs k c.fine;
      appends = still.0;
      closes = still.1;
    }

-- Then the journal is closed.
pub closed_run : (words book : List ℕ) (bs : List (List ℕ)) → 12 ≤ left book 0 → AllFine bs
    → (let d : Done = offered (new_of words book) bs in Journaled (kept (min (length book) reach) [] bs) (close_of d.words d.book))
closed_run words book bs h f =
    let d : Done = offered (new_of words book) bs in
    journaled _ _ (close_closes (kept (min (length book) reach) [] bs) d.words d.book (open_run words book bs h f))
