-- C. The count: locks granted, counted from the answers sent = those released + those dropped by closings + those still held in the server.
-- Assumes nothing.
use Rattle.std.specs.Prelude.{◌≡◌, Bool, cond, ◌&&◌, ◌||◌, not, List, [], ◌∷◌, ℕ, ◌+◌, eqb}
use Rattle.model.specs.Lists.{tally}
use Rattle.model.specs.State.{Entry, Server, fresh, Making}
use Rattle.model.specs.Interface.{Event, Outcome, Outcome.more_needed, Outcome.skipped, Outcome.held, Outcome.ignored, Outcome.error_sent, Outcome.closed, Outcome.acted}
use Rattle.model.specs.Locks.{no_shared}
use Rattle.model.specs.Step.{final, log}
use Rattle.model.specs.LockModel.{Session, Model, Told, Fed, Fed.f_refused, Fed.f_other, Fed.f_cut, Fed.f_clock, Fed.f_delivery, model_step, model_run, fresh_model, on, not_shared}
use Rattle.model.specs.Agreement.{feeds}

-- 01: still held, the locks in the desk (exclusive and shared one each)
abbrev pub locks_of : Entry → ℕ
locks_of e = cond e.exclusive 1 0 + cond (no_shared e) 0 1

unfoldable pub locks_held : List Entry → ℕ
locks_held [] = 0
locks_held (e ∷ es) = locks_of e + locks_held es

-- 01: granted counts answers 1 to requests; released answers 1 and 2 to releases (02, Q-3: "The lock counts as released when its answer is sent")
abbrev pub is_grant : Told → Bool
is_grant a = a.request && eqb a.code 1

abbrev pub tells_release : Told → Bool
tells_release a = not a.request && (eqb a.code 1 || eqb a.code 2)

unfoldable pub count : (Told → Bool) → List Told → ℕ
count p [] = 0
count p (a ∷ xs) = cond (p a) 1 0 + count p xs

-- 01: dropped, the locks of removed sessions: those on the connection, exclusive and shared one each
abbrev pub locks_on : ℕ → List Session → ℕ
locks_on c ss = tally (λ s. on c s && s.exclusive) ss + tally (λ s. on c s && not (not_shared s)) ss

abbrev pub lost_by : Outcome → ℕ → List Session → ℕ
lost_by more_needed c ss = 0
lost_by skipped c ss = 0
lost_by held c ss = 0
lost_by ignored c ss = 0
lost_by error_sent c ss = 0
lost_by closed c ss = locks_on c ss
lost_by acted c ss = 0

abbrev pub lost : Model → Fed → ℕ
lost m f_refused = 0
lost m f_other = 0
lost m (f_cut c) = locks_on c m.sessions
lost m (f_clock t) = 0
lost m (f_delivery c o n bs) = lost_by o c m.sessions

unfoldable pub dropped : Model → List Fed → ℕ
dropped m [] = 0
dropped m (f ∷ fs) = lost m f + dropped (model_step m f).model fs

pub record Balanced (d : Server) (m : Model) (es : List Event) : Type 0 where
  pub balance : locks_held d.locks.entries + count is_grant (model_run m (feeds (log d es))).told
      ≡ count tells_release (model_run m (feeds (log d es))).told + dropped m (feeds (log d es)) + locks_held (final d es).locks.entries

-- from the fresh server
pub record Count (v : Making) (es : List Event) : Type 0 where
  pub balance : count is_grant (model_run fresh_model (feeds (log (fresh v) es))).told
      ≡ count tells_release (model_run fresh_model (feeds (log (fresh v) es))).told + dropped fresh_model (feeds (log (fresh v) es)) + locks_held (final (fresh v) es).locks.entries
