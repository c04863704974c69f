-- 02, Q-9: who holds what, since when: the rows for the front panel, and the answer to a host that lends a list of rows. Asking changes
-- nothing and is no event. Assumes nothing.
use Rattle.std.specs.Prelude.{◌≡◌, Bool, not, ◌&&◌, cond, List, [], ◌∷◌, ◌++◌, ℕ, ◌<◌, leb, ltb, length, drop}
use Rattle.model.specs.Lists.{tally}
use Rattle.model.specs.State.{Entry, Server, fresh, Making}
use Rattle.model.specs.Interface.{Event}
use Rattle.model.specs.Locks.{no_shared}
use Rattle.model.specs.Acts.{holder}
use Rattle.model.specs.Step.{final}
use Rattle.model.specs.LockModel.{Session, not_exclusive, not_shared}
use Rattle.model.specs.Deciding.{model_after}

-- "A row has the SessionID, whether exclusive and whether shared is held, that reading and that number"
pub record HolderRow : Type 0 where
  pub session : ℕ
  pub exclusive : Bool
  pub shared : Bool
  pub granted_at : ℕ
  pub grants : ℕ

abbrev pub row_of : Entry → HolderRow
row_of e = record { session = e.number; exclusive = e.exclusive; shared = not (no_shared e); granted_at = e.locks_granted.granted_at; grants = e.locks_granted.grants }

-- one more among things that ascend by a number: the lower one goes first, the higher one into the rest
module _ {A : Type 0} (key : A → ℕ) where
  abbrev pub lower : A → A → A
  lower r x = cond (ltb (key r) (key x)) r x

  abbrev pub higher : A → A → A
  higher r x = cond (ltb (key r) (key x)) x r

  abbrev pub put_by : A → List A → List A
  put_by r [] = r ∷ []
  put_by r (x ∷ xs) = lower r x ∷ put_by (higher r x) xs

abbrev pub session_of : HolderRow → ℕ
session_of r = r.session

-- "one row per holding session, ascending by SessionID"
abbrev pub holders_of : List Entry → List HolderRow
holders_of [] = []
holders_of (e ∷ es) = cond (holder e) (put_by session_of (row_of e) (holders_of es)) (holders_of es)

-- "A list shorter than the holders is refused as 9"; else the desk "answers how many"
abbrev pub list_too_short : ℕ
list_too_short = 9

pub record HoldersAnswer : Type 0 where
  pub refusal : ℕ
  pub rows : ℕ

abbrev pub holders_answer : Server → ℕ → HoldersAnswer
holders_answer d room =
    let n = length (holders_of d.locks.entries) in
    cond (leb n room) (record { refusal = 0; rows = n }) (record { refusal = list_too_short; rows = 0 })

-- the list that is lent, after: the rows in front, "leaving further rows untouched"; refused, nothing is written
abbrev pub list_filled : {A : Type 0} → List A → List A → List A
list_filled rows old = cond (leb (length rows) (length old)) (rows ++ drop (length rows) old) old

-- strictly ascending by SessionID
abbrev pub Above : ℕ → List HolderRow → Type 0
Above n [] = Unit {0}
Above n (r ∷ rs) = (n < r.session) × Above n rs

abbrev pub Ascending : List HolderRow → Type 0
Ascending [] = Unit {0}
Ascending (r ∷ rs) = Above r.session rs × Ascending rs

-- the lock model's session holds a lock
abbrev pub holds_lock : Session → Bool
holds_lock s = not (not_exclusive s && not_shared s)

-- after any list of calls: the rows ascend strictly, and are the lock model's holders: of every description as many rows as holders, so
-- every holder has one, and nobody else has any
pub record HoldersShown (v : Making) (es : List Event) : Type 0 where
  pub ascending : Ascending (holders_of (final (fresh v) es).locks.entries)
  pub exactly : (p : ℕ → Bool → Bool → Bool) → tally (λ r. p r.session r.exclusive r.shared) (holders_of (final (fresh v) es).locks.entries)
      ≡ tally (λ s. holds_lock s && p s.number s.exclusive (not (not_shared s))) (model_after v es).sessions
