-- The rows of the holders, as the host has them, and in an array of the code. Assumes nothing.
use Rattle.std.specs.Prelude.{◌≡◌, Bool, true, false, not, cond, List, [], ◌∷◌, ◌++◌, map, ℕ, suc, ◌+◌, ◌-◌, ◌≤◌, ◌<◌, ltb, length, get_or, take, drop, set}
use Rattle.std.proofs.Math.Path.{refl}
use Rattle.std.proofs.Common.{sym, ap, ap₂, ◌∙◌, arith, drop_of_length-le, lt-ltb, le-ltb, le-leb, drop-cons, take-suc, take-suc-set, drop-set-lt}
use Rattle.std.proofs.lemmas.List.{length-map}
use Rattle.std.proofs.lemmas.Bool.{lt-leb}
use Rattle.std.proofs.Math.Seq.{append_snoc}
use Rattle.model.specs.Sizes.{session_limit}
use Rattle.model.specs.State.{Entry, Server, at, blank}
use Rattle.model.specs.Locks.{no_shared}
use Rattle.model.specs.Acts.{holder}
use Rattle.model.specs.Holders.{HolderRow, HoldersAnswer, row_of, lower, higher, put_by, session_of, holders_of, holders_answer, list_too_short, list_filled}
use Rattle.state.specs.Change.{sessions_held}
use Rattle.state.specs.View.{memory, view, locks_of}
use Rattle.questions.specs.declared.holders.Row.{Row}
use Rattle.questions.specs.declared.holders.Panel.{Panel}
use Rattle.questions.specs.declared.holders.Filling.{Filling}
use Rattle.questions.specs.declared.holders.Counted.{Counted}

-- a row and an answer as numbers
abbrev pub as_row : HolderRow → Row
as_row r = record { session = r.session; exclusive = cond r.exclusive 1 0; shared = cond r.shared 1 0; granted_at = r.granted_at; grants = r.grants }

abbrev pub counted_of : HoldersAnswer → Counted
counted_of a = record { refusal = a.refusal; rows = a.rows }

abbrev pub row_key : Row → ℕ
row_key r = r.session

-- the rows of a server, and of its slots from i on
abbrev pub rows_from : List Entry → ℕ → List Row
rows_from es i = map as_row (holders_of (drop i es))

unfoldable pub rows_in : Server → List Row
rows_in d = map as_row (holders_of d.locks.entries)

-- the rows of a panel
abbrev pub listed : Panel → List Row
listed p = take p.count p.rows

-- one slot's row more, if it holds a lock
unfoldable pub one_row : Entry → List Row → List Row
one_row e rows = cond (holder e) (put_by row_key (as_row (row_of e)) rows) rows

pub one_holds : (e : Entry) (rows : List Row) → holder e ≡ true → one_row e rows ≡ put_by row_key (as_row (row_of e)) rows
unfolding one_row
one_holds e rows h = rw h

pub one_not : (e : Entry) (rows : List Row) → holder e ≡ false → one_row e rows ≡ rows
unfolding one_row
one_not e rows h = rw h

pub length_put : (r : Row) (xs : List Row) → length (put_by row_key r xs) ≡ suc (length xs)
length_put r [] = refl
length_put r (x ∷ xs) = ap suc (length_put (higher row_key r x) xs)

-- ---- the slots one after the other, from the last
map_put : (r : HolderRow) (xs : List HolderRow) → map as_row (put_by session_of r xs) ≡ put_by row_key (as_row r) (map as_row xs)
map_put r [] = refl
map_put r (x ∷ xs) = go (ltb r.session x.session) (λ y. map_put y xs)
  where
    go : (b : Bool) → ((y : HolderRow) → map as_row (put_by session_of y xs) ≡ put_by row_key (as_row y) (map as_row xs))
        → map as_row (cond b r x ∷ put_by session_of (cond b x r) xs) ≡ cond b (as_row r) (as_row x) ∷ put_by row_key (cond b (as_row x) (as_row r)) (map as_row xs)
    go true ih = ap (λ (l : List Row). as_row r ∷ l) (ih x)
    go false ih = ap (λ (l : List Row). as_row x ∷ l) (ih r)

rows_cons : (e : Entry) (es : List Entry) → map as_row (holders_of (e ∷ es)) ≡ one_row e (map as_row (holders_of es))
unfolding one_row
rows_cons e es = go (holder e)
  where
    go : (b : Bool) → map as_row (cond b (put_by session_of (row_of e) (holders_of es)) (holders_of es)) ≡ cond b (put_by row_key (as_row (row_of e)) (map as_row (holders_of es))) (map as_row (holders_of es))
    go true = map_put (row_of e) (holders_of es)
    go false = refl

module _ (w s : List ℕ) where
  pub rows_next : (i : ℕ) → i < session_limit → one_row (at (locks_of w s).entries i) (rows_from (locks_of w s).entries (i + 1)) ≡ rows_from (locks_of w s).entries i
  rows_next i h =
      let es : List Entry = (locks_of w s).entries in
      let f : i + 1 ≡ suc i = omega arith in
      sym (ap (λ (l : List Entry). map as_row (holders_of l)) (drop-cons es i blank (omega (arith, sessions_held w s))) ∙ rows_cons (at es i) (drop (suc i) es)
      ∙ ap (λ (j : ℕ). one_row (at es i) (rows_from es j)) (sym f))

  pub rows_none : (l : List Row) → take 0 l ≡ rows_from (locks_of w s).entries session_limit
  rows_none l =
      let h : length (locks_of w s).entries ≤ session_limit = omega (arith, sessions_held w s) in
      sym (ap (λ (l : List Entry). map as_row (holders_of l)) (drop_of_length-le (locks_of w s).entries h))

  pub rows_all : rows_from (locks_of w s).entries 0 ≡ rows_in (view (memory w s))
  unfolding rows_in
  rows_all = refl

-- ---- a row put into an array of them: what is carried goes into the rest
module _ (n i : ℕ) (out : List Row) (carried d : Row) (more : i < n) (within : i < length out) where
  turn : take i out ++ put_by row_key carried (take (n - i) (drop i out))
      ≡ take i out ++ (lower row_key carried (get_or out i d) ∷ put_by row_key (higher row_key carried (get_or out i d)) (take (n - (i + 1)) (drop (i + 1) out)))
  turn =
      let e : n - i ≡ suc (n - (i + 1)) = omega arith in
      let f : i + 1 ≡ suc i = omega arith in
      let h : drop i out ≡ get_or out i d ∷ drop (suc i) out = drop-cons out i d within in
      rw (e, h, f)

  pub put_stays : (get_or out i d).session ≤ carried.session
      → take (i + 1) out ++ put_by row_key carried (take (n - (i + 1)) (drop (i + 1) out)) ≡ take i out ++ put_by row_key carried (take (n - i) (drop i out))
  put_stays l =
      let f : i + 1 ≡ suc i = omega arith in
      let t : take (i + 1) out ≡ take i out ++ (get_or out i d ∷ []) = rw f (take-suc out i d within) in
      sym (turn
      ∙ rw (le-ltb carried.session (get_or out i d).session l)
      (sym (ap (λ (z : List Row). z ++ put_by row_key carried (take (n - (i + 1)) (drop (i + 1) out))) t
      ∙ append_snoc (take i out) (get_or out i d) (put_by row_key carried (take (n - (i + 1)) (drop (i + 1) out))))))

  pub put_swaps : carried.session < (get_or out i d).session
      → take (i + 1) (set out i carried) ++ put_by row_key (get_or out i d) (take (n - (i + 1)) (drop (i + 1) (set out i carried)))
      ≡ take i out ++ put_by row_key carried (take (n - i) (drop i out))
  put_swaps l =
      let f : i + 1 ≡ suc i = omega arith in
      let t : take (i + 1) (set out i carried) ≡ take i out ++ (carried ∷ []) = rw f (take-suc-set out i carried within) in
      let u : drop (i + 1) (set out i carried) ≡ drop (i + 1) out = drop-set-lt (i + 1) out i carried (omega arith) in
      ap₂ (λ (y z : List Row). y ++ put_by row_key (get_or out i d) (take (n - (i + 1)) z)) t u
      ∙ append_snoc (take i out) carried (put_by row_key (get_or out i d) (take (n - (i + 1)) (drop (i + 1) out)))
      ∙ sym (turn ∙ rw (lt-ltb carried.session (get_or out i d).session l))

pub put_last : (n i : ℕ) (out : List Row) (carried : Row) → i ≡ n → n < length out → take (n + 1) (set out n carried) ≡ take i out ++ put_by row_key carried (take (n - i) (drop i out))
put_last n i out carried e h =
    let f : n + 1 ≡ suc n = omega arith in
    let g : n - n ≡ 0 = omega arith in
    rw (e, f, g) (take-suc-set out n carried h)

-- ---- what `told` is to say: the answer, and rows that make of any list of that length what it is to be
pub record Tells (d : Server) (room : ℕ) (t : Filling) : Type 0 where
  pub right : t.«answer» ≡ counted_of (holders_answer d room)
  pub few : t.count ≤ 32
  pub room_for : t.count ≤ room
  pub makes : (old : List Row) → length old ≡ room → take t.count t.rows ++ drop t.count old ≡ list_filled (rows_in d) old

rows_length : (d : Server) → length (rows_in d) ≡ length (holders_of d.locks.entries)
unfolding rows_in
rows_length d = length-map (holders_of d.locks.entries) as_row

module _ (d : Server) (xs : List Row) (room n : ℕ) (t : take n xs ≡ rows_in d) (l : length (take n xs) ≡ n) where
  counts : length (holders_of d.locks.entries) ≡ n
  counts = sym (rows_length d) ∙ sym (ap length t) ∙ l

  pub tells_short : room < n → Tells d room (record { rows = xs; count = 0; answer = record { refusal = list_too_short; rows = 0 } })
  tells_short h =
      record {
        right = rw (counts, lt-leb n room h);
        few = omega arith;
        room_for = omega arith;
        makes = λ old e. rw (e, rows_length d, counts, lt-leb n room h);
      }

  pub tells_fits : n ≤ room → n ≤ 32 → Tells d room (record { rows = xs; count = n; answer = record { refusal = 0; rows = n } })
  tells_fits h few =
      record {
        right = rw (counts, le-leb n room h);
        few = few;
        room_for = h;
        makes = λ old e. rw (e, rows_length d, counts, le-leb n room h, t);
      }

-- ---- a slot's row, read word by word
module _ (e : Entry) (n x y g h : ℕ) (p q : Bool) where
  back : (b : Bool) → not (not b) ≡ b
  back true = refl
  back false = refl

  pub row_read : n ≡ e.number → x ≡ cond p 1 0 → e.exclusive ≡ p → y ≡ cond q 1 0 → no_shared e ≡ not q → g ≡ e.locks_granted.granted_at → h ≡ e.locks_granted.grants
      → ◌≡◌ {A = Row} (record { session = n; exclusive = x; shared = y; granted_at = g; grants = h }) (as_row (row_of e))
  row_read en ex ep ey eq eg eh =
      λ k. record {
        session = en k;
        exclusive = (ex ∙ ap (λ (b : Bool). cond b 1 0) (sym ep)) k;
        shared = (ey ∙ ap (λ (b : Bool). cond b 1 0) (sym (ap not eq ∙ back q))) k;
        granted_at = eg k;
        grants = eh k;
      }
