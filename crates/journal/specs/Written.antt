-- The laws that the writer's code cites. Assumes nothing.
use Rattle.std.specs.Prelude.{◌≡◌, ℕ, ◌+◌, ◌-◌, ◌%◌, ◌^◌, ◌≤◌, true, false, leb, List, [], ◌∷◌, ◌++◌, length, take, drop, ◌==◌, nat_le, Ok, Err, Result, Bool}
use Rattle.std.proofs.Math.Path.{refl}
use Rattle.std.specs.Result.{is_ok, result_unwrap_or}
use Rattle.std.proofs.lemmas.Bool.{false≢true, leb-true}
use Rattle.std.proofs.Common.{sym, ap, subst, ◌∙◌, append_assoc, arith, length-append, length-take, drop_at}
use Rattle.wire.specs.Field.{field, length_field}
use Rattle.wire.specs.Splice.{splice, splice_splice, take_splice}
use Rattle.journal.specs.Journal.{headed, entry, mark, closing, choose}
use Rattle.journal.specs.Bytes.{yes_is, no_is}
use Rattle.journal.specs.Entry.{length_entry}
use Rattle.journal.specs.Steps.{drop_take}
use Rattle.journal.specs.Writer.{Done, Met, place, count, shut, left, new_of, writing, Told, placed}
use Rattle.journal.specs.declared.Unwritten.{Unwritten}
use Rattle.journal.specs.declared.Unwritten.TheVariants.{NoRoom, Closed}

-- what is written behind what was written
pub next : (l : List ℕ) (a : ℕ) (x : List ℕ) (p : ℕ) (y : List ℕ) → p ≡ a + length x → a + length x ≤ length l → splice (splice l a x) p y ≡ splice l a (x ++ y)
next l a x p y e h = ap (λ (k : ℕ). splice (splice l a x) k y) e ∙ splice_splice l a x h y

back_is_mark : field 4 1111573323 ≡ mark
unfolding field
back_is_mark = refl

pub closing_written : (l : List ℕ) (at o n : ℕ) → at + 12 ≤ length l
    → splice (splice (splice l at (field 4 1111573323)) (at + 4) (field 4 o)) (at + 8) (field 4 n) ≡ splice l at (closing o n)
unfolding closing
closing_written l at o n h =
    let e : length (mark ++ field 4 o) ≡ 8 = simp length_field in
    ap (λ (x : List ℕ). splice (splice (splice l at x) (at + 4) (field 4 o)) (at + 8) (field 4 n)) back_is_mark
    ∙ ap (λ (x : List ℕ). splice x (at + 8) (field 4 n)) (next l at mark (at + 4) (field 4 o) refl (omega arith))
    ∙ next l at (mark ++ field 4 o) (at + 8) (field 4 n) (omega arith) (omega arith)

-- part behind part
pub parts_written : (a b c d l : List ℕ) (at : ℕ) → at + length (a ++ b ++ c ++ d) ≤ length l
    → splice (splice (splice (splice l at a) (at + length a) b) (at + length a + length b) c) (at + length a + length b + length c) d ≡ splice l at (a ++ b ++ c ++ d)
parts_written a b c d l at h =
    let e₁ : length (a ++ b) ≡ length a + length b = simp length-append in
    let e₂ : length (a ++ b ++ c) ≡ length a + length b + length c = simp length-append in
    let e₃ : length (a ++ b ++ c ++ d) ≡ length a + length b + length c + length d = simp length-append in
    ap (λ (x : List ℕ). splice (splice x (at + length a + length b) c) (at + length a + length b + length c) d) (next l at a (at + length a) b refl (omega (arith, e₃)))
    ∙ ap (λ (x : List ℕ). splice x (at + length a + length b + length c) d) (next l at (a ++ b) (at + length a + length b) c (omega (arith, e₁)) (omega (arith, e₁, e₃)))
    ∙ next l at (a ++ b ++ c) (at + length a + length b + length c) d (omega (arith, e₂)) (omega (arith, e₂, e₃))

-- the length, then the body
pub body_written : (l : List ℕ) (at : ℕ) (x : List ℕ) → at + 4 + length x ≤ length l → splice (splice l at (field 4 (length x))) (at + 4) x ≡ splice l at (headed x)
body_written l at x h =
    let e : length (field 4 (length x)) ≡ 4 = length_field 4 (length x) in
    next l at (field 4 (length x)) (at + 4) x (omega (arith, e)) (omega (arith, e))

module _ (a b c d : List ℕ) where
  abbrev pub body : List ℕ
  body = a ++ b ++ c ++ d

  pub body_length : length body ≡ length a + length b + length c + length d
  body_length = simp length-append

  pub entry_size : length a + length b + length c + length d + 12 ≡ length (entry body)
  entry_size = omega (arith, length_entry body, body_length)

  -- the length, then part behind part
  pub headed_written : (l : List ℕ) (at : ℕ) → at + 4 + length a + length b + length c + length d ≤ length l
      → splice (splice (splice (splice (splice l at (field 4 (length a + length b + length c + length d))) (at + 4) a) (at + 4 + length a) b)
      (at + 4 + length a + length b) c) (at + 4 + length a + length b + length c) d
      ≡ splice l at (headed body)
  headed_written l at h =
      let f : List ℕ = field 4 (length body) in
      let e : length f ≡ 4 = length_field 4 (length body) in
      let e₁ : length (f ++ a) ≡ 4 + length a = simp (length-append, length_field) in
      let e₂ : length (f ++ a ++ b) ≡ 4 + length a + length b = simp (length-append, length_field) in
      let e₃ : length (f ++ a ++ b ++ c) ≡ 4 + length a + length b + length c = simp (length-append, length_field) in
      ap (λ (n : ℕ). splice (splice (splice (splice (splice l at (field 4 n)) (at + 4) a) (at + 4 + length a) b) (at + 4 + length a + length b) c)
      (at + 4 + length a + length b + length c) d) (sym body_length)
      ∙ ap (λ (x : List ℕ). splice (splice (splice x (at + 4 + length a) b) (at + 4 + length a + length b) c) (at + 4 + length a + length b + length c) d)
      (next l at f (at + 4) a (omega arith) (omega arith))
      ∙ ap (λ (x : List ℕ). splice (splice x (at + 4 + length a + length b) c) (at + 4 + length a + length b + length c) d) (next l at (f ++ a) (at + 4 + length a) b (omega arith) (omega arith))
      ∙ ap (λ (x : List ℕ). splice x (at + 4 + length a + length b + length c) d) (next l at (f ++ a ++ b) (at + 4 + length a + length b) c (omega arith) (omega arith))
      ∙ next l at (f ++ a ++ b ++ c) (at + 4 + length a + length b + length c) d (omega arith) (omega arith)
      ∙ ap (splice l at) (simp append_assoc)

-- the sum is taken of what was just written
pub headed_back : (l : List ℕ) (at : ℕ) (x : List ℕ) (e : ℕ) → e ≡ at + length x → at + length x ≤ length l → take (e - at) (drop at (splice l at x)) ≡ x
headed_back l at x e p h =
    let t : length (take at l) ≡ at = simp length-take (omega arith) in
    sym (drop_take at e (splice l at x))
    ∙ ap (λ (k : ℕ). drop at (take k (splice l at x))) p
    ∙ ap (drop at) (take_splice l at x h)
    ∙ drop_at (take at l) x at t

-- what does D' does D, where the two are one
via : {D D' : Done} {r : Told} {w b : List ℕ} → D ≡ D' → Met D' r w b → Met D r w b
via {r = r} {w = w} {b = b} e m = subst (λ (x : Done). Met x r w b) (sym e) m

-- new
module _ (words book : List ℕ) where
  pub new_no_room : leb (0 + 12) (left book 0) ≡ false → Met (new_of words book) (Err NoRoom) words book
  unfolding new_of
  new_no_room t = via (no_is _ _ t) (record { answer = refl; words = refl; book = refl })

  pub new_made : (w : List ℕ) → nat_le (0 + 12) (left book 0) ≡ true → w ≡ 0 ∷ 0 ∷ 0 ∷ 0 ∷ [] → Met (new_of words book) (Ok tt) w book
  unfolding new_of
  new_made w t e = via (yes_is _ _ t) (record { answer = refl; words = e; book = refl })

-- the tests that were passed where n bytes have a place
pub record Placed (words : List ℕ) (n room at : ℕ) : Type 0 where
  pub there : at ≡ place words
  pub open_yet : (shut words == 0) ≡ true
  pub fits : nat_le (n + 12) room ≡ true
  pub within : n + 12 ≤ room

pub has_place : {words : List ℕ} {n room at : ℕ} → Ok at ≡ placed words n room → Placed words n room at
unfolding placed choose
has_place {words} {n} {room} {at} e = by (shut words == 0) refl (nat_le (n + 12) room) refl
  where
    by : (t : Bool) → (shut words == 0) ≡ t → (u : Bool) → nat_le (n + 12) room ≡ u → Placed words n room at
    by true p true q =
        let h : Ok at ≡ Ok (place words) = rw (p, q) at e in
        record { there = ap (λ (r : Result ℕ Unwritten). result_unwrap_or r 0) h; open_yet = p; fits = q; within = leb-true _ _ q }
    by true p false q = let h : Ok at ≡ Err NoRoom = rw (p, q) at e in absurd (false≢true (sym (ap is_ok h)))
    by false p u q = let h : Ok at ≡ Err Closed = rw p at e in absurd (false≢true (sym (ap is_ok h)))

-- why bytes have no place is why they are not written
why_not : Result ℕ Unwritten → Told
why_not (Ok _) = Ok tt
why_not (Err why) = Err why

-- a call that writes, of n bytes and the closing ones
module _ (words book : List ℕ) (size : ℕ) (x after : List ℕ) (n : ℕ) (same : n ≡ size) where
  -- bytes that have no place are not written
  pub not_written : (why : Unwritten) → Err why ≡ placed words n (left book (place words)) → Met (writing words book size x after) (Err why) words book
  unfolding placed writing choose why_not
  not_written why e = by (shut words == 0) refl (nat_le (size + 12) (left book (place words))) refl
    where
      f : Err why ≡ placed words size (left book (place words))
      f = e ∙ ap (λ (k : ℕ). placed words k (left book (place words))) same

      by : (t : Bool) → (shut words == 0) ≡ t → (u : Bool) → nat_le (size + 12) (left book (place words)) ≡ u → Met (writing words book size x after) (Err why) words book
      by true p true q = let h : Err why ≡ Ok (place words) = rw (p, q) at f in absurd (false≢true (ap is_ok h))
      by true p false q = let h : Err why ≡ Err NoRoom = rw (p, q) at f in rw (p, q) (record { answer = ap why_not h; words = refl; book = refl })
      by false p u q = let h : Err why ≡ Err Closed = rw p at f in rw p (record { answer = ap why_not h; words = refl; book = refl })

  pub write_placed : (w k : List ℕ) {at : ℕ} → Placed words n (left book (place words)) at → w ≡ after → k ≡ splice book at x → Met (writing words book size x after) (Ok tt) w k
  unfolding writing
  write_placed w k {at} h p q =
      via (yes_is _ _ h.open_yet ∙ yes_is _ _ (ap (λ (k : ℕ). leb (k + 12) (left book (place words))) (sym same) ∙ h.fits))
      (record { answer = refl; words = p; book = q ∙ ap (λ (k : ℕ). splice book k x) h.there })

-- the tests may be had one by one
module _ (words book : List ℕ) (size : ℕ) (x after : List ℕ) where
  pub write_done : (n : ℕ) (w k : List ℕ) → n ≡ size → (shut words == 0) ≡ true → nat_le (n + 12) (left book (place words)) ≡ true → w ≡ after → k ≡ splice book (place words) x
      → Met (writing words book size x after) (Ok tt) w k
  unfolding writing
  write_done n w k e h t p q =
      via (yes_is _ _ h ∙ yes_is _ _ (ap (λ (k : ℕ). leb (k + 12) (left book (place words))) (sym e) ∙ t))
      (record { answer = refl; words = p; book = q })

-- the words behind an entry of n bytes
pub words_behind : (words b : List ℕ) {at n : ℕ} → at ≡ place words → n ≡ length (entry b)
    → (at + n) ∷ at ∷ ((count words + 1) % 2 ^ 64) ∷ 0 ∷ [] ≡ (place words + length (entry b)) ∷ place words ∷ ((count words + 1) % 2 ^ 64) ∷ 0 ∷ []
words_behind words b p q = λ i. (p i + q i) ∷ p i ∷ ((count words + 1) % 2 ^ 64) ∷ 0 ∷ []

-- so what is those words is these
pub words_then : (words w b : List ℕ) (n : ℕ) → n ≡ length (entry b) → w ≡ (place words + n) ∷ place words ∷ ((count words + 1) % 2 ^ 64) ∷ 0 ∷ []
    → w ≡ (place words + length (entry b)) ∷ place words ∷ ((count words + 1) % 2 ^ 64) ∷ 0 ∷ []
words_then words w b n e p = p ∙ words_behind words b refl e
