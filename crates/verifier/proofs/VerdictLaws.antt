-- Laws of what specs/Verdict.antt defines. Assumes nothing.
use Rattle.std.proofs.Math.Path.{◌≡◌, refl, sym, ap, subst}
use Rattle.std.proofs.Common.{◌∙◌, take_at, drop_at, length-take, drop_of_length-le}
use Rattle.std.proofs.Math.Bool.{Bool, true, false}
use Rattle.std.specs.Prelude.{◌&&◌, leb}
use mathlib.Core.List.{List, [], ◌∷◌, ◌++◌, append_assoc, append-nil}
use Prim.Native.Nat.{ℕ, zero, suc, ◌+◌, ◌^◌, ◌≤◌, ◌<◌, min}
use native.Mathlib.Omega.{arith}
use Rattle.std.proofs.Math.Dec.{eqb}
use Rattle.std.proofs.Math.ListN.{length, take, length-append, drop, length-drop}
use borrow.Author.Tests.{le-leb, leb-true, leb-false, eq-eqb, ne_eqb, eqb-true}
use Rattle.wire.specs.Field.{field, number, number_at, Bytes, length_field, number_bound}
use Rattle.crc.specs.Crc.{crc_of}
use Rattle.journal.specs.Journal.{choose, body_limit, mark, entry, entries, closing, last_from, last_offset, closed_journal, Fine, length_of, body_of, reach}
use Rattle.journal.specs.Bytes.{yes_is, no_is, and_is, not_and, drop_bytes, and_left, and_right, take_bytes, field_at}
use Rattle.journal.specs.Entry.{length_entry, length_closing, number_at_lem, Whole, passed, four_parts}
use Rattle.journal.proofs.Entry.{says_length, holds_body, whole_entry}
use Rattle.journal.specs.Forward.{count_entries}
use Rattle.journal.specs.Writer.{place, close_of}
use Rattle.journal.specs.Holds.{Holds, close_closes}
use Rattle.record.specs.Layout.{Event, decode}
use Rattle.verifier.specs.Judge.{Fault, in_trailer, Verdict, accepted, wrong, Deed, Went, on, fault, Place, Next, goes, stops, is_back, enough, by_step, trailer_of, first, by_event, entry_of, place_of, judge_on, judge, in_length, in_distance, in_sum}
use Rattle.verifier.specs.Feed.{Reading, reading, done, by_next, settle, feed_byte, feed}
use Rattle.verifier.specs.Pieces.{enough_is, at_stop, at_goes, place_entry, place_back}
use Rattle.verifier.specs.Right.{Yields, Right, none, more}
use Rattle.verifier.specs.Naming.{after, Named}
use Rattle.verifier.specs.Places.{yields_step, moved, chosen}
use Rattle.verifier.specs.Verdict.{after_none, after_more, Small, number_of, Numbered}
use Rattle.verifier.proofs.Places.{Gone, place_gone}

module _ {S : Type 0} (deed : S → Event → Deed S) where
  -- a place where a verdict of "accepted" is given
  never_accepts : (p : Place S) (n : ℕ) (w : Went S) (m : ℕ) → by_step p n w ≡ stops (accepted m) → ⊥
  unfolding by_step
  never_accepts p n (on d) m e = let z : ◌≡◌ {A = ℕ} 0 1 = cc in omega arith
  never_accepts p n (fault f) m e = let z : ◌≡◌ {A = ℕ} 0 1 = cc in omega arith

  not_accepted : (n : ℕ) (f : Fault) (m : ℕ) → ◌≡◌ {A = Next S} (stops (wrong n f)) (stops (accepted m)) → ⊥
  not_accepted n f m e = let z : ◌≡◌ {A = ℕ} 0 1 = cc in omega arith

  entry_never : (p : Place S) (t : List ℕ) (m : ℕ) → entry_of deed p t ≡ stops (accepted m) → ⊥
  unfolding entry_of
  entry_never p t m e =
      let c = chosen (eqb (number_at t (length_of t + 4) 4) (length_of t + 4)) _ (stops (wrong p.count in_distance)) (stops (accepted m)) e (not_accepted _ _ m) in
      let d = chosen (eqb (number_at t (length_of t + 8) 4) (crc_of (take (length_of t + 4) t))) _ (stops (wrong p.count in_sum)) (stops (accepted m)) c.1 (not_accepted _ _ m) in
      never_accepts p (length t) (by_event deed p.server (decode (body_of t))) m d.1

  pub record Trailer (p : Place S) (s : List ℕ) (n : ℕ) : Type 0 where
    pub is : s ≡ closing p.last p.count
    pub count : n ≡ p.count
    pub near : p.last < 256 ^ 4
    pub few : p.count < 256 ^ 4

  mark_field : field 4 (number mark) ≡ mark
  unfolding field
  mark_field = refl

  twelve : (s : List ℕ) (l c : ℕ) → Bytes s → length s ≡ 12 → number_at s 0 4 ≡ number mark → number_at s 4 4 ≡ l → number_at s 8 4 ≡ c → s ≡ closing l c
  unfolding closing
  twelve s l c y n p q r =
      let h : length s ≤ 12 = omega arith in
      let a : take 4 s ≡ mark = sym (field_at s 0 4 (omega arith) y) ∙ ap (field 4) p ∙ mark_field in
      let b : take 4 (drop 4 s) ≡ field 4 l = sym (field_at s 4 4 (omega arith) y) ∙ ap (field 4) q in
      let d : take 4 (drop 8 s) ≡ field 4 c = sym (field_at s 8 4 (omega arith) y) ∙ ap (field 4) r in
      sym (four_parts s 0)
      ∙ ap (λ (x : List ℕ). take 4 s ++ take 4 (drop 4 s) ++ take 4 (drop 8 s) ++ x) (drop_of_length-le s h)
      ∙ append-nil (take 4 s ++ take 4 (drop 4 s) ++ take 4 (drop 8 s))
      ∙ (λ i. a i ++ b i ++ d i)

  -- a field of four bytes says less than 2^32
  four_bytes : (s : List ℕ) (at x : ℕ) → Bytes s → at + 4 ≤ length s → number_at s at 4 ≡ x → x < 256 ^ 4
  four_bytes s at x y h e =
      let l : length (take 4 (drop at s)) ≡ 4 = simp (length-take, length-drop) (omega arith) in
      subst (λ (k : ℕ). k < 256 ^ 4) e
      (subst (λ (k : ℕ). number (take 4 (drop at s)) < 256 ^ k) l (number_bound (take 4 (drop at s)) (take_bytes 4 (drop at s) (drop_bytes at s y))))

  trailer_is : (p : Place S) (s : List ℕ) (n : ℕ) → Bytes s → is_back s ≡ true → trailer_of p s ≡ accepted n → Trailer p s n
  unfolding trailer_of is_back
  trailer_is p s n y b e =
      let t₁ : Bool = eqb (length s) 12 in
      let t₂ : Bool = eqb (number_at s 4 4) p.last in
      let t₃ : Bool = eqb (number_at s 8 4) p.count in
      let c = chosen (t₁ && t₂ && t₃) (accepted p.count) (wrong p.count in_trailer) (accepted n) e (λ z. let x : ◌≡◌ {A = ℕ} 0 1 = cc in omega arith) in
      let two : (t₁ && t₂) ≡ true = and_left (t₁ && t₂) t₃ c.0 in
      let o : accepted p.count ≡ accepted n = c.1 in
      let m : p.count ≡ n = cc in
      let twelve-long : length s ≡ 12 = eqb-true (length s) 12 (and_left t₁ t₂ two) in
      record {
        is =
            twelve s p.last p.count y
            (eqb-true (length s) 12 (and_left t₁ t₂ two))
            (eqb-true (number_at s 0 4) (number mark) (and_right (leb 4 (length s)) (eqb (number_at s 0 4) (number mark)) b))
            (eqb-true (number_at s 4 4) p.last (and_right t₁ t₂ two))
            (eqb-true (number_at s 8 4) p.count (and_right (t₁ && t₂) t₃ c.0));
        count = sym m;
        near = four_bytes s 4 p.last y (omega arith) (eqb-true (number_at s 4 4) p.last (and_right t₁ t₂ two));
        few = four_bytes s 8 p.count y (omega arith) (eqb-true (number_at s 8 4) p.count (and_right (t₁ && t₂) t₃ c.0));
      }

  pub accepting : (p : Place S) (s : List ℕ) (n : ℕ) → Bytes s → place_of deed p s ≡ stops (accepted n) → (c : Bool) → is_back s ≡ c → Trailer p s n
  unfolding place_of
  accepting p s n y e true b =
      let o : ◌≡◌ {A = Next S} (stops (trailer_of p s)) (stops (accepted n)) = sym (yes_is _ _ b) ∙ e in
      trailer_is p s n y b (cc)
  accepting p s n y e false b =
      let c = chosen (enough s) (entry_of deed p (take (length_of s + 12) s)) (stops (wrong p.count in_length)) (stops (accepted n)) (sym (no_is _ _ b) ∙ e) (not_accepted _ _ n) in
      absurd (entry_never p (take (length_of s + 12) s) n c.1)

module _ {S : Type 0} (deed : S → Event → Deed S) where
  -- What a verdict says: right entries from the start on, and then a place where the verdict was given.
  pub record Judged (p : Place S) (s : List ℕ) (v : Verdict) : Type 0 where
    pub bodies : List (List ℕ)
    pub rest : List ℕ
    pub server : S
    pub all : entries bodies ++ rest ≡ s
    pub right : Right deed p.server bodies server
    pub stopped : place_of deed (after p bodies server) rest ≡ stops v
    pub bytes : Bytes rest

  one_further : (p : Place S) (s : List ℕ) (q : Place S) (v : Verdict) → Gone deed p s q → Judged q (drop (length_of s + 12) s) v → Judged p s v
  unfolding entries
  one_further p s q v g j = record {
    bodies = g.body ∷ j.bodies;
    rest = j.rest;
    server = j.server;
    all = append_assoc (entry g.body) (entries j.bodies) j.rest ∙ ap (λ (x : List ℕ). entry g.body ++ x) j.all ∙ g.all;
    right = more g.fine g.yields j.right;
    stopped =
        ap (λ (x : Place S). place_of deed x j.rest)
        (sym (ap (λ (x : Place S). after x j.bodies j.server) g.moves ∙ (after_more {S = S} deed) p g.body j.bodies q.server j.server))
        ∙ j.stopped;
    bytes = j.bytes;
  }

  by_next_lem : (k : ℕ) (p : Place S) (s : List ℕ) → Bytes s → length s < suc k
      → ((q : Place S) (t : List ℕ) → Bytes t → length t < k → Judged q t (judge_on deed k q t))
      → (x : Next S) → place_of deed p s ≡ x → Judged p s (judge_on deed (suc k) p s)
  unfolding entries
  by_next_lem k p s y h ih (stops v) e =
      subst (Judged p s) (sym (at_stop deed k p s v e))
      (record {
        bodies = [];
        rest = s;
        server = p.server;
        all = refl;
        right = none;
        stopped = ap (λ (x : Place S). place_of deed x s) (after_none {S = S} deed p) ∙ e;
        bytes = y;
      })
  by_next_lem k p s y h ih (goes q) e =
      let g = place_gone deed p s q y e in
      let t : List ℕ = drop (length_of s + 12) s in
      let l : length t < k = simp length-drop (omega arith) in
      subst (Judged p s) (sym (at_goes deed k p s q e)) (one_further p s q (judge_on deed k q t) g (ih q t (drop_bytes (length_of s + 12) s y) l))

  judged : (k : ℕ) (p : Place S) (s : List ℕ) → Bytes s → length s < k → Judged p s (judge_on deed k p s)
  judged zero p s y h = absurd (omega arith)
  judged (suc k) p s y h = by_next_lem k p s y h (judged k) (place_of deed p s) refl

  -- Any bytes: the entries before the verdict's number are right, each in turn, and the verdict is that of the place behind them.
  pub judge_says : (d : S) (book : List ℕ) → Bytes book → Judged (first d) book (judge deed d book)
  unfolding judge
  judge_says d book y = judged (suc (length book)) (first d) book y (omega arith)

  -- an accepted book: the closed book of bodies that are right, each in turn from a fresh server
  pub record Accepted (d : S) (book : List ℕ) (n : ℕ) : Type 0 where
    pub bodies : List (List ℕ)
    pub server : S
    pub is : book ≡ closed_journal bodies
    pub right : Right deed d bodies server
    pub count : n ≡ length bodies
    pub near : last_offset bodies < 256 ^ 4
    pub few : length bodies < 256 ^ 4

  pub accepted_is : (d : S) (book : List ℕ) (n : ℕ) → Bytes book → judge deed d book ≡ accepted n → Accepted d book n
  unfolding closed_journal
  accepted_is d book n y e =
      let j = subst (Judged (first d) book) e (judge_says d book y) in
      let q : Place S = after (first d) j.bodies j.server in
      let t = (accepting {S = S} deed) q j.rest n j.bytes j.stopped (is_back j.rest) refl in
      let c : 0 + length j.bodies ≡ length j.bodies = omega arith in
      record {
        bodies = j.bodies;
        server = j.server;
        is = sym j.all ∙ ap (λ (x : List ℕ). entries j.bodies ++ x) (t.is ∙ ap (closing (last_offset j.bodies)) c);
        right = j.right;
        count = t.count ∙ c;
        near = t.near;
        few = subst (λ (k : ℕ). k < 256 ^ 4) c t.few;
      }

module _ {S : Type 0} (deed : S → Event → Deed S) where
  -- the other way: right entries are passed
  entry_not_back : (b rest : List ℕ) → length b ≤ body_limit → is_back (entry b ++ rest) ≡ false
  unfolding is_back length_of
  entry_not_back b rest h =
      let n : number_at (entry b ++ rest) 0 4 ≡ length b = says_length b rest h in
      not_and (leb 4 (length (entry b ++ rest))) (ne_eqb (number_at (entry b ++ rest) 0 4) (number mark) (λ z. omega arith))

  entry_goes : (p : Place S) (b : List ℕ) (d : S) → Fine b → Yields deed p.server b d → entry_of deed p (entry b) ≡ goes (moved deed p b d)
  unfolding entry_of by_step
  entry_goes p b d f y =
      let t : List ℕ = entry b in
      let w : Whole t = subst (λ (x : List ℕ). Whole x) (append-nil t) (passed (t ++ []) (whole_entry b [] f)) in
      let o : body_of t ≡ b = ap (λ (x : List ℕ). body_of x) (sym (append-nil t)) ∙ holds_body b [] f.within in
      yes_is _ _ (eq-eqb (number_at t (length_of t + 4) 4) (length_of t + 4) w.distance)
      ∙ yes_is _ _ (eq-eqb (number_at t (length_of t + 8) 4) (crc_of (take (length_of t + 4) t)) w.summed)
      ∙ ap (λ (x : List ℕ). by_step p (length t) (by_event deed p.server (decode x))) o
      ∙ ap (by_step p (length t)) (yields_step deed p.server b d y)

  pub place_goes : (p : Place S) (b rest : List ℕ) (d : S) → Fine b → Yields deed p.server b d → place_of deed p (entry b ++ rest) ≡ goes (moved deed p b d)
  place_goes p b rest d f y =
      let s : List ℕ = entry b ++ rest in
      let w : length b ≤ body_limit = f.within in
      let n : length_of s ≡ length b = says_length b rest w in
      let l : length s ≡ length (entry b) + length rest = length-append (entry b) rest in
      let m : length (entry b) ≡ length b + 12 = length_entry b in
      place_entry deed p s (entry_not_back b rest w) (enough_is s (omega arith) (omega arith))
      ∙ ap (entry_of deed p) (take_at (entry b) rest (length_of s + 12) (omega arith))
      ∙ entry_goes p b d f y

  passes : (k : ℕ) (p : Place S) {d e : S} {bs : List (List ℕ)} (rest : List ℕ) (v : Verdict) → p.server ≡ d → Right deed d bs e → length bs < k
      → place_of deed (after p bs e) rest ≡ stops v → judge_on deed k p (entries bs ++ rest) ≡ v
  unfolding entries
  passes zero p rest v o r h s = absurd (omega arith)
  passes (suc k) p rest v o none h s =
      at_stop deed k p rest v (ap (λ (x : Place S). place_of deed x rest) (sym (after_none {S = S} deed p) ∙ ap (λ (x : S). after p [] x) o) ∙ s)
  passes (suc k) p rest v o (more {e = c} {f = e} {b = b} {bs = bs} f y r) h s =
      let t : List ℕ = entries bs ++ rest in
      let w : length b ≤ body_limit = f.within in
      let n : length_of (entry b ++ t) ≡ length b = says_length b t w in
      let m : length (entry b) ≡ length b + 12 = length_entry b in
      let z : length (entry b) ≡ length_of (entry b ++ t) + 12 = omega arith in
      ap (judge_on deed (suc k) p) (append_assoc (entry b) (entries bs) rest)
      ∙ at_goes deed k p (entry b ++ t) (moved deed p b c) (place_goes p b t c f (subst (λ (x : S). Yields deed x b c) (sym o) y))
      ∙ ap (judge_on deed k (moved deed p b c)) (drop_at (entry b) t (length_of (entry b ++ t) + 12) z)
      ∙ passes k (moved deed p b c) rest v refl r (omega arith) (ap (λ (x : Place S). place_of deed x rest) (after_more {S = S} deed p b bs c e) ∙ s)

  closing_back : (l c : ℕ) → is_back (closing l c) ≡ true
  unfolding is_back closing
  closing_back l c = and_is (le-leb 4 (length (closing l c)) (omega (arith, length_closing l c))) refl

  trailer_right : (p : Place S) → p.last < 256 ^ 4 → p.count < 256 ^ 4 → trailer_of p (closing p.last p.count) ≡ accepted p.count
  unfolding trailer_of closing
  trailer_right p h g =
      let s : List ℕ = closing p.last p.count in
      let a : s ≡ mark ++ (field 4 p.last ++ field 4 p.count) = append_assoc mark (field 4 p.last) (field 4 p.count) in
      let b : s ≡ mark ++ field 4 p.last ++ (field 4 p.count ++ []) = ap (λ (x : List ℕ). mark ++ field 4 p.last ++ x) (sym (append-nil (field 4 p.count))) in
      let l : length (mark ++ field 4 p.last) ≡ 8 = simp (length-append, length_field) in
      let x : number_at s 4 4 ≡ p.last = ap (λ (y : List ℕ). number_at y 4 4) a ∙ number_at_lem mark 4 p.last (field 4 p.count) 4 refl h in
      let y : number_at s 8 4 ≡ p.count = ap (λ (y : List ℕ). number_at y 8 4) b ∙ number_at_lem (mark ++ field 4 p.last) 4 p.count [] 8 l g in
      yes_is _ _
      (and_is (and_is (eq-eqb (length s) 12 (length_closing p.last p.count)) (eq-eqb (number_at s 4 4) p.last x)) (eq-eqb (number_at s 8 4) p.count y))

  -- the closed book of right bodies is accepted; offset and number have to fit their fields
  pub closed_accepted : (d : S) (bs : List (List ℕ)) (e : S) → Right deed d bs e → last_offset bs < 256 ^ 4 → length bs < 256 ^ 4 → judge deed d (closed_journal bs) ≡ accepted (length bs)
  unfolding judge closed_journal
  closed_accepted d bs e r h g =
      let q : Place S = after (first d) bs e in
      let c : 0 + length bs ≡ length bs = omega arith in
      let x : List ℕ = closing (last_offset bs) (length bs) in
      let z : closing q.last q.count ≡ x = ap (closing (last_offset bs)) c in
      let l : length (entries bs ++ x) ≡ length (entries bs) + length x = length-append (entries bs) x in
      passes (suc (length (entries bs ++ x))) (first d) x (accepted (length bs)) refl r (omega (arith, count_entries bs))
      (place_back deed q x (closing_back (last_offset bs) (length bs))
      ∙ ap stops (ap (trailer_of q) (sym z) ∙ trailer_right q h (omega arith) ∙ ap accepted c))

  last_below : (at o : ℕ) (bs : List (List ℕ)) → o ≤ at → last_from at o bs ≤ at + length (entries bs)
  unfolding last_from entries
  last_below at o [] h = omega arith
  last_below at o (b ∷ bs) h = omega (arith, last_below (at + length (entry b)) at bs (omega arith), length-append (entry b) (entries bs))

  -- Every book that our writer closes, kept from a fresh server with no event left out, is accepted.
  pub writer_accepted : (d : S) (bs : List (List ℕ)) (e : S) (words book : List ℕ) → Holds bs words book → Right deed d bs e
      → judge deed d (take (place (close_of words book).words) (close_of words book).book) ≡ accepted (length bs)
  writer_accepted d bs e words book o r =
      let c = close_closes bs words book o in
      let n : length (entries bs) + 12 ≤ min (length book) reach = o.room in
      let l : last_from 0 0 bs ≤ 0 + length (entries bs) = last_below 0 0 bs (omega arith) in
      ap (judge deed d) (ap (λ (w : List ℕ). take (place w) (close_of words book).book) c.says ∙ c.all)
      ∙ closed_accepted d bs e r (omega arith) (omega (arith, count_entries bs))

  small_if : (c : Bool) (r q : Reading S) → (c ≡ true → (Small {S = S} deed) r) → (c ≡ false → (Small {S = S} deed) q) → (Small {S = S} deed) (choose c r q)
  unfolding choose
  small_if true r q f g = f refl
  small_if false r q f g = g refl

  small_next : (x : Next S) → (Small {S = S} deed) (by_next x)
  unfolding by_next
  small_next (goes q) = omega arith
  small_next (stops v) = tt

  settle_small : (p : Place S) (s : List ℕ) → (Small {S = S} deed) (settle deed p s)
  unfolding settle
  settle_small p s =
      small_if (leb (length s) 3) _ _ (λ e. let n : length s ≤ 3 = leb-true (length s) 3 e in omega arith) λ _.
      small_if (is_back s) _ _
      (λ _. small_if (leb (length s) 12) _ _ (λ e. let n : length s ≤ 12 = leb-true (length s) 12 e in omega arith) (λ _. tt)) λ _.
      small_if (leb (length_of s) body_limit) _ _
      (λ f.
      let m : length_of s ≤ body_limit = leb-true (length_of s) body_limit f in
      small_if (leb (length_of s + 12) (length s)) _ _ (λ _. small_next (entry_of deed p s))
      (λ e. let n : length s < length_of s + 12 = leb-false (length_of s + 12) (length s) e in omega arith))
      (λ _. tt)

  pub feed_small : (r : Reading S) (s : List ℕ) → (Small {S = S} deed) r → (Small {S = S} deed) (feed deed r s)
  unfolding feed feed_byte
  feed_small r [] h = h
  feed_small (reading p t) (b ∷ s) h = feed_small (settle deed p (t ++ (b ∷ []))) s (settle_small p (t ++ (b ∷ [])))
  feed_small (done v) (b ∷ s) h = feed_small (done v) s tt

module _ {S : Type 0} (deed : S → Event → Deed S) where
  numbered_if : (n : ℕ) (c : Bool) (x y : Next S) → (Numbered {S = S} deed) n x → (Numbered {S = S} deed) n y → (Numbered {S = S} deed) n (choose c x y)
  unfolding choose
  numbered_if n true x y f g = f
  numbered_if n false x y f g = g

  numbered_step : (p : Place S) (n : ℕ) (w : Went S) → (Numbered {S = S} deed) p.count (by_step p n w)
  unfolding by_step
  numbered_step p n (on d) = tt
  numbered_step p n (fault f) = refl

  numbered_trailer : (p : Place S) (s : List ℕ) → number_of (trailer_of p s) ≡ p.count
  unfolding trailer_of
  numbered_trailer p s = either (eqb (length s) 12 && eqb (number_at s 4 4) p.last && eqb (number_at s 8 4) p.count)
    where
      either : (c : Bool) → number_of (choose c (accepted p.count) (wrong p.count in_trailer)) ≡ p.count
      either true = ap number_of (yes_is (accepted p.count) (wrong p.count in_trailer) refl)
      either false = ap number_of (no_is (accepted p.count) (wrong p.count in_trailer) refl)

  numbered : (p : Place S) (s : List ℕ) → (Numbered {S = S} deed) p.count (place_of deed p s)
  unfolding place_of entry_of
  numbered p s =
      let t : List ℕ = take (length_of s + 12) s in
      numbered_if p.count (is_back s) _ _ (numbered_trailer p s)
      (numbered_if p.count (enough s) _ _
      (numbered_if p.count (eqb (number_at t (length_of t + 4) 4) (length_of t + 4)) _ _
      (numbered_if p.count (eqb (number_at t (length_of t + 8) 4) (crc_of (take (length_of t + 4) t))) _ _ (numbered_step p (length t) _) refl)
      refl)
      refl)

  pub wrong_is : (d : S) (book : List ℕ) (n : ℕ) (f : Fault) → Bytes book → judge deed d book ≡ wrong n f → Named deed d book n f
  wrong_is d book n f y e =
      let j = subst (Judged deed (first d) book) e (judge_says deed d book y) in
      let q : Place S = after (first d) j.bodies j.server in
      let c : 0 + length j.bodies ≡ length j.bodies = omega arith in
      let m : n ≡ q.count = subst (Numbered {S = S} deed q.count) j.stopped (numbered q j.rest) in
      record { bodies = j.bodies; rest = j.rest; server = j.server; all = j.all; right = j.right; number = m ∙ c; stopped = j.stopped }

  -- and the other way, for every verdict
  pub stopped_is : (d : S) (bs : List (List ℕ)) (e : S) (rest : List ℕ) (v : Verdict) → Right deed d bs e
      → place_of deed (after (first d) bs e) rest ≡ stops v → judge deed d (entries bs ++ rest) ≡ v
  unfolding judge
  stopped_is d bs e rest v r o =
      let l : length (entries bs ++ rest) ≡ length (entries bs) + length rest = length-append (entries bs) rest in
      passes deed (suc (length (entries bs ++ rest))) (first d) rest v refl r (omega (arith, count_entries bs)) o
