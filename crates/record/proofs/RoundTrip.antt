-- Laws of what specs/RoundTrip.antt defines. Assumes nothing.
use Rattle.std.specs.Prelude.{◌≡◌, true, eqb, leb}
use Rattle.std.proofs.Common.{sym, ◌∙◌, lit<, subst}
use Rattle.std.proofs.Math.Path.{ap}
use mathlib.Core.List.{List, ◌++◌, append_assoc, [], ◌∷◌}
use Prim.Native.Nat.{ℕ, ◌<◌, suc, ◌≤◌}
use native.Mathlib.Omega.{arith}
use borrow.Author.Tests.{le-leb, leb-true, eqb-true}
use Rattle.wire.specs.Field.{field, Bytes}
use Rattle.journal.specs.Journal.{choose, body_limit}
use Rattle.journal.specs.Bytes.{yes_is}
use Rattle.record.specs.Layout.{Event, opening, delivery, cut, clock, answer, status, watch_off, watch_above, watch_outside, patterns, row, encode, body_bytes, most_delivered, most_shown, Fits, found, none, get_opening, get_delivery, get_cut, get_clock, get_answer, get_status, get_off, get_above, get_outside, get_patterns, by_tag, decode, Read, get_number, get_row}
use Rattle.record.specs.Fields.{then_is, number_again, row_again, Back, none_back, found_back, choose_back, then_back, number_back, row_back}
use Rattle.record.specs.RoundTrip.{Written}

module _ (s : List ℕ) (b : Bytes s) where
  opening_back : Back (get_opening s) (Written (0 ∷ s))
  unfolding get_opening encode
  opening_back =
      then_back (Written (0 ∷ s)) (get_number 4 s) _
      (λ c t e.
      let g = number_back 4 s b c t e in
      found_back (Written (0 ∷ s)) (opening c) t (record { all = ap (λ (x : List ℕ). 0 ∷ x) g.all; fits = g.fits; bytes = g.bytes }))

  delivery_back : Back (get_delivery s) (Written (1 ∷ s))
  unfolding get_delivery encode
  delivery_back =
      then_back (Written (1 ∷ s)) (get_number 4 s) _
      (λ c t e.
      let g = number_back 4 s b c t e in
      then_back (Written (1 ∷ s)) (get_row most_delivered t) _
      (λ r u f.
      let h = row_back most_delivered t g.bytes r u f in
      found_back (Written (1 ∷ s)) (delivery c r) u
      (record {
        all = ap (λ (x : List ℕ). 1 ∷ x) (append_assoc (field 4 c) (row r) u ∙ ap (λ (x : List ℕ). field 4 c ++ x) h.all ∙ g.all);
        fits = (g.fits, h.fits);
        bytes = h.bytes;
      })))

  cut_back : Back (get_cut s) (Written (2 ∷ s))
  unfolding get_cut encode
  cut_back =
      then_back (Written (2 ∷ s)) (get_number 4 s) _
      (λ c t e.
      let g = number_back 4 s b c t e in
      found_back (Written (2 ∷ s)) (cut c) t (record { all = ap (λ (x : List ℕ). 2 ∷ x) g.all; fits = g.fits; bytes = g.bytes }))

  clock_back_lem : Back (get_clock s) (Written (3 ∷ s))
  unfolding get_clock encode
  clock_back_lem =
      then_back (Written (3 ∷ s)) (get_number 8 s) _
      (λ c t e.
      let g = number_back 8 s b c t e in
      found_back (Written (3 ∷ s)) (clock c) t (record { all = ap (λ (x : List ℕ). 3 ∷ x) g.all; fits = g.fits; bytes = g.bytes }))

  answer_back : Back (get_answer s) (Written (4 ∷ s))
  unfolding get_answer encode
  answer_back =
      let P : Event → List ℕ → Type 0 = Written (4 ∷ s) in
      then_back P (get_number 4 s) _
      (λ n t e₁.
      let g₁ = number_back 4 s b n t e₁ in
      then_back P (get_number 1 t) _
      (λ e u e₂.
      let g₂ = number_back 1 t g₁.bytes e u e₂ in
      choose_back P (leb e 1) _ none
      (λ l.
      let m : e ≤ 1 = leb-true e 1 l in
      then_back P (get_row body_limit u) _
      (λ p v e₃.
      let g₃ = row_back body_limit u g₂.bytes p v e₃ in
      then_back P (get_row most_shown v) _
      (λ r w e₄.
      let g₄ = row_back most_shown v g₃.bytes r w e₄ in
      let a : (field 4 n ++ (field 1 e ++ (row p ++ row r))) ++ w ≡ field 4 n ++ (field 1 e ++ (row p ++ (row r ++ w))) = simp append_assoc in
      found_back P (answer n e p r) w
      (record {
        all =
            ap (λ (x : List ℕ). 4 ∷ x)
            (a
            ∙ ap (λ (x : List ℕ). field 4 n ++ (field 1 e ++ (row p ++ x))) g₄.all
            ∙ ap (λ (x : List ℕ). field 4 n ++ (field 1 e ++ x)) g₃.all
            ∙ ap (λ (x : List ℕ). field 4 n ++ x) g₂.all
            ∙ g₁.all);
        fits = (g₁.fits, omega arith, g₃.fits, g₄.fits);
        bytes = g₄.bytes;
      }))))
      (λ l. none_back P)))

  status_back : Back (get_status s) (Written (5 ∷ s))
  unfolding get_status encode
  status_back =
      then_back (Written (5 ∷ s)) (get_number 1 s) _
      (λ c t e.
      let g = number_back 1 s b c t e in
      found_back (Written (5 ∷ s)) (status c) t (record { all = ap (λ (x : List ℕ). 5 ∷ x) g.all; fits = g.fits; bytes = g.bytes }))

  off_back : Back (get_off s) (Written (6 ∷ s))
  unfolding get_off encode
  off_back =
      then_back (Written (6 ∷ s)) (get_number 4 s) _
      (λ c t e.
      let g = number_back 4 s b c t e in
      found_back (Written (6 ∷ s)) (watch_off c) t (record { all = ap (λ (x : List ℕ). 6 ∷ x) g.all; fits = g.fits; bytes = g.bytes }))

  above_back : Back (get_above s) (Written (7 ∷ s))
  unfolding get_above encode
  above_back =
      then_back (Written (7 ∷ s)) (get_number 4 s) _
      (λ n t e.
      let g = number_back 4 s b n t e in
      then_back (Written (7 ∷ s)) (get_number 4 t) _
      (λ l u f.
      let h = number_back 4 t g.bytes l u f in
      found_back (Written (7 ∷ s)) (watch_above n l) u
      (record {
        all = ap (λ (x : List ℕ). 7 ∷ x) (append_assoc (field 4 n) (field 4 l) u ∙ ap (λ (x : List ℕ). field 4 n ++ x) h.all ∙ g.all);
        fits = (g.fits, h.fits);
        bytes = h.bytes;
      })))

  outside_back : Back (get_outside s) (Written (8 ∷ s))
  unfolding get_outside encode
  outside_back =
      let P : Event → List ℕ → Type 0 = Written (8 ∷ s) in
      then_back P (get_number 4 s) _
      (λ n t e₁.
      let g₁ = number_back 4 s b n t e₁ in
      then_back P (get_number 4 t) _
      (λ l u e₂.
      let g₂ = number_back 4 t g₁.bytes l u e₂ in
      then_back P (get_number 4 u) _
      (λ h v e₃.
      let g₃ = number_back 4 u g₂.bytes h v e₃ in
      let a : (field 4 n ++ (field 4 l ++ field 4 h)) ++ v ≡ field 4 n ++ (field 4 l ++ (field 4 h ++ v)) = simp append_assoc in
      found_back P (watch_outside n l h) v
      (record {
        all =
            ap (λ (x : List ℕ). 8 ∷ x)
            (a ∙ ap (λ (x : List ℕ). field 4 n ++ (field 4 l ++ x)) g₃.all ∙ ap (λ (x : List ℕ). field 4 n ++ x) g₂.all ∙ g₁.all);
        fits = (g₁.fits, g₂.fits, g₃.fits);
        bytes = g₃.bytes;
      }))))

  patterns_back : Back (get_patterns s) (Written (9 ∷ s))
  unfolding get_patterns encode
  patterns_back =
      then_back (Written (9 ∷ s)) (get_row body_limit s) _
      (λ r t e.
      let g = row_back body_limit s b r t e in
      found_back (Written (9 ∷ s)) (patterns r) t (record { all = ap (λ (x : List ℕ). 9 ∷ x) g.all; fits = g.fits; bytes = g.bytes }))

-- the same with a tag that was tested
tagged : (tag k : ℕ) (s : List ℕ) (r : Read Event) → Back r (Written (k ∷ s)) → eqb tag k ≡ true → Back r (Written (tag ∷ s))
tagged tag k s r h e =
    let q : k ≡ tag = sym (eqb-true tag k e) in
    subst (λ (x : ℕ). Back r (Written (x ∷ s))) q h

tag_back : (tag : ℕ) (s : List ℕ) → Bytes s → Back (by_tag tag s) (Written (tag ∷ s))
unfolding by_tag
tag_back tag s b =
    let P : Event → List ℕ → Type 0 = Written (tag ∷ s) in
    choose_back P (eqb tag 0) (get_opening s) _ (tagged tag 0 s _ (opening_back s b)) λ _.
    choose_back P (eqb tag 1) (get_delivery s) _ (tagged tag 1 s _ (delivery_back s b)) λ _.
    choose_back P (eqb tag 2) (get_cut s) _ (tagged tag 2 s _ (cut_back s b)) λ _.
    choose_back P (eqb tag 3) (get_clock s) _ (tagged tag 3 s _ (clock_back_lem s b)) λ _.
    choose_back P (eqb tag 4) (get_answer s) _ (tagged tag 4 s _ (answer_back s b)) λ _.
    choose_back P (eqb tag 5) (get_status s) _ (tagged tag 5 s _ (status_back s b)) λ _.
    choose_back P (eqb tag 6) (get_off s) _ (tagged tag 6 s _ (off_back s b)) λ _.
    choose_back P (eqb tag 7) (get_above s) _ (tagged tag 7 s _ (above_back s b)) λ _.
    choose_back P (eqb tag 8) (get_outside s) _ (tagged tag 8 s _ (outside_back s b)) λ _.
    choose_back P (eqb tag 9) (get_patterns s) none (tagged tag 9 s _ (patterns_back s b)) λ _.
    none_back P

-- Bytes that decode are the encoding of what they decode to, with what stands behind it.
pub read_written : (s : List ℕ) → Bytes s → Back (decode s) (Written s)
unfolding decode
read_written [] b = none_back (Written [])
read_written (tag ∷ s) b = tag_back tag s (λ i. b (suc i))

opening_again : (c : ℕ) → Fits (opening c) → (rest : List ℕ) → get_opening (field 4 c ++ rest) ≡ found (opening c) rest
unfolding get_opening
opening_again c h rest = then_is _ (number_again 4 h rest)

delivery_again : (c : ℕ) (b : List ℕ) → Fits (delivery c b) → (rest : List ℕ) → get_delivery ((field 4 c ++ row b) ++ rest) ≡ found (delivery c b) rest
unfolding get_delivery
delivery_again c b h rest =
    ap get_delivery (append_assoc (field 4 c) (row b) rest)
    ∙ then_is _ (number_again 4 h.0 (row b ++ rest))
    ∙ then_is _ (row_again most_delivered b (lit< tt) h.1 rest)

cut_again : (c : ℕ) → Fits (cut c) → (rest : List ℕ) → get_cut (field 4 c ++ rest) ≡ found (cut c) rest
unfolding get_cut
cut_again c h rest = then_is _ (number_again 4 h rest)

clock_again : (m : ℕ) → Fits (clock m) → (rest : List ℕ) → get_clock (field 8 m ++ rest) ≡ found (clock m) rest
unfolding get_clock
clock_again m h rest = then_is _ (number_again 8 h rest)

answer_again : (n e : ℕ) (p b : List ℕ) → Fits (answer n e p b) → (rest : List ℕ)
    → get_answer ((field 4 n ++ (field 1 e ++ (row p ++ row b))) ++ rest) ≡ found (answer n e p b) rest
unfolding get_answer
answer_again n e p b h rest =
    let a : (field 4 n ++ (field 1 e ++ (row p ++ row b))) ++ rest ≡ field 4 n ++ (field 1 e ++ (row p ++ (row b ++ rest))) = simp append_assoc in
    let l : e < 2 = h.1 in
    ap get_answer a
    ∙ then_is _ (number_again 4 h.0 (field 1 e ++ (row p ++ (row b ++ rest))))
    ∙ then_is _ (number_again 1 {x = e} (omega arith) (row p ++ (row b ++ rest)))
    ∙ yes_is _ none (le-leb e 1 (omega arith))
    ∙ then_is _ (row_again body_limit p (lit< tt) h.2 (row b ++ rest))
    ∙ then_is _ (row_again most_shown b (lit< tt) h.3 rest)

status_again : (b : ℕ) → Fits (status b) → (rest : List ℕ) → get_status (field 1 b ++ rest) ≡ found (status b) rest
unfolding get_status
status_again b h rest = then_is _ (number_again 1 h rest)

off_again : (n : ℕ) → Fits (watch_off n) → (rest : List ℕ) → get_off (field 4 n ++ rest) ≡ found (watch_off n) rest
unfolding get_off
off_again n h rest = then_is _ (number_again 4 h rest)

above_again : (n l : ℕ) → Fits (watch_above n l) → (rest : List ℕ) → get_above ((field 4 n ++ field 4 l) ++ rest) ≡ found (watch_above n l) rest
unfolding get_above
above_again n l h rest =
    ap get_above (append_assoc (field 4 n) (field 4 l) rest)
    ∙ then_is _ (number_again 4 h.0 (field 4 l ++ rest))
    ∙ then_is _ (number_again 4 h.1 rest)

outside_again : (n l k : ℕ) → Fits (watch_outside n l k) → (rest : List ℕ) → get_outside ((field 4 n ++ (field 4 l ++ field 4 k)) ++ rest) ≡ found (watch_outside n l k) rest
unfolding get_outside
outside_again n l k h rest =
    let a : (field 4 n ++ (field 4 l ++ field 4 k)) ++ rest ≡ field 4 n ++ (field 4 l ++ (field 4 k ++ rest)) = simp append_assoc in
    ap get_outside a
    ∙ then_is _ (number_again 4 h.0 (field 4 l ++ (field 4 k ++ rest)))
    ∙ then_is _ (number_again 4 h.1 (field 4 k ++ rest))
    ∙ then_is _ (number_again 4 h.2 rest)

patterns_again : (text : List ℕ) → Fits (patterns text) → (rest : List ℕ) → get_patterns (row text ++ rest) ≡ found (patterns text) rest
unfolding get_patterns
patterns_again text h rest = then_is _ (row_again body_limit text (lit< tt) h rest)

-- what was written is read again, whatever follows
pub read_again : (e : Event) → Fits e → (rest : List ℕ) → decode (encode e ++ rest) ≡ found e rest
unfolding decode encode by_tag choose
read_again (opening c) h rest = opening_again c h rest
read_again (delivery c b) h rest = delivery_again c b h rest
read_again (cut c) h rest = cut_again c h rest
read_again (clock m) h rest = clock_again m h rest
read_again (answer n e p b) h rest = answer_again n e p b h rest
read_again (status b) h rest = status_again b h rest
read_again (watch_off n) h rest = off_again n h rest
read_again (watch_above n l) h rest = above_again n l h rest
read_again (watch_outside n l k) h rest = outside_again n l k h rest
read_again (patterns text) h rest = patterns_again text h rest

-- One encoding: bytes that decode to the same event with the same bytes behind it are the same.
pub one_encoding : (s t : List ℕ) (e : Event) (rest : List ℕ) → Bytes s → Bytes t → decode s ≡ found e rest → decode t ≡ found e rest → s ≡ t
one_encoding s t e rest b c p q = sym (read_written s b e rest p).all ∙ (read_written t c e rest q).all

-- a body has one event and one row of frames
pub one_event : (d e : Event) (x y : List ℕ) → Fits d → Fits e → body_bytes d x ≡ body_bytes e y → (d ≡ e) × (x ≡ y)
one_event d e x y f g p =
    let q : found d x ≡ found e y = sym (read_again d f x) ∙ ap decode p ∙ read_again e g y in
    (cc, cc)
