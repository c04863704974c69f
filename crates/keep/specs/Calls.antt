-- What the plain call's contract gives the kept one: its answer tells the refusal and the frames that are handed over, so the parts that the
-- code has are the body. One law for the calls of each answer. Assumes nothing.
use Rattle.std.specs.Prelude.{◌≡◌, Bool, false, cond, ◌||◌, List, [], ◌∷◌, ◌++◌, ℕ, ◌+◌, ◌≤◌, min, length, take}
use Rattle.std.proofs.Math.Path.{refl}
use Rattle.std.proofs.Common.{sym, ap, ap₂, subst, ◌∙◌, append-nil, arith, length-append, length-take}
use Rattle.std.proofs.Math.Seq.{take-nil}
use Rattle.wire.specs.Field.{field}
use Rattle.wire.specs.Frame.{bytes_of}
use Rattle.readings.specs.Bits.{below, not_number}
use Rattle.readings.specs.Watch.{Limits, Limits.off, Limits.above, Limits.outside, refused as refused-limits}
use Rattle.model.specs.Bound.{room_of}
use Rattle.model.specs.State.{Server}
use Rattle.model.specs.Interface.{Event, Event.opening, Event.delivery, Event.cut, Event.clock, Event.answer, Event.status, Event.setting, Setting.watch}
use Rattle.model.specs.Interface.{Setting.patterns, Reply, Reply.refused, Reply.done, Reply.withheld, Reply.took, DeliveryAnswer, delivery_answer, DoneAnswer}
use Rattle.model.specs.Interface.{done_answer, AnsweredAnswer, answered_answer}
use Rattle.commands.specs.Lists.{Judged}
use Rattle.commands.specs.Lists.{lines_of}
use Rattle.commands.specs.Rulings.{judged}
use Rattle.model.specs.Listing.{ListedAnswer, listed_answer}
use Rattle.model.specs.Missing.{missing}
use Rattle.model.specs.Post.{Post}
use Rattle.model.specs.Refusals.{causes, refusal}
use Rattle.model.specs.Step.{step}
use Rattle.claims.proofs.Fits.{uncaused}
use Rattle.sensing.specs.Words.{clean, clean_is}
use Rattle.state.specs.View.{Memory, view}
use Rattle.sessions.specs.declared.Delivery.{Delivery}
use Rattle.server.specs.declared.Answered.{Answered}
use Rattle.server.specs.declared.Done.{Done}
use Rattle.server.specs.Calls.{Delivered}
use Rattle.server.specs.declared.listing.Listed.{Listed}
use Rattle.server.specs.Events.{Called, Replied}
use Rattle.server.specs.Listing.{SetsList}
use Rattle.journal.specs.Journal.{body_limit}
use Rattle.journal.specs.Numbered.{numbered, numbered_size}
use Rattle.record.specs.Layout as layout
use Rattle.record.specs.Layout.{encode, row}
use Rattle.judging.specs.Kept.{recorded}
use Rattle.keep.specs.Keeping.{looked, refused_by, entry_unless, keeping, Keeps}
use Rattle.keep.specs.Parts.{output_by, refused_by_lem, output_by_lem, handed, kept_call, kept_if, or_first, or_second, body_within, first_of, short_parts, delivery_parts, answer_parts}

-- the refusal that was told, and the bytes of the buffer that were
pub record Handed (d : Server) (e : Event) (z n : ℕ) (out : List ℕ) : Type 0 where
  pub refused_as : z ≡ refusal d e
  pub inside : n ≤ length out
  pub frames : take n out ≡ bytes_of (step d e).frames

module _ (m m' : Memory) (e : Event) (out out' : List ℕ) (l : length out ≡ room_of e) where
  by_numbers : (z n : ℕ) → z ≡ refused_by (step (view m) e).reply → n ≡ output_by (step (view m) e).reply (length (bytes_of (step (view m) e).frames))
      → Post view e m m' out out' (step (view m) e).reply (length (bytes_of (step (view m) e).frames)) → Handed (view m) e z n out'
  by_numbers z n p q h =
      let x = handed m e n out out' (q ∙ output_by_lem (view m) e) h.buffer l in
      record { refused_as = p ∙ refused_by_lem (view m) e; inside = x.0; frames = x.1 }

  pub told_done : (r : Done) → Called e r m m' out out' → Handed (view m) e r.refusal r.output out'
  told_done r h =
      let y : Reply = (step (view m) e).reply in
      let k : ℕ = length (bytes_of (step (view m) e).frames) in
      by_numbers r.refusal r.output (ap (λ (a : DoneAnswer). a.refusal) h.numbers ∙ number_of y k) (ap (λ (a : DoneAnswer). a.output) h.numbers ∙ output_of y k) h.post
    where
      number_of : (y : Reply) (k : ℕ) → (done_answer y k).refusal ≡ refused_by y
      number_of (refused n) k = refl
      number_of done k = refl
      number_of withheld k = refl
      number_of (took o j n) k = refl

      output_of : (y : Reply) (k : ℕ) → (done_answer y k).output ≡ output_by y k
      output_of (refused n) k = refl
      output_of done k = refl
      output_of withheld k = refl
      output_of (took o j n) k = refl

  pub told_delivery : (r : Delivery) → Delivered e r m m' out out' → Handed (view m) e r.refusal r.output out'
  told_delivery r h =
      let y : Reply = (step (view m) e).reply in
      let k : ℕ = length (bytes_of (step (view m) e).frames) in
      by_numbers r.refusal r.output (ap (λ (a : DeliveryAnswer). a.refusal) h.numbers ∙ number_of y k (missing (view m) e))
      (ap (λ (a : DeliveryAnswer). a.output) h.numbers ∙ output_of y k (missing (view m) e)) h.post
    where
      number_of : (y : Reply) (k l : ℕ) → (delivery_answer y k l).refusal ≡ refused_by y
      number_of (refused n) k l = refl
      number_of done k l = refl
      number_of withheld k l = refl
      number_of (took o j n) k l = refl

      output_of : (y : Reply) (k l : ℕ) → (delivery_answer y k l).output ≡ output_by y k
      output_of (refused n) k l = refl
      output_of done k l = refl
      output_of withheld k l = refl
      output_of (took o j n) k l = refl

  pub told_answer : (r : Answered) → Replied e r m m' out out' → Handed (view m) e r.refusal r.output out'
  told_answer r h =
      let y : Reply = (step (view m) e).reply in
      let k : ℕ = length (bytes_of (step (view m) e).frames) in
      by_numbers r.refusal r.output (ap (λ (a : AnsweredAnswer). a.refusal) h.numbers ∙ number_of y k) (ap (λ (a : AnsweredAnswer). a.output) h.numbers ∙ output_of y k) h.post
    where
      number_of : (y : Reply) (k : ℕ) → (answered_answer y k).refusal ≡ refused_by y
      number_of (refused n) k = refl
      number_of done k = refl
      number_of withheld k = refl
      number_of (took o j n) k = refl

      output_of : (y : Reply) (k : ℕ) → (answered_answer y k).output ≡ output_by y k
      output_of (refused n) k = refl
      output_of done k = refl
      output_of withheld k = refl
      output_of (took o j n) k = refl

-- a status change is never refused, and hands nothing over
pub told_status : (m m' : Memory) (b : ℕ) → Post view (status b) m m' [] [] done 0 → Handed (view m) (status b) 0 0 []
unfolding refusal causes
told_status m m' b h =
    let x = handed m (status b) 0 [] [] h.output_length h.buffer refl in
    record { refused_as = refl; inside = x.0; frames = x.1 }

-- a call without a buffer hands nothing over
pub none_handed : {d : Server} {e : Event} {z n : ℕ} → Handed d e z n [] → Handed d e z 0 []
none_handed {n = n} h = record { refused_as = h.refused_as; inside = omega arith; frames = sym (take-nil n) ∙ h.frames }

-- the same answer in another struct
pub called_again : {e : Event} {m m' : Memory} {out out' : List ℕ} {r s : Done} → s ≡ r → Called e r m m' out out' → Called e s m m' out out'
called_again {e = e} {m = m} {m' = m'} {out = out} {out' = out'} q h = subst (λ (x : Done). Called e x m m' out out') (sym q) h

pub delivered_again : {e : Event} {m m' : Memory} {out out' : List ℕ} {r s : Delivery} → s ≡ r → Delivered e r m m' out out' → Delivered e s m m' out out'
delivered_again {e = e} {m = m} {m' = m'} {out = out} {out' = out'} q h = subst (λ (x : Delivery). Delivered e x m m' out out') (sym q) h

pub replied_again : {e : Event} {m m' : Memory} {out out' : List ℕ} {r s : Answered} → s ≡ r → Replied e r m m' out out' → Replied e s m m' out out'
replied_again {e = e} {m = m} {m' = m'} {out = out} {out' = out'} q h = subst (λ (x : Answered). Replied e x m m' out out') (sym q) h

pub list_again : {text : List ℕ} {m m' : Memory} {r s : Listed} → s ≡ r → SetsList text r m m' → SetsList text s m m'
list_again {text = text} {m = m} {m' = m'} q h = subst (λ (x : Listed). SetsList text x m m') (sym q) h

-- the plain call on the first bytes, as the code takes them
pub delivered_first : (c : ℕ) (bs : List ℕ) (room n : ℕ) {r : Delivery} {m m' : Memory} {out out' : List ℕ} → n ≡ min (length bs) layout.most_delivered
    → Delivered (delivery c (take n bs) room) r m m' out out' → Delivered (looked (delivery c bs room)) r m m' out out'
delivered_first c bs room n {r} {m} {m'} {out} {out'} q h = subst (λ (x : List ℕ). Delivered (delivery c x room) r m m' out out') (first_of n layout.most_delivered bs q) h

pub answered_first_lem : (s : ℕ) (p : List ℕ) (end : Bool) (sh : List ℕ) (room n : ℕ) {r : Answered} {m m' : Memory} {out out' : List ℕ} → n ≡ min (length sh) layout.most_shown
    → Replied (answer s p end (take n sh) room) r m m' out out' → Replied (looked (answer s p end sh room)) r m m' out out'
answered_first_lem s p end sh room n {r} {m} {m'} {out} {out'} q h = subst (λ (x : List ℕ). Replied (answer s p end x room) r m m' out out') (first_of n layout.most_shown sh q) h

-- the heads of the events of numbers
pub opening_head : (c : ℕ) {h : List ℕ} → h ≡ 0 ∷ field 4 c → h ≡ layout.encode (recorded (looked (opening c)))
unfolding encode
opening_head c p = p

pub cut_head : (c room : ℕ) {h : List ℕ} → h ≡ 2 ∷ field 4 c → h ≡ layout.encode (recorded (looked (cut c room)))
unfolding encode
cut_head c room p = p

pub clock_head : (t room : ℕ) {h : List ℕ} → h ≡ 3 ∷ field 8 t → h ≡ layout.encode (recorded (looked (clock t room)))
unfolding encode
clock_head t room p = p

pub status_head : (b : ℕ) {h : List ℕ} → h ≡ 5 ∷ field 1 b → h ≡ layout.encode (recorded (looked (status b)))
unfolding encode
status_head b p = p

-- the body that the code has is the event's, so what is kept is the event's entry; and it is short enough
module _ (m : Memory) (e : Event) (z n : ℕ) (out : List ℕ) (h : Handed (view m) (looked e) z n out) where
  abbrev Body : List ℕ → Type 0
  Body x = x ≡ layout.body_bytes (recorded (looked e)) (bytes_of (step (view m) (looked e)).frames)

  pub body_kept : (x words book : List ℕ) (k : ℕ) (words' book' : List ℕ) → Body x → Keeps (entry_unless z words book x) k words' book' → Keeps (keeping (view m) (looked e) words book) k words' book'
  body_kept x words book k words' book' p = kept_call (view m) (looked e) z x words book k words' book' h.refused_as p

  within : (x : List ℕ) → Body x → z ≡ 0 → length x ≤ body_limit
  within x p q = let i = body_within m e (sym h.refused_as ∙ q) in omega (arith, i, ap length p)

  -- an event of numbers
  pub numbers_are : (head : List ℕ) → head ≡ layout.encode (recorded (looked e)) → Body (head ++ take n out)
  numbers_are head p = short_parts head (recorded (looked e)) (take n out) _ p h.frames

  pub numbers_within : (head : List ℕ) → head ≡ layout.encode (recorded (looked e)) → z ≡ 0 → length head + length (take n out) ≤ body_limit
  numbers_within head p q = omega (arith, within _ (numbers_are head p) q, length-append head (take n out))

  -- one whose numbers stand there only if it is not refused
  pub numbers_kept_if : (head words book : List ℕ) (k : ℕ) (words' book' : List ℕ) → (z ≡ 0 → head ≡ layout.encode (recorded (looked e)))
      → Keeps (entry_unless z words book (head ++ take n out)) k words' book' → Keeps (keeping (view m) (looked e) words book) k words' book'
  numbers_kept_if head words book k words' book' p i =
      let y : List ℕ = layout.body_bytes (recorded (looked e)) (bytes_of (step (view m) (looked e)).frames) in
      body_kept y words book k words' book' refl (kept_if z words book (head ++ take n out) y k words' book' (λ q. numbers_are head (p q)) i)

-- 02, Q-11: limits of a watch that is not refused are numbers, so their bits are as the code has them
module _ (m : Memory) (n : ℕ) (l : Limits) (z : ℕ) (h : Handed (view m) (setting (watch n l)) z 0 []) (q : z ≡ 0) where
  fair : refused-limits l ≡ false
  unfolding refusal causes
  fair = (uncaused (causes (view m) (setting (watch n l))) refl (sym h.refused_as ∙ q)).1.0

pub off_head : (n : ℕ) {h : List ℕ} → h ≡ 6 ∷ field 4 n → h ≡ layout.encode (recorded (looked (setting (watch n off))))
unfolding encode
off_head n p = p

pub above_head : (m : Memory) (n b z x : ℕ) (h : List ℕ) → Handed (view m) (setting (watch n (above b))) z 0 [] → x ≡ clean b → h ≡ 7 ∷ (field 4 n ++ field 4 x) → z ≡ 0
    → h ≡ layout.encode (recorded (looked (setting (watch n (above b)))))
unfolding encode refused-limits
above_head m n b z x h i p e q =
    let f : not_number b ≡ false = fair m n (above b) z i q in
    e ∙ ap (λ (y : ℕ). 7 ∷ (field 4 n ++ field 4 y)) (p ∙ clean_is b f)

pub outside_head : (m : Memory) (n b c z x y : ℕ) (h : List ℕ) → Handed (view m) (setting (watch n (outside b c))) z 0 [] → x ≡ clean b → y ≡ clean c
    → h ≡ 8 ∷ (field 4 n ++ (field 4 x ++ field 4 y)) → z ≡ 0 → h ≡ layout.encode (recorded (looked (setting (watch n (outside b c)))))
unfolding encode refused-limits
outside_head m n b c z x y h i p r e q =
    let f : (not_number b || (not_number c || below c b)) ≡ false = fair m n (outside b c) z i q in
    let s : not_number b ≡ false = or_first (not_number b) (not_number c || below c b) f in
    let t : not_number c ≡ false = or_first (not_number c) (below c b) (or_second (not_number b) (not_number c || below c b) f) in
    e ∙ ap₂ (λ (u v : ℕ). 8 ∷ (field 4 n ++ (field 4 u ++ field 4 v))) (p ∙ clean_is b s) (r ∙ clean_is c t)

-- four parts
four : (a b c d : List ℕ) → length (a ++ b ++ c ++ d) ≡ length a + length b + length c + length d
four a b c d = simp length-append

-- a delivery: its head, and the bytes that are looked at
module _ (m : Memory) (c : ℕ) (bs : List ℕ) (room k : ℕ) (q : k ≡ min (length bs) layout.most_delivered) (z n : ℕ) (out : List ℕ)
    (h : Handed (view m) (looked (delivery c bs room)) z n out) where
  pub delivery_is : numbered 1 c (length (take k bs)) ++ take k bs
      ++ take n out ≡ layout.body_bytes (recorded (looked (delivery c bs room))) (bytes_of (step (view m) (looked (delivery c bs room))).frames)
  delivery_is =
      delivery_parts c (take k bs) (take n out) _ h.frames
      ∙ ap (λ (x : List ℕ). layout.body_bytes (layout.delivery c x) (bytes_of (step (view m) (looked (delivery c bs room))).frames)) (first_of k layout.most_delivered bs q)

  pub delivery_within : z ≡ 0 → 9 + length (take k bs) + length (take n out) ≤ body_limit
  delivery_within y = omega (arith, within m (delivery c bs room) z n out h _ delivery_is y, numbered_size 1 c (length (take k bs)) (take k bs) (take n out))

-- the row of the bytes that count, of the array that it is laid into
pub row_is : (n : ℕ) (sh row x : List ℕ) → n ≡ min (length sh) layout.most_shown → take (4 + length (take n sh)) row ≡ x → take (4 + n) row ≡ x
row_is n sh row x q h = let l : length (take n sh) ≡ n = simp length-take (omega arith) in ap (λ (k : ℕ). take (4 + k) row) (sym l) ∙ h

-- an answer: its head, the payload, the row of the bytes shown that count
module _ (m : Memory) (s : ℕ) (payload : List ℕ) (end : Bool) (sh : List ℕ) (room k : ℕ) (q : k ≡ min (length sh) layout.most_shown) (z n : ℕ) (out : List ℕ)
    (h : Handed (view m) (looked (answer s payload end sh room)) z n out) (head row : List ℕ)
    (p : head ≡ 4 ∷ (field 4 s ++ (field 1 (cond end 1 0) ++ field 4 (length payload)))) (r : row ≡ field 4 (length (take k sh)) ++ take k sh) where
  pub answer_is : head ++ payload ++ row ++ take n out ≡ layout.body_bytes (recorded (looked (answer s payload end sh room))) (bytes_of (step (view m) (looked (answer s payload end sh room))).frames)
  answer_is =
      answer_parts s (cond end 1 0) head payload row (take k sh) (take n out) _ p r h.frames
      ∙ ap (λ (x : List ℕ). layout.body_bytes (layout.answer s (cond end 1 0) payload x) (bytes_of (step (view m) (looked (answer s payload end sh room))).frames)) (first_of k layout.most_shown sh q)

  pub answer_within : z ≡ 0 → length head + length payload + length row + length (take n out) ≤ body_limit
  answer_within y = omega (arith, within m (answer s payload end sh room) z n out h _ answer_is y, four head payload row (take n out))

-- 02, Q-12: a list that is set hands nothing over
pub told_list : (m m' : Memory) (s : List ℕ) (r : Listed) → SetsList s r m m' → Handed (view m) (setting (patterns s)) r.refusal 0 []
told_list m m' s r h =
    let e : Event = setting (patterns s) in
    let y : Reply = (step (view m) e).reply in
    none_handed (by_numbers m m' e [] [] refl r.refusal _ (ap (λ (a : ListedAnswer). a.refusal) h.numbers ∙ number_of y (judged (lines_of s))) refl h.post)
  where
    number_of : (y : Reply) (j : Judged) → (listed_answer y j).refusal ≡ refused_by y
    number_of (refused n) j = refl
    number_of done j = refl
    number_of withheld j = refl
    number_of (took o k n) j = refl

pub list_head : (s : List ℕ) {h : List ℕ} → h ≡ 9 ∷ field 4 (length s) → h ++ s ≡ layout.encode (recorded (looked (setting (patterns s))))
unfolding encode row
list_head s p = ap (λ (x : List ℕ). x ++ s) p

module _ (m : Memory) (s : List ℕ) (z : ℕ) (h : Handed (view m) (setting (patterns s)) z 0 []) (head : List ℕ) (p : head ≡ 9 ∷ field 4 (length s)) where
  list_is : head ++ s ≡ layout.body_bytes (recorded (looked (setting (patterns s)))) (bytes_of (step (view m) (setting (patterns s))).frames)
  list_is = sym (append-nil (head ++ s)) ∙ numbers_are m (setting (patterns s)) z 0 [] h (head ++ s) (list_head s p)

  pub list_within : z ≡ 0 → length head + length s ≤ body_limit
  list_within q = omega (arith, within m (setting (patterns s)) z 0 [] h _ list_is q, length-append head s)

  pub list_kept : (words book : List ℕ) (k : ℕ) (words' book' : List ℕ) → Keeps (entry_unless z words book (head ++ s)) k words' book'
      → Keeps (keeping (view m) (setting (patterns s)) words book) k words' book'
  list_kept words book k words' book' = body_kept m (setting (patterns s)) z 0 [] h (head ++ s) words book k words' book' list_is
