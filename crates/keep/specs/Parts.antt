-- The parts of a body, as the code hands them to the writer, and what the plain call's answer tells of them. Assumes nothing.
use Rattle.std.specs.Prelude.{◌≡◌, Bool, true, false, ◌||◌, List, ◌∷◌, ◌++◌, eqb, take, Ok}
use Rattle.std.proofs.Math.Path.{refl, sym}
use Rattle.std.proofs.Common.{ap, subst, ◌∙◌, ⊎_elim, true≢false, append_assoc, arith, length-take, length-append, take_all, ltb-false, ne_eqb}
use Prim.Native.Nat.{ℕ, zero, suc, ◌≤◌, ◌<◌, min}
use Rattle.std.proofs.Math.ListN.{length}
use Rattle.wire.specs.Field.{field, length_field}
use Rattle.wire.specs.Frame.{bytes_of, written}
use Rattle.wire.specs.Splice.{splice, length_splice, take_front}
use Rattle.model.specs.Sizes.{output_minimum, payload_limit, session_limit}
use Rattle.readings.specs.Watch.{Limits.off, Limits.above, Limits.outside}
use Rattle.model.specs.State.{Server}
use Rattle.model.specs.Interface.{Event, Event.opening, Event.delivery, Event.cut, Event.clock, Event.answer, Event.status, Event.setting, Setting.watch}
use Rattle.model.specs.Interface.{Setting.patterns, Reply, Reply.refused, Reply.done, Reply.withheld, Reply.took}
use Rattle.model.specs.Refusals.{causes, refusal}
use Rattle.model.specs.Step.{Result, answered, step}
use Rattle.model.specs.Bound.{room_of}
use Rattle.claims.proofs.Bound.{bound}
use Rattle.claims.proofs.Fits.{uncaused}
use Rattle.claims.proofs.Refused.{for_its_cause, changes_nothing_lem}
use Rattle.state.specs.View.{Memory, view}
use Rattle.queue.specs.Queue.{count_is}
use Rattle.journal.specs.Journal.{body_limit}
use Rattle.journal.specs.Bytes.{below, no_is}
use Rattle.journal.specs.Numbered.{numbered}
use Rattle.journal.specs.Writer.{Done, append_of}
use Rattle.record.specs.Layout as layout
use Rattle.record.specs.Layout.{encode, row}
use Rattle.keep.specs.Lists.{row_length, list_row}
use Rattle.judging.specs.Kept.{recorded}
use Rattle.keep.specs.Keeping.{looked, refused_by, entry_unless, keeping, Keeps}

-- whatever bits the memory holds, no more requests wait in it than there are sessions
few_wait : (m : Memory) → length (view m).locks.waiting ≤ session_limit
few_wait m = omega (arith, count_is m.words m.strings)

module _ (m : Memory) (e : Event) where
  pub few_given : length (bytes_of (step (view m) e).frames) ≤ output_minimum
  few_given = omega (arith, (bound (view m) (few_wait m)).within e)

  has_room : length (bytes_of (step (view m) e).frames) ≤ room_of e
  unfolding step answered bytes_of
  has_room = go (refusal (view m) e) refl
    where
      go : (z : ℕ) → refusal (view m) e ≡ z → length (bytes_of (step (view m) e).frames) ≤ room_of e
      go zero q = (bound (view m) (few_wait m)).has_room e q
      go (suc z) q = rw q (omega arith)

  -- the frames stand at the front of the buffer, which is as long as it was
  pub handed : (n : ℕ) (out out' : List ℕ) → n ≡ length (bytes_of (step (view m) e).frames) → out' ≡ written out (step (view m) e).frames → length out ≡ room_of e
      → (n ≤ length out') × (take n out' ≡ bytes_of (step (view m) e).frames)
  handed n out out' p q l =
      let x : List ℕ = bytes_of (step (view m) e).frames in
      let h : length x ≤ length out = omega (arith, has_room) in
      let k : length (splice out 0 x) ≡ length out = length_splice out 0 x (omega arith) in
      (omega (arith, p, k, ap length q), ap (λ (i : ℕ). take i out') p ∙ ap (take (length x)) q ∙ take_front out x h)

-- how much is written where a call is refused: nothing
abbrev pub output_by : Reply → ℕ → ℕ
output_by (refused n) k = 0
output_by done k = k
output_by withheld k = k
output_by (took o k n) l = l

module _ (d : Server) (e : Event) where
  pub refused_by_lem : refused_by (step d e).reply ≡ refusal d e
  refused_by_lem = go (refusal d e) refl
    where
      by : refusal d e ≡ 0 → (y : Reply) → (step d e).reply ≡ y → refused_by y ≡ 0
      by q (refused zero) p = refl
      by q (refused (suc n)) p = absurd (omega (arith, (for_its_cause d e n).0 p))
      by q done p = refl
      by q withheld p = refl
      by q (took o k n) p = refl

      go : (z : ℕ) → refusal d e ≡ z → refused_by (step d e).reply ≡ refusal d e
      go zero q = by q (step d e).reply refl ∙ sym q
      go (suc z) q = ap refused_by ((for_its_cause d e z).1 q) ∙ sym q

  pub output_by_lem : output_by (step d e).reply (length (bytes_of (step d e).frames)) ≡ length (bytes_of (step d e).frames)
  unfolding bytes_of
  output_by_lem = by (step d e).reply refl
    where
      by : (y : Reply) → (step d e).reply ≡ y → output_by y (length (bytes_of (step d e).frames)) ≡ length (bytes_of (step d e).frames)
      by (refused n) p = sym (ap (λ (x : Result). length (bytes_of x.frames)) (changes_nothing_lem d e n p))
      by done p = refl
      by withheld p = refl
      by (took o k n) p = refl

-- the parts are the body, so their entry is the event's
pub kept_call : (d : Server) (e : Event) (z : ℕ) (body words book : List ℕ) (k : ℕ) (words' book' : List ℕ) → z ≡ refusal d e → body ≡ layout.body_bytes (recorded e) (bytes_of (step d e).frames)
    → Keeps (entry_unless z words book body) k words' book' → Keeps (keeping d e words book) k words' book'
kept_call d e z body words book k words' book' p q h =
    subst (λ (x : ℕ). Keeps (entry_unless x words book (layout.body_bytes (recorded e) (bytes_of (step d e).frames))) k words' book') p
    (subst (λ (x : List ℕ). Keeps (entry_unless z words book x) k words' book') q h)

-- the first bytes of a slice, as the code takes them
pub first_of : (n most : ℕ) (bs : List ℕ) → n ≡ min (length bs) most → take n bs ≡ take most bs
first_of n most bs e =
    ⊎_elim (λ (l : length bs < most). ap (λ (k : ℕ). take k bs) (let x : n ≡ length bs = omega arith in x) ∙ take_all (length bs) bs (omega arith) ∙ sym (take_all most bs (omega arith)))
    (λ (l : most ≤ length bs). ap (λ (k : ℕ). take k bs) (let x : n ≡ most = omega arith in x))
    (below (length bs) most)

pub or_first : (a b : Bool) → (a || b) ≡ false → a ≡ false
or_first true b e = e
or_first false b e = refl

pub or_second : (a b : Bool) → (a || b) ≡ false → b ≡ false
or_second true b e = absurd (true≢false e)
or_second false b e = e

-- an answer that is not refused is no longer than 1,024 bytes
pub payload_within : (d : Server) (n : ℕ) (p : List ℕ) (end : Bool) (sh : List ℕ) (room : ℕ) → refusal d (answer n p end sh room) ≡ 0 → length p ≤ payload_limit
unfolding refusal causes
payload_within d n p end sh room z = ltb-false payload_limit (length p) (or_first _ _ (uncaused (causes d (answer n p end sh room)) refl z).1.1.1.0)

-- 02: bodies reach 5,000 bytes at most: every event that is not refused fits, with its frames
pub body_within : (m : Memory) (e : Event) → refusal (view m) (looked e) ≡ 0 → length (layout.body_bytes (recorded (looked e)) (bytes_of (step (view m) (looked e)).frames)) ≤ body_limit
unfolding encode
body_within m (opening c) z = simp (length-append, length_field) (omega (arith, few_given m (opening c)))
body_within m (delivery c bs room) z =
    let e : Event = delivery c (take layout.most_delivered bs) room in
    simp (length-append, length_field, row_length, length-take) (omega (arith, few_given m e))
body_within m (cut c room) z = simp (length-append, length_field) (omega (arith, few_given m (cut c room)))
body_within m (clock t room) z = simp (length-append, length_field) (omega (arith, few_given m (clock t room)))
body_within m (answer n p end sh room) z =
    let e : Event = answer n p end (take layout.most_shown sh) room in
    simp (length-append, length_field, row_length, length-take) (omega (arith, few_given m e, payload_within (view m) n p end (take layout.most_shown sh) room z))
body_within m (status b) z = simp (length-append, length_field) (omega (arith, few_given m (status b)))
body_within m (setting (watch n off)) z = simp (length-append, length_field) (omega (arith, few_given m (setting (watch n off))))
body_within m (setting (watch n (above b))) z = simp (length-append, length_field) (omega (arith, few_given m (setting (watch n (above b)))))
body_within m (setting (watch n (outside b c))) z = simp (length-append, length_field) (omega (arith, few_given m (setting (watch n (outside b c)))))
body_within m (setting (patterns s)) z = simp (length-append, row_length) (omega (arith, has_room m (setting (patterns s)), (list_row (view m) s z).within))

-- the bodies of the events, in the parts that the code has; `out` is the buffer after the call, of which the frames are the first n bytes
pub short_parts : (head : List ℕ) (e : layout.Event) (frames given : List ℕ) → head ≡ layout.encode e → frames ≡ given → head ++ frames ≡ layout.body_bytes e given
short_parts head e frames given p q = λ i. p i ++ q i

pub delivery_parts : (c : ℕ) (shown frames given : List ℕ) → frames ≡ given → numbered 1 c (length shown) ++ shown ++ frames ≡ layout.body_bytes (layout.delivery c shown) given
unfolding encode row
delivery_parts c shown frames given q =
    (λ i. numbered 1 c (length shown) ++ shown ++ q i)
    ∙ ap (λ (x : List ℕ). 1 ∷ (x ++ given)) (append_assoc (field 4 c) (field 4 (length shown)) shown)

pub answer_parts : (n end : ℕ) (head payload behind shown frames given : List ℕ) → head ≡ 4 ∷ (field 4 n ++ (field 1 end ++ field 4 (length payload))) →
    behind ≡ field 4 (length shown) ++ shown → frames ≡ given
    → head ++ payload ++ behind ++ frames ≡ layout.body_bytes (layout.answer n end payload shown) given
unfolding encode row
answer_parts n end head payload behind shown frames given p r q =
    let a : List ℕ = field 4 n in
    let b : List ℕ = field 1 end in
    let c : List ℕ = field 4 (length payload) in
    let d : List ℕ = field 4 (length shown) ++ shown in
    (λ i. p i ++ payload ++ r i ++ q i)
    ∙ ap (λ (x : List ℕ). 4 ∷ (x ++ d ++ given)) (append_assoc a (b ++ c) payload ∙ ap (λ (x : List ℕ). a ++ x) (append_assoc b c payload))
    ∙ ap (λ (x : List ℕ). 4 ∷ (x ++ given)) (append_assoc a (b ++ (c ++ payload)) d ∙ ap (λ (x : List ℕ). a ++ x) (append_assoc b (c ++ payload) d))

-- of a refused event the body does not matter
pub kept_if : (z : ℕ) (words book x y : List ℕ) (k : ℕ) (words' book' : List ℕ) → (z ≡ 0 → x ≡ y) → Keeps (entry_unless z words book x) k words' book' →
    Keeps (entry_unless z words book y) k words' book'
unfolding entry_unless
kept_if zero words book x y k words' book' p h = subst (λ (i : List ℕ). Keeps (entry_unless zero words book i) k words' book') (p refl) h
kept_if (suc z) words book x y k words' book' p h =
    let D : Done = record { answer = Ok tt; words = words; book = book } in
    let n : eqb (suc z) 0 ≡ false = ne_eqb (suc z) 0 (λ q. omega (arith, q)) in
    subst (λ (i : Done). Keeps i k words' book') (no_is {A = Done} (append_of words book x) D n ∙ sym (no_is {A = Done} (append_of words book y) D n)) h

-- where no refusal was told
pub kept_as : (z : ℕ) (words book x y : List ℕ) (k : ℕ) (words' book' : List ℕ) → z ≡ 0 → x ≡ y → Keeps (entry_unless 0 words book x) k words' book' → Keeps (entry_unless z words book y) k words' book'
kept_as z words book x y k words' book' e p h =
    subst (λ (i : ℕ). Keeps (entry_unless i words book y) k words' book') (sym e) (subst (λ (i : List ℕ). Keeps (entry_unless 0 words book i) k words' book') p h)
