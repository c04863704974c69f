-- Laws for the code: what a call gave beside the frames recorded; what a body that was read says; a turn.
use mathlib.Core.Path.{◌≡◌, refl, sym, ap, subst, ◌∙◌}
use mathlib.Core.Bool.{Bool, true, false, not, ◌||◌, ◌&&◌, cond, true≢false}
use mathlib.Core.List.{List, [], ◌∷◌}
use Prim.Native.Nat.{ℕ, zero, suc, ◌+◌, ◌-◌, ◌%◌, ◌^◌, ◌≤◌, ◌<◌}
use native.Mathlib.Nat.{mod-eq_of_lt}
use native.Mathlib.Omega.{arith}
use lib.Dec.{eqb}
use lib.Pointwise.{pointwise}
use Rattle.std.specs.Int.{from_bool}
use lib.ListN.{length, take, length-append, length-drop}
use borrow.Author.Tests.{le-leb, lt-leb, eq-eqb, ne_eqb}
use Rattle.wire.specs.Frame.{bytes_of}
use Rattle.wire.specs.Splice.{splice, take_front}
use Rattle.journal.specs.Journal.{choose}
use Rattle.journal.specs.Bytes.{yes_is, no_is}
use Rattle.record.specs.Layout.{opening as r-opening, delivery as r-delivery, cut as r-cut, clock as r-clock, answer as r-answer}
use Rattle.record.specs.Layout.{status as r-status, watch_off, watch_above, watch_outside, patterns as r-patterns, found, none, decode}
use Rattle.record.specs.Seen.{event_of}
use Rattle.record.specs.declared.events.Event.{Event as Given}
use Rattle.verifier.specs.Judge.{in_layout, in_parcels, gave, on, fault, same, by_deed, by_event}
use Rattle.verifier.specs.Framing.{fault_of}
use Rattle.verifier.specs.declared.Fault.{Fault}
use Rattle.verifier.specs.declared.Fault.TheVariants.{Layout, Parcels}
use Rattle.std.specs.Prelude.{Result, Ok, Err}
use Rattle.model.specs.Sizes.{output_minimum}
use Rattle.readings.specs.Bits.{not_number, below}
use Rattle.readings.specs.Watch as Watch
use Rattle.readings.specs.Watch.{Limits, Limits.off, Limits.above, Limits.outside}
use Rattle.model.specs.State.{Server, at, live, slot_of_number, connection_at}
use Rattle.model.specs.Interface.{Event, Event.opening, Event.delivery, Event.cut, Event.clock, Event.answer, Event.status, Event.setting}
use Rattle.model.specs.Interface.{Setting.watch, Setting.patterns, Reply, Reply.refused as turned_away_lem, Reply.done, Reply.withheld, Reply.took, DoneAnswer}
use Rattle.model.specs.Interface.{done_answer, DeliveryAnswer, delivery_answer, AnsweredAnswer, answered_answer}
use Rattle.commands.specs.Lists.{Judged}
use Rattle.model.specs.Listing.{ListedAnswer, listed_answer}
use Rattle.model.specs.Post.{Post}
use Rattle.model.specs.Refusals.{causes, refusal}
use Rattle.model.specs.Checks.{verdict}
use Rattle.model.specs.Place.{role_of, slot_of}
use Rattle.model.specs.Scan.{scan}
use Rattle.model.specs.Step.{answered, effect, finish, plan, received, step, withholds}
use Rattle.claims.proofs.Refused.{Took, effect_took}
use Rattle.state.specs.View.{Memory, view, numeral}
use Rattle.sessions.specs.declared.Delivery.{Delivery}
use Rattle.server.specs.declared.Answered.{Answered}
use Rattle.server.specs.declared.Done.{Done}
use Rattle.server.specs.declared.listing.Listed.{Listed}
use Rattle.server.specs.Calls.{Delivered}
use Rattle.server.specs.Listing.{SetsList}
use Rattle.server.specs.Events.{Called, Replied}
use Rattle.judging.specs.Replay.{by_reply, by_call, deed}
use Rattle.replay.specs.Replays.{went_of, byte_of, compared_of, Replays, Judges}

-- the number of a refusal, 0 for none; a refusal's number is not 0
abbrev number_of : Reply → ℕ
number_of (turned_away_lem n) = n
number_of done = 0
number_of withheld = 0
number_of (took o k n) = 0

abbrev Fair : Reply → Type 0
Fair (turned_away_lem n) = 0 < n
Fair done = Unit {0}
Fair withheld = Unit {0}
Fair (took o k n) = Unit {0}

took_fair : (y : Reply) → Took y → Fair y
took_fair (turned_away_lem n) t = absurd t
took_fair done t = tt
took_fair withheld t = tt
took_fair (took o k n) t = tt

either_fair : (w : Bool) → Fair (cond w withheld done)
either_fair true = tt
either_fair false = tt

planned_fair : (d : Server) (e : Event) → Fair (plan d e).reply
unfolding plan received
planned_fair d (opening c) = tt
planned_fair d (delivery c bs room) =
    let s = scan (connection_at d.rest c).remainder bs in
    let r = role_of d.locks.entries c in
    let i = slot_of d c in
    took_fair (effect (verdict r d i s) s r d i c).reply (effect_took (verdict r d i s) s r d i c)
planned_fair d (cut c room) = tt
planned_fair d (clock t room) = tt
planned_fair d (answer n p end sh room) = either_fair (withholds d n end sh)
planned_fair d (status b) = tt
planned_fair d (setting s) = tt

fair : (d : Server) (e : Event) → Fair (step d e).reply
unfolding step answered finish
fair d e = go (refusal d e)
  where
    go : (k : ℕ) → Fair (answered k d e).reply
    go zero = planned_fair d e
    go (suc k) = omega arith

at_parcels : (d : Server) → went_of (Err Parcels) d ≡ fault in_parcels
unfolding went_of fault_of
at_parcels d = refl

at_layout : (d : Server) → went_of (Err Layout) d ≡ fault in_layout
unfolding went_of fault_of
at_layout d = refl

either_went : (b : Bool) (d : Server) → went_of (choose b (Ok tt) (Err Parcels)) d ≡ choose b (on d) (fault in_parcels)
unfolding went_of choose fault_of
either_went true d = refl
either_went false d = refl

-- the frames at the front of the buffer
fronted : (out out' x : List ℕ) → out' ≡ splice out 0 x → length out' ≡ length out → (take (length x) out' ≡ x) × (length x ≤ length out')
unfolding splice
fronted out out' x e l =
    let n : length out' ≡ length x + (length out - length x) = ap length e ∙ simp (length-append, length-drop) (omega arith) in
    let h : length x ≤ length out = omega (arith, n, l) in
    (ap (take (length x)) e ∙ take_front out x h, omega (arith, h, l))

module _ (fs : List ℕ) (d : Server) (out frames : List ℕ) (n k : ℕ) (t : take (length fs) out ≡ fs) (l : length fs ≤ length out) where
  given : n ≡ 0 → k ≡ length fs → went_of (compared_of n k out frames) d ≡ by_deed (gave fs d) frames
  unfolding compared_of by_deed
  given p q =
      ap (λ (x : Result (Unit {0}) Fault). went_of x d)
      (yes_is _ _ (eq-eqb n 0 p) ∙ yes_is _ _ (le-leb k (length out) (omega (arith, q, l)))
      ∙ ap (λ (x : List ℕ). choose (same x frames) (Ok tt) (Err Parcels)) (ap (λ (j : ℕ). take j out) q ∙ t))
      ∙ either_went (same fs frames) d

  -- a call's reply, told by the numbers
  beside : (y : Reply) → Fair y → n ≡ number_of y → (n ≡ 0 → k ≡ length fs) → went_of (compared_of n k out frames) d ≡ by_deed (by_reply y fs d) frames
  unfolding by_reply compared_of by_deed
  beside (turned_away_lem j) f p q = ap (λ (x : Result (Unit {0}) Fault). went_of x d) (no_is _ _ (ne_eqb n 0 (λ z. omega (arith, p, f, z)))) ∙ at_parcels d
  beside done f p q = given p (q p)
  beside withheld f p q = given p (q p)
  beside (took o i s) f p q = given p (q p)

-- any call, by its post-condition and its two numbers
called : (e : Event) (m m' : Memory) (out out' frames : List ℕ) (n k : ℕ)
    → Post view e m m' out out' (step (view m) e).reply (length (bytes_of (step (view m) e).frames)) → length out' ≡ length out
    → n ≡ number_of (step (view m) e).reply → (n ≡ 0 → k ≡ length (bytes_of (step (view m) e).frames))
    → went_of (compared_of n k out' frames) (view m') ≡ by_deed (by_call (view m) e) frames
unfolding by_call
called e m m' out out' frames n k p l q r =
    let x : List ℕ = bytes_of (step (view m) e).frames in
    let f = fronted out out' x p.buffer l in
    beside x (view m') out' frames n k f.0 f.1 (step (view m) e).reply (fair (view m) e) q r
    ∙ ap (λ (s : Server). by_deed (by_reply (step (view m) e).reply x s) frames) p.new_server

-- the numbers of the three structs
done_refusal : (y : Reply) (k : ℕ) → (done_answer y k).refusal ≡ number_of y
done_refusal (turned_away_lem n) k = refl
done_refusal done k = refl
done_refusal withheld k = refl
done_refusal (took o i s) k = refl

done_output : (y : Reply) (k : ℕ) → Fair y → (done_answer y k).refusal ≡ 0 → (done_answer y k).output ≡ k
done_output (turned_away_lem n) k f z = absurd (omega (arith, f, z))
done_output done k f z = refl
done_output withheld k f z = refl
done_output (took o i s) k f z = refl

delivery_refusal : (y : Reply) (k j : ℕ) → (delivery_answer y k j).refusal ≡ number_of y
delivery_refusal (turned_away_lem n) k j = refl
delivery_refusal done k j = refl
delivery_refusal withheld k j = refl
delivery_refusal (took o i s) k j = refl

delivery_output : (y : Reply) (k j : ℕ) → Fair y → (delivery_answer y k j).refusal ≡ 0 → (delivery_answer y k j).output ≡ k
delivery_output (turned_away_lem n) k j f z = absurd (omega (arith, f, z))
delivery_output done k j f z = refl
delivery_output withheld k j f z = refl
delivery_output (took o i s) k j f z = refl

answered_refusal : (y : Reply) (k : ℕ) → (answered_answer y k).refusal ≡ number_of y
answered_refusal (turned_away_lem n) k = refl
answered_refusal done k = refl
answered_refusal withheld k = refl
answered_refusal (took o i s) k = refl

answered_output : (y : Reply) (k : ℕ) → Fair y → (answered_answer y k).refusal ≡ 0 → (answered_answer y k).output ≡ k
answered_output (turned_away_lem n) k f z = absurd (omega (arith, f, z))
answered_output done k f z = refl
answered_output withheld k f z = refl
answered_output (took o i s) k f z = refl

listed_refusal : (y : Reply) (j : Judged) → (listed_answer y j).refusal ≡ number_of y
listed_refusal (turned_away_lem n) j = refl
listed_refusal done j = refl
listed_refusal withheld j = refl
listed_refusal (took o i s) j = refl

-- the events
module _ (m m' : Memory) (frames : List ℕ) where
  -- a call without a buffer
  quiet : (e : Event) (n : ℕ) (r : Result (Unit {0}) Fault) → Post view e m m' [] [] (step (view m) e).reply (length (bytes_of (step (view m) e).frames)) → n ≡ number_of (step (view m) e).reply
      → r ≡ compared_of n 0 [] frames → went_of r (view m') ≡ by_deed (by_call (view m) e) frames
  quiet e n r p h q =
      let l = (fronted [] [] (bytes_of (step (view m) e).frames) p.buffer refl).1 in
      ap (λ (k : Result (Unit {0}) Fault). went_of k (view m')) q ∙ called e m m' [] [] frames n 0 p refl h (λ _. omega (arith, l))

  silenced : (e : Event) (r : Result (Unit {0}) Fault) (a : Done) → Called e a m m' [] [] → r ≡ compared_of a.refusal 0 [] frames → went_of r (view m') ≡ by_deed (by_call (view m) e) frames
  silenced e r a p q =
      quiet e a.refusal r p.post (ap (λ (w : DoneAnswer). w.refusal) p.numbers ∙ done_refusal (step (view m) e).reply _) q

  pub set_list : (text : List ℕ) (r : Result (Unit {0}) Fault) (a : Listed) → SetsList text a m m' → r ≡ compared_of a.refusal 0 [] frames → Replays r (r-patterns text) m m' frames
  set_list text r a p q =
      quiet (setting (patterns text)) a.refusal r p.post
      (ap (λ (w : ListedAnswer). w.refusal) p.numbers ∙ listed_refusal (step (view m) (setting (patterns text))).reply _) q

  pub opened : (c : ℕ) (r : Result (Unit {0}) Fault) (a : Done) → Called (opening c) a m m' [] [] → r ≡ compared_of a.refusal 0 [] frames → Replays r (r-opening c) m m' frames
  opened c r a p q = silenced (opening c) r a p q

  pub set_off : (n : ℕ) (r : Result (Unit {0}) Fault) (a : Done) → Called (setting (watch n off)) a m m' [] [] → r ≡ compared_of a.refusal 0 [] frames → Replays r (watch_off n) m m' frames
  set_off n r a p q = silenced (setting (watch n off)) r a p q

  pub set_above : (n l x : ℕ) → x ≡ l → (r : Result (Unit {0}) Fault) (a : Done) → Called (setting (watch n (above x))) a m m' [] [] → r ≡ compared_of a.refusal 0 [] frames → Replays r (watch_above n l) m m' frames
  set_above n l x e r a p q = silenced (setting (watch n (above l))) r a (subst (λ (k : ℕ). Called (setting (watch n (above k))) a m m' [] []) e p) q

  pub set_outside : (n l h x y : ℕ) → x ≡ l → y ≡ h → (r : Result (Unit {0}) Fault) (a : Done) → Called (setting (watch n (outside x y))) a m m' [] [] → r ≡ compared_of a.refusal 0 [] frames
      → Replays r (watch_outside n l h) m m' frames
  set_outside n l h x y e f r a p q =
      silenced (setting (watch n (outside l h))) r a
      (subst (λ (k : ℕ). Called (setting (watch n (outside l k))) a m m' [] []) f (subst (λ (k : ℕ). Called (setting (watch n (outside k y))) a m m' [] []) e p)) q

  module _ (out out' : List ℕ) (h : length out ≡ output_minimum) (l : length out' ≡ length out) where
    by_done : (e : Event) (r : Result (Unit {0}) Fault) (a : Done) → Called e a m m' out out' → r ≡ compared_of a.refusal a.output out' frames → went_of r (view m') ≡ by_deed (by_call (view m) e) frames
    by_done e r a p q =
        let y = (step (view m) e).reply in
        let k : ℕ = length (bytes_of (step (view m) e).frames) in
        let n : a.refusal ≡ (done_answer y k).refusal = ap (λ (z : DoneAnswer). z.refusal) p.numbers in
        ap (λ (j : Result (Unit {0}) Fault). went_of j (view m')) q
        ∙ called e m m' out out' frames a.refusal a.output p.post l (n ∙ done_refusal y k)
        (λ z. ap (λ (w : DoneAnswer). w.output) p.numbers ∙ done_output y k (fair (view m) e) (sym n ∙ z))

    pub cut_off : (c : ℕ) (r : Result (Unit {0}) Fault) (a : Done) → Called (cut c (length out)) a m m' out out' → r ≡ compared_of a.refusal a.output out' frames → Replays r (r-cut c) m m' frames
    cut_off c r a p q = by_done (cut c output_minimum) r a (subst (λ (k : ℕ). Called (cut c k) a m m' out out') h p) q

    pub clock_read : (t : ℕ) (r : Result (Unit {0}) Fault) (a : Done) → Called (clock t (length out)) a m m' out out' → r ≡ compared_of a.refusal a.output out' frames → Replays r (r-clock t) m m' frames
    clock_read t r a p q = by_done (clock t output_minimum) r a (subst (λ (k : ℕ). Called (clock t k) a m m' out out') h p) q

    pub delivered : (c : ℕ) (bs : List ℕ) (r : Result (Unit {0}) Fault) (a : Delivery) → Delivered (delivery c bs (length out)) a m m' out out' →
        r ≡ compared_of a.refusal a.output out' frames → Replays r (r-delivery c bs) m m' frames
    delivered c bs r a p q = go (subst (λ (k : ℕ). Delivered (delivery c bs k) a m m' out out') h p)
      where
        go : Delivered (delivery c bs output_minimum) a m m' out out' → Replays r (r-delivery c bs) m m' frames
        go o =
            let e : Event = delivery c bs output_minimum in
            let y = (step (view m) e).reply in
            let k : ℕ = length (bytes_of (step (view m) e).frames) in
            ap (λ (j : Result (Unit {0}) Fault). went_of j (view m')) q
            ∙ called e m m' out out' frames a.refusal a.output o.post l (ap (λ (z : DeliveryAnswer). z.refusal) o.numbers ∙ delivery_refusal y k _)
            (λ z. ap (λ (w : DeliveryAnswer). w.output) o.numbers ∙ delivery_output y k _ (fair (view m) e) (sym (ap (λ (w : DeliveryAnswer). w.refusal) o.numbers) ∙ z))

    pub answered_so : (n end : ℕ) (x sh : List ℕ) (r : Result (Unit {0}) Fault) (a : Answered) → Replied (answer n x (not (eqb end 0)) sh (length out)) a m m' out out' →
        r ≡ compared_of a.refusal a.output out' frames → Replays r (r-answer n end x sh) m m' frames
    answered_so n end x sh r a p q = go (subst (λ (k : ℕ). Replied (answer n x (not (eqb end 0)) sh k) a m m' out out') h p)
      where
        go : Replied (answer n x (not (eqb end 0)) sh output_minimum) a m m' out out' → Replays r (r-answer n end x sh) m m' frames
        go o =
            let e : Event = answer n x (not (eqb end 0)) sh output_minimum in
            let y = (step (view m) e).reply in
            let k : ℕ = length (bytes_of (step (view m) e).frames) in
            ap (λ (j : Result (Unit {0}) Fault). went_of j (view m')) q
            ∙ called e m m' out out' frames a.refusal a.output o.post l (ap (λ (z : AnsweredAnswer). z.refusal) o.numbers ∙ answered_refusal y k)
            (λ z. ap (λ (w : AnsweredAnswer). w.output) o.numbers ∙ answered_output y k (fair (view m) e) (sym (ap (λ (w : AnsweredAnswer). w.refusal) o.numbers) ∙ z))

  pub status_set : (b : ℕ) (r : Result (Unit {0}) Fault) → Post view (status b) m m' [] [] done 0 → r ≡ compared_of 0 0 [] frames → Replays r (r-status b) m m' frames
  status_set b r p q =
      let e : Event = status b in
      let g : Post view e m m' [] [] (step (view m) e).reply (length (bytes_of (step (view m) e).frames)) =
      subst (λ (y : Reply). Post view e m m' [] [] y (length (bytes_of (step (view m) e).frames))) p.replies
      (subst (λ (k : ℕ). Post view e m m' [] [] done k) p.output_length p) in
      ap (λ (k : Result (Unit {0}) Fault). went_of k (view m')) q
      ∙ called e m m' [] [] frames 0 0 g refl (ap number_of p.replies) (λ z. p.output_length)

-- the float of a number's bits has those bits
pub float_bits : (x l : ℕ) → x ≡ numeral l → l < 256 ^ 4 → not_number l ≡ false → x ≡ l
unfolding numeral
float_bits x l e h n =
    let m : l % 2 ^ 32 ≡ l = mod-eq_of_lt h in
    e ∙ ap (λ (k : ℕ). cond (not_number k) 0 k) m ∙ ap (λ (b : Bool). cond b 0 l) n

-- limits that are no numbers are refused
not_zero : (a b : Bool) → b ≡ true → ◌≡◌ {A = ℕ} (cond a 8 (cond b 10 0)) 0 → ⊥
not_zero true b e z = omega (arith, z)
not_zero false true e z = omega (arith, z)
not_zero false false e z = true≢false (sym e)

refused_step : (d : Server) (e : Event) (frames : List ℕ) → (refusal d e ≡ 0 → ⊥) → by_deed (by_call d e) frames ≡ fault in_parcels
unfolding step answered by_call by_reply by_deed
refused_step d e frames = go (refusal d e)
  where
    go : (k : ℕ) → (k ≡ 0 → ⊥) → by_deed (by_reply (answered k d e).reply (bytes_of (answered k d e).frames) (answered k d e).server) frames ≡ fault in_parcels
    go zero n = absurd (n refl)
    go (suc k) n = refl

module _ (m : Memory) (frames : List ℕ) (n : ℕ) where
  bad_limits_lem : (l : Limits) → Watch.refused l ≡ true → refusal (view m) (setting (watch n l)) ≡ 0 → ⊥
  unfolding refusal causes
  bad_limits_lem l e z = not_zero (not (live (at (view m).locks.entries (slot_of_number (view m).locks.entries n)))) (Watch.refused l) e z

  either_bad : (a b : Bool) → b ≡ true → (a || b) ≡ true
  either_bad true b e = refl
  either_bad false b e = e

  pub no_above : (l : ℕ) → not_number l ≡ true → Replays (Err Parcels) (watch_above n l) m m frames
  unfolding Watch.refused
  no_above l e = at_parcels (view m) ∙ sym (refused_step (view m) (setting (watch n (above l))) frames (bad_limits_lem (above l) e))

  pub no_low : (l h : ℕ) → not_number l ≡ true → Replays (Err Parcels) (watch_outside n l h) m m frames
  unfolding Watch.refused
  no_low l h e = at_parcels (view m) ∙ sym (refused_step (view m) (setting (watch n (outside l h))) frames (bad_limits_lem (outside l h) (ap (λ (b : Bool). b || (not_number h || below h l)) e)))

  pub no_high : (l h : ℕ) → not_number h ≡ true → Replays (Err Parcels) (watch_outside n l h) m m frames
  unfolding Watch.refused
  no_high l h e =
      at_parcels (view m)
      ∙ sym (refused_step (view m) (setting (watch n (outside l h))) frames (bad_limits_lem (outside l h) (either_bad (not_number l) _ (ap (λ (b : Bool). b || below h l) e))))

-- a body that was read
module _ (m m' : Memory) (s frames : List ℕ) (r : Result (Unit {0}) Fault) where
  pub judged : (e v : Given) → e ≡ v → decode s ≡ found (event_of e) frames → Replays r (event_of v) m m' frames → Judges r m m' s
  unfolding by_event
  judged e v i q g = g ∙ ap (by_event deed (view m)) (ap (λ (x : Given). found (event_of x) frames) (sym i) ∙ sym q)

pub no_layout : (m : Memory) (s : List ℕ) → decode s ≡ none → Judges (Err Layout) m m s
unfolding by_event
no_layout m s q = at_layout (view m) ∙ ap (by_event deed (view m)) (sym q)

-- a bool as a byte
pub byte_is : (b : Bool) (k : ℕ) → k ≡ from_bool b → k ≡ byte_of b
byte_is true k e = e
byte_is false k e = e

-- the library compares slices as the definition does
pub compares : (x y : List ℕ) → pointwise eqb x y ≡ same x y
compares [] [] = refl
compares [] (y ∷ ys) = refl
compares (x ∷ xs) [] = refl
compares (x ∷ xs) (y ∷ ys) = ap (λ (b : Bool). eqb x y && b) (compares xs ys)

-- the comparison in code: one law for each way out
module _ (n k : ℕ) (out frames : List ℕ) where
  pub not_taken : (n ≡ 0 → ⊥) → Err Parcels ≡ compared_of n k out frames
  unfolding compared_of
  not_taken h = sym (no_is _ _ (ne_eqb n 0 h))

  pub too_much : n ≡ 0 → length out < k → Err Parcels ≡ compared_of n k out frames
  unfolding compared_of
  too_much z h = sym (yes_is _ _ (eq-eqb n 0 z) ∙ no_is _ _ (lt-leb k (length out) h))

  module _ (z : n ≡ 0) (l : k ≤ length out) (b : Bool) (e : b ≡ same (take k out) frames) where
    to_same : compared_of n k out frames ≡ choose b (Ok tt) (Err Parcels)
    unfolding compared_of
    to_same = yes_is _ _ (eq-eqb n 0 z) ∙ yes_is _ _ (le-leb k (length out) l) ∙ ap (λ (x : Bool). choose x (Ok tt) (Err Parcels)) (sym e)

    pub alike : b ≡ true → Ok tt ≡ compared_of n k out frames
    alike t = sym (to_same ∙ yes_is _ _ t)

    pub unlike : b ≡ false → Err Parcels ≡ compared_of n k out frames
    unlike t = sym (to_same ∙ no_is _ _ t)
