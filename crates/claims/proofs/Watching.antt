-- What the server keeps of a live session's readings is what the log says; and the requests for service of each call: kept from call to call, by
-- the table of locality.
use mathlib.Core.Path.{◌≡◌, refl, sym, ap, ◌∙◌}
use mathlib.Core.Bool.{Bool, true, false, not, ◌&&◌, cond, false≢true, true≢false}
use mathlib.Core.List.{List, [], ◌∷◌, ◌++◌, map, append-nil}
use mathlib.Core.Logic.{◌⊎◌, inl, inr}
use Prim.Native.Nat.{ℕ, zero, suc, ◌<◌}
use native.Mathlib.Omega.{arith}
use lib.Dec.{eqb}
use lib.ListN.{length, replicate, get_or}
use borrow.Author.Tests.{eqb-true, eq-eqb, ne_eqb}
use Rattle.wire.specs.Frame.{Frame, frame_of}
use Rattle.readings.specs.Request.{request_code}
use Rattle.model.specs.Sizes.{session_limit}
use Rattle.model.specs.Lists.{keep}
use Rattle.model.specs.State.{Server, Entry, Sensing, at, live, slot_of_number, fresh_sensing, sensing_at, exchange_at, fresh, Making}
use Rattle.model.specs.Interface.{Event, Event.opening, Event.delivery, Event.cut, Event.clock, Event.answer, Event.status, Event.setting}
use Rattle.model.specs.Interface.{Setting.watch, Setting.patterns, Outcome, Outcome.more_needed, Outcome.skipped, Outcome.held, Outcome.ignored}
use Rattle.model.specs.Interface.{Outcome.error_sent, Outcome.closed, Outcome.acted, Reply, Reply.refused, Reply.done, Reply.withheld, Reply.took}
use Rattle.model.specs.Place.{slot_in}
use Rattle.model.specs.Refusals.{causes, refusal}
use Rattle.model.specs.Step.{Result, answered, step, final, log}
use Rattle.model.specs.Happening.{Action, Happening, Happening.unmoved, Happening.connected, Happening.disconnected, Happening.skipped_over, Happening.errored}
use Rattle.model.specs.Happening.{Happening.message_acted, Happening.clock_read, Happening.status_set, Happening.setting_made, Happening.answer_sent}
use Rattle.model.specs.Happening.{Happening.answer_withheld, happened}
use Rattle.model.specs.LocalityRows.{kind_of, slot_acted, in_slot, number_row, sensing_row, trips_by}
use Rattle.model.specs.LocalityReplies.{number_sent, plain_to, service_from, service_to, waiting_answer}
use Rattle.model.specs.Locality.{at_call, Local}
use Rattle.model.specs.NextQuestion.{asynchronous_of}
use Rattle.model.specs.Watching.{told_by, senses, sensing_in, sensing_of, status_of, is_service, served_by, Watches}
use Rattle.model.proofs.Basics.{both, not_off, inside, same?}
use Rattle.claims.proofs.Invariant.{Inv}
use Rattle.claims.proofs.Events.{Enters, inv_fresh}
use Rattle.claims.proofs.Fits.{uncaused, inv_call}
use Rattle.claims.proofs.Numbers.{live_found}
use Rattle.claims.proofs.Locality.{local_call, local_run}
use Rattle.claims.proofs.Numbering.{ActedFacts, Facts, facts}
use Rattle.claims.proofs.NextQuestion.{second_is}
use Rattle.claims.proofs.SentTypes.{Mute, none_sent, none_kept}

-- the session that an answer is sent to, and that a watch is set for, is live
abbrev IsLive : Server → ℕ → Type 0
IsLive d n = live (at d.locks.entries (slot_of_number d.locks.entries n)) ≡ true

abbrev ForLive : Server → Happening → Type 0
ForLive d unmoved = Unit {0}
ForLive d (connected c) = Unit {0}
ForLive d (disconnected c k) = Unit {0}
ForLive d (skipped_over c k) = Unit {0}
ForLive d (errored c h k) = Unit {0}
ForLive d (message_acted a) = Unit {0}
ForLive d (clock_read t) = Unit {0}
ForLive d (status_set b) = Unit {0}
ForLive d (setting_made (watch n l)) = IsLive d n
ForLive d (setting_made (patterns text)) = Unit {0}
ForLive d (answer_sent n p end) = IsLive d n
ForLive d (answer_withheld n m) = Unit {0}

accepted : (d : Server) (e : Event) → (step d e).reply ≡ done → refusal d e ≡ 0
unfolding step answered
accepted d e q = go (refusal d e) q
  where
    go : (k : ℕ) → (answered k d e).reply ≡ done → k ≡ 0
    go zero q = refl
    go (suc k) q = absurd (let z : ◌≡◌ {A = ℕ} 0 1 = cc in omega arith)

delivered : (d : Server) (o : Outcome) (c : ℕ) (bs : List ℕ) (k n : ℕ) (fs : List Frame) → ForLive d (happened (delivery c bs 0) (took o k n) fs)
delivered d more_needed c bs k n fs = tt
delivered d skipped c bs k n fs = tt
delivered d held c bs k n fs = tt
delivered d ignored c bs k n fs = tt
delivered d error_sent c bs k n fs = tt
delivered d closed c bs k n fs = tt
delivered d acted c bs k n fs = tt

for_live : (d : Server) (e : Event) (r : Reply) (fs : List Frame) → (step d e).reply ≡ r → ForLive d (happened e r fs)
unfolding refusal causes
for_live d e (refused n) fs q = tt
for_live d (delivery c bs room) (took o k n) fs q = delivered d o c bs k n fs
for_live d (opening c) (took o k n) fs q = tt
for_live d (cut c room) (took o k n) fs q = tt
for_live d (clock t room) (took o k n) fs q = tt
for_live d (answer m x end sh room) (took o k n) fs q = tt
for_live d (status b) (took o k n) fs q = tt
for_live d (setting s) (took o k n) fs q = tt
for_live d (opening c) withheld fs q = tt
for_live d (delivery c bs room) withheld fs q = tt
for_live d (cut c room) withheld fs q = tt
for_live d (clock t room) withheld fs q = tt
for_live d (answer m x end sh room) withheld fs q = tt
for_live d (status b) withheld fs q = tt
for_live d (setting s) withheld fs q = tt
for_live d (opening c) done fs q = tt
for_live d (delivery c bs room) done fs q = tt
for_live d (cut c room) done fs q = tt
for_live d (clock t room) done fs q = tt
for_live d (answer m x end sh room) done fs q = not_off _ (uncaused (causes d (answer m x end sh room)) refl (accepted d (answer m x end sh room) q)).1.0
for_live d (status b) done fs q = tt
for_live d (setting (watch n l)) done fs q = not_off _ (uncaused (causes d (setting (watch n l))) refl (accepted d (setting (watch n l)) q)).0
for_live d (setting (patterns text)) done fs q = tt

-- of each live slot; a free one has nothing
record Reads (d : Server) (f : ℕ → Sensing) : Type 0 where
  pub inv : Inv d.locks
  pub sized : length d.rest.exchanges ≡ session_limit
  pub slots : length d.rest.sensings ≡ session_limit
  pub knows : (i : ℕ) → live (at d.locks.entries i) ≡ true → sensing_at d.rest i ≡ f (at d.locks.entries i).number
  pub vacant : (i : ℕ) → i < session_limit → live (at d.locks.entries i) ≡ false → sensing_at d.rest i ≡ fresh_sensing

module _ (d : Server) (f : ℕ → Sensing) (g : Reads d f) (r : Result) where
  abbrev es : List Entry
  es = d.locks.entries

  abbrev es' : List Entry
  es' = r.server.locks.entries

  abbrev x : ℕ → Sensing
  x i = sensing_at d.rest i

  -- a slot as the call leaves it: who it is, and its readings
  abbrev Leaves : Happening → ℕ → Type 0
  Leaves h i = ((at es' i).number ≡ in_slot number_row es i h (at es i).number) × (sensing_at r.server.rest i ≡ sensing_row es i h (x i))

  abbrev Goal : Happening → ℕ → Type 0
  Goal h i = (live (at es' i) ≡ true → sensing_at r.server.rest i ≡ senses h (at es' i).number (f (at es' i).number))
      × (live (at es' i) ≡ false → sensing_at r.server.rest i ≡ fresh_sensing)

  table : (h : Happening) → Local d h r → (i : ℕ) → i < session_limit → Leaves h i
  table h l i q = (l.number i (omega (arith, q, g.inv.sound.firm.slots)), l.sensing i (omega (arith, q, g.slots)))

  -- who it is stays; its readings change by k, and so does the reader's
  stays : (h : Happening) (i : ℕ) → i < session_limit → (at es' i).number ≡ (at es i).number → (k : Sensing → Sensing) → sensing_at r.server.rest i ≡ k (x i)
      → (live (at es i) ≡ true → senses h (at es i).number (f (at es i).number) ≡ k (f (at es i).number)) → (live (at es i) ≡ false → k fresh_sensing ≡ fresh_sensing) → Goal h i
  stays h i q n k e s z = (
    λ v.
        let alive : live (at es i) ≡ true = ap (λ m. not (eqb m 0)) (sym n) ∙ v in
        e ∙ ap k (g.knows i alive) ∙ sym (s alive) ∙ ap (λ (m : ℕ). senses h m (f m)) (sym n),
    λ v. let free : live (at es i) ≡ false = ap (λ m. not (eqb m 0)) (sym n) ∙ v in e ∙ ap k (g.vacant i q free) ∙ z free,
  )

  kept : (h : Happening) (i : ℕ) → i < session_limit → (at es' i).number ≡ (at es i).number → sensing_at r.server.rest i ≡ x i → ((n : ℕ) → senses h n (f n) ≡ f n) → Goal h i
  kept h i q n e s = stays h i q n (λ y. y) e (λ v. s (at es i).number) (λ v. refl)

  -- a closing
  closed_at : (h : Happening) (i : ℕ) → i < session_limit → (b : Bool) → (at es' i).number ≡ cond b 0 (at es i).number →
      sensing_at r.server.rest i ≡ cond b fresh_sensing (x i) → ((n : ℕ) → senses h n (f n) ≡ f n) → Goal h i
  closed_at h i q true n e s = (λ v. absurd (false≢true (ap (λ m. not (eqb m 0)) (sym n) ∙ v)), λ v. e)
  closed_at h i q false n e s = kept h i q n e s

  -- a change for session m, which is live: of its slot alone
  module _ (m : ℕ) (there : IsLive d m) where
    abbrev s₀ : ℕ
    s₀ = slot_of_number es m

    mine : (i : ℕ) → live (at es i) ≡ true → eqb i s₀ ≡ eqb m (at es i).number
    mine i v = go (same? i s₀)
      where
        found : (at es s₀).number ≡ m
        found = live_found es m there

        go : (i ≡ s₀) ⊎ (i ≡ s₀ → ⊥) → eqb i s₀ ≡ eqb m (at es i).number
        go (inl e) = eq-eqb i s₀ e ∙ sym (eq-eqb m _ (sym found ∙ ap (λ (j : ℕ). (at es j).number) (sym e)))
        go (inr o) = ne_eqb i s₀ o ∙ sym (ne_eqb m _ (λ z. o (g.inv.sound.firm.numbers m i s₀ (both _ _ v (eq-eqb _ _ (sym z))) (both _ _ there (eq-eqb _ _ found)))))

    free_not : (i : ℕ) → live (at es i) ≡ false → eqb i s₀ ≡ false
    free_not i v = ne_eqb i s₀ (λ e. true≢false (sym there ∙ ap (λ (j : ℕ). live (at es j)) (sym e) ∙ v))

    changed_at : (h : Happening) (k : Sensing → Sensing) → ((n : ℕ) (y : Sensing) → senses h n y ≡ cond (eqb m n) (k y) y) → (i : ℕ) → i < session_limit
        → (at es' i).number ≡ (at es i).number → sensing_at r.server.rest i ≡ cond (eqb i s₀) (k (x i)) (x i) → Goal h i
    changed_at h k s i q n e =
        stays h i q n (λ y. cond (eqb i s₀) (k y) y) e
        (λ v. s (at es i).number (f (at es i).number) ∙ ap (λ (b : Bool). cond b (k (f (at es i).number)) (f (at es i).number)) (sym (mine i v)))
        (λ v. ap (λ (b : Bool). cond b (k fresh_sensing) fresh_sensing) (free_not i v))

  -- a message that acted: Initialize takes a free slot, any other leaves who is where
  module _ (a : Action) (fact : ActedFacts d a) where
    abbrev did : Happening
    did = message_acted a

    not_begun : (i : ℕ) → i < session_limit → eqb (kind_of a) 0 ≡ false → Leaves did i → Goal did i
    not_begun i q t l =
        kept did i q (l.0 ∙ same (eqb i (slot_acted es a)) (eqb (kind_of a) 0) t) l.1 (λ n. ap (λ (b : Bool). cond (b && eqb a.session n) fresh_sensing (f n)) t)
      where
        same : (b z : Bool) → z ≡ false → cond b (cond z a.session (at es i).number) (at es i).number ≡ (at es i).number
        same true z e = ap (λ (z : Bool). cond z a.session (at es i).number) e
        same false z e = refl

    begun : (i : ℕ) → i < session_limit → kind_of a ≡ 0 → Leaves did i → Goal did i
    begun i q t l = go (same? i z₀)
      where
        z₀ : ℕ
        z₀ = slot_of_number es 0

        n₀ : Enters es z₀ a.session a.connection
        n₀ = fact.enters t

        number : (at es' i).number ≡ cond (eqb i z₀) a.session (at es i).number
        number = rw t at l.0

        reads : (n : ℕ) → senses did n (f n) ≡ cond (eqb a.session n) fresh_sensing (f n)
        reads n = rw t

        go : (i ≡ z₀) ⊎ (i ≡ z₀ → ⊥) → Goal did i
        go (inl e) =
            let n : (at es' i).number ≡ a.session = number ∙ ap (λ (b : Bool). cond b a.session (at es i).number) (eq-eqb i z₀ e) in
            let empty : x i ≡ fresh_sensing = g.vacant i q (ap (λ (j : ℕ). live (at es j)) e ∙ n₀.vacant) in (
              λ v.
                  l.1 ∙ empty
                  ∙ sym (ap (λ (m : ℕ). senses did m (f m)) n ∙ reads a.session ∙ ap (λ (b : Bool). cond b fresh_sensing (f a.session)) (eq-eqb a.session a.session refl)),
              λ v. l.1 ∙ empty,
            )
        go (inr o) =
            let n : (at es' i).number ≡ (at es i).number = number ∙ ap (λ (b : Bool). cond b a.session (at es i).number) (ne_eqb i z₀ o) in
            stays did i q n (λ y. y) l.1
            (λ v. reads (at es i).number ∙ ap (λ (b : Bool). cond b fresh_sensing (f (at es i).number))
            (ne_eqb a.session (at es i).number (λ z. n₀.fresh i (both _ _ v (eq-eqb _ _ (sym z))))))
            (λ v. refl)

    acted_at : (i : ℕ) → i < session_limit → Leaves did i → Goal did i
    acted_at i q l = go (eqb (kind_of a) 0) refl
      where
        go : (b : Bool) → eqb (kind_of a) 0 ≡ b → Goal did i
        go true t = begun i q (eqb-true _ _ t) l
        go false t = not_begun i q t l

  both_same : (b : Bool) (n m : ℕ) → n ≡ cond b m m → n ≡ m
  both_same true n m e = e
  both_same false n m e = e

  -- any call
  call_at : (h : Happening) → Local d h r → Facts d h → ForLive d h → (i : ℕ) → i < session_limit → Goal h i
  call_at unmoved l k v i q = let t = table unmoved l i q in kept unmoved i q t.0 t.1 (λ n. refl)
  call_at (connected c) l k v i q = let t = table (connected c) l i q in kept (connected c) i q t.0 t.1 (λ n. refl)
  call_at (disconnected c j) l k v i q = let t = table (disconnected c j) l i q in closed_at (disconnected c j) i q (eqb i (slot_in es c)) t.0 t.1 (λ n. refl)
  call_at (skipped_over c j) l k v i q = let t = table (skipped_over c j) l i q in kept (skipped_over c j) i q t.0 t.1 (λ n. refl)
  call_at (errored c h j) l k v i q = let t = table (errored c h j) l i q in kept (errored c h j) i q (both_same (eqb i (slot_in es c) && eqb (at es i).synchronous c) _ _ t.0) t.1 (λ n. refl)
  call_at (message_acted a) l k v i q = acted_at a k i q (table (message_acted a) l i q)
  call_at (clock_read u) l k v i q = let t = table (clock_read u) l i q in kept (clock_read u) i q t.0 t.1 (λ n. refl)
  call_at (status_set b) l k v i q = let t = table (status_set b) l i q in kept (status_set b) i q t.0 t.1 (λ n. refl)
  call_at (setting_made (watch m w)) l k v i q =
      let t = table (setting_made (watch m w)) l i q in
      changed_at m v (setting_made (watch m w)) (λ y. record { watch = w; tripped = false; recorded = y.recorded }) (λ n y. refl) i q t.0 t.1
  call_at (setting_made (patterns text)) l k v i q = let t = table (setting_made (patterns text)) l i q in kept (setting_made (patterns text)) i q t.0 t.1 (λ n. refl)
  call_at (answer_sent m p end) l k v i q =
      let t = table (answer_sent m p end) l i q in
      changed_at m v (answer_sent m p end) (told_by p) (λ n y. refl) i q (both_same (eqb i (slot_of_number es m)) _ _ t.0) t.1
  call_at (answer_withheld m j) l k v i q = let t = table (answer_withheld m j) l i q in kept (answer_withheld m j) i q (both_same (eqb i (slot_of_number es m)) _ _ t.0) t.1 (λ n. refl)

  within : (h : Happening) → Local d h r → (i : ℕ) → live (at es' i) ≡ true → i < session_limit
  within h l i v = omega (arith, inside live es' i refl v, l.slots, g.inv.sound.firm.slots)

call_reads : (d : Server) (f : ℕ → Sensing) (e : Event) → Reads d f → Reads (step d e).server (λ n. senses (at_call d e) n (f n))
call_reads d f e g =
    let l = local_call d e in
    let k = facts d g.inv (g.sized ∙ sym g.inv.sound.firm.slots) e (step d e).reply refl in
    let w = for_live d e (step d e).reply (step d e).frames refl in
    record {
      inv = inv_call d e g.inv;
      sized = l.exchange_slots ∙ g.sized;
      slots = l.sensing_slots ∙ g.slots;
      knows = λ i v. (call_at d f g (step d e) (at_call d e) l k w i (within d f g (step d e) (at_call d e) l i v)).0 v;
      vacant = λ i q v. (call_at d f g (step d e) (at_call d e) l k w i q).1 v;
    }

list_reads : (es : List Event) (d : Server) (f : ℕ → Sensing) → Reads d f → Reads (final d es) (λ n. sensing_in (log d es) n (f n))
unfolding final log sensing_in
list_reads [] d f g = record { inv = g.inv; sized = g.sized; slots = g.slots; knows = g.knows; vacant = g.vacant }
list_reads (e ∷ es) d f g = list_reads es (step d e).server (λ n. senses (at_call d e) n (f n)) (call_reads d f e g)

fresh_at : (n i : ℕ) → get_or (replicate n fresh_sensing) i fresh_sensing ≡ fresh_sensing
fresh_at zero i = refl
fresh_at (suc n) zero = refl
fresh_at (suc n) (suc i) = fresh_at n i

fresh_reads : (v : Making) → Reads (fresh v) (λ n. fresh_sensing)
fresh_reads v =
    record {
      inv = inv_fresh;
      sized = refl;
      slots = refl;
      knows = λ i u. fresh_at session_limit i;
      vacant = λ i q u. fresh_at session_limit i;
    }

run_reads : (v : Making) (es : List Event) → Reads (final (fresh v) es) (λ n. sensing_of v es n)
run_reads v es = list_reads es (fresh v) (λ n. fresh_sensing) (fresh_reads v)

-- ---- requests for service
module _ (v : Making) (es : List Event) where
  abbrev D : Server
  D = final (fresh v) es

  quiet : (h : Happening) (r : Result) → Local D h r → Mute h → keep is_service r.frames ≡ []
  quiet h r l m = none_kept is_service r.frames (none_sent (λ t. eqb t 20) refl D h r l m)

  -- an answer that was sent: its own frame is none, and the request is
  module _ (n : ℕ) (p : List ℕ) (end : Bool) (r : Result) (l : Local D (answer_sent n p end) r) (there : IsLive D n) where
    abbrev slot : ℕ
    slot = slot_of_number D.locks.entries n

    abbrev own_frame : Frame
    own_frame = frame_of (at D.locks.entries slot).synchronous (cond end 7 6) 0 (number_sent (exchange_at D.rest slot)) p

    known_here : sensing_at D.rest slot ≡ sensing_of v es n
    known_here = (run_reads v es).knows slot there ∙ ap (sensing_of v es) (live_found D.locks.entries n there)

    sent : r.frames ≡ own_frame ∷ service_from (asynchronous_of v es n) (sensing_of v es n) p (status_of v es)
    sent =
        l.frames
        ∙ ap (λ gs. (own_frame ∷ service_to (at D.locks.entries slot) (sensing_at D.rest slot) p D.rest.status) ++ map (waiting_answer 1 l.due) gs) l.waiting.2
        ∙ append-nil _
        ∙ (λ j. own_frame ∷ service_from (sym (second_is v es n there) j) (known_here j) p ((local_run (fresh v) es).status j))

    not_own : (b : Bool) (gs : List Frame) → cond (eqb (cond b 7 6) 20) (own_frame ∷ gs) gs ≡ gs
    not_own true gs = refl
    not_own false gs = refl

    the_request : (t : Bool) (c b : ℕ) → keep is_service (cond t (plain_to c 20 (request_code b) 0 ∷ []) []) ≡ cond t (plain_to c 20 (request_code b) 0 ∷ []) []
    the_request true c b = refl
    the_request false c b = refl

    served : keep is_service r.frames ≡ served_by v es (answer_sent n p end)
    served =
        let s = sensing_of v es n in
        ap (keep is_service) sent
        ∙ not_own end (keep is_service (service_from (asynchronous_of v es n) s p (status_of v es)))
        ∙ the_request (not s.tripped && trips_by p s) (asynchronous_of v es n) (status_of v es)

  serves_by : (h : Happening) (r : Result) → Local D h r → ForLive D h → keep is_service r.frames ≡ served_by v es h
  serves_by unmoved r l w = quiet unmoved r l tt
  serves_by (connected c) r l w = quiet (connected c) r l tt
  serves_by (disconnected c k) r l w = quiet (disconnected c k) r l tt
  serves_by (skipped_over c k) r l w = quiet (skipped_over c k) r l tt
  serves_by (errored c h k) r l w = quiet (errored c h k) r l tt
  serves_by (message_acted a) r l w = quiet (message_acted a) r l tt
  serves_by (clock_read t) r l w = quiet (clock_read t) r l tt
  serves_by (status_set b) r l w = quiet (status_set b) r l tt
  serves_by (setting_made x) r l w = quiet (setting_made x) r l tt
  serves_by (answer_sent n p end) r l w = served n p end r l w
  serves_by (answer_withheld n m) r l w = quiet (answer_withheld n m) r l tt

  pub watches : Watches v es
  watches =
      record {
        known = (run_reads v es).knows;
        serves = λ e. serves_by (at_call D e) (step D e) (local_call D e) (for_live D e (step D e).reply (step D e).frames refl);
      }
