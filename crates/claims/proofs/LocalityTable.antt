-- The table of locality leaves nothing free: two outcomes of one call that both meet it are one.
use mathlib.Core.Path.{◌≡◌, refl, sym, ap, ap₂, ◌∙◌}
use mathlib.Core.Bool.{Bool, true, false}
use mathlib.Core.List.{List, [], ◌∷◌, ◌++◌, map}
use Prim.Native.Nat.{ℕ, suc, ◌<◌}
use native.Mathlib.Omega.{arith}
use lib.ListN.{get_or, length}
use Rattle.model.specs.State.{Server, Entry, Waiting, blank, fresh_exchange, closed_connection, fresh_sensing}
use Rattle.model.specs.Locks.{may_grant, after, pass_over}
use Rattle.model.specs.Step.{Result}
use Rattle.model.specs.Closing.{OldestFirst, OldestFirst.pass_end, OldestFirst.pass_grant, OldestFirst.pass_wait}
use Rattle.model.specs.Happening.{Happening}
use Rattle.model.specs.LocalityRows.{looks_after, requests_left}
use Rattle.model.specs.LocalityReplies.{said_first, direct, answered_first, waiting_answer}
use Rattle.model.specs.Locality.{Look, Local, NothingFree}

same_list : {A : Type 0} (z : A) (xs ys : List A) → length xs ≡ length ys → ((i : ℕ) → i < length ys → get_or xs i z ≡ get_or ys i z) → xs ≡ ys
same_list z [] [] l h = refl
same_list z [] (y ∷ ys) l h = absurd (omega arith)
same_list z (x ∷ xs) [] l h = absurd (omega arith)
same_list z (x ∷ xs) (y ∷ ys) l h = ap₂ (λ a bs. a ∷ bs) (h 0 (omega arith)) (same_list z xs ys (omega arith) (λ i q. h (suc i) (omega arith)))

-- whom a look grants
abbrev pick : Bool → Waiting → List Waiting → List Waiting
pick true w gs = w ∷ gs
pick false w gs = gs

picked : ℕ → List Waiting → List Entry → List Waiting
picked now [] es = []
picked now (w ∷ ws) es = let b = may_grant es w.slot w.string in pick b w (picked now ws (after now b w es))

pass_is : {now : ℕ} {es es' : List Entry} {ws vs gs : List Waiting} → OldestFirst now es ws es' vs gs → (es' ≡ (pass_over now ws es).entries)
    × (vs ≡ (pass_over now ws es).waiting) × (gs ≡ picked now ws es)
unfolding pass_over picked
pass_is pass_end = (refl, refl, refl)
pass_is (pass_grant w m l) = let r = pass_is l in (rw m r.0, rw m r.1, rw m (ap (λ gs. w ∷ gs) r.2))
pass_is (pass_wait w m l) = let r = pass_is l in (rw m r.0, rw m (ap (λ vs. w ∷ vs) r.1), rw m r.2)

look_same : (now : ℕ) (b : Bool) (es : List Entry) (ws : List Waiting) (es' es'' : List Entry) (vs vs' gs gs' : List Waiting) → Look now b es ws es' vs gs →
    Look now b es ws es'' vs' gs' → (es' ≡ es'') × (vs ≡ vs') × (gs ≡ gs')
look_same now true es ws es' es'' vs vs' gs gs' p q = let x = pass_is p in let y = pass_is q in (x.0 ∙ sym y.0, x.1 ∙ sym y.1, x.2 ∙ sym y.2)
look_same now false es ws es' es'' vs vs' gs gs' p q = (p.0 ∙ sym q.0, p.1 ∙ sym q.1, p.2 ∙ sym q.2)

module _ (d : Server) (h : Happening) (r r' : Result) (a : Local d h r) (b : Local d h r') where
  same_due : a.due ≡ b.due
  same_due = same_list blank a.due b.due (a.due_slots ∙ sym b.due_slots) (λ i q. let l : i < length d.locks.entries = rw b.due_slots at q in a.due_is i l ∙ sym (b.due_is i l))

  same_locks : (r.server.locks.entries ≡ r'.server.locks.entries) × (r.server.locks.waiting ≡ r'.server.locks.waiting) × (a.granted ≡ b.granted)
  same_locks =
      look_same d.locks.clock (looks_after d.locks.entries h) b.due (requests_left d.locks.entries d.locks.clock h d.locks.waiting)
      r.server.locks.entries r'.server.locks.entries r.server.locks.waiting r'.server.locks.waiting a.granted b.granted
      (rw same_due at a.waiting)
      b.waiting

  same_exchanges : r.server.rest.exchanges ≡ r'.server.rest.exchanges
  same_exchanges =
      same_list fresh_exchange r.server.rest.exchanges r'.server.rest.exchanges (a.exchange_slots ∙ sym b.exchange_slots)
      (λ i q.
      let l : i < length d.rest.exchanges = rw b.exchange_slots at q in
      λ j. record {
        in_clear = (a.in_clear_lem i l ∙ sym (b.in_clear_lem i l)) j;
        asked = (a.asked i l ∙ sym (b.asked i l)) j;
        message_available = (a.message_available_lem i l ∙ sym (b.message_available_lem i l)) j;
        client_size = (a.client_size_lem i l ∙ sym (b.client_size_lem i l)) j;
        overlap = (a.mode i l ∙ sym (b.mode i l)) j;
        count = (a.count i l ∙ sym (b.count i l)) j;
        any_sent = (a.any_sent_lem i l ∙ sym (b.any_sent_lem i l)) j;
        rmt_expected = (a.rmt_expected_lem i l ∙ sym (b.rmt_expected_lem i l)) j;
        number_expected = (a.number_expected_lem i l ∙ sym (b.number_expected_lem i l)) j;
      })

  same_sensings : r.server.rest.sensings ≡ r'.server.rest.sensings
  same_sensings =
      same_list fresh_sensing r.server.rest.sensings r'.server.rest.sensings (a.sensing_slots ∙ sym b.sensing_slots)
      (λ i q. let l : i < length d.rest.sensings = rw b.sensing_slots at q in a.sensing i l ∙ sym (b.sensing i l))

  same_connections : r.server.rest.connections ≡ r'.server.rest.connections
  same_connections =
      same_list closed_connection r.server.rest.connections r'.server.rest.connections (a.connection_places ∙ sym b.connection_places)
      (λ x q.
      let l : x < length d.rest.connections = rw b.connection_places at q in
      λ j. record { is_open = (a.is_open x l ∙ sym (b.is_open x l)) j; remainder = (a.remainder x l ∙ sym (b.remainder x l)) j })

  same_server : r.server ≡ r'.server
  same_server =
      λ j. record {
        locks = record { clock = (a.clock ∙ sym b.clock) j; entries = same_locks.0 j; waiting = same_locks.1 j };
        rest = record {
          exchanges = same_exchanges j;
          sensings = same_sensings j;
          connections = same_connections j;
          last_issued = (a.last_issued_lem ∙ sym b.last_issued_lem) j;
          made = (a.made ∙ sym b.made) j;
          status = (a.status ∙ sym b.status) j;
          remote_local = record { enable = (a.enable ∙ sym b.enable) j; lockout = (a.lockout ∙ sym b.lockout) j; remote = (a.remote ∙ sym b.remote) j };
          allowed = (a.allowed ∙ sym b.allowed) j;
        };
      }

  same_frames : r.frames ≡ r'.frames
  same_frames = a.frames ∙ ap₂ (λ (es : List Entry) (gs : List Waiting). said_first d h ++ (answered_first d h ++ (direct d h ++ map (waiting_answer 1 es) gs)))
      same_due same_locks.2 ∙ sym b.frames

pub nothing_free : NothingFree
nothing_free = record { decides = λ d h r r' a b. (same_server d h r r' a b, same_frames d h r r' a b) }
