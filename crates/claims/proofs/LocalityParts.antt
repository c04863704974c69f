-- The parts of a call's locality, and the whole put together from them.
use mathlib.Core.Path.{◌≡◌, refl, ap, ◌∙◌}
use mathlib.Core.List.{List, ◌++◌, map}
use Prim.Native.Nat.{ℕ, ◌<◌}
use lib.ListN.{get_or, length}
use Rattle.model.specs.State.{Making, Allowed, Server, Locks, Rest, Entry, Waiting, Exchange, Connection, RemoteLocal, at, blank, fresh_exchange}
use Rattle.model.specs.State.{closed_connection, connection_at, Sensing, fresh_sensing, sensing_at}
use Rattle.model.specs.Interface.{Outcome, Reply.took}
use Rattle.model.specs.Step.{Result}
use Rattle.model.specs.Happening.{Happening}
use Rattle.model.specs.LocalityRows.{clear_row, asked_row, available_row, size_row, mode_row, count_row, sent_row, expected_row, step_row, requests_left}
use Rattle.model.specs.LocalityRows.{looks_after, in_place, open_row, remainder_row, singly, clock_row, status_row, made_row, allowed_row, issued_row}
use Rattle.model.specs.LocalityRows.{enable_row, lockout_row, remote_row, sensing_row}
use Rattle.model.specs.LocalityReplies.{said_first, direct, answered_first, waiting_answer, session_said}
use Rattle.model.specs.Locality.{entry_due, Look, Local}
use Rattle.claims.proofs.LocalityLists.{Rowed, project, project_way, connection_way, exchange_row, entry_row, due_entry, looked_at, look_sized, look_each}

pub record Places (d : Server) (h : Happening) (cs : List Connection) : Type 0 where
  pub size : length cs ≡ length d.rest.connections
  pub each : (x : ℕ) → x < length d.rest.connections → get_or cs x closed_connection ≡ in_place connection_way d.locks.entries x h (connection_at d.rest x)

-- of the rest, what stands once: status byte, how the server was made, the number issued last, flags, allowed commands
pub record Singles (d : Server) (h : Happening) (b : ℕ) (v : Making) (n : ℕ) (f : RemoteLocal) (a : Allowed) : Type 0 where
  pub status : b ≡ singly status_row h d.rest.status
  pub made : v ≡ singly made_row h d.rest.made
  pub last_issued_lem : n ≡ singly issued_row h d.rest.last_issued
  pub enable : f.enable ≡ singly enable_row h d.rest.remote_local.enable
  pub lockout : f.lockout ≡ singly lockout_row h d.rest.remote_local.lockout
  pub remote : f.remote ≡ singly remote_row h d.rest.remote_local.remote
  pub allowed : a ≡ singly allowed_row h d.rest.allowed

-- of readings
pub record Sensings (d : Server) (h : Happening) (ss : List Sensing) : Type 0 where
  pub size : length ss ≡ length d.rest.sensings
  pub each : (i : ℕ) → i < length d.rest.sensings → get_or ss i fresh_sensing ≡ sensing_row d.locks.entries i h (sensing_at d.rest i)

pub record RestPart (d : Server) (h : Happening) (r : Rest) : Type 0 where
  pub singles : Singles d h r.status r.made r.last_issued r.remote_local r.allowed
  pub exchanges : Rowed fresh_exchange (exchange_row d.rest.made.prefers_overlap) d.locks.entries h d.rest.exchanges r.exchanges
  pub sensings : Sensings d h r.sensings
  pub connections : Places d h r.connections

pub record LocksPart (d : Server) (h : Happening) (l : Locks) (due : List Entry) (granted : List Waiting) : Type 0 where
  pub clock : l.clock ≡ singly clock_row h d.locks.clock
  pub rows : Rowed blank (entry_row d.locks.clock) d.locks.entries h d.locks.entries due
  pub look : Look d.locks.clock (looks_after d.locks.entries h) due (requests_left d.locks.entries d.locks.clock h d.locks.waiting) l.entries l.waiting granted

pub assemble : (d : Server) (h : Happening) (r : Result) (due : List Entry) (granted : List Waiting) → RestPart d h r.server.rest → LocksPart d h r.server.locks due granted
    → r.frames ≡ said_first d h ++ (answered_first d h ++ (direct d h ++ map (waiting_answer 1 due) granted)) → ((o : Outcome) (k n : ℕ) → r.reply ≡ took o k n → n ≡ session_said d h n) → Local d h r
assemble d h r due granted p l f s =
    record {
      clock = l.clock;
      status = p.singles.status;
      made = p.singles.made;
      last_issued_lem = p.singles.last_issued_lem;
      enable = p.singles.enable;
      lockout = p.singles.lockout;
      remote = p.singles.remote;
      allowed = p.singles.allowed;
      exchange_slots = p.exchanges.size;
      in_clear_lem = λ i q. ap (λ (x : Exchange). x.in_clear) (p.exchanges.each i q)
          ∙ project (λ (x : Exchange). x.in_clear) (exchange_row d.rest.made.prefers_overlap) (λ x. clear_row) (λ a x. refl) (λ b x. refl) (λ x. refl)
          (λ k x. refl) (λ x. refl) es i h _;
      asked = λ i q. ap (λ (x : Exchange). x.asked) (p.exchanges.each i q)
          ∙ project (λ (x : Exchange). x.asked) (exchange_row d.rest.made.prefers_overlap) asked_row (λ a x. refl) (λ b x. refl) (λ x. refl) (λ k x. refl)
          (λ x. refl) es i h _;
      message_available_lem = λ i q. ap (λ (x : Exchange). x.message_available) (p.exchanges.each i q)
          ∙ project (λ (x : Exchange). x.message_available) (exchange_row d.rest.made.prefers_overlap) available_row (λ a x. refl) (λ b x. refl)
          (λ x. refl) (λ k x. refl) (λ x. refl) es i h _;
      client_size_lem = λ i q. ap (λ (x : Exchange). x.client_size) (p.exchanges.each i q)
          ∙ project (λ (x : Exchange). x.client_size) (exchange_row d.rest.made.prefers_overlap) (λ x. size_row) (λ a x. refl) (λ b x. refl) (λ x. refl)
          (λ k x. refl) (λ x. refl) es i h _;
      mode = λ i q. ap (λ (x : Exchange). x.overlap) (p.exchanges.each i q)
          ∙ project (λ (x : Exchange). x.overlap) (exchange_row d.rest.made.prefers_overlap) (λ x. mode_row d.rest.made.prefers_overlap) (λ a x. refl)
          (λ b x. refl) (λ x. refl) (λ k x. refl) (λ x. refl) es i h _;
      count = λ i q. ap (λ (x : Exchange). x.count) (p.exchanges.each i q)
          ∙ project (λ (x : Exchange). x.count) (exchange_row d.rest.made.prefers_overlap) (λ x. count_row) (λ a x. refl) (λ b x. refl) (λ x. refl)
          (λ k x. refl) (λ x. refl) es i h _;
      any_sent_lem = λ i q. ap (λ (x : Exchange). x.any_sent) (p.exchanges.each i q)
          ∙ project (λ (x : Exchange). x.any_sent) (exchange_row d.rest.made.prefers_overlap) (λ x. sent_row) (λ a x. refl) (λ b x. refl) (λ x. refl)
          (λ k x. refl) (λ x. refl) es i h _;
      rmt_expected_lem = λ i q. ap (λ (x : Exchange). x.rmt_expected) (p.exchanges.each i q)
          ∙ project (λ (x : Exchange). x.rmt_expected) (exchange_row d.rest.made.prefers_overlap) (λ x. expected_row) (λ a x. refl) (λ b x. refl)
          (λ x. refl) (λ k x. refl) (λ x. refl) es i h _;
      number_expected_lem = λ i q. ap (λ (x : Exchange). x.number_expected) (p.exchanges.each i q)
          ∙ project (λ (x : Exchange). x.number_expected) (exchange_row d.rest.made.prefers_overlap) step_row (λ a x. refl) (λ b x. refl) (λ x. refl)
          (λ k x. refl) (λ x. refl) es i h _;
      sensing_slots = p.sensings.size;
      sensing = λ i q. p.sensings.each i q;
      connection_places = p.connections.size;
      is_open = λ x q. ap (λ (y : Connection). y.is_open) (p.connections.each x q)
          ∙ project_way (λ (y : Connection). y.is_open) connection_way open_row refl refl (λ k y. refl) (λ k y. refl) es x h _;
      remainder = λ x q. ap (λ (y : Connection). y.remainder) (p.connections.each x q)
          ∙ project_way (λ (y : Connection). y.remainder) connection_way remainder_row refl refl (λ k y. refl) (λ k y. refl) es x h _;
      slots = look_sized d.locks.clock due r.server.locks.entries _ r.server.locks.waiting granted (looks_after es h) l.look ∙ l.rows.size;
      number = λ i q. ap (λ (x : Entry). x.number) (ends i q);
      synchronous = λ i q. ap (λ (x : Entry). x.synchronous) (ends i q);
      asynchronous = λ i q. ap (λ (x : Entry). x.asynchronous) (ends i q);
      granted = granted;
      exclusive = λ i q. ap (λ (x : Entry). x.exclusive) (ends i q);
      shared = λ i q. ap (λ (x : Entry). x.shared) (ends i q);
      last = λ i q. ap (λ (x : Entry). x.last) (ends i q);
      standing = λ i q. ap (λ (x : Entry). x.standing) (ends i q);
      locks_granted_lem = λ i q. ap (λ (x : Entry). x.locks_granted) (ends i q);
      due = due;
      due_slots = l.rows.size;
      due_is = λ i q. begins i q;
      waiting = l.look;
      frames = f;
      session = s;
    }
  where
    es : List Entry
    es = d.locks.entries

    begins : (i : ℕ) → i < length es → at due i ≡ entry_due d.locks.clock es h i (at es i)
    begins i q = l.rows.each i q ∙ due_entry d.locks.clock es i h (at es i)

    ends : (i : ℕ) → i < length es → at r.server.locks.entries i ≡ looked_at d.locks.clock granted i (entry_due d.locks.clock es h i (at es i))
    ends i q = look_each d.locks.clock due r.server.locks.entries _ r.server.locks.waiting granted (looks_after es h) l.look i
        (rw l.rows.size q) ∙ ap (looked_at d.locks.clock granted i) (begins i q)
