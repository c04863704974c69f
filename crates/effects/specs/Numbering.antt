-- 02, Q-10: the number that a session's next Data, DataEND or Trigger must carry: what the word says of it, and how it moves. Assumes nothing.
use Rattle.std.specs.Prelude.{◌≡◌, Bool, true, false, cond, List, ℕ, ◌%◌, ◌^◌}
use Rattle.std.proofs.Common.{sym, ap, ◌∙◌, mod-eq_of_lt}
use Rattle.wire.specs.MessageId.{next, next_fits}
use Rattle.model.specs.State.{Exchange, Rest, Server, exchange_at}
use Rattle.model.specs.Exchange.{stepped, with_number}
use Rattle.state.specs.Grid.{upd_same}
use Rattle.state.specs.Change.{on_rest, on_exchange, exchange_with}
use Rattle.sessions.specs.Synchronous.{with_slot, slot_changed}

-- moved on, or left
abbrev pub moved_by : Bool → Exchange → Exchange
moved_by b x = with_number (cond b (next x.number_expected) x.number_expected) x

-- the number behind the one that was read is stored
pub number_stepped : (d d₁ : Server) (i a n : ℕ) → exchange_with 8 a (exchange_at d.rest i) ≡ exchange_at d.rest i → n ≡ next (a % 2 ^ 32)
    → d₁ ≡ on_exchange d i (exchange_with 8 n) → d₁ ≡ on_rest d (with_slot i stepped)
number_stepped d d₁ i a n x e q =
    let m : n % 2 ^ 32 ≡ next (exchange_at d.rest i).number_expected =
    ap (λ (k : ℕ). k % 2 ^ 32) e ∙ mod-eq_of_lt (next_fits (a % 2 ^ 32)) ∙ ap (λ (z : Exchange). next z.number_expected) x in
    q ∙ slot_changed d i (exchange_with 8 n) ∙ ap (λ (k : ℕ). on_rest d (with_slot i (with_number k))) m

-- left: nothing changes
pub number_left : (d : Server) (i : ℕ) (b : Bool) → b ≡ false → d ≡ on_rest d (with_slot i (moved_by b))
number_left d i b e =
    ap (λ (l : List Exchange). on_rest d (λ (r : Rest). record {
      exchanges = l;
      sensings = r.sensings;
      connections = r.connections;
      last_issued = r.last_issued;
      made = r.made;
      status = r.status;
      remote_local = r.remote_local;
      allowed = r.allowed;
    })) (sym (upd_same d.rest.exchanges i))
    ∙ slot_changed d i (λ (x : Exchange). x)
    ∙ ap (λ (c : Bool). on_rest d (with_slot i (moved_by c))) (sym e)

pub number_moved : (d d₁ : Server) (i : ℕ) (b : Bool) → b ≡ true → d₁ ≡ on_rest d (with_slot i stepped) → d₁ ≡ on_rest d (with_slot i (moved_by b))
number_moved d d₁ i b e q = q ∙ ap (λ (c : Bool). on_rest d (with_slot i (moved_by c))) (sym e)
