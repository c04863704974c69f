-- Closing a connection and, if it has one, its session: what the code's stores do, and that this is the model's closing. Assumes nothing.
use Rattle.std.specs.Prelude.{◌≡◌, refl, Bool, true, false, not, ◌||◌, cond, ℕ, suc, ◌+◌, ◌≤◌, ◌<◌, get_or, set}
use Rattle.std.proofs.Common.{sym, ap, ap₂, ◌∙◌, not-suc-le-zero, le_of_suc-le-suc, arith, eq-eqb, ne_eqb}
use mathlib.Core.List.{List, [], ◌∷◌, map}
use Rattle.std.proofs.Math.Dec.{eqb}
use Rattle.std.proofs.Math.ListN.{length, get_or-eq_default}
use Rattle.std.proofs.Math.Seq.{set_out}
use Rattle.model.specs.Sizes.{session_limit, connection_limit, no_connection}
use Rattle.model.specs.Lists.{all, position, keep}
use Rattle.model.specs.State.{Entry, Locks, Exchange, Connection, Rest, Server, at, blank, live, fresh_exchange, open_exchange, closed_connection}
use Rattle.model.specs.State.{with_connections, with_exchange, fresh_sensing, with_sensing}
use Rattle.wire.specs.Both.{and_left, and_right}
use Rattle.wire.specs.MessageId.{start}
use Rattle.model.specs.Exchange.{with_count}
use Rattle.model.specs.Place.{is_on_connection, place_of, slot_in}
use Rattle.model.specs.Locks.{LockEvent.close, elsewhere, change, grant_pass}
use Rattle.model.specs.Step.{channels, shut_all, closing, lock_frame}
use Rattle.wire.specs.Frame.{bytes_of}
use Rattle.wire.specs.Splice.{splice}
use Rattle.holding.specs.Outcome.{Met}
use Rattle.state.specs.Table.{tab, all_tab}
use Rattle.state.specs.Grid.{upd_upd, upd_set, grid}
use Rattle.state.specs.Change.{sessions_held, on_rest, on_connection as onRow, connection_with, on_exchange, exchange_with}
use Rattle.state.specs.View.{Memory, memory, view, request_at, slot_at, waiting_of, locks_of, rest_of}
use Rattle.queue.specs.Requests.{count_of, slot_small}

-- how many connections the memory has
pub connections_held : (w : List ℕ) → length (rest_of w).connections ≡ connection_limit
unfolding rest_of grid tab
connections_held w = refl

pub exchanges_held : (w : List ℕ) → length (rest_of w).exchanges ≡ session_limit
unfolding rest_of grid tab
exchanges_held w = refl

pub sensings_held : (w : List ℕ) → length (rest_of w).sensings ≡ session_limit
unfolding rest_of grid tab
sensings_held w = refl

-- connection x is closed
abbrev pub shut : ℕ → Rest → Rest
shut x r = with_connections r (set r.connections x closed_connection)

-- two stores close it; a number past the connections closes nothing
pub shut_stored : (x : ℕ) (d d₁ d₂ : Server) → d₁ ≡ onRow d x (connection_with 0 0) → d₂ ≡ onRow d₁ x (connection_with 1 0) → d₂ ≡ on_rest d (shut x)
shut_stored x d d₁ d₂ e₁ e₂ =
    e₂
    ∙ ap (λ (y : Server). onRow y x (connection_with 1 0)) e₁
    ∙ ap (λ (l : List Connection). on_rest d (λ (r : Rest). with_connections r l))
    (upd_upd d.rest.connections x (connection_with 0 0) (connection_with 1 0) ∙ sym (upd_set d.rest.connections x closed_connection (λ (y : Connection). closed_connection)))

pub shut_past : (w s : List ℕ) (x : ℕ) → connection_limit ≤ x → view (memory w s) ≡ on_rest (view (memory w s)) (shut x)
shut_past w s x h =
    let l : length (rest_of w).connections ≤ x = rw (connections_held w) h in
    ap (λ (y : List Connection). on_rest (view (memory w s)) (λ (r : Rest). with_connections r y)) (sym (set_out (rest_of w).connections x closed_connection l))

-- a store for each field makes an exchange new, in the mode of a word; the count has its own function
pub renewed : (i v : ℕ) (d d₁ d₂ d₃ d₄ d₅ d₆ d₇ d₈ : Server) → d₁ ≡ on_exchange d i (exchange_with 0 0) → d₂ ≡ on_exchange d₁ i (exchange_with 1 0) → d₃ ≡ on_exchange d₂ i (exchange_with 2 0)
    → d₄ ≡ on_exchange d₃ i (exchange_with 3 1024) → d₅ ≡ on_exchange d₄ i (exchange_with 4 v) → d₆ ≡ on_exchange d₅ i (exchange_with 7 0)
    → d₇ ≡ on_exchange d₆ i (exchange_with 8 start) → d₈ ≡ on_exchange d₇ i (with_count start false) → d₈ ≡ on_rest d (λ (r : Rest). with_exchange r i (open_exchange (eqb v 1)))
renewed i v d d₁ d₂ d₃ d₄ d₅ d₆ d₇ d₈ e₁ e₂ e₃ e₄ e₅ e₆ e₇ e₈ =
    rw (e₈, e₇, e₆, e₅, e₄, e₃, e₂, e₁, upd_upd, upd_upd, upd_upd, upd_upd, upd_upd, upd_upd, upd_upd)
    (ap (λ (l : List Exchange). on_rest d (λ (r : Rest). record {
      exchanges = l;
      sensings = r.sensings;
      connections = r.connections;
      last_issued = r.last_issued;
      made = r.made;
      status = r.status;
      remote_local = r.remote_local;
      allowed = r.allowed;
    }))
    (sym (upd_set d.rest.exchanges i fresh_exchange (λ (x : Exchange). open_exchange (eqb v 1)))))

-- what a search finds passes
found_step : {A : Type 0} (p : A → Bool) (e : A) (es : List A) (d : A) (b : Bool) → p e ≡ b → cond b 0 (suc (position p es)) < suc (length es)
    → (position p es < length es → p (get_or es (position p es) d) ≡ true) → p (get_or (e ∷ es) (cond b 0 (suc (position p es))) d) ≡ true
found_step p e es d true q l r = q
found_step p e es d false q l r = r (le_of_suc-le-suc l)

pub found_passes : {A : Type 0} (p : A → Bool) (es : List A) (d : A) → position p es < length es → p (get_or es (position p es) d) ≡ true
found_passes p [] d h = absurd (not-suc-le-zero h)
found_passes p (e ∷ es) d h = found_step p e es d (p e) refl h (found_passes p es d)

-- the connections to close: of a session found, its own; else the connection alone
module _ (w s : List ℕ) (c i : ℕ) (found : slot_in (locks_of w s).entries c ≡ i) where
  session_lives : i < session_limit → live (at (locks_of w s).entries i) ≡ true
  unfolding place_of
  session_lives h =
      let es : List Entry = (locks_of w s).entries in
      let l : position (is_on_connection c) es < length es = rw (found, sessions_held w s) h in
      and_left (live (at es i)) (eqb (at es i).synchronous c || eqb (at es i).asynchronous c)
      (ap (λ (j : ℕ). is_on_connection c (at es j)) (sym found) ∙ found_passes (is_on_connection c) es blank l)

  pub channels_of : i < session_limit → channels (view (memory w s)) c
      ≡ (at (locks_of w s).entries i).synchronous ∷ cond (eqb (at (locks_of w s).entries i).asynchronous no_connection) [] ((at (locks_of w s).entries i).asynchronous ∷ [])
  channels_of h =
      let es : List Entry = (locks_of w s).entries in
      ap (λ (j : ℕ). cond (live (at es j)) ((at es j).synchronous ∷ cond (eqb (at es j).asynchronous no_connection) [] ((at es j).asynchronous ∷ [])) (c ∷ [])) found
      ∙ ap (λ (b : Bool). cond b ((at es i).synchronous ∷ cond (eqb (at es i).asynchronous no_connection) [] ((at es i).asynchronous ∷ [])) (c ∷ [])) (session_lives h)

  pub channels_none : session_limit ≤ i → channels (view (memory w s)) c ≡ c ∷ []
  channels_none h =
      let es : List Entry = (locks_of w s).entries in
      let l : length es ≤ i = rw (sessions_held w s) h in
      ap (λ (j : ℕ). cond (live (at es j)) ((at es j).synchronous ∷ cond (eqb (at es j).asynchronous no_connection) [] ((at es j).asynchronous ∷ [])) (c ∷ [])) found
      ∙ ap (λ (e : Entry). cond (live e) (e.synchronous ∷ cond (eqb e.asynchronous no_connection) [] (e.asynchronous ∷ [])) (c ∷ [])) (get_or-eq_default es blank l)

keep_all : {A : Type 0} (p : A → Bool) (xs : List A) → all p xs ≡ true → keep p xs ≡ xs
keep_all p [] e = refl
keep_all {A} p (x ∷ xs) e = rw (and_left (p x) (all p xs) e) (ap (λ (l : List A). x ∷ l) (keep_all p xs (and_right (p x) (all p xs) e)))

-- past the table there is no session to close
elsewhere_all : (w s : List ℕ) (i : ℕ) → session_limit ≤ i → all (elsewhere i) (locks_of w s).waiting ≡ true
unfolding locks_of waiting_of request_at
elsewhere_all w s i h =
    all_tab (elsewhere i) (λ (j : ℕ). request_at w s (slot_at w j)) 0 (count_of w)
    (λ j p q. let l : slot_at w j < session_limit = slot_small w j in ap not (ne_eqb (slot_at w j) i (omega arith)))

close_past : (w s : List ℕ) (i : ℕ) → session_limit ≤ i → (change (locks_of w s) (close i)).locks ≡ locks_of w s
unfolding change
close_past w s i h =
    let l : length (locks_of w s).entries ≤ i = rw (sessions_held w s) h in
    λ k. record {
      clock = (locks_of w s).clock;
      entries = set_out (locks_of w s).entries i blank l k;
      waiting = keep_all (elsewhere i) (locks_of w s).waiting (elsewhere_all w s i h) k;
    }

-- the server with the session of connection c closed, before those that wait are looked at
abbrev pub closed_server : Server → ℕ → ℕ → Server
closed_server d c i = record { locks = (change d.locks (close i)).locks; rest = closing d c }

module _ (w s : List ℕ) (c i : ℕ) (found : slot_in (locks_of w s).entries c ≡ i) where
  -- no session: the connection alone
  pub closed_alone : session_limit ≤ i → (d : Server) → d ≡ on_rest (view (memory w s)) (shut c) → d ≡ closed_server (view (memory w s)) c i
  closed_alone h d e =
      let r : Rest = shut c (view (memory w s)).rest in
      let l : length r.exchanges ≤ i = rw (exchanges_held w) h in
      let n : length r.sensings ≤ i = rw (sensings_held w) h in
      e
      ∙ (λ k. record { locks = sym (close_past w s i h) k; rest = r })
      ∙ ap (λ (x : Rest). record { locks = (change (locks_of w s) (close i)).locks; rest = x })
      ((λ k. record {
        exchanges = sym (set_out r.exchanges i fresh_exchange l) k;
        sensings = sym (set_out r.sensings i fresh_sensing n) k;
        connections = r.connections;
        last_issued = r.last_issued;
        made = r.made;
        status = r.status;
        remote_local = r.remote_local;
        allowed = r.allowed;
      })
      ∙ ap₂ (λ (x : List ℕ) (j : ℕ). with_sensing (with_exchange (with_connections (view (memory w s)).rest (shut_all (rest_of w).connections x)) j fresh_exchange)
      j fresh_sensing) (sym (channels_none w s c i found h)) (sym found))

  -- a session: its connections, its exchange, its readings (02, Q-11), its slot and its request
  pub closed_session : i < session_limit → (d₁ d₁' d₂ d₃ : Server)
      → d₁ ≡ on_rest (view (memory w s)) (λ (r : Rest). with_connections r (shut_all r.connections (channels (view (memory w s)) c)))
      → d₁' ≡ on_rest d₁ (λ (r : Rest). with_exchange r i fresh_exchange)
      → d₂ ≡ on_rest d₁' (λ (r : Rest). with_sensing r i fresh_sensing)
      → d₃.locks ≡ (change d₂.locks (close i)).locks → d₃.rest ≡ d₂.rest
      → d₃ ≡ closed_server (view (memory w s)) c i
  closed_session h d₁ d₁' d₂ d₃ e₁ e₁' e₂ l r =
      let d : Server = view (memory w s) in
      let f : d₂ ≡ on_rest (on_rest (on_rest d (λ (r : Rest). with_connections r (shut_all r.connections (channels d c))))
      (λ (r : Rest). with_exchange r i fresh_exchange)) (λ (r : Rest). with_sensing r i fresh_sensing) =
      e₂ ∙ ap (λ (x : Server). on_rest x (λ (r : Rest). with_sensing r i fresh_sensing)) (e₁' ∙ ap (λ (x : Server). on_rest x (λ (r : Rest). with_exchange r i fresh_exchange)) e₁) in
      λ k. record {
        locks = (l ∙ ap (λ (x : Server). (change x.locks (close i)).locks) f) k;
        rest = (r ∙ ap (λ (x : Server). x.rest) f ∙ ap (λ (j : ℕ). with_sensing
            (with_exchange (with_connections d.rest (shut_all d.rest.connections (channels d c))) j fresh_exchange) j fresh_sensing) (sym found)) k;
      }

-- what closing a connection's place does: the session is closed, and those that wait are looked at; r is the place behind the frames
pub record ClosesPlace (d : Server) (c i : ℕ) (m' : Memory) (out out' : List ℕ) (at r : ℕ) : Type 0 where
  pub server : view m' ≡ record { locks = (grant_pass (closed_server d c i).locks).locks; rest = closing d c }
  pub buffer : out' ≡ splice out at (bytes_of (map lock_frame (grant_pass (closed_server d c i).locks).answers))
  pub place : r ≡ at + length (bytes_of (map lock_frame (grant_pass (closed_server d c i).locks).answers))

pub closes : (d : Server) (c i : ℕ) (m m' : Memory) (out out' : List ℕ) (at r : ℕ) → view m ≡ closed_server d c i → Met (grant_pass (view m).locks) m m' out out' at r
    → ClosesPlace d c i m' out out' at r
closes d c i m m' out out' at r e p =
    let f : (view m).locks ≡ (closed_server d c i).locks = ap (λ (x : Server). x.locks) e in
    record {
      server = λ k. record { locks = (p.locks ∙ ap (λ (x : Locks). (grant_pass x).locks) f) k; rest = (p.rest ∙ ap (λ (x : Server). x.rest) e) k };
      buffer = p.buffer ∙ ap (λ (x : Locks). splice out at (bytes_of (map lock_frame (grant_pass x).answers))) f;
      place = p.place ∙ ap (λ (x : Locks). at + length (bytes_of (map lock_frame (grant_pass x).answers))) f;
    }

-- one connection and then another
pub shut_both : (d d₁ d₂ : Server) (x y : ℕ) → d₁ ≡ on_rest d (shut x) → d₂ ≡ on_rest d₁ (shut y) → d₂ ≡ on_rest d (λ (r : Rest). with_connections r (shut_all r.connections (x ∷ y ∷ [])))
shut_both d d₁ d₂ x y e₁ e₂ = e₂ ∙ ap (λ (z : Server). on_rest z (shut y)) e₁

-- the list of a session's connections, from the words that were read
module _ (e : Entry) (x y : ℕ) (p : e.synchronous ≡ x) (q : e.asynchronous ≡ y) where
  pub one_channel : y ≡ no_connection → e.synchronous ∷ cond (eqb e.asynchronous no_connection) [] (e.asynchronous ∷ []) ≡ x ∷ []
  one_channel r = rw (p, q, eq-eqb y no_connection r)

  pub two_channels : (y ≡ no_connection → ⊥) → e.synchronous ∷ cond (eqb e.asynchronous no_connection) [] (e.asynchronous ∷ []) ≡ x ∷ y ∷ []
  two_channels r = rw (p, q, ne_eqb y no_connection r)
