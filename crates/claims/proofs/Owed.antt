-- The remainder of an open connection is what the calls say that it owes.
use mathlib.Core.Path.{◌≡◌, refl, sym, ap, ◌∙◌}
use mathlib.Core.Bool.{Bool, true, false, cond, false≢true}
use mathlib.Core.List.{List, [], ◌∷◌}
use mathlib.Core.Logic.{◌⊎◌, inl, inr}
use Prim.Native.Nat.{ℕ, zero, suc}
use native.Mathlib.Omega.{arith}
use lib.Dec.{eqb}
use lib.ListN.{get_or, set}
use borrow.Author.Tests.{eq-eqb, ne_eqb}
use Rattle.wire.specs.declared.Header.{Header}
use Rattle.model.specs.State.{Server, Rest, Connection, connection_at, closed_connection, with_connection}
use Rattle.model.specs.Place.{Role, Role.r_none, Role.r_half_open, Role.r_synchronous, Role.r_asynchronous}
use Rattle.model.specs.Acts
use Rattle.model.specs.Step.{channels, shut_all, closing}

-- an open connection after a store: the one stored, or another as it was
abbrev Stored : List Connection → ℕ → Connection → ℕ → Type 0
Stored cs c x j = ((j ≡ c) × (get_or (set cs c x) j closed_connection ≡ x)) ⊎ ((j ≡ c → ⊥) × (get_or (set cs c x) j closed_connection ≡ get_or cs j closed_connection))

stored : (cs : List Connection) (c : ℕ) (x : Connection) (j : ℕ) → (get_or (set cs c x) j closed_connection).is_open ≡ true → Stored cs c x j
stored [] c x j o = absurd (false≢true o)
stored (y ∷ cs) zero x zero o = inl (refl, refl)
stored (y ∷ cs) zero x (suc j) o = inr ((λ e. omega arith), refl)
stored (y ∷ cs) (suc c) x zero o = inr ((λ e. omega arith), refl)
stored (y ∷ cs) (suc c) x (suc j) o = go (stored cs c x j o)
  where
    go : Stored cs c x j → Stored (y ∷ cs) (suc c) x (suc j)
    go (inl h) = inl (ap suc h.0, h.1)
    go (inr h) = inr ((λ e. h.0 (omega arith)), h.1)

-- what is open after some are shut is as it was
shut_same : (cs : List Connection) (xs : List ℕ) (j : ℕ) → (get_or (shut_all cs xs) j closed_connection).is_open ≡ true → get_or (shut_all cs xs) j closed_connection ≡ get_or cs j closed_connection
shut_same cs [] j o = refl
shut_same cs (x ∷ xs) j o =
    let e = shut_same (set cs x closed_connection) xs j o in
    e ∙ go (ap (λ (y : Connection). y.is_open) (sym e) ∙ o)
  where
    pick : Stored cs x closed_connection j → (get_or (set cs x closed_connection) j closed_connection).is_open ≡ true → get_or (set cs x closed_connection) j closed_connection ≡ get_or cs j closed_connection
    pick (inl h) o = absurd (false≢true (sym (ap (λ (y : Connection). y.is_open) h.1) ∙ o))
    pick (inr h) o = h.1

    go : (get_or (set cs x closed_connection) j closed_connection).is_open ≡ true → get_or (set cs x closed_connection) j closed_connection ≡ get_or cs j closed_connection
    go o = pick (stored cs x closed_connection j o) o

-- each open connection owes just its remainder
abbrev pub Tracks : Rest → (ℕ → ℕ) → Type 0
Tracks r owed = (j : ℕ) → (connection_at r j).is_open ≡ true → (connection_at r j).remainder ≡ owed j

either_way : (b : Bool) (n : ℕ) → cond b n n ≡ n
either_way true n = refl
either_way false n = refl

module _ (r : Rest) (owed : ℕ → ℕ) (t : Tracks r owed) where
  -- a store on connection c
  pub tracks_store : (c : ℕ) (x : Connection) (next : ℕ → ℕ) → x.remainder ≡ next c → ((j : ℕ) → (j ≡ c → ⊥) → next j ≡ owed j) → Tracks (with_connection r c x) next
  tracks_store c x next e f j o = go (stored r.connections c x j o)
    where
      go : Stored r.connections c x j → (connection_at (with_connection r c x) j).remainder ≡ next j
      go (inl h) = ap (λ (y : Connection). y.remainder) h.1 ∙ e ∙ ap next (sym h.0)
      go (inr h) =
          let q = h.1 in
          ap (λ (y : Connection). y.remainder) q ∙ t j (sym (ap (λ (y : Connection). y.is_open) q) ∙ o) ∙ sym (f j h.0)

  -- the same connections
  pub tracks_same : (r' : Rest) (next : ℕ → ℕ) → r'.connections ≡ r.connections → ((j : ℕ) → next j ≡ owed j) → Tracks r' next
  tracks_same r' next e f j o =
      let q : connection_at r' j ≡ connection_at r j = ap (λ (cs : List Connection). get_or cs j closed_connection) e in
      ap (λ (y : Connection). y.remainder) q ∙ t j (sym (ap (λ (y : Connection). y.is_open) q) ∙ o) ∙ sym (f j)

-- a closing
pub tracks_closing : (d : Server) (c : ℕ) (owed next : ℕ → ℕ) → Tracks d.rest owed → ((j : ℕ) → next j ≡ owed j) → Tracks (closing d c) next
tracks_closing d c owed next t f j o =
    let q = shut_same d.rest.connections (channels d c) j o in
    ap (λ (y : Connection). y.remainder) q ∙ t j (sym (ap (λ (y : Connection). y.is_open) q) ∙ o) ∙ sym (f j)

-- on one connection alone
pub here : (c x n : ℕ) → n ≡ cond (eqb c c) n x
here c x n = rw (eq-eqb c c refl)

pub elsewhere : (c n x j : ℕ) → (j ≡ c → ⊥) → cond (eqb c j) n x ≡ x
elsewhere c n x j h = rw (ne_eqb c j (λ e. h (sym e)))

pub no_change : (c : ℕ) (owed : ℕ → ℕ) (j : ℕ) → cond (eqb c j) (owed j) (owed j) ≡ owed j
no_change c owed j = either_way (eqb c j) (owed j)

-- what acts leaves the connections
opens_connections : (b : Bool) (d : Server) (c : ℕ) (h : Header) → (Acts.opens b d c h).rest.connections ≡ d.rest.connections
opens_connections true d c h = refl
opens_connections false d c h = refl

async_connections : (k : Acts.AsynchronousKind) (r : Rest) (i : ℕ) (h : Header) (p : List ℕ) → (Acts.asynchronous_rest k r i h p).connections ≡ r.connections
unfolding Acts.asynchronous_rest
async_connections Acts.k_lock r i h p = refl
async_connections Acts.k_remote_local r i h p = refl
async_connections Acts.k_maximum_size r i h p = refl
async_connections Acts.k_device_clear r i h p = refl
async_connections Acts.k_status_query r i h p = refl
async_connections Acts.k_lock_info r i h p = refl

pub acts_connections : (r : Role) (d : Server) (i c : ℕ) (h : Header) (p : List ℕ) → (Acts.acts r d i c h p).rest.connections ≡ d.rest.connections
unfolding Acts.acts
acts_connections r_none d i c h p = opens_connections (eqb h.kind 0) d c h
acts_connections r_half_open d i c h p = refl
acts_connections r_synchronous d i c h p = refl
acts_connections r_asynchronous d i c h p = async_connections (Acts.asynchronous_kind h.kind) d.rest i h p
