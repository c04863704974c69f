-- F, proved: what a slot has pending is what the log says that its session has asked.
use mathlib.Core.Path.{◌≡◌, refl, sym, ap, ◌∙◌}
use mathlib.Core.Bool.{Bool, true, false, not, ◌&&◌, ◌||◌, cond, true≢false}
use mathlib.Core.List.{List, [], ◌∷◌}
use mathlib.Core.Logic.{◌⊎◌, inl, inr}
use Prim.Native.Nat.{ℕ, zero, suc, ◌%◌, ◌<◌}
use lib.Dec.{eqb}
use lib.ListN.{set, length, length-set}
use lib.Seq.{get_or-set_same, get_or-set_other}
use borrow.Author.Tests.{eq-eqb, ne_eqb}
use Rattle.wire.specs.Field.{number}
use Rattle.wire.specs.declared.Header.{Header}
use Rattle.wire.specs.Class.{one_of}
use Rattle.model.specs.Sizes.{before_first}
use Rattle.model.specs.Lists.{all, keep}
use Rattle.model.specs.State.{Locks, Entry, blank, at, live, Rest, Exchange, Asked.none, Asked.some, exchange_at, fresh_exchange, with_exchange}
use Rattle.model.specs.Locks
use Rattle.model.specs.Locks.{LockEvent, may_grant, grant_pass, change, settle, frees}
use Rattle.model.specs.Exchange
use Rattle.model.specs.Acts
use Rattle.model.specs.Tie.{Track, nothing_yet, tested_track, follows}
use Rattle.claims.proofs.Classes.{synchronous_types, asynchronous_types}
use Rattle.model.proofs.Basics.{both, same?}
use Rattle.claims.proofs.Invariant.{Firm}
use Rattle.claims.proofs.Releasing.{without_num}
use Rattle.claims.proofs.Events.{Enters}
use Rattle.claims.proofs.ReadOff.{each_of}
use Rattle.claims.proofs.Simulation.{num_same, give_num}
use Rattle.claims.proofs.Looking.{pass_num}

-- numbers after an event
abbrev pub Nums : List Entry → List Entry → Type 0
Nums es es' = (j : ℕ) → (at es' j).number ≡ (at es j).number

pub settle_num : (b : Bool) (l : Locks) → Nums l.entries (settle b l).locks.entries
unfolding grant_pass
settle_num true l j = pass_num l.clock l.waiting l.entries j
settle_num false l j = refl

-- what the log tracks, of an exchange
abbrev pub track_of : Exchange → Track
track_of x = record { overlap = x.overlap; asked = x.asked; count = x.count; rmt_expected = x.rmt_expected }

-- of each live slot, it is what f says of its number
abbrev pub Tied : List Entry → Rest → (ℕ → Track) → Type 0
Tied es r f = (i : ℕ) → live (at es i) ≡ true → track_of (exchange_at r i) ≡ f (at es i).number

-- slot i is touched by g, its number alone is tracked by g
pub touch : (es es' : List Entry) (r r' : Rest) (f f' : ℕ → Track) (i : ℕ) (g : Track → Track) → Firm es → live (at es i) ≡ true → Nums es es'
    → track_of (exchange_at r' i) ≡ g (track_of (exchange_at r i)) → ((j : ℕ) → (j ≡ i → ⊥) → track_of (exchange_at r' j) ≡ track_of (exchange_at r j))
    → ((n : ℕ) → f' n ≡ cond (eqb (at es i).number n) (g (f n)) (f n)) → Tied es r f → Tied es' r' f'
touch es es' r r' f f' i g firm v nums here there tracks t j u = go (same? j i)
  where
    w : live (at es j) ≡ true
    w = ap (λ n. not (eqb n 0)) (sym (nums j)) ∙ u

    go : (j ≡ i) ⊎ (j ≡ i → ⊥) → track_of (exchange_at r' j) ≡ f' (at es' j).number
    go (inl e) =
        ap (λ k. track_of (exchange_at r' k)) e ∙ here ∙ ap g (t i v)
        ∙ sym (ap f' (nums j ∙ ap (λ k. (at es k).number) e) ∙ tracks (at es i).number
        ∙ ap (λ b. cond b (g (f (at es i).number)) (f (at es i).number)) (eq-eqb (at es i).number (at es i).number refl))
    go (inr n) =
        there j n ∙ t j w
        ∙ sym (ap f' (nums j) ∙ tracks (at es j).number ∙ ap (λ b. cond b (g (f (at es j).number)) (f (at es j).number))
        (ne_eqb (at es i).number (at es j).number (λ e. n
        (firm.numbers (at es i).number j i (both _ _ w (eq-eqb _ _ (sym e))) (both _ _ v (eq-eqb (at es i).number (at es i).number refl))))))

-- nothing is touched
pub rest_same : (es es' : List Entry) (r r' : Rest) (f f' : ℕ → Track) → Nums es es' → ((j : ℕ) → track_of (exchange_at r' j) ≡ track_of (exchange_at r j)) →
    ((n : ℕ) → f' n ≡ f n) → Tied es r f → Tied es' r' f'
rest_same es es' r r' f f' nums there tracks t j u = there j ∙ t j (ap (λ n. not (eqb n 0)) (sym (nums j)) ∙ u) ∙ sym (ap f' (nums j) ∙ tracks (at es j).number)

-- extras after a store
pub extra_here : (r : Rest) (i : ℕ) (x : Exchange) → i < length r.exchanges → exchange_at (with_exchange r i x) i ≡ x
extra_here r i x l = get_or-set_same r.exchanges i x fresh_exchange l

pub extra_there : (r : Rest) (i : ℕ) (x : Exchange) (j : ℕ) → (j ≡ i → ⊥) → exchange_at (with_exchange r i x) j ≡ exchange_at r j
extra_there r i x j n = get_or-set_other r.exchanges i j x fresh_exchange n

-- events that enter and remove no session
abbrev pub Calm : LockEvent → Type 0
Calm Locks.nothing = Unit {0}
Calm (Locks.enter i n c) = ⊥
Calm (Locks.join i c) = Unit {0}
Calm (Locks.request i t k) = Unit {0}
Calm (Locks.release i n) = Unit {0}
Calm (Locks.command i n) = Unit {0}
Calm (Locks.clear i) = Unit {0}
Calm (Locks.close i) = ⊥
Calm (Locks.reading t) = Unit {0}

release_num : (l : Locks) (i n : ℕ) (u : Locks.Releasing) → Nums l.entries (Locks.released u l i n).locks.entries
release_num l i n Locks.r_invalid j = refl
release_num l i n (Locks.r_now k) j = num_same l.entries i _ (without_num k (at l.entries i)) j
release_num l i n (Locks.r_stands k) j = num_same l.entries i _ refl j

complete_num : (l : Locks) (i n : ℕ) (u : Locks.Due) → Nums l.entries (Locks.completed u l i n).locks.entries
complete_num l i n Locks.not_due j = num_same l.entries i _ refl j
complete_num l i n (Locks.due_now k) j = num_same l.entries i _ (without_num k (at l.entries i)) j

change_calm : (l : Locks) (e : LockEvent) → Calm e → Nums l.entries (change l e).locks.entries
unfolding change
change_calm l Locks.nothing x j = refl
change_calm l (Locks.enter i n c) x j = absurd x
change_calm l (Locks.join i c) x j = num_same l.entries i (Locks.joined c (at l.entries i)) refl j
change_calm l (Locks.request i t k) x j = asked-num (Locks.ruling (Locks.holds k (at l.entries i)) (all (Locks.elsewhere i) l.waiting)
    (Locks.invalid_by k (at l.entries i)) (may_grant l.entries i k) (eqb t 0 || Locks.no_place l.waiting))
  where
    asked-num : (a : Locks.Ruling) → (at (Locks.respond a l i t k).locks.entries j).number ≡ (at l.entries j).number
    asked-num Locks.invalid = refl
    asked-num Locks.granted = num_same l.entries i (Locks.give_at l.clock k (at l.entries i)) (give_num k (at l.entries i)) j
    asked-num Locks.denied = refl
    asked-num Locks.queued = refl
change_calm l (Locks.release i n) x j = release_num l i n (Locks.releasing_of (at l.entries i) n) j
change_calm l (Locks.command i n) x j = complete_num l i n (Locks.due_at n (at l.entries i).standing) j
change_calm l (Locks.clear i) x j = complete_num (Locks.with_waiting l (keep (Locks.elsewhere i) l.waiting)) i before_first (Locks.due_any (at l.entries i).standing) j
change_calm l (Locks.close i) x j = absurd x
change_calm l (Locks.reading t) x j = refl

-- what an event leaves, with its pass if it has one
abbrev pub ends : Locks → LockEvent → List Entry
ends l e = (settle (frees l e) (change l e).locks).locks.entries

pub calm_num : (l : Locks) (e : LockEvent) → Calm e → Nums l.entries (ends l e)
calm_num l e x j = settle_num (frees l e) (change l e).locks j ∙ change_calm l e x j

blank_set : (es : List Entry) (i : ℕ) → at (set es i blank) i ≡ blank
blank_set [] i = refl
blank_set (x ∷ es) zero = refl
blank_set (x ∷ es) (suc i) = blank_set es i

-- a closing
pub drop_tied : (l : Locks) (i : ℕ) (r r' : Rest) (f f' : ℕ → Track) → ((j : ℕ) → (j ≡ i → ⊥) → exchange_at r' j ≡ exchange_at r j) → ((n : ℕ) → f' n ≡ f n)
    → Tied l.entries r f → Tied (ends l (LockEvent.close i)) r' f'
unfolding change
drop_tied l i r r' f f' there tracks t j u = go (same? j i)
  where
    es' : List Entry
    es' = set l.entries i blank

    nums : (at (ends l (LockEvent.close i)) j).number ≡ (at es' j).number
    nums = settle_num true (change l (LockEvent.close i)).locks j

    w : live (at es' j) ≡ true
    w = ap (λ n. not (eqb n 0)) (sym nums) ∙ u

    go : (j ≡ i) ⊎ (j ≡ i → ⊥) → track_of (exchange_at r' j) ≡ f' (at (ends l (LockEvent.close i)) j).number
    go (inl e) = absurd (true≢false (sym w ∙ ap live (ap (at es') e ∙ blank_set l.entries i)))
    go (inr n) =
        let same : at es' j ≡ at l.entries j = get_or-set_other l.entries i j blank blank n in
        ap track_of (there j n) ∙ t j (sym (ap live same) ∙ w) ∙ sym (ap f' (nums ∙ ap (λ (x : Entry). x.number) same) ∙ tracks (at l.entries j).number)

-- an opening
pub enter_tied : (l : Locks) (i n c : ℕ) (r r' : Rest) (f f' : ℕ → Track) (z : Track) → Enters l.entries i n c → track_of (exchange_at r' i) ≡ z →
    ((j : ℕ) → (j ≡ i → ⊥) → exchange_at r' j ≡ exchange_at r j)
    → ((m : ℕ) → f' m ≡ cond (eqb n m) z (f m)) → Tied l.entries r f → Tied (ends l (LockEvent.enter i n c)) r' f'
unfolding change
enter_tied l i n c r r' f f' z x here there tracks t j u = go (same? j i)
  where
    es' : List Entry
    es' = set l.entries i (Locks.opened n c)

    go : (j ≡ i) ⊎ (j ≡ i → ⊥) → track_of (exchange_at r' j) ≡ f' (at es' j).number
    go (inl e) =
        ap (λ k. track_of (exchange_at r' k)) e ∙ here
        ∙ sym (ap f' (ap (λ k. (at es' k).number) e ∙ ap (λ (y : Entry). y.number) (get_or-set_same l.entries i (Locks.opened n c) blank x.within))
        ∙ tracks n ∙ ap (λ b. cond b z (f n)) (eq-eqb n n refl))
    go (inr d) =
        let same : at es' j ≡ at l.entries j = get_or-set_other l.entries i j (Locks.opened n c) blank d in
        let w : live (at l.entries j) ≡ true = sym (ap live same) ∙ u in
        ap track_of (there j d) ∙ t j w
        ∙ sym (ap f' (ap (λ (y : Entry). y.number) same) ∙ tracks (at l.entries j).number
        ∙ ap (λ b. cond b z (f (at l.entries j).number))
        (ne_eqb n (at l.entries j).number (λ e. x.fresh j (both _ _ w (eq-eqb _ _ (sym e))))))

-- kinds: what each does to it, and that the type on the wire says so
pub sync_pending : Acts.SynchronousKind → ℕ → ℕ → Track → Track
sync_pending Acts.k_data k x p = tested_track k p
sync_pending Acts.k_data_end k x p = record { overlap = p.overlap; asked = some x; count = p.count; rmt_expected = false }
sync_pending Acts.k_trigger k x p = record { overlap = p.overlap; asked = some x; count = p.count; rmt_expected = false }
sync_pending Acts.k_clear_complete k x p = record { overlap = eqb (k % 2) 1; asked = p.asked; count = p.count; rmt_expected = p.rmt_expected }

pub sync_extra : (k : Acts.SynchronousKind) (h : Header) (x : Exchange) → track_of (Acts.synchronous_exchange k h x) ≡ sync_pending k h.code h.param (track_of x)
unfolding Acts.synchronous_exchange sync_pending
sync_extra Acts.k_data h x = go (Exchange.out_of_turn h.code x)
  where
    go : (b : Bool) → track_of (Exchange.note_rmt h.code (Exchange.with_expectation false (cond b (Exchange.interrupted x) x))) ≡ record {
      overlap = x.overlap;
      asked = cond b none x.asked;
      count = x.count;
      rmt_expected = false;
    }
    go true = refl
    go false = refl
sync_extra Acts.k_data_end h x = go (Exchange.out_of_turn h.code x)
  where
    go : (b : Bool) → track_of (Exchange.ask h.code h.param (Exchange.with_expectation false (cond b (Exchange.interrupted x) x))) ≡ record
        { overlap = x.overlap; asked = some h.param; count = x.count; rmt_expected = false }
    go true = refl
    go false = refl
sync_extra Acts.k_trigger h x = go (Exchange.out_of_turn h.code x)
  where
    go : (b : Bool) → track_of (Exchange.ask h.code h.param (Exchange.with_expectation false (cond b (Exchange.interrupted x) x))) ≡ record
        { overlap = x.overlap; asked = some h.param; count = x.count; rmt_expected = false }
    go true = refl
    go false = refl
sync_extra Acts.k_clear_complete h x = refl

pub sync_follows : (b : Bool) (k x : ℕ) (p : Track) (t : ℕ) → one_of synchronous_types t ≡ true → eqb t 2 ≡ false → eqb t 3 ≡ false → eqb t 0 ≡ false →
    follows b t k x p ≡ sync_pending (Acts.synchronous_kind t) k x p
unfolding sync_pending
sync_follows b k x p t e =
    each_of (λ t. eqb t 2 ≡ false → eqb t 3 ≡ false → eqb t 0 ≡ false → follows b t k x p ≡ sync_pending (Acts.synchronous_kind t) k x p) synchronous_types (
      (λ u v z. absurd (true≢false z)),
      (
        (λ u v z. absurd (true≢false u)),
        ((λ u v z. absurd (true≢false v)), ((λ u v z. refl), ((λ u v z. refl), ((λ u v z. refl), ((λ u v z. refl), tt))))),
      ),
    ) t e

pub async_pending : Acts.AsynchronousKind → ℕ → Track → Track
async_pending Acts.k_lock k p = p
async_pending Acts.k_remote_local k p = p
async_pending Acts.k_maximum_size k p = p
async_pending Acts.k_device_clear k p = nothing_yet p.overlap
async_pending Acts.k_status_query k p = record { overlap = p.overlap; asked = p.asked; count = p.count; rmt_expected = not (eqb k 1) && p.rmt_expected }
async_pending Acts.k_lock_info k p = p

pub async_follows : (b : Bool) (k x : ℕ) (p : Track) (t : ℕ) → one_of asynchronous_types t ≡ true → eqb t 17 ≡ false → follows b t k x p ≡ async_pending (Acts.asynchronous_kind t) k p
unfolding async_pending
async_follows b k x p t e =
    each_of (λ t. eqb t 17 ≡ false → follows b t k x p ≡ async_pending (Acts.asynchronous_kind t) k p) asynchronous_types (
      (λ z. refl),
      (
        (λ z. refl),
        ((λ z. refl), ((λ z. refl), ((λ z. refl), ((λ z. absurd (true≢false z)), ((λ z. refl), ((λ z. refl), ((λ z. refl), tt))))))),
      ),
    ) t e

pub async_here : (k : Acts.AsynchronousKind) (r : Rest) (i : ℕ) (h : Header) (p : List ℕ) → i < length r.exchanges →
    track_of (exchange_at (Acts.asynchronous_rest k r i h p) i) ≡ async_pending k h.code (track_of (exchange_at r i))
unfolding Acts.asynchronous_rest async_pending
async_here Acts.k_lock r i h p l = refl
async_here Acts.k_remote_local r i h p l = refl
async_here Acts.k_maximum_size r i h p l = ap track_of (extra_here r i (Exchange.with_client_size (number p) (exchange_at r i)) l)
async_here Acts.k_device_clear r i h p l = ap track_of (extra_here r i (Exchange.enter_clear (exchange_at r i)) l)
async_here Acts.k_status_query r i h p l = ap track_of (extra_here r i (Exchange.queried h.code (exchange_at r i)) l)
async_here Acts.k_lock_info r i h p l = refl

pub async_there : (k : Acts.AsynchronousKind) (r : Rest) (i : ℕ) (h : Header) (p : List ℕ) (j : ℕ) → (j ≡ i → ⊥) → exchange_at (Acts.asynchronous_rest k r i h p) j ≡ exchange_at r j
unfolding Acts.asynchronous_rest
async_there Acts.k_lock r i h p j n = refl
async_there Acts.k_remote_local r i h p j n = refl
async_there Acts.k_maximum_size r i h p j n = extra_there r i (Exchange.with_client_size (number p) (exchange_at r i)) j n
async_there Acts.k_device_clear r i h p j n = extra_there r i (Exchange.enter_clear (exchange_at r i)) j n
async_there Acts.k_status_query r i h p j n = extra_there r i (Exchange.queried h.code (exchange_at r i)) j n
async_there Acts.k_lock_info r i h p j n = refl

pub async_size : (k : Acts.AsynchronousKind) (r : Rest) (i : ℕ) (h : Header) (p : List ℕ) → length (Acts.asynchronous_rest k r i h p).exchanges ≡ length r.exchanges
unfolding Acts.asynchronous_rest
async_size Acts.k_lock r i h p = refl
async_size Acts.k_remote_local r i h p = refl
async_size Acts.k_maximum_size r i h p = length-set r.exchanges i _
async_size Acts.k_device_clear r i h p = length-set r.exchanges i _
async_size Acts.k_status_query r i h p = length-set r.exchanges i _
async_size Acts.k_lock_info r i h p = refl
