-- M, proved: an invariant of its own, which every lock event and the grant pass keep, whatever else the server holds.
use mathlib.Core.Path.{◌≡◌, refl, sym, ◌∙◌}
use mathlib.Core.Bool.{Bool, true, false, cond, ◌||◌, true≢false}
use mathlib.Core.List.{List, [], ◌∷◌}
use mathlib.Core.Logic.{◌⊎◌, inl, inr}
use Prim.Native.Nat.{ℕ, zero, suc, ◌+◌}
use native.Mathlib.Omega.{arith}
use lib.Dec.{eqb, leb, ltb}
use lib.ListN.{set, length}
use borrow.Author.Tests.{eqb-false, leb-true, leb-false, le-leb, lt-ltb}
use Rattle.model.specs.Sizes.{string_limit, before_first}
use Rattle.model.specs.Lists.{all, keep, same}
use Rattle.model.specs.State.{Locks, Entry, Waiting, Kind, Kind.exclusive_lock, Kind.shared_lock, Standing, Standing.no_release, Standing.release_of, blank, at, Server, fresh, Making}
use Rattle.model.specs.Interface.{Event}
use Rattle.model.specs.Locks
use Rattle.model.specs.Locks.{LockEvent, no_shared, fits, may_grant, give_at, grant, holds, elsewhere, unexpired, after, put, pass_over, grant_pass, change, settle, frees, no_place}
use Rattle.model.specs.Refusals.{refusal}
use Rattle.model.specs.Step.{plan, answered, finish, step, final}
use Rattle.model.specs.Granting.{MayShared}
use Rattle.model.specs.OneString.{OneString, OneStringRun}
use Rattle.model.proofs.Basics.{and_l, and_r, both, not_of, or→, all_set, all_snoc, all_keep, all_at}
use Rattle.claims.proofs.GrantingRule.{same→, same_refl, nil→, nil←, may_shared}
use Rattle.claims.proofs.Slots.{all_of}

-- the string that every shared holder has
abbrev brief : Entry → Bool
brief e = leb (length e.shared) string_limit

abbrev short : Waiting → Bool
short w = leb (length w.string) string_limit

abbrev ahead : ℕ → Waiting → Bool
ahead t w = ltb t w.deadline

record Strung (es : List Entry) : Type 0 where
  string : List ℕ
  alike : all (fits string) es ≡ true
  briefly : all brief es ≡ true

record Strings (l : Locks) : Type 0 where
  strung : Strung l.entries
  shortly : all short l.waiting ≡ true
  timely : all (ahead l.clock) l.waiting ≡ true

-- stores: of an entry with the string that stood there, or with none
strung_less : (es : List Entry) (i : ℕ) (y : Entry) → y.shared ≡ [] → Strung es → Strung (set es i y)
strung_less es i y e s = record { string = s.string; alike = all_set (fits s.string) es i y (rw e) s.alike; briefly = all_set brief es i y (rw e) s.briefly }

strung_same : (es : List Entry) (i : ℕ) (y : Entry) → y.shared ≡ (at es i).shared → Strung es → Strung (set es i y)
strung_same es i y e s =
    record {
      string = s.string;
      alike = all_set (fits s.string) es i y (rw e (all_at (fits s.string) es i refl s.alike)) s.alike;
      briefly = all_set brief es i y (rw e (all_at brief es i refl s.briefly)) s.briefly;
    }

fits_all : (es : List Entry) (i x : ℕ) (k : List ℕ) → MayShared es i (x ∷ k) → all (fits (x ∷ k)) es ≡ true
fits_all es i x k m = all_of (fits (x ∷ k)) es (λ j. go j (no_shared (at es j)) refl)
  where
    go : (j : ℕ) (b : Bool) → no_shared (at es j) ≡ b → (b || same (at es j).shared (x ∷ k)) ≡ true
    go j true e = refl
    go j false e = rw (m.alike j (λ n. true≢false (sym (nil← _ n) ∙ e))) (same_refl (x ∷ k))

strung_give : (now : ℕ) (es : List Entry) (i : ℕ) (k : List ℕ) → may_grant es i k ≡ true → leb (length k) string_limit ≡ true → Strung es → Strung (grant now es i k)
strung_give now es i [] m l s = strung_same es i (give_at now [] (at es i)) refl s
strung_give now es i (x ∷ k) m l s =
    let y = give_at now (x ∷ k) (at es i) in
    record {
      string = x ∷ k;
      alike = all_set (fits (x ∷ k)) es i y (same_refl (x ∷ k)) (fits_all es i x k (may_shared es i x k m));
      briefly = all_set brief es i y l s.briefly;
    }

-- the pass
record Passes (t : ℕ) (r : Locks.Passed) : Type 0 where
  strung : Strung r.entries
  shortly : all short r.waiting ≡ true
  timely : all (ahead t) r.waiting ≡ true

pass_strings : (now : ℕ) (t : ℕ) (ws : List Waiting) (es : List Entry) → Strung es → all short ws ≡ true → all (ahead t) ws ≡ true → Passes t (pass_over now ws es)
unfolding pass_over
pass_strings now t [] es s a b = record { strung = s; shortly = refl; timely = refl }
pass_strings now t (w ∷ ws) es s a b = go (may_grant es w.slot w.string) refl (λ es s. pass_strings now t ws es s (and_r (short w) _ a) (and_r (ahead t w) _ b))
  where
    go : (m : Bool) → may_grant es w.slot w.string ≡ m → ((es : List Entry) → Strung es → Passes t (pass_over now ws es)) → Passes t (put m w es (pass_over now ws (after now m w es)))
    go true e ih =
        let r = ih (grant now es w.slot w.string) (strung_give now es w.slot w.string e (and_l (short w) _ a) s) in
        record { strung = r.strung; shortly = r.shortly; timely = r.timely }
    go false e ih =
        let r = ih es s in
        record { strung = r.strung; shortly = both _ _ (and_l (short w) _ a) r.shortly; timely = both _ _ (and_l (ahead t w) _ b) r.timely }

no_or : (a b : Bool) → (a || b) ≡ false → a ≡ false
no_or true b e = e
no_or false b e = refl

-- without a lock; with another order
without_strings : (l : Locks) (i n : ℕ) (r : Standing) (k : Kind) → Strings l → Strings (Locks.with_entries l (set l.entries i (Locks.with_order n r (Locks.without k (at l.entries i)))))
without_strings l i n r exclusive_lock s = record { strung = strung_same l.entries i _ refl s.strung; shortly = s.shortly; timely = s.timely }
without_strings l i n r shared_lock s = record { strung = strung_less l.entries i _ refl s.strung; shortly = s.shortly; timely = s.timely }

order_strings : (l : Locks) (i n : ℕ) (r : Standing) → Strings l → Strings (Locks.with_entries l (set l.entries i (Locks.with_order n r (at l.entries i))))
order_strings l i n r s = record { strung = strung_same l.entries i _ refl s.strung; shortly = s.shortly; timely = s.timely }

release_strings : (l : Locks) (i n : ℕ) (u : Locks.Releasing) → Strings l → Strings (Locks.released u l i n).locks
release_strings l i n Locks.r_invalid s = s
release_strings l i n (Locks.r_now exclusive_lock) s = without_strings l i (at l.entries i).last (at l.entries i).standing exclusive_lock s
release_strings l i n (Locks.r_now shared_lock) s = without_strings l i (at l.entries i).last (at l.entries i).standing shared_lock s
release_strings l i n (Locks.r_stands k) s = order_strings l i (at l.entries i).last (release_of k n) s

complete_strings : (l : Locks) (i n : ℕ) (u : Locks.Due) → Strings l → Strings (Locks.completed u l i n).locks
complete_strings l i n Locks.not_due s = order_strings l i n (at l.entries i).standing s
complete_strings l i n (Locks.due_now k) s = without_strings l i n no_release k s

-- each event
module _ (l : Locks) (s : Strings l) where
  ask_strings : (i t : ℕ) (k : List ℕ) (h a x m z : Bool) → (x ≡ false → leb (suc string_limit) (length k) ≡ false) → may_grant l.entries i k ≡ m →
      (z ≡ false → eqb t 0 ≡ false) → Strings (Locks.respond (Locks.ruling h a x m z) l i t k).locks
  ask_strings i t k true a x m z ex em ez = s
  ask_strings i t k false false x m z ex em ez = s
  ask_strings i t k false true true m z ex em ez = s
  ask_strings i t k false true false true z ex em ez =
      record {
        strung = strung_give l.clock l.entries i k em
            (le-leb (length k) string_limit (omega (arith, leb-false (suc string_limit) (length k) (ex refl)))) s.strung;
        shortly = s.shortly;
        timely = s.timely;
      }
  ask_strings i t k false true false false true ex em ez = s
  ask_strings i t k false true false false false ex em ez =
      record {
        strung = s.strung;
        shortly = all_snoc short l.waiting _ s.shortly (le-leb (length k) string_limit (omega (arith, leb-false (suc string_limit) (length k) (ex refl))));
        timely = all_snoc (ahead l.clock) l.waiting _ s.timely (lt-ltb l.clock (l.clock + t) (omega (arith, eqb-false t 0 (ez refl))));
      }

  unexpired_ahead : (t : ℕ) (ws : List Waiting) → all (ahead t) (keep (unexpired t) ws) ≡ true
  unexpired_ahead t [] = refl
  unexpired_ahead t (w ∷ ws) = go (unexpired t w) refl (unexpired_ahead t ws)
    where
      go : (b : Bool) → unexpired t w ≡ b → all (ahead t) (keep (unexpired t) ws) ≡ true → all (ahead t) (cond b (w ∷ keep (unexpired t) ws) (keep (unexpired t) ws)) ≡ true
      go true e r = both _ _ (lt-ltb _ _ (leb-false w.deadline t (not_of _ e))) r
      go false e r = r

  change_strings : (e : LockEvent) → Strings (change l e).locks
  unfolding change
  change_strings Locks.nothing = s
  change_strings (Locks.enter i n c) = record { strung = strung_less l.entries i (Locks.opened n c) refl s.strung; shortly = s.shortly; timely = s.timely }
  change_strings (Locks.join i c) = record { strung = strung_same l.entries i (Locks.joined c (at l.entries i)) refl s.strung; shortly = s.shortly; timely = s.timely }
  change_strings (Locks.request i t k) = ask_strings i t k (holds k (at l.entries i)) (all (elsewhere i) l.waiting)
      (Locks.invalid_by k (at l.entries i)) (may_grant l.entries i k) (eqb t 0 || no_place l.waiting) (no_or _ _) refl (no_or (eqb t 0) _)
  change_strings (Locks.release i n) = release_strings l i n (Locks.releasing_of (at l.entries i) n) s
  change_strings (Locks.command i n) = complete_strings l i n (Locks.due_at n (at l.entries i).standing) s
  change_strings (Locks.clear i) =
      complete_strings (Locks.with_waiting l (keep (elsewhere i) l.waiting)) i before_first (Locks.due_any (at l.entries i).standing)
      record { strung = s.strung; shortly = all_keep short (elsewhere i) l.waiting s.shortly; timely = all_keep (ahead l.clock) (elsewhere i) l.waiting s.timely }
  change_strings (Locks.close i) =
      record {
        strung = strung_less l.entries i blank refl s.strung;
        shortly = all_keep short (elsewhere i) l.waiting s.shortly;
        timely = all_keep (ahead l.clock) (elsewhere i) l.waiting s.timely;
      }
  change_strings (Locks.reading t) = record { strung = s.strung; shortly = all_keep short (unexpired t) l.waiting s.shortly; timely = unexpired_ahead t l.waiting }

settle_strings : (b : Bool) (l : Locks) → Strings l → Strings (settle b l).locks
unfolding grant_pass
settle_strings true l s =
    let r = pass_strings l.clock l.clock l.waiting l.entries s.strung s.shortly s.timely in
    record { strung = r.strung; shortly = r.shortly; timely = r.timely }
settle_strings false l s = s

step_strings : (d : Server) (e : Event) → Strings d.locks → Strings (step d e).server.locks
unfolding step answered finish
step_strings d e s = go (refusal d e)
  where
    go : (n : ℕ) → Strings (answered n d e).server.locks
    go zero = settle_strings (frees d.locks (plan d e).event) (change d.locks (plan d e).event).locks (change_strings d.locks s (plan d e).event)
    go (suc n) = s

run_strings : (es : List Event) (d : Server) → Strings d.locks → Strings (final d es).locks
unfolding final
run_strings [] d s = s
run_strings (e ∷ es) d s = run_strings es (step d e).server (step_strings d e s)

-- as stated
stated : (l : Locks) → Strings l → OneString l
stated l s =
    record {
      one_string = λ i j a b. has i a ∙ sym (has j b);
      short_holders = λ i. leb-true _ _ (all_at brief l.entries i refl s.strung.briefly);
      short_requests = s.shortly;
      deadlines_ahead = s.timely;
    }
  where
    has : (i : ℕ) → ((at l.entries i).shared ≡ [] → ⊥) → (at l.entries i).shared ≡ s.strung.string
    has i n = go (or→ (no_shared (at l.entries i)) _ (all_at (fits s.strung.string) l.entries i refl s.strung.alike))
      where
        go : (no_shared (at l.entries i) ≡ true) ⊎ (same (at l.entries i).shared s.strung.string ≡ true) → (at l.entries i).shared ≡ s.strung.string
        go (inl e) = absurd (n (nil→ _ e))
        go (inr e) = same→ _ _ e

pub one_string : (v : Making) (es : List Event) → OneStringRun v es
one_string v es =
    record { holds = stated _ (run_strings es (fresh v) record { strung = record { string = []; alike = refl; briefly = refl }; shortly = refl; timely = refl }) }
