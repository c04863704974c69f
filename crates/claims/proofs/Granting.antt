-- D, proved: the computed granting rule says what the paper says, both ways; and the server decides by exactly the lock model's holders.
use mathlib.Core.Path.{◌≡◌, refl, sym, ap, ap₂, ◌∙◌}
use mathlib.Core.Bool.{Bool, true, false, not, ◌&&◌, ◌||◌}
use mathlib.Core.List.{List}
use Rattle.model.specs.Lists.{all}
use Rattle.model.specs.State.{Locks, Entry, at, live, fresh, Making}
use Rattle.model.specs.Interface.{Event}
use Rattle.model.specs.Locks.{no_exclusive, no_shared, access}
use Rattle.model.specs.Acts.{holder}
use Rattle.model.specs.Step.{final, log}
use Rattle.model.specs.LockModel.{Model, not_exclusive, not_shared, model_run, fresh_model}
use Rattle.model.specs.Agreement.{Agrees, feeds}
use Rattle.model.specs.Granting.{ByHolders}
use Rattle.model.proofs.Basics.{all_at, all_cong}
use Rattle.claims.proofs.Invariant.{Inv, clean}
use Rattle.claims.proofs.Tallies.{lower, tally_seen, tally_cong}
use Rattle.claims.proofs.Seen.{all_lift, lift, lift_excl, lift_shared, own_seen, allowed_seen}
use Rattle.claims.proofs.Fits.{inv_run}
use Rattle.claims.proofs.Agreement.{agreement}

-- by the lock model's holders
pub by_holders : (l : Locks) (m : Model) → Agrees l m → Inv l → ByHolders l m
unfolding access
by_holders l m a i =
    record {
      grants = λ j v k. sym (allowed_seen m.sessions es a.sessions f j v k);
      gives_access =
          λ j v.
          sym (ap₂ ◌||◌ (own_seen m.sessions es a.sessions f j v (λ s. s.exclusive))
          (ap₂ ◌&&◌ exclusives (ap₂ ◌||◌ (own_seen m.sessions es a.sessions f j v (λ s. not (not_shared s))) shareds)));
      info_code = sym exclusives;
      info_count = sym (a.sessions (λ s. not (not_exclusive s && not_shared s)) ∙ tally_seen (λ s. not (not_exclusive s && not_shared s)) es
          ∙ tally_cong _ holder es (λ j. held_by (at es j) (all_at clean es j refl f.clean_all)));
    }
  where
    es : List Entry
    es = l.entries

    f : Rattle.claims.proofs.Invariant.Firm l.entries
    f = i.sound.firm

    exclusives : all not_exclusive m.sessions ≡ all no_exclusive l.entries
    exclusives = all_lift m.sessions l.entries a.sessions not_exclusive
        ∙ all_cong (lift not_exclusive) no_exclusive l.entries
        (λ j. lift_excl (at l.entries j) (all_at clean l.entries j refl i.sound.firm.clean_all))

    shareds : all not_shared m.sessions ≡ all no_shared l.entries
    shareds = all_lift m.sessions l.entries a.sessions not_shared
        ∙ all_cong (lift not_shared) no_shared l.entries (λ j. lift_shared (at l.entries j)
        (all_at clean l.entries j refl i.sound.firm.clean_all))

    held_by : (e : Entry) → clean e ≡ true → lower (λ s. not (not_exclusive s && not_shared s)) e ≡ holder e
    held_by e c = go (live e) refl
      where
        go : (b : Bool) → live e ≡ b → (b && not (no_exclusive e && no_shared e)) ≡ not (no_exclusive e && no_shared e)
        go true v = refl
        go false v = sym (ap not (rw v at c))

-- after any list from the fresh server
pub decides : (v : Making) (es : List Event) → ByHolders (final (fresh v) es).locks (model_run fresh_model (feeds (log (fresh v) es))).model
decides v es = by_holders _ _ (agreement v es).locks (inv_run v es)
