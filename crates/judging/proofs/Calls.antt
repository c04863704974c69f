-- From calls to right entries, and back: what a recorded event replays is the call that was recorded.
use mathlib.Core.Path.{◌≡◌, refl, sym, ap, subst, ◌∙◌}
use mathlib.Core.Bool.{Bool, true, false, not, ◌||◌, cond, true≢false}
use mathlib.Core.List.{List, [], ◌∷◌}
use Prim.Native.Nat.{ℕ, zero, suc, ◌≤◌, ◌<◌}
use native.Mathlib.Omega.{arith}
use lib.Dec.{eqb, ltb}
use lib.ListN.{length}
use borrow.Author.Tests.{ltb-false}
use Rattle.wire.specs.Frame.{bytes_of}
use Rattle.journal.specs.Journal.{AllFine}
use Rattle.record.specs.Layout.{Event as Recorded, opening as r-opening, delivery as r-delivery, cut as r-cut, clock as r-clock, answer as r-answer}
use Rattle.record.specs.Layout.{status as r-status, watch_off, watch_above, watch_outside, patterns as r-patterns, Fits, body_bytes}
use Rattle.verifier.specs.Judge.{gave}
use Rattle.verifier.specs.Right.{Yields, Right, none, more}
use Rattle.model.specs.Sizes.{output_minimum, payload_limit, list_limit}
use Rattle.commands.proofs.Lines.{listed_room}
use Rattle.readings.specs.Watch.{Limits.off, Limits.above, Limits.outside}
use Rattle.model.specs.State.{Server}
use Rattle.model.specs.Interface.{Event, Event.opening, Event.delivery, Event.cut, Event.clock, Event.answer, Event.status, Event.setting, Setting}
use Rattle.model.specs.Interface.{Setting.watch, Setting.patterns, Reply, Reply.refused as turned_away_lem, Reply.done, Reply.withheld, Reply.took}
use Rattle.model.specs.Refusals.{causes, refusal}
use Rattle.model.specs.Step.{Result, answered, finish, plan, step, final, log}
use Rattle.claims.proofs.Fits.{uncaused}
use Rattle.claims.proofs.Listing.{tells_bad}
use Rattle.claims.proofs.Refused.{changes_nothing_lem}
use Rattle.judging.specs.Replay.{call_of, by_reply, by_call, deed}
use Rattle.judging.specs.Kept.{recorded_setting, recorded, KeepableSetting, Keepable, AllKeepable, is_refused, bodies_of, NoneRefused}

-- the call that is replayed: with the least buffer
abbrev least : Event → Event
least (opening c) = opening c
least (delivery c bs room) = delivery c bs output_minimum
least (cut c room) = cut c output_minimum
least (clock t room) = clock t output_minimum
least (answer n p end sh room) = answer n p end sh output_minimum
least (status b) = status b
least (setting s) = setting s

end_again : (b : Bool) → not (eqb (cond b 1 0) 0) ≡ b
end_again true = refl
end_again false = refl

setting_again : (s : Setting) → call_of (recorded_setting s) ≡ setting s
setting_again (watch n off) = refl
setting_again (watch n (above l)) = refl
setting_again (watch n (outside l h)) = refl
setting_again (patterns text) = refl

call_again : (e : Event) → call_of (recorded e) ≡ least e
call_again (opening c) = refl
call_again (delivery c bs room) = refl
call_again (cut c room) = refl
call_again (clock t room) = refl
call_again (answer n p end sh room) = ap (λ (b : Bool). answer n p b sh output_minimum) (end_again end)
call_again (status b) = refl
call_again (setting s) = setting_again s

behind : (b : Bool) (x : ℕ) → cond b 7 x ≡ 0 → x ≡ 0
behind true x e = absurd (omega (arith, e))
behind false x e = e

least_taken : (d : Server) (e : Event) → refusal d e ≡ 0 → refusal d (least e) ≡ 0
unfolding refusal causes
least_taken d (opening c) z = z
least_taken d (delivery c bs room) z = behind (ltb room output_minimum) _ z
least_taken d (cut c room) z = behind (ltb room output_minimum) _ z
least_taken d (clock t room) z = behind (ltb room output_minimum) _ z
least_taken d (answer n p end sh room) z = behind (ltb room output_minimum) _ z
least_taken d (status b) z = z
least_taken d (setting s) z = z

least_plan : (d : Server) (e : Event) → plan d (least e) ≡ plan d e
unfolding plan
least_plan d (opening c) = refl
least_plan d (delivery c bs room) = refl
least_plan d (cut c room) = refl
least_plan d (clock t room) = refl
least_plan d (answer n p end sh room) = refl
least_plan d (status b) = refl
least_plan d (setting s) = refl

pub step_taken : (d : Server) (e : Event) → refusal d e ≡ 0 → step d e ≡ finish d (plan d e)
unfolding step answered
step_taken d e z = ap (λ (k : ℕ). answered k d e) z

least_step : (d : Server) (e : Event) → refusal d e ≡ 0 → step d (least e) ≡ step d e
least_step d e z = step_taken d (least e) (least_taken d e z) ∙ ap (finish d) (least_plan d e) ∙ sym (step_taken d e z)

-- a call that was not refused has no cause of refusal
pub no_cause : (d : Server) (e : Event) → is_refused (step d e).reply ≡ false → refusal d e ≡ 0
unfolding step answered
no_cause d e = go (refusal d e)
  where
    go : (k : ℕ) → is_refused (answered k d e).reply ≡ false → k ≡ 0
    go zero q = refl
    go (suc k) q = absurd (true≢false q)

not_refused : (y : Reply) (fs : List ℕ) (d : Server) → is_refused y ≡ false → by_reply y fs d ≡ gave fs d
unfolding by_reply
not_refused (turned_away_lem n) fs d q = absurd (true≢false q)
not_refused done fs d q = refl
not_refused withheld fs d q = refl
not_refused (took o k n) fs d q = refl

pub deed_of : (d : Server) (e : Event) → is_refused (step d e).reply ≡ false → deed d (recorded e) ≡ gave (bytes_of (step d e).frames) (step d e).server
unfolding by_call
deed_of d e q =
    ap (by_call d) (call_again e)
    ∙ ap (λ (x : Result). by_reply x.reply (bytes_of x.frames) x.server) (least_step d e (no_cause d e q))
    ∙ not_refused (step d e).reply (bytes_of (step d e).frames) (step d e).server q

-- a payload that was not refused has at most 1,024 bytes
neither : (a b : Bool) → (a || b) ≡ false → a ≡ false
neither true b e = e
neither false b e = refl

pub payload_short : (d : Server) (n : ℕ) (p : List ℕ) (end : Bool) (sh : List ℕ) (room : ℕ) → refusal d (answer n p end sh room) ≡ 0 → length p ≤ payload_limit
unfolding refusal causes
payload_short d n p end sh room z = ltb-false payload_limit (length p) (neither _ _ (uncaused (causes d (answer n p end sh room)) refl z).1.1.1.0)

-- a list that was not refused has at most 4,128 bytes
pub list_short : (d : Server) (text : List ℕ) → refusal d (setting (patterns text)) ≡ 0 → length text ≤ list_limit
unfolding finish plan
list_short d text z = listed_room text ((tells_bad d text).done_only (ap (λ (x : Result). x.reply) (step_taken d (setting (patterns text)) z)))

fits_setting : (d : Server) (s : Setting) → KeepableSetting s → refusal d (setting s) ≡ 0 → Fits (recorded_setting s)
fits_setting d (watch n off) k z = k.0
fits_setting d (watch n (above l)) k z = k
fits_setting d (watch n (outside l h)) k z = (k.0, k.1.0, k.1.1)
fits_setting d (patterns text) k z = record { bytes = k; within = omega (arith, list_short d text z) }

pub fits_recorded : (d : Server) (e : Event) → Keepable e → refusal d e ≡ 0 → Fits (recorded e)
fits_recorded d (opening c) k z = k
fits_recorded d (delivery c bs room) k z = k
fits_recorded d (cut c room) k z = k
fits_recorded d (clock t room) k z = k
fits_recorded d (answer n p end sh room) k z = (k.0, one end, record { bytes = k.1; within = omega (arith, payload_short d n p end sh room z) }, k.2)
  where
    one : (b : Bool) → cond b 1 0 < 2
    one true = omega arith
    one false = omega arith
fits_recorded d (status b) k z = k
fits_recorded d (setting s) k z = fits_setting d s k z

-- a refused call leaves the server as it was
same_server : (d : Server) (e : Event) (y : Reply) → (step d e).reply ≡ y → is_refused y ≡ true → (step d e).server ≡ d
same_server d e (turned_away_lem n) p q = ap (λ (x : Result). x.server) (changes_nothing_lem d e n p)
same_server d e done p q = absurd (true≢false (sym q))
same_server d e withheld p q = absurd (true≢false (sym q))
same_server d e (took o k n) p q = absurd (true≢false (sym q))

-- the entries of a journal kept of calls are right, each in turn
pub rights : (es : List Event) (d : Server) → AllKeepable es → AllFine (bodies_of (log d es)) → Right deed d (bodies_of (log d es)) (final d es)
unfolding log final bodies_of AllFine
rights [] d k f = none
rights (e ∷ es) d k f = by (is_refused (step d e).reply) refl (rights es (step d e).server k.1) f
  where
    by : (b : Bool) → is_refused (step d e).reply ≡ b
        → (AllFine (bodies_of (log (step d e).server es)) → Right deed (step d e).server (bodies_of (log (step d e).server es)) (final (step d e).server es))
        → AllFine (cond b (bodies_of (log (step d e).server es)) (body_bytes (recorded e) (bytes_of (step d e).frames) ∷ bodies_of (log (step d e).server es)))
        → Right deed d (cond (is_refused (step d e).reply) (bodies_of (log (step d e).server es)) (body_bytes (recorded e) (bytes_of (step d e).frames) ∷ bodies_of (log (step d e).server es)))
        (final (step d e).server es)
    by true q ih g =
        rw q
        (subst (λ (x : Server). Right deed x (bodies_of (log (step d e).server es)) (final (step d e).server es)) (same_server d e (step d e).reply refl q)
        (ih g))
    by false q ih g =
        rw q
        (more g.0
        (record { event = recorded e; frames = bytes_of (step d e).frames; is = refl; fits = fits_recorded d e k.0 (no_cause d e q); gives = deed_of d e q })
        (ih g.1))

-- and right entries are those of calls, none of them refused
pub record Replayed (d : Server) (bs : List (List ℕ)) (e : Server) : Type 0 where
  pub calls : List Event
  pub keepable : AllKeepable calls
  pub none_refused : NoneRefused (log d calls)
  pub is : bs ≡ bodies_of (log d calls)
  pub count : length bs ≡ length calls
  pub server : final d calls ≡ e

record OneCall (d : Server) (r : Recorded) (frames : List ℕ) (d' : Server) : Type 0 where
  call : Event
  keepable : Keepable call
  same : recorded call ≡ r
  taken : is_refused (step d call).reply ≡ false
  gives : bytes_of (step d call).frames ≡ frames
  leaves : (step d call).server ≡ d'

by_reply_lem : (y : Reply) (fs : List ℕ) (s : Server) (frames : List ℕ) (d' : Server) → by_reply y fs s ≡ gave frames d' → (is_refused y ≡ false) × (fs ≡ frames) × (s ≡ d')
unfolding by_reply
by_reply_lem (turned_away_lem n) fs s frames d' e = let z : ◌≡◌ {A = ℕ} 0 1 = cc in absurd (omega arith)
by_reply_lem done fs s frames d' e = (refl, cc, cc)
by_reply_lem withheld fs s frames d' e = (refl, cc, cc)
by_reply_lem (took o k n) fs s frames d' e = (refl, cc, cc)

the_call : (d : Server) (r : Recorded) (frames : List ℕ) (d' : Server) (e : Event) → call_of r ≡ e → Keepable e → recorded e ≡ r → deed d r ≡ gave frames d' → OneCall d r frames d'
unfolding by_call
the_call d r frames d' e c k s g =
    let b = by_reply_lem (step d e).reply (bytes_of (step d e).frames) (step d e).server frames d' (ap (by_call d) (sym c) ∙ g) in
    record { call = e; keepable = k; same = s; taken = b.0; gives = b.1; leaves = b.2 }

end_kept : (e : ℕ) → e < 2 → cond (not (eqb e 0)) 1 0 ≡ e
end_kept zero h = refl
end_kept (suc zero) h = refl
end_kept (suc (suc e)) h = absurd (omega arith)

one_call : (d : Server) (r : Recorded) (frames : List ℕ) (d' : Server) → Fits r → deed d r ≡ gave frames d' → OneCall d r frames d'
one_call d (r-opening c) fs d' f g = the_call d (r-opening c) fs d' (opening c) refl f refl g
one_call d (r-delivery c bs) fs d' f g = the_call d (r-delivery c bs) fs d' (delivery c bs output_minimum) refl f refl g
one_call d (r-cut c) fs d' f g = the_call d (r-cut c) fs d' (cut c output_minimum) refl f refl g
one_call d (r-clock t) fs d' f g = the_call d (r-clock t) fs d' (clock t output_minimum) refl f refl g
one_call d (r-answer n e p sh) fs d' f g =
    the_call d (r-answer n e p sh) fs d' (answer n p (not (eqb e 0)) sh output_minimum) refl (f.0, f.2.bytes, f.3) (ap (λ (x : ℕ). r-answer n x p sh) (end_kept e f.1)) g
one_call d (r-status b) fs d' f g = the_call d (r-status b) fs d' (status b) refl f refl g
one_call d (watch_off n) fs d' f g = the_call d (watch_off n) fs d' (setting (watch n off)) refl (f, tt) refl g
one_call d (watch_above n x) fs d' f g = the_call d (watch_above n x) fs d' (setting (watch n (above x))) refl f refl g
one_call d (watch_outside n x y) fs d' f g = the_call d (watch_outside n x y) fs d' (setting (watch n (outside x y))) refl (f.0, (f.1, f.2)) refl g
one_call d (r-patterns text) fs d' f g = the_call d (r-patterns text) fs d' (setting (patterns text)) refl f.bytes refl g

first_call : {d c e : Server} {b : List ℕ} {bs : List (List ℕ)} (y : Yields deed d b c) → OneCall d y.event y.frames c → Replayed c bs e → Replayed d (b ∷ bs) e
unfolding log final bodies_of
first_call {d = d} y o p = record {
  calls = o.call ∷ p.calls;
  keepable = (o.keepable, p.keepable);
  none_refused = (o.taken, subst (λ (x : Server). NoneRefused (log x p.calls)) (sym o.leaves) p.none_refused);
  is =
      (λ i. (y.is ∙ (λ j. body_bytes (sym o.same j) (sym o.gives j))) i ∷ (p.is ∙ ap (λ (x : Server). bodies_of (log x p.calls)) (sym o.leaves)) i)
      ∙ ap (λ (t : Bool). cond t (bodies_of (log (step d o.call).server p.calls))
      (body_bytes (recorded o.call) (bytes_of (step d o.call).frames) ∷ bodies_of (log (step d o.call).server p.calls))) (sym o.taken);
  count = ap suc p.count;
  server = ap (λ (x : Server). final x p.calls) o.leaves ∙ p.server;
}

pub replayed : {d e : Server} {bs : List (List ℕ)} → Right deed d bs e → Replayed d bs e
unfolding log final bodies_of
replayed none = record { calls = []; keepable = tt; none_refused = tt; is = refl; count = refl; server = refl }
replayed (more {d = d} {e = c} {f = e} {b = b} {bs = bs} f y r) = first_call y (one_call d y.event y.frames c y.fits y.gives) (replayed r)
