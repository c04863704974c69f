-- What is kept of calls fits an entry: bytes, and at most 5,000.
use mathlib.Core.Path.{◌≡◌, refl, sym, ap, subst, ◌∙◌}
use mathlib.Core.Bool.{Bool, true, false, cond}
use mathlib.Core.List.{List, [], ◌∷◌, ◌++◌}
use Prim.Native.Nat.{ℕ, zero, suc, ◌^◌, ◌≤◌, ◌<◌}
use native.Mathlib.Omega.{arith}
use lib.ListN.{length}
use Rattle.wire.specs.Field.{Bytes, field}
use Rattle.wire.specs.Frame.{bytes_of}
use Rattle.wire.specs.ReadFrames.{AllFit}
use Rattle.wire.proofs.ReadFrames.{rows_read}
use Rattle.journal.specs.Journal.{Fine, AllFine}
use Rattle.journal.specs.Bytes.{append_bytes, field_bytes}
use Rattle.record.specs.Layout.{Event as Recorded, opening as r-opening, delivery as r-delivery, cut as r-cut, clock as r-clock, answer as r-answer}
use Rattle.record.specs.Layout.{status as r-status, watch_off, watch_above, watch_outside, patterns as r-patterns, Row, row, Fits, encode, body_bytes}
use Rattle.record.specs.RoundTrip.{most_frames, Taken, longest_body}
use Rattle.model.specs.Sizes.{output_minimum}
use Rattle.model.specs.State.{Server, Making, fresh}
use Rattle.model.specs.Interface.{Event, Event.opening, Event.delivery, Event.cut, Event.clock, Event.answer, Event.status, Event.setting, Setting, Setting.watch, Setting.patterns}
use Rattle.readings.specs.Watch.{Limits.off, Limits.above, Limits.outside}
use Rattle.model.specs.Possible.{Possible, AllPossible}
use Rattle.model.specs.Locks.{change}
use Rattle.model.specs.Refusals.{refusal}
use Rattle.model.specs.SentFits.{LinesFit}
use Rattle.model.specs.Step.{Result, finish, plan, step, final, log}
use Rattle.claims.proofs.Bound.{bound_run}
use Rattle.claims.proofs.SentFits.{sent_fits}
use Rattle.judging.specs.Kept.{recorded_setting, recorded, Keepable, AllKeepable, is_refused, bodies_of}
use Rattle.judging.proofs.Calls.{step_taken, no_cause, payload_short, list_short, fits_recorded}

-- bytes, as a record: the prover then finds the list
record AreBytes (bs : List ℕ) : Type 0 where
  are : Bytes bs

tagged : {t : ℕ} {bs : List ℕ} → t < 256 → AreBytes bs → AreBytes (t ∷ bs)
tagged {t} {bs} h y = record { are = go }
  where
    go : Bytes (t ∷ bs)
    go zero = h
    go (suc i) = y.are i

both : {xs ys : List ℕ} → AreBytes xs → AreBytes ys → AreBytes (xs ++ ys)
both {xs} {ys} a b = record { are = append_bytes xs ys a.are b.are }

numeral : (n x : ℕ) → AreBytes (field n x)
numeral n x = record { are = field_bytes n x }

row_bytes : {most : ℕ} {r : List ℕ} → Row most r → AreBytes (row r)
unfolding row
row_bytes {r = r} h = both (numeral 4 (length r)) (record { are = h.bytes })

-- a recorded event is bytes
encoded : (e : Recorded) → Fits e → AreBytes (encode e)
unfolding encode
encoded (r-opening c) f = tagged (omega arith) (numeral 4 c)
encoded (r-delivery c b) f = tagged (omega arith) (both (numeral 4 c) (row_bytes f.1))
encoded (r-cut c) f = tagged (omega arith) (numeral 4 c)
encoded (r-clock t) f = tagged (omega arith) (numeral 8 t)
encoded (r-answer n e p b) f = tagged (omega arith) (both (numeral 4 n) (both (numeral 1 e) (both (row_bytes f.2) (row_bytes f.3))))
encoded (r-status b) f = tagged (omega arith) (numeral 1 b)
encoded (watch_off n) f = tagged (omega arith) (numeral 4 n)
encoded (watch_above n l) f = tagged (omega arith) (both (numeral 4 n) (numeral 4 l))
encoded (watch_outside n l h) f = tagged (omega arith) (both (numeral 4 n) (both (numeral 4 l) (numeral 4 h)))
encoded (r-patterns text) f = tagged (omega arith) (row_bytes f)

pub possible : (e : Event) → Keepable e → Possible e
possible (opening c) k = tt
possible (delivery c bs room) k = k.1.bytes
possible (cut c room) k = tt
possible (clock t room) k = tt
possible (answer n p end sh room) k = (k.1, k.2.bytes)
possible (status b) k = k
possible (setting s) k = tt

pub all_possible : (es : List Event) → AllKeepable es → AllPossible es
all_possible [] k = tt
all_possible (e ∷ es) k = (possible e k.0, all_possible es k.1)

taken_setting : (d : Server) (s : Setting) → refusal d (setting s) ≡ 0 → Taken (recorded_setting s)
taken_setting d (watch n off) z = tt
taken_setting d (watch n (above l)) z = tt
taken_setting d (watch n (outside l h)) z = tt
taken_setting d (patterns text) z = list_short d text z

-- what a call gave, in bytes
abbrev given : Server → Event → ℕ
given d e = length (bytes_of (step d e).frames)

-- setting a list gives nothing
no_frames : (d : Server) (text : List ℕ) → refusal d (setting (patterns text)) ≡ 0 → given d (setting (patterns text)) ≡ 0
unfolding finish plan change bytes_of
no_frames d text z = ap (λ (x : Result). length (bytes_of x.frames)) (step_taken d (setting (patterns text)) z)

most_setting : (d : Server) (s : Setting) → refusal d (setting s) ≡ 0 → given d (setting s) ≤ output_minimum → given d (setting s) ≤ most_frames (recorded_setting s)
most_setting d (watch n off) z h = h
most_setting d (watch n (above l)) z h = h
most_setting d (watch n (outside l k)) z h = h
most_setting d (patterns text) z h = omega (arith, no_frames d text z)

taken_recorded : (d : Server) (e : Event) → refusal d e ≡ 0 → Taken (recorded e)
taken_recorded d (opening c) z = tt
taken_recorded d (delivery c bs room) z = tt
taken_recorded d (cut c room) z = tt
taken_recorded d (clock t room) z = tt
taken_recorded d (answer n p end sh room) z = payload_short d n p end sh room z
taken_recorded d (status b) z = tt
taken_recorded d (setting s) z = taken_setting d s z

most_recorded : (d : Server) (e : Event) → refusal d e ≡ 0 → given d e ≤ output_minimum → given d e ≤ most_frames (recorded e)
most_recorded d (opening c) z h = h
most_recorded d (delivery c bs room) z h = h
most_recorded d (cut c room) z h = h
most_recorded d (clock t room) z h = h
most_recorded d (answer n p end sh room) z h = h
most_recorded d (status b) z h = h
most_recorded d (setting s) z h = most_setting d s z h

-- the call after others is the next one's server
further : (es : List Event) (d : Server) (e : Event) → final d (es ++ e ∷ []) ≡ (step (final d es) e).server
unfolding final
further [] d e = refl
further (x ∷ es) d e = further es (step d x).server e

module _ (v : Making) where
  body_fine : (before : List Event) (e : Event) → AllFit (step (final (fresh v) before) e).frames → Keepable e → is_refused (step (final (fresh v) before) e).reply ≡ false
      → Fine (body_bytes (recorded e) (bytes_of (step (final (fresh v) before) e).frames))
  body_fine before e a k q =
      let d = final (fresh v) before in
      let z : refusal d e ≡ 0 = no_cause d e q in
      let f : Fits (recorded e) = fits_recorded d e k z in
      let b = (bound_run v before).bound.within e in
      record {
        bytes = append_bytes (encode (recorded e)) (bytes_of (step d e).frames) (encoded (recorded e) f).are (rows_read.bytes (step d e).frames a);
        within = longest_body (recorded e) (bytes_of (step d e).frames) f (taken_recorded d e z) (most_recorded d e z (omega (arith, b)));
      }

  all_fine : (es before : List Event) (d : Server) → d ≡ final (fresh v) before → LinesFit (log d es) → AllKeepable es → AllFine (bodies_of (log d es))
  unfolding log bodies_of AllFine
  all_fine [] before d p a k = tt
  all_fine (e ∷ es) before d p a k =
      by (is_refused (step d e).reply) refl
      (all_fine es (before ++ e ∷ []) (step d e).server (ap (λ (x : Server). (step x e).server) p ∙ sym (further before (fresh v) e)) a.1 k.1)
    where
      this : is_refused (step d e).reply ≡ false → Fine (body_bytes (recorded e) (bytes_of (step d e).frames))
      this q =
          subst (λ (x : Server). AllFit (step x e).frames → is_refused (step x e).reply ≡ false → Fine (body_bytes (recorded e) (bytes_of (step x e).frames))) (sym p)
          (λ b r. body_fine before e b k.0 r) a.0 q

      by : (b : Bool) → is_refused (step d e).reply ≡ b → AllFine (bodies_of (log (step d e).server es))
          → AllFine (cond (is_refused (step d e).reply) (bodies_of (log (step d e).server es)) (body_bytes (recorded e) (bytes_of (step d e).frames) ∷ bodies_of (log (step d e).server es)))
      by true q rest = rw q rest
      by false q rest = rw q (this q, rest)

  -- of any calls of a host that keeps a journal
  pub kept_fine : (es : List Event) → v.vendor < 2 ^ 16 → AllKeepable es → AllFine (bodies_of (log (fresh v) es))
  unfolding final
  kept_fine es h k = all_fine es [] (fresh v) refl (sent_fits.any_run v es h (all_possible es k)) k
