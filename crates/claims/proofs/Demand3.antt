-- Demand 3, proved: the statement is specs/Demand3.antt.
use mathlib.Core.Path.{◌≡◌, refl, sym, ap, ap₂, ◌∙◌}
use mathlib.Core.List.{List, [], ◌∷◌, map}
use Prim.Native.Nat.{ℕ, ◌+◌}
use lib.ListN.{length, take, drop}
use lib.Seq.{take_at}
use Rattle.wire.specs.Frame.{bytes_of}
use Rattle.wire.specs.Splice.{splice}
use Rattle.model.specs.State.{Server, fresh, Making}
use Rattle.model.specs.Interface.{Event, Reply}
use Rattle.model.specs.Step.{Line, step, final, log}
use Rattle.model.specs.Canonical.{canonical, kept}
use Rattle.model.specs.Post.{Post}
use Rattle.model.specs.Agreement.{feed, feeds}
use Rattle.model.specs.Demand3.{Seen, seen, seen_events, Calls, Calls.none, Calls.call, Demand3, fed_by, OmittedIdle}
use Rattle.claims.proofs.Canonical.{canonical_history, step_omitted}
use Rattle.claims.proofs.Agreement.{agreement}
use Rattle.claims.proofs.Counting.{counted}
use Rattle.claims.proofs.FixedPoint.{fixed_point}
use Rattle.claims.proofs.Closing.{closings}
use Rattle.claims.proofs.Granting.{decides}

-- what is written at the front of a buffer is read there
front : (out x : List ℕ) (n : ℕ) → n ≡ length x → take n (splice out 0 x) ≡ x
unfolding splice
front out x n e = take_at x (drop (0 + length x) out) n (sym e)

-- the lock model is fed what the log has
fed_seen : (ls : List Line) → fed_by (map seen ls) ≡ feeds ls
fed_seen [] = refl
fed_seen (l ∷ ls) = ap (λ fs. feed l.event l.reply ∷ fs) (fed_seen ls)

-- what is omitted is idle, call by call
omitted : (es : List Event) (d : Server) → OmittedIdle d es
omitted [] d = tt
omitted (e ∷ es) d = (λ o. step_omitted d e o, omitted es (step d e).server)

module _ {M : Type 0} (view : M → Server) where
  -- what the host sees of one call is what the definition says
  pub one : (e : Event) (m m' : M) (out out' : List ℕ) (reply : Reply) (output : ℕ) → Post view e m m' out out' reply output
      → ◌≡◌ {A = Seen} (record { event = e; reply = reply; output = take output out' }) (record { event = e; reply = (step (view m) e).reply; output = bytes_of (step (view m) e).frames })
  one e m m' out out' reply output p =
      let o : take output out' ≡ bytes_of (step (view m) e).frames = ap (take output) p.buffer ∙ front out (bytes_of (step (view m) e).frames) output p.output_length in
      λ k. record { event = e; reply = p.replies k; output = o k }

  -- a list of calls is the one of the definitions, from any memory
  pub made : {m m' : M} {ss : List Seen} → Calls view m ss m' → (ss ≡ map seen (log (view m) (seen_events ss))) × (view m' ≡ final (view m) (seen_events ss))
  unfolding log final
  made none = (refl, refl)
  made {m = m} (call {m' = m'} {ss = ss} e out out' reply output p c) =
      let h = made c in (
        ap₂ (λ (s : Seen) (l : List Seen). s ∷ l) (one e m m' out out' reply output p) (h.0 ∙ ap (λ d. map seen (log d (seen_events ss))) p.new_server),
        h.1 ∙ ap (λ d. final d (seen_events ss)) p.new_server,
      )

  -- a second list of calls that is the canonical history of a first
  replayed : (v : Making) {m m' n n' : M} {ss rs : List Seen} → view m ≡ fresh v → Calls view m ss m' → view n ≡ fresh v → Calls view n rs n' → seen_events rs ≡ canonical (fresh v) (seen_events ss)
      → (view n' ≡ view m') × (rs ≡ map seen (kept (log (fresh v) (seen_events ss))))
  replayed v {ss = ss} {rs = rs} f c g b e =
      let h = made c in
      let k = made b in
      let a = canonical_history (seen_events ss) (fresh v) in (
        k.1 ∙ ap (λ d. final d (seen_events rs)) g ∙ ap (final (fresh v)) e ∙ a.same_server ∙ sym (h.1 ∙ ap (λ d. final d (seen_events ss)) f),
        k.0 ∙ ap (λ d. map seen (log d (seen_events rs))) g ∙ ap (λ es. map seen (log (fresh v) es)) e ∙ ap (map seen) a.same_lines,
      )

  pub demand3 : (v : Making) (m : M) {m' : M} {ss : List Seen} → view m ≡ fresh v → Calls view m ss m' → Demand3 view v ss m'
  demand3 v m {m' = m'} {ss = ss} f c =
      let h = made c in
      let es = seen_events ss in
      let seen_is : ss ≡ map seen (log (fresh v) es) = h.0 ∙ ap (λ d. map seen (log d es)) f in
      let server_is : view m' ≡ final (fresh v) es = h.1 ∙ ap (λ d. final d es) f in
      let fed : fed_by ss ≡ feeds (log (fresh v) es) = ap fed_by seen_is ∙ fed_seen (log (fresh v) es) in
      let a = canonical_history es (fresh v) in
      let b = agreement v es in
      record {
        seen_is = seen_is;
        server_is = server_is;
        same_server = a.same_server ∙ sym server_is;
        taken_within = a.within;
        only_taken = (fixed_point (fresh v) es).fixed;
        kept_calls = a.same_lines;
        replay = λ g b e. replayed v f c g b e;
        omitted_idle = omitted es (fresh v);
        holders = λ p. rw (fed, server_is) (b.locks.sessions p);
        waiting = rw (fed, server_is) b.locks.waiting;
        clock = rw (fed, server_is) b.locks.clock;
        lock_answers = rw fed b.answers;
        closings = (closings v es).each;
        counted = rw (fed, server_is) (counted v es).balance;
        by_holders = rw (fed, server_is) (decides v es);
      }
