-- Numbers in step, by what the host saw: the reader of specs/Program.antt is the model's, and Error 0 is read off the bytes of the output.
use mathlib.Core.Path.{◌≡◌, refl, sym, ap, subst, ◌∙◌}
use mathlib.Core.List.{List, [], ◌∷◌, map}
use Prim.Native.Nat.{ℕ}
use lib.ListN.{get_or, length}
use Rattle.wire.specs.Frame.{Frame, bytes_of, frame_bytes, frame_of}
use Rattle.wire.specs.Message.{encode, header_bytes}
use Rattle.model.specs.MessageTypes.{Error}
use Rattle.model.specs.State.{Server}
use Rattle.model.specs.Interface.{Event, Event.opening, Event.delivery, Event.cut, Event.clock, Event.answer, Event.status, Event.setting}
use Rattle.model.specs.Interface.{Outcome.more_needed, Outcome.skipped, Outcome.held, Outcome.ignored, Outcome.error_sent, Outcome.closed, Outcome.acted}
use Rattle.model.specs.Interface.{Reply, Reply.refused, Reply.done, Reply.withheld, Reply.took}
use Rattle.model.specs.Step.{Line, log, step}
use Rattle.model.specs.Demand3.{seen}
use Rattle.model.specs.Happening.{happened}
use Rattle.model.specs.InStep.{Numbering, numbering_after, noted_line, numbering_of, count_up, error_0, Counts, NeverOut}
use Rattle.claims.proofs.Replies.{Erring, erring}
use Rattle.server.specs.Program.{noted_seen, noted_in, CountsIn, NeverOutIn}

-- the reader looks at no frame
noted_same : (e : Event) (y : Reply) (fs : List Frame) (n : ℕ) (p : Numbering) → numbering_after (happened e y fs) n p ≡ numbering_after (happened e y []) n p
noted_same e (refused k) fs n p = refl
noted_same e done fs n p = refl
noted_same e withheld fs n p = refl
noted_same (opening c) (took o k m) fs n p = refl
noted_same (delivery c bs room) (took more_needed k m) fs n p = refl
noted_same (delivery c bs room) (took skipped k m) fs n p = refl
noted_same (delivery c bs room) (took held k m) fs n p = refl
noted_same (delivery c bs room) (took ignored k m) fs n p = refl
noted_same (delivery c bs room) (took error_sent k m) fs n p = refl
noted_same (delivery c bs room) (took closed k m) fs n p = refl
noted_same (delivery c bs room) (took acted k m) fs n p = refl
noted_same (cut c room) (took o k m) fs n p = refl
noted_same (clock t room) (took o k m) fs n p = refl
noted_same (answer s x end sh room) (took o k m) fs n p = refl
noted_same (status b) (took o k m) fs n p = refl
noted_same (setting s) (took o k m) fs n p = refl

pub noted_seen_lem : (ls : List Line) (n : ℕ) (p : Numbering) → noted_in (map seen ls) n p ≡ numbering_of ls n p
unfolding numbering_of
noted_seen_lem [] n p = refl
noted_seen_lem (l ∷ ls) n p = noted_seen_lem ls n (noted_seen (seen l) n p) ∙ ap (numbering_of ls n) (sym (noted_same l.event l.reply l.frames n p))

pub counts_seen : (ls : List Line) (n : ℕ) (p : Numbering) → CountsIn (map seen ls) n p → Counts ls n p
counts_seen [] n p c = tt
counts_seen (l ∷ ls) n p c =
    let e : noted_seen (seen l) n p ≡ noted_line l n p = sym (noted_same l.event l.reply l.frames n p) in
    (subst (λ (q : Numbering). q.taken ≡ count_up (length q.taken)) e c.0, subst (Counts ls n) e (counts_seen ls n (noted_seen (seen l) n p) c.1))

-- an Error's code is its frame's fifth byte
code_read : (c k : ℕ) → get_or (bytes_of (frame_of c Error k 0 [] ∷ [])) 4 0 ≡ k
unfolding bytes_of frame_bytes encode header_bytes
code_read c k = refl

error_read : (d : Server) (e : Event) (c : ℕ) (bs : List ℕ) (room k m : ℕ) → e ≡ delivery c bs room → (step d e).reply ≡ took error_sent k m → bytes_of (step d e).frames ≡ bytes_of (error_0 c)
    → (step d e).frames ≡ error_0 c
error_read d e c bs room k m x y b =
    let w : Erring d c bs room = erring d c bs room k m (subst (λ (z : Event). (step d z).reply ≡ took error_sent k m) x y) in
    let o : bytes_of (frame_of c Error w.code 0 [] ∷ []) ≡ bytes_of (error_0 c) = ap bytes_of (sym w.sends) ∙ subst (λ (z : Event). bytes_of (step d z).frames ≡ bytes_of (error_0 c)) x b in
    let n : w.code ≡ 0 = sym (code_read c w.code) ∙ ap (λ (l : List ℕ). get_or l 4 0) o ∙ code_read c 0 in
    ap (λ (z : Event). (step d z).frames) x ∙ w.sends ∙ ap (λ (j : ℕ). frame_of c Error j 0 [] ∷ []) n

pub never_seen : (es : List Event) (d : Server) (n : ℕ) (p : Numbering) → NeverOut (log d es) n p → NeverOutIn (map seen (log d es)) n p
unfolding log
never_seen [] d n p o = tt
never_seen (e ∷ es) d n p o = (
  λ bs room k m x y c t b. o.0 bs room k m x y c t (error_read d e p.connection bs room k m x y b),
  subst (NeverOutIn (map seen (log (step d e).server es)) n) (noted_same e (step d e).reply (step d e).frames n p) (never_seen es (step d e).server n _ o.1),
)
