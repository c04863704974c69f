-- Readings under watch, by what the host saw: the reader of specs/Program.antt is the model's, which looks at no frame.
use mathlib.Core.Path.{◌≡◌, refl, sym, ap, ◌∙◌}
use mathlib.Core.List.{List, [], ◌∷◌, map}
use Prim.Native.Nat.{ℕ}
use Rattle.wire.specs.Frame.{Frame}
use Rattle.model.specs.State.{Making, Sensing}
use Rattle.model.specs.Interface.{Event, Event.opening, Event.delivery, Event.cut, Event.clock, Event.answer, Event.status, Event.setting, Outcome.more_needed}
use Rattle.model.specs.Interface.{Outcome.skipped, Outcome.held, Outcome.ignored, Outcome.error_sent, Outcome.closed, Outcome.acted, Reply, Reply.refused}
use Rattle.model.specs.Interface.{Reply.done, Reply.withheld, Reply.took}
use Rattle.model.specs.Step.{Line}
use Rattle.model.specs.Demand3.{seen}
use Rattle.model.specs.Happening.{Happening, happened}
use Rattle.model.specs.Watching.{senses, sensing_in, served_by}
use Rattle.server.specs.Program.{sensing_seen}

-- what goes by the happening, but not by what was heard in its frames
by_reply_lem : {A : Type 0} (k : Happening → A) → ((c : ℕ) (bs : List ℕ) (room j n : ℕ) (fs : List Frame) →
    k (happened (delivery c bs room) (took error_sent j n) fs) ≡ k (happened (delivery c bs room) (took error_sent j n) []))
    → ((c : ℕ) (bs : List ℕ) (room j n : ℕ) (fs : List Frame) → k (happened (delivery c bs room) (took closed j n) fs) ≡ k (happened (delivery c bs room) (took closed j n) []))
    → ((c : ℕ) (bs : List ℕ) (room j n : ℕ) (fs : List Frame) → k (happened (delivery c bs room) (took acted j n) fs) ≡ k (happened (delivery c bs room) (took acted j n) []))
    → (e : Event) (y : Reply) (fs : List Frame) → k (happened e y fs) ≡ k (happened e y [])
by_reply_lem k x c a e (refused n) fs = refl
by_reply_lem k x c a e done fs = refl
by_reply_lem k x c a e withheld fs = refl
by_reply_lem k x c a (opening i) (took o j n) fs = refl
by_reply_lem k x c a (delivery i bs room) (took more_needed j n) fs = refl
by_reply_lem k x c a (delivery i bs room) (took skipped j n) fs = refl
by_reply_lem k x c a (delivery i bs room) (took held j n) fs = refl
by_reply_lem k x c a (delivery i bs room) (took ignored j n) fs = refl
by_reply_lem k x c a (delivery i bs room) (took error_sent j n) fs = x i bs room j n fs
by_reply_lem k x c a (delivery i bs room) (took closed j n) fs = c i bs room j n fs
by_reply_lem k x c a (delivery i bs room) (took acted j n) fs = a i bs room j n fs
by_reply_lem k x c a (cut i room) (took o j n) fs = refl
by_reply_lem k x c a (clock t room) (took o j n) fs = refl
by_reply_lem k x c a (answer s p end sh room) (took o j n) fs = refl
by_reply_lem k x c a (status b) (took o j n) fs = refl
by_reply_lem k x c a (setting s) (took o j n) fs = refl

senses_same : (e : Event) (y : Reply) (fs : List Frame) (n : ℕ) (s : Sensing) → senses (happened e y fs) n s ≡ senses (happened e y []) n s
senses_same e y fs n s = by_reply_lem (λ (h : Happening). senses h n s) (λ c bs room j m gs. refl) (λ c bs room j m gs. refl) (λ c bs room j m gs. refl) e y fs

pub served_same : (v : Making) (es : List Event) (e : Event) (y : Reply) (fs : List Frame) → served_by v es (happened e y fs) ≡ served_by v es (happened e y [])
served_same v es = by_reply_lem (served_by v es) (λ c bs room j m gs. refl) (λ c bs room j m gs. refl) (λ c bs room j m gs. refl)

pub sensing_lines : (ls : List Line) (n : ℕ) (s : Sensing) → sensing_seen (map seen ls) n s ≡ sensing_in ls n s
unfolding sensing_in
sensing_lines [] n s = refl
sensing_lines (l ∷ ls) n s = sensing_lines ls n _ ∙ ap (sensing_in ls n) (sym (senses_same l.event l.reply l.frames n s))
