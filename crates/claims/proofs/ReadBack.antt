-- What the host saw is read back: each output is a row of frames that fit.
use mathlib.Core.Path.{◌≡◌, refl, sym, ap, ap₂, ◌∙◌}
use mathlib.Core.List.{List, [], ◌∷◌, ◌++◌, map}
use Rattle.wire.specs.Frame.{Frame}
use Rattle.wire.proofs.ReadFrames.{read_frames_lem}
use Rattle.model.specs.Lists.{keep}
use Rattle.model.specs.State.{Server, fresh}
use Rattle.model.specs.Step.{Line, log}
use Rattle.model.specs.Agreement.{is_lock, lock_sent}
use Rattle.model.specs.Demand3.{seen, seen_events}
use Rattle.model.specs.SentFits.{LinesFit}
use Rattle.model.specs.ReadBack.{frames_seen, lock_seen, ReadsBack}
use Rattle.claims.proofs.Demand3.{demand3}
use Rattle.claims.proofs.SentFits.{sent_fits}

frames_seen_lem : (ls : List Line) → LinesFit ls → map frames_seen (map seen ls) ≡ map (λ (l : Line). l.frames) ls
frames_seen_lem [] f = refl
frames_seen_lem (l ∷ ls) f = ap₂ (λ (x : List Frame) (xs : List (List Frame)). x ∷ xs) (read_frames_lem l.frames f.0) (frames_seen_lem ls f.1)

locks_seen : (ls : List Line) → LinesFit ls → lock_seen (map seen ls) ≡ lock_sent ls
unfolding lock_sent
locks_seen [] f = refl
locks_seen (l ∷ ls) f = ap₂ (λ (x xs : List Frame). keep is_lock x ++ xs) (read_frames_lem l.frames f.0) (locks_seen ls f.1)

pub reads_back : {M : Type 0} (view : M → Server) → ReadsBack view
reads_back view =
    record {
      any_calls = λ v m {m'} {ss} l f c q.
          let d = demand3 view v m f c in
          let ls = log (fresh v) (seen_events ss) in
          let fit = sent_fits.any_run v (seen_events ss) l q in
          record {
            frames = ap (map frames_seen) d.seen_is ∙ frames_seen_lem ls fit;
            lock_answers = d.lock_answers ∙ sym (ap lock_seen d.seen_is ∙ locks_seen ls fit);
          };
    }
