-- hislip_patterns: what it ensures, and how a ruling gives it: a refusal with the first bad pattern and the place in it, or the list kept.
-- Assumes nothing.
use Rattle.std.specs.Prelude.{◌≡◌, length}
use Rattle.std.proofs.Math.Path.{refl, sym, ap}
use Rattle.std.proofs.Common.{◌∙◌}
use mathlib.Core.List.{List, []}
use Prim.Native.Nat.{ℕ, suc, ◌≤◌}
use Rattle.wire.specs.Frame.{bytes_of}
use Rattle.wire.specs.Splice.{splice_nil}
use Rattle.commands.specs.Lists.{Judged, taken, bad_pattern_at, list_too_long, lines_of}
use Rattle.commands.proofs.Lines.{listed_room}
use Rattle.commands.specs.Rulings.{Ruled, judged, ruled_judged}
use Rattle.model.specs.Sizes.{list_limit}
use Rattle.model.specs.State.{Server, Rest, Allowed.only, with_allowed}
use Rattle.model.specs.Interface.{Event.setting, Setting.patterns, Reply.refused, Reply.done}
use Rattle.model.specs.Refusals.{causes, refusal}
use Rattle.model.specs.Locks.{change}
use Rattle.model.specs.Sensing.{setting_sensings}
use Rattle.model.specs.Listing.{ListedAnswer, listed_answer, pattern_of, place_of}
use Rattle.model.specs.Step.{Result, finish, plan, answered, step}
use Rattle.model.specs.Post.{Post}
use Rattle.state.specs.Tidy.{Tidy}
use Rattle.state.specs.View.{Memory, view}
use Rattle.state.specs.Change.{on_rest}
use Rattle.server.specs.declared.listing.Listed.{Listed}
use Rattle.server.specs.Events.{refused_post, taken_post}

abbrev pub listed_numbers : Listed → ListedAnswer
listed_numbers r = record { refusal = r.refusal; pattern = r.pattern; place = r.place }

pub record SetsList (text : List ℕ) (r : Listed) (m m' : Memory) : Type 0 where
  pub numbers : listed_numbers r ≡ listed_answer (step (view m) (setting (patterns text))).reply (judged (lines_of text))
  pub post : Post view (setting (patterns text)) m m' [] [] (step (view m) (setting (patterns text))).reply (length (bytes_of (step (view m) (setting (patterns text))).frames))
  pub tidy : Tidy m → Tidy m'

-- a list that is taken has room
pub room_for : (text : List ℕ) → Ruled (lines_of text) taken → length text ≤ list_limit
room_for text h = listed_room text ((h taken).1 refl)

-- by the ruling
module _ (text : List ℕ) (r : Listed) (m : Memory) where
  turned_away_lem : (n : ℕ) (j : Judged) → refusal (view m) (setting (patterns text)) ≡ suc n → judged (lines_of text) ≡ j
      → listed_numbers r ≡ record { refusal = suc n; pattern = pattern_of j; place = place_of j } → SetsList text r m m
  unfolding step answered
  turned_away_lem n j q e f =
      let x : step (view m) (setting (patterns text)) ≡ record { server = view m; reply = refused (suc n); frames = [] } = ap (λ (k : ℕ). answered k (view m) (setting (patterns text))) q in
      record {
        numbers = f ∙ ap (λ (k : Judged). record { refusal = suc n; pattern = pattern_of k; place = place_of k }) (sym e)
            ∙ ap (λ (y : Result). listed_answer y.reply (judged (lines_of text))) (sym x);
        post = refused_post (setting (patterns text)) n m [] x;
        tidy = λ t. t;
      }

  pub too_many : Ruled (lines_of text) list_too_long → listed_numbers r ≡ record { refusal = 12; pattern = 0; place = 0 } → SetsList text r m m
  unfolding refusal causes
  too_many h f = let e : judged (lines_of text) ≡ list_too_long = sym (ruled_judged (lines_of text) list_too_long h) in turned_away_lem 11 list_too_long (rw e) e f

  pub bad_pattern_lem : (k i : ℕ) → Ruled (lines_of text) (bad_pattern_at k i) → listed_numbers r ≡ record { refusal = 11; pattern = k; place = i } → SetsList text r m m
  unfolding refusal causes
  bad_pattern_lem k i h f = let e : judged (lines_of text) ≡ bad_pattern_at k i = sym (ruled_judged (lines_of text) (bad_pattern_at k i) h) in turned_away_lem 10 (bad_pattern_at k i) (rw e) e f

  set_now : (d : Server) → finish d (plan d (setting (patterns text))) ≡ record { server = on_rest d (λ (x : Rest). with_allowed x (only text)); reply = done; frames = [] }
  unfolding finish plan change setting_sensings
  set_now d = refl

  pub taken_list : (m' : Memory) → Ruled (lines_of text) taken → view m' ≡ on_rest (view m) (λ (x : Rest). with_allowed x (only text)) → (Tidy m → Tidy m')
      → listed_numbers r ≡ record { refusal = 0; pattern = 0; place = 0 } → SetsList text r m m'
  unfolding refusal causes step answered bytes_of
  taken_list m' h v t f =
      let e : judged (lines_of text) ≡ taken = sym (ruled_judged (lines_of text) taken h) in
      let q : refusal (view m) (setting (patterns text)) ≡ 0 = rw e in
      let x : step (view m) (setting (patterns text)) ≡ record { server = on_rest (view m) (λ (x : Rest). with_allowed x (only text)); reply = done; frames = [] } =
      ap (λ (k : ℕ). answered k (view m) (setting (patterns text))) q ∙ set_now (view m) in
      record {
        numbers = f ∙ ap (λ (y : Result). listed_answer y.reply (judged (lines_of text))) (sym x);
        post = taken_post (setting (patterns text)) _ m m' [] [] x refl v (sym (splice_nil [] 0));
        tidy = t;
      }
