-- Laws of a turn and of the loop over a piece.
use mathlib.Core.Path.{◌≡◌, refl, sym, ap, subst, ◌∙◌}
use mathlib.Core.Bool.{true, true≢false}
use Rattle.std.specs.Option.{is_some}
use mathlib.Core.List.{List, [], ◌∷◌, ◌++◌, append_assoc, append-nil}
use Prim.Native.Nat.{ℕ, ◌+◌, ◌-◌, ◌≤◌, ◌<◌}
use native.Mathlib.Omega.{arith}
use lib.ListN.{length, take, drop, length-append}
use Rattle.record.specs.Layout.{decode}
use Rattle.verifier.specs.Judge.{on, fault, by_event}
use Rattle.verifier.specs.Feed.{Reading, feed}
use Rattle.verifier.specs.Pieces.{feed_append}
use Rattle.verifier.specs.Framing.{fault_of, Fed}
use Rattle.verifier.specs.Standing.{wanted_of, reading_of, Sound, entry_long, stays}
use Rattle.verifier.proofs.StandingLaws.{turn_more, turn_fault, turn_wrong, turn_pass, framing_named, event_named}
use Rattle.verifier.specs.declared.Fault.{Fault}
use Rattle.verifier.specs.declared.Fault.TheVariants.{Own}
use Rattle.verifier.specs.declared.Progress.{Progress}
use Rattle.verifier.specs.declared.Progress.TheVariants.{More, Whole}
use Rattle.verifier.specs.declared.Standing.{Standing}
use Rattle.std.specs.Prelude.{Option, Some, None, Result, Ok, Err, ◌↔◌}
use Rattle.model.specs.State.{Server}
use Rattle.judging.specs.Replay.{deed}
use Rattle.state.specs.View.{Memory, view}
use Rattle.replay.specs.Replays.{went_of, Judges}
use Rattle.replay.specs.Turn.{Turned}

-- what a turn asks of its arguments
abbrev Ready : Standing → List ℕ → List ℕ → Type 0
Ready r buf bytes = Sound r buf × (r.fault ≡ None) × (0 < length bytes) × (r.have + length bytes ≤ wanted_of (take r.have buf))

-- where no fault of the caller's own stands before, nor afterwards
none_own : (o p : Option Fault) → o ≡ None → p ≡ None → (n : ℕ) → (o ≡ Some (Own n)) ↔ (p ≡ Some (Own n))
none_own o p e f n = (λ z. cc, λ z. cc)

found_own : (o p : Option Fault) (j : Fault) → o ≡ Some j → ((n : ℕ) → j ≡ Own n → ⊥) → p ≡ None → (n : ℕ) → (o ≡ Some (Own n)) ↔ (p ≡ Some (Own n))
found_own o p j e f g n = (λ z. absurd (f n (let q : j ≡ Own n = cc in q)), λ z. cc)

module _ (r s : Standing) (buf new : List ℕ) (k : Result Progress Fault) (m : Memory) where
  pub room_for : (bytes : List ℕ) → Sound r buf → r.fault ≡ None → r.have + length bytes ≤ wanted_of (take r.have buf) → r.have + length bytes ≤ length buf
  room_for bytes o g h = omega (arith, o.fits g, o.room, h)

  pub more_turn : (bytes : List ℕ) → Sound r buf → r.fault ≡ None → 0 < length bytes → r.have + length bytes ≤ wanted_of (take r.have buf) → Fed k r.have bytes buf new
      → k ≡ Ok More → s ≡ record { have = r.have + length bytes; count = r.count; at = r.at; last = r.last; fault = None } → Turned s r buf new m m bytes
  more_turn [] o g p h f z e = absurd (omega (arith, p))
  more_turn (b ∷ x) o g p h f z e =
      let t = turn_more deed r buf new b x k (view m) o g h f s z e in
      record {
        reading = t.0;
        sound = t.1;
        offset = subst (λ (y : Standing). y.at + y.have ≤ r.at + r.have + length (b ∷ x)) (sym e) (omega arith);
        own = none_own s.fault r.fault (ap (λ (y : Standing). y.fault) e) g;
      }

  pub fault_turn : (bytes : List ℕ) → Sound r buf → r.fault ≡ None → 0 < length bytes → r.have + length bytes ≤ wanted_of (take r.have buf) → Fed k r.have bytes buf new
      → (j : Fault) → k ≡ Err j → s ≡ record { have = r.have; count = r.count; at = r.at; last = r.last; fault = Some j } → Turned s r buf new m m bytes
  fault_turn [] o g p h f j w e = absurd (omega (arith, p))
  fault_turn (b ∷ x) o g p h f j w e =
      let t = turn_fault deed r buf new b x k (view m) o g h f s j w e in
      record {
        reading = t.0;
        sound = t.1;
        offset = subst (λ (y : Standing). y.at + y.have ≤ r.at + r.have + length (b ∷ x)) (sym e) (omega arith);
        own = found_own s.fault r.fault j (ap (λ (y : Standing). y.fault) e)
            (λ n q. framing_named (take r.have buf ++ (b ∷ x)) n (sym f.kind ∙ w ∙ ap (λ (y : Fault). Err y) q)) g;
      }

  pub whole_room : (bytes : List ℕ) → Sound r buf → r.fault ≡ None → 0 < length bytes → r.have + length bytes ≤ wanted_of (take r.have buf) → Fed k r.have bytes buf new → k ≡ Ok Whole
      → (12 ≤ r.have + length bytes) × (r.have + length bytes ≤ length new)
  whole_room [] o g p h f z = absurd (omega (arith, p))
  whole_room (b ∷ x) o g p h f z =
      (entry_long deed r buf new b x k (view m) o g h f z, omega (arith, room_for (b ∷ x) o g h, f.size))

  module _ (m' : Memory) (j : Result (Unit {0}) Fault) (e : ℕ) where
    went_fault : (f : Fault) → j ≡ Err f → (d : Server) → went_of j d ≡ fault (fault_of f)
    unfolding went_of
    went_fault f n d = rw n

    went_on : j ≡ Ok tt → (d : Server) → went_of j d ≡ on d
    unfolding went_of
    went_on z d = rw z

    pub wrong_turn : (bytes : List ℕ) → Sound r buf → r.fault ≡ None → 0 < length bytes → r.have + length bytes ≤ wanted_of (take r.have buf) → Fed k r.have bytes buf new
        → k ≡ Ok Whole → e ≡ r.have + length bytes → Judges j m m' (take (e - 8 - 4) (drop 4 new)) → (y : Fault) → j ≡ Err y
        → s ≡ record { have = r.have; count = r.count; at = r.at; last = r.last; fault = Some y } → Turned s r buf new m m' bytes
    wrong_turn [] o g p h f z q w y n i = absurd (omega (arith, p))
    wrong_turn (b ∷ x) o g p h f z q w y n i =
        let v : by_event deed (view m) (decode (take (e - 8 - 4) (drop 4 new))) ≡ fault (fault_of y) = sym w ∙ went_fault y n (view m') in
        let t = turn_wrong deed r buf new b x k (view m) o g h f z s e q y v i (view m') in
        record {
          reading = t.0;
          sound = t.1;
          offset = subst (λ (y : Standing). y.at + y.have ≤ r.at + r.have + length (b ∷ x)) (sym i) (omega arith);
          own = found_own s.fault r.fault y (ap (λ (u : Standing). u.fault) i)
              (λ n q. event_named deed (view m) (decode (take (e - 8 - 4) (drop 4 new))) n (v ∙ ap (λ (u : Fault). fault (fault_of u)) q)) g;
        }

    pub pass_turn : (bytes : List ℕ) → Sound r buf → r.fault ≡ None → 0 < length bytes → r.have + length bytes ≤ wanted_of (take r.have buf) → Fed k r.have bytes buf new
        → k ≡ Ok Whole → e ≡ r.have + length bytes → Judges j m m' (take (e - 8 - 4) (drop 4 new)) → j ≡ Ok tt
        → s ≡ record { have = 0; count = r.count + 1; at = r.at + e; last = r.at; fault = None } → Turned s r buf new m m' bytes
    pass_turn [] o g p h f z q w y i = absurd (omega (arith, p))
    pass_turn (b ∷ x) o g p h f z q w y i =
        let t = turn_pass deed r buf new b x k (view m) o g h f z s e q (view m') (sym w ∙ went_on y (view m')) i in
        record {
          reading = t.0;
          sound = t.1;
          offset = subst (λ (v : Standing). v.at + v.have ≤ r.at + r.have + length (b ∷ x)) (sym i) (omega (arith, q));
          own = none_own s.fault r.fault (ap (λ (v : Standing). v.fault) i) g;
        }

-- Between two turns: bytes of the piece are fed, and the rest follows them.
pub record Feeding (r s : Standing) (buf₀ buf : List ℕ) (m₀ m : Memory) (piece rest : List ℕ) : Type 0 where
  pub past : List ℕ
  pub all : past ++ rest ≡ piece
  pub turned : Turned s r buf₀ buf m₀ m past

pub none_fed : (r : Standing) (buf : List ℕ) (m : Memory) (piece : List ℕ) → Sound r buf → Feeding r r buf buf m m piece piece
unfolding feed
none_fed r buf m piece o = record { past = []; all = refl; turned = record { reading = refl; sound = o; offset = omega arith; own = λ n. (λ z. z, λ z. z) } }

module _ (r s : Standing) (buf₀ buf : List ℕ) (m₀ m : Memory) (piece rest : List ℕ) (t : Feeding r s buf₀ buf m₀ m piece rest) where
  -- a fault: what follows changes nothing
  fed_stays_by : (o : Option Fault) → s.fault ≡ o → is_some o ≡ true → Turned s r buf₀ buf m₀ m piece
  fed_stays_by None n e = absurd (true≢false (sym e))
  fed_stays_by (Some f) n e =
      let l : length (t.past ++ rest) ≡ length t.past + length rest = length-append t.past rest in
      let k : length (t.past ++ rest) ≡ length piece = ap length t.all in
      let o = t.turned.offset in
      record {
        reading =
            sym (stays deed s buf (view m) rest f n)
            ∙ ap (λ (y : Reading Server). feed deed y rest) t.turned.reading
            ∙ sym (feed_append deed (reading_of r buf₀ (view m₀)) t.past rest)
            ∙ ap (feed deed (reading_of r buf₀ (view m₀))) t.all;
        sound = t.turned.sound;
        offset = omega (arith, o, l, k);
        own = t.turned.own;
      }

  pub fed_stays : is_some s.fault ≡ true → Turned s r buf₀ buf m₀ m piece
  fed_stays e = fed_stays_by s.fault refl e

  -- all bytes are fed
  pub all_fed : length rest ≡ 0 → Turned s r buf₀ buf m₀ m piece
  all_fed h = subst (λ (x : List ℕ). Turned s r buf₀ buf m₀ m x) (end rest h ∙ t.all) t.turned
    where
      end : (x : List ℕ) → length x ≡ 0 → t.past ≡ t.past ++ x
      end [] e = sym (append-nil t.past)
      end (y ∷ x) e = absurd (omega (arith, e))

  pub fed_more : (x rest' : List ℕ) → rest ≡ x ++ rest' → (s' : Standing) (buf' : List ℕ) (m' : Memory) → Turned s' s buf buf' m m' x
      → Feeding r s' buf₀ buf' m₀ m' piece rest'
  fed_more x rest' e s' buf' m' u =
      let v = u.offset in
      let o = t.turned.offset in
      let a : length (t.past ++ x) ≡ length t.past + length x = length-append t.past x in
      record {
        past = t.past ++ x;
        all = append_assoc t.past x rest' ∙ ap (λ (y : List ℕ). t.past ++ y) (sym e) ∙ t.all;
        turned = record {
          reading =
              u.reading
              ∙ ap (λ (y : Reading Server). feed deed y x) t.turned.reading
              ∙ sym (feed_append deed (reading_of r buf₀ (view m₀)) t.past x);
          sound = u.sound;
          offset = omega (arith, v, o, a);
          own = λ n. (λ z. (t.turned.own n).0 ((u.own n).0 z), λ z. (u.own n).1 ((t.turned.own n).1 z));
        };
      }
