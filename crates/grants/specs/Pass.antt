-- The grant pass, walked in the lent memory: those that go on waiting stand at the front of the queue, those still to be looked at from
-- place j on, and the pass over these ends where the whole pass does. Assumes nothing.
use Rattle.std.specs.Prelude.{◌≡◌, Bool, length, get_or, take, drop}
use Rattle.std.proofs.Common.{sym, ap₂, ◌∙◌, arith, drop_of_length-le, take_all}
use Rattle.std.proofs.Math.Path.{ap}
use Rattle.std.proofs.Math.Bool.{true, false}
use mathlib.Core.List.{List, ◌∷◌, ◌++◌, append-nil}
use Prim.Native.Nat.{ℕ, ◌+◌, ◌≤◌, ◌<◌}
use Rattle.wire.specs.Frame.{frame_bytes}
use Rattle.wire.specs.Splice.{splice}
use Rattle.model.specs.State.{Entry, Waiting, Server}
use Rattle.model.specs.Locks.{Passed, tell, may_grant, give_at, grant, after, put, pass_over, grant_pass}
use Rattle.state.specs.Change.{on_entry}
use Rattle.queue.specs.Queue.{no_request, on_waiting, count_is}
use Rattle.queue.specs.Requests.{count_of, string_at}
use Rattle.state.specs.Tidy.{Tidy}
use Rattle.state.specs.View.{Memory, memory, locks_of, view}
use Rattle.holding.specs.Outcome.{Met, Spot, spot, ends, ends_nil, ends_cons, lock_answer_frame, met}
use Rattle.grants.specs.Granting.{grant_upd}
use Rattle.holding.specs.Waiting.{swapped, next, moved_on, kept_more}

-- slot i has got what its request asked for, and its frame is written
pub record Granted (i : ℕ) (w w' s s' out out' : List ℕ) (at r : ℕ) : Type 0 where
  pub server : view (memory w' s') ≡ on_entry (view (memory w s)) i (give_at (locks_of w s).clock (string_at w s i))
  pub buffer : out' ≡ splice out at (frame_bytes (lock_answer_frame (locks_of w s).entries i 1))
  pub place : r ≡ at + 17
  pub tidy : Tidy (memory w s) → Tidy (memory w' s')

-- where a pass ends
pub record Stand : Type 0 where
  pub server : Server
  pub spot : Spot

abbrev pub stand : Server → List Entry → List Waiting → Spot → Stand
stand d es ws p = record { server = record { locks = record { clock = d.locks.clock; entries = es; waiting = ws }; rest = d.rest }; spot = p }

-- with requests kept at the front, behind the pass over the others
abbrev pub behind : Server → List Waiting → Passed → List ℕ → ℕ → Stand
behind d front r out at = stand d r.entries (front ++ r.waiting) (ends r.answers out at)

-- the pass from place j on, with k requests kept at the front
unfoldable pub passed : ℕ → ℕ → Server → List ℕ → ℕ → Stand
passed j k d out at = behind d (take k d.locks.waiting) (pass_over d.locks.clock (drop j d.locks.waiting) d.locks.entries) out at

module _ (d : Server) (j k : ℕ) (r : Waiting) (x : ℕ) (out : List ℕ) (at : ℕ)
    (h : j < length d.locks.waiting) (e : get_or d.locks.waiting j no_request ≡ r) (y : r.slot ≡ x) where
  over : (b : Bool) → may_grant d.locks.entries x r.string ≡ b
      → pass_over d.locks.clock (drop j d.locks.waiting) d.locks.entries
      ≡ put b r d.locks.entries (pass_over d.locks.clock (drop (j + 1) d.locks.waiting) (after d.locks.clock b r d.locks.entries))
  unfolding pass_over
  over b q =
      let es : List Entry = d.locks.entries in
      ap (λ (l : List Waiting). pass_over d.locks.clock l es) (next d.locks.waiting j r h e)
      ∙ ap (λ (b : Bool). put b r es (pass_over d.locks.clock (drop (j + 1) d.locks.waiting) (after d.locks.clock b r es))) (ap (λ (n : ℕ). may_grant es n r.string) y ∙ q)

  -- a request that may not be granted goes on waiting
  pub pass_keep : (d' : Server) → d' ≡ on_waiting d (λ (ws : List Waiting). swapped ws j k) → k ≤ j
      → may_grant d.locks.entries x r.string ≡ false → passed j k d out at ≡ passed (j + 1) (k + 1) d' out at
  unfolding passed
  pass_keep d' m l q =
      let ws : List Waiting = d.locks.waiting in
      let es : List Entry = d.locks.entries in
      let t : Passed = pass_over d.locks.clock (drop (j + 1) ws) es in
      ap (λ (p : Passed). behind d (take k ws) p out at) (over false q)
      ∙ ap (λ (l : List Waiting). stand d t.entries l (ends t.answers out at)) (sym (kept_more ws j r h e k l t.waiting))
      ∙ ap (λ (l : List Waiting). behind d (take (k + 1) (swapped ws j k)) (pass_over d.locks.clock l es) out at) (sym (moved_on ws j r h e k l))
      ∙ ap (λ (d : Server). passed (j + 1) (k + 1) d out at) (sym m)

  -- a request that may be granted is, and is told
  pub pass_grant : (d' : Server) → d' ≡ on_entry d x (give_at d.locks.clock r.string) → may_grant d.locks.entries x r.string ≡ true → at + 17 ≤ length out
      → passed j k d out at ≡ passed (j + 1) k d' (splice out at (frame_bytes (lock_answer_frame d.locks.entries x 1))) (at + 17)
  unfolding passed
  pass_grant d' m q f =
      let ws : List Waiting = d.locks.waiting in
      let es : List Entry = d.locks.entries in
      let t : ℕ → Passed = (λ n. pass_over d.locks.clock (drop (j + 1) ws) (grant d.locks.clock es n r.string)) in
      let o : List ℕ = splice out at (frame_bytes (lock_answer_frame es x 1)) in
      ap (λ (p : Passed). behind d (take k ws) p out at) (over true q)
      ∙ ap (λ (n : ℕ). stand d (t n).entries (take k ws ++ (t n).waiting) (ends (tell es n 1 true ∷ (t n).answers) out at)) y
      ∙ ap (stand d (t x).entries (take k ws ++ (t x).waiting)) (ends_cons (tell es x 1 true) (t x).answers out at f)
      ∙ ap (λ (l : List Entry). behind d (take k ws) (pass_over d.locks.clock (drop (j + 1) ws) l) o (at + 17)) (grant_upd d.locks.clock es x r.string)
      ∙ ap (λ (d : Server). passed (j + 1) k d o (at + 17)) (sym m)

-- behind the last
pub pass_end : (d d' : Server) (j k : ℕ) (out : List ℕ) (at : ℕ) → length d.locks.waiting ≤ j → d' ≡ on_waiting d (take k)
    → passed j k d out at ≡ record { server = d'; spot = spot out at }
unfolding passed pass_over
pass_end d d' j k out at h m =
    ap (λ (l : List Waiting). behind d (take k d.locks.waiting) (pass_over d.locks.clock l d.locks.entries) out at) (drop_of_length-le d.locks.waiting h)
    ∙ ap₂ (stand d d.locks.entries) (append-nil (take k d.locks.waiting)) (ends_nil out at)
    ∙ ap (λ (x : Server). record { server = x; spot = spot out at }) (sym m)

-- where nobody waits nothing is done
pub pass_none : (d : Server) (out : List ℕ) (at : ℕ) → length d.locks.waiting ≡ 0 → passed 0 0 d out at ≡ record { server = d; spot = spot out at }
pass_none d out at h = pass_end d d 0 0 out at (omega arith) (ap (λ (l : List Waiting). on_waiting d (λ (ws : List Waiting). l)) (sym (take_all 0 d.locks.waiting (omega arith))))

-- the whole pass
pub pass_met : (m m' : Memory) (out out' : List ℕ) (at r : ℕ) → passed 0 0 (view m) out at ≡ record { server = view m'; spot = spot out' r } → (Tidy m → Tidy m')
    → Met (grant_pass (view m).locks) m m' out out' at r
unfolding passed grant_pass
pass_met m m' out out' at r e t =
    met (grant_pass (view m).locks) m m' out out' at r
    (sym (ap (λ (x : Stand). x.server.locks) e))
    (sym (ap (λ (x : Stand). x.server.rest) e))
    (sym (ap (λ (x : Stand). x.spot) e))
    t

-- as many wait as before
pub count_granted : (i : ℕ) (w w' s s' out out' : List ℕ) (at r : ℕ) → Granted i w w' s s' out out' at r → count_of w' ≡ count_of w
count_granted i w w' s s' out out' at r g = count_is w' s' ∙ ap (λ (d : Server). length d.locks.waiting) g.server ∙ sym (count_is w s)
