-- What a call sends by which no answer was sent: messages of a few types, by the table of locality. One law for every test of types that
-- none of these passes.
use mathlib.Core.Path.{◌≡◌, refl, ap, ◌∙◌}
use mathlib.Core.Bool.{Bool, true, false, not, cond, false≢true}
use mathlib.Core.List.{List, [], ◌∷◌, ◌++◌, map}
use Prim.Native.Nat.{ℕ}
use lib.Dec.{eqb}
use Rattle.wire.specs.Class.{one_of}
use Rattle.wire.specs.Frame.{Frame}
use Rattle.model.specs.Lists.{all, keep}
use Rattle.model.specs.State.{Server, Entry, Waiting, at, slot_of_number, exchange_at}
use Rattle.model.specs.Step.{Result}
use Rattle.model.specs.Happening.{Heard, Heard.silence, Heard.with_code, Happening, Happening.unmoved, Happening.connected, Happening.disconnected}
use Rattle.model.specs.Happening.{Happening.skipped_over, Happening.errored, Happening.message_acted, Happening.clock_read, Happening.status_set}
use Rattle.model.specs.Happening.{Happening.setting_made, Happening.answer_sent, Happening.answer_withheld}
use Rattle.model.specs.LocalityRows.{kind_of, slot_acted, ended_with, interrupted_by, requests_of, reached_by}
use Rattle.model.specs.LocalityReplies.{plain_to, ReplyTo, reply_in, replies, said_to, fatal_to, pair_to, said_first, direct, answered_first, waiting_answer}
use Rattle.model.specs.Locality.{Local}
use Rattle.model.proofs.Basics.{and_l, and_r, both}
use Rattle.claims.proofs.ReadOff.{Each, each_of}

-- what no answer was sent by
abbrev pub Mute : Happening → Type 0
Mute unmoved = Unit {0}
Mute (connected c) = Unit {0}
Mute (disconnected c k) = Unit {0}
Mute (skipped_over c k) = Unit {0}
Mute (errored c h k) = Unit {0}
Mute (message_acted a) = Unit {0}
Mute (clock_read t) = Unit {0}
Mute (status_set b) = Unit {0}
Mute (setting_made s) = Unit {0}
Mute (answer_sent n p end) = ⊥
Mute (answer_withheld n m) = Unit {0}

-- replies; FatalError, Error, lock answers, interruptions
abbrev pub sent_types : List ℕ
sent_types = 1 ∷ 18 ∷ 9 ∷ 11 ∷ 16 ∷ 23 ∷ 22 ∷ 25 ∷ 2 ∷ 3 ∷ 5 ∷ 14 ∷ 13 ∷ []

each_not : (q : ℕ → Bool) (ts : List ℕ) → all (λ t. not (q t)) ts ≡ true → Each (λ t. q t ≡ false) ts
each_not q [] e = tt
each_not q (t ∷ ts) e = (not_on (q t) (and_l (not (q t)) _ e), each_not q ts (and_r (not (q t)) _ e))
  where
    not_on : (b : Bool) → not b ≡ true → b ≡ false
    not_on true e = ap not e
    not_on false e = refl

module _ (q : ℕ → Bool) (away : all (λ t. not (q t)) sent_types ≡ true) where
  -- no frame passes
  abbrev pub none : List Frame → Bool
  none fs = all (λ f. not (q f.message.kind)) fs

  is_not : (t : ℕ) → one_of sent_types t ≡ true → not (q t) ≡ true
  is_not t o = ap not (each_of (λ t. q t ≡ false) sent_types (each_not q sent_types away) t o)

  none_append : (xs ys : List Frame) → none xs ≡ true → none ys ≡ true → none (xs ++ ys) ≡ true
  none_append [] ys a b = b
  none_append (x ∷ xs) ys a b = both _ _ (and_l (not (q x.message.kind)) (none xs) a) (none_append xs ys (and_r (not (q x.message.kind)) (none xs) a) b)

  none_to : (k : ℕ) (es : List Entry) (ws : List Waiting) → none (map (waiting_answer k es) ws) ≡ true
  none_to k es [] = refl
  none_to k es (w ∷ ws) = both _ _ (is_not 5 refl) (none_to k es ws)

  none_all : (t k : ℕ) (cs : List ℕ) → one_of sent_types t ≡ true → none (map (λ c. plain_to c t k 0) cs) ≡ true
  none_all t k [] e = refl
  none_all t k (c ∷ cs) e = both _ _ (is_not t e) (none_all t k cs e)

  none_said : (h : Heard) (t : ℕ) (cs : List ℕ) → one_of sent_types t ≡ true → none (said_to h t cs) ≡ true
  none_said silence t cs e = refl
  none_said (with_code k) t cs e = none_all t k cs e

  none_in : (rs : List ReplyTo) (t : ℕ) → all (λ r. not (q r.reply.message.kind)) rs ≡ true → none (reply_in rs t) ≡ true
  none_in [] t a = refl
  none_in (r ∷ rs) t a = go (eqb t r.type) (none_in rs t (and_r (not (q r.reply.message.kind)) _ a))
    where
      go : (b : Bool) → none (reply_in rs t) ≡ true → none (cond b (r.reply ∷ []) (reply_in rs t)) ≡ true
      go true h = both _ _ (and_l (not (q r.reply.message.kind)) _ a) refl
      go false h = h

  none_pair : (e : Entry) (n : ℕ) → none (pair_to e n) ≡ true
  none_pair e n = both _ _ (is_not 14 refl) (both _ _ (is_not 13 refl) refl)

  module _ (d : Server) where
    none_first : (h : Happening) → none (said_first d h) ≡ true
    none_first unmoved = refl
    none_first (connected c) = refl
    none_first (disconnected c k) = refl
    none_first (skipped_over c k) = refl
    none_first (errored c h k) = refl
    none_first (message_acted a) = go (interrupted_by (exchange_at d.rest (slot_acted d.locks.entries a)) a)
      where
        go : (b : Bool) → none (cond b (pair_to (at d.locks.entries (slot_acted d.locks.entries a)) a.message.param) []) ≡ true
        go true = none_pair (at d.locks.entries (slot_acted d.locks.entries a)) a.message.param
        go false = refl
    none_first (clock_read t) = refl
    none_first (status_set b) = refl
    none_first (setting_made s) = refl
    none_first (answer_sent n p end) = refl
    none_first (answer_withheld n m) = refl

    none_answered : (h : Happening) → none (answered_first d h) ≡ true
    none_answered unmoved = refl
    none_answered (connected c) = refl
    none_answered (disconnected c k) = refl
    none_answered (skipped_over c k) = refl
    none_answered (errored c h k) = refl
    none_answered (message_acted a) = go (eqb (kind_of a) 4) (eqb (kind_of a) 19)
      where
        es : List Entry
        es = d.locks.entries

        e : Entry
        e = at es (slot_acted es a)

        zeros : List Frame
        zeros = map (waiting_answer 0 es) (keep (requests_of (slot_acted es a)) d.locks.waiting)

        cleared : (b : Bool) → none (cond b zeros []) ≡ true
        cleared true = none_to 0 es (keep (requests_of (slot_acted es a)) d.locks.waiting)
        cleared false = refl

        go : (x y : Bool) → none (cond x (said_to a.told 5 (a.connection ∷ [])) (cond y zeros [] ++ said_to (ended_with a e.standing) 5 (e.asynchronous ∷ []))) ≡ true
        go true y = none_said a.told 5 (a.connection ∷ []) refl
        go false y = none_append (cond y zeros []) (said_to (ended_with a e.standing) 5 (e.asynchronous ∷ [])) (cleared y) (none_said (ended_with a e.standing) 5 (e.asynchronous ∷ []) refl)
    none_answered (clock_read t) = none_to 0 d.locks.entries (keep (reached_by t) d.locks.waiting)
    none_answered (status_set b) = refl
    none_answered (setting_made s) = refl
    none_answered (answer_sent n p end) = refl
    none_answered (answer_withheld n m) = refl

    none_direct : (h : Happening) → Mute h → none (direct d h) ≡ true
    none_direct unmoved m = refl
    none_direct (connected c) m = refl
    none_direct (disconnected c k) m = none_said k 2 (fatal_to d.locks.entries c) refl
    none_direct (skipped_over c k) m = refl
    none_direct (errored c h k) m = none_said k 3 (c ∷ []) refl
    none_direct (message_acted a) m =
        none_in (replies d a) (kind_of a)
        (both _ _ (is_not 1 refl)
        (both _ _ (is_not 18 refl) (both _ _ (is_not 9 refl)
        (both _ _ (is_not 11 refl) (both _ _ (is_not 16 refl)
        (both _ _ (is_not 23 refl) (both _ _ (is_not 22 refl) (both _ _ (is_not 25 refl) refl))))))))
    none_direct (clock_read t) m = refl
    none_direct (status_set b) m = refl
    none_direct (setting_made s) m = refl
    none_direct (answer_sent n p end) m = absurd m
    none_direct (answer_withheld n k) m = none_pair (at d.locks.entries (slot_of_number d.locks.entries n)) k

    -- so none of a call's
    pub none_sent : (h : Happening) (r : Result) → Local d h r → Mute h → none r.frames ≡ true
    none_sent h r l m =
        ap none l.frames ∙ none_append (said_first d h) _ (none_first h)
        (none_append (answered_first d h) _ (none_answered h) (none_append (direct d h) _ (none_direct h m) (none_to 1 l.due l.granted)))

-- then none is kept
pub none_kept : (p : Frame → Bool) (fs : List Frame) → all (λ f. not (p f)) fs ≡ true → keep p fs ≡ []
none_kept p [] e = refl
none_kept p (f ∷ fs) e = go (p f) (and_l (not (p f)) _ e) (none_kept p fs (and_r (not (p f)) _ e))
  where
    go : (b : Bool) → not b ≡ true → keep p fs ≡ [] → cond b (f ∷ keep p fs) (keep p fs) ≡ []
    go true e h = absurd (false≢true e)
    go false e h = h
