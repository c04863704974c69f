-- The frames of a call that answer waiting requests, whoever's they are, are just these, by the table of locality: 0 to each that a reading or a device
-- clear takes, then 1 to each that is granted.
use mathlib.Core.Path.{◌≡◌, refl, sym, ap, ap₂, ◌∙◌}
use mathlib.Core.Bool.{Bool, true, false, not, ◌&&◌, ◌||◌, cond, true≢false}
use mathlib.Core.List.{List, [], ◌∷◌, ◌++◌, map}
use Prim.Native.Nat.{ℕ}
use native.Mathlib.Omega.{arith}
use lib.Dec.{eqb}
use lib.ListN.{drop}
use borrow.Author.Tests.{eqb-true, eq-eqb}
use Rattle.wire.specs.Class.{one_of}
use Rattle.wire.specs.Frame.{Frame, frame_of}
use Rattle.readings.specs.Request.{request_code}
use Rattle.model.specs.Lists.{all, keep}
use Rattle.model.specs.State.{Server, Entry, Waiting, Standing, Standing.no_release, Standing.release_of, Kind.exclusive_lock, Kind.shared_lock, at, slot_of_number, exchange_at, sensing_at, Sensing}
use Rattle.model.specs.Step.{Result}
use Rattle.model.specs.Happening.{Heard, Heard.silence, Heard.with_code, Action, Happening, Happening.unmoved, Happening.connected, Happening.disconnected}
use Rattle.model.specs.Happening.{Happening.skipped_over, Happening.errored, Happening.message_acted, Happening.clock_read, Happening.status_set}
use Rattle.model.specs.Happening.{Happening.setting_made, Happening.answer_sent, Happening.answer_withheld, heard}
use Rattle.model.specs.LocalityRows.{kind_of, slot_acted, is_code, code_where, ended_with, interrupted_by, requests_of, reached_by, looks_after, trips_by}
use Rattle.model.specs.LocalityReplies.{preferred, number_sent, plain_to, ReplyTo, reply_in, replies, said_to, fatal_to, pair_to, said_first, direct, answered_first, waiting_answer, service_to}
use Rattle.model.specs.Locality.{Local}
use Rattle.model.specs.AnsweredOnce.{lock_only}
use Rattle.model.specs.GrantsSeen.{of_clear, to_waiting}
use Rattle.model.proofs.Basics.{and_l, and_r}

pub lock_append : (xs ys : List Frame) → lock_only (xs ++ ys) ≡ lock_only xs ++ lock_only ys
lock_append [] ys = refl
lock_append (f ∷ xs) ys = go (eqb f.message.kind 5) (lock_append xs ys)
  where
    go : (b : Bool) → lock_only (xs ++ ys) ≡ lock_only xs ++ lock_only ys → cond b (f ∷ lock_only (xs ++ ys)) (lock_only (xs ++ ys)) ≡ cond b (f ∷ lock_only xs) (lock_only xs) ++ lock_only ys
    go true e = ap (λ zs. f ∷ zs) e
    go false e = e

pub lock_to : (k : ℕ) (es : List Entry) (ws : List Waiting) → lock_only (map (waiting_answer k es) ws) ≡ map (waiting_answer k es) ws
lock_to k es [] = refl
lock_to k es (w ∷ ws) = ap (λ fs. waiting_answer k es w ∷ fs) (lock_to k es ws)

-- what is no lock answer
lock_said : (q : Heard) (t : ℕ) (cs : List ℕ) → eqb t 5 ≡ false → lock_only (said_to q t cs) ≡ []
lock_said silence t cs e = refl
lock_said (with_code k) t [] e = refl
lock_said (with_code k) t (c ∷ cs) e = rw e (lock_said (with_code k) t cs e)

lock_in : (rs : List ReplyTo) (t : ℕ) → all (λ r. not (eqb r.reply.message.kind 5)) rs ≡ true → lock_only (reply_in rs t) ≡ []
lock_in [] t a = refl
lock_in (r ∷ rs) t a = go (eqb t r.type) (eqb r.reply.message.kind 5) refl (lock_in rs t (and_r (not (eqb r.reply.message.kind 5)) _ a))
    (and_l (not (eqb r.reply.message.kind 5)) _ a)
  where
    go : (b x : Bool) → eqb r.reply.message.kind 5 ≡ x → lock_only (reply_in rs t) ≡ [] → not x ≡ true → lock_only (cond b (r.reply ∷ []) (reply_in rs t)) ≡ []
    go true true e h n = absurd (true≢false (sym n))
    go true false e h n = rw e
    go false x e h n = h

pub lock_own : (q : Heard) (c : ℕ) → lock_only (said_to q 5 (c ∷ [])) ≡ said_to q 5 (c ∷ [])
lock_own silence c = refl
lock_own (with_code k) c = refl

module _ (d : Server) where
  abbrev es : List Entry
  es = d.locks.entries

  abbrev ws : List Waiting
  ws = d.locks.waiting

  -- the requests that a reading or a device clear takes
  abbrev pub taken : Happening → List Waiting
  taken (clock_read t) = keep (reached_by t) ws
  taken (message_acted a) = cond (eqb (kind_of a) 19) (keep (requests_of (slot_acted es a)) ws) []
  taken unmoved = []
  taken (connected c) = []
  taken (disconnected c k) = []
  taken (skipped_over c k) = []
  taken (errored c h k) = []
  taken (status_set b) = []
  taken (setting_made s) = []
  taken (answer_sent n p end) = []
  taken (answer_withheld n m) = []

  lock_first : (a : Action) → lock_only (said_first d (message_acted a)) ≡ []
  lock_first a = go (interrupted_by (exchange_at d.rest (slot_acted es a)) a)
    where
      go : (b : Bool) → lock_only (cond b (pair_to (at es (slot_acted es a)) a.message.param) []) ≡ []
      go true = refl
      go false = refl

  lock_direct : (a : Action) → lock_only (direct d (message_acted a)) ≡ []
  lock_direct a = lock_in (replies d a) (kind_of a) refl

  -- a message that acted
  module _ (a : Action) (fs : List Frame) (due : List Entry) (gs : List Waiting) (told : a.told ≡ heard 5 fs)
      (frames : fs ≡ said_first d (message_acted a) ++ (answered_first d (message_acted a) ++ (direct d (message_acted a) ++ map (waiting_answer 1 due) gs)))
      (none : looks_after es (message_acted a) ≡ false → gs ≡ []) where
    abbrev pub G : List Frame
    G = map (waiting_answer 1 due) gs

    abbrev t₀ : ℕ
    t₀ = kind_of a

    abbrev e₀ : Entry
    e₀ = at es (slot_acted es a)

    abbrev pub zeros : List Frame
    zeros = map (waiting_answer 0 es) (keep (requests_of (slot_acted es a)) ws)

    abbrev pub ended : Heard
    ended = ended_with a e₀.standing

    locks_are : lock_only fs ≡ lock_only (answered_first d (message_acted a)) ++ G
    locks_are =
        ap lock_only frames
        ∙ lock_append (said_first d (message_acted a)) _
        ∙ ap₂ ◌++◌ (lock_first a) (lock_append (answered_first d (message_acted a)) _
        ∙ ap (λ zs. lock_only (answered_first d (message_acted a)) ++ zs) (lock_append (direct d (message_acted a)) G ∙ ap₂ ◌++◌ (lock_direct a) (lock_to 1 due gs)))

    -- what comes before the grants, by the two tests
    abbrev pub first_by : Bool → Bool → List Frame
    first_by x y = cond x (said_to a.told 5 (a.connection ∷ [])) (cond y zeros [] ++ said_to ended 5 (e₀.asynchronous ∷ []))

    pub first_is : (x y : Bool) → eqb t₀ 4 ≡ x → eqb t₀ 19 ≡ y → lock_only fs ≡ lock_only (first_by x y) ++ G
    first_is x y ex ey = locks_are ∙ ap (λ zs. lock_only zs ++ G) (ap₂ first_by ex ey)

    -- the goal, by the three tests
    abbrev Says : Bool → Bool → Type 0
    Says x y = cond x (drop 1 (lock_only fs)) (cond y (of_clear fs) (lock_only fs)) ≡ map (waiting_answer 0 es) (cond y (keep (requests_of (slot_acted es a)) ws) []) ++ G

    -- nobody is granted where no release is answered
    ungranted : eqb t₀ 4 ≡ false → ended ≡ silence → G ≡ []
    ungranted q e = ap (map (waiting_answer 1 due)) (none (rw q (ap (λ (r : Heard). is_code 1 r || is_code 2 r) e)))

    -- AsyncLock: its own answer first
    own_answer : (x : Heard) → a.told ≡ x → fs ≡ said_to x 5 (a.connection ∷ []) ++ G → drop 1 (said_to x 5 (a.connection ∷ []) ++ G) ≡ G
    own_answer (with_code k) e f = refl
    own_answer silence e f = go gs (sym e ∙ told ∙ ap (heard 5) f)
      where
        go : (gs : List Waiting) → silence ≡ heard 5 (map (waiting_answer 1 due) gs) → drop 1 (map (waiting_answer 1 due) gs) ≡ map (waiting_answer 1 due) gs
        go [] h = refl
        go (w ∷ gs) h = absurd (let z : ◌≡◌ {A = ℕ} 0 1 = cc in omega arith)

    -- and a request that is not answered sends nothing
    pub unanswered : t₀ ≡ 4 → a.told ≡ silence → fs ≡ []
    unanswered q e = go gs (sym e ∙ told ∙ ap (heard 5) f) f
      where
        f : fs ≡ map (waiting_answer 1 due) gs
        f = rw (q, e) at frames

        go : (gs : List Waiting) → silence ≡ heard 5 (map (waiting_answer 1 due) gs) → fs ≡ map (waiting_answer 1 due) gs → fs ≡ []
        go [] h f = f
        go (w ∷ gs) h f = absurd (let z : ◌≡◌ {A = ℕ} 0 1 = cc in omega arith)

    by_lock : t₀ ≡ 4 → Says true false
    by_lock q =
        ap (drop 1) (first_is true false (eq-eqb _ _ q) (rw q) ∙ ap (λ zs. zs ++ G) (lock_own a.told a.connection))
        ∙ own_answer a.told refl (rw q at frames)

    -- Data, DataEND, Trigger: the release's answer first
    ends_first : (x : Heard) → (x ≡ silence → G ≡ []) → drop 1 (said_to x 5 (e₀.asynchronous ∷ []) ++ G) ≡ G
    ends_first (with_code k) n = refl
    ends_first silence n = ap (drop 1) (n refl) ∙ sym (n refl)

    by_command : eqb t₀ 4 ≡ false → eqb t₀ 19 ≡ false → Says true false
    by_command q r =
        ap (drop 1) (first_is false false q r ∙ ap (λ zs. zs ++ G) (lock_own ended e₀.asynchronous))
        ∙ ends_first ended (ungranted q)

    -- AsyncDeviceClear
    append : (xs ys zs : List Frame) → (xs ++ ys) ++ zs ≡ xs ++ (ys ++ zs)
    append [] ys zs = refl
    append (x ∷ xs) ys zs = ap (λ us. x ∷ us) (append xs ys zs)

    clear_zeros : (vs : List Waiting) (ys : List Frame) → of_clear (map (waiting_answer 0 es) vs ++ ys) ≡ map (waiting_answer 0 es) vs ++ of_clear ys
    clear_zeros [] ys = refl
    clear_zeros (v ∷ vs) ys = ap (λ us. waiting_answer 0 es v ∷ us) (clear_zeros vs ys)

    clear_ended : (s : Standing) (x : ℕ) (ys : List Frame) → of_clear (said_to (code_where (λ n. true) s) 5 (x ∷ []) ++ ys) ≡ of_clear ys
    clear_ended no_release x ys = refl
    clear_ended (release_of exclusive_lock n) x ys = refl
    clear_ended (release_of shared_lock n) x ys = refl

    by_clear : t₀ ≡ 19 → Says false true
    by_clear q =
        let whole : fs ≡ (zeros ++ said_to (code_where (λ n. true) e₀.standing) 5 (e₀.asynchronous ∷ [])) ++ (plain_to a.connection 23 (preferred d) 0 ∷ G) = frames ∙ parts in
        ap of_clear (whole ∙ append zeros _ _)
        ∙ clear_zeros (keep (requests_of (slot_acted es a)) ws) _
        ∙ ap (λ us. zeros ++ us) (clear_ended e₀.standing e₀.asynchronous _ ∙ lock_to 1 due gs)
      where
        quiet : said_first d (message_acted a) ≡ []
        quiet = ap (λ (b : Bool). cond
            (b && (not (exchange_at d.rest (slot_acted es a)).overlap && cond (eqb a.message.code 1)
            (not (exchange_at d.rest (slot_acted es a)).rmt_expected) (exchange_at d.rest (slot_acted es a)).rmt_expected))
            (pair_to (at es (slot_acted es a)) a.message.param) []) (ap (one_of (6 ∷ 7 ∷ 12 ∷ [])) q)

        over : ended_with a e₀.standing ≡ code_where (λ n. true) e₀.standing
        over = ap (λ (t : ℕ). cond (one_of (6 ∷ 7 ∷ 12 ∷ []) t) (code_where (λ n. eqb n a.message.param) e₀.standing) (cond (eqb t 19) (code_where (λ n. true) e₀.standing) silence)) q

        before : answered_first d (message_acted a) ≡ zeros ++ said_to (code_where (λ n. true) e₀.standing) 5 (e₀.asynchronous ∷ [])
        before = ap₂ first_by (ap (λ (t : ℕ). eqb t 4) q) (ap (λ (t : ℕ). eqb t 19) q) ∙ ap (λ (x : Heard). zeros ++ said_to x 5 (e₀.asynchronous ∷ [])) over

        ack : direct d (message_acted a) ≡ plain_to a.connection 23 (preferred d) 0 ∷ []
        ack = ap (reply_in (replies d a)) q

        parts : said_first d (message_acted a) ++ (answered_first d (message_acted a) ++ (direct d (message_acted a) ++ G)) ≡
            (zeros ++ said_to (code_where (λ n. true) e₀.standing) 5 (e₀.asynchronous ∷ [])) ++ (plain_to a.connection 23 (preferred d) 0 ∷ G)
        parts = ap₂ ◌++◌ quiet (ap₂ ◌++◌ before (ap (λ zs. zs ++ G) ack))

    -- any other
    by_other : eqb t₀ 4 ≡ false → one_of (6 ∷ 7 ∷ 12 ∷ []) t₀ ≡ false → eqb t₀ 19 ≡ false → Says false false
    by_other q o r =
        let e : ended ≡ silence = rw (o, r) in
        first_is false false q r ∙ ap (λ (x : Heard). lock_only (said_to x 5 (e₀.asynchronous ∷ [])) ++ G) e

    pub acted_frames : to_waiting (message_acted a) fs ≡ map (waiting_answer 0 es) (taken (message_acted a)) ++ G
    acted_frames = go (eqb t₀ 4) (eqb t₀ 19) (one_of (6 ∷ 7 ∷ 12 ∷ []) t₀) refl refl refl
      where
        go : (x y z : Bool) → eqb t₀ 4 ≡ x → eqb t₀ 19 ≡ y → one_of (6 ∷ 7 ∷ 12 ∷ []) t₀ ≡ z → Says (eqb t₀ 4 || one_of (6 ∷ 7 ∷ 12 ∷ []) t₀) (eqb t₀ 19)
        go true y z ex ey ez =
            let q : t₀ ≡ 4 = eqb-true _ _ ex in
            let r : eqb t₀ 19 ≡ false = ap (λ (t : ℕ). eqb t 19) q in
            rw (ex, r) (by_lock q)
        go false true true ex ey ez = absurd (let q : t₀ ≡ 19 = eqb-true _ _ ey in true≢false (sym ez ∙ ap (one_of (6 ∷ 7 ∷ 12 ∷ [])) q))
        go false false true ex ey ez = rw (ex, ey, ez) (by_command ex ey)
        go false true false ex ey ez = rw (ex, ey, ez) (by_clear (eqb-true _ _ ey))
        go false false false ex ey ez = rw (ex, ey, ez) (by_other ex ez ey)

-- any call
pub record Told (d : Server) (h : Happening) (fs : List Frame) : Type 0 where
  pub own : (a : Action) → h ≡ message_acted a → a.told ≡ heard 5 fs

pub frames_told : (d : Server) (h : Happening) (r : Result) (l : Local d h r) → Told d h r.frames →
    to_waiting h r.frames ≡ map (waiting_answer 0 d.locks.entries) (taken d h) ++ map (waiting_answer 1 l.due) l.granted
frames_told d unmoved r l t = ap lock_only l.frames ∙ lock_to 1 l.due l.granted
frames_told d (connected c) r l t = ap lock_only l.frames ∙ lock_to 1 l.due l.granted
frames_told d (disconnected c k) r l t = ap lock_only l.frames ∙ lock_append (said_to k 2 (fatal_to d.locks.entries c)) _
    ∙ ap₂ ◌++◌ (lock_said k 2 (fatal_to d.locks.entries c) refl) (lock_to 1 l.due l.granted)
frames_told d (skipped_over c k) r l t = ap lock_only l.frames ∙ lock_to 1 l.due l.granted
frames_told d (errored c h k) r l t = ap lock_only l.frames ∙ lock_append (said_to k 3 (c ∷ [])) _ ∙ ap₂ ◌++◌ (lock_said k 3 (c ∷ []) refl) (lock_to 1 l.due l.granted)
frames_told d (message_acted a) r l t = acted_frames d a r.frames l.due l.granted (t.own a refl) l.frames nobody
  where
    nobody : looks_after d.locks.entries (message_acted a) ≡ false → l.granted ≡ []
    nobody e = (rw e at l.waiting).2
frames_told d (clock_read u) r l t = ap lock_only l.frames
    ∙ lock_append (map (waiting_answer 0 d.locks.entries) (keep (reached_by u) d.locks.waiting)) _
    ∙ ap₂ ◌++◌ (lock_to 0 d.locks.entries (keep (reached_by u) d.locks.waiting)) (lock_to 1 l.due l.granted)
frames_told d (status_set b) r l t = ap lock_only l.frames ∙ lock_to 1 l.due l.granted
frames_told d (setting_made s) r l t = ap lock_only l.frames ∙ lock_to 1 l.due l.granted
frames_told d (answer_sent n p end) r l t = ap lock_only l.frames ∙ lock_append (f ∷ fs) (map (waiting_answer 1 l.due) l.granted)
    ∙ ap₂ ◌++◌ (go end (lock_only fs) (none-served (not s.tripped && trips_by p s))) (lock_to 1 l.due l.granted)
  where
    f : Frame
    f = frame_of (at d.locks.entries (slot_of_number d.locks.entries n)).synchronous (cond end 7 6) 0 (number_sent (exchange_at d.rest (slot_of_number d.locks.entries n))) p

    s : Sensing
    s = sensing_at d.rest (slot_of_number d.locks.entries n)

    fs : List Frame
    fs = service_to (at d.locks.entries (slot_of_number d.locks.entries n)) s p d.rest.status

    none-served : (t : Bool) → lock_only (cond t (plain_to (at d.locks.entries (slot_of_number d.locks.entries n)).asynchronous 20 (request_code d.rest.status) 0 ∷ []) []) ≡ []
    none-served true = refl
    none-served false = refl

    go : (b : Bool) (gs : List Frame) → gs ≡ [] → cond (eqb (cond b 7 6) 5) (f ∷ gs) gs ≡ []
    go true gs e = e
    go false gs e = e
frames_told d (answer_withheld n m) r l t = ap lock_only l.frames ∙ lock_to 1 l.due l.granted
