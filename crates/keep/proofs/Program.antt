-- The journal about the program, proved: a run of kept calls leaves an open journal that holds what the host was told is written.
use mathlib.Core.Path.{◌≡◌, refl, sym, ap, ap₂, subst, ◌∙◌}
use mathlib.Core.Bool.{Bool, true, false, true≢false, ◌&&◌, not, cond}
use mathlib.Core.List.{List, [], ◌∷◌, ◌++◌, map, append_assoc, append-nil}
use Prim.Native.Nat.{ℕ, ◌+◌, ◌^◌, ◌≤◌, ◌<◌}
use native.Mathlib.Omega.{arith}
use lib.Dec.{eqb, leb}
use lib.ListN.{length, take, length-take}
use lib.Seq.{take-take}
use borrow.Author.Tests.{leb-true, leb-false, ltb-false, eqb-true, ne_eqb}
use Rattle.wire.specs.Field.{Bytes, field}
use Rattle.wire.specs.Frame.{bytes_of}
use Rattle.wire.proofs.ReadFrames.{bytes_row}
use Rattle.readings.specs.Watch.{Limits.off, Limits.above, Limits.outside}
use Rattle.model.specs.State.{Making, Server, fresh}
use Rattle.model.specs.Interface.{Event, Event.opening, Event.delivery, Event.cut, Event.clock, Event.answer, Event.status, Event.setting, Setting.watch}
use Rattle.model.specs.Interface.{Setting.patterns, Reply, Reply.refused, Reply.done, Reply.withheld, Reply.took}
use Rattle.model.specs.Refusals.{causes, refusal}
use Rattle.model.specs.Sizes.{clock_limit, connection_limit, payload_limit}
use Rattle.model.specs.Step.{Line, Result, log, step, final}
use Rattle.model.specs.Demand3.{Seen, seen, seen_events}
use Rattle.model.specs.Possible.{Possible, AllPossible}
use Rattle.model.specs.SentFits.{LinesFit}
use Rattle.claims.proofs.Fits.{uncaused}
use Rattle.claims.proofs.Refused.{never_planned}
use Rattle.claims.proofs.SentFits.{sent_fits}
use Rattle.state.specs.View.{Memory, view}
use Rattle.server.specs.Events.{Fresh}
use Rattle.server.specs.Program.{Run, Run.stop as no_more}
use Rattle.server.proofs.Program.{program}
use Rattle.journal.specs.Journal.{body_limit, entry, closed_journal, Fine, forward, backward}
use Rattle.journal.specs.Bytes.{yes_is, no_is, append_bytes, field_bytes}
use Rattle.journal.proofs.Forward.{forward_closed}
use Rattle.journal.proofs.Backward.{backward_closed}
use Rattle.journal.proofs.Prefix.{stopped}
use Rattle.journal.specs.Holds.{Holds, new_holds, append_holds, append_left_out, IsClosed, close_closes}
use Rattle.journal.proofs.Holds.{read_open}
use Rattle.journal.specs.Writer.{Done, Told as Outcome, place, left, new_of, append_of, close_of, kept_number}
use Rattle.std.specs.Prelude.{Ok, Err}
use Rattle.journal.specs.declared.Unwritten.TheVariants.{NoRoom}
use Rattle.record.specs.Layout as layout
use Rattle.record.specs.Layout.{encode, row}
use Rattle.record.proofs.RoundTrip.{read_again}
use Rattle.keep.specs.Lists.{cons_bytes, row_bytes, list_row}
use Rattle.verifier.specs.Judge.{accepted as passed, judge}
use Rattle.verifier.proofs.VerdictLaws.{writer_accepted}
use Rattle.judging.specs.Kept.{recorded, AllKeepable, is_refused, bodies_of}
use Rattle.judging.specs.Replay.{deed, verdict}
use Rattle.judging.proofs.Calls.{step_taken, no_cause, rights}
use Rattle.judging.proofs.Fine.{all_possible, kept_fine}
use Rattle.keep.specs.Keeping.{looked, refused_by, entry_unless, keeping, Keeps}
use Rattle.keep.specs.Parts.{refused_by_lem, body_within, payload_within}
use Rattle.keep.specs.Program.{Told, seens, body, accepted, entry_of, bodies, accepted_of, AllWritten, Typed, AllTyped, EachRead, Begun}
use Rattle.keep.specs.Program.{Begun.begun, KeptRun, KeptRun.stop, KeptRun.call, ClosedAs, KeptProgram}

plainly : {m m' : Memory} {w b w' b' : List ℕ} {ts : List Told} → KeptRun m w b ts m' w' b' → Run m (seens ts) m'
plainly stop = no_more
plainly (call {m'' = m''} {ts = ts} s k e q c h g) = c m'' (seens ts) (plainly g)

-- an event of bytes that is not refused has a body of bytes
encode_bytes : (d : Server) (e : Event) → Possible e → refusal d e ≡ 0 → Bytes (layout.encode (recorded e))
unfolding encode
encode_bytes d (opening c) p z = cons_bytes 0 (field 4 c) (omega arith) (field_bytes 4 c)
encode_bytes d (delivery c bs room) p z =
    cons_bytes 1 (field 4 c ++ layout.row bs) (omega arith) (append_bytes (field 4 c) (layout.row bs) (field_bytes 4 c) (row_bytes bs p))
encode_bytes d (cut c room) p z = cons_bytes 2 (field 4 c) (omega arith) (field_bytes 4 c)
encode_bytes d (clock t room) p z = cons_bytes 3 (field 8 t) (omega arith) (field_bytes 8 t)
encode_bytes d (answer n x end sh room) p z =
    let y : List ℕ = layout.row x ++ layout.row sh in
    let z : List ℕ = field 1 (cond end 1 0) ++ y in
    cons_bytes 4 (field 4 n ++ z) (omega arith)
    (append_bytes (field 4 n) z (field_bytes 4 n)
    (append_bytes (field 1 (cond end 1 0)) y (field_bytes 1 (cond end 1 0)) (append_bytes (layout.row x) (layout.row sh) (row_bytes x p.0) (row_bytes sh p.1))))
encode_bytes d (status b) p z = cons_bytes 5 (field 1 b) (omega arith) (field_bytes 1 b)
encode_bytes d (setting (watch n off)) p z = cons_bytes 6 (field 4 n) (omega arith) (field_bytes 4 n)
encode_bytes d (setting (watch n (above b))) p z = cons_bytes 7 (field 4 n ++ field 4 b) (omega arith) (append_bytes (field 4 n) (field 4 b) (field_bytes 4 n) (field_bytes 4 b))
encode_bytes d (setting (watch n (outside b c))) p z =
    cons_bytes 8 (field 4 n ++ (field 4 b ++ field 4 c)) (omega arith)
    (append_bytes (field 4 n) (field 4 b ++ field 4 c) (field_bytes 4 n) (append_bytes (field 4 b) (field 4 c) (field_bytes 4 b) (field_bytes 4 c)))
encode_bytes d (setting (patterns s)) p z = cons_bytes 9 (layout.row s) (omega arith) (row_bytes s (list_row d s z).bytes)

-- one call: what the host saw is the definition's
module _ (m m' : Memory) (s : Seen) (g : Run m (s ∷ []) m') where
  d : Server
  d = view m

  x : List ℕ
  x = bytes_of (step d s.event).frames

  X : List ℕ
  X = layout.body_bytes (recorded s.event) x

  line : Seen
  line = record { event = s.event; reply = (step d s.event).reply; output = x }

  abbrev first : List Seen → Seen
  first [] = line
  first (t ∷ ts) = t

  seen_is : s ≡ line
  unfolding log line x d
  seen_is = ap first (program.by_definition m m' (s ∷ []) g).seen_is

  told : accepted s ≡ eqb (refusal d s.event) 0
  unfolding line d
  told = ap (λ (y : Seen). eqb (refused_by y.reply) 0) seen_is ∙ ap (λ (n : ℕ). eqb n 0) (refused_by_lem d s.event)

  output_is : s.output ≡ x
  unfolding line
  output_is = ap (λ (y : Seen). y.output) seen_is

  body_is : body s ≡ X
  unfolding X
  body_is = ap (λ (y : List ℕ). layout.body_bytes (recorded s.event) y) output_is

  not_refused : accepted s ≡ true → refusal (view m) s.event ≡ 0
  unfolding d
  not_refused a = eqb-true (refusal (view m) s.event) 0 (sym told ∙ a)

  -- so the entry is the one that the host was told of
  module _ (w b w' b' : List ℕ) (k : ℕ) (e : Event) (q : s.event ≡ looked e) (h : Keeps (keeping (view m) s.event w b) k w' b')
      (bs : List (List ℕ)) (o : Holds bs w b) (p : Possible s.event) (f : Bytes s.output) where
    fine : refusal d s.event ≡ 0 → Fine X
    unfolding X x d
    fine z =
        record {
          bytes = append_bytes (layout.encode (recorded s.event)) (bytes_of (step (view m) s.event).frames) (encode_bytes (view m) s.event p z) (subst Bytes output_is f);
          within = subst (λ (y : Event). length (layout.body_bytes (recorded y) (bytes_of (step (view m) y).frames)) ≤ body_limit) (sym q) (body_within m e (ap (refusal (view m)) (sym q) ∙ z));
        }

    t : Told
    t = record { seen = s; kept = k }

    -- from what the definition does to the entry that the host was told of
    ended : (D : Done) (c : Bool) → entry_unless (refusal d s.event) w b X ≡ D → (accepted s && eqb (kept_number D.answer) 0) ≡ c
        → Holds (bs ++ cond c (X ∷ []) []) D.words D.book → Holds (bs ++ entry_of t) w' b'
    unfolding X x d t
    ended D c a n r =
        let z : k ≡ kept_number D.answer = h.answer ∙ ap (λ (y : Done). kept_number y.answer) a in
        let v : w' ≡ D.words = h.words_are ∙ ap (λ (y : Done). y.words) a in
        let u : b' ≡ D.book = h.book_is ∙ ap (λ (y : Done). y.book) a in
        let y : List ℕ = layout.body_bytes (recorded s.event) (bytes_of (step (view m) s.event).frames) in
        let l : entry_of (record { seen = s; kept = k }) ≡ cond c (y ∷ []) [] =
        ap₂ (λ (i : ℕ) (u : List ℕ). cond (accepted s && eqb i 0) (u ∷ []) []) z body_is ∙ ap (λ (i : Bool). cond i (y ∷ []) []) n in
        subst (λ (y : List ℕ). Holds (bs ++ entry_of (record { seen = s; kept = k })) y b') (sym v)
        (subst (λ (y : List ℕ). Holds (bs ++ entry_of (record { seen = s; kept = k })) D.words y) (sym u)
        (subst (λ (y : List (List ℕ)). Holds (bs ++ y) D.words D.book) (sym l) r))

    fits : eqb (refusal d s.event) 0 ≡ true → (c : Bool) → leb (length (entry X) + 12) (left b (place w)) ≡ c → Holds (bs ++ entry_of t) w' b'
    unfolding entry_unless
    fits a true i =
        let y = append_holds bs w b X o (fine (eqb-true _ _ a)) (leb-true _ _ i) in
        ended (append_of w b X) true (yes_is _ _ a) (ap₂ (λ (u v : Bool). u && v) (told ∙ a) (ap (λ (v : Outcome). eqb (kept_number v) 0) y.0)) y.1
    fits a false i =
        let y = append_left_out bs w b X o (leb-false _ _ i) in
        ended (record { answer = Err NoRoom; words = w; book = b }) false (yes_is _ _ a ∙ y) (ap (λ (u : Bool). u && false) (told ∙ a)) (subst (λ (y : List (List ℕ)). Holds y w b) (sym (append-nil bs)) o)

    one : (c : Bool) → eqb (refusal d s.event) 0 ≡ c → Holds (bs ++ entry_of t) w' b'
    unfolding entry_unless
    one true a = fits a (leb (length (entry X) + 12) (left b (place w))) refl
    one false a =
        ended (record { answer = Ok tt; words = w; book = b }) false (no_is _ _ a) (ap (λ (u : Bool). u && true) (told ∙ a)) (subst (λ (y : List (List ℕ)). Holds y w b) (sym (append-nil bs)) o)

    pub one_call : Holds (bs ++ entry_of (record { seen = s; kept = k })) w' b'
    unfolding t
    one_call = one (eqb (refusal d s.event) 0) refl

abbrev AllBytes : List Seen → Type 0
AllBytes [] = Unit {0}
AllBytes (s ∷ ss) = Bytes s.output × AllBytes ss

lines_bytes : (ls : List Line) → LinesFit ls → AllBytes (map seen ls)
lines_bytes [] f = tt
lines_bytes (l ∷ ls) f = (bytes_row l.frames f.0, lines_bytes ls f.1)

holds : {m m' : Memory} {w b w' b' : List ℕ} {ts : List Told} → KeptRun m w b ts m' w' b' → (bs : List (List ℕ)) → Holds bs w b → AllPossible (seen_events (seens ts)) → AllBytes (seens ts)
    → Holds (bs ++ bodies ts) w' b'
holds (stop {words = w} {book = b}) bs o p f = subst (λ (y : List (List ℕ)). Holds y w b) (sym (append-nil bs)) o
holds (call {m = m} {m' = m'} {words = w} {book = b} {words' = w'} {book' = b'} {words'' = w''} {book'' = b''} {ts = ts} s k e q c h g) bs o p f =
    subst (λ (y : List (List ℕ)). Holds y w'' b'') (append_assoc bs (entry_of (record { seen = s; kept = k })) (bodies ts))
    (holds g (bs ++ entry_of (record { seen = s; kept = k })) (one_call m m' s (c m' [] no_more) w b w' b' k e q h bs o p.0 f.0) p.1 f.1)

-- an event that is not refused has numbers that fit their places, so its body is read again as that event with those frames
event_fits : (d : Server) (e : Event) → Possible (looked e) → Typed (looked e) → refusal d (looked e) ≡ 0 → layout.Fits (recorded (looked e))
unfolding refusal causes
event_fits d (opening c) p y z = let l : c < connection_limit = leb-false connection_limit c (uncaused (causes d (opening c)) refl z).0 in omega arith
event_fits d (delivery c bs room) p y z =
    let l : c < connection_limit = leb-false connection_limit c (uncaused (causes d (looked (delivery c bs room))) refl z).1.0 in
    (omega arith, record { bytes = p; within = simp length-take (omega arith) })
event_fits d (cut c room) p y z = let l : c < connection_limit = leb-false connection_limit c (uncaused (causes d (cut c room)) refl z).1.0 in omega arith
event_fits d (clock t room) p y z = let l : t ≤ clock_limit = ltb-false clock_limit t (uncaused (causes d (clock t room)) refl z).1.0 in omega arith
event_fits d (answer n x end sh room) p y z =
    let l : length x ≤ payload_limit = payload_within d n x end (take layout.most_shown sh) room z in
    (y, bit end, record { bytes = p.0; within = omega arith }, record { bytes = p.1; within = simp length-take (omega arith) })
  where
    bit : (b : Bool) → cond b 1 0 < 2
    bit true = omega arith
    bit false = omega arith
event_fits d (status b) p y z = omega (arith, p)
event_fits d (setting (watch n off)) p y z = y
event_fits d (setting (watch n (above b))) p y z = y
event_fits d (setting (watch n (outside b c))) p y z = y
event_fits d (setting (patterns s)) p y z = let t = list_row d s z in record { bytes = t.bytes; within = omega (arith, t.within) }

read_one : (m m' : Memory) (s : Seen) (e : Event) → s.event ≡ looked e → Run m (s ∷ []) m' → Possible s.event → Typed s.event → accepted s ≡ true
    → layout.decode (body s) ≡ layout.found (recorded s.event) s.output
read_one m m' s e q g p y a =
    read_again (recorded s.event)
    (subst (λ (x : Event). layout.Fits (recorded x)) (sym q)
    (event_fits (view m) e (subst Possible q p) (subst Typed q y) (ap (refusal (view m)) (sym q) ∙ not_refused m m' s g a)))
    s.output

reads : {m m' : Memory} {w b w' b' : List ℕ} {ts : List Told} → KeptRun m w b ts m' w' b' → AllPossible (seen_events (seens ts)) → AllTyped (seen_events (seens ts)) → EachRead ts
reads stop p y = tt
reads (call {m = m} {m' = m'} s k e q c h g) p y = (read_one m m' s e q (c m' [] no_more) p.0 y.0, reads g p.1 y.1)

-- a book that was begun holds nothing
begins : {w b : List ℕ} → Begun w b → Holds [] w b
unfolding new_of
begins (begun before w b k z h) = go (leb 12 (left b 0)) refl
  where
    go : (c : Bool) → leb 12 (left b 0) ≡ c → Holds [] w b
    go true i =
        let y = (new_holds before b (leb-true _ _ i)).1 in
        subst (λ (u : List ℕ). Holds [] u b) (sym h.words_are) (subst (λ (u : List ℕ). Holds [] (new_of before b).words u) (sym h.book_is) y)
    go false i = absurd (omega (arith, sym z ∙ h.answer ∙ ap (λ (u : Done). kept_number u.answer) (no_is {A = Done} _ _ i)))

module _ (v : Making) (m m' : Memory) (w b w' b' : List ℕ) (ts : List Told) (l : v.vendor < 2 ^ 16) (n : Fresh v m) (s : Begun w b) (g : KeptRun m w b ts m' w' b')
    (p : AllPossible (seen_events (seens ts))) where
  all_hold : Holds (bodies ts) w' b'
  all_hold =
      let e : seens ts ≡ map seen (log (fresh v) (seen_events (seens ts))) =
      (program.by_definition m m' (seens ts) (plainly g)).seen_is ∙ ap (λ (y : Server). map seen (log y (seen_events (seens ts)))) n.shows in
      holds g [] (begins s) p (subst AllBytes (sym e) (lines_bytes (log (fresh v) (seen_events (seens ts))) (sent_fits.any_run v (seen_events (seens ts)) l p)))

  found : forward (take (place w') b') ≡ bodies ts
  found = read_open (bodies ts) w' b' all_hold

  module _ (k : ℕ) (w'' b'' : List ℕ) (h : Keeps (close_of w' b') k w'' b'') where
    is_closed : IsClosed (bodies ts) (close_of w' b')
    is_closed = close_closes (bodies ts) w' b' all_hold

    shut : (k ≡ 0) × ClosedAs (bodies ts) w'' b''
    shut =
        let c = is_closed in
        let j : List ℕ = closed_journal (bodies ts) in
        let i : place w'' ≡ length j = ap place (h.words_are ∙ c.says) in
        let a : take (length j) b'' ≡ j = ap (take (length j)) h.book_is ∙ c.all in
        let x : take (place w'') b'' ≡ j = ap (λ (y : ℕ). take y b'') i ∙ a in (
          h.answer ∙ ap kept_number c.answer,
          record {
            whole = x;
            forwards = ap forward x ∙ forward_closed (bodies ts) c.fine;
            backwards = ap backward x ∙ backward_closed (bodies ts) c.fine;
            torn = λ y u. ap forward (sym (take-take y (length j) b'' (omega (arith, i))) ∙ ap (take y) a) ∙ stopped (bodies ts) y c.fine;
          },
        )

until : (ts : List Told) → AllWritten ts → bodies ts ≡ accepted_of (seens ts)
until [] a = refl
until (t ∷ ts) a = ap₂ (λ (x y : List (List ℕ)). x ++ y) (go (accepted t.seen) (eqb t.kept 0) (ap (λ (y : ℕ). eqb y 0) a.0)) (until ts a.1)
  where
    go : (c y : Bool) → y ≡ true → cond (c && y) (body t.seen ∷ []) [] ≡ cond c (body t.seen ∷ []) []
    go true y e = rw e
    go false y e = refl

-- a call that has no cause to be refused is not
taken_not : (d : Server) (e : Event) → refusal d e ≡ 0 → is_refused (step d e).reply ≡ false
taken_not d e z = by (step d e).reply refl
  where
    by : (y : Reply) → (step d e).reply ≡ y → is_refused y ≡ false
    by (refused n) p = absurd (never_planned d e n (ap (λ (x : Result). x.reply) (sym (step_taken d e z)) ∙ p))
    by done p = refl
    by withheld p = refl
    by (took o k n) p = refl

-- the bodies of the accepted events are those that a verifier expects
accepted_lines : (es : List Event) (d : Server) → accepted_of (map seen (log d es)) ≡ bodies_of (log d es)
unfolding log bodies_of
accepted_lines [] d = refl
accepted_lines (e ∷ es) d = by (is_refused (step d e).reply) refl (accepted_lines es (step d e).server)
  where
    rest : List Line
    rest = log (step d e).server es

    this : List ℕ
    this = layout.body_bytes (recorded e) (bytes_of (step d e).frames)

    is : (b : Bool) → is_refused (step d e).reply ≡ b → eqb (refused_by (step d e).reply) 0 ≡ not b
    is true q = ne_eqb _ _ (λ z. true≢false (sym q ∙ taken_not d e (sym (refused_by_lem d e) ∙ z)))
    is false q = ap (λ (n : ℕ). eqb n 0) (refused_by_lem d e ∙ no_cause d e q)

    by : (b : Bool) → is_refused (step d e).reply ≡ b → accepted_of (map seen rest) ≡ bodies_of rest
        → cond (eqb (refused_by (step d e).reply) 0) (this ∷ []) [] ++ accepted_of (map seen rest) ≡ cond (is_refused (step d e).reply) (bodies_of rest) (this ∷ bodies_of rest)
    by true q ih = rw (is true q, q) ih
    by false q ih = rw (is false q, q) (ap (λ (x : List (List ℕ)). this ∷ x) ih)

module _ (v : Making) (m m' : Memory) (w b w' b' : List ℕ) (ts : List Told) (l : v.vendor < 2 ^ 16) (n : Fresh v m) (s : Begun w b) (g : KeptRun m w b ts m' w' b')
    (p : AllKeepable (seen_events (seens ts))) (a : AllWritten ts) where
  kept_are : bodies ts ≡ bodies_of (log (fresh v) (seen_events (seens ts)))
  kept_are =
      let e : seens ts ≡ map seen (log (fresh v) (seen_events (seens ts))) =
      (program.by_definition m m' (seens ts) (plainly g)).seen_is ∙ ap (λ (y : Server). map seen (log y (seen_events (seens ts)))) n.shows in
      until ts a ∙ ap accepted_of e ∙ accepted_lines (seen_events (seens ts)) (fresh v)

  passes : (k : ℕ) (w'' b'' : List ℕ) → Keeps (close_of w' b') k w'' b'' → verdict v (take (place w'') b'') ≡ passed (length (accepted_of (seens ts)))
  unfolding verdict
  passes k w'' b'' h =
      let es : List Event = seen_events (seens ts) in
      let bs : List (List ℕ) = bodies_of (log (fresh v) es) in
      let o : Holds bs w' b' = subst (λ (x : List (List ℕ)). Holds x w' b') kept_are (all_hold v m m' w b w' b' ts l n s g (all_possible es p)) in
      ap (judge deed (fresh v)) (λ i. take (place (h.words_are i)) (h.book_is i))
      ∙ writer_accepted deed (fresh v) bs (final (fresh v) es) w' b' o (rights es (fresh v) p (kept_fine v es l p))
      ∙ ap (λ (x : List (List ℕ)). passed (length x)) (sym kept_are ∙ until ts a)

pub kept_program : KeptProgram Fresh Begun KeptRun (λ w b k w' b'. Keeps (close_of w b) k w' b')
kept_program =
    record {
      plainly = λ m m' w b w' b' ts g. plainly g;
      entries = λ v m m' w b w' b' ts l n s g p. found v m m' w b w' b' ts l n s g p;
      until_no_room = until;
      read = λ m m' w b w' b' ts g p y. reads g p y;
      closed = λ v m m' w b w' b' w'' b'' ts k l n s g p h. shut v m m' w b w' b' ts l n s g p k w'' b'' h;
      judged = λ v m m' w b w' b' w'' b'' ts k l n s g p a h. passes v m m' w b w' b' ts l n s g p a k w'' b'' h;
    }
