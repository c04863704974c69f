-- Every statement of specs/Statements.antt, proved.
use mathlib.Core.Path.{◌≡◌, refl, sym, ap, subst, ◌∙◌}
use mathlib.Core.List.{List, [], ◌∷◌, ◌++◌, append_assoc, append-nil}
use Prim.Native.Nat.{ℕ, suc, ◌+◌, ◌-◌, ◌^◌, ◌≤◌, ◌<◌, min}
use native.Mathlib.Omega.{arith}
use lib.ListN.{length, length-append}
use borrow.Author.Tests.{le-leb}
use Rattle.wire.specs.Field.{Bytes}
use Rattle.wire.specs.Frame.{bytes_of}
use Rattle.journal.specs.Journal.{entry, entries, closed_journal, last_offset, closing, reach, AllFine}
use Rattle.journal.specs.Bytes.{yes_is}
use Rattle.journal.specs.Entry.{length_closing}
use Rattle.journal.specs.Backward.{entries_append, entries_last}
use Rattle.journal.specs.Writer.{Done, new_of, close_of, offered, kept, bytes_written}
use Rattle.journal.specs.Holds.{Holds}
use Rattle.journal.specs.Run.{open_run}
use Rattle.record.specs.Layout.{body_bytes}
use Rattle.verifier.specs.Judge.{accepted, wrong, judge}
use Rattle.verifier.proofs.Pieces.{pieces_judge}
use Rattle.verifier.specs.Naming.{after}
use Rattle.verifier.proofs.VerdictLaws.{accepted_is, closed_accepted, writer_accepted, wrong_is, stopped_is}
use Rattle.model.specs.State.{Making, Server, fresh}
use Rattle.model.specs.Interface.{Event}
use Rattle.model.specs.Step.{step, final, log}
use Rattle.claims.proofs.Agreement.{agreement}
use Rattle.claims.proofs.Isolation.{isolated}
use Rattle.claims.proofs.IsolationRun.{isolation_run}
use Rattle.claims.proofs.Tied.{tie}
use Rattle.judging.specs.Replay.{deed, verdict}
use Rattle.judging.specs.Kept.{recorded, AllKeepable, body_of, bodies_of, NoneRefused, Good}
use Rattle.judging.specs.Statements.{Vouched, Statements}
use Rattle.judging.proofs.Calls.{rights, replayed}
use Rattle.judging.proofs.Fine.{kept_fine}

-- as many entries as calls, where none was refused
one_each : (es : List Event) (d : Server) → NoneRefused (log d es) → length (bodies_of (log d es)) ≡ length es
unfolding log bodies_of
one_each [] d n = refl
one_each (e ∷ es) d n = rw n.0 (ap suc (one_each es (step d e).server n.1))

accepted_good : (v : Making) (book : List ℕ) (n : ℕ) → Bytes book → verdict v book ≡ accepted n → Good v book n
unfolding verdict
accepted_good v book n y e =
    let a = accepted_is deed (fresh v) book n y e in
    let r = replayed a.right in
    record {
      calls = r.calls;
      keepable = r.keepable;
      none_refused = r.none_refused;
      is = a.is ∙ ap closed_journal r.is;
      count = a.count ∙ r.count;
      near = subst (λ (x : List (List ℕ)). last_offset x < 256 ^ 4) r.is a.near;
      few = subst (λ (k : ℕ). k < 256 ^ 4) r.count a.few;
    }

good_accepted : (v : Making) (book : List ℕ) (n : ℕ) → v.vendor < 2 ^ 16 → Good v book n → verdict v book ≡ accepted n
unfolding verdict
good_accepted v book n h g =
    let bs : List (List ℕ) = bodies_of (log (fresh v) g.calls) in
    let c : length bs ≡ length g.calls = one_each g.calls (fresh v) g.none_refused in
    ap (judge deed (fresh v)) g.is
    ∙ closed_accepted deed (fresh v) bs (final (fresh v) g.calls) (rights g.calls (fresh v) g.keepable (kept_fine v g.calls h g.keepable)) g.near
    (subst (λ (k : ℕ). k < 256 ^ 4) (sym c) g.few)
    ∙ ap accepted (c ∙ sym g.count)

-- every one fits: nothing is left out
none_left_out : (bs there : List (List ℕ)) (size : ℕ) → length (entries (there ++ bs)) + 12 ≤ size → kept size there bs ≡ there ++ bs
unfolding kept
none_left_out [] there size h = sym (append-nil there)
none_left_out (b ∷ bs) there size h =
    let a : there ++ b ∷ bs ≡ (there ++ b ∷ []) ++ bs = sym (append_assoc there (b ∷ []) bs) in
    let g : length (entries ((there ++ b ∷ []) ++ bs)) + 12 ≤ size = subst (λ (x : List (List ℕ)). length (entries x) + 12 ≤ size) a h in
    let l : length (entries ((there ++ b ∷ []) ++ bs)) ≡ length (entries there) + length (entry b) + length (entries bs) =
    ap length (entries_append (there ++ b ∷ []) bs) ∙ length-append (entries (there ++ b ∷ [])) (entries bs)
    ∙ ap (λ (k : ℕ). k + length (entries bs)) (ap length (entries_last there b) ∙ length-append (entries there) (entry b)) in
    ap (λ (x : List (List ℕ)). kept size x bs) (yes_is _ _ (le-leb (length (entry b) + 12) (size - length (entries there)) (omega (arith, l))))
    ∙ none_left_out bs (there ++ b ∷ []) size g
    ∙ sym a

own : (v : Making) (es : List Event) (words book : List ℕ) → v.vendor < 2 ^ 16 → AllKeepable es
    → length (closed_journal (bodies_of (log (fresh v) es))) ≤ min (length book) reach
    → (let bs : List (List ℕ) = bodies_of (log (fresh v) es) in let d = offered (new_of words book) bs in
    verdict v (bytes_written (close_of d.words d.book)) ≡ accepted (length bs))
unfolding verdict closed_journal
own v es words book h k room =
    let bs : List (List ℕ) = bodies_of (log (fresh v) es) in
    let f : AllFine bs = kept_fine v es h k in
    let n : length (entries bs) + 12 ≤ min (length book) reach = omega (arith, room, length-append (entries bs) (closing (last_offset bs) (length bs)), length_closing (last_offset bs) (length bs)) in
    let d : Done = offered (new_of words book) bs in
    let o : Holds (kept (min (length book) reach) [] bs) d.words d.book = open_run words book bs (omega (arith, n)) f in
    let p : Holds bs d.words d.book = subst (λ (x : List (List ℕ)). Holds x d.words d.book) (none_left_out bs [] (min (length book) reach) n) o in
    writer_accepted deed (fresh v) bs (final (fresh v) es) d.words d.book p (rights es (fresh v) k f)

-- an entry's place among the others
entry_there : (before : List Event) (d : Server) (e : Event) (after : List Event) → NoneRefused (log d (before ++ e ∷ after))
    → (bodies_of (log d (before ++ e ∷ after)) ≡ bodies_of (log d before) ++ body_bytes (recorded e) (bytes_of (step (final d before) e).frames)
    ∷ bodies_of (log (step (final d before) e).server after))
    × (length (bodies_of (log d before)) ≡ length before)
unfolding log final bodies_of
entry_there [] d e after n = (rw n.0 refl, refl)
entry_there (x ∷ before) d e after n =
    let r = entry_there before (step d x).server e after n.1 in
    rw n.0 (ap (λ (t : List (List ℕ)). body_of (record { event = x; reply = (step d x).reply; frames = (step d x).frames }) ∷ t) r.0, ap suc r.1)

vouched : (v : Making) (calls : List Event) → NoneRefused (log (fresh v) calls) → Vouched v calls
vouched v calls n = record {
  entry = λ before e after q. let r = entry_there before (fresh v) e after (subst (λ (x : List Event). NoneRefused (log (fresh v) x)) q n) in record { place = r.0; number = r.1 };
  tie = λ before m x end sh room after q r. tie v before m x end sh room r;
  locks = λ before after q. agreement v before;
  isolated = λ before after q. isolated v before;
  isolation = λ before after j q. isolation_run v before j;
}

pub statements : Statements
unfolding verdict
statements = record {
  accepted_exactly = λ v book n h y. (accepted_good v book n y, good_accepted v book n h);
  named_exactly = λ v book n f y. (
    wrong_is deed (fresh v) book n f y,
    λ w. ap (judge deed (fresh v)) (sym w.all)
        ∙ stopped_is deed (fresh v) w.bodies w.server w.rest (wrong n f) w.right w.stopped,
  );
  own_books = own;
  however_cut = λ v pieces. pieces_judge deed (fresh v) pieces;
  strangers = λ v book n h y e. let g = accepted_good v book n y e in record { good = g; vouched = vouched v g.calls g.none_refused };
}
