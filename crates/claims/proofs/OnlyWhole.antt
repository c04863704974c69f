-- Only whole messages are taken, proved: by what the bytes show, then by the verdict.
use mathlib.Core.Path.{◌≡◌, refl, sym, ap, subst, ◌∙◌}
use mathlib.Core.Bool.{Bool, true, false, ◌||◌, cond, false≢true, true≢false}
use mathlib.Core.List.{List, [], ◌∷◌, ◌++◌, map}
use mathlib.Core.Logic.{◌⊎◌, inl, inr}
use Prim.Native.Nat.{ℕ, zero, suc, ◌+◌, ◌-◌, ◌≤◌, ◌<◌}
use native.Mathlib.Omega.{arith}
use lib.Dec.{eqb, ltb}
use lib.ListN.{length, take, get_or, replicate}
use lib.Seq.{length-take-le}
use borrow.Author.Tests.{eqb-true, ltb-true, lt-ltb, le-ltb}
use Rattle.wire.specs.declared.Header.{Header}
use Rattle.wire.specs.Field.{Bytes}
use Rattle.wire.specs.Message.{Message, header, header_bytes, encode, Decoded, decode}
use Rattle.wire.specs.Frame.{Frame, frame_of}
use Rattle.wire.proofs.Bytes.{take_bytes}
use Rattle.wire.proofs.Sixteen.{header_bytes_lem}
use Rattle.wire.proofs.ReadFrames.{length_encode}
use Rattle.model.specs.Sizes.{payload_limit, connection_limit, no_connection}
use Rattle.model.specs.MessageTypes.{FatalError}
use Rattle.model.specs.State.{Server, Entry, at, live, blank, Connection, closed_connection, connection_at, fresh, Making}
use Rattle.model.specs.Interface.{Event, Event.opening, Event.delivery, Event.cut, Event.clock, Event.answer, Event.status, Event.setting}
use Rattle.model.specs.Scan.{Scan, Scan.empty, Scan.few, Scan.wrong, Scan.skipping, Scan.long, Scan.part, Scan.whole, scan, size}
use Rattle.model.specs.Place.{slot_of, entry_of, role_of, Role, Role.r_none, Role.r_half_open, Role.r_synchronous, Role.r_asynchronous}
use Rattle.model.specs.Locks.{change}
use Rattle.model.specs.Checks.{Verdict, Verdict.v_more, Verdict.v_skipped, Verdict.v_held, Verdict.v_ignored, Verdict.v_closed, Verdict.v_acts}
use Rattle.model.specs.Checks.{Verdict.v_error, Verdict.v_fatal, verdict, judged, partly, either}
use Rattle.model.specs.Acts
use Rattle.model.specs.Refusals.{causes, refusal}
use Rattle.model.specs.Step.{effect, received, plan, answered, finish, step, final, log}
use Rattle.model.specs.Canonical.{omits, taken, bytes, shown, kept}
use Rattle.model.specs.Reader.{message_with, ReadsLong}
use Rattle.model.specs.Possible.{Possible, AllPossible}
use Rattle.model.specs.OnlyWhole.{ShowsMessage, ShowsLong, FatalFirst, ClosedBy, ClosedBy.by_prologue, ClosedBy.by_header, ClosedBy.by_message, ShowsReply, Shows, owes_next, OnlyWhole, TakenWhole}
use Rattle.model.specs.Outcomes.{owed_in}
use Rattle.model.proofs.Basics.{not_off}
use Rattle.model.proofs.Place.{no_role, place_sound}
use Rattle.claims.proofs.Fits.{uncaused}
use Rattle.claims.proofs.Scanning.{scan_cut, whole_cut, header_cut}
use Rattle.claims.proofs.Canonical.{step_omitted}
use Rattle.claims.proofs.Reader.{never, alike, taken_is}
use Rattle.claims.proofs.Shapes.{reads, fresh_scan_lem, skip_shape, bytes_take}
use Rattle.claims.proofs.Codes.{of_message, judged_of}
use Rattle.claims.proofs.Owed.{Tracks, tracks_store, tracks_same, tracks_closing, here, elsewhere, no_change, acts_connections}

-- a session's number, where there is none
no_session : (d : Server) (c : ℕ) → role_of d.locks.entries c ≡ r_none → (at d.locks.entries (slot_of d c)).number ≡ 0
no_session d c e = go (place_sound d.locks.entries c)
  where
    go : (Rattle.model.specs.Place.is_on_connection c (entry_of d c) ≡ true) ⊎ (entry_of d c ≡ blank) → (entry_of d c).number ≡ 0
    go (inl h) = absurd (no_role d.locks.entries c e (slot_of d c) h)
    go (inr h) = ap (λ (x : Entry). x.number) h

-- of a delivery with a plan: what the call shows, and what is owed then
record Takes (d : Server) (c : ℕ) (bs : List ℕ) (room : ℕ) (owed : ℕ → ℕ) (x : Acts.Plan) : Type 0 where
  shows : ShowsReply x.reply (owed c) c (bytes (taken x.reply) bs) (finish d x).frames
  tracks : Tracks x.rest (owes_next (delivery c (bytes (taken x.reply) bs) room) x.reply owed)

module _ (d : Server) (c : ℕ) (bs : List ℕ) (b : Bytes bs) where
  abbrev q : ℕ
  q = (connection_at d.rest c).remainder

  -- one message
  message_shown : (h : Header) (p : List ℕ) → scan q bs ≡ Scan.whole h p → ShowsMessage (bytes (16 + h.len) bs) (16 + h.len)
  message_shown h p e =
      let f = (fresh_scan_lem q bs (Scan.whole h p) e refl).1 in
      let w = ((alike bs).whole h p).0 f in
      let x : List ℕ = take (16 + h.len) bs in
      let m : Message = message_with h p in
      let cut = ((alike x).whole h p).0 (whole_cut q bs h p e) in
      let t : x ≡ encode m = taken_is bs h p b f in
      let l : 16 + h.len ≡ length x = ap (λ (z : Header). 16 + z.len) (sym w.head) ∙ sym (length_encode m) ∙ ap (λ (z : List ℕ). length z) (sym t) in
      subst (λ (z : List ℕ). ShowsMessage z (16 + h.len)) (sym (bytes_take (16 + h.len) bs (omega arith)))
      (record { message = m; reads = cut.decodes; shows = t; within = w.within; taken = l })

  -- the header of one that is too long
  long_read : (h : Header) → scan q bs ≡ Scan.long h → ReadsLong (take 16 bs) h
  long_read h e = ((alike (take 16 bs)).long h).0 (fresh_scan_lem q (take 16 bs) (Scan.long h) (scan_cut q bs 16 (ap size e) (omega arith) ∙ e) refl).1

  long_shown : (h : Header) (fs : List Frame) → scan q bs ≡ Scan.long h → fs ≡ frame_of c 3 4 0 [] ∷ [] → ShowsLong c (bytes 16 bs) 16 fs
  long_shown h fs e g =
      let r = ((alike bs).long h).0 (fresh_scan_lem q bs (Scan.long h) e refl).1 in
      let s = long_read h e in
      let l : length (take 16 bs) ≡ 16 = length-take-le 16 bs r.sixteen in
      record { head = h; reads = s.head; shows = header_bytes_lem (take 16 bs) l (take_bytes 16 bs b) s.begins ∙ ap header_bytes s.head; above = r.above; taken = sym l; sent = g }

  -- the frames of a delivery that closes begin with its FatalErrors
  leads : (n : ℕ) (a k : Bool) (e : Entry) (others : List Frame)
      → FatalFirst n (map (λ x. frame_of x FatalError n 0 []) (cond a (e.synchronous ∷ cond k [] (e.asynchronous ∷ [])) (c ∷ [])) ++ others)
  leads n true true e fs = record { to = e.synchronous; others = fs; is = refl }
  leads n true false e fs = record { to = e.synchronous; others = frame_of e.asynchronous FatalError n 0 [] ∷ fs; is = refl }
  leads n false k e fs = record { to = c; others = fs; is = refl }

  fatal_first : (n : ℕ) (s : Scan) (r : Role) (i : ℕ) → FatalFirst n (finish d (effect (v_fatal n) s r d i c)).frames
  unfolding finish effect change
  fatal_first n s r i = leads n (live (entry_of d c)) (eqb (entry_of d c).asynchronous no_connection) (entry_of d c) _

  module _ (room : ℕ) (owed : ℕ → ℕ) (t : Tracks d.rest owed) (is_open : (connection_at d.rest c).is_open ≡ true) where
    abbrev Here : Acts.Plan → Type 0
    Here x = Takes d c bs room owed x

    none_owed : (s : Scan) → scan q bs ≡ s → reads s ≡ true → owed c ≡ 0
    none_owed s e r = sym (t c is_open) ∙ (fresh_scan_lem q bs s e r).0

    abbrev i : ℕ
    i = slot_of d c

    -- closing
    fatal_done : (n : ℕ) (s : Scan) (r : Role) → scan q bs ≡ s → reads s ≡ true →
        ClosedBy (at d.locks.entries i).number bs (finish d (effect (v_fatal n) s r d i c)).frames → Here (effect (v_fatal n) s r d i c)
    unfolding effect
    fatal_done n s r e f x = record { shows = (none_owed s e f, refl, x); tracks = tracks_closing d c owed _ t (no_change c owed) }

    -- a whole message
    acts_shows : (r : Role) (h : Header) (p : List ℕ) (fs : List Frame) → scan q bs ≡ Scan.whole h p
        → ShowsReply (Acts.acts r d i c h p).reply (owed c) c (bytes (taken (Acts.acts r d i c h p).reply) bs) fs
    unfolding Acts.acts
    acts_shows r_none h p fs e = go (eqb h.kind 0)
      where
        go : (o : Bool) → ShowsReply (Acts.opens o d c h).reply (owed c) c (bytes (taken (Acts.opens o d c h).reply) bs) fs
        go true = (none_owed (Scan.whole h p) e refl, message_shown h p e)
        go false = (none_owed (Scan.whole h p) e refl, message_shown h p e)
    acts_shows r_half_open h p fs e = (none_owed (Scan.whole h p) e refl, message_shown h p e)
    acts_shows r_synchronous h p fs e = (none_owed (Scan.whole h p) e refl, message_shown h p e)
    acts_shows r_asynchronous h p fs e = (none_owed (Scan.whole h p) e refl, message_shown h p e)

    acts_owes : (r : Role) (h : Header) (p x : List ℕ) (j : ℕ) → owes_next (delivery c x room) (Acts.acts r d i c h p).reply owed j ≡ owed j
    unfolding Acts.acts
    acts_owes r_none h p x j = go (eqb h.kind 0)
      where
        go : (o : Bool) → owes_next (delivery c x room) (Acts.opens o d c h).reply owed j ≡ owed j
        go true = no_change c owed j
        go false = no_change c owed j
    acts_owes r_half_open h p x j = no_change c owed j
    acts_owes r_synchronous h p x j = no_change c owed j
    acts_owes r_asynchronous h p x j = no_change c owed j

    -- a whole message that is answered Error is within the limit: nothing is owed
    nothing_left : (h : Header) (p : List ℕ) → scan q bs ≡ Scan.whole h p → cond (ltb payload_limit (header (bytes (16 + h.len) bs)).len) (header (bytes (16 + h.len) bs)).len 0 ≡ 0
    nothing_left h p e =
        let w = ((alike bs).whole h p).0 (fresh_scan_lem q bs (Scan.whole h p) e refl).1 in
        let g : header (bytes (16 + h.len) bs) ≡ h = ap header (bytes_take (16 + h.len) bs (omega arith)) ∙ header_cut q bs h p e in
        let n : h.len ≤ payload_limit = subst (λ (k : ℕ). k ≤ payload_limit) (ap (λ (z : Header). z.len) w.head) w.within in
        ap (λ (z : Header). cond (ltb payload_limit z.len) z.len 0) g ∙ ap (λ (z : Bool). cond z h.len 0) (le-ltb payload_limit h.len n)

    error_code : (n : ℕ) → of_message (v_error n) ≡ true → (n < 4) ⊎ (n ≡ 128)
    error_code n e = go (ltb n 4) refl e
      where
        go : (b : Bool) → ltb n 4 ≡ b → (b || eqb n 128) ≡ true → (n < 4) ⊎ (n ≡ 128)
        go true q e = inl (ltb-true n 4 q)
        go false q e = inr (eqb-true n 128 e)

    by_verdict : (v : Verdict) (r : Role) (h : Header) (p : List ℕ) → scan q bs ≡ Scan.whole h p → of_message v ≡ true
        → omits (effect v (Scan.whole h p) r d i c).reply ≡ false → Here (effect v (Scan.whole h p) r d i c)
    unfolding effect finish change
    by_verdict v_more r h p e m o = absurd (false≢true m)
    by_verdict v_held r h p e m o = absurd (true≢false o)
    by_verdict v_skipped r h p e m o = absurd (false≢true m)
    by_verdict v_ignored r h p e m o = record { shows = (none_owed (Scan.whole h p) e refl, message_shown h p e); tracks = tracks_same d.rest owed t d.rest _ refl (no_change c owed) }
    by_verdict (v_error n) r h p e m o =
        record {
          shows = (none_owed (Scan.whole h p) e refl, inl record { shown = message_shown h p e; code = n; permitted = error_code n m; sent = refl });
          tracks = tracks_store d.rest owed t c _ _ (sym (nothing_left h p e) ∙ here c _ _) (λ j f. elsewhere c _ (owed j) j f);
        }
    by_verdict (v_fatal n) r h p e m o =
        let w = ((alike bs).whole h p).0 (fresh_scan_lem q bs (Scan.whole h p) e refl).1 in
        fatal_done n (Scan.whole h p) r e refl (by_message (message_with h p) w.decodes w.within)
    by_verdict v_closed r h p e m o =
        let w = ((alike bs).whole h p).0 (fresh_scan_lem q bs (Scan.whole h p) e refl).1 in
        record { shows = (none_owed (Scan.whole h p) e refl, refl, by_message (message_with h p) w.decodes w.within); tracks = tracks_closing d c owed _ t (no_change c owed) }
    by_verdict v_acts r h p e m o =
        record { shows = acts_shows r h p _ e; tracks = tracks_same d.rest owed t (Acts.acts r d i c h p).rest _ (acts_connections r d i c h p) (acts_owes r h p _) }

    -- a header that begins right
    right : (s : Scan) → scan q bs ≡ s → reads s ≡ true → (s ≡ Scan.wrong → ⊥) → decode bs ≡ Decoded.wrong → ⊥
    right s e r n w = n (sym (fresh_scan_lem q bs s e r).1 ∙ (alike bs).wrong.1 w)

    long_owes : (h : Header) → scan q bs ≡ Scan.long h → h.len ≡ cond (ltb payload_limit (header (bytes 16 bs)).len) (header (bytes 16 bs)).len 0
    long_owes h e =
        let s = long_read h e in
        sym (ap (λ (z : Header). cond (ltb payload_limit z.len) z.len 0) s.head ∙ ap (λ (z : Bool). cond z h.len 0) (lt-ltb payload_limit h.len s.above))

    too_long : (h : Header) (r : Role) → scan q bs ≡ Scan.long h → Here (effect (v_error 4) (Scan.long h) r d i c)
    unfolding effect finish change
    too_long h r e =
        record {
          shows = (none_owed (Scan.long h) e refl, inr (long_shown h _ e refl));
          tracks = tracks_store d.rest owed t c _ _ (long_owes h e ∙ here c _ _) (λ j f. elsewhere c _ (owed j) j f);
        }

    -- check 3, without a session and without its second channel
    no_role_closes : (s : Scan) → scan q bs ≡ s → reads s ≡ true → 16 ≤ length bs → (s ≡ Scan.wrong → ⊥) → role_of d.locks.entries c ≡ r_none → Here (effect (v_fatal 3) s r_none d i c)
    no_role_closes s e r l n f = fatal_done 3 s r_none e r (by_header l (right s e r n) (inl (no_session d c f, fatal_first 3 s r_none i)))

    half_open_closes : (s : Scan) → scan q bs ≡ s → reads s ≡ true → 16 ≤ length bs → (s ≡ Scan.wrong → ⊥) → Here (effect (v_fatal 2) s r_half_open d i c)
    half_open_closes s e r l n = fatal_done 2 s r_half_open e r (by_header l (right s e r n) (inr (fatal_first 2 s r_half_open i)))

    by_long : (h : Header) (r : Role) → scan q bs ≡ Scan.long h → role_of d.locks.entries c ≡ r → Here (effect (Rattle.model.specs.Checks.too_long r) (Scan.long h) r d i c)
    by_long h r_none e f = no_role_closes (Scan.long h) e refl (((alike bs).long h).0 (fresh_scan_lem q bs (Scan.long h) e refl).1).sixteen (λ z. never cc) f
    by_long h r_half_open e f = half_open_closes (Scan.long h) e refl (((alike bs).long h).0 (fresh_scan_lem q bs (Scan.long h) e refl).1).sixteen (λ z. never cc)
    by_long h r_synchronous e f = too_long h r_synchronous e
    by_long h r_asynchronous e f = too_long h r_asynchronous e

    by_part : (h : Header) (r : Role) → scan q bs ≡ Scan.part h → role_of d.locks.entries c ≡ r →
        omits (effect (partly r h) (Scan.part h) r d i c).reply ≡ false → Here (effect (partly r h) (Scan.part h) r d i c)
    unfolding effect
    by_part h r_none e f o = go (either 0 17 h.kind) o
      where
        go : (k : Bool) → omits (effect (cond k v_more (v_fatal 3)) (Scan.part h) r_none d i c).reply ≡ false → Here (effect (cond k v_more (v_fatal 3)) (Scan.part h) r_none d i c)
        go true o = absurd (true≢false o)
        go false o = no_role_closes (Scan.part h) e refl (((alike bs).part h).0 (fresh_scan_lem q bs (Scan.part h) e refl).1).sixteen (λ z. never cc) f
    by_part h r_half_open e f o = half_open_closes (Scan.part h) e refl (((alike bs).part h).0 (fresh_scan_lem q bs (Scan.part h) e refl).1).sixteen (λ z. never cc)
    by_part h r_synchronous e f o = absurd (true≢false o)
    by_part h r_asynchronous e f o = absurd (true≢false o)

    by_scan : (s : Scan) (r : Role) → scan q bs ≡ s → role_of d.locks.entries c ≡ r → omits (effect (verdict r d i s) s r d i c).reply ≡ false → Here (effect (verdict r d i s) s r d i c)
    unfolding verdict effect finish change
    by_scan empty r e f o = absurd (true≢false o)
    by_scan few r e f o = absurd (true≢false o)
    by_scan wrong r e f o = fatal_done 1 Scan.wrong r e refl (by_prologue ((alike bs).wrong.0 (fresh_scan_lem q bs Scan.wrong e refl).1) (fatal_first 1 Scan.wrong r i))
    by_scan (skipping k) r e f o =
        let g = skip_shape q bs k e in
        record {
          shows = record {
            some = g.0;
            owes = subst (λ (z : ℕ). k ≤ z) (t c is_open) g.1;
            taken = sym (ap (λ (z : List ℕ). length z) (bytes_take k bs g.0) ∙ length-take-le k bs g.2);
          };
          tracks = tracks_store d.rest owed t c _ _ (ap (λ (z : ℕ). z - k) (t c is_open) ∙ here c _ _) (λ j x. elsewhere c _ (owed j) j x);
        }
    by_scan (long h) r e f o = by_long h r e f
    by_scan (part h) r e f o = by_part h r e f o
    by_scan (whole h p) r e f o = by_verdict (judged r d i h p) r h p e (judged_of r d i h p) o

-- one call that is kept
record Called (d : Server) (owed : ℕ → ℕ) (e : Event) : Type 0 where
  shows : Shows owed (shown e (taken (step d e).reply)) (step d e).reply (step d e).frames
  tracks : Tracks (step d e).server.rest (owes_next (shown e (taken (step d e).reply)) (step d e).reply owed)

call_delivered : (d : Server) (owed : ℕ → ℕ) (c : ℕ) (bs : List ℕ) (room : ℕ) → Tracks d.rest owed → Bytes bs → refusal d (delivery c bs room) ≡ 0
    → omits (plan d (delivery c bs room)).reply ≡ false → Takes d c bs room owed (plan d (delivery c bs room))
unfolding plan received refusal causes
call_delivered d owed c bs room t b z o =
    let f = uncaused (causes d (delivery c bs room)) refl z in
    by_scan d c bs b room owed t (not_off _ f.1.1.0) (scan (connection_at d.rest c).remainder bs) (role_of d.locks.entries c) refl refl o

called : (d : Server) (owed : ℕ → ℕ) (e : Event) → Tracks d.rest owed → Possible e → omits (step d e).reply ≡ false → Called d owed e
unfolding step answered finish plan
called d owed e t p o = let r = go (refusal d e) e refl p o in record { shows = r.0; tracks = r.1 }
  where
    go : (n : ℕ) (e : Event) → refusal d e ≡ n → Possible e → omits (answered n d e).reply ≡ false
        → Shows owed (shown e (taken (answered n d e).reply)) (answered n d e).reply (answered n d e).frames
        × Tracks (answered n d e).server.rest (owes_next (shown e (taken (answered n d e).reply)) (answered n d e).reply owed)
    go (suc n) e z p o = absurd (true≢false o)
    go zero (opening c) z p o = (tt, tracks_store d.rest owed t c _ (λ x. cond (eqb c x) 0 (owed x)) (here c (owed c) 0) (λ j f. elsewhere c 0 (owed j) j f))
    go zero (delivery c bs room) z p o = let r = call_delivered d owed c bs room t p z o in (r.shows, r.tracks)
    go zero (cut c room) z p o = (tt, tracks_closing d c owed owed t (λ j. refl))
    go zero (clock k room) z p o = (tt, t)
    go zero (answer n x end sh room) z p o = (tt, t)
    go zero (status k) z p o = (tt, t)
    go zero (setting s) z p o = (tt, t)

-- the whole list
only_whole : (es : List Event) (d : Server) (owed : ℕ → ℕ) → Tracks d.rest owed → AllPossible es → OnlyWhole owed (kept (log d es))
unfolding log
only_whole [] d owed t p = tt
only_whole (e ∷ es) d owed t p = go (omits (step d e).reply) refl (λ owed t. only_whole es (step d e).server owed t p.1)
  where
    go : (k : Bool) → omits (step d e).reply ≡ k → ((owed : ℕ → ℕ) → Tracks (step d e).server.rest owed → OnlyWhole owed (kept (log (step d e).server es)))
        → OnlyWhole owed (cond k (kept (log (step d e).server es))
        (record {
          event = shown e (taken (step d e).reply);
          reply = (step d e).reply;
          frames = (step d e).frames;
        } ∷ kept (log (step d e).server es)))
    go true o ih = ih owed (subst (λ (x : Server). Tracks x.rest owed) (sym (ap (λ x. x.server) (step_omitted d e o))) t)
    go false o ih = let x = called d owed e t p.0 o in (x.shows, ih _ x.tracks)

-- and the server that it leaves owes what the lines say
tracked : (es : List Event) (d : Server) (owed : ℕ → ℕ) → Tracks d.rest owed → AllPossible es → Tracks (final d es).rest (owed_in owed (kept (log d es)))
unfolding log final
tracked [] d owed t p = t
tracked (e ∷ es) d owed t p = go (omits (step d e).reply) refl (λ owed t. tracked es (step d e).server owed t p.1)
  where
    go : (k : Bool) → omits (step d e).reply ≡ k
        → ((owed : ℕ → ℕ) → Tracks (step d e).server.rest owed → Tracks (final (step d e).server es).rest (owed_in owed (kept (log (step d e).server es))))
        → Tracks (final (step d e).server es).rest (owed_in owed
        (cond k (kept (log (step d e).server es)) (record {
          event = shown e (taken (step d e).reply);
          reply = (step d e).reply;
          frames = (step d e).frames;
        } ∷ kept (log (step d e).server es))))
    go true o ih = ih owed (subst (λ (x : Server). Tracks x.rest owed) (sym (ap (λ x. x.server) (step_omitted d e o))) t)
    go false o ih = ih _ (called d owed e t p.0 o).tracks

closed_at : (n j : ℕ) → get_or (replicate n closed_connection) j closed_connection ≡ closed_connection
closed_at zero j = refl
closed_at (suc n) zero = refl
closed_at (suc n) (suc j) = closed_at n j

fresh_tracks : (v : Making) → Tracks (fresh v).rest (λ c. 0)
fresh_tracks v j o = ap (λ (x : Connection). x.remainder) (closed_at connection_limit j)

pub owed_run : (v : Making) (es : List Event) → AllPossible es → Tracks (final (fresh v) es).rest (owed_in (λ c. 0) (kept (log (fresh v) es)))
owed_run v es p = tracked es (fresh v) (λ c. 0) (fresh_tracks v) p

pub taken_whole : TakenWhole
taken_whole = record { any_run = λ v es p. only_whole es (fresh v) (λ c. 0) (fresh_tracks v) p }
