-- The journal about the code: the premises are the exported functions' own contracts, as the toolchain reads them off the source (each
-- function's `Reads.Post`, at its arguments a, its result r and what it lent back s). A contract that says less is refused here.
use mathlib.Core.Path.{◌≡◌, refl}
use mathlib.Core.List.{List, [], ◌∷◌}
use mathlib.Core.Bool.{not}
use Prim.Native.Nat.{ℕ}
use lib.Dec.{eqb}
use lib.ListN.{length, take}
use contract.Lifetimes.{Lfts}
use borrow.Fn.Kinds.{Dens, res_t, ended_of}
use denote.Triple.Clauses.{AtExit}
use Rattle.model.specs.Interface.{Event.opening, Event.delivery, Event.cut, Event.clock, Event.answer, Event.status, Event.setting, Setting.watch, Setting.patterns, Reply.done}
use Rattle.readings.specs.Bits.{bits}
use Rattle.readings.specs.Watch.{Limits.off, Limits.above, Limits.outside}
use Rattle.model.specs.State.{Making}
use Rattle.state.specs.View.{Memory, memory}
use Rattle.server.specs.Events.{Fresh}
use Rattle.server.specs.Program.{delivery_reply, done_reply, answered_reply, listed_reply, Run.hislip_open as Ran-open, Run.hislip_deliver as ran-deliver}
use Rattle.server.specs.Program.{Run.hislip_cut as ran-cut, Run.hislip_clock as ran-clock, Run.hislip_answer as ran-answer, Run.hislip_status as ran-status}
use Rattle.server.specs.Program.{Run.hislip_watch as ran-watch, Run.hislip_patterns as ran-patterns}
use Rattle.server.proofs.hislip_new.Reads as new-says
use Rattle.server.proofs.hislip_new.Kinds as new-kinds
use Rattle.journal.specs.Writer.{close_of}
use Rattle.record.specs.Layout.{most_delivered, most_shown}
use Rattle.keep.specs.Keeping.{Keeps, looked, of_answered, of_delivery, of_done, of_listed}
use Rattle.keep.specs.Program.{Told, Begun, Begun.begun, KeptRun, KeptRun.stop, KeptRun.call, KeptProgram}
use Rattle.keep.proofs.Program.{kept_program}
use Rattle.keep.proofs.book.hislip_journal_new.Reads as begin-says
use Rattle.keep.proofs.book.hislip_journal_new.Kinds as begin-kinds
use Rattle.keep.proofs.book.hislip_journal_close.Reads as close-says
use Rattle.keep.proofs.book.hislip_journal_close.Kinds as close-kinds
use Rattle.keep.proofs.hislip_keep_open.Reads as open-says
use Rattle.keep.proofs.hislip_keep_open.Kinds as open-kinds
use Rattle.keep.proofs.hislip_keep_deliver.Reads as deliver-says
use Rattle.keep.proofs.hislip_keep_deliver.Kinds as deliver-kinds
use Rattle.keep.proofs.hislip_keep_cut.Reads as cut-says
use Rattle.keep.proofs.hislip_keep_cut.Kinds as cut-kinds
use Rattle.keep.proofs.hislip_keep_clock.Reads as clock-says
use Rattle.keep.proofs.hislip_keep_clock.Kinds as clock-kinds
use Rattle.keep.proofs.hislip_keep_answer.Reads as answer-says
use Rattle.keep.proofs.hislip_keep_answer.Kinds as answer-kinds
use Rattle.keep.proofs.hislip_keep_status.Reads as status-says
use Rattle.keep.proofs.hislip_keep_status.Kinds as status-kinds
use Rattle.keep.proofs.watches.hislip_keep_watch_off.Reads as watch-off-says
use Rattle.keep.proofs.watches.hislip_keep_watch_off.Kinds as watch-off-kinds
use Rattle.keep.proofs.watches.hislip_keep_watch_above.Reads as watch-above-says
use Rattle.keep.proofs.watches.hislip_keep_watch_above.Kinds as watch-above-kinds
use Rattle.keep.proofs.watches.hislip_keep_watch_outside.Reads as watch-outside-says
use Rattle.keep.proofs.watches.hislip_keep_watch_outside.Kinds as watch-outside-kinds
use Rattle.keep.proofs.lists.hislip_keep_patterns.Reads as patterns-says
use Rattle.keep.proofs.lists.hislip_keep_patterns.Kinds as patterns-kinds

-- memory that hislip_new wrote, for a server made as v says
pub data Written : Making → Memory → Type 0 where
  hislip_new : (κs : Lfts 2) (a : Dens κs new-kinds.ps) (r : (res_t new-kinds.r κs).Denot) (s : AtExit (ended_of 2 new-kinds.ps new-kinds.r) κs)
      → new-says.Post κs a r s → Written (record { vendor = a.1.1.0; prefers_overlap = not (eqb a.1.1.1.0 0) }) (memory s.0.now s.1.0.now)

-- a book that hislip_journal_new began, with the answer 0
pub data Began : List ℕ → List ℕ → Type 0 where
  hislip_journal_new : (κs : Lfts 2) (a : Dens κs begin-kinds.ps) (r : (res_t begin-kinds.r κs).Denot) (s : AtExit (ended_of 2 begin-kinds.ps begin-kinds.r) κs)
      → begin-says.Post κs a r s → r.kept ≡ 0 → Began s.0.now a.1.0.now

-- a closing
pub data Ended : List ℕ → List ℕ → ℕ → List ℕ → List ℕ → Type 0 where
  hislip_journal_close : (κs : Lfts 2) (a : Dens κs close-kinds.ps) (r : (res_t close-kinds.r κs).Denot) (s : AtExit (ended_of 2 close-kinds.ps close-kinds.r) κs)
      → close-says.Post κs a r s → Ended a.0.now a.1.0.now r.kept s.0.now s.1.0.now

-- calls of the exported functions that keep a journal; nobody else writes memory, words or book, and each call lends whatever buffer
pub data Executed : Memory → List ℕ → List ℕ → List Told → Memory → List ℕ → List ℕ → Type 0 where
  stopped : {m : Memory} {w b : List ℕ} → Executed m w b [] m w b
  hislip_keep_open : {m'' : Memory} {w'' b'' : List ℕ} {ts : List Told} (κs : Lfts 4) (a : Dens κs open-kinds.ps) (r : (res_t open-kinds.r κs).Denot) (s : AtExit (ended_of 4 open-kinds.ps open-kinds.r) κs)
      → open-says.Post κs a r s → Executed (memory s.0.now s.1.0.now) s.1.1.1.0.now s.1.1.1.1.0.now ts m'' w'' b''
      → Executed (memory a.0.now a.1.0.now) a.1.1.1.0.now a.1.1.1.1.0.now
      (record { seen = record { event = opening a.1.1.0; reply = done_reply (of_done r); output = [] }; kept = r.kept } ∷ ts) m'' w'' b''
  hislip_keep_deliver : {m'' : Memory} {w'' b'' : List ℕ} {ts : List Told} (κs : Lfts 6) (a : Dens κs deliver-kinds.ps) (r : (res_t deliver-kinds.r κs).Denot)
      (s : AtExit (ended_of 6 deliver-kinds.ps deliver-kinds.r) κs)
      → deliver-says.Post κs a r s → Executed (memory s.0.now s.1.0.now) s.1.1.1.1.1.0.now s.1.1.1.1.1.1.0.now ts m'' w'' b''
      → Executed (memory a.0.now a.1.0.now) a.1.1.1.1.1.0.now a.1.1.1.1.1.1.0.now
      (record {
        seen = record {
          event = looked (delivery a.1.1.0 a.1.1.1.0.now (length a.1.1.1.1.0.now));
          reply = delivery_reply (of_delivery r);
          output = take r.output s.1.1.1.1.0.now;
        };
        kept = r.kept;
      } ∷ ts) m'' w'' b''
  hislip_keep_cut : {m'' : Memory} {w'' b'' : List ℕ} {ts : List Told} (κs : Lfts 5) (a : Dens κs cut-kinds.ps) (r : (res_t cut-kinds.r κs).Denot) (s : AtExit (ended_of 5 cut-kinds.ps cut-kinds.r) κs)
      → cut-says.Post κs a r s → Executed (memory s.0.now s.1.0.now) s.1.1.1.1.0.now s.1.1.1.1.1.0.now ts m'' w'' b''
      → Executed (memory a.0.now a.1.0.now) a.1.1.1.1.0.now a.1.1.1.1.1.0.now
      (record { seen = record { event = cut a.1.1.0 (length a.1.1.1.0.now); reply = done_reply (of_done r); output = take r.output s.1.1.1.0.now }; kept = r.kept } ∷ ts) m'' w'' b''
  hislip_keep_clock : {m'' : Memory} {w'' b'' : List ℕ} {ts : List Told} (κs : Lfts 5) (a : Dens κs clock-kinds.ps) (r : (res_t clock-kinds.r κs).Denot)
      (s : AtExit (ended_of 5 clock-kinds.ps clock-kinds.r) κs)
      → clock-says.Post κs a r s → Executed (memory s.0.now s.1.0.now) s.1.1.1.1.0.now s.1.1.1.1.1.0.now ts m'' w'' b''
      → Executed (memory a.0.now a.1.0.now) a.1.1.1.1.0.now a.1.1.1.1.1.0.now
      (record {
        seen = record {
          event = clock a.1.1.0 (length a.1.1.1.0.now);
          reply = done_reply (of_done r);
          output = take r.output s.1.1.1.0.now;
        };
        kept = r.kept;
      } ∷ ts) m'' w'' b''
  hislip_keep_answer : {m'' : Memory} {w'' b'' : List ℕ} {ts : List Told} (κs : Lfts 7) (a : Dens κs answer-kinds.ps) (r : (res_t answer-kinds.r κs).Denot)
      (s : AtExit (ended_of 7 answer-kinds.ps answer-kinds.r) κs)
      → answer-says.Post κs a r s → Executed (memory s.0.now s.1.0.now) s.1.1.1.1.1.1.1.0.now s.1.1.1.1.1.1.1.1.0.now ts m'' w'' b''
      → Executed (memory a.0.now a.1.0.now) a.1.1.1.1.1.1.1.0.now a.1.1.1.1.1.1.1.1.0.now
      (record {
        seen = record {
          event = looked (answer a.1.1.0 a.1.1.1.0.now (not (eqb a.1.1.1.1.0 0)) a.1.1.1.1.1.0.now
              (length a.1.1.1.1.1.1.0.now));
          reply = answered_reply (of_answered r);
          output = take r.output s.1.1.1.1.1.1.0.now;
        };
        kept = r.kept;
      } ∷ ts) m'' w'' b''
  hislip_keep_status : {m'' : Memory} {w'' b'' : List ℕ} {ts : List Told} (κs : Lfts 4) (a : Dens κs status-kinds.ps) (r : (res_t status-kinds.r κs).Denot)
      (s : AtExit (ended_of 4 status-kinds.ps status-kinds.r) κs)
      → status-says.Post κs a r s → Executed (memory s.0.now s.1.0.now) s.1.1.1.0.now s.1.1.1.1.0.now ts m'' w'' b''
      → Executed (memory a.0.now a.1.0.now) a.1.1.1.0.now a.1.1.1.1.0.now
      (record { seen = record { event = status a.1.1.0; reply = done; output = [] }; kept = r.kept } ∷ ts) m'' w'' b''
  hislip_keep_watch_off : {m'' : Memory} {w'' b'' : List ℕ} {ts : List Told} (κs : Lfts 4) (a : Dens κs watch-off-kinds.ps) (r : (res_t watch-off-kinds.r κs).Denot)
      (s : AtExit (ended_of 4 watch-off-kinds.ps watch-off-kinds.r) κs)
      → watch-off-says.Post κs a r s → Executed (memory s.0.now s.1.0.now) s.1.1.1.0.now s.1.1.1.1.0.now ts m'' w'' b''
      → Executed (memory a.0.now a.1.0.now) a.1.1.1.0.now a.1.1.1.1.0.now
      (record { seen = record { event = setting (watch a.1.1.0 off); reply = done_reply (of_done r); output = [] }; kept = r.kept } ∷ ts) m'' w'' b''
  hislip_keep_watch_above : {m'' : Memory} {w'' b'' : List ℕ} {ts : List Told} (κs : Lfts 4) (a : Dens κs watch-above-kinds.ps)
      (r : (res_t watch-above-kinds.r κs).Denot) (s : AtExit (ended_of 4 watch-above-kinds.ps watch-above-kinds.r) κs)
      → watch-above-says.Post κs a r s → Executed (memory s.0.now s.1.0.now) s.1.1.1.1.0.now s.1.1.1.1.1.0.now ts m'' w'' b''
      → Executed (memory a.0.now a.1.0.now) a.1.1.1.1.0.now a.1.1.1.1.1.0.now
      (record { seen = record { event = setting (watch a.1.1.0 (above (bits a.1.1.1.0))); reply = done_reply (of_done r); output = [] }; kept = r.kept } ∷ ts) m'' w'' b''
  hislip_keep_watch_outside : {m'' : Memory} {w'' b'' : List ℕ} {ts : List Told} (κs : Lfts 4) (a : Dens κs watch-outside-kinds.ps)
      (r : (res_t watch-outside-kinds.r κs).Denot) (s : AtExit (ended_of 4 watch-outside-kinds.ps watch-outside-kinds.r) κs)
      → watch-outside-says.Post κs a r s → Executed (memory s.0.now s.1.0.now) s.1.1.1.1.1.0.now s.1.1.1.1.1.1.0.now ts m'' w'' b''
      → Executed (memory a.0.now a.1.0.now) a.1.1.1.1.1.0.now a.1.1.1.1.1.1.0.now
      (record {
        seen = record {
          event = setting (watch a.1.1.0 (outside (bits a.1.1.1.0) (bits a.1.1.1.1.0)));
          reply = done_reply (of_done r);
          output = [];
        };
        kept = r.kept;
      } ∷ ts) m'' w'' b''
  hislip_keep_patterns : {m'' : Memory} {w'' b'' : List ℕ} {ts : List Told} (κs : Lfts 5) (a : Dens κs patterns-kinds.ps) (r : (res_t patterns-kinds.r κs).Denot)
      (s : AtExit (ended_of 5 patterns-kinds.ps patterns-kinds.r) κs)
      → patterns-says.Post κs a r s → Executed (memory s.0.now s.1.0.now) s.1.1.1.0.now s.1.1.1.1.0.now ts m'' w'' b''
      → Executed (memory a.0.now a.1.0.now) a.1.1.1.0.now a.1.1.1.1.0.now
      (record { seen = record { event = setting (patterns a.1.1.0.now); reply = listed_reply (of_listed r); output = [] }; kept = r.kept } ∷ ts) m'' w'' b''

-- each contract is the premise, word for word
new : {v : Making} {m : Memory} → Written v m → Fresh v m
new (hislip_new κs a r s p) = p

begins : {w b : List ℕ} → Began w b → Begun w b
begins (hislip_journal_new κs a r s p z) = begun a.0.now s.0.now a.1.0.now r.kept z p

ends : {w b : List ℕ} {k : ℕ} {w' b' : List ℕ} → Ended w b k w' b' → Keeps (close_of w b) k w' b'
ends (hislip_journal_close κs a r s p) = p

runs : {m m' : Memory} {w b w' b' : List ℕ} {ts : List Told} → Executed m w b ts m' w' b' → KeptRun m w b ts m' w' b'
runs stopped = stop
runs (hislip_keep_open κs a r s p g) =
    call (record { event = opening a.1.1.0; reply = done_reply (of_done r); output = [] }) r.kept (opening a.1.1.0) refl
    (λ m'' ss g. Ran-open a.1.1.0 (of_done r) p.0 g) p.1 (runs g)
runs (hislip_keep_deliver κs a r s p g) =
    call (record {
      event = looked (delivery a.1.1.0 a.1.1.1.0.now (length a.1.1.1.1.0.now));
      reply = delivery_reply (of_delivery r);
      output = take r.output s.1.1.1.1.0.now;
    }) r.kept (delivery a.1.1.0 a.1.1.1.0.now (length a.1.1.1.1.0.now)) refl
    (λ m'' ss g. ran-deliver a.1.1.0 (take most_delivered a.1.1.1.0.now) a.1.1.1.1.0.now s.1.1.1.1.0.now (of_delivery r) p.0 g) p.1 (runs g)
runs (hislip_keep_cut κs a r s p g) =
    call (record { event = cut a.1.1.0 (length a.1.1.1.0.now); reply = done_reply (of_done r); output = take r.output s.1.1.1.0.now })
    r.kept (cut a.1.1.0 (length a.1.1.1.0.now)) refl
    (λ m'' ss g. ran-cut a.1.1.0 a.1.1.1.0.now s.1.1.1.0.now (of_done r) p.0 g) p.1 (runs g)
runs (hislip_keep_clock κs a r s p g) =
    call (record { event = clock a.1.1.0 (length a.1.1.1.0.now); reply = done_reply (of_done r); output = take r.output s.1.1.1.0.now })
    r.kept (clock a.1.1.0 (length a.1.1.1.0.now)) refl
    (λ m'' ss g. ran-clock a.1.1.0 a.1.1.1.0.now s.1.1.1.0.now (of_done r) p.0 g) p.1 (runs g)
runs (hislip_keep_answer κs a r s p g) =
    call (record {
      event = looked (answer a.1.1.0 a.1.1.1.0.now (not (eqb a.1.1.1.1.0 0)) a.1.1.1.1.1.0.now
          (length a.1.1.1.1.1.1.0.now));
      reply = answered_reply (of_answered r);
      output = take r.output s.1.1.1.1.1.1.0.now;
    }) r.kept
    (answer a.1.1.0 a.1.1.1.0.now (not (eqb a.1.1.1.1.0 0)) a.1.1.1.1.1.0.now (length a.1.1.1.1.1.1.0.now)) refl
    (λ m'' ss g. ran-answer a.1.1.0 a.1.1.1.0.now a.1.1.1.1.0 (take most_shown a.1.1.1.1.1.0.now) a.1.1.1.1.1.1.0.now
    s.1.1.1.1.1.1.0.now (of_answered r) p.0 g) p.1 (runs g)
runs (hislip_keep_status κs a r s p g) =
    call (record { event = status a.1.1.0; reply = done; output = [] }) r.kept (status a.1.1.0) refl
    (λ m'' ss g. ran-status a.1.1.0 p.0 g) p.1 (runs g)
runs (hislip_keep_watch_off κs a r s p g) =
    call (record { event = setting (watch a.1.1.0 off); reply = done_reply (of_done r); output = [] }) r.kept (setting (watch a.1.1.0 off)) refl
    (λ m'' ss g. ran-watch a.1.1.0 off (of_done r) p.0 g) p.1 (runs g)
runs (hislip_keep_watch_above κs a r s p g) =
    call (record { event = setting (watch a.1.1.0 (above (bits a.1.1.1.0))); reply = done_reply (of_done r); output = [] }) r.kept
    (setting (watch a.1.1.0 (above (bits a.1.1.1.0)))) refl
    (λ m'' ss g. ran-watch a.1.1.0 (above (bits a.1.1.1.0)) (of_done r) p.0 g) p.1 (runs g)
runs (hislip_keep_watch_outside κs a r s p g) =
    call (record { event = setting (watch a.1.1.0 (outside (bits a.1.1.1.0) (bits a.1.1.1.1.0))); reply = done_reply (of_done r); output = [] })
    r.kept (setting (watch a.1.1.0 (outside (bits a.1.1.1.0) (bits a.1.1.1.1.0)))) refl
    (λ m'' ss g. ran-watch a.1.1.0 (outside (bits a.1.1.1.0) (bits a.1.1.1.1.0)) (of_done r) p.0 g) p.1 (runs g)
runs (hislip_keep_patterns κs a r s p g) =
    call (record { event = setting (patterns a.1.1.0.now); reply = listed_reply (of_listed r); output = [] }) r.kept (setting (patterns a.1.1.0.now)) refl
    (λ m'' ss g. ran-patterns a.1.1.0.now (of_listed r) p.0 g) p.1 (runs g)

pub kept_code : KeptProgram Written Began Executed Ended
kept_code =
    record {
      plainly = λ m m' w b w' b' ts g. kept_program.plainly m m' w b w' b' ts (runs g);
      entries = λ v m m' w b w' b' ts l n s g. kept_program.entries v m m' w b w' b' ts l (new n) (begins s) (runs g);
      until_no_room = kept_program.until_no_room;
      read = λ m m' w b w' b' ts g. kept_program.read m m' w b w' b' ts (runs g);
      closed = λ v m m' w b w' b' w'' b'' ts k l n s g p h. kept_program.closed v m m' w b w' b' w'' b'' ts k l (new n) (begins s) (runs g) p (ends h);
      judged = λ v m m' w b w' b' w'' b'' ts k l n s g p a h. kept_program.judged v m m' w b w' b' w'' b'' ts k l (new n) (begins s) (runs g) p a (ends h);
    }
