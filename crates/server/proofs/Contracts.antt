-- The theorem about the code: its premises are the exported functions' own contracts, as the toolchain reads them off the source (each
-- function's `Reads.Post`, at its arguments a, its result r and what it lent back s). A contract that says less is refused here.
use mathlib.Core.List.{List, [], ◌∷◌}
use mathlib.Core.Bool.{not}
use lib.Dec.{eqb}
use lib.ListN.{length, take}
use contract.Lifetimes.{Lfts}
use borrow.Fn.Kinds.{Dens, res_t, ended_of}
use denote.Triple.Clauses.{AtExit}
use Rattle.model.specs.Interface.{Event.opening, Event.delivery, Event.cut, Event.clock, Event.answer, Event.status, Event.setting, Setting.patterns, Reply.done, Setting.watch}
use Rattle.readings.specs.Bits.{bits}
use Rattle.readings.specs.Watch.{Limits.off, Limits.above, Limits.outside}
use Rattle.model.specs.State.{Making}
use Rattle.model.specs.Demand3.{Seen}
use Rattle.state.specs.View.{Memory, memory}
use Rattle.server.specs.Events.{Fresh}
use Rattle.server.specs.Program.{delivery_reply, done_reply, answered_reply, listed_reply, Run, Run.stop, Run.hislip_open as Ran-open}
use Rattle.server.specs.Program.{Run.hislip_deliver as ran-deliver, Run.hislip_cut as ran-cut, Run.hislip_clock as ran-clock}
use Rattle.server.specs.Program.{Run.hislip_answer as ran-answer, Run.hislip_status as ran-status, Run.hislip_patterns as ran-patterns, Program}
use Rattle.server.specs.Program.{Run.hislip_watch as ran-watch}
use Rattle.server.proofs.Program.{program}
use Rattle.server.proofs.hislip_new.Reads as new-says
use Rattle.server.proofs.hislip_new.Kinds as new-kinds
use Rattle.server.proofs.hislip_open.Reads as open-says
use Rattle.server.proofs.hislip_open.Kinds as open-kinds
use Rattle.server.proofs.hislip_deliver.Reads as deliver-says
use Rattle.server.proofs.hislip_deliver.Kinds as deliver-kinds
use Rattle.server.proofs.hislip_cut.Reads as cut-says
use Rattle.server.proofs.hislip_cut.Kinds as cut-kinds
use Rattle.server.proofs.hislip_clock.Reads as clock-says
use Rattle.server.proofs.hislip_clock.Kinds as clock-kinds
use Rattle.server.proofs.hislip_answer.Reads as answer-says
use Rattle.server.proofs.hislip_answer.Kinds as answer-kinds
use Rattle.server.proofs.watches.hislip_watch_off.Reads as watch-off-says
use Rattle.server.proofs.watches.hislip_watch_off.Kinds as watch-off-kinds
use Rattle.server.proofs.watches.hislip_watch_above.Reads as watch-above-says
use Rattle.server.proofs.watches.hislip_watch_above.Kinds as watch-above-kinds
use Rattle.server.proofs.watches.hislip_watch_outside.Reads as watch-outside-says
use Rattle.server.proofs.watches.hislip_watch_outside.Kinds as watch-outside-kinds
use Rattle.server.proofs.hislip_status.Reads as status-says
use Rattle.server.proofs.hislip_status.Kinds as status-kinds
use Rattle.server.proofs.listing.hislip_patterns.Reads as patterns-says
use Rattle.server.proofs.listing.hislip_patterns.Kinds as patterns-kinds

-- memory that hislip_new wrote, for a server made as v says
pub data Written : Making → Memory → Type 0 where
  hislip_new : (κs : Lfts 2) (a : Dens κs new-kinds.ps) (r : (res_t new-kinds.r κs).Denot) (s : AtExit (ended_of 2 new-kinds.ps new-kinds.r) κs)
      → new-says.Post κs a r s → Written (record { vendor = a.1.1.0; prefers_overlap = not (eqb a.1.1.1.0 0) }) (memory s.0.now s.1.0.now)

-- from one memory to another by calls of the exported functions; nobody else writes it, and each call lends whatever buffer
pub data Executed : Memory → List Seen → Memory → Type 0 where
  stopped : {m : Memory} → Executed m [] m
  hislip_open : {m'' : Memory} {ss : List Seen} (κs : Lfts 2) (a : Dens κs open-kinds.ps) (r : (res_t open-kinds.r κs).Denot) (s : AtExit (ended_of 2 open-kinds.ps open-kinds.r) κs)
      → open-says.Post κs a r s → Executed (memory s.0.now s.1.0.now) ss m''
      → Executed (memory a.0.now a.1.0.now) (record { event = opening a.1.1.0; reply = done_reply r; output = [] } ∷ ss) m''
  hislip_deliver : {m'' : Memory} {ss : List Seen} (κs : Lfts 4) (a : Dens κs deliver-kinds.ps) (r : (res_t deliver-kinds.r κs).Denot) (s : AtExit (ended_of 4 deliver-kinds.ps deliver-kinds.r) κs)
      → deliver-says.Post κs a r s → Executed (memory s.0.now s.1.0.now) ss m''
      → Executed (memory a.0.now a.1.0.now)
      (record { event = delivery a.1.1.0 a.1.1.1.0.now (length a.1.1.1.1.0.now); reply = delivery_reply r; output = take r.output s.1.1.1.1.0.now } ∷ ss) m''
  hislip_cut : {m'' : Memory} {ss : List Seen} (κs : Lfts 3) (a : Dens κs cut-kinds.ps) (r : (res_t cut-kinds.r κs).Denot) (s : AtExit (ended_of 3 cut-kinds.ps cut-kinds.r) κs)
      → cut-says.Post κs a r s → Executed (memory s.0.now s.1.0.now) ss m''
      → Executed (memory a.0.now a.1.0.now) (record { event = cut a.1.1.0 (length a.1.1.1.0.now); reply = done_reply r; output = take r.output s.1.1.1.0.now } ∷ ss) m''
  hislip_clock : {m'' : Memory} {ss : List Seen} (κs : Lfts 3) (a : Dens κs clock-kinds.ps) (r : (res_t clock-kinds.r κs).Denot) (s : AtExit (ended_of 3 clock-kinds.ps clock-kinds.r) κs)
      → clock-says.Post κs a r s → Executed (memory s.0.now s.1.0.now) ss m''
      → Executed (memory a.0.now a.1.0.now) (record { event = clock a.1.1.0 (length a.1.1.1.0.now); reply = done_reply r; output = take r.output s.1.1.1.0.now } ∷ ss) m''
  hislip_answer : {m'' : Memory} {ss : List Seen} (κs : Lfts 5) (a : Dens κs answer-kinds.ps) (r : (res_t answer-kinds.r κs).Denot) (s : AtExit (ended_of 5 answer-kinds.ps answer-kinds.r) κs)
      → answer-says.Post κs a r s → Executed (memory s.0.now s.1.0.now) ss m''
      → Executed (memory a.0.now a.1.0.now)
      (record {
        event = answer a.1.1.0 a.1.1.1.0.now (not (eqb a.1.1.1.1.0 0)) a.1.1.1.1.1.0.now
            (length a.1.1.1.1.1.1.0.now);
        reply = answered_reply r;
        output = take r.output s.1.1.1.1.1.1.0.now;
      } ∷ ss) m''
  hislip_watch_off : {m'' : Memory} {ss : List Seen} (κs : Lfts 2) (a : Dens κs watch-off-kinds.ps) (r : (res_t watch-off-kinds.r κs).Denot)
      (s : AtExit (ended_of 2 watch-off-kinds.ps watch-off-kinds.r) κs)
      → watch-off-says.Post κs a r s → Executed (memory s.0.now s.1.0.now) ss m''
      → Executed (memory a.0.now a.1.0.now) (record { event = setting (watch a.1.1.0 off); reply = done_reply r; output = [] } ∷ ss) m''
  hislip_watch_above : {m'' : Memory} {ss : List Seen} (κs : Lfts 2) (a : Dens κs watch-above-kinds.ps) (r : (res_t watch-above-kinds.r κs).Denot)
      (s : AtExit (ended_of 2 watch-above-kinds.ps watch-above-kinds.r) κs)
      → watch-above-says.Post κs a r s → Executed (memory s.0.now s.1.0.now) ss m''
      → Executed (memory a.0.now a.1.0.now) (record { event = setting (watch a.1.1.0 (above (bits a.1.1.1.0))); reply = done_reply r; output = [] } ∷ ss) m''
  hislip_watch_outside : {m'' : Memory} {ss : List Seen} (κs : Lfts 2) (a : Dens κs watch-outside-kinds.ps) (r : (res_t watch-outside-kinds.r κs).Denot)
      (s : AtExit (ended_of 2 watch-outside-kinds.ps watch-outside-kinds.r) κs)
      → watch-outside-says.Post κs a r s → Executed (memory s.0.now s.1.0.now) ss m''
      → Executed (memory a.0.now a.1.0.now) (record {
        event = setting (watch a.1.1.0 (outside (bits a.1.1.1.0) (bits a.1.1.1.1.0)));
        reply = done_reply r;
        output = [];
      } ∷ ss) m''
  hislip_status : {m'' : Memory} {ss : List Seen} (κs : Lfts 2) (a : Dens κs status-kinds.ps) (r : (res_t status-kinds.r κs).Denot) (s : AtExit (ended_of 2 status-kinds.ps status-kinds.r) κs)
      → status-says.Post κs a r s → Executed (memory s.0.now s.1.0.now) ss m''
      → Executed (memory a.0.now a.1.0.now) (record { event = status a.1.1.0; reply = done; output = [] } ∷ ss) m''
  hislip_patterns : {m'' : Memory} {ss : List Seen} (κs : Lfts 3) (a : Dens κs patterns-kinds.ps) (r : (res_t patterns-kinds.r κs).Denot) (s : AtExit (ended_of 3 patterns-kinds.ps patterns-kinds.r) κs)
      → patterns-says.Post κs a r s → Executed (memory s.0.now s.1.0.now) ss m''
      → Executed (memory a.0.now a.1.0.now) (record { event = setting (patterns a.1.1.0.now); reply = listed_reply r; output = [] } ∷ ss) m''

-- each contract is the premise of `Fresh` and `Run`, word for word
fresh : {v : Making} {m : Memory} → Written v m → Fresh v m
fresh (hislip_new κs a r s p) = p

runs : {m m' : Memory} {ss : List Seen} → Executed m ss m' → Run m ss m'
runs stopped = stop
runs (hislip_open κs a r s p g) = Ran-open a.1.1.0 r p (runs g)
runs (hislip_deliver κs a r s p g) = ran-deliver a.1.1.0 a.1.1.1.0.now a.1.1.1.1.0.now s.1.1.1.1.0.now r p (runs g)
runs (hislip_cut κs a r s p g) = ran-cut a.1.1.0 a.1.1.1.0.now s.1.1.1.0.now r p (runs g)
runs (hislip_clock κs a r s p g) = ran-clock a.1.1.0 a.1.1.1.0.now s.1.1.1.0.now r p (runs g)
runs (hislip_answer κs a r s p g) = ran-answer a.1.1.0 a.1.1.1.0.now a.1.1.1.1.0 a.1.1.1.1.1.0.now a.1.1.1.1.1.1.0.now s.1.1.1.1.1.1.0.now r p (runs g)
runs (hislip_watch_off κs a r s p g) = ran-watch a.1.1.0 off r p (runs g)
runs (hislip_watch_above κs a r s p g) = ran-watch a.1.1.0 (above (bits a.1.1.1.0)) r p (runs g)
runs (hislip_watch_outside κs a r s p g) = ran-watch a.1.1.0 (outside (bits a.1.1.1.0) (bits a.1.1.1.1.0)) r p (runs g)
runs (hislip_status κs a r s p g) = ran-status a.1.1.0 p (runs g)
runs (hislip_patterns κs a r s p g) = ran-patterns a.1.1.0.now r p (runs g)

pub about_the_code : Program Written Executed
about_the_code =
    record {
      by_definition = λ m m' ss g. program.by_definition m m' ss (runs g);
      view_decides = λ m m' n n' ss rs v f g. program.view_decides m m' n n' ss rs v (runs f) (runs g);
      demand3 = λ v m m' ss f g. program.demand3 v m m' ss (fresh f) (runs g);
      in_order = λ v m m' ss l f g. program.in_order v m m' ss l (fresh f) (runs g);
      one_memory = λ v m m' n n' ss rs l f g f' g'. program.one_memory v m m' n n' ss rs l (fresh f) (runs g) (fresh f') (runs g');
      decides = λ v m m' ss f g. program.decides v m m' ss (fresh f) (runs g);
      taken_whole = λ v m m' ss f g. program.taken_whole v m m' ss (fresh f) (runs g);
      reads_back = λ v m m' ss l f g. program.reads_back v m m' ss l (fresh f) (runs g);
      acts_exactly = λ v m m' ss f g. program.acts_exactly v m m' ss (fresh f) (runs g);
      opens = λ v m m' ss f g. program.opens v m m' ss (fresh f) (runs g);
      locality = λ m m' ss g. program.locality m m' ss (runs g);
      tie = λ v m m' m'' ss s f g g'. program.tie v m m' m'' ss s (fresh f) (runs g) (runs g');
      in_time = λ v m m' m'' ss s f g g'. program.in_time v m m' m'' ss s (fresh f) (runs g) (runs g');
      withheld_answer = λ v m m' m'' ss s f g g'. program.withheld_answer v m m' m'' ss s (fresh f) (runs g) (runs g');
      number_read = λ v m m' ss f g. program.number_read v m m' ss (fresh f) (runs g);
      number_carried = λ v m m' m'' ss s f g g'. program.number_carried v m m' m'' ss s (fresh f) (runs g) (runs g');
      out_of_step = λ m m' s g. program.out_of_step m m' s (runs g);
      in_step = λ v m m' ss f g. program.in_step v m m' ss (fresh f) (runs g);
      list_read_lem = λ v m m' ss f g. program.list_read_lem v m m' ss (fresh f) (runs g);
      allowed_only = λ v m m' m'' ss s f g g'. program.allowed_only v m m' m'' ss s (fresh f) (runs g) (runs g');
      not_allowed = λ v m m' m'' ss s f g g'. program.not_allowed v m m' m'' ss s (fresh f) (runs g) (runs g');
      only_128 = λ m m' s g. program.only_128 m m' s (runs g);
      refused_same = λ m m' s g. program.refused_same m m' s (runs g);
      standing = λ v m m' ss f g. program.standing v m m' ss (fresh f) (runs g);
      isolation = λ v m m' m'' ss rs f g j h g'. program.isolation v m m' m'' ss rs (fresh f) (runs g) j h (runs g');
      fewer_locks = λ m m' n n' a b g g'. program.fewer_locks m m' n n' a b (runs g) (runs g');
      answered_once = λ v m m' m'' m''' ss s rs l f g g' g''. program.answered_once v m m' m'' m''' ss s rs l (fresh f) (runs g) (runs g') (runs g'');
      sensing_seen_lem = λ v m m' ss f g. program.sensing_seen_lem v m m' ss (fresh f) (runs g);
      served = λ v m m' m'' ss s l f g g'. program.served v m m' m'' ss s l (fresh f) (runs g) (runs g');
      holders_shown = λ v m m' ss f g. program.holders_shown v m m' ss (fresh f) (runs g);
      grants_seen = λ v m m' ss l f g. program.grants_seen v m m' ss l (fresh f) (runs g);
    }
