-- Every statement of model/specs/Statements.antt, proved: each by the theorem of its own file.
use Rattle.model.specs.Statements.{Statements}
use Rattle.claims.proofs.Refused.{for_its_cause, changes_nothing_lem}
use Rattle.claims.proofs.Bound.{output_fits}
use Rattle.claims.proofs.Reader.{one_reader}
use Rattle.claims.proofs.SentFits.{sent_fits}
use Rattle.claims.proofs.Permitted.{permitted_acts}
use Rattle.claims.proofs.Malformed.{malformed}
use Rattle.claims.proofs.Opening.{sessions_open}
use Rattle.claims.proofs.SessionId.{numbers_issued}
use Rattle.claims.proofs.Sending.{sending}
use Rattle.claims.proofs.GrantingRule.{may_exclusive, exclusive_may, may_shared, shared_may}
use Rattle.claims.proofs.Access.{accessed}
use Rattle.claims.proofs.InStep.{out, in_steps}
use Rattle.claims.proofs.AllowedOnly.{allowed_only, only_128}
use Rattle.claims.proofs.Listing.{tells_bad, allowed_run}
use Rattle.claims.proofs.Canonical.{canonical_history}
use Rattle.claims.proofs.FixedPoint.{fixed_point}
use Rattle.claims.proofs.OnlyWhole.{taken_whole}
use Rattle.claims.proofs.Outcomes.{outcomes_tell}
use Rattle.claims.proofs.Standing.{stands_on}
use Rattle.claims.proofs.Missing.{tells_missing}
use Rattle.claims.proofs.Agreement.{agreement}
use Rattle.claims.proofs.Deciding.{deciding, run_decides}
use Rattle.claims.proofs.Closing.{closings}
use Rattle.claims.proofs.Counting.{counted}
use Rattle.claims.proofs.Demand3.{demand3}
use Rattle.claims.proofs.ReadBack.{reads_back}
use Rattle.claims.proofs.Tied.{tie}
use Rattle.claims.proofs.NextQuestion.{next_question}
use Rattle.claims.proofs.Isolation.{isolated}
use Rattle.claims.proofs.IsolationRun.{isolation_run}
use Rattle.claims.proofs.Locality.{local_run}
use Rattle.claims.proofs.LocalityTable.{nothing_free}
use Rattle.claims.proofs.Fewer.{fewer_never_hurts}
use Rattle.claims.proofs.AnsweredOnce.{answered_once}
use Rattle.claims.proofs.Holders.{holders_shown}
use Rattle.claims.proofs.GrantsSeen.{grants_seen}
use Rattle.claims.proofs.Watching.{watches}
use Rattle.claims.proofs.Fits.{found_run, inv_run}
use Rattle.claims.proofs.OneString.{one_string}
use Rattle.claims.proofs.AlwaysRoom.{always_room}

pub statements : Statements
statements =
    record {
      demand1 = record { for_its_cause = for_its_cause; changes_nothing_lem = changes_nothing_lem; output_fits = output_fits };
      demand2 = record {
        one_reader = one_reader;
        sent_fits = sent_fits;
        permitted = permitted_acts;
        malformed = malformed;
        openings = sessions_open;
        session_ids = numbers_issued;
        sends = sending;
        exclusive_rule = λ es i. (may_exclusive es i, exclusive_may es i);
        shared_rule = λ es i x k. (may_shared es i x k, shared_may es i x k);
        access = accessed;
        out_of_step = out;
        in_step = in_steps;
        allowed_only = allowed_only;
        only_128 = only_128;
        allowed_run = allowed_run;
        tells_bad = tells_bad;
        standing = stands_on;
        missing = λ d c bs room. tells_missing d c room bs;
      };
      demand3 = record {
        canonical_history = λ d es. canonical_history es d;
        fixed_point = fixed_point;
        taken_whole = taken_whole;
        outcomes_tell = outcomes_tell;
        lock_model = agreement;
        decides = run_decides;
        decides_next = deciding;
        settled = λ v es. (inv_run v es).quiet;
        closings = closings;
        count = counted;
        calls = λ view v m m' ss f c. demand3 view v m f c;
        reads_back = reads_back;
      };
      beyond = record {
        tie = tie;
        next_question = next_question;
        isolated = isolated;
        isolation = isolation_run;
        locality = local_run;
        nothing_free = nothing_free;
        fewer_locks = fewer_never_hurts;
        answered_once = answered_once;
        holders_shown = holders_shown;
        grants_seen = grants_seen;
        watches = watches;
        found = found_run;
        one_string = one_string;
        always_room = always_room;
      };
    }
