-- `granting::grant_and_answer` meets its contract.
use Rattle.queue.specs.Requests.{string_at}
use Rattle.state.specs.View.{memory, view}
use Rattle.grants.specs.Granting.{given_noted}
use Rattle.grants.proofs.granting.grant_and_answer.Goals as goal

pub returns : goal.returns
returns c = let a = c.args in
    let p = c.put_answer-r.ensures in
    let g = c.grant.ensures in
    let n = c.note_grant.ensures in
    record {
      server = given_noted (view (memory a.w.now a.strings.now)) _ _ a.i (string_at a.w.now a.strings.now a.i) g.0 (n.0 _);
      buffer = p.1 a.strings.now;
      place = p.0;
      tidy = λ t. n.1 _ (g.1 t);
    }
