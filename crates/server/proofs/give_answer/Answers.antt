-- `give_answer` meets its contract: withheld or sent.
use mathlib.Core.Path.{◌∙◌}
use mathlib.Core.List.{[]}
use Prim.Native.Nat.{◌≤◌}
use lib.ListN.{length}
use Rattle.exchanges.specs.Interrupted.{header_shown}
use Rattle.server.specs.Answers.{gives_sent, gives_withheld}
use Rattle.state.specs.View.{memory, view}
use borrow.Author.Rules.{rules}
use Rattle.server.proofs.give_answer.Goals as goal

-- a whole header is shown
pub withhold-n-requires : goal.withhold-n-requires
withhold-n-requires c = let a = c.args in
    let h : 16 ≤ length a.shown.now = header_shown (view (memory a.words.now [])) a.i a.«end» a.shown.now
    (c.withholds.ensures [] ∙ c.if-withholds.true) in
    search (rules, h)

pub returns-then-withholds : goal.returns-then-withholds
returns-then-withholds c = let a = c.args in (
  λ s. gives_withheld (view (memory a.words.now s)) a.i a.«end» a.payload.now a.shown.now _ _ _ _
      c.withhold-n.result (c.withholds.ensures s
      ∙ c.if-withholds.true)
      (c.withhold-n.ensures.0 s) c.replied.ensures,
  c.withhold-n.ensures.1,
)

pub returns : goal.returns
returns c = let a = c.args in (
  λ s. gives_sent (view (memory a.words.now s)) a.i a.«end» a.payload.now a.shown.now _ _ _ _
      c.send_readings-n.result (c.withholds.ensures s
      ∙ c.if-withholds.false)
      (c.send_readings-n.ensures.0 s) c.replied-2.ensures,
  c.send_readings-n.ensures.1,
)
