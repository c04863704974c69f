-- `answer_refusal` meets its contract: the causes in their order.
use mathlib.Core.Path.{◌≡◌, ◌∙◌}
use mathlib.Core.Bool.{true}
use mathlib.Core.List.{List}
use Prim.Native.Nat.{ℕ}
use native.Mathlib.Omega.{arith}
use Rattle.model.specs.Exchange.{may_answer}
use Rattle.model.specs.State.{at, live, exchange_at}
use Rattle.questions.specs.Found.{not_there, not_live, is_live, size_read}
use Rattle.server.specs.Answers.{refused_nobody, refused_unasked, refused_long, refused_over, not_refused}
use Rattle.state.specs.Search.{number_read}
use Rattle.state.specs.View.{memory, view, locks_of, rest_of}
use Rattle.server.proofs.answer_refusal.Goals as goal

pub returns-then-i-ge-SESSION_LIMIT : goal.returns-then-i-ge-SESSION_LIMIT
returns-then-i-ge-SESSION_LIMIT c = let w = c.args.words.now in
    let i = c.args.i in
    let n = c.args.n in
    (λ s. refused_nobody (view (memory w s)) i n (not_there w s i c.if-i-ge-SESSION_LIMIT.true), λ e. absurd (omega arith))

pub returns-then-entry-eq0 : goal.returns-then-entry-eq0
returns-then-entry-eq0 c = let w = c.args.words.now in
    let i = c.args.i in
    let n = c.args.n in (
      λ s. refused_nobody (view (memory w s)) i n (not_live (at (locks_of w s).entries i) c.entry.result
          (number_read (at (locks_of w s).entries i) c.entry.result (c.entry.ensures.0 s)) c.if-entry-eq0.true),
      λ e. absurd (omega arith),
    )

pub returns-then-not-may_answer : goal.returns-then-not-may_answer
returns-then-not-may_answer c = let w = c.args.words.now in
    let i = c.args.i in
    let n = c.args.n in
    let l : (s : List ℕ) → live (at (locks_of w s).entries i) ≡ true =
    λ s. is_live (at (locks_of w s).entries i) c.entry.result
    (number_read (at (locks_of w s).entries i) c.entry.result (c.entry.ensures.0 s))
    c.if-entry-eq0.false in
    (λ s. refused_unasked (view (memory w s)) i n (l s) (c.may_answer.ensures s ∙ c.if-not-may_answer.true), λ e. absurd (omega arith))

pub returns-then-n-gt-PAYLOAD_LIMIT : goal.returns-then-n-gt-PAYLOAD_LIMIT
returns-then-n-gt-PAYLOAD_LIMIT c = let w = c.args.words.now in
    let i = c.args.i in
    let n = c.args.n in
    let l : (s : List ℕ) → live (at (locks_of w s).entries i) ≡ true =
    λ s. is_live (at (locks_of w s).entries i) c.entry.result
    (number_read (at (locks_of w s).entries i) c.entry.result
    (c.entry.ensures.0 s)) c.if-entry-eq0.false in
    let k : (s : List ℕ) → may_answer (at (locks_of w s).entries i) (exchange_at (rest_of w) i) ≡ true = λ s. c.may_answer.ensures s
    ∙ c.if-not-may_answer.false in
    (λ s. refused_long (view (memory w s)) i n (l s) (k s) c.if-n-gt-PAYLOAD_LIMIT.true, λ e. absurd (omega arith))

pub returns-then-exchange-n : goal.returns-then-exchange-n
returns-then-exchange-n c = let w = c.args.words.now in
    let i = c.args.i in
    let n = c.args.n in
    let l : (s : List ℕ) → live (at (locks_of w s).entries i) ≡ true =
    λ s. is_live (at (locks_of w s).entries i) c.entry.result
    (number_read (at (locks_of w s).entries i) c.entry.result
    (c.entry.ensures.0 s)) c.if-entry-eq0.false in
    let k : (s : List ℕ) → may_answer (at (locks_of w s).entries i) (exchange_at (rest_of w) i) ≡ true =
    λ s. c.may_answer.ensures s
    ∙ c.if-not-may_answer.false in
    let z : c.exchange.result ≡ (exchange_at (rest_of w) i).client_size = size_read (exchange_at (rest_of w) i) c.exchange.result c.exchange.ensures.0 in
    (λ s. refused_over (view (memory w s)) i n (l s) (k s) c.if-n-gt-PAYLOAD_LIMIT.false (omega arith), λ e. absurd (omega arith))

pub returns : goal.returns
returns c = let w = c.args.words.now in
    let i = c.args.i in
    let n = c.args.n in
    let l : (s : List ℕ) → live (at (locks_of w s).entries i) ≡ true =
    λ s. is_live (at (locks_of w s).entries i) c.entry.result
    (number_read (at (locks_of w s).entries i) c.entry.result
    (c.entry.ensures.0 s)) c.if-entry-eq0.false in
    let k : (s : List ℕ) → may_answer (at (locks_of w s).entries i) (exchange_at (rest_of w) i) ≡ true =
    λ s. c.may_answer.ensures s
    ∙ c.if-not-may_answer.false in
    let z : c.exchange.result ≡ (exchange_at (rest_of w) i).client_size = size_read (exchange_at (rest_of w) i) c.exchange.result c.exchange.ensures.0 in (
      λ s. not_refused (view (memory w s)) i n (l s) (k s) c.if-n-gt-PAYLOAD_LIMIT.false (omega arith),
      λ e.
          (c.if-i-ge-SESSION_LIMIT.false, c.if-n-gt-PAYLOAD_LIMIT.false),
    )
