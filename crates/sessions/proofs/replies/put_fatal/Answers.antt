-- `replies::put_fatal` meets its contract: to the connection alone, to one channel, to both.
use mathlib.Core.Path.{◌≡◌, ◌∙◌}
use mathlib.Core.List.{List, [], ◌∷◌}
use Prim.Native.Nat.{ℕ, ◌%◌}
use native.Mathlib.Omega.{arith}
use Rattle.model.specs.State.{at}
use Rattle.model.specs.Step.{channels}
use Rattle.state.specs.Search.{synchronous_read, asynchronous_read}
use Rattle.sessions.specs.Closing.{channels_of, channels_none, one_channel, two_channels}
use Rattle.sessions.specs.Replies.{fatal_one, fatal_one_length, fatal_two, fatal_two_length}
use Rattle.state.specs.View.{locks_of, memory, view}
use borrow.Author.Rules.{rules}
use Rattle.sessions.proofs.replies.put_fatal.Goals as goal

pub returns-then-i-ge-SESSION_LIMIT : goal.returns-then-i-ge-SESSION_LIMIT
returns-then-i-ge-SESSION_LIMIT c = let a = c.args in
    let f = c.requires.2 in
    let e : (s : List ℕ) → channels (view (memory a.w.now s)) a.c ≡ a.c ∷ [] = λ s. channels_none a.w.now s a.c a.i (f s) (search rules) in
    (omega arith, λ s. fatal_one a.out.now _ a.code a.c _ (e s) c.put_frame.ensures, λ s. fatal_one_length a.out.now a.out.now a.code a.c _ (e s))

pub returns-then-y-eq-NO_CONNECTION : goal.returns-then-y-eq-NO_CONNECTION
returns-then-y-eq-NO_CONNECTION c = let a = c.args in
    let f = c.requires.2 in
    let x = c.entry.result % 256 in
    let y = c.entry-y.result % 256 in
    let out = a.out.now in
    let e : (s : List ℕ) → (at (locks_of a.w.now s).entries a.i).synchronous ≡ x =
    λ s. synchronous_read (at (locks_of a.w.now s).entries a.i) c.entry.result
    (c.entry.ensures.0 s) in
    let g : (s : List ℕ) → (at (locks_of a.w.now s).entries a.i).asynchronous ≡ y =
    λ s. asynchronous_read (at (locks_of a.w.now s).entries a.i) c.entry-y.result
    (c.entry-y.ensures.0 s) in
    let q : (s : List ℕ) → channels (view (memory a.w.now s)) a.c ≡ x ∷ [] = λ s. channels_of a.w.now s a.c a.i (f s) (search rules)
    ∙ one_channel (at (locks_of a.w.now s).entries a.i) x y (e s) (g s) c.if-y-eq-NO_CONNECTION.true in
    (omega arith, λ s. fatal_one out _ a.code x _ (q s) c.put_frame-2.ensures, λ s. fatal_one_length out out a.code x _ (q s))

pub returns : goal.returns
returns c = let a = c.args in
    let f = c.requires.2 in
    let x = c.entry.result % 256 in
    let y = c.entry-y.result % 256 in
    let out = a.out.now in
    let e : (s : List ℕ) → (at (locks_of a.w.now s).entries a.i).synchronous ≡ x =
    λ s. synchronous_read (at (locks_of a.w.now s).entries a.i)
    c.entry.result
    (c.entry.ensures.0 s) in
    let g : (s : List ℕ) → (at (locks_of a.w.now s).entries a.i).asynchronous ≡ y =
    λ s. asynchronous_read (at (locks_of a.w.now s).entries a.i)
    c.entry-y.result
    (c.entry-y.ensures.0 s) in
    let q : (s : List ℕ) → channels (view (memory a.w.now s)) a.c ≡ x ∷ y ∷ [] = λ s. channels_of a.w.now s a.c a.i (f s) (search rules)
    ∙ two_channels (at (locks_of a.w.now s).entries a.i) x y (e s) (g s) c.if-y-eq-NO_CONNECTION.false in (
      omega arith,
      λ s. fatal_two out _ a.code x _ _ y (q s) (omega arith) c.put_frame-2.ensures
          c.put_frame-3.ensures,
      λ s. fatal_two_length out out a.code x _ y (q s),
    )
