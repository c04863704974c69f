-- The synchronous channel's row of rules, by the tests of the code: one law for each way out. Assumes nothing.
use Rattle.std.specs.Prelude.{◌≡◌, refl, Bool, not, ◌&&◌, cond, List, [], ◌∷◌, ◌++◌, ℕ, ◌%◌, ◌^◌, ◌≤◌, ◌<◌, eqb, ltb, leb, take}
use Rattle.std.proofs.Common.{sym, ap, ◌∙◌, true≢false}
use Rattle.std.proofs.Math.Bool.{true, false}
use borrow.Author.Tests.{lt-ltb, le-ltb, eq-eqb, ne_eqb, eqb-true}
use Rattle.wire.specs.Class.{Class.acted_on, Class.vendor, Class.unrecognised, class_of, synchronous, one_of, acted_on_types}
use Rattle.model.specs.MessageTypes.{FatalError, Error as ErrorType, DataEND, DeviceClearComplete, Initialize, Trigger, commands}
use Rattle.model.specs.Lists.{all}
use Rattle.model.specs.State.{Server, Exchange, exchange_at, Allowed.any_command, with_allowed}
use Rattle.model.specs.Allowing.{admits}
use Rattle.model.specs.Locks.{access}
use Rattle.model.specs.Checks.{Verdict, Verdict.v_more, Verdict.v_skipped, Verdict.v_held, Verdict.v_ignored, Verdict.v_closed, Verdict.v_acts}
use Rattle.model.specs.Checks.{Verdict.v_error, Verdict.v_fatal, Rule, first, is_vendor, is_unrecognised, synchronous_rules}
use Rattle.state.specs.Change.{exchange_with}
use Rattle.checks.specs.declared.verdict.Verdict.{Verdict as Told}
use Rattle.checks.specs.declared.verdict.Verdict.TheVariants.{More, Held, Ignored, Closed, Acts, Fatal, Error}
use Rattle.checks.specs.Verdicts.{message, verdict_meant}

-- what the word that was read says
pub clear_read : (x : Exchange) (r : ℕ) → exchange_with 0 r x ≡ x → x.in_clear ≡ eqb r 1
clear_read x r q = sym (ap (λ (y : Exchange). y.in_clear) q)

pub number_read : (x : Exchange) (r : ℕ) → exchange_with 8 r x ≡ x → x.number_expected ≡ r % 2 ^ 32
number_read x r q = sym (ap (λ (y : Exchange). y.number_expected) q)

-- check 10 of DeviceClearComplete: no payload, and only in a clear
unfoldable pub completed : Bool → ℕ → Verdict
completed clearing len = cond (ltb 0 len) (v_error 0) (cond clearing v_acts (v_error 0))

module _ (clearing : Bool) (len : ℕ) where
  pub complete_payload : 0 < len → completed clearing len ≡ v_error 0
  unfolding completed
  complete_payload l = rw (lt-ltb 0 len l)

  pub complete_acts : len ≤ 0 → clearing ≡ true → completed clearing len ≡ v_acts
  unfolding completed
  complete_acts l q = rw (le-ltb 0 len l, q)

  pub complete_outside : clearing ≡ false → completed clearing len ≡ v_error 0
  unfolding completed
  complete_outside q = rw q (by (ltb 0 len))
    where
      by : (b : Bool) → cond b (v_error 0) (v_error 0) ≡ v_error 0
      by true = refl
      by false = refl

-- checks 9 and 10 of Data, DataEND and Trigger, and the number between them
unfoldable pub commanded : Bool → Bool → ℕ → ℕ → ℕ → Verdict
commanded may expected kind code len =
    cond may
    (cond expected (cond (ltb 1 code) (v_error 2) (cond (eqb kind Trigger && ltb 0 len) (v_error 0) v_acts)) (v_error 0))
    v_held

module _ (may expected : Bool) (kind code len : ℕ) where
  pub command_held : may ≡ false → commanded may expected kind code len ≡ v_held
  unfolding commanded
  command_held a = rw a

  module _ (a : may ≡ true) where
    pub command_number : expected ≡ false → commanded may expected kind code len ≡ v_error 0
    unfolding commanded
    command_number o = rw (a, o)

    module _ (o : expected ≡ true) where
      pub command_code : 1 < code → commanded may expected kind code len ≡ v_error 2
      unfolding commanded
      command_code l = rw (a, o, lt-ltb 1 code l)

      module _ (l : code ≤ 1) where
        pub command_acts : (kind ≡ Trigger → ⊥) → commanded may expected kind code len ≡ v_acts
        unfolding commanded
        command_acts n = rw (a, o, le-ltb 1 code l, ne_eqb kind 12 n)

        module _ (e : kind ≡ Trigger) where
          pub trigger_payload : 0 < len → commanded may expected kind code len ≡ v_error 0
          unfolding commanded
          trigger_payload m = rw (a, o, le-ltb 1 code l, e, lt-ltb 0 len m)

          pub trigger_acts : len ≤ 0 → commanded may expected kind code len ≡ v_acts
          unfolding commanded
          trigger_acts m = rw (a, o, le-ltb 1 code l, e, le-ltb 0 len m)

-- neither vendor nor unrecognised: the type is one of those that the server acts on
acts_on : (b c : Bool) → is_vendor (cond b vendor (cond c acted_on unrecognised)) ≡ false → is_unrecognised (cond b vendor (cond c acted_on unrecognised)) ≡ false → c ≡ true
acts_on true c v u = absurd (true≢false v)
acts_on false true v u = refl
acts_on false false v u = sym u

and_false : (b : Bool) → (b && false) ≡ false
and_false true = refl
and_false false = refl

module _ (d : Server) (i kind code param len : ℕ) (p : List ℕ) where
  abbrev pub row : Verdict
  row = first (synchronous_rules d i (message kind code param len) p)

  pub sync_closed : kind ≡ FatalError → row ≡ v_closed
  sync_closed e = rw e

  pub sync_error : kind ≡ ErrorType → row ≡ v_ignored
  sync_error e = rw e

  module _ (n2 : kind ≡ FatalError → ⊥) (n3 : kind ≡ ErrorType → ⊥) where
    pub sync_complete : (b : Bool) → (exchange_at d.rest i).in_clear ≡ b → kind ≡ DeviceClearComplete → row ≡ completed b len
    unfolding completed class_of
    sync_complete true q e = rw (e, q)
    sync_complete false q e = rw (e, q)

    module _ (n8 : kind ≡ DeviceClearComplete → ⊥) where
      pub sync_ignored : (exchange_at d.rest i).in_clear ≡ true → row ≡ v_ignored
      sync_ignored q = rw (ne_eqb kind 2 n2, ne_eqb kind 3 n3, q, ne_eqb kind 8 n8)

      module _ (q : (exchange_at d.rest i).in_clear ≡ false) where
        pub sync_vendor : is_vendor (class_of synchronous kind) ≡ true → row ≡ v_error 3
        sync_vendor v = rw (ne_eqb kind 2 n2, ne_eqb kind 3 n3, q, v)

        module _ (v : is_vendor (class_of synchronous kind) ≡ false) where
          pub sync_unrecognised : is_unrecognised (class_of synchronous kind) ≡ true → row ≡ v_error 1
          sync_unrecognised u = rw (ne_eqb kind 2 n2, ne_eqb kind 3 n3, q, v, u)

          module _ (u : is_unrecognised (class_of synchronous kind) ≡ false) where
            pub sync_again : kind ≡ Initialize → row ≡ v_fatal 3
            unfolding class_of
            sync_again e = rw (e, q)

            module _ (n0 : kind ≡ Initialize → ⊥) where
              -- Data, DataEND and Trigger are left
              is_command_lem : one_of commands kind ≡ true
              unfolding class_of
              is_command_lem =
                  rw (ne_eqb kind 0 n0, ne_eqb kind 2 n2, ne_eqb kind 3 n3, ne_eqb kind 8 n8) at
                  (acts_on (leb 128 kind) (one_of (acted_on_types synchronous) kind) v u)

              -- where any command is allowed
              pub sync_command : (b m : Bool) → access d.locks.entries i ≡ b → eqb param (exchange_at d.rest i).number_expected ≡ m → admits d.rest.allowed p ≡ true
                  → row ≡ commanded b m kind code len
              unfolding commanded
              sync_command true true a o l = rw (is_command_lem, ne_eqb kind 2 n2, ne_eqb kind 3 n3, q, v, u, ne_eqb kind 0 n0, ne_eqb kind 8 n8, a, o, l, and_false (eqb kind 7))
              sync_command true false a o l = rw (is_command_lem, ne_eqb kind 2 n2, ne_eqb kind 3 n3, q, v, u, ne_eqb kind 0 n0, a, o)
              sync_command false m a o l = rw (is_command_lem, ne_eqb kind 2 n2, ne_eqb kind 3 n3, q, v, u, ne_eqb kind 0 n0, a)

-- the list's rule is the last of the row, so the rest of it may be asked first, as if any command were allowed
abbrev pub with_any_command : Server → Server
with_any_command d = record { locks = d.locks; rest = with_allowed d.rest any_command }

abbrev is_acts : Verdict → Bool
is_acts v_acts = true
is_acts v_more = false
is_acts v_skipped = false
is_acts v_held = false
is_acts v_ignored = false
is_acts v_closed = false
is_acts (v_error k) = false
is_acts (v_fatal k) = false

-- one verdict of the code means that a message acts
pub only_acts : (v : Told) → verdict_meant v ≡ v_acts → v ≡ Acts
only_acts More e = absurd (true≢false (ap is_acts (sym e)))
only_acts Held e = absurd (true≢false (ap is_acts (sym e)))
only_acts Ignored e = absurd (true≢false (ap is_acts (sym e)))
only_acts Closed e = absurd (true≢false (ap is_acts (sym e)))
only_acts Acts e = refl
only_acts (Fatal k) e = absurd (true≢false (ap is_acts (sym e)))
only_acts (Error k) e = absurd (true≢false (ap is_acts (sym e)))

and_behind : (a b : Bool) → (not a && b) ≡ true → (a ≡ false) × (b ≡ true)
and_behind true b e = absurd (true≢false (sym e))
and_behind false b e = (refl, e)

-- a rule behind others, none of which lets a message act
module _ (v : Verdict) where
  abbrev behind : List Rule → Bool → Verdict
  behind l b = first (l ++ record { test = b; then = v } ∷ [])

  behind_off : (l : List Rule) → behind l false ≡ first l
  behind_off [] = refl
  behind_off (r ∷ l) = ap (cond r.test r.then) (behind_off l)

  behind_decided : (l : List Rule) (b : Bool) → (first l ≡ v_acts → ⊥) → behind l b ≡ first l
  behind_decided [] b h = absurd (h refl)
  behind_decided (r ∷ l) b h = go r.test h (λ h. behind_decided l b h)
    where
      go : (t : Bool) → (cond t r.then (first l) ≡ v_acts → ⊥) → ((first l ≡ v_acts → ⊥) → behind l b ≡ first l) → cond t r.then (behind l b) ≡ cond t r.then (first l)
      go true h k = refl
      go false h k = k h

  behind_on : (l : List Rule) → all (λ (r : Rule). not (is_acts r.then)) l ≡ true → first l ≡ v_acts → behind l true ≡ v
  behind_on [] a e = refl
  behind_on (r ∷ l) a e = let x = and_behind (is_acts r.then) _ a in go r.test x.0 e (λ e. behind_on l x.1 e)
    where
      go : (t : Bool) → is_acts r.then ≡ false → cond t r.then (first l) ≡ v_acts → (first l ≡ v_acts → behind l true ≡ v) → cond t r.then (behind l true) ≡ v
      go true n e k = absurd (true≢false (ap is_acts (sym e) ∙ n))
      go false n e k = k e

module _ (d : Server) (i kind code param len : ℕ) (p : List ℕ) where
  abbrev others : List Rule
  others = take 11 (synchronous_rules d i (message kind code param len) p)

  abbrev unlisted : Bool
  unlisted = eqb kind DataEND && not (admits d.rest.allowed p)

  any_others : row (with_any_command d) i kind code param len p ≡ first others
  any_others = ap (behind (v_error 128) others) (and_false (eqb kind DataEND)) ∙ behind_off (v_error 128) others

  -- the two verdicts are one where the list has nothing against it, and where a rule before the list's decides
  pub list_passed : (kind ≡ DataEND → admits d.rest.allowed p ≡ true) → row d i kind code param len p ≡ row (with_any_command d) i kind code param len p
  list_passed h = ap (behind (v_error 128) others) (go (eqb kind DataEND) refl) ∙ behind_off (v_error 128) others ∙ sym any_others
    where
      go : (b : Bool) → eqb kind DataEND ≡ b → (b && not (admits d.rest.allowed p)) ≡ false
      go true e = ap not (h (eqb-true kind DataEND e))
      go false e = refl

  pub list_unasked : (row (with_any_command d) i kind code param len p ≡ v_acts → ⊥) → row d i kind code param len p ≡ row (with_any_command d) i kind code param len p
  list_unasked h = behind_decided (v_error 128) others unlisted (λ e. h (any_others ∙ e)) ∙ sym any_others

  -- a DataEND that would act, and that the list does not allow
  pub list_refuses : row (with_any_command d) i kind code param len p ≡ v_acts → kind ≡ DataEND → admits d.rest.allowed p ≡ false → row d i kind code param len p ≡ v_error 128
  list_refuses a e g =
      let t : unlisted ≡ true = rw (eq-eqb kind DataEND e, g) in
      ap (behind (v_error 128) others) t
      ∙ behind_on (v_error 128) others refl (sym any_others ∙ a)
