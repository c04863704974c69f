-- The asynchronous channel's row of rules, by the tests of the code: one law for each way out. Assumes nothing.
use Rattle.std.specs.Prelude.{◌≡◌, refl, Bool, true, false, ◌&&◌, ◌||◌, cond, List, [], ◌∷◌, ℕ, eqb}
use Rattle.std.proofs.Common.{sym, ◌∙◌}
use Rattle.std.proofs.Math.Bool.{not}
use Rattle.std.proofs.Math.Dec.{ltb}
use borrow.Author.Tests.{ne_eqb}
use Rattle.wire.specs.Class.{class_of, asynchronous, one_of}
use Rattle.model.specs.MessageTypes.{FatalError, Error, AsyncLock, AsyncRemoteLocalControl, AsyncMaximumMessageSize, AsyncInitialize, AsyncDeviceClear, AsyncStatusQuery, AsyncLockInfo}
use Rattle.model.specs.Checks.{Verdict, Verdict.v_ignored, Verdict.v_closed, Verdict.v_acts, Verdict.v_error, Verdict.v_fatal, first, either, is_vendor, is_unrecognised, asynchronous_rules}
use Rattle.checks.specs.Verdicts.{message}

-- check 10: a code that is not allowed, a payload that does not belong
unfoldable pub code_wrong : ℕ → ℕ → Bool
code_wrong kind code = (either AsyncLock AsyncStatusQuery kind && ltb 1 code) || (eqb kind AsyncRemoteLocalControl && ltb 6 code)

unfoldable pub payload_wrong : ℕ → ℕ → ℕ → Bool
payload_wrong kind code len =
    (one_of (AsyncRemoteLocalControl ∷ AsyncDeviceClear ∷ AsyncStatusQuery ∷ AsyncLockInfo ∷ []) kind && ltb 0 len)
    || ((eqb kind AsyncLock && (eqb code 0 && ltb 0 len)) || (eqb kind AsyncMaximumMessageSize && not (eqb len 8)))

or_false : (b : Bool) → b || false ≡ b
or_false true = refl
or_false false = refl

-- rules of one verdict, side by side, are one rule
joined : (a b c d e : Bool) (x y z : Verdict) → cond a x (cond b x (cond c y (cond d y (cond e y z)))) ≡ cond (a || b) x (cond (c || (d || e)) y z)
joined true b c d e x y z = refl
joined false true c d e x y z = refl
joined false false true d e x y z = refl
joined false false false true e x y z = refl
joined false false false false e x y z = refl

module _ (kind code : ℕ) where
  pub code_lock : kind ≡ AsyncLock → ltb 1 code ≡ code_wrong kind code
  unfolding code_wrong
  code_lock e = rw e (sym (or_false (ltb 1 code)))

  pub code_query : kind ≡ AsyncStatusQuery → ltb 1 code ≡ code_wrong kind code
  unfolding code_wrong
  code_query e = rw e (sym (or_false (ltb 1 code)))

  pub code_control : kind ≡ AsyncRemoteLocalControl → ltb 6 code ≡ code_wrong kind code
  unfolding code_wrong
  code_control e = rw e

  pub code_any : (kind ≡ AsyncLock → ⊥) → (kind ≡ AsyncRemoteLocalControl → ⊥) → (kind ≡ AsyncStatusQuery → ⊥) → false ≡ code_wrong kind code
  unfolding code_wrong
  code_any p q r = rw (ne_eqb kind 4 p, ne_eqb kind 10 q, ne_eqb kind 21 r)

module _ (kind code len : ℕ) where
  pub payload_control : kind ≡ AsyncRemoteLocalControl → ltb 0 len ≡ payload_wrong kind code len
  unfolding payload_wrong
  payload_control e = rw e (sym (or_false (ltb 0 len)))

  pub payload_clear : kind ≡ AsyncDeviceClear → ltb 0 len ≡ payload_wrong kind code len
  unfolding payload_wrong
  payload_clear e = rw e (sym (or_false (ltb 0 len)))

  pub payload_query : kind ≡ AsyncStatusQuery → ltb 0 len ≡ payload_wrong kind code len
  unfolding payload_wrong
  payload_query e = rw e (sym (or_false (ltb 0 len)))

  pub payload_info : kind ≡ AsyncLockInfo → ltb 0 len ≡ payload_wrong kind code len
  unfolding payload_wrong
  payload_info e = rw e (sym (or_false (ltb 0 len)))

  -- of a lock message: a release has no payload, a request may have one
  pub payload_release : kind ≡ AsyncLock → code ≡ 0 → ltb 0 len ≡ payload_wrong kind code len
  unfolding payload_wrong
  payload_release e z = rw (e, z) (sym (or_false (ltb 0 len)))

  pub payload_request : kind ≡ AsyncLock → (code ≡ 0 → ⊥) → false ≡ payload_wrong kind code len
  unfolding payload_wrong
  payload_request e z = rw (e, ne_eqb code 0 z)

  pub payload_size : kind ≡ AsyncMaximumMessageSize → not (eqb len 8) ≡ payload_wrong kind code len
  unfolding payload_wrong
  payload_size e = rw e

  pub payload_any : (kind ≡ AsyncLock → ⊥) → (kind ≡ AsyncRemoteLocalControl → ⊥) → (kind ≡ AsyncMaximumMessageSize → ⊥) → (kind ≡ AsyncDeviceClear → ⊥) →
      (kind ≡ AsyncStatusQuery → ⊥) → (kind ≡ AsyncLockInfo → ⊥)
      → false ≡ payload_wrong kind code len
  unfolding payload_wrong
  payload_any a b c d e f = rw (ne_eqb kind 4 a, ne_eqb kind 10 b, ne_eqb kind 15 c, ne_eqb kind 19 d, ne_eqb kind 21 e, ne_eqb kind 24 f)

module _ (kind code param len : ℕ) (p : List ℕ) where
  abbrev pub row : Verdict
  row = first (asynchronous_rules (message kind code param len) p)

  pub async_closed : kind ≡ FatalError → row ≡ v_closed
  async_closed e = rw e

  pub async_error : kind ≡ Error → row ≡ v_ignored
  async_error e = rw e

  module _ (n2 : kind ≡ FatalError → ⊥) (n3 : kind ≡ Error → ⊥) where
    pub async_vendor : is_vendor (class_of asynchronous kind) ≡ true → row ≡ v_error 3
    async_vendor v = rw (ne_eqb kind 2 n2, ne_eqb kind 3 n3, v)

    module _ (v : is_vendor (class_of asynchronous kind) ≡ false) where
      pub async_unrecognised : is_unrecognised (class_of asynchronous kind) ≡ true → row ≡ v_error 1
      async_unrecognised u = rw (ne_eqb kind 2 n2, ne_eqb kind 3 n3, v, u)

      module _ (u : is_unrecognised (class_of asynchronous kind) ≡ false) where
        pub async_again : kind ≡ AsyncInitialize → row ≡ v_fatal 3
        unfolding class_of
        async_again e = rw e

        module _ (n17 : kind ≡ AsyncInitialize → ⊥) where
          left_10 : row ≡ cond (code_wrong kind code) (v_error 2) (cond (payload_wrong kind code len) (v_error 0) v_acts)
          unfolding code_wrong payload_wrong
          left_10 =
              rw (ne_eqb kind 2 n2, ne_eqb kind 3 n3, v, u, ne_eqb kind 17 n17)
              (joined (either AsyncLock AsyncStatusQuery kind && ltb 1 code) (eqb kind AsyncRemoteLocalControl && ltb 6 code)
              (one_of (AsyncRemoteLocalControl ∷ AsyncDeviceClear ∷ AsyncStatusQuery ∷ AsyncLockInfo ∷ []) kind && ltb 0 len)
              (eqb kind AsyncLock && (eqb code 0 && ltb 0 len)) (eqb kind AsyncMaximumMessageSize && not (eqb len 8)) (v_error 2) (v_error 0) v_acts)

          pub async_code : code_wrong kind code ≡ true → row ≡ v_error 2
          async_code a = left_10 ∙ rw a

          pub async_payload : code_wrong kind code ≡ false → payload_wrong kind code len ≡ true → row ≡ v_error 0
          async_payload a b = left_10 ∙ rw (a, b)

          pub async_acts : code_wrong kind code ≡ false → payload_wrong kind code len ≡ false → row ≡ v_acts
          async_acts a b = left_10 ∙ rw (a, b)
