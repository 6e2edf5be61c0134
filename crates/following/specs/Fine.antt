-- What holds of the terms of an accepted sheet and is needed to write them: numbers fit bytes, variables are in scope,
-- sums bind the next number, calls are of processes and with as many terms as parameters.
use Rattle.std.specs.Prelude.{◌≡◌, ℕ, suc, ◌≤◌, ◌<◌, length}
use Rattle.pcrl.specs.Limits.{max_arity, frame_width}
use Rattle.pcrl.specs.Tests.{Every}
use Rattle.pcrl.specs.Sheet.{Proc, delta, atom, alt, cond, sum, seq, call, Sheet, params}
use Rattle.nodes.specs.Layout.{byte_limit, act_number}
use Rattle.nodes.specs.Scoped.{max_scope}
use Rattle.putting.specs.Slots.{Writable}

module _ (H : Sheet) where
  -- n variables are in scope
  unfoldable pub Fine : ℕ → Proc → Type 0
  Fine n delta = Unit {0}
  Fine n (atom a ds) = (act_number a < byte_limit) × ((length ds ≤ max_arity) × Every (Writable n) ds)
  Fine n (alt p q) = Fine n p × Fine n q
  Fine n (cond c p q) = Writable n c × (Fine n p × Fine n q)
  Fine n (sum x D p) = (x ≡ n) × ((n < max_scope) × ((D < byte_limit) × Fine (suc n) p))
  Fine n (seq p q) = Fine n p × Fine n q
  Fine n (call k ds) = (k < length H.procs) × ((length ds ≡ length (params H k)) × Every (Writable n) ds)

  -- processes, few enough for bytes, with few parameters
  pub record Few : Type 0 where
    pub procs_few : length H.procs < byte_limit
    pub params_few : (k : ℕ) → k < length H.procs → length (params H k) ≤ frame_width
