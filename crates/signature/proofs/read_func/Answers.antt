-- The sorts as a list, the result, and as many values of the result's sort as the sorts have values together.
use mathlib.Core.Path.{◌∙◌, ◌≡◌, ap, sym}
use mathlib.Core.List.{List}
use Prim.Native.Nat.{◌+◌, ◌<◌, ℕ}
use native.Mathlib.Omega.{arith}
use lib.ListN.{drop, get_or, length}
use Rattle.pcrl.specs.Limits.{max_arity}
use Rattle.pcrl.specs.Reader.{one, times}
use Rattle.pcrl.specs.Sorts.{volume}
use Rattle.pcrl.specs.Tests.{below?}
use Rattle.signature.proofs.Funcs.{between_is, func_fail, func_values, list_between, read_values, values_alike}
use Rattle.terms.proofs.Rests.{on_some, byte_no, byte_pass}
use Rattle.terms.specs.Stands.{list_at}
use Rattle.signature.proofs.read_func.Goals as goal

pub returns-in_err-i : goal.returns-in_err-i
returns-in_err-i c =
    rw c.from_residual.ensures (func_fail c.args.sizes.now c.args.s.now c.args.at (c.in_err-i.ensures.0), tt)

pub returns-in_err-d : goal.returns-in_err-d
unfolding read_values
returns-in_err-d c =
    let a = c.args in
    let i = c.in_ok-i.i in
    let values = λ (D : ℕ). times (one (below? (get_or a.sizes.now D 0))) (volume a.sizes.now (list_at a.s.now a.at)) in
    rw c.from_residual-in_err-d.ensures (func_values a.sizes.now a.s.now a.at (drop i a.s.now) c.in_ok-i.ensures.0 ∙ byte_no (below? (length a.sizes.now)) a.s.now i values (λ (h : (i < length a.s.now) × (get_or a.s.now i 0 < length a.sizes.now)). c.in_err-d.ensures (h.0, (omega arith, h.1))), tt)

pub returns : goal.returns
unfolding read_values
returns c =
    let a = c.args in
    let i = c.in_ok-i.i in
    let d = c.in_ok-d.ensures in
    let values = λ (D : ℕ). times (one (below? (get_or a.sizes.now D 0))) (volume a.sizes.now (list_at a.s.now a.at)) in
    let between = list_between 1 max_arity 0 (length a.sizes.now) a.s.now a.at (drop i a.s.now) c.in_ok-i.ensures.0 in
    let y : c.volume-n.result ≡ volume a.sizes.now (list_at a.s.now a.at) = c.volume-n.ensures (between_is c.list_at.result.now (list_at a.s.now a.at) c.list_at.ensures between) ∙ ap (λ (l : List ℕ). volume a.sizes.now l) c.list_at.ensures in
    let h = c.in_ok-i.ensures.1 in (
      func_values a.sizes.now a.s.now a.at (drop i a.s.now) c.in_ok-i.ensures.0
          ∙ byte_pass (below? (length a.sizes.now)) a.s.now i values (i + 1) (omega arith) d.1.0 d.1.1.1
          ∙ values_alike a.s.now (i + 1) (get_or a.sizes.now (get_or a.s.now i 0) 0) (get_or a.sizes.now c.in_ok-d.d 0) (volume a.sizes.now (list_at a.s.now a.at)) c.volume-n.result (ap (λ (k : ℕ). get_or a.sizes.now k 0) (sym d.0)) (sym y)
          ∙ c.read_values.ensures,
      on_some c.read_values.result (omega arith),
    )
