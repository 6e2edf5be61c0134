-- The variables are read as a list, put behind the parameters into the scope, and the body is read in that scope.
use mathlib.Core.Path.{◌∙◌, ◌≡◌, ap, refl, sym}
use mathlib.Core.List.{◌++◌}
use Prim.Native.Nat.{◌+◌, ◌-◌, ℕ}
use native.Mathlib.Omega.{arith}
use lib.ListN.{drop, get_or, length, length-append, take, replicate}
use Rattle.summands.proofs.Summand.{scope_is, summand_bad, summand_pass}
use Rattle.summands.proofs.read_summand.Goals as goal

pub returns-in_err-body : goal.returns-in_err-body
returns-in_err-body c =
    let b = c.args in
    rw c.from_residual.ensures (λ S Ps k a q h. summand_bad S Ps b.own.now b.s.now b.at (length b.sizes.now) (ap length k.sizes_are) (c.in_err-body.ensures.0))

pub slice_bounds-read_body-end : goal.slice_bounds-read_body-end
slice_bounds-read_body-end c =
    let b = c.args in
    let variables = take (c.in_ok-body.body - (b.at + 1)) (drop (b.at + 1) b.s.now) in
    sym (ap length (scope_is b.own.now _ variables _ (replicate 8 0) (length b.own.now) _ c.copy_from_slice.ensures.after c.copy_from_slice-2.ensures.after refl refl) ∙ length-append b.own.now variables)

pub returns : goal.returns
returns c = λ S Ps k a q h.
    let b = c.args in
    let end = c.in_ok-body.ensures.1 in
    let variables = take (c.in_ok-body.body - (b.at + 1)) (drop (b.at + 1) b.s.now) in
    let many : c.in_ok-body.body - (b.at + 1) ≡ get_or b.s.now b.at 0 = omega arith in
    let scope = scope_is b.own.now _ variables _ (replicate 8 0) (length b.own.now) _ c.copy_from_slice.ensures.after c.copy_from_slice-2.ensures.after refl refl
    ∙ ap (λ (n : ℕ). b.own.now ++ take n (drop (b.at + 1) b.s.now)) many in
    summand_pass S Ps b.own.now b.s.now b.at (length b.sizes.now) (ap length k.sizes_are) _ _ c.in_ok-body.ensures.0 scope ∙ c.read_body.ensures S Ps k a q
