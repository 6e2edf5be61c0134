-- `heads::params::put_params` meets its contract.
use native.Mathlib.Omega.{arith}
use Prim.Native.Nat.{ℕ}
use mathlib.Core.Path.{◌≡◌, refl, subst, ◌∙◌}
use Rattle.pcrl.specs.Parts.{as_params}
use Rattle.marking.specs.Marks.{bits}
use Rattle.putting.specs.Slots.{Slots}
use Rattle.heads.proofs.Parameters.{params_start, params_on}
use Rattle.heads.proofs.params.put_params.Goals as goal

pub loop-i-init : goal.loop-i-init
loop-i-init c =
    let args = c.args in
    ((omega arith, omega arith, refl), params_start args.m args.slots.now)

pub put_byte-requires : goal.put_byte-requires
put_byte-requires c =
    let q = c.requires in let i = c.loop-i.invariant.0 in omega (arith, i.2)

pub loop-i-preserved : goal.loop-i-preserved
loop-i-preserved c =
    let here = c.loop-i in
    let i = here.invariant.0 in
    ((omega arith, omega arith, c.put_byte.auto.slots ∙ i.2), params_on c.args.m here.i here.k here.rest here.slots c.put_byte.new.slots here.invariant.1 c.param_code.result c.param_code.ensures c.put_byte.ensures)

pub shape_of-slots : goal.shape_of-slots
shape_of-slots c = c.loop-i.invariant.0.2

pub returns : goal.returns
returns c =
    let here = c.loop-i in
    let args = c.args in
    let z : here.i ≡ args.n = omega arith in subst (λ (j : ℕ). Slots (as_params (bits j args.m) 0) here.slots j) z here.invariant.1.held
