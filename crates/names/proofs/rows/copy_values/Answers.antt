-- Each value is written behind those before it.
use mathlib.Core.Path.{◌≡◌, refl, sym, ◌∙◌, ap}
use mathlib.Core.List.{◌++◌, map, ◌∷◌, map-append, []}
use Prim.Native.Nat.{ℕ, ◌+◌, ◌*◌, ◌-◌}
use native.Mathlib.Omega.{arith}
use Rattle.lexer.specs.Cells.{first_numeral}
use Rattle.names.specs.NameCells.{byte_of}
use Rattle.names.specs.Items.{numeral_at, item_values}
use Rattle.names.proofs.Lists.{copied_none, copied_next, copied_kept}
use Rattle.names.proofs.Items.{values_more}
use Rattle.names.proofs.rows.copy_values.Goals as goal

pub loop-k-init : goal.loop-k-init
unfolding item_values
loop-k-init c = (omega arith, copied_none c.args.w c.args.values.now)

pub overflow_mul-k : goal.overflow_mul-k
overflow_mul-k c = omega (arith, c.requires)

pub overflow_add-at : goal.overflow_add-at
overflow_add-at c = omega (arith, c.requires)

pub overflow_add-at-in-loop-k : goal.overflow_add-at-in-loop-k
overflow_add-at-in-loop-k c = omega (arith, c.requires)

pub overflow_add-values : goal.overflow_add-values
overflow_add-values c = omega (arith, c.requires)

pub bounds-values-w : goal.bounds-values-w
bounds-values-w c = omega (arith, c.requires, c.loop-k.invariant.1.same)

pub loop-k-preserved : goal.loop-k-preserved
loop-k-preserved c =
    let v : c.value.result ≡ byte_of (numeral_at c.args.cells.now (c.args.at + 2 * c.loop-k.k + 1)) = c.value.ensures ∙ ap (λ (x : ℕ). byte_of (x - first_numeral)) c.peek.ensures in
    let e : map byte_of (item_values c.args.cells.now c.args.at (c.loop-k.k + 1)) ≡ map byte_of (item_values c.args.cells.now c.args.at c.loop-k.k) ++ (c.value.result ∷ [])
    = ap (map byte_of) (values_more c.args.cells.now c.args.at c.loop-k.k (c.args.at + 2 * c.loop-k.k + 1) refl)
    ∙ (map-append byte_of (item_values c.args.cells.now c.args.at c.loop-k.k) (numeral_at c.args.cells.now (c.args.at + 2 * c.loop-k.k + 1) ∷ [])
    ∙ ap (λ (x : ℕ). map byte_of (item_values c.args.cells.now c.args.at c.loop-k.k) ++ (x ∷ [])) (sym v)) in
    (omega arith, copied_next c.args.w c.loop-k.k _ c.value.result _ _ c.args.values.now c.loop-k.values c.loop-k.invariant.1 (omega (arith, c.requires)) refl e)

pub shape_of-values : goal.shape_of-values
shape_of-values c = c.loop-k.invariant.1.same

pub returns : goal.returns
returns c =
    let z : c.loop-k.k ≡ c.args.n = omega arith in
    record { kept = copied_kept c.args.w c.loop-k.k _ c.args.values.now c.loop-k.values (omega (arith, c.requires)) c.loop-k.invariant.1; values = rw (← z) c.loop-k.invariant.1.cells }
