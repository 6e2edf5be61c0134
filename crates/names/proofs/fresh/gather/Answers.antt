-- Each name cell is written behind those before it.
use mathlib.Core.Path.{◌≡◌, refl, sym, ◌∙◌, ap, subst}
use mathlib.Core.List.{List, ◌++◌, map, ◌∷◌, []}
use Prim.Native.Nat.{ℕ, ◌+◌}
use native.Mathlib.Omega.{arith}
use lib.ListN.{length, take}
use lib.Seq.{take-length}
use Rattle.names.specs.NameCells.{name_cell}
use Rattle.names.proofs.Lists.{mapped_more, copied_none, copied_next}
use Rattle.names.proofs.fresh.gather.Goals as goal

pub loop-i-init : goal.loop-i-init
loop-i-init c = (omega arith, copied_none c.args.n c.args.names.now)

pub overflow_add-wide : goal.overflow_add-wide
overflow_add-wide c = omega (arith, c.wide.ensures)

pub overflow_add-names : goal.overflow_add-names
overflow_add-names c = omega (arith, c.requires)

pub offset_bounds-names-n : goal.offset_bounds-names-n
offset_bounds-names-n c = omega (arith, c.requires)

pub bounds-names-n : goal.bounds-names-n
bounds-names-n c = omega (arith, c.requires, c.loop-i.invariant.1.same)

pub loop-i-preserved : goal.loop-i-preserved
loop-i-preserved c =
    let e : map (name_cell c.args.cells.now) (take (c.loop-i.i + 1) c.args.places.now) ≡ map (name_cell c.args.cells.now) (take c.loop-i.i c.args.places.now) ++ (c.peek.result ∷ [])
    = mapped_more (name_cell c.args.cells.now) c.args.places.now c.loop-i.i c.loop-i-test.true
    ∙ ap (λ (v : ℕ). map (name_cell c.args.cells.now) (take c.loop-i.i c.args.places.now) ++ (v ∷ [])) (sym (c.peek.ensures ∙ ap (name_cell c.args.cells.now) c.wide.ensures.0)) in
    (omega arith, copied_next c.args.n c.loop-i.i _ c.peek.result _ _ c.args.names.now c.loop-i.names c.loop-i.invariant.1 (omega (arith, c.requires)) refl e)

pub overflow_add-result : goal.overflow_add-result
overflow_add-result c = omega (arith, c.requires)

pub shape_of-names : goal.shape_of-names
shape_of-names c = c.loop-i.invariant.1.same

pub returns : goal.returns
returns c =
    let a = c.args in
    let names = c.loop-i.names in
    let z : c.loop-i.i ≡ length a.places.now = omega arith in
    let all = subst (λ (k : ℕ). take (a.n + k) names ≡ take a.n a.names.now ++ map (name_cell a.cells.now) (take k a.places.now)) z c.loop-i.invariant.1.cells in
    record { next = omega arith; cells = all ∙ ap (λ (l : List ℕ). take a.n a.names.now ++ map (name_cell a.cells.now) l) (take-length a.places.now) }
