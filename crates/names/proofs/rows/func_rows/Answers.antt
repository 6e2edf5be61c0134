-- Each function gets its row and its values, behind those before it; a name that is no sort ends it.
use Rattle.std.specs.Prelude.{Some, None}
use mathlib.Core.Path.{◌≡◌, ◌∙◌, refl, subst}
use Prim.Native.Nat.{ℕ, ◌+◌, ◌*◌, ◌<◌}
use native.Mathlib.Omega.{arith}
use lib.ListN.{length, set, length-set}
use lib.Seq.{get_or-set_same}
use Rattle.names.specs.Rows.{FuncRead}
use Rattle.names.proofs.FuncLines.{funcs_start, funcs_stop, funcs_go, funcs_end}
use Rattle.names.proofs.rows.func_rows.Goals as goal

pub bounds-places-0 : goal.bounds-places-0
bounds-places-0 c = omega (arith, c.requires)

pub loop-i-init : goal.loop-i-init
loop-i-init c = (record { row_same = refl; value_same = refl; place_same = refl; within = omega arith; here = get_or-set_same c.args.places.now 0 0 0 (omega (arith, c.requires)) }, funcs_start c.args.s.now c.args.cells.now c.args.sorts.now c.args.lines.now c.args.rows.now c.args.values.now (set c.args.places.now 0 0))

pub overflow_mul-i : goal.overflow_mul-i
overflow_mul-i c = omega (arith, c.requires)

pub func_row-requires : goal.func_row-requires
func_row-requires c = (omega (arith, c.requires), omega (arith, c.wide.ensures), omega (arith, c.requires, c.loop-i.invariant.0.row_same))

pub shape_of-rows-in_default : goal.shape_of-rows-in_default
shape_of-rows-in_default c = c.func_row.auto.rows ∙ c.loop-i.invariant.0.row_same

pub shape_of-values-in_default : goal.shape_of-values-in_default
shape_of-values-in_default c = c.loop-i.invariant.0.value_same

pub shape_of-places-in_default : goal.shape_of-places-in_default
shape_of-places-in_default c = c.loop-i.invariant.0.place_same ∙ length-set c.args.places.now 0 0

pub returns-in_default : goal.returns-in_default
returns-in_default c =
    let a = c.args in
    let rows = c.func_row.new.rows in
    funcs_stop a.s.now a.cells.now a.sorts.now a.lines.now c.loop-i.rows c.loop-i.values c.loop-i.places rows c.loop-i.values c.loop-i.places c.loop-i.w c.loop-i.i c.loop-i-test.true refl c.loop-i.invariant.1
    (subst (λ (q : ℕ). FuncRead a.s.now a.cells.now a.sorts.now q rows (4 * c.loop-i.i) None) c.wide.ensures.0 c.in_default.ensures.row)

pub overflow_sub-values : goal.overflow_sub-values
overflow_sub-values c = omega (arith, c.loop-i.invariant.0.within)

pub items-n-requires : goal.items-n-requires
items-n-requires c = (omega arith, omega (arith, c.in-Some.ensures.near), omega (arith, c.requires, c.loop-i.invariant.0.value_same))

pub copy_values-requires : goal.copy_values-requires
copy_values-requires c = (omega (arith, c.in-Some.ensures.near), omega (arith, c.items-n.ensures.most, c.loop-i.invariant.0.within), omega (arith, c.requires, c.loop-i.invariant.0.value_same))

pub overflow_add-w : goal.overflow_add-w
overflow_add-w c = omega (arith, c.requires, c.loop-i.invariant.0.value_same, c.items-n.ensures.most, c.loop-i.invariant.0.within)

pub overflow_add-places : goal.overflow_add-places
overflow_add-places c = omega (arith, c.loop-i-test.true)

pub offset_bounds-places-i : goal.offset_bounds-places-i
offset_bounds-places-i c = omega (arith, c.loop-i-test.true)

pub bounds-places-i : goal.bounds-places-i
bounds-places-i c = omega (arith, c.requires, c.loop-i.invariant.0.place_same, length-set c.args.places.now 0 0)

pub loop-i-preserved : goal.loop-i-preserved
loop-i-preserved c =
    let z : c.short.result ≡ c.loop-i.w + c.items-n.result = c.short.ensures (omega (arith, c.requires, c.loop-i.invariant.0.value_same, c.items-n.ensures.most, c.loop-i.invariant.0.within)) in
    let f : c.loop-i.i + 1 < length c.loop-i.places = omega (arith, c.requires, c.loop-i.invariant.0.place_same, length-set c.args.places.now 0 0) in (
      record {
        row_same = c.func_row.auto.rows ∙ c.loop-i.invariant.0.row_same;
        value_same = c.copy_values.auto.values ∙ c.loop-i.invariant.0.value_same;
        place_same = length-set c.loop-i.places (c.loop-i.i + 1) c.short.result ∙ c.loop-i.invariant.0.place_same;
        within = omega (arith, c.copy_values.auto.values, c.items-n.ensures.most, c.loop-i.invariant.0.within);
        here = get_or-set_same c.loop-i.places (c.loop-i.i + 1) c.short.result 0 f ∙ z;
      },
      funcs_go c.args.s.now c.args.cells.now c.args.sorts.now c.args.lines.now c.loop-i.rows c.loop-i.values c.loop-i.places c.func_row.new.rows c.copy_values.new.values c.loop-i.w c.loop-i.i c.items-n.result c.short.result c.in-Some.q c.loop-i-test.true c.loop-i.invariant.0.within c.loop-i.invariant.0.here f
          c.loop-i.invariant.1 c.in-Some.ensures.kept (subst (λ (q : ℕ). FuncRead c.args.s.now c.args.cells.now c.args.sorts.now q c.func_row.new.rows (4 * c.loop-i.i) (Some c.in-Some.q)) c.wide.ensures.0 c.in-Some.ensures.row) c.items-n.ensures.count c.copy_values.ensures.kept c.copy_values.ensures.values z,
    )

pub shape_of-rows : goal.shape_of-rows
shape_of-rows c = c.loop-i.invariant.0.row_same

pub shape_of-values : goal.shape_of-values
shape_of-values c = c.loop-i.invariant.0.value_same

pub shape_of-places : goal.shape_of-places
shape_of-places c = c.loop-i.invariant.0.place_same ∙ length-set c.args.places.now 0 0

pub returns : goal.returns
returns c = funcs_end c.args.s.now c.args.cells.now c.args.sorts.now c.args.lines.now c.loop-i.rows c.loop-i.values c.loop-i.places c.loop-i.w c.loop-i.i c.loop-i-test.false c.loop-i.invariant.1
