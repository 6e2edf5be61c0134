-- Each action gets its row, behind those before it; a name that is no sort ends it.
use Rattle.std.specs.Prelude.{Some, None}
use mathlib.Core.Path.{◌≡◌, ◌∙◌, refl, subst}
use Prim.Native.Nat.{ℕ, ◌+◌, ◌*◌}
use native.Mathlib.Omega.{arith}
use lib.ListN.{length, get_or}
use Rattle.pcrl.specs.Sheet.{no_action}
use Rattle.nodes.specs.Held.{SortsAt, ActAt}
use Rattle.names.specs.Items.{item_count, item_names}
use Rattle.names.specs.Rows.{Yields, InRows, sorts_at, numbered}
use Rattle.names.proofs.ActLines.{acts_start, acts_stop, acts_go, acts_end}
use Rattle.names.proofs.rows.act_rows.Goals as goal

pub loop-i-init : goal.loop-i-init
loop-i-init c = (refl, acts_start c.args.s.now c.args.cells.now c.args.sorts.now c.args.acts.now c.args.rows.now)

pub overflow_add-wide : goal.overflow_add-wide
overflow_add-wide c = omega (arith, c.wide.ensures)

pub overflow_mul-i : goal.overflow_mul-i
overflow_mul-i c = omega (arith, c.requires)

pub sort_row-requires : goal.sort_row-requires
sort_row-requires c = (omega (arith, c.requires), omega (arith, c.wide.ensures), omega (arith, c.requires, c.loop-i.invariant.0))

pub returns-in_default : goal.returns-in_default
returns-in_default c =
    let a = c.args in
    let rows = c.sort_row.new.rows in
    acts_stop a.s.now a.cells.now a.sorts.now a.acts.now c.loop-i.rows c.loop-i.i (λ Ds r. (r ≡ get_or a.acts.now c.loop-i.i 0 + 2 + 2 * length Ds + 1) × SortsAt Ds rows (3 * c.loop-i.i))
    (λ N. InRows no_action (λ a i. ActAt a rows i)) c.loop-i-test.true c.loop-i.invariant.1
    (subst (λ (q : ℕ). Yields (λ Ds r. (r ≡ q + 2 + 2 * length Ds + 1) × SortsAt Ds rows (3 * c.loop-i.i)) (numbered (sorts_at a.s.now a.cells.now a.sorts.now) (item_names a.s.now a.cells.now (q + 2) (item_count a.cells.now 2 (q + 2) 2))) None) c.wide.ensures.0 c.in_default.ensures.row)

pub loop-i-preserved : goal.loop-i-preserved
loop-i-preserved c =
    let a = c.args in
    let rows = c.sort_row.new.rows in (
      c.sort_row.auto.rows ∙ c.loop-i.invariant.0,
      acts_go a.s.now a.cells.now a.sorts.now a.acts.now c.loop-i.rows rows c.loop-i.i (λ Ds r. r ≡ get_or a.acts.now c.loop-i.i 0 + 2 + 2 * length Ds + 1)
          c.in-Some.field-0 c.loop-i-test.true c.loop-i.invariant.1 c.in-Some.ensures.kept
          (subst (λ (q : ℕ). Yields (λ Ds r. (r ≡ q + 2 + 2 * length Ds + 1) × SortsAt Ds rows (3 * c.loop-i.i)) (numbered (sorts_at a.s.now a.cells.now a.sorts.now) (item_names a.s.now a.cells.now (q + 2) (item_count a.cells.now 2 (q + 2) 2))) (Some c.in-Some.field-0)) c.wide.ensures.0 c.in-Some.ensures.row),
    )

pub shape_of-rows : goal.shape_of-rows
shape_of-rows c = c.loop-i.invariant.0

pub returns : goal.returns
returns c = acts_end c.args.s.now c.args.cells.now c.args.sorts.now c.args.acts.now c.loop-i.rows c.loop-i.i c.loop-i-test.false c.loop-i.invariant.1
