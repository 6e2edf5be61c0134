-- The numbers of the sorts are written one behind the other; a name that is no sort ends it.
use mathlib.Core.Path.{◌≡◌, refl, sym, ◌∙◌, ap, subst}
use Prim.Native.Nat.{ℕ, suc, ◌+◌, ◌*◌}
use native.Mathlib.Omega.{arith}
use lib.ListN.{length, get_or, length-set}
use Rattle.pcrl.specs.Names.{number_of}
use Rattle.names.specs.NameCells.{name_at}
use Rattle.names.specs.Items.{item_count, item_names}
use Rattle.names.specs.Rows.{sorts_at, numbered}
use Rattle.names.proofs.Items.{names_length, names_next}
use Rattle.names.proofs.SortRow.{kept_all, kept_set, RowGone, row_starts, row_stops, row_goes, row_ends}
use Rattle.names.proofs.Numbers.{is_found, not_found}
use Rattle.names.proofs.rows.sort_row.Goals as goal

pub items-n-requires : goal.items-n-requires
items-n-requires c = (omega arith, omega (arith, c.requires), omega arith)

pub loop-k-init : goal.loop-k-init
loop-k-init c = (omega arith, kept_all c.args.p c.args.rows.now, row_starts (sorts_at c.args.s.now c.args.cells.now c.args.sorts.now) c.args.rows.now c.args.p (item_names c.args.s.now c.args.cells.now c.args.at c.items-n.result))

pub overflow_mul-k : goal.overflow_mul-k
overflow_mul-k c = omega (arith, c.items-n.ensures.most)

pub overflow_add-at : goal.overflow_add-at
overflow_add-at c = omega (arith, c.requires, c.items-n.ensures.most)

pub overflow_add-at-in-loop-k : goal.overflow_add-at-in-loop-k
overflow_add-at-in-loop-k c = omega (arith, c.requires, c.items-n.ensures.most)

pub shape_of-rows-in_err-d : goal.shape_of-rows-in_err-d
shape_of-rows-in_err-d c = c.loop-k.invariant.1.same

pub returns-in_err-d : goal.returns-in_err-d
unfolding sorts_at
returns-in_err-d c =
    let sorts = sorts_at c.args.s.now c.args.cells.now c.args.sorts.now in
    let e : numbered sorts (item_names c.args.s.now c.args.cells.now c.args.at c.items-n.result) ≡ numbered sorts (item_names c.args.s.now c.args.cells.now c.args.at (item_count c.args.cells.now 2 c.args.at 2)) = ap (λ (n : ℕ). numbered sorts (item_names c.args.s.now c.args.cells.now c.args.at n)) c.items-n.ensures.count in
    let none = not_found (number_of (name_at c.args.s.now c.peek.result) sorts) c.in_err-d.ensures.number in
    rw c.from_residual.ensures (record {
      kept = c.loop-k.invariant.1;
      near = tt;
      row = rw (← e) (row_stops sorts _ c.loop-k.rows c.args.p (item_names c.args.s.now c.args.cells.now c.args.at c.items-n.result) _ c.loop-k.k (name_at c.args.s.now (get_or c.args.cells.now (c.args.at + 2 * c.loop-k.k + 1) 0)) c.loop-k.invariant.2 (names_next c.args.s.now c.args.cells.now c.args.at c.items-n.result c.loop-k.k (c.args.at + 2 * c.loop-k.k + 1) c.loop-k-test.true refl) (rw (← c.peek.ensures) none));
    })

pub overflow_cast-rows : goal.overflow_cast-rows
overflow_cast-rows c = omega (arith, c.requires, c.in_ok-d.ensures.most)

pub overflow_add-rows : goal.overflow_add-rows
overflow_add-rows c = omega (arith, c.requires, c.items-n.ensures.most)

pub overflow_add-rows-in-loop-k : goal.overflow_add-rows-in-loop-k
overflow_add-rows-in-loop-k c = omega (arith, c.requires, c.items-n.ensures.most)

pub bounds-rows-p : goal.bounds-rows-p
bounds-rows-p c = omega (arith, c.requires, c.items-n.ensures.most, c.loop-k.invariant.1.same)

pub loop-k-preserved : goal.loop-k-preserved
unfolding sorts_at
loop-k-preserved c =
    let sorts = sorts_at c.args.s.now c.args.cells.now c.args.sorts.now in
    let number = is_found (number_of (name_at c.args.s.now c.peek.result) sorts) c.in_ok-d.d c.in_ok-d.ensures.number in (
      omega arith,
      kept_set c.args.p c.args.rows.now c.loop-k.rows (c.args.p + 1 + c.loop-k.k) c.in_ok-d.d c.loop-k.invariant.1 (omega arith),
      row_goes sorts c.loop-k.rows c.args.p (item_names c.args.s.now c.args.cells.now c.args.at c.items-n.result) c.loop-k.k (c.args.p + 1 + c.loop-k.k) (name_at c.args.s.now (get_or c.args.cells.now (c.args.at + 2 * c.loop-k.k + 1) 0)) c.in_ok-d.d refl (omega (arith, c.requires, c.items-n.ensures.most, c.loop-k.invariant.1.same)) c.loop-k.invariant.2
          (names_next c.args.s.now c.args.cells.now c.args.at c.items-n.result c.loop-k.k (c.args.at + 2 * c.loop-k.k + 1) c.loop-k-test.true refl) (rw (← c.peek.ensures) number),
    )

pub overflow_cast-rows-2 : goal.overflow_cast-rows-2
overflow_cast-rows-2 c = omega (arith, c.items-n.ensures.most)

pub bounds-rows-p-2 : goal.bounds-rows-p-2
bounds-rows-p-2 c = omega (arith, c.requires, c.loop-k.invariant.1.same)

pub overflow_mul-result : goal.overflow_mul-result
overflow_mul-result c = omega (arith, c.items-n.ensures.most)

pub overflow_add-result : goal.overflow_add-result
overflow_add-result c = omega (arith, c.requires, c.items-n.ensures.most)

pub overflow_add-result-2 : goal.overflow_add-result-2
overflow_add-result-2 c = omega (arith, c.requires, c.items-n.ensures.most)

pub shape_of-rows : goal.shape_of-rows
shape_of-rows c = length-set c.loop-k.rows c.args.p c.items-n.result ∙ c.loop-k.invariant.1.same

pub returns : goal.returns
returns c =
    let z : c.loop-k.k ≡ c.items-n.result = omega arith in
    let g : RowGone (sorts_at c.args.s.now c.args.cells.now c.args.sorts.now) c.loop-k.rows c.args.p (item_names c.args.s.now c.args.cells.now c.args.at c.items-n.result) c.items-n.result = subst (λ (k : ℕ). RowGone (sorts_at c.args.s.now c.args.cells.now c.args.sorts.now) c.loop-k.rows c.args.p (item_names c.args.s.now c.args.cells.now c.args.at c.items-n.result) k) z c.loop-k.invariant.2 in
    let e : numbered (sorts_at c.args.s.now c.args.cells.now c.args.sorts.now) (item_names c.args.s.now c.args.cells.now c.args.at c.items-n.result) ≡ numbered (sorts_at c.args.s.now c.args.cells.now c.args.sorts.now) (item_names c.args.s.now c.args.cells.now c.args.at (item_count c.args.cells.now 2 c.args.at 2)) = ap (λ (n : ℕ). numbered (sorts_at c.args.s.now c.args.cells.now c.args.sorts.now) (item_names c.args.s.now c.args.cells.now c.args.at n)) c.items-n.ensures.count in record {
      kept = kept_set c.args.p c.args.rows.now c.loop-k.rows c.args.p c.items-n.result c.loop-k.invariant.1 (omega arith);
      near = omega (arith, c.items-n.ensures.most);
      row = rw (← e) (row_ends (sorts_at c.args.s.now c.args.cells.now c.args.sorts.now) _ c.loop-k.rows c.args.p (item_names c.args.s.now c.args.cells.now c.args.at c.items-n.result) c.items-n.result _ (omega (arith, c.requires, c.loop-k.invariant.1.same)) g (omega (arith, names_length c.args.s.now c.args.cells.now c.args.at c.items-n.result))
          (λ Ds n h. (ap (λ (m : ℕ). c.args.at + 2 * m + 1) (sym n), h)));
    }
