-- The size of Bool, and behind it that of each sort.
use mathlib.Core.Path.{◌≡◌, sym, ◌∙◌, ap}
use mathlib.Core.List.{List, ◌++◌, map, ◌∷◌, []}
use Prim.Native.Nat.{ℕ, ◌+◌, ◌-◌}
use native.Mathlib.Omega.{arith}
use lib.ListN.{length, take, get_or, set, length-set}
use lib.Seq.{take-length}
use Rattle.lexer.specs.Cells.{first_numeral}
use Rattle.names.specs.NameCells.{byte_of}
use Rattle.names.specs.Items.{numeral_at}
use Rattle.names.proofs.Lists.{mapped_more, copied_none, copied_next, first_set}
use Rattle.names.proofs.rows.sizes.Goals as goal

pub bounds-out-0 : goal.bounds-out-0
bounds-out-0 c = omega (arith, c.requires)

pub loop-i-init : goal.loop-i-init
loop-i-init c = (omega arith, copied_none 1 (set c.args.out.now 0 2))

pub overflow_add-wide : goal.overflow_add-wide
overflow_add-wide c = omega (arith, c.wide.ensures)

pub bounds-out-i : goal.bounds-out-i
bounds-out-i c = omega (arith, c.requires, c.loop-i.invariant.1.same, length-set c.args.out.now 0 2)

pub loop-i-preserved : goal.loop-i-preserved
loop-i-preserved c =
    let v : c.value.result ≡ byte_of (numeral_at c.args.cells.now (get_or c.args.sorts.now c.loop-i.i 0 + 2)) = c.value.ensures ∙ ap (λ (x : ℕ). byte_of (x - first_numeral)) (c.peek.ensures ∙ ap (λ (p : ℕ). get_or c.args.cells.now (p + 2) 0) c.wide.ensures.0) in
    let e : map (λ p. byte_of (numeral_at c.args.cells.now (p + 2))) (take (c.loop-i.i + 1) c.args.sorts.now) ≡ map (λ p. byte_of (numeral_at c.args.cells.now (p + 2))) (take c.loop-i.i c.args.sorts.now) ++ (c.value.result ∷ [])
    = mapped_more (λ p. byte_of (numeral_at c.args.cells.now (p + 2))) c.args.sorts.now c.loop-i.i c.loop-i-test.true
    ∙ ap (λ (v : ℕ). map (λ p. byte_of (numeral_at c.args.cells.now (p + 2))) (take c.loop-i.i c.args.sorts.now) ++ (v ∷ [])) (sym v) in
    (omega arith, copied_next 1 c.loop-i.i _ c.value.result _ _ (set c.args.out.now 0 2) c.loop-i.out c.loop-i.invariant.1 (omega (arith, c.requires, length-set c.args.out.now 0 2)) (omega arith) e)

pub shape_of-out : goal.shape_of-out
shape_of-out c = c.loop-i.invariant.1.same ∙ length-set c.args.out.now 0 2

pub returns : goal.returns
returns c =
    let z : c.loop-i.i ≡ length c.args.sorts.now = omega arith in
    let n : length c.args.sorts.now + 1 ≡ 1 + c.loop-i.i = omega arith in
    rw n (c.loop-i.invariant.1.cells ∙ (ap (λ (l : List ℕ). l ++ map (λ p. byte_of (numeral_at c.args.cells.now (p + 2))) (take c.loop-i.i c.args.sorts.now)) (first_set c.args.out.now 2 (omega (arith, c.requires)))
    ∙ ap (λ (l : List ℕ). 2 ∷ map (λ p. byte_of (numeral_at c.args.cells.now (p + 2))) l) (ap (λ (n : ℕ). take n c.args.sorts.now) z ∙ take-length c.args.sorts.now)))
