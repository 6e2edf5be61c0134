-- The summands of one equation a turn; where their count stands is kept, and the counts add up.
use mathlib.Core.Path.{◌∙◌, ◌≡◌, ap, refl, subst}
use Rattle.std.specs.Prelude.{Some}
use Prim.Native.Nat.{◌+◌, ℕ}
use native.Mathlib.Omega.{arith}
use lib.ListN.{drop, length, length-set, take}
use Rattle.equations.proofs.EachRow.{own_short, row_fail, row_pass, rows_none, total_more}
use Rattle.equations.specs.Reading.{total_at}
use Rattle.pcrl.specs.Decode.{read_summands}
use Rattle.pcrl.specs.Reader.{each}
use Rattle.pcrl.specs.Stream.{encode_list, encode_summand}
use Rattle.terms.proofs.Laying.{lay_done, lay_start}
use Rattle.terms.specs.Laid.{Laid}
use Rattle.terms.specs.Stands.{list_at}
use Rattle.equations.proofs.read_rows.Goals as goal

pub loop-k-init : goal.loop-k-init
unfolding total_at
loop-k-init c = (omega arith, refl, c.requires.0, c.requires.1.0, c.requires.1.1, refl, omega arith, λ S Ps g q. lay_start (each (read_summands S Ps) Ps (drop c.args.at c.args.s.now)) (encode_list encode_summand) c.args.s.now (each (read_summands S Ps) Ps (drop c.args.at c.args.s.now)) refl)

pub shape_of-rows-in_err-next : goal.shape_of-rows-in_err-next
shape_of-rows-in_err-next c = c.loop-k.invariant.1

pub returns-in_err-next : goal.returns-in_err-next
returns-in_err-next c =
    rw c.from_residual.ensures (λ S Ps g q. row_fail S Ps c.args.s.now c.args.sizes.now c.args.funcs.now c.args.acts.now c.args.params.now g q c.args.at c.loop-k.k c.loop-k.i c.list_at-own.result.now c.loop-k.rows (omega arith) (c.list_at-own.ensures ∙ ap (λ (p : ℕ). list_at c.args.s.now p) c.cell.ensures.0) (c.loop-k.invariant.7 S Ps g q) ((c.in_err-next.ensures.0 S Ps g.data_known g.acts_known q.params_known (own_short S Ps c.args.s.now c.args.sizes.now c.args.funcs.now c.args.acts.now c.args.params.now g q c.args.at c.loop-k.k c.loop-k.i c.list_at-own.result.now c.loop-k.rows (omega arith) (c.list_at-own.ensures ∙ ap (λ (p : ℕ). list_at c.args.s.now p) c.cell.ensures.0) (c.loop-k.invariant.7 S Ps g q)))))

pub overflow_cast-rows : goal.overflow_cast-rows
overflow_cast-rows c = let h = c.in_ok-next.ensures.1 in omega arith

pub loop-k-preserved : goal.loop-k-preserved
loop-k-preserved c = (
  omega arith,
  simp length-set c.loop-k.invariant.1,
  c.loop-k.invariant.2,
  simp length-set c.loop-k.invariant.3,
  c.loop-k.invariant.4,
  total_more c.args.s.now c.loop-k.rows c.loop-k.k (c.loop-k.k + 1) c.loop-k.i c.loop-k.total c.wide-total.result (omega arith) (omega arith) c.loop-k.invariant.5 (c.wide-total.ensures.0 ∙ c.peek.ensures),
  omega arith,
  λ S Ps g q. row_pass S Ps c.args.s.now c.args.sizes.now c.args.funcs.now c.args.acts.now c.args.params.now g q c.args.at c.loop-k.k c.loop-k.i c.list_at-own.result.now c.loop-k.rows (omega arith) (c.list_at-own.ensures ∙ ap (λ (p : ℕ). list_at c.args.s.now p) c.cell.ensures.0) (c.loop-k.invariant.7 S Ps g q) (c.loop-k.k + 1) c.in_ok-next.next (omega arith) (omega arith) ((c.in_ok-next.ensures.0 S Ps g.data_known g.acts_known q.params_known (own_short S Ps c.args.s.now c.args.sizes.now c.args.funcs.now c.args.acts.now c.args.params.now g q c.args.at c.loop-k.k c.loop-k.i c.list_at-own.result.now c.loop-k.rows (omega arith) (c.list_at-own.ensures ∙ ap (λ (p : ℕ). list_at c.args.s.now p) c.cell.ensures.0) (c.loop-k.invariant.7 S Ps g q)))),
)

pub shape_of-rows : goal.shape_of-rows
shape_of-rows c = c.loop-k.invariant.1

pub returns : goal.returns
returns c = let z : c.loop-k.k ≡ length c.args.params.now = omega arith in
    λ S Ps g q. (
      subst (λ (m : ℕ). Laid (each (read_summands S Ps) Ps (drop c.args.at c.args.s.now)) (encode_list encode_summand) c.args.s.now (Some c.loop-k.i) (take m c.loop-k.rows)) z (lay_done (each (read_summands S Ps) Ps (drop c.args.at c.args.s.now)) (encode_list encode_summand) c.args.s.now (each (read_summands S Ps) (drop c.loop-k.k Ps) (drop c.loop-k.i c.args.s.now)) (take c.loop-k.k c.loop-k.rows) c.loop-k.i (c.loop-k.invariant.7 S Ps g q) (rows_none S Ps c.args.s.now c.args.sizes.now c.args.funcs.now c.args.acts.now c.args.params.now g q c.loop-k.k c.loop-k.i (omega arith))),
      c.loop-k.invariant.5 ∙ ap (λ (m : ℕ). total_at c.args.s.now (take m c.loop-k.rows)) z,
    )
