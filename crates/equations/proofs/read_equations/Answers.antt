-- The parameters are laid, and the summands under the parameters that were laid.
use mathlib.Core.Path.{◌∙◌, ◌≡◌}
use Prim.Native.Nat.{◌≤◌}
use native.Mathlib.Omega.{arith}
use lib.ListN.{get_or, length, take}
use lib.Seq.{length-take-le}
use Rattle.std.specs.Prelude.{Some, None}
use Rattle.equations.proofs.Equations.{no_params, params_laid, rows_read}
use Rattle.pcrl.specs.Limits.{max_equations}
use Rattle.terms.proofs.Rests.{on_some}
use Rattle.equations.proofs.read_equations.Goals as goal

pub returns-in_err-summands : goal.returns-in_err-summands
returns-in_err-summands c =
    let a = c.args in
    let places = take (get_or a.s.now a.at 0) c.read_params.new.params in
    rw c.from_residual.ensures (λ S g. no_params S a.s.now a.sizes.now a.funcs.now a.acts.now g a.at places (params_laid S a.s.now a.sizes.now places a.at None g.data_known.sizes_are c.in_err-summands.ensures.0), tt)

pub slice_bounds-read_rows-end : goal.slice_bounds-read_rows-end
slice_bounds-read_rows-end c =
    let h : get_or c.args.s.now c.args.at 0 ≤ max_equations = c.in_ok-summands.ensures.1 in
    let k : length c.read_params.new.params ≡ length c.args.params.now = c.read_params.auto.params in
    let q : c.wide-n.result ≡ get_or c.args.s.now c.args.at 0 = c.wide-n.ensures.0 ∙ c.peek.ensures in
    let p : max_equations ≤ length c.args.params.now = c.requires.0 in
    let g : c.wide-n.result ≤ length c.read_params.new.params = omega arith in
    g

pub read_rows-requires : goal.read_rows-requires
read_rows-requires c =
    let h : get_or c.args.s.now c.args.at 0 ≤ max_equations = c.in_ok-summands.ensures.1 in
    let k : length c.read_params.new.params ≡ length c.args.params.now = c.read_params.auto.params in
    let q : c.wide-n.result ≡ get_or c.args.s.now c.args.at 0 = c.wide-n.ensures.0 ∙ c.peek.ensures in
    let p : max_equations ≤ length c.args.params.now = c.requires.0 in
    let l : length (take c.wide-n.result c.read_params.new.params) ≡ c.wide-n.result = length-take-le c.wide-n.result c.read_params.new.params (omega arith) in
    let v : length (take c.wide-n.result c.read_params.new.params) ≤ max_equations = omega arith in
    (v, c.requires.1)

pub returns : goal.returns
returns c =
    let a = c.args in
    let n = get_or a.s.now a.at 0 in
    let h : n ≤ max_equations = c.in_ok-summands.ensures.1 in
    let k : length c.read_params.new.params ≡ length a.params.now = c.read_params.auto.params in
    let q : c.wide-n.result ≡ n = c.wide-n.ensures.0 ∙ c.peek.ensures in
    let p : max_equations ≤ length a.params.now = c.requires.0 in
    let l : length (take c.wide-n.result c.read_params.new.params) ≡ c.wide-n.result = length-take-le c.wide-n.result c.read_params.new.params (omega arith) in
    let u : length c.read_rows.new.rows ≡ length a.rows.now = c.read_rows.auto.rows in
    let v : max_equations ≤ length a.rows.now = c.requires.1.0 in
    let x : n ≤ length c.read_params.new.params = omega arith in
    let y : n ≤ length c.read_rows.new.rows = omega arith in (
      λ S g. rows_read S a.s.now a.sizes.now a.funcs.now a.acts.now g a.at c.in_ok-summands.summands n c.wide-n.result (length (take c.wide-n.result c.read_params.new.params)) c.read_rows.result c.read_params.new.params c.read_rows.new.rows q (l ∙ q) x y
          (params_laid S a.s.now a.sizes.now (take n c.read_params.new.params) a.at (Some c.in_ok-summands.summands) g.data_known.sizes_are c.in_ok-summands.ensures.0) (λ Ps r. c.read_rows.ensures S Ps g r),
      on_some c.read_rows.result h,
    )
