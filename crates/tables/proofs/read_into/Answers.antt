-- Signature, equations, start and the last tests: each part's answer is one law of the whole.
use mathlib.Core.Path.{◌∙◌, ◌≡◌, subst, sym}
use Prim.Native.Nat.{◌≤◌, ℕ}
use native.Mathlib.Omega.{arith}
use lib.ListN.{get_or, take}
use Rattle.pcrl.specs.Limits.{max_equations}
use Rattle.pcrl.specs.Table.{params_of}
use Rattle.signature.specs.Reading.{names_there}
use Rattle.tables.proofs.Whole.{decoded, equations_there, no_equations, no_sig, no_start, sig_there, too_many}
use Rattle.tables.specs.Indexed.{Decoded}
use Rattle.terms.specs.Stands.{KnownParams}
use Rattle.tables.proofs.read_into.Goals as goal

pub returns-in_err-g : goal.returns-in_err-g
returns-in_err-g c = rw c.from_residual.ensures (no_sig c.args.s.now c.in_err-g.ensures.0)

pub returns-in_err-r : goal.returns-in_err-r
returns-in_err-r c =
    let s = c.args.s.now in
    let sig = c.read_sig.new in
    let g = c.in_ok-g.g in
    let (L, S, at, known) = sig_there s (names_there g.named s (take g.sorts sig.sorts)) g.at (take g.sorts sig.sizes) (take g.funcs sig.funcs) (take g.acts sig.acts) c.in_ok-g.ensures.0 in
    rw c.from_residual-in_err-r.ensures (no_equations s L S g.at at.reads (c.in_err-r.ensures.0 S known))

pub returns-in_err-end : goal.returns-in_err-end
returns-in_err-end c =
    let s = c.args.s.now in
    let sig = c.read_sig.new in
    let g = c.in_ok-g.g in
    let (L, S, at, known) = sig_there s (names_there g.named s (take g.sorts sig.sorts)) g.at (take g.sorts sig.sizes) (take g.funcs sig.funcs) (take g.acts sig.acts) c.in_ok-g.ensures.0 in
    let q = c.read_equations.new in
    let r = c.in_ok-r.r in
    let (es, eqs) = equations_there S s g.at r.at r.total (take (get_or s g.at 0) q.params) (take (get_or s g.at 0) q.rows) (c.in_ok-r.ensures.0 S known) in
    let n : c.wide-n.result ≡ get_or s g.at 0 = c.wide-n.ensures.0 ∙ c.peek.ensures in
    let params = subst (λ (m : ℕ). KnownParams (params_of es) s (take m q.params)) (sym n) eqs.params_known in
    rw c.from_residual-in_err-end.ensures (no_start s L S g.at at.reads es r.at r.total (take (get_or s g.at 0) q.params) (take (get_or s g.at 0) q.rows) eqs (c.in_err-end.ensures.0 S es known.data_known.sizes_are params))

pub returns-then-r-gt-MAX_SUMMANDS : goal.returns-then-r-gt-MAX_SUMMANDS
returns-then-r-gt-MAX_SUMMANDS c =
    let s = c.args.s.now in
    let sig = c.read_sig.new in
    let g = c.in_ok-g.g in
    let (L, S, at, known) = sig_there s (names_there g.named s (take g.sorts sig.sorts)) g.at (take g.sorts sig.sizes) (take g.funcs sig.funcs) (take g.acts sig.acts) c.in_ok-g.ensures.0 in
    let q = c.read_equations.new in
    let r = c.in_ok-r.r in
    let (es, eqs) = equations_there S s g.at r.at r.total (take (get_or s g.at 0) q.params) (take (get_or s g.at 0) q.rows) (c.in_ok-r.ensures.0 S known) in
    let n : c.wide-n.result ≡ get_or s g.at 0 = c.wide-n.ensures.0 ∙ c.peek.ensures in
    let params = subst (λ (m : ℕ). KnownParams (params_of es) s (take m q.params)) (sym n) eqs.params_known in
    too_many s L S g.at at.reads es r.at r.total (take (get_or s g.at 0) q.params) (take (get_or s g.at 0) q.rows) eqs c.in_ok-end.end (c.in_ok-end.ensures.0 S es known.data_known.sizes_are params) c.if-r-gt-MAX_SUMMANDS.true

pub returns : goal.returns
returns c =
    let s = c.args.s.now in
    let sig = c.read_sig.new in
    let g = c.in_ok-g.g in
    let (L, S, at, known) = sig_there s (names_there g.named s (take g.sorts sig.sorts)) g.at (take g.sorts sig.sizes) (take g.funcs sig.funcs) (take g.acts sig.acts) c.in_ok-g.ensures.0 in
    let q = c.read_equations.new in
    let r = c.in_ok-r.r in
    let (es, eqs) = equations_there S s g.at r.at r.total (take (get_or s g.at 0) q.params) (take (get_or s g.at 0) q.rows) (c.in_ok-r.ensures.0 S known) in
    let n : c.wide-n.result ≡ get_or s g.at 0 = c.wide-n.ensures.0 ∙ c.peek.ensures in
    let params = subst (λ (m : ℕ). KnownParams (params_of es) s (take m q.params)) (sym n) eqs.params_known in
    let b = c.in_ok-g.ensures.1 in
    let h : get_or s g.at 0 ≤ max_equations = c.in_ok-r.ensures.1 in
    let m : c.wide-n.result ≤ max_equations = omega arith in (
      subst (λ (m : ℕ). Decoded s c.in_ok-end.end (take g.sorts sig.sizes) (names_there g.named s (take g.sorts sig.sorts)) (take g.funcs sig.funcs) (take g.acts sig.acts) (take m q.params) (take m q.rows) r.at) (sym n)
          (decoded s L S g.at at.reads es r.at r.total (take (get_or s g.at 0) q.params) (take (get_or s g.at 0) q.rows) eqs c.in_ok-end.end (c.in_ok-end.ensures.0 S es known.data_known.sizes_are params) (names_there g.named s (take g.sorts sig.sorts)) (take g.sorts sig.sizes) (take g.funcs sig.funcs) (take g.acts sig.acts) at c.if-r-gt-MAX_SUMMANDS.false c.requires.1.1.1.1.1.1),
      (b.0, (b.1.0, (b.1.1, (m, c.in_ok-end.ensures.1)))),
    )
