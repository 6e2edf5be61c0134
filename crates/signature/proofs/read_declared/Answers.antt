-- Functions, actions, and that no name is there twice: each part's answer is one law of the signature.
use mathlib.Core.Path.{◌∙◌, ◌≡◌, sym}
use Prim.Native.Nat.{◌≤◌}
use native.Mathlib.Omega.{arith}
use lib.ListN.{get_or, length, take}
use Rattle.std.specs.Prelude.{Some}
use Rattle.pcrl.specs.Limits.{max_actions}
use Rattle.signature.proofs.Sig.{acts_laid, funcs_laid, names_twice, no_acts, no_funcs, sig_read}
use Rattle.signature.proofs.read_declared.Goals as goal

pub returns-in_err-i : goal.returns-in_err-i
returns-in_err-i c =
    let a = c.args in
    rw c.from_residual.ensures (λ o e. no_funcs a.s.now a.sizes.now o a.at e (take (get_or a.s.now a.at 0) c.read_funcs.new.funcs) c.in_err-i.ensures.0, tt)

pub returns-in_err-end : goal.returns-in_err-end
returns-in_err-end c =
    let a = c.args in
    rw c.from_residual-in_err-end.ensures (λ o e. no_acts a.s.now a.sizes.now o a.at e c.in_ok-i.i (take (get_or a.s.now a.at 0) c.read_funcs.new.funcs) c.in_ok-i.ensures.0 (take (get_or a.s.now c.in_ok-i.i 0) c.read_acts.new.acts) c.in_err-end.ensures.0, tt)

pub slice_bounds-distinct-end : goal.slice_bounds-distinct-end
slice_bounds-distinct-end c =
    let a = c.args in
    let h : get_or a.s.now c.in_ok-i.i 0 ≤ max_actions = c.in_ok-end.ensures.1 in
    let k : length c.read_acts.new.acts ≡ length a.acts.now = c.read_acts.auto.acts in
    let q : c.wide-n.result ≡ get_or a.s.now c.in_ok-i.i 0 = c.wide-n.ensures.0 ∙ c.peek.ensures in
    let p : max_actions ≤ length a.acts.now = c.requires.1.0 in
    let g : c.wide-n.result ≤ length c.read_acts.new.acts = omega arith in
    g

pub returns-then-not-distinct : goal.returns-then-not-distinct
returns-then-not-distinct c =
    let a = c.args in
    let s = a.s.now in
    let zs = a.sizes.now in
    let acts = acts_laid s zs c.read_acts.new.acts c.in_ok-i.i c.wide-n.result (Some c.in_ok-end.end) (c.wide-n.ensures.0 ∙ c.peek.ensures) c.in_ok-end.ensures.0 in
    (λ o e. names_twice s zs o a.at e c.in_ok-i.i (take (get_or s a.at 0) c.read_funcs.new.funcs) c.in_ok-i.ensures.0 c.in_ok-end.end (take c.wide-n.result c.read_acts.new.acts) acts (sym c.distinct.ensures ∙ c.if-not-distinct.true), tt)

pub returns : goal.returns
returns c =
    let a = c.args in
    let s = a.s.now in
    let zs = a.sizes.now in
    let acts = acts_laid s zs c.read_acts.new.acts c.in_ok-i.i c.wide-n.result (Some c.in_ok-end.end) (c.wide-n.ensures.0 ∙ c.peek.ensures) c.in_ok-end.ensures.0 in
    let funcs = funcs_laid s zs c.read_funcs.new.funcs a.at c.wide.result (Some c.in_ok-i.i) (c.wide.ensures.0 ∙ c.peek-2.ensures) c.in_ok-i.ensures.0 in
    let y : c.wide.result ≡ get_or s a.at 0 = c.wide.ensures.0 ∙ c.peek-2.ensures in
    let z : c.wide-n.result ≡ get_or s c.in_ok-i.i 0 = c.wide-n.ensures.0 ∙ c.peek.ensures in
    let h = c.in_ok-i.ensures.1 in
    let k = c.in_ok-end.ensures.1 in
    (λ o e. sig_read s zs o a.at e c.in_ok-i.i (take c.wide.result c.read_funcs.new.funcs) funcs c.in_ok-end.end (take c.wide-n.result c.read_acts.new.acts) acts (sym c.distinct.ensures ∙ c.if-not-distinct.false), (omega arith, omega arith))
