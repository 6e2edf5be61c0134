-- Tau has no terms; the sorts of an action stand behind its name, and a term is read for each.
use mathlib.Core.Path.{◌∙◌, ◌≡◌, ap}
use Prim.Native.Nat.{◌+◌, ℕ}
use native.Mathlib.Omega.{arith}
use lib.ListN.{get_or}
use Rattle.summands.proofs.Label.{label_bad, label_end, label_pass, label_tau}
use Rattle.terms.specs.Stands.{list_at}
use Rattle.summands.proofs.read_label.Goals as goal

pub returns-then-s-at : goal.returns-then-s-at
returns-then-s-at c = λ S k q. label_end S c.args.scope.now c.args.s.now c.args.at c.if-s-at.true

pub returns-then-s-at-2 : goal.returns-then-s-at-2
returns-then-s-at-2 c = λ S k q. label_tau S c.args.scope.now c.args.s.now c.args.at (c.args.at + 1) (omega arith) (omega arith) c.if-s-at-2.true

pub returns-in_err-a : goal.returns-in_err-a
returns-in_err-a c =
    let b = c.args in
    rw c.from_residual.ensures (λ S k q. label_bad S b.scope.now b.s.now b.at b.acts.now q c.if-s-at.false c.if-s-at-2.false (λ l. c.in_err-a.ensures (c.if-s-at.false, (omega arith, l))))

pub returns : goal.returns
returns c = λ S k q.
    let b = c.args in
    let a = c.in_ok-a.ensures in
    let z : c.cell-p.result + 1 + c.wide.result ≡ c.cell-p.result + 1 + get_or b.s.now c.cell-p.result 0 = simp (c.wide.ensures.0 ∙ c.peek.ensures) in
    label_pass S b.scope.now b.s.now b.at b.acts.now q c.if-s-at.false c.if-s-at-2.false (b.at + 1) c.cell-p.result c.list_at-sorts.result.now (omega arith) a.1.1.1 (c.cell-p.ensures.0 ∙ ap (λ (i : ℕ). get_or b.acts.now i 0) a.0) (c.list_at-sorts.ensures ∙ ap (λ (i : ℕ). list_at b.s.now i) z) ∙ c.read_terms.ensures S k
