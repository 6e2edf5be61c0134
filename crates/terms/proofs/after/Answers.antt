-- The byte's sort is passed over, and what it wants is pushed: nothing, or one or two sorts of a function.
use mathlib.Core.Path.{◌∙◌, ap, refl}
use Prim.Native.Nat.{◌+◌, ◌-◌, ℕ}
use native.Mathlib.Omega.{arith}
use lib.ListN.{get_or}
use Rattle.terms.proofs.Nodes.{wants_none, wants_one, wants_two}
use Rattle.terms.proofs.after.Goals as goal

pub returns-then-n-lt-FUNCTION_CODE : goal.returns-then-n-lt-FUNCTION_CODE
returns-then-n-lt-FUNCTION_CODE c = let a = c.args in (λ S Γ sizes D k h. rw (wants_none S Γ a.b (omega arith)) refl, (omega arith, omega arith))

pub returns-then-peek-eq1 : goal.returns-then-peek-eq1
returns-then-peek-eq1 c = (
  λ S Γ sizes D k h.
      let a = c.args in
      let q = c.cell-p.ensures.0 in
      rw (wants_one S a.s.now sizes a.funcs.now k Γ D a.b (c.wide-n.result - 0x40) c.peek.result c.peek-x.result (omega arith) (omega arith) h (c.peek.ensures ∙ ap (λ (i : ℕ). get_or a.s.now i 0) q) (c.peek-x.ensures ∙ ap (λ (i : ℕ). get_or a.s.now (i + 1) 0) q) (omega arith))
      c.push.ensures.0,
  (omega arith, omega arith),
)

pub returns : goal.returns
returns c = (
  λ S Γ sizes D k h.
      let a = c.args in
      let q = c.cell-p.ensures.0 in
      rw (wants_two S a.s.now sizes a.funcs.now k Γ D a.b (c.wide-n.result - 0x40) c.peek.result c.peek-x.result (omega arith) (omega arith) h (c.peek.ensures ∙ ap (λ (i : ℕ). get_or a.s.now i 0) q) (c.peek-x.ensures ∙ ap (λ (i : ℕ). get_or a.s.now (i + 1) 0) q) c.peek-2.result (c.peek-2.ensures ∙ ap (λ (i : ℕ). get_or a.s.now (i + 2) 0) q) (λ e. omega arith))
      (cc (c.push-2.ensures.0, c.push-t.ensures.0)),
  (omega arith, omega arith),
)
