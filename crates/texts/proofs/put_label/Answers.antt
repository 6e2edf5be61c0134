-- tau, or a name and values in brackets.
use native.Mathlib.Omega.{arith}
use mathlib.Core.Path.{ap, ◌∙◌}
use mathlib.Core.List.{List, ◌++◌}
use Prim.Native.Nat.{ℕ}
use Rattle.pcrl.specs.Text.{bytes}
use Rattle.firing.proofs.Indexing.{acts_at}
use Rattle.texts.specs.Pieces.{bracketed}
use Rattle.texts.proofs.Writing.{wrote_more, wrote_as}
use Rattle.texts.proofs.Values.{tau_text, action_text}
use Rattle.texts.proofs.put_label.Goals as goal

pub returns-then-action-eq-TAU : goal.returns-then-action-eq-TAU
returns-then-action-eq-TAU c = (omega (arith, c.put_bytes.ensures.place), λ T x. wrote_as _ _ (bytes "tau") _ _ _ (tau_text T.sig c.args.action _ (omega (arith, c.if-action-eq-TAU))) c.put_bytes.ensures)

pub returns : goal.returns
returns c = (
  omega (arith, c.put_bracketed.ensures.place, c.put_bytes-p.auto.out),
  λ T x.
      let a = c.args in
      let vs = bracketed a.vs.now in
      wrote_as _ _ (c.name.result.now ++ vs) _ _ _ (ap (λ (n : List ℕ). n ++ vs) (c.name.ensures T.sig (acts_at T a.s.now a.index x)) ∙ action_text T.sig a.action _ (λ e. omega (arith, c.if-action-eq-TAU)))
      (wrote_more a.out.now a.at c.name.result.now c.put_bytes-p.new.out c.put_bytes-p.result vs _ _ (omega (arith, c.requires)) c.put_bytes-p.ensures c.put_bracketed.ensures),
)
