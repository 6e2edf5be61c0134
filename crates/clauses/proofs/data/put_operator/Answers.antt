-- `!`, or a bracket where the place asks for one.
use native.Mathlib.Omega.{arith}
use Rattle.texts.proofs.Writing.{wrote_nothing, wrote_as}
use Rattle.clauses.proofs.Marks.{not_text, bracket_text, bare_text}
use Rattle.clauses.proofs.data.put_operator.Goals as goal

pub returns-then-n-eq-NOT_CODE : goal.returns-then-n-eq-NOT_CODE
returns-then-n-eq-NOT_CODE c = λ k l. let a = c.args in wrote_as a.out.now a.at _ _ _ _ (not_text k l a.n a.place c.if-n-eq-NOT_CODE.true) c.put_byte.ensures

pub returns-then-joint-place : goal.returns-then-joint-place
returns-then-joint-place c = λ k l. let a = c.args in wrote_as a.out.now a.at _ _ _ _ (bracket_text k l a.n a.place c.joint.result (omega arith) c.joint.ensures (omega arith)) c.put_byte-then-joint-place.ensures

pub returns : goal.returns
returns c = λ k l. let a = c.args in wrote_as a.out.now a.at _ _ _ _ (bare_text k l a.n a.place c.joint.result (omega arith) c.joint.ensures (omega arith)) (wrote_nothing a.out.now a.at (omega arith))
