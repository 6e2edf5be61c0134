-- By the four marks.
use mathlib.Core.Path.{sym, ap}
use Prim.Native.Nat.{ℕ}
use Rattle.texts.proofs.Writing.{wrote_as}
use Rattle.clauses.specs.Brackets.{mark_text, mark_of}
use Rattle.clauses.proofs.Marks.{mark_last}
use Rattle.clauses.proofs.operands.put_joint.Goals as goal

pub returns-then-m-eq-COMMA : goal.returns-then-m-eq-COMMA
unfolding mark_text mark_of
returns-then-m-eq-COMMA c = let a = c.args in wrote_as a.out.now a.at _ _ _ _ (ap (λ (k : ℕ). mark_text (mark_of k)) (sym c.if-m-eq-COMMA.true)) c.put_byte.ensures

pub returns-then-m-eq-OR_MARK : goal.returns-then-m-eq-OR_MARK
unfolding mark_text mark_of
returns-then-m-eq-OR_MARK c = let a = c.args in wrote_as a.out.now a.at _ _ _ _ (ap (λ (k : ℕ). mark_text (mark_of k)) (sym c.if-m-eq-OR_MARK.true)) c.put_bytes.ensures

pub returns-then-m-eq-AND_MARK : goal.returns-then-m-eq-AND_MARK
unfolding mark_text mark_of
returns-then-m-eq-AND_MARK c = let a = c.args in wrote_as a.out.now a.at _ _ _ _ (ap (λ (k : ℕ). mark_text (mark_of k)) (sym c.if-m-eq-AND_MARK.true)) c.put_bytes-then-m-eq-AND_MARK.ensures

pub returns : goal.returns
unfolding mark_text
returns c = let a = c.args in wrote_as a.out.now a.at _ _ _ _ (ap mark_text (mark_last a.m c.if-m-eq-COMMA.false c.if-m-eq-OR_MARK.false c.if-m-eq-AND_MARK.false)) c.put_bytes-2.ensures
