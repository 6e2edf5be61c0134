-- Nothing, or three pieces.
use native.Mathlib.Omega.{arith}
use borrow.Author.Tests.{true-eqb, false-eqb}
use mathlib.Core.List.{[], ◌++◌}
use Rattle.pcrl.specs.Text.{bytes}
use Rattle.pcrl.specs.Walk.{values_text}
use Rattle.texts.proofs.Writing.{wrote_nothing, wrote_more, wrote_as}
use Rattle.texts.proofs.Values.{no_brackets, in_brackets}
use Rattle.texts.proofs.put_bracketed.Goals as goal

pub returns-then-is_empty : goal.returns-then-is_empty
returns-then-is_empty c = let a = c.args in wrote_as _ _ [] _ _ _ (no_brackets a.vs.now (true-eqb _ _ c.if-is_empty.ensures)) (wrote_nothing a.out.now a.at (omega (arith, c.requires)))

pub returns : goal.returns
returns c = let a = c.args in
    let o = a.out.now in
    wrote_as _ _ _ _ _ _ (in_brackets a.vs.now (false-eqb _ _ c.if-is_empty.ensures))
    (wrote_more o a.at (bytes "(" ++ values_text a.vs.now) c.put_values-b.new.out c.put_values-b.result (bytes ")") _ _ (omega (arith, c.requires))
    (wrote_more o a.at (bytes "(") c.put_byte-a.new.out c.put_byte-a.result (values_text a.vs.now) _ _ (omega (arith, c.requires)) c.put_byte-a.ensures c.put_values-b.ensures) c.put_byte.ensures)
