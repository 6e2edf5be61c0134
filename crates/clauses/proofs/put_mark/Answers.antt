-- The mark is written, or nothing.
use native.Mathlib.Omega.{arith}
use Rattle.texts.proofs.Writing.{wrote_nothing}
use Rattle.clauses.proofs.Upto.{wrote_ends, ends_none}
use Rattle.clauses.proofs.put_mark.Goals as goal

pub returns-then-i-n : goal.returns-then-i-n
returns-then-i-n c = let w = c.put_byte.ensures in let test = c.if-i-n in
    record { ends = wrote_ends w; marks = record { below = λ h. w; past = λ h. absurd (omega arith) } }

pub returns : goal.returns
returns c = let test = c.if-i-n in let room = c.requires in
    record { ends = ends_none room; marks = record { below = λ h. absurd (omega arith); past = λ h. wrote_nothing _ _ room } }
