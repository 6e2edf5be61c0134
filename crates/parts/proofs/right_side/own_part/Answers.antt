-- Noted, or left alone.
use mathlib.Core.Path.{refl}
use native.Mathlib.Omega.{arith}
use Rattle.parts.proofs.BehindLaws.{from_none}
use Rattle.parts.proofs.RowLaws.{kept_none}
use Rattle.parts.proofs.right_side.own_part.Goals as goal

pub returns-then-own-eq1 : goal.returns-then-own-eq1
returns-then-own-eq1 c = record { count_le_count = omega arith; noting = record { kept = c.note-w.ensures.rows_kept; count_is = λ z. refl; notes = λ z. c.note-w.ensures.notes; count_same = λ z. absurd (z (omega arith)); nothing = λ z. absurd (z (omega arith)) } }

pub returns : goal.returns
returns c = let a = c.args in record { count_le_count = omega arith; noting = record { kept = kept_none a.rows.now a.s.count; count_is = λ z. absurd (omega arith); notes = λ z. absurd (omega arith); count_same = λ z. refl; nothing = λ z. from_none a.s.w a.out.now } }
