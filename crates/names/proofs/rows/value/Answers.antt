-- A numeral's value, or the most that a byte has.
use native.Mathlib.Omega.{arith}
use Rattle.names.specs.NameCells.{byte_of}
use Rattle.names.proofs.rows.value.Goals as goal

pub returns-then-c-lt-FIRST_NUMERAL : goal.returns-then-c-lt-FIRST_NUMERAL
unfolding byte_of
returns-then-c-lt-FIRST_NUMERAL c = omega arith

pub returns-then-v-ge-BYTE_LIMIT : goal.returns-then-v-ge-BYTE_LIMIT
unfolding byte_of
returns-then-v-ge-BYTE_LIMIT c = omega arith

pub returns : goal.returns
unfolding byte_of
returns c = omega arith
