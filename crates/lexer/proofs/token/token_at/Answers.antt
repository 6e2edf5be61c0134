-- `lexer::token::token_at`: on each way to an arm the first byte is one of its keys, or lies in a range and is no key; a test over these says which case of the definition it is.
-- the keys of the arms with keys, the last arm first
use mathlib.Core.Option.{Option}
use mathlib.Core.Path.{subst⁻¹}
use mathlib.Core.Bool.{Bool}
use mathlib.Core.List.{List, [], ◌∷◌}
use Prim.Native.Nat.{ℕ}
use native.Mathlib.Omega.{arith}
use lib.Dec.{T}
use lib.ListN.{get_or}
use Rattle.pcrl.specs.Tests.{and, negated}
use Rattle.pcrl.specs.Bytes.{letter, digit}
use Rattle.pcrl.specs.Tokens.{Lexeme, punctuation}
use Rattle.laws.specs.Tests.{is_true}
use Rattle.lexer.specs.Classes.{alone, leads}
use Rattle.lexer.specs.Cells.{Reads}
use Rattle.lexer.proofs.Match.{keyed_test, from_all, ranged_test}
use Rattle.lexer.proofs.Signs.{unlike}
use Rattle.lexer.proofs.FirstToken.{neither, of_name, of_numeral, of_long_mark, reads_mark, reads_other}
use Rattle.lexer.proofs.token.token_at.Goals.{then-b-lt91, else-b-lt91+else-b-lt97+then-b-lt123, in-45-1, in_default+else-b-lt60+then-b-lt62, in-33-1, in_default+then-b-lt60+else-b-lt40+then-b-lt42, in_default+then-b-lt60+else-b-lt40+else-b-lt42+else-b-lt43+then-b-lt45, in_default+then-b-lt60+else-b-lt40+else-b-lt42+else-b-lt43+else-b-lt45+else-b-lt58}
use Rattle.lexer.proofs.token.token_at.Goals as goal

abbrev keys : List (List ℕ)
keys = (45 ∷ 47 ∷ 92 ∷ 124 ∷ []) ∷ (33 ∷ 35 ∷ 46 ∷ []) ∷ []

abbrev plain_digit : ℕ → Bool
plain_digit b = and (negated (letter b)) (digit b)

abbrev other : ℕ → Bool
other = neither (λ b. unlike b punctuation)

pub returns-in-48-to-57-clause-reads : goal.returns-in-48-to-57-clause-reads
returns-in-48-to-57-clause-reads c = let a = c.args in let b = get_or a.s.now a.at 0 in let d = ranged_test plain_digit keys 45 13 tt b (omega arith) (omega arith) (search) in subst⁻¹ (λ (x : Option Lexeme). Reads a.s.now x c.numeral_at.result) (of_numeral a.s.now a.at (omega arith) d) c.numeral_at.ensures.reads

pub returns-in-65-to-90-clause-reads : goal.returns-in-65-to-90-clause-reads
returns-in-65-to-90-clause-reads c = let a = c.args in let b = get_or a.s.now a.at 0 in let d : T (letter b) = elim c.in-65-to-90-1.branch [ then-b-lt91 w ↦ from_all letter 65 26 tt b (omega arith) (omega arith) | else-b-lt91+else-b-lt97+then-b-lt123 w ↦ from_all letter 97 26 tt b (omega arith) (omega arith) ] in subst⁻¹ (λ (x : Option Lexeme). Reads a.s.now x c.name_at.result) (of_name a.s.now a.at (omega arith) (is_true (letter b) d)) c.name_at.ensures.reads

pub returns-in_default-clause-reads : goal.returns-in_default-clause-reads
unfolding punctuation
returns-in_default-clause-reads c = let a = c.args in let b = get_or a.s.now a.at 0 in reads_other a.s.now a.at (omega arith) (ranged_test other keys 0 40 tt b (omega arith) (omega arith) (search))

pub returns-in_default-2-clause-reads : goal.returns-in_default-2-clause-reads
unfolding punctuation
returns-in_default-2-clause-reads c = let a = c.args in let b = get_or a.s.now a.at 0 in reads_other a.s.now a.at (omega arith) (from_all other 42 1 tt b (omega arith) (omega arith))

pub returns-in_default-3-clause-reads : goal.returns-in_default-3-clause-reads
unfolding punctuation
returns-in_default-3-clause-reads c = let a = c.args in let b = get_or a.s.now a.at 0 in reads_other a.s.now a.at (omega arith) (from_all other 62 3 tt b (omega arith) (omega arith))

pub returns-in_default-4-clause-reads : goal.returns-in_default-4-clause-reads
unfolding punctuation
returns-in_default-4-clause-reads c = let a = c.args in let b = get_or a.s.now a.at 0 in reads_other a.s.now a.at (omega arith) (ranged_test other keys 91 6 tt b (omega arith) (omega arith) (search))

pub returns-in_default-5-clause-reads : goal.returns-in_default-5-clause-reads
unfolding punctuation
returns-in_default-5-clause-reads c = let a = c.args in let b = get_or a.s.now a.at 0 in reads_other a.s.now a.at (omega arith) (ranged_test other keys 123 133 tt b (omega arith) (omega (arith, c.type_inv.s a.at)) (search))

pub returns-in-45-clause-reads : goal.returns-in-45-clause-reads
returns-in-45-clause-reads c = let a = c.args in let b = get_or a.s.now a.at 0 in let d : T (leads b) = elim c.in-45-1.branch [ in-45-1 w ↦ keyed_test leads (45 ∷ 47 ∷ 92 ∷ 124 ∷ []) tt b (search) | in_default+else-b-lt60+then-b-lt62 w ↦ from_all leads 60 2 tt b (omega arith) (omega arith) ] in subst⁻¹ (λ (x : Option Lexeme). Reads a.s.now x c.long_mark_at.result) (of_long_mark a.s.now a.at (omega arith) (is_true (leads b) d)) c.long_mark_at.ensures.reads

pub returns-in-40-clause-reads : goal.returns-in-40-clause-reads
returns-in-40-clause-reads c = let a = c.args in let b = get_or a.s.now a.at 0 in
    let d : T (alone b) = elim c.in-40-1.branch [
      | in-33-1 w ↦ keyed_test alone (33 ∷ 35 ∷ 46 ∷ []) tt b (search)
      | in_default+then-b-lt60+else-b-lt40+then-b-lt42 w ↦ from_all alone 40 2 tt b (omega arith) (omega arith)
      | in_default+then-b-lt60+else-b-lt40+else-b-lt42+else-b-lt43+then-b-lt45 w ↦ from_all alone 43 2 tt b (omega arith) (omega arith)
      | in_default+then-b-lt60+else-b-lt40+else-b-lt42+else-b-lt43+else-b-lt45+else-b-lt58 w ↦ from_all alone 58 2 tt b (omega arith) (omega arith)
    ] in rw c.from.ensures (reads_mark a.s.now a.at (omega arith) (is_true (alone b) d))
