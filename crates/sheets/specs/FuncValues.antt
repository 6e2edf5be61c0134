-- The values of a sheet's functions: each is a numeral of the sheet, and each takes two tokens, itself and a comma or `=`.
use mathlib.Core.List.{List, [], ◌∷◌, ◌++◌}
use Rattle.std.specs.Prelude.{ℕ, ◌+◌, ◌*◌, ◌≤◌, length}
use Rattle.std.proofs.Common.{arith, length-append}
use Rattle.pcrl.specs.Tests.{Every}
use Rattle.pcrl.specs.Tokens.{Token, name, numeral, the}
use Rattle.pcrl.specs.Reader.{all}
use Rattle.pcrl.specs.Tree.{FuncLine, RawSheet}
use Rattle.laws.specs.Every.{every_left, every_right}
use Rattle.pcrl.specs.Print.{joined, line, print_lines, print_sorts, print_values, print_sort, print_func, print_sheet}
use Rattle.grammar.specs.PrintLaws.{sheet_length}

module _ (P : Token → Type 0) where
  -- what holds of every printed token holds of every value
  every_value : (vs : List ℕ) → Every P (print_values vs) → Every (λ v. P (numeral v)) vs
  unfolding print_values joined Every
  every_value [] h = tt
  every_value (v ∷ []) h = h
  every_value (v ∷ u ∷ vs) h = (h.0, every_value (u ∷ vs) h.1.1)

  func_values : (l : FuncLine) → Every P (line "func" (print_func l)) → Every (λ v. P (numeral v)) l.values
  unfolding line print_func Every
  func_values l h =
      let gives = the "->" ∷ name l.gives ∷ the "=" ∷ print_values l.values in
      let takes = print_sorts l.takes ++ gives in
      every_value l.values (every_right P (print_sorts l.takes) gives (every_left P takes (the ";" ∷ []) h.1.1.1)).1.1.1

  funcs_values : (ls : List FuncLine) → Every P (print_lines "func" print_func ls) → Every (λ (l : FuncLine). Every (λ v. P (numeral v)) l.values) ls
  unfolding Every all
  funcs_values [] h = tt
  funcs_values (l ∷ ls) h =
      let first = line "func" (print_func l) in
      let rest = print_lines "func" print_func ls in
      (func_values l (every_left P first rest h), funcs_values ls (every_right P first rest h))

  pub sheet_values : (R : RawSheet) → Every P (print_sheet R) → Every (λ (l : FuncLine). Every (λ v. P (numeral v)) l.values) R.funcs
  unfolding print_sheet
  sheet_values R h =
      let past_sorts = every_right P (print_lines "sort" print_sort R.sorts) _ h in
      funcs_values R.funcs (every_left P (print_lines "func" print_func R.funcs) _ past_sorts)

-- ---- two tokens for each value
values_length : (vs : List ℕ) → 2 * length vs ≤ length (print_values vs) + 1
unfolding print_values joined
values_length [] = omega arith
values_length (v ∷ []) = omega arith
values_length (v ∷ u ∷ vs) = omega (arith, values_length (u ∷ vs))

func_few : (l : FuncLine) → 2 * length l.values ≤ length (line "func" (print_func l))
unfolding line print_func
func_few l = simp length-append (omega (arith, values_length l.values))

funcs_few : (ls : List FuncLine) → 2 * length (all (λ (l : FuncLine). l.values) ls) ≤ length (print_lines "func" print_func ls)
unfolding all
funcs_few [] = omega arith
funcs_few (l ∷ ls) = simp length-append (omega (arith, func_few l, funcs_few ls))

pub values_below : (R : RawSheet) → 2 * length (all (λ (l : FuncLine). l.values) R.funcs) ≤ length (print_sheet R)
values_below R = omega (arith, funcs_few R.funcs, sheet_length R)
