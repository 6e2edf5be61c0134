-- Data terms without variables as symbols, read in the cells from the right, and what the symbols make of the values that stand behind them.
use Rattle.std.specs.Prelude.{List, [], ◌∷◌, ◌++◌, true, false, ℕ, zero, suc, ◌+◌, ◌*◌, eqb, ltb, length, drop, get_or, set}
use Rattle.pcrl.specs.Sheet.{Data, val, var, app, Datas, nil, cons, list_of, not_number, and_number, first_equal}
use Rattle.theory.specs.OperatorValues.{not_of, and_of, or_of, same_of}
use Rattle.nodes.specs.Layout.{value_tag, function_tag}
use Rattle.nodes.specs.Held.{func_width}

-- a value, a function of one argument, a function of two
pub data Symbol : Type 0 where
  value : ℕ → Symbol
  one : ℕ → Symbol
  two : ℕ → Symbol

unfoldable pub symbol_cells : Symbol → List ℕ
symbol_cells (value v) = (4 * v + value_tag) ∷ []
symbol_cells (one f) = (4 * f + function_tag) ∷ 1 ∷ []
symbol_cells (two f) = (4 * f + function_tag) ∷ 2 ∷ []

-- the cells of some symbols; the one that stands last is first in the list
unfoldable pub cells_of : List Symbol → List ℕ
cells_of [] = []
cells_of (a ∷ l) = cells_of l ++ symbol_cells a

-- function f, by how many arguments it has
unfoldable pub function : ℕ → ℕ → Symbol
function f zero = one f
function f (suc zero) = one f
function f (suc (suc n)) = two f

-- the symbols of a term, behind the symbols l
unfoldable mutual
  pub symbols : Data → List Symbol → List Symbol
  symbols (val v) l = value v ∷ l
  symbols (var i) l = l
  symbols (app f ds) l = argument_symbols ds (function f (length (list_of ds)) ∷ l)

  pub argument_symbols : Datas → List Symbol → List Symbol
  argument_symbols nil l = l
  argument_symbols (cons d ds) l = argument_symbols ds (symbols d l)

unfoldable pub all_symbols : List Data → List Symbol → List Symbol
all_symbols [] l = l
all_symbols (d ∷ ds) l = all_symbols ds (symbols d l)

-- the element x of the values of function f
unfoldable pub looked_at : List ℕ → List ℕ → ℕ → ℕ → ℕ
looked_at values places f x = get_or values (get_or places f 0 + x) 0

-- the size of the second sort that function f takes
unfoldable pub second_size : List ℕ → List ℕ → ℕ → ℕ
second_size sizes funcs f = get_or sizes (get_or funcs (func_width * f + 2) 0) 0

-- an operator of two operands
unfoldable pub operated : ℕ → ℕ → ℕ → ℕ
operated f x y = elim (ltb f first_equal) [ true ↦ elim (eqb f and_number) [ true ↦ and_of x y | false ↦ or_of x y ] | false ↦ same_of x y ]

-- the value of function f for one argument, and for two
unfoldable pub one_value : List ℕ → List ℕ → ℕ → ℕ → ℕ
one_value values places f x = elim (ltb f not_number) [ true ↦ looked_at values places f x | false ↦ not_of x ]

unfoldable pub two_value : List ℕ → List ℕ → List ℕ → List ℕ → ℕ → ℕ → ℕ → ℕ
two_value sizes funcs values places f x y = elim (ltb f not_number) [ true ↦ looked_at values places f (x * second_size sizes funcs f + y) | false ↦ operated f x y ]

module _ (sizes funcs values places : List ℕ) where
  -- A value is put before the others; a function's value takes the place of its last argument.
  unfoldable pub after : Symbol → List ℕ → List ℕ
  after (value v) s = v ∷ s
  after (one f) s = set s 0 (one_value values places f (get_or s 0 0))
  after (two f) s = set (drop 1 s) 0 (two_value sizes funcs values places f (get_or s 0 0) (get_or s 1 0))

  unfoldable pub run : List Symbol → List ℕ → List ℕ
  run [] s = s
  run (a ∷ l) s = run l (after a s)
