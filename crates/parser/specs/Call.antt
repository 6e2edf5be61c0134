-- Pieces of the definitions: a name with or without bracketed data, how a sum begins, optional parameters, names with brackets behind them.
use Rattle.std.specs.Prelude.{List, [], ◌∷◌, ◌++◌, Bool, true, false, ℕ}
use Rattle.pcrl.specs.Tests.{and}
use Rattle.pcrl.specs.Tokens.{Token, name, numeral, sign, is?}
use Rattle.pcrl.specs.Reader.{Reader, ◌>>=◌, ◌>>◌, return}
use Rattle.pcrl.specs.Tree.{Name, Part}
use Rattle.pcrl.specs.Grammar.{on, expect, a_name, data_given, parameters}

-- a name with or without bracketed data
abbrev pub call : ℕ → Reader Token Part
call n = do
  x ← a_name
  ds ← data_given n
  return (Part.named x ds)

-- `( v : sort ,` of a sum
abbrev pub sum_head : Reader Token (Name × Name)
sum_head = do
  expect "("
  v ← a_name
  expect ":"
  D ← a_name
  expect ","
  return (v, D)

-- "bracketed `v:sort` by commas", or nothing
abbrev pub params : ℕ → Reader Token (List (Name × Name))
params n = on "(" (parameters n) (return [])

-- an opening bracket stands first
unfoldable pub opens : List Token → Bool
opens [] = false
opens (t ∷ ts) = elim (is? "(" t) [ yes e ↦ true | no h ↦ false ]

-- if the token is a name, a bracket stands behind it
unfoldable pub called : Token → List Token → Bool
called (name x) ts = opens ts
called (numeral v) ts = true
called (sign w) ts = true

-- each name of ts has a bracket behind it, where us stand behind ts
unfoldable pub all_called : List Token → List Token → Bool
all_called [] us = true
all_called (t ∷ ts) us = and (called t (ts ++ us)) (all_called ts us)
