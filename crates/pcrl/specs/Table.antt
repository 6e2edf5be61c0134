-- Linear tables: an equation has parameters and summands.
use Rattle.std.specs.Prelude.{List, [], ◌∷◌, map, ℕ, suc, ◌+◌, length, get_or}
use Rattle.pcrl.specs.Sheet.{Data, val, var, app, Datas, nil, cons, Act, Sig}

-- Document 01 calls it a head where it is of a term: "a head is sum variables, conditions with wanted value, an action, a list of calls".
-- Its variables are the equation's parameters and behind them the sum variables.
pub record Summand : Type 0 where
  -- the sorts of the sum variables
  pub vars : List ℕ
  -- each a wanted value and a term
  pub conds : List (ℕ × Data)
  pub act : Act
  pub terms : List Data
  -- each an equation and its terms
  pub calls : List (ℕ × List Data)

pub record Equation : Type 0 where
  pub params : List ℕ
  pub summands : List Summand

-- #104: "The layout, with hex F2 or without": do the sorts' names stand in the stream?
pub data Layout : Type 0 where
  with_names without_names : Layout

pub record Table : Type 0 where
  pub layout : Layout
  pub sig : Sig
  pub equations : List Equation
  -- "start equation, its data evaluated"
  pub start : ℕ × List ℕ

-- the table with its sorts' names in the stream: its stream is "its hex F2 bytes"
unfoldable pub renewed : Table → Table
renewed T = record { layout = with_names; sig = T.sig; equations = T.equations; start = T.start }

abbrev pub no_equation : Equation
no_equation = record { params = []; summands = [] }

-- equation e
unfoldable pub equation : Table → ℕ → Equation
equation T e = get_or T.equations e no_equation

-- the lists of parameters of all equations
unfoldable pub params_of : List Equation → List (List ℕ)
params_of es = map (λ (e : Equation). e.params) es

unfoldable pub summands_of : List Equation → List (List Summand)
summands_of es = map (λ (e : Equation). e.summands) es

-- "summands in all"
unfoldable pub summand_count : List Equation → ℕ
summand_count [] = 0
summand_count (e ∷ es) = length e.summands + summand_count es

-- the nodes of a data term
unfoldable mutual
  pub nodes : Data → ℕ
  nodes (val v) = 1
  nodes (var i) = 1
  nodes (app f ds) = suc (nodes_all ds)

  pub nodes_all : Datas → ℕ
  nodes_all nil = 0
  nodes_all (cons d ds) = nodes d + nodes_all ds
