-- "Stream, one byte a number, indices from 0": the bytes of a table.
-- The lists of parameters of all equations stand first and their summands behind them: written equation by equation
-- a stream does not say which table it is of (a theorem of the crate codec).
use Rattle.std.specs.Prelude.{List, [], ◌∷◌, ◌++◌, ℕ, ◌+◌, length}
use Rattle.pcrl.specs.Reader.{all}
use Rattle.pcrl.specs.Tree.{Name}
use Rattle.pcrl.specs.Sheet.{Data, val, var, app, Datas, nil, cons, Act, tau, action, Func, Action, Sig, Operation, operation}
use Rattle.pcrl.specs.Lists.{together}
use Rattle.pcrl.specs.Table.{Summand, Equation, Layout, with_names, without_names, Table, params_of, summands_of}

-- "value v is v; variable i is 20 + i, parameters first; function i is 40 + i"
abbrev pub variable_code : ℕ
variable_code = 0x20

abbrev pub function_code : ℕ
function_code = 0x40

-- #102: "In the stream they are hex 60 to 63 in that order, and `==` is followed by one byte for its sort."
unfoldable pub codes : Operation → List ℕ
codes (Operation.written f) = (function_code + f) ∷ []
codes Operation.not = 0x60 ∷ []
codes (Operation.equal D) = 0x61 ∷ D ∷ []
codes Operation.and = 0x62 ∷ []
codes Operation.or = 0x63 ∷ []
codes Operation.unsorted = []

-- "hex FF for tau"
abbrev pub tau_code : ℕ
tau_code = 0xFF

-- "Terms in prefix order"
unfoldable mutual
  pub encode_data : Data → List ℕ
  encode_data (val v) = v ∷ []
  encode_data (var i) = (variable_code + i) ∷ []
  encode_data (app f ds) = codes (operation f) ++ encode_datas ds

  pub encode_datas : Datas → List ℕ
  encode_datas nil = []
  encode_datas (cons d ds) = encode_data d ++ encode_datas ds

-- a count, and the numbers
unfoldable pub encode_numbers : List ℕ → List ℕ
encode_numbers l = length l ∷ l

-- a count, and what is written for each
unfoldable pub encode_list : {A : Type 0} → (A → List ℕ) → List A → List ℕ
encode_list w l = length l ∷ all w l

-- #104: "starts with hex F2"
abbrev pub names_code : ℕ
names_code = 0xF2

-- "The stream gives each sort a name length and name after its size"
unfoldable pub encode_sort : ℕ × Name → List ℕ
encode_sort x = (x.0 ∷ []) ++ encode_numbers x.1

-- "count and sizes of sorts, Bool's 2 first"
unfoldable pub encode_sorts : Layout → Sig → List ℕ
encode_sorts with_names S = names_code ∷ encode_list encode_sort (together S.sorts S.sort_names)
encode_sorts without_names S = encode_numbers S.sorts

-- "each arity, sorts, result, values"
unfoldable pub encode_func : Func → List ℕ
encode_func g = encode_numbers g.takes ++ ((g.gives ∷ []) ++ g.values)

-- "each name length, name, arity, sorts"
unfoldable pub encode_action : Action → List ℕ
encode_action a = encode_numbers a.name ++ encode_numbers a.takes

-- "count of functions .. count of actions"
unfoldable pub encode_sig : Layout → Sig → List ℕ
encode_sig L S = encode_sorts L S ++ (encode_list encode_func S.funcs ++ encode_list encode_action S.acts)

unfoldable pub encode_act : Act → List ℕ
encode_act tau = tau_code ∷ []
encode_act (action a) = a ∷ []

-- "each wanted value and term"
unfoldable pub encode_cond : ℕ × Data → List ℕ
encode_cond c = (c.0 ∷ []) ++ encode_data c.1

-- "each equation and terms"
unfoldable pub encode_call : ℕ × List Data → List ℕ
encode_call c = (c.0 ∷ []) ++ all encode_data c.1

-- "A summand: count and sorts of variables; count of conditions, each wanted value and term;
-- action (hex FF for tau) and terms; count of calls, each equation and terms."
unfoldable pub encode_summand : Summand → List ℕ
encode_summand h = encode_numbers h.vars ++ (encode_list encode_cond h.conds ++ (encode_act h.act ++ (all encode_data h.terms ++ encode_list encode_call h.calls)))

-- "count of equations, each parameter count, sorts", and then of each "summand count, summands"
unfoldable pub encode_equations : List Equation → List ℕ
encode_equations es = encode_list encode_numbers (params_of es) ++ all (encode_list encode_summand) (summands_of es)

-- "start equation, its data evaluated"
unfoldable pub encode_start : ℕ × List ℕ → List ℕ
encode_start s = (s.0 ∷ []) ++ s.1

unfoldable pub encode : Table → List ℕ
encode T = encode_sig T.layout T.sig ++ (encode_equations T.equations ++ encode_start T.start)
