-- A resolved term in cells of 16 bits, in prefix order. Every node of a process term is:
-- a first cell, how many cells its data terms take, how many they are, the terms, the subterms.
use Rattle.std.specs.Prelude.{List, [], ◌∷◌, ◌++◌, Bool, true, false, ℕ, ◌+◌, ◌*◌, length}
use Rattle.pcrl.specs.Sheet.{Data, val, var, app, Datas, nil, cons, list_of, Act, tau, action, Proc, delta, atom, alt, cond, sum, seq, call}

-- a cell is below this, a byte of a row below that
abbrev pub cell_limit : ℕ
cell_limit = 65536

abbrev pub byte_limit : ℕ
byte_limit = 256

-- What a data cell is, is its rest by 4; a value, a variable's or a function's number is the quotient.
abbrev pub value_tag : ℕ
value_tag = 0

abbrev pub variable_tag : ℕ
variable_tag = 1

abbrev pub function_tag : ℕ
function_tag = 2

-- A function has the number of its arguments in a second cell.
unfoldable mutual
  pub enc_data : Data → List ℕ
  enc_data (val v) = (4 * v + value_tag) ∷ []
  enc_data (var i) = (4 * i + variable_tag) ∷ []
  enc_data (app f ds) = (4 * f + function_tag) ∷ length (list_of ds) ∷ enc_arguments ds

  pub enc_arguments : Datas → List ℕ
  enc_arguments nil = []
  enc_arguments (cons d ds) = enc_data d ++ enc_arguments ds

-- some data terms, one after another
unfoldable pub enc_datas : List Data → List ℕ
enc_datas [] = []
enc_datas (d ∷ ds) = enc_data d ++ enc_datas ds

-- The kinds of nodes: a first cell's rest by 16. The rest by 4 is how many subterms there are.
abbrev pub delta_kind : ℕ
delta_kind = 0

abbrev pub sum_kind : ℕ
sum_kind = 1

abbrev pub alt_kind : ℕ
alt_kind = 2

abbrev pub atom_kind : ℕ
atom_kind = 4

abbrev pub cond_kind : ℕ
cond_kind = 6

abbrev pub call_kind : ℕ
call_kind = 8

abbrev pub seq_kind : ℕ
seq_kind = 10

-- added to the first cell of a part that stands after a first part and gets a new equation
abbrev pub after_mark : ℕ
after_mark = 16

-- a node's number stands in its first cell, so many times itself
abbrev pub number_unit : ℕ
number_unit = 32

unfoldable pub one_if : Bool → ℕ
one_if true = 1
one_if false = 0

-- 0 is tau
unfoldable pub act_number : Act → ℕ
act_number tau = 0
act_number (action a) = a + 1

-- a node's number, whether it gets a new equation, and its kind
abbrev pub first_cell : ℕ → ℕ → ℕ → ℕ
first_cell number own kind = number_unit * number + (after_mark * own + kind)

-- a node without its subterms
abbrev pub enc_node : ℕ → List Data → List ℕ
enc_node first ds = first ∷ length (enc_datas ds) ∷ length ds ∷ enc_datas ds

-- r: the term stands after the first part of a sequence
unfoldable pub enc : Bool → Proc → List ℕ
enc r delta = enc_node (first_cell 0 (one_if r) delta_kind) []
enc r (atom a ds) = enc_node (first_cell (act_number a) (one_if r) atom_kind) ds
enc r (alt p q) = enc_node (first_cell 0 (one_if r) alt_kind) [] ++ (enc false p ++ enc false q)
enc r (cond c p q) = enc_node (first_cell 0 (one_if r) cond_kind) (c ∷ []) ++ (enc false p ++ enc false q)
enc r (sum x D p) = enc_node (first_cell D (one_if r) sum_kind) (var x ∷ []) ++ enc false p
enc r (seq p q) = enc_node (first_cell 0 0 seq_kind) [] ++ (enc r p ++ enc true q)
enc r (call k ds) = enc_node (first_cell k 0 call_kind) ds

-- a term, and whether it stands after a first part
abbrev pub Item : Type 0
Item = Bool × Proc

-- some terms, one after another
unfoldable pub encs : List Item → List ℕ
encs [] = []
encs (x ∷ xs) = enc x.0 x.1 ++ encs xs
