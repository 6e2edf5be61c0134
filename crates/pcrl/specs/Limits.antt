-- The numbers of document 01, each named once.
use Rattle.std.specs.Prelude.{ℕ}

-- "At most 4,096 bytes"
abbrev pub max_bytes : ℕ
max_bytes = 4096

-- "the whole run at most 16 characters"
abbrev pub max_name : ℕ
max_name = 16

-- "no leading zero except 0 itself, at most 255"
abbrev pub max_numeral : ℕ
max_numeral = 255

-- The most bytes of a sort's name: in a table without hex F2 (#104) a run of 17 letters and an index of one digit.
abbrev pub max_sort_name : ℕ
max_sort_name = 18

-- "Never more than 16 round brackets open"
abbrev pub max_open : ℕ
max_open = 16

-- "At most 8 sorts with Bool, sizes 1 to 16; 16 functions; 32 actions; 16 processes of 0 to 4 parameters"
abbrev pub max_sorts : ℕ
max_sorts = 8

abbrev pub max_size : ℕ
max_size = 16

abbrev pub max_functions : ℕ
max_functions = 16

abbrev pub max_actions : ℕ
max_actions = 32

abbrev pub max_processes : ℕ
max_processes = 16

-- "A frame is an equation number and four values": an equation has as many parameters at the most.
abbrev pub frame_width : ℕ
frame_width = 4

-- "Functions have one or two sorts, actions none to two."
abbrev pub max_arity : ℕ
max_arity = 2

-- "Its limits: 64 equations; 4 parameters; 255 summands in all;
-- per summand 4 sum variables, 8 conditions, 8 calls; 31 nodes a data term; 64,768 stream bytes."
abbrev pub max_equations : ℕ
max_equations = 64

abbrev pub max_summands : ℕ
max_summands = 255

abbrev pub max_variables : ℕ
max_variables = 4

abbrev pub max_conditions : ℕ
max_conditions = 8

abbrev pub max_calls : ℕ
max_calls = 8

abbrev pub max_nodes : ℕ
max_nodes = 31

abbrev pub max_stream : ℕ
max_stream = 64768

-- "exactly 64 frames lent"
abbrev pub stack_limit : ℕ
stack_limit = 64
