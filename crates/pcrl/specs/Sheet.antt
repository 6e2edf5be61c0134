-- The resolved sheet: sorts, functions, actions, processes and variables are numbers, each counted from 0. Bool is sort 0.
use Rattle.std.specs.Prelude.{List, [], ◌∷◌, true, false, ℕ, zero, suc, ◌*◌, ◌-◌, ◌/◌, ◌%◌, eqb, ltb, get_or}
use Rattle.pcrl.specs.Tree.{Name}
use Rattle.pcrl.specs.Lists.{tabulate}

-- a value, a variable by its number, a function applied to data
mutual
  pub data Data : Type 0 where
    val var : ℕ → Data
    app : ℕ → Datas → Data

  pub data Datas : Type 0 where
    nil : Datas
    cons : Data → Datas → Datas

unfoldable pub list_of : Datas → List Data
list_of nil = []
list_of (cons d ds) = d ∷ list_of ds

pub data Act : Type 0 where
  tau : Act
  action : ℕ → Act

-- A process term. Brackets are gone: a sequence of more than two parts is a `seq` in a `seq`, on either side.
-- Variables in scope are numbered from the outermost; `sum x D p` binds the variable x of sort D in p.
pub data Proc : Type 0 where
  delta : Proc
  atom : Act → List Data → Proc
  alt : Proc → Proc → Proc
  cond : Data → Proc → Proc → Proc
  sum : ℕ → ℕ → Proc → Proc
  seq : Proc → Proc → Proc
  call : ℕ → List Data → Proc

-- the sorts that a function takes and the one that it gives; its values, "last argument fastest"
pub record Func : Type 0 where
  pub takes : List ℕ
  pub gives : ℕ
  pub values : List ℕ

pub record Action : Type 0 where
  pub name : List ℕ
  pub takes : List ℕ

-- sizes and names of the sorts, functions and actions: what data and labels mean
pub record Sig : Type 0 where
  pub sorts : List ℕ
  pub sort_names : List Name
  pub funcs : List Func
  pub acts : List Action

-- a written process: the sorts of its parameters, and its right side
pub record Process : Type 0 where
  pub params : List ℕ
  pub right : Proc

pub record Sheet : Type 0 where
  pub sig : Sig
  pub procs : List Process
  -- the process that init calls, and its data
  pub start : ℕ × List Data

-- #102: "Data gains `!`, `==`, `/\` and `\/`": each is a function that every sheet has, `==` one for each sort.
-- What a function's number stands for: those of operators are behind all that can be written.
pub data Operation : Type 0 where
  written : ℕ → Operation
  not and or : Operation
  -- `==` at a sort
  equal : ℕ → Operation
  -- none: `==` over two numerals has no sort
  unsorted : Operation

-- Numbers of operators: behind all that written functions have (16 at the most), as far apart as their codes in the stream, hex 60 to 63, are
-- from that of function 0, hex 40.
abbrev pub not_number : ℕ
not_number = 32

abbrev pub unsorted_number : ℕ
unsorted_number = 33

abbrev pub and_number : ℕ
and_number = 34

abbrev pub or_number : ℕ
or_number = 35

-- `==` at the sort D is 256 + D: a number that no byte of a stream stands for, so that none is read as `==` without its sort
abbrev pub first_equal : ℕ
first_equal = 256

-- by the number behind that of `!`
unfoldable pub operator : ℕ → Operation
operator zero = not
operator (suc zero) = unsorted
operator (suc (suc zero)) = and
operator (suc (suc (suc zero))) = or
operator (suc (suc (suc (suc n)))) = unsorted

unfoldable pub operation : ℕ → Operation
operation f =
    elim (ltb f not_number) [ true ↦ written f | false ↦ elim (ltb f first_equal) [ true ↦ operator (f - not_number) | false ↦ equal (f - first_equal) ] ]

abbrev pub no_func : Func
no_func = record { takes = []; gives = 0; values = [] }

abbrev pub no_action : Action
no_action = record { name = []; takes = [] }

abbrev pub no_process : Process
no_process = record { params = []; right = delta }

module _ (S : Sig) where
  unfoldable pub size : ℕ → ℕ
  size D = get_or S.sorts D 0

  unfoldable pub sort_name : ℕ → Name
  sort_name D = get_or S.sort_names D []

  -- written function f
  unfoldable pub func : ℕ → Func
  func f = get_or S.funcs f no_func

  -- of the pairs of n values in order, 1 where both are one value
  unfoldable pub same_at : ℕ → ℕ → ℕ
  same_at n i = elim (eqb (i / n) (i % n)) [ true ↦ 1 | false ↦ 0 ]

  unfoldable pub function : Operation → Func
  function (written f) = func f
  function not = record { takes = 0 ∷ []; gives = 0; values = 1 ∷ 0 ∷ [] }
  function and = record { takes = 0 ∷ 0 ∷ []; gives = 0; values = 0 ∷ 0 ∷ 0 ∷ 1 ∷ [] }
  function or = record { takes = 0 ∷ 0 ∷ []; gives = 0; values = 0 ∷ 1 ∷ 1 ∷ 1 ∷ [] }
  -- "`==` takes two data of one sort"
  function (equal D) = record { takes = D ∷ D ∷ []; gives = 0; values = tabulate (size D * size D) (same_at (size D)) }
  function unsorted = no_func

  -- the function of a number
  unfoldable pub function_at : ℕ → Func
  function_at f = function (operation f)

  -- the sorts that an action takes
  unfoldable pub takes_of : Act → List ℕ
  takes_of tau = []
  takes_of (action a) = (get_or S.acts a no_action).takes

module _ (H : Sheet) where
  -- the sorts of a process's parameters, and its right side
  unfoldable pub params : ℕ → List ℕ
  params k = (get_or H.procs k no_process).params

  unfoldable pub right : ℕ → Proc
  right k = (get_or H.procs k no_process).right
