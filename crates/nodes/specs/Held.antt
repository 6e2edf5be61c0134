-- Arrays that hold a resolved sheet: what the resolver writes, and the checks and the writer of tables read.
use Rattle.std.specs.Prelude.{◌≡◌, List, ◌++◌, false, ℕ, ◌+◌, ◌*◌, ◌≤◌, ◌<◌, length, get_or, drop}
use Rattle.pcrl.specs.Limits.{max_sorts, max_functions, max_actions, max_processes, frame_width, max_arity}
use Rattle.pcrl.specs.Sheet.{Proc, call, Func, Action, Process, Sig, Sheet, no_action, no_process, func}
use Rattle.nodes.specs.declared.Outline.{Outline}
use Rattle.nodes.specs.Layout.{enc}
use Rattle.nodes.specs.Scoped.{Scoped}

-- the bytes in a function's, an action's and a process's row
abbrev pub func_width : ℕ
func_width = 4

abbrev pub act_width : ℕ
act_width = 3

abbrev pub proc_width : ℕ
proc_width = 1 + frame_width

-- at p: how many sorts, then the sorts. What stands in the row past them does not matter.
pub record SortsAt (Ds s : List ℕ) (p : ℕ) : Type 0 where
  pub many : get_or s p 0 ≡ length Ds
  pub each : (i : ℕ) → i < length Ds → get_or s (p + 1 + i) 0 ≡ get_or Ds i 0

-- at p: the term
abbrev pub TermAt : Proc → List ℕ → ℕ → Type 0
TermAt q cells p = (rest : List ℕ) × (drop p cells ≡ enc false q ++ rest)

-- Function i has the row i of `funcs`: how many sorts it takes, room for two, the sort that it gives.
-- Its values begin in `values` at places[i]; those of the next one begin where they end.
pub record FuncAt (g : Func) (funcs values places : List ℕ) (i : ℕ) : Type 0 where
  pub some_sort : 1 ≤ length g.takes
  pub few : length g.takes ≤ max_arity
  pub takes : SortsAt g.takes funcs (func_width * i)
  pub gives : get_or funcs (func_width * i + 3) 0 ≡ g.gives
  pub values_are : (rest : List ℕ) × (drop (get_or places i 0) values ≡ g.values ++ rest)
  pub values_end : get_or places (i + 1) 0 ≡ get_or places i 0 + length g.values

-- Action i has the row i of `acts`: how many sorts it takes, room for two.
pub record ActAt (a : Action) (acts : List ℕ) (i : ℕ) : Type 0 where
  pub few : length a.takes ≤ max_arity
  pub takes : SortsAt a.takes acts (act_width * i)

-- Process k has the row k of `procs`: how many parameters, room for four sorts. Its right side stands in the cells at starts[k]. There are m processes.
pub record ProcAt (m : ℕ) (p : Process) (procs cells starts : List ℕ) (k : ℕ) : Type 0 where
  pub few : length p.params ≤ frame_width
  pub params : SortsAt p.params procs (proc_width * k)
  pub right : TermAt p.right cells (get_or starts k 0)
  pub scoped : Scoped m (length p.params) p.right

-- sorts by their sizes, functions and actions
pub record HeldSig (S : Sig) (sizes funcs values places acts : List ℕ) (n : Outline) : Type 0 where
  pub sort_count : n.sorts ≡ length S.sorts
  pub func_count : n.funcs ≡ length S.funcs
  pub act_count : n.acts ≡ length S.acts
  pub few_sorts : n.sorts ≤ max_sorts
  pub few_funcs : n.funcs ≤ max_functions
  pub few_acts : n.acts ≤ max_actions
  pub size_at : (D : ℕ) → D < n.sorts → get_or sizes D 0 ≡ get_or S.sorts D 0
  pub func_at : (i : ℕ) → i < n.funcs → FuncAt (func S i) funcs values places i
  pub act_at : (i : ℕ) → i < n.acts → ActAt (get_or S.acts i no_action) acts i

-- processes and init
pub record HeldProcs (H : Sheet) (procs cells starts : List ℕ) (n : Outline) : Type 0 where
  pub proc_count : n.procs ≡ length H.procs
  pub few_procs : n.procs ≤ max_processes
  pub proc_at : (k : ℕ) → k < n.procs → ProcAt n.procs (get_or H.procs k no_process) procs cells starts k
  pub init_at : TermAt (call H.start.0 H.start.1) cells n.init
  pub init_scoped : Scoped n.procs 0 (call H.start.0 H.start.1)

-- the arrays
pub record Arrays : Type 0 where
  pub sizes : List ℕ
  pub funcs : List ℕ
  pub values : List ℕ
  pub places : List ℕ
  pub acts : List ℕ
  pub procs : List ℕ
  pub cells : List ℕ
  pub starts : List ℕ

-- they hold the sheet
pub record Held (H : Sheet) (A : Arrays) (n : Outline) : Type 0 where
  pub signature : HeldSig H.sig A.sizes A.funcs A.values A.places A.acts n
  pub processes : HeldProcs H A.procs A.cells A.starts n
