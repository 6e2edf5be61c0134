-- What the checks of question 8 read of a held sheet: sizes, rows of sorts, and the sorts of the variables in scope.
use Rattle.std.specs.Prelude.{◌≡◌, List, ℕ, ◌+◌, ◌*◌, ◌<◌, ◌≤◌, length, get_or}
use Rattle.std.proofs.Math.Option.{some}
use Rattle.pcrl.specs.Limits.{max_functions}
use Rattle.pcrl.specs.Sheet.{Sig, Sheet, no_action, no_process, func}
use Rattle.pcrl.specs.Sorts.{Scope}
use Rattle.nodes.specs.declared.Outline.{Outline}
use Rattle.nodes.specs.Held.{SortsAt, func_width, act_width, proc_width}

-- the sizes of m sorts
pub record KnownSizes (S : Sig) (sizes : List ℕ) (m : ℕ) : Type 0 where
  pub sort_count : m ≡ length S.sorts
  pub size_at : (D : ℕ) → D < m → get_or sizes D 0 ≡ get_or S.sorts D 0

-- what data terms need: sizes and functions
pub record KnownData (S : Sig) (sizes funcs : List ℕ) (n : Outline) : Type 0 where
  pub sizes_are : KnownSizes S sizes n.sorts
  pub func_count : n.funcs ≡ length S.funcs
  -- so that every number below is that of a written function
  pub few_funcs : n.funcs ≤ max_functions
  pub takes_at : (f : ℕ) → f < n.funcs → SortsAt (func S f).takes funcs (func_width * f)
  pub gives_at : (f : ℕ) → f < n.funcs → get_or funcs (func_width * f + 3) 0 ≡ (func S f).gives

-- what process terms need besides: actions and processes
pub record KnownSheet (H : Sheet) (sizes funcs acts procs : List ℕ) (n : Outline) : Type 0 where
  pub data_known : KnownData H.sig sizes funcs n
  pub act_count : n.acts ≡ length H.sig.acts
  pub acts_at : (a : ℕ) → a < n.acts → SortsAt (get_or H.sig.acts a no_action).takes acts (act_width * a)
  pub proc_count : n.procs ≡ length H.procs
  pub params_at : (k : ℕ) → k < n.procs → SortsAt (get_or H.procs k no_process).params procs (proc_width * k)

-- the sorts of the variables below m stand in an array
abbrev pub InScope : Scope → ℕ → List ℕ → Type 0
InScope Γ m scope = (i : ℕ) → i < m → Γ i ≡ some (get_or scope i 0)

-- where a data term stands: a signature, and the variables in scope
pub record Around (scope sizes funcs : List ℕ) (n : Outline) : Type 0 where
  pub sig : Sig
  pub known : KnownData sig sizes funcs n
  pub vars : Scope
  pub level : ℕ
  pub in_scope : InScope vars level scope
