-- What the parts of question 7 answer, for every raw sheet whose lines stand in the cells.
use Rattle.std.specs.Prelude.{◌≡◌, List, [], ◌++◌, false, ℕ, suc, ◌+◌, ◌-◌, ◌*◌, ◌≤◌, ◌<◌, length, take, drop, get_or}
use Rattle.std.specs.Prelude.{Option as Given}
use Rattle.std.proofs.Math.Option.{Option, some}
use Rattle.pcrl.specs.Limits.{max_open, max_sorts, max_functions, max_actions, max_processes, frame_width}
use Rattle.pcrl.specs.Tests.{Every}
use Rattle.pcrl.specs.Maybe.{◌>>=◌, for_each}
use Rattle.pcrl.specs.Tree.{ProcLine, RawSheet}
use Rattle.pcrl.specs.Sheet.{Process, Sig, Sheet, no_action, no_process}
use Rattle.pcrl.specs.Counts.{Counted}
use Rattle.pcrl.specs.Names.{Names, names_of, sizes_of, resolve_func, resolve_act, resolve_proc, resolve}
use Rattle.pcrl.specs.Print.{line, print_lines, print_proc}
use Rattle.parser.specs.Cells.{Symbol, enc_sort, enc_func, enc_act, enc_proc, enc_init}
use Rattle.parser.specs.declared.Lines.{Lines}
use Rattle.parser.specs.declared.Step.{Step}
use Rattle.nodes.specs.declared.Outline.{Outline}
use Rattle.nodes.specs.Layout.{cell_limit, enc}
use Rattle.nodes.specs.Scoped.{Scoped}
use Rattle.nodes.specs.Held.{SortsAt, ProcAt, HeldSig, Arrays, Held}
use Rattle.names.specs.NameCells.{name_at}
use Rattle.names.specs.NameList.{kinds_in, KeyedNames}
use Rattle.names.specs.declared.Kinds.{Kinds}
use Rattle.names.specs.Standing.{symbols, At, LinesAt, Standing}
use Rattle.names.specs.Rows.{Yields, InRows}
use Rattle.resolver.specs.Raw.{sum_depth}
use Rattle.resolver.specs.Writing.{Writes}
use Rattle.resolver.specs.Resolving.{Declared, FewKinds}
use Rattle.sheets.specs.declared.SigRows.{SigRows}
use Rattle.sheets.specs.declared.ProcRows.{ProcRows}
use Rattle.sheets.specs.declared.SheetRows.{SheetRows}
use Rattle.sheets.specs.Bounded.{Bounded}
use Rattle.sheets.specs.ScopePuts.{GivesRows}

-- so few lines that their numbers fit; so few cells that a place fits a cell
pub record FewLines (raw sorts funcs acts procs : List ℕ) : Type 0 where
  pub raw_few : length raw < cell_limit
  pub sorts_few : length sorts < max_sorts
  pub funcs_few : length funcs ≤ max_functions
  pub acts_few : length acts ≤ max_actions
  pub procs_few : length procs ≤ max_processes

-- the same of declared names that stand in one array
pub record FewNames (s raw l : List ℕ) : Type 0 where
  pub raw_few : length raw < cell_limit
  pub kinds_few : FewKinds (kinds_in l)
  pub keyed : KeyedNames s l

-- the lines of each kind stand at their places
pub record LinesStand (s raw sorts funcs acts procs : List ℕ) (R : RawSheet) : Type 0 where
  pub sorts_at : LinesAt enc_sort s raw sorts R.sorts
  pub funcs_at : LinesAt enc_func s raw funcs R.funcs
  pub acts_at : LinesAt enc_act s raw acts R.acts
  pub procs_at : LinesAt enc_proc s raw procs R.procs

-- ---- sorts, functions and actions
-- the signature of a raw sheet, if every name in it is known
unfoldable pub resolve_signature : RawSheet → Option Sig
resolve_signature R = do
  fs ← for_each (resolve_func (names_of R)) R.funcs
  as' ← for_each (resolve_act (names_of R)) R.acts
  some (record { sorts = sizes_of R; sort_names = (names_of R).sorts; funcs = fs; acts = as' })

-- the rows hold it, in the outline of any sheet that has so many sorts, functions and actions
abbrev pub HoldsSignature : (sorts funcs acts values : List ℕ) → Sig → SigRows → Type 0
HoldsSignature sorts funcs acts values S r =
    (n : Outline) → n.sorts ≡ length sorts + 1 → n.funcs ≡ length funcs → n.acts ≡ length acts → HeldSig S r.sizes r.funcs values r.places r.acts n

abbrev pub SignatureRead : (s raw sorts funcs acts values : List ℕ) → Given SigRows → Type 0
SignatureRead s raw sorts funcs acts values r =
    (R : RawSheet) (n : ℕ) → LinesAt enc_sort s raw sorts R.sorts → LinesAt enc_func s raw funcs R.funcs → LinesAt enc_act s raw acts R.acts
    → Counted R → Bounded R n → n ≤ 2 * length values → Yields (HoldsSignature sorts funcs acts values) (resolve_signature R) r

-- ---- processes
-- a process of a sheet with m of them: its row, and the cells of its right side behind w, at most so many
pub record ProcessRow (m : ℕ) (q : Process) (row : List ℕ) (w : ℕ) (o : List ℕ) (w' : ℕ) (o' : List ℕ) (most : ℕ) : Type 0 where
  pub few : length q.params ≤ frame_width
  pub params : SortsAt q.params row 0
  pub scoped : Scoped m (length q.params) q.right
  pub right : Writes (enc false q.right) w o w' o'
  pub size : length (enc false q.right) ≤ most

-- for every process line that stands at `at`
abbrev pub ProcessRead : (s raw names : List ℕ) (kinds : Kinds) (funcs : List ℕ) (at : ℕ) (row : List ℕ) (w : ℕ) (o : List ℕ) → Given Step → List ℕ → Type 0
ProcessRead s raw names kinds funcs at row w o r o' =
    (N : Names) (S : Sig) (l : ProcLine) (rest : List Symbol) → Declared s names kinds N → GivesRows kinds funcs S
    → drop at (symbols s raw) ≡ enc_proc l ++ rest → length l.params ≤ frame_width → sum_depth l.right ≤ max_open
    → Yields (λ q a. ProcessRow (length N.procs) q row w o a.w o' (3 * length (line "proc" (print_proc l)))) (resolve_proc N S l) r

-- all of them: each has its row, and its right side stands among the first w cells
pub record ProcessesHeld (m : ℕ) (cells : List ℕ) (most : ℕ) (ps : List Process) (r : ProcRows) : Type 0 where
  pub each : InRows no_process (λ q k. ProcAt m q r.procs (take r.w cells) r.starts k) ps
  pub size : r.w ≤ most

abbrev pub ProcessesRead : (s raw procs names : List ℕ) (kinds : Kinds) (funcs : List ℕ) → Given ProcRows → List ℕ → Type 0
ProcessesRead s raw procs names kinds funcs r o' =
    (N : Names) (S : Sig) (ls : List ProcLine) → Declared s names kinds N → GivesRows kinds funcs S → LinesAt enc_proc s raw procs ls
    → Every (λ (l : ProcLine). length l.params ≤ frame_width) ls → Every (λ (l : ProcLine). sum_depth l.right ≤ max_open) ls → 3 * length (print_lines "proc" print_proc ls) ≤ length o'
    → Yields (ProcessesHeld (length N.procs) o' (3 * length (print_lines "proc" print_proc ls))) (for_each (resolve_proc N S) ls) r

-- ---- the whole sheet
-- the arrays of a sheet that was read
unfoldable pub arrays : SheetRows → List ℕ → List ℕ → Arrays
arrays r values cells = record {
  sizes = r.sizes;
  funcs = r.funcs;
  values = values;
  places = r.places;
  acts = r.acts;
  procs = r.procs;
  cells = cells;
  starts = r.starts;
}

-- the place among the declared names of those of the actions
abbrev pub first_action : SheetRows → ℕ
first_action r = r.outline.sorts - 1 + r.outline.funcs

-- actions, and sorts but Bool, have the names of their cells, where s are the sheet's bytes
pub record Named (s : List ℕ) (r : SheetRows) (H : Sheet) : Type 0 where
  pub actions : (i : ℕ) → i < length H.sig.acts → name_at s (get_or r.names (first_action r + i) 0) ≡ (get_or H.sig.acts i no_action).name
  pub sorts : (D : ℕ) → suc D < length H.sig.sort_names → name_at s (get_or r.names D 0) ≡ get_or H.sig.sort_names (suc D) []

-- the rows, the values and the cells hold a sheet, and its names
abbrev pub Holds : (s values cells : List ℕ) → Sheet → SheetRows → Type 0
Holds s values cells H r = Held H (arrays r values cells) r.outline × Named s r H

-- n tokens: room for their values and for the cells of their terms
abbrev pub Resolves : (s : List ℕ) → RawSheet → (values o : List ℕ) → Given SheetRows → Type 0
Resolves s R values o r =
    (n : ℕ) → Counted R → Bounded R n → n ≤ 2 * length values → 3 * n ≤ length o → Yields (Holds s values o) (resolve R) r

abbrev pub LinesResolve : (s raw sorts funcs acts procs : List ℕ) (at : ℕ) (values o : List ℕ) → Given SheetRows → Type 0
LinesResolve s raw sorts funcs acts procs at values o r =
    (R : RawSheet) → LinesStand s raw sorts funcs acts procs R → At s raw (enc_init R.start) at → Resolves s R values o r

-- the same of lines that the parser found
pub record FewFound (L : Lines) (raw : List ℕ) : Type 0 where
  pub raw_few : length raw < cell_limit
  pub sorts_few : L.sort_count < max_sorts
  pub funcs_few : L.func_count ≤ max_functions
  pub acts_few : L.act_count ≤ max_actions
  pub procs_few : L.proc_count ≤ max_processes
  pub init_inside : L.init < length raw

abbrev pub FoundResolve : (s raw : List ℕ) → Lines → (values o : List ℕ) → Given SheetRows → Type 0
FoundResolve s raw L values o r = (R : RawSheet) → Standing s raw L R → At s raw (enc_init R.start) L.init → Resolves s R values o r
