-- The whole of question 8: parameters in scope, all processes one after another, init.
use mathlib.Core.Path.{◌≡◌, sym, ap, ◌∙◌}
use mathlib.Core.List.{List}
use mathlib.Core.Bool.{Bool, true, false}
use mathlib.Core.Option.{some}
use Prim.Native.Nat.{ℕ, ◌+◌, ◌*◌, ◌<◌, ◌≤◌}
use native.Mathlib.Omega.{arith}
use lib.ListN.{length, get_or, get_elem?, set}
use lib.Seq.{get_or-set_same, get_or-set_other}
use Rattle.pcrl.specs.Sheet.{call, Process, Sheet, no_process}
use Rattle.pcrl.specs.Sorts.{closed, Sorted, RightlySorted}
use Rattle.laws.specs.Lists.{get_elem?_below}
use Rattle.laws.specs.Every.{every_at, at_every}
use Rattle.laws.specs.Says.{Says, said_yes, said_no, says_as}
use Rattle.nodes.specs.declared.Outline.{Outline}
use Rattle.nodes.specs.Held.{HeldSig, HeldProcs, proc_width}
use Rattle.pcrl.specs.Limits.{frame_width}
use Rattle.checker.specs.Known.{KnownSheet}
use Rattle.checker.specs.Sorts.{TermSays, ParamsInScope, ProcessesSay, FunctionsSay, SheetSays}
use Rattle.checker.proofs.FunctionValues.{below_next, known_sizes}

-- ---- parameters
module _ (procs : List ℕ) (start : ℕ) where
  -- the first i sorts of the row
  abbrev pub ParamsSoFar : ℕ → List ℕ → Type 0
  ParamsSoFar i scope = (j : ℕ) → j < i → get_or scope j 0 ≡ get_or procs (start + 1 + j) 0

  pub params_more : (i : ℕ) (scope : List ℕ) (v : ℕ) → i < length scope → v ≡ get_or procs (start + 1 + i) 0 → ParamsSoFar i scope → ParamsSoFar (i + 1) (set scope i v)
  params_more i scope v l e before =
      below_next (λ j. get_or (set scope i v) j 0 ≡ get_or procs (start + 1 + j) 0) i
      (λ j k. get_or-set_other scope i j v 0 (λ z. omega arith) ∙ before j k) (get_or-set_same scope i v 0 l ∙ e)

  pub params_done : (i : ℕ) (scope : List ℕ) → frame_width ≤ i → ParamsSoFar i scope → ParamsInScope procs start scope
  params_done i scope h all Ds s few j l = get_elem?_below Ds j 0 l ∙ ap some (sym (all j (omega arith) ∙ s.each j l))

-- ---- what is known of a held sheet
known_of : (H : Sheet) (sizes funcs values places acts procs cells starts : List ℕ) (n : Outline)
    → HeldSig H.sig sizes funcs values places acts n → HeldProcs H procs cells starts n → KnownSheet H sizes funcs acts procs n
known_of H sizes funcs values places acts procs cells starts n h p = record {
  data_known = record {
    sizes_are = known_sizes H.sig sizes funcs values places acts n h;
    func_count = h.func_count;
    few_funcs = h.few_funcs;
    takes_at = λ f l. (h.func_at f l).takes;
    gives_at = λ f l. (h.func_at f l).gives;
  };
  act_count = h.act_count;
  acts_at = λ a l. (h.act_at a l).takes;
  proc_count = p.proc_count;
  params_at = λ k l. (p.proc_at k l).params;
}

-- ---- processes
module _ (cells starts sizes funcs acts procs : List ℕ) (n : Outline) where
  abbrev pub RightSoFar : ℕ → Type 0
  RightSoFar k =
      (H : Sheet) → KnownSheet H sizes funcs acts procs n → HeldProcs H procs cells starts n
      → (i : ℕ) → i < k → Sorted H (get_elem? (get_or H.procs i no_process).params) (get_or H.procs i no_process).right

  module _ (k : ℕ) (inside : k < n.procs) (scope : List ℕ) (in_scope : ParamsInScope procs (proc_width * k) scope) (r : Bool)
      (says : TermSays cells (get_or starts k 0) scope sizes funcs acts procs n r) where
    process_says : (H : Sheet) → KnownSheet H sizes funcs acts procs n → HeldProcs H procs cells starts n
        → Says r (Sorted H (get_elem? (get_or H.procs k no_process).params) (get_or H.procs k no_process).right)
    process_says H kn h =
        let P = get_or H.procs k no_process in
        let at = h.proc_at k inside in
        says H kn (get_elem? P.params) (length P.params) (in_scope P.params at.params at.few) false P.right at.right.0 at.scoped at.right.1

    pub processes_failed : r ≡ false → ProcessesSay cells starts sizes funcs acts procs n false
    processes_failed z H kn h = λ all.
        let c = h.proc_count in
        said_no r (process_says H kn h) z
        (every_at (λ (p : Process). Sorted H (get_elem? p.params) p.right) H.procs no_process k all (omega arith))

    pub processes_more : r ≡ true → RightSoFar k → RightSoFar (k + 1)
    processes_more z before H kn h =
        below_next (λ i. Sorted H (get_elem? (get_or H.procs i no_process).params) (get_or H.procs i no_process).right) k (before H kn h)
        (said_yes r (process_says H kn h) z)

  pub processes_done : (k : ℕ) → n.procs ≤ k → RightSoFar k → ProcessesSay cells starts sizes funcs acts procs n true
  processes_done k e all H kn h =
      let c = h.proc_count in
      at_every (λ (p : Process). Sorted H (get_elem? p.params) p.right) H.procs no_process (λ i l. all H kn h i (omega arith))

-- ---- the sheet
module _ (sizes funcs values places acts procs cells starts : List ℕ) (n : Outline) (r : Bool) (functions : FunctionsSay funcs values places sizes n r) where
  pub functions_wrong : r ≡ false → SheetSays sizes funcs values places acts procs cells starts n false
  unfolding RightlySorted
  functions_wrong z H h = λ k. said_no r (functions H.sig acts h.signature) z k.0

  module _ (right : r ≡ true) (q : Bool) (processes : ProcessesSay cells starts sizes funcs acts procs n q) where
    pub processes_wrong : q ≡ false → SheetSays sizes funcs values places acts procs cells starts n false
    unfolding RightlySorted
    processes_wrong z H h = λ k.
        said_no q
        (processes H (known_of H sizes funcs values places acts procs cells starts n h.signature h.processes) h.processes) z k.1.0

    -- init stands where no variable is in scope
    pub init_says : q ≡ true → (scope : List ℕ) (s : Bool) → TermSays cells n.init scope sizes funcs acts procs n s → SheetSays sizes funcs values places acts procs cells starts n s
    unfolding RightlySorted
    init_says z scope s says H h =
        let kn = known_of H sizes funcs values places acts procs cells starts n h.signature h.processes in
        let a = said_yes r (functions H.sig acts h.signature) right in
        let b = said_yes q (processes H kn h.processes) z in
        let at = h.processes.init_at in
        says_as s (λ k. (a, (b, k))) (λ k. k.1.1)
        (says H kn closed 0 (λ i l. absurd (omega arith)) false (call H.start.0 H.start.1) at.0 h.processes.init_scoped at.1)
