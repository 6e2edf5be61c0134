-- Question 7 on the whole sheet: names new, signature, processes and init, each answered by its part.
use mathlib.Core.Path.{◌≡◌, refl, sym, ◌∙◌, ap, subst, subst⁻¹}
use mathlib.Core.List.{List, [], ◌∷◌, ◌++◌, map, append_assoc, append-nil}
use Rattle.std.specs.Prelude.{Option as Given, Some, None}
use mathlib.Core.Bool.{Bool, true, false}
use mathlib.Core.Option.{Option, none, some}
use Prim.Native.Nat.{ℕ, suc, ◌+◌, ◌-◌, ◌*◌, ◌≤◌, ◌<◌}
use native.Mathlib.Omega.{arith}
use lib.ListN.{length, take, drop, get_or, length-map, length-append, length-take, get_or-append}
use lib.Seq.{get_or-take, get_or-append-add, take-length}
use Rattle.pcrl.specs.Text.{bytes}
use Rattle.pcrl.specs.Tests.{distinct}
use Rattle.pcrl.specs.Maybe.{◌>>=◌, for_each}
use Rattle.pcrl.specs.Tree.{Name, RawSheet, ActLine, ProcLine}
use Rattle.pcrl.specs.Sheet.{Data, call, Process, Func, Action, Sig, Sheet, no_action, no_process}
use Rattle.pcrl.specs.Counts.{Counted}
use Rattle.pcrl.specs.Names.{names_of, declared, sizes_of, sorts_of, resolve_func, resolve_act, resolve_proc, resolve_init, resolve_terms, resolve}
use Rattle.laws.specs.Lists.{get_d_map}
use Rattle.laws.specs.Each.{each_length, each_map}
use Rattle.laws.specs.Optional.{first_given, each_given}
use Rattle.pcrl.specs.Print.{print_lines, print_proc, print_init}
use Rattle.parser.specs.Cells.{Symbol, enc_proc, enc_init}
use Rattle.nodes.specs.declared.Outline.{Outline}
use Rattle.nodes.specs.Layout.{cell_limit, enc}
use Rattle.nodes.specs.Scoped.{Scoped}
use Rattle.nodes.specs.Held.{ProcAt, HeldProcs, Held}
use Rattle.names.specs.NameCells.{name_at, declared_at, names_at, scope_at}
use Rattle.names.specs.NameKinds.{total_of, sorts_in, funcs_in, acts_in, procs_in}
use Rattle.names.specs.NameList.{names_in, kinds_in}
use Rattle.names.specs.declared.Kinds.{Kinds}
use Rattle.names.specs.Standing.{At, symbols}
use Rattle.names.specs.Rows.{Yields, sorts_at}
use Rattle.names.proofs.KindLaws.{part_is}
use Rattle.names.proofs.NamesOf.{sorts_are, funcs_are, acts_are, procs_are, declared_are}
use Rattle.resolver.specs.Writing.{Writes}
use Rattle.resolver.specs.Resolving.{Declared, FewKinds, ResolvesInit, called, Answers as Resolves_to}
use Rattle.resolver.specs.InScope.{init_scoped}
use Rattle.parser.specs.declared.Step.{Step}
use Rattle.sheets.specs.declared.SigRows.{SigRows}
use Rattle.sheets.specs.declared.ProcRows.{ProcRows}
use Rattle.sheets.specs.declared.SheetRows.{SheetRows}
use Rattle.sheets.specs.Bounded.{Bounded}
use Rattle.sheets.specs.ScopePuts.{ResultsPut, GivesRows}
use Rattle.sheets.specs.Resolving.{FewLines, LinesStand, HoldsSignature, SignatureRead, resolve_signature, ProcessesHeld, ProcessesRead, arrays, Holds, LinesResolve}
use Rattle.sheets.proofs.Asked.{yields_then, yields_missing, yields_test, yields_untested}
use Rattle.sheets.proofs.ScopeLaws.{results_known}
use Rattle.sheets.proofs.TermRoom.{init_room}
use Rattle.sheets.proofs.Placed.{proc_kept, written_whole, written_at}

-- the signature first
signature_then : {B : Type 0} (R : RawSheet) (k : Sig → Option B)
    → ◌>>=◌ (resolve_signature R) k ≡ ◌>>=◌ (for_each (resolve_func (names_of R)) R.funcs) (λ fs. ◌>>=◌ (for_each (resolve_act (names_of R)) R.acts) (λ as'. k (record { sorts = sizes_of R; sort_names = (names_of R).sorts; funcs = fs; acts = as' })))
unfolding resolve_signature
signature_then {B} R k = go (for_each (resolve_func (names_of R)) R.funcs) (for_each (resolve_act (names_of R)) R.acts)
  where
    go : (f : Option (List Func)) (a : Option (List Action))
        → ◌>>=◌ (◌>>=◌ f (λ fs. ◌>>=◌ a (λ as'. some (record { sorts = sizes_of R; sort_names = (names_of R).sorts; funcs = fs; acts = as' })))) k
        ≡ ◌>>=◌ f (λ fs. ◌>>=◌ a (λ as'. k (record { sorts = sizes_of R; sort_names = (names_of R).sorts; funcs = fs; acts = as' })))
    go none a = refl
    go (some fs) none = refl
    go (some fs) (some as') = refl

-- what was written of init
abbrev Initial : ℕ → List ℕ → List ℕ → ℕ × List Data → Step → Type 0
Initial w o o' x a = Writes (enc false (call x.0 x.1)) w o a.w o'

init_answers : (m rest : List Symbol) (w : ℕ) (o : List ℕ) (i : Option (ℕ × List Data)) (r : Given Step) (o' : List ℕ) → Resolves_to m rest w o (called i) r o' → Yields (Initial w o o') i r
unfolding Resolves_to
init_answers m rest w o none None o' h = tt
init_answers m rest w o none (Some a) o' h = absurd h
init_answers m rest w o (some x) None o' h = absurd h
init_answers m rest w o (some x) (Some a) o' h = h.1

-- the rows of the whole sheet
abbrev pub rows_of : (sorts funcs acts procs names : List ℕ) → SigRows → ProcRows → SheetRows
rows_of sorts funcs acts procs names a b = record {
  sizes = a.sizes;
  funcs = a.funcs;
  places = a.places;
  acts = a.acts;
  procs = b.procs;
  starts = b.starts;
  names = names;
  outline = record { sorts = length sorts + 1; funcs = length funcs; acts = length acts; procs = length procs; init = b.w };
}

-- the actions of a signature have the names of their lines
signature_names : (R : RawSheet) (S : Sig) → resolve_signature R ≡ some S → (names_of R).acts ≡ map (λ (a : Action). a.name) S.acts
unfolding resolve_signature names_of resolve_act
signature_names R S se =
    first_given (for_each (resolve_func (names_of R)) R.funcs) _ S se (λ fs e₁ e₂.
    first_given (for_each (resolve_act (names_of R)) R.acts) _ S e₂ (λ as' e₃ e₄.
    let whole : ◌≡◌ {A = Sig} (record { sorts = sizes_of R; sort_names = (names_of R).sorts; funcs = fs; acts = as' }) S = cc in
    each_map (λ (l : ActLine) (a : Action). resolve_act (names_of R) l ≡ some a) (λ (l : ActLine). l.name) (λ (a : Action). a.name)
    (λ l a h. first_given (sorts_of (names_of R) l.takes) _ a h (λ Ds k m. let z : ◌≡◌ {A = Action} (record { name = l.name; takes = Ds }) a = cc in ap (λ (b : Action). b.name) z))
    R.acts as' (each_given (resolve_act (names_of R)) R.acts as' e₃)
    ∙ ap (λ (T : Sig). map (λ (a : Action). a.name) T.acts) whole))

-- and the sorts too
signature_sorts : (R : RawSheet) (S : Sig) → resolve_signature R ≡ some S → (names_of R).sorts ≡ S.sort_names
unfolding resolve_signature
signature_sorts R S se =
    first_given (for_each (resolve_func (names_of R)) R.funcs) _ S se (λ fs e₁ e₂.
    first_given (for_each (resolve_act (names_of R)) R.acts) _ S e₂ (λ as' e₃ e₄.
    let whole : ◌≡◌ {A = Sig} (record { sorts = sizes_of R; sort_names = (names_of R).sorts; funcs = fs; acts = as' }) S = cc in
    ap (λ (T : Sig). T.sort_names) whole))

-- how many lines of each kind
abbrev pub kinds_of : (sorts funcs acts procs : List ℕ) → Kinds
kinds_of sorts funcs acts procs = record { sorts = length sorts; funcs = length funcs; acts = length acts; procs = length procs }

-- as many names as lines
names_many_at : (s raw places : List ℕ) → length (names_at s raw places (length places)) ≡ length places
unfolding names_at
names_many_at s raw places = length-map (take (length places) places) (declared_at s raw) ∙ ap length (take-length places)

module _ (s raw sorts funcs acts procs : List ℕ) (R : RawSheet) (stand : LinesStand s raw sorts funcs acts procs R) where
  -- the names that the lines declare
  sort_names : (names_of R).sorts ≡ sorts_at s raw sorts
  sort_names = sorts_are s raw R sorts funcs acts procs stand.sorts_at stand.funcs_at stand.acts_at stand.procs_at

  act_names : (names_of R).acts ≡ names_at s raw acts (length acts)
  act_names = acts_are s raw R sorts funcs acts procs stand.sorts_at stand.funcs_at stand.acts_at stand.procs_at

  -- in one list
  lines_declare : (names : List ℕ) (n : ℕ) → n ≡ total_of (kinds_of sorts funcs acts procs)
      → scope_at s names n ≡ names_at s raw sorts (length sorts) ++ (names_at s raw funcs (length funcs) ++ (names_at s raw acts (length acts) ++ names_at s raw procs (length procs)))
      → Declared s names (kinds_of sorts funcs acts procs) (names_of R)
  unfolding sorts_at sorts_in funcs_in acts_in procs_in
  lines_declare names n total e =
      let A : List Name = names_at s raw sorts (length sorts) in
      let B : List Name = names_at s raw funcs (length funcs) in
      let C : List Name = names_at s raw acts (length acts) in
      let D : List Name = names_at s raw procs (length procs) in
      let a = names_many_at s raw sorts in
      let b = names_many_at s raw funcs in
      let c = names_many_at s raw acts in
      let d = names_many_at s raw procs in
      let e₂ : scope_at s names n ≡ (A ++ B) ++ (C ++ D) = e ∙ sym (append_assoc A B (C ++ D)) in
      let e₃ : scope_at s names n ≡ (A ++ (B ++ C)) ++ (D ++ []) = e ∙ simp (append_assoc, append-nil) in
      let l₂ : length (A ++ B) ≡ length sorts + length funcs = omega (arith, length-append A B) in
      let l₃ : length (A ++ (B ++ C)) ≡ length sorts + length funcs + length acts = omega (arith, length-append A (B ++ C), length-append B C) in
      record {
        sorts_are = sort_names ∙ ap (◌∷◌ (bytes "Bool")) (sym (part_is s names n 0 (length sorts) [] A (B ++ (C ++ D)) e refl a (omega arith)));
        funcs_are = funcs_are s raw R sorts funcs acts procs stand.sorts_at stand.funcs_at stand.acts_at stand.procs_at ∙ sym (part_is s names n (length sorts) (length funcs) A B (C ++ D) e a b (omega arith));
        acts_are = act_names ∙ sym (part_is s names n (length sorts + length funcs) (length acts) (A ++ B) C D e₂ l₂ c (omega arith));
        procs_are = procs_are s raw R sorts funcs acts procs stand.sorts_at stand.funcs_at stand.acts_at stand.procs_at ∙ sym (part_is s names n (length sorts + length funcs + length acts) (length procs) (A ++ (B ++ C)) D [] e₃ l₃ d (omega arith));
      }

  -- as many processes as there are lines
  lines_many : length R.procs ≡ length procs
  lines_many = sym (each_length (λ p (l : ProcLine). At s raw (enc_proc l) p) procs R.procs stand.procs_at)

  names_many : length (names_of R).procs ≡ length procs
  unfolding names_of
  names_many = length-map R.procs (λ (l : ProcLine). l.name) ∙ lines_many

  -- PROCESSES AND INIT ARE HELD, init behind the right sides
  procs_held : (S : Sig) (ps : List Process) (x : ℕ × List Data) (b : ProcRows) (o o' : List ℕ) (most w' : ℕ) (n : Outline) → n.procs ≡ length procs → n.init ≡ b.w → FewLines raw sorts funcs acts procs
      → for_each (resolve_proc (names_of R) S) R.procs ≡ some ps → ProcessesHeld (length (names_of R).procs) o most ps b → resolve_init (names_of R) S R.start ≡ some x
      → Writes (enc false (call x.0 x.1)) b.w o w' o' → most + 3 * length (print_init R.start) ≤ length o → length o < cell_limit
      → HeldProcs (record { sig = S; procs = ps; start = x }) b.procs o' b.starts n
  procs_held S ps x b o o' most w' n np ni few pe held xe wr room short =
      let many = each_length (λ (l : ProcLine) (q : Process). resolve_proc (names_of R) S l ≡ some q) R.procs ps (each_given (resolve_proc (names_of R) S) R.procs ps pe) in
      let lines = lines_many in
      let names = names_many in
      let size = held.size in
      let call_room = init_room (names_of R) S R.start x.0 x.1 xe in
      let written = wr.with_room (omega arith) in
      let same : length (names_of R).procs ≡ n.procs = names ∙ sym np in
      record {
        proc_count = omega arith;
        few_procs = omega (arith, few.procs_few);
        proc_at = λ k h.
            subst (λ (m : ℕ). ProcAt m (get_or ps k no_process) b.procs o' b.starts k) same
            (subst (λ (c : List ℕ). ProcAt (length (names_of R).procs) (get_or ps k no_process) b.procs c b.starts k) (written_whole written)
            (proc_kept (length (names_of R).procs) (get_or ps k no_process) b.procs (take b.w o) _ b.starts k (held.each k (omega arith))));
        init_at = (drop w' o', ap (λ (p : ℕ). drop p o') ni ∙ written_at (omega arith) written);
        init_scoped = subst (λ (m : ℕ). Scoped m 0 (call x.0 x.1)) same (init_scoped (names_of R) S R.start x.0 x.1 xe);
      }

  module _ (names : List ℕ) (n : ℕ)
      (e : scope_at s names n ≡ names_at s raw sorts (length sorts) ++ (names_at s raw funcs (length funcs) ++ (names_at s raw acts (length acts) ++ names_at s raw procs (length procs)))) (S : Sig) (se : resolve_signature R ≡ some S) where
    -- the name of a cell is that of its line
    cell_named : (k : ℕ) → k < length sorts + (length funcs + length acts)
        → name_at s (get_or names k 0) ≡ get_or (names_at s raw sorts (length sorts) ++ (names_at s raw funcs (length funcs) ++ (names_at s raw acts (length acts) ++ names_at s raw procs (length procs)))) k []
    unfolding scope_at
    cell_named k h =
        let a = names_many_at s raw sorts in
        let b = names_many_at s raw funcs in
        let d = names_many_at s raw acts in
        let size : length (map (name_at s) (take n names)) ≡ length (names_at s raw sorts (length sorts)) + (length (names_at s raw funcs (length funcs)) + (length (names_at s raw acts (length acts)) + length (names_at s raw procs (length procs)))) = ap length e ∙ simp length-append in
        let inside : k < length (take n names) = omega (arith, length-map (take n names) (name_at s)) in
        let below : k < n = omega (arith, length-take n names) in
        ap (name_at s) (sym (get_or-take n names k 0 below)) ∙ sym (get_d_map (name_at s) (take n names) k 0 [] inside) ∙ ap (λ (l : List Name). get_or l k []) e

    -- THE ACTIONS' NAMES stand behind those of the sorts and of the functions
    actions_named : (i : ℕ) → i < length S.acts → name_at s (get_or names (length sorts + 1 - 1 + length funcs + i) 0) ≡ (get_or S.acts i no_action).name
    actions_named i h =
        let named : names_at s raw acts (length acts) ≡ map (λ (a : Action). a.name) S.acts = sym act_names ∙ signature_names R S se in
        let k : ℕ = length sorts + 1 - 1 + length funcs + i in
        let a = names_many_at s raw sorts in
        let b = names_many_at s raw funcs in
        let c = names_many_at s raw acts in
        let d = ap length named ∙ length-map S.acts (λ (a : Action). a.name) in
        let place : k ≡ length (names_at s raw sorts (length sorts)) + (length (names_at s raw funcs (length funcs)) + i) = omega arith in
        cell_named k (omega arith)
        ∙ ap (λ (j : ℕ). get_or (names_at s raw sorts (length sorts) ++ (names_at s raw funcs (length funcs) ++ (names_at s raw acts (length acts) ++ names_at s raw procs (length procs)))) j []) place
        ∙ get_or-append-add (names_at s raw sorts (length sorts)) _ (length (names_at s raw funcs (length funcs)) + i) []
        ∙ get_or-append-add (names_at s raw funcs (length funcs)) _ i []
        ∙ get_or-append (names_at s raw acts (length acts)) _ [] i (omega arith)
        ∙ ap (λ (l : List Name). get_or l i []) named
        ∙ get_d_map (λ (a : Action). a.name) S.acts i no_action [] h

    -- THE SORTS' NAMES, but Bool's, stand first
    sorts_named : (D : ℕ) → suc D < length S.sort_names → name_at s (get_or names D 0) ≡ get_or S.sort_names (suc D) []
    unfolding sorts_at
    sorts_named D h =
        let named : bytes "Bool" ∷ names_at s raw sorts (length sorts) ≡ S.sort_names = sym sort_names ∙ signature_sorts R S se in
        let a = names_many_at s raw sorts in
        let d = ap length named in
        cell_named D (omega arith)
        ∙ get_or-append (names_at s raw sorts (length sorts)) _ [] D (omega arith)
        ∙ ap (λ (l : List Name). get_or l (suc D) []) named

-- so many names are declared
pub declared_many : (s raw sorts funcs acts procs names : List ℕ) (n : ℕ) → n ≤ length names
    → scope_at s names n ≡ names_at s raw sorts (length sorts) ++ (names_at s raw funcs (length funcs) ++ (names_at s raw acts (length acts) ++ names_at s raw procs (length procs)))
    → n ≡ total_of (kinds_of sorts funcs acts procs)
unfolding scope_at
declared_many s raw sorts funcs acts procs names n h e =
    let A : List Name = names_at s raw sorts (length sorts) in
    let B : List Name = names_at s raw funcs (length funcs) in
    let C : List Name = names_at s raw acts (length acts) in
    let D : List Name = names_at s raw procs (length procs) in
    let size : length (map (name_at s) (take n names)) ≡ length A + (length B + (length C + length D)) = ap length e ∙ simp length-append in
    omega (arith, names_many_at s raw sorts, names_many_at s raw funcs, names_many_at s raw acts, names_many_at s raw procs, length-map (take n names) (name_at s), length-take n names)

pub kinds_few : (raw sorts funcs acts procs : List ℕ) → FewLines raw sorts funcs acts procs → FewKinds (kinds_of sorts funcs acts procs)
kinds_few raw sorts funcs acts procs few = record { sorts_few = omega (arith, few.sorts_few); funcs_few = few.funcs_few; acts_few = few.acts_few; procs_few = few.procs_few }

-- THE WHOLE SHEET; l is the array of declared names
module _ (s raw sorts funcs acts procs : List ℕ) (at : ℕ) (values names l : List ℕ) (n : ℕ) (few : FewLines raw sorts funcs acts procs) (total : n ≡ total_of (kinds_of sorts funcs acts procs))
    (scoped : scope_at s names n ≡ names_at s raw sorts (length sorts) ++ (names_at s raw funcs (length funcs) ++ (names_at s raw acts (length acts) ++ names_at s raw procs (length procs))))
    (kinds : kinds_in l ≡ kinds_of sorts funcs acts procs)
    (alike : take (total_of (kinds_of sorts funcs acts procs)) (names_in l) ≡ take (total_of (kinds_of sorts funcs acts procs)) names) where
  abbrev new : Bool
  new = distinct (bytes "Bool" ∷ scope_at s (names_in l) (total_of (kinds_in l)))

  -- the names of the array are those of the lines
  named : scope_at s (names_in l) n ≡ scope_at s names n
  unfolding scope_at
  named = ap (map (name_at s)) (subst⁻¹ (λ (m : ℕ). take m (names_in l) ≡ take m names) total alike)

  new_is : (R : RawSheet) → LinesStand s raw sorts funcs acts procs R → new ≡ distinct (declared (names_of R))
  new_is R stand =
      let known : declared (names_of R) ≡ bytes "Bool" ∷ scope_at s names n = declared_are s raw R sorts funcs acts procs stand.sorts_at stand.funcs_at stand.acts_at stand.procs_at names n scoped in
      let count : total_of (kinds_in l) ≡ n = ap total_of kinds ∙ sym total in
      ap distinct (ap (λ (m : ℕ). bytes "Bool" ∷ scope_at s (names_in l) m) count ∙ (ap (◌∷◌ (bytes "Bool")) named ∙ sym known))

  declared_by : (R : RawSheet) → LinesStand s raw sorts funcs acts procs R → Declared s (names_in l) (kinds_of sorts funcs acts procs) (names_of R)
  declared_by R stand = lines_declare s raw sorts funcs acts procs R stand (names_in l) n total (named ∙ scoped)

  -- a name is not new
  pub not_new : (o' : List ℕ) → false ≡ new → LinesResolve s raw sorts funcs acts procs at values o' None
  unfolding resolve
  not_new o' e R stand init_at m counted bounded values_room cells_room = yields_untested (Holds s values o') (distinct (declared (names_of R))) _ (e ∙ new_is R stand)

  abbrev behind : RawSheet → Sig → Option Sheet
  behind R S = ◌>>=◌ (for_each (resolve_proc (names_of R) S) R.procs) (λ ps. ◌>>=◌ (resolve_init (names_of R) S R.start) (λ x. some (record { sig = S; procs = ps; start = x })))

  module _ (e : true ≡ new) where
    signature_first : (o' : List ℕ) (R : RawSheet) → LinesStand s raw sorts funcs acts procs R → (r : Given SheetRows) → Yields (Holds s values o') (◌>>=◌ (resolve_signature R) (behind R)) r → Yields (Holds s values o') (resolve R) r
    unfolding resolve resolve_terms
    signature_first o' R stand r h = yields_test (Holds s values o') (distinct (declared (names_of R))) _ r (e ∙ new_is R stand) (subst (λ (q : Option Sheet). Yields (Holds s values o') q r) (signature_then R (behind R)) h)

    -- a name of the signature is not known
    pub no_signature : (o' : List ℕ) → SignatureRead s raw sorts funcs acts values None → LinesResolve s raw sorts funcs acts procs at values o' None
    no_signature o' sig R stand init_at m counted bounded values_room cells_room =
        signature_first o' R stand None (yields_missing (Holds s values o') (HoldsSignature sorts funcs acts values) (resolve_signature R) (behind R) (sig R m stand.sorts_at stand.funcs_at stand.acts_at counted bounded values_room))

    module _ (a : SigRows) (sig : SignatureRead s raw sorts funcs acts values (Some a)) where
      gives : (S : Sig) → HoldsSignature sorts funcs acts values S a → GivesRows (kinds_of sorts funcs acts procs) a.funcs S
      gives S held = λ i h. ((held (record { sorts = length sorts + 1; funcs = length funcs; acts = length acts; procs = 0; init = 0 }) refl refl refl).func_at i h).gives

      -- what the processes answer
      abbrev most : RawSheet → ℕ
      most R = 3 * length (print_lines "proc" print_proc R.procs)

      processes_answer : (o : List ℕ) (b : Given ProcRows) → ProcessesRead s raw procs (names_in l) (kinds_in l) a.funcs b o → (R : RawSheet) → LinesStand s raw sorts funcs acts procs R → (m : ℕ) → Counted R → Bounded R m → 3 * m ≤ length o
          → (S : Sig) → HoldsSignature sorts funcs acts values S a → Yields (ProcessesHeld (length (names_of R).procs) o (most R)) (for_each (resolve_proc (names_of R) S) R.procs) b
      unfolding Counted
      processes_answer o b read R stand m counted bounded room S held =
          let both = bounded.processes_few in
          subst (λ (k : Kinds). ProcessesRead s raw procs (names_in l) k a.funcs b o) kinds read (names_of R) S R.procs (declared_by R stand) (gives S held) stand.procs_at counted.1.1.1.1.1 bounded.sums_shallow (omega arith)

      -- a name of a process is not as it must be
      pub no_processes : (o : List ℕ) → ProcessesRead s raw procs (names_in l) (kinds_in l) a.funcs None o → LinesResolve s raw sorts funcs acts procs at values o None
      no_processes o read R stand init_at m counted bounded values_room cells_room =
          signature_first o R stand None (yields_then (Holds s values o) (HoldsSignature sorts funcs acts values) (resolve_signature R) (behind R) a None (sig R m stand.sorts_at stand.funcs_at stand.acts_at counted bounded values_room)
          (λ S se held. yields_missing (Holds s values o) (ProcessesHeld (length (names_of R).procs) o (most R)) (for_each (resolve_proc (names_of R) S) R.procs) _ (processes_answer o None read R stand m counted bounded cells_room S held)))

      module _ (b : ProcRows) (o o' : List ℕ) (same : length o' ≡ length o) (short : length o < cell_limit) (read : ProcessesRead s raw procs (names_in l) (kinds_in l) a.funcs (Some b) o)
          (empty scope : List ℕ) (results : ResultsPut a.funcs empty scope) where
        -- what init answers
        init_answer : (c : Given Step) → ResolvesInit s raw (names_in l) (kinds_in l) scope at b.w o c o' → (R : RawSheet) (stand : LinesStand s raw sorts funcs acts procs R) (init_at : At s raw (enc_init R.start) at)
            → (S : Sig) → HoldsSignature sorts funcs acts values S a → Yields (Initial b.w o o') (resolve_init (names_of R) S R.start) c
        unfolding symbols
        init_answer c init_read R stand init_at S held =
            let D = declared_by R stand in
            init_answers (symbols s raw) init_at.0 b.w o (resolve_init (names_of R) S R.start) c o'
            (subst (λ (k : Kinds). ResolvesInit s raw (names_in l) k scope at b.w o c o') kinds init_read (names_of R) S R.start init_at.0 (results_known (kinds_of sorts funcs acts procs) a.funcs empty scope S few.funcs_few results (gives S held)) D.funcs_are D.procs_are init_at.1)

        -- init's name, or what is given to it
        pub no_init : ResolvesInit s raw (names_in l) (kinds_in l) scope at b.w o None o' → LinesResolve s raw sorts funcs acts procs at values o' None
        no_init init_read R stand init_at m counted bounded values_room cells_room =
            signature_first o' R stand None (yields_then (Holds s values o') (HoldsSignature sorts funcs acts values) (resolve_signature R) (behind R) a None (sig R m stand.sorts_at stand.funcs_at stand.acts_at counted bounded values_room)
            (λ S se held. yields_then (Holds s values o') (ProcessesHeld (length (names_of R).procs) o (most R)) (for_each (resolve_proc (names_of R) S) R.procs) _ b None (processes_answer o (Some b) read R stand m counted bounded (omega arith) S held)
            (λ ps pe pheld. yields_missing (Holds s values o') (Initial b.w o o') (resolve_init (names_of R) S R.start) _ (init_answer None init_read R stand init_at S held))))

        -- all are as they must be
        pub lines_resolve : (c : Step) → ResolvesInit s raw (names_in l) (kinds_in l) scope at b.w o (Some c) o' → LinesResolve s raw sorts funcs acts procs at values o' (Some (rows_of sorts funcs acts procs names a b))
        unfolding arrays
        lines_resolve c init_read R stand init_at m counted bounded values_room cells_room =
            let rows : SheetRows = rows_of sorts funcs acts procs names a b in
            let both = bounded.processes_few in
            signature_first o' R stand (Some rows) (yields_then (Holds s values o') (HoldsSignature sorts funcs acts values) (resolve_signature R) (behind R) a (Some rows) (sig R m stand.sorts_at stand.funcs_at stand.acts_at counted bounded values_room)
            (λ S se held. yields_then (Holds s values o') (ProcessesHeld (length (names_of R).procs) o (most R)) (for_each (resolve_proc (names_of R) S) R.procs) _ b (Some rows) (processes_answer o (Some b) read R stand m counted bounded (omega arith) S held)
            (λ ps pe pheld. yields_then (Holds s values o') (Initial b.w o o') (resolve_init (names_of R) S R.start) _ c (Some rows) (init_answer (Some c) init_read R stand init_at S held)
            (λ x xe w. (
              record {
                signature = held rows.outline refl refl refl;
                processes = procs_held s raw sorts funcs acts procs R stand S ps x b o o' (most R) c.w rows.outline refl refl few pe pheld xe w (omega arith) short;
              },
              record { actions = actions_named s raw sorts funcs acts procs R stand names n scoped S se; sorts = sorts_named s raw sorts funcs acts procs R stand names n scoped S se },
            )))))
