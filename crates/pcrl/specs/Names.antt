-- Question 7: names. A raw sheet resolved to numbers, or nothing where a name is not as it must be.
use Rattle.std.specs.Prelude.{List, [], ◌∷◌, ◌++◌, map, Bool, ℕ, suc, ◌+◌, length}
use Rattle.std.proofs.Math.Option.{Option, none, some}
use Rattle.std.proofs.Math.ListN.{get_elem?}
use Rattle.pcrl.specs.Text.{bytes}
use Rattle.pcrl.specs.Tests.{and, negated, same?, among, distinct}
use Rattle.pcrl.specs.Tree.{Name, RawData, Conjunction, Comparison, Negation, Atom, RawDatas, Choice, Conditional, Sequence, Part, SortLine, FuncLine, ActLine, ProcLine, InitLine, RawSheet}
use Rattle.pcrl.specs.Sheet.{Data, Datas, list_of, Act, Proc, Func, Action, Sig, Process, Sheet, not_number, unsorted_number, and_number, or_number, first_equal, function_at}
use Rattle.pcrl.specs.Maybe.{◌>>=◌, ◌>>◌, provided, for_each}

-- the declared names of each kind, in order; a name's number is its place
pub record Names : Type 0 where
  pub sorts : List Name
  pub funcs : List Name
  pub acts : List Name
  pub procs : List Name

unfoldable pub names_of : RawSheet → Names
names_of R = record {
  sorts = bytes "Bool" ∷ map (λ (l : SortLine). l.name) R.sorts;
  funcs = map (λ (l : FuncLine). l.name) R.funcs;
  acts = map (λ (l : ActLine). l.name) R.acts;
  procs = map (λ (l : ProcLine). l.name) R.procs;
}

-- the place of a name in a list
unfoldable pub number_of : Name → List Name → Option ℕ
number_of x [] = none
number_of x (y ∷ ys) =
    elim (same? x y) [
      | yes e ↦ some 0
      | no h ↦ do
        n ← number_of x ys
        some (suc n)
    ]

module _ (N : Names) where
  unfoldable pub declared : List Name
  declared = N.sorts ++ (N.funcs ++ (N.acts ++ N.procs))

  -- "each variable unlike all declared names and all variables in scope"
  unfoldable pub new_variable : List Name → Name → Bool
  new_variable scope v = and (negated (among v declared)) (negated (among v scope))

  unfoldable pub sorts_of : List Name → Option (List ℕ)
  sorts_of Ds = for_each (λ D. number_of D N.sorts) Ds

  unfoldable pub resolve_func : FuncLine → Option Func
  resolve_func l = do
    Ds ← sorts_of l.takes
    D ← number_of l.gives N.sorts
    some (record { takes = Ds; gives = D; values = l.values })

  unfoldable pub resolve_act : ActLine → Option Action
  resolve_act l = do
    Ds ← sorts_of l.takes
    some (record { name = l.name; takes = Ds })

  -- parameters behind those in scope: the names in scope and the sorts of these
  unfoldable pub resolve_params : List Name → List (Name × Name) → Option (List Name × List ℕ)
  resolve_params scope [] = some (scope, [])
  resolve_params scope (p ∷ ps) = do
    provided (new_variable scope p.0)
    D ← number_of p.1 N.sorts
    r ← resolve_params (scope ++ (p.0 ∷ [])) ps
    some (r.0, D ∷ r.1)

-- S has the functions of the sheet, Γ the sorts of the variables in scope.
module _ (N : Names) (S : Sig) where
  -- the sort that data has by itself: a numeral has none
  unfoldable pub sort_of : List ℕ → Data → Option ℕ
  sort_of Γ (Data.val v) = none
  sort_of Γ (Data.var i) = get_elem? Γ i
  sort_of Γ (Data.app f ds) = some (function_at S f).gives

  -- #102: "`==` takes two data of one sort .. and refuses two numerals"
  unfoldable pub equal_at : Option ℕ → Option ℕ → ℕ
  equal_at (some D) o = first_equal + D
  equal_at none (some D) = first_equal + D
  equal_at none none = unsorted_number

  abbrev pub two : ℕ → Data → Data → Data
  two f x y = Data.app f (Datas.cons x (Datas.cons y Datas.nil))

  -- In data a name without brackets is a variable in scope, one with brackets a function.
  unfoldable mutual
    pub resolve_data : List Name → List ℕ → RawData → Option Data
    resolve_data scope Γ (RawData.only c) = resolve_conjunction scope Γ c
    resolve_data scope Γ (RawData.or c d) = do
      x ← resolve_conjunction scope Γ c
      resolve_ors scope Γ x d

    -- "the last two grouping to the left": x stands before
    pub resolve_ors : List Name → List ℕ → Data → RawData → Option Data
    resolve_ors scope Γ x (RawData.only c) = do
      y ← resolve_conjunction scope Γ c
      some (two or_number x y)
    resolve_ors scope Γ x (RawData.or c d) = do
      y ← resolve_conjunction scope Γ c
      resolve_ors scope Γ (two or_number x y) d

    pub resolve_conjunction : List Name → List ℕ → Conjunction → Option Data
    resolve_conjunction scope Γ (Conjunction.single c) = resolve_comparison scope Γ c
    resolve_conjunction scope Γ (Conjunction.and c d) = do
      x ← resolve_comparison scope Γ c
      resolve_ands scope Γ x d

    pub resolve_ands : List Name → List ℕ → Data → Conjunction → Option Data
    resolve_ands scope Γ x (Conjunction.single c) = do
      y ← resolve_comparison scope Γ c
      some (two and_number x y)
    resolve_ands scope Γ x (Conjunction.and c d) = do
      y ← resolve_comparison scope Γ c
      resolve_ands scope Γ (two and_number x y) d

    pub resolve_comparison : List Name → List ℕ → Comparison → Option Data
    resolve_comparison scope Γ (Comparison.plain a) = resolve_negation scope Γ a
    resolve_comparison scope Γ (Comparison.equal a b) = do
      x ← resolve_negation scope Γ a
      y ← resolve_negation scope Γ b
      some (two (equal_at (sort_of Γ x) (sort_of Γ y)) x y)

    pub resolve_negation : List Name → List ℕ → Negation → Option Data
    resolve_negation scope Γ (Negation.atom a) = resolve_atom scope Γ a
    resolve_negation scope Γ (Negation.not a) = do
      x ← resolve_negation scope Γ a
      some (Data.app not_number (Datas.cons x Datas.nil))

    pub resolve_atom : List Name → List ℕ → Atom → Option Data
    resolve_atom scope Γ (Atom.value v) = some (Data.val v)
    resolve_atom scope Γ (Atom.variable x) = do
      i ← number_of x scope
      some (Data.var i)
    resolve_atom scope Γ (Atom.apply x ds) = do
      f ← number_of x N.funcs
      es ← resolve_datas scope Γ ds
      some (Data.app f es)
    resolve_atom scope Γ (Atom.group d) = resolve_data scope Γ d

    pub resolve_datas : List Name → List ℕ → RawDatas → Option Datas
    resolve_datas scope Γ (RawDatas.one d) = do
      e ← resolve_data scope Γ d
      some (Datas.cons e Datas.nil)
    resolve_datas scope Γ (RawDatas.more d ds) = do
      e ← resolve_data scope Γ d
      es ← resolve_datas scope Γ ds
      some (Datas.cons e es)

  unfoldable pub resolve_given : List Name → List ℕ → Option RawDatas → Option (List Data)
  resolve_given scope Γ none = some []
  resolve_given scope Γ (some ds) = do
    es ← resolve_datas scope Γ ds
    some (list_of es)

  -- As a part a name is an action or a process.
  unfoldable pub named : Option ℕ → Option ℕ → List Data → Option Proc
  named (some a) k ds = some (Proc.atom (Act.action a) ds)
  named none (some k) ds = some (Proc.call k ds)
  named none none ds = none

  unfoldable mutual
    pub resolve_choice : List Name → List ℕ → Choice → Option Proc
    resolve_choice scope Γ (Choice.only c) = resolve_conditional scope Γ c
    resolve_choice scope Γ (Choice.plus c d) = do
      p ← resolve_conditional scope Γ c
      q ← resolve_choice scope Γ d
      some (Proc.alt p q)

    pub resolve_conditional : List Name → List ℕ → Conditional → Option Proc
    resolve_conditional scope Γ (Conditional.plain p) = resolve_sequence scope Γ p
    resolve_conditional scope Γ (Conditional.cond p c q) = do
      r ← resolve_sequence scope Γ p
      d ← resolve_data scope Γ c
      s ← resolve_sequence scope Γ q
      some (Proc.cond d r s)

    pub resolve_sequence : List Name → List ℕ → Sequence → Option Proc
    resolve_sequence scope Γ (Sequence.last p) = resolve_part scope Γ p
    resolve_sequence scope Γ (Sequence.then p q) = do
      r ← resolve_part scope Γ p
      s ← resolve_sequence scope Γ q
      some (Proc.seq r s)

    pub resolve_part : List Name → List ℕ → Part → Option Proc
    resolve_part scope Γ Part.delta = some Proc.delta
    resolve_part scope Γ Part.tau = some (Proc.atom Act.tau [])
    resolve_part scope Γ (Part.named x ds) = do
      es ← resolve_given scope Γ ds
      named (number_of x N.acts) (number_of x N.procs) es
    resolve_part scope Γ (Part.sum v D p) = do
      provided (new_variable N scope v)
      E ← number_of D N.sorts
      q ← resolve_choice (scope ++ (v ∷ [])) (Γ ++ (E ∷ [])) p
      some (Proc.sum (length scope) E q)
    resolve_part scope Γ (Part.group p) = resolve_choice scope Γ p

  unfoldable pub resolve_proc : ProcLine → Option Process
  resolve_proc l = do
    ps ← resolve_params N [] l.params
    p ← resolve_choice ps.0 ps.1 l.right
    some (record { params = ps.1; right = p })

  unfoldable pub resolve_init : InitLine → Option (ℕ × List Data)
  resolve_init l = do
    k ← number_of l.name N.procs
    ds ← resolve_given [] [] l.data_given
    some (k, ds)

-- "values 0 to size − 1. Bool, size 2, is always there first (0 false, 1 true)"
unfoldable pub sizes_of : RawSheet → List ℕ
sizes_of R = 2 ∷ map (λ (l : SortLine). l.size) R.sorts

-- the processes and init of a sheet with these sorts, functions and actions
unfoldable pub resolve_terms : RawSheet → Sig → Option Sheet
resolve_terms R S = do
  ps ← for_each (resolve_proc (names_of R) S) R.procs
  s ← resolve_init (names_of R) S R.start
  some (record { sig = S; procs = ps; start = s })

-- 7: "Every declared name new (Bool is taken), each variable unlike all declared names and all variables in scope,
-- each used name of the kind its place needs? Processes may be used before their line."
unfoldable pub resolve : RawSheet → Option Sheet
resolve R = do
  provided (distinct (declared (names_of R)))
  fs ← for_each (resolve_func (names_of R)) R.funcs
  as' ← for_each (resolve_act (names_of R)) R.acts
  resolve_terms R (record { sorts = sizes_of R; sort_names = (names_of R).sorts; funcs = fs; acts = as' })
