-- The names that a printed sheet declares are distinct, but that a sort may have an action's name; each stands at the number that it is made from, and a
-- variable's name is new.
use Rattle.std.specs.Prelude.{◌≡◌, refl, get_or, drop}
use Rattle.std.proofs.Math.Path.{ap, subst}
use Rattle.std.proofs.Common.{ap₂, sym, ◌∙◌}
use mathlib.Core.List.{List, [], ◌∷◌, ◌++◌}
use Rattle.std.proofs.Math.Option.{none, some}
use Prim.Native.Nat.{ℕ, suc, ◌+◌, ◌<◌, ◌≤◌}
use native.Mathlib.Omega.{arith}
use Rattle.std.proofs.Math.Dec.{T}
use Rattle.std.proofs.Math.ListN.{length, length-drop, length-map, get_or-map}
use Rattle.pcrl.specs.Text.{bytes, byte}
use Rattle.pcrl.specs.Limits.{max_numeral}
use Rattle.pcrl.specs.Tests.{negated, among, distinct, Every}
use Rattle.pcrl.specs.Tree.{Name, SortLine, FuncLine, ActLine, ProcLine}
use Rattle.pcrl.specs.Sheet.{Action, no_action, Sig, sort_name}
use Rattle.pcrl.specs.Names.{Names, names_of, number_of, declared, new_variable}
use Rattle.pcrl.specs.Table.{Table}
use Rattle.pcrl.specs.Right.{RightSizes, action_names, RightSig}
use Rattle.pcrl.specs.Letters.{indexed}
use Rattle.pcrl.specs.Printer.{func_name, proc_name, var_name, sort_line_of, func_line_of, act_line_of, proc_line_of, printed, taken}
use Rattle.laws.specs.Lists.{map_twice}
use Rattle.laws.specs.Tests.{pass_both}
use Rattle.laws.specs.Every.{every_weaken, every_both, every_append, every_left, every_right}
use Rattle.theory.specs.Distinct.{Unlike, each_unlike}
use Rattle.printing.specs.Indexed.{indexed_apart, indexed_injective, indexed_new}
use Rattle.printing.specs.Plain.{PlainTable}
use Rattle.printing.specs.Lookups.{number_none, number_place, distinct_append, distinct_across, in_turn, names_numbered, every_in_turn, number_in_turn, distinct_in_turn}

-- what holds of each element for every number
every_for : (R : ℕ → Name → Type 0) (l : List Name) → ((k : ℕ) → Every (R k) l) → Every (λ n. (k : ℕ) → R k n) l
unfolding Every
every_for R [] h = tt
every_for R (n ∷ l) h = (λ k. (h k).0, every_for R l (λ k. (h k).1))

one_index : (names : List Name) (b i j : ℕ) → i < suc max_numeral → j < suc max_numeral → indexed names b i ≡ indexed names b j → i ≡ j
one_index names b i j h k e = indexed_injective names b i j (omega arith) (omega arith) e

-- a list by its places
by_places : (l : List Name) (g : ℕ → Name) (i : ℕ) → ((k : ℕ) → g (i + k) ≡ get_or l k []) → in_turn g i (length l) ≡ l
unfolding in_turn
by_places [] g i e = refl
by_places (n ∷ l) g i e =
    let z : i ≡ i + 0 = omega arith in
    ap₂ ◌∷◌ (ap g z ∙ e 0) (by_places l g (suc i) (λ k. ap g (let y : suc i + k ≡ i + suc k = omega arith in y) ∙ e (suc k)))

-- the names behind the first, by their places
behind_first : (l : List Name) (x : Name) (m : ℕ) → length l ≡ suc m → get_or l 0 [] ≡ x → x ∷ in_turn (λ D. get_or l D []) 1 m ≡ l
behind_first [] x m n e = absurd (omega arith)
behind_first (y ∷ l) x m n e =
    let z : m ≡ length l = omega arith in
    ap₂ ◌∷◌ (sym e) (ap (in_turn (λ D. get_or (y ∷ l) D []) 1) z ∙ by_places l (λ D. get_or (y ∷ l) D []) 1 (λ k. ap (λ (j : ℕ). get_or (y ∷ l) j []) (let w : 1 + k ≡ suc k = omega arith in w)))

module _ (U : Table) (plain : PlainTable U) where
  abbrev S : Sig
  S = U.sig

  abbrev pub N : Names
  N = names_of (printed U)

  -- THE DECLARED NAMES

  few_sorts : (1 ≤ length U.sig.sorts) × (length U.sig.sorts ≤ max_numeral)
  unfolding RightSig RightSizes
  few_sorts = let k = plain.signature.0.0.0 in (omega arith, omega arith)

  few_funcs : length U.sig.funcs ≤ max_numeral
  unfolding RightSig
  few_funcs = let k = plain.signature.1.0.0 in omega arith

  few_procs : length U.equations ≤ max_numeral
  few_procs = let k = plain.few_equations in omega arith

  -- the names of the sorts are those of the table
  pub sorts_are : N.sorts ≡ S.sort_names
  unfolding names_of printed sort_line_of sort_name
  sorts_are =
      let n : length S.sort_names ≡ suc (length (drop 1 S.sorts)) = let l = length-drop 1 S.sorts in let k = few_sorts in let c = plain.sort_names.count in omega arith in
      ap (λ (l : List Name). bytes "Bool" ∷ l) (names_numbered (sort_line_of S) (λ (l : SortLine). l.name) (sort_name S) (λ k a. refl) 1 (drop 1 S.sorts))
      ∙ behind_first S.sort_names (bytes "Bool") (length (drop 1 S.sorts)) n plain.sort_names.Bool_first

  funcs_are : N.funcs ≡ in_turn (func_name S) 0 (length U.sig.funcs)
  unfolding names_of printed func_line_of
  funcs_are = names_numbered (func_line_of S) (λ (l : FuncLine). l.name) (func_name S) (λ k a. refl) 0 U.sig.funcs

  acts_are : N.acts ≡ action_names S.acts
  unfolding names_of printed act_line_of action_names
  acts_are = map_twice (λ (l : ActLine). l.name) (act_line_of S) (λ (a : Action). a.name) (λ a. refl) S.acts

  procs_are : N.procs ≡ in_turn (proc_name S) 0 (length U.equations)
  unfolding names_of printed proc_line_of
  procs_are = names_numbered (proc_line_of S) (λ (l : ProcLine). l.name) (proc_name S) (λ k a. refl) 0 U.equations

  -- names that the printer makes are no sort's and no action's
  new_sort : (b i : ℕ) → Every (Unlike (indexed (taken S) b i)) S.sort_names
  unfolding taken
  new_sort b i = every_left _ S.sort_names (action_names S.acts) (indexed_new (taken S) b i)

  new_act : (b i : ℕ) → Every (Unlike (indexed (taken S) b i)) (action_names S.acts)
  unfolding taken
  new_act b i = every_right _ S.sort_names (action_names S.acts) (indexed_new (taken S) b i)

  -- EACH AT ITS NUMBER

  pub sort_found : (D : ℕ) → D < length U.sig.sorts → number_of (sort_name S D) N.sorts ≡ some D
  unfolding sort_name
  sort_found D h = rw sorts_are (let n = plain.sort_names.count in number_place S.sort_names [] D plain.sort_names.apart (omega arith))

  pub func_found : (f : ℕ) → f < length U.sig.funcs → number_of (func_name S f) N.funcs ≡ some f
  func_found f h = rw funcs_are (let k = few_funcs in number_in_turn (func_name S) (suc max_numeral) (one_index (taken S) (byte "f")) 0 (length U.sig.funcs) f f (omega arith) h (omega arith))

  pub proc_found : (e : ℕ) → e < length U.equations → number_of (proc_name S e) N.procs ≡ some e
  proc_found e h = rw procs_are (let k = few_procs in number_in_turn (proc_name S) (suc max_numeral) (one_index (taken S) (byte "p")) 0 (length U.equations) e e (omega arith) h (omega arith))

  pub act_found : (a : ℕ) → a < length S.acts → number_of (get_or S.acts a no_action).name N.acts ≡ some a
  unfolding RightSig action_names
  act_found a h =
      rw acts_are
      (subst (λ (n : Name). number_of n (action_names S.acts) ≡ some a) (get_or-map (λ (a : Action). a.name) S.acts a no_action)
      (number_place (action_names S.acts) [] a plain.signature.1.1.1 (let l = length-map S.acts (λ (a : Action). a.name) in omega arith)))

  -- a process's name is no action's
  pub proc_no_act : (e : ℕ) → number_of (proc_name S e) N.acts ≡ none
  proc_no_act e = rw acts_are (number_none (proc_name S e) (action_names S.acts) (new_act (byte "p") e))

  -- the variables 0, 1, .., n of them
  abbrev pub variables : ℕ → List Name
  variables n = in_turn (var_name S) 0 n

  pub var_found : (n i : ℕ) → n ≤ max_numeral → i < n → number_of (var_name S i) (variables n) ≡ some i
  var_found n i l h = number_in_turn (var_name S) (suc max_numeral) (one_index (taken S) (byte "v")) 0 n i i (omega arith) h (omega arith)

  -- NEW NAMES

  -- the next variable is unlike all declared names and all variables in scope
  pub var_new : (n : ℕ) → n ≤ max_numeral → T (new_variable N (variables n) (var_name S n))
  unfolding new_variable declared
  var_new n l =
      let v = var_name S n in
      pass_both (negated (among v (declared N))) (negated (among v (variables n)))
      (each_unlike v (declared N)
      (every_append (Unlike v) N.sorts _ (subst (Every (Unlike v)) (sym sorts_are) (new_sort (byte "v") n))
      (every_append (Unlike v) N.funcs _ (subst (Every (Unlike v)) (sym funcs_are) (every_in_turn _ (Unlike v) 0 _ (λ f w. indexed_apart (taken S) (byte "v") (byte "f") n f (omega arith))))
      (every_append (Unlike v) N.acts _ (subst (Every (Unlike v)) (sym acts_are) (new_act (byte "v") n))
      (subst (Every (Unlike v)) (sym procs_are) (every_in_turn _ (Unlike v) 0 _ (λ e w. indexed_apart (taken S) (byte "v") (byte "p") n e (omega arith))))))))
      (each_unlike v (variables n) (every_in_turn _ (Unlike v) 0 n (λ i w e. let z = indexed_injective (taken S) (byte "v") n i l (omega arith) e in omega arith)))

  -- a list of names is unlike all that are made with a letter
  unlike_made : (g : ℕ → Name) (l : List Name) → ((k : ℕ) → Every (Unlike (g k)) l) → (n : ℕ) → Every (λ x. Every (Unlike x) (in_turn g 0 n)) l
  unlike_made g l h n = every_weaken _ _ (λ x k. every_in_turn g (Unlike x) 0 n (λ i w e. k i (sym e))) l (every_for (λ i x. Unlike (g i) x) l h)

  -- ALL DECLARED NAMES ARE DISTINCT, WHERE NO SORT HAS AN ACTION'S NAME,
  pub declared_distinct : T (distinct (taken S)) → T (distinct (declared N))
  unfolding declared RightSig taken
  declared_distinct free =
      let D = S.sort_names in
      let F = in_turn (func_name S) 0 (length U.sig.funcs) in
      let A = action_names S.acts in
      let P = in_turn (proc_name S) 0 (length U.equations) in
      let few_f = few_funcs in
      let few_p = few_procs in
      rw (sorts_are, funcs_are, acts_are, procs_are)
      (distinct_append D (F ++ (A ++ P)) plain.sort_names.apart
      (distinct_append F (A ++ P) (distinct_in_turn _ (suc max_numeral) (one_index (taken S) (byte "f")) 0 _ (omega arith))
      (distinct_append A P plain.signature.1.1.1 (distinct_in_turn _ (suc max_numeral) (one_index (taken S) (byte "p")) 0 _ (omega arith))
      (unlike_made (proc_name S) A (new_act (byte "p")) _))
      (every_in_turn _ _ 0 _ (λ f w. every_append _ A P (new_act (byte "f") f) (every_in_turn _ _ 0 _ (λ e v. indexed_apart (taken S) (byte "f") (byte "p") f e (omega arith))))))
      (every_both _ _ _ (λ x f k. every_append _ F (A ++ P) f k) D (unlike_made (func_name S) D (new_sort (byte "f")) _)
      (every_both _ _ _ (λ x a p. every_append _ A P a p) D (distinct_across D A free) (unlike_made (proc_name S) D (new_sort (byte "p")) _))))

  -- and only there.
  pub distinct_declared : T (distinct (declared N)) → T (distinct (taken S))
  unfolding declared RightSig taken
  distinct_declared h =
      let D = S.sort_names in
      let A = action_names S.acts in
      let k : T (distinct (D ++ (N.funcs ++ (A ++ N.procs)))) = subst (λ (l : List Name). T (distinct (l ++ (N.funcs ++ (A ++ N.procs))))) sorts_are (subst (λ (l : List Name). T (distinct (N.sorts ++ (N.funcs ++ (l ++ N.procs))))) acts_are h) in
      distinct_append D A plain.sort_names.apart plain.signature.1.1.1
      (every_weaken _ _ (λ x e. every_left _ A N.procs (every_right _ N.funcs (A ++ N.procs) e)) D (distinct_across D (N.funcs ++ (A ++ N.procs)) k))
