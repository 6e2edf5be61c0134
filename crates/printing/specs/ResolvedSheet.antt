-- The printed sheet of a right table resolves where no sort has an action's name, and to the linear sheet of what the table is retold as: no other name
-- of it is taken twice, and none is missing.
use Rattle.std.specs.Prelude.{◌≡◌, T}
use Rattle.std.proofs.Math.Path.{refl, ap, subst}
use Rattle.std.proofs.Common.{sym, ◌∙◌}
use mathlib.Core.List.{List, [], ◌∷◌, map, map-id}
use Rattle.std.proofs.Math.Option.{Option, some}
use Prim.Native.Nat.{ℕ, suc, ◌+◌, ◌<◌, ◌≤◌}
use native.Mathlib.Omega.{arith}
use Rattle.std.proofs.Math.ListN.{length, get_or, drop}
use Rattle.pcrl.specs.Limits.{max_numeral}
use Rattle.pcrl.specs.Tests.{distinct, Every, Each}
use Rattle.pcrl.specs.Maybe.{for_each}
use Rattle.pcrl.specs.Tree.{Name, RawData, Atom, Conditional, SortLine}
use Rattle.pcrl.specs.Sheet.{val, Func, Action, Proc, Sig, Sheet, sort_name}
use Rattle.pcrl.specs.Names.{Names, declared, new_variable, number_of, resolve_given, resolve_choice, resolve_conditional, sorts_of, resolve_func, resolve_act, resolve_params, resolve_proc, resolve_init, sizes_of, resolve_terms, resolve}
use Rattle.pcrl.specs.Table.{Equation, Table}
use Rattle.pcrl.specs.Right.{RightSizes, RightFunc, RightAction, RightSig}
use Rattle.pcrl.specs.Printer.{numbered, atom_shown, as_data, in_brackets, choice_of, right_of, taken, var_name, shown, raw_data, raw_summand, sort_line_of, func_line_of, act_line_of, param_of, proc_line_of, init_line_of, printed}
use Rattle.laws.specs.Lists.{map_twice}
use Rattle.laws.specs.Tests.{is_true}
use Rattle.laws.specs.Optional.{test_passed}
use Rattle.laws.specs.Each.{each_of_every}
use Rattle.laws.specs.Every.{every_weaken, every_map}
use Rattle.printing.specs.Plain.{Plain, PlainEquation, PlainTable}
use Rattle.printing.specs.NumberedLaws.{shown_numbered}
use Rattle.printing.specs.Lookups.{in_turn, in_turn_snoc}
use Rattle.printing.specs.PrintedNames.{N, sorts_are, sort_found, proc_found, variables, var_new, declared_distinct, distinct_declared}
use Rattle.printing.specs.Linear.{linear_summand, alternatives, linear_right, linear_process, linear_sheet}
use Rattle.printing.specs.Sided.{retold, retold_summand, retold_equation, retold_table}
use Rattle.printing.specs.ResolvedData.{terms_given}
use Rattle.printing.specs.ResolvedSummands.{summand_becomes}

-- a value for each element
for_each_all : {A B C : Type 0} (P : A → Type 0) (f : B → Option C) (g : A → B) (h : A → C) → ((a : A) → P a → f (g a) ≡ some (h a)) → (l : List A) → Every P l
    → for_each f (map g l) ≡ some (map h l)
unfolding for_each Every
for_each_all P f g h e [] k = refl
for_each_all P f g h e (a ∷ l) k = rw (e a k.0, for_each_all P f g h e l k.1)

for_each_numbered : {A B C : Type 0} (P : A → Type 0) (f : B → Option C) (g : ℕ → A → B) (h : A → C) → ((k : ℕ) (a : A) → P a → f (g k a) ≡ some (h a)) → (i : ℕ) (l : List A) → Every P l
    → for_each f (numbered g i l) ≡ some (map h l)
unfolding for_each Every numbered
for_each_numbered P f g h e i [] k = refl
for_each_numbered P f g h e i (a ∷ l) k = rw (e i a k.0, for_each_numbered P f g h e (suc i) l k.1)

module _ (U : Table) (plain : PlainTable U) where
  abbrev S : Sig
  S = U.sig

  -- SORTS

  sorts_become : (Ds : List ℕ) → Every (λ D. D < length U.sig.sorts) Ds → sorts_of (N U plain) (map (sort_name S) Ds) ≡ some Ds
  unfolding sorts_of
  sorts_become Ds h = for_each_all _ (λ D. number_of D (N U plain).sorts) (sort_name S) (λ D. D) (sort_found U plain) Ds h ∙ ap some (map-id Ds)

  sizes_become : sizes_of (printed U) ≡ U.sig.sorts
  unfolding sizes_of printed sort_line_of RightSig RightSizes
  sizes_become =
      ap (λ (l : List ℕ). 2 ∷ l) (shown_numbered (sort_line_of S) (λ (l : SortLine). l.size) (λ k a. refl) 1 (drop 1 U.sig.sorts))
      ∙ whole U.sig.sorts plain.signature.0.0.0.0 plain.signature.0.1
    where
      whole : (l : List ℕ) → 1 ≤ length l → get_or l 0 0 ≡ 2 → 2 ∷ drop 1 l ≡ l
      whole [] h e = absurd (omega arith)
      whole (n ∷ l) h e = ap (λ (k : ℕ). k ∷ l) (sym e)

  -- FUNCTIONS AND ACTIONS

  func_becomes : (f : ℕ) (g : Func) → RightFunc U.sig.sorts g → resolve_func (N U plain) (func_line_of S f g) ≡ some g
  unfolding resolve_func func_line_of RightFunc
  func_becomes f g r = rw (sorts_become g.takes r.0.1, sort_found U plain g.gives r.1.0)

  act_becomes : (a : Action) → RightAction U.sig.sorts a → resolve_act (N U plain) (act_line_of S a) ≡ some a
  unfolding resolve_act act_line_of RightAction
  act_becomes a r = rw (sorts_become a.takes r.1.1)

  -- PROCESSES

  params_become : (n : ℕ) (Ds : List ℕ) → n + length Ds ≤ max_numeral → Every (λ D. D < length U.sig.sorts) Ds
      → resolve_params (N U plain) (variables U plain n) (numbered (param_of S) n Ds) ≡ some (variables U plain (n + length Ds), Ds)
  unfolding resolve_params numbered param_of Every
  params_become n [] l h = let e : n ≡ n + 0 = omega arith in ap (λ (m : ℕ). some (variables U plain m, [])) e
  params_become n (D ∷ Ds) l h =
      let e : suc n + length Ds ≡ n + suc (length Ds) = omega arith in
      rw (
        is_true (new_variable (N U plain) (variables U plain n) (var_name S n)) (var_new U plain n (omega arith)),
        sort_found U plain D h.0,
        in_turn_snoc (var_name S) 0 n n (omega arith),
        params_become (suc n) Ds (omega arith) h.1,
      )
      (ap (λ (m : ℕ). some (variables U plain m, D ∷ Ds)) e)

  abbrev names : Names
  names = N U plain

  module _ (scope : List Name) (Γ : List ℕ) where
    choice_becomes : (c : Conditional) (cs : List Conditional) (p : Proc) (ps : List Proc) → resolve_conditional names S scope Γ c ≡ some p
        → Each (λ c p. resolve_conditional names S scope Γ c ≡ some p) cs ps → resolve_choice names S scope Γ (choice_of c cs) ≡ some (alternatives p ps)
    unfolding choice_of alternatives resolve_choice Each
    choice_becomes c [] p [] h k = h
    choice_becomes c [] p (q ∷ ps) h k = absurd k
    choice_becomes c (d ∷ cs) p [] h k = absurd k
    choice_becomes c (d ∷ cs) p (q ∷ ps) h k = rw (h, choice_becomes d cs q ps k.0 k.1)

    right_becomes : (cs : List Conditional) (ps : List Proc) → Each (λ c p. resolve_conditional names S scope Γ c ≡ some p) cs ps
        → resolve_choice names S scope Γ (right_of cs) ≡ some (linear_right ps)
    unfolding right_of linear_right resolve_choice Each
    right_becomes [] [] h = refl
    right_becomes [] (p ∷ ps) h = absurd h
    right_becomes (c ∷ cs) [] h = absurd h
    right_becomes (c ∷ cs) (p ∷ ps) h = choice_becomes c cs p ps h.0 h.1

  proc_becomes : (e : ℕ) (q : Equation) → PlainEquation U q → resolve_proc names S (proc_line_of S e q) ≡ some (linear_process (retold_equation q))
  unfolding resolve_proc proc_line_of linear_process retold_equation in_turn
  proc_becomes e q p =
      let n = length q.params in
      let z : 0 + n ≡ n = omega arith in
      let few = p.few in
      let ps : resolve_params names [] (numbered (param_of S) 0 q.params) ≡ some (variables U plain n, q.params) =
      subst (λ (m : ℕ). resolve_params names [] (numbered (param_of S) 0 q.params) ≡ some (variables U plain m, q.params)) z (params_become 0 q.params (omega arith) p.params) in
      let hs : map (linear_summand n) (map retold_summand q.summands) ≡ map (λ h. linear_summand n (retold_summand h)) q.summands =
      map_twice (linear_summand n) retold_summand (λ h. linear_summand n (retold_summand h)) (λ h. refl) q.summands in
      rw (
        ps,
        hs,
        right_becomes (variables U plain n) q.params (map (raw_summand S n) q.summands) (map (λ h. linear_summand n (retold_summand h)) q.summands)
            (each_of_every _ (raw_summand S n) (λ h. linear_summand n (retold_summand h)) q.summands (every_weaken _ _ (summand_becomes U plain q.params) q.summands p.summands)),
      )

  -- INIT

  init_becomes : resolve_init names S (init_line_of S U.start) ≡ some (U.start.0, map val U.start.1)
  unfolding resolve_init init_line_of raw_data shown in_turn Plain retold
  init_becomes =
      let vs = U.start.1 in
      let value_data : ℕ → RawData = λ v. as_data (atom_shown (Atom.value v)) in
      let e : map (raw_data S) (map val vs) ≡ map value_data vs = map_twice (raw_data S) val value_data (λ v. refl) vs in
      let f : map retold (map val vs) ≡ map val vs = map_twice retold val val (λ v. refl) vs in
      let g : resolve_given names S [] [] (in_brackets (map value_data vs)) ≡ some (map val vs) =
      subst (λ (es : List RawData). resolve_given names S [] [] (in_brackets es) ≡ some (map val vs)) e
      (terms_given U plain [] (omega arith) (map val vs) (every_map _ _ val plain_value vs plain.values) ∙ ap some f) in
      rw (proc_found U plain U.start.0 plain.start, g)
    where
      plain_value : (v : ℕ) → v ≤ max_numeral → Plain S [] (val v)
      plain_value v h = h

  terms_become : resolve_terms (printed U) S ≡ some (linear_sheet (retold_table U))
  unfolding resolve_terms linear_sheet retold_table printed
  terms_become =
      rw (
        for_each_numbered (PlainEquation U) (resolve_proc names S) (proc_line_of S) (λ q. linear_process (retold_equation q)) proc_becomes 0 U.equations plain.equations,
        init_becomes,
        map_twice linear_process retold_equation (λ q. linear_process (retold_equation q)) (λ q. refl) U.equations,
      )

  -- THE PRINTED SHEET RESOLVES TO THE LINEAR SHEET OF THE RETOLD TABLE, WHERE NO SORT HAS AN ACTION'S NAME,
  pub printed_resolves : T (distinct (taken S)) → resolve (printed U) ≡ some (linear_sheet (retold_table U))
  unfolding resolve printed RightSig
  printed_resolves free =
      let sig = plain.signature in
      rw (
        is_true (distinct (declared names)) (declared_distinct U plain free),
        for_each_numbered (RightFunc U.sig.sorts) (resolve_func names) (func_line_of S) (λ g. g) func_becomes 0 U.sig.funcs sig.1.0.1,
        for_each_all (RightAction U.sig.sorts) (resolve_act names) (act_line_of S) (λ a. a) act_becomes S.acts sig.1.1.0.1,
        sizes_become,
        sorts_are U plain,
        map-id U.sig.funcs,
        map-id S.acts,
      )
      terms_become

  -- and nothing else does.
  pub resolves_free : (H : Sheet) → resolve (printed U) ≡ some H → T (distinct (taken S))
  unfolding resolve
  resolves_free H e = distinct_declared U plain (test_passed (distinct (declared names)) _ H e).0
