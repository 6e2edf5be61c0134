-- A resolved term is scoped: its variables are those in scope, its calls are of processes that are there, and each sum binds the next number.
-- By induction on the raw term: a name's number is below the length of the list that it is looked for in.
use Rattle.std.proofs.Math.Path.{◌≡◌, refl, ap, subst}
use Rattle.std.proofs.Common.{sym}
use mathlib.Core.List.{List, [], ◌∷◌, ◌++◌}
use Rattle.std.proofs.Math.Option.{Option, none, some, some-injective}
use Prim.Native.Nat.{ℕ, suc, ◌+◌, ◌≤◌, ◌<◌}
use native.Mathlib.Omega.{arith}
use Rattle.std.proofs.Math.ListN.{length, length-append}
use Rattle.pcrl.specs.Tests.{Every}
use Rattle.pcrl.specs.Tree.{Name, RawData, RawDatas, Choice, Conditional, Sequence, Part, ProcLine, InitLine}
use Rattle.pcrl.specs.Sheet.{Data, Datas, list_of, Act, Proc, Sig, Process}
use Rattle.pcrl.specs.Names.{Names, number_of, new_variable, resolve_data, resolve_datas, resolve_given, named, resolve_choice, resolve_conditional, resolve_sequence, resolve_part, resolve_params, resolve_proc, resolve_init}
use Rattle.laws.specs.Optional.{first_given, test_passed}
use Rattle.laws.specs.Numbers.{number_below}
use Rattle.nodes.specs.Scoped.{max_scope, ScopedData, ScopedArguments, Scoped}
use Rattle.resolver.specs.Formers.{Closed, data_holds, datas_hold}
use Rattle.resolver.specs.Raw.{sum_depth, conditional_depth, sequence_depth, part_depth}

module _ (N : Names) (S : Sig) where
  -- data: the scope has every variable
  scoped_closed : (scope : List Name) → Closed N scope (ScopedData (length scope)) (ScopedArguments (length scope))
  unfolding ScopedData
  scoped_closed scope = record {
    value = λ v. tt;
    variable = λ x i p. number_below x scope i p;
    written = λ x f es p h. h;
    operator = λ f es p h. h;
    empty = tt;
    more = λ e es h k. (h, k);
  }

  pub data_scoped : (scope : List Name) (Γ : List ℕ) (d : RawData) (e : Data) → resolve_data N S scope Γ d ≡ some e → ScopedData (length scope) e
  data_scoped scope Γ d e q = data_holds N S scope Γ (ScopedData (length scope)) (ScopedArguments (length scope)) (scoped_closed scope) d e q

  datas_scoped : (scope : List Name) (Γ : List ℕ) (ds : RawDatas) (es : Datas) → resolve_datas N S scope Γ ds ≡ some es → ScopedArguments (length scope) es
  datas_scoped scope Γ ds es q = datas_hold N S scope Γ (ScopedData (length scope)) (ScopedArguments (length scope)) (scoped_closed scope) ds es q

  arguments_scoped : (n : ℕ) (es : Datas) → ScopedArguments n es → Every (ScopedData n) (list_of es)
  unfolding ScopedData Every list_of
  arguments_scoped n Datas.nil h = tt
  arguments_scoped n (Datas.cons e es) h = (h.0, arguments_scoped n es h.1)

  pub given_scoped : (scope : List Name) (Γ : List ℕ) (ds : Option RawDatas) (es : List Data) → resolve_given N S scope Γ ds ≡ some es → Every (ScopedData (length scope)) es
  unfolding resolve_given Every
  given_scoped scope Γ none es q = subst (Every (ScopedData (length scope))) (let z : [] ≡ es = cc in z) tt
  given_scoped scope Γ (some ds) es q =
      first_given (resolve_datas N S scope Γ ds) (λ es. some (list_of es)) es q
      (λ fs p r. subst (Every (ScopedData (length scope))) (let z : list_of fs ≡ es = cc in z) (arguments_scoped (length scope) fs (datas_scoped scope Γ ds fs p)))

  named_scoped : (scope : List Name) (a k : Option ℕ) (es : List Data) (p : Proc) → ((i : ℕ) → k ≡ some i → i < length N.procs) → Every (ScopedData (length scope)) es → named N S a k es ≡ some p
      → Scoped (length N.procs) (length scope) p
  unfolding named Scoped
  named_scoped scope (some i) k es p below h q = subst (Scoped (length N.procs) (length scope)) (let z : Proc.atom (Act.action i) es ≡ p = cc in z) h
  named_scoped scope none (some i) es p below h q = subst (Scoped (length N.procs) (length scope)) (let z : Proc.call i es ≡ p = cc in z) (below i refl, h)
  named_scoped scope none none es p below h q = let z : ◌≡◌ {A = ℕ} 0 1 = cc in absurd (omega arith)

  mutual
    unfolding resolve_choice Scoped sum_depth Every

    -- a choice, where its sums do not nest too deep
    pub choice_scoped : (scope : List Name) (Γ : List ℕ) (t : Choice) (p : Proc) → resolve_choice N S scope Γ t ≡ some p → length scope + sum_depth t ≤ max_scope → Scoped (length N.procs) (length scope) p
    choice_scoped scope Γ (Choice.only c) p q d = conditional_scoped scope Γ c p q d
    choice_scoped scope Γ (Choice.plus c t) p q d =
        first_given (resolve_conditional N S scope Γ c) _ p q (λ a e₁ r. first_given (resolve_choice N S scope Γ t) (λ b. some (Proc.alt a b)) p r
        (λ b e₂ r₁. subst (Scoped (length N.procs) (length scope)) (let z : Proc.alt a b ≡ p = cc in z) (conditional_scoped scope Γ c a e₁ (omega arith), choice_scoped scope Γ t b e₂ (omega arith))))

    conditional_scoped : (scope : List Name) (Γ : List ℕ) (t : Conditional) (p : Proc) → resolve_conditional N S scope Γ t ≡ some p → length scope + conditional_depth t ≤ max_scope → Scoped (length N.procs) (length scope) p
    conditional_scoped scope Γ (Conditional.plain t) p q d = sequence_scoped scope Γ t p q d
    conditional_scoped scope Γ (Conditional.cond t c u) p q d =
        first_given (resolve_sequence N S scope Γ t) _ p q (λ a e₁ r. first_given (resolve_data N S scope Γ c) _ p r (λ b e₂ r₁. first_given (resolve_sequence N S scope Γ u) (λ s. some (Proc.cond b a s)) p r₁
        (λ s e₃ r₂. subst (Scoped (length N.procs) (length scope)) (let z : Proc.cond b a s ≡ p = cc in z)
        (data_scoped scope Γ c b e₂, (sequence_scoped scope Γ t a e₁ (omega arith), sequence_scoped scope Γ u s e₃ (omega arith))))))

    sequence_scoped : (scope : List Name) (Γ : List ℕ) (t : Sequence) (p : Proc) → resolve_sequence N S scope Γ t ≡ some p → length scope + sequence_depth t ≤ max_scope → Scoped (length N.procs) (length scope) p
    sequence_scoped scope Γ (Sequence.last t) p q d = part_scoped scope Γ t p q d
    sequence_scoped scope Γ (Sequence.then t u) p q d =
        first_given (resolve_part N S scope Γ t) _ p q (λ a e₁ r. first_given (resolve_sequence N S scope Γ u) (λ b. some (Proc.seq a b)) p r
        (λ b e₂ r₁. subst (Scoped (length N.procs) (length scope)) (let z : Proc.seq a b ≡ p = cc in z) (part_scoped scope Γ t a e₁ (omega arith), sequence_scoped scope Γ u b e₂ (omega arith))))

    part_scoped : (scope : List Name) (Γ : List ℕ) (t : Part) (p : Proc) → resolve_part N S scope Γ t ≡ some p → length scope + part_depth t ≤ max_scope → Scoped (length N.procs) (length scope) p
    part_scoped scope Γ Part.delta p q d = subst (Scoped (length N.procs) (length scope)) (let z : Proc.delta ≡ p = cc in z) tt
    part_scoped scope Γ Part.tau p q d = subst (Scoped (length N.procs) (length scope)) (let z : Proc.atom Act.tau [] ≡ p = cc in z) tt
    part_scoped scope Γ (Part.named x ds) p q d =
        first_given (resolve_given N S scope Γ ds) _ p q
        (λ es e₁ r. named_scoped scope (number_of x N.acts) (number_of x N.procs) es p (number_below x N.procs) (given_scoped scope Γ ds es e₁) r)
    part_scoped scope Γ (Part.sum v D t) p q d =
        first_given (number_of D N.sorts) _ p (test_passed (new_variable N scope v) _ p q).1 (λ E e₁ r. first_given (resolve_choice N S (scope ++ (v ∷ [])) (Γ ++ (E ∷ [])) t) (λ b. some (Proc.sum (length scope) E b)) p r
        (λ b e₂ r₁.
        let n : length (scope ++ (v ∷ [])) ≡ suc (length scope) = simp length-append (omega arith) in
        subst (Scoped (length N.procs) (length scope)) (let z : Proc.sum (length scope) E b ≡ p = cc in z)
        (refl, (omega arith, subst (λ (k : ℕ). Scoped (length N.procs) k b) n (choice_scoped (scope ++ (v ∷ [])) (Γ ++ (E ∷ [])) t b e₂ (omega arith))))))
    part_scoped scope Γ (Part.group t) p q d = choice_scoped scope Γ t p q d

  -- as many names come into scope as there are sorts of parameters
  params_many : (scope : List Name) (ps : List (Name × Name)) (r : List Name × List ℕ) → resolve_params N scope ps ≡ some r → length r.0 ≡ length scope + length r.1
  unfolding resolve_params
  params_many scope [] r q = let z : (scope, []) ≡ r = cc in subst (λ (x : List Name × List ℕ). length x.0 ≡ length scope + length x.1) z (omega arith)
  params_many scope (a ∷ ps) r q =
      first_given (number_of a.1 N.sorts) _ r (test_passed (new_variable N scope a.0) _ r q).1
      (λ D e₁ q₁. first_given (resolve_params N (scope ++ (a.0 ∷ [])) ps) (λ x. some (x.0, D ∷ x.1)) r q₁
      (λ x e₂ q₂.
      let z : (x.0, D ∷ x.1) ≡ r = cc in
      let h = params_many (scope ++ (a.0 ∷ [])) ps x e₂ in
      let k : length (scope ++ (a.0 ∷ [])) ≡ suc (length scope) = simp length-append (omega arith) in
      subst (λ (y : List Name × List ℕ). length y.0 ≡ length scope + length y.1) z (omega arith)))

  -- the right side of a process, with its parameters in scope
  pub process_scoped : (l : ProcLine) (p : Process) → resolve_proc N S l ≡ some p → length p.params + sum_depth l.right ≤ max_scope → Scoped (length N.procs) (length p.params) p.right
  unfolding resolve_proc
  process_scoped l p q d =
      first_given (resolve_params N [] l.params) _ p q
      (λ ps e₁ q₁. first_given (resolve_choice N S ps.0 ps.1 l.right) (λ t. some (record { params = ps.1; right = t })) p q₁
      (λ t e₂ q₂.
      let z : record { params = ps.1; right = t } ≡ p = some-injective _ _ q₂ in
      let k = params_many [] l.params ps e₁ in
      let n : length ps.0 ≡ length ps.1 = omega arith in
      let m : length p.params ≡ length ps.1 = ap (λ (x : Process). length x.params) (sym z) in
      subst (λ (x : Process). Scoped (length N.procs) (length x.params) x.right) z
      (subst (λ (k : ℕ). Scoped (length N.procs) k t) n (choice_scoped ps.0 ps.1 l.right t e₂ (omega arith)))))

  -- the call of init, with nothing in scope
  pub init_scoped : (l : InitLine) (k : ℕ) (ds : List Data) → resolve_init N S l ≡ some (k, ds) → Scoped (length N.procs) 0 (Proc.call k ds)
  unfolding resolve_init Scoped
  init_scoped l k ds q =
      first_given (number_of l.name N.procs) _ (k, ds) q
      (λ j e₁ q₁. first_given (resolve_given N S [] [] l.data_given) (λ es. some (j, es)) (k, ds) q₁
      (λ es e₂ q₂.
      let a : j ≡ k = ap (λ (x : ℕ × List Data). x.0) (some-injective _ _ q₂) in
      let b : es ≡ ds = ap (λ (x : ℕ × List Data). x.1) (some-injective _ _ q₂) in
      let i = number_below l.name N.procs j e₁ in
      (omega arith, subst (Every (ScopedData 0)) b (given_scoped [] [] l.data_given es e₂))))
