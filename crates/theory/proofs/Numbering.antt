-- A resolved process term is numbered: each sum binds the next number. By induction on the raw term.
use Rattle.std.specs.Prelude.{◌≡◌, refl, ℕ, suc}
use Rattle.std.proofs.Math.Path.{subst}
use mathlib.Core.List.{List, [], ◌∷◌, ◌++◌}
use Rattle.std.proofs.Math.Option.{Option, none, some, none-ne-some}
use native.Mathlib.Omega.{arith}
use Rattle.std.proofs.Math.ListN.{length}
use Rattle.std.proofs.Common.{length-append}
use Rattle.pcrl.specs.Tree.{Name, Choice, Conditional, Sequence, Part, ProcLine}
use Rattle.pcrl.specs.Sheet.{Data, Act, Proc, Sig, Process}
use Rattle.pcrl.specs.Names.{Names, number_of, new_variable, resolve_data, resolve_given, named, resolve_choice, resolve_conditional, resolve_sequence, resolve_part, resolve_params, resolve_proc}
use Rattle.laws.specs.Optional.{first_given, test_passed}
use Rattle.theory.specs.Standing.{Numbered}
use Rattle.theory.specs.Resolved.{Declared, params_from}

module _ (N : Names) (S : Sig) where
  named_numbered : (n : ℕ) (a k : Option ℕ) (ds : List Data) (p : Proc) → named N S a k ds ≡ some p → Numbered n p
  unfolding named Numbered
  named_numbered n (some a) k ds p e = let z : Proc.atom (Act.action a) ds ≡ p = cc in subst (Numbered n) z tt
  named_numbered n none (some k) ds p e = let z : Proc.call k ds ≡ p = cc in subst (Numbered n) z tt
  named_numbered n none none ds p e = absurd (none-ne-some p e)

  mutual
    unfolding resolve_choice Numbered

    -- where the names in scope are those, the term is numbered behind them
    pub choice_numbered : (c : Choice) (scope : List Name) (Γ : List ℕ) (p : Proc) → resolve_choice N S scope Γ c ≡ some p → Numbered (length scope) p
    choice_numbered (Choice.only c) scope Γ p e = conditional_numbered c scope Γ p e
    choice_numbered (Choice.plus c d) scope Γ p e =
        first_given (resolve_conditional N S scope Γ c) _ p e (λ q h₁ e₁.
        first_given (resolve_choice N S scope Γ d) _ p e₁ (λ r h₂ e₂.
        let z : Proc.alt q r ≡ p = cc in
        subst (Numbered (length scope)) z (conditional_numbered c scope Γ q h₁, choice_numbered d scope Γ r h₂)))

    pub conditional_numbered : (c : Conditional) (scope : List Name) (Γ : List ℕ) (p : Proc) → resolve_conditional N S scope Γ c ≡ some p → Numbered (length scope) p
    conditional_numbered (Conditional.plain c) scope Γ p e = sequence_numbered c scope Γ p e
    conditional_numbered (Conditional.cond c b d) scope Γ p e =
        first_given (resolve_sequence N S scope Γ c) _ p e (λ q h₁ e₁.
        first_given (resolve_data N S scope Γ b) _ p e₁ (λ f h₂ e₂.
        first_given (resolve_sequence N S scope Γ d) _ p e₂ (λ r h₃ e₃.
        let z : Proc.cond f q r ≡ p = cc in
        subst (Numbered (length scope)) z (sequence_numbered c scope Γ q h₁, sequence_numbered d scope Γ r h₃))))

    pub sequence_numbered : (c : Sequence) (scope : List Name) (Γ : List ℕ) (p : Proc) → resolve_sequence N S scope Γ c ≡ some p → Numbered (length scope) p
    sequence_numbered (Sequence.last c) scope Γ p e = part_numbered c scope Γ p e
    sequence_numbered (Sequence.then c d) scope Γ p e =
        first_given (resolve_part N S scope Γ c) _ p e (λ q h₁ e₁.
        first_given (resolve_sequence N S scope Γ d) _ p e₁ (λ r h₂ e₂.
        let z : Proc.seq q r ≡ p = cc in
        subst (Numbered (length scope)) z (part_numbered c scope Γ q h₁, sequence_numbered d scope Γ r h₂)))

    pub part_numbered : (c : Part) (scope : List Name) (Γ : List ℕ) (p : Proc) → resolve_part N S scope Γ c ≡ some p → Numbered (length scope) p
    part_numbered Part.delta scope Γ p e = let z : Proc.delta ≡ p = cc in subst (Numbered (length scope)) z tt
    part_numbered Part.tau scope Γ p e = let z : Proc.atom Act.tau [] ≡ p = cc in subst (Numbered (length scope)) z tt
    part_numbered (Part.named x ds) scope Γ p e =
        first_given (resolve_given N S scope Γ ds) _ p e (λ es h₁ e₁.
        named_numbered (length scope) (number_of x N.acts) (number_of x N.procs) es p e₁)
    part_numbered (Part.sum v D c) scope Γ p e =
        let (t, e₁) = test_passed (new_variable N scope v) _ p e in
        first_given (number_of D N.sorts) _ p e₁ (λ E h₂ e₂.
        first_given (resolve_choice N S (scope ++ (v ∷ [])) (Γ ++ (E ∷ [])) c) _ p e₂ (λ q h₃ e₃.
        let z : Proc.sum (length scope) E q ≡ p = cc in
        let n : length (scope ++ (v ∷ [])) ≡ suc (length scope) = simp length-append (omega arith) in
        subst (Numbered (length scope)) z (refl, subst (λ (n : ℕ). Numbered n q) n (choice_numbered c (scope ++ (v ∷ [])) (Γ ++ (E ∷ [])) q h₃))))
    part_numbered (Part.group c) scope Γ p e = choice_numbered c scope Γ p e

  -- what a process line becomes
  pub record ProcessFrom (l : ProcLine) (p : Process) : Type 0 where
    pub arity : length l.params ≡ length p.params
    pub sorts : Declared N p.params
    pub numbered : Numbered (length p.params) p.right

  pub process_from : (l : ProcLine) (p : Process) → resolve_proc N S l ≡ some p → ProcessFrom l p
  unfolding resolve_proc
  process_from l p e =
      first_given (resolve_params N [] l.params) _ p e (λ ps h₁ e₁.
      first_given (resolve_choice N S ps.0 ps.1 l.right) _ p e₁ (λ q h₂ e₂.
      let K : Process = record { params = ps.1; right = q } in
      let z : K ≡ p = cc in
      let h = params_from N l.params [] ps h₁ in
      let a = h.in_scope in
      let n : length ps.0 ≡ length ps.1 = omega arith in
      subst (ProcessFrom l) z (record { arity = h.arity; sorts = h.sorts; numbered = subst (λ (n : ℕ). Numbered n q) n (choice_numbered l.right ps.0 ps.1 q h₂) })))
