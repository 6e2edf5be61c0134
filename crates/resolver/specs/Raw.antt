-- The raw tree as a reader of its cells sees it: choices, conditionals, sequences and parts are one kind of term,
-- and behind each tag stand so many tokens and so many subterms.
use Rattle.std.specs.Prelude.{◌≡◌, List, [], ◌∷◌, ◌++◌, true, false, ℕ, suc, ◌-◌, max, ltb, drop, get_or}
use Rattle.std.proofs.Math.Option.{Option}
use Rattle.pcrl.specs.Tree.{Name, RawData, Conjunction, Comparison, Choice, only, plus, Conditional, plain, cond, Sequence, last, then, Part, delta, tau, named, sum, group}
use Rattle.pcrl.specs.Sheet.{Proc, Sig}
use Rattle.pcrl.specs.Names.{Names, resolve_choice, resolve_conditional, resolve_sequence, resolve_part}
use Rattle.parser.specs.Cells.{Symbol, first_ors, first_ands, enc_choice, enc_conditional, enc_sequence, enc_part}
use Rattle.names.specs.Standing.{symbols}

pub data Term : Type 0 where
  choice : Choice → Term
  conditional : Conditional → Term
  sequence : Sequence → Term
  part : Part → Term

unfoldable pub enc_term : Term → List Symbol
enc_term (choice c) = enc_choice c
enc_term (conditional c) = enc_conditional c
enc_term (sequence p) = enc_sequence p
enc_term (part p) = enc_part p

unfoldable pub resolve_term : Names → Sig → List Name → List ℕ → Term → Option Proc
resolve_term N S scope Γ (choice c) = resolve_choice N S scope Γ c
resolve_term N S scope Γ (conditional c) = resolve_conditional N S scope Γ c
resolve_term N S scope Γ (sequence p) = resolve_sequence N S scope Γ p
resolve_term N S scope Γ (part p) = resolve_part N S scope Γ p

-- how many sums stand in one another
unfoldable mutual
  pub sum_depth : Choice → ℕ
  sum_depth (only c) = conditional_depth c
  sum_depth (plus c d) = max (conditional_depth c) (sum_depth d)

  pub conditional_depth : Conditional → ℕ
  conditional_depth (plain p) = sequence_depth p
  conditional_depth (cond p c q) = max (sequence_depth p) (sequence_depth q)

  pub sequence_depth : Sequence → ℕ
  sequence_depth (last p) = part_depth p
  sequence_depth (then p q) = max (part_depth p) (sequence_depth q)

  pub part_depth : Part → ℕ
  part_depth delta = 0
  part_depth tau = 0
  part_depth (named x ds) = 0
  part_depth (sum v D p) = suc (sum_depth p)
  part_depth (group p) = sum_depth p

unfoldable pub term_depth : Term → ℕ
term_depth (choice c) = sum_depth c
term_depth (conditional c) = conditional_depth c
term_depth (sequence p) = sequence_depth p
term_depth (part p) = part_depth p

-- behind a tag: how many tokens, then how many subterms
unfoldable pub tokens_of : ℕ → ℕ
tokens_of k = get_or (0 ∷ 1 ∷ 1 ∷ 1 ∷ 0 ∷ 0 ∷ 0 ∷ 0 ∷ 0 ∷ 0 ∷ 0 ∷ 0 ∷ 0 ∷ 0 ∷ 1 ∷ 1 ∷ 2 ∷ []) k 0

-- a cell of `\/` or `/\` has one subterm more than it says
unfoldable pub kids_of : ℕ → ℕ
kids_of k =
    elim (ltb k first_ors) [
      | true ↦ get_or (0 ∷ 0 ∷ 0 ∷ 1 ∷ 1 ∷ 2 ∷ 1 ∷ 2 ∷ 1 ∷ 3 ∷ 1 ∷ 2 ∷ 0 ∷ 0 ∷ 0 ∷ 1 ∷ 1 ∷ 1 ∷ 0 ∷ 0 ∷ 0 ∷ 0 ∷ 0 ∷ 0 ∷ 0 ∷ 1 ∷ 2 ∷ 1 ∷ 1 ∷ []) k 0
      | false ↦ elim (ltb k first_ands) [ true ↦ suc (k - first_ors) | false ↦ suc (k - first_ands) ]
    ]

-- the operands of `\/` and of `/\`
unfoldable pub disjuncts : RawData → List Conjunction
disjuncts (RawData.only c) = c ∷ []
disjuncts (RawData.or c d) = c ∷ disjuncts d

unfoldable pub conjuncts : Conjunction → List Comparison
conjuncts (Conjunction.single c) = c ∷ []
conjuncts (Conjunction.and c d) = c ∷ conjuncts d

-- r is the place behind the term at `at`
abbrev pub Skips : List ℕ → ℕ → ℕ → Type 0
Skips raw at r = (s : List ℕ) (t : Term) (rest : List Symbol) → drop at (symbols s raw) ≡ enc_term t ++ rest → drop r (symbols s raw) ≡ rest
