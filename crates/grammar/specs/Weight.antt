-- How deep the readers need to call each other for a tree, at the most: four times the number of its tokens.
use Rattle.std.specs.Prelude.{ℕ, suc, ◌+◌, ◌*◌, ◌≤◌, length}
use Rattle.std.proofs.Math.Option.{Option, none, some}
use Rattle.pcrl.specs.Tree.{RawData, Conjunction, Comparison, Negation, Atom, RawDatas, Choice, Conditional, Sequence, Part}
use Rattle.pcrl.specs.Print.{print_choice}

unfoldable mutual
  pub weight_data : RawData → ℕ
  weight_data (RawData.only c) = suc (weight_conjunction c)
  weight_data (RawData.or c d) = suc (weight_conjunction c + weight_data d)

  pub weight_conjunction : Conjunction → ℕ
  weight_conjunction (Conjunction.single c) = suc (weight_comparison c)
  weight_conjunction (Conjunction.and c d) = suc (weight_comparison c + weight_conjunction d)

  pub weight_comparison : Comparison → ℕ
  weight_comparison (Comparison.plain a) = suc (weight_negation a)
  weight_comparison (Comparison.equal a b) = suc (weight_negation a + weight_negation b)

  pub weight_negation : Negation → ℕ
  weight_negation (Negation.atom a) = suc (weight_atom a)
  weight_negation (Negation.not a) = suc (weight_negation a)

  pub weight_atom : Atom → ℕ
  weight_atom (Atom.value v) = 0
  weight_atom (Atom.variable x) = 0
  weight_atom (Atom.apply x ds) = suc (weight_datas ds)
  weight_atom (Atom.group d) = suc (weight_data d)

  pub weight_datas : RawDatas → ℕ
  weight_datas (RawDatas.one d) = suc (weight_data d)
  weight_datas (RawDatas.more d ds) = suc (weight_data d + weight_datas ds)

unfoldable pub weight_given : Option RawDatas → ℕ
weight_given none = 0
weight_given (some ds) = suc (weight_datas ds)

unfoldable mutual
  pub weight_choice : Choice → ℕ
  weight_choice (Choice.only c) = suc (weight_conditional c)
  weight_choice (Choice.plus c d) = suc (weight_conditional c + weight_choice d)

  pub weight_conditional : Conditional → ℕ
  weight_conditional (Conditional.plain p) = suc (weight_sequence p)
  weight_conditional (Conditional.cond p c q) = suc (weight_sequence p + (weight_data c + weight_sequence q))

  pub weight_sequence : Sequence → ℕ
  weight_sequence (Sequence.last p) = suc (weight_part p)
  weight_sequence (Sequence.then p q) = suc (weight_part p + weight_sequence q)

  pub weight_part : Part → ℕ
  weight_part Part.delta = 0
  weight_part Part.tau = 0
  weight_part (Part.named x ds) = weight_given ds
  weight_part (Part.sum v D p) = suc (weight_choice p)
  weight_part (Part.group p) = suc (weight_choice p)

-- four times the tokens of a choice are more than its weight
abbrev pub WithinTokens : Choice → Type 0
WithinTokens c = weight_choice c + 1 ≤ 4 * length (print_choice c)
