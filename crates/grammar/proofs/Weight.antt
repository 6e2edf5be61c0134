-- The weights are bounded by the number of tokens.
use Rattle.std.specs.Prelude.{[], ◌∷◌, ◌++◌, ◌+◌, ◌*◌, ◌≤◌, length}
use Rattle.std.proofs.Math.Option.{Option, none, some}
use Rattle.std.proofs.Common.{arith, length-append}
use Rattle.pcrl.specs.Tokens.{the}
use Rattle.pcrl.specs.Tree.{RawData, Conjunction, Comparison, Negation, Atom, RawDatas, Choice, Conditional, Sequence, Part}
use Rattle.pcrl.specs.Print.{bracketed, print_data, print_conjunction, print_comparison, print_negation, print_atom, print_datas, print_given, print_choice, print_conditional, print_sequence, print_part}
use Rattle.grammar.specs.Weight.{weight_data, weight_conjunction, weight_comparison, weight_negation, weight_atom, weight_datas, weight_given, weight_choice, weight_conditional, weight_sequence, weight_part, WithinTokens}

mutual
  unfolding weight_data print_data bracketed

  pub weight_data_bound : (d : RawData) → weight_data d ≤ 4 * length (print_data d)
  weight_data_bound (RawData.only c) = omega (arith, weight_conjunction_bound c)
  weight_data_bound (RawData.or c d) = omega (arith, weight_conjunction_bound c, weight_data_bound d, length-append (print_conjunction c) (the "\\/" ∷ print_data d))

  pub weight_conjunction_bound : (c : Conjunction) → weight_conjunction c + 1 ≤ 4 * length (print_conjunction c)
  weight_conjunction_bound (Conjunction.single c) = omega (arith, weight_comparison_bound c)
  weight_conjunction_bound (Conjunction.and c d) = omega (arith, weight_comparison_bound c, weight_conjunction_bound d, length-append (print_comparison c) (the "/\\" ∷ print_conjunction d))

  pub weight_comparison_bound : (c : Comparison) → weight_comparison c + 2 ≤ 4 * length (print_comparison c)
  weight_comparison_bound (Comparison.plain a) = omega (arith, weight_negation_bound a)
  weight_comparison_bound (Comparison.equal a b) = omega (arith, weight_negation_bound a, weight_negation_bound b, length-append (print_negation a) (the "==" ∷ print_negation b))

  pub weight_negation_bound : (a : Negation) → weight_negation a + 3 ≤ 4 * length (print_negation a)
  weight_negation_bound (Negation.atom a) = omega (arith, weight_atom_bound a)
  weight_negation_bound (Negation.not a) = omega (arith, weight_negation_bound a)

  pub weight_atom_bound : (a : Atom) → weight_atom a + 4 ≤ 4 * length (print_atom a)
  weight_atom_bound (Atom.value v) = omega arith
  weight_atom_bound (Atom.variable x) = omega arith
  weight_atom_bound (Atom.apply x ds) = omega (arith, weight_datas_bound ds, length-append (print_datas ds) (the ")" ∷ []))
  weight_atom_bound (Atom.group d) = omega (arith, weight_data_bound d, length-append (print_data d) (the ")" ∷ []))

  pub weight_datas_bound : (ds : RawDatas) → weight_datas ds ≤ 4 * length (print_datas ds) + 1
  weight_datas_bound (RawDatas.one d) = omega (arith, weight_data_bound d)
  weight_datas_bound (RawDatas.more d ds) = omega (arith, weight_data_bound d, weight_datas_bound ds, length-append (print_data d) (the "," ∷ print_datas ds))

pub weight_given_bound : (ds : Option RawDatas) → weight_given ds ≤ 4 * length (print_given ds)
unfolding weight_given print_given bracketed
weight_given_bound none = omega arith
weight_given_bound (some ds) = omega (arith, weight_datas_bound ds, length-append (print_datas ds) (the ")" ∷ []))

mutual
  unfolding weight_choice print_choice bracketed

  pub weight_choice_bound : (c : Choice) → WithinTokens c
  weight_choice_bound (Choice.only c) = omega (arith, weight_conditional_bound c)
  weight_choice_bound (Choice.plus c d) = omega (arith, weight_conditional_bound c, weight_choice_bound d, length-append (print_conditional c) (the "+" ∷ print_choice d))

  pub weight_conditional_bound : (c : Conditional) → weight_conditional c + 2 ≤ 4 * length (print_conditional c)
  weight_conditional_bound (Conditional.plain p) = omega (arith, weight_sequence_bound p)
  weight_conditional_bound (Conditional.cond p c q) =
      omega (arith, weight_sequence_bound p, weight_data_bound c, weight_sequence_bound q, length-append (print_sequence p) (the "<|" ∷ (print_data c ++ (the "|>" ∷ print_sequence q))), length-append (print_data c) (the "|>" ∷ print_sequence q))

  pub weight_sequence_bound : (p : Sequence) → weight_sequence p + 3 ≤ 4 * length (print_sequence p)
  weight_sequence_bound (Sequence.last p) = omega (arith, weight_part_bound p)
  weight_sequence_bound (Sequence.then p q) = omega (arith, weight_part_bound p, weight_sequence_bound q, length-append (print_part p) (the "." ∷ print_sequence q))

  pub weight_part_bound : (p : Part) → weight_part p + 4 ≤ 4 * length (print_part p)
  weight_part_bound Part.delta = omega arith
  weight_part_bound Part.tau = omega arith
  weight_part_bound (Part.named x ds) = omega (arith, weight_given_bound ds)
  weight_part_bound (Part.sum v D p) = omega (arith, weight_choice_bound p, length-append (print_choice p) (the ")" ∷ []))
  weight_part_bound (Part.group p) = omega (arith, weight_choice_bound p, length-append (print_choice p) (the ")" ∷ []))
