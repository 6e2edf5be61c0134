-- What every form of data hands on to the forms around it, data has at each place where the printer shows it, in brackets or not.
use Rattle.std.specs.Prelude.{List, [], ◌∷◌, ℕ, zero, suc, get_or}
use Rattle.pcrl.specs.Tests.{Each}
use Rattle.pcrl.specs.Sheet.{Data, val}
use Rattle.pcrl.specs.Tree.{RawData, Conjunction, Comparison, Negation, Atom}
use Rattle.pcrl.specs.Printer.{Shown, data_shown, conjunction_shown, comparison_shown, negation_shown, atom_shown, as_data, as_conjunction, as_comparison, as_negation, operand}

-- a property of each form
pub record Property : Type 1 where
  pub data_has : RawData → Type 0
  pub conjunction_has : Conjunction → Type 0
  pub comparison_has : Comparison → Type 0
  pub negation_has : Negation → Type 0
  pub atom_has : Atom → Type 0

-- it is handed on
pub record HandsOn (P : Property) : Type 0 where
  pub to_data : (c : Conjunction) → P.conjunction_has c → P.data_has (RawData.only c)
  pub to_conjunction : (c : Comparison) → P.comparison_has c → P.conjunction_has (Conjunction.single c)
  pub to_comparison : (a : Negation) → P.negation_has a → P.comparison_has (Comparison.plain a)
  pub to_negation : (a : Atom) → P.atom_has a → P.negation_has (Negation.atom a)
  pub to_brackets : (d : RawData) → P.data_has d → P.atom_has (Atom.group d)

-- data as it is shown has it
unfoldable pub Has : Property → Shown → Type 0
Has P (data_shown d) = P.data_has d
Has P (conjunction_shown c) = P.conjunction_has c
Has P (comparison_shown c) = P.comparison_has c
Has P (negation_shown a) = P.negation_has a
Has P (atom_shown a) = P.atom_has a

-- and then at each place
pub record Everywhere (P : Property) (s : Shown) : Type 0 where
  pub anywhere : P.data_has (as_data s)
  pub in_conjunction : P.conjunction_has (as_conjunction s)
  pub in_comparison : P.comparison_has (as_comparison s)
  pub in_negation : P.negation_has (as_negation s)

module _ (P : Property) (on : HandsOn P) where
  negated_has : (a : Negation) → P.negation_has a → P.data_has (RawData.only (Conjunction.single (Comparison.plain a)))
  negated_has a h = on.to_data _ (on.to_conjunction _ (on.to_comparison a h))

  atom_everywhere : (a : Atom) → P.atom_has a → Everywhere P (atom_shown a)
  unfolding as_data as_conjunction as_comparison as_negation
  atom_everywhere a h =
      let n = on.to_negation a h in
      let c = on.to_comparison _ n in
      record { anywhere = negated_has _ n; in_conjunction = on.to_conjunction _ c; in_comparison = c; in_negation = n }

  pub everywhere : (s : Shown) → Has P s → Everywhere P s
  unfolding Has as_data as_conjunction as_comparison as_negation
  everywhere (data_shown d) h =
      let b = atom_everywhere (Atom.group d) (on.to_brackets d h) in
      record { anywhere = h; in_conjunction = b.in_conjunction; in_comparison = b.in_comparison; in_negation = b.in_negation }
  everywhere (conjunction_shown c) h =
      let d = on.to_data c h in
      let b = atom_everywhere (Atom.group _) (on.to_brackets _ d) in
      record { anywhere = d; in_conjunction = h; in_comparison = b.in_comparison; in_negation = b.in_negation }
  everywhere (comparison_shown c) h =
      let k = on.to_conjunction c h in
      let d = on.to_data _ k in
      let b = atom_everywhere (Atom.group _) (on.to_brackets _ d) in
      record { anywhere = d; in_conjunction = k; in_comparison = h; in_negation = b.in_negation }
  everywhere (negation_shown a) h = let c = on.to_comparison a h in record { anywhere = negated_has a h; in_conjunction = on.to_conjunction _ c; in_comparison = c; in_negation = h }
  everywhere (atom_shown a) h = atom_everywhere a h

-- what holds of each datum and how it is shown holds of an operand, by its number
pub operand_has : (R : Shown → Data → Type 0) → R (atom_shown (Atom.value 0)) (val 0) → (i : ℕ) (ss : List Shown) (ds : List Data) → Each R ss ds → R (operand i ss) (get_or ds i (val 0))
unfolding Each operand
operand_has R r i [] [] h = r
operand_has R r i [] (d ∷ ds) h = absurd h
operand_has R r i (s ∷ ss) [] h = absurd h
operand_has R r zero (s ∷ ss) (d ∷ ds) h = h.0
operand_has R r (suc i) (s ∷ ss) (d ∷ ds) h = operand_has R r i ss ds h.1
