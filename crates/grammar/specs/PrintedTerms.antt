-- What is printed for data and for processes is read back, at any bound n above their weight, whatever follows that does not go on with them.
use Rattle.std.specs.Prelude.{◌≡◌, refl, List, [], ◌∷◌, ◌++◌, ℕ, zero, suc, ◌<◌, ◌≤◌, T}
use Rattle.std.proofs.Common.{append_assoc, arith}
use Rattle.std.proofs.Math.Option.{Option, none, some}
use Rattle.std.proofs.Math.Decide.{ℕ_discrete}
use Rattle.pcrl.specs.Tests.{same?}
use Rattle.pcrl.specs.Tokens.{Token, the, is?}
use Rattle.pcrl.specs.Reader.{found, bind}
use Rattle.pcrl.specs.Tree.{RawData, Conjunction, Comparison, Negation, Atom, RawDatas, Choice, Conditional, Sequence, Part}
use Rattle.pcrl.specs.Grammar.{on, expect, on_numeral, a_name, data_term, conjunction, comparison, negation, atom, data_list, data_given, choice, conditional, sequence, part}
use Rattle.pcrl.specs.Print.{bracketed, print_data, print_conjunction, print_comparison, print_negation, print_atom, print_datas, print_given, print_choice, print_conditional, print_sequence, print_part}
use Rattle.grammar.specs.Ahead.{absent, on_absent}
use Rattle.grammar.specs.Weight.{weight_data, weight_conjunction, weight_comparison, weight_negation, weight_atom, weight_datas, weight_given, weight_choice, weight_conditional, weight_sequence, weight_part}

-- What does not go on with an atom or its negation, with a comparison, with a conjunction, with data.
abbrev pub EndsAtom : List Token → Type 0
EndsAtom r = T (absent "(" r)

abbrev pub EndsComparison : List Token → Type 0
EndsComparison r = T (absent "==" r) × EndsAtom r

abbrev pub EndsConjunction : List Token → Type 0
EndsConjunction r = T (absent "/\\" r) × EndsComparison r

abbrev pub EndsData : List Token → Type 0
EndsData r = T (absent "\\/" r) × EndsConjunction r

-- an atom does not begin with `!`
pub no_bang : (a : Atom) (r : List Token) → T (absent "!" (print_atom a ++ r))
unfolding print_data bracketed absent is? same? ℕ_discrete
no_bang (Atom.value v) r = tt
no_bang (Atom.variable x) r = tt
no_bang (Atom.apply x ds) r = tt
no_bang (Atom.group d) r = tt

mutual
  unfolding data_term print_data bracketed weight_data bind on expect on_numeral a_name absent is? same? ℕ_discrete

  pub data_read : (n : ℕ) (d : RawData) (r : List Token) → weight_data d < n → EndsData r → data_term n (print_data d ++ r) ≡ found d r
  data_read zero d r h k = absurd (omega arith)
  data_read (suc n) (RawData.only c) r h k = rw (conjunction_read n c r (omega arith) k.1, on_absent, k.0)
  data_read (suc n) (RawData.or c d) r h k =
      rw (append_assoc (print_conjunction c) (the "\\/" ∷ print_data d) r, conjunction_read n c (the "\\/" ∷ (print_data d ++ r)) (omega arith) (tt, (tt, tt)), data_read n d r (omega arith) k)

  pub conjunction_read : (n : ℕ) (c : Conjunction) (r : List Token) → weight_conjunction c < n → EndsConjunction r → conjunction n (print_conjunction c ++ r) ≡ found c r
  conjunction_read zero c r h k = absurd (omega arith)
  conjunction_read (suc n) (Conjunction.single c) r h k = rw (comparison_read n c r (omega arith) k.1, on_absent, k.0)
  conjunction_read (suc n) (Conjunction.and c d) r h k =
      rw (append_assoc (print_comparison c) (the "/\\" ∷ print_conjunction d) r, comparison_read n c (the "/\\" ∷ (print_conjunction d ++ r)) (omega arith) (tt, tt), conjunction_read n d r (omega arith) k)

  pub comparison_read : (n : ℕ) (c : Comparison) (r : List Token) → weight_comparison c < n → EndsComparison r → comparison n (print_comparison c ++ r) ≡ found c r
  comparison_read zero c r h k = absurd (omega arith)
  comparison_read (suc n) (Comparison.plain a) r h k = rw (negation_read n a r (omega arith) k.1, on_absent, k.0)
  comparison_read (suc n) (Comparison.equal a b) r h k =
      rw (append_assoc (print_negation a) (the "==" ∷ print_negation b) r, negation_read n a (the "==" ∷ (print_negation b ++ r)) (omega arith) tt, negation_read n b r (omega arith) k.1)

  pub negation_read : (n : ℕ) (a : Negation) (r : List Token) → weight_negation a < n → EndsAtom r → negation n (print_negation a ++ r) ≡ found a r
  negation_read zero a r h k = absurd (omega arith)
  negation_read (suc n) (Negation.atom a) r h k = rw (on_absent, no_bang a r, atom_read n a r (omega arith) k)
  negation_read (suc n) (Negation.not a) r h k = rw (negation_read n a r (omega arith) k)

  pub atom_read : (n : ℕ) (a : Atom) (r : List Token) → weight_atom a < n → EndsAtom r → atom n (print_atom a ++ r) ≡ found a r
  atom_read zero a r h k = absurd (omega arith)
  atom_read (suc n) (Atom.value v) r h k = refl
  atom_read (suc n) (Atom.variable x) r h k = rw (on_absent "(" _ _ r)
  atom_read (suc n) (Atom.apply x ds) r h k = rw (append_assoc (print_datas ds) (the ")" ∷ []) r, datas_read n ds r (omega arith))
  atom_read (suc n) (Atom.group d) r h k = rw (append_assoc (print_data d) (the ")" ∷ []) r, data_read n d (the ")" ∷ r) (omega arith) (tt, (tt, (tt, tt))))

  pub datas_read : (n : ℕ) (ds : RawDatas) (r : List Token) → weight_datas ds < n → data_list n (print_datas ds ++ (the ")" ∷ r)) ≡ found ds r
  datas_read zero ds r h = absurd (omega arith)
  datas_read (suc n) (RawDatas.one d) r h = rw (data_read n d (the ")" ∷ r) (omega arith) (tt, (tt, (tt, tt))))
  datas_read (suc n) (RawDatas.more d ds) r h =
      rw (append_assoc (print_data d) (the "," ∷ print_datas ds) (the ")" ∷ r), data_read n d (the "," ∷ (print_datas ds ++ (the ")" ∷ r))) (omega arith) (tt, (tt, (tt, tt))), datas_read n ds r (omega arith))

-- What does not go on with a part, with a sequence, with a conditional, with a choice.
abbrev pub EndsPart : List Token → Type 0
EndsPart r = EndsAtom r

abbrev pub EndsSequence : List Token → Type 0
EndsSequence r = T (absent "." r) × EndsPart r

abbrev pub EndsConditional : List Token → Type 0
EndsConditional r = T (absent "<|" r) × EndsSequence r

abbrev pub EndsChoice : List Token → Type 0
EndsChoice r = T (absent "+" r) × EndsConditional r

pub given_read : (n : ℕ) (ds : Option RawDatas) (r : List Token) → weight_given ds ≤ n → EndsPart r → data_given n (print_given ds ++ r) ≡ found ds r
unfolding data_given print_given bracketed weight_given bind on is? same? ℕ_discrete
given_read n none r h k = rw on_absent
given_read n (some ds) r h k = rw (append_assoc (print_datas ds) (the ")" ∷ []) r, datas_read n ds r (omega arith))

mutual
  unfolding choice print_choice weight_choice bracketed bind on expect a_name absent is? same? ℕ_discrete

  pub choice_read : (n : ℕ) (c : Choice) (r : List Token) → weight_choice c < n → EndsChoice r → choice n (print_choice c ++ r) ≡ found c r
  choice_read zero c r h k = absurd (omega arith)
  choice_read (suc n) (Choice.only c) r h k = rw (conditional_read n c r (omega arith) k.1, on_absent, k.0)
  choice_read (suc n) (Choice.plus c d) r h k =
      rw (append_assoc (print_conditional c) (the "+" ∷ print_choice d) r, conditional_read n c (the "+" ∷ (print_choice d ++ r)) (omega arith) (tt, (tt, tt)), choice_read n d r (omega arith) k)

  pub conditional_read : (n : ℕ) (c : Conditional) (r : List Token) → weight_conditional c < n → EndsConditional r → conditional n (print_conditional c ++ r) ≡ found c r
  conditional_read zero c r h k = absurd (omega arith)
  conditional_read (suc n) (Conditional.plain p) r h k = rw (sequence_read n p r (omega arith) k.1, on_absent, k.0)
  conditional_read (suc n) (Conditional.cond p c q) r h k =
      rw (
        append_assoc (print_sequence p) (the "<|" ∷ (print_data c ++ (the "|>" ∷ print_sequence q))) r,
        append_assoc (print_data c) (the "|>" ∷ print_sequence q) r,
        sequence_read n p (the "<|" ∷ (print_data c ++ (the "|>" ∷ (print_sequence q ++ r)))) (omega arith) (tt, tt),
        data_read n c (the "|>" ∷ (print_sequence q ++ r)) (omega arith) (tt, (tt, (tt, tt))),
        sequence_read n q r (omega arith) k.1,
      )

  pub sequence_read : (n : ℕ) (p : Sequence) (r : List Token) → weight_sequence p < n → EndsSequence r → sequence n (print_sequence p ++ r) ≡ found p r
  sequence_read zero p r h k = absurd (omega arith)
  sequence_read (suc n) (Sequence.last p) r h k = rw (part_read n p r (omega arith) k.1, on_absent, k.0)
  sequence_read (suc n) (Sequence.then p q) r h k =
      rw (append_assoc (print_part p) (the "." ∷ print_sequence q) r, part_read n p (the "." ∷ (print_sequence q ++ r)) (omega arith) tt, sequence_read n q r (omega arith) k)

  pub part_read : (n : ℕ) (p : Part) (r : List Token) → weight_part p < n → EndsPart r → part n (print_part p ++ r) ≡ found p r
  part_read zero p r h k = absurd (omega arith)
  part_read (suc n) Part.delta r h k = refl
  part_read (suc n) Part.tau r h k = refl
  part_read (suc n) (Part.named x ds) r h k = rw (given_read n ds r (omega arith) k)
  part_read (suc n) (Part.sum v D p) r h k = rw (append_assoc (print_choice p) (the ")" ∷ []) r, choice_read n p (the ")" ∷ r) (omega arith) (tt, (tt, (tt, tt))))
  part_read (suc n) (Part.group p) r h k = rw (append_assoc (print_choice p) (the ")" ∷ []) r, choice_read n p (the ")" ∷ r) (omega arith) (tt, (tt, (tt, tt))))
