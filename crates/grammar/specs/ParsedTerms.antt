-- What the readers of data and of processes take is printed back as the same tokens, at any bound n on how deep they call each other.
-- Each proof follows its reader line by line.
use Rattle.std.specs.Prelude.{◌≡◌, refl, List, [], ◌∷◌, ◌++◌, ℕ, zero, suc}
use Rattle.std.proofs.Common.{append_assoc}
use Prim.Native.String.{String}
use Rattle.pcrl.specs.Tokens.{Token, the}
use Rattle.pcrl.specs.Reader.{◌>>=◌, return}
use Rattle.pcrl.specs.Tree.{RawData, Conjunction, Comparison, Choice, Sequence}
use Rattle.pcrl.specs.Grammar.{Reads, on, fail, data_term, conjunction, comparison, negation, atom, data_list, data_given, choice, conditional, sequence, part}
use Rattle.pcrl.specs.Print.{bracketed, print_data, print_conjunction, print_comparison, print_negation, print_atom, print_datas, print_given, print_choice, print_conditional, print_sequence, print_part}
use Rattle.grammar.specs.Outcome.{Found, nothing, just, found_bind, found_on, found_expect, found_name, found_on_numeral}

-- the tokens are what is printed for the value, and what is left
abbrev pub Prints : {A : Type 0} → (A → List Token) → List Token → A → List Token → Type 0
Prints w ts a r = ts ≡ w a ++ r

-- one thing, or one and behind a sign another
pub joins_printed : {A B C : Type 0} (s : String) (one : A → C) (two : A → B → C) (u : A → List Token) (v : B → List Token) (w : C → List Token) {first : Reads A} {second : Reads B} → ((a : A) → w (one a) ≡ u a) → ((a : A) (b : B) → w (two a b) ≡ u a ++ (the s ∷ v b))
    → ((us : List Token) → Found (Prints u us) (first us)) → ((us : List Token) → Found (Prints v us) (second us)) → (ts : List Token)
    → Found (Prints w ts)
    ((do
      a ← first
      on s
          (do
            b ← second
            return (two a b))
          (return (one a)))
    ts)
joins_printed s one two u v w e f h k ts =
    found_bind (h ts) λ a r g.
    found_on s (λ us i. found_bind (k us) λ b q j. just (cc (f a b, append_assoc (u a) (the s ∷ v b) q)))
    (λ us i. just (cc (e a)))

mutual
  unfolding data_term print_data bracketed fail

  pub data_printed : (n : ℕ) (ts : List Token) → Found (Prints print_data ts) (data_term n ts)
  data_printed zero ts = nothing
  data_printed (suc n) ts = joins_printed "\\/" RawData.only RawData.or print_conjunction print_data print_data (λ a. refl) (λ a b. refl) (λ us. conjunction_printed n us) (λ us. data_printed n us) ts

  pub conjunction_printed : (n : ℕ) (ts : List Token) → Found (Prints print_conjunction ts) (conjunction n ts)
  conjunction_printed zero ts = nothing
  conjunction_printed (suc n) ts = joins_printed "/\\" Conjunction.single Conjunction.and print_comparison print_conjunction print_conjunction (λ a. refl) (λ a b. refl) (λ us. comparison_printed n us) (λ us. conjunction_printed n us) ts

  pub comparison_printed : (n : ℕ) (ts : List Token) → Found (Prints print_comparison ts) (comparison n ts)
  comparison_printed zero ts = nothing
  comparison_printed (suc n) ts = joins_printed "==" Comparison.plain Comparison.equal print_negation print_negation print_comparison (λ a. refl) (λ a b. refl) (λ us. negation_printed n us) (λ us. negation_printed n us) ts

  pub negation_printed : (n : ℕ) (ts : List Token) → Found (Prints print_negation ts) (negation n ts)
  negation_printed zero ts = nothing
  negation_printed (suc n) ts =
      found_on "!" (λ us e. found_bind (negation_printed n us) λ a r f. just (cc))
      (λ us e. found_bind (atom_printed n us) λ a r f. just (cc))

  pub atom_printed : (n : ℕ) (ts : List Token) → Found (Prints print_atom ts) (atom n ts)
  atom_printed zero ts = nothing
  atom_printed (suc n) ts =
      found_on_numeral (λ v us e. just e)
      (λ us e. found_on "("
      (λ vs f. found_bind (data_printed n vs) λ d r g. found_bind (found_expect ")" r) λ u q h. just (cc (append_assoc (print_data d) (the ")" ∷ []) q)))
      (λ vs f. found_bind (found_name vs) λ x r g.
      found_on "(" (λ ws h. found_bind (datas_printed n ws) λ ds q k. just (cc (append_assoc (print_datas ds) (the ")" ∷ []) q)))
      (λ ws h. just (cc))))

  pub datas_printed : (n : ℕ) (ts : List Token) → Found (λ ds r. ts ≡ print_datas ds ++ (the ")" ∷ r)) (data_list n ts)
  datas_printed zero ts = nothing
  datas_printed (suc n) ts =
      found_bind (data_printed n ts) λ d r e.
      found_on "," (λ us f. found_bind (datas_printed n us) λ ds q h. just (cc (append_assoc (print_data d) (the "," ∷ print_datas ds) (the ")" ∷ q))))
      (λ us f. found_bind (found_expect ")" us) λ u q g. just (cc))

pub given_printed : (n : ℕ) (ts : List Token) → Found (Prints print_given ts) (data_given n ts)
unfolding data_given print_given bracketed
given_printed n ts =
    found_on "(" (λ us e. found_bind (datas_printed n us) λ ds r f. just (cc (append_assoc (print_datas ds) (the ")" ∷ []) r)))
    (λ us e. just e)

mutual
  unfolding choice print_choice bracketed fail

  pub choice_printed : (n : ℕ) (ts : List Token) → Found (Prints print_choice ts) (choice n ts)
  choice_printed zero ts = nothing
  choice_printed (suc n) ts = joins_printed "+" Choice.only Choice.plus print_conditional print_choice print_choice (λ a. refl) (λ a b. refl) (λ us. conditional_printed n us) (λ us. choice_printed n us) ts

  pub conditional_printed : (n : ℕ) (ts : List Token) → Found (Prints print_conditional ts) (conditional n ts)
  conditional_printed zero ts = nothing
  conditional_printed (suc n) ts =
      found_bind (sequence_printed n ts) λ p r e.
      found_on "<|"
      (λ us f. found_bind (data_printed n us) λ c vs g. found_bind (found_expect "|>" vs) λ u ws h. found_bind (sequence_printed n ws) λ q zs k.
      just (cc (append_assoc (print_sequence p) (the "<|" ∷ (print_data c ++ (the "|>" ∷ print_sequence q))) zs, append_assoc (print_data c) (the "|>" ∷ print_sequence q) zs)))
      (λ us f. just (cc))

  pub sequence_printed : (n : ℕ) (ts : List Token) → Found (Prints print_sequence ts) (sequence n ts)
  sequence_printed zero ts = nothing
  sequence_printed (suc n) ts = joins_printed "." Sequence.last Sequence.then print_part print_sequence print_sequence (λ a. refl) (λ a b. refl) (λ us. part_printed n us) (λ us. sequence_printed n us) ts

  pub part_printed : (n : ℕ) (ts : List Token) → Found (Prints print_part ts) (part n ts)
  part_printed zero ts = nothing
  part_printed (suc n) ts =
      found_on "delta" (λ us e. just e)
      (λ us e. found_on "tau" (λ vs f. just (cc))
      (λ vs f. found_on "sum"
      (λ a e1. found_bind (found_expect "(" a) λ u1 b e2. found_bind (found_name b) λ v c e3. found_bind (found_expect ":" c) λ u2 d e4.
      found_bind (found_name d) λ D g e5. found_bind (found_expect "," g) λ u3 h e6. found_bind (choice_printed n h) λ p i e7. found_bind (found_expect ")" i) λ u4 j e8.
      just (cc (append_assoc (print_choice p) (the ")" ∷ []) j)))
      (λ ws g. found_on "("
      (λ a e1. found_bind (choice_printed n a) λ p b e2. found_bind (found_expect ")" b) λ u c e3. just (cc (append_assoc (print_choice p) (the ")" ∷ []) c)))
      (λ zs h. found_bind (found_name zs) λ x r k. found_bind (given_printed n r) λ ds q l. just (cc)))))
