-- How much room a resolved term takes: at most three cells for each token of the sheet, and in data at most two.
use mathlib.Core.Path.{◌≡◌, ap, subst}
use mathlib.Core.Bool.{Bool, true, false}
use mathlib.Core.List.{List, [], ◌∷◌, ◌++◌}
use mathlib.Core.Option.{Option, none, some, some-injective}
use Prim.Native.Nat.{ℕ, suc, ◌+◌, ◌*◌, ◌≤◌}
use native.Mathlib.Omega.{arith}
use lib.ListN.{length, length-append}
use Rattle.pcrl.specs.Tokens.{the}
use Rattle.pcrl.specs.Tree.{Name, RawData, Conjunction, Comparison, Negation, Atom, RawDatas, Choice, Conditional, Sequence, Part, ProcLine, InitLine}
use Rattle.pcrl.specs.Sheet.{Data, Datas, list_of, Act, Proc, Sig, not_number, and_number, or_number}
use Rattle.pcrl.specs.Names.{Names, number_of, new_variable, sort_of, equal_at, resolve_data, resolve_ors, resolve_conjunction, resolve_ands, resolve_comparison, resolve_negation, resolve_atom, resolve_datas, resolve_given, named, resolve_choice, resolve_conditional, resolve_sequence, resolve_part, resolve_init}
use Rattle.pcrl.specs.Print.{bracketed, line, print_data, print_conjunction, print_comparison, print_negation, print_atom, print_datas, print_given, print_choice, print_conditional, print_sequence, print_part, print_params, print_proc, print_init}
use Rattle.nodes.specs.Layout.{enc_data, enc_arguments, enc_datas, enc}
use Rattle.resolver.specs.Room.{arguments_are}
use Rattle.laws.specs.Optional.{first_given, test_passed}

module _ (N : Names) (S : Sig) where
  -- two operands behind their function
  pair_size : (f : ℕ) (x y : Data) → length (enc_data (Data.app f (Datas.cons x (Datas.cons y Datas.nil)))) ≡ 2 + (length (enc_data x) + length (enc_data y))
  unfolding enc_data
  pair_size f x y = omega (arith, length-append (enc_data x) (enc_data y ++ []), length-append (enc_data y) [])

  single_size : (f : ℕ) (x : Data) → length (enc_data (Data.app f (Datas.cons x Datas.nil))) ≡ 2 + length (enc_data x)
  unfolding enc_data
  single_size f x = omega (arith, length-append (enc_data x) [])

  mutual
    unfolding resolve_data print_data enc_data bracketed

    data_room : (scope : List Name) (Γ : List ℕ) (d : RawData) (e : Data) → resolve_data N S scope Γ d ≡ some e → length (enc_data e) ≤ 2 * length (print_data d)
    data_room scope Γ (RawData.only c) e q = conjunction_room scope Γ c e q
    data_room scope Γ (RawData.or c d) e q =
        first_given (resolve_conjunction N S scope Γ c) _ e q
        (λ x p r. let h = conjunction_room scope Γ c x p in let k = ors_room scope Γ x d e r in omega (arith, length-append (print_conjunction c) (the "\\/" ∷ print_data d)))

    ors_room : (scope : List Name) (Γ : List ℕ) (x : Data) (d : RawData) (e : Data) → resolve_ors N S scope Γ x d ≡ some e → length (enc_data e) ≤ length (enc_data x) + 2 + 2 * length (print_data d)
    ors_room scope Γ x (RawData.only c) e q =
        first_given (resolve_conjunction N S scope Γ c) _ e q
        (λ y p r.
        let z : Data.app or_number (Datas.cons x (Datas.cons y Datas.nil)) ≡ e = cc in
        let h = conjunction_room scope Γ c y p in
        let k = pair_size or_number x y in
        subst (λ (u : Data). length (enc_data u) ≤ length (enc_data x) + 2 + 2 * length (print_conjunction c)) z (omega arith))
    ors_room scope Γ x (RawData.or c d) e q =
        first_given (resolve_conjunction N S scope Γ c) _ e q
        (λ y p r.
        let h = conjunction_room scope Γ c y p in
        let k = pair_size or_number x y in
        let l = ors_room scope Γ _ d e r in
        omega (arith, length-append (print_conjunction c) (the "\\/" ∷ print_data d)))

    conjunction_room : (scope : List Name) (Γ : List ℕ) (c : Conjunction) (e : Data) → resolve_conjunction N S scope Γ c ≡ some e → length (enc_data e) ≤ 2 * length (print_conjunction c)
    conjunction_room scope Γ (Conjunction.single c) e q = comparison_room scope Γ c e q
    conjunction_room scope Γ (Conjunction.and c d) e q =
        first_given (resolve_comparison N S scope Γ c) _ e q
        (λ x p r. let h = comparison_room scope Γ c x p in let k = ands_room scope Γ x d e r in omega (arith, length-append (print_comparison c) (the "/\\" ∷ print_conjunction d)))

    ands_room : (scope : List Name) (Γ : List ℕ) (x : Data) (d : Conjunction) (e : Data) → resolve_ands N S scope Γ x d ≡ some e → length (enc_data e) ≤ length (enc_data x) + 2 + 2 * length (print_conjunction d)
    ands_room scope Γ x (Conjunction.single c) e q =
        first_given (resolve_comparison N S scope Γ c) _ e q
        (λ y p r.
        let z : Data.app and_number (Datas.cons x (Datas.cons y Datas.nil)) ≡ e = cc in
        let h = comparison_room scope Γ c y p in
        let k = pair_size and_number x y in
        subst (λ (u : Data). length (enc_data u) ≤ length (enc_data x) + 2 + 2 * length (print_comparison c)) z (omega arith))
    ands_room scope Γ x (Conjunction.and c d) e q =
        first_given (resolve_comparison N S scope Γ c) _ e q
        (λ y p r.
        let h = comparison_room scope Γ c y p in
        let k = pair_size and_number x y in
        let l = ands_room scope Γ _ d e r in
        omega (arith, length-append (print_comparison c) (the "/\\" ∷ print_conjunction d)))

    comparison_room : (scope : List Name) (Γ : List ℕ) (c : Comparison) (e : Data) → resolve_comparison N S scope Γ c ≡ some e → length (enc_data e) ≤ 2 * length (print_comparison c)
    comparison_room scope Γ (Comparison.plain a) e q = negation_room scope Γ a e q
    comparison_room scope Γ (Comparison.equal a b) e q =
        first_given (resolve_negation N S scope Γ a) _ e q (λ x p r. first_given (resolve_negation N S scope Γ b) _ e r
        (λ y p₁ r₁.
        let f : ℕ = equal_at N S (sort_of N S Γ x) (sort_of N S Γ y) in
        let z : Data.app f (Datas.cons x (Datas.cons y Datas.nil)) ≡ e = cc in
        let h = negation_room scope Γ a x p in
        let k = negation_room scope Γ b y p₁ in
        let l = pair_size f x y in
        subst (λ (u : Data). length (enc_data u) ≤ 2 * length (print_negation a ++ (the "==" ∷ print_negation b))) z (omega (arith, length-append (print_negation a) (the "==" ∷ print_negation b)))))

    negation_room : (scope : List Name) (Γ : List ℕ) (a : Negation) (e : Data) → resolve_negation N S scope Γ a ≡ some e → length (enc_data e) ≤ 2 * length (print_negation a)
    negation_room scope Γ (Negation.atom a) e q = atom_room scope Γ a e q
    negation_room scope Γ (Negation.not a) e q =
        first_given (resolve_negation N S scope Γ a) _ e q
        (λ x p r.
        let z : Data.app not_number (Datas.cons x Datas.nil) ≡ e = cc in
        let h = negation_room scope Γ a x p in
        let k = single_size not_number x in
        subst (λ (u : Data). length (enc_data u) ≤ 2 * suc (length (print_negation a))) z (omega arith))

    atom_room : (scope : List Name) (Γ : List ℕ) (a : Atom) (e : Data) → resolve_atom N S scope Γ a ≡ some e → length (enc_data e) ≤ 2 * length (print_atom a)
    atom_room scope Γ (Atom.value v) e q = let z : Data.val v ≡ e = cc in subst (λ (x : Data). length (enc_data x) ≤ 2) z (omega arith)
    atom_room scope Γ (Atom.variable x) e q =
        first_given (number_of x scope) _ e q (λ i p r. let z : Data.var i ≡ e = cc in subst (λ (x : Data). length (enc_data x) ≤ 2) z (omega arith))
    atom_room scope Γ (Atom.apply x ds) e q =
        first_given (number_of x N.funcs) _ e q (λ f p r. first_given (resolve_datas N S scope Γ ds) _ e r
        (λ es p₁ r₁.
        let z : Data.app f es ≡ e = cc in
        let h = datas_room scope Γ ds es p₁ in
        subst (λ (x : Data). length (enc_data x) ≤ 2 * suc (suc (length (print_datas ds ++ (the ")" ∷ []))))) z (omega (arith, length-append (print_datas ds) (the ")" ∷ [])))))
    atom_room scope Γ (Atom.group d) e q = let h = data_room scope Γ d e q in omega (arith, length-append (print_data d) (the ")" ∷ []))

    datas_room : (scope : List Name) (Γ : List ℕ) (ds : RawDatas) (es : Datas) → resolve_datas N S scope Γ ds ≡ some es → length (enc_arguments es) ≤ 2 * length (print_datas ds)
    datas_room scope Γ (RawDatas.one d) es q =
        first_given (resolve_data N S scope Γ d) _ es q
        (λ e p r. let z : Datas.cons e Datas.nil ≡ es = cc in let h = data_room scope Γ d e p in subst (λ (x : Datas). length (enc_arguments x) ≤ 2 * length (print_data d)) z (omega (arith, length-append (enc_data e) [])))
    datas_room scope Γ (RawDatas.more d ds) es q =
        first_given (resolve_data N S scope Γ d) _ es q (λ e p r. first_given (resolve_datas N S scope Γ ds) _ es r
        (λ fs p₁ r₁.
        let z : Datas.cons e fs ≡ es = cc in
        let h = data_room scope Γ d e p in
        let k = datas_room scope Γ ds fs p₁ in
        subst (λ (x : Datas). length (enc_arguments x) ≤ 2 * length (print_data d ++ (the "," ∷ print_datas ds))) z (omega (arith, length-append (enc_data e) (enc_arguments fs), length-append (print_data d) (the "," ∷ print_datas ds)))))

  -- a name's node and what is given to it
  given_room : (scope : List Name) (Γ : List ℕ) (ds : Option RawDatas) (es : List Data) → resolve_given N S scope Γ ds ≡ some es → length (enc_datas es) ≤ 2 * length (print_given ds)
  unfolding resolve_given print_given enc_datas bracketed
  given_room scope Γ none es q = let z : [] ≡ es = cc in subst (λ (l : List Data). length (enc_datas l) ≤ 0) z (omega arith)
  given_room scope Γ (some ds) es q =
      first_given (resolve_datas N S scope Γ ds) (λ es. some (list_of es)) es q
      (λ fs p r.
      let z : list_of fs ≡ es = cc in
      let h = datas_room scope Γ ds fs p in
      let k = ap length (arguments_are fs) in
      subst (λ (l : List Data). length (enc_datas l) ≤ 2 * suc (length (print_datas ds ++ (the ")" ∷ [])))) z (omega (arith, length-append (print_datas ds) (the ")" ∷ []))))

  named_room : (after : Bool) (a k : Option ℕ) (es : List Data) (p : Proc) (m : ℕ) → 3 + length (enc_datas es) ≤ m → named N S a k es ≡ some p → length (enc after p) ≤ m
  unfolding named enc
  named_room after (some i) k es p m h q = let z : Proc.atom (Act.action i) es ≡ p = cc in subst (λ (x : Proc). length (enc after x) ≤ m) z (omega arith)
  named_room after none (some i) es p m h q = let z : Proc.call i es ≡ p = cc in subst (λ (x : Proc). length (enc after x) ≤ m) z (omega arith)
  named_room after none none es p m h q = let z : ◌≡◌ {A = ℕ} 0 1 = cc in absurd (omega arith)

  mutual
    unfolding resolve_choice print_choice enc enc_data enc_datas bracketed

    choice_room : (after : Bool) (scope : List Name) (Γ : List ℕ) (t : Choice) (p : Proc) → resolve_choice N S scope Γ t ≡ some p → length (enc after p) ≤ 3 * length (print_choice t)
    choice_room after scope Γ (Choice.only c) p q = conditional_room after scope Γ c p q
    choice_room after scope Γ (Choice.plus c t) p q =
        first_given (resolve_conditional N S scope Γ c) _ p q (λ a e₁ r. first_given (resolve_choice N S scope Γ t) (λ b. some (Proc.alt a b)) p r
        (λ b e₂ r₁.
        let z : Proc.alt a b ≡ p = cc in
        let h = conditional_room false scope Γ c a e₁ in
        let k = choice_room false scope Γ t b e₂ in
        subst (λ (x : Proc). length (enc after x) ≤ 3 * length (print_conditional c ++ (the "+" ∷ print_choice t))) z (omega (arith, length-append (enc false a) (enc false b), length-append (print_conditional c) (the "+" ∷ print_choice t)))))

    conditional_room : (after : Bool) (scope : List Name) (Γ : List ℕ) (t : Conditional) (p : Proc) → resolve_conditional N S scope Γ t ≡ some p → length (enc after p) ≤ 3 * length (print_conditional t)
    conditional_room after scope Γ (Conditional.plain t) p q = sequence_room after scope Γ t p q
    conditional_room after scope Γ (Conditional.cond t c u) p q =
        first_given (resolve_sequence N S scope Γ t) _ p q (λ a e₁ r. first_given (resolve_data N S scope Γ c) _ p r (λ b e₂ r₁. first_given (resolve_sequence N S scope Γ u) (λ s. some (Proc.cond b a s)) p r₁
        (λ s e₃ r₂.
        let z : Proc.cond b a s ≡ p = cc in
        let h = sequence_room false scope Γ t a e₁ in
        let k = data_room scope Γ c b e₂ in
        let l = sequence_room false scope Γ u s e₃ in
        subst (λ (x : Proc). length (enc after x) ≤ 3 * length (print_sequence t ++ (the "<|" ∷ (print_data c ++ (the "|>" ∷ print_sequence u))))) z
        (omega (
          arith,
          length-append (enc_data b ++ []) (enc false a ++ enc false s),
          length-append (enc_data b) [],
          length-append (enc false a) (enc false s),
          length-append (print_sequence t) (the "<|" ∷ (print_data c ++ (the "|>" ∷ print_sequence u))),
          length-append (print_data c) (the "|>" ∷ print_sequence u),
        )))))

    sequence_room : (after : Bool) (scope : List Name) (Γ : List ℕ) (t : Sequence) (p : Proc) → resolve_sequence N S scope Γ t ≡ some p → length (enc after p) ≤ 3 * length (print_sequence t)
    sequence_room after scope Γ (Sequence.last t) p q = part_room after scope Γ t p q
    sequence_room after scope Γ (Sequence.then t u) p q =
        first_given (resolve_part N S scope Γ t) _ p q (λ a e₁ r. first_given (resolve_sequence N S scope Γ u) (λ b. some (Proc.seq a b)) p r
        (λ b e₂ r₁.
        let z : Proc.seq a b ≡ p = cc in
        let h = part_room after scope Γ t a e₁ in
        let k = sequence_room true scope Γ u b e₂ in
        subst (λ (x : Proc). length (enc after x) ≤ 3 * length (print_part t ++ (the "." ∷ print_sequence u))) z (omega (arith, length-append (enc after a) (enc true b), length-append (print_part t) (the "." ∷ print_sequence u)))))

    part_room : (after : Bool) (scope : List Name) (Γ : List ℕ) (t : Part) (p : Proc) → resolve_part N S scope Γ t ≡ some p → length (enc after p) ≤ 3 * length (print_part t)
    part_room after scope Γ Part.delta p q = let z : Proc.delta ≡ p = cc in subst (λ (x : Proc). length (enc after x) ≤ 3) z (omega arith)
    part_room after scope Γ Part.tau p q = let z : Proc.atom Act.tau [] ≡ p = cc in subst (λ (x : Proc). length (enc after x) ≤ 3) z (omega arith)
    part_room after scope Γ (Part.named x ds) p q =
        first_given (resolve_given N S scope Γ ds) _ p q
        (λ es e₁ r. let h = given_room scope Γ ds es e₁ in named_room after (number_of x N.acts) (number_of x N.procs) es p (3 * suc (length (print_given ds))) (omega arith) r)
    part_room after scope Γ (Part.sum v D t) p q =
        first_given (number_of D N.sorts) _ p (test_passed (new_variable N scope v) _ p q).1 (λ E e₁ r. first_given (resolve_choice N S (scope ++ (v ∷ [])) (Γ ++ (E ∷ [])) t) (λ b. some (Proc.sum (length scope) E b)) p r
        (λ b e₂ r₁.
        let z : Proc.sum (length scope) E b ≡ p = cc in
        let h = choice_room false (scope ++ (v ∷ [])) (Γ ++ (E ∷ [])) t b e₂ in
        subst (λ (x : Proc). length (enc after x) ≤ 3 * length (print_part (Part.sum v D t))) z (omega (arith, length-append (print_choice t) (the ")" ∷ [])))))
    part_room after scope Γ (Part.group t) p q = let h = choice_room after scope Γ t p q in omega (arith, length-append (print_choice t) (the ")" ∷ []))

  -- A RIGHT SIDE: at most three cells for each token of its line.
  pub right_room : (scope : List Name) (Γ : List ℕ) (l : ProcLine) (p : Proc) → resolve_choice N S scope Γ l.right ≡ some p → length (enc false p) ≤ 3 * length (line "proc" (print_proc l))
  unfolding line print_proc
  right_room scope Γ l p q =
      let right = the "=" ∷ print_choice l.right in
      omega (arith, choice_room false scope Γ l.right p q, length-append (print_params l.params) right, length-append (print_params l.params ++ right) (the ";" ∷ []))

  -- the call of init
  pub init_room : (l : InitLine) (k : ℕ) (ds : List Data) → resolve_init N S l ≡ some (k, ds) → length (enc false (Proc.call k ds)) ≤ 3 * length (print_init l)
  unfolding resolve_init print_init enc
  init_room l k ds q =
      first_given (number_of l.name N.procs) _ (k, ds) q
      (λ j e₁ q₁. first_given (resolve_given N S [] [] l.data_given) (λ es. some (j, es)) (k, ds) q₁
      (λ es e₂ q₂.
      let b : es ≡ ds = ap (λ (x : ℕ × List Data). x.1) (some-injective _ _ q₂) in
      let h = given_room [] [] l.data_given es e₂ in
      subst (λ (x : List Data). suc (suc (suc (length (enc_datas x)))) ≤ 3 * suc (length (print_given l.data_given))) b (omega arith)))
