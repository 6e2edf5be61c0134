-- How much room a resolved term takes: at most three cells for each cell of the raw term.
use Rattle.std.proofs.Math.Path.{◌≡◌, ap, subst}
use Rattle.std.specs.Prelude.{refl, Bool, true, false}
use mathlib.Core.List.{List, [], ◌∷◌, ◌++◌}
use Rattle.std.proofs.Math.Option.{Option, none, some, some-injective}
use Prim.Native.Nat.{ℕ, suc, ◌+◌, ◌*◌, ◌≤◌}
use Rattle.std.proofs.Common.{arith}
use Rattle.std.proofs.Math.ListN.{length, length-append}
use Rattle.pcrl.specs.Tree.{Name, RawData, Conjunction, Comparison, Negation, Atom, RawDatas, Choice, Conditional, Sequence, Part, InitLine}
use Rattle.pcrl.specs.Sheet.{Data, Datas, list_of, Act, Proc, Sig, not_number, and_number, or_number}
use Rattle.pcrl.specs.Names.{Names, number_of, new_variable, sort_of, equal_at, resolve_data, resolve_ors, resolve_conjunction, resolve_ands, resolve_comparison, resolve_negation, resolve_atom, resolve_datas, resolve_given, named, resolve_choice, resolve_conditional, resolve_sequence, resolve_part, resolve_init}
use Rattle.parser.specs.Cells.{ands, more_ors, more_ands, enc_ors, enc_ands, enc_conjunction, enc_comparison, enc_negation, enc_atom, enc_call, enc_choice, enc_conditional, enc_sequence, enc_part, enc_init}
use Rattle.parser.specs.Cells.{enc_data as raw_data, enc_datas as raw_datas}
use Rattle.nodes.specs.Layout.{enc_data, enc_arguments, enc_datas, enc}
use Rattle.laws.specs.Optional.{first_given, test_passed}

-- arguments are data terms, one after another
pub arguments_are : (es : Datas) → enc_datas (list_of es) ≡ enc_arguments es
unfolding enc_data enc_datas list_of
arguments_are Datas.nil = refl
arguments_are (Datas.cons d ds) = ap (λ l. enc_data d ++ l) (arguments_are ds)

module _ (N : Names) (S : Sig) where
  -- two operands behind their function
  pair_size : (f : ℕ) (x y : Data) → length (enc_data (Data.app f (Datas.cons x (Datas.cons y Datas.nil)))) ≡ 2 + (length (enc_data x) + length (enc_data y))
  unfolding enc_data
  pair_size f x y = omega (arith, length-append (enc_data x) (enc_data y ++ []), length-append (enc_data y) [])

  single_size : (f : ℕ) (x : Data) → length (enc_data (Data.app f (Datas.cons x Datas.nil))) ≡ 2 + length (enc_data x)
  unfolding enc_data
  single_size f x = omega (arith, length-append (enc_data x) [])

  -- at most twice as many cells, and less: each operator has a cell of its own, and data has at least four
  mutual
    unfolding resolve_data enc_ors more_ors more_ands enc_data

    data_room : (scope : List Name) (Γ : List ℕ) (d : RawData) (e : Data) → resolve_data N S scope Γ d ≡ some e → length (enc_data e) + 2 ≤ 2 * length (enc_ors d)
    data_room scope Γ (RawData.only c) e q = conjunction_room scope Γ c e q
    data_room scope Γ (RawData.or c d) e q =
        first_given (resolve_conjunction N S scope Γ c) _ e q
        (λ x p r. let h = conjunction_room scope Γ c x p in let k = ors_room scope Γ x d e r in omega (arith, length-append (ands (more_ands c) ∷ enc_ands c) (enc_ors d)))

    ors_room : (scope : List Name) (Γ : List ℕ) (x : Data) (d : RawData) (e : Data) → resolve_ors N S scope Γ x d ≡ some e → length (enc_data e) ≤ length (enc_data x) + 2 * length (enc_ors d)
    ors_room scope Γ x (RawData.only c) e q =
        first_given (resolve_conjunction N S scope Γ c) _ e q
        (λ y p r.
        let z : Data.app or_number (Datas.cons x (Datas.cons y Datas.nil)) ≡ e = cc in
        let h = conjunction_room scope Γ c y p in
        let k = pair_size or_number x y in
        subst (λ (u : Data). length (enc_data u) ≤ length (enc_data x) + 2 * length (enc_ors (RawData.only c))) z (omega arith))
    ors_room scope Γ x (RawData.or c d) e q =
        first_given (resolve_conjunction N S scope Γ c) _ e q
        (λ y p r.
        let h = conjunction_room scope Γ c y p in
        let k = pair_size or_number x y in
        let l = ors_room scope Γ _ d e r in
        omega (arith, length-append (ands (more_ands c) ∷ enc_ands c) (enc_ors d)))

    conjunction_room : (scope : List Name) (Γ : List ℕ) (c : Conjunction) (e : Data) → resolve_conjunction N S scope Γ c ≡ some e → length (enc_data e) + 2 ≤ 2 * length (enc_conjunction c)
    conjunction_room scope Γ (Conjunction.single c) e q = let h = comparison_room scope Γ c e q in omega arith
    conjunction_room scope Γ (Conjunction.and c d) e q =
        first_given (resolve_comparison N S scope Γ c) _ e q
        (λ x p r. let h = comparison_room scope Γ c x p in let k = ands_room scope Γ x d e r in omega (arith, length-append (enc_comparison c) (enc_ands d)))

    ands_room : (scope : List Name) (Γ : List ℕ) (x : Data) (d : Conjunction) (e : Data) → resolve_ands N S scope Γ x d ≡ some e → length (enc_data e) ≤ length (enc_data x) + 2 * length (enc_ands d)
    ands_room scope Γ x (Conjunction.single c) e q =
        first_given (resolve_comparison N S scope Γ c) _ e q
        (λ y p r.
        let z : Data.app and_number (Datas.cons x (Datas.cons y Datas.nil)) ≡ e = cc in
        let h = comparison_room scope Γ c y p in
        let k = pair_size and_number x y in
        subst (λ (u : Data). length (enc_data u) ≤ length (enc_data x) + 2 * length (enc_comparison c)) z (omega arith))
    ands_room scope Γ x (Conjunction.and c d) e q =
        first_given (resolve_comparison N S scope Γ c) _ e q
        (λ y p r.
        let h = comparison_room scope Γ c y p in
        let k = pair_size and_number x y in
        let l = ands_room scope Γ _ d e r in
        omega (arith, length-append (enc_comparison c) (enc_ands d)))

    comparison_room : (scope : List Name) (Γ : List ℕ) (c : Comparison) (e : Data) → resolve_comparison N S scope Γ c ≡ some e → length (enc_data e) + 2 ≤ 2 * length (enc_comparison c)
    comparison_room scope Γ (Comparison.plain a) e q = let h = negation_room scope Γ a e q in omega arith
    comparison_room scope Γ (Comparison.equal a b) e q =
        first_given (resolve_negation N S scope Γ a) _ e q (λ x p r. first_given (resolve_negation N S scope Γ b) _ e r
        (λ y p₁ r₁.
        let f : ℕ = equal_at N S (sort_of N S Γ x) (sort_of N S Γ y) in
        let z : Data.app f (Datas.cons x (Datas.cons y Datas.nil)) ≡ e = cc in
        let h = negation_room scope Γ a x p in
        let k = negation_room scope Γ b y p₁ in
        let l = pair_size f x y in
        subst (λ (u : Data). length (enc_data u) + 2 ≤ 2 * suc (length (enc_negation a ++ enc_negation b))) z (omega (arith, length-append (enc_negation a) (enc_negation b)))))

    negation_room : (scope : List Name) (Γ : List ℕ) (a : Negation) (e : Data) → resolve_negation N S scope Γ a ≡ some e → length (enc_data e) + 1 ≤ 2 * length (enc_negation a)
    negation_room scope Γ (Negation.atom a) e q = atom_room scope Γ a e q
    negation_room scope Γ (Negation.not a) e q =
        first_given (resolve_negation N S scope Γ a) _ e q
        (λ x p r.
        let z : Data.app not_number (Datas.cons x Datas.nil) ≡ e = cc in
        let h = negation_room scope Γ a x p in
        let k = single_size not_number x in
        subst (λ (u : Data). length (enc_data u) + 1 ≤ 2 * suc (length (enc_negation a))) z (omega arith))

    atom_room : (scope : List Name) (Γ : List ℕ) (a : Atom) (e : Data) → resolve_atom N S scope Γ a ≡ some e → length (enc_data e) + 1 ≤ 2 * length (enc_atom a)
    atom_room scope Γ (Atom.value v) e q = let z : Data.val v ≡ e = cc in subst (λ (x : Data). length (enc_data x) + 1 ≤ 4) z (omega arith)
    atom_room scope Γ (Atom.variable x) e q =
        first_given (number_of x scope) _ e q (λ i p r. let z : Data.var i ≡ e = cc in subst (λ (x : Data). length (enc_data x) + 1 ≤ 4) z (omega arith))
    atom_room scope Γ (Atom.apply x ds) e q =
        first_given (number_of x N.funcs) _ e q (λ f p r. first_given (resolve_datas N S scope Γ ds) _ e r
        (λ es p₁ r₁. let z : Data.app f es ≡ e = cc in let h = datas_room scope Γ ds es p₁ in subst (λ (x : Data). length (enc_data x) + 1 ≤ 2 * suc (suc (length (raw_datas ds)))) z (omega arith)))
    atom_room scope Γ (Atom.group d) e q = let h = data_room scope Γ d e q in omega arith

    datas_room : (scope : List Name) (Γ : List ℕ) (ds : RawDatas) (es : Datas) → resolve_datas N S scope Γ ds ≡ some es → length (enc_arguments es) ≤ 2 * length (raw_datas ds)
    datas_room scope Γ (RawDatas.one d) es q =
        first_given (resolve_data N S scope Γ d) _ es q
        (λ e p r. let z : Datas.cons e Datas.nil ≡ es = cc in let h = data_room scope Γ d e p in subst (λ (x : Datas). length (enc_arguments x) ≤ 2 * suc (length (raw_data d))) z (omega (arith, length-append (enc_data e) [])))
    datas_room scope Γ (RawDatas.more d ds) es q =
        first_given (resolve_data N S scope Γ d) _ es q (λ e p r. first_given (resolve_datas N S scope Γ ds) _ es r
        (λ fs p₁ r₁.
        let z : Datas.cons e fs ≡ es = cc in
        let h = data_room scope Γ d e p in
        let k = datas_room scope Γ ds fs p₁ in
        subst (λ (x : Datas). length (enc_arguments x) ≤ 2 * suc (length (raw_data d ++ raw_datas ds))) z (omega (arith, length-append (enc_data e) (enc_arguments fs), length-append (raw_data d) (raw_datas ds)))))

  -- a name's node and what is given to it
  given_room : (scope : List Name) (Γ : List ℕ) (x : Name) (ds : Option RawDatas) (es : List Data) → resolve_given N S scope Γ ds ≡ some es → 3 + length (enc_datas es) ≤ 3 * length (enc_call x ds)
  unfolding resolve_given enc_call enc_datas
  given_room scope Γ x none es q = let z : [] ≡ es = cc in subst (λ (l : List Data). 3 + length (enc_datas l) ≤ 6) z (omega arith)
  given_room scope Γ x (some ds) es q =
      first_given (resolve_datas N S scope Γ ds) (λ es. some (list_of es)) es q
      (λ fs p r.
      let z : list_of fs ≡ es = cc in
      let h = datas_room scope Γ ds fs p in
      let k = ap length (arguments_are fs) in
      subst (λ (l : List Data). 3 + length (enc_datas l) ≤ 3 * suc (suc (length (raw_datas ds)))) z (omega arith))

  named_room : (after : Bool) (a k : Option ℕ) (es : List Data) (p : Proc) (m : ℕ) → 3 + length (enc_datas es) ≤ m → named N S a k es ≡ some p → length (enc after p) ≤ m
  unfolding named enc
  named_room after (some i) k es p m h q = let z : Proc.atom (Act.action i) es ≡ p = cc in subst (λ (x : Proc). length (enc after x) ≤ m) z (omega arith)
  named_room after none (some i) es p m h q = let z : Proc.call i es ≡ p = cc in subst (λ (x : Proc). length (enc after x) ≤ m) z (omega arith)
  named_room after none none es p m h q = let z : ◌≡◌ {A = ℕ} 0 1 = cc in absurd (omega arith)

  mutual
    unfolding resolve_choice enc_choice enc enc_data enc_datas

    -- a choice
    pub choice_room : (after : Bool) (scope : List Name) (Γ : List ℕ) (t : Choice) (p : Proc) → resolve_choice N S scope Γ t ≡ some p → length (enc after p) ≤ 3 * length (enc_choice t)
    choice_room after scope Γ (Choice.only c) p q = let h = conditional_room after scope Γ c p q in omega arith
    choice_room after scope Γ (Choice.plus c t) p q =
        first_given (resolve_conditional N S scope Γ c) _ p q (λ a e₁ r. first_given (resolve_choice N S scope Γ t) (λ b. some (Proc.alt a b)) p r
        (λ b e₂ r₁.
        let z : Proc.alt a b ≡ p = cc in
        let h = conditional_room false scope Γ c a e₁ in
        let k = choice_room false scope Γ t b e₂ in
        subst (λ (x : Proc). length (enc after x) ≤ 3 * suc (length (enc_conditional c ++ enc_choice t))) z (omega (arith, length-append (enc false a) (enc false b), length-append (enc_conditional c) (enc_choice t)))))

    conditional_room : (after : Bool) (scope : List Name) (Γ : List ℕ) (t : Conditional) (p : Proc) → resolve_conditional N S scope Γ t ≡ some p → length (enc after p) ≤ 3 * length (enc_conditional t)
    conditional_room after scope Γ (Conditional.plain t) p q = let h = sequence_room after scope Γ t p q in omega arith
    conditional_room after scope Γ (Conditional.cond t c u) p q =
        first_given (resolve_sequence N S scope Γ t) _ p q (λ a e₁ r. first_given (resolve_data N S scope Γ c) _ p r (λ b e₂ r₁. first_given (resolve_sequence N S scope Γ u) (λ s. some (Proc.cond b a s)) p r₁
        (λ s e₃ r₂.
        let z : Proc.cond b a s ≡ p = cc in
        let h = sequence_room false scope Γ t a e₁ in
        let k = data_room scope Γ c b e₂ in
        let l = sequence_room false scope Γ u s e₃ in
        subst (λ (x : Proc). length (enc after x) ≤ 3 * suc (length (enc_sequence t ++ (raw_data c ++ enc_sequence u)))) z
        (omega (arith, length-append (enc_data b ++ []) (enc false a ++ enc false s), length-append (enc_data b) [], length-append (enc false a) (enc false s), length-append (enc_sequence t) (raw_data c ++ enc_sequence u), length-append (raw_data c) (enc_sequence u))))))

    sequence_room : (after : Bool) (scope : List Name) (Γ : List ℕ) (t : Sequence) (p : Proc) → resolve_sequence N S scope Γ t ≡ some p → length (enc after p) ≤ 3 * length (enc_sequence t)
    sequence_room after scope Γ (Sequence.last t) p q = let h = part_room after scope Γ t p q in omega arith
    sequence_room after scope Γ (Sequence.then t u) p q =
        first_given (resolve_part N S scope Γ t) _ p q (λ a e₁ r. first_given (resolve_sequence N S scope Γ u) (λ b. some (Proc.seq a b)) p r
        (λ b e₂ r₁.
        let z : Proc.seq a b ≡ p = cc in
        let h = part_room after scope Γ t a e₁ in
        let k = sequence_room true scope Γ u b e₂ in
        subst (λ (x : Proc). length (enc after x) ≤ 3 * suc (length (enc_part t ++ enc_sequence u))) z (omega (arith, length-append (enc after a) (enc true b), length-append (enc_part t) (enc_sequence u)))))

    part_room : (after : Bool) (scope : List Name) (Γ : List ℕ) (t : Part) (p : Proc) → resolve_part N S scope Γ t ≡ some p → length (enc after p) ≤ 3 * length (enc_part t)
    part_room after scope Γ Part.delta p q = let z : Proc.delta ≡ p = cc in subst (λ (x : Proc). length (enc after x) ≤ 3) z (omega arith)
    part_room after scope Γ Part.tau p q = let z : Proc.atom Act.tau [] ≡ p = cc in subst (λ (x : Proc). length (enc after x) ≤ 3) z (omega arith)
    part_room after scope Γ (Part.named x ds) p q =
        first_given (resolve_given N S scope Γ ds) _ p q
        (λ es e₁ r. named_room after (number_of x N.acts) (number_of x N.procs) es p (3 * length (enc_call x ds)) (given_room scope Γ x ds es e₁) r)
    part_room after scope Γ (Part.sum v D t) p q =
        first_given (number_of D N.sorts) _ p (test_passed (new_variable N scope v) _ p q).1 (λ E e₁ r. first_given (resolve_choice N S (scope ++ (v ∷ [])) (Γ ++ (E ∷ [])) t) (λ b. some (Proc.sum (length scope) E b)) p r
        (λ b e₂ r₁.
        let z : Proc.sum (length scope) E b ≡ p = cc in
        let h = choice_room false (scope ++ (v ∷ [])) (Γ ++ (E ∷ [])) t b e₂ in
        subst (λ (x : Proc). length (enc after x) ≤ 3 * suc (suc (suc (length (enc_choice t))))) z (omega arith)))
    part_room after scope Γ (Part.group t) p q = let h = choice_room after scope Γ t p q in omega arith

  -- the call of init
  pub init_room : (l : InitLine) (k : ℕ) (ds : List Data) → resolve_init N S l ≡ some (k, ds) → length (enc false (Proc.call k ds)) ≤ 3 * length (enc_init l)
  unfolding resolve_init enc_init enc
  init_room l k ds q =
      first_given (number_of l.name N.procs) _ (k, ds) q
      (λ j e₁ q₁. first_given (resolve_given N S [] [] l.data_given) (λ es. some (j, es)) (k, ds) q₁
      (λ es e₂ q₂.
      let b : es ≡ ds = ap (λ (x : ℕ × List Data). x.1) (some-injective _ _ q₂) in
      let h = given_room [] [] l.name l.data_given es e₂ in
      subst (λ (x : List Data). suc (suc (suc (length (enc_datas x)))) ≤ 3 * suc (length (enc_call l.name l.data_given))) b (omega arith)))
