-- Printed data resolves to what it is retold as: each name becomes the number that it was made from, and `==` gets its sort from a side that is no value.
use Rattle.std.specs.Prelude.{◌≡◌, Bool, ℕ, ◌+◌, ◌<◌, ◌≤◌, get_or}
use Rattle.std.proofs.Math.Path.{refl, ap}
use Rattle.std.proofs.Common.{sym, ◌∙◌}
use mathlib.Core.List.{List, [], ◌∷◌, map}
use Rattle.std.proofs.Math.Bool.{true, false}
use Rattle.std.proofs.Math.Option.{Option, none, some}
use native.Mathlib.Omega.{arith}
use Rattle.std.proofs.Math.ListN.{length}
use Rattle.pcrl.specs.Limits.{max_numeral}
use Rattle.pcrl.specs.Tests.{and, Every, Each}
use Rattle.pcrl.specs.Tree.{Name, RawData, Conjunction, Comparison, Atom}
use Rattle.pcrl.specs.Sheet.{Data, val, var, app, Datas, nil, cons, list_of, Sig, Operation, and_number, or_number, first_equal, operation, operator, function, function_at}
use Rattle.pcrl.specs.Names.{Names, sort_of, equal_at, two, resolve_data, resolve_ors, resolve_conjunction, resolve_ands, resolve_comparison, resolve_negation, resolve_atom, resolve_datas, resolve_given}
use Rattle.pcrl.specs.Table.{Table}
use Rattle.pcrl.specs.Printer.{Shown, atom_shown, as_data, as_conjunction, as_comparison, or_behind, and_behind, listed, in_brackets, applied, operand, shown_by, func_name, var_name, shown, all_shown, raw_data}
use Rattle.laws.specs.Optional.{first_given}
use Rattle.laws.specs.Operations.{Seen, as_written, as_not, as_and, as_or, as_equal, seen}
use Rattle.printing.specs.Plain.{OwnSort, PlainUse, Plain, PlainAll, PlainTerm, PlainTable}
use Rattle.printing.specs.ShownLaws.{Property, Has, Everywhere, everywhere, operand_has}
use Rattle.printing.specs.PrintedNames.{N, func_found, variables, var_found}
use Rattle.printing.specs.Sided.{is_value, all_values, told_number, retold, retold_all, retold_count}

-- a list of data as data
unfoldable datas_of : List Data → Datas
datas_of [] = nil
datas_of (d ∷ ds) = cons d (datas_of ds)

list_of_datas : (ds : List Data) → list_of (datas_of ds) ≡ ds
unfolding list_of datas_of
list_of_datas [] = refl
list_of_datas (d ∷ ds) = ap (λ l. d ∷ l) (list_of_datas ds)

datas_of_list : (ds : Datas) → datas_of (list_of ds) ≡ ds
unfolding list_of datas_of
datas_of_list nil = refl
datas_of_list (cons d ds) = ap (cons d) (datas_of_list ds)

-- an operand by its number
abbrev pub at : ℕ → Datas → Data
at i ds = get_or (list_of ds) i (val 0)

one_operand : (ds : Datas) → length (list_of ds) ≡ 1 → cons (at 0 ds) nil ≡ ds
unfolding list_of
one_operand nil h = absurd (omega arith)
one_operand (cons d nil) h = refl
one_operand (cons d (cons e ds)) h = absurd (omega arith)

two_operands : (ds : Datas) → length (list_of ds) ≡ 2 → cons (at 0 ds) (cons (at 1 ds) nil) ≡ ds
unfolding list_of
two_operands nil h = absurd (omega arith)
two_operands (cons d nil) h = absurd (omega arith)
two_operands (cons d (cons e nil)) h = refl
two_operands (cons d (cons e (cons x ds))) h = absurd (omega arith)

-- THE SORT OF `==`

-- the sort that data has by itself, if it is no value
own : Bool → ℕ → Option ℕ
own true D = none
own false D = some D

module _ (names : Names) (S : Sig) (Γ : List ℕ) where
  -- `==` gives Bool, with or without a sort
  told_gives : (o : Operation) (values : Bool) (f : ℕ) → operation f ≡ o → (function_at S (told_number o values f)).gives ≡ (function_at S f).gives
  unfolding told_number function_at function operation operator
  told_gives (Operation.equal D) true f e = ap (λ (o : Operation). (function S o).gives) (sym e)
  told_gives (Operation.equal D) false f e = refl
  told_gives (Operation.written g) values f e = refl
  told_gives Operation.not values f e = refl
  told_gives Operation.and values f e = refl
  told_gives Operation.or values f e = refl
  told_gives Operation.unsorted values f e = refl

  own_sort : (D : ℕ) (d : Data) → OwnSort S Γ D d → sort_of names S Γ (retold d) ≡ own (is_value d) D
  unfolding OwnSort sort_of retold is_value own
  own_sort D (val v) h = refl
  own_sort D (var i) h = h
  own_sort D (app f ds) h = ap some (told_gives (operation f) (all_values ds) f refl ∙ h)

  equal_own : (p q : Bool) (D : ℕ) → equal_at names S (own p D) (own q D) ≡ told_number (Operation.equal D) (and p (and q true)) (first_equal + D)
  unfolding equal_at own told_number
  equal_own true true D = refl
  equal_own true false D = refl
  equal_own false q D = refl

  equal_told : (D : ℕ) (ds : Datas) → length (list_of ds) ≡ 2 → Every (OwnSort S Γ D) (list_of ds)
      → equal_at names S (sort_of names S Γ (at 0 (retold_all ds))) (sort_of names S Γ (at 1 (retold_all ds))) ≡ told_number (Operation.equal D) (all_values ds) (first_equal + D)
  unfolding list_of retold all_values Every
  equal_told D nil n h = absurd (omega arith)
  equal_told D (cons d nil) n h = absurd (omega arith)
  equal_told D (cons d (cons e nil)) n h = rw (own_sort D d h.0, own_sort D e h.1.0) (equal_own (is_value d) (is_value e) D)
  equal_told D (cons d (cons e (cons x ds))) n h = absurd (omega arith)

-- OPERANDS IN TURN

module _ (names : Names) (S : Sig) (scope : List Name) (Γ : List ℕ) where
  ors_become : (x : Data) (d : RawData) (e : Conjunction) (y z : Data) → resolve_ors names S scope Γ x d ≡ some y → resolve_conjunction names S scope Γ e ≡ some z
      → resolve_ors names S scope Γ x (or_behind d e) ≡ some (two names S or_number y z)
  unfolding or_behind resolve_data
  ors_become x (RawData.only c) e y z h k = first_given (resolve_conjunction names S scope Γ c) _ y h (λ w h₁ h₂. rw (h₁, k) (cc))
  ors_become x (RawData.or c d) e y z h k = first_given (resolve_conjunction names S scope Γ c) _ y h (λ w h₁ h₂. rw h₁ (ors_become (two names S or_number x w) d e y z h₂ k))

  or_becomes : (d : RawData) (e : Conjunction) (y z : Data) → resolve_data names S scope Γ d ≡ some y → resolve_conjunction names S scope Γ e ≡ some z
      → resolve_data names S scope Γ (or_behind d e) ≡ some (two names S or_number y z)
  unfolding or_behind resolve_data
  or_becomes (RawData.only c) e y z h k = rw (h, k)
  or_becomes (RawData.or c d) e y z h k = first_given (resolve_conjunction names S scope Γ c) _ y h (λ w h₁ h₂. rw h₁ (ors_become w d e y z h₂ k))

  ands_become : (x : Data) (d : Conjunction) (e : Comparison) (y z : Data) → resolve_ands names S scope Γ x d ≡ some y → resolve_comparison names S scope Γ e ≡ some z
      → resolve_ands names S scope Γ x (and_behind d e) ≡ some (two names S and_number y z)
  unfolding and_behind resolve_data
  ands_become x (Conjunction.single c) e y z h k = first_given (resolve_comparison names S scope Γ c) _ y h (λ w h₁ h₂. rw (h₁, k) (cc))
  ands_become x (Conjunction.and c d) e y z h k = first_given (resolve_comparison names S scope Γ c) _ y h (λ w h₁ h₂. rw h₁ (ands_become (two names S and_number x w) d e y z h₂ k))

  and_becomes : (d : Conjunction) (e : Comparison) (y z : Data) → resolve_conjunction names S scope Γ d ≡ some y → resolve_comparison names S scope Γ e ≡ some z
      → resolve_conjunction names S scope Γ (and_behind d e) ≡ some (two names S and_number y z)
  unfolding and_behind resolve_data
  and_becomes (Conjunction.single c) e y z h k = rw (h, k)
  and_becomes (Conjunction.and c d) e y z h k = first_given (resolve_comparison names S scope Γ c) _ y h (λ w h₁ h₂. rw h₁ (ands_become w d e y z h₂ k))

module _ (U : Table) (plain : PlainTable U) where
  abbrev S : Sig
  S = U.sig

  abbrev names : Names
  names = N U plain

  -- where variables of the sorts Γ are in scope
  module _ (Γ : List ℕ) (few : length Γ ≤ max_numeral) where
    abbrev scope : List Name
    scope = variables U plain (length Γ)

    abbrev pub Becomes : RawData → Data → Type 0
    Becomes e d = resolve_data names S scope Γ e ≡ some d

    -- at each place
    abbrev becoming : Data → Property
    becoming d = record {
      data_has = λ e. Becomes e d;
      conjunction_has = λ c. resolve_conjunction names S scope Γ c ≡ some d;
      comparison_has = λ c. resolve_comparison names S scope Γ c ≡ some d;
      negation_has = λ a. resolve_negation names S scope Γ a ≡ some d;
      atom_has = λ a. resolve_atom names S scope Γ a ≡ some d;
    }

    ShownBecomes : Shown → Data → Type 0
    ShownBecomes s d = Everywhere (becoming d) s

    shown_becomes : (s : Shown) (d : Data) → Has (becoming d) s → Everywhere (becoming d) s
    unfolding resolve_data
    shown_becomes s d = everywhere (becoming d) (record { to_data = λ c h. h; to_conjunction = λ c h. h; to_comparison = λ a h. h; to_negation = λ a h. h; to_brackets = λ d h. h }) s

    listed_becomes : (e : RawData) (es : List RawData) (d : Data) (ds : List Data) → Becomes e d → Each Becomes es ds
        → resolve_datas names S scope Γ (listed e es) ≡ some (cons d (datas_of ds))
    unfolding listed resolve_data Each datas_of
    listed_becomes e [] d [] h k = rw h
    listed_becomes e [] d (c ∷ ds) h k = absurd k
    listed_becomes e (f ∷ es) d [] h k = absurd k
    listed_becomes e (f ∷ es) d (c ∷ ds) h k = rw (h, listed_becomes f es c ds k.0 k.1)

    -- bracketed data, and a function with them
    given_becomes : (es : List RawData) (ds : List Data) → Each Becomes es ds → resolve_given names S scope Γ (in_brackets es) ≡ some ds
    unfolding in_brackets resolve_given Each list_of datas_of
    given_becomes [] [] h = refl
    given_becomes [] (d ∷ ds) h = absurd h
    given_becomes (e ∷ es) [] h = absurd h
    given_becomes (e ∷ es) (d ∷ ds) h = rw (listed_becomes e es d ds h.0 h.1) (ap some (list_of_datas (d ∷ ds)))

    applied_becomes : (f : ℕ) (es : List RawData) (ds : List Data) → f < length S.funcs → 1 ≤ length ds → Each Becomes es ds
        → resolve_atom names S scope Γ (applied (func_name S f) (in_brackets es)) ≡ some (app f (datas_of ds))
    unfolding in_brackets applied resolve_data Each datas_of
    applied_becomes f [] [] w l h = absurd (omega arith)
    applied_becomes f [] (d ∷ ds) w l h = absurd h
    applied_becomes f (e ∷ es) [] w l h = absurd h
    applied_becomes f (e ∷ es) (d ∷ ds) w l h = rw (func_found U plain f w, listed_becomes e es d ds h.0 h.1)

    operand_becomes : (i : ℕ) (ss : List Shown) (ds : List Data) → Each ShownBecomes ss ds → ShownBecomes (operand i ss) (get_or ds i (val 0))
    unfolding resolve_data ShownBecomes Has
    operand_becomes = operand_has ShownBecomes (shown_becomes (atom_shown (Atom.value 0)) (val 0) refl)

    all_become : (ss : List Shown) (ds : List Data) → Each ShownBecomes ss ds → Each Becomes (map as_data ss) ds
    unfolding Each ShownBecomes
    all_become [] [] h = tt
    all_become [] (d ∷ ds) h = absurd h
    all_become (s ∷ ss) [] h = absurd h
    all_become (s ∷ ss) (d ∷ ds) h = (h.0.anywhere, all_become ss ds h.1)

    -- an operation over data that is retold
    operation_becomes : (f : ℕ) (o : Operation) (ss : List Shown) (ds : Datas) → Seen f o → PlainUse S Γ o (list_of ds) → Each ShownBecomes ss (list_of (retold_all ds))
        → ShownBecomes (shown_by (func_name S) o ss) (app (told_number o (all_values ds) f) (retold_all ds))
    unfolding PlainUse shown_by told_number resolve_data ShownBecomes Has
    operation_becomes f (Operation.written g) ss ds (as_written w) p h =
        let es = list_of (retold_all ds) in
        let n = retold_count ds in
        let l : 1 ≤ length es = let k = p.1 in omega arith in
        let a = applied_becomes f (map as_data ss) es p.0 l (all_become ss es h) in
        shown_becomes _ _ (a ∙ ap (λ (xs : Datas). some (app f xs)) (datas_of_list (retold_all ds)))
    operation_becomes f Operation.not ss ds (as_not e) p h =
        let x = (operand_becomes 0 ss (list_of (retold_all ds)) h).in_negation in
        let n : length (list_of (retold_all ds)) ≡ 1 = retold_count ds ∙ p in
        shown_becomes _ _ (rw x (rw (one_operand (retold_all ds) n) (ap (λ (g : ℕ). some (app g (retold_all ds))) (sym e))))
    operation_becomes f Operation.and ss ds (as_and e) p h =
        let x = (operand_becomes 0 ss (list_of (retold_all ds)) h).in_conjunction in
        let y = (operand_becomes 1 ss (list_of (retold_all ds)) h).in_comparison in
        let n : length (list_of (retold_all ds)) ≡ 2 = retold_count ds ∙ p in
        shown_becomes _ _
        (and_becomes names S scope Γ (as_conjunction (operand 0 ss)) (as_comparison (operand 1 ss)) _ _ x y
        ∙ (ap (λ (xs : Datas). some (app and_number xs)) (two_operands (retold_all ds) n) ∙ ap (λ (g : ℕ). some (app g (retold_all ds))) (sym e)))
    operation_becomes f Operation.or ss ds (as_or e) p h =
        let x = (operand_becomes 0 ss (list_of (retold_all ds)) h).anywhere in
        let y = (operand_becomes 1 ss (list_of (retold_all ds)) h).in_conjunction in
        let n : length (list_of (retold_all ds)) ≡ 2 = retold_count ds ∙ p in
        shown_becomes _ _
        (or_becomes names S scope Γ (as_data (operand 0 ss)) (as_conjunction (operand 1 ss)) _ _ x y
        ∙ (ap (λ (xs : Datas). some (app or_number xs)) (two_operands (retold_all ds) n) ∙ ap (λ (g : ℕ). some (app g (retold_all ds))) (sym e)))
    operation_becomes f (Operation.equal D) ss ds (as_equal E e) p h =
        let es = retold_all ds in
        let x = (operand_becomes 0 ss (list_of es) h).in_negation in
        let y = (operand_becomes 1 ss (list_of es) h).in_negation in
        let n : length (list_of es) ≡ 2 = retold_count ds ∙ p.0 in
        let z : equal_at names S (sort_of names S Γ (at 0 es)) (sort_of names S Γ (at 1 es)) ≡ told_number (Operation.equal E) (all_values ds) f = rw e (equal_told names S Γ E ds p.0 p.1) in
        shown_becomes _ _ (rw (x, y, z) (ap (λ (xs : Datas). some (app (told_number (Operation.equal E) (all_values ds) f) xs)) (two_operands es n)))
    operation_becomes f Operation.unsorted ss ds w p h = absurd p

    mutual
      unfolding Plain shown retold resolve_data Each list_of ShownBecomes Has

      data_shown_becomes : (d : Data) → PlainTerm U Γ d → ShownBecomes (shown S d) (retold d)
      data_shown_becomes (val v) h = shown_becomes (atom_shown (Atom.value v)) (val v) refl
      data_shown_becomes (var i) h = shown_becomes (atom_shown (Atom.variable (var_name S i))) (var i) (rw (var_found U plain (length Γ) i few h))
      data_shown_becomes (app f ds) h = operation_becomes f (operation f) (all_shown S ds) ds (seen f) h.0 (datas_shown_become ds h.1)

      datas_shown_become : (ds : Datas) → PlainAll S Γ ds → Each ShownBecomes (all_shown S ds) (list_of (retold_all ds))
      datas_shown_become nil h = tt
      datas_shown_become (cons d ds) h = (data_shown_becomes d h.0, datas_shown_become ds h.1)

    -- PRINTED DATA RESOLVES.
    pub data_becomes : (d : Data) → PlainTerm U Γ d → Becomes (raw_data S d) (retold d)
    unfolding raw_data ShownBecomes
    data_becomes d h = (data_shown_becomes d h).anywhere

    terms_become : (ds : List Data) → Every (PlainTerm U Γ) ds → Each Becomes (map (raw_data S) ds) (map retold ds)
    unfolding Every Each
    terms_become [] h = tt
    terms_become (d ∷ ds) h = (data_becomes d h.0, terms_become ds h.1)

    pub terms_given : (ds : List Data) → Every (PlainTerm U Γ) ds → resolve_given names S scope Γ (in_brackets (map (raw_data S) ds)) ≡ some (map retold ds)
    terms_given ds h = given_becomes (map (raw_data S) ds) (map retold ds) (terms_become ds h)
