-- What is printed for each kind of line is read back as far as its `;`, at any bound n from four times the number of its tokens on.
use Rattle.std.specs.Prelude.{◌≡◌, refl, List, [], ◌∷◌, ◌++◌, ℕ, zero, suc, ◌*◌, ◌≤◌, ◌<◌, T, length}
use Rattle.std.proofs.Common.{append_assoc, arith, length-append}
use Prim.Native.String.{String}
use Rattle.std.proofs.Math.Decide.{ℕ_discrete}
use Rattle.pcrl.specs.Limits.{max_arity}
use Rattle.pcrl.specs.Tests.{Between, same?, Every, T?}
use Rattle.pcrl.specs.Tokens.{Token, name, numeral, the, is?}
use Rattle.pcrl.specs.Reader.{found, bind, all}
use Rattle.pcrl.specs.Tree.{Name, SortLine, FuncLine, ActLine, ProcLine, InitLine}
use Rattle.pcrl.specs.Grammar.{Reads, on, expect, a_name, a_numeral, sort_line, numerals, one_or_two, func_line, act_line, parameters, proc_line, init_line, data_given, none_in, lines}
use Rattle.laws.specs.Readers.{test_read}
use Rattle.pcrl.specs.Print.{bracketed, joined, print_given, print_choice, line, print_lines, print_sorts, print_values, print_sort, print_func, print_takes, print_act, print_param, print_params, print_proc, print_init}
use Rattle.grammar.specs.Formed.{FormedFunc, FormedAct}
use Rattle.grammar.specs.PrintLaws.{joined_length}
use Rattle.grammar.specs.Ahead.{absent, on_sign, on_absent, expect_sign}
use Rattle.grammar.proofs.Weight.{weight_given_bound, weight_choice_bound}
use Rattle.grammar.specs.PrintedTerms.{given_read, choice_read}

-- each line is read as far as its `;`
abbrev pub ReadsLine : {A : Type 0} → Reads A → (A → List Token) → A → Type 0
ReadsLine read w l = (r : List Token) → read (w l ++ (the ";" ∷ r)) ≡ found l (the ";" ∷ r)

pub sort_read : (l : SortLine) → ReadsLine sort_line print_sort l
unfolding sort_line print_sort bind a_name a_numeral
sort_read l r = refl

pub values_read : (n : ℕ) (vs : List ℕ) (r : List Token) → 1 ≤ length vs → length vs ≤ n → T (absent "," r) → numerals n (print_values vs ++ r) ≡ found vs r
unfolding numerals print_values joined bind on a_numeral is? same? ℕ_discrete
values_read n [] r g h k = absurd (omega arith)
values_read zero (v ∷ vs) r g h k = absurd (omega arith)
values_read (suc n) (v ∷ []) r g h k = rw on_absent
values_read (suc n) (v ∷ w ∷ vs) r g h k = rw (values_read n (w ∷ vs) r (omega arith) (omega arith) k)

pub sorts_read : (Ds : List Name) (r : List Token) → Between 1 max_arity (length Ds) → T (absent "#" r) → one_or_two (print_sorts Ds ++ r) ≡ found Ds r
unfolding one_or_two print_sorts joined bind on a_name is? same? ℕ_discrete
sorts_read [] r h k = absurd (omega arith)
sorts_read (D ∷ []) r h k = rw on_absent
sorts_read (D ∷ E ∷ []) r h k = refl
sorts_read (D ∷ E ∷ F ∷ Ds) r h k = absurd (omega arith)

pub func_read : (n : ℕ) (l : FuncLine) → FormedFunc l → 4 * length (print_func l) ≤ n → ReadsLine (func_line n) print_func l
unfolding func_line print_func print_values FormedFunc bind on expect a_name absent is? same? ℕ_discrete
func_read n l f h r =
    let after = the "->" ∷ name l.gives ∷ the "=" ∷ print_values l.values in
    let many = joined_length "," (λ v. numeral v ∷ []) (λ v. omega arith) l.values in
    rw (
      append_assoc (print_sorts l.takes) after (the ";" ∷ r),
      sorts_read l.takes (after ++ (the ";" ∷ r)) f.0 tt,
      values_read n l.values (the ";" ∷ r) f.1 (omega (arith, length-append (print_sorts l.takes) after)) tt,
    )

pub act_read : (l : ActLine) → FormedAct l → ReadsLine act_line print_act l
unfolding act_line print_act FormedAct print_takes bind on a_name absent is? same? ℕ_discrete
act_read l f r = by l.takes f
  where
    by : (Ds : List Name) → length Ds ≤ max_arity → act_line (name l.name ∷ (print_takes Ds ++ (the ";" ∷ r))) ≡ found (record { name = l.name; takes = Ds }) (the ";" ∷ r)
    by [] h = refl
    by (D ∷ Ds) h = rw (sorts_read (D ∷ Ds) (the ";" ∷ r) (omega arith) tt)

-- behind the opening bracket
pub parameters_read : (n : ℕ) (ps : List (Name × Name)) (r : List Token) → 1 ≤ length ps → length ps ≤ n → parameters n (joined "," print_param ps ++ (the ")" ∷ r)) ≡ found ps r
unfolding parameters joined print_param bind on expect a_name is? same? ℕ_discrete
parameters_read n [] r g h = absurd (omega arith)
parameters_read zero (p ∷ ps) r g h = absurd (omega arith)
parameters_read (suc n) (p ∷ []) r g h = refl
parameters_read (suc n) (p ∷ q ∷ ps) r g h = rw (parameters_read n (q ∷ ps) r (omega arith) (omega arith))

pub params_read : (n : ℕ) (ps : List (Name × Name)) (r : List Token) → length ps ≤ n → T (absent "(" r) → on "(" (parameters n) (λ us. found [] us) (print_params ps ++ r) ≡ found ps r
unfolding print_params bracketed on is? same? ℕ_discrete
params_read n [] r h k = rw on_absent
params_read n (p ∷ ps) r h k = rw (append_assoc (joined "," print_param (p ∷ ps)) (the ")" ∷ []) r, parameters_read n (p ∷ ps) r (omega arith) h)

pub params_length : (ps : List (Name × Name)) → length ps ≤ length (print_params ps)
unfolding print_params print_param bracketed
params_length [] = omega arith
params_length (p ∷ ps) = omega (arith, joined_length "," print_param (λ q. omega arith) (p ∷ ps), length-append (joined "," print_param (p ∷ ps)) (the ")" ∷ []))

pub proc_read : (n : ℕ) (l : ProcLine) → 4 * length (print_proc l) ≤ n → ReadsLine (proc_line n) print_proc l
unfolding proc_line print_proc bind on expect a_name absent is? same? ℕ_discrete
proc_read n l h r =
    let after = the "=" ∷ print_choice l.right in
    let total = length-append (print_params l.params) after in
    rw (
      append_assoc (print_params l.params) after (the ";" ∷ r),
      params_read n l.params (after ++ (the ";" ∷ r)) (omega (arith, params_length l.params)) tt,
      choice_read n l.right (the ";" ∷ r) (omega (arith, weight_choice_bound l.right)) (tt, (tt, (tt, tt))),
    )

pub init_read : (n : ℕ) (l : InitLine) → T (none_in l.data_given) → 4 * length (print_init l) ≤ n → ReadsLine (init_line n) print_init l
unfolding init_line print_init bind a_name absent is? same? ℕ_discrete
init_read n l f h r =
    rw (test_read (λ ds. T? (none_in ds)) (data_given n) (print_given l.data_given ++ (the ";" ∷ r)) (the ";" ∷ r) l.data_given (given_read n l.data_given (the ";" ∷ r) (omega (arith, weight_given_bound l.data_given)) tt) f)

-- lines of a kind, if each of them is read, and no further line of the kind follows
pub lines_read : {A : Type 0} (s : String) (w : A → List Token) (read : Reads A) (F : A → Type 0) (m : ℕ) → ((l : A) → F l → 4 * length (w l) ≤ m → ReadsLine read w l)
    → (n : ℕ) (ls : List A) (r : List Token) → Every F ls → 4 * length (print_lines s w ls) ≤ m → length (print_lines s w ls) < n → T (absent s r)
    → lines s read n (print_lines s w ls ++ r) ≡ found ls r
unfolding lines all line Every bind
lines_read s w read F m each zero ls r f h k a = absurd (omega arith)
lines_read s w read F m each (suc n) [] r f h k a = rw on_absent
lines_read s w read F m each (suc n) (l ∷ ls) r f h k a =
    let others = print_lines s w ls in
    let total = length-append (w l ++ (the ";" ∷ [])) others in
    let here = length-append (w l) (the ";" ∷ []) in
    rw (on_sign, append_assoc (w l ++ (the ";" ∷ [])) others r, append_assoc (w l) (the ";" ∷ []) (others ++ r), each l f.0 (omega arith) (others ++ r), expect_sign, lines_read s w read F m each n ls r f.1 (omega arith) (omega arith) a)
