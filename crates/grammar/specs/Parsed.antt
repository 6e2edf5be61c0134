-- Whatever the parser takes is printed back as the same tokens, and is formed: line by line, then the sheet.
use Rattle.std.specs.Prelude.{◌≡◌, List, [], ◌∷◌, ◌++◌, ℕ, zero, suc, ◌+◌, ◌*◌, ◌≤◌, T, length}
use Rattle.std.proofs.Common.{subst, append_assoc, append-nil, arith}
use Rattle.std.proofs.Math.Option.{some}
use Prim.Native.String.{String}
use Rattle.std.proofs.Math.Decide.{dec_lt}
use Rattle.pcrl.specs.Limits.{max_arity}
use Rattle.pcrl.specs.Tests.{Between, Every, T?}
use Rattle.pcrl.specs.Tokens.{Token, name, numeral, the}
use Rattle.pcrl.specs.Reader.{Got, missing, found, all}
use Rattle.pcrl.specs.Tree.{RawSheet}
use Rattle.pcrl.specs.Grammar.{Reads, on, fail, sort_line, numerals, one_or_two, func_line, act_line, parameters, proc_line, init_line, data_given, none_in, lines, sheet, whole, parse}
use Rattle.pcrl.specs.Print.{bracketed, joined, print_choice, line, print_lines, print_sorts, print_values, print_sort, print_func, print_takes, print_act, print_param, print_params, print_proc, print_init, print_sheet}
use Rattle.grammar.specs.Formed.{FormedFunc, FormedAct, Formed}
use Rattle.grammar.specs.PrintLaws.{joined_cons, takes_some, params_some, sheet_before}
use Rattle.grammar.specs.Outcome.{Found, nothing, just, of_found, found_bind, found_map, found_on, found_expect, found_name, found_numeral, found_test}
use Rattle.grammar.specs.ParsedTerms.{Prints, given_printed, choice_printed}

pub sort_printed : (ts : List Token) → Found (λ l r. (ts ≡ print_sort l ++ r) × Unit {0}) (sort_line ts)
unfolding sort_line print_sort
sort_printed ts = found_bind (found_name ts) λ x us e. found_bind (found_numeral us) λ v r f. just (cc, tt)

pub values_printed : (n : ℕ) (ts : List Token) → Found (λ vs r. (ts ≡ print_values vs ++ r) × (1 ≤ length vs)) (numerals n ts)
unfolding numerals print_values joined fail
values_printed zero ts = nothing
values_printed (suc n) ts =
    found_bind (found_numeral ts) λ v us e.
    found_on "," (λ vs f. found_bind (values_printed n vs) λ l r g. just (cc (joined_cons "," (λ v. numeral v ∷ []) v l g.1, g.0), omega arith))
    (λ vs f. just (cc, omega arith))

pub sorts_printed : (ts : List Token) → Found (λ Ds r. (ts ≡ print_sorts Ds ++ r) × Between 1 max_arity (length Ds)) (one_or_two ts)
unfolding one_or_two print_sorts joined
sorts_printed ts =
    found_bind (found_name ts) λ D us e.
    found_on "#" (λ vs f. found_bind (found_name vs) λ E r g. just (cc, omega arith))
    (λ vs f. just (cc, omega arith))

pub func_printed : (n : ℕ) (ts : List Token) → Found (λ l r. (ts ≡ print_func l ++ r) × FormedFunc l) (func_line n ts)
unfolding func_line print_func FormedFunc
func_printed n ts =
    found_bind (found_name ts) λ x a e1. found_bind (found_expect ":" a) λ u1 b e2. found_bind (sorts_printed b) λ Ds c e3.
    found_bind (found_expect "->" c) λ u2 d e4. found_bind (found_name d) λ D g e5. found_bind (found_expect "=" g) λ u3 h e6. found_bind (values_printed n h) λ vs i e7.
    just (cc (append_assoc (print_sorts Ds) (the "->" ∷ name D ∷ the "=" ∷ print_values vs) i, e3.0, e7.0), (e3.1, e7.1))

pub act_printed : (ts : List Token) → Found (λ l r. (ts ≡ print_act l ++ r) × FormedAct l) (act_line ts)
unfolding act_line print_act print_takes FormedAct
act_printed ts =
    found_bind (found_name ts) λ x us e.
    found_on ":" (λ vs f. found_bind (sorts_printed vs) λ Ds r g. just (cc (takes_some Ds g.1.0, g.0), g.1.1))
    (λ vs f. just (cc, omega arith))

-- behind the opening bracket
pub parameters_printed : (n : ℕ) (ts : List Token) → Found (λ ps r. (ts ≡ joined "," print_param ps ++ (the ")" ∷ r)) × (1 ≤ length ps)) (parameters n ts)
unfolding parameters joined print_param fail
parameters_printed zero ts = nothing
parameters_printed (suc n) ts =
    found_bind (found_name ts) λ v a e1. found_bind (found_expect ":" a) λ u1 b e2. found_bind (found_name b) λ D c e3.
    found_on "," (λ d f. found_bind (parameters_printed n d) λ ps r g. just (cc (joined_cons "," print_param (v, D) ps g.1, g.0), omega arith))
    (λ d f. found_bind (found_expect ")" d) λ u2 r g. just (cc, omega arith))

pub params_printed : (n : ℕ) (ts : List Token) → Found (Prints print_params ts) (on "(" (parameters n) (λ us. found [] us) ts)
unfolding print_params bracketed
params_printed n ts =
    found_on "(" (λ us e. found_map (parameters_printed n us) λ ps r f. cc (params_some ps f.1, append_assoc (joined "," print_param ps) (the ")" ∷ []) r, f.0))
    (λ us e. just e)

pub proc_printed : (n : ℕ) (ts : List Token) → Found (λ l r. (ts ≡ print_proc l ++ r) × Unit {0}) (proc_line n ts)
unfolding proc_line print_proc
proc_printed n ts =
    found_bind (found_name ts) λ x a e1. found_bind (params_printed n a) λ ps b e2. found_bind (found_expect "=" b) λ u c e3. found_bind (choice_printed n c) λ p r e4.
    just (cc (append_assoc (print_params ps) (the "=" ∷ print_choice p) r), tt)

pub init_printed : (n : ℕ) (ts : List Token) → Found (λ l r. (ts ≡ print_init l ++ r) × T (none_in l.data_given)) (init_line n ts)
unfolding init_line print_init
init_printed n ts =
    found_bind (found_name ts) λ x us e. found_bind (found_test (λ ds. T? (none_in ds)) (data_given n) us (given_printed n us)) λ ds r f. just (cc f.0, f.1)

pub lines_printed : {A : Type 0} {P : A → Type 0} (s : String) (w : A → List Token) (read : Reads A) → ((ts : List Token) → Found (λ l r. (ts ≡ w l ++ r) × P l) (read ts)) → (n : ℕ) (ts : List Token) → Found (λ ls r. (ts ≡ print_lines s w ls ++ r) × Every P ls) (lines s read n ts)
unfolding lines all line fail Every
lines_printed s w read h zero ts = nothing
lines_printed s w read h (suc n) ts =
    found_on s
    (λ us e. found_bind (h us) λ l vs f. found_bind (found_expect ";" vs) λ u ws g. found_bind (lines_printed s w read h n ws) λ ls r k.
    just (cc (f.0, k.0, append_assoc (w l) (the ";" ∷ []) (print_lines s w ls ++ r), append_assoc (w l ++ (the ";" ∷ [])) (print_lines s w ls) r), (f.1, k.1)))
    (λ us e. just (e, tt))

-- whatever is left, what was read is printed back, and is formed
pub sheet_printed : (n : ℕ) (ts : List Token) → Found (λ R r. (ts ≡ print_sheet R ++ r) × Formed R) (sheet n ts)
unfolding sheet
sheet_printed n ts =
    found_bind (lines_printed "sort" print_sort sort_line sort_printed n ts) λ sorts a e1.
    found_bind (lines_printed "func" print_func (func_line n) (func_printed n) n a) λ funcs b e2.
    found_bind (lines_printed "act" print_act act_line act_printed n b) λ acts c e3.
    found_bind (found_test (λ ps. dec_lt 0 (length ps)) (lines "proc" (proc_line n) n) c (lines_printed "proc" print_proc (proc_line n) (proc_printed n) n c)) λ procs d e4.
    found_bind (found_expect "init" d) λ u1 g e5. found_bind (init_printed n g) λ start i e6. found_bind (found_expect ";" i) λ u2 r e7.
    just (cc (sheet_before (record { sorts = sorts; funcs = funcs; acts = acts; procs = procs; start = start }) r, e1.0, e2.0, e3.0, e4.0.0, e6.0), record { funcs = e2.1; acts = e3.1; procs = omega (arith, e4.1); start = e6.1 })

-- nothing is left behind a whole
pub whole_found : {A : Type 0} (g : Got Token A) (a : A) → whole g ≡ some a → g ≡ found a []
unfolding whole
whole_found missing a e = cc
whole_found (found b []) a e = cc
whole_found (found b (t ∷ ts)) a e = cc

-- at any bound: what is read whole is printed back
pub print_sheet_of : (n : ℕ) (ts : List Token) (R : RawSheet) → sheet n ts ≡ found R [] → (print_sheet R ≡ ts) × Formed R
print_sheet_of n ts R e =
    let (p, f) = of_found (subst (Found (λ R r. (ts ≡ print_sheet R ++ r) × Formed R)) e (sheet_printed n ts)) in
    (cc (append-nil (print_sheet R)), f)

-- THE PARSER TAKES NOTHING BUT THE FORM: what it takes is the tokens of the tree that it gives, and the tree is formed.
pub print_parse : (ts : List Token) (R : RawSheet) → parse ts ≡ some R → (print_sheet R ≡ ts) × Formed R
unfolding parse
print_parse ts R e = print_sheet_of (5 * length ts + 5) ts R (whole_found (sheet (5 * length ts + 5) ts) R e)
