-- Every token of a printed sheet is spelled right, if its names are: by a law for each form of the tree.
use Rattle.std.specs.Prelude.{List, [], ◌∷◌, ◌++◌, map, ℕ, zero, suc, ◌≤◌}
use Prim.Native.String.{String}
use Rattle.std.proofs.Math.Decide.{ℕ_discrete}
use Rattle.std.proofs.Common.{arith}
use Rattle.pcrl.specs.Limits.{max_numeral}
use Rattle.pcrl.specs.Tests.{same?, among, Every}
use Rattle.pcrl.specs.Tokens.{Token, the, words, punctuation}
use Rattle.pcrl.specs.Tree.{Name, RawData, Atom, Choice, Conditional, Sequence, Part, SortLine, FuncLine, ActLine, ProcLine, InitLine, RawSheet}
use Rattle.pcrl.specs.Print.{bracketed, joined, print_data, print_conjunction, print_comparison, print_negation, print_atom, print_datas, print_given, print_choice, print_conditional, print_sequence, print_part, line, print_lines, print_sorts, print_values, print_sort, print_func, print_takes, print_act, print_param, print_params, print_proc, print_init, print_sheet}
use Rattle.pcrl.specs.Sheet.{Operation}
use Rattle.pcrl.specs.Printer.{Shown, atom_shown, as_data, as_conjunction, as_comparison, as_negation, listed, in_brackets, applied, operand, shown_by, side, wanting, choice_of, right_of}
use Rattle.laws.specs.Every.{every_append, every_weaken, every_get_or, every_map}
use Rattle.grammar.specs.PrintLaws.{or_behind_prints, and_behind_prints, applied_given}
use Rattle.printing.specs.Indexed.{SpelledName}
use Rattle.printing.specs.SpelledTokens.{SpelledToken}
use Rattle.printing.specs.NumberedLaws.{every_all}
use Rattle.printing.specs.ShownLaws.{Property, Has, Everywhere, everywhere}

abbrev pub Spelled : List Token → Type 0
Spelled ts = Every SpelledToken ts

-- with a sign between
then_sign : (s : String) (ts us : List Token) → SpelledToken (the s) → Spelled ts → Spelled us → Spelled (ts ++ (the s ∷ us))
unfolding Every
then_sign s ts us w h k = every_append SpelledToken ts (the s ∷ us) h (w, k)

signs : (SpelledToken (the "(") × SpelledToken (the ")")) × (SpelledToken (the ",") × SpelledToken (the "#"))
unfolding SpelledToken among words punctuation same? ℕ_discrete
signs = ((tt, tt), (tt, tt))

in_brackets_spelled : (ts : List Token) → Spelled ts → Spelled (bracketed ts)
unfolding bracketed Every
in_brackets_spelled ts h = (signs.0.0, then_sign ")" ts [] signs.0.1 h tt)

joined_spelled : {A : Type 0} (s : String) (w : A → List Token) → SpelledToken (the s) → (l : List A) → Every (λ a. Spelled (w a)) l → Spelled (joined s w l)
unfolding joined Every
joined_spelled s w t [] h = tt
joined_spelled s w t (a ∷ []) h = h.0
joined_spelled s w t (a ∷ b ∷ l) h = then_sign s (w a) (joined s w (b ∷ l)) t h.0 (joined_spelled s w t (b ∷ l) h.1)

-- DATA

abbrev pub SpelledData : RawData → Type 0
SpelledData d = Spelled (print_data d)

listed_spelled : (d : RawData) (ds : List RawData) → SpelledData d → Every SpelledData ds → Spelled (print_datas (listed d ds))
unfolding listed print_data Every
listed_spelled d [] h k = h
listed_spelled d (e ∷ ds) h k = then_sign "," (print_data d) (print_datas (listed e ds)) signs.1.0 h (listed_spelled e ds k.0 k.1)

pub given_spelled : (ds : List RawData) → Every SpelledData ds → Spelled (print_given (in_brackets ds))
unfolding in_brackets print_given Every
given_spelled [] h = tt
given_spelled (d ∷ ds) h = in_brackets_spelled (print_datas (listed d ds)) (listed_spelled d ds h.0 h.1)

-- at each place
abbrev spelled : Property
spelled = record {
  data_has = λ d. Spelled (print_data d);
  conjunction_has = λ c. Spelled (print_conjunction c);
  comparison_has = λ c. Spelled (print_comparison c);
  negation_has = λ a. Spelled (print_negation a);
  atom_has = λ a. Spelled (print_atom a);
}

abbrev pub SpelledShown : Shown → Type 0
SpelledShown s = Everywhere spelled s

shown_spelled : (s : Shown) → Has spelled s → SpelledShown s
unfolding print_data
shown_spelled = everywhere spelled (record { to_data = λ c h. h; to_conjunction = λ c h. h; to_comparison = λ a h. h; to_negation = λ a h. h; to_brackets = λ d h. in_brackets_spelled (print_data d) h })

pub value_spelled : (v : ℕ) → v ≤ max_numeral → SpelledShown (atom_shown (Atom.value v))
unfolding Has print_data Every SpelledToken
value_spelled v h = shown_spelled (atom_shown (Atom.value v)) (h, tt)

pub variable_spelled : (x : Name) → SpelledName x → SpelledShown (atom_shown (Atom.variable x))
unfolding Has print_data Every SpelledToken
variable_spelled x h = shown_spelled (atom_shown (Atom.variable x)) (h, tt)

operand_spelled : (i : ℕ) (ss : List Shown) → Every SpelledShown ss → SpelledShown (operand i ss)
unfolding operand
operand_spelled i ss h = every_get_or SpelledShown ss (atom_shown (Atom.value 0)) i h (value_spelled 0 (omega arith))

-- the name of a written function
unfoldable pub SpelledUse : (ℕ → Name) → Operation → Type 0
SpelledUse f (Operation.written g) = SpelledName (f g)
SpelledUse f Operation.not = Unit {0}
SpelledUse f Operation.and = Unit {0}
SpelledUse f Operation.or = Unit {0}
SpelledUse f (Operation.equal D) = Unit {0}
SpelledUse f Operation.unsorted = Unit {0}

pub operation_spelled : (f : ℕ → Name) (o : Operation) (ss : List Shown) → SpelledUse f o → Every SpelledShown ss → SpelledShown (shown_by f o ss)
unfolding SpelledUse shown_by Has print_data Every SpelledToken among words punctuation same? ℕ_discrete
operation_spelled f (Operation.written g) ss n h =
    let given = given_spelled (map as_data ss) (every_map SpelledShown SpelledData as_data (λ s k. k.anywhere) ss h) in
    shown_spelled (atom_shown (applied (f g) (in_brackets (map as_data ss)))) (rw (applied_given (f g) (in_brackets (map as_data ss))) (n, given))
operation_spelled f Operation.not ss n h = shown_spelled _ (tt, (operand_spelled 0 ss h).in_negation)
operation_spelled f (Operation.equal D) ss n h = shown_spelled _ (then_sign "==" (print_negation (as_negation (operand 0 ss))) (print_negation (as_negation (operand 1 ss))) tt (operand_spelled 0 ss h).in_negation (operand_spelled 1 ss h).in_negation)
operation_spelled f Operation.and ss n h =
    let c = as_conjunction (operand 0 ss) in
    let e = as_comparison (operand 1 ss) in
    shown_spelled _ (rw (and_behind_prints c e) (then_sign "/\\" (print_conjunction c) (print_comparison e) tt (operand_spelled 0 ss h).in_conjunction (operand_spelled 1 ss h).in_comparison))
operation_spelled f Operation.or ss n h =
    let d = as_data (operand 0 ss) in
    let e = as_conjunction (operand 1 ss) in
    shown_spelled _ (rw (or_behind_prints d e) (then_sign "\\/" (print_data d) (print_conjunction e) tt (operand_spelled 0 ss h).anywhere (operand_spelled 1 ss h).in_conjunction))
operation_spelled f Operation.unsorted ss n h = operand_spelled 0 ss h

-- CHOICES

abbrev pub SpelledPart : Part → Type 0
SpelledPart p = Spelled (print_part p)

abbrev pub SpelledSequence : Sequence → Type 0
SpelledSequence p = Spelled (print_sequence p)

abbrev pub SpelledConditional : Conditional → Type 0
SpelledConditional c = Spelled (print_conditional c)

pub tau_spelled : SpelledPart Part.tau
unfolding print_choice Every SpelledToken among words punctuation same? ℕ_discrete
tau_spelled = (tt, tt)

pub delta_spelled : SpelledSequence (Sequence.last Part.delta)
unfolding print_choice Every SpelledToken among words punctuation same? ℕ_discrete
delta_spelled = (tt, tt)

pub named_spelled : (x : Name) (ds : List RawData) → SpelledName x → Every SpelledData ds → SpelledPart (Part.named x (in_brackets ds))
unfolding print_choice Every SpelledToken
named_spelled x ds n h = (n, given_spelled ds h)

pub then_spelled : (p : Part) (q : Sequence) → SpelledPart p → SpelledSequence q → SpelledSequence (Sequence.then p q)
unfolding print_choice Every SpelledToken among words punctuation same? ℕ_discrete
then_spelled p q h k = then_sign "." (print_part p) (print_sequence q) tt h k

cond_spelled : (p : Sequence) (c : RawData) (q : Sequence) → SpelledSequence p → SpelledData c → SpelledSequence q → SpelledConditional (Conditional.cond p c q)
unfolding print_choice Every SpelledToken among words punctuation same? ℕ_discrete
cond_spelled p c q h k l = then_sign "<|" (print_sequence p) _ tt h (then_sign "|>" (print_data c) (print_sequence q) tt k l)

pub wanting_spelled : (w : ℕ) (c : RawData) (p : Sequence) → SpelledData c → SpelledSequence p → SpelledConditional (wanting w c p)
unfolding wanting
wanting_spelled zero c p h k = cond_spelled _ c p delta_spelled h k
wanting_spelled (suc w) c p h k = cond_spelled p c _ k h delta_spelled

pub side_spelled : (c : Conditional) → SpelledConditional c → SpelledSequence (side c)
unfolding side print_choice
side_spelled (Conditional.plain p) h = h
side_spelled (Conditional.cond p c q) h = in_brackets_spelled _ h

pub sum_spelled : (v D : Name) (c : Conditional) → SpelledName v → SpelledName D → SpelledConditional c → SpelledConditional (Conditional.plain (Sequence.last (Part.sum v D (Choice.only c))))
unfolding print_choice Every SpelledToken among words punctuation same? ℕ_discrete
sum_spelled v D c n m h = (tt, in_brackets_spelled _ (n, (tt, (m, (tt, h)))))

choice_spelled : (c : Conditional) (cs : List Conditional) → SpelledConditional c → Every SpelledConditional cs → Spelled (print_choice (choice_of c cs))
unfolding choice_of print_choice Every SpelledToken among words punctuation same? ℕ_discrete
choice_spelled c [] h k = h
choice_spelled c (d ∷ cs) h k = then_sign "+" (print_conditional c) (print_choice (choice_of d cs)) tt h (choice_spelled d cs k.0 k.1)

pub right_spelled : (cs : List Conditional) → Every SpelledConditional cs → Spelled (print_choice (right_of cs))
unfolding right_of print_choice Every
right_spelled [] h = delta_spelled
right_spelled (c ∷ cs) h = choice_spelled c cs h.0 h.1

-- LINES

sorts_spelled : (Ds : List Name) → Every SpelledName Ds → Spelled (print_sorts Ds)
unfolding print_sorts Every SpelledToken
sorts_spelled Ds h = joined_spelled "#" (λ D. Token.name D ∷ []) signs.1.1 Ds (every_weaken _ _ (λ D n. (n, tt)) Ds h)

values_spelled : (vs : List ℕ) → Every (λ v. v ≤ max_numeral) vs → Spelled (print_values vs)
unfolding print_values Every SpelledToken
values_spelled vs h = joined_spelled "," (λ v. Token.numeral v ∷ []) signs.1.0 vs (every_weaken _ _ (λ v n. (n, tt)) vs h)

takes_spelled : (Ds : List Name) → Every SpelledName Ds → Spelled (print_takes Ds)
unfolding print_takes Every SpelledToken among words punctuation same? ℕ_discrete
takes_spelled [] h = tt
takes_spelled (D ∷ Ds) h = (tt, sorts_spelled (D ∷ Ds) h)

params_spelled : (ps : List (Name × Name)) → Every (λ (p : Name × Name). SpelledName p.0 × SpelledName p.1) ps → Spelled (print_params ps)
unfolding print_params print_param Every SpelledToken among words punctuation same? ℕ_discrete
params_spelled [] h = tt
params_spelled (p ∷ ps) h = in_brackets_spelled _ (joined_spelled "," print_param tt (p ∷ ps) (every_weaken _ _ (λ q n. (n.0, (tt, (n.1, tt)))) (p ∷ ps) h))

pub sort_spelled : (l : SortLine) → SpelledName l.name → l.size ≤ max_numeral → Spelled (print_sort l)
unfolding print_sort Every SpelledToken
sort_spelled l n h = (n, (h, tt))

pub func_spelled : (l : FuncLine) → SpelledName l.name → Every SpelledName l.takes → SpelledName l.gives → Every (λ v. v ≤ max_numeral) l.values → Spelled (print_func l)
unfolding print_func Every SpelledToken among words punctuation same? ℕ_discrete
func_spelled l n h m k = (n, (tt, then_sign "->" (print_sorts l.takes) _ tt (sorts_spelled l.takes h) (m, (tt, values_spelled l.values k))))

pub act_spelled : (l : ActLine) → SpelledName l.name → Every SpelledName l.takes → Spelled (print_act l)
unfolding print_act Every SpelledToken
act_spelled l n h = (n, takes_spelled l.takes h)

pub proc_spelled : (l : ProcLine) → SpelledName l.name → Every (λ (p : Name × Name). SpelledName p.0 × SpelledName p.1) l.params → Spelled (print_choice l.right) → Spelled (print_proc l)
unfolding print_proc Every SpelledToken among words punctuation same? ℕ_discrete
proc_spelled l n h k = (n, then_sign "=" (print_params l.params) (print_choice l.right) tt (params_spelled l.params h) k)

pub init_spelled : (l : InitLine) → SpelledName l.name → Spelled (print_given l.data_given) → Spelled (print_init l)
unfolding print_init Every SpelledToken
init_spelled l n h = (n, h)

line_spelled : (s : String) (ts : List Token) → SpelledToken (the s) → Spelled ts → Spelled (line s ts)
unfolding line Every SpelledToken among words punctuation same? ℕ_discrete
line_spelled s ts t h = (t, then_sign ";" ts [] tt h tt)

lines_spelled : {A : Type 0} (s : String) (w : A → List Token) (ls : List A) → SpelledToken (the s) → Every (λ l. Spelled (w l)) ls → Spelled (print_lines s w ls)
lines_spelled s w ls t h = every_all SpelledToken (λ l. line s (w l)) ls (every_weaken _ _ (λ l. line_spelled s (w l) t) ls h)

pub sheet_spelled : (R : RawSheet) → Every (λ l. Spelled (print_sort l)) R.sorts → Every (λ l. Spelled (print_func l)) R.funcs → Every (λ l. Spelled (print_act l)) R.acts
    → Every (λ l. Spelled (print_proc l)) R.procs → Spelled (print_init R.start) → Spelled (print_sheet R)
unfolding print_sheet SpelledToken among words punctuation same? ℕ_discrete
sheet_spelled R a b c d e =
    every_append SpelledToken _ _ (lines_spelled "sort" print_sort R.sorts tt a)
    (every_append SpelledToken _ _ (lines_spelled "func" print_func R.funcs tt b)
    (every_append SpelledToken _ _ (lines_spelled "act" print_act R.acts tt c)
    (every_append SpelledToken _ _ (lines_spelled "proc" print_proc R.procs tt d)
    (line_spelled "init" (print_init R.start) tt e))))
