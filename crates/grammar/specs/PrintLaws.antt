-- How lists are printed that hold at least one element, data behind data, and a sheet before what follows it.
use Rattle.std.specs.Prelude.{◌≡◌, refl, List, [], ◌∷◌, ◌++◌, ◌+◌, ◌≤◌, length}
use Rattle.std.proofs.Common.{sym, append_assoc, arith, length-append}
use Rattle.std.proofs.Math.Option.{Option, none, some}
use Prim.Native.String.{String}
use Rattle.pcrl.specs.Tokens.{Token, name, the}
use Rattle.pcrl.specs.Tree.{Name, RawData, Conjunction, Comparison, RawDatas, RawSheet}
use Rattle.pcrl.specs.Print.{bracketed, joined, print_data, print_conjunction, print_comparison, print_atom, print_given, print_sorts, print_takes, print_param, print_params, line, print_lines, print_sort, print_func, print_act, print_proc, print_init, print_sheet}
use Rattle.pcrl.specs.Printer.{or_behind, and_behind, applied}

-- one more before some
pub joined_cons : {A : Type 0} (s : String) (w : A → List Token) (a : A) (l : List A) → 1 ≤ length l → joined s w (a ∷ l) ≡ w a ++ (the s ∷ joined s w l)
unfolding joined
joined_cons s w a [] h = absurd (omega arith)
joined_cons s w a (b ∷ l) h = refl

pub takes_some : (Ds : List Name) → 1 ≤ length Ds → print_takes Ds ≡ the ":" ∷ print_sorts Ds
unfolding print_takes
takes_some [] h = absurd (omega arith)
takes_some (D ∷ Ds) h = refl

pub params_some : (ps : List (Name × Name)) → 1 ≤ length ps → print_params ps ≡ bracketed (joined "," print_param ps)
unfolding print_params
params_some [] h = absurd (omega arith)
params_some (p ∷ ps) h = refl

-- one operand behind all of those joined before it
pub or_behind_prints : (d : RawData) (e : Conjunction) → print_data (or_behind d e) ≡ print_data d ++ (the "\\/" ∷ print_conjunction e)
unfolding or_behind print_data
or_behind_prints (RawData.only c) e = refl
or_behind_prints (RawData.or c d) e = rw (or_behind_prints d e) (sym (append_assoc (print_conjunction c) (the "\\/" ∷ print_data d) (the "\\/" ∷ print_conjunction e)))

pub and_behind_prints : (c : Conjunction) (e : Comparison) → print_conjunction (and_behind c e) ≡ print_conjunction c ++ (the "/\\" ∷ print_comparison e)
unfolding and_behind print_data
and_behind_prints (Conjunction.single c) e = refl
and_behind_prints (Conjunction.and c d) e = rw (and_behind_prints d e) (sym (append_assoc (print_comparison c) (the "/\\" ∷ print_conjunction d) (the "/\\" ∷ print_comparison e)))

-- a function's name with bracketed data
pub applied_given : (x : Name) (o : Option RawDatas) → print_atom (applied x o) ≡ name x ∷ print_given o
unfolding applied print_data print_given
applied_given x none = refl
applied_given x (some ds) = refl

-- a sheet before what follows it, kind by kind
pub sheet_before : (R : RawSheet) (r : List Token) →
    print_sheet R ++ r
    ≡ print_lines "sort" print_sort R.sorts
    ++ (print_lines "func" print_func R.funcs
    ++ (print_lines "act" print_act R.acts
    ++ (print_lines "proc" print_proc R.procs
    ++ (the "init" ∷ (print_init R.start ++ (the ";" ∷ r))))))
unfolding print_sheet line
sheet_before R r = simp append_assoc

-- at least one token for each element
pub joined_length : {A : Type 0} (s : String) (w : A → List Token) → ((a : A) → 1 ≤ length (w a)) → (l : List A) → length l ≤ length (joined s w l)
unfolding joined
joined_length s w h [] = omega arith
joined_length s w h (a ∷ []) = h a
joined_length s w h (a ∷ b ∷ l) = omega (arith, h a, joined_length s w h (b ∷ l), length-append (w a) (the s ∷ joined s w (b ∷ l)))

pub sheet_length : (R : RawSheet) →
    length (print_sheet R)
    ≡ length (print_lines "sort" print_sort R.sorts)
    + (length (print_lines "func" print_func R.funcs)
    + (length (print_lines "act" print_act R.acts)
    + (length (print_lines "proc" print_proc R.procs)
    + (length (print_init R.start) + 2))))
unfolding print_sheet line
sheet_length R = simp length-append (omega arith)
