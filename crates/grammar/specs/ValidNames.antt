-- Every name of a sort or an action that a sheet declares is valid by the token rule: the tree is printed back as the tokens, and every token is valid.
use Rattle.std.specs.Prelude.{◌≡◌, refl, List, [], ◌∷◌, Bool, true, false, ℕ, T, get_or}
use Rattle.pcrl.specs.Text.{bytes}
use Rattle.pcrl.specs.Tests.{and, negated, same?, among, Every}
use Rattle.pcrl.specs.Bytes.{letter}
use Rattle.pcrl.specs.Tokens.{Token, name, words}
use Rattle.pcrl.specs.Reader.{all}
use Rattle.pcrl.specs.Tree.{SortLine, ActLine, RawSheet}
use Rattle.pcrl.specs.Right.{free_name, RightName, token_name, RightSortName}
use Rattle.laws.specs.Tests.{both_pass, pass_both}
use Rattle.laws.specs.Every.{every_left, every_right}
use Rattle.pcrl.specs.Print.{line, print_lines, print_sort, print_func, print_act, print_sheet}
use Rattle.grammar.specs.TokenLaws.{ValidName}

-- what holds of every printed token holds of every sort's name
pub sort_names : (P : Token → Type 0) (sorts : List SortLine) → Every P (print_lines "sort" print_sort sorts) → Every (λ (l : SortLine). P (name l.name)) sorts
unfolding Every all line print_sort
sort_names P [] h = tt
sort_names P (l ∷ sorts) h =
    let first = line "sort" (print_sort l) in
    let rest = print_lines "sort" print_sort sorts in
    ((every_left P first rest h).1.0, sort_names P sorts (every_right P first rest h))

-- and of every action's name
pub act_names : (P : Token → Type 0) (acts : List ActLine) → Every P (print_lines "act" print_act acts) → Every (λ (a : ActLine). P (name a.name)) acts
unfolding Every all line print_act
act_names P [] h = tt
act_names P (a ∷ acts) h =
    let first = line "act" (print_act a) in
    let rest = print_lines "act" print_act acts in
    ((every_left P first rest h).1.0, act_names P acts (every_right P first rest h))

pub act_names_of_sheet : (P : Token → Type 0) (R : RawSheet) → Every P (print_sheet R) → Every (λ (a : ActLine). P (name a.name)) R.acts
unfolding print_sheet
act_names_of_sheet P R h =
    let past_sorts = every_right P (print_lines "sort" print_sort R.sorts) _ h in
    let past_funcs = every_right P (print_lines "func" print_func R.funcs) _ past_sorts in
    act_names P R.acts (every_left P (print_lines "act" print_act R.acts) _ past_funcs)

-- #104: "Sort names must be valid"
pub right_sort_name : (n : List ℕ) → ValidName n → RightSortName n
unfolding RightSortName ValidName token_name
right_sort_name n v = (v.0, pass_both (letter (get_or n 0 0)) (negated (among n words)) v.1.0 (rw v.1.1 tt))

pub valid_sort_name : (n : List ℕ) → RightSortName n → ValidName n
unfolding RightSortName ValidName token_name
valid_sort_name n h = let (a, b) = both_pass (letter (get_or n 0 0)) (negated (among n words)) h.1 in (h.0, (a, is_not (among n words) b))
  where
    is_not : (b : Bool) → T (negated b) → b ≡ false
    is_not true t = absurd t
    is_not false t = refl

-- "valid by the token rule, and none is Bool"
pub right_name : (n : List ℕ) → ValidName n → ¬ (n ≡ bytes "Bool") → RightName n
unfolding RightName ValidName free_name among
right_name n v h = (v.0, by (letter (get_or n 0 0)) v.1.0 (same? n (bytes "Bool")))
  where
    by : (a : Bool) → T a → (d : Dec (n ≡ bytes "Bool")) → T (and a (negated (elim d [ yes e ↦ true | no k ↦ among n words ])))
    by true t (yes e) = h e
    by true t (no k) = rw v.1.1 tt
    by false t d = t
