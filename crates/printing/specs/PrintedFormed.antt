-- The printed sheet of a right table has the form of a sheet: functions of one or two sorts with a value, at least one process, no variable in init.
use Rattle.std.specs.Prelude.{List, [], ◌∷◌, map, ℕ, ◌≤◌, T}
use Rattle.std.proofs.Common.{mul-pos, arith}
use Rattle.std.proofs.lemmas.List.{length-map}
use Rattle.pcrl.specs.Limits.{max_size}
use Rattle.pcrl.specs.Tests.{Between, Every}
use Rattle.pcrl.specs.Tree.{RawData, Atom}
use Rattle.pcrl.specs.Grammar.{no_variable, no_variables, none_in}
use Rattle.pcrl.specs.Sorts.{volume}
use Rattle.pcrl.specs.Sheet.{sort_name}
use Rattle.pcrl.specs.Table.{Table}
use Rattle.pcrl.specs.Right.{RightSizes, AreSorts, RightFunc, RightAction, RightSig}
use Rattle.pcrl.specs.Printer.{atom_shown, as_data, listed, in_brackets, func_line_of, act_line_of, proc_line_of, init_line_of, printed}
use Rattle.laws.specs.Every.{every_at, every_map}
use Rattle.grammar.specs.Formed.{FormedFunc, FormedAct, Formed}
use Rattle.printing.specs.Plain.{PlainTable}
use Rattle.printing.specs.NumberedLaws.{every_numbered, length_numbered}

-- no sort is empty, so every function has a value
some_value : (sizes Ds : List ℕ) → Every (Between 1 max_size) sizes → AreSorts sizes Ds → 1 ≤ volume sizes Ds
unfolding volume Every
some_value sizes [] h k = omega arith
some_value sizes (D ∷ Ds) h k = mul-pos (every_at (Between 1 max_size) sizes 0 D h k.0).0 (some_value sizes Ds h k.1)

-- values are no variables
abbrev value_data : ℕ → RawData
value_data v = as_data (atom_shown (Atom.value v))

values_closed : (v : ℕ) (vs : List ℕ) → T (no_variables (listed (value_data v) (map value_data vs)))
unfolding listed as_data no_variable
values_closed v [] = tt
values_closed v (w ∷ vs) = values_closed w vs

start_closed : (vs : List ℕ) → T (none_in (in_brackets (map value_data vs)))
unfolding in_brackets none_in
start_closed [] = tt
start_closed (v ∷ vs) = values_closed v vs

-- THE PRINTED SHEET IS FORMED.
pub printed_formed : (T : Table) → PlainTable T → Formed (printed T)
unfolding printed func_line_of act_line_of init_line_of FormedFunc FormedAct RightSig RightSizes RightFunc RightAction
printed_formed T plain =
    let sig = plain.signature in
    let S = T.sig in
    let sorts = T.sig.sorts in
    let some_equation = plain.some_equation in
    record {
      funcs =
          every_numbered (RightFunc sorts) FormedFunc (func_line_of S) 0 T.sig.funcs
          (λ f g w r.
          let l = length-map g.takes (sort_name S) in
          let n = r.0.0 in
          let e = r.1.1.0 in
          let v = some_value sorts g.takes sig.0.0.1 r.0.1 in
          ((omega arith, omega arith), omega arith))
          sig.1.0.1;
      acts = every_map (RightAction sorts) FormedAct (act_line_of S) (λ a r. let l = length-map a.takes (sort_name S) in let n = r.1.0 in omega arith) S.acts sig.1.1.0.1;
      procs = let l = length_numbered (proc_line_of S) 0 T.equations in omega arith;
      start = start_closed T.start.1;
    }
