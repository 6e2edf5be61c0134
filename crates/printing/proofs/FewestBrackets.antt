-- The text of a term in a printed table has the fewest brackets that read back the same.
use Rattle.std.specs.Prelude.{◌≡◌, List, ℕ, ◌≤◌, length}
use Rattle.std.proofs.Common.{ap, ◌∙◌}
use Rattle.std.proofs.Math.Option.{some}
use native.Mathlib.Omega.{arith}
use Rattle.std.proofs.lemmas.List.{length-map}
use Rattle.pcrl.specs.Limits.{max_numeral}
use Rattle.pcrl.specs.Tree.{RawData, FuncLine}
use Rattle.pcrl.specs.Sheet.{Data}
use Rattle.pcrl.specs.Names.{names_of, resolve_data}
use Rattle.pcrl.specs.Table.{Table}
use Rattle.pcrl.specs.Right.{RightSig}
use Rattle.pcrl.specs.Printer.{numbered, raw_data, func_line_of, printed}
use Rattle.printing.specs.Plain.{PlainTerm, PlainTable}
use Rattle.printing.specs.NumberedLaws.{length_numbered}
use Rattle.printing.specs.PrintedNames.{N, variables}
use Rattle.printing.specs.Sided.{Sided, sided_retold}
use Rattle.printing.specs.ResolvedData.{data_becomes}
use Rattle.printing.specs.FewestBrackets.{data_brackets, fewest_brackets}

-- So in a printed table: what is read like the text of a term has no fewer brackets than that text.
pub printed_fewest : (U : Table) (plain : PlainTable U) (Γ : List ℕ) → length Γ ≤ max_numeral → (d : Data) → PlainTerm U Γ d → Sided d → (r : RawData)
    → resolve_data (N U plain) U.sig (variables U plain (length Γ)) Γ r ≡ resolve_data (N U plain) U.sig (variables U plain (length Γ)) Γ (raw_data U.sig d)
    → data_brackets (raw_data U.sig d) ≤ data_brackets r
unfolding names_of printed RightSig
printed_fewest U plain Γ few d p sided r e =
    let S = U.sig in
    let many = plain.signature.1.0.0 in
    let a = length-map (numbered (func_line_of S) 0 U.sig.funcs) (λ (l : FuncLine). l.name) in
    let b = length_numbered (func_line_of S) 0 U.sig.funcs in
    fewest_brackets S (N U plain) (omega arith) (variables U plain (length Γ)) Γ r d (e ∙ data_becomes U plain Γ few d p ∙ ap some (sided_retold d sided))
