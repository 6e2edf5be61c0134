-- The tree of a sheet that passes questions 1 to 5 is bounded: its lists, its values, its sums and its processes.
use Rattle.std.specs.Prelude.{◌≡◌, List, ℕ, ◌+◌, ◌*◌, ◌≤◌, length}
use Rattle.std.proofs.Common.{ap, subst, arith}
use Rattle.std.proofs.Math.Path.{subst⁻¹}
use Rattle.std.proofs.Math.Option.{some}
use Rattle.pcrl.specs.Limits.{max_open}
use Rattle.pcrl.specs.Result.{accepted}
use Rattle.pcrl.specs.Tests.{Every}
use Rattle.pcrl.specs.Bytes.{short?, printable?}
use Rattle.pcrl.specs.Tokens.{Token, tokens, Shallow, shallow?}
use Rattle.pcrl.specs.Reader.{all}
use Rattle.pcrl.specs.Tree.{FuncLine, ProcLine, RawSheet}
use Rattle.pcrl.specs.Grammar.{parse}
use Rattle.pcrl.specs.Answers.{tokens_read}
use Rattle.laws.specs.Questions.{past_question, past_question_of}
use Rattle.pcrl.specs.Print.{print_lines, print_proc, print_init, print_sheet}
use Rattle.grammar.specs.Formed.{FormedFunc, FormedAct}
use Rattle.grammar.specs.PrintLaws.{sheet_length}
use Rattle.grammar.specs.Parsed.{print_parse}
use Rattle.grammar.specs.TokenLaws.{ValidToken}
use Rattle.grammar.proofs.TokenLaws.{tokens_valid}
use Rattle.names.specs.Rows.{SmallValues}
use Rattle.resolver.specs.Raw.{sum_depth}
use Rattle.sheets.specs.Depth.{sums_below}
use Rattle.sheets.specs.FuncValues.{sheet_values, values_below}

-- What questions 1 to 5 say of a sheet's tree, as far as the resolver needs it; n is how many tokens there are.
pub record Bounded (R : RawSheet) (n : ℕ) : Type 0 where
  pub funcs_formed : Every FormedFunc R.funcs
  pub acts_formed : Every FormedAct R.acts
  pub values_small : Every SmallValues R.funcs
  pub sums_shallow : Every (λ (l : ProcLine). sum_depth l.right ≤ max_open) R.procs
  pub values_few : 2 * length (all (λ (l : FuncLine). l.values) R.funcs) ≤ n
  pub processes_few : length (print_lines "proc" print_proc R.procs) + length (print_init R.start) ≤ n

-- the tokens of a sheet's bytes are valid, and never too many brackets are open
pub record Taken (ts : List Token) : Type 0 where
  pub valid : Every ValidToken ts
  pub shallow : Shallow ts

pub tokens_taken : (s : List ℕ) (ts : List Token) → tokens_read s ≡ accepted ts → Taken ts
unfolding tokens_read
tokens_taken s ts e =
    past_question 1 (short? s) _ ts e λ h₁ e₁.
    past_question 2 (printable? s) _ ts e₁ λ h₂ e₂.
    past_question_of 3 (tokens s) _ ts e₂ λ us t e₃.
    past_question 4 (shallow? us) _ ts e₃ λ h₄ e₄.
    let same : us ≡ ts = cc in
    subst Taken same (record { valid = tokens_valid s us t; shallow = h₄ })

values_of : (R : RawSheet) → Every ValidToken (print_sheet R) → Every SmallValues R.funcs
unfolding ValidToken
values_of R h = sheet_values ValidToken R h

-- A PARSED SHEET IS BOUNDED.
pub bounded : (s : List ℕ) (ts : List Token) (R : RawSheet) → tokens_read s ≡ accepted ts → parse ts ≡ some R → Bounded R (length ts)
bounded s ts R e f =
    let (printed, formed) = print_parse ts R f in
    let read : Taken (print_sheet R) = subst⁻¹ Taken printed (tokens_taken s ts e) in
    let size : length (print_sheet R) ≡ length ts = ap length printed in
    record {
      funcs_formed = formed.funcs;
      acts_formed = formed.acts;
      values_small = values_of R read.valid;
      sums_shallow = sums_below R read.shallow;
      values_few = omega (arith, values_below R);
      processes_few = omega (arith, sheet_length R);
    }
