-- Every name of a sort or an action that a sheet declares is valid by the token rule: the tree is printed back as the tokens, and every token is valid.
use Rattle.std.specs.Prelude.{◌≡◌, List, ℕ}
use Rattle.std.proofs.Common.{sym, subst}
use Rattle.std.proofs.Math.Option.{some}
use Rattle.pcrl.specs.Tests.{Every}
use Rattle.pcrl.specs.Tokens.{Token, tokens}
use Rattle.pcrl.specs.Tree.{SortLine, ActLine, RawSheet}
use Rattle.pcrl.specs.Grammar.{parse}
use Rattle.laws.specs.Every.{every_left}
use Rattle.pcrl.specs.Print.{print_lines, print_sort, print_sheet}
use Rattle.grammar.specs.Parsed.{print_parse}
use Rattle.grammar.specs.TokenLaws.{ValidName, ValidToken}
use Rattle.grammar.proofs.TokenLaws.{tokens_valid}
use Rattle.grammar.specs.ValidNames.{sort_names, act_names_of_sheet}

-- DECLARED NAMES ARE VALID: 1 to 16 letters, digits and underscores behind a letter, and no word.
pub names_valid : (s : List ℕ) (ts : List Token) (R : RawSheet) → tokens s ≡ some ts → parse ts ≡ some R → Every (λ (a : ActLine). ValidName a.name) R.acts
unfolding ValidToken
names_valid s ts R e f = act_names_of_sheet ValidToken R (subst (Every ValidToken) (sym (print_parse ts R f).0) (tokens_valid s ts e))

pub sort_names_valid : (s : List ℕ) (ts : List Token) (R : RawSheet) → tokens s ≡ some ts → parse ts ≡ some R → Every (λ (l : SortLine). ValidName l.name) R.sorts
unfolding ValidToken print_sheet
sort_names_valid s ts R e f =
    sort_names ValidToken R.sorts (every_left ValidToken (print_lines "sort" print_sort R.sorts) _ (subst (Every ValidToken) (sym (print_parse ts R f).0) (tokens_valid s ts e)))
