-- Valid tokens are read back from their bytes, one after another.
use Rattle.std.specs.Prelude.{◌≡◌, refl, List, [], ◌∷◌, ◌++◌, ℕ}
use Rattle.std.proofs.Common.{ap, ◌∙◌, append-nil}
use Rattle.std.proofs.Math.Option.{some}
use Rattle.pcrl.specs.Tests.{Every}
use Rattle.pcrl.specs.Tokens.{Token, before, tokens_behind, tokens}
use Rattle.pcrl.specs.Tree.{RawSheet}
use Rattle.pcrl.specs.Grammar.{parse}
use Rattle.pcrl.specs.Render.{write, between, render}
use Rattle.pcrl.specs.Print.{print_sheet}
use Rattle.grammar.specs.Formed.{Formed}
use Rattle.grammar.proofs.Printed.{parse_print}
use Rattle.grammar.specs.TokenLaws.{ValidToken}
use Rattle.grammar.proofs.TokenLaws.{tokens_valid}
use Rattle.grammar.specs.Taken.{nothing}
use Rattle.grammar.proofs.Taken.{token_taken}
use Rattle.grammar.specs.Rendered.{taken_before, pair_before}

pub behind_render : (ts : List Token) → Every ValidToken ts → tokens_behind 0 (render ts) ≡ some ts
unfolding render before tokens_behind Every
behind_render [] v = refl
behind_render (t ∷ []) v = rw (append-nil (write t)) at (taken_before t (token_taken t v.0) [] nothing)
behind_render (t ∷ u ∷ []) v = rw (append-nil (write u)) at (pair_before t u (token_taken t v.0) (token_taken u v.1.0).here []) ∙ ap (before t) (behind_render (u ∷ []) v.1)
behind_render (t ∷ u ∷ x ∷ ts) v = pair_before t u (token_taken t v.0) (token_taken u v.1.0).here (between u x ++ render (x ∷ ts)) ∙ ap (before t) (behind_render (u ∷ x ∷ ts) v.1)

-- VALID TOKENS ARE READ BACK FROM THEIR BYTES.
pub tokens_render : (ts : List Token) → Every ValidToken ts → tokens (render ts) ≡ some ts
unfolding tokens
tokens_render ts v = behind_render ts v

-- Every text has the same tokens as they have with as few blanks as can be.
pub respelled : (s : List ℕ) (ts : List Token) → tokens s ≡ some ts → tokens (render ts) ≡ some ts
respelled s ts e = tokens_render ts (tokens_valid s ts e)

-- Every formed sheet of valid tokens has a text that gives it.
pub text_of_sheet : (R : RawSheet) → Formed R → Every ValidToken (print_sheet R) → (s : List ℕ) × (ts : List Token) × (tokens s ≡ some ts) × (parse ts ≡ some R)
text_of_sheet R f v = (render (print_sheet R), print_sheet R, tokens_render (print_sheet R) v, parse_print R f)
