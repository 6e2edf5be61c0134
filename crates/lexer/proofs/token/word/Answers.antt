-- `lexer::token::word`: a word is found in its place; what is none of the words that begin with its first byte is none.
use mathlib.Core.Path.{◌≡◌, refl, sym, ◌∙◌}
use native.Mathlib.Decide.{ℕ_discrete}
use native.Mathlib.Omega.{arith}
use Rattle.pcrl.specs.Tests.{same?}
use Rattle.pcrl.specs.Tokens.{words}
use Rattle.lexer.specs.Classes.{sign_cell}
use Rattle.lexer.proofs.Signs.{one_word, next_word, found_word, first_unlike, short_no_word}
use Rattle.lexer.proofs.token.word.Goals as goal

pub returns-then-t-lt-MIN_WORD : goal.returns-then-t-lt-MIN_WORD
returns-then-t-lt-MIN_WORD c = short_no_word c.args.t.now (omega arith)

pub returns-in-Some : goal.returns-in-Some
unfolding sign_cell words same? ℕ_discrete
returns-in-Some c = found_word c.args.t.now 115 160 _ (sym c.peek.ensures ∙ c.in-115.is) refl c.in-Some.ensures

pub returns-in-None : goal.returns-in-None
unfolding sign_cell words same? ℕ_discrete
returns-in-None c = c.spelled-in-None.ensures ∙ next_word c.args.t.now 115 165 _ (sym c.peek.ensures ∙ c.in-115.is) refl _ _ refl c.in-None.ensures

pub returns-in-102 : goal.returns-in-102
unfolding sign_cell words same? ℕ_discrete
returns-in-102 c = c.spelled-in-102.ensures ∙ one_word c.args.t.now 102 161 _ (sym c.peek.ensures ∙ c.in-102.is) refl refl

pub returns-in-97 : goal.returns-in-97
unfolding sign_cell words same? ℕ_discrete
returns-in-97 c = c.spelled-in-97.ensures ∙ one_word c.args.t.now 97 162 _ (sym c.peek.ensures ∙ c.in-97.is) refl refl

pub returns-in-112 : goal.returns-in-112
unfolding sign_cell words same? ℕ_discrete
returns-in-112 c = c.spelled-in-112.ensures ∙ one_word c.args.t.now 112 163 _ (sym c.peek.ensures ∙ c.in-112.is) refl refl

pub returns-in-105 : goal.returns-in-105
unfolding sign_cell words same? ℕ_discrete
returns-in-105 c = c.spelled-in-105.ensures ∙ one_word c.args.t.now 105 164 _ (sym c.peek.ensures ∙ c.in-105.is) refl refl

pub returns-in-100 : goal.returns-in-100
unfolding sign_cell words same? ℕ_discrete
returns-in-100 c = c.spelled-in-100.ensures ∙ one_word c.args.t.now 100 166 _ (sym c.peek.ensures ∙ c.in-100.is) refl refl

pub returns-in-116 : goal.returns-in-116
unfolding sign_cell words same? ℕ_discrete
returns-in-116 c = c.spelled-in-116.ensures ∙ one_word c.args.t.now 116 167 _ (sym c.peek.ensures ∙ c.in-116.is) refl refl

pub returns-in_default : goal.returns-in_default
returns-in_default c =
    let n₁ : c.peek.result ≡ 115 → ⊥ = search in
    let n₂ : c.peek.result ≡ 102 → ⊥ = search in
    let n₃ : c.peek.result ≡ 97 → ⊥ = search in
    let n₄ : c.peek.result ≡ 112 → ⊥ = search in
    let n₅ : c.peek.result ≡ 105 → ⊥ = search in
    let n₆ : c.peek.result ≡ 100 → ⊥ = search in
    let n₇ : c.peek.result ≡ 116 → ⊥ = search in
    first_unlike c.args.t.now (λ e. n₁ (c.peek.ensures ∙ e)) (λ e. n₂ (c.peek.ensures ∙ e)) (λ e. n₃ (c.peek.ensures ∙ e)) (λ e. n₄ (c.peek.ensures ∙ e)) (λ e. n₅ (c.peek.ensures ∙ e)) (λ e. n₆ (c.peek.ensures ∙ e)) (λ e. n₇ (c.peek.ensures ∙ e))
