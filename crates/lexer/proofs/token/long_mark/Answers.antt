-- `lexer::token::long_mark`: each pair is found in its place, and no other bytes are a mark of two.
use mathlib.Core.Path.{◌≡◌, refl}
use native.Mathlib.Decide.{ℕ_discrete}
use Rattle.pcrl.specs.Tests.{same?}
use Rattle.lexer.specs.Cells.{long_marks}
use Rattle.lexer.specs.Classes.{sign_cell}
use Rattle.lexer.proofs.FirstToken.{no_pair, no_pair_from}
use Rattle.lexer.proofs.token.long_mark.Goals as goal

pub returns-then-b-eq62 : goal.returns-then-b-eq62
unfolding sign_cell long_marks same? ℕ_discrete
returns-then-b-eq62 c = rw (c.in-45.is, c.if-b-eq62.true)

pub returns-else-b-eq62 : goal.returns-else-b-eq62
unfolding long_marks
returns-else-b-eq62 c = no_pair_from c.args.a c.args.b 45 62 refl c.in-45.is c.if-b-eq62.false

pub returns-then-b-eq124 : goal.returns-then-b-eq124
unfolding sign_cell long_marks same? ℕ_discrete
returns-then-b-eq124 c = rw (c.in-60.is, c.if-b-eq124.true)

pub returns-else-b-eq124 : goal.returns-else-b-eq124
unfolding long_marks
returns-else-b-eq124 c = no_pair_from c.args.a c.args.b 60 124 refl c.in-60.is c.if-b-eq124.false

pub returns-then-b-eq62-2 : goal.returns-then-b-eq62-2
unfolding sign_cell long_marks same? ℕ_discrete
returns-then-b-eq62-2 c = rw (c.in-124.is, c.if-b-eq62-2.true)

pub returns-else-b-eq62-2 : goal.returns-else-b-eq62-2
unfolding long_marks
returns-else-b-eq62-2 c = no_pair_from c.args.a c.args.b 124 62 refl c.in-124.is c.if-b-eq62-2.false

pub returns-then-b-eq92 : goal.returns-then-b-eq92
unfolding sign_cell long_marks same? ℕ_discrete
returns-then-b-eq92 c = rw (c.in-47.is, c.if-b-eq92.true)

pub returns-else-b-eq92 : goal.returns-else-b-eq92
unfolding long_marks
returns-else-b-eq92 c = no_pair_from c.args.a c.args.b 47 92 refl c.in-47.is c.if-b-eq92.false

pub returns-then-b-eq47 : goal.returns-then-b-eq47
unfolding sign_cell long_marks same? ℕ_discrete
returns-then-b-eq47 c = rw (c.in-92.is, c.if-b-eq47.true)

pub returns-else-b-eq47 : goal.returns-else-b-eq47
unfolding long_marks
returns-else-b-eq47 c = no_pair_from c.args.a c.args.b 92 47 refl c.in-92.is c.if-b-eq47.false

pub returns-in_default : goal.returns-in_default
returns-in_default c =
    let n₁ : c.args.a ≡ 45 → ⊥ = search in
    let n₂ : c.args.a ≡ 60 → ⊥ = search in
    let n₃ : c.args.a ≡ 124 → ⊥ = search in
    let n₄ : c.args.a ≡ 47 → ⊥ = search in
    let n₅ : c.args.a ≡ 92 → ⊥ = search in
    no_pair c.args.a c.args.b (λ p q. n₁ p) (λ p q. n₂ p) (λ p q. n₃ p) (λ p q. c.requires p) (λ p q. n₄ p) (λ p q. n₅ p)
