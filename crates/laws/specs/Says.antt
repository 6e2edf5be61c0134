-- A test's answer: a Bool that says whether something holds. How it is shown, what each answer says, and how it passes to another statement.
use Rattle.std.specs.Prelude.{◌≡◌, refl, Bool, true, false, ℕ, ◌<◌, ltb, eqb}
use Rattle.std.proofs.Common.{subst, arith, ltb-true, ltb-false, eqb-true}
use Rattle.std.proofs.lemmas.Bool.{eqb-false}

-- true says that P holds, false that it does not
abbrev pub Says : Bool → Type 0 → Type 0
Says true P = P
Says false P = ¬ P

-- an answer is shown by its two cases
pub says : {P : Type 0} (r : Bool) → (r ≡ true → P) → (r ≡ false → ¬ P) → Says r P
says true f g = f refl
says false f g = g refl

-- what is said, where it is known which answer it is
pub said_yes : {P : Type 0} (r : Bool) → Says r P → r ≡ true → P
said_yes {P} r s e = subst (λ (t : Bool). Says t P) e s

pub said_no : {P : Type 0} (r : Bool) → Says r P → r ≡ false → ¬ P
said_no {P} r s e = subst (λ (t : Bool). Says t P) e s

-- of one statement and of another that holds if and only if it does
pub says_as : (r : Bool) {P Q : Type 0} → (P → Q) → (Q → P) → Says r P → Says r Q
says_as true f g s = f s
says_as false f g s = λ q. s (g q)

-- the first part holds, and the second is answered
pub says_both : (r : Bool) {P : Type 0} (Q : Type 0) → P → Says r Q → Says r (P × Q)
says_both r Q p s = says_as r (λ q. (p, q)) (λ x. x.1) s

-- two numbers compared
pub says_lt : (a b : ℕ) → Says (ltb a b) (a < b)
says_lt a b = says (ltb a b) (ltb-true a b) (λ e h. let z = ltb-false a b e in omega arith)

pub says_eq : (a b : ℕ) → Says (eqb a b) (a ≡ b)
says_eq a b = says (eqb a b) (eqb-true a b) (eqb-false a b)
