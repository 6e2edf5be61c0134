-- `==` over two values is seen in the tokens: a numeral that no `!` stands before, `==`, and a numeral. One pass over the tokens watches for it.
use Rattle.std.specs.Prelude.{◌≡◌, refl, List, [], ◌∷◌, ◌++◌, Bool, true, false}
use Rattle.std.proofs.Common.{ap, sym, ◌∙◌, append_assoc}
use Prim.Native.String.{String}
use Rattle.std.proofs.Math.Decide.{ℕ_discrete}
use Rattle.pcrl.specs.Text.{bytes}
use Rattle.pcrl.specs.Tests.{and, same?, among}
use Rattle.pcrl.specs.Tokens.{Token, name, numeral, sign, the}
use Rattle.pcrl.specs.Print.{bracketed, joined, line}
use Rattle.laws.specs.Booleans.{and_true}

-- what a token is to the one who watches
pub data Kind : Type 0 where
  value equals not other : Kind

unfoldable pub kind : Token → Kind
kind (name n) = other
kind (numeral v) = value
kind (sign w) = elim (among w (bytes "==" ∷ [])) [ true ↦ equals | false ↦ elim (among w (bytes "!" ∷ [])) [ true ↦ not | false ↦ other ] ]

-- nothing of it yet; behind `!`; behind a numeral with no `!` before it; behind that and `==`; it was met
pub data Watch : Type 0 where
  nothing behind_not behind_value behind_equals met : Watch

unfoldable pub next : Watch → Kind → Watch
next nothing value = behind_value
next nothing equals = nothing
next nothing not = behind_not
next nothing other = nothing
next behind_not value = nothing
next behind_not equals = nothing
next behind_not not = behind_not
next behind_not other = nothing
next behind_value value = behind_value
next behind_value equals = behind_equals
next behind_value not = behind_not
next behind_value other = nothing
next behind_equals value = met
next behind_equals equals = nothing
next behind_equals not = behind_not
next behind_equals other = nothing
next met k = met

unfoldable pub watched : Watch → List Token → Watch
watched s [] = s
watched s (t ∷ ts) = watched (next s (kind t)) ts

unfoldable pub unmet : Watch → Bool
unmet nothing = true
unmet behind_not = true
unmet behind_value = true
unmet behind_equals = true
unmet met = false

-- it is nowhere among these tokens
unfoldable pub apart : List Token → Bool
apart ts = unmet (watched nothing ts)

-- LAWS

pub watched_append : (s : Watch) (ts us : List Token) → watched s (ts ++ us) ≡ watched (watched s ts) us
unfolding watched
watched_append s [] us = refl
watched_append s (t ∷ ts) us = watched_append (next s (kind t)) ts us

pub met_stays : (ts : List Token) → watched met ts ≡ met
unfolding watched next
met_stays [] = refl
met_stays (t ∷ ts) = met_stays ts

pub nothing_apart : apart [] ≡ true
unfolding apart watched unmet
nothing_apart = refl

-- what stands behind any other token is watched anew
anew : (s : Watch) (us : List Token) → unmet (watched (next s other) us) ≡ and (unmet s) (apart us)
unfolding apart next unmet
anew nothing us = refl
anew behind_not us = refl
anew behind_value us = refl
anew behind_equals us = refl
anew met us = ap unmet (met_stays us)

pub then_other : (ts us : List Token) (u : Token) → kind u ≡ other → apart (ts ++ (u ∷ us)) ≡ and (apart ts) (apart us)
unfolding apart watched
then_other ts us u e = ap unmet (watched_append nothing ts (u ∷ us)) ∙ rw e (anew (watched nothing ts) us)

pub other_first : (t : Token) (ts : List Token) → kind t ≡ other → apart (t ∷ ts) ≡ apart ts
unfolding apart watched next
other_first t ts e = rw e

pub bracketed_apart : (ts : List Token) → apart (bracketed ts) ≡ apart ts
unfolding bracketed kind among same? ℕ_discrete
bracketed_apart ts = other_first (the "(") (ts ++ (the ")" ∷ [])) refl ∙ (then_other ts [] (the ")") refl ∙ rw nothing_apart (and_true (apart ts)))

-- each of a list passes
unfoldable pub all_pass : {A : Type 0} → (A → Bool) → List A → Bool
all_pass f [] = true
all_pass f (a ∷ l) = and (f a) (all_pass f l)

pub all_true : {A : Type 0} (f : A → Bool) → ((a : A) → f a ≡ true) → (l : List A) → all_pass f l ≡ true
unfolding all_pass
all_true f e [] = refl
all_true f e (a ∷ l) = rw (e a, all_true f e l)

pub joined_apart : {A : Type 0} (s : String) (w : A → List Token) → kind (the s) ≡ other → (l : List A) → apart (joined s w l) ≡ all_pass (λ a. apart (w a)) l
unfolding joined all_pass
joined_apart s w e [] = nothing_apart
joined_apart s w e (a ∷ []) = sym (and_true (apart (w a)))
joined_apart s w e (a ∷ b ∷ l) = then_other (w a) (joined s w (b ∷ l)) (the s) e ∙ ap (and (apart (w a))) (joined_apart s w e (b ∷ l))

-- a line, before what follows it
pub line_apart : (s : String) (ts us : List Token) → kind (the s) ≡ other → apart (line s ts ++ us) ≡ and (apart ts) (apart us)
unfolding line kind among same? ℕ_discrete
line_apart s ts us e = other_first (the s) ((ts ++ (the ";" ∷ [])) ++ us) e ∙ rw append_assoc (then_other ts us (the ";") refl)
