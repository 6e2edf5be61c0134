-- What a `match` on a number knows in an arm, turned into an equation with a function of that number by a test that antt computes:
-- `keyed` where the number is one of an arm's keys, `ranged` where it lies in a range and is none of the keys.
use mathlib.Core.Path.{◌≡◌}
use mathlib.Core.List.{List}
use Prim.Native.Nat.{ℕ, ◌+◌, ◌<◌, ◌≤◌}
use lib.Dec.{T, eqb, eqb→eq}
use types.Run.{OneOf}
use Rattle.pcrl.specs.Tests.{or}
use Rattle.lexer.proofs.Match.{all_of, keyed_test, Rest, is_key, all_from, ranged_test}

pub keyed : (f : ℕ → ℕ) (v : ℕ) (ks : List ℕ) → T (all_of (λ b. eqb v (f b)) ks) → (b : ℕ) → OneOf ks b → v ≡ f b
keyed f v ks t b o = eqb→eq v (f b) (keyed_test (λ b. eqb v (f b)) ks t b o)

pub ranged : (f : ℕ → ℕ) (v : ℕ) (kss : List (List ℕ)) (lo n : ℕ) → T (all_from (λ b. or (is_key kss b) (eqb v (f b))) lo n)
    → (b : ℕ) → lo ≤ b → b < lo + n → Rest kss b → v ≡ f b
ranged f v kss lo n t b l h r = eqb→eq v (f b) (ranged_test (λ b. eqb v (f b)) kss lo n t b l h r)
