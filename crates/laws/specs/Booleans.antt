-- Laws of Booleans.
use Rattle.std.specs.Prelude.{◌≡◌, refl, Bool, true, false, ℕ}
use Rattle.std.proofs.Common.{arith}
use Rattle.pcrl.specs.Tests.{and, or}

-- tests joined, in the laws of Booleans
pub and_false : (a : Bool) → and a false ≡ false
and_false true = refl
and_false false = refl

pub and_true : (a : Bool) → and a true ≡ a
and_true true = refl
and_true false = refl

pub and_assoc : (a b c : Bool) → and (and a b) c ≡ and a (and b c)
and_assoc true b c = refl
and_assoc false b c = refl

pub or_false : (a : Bool) → or a false ≡ a
or_false true = refl
or_false false = refl

pub or_assoc : (a b c : Bool) → or (or a b) c ≡ or a (or b c)
or_assoc true b c = refl
or_assoc false b c = refl

-- from what cannot be
pub false_not_true : {A : Type 0} → false ≡ true → A
false_not_true e = absurd (let z : ◌≡◌ {A = ℕ} 0 1 = cc in omega arith)
