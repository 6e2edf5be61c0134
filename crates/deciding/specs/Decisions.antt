-- Decisions made of others: of two, the second is only looked at where the first says yes.
use Rattle.std.specs.Prelude.{refl, List, [], ◌∷◌, ◌↔◌}
use Rattle.pcrl.specs.Steps.{here}
use Rattle.laws.specs.Any.{In, any_none}

unfoldable pub and_then? : {P Q : Type 0} → Dec P → (P → Dec Q) → Dec (P × Q)
and_then? (yes p) q = elim (q p) [ yes h ↦ yes (p, h) | no h ↦ no (λ x. h x.1) ]
and_then? (no h) q = no (λ x. h x.0)

unfoldable pub iff? : {P Q : Type 0} → Dec P → Dec Q → Dec (P ↔ Q)
iff? (yes p) (yes q) = yes (λ _. q, λ _. p)
iff? (yes p) (no q) = no (λ e. q (e.0 p))
iff? (no p) (yes q) = no (λ e. p (e.1 q))
iff? (no p) (no q) = yes (λ h. absurd (p h), λ h. absurd (q h))

-- for what holds exactly where P does
unfoldable pub as? : {P Q : Type 0} → (P → Q) → (Q → P) → Dec P → Dec Q
as? f g (yes p) = yes (f p)
as? f g (no h) = no (λ q. h (g q))

-- whether P holds of something, from a list of all of which it does
unfoldable pub inhabited? : {X : Type 0} {P : X → Type 0} (xs : List X) → ((x : X) → In x xs → P x) → ((x : X) → P x → In x xs) → Dec ((x : X) × P x)
inhabited? [] f g = no (λ r. any_none (g r.0 r.1))
inhabited? (x ∷ xs) f g = yes (x, f x (here refl))

-- WHAT WAS DECIDED

abbrev pub IsYes : {P : Type 0} → Dec P → Type 0
IsYes (yes h) = Unit {0}
IsYes (no h) = ⊥

abbrev pub IsNo : {P : Type 0} → Dec P → Type 0
IsNo (yes h) = ⊥
IsNo (no h) = Unit {0}

pub from_yes : {P : Type 0} (d : Dec P) → IsYes d → P
from_yes (yes h) t = h
from_yes (no h) t = absurd t

pub from_no : {P : Type 0} (d : Dec P) → IsNo d → P → ⊥
from_no (yes h) t = absurd t
from_no (no h) t = h
