-- Lists made element by element.
use Rattle.std.specs.Prelude.{◌≡◌, refl, List, ◌∷◌, map, ℕ, zero, suc, ◌<◌}
use Rattle.std.proofs.Common.{ap, ap₂, arith}
use Rattle.pcrl.specs.Lists.{tabulate}

pub tabulate_alike : {A : Type 0} (n : ℕ) (f g : ℕ → A) → ((i : ℕ) → i < n → f i ≡ g i) → tabulate n f ≡ tabulate n g
unfolding tabulate
tabulate_alike zero f g h = refl
tabulate_alike (suc n) f g h = ap₂ ◌∷◌ (h zero (omega arith)) (tabulate_alike n (λ i. f (suc i)) (λ i. g (suc i)) (λ i k. h (suc i) (omega arith)))

pub map_tabulate : {A B : Type 0} (g : A → B) (n : ℕ) (f : ℕ → A) → map g (tabulate n f) ≡ tabulate n (λ i. g (f i))
unfolding tabulate
map_tabulate g zero f = refl
map_tabulate {A} {B} g (suc n) f = ap (λ (l : List B). g (f zero) ∷ l) (map_tabulate g n (λ i. f (suc i)))
