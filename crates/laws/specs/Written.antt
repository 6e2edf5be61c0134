-- What is written for the elements of a list.
use Rattle.std.specs.Prelude.{◌≡◌, refl, List, [], ◌∷◌, ◌++◌, ℕ}
use Rattle.std.proofs.Common.{ap, sym, ◌∙◌, append_assoc}
use Rattle.pcrl.specs.Reader.{all}

-- what is written for two lists, one after the other
pub all_append : {A : Type 0} (w : A → List ℕ) (l m : List A) → all w (l ++ m) ≡ all w l ++ all w m
unfolding all
all_append w [] m = refl
all_append w (a ∷ l) m = ap (λ (k : List ℕ). w a ++ k) (all_append w l m) ∙ sym (append_assoc (w a) (all w l) (all w m))
