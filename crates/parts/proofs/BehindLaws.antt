-- Laws of `PutsFrom`: nothing, one list behind another.
use mathlib.Core.Path.{◌≡◌, refl, sym, subst, ◌∙◌}
use mathlib.Core.List.{List, [], ◌∷◌, ◌++◌}
use Prim.Native.Nat.{ℕ}
use native.Mathlib.Omega.{arith}
use Rattle.std.specs.Prelude.{Option, Some, None}
use Rattle.emit.specs.Putting.{NoRoom, Puts}
use Rattle.emit.proofs.Putting.{puts_none, puts_then, no_room_first, no_room_then}
use Rattle.parts.specs.Behind.{PutsFrom}

pub from_none : (w : Option ℕ) (o : List ℕ) → PutsFrom [] w o w o
from_none None o = (refl, refl)
from_none (Some w) o = puts_none w o

pub from_as : {e d : List ℕ} (w : Option ℕ) (o : List ℕ) (v : Option ℕ) (p : List ℕ) → e ≡ d → PutsFrom e w o v p → PutsFrom d w o v p
from_as w o v p z h = subst (λ (l : List ℕ). PutsFrom l w o v p) z h

none_some : {A : Type 0} (n : ℕ) → ◌≡◌ {A = Option ℕ} (Some n) None → A
none_some n h = grind arith

-- where a place is known, or none
pub from_some : (e : List ℕ) (w : Option ℕ) (o : List ℕ) (r : Option ℕ) (p : List ℕ) (v : ℕ) → w ≡ Some v → Puts e v o r p → PutsFrom e w o r p
from_some e w o r p v z h = subst (λ (x : Option ℕ). PutsFrom e x o r p) (sym z) h

pub from_nowhere : (e : List ℕ) (w : Option ℕ) (o : List ℕ) → w ≡ None → PutsFrom e w o None o
from_nowhere e w o z = subst (λ (x : Option ℕ). PutsFrom e x o None o) (sym z) (refl, refl)

-- ONE LIST BEHIND ANOTHER
pub from_then : (e d o p q : List ℕ) (w v r : Option ℕ) → PutsFrom e w o v p → PutsFrom d v p r q → PutsFrom (e ++ d) w o r q
from_then e d o p q None None r f g = (g.0, g.1 ∙ f.1)
from_then e d o p q None (Some v) r f g = none_some v f.0
from_then e d o p q (Some w) None None f g = subst (λ (l : List ℕ). NoRoom (e ++ d) w o l) (sym g.1) (no_room_first d f)
from_then e d o p q (Some w) None (Some r) f g = none_some r g.0
from_then e d o p q (Some w) (Some v) None f g = no_room_then f g
from_then e d o p q (Some w) (Some v) (Some r) f g = puts_then f g

pub byte_as : (a b w : ℕ) (o : List ℕ) (r : Option ℕ) (p : List ℕ) → a ≡ b → Puts (a ∷ []) w o r p → Puts (b ∷ []) w o r p
byte_as a b w o r p z h = subst (λ (x : ℕ). Puts (x ∷ []) w o r p) z h
