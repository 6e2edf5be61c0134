-- The sorts of an action where they stand, and the names of sorts in their cells.
use mathlib.Core.Path.{◌≡◌, sym, ◌∙◌, ap}
use mathlib.Core.List.{List, [], map}
use Prim.Native.Nat.{ℕ, ◌+◌, ◌*◌, ◌<◌, ◌≤◌}
use native.Mathlib.Omega.{arith}
use lib.ListN.{length, get_or, length-map, get_or-eq_default}
use Rattle.pcrl.specs.Sheet.{Action, Sig, no_action, sort_name}
use Rattle.pcrl.specs.Right.{AreSorts}
use Rattle.laws.specs.Every.{every_at}
use Rattle.laws.specs.Lists.{get_d_map}
use Rattle.terms.specs.Stands.{list_at}
use Rattle.terms.proofs.Places.{sorts_stand, list_is}
use Rattle.firing.specs.Known.{ActsAt}
use Rattle.lettering.specs.SortNames.{name_cell, NamesIn}

module _ (S : Sig) (s acts : List ℕ) (actions : ℕ) (known : ActsAt S s acts actions) (a : ℕ) where
  pub sorts_are : a < actions → list_at s (get_or acts a 0 + 1 + get_or s (get_or acts a 0) 0) ≡ (get_or S.acts a no_action).takes
  sorts_are h = let n = known.count in list_is s (get_or acts a 0 + 1 + get_or s (get_or acts a 0) 0) _ (sorts_stand s (get_or acts a 0) (get_or S.acts a no_action) (known.act_at a (omega arith)))

  pub no_sorts : actions ≤ a → [] ≡ (get_or S.acts a no_action).takes
  no_sorts h = let n = known.count in sym (ap (λ (x : Action). x.takes) (get_or-eq_default S.acts no_action {n = a} (omega arith)))

pub sort_there : (S : Sig) (names : List ℕ) → NamesIn S names → (Ds : List ℕ) → AreSorts S.sorts Ds → (i : ℕ) → i < length Ds → list_at names (name_cell * get_or Ds i 0) ≡ get_or (map (sort_name S) Ds) i []
sort_there S names there Ds sorts i h =
    list_is names (name_cell * get_or Ds i 0) (sort_name S (get_or Ds i 0)) (there (get_or Ds i 0) (every_at (λ D. D < length S.sorts) Ds 0 i sorts h)) ∙ sym (get_d_map (sort_name S) Ds i 0 [] h)

pub no_sort : (S : Sig) (Ds : List ℕ) (i : ℕ) → length Ds ≤ i → [] ≡ get_or (map (sort_name S) Ds) i []
no_sort S Ds i h = let l = length-map Ds (sort_name S) in sym (get_or-eq_default (map (sort_name S) Ds) [] {n = i} (omega arith))
