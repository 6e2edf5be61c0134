-- The one list of declared names is cut into those of each kind.
use mathlib.Core.Path.{◌≡◌, refl, sym, ◌∙◌, ap}
use mathlib.Core.List.{List, [], ◌∷◌, ◌++◌, map, map-append, append_assoc}
use Prim.Native.Nat.{ℕ, zero, suc, ◌+◌, ◌-◌, ◌≤◌}
use native.Mathlib.Omega.{arith}
use lib.ListN.{length, take, drop}
use lib.Seq.{drop_at, take_at, drop-drop}
use Rattle.pcrl.specs.Text.{bytes}
use Rattle.pcrl.specs.Tree.{Name}
use Rattle.names.specs.declared.Kinds.{Kinds}
use Rattle.names.specs.NameCells.{name_at, scope_at}
use Rattle.names.specs.NameKeys.{names_from}
use Rattle.names.specs.NameKinds.{total_of, sorts_in, funcs_in, acts_in, procs_in}
use Rattle.names.proofs.KeyLaws.{names_left}

take_none : (n : ℕ) → ◌≡◌ {A = List ℕ} [] (take n [])
take_none zero = refl
take_none (suc n) = refl

take_more : (a b : ℕ) (l : List ℕ) → take (a + b) l ≡ take a l ++ take b (drop a l)
take_more zero b l = let z : 0 + b ≡ b = omega arith in rw z refl
take_more (suc a) b [] = let z : suc a + b ≡ suc (a + b) = omega arith in rw z (take_none b)
take_more (suc a) b (x ∷ l) = let z : suc a + b ≡ suc (a + b) = omega arith in rw z (ap (◌∷◌ x) (take_more a b l))

module _ (s names : List ℕ) where
  -- a names, and b behind them
  behind : (a b : ℕ) → scope_at s names (a + b) ≡ scope_at s names a ++ names_from s names a b
  unfolding scope_at
  behind a b = ap (map (name_at s)) (take_more a b names) ∙ map-append (name_at s) (take a names) (take b (drop a names))

  -- ALL DECLARED NAMES are those of each kind, one behind the other.
  pub kinds_joined : (k : Kinds) → sorts_in s names k ++ (funcs_in s names k ++ (acts_in s names k ++ procs_in s names k)) ≡ bytes "Bool" ∷ scope_at s names (total_of k)
  unfolding sorts_in funcs_in acts_in procs_in
  kinds_joined k =
      ap (◌∷◌ (bytes "Bool")) (sym (rw (behind (k.sorts + k.funcs + k.acts) k.procs, behind (k.sorts + k.funcs) k.acts, behind k.sorts k.funcs) (simp append_assoc)))

  first_of : (n j : ℕ) (l : List ℕ) → j ≤ n → take j (scope_at s l n) ≡ scope_at s l j
  unfolding scope_at
  first_of n zero l h = refl
  first_of zero (suc j) l h = absurd (omega arith)
  first_of (suc n) (suc j) [] h = refl
  first_of (suc n) (suc j) (x ∷ l) h = ap (◌∷◌ (name_at s x)) (first_of n j l (omega arith))

  -- those that stand behind others, before others
  pub part_is : (n lo count : ℕ) (a b c : List Name) → scope_at s names n ≡ a ++ (b ++ c) → length a ≡ lo → length b ≡ count → lo + count ≤ n → names_from s names lo count ≡ b
  part_is n lo count a b c e la lb h =
      sym (first_of (n - lo) count (drop lo names) (omega arith)) ∙ (ap (take count) (sym (names_left s names lo n (n - lo) refl) ∙ (ap (drop lo) e ∙ drop_at a (b ++ c) lo la)) ∙ take_at b c count lb)

-- actions and processes stand together
pub parts_joined : (s names : List ℕ) (k : Kinds) → names_from s names (k.sorts + k.funcs) (k.acts + k.procs) ≡ acts_in s names k ++ procs_in s names k
unfolding acts_in procs_in
parts_joined s names k =
    behind s (drop (k.sorts + k.funcs) names) k.acts k.procs
    ∙ ap (λ (l : List ℕ). scope_at s (drop (k.sorts + k.funcs) names) k.acts ++ scope_at s l k.procs) (drop-drop k.acts (k.sorts + k.funcs) names)
