-- How many new equations some terms have: a sum over their nodes.
use mathlib.Core.Path.{◌≡◌, refl, sym, ◌∙◌}
use mathlib.Core.List.{List, [], ◌∷◌, ◌++◌}
use mathlib.Core.Bool.{Bool, true, false}
use Prim.Native.Nat.{ℕ, ◌+◌}
use native.Mathlib.Omega.{arith}
use lib.ListN.{length, length-append}
use Rattle.pcrl.specs.Sheet.{Proc, delta, atom, alt, cond, sum, seq, call}
use Rattle.pcrl.specs.Parts.{if_after, new_parts, new_count}
use Rattle.nodes.specs.Layout.{one_if, Item}
use Rattle.nodes.specs.Nodes.{node_own, node_kids}

if_after_length : (r : Bool) (Γ : List ℕ) (p : Proc) → length (if_after r Γ p) ≡ one_if r
unfolding if_after one_if
if_after_length true Γ p = refl
if_after_length false Γ p = refl

-- how many there are does not depend on what is in scope
scope_free : (r : Bool) (Γ Δ : List ℕ) (p : Proc) → length (new_parts r Γ p) ≡ length (new_parts r Δ p)
unfolding new_parts
scope_free r Γ Δ delta = if_after_length r Γ delta ∙ sym (if_after_length r Δ delta)
scope_free r Γ Δ (atom a ds) = if_after_length r Γ (atom a ds) ∙ sym (if_after_length r Δ (atom a ds))
scope_free r Γ Δ (alt p q) =
    simp length-append (omega (arith, if_after_length r Γ (alt p q), if_after_length r Δ (alt p q), scope_free false Γ Δ p, scope_free false Γ Δ q))
scope_free r Γ Δ (cond c p q) =
    simp length-append (omega (arith, if_after_length r Γ (cond c p q), if_after_length r Δ (cond c p q), scope_free false Γ Δ p, scope_free false Γ Δ q))
scope_free r Γ Δ (sum x D p) =
    simp length-append (omega (arith, if_after_length r Γ (sum x D p), if_after_length r Δ (sum x D p), scope_free false (Γ ++ (D ∷ [])) (Δ ++ (D ∷ [])) p))
scope_free r Γ Δ (seq p q) = simp length-append (omega (arith, scope_free r Γ Δ p, scope_free true Γ Δ q))
scope_free r Γ Δ (call k ds) = refl

unfoldable pub new_all : List Item → ℕ
new_all [] = 0
new_all (x ∷ xs) = new_count x.0 x.1 + new_all xs

-- a term's are its first node's and those of its subterms
pub new_open : (r : Bool) (p : Proc) (xs : List Item) → new_all ((r, p) ∷ xs) ≡ node_own r p + new_all (node_kids r p ++ xs)
unfolding new_all new_count new_parts node_own node_kids
new_open r delta xs = omega (arith, if_after_length r [] delta)
new_open r (atom a ds) xs = omega (arith, if_after_length r [] (atom a ds))
new_open r (alt p q) xs =
    omega (arith, if_after_length r [] (alt p q), length-append (if_after r [] (alt p q)) (new_parts false [] p ++ new_parts false [] q), length-append (new_parts false [] p) (new_parts false [] q))
new_open r (cond c p q) xs =
    omega (arith, if_after_length r [] (cond c p q), length-append (if_after r [] (cond c p q)) (new_parts false [] p ++ new_parts false [] q), length-append (new_parts false [] p) (new_parts false [] q))
new_open r (sum x D p) xs =
    omega (arith, if_after_length r [] (sum x D p), length-append (if_after r [] (sum x D p)) (new_parts false (D ∷ []) p), scope_free false (D ∷ []) [] p)
new_open r (seq p q) xs = omega (arith, length-append (new_parts r [] p) (new_parts true [] q))
new_open r (call k ds) xs = refl
