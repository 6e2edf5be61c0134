-- At a call: the heads of the right side are those of the call.
use mathlib.Core.Path.{◌≡◌, refl, ap, subst}
use mathlib.Core.List.{List}
use mathlib.Core.Logic.{◌⊎◌, inl, inr}
use Rattle.std.specs.Prelude.{Some, None, Result, Err}
use Rattle.refusals.specs.declared.Refusal.{Refusal}
use Prim.Native.Nat.{ℕ}
use native.Mathlib.Omega.{arith}
use lib.ListN.{length, take, drop}
use Rattle.std.proofs.lemmas.Result.{on_ok_weaker}
use Rattle.nodes.specs.declared.Node.{Node}
use Rattle.nodes.specs.Layout.{alt_kind, atom_kind, cond_kind, call_kind}
use Rattle.nodes.specs.Views.{Views}
use Rattle.contexts.specs.declared.Spot.{Spot}
use Rattle.contexts.specs.Spots.{arrays}
use Rattle.contexts.specs.Steps.{CallDown}
use Rattle.heads.specs.Progress.{Leaf, Parting, start, WrittenBy}

-- no choice: a leaf; no action: a call
pub leaf_kind : (kind : ℕ) → Leaf kind ⊎ Parting kind → (kind ≡ alt_kind → ⊥) × (kind ≡ cond_kind → ⊥) → Leaf kind
leaf_kind kind (inl h) n = h
leaf_kind kind (inr (inl h)) n = absurd (n.0 h)
leaf_kind kind (inr (inr h)) n = absurd (n.1 h)

pub is_call : (kind : ℕ) → Leaf kind → (kind ≡ atom_kind → ⊥) → kind ≡ call_kind
is_call kind (inl h) n = absurd (n h)
is_call kind (inr h) n = h

module _ (cells starts counts firsts : List ℕ) (s : Spot) (d : Node) (vw : Views cells s.at d) (is : d.kind ≡ call_kind) (slots vars conds calls : List ℕ) (mine : List ℕ) (w : ℕ) (o : List ℕ) (heads q room : ℕ) where
  pub call_fails : CallDown cells starts firsts d s slots None mine → (x : Refusal) → WrittenBy cells starts counts firsts (start s (arrays slots vars conds calls) w o heads q room) (Err x) (arrays slots vars conds calls) o
  call_fails cd x H F hs rd sp ro = (λ fit. let z = cd counts vars conds calls vw is H F hs rd sp fit in absurd (omega (arith, ap length z, ro.many, ro.some)), tt)

  pub call_out : (r : Spot) → CallDown cells starts firsts d s slots (Some r) mine → (x : Result ℕ Refusal) (mine' vars' conds' calls' o' : List ℕ) → WrittenBy cells starts counts firsts (start r (arrays mine vars conds calls) w o heads q room) x (arrays mine' vars' conds' calls') o'
      → WrittenBy cells starts counts firsts (start s (arrays slots vars conds calls) w o heads q room) x (arrays slots vars' conds' calls') o'
  call_out r cd x mine' vars' conds' calls' o' wr H F hs rd sp ro =
      let (u, e₁, e₂, e₃) = cd counts vars conds calls vw is H F hs rd sp in
      let k = wr H F hs rd u (record { many = ro.many; some = ro.some; few = ro.few; room_for = ro.room_for }) in (
        k.0,
        on_ok_weaker x (λ p.
            record {
              slots_kept = refl;
              vars_kept = subst (λ (i : ℕ). take i vars' ≡ take i vars) e₁ p.vars_kept;
              conds_kept = subst (λ (i : ℕ). take i conds' ≡ take i conds) e₂ p.conds_kept;
              calls_kept = subst (λ (i : ℕ). drop i calls' ≡ drop i calls) e₃ p.calls_kept;
            }) k.1,
      )
