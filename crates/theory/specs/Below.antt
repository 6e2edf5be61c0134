-- Data terms whose variables are below m: more variables behind those do not change what they are worth.
use Rattle.std.specs.Prelude.{◌≡◌, ℕ, suc, ◌<◌, length}
use Rattle.std.proofs.Math.Path.{refl}
use Rattle.std.proofs.Common.{ap, arith}
use mathlib.Core.List.{List, [], ◌∷◌, ◌++◌, map}
use Rattle.std.proofs.Math.ListN.{get_or-append}
use Rattle.pcrl.specs.Tests.{Every}
use Rattle.pcrl.specs.Sheet.{Data, val, var, app, Datas, nil, cons, Sig}
use Rattle.pcrl.specs.Values.{apply, eval, evals, put_data, put_datas}
use Rattle.pcrl.specs.Heads.{look}
use Rattle.laws.specs.Every.{every_append, every_get_or, every_weaken}

unfoldable mutual
  pub Below : ℕ → Data → Type 0
  Below m (val v) = Unit {0}
  Below m (var i) = i < m
  Below m (app f ds) = BelowIn m ds

  pub BelowIn : ℕ → Datas → Type 0
  BelowIn m nil = Unit {0}
  BelowIn m (cons d ds) = Below m d × BelowIn m ds

mutual
  unfolding Below

  below_suc : (m : ℕ) (d : Data) → Below m d → Below (suc m) d
  below_suc m (val v) h = tt
  below_suc m (var i) h = omega arith
  below_suc m (app f ds) h = below_in_suc m ds h

  below_in_suc : (m : ℕ) (ds : Datas) → BelowIn m ds → BelowIn (suc m) ds
  below_in_suc m nil h = tt
  below_in_suc m (cons d ds) h = (below_suc m d h.0, below_in_suc m ds h.1)

-- with the next variable
pub below_snoc : (m : ℕ) (σ : List Data) → Every (Below m) σ → Every (Below (suc m)) (σ ++ (var m ∷ []))
unfolding Every Below
below_snoc m σ h = every_append (Below (suc m)) σ (var m ∷ []) (every_weaken (Below m) (Below (suc m)) (below_suc m) σ h) (omega arith, tt)

module _ (m : ℕ) (σ : List Data) (below : Every (Below m) σ) where
  mutual
    unfolding Below put_data look

    pub below_look : (d : Data) → Below m (put_data (look σ) d)
    below_look (val v) = tt
    below_look (var i) = every_get_or (Below m) σ (val 0) i below tt
    below_look (app f ds) = below_look_in ds

    below_look_in : (ds : Datas) → BelowIn m (put_datas (look σ) ds)
    below_look_in nil = tt
    below_look_in (cons d ds) = (below_look d, below_look_in ds)

  pub all_below_look : (ds : List Data) → Every (Below m) (map (put_data (look σ)) ds)
  unfolding Every
  all_below_look [] = tt
  all_below_look (d ∷ ds) = (below_look d, all_below_look ds)

module _ (S : Sig) (τ w : List ℕ) where
  mutual
    unfolding Below eval

    pub eval_more : (d : Data) → Below (length τ) d → eval S (τ ++ w) d ≡ eval S τ d
    eval_more (val v) h = refl
    eval_more (var i) h = get_or-append τ w 0 i h
    eval_more (app f ds) h = ap (apply S f) (evals_more ds h)

    evals_more : (ds : Datas) → BelowIn (length τ) ds → evals S (τ ++ w) ds ≡ evals S τ ds
    evals_more nil h = refl
    evals_more (cons d ds) h = cc (eval_more d h.0, evals_more ds h.1)

  pub all_eval_more : (ds : List Data) → Every (Below (length τ)) ds → map (eval S (τ ++ w)) ds ≡ map (eval S τ) ds
  unfolding Every
  all_eval_more [] h = refl
  all_eval_more (d ∷ ds) h = cc (eval_more d h.0, all_eval_more ds h.1)
