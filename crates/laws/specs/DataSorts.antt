-- Data that have sorts, "argument counts right": they are as many as the sorts.
use Rattle.std.specs.Prelude.{◌≡◌, refl, List, [], ◌∷◌, ℕ, suc, length}
use Rattle.std.proofs.Common.{ap}
use Rattle.pcrl.specs.Sheet.{Datas, nil, cons, list_of, Sig}
use Rattle.pcrl.specs.Sorts.{Scope, HaveSorts}

pub have_sorts_many : (S : Sig) (Γ : Scope) (ds : Datas) (Ds : List ℕ) → HaveSorts S Γ ds Ds → length (list_of ds) ≡ length Ds
unfolding HaveSorts list_of
have_sorts_many S Γ nil [] h = refl
have_sorts_many S Γ nil (D ∷ Ds) h = absurd h
have_sorts_many S Γ (cons d ds) [] h = absurd h
have_sorts_many S Γ (cons d ds) (D ∷ Ds) h = ap suc (have_sorts_many S Γ ds Ds h.1)
