-- The arguments of a function and a list of terms: taken from its front by the reader, put before it in prefix order.
-- Bytes, nodes and sorts are the same both ways.
use Rattle.std.specs.Prelude.{◌≡◌, ℕ, zero, suc, ◌+◌, length, drop}
use Rattle.std.proofs.Math.Path.{refl, ap}
use Rattle.std.proofs.Common.{sym, ◌∙◌, arith}
use mathlib.Core.List.{List, [], ◌∷◌, ◌++◌, append_assoc}
use Rattle.std.proofs.Math.ListN.{get_elem?}
use Rattle.pcrl.specs.Tests.{Each}
use Rattle.pcrl.specs.Reader.{all}
use Rattle.pcrl.specs.Sheet.{Data, Datas, nil, cons, list_of, Sig}
use Rattle.pcrl.specs.Sorts.{HasSort, HaveSorts}
use Rattle.pcrl.specs.Table.{nodes, nodes_all}
use Rattle.pcrl.specs.Stream.{encode_data, encode_datas}
use Rattle.pcrl.specs.Decode.{arguments_of}

-- the nodes of a list of terms
unfoldable pub nodes_list : List Data → ℕ
nodes_list [] = 0
nodes_list (d ∷ ds) = nodes d + nodes_list ds

-- PUT BEFORE

pub encode_put : (ds : Datas) (ts : List Data) → all encode_data (list_of ds ++ ts) ≡ encode_datas ds ++ all encode_data ts
unfolding all list_of encode_datas
encode_put nil ts = refl
encode_put (cons d ds) ts = ap (λ (l : List ℕ). encode_data d ++ l) (encode_put ds ts) ∙ sym (append_assoc (encode_data d) (encode_datas ds) (all encode_data ts))

pub nodes_put : (ds : Datas) (ts : List Data) → nodes_list (list_of ds ++ ts) ≡ nodes_all ds + nodes_list ts
unfolding nodes_list list_of nodes_all
nodes_put nil ts = omega arith
nodes_put (cons d ds) ts = omega (arith, nodes_put ds ts)

-- TAKEN OFF

pub encode_taken : (n : ℕ) (ts : List Data) → encode_datas (arguments_of n ts) ++ all encode_data (drop n ts) ≡ all encode_data ts
unfolding all arguments_of encode_datas
encode_taken zero ts = refl
encode_taken (suc n) [] = refl
encode_taken (suc n) (t ∷ ts) = append_assoc (encode_data t) (encode_datas (arguments_of n ts)) (all encode_data (drop n ts)) ∙ ap (λ (l : List ℕ). encode_data t ++ l) (encode_taken n ts)

pub nodes_taken : (n : ℕ) (ts : List Data) → nodes_all (arguments_of n ts) + nodes_list (drop n ts) ≡ nodes_list ts
unfolding nodes_list arguments_of nodes_all
nodes_taken zero ts = omega arith
nodes_taken (suc n) [] = omega arith
nodes_taken (suc n) (t ∷ ts) = omega (arith, nodes_taken n ts)

module _ (S : Sig) (Γ : List ℕ) where
  -- terms of these sorts
  abbrev pub Sorted : List ℕ → List Data → Type 0
  Sorted Ds ts = Each (λ (D : ℕ) (t : Data). HasSort S (get_elem? Γ) t D) Ds ts

  pub sorted_put : (ds : Datas) (Es : List ℕ) (Ds : List ℕ) (ts : List Data) → HaveSorts S (get_elem? Γ) ds Es → Sorted Ds ts → Sorted (Es ++ Ds) (list_of ds ++ ts)
  unfolding Each list_of HasSort
  sorted_put nil [] Ds ts h k = k
  sorted_put nil (E ∷ Es) Ds ts h k = absurd h
  sorted_put (cons d ds) [] Ds ts h k = absurd h
  sorted_put (cons d ds) (E ∷ Es) Ds ts h k = (h.0, sorted_put ds Es Ds ts h.1 k)

  pub arguments_put : (ds : Datas) (Es : List ℕ) (ts : List Data) → HaveSorts S (get_elem? Γ) ds Es → arguments_of (length Es) (list_of ds ++ ts) ≡ ds
  unfolding arguments_of list_of HasSort
  arguments_put nil [] ts h = refl
  arguments_put nil (E ∷ Es) ts h = absurd h
  arguments_put (cons d ds) [] ts h = absurd h
  arguments_put (cons d ds) (E ∷ Es) ts h = ap (cons d) (arguments_put ds Es ts h.1)

  pub drop_put : (ds : Datas) (Es : List ℕ) (ts : List Data) → HaveSorts S (get_elem? Γ) ds Es → drop (length Es) (list_of ds ++ ts) ≡ ts
  unfolding list_of HasSort
  drop_put nil [] ts h = refl
  drop_put nil (E ∷ Es) ts h = absurd h
  drop_put (cons d ds) [] ts h = absurd h
  drop_put (cons d ds) (E ∷ Es) ts h = drop_put ds Es ts h.1

  pub sorted_taken : (Es Ds : List ℕ) (ts : List Data) → Sorted (Es ++ Ds) ts → HaveSorts S (get_elem? Γ) (arguments_of (length Es) ts) Es × Sorted Ds (drop (length Es) ts)
  unfolding Each arguments_of HasSort
  sorted_taken [] Ds ts h = (tt, h)
  sorted_taken (E ∷ Es) Ds [] h = absurd h
  sorted_taken (E ∷ Es) Ds (t ∷ ts) h = let (k, l) = sorted_taken Es Ds ts h.1 in ((h.0, k), l)
