-- How many bytes a term has: at most three for two nodes, less a half, since `==` has a byte more and two terms behind it.
use Rattle.std.specs.Prelude.{List, [], ◌∷◌, ℕ, ◌+◌, ◌*◌, ◌≤◌, length}
use native.Mathlib.Omega.{arith}
use Rattle.std.proofs.Math.ListN.{get_elem?}
use Rattle.std.proofs.Common.{length-append}
use Rattle.pcrl.specs.Limits.{max_nodes}
use Rattle.pcrl.specs.Sheet.{Data, val, var, app, Datas, nil, cons, list_of, Operation, operation, Sig, function, function_at}
use Rattle.pcrl.specs.Sorts.{IsOperation, HasSort, HaveSorts}
use Rattle.pcrl.specs.Table.{nodes, nodes_all}
use Rattle.pcrl.specs.Stream.{codes, encode_data, encode_datas}
use Rattle.pcrl.specs.Right.{RightTerm}
use Rattle.laws.specs.DataSorts.{have_sorts_many}

-- A node is a byte, and `==`, which has two arguments, is two.
abbrev pub Narrow : Data → Type 0
Narrow d = 2 * length (encode_data d) + 1 ≤ 3 * nodes d

-- the most bytes of a narrow term that has no more nodes than a term may have: 31, of which 15 can be `==`
abbrev pub max_term : ℕ
max_term = 46

pub narrow_length : (d : Data) → Narrow d → nodes d ≤ max_nodes → length (encode_data d) ≤ max_term
narrow_length d h k = omega arith

module _ (S : Sig) (Γ : List ℕ) where
  -- a code of two bytes has two terms behind it
  code_length : (o : Operation) → IsOperation S o → 2 * length (codes o) ≤ 2 + length (function S o).takes
  unfolding IsOperation codes function
  code_length (Operation.written f) h = omega arith
  code_length Operation.not h = omega arith
  code_length Operation.and h = omega arith
  code_length Operation.or h = omega arith
  code_length (Operation.equal D) h = omega arith
  code_length Operation.unsorted h = absurd h

  mutual
    unfolding HasSort encode_data nodes list_of function_at

    pub data_length : (d : Data) (D : ℕ) → HasSort S (get_elem? Γ) d D → Narrow d
    data_length (val v) D h = omega arith
    data_length (var i) D h = omega arith
    data_length (app f ds) D h =
        let a = code_length (operation f) h.0 in
        let b = have_sorts_many S (get_elem? Γ) ds (function_at S f).takes h.1.1 in
        let c = datas_length ds (function_at S f).takes h.1.1 in
        let e = length-append (codes (operation f)) (encode_datas ds) in
        omega arith

    pub datas_length : (ds : Datas) (Ds : List ℕ) → HaveSorts S (get_elem? Γ) ds Ds → 2 * length (encode_datas ds) + length (list_of ds) ≤ 3 * nodes_all ds
    datas_length nil Ds h = omega arith
    datas_length (cons d ds) [] h = absurd h
    datas_length (cons d ds) (D ∷ Ds) h =
        let a = data_length d D h.0 in
        let b = datas_length ds Ds h.1 in
        let e = length-append (encode_data d) (encode_datas ds) in
        omega arith

  -- A RIGHT TERM HAS AT MOST 46 BYTES.
  pub term_length : (D : ℕ) (d : Data) → RightTerm S Γ D d → length (encode_data d) ≤ max_term
  term_length D d h = narrow_length d (data_length d D h.0) h.1
