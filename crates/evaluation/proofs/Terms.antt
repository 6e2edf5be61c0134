-- The bytes of a rightly sorted term: they are worth its value, and they are as many as its encoding has.
use mathlib.Core.Path.{◌≡◌, refl, sym, ap, ap₂, subst, ◌∙◌}
use mathlib.Core.List.{List, [], ◌∷◌, ◌++◌, append_assoc, append-nil}
use Prim.Native.Nat.{ℕ, zero, suc, ◌+◌, ◌*◌, ◌≤◌, ◌<◌}
use native.Mathlib.Omega.{arith}
use lib.Dec.{eqb, ltb}
use mathlib.Core.Bool.{Bool, true, false}
use borrow.Author.Tests.{ltb-true, ltb-false, lt-ltb}
use lib.ListN.{length, get_or, get_elem?, length-append, get_or-eq_default}
use lib.Seq.{drop-append_seam}
use Rattle.pcrl.specs.Tests.{Between, Every, Each}
use Rattle.pcrl.specs.Reader.{all}
use Rattle.pcrl.specs.Sheet.{Data, val, var, app, Datas, nil, cons, no_func, Operation, operator, operation, not_number, Sig, size, func, function, function_at}
use Rattle.pcrl.specs.Sorts.{IsOperation, HasSort, HaveSorts, volume}
use Rattle.pcrl.specs.Values.{place, apply, eval, evals}
use Rattle.pcrl.specs.Stack.{InSorts}
use Rattle.pcrl.specs.Stream.{variable_code, codes, encode_data, encode_datas, encode_numbers, encode_func}
use Rattle.pcrl.specs.Right.{RightSizes, RightFunc}
use Rattle.pcrl.specs.Decode.{Node}
use Rattle.laws.specs.Every.{every_at}
use Rattle.laws.specs.Lists.{below_some}
use Rattle.laws.specs.Operations.{Seen, as_written, as_not, as_and, as_or, as_equal, as_unsorted, as_none, seen, equal_number}
use Rattle.codec.specs.TermLaws.{node_value, node_variable, node_function}
use Rattle.theory.specs.OperatorValues.{same_of, apply_not, apply_and, apply_or, apply_equal}
use Rattle.theory.specs.ValueSorts.{place_below, evals_in}
use Rattle.terms.specs.Stands.{Stands}
use Rattle.terms.proofs.Places.{number_at, behind, arity_at, takes_at}
use Rattle.evaluation.specs.Run.{pick, top, operator_count, operator_worth, argument_count, looked_up, extent, worth_of, run}
use Rattle.evaluation.specs.Known.{KnownTerms, Alike}
use Rattle.evaluation.proofs.Bytes.{run_same}

-- a term has a byte
pub some_byte : (S : Sig) (Γ : List ℕ) (d : Data) (D : ℕ) → HasSort S (get_elem? Γ) d D → 0 < length (encode_data d)
unfolding HasSort encode_data IsOperation codes
some_byte S Γ (val v) D h = omega arith
some_byte S Γ (var i) D h = omega arith
some_byte S Γ (app f ds) D h = let a = go (operation f) h.0 in omega (arith, length-append (codes (operation f)) (encode_datas ds))
  where
    go : (o : Operation) → IsOperation S o → 0 < length (codes o)
    go (Operation.written f) k = omega arith
    go Operation.not k = omega arith
    go Operation.and k = omega arith
    go Operation.or k = omega arith
    go (Operation.equal E) k = omega arith
    go Operation.unsorted k = absurd k

module _ (S : Sig) (s funcs : List ℕ) (known : KnownTerms S s funcs) where
  -- A FUNCTION AT ITS PLACE

  module _ (f : ℕ) (there : f < length S.funcs) where
    right_func : RightFunc S.sorts (func S f)
    unfolding func
    right_func = every_at (RightFunc S.sorts) S.funcs no_func f known.right_funcs there

    stands : Stands s (get_or funcs f 0) (encode_func (func S f))
    stands = known.func_at f there

    few : Between 1 2 (length (func S f).takes)
    unfolding RightFunc
    few = right_func.0.0

    are_sorts : Every (λ D. D < length S.sorts) (func S f).takes
    unfolding RightFunc
    are_sorts = right_func.0.1

    whole : length (func S f).values ≡ volume S.sorts (func S f).takes
    unfolding RightFunc
    whole = right_func.1.1.0

    arity : get_or s (get_or funcs f 0) 0 ≡ length (func S f).takes
    arity = arity_at s (get_or funcs f 0) (func S f) stands

    -- the values stand behind the result
    value_at : (i p : ℕ) → i < length (func S f).values → p ≡ get_or funcs f 0 + (2 + length (func S f).takes) + i → get_or s p 0 ≡ get_or (func S f).values i 0
    unfolding encode_func encode_numbers
    value_at i p h e =
        let g = func S f in
        let q = get_or funcs f 0 in
        let a : Stands s (q + length (length g.takes ∷ g.takes)) (g.gives ∷ g.values) = behind s q (length g.takes ∷ g.takes) (g.gives ∷ g.values) stands in
        let z : p ≡ q + length (length g.takes ∷ g.takes) + suc i = omega arith in
        ap (λ (x : ℕ). get_or s x 0) z ∙ number_at s (q + length (length g.takes ∷ g.takes)) (g.gives ∷ g.values) (suc i) a (omega arith)

    -- as many arguments as sorts
    argument_count_is : f < not_number → argument_count s funcs (Node.function f) ≡ length (func S f).takes
    unfolding argument_count
    argument_count_is h = rw (lt-ltb f not_number h, arity) (go (length (func S f).takes) few)
      where
        go : (n : ℕ) → Between 1 2 n → pick (eqb n 1) 1 2 ≡ n
        go zero b = absurd (omega arith)
        go (suc zero) b = refl
        go (suc (suc zero)) b = refl
        go (suc (suc (suc n))) b = absurd (omega arith)

    -- the value read is that of the function
    looked_up_is : (vs rest : List ℕ) → InSorts S (func S f).takes vs → looked_up s funcs (get_or funcs f 0) (get_or (vs ++ rest) 0 0) (get_or (vs ++ rest) 1 0) ≡ get_or (func S f).values (place S 0 (func S f).takes vs) 0
    unfolding place InSorts Each
    looked_up_is vs rest h = go (func S f).takes vs refl h
      where
        inside : (Ds ws : List ℕ) → (func S f).takes ≡ Ds → InSorts S Ds ws → place S 0 Ds ws < length (func S f).values
        inside Ds ws e k = let b = place_below S 0 1 Ds ws (omega arith) k in let w = whole in let v : volume S.sorts (func S f).takes ≡ volume S.sorts Ds = ap (volume S.sorts) e in omega arith

        go : (Ds ws : List ℕ) → (func S f).takes ≡ Ds → InSorts S Ds ws
            → looked_up s funcs (get_or funcs f 0) (get_or (ws ++ rest) 0 0) (get_or (ws ++ rest) 1 0) ≡ get_or (func S f).values (place S 0 Ds ws) 0
        go [] ws e k = absurd (omega (arith, few.0, ap length e))
        go (D ∷ []) [] e k = absurd k
        go (D ∷ []) (v ∷ x ∷ ws) e k = absurd k.1
        go (D ∷ []) (v ∷ []) e k =
            let one : get_or s (get_or funcs f 0) 0 ≡ 1 = arity ∙ ap length e in
            let n : length (func S f).takes ≡ 1 = ap length e in
            let z : 0 * size S D + v ≡ v = omega arith in
            let i : place S 0 (D ∷ []) (v ∷ []) < length (func S f).values = inside (D ∷ []) (v ∷ []) e k in
            rw (one, z) (value_at v (get_or funcs f 0 + 3 + v) (omega arith) (omega arith))
        go (D ∷ E ∷ []) [] e k = absurd k
        go (D ∷ E ∷ []) (v ∷ []) e k = absurd k.1
        go (D ∷ E ∷ []) (v ∷ w ∷ x ∷ ws) e k = absurd k.1.1
        go (D ∷ E ∷ []) (v ∷ w ∷ []) e k =
            let two : get_or s (get_or funcs f 0) 0 ≡ 2 = arity ∙ ap length e in
            let n : length (func S f).takes ≡ 2 = ap length e in
            let q : get_or funcs f 0 + 2 ≡ get_or funcs f 0 + 1 + 1 = omega arith in
            let sort : get_or s (get_or funcs f 0 + 2) 0 ≡ E = ap (λ (x : ℕ). get_or s x 0) q ∙ takes_at s (get_or funcs f 0) (func S f) stands 1 (omega arith) ∙ ap (λ (Ds : List ℕ). get_or Ds 1 0) e in
            let declared : E < length S.sorts = subst (λ (x : ℕ). x < length S.sorts) (ap (λ (Ds : List ℕ). get_or Ds 1 0) e) (every_at (λ x. x < length S.sorts) (func S f).takes 0 1 are_sorts (omega arith)) in
            let z : (0 * size S D + v) * size S E + w ≡ v * size S E + w = let y : 0 * size S D + v ≡ v = omega arith in ap (λ (x : ℕ). x * size S E + w) y in
            let i : place S 0 (D ∷ E ∷ []) (v ∷ w ∷ []) < length (func S f).values = inside (D ∷ E ∷ []) (v ∷ w ∷ []) e k in
            rw (two, sort, known.size_at E declared, z) (value_at (v * size S E + w) (get_or funcs f 0 + 4 + (v * size S E + w)) (omega arith) (omega arith))
        go (D ∷ E ∷ F ∷ Ds) ws e k = absurd (omega (arith, few.1, ap length e))

  -- WHAT THE BYTES OF A TERM ARE WORTH

  in_length : (Ds vs : List ℕ) → InSorts S Ds vs → length vs ≡ length Ds
  unfolding InSorts Each
  in_length [] [] h = refl
  in_length [] (v ∷ vs) h = absurd h
  in_length (D ∷ Ds) [] h = absurd h
  in_length (D ∷ Ds) (v ∷ vs) h = ap suc (in_length Ds vs h.1)

  -- values are below the variables' code: sorts have at most 16 of them
  size_small : (D : ℕ) → size S D ≤ 16
  unfolding size RightSizes
  size_small D = go (ltb D (length S.sorts)) refl
    where
      go : (t : Bool) → ltb D (length S.sorts) ≡ t → get_or S.sorts D 0 ≤ 16
      go true e = (every_at (Between 1 16) S.sorts 0 D known.right_sizes.0.1 (ltb-true D (length S.sorts) e)).1
      go false e = let z : get_or S.sorts D 0 ≡ 0 = get_or-eq_default S.sorts 0 (ltb-false D (length S.sorts) e) in omega arith

  -- sorts are below the variables' code too: there are at most 8
  sort_small : (D : ℕ) → D < length S.sorts → D < variable_code
  unfolding RightSizes
  sort_small D h = omega (arith, known.right_sizes.0.0.1)

  two : size S 0 ≡ 2
  unfolding size RightSizes
  two = known.right_sizes.1

  bit : (v : ℕ) → v < size S 0 → v < 2
  bit v h = let z = two in omega arith

  -- one value, and two, in their sorts
  one_value : (P : List ℕ → Type 0) (D : ℕ) (vs : List ℕ) → InSorts S (D ∷ []) vs → ((v : ℕ) → v < size S D → P (v ∷ [])) → P vs
  unfolding InSorts Each
  one_value P D [] h k = absurd h
  one_value P D (v ∷ []) h k = k v h.0
  one_value P D (v ∷ w ∷ vs) h k = absurd h.1

  two_values : (P : List ℕ → Type 0) (D E : ℕ) (vs : List ℕ) → InSorts S (D ∷ E ∷ []) vs → ((v w : ℕ) → v < size S D → w < size S E → P (v ∷ w ∷ [])) → P vs
  unfolding InSorts Each
  two_values P D E [] h k = absurd h
  two_values P D E (v ∷ vs) h k = one_value (λ ws. P (v ∷ ws)) E vs h.1 (λ w l. k v w h.0 l)

  -- `==` by a test
  equal_at : (D v w : ℕ) → v < size S D → w < size S D → get_or (function S (Operation.equal D)).values (place S 0 (D ∷ D ∷ []) (v ∷ w ∷ [])) 0 ≡ same_of v w
  unfolding apply function_at function
  equal_at D v w h k =
      subst (λ (o : Operation). get_or (function S o).values (place S 0 (function S o).takes (v ∷ w ∷ [])) 0 ≡ same_of v w) (equal_number D) (apply_equal S D v w h k)

  module _ (e : List ℕ) where
    -- a function before its arguments' values
    run_codes : (f : ℕ) (o : Operation) → Seen f o → IsOperation S o → (vs rest c : List ℕ) → InSorts S (function S o).takes vs → run s funcs e c ≡ vs ++ rest
        → run s funcs e (codes o ++ c) ≡ get_or (function S o).values (place S 0 (function S o).takes vs) 0 ∷ rest
    unfolding run worth_of argument_count operator_count operator_worth IsOperation codes apply function_at function operation operator place
    run_codes f (Operation.written g) (as_written l) h vs rest c k r =
        let n : length (func S f).takes ≡ length vs = sym (in_length (func S f).takes vs k) in
        rw (node_function f, r, argument_count_is f h l, lt-ltb f not_number l, n)
        (ap₂ (λ (x : ℕ) (l : List ℕ). x ∷ l) (looked_up_is f h vs rest k) (drop-append_seam vs rest))
    run_codes f Operation.not (as_not z) h vs rest c k r =
        one_value (λ ws. run s funcs e c ≡ ws ++ rest → run s funcs e (0x60 ∷ c) ≡ get_or (1 ∷ 0 ∷ []) (place S 0 (0 ∷ []) ws) 0 ∷ rest) 0 vs k
        (λ v l q. rw (node_function 32, q) (ap (λ (x : ℕ). x ∷ rest) (sym (apply_not S two v (bit v l))))) r
    run_codes f Operation.and (as_and z) h vs rest c k r =
        two_values (λ ws. run s funcs e c ≡ ws ++ rest → run s funcs e (0x62 ∷ c) ≡ get_or (0 ∷ 0 ∷ 0 ∷ 1 ∷ []) (place S 0 (0 ∷ 0 ∷ []) ws) 0 ∷ rest) 0 0 vs k
        (λ v w l m q. rw (node_function 34, q) (ap (λ (x : ℕ). x ∷ rest) (sym (apply_and S two v w (bit v l) (bit w m))))) r
    run_codes f Operation.or (as_or z) h vs rest c k r =
        two_values (λ ws. run s funcs e c ≡ ws ++ rest → run s funcs e (0x63 ∷ c) ≡ get_or (0 ∷ 1 ∷ 1 ∷ 1 ∷ []) (place S 0 (0 ∷ 0 ∷ []) ws) 0 ∷ rest) 0 0 vs k
        (λ v w l m q. rw (node_function 35, q) (ap (λ (x : ℕ). x ∷ rest) (sym (apply_or S two v w (bit v l) (bit w m))))) r
    run_codes f (Operation.equal D) (as_equal E z) h vs rest c k r =
        two_values (λ ws. run s funcs e c ≡ ws ++ rest → run s funcs e (0x61 ∷ D ∷ c) ≡ get_or (function S (Operation.equal D)).values (place S 0 (D ∷ D ∷ []) ws) 0 ∷ rest) D D vs k
        (λ v w l m q. rw (node_function 33, node_value D (sort_small D h), q) (ap (λ (x : ℕ). x ∷ rest) (sym (equal_at D v w l m)))) r
    run_codes f Operation.unsorted (as_unsorted z) h vs rest c k r = absurd h
    run_codes f Operation.unsorted (as_none y z) h vs rest c k r = absurd h

  -- a function's bytes, and behind them as many terms as it takes
  extent_codes : (f : ℕ) (o : Operation) → Seen f o → IsOperation S o → (c : List ℕ) (n : ℕ) → extent s funcs (codes o ++ c) (suc n) ≡ length (codes o) + extent s funcs c (length (function S o).takes + n)
  unfolding extent argument_count operator_count IsOperation codes function
  extent_codes f (Operation.written g) (as_written l) h c n =
      let z : n + length (func S f).takes ≡ length (func S f).takes + n = omega arith in
      rw (node_function f, argument_count_is f h l, z) (omega arith)
  extent_codes f Operation.not (as_not z) h c n = let m : n + 1 ≡ 1 + n = omega arith in rw (node_function 32, m) (omega arith)
  extent_codes f Operation.and (as_and z) h c n = let m : n + 2 ≡ 2 + n = omega arith in rw (node_function 34, m) (omega arith)
  extent_codes f Operation.or (as_or z) h c n = let m : n + 2 ≡ 2 + n = omega arith in rw (node_function 35, m) (omega arith)
  extent_codes f (Operation.equal D) (as_equal E z) h c n =
      let m : n + 3 ≡ suc (2 + n) = omega arith in
      let k : 2 + n + 0 ≡ 2 + n = omega arith in
      rw (node_function 33, m, node_value D (sort_small D h), k) (omega arith)
  extent_codes f Operation.unsorted (as_unsorted z) h c n = absurd h
  extent_codes f Operation.unsorted (as_none y z) h c n = absurd h

  module _ (Γ : List ℕ) (short : length Γ ≤ variable_code) where
    module _ (e : List ℕ) (in_sorts : InSorts S Γ e) where
      mutual
        unfolding run worth_of HasSort eval apply function_at encode_data argument_count

        pub run_data : (d : Data) (D : ℕ) (c : List ℕ) → HasSort S (get_elem? Γ) d D → run s funcs e (encode_data d ++ c) ≡ eval S e d ∷ run s funcs e c
        run_data (val v) D c h = rw (node_value v (omega (arith, size_small D))) refl
        run_data (var i) D c h = rw (node_variable i (omega (arith, below_some Γ i D h))) refl
        run_data (app f ds) D c h =
            let Ds : List ℕ = (function S (operation f)).takes in
            let r : run s funcs e (encode_datas ds ++ c) ≡ evals S e ds ++ run s funcs e c = run_datas ds Ds c h.1.1 in
            let i : InSorts S Ds (evals S e ds) = evals_in S known.right_sizes known.right_funcs Γ e in_sorts ds Ds h.1.1 in
            ap (run s funcs e) (append_assoc (codes (operation f)) (encode_datas ds) c)
            ∙ run_codes e f (operation f) (seen f) h.0 (evals S e ds) (run s funcs e c) (encode_datas ds ++ c) i r

        pub run_datas : (ds : Datas) (Ds c : List ℕ) → HaveSorts S (get_elem? Γ) ds Ds → run s funcs e (encode_datas ds ++ c) ≡ evals S e ds ++ run s funcs e c
        run_datas nil Ds c h = refl
        run_datas (cons d ds) [] c h = absurd h
        run_datas (cons d ds) (D ∷ Ds) c h =
            ap (run s funcs e) (append_assoc (encode_data d) (encode_datas ds) c) ∙ run_data d D (encode_datas ds ++ c) h.0 ∙ ap (λ (l : List ℕ). eval S e d ∷ l) (run_datas ds Ds c h.1)

      -- THE VALUE OF A TERM'S BYTES, with values for the variables in any list that is alike
      pub value_is : (f : List ℕ) (d : Data) (D : ℕ) → Alike f e → HasSort S (get_elem? Γ) d D → top (run s funcs f (encode_data d)) ≡ eval S e d
      value_is f d D a h = ap top (run_same s funcs f e (encode_data d) (λ i k. a i) ∙ ap (run s funcs e) (sym (append-nil (encode_data d))) ∙ run_data d D [] h)

    -- HOW FAR THE BYTES OF TERMS REACH
    mutual
      unfolding extent HasSort encode_data function_at argument_count

      pub extent_data : (d : Data) (D : ℕ) (c : List ℕ) (n : ℕ) → HasSort S (get_elem? Γ) d D → extent s funcs (encode_data d ++ c) (suc n) ≡ length (encode_data d) + extent s funcs c n
      extent_data (val v) D c n h = rw (node_value v (omega (arith, size_small D))) (let z : n + 0 ≡ n = omega arith in rw z (omega arith))
      extent_data (var i) D c n h = rw (node_variable i (omega (arith, below_some Γ i D h))) (let z : n + 0 ≡ n = omega arith in rw z (omega arith))
      extent_data (app f ds) D c n h =
          let o = extent_codes f (operation f) (seen f) h.0 (encode_datas ds ++ c) n in
          let r = extent_datas ds (function S (operation f)).takes c n h.1.1 in
          rw (append_assoc (codes (operation f)) (encode_datas ds) c) (omega (arith, length-append (codes (operation f)) (encode_datas ds)))

      pub extent_datas : (ds : Datas) (Ds c : List ℕ) (n : ℕ) → HaveSorts S (get_elem? Γ) ds Ds → extent s funcs (encode_datas ds ++ c) (length Ds + n) ≡ length (encode_datas ds) + extent s funcs c n
      extent_datas nil [] c n h = let z : 0 + n ≡ n = omega arith in rw z (omega arith)
      extent_datas nil (D ∷ Ds) c n h = absurd h
      extent_datas (cons d ds) [] c n h = absurd h
      extent_datas (cons d ds) (D ∷ Ds) c n h =
          let a = extent_data d D (encode_datas ds ++ c) (length Ds + n) h.0 in
          let b = extent_datas ds Ds c n h.1 in
          let z : length (D ∷ Ds) + n ≡ suc (length Ds + n) = omega arith in
          rw (z, append_assoc (encode_data d) (encode_datas ds) c) (omega (arith, length-append (encode_data d) (encode_datas ds)))

    -- terms one behind another
    pub extent_all : (ds : List Data) (Ds c : List ℕ) (n : ℕ) → Each (HasSort S (get_elem? Γ)) ds Ds → extent s funcs (all encode_data ds ++ c) (length ds + n) ≡ length (all encode_data ds) + extent s funcs c n
    unfolding all Each
    extent_all [] [] c n h = let z : 0 + n ≡ n = omega arith in rw z (omega arith)
    extent_all [] (D ∷ Ds) c n h = absurd h
    extent_all (d ∷ ds) [] c n h = absurd h
    extent_all (d ∷ ds) (D ∷ Ds) c n h =
        let a = extent_data d D (all encode_data ds ++ c) (length ds + n) h.0 in
        let b = extent_all ds Ds c n h.1 in
        let z : length (d ∷ ds) + n ≡ suc (length ds + n) = omega arith in
        rw (z, append_assoc (encode_data d) (all encode_data ds) c) (omega (arith, length-append (encode_data d) (all encode_data ds)))
