-- Data terms in prefix order are read back, and what is read is a sorted term of at most 31 nodes.
-- By induction on the nodes that may still come, over the list of terms that is expected.
use Rattle.std.proofs.Math.Path.{◌≡◌, refl, sym, ap}
use Rattle.std.proofs.Common.{subst, ◌∙◌}
use mathlib.Core.List.{List, [], ◌∷◌, ◌++◌, append-nil, append_assoc}
use Prim.Native.Nat.{ℕ, zero, suc, ◌+◌, ◌-◌, ◌<◌, ◌≤◌}
use native.Mathlib.Omega.{arith}
use Rattle.std.proofs.Math.Decide.{ℕ_discrete, dec_lt}
use Rattle.std.specs.Prelude.{length}
use Rattle.pcrl.specs.Limits.{max_nodes}
use Rattle.pcrl.specs.Tests.{Each}
use Rattle.pcrl.specs.Reader.{Got, found, Reader, bind, keep, view, all}
use Rattle.pcrl.specs.Sheet.{Data, val, var, app, list_of, Operation, operation, first_equal, Sig, size, function_at}
use Rattle.pcrl.specs.Sorts.{IsOperation, IsFunc, HasSort}
use Rattle.pcrl.specs.Table.{nodes}
use Rattle.pcrl.specs.Stream.{variable_code, function_code, codes, encode_data, encode_datas}
use Rattle.pcrl.specs.Right.{RightTerm}
use Rattle.pcrl.specs.Decode.{Node, value, variable, function, node_of, sorted_equal, code_limit, read_node, guard, Fits, fits?, wants, build, read_terms, first, read_term}
use Rattle.laws.specs.Tests.{where_yes, where_no}
use Rattle.laws.specs.Lists.{below_some}
use Rattle.laws.specs.Operations.{Seen, as_written, as_not, as_and, as_or, as_equal, as_unsorted, as_none, seen, equal_number}
use Rattle.laws.specs.Readers.{never, bound}
use Rattle.codec.specs.Lawful.{Lawful}
use Rattle.codec.specs.Arguments.{nodes_list, encode_put, nodes_put, encode_taken, nodes_taken, Sorted, sorted_put, arguments_put, drop_put, sorted_taken}

-- A NODE AND ITS BYTES

unfoldable pub bytes_of : Node → List ℕ
bytes_of (value v) = v ∷ []
bytes_of (variable i) = (variable_code + i) ∷ []
bytes_of (function f) = codes (operation f)

-- node_of with its tests as arguments
node_by : (b : ℕ) → Dec (b < variable_code) → Dec (b < function_code) → Node
node_by b d d' = elim d [ yes h ↦ value b | no h ↦ elim d' [ yes k ↦ variable (b - variable_code) | no k ↦ function (b - function_code) ] ]

-- a function's byte: no other function has it
code_of : (b : ℕ) → function_code ≤ b → b < code_limit → ¬ (b ≡ 0x61) → codes (operation (b - function_code)) ≡ b ∷ []
code_of b h k n = go (operation (b - function_code)) (seen (b - function_code))
  where
    one : (c : ℕ) → c ≡ b → ◌≡◌ {A = List ℕ} (c ∷ []) (b ∷ [])
    one c e = ap (λ (x : ℕ). x ∷ []) e

    go : (o : Operation) → Seen (b - function_code) o → codes o ≡ b ∷ []
    go (Operation.written f) (as_written l) = unfold codes in one (function_code + (b - function_code)) (omega arith)
    go Operation.not (as_not e) = unfold codes in one 0x60 (omega arith)
    go Operation.and (as_and e) = unfold codes in one 0x62 (omega arith)
    go Operation.or (as_or e) = unfold codes in one 0x63 (omega arith)
    go (Operation.equal D) (as_equal E e) = absurd (omega arith)
    go Operation.unsorted (as_unsorted e) = absurd (n (omega arith))
    go Operation.unsorted (as_none l m) = absurd (omega arith)

pub bytes_of_node : (b : ℕ) → b < code_limit → ¬ (b ≡ 0x61) → bytes_of (node_of b) ≡ b ∷ []
unfolding node_of bytes_of node_by
bytes_of_node b l n = go (dec_lt b variable_code) (dec_lt b function_code)
  where
    go : (d : Dec (b < variable_code)) (d' : Dec (b < function_code)) → bytes_of (node_by b d d') ≡ b ∷ []
    go (yes h) d' = refl
    go (no h) (yes k) = let z : variable_code + (b - variable_code) ≡ b = omega arith in ap (λ (x : ℕ). x ∷ []) z
    go (no h) (no k) = code_of b (omega arith) l n

pub node_value : (v : ℕ) → v < variable_code → node_of v ≡ value v
unfolding node_of node_by
node_value v h = where_yes (dec_lt v variable_code) h (value v) _

pub node_variable : (i : ℕ) → i < variable_code → node_of (variable_code + i) ≡ variable i
unfolding node_of node_by
node_variable i h = go (dec_lt (variable_code + i) variable_code) (dec_lt (variable_code + i) function_code)
  where
    go : (d : Dec (variable_code + i < variable_code)) (d' : Dec (variable_code + i < function_code)) → node_by (variable_code + i) d d' ≡ variable i
    go (yes k) d' = absurd (omega arith)
    go (no k) (yes l) = let z : variable_code + i - variable_code ≡ i = omega arith in ap variable z
    go (no k) (no l) = absurd (omega arith)

pub node_function : (f : ℕ) → node_of (function_code + f) ≡ function f
unfolding node_of node_by
node_function f = go (dec_lt (function_code + f) variable_code) (dec_lt (function_code + f) function_code)
  where
    go : (d : Dec (function_code + f < variable_code)) (d' : Dec (function_code + f < function_code)) → node_by (function_code + f) d d' ≡ function f
    go (yes k) d' = absurd (omega arith)
    go (no k) (yes l) = absurd (omega arith)
    go (no k) (no l) = let z : function_code + f - function_code ≡ f = omega arith in ap function z

-- a byte that is a node by itself
one_byte : (b : ℕ) (xs : List ℕ) (nd : Node) → ¬ (b ≡ 0x61) → b < code_limit → node_of b ≡ nd → read_node (b ∷ xs) ≡ found nd xs
unfolding read_node
one_byte b xs nd n l e = where_no (ℕ_discrete b 0x61) n _ _ ∙ go (dec_lt b code_limit)
  where
    go : (d : Dec (b < code_limit)) → keep d (node_of b) xs ≡ found nd xs
    go (yes k) = unfold keep in ap (λ (x : Node). found x xs) e
    go (no k) = absurd (k l)

-- STEPS OF THE READER

guarded : {P A : Type 0} (d : Dec P) (k : P → Got ℕ A) (a : A) (xs : List ℕ) → guard d k ≡ found a xs → (h : P) × (k h ≡ found a xs)
unfolding guard
guarded (yes h) k a xs e = (h, e)
guarded (no h) k a xs e = never a xs e

view_found : {A B : Type 0} (f : A → B) (r : Reader ℕ A) (xs : List ℕ) (a : A) (ys : List ℕ) → r xs ≡ found a ys → view f r xs ≡ found (f a) ys
unfolding view bind
view_found f r xs a ys e = rw e

found_view : {A B : Type 0} (f : A → B) (r : Reader ℕ A) (xs : List ℕ) (b : B) (zs : List ℕ) → view f r xs ≡ found b zs
    → (a : A) × (ys : List ℕ) × (r xs ≡ found a ys) × (found (f a) ys ≡ found b zs)
unfolding view
found_view f r xs b zs e = bound (r xs) (λ a ys. found (f a) ys) b zs e

one_node : (d : Data) → 1 ≤ nodes d
unfolding nodes
one_node (val v) = omega arith
one_node (var i) = omega arith
one_node (app f ds) = omega arith

-- Values and variables keep below the codes of what comes behind them.
pub record Apart (S : Sig) (Γ : List ℕ) : Type 0 where
  pub sizes : (D : ℕ) → size S D ≤ variable_code
  pub scope : length Γ ≤ variable_code

-- What was read is the node's own bytes.
node_back : (xs : List ℕ) (nd : Node) (ys : List ℕ) → read_node xs ≡ found nd ys → xs ≡ bytes_of nd ++ ys
unfolding read_node keep sorted_equal bytes_of codes
node_back [] nd ys e = never nd ys e
node_back (b ∷ xs) nd ys e = go (ℕ_discrete b 0x61) e
  where
    plain : ¬ (b ≡ 0x61) → (d : Dec (b < code_limit)) → keep d (node_of b) xs ≡ found nd ys → b ∷ xs ≡ bytes_of nd ++ ys
    plain n (yes l) e =
        let q : node_of b ≡ nd = cc in
        let r : xs ≡ ys = cc in
        ap (λ (k : List ℕ). k ++ xs) (sym (bytes_of_node b l n)) ∙ ap (λ (x : Node). bytes_of x ++ xs) q ∙ ap (λ (k : List ℕ). bytes_of nd ++ k) r
    plain n (no l) e = never nd ys e

    equal : b ≡ 0x61 → (xs : List ℕ) → sorted_equal xs ≡ found nd ys → b ∷ xs ≡ bytes_of nd ++ ys
    equal h [] e = never nd ys (unfold sorted_equal in e)
    equal h (D ∷ xs) e =
        let q : function (first_equal + D) ≡ nd = cc in
        let r : xs ≡ ys = cc in
        let c : codes (operation (first_equal + D)) ≡ 0x61 ∷ D ∷ [] = ap codes (equal_number D) in
        ap (λ (k : ℕ). k ∷ D ∷ xs) h ∙ ap (λ (k : List ℕ). k ++ xs) (sym c) ∙ ap (λ (x : Node). bytes_of x ++ xs) q ∙ ap (λ (k : List ℕ). bytes_of nd ++ k) r

    go : (d : Dec (b ≡ 0x61)) → (elim d as (λ x. Got ℕ Node) [ yes h ↦ sorted_equal xs | no h ↦ keep (dec_lt b code_limit) (node_of b) xs ]) ≡ found nd ys → b ∷ xs ≡ bytes_of nd ++ ys
    go (yes h) e = equal h xs e
    go (no h) e = plain h (dec_lt b code_limit) e

-- the node of a function that is there
read_function : (S : Sig) (f : ℕ) (xs : List ℕ) → IsFunc S f → read_node (codes (operation f) ++ xs) ≡ found (function f) xs
unfolding read_node sorted_equal codes
read_function S f xs h = go (operation f) (seen f) h
  where
    at : (b : ℕ) → b ≡ function_code + f → ¬ (b ≡ 0x61) → b < code_limit → read_node (b ∷ xs) ≡ found (function f) xs
    at b e n l = one_byte b xs (function f) n l (ap node_of e ∙ node_function f)

    go : (o : Operation) → Seen f o → IsOperation S o → read_node (codes o ++ xs) ≡ found (function f) xs
    go (Operation.written g) (as_written k) i = unfold codes in at (function_code + f) refl (λ e. omega arith) (omega arith)
    go Operation.not (as_not e) i = unfold codes in at 0x60 (omega arith) (λ e. omega arith) (omega arith)
    go Operation.and (as_and e) i = unfold codes in at 0x62 (omega arith) (λ e. omega arith) (omega arith)
    go Operation.or (as_or e) i = unfold codes in at 0x63 (omega arith) (λ e. omega arith) (omega arith)
    go (Operation.equal D) (as_equal E e) i = where_yes (ℕ_discrete 0x61 0x61) refl _ _ ∙ ap (λ (g : ℕ). found (function g) xs) (sym e)
    go Operation.unsorted x i = absurd (unfold IsOperation in i)

module _ (S : Sig) (Γ : List ℕ) where
  reads_node : (n D : ℕ) (Ds xs ys : List ℕ) (nd : Node) → read_node xs ≡ found nd ys → Fits S Γ D nd
      → read_terms S Γ (suc n) (D ∷ Ds) xs ≡ view (build S Γ nd) (read_terms S Γ n (wants S Γ nd ++ Ds)) ys
  unfolding read_terms guard bind
  reads_node n D Ds xs ys nd e h = rw e (go (fits? S Γ D nd))
    where
      go : (d : Dec (Fits S Γ D nd)) → guard d (λ h. view (build S Γ nd) (read_terms S Γ n (wants S Γ nd ++ Ds)) ys) ≡ view (build S Γ nd) (read_terms S Γ n (wants S Γ nd ++ Ds)) ys
      go (yes k) = refl
      go (no k) = absurd (k h)

  -- what one node makes of the terms behind it
  record Built (D : ℕ) (Ds bs : List ℕ) (before after : List Data) : Type 0 where
    written : bs ++ all encode_data before ≡ all encode_data after
    sorted : Sorted S Γ (D ∷ Ds) after
    count : nodes_list after ≡ suc (nodes_list before)

  built : (D : ℕ) (Ds : List ℕ) (nd : Node) (ts : List Data) → Fits S Γ D nd → Sorted S Γ (wants S Γ nd ++ Ds) ts → Built D Ds (bytes_of nd) ts (build S Γ nd ts)
  unfolding Fits Each all encode_data nodes_list nodes wants build bytes_of HasSort
  built D Ds (value v) ts h s = record { written = refl; sorted = (h, s); count = omega arith }
  built D Ds (variable i) ts h s = record { written = refl; sorted = (h, s); count = omega arith }
  built D Ds (function f) ts h s =
      let Es : List ℕ = (function_at S f).takes in
      let (k, l) = sorted_taken S Γ Es Ds ts s in
      record {
        written = ap (λ (l : List ℕ). codes (operation f) ++ l) (sym (encode_taken (length Es) ts)) ∙ sym (append_assoc (codes (operation f)) _ _);
        sorted = ((h.0, (h.1, k)), l);
        count = omega (arith, nodes_taken (length Es) ts);
      }

  module _ (apart : Apart S Γ) where
    terms_there : (n : ℕ) (Ds : List ℕ) (ts : List Data) (rest : List ℕ) → Sorted S Γ Ds ts → nodes_list ts ≤ n → read_terms S Γ n Ds (all encode_data ts ++ rest) ≡ found ts rest
    unfolding Each HasSort read_terms all encode_data nodes_list nodes wants build Fits
    terms_there zero [] [] rest h l = refl
    terms_there zero [] (t ∷ ts) rest h l = absurd h
    terms_there zero (D ∷ Ds) [] rest h l = absurd h
    terms_there zero (D ∷ Ds) (t ∷ ts) rest h l = absurd (omega (arith, one_node t))
    terms_there (suc n) [] [] rest h l = refl
    terms_there (suc n) [] (t ∷ ts) rest h l = absurd h
    terms_there (suc n) (D ∷ Ds) [] rest h l = absurd h
    terms_there (suc n) (D ∷ Ds) (val v ∷ ts) rest h l =
        reads_node n D Ds (v ∷ (all encode_data ts ++ rest)) (all encode_data ts ++ rest) (value v) (one_byte v _ (value v) (λ e. omega (arith, apart.sizes D, h.0)) (omega (arith, apart.sizes D, h.0)) (node_value v (omega (arith, apart.sizes D, h.0)))) h.0
        ∙ view_found (build S Γ (value v)) (read_terms S Γ n Ds) (all encode_data ts ++ rest) ts rest (terms_there n Ds ts rest h.1 (omega arith))
    terms_there (suc n) (D ∷ Ds) (var i ∷ ts) rest h l =
        reads_node n D Ds ((variable_code + i) ∷ (all encode_data ts ++ rest)) (all encode_data ts ++ rest) (variable i) (one_byte (variable_code + i) _ (variable i) (λ e. omega (arith, apart.scope, below_some Γ i D h.0)) (omega (arith, apart.scope, below_some Γ i D h.0)) (node_variable i (omega (arith, apart.scope, below_some Γ i D h.0)))) h.0
        ∙ view_found (build S Γ (variable i)) (read_terms S Γ n Ds) (all encode_data ts ++ rest) ts rest (terms_there n Ds ts rest h.1 (omega arith))
    terms_there (suc n) (D ∷ Ds) (app f ds ∷ ts) rest h l =
        let Es : List ℕ = (function_at S f).takes in
        let us : List Data = list_of ds ++ ts in
        let xs : List ℕ = (encode_datas ds ++ all encode_data ts) ++ rest in
        let ih : read_terms S Γ n (Es ++ Ds) (all encode_data us ++ rest) ≡ found us rest = terms_there n (Es ++ Ds) us rest (sorted_put S Γ ds Es Ds ts h.0.1.1 h.1) (omega (arith, nodes_put ds ts)) in
        let whole : ((codes (operation f) ++ encode_datas ds) ++ all encode_data ts) ++ rest ≡ codes (operation f) ++ xs =
        ap (λ (l : List ℕ). l ++ rest) (append_assoc (codes (operation f)) (encode_datas ds) (all encode_data ts)) ∙ append_assoc (codes (operation f)) (encode_datas ds ++ all encode_data ts) rest in
        let ih' : read_terms S Γ n (Es ++ Ds) xs ≡ found us rest = rw (encode_put ds ts) at ih in
        ap (read_terms S Γ (suc n) (D ∷ Ds)) whole
        ∙ reads_node n D Ds (codes (operation f) ++ xs) xs (function f) (read_function S f xs h.0.0) (h.0.0, h.0.1.0)
        ∙ view_found (build S Γ (function f)) (read_terms S Γ n (Es ++ Ds)) xs us rest ih'
        ∙ rw (arguments_put S Γ ds Es ts h.0.1.1, drop_put S Γ ds Es ts h.0.1.1)

    terms_back : (n : ℕ) (Ds xs : List ℕ) (ts : List Data) (rest : List ℕ) → read_terms S Γ n Ds xs ≡ found ts rest → (xs ≡ all encode_data ts ++ rest) × (Sorted S Γ Ds ts × (nodes_list ts ≤ n))
    unfolding read_terms Each nodes_list all
    terms_back zero [] xs [] rest e = (cc, (tt, omega arith))
    terms_back zero [] xs (t ∷ ts) rest e = absurd (let z : ◌≡◌ {A = ℕ} 0 1 = cc in omega arith)
    terms_back zero (D ∷ Ds) xs ts rest e = never ts rest e
    terms_back (suc n) [] xs [] rest e = (cc, (tt, omega arith))
    terms_back (suc n) [] xs (t ∷ ts) rest e = absurd (let z : ◌≡◌ {A = ℕ} 0 1 = cc in omega arith)
    terms_back (suc n) (D ∷ Ds) xs ts rest e =
        let (nd, ys, e₀, e') = bound (read_node xs) (λ x zs. guard (fits? S Γ D x) (λ h. view (build S Γ x) (read_terms S Γ n (wants S Γ x ++ Ds)) zs)) ts rest e in
        let (h, e₁) = guarded (fits? S Γ D nd) _ ts rest e' in
        let (us, zs, e₂, e₃) = found_view (build S Γ nd) (read_terms S Γ n (wants S Γ nd ++ Ds)) ys ts rest e₁ in
        let (f, g) = terms_back n (wants S Γ nd ++ Ds) ys us zs e₂ in
        finish nd ys us zs (node_back xs nd ys e₀) f g.1 (built D Ds nd us h g.0) (cc) (cc)
      where
        finish : (nd : Node) (ys : List ℕ) (us : List Data) (zs : List ℕ) → xs ≡ bytes_of nd ++ ys → ys ≡ all encode_data us ++ zs → nodes_list us ≤ n → Built D Ds (bytes_of nd) us (build S Γ nd us) → build S Γ nd us ≡ ts → zs ≡ rest
            → (xs ≡ all encode_data ts ++ rest) × (Sorted S Γ (D ∷ Ds) ts × (nodes_list ts ≤ suc n))
        finish nd ys us zs e₀ f l B e₁ e₂ =
            let B' : Built D Ds (bytes_of nd) us ts = rw e₁ at B in
            let q : bytes_of nd ++ (all encode_data us ++ zs) ≡ all encode_data ts ++ rest =
            sym (append_assoc (bytes_of nd) (all encode_data us) zs) ∙ ap (λ (l : List ℕ). l ++ zs) B'.written ∙ ap (λ (y : List ℕ). all encode_data ts ++ y) e₂ in
            (e₀ ∙ ap (λ (l : List ℕ). bytes_of nd ++ l) f ∙ q, (B'.sorted, omega (arith, B'.count)))

    one_first : (D : ℕ) (ts : List Data) → Sorted S Γ (D ∷ []) ts → ts ≡ first S Γ ts ∷ []
    unfolding Each first
    one_first D [] h = absurd h
    one_first D (t ∷ []) h = refl
    one_first D (t ∷ (u ∷ ts)) h = absurd h.1

    -- One term of the sort D.
    pub term_law : (D : ℕ) → Lawful encode_data (RightTerm S Γ D) (read_term S Γ D)
    unfolding read_term Each all nodes_list first
    term_law D = record { there = to; back = from }
      where
        to : (t : Data) (rest : List ℕ) → RightTerm S Γ D t → read_term S Γ D (encode_data t ++ rest) ≡ found t rest
        to t rest h =
            let k : read_terms S Γ max_nodes (D ∷ []) ((encode_data t ++ []) ++ rest) ≡ found (t ∷ []) rest = terms_there max_nodes (D ∷ []) (t ∷ []) rest (h.0, tt) (omega (arith, h.1)) in
            let k' : read_terms S Γ max_nodes (D ∷ []) (encode_data t ++ rest) ≡ found (t ∷ []) rest = rw (append-nil (encode_data t)) at k in
            view_found (first S Γ) (read_terms S Γ max_nodes (D ∷ [])) (encode_data t ++ rest) (t ∷ []) rest k'

        from : (xs : List ℕ) (t : Data) (rest : List ℕ) → read_term S Γ D xs ≡ found t rest → (xs ≡ encode_data t ++ rest) × RightTerm S Γ D t
        from xs t rest e =
            let (ts, ys, e₁, e₂) = found_view (first S Γ) (read_terms S Γ max_nodes (D ∷ [])) xs t rest e in
            let (f, g) = terms_back max_nodes (D ∷ []) xs ts ys e₁ in
            let q : ts ≡ t ∷ [] = one_first D ts g.0 ∙ ap (λ (x : Data). x ∷ []) (cc) in
            let z : ys ≡ rest = cc in
            let f' : xs ≡ (encode_data t ++ []) ++ rest = f ∙ ap (λ (l : List Data). all encode_data l ++ ys) q ∙ ap (λ (l : List ℕ). (encode_data t ++ []) ++ l) z in
            let g' : Sorted S Γ (D ∷ []) (t ∷ []) × (nodes_list (t ∷ []) ≤ max_nodes) = subst (λ (l : List Data). Sorted S Γ (D ∷ []) l × (nodes_list l ≤ max_nodes)) q g in
            (rw (append-nil (encode_data t)) at f', (g'.0.0, omega (arith, g'.1)))
