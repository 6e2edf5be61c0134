-- A term with terms put for its variables, opened by its first node: its bytes and its nodes.
use mathlib.Core.Path.{◌≡◌, refl, ap, ◌∙◌, subst}
use mathlib.Core.List.{List, [], ◌∷◌, ◌++◌, append_assoc}
use Prim.Native.Nat.{ℕ, ◌+◌, ◌-◌, ◌*◌, ◌<◌, ◌≤◌}
use native.Mathlib.Omega.{arith}
use lib.ListN.{length, length-append}
use Rattle.pcrl.specs.Tests.{Every}
use Rattle.pcrl.specs.Sheet.{Data, val, var, app, Datas, nil, cons, list_of, Operation, first_equal, operation}
use Rattle.pcrl.specs.Values.{put_data, put_datas}
use Rattle.pcrl.specs.Table.{nodes, nodes_all}
use Rattle.pcrl.specs.Stream.{function_code, codes, encode_data, encode_datas}
use Rattle.pcrl.specs.Heads.{look}
use Rattle.laws.specs.Operations.{Seen, seen}
use Rattle.laws.specs.TermLength.{Narrow}
use Rattle.nodes.specs.Layout.{byte_limit}
use Rattle.nodes.specs.Nodes.{data_kids}
use Rattle.putting.specs.Slots.{Slots, Writable, WritableArguments}
use Rattle.putting.specs.Puts.{node_nodes, node_bytes}

unfoldable pub put_bytes : List Data → List Data → List ℕ
put_bytes σ [] = []
put_bytes σ (d ∷ ds) = encode_data (put_data (look σ) d) ++ put_bytes σ ds

unfoldable pub put_nodes : List Data → List Data → ℕ
put_nodes σ [] = 0
put_nodes σ (d ∷ ds) = nodes (put_data (look σ) d) + put_nodes σ ds

arguments_bytes : (σ : List Data) (ds : Datas) (es : List Data) → encode_datas (put_datas (look σ) ds) ++ put_bytes σ es ≡ put_bytes σ (list_of ds ++ es)
unfolding put_bytes put_data encode_data list_of
arguments_bytes σ nil es = refl
arguments_bytes σ (cons d ds) es =
    append_assoc (encode_data (put_data (look σ) d)) (encode_datas (put_datas (look σ) ds)) (put_bytes σ es)
    ∙ ap (λ (l : List ℕ). encode_data (put_data (look σ) d) ++ l) (arguments_bytes σ ds es)

pub bytes_open : (σ : List Data) (d : Data) (es : List Data) → put_bytes σ (d ∷ es) ≡ node_bytes σ d ++ put_bytes σ (data_kids d ++ es)
unfolding put_bytes put_data encode_data node_bytes data_kids
bytes_open σ (val v) es = refl
bytes_open σ (var i) es = refl
bytes_open σ (app f ds) es =
    append_assoc (codes (operation f)) (encode_datas (put_datas (look σ) ds)) (put_bytes σ es) ∙ ap (λ (l : List ℕ). codes (operation f) ++ l) (arguments_bytes σ ds es)

arguments_nodes : (σ : List Data) (ds : Datas) (es : List Data) → nodes_all (put_datas (look σ) ds) + put_nodes σ es ≡ put_nodes σ (list_of ds ++ es)
unfolding put_nodes put_data nodes list_of
arguments_nodes σ nil es = omega arith
arguments_nodes σ (cons d ds) es = omega (arith, arguments_nodes σ ds es)

pub nodes_open : (σ : List Data) (d : Data) (es : List Data) → put_nodes σ (d ∷ es) ≡ node_nodes σ d + put_nodes σ (data_kids d ++ es)
unfolding put_nodes put_data nodes node_nodes data_kids
nodes_open σ (val v) es = refl
nodes_open σ (var i) es = refl
nodes_open σ (app f ds) es = omega (arith, arguments_nodes σ ds es)

-- each term has a node
nodes_some : (d : Data) → 1 ≤ nodes d
unfolding nodes
nodes_some (val v) = omega arith
nodes_some (var i) = omega arith
nodes_some (app f ds) = omega arith

pub nodes_left : (σ : List Data) (ds : List Data) → length ds ≤ put_nodes σ ds
unfolding put_nodes
nodes_left σ [] = omega arith
nodes_left σ (d ∷ ds) = omega (arith, nodes_some (put_data (look σ) d), nodes_left σ ds)

-- a function's code: hex 40 and its number, or for `==` hex 61 and its sort
pub by_code : (f : ℕ) (G : List ℕ → Type 0) → (operation f ≡ Operation.unsorted → ⊥) → (function_code + f < byte_limit → G ((function_code + f) ∷ [])) → (first_equal ≤ f → G (0x61 ∷ (f - first_equal) ∷ [])) → G (codes (operation f))
unfolding codes
by_code f G is one two = go (operation f) (seen f) is
  where
    go : (o : Operation) → Seen f o → (o ≡ Operation.unsorted → ⊥) → G (codes o)
    go (Operation.written g) (Seen.as_written h) i = one (omega arith)
    go Operation.not (Seen.as_not e) i = subst (λ (x : ℕ). G ((function_code + x) ∷ [])) e (one (omega arith))
    go Operation.and (Seen.as_and e) i = subst (λ (x : ℕ). G ((function_code + x) ∷ [])) e (one (omega arith))
    go Operation.or (Seen.as_or e) i = subst (λ (x : ℕ). G ((function_code + x) ∷ [])) e (one (omega arith))
    go (Operation.equal D) (Seen.as_equal E e) i = let z : f - first_equal ≡ E = omega arith in subst (λ (x : ℕ). G (0x61 ∷ x ∷ [])) z (two (omega arith))
    go Operation.unsorted (Seen.as_unsorted e) i = absurd (i refl)
    go Operation.unsorted (Seen.as_none h k) i = absurd (i refl)

-- Terms put for variables are narrow, so the whole is. This is all that is said of how long a term's bytes are.
module _ (σ : List Data) (slots : List ℕ) (n : ℕ) (s : Slots σ slots n) where
  mutual
    unfolding nodes encode_data put_data list_of Writable

    pub put_narrow : (d : Data) → Writable n d → Narrow (put_data (look σ) d)
    put_narrow (val v) w = omega arith
    put_narrow (var i) w = (s.each i w).narrow
    put_narrow (app f ds) w =
        let es : List ℕ = encode_datas (put_datas (look σ) ds) in
        by_code f (λ (c : List ℕ). 2 * length (c ++ es) + 1 ≤ 3 * nodes (app f (put_datas (look σ) ds))) w.0
        (λ h. omega (arith, narrow_all ds w.3))
        (λ h. omega (arith, narrow_all ds w.3, w.2 h))

    -- one less for each argument
    narrow_all : (ds : Datas) → WritableArguments n ds → 2 * length (encode_datas (put_datas (look σ) ds)) + length (list_of ds) ≤ 3 * nodes_all (put_datas (look σ) ds)
    narrow_all nil w = omega arith
    narrow_all (cons d ds) w = omega (arith, length-append (encode_data (put_data (look σ) d)) (encode_datas (put_datas (look σ) ds)), put_narrow d w.0, narrow_all ds w.1)

-- the arguments of a term that can be written can be
arguments_writable : (n : ℕ) (ds : Datas) (es : List Data) → WritableArguments n ds → Every (Writable n) es → Every (Writable n) (list_of ds ++ es)
unfolding Writable Every list_of
arguments_writable n nil es a h = h
arguments_writable n (cons d ds) es a h = (a.0, arguments_writable n ds es a.1 h)

pub kids_writable : (n : ℕ) (d : Data) (es : List Data) → Writable n d → Every (Writable n) es → Every (Writable n) (data_kids d ++ es)
unfolding Writable Every data_kids
kids_writable n (val v) es a h = h
kids_writable n (var i) es a h = h
kids_writable n (app f ds) es a h = arguments_writable n ds es a.3 h
