-- The parts of a node, as its cells show them; a term is opened by its first node.
use Rattle.std.specs.Prelude.{◌≡◌, refl, List, [], ◌∷◌, ◌++◌, Bool, true, false, ℕ, ◌+◌, ◌*◌, ◌%◌, ◌<◌, length}
use Rattle.std.proofs.Common.{ap, ◌∙◌, append_assoc, arith}
use Rattle.pcrl.specs.Sheet.{Data, val, var, app, Datas, nil, cons, list_of, Proc, delta, atom, alt, cond, sum, seq, call}
use Rattle.nodes.specs.Layout.{value_tag, variable_tag, function_tag, enc_data, enc_arguments, enc_datas, delta_kind, sum_kind, alt_kind, atom_kind, cond_kind, call_kind, seq_kind, first_cell, one_if, act_number, Item, enc, encs}

unfoldable pub data_tag : Data → ℕ
data_tag (val v) = value_tag
data_tag (var i) = variable_tag
data_tag (app f ds) = function_tag

unfoldable pub data_number : Data → ℕ
data_number (val v) = v
data_number (var i) = i
data_number (app f ds) = f

unfoldable pub data_kids : Data → List Data
data_kids (val v) = []
data_kids (var i) = []
data_kids (app f ds) = list_of ds

-- the second cell, of a function
unfoldable pub data_count : Data → List ℕ
data_count (val v) = []
data_count (var i) = []
data_count (app f ds) = length (list_of ds) ∷ []

unfoldable pub kind_of : Proc → ℕ
kind_of delta = delta_kind
kind_of (atom a ds) = atom_kind
kind_of (alt p q) = alt_kind
kind_of (cond c p q) = cond_kind
kind_of (sum x D p) = sum_kind
kind_of (seq p q) = seq_kind
kind_of (call k ds) = call_kind

-- 1 where the node gets a new equation
unfoldable pub node_own : Bool → Proc → ℕ
node_own r delta = one_if r
node_own r (atom a ds) = one_if r
node_own r (alt p q) = one_if r
node_own r (cond c p q) = one_if r
node_own r (sum x D p) = one_if r
node_own r (seq p q) = 0
node_own r (call k ds) = 0

unfoldable pub node_number : Proc → ℕ
node_number delta = 0
node_number (atom a ds) = act_number a
node_number (alt p q) = 0
node_number (cond c p q) = 0
node_number (sum x D p) = D
node_number (seq p q) = 0
node_number (call k ds) = k

unfoldable pub node_datas : Proc → List Data
node_datas delta = []
node_datas (atom a ds) = ds
node_datas (alt p q) = []
node_datas (cond c p q) = c ∷ []
node_datas (sum x D p) = var x ∷ []
node_datas (seq p q) = []
node_datas (call k ds) = ds

unfoldable pub node_kids : Bool → Proc → List Item
node_kids r delta = []
node_kids r (atom a ds) = []
node_kids r (alt p q) = (false, p) ∷ (false, q) ∷ []
node_kids r (cond c p q) = (false, p) ∷ (false, q) ∷ []
node_kids r (sum x D p) = (false, p) ∷ []
node_kids r (seq p q) = (r, p) ∷ (true, q) ∷ []
node_kids r (call k ds) = []

arguments_are : (ds : Datas) (es : List Data) → enc_arguments ds ++ enc_datas es ≡ enc_datas (list_of ds ++ es)
unfolding enc_data enc_datas list_of
arguments_are nil es = refl
arguments_are (cons d ds) es = append_assoc (enc_data d) (enc_arguments ds) (enc_datas es) ∙ ap (λ (l : List ℕ). enc_data d ++ l) (arguments_are ds es)

-- a data term opened: its cells, then its arguments and what follows
pub open_data : (d : Data) (ds : List Data) → enc_datas (d ∷ ds) ≡ (4 * data_number d + data_tag d) ∷ (data_count d ++ enc_datas (data_kids d ++ ds))
unfolding enc_data enc_datas data_tag data_number data_count data_kids
open_data (val v) ds = refl
open_data (var i) ds = refl
open_data (app f es) ds = ap (λ (l : List ℕ). (4 * f + function_tag) ∷ length (list_of es) ∷ l) (arguments_are es ds)

-- a process term opened: its cells, its data terms, then its subterms and what follows
pub open_node : (r : Bool) (p : Proc) (xs : List Item)
    → encs ((r, p) ∷ xs) ≡ first_cell (node_number p) (node_own r p) (kind_of p) ∷ length (enc_datas (node_datas p)) ∷ length (node_datas p) ∷ (enc_datas (node_datas p) ++ encs (node_kids r p ++ xs))
unfolding encs enc kind_of node_own node_number node_datas node_kids enc_datas
open_node r delta xs = refl
open_node r (atom a ds) xs = refl
open_node r (alt p q) xs = simp append_assoc
open_node r (cond c p q) xs = simp append_assoc
open_node r (sum x D p) xs = simp append_assoc
open_node r (seq p q) xs = simp append_assoc
open_node r (call k ds) xs = refl

pub node_arity : (r : Bool) (p : Proc) → length (node_kids r p) ≡ kind_of p % 4
unfolding node_kids kind_of
node_arity r delta = refl
node_arity r (atom a ds) = refl
node_arity r (alt p q) = refl
node_arity r (cond c p q) = refl
node_arity r (sum x D p) = refl
node_arity r (seq p q) = refl
node_arity r (call k ds) = refl

pub kind_small : (p : Proc) → kind_of p < 16
unfolding kind_of
kind_small delta = omega arith
kind_small (atom a ds) = omega arith
kind_small (alt p q) = omega arith
kind_small (cond c p q) = omega arith
kind_small (sum x D p) = omega arith
kind_small (seq p q) = omega arith
kind_small (call k ds) = omega arith

pub tag_small : (d : Data) → data_tag d < 4
unfolding data_tag
tag_small (val v) = omega arith
tag_small (var i) = omega arith
tag_small (app f ds) = omega arith

one_small : (r : Bool) → one_if r < 2
unfolding one_if
one_small true = omega arith
one_small false = omega arith

pub own_small : (r : Bool) (p : Proc) → node_own r p < 2
unfolding node_own
own_small r delta = one_small r
own_small r (atom a ds) = one_small r
own_small r (alt p q) = one_small r
own_small r (cond c p q) = one_small r
own_small r (sum x D p) = one_small r
own_small r (seq p q) = omega arith
own_small r (call k ds) = omega arith
