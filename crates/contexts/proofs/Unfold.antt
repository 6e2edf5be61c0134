-- Heads by the kind of a term, and heads in a context.
use mathlib.Core.Path.{◌≡◌, sym, ap, ap₂, ◌∙◌}
use mathlib.Core.List.{List, [], ◌∷◌, ◌++◌, map, append_assoc}
use mathlib.Core.Bool.{true, false}
use Prim.Native.Nat.{ℕ, suc, ◌+◌, ◌≤◌}
use native.Mathlib.Numerals.{add-one}
use native.Mathlib.Omega.{arith}
use lib.ListN.{length, length-append}
use Rattle.pcrl.specs.Limits.{max_variables, max_conditions, max_calls}
use Rattle.pcrl.specs.Tests.{Every}
use Rattle.pcrl.specs.Sheet.{Data, var, Act, Proc, delta, atom, alt, cond, sum, seq, call, Sheet, right}
use Rattle.pcrl.specs.Values.{put_data}
use Rattle.pcrl.specs.Parts.{new_count, first_new}
use Rattle.pcrl.specs.Table.{Summand}
use Rattle.pcrl.specs.Right.{Small, SummandWithin}
use Rattle.pcrl.specs.Heads.{look, calls_of, with_var, with_cond, with_calls, heads_by, heads}
use Rattle.laws.specs.Every.{every_left, every_right, every_both}
use Rattle.nodes.proofs.NewParts.{new_all, new_open}
use Rattle.nodes.specs.Nodes.{node_own, node_kids}
use Rattle.nodes.specs.Layout.{one_if}
use Rattle.counting.specs.Heads.{known_of, heads_open}
use Rattle.following.specs.Follows.{CallSmall}
use Rattle.contexts.specs.Spots.{SummandFits, CondSmall, around}

-- BY KIND

module _ (H : Sheet) (σ : List Data) (m c : ℕ) where
  pub heads_delta : (f : ℕ) → heads H f σ m c delta ≡ []
  unfolding heads_by
  heads_delta f = heads_open H f σ m c delta

  pub heads_atom : (f : ℕ) (a : Act) (ds : List Data) → heads H f σ m c (atom a ds) ≡ record { vars = []; conds = []; act = a; terms = map (put_data (look σ)) ds; calls = [] } ∷ []
  unfolding heads_by
  heads_atom f a ds = heads_open H f σ m c (atom a ds)

  pub heads_alt : (f : ℕ) (p q : Proc) → heads H f σ m c (alt p q) ≡ heads H f σ m c p ++ heads H f σ m (c + new_count false p) q
  unfolding heads_by
  heads_alt f p q = heads_open H f σ m c (alt p q) ∙ ap₂ (λ (x y : List Summand). x ++ y) (sym (heads_open H f σ m c p)) (sym (heads_open H f σ m (c + new_count false p) q))

  pub heads_cond : (f : ℕ) (d : Data) (p q : Proc) → heads H f σ m c (cond d p q)
      ≡ map (with_cond 1 (put_data (look σ) d)) (heads H f σ m c p) ++ map (with_cond 0 (put_data (look σ) d)) (heads H f σ m (c + new_count false p) q)
  unfolding heads_by
  heads_cond f d p q =
      heads_open H f σ m c (cond d p q)
      ∙ ap₂ (λ (x y : List Summand). map (with_cond 1 (put_data (look σ) d)) x ++ map (with_cond 0 (put_data (look σ) d)) y) (sym (heads_open H f σ m c p)) (sym (heads_open H f σ m (c + new_count false p) q))

  pub heads_sum : (f : ℕ) (x D : ℕ) (p : Proc) → heads H f σ m c (sum x D p) ≡ map (with_var D) (heads H f (σ ++ (var m ∷ [])) (m + 1) c p)
  unfolding heads_by
  heads_sum f x D p =
      heads_open H f σ m c (sum x D p) ∙ ap (map (with_var D)) (sym (heads_open H f (σ ++ (var m ∷ [])) (suc m) c p))
      ∙ ap (λ (k : ℕ). map (with_var D) (heads H f (σ ++ (var m ∷ [])) k c p)) (sym (add-one m))

  pub heads_seq : (f : ℕ) (p q : Proc) → heads H f σ m c (seq p q) ≡ map (with_calls (calls_of σ (c + new_count false p) q)) (heads H f σ m c p)
  unfolding heads_by
  heads_seq f p q = heads_open H f σ m c (seq p q) ∙ ap (map (with_calls (calls_of σ (c + new_count false p) q))) (sym (heads_open H f σ m c p))

  pub heads_call_none : (k : ℕ) (ds : List Data) → heads H 0 σ m c (call k ds) ≡ []
  unfolding heads_by known_of
  heads_call_none k ds = heads_open H 0 σ m c (call k ds)

  pub heads_call : (f k : ℕ) (ds : List Data) → heads H (suc f) σ m c (call k ds) ≡ heads H f (map (put_data (look σ)) ds) m (first_new (length H.procs) H.procs k) (right H k)
  unfolding heads_by known_of
  heads_call f k ds = heads_open H (suc f) σ m c (call k ds)

-- NEW EQUATIONS BY KIND

pub new_alt : (p q : Proc) → new_count false (alt p q) ≡ new_count false p + new_count false q
unfolding new_all node_own node_kids one_if
new_alt p q = let z = new_open false (alt p q) [] in omega arith

pub new_cond : (d : Data) (p q : Proc) → new_count false (cond d p q) ≡ new_count false p + new_count false q
unfolding new_all node_own node_kids one_if
new_cond d p q = let z = new_open false (cond d p q) [] in omega arith

pub new_sum : (x D : ℕ) (p : Proc) → new_count false (sum x D p) ≡ new_count false p
unfolding new_all node_own node_kids one_if
new_sum x D p = let z = new_open false (sum x D p) [] in omega arith

pub new_seq : (p q : Proc) → new_count false (seq p q) ≡ new_count false p + new_count true q
unfolding new_all node_own node_kids
new_seq p q = let z = new_open false (seq p q) [] in omega arith

-- IN A CONTEXT

pub around_var : (vs : List ℕ) (cs : List (ℕ × Data)) (ks : List (ℕ × List Data)) (D : ℕ) (x : Summand) → around vs cs ks (with_var D x) ≡ around (vs ++ (D ∷ [])) cs ks x
unfolding around with_var
around_var vs cs ks D x = ap (λ (l : List ℕ). record { vars = l; conds = cs ++ x.conds; act = x.act; terms = x.terms; calls = x.calls ++ ks }) (sym (append_assoc vs (D ∷ []) x.vars))

pub around_cond : (vs : List ℕ) (cs : List (ℕ × Data)) (ks : List (ℕ × List Data)) (w : ℕ) (d : Data) (x : Summand) → around vs cs ks (with_cond w d x) ≡ around vs (cs ++ ((w, d) ∷ [])) ks x
unfolding around with_cond
around_cond vs cs ks w d x = ap (λ (l : List (ℕ × Data)). record { vars = vs ++ x.vars; conds = l; act = x.act; terms = x.terms; calls = x.calls ++ ks }) (sym (append_assoc cs ((w, d) ∷ []) x.conds))

pub around_calls : (vs : List ℕ) (cs : List (ℕ × Data)) (ks : List (ℕ × List Data)) (es : List (ℕ × List Data)) (x : Summand) → around vs cs ks (with_calls es x) ≡ around vs cs (es ++ ks) x
unfolding around with_calls
around_calls vs cs ks es x = ap (λ (l : List (ℕ × List Data)). record { vars = vs ++ x.vars; conds = cs ++ x.conds; act = x.act; terms = x.terms; calls = l }) (append_assoc x.calls es ks)

-- what a head's limits say of its context
module _ (vs : List ℕ) (cs : List (ℕ × Data)) (ks : List (ℕ × List Data)) (x : Summand) (h : SummandFits (around vs cs ks x)) where
  pub within_vars : length vs ≤ max_variables
  unfolding SummandWithin around
  within_vars = let z = h.within.0 in omega (arith, length-append vs x.vars)

  pub within_conds : length cs ≤ max_conditions
  unfolding SummandWithin around
  within_conds = let z = h.within.1.0 in omega (arith, length-append cs x.conds)

  pub within_calls : length ks ≤ max_calls
  unfolding SummandWithin around
  within_calls = let z = h.within.1.1.0 in omega (arith, length-append x.calls ks)

  pub small_conds : Every CondSmall cs
  unfolding SummandWithin around
  small_conds = every_left CondSmall cs x.conds h.within.1.1.1.0

  pub small_terms : Every Small x.terms
  unfolding SummandWithin around
  small_terms = h.within.1.1.1.1.0

  pub small_calls : Every CallSmall ks
  unfolding SummandWithin around
  small_calls = every_right CallSmall x.calls ks (every_both _ _ CallSmall (λ c a b. (a, b)) (x.calls ++ ks) h.within.1.1.1.1.1 h.narrow)
