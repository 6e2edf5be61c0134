-- The node that stands at a place of a stream: a byte by itself, or `==` and the byte of its sort.
use mathlib.Core.Path.{◌≡◌, sym, subst, ◌∙◌}
use mathlib.Core.List.{List}
use mathlib.Core.Bool.{Bool}
use Prim.Native.Nat.{ℕ, suc, ◌+◌, ◌<◌, ◌≤◌}
use native.Mathlib.Omega.{arith}
use native.Mathlib.Decide.{ℕ_discrete, dec_lt}
use lib.ListN.{length, get_or, drop, drop_of_length-le}
use lib.Seq.{drop-cons}
use Rattle.pcrl.specs.Reader.{missing, found, keep}
use Rattle.pcrl.specs.Sheet.{Sig, first_equal}
use Rattle.pcrl.specs.Decode.{Node, function, node_of, sorted_equal, code_limit, read_node, Fits}
use Rattle.laws.specs.Tests.{where_yes, where_no}
use Rattle.laws.specs.Says.{Says, says_as}
use Rattle.codec.specs.Lawful.{never, keeps}
use Rattle.terms.specs.Fitting.{NextFits}
use Rattle.terms.proofs.Rests.{drops}

-- WHETHER IT FITS

module _ (S : Sig) (Γ : List ℕ) (D : ℕ) (xs : List ℕ) where
  pub fits_none : read_node xs ≡ missing → ¬ NextFits S Γ D xs
  fits_none e k = never k.node k.rest (sym e ∙ k.next)

  pub fits_next : (r : Bool) (x : Node) (ys : List ℕ) → read_node xs ≡ found x ys → Says r (Fits S Γ D x) → Says r (NextFits S Γ D xs)
  fits_next r x ys e y = says_as r (λ f. record { node = x; rest = ys; next = e; fits = f }) (λ k. back k) y
    where
      back : NextFits S Γ D xs → Fits S Γ D x
      back k = let z : k.node ≡ x = same k.next in subst (λ (n : Node). Fits S Γ D n) z k.fits
        where
          same : read_node xs ≡ found k.node k.rest → k.node ≡ x
          same f = cc

-- A NODE OF ONE BYTE

module _ (s : List ℕ) (i : ℕ) (h : i < length s) (other : ¬ (get_or s i 0 ≡ 0x61)) where
  kept : read_node (drop i s) ≡ keep (dec_lt (get_or s i 0) code_limit) (node_of (get_or s i 0)) (drop (suc i) s)
  unfolding read_node
  kept = rw (drop-cons s i 0 h) (where_no (ℕ_discrete (get_or s i 0) 0x61) other _ _)

  pub node_here : get_or s i 0 < code_limit → read_node (drop i s) ≡ found (node_of (get_or s i 0)) (drop (suc i) s)
  node_here l = kept ∙ keeps (dec_lt (get_or s i 0) code_limit) (node_of (get_or s i 0)) (drop (suc i) s) l

  pub no_code : code_limit ≤ get_or s i 0 → read_node (drop i s) ≡ missing
  no_code l = kept ∙ drops (dec_lt (get_or s i 0) code_limit) (node_of (get_or s i 0)) (drop (suc i) s) (λ k. omega arith)

  pub fits_here : (S : Sig) (Γ : List ℕ) (D : ℕ) (r : Bool) → get_or s i 0 < code_limit → Says r (Fits S Γ D (node_of (get_or s i 0))) → Says r (NextFits S Γ D (drop i s))
  fits_here S Γ D r l y = fits_next S Γ D (drop i s) r (node_of (get_or s i 0)) (drop (suc i) s) (node_here l) y

  -- what was found is that node
  pub record Here (x : Node) (ys : List ℕ) : Type 0 where
    pub code : get_or s i 0 < code_limit
    pub is : x ≡ node_of (get_or s i 0)
    pub rest : drop (suc i) s ≡ ys

  pub found_here : (x : Node) (ys : List ℕ) → read_node (drop i s) ≡ found x ys → Here x ys
  unfolding keep
  found_here x ys e = go (dec_lt (get_or s i 0) code_limit) (sym kept ∙ e)
    where
      go : (d : Dec (get_or s i 0 < code_limit)) → keep d (node_of (get_or s i 0)) (drop (suc i) s) ≡ found x ys → Here x ys
      go (yes l) e = record { code = l; is = cc; rest = cc }
      go (no l) e = never x ys e

  pub node_past : (r : ℕ) → r ≡ suc i → (x : Node) (ys : List ℕ) → read_node (drop i s) ≡ found x ys → drop r s ≡ ys
  node_past r z x ys e = rw z (found_here x ys e).rest

-- `==`, AND ITS SORT AT j

module _ (s : List ℕ) (i j : ℕ) (h : i < length s) (equal : get_or s i 0 ≡ 0x61) (z : j ≡ suc i) where
  sort_next : read_node (drop i s) ≡ sorted_equal (drop j s)
  unfolding read_node
  sort_next = rw (z, drop-cons s i 0 h) (where_yes (ℕ_discrete (get_or s i 0) 0x61) equal _ _)

  pub equal_here : j < length s → read_node (drop i s) ≡ found (function (first_equal + get_or s j 0)) (drop (suc j) s)
  unfolding sorted_equal
  equal_here k = sort_next ∙ rw (drop-cons s j 0 k)

  pub no_sort : length s ≤ j → read_node (drop i s) ≡ missing
  unfolding sorted_equal
  no_sort k = sort_next ∙ rw (drop_of_length-le s {i = j} k)

  -- what was found is that node
  pub found_equal : (x : Node) (ys : List ℕ) → read_node (drop i s) ≡ found x ys → (x ≡ function (first_equal + get_or s j 0)) × (drop (suc j) s ≡ ys) × (j < length s)
  found_equal x ys e = go (dec_lt j (length s))
    where
      go : Dec (j < length s) → (x ≡ function (first_equal + get_or s j 0)) × (drop (suc j) s ≡ ys) × (j < length s)
      go (yes k) = let f = equal_here k in (cc, cc, k)
      go (no k) = never x ys (sym (no_sort (omega arith)) ∙ e)

  pub equal_past : (r : ℕ) → r ≡ suc j → (x : Node) (ys : List ℕ) → read_node (drop i s) ≡ found x ys → drop r s ≡ ys
  equal_past r y x ys e = rw y (found_equal x ys e).1
