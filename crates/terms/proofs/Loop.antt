-- A term is read by a loop over the sorts that are still expected; its budget of nodes is what is left of 31.
use mathlib.Core.Path.{◌≡◌, refl, sym, ap, subst}
use mathlib.Core.List.{List, [], ◌∷◌, ◌++◌}
use mathlib.Core.Bool.{false}
use Prim.Native.Nat.{ℕ, zero, suc, ◌<◌, ◌≤◌}
use native.Mathlib.Omega.{arith}
use lib.ListN.{length, get_or, drop, drop_of_length-le}
use Rattle.pcrl.specs.Limits.{max_nodes}
use Rattle.pcrl.specs.Reader.{Got, missing, found, bind, view}
use Rattle.pcrl.specs.Sheet.{Sig}
use Rattle.pcrl.specs.Decode.{Node, node_of, read_node, guard, Fits, fits?, wants, build, read_terms, first, read_term}
use Rattle.terms.specs.Ends.{rests}
use Rattle.terms.specs.Fitting.{NextFits}
use Rattle.terms.proofs.Rests.{view_rests}
use Rattle.terms.proofs.NextNode.{node_here, fits_here}

module _ (S : Sig) (Γ : List ℕ) where
  pub term_start : (D : ℕ) (xs : List ℕ) → rests (read_term S Γ D xs) ≡ rests (read_terms S Γ max_nodes (D ∷ []) xs)
  unfolding read_term
  term_start D xs = view_rests (first S Γ) (read_terms S Γ max_nodes (D ∷ [])) xs

  pub none_wanted : (n : ℕ) (xs : List ℕ) → rests (read_terms S Γ n [] xs) ≡ found tt xs
  unfolding read_terms rests
  none_wanted zero xs = refl
  none_wanted (suc n) xs = refl

  spent : (D : ℕ) (Ds xs : List ℕ) → rests (read_terms S Γ 0 (D ∷ Ds) xs) ≡ missing
  unfolding read_terms rests
  spent D Ds xs = refl

  at_an_end : (n D : ℕ) (Ds : List ℕ) → rests (read_terms S Γ n (D ∷ Ds) []) ≡ missing
  unfolding read_terms read_node bind rests
  at_an_end zero D Ds = refl
  at_an_end (suc n) D Ds = refl

  misfit : (n D : ℕ) (Ds xs : List ℕ) → ¬ NextFits S Γ D xs → rests (read_terms S Γ n (D ∷ Ds) xs) ≡ missing
  unfolding read_terms rests guard bind
  misfit zero D Ds xs h = refl
  misfit (suc n) D Ds xs h = go (read_node xs) refl
    where
      test : (x : Node) (ys : List ℕ) → read_node xs ≡ found x ys → (d : Dec (Fits S Γ D x)) → rests (guard d (λ h. view (build S Γ x) (read_terms S Γ n (wants S Γ x ++ Ds)) ys)) ≡ missing
      test x ys e (yes k) = absurd (h (record { node = x; rest = ys; next = e; fits = k }))
      test x ys e (no k) = refl

      go : (g : Got ℕ Node) → read_node xs ≡ g → rests (bind g (λ x ys. guard (fits? S Γ D x) (λ h. view (build S Γ x) (read_terms S Γ n (wants S Γ x ++ Ds)) ys))) ≡ missing
      go missing e = refl
      go (found x ys) e = test x ys e (fits? S Γ D x)

  fit : (n m D : ℕ) (Ds xs : List ℕ) (k : NextFits S Γ D xs) → n ≡ suc m → rests (read_terms S Γ n (D ∷ Ds) xs) ≡ rests (read_terms S Γ m (wants S Γ k.node ++ Ds) k.rest)
  unfolding read_terms guard bind
  fit n m D Ds xs k e = rw (e, k.next) (go k.node k.rest k.fits (fits? S Γ D k.node))
    where
      go : (x : Node) (ys : List ℕ) → Fits S Γ D x → (d : Dec (Fits S Γ D x)) → rests (guard d (λ h. view (build S Γ x) (read_terms S Γ m (wants S Γ x ++ Ds)) ys)) ≡ rests (read_terms S Γ m (wants S Γ x ++ Ds) ys)
      go x ys h (yes l) = view_rests (build S Γ x) (read_terms S Γ m (wants S Γ x ++ Ds)) ys
      go x ys h (no l) = absurd (l h)

  split : (st : List ℕ) → 0 < length st → st ≡ get_or st 0 0 ∷ drop 1 st
  split [] h = absurd (omega arith)
  split (x ∷ st) h = refl

  -- the same where the code stands: sorts st are expected, some at least, at the place i of s
  module _ (st s : List ℕ) (i n : ℕ) (full : 0 < length st) where
    pub term_spent : n ≡ 0 → rests (read_terms S Γ n st (drop i s)) ≡ missing
    term_spent e = rw (e, split st full) (spent (get_or st 0 0) (drop 1 st) (drop i s))

    pub term_end : length s ≤ i → rests (read_terms S Γ n st (drop i s)) ≡ missing
    term_end e = rw (drop_of_length-le s {i = i} e, split st full) (at_an_end n (get_or st 0 0) (drop 1 st))

    pub operator_bad : ¬ NextFits S Γ (get_or st 0 0) (drop i s) → rests (read_terms S Γ n st (drop i s)) ≡ missing
    operator_bad h = subst (λ (l : List ℕ). rests (read_terms S Γ n l (drop i s)) ≡ missing) (sym (split st full)) (misfit n (get_or st 0 0) (drop 1 st) (drop i s) h)

    pub operator_good : (st' : List ℕ) (j m : ℕ) (k : NextFits S Γ (get_or st 0 0) (drop i s)) → n ≡ suc m → drop j s ≡ k.rest → st' ≡ wants S Γ k.node ++ drop 1 st
        → rests (read_terms S Γ n st (drop i s)) ≡ rests (read_terms S Γ m st' (drop j s))
    operator_good st' j m k e q w =
        rw (q, w) (subst (λ (l : List ℕ). rests (read_terms S Γ n l (drop i s)) ≡ rests (read_terms S Γ m (wants S Γ k.node ++ drop 1 st) k.rest)) (sym (split st full)) (fit n m (get_or st 0 0) (drop 1 st) (drop i s) k e))

    -- a byte that is no operator
    module _ (h : i < length s) (usual : get_or s i 0 < 0x60) where
      pub term_bad : ¬ Fits S Γ (get_or st 0 0) (node_of (get_or s i 0)) → rests (read_terms S Γ n st (drop i s)) ≡ missing
      term_bad k = operator_bad (fits_here s i h (λ e. omega arith) S Γ (get_or st 0 0) false (omega arith) k)

      pub term_good : (st' : List ℕ) (j m : ℕ) → n ≡ suc m → j ≡ suc i → Fits S Γ (get_or st 0 0) (node_of (get_or s i 0)) → st' ≡ wants S Γ (node_of (get_or s i 0)) ++ drop 1 st
          → rests (read_terms S Γ n st (drop i s)) ≡ rests (read_terms S Γ m st' (drop j s))
      term_good st' j m e q k w =
          operator_good st' j m (record { node = node_of (get_or s i 0); rest = drop (suc i) s; next = node_here s i h (λ e. omega arith) (omega arith); fits = k }) e (ap (λ (x : ℕ). drop x s) q) w
