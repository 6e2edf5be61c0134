-- One part's call.
use mathlib.Core.Path.{◌≡◌, refl, sym, ap, ◌∙◌, subst}
use mathlib.Core.List.{List, [], ◌∷◌, ◌++◌, map, append-nil}
use mathlib.Core.Bool.{Bool}
use Rattle.std.specs.Prelude.{Option, MatchOption}
use Prim.Native.Nat.{ℕ, suc, ◌+◌, ◌%◌, ◌<◌, ◌≤◌}
use native.Mathlib.Omega.{arith}
use lib.ListN.{length, take, set, length-map}
use Rattle.pcrl.specs.Limits.{frame_width}
use Rattle.pcrl.specs.Tests.{Every}
use Rattle.pcrl.specs.Reader.{all}
use Rattle.pcrl.specs.Sheet.{Data, Proc, delta, atom, alt, cond, sum, seq, call, Sheet}
use Rattle.pcrl.specs.Values.{put_data}
use Rattle.pcrl.specs.Parts.{marked, marks}
use Rattle.pcrl.specs.Stream.{encode_data, encode_call}
use Rattle.pcrl.specs.Heads.{look, new_call, calls_of}
use Rattle.nodes.specs.declared.Node.{Node}
use Rattle.nodes.specs.Layout.{byte_limit, seq_kind, call_kind}
use Rattle.nodes.specs.Nodes.{kind_of, node_number, node_datas}
use Rattle.nodes.specs.Views.{Opened, Views}
use Rattle.nodes.proofs.Nodes.{one_item}
use Rattle.putting.specs.Slots.{Adds}
use Rattle.putting.specs.Puts.{PutsAll}
use Rattle.putting.proofs.Options.{on_option}
use Rattle.putting.proofs.Bytes.{cell_more, adds_then}
use Rattle.marking.specs.Marks.{bits, Above, Marked}
use Rattle.following.specs.Fine.{Fine}
use Rattle.following.specs.Follows.{TermsSmall, CallSmall, MarkedPut, CallPut}

-- sums bind from n on
pub fine_above : (H : Sheet) (n k : ℕ) (p : Proc) → n ≤ k → Fine H k p → Above n p
unfolding Fine Above
fine_above H n k delta h f = tt
fine_above H n k (atom a ds) h f = tt
fine_above H n k (alt p q) h f = (fine_above H n k p h f.0, fine_above H n k q h f.1)
fine_above H n k (cond c p q) h f = (fine_above H n k p h f.1.0, fine_above H n k q h f.1.1)
fine_above H n k (sum x D p) h f = let z = f.0 in (omega arith, fine_above H n (suc k) p (omega arith) f.1.1.1)
fine_above H n k (seq p q) h f = (fine_above H n k p h f.0, fine_above H n k q h f.1)
fine_above H n k (call j ds) h f = tt

-- a part that is no call and no sequence has a call of its new equation
pub new_one : (σ : List Data) (c : ℕ) (p : Proc) → (kind_of p ≡ seq_kind → ⊥) → (kind_of p ≡ call_kind → ⊥) → calls_of σ c p ≡ (c, marked (marks (length σ) p) σ) ∷ []
unfolding kind_of calls_of new_call
new_one σ c delta a b = refl
new_one σ c (atom x ds) a b = refl
new_one σ c (alt p q) a b = refl
new_one σ c (cond d p q) a b = refl
new_one σ c (sum x D p) a b = refl
new_one σ c (seq p q) a b = absurd (a refl)
new_one σ c (call k ds) a b = absurd (b refl)

-- one call: its number, and its terms
one_call : (k : ℕ) (ds : List Data) → all encode_call ((k, ds) ∷ []) ≡ (k ∷ []) ++ all encode_data ds
unfolding all encode_call
one_call k ds = append-nil _

one_small : (k : ℕ) (ds : List Data) → TermsSmall ds → Every CallSmall ((k, ds) ∷ [])
unfolding Every
one_small k ds h = (h, tt)

small_one : (k : ℕ) (ds : List Data) → Every CallSmall ((k, ds) ∷ []) → TermsSmall ds
unfolding Every
small_one k ds h = h.0

-- a number and terms written
module _ (k w : ℕ) (o : List ℕ) (h : w < length o) (ds : List Data) (v : ℕ) (o' : List ℕ) where
  written : Adds (all encode_data ds) (w + 1) (set o w k) v o' → Adds (all encode_call ((k, ds) ∷ [])) w o v o'
  written a = adds_then (k ∷ []) (all encode_data ds) w (w + 1) v o (set o w k) o' (cell_more o w k h) a ∙ ap (λ (l : List ℕ). take w o ++ l) (sym (one_call k ds))

module _ (cells : List ℕ) (at c : ℕ) (slots : List ℕ) (n w : ℕ) (o : List ℕ) (inside : w < length o) (d : Node) (vw : Views cells at d) where
  -- the call of p written, or its terms are no small ones
  abbrev Put : Option ℕ → List ℕ → List Data → Proc → Type 0
  Put r o' σ p = MatchOption r (¬ (Every CallSmall (calls_of σ c p))) (λ v. Every CallSmall (calls_of σ c p) × Adds (all encode_call (calls_of σ c p)) w o v o')

  -- a call of a process with more terms than there can be parameters is none
  pub call_wide : d.kind ≡ call_kind → frame_width < d.datas → (r : Option ℕ) (o' : List ℕ) → CallPut cells at c slots n w o r o'
  unfolding kind_of node_datas Fine
  call_wide is big r o' H b p rest σ few e other s f = go p (vw b p [] rest (e ∙ one_item b p rest)) f
    where
      go : (p : Proc) → Opened cells b p [] rest d → Fine H n p → Put r o' σ p
      go delta u f = absurd (omega (arith, u.kind_is))
      go (atom a ds) u f = absurd (omega (arith, u.kind_is))
      go (alt p q) u f = absurd (omega (arith, u.kind_is))
      go (cond x p q) u f = absurd (omega (arith, u.kind_is))
      go (sum x D p) u f = absurd (omega (arith, u.kind_is))
      go (seq p q) u f = absurd (omega (arith, u.kind_is))
      go (call k ds) u f = absurd (omega (arith, u.datas_is, f.1.0, few.params_few k f.0))

  pub call_put : d.kind ≡ call_kind → (r : Option ℕ) (o' : List ℕ) → PutsAll cells d.terms d.datas slots n (w + 1) (set o w (d.number % byte_limit)) r o' → CallPut cells at c slots n w o r o'
  unfolding kind_of node_datas node_number Fine calls_of
  call_put is r o' put H b p rest σ few e other s f = go p (vw b p [] rest (e ∙ one_item b p rest)) f
    where
      go : (p : Proc) → Opened cells b p [] rest d → Fine H n p → Put r o' σ p
      go delta u f = absurd (omega (arith, u.kind_is))
      go (atom a ds) u f = absurd (omega (arith, u.kind_is))
      go (alt p q) u f = absurd (omega (arith, u.kind_is))
      go (cond x p q) u f = absurd (omega (arith, u.kind_is))
      go (sum x D p) u f = absurd (omega (arith, u.kind_is))
      go (seq p q) u f = absurd (omega (arith, u.kind_is))
      go (call k ds) u f =
          let z : d.number % byte_limit ≡ k = omega (arith, u.number_is, f.0, few.procs_few) in
          on_option r (put ds _ σ (sym u.datas_is) u.terms_are s f.1.1)
          (λ y h. y (small_one k _ h).0)
          (λ v y. (one_small k _ (y.0, omega (arith, length-map ds (put_data (look σ)), f.1.0, few.params_few k f.0)), written k w o inside _ v o' (subst (λ (x : ℕ). Adds (all encode_data (map (put_data (look σ)) ds)) (w + 1) (set o w x) v o') z y.1)))

  pub part_put : c < byte_limit → (d.kind ≡ call_kind → ⊥) → (m : ℕ) → Marked cells at n m → (r : Option ℕ) (o' : List ℕ) → MarkedPut m slots n (w + 1) (set o w c) r o' → CallPut cells at c slots n w o r o'
  part_put cl other m mk r o' put H b p rest σ few e nq s f =
      let u = vw b p [] rest (e ∙ one_item b p rest) in
      let g : calls_of σ c p ≡ (c, marked (marks (length σ) p) σ) ∷ [] = new_one σ c p nq (λ z. other (u.kind_is ∙ z)) in
      let y : bits n m ≡ marks (length σ) p = mk b p rest e (fine_above H n n p (omega arith) f) ∙ ap (λ (k : ℕ). marks k p) (sym s.many) in
      on_option r (put σ s)
      (λ z h. z (subst (λ (l : List Bool). TermsSmall (marked l σ)) (sym y) (small_one c _ (subst (λ (l : List (ℕ × List Data)). Every CallSmall l) g h))))
      (λ v z. (
        subst (λ (l : List (ℕ × List Data)). Every CallSmall l) (sym g) (one_small c _ (subst (λ (l : List Bool). TermsSmall (marked l σ)) y z.0)),
        subst (λ (l : List (ℕ × List Data)). Adds (all encode_call l) w o v o') (sym g)
            (written c w o inside _ v o' (subst (λ (l : List Bool). Adds (all encode_data (marked l σ)) (w + 1) (set o w c) v o') y z.1)),
      ))
