-- Values and data terms put for variables: what a term is then worth, and that a sum's variable may be put in after the others.
use Rattle.std.specs.Prelude.{◌≡◌, Bool, true, false, ◌≢◌, eqb, length, get_or}
use Rattle.std.proofs.Math.Path.{refl, fun_ext}
use Rattle.std.proofs.Common.{ap, ap₂, sym, ◌∙◌, arith, length-append}
use mathlib.Core.List.{List, [], ◌∷◌, ◌++◌, map}
use Rattle.std.proofs.Math.Option.{Option, none, some}
use Prim.Native.Nat.{ℕ, zero, suc, ◌<◌, ◌≤◌}
use Rattle.std.proofs.Math.Decide.{ℕ_discrete, dec_lt}
use Rattle.std.proofs.Math.ListN.{get_elem?, get_or-map}
use Rattle.pcrl.specs.Sheet.{Data, val, var, app, Datas, nil, cons, Proc, delta, atom, alt, cond, sum, seq, call, Sig}
use Rattle.pcrl.specs.Values.{apply, eval, evals, put_data, put_datas, except, put, or_var, these, only}
use Rattle.pcrl.specs.Heads.{look}
use Rattle.laws.specs.Tests.{eqb_self, eqb_true, eqb_other}
use Rattle.laws.specs.Lists.{map_twice, get_elem?_past, get_elem?_below, get_elem?_append, get_elem?_append_seam}
use Rattle.theory.specs.Standing.{Numbered}

-- WORTH

module _ (S : Sig) where
  mutual
    unfolding eval put_data look

    pub eval_look : (τ : List ℕ) (σ : List Data) (d : Data) → eval S τ (put_data (look σ) d) ≡ eval S (map (eval S τ) σ) d
    eval_look τ σ (val v) = refl
    eval_look τ σ (var i) = sym (get_or-map (eval S τ) σ i (val 0))
    eval_look τ σ (app f ds) = ap (apply S f) (evals_look τ σ ds)

    evals_look : (τ : List ℕ) (σ : List Data) (ds : Datas) → evals S τ (put_datas (look σ) ds) ≡ evals S (map (eval S τ) σ) ds
    evals_look τ σ nil = refl
    evals_look τ σ (cons d ds) = cc (eval_look τ σ d, evals_look τ σ ds)

  eval_or_var : (i : ℕ) (ρ : List ℕ) (k : ℕ) → eval S [] (or_var i (get_elem? ρ k)) ≡ get_or ρ k 0
  unfolding eval or_var
  eval_or_var i [] k = refl
  eval_or_var i (x ∷ ρ) zero = refl
  eval_or_var i (x ∷ ρ) (suc k) = eval_or_var i ρ k

  mutual
    unfolding eval put_data these

    pub eval_these : (ρ : List ℕ) (d : Data) → eval S [] (put_data (these ρ) d) ≡ eval S ρ d
    eval_these ρ (val v) = refl
    eval_these ρ (var i) = eval_or_var i ρ i
    eval_these ρ (app f ds) = ap (apply S f) (evals_these ρ ds)

    evals_these : (ρ : List ℕ) (ds : Datas) → evals S [] (put_datas (these ρ) ds) ≡ evals S ρ ds
    evals_these ρ nil = refl
    evals_these ρ (cons d ds) = cc (eval_these ρ d, evals_these ρ ds)

-- ONE VARIABLE

pub only_self : (x v : ℕ) → only x v x ≡ val v
unfolding only
only_self x v = rw (eqb_self x, only)

pub only_other : (x v i : ℕ) → i ≢ x → only x v i ≡ var i
unfolding only
only_other x v i h = rw (eqb_other i x h, only)

-- a bound variable for which nothing is put
except_free : (x : ℕ) (θ : ℕ → Data) → θ x ≡ var x → except x θ ≡ θ
unfolding except
except_free x θ h = fun_ext (λ i. go i (eqb i x) refl)
  where
    go : (i : ℕ) (b : Bool) → eqb i x ≡ b → elim b [ true ↦ var i | false ↦ θ i ] ≡ θ i
    go i true e = let z : i ≡ x = eqb_true i x e in rw z (sym h)
    go i false e = refl

these_past : (e : List ℕ) (x : ℕ) → length e ≤ x → these e x ≡ var x
unfolding these or_var
these_past e x h = ap (or_var x) (get_elem?_past e x h)

pub except_these : (e : List ℕ) (x : ℕ) → length e ≤ x → except x (these e) ≡ these e
except_these e x h = except_free x (these e) (these_past e x h)

-- ONE VARIABLE MORE

only_these : (e : List ℕ) (v i : ℕ) → put_data (only (length e) v) (these e i) ≡ these (e ++ (v ∷ [])) i
unfolding these put_data or_var
only_these e v i = go (dec_lt i (length e)) (ℕ_discrete i (length e))
  where
    at_end : i ≡ length e → put_data (only (length e) v) (these e i) ≡ these (e ++ (v ∷ [])) i
    at_end h =
        let a : get_elem? e i ≡ none = get_elem?_past e i (omega arith) in
        let b : get_elem? (e ++ (v ∷ [])) i ≡ some v = rw h (get_elem?_append_seam e v []) in
        ap (λ (o : Option ℕ). put_data (only (length e) v) (or_var i o)) a ∙ rw h (only_self (length e) v) ∙ sym (ap (or_var i) b)

    go : Dec (i < length e) → Dec (i ≡ length e) → put_data (only (length e) v) (these e i) ≡ these (e ++ (v ∷ [])) i
    go (yes h) d =
        let a : get_elem? e i ≡ some (get_or e i 0) = get_elem?_below e i 0 h in
        ap (λ (o : Option ℕ). put_data (only (length e) v) (or_var i o)) a ∙ sym (ap (or_var i) (get_elem?_append e (v ∷ []) i h ∙ a))
    go (no h) (yes k) = at_end k
    go (no h) (no k) =
        let j : length (e ++ (v ∷ [])) ≤ i = simp length-append (omega arith) in
        ap (λ (o : Option ℕ). put_data (only (length e) v) (or_var i o)) (get_elem?_past e i (omega arith))
        ∙ only_other (length e) v i k
        ∙ sym (these_past (e ++ (v ∷ [])) i j)

mutual
  unfolding put_data

  put_data_only : (e : List ℕ) (v : ℕ) (d : Data) → put_data (only (length e) v) (put_data (these e) d) ≡ put_data (these (e ++ (v ∷ []))) d
  put_data_only e v (val x) = refl
  put_data_only e v (var i) = only_these e v i
  put_data_only e v (app f ds) = ap (app f) (put_datas_only e v ds)

  put_datas_only : (e : List ℕ) (v : ℕ) (ds : Datas) → put_datas (only (length e) v) (put_datas (these e) ds) ≡ put_datas (these (e ++ (v ∷ []))) ds
  put_datas_only e v nil = refl
  put_datas_only e v (cons d ds) = cc (put_data_only e v d, put_datas_only e v ds)

-- In a term whose sums bind higher numbers, a value for the next variable may be put in behind the others.
pub put_only : (e : List ℕ) (v n : ℕ) (p : Proc) → length e < n → Numbered n p → put (only (length e) v) (put (these e) p) ≡ put (these (e ++ (v ∷ []))) p
unfolding put Numbered
put_only e v n delta h o = refl
put_only e v n (atom a ds) h o = ap (atom a) (map_twice _ _ _ (put_data_only e v) ds)
put_only e v n (alt p q) h o = ap₂ alt (put_only e v n p h o.0) (put_only e v n q h o.1)
put_only e v n (cond c p q) h o = cc (put_data_only e v c, put_only e v n p h o.0, put_only e v n q h o.1)
put_only e v n (sum x D p) h o =
    let i : x ≡ n = o.0 in
    let j : x ≢ length e = omega arith in
    let k : length (e ++ (v ∷ [])) ≤ x = simp length-append (omega arith) in
    let a : except x (these e) ≡ these e = except_these e x (omega arith) in
    let b : except x (only (length e) v) ≡ only (length e) v = except_free x _ (only_other (length e) v x j) in
    let c : except x (these (e ++ (v ∷ []))) ≡ these (e ++ (v ∷ [])) = except_these _ x k in
    rw (a, b, c, put_only e v (suc n) p (omega arith) o.1)
put_only e v n (seq p q) h o = cc (put_only e v n p h o.0, put_only e v n q h o.1)
put_only e v n (call k ds) h o = ap (call k) (map_twice _ _ _ (put_data_only e v) ds)
