-- What data terms are worth, and data terms put for variables.
use Rattle.std.specs.Prelude.{List, [], ◌∷◌, map, true, false, ℕ, ◌+◌, ◌*◌, eqb, get_or}
use Rattle.std.proofs.Math.Option.{Option, none, some}
use Rattle.std.proofs.Math.ListN.{get_elem?}
use Rattle.pcrl.specs.Sheet.{Data, val, var, app, Datas, nil, cons, Proc, delta, atom, alt, cond, sum, seq, call, Sig, size, function_at}

module _ (S : Sig) where
  -- the place of some values among all of these sorts, "last argument fastest"; n is the place of those before
  unfoldable pub place : ℕ → List ℕ → List ℕ → ℕ
  place n [] vs = n
  place n (D ∷ Ds) [] = n
  place n (D ∷ Ds) (v ∷ vs) = place (n * size S D + v) Ds vs

  unfoldable pub apply : ℕ → List ℕ → ℕ
  apply f vs = get_or (function_at S f).values (place 0 (function_at S f).takes vs) 0

  -- a data term's value, with values for the variables 0, 1, ..
  unfoldable mutual
    pub eval : List ℕ → Data → ℕ
    eval e (val v) = v
    eval e (var i) = get_or e i 0
    eval e (app f ds) = apply f (evals e ds)

    pub evals : List ℕ → Datas → List ℕ
    evals e nil = []
    evals e (cons d ds) = eval e d ∷ evals e ds

-- data terms put for the variables of a data term
unfoldable mutual
  pub put_data : (ℕ → Data) → Data → Data
  put_data θ (val v) = val v
  put_data θ (var i) = θ i
  put_data θ (app f ds) = app f (put_datas θ ds)

  pub put_datas : (ℕ → Data) → Datas → Datas
  put_datas θ nil = nil
  put_datas θ (cons d ds) = cons (put_data θ d) (put_datas θ ds)

-- all but x, which is bound and stays
unfoldable pub except : ℕ → (ℕ → Data) → ℕ → Data
except x θ i = elim (eqb i x) [ true ↦ var i | false ↦ θ i ]

-- data terms put for the free variables of a process term
unfoldable pub put : (ℕ → Data) → Proc → Proc
put θ delta = delta
put θ (atom a ds) = atom a (map (put_data θ) ds)
put θ (alt p q) = alt (put θ p) (put θ q)
put θ (cond c p q) = cond (put_data θ c) (put θ p) (put θ q)
put θ (sum x D p) = sum x D (put (except x θ) p)
put θ (seq p q) = seq (put θ p) (put θ q)
put θ (call k ds) = call k (map (put_data θ) ds)

-- a variable's value, if it has one, and else the variable
unfoldable pub or_var : ℕ → Option ℕ → Data
or_var i none = var i
or_var i (some v) = val v

-- values for the variables 0, 1, ..; the others stay
unfoldable pub these : List ℕ → ℕ → Data
these vs i = or_var i (get_elem? vs i)

-- a value for the variable x; the others stay
unfoldable pub only : ℕ → ℕ → ℕ → Data
only x v i = elim (eqb i x) [ true ↦ val v | false ↦ var i ]
