-- Values put for some variables of a term: none changes nothing, and one more may be put in after the others.
use Rattle.std.specs.Prelude.{◌≡◌, refl, List, map, Bool, ℕ, eqb}
use Rattle.std.proofs.Common.{ap, ap₂, ◌∙◌, map-id}
use Rattle.std.proofs.Math.Path.{fun_ext}
use Rattle.std.proofs.Math.Bool.{true, false}
use Rattle.std.proofs.Math.Option.{Option, none, some}
use Rattle.pcrl.specs.Sheet.{Data, val, var, app, Datas, nil, cons, Proc, delta, atom, alt, cond, sum, seq, call}
use Rattle.pcrl.specs.Values.{put_data, put_datas, put, except, or_var, only}
use Rattle.laws.specs.Lists.{map_twice}

-- the value of each variable that has one; the others stay
abbrev pub valued : (ℕ → Option ℕ) → ℕ → Data
valued e i = or_var i (e i)

-- with the value v for x
unfoldable pub with_value : ℕ → ℕ → (ℕ → Option ℕ) → ℕ → Option ℕ
with_value x v e i = elim (eqb i x) [ true ↦ some v | false ↦ e i ]

-- NOTHING PUT IN

mutual
  unfolding put_data

  put_data_var : (d : Data) → put_data var d ≡ d
  put_data_var (val v) = refl
  put_data_var (var i) = refl
  put_data_var (app f ds) = ap (app f) (put_datas_var ds)

  put_datas_var : (ds : Datas) → put_datas var ds ≡ ds
  put_datas_var nil = refl
  put_datas_var (cons d ds) = cc (put_data_var d, put_datas_var ds)

all_var : (ds : List Data) → map (put_data var) ds ≡ ds
all_var ds = ap (λ (f : Data → Data). map f ds) (fun_ext put_data_var) ∙ map-id ds

except_var : (x : ℕ) → except x var ≡ var
unfolding except
except_var x = fun_ext (λ i. go i (eqb i x))
  where
    go : (i : ℕ) (b : Bool) → elim b [ true ↦ var i | false ↦ var i ] ≡ var i
    go i true = refl
    go i false = refl

pub put_var : (p : Proc) → put var p ≡ p
unfolding put
put_var delta = refl
put_var (atom a ds) = ap (atom a) (all_var ds)
put_var (alt p q) = ap₂ alt (put_var p) (put_var q)
put_var (cond c p q) = cc (put_data_var c, put_var p, put_var q)
put_var (sum x D p) = rw (except_var x, put_var p)
put_var (seq p q) = ap₂ seq (put_var p) (put_var q)
put_var (call k ds) = ap (call k) (all_var ds)

-- ONE VALUE MORE

-- what one and then another, put for the variable i, come to: the first may leave it, or have a value for it
data Then (i : ℕ) : Data → Data → Data → Type 0 where
  left : {d : Data} → Then i (var i) d d
  known : {w : ℕ} {d : Data} → Then i (val w) d (val w)

-- φ put in after θ is ψ
abbrev Both : (θ φ ψ : ℕ → Data) → Type 0
Both θ φ ψ = (i : ℕ) → Then i (θ i) (φ i) (ψ i)

var_then : (φ : ℕ → Data) (i : ℕ) {d f g : Data} → φ i ≡ f → Then i d f g → put_data φ d ≡ g
unfolding put_data
var_then φ i e left = e
var_then φ i e known = refl

module _ (θ φ ψ : ℕ → Data) (h : Both θ φ ψ) where
  mutual
    unfolding put_data

    put_data_then : (d : Data) → put_data φ (put_data θ d) ≡ put_data ψ d
    put_data_then (val v) = refl
    put_data_then (var i) = var_then φ i refl (h i)
    put_data_then (app f ds) = ap (app f) (put_datas_then ds)

    put_datas_then : (ds : Datas) → put_datas φ (put_datas θ ds) ≡ put_datas ψ ds
    put_datas_then nil = refl
    put_datas_then (cons d ds) = cc (put_data_then d, put_datas_then ds)

  -- below a sum, whose variable stays
  both_except : (x : ℕ) → Both (except x θ) (except x φ) (except x ψ)
  unfolding except
  both_except x i = go (eqb i x)
    where
      go : (b : Bool) → Then i (elim b [ true ↦ var i | false ↦ θ i ]) (elim b [ true ↦ var i | false ↦ φ i ]) (elim b [ true ↦ var i | false ↦ ψ i ])
      go true = left
      go false = h i

put_then : (θ φ ψ : ℕ → Data) → Both θ φ ψ → (p : Proc) → put φ (put θ p) ≡ put ψ p
unfolding put
put_then θ φ ψ h delta = refl
put_then θ φ ψ h (atom a ds) = ap (atom a) (map_twice _ _ _ (put_data_then θ φ ψ h) ds)
put_then θ φ ψ h (alt p q) = ap₂ alt (put_then θ φ ψ h p) (put_then θ φ ψ h q)
put_then θ φ ψ h (cond c p q) = cc (put_data_then θ φ ψ h c, put_then θ φ ψ h p, put_then θ φ ψ h q)
put_then θ φ ψ h (sum x D p) = ap (sum x D) (put_then (except x θ) (except x φ) (except x ψ) (both_except θ φ ψ h x) p)
put_then θ φ ψ h (seq p q) = ap₂ seq (put_then θ φ ψ h p) (put_then θ φ ψ h q)
put_then θ φ ψ h (call k ds) = ap (call k) (map_twice _ _ _ (put_data_then θ φ ψ h) ds)

both_value : (x v : ℕ) (e : ℕ → Option ℕ) → Both (except x (valued e)) (only x v) (valued (with_value x v e))
unfolding except only with_value or_var
both_value x v e i = go (eqb i x) (e i)
  where
    go : (b : Bool) (o : Option ℕ) → Then i (elim b [ true ↦ var i | false ↦ or_var i o ]) (elim b [ true ↦ val v | false ↦ var i ]) (or_var i (elim b [ true ↦ some v | false ↦ o ]))
    go true o = left
    go false none = left
    go false (some w) = known

pub put_value : (x v : ℕ) (e : ℕ → Option ℕ) (p : Proc) → put (only x v) (put (except x (valued e)) p) ≡ put (valued (with_value x v e)) p
put_value x v e p = put_then _ _ _ (both_value x v e) p
