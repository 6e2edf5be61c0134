-- The new equations: "Brackets that hold only a sequence are flattened into the sequence around them.
-- Each part that then stands after the first and is not a call of a process gets a new equation, even if an equal part exists."
use Rattle.std.specs.Prelude.{List, [], ◌∷◌, ◌++◌, Bool, true, false, ℕ, zero, suc, ◌+◌, eqb, length}
use Rattle.pcrl.specs.Lists.{tabulate}
use Rattle.pcrl.specs.Tests.{or, and, negated}
use Rattle.pcrl.specs.Sheet.{Data, val, var, app, Datas, nil, cons, Proc, delta, atom, alt, cond, sum, seq, call, Process, Sheet}

-- Does the variable i stand free in it?
unfoldable mutual
  pub in_data : ℕ → Data → Bool
  in_data i (val v) = false
  in_data i (var x) = eqb i x
  in_data i (app f ds) = in_datas i ds

  pub in_datas : ℕ → Datas → Bool
  in_datas i nil = false
  in_datas i (cons d ds) = or (in_data i d) (in_datas i ds)

unfoldable pub in_list : ℕ → List Data → Bool
in_list i [] = false
in_list i (d ∷ ds) = or (in_data i d) (in_list i ds)

unfoldable pub in_proc : ℕ → Proc → Bool
in_proc i delta = false
in_proc i (atom a ds) = in_list i ds
in_proc i (alt p q) = or (in_proc i p) (in_proc i q)
in_proc i (cond c p q) = or (in_data i c) (or (in_proc i p) (in_proc i q))
in_proc i (sum x D p) = and (negated (eqb i x)) (in_proc i p)
in_proc i (seq p q) = or (in_proc i p) (in_proc i q)
in_proc i (call k ds) = in_list i ds

-- "Variables in scope are numbered from the outermost, and those free in the part are marked": n are in scope
unfoldable pub marks : ℕ → Proc → List Bool
marks n p = tabulate n (λ i. in_proc i p)

unfoldable pub count : List Bool → ℕ
count [] = zero
count (true ∷ bs) = suc (count bs)
count (false ∷ bs) = count bs

-- what stands at the marked places, "in that order"
unfoldable pub marked : {A : Type 0} → List Bool → List A → List A
marked [] xs = []
marked (b ∷ bs) [] = []
marked (true ∷ bs) (x ∷ xs) = x ∷ marked bs xs
marked (false ∷ bs) (x ∷ xs) = marked bs xs

-- a data term for each variable in scope: the marked ones are the parameters i, i + 1, .., the others do not matter
unfoldable pub as_params : List Bool → ℕ → List Data
as_params [] i = []
as_params (true ∷ bs) i = var i ∷ as_params bs (suc i)
as_params (false ∷ bs) i = val 0 ∷ as_params bs i

-- a part, with the sorts of the variables in scope
pub record NewPart : Type 0 where
  pub scope : List ℕ
  pub term : Proc

unfoldable pub if_after : Bool → List ℕ → Proc → List NewPart
if_after false Γ p = []
if_after true Γ p = record { scope = Γ; term = p } ∷ []

-- The parts of p that get new equations, "by the place of the part's first character, own brackets counted":
-- a part stands before the parts inside it. `after`: p itself stands after a first part.
unfoldable pub new_parts : Bool → List ℕ → Proc → List NewPart
new_parts after Γ delta = if_after after Γ delta
new_parts after Γ (atom a ds) = if_after after Γ (atom a ds)
new_parts after Γ (alt p q) = if_after after Γ (alt p q) ++ (new_parts false Γ p ++ new_parts false Γ q)
new_parts after Γ (cond c p q) = if_after after Γ (cond c p q) ++ (new_parts false Γ p ++ new_parts false Γ q)
new_parts after Γ (sum x D p) = if_after after Γ (sum x D p) ++ new_parts false (Γ ++ (D ∷ [])) p
new_parts after Γ (seq p q) = new_parts after Γ p ++ new_parts true Γ q
new_parts after Γ (call k ds) = []

-- how many they are
unfoldable pub new_count : Bool → Proc → ℕ
new_count after p = length (new_parts after [] p)

unfoldable pub all_new_parts : List Process → List NewPart
all_new_parts [] = []
all_new_parts (p ∷ ps) = new_parts false p.params p.right ++ all_new_parts ps

-- "New equations are numbered after the written ones": the number of the first one in the right side of process k, where c is that of process 0
unfoldable pub first_new : ℕ → List Process → ℕ → ℕ
first_new c [] k = c
first_new c (p ∷ ps) zero = c
first_new c (p ∷ ps) (suc k) = first_new (c + new_count false p.right) ps k

-- what an equation number stands for: no equation, a written process, or a part
pub data Kind : Type 0 where
  absent written : Kind
  part : NewPart → Kind

unfoldable pub kind_new : List NewPart → ℕ → Kind
kind_new [] e = absent
kind_new (x ∷ xs) zero = part x
kind_new (x ∷ xs) (suc e) = kind_new xs e

unfoldable pub kind_in : List Process → List NewPart → ℕ → Kind
kind_in [] xs e = kind_new xs e
kind_in (p ∷ ps) xs zero = written
kind_in (p ∷ ps) xs (suc e) = kind_in ps xs e

unfoldable pub kind : Sheet → ℕ → Kind
kind H e = kind_in H.procs (all_new_parts H.procs) e
