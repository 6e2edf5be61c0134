-- What a text cannot say: `==` over two values. How data is retold by its text, and that data without such an `==` is retold as it is.
use Rattle.std.specs.Prelude.{◌≡◌, refl, List, [], ◌∷◌, map, Bool, true, false, ℕ, suc, T, length}
use Rattle.std.proofs.Common.{ap, ap₂}
use Rattle.pcrl.specs.Tests.{and, negated, Every}
use Rattle.pcrl.specs.Sheet.{Data, val, var, app, Datas, nil, cons, list_of, Operation, operation, unsorted_number}
use Rattle.pcrl.specs.Table.{Summand, Equation, Table}
use Rattle.laws.specs.Tests.{both_pass}

unfoldable pub is_value : Data → Bool
is_value (val v) = true
is_value (var i) = false
is_value (app f ds) = false

unfoldable pub all_values : Datas → Bool
all_values nil = true
all_values (cons d ds) = and (is_value d) (all_values ds)

-- DATA IN WHICH NO `==` STANDS OVER TWO VALUES

-- an operation, over values only or not
unfoldable pub sided_use : Operation → Bool → Bool
sided_use (Operation.equal D) values = negated values
sided_use (Operation.written f) values = true
sided_use Operation.not values = true
sided_use Operation.and values = true
sided_use Operation.or values = true
sided_use Operation.unsorted values = true

unfoldable mutual
  pub sided : Data → Bool
  sided (val v) = true
  sided (var i) = true
  sided (app f ds) = and (sided_use (operation f) (all_values ds)) (all_sided ds)

  pub all_sided : Datas → Bool
  all_sided nil = true
  all_sided (cons d ds) = and (sided d) (all_sided ds)

abbrev pub Sided : Data → Type 0
Sided d = T (sided d)

-- WHAT THE TEXT OF DATA IS READ AS

-- `==` over values only has no sort
unfoldable pub told_number : Operation → Bool → ℕ → ℕ
told_number (Operation.equal D) true f = unsorted_number
told_number (Operation.equal D) false f = f
told_number (Operation.written g) values f = f
told_number Operation.not values f = f
told_number Operation.and values f = f
told_number Operation.or values f = f
told_number Operation.unsorted values f = f

unfoldable mutual
  pub retold : Data → Data
  retold (val v) = val v
  retold (var i) = var i
  retold (app f ds) = app (told_number (operation f) (all_values ds) f) (retold_all ds)

  pub retold_all : Datas → Datas
  retold_all nil = nil
  retold_all (cons d ds) = cons (retold d) (retold_all ds)

pub retold_count : (ds : Datas) → length (list_of (retold_all ds)) ≡ length (list_of ds)
unfolding retold list_of
retold_count nil = refl
retold_count (cons d ds) = ap suc (retold_count ds)

told_sided : (o : Operation) (values : Bool) (f : ℕ) → T (sided_use o values) → told_number o values f ≡ f
unfolding sided_use told_number
told_sided (Operation.equal D) true f h = absurd h
told_sided (Operation.equal D) false f h = refl
told_sided (Operation.written g) values f h = refl
told_sided Operation.not values f h = refl
told_sided Operation.and values f h = refl
told_sided Operation.or values f h = refl
told_sided Operation.unsorted values f h = refl

mutual
  unfolding sided retold

  pub sided_retold : (d : Data) → Sided d → retold d ≡ d
  sided_retold (val v) h = refl
  sided_retold (var i) h = refl
  sided_retold (app f ds) h =
      let (here, inside) = both_pass (sided_use (operation f) (all_values ds)) (all_sided ds) h in
      ap₂ app (told_sided (operation f) (all_values ds) f here) (all_sided_retold ds inside)

  all_sided_retold : (ds : Datas) → T (all_sided ds) → retold_all ds ≡ ds
  all_sided_retold nil h = refl
  all_sided_retold (cons d ds) h = let (first, more) = both_pass (sided d) (all_sided ds) h in ap₂ cons (sided_retold d first) (all_sided_retold ds more)

-- TABLES

abbrev pub retold_cond : ℕ × Data → ℕ × Data
retold_cond c = (c.0, retold c.1)

abbrev pub retold_call : ℕ × List Data → ℕ × List Data
retold_call c = (c.0, map retold c.1)

unfoldable pub retold_summand : Summand → Summand
retold_summand h = record { vars = h.vars; conds = map retold_cond h.conds; act = h.act; terms = map retold h.terms; calls = map retold_call h.calls }

unfoldable pub retold_equation : Equation → Equation
retold_equation q = record { params = q.params; summands = map retold_summand q.summands }

unfoldable pub retold_table : Table → Table
retold_table U = record { layout = U.layout; sig = U.sig; equations = map retold_equation U.equations; start = U.start }

-- no `==` of it stands over two values
pub record SidedSummand (h : Summand) : Type 0 where
  pub conds : Every (λ (c : ℕ × Data). Sided c.1) h.conds
  pub terms : Every Sided h.terms
  pub calls : Every (λ (c : ℕ × List Data). Every Sided c.1) h.calls

abbrev pub SidedTable : Table → Type 0
SidedTable U = Every (λ (q : Equation). Every SidedSummand q.summands) U.equations

-- a list of things that are all as they were
map_same : {A : Type 0} (P : A → Type 0) (f : A → A) → ((a : A) → P a → f a ≡ a) → (l : List A) → Every P l → map f l ≡ l
unfolding Every
map_same P f e [] h = refl
map_same P f e (a ∷ l) h = ap₂ ◌∷◌ (e a h.0) (map_same P f e l h.1)

summand_retold : (h : Summand) → SidedSummand h → retold_summand h ≡ h
unfolding retold_summand
summand_retold h s =
    let cs : map retold_cond h.conds ≡ h.conds = map_same _ retold_cond (λ c k. ap (λ (d : Data). (c.0, d)) (sided_retold c.1 k)) h.conds s.conds in
    let ts : map retold h.terms ≡ h.terms = map_same Sided retold sided_retold h.terms s.terms in
    let ks : map retold_call h.calls ≡ h.calls = map_same _ retold_call (λ c k. ap (λ (ds : List Data). (c.0, ds)) (map_same Sided retold sided_retold c.1 k)) h.calls s.calls in
    rw (cs, ts, ks)

-- A TABLE IN WHICH NO `==` STANDS OVER TWO VALUES IS RETOLD AS IT IS.
pub table_retold : (U : Table) → SidedTable U → retold_table U ≡ U
unfolding retold_table retold_equation
table_retold U s =
    ap (λ (es : List Equation). record { layout = U.layout; sig = U.sig; equations = es; start = U.start })
    (map_same _ retold_equation (λ q h. ap (λ (hs : List Summand). record { params = q.params; summands = hs }) (map_same SidedSummand retold_summand summand_retold q.summands h)) U.equations s)
