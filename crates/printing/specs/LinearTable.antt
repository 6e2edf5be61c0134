-- The table of the linear sheet of a table is that table, with the names of its sorts, and no circle is in that sheet.
use Rattle.std.specs.Prelude.{◌≡◌, refl, ℕ, suc, ◌+◌, ◌<◌, T}
use Rattle.std.proofs.Math.Path.{ap, ap₂}
use Rattle.std.proofs.Common.{◌∙◌, arith}
use mathlib.Core.List.{List, [], ◌∷◌, ◌++◌, map, map-id}
use Rattle.std.proofs.Math.ListN.{length, get_or, length-map}
use Rattle.pcrl.specs.Sheet.{val, Process, no_process, Sheet, params, right}
use Rattle.pcrl.specs.Values.{eval}
use Rattle.pcrl.specs.Sorts.{RightlySorted}
use Rattle.pcrl.specs.Circles.{at_head, Member, direct, further, NoCircle, guarded}
use Rattle.pcrl.specs.Lists.{tabulate}
use Rattle.pcrl.specs.Parts.{NewPart, all_new_parts, first_new, Kind, written, kind}
use Rattle.pcrl.specs.Table.{Summand, Equation, with_names, Table, renewed, no_equation}
use Rattle.pcrl.specs.Heads.{heads, fuel, equation_of, table_of}
use Rattle.laws.specs.Lists.{map_twice, get_d_map}
use Rattle.laws.specs.Every.{every_at, every_get_or, every_of_all, every_map}
use Rattle.theory.specs.Segments.{kind_written}
use Rattle.theory.specs.Circle.{guarded_no_circle}
use Rattle.printing.specs.Plain.{PlainEquation, PlainTable}
use Rattle.printing.specs.Linear.{linear_process, linear_sheet}
use Rattle.printing.specs.LinearHeads.{own, heads_linear}
use Rattle.printing.specs.LinearForms.{linear_no_parts, linear_at_head}

-- NO NEW EQUATIONS

no_new_parts : (es : List Equation) → all_new_parts (map linear_process es) ≡ []
unfolding all_new_parts linear_process
no_new_parts [] = refl
no_new_parts (q ∷ es) = ap₂ ◌++◌ (linear_no_parts q.params (length q.params) q.summands) (no_new_parts es)

-- THE EQUATIONS

-- a list by its places
tabulate_list : {A : Type 0} (d : A) (l : List A) (f : ℕ → A) → ((i : ℕ) → i < length l → f i ≡ get_or l i d) → tabulate (length l) f ≡ l
unfolding tabulate
tabulate_list d [] f h = refl
tabulate_list d (a ∷ l) f h = ap₂ ◌∷◌ (h 0 (omega arith)) (tabulate_list d l (λ i. f (suc i)) (λ i w. h (suc i) (omega arith)))

module _ (U : Table) (plain : PlainTable U) where
  abbrev H : Sheet
  H = linear_sheet U

  process_at : (e : ℕ) → e < length U.equations → get_or H.procs e no_process ≡ linear_process (get_or U.equations e no_equation)
  unfolding linear_sheet
  process_at e w = get_d_map linear_process U.equations e no_equation no_process w

  -- each right side has its equation
  equation_back : (e : ℕ) → e < length U.equations → equation_of H written e ≡ get_or U.equations e no_equation
  unfolding equation_of params right heads fuel linear_process
  equation_back e w =
      let q = get_or U.equations e no_equation in
      let p : PlainEquation U q = every_at (PlainEquation U) U.equations no_equation e plain.equations w in
      let c = first_new (length H.procs) H.procs e in
      let of_process : Process → Equation = λ r. record { params = r.params; summands = heads H (fuel H) (own (length r.params)) (length r.params) c r.right } in
      ap of_process (process_at e w) ∙ ap (λ (hs : List Summand). record { params = q.params; summands = hs }) (heads_linear _ U q.params c q.summands p.summands)

  all_equations : tabulate (length H.procs + length (all_new_parts H.procs)) (λ e. equation_of H (kind H e) e) ≡ U.equations
  unfolding linear_sheet
  all_equations =
      let n : length H.procs + length (all_new_parts H.procs) ≡ length U.equations =
      ap (λ (l : List NewPart). length H.procs + length l) (no_new_parts U.equations) ∙ (let l = length-map U.equations linear_process in omega arith) in
      rw n (tabulate_list no_equation U.equations _ (λ e w.
      ap (λ (k : Kind). equation_of H k e) (kind_written H e (let l = length-map U.equations linear_process in omega arith)) ∙ equation_back e w))

  -- THE TABLE OF THE LINEAR SHEET IS THE TABLE.
  pub linear_table : table_of H ≡ renewed U
  unfolding table_of renewed linear_sheet eval
  linear_table =
      let vs : map (eval U.sig []) (map val U.start.1) ≡ U.start.1 = map_twice (eval U.sig []) val (λ v. v) (λ v. refl) U.start.1 ∙ map-id U.start.1 in
      ap₂ (λ (es : List Equation) (vs : List ℕ). record { layout = with_names; sig = U.sig; equations = es; start = (U.start.0, vs) }) all_equations vs

-- NO CIRCLE

linear_heads : (U : Table) (k : ℕ) → at_head (right (linear_sheet U) k) ≡ []
unfolding right linear_sheet linear_process at_head
linear_heads U k =
    every_get_or (λ (p : Process). at_head p.right ≡ []) (map linear_process U.equations) no_process k
    (every_map (λ q. Unit {0}) _ linear_process (λ q u. linear_at_head (length q.params) q.summands) U.equations (every_of_all _ (λ q. tt) U.equations)) refl

member_none : {k : ℕ} → Member k [] → ⊥
member_none m = elim m [ ]

linear_no_circle : (U : Table) → NoCircle (linear_sheet U)
unfolding NoCircle
linear_no_circle U k (direct m) = member_none (rw (linear_heads U k) at m)
linear_no_circle U k (further {k = j} c m) = member_none (rw (linear_heads U j) at m)

-- NO CIRCLE AT THE HEAD IS IN THE LINEAR SHEET.
pub linear_guarded : (U : Table) → RightlySorted (linear_sheet U) → T (guarded (linear_sheet U))
linear_guarded U s = (guarded_no_circle (linear_sheet U) s).1 (linear_no_circle U)
