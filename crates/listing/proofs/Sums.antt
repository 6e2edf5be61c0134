-- Summands counted and written, equation by equation.
use mathlib.Core.Path.{◌≡◌, refl, sym, ap, ap₂, subst, ◌∙◌}
use mathlib.Core.List.{List, [], ◌∷◌, ◌++◌, map, append_assoc, append-nil}
use mathlib.Core.Bool.{Bool, true, false}
use Prim.Native.Nat.{ℕ, zero, suc, ◌+◌, ◌*◌, ◌≤◌, ◌<◌, min}
use native.Mathlib.Decide.{dec_le}
use native.Mathlib.Numerals.{add-one}
use native.Mathlib.Omega.{arith}
use lib.ListN.{length, take, get_or, length-append, length-take}
use Rattle.pcrl.specs.Limits.{max_summands, max_stream}
use Rattle.pcrl.specs.Tests.{Every}
use Rattle.pcrl.specs.Reader.{all}
use Rattle.pcrl.specs.Blocks.{concatenated}
use Rattle.pcrl.specs.Sheet.{Sheet}
use Rattle.pcrl.specs.Parts.{as_params}
use Rattle.pcrl.specs.Table.{Summand, Equation, equation, no_equation, summands_of, summand_count}
use Rattle.pcrl.specs.Stream.{encode_list, encode_summand}
use Rattle.pcrl.specs.Right.{SummandWithin}
use Rattle.pcrl.specs.Heads.{heads, fuel, table_of}
use Rattle.laws.specs.Every.{every_at, at_every}
use Rattle.codec.specs.Cut.{concatenated_zero, concatenated_last}
use Rattle.theory.specs.Equations.{equation_count}
use Rattle.nodes.specs.declared.Outline.{Outline}
use Rattle.nodes.specs.Layout.{byte_limit}
use Rattle.counting.specs.Limits.{cut}
use Rattle.marking.specs.Marks.{bits}
use Rattle.std.specs.Prelude.{Result, Ok, Err}
use Rattle.refusals.specs.declared.Refusal.{Refusal}
use Rattle.putting.specs.Slots.{Slots}
use Rattle.contexts.specs.Spots.{Ready, SummandFits}
use Rattle.heads.specs.Writing.{HeadsCounted, SummandsWritten}
use Rattle.emit.proofs.Signed.{concatenated_all}
use Rattle.emit.proofs.Putting.{concatenated_longer}
use Rattle.parts.proofs.TableParams.{all_map}
use Rattle.listing.specs.declared.Source.{Source}
use Rattle.listing.specs.Summands.{SummandsFit, summands_bytes}
use Rattle.listing.specs.Listing.{summands_at, bytes_at, count_cut, SourceOf, Posed, Sources, CountsAll, ListPut, EquationPut, AllPut, PutsAll}

-- ---- COUNTS
-- how many there are in the first n lists
unfoldable pub summed : ℕ → (ℕ → List Summand) → ℕ
summed zero f = 0
summed (suc n) f = summed n f + length (f n)

summed_front : (n : ℕ) (f : ℕ → List Summand) → summed (suc n) f ≡ length (f zero) + summed n (λ i. f (suc i))
unfolding summed
summed_front zero f = omega arith
summed_front (suc n) f = omega (arith, summed_front n f)

summed_all : (es : List Equation) → summed (length es) (λ i. (get_or es i no_equation).summands) ≡ summand_count es
unfolding summed summand_count
summed_all [] = refl
summed_all (e ∷ es) = summed_front (length es) (λ i. (get_or (e ∷ es) i no_equation).summands) ∙ ap (λ (x : ℕ). length e.summands + x) (summed_all es)

one_few : (es : List Equation) (k : ℕ) → length (get_or es k no_equation).summands ≤ summand_count es
unfolding summand_count
one_few [] k = omega arith
one_few (e ∷ es) zero = omega arith
one_few (e ∷ es) (suc k) = omega (arith, one_few es k)

-- few in all, few in each
pub each_few : (H : Sheet) (k : ℕ) → length (summands_at H k) ≤ summand_count (table_of H).equations
unfolding summands_at equation
each_few H k = one_few (table_of H).equations k

pub summed_table : (H : Sheet) → summed (length (table_of H).equations) (summands_at H) ≡ summand_count (table_of H).equations
unfolding summands_at equation
summed_table H = summed_all (table_of H).equations

cut_more : (a b h r : ℕ) → h ≡ cut b → r ≡ min (min count_cut a + h) count_cut → r ≡ min count_cut (a + b)
unfolding cut
cut_more a b h r e f = omega arith

module _ (procs cells starts counts firsts : List ℕ) (n : Outline) (rows : List ℕ) (total f : ℕ) where
  abbrev pub Summed : ℕ → ℕ → Type 0
  Summed k s = (H : Sheet) → Posed procs cells starts counts firsts n rows total f H → s ≡ min count_cut (summed k (summands_at H))

  pub summed_start : Summed 0 0
  unfolding summed
  summed_start H p = refl

  pub summed_more : (k s : ℕ) (r : Source) (h t : ℕ) → k < total → Sources procs starts firsts n rows k r → HeadsCounted cells counts f r.at h → t ≡ min (s + h) count_cut → Summed k s → Summed (k + 1) t
  unfolding summed
  summed_more k s r h t l src hc e sofar H p =
      let x = src cells counts total f H p l in
      let many : h ≡ cut (length (heads H f (as_params (bits r.scope r.marks) 0) r.next r.first x.term)) =
      hc H f x.after x.term x.rest (as_params (bits r.scope r.marks) 0) r.next r.first p.ready.procs_few p.ready.tallied (omega arith) x.place in
      let same : h ≡ cut (length (summands_at H k)) =
      many
      ∙ ap (λ (g : ℕ). cut (length (heads H g (as_params (bits r.scope r.marks) 0) r.next r.first x.term))) p.fuel_is
      ∙ ap (λ (hs : List Summand). cut (length hs)) (sym x.is) in
      let z : k + 1 ≡ suc k = omega arith in
      cut_more (summed k (summands_at H)) (length (summands_at H k)) h t same (e ∙ ap (λ (y : ℕ). min (y + h) count_cut) (sofar H p))
      ∙ ap (λ (i : ℕ). min count_cut (summed i (summands_at H))) (sym z)

  pub summed_done : (k s : ℕ) → k ≤ total → total ≤ k → Summed k s → CountsAll procs cells starts counts firsts n rows total f s
  summed_done k s a b sofar H p =
      let z : k ≡ length (table_of H).equations = omega (arith, p.total_is, equation_count H) in
      sofar H p ∙ ap (λ (i : ℕ). min count_cut (summed i (summands_at H))) z ∙ ap (min count_cut) (summed_table H)

-- ---- ONE EQUATION
-- those of the first k equations are written
pub record SoFar (H : Sheet) (k w : ℕ) (o : List ℕ) (v : ℕ) (o' : List ℕ) : Type 0 where
  pub within : (j : ℕ) → j < k → Every SummandWithin (summands_at H j)
  pub place : v ≡ w + length (concatenated k (bytes_at H))
  pub adds : take v o' ≡ take w o ++ concatenated k (bytes_at H)

pub equation_put : (cells starts counts firsts : List ℕ) (f : ℕ) (s : Source) (slots : List ℕ) (w : ℕ) (o : List ℕ) (r : Result ℕ Refusal) (o' : List ℕ) → Slots (as_params (bits s.scope s.marks) 0) slots s.scope
    → SummandsWritten cells starts counts firsts f s.at s.first slots s.scope s.next w o r o' → EquationPut cells starts counts firsts f s w o r o'
equation_put cells starts counts firsts f s slots w o r o' held put H k ready ef x few =
    let σ = as_params (bits s.scope s.marks) 0 in
    let is : summands_at H k ≡ heads H f σ s.next s.first x.term = x.is ∙ ap (λ (g : ℕ). heads H g σ s.next s.first x.term) (sym ef) in
    let done = put H σ x.after x.term x.rest ready x.place x.no_seq held x.fine x.few (subst (λ (hs : List Summand). length hs < byte_limit) is few) in
    subst (λ (hs : List Summand). ListPut hs w o r o') (sym is) done

-- ---- ALL OF THEM
pub bytes_are : (H : Sheet) → concatenated (length (table_of H).equations) (bytes_at H) ≡ summands_bytes (table_of H).equations
unfolding bytes_at summands_at summands_bytes summands_of equation
bytes_are H = concatenated_all (λ (e : Equation). encode_list encode_summand e.summands) no_equation (table_of H).equations ∙ sym (all_map (encode_list encode_summand) (λ (e : Equation). e.summands) (table_of H).equations)

module _ (procs cells starts counts firsts : List ℕ) (n : Outline) (rows : List ℕ) (total f w : ℕ) (o : List ℕ) where
  abbrev pub Written : ℕ → ℕ → List ℕ → Type 0
  Written k v p = (H : Sheet) → Posed procs cells starts counts firsts n rows total f H → summand_count (table_of H).equations ≤ max_summands → SoFar H k w o v p

  pub written_start : Written 0 w o
  written_start H g few =
      let none = concatenated_zero (bytes_at H) in
      record { within = λ j h. absurd (omega arith); place = omega (arith, ap length none); adds = sym (append-nil (take w o)) ∙ ap (λ (l : List ℕ). take w o ++ l) (sym none) }

  list_put : (k : ℕ) (s : Source) (v : ℕ) (p : List ℕ) (r : Result ℕ Refusal) (q : List ℕ) → k < total → Sources procs starts firsts n rows k s → EquationPut cells starts counts firsts f s v p r q
      → (H : Sheet) → Posed procs cells starts counts firsts n rows total f H → summand_count (table_of H).equations ≤ max_summands → ListPut (summands_at H k) v p r q
  list_put k s v p r q l src put H g few = put H k g.ready g.fuel_is (src cells counts total f H g l) (omega (arith, each_few H k))

  pub written_more : (k : ℕ) (s : Source) (v : ℕ) (p : List ℕ) (u : ℕ) (q : List ℕ) → k < total → Sources procs starts firsts n rows k s → EquationPut cells starts counts firsts f s v p (Ok u) q
      → u ≤ length q → v ≤ length p → Written k v p → Written (k + 1) u q
  unfolding bytes_at
  written_more k s v p u q l src put end start sofar H g few =
      let a = sofar H g few in
      let b = list_put k s v p (Ok u) q l src put H g few in
      let e = concatenated k (bytes_at H) in
      let d = bytes_at H k in
      let more : concatenated (k + 1) (bytes_at H) ≡ e ++ d = ap (λ (i : ℕ). concatenated i (bytes_at H)) (add-one k) ∙ concatenated_last k (bytes_at H) in
      let size = length-append e d in
      let sizes = ap length more in
      let both = length-append (take v p) d in
      let there = ap length b.1 in
      let lq = length-take u q in
      let lp = length-take v p in
      record {
        within = λ j h. elim (dec_le (suc j) k) [ yes m ↦ a.within j m | no m ↦ let z : k ≡ j = omega arith in subst (λ (i : ℕ). Every SummandWithin (summands_at H i)) z b.0 ];
        place = omega (arith, a.place);
        adds = b.1 ∙ ap (λ (x : List ℕ). x ++ d) a.adds ∙ append_assoc (take w o) e d ∙ ap (λ (x : List ℕ). take w o ++ x) (sym more);
      }

  fits_at : (H : Sheet) → SummandsFit (table_of H).equations → (k : ℕ) → k < length (table_of H).equations → Every SummandFits (summands_at H k)
  unfolding summands_at equation
  fits_at H sw k h = every_at (λ (e : Equation). Every SummandFits e.summands) (table_of H).equations no_equation k sw.each h

  at_within : (H : Sheet) → ((k : ℕ) → k < length (table_of H).equations → Every SummandWithin (summands_at H k)) → Every (λ (e : Equation). Every SummandWithin e.summands) (table_of H).equations
  unfolding summands_at equation
  at_within H h = at_every (λ (e : Equation). Every SummandWithin e.summands) (table_of H).equations no_equation h

  pub written_wrong : (k : ℕ) (s : Source) (v : ℕ) (p : List ℕ) (x : Refusal) (q : List ℕ) → k < total → Sources procs starts firsts n rows k s → EquationPut cells starts counts firsts f s v p (Err x) q
      → length p ≡ length o → Written k v p → PutsAll procs cells starts counts firsts n rows total f w o (Err x) q
  unfolding bytes_at
  written_wrong k s v p x q l src put same sofar H g few sw =
      let a = sofar H g few in
      let es = equation_count H in
      let short = list_put k s v p (Err x) q l src put H g few (fits_at H sw k (omega (arith, g.total_is))) in
      let more : concatenated (k + 1) (bytes_at H) ≡ concatenated k (bytes_at H) ++ bytes_at H k = ap (λ (i : ℕ). concatenated i (bytes_at H)) (add-one k) ∙ concatenated_last k (bytes_at H) in
      let grows = concatenated_longer (bytes_at H) (k + 1) (length (table_of H).equations) (omega (arith, g.total_is)) in
      (short.0, omega (arith, short.1, a.place, ap length more, length-append (concatenated k (bytes_at H)) (bytes_at H k), ap length (bytes_are H)))

  pub written_done : (k v : ℕ) (p : List ℕ) → k ≤ total → total ≤ k → v ≤ length o → Written k v p → PutsAll procs cells starts counts firsts n rows total f w o (Ok v) p
  written_done k v p a b end sofar H g few =
      let s = sofar H g few in
      let z : k ≡ length (table_of H).equations = omega (arith, g.total_is, equation_count H) in
      let bytes : concatenated k (bytes_at H) ≡ summands_bytes (table_of H).equations = ap (λ (i : ℕ). concatenated i (bytes_at H)) z ∙ bytes_are H in
      (record { few = few; each = at_within H (λ j h. s.within j (omega arith)) }, s.place ∙ ap (λ (l : List ℕ). w + length l) bytes, s.adds ∙ ap (λ (l : List ℕ). take w o ++ l) bytes, end)
