-- The right side of each equation stands where the arrays say.
use mathlib.Core.Path.{◌≡◌, refl, sym, ap, ap₂, subst, ◌∙◌}
use mathlib.Core.List.{List, [], ◌∷◌, ◌++◌}
use mathlib.Core.Bool.{Bool, true, false}
use Prim.Native.Nat.{ℕ, zero, suc, ◌+◌, ◌-◌, ◌*◌, ◌≤◌, ◌<◌}
use native.Mathlib.Omega.{arith}
use lib.ListN.{length, drop, get_or, replicate}
use Rattle.pcrl.specs.Tests.{Every}
use Rattle.pcrl.specs.Sheet.{Proc, Process, Sheet, no_process, params, right}
use Rattle.pcrl.specs.Parts.{NewPart, new_count, all_new_parts, as_params, count, marks, in_proc, first_new, Kind, written, part, kind_new, kind_in, kind}
use Rattle.pcrl.specs.Table.{Summand, Equation, equation}
use Rattle.pcrl.specs.Heads.{heads, fuel, equation_of, table_of}
use Rattle.laws.specs.Lists.{length_tabulate}
use Rattle.laws.specs.Every.{every_at, at_every}
use Rattle.theory.specs.Equations.{equation_written, equation_part}
use Rattle.nodes.specs.declared.Outline.{Outline}
use Rattle.nodes.specs.Layout.{byte_limit, enc}
use Rattle.nodes.specs.Held.{ProcAt, proc_width}
use Rattle.nodes.specs.Scoped.{max_scope}
use Rattle.marking.specs.Marks.{bits}
use Rattle.following.specs.Fine.{Fine}
use Rattle.parts.specs.Rows.{no_part, row_width, RowOf}
use Rattle.parts.proofs.TableParams.{kind_part}
use Rattle.listing.specs.declared.Source.{Source}
use Rattle.listing.specs.Listing.{summands_at, SourceOf, Posed, WrittenSource, PartSource, all_marks}
use Rattle.listing.proofs.Parts.{PartRight, all_right, count_few, marks_all}

-- heads in the same scope, from the same numbers on
heads_as : (H : Sheet) (bs bs' : List Bool) (m m' c c' : ℕ) (p : Proc) → bs ≡ bs' → m ≡ m' → c ≡ c' → heads H (fuel H) (as_params bs 0) m c p ≡ heads H (fuel H) (as_params bs' 0) m' c' p
heads_as H bs bs' m m' c c' p e f g =
    ap (λ (b : List Bool). heads H (fuel H) (as_params b 0) m c p) e
    ∙ ap₂ (λ (x y : ℕ). heads H (fuel H) (as_params bs' 0) x y p) f g

module _ (procs cells starts counts firsts : List ℕ) (n : Outline) (rows : List ℕ) (total f : ℕ) (H : Sheet) (given : Posed procs cells starts counts firsts n rows total f H) where
  abbrev parts : List NewPart
  parts = all_new_parts H.procs

  procs_are : n.procs ≡ length H.procs
  procs_are = given.placed.held.proc_count

  proc : (k : ℕ) → k < length H.procs → ProcAt n.procs (get_or H.procs k no_process) procs cells starts k
  proc k h = given.placed.held.proc_at k (omega (arith, procs_are))

  -- a written process
  pub written_source : (k : ℕ) (r : Source) → k < n.procs → WrittenSource procs starts firsts k r → SourceOf H cells k r
  unfolding summands_at equation_of params right
  written_source k r h w =
      let l : k < length H.procs = omega (arith, procs_are) in
      let at = proc k l in
      let many = at.params.many in
      let few : get_or procs (proc_width * k) 0 ≤ max_scope = omega (arith, at.few) in
      let scope : r.scope ≡ length (params H k) = w.scope_is few ∙ many in
      let first : r.first ≡ first_new (length H.procs) H.procs k = w.first_is ∙ given.ready.first_new_are k l in
      let set : bits r.scope r.marks ≡ replicate (length (params H k)) true = ap₂ bits scope w.marks_are ∙ marks_all (length (params H k)) (omega (arith, at.few)) in
      record {
        term = right H k;
        after = false;
        rest = at.right.0;
        place = ap (λ (i : ℕ). drop i cells) w.at_is ∙ at.right.1;
        no_seq = λ e. refl;
        fine = subst (λ (i : ℕ). Fine H i (right H k)) (sym scope) (given.ready.rights_fine k l);
        few = omega (arith, first, given.ready.equations_few k l);
        is = ap (λ (e : Equation). e.summands) (equation_written H k l)
            ∙ sym (heads_as H (bits r.scope r.marks) (replicate (length (params H k)) true) r.next (length (params H k)) r.first (first_new (length H.procs) H.procs k) (right H k) set (w.next_is ∙ scope) first);
      }

  all_parts_right : Every (PartRight H (length parts)) parts
  unfolding params right
  all_parts_right = all_right H (length parts) H.procs (at_every (λ (p : Process). Fine H (length p.params) p.right × (length p.params ≤ max_scope)) H.procs no_process (λ k h. (given.ready.rights_fine k h, omega (arith, (proc k h).few)))) (omega arith)

  -- a part
  pub part_source : (k j : ℕ) (r : Source) → k ≡ n.procs + j → j < length parts → PartSource rows k j r → SourceOf H cells k r
  unfolding summands_at equation_of marks kind
  part_source k j r e h w =
      let x = get_or parts j no_part in
      let ok = every_at (PartRight H (length parts)) parts no_part j all_parts_right h in
      let z : 0 + j ≡ j = omega arith in
      let row : RowOf cells rows j x = subst (λ (i : ℕ). RowOf cells rows i x) z (given.rows_of.each j h) in
      let scope : r.scope ≡ length x.scope = w.scope_is (omega (arith, row.scope, ok.scope_few)) ∙ row.scope in
      let set : bits r.scope r.marks ≡ marks (length x.scope) x.term = ap₂ bits scope w.marks_are ∙ row.marks_are in
      let many : count (bits max_scope r.marks) ≡ count (marks (length x.scope) x.term) = ap (λ (i : ℕ). count (bits max_scope i)) w.marks_are ∙ row.count_is in
      let most = count_few (marks (length x.scope) x.term) in
      let size = length_tabulate (length x.scope) (λ i. in_proc i x.term) in
      let next : r.next ≡ count (marks (length x.scope) x.term) = w.next_is (omega (arith, ok.scope_few)) ∙ many in
      let place : k ≡ length H.procs + j = omega (arith, procs_are) in
      let is_part : kind H k ≡ part x = ap (kind H) place ∙ kind_part H.procs parts j h in
      let first : r.first ≡ suc k = omega (arith, w.first_is) in
      record {
        term = x.term;
        after = true;
        rest = row.place.0;
        place = ap (λ (i : ℕ). drop i cells) w.at_is ∙ row.place.1;
        no_seq = λ q. absurd (ok.no_seq q);
        fine = subst (λ (i : ℕ). Fine H i x.term) (sym scope) ok.fine;
        few = omega (arith, first, place, ok.parts_few, given.few, given.placed.held.few_procs, procs_are);
        is = ap (λ (q : Equation). q.summands) (equation_part H k x is_part)
            ∙ sym (heads_as H (bits r.scope r.marks) (marks (length x.scope) x.term) r.next (count (marks (length x.scope) x.term)) r.first (suc k) x.term set next first);
      }
