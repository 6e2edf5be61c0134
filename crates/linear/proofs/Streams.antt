-- A table's stream put together, and question 10 answered both ways.
use mathlib.Core.Path.{◌≡◌, refl, sym, ap, subst, ◌∙◌}
use mathlib.Core.List.{List, [], ◌++◌, map}
use Prim.Native.Nat.{ℕ, ◌+◌, ◌-◌, ◌*◌, ◌≤◌, ◌<◌, min}
use native.Mathlib.Decide.{dec_le}
use native.Mathlib.Omega.{arith}
use lib.ListN.{length, get_or, length-append}
use Rattle.pcrl.specs.Limits.{max_name, max_equations, max_stream, frame_width}
use Rattle.pcrl.specs.Tests.{Every}
use Rattle.pcrl.specs.Sheet.{Action, Sig, Sheet, Process}
use Rattle.pcrl.specs.Values.{eval}
use Rattle.pcrl.specs.Parts.{NewPart, all_new_parts, count, marks, in_proc}
use Rattle.laws.specs.Lists.{length_tabulate}
use Rattle.pcrl.specs.Table.{Equation, with_names, equation, no_equation, params_of}
use Rattle.pcrl.specs.Heads.{table_of}
use Rattle.pcrl.specs.Stream.{encode_sig, encode_list, encode_numbers, encode_equations, encode_start, encode}
use Rattle.pcrl.specs.Right.{SummandWithin, EquationWithin, Within, RightName, RightAction, RightSig, RightSizes}
use Rattle.laws.specs.Every.{every_weaken, every_both, every_at, at_every, map_every, every_map, every_append, every_right}
use Rattle.theory.specs.Standing.{Standing, RightProcess}
use Rattle.theory.specs.Equations.{equation_count}
use Rattle.theory.proofs.SortedTable.{SortedEquation, equation_sorted}
use Rattle.laws.specs.Each.{each_length}
use Rattle.contexts.specs.Spots.{SummandFits}
use Rattle.nodes.specs.declared.Outline.{Outline}
use Rattle.nodes.specs.Held.{Arrays}
use Rattle.nodes.specs.Scoped.{max_scope}
use Rattle.marking.specs.Marks.{bits}
use Rattle.std.specs.Prelude.{Option, Result, Ok, Err, Some, None}
use Rattle.std.proofs.Common.{ok_or}
use Rattle.emit.specs.Putting.{PutsTo, NoRoom, Puts}
use Rattle.emit.specs.Bytes.{ShortNames, PutsSig}
use Rattle.emit.proofs.Putting.{puts_then, no_room_then}
use Rattle.initial.specs.Evaluating.{Known, PutsStart}
use Rattle.parts.specs.declared.Noted.{Noted}
use Rattle.parts.specs.Rows.{row_width, no_part, part_params, RowsOf}
use Rattle.parts.specs.Sheets.{count_cut, Placed, CountsParts, all_params, ParamsPut, PutsParams}
use Rattle.parts.proofs.MarkedLaws.{marked_length}
use Rattle.parts.proofs.TableParams.{params_are}
use Rattle.refusals.specs.declared.Refusal.{Refusal}
use Rattle.refusals.specs.declared.Refusal.TheVariants as the
use Rattle.listing.specs.Summands.{SummandsWithin, SummandsFit, summands_bytes, PutsSummands}
use Rattle.linear.specs.Within.{FewMarks, FewIn, ReadyIn, WritesStream}

-- the names of a right signature's actions are short
short : (sizes : List ℕ) (a : Action) → RightAction sizes a → length a.name ≤ max_name
unfolding RightAction RightName
short sizes a h = h.0.0.0.1

short_names : (S : Sig) → RightSig S → ShortNames S.acts
unfolding RightSig
short_names S r = every_weaken (RightAction S.sorts) (λ (a : Action). length a.name ≤ max_name) (λ a h. short S.sorts a h) S.acts r.1.1.0.1

-- a sheet that is ready is placed
module _ (H : Sheet) (s : List ℕ) (A : Arrays) (names : List ℕ) (n : Outline) (r : ReadyIn H s A names n) where
  pub ready_placed : Placed H A.procs A.cells A.starts n
  unfolding RightSig RightSizes
  ready_placed = record {
    held = r.held.processes;
    right = r.standing.processes;
    few = record { sorts_few = let m = r.standing.signature.0.0.0 in omega arith; cells_few = r.cells_few };
  }

  pub ready_known : Known H.sig A.sizes A.funcs A.values A.places
  ready_known = record { acts = A.acts; outline = n; held = r.held.signature; right = r.standing.signature }

-- ---- the limits
module _ (H : Sheet) where
  abbrev pub es : List Equation
  es = (table_of H).equations

  abbrev pub parts : List NewPart
  parts = all_new_parts H.procs

  -- few parameters, by the marks of the rows
  part_few : (cells rows : List ℕ) → RowsOf cells rows 0 parts → (j : ℕ) → j < length parts → length (part_params (get_or parts j no_part)) ≡ count (bits max_scope (get_or rows (row_width * j + 2) 0))
  unfolding part_params marks
  part_few cells rows r j h =
      let x = get_or parts j no_part in
      let row = r.each j h in
      let z : 0 + j ≡ j = omega arith in
      marked_length (marks (length x.scope) x.term) x.scope (omega (arith, length_tabulate (length x.scope) (λ i. in_proc i x.term)))
      ∙ sym (ap (λ (k : ℕ). count (bits max_scope (get_or rows (row_width * k + 2) 0))) (sym z) ∙ row.count_is)

  abbrev pub FewParams : List ℕ → Type 0
  FewParams l = length l ≤ frame_width

  pub within_marks : (cells rows : List ℕ) → RowsOf cells rows 0 parts → Within (table_of H) → FewMarks rows (length parts)
  unfolding Within EquationWithin params_of all_params
  within_marks cells rows r w j h =
      let lists : Every FewParams (params_of es) = every_map EquationWithin FewParams (λ (e : Equation). e.params) (λ e k. k.0) es w.1.1.0 in
      let mine : Every FewParams (map part_params parts) = every_right FewParams (map (λ (p : Process). p.params) H.procs) (map part_params parts) (subst (Every FewParams) (params_are H) lists) in
      let each : Every (λ x. FewParams (part_params x)) parts = map_every (λ x. FewParams (part_params x)) FewParams part_params (λ x k. k) parts mine in
      let one = every_at (λ x. FewParams (part_params x)) parts no_part j each h in
      omega (arith, part_few cells rows r j h)

  pub marks_within : (cells rows : List ℕ) → RowsOf cells rows 0 parts → Standing H → length es ≤ max_equations → FewMarks rows (length parts) → SummandsWithin es → length (encode (table_of H)) ≤ max_stream → Within (table_of H)
  unfolding Within EquationWithin params_of all_params
  marks_within cells rows r ok few marks sw size =
      let written : Every FewParams (map (λ (p : Process). p.params) H.procs) = every_map (RightProcess H) FewParams (λ (p : Process). p.params) (λ p k. k.few) H.procs ok.processes in
      let each : Every (λ x. FewParams (part_params x)) parts = at_every (λ x. FewParams (part_params x)) parts no_part (λ j h. let m = marks j h in omega (arith, part_few cells rows r j h)) in
      let mine : Every FewParams (map part_params parts) = every_map (λ x. FewParams (part_params x)) FewParams part_params (λ x k. k) parts each in
      let lists : Every FewParams (params_of es) = subst (Every FewParams) (sym (params_are H)) (every_append FewParams (map (λ (p : Process). p.params) H.procs) (map part_params parts) written mine) in
      let params : Every (λ (e : Equation). FewParams e.params) es = map_every (λ (e : Equation). FewParams e.params) FewParams (λ (e : Equation). e.params) (λ e k. k) es lists in
      (few, (sw.few, (every_both (λ (e : Equation). FewParams e.params) (λ (e : Equation). Every SummandWithin e.summands) EquationWithin (λ e a b. (a, b)) es params sw.each, size)))

  params_few : Within (table_of H) → (e : ℕ) → e < length es → length (equation (table_of H) e).params ≤ frame_width
  unfolding Within EquationWithin equation
  params_few w e h = (every_at EquationWithin es no_equation e w.1.1.0 h).0

  all_sorted : Standing H → Every (SortedEquation H) es
  unfolding equation
  all_sorted ok = at_every (SortedEquation H) es no_equation (equation_sorted H ok)

  -- a call has as many terms as its equation has parameters
  pub within_summands : Standing H → Within (table_of H) → SummandsFit es
  unfolding Within EquationWithin
  within_summands ok w = record {
    few = w.1.0;
    each = every_both (SortedEquation H) EquationWithin (λ (e : Equation). Every SummandFits e.summands)
        (λ e s k. every_both _ SummandWithin SummandFits (λ h a b. record { within = b; narrow = every_weaken _ _ (λ c q. omega (arith, each_length _ c.1 _ q.1, params_few w c.0 q.0)) h.calls a.calls }) e.summands s.summands k.1) es
        (all_sorted ok) w.1.1.0;
  }

  pub too_many : (t : ℕ) → t ≡ min count_cut (length H.procs + length parts) → max_equations < t → Within (table_of H) → ⊥
  unfolding Within
  too_many t e h w = omega (arith, w.0, equation_count H)

  pub count_within : (t : ℕ) → t ≡ min count_cut (length H.procs + length parts) → t ≤ max_equations → (t ≡ length H.procs + length parts) × (length es ≤ max_equations)
  count_within t e h = (omega arith, omega (arith, equation_count H))

  -- THE WHOLE STREAM
  pub stream_put : (w : ℕ) (o : List ℕ) (a : ℕ) (p : List ℕ) (b : ℕ) (q : List ℕ) (c : ℕ) (r : List ℕ) (d : ℕ) (t : List ℕ) → PutsTo (encode_sig with_names H.sig) w o a p → PutsTo (encode_list encode_numbers (params_of es)) a p b q
      → PutsTo (summands_bytes es) b q c r → PutsTo (encode_start (H.start.0, map (eval H.sig []) H.start.1)) c r d t → PutsTo (encode (table_of H)) w o d t
  unfolding encode encode_equations summands_bytes table_of
  stream_put w o a p b q c r d t f g h i = puts_then f (puts_then (puts_then g h) i)

  -- no room for its last part
  pub stream_short : (w : ℕ) (o : List ℕ) (a : ℕ) (p : List ℕ) (b : ℕ) (q : List ℕ) (c : ℕ) (r t : List ℕ) → PutsTo (encode_sig with_names H.sig) w o a p → PutsTo (encode_list encode_numbers (params_of es)) a p b q
      → PutsTo (summands_bytes es) b q c r → NoRoom (encode_start (H.start.0, map (eval H.sig []) H.start.1)) c r t → NoRoom (encode (table_of H)) w o t
  unfolding encode encode_equations summands_bytes table_of
  stream_short w o a p b q c r t f g h i = no_room_then f (no_room_then (puts_then g h) i)

  -- the summands alone are no longer than the stream
  pub summands_shorter : length (encode_sig with_names H.sig) + (length (encode_list encode_numbers (params_of es)) + length (summands_bytes es)) ≤ length (encode (table_of H))
  unfolding encode encode_equations summands_bytes table_of
  summands_shorter = simp length-append (omega arith)

-- the summands had no room
no_room : (H : Sheet) (o : List ℕ) (a : ℕ) (p : List ℕ) (b : ℕ) (q : List ℕ) → length p ≡ length o → length q ≡ length p → PutsTo (encode_sig with_names H.sig ++ encode_list encode_numbers (params_of (es H))) 0 o b q
    → length q < b + length (summands_bytes (es H)) → length o < length (encode (table_of H))
no_room H o a p b q e₁ e₂ put h =
    let shorter = summands_shorter H in
    let size = length-append (encode_sig with_names H.sig) (encode_list encode_numbers (params_of (es H))) in
    elim (dec_le (0 + length (encode_sig with_names H.sig ++ encode_list encode_numbers (params_of (es H)))) (length o)) [
      | yes k ↦ let z = (put.fits k).0 in omega arith
      | no k ↦ omega arith
    ]

-- what a place says that was asked for
pub some_of : {A E : Type 0} (o : Option A) (e : E) (a : A) → ◌≡◌ {A = Result A E} (Ok a) (ok_or o e) → o ≡ Some a
some_of o e a h = grind arith

pub none_of : {A E : Type 0} (o : Option A) (e x : E) → ◌≡◌ {A = Result A E} (Err x) (ok_or o e) → (o ≡ None) × (x ≡ e)
none_of o e x h = grind arith

pub sig_as : (s : List ℕ) (A : Arrays) (names : List ℕ) (n : Outline) (o : List ℕ) (m : ℕ) (r r' : Option ℕ) (p : List ℕ) → m ≡ n.sorts - 1 → r ≡ r'
    → PutsSig s A.sizes A.funcs A.values A.places A.acts names (m + n.funcs) n 0 o r p → PutsSig s A.sizes A.funcs A.values A.places A.acts names (n.sorts - 1 + n.funcs) n 0 o r' p
sig_as s A names n o m r r' p e z h =
    subst (λ (k : ℕ). PutsSig s A.sizes A.funcs A.values A.places A.acts names (k + n.funcs) n 0 o r' p) e (subst (λ (u : Option ℕ). PutsSig s A.sizes A.funcs A.values A.places A.acts names (m + n.funcs) n 0 o u p) z h)

-- THE ANSWER, BOTH WAYS: what each way out of the writer says
module _ (s : List ℕ) (A : Arrays) (names : List ℕ) (n : Outline) (o : List ℕ) (t : ℕ) (counts : CountsParts A.procs A.cells A.starts n t) where
  pub out_many : (e : Refusal) (o' : List ℕ) → max_equations < t → WritesStream s A names n o (Err e) o'
  out_many e o' h H r w = absurd (too_many H t (counts H (ready_placed H s A names n r)) h w)

  sig_put : (r : Option ℕ) (p : List ℕ) → PutsSig s A.sizes A.funcs A.values A.places A.acts names (n.sorts - 1 + n.funcs) n 0 o r p → (H : Sheet) → ReadyIn H s A names n → Puts (encode_sig with_names H.sig) 0 o r p
  sig_put r p sig H y = sig H.sig y.held.signature y.named (short_names H.sig y.standing.signature) y.sorts_named y.standing.sort_names

  -- no room for the signature
  pub out_sig : (p : List ℕ) → PutsSig s A.sizes A.funcs A.values A.places A.acts names (n.sorts - 1 + n.funcs) n 0 o None p → WritesStream s A names n o (Err the.NoRoom) p
  out_sig p sig H r w = let g = (sig_put None p sig H r).over in (refl, omega (arith, summands_shorter H))

  module _ (few : t ≤ max_equations) (rows : List ℕ) (room : row_width * max_equations ≤ length rows) (a : ℕ) (p : List ℕ)
      (sig : PutsSig s A.sizes A.funcs A.values A.places A.acts names (n.sorts - 1 + n.funcs) n 0 o (Some a) p) where
    module _ (x : Noted) (rows' q : List ℕ) (params : PutsParams A.procs A.cells A.starts n t rows a p x rows' q) where
      put_params : (H : Sheet) → ReadyIn H s A names n → ParamsPut A.cells a p H x rows' q
      put_params H r = let placed = ready_placed H s A names n r in params H placed (count_within H t (counts H placed) few).0 few room

      pub out_marks : (e : Refusal) → (FewMarks rows' x.count → ⊥) → WritesStream s A names n o (Err e) q
      out_marks e h H r w =
          let y = put_params H r in
          absurd (h (subst (FewMarks rows') (sym y.count_is) (within_marks H A.cells rows' y.rows_of w)))

      pub out_count : (e : Refusal) → max_equations < x.count → WritesStream s A names n o (Err e) q
      out_count e h H r w = let placed = ready_placed H s A names n r in let l = (count_within H t (counts H placed) few).0 in absurd (omega (arith, (put_params H r).count_is))

      -- no room for the parameters
      pub out_params : x.w ≡ None → WritesStream s A names n o (Err the.NoRoom) q
      out_params e H r w =
          let none : NoRoom (encode_list encode_numbers (params_of (es H))) a p q = subst (λ (u : Option ℕ). Puts (encode_list encode_numbers (params_of (es H))) a p u q) e (put_params H r).puts in
          let both = (no_room_then (sig_put (Some a) p sig H r) none).over in
          (refl, omega (arith, summands_shorter H, length-append (encode_sig with_names H.sig) (encode_list encode_numbers (params_of (es H)))))

      module _ (b : ℕ) (eb : x.w ≡ Some b) where
        room_put : (H : Sheet) → ReadyIn H s A names n → PutsTo (encode_list encode_numbers (params_of (es H))) a p b q
        room_put H r = subst (λ (u : Option ℕ). Puts (encode_list encode_numbers (params_of (es H))) a p u q) eb (put_params H r).puts

        pub out_summands : (e : Refusal) (q' : List ℕ) → PutsSummands A.procs A.cells A.starts n rows' x.count b q (Err e) q' → WritesStream s A names n o (Err e) q'
        out_summands e q' sums H r w =
            let y = put_params H r in
            let z = room_put H r in
            let g = sig_put (Some a) p sig H r in
            let all = sums H r.standing (ready_placed H s A names n r) y.count_is y.rows_of (within_summands H r.standing w) in
            (all.0, no_room H o a p b q g.same z.same (puts_then g z) all.1)

        -- the start is put behind the summands, and the stream is whole; or there is no room for it
        module _ (d : ℕ) (q' : List ℕ) (sums : PutsSummands A.procs A.cells A.starts n rows' x.count b q (Ok d) q') where
          listed : (H : Sheet) → ReadyIn H s A names n → SummandsWithin (es H) × PutsTo (summands_bytes (es H)) b q d q'
          listed H r = let y = put_params H r in sums H r.standing (ready_placed H s A names n r) y.count_is y.rows_of

          start_put : (u : Option ℕ) (o' : List ℕ) → PutsStart A.sizes A.funcs A.values A.places A.cells n.init d q' u o' → (H : Sheet) → ReadyIn H s A names n → Puts (encode_start (H.start.0, map (eval H.sig []) H.start.1)) d q' u o'
          start_put u o' start H r = start H (ready_known H s A names n r) (omega (arith, r.standing.few_processes)) r.standing.start r.held.processes.init_at

          pub in_table : (u : Option ℕ) (o' : List ℕ) → length o ≤ max_stream → FewMarks rows' x.count → PutsStart A.sizes A.funcs A.values A.places A.cells n.init d q' u o' → WritesStream s A names n o (ok_or u the.NoRoom) o'
          in_table None o' most marks start H r = λ w.
              let y = put_params H r in
              let none = stream_short H 0 o a p b q d q' o' (sig_put (Some a) p sig H r) (room_put H r) (listed H r).1 (start_put None o' start H r) in
              (refl, omega (arith, none.over))
          in_table (Some e) o' most marks start H r =
              let y = put_params H r in
              let placed = ready_placed H s A names n r in
              let l = listed H r in
              let puts = stream_put H 0 o a p b q d q' e o' (sig_put (Some a) p sig H r) (room_put H r) l.1 (start_put (Some e) o' start H r) in
              let inside = puts.inside (omega arith) in
              let fits : 0 + length (encode (table_of H)) ≤ length o = elim (dec_le (0 + length (encode (table_of H))) (length o)) [ yes k ↦ k | no k ↦ absurd (omega (arith, puts.over (omega arith))) ] in
              let done = puts.fits fits in
              let size = done.0 in
              (marks_within H A.cells rows' y.rows_of r.standing (count_within H t (counts H placed) few).1 (subst (FewMarks rows') y.count_is marks) l.0 (omega arith), omega arith, done.1, inside)

-- more than a sheet has that passes question 6
pub out_few : (s : List ℕ) (A : Arrays) (names : List ℕ) (n : Outline) (o o' : List ℕ) (e : Refusal) → (FewIn n → ⊥) → WritesStream s A names n o (Err e) o'
out_few s A names n o o' e h H r w =
    let g = r.held.signature in
    absurd (h (record { sorts_few = g.few_sorts; funcs_few = g.few_funcs; acts_few = g.few_acts; procs_few = r.held.processes.few_procs }))
