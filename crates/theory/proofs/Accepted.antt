-- Accepted bytes are in good standing: what questions 1 to 9 have found of a sheet gives everything that the theorems ask of it.
use Rattle.std.specs.Prelude.{◌≡◌, refl}
use Rattle.std.proofs.Math.Path.{ap, subst}
use Rattle.std.proofs.Common.{sym, ◌∙◌}
use mathlib.Core.List.{List, [], ◌++◌, map}
use Prim.Native.Nat.{ℕ, suc, ◌<◌, ◌≤◌}
use native.Mathlib.Omega.{arith}
use Rattle.std.proofs.Math.Decide.{ℕ_discrete}
use Rattle.std.proofs.Math.Dec.{T}
use Rattle.std.proofs.Math.ListN.{length, length-map, get_or, get_elem?}
use Rattle.pcrl.specs.Text.{bytes}
use Rattle.pcrl.specs.Limits.{max_sorts, max_size, max_functions, max_actions, max_processes, max_arity, frame_width}
use Rattle.pcrl.specs.Result.{accepted}
use Rattle.pcrl.specs.Tests.{same?, among, distinct, Between, Every}
use Rattle.pcrl.specs.Tokens.{words}
use Rattle.pcrl.specs.Tree.{SortLine, ActLine, ProcLine, RawSheet}
use Rattle.pcrl.specs.Counts.{Counted}
use Rattle.pcrl.specs.Sheet.{Action, Process, Sheet, size}
use Rattle.pcrl.specs.Names.{names_of, declared, sizes_of}
use Rattle.pcrl.specs.Sorts.{Sorted, Complete, RightlySorted}
use Rattle.pcrl.specs.Table.{with_names}
use Rattle.pcrl.specs.Right.{RightSizes, AreSorts, RightFunc, RightName, RightAction, action_names, RightSig, RightSortName, RightNames}
use Rattle.pcrl.specs.Answers.{sheet_read}
use Rattle.laws.specs.Every.{every_left, every_right, every_map, every_both, map_every}
use Rattle.laws.specs.Each.{each_every, each_map, each_length}
use Rattle.grammar.specs.Formed.{FormedFunc, FormedAct, Formed}
use Rattle.grammar.specs.Parsed.{print_parse}
use Rattle.grammar.specs.TokenLaws.{ValidName}
use Rattle.grammar.specs.ValidNames.{right_name, right_sort_name}
use Rattle.grammar.proofs.ValidNames.{names_valid, sort_names_valid}
use Rattle.theory.specs.Standing.{Numbered, RightProcess, Standing}
use Rattle.theory.specs.Distinct.{Unlike, distinct_left, distinct_right, distinct_first}
use Rattle.theory.specs.Questions.{Accepted, accepted_all}
use Rattle.theory.specs.Resolved.{Resolved, resolved_lines, Declared, func_from, action_from}
use Rattle.theory.proofs.Numbering.{process_from}
use Rattle.theory.specs.Circle.{guarded_no_circle}

Bool_valid : ValidName (bytes "Bool")
unfolding ValidName Every among words same? ℕ_discrete
Bool_valid = (((omega arith, omega arith), (tt, (tt, (tt, (tt, tt))))), (tt, refl))

module _ (R : RawSheet) (H : Sheet) (r : Resolved R H) where
  sorts_count : length (names_of R).sorts ≡ length H.sig.sorts
  unfolding names_of sizes_of
  sorts_count =
      let a : length H.sig.sorts ≡ suc (length (map (λ (l : SortLine). l.size) R.sorts)) = ap length r.sizes in
      let b = length-map R.sorts (λ (l : SortLine). l.size) in
      let c = length-map R.sorts (λ (l : SortLine). l.name) in
      omega arith

  -- sorts that are named are sorts
  are_sorts : (Ds : List ℕ) → Declared (names_of R) Ds → AreSorts H.sig.sorts Ds
  are_sorts Ds h = subst (λ (n : ℕ). Every (λ D. D < n) Ds) sorts_count h

  -- "At most 8 sorts with Bool, sizes 1 to 16"
  right_sizes : Counted R → RightSizes H.sig.sorts
  unfolding Counted RightSizes Every sizes_of
  right_sizes c =
      let b = length-map R.sorts (λ (l : SortLine). l.size) in
      let m : suc (length R.sorts) ≤ max_sorts = c.0 in
      subst RightSizes (sym r.sizes) (((omega arith, omega arith), ((omega arith, omega arith), every_map _ (Between 1 max_size) (λ (l : SortLine). l.size) (λ l h. h) R.sorts c.1.0)), refl)

  -- "Functions have one or two sorts"; "function values complete and in range"
  right_funcs : Formed R → Every (Complete H.sig) H.sig.funcs → Every (RightFunc H.sig.sorts) H.sig.funcs
  unfolding FormedFunc RightFunc Complete size
  right_funcs f h =
      every_both (λ g. (Between 1 max_arity (length g.takes) × AreSorts H.sig.sorts g.takes) × (g.gives < length H.sig.sorts)) (Complete H.sig) (RightFunc H.sig.sorts)
      (λ g a b. (a.0, (a.1, b))) H.sig.funcs
      (each_every _ FormedFunc _
      (λ l g e w.
      let k = func_from (names_of R) l g e in
      let n = k.arity in
      let s = sorts_count in
      let d = k.gives in
      let lo = w.0.0 in
      let hi = w.0.1 in
      (((omega arith, omega arith), are_sorts g.takes k.takes), omega arith))
      R.funcs H.sig.funcs r.funcs f.funcs)
      h

  -- "Every declared name new (Bool is taken)": the names of actions are distinct,
  distinct_acts : T (distinct (action_names H.sig.acts))
  unfolding action_names declared names_of
  distinct_acts =
      let N = names_of R in
      let d = distinct_left N.acts N.procs (distinct_right N.funcs (N.acts ++ N.procs) (distinct_right N.sorts (N.funcs ++ (N.acts ++ N.procs)) r.new_names)) in
      subst (λ (l : List (List ℕ)). T (distinct l)) (each_map _ (λ (l : ActLine). l.name) (λ (a : Action). a.name) (λ l a e. (action_from N l a e).name) R.acts H.sig.acts r.acts) d

  -- and none is Bool.
  unlike_Bool : Every (λ (l : ActLine). Unlike (bytes "Bool") l.name) R.acts
  unfolding declared names_of
  unlike_Bool =
      let N = names_of R in
      let sorts = map (λ (l : SortLine). l.name) R.sorts in
      map_every _ (Unlike (bytes "Bool")) (λ (l : ActLine). l.name) (λ l h. h) R.acts
      (every_left _ N.acts N.procs (every_right _ N.funcs (N.acts ++ N.procs) (every_right _ sorts (N.funcs ++ (N.acts ++ N.procs))
      (distinct_first (bytes "Bool") (sorts ++ (N.funcs ++ (N.acts ++ N.procs))) r.new_names))))

  -- "actions none to two" sorts, names valid
  right_acts : Formed R → Every (λ (l : ActLine). ValidName l.name) R.acts → Every (RightAction H.sig.sorts) H.sig.acts
  unfolding FormedAct RightAction
  right_acts f v =
      each_every _ (λ (l : ActLine). RightName l.name × FormedAct l) _
      (λ l a e w.
      let k = action_from (names_of R) l a e in
      let n = k.arity in
      let hi = w.1 in
      (subst RightName k.name w.0, (omega arith, are_sorts a.takes k.takes)))
      R.acts H.sig.acts r.acts
      (every_both _ _ _ (λ l n a. (n, a)) R.acts (every_both _ _ _ (λ l n u. right_name l.name n (λ e. u (sym e))) R.acts v unlike_Bool) f.acts)

  right_sig : Counted R → Formed R → Every (λ (l : ActLine). ValidName l.name) R.acts → Every (Complete H.sig) H.sig.funcs → RightSig H.sig
  unfolding Counted RightSig
  right_sig c f v h =
      let m₁ : length R.funcs ≤ max_functions = c.1.1.0 in
      let m₂ : length R.acts ≤ max_actions = c.1.1.1.0 in
      let n₁ = each_length _ R.funcs H.sig.funcs r.funcs in
      let n₂ = each_length _ R.acts H.sig.acts r.acts in
      (right_sizes c, ((omega arith, right_funcs f h), ((omega arith, right_acts f v), distinct_acts)))

  -- #104: "Sort names must be valid and distinct, Bool first."
  right_names : Every (λ (l : SortLine). ValidName l.name) R.sorts → RightNames with_names H.sig
  unfolding RightNames declared names_of Every
  right_names v =
      let N = names_of R in
      let named = r.sort_names in
      let e = sorts_count in (
        (
          ap length named ∙ e,
          subst (Every RightSortName) (sym named) (right_sort_name (bytes "Bool") Bool_valid, every_map _ RightSortName (λ (l : SortLine). l.name) (λ l h. right_sort_name l.name h) R.sorts v),
        ),
        (
          subst (λ (l : List (List ℕ)). T (distinct l)) (sym named) (distinct_left N.sorts (N.funcs ++ (N.acts ++ N.procs)) r.new_names),
          ap (λ (l : List (List ℕ)). get_or l 0 []) named,
        ),
      )

  -- "16 processes of 0 to 4 parameters"
  right_processes : Counted R → Every (λ (p : Process). Sorted H (get_elem? p.params) p.right) H.procs → Every (RightProcess H) H.procs
  unfolding Counted
  right_processes c h =
      every_both (λ (p : Process). (length p.params ≤ frame_width) × (AreSorts H.sig.sorts p.params × Numbered (length p.params) p.right)) _ (RightProcess H)
      (λ p a s. record { few = a.0; sorts = a.1.0; numbered = a.1.1; sorted = s }) H.procs
      (each_every _ (λ (l : ProcLine). length l.params ≤ frame_width) _
      (λ l p e w.
      let k = process_from (names_of R) H.sig l p e in
      let n = k.arity in
      (omega arith, (are_sorts p.params k.sorts, k.numbered)))
      R.procs H.procs r.procs c.1.1.1.1.1)
      h

-- all questions passed: the sheet is in good standing
pub standing_of : (s : List ℕ) (H : Sheet) → Accepted s H → Standing H
unfolding Counted RightlySorted
standing_of s H passed =
    let a = passed.as_resolved in
    let R = a.raw in
    let r = resolved_lines R H a.resolved in
    let f = (print_parse a.found R a.form).1 in
    let n = each_length _ R.procs H.procs r.procs in
    let few : length R.procs ≤ max_processes = a.counted.1.1.1.1.0 in
    let one = f.procs in
    record {
      signature = right_sig R H r a.counted f (names_valid s a.found R a.all_tokens a.form) a.rightly_sorted.0;
      sort_names = right_names R H r (sort_names_valid s a.found R a.all_tokens a.form);
      some_process = omega arith;
      few_processes = omega arith;
      processes = right_processes R H r a.counted a.rightly_sorted.1.0;
      no_circle = (guarded_no_circle H a.rightly_sorted).0 passed.no_circle;
      start = a.rightly_sorted.1.1;
    }

-- ACCEPTED BYTES ARE IN GOOD STANDING.
pub accepted_standing : (s : List ℕ) (H : Sheet) → sheet_read s ≡ accepted H → Standing H
accepted_standing s H e = standing_of s H (accepted_all s H e)
