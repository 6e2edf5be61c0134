-- A right table has what its text asks of it; the whole text from its lines.
use mathlib.Core.Path.{◌≡◌, sym, subst}
use mathlib.Core.List.{List, [], ◌∷◌, ◌++◌}
use mathlib.Core.Bool.{Bool, true}
use Prim.Native.Nat.{ℕ, ◌≤◌, ◌<◌}
use native.Mathlib.Omega.{arith}
use lib.Dec.{T}
use lib.ListN.{length, get_or, drop}
use Rattle.pcrl.specs.Tests.{distinct, Every}
use Rattle.pcrl.specs.Bytes.{name_byte}
use Rattle.pcrl.specs.Reader.{all}
use Rattle.pcrl.specs.Sheet.{sort_name}
use Rattle.pcrl.specs.Table.{Table}
use Rattle.pcrl.specs.Right.{RightSizes, RightName, RightAction, action_names, RightSig, RightTable}
use Rattle.pcrl.specs.Printer.{numbered, taken, table_text}
use Rattle.laws.specs.Tests.{is_true}
use Rattle.laws.specs.Every.{every_at, every_weaken}
use Rattle.laws.specs.Says.{Says, says_as}
use Rattle.theory.specs.Distinct.{Unlike}
use Rattle.printing.specs.Indexed.{SpelledName}
use Rattle.printing.specs.Lookups.{distinct_append, distinct_across}
use Rattle.printing.specs.SortNames.{PlainNames, right_names}
use Rattle.rendering.specs.Texts.{concat, sort_line_text, func_line_text, act_line_text, proc_line_text, init_line_text, sheet_text}
use Rattle.rendering.specs.LinePieces.{Spellable}
use Rattle.rendering.proofs.LinePieces.{text_is}
use Rattle.lettering.specs.Named.{names_at, cells, Lettered}
use Rattle.lettering.proofs.Given.{names_are, names_right, acts_are}
use Rattle.tables.specs.declared.Index.{Index}
use Rattle.tables.specs.Indexed.{Indexed}

first_byte : (n : List ℕ) → 1 ≤ length n → Every (λ b. T (name_byte b)) n → name_byte (get_or n 0 0) ≡ true
unfolding Every
first_byte [] h e = absurd (omega arith)
first_byte (b ∷ n) h e = is_true (name_byte b) e.0

module _ (U : Table) (right : RightTable U) where
  right_sig : RightSig U.sig
  unfolding RightTable
  right_sig = right.0.0

  pub sorts_plain : PlainNames U.sig
  unfolding RightTable
  sorts_plain = right_names U.layout U.sig right_sig right.2

  spelled_sort : (D : ℕ) → D < length U.sig.sorts → SpelledName (sort_name U.sig D)
  unfolding sort_name
  spelled_sort D h = every_at SpelledName U.sig.sort_names [] D sorts_plain.spelled (omega (arith, sorts_plain.count))

  spellable : Spellable U
  unfolding RightSig RightSizes RightAction RightName SpelledName
  spellable = record {
    sizes = every_weaken _ _ (λ n h. h.1) U.sig.sorts right_sig.0.0.1;
    sort_names = λ D h. first_byte (sort_name U.sig D) (spelled_sort D h).0.0 (spelled_sort D h).0.1;
    names = every_weaken _ _ (λ a h. first_byte a.name h.0.0.0.0 h.0.0.1) U.sig.acts right_sig.1.1.0.1;
  }

  pub few_funcs : length U.sig.funcs ≤ 16
  unfolding RightSig
  few_funcs = right_sig.1.0.0

  pub right_acts : Every (RightAction U.sig.sorts) U.sig.acts
  unfolding RightSig
  right_acts = right_sig.1.1.0.1

  -- the whole text from its lines
  pub whole_text : concat (numbered (sort_line_text U.sig) 1 (drop 1 U.sig.sorts)) ++ (concat (numbered (func_line_text U.sig) 0 U.sig.funcs) ++ (all (act_line_text U.sig) U.sig.acts ++ (concat (numbered (proc_line_text U.sig) 0 U.equations) ++ init_line_text U.sig U.start))) ≡ table_text U
  unfolding sheet_text
  whole_text = sym (text_is U spellable)

  -- NAMES THAT ARE TAKEN: those of sorts are distinct, and so are those of actions

  acts_distinct : T (distinct (action_names U.sig.acts))
  unfolding RightSig
  acts_distinct = right_sig.1.1.1

  pub free_names : (r : Bool) → Says r (Every (λ x. Every (Unlike x) (action_names U.sig.acts)) U.sig.sort_names) → Says r (T (distinct (taken U.sig)))
  unfolding taken
  free_names r h = says_as r (distinct_append U.sig.sort_names (action_names U.sig.acts) sorts_plain.apart acts_distinct) (distinct_across U.sig.sort_names (action_names U.sig.acts)) h

  -- by where they stand
  pub free_there : (s : List ℕ) (index : Index) → Indexed U s index → (l : List ℕ) → Lettered U.sig l → (r : Bool)
      → Says r (Every (λ x. Every (Unlike x) (names_at s index.acts index.actions)) (names_at l cells index.sort_count)) → Says r (T (distinct (taken U.sig)))
  free_there s index ix l x r h =
      let S = U.sig in
      let sorts = names_are S right_sig U.layout (names_right U s index right ix) l index.sort_count ix.sorts_are x.sorts_are in
      free_names r (subst (λ (ns : List (List ℕ)). Says r (Every (λ x. Every (Unlike x) ns) S.sort_names)) (acts_are U s index right ix) (subst (λ (ns : List (List ℕ)). Says r (Every (λ x. Every (Unlike x) (names_at s index.acts index.actions)) ns)) sorts h))
