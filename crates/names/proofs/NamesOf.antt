-- The lines of a sheet stand at their places: the names found there are those that it declares, the sizes its sizes,
-- and rows that hold what its lines resolve to hold its signature.
use mathlib.Core.Path.{◌≡◌, refl, sym, ◌∙◌, ap}
use mathlib.Core.List.{List, ◌∷◌, ◌++◌, map}
use mathlib.Core.Option.{Option, some}
use Prim.Native.Nat.{ℕ, ◌+◌, ◌≤◌}
use native.Mathlib.Omega.{arith}
use lib.ListN.{length, take, get_or, length-map}
use lib.Seq.{take-length, get_or-take}
use Rattle.pcrl.specs.Text.{bytes}
use Rattle.pcrl.specs.Limits.{max_size, max_sorts, max_functions, max_actions}
use Rattle.pcrl.specs.Tests.{Between, Every}
use Rattle.pcrl.specs.Tree.{Name, SortLine, FuncLine, ActLine, ProcLine, RawSheet}
use Rattle.pcrl.specs.Tokens.{name}
use Rattle.pcrl.specs.Sheet.{Func, Action, no_func, no_action, func}
use Rattle.pcrl.specs.Maybe.{for_each}
use Rattle.pcrl.specs.Names.{names_of, declared, sizes_of, resolve_func, resolve_act}
use Rattle.laws.specs.Each.{each_map, each_length, each_with, each_flip}
use Rattle.laws.specs.Optional.{each_given}
use Rattle.parser.specs.Cells.{Symbol, tag, token, sort_tag, func_tag, act_tag, proc_tag, enc_sort, enc_func, enc_act, enc_proc, enc_items, enc_name, enc_numeral, enc_param, enc_choice}
use Rattle.nodes.specs.declared.Outline.{Outline}
use Rattle.nodes.specs.Held.{FuncAt, ActAt, HeldSig}
use Rattle.names.specs.NameCells.{declared_at, names_at, scope_at, byte_of}
use Rattle.names.specs.Standing.{At, LinesAt}
use Rattle.names.specs.Items.{numeral_at}
use Rattle.names.specs.Rows.{InRows, sorts_at}
use Rattle.names.proofs.Symbols.{name_is, symbols_behind}
use Rattle.names.proofs.Recorded.{size_at}

module _ (s cells : List ℕ) where
  -- the second symbol of a line is its name
  second : (p t : ℕ) (x : Name) (e : List Symbol) → At s cells (tag t ∷ token (name x) ∷ e) p → declared_at s cells p ≡ x
  unfolding declared_at
  second p t x e a = name_is s cells (p + 1) x (e ++ a.0) (symbols_behind s cells p (p + 1) (tag t) (token (name x) ∷ (e ++ a.0)) refl a.1)

  all_named : {A : Type 0} (enc : A → List Symbol) (name_of : A → Name) (places : List ℕ) (ls : List A) → ((p : ℕ) (l : A) → At s cells (enc l) p → declared_at s cells p ≡ name_of l)
      → LinesAt enc s cells places ls → names_at s cells places (length places) ≡ map name_of ls
  unfolding names_at
  all_named enc name_of places ls f e = ap (map (declared_at s cells)) (take-length places) ∙ each_map (λ p l. At s cells (enc l) p) (declared_at s cells) name_of f places ls e

  module _ (R : RawSheet) (sorts funcs acts procs : List ℕ) (at_sorts : LinesAt enc_sort s cells sorts R.sorts) (at_funcs : LinesAt enc_func s cells funcs R.funcs)
      (at_acts : LinesAt enc_act s cells acts R.acts) (at_procs : LinesAt enc_proc s cells procs R.procs) where
    -- the names of each kind
    pub sorts_are : (names_of R).sorts ≡ sorts_at s cells sorts
    unfolding names_of sorts_at enc_sort
    sorts_are = ap (◌∷◌ (bytes "Bool")) (sym (all_named enc_sort (λ (l : SortLine). l.name) sorts R.sorts (λ p l a. second p sort_tag l.name (enc_numeral l.size) a) at_sorts))

    pub funcs_are : (names_of R).funcs ≡ names_at s cells funcs (length funcs)
    unfolding names_of enc_func
    funcs_are = sym (all_named enc_func (λ (l : FuncLine). l.name) funcs R.funcs (λ p l a. second p func_tag l.name (enc_items enc_name l.takes ++ (token (name l.gives) ∷ enc_items enc_numeral l.values)) a) at_funcs)

    pub acts_are : (names_of R).acts ≡ names_at s cells acts (length acts)
    unfolding names_of enc_act
    acts_are = sym (all_named enc_act (λ (l : ActLine). l.name) acts R.acts (λ p l a. second p act_tag l.name (enc_items enc_name l.takes) a) at_acts)

    pub procs_are : (names_of R).procs ≡ names_at s cells procs (length procs)
    unfolding names_of enc_proc
    procs_are = sym (all_named enc_proc (λ (l : ProcLine). l.name) procs R.procs (λ p l a. second p proc_tag l.name (enc_items enc_param l.params ++ enc_choice l.right) a) at_procs)

    -- THE DECLARED NAMES are Bool and those that `declared_names` gathers,
    pub declared_are : (names : List ℕ) (n : ℕ)
        → scope_at s names n ≡ names_at s cells sorts (length sorts) ++ (names_at s cells funcs (length funcs) ++ (names_at s cells acts (length acts) ++ names_at s cells procs (length procs)))
        → declared (names_of R) ≡ bytes "Bool" ∷ scope_at s names n
    unfolding declared sorts_at
    declared_are names n e = rw (sorts_are, funcs_are, acts_are, procs_are, e)

  -- and the sizes are 2 and those that `sizes` writes.
  pub sizes_are : (R : RawSheet) (sorts : List ℕ) → LinesAt enc_sort s cells sorts R.sorts → Every (λ (l : SortLine). Between 1 max_size l.size) R.sorts
      → 2 ∷ map (λ p. byte_of (numeral_at cells (p + 2))) sorts ≡ sizes_of R
  unfolding sizes_of byte_of
  sizes_are R sorts e f =
      ap (◌∷◌ 2) (sym (each_map (λ (l : SortLine) (p : ℕ). Between 1 max_size l.size × At s cells (enc_sort l) p) (λ (l : SortLine). l.size) (λ p. byte_of (numeral_at cells (p + 2)))
      (λ l p a. let z = size_at s cells l p a.1 in let b = a.0 in omega arith) R.sorts sorts
      (each_with (λ (l : SortLine) (p : ℕ). At s cells (enc_sort l) p) (λ (l : SortLine). Between 1 max_size l.size) R.sorts sorts f
      (each_flip (λ (p : ℕ) (l : SortLine). At s cells (enc_sort l) p) (λ (l : SortLine) (p : ℕ). At s cells (enc_sort l) p) (λ p l a. a) sorts R.sorts e))))

-- one value for each line
as_many : {A B : Type 0} (f : A → Option B) (l : List A) (m : List B) → for_each f l ≡ some m → length l ≡ length m
as_many f l m e = each_length (λ a b. f a ≡ some b) l m (each_given f l m e)

-- THE SIGNATURE IS HELD: sizes, functions and actions that the lines resolve to, each in its row.
pub signature_held : (R : RawSheet) (fs : List Func) (as' : List Action) (sizes funcs values places acts : List ℕ) (n : Outline)
    → n.sorts ≡ length R.sorts + 1 → n.funcs ≡ length R.funcs → n.acts ≡ length R.acts → n.sorts ≤ max_sorts → n.funcs ≤ max_functions → n.acts ≤ max_actions
    → take n.sorts sizes ≡ sizes_of R → for_each (resolve_func (names_of R)) R.funcs ≡ some fs → for_each (resolve_act (names_of R)) R.acts ≡ some as'
    → InRows no_func (λ g i. FuncAt g funcs values places i) fs → InRows no_action (λ a i. ActAt a acts i) as'
    → HeldSig (record { sorts = sizes_of R; sort_names = (names_of R).sorts; funcs = fs; acts = as' }) sizes funcs values places acts n
unfolding func sizes_of
signature_held R fs as' sizes funcs values places acts n sn fn an sl fl al se fe ae fr ar =
    let fm = as_many (resolve_func (names_of R)) R.funcs fs fe in
    let am = as_many (resolve_act (names_of R)) R.acts as' ae in
    record {
      sort_count = omega (arith, length-map R.sorts (λ (l : SortLine). l.size));
      func_count = omega arith;
      act_count = omega arith;
      few_sorts = sl;
      few_funcs = fl;
      few_acts = al;
      size_at = λ D h. sym (get_or-take n.sorts sizes D 0 h) ∙ ap (λ (l : List ℕ). get_or l D 0) se;
      func_at = λ i h. fr i (omega arith);
      act_at = λ i h. ar i (omega arith);
    }
