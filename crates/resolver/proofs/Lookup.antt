-- What is learnt from a search: a number below the count is the name's, and the count itself says that the name is not there.
use mathlib.Core.Path.{◌≡◌, refl, sym, ap, ◌∙◌}
use mathlib.Core.List.{List, ◌++◌}
use Rattle.std.specs.Prelude.{Some, None}
use mathlib.Core.Option.{Option, none, some}
use Prim.Native.Nat.{ℕ, suc, ◌+◌, ◌-◌, ◌≤◌, ◌<◌}
use native.Mathlib.Omega.{arith}
use lib.ListN.{length, take, drop, length-map, length-drop}
use lib.Seq.{length-take-le}
use Rattle.pcrl.specs.Tree.{Name}
use Rattle.pcrl.specs.Names.{number_of}
use Rattle.laws.specs.Numbers.{number_below}
use Rattle.names.specs.NameCells.{or_count, found, name_at, scope_at}
use Rattle.names.specs.NameKinds.{sorts_in, funcs_in, acts_in, procs_in}
use Rattle.names.specs.declared.Kinds.{Kinds}
use Rattle.names.specs.NameList.{names_in, kinds_in, KeyedNames}
use Rattle.names.proofs.KeyLaws.{scope_most}
use Rattle.names.proofs.Numbers.{number_parts, is_found, not_found}

module _ (s names : List ℕ) (kinds : Kinds) where
  pub sorts_most : length (sorts_in s names kinds) ≤ suc kinds.sorts
  unfolding sorts_in
  sorts_most = let h = scope_most s names kinds.sorts in omega arith

  pub funcs_most : length (funcs_in s names kinds) ≤ kinds.funcs
  unfolding funcs_in
  funcs_most = scope_most s _ kinds.funcs

  pub acts_most : length (acts_in s names kinds) ≤ kinds.acts
  unfolding acts_in
  acts_most = scope_most s _ kinds.acts

  pub procs_most : length (procs_in s names kinds) ≤ kinds.procs
  unfolding procs_in
  procs_most = scope_most s _ kinds.procs

pub scope_many : (s scope : List ℕ) (n : ℕ) → n ≤ length scope → length (scope_at s scope n) ≡ n
unfolding scope_at
scope_many s scope n h = length-map (take n scope) (name_at s) ∙ length-take-le n scope h

-- a number below the count is the name's, and the count itself says that the name is not there
module _ (x : Name) (l : List Name) (r m : ℕ) (many : length l ≤ m) (found : r ≡ or_count m (number_of x l)) where
  pub known : r < m → number_of x l ≡ some r
  known h = by (number_of x l) found
    where
      by : (o : Option ℕ) → r ≡ or_count m o → o ≡ some r
      by none e = absurd (omega arith)
      by (some i) e = ap some (sym e)

  pub unknown : m ≤ r → number_of x l ≡ none
  unknown h = by (number_of x l) refl found
    where
      by : (o : Option ℕ) → number_of x l ≡ o → r ≡ or_count m o → o ≡ none
      by none q e = refl
      by (some i) q e = let b = number_below x l i q in absurd (omega arith)

-- a name looked up among actions and processes together
module _ (s l : List ℕ) (K : KeyedNames s l) (x : Name) (r : ℕ) where
  abbrev actions : List Name
  actions = acts_in s (names_in l) (kinds_in l)

  abbrev processes : List Name
  processes = procs_in s (names_in l) (kinds_in l)

  acts_many : length actions ≡ (kinds_in l).acts
  unfolding acts_in
  acts_many =
      let a = length-drop ((kinds_in l).sorts + (kinds_in l).funcs) (names_in l) in
      let b = K.names_few in
      scope_many s (drop ((kinds_in l).sorts + (kinds_in l).funcs) (names_in l)) (kinds_in l).acts (omega arith)

  module _ (found : r ≡ or_count ((kinds_in l).acts + (kinds_in l).procs) (number_of x (actions ++ processes))) where
    abbrev parts : (r < (kinds_in l).acts → r ≡ or_count (kinds_in l).acts (number_of x actions))
        × ((kinds_in l).acts ≤ r → ((kinds_in l).acts ≡ or_count (kinds_in l).acts (number_of x actions)) × (r - (kinds_in l).acts ≡ or_count (kinds_in l).procs (number_of x processes)))
    parts = number_parts (kinds_in l).acts (kinds_in l).procs x actions processes r acts_many found

    an_action_below : r < (kinds_in l).acts → number_of x actions ≡ some r
    an_action_below h = known x actions r (kinds_in l).acts (acts_most s (names_in l) (kinds_in l)) (parts.0 h) h

    no_action_from : (kinds_in l).acts ≤ r → number_of x actions ≡ none
    no_action_from h = unknown x actions (kinds_in l).acts (kinds_in l).acts (acts_most s (names_in l) (kinds_in l)) (parts.1 h).0 (omega arith)

    a_process_from : (kinds_in l).acts ≤ r → r - (kinds_in l).acts < (kinds_in l).procs → number_of x processes ≡ some (r - (kinds_in l).acts)
    a_process_from h k = known x processes (r - (kinds_in l).acts) (kinds_in l).procs (procs_most s (names_in l) (kinds_in l)) (parts.1 h).1 k

    no_process_from : (kinds_in l).acts ≤ r → (kinds_in l).procs ≤ r - (kinds_in l).acts → number_of x processes ≡ none
    no_process_from h k = unknown x processes (r - (kinds_in l).acts) (kinds_in l).procs (procs_most s (names_in l) (kinds_in l)) (parts.1 h).1 k

-- what code gives for it
module _ (s l : List ℕ) (K : KeyedNames s l) (x : Name) where
  abbrev both : List Name
  both = acts_in s (names_in l) (kinds_in l) ++ procs_in s (names_in l) (kinds_in l)

  abbrev count : ℕ
  count = (kinds_in l).acts + (kinds_in l).procs

  counted : (i : ℕ) → Some i ≡ found (number_of x both) → i ≡ or_count count (number_of x both)
  counted i e = sym (ap (or_count count) (is_found (number_of x both) i e))

  uncounted : None ≡ found (number_of x both) → count ≡ or_count count (number_of x both)
  uncounted e = sym (ap (or_count count) (not_found (number_of x both) e))

  module _ (i : ℕ) (e : Some i ≡ found (number_of x both)) where
    pub an_action : i < (kinds_in l).acts → number_of x (acts_in s (names_in l) (kinds_in l)) ≡ some i
    an_action h = an_action_below s l K x i (counted i e) h

    pub no_action : (kinds_in l).acts ≤ i → number_of x (acts_in s (names_in l) (kinds_in l)) ≡ none
    no_action h = no_action_from s l K x i (counted i e) h

    pub a_process : (kinds_in l).acts ≤ i → i < count → number_of x (procs_in s (names_in l) (kinds_in l)) ≡ some (i - (kinds_in l).acts)
    a_process h k = a_process_from s l K x i (counted i e) h (omega arith)

  pub neither_action : None ≡ found (number_of x both) → number_of x (acts_in s (names_in l) (kinds_in l)) ≡ none
  neither_action e = no_action_from s l K x count (uncounted e) (omega arith)

  pub neither_process : None ≡ found (number_of x both) → number_of x (procs_in s (names_in l) (kinds_in l)) ≡ none
  neither_process e = no_process_from s l K x count (uncounted e) (omega arith) (omega arith)
