-- The names of a right table's sorts: one for each, spelled as names, distinct, Bool first. Those that the printer gave are no action's.
use Rattle.std.specs.Prelude.{◌≡◌, List, [], ◌∷◌, true, T, length}
use Rattle.std.proofs.Math.Path.{refl, ap}
use Rattle.std.proofs.Common.{ap₂, sym, subst, ◌∙◌}
use Prim.Native.Nat.{ℕ, zero, suc, ◌+◌, ◌<◌, ◌≤◌}
use native.Mathlib.Omega.{arith}
use Rattle.std.proofs.Math.Decide.{ℕ_discrete}
use Rattle.std.proofs.Math.ListN.{get_or}
use Rattle.pcrl.specs.Text.{bytes, byte}
use Rattle.pcrl.specs.Limits.{max_numeral, max_sorts}
use Rattle.pcrl.specs.Tests.{negated, same?, among, distinct, Every}
use Rattle.pcrl.specs.Bytes.{letter}
use Rattle.pcrl.specs.Tokens.{words}
use Rattle.pcrl.specs.Tree.{Name}
use Rattle.pcrl.specs.Lists.{tabulate}
use Rattle.pcrl.specs.Letters.{older_name, older_names}
use Rattle.pcrl.specs.Sheet.{Action, Sig}
use Rattle.pcrl.specs.Table.{Layout, with_names, without_names}
use Rattle.pcrl.specs.Right.{RightSizes, free_name, RightName, RightAction, action_names, RightSig, RightSortName, RightNames}
use Rattle.pcrl.specs.Printer.{taken}
use Rattle.laws.specs.Tests.{both_pass}
use Rattle.laws.specs.Every.{every_weaken, every_map}
use Rattle.grammar.specs.TokenLaws.{ValidName}
use Rattle.grammar.specs.ValidNames.{valid_sort_name}
use Rattle.theory.specs.Distinct.{Unlike}
use Rattle.printing.specs.Indexed.{SpelledName, indexed_first, indexed_injective, indexed_new, indexed_spelled}
use Rattle.printing.specs.Lookups.{distinct_append, in_turn, length_in_turn, every_in_turn, distinct_in_turn}

pub record PlainNames (S : Sig) : Type 0 where
  pub count : length S.sort_names ≡ length S.sorts
  pub spelled : Every SpelledName S.sort_names
  pub apart : T (distinct S.sort_names)
  pub Bool_first : get_or S.sort_names 0 [] ≡ bytes "Bool"

-- "none is Bool"
pub not_Bool : (n : Name) → RightName n → Unlike (bytes "Bool") n
unfolding RightName free_name among
not_Bool n h e = by (same? n (bytes "Bool")) (sym e) (both_pass (letter (get_or n 0 0)) _ h.1).1
  where
    by : (d : Dec (n ≡ bytes "Bool")) → n ≡ bytes "Bool" → T (negated (elim d [ yes e ↦ true | no k ↦ among n words ])) → ⊥
    by (yes e) f t = t
    by (no k) f t = k f

-- "valid by the token rule"
valid_spelled : (n : Name) → RightSortName n → SpelledName n
unfolding ValidName SpelledName
valid_spelled n h = let v = valid_sort_name n h in ((v.0.0.0, v.0.1), v.1)

-- THE PRINTER'S NAMES

-- made one after another
by_turns : (f g : ℕ → Name) (i n : ℕ) → ((k : ℕ) → f k ≡ g (i + k)) → tabulate n f ≡ in_turn g i n
unfolding tabulate in_turn
by_turns f g i zero e = refl
by_turns f g i (suc n) e =
    let z : i + 0 ≡ i = omega arith in
    ap₂ ◌∷◌ (e 0 ∙ ap g z) (by_turns (λ k. f (suc k)) g (suc i) n (λ k. e (suc k) ∙ ap g (let y : i + suc k ≡ suc i + k = omega arith in y)))

module _ (acts : List Name) where
  older_injective : (D E : ℕ) → D < suc max_numeral → E < suc max_numeral → older_name acts D ≡ older_name acts E → D ≡ E
  unfolding older_name
  older_injective zero zero h k e = refl
  older_injective zero (suc E) h k e = absurd (let z : byte "B" ≡ byte "s" = ap (λ (n : Name). get_or n 0 0) e ∙ indexed_first acts (byte "s") (suc E) in omega arith)
  older_injective (suc D) zero h k e = absurd (let z : byte "B" ≡ byte "s" = ap (λ (n : Name). get_or n 0 0) (sym e) ∙ indexed_first acts (byte "s") (suc D) in omega arith)
  older_injective (suc D) (suc E) h k e = indexed_injective acts (byte "s") (suc D) (suc E) (omega arith) (omega arith) e

  older_spelled : (D : ℕ) → D ≤ max_numeral → SpelledName (older_name acts D)
  unfolding older_name SpelledName Every among words same? ℕ_discrete
  older_spelled zero h = ((omega arith, (tt, (tt, (tt, (tt, tt))))), (tt, refl))
  older_spelled (suc D) h = indexed_spelled acts (byte "s") (suc D) tt (omega arith)

  older_in_turn : (n : ℕ) → older_names acts n ≡ in_turn (older_name acts) 0 n
  unfolding older_names
  older_in_turn n = by_turns (older_name acts) (older_name acts) 0 n (λ k. ap (older_name acts) (let z : k ≡ 0 + k = omega arith in z))

  -- no action has one of them
  older_no_act : Every (Unlike (bytes "Bool")) acts → (D : ℕ) → Every (Unlike (older_name acts D)) acts
  unfolding older_name
  older_no_act h zero = h
  older_no_act h (suc D) = indexed_new acts (byte "s") (suc D)

-- "none is Bool"
no_act_Bool : (S : Sig) → RightSig S → Every (Unlike (bytes "Bool")) (action_names S.acts)
unfolding RightSig RightAction action_names
no_act_Bool S ok = every_map _ (Unlike (bytes "Bool")) (λ (a : Action). a.name) (λ a r. not_Bool a.name r.0) S.acts ok.1.1.0.1

few : (S : Sig) → RightSig S → (1 ≤ length S.sorts) × (length S.sorts ≤ max_sorts)
unfolding RightSig RightSizes
few S ok = ok.0.0.0

first_older : (acts : List Name) (n : ℕ) → 1 ≤ n → get_or (older_names acts n) 0 [] ≡ bytes "Bool"
unfolding older_names tabulate older_name
first_older acts zero h = absurd (omega arith)
first_older acts (suc n) h = refl

-- A RIGHT TABLE'S SORTS HAVE PLAIN NAMES,
pub right_names : (L : Layout) (S : Sig) → RightSig S → RightNames L S → PlainNames S
unfolding RightNames
right_names with_names S ok h = record { count = h.0.0; spelled = every_weaken _ _ valid_spelled S.sort_names h.0.1; apart = h.1.0; Bool_first = h.1.1 }
right_names without_names S ok h =
    let A = action_names S.acts in
    let n = length S.sorts in
    let k = few S ok in
    let e : S.sort_names ≡ in_turn (older_name A) 0 n = h ∙ older_in_turn A n in
    record {
      count = ap length e ∙ length_in_turn (older_name A) 0 n;
      spelled = subst (Every SpelledName) (sym e) (every_in_turn (older_name A) SpelledName 0 n (λ D w. older_spelled A D (omega arith)));
      apart = subst (λ (l : List Name). T (distinct l)) (sym e) (distinct_in_turn (older_name A) (suc max_numeral) (older_injective A) 0 n (omega arith));
      Bool_first = ap (λ (l : List Name). get_or l 0 []) h ∙ first_older A n k.0;
    }

-- and without hex F2 none of them is an action's.
pub older_free : (S : Sig) → RightSig S → RightNames without_names S → T (distinct (taken S))
unfolding RightNames taken RightSig
older_free S ok h =
    let A = action_names S.acts in
    let n = length S.sorts in
    let p = right_names without_names S ok h in
    let e : S.sort_names ≡ in_turn (older_name A) 0 n = h ∙ older_in_turn A n in
    distinct_append S.sort_names A p.apart ok.1.1.1 (subst (Every (λ x. Every (Unlike x) A)) (sym e) (every_in_turn (older_name A) _ 0 n (λ D w. older_no_act A (no_act_Bool S ok) D)))
