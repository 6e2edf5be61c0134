-- The signature from its parts: sorts, functions, actions, and that the names at the actions' places are distinct.
use mathlib.Core.Path.{◌≡◌, refl, sym, ap, ap₂, subst, ◌∙◌}
use mathlib.Core.List.{List, [], ◌∷◌, map}
use mathlib.Core.Bool.{true, false}
use mathlib.Core.Option.{Option}
use Prim.Native.Nat.{ℕ, ◌+◌}
use native.Mathlib.Omega.{arith}
use lib.ListN.{length, get_or, take, drop}
use Rattle.std.specs.Prelude as R
use Rattle.std.specs.Prelude.{Some, None}
use Rattle.pcrl.specs.Limits.{max_functions, max_actions, max_arity}
use Rattle.pcrl.specs.Tests.{Between, at_most?, T?, distinct, Every, Each}
use Rattle.pcrl.specs.Reader.{missing, found, bind, pair, view, test, counted}
use Rattle.pcrl.specs.Tree.{Name}
use Rattle.pcrl.specs.Sheet.{Func, Action}
use Rattle.pcrl.specs.Stream.{encode_func, encode_action}
use Rattle.pcrl.specs.Right.{RightFunc, action_names}
use Rattle.pcrl.specs.Decode.{read_all_sorts, read_func, read_action, layout_by, names_by, to_sig, read_sig}
use Rattle.laws.specs.Tests.{of_true}
use Rattle.laws.specs.Every.{every_weaken}
use Rattle.codec.specs.StreamLaws.{list_law, func_law}
use Rattle.terms.specs.Stands.{Standing, list_at}
use Rattle.terms.specs.Laid.{Laid}
use Rattle.terms.proofs.Rests.{test_bad, test_pass}
use Rattle.terms.proofs.Places.{name_stands, list_is}
use Rattle.action_names.proofs.Run.{fails}
use Rattle.signature.specs.Reading.{SigRead}

-- the names of actions that stand at places
pub names_at : (s : List ℕ) (acts : List Action) (places : List ℕ) → Standing encode_action s acts places → map (λ p. list_at s (p + 0)) places ≡ action_names acts
unfolding Standing Each action_names
names_at s [] [] h = refl
names_at s [] (p ∷ places) h = absurd h
names_at s (a ∷ acts) [] h = absurd h
names_at s (a ∷ acts) (p ∷ places) h = ap₂ ◌∷◌ (ap (list_at s) (let z : p + 0 ≡ p = omega arith in z) ∙ list_is s p a.name (name_stands s p a h.0)) (names_at s acts places h.1)

-- functions that are read have one or two sorts
arities : (sizes xs : List ℕ) (fs : List Func) (ys : List ℕ) → counted (at_most? max_functions) (read_func sizes) xs ≡ found fs ys → Every (λ (g : Func). Between 1 max_arity (length g.takes)) fs
unfolding RightFunc
arities sizes xs fs ys e =
    let (a, (b, c)) = (list_law (at_most? max_functions) (func_law sizes)).back xs fs ys e in
    every_weaken (RightFunc sizes) (λ (g : Func). Between 1 max_arity (length g.takes)) (λ g h. h.0.0) fs c

module _ (s zs : List ℕ) (o : Option (List Name)) (i : ℕ) (sorts : read_all_sorts s ≡ found (zs, o) (drop i s)) where
  pub no_funcs : (ps : List ℕ) → Laid (counted (at_most? max_functions) (read_func zs) (drop i s)) encode_func s None ps → read_sig s ≡ missing
  unfolding Laid read_sig view pair bind
  no_funcs ps e = rw (sorts, e)

  module _ (j : ℕ) (funcs : List ℕ) (laid_funcs : Laid (counted (at_most? max_functions) (read_func zs) (drop i s)) encode_func s (Some j) funcs) where
    pub no_acts : (ps : List ℕ) → Laid (counted (at_most? max_actions) (read_action zs) (drop j s)) encode_action s None ps → read_sig s ≡ missing
    unfolding Laid read_sig view pair bind test
    no_acts ps e = rw (sorts, laid_funcs.1, e)

    module _ (k : ℕ) (acts : List ℕ) (laid_acts : Laid (counted (at_most? max_actions) (read_action zs) (drop j s)) encode_action s (Some k) acts) where
      pub names_twice : distinct (map (λ p. list_at s (p + 0)) acts) ≡ false → read_sig s ≡ missing
      unfolding Laid read_sig view pair bind
      names_twice e =
          rw (
            sorts,
            laid_funcs.1,
            test_bad (λ l. T? (distinct (action_names l))) (counted (at_most? max_actions) (read_action zs)) (drop j s) laid_acts.0 (drop k s) laid_acts.1
                (fails (distinct (action_names laid_acts.0)) (ap distinct (sym (names_at s laid_acts.0 acts laid_acts.2)) ∙ e)),
          )

      pub sig_read : distinct (map (λ p. list_at s (p + 0)) acts) ≡ true → SigRead o s k zs funcs acts
      unfolding Laid SigRead read_sig to_sig view pair bind
      sig_read e =
          let right = of_true (distinct (action_names laid_acts.0)) (ap distinct (sym (names_at s laid_acts.0 acts laid_acts.2)) ∙ e) in (
            layout_by o,
            record { sorts = zs; sort_names = names_by o zs laid_acts.0; funcs = laid_funcs.0; acts = laid_acts.0 },
            record {
              reads =
                  rw (
                    sorts,
                    laid_funcs.1,
                    test_pass (λ l. T? (distinct (action_names l))) (counted (at_most? max_actions) (read_action zs)) (drop j s) laid_acts.0 (drop k s) laid_acts.1 right,
                  );
              layout_is = refl;
              names_are = refl;
              data_known = record { sizes_are = refl; stand = laid_funcs.2; arity = arities zs (drop i s) laid_funcs.0 (drop j s) laid_funcs.1 };
              acts_known = laid_acts.2;
            },
          )

-- what a callee laid, with its count said otherwise
module _ (s zs places : List ℕ) (i n : ℕ) (e : R.Option ℕ) (z : n ≡ get_or s i 0) where
  pub funcs_laid : Laid (counted (at_most? max_functions) (read_func zs) (drop i s)) encode_func s e (take (get_or s i 0) places)
      → Laid (counted (at_most? max_functions) (read_func zs) (drop i s)) encode_func s e (take n places)
  funcs_laid h = subst (λ (m : ℕ). Laid (counted (at_most? max_functions) (read_func zs) (drop i s)) encode_func s e (take m places)) (sym z) h

  pub acts_laid : Laid (counted (at_most? max_actions) (read_action zs) (drop i s)) encode_action s e (take (get_or s i 0) places)
      → Laid (counted (at_most? max_actions) (read_action zs) (drop i s)) encode_action s e (take n places)
  acts_laid h = subst (λ (m : ℕ). Laid (counted (at_most? max_actions) (read_action zs) (drop i s)) encode_action s e (take m places)) (sym z) h

-- THE WHOLE SIGNATURE

pub no_sorts : (s : List ℕ) → read_all_sorts s ≡ missing → read_sig s ≡ missing
unfolding read_sig view pair bind
no_sorts s e = rw e refl
