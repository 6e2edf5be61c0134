-- The sizes of the sorts, a function and an action, each from its parts.
use mathlib.Core.Path.{◌≡◌, refl, sym, ap, ◌∙◌}
use mathlib.Core.List.{List, [], ◌∷◌}
use Prim.Native.Nat.{ℕ, suc, ◌*◌}
use native.Mathlib.Omega.{arith}
use native.Mathlib.Decide.{ℕ_discrete}
use lib.ListN.{length, get_or, drop}
use Rattle.pcrl.specs.Limits.{max_sorts, max_size, max_arity}
use Rattle.pcrl.specs.Tests.{Between, between?, below?}
use Rattle.pcrl.specs.Reader.{missing, found, Reader, one, pair, times, counted}
use Rattle.pcrl.specs.Sorts.{volume}
use Rattle.pcrl.specs.Stream.{encode_sorts}
use Rattle.pcrl.specs.Decode.{read_sizes, to_func, read_func, to_action, read_name, read_sorts, read_action}
use Rattle.codec.specs.StreamLaws.{numbers_law, sizes_law}
use Rattle.terms.specs.Stands.{list_at}
use Rattle.terms.specs.Ends.{rests}
use Rattle.terms.specs.Numbers.{from?, read_list}
use Rattle.terms.proofs.Rests.{found_there, view_rests, test_fail, test_bad, test_pass, pair_pass, pair_fail, pair_with}
use Rattle.terms.proofs.Places.{list_is}
use Rattle.terms.proofs.Lists.{sizes_list, takes_list, sorts_list, list_found}

-- SIZES

module _ (s : List ℕ) (at : ℕ) where
  pub sizes_fail : rests (read_list 1 max_sorts 1 (suc max_size) (drop at s)) ≡ missing → rests (read_sizes (drop at s)) ≡ missing
  unfolding read_sizes
  sizes_fail e = test_fail (λ l. ℕ_discrete (get_or l 0 0) 2) (counted (between? 1 max_sorts) (one (between? 1 max_size))) (drop at s) (ap rests (sizes_list (drop at s)) ∙ e)

  module _ (ys : List ℕ) (e : rests (read_list 1 max_sorts 1 (suc max_size) (drop at s)) ≡ found tt ys) where
    sizes_found : counted (between? 1 max_sorts) (one (between? 1 max_size)) (drop at s) ≡ found (list_at s at) ys
    sizes_found = sizes_list (drop at s) ∙ list_found 1 max_sorts 1 (suc max_size) s at ys e

    pub sizes_bad : ¬ (get_or (list_at s at) 0 0 ≡ 2) → rests (read_sizes (drop at s)) ≡ missing
    unfolding read_sizes rests
    sizes_bad n = ap rests (test_bad (λ l. ℕ_discrete (get_or l 0 0) 2) (counted (between? 1 max_sorts) (one (between? 1 max_size))) (drop at s) (list_at s at) ys sizes_found n)

    pub sizes_are : get_or (list_at s at) 0 0 ≡ 2 → read_sizes (drop at s) ≡ found (list_at s at) ys
    unfolding read_sizes
    sizes_are k = test_pass (λ l. ℕ_discrete (get_or l 0 0) 2) (counted (between? 1 max_sorts) (one (between? 1 max_size))) (drop at s) (list_at s at) ys sizes_found k

-- A FUNCTION

module _ (sizes : List ℕ) where
  pub volume_one : (l : List ℕ) (a : ℕ) → length l ≡ 1 → a ≡ get_or sizes (get_or l 0 0) 0 → a ≡ volume sizes l
  unfolding volume
  volume_one [] a h e = absurd (omega arith)
  volume_one (D ∷ []) a h e = omega arith
  volume_one (D ∷ (E ∷ l)) a h e = absurd (omega arith)

  pub volume_two : (l : List ℕ) (a b : ℕ) → ¬ (length l ≡ 1) → Between 1 max_arity (length l) → a ≡ get_or sizes (get_or l 0 0) 0 → b ≡ get_or sizes (get_or l 1 0) 0 → a * b ≡ volume sizes l
  unfolding volume
  volume_two [] a b n h e f = absurd (omega arith)
  volume_two (D ∷ []) a b n h e f = absurd (n refl)
  volume_two (D ∷ (E ∷ [])) a b n h e f = let z : b ≡ get_or sizes E 0 * 1 = omega arith in rw (← e, ← z)
  volume_two (D ∷ (E ∷ (F ∷ l))) a b n h e f = absurd (omega arith)

  -- the values behind the sorts, of which there are Ds
  unfoldable pub read_values : List ℕ → Reader ℕ (ℕ × List ℕ)
  read_values Ds = pair (one (below? (length sizes))) (λ D. times (one (below? (get_or sizes D 0))) (volume sizes Ds))

  module _ (s : List ℕ) (at : ℕ) where
    pub func_fail : rests (read_list 1 max_arity 0 (length sizes) (drop at s)) ≡ missing → rests (read_func sizes (drop at s)) ≡ missing
    unfolding read_func
    func_fail e =
        view_rests to_func _ (drop at s) ∙ pair_fail (counted (between? 1 max_arity) (one (below? (length sizes)))) _ (drop at s) (ap rests (takes_list sizes (drop at s)) ∙ e)

    pub func_values : (ys : List ℕ) → rests (read_list 1 max_arity 0 (length sizes) (drop at s)) ≡ found tt ys → rests (read_func sizes (drop at s)) ≡ rests (read_values (list_at s at) ys)
    unfolding read_func read_values
    func_values ys e =
        view_rests to_func _ (drop at s)
        ∙ pair_with (counted (between? 1 max_arity) (one (below? (length sizes)))) _ (drop at s) (list_at s at) ys (takes_list sizes (drop at s) ∙ list_found 1 max_arity 0 (length sizes) s at ys e)

  -- AN ACTION

  module _ (s : List ℕ) (at : ℕ) where
    pub action_fail : rests (read_name (drop at s)) ≡ missing → rests (read_action sizes (drop at s)) ≡ missing
    unfolding read_action
    action_fail e = view_rests to_action _ (drop at s) ∙ pair_fail read_name (λ n. read_sorts sizes max_arity) (drop at s) e

    pub action_sorts : (ys : List ℕ) → rests (read_name (drop at s)) ≡ found tt ys → rests (read_action sizes (drop at s)) ≡ rests (read_list 0 max_arity 0 (length sizes) ys)
    unfolding read_action
    action_sorts ys e =
        view_rests to_action _ (drop at s) ∙ pair_pass read_name (λ n. read_sorts sizes max_arity) (drop at s) ys (rests (read_list 0 max_arity 0 (length sizes) ys)) e (λ n. ap rests (sorts_list sizes ys max_arity))

-- Where sizes are read, they are the list at their place.
pub sizes_value : (s : List ℕ) (at : ℕ) (ys : List ℕ) → rests (read_sizes (drop at s)) ≡ found tt ys → read_sizes (drop at s) ≡ found (list_at s at) ys
unfolding encode_sorts
sizes_value s at ys e =
    let (l, f) = found_there (read_sizes (drop at s)) ys e in
    let (x, y) = sizes_law.back (drop at s) l ys f in
    f ∙ ap (λ (m : List ℕ). found m ys) (sym (list_is s at l (ys, x)))

pub list_between : (least most low limit : ℕ) (s : List ℕ) (at : ℕ) (ys : List ℕ) → rests (read_list least most low limit (drop at s)) ≡ found tt ys → Between least most (length (list_at s at))
unfolding read_list
list_between least most low limit s at ys e = ((numbers_law (between? least most) (from? low limit)).back (drop at s) (list_at s at) ys (list_found least most low limit s at ys e)).1.0

pub between_is : (l m : List ℕ) → l ≡ m → Between 1 max_arity (length m) → Between 1 max_arity (length l)
between_is l m e h = rw e h

pub values_alike : (s : List ℕ) (i k k' n n' : ℕ) → k ≡ k' → n ≡ n' → rests (times (one (below? k)) n (drop i s)) ≡ rests (times (one (below? k')) n' (drop i s))
values_alike s i k k' n n' e f = rw (e, f)
