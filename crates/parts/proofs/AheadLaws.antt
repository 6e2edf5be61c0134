-- What is left of a walk: the terms at its level and those below, up to the first level that has any.
use mathlib.Core.Path.{◌≡◌, refl, sym, ap, subst, ◌∙◌}
use mathlib.Core.List.{List, [], ◌∷◌, ◌++◌, append_assoc, append-nil}
use mathlib.Core.Bool.{Bool, false}
use Prim.Native.Nat.{ℕ, ◌+◌, ◌-◌, ◌≤◌, ◌<◌}
use native.Mathlib.Omega.{arith}
use lib.ListN.{length, take, drop, get_or, length-append, length-drop}
use Rattle.pcrl.specs.Tests.{Every}
use Rattle.pcrl.specs.Reader.{all}
use Rattle.pcrl.specs.Sheet.{Proc, delta, atom, alt, cond, sum, seq, call, Sheet}
use Rattle.pcrl.specs.Parts.{NewPart, new_parts}
use Rattle.nodes.specs.Layout.{Item, enc, encs}
use Rattle.nodes.proofs.Nodes.{one_item, items_end}
use Rattle.std.specs.Prelude.{Option}
use Rattle.parts.specs.declared.PartWalk.{PartWalk}
use Rattle.parts.specs.Walking.{Fit, parts_of, Below, FitBelow, parts_below, Ahead, Rises}

-- as many levels as stand below
below_many : (left : List ℕ) (base n : ℕ) (fs : List (List Item)) → Below left base n fs → base + length fs ≡ n
unfolding Below
below_many left base n [] h = omega arith
below_many left base n (ys ∷ fs) h = let a = h.0 in let z = below_many left base (n - 1) fs h.1.1 in omega arith

-- each term has a cell
some_cells : (b : Bool) (p : Proc) → 1 ≤ length (enc b p)
unfolding enc
some_cells b delta = omega arith
some_cells b (atom a ds) = omega arith
some_cells b (alt p q) = omega arith
some_cells b (cond c p q) = omega arith
some_cells b (sum x D p) = omega arith
some_cells b (seq p q) = omega arith
some_cells b (call k ds) = omega arith

items_many : (xs : List Item) → length xs ≤ length (encs xs)
unfolding encs
items_many [] = omega arith
items_many ((b, q) ∷ xs) = omega (arith, some_cells b q, items_many xs, length-append (enc b q) (encs xs))

module _ (cells left sorts : List ℕ) (H : Sheet) (m base : ℕ) (rest : List ℕ) where
  pub ahead_start : (at count : ℕ) (w : Option ℕ) (p : Proc) → drop at cells ≡ enc false p ++ rest → Fit H m base p
      → Ahead cells left sorts H m base rest (record { at = at; level = base; need = 1; count = count; w = w }) (new_parts false (take base sorts) p)
  unfolding Below FitBelow parts_below parts_of all Every
  ahead_start at count w p e f = record {
    here = (false, p) ∷ [];
    below = [];
    many = refl;
    counts = refl;
    stand = e ∙ one_item false p rest;
    fit = (f, tt);
    fit_below = tt;
    come = sym (append-nil (new_parts false (take base sorts) p ++ []) ∙ append-nil (new_parts false (take base sorts) p));
  }

  module _ (s : PartWalk) (parts : List NewPart) (a : Ahead cells left sorts H m base rest s parts) where
    pub ahead_end : length cells ≤ s.at → 0 < s.need → ⊥
    ahead_end h k = items_end cells s.at h a.here (all encs a.below ++ rest) (omega (arith, a.many)) a.stand

    pub ahead_many : length cells < s.need → ⊥
    ahead_many h = omega (arith, items_many a.here, a.many, ap length a.stand, length-drop s.at cells, length-append (encs a.here) (all encs a.below ++ rest))

    -- nothing is left
    pub ahead_done : s.need ≡ 0 → s.level ≤ base → parts ≡ []
    unfolding parts_below parts_of all
    ahead_done z l = go a.here a.below a.many (below_many left base s.level a.below a.counts) a.come
      where
        go : (xs : List Item) (fs : List (List Item)) → s.need ≡ length xs → base + length fs ≡ s.level → parts ≡ parts_of sorts s.level xs ++ parts_below sorts s.level fs → parts ≡ []
        go [] [] p q e = e
        go [] (ys ∷ fs) p q e = absurd (omega arith)
        go (x ∷ xs) fs p q e = absurd (omega arith)

    -- one level up
    pub ahead_up : s.need ≡ 0 → base < s.level → Ahead cells left sorts H m base rest (record { at = s.at; level = s.level - 1; need = get_or left (s.level - 1) 0; count = s.count; w = s.w }) parts
    unfolding Below FitBelow parts_below parts_of encs all
    ahead_up z l = go a.here a.below a.many a.counts a.stand a.fit_below a.come
      where
        go : (xs : List Item) (fs : List (List Item)) → s.need ≡ length xs → Below left base s.level fs → drop s.at cells ≡ encs xs ++ (all encs fs ++ rest) → FitBelow H m s.level fs
            → parts ≡ parts_of sorts s.level xs ++ parts_below sorts s.level fs
            → Ahead cells left sorts H m base rest (record { at = s.at; level = s.level - 1; need = get_or left (s.level - 1) 0; count = s.count; w = s.w }) parts
        go (x ∷ xs) fs p c st f e = absurd (omega arith)
        go [] [] p c st f e = absurd (omega arith)
        go [] (ys ∷ fs) p c st f e = record {
          here = ys;
          below = fs;
          many = c.1.0;
          counts = c.1.1;
          stand = st ∙ append_assoc (encs ys) (all encs fs) rest;
          fit = f.0;
          fit_below = f.1;
          come = e;
        }

pub rises_none : (left : List ℕ) (base : ℕ) (s : PartWalk) → Rises left base s s
rises_none left base s cells sorts H m rest parts a = a

pub rises_up : (left : List ℕ) (base : ℕ) (s : PartWalk) (t : PartWalk) (need : ℕ) → Rises left base s t → t.need ≡ 0 → base < t.level → need ≡ get_or left (t.level - 1) 0
    → Rises left base s (record { at = t.at; level = t.level - 1; need = need; count = t.count; w = t.w })
rises_up left base s t need r z l e cells sorts H m rest parts a =
    subst (λ (k : ℕ). Ahead cells left sorts H m base rest (record { at = t.at; level = t.level - 1; need = k; count = t.count; w = t.w }) parts) (sym e)
    (ahead_up cells left sorts H m base rest t parts (r cells sorts H m rest parts a) z l)
