-- The whole walk: steps one after another.
use mathlib.Core.Path.{◌≡◌, refl, sym, ap, subst, ◌∙◌}
use mathlib.Core.List.{List, [], ◌++◌, append_assoc, append-nil}
use mathlib.Core.Bool.{false}
use Prim.Native.Nat.{ℕ, ◌+◌, ◌-◌, ◌*◌, ◌≤◌, ◌<◌}
use native.Mathlib.Decide.{dec_lt}
use native.Mathlib.Omega.{arith}
use lib.ListN.{length, take, drop, get_or, length-append, get_or-append}
use lib.Seq.{get_or-append-add}
use Rattle.pcrl.specs.Reader.{all}
use Rattle.pcrl.specs.Sheet.{Proc, Sheet}
use Rattle.pcrl.specs.Parts.{NewPart, new_parts, count}
use Rattle.laws.specs.Written.{all_append}
use Rattle.nodes.specs.Layout.{enc}
use Rattle.nodes.specs.Scoped.{max_scope}
use Rattle.marking.specs.Marks.{bits}
use Rattle.std.specs.Prelude.{Option}
use Rattle.parts.specs.Behind.{PutsFrom}
use Rattle.parts.proofs.BehindLaws.{from_none, from_then, from_as}
use Rattle.parts.specs.declared.PartWalk.{PartWalk}
use Rattle.parts.specs.Rows.{row_width, no_part, params_bytes, RowOf, RowsKept, RowsOf}
use Rattle.parts.specs.Walking.{Fit, Ahead, Few, Onward, Steps, Rises, PartsPut, PutsParts}
use Rattle.parts.proofs.AheadLaws.{ahead_start, ahead_end, ahead_many, ahead_done}

-- a row that stays
pub row_kept : (cells rows rows' : List ℕ) (k l : ℕ) (x : NewPart) → RowsKept rows l rows' → k < l → RowOf cells rows k x → RowOf cells rows' k x
row_kept cells rows rows' k l x kept h r =
    let p = kept.below (row_width * k) (omega arith) in
    let b = kept.below (row_width * k + 2) (omega arith) in
    record {
      place = (r.place.0, ap (λ (j : ℕ). drop j cells) p ∙ r.place.1);
      scope = kept.below (row_width * k + 1) (omega arith) ∙ r.scope;
      marks_are = ap (bits (length x.scope)) b ∙ r.marks_are;
      count_is = ap (λ (j : ℕ). count (bits max_scope j)) b ∙ r.count_is;
    }

-- rows behind one another
pub rows_append : (cells rows rows' : List ℕ) (k l : ℕ) (xs ys : List NewPart) → l ≡ k + length xs → RowsKept rows l rows' → RowsOf cells rows k xs → RowsOf cells rows' l ys → RowsOf cells rows' k (xs ++ ys)
rows_append cells rows rows' k l xs ys e kept f g = record { each = each }
  where
    each : (j : ℕ) → j < length (xs ++ ys) → RowOf cells rows' (k + j) (get_or (xs ++ ys) j no_part)
    each j h = elim (dec_lt j (length xs)) [
      | yes a ↦ subst (λ (x : NewPart). RowOf cells rows' (k + j) x) (sym (get_or-append xs ys no_part j a)) (row_kept cells rows rows' (k + j) l (get_or xs j no_part) kept (omega arith) (f.each j a))
      | no a ↦
          let i : ℕ = j - length xs in
          let z : j ≡ length xs + i = omega arith in
          let y : l + i ≡ k + j = omega arith in
          let here : RowOf cells rows' (l + i) (get_or ys i no_part) = g.each i (omega (arith, length-append xs ys)) in
          let at : get_or ys i no_part ≡ get_or (xs ++ ys) j no_part = sym (ap (λ (n : ℕ). get_or (xs ++ ys) n no_part) z ∙ get_or-append-add xs ys i no_part) in
          subst (λ (n : ℕ). RowOf cells rows' n (get_or (xs ++ ys) j no_part)) y (subst (λ (x : NewPart). RowOf cells rows' (l + i) x) at here)
    ]

-- from one place of the walk to another, for a right side whose parameters are `base`
abbrev pub Walks : (cells : List ℕ) (base : ℕ) (left sorts rows o : List ℕ) → PartWalk → (left' sorts' rows' o' : List ℕ) → PartWalk → Type 0
Walks cells base left sorts rows o s left' sorts' rows' o' s' =
    (H : Sheet) (m : ℕ) (rest : List ℕ) (parts : List NewPart) → Few H cells → Ahead cells left sorts H m base rest s parts → Onward cells left sorts rows o s H m base rest parts left' sorts' rows' o' s'

pub walks_none : (cells : List ℕ) (base : ℕ) (left sorts rows o : List ℕ) (s : PartWalk) → Walks cells base left sorts rows o s left sorts rows o s
unfolding all
walks_none cells base left sorts rows o s H m rest parts few a = record {
  own = [];
  come = parts;
  whole = refl;
  ahead = a;
  count_is = omega arith;
  rows_of = λ room. record { each = λ j h. absurd (omega arith) };
  puts = from_none s.w o;
}

module _ (cells : List ℕ) (base : ℕ) (left sorts rows o : List ℕ) (s : PartWalk) (left₁ sorts₁ rows₁ o₁ : List ℕ) (s₁ : PartWalk) (w : Walks cells base left sorts rows o s left₁ sorts₁ rows₁ o₁ s₁) where
  -- a step more, and up to a level where something is left
  pub walks_more : (left₂ sorts₂ rows₂ o₂ : List ℕ) (s₂ s₃ : PartWalk) → length rows₁ ≡ length rows → Steps cells left₁ sorts₁ rows₁ o₁ s₁ left₂ sorts₂ rows₂ o₂ s₂ → RowsKept rows₁ s₁.count rows₂ → Rises left₂ base s₂ s₃
      → s₃.count ≡ s₂.count → s₃.w ≡ s₂.w → Walks cells base left sorts rows o s left₂ sorts₂ rows₂ o₂ s₃
  walks_more left₂ sorts₂ rows₂ o₂ s₂ s₃ size step kept rise ec ew H m rest parts few a =
      let f = w H m rest parts few a in
      let g = step H m base rest f.come few f.ahead in
      let fc = f.count_is in
      let gc = g.count_is in
      let many = length-append f.own g.own in
      record {
        own = f.own ++ g.own;
        come = g.come;
        whole = f.whole ∙ ap (λ (l : List NewPart). f.own ++ l) g.whole ∙ sym (append_assoc f.own g.own g.come);
        ahead = rise cells sorts₂ H m rest g.come g.ahead;
        count_is = omega arith;
        rows_of = λ room. rows_append cells rows₁ rows₂ s.count s₁.count f.own g.own fc kept (f.rows_of (omega arith)) (g.rows_of (omega arith));
        puts =
            subst (λ (v : Option ℕ). PutsFrom (all params_bytes (f.own ++ g.own)) s.w o v o₂) (sym ew)
            (from_as s.w o s₂.w o₂ (sym (all_append params_bytes f.own g.own)) (from_then (all params_bytes f.own) (all params_bytes g.own) o o₁ o₂ s.w s₁.w s₂.w f.puts g.puts));
      }

-- THE PARTS OF A RIGHT SIDE
module _ (cells : List ℕ) (at base k : ℕ) (w : Option ℕ) (left sorts rows o left₁ sorts₁ rows₁ o₁ : List ℕ) (s₁ : PartWalk)
    (walks : Walks cells base left sorts rows o (record { at = at; level = base; need = 1; count = k; w = w }) left₁ sorts₁ rows₁ o₁ s₁) where
  gone : (H : Sheet) (m : ℕ) (p : Proc) (rest : List ℕ) → Few H cells → drop at cells ≡ enc false p ++ rest → Fit H m base p
      → Onward cells left sorts rows o (record { at = at; level = base; need = 1; count = k; w = w }) H m base rest (new_parts false (take base sorts) p) left₁ sorts₁ rows₁ o₁ s₁
  gone H m p rest few e f = walks H m rest (new_parts false (take base sorts) p) few (ahead_start cells left sorts H m base rest at k w p e f)

  pub walk_end : 0 < s₁.need → length cells ≤ s₁.at → PutsParts cells sorts rows at base k w o s₁ rows₁ o₁
  walk_end n h H m p rest few e f = let g = gone H m p rest few e f in absurd (ahead_end cells left₁ sorts₁ H m base rest s₁ g.come g.ahead h n)

  pub walk_many : length cells < s₁.need → PutsParts cells sorts rows at base k w o s₁ rows₁ o₁
  walk_many h H m p rest few e f = let g = gone H m p rest few e f in absurd (ahead_many cells left₁ sorts₁ H m base rest s₁ g.come g.ahead h)

  pub walk_done : s₁.need ≡ 0 → s₁.level ≤ base → PutsParts cells sorts rows at base k w o s₁ rows₁ o₁
  walk_done z l H m p rest few e f =
      let g = gone H m p rest few e f in
      let parts = new_parts false (take base sorts) p in
      let none = ahead_done cells left₁ sorts₁ H m base rest s₁ g.come g.ahead z l in
      let all_own : parts ≡ g.own = g.whole ∙ ap (λ (x : List NewPart). g.own ++ x) none ∙ append-nil g.own in
      subst (λ (x : List NewPart). PartsPut cells rows k w o x s₁.count s₁.w rows₁ o₁) (sym all_own) (record { count_is = g.count_is; rows_of = g.rows_of; puts = g.puts })
