-- Process terms in cells: the reader of a node, and the walk past a term.
use mathlib.Core.Path.{◌≡◌, refl, sym, ap, ◌∙◌}
use mathlib.Core.List.{List, [], ◌∷◌, ◌++◌, append_assoc}
use mathlib.Core.Bool.{Bool}
use Prim.Native.Nat.{ℕ, zero, suc, ◌+◌, ◌-◌, ◌/◌, ◌%◌, ◌<◌, ◌≤◌}
use native.Mathlib.Omega.{arith}
use lib.ListN.{length, drop, get_or, length-append}
use lib.Seq.{drop-append_seam, drop-drop}
use Rattle.pcrl.specs.Sheet.{Data, Proc}
use Rattle.pcrl.specs.Parts.{new_count}
use Rattle.nodes.specs.declared.Node.{Node}
use Rattle.nodes.specs.declared.Skipped.{Skipped}
use Rattle.nodes.specs.Layout.{first_cell, enc_datas, Item, enc, encs}
use Rattle.nodes.specs.Nodes.{kind_of, node_own, node_number, node_datas, node_kids, open_node, node_arity, kind_small, own_small}
use Rattle.nodes.specs.Views.{Views, Skips}
use Rattle.nodes.proofs.Cells.{cons_inside, read_cell}
use Rattle.nodes.proofs.NewParts.{new_all, new_open}

-- no data terms take no cells
no_cells : (ds : List Data) → length ds ≡ 0 → length (enc_datas ds) ≡ 0
unfolding enc_datas
no_cells [] e = refl
no_cells (d ∷ ds) e = absurd (omega arith)

-- the node that is read
pub opened : (s : List ℕ) (at next k n : ℕ) → k ≡ get_or s at 0 → n ≡ get_or s (at + 2) 0 → (n ≡ 0 → next ≡ at + 3) → (0 < n → next ≡ at + 3 + get_or s (at + 1) 0)
    → Views s at (record { kind = k % 16; own = k / 16 % 2; number = k / 32; terms = at + 3; datas = n; kids = k % 4; next = next })
opened s at next k n ek ed none some b p xs rest e =
    let tl = enc_datas (node_datas p) ++ encs (node_kids b p ++ xs) in
    let e₀ = read_cell s at (first_cell (node_number p) (node_own b p) (kind_of p)) (length (enc_datas (node_datas p)) ∷ length (node_datas p) ∷ (tl ++ rest)) (e ∙ ap (λ (l : List ℕ). l ++ rest) (open_node b p xs)) in
    let e₁ = read_cell s (at + 1) (length (enc_datas (node_datas p))) (length (node_datas p) ∷ (tl ++ rest)) e₀.1 in
    let z : at + 1 + 1 ≡ at + 2 = omega arith in
    let e₂ = read_cell s (at + 2) (length (node_datas p)) (tl ++ rest) (ap (λ (k : ℕ). drop k s) (sym z) ∙ e₁.1) in
    let y : at + 2 + 1 ≡ at + 3 = omega arith in
    let e₃ : drop (at + 3) s ≡ enc_datas (node_datas p) ++ (encs (node_kids b p ++ xs) ++ rest) = ap (λ (k : ℕ). drop k s) (sym y) ∙ e₂.1 ∙ append_assoc (enc_datas (node_datas p)) (encs (node_kids b p ++ xs)) rest in
    record {
      kind_is = omega (arith, e₀.0, kind_small p);
      own_is = omega (arith, e₀.0, kind_small p, own_small b p);
      number_is = omega (arith, e₀.0, kind_small p, own_small b p);
      datas_is = ed ∙ e₂.0;
      terms_are = e₃;
      kids_is = omega (arith, e₀.0, node_arity b p);
      next_is = ap (λ (k : ℕ). drop k s) (behind n refl e₁.0 (ed ∙ e₂.0)) ∙ sym (drop-drop (length (enc_datas (node_datas p))) (at + 3) s) ∙ ap (drop (length (enc_datas (node_datas p)))) e₃ ∙ drop-append_seam (enc_datas (node_datas p)) _;
    }
  where
    behind : (m : ℕ) → n ≡ m → get_or s (at + 1) 0 ≡ length (enc_datas (node_datas p)) → n ≡ length (node_datas p) → next ≡ at + 3 + length (enc_datas (node_datas p))
    behind zero z f g = omega (arith, none z, no_cells (node_datas p) (sym g ∙ z))
    behind (suc m) z f g = omega (arith, some (omega arith), f)

-- one term is a list of terms
pub one_item : (b : Bool) (p : Proc) (rest : List ℕ) → enc b p ++ rest ≡ encs ((b, p) ∷ []) ++ rest
unfolding encs
one_item b p rest = rw append_assoc

-- where a term stands there are cells
pub items_end : (s : List ℕ) (p : ℕ) → length s ≤ p → (xs : List Item) (rest : List ℕ) → 0 < length xs → drop p s ≡ encs xs ++ rest → ⊥
items_end s p h [] rest l e = omega arith
items_end s p h ((b, q) ∷ xs) rest l e =
    omega (arith, cons_inside s p (first_cell (node_number q) (node_own b q) (kind_of q)) _ (e ∙ ap (λ (l : List ℕ). l ++ rest) (open_node b q xs)))

-- What is left of a term: terms that stand at p, as many as `need`; n is the count of new equations passed.
abbrev pub SkipLeft : List ℕ → ℕ → ℕ → ℕ → ℕ → Type 0
SkipLeft s at p need n =
    (b : Bool) (q : Proc) (rest : List ℕ) → drop at s ≡ enc b q ++ rest → (xs : List Item) × (length xs ≡ need) × (drop p s ≡ encs xs ++ rest) × (n + new_all xs ≡ new_count b q)

pub skip_start : (s : List ℕ) (at : ℕ) → SkipLeft s at at 1 0
unfolding new_all
skip_start s at b q rest e = ((b, q) ∷ [], refl, e ∙ one_item b q rest, omega arith)

module _ (s : List ℕ) (at p need n : ℕ) (left : SkipLeft s at p need n) where
  pub skip_stuck : length s ≤ p → 0 < need → (r : Skipped) → Skips s at r
  skip_stuck h k r b q rest e = let v = left b q rest e in absurd (items_end s p h v.0 rest (omega (arith, v.1)) v.2)

  pub skip_done : need ≡ 0 → Skips s at (record { next = p; own = n })
  unfolding encs new_all
  skip_done z b q rest e = go (left b q rest e).0 (left b q rest e).1 (left b q rest e).2 (left b q rest e).3
    where
      go : (xs : List Item) → length xs ≡ need → drop p s ≡ encs xs ++ rest → n + new_all xs ≡ new_count b q → (n ≡ new_count b q) × (drop p s ≡ rest)
      go [] a f g = (omega arith, f)
      go (x ∷ xs) a f g = absurd (omega arith)

  pub skip_step : 0 < need → (d : Node) → Views s p d → SkipLeft s at d.next (need - 1 + d.kids) (n + d.own)
  skip_step k d vw b q rest e = go (left b q rest e).0 (left b q rest e).1 (left b q rest e).2 (left b q rest e).3
    where
      go : (xs : List Item) → length xs ≡ need → drop p s ≡ encs xs ++ rest → n + new_all xs ≡ new_count b q
          → (xs : List Item) × (length xs ≡ need - 1 + d.kids) × (drop d.next s ≡ encs xs ++ rest) × (n + d.own + new_all xs ≡ new_count b q)
      go [] a f g = absurd (omega arith)
      go ((b', x) ∷ xs) a f g =
          let o = vw b' x xs rest f in
          (node_kids b' x ++ xs, rw (length-append (node_kids b' x) xs, ← o.kids_is) (omega arith), o.next_is, omega (arith, new_open b' x xs, o.own_is))
