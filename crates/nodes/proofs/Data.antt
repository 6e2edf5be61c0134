-- Data terms in cells: the reader of a node, and the walk past some terms, a loop over what is left of them.
use mathlib.Core.Path.{◌≡◌, refl, sym, ap, ◌∙◌, subst}
use mathlib.Core.List.{List, [], ◌∷◌, ◌++◌}
use Prim.Native.Nat.{ℕ, ◌+◌, ◌-◌, ◌*◌, ◌/◌, ◌%◌, ◌<◌, ◌≤◌}
use native.Mathlib.Omega.{arith}
use lib.ListN.{length, drop, get_or, length-append, length-drop}
use Rattle.pcrl.specs.Sheet.{Data, val, var, app, list_of}
use Rattle.nodes.specs.declared.Datum.{Datum}
use Rattle.nodes.specs.Layout.{function_tag, enc_data, enc_datas}
use Rattle.nodes.specs.Nodes.{data_tag, data_number, data_kids, data_count, open_data}
use Rattle.nodes.specs.Views.{DataViews, SkipsData}
use Rattle.nodes.proofs.Cells.{read_cell}

-- The node that is read: k is its first cell, c its second.
module _ (s : List ℕ) (at k : ℕ) (first : k ≡ get_or s at 0) where
  first_cell : (d : Data) (ds : List Data) (rest : List ℕ) → drop at s ≡ enc_datas (d ∷ ds) ++ rest
      → (k ≡ 4 * data_number d + data_tag d) × (drop (at + 1) s ≡ (data_count d ++ enc_datas (data_kids d ++ ds)) ++ rest)
  first_cell d ds rest e =
      let v = read_cell s at (4 * data_number d + data_tag d) ((data_count d ++ enc_datas (data_kids d ++ ds)) ++ rest) (e ∙ ap (λ (l : List ℕ). l ++ rest) (open_data d ds)) in
      (first ∙ v.0, v.1)

  -- a value or a variable
  pub leaf_opened : (k % 4 ≡ function_tag → ⊥) → DataViews s at (record { tag = k % 4; number = k / 4; kids = 0; next = at + 1 })
  unfolding data_tag data_number data_kids data_count
  leaf_opened other (val v) ds rest e =
      let h = first_cell (val v) ds rest e in let z = h.0 in
      record { tag_is = omega arith; number_is = omega arith; kids_is = refl; next_is = h.1 }
  leaf_opened other (var i) ds rest e =
      let h = first_cell (var i) ds rest e in let z = h.0 in
      record { tag_is = omega arith; number_is = omega arith; kids_is = refl; next_is = h.1 }
  leaf_opened other (app f es) ds rest e = let z = (first_cell (app f es) ds rest e).0 in absurd (other (omega arith))

  -- a function
  pub function_opened : (c : ℕ) → k % 4 ≡ function_tag → c ≡ get_or s (at + 1) 0 → DataViews s at (record { tag = k % 4; number = k / 4; kids = c; next = at + 2 })
  unfolding data_tag data_number data_kids data_count
  function_opened c is second (val v) ds rest e = let z = (first_cell (val v) ds rest e).0 in absurd (omega arith)
  function_opened c is second (var i) ds rest e = let z = (first_cell (var i) ds rest e).0 in absurd (omega arith)
  function_opened c is second (app f es) ds rest e =
      let h = first_cell (app f es) ds rest e in let z = h.0 in
      let v = read_cell s (at + 1) (length (list_of es)) (enc_datas (list_of es ++ ds) ++ rest) h.1 in
      let y : at + 1 + 1 ≡ at + 2 = omega arith in
      record { tag_is = omega arith; number_is = omega arith; kids_is = second ∙ v.0; next_is = subst (λ (p : ℕ). drop p s ≡ enc_datas (list_of es ++ ds) ++ rest) y v.1 }

-- each data term has a cell
data_cells : (d : Data) → 1 ≤ length (enc_data d)
unfolding enc_data
data_cells (val v) = omega arith
data_cells (var i) = omega arith
data_cells (app f ds) = omega arith

datas_cells : (ds : List Data) → length ds ≤ length (enc_datas ds)
unfolding enc_datas
datas_cells [] = omega arith
datas_cells (d ∷ ds) = simp length-append (omega (arith, data_cells d, datas_cells ds))

-- no more terms are left than cells
pub datas_inside : (s : List ℕ) (p : ℕ) (es : List Data) (rest : List ℕ) → drop p s ≡ enc_datas es ++ rest → length es + p ≤ length s + (p - length s)
datas_inside s p es rest e =
    let a : length s - p ≡ length (enc_datas es) + length rest = sym (length-drop p s) ∙ ap length e ∙ length-append (enc_datas es) rest in
    omega (arith, datas_cells es)

-- What is left of the terms ds at p, of which there were n at `at`.
abbrev pub DataLeft : List ℕ → ℕ → ℕ → ℕ → ℕ → Type 0
DataLeft s at n p need =
    (ds : List Data) (rest : List ℕ) → length ds ≡ n → drop at s ≡ enc_datas ds ++ rest → (es : List Data) × (length es ≡ need) × (drop p s ≡ enc_datas es ++ rest)

module _ (s : List ℕ) (at n p need : ℕ) (left : DataLeft s at n p need) where
  pub data_stuck : length s ≤ p → 0 < need → (r : ℕ) → SkipsData s at n r
  data_stuck h k r ds rest l e = let v = left ds rest l e in absurd (omega (arith, v.1, datas_inside s p v.0 rest v.2))

  pub data_many : p < length s → length s < need → (r : ℕ) → SkipsData s at n r
  data_many h k r ds rest l e = let v = left ds rest l e in absurd (omega (arith, v.1, datas_inside s p v.0 rest v.2))

  pub data_done : need ≡ 0 → SkipsData s at n p
  unfolding enc_datas
  data_done z ds rest l e = go (left ds rest l e).0 (left ds rest l e).1 (left ds rest l e).2
    where
      go : (es : List Data) → length es ≡ need → drop p s ≡ enc_datas es ++ rest → drop p s ≡ rest
      go [] a b = b
      go (x ∷ es) a b = absurd (omega arith)

  pub data_step : 0 < need → (d : Datum) → DataViews s p d → DataLeft s at n d.next (need - 1 + d.kids)
  data_step k d vw ds rest l e = go (left ds rest l e).0 (left ds rest l e).1 (left ds rest l e).2
    where
      go : (es : List Data) → length es ≡ need → drop p s ≡ enc_datas es ++ rest → (es : List Data) × (length es ≡ need - 1 + d.kids) × (drop d.next s ≡ enc_datas es ++ rest)
      go [] a b = absurd (omega arith)
      go (x ∷ es) a b =
          let o = vw x es rest b in
          (data_kids x ++ es, rw (length-append (data_kids x) es, ← o.kids_is) (omega arith), o.next_is)
