-- The equations of a sheet's table: the written processes, and behind them the parts; and the lists of their parameters.
use mathlib.Core.Path.{◌≡◌, refl, sym, ap, ap₂, ◌∙◌}
use mathlib.Core.List.{List, [], ◌∷◌, ◌++◌, map, append_assoc}
use Prim.Native.Nat.{ℕ, zero, suc, ◌+◌, ◌*◌, ◌%◌, ◌<◌}
use native.Mathlib.Nat.{mod-eq_of_lt}
use native.Mathlib.Omega.{arith}
use lib.ListN.{length, get_or, length-map, length-append}
use Rattle.pcrl.specs.Reader.{all}
use Rattle.pcrl.specs.Sheet.{Process, Sheet, no_process, params}
use Rattle.pcrl.specs.Lists.{tabulate}
use Rattle.pcrl.specs.Parts.{NewPart, all_new_parts, Kind, written, part, kind_new, kind_in, kind}
use Rattle.pcrl.specs.Table.{Equation, params_of}
use Rattle.pcrl.specs.Blocks.{concatenated}
use Rattle.pcrl.specs.Stream.{encode_numbers, encode_list}
use Rattle.pcrl.specs.Heads.{equation_of, table_of}
use Rattle.laws.specs.Written.{all_append}
use Rattle.laws.specs.Tabulated.{tabulate_alike, map_tabulate}
use Rattle.codec.specs.Cut.{concatenated_alike}
use Rattle.nodes.specs.declared.Outline.{Outline}
use Rattle.nodes.specs.Layout.{byte_limit}
use Rattle.nodes.specs.Held.{proc_width}
use Rattle.std.specs.Prelude.{Option, Some, ◌≤◌}
use Rattle.emit.specs.Putting.{Puts}
use Rattle.pcrl.specs.Limits.{max_equations}
use Rattle.emit.specs.Bytes.{row_bytes}
use Rattle.parts.proofs.BehindLaws.{from_as, from_then}
use Rattle.emit.proofs.Signed.{concatenated_all, row_is}
use Rattle.parts.specs.declared.Noted.{Noted}
use Rattle.parts.specs.Rows.{no_part, part_params, params_bytes}
use Rattle.parts.specs.Behind.{PutsFrom}
use Rattle.parts.specs.Sheets.{Placed, PutsAll, front_bytes, all_params, PutsParams}

-- ---- lists by their places
module _ {A : Type 0} where
  tabulate_append : (a b : ℕ) (f : ℕ → A) → tabulate (a + b) f ≡ tabulate a f ++ tabulate b (λ j. f (a + j))
  unfolding tabulate
  tabulate_append zero b f =
      let x : 0 + b ≡ b = omega arith in
      ap (λ (n : ℕ). tabulate n f) x ∙ tabulate_alike b f (λ j. f (0 + j)) (λ j h. let y : j ≡ 0 + j = omega arith in ap f y)
  tabulate_append (suc a) b f =
      let x : suc a + b ≡ suc (a + b) = omega arith in
      ap (λ (n : ℕ). tabulate n f) x
      ∙ ap (λ (l : List A). f zero ∷ l)
      (tabulate_append a b (λ i. f (suc i))
      ∙ ap (λ (l : List A). tabulate a (λ i. f (suc i)) ++ l) (tabulate_alike b (λ j. f (suc (a + j))) (λ j. f (suc a + j)) (λ j h. let y : suc (a + j) ≡ suc a + j = omega arith in ap f y)))

  list_tabulate : {B : Type 0} (g : A → B) (l : List A) (d : A) → tabulate (length l) (λ i. g (get_or l i d)) ≡ map g l
  unfolding tabulate
  list_tabulate g [] d = refl
  list_tabulate {B} g (a ∷ l) d = ap (λ (m : List B). g a ∷ m) (list_tabulate g l d)

map_append : {A B : Type 0} (g : A → B) (l m : List A) → map g (l ++ m) ≡ map g l ++ map g m
map_append g [] m = refl
map_append {A} {B} g (a ∷ l) m = ap (λ (k : List B). g a ∷ k) (map_append g l m)

-- ---- what an equation number stands for
kind_written : (ps : List Process) (xs : List NewPart) (e : ℕ) → e < length ps → kind_in ps xs e ≡ written
unfolding kind_in
kind_written [] xs e h = absurd (omega arith)
kind_written (p ∷ ps) xs zero h = refl
kind_written (p ∷ ps) xs (suc e) h = kind_written ps xs e (omega arith)

pub kind_part : (ps : List Process) (xs : List NewPart) (j : ℕ) → j < length xs → kind_in ps xs (length ps + j) ≡ part (get_or xs j no_part)
unfolding kind_in kind_new
kind_part [] xs j h = let z : 0 + j ≡ j = omega arith in ap (kind_new xs) z ∙ new xs j h
  where
    new : (xs : List NewPart) (j : ℕ) → j < length xs → kind_new xs j ≡ part (get_or xs j no_part)
    new [] j h = absurd (omega arith)
    new (x ∷ xs) zero h = refl
    new (x ∷ xs) (suc j) h = new xs j (omega arith)
kind_part (p ∷ ps) xs j h = let z : suc (length ps) + j ≡ suc (length ps + j) = omega arith in ap (kind_in (p ∷ ps) xs) z ∙ kind_part ps xs j h

-- THE EQUATIONS: first the written processes, then the parts
pub equations_are : (H : Sheet) → (table_of H).equations
    ≡ tabulate (length H.procs) (λ e. equation_of H written e) ++ tabulate (length (all_new_parts H.procs)) (λ j. equation_of H (part (get_or (all_new_parts H.procs) j no_part)) (length H.procs + j))
unfolding table_of kind
equations_are H =
    let a = length H.procs in
    let b = length (all_new_parts H.procs) in
    tabulate_append a b (λ e. equation_of H (kind H e) e)
    ∙ ap₂ (λ (l m : List Equation). l ++ m)
    (tabulate_alike a (λ e. equation_of H (kind H e) e) (λ e. equation_of H written e) (λ e h. ap (λ (k : Kind). equation_of H k e) (kind_written H.procs (all_new_parts H.procs) e h)))
    (tabulate_alike b (λ j. equation_of H (kind H (a + j)) (a + j)) (λ j. equation_of H (part (get_or (all_new_parts H.procs) j no_part)) (a + j)) (λ j h. ap (λ (k : Kind). equation_of H k (a + j)) (kind_part H.procs (all_new_parts H.procs) j h)))

-- THE LISTS OF PARAMETERS
pub params_are : (H : Sheet) → params_of (table_of H).equations ≡ all_params H
unfolding params_of all_params equation_of params part_params
params_are H =
    let g : Equation → List ℕ = λ e. e.params in
    let a = length H.procs in
    let b = length (all_new_parts H.procs) in
    let f₁ : ℕ → Equation = λ e. equation_of H written e in
    let f₂ : ℕ → Equation = λ j. equation_of H (part (get_or (all_new_parts H.procs) j no_part)) (a + j) in
    ap (map g) (equations_are H)
    ∙ map_append g (tabulate a f₁) (tabulate b f₂)
    ∙ ap₂ (λ (l m : List (List ℕ)). l ++ m)
    (map_tabulate g a f₁ ∙ list_tabulate (λ (p : Process). p.params) H.procs no_process)
    (map_tabulate g b f₂ ∙ list_tabulate part_params (all_new_parts H.procs) no_part)

pub all_map : {A B : Type 0} (w : B → List ℕ) (g : A → B) (l : List A) → all w (map g l) ≡ all (λ a. w (g a)) l
unfolding all
all_map w g [] = refl
all_map w g (a ∷ l) = ap (λ (m : List ℕ). w (g a) ++ m) (all_map w g l)

-- what is put: the count, the rows of the written processes, the parameters of the parts
lists_are : (procs cells starts : List ℕ) (n : Outline) (total b : ℕ) (H : Sheet) → Placed H procs cells starts n → total ≡ length H.procs + length (all_new_parts H.procs) → total ≤ max_equations → b ≡ total % byte_limit
    → (b ∷ []) ++ (concatenated n.procs (λ k. row_bytes procs (proc_width * k)) ++ all params_bytes (all_new_parts H.procs)) ≡ encode_list encode_numbers (params_of (table_of H).equations)
unfolding encode_list all_params params_bytes
lists_are procs cells starts n total b H placed et few eb =
    let c = placed.held.proc_count in
    let parts = all_new_parts H.procs in
    let lists = all_params H in
    let many : length lists ≡ total = length-append (map (λ (y : Process). y.params) H.procs) (map part_params parts) ∙ ap₂ ◌+◌ (length-map H.procs (λ (y : Process). y.params)) (length-map parts part_params) ∙ sym et in
    let byte : b ≡ length lists = eb ∙ mod-eq_of_lt (omega arith) ∙ sym many in
    let rows_are : concatenated n.procs (λ k. row_bytes procs (proc_width * k)) ≡ all encode_numbers (map (λ (y : Process). y.params) H.procs) =
    concatenated_alike n.procs (λ k. row_bytes procs (proc_width * k)) (λ k. encode_numbers (get_or H.procs k no_process).params) (λ k l. row_is (get_or H.procs k no_process).params procs (proc_width * k) (placed.held.proc_at k l).params)
    ∙ ap (λ (k : ℕ). concatenated k (λ i. encode_numbers (get_or H.procs i no_process).params)) c
    ∙ concatenated_all (λ (y : Process). encode_numbers y.params) no_process H.procs
    ∙ sym (all_map encode_numbers (λ (y : Process). y.params) H.procs) in
    let parts_are : all params_bytes parts ≡ all encode_numbers (map part_params parts) = sym (all_map encode_numbers part_params parts) in
    ap₂ (λ (y : ℕ) (l : List ℕ). (y ∷ []) ++ l) byte (ap₂ (λ (l m : List ℕ). l ++ m) rows_are parts_are ∙ sym (all_append encode_numbers (map (λ (y : Process). y.params) H.procs) (map part_params parts)))
    ∙ ap (encode_list encode_numbers) (sym (params_are H))

pub params_put : (procs cells starts : List ℕ) (n : Outline) (total : ℕ) (rows : List ℕ) (w : ℕ) (o : List ℕ) (x : Option ℕ) (q : List ℕ) (r : Noted) (rows' o' : List ℕ)
    → Puts (front_bytes procs n.procs total) w o x q → PutsAll procs cells starts n rows x q r rows' o' → PutsParams procs cells starts n total rows w o r rows' o'
params_put procs cells starts n total rows w o x q r rows' o' f h H placed et few room =
    let rest = h H placed (omega arith) in
    let rows_at = concatenated n.procs (λ k. row_bytes procs (proc_width * k)) in
    let first : PutsFrom (front_bytes procs n.procs total) (Some w) o x q = f in
    let whole = append_assoc (total % byte_limit ∷ []) rows_at (all params_bytes (all_new_parts H.procs)) ∙ lists_are procs cells starts n total (total % byte_limit) H placed et few refl in
    record { count_is = rest.count_is; rows_of = rest.rows_of; puts = from_as (Some w) o r.w o' whole (from_then (front_bytes procs n.procs total) (all params_bytes (all_new_parts H.procs)) o q o' (Some w) x r.w first rest.puts) }
