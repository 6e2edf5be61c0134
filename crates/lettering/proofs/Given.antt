-- The names of a right table's sorts, where its stream gives them and where the printer gave them; the names that are taken.
use mathlib.Core.Path.{◌≡◌, refl, sym, ap, ap₂, subst, ◌∙◌}
use mathlib.Core.List.{List, [], ◌∷◌, ◌++◌, map}
use mathlib.Core.Bool.{Bool, true, false}
use Prim.Native.Nat.{ℕ, zero, suc, ◌+◌, ◌*◌, ◌%◌, ◌≤◌, ◌<◌, min, max}
use native.Mathlib.Omega.{arith}
use lib.Dec.{eqb}
use lib.ListN.{length, get_or, take, set, replicate, length-append, length-replicate, length-map, length-set}
use lib.Seq.{get_or-take, get_or-set_same, get_or-set_other, ext_get_or}
use Rattle.pcrl.specs.Limits.{max_name, max_sorts, max_sort_name}
use Rattle.pcrl.specs.Text.{byte, decimal}
use Rattle.pcrl.specs.Tests.{Every}
use Rattle.pcrl.specs.Tokens.{run}
use Rattle.pcrl.specs.Lists.{tabulate}
use Rattle.pcrl.specs.Letters.{longest_run, letters, indexed, older_name, older_names}
use Rattle.pcrl.specs.Sheet.{Action, no_action, Sig, sort_name}
use Rattle.pcrl.specs.Table.{Layout, with_names, without_names, Table}
use Rattle.pcrl.specs.Stream.{encode_numbers, encode_action}
use Rattle.pcrl.specs.Right.{RightSizes, RightName, RightAction, action_names, RightSig, RightSortName, RightNames, RightTable}
use Rattle.pcrl.specs.Decode.{layout_by, names_by}
use Rattle.pcrl.specs.Printer.{taken}
use Rattle.laws.specs.Lists.{get_d_map, length_tabulate, get_d_tabulate}
use Rattle.laws.specs.Every.{every_at, every_map}
use Rattle.signature.specs.Reading.{names_there}
use Rattle.terms.specs.Stands.{Stands, list_at}
use Rattle.terms.proofs.Places.{stands_there, name_stands, list_is}
use Rattle.tables.specs.Indexed.{Indexed}
use Rattle.tables.specs.declared.Index.{Index}
use Rattle.texts.proofs.Decimals.{one_digit}
use Rattle.lettering.specs.SortNames.{name_cell, CellsIn, ShortNames, NamesIn}
use Rattle.lettering.specs.Named.{funcs_place, procs_place, vars_place, names_at, cells, older_by, name_by, once_more, Lettered}
use Rattle.lettering.proofs.Runs.{run_cons, name_at, names_many}
use Rattle.lettering.proofs.Cells.{cells_set}

-- RUNS

run_short : (p : ℕ → Bool) (l : List ℕ) → run p l ≤ length l
unfolding run
run_short p [] = omega arith
run_short p (b ∷ l) = by (p b) refl (run_short p l)
  where
    by : (t : Bool) → p b ≡ t → run p l ≤ length l → run p (b ∷ l) ≤ length (b ∷ l)
    by true e h = omega (arith, run_cons p b l true e)
    by false e h = omega (arith, run_cons p b l false e)

-- no run is longer than every name
longest_short : (b k : ℕ) (ns : List (List ℕ)) → Every (λ n. length n ≤ k) ns → longest_run b ns ≤ k
unfolding longest_run Every
longest_short b k [] h = omega arith
longest_short b k (n ∷ ns) h = omega (arith, run_short (eqb b) n, longest_short b k ns h.1, h.0)

longest_append : (b : ℕ) (ns ms : List (List ℕ)) → longest_run b (ns ++ ms) ≡ max (longest_run b ns) (longest_run b ms)
unfolding longest_run
longest_append b [] ms = omega arith
longest_append b (n ∷ ns) ms = let z = longest_append b ns ms in omega arith

by_place : (P : List ℕ → Type 0) (ns : List (List ℕ)) → ((i : ℕ) → i < length ns → P (get_or ns i [])) → Every P ns
unfolding Every
by_place P [] f = tt
by_place P (n ∷ ns) f = (f 0 (omega arith), by_place P ns (λ i h. f (suc i) (omega arith)))

-- cells by other names that are the same
pub cells_as : (f g : ℕ → List ℕ) (m n : ℕ) (out : List ℕ) → m ≡ n → ((D : ℕ) → D < n → f D ≡ g D) → CellsIn f m out → CellsIn g n out
cells_as f g m n out e same h D k = subst (λ (x : List ℕ). Stands out (name_cell * D) (encode_numbers x)) (same D k) (h D (omega arith))

-- THE NAMES OF A RIGHT TABLE

module _ (S : Sig) (ok : RightSig S) where
  few : length S.sorts ≤ max_sorts
  unfolding RightSig RightSizes
  few = ok.0.0.0.1

  acts_short : Every (λ n. length n ≤ max_name) (action_names S.acts)
  unfolding RightSig RightAction RightName action_names
  acts_short = every_map _ (λ (n : List ℕ). length n ≤ max_name) (λ (a : Action). a.name) (λ a r. r.0.0.0.1) S.acts ok.1.1.0.1

  run_few : (b : ℕ) → longest_run b (action_names S.acts) ≤ max_name
  run_few b = longest_short b max_name (action_names S.acts) acts_short

  older_short : (D : ℕ) → D < max_sorts → length (older_name (action_names S.acts) D) ≤ max_sort_name
  unfolding older_name indexed letters
  older_short zero h = omega arith
  older_short (suc D) h =
      let A = action_names S.acts in
      let n = suc (longest_run (byte "s") A) in
      omega (arith, run_few (byte "s"), length-append (replicate n (byte "s")) (decimal (suc D)), length-replicate n (byte "s"), ap length (sym (one_digit (suc D) (omega arith))))

  -- the printer's names, the letter repeated so many times
  older_is : (n D : ℕ) → n ≡ once_more (longest_run (byte "s") (action_names S.acts)) → D < max_sorts → older_by n D ≡ older_name (action_names S.acts) D
  unfolding older_by older_name indexed letters
  older_is n zero e h = refl
  older_is n (suc D) e h =
      let A = action_names S.acts in
      let z : suc D % 256 ≡ suc D = omega arith in
      let y : n ≡ suc (longest_run (byte "s") A) = omega (arith, run_few (byte "s")) in
      ap₂ (λ (m i : ℕ). replicate m (byte "s") ++ decimal i) y z

  older_at : RightNames without_names S → (D : ℕ) → D < length S.sorts → sort_name S D ≡ older_name (action_names S.acts) D
  unfolding RightNames older_names sort_name
  older_at h D k = ap (λ (l : List (List ℕ)). get_or l D []) h ∙ get_d_tabulate (length S.sorts) (older_name (action_names S.acts)) D [] k

  older_many : RightNames without_names S → length S.sort_names ≡ length S.sorts
  unfolding RightNames older_names
  older_many h = ap length h ∙ length_tabulate (length S.sorts) (older_name (action_names S.acts))

  named_many : RightNames with_names S → length S.sort_names ≡ length S.sorts
  unfolding RightNames
  named_many h = h.0.0

  named_short : RightNames with_names S → (D : ℕ) → D < length S.sorts → length (sort_name S D) ≤ max_sort_name
  unfolding RightNames RightSortName sort_name
  named_short h D k = let r = every_at RightSortName S.sort_names [] D h.0.1 (omega (arith, h.0.0)) in omega (arith, r.0.0.1)

  -- each fits its cell, and there is one for each sort
  pub names_short : (L : Layout) → RightNames L S → ShortNames (sort_name S) (length S.sorts)
  names_short with_names h D k = named_short h D k
  names_short without_names h D k = omega (arith, few, older_short D (omega (arith, few)), ap length (older_at h D k))

  pub names_count : (L : Layout) → RightNames L S → length S.sort_names ≡ length S.sorts
  names_count with_names h = named_many h
  names_count without_names h = older_many h

  -- THE LETTERS: the names that stand in cells, and those of the actions

  cell_at : (D : ℕ) → D < 8 → get_or cells D 0 ≡ name_cell * D
  unfolding tabulate
  cell_at D k = get_d_tabulate 8 (λ i. name_cell * i) D 0 k

  pub names_are : (L : Layout) → RightNames L S → (names : List ℕ) (m : ℕ) → m ≡ length S.sorts → NamesIn S names → names_at names cells m ≡ S.sort_names
  unfolding sort_name
  names_are L h names m e there = ext_get_or [] (names_at names cells m) S.sort_names (names_many names cells m ∙ e ∙ sym (names_count L h)) (λ D k. at D (omega (arith, names_many names cells m)))
    where
      at : (D : ℕ) → D < m → get_or (names_at names cells m) D [] ≡ get_or S.sort_names D []
      at D k = name_at names cells m D k ∙ ap (list_at names) (cell_at D (omega (arith, few))) ∙ list_is names (name_cell * D) (sort_name S D) (there D (omega arith))

  all_short : (L : Layout) → RightNames L S → Every (λ n. length n ≤ max_sort_name) S.sort_names
  unfolding sort_name
  all_short L h = by_place (λ n. length n ≤ max_sort_name) S.sort_names (λ i k. names_short L h i (omega (arith, names_count L h)))

  pub letter_is : (L : Layout) → RightNames L S → (b x y r : ℕ) → x ≡ longest_run b S.sort_names → y ≡ longest_run b (action_names S.acts) → r ≡ once_more (max x y) → r ≡ suc (longest_run b (taken S))
  unfolding taken
  letter_is L h b x y r ex ey er =
      let l = longest_short b max_sort_name S.sort_names (all_short L h) in
      omega (arith, run_few b, longest_append b S.sort_names (action_names S.acts))

-- WHAT AN INDEX GIVES

module _ (T : Table) (s : List ℕ) (index : Index) (right : RightTable T) (ix : Indexed T s index) where
  pub sig_right : RightSig T.sig
  unfolding RightTable
  sig_right = right.0.0

  pub names_right : RightNames T.layout T.sig
  unfolding RightTable
  names_right = right.2

  -- the names of the actions
  pub acts_are : names_at s index.acts index.actions ≡ action_names T.sig.acts
  unfolding action_names
  acts_are =
      let acts = T.sig.acts in
      let many = ix.actions_are in
      let names = names_many s index.acts index.actions in
      ext_get_or [] (names_at s index.acts index.actions) (map (λ (a : Action). a.name) acts) (names ∙ many ∙ sym (length-map acts (λ (a : Action). a.name))) (λ i k.
      let h : i < length acts = omega arith in
      let a = get_or acts i no_action in
      let there : Stands s (get_or index.acts i 0) (encode_action a) = subst (λ (p : ℕ). Stands s p (encode_action a)) (get_or-take index.actions index.acts i 0 (omega arith)) (stands_there encode_action s acts (take index.actions index.acts) ix.parts.acts_stand no_action i h) in
      name_at s index.acts index.actions i (omega arith) ∙ list_is s (get_or index.acts i 0) a.name (name_stands s (get_or index.acts i 0) a there) ∙ sym (get_d_map (λ (a : Action). a.name) acts i no_action [] h))

  -- how many times a letter is repeated, by the names that stand in cells and those of the actions
  abbrev repeats : ℕ → List ℕ → ℕ
  repeats b at = once_more (max (longest_run b (names_at at cells index.sort_count)) (longest_run b (names_at s index.acts index.actions)))

  -- the name of a sort
  pub given : (n : ℕ) → (index.named ≡ false → n ≡ once_more (longest_run (byte "s") (names_at s index.acts index.actions))) → (D : ℕ) → D < length T.sig.sorts
      → name_by index.named s (get_or index.sorts D 0) n D ≡ sort_name T.sig D
  unfolding names_there names_by layout_by name_by sort_name
  given n e D h = by index.named refl
    where
      S : Sig
      S = T.sig

      places : List ℕ
      places = take index.sort_count index.sorts

      named : index.named ≡ true → name_by true s (get_or index.sorts D 0) n D ≡ sort_name S D
      named t =
          let are : S.sort_names ≡ map (λ p. list_at s (p + 1)) places = ix.parts.names_are ∙ ap (λ (b : Bool). names_by (names_there b s places) S.sorts S.acts) t in
          let L : T.layout ≡ with_names = ix.parts.layout_is ∙ ap (λ (b : Bool). layout_by (names_there b s places)) t in
          let many = named_many S sig_right (subst (λ (x : Layout). RightNames x S) L names_right) in
          let long = length-map places (λ p. list_at s (p + 1)) in
          let count = ap length are in
          let below : D < length places = omega arith in
          sym (ap (λ (l : List (List ℕ)). get_or l D []) are ∙ get_d_map (λ p. list_at s (p + 1)) places D 0 [] below ∙ ap (λ (p : ℕ). list_at s (p + 1)) (get_or-take index.sort_count index.sorts D 0 (omega (arith, ix.sorts_are))))

      older : index.named ≡ false → name_by false s (get_or index.sorts D 0) n D ≡ sort_name S D
      older t =
          let L : T.layout ≡ without_names = ix.parts.layout_is ∙ ap (λ (b : Bool). layout_by (names_there b s places)) t in
          let small = few S sig_right in
          older_is S sig_right n D (e t ∙ ap (λ (l : List (List ℕ)). once_more (longest_run (byte "s") l)) acts_are) (omega arith) ∙ sym (older_at S sig_right (subst (λ (x : Layout). RightNames x S) L names_right) D h)

      by : (b : Bool) → index.named ≡ b → name_by index.named s (get_or index.sorts D 0) n D ≡ sort_name S D
      by true t = ap (λ (b : Bool). name_by b s (get_or index.sorts D 0) n D) t ∙ named t
      by false t = ap (λ (b : Bool). name_by b s (get_or index.sorts D 0) n D) t ∙ older t

  -- cells with the names that were given are those of the table's sorts
  pub given_in : (n : ℕ) (out : List ℕ) → (index.named ≡ false → n ≡ once_more (longest_run (byte "s") (names_at s index.acts index.actions)))
      → (ShortNames (λ D. name_by index.named s (get_or index.sorts D 0) n D) (min index.sort_count max_sorts) → CellsIn (λ D. name_by index.named s (get_or index.sorts D 0) n D) (min index.sort_count max_sorts) out)
      → NamesIn T.sig out
  given_in n out e cells =
      let S = T.sig in
      let small = few S sig_right in
      let count = ix.sorts_are in
      let short = names_short S sig_right T.layout names_right in
      cells_as (λ D. name_by index.named s (get_or index.sorts D 0) n D) (sort_name S) (min index.sort_count max_sorts) (length S.sorts) out (omega arith) (given n e) (cells (λ D k.
      let h : D < length S.sorts = omega arith in
      let f = short D h in
      let g = ap length (given n e D h) in
      omega arith))

  -- the letters behind them
  pub lettered : (at : List ℕ) (f p v : ℕ) → 155 ≤ length at → NamesIn T.sig at → f ≡ repeats (byte "f") at → p ≡ repeats (byte "p") at → v ≡ repeats (byte "v") at
      → Lettered T.sig (set (set (set at funcs_place f) procs_place p) vars_place v)
  lettered at f p v room names ef ep ev =
      let S = T.sig in
      let L = T.layout in
      let a = set at funcs_place f in
      let b = set a procs_place p in
      let la = length-set at funcs_place f in
      let lb = length-set a procs_place p in
      let small = few S sig_right in
      let short = names_short S sig_right L names_right in
      let count = ix.sorts_are in
      let are : (c r : ℕ) → r ≡ repeats c at → r ≡ suc (longest_run c (taken S)) = λ c r e.
      letter_is S sig_right L names_right c _ _ r (ap (longest_run c) (names_are S sig_right L names_right at index.sort_count count names)) (ap (longest_run c) acts_are) e in
      record {
        sorts_are = cells_set (sort_name S) (length S.sorts) b vars_place v small (omega arith) short
            (cells_set (sort_name S) (length S.sorts) a procs_place p small (omega arith) short
            (cells_set (sort_name S) (length S.sorts) at funcs_place f small (omega arith) short names));
        funcs_are = get_or-set_other b vars_place funcs_place v 0 (λ e. omega arith) ∙ get_or-set_other a procs_place funcs_place p 0 (λ e. omega arith) ∙ get_or-set_same at funcs_place f 0 (omega arith) ∙ are (byte "f") f ef;
        procs_are = get_or-set_other b vars_place procs_place v 0 (λ e. omega arith) ∙ get_or-set_same a procs_place p 0 (omega arith) ∙ are (byte "p") p ep;
        vars_are = get_or-set_same b vars_place v 0 (omega arith) ∙ are (byte "v") v ev;
      }
