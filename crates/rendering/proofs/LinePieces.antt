-- Lines are rendered as their texts, and so is the whole sheet: `table_text` is `sheet_text`.
use Rattle.std.specs.Prelude.{◌≡◌, Bool, true, false, T, eqb, ltb, length, drop, get_or}
use Rattle.std.proofs.Math.Path.{refl, subst}
use Rattle.std.proofs.Common.{sym, ap, ◌∙◌, arith, ltb-true}
use mathlib.Core.List.{List, [], ◌∷◌, ◌++◌, map, append_assoc, append-nil}
use Prim.Native.Nat.{ℕ, zero, suc, ◌+◌, ◌/◌, ◌%◌, ◌≤◌, ◌<◌}
use Prim.Native.String.{String}
use Rattle.std.proofs.Math.Decide.{ℕ_discrete}
use Rattle.pcrl.specs.Limits.{max_size}
use Rattle.pcrl.specs.Text.{bytes, byte, digits, decimal}
use Rattle.pcrl.specs.Tests.{or, same?, among, Every, Each}
use Rattle.pcrl.specs.Bytes.{letter, digit, name_byte}
use Rattle.pcrl.specs.Tokens.{Token, name, numeral, the, words}
use Rattle.pcrl.specs.Reader.{all}
use Rattle.pcrl.specs.Tree.{RawData, Atom}
use Rattle.pcrl.specs.Sheet.{Func, Action, Sig, sort_name}
use Rattle.pcrl.specs.Table.{Equation, Table}
use Rattle.pcrl.specs.Print.{bracketed, joined, print_data, line, print_lines, print_sorts, print_values, print_sort, print_func, print_takes, print_act, print_param, print_params, print_proc, print_init, print_sheet}
use Rattle.pcrl.specs.Render.{blank_byte, write, render}
use Rattle.pcrl.specs.Letters.{letters, indexed}
use Rattle.pcrl.specs.Printer.{numbered, atom_shown, as_data, taken, func_name, proc_name, var_name, sort_line_of, func_line_of, act_line_of, param_of, proc_line_of, init_line_of, printed, table_text}
use Rattle.laws.specs.Tests.{is_true, eqb_other}
use Rattle.laws.specs.Every.{every_of_all, every_append, every_get_or, every_weaken}
use Rattle.grammar.specs.Spelled.{Spelled, spelled}
use Rattle.rendering.specs.Rendering.{Avoids, Marked, Unequal, name_before}
use Rattle.rendering.specs.Pieces.{Renders, RendersAll, all_bytes, nothing, token, joins, mark, closed, equated, word, nothing_all, joins_all}
use Rattle.rendering.proofs.DataPieces.{bracketed_renders, named_renders}
use Rattle.rendering.proofs.TermPieces.{right_renders, right_unequal}
use Rattle.rendering.specs.Texts.{joined_text, bracketed_text, takes_text, sort_line_text, func_line_text, taken_text, act_line_text, param_text, proc_line_text, init_line_text, concat, sheet_text}
use Rattle.rendering.specs.LinePieces.{Spellable}

-- R at each place of two lists that are made of one
pub each_mapped : {A B C : Type 0} (R : B → C → Type 0) (f : A → B) (g : A → C) → ((a : A) → R (f a) (g a)) → (l : List A) → Each R (map f l) (map g l)
unfolding Each
each_mapped R f g h [] = tt
each_mapped R f g h (a ∷ l) = (h a, each_mapped R f g h l)

pub each_numbered : {A B C : Type 0} (R : B → C → Type 0) (f : ℕ → A → B) (g : ℕ → A → C) → ((i : ℕ) (a : A) → R (f i a) (g i a)) → (i : ℕ) (l : List A) → Each R (numbered f i l) (numbered g i l)
unfolding Each numbered
each_numbered R f g h i [] = tt
each_numbered R f g h i (a ∷ l) = (h i a, each_numbered R f g h (suc i) l)

-- pieces with a mark between any two
pub joined_renders : {A : Type 0} (s : String) (w : A → List Token) → among (bytes s) (bytes "=" ∷ words) ≡ false → name_byte (get_or (bytes s) 0 0) ≡ false → (l : List A) (ts : List (List ℕ)) → Each (λ a t. Renders (w a) t) l ts → Renders (joined s w l) (joined_text (bytes s) ts)
unfolding Each joined joined_text Avoids write
joined_renders s w e k [] [] g = nothing
joined_renders s w e k [] (t ∷ ts) g = absurd g
joined_renders s w e k (a ∷ l) [] g = absurd g
joined_renders s w e k (a ∷ []) (t ∷ []) g = g.0
joined_renders s w e k (a ∷ []) (t ∷ u ∷ ts) g = absurd g.1
joined_renders s w e k (a ∷ b ∷ l) (t ∷ []) g = absurd g.1
joined_renders s w e k (a ∷ b ∷ l) (t ∷ u ∷ ts) g = joins g.0 k (mark (bytes s) e (joined_renders s w e k (b ∷ l) (u ∷ ts) g.1))

-- a line whose word stands before a name
pub line_renders : (s : String) (n : List ℕ) (ts : List Token) (t : List ℕ) → among (bytes s) words ≡ true → name_byte (get_or n 0 0) ≡ true → Renders (name n ∷ ts) t → RendersAll (line s (name n ∷ ts)) (bytes s ++ (blank_byte ∷ (t ++ bytes ";")))
unfolding line among words same? ℕ_discrete
line_renders s n ts t e k f = word (bytes s) n e k (closed f (bytes ";") refl refl)

-- the same with `=` in it
pub equation_renders : (s : String) (n : List ℕ) (ts us : List Token) (t u : List ℕ) → among (bytes s) words ≡ true → name_byte (get_or n 0 0) ≡ true → Renders (name n ∷ ts) t → Renders us u → Unequal us
    → RendersAll (line s (name n ∷ (ts ++ (the "=" ∷ us)))) (bytes s ++ (blank_byte ∷ (t ++ (bytes "=" ++ (u ++ bytes ";")))))
unfolding line
equation_renders s n ts us t u e k f g h = word (bytes s) n e k (equated f g h)

-- lines one behind another
pub lines_render : {A B : Type 0} (P : A → Type 0) (s : String) (w : B → List Token) (f : ℕ → A → B) (g : ℕ → A → List ℕ) (n : ℕ)
    → ((i : ℕ) (a : A) → i < n → P a → RendersAll (line s (w (f i a))) (g i a)) → (i : ℕ) (l : List A) → i + length l ≤ n → Every P l → RendersAll (print_lines s w (numbered f i l)) (concat (numbered g i l))
unfolding Every all numbered concat
lines_render P s w f g n h i [] k e = nothing_all
lines_render P s w f g n h i (a ∷ l) k e = joins_all (h i a (omega arith) e.0) (lines_render P s w f g n h (suc i) l (omega arith) e.1)

pub lines_render_plain : {A B : Type 0} (P : A → Type 0) (s : String) (w : B → List Token) (f : A → B) (g : A → List ℕ) → ((a : A) → P a → RendersAll (line s (w (f a))) (g a)) → (l : List A) → Every P l → RendersAll (print_lines s w (map f l)) (all g l)
unfolding Every all
lines_render_plain P s w f g h [] e = nothing_all
lines_render_plain P s w f g h (a ∷ l) e = joins_all (h a e.0) (lines_render_plain P s w f g h l e.1)

-- a size of a sort is spelled by digits
pub size_spelled : (n : ℕ) → n ≤ max_size → name_byte (get_or (decimal n) 0 0) ≡ true
unfolding Every
size_spelled n h = by (decimal n) s.0 s.1.0
  where
    s : Spelled n
    s = spelled n (omega arith)

    in_name : (b : ℕ) → T (digit b) → name_byte b ≡ true
    in_name b d = or_second (letter b) (digit b) _ (is_true (digit b) d)
      where
        or_second : (x y z : Bool) → y ≡ true → or x (or y z) ≡ true
        or_second true y z e = refl
        or_second false y z e = ap (λ (y : Bool). or y z) e

    by : (l : List ℕ) → Every (λ b. T (digit b)) l → 1 ≤ length l → name_byte (get_or l 0 0) ≡ true
    by [] e g = absurd (omega arith)
    by (b ∷ l) e g = in_name b e.0

-- no digit is `=`
digits_below : (f n : ℕ) → Every (λ b. b < byte "=") (digits f n)
unfolding Every digits
digits_below zero n = tt
digits_below (suc f) n = by (ltb n 10) refl (digits_below f (n / 10))
  where
    by : (c : Bool) → ltb n 10 ≡ c → Every (λ b. b < byte "=") (digits f (n / 10)) → Every (λ b. b < byte "=") (elim c [ true ↦ (byte "0" + n) ∷ [] | false ↦ digits f (n / 10) ++ ((byte "0" + n % 10) ∷ []) ])
    by true e h = (omega (arith, ltb-true n 10 e), tt)
    by false e h = every_append _ (digits f (n / 10)) _ h (omega arith, tt)

pub decimal_unequal : (v : ℕ) → eqb (get_or (decimal v) 0 0) (byte "=") ≡ false
unfolding decimal
decimal_unequal v = let z = every_get_or _ (decimal v) 0 0 (digits_below (suc v) v) (omega arith) in eqb_other (get_or (decimal v) 0 0) (byte "=") (λ e. omega arith)

-- a name and a numeral, with a blank between
pub sized_renders : (x : List ℕ) (n : ℕ) → n ≤ max_size → Renders (name x ∷ numeral n ∷ []) (x ++ (blank_byte ∷ decimal n))
unfolding write
sized_renders x n h = record {
  so = λ us m. name_before x n us (size_spelled n h) ∙ ap (λ (l : List ℕ). x ++ (blank_byte ∷ l)) ((token (numeral n) tt).so us m) ∙ sym (append_assoc x (blank_byte ∷ decimal n) (render us));
}

-- nor is any byte of a name
name_unequal : (b : ℕ) → name_byte b ≡ true → eqb b (byte "=") ≡ false
name_unequal b e = eqb_other b (byte "=") (λ f. let z : name_byte (byte "=") ≡ true = rw f at e in let y : ◌≡◌ {A = ℕ} 0 1 = cc in omega arith)

module _ (S : Sig) where
  -- a letter stands first
  letter_first : (names : List (List ℕ)) (b i : ℕ) → name_byte b ≡ true → name_byte (get_or (indexed names b i) 0 0) ≡ true
  unfolding indexed letters
  letter_first names b i e = e

  sort_line_renders : (D n : ℕ) → name_byte (get_or (sort_name S D) 0 0) ≡ true → n ≤ max_size → RendersAll (line "sort" (print_sort (sort_line_of S D n))) (sort_line_text S D n)
  unfolding print_sort sort_line_of sort_line_text among words same? ℕ_discrete
  sort_line_renders D n k h = all_bytes (simp append_assoc) (line_renders "sort" (sort_name S D) _ _ refl k (sized_renders (sort_name S D) n h))

  -- Bool has no line
  sort_lines_render : (sizes : List ℕ) → ((D : ℕ) → D < length sizes → name_byte (get_or (sort_name S D) 0 0) ≡ true) → Every (λ n. n ≤ max_size) sizes
      → RendersAll (print_lines "sort" print_sort (numbered (sort_line_of S) 1 (drop 1 sizes))) (concat (numbered (sort_line_text S) 1 (drop 1 sizes)))
  unfolding Every numbered all concat
  sort_lines_render [] k h = nothing_all
  sort_lines_render (n ∷ l) k h = lines_render (λ n. n ≤ max_size) "sort" print_sort (sort_line_of S) (sort_line_text S) (suc (length l)) (λ D m i b. sort_line_renders D m (k D i) b) 1 l (omega arith) h.1

  takes_render : (Ds : List ℕ) → Renders (print_sorts (map (sort_name S) Ds)) (takes_text S Ds)
  unfolding print_sorts takes_text among words same? ℕ_discrete write
  takes_render Ds = joined_renders "#" (λ D. name D ∷ []) refl refl (map (sort_name S) Ds) (map (sort_name S) Ds) (each_mapped _ (sort_name S) (sort_name S) (λ D. token (name (sort_name S D)) tt) Ds)

  values_render : (vs : List ℕ) → Renders (print_values vs) (joined_text (bytes ",") (map decimal vs))
  unfolding print_values among words same? ℕ_discrete write Each
  values_render vs = joined_renders "," (λ v. numeral v ∷ []) refl refl vs (map decimal vs) (each vs)
    where
      each : (vs : List ℕ) → Each (λ v t. Renders (numeral v ∷ []) t) vs (map decimal vs)
      each [] = tt
      each (v ∷ vs) = (token (numeral v) tt, each vs)

  values_unequal : (vs : List ℕ) → Unequal (print_values vs)
  unfolding print_values joined Avoids write
  values_unequal [] = tt
  values_unequal (v ∷ []) = decimal_unequal v
  values_unequal (v ∷ w ∷ vs) = decimal_unequal v

  func_line_renders : (f : ℕ) (g : Func) → RendersAll (line "func" (print_func (func_line_of S f g))) (func_line_text S f g)
  unfolding print_func func_line_of func_line_text among words same? ℕ_discrete Avoids write
  func_line_renders f g =
      let front = print_sorts (map (sort_name S) g.takes) in
      let gives = the "->" ∷ name (sort_name S g.gives) ∷ [] in
      subst (λ (l : List Token). RendersAll (line "func" (name (func_name S f) ∷ the ":" ∷ l)) (func_line_text S f g)) (append_assoc front gives (the "=" ∷ print_values g.values))
      (all_bytes (simp append_assoc)
      (equation_renders "func" (func_name S f) (the ":" ∷ (front ++ gives)) (print_values g.values) _ _ refl (letter_first (taken S) (byte "f") f refl)
      (joins (token (name (func_name S f)) tt) refl (mark (bytes ":") refl (joins (takes_render g.takes) refl (mark (bytes "->") refl (token (name (sort_name S g.gives)) tt)))))
      (values_render g.values) (values_unequal g.values)))

  taken_marked : (Ds : List ℕ) → Marked (print_takes (map (sort_name S) Ds))
  unfolding print_takes Avoids write
  taken_marked [] = tt
  taken_marked (D ∷ Ds) = refl

  taken_renders : (Ds : List ℕ) → Renders (print_takes (map (sort_name S) Ds)) (taken_text S Ds)
  unfolding print_takes taken_text among words same? ℕ_discrete
  taken_renders [] = nothing
  taken_renders (D ∷ Ds) = mark (bytes ":") refl (takes_render (D ∷ Ds))

  act_line_renders : (a : Action) → name_byte (get_or a.name 0 0) ≡ true → RendersAll (line "act" (print_act (act_line_of S a))) (act_line_text S a)
  unfolding print_act act_line_of act_line_text among words same? ℕ_discrete write
  act_line_renders a k =
      all_bytes (simp append_assoc) (line_renders "act" a.name _ _ refl k (joins (token (name a.name) tt) (taken_marked a.takes) (taken_renders a.takes)))

  params_render : (Ds : List ℕ) → Renders (print_params (numbered (param_of S) 0 Ds)) (bracketed_text (numbered (param_text S) 0 Ds))
  unfolding print_params bracketed_text numbered print_param param_of param_text among words same? ℕ_discrete Avoids write
  params_render [] = nothing
  params_render (D ∷ Ds) = bracketed_renders (joined_renders "," print_param refl refl _ _ (each_numbered _ (param_of S) (param_text S) one 0 (D ∷ Ds)))
    where
      one : (i D : ℕ) → Renders (print_param (param_of S i D)) (param_text S i D)
      one i D = joins (token (name (var_name S i)) tt) refl (mark (bytes ":") refl (token (name (sort_name S D)) tt))

  params_marked : (Ds : List ℕ) → Marked (print_params (numbered (param_of S) 0 Ds))
  unfolding print_params numbered bracketed Avoids write
  params_marked [] = tt
  params_marked (D ∷ Ds) = refl

  proc_line_renders : Every (λ (a : Action). name_byte (get_or a.name 0 0) ≡ true) S.acts → (e : ℕ) (q : Equation) → RendersAll (line "proc" (print_proc (proc_line_of S e q))) (proc_line_text S e q)
  unfolding print_proc proc_line_of proc_line_text among words same? ℕ_discrete Avoids write
  proc_line_renders h e q =
      all_bytes (simp append_assoc)
      (equation_renders "proc" (proc_name S e) (print_params (numbered (param_of S) 0 q.params)) _ _ _ refl (letter_first (taken S) (byte "p") e refl)
      (joins (token (name (proc_name S e)) tt) (params_marked q.params) (params_render q.params))
      (right_renders S (length q.params) q.summands) (right_unequal S (every_weaken _ _ (λ (a : Action). name_unequal (get_or a.name 0 0)) S.acts h) (length q.params) q.summands))

  init_line_renders : (s : ℕ × List ℕ) → RendersAll (line "init" (print_init (init_line_of S s))) (init_line_text S s)
  unfolding print_init init_line_of init_line_text among words same? ℕ_discrete as_data print_data write
  init_line_renders s =
      all_bytes (simp append_assoc) (line_renders "init" (proc_name S s.0) _ _ refl (letter_first (taken S) (byte "p") s.0 refl) (named_renders (proc_name S s.0) (map value_data s.1) (map decimal s.1) (each_mapped _ value_data decimal (λ v. token (numeral v) tt) s.1)))
    where
      value_data : ℕ → RawData
      value_data v = as_data (atom_shown (Atom.value v))

-- THE TEXT OF A TABLE IS MADE OF THE PIECES.
pub text_is : (T : Table) → Spellable T → table_text T ≡ sheet_text T
unfolding table_text printed print_sheet sheet_text render
text_is T h =
    let S = T.sig in
    let sorts = sort_lines_render S T.sig.sorts h.sort_names h.sizes in
    let funcs = lines_render (λ (g : Func). Unit {0}) "func" print_func (func_line_of S) (func_line_text S) (length T.sig.funcs) (λ f g _ _. func_line_renders S f g) 0 T.sig.funcs (omega arith) (every_of_all _ (λ g. tt) T.sig.funcs) in
    let actions = lines_render_plain (λ (a : Action). name_byte (get_or a.name 0 0) ≡ true) "act" print_act (act_line_of S) (act_line_text S) (act_line_renders S) S.acts h.names in
    let procs = lines_render (λ (q : Equation). Unit {0}) "proc" print_proc (proc_line_of S) (proc_line_text S) (length T.equations) (λ e q _ _. proc_line_renders S h.names e q) 0 T.equations (omega arith) (every_of_all _ (λ q. tt) T.equations) in
    let all_lines = joins_all sorts (joins_all funcs (joins_all actions (joins_all procs (init_line_renders S T.start)))) in
    ap render (sym (append-nil (print_sheet (printed T)))) ∙ all_lines.so [] ∙ append-nil (sheet_text T)
