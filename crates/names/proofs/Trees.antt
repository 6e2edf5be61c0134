-- From the parser's answer: each recorded line stands at its place, and the names found there are those of the sheet.
use mathlib.Core.Path.{◌≡◌, sym, ◌∙◌, ap, subst}
use mathlib.Core.List.{List, [], ◌∷◌, ◌++◌, map, append_assoc, map-append}
use Prim.Native.Nat.{ℕ, ◌≤◌}
use native.Mathlib.Omega.{arith}
use lib.ListN.{length, take, drop, get_or, length-append, length-drop, take-append-drop}
use lib.Seq.{length-take-le, drop-append-le}
use Rattle.pcrl.specs.Tree.{RawSheet}
use Rattle.parser.specs.Cells.{Symbol, symbol_of, enc_sort, enc_func, enc_act, enc_proc, enc_sheet}
use Rattle.parser.specs.declared.Parsed.{Parsed}
use Rattle.parser.specs.Parses.{Stands, Kept, Tree}
use Rattle.names.specs.Standing.{symbols, At, Recorded, Standing}

-- a place at which something stands
within : {A : Type 0} (l : List A) (p : ℕ) (e r : List A) → drop p l ≡ e ++ r → 1 ≤ length e → p ≤ length l
within l p e r h k = omega (arith, length-drop p l, ap length h, length-append e r)

-- what stands in the first cells stands in all of them
pub further : (s cells : List ℕ) (used p : ℕ) (tree e : List Symbol) → map (symbol_of s) (take used cells) ≡ tree → 1 ≤ length e → Stands tree p e → At s cells e p
unfolding symbols
further s cells used p tree e t some_cell st =
    let more = map (symbol_of s) (drop used cells) in
    let w : map (symbol_of s) cells ≡ tree ++ more
    = ap (map (symbol_of s)) (sym (take-append-drop used cells)) ∙ (map-append (symbol_of s) (take used cells) (drop used cells) ∙ ap (λ (x : List Symbol). x ++ more) t) in (
      st.0 ++ more,
      ap (drop p) w ∙ (drop-append-le p tree more (within tree p e st.0 st.1 some_cell) ∙ (ap (λ (x : List Symbol). x ++ more) st.1 ∙ append_assoc e st.0 more)),
    )

recorded : {A : Type 0} (enc : A → List Symbol) (s cells : List ℕ) (used count : ℕ) (places : List ℕ) (tree : List Symbol) (ls : List A) → map (symbol_of s) (take used cells) ≡ tree
    → ((l : A) → 1 ≤ length (enc l)) → Kept enc ls count places tree → Recorded enc s cells places ls
recorded enc s cells used count places tree ls t some_cell k i l after h e =
    let z : length (take i ls) ≡ i = length-take-le i ls (within ls i (l ∷ []) after e (omega arith)) in
    let st = k.stand (take i ls) l after (sym (take-append-drop i ls) ∙ ap (◌++◌ (take i ls)) e) (omega arith) in
    further s cells used (get_or places i 0) tree (enc l) t (some_cell l) (subst (λ (j : ℕ). Stands tree (get_or places j 0) (enc l)) z st)

-- THE LINES OF A PARSED SHEET stand where `Lines` says.
pub standing : (s : List ℕ) (R : RawSheet) (r : Parsed) (cells : List ℕ) → Tree s R r cells → Standing s cells r.lines R
unfolding enc_sort enc_func enc_act enc_proc
standing s R r cells t = record {
  sort_count = t.sorts.counted;
  func_count = t.funcs.counted;
  act_count = t.acts.counted;
  proc_count = t.procs.counted;
  sorts = recorded enc_sort s cells r.used r.lines.sort_count r.lines.sorts (enc_sheet R) R.sorts t.tree (λ l. omega arith) t.sorts;
  funcs = recorded enc_func s cells r.used r.lines.func_count r.lines.funcs (enc_sheet R) R.funcs t.tree (λ l. omega arith) t.funcs;
  acts = recorded enc_act s cells r.used r.lines.act_count r.lines.acts (enc_sheet R) R.acts t.tree (λ l. omega arith) t.acts;
  procs = recorded enc_proc s cells r.used r.lines.proc_count r.lines.procs (enc_sheet R) R.procs t.tree (λ l. omega arith) t.procs;
}
