-- The lines that the parser found are those of the sheet: as many of each kind as were counted, each at its recorded place.
use mathlib.Core.Path.{◌≡◌, sym, subst}
use mathlib.Core.List.{List}
use Prim.Native.Nat.{ℕ, ◌-◌, ◌≤◌}
use native.Mathlib.Omega.{arith}
use lib.ListN.{length, take}
use Rattle.parser.specs.Cells.{Symbol, enc_sort, enc_func, enc_act, enc_proc, enc_init}
use Rattle.parser.specs.declared.Lines.{Lines}
use Rattle.names.specs.Standing.{At, LinesAt, Recorded}
use Rattle.names.proofs.Rooms.{Rooms}
use Rattle.names.proofs.Recorded.{lines_at}
use Rattle.std.specs.Prelude.{Option as Given}
use Rattle.sheets.specs.declared.SheetRows.{SheetRows}
use Rattle.sheets.specs.Resolving.{FewFound, LinesResolve, FoundResolve}

-- the lines of a kind
counted_at : {A : Type 0} (enc : A → List Symbol) (s raw places : List ℕ) (n : ℕ) (ls : List A) → n ≡ length ls → n ≤ length places → Recorded enc s raw places ls → LinesAt enc s raw (take (n - 0) places) ls
counted_at enc s raw places n ls e h r =
    let z : length ls ≡ n - 0 = omega arith in
    subst (λ (k : ℕ). LinesAt enc s raw (take k places) ls) z (lines_at enc s raw places ls (omega arith) r)

pub found_resolve : (s raw : List ℕ) (L : Lines) (values o : List ℕ) (r : Given SheetRows) (at : ℕ) → Rooms L → FewFound L raw → at ≡ L.init
    → LinesResolve s raw (take (L.sort_count - 0) L.sorts) (take (L.func_count - 0) L.funcs) (take (L.act_count - 0) L.acts) (take (L.proc_count - 0) L.procs) at values o r
    → FoundResolve s raw L values o r
found_resolve s raw L values o r at rooms few e h R st init =
    h R
    (record {
      sorts_at = counted_at enc_sort s raw L.sorts L.sort_count R.sorts st.sort_count (omega (arith, rooms.sorts, few.sorts_few)) st.sorts;
      funcs_at = counted_at enc_func s raw L.funcs L.func_count R.funcs st.func_count (omega (arith, rooms.funcs, few.funcs_few)) st.funcs;
      acts_at = counted_at enc_act s raw L.acts L.act_count R.acts st.act_count (omega (arith, rooms.acts, few.acts_few)) st.acts;
      procs_at = counted_at enc_proc s raw L.procs L.proc_count R.procs st.proc_count (omega (arith, rooms.procs, few.procs_few)) st.procs;
    })
    (subst (At s raw (enc_init R.start)) (sym e) init)
