-- Question 6, from the counts and what stands at the places: a sheet's sizes and parameters are those found there.
use mathlib.Core.Path.{◌≡◌}
use mathlib.Core.List.{List}
use mathlib.Core.Bool.{Bool, true, false}
use mathlib.Core.Logic.{◌⊎◌, inl, inr}
use Prim.Native.Nat.{ℕ, ◌+◌, ◌≤◌, ◌<◌}
use native.Mathlib.Omega.{arith}
use lib.ListN.{length, take}
use Rattle.pcrl.specs.Limits.{max_size, frame_width}
use Rattle.pcrl.specs.Tests.{Between, Every}
use Rattle.pcrl.specs.Tree.{SortLine, ProcLine, RawSheet}
use Rattle.pcrl.specs.Counts.{Counted}
use Rattle.laws.specs.Says.{Says}
use Rattle.parser.specs.declared.Lines.{Lines}
use Rattle.parser.specs.Cells.{enc_sort, enc_proc}
use Rattle.names.specs.Standing.{At, LinesAt, Standing}
use Rattle.names.specs.Items.{numeral_at, item_count}
use Rattle.names.proofs.Rooms.{Rooms}
use Rattle.names.proofs.Recorded.{lines_at, every_place, every_line, size_at, params_at}

pub too_many : (s cells : List ℕ) (L : Lines) (R : RawSheet) → Standing s cells L R → (7 < L.sort_count) ⊎ ((16 < L.func_count) ⊎ ((32 < L.act_count) ⊎ (16 < L.proc_count))) → Counted R → ⊥
unfolding Counted
too_many s cells L R st (inl h) c = omega (arith, st.sort_count, c.0)
too_many s cells L R st (inr (inl h)) c = omega (arith, st.func_count, c.1.1.0)
too_many s cells L R st (inr (inr (inl h))) c = omega (arith, st.act_count, c.1.1.1.0)
too_many s cells L R st (inr (inr (inr h))) c = omega (arith, st.proc_count, c.1.1.1.1.0)

module _ (s cells : List ℕ) (L : Lines) (room : Rooms L) (R : RawSheet) (st : Standing s cells L R) where
  abbrev SizeRight : ℕ → Type 0
  SizeRight p = Between 1 max_size (numeral_at cells (p + 2))

  abbrev FewParams : ℕ → Type 0
  FewParams p = item_count cells 3 (p + 2) (frame_width + 1) ≤ frame_width

  module _ (places : List ℕ) (few : L.sort_count ≤ 7) (are : places ≡ take L.sort_count L.sorts) where
    sort_lines : LinesAt enc_sort s cells places R.sorts
    sort_lines = rw (are, st.sort_count) (lines_at enc_sort s cells L.sorts R.sorts (omega (arith, st.sort_count, room.sorts)) st.sorts)

    pub sizes_wrong : (Every SizeRight places → ⊥) → Counted R → ⊥
    unfolding Counted
    sizes_wrong n c = n (every_place (λ p l. At s cells (enc_sort l) p) SizeRight (λ (l : SortLine). Between 1 max_size l.size) (λ p l a b. rw (size_at s cells l p a) b) places R.sorts sort_lines c.1.0)

    sizes_right : Every SizeRight places → Every (λ (l : SortLine). Between 1 max_size l.size) R.sorts
    sizes_right e = every_line (λ p l. At s cells (enc_sort l) p) SizeRight (λ (l : SortLine). Between 1 max_size l.size) (λ p l a b. rw (size_at s cells l p a) at b) places R.sorts sort_lines e

    module _ (procs : List ℕ) (few_procs : L.proc_count ≤ 16) (procs_are : procs ≡ take L.proc_count L.procs) where
      proc_lines : LinesAt enc_proc s cells procs R.procs
      proc_lines = rw (procs_are, st.proc_count) (lines_at enc_proc s cells L.procs R.procs (omega (arith, st.proc_count, room.procs)) st.procs)

      pub counted_says : (b : Bool) → L.func_count ≤ 16 → L.act_count ≤ 32 → Every SizeRight places → Says b (Every FewParams procs) → Says b (Counted R)
      unfolding Counted
      counted_says true f a e h = (
        omega (arith, st.sort_count),
        (
          sizes_right e,
          (
            omega (arith, st.func_count),
            (
              omega (arith, st.act_count),
              (
                omega (arith, st.proc_count),
                every_line (λ p l. At s cells (enc_proc l) p) FewParams (λ (l : ProcLine). length l.params ≤ frame_width) (λ p l x b. let z = params_at s cells l p x (frame_width + 1) in omega arith) procs R.procs proc_lines h,
              ),
            ),
          ),
        ),
      )
      counted_says false f a e h = λ c.
          h (every_place (λ p l. At s cells (enc_proc l) p) FewParams (λ (l : ProcLine). length l.params ≤ frame_width) (λ p l x b. let z = params_at s cells l p x (frame_width + 1) in omega arith) procs R.procs proc_lines c.1.1.1.1.1)
