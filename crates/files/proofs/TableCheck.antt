-- What the parts of a table's check say of the whole.
use mathlib.Core.Path.{◌≡◌, refl, sym, ap, ◌∙◌}
use mathlib.Core.List.{List}
use Rattle.std.specs.Prelude.{Some, None}
use Prim.Native.Nat.{ℕ, ◌<◌}
use native.Mathlib.Omega.{arith}
use native.Mathlib.Decide.{ℕ_discrete}
use lib.ListN.{length}
use Rattle.pcrl.specs.Limits.{frame_width, stack_limit}
use Rattle.pcrl.specs.Result.{Result, refused, accepted, question, question_of, after, refusal}
use Rattle.pcrl.specs.Table.{Table}
use Rattle.pcrl.specs.Blocks.{table_read}
use Rattle.pcrl.specs.Stack.{Frame, Stack}
use Rattle.pcrl.specs.Answers.{stream_read, table_checked, reply, start_stack, started_in, started}
use Rattle.laws.specs.Questions.{question_fails}
use Rattle.refusals.specs.declared.Refusal.{Refusal}
use Rattle.refusals.specs.declared.Refusal.TheVariants.{TooLong, NotText, NoToken, TooOpen, NoSheet, TooMany, NoName, NotSorted, NotGuarded, NotWithin, NoRoom, NoFile, WrongBlock, NoTable, WrongStack, TooDeep, NoText}
use Rattle.refusals.specs.Numbers.{number_of}
use Rattle.tables.specs.declared.Index.{Index}
use Rattle.tables.specs.Indexed.{TableRead}
use Rattle.tables.proofs.Known.{table_none, table_some}
use Rattle.stepping.proofs.Loading.{table_number}

-- refused by 12 or 13
pub no_stream : (f : List ℕ) (n : ℕ) → stream_read f ≡ refused n → n ≡ refusal (table_checked f)
unfolding table_checked after refusal
no_stream f n e = rw e

-- refused by 14, or not
pub no_table : (f s : List ℕ) → stream_read f ≡ accepted s → TableRead (table_read s) s None → 14 ≡ refusal (table_checked f)
unfolding table_checked after question_of refusal
no_table f s e h = rw (e, table_none (table_read s) s h) refl

pub table_there : (f s : List ℕ) (i : Index) → stream_read f ≡ accepted s → TableRead (table_read s) s (Some i) → 0 ≡ refusal (table_checked f)
unfolding table_checked after question_of refusal
table_there f s i e h = let (T, there, x) = table_some (table_read s) s i h in rw (e, there) refl

-- question 15 of a start
abbrev lent : List Frame → Table → Result (Unit {0} × Stack)
lent fs T = question 15 (ℕ_discrete (length fs) stack_limit) (λ _. accepted (tt, start_stack frame_width T))

-- A start for which too few frames are lent asks questions 12 to 14, and is then refused by 15: by some question in any case.
pub by_start : (f : List ℕ) (fs : List Frame) (d r : ℕ) → length fs < stack_limit → r ≡ refusal (started f fs d).answer
    → (r ≡ 15 → 0 ≡ refusal (table_checked f)) × (¬ (r ≡ 15) → r ≡ refusal (table_checked f)) × ¬ (r ≡ 0)
unfolding started_in after reply refusal
by_start f fs d r short e = go (table_checked f) refl e
  where
    go : (x : Result Table) → table_checked f ≡ x → r ≡ refusal (reply frame_width stack_limit fs d (after x (lent fs))).answer
        → (r ≡ 15 → 0 ≡ refusal x) × (¬ (r ≡ 15) → r ≡ refusal x) × ¬ (r ≡ 0)
    go (refused n) q e = let b = table_number f n q in (λ z. absurd (omega arith), λ _. e, λ z. omega arith)
    go (accepted T) q e =
        let z : r ≡ 15 = e ∙ ap (λ (x : Result (Unit {0} × Stack)). refusal (reply frame_width stack_limit fs d x).answer) (question_fails 15 (ℕ_discrete (length fs) stack_limit) _ (λ g. omega arith)) in
        (λ _. refl, λ n. absurd (n z), λ y. omega arith)

-- 15 is the number of one question alone
pub stack_number : (r : Refusal) → number_of r ≡ 15 → r ≡ WrongStack
stack_number TooLong h = absurd (omega arith)
stack_number NotText h = absurd (omega arith)
stack_number NoToken h = absurd (omega arith)
stack_number TooOpen h = absurd (omega arith)
stack_number NoSheet h = absurd (omega arith)
stack_number TooMany h = absurd (omega arith)
stack_number NoName h = absurd (omega arith)
stack_number NotSorted h = absurd (omega arith)
stack_number NotGuarded h = absurd (omega arith)
stack_number NotWithin h = absurd (omega arith)
stack_number NoRoom h = absurd (omega arith)
stack_number NoFile h = absurd (omega arith)
stack_number WrongBlock h = absurd (omega arith)
stack_number NoTable h = absurd (omega arith)
stack_number WrongStack h = refl
stack_number TooDeep h = absurd (omega arith)
stack_number NoText h = absurd (omega arith)
