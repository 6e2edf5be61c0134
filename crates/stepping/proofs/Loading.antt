-- Questions 12 to 14 from their parts, and what each answer says.
use mathlib.Core.Path.{◌≡◌, refl, sym, ap, subst}
use mathlib.Core.List.{List}
use mathlib.Core.Option.{Option, none, some}
use Prim.Native.Nat.{ℕ, ◌≤◌}
use native.Mathlib.Omega.{arith}
use Rattle.std.specs.Prelude.{Ok, Err, Some, None}
use lib.ListN.{length, take}
use Rattle.pcrl.specs.Result as R
use Rattle.pcrl.specs.Result.{refused, accepted, question, question_of, after}
use Rattle.pcrl.specs.Table.{Table}
use Rattle.pcrl.specs.Right.{RightTable}
use Rattle.pcrl.specs.Blocks.{right_length?, right_blocks?, stream_of, table_read}
use Rattle.pcrl.specs.Answers.{stream_read, table_checked}
use Rattle.tables.specs.Indexed.{Indexed, TableRead}
use Rattle.tables.proofs.Known.{read_right, table_none, table_some}
use Rattle.refusals.specs.declared.Refusal.{Refusal}
use Rattle.refusals.specs.declared.Refusal.TheVariants.{NoTable}
use Rattle.refusals.specs.Numbers.{number_of}
use Rattle.refusals.specs.Answered.{Answered}
use Rattle.stepping.specs.declared.Loaded.{Loaded}
use Rattle.stepping.specs.Promises.{Loads}

-- questions 12 and 13, and 12 to 14, by their numbers
stream_number : (f : List ℕ) (n : ℕ) → stream_read f ≡ refused n → (12 ≤ n) × (n ≤ 13)
unfolding stream_read question
stream_number f n e = go (right_length? f) (right_blocks? f) e
  where
    go : {P Q : Type 0} (a : Dec P) (b : Dec Q) → question 12 a (λ _. question 13 b (λ _. accepted (stream_of f))) ≡ refused n → (12 ≤ n) × (n ≤ 13)
    go (no h) b e = let z : 12 ≡ n = cc in omega arith
    go (yes h) (no g) e = let z : 13 ≡ n = cc in omega arith
    go (yes h) (yes g) e = absurd (let z : ◌≡◌ {A = ℕ} 0 1 = cc in omega arith)

pub table_number : (f : List ℕ) (n : ℕ) → table_checked f ≡ refused n → (12 ≤ n) × (n ≤ 14)
unfolding table_checked after question_of
table_number f n e = go (stream_read f) refl e
  where
    go_table : (o : Option Table) → question_of 14 o (λ T. accepted T) ≡ refused n → (12 ≤ n) × (n ≤ 14)
    go_table none e = let z : 14 ≡ n = cc in omega arith
    go_table (some T) e = absurd (let z : ◌≡◌ {A = ℕ} 0 1 = cc in omega arith)

    go : (x : R.Result (List ℕ)) → stream_read f ≡ x → after x (λ s. question_of 14 (table_read s) (λ T. accepted T)) ≡ refused n → (12 ≤ n) × (n ≤ 14)
    go (refused m) q e = let z : m ≡ n = cc in let h = stream_number f m q in omega arith
    go (accepted s) q e = go_table (table_read s) e

module _ (f : List ℕ) (out : List ℕ) where
  -- refused by 12 or 13
  pub no_stream : (e : Refusal) → stream_read f ≡ refused (number_of e) → Loads (table_checked f) out (Err e)
  unfolding table_checked after Answered
  no_stream e h = rw h refl

  module _ (s : List ℕ) (stream : stream_read f ≡ accepted s) where
    -- refused by 14
    pub no_table : TableRead (table_read s) s None → Loads (table_checked f) out (Err NoTable)
    unfolding table_checked after question_of Answered
    no_table read = rw (stream, table_none (table_read s) s read) refl

    pub loaded : (l : Loaded) → TableRead (table_read s) s (Some l.index) → l.count ≤ length out → s ≡ take l.count out → Loads (table_checked f) out (Ok l)
    unfolding table_checked after question_of Answered
    loaded l read b is =
        let (T, there, x) = table_some (table_read s) s l.index read in
        rw (stream, there) (b, (read_right s T there, subst (λ (m : List ℕ). Indexed T m l.index) is x))

-- what a load says
pub load_refused : (x : R.Result Table) (s : List ℕ) (e : Refusal) → Loads x s (Err e) → x ≡ refused (number_of e)
unfolding Answered
load_refused (refused n) s e h = ap refused (sym h)
load_refused (accepted T) s e h = absurd h

pub load_accepted : (x : R.Result Table) (s : List ℕ) (l : Loaded) → Loads x s (Ok l) → (T : Table) × (x ≡ accepted T) × (RightTable T × Indexed T (take l.count s) l.index)
unfolding Answered
load_accepted (refused n) s l h = absurd h
load_accepted (accepted T) s l h = (T, refl, h.1)

pub load_count : (x : R.Result Table) (s : List ℕ) (l : Loaded) → Loads x s (Ok l) → l.count ≤ length s
unfolding Answered
load_count (refused n) s l h = absurd h
load_count (accepted T) s l h = h.0
