-- A refusal has the number of one of its questions.
use mathlib.Core.Path.{◌≡◌, ap}
use mathlib.Core.List.{List}
use mathlib.Core.Option.{Option, none, some}
use Prim.Native.Nat.{ℕ, ◌≤◌, ◌<◌}
use native.Mathlib.Omega.{arith}
use Rattle.pcrl.specs.Result.{Result, refused, accepted, question, question_of, after}
use Rattle.pcrl.specs.Blocks.{file_of_stream}
use Rattle.pcrl.specs.Heads.{table_of}
use Rattle.pcrl.specs.Stream.{encode}
use Rattle.pcrl.specs.Answers.{tokens_read, tree_read, sorted_read, sheet_read, table_made, stream_filed, file_made}

-- k is the number of none of the questions 1 to m
abbrev pub Apart : ℕ → ℕ → Type 0
Apart m k = (n : ℕ) → 1 ≤ n → n ≤ m → n ≡ k → ⊥

module _ (k : ℕ) where
  pub question_apart : {P A : Type 0} (m : ℕ) (d : Dec P) (rest : P → Result A) → (m ≡ k → ⊥) → ((h : P) → rest h ≡ refused k → ⊥) → question m d rest ≡ refused k → ⊥
  unfolding question
  question_apart m (yes h) rest l f e = f h e
  question_apart m (no h) rest l f e = let z : m ≡ k = cc in l z

  pub question_of_apart : {A B : Type 0} (m : ℕ) (o : Option A) (rest : A → Result B) → (m ≡ k → ⊥) → ((a : A) → rest a ≡ refused k → ⊥) → question_of m o rest ≡ refused k → ⊥
  unfolding question_of
  question_of_apart m (some a) rest l f e = f a e
  question_of_apart m none rest l f e = let z : m ≡ k = cc in l z

  pub after_apart : {A B : Type 0} (x : Result A) (rest : A → Result B) → (x ≡ refused k → ⊥) → ((a : A) → rest a ≡ refused k → ⊥) → after x rest ≡ refused k → ⊥
  unfolding after
  after_apart (refused n) rest f g e = let z : n ≡ k = cc in f (ap refused z)
  after_apart (accepted a) rest f g e = g a e

  pub passed : {A : Type 0} (a : A) → accepted a ≡ refused k → ⊥
  passed a e = let z : ◌≡◌ {A = ℕ} 0 1 = cc in omega arith

-- questions 1 to 8
pub sorted_number : (s : List ℕ) (k : ℕ) → Apart 8 k → sorted_read s ≡ refused k → ⊥
unfolding sorted_read tree_read tokens_read
sorted_number s k u =
    after_apart k (tree_read s) _
    (after_apart k (tokens_read s) _
    (question_apart k 1 _ _ (u 1 (omega arith) (omega arith)) (λ _. question_apart k 2 _ _ (u 2 (omega arith) (omega arith)) (λ _. question_of_apart k 3 _ _ (u 3 (omega arith) (omega arith)) (λ ts. question_apart k 4 _ _ (u 4 (omega arith) (omega arith)) (λ _. passed k ts)))))
    (λ ts. question_of_apart k 5 _ _ (u 5 (omega arith) (omega arith)) (λ R. passed k R)))
    (λ R. question_apart k 6 _ _ (u 6 (omega arith) (omega arith)) (λ _. question_of_apart k 7 _ _ (u 7 (omega arith) (omega arith)) (λ H. question_apart k 8 _ _ (u 8 (omega arith) (omega arith)) (λ _. passed k H))))

-- 1 to 9
pub sheet_number : (s : List ℕ) (k : ℕ) → Apart 9 k → sheet_read s ≡ refused k → ⊥
unfolding sheet_read
sheet_number s k u = after_apart k (sorted_read s) _ (sorted_number s k (λ n l m. u n l (omega arith))) (λ H. question_apart k 9 _ _ (u 9 (omega arith) (omega arith)) (λ _. passed k H))

-- 1 to 10
pub table_number : (s : List ℕ) (k : ℕ) → Apart 10 k → table_made s ≡ refused k → ⊥
unfolding table_made
table_number s k u = after_apart k (sheet_read s) _ (sheet_number s k (λ n l m. u n l (omega arith))) (λ H. question_apart k 10 _ _ (u 10 (omega arith) (omega arith)) (λ _. passed k (table_of H)))

-- 1 to 11
pub file_number : (s : List ℕ) (room k : ℕ) → Apart 11 k → file_made s room ≡ refused k → ⊥
unfolding file_made stream_filed
file_number s room k u = after_apart k (table_made s) _ (table_number s k (λ n l m. u n l (omega arith))) (λ T. question_apart k 11 _ _ (u 11 (omega arith) (omega arith)) (λ _. passed k (file_of_stream (encode T))))
