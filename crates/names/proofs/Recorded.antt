-- Lines that stand at their places: what their cells hold, and that the names found there are those that they declare.
use mathlib.Core.Path.{◌≡◌, refl}
use mathlib.Core.List.{List, [], ◌∷◌, ◌++◌, append_assoc}
use Prim.Native.Nat.{ℕ, suc, ◌+◌, ◌≤◌, min}
use native.Mathlib.Omega.{arith}
use lib.ListN.{length, take}
use Rattle.pcrl.specs.Tests.{Every, Each}
use Rattle.pcrl.specs.Tree.{SortLine, ProcLine}
use Rattle.pcrl.specs.Tokens.{name, numeral}
use Rattle.parser.specs.Cells.{Symbol, tag, token, sort_tag, proc_tag, enc_sort, enc_proc, enc_param, enc_items, enc_choice}
use Rattle.names.specs.Standing.{At, LinesAt, Recorded}
use Rattle.names.specs.Items.{numeral_at, item_count}
use Rattle.names.proofs.Symbols.{numeral_is}
use Rattle.names.proofs.Items.{behind, count_is}

-- as many places as lines: each line is recorded
pub lines_at : {A : Type 0} (enc : A → List Symbol) (s cells places : List ℕ) (ls : List A) → length ls ≤ length places → Recorded enc s cells places ls
    → LinesAt enc s cells (take (length ls) places) ls
unfolding Each
lines_at enc s cells places [] h r = tt
lines_at enc s cells [] (l ∷ ls) h r = absurd (omega arith)
lines_at enc s cells (p ∷ places) (l ∷ ls) h r =
    (r 0 l ls (omega arith) refl, lines_at enc s cells places ls (omega arith) (λ i m after k e. r (suc i) m after (omega arith) e))

-- a test of lines as one of places, there and back
pub every_place : {A B : Type 0} (R : A → B → Type 0) (P : A → Type 0) (Q : B → Type 0) → ((a : A) (b : B) → R a b → Q b → P a)
    → (l : List A) (m : List B) → Each R l m → Every Q m → Every P l
unfolding Each Every
every_place R P Q f [] [] e q = tt
every_place R P Q f [] (b ∷ m) e q = absurd e
every_place R P Q f (a ∷ l) [] e q = absurd e
every_place R P Q f (a ∷ l) (b ∷ m) e q = (f a b e.0 q.0, every_place R P Q f l m e.1 q.1)

pub every_line : {A B : Type 0} (R : A → B → Type 0) (P : A → Type 0) (Q : B → Type 0) → ((a : A) (b : B) → R a b → P a → Q b)
    → (l : List A) (m : List B) → Each R l m → Every P l → Every Q m
unfolding Each Every
every_line R P Q f [] [] e q = tt
every_line R P Q f [] (b ∷ m) e q = absurd e
every_line R P Q f (a ∷ l) [] e q = absurd e
every_line R P Q f (a ∷ l) (b ∷ m) e q = (f a b e.0 q.0, every_line R P Q f l m e.1 q.1)

module _ (s cells : List ℕ) where
  pub size_at : (l : SortLine) (p : ℕ) → At s cells (enc_sort l) p → numeral_at cells (p + 2) ≡ l.size
  unfolding enc_sort
  size_at l p a =
      let n = numeral_is s cells (p + 2) l.size a.0 (behind s cells p (p + 2) (tag sort_tag ∷ token (name l.name) ∷ []) (token (numeral l.size) ∷ a.0) refl a.1) in
      omega arith

  pub params_at : (l : ProcLine) (p : ℕ) → At s cells (enc_proc l) p → (m : ℕ) → item_count cells 3 (p + 2) m ≡ min m (length l.params)
  unfolding enc_proc
  params_at l p a m =
      count_is s cells enc_param 2 (λ x. refl) l.params (p + 2) m (enc_choice l.right ++ a.0)
      (behind s cells p (p + 2) (tag proc_tag ∷ token (name l.name) ∷ []) (enc_items enc_param l.params ++ (enc_choice l.right ++ a.0)) refl (simp append_assoc at a.1))
