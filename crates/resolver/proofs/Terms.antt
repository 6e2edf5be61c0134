-- What stands at a place is known by its tag: a view of a process term by the branches of the code.
use mathlib.Core.Path.{◌≡◌, refl, ap, ◌∙◌}
use mathlib.Core.Bool.{Bool}
use mathlib.Core.List.{List, ◌∷◌, ◌++◌}
use mathlib.Core.Option.{none, some}
use Prim.Native.Nat.{ℕ, ◌<◌}
use lib.ListN.{length, drop, get_or}
use Rattle.pcrl.specs.Tree.{Name, RawData, RawDatas, Choice, Conditional, Sequence, Part}
use Rattle.pcrl.specs.Sheet.{Sig}
use Rattle.pcrl.specs.Names.{Names, resolve_choice}
use Rattle.parser.specs.Cells.{Symbol, tag, enc_call, enc_choice}
use Rattle.names.specs.Standing.{symbols}
use Rattle.names.proofs.Symbols.{tag_cell}
use Rattle.resolver.specs.Raw.{Term, choice, conditional, sequence, part, enc_term, resolve_term, sum_depth, term_depth}
use Rattle.resolver.specs.Resolving.{term_cells}
use Rattle.resolver.proofs.Symbols.{next}

-- the tags of terms with one subterm
pub data SingleTag : ℕ → Type 0 where
  only_tag : SingleTag 6
  plain_tag : SingleTag 8
  last_tag : SingleTag 10
  group_tag : SingleTag 17

-- t is u behind a tag, and means what u means
pub record Single (t u : Term) (k : ℕ) : Type 0 where
  pub is : SingleTag k
  pub opened : enc_term t ≡ tag k ∷ enc_term u
  pub depth : term_depth t ≡ term_depth u
  pub cells : (N : Names) (S : Sig) (scope : List Name) (Γ : List ℕ) (after : Bool) → term_cells N S scope Γ after t ≡ term_cells N S scope Γ after u

pub data View : Term → ℕ → Type 0 where
  single : (t u : Term) (k : ℕ) → Single t u k → View t k
  plus : (c : Conditional) (d : Choice) → View (choice (Choice.plus c d)) 7
  cond : (p : Sequence) (c : RawData) (q : Sequence) → View (conditional (Conditional.cond p c q)) 9
  then : (p : Part) (q : Sequence) → View (sequence (Sequence.then p q)) 11
  delta : View (part Part.delta) 12
  tau : View (part Part.tau) 13
  bare : (x : Name) → View (part (Part.named x none)) 14
  given : (x : Name) (ds : RawDatas) → View (part (Part.named x (some ds))) 15
  sum : (v D : Name) (p : Choice) → View (part (Part.sum v D p)) 16

-- the view, and the cell at the place
pub record Seen (s raw : List ℕ) (at : ℕ) (t : Term) : Type 0 where
  pub tag_of : ℕ
  pub view : View t tag_of
  pub inside : at < length raw
  pub cell : get_or raw at 0 ≡ tag_of

record First (t : Term) : Type 0 where
  tag_of : ℕ
  rest : List Symbol
  view : View t tag_of
  opened : enc_term t ≡ tag tag_of ∷ rest

first : (t : Term) → First t
unfolding enc_term enc_choice enc_call term_depth sum_depth term_cells resolve_term resolve_choice
first (choice (Choice.only c)) =
    record { tag_of = 6; rest = _; view = single (choice (Choice.only c)) (conditional c) 6 (record { is = only_tag; opened = refl; depth = refl; cells = λ N S σ Γ a. refl }); opened = refl }
first (choice (Choice.plus c d)) = record { tag_of = 7; rest = _; view = plus c d; opened = refl }
first (conditional (Conditional.plain p)) =
    record { tag_of = 8; rest = _; view = single (conditional (Conditional.plain p)) (sequence p) 8 (record { is = plain_tag; opened = refl; depth = refl; cells = λ N S σ Γ a. refl }); opened = refl }
first (conditional (Conditional.cond p c q)) = record { tag_of = 9; rest = _; view = cond p c q; opened = refl }
first (sequence (Sequence.last p)) =
    record { tag_of = 10; rest = _; view = single (sequence (Sequence.last p)) (part p) 10 (record { is = last_tag; opened = refl; depth = refl; cells = λ N S σ Γ a. refl }); opened = refl }
first (sequence (Sequence.then p q)) = record { tag_of = 11; rest = _; view = then p q; opened = refl }
first (part Part.delta) = record { tag_of = 12; rest = _; view = delta; opened = refl }
first (part Part.tau) = record { tag_of = 13; rest = _; view = tau; opened = refl }
first (part (Part.named x none)) = record { tag_of = 14; rest = _; view = bare x; opened = refl }
first (part (Part.named x (some ds))) = record { tag_of = 15; rest = _; view = given x ds; opened = refl }
first (part (Part.sum v D p)) = record { tag_of = 16; rest = _; view = sum v D p; opened = refl }
first (part (Part.group p)) =
    record { tag_of = 17; rest = _; view = single (part (Part.group p)) (choice p) 17 (record { is = group_tag; opened = refl; depth = refl; cells = λ N S σ Γ a. refl }); opened = refl }

pub seen : (s raw : List ℕ) (at : ℕ) (t : Term) (rest : List Symbol) → drop at (symbols s raw) ≡ enc_term t ++ rest → Seen s raw at t
seen s raw at t rest e =
    let f = first t in
    let n = next s raw at (tag f.tag_of) (f.rest ++ rest) (e ∙ ap (λ l. l ++ rest) f.opened) in
    record { tag_of = f.tag_of; view = f.view; inside = n.inside; cell = tag_cell s (get_or raw at 0) f.tag_of n.is }
