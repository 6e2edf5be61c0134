-- States: closed terms, the ended process, and stacks; and the terms that they stand for.
use Rattle.std.specs.Prelude.{List, [], ◌∷◌, map, ℕ, length}
use Rattle.pcrl.specs.Sheet.{val, Proc, delta, seq, call, Sheet}
use Rattle.pcrl.specs.Label.{Label}
use Rattle.pcrl.specs.Values.{eval, put, these}
use Rattle.pcrl.specs.Parts.{marks, as_params, Kind, absent, written, part, kind}
use Rattle.pcrl.specs.Table.{Table}
use Rattle.pcrl.specs.Heads.{table_of}
use Rattle.pcrl.specs.Stack.{Frame, Stack, used, RightStack}
use Rattle.pcrl.specs.Steps.{StackStep}
use Rattle.pcrl.specs.Terms.{ClosedTerm, Rest, done, still, TermStep}
use Rattle.pcrl.specs.Equality.{System}

-- "A state is a closed process term of an accepted sheet, the ended process, or a stack of a table"
pub data State : Type 0 where
  of_term : Rest → State
  of_stack : Stack → State

-- "Only the ended process and the empty stack have ended, and they have no step."
unfoldable pub Ended : State → Type 0
Ended (of_term done) = Unit {0}
Ended (of_term (still p)) = ⊥
Ended (of_stack []) = Unit {0}
Ended (of_stack (f ∷ s)) = ⊥

module _ (width : ℕ) (H : Sheet) (T : Table) where
  -- "Each state steps by its own sheet or table."
  unfoldable pub StateStep : State → Label → State → Type 0
  StateStep (of_term done) l u = ⊥
  StateStep (of_term (still p)) l (of_term r) = TermStep H p l r
  StateStep (of_term (still p)) l (of_stack t) = ⊥
  StateStep (of_stack s) l (of_term r) = ⊥
  StateStep (of_stack s) l (of_stack t) = StackStep width T s l t

  -- the states of a sheet and a table
  abbrev pub system : System Label
  system = record { State = State; Ended = Ended; Step = StateStep }

  -- "a closed process term of an accepted sheet", or "of any depth, each frame an equation of that table with values in its sorts, spare ones 0"
  unfoldable pub RightState : State → Type 0
  RightState (of_term done) = Unit {0}
  RightState (of_term (still p)) = ClosedTerm H p
  RightState (of_stack s) = RightStack width T s

module _ (H : Sheet) where
  -- "A frame of a written equation stands for a call of its process with the frame's values, one of a new equation for its part with them put in."
  unfoldable pub frame_term : Kind → ℕ → List ℕ → Proc
  frame_term absent e vs = delta
  frame_term written e vs = call e (map val vs)
  frame_term (part x) e vs = put (these (map (eval H.sig vs) (as_params (marks (length x.scope) x.term) 0))) x.term

  unfoldable pub term_of_frame : Frame → Proc
  term_of_frame f = frame_term (kind H f.number) f.number (used (table_of H) f)

  -- "a stack for its calls in sequence, top first"
  unfoldable pub term_of_stack : Frame → Stack → Proc
  term_of_stack f [] = term_of_frame f
  term_of_stack f (g ∷ s) = seq (term_of_frame f) (term_of_stack g s)

  -- "A term stands for itself, a stack for its calls in sequence, top first, the empty stack for the ended process."
  unfoldable pub stands_for : State → State
  stands_for (of_term r) = of_term r
  stands_for (of_stack []) = of_term done
  stands_for (of_stack (f ∷ s)) = of_term (still (term_of_stack f s))
