-- Closed process terms and their steps, "by the usual rules".
use Rattle.std.specs.Prelude.{◌≡◌, List, [], map, ℕ, ◌<◌}
use Rattle.pcrl.specs.Sheet.{Data, Act, Proc, atom, alt, cond, sum, seq, call, Sheet, size, right}
use Rattle.pcrl.specs.Label.{Label, label}
use Rattle.pcrl.specs.Sorts.{closed, Sorted}
use Rattle.pcrl.specs.Values.{eval, put, these, only}

-- "A closed process term is a rightly sorted choice without free variables."
unfoldable pub ClosedTerm : Sheet → Proc → Type 0
ClosedTerm H p = Sorted H closed p

-- a term goes on as a term, or has ended
pub data Rest : Type 0 where
  done : Rest
  still : Proc → Rest

module _ (H : Sheet) where
  pub data TermStep : Proc → Label → Rest → Type 0 where
    -- "an action ends"
    acts : {a : Act} {ds : List Data} → TermStep (atom a ds) (label H.sig a (map (eval H.sig []) ds)) done
    in_left : {p q : Proc} {l : Label} {r : Rest} → TermStep p l r → TermStep (alt p q) l r
    in_right : {p q : Proc} {l : Label} {r : Rest} → TermStep q l r → TermStep (alt p q) l r
    -- "p.q goes on as p'.q, or as q if p ended"
    goes_on : {p p' q : Proc} {l : Label} → TermStep p l (still p') → TermStep (seq p q) l (still (seq p' q))
    goes_over : {p q : Proc} {l : Label} → TermStep p l done → TermStep (seq p q) l (still q)
    -- "a conditional by its value"
    if_true : {c : Data} {p q : Proc} {l : Label} {r : Rest} → eval H.sig [] c ≡ 1 → TermStep p l r → TermStep (cond c p q) l r
    if_false : {c : Data} {p q : Proc} {l : Label} {r : Rest} → eval H.sig [] c ≡ 0 → TermStep q l r → TermStep (cond c p q) l r
    -- "a sum by any value"
    at_value : {x D : ℕ} {p : Proc} {l : Label} {r : Rest} (v : ℕ) → v < size H.sig D → TermStep (put (only x v) p) l r → TermStep (sum x D p) l r
    -- "a call as its right side"
    as_right : {k : ℕ} {ds : List Data} {l : Label} {r : Rest} → TermStep (put (these (map (eval H.sig []) ds)) (right H k)) l r → TermStep (call k ds) l r
