-- The bytes of data terms, read in the stream: what they are worth from the right, how far they reach, the variables that they name.
-- A byte's kind is that of `node_of`; a written function is known by its place in the stream, where its arity, sorts, result and values stand.
-- The sort that stands behind `==` reads like a value: `==` takes three values, and drops the first.
use Rattle.std.specs.Prelude.{List, [], ◌∷◌, Bool, true, false, ℕ, zero, suc, ◌+◌, ◌-◌, ◌*◌, max, min, eqb, ltb, get_or, drop}
use Rattle.pcrl.specs.Limits.{frame_width, max_variables}
use Rattle.pcrl.specs.Sheet.{not_number}
use Rattle.pcrl.specs.Decode.{Node, value, variable, function, node_of}
use Rattle.terms.specs.Stands.{size_in}
use Rattle.theory.specs.OperatorValues.{not_of, and_of, or_of, same_of}

abbrev pub pick : {A : Type 0} → Bool → A → A → A
pick true a b = a
pick false a b = b

-- the first of the values that stand behind a node
abbrev pub top : List ℕ → ℕ
top l = get_or l 0 0

-- the bytes of operators begin here
abbrev pub operator_code : ℕ
operator_code = 0x60

-- Operators by their bytes: `!`, `==`, `/\`, `\/`.

-- how many values stand behind an operator
unfoldable pub operator_count : ℕ → ℕ
operator_count zero = 1
operator_count (suc zero) = 3
operator_count (suc (suc n)) = 2

-- what an operator is worth, where the values behind it begin with x, y and z
unfoldable pub operator_worth : ℕ → ℕ → ℕ → ℕ → ℕ
operator_worth zero x y z = not_of x
operator_worth (suc zero) x y z = same_of y z
operator_worth (suc (suc zero)) x y z = and_of x y
operator_worth (suc (suc (suc n))) x y z = or_of x y

module _ (s funcs : List ℕ) where
  -- how many values stand behind a node: a written function has one or two
  unfoldable pub argument_count : Node → ℕ
  argument_count (value v) = 0
  argument_count (variable i) = 0
  argument_count (function f) = pick (ltb f not_number) (pick (eqb (get_or s (get_or funcs f 0) 0) 1) 1 2) (operator_count (f - not_number))

  -- the value of the function that stands at p, "last argument fastest"; the sizes of the sorts stand behind the places of the functions
  abbrev pub looked_up : ℕ → ℕ → ℕ → ℕ
  looked_up p x y = pick (eqb (get_or s p 0) 1) (get_or s (p + 3 + x) 0) (get_or s (p + 4 + (x * size_in funcs (get_or s (p + 2) 0) + y)) 0)

  -- how many bytes n terms take
  unfoldable pub extent : List ℕ → ℕ → ℕ
  extent [] n = 0
  extent (b ∷ l) zero = 0
  extent (b ∷ l) (suc n) = suc (extent l (n + argument_count (node_of b)))

  module _ (e : List ℕ) where
    -- what a node is worth, where the values behind it begin with x, y and z
    unfoldable pub worth_of : Node → ℕ → ℕ → ℕ → ℕ
    worth_of (value v) x y z = v
    worth_of (variable i) x y z = get_or e i 0
    worth_of (function f) x y z = pick (ltb f not_number) (looked_up (get_or funcs f 0) x y) (operator_worth (f - not_number) x y z)

    -- the values of the terms that stand in the bytes
    unfoldable pub run : List ℕ → List ℕ
    run [] = []
    run (b ∷ c) = worth_of (node_of b) (get_or (run c) 0 0) (get_or (run c) 1 0) (get_or (run c) 2 0) ∷ drop (argument_count (node_of b)) (run c)

-- one more than the variable that a node names, 0 if none
unfoldable pub named : Node → ℕ
named (value v) = 0
named (variable i) = suc i
named (function f) = 0

-- variables from this number on are not named in the bytes
unfoldable pub peak : List ℕ → ℕ
peak [] = 0
peak (b ∷ c) = max (named (node_of b)) (peak c)

-- the lower of m and the variable before n, if that is none of the first p
abbrev pub lowered : ℕ → ℕ → ℕ → ℕ
lowered p n m = pick (ltb p n) (min (n - 1) m) m

-- the lowest variable from p on that is named in the bytes, the number of all variables if none
unfoldable pub foot : ℕ → List ℕ → ℕ
foot p [] = frame_width + max_variables
foot p (b ∷ c) = lowered p (named (node_of b)) (foot p c)
