-- The sizes are read as a list, and the first is Bool's.
use mathlib.Core.Path.{◌∙◌, ap, sym}
use mathlib.Core.List.{List}
use Prim.Native.Nat.{ℕ}
use lib.ListN.{drop, get_or}
use Rattle.signature.proofs.Funcs.{sizes_are, sizes_bad, sizes_fail}
use Rattle.terms.specs.Ends.{rests}
use Rattle.signature.proofs.read_sizes.Goals as goal

pub returns-in_err-end : goal.returns-in_err-end
returns-in_err-end c =
    rw c.from_residual.ensures (sizes_fail c.args.s.now c.args.at (c.in_err-end.ensures.0))

pub returns-then-peek-ne-BOOL_SIZE : goal.returns-then-peek-ne-BOOL_SIZE
returns-then-peek-ne-BOOL_SIZE c = sizes_bad c.args.s.now c.args.at (drop c.in_ok-end.end c.args.s.now) (c.in_ok-end.ensures.0) (λ e. c.if-peek-ne-BOOL_SIZE.true ((c.peek.ensures ∙ ap (λ (l : List ℕ). get_or l 0 0) c.list_at.ensures) ∙ e))

pub returns : goal.returns
unfolding rests
returns c = ap rests (sizes_are c.args.s.now c.args.at (drop c.in_ok-end.end c.args.s.now) (c.in_ok-end.ensures.0) (sym (c.peek.ensures ∙ ap (λ (l : List ℕ). get_or l 0 0) c.list_at.ensures) ∙ c.if-peek-ne-BOOL_SIZE.false))
