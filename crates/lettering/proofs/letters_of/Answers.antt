-- The names of the sorts, and each letter by itself.
use borrow.Author.Rules.{rules}
use native.Mathlib.Omega.{arith}
use Rattle.lettering.proofs.Given.{given_in, lettered}
use Rattle.lettering.proofs.letters_of.Goals as goal

pub slice_bounds-repeated-end-5 : goal.slice_bounds-repeated-end-5
slice_bounds-repeated-end-5 c = let start = c.type_inv in search rules

pub returns : goal.returns
returns c = λ T right ix.
    let a = c.args in
    let n = c.sort_letters-n in
    let p = c.put_names in
    lettered T a.s.now a.index right ix p.new.out c.repeated-f.result c.repeated-p.result c.repeated-v.result (omega (arith, p.ensures.out_len_unchanged)) (given_in T a.s.now a.index right ix n.result p.new.out n.ensures.1 p.ensures.cells_in) c.repeated-f.ensures c.repeated-p.ensures c.repeated-v.ensures
