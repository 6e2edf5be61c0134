-- What is known of a right table gives the places that the search wants.
use mathlib.Core.List.{[]}
use native.Mathlib.Omega.{arith}
use mathlib.Core.Path.{◌≡◌, ap, ◌∙◌}
use Prim.Native.Nat.{ℕ}
use lib.ListN.{length, get_or, drop}
use Rattle.pcrl.specs.Table.{equation, params_of}
use Rattle.theory.specs.TableRight.{params_length}
use Rattle.firing.specs.Fires.{listing}
use Rattle.firing.proofs.Indexing.{at_row, values_first}
use Rattle.firing.proofs.fire.Goals as goal

pub fire_rows-requires : goal.fire_rows-requires
fire_rows-requires c = (c.requires.0, (omega (arith, c.parameters.ensures.0, c.wide-p.ensures.0), (c.first_values-first.ensures.1.1, (c.cell-row.ensures.1, c.requires.1))))

pub returns : goal.returns
unfolding listing
returns c = (
  c.fire_rows.ensures.0,
  λ T vs known below in-sorts taken. let a = c.args in let s = a.s.now in
      let (rest, here) = known.rows_at a.e below in
      let n = params_length T in
      let count : c.wide-p.result ≡ length (get_or (params_of T.equations) a.e []) = c.wide-p.ensures.0 ∙ c.parameters.ensures.1 T.sig (params_of T.equations) a.acts.now known.parts (omega arith) in
      let same = values_first T s a.funcs.now a.acts.now a.places.now a.rows.now known a.e below vs in-sorts c.wide-p.result c.first_values-first.result.at a.params.now count c.first_values-first.ensures.0 (omega (arith, c.parameters.ensures.0, c.wide-p.ensures.0)) c.first_values-first.ensures.1.0 taken in
      c.fire_rows.ensures.1 T.sig (params_of T.equations) (equation T a.e).params vs (equation T a.e).summands rest (at_row T s a.funcs.now a.acts.now a.places.now a.rows.now known a.e below vs in-sorts) same (ap (λ (i : ℕ). drop i s) c.cell-row.ensures.0 ∙ here),
)
