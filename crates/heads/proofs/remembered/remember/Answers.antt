-- `heads::remembered::remember` meets its contract.
use mathlib.Core.Path.{refl}
use mathlib.Core.List.{◌∷◌, []}
use Rattle.heads.proofs.Remembering.{remembers_put, finds_by}
use Rattle.heads.proofs.remembered.remember.Goals as goal

pub put_entry-requires : goal.put_entry-requires
put_entry-requires c = (c.free-i.ensures, c.requires.0.long, refl)

pub shape_of-l : goal.shape_of-l
shape_of-l c = c.put_entry.auto.l

pub returns-then-fits : goal.returns-then-fits
returns-then-fits c = let a = c.args in let ft = c.fits.ensures c.if-fits.true in remembers_put a.cells.now a.counts.now a.l.now c.put_entry.new.l c.free-i.result (c.short.result ∷ c.short-then-fits.result ∷ c.short-then-fits-2.result ∷ c.short-then-fits-3.result ∷ c.short-then-fits-4.result ∷ c.short-then-fits-5.result ∷ c.short-then-fits-6.result ∷ c.short-then-fits-7.result ∷ c.short-then-fits-8.result ∷ []) c.requires.0 c.free-i.ensures c.put_entry.auto.l c.put_entry.ensures (λ some. finds_by a.cells.now a.counts.now a.base a.heads a.p a.f c.requires.1 c.short.result c.short-then-fits.result c.short-then-fits-2.result c.short-then-fits-3.result c.short-then-fits-4.result c.short-then-fits-5.result c.short-then-fits-6.result c.short-then-fits-7.result c.short-then-fits-8.result (c.short.ensures ft.p_fits) (c.short-then-fits.ensures ft.base_fits) (c.short-then-fits-2.ensures ft.heads_fit) (c.short-then-fits-3.ensures ft.at_fits) (c.short-then-fits-4.ensures ft.own_fits) (c.short-then-fits-5.ensures ft.next_fits) (c.short-then-fits-6.ensures ft.after_fits) (c.short-then-fits-7.ensures ft.counted_fit) (c.short-then-fits-8.ensures ft.new_fit))

pub returns-else-fits : goal.returns-else-fits
returns-else-fits c = c.requires.0
