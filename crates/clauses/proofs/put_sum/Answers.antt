-- The pieces of a sum stand one behind another.
use Rattle.clauses.proofs.Upto.{wrote_then}
use Rattle.clauses.proofs.put_sum.Goals as goal

pub returns : goal.returns
returns c = wrote_then c.requires c.put_bytes-a.ensures (λ h₁. wrote_then h₁ c.put_name-b.ensures (λ h₂. wrote_then h₂ c.put_byte-c.ensures (λ h₃. wrote_then h₃ c.put_sort-e.ensures (λ h₄. c.put_byte.ensures))))
