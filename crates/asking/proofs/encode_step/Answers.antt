-- Three names in their fields and what stands before them, over zeros.
use mathlib.Core.Path.{ap, ◌∙◌}
use mathlib.Core.List.{◌∷◌, ◌++◌}
use Prim.Native.Nat.{ℕ}
use Rattle.pcrl.specs.Limits.{max_name, max_sort_name}
use Rattle.pcrl.specs.Records.{filled, name_field}
use Rattle.asking.specs.Encoding.{answer_bytes}
use Rattle.asking.proofs.EncodingLaws.{step_put}
use Rattle.asking.proofs.encode_step.Goals as goal

pub returns : goal.returns
returns c = λ hn hf hs.
    let a = c.args in
    step_put c.low.result a.count a.v a.w a.name.now a.first.now a.second.now _ _ _ _ _ _ _ _ hn hf hs c.put_cell.ensures c.put_cell-2.ensures c.put_cell-3.ensures c.put_bytes.ensures
    ∙ ap (λ (d : ℕ). filled answer_bytes (2 ∷ d ∷ a.count ∷ a.v ∷ a.w ∷ (name_field max_name a.name.now ++ (name_field max_sort_name a.first.now ++ name_field max_sort_name a.second.now)))) c.low.ensures
