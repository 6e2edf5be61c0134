-- By the first byte.
use mathlib.Core.Path.{◌≡◌}
use native.Mathlib.Omega.{arith}
use lib.ListN.{get_or}
use Rattle.pcrl.specs.Stream.{names_code}
use Rattle.signature.proofs.read_sorts.Goals as goal

pub returns-then-peek-eq-NAMES_CODE : goal.returns-then-peek-eq-NAMES_CODE
returns-then-peek-eq-NAMES_CODE c =
    let mark : get_or c.args.s.now 0 0 ≡ names_code = omega arith in
    (c.read_with_names.ensures.0 mark, c.read_with_names.ensures.1)

pub returns : goal.returns
returns c = (c.read_without_names.ensures.0 (λ (e : get_or c.args.s.now 0 0 ≡ names_code). omega arith) _, c.read_without_names.ensures.1)
