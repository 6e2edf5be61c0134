-- A byte stored over the front of zeros.
use Rattle.asking.proofs.EncodingLaws.{kind_stored}
use Rattle.asking.proofs.encode_kind.Goals as goal

pub returns : goal.returns
returns c = kind_stored c.args.kind
