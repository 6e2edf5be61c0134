-- Each kind of answer.
use mathlib.Core.Path.{◌∙◌}
use Rattle.asking.proofs.EncodingLaws.{encode_ended, encode_none, encode_stepped, encode_deep}
use Rattle.asking.proofs.encode.Goals as goal

pub returns-in-Ended : goal.returns-in-Ended
returns-in-Ended c = rw c.in-Ended.is (λ T right x there deep. c.encode_kind.ensures ∙ encode_ended T.sig)

pub returns-in-Nothing : goal.returns-in-Nothing
returns-in-Nothing c = rw c.in-Nothing.is (λ T right x there deep. c.encode_kind-in-Nothing.ensures ∙ encode_none T.sig)

pub returns-in-Stepped : goal.returns-in-Stepped
returns-in-Stepped c = rw c.in-Stepped.is (λ T right x there deep. c.encode_label.ensures T right x there deep ∙ encode_stepped T.sig _)

pub returns-in-TooDeep : goal.returns-in-TooDeep
returns-in-TooDeep c = rw c.in-TooDeep.is (λ T right x there deep. c.encode_kind-in-TooDeep.ensures ∙ encode_deep T.sig _ c.from.ensures)
