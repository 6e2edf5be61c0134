-- An answer in 72 bytes, as it is lent by a caller in C (`wizbratel_answer` of the header).
use Rattle.std.specs.Prelude.{List, [], ◌∷◌, ◌++◌, ℕ, ◌*◌, length, drop}
use Rattle.pcrl.specs.Reader.{all}
use Rattle.pcrl.specs.Result.{Result, refused, accepted}
use Rattle.pcrl.specs.Records.{filled, label_record}
use Rattle.pcrl.specs.Ask.{Answer}

abbrev pub answer_bytes : ℕ
answer_bytes = 72

-- the kind: 0 ended, 1 none, 2 a step, and a refusal its number; behind a step its depth and its label
unfoldable pub answer_fields : Answer → List ℕ
answer_fields Answer.ended = 0 ∷ []
answer_fields Answer.nothing = 1 ∷ []
answer_fields (Answer.stepped l d) = 2 ∷ d ∷ label_record l
answer_fields (Answer.refused n) = n ∷ []

-- all behind the fields are 0
unfoldable pub encode_answer : Answer → List ℕ
encode_answer a = filled answer_bytes (answer_fields a)

-- the lent bytes after a question: as they were after a refusal, and else the answer
unfoldable pub answer_after : Result Answer → List ℕ → List ℕ
answer_after (refused n) out = out
answer_after (accepted a) out = encode_answer a

-- the lent bytes after a list of questions: as they were after a refusal, and else the answers over their front
unfoldable pub answers_after : Result (List Answer) → List ℕ → List ℕ
answers_after (refused n) out = out
answers_after (accepted l) out = all encode_answer l ++ drop (answer_bytes * length l) out
