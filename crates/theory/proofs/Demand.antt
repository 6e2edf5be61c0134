-- DEMAND 3 OF THE REQUEST is proved: its two sentences.
use Rattle.theory.proofs.Delivered.{first_delivered, last_delivered, at_once_delivered}
use Rattle.theory.specs.Demand.{FirstSentence, LastSentence, LastSentenceAtOnce}

pub first_sentence_holds : FirstSentence
first_sentence_holds A B = first_delivered A.bytes A.file A.room A.sheet A.table A.read A.made A.checked B.bytes B.file B.room B.sheet B.table B.read B.made B.checked

pub last_sentence_holds : LastSentence
last_sentence_holds A ks fs d p answers fs' d' c =
    let (each, (right, (u, run, equal))) = last_delivered A.bytes A.file A.room A.sheet A.table A.read A.made A.checked fs d ks answers fs' d' p c in
    record { each = each; frames_right = right; end = u; run = run; equal = equal }

pub at_once_holds : LastSentenceAtOnce
at_once_holds A ks fs d p =
    let (answers, fs', d', e, c) = at_once_delivered A.bytes A.file A.room A.sheet A.table A.read A.made A.checked fs d ks p in
    (answers, fs', d', e, last_sentence_holds A ks fs d p answers fs' d' c)
