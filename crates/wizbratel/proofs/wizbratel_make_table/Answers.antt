-- The answer and the file are the maker's; the count is written where nothing was refused.
use mathlib.Core.Path.{◌∙◌}
use lib.ListN.{length}
use Rattle.pcrl.specs.Answers.{file_made}
use Rattle.refusals.proofs.Laws.{answered_number}
use Rattle.wizbratel.proofs.Counted.{count_left}
use Rattle.wizbratel.proofs.wizbratel_make_table.Goals as goal

pub returns : goal.returns
returns c =
    let a = c.args in
    let m = c.make_table-made in
    let x = file_made a.sheet.now (length a.out.now) in
    record {
      answer = c.report.ensures.0 ∙ answered_number _ x m.result m.ensures.answer;
      output = m.ensures.written;
      count = c.report.ensures.1 ∙ count_left x m.result a.written.now m.ensures.answer;
    }
