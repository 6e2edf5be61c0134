-- `sheet::line` meets its contract, kind by kind.
use mathlib.Core.Path.{sym, subst}
use Prim.Native.Nat.{◌+◌, ◌*◌}
use native.Mathlib.Omega.{arith}
use Rattle.parser.proofs.RunLaws.{sort_kind_is, func_kind_is, act_kind_is, proc_kind_is}
use Rattle.parser.specs.Reading.{Read}
use lib.ListN.{length}
use Rattle.parser.proofs.sheet.line.Goals as goal

pub returns-then-word-eq-SORT-clause-read : goal.returns-then-word-eq-SORT-clause-read
returns-then-word-eq-SORT-clause-read c =
    let at-sort-line = c.sort_line in
    let at-if1 = c.if-word-eq-SORT in
    subst (λ K. Read (5 * length c.args.toks.now + 4) K.enc K.reader c.args.toks.now c.args.at c.args.w c.args.out.now at-sort-line.result at-sort-line.new.out) (sym (sort_kind_is c.args.word at-if1.true)) (λ s f l. at-sort-line.ensures.read s f (omega arith))

pub returns-then-word-eq-FUNC-clause-read : goal.returns-then-word-eq-FUNC-clause-read
returns-then-word-eq-FUNC-clause-read c =
    let at-func-line = c.func_line in
    let at-if2 = c.if-word-eq-FUNC in
    subst (λ K. Read (5 * length c.args.toks.now + 4) K.enc K.reader c.args.toks.now c.args.at c.args.w c.args.out.now at-func-line.result at-func-line.new.out) (sym (func_kind_is c.args.word at-if2.true)) (λ s f l. at-func-line.ensures.read s f (omega arith))

pub returns-then-word-eq-ACT-clause-read : goal.returns-then-word-eq-ACT-clause-read
returns-then-word-eq-ACT-clause-read c =
    let at-act-line = c.act_line in
    let at-if3 = c.if-word-eq-ACT in
    subst (λ K. Read (5 * length c.args.toks.now + 4) K.enc K.reader c.args.toks.now c.args.at c.args.w c.args.out.now at-act-line.result at-act-line.new.out) (sym (act_kind_is c.args.word at-if3.true)) (λ s f l. at-act-line.ensures.read s f (omega arith))

pub returns-clause-read : goal.returns-clause-read
returns-clause-read c =
    let at-proc-line = c.proc_line in
    let at-if1 = c.if-word-eq-SORT in
    let at-if2 = c.if-word-eq-FUNC in
    let at-if3 = c.if-word-eq-ACT in
    subst (λ K. Read (5 * length c.args.toks.now + 4) K.enc K.reader c.args.toks.now c.args.at c.args.w c.args.out.now at-proc-line.result at-proc-line.new.out) (sym (proc_kind_is c.args.word at-if1.false at-if2.false at-if3.false)) (λ s f l. at-proc-line.ensures.read s f (omega arith))
