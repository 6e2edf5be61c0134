-- Four pieces; the start's equation and values stand in the stream.
use native.Mathlib.Omega.{arith}
use mathlib.Core.Path.{◌≡◌, sym, ap, ◌∙◌}
use Prim.Native.Nat.{ℕ}
use lib.ListN.{length, get_or}
use Rattle.texts.proofs.Writing.{wrote_fits, wrote_as}
use Rattle.declarations.proofs.Chains.{values_bracketed}
use Rattle.printer.proofs.Chained.{four}
use Rattle.printer.proofs.Params.{init_line}
use Rattle.printer.proofs.Known.{start_at, start_values, start_count, start_small}
use Rattle.printer.proofs.lines.put_init.Goals as goal

pub returns : goal.returns
returns c =
    let a = c.args in
    let all = four _ _ _ _ _ _ _ _ _ _ _ _ _ _ (omega (arith, c.requires)) c.put_bytes-a.ensures c.put_name-b.ensures (wrote_as _ _ _ _ _ _ (values_bracketed c.bytes_at-vs.result.now) c.put_bracketed-c.ensures) c.put_byte.ensures in
    let fits = wrote_fits _ _ _ _ _ all in
    record {
      upper_bound = (omega (arith, fits, all.same), all.same);
      wrote = λ T funcs acts rows k x h.
          let s = a.s.now in
          let e : c.wide-e.result ≡ T.start.0 = c.wide-e.ensures.0 ∙ c.peek.ensures ∙ start_at T s a.from h in
          let place = c.cell.ensures.0 ∙ ap (λ (n : ℕ). get_or a.params.now n 0) e in
          let n : length T.start.1 ≡ c.wide-n.result = sym (c.wide-n.ensures.0 ∙ c.peek-2.ensures ∙ ap (λ (q : ℕ). get_or s q 0) place ∙ start_count T s funcs acts a.params.now rows k) in
          let vs = c.bytes_at-vs.ensures T.start.1 (start_values T s a.from h) n in
          wrote_as _ _ _ _ _ _ (init_line T.sig a.l.now x T.start _ _ (start_small T s funcs acts a.params.now rows k) e vs) all;
    }
