-- The whole table from its signature, equations and start; its bytes are those of the stream up to its end.
use mathlib.Core.Path.{◌≡◌, ap, ◌∙◌}
use mathlib.Core.List.{List, ◌++◌}
use mathlib.Core.Option.{Option}
use Prim.Native.Nat.{ℕ, ◌+◌, ◌<◌, ◌≤◌}
use native.Mathlib.Omega.{arith}
use lib.ListN.{length, drop, length-append}
use Rattle.pcrl.specs.Limits.{max_summands, max_stream}
use Rattle.pcrl.specs.Tests.{both?, at_most?}
use Rattle.pcrl.specs.Reader.{missing, found, Reader, bind, pair, view, test}
use Rattle.pcrl.specs.Tree.{Name}
use Rattle.pcrl.specs.Sheet.{Sig}
use Rattle.pcrl.specs.Table.{Equation, Layout, Table, summand_count}
use Rattle.pcrl.specs.Stream.{encode_sig, encode_equations, encode_start, encode}
use Rattle.pcrl.specs.Right.{RightSig}
use Rattle.pcrl.specs.Decode.{read_sig, read_equations, read_start, to_table, decode}
use Rattle.codec.specs.StreamLaws.{sig_law, equations_law, start_law}
use Rattle.terms.specs.Ends.{rests}
use Rattle.terms.proofs.Rests.{found_there, missing_there, test_bad, test_pass}
use Rattle.signature.specs.Reading.{SigAt, SigRead}
use Rattle.equations.specs.Reading.{KnownSig, EquationsAt, EquationsRead}
use Rattle.tables.specs.Indexed.{Decoded}

pub no_sig : (s : List ℕ) → read_sig s ≡ missing → decode s ≡ missing
unfolding decode test view pair bind
no_sig s h = rw h

-- the signature that was read
pub sig_there : (s : List ℕ) (o : Option (List Name)) (end : ℕ) (sizes funcs acts : List ℕ) → SigRead o s end sizes funcs acts → (L : Layout) × (S : Sig) × SigAt L S o s end sizes funcs acts × KnownSig S s sizes funcs acts
unfolding SigRead
sig_there s o end sizes funcs acts h =
    let (L, S, at) = h in
    (L, S, at, record { data_known = at.data_known; acts_known = at.acts_known; right = (sig_law.back s (L, S) (drop end s) at.reads).1.0 })

-- the equations that were read
pub equations_there : (S : Sig) (s : List ℕ) (at end total : ℕ) (params rows : List ℕ) → EquationsRead S s at end total params rows → (es : List Equation) × EquationsAt S es s at end total params rows
unfolding EquationsRead
equations_there S s at end total params rows h = h

-- a table without the last tests
parts : Reader ℕ Table
parts = view to_table (pair read_sig (λ x. pair (read_equations x.1) (λ es. read_start x.1 es)))

module _ (s : List ℕ) (L : Layout) (S : Sig) (i : ℕ) (sig : read_sig s ≡ found (L, S) (drop i s)) where
  pub no_equations : read_equations S (drop i s) ≡ missing → decode s ≡ missing
  unfolding decode test view pair bind
  no_equations h = rw (sig, h)

  module _ (es : List Equation) (j total : ℕ) (params rows : List ℕ) (at : EquationsAt S es s i j total params rows) where
    pub no_start : rests (read_start S es (drop j s)) ≡ missing → decode s ≡ missing
    unfolding decode test view pair bind
    no_start e = rw (sig, at.reads, missing_there (read_start S es (drop j s)) e)

    module _ (k : ℕ) (given : ℕ × List ℕ) (start : read_start S es (drop j s) ≡ found given (drop k s)) where
      table : Table
      table = to_table ((L, S), (es, given))

      parts_found : parts s ≡ found table (drop k s)
      unfolding parts table view pair bind
      parts_found = rw (sig, at.reads, start)

      many : max_summands < total → decode s ≡ missing
      unfolding decode parts table to_table
      many h =
          test_bad (λ T. both? (at_most? max_summands (summand_count T.equations)) (at_most? max_stream (length (encode T)))) parts s table (drop k s) parts_found
          (λ q. let l = q.0 in let z = at.total_is in omega arith)

      sig_right : (s ≡ encode_sig L S ++ drop i s) × RightSig S
      sig_right = let (a, b) = sig_law.back s (L, S) (drop i s) sig in (a, b.0)

      start_stands : drop j s ≡ encode_start table.start ++ drop k s
      unfolding table to_table
      start_stands = ((start_law S sig_right.1 es).back (drop j s) given (drop k s) start).0

      short : length (encode table) ≤ length s
      unfolding table to_table encode
      short =
          let a : length s ≡ length (encode_sig L S) + length (drop i s) = ap length sig_right.0 ∙ length-append (encode_sig L S) (drop i s) in
          let b : length (drop i s) ≡ length (encode_equations es) + length (drop j s) =
          ap length ((equations_law S sig_right.1).back (drop i s) es (drop j s) at.reads).0 ∙ length-append (encode_equations es) (drop j s) in
          let c : length (drop j s) ≡ length (encode_start table.start) + length (drop k s) = ap length start_stands ∙ length-append (encode_start table.start) (drop k s) in
          simp length-append (omega arith)

      whole : (o : Option (List Name)) (sizes funcs acts : List ℕ) → SigAt L S o s i sizes funcs acts → total ≤ max_summands → length s ≤ max_stream → Decoded s k sizes o funcs acts params rows j
      unfolding Decoded decode parts table to_table encode_sig
      whole o sizes funcs acts known h l = (
        table,
        test_pass (λ T. both? (at_most? max_summands (summand_count T.equations)) (at_most? max_stream (length (encode T)))) parts s table (drop k s) parts_found
            (let z = at.total_is in omega arith, let z = short in omega arith),
        record {
          sizes_are = known.data_known.sizes_are;
          layout_is = known.layout_is;
          names_are = known.names_are;
          funcs_stand = known.data_known.stand;
          acts_stand = known.acts_known;
          params_stand = at.params_known;
          rows_stand = at.rows_stand;
          start_stands = (drop k s, start_stands);
        },
      )

    module _ (k : ℕ) (start : rests (read_start S es (drop j s)) ≡ found tt (drop k s)) where
      pub too_many : max_summands < total → decode s ≡ missing
      too_many h = let (d, e) = found_there (read_start S es (drop j s)) (drop k s) start in many k d e h

      pub decoded : (o : Option (List Name)) (sizes funcs acts : List ℕ) → SigAt L S o s i sizes funcs acts → total ≤ max_summands → length s ≤ max_stream → Decoded s k sizes o funcs acts params rows j
      decoded o sizes funcs acts known h l = let (d, e) = found_there (read_start S es (drop j s)) (drop k s) start in whole k d e o sizes funcs acts known h l
