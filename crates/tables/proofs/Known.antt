-- What a reader of the stream has of a table that was read: it is right, and its sorts, functions, actions and parameters are known by the index.
use mathlib.Core.Path.{◌≡◌, refl}
use mathlib.Core.List.{List}
use mathlib.Core.Option.{Option, none, some}
use Prim.Native.Nat.{ℕ}
use native.Mathlib.Omega.{arith}
use lib.ListN.{length}
use Rattle.std.specs.Prelude as R
use Rattle.pcrl.specs.Limits.{max_arity}
use Rattle.pcrl.specs.Tests.{Between}
use Rattle.pcrl.specs.Reader.{Got, missing, found}
use Rattle.pcrl.specs.Sheet.{Func}
use Rattle.pcrl.specs.Table.{Table}
use Rattle.pcrl.specs.Tree.{Name}
use Rattle.pcrl.specs.Right.{RightFunc, RightSig, RightTable}
use Rattle.pcrl.specs.Decode.{decode}
use Rattle.pcrl.specs.Blocks.{Filled, filled?, table_in, table_read}
use Rattle.laws.specs.Every.{every_weaken}
use Rattle.codec.specs.StreamLaws.{encode_decode}
use Rattle.equations.specs.Reading.{KnownSig}
use Rattle.tables.specs.Indexed.{PartsAt, Indexed, TableRead}
use Rattle.tables.specs.declared.Index.{Index}

-- A table that question 14 accepts is right.
pub read_right : (s : List ℕ) (T : Table) → table_read s ≡ some T → RightTable T
unfolding table_read table_in
read_right s T e = go (decode s) refl e
  where
    taken : (U : Table) (rest : List ℕ) (d : Dec (Filled s U rest)) → elim d [ yes h ↦ some U | no h ↦ none ] ≡ some T → U ≡ T
    taken U rest (yes h) q = cc
    taken U rest (no h) q = absurd (let z : ◌≡◌ {A = ℕ} 0 1 = cc in omega arith)

    go : (g : Got ℕ Table) → decode s ≡ g → table_in s g ≡ some T → RightTable T
    go missing f q = absurd (let z : ◌≡◌ {A = ℕ} 0 1 = cc in omega arith)
    go (found U rest) f q = rw (taken U rest (filled? s U rest) q) at (encode_decode s U rest f).1

-- The index makes the signature known.
pub sig_by_index : (T : Table) (s sizes : List ℕ) (names : Option (List Name)) (funcs acts params rows : List ℕ) (start : ℕ) → PartsAt T s sizes names funcs acts params rows start → RightTable T → KnownSig T.sig s sizes funcs acts
unfolding RightTable RightSig RightFunc
sig_by_index T s sizes names funcs acts params rows start p h =
    record {
      data_known = record {
        sizes_are = p.sizes_are;
        stand = p.funcs_stand;
        arity = every_weaken (RightFunc T.sig.sorts) (λ (g : Func). Between 1 max_arity (length g.takes)) (λ g k. k.0.0) T.sig.funcs h.0.0.1.0.1;
      };
      acts_known = p.acts_stand;
      right = h.0.0;
    }

-- WHAT THE ANSWER SAYS

-- No index: no table.
pub table_none : (o : Option Table) (s : List ℕ) → TableRead o s R.None → o ≡ none
unfolding TableRead
table_none none s h = refl
table_none (some T) s h = absurd h

-- An index is that of the table that is read.
pub table_some : (o : Option Table) (s : List ℕ) (index : Index) → TableRead o s (R.Some index) → (T : Table) × (o ≡ some T) × Indexed T s index
unfolding TableRead
table_some none s index h = absurd h
table_some (some T) s index h = (T, refl, h)
