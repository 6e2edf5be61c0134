-- The equations from the lists that were laid: parameters first, summands behind them, zipped.
use mathlib.Core.Path.{◌≡◌, refl, sym, ap, subst, ◌∙◌}
use mathlib.Core.List.{List, [], ◌∷◌}
use Rattle.std.specs.Prelude.{Option, Some, None, MatchOption}
use Prim.Native.Nat.{ℕ, ◌≤◌}
use native.Mathlib.Omega.{arith}
use lib.ListN.{length, take, drop}
use lib.Seq.{length-take-le}
use Rattle.pcrl.specs.Limits.{max_equations, frame_width}
use Rattle.pcrl.specs.Tests.{between?}
use Rattle.pcrl.specs.Reader.{missing, found, bind, pair, view, counted, each}
use Rattle.pcrl.specs.Sheet.{Sig}
use Rattle.pcrl.specs.Table.{Summand, params_of, summands_of}
use Rattle.pcrl.specs.Stream.{encode_numbers, encode_list, encode_summand}
use Rattle.pcrl.specs.Decode.{read_sorts, read_summands, zip, to_equations, read_equations}
use Rattle.codec.specs.StreamLaws.{list_law, sorts_law}
use Rattle.terms.specs.Stands.{Standing}
use Rattle.terms.specs.Laid.{Laid}
use Rattle.terms.proofs.Places.{as_many}
use Rattle.equations.specs.declared.SummandRows.{SummandRows}
use Rattle.equations.specs.Reading.{KnownSig, KnownRows, RowsRead, EquationsRead}
use Rattle.equations.proofs.EachRow.{total_is}

zip_params : (ps : List (List ℕ)) (hs : List (List Summand)) → length ps ≡ length hs → params_of (zip ps hs) ≡ ps
unfolding params_of zip
zip_params [] hs e = refl
zip_params (p ∷ ps) [] e = absurd (omega arith)
zip_params (p ∷ ps) (h ∷ hs) e = let z : length ps ≡ length hs = omega arith in ap (λ (l : List (List ℕ)). p ∷ l) (zip_params ps hs z)

zip_summands : (ps : List (List ℕ)) (hs : List (List Summand)) → length ps ≡ length hs → summands_of (zip ps hs) ≡ hs
unfolding summands_of zip
zip_summands [] [] e = refl
zip_summands [] (h ∷ hs) e = absurd (omega arith)
zip_summands (p ∷ ps) [] e = absurd (omega arith)
zip_summands (p ∷ ps) (h ∷ hs) e = let z : length ps ≡ length hs = omega arith in ap (λ (l : List (List Summand)). h ∷ l) (zip_summands ps hs z)

-- what a callee laid, said of the signature's sorts
pub params_laid : (S : Sig) (s sizes places : List ℕ) (at : ℕ) (e : Option ℕ) → sizes ≡ S.sorts
    → Laid (counted (between? 1 max_equations) (read_sorts sizes frame_width) (drop at s)) encode_numbers s e places
    → Laid (counted (between? 1 max_equations) (read_sorts S.sorts frame_width) (drop at s)) encode_numbers s e places
params_laid S s sizes places at e is h = subst (λ (l : List ℕ). Laid (counted (between? 1 max_equations) (read_sorts l frame_width) (drop at s)) encode_numbers s e places) is h

module _ (S : Sig) (s sizes funcs acts : List ℕ) (sig : KnownSig S s sizes funcs acts) (at : ℕ) where
  pub no_params : (places : List ℕ) → Laid (counted (between? 1 max_equations) (read_sorts S.sorts frame_width) (drop at s)) encode_numbers s None places → read_equations S (drop at s) ≡ missing
  unfolding Laid read_equations view pair bind
  no_params places h = rw h

  module _ (i : ℕ) (params : List ℕ) (laid : Laid (counted (between? 1 max_equations) (read_sorts S.sorts frame_width) (drop at s)) encode_numbers s (Some i) params) where
    known_rows : (Ps : List (List ℕ)) × KnownRows S Ps s params × (counted (between? 1 max_equations) (read_sorts S.sorts frame_width) (drop at s) ≡ found Ps (drop i s))
    unfolding Laid
    known_rows =
        let (Ps, e, st) = laid in
        let (a, b) = (list_law (between? 1 max_equations) (sorts_law S sig.right frame_width)).back (drop at s) Ps (drop i s) e in
        (Ps, record { params_known = st; rights = b.1 }, e)

    -- the equations, by the answer of the reader of their summands
    abbrev pub Answer : List ℕ → Option SummandRows → Type 0
    Answer rows r = MatchOption r (read_equations S (drop at s) ≡ missing) (λ (x : SummandRows). EquationsRead S s at x.at x.total params rows)

    equations_by : (r : Option SummandRows) (rows : List ℕ) (Ps : List (List ℕ)) → KnownRows S Ps s params → counted (between? 1 max_equations) (read_sorts S.sorts frame_width) (drop at s) ≡ found Ps (drop i s)
        → length params ≡ length rows → RowsRead (each (read_summands S Ps) Ps (drop i s)) s rows r → Answer rows r
    unfolding Laid EquationsRead read_equations to_equations view pair bind
    equations_by None rows Ps q e z h = rw (e, h)
    equations_by (Some r) rows Ps q e z h =
        let (hs, f, st) = h.0 in
        let a : length Ps ≡ length hs = as_many encode_numbers s Ps params q.params_known ∙ z ∙ sym (as_many (encode_list encode_summand) s hs rows st) in
        let p : params_of (zip Ps hs) ≡ Ps = zip_params Ps hs a in
        let w : summands_of (zip Ps hs) ≡ hs = zip_summands Ps hs a in
        let st' : Standing (encode_list encode_summand) s (summands_of (zip Ps hs)) rows = subst (λ (l : List (List Summand)). Standing (encode_list encode_summand) s l rows) (sym w) st in (
          zip Ps hs,
          record {
            reads = rw (e, f);
            params_known = subst (λ (l : List (List ℕ)). Standing encode_numbers s l params) (sym p) q.params_known;
            rows_stand = st';
            total_is = h.1 ∙ total_is s (zip Ps hs) rows st';
          },
        )

    pub equations_read : (r : Option SummandRows) (rows : List ℕ) → length params ≡ length rows
        → ((Ps : List (List ℕ)) → KnownRows S Ps s params → RowsRead (each (read_summands S Ps) Ps (drop i s)) s rows r) → Answer rows r
    equations_read r rows z h = let (Ps, q, e) = known_rows in equations_by r rows Ps q e z (h Ps q)

-- the same where the lists are the first n of lent places
pub rows_read : (S : Sig) (s sizes funcs acts : List ℕ) → KnownSig S s sizes funcs acts → (at i n n' m : ℕ) (r : Option SummandRows) (params rows : List ℕ) → n' ≡ n → m ≡ n → n ≤ length params → n ≤ length rows
    → Laid (counted (between? 1 max_equations) (read_sorts S.sorts frame_width) (drop at s)) encode_numbers s (Some i) (take n params)
    → ((Ps : List (List ℕ)) → KnownRows S Ps s (take n' params) → RowsRead (each (read_summands S Ps) Ps (drop i s)) s (take m rows) r)
    → MatchOption r (read_equations S (drop at s) ≡ missing) (λ (x : SummandRows). EquationsRead S s at x.at x.total (take n params) (take n rows))
rows_read S s sizes funcs acts sig at i n n' m r params rows y z h k laid f =
    equations_read S s sizes funcs acts sig at i (take n params) laid r (take n rows) (length-take-le n params h ∙ sym (length-take-le n rows k))
    (λ Ps q. subst (λ (x : ℕ). RowsRead (each (read_summands S Ps) Ps (drop i s)) s (take x rows) r) z (f Ps (subst (λ (x : ℕ). KnownRows S Ps s (take x params)) (sym y) q)))
