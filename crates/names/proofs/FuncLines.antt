-- The functions' rows and values: each line's behind those of the lines before.
use mathlib.Core.Path.{◌≡◌, refl, sym, ◌∙◌, ap}
use mathlib.Core.List.{List, [], ◌∷◌, ◌++◌, map, append_assoc}
use mathlib.Core.Bool.{true, false}
use Prim.Native.Nat.{ℕ, zero, suc, ◌+◌, ◌*◌, ◌-◌, ◌≤◌, ◌<◌, min}
use native.Mathlib.Omega.{arith}
use lib.ListN.{length, take, drop, get_or, set, length-append, take-append-drop}
use lib.Seq.{take-take, take-nil, drop_at, take-append_seam, length-take-le, get_or-set_same, get_or-set_other}
use Rattle.pcrl.specs.Limits.{max_numeral}
use Rattle.pcrl.specs.Tests.{Every}
use Rattle.pcrl.specs.Reader.{all}
use Rattle.pcrl.specs.Tree.{FuncLine}
use Rattle.pcrl.specs.Sheet.{Func, no_func}
use Rattle.pcrl.specs.Names.{Names, resolve_func}
use Rattle.grammar.specs.Formed.{FormedFunc}
use Rattle.laws.specs.Each.{each_length}
use Rattle.parser.specs.Cells.{enc_func, enc_numeral}
use Rattle.nodes.specs.Held.{func_width, FuncAt}
use Rattle.std.specs.Prelude.{Some, None}
use Rattle.names.specs.NameCells.{byte_of}
use Rattle.names.specs.Standing.{symbols, At, LinesAt}
use Rattle.names.specs.Items.{item_count, item_values}
use Rattle.names.specs.Rows.{Kept, InRows, sorts_at, FuncRow, FuncRead, FuncRows, SmallValues}
use Rattle.names.proofs.Items.{count_is, values_are}
use Rattle.names.proofs.Kept.{kept_at, sorts_kept, yields_none, yields_some, each_next, every_at}
use Rattle.names.proofs.Filled.{Gone, gone_none, gone_stops, gone_goes, gone_ends}

-- PARTS OF LISTS

take_drop : {A : Type 0} (p k q : ℕ) (l : List A) → q ≡ p + k → take k (drop p l) ≡ drop p (take q l)
take_drop zero k q l e = let z : q ≡ k = omega arith in rw z
take_drop (suc p) k q [] e = take-nil k ∙ sym (ap (drop (suc p)) (take-nil q))
take_drop (suc p) k zero (a ∷ l) e = absurd (omega arith)
take_drop (suc p) k (suc q) (a ∷ l) e = take_drop p k q l (omega arith)

-- what stands before w is still there
pub part_kept : (w : ℕ) (l l' : List ℕ) (p : ℕ) (e rest : List ℕ) → Kept w l l' → drop p l ≡ e ++ rest → p + length e ≤ w → drop p l' ≡ e ++ drop (length e) (drop p l')
part_kept w l l' p e rest k h b =
    let q = p + length e in
    let t : take q l' ≡ take q l = sym (take-take q w l' b) ∙ (ap (take q) k.before ∙ take-take q w l b) in
    let g : take (length e) (drop p l') ≡ e = take_drop p (length e) q l' refl ∙ (ap (drop p) t ∙ (sym (take_drop p (length e) q l refl) ∙ (ap (take (length e)) h ∙ take-append_seam e rest))) in
    sym (take-append-drop (length e) (drop p l')) ∙ ap (λ (x : List ℕ). x ++ drop (length e) (drop p l')) g

-- what was written behind w stands there
pub part_written : (w q : ℕ) (l l' e : List ℕ) → w ≤ length l → take q l' ≡ take w l ++ e → drop w l' ≡ e ++ drop q l'
part_written w q l l' e h k =
    let z : l' ≡ take w l ++ (e ++ drop q l') = sym (take-append-drop q l') ∙ (ap (λ (x : List ℕ). x ++ drop q l') k ∙ append_assoc (take w l) e (drop q l')) in
    ap (drop w) z ∙ drop_at (take w l) (e ++ drop q l') w (length-take-le w l h)

bytes_small : (vs : List ℕ) → Every (λ v. v ≤ max_numeral) vs → map byte_of vs ≡ vs
unfolding Every byte_of
bytes_small [] h = refl
bytes_small (v ∷ vs) h = let z : min v 255 ≡ v = omega (arith, h.0) in let r = bytes_small vs h.1 in cc

-- THE LINES

abbrev pub all_values : List FuncLine → List ℕ
all_values ls = all (λ (l : FuncLine). l.values) ls

-- the row and the values of a function, before w
pub record FuncBefore (g : Func) (rows values places : List ℕ) (w j : ℕ) : Type 0 where
  pub row : FuncAt g rows values places j
  pub ends : get_or places (j + 1) 0 ≤ w

-- the arrays keep their lengths, and the values so far end at w
pub record Placed (rows₀ values₀ places₀ rows values places : List ℕ) (w i : ℕ) : Type 0 where
  pub row_same : length rows ≡ length rows₀
  pub value_same : length values ≡ length values₀
  pub place_same : length places ≡ length places₀
  pub within : w ≤ length values
  pub here : get_or places i 0 ≡ w

module _ (s cells sorts lines : List ℕ) where
  -- the first i lines have their rows, their values end at w, and there is room for the rest
  pub record FuncsOf (N : Names) (ls : List FuncLine) (rows values places : List ℕ) (w i : ℕ) : Type 0 where
    pub gone : Gone (resolve_func N) no_func (λ g j. FuncBefore g rows values places w j) ls i
    pub room : w + length (all_values (drop i ls)) ≤ length values

  abbrev pub FuncsGone : (rows values places : List ℕ) (w i : ℕ) → Type 0
  FuncsGone rows values places w i = (N : Names) (ls : List FuncLine) → N.sorts ≡ sorts_at s cells sorts → LinesAt enc_func s cells lines ls → Every FormedFunc ls → Every SmallValues ls
      → length (all_values ls) ≤ length values → FuncsOf N ls rows values places w i

  pub funcs_start : (rows values places : List ℕ) → FuncsGone rows values places 0 0
  funcs_start rows values places N ls n l f v b = record { gone = gone_none (resolve_func N) no_func (λ g j. FuncBefore g rows values places 0 j) ls; room = omega arith }

  pub funcs_stop : (rows values places rows' values' places' : List ℕ) (w i : ℕ) → i < length lines → length values' ≡ length values → FuncsGone rows values places w i
      → FuncRead s cells sorts (get_or lines i 0) rows' (4 * i) None → FuncRows s cells sorts lines rows' values' places' false
  funcs_stop rows values places rows' values' places' w i h z g a N ls n l f v b =
      let (x, d, at) = each_next (λ p l. At s cells (enc_func l) p) lines ls i l h in
      let few = every_at FormedFunc ls i x (drop (i + 1) ls) f d in
      rw (gone_stops (resolve_func N) no_func (λ g j. FuncBefore g rows values places w j) ls (drop (i + 1) ls) i x
      (g N ls n l f v (omega arith)).gone d (yields_none _ (resolve_func N x) (a N x at.0 n at.1 few))) refl

  pub funcs_end : (rows values places : List ℕ) (w i : ℕ) → length lines ≤ i → FuncsGone rows values places w i → FuncRows s cells sorts lines rows values places true
  funcs_end rows values places w i h g N ls n l f v b =
      gone_ends (resolve_func N) no_func (λ g j. FuncBefore g rows values places w j) (InRows no_func (λ g i. FuncAt g rows values places i)) ls i true (g N ls n l f v b).gone
      (omega (arith, each_length (λ p l. At s cells (enc_func l) p) lines ls l)) refl (λ bs m x j o. (x j (omega arith)).row)

  -- one more function: its row at 4 * i, its n values behind w, and where they end
  module _ (rows values places rows' values' : List ℕ) (w i n x q : ℕ) (h : i < length lines) (within : w ≤ length values) (here : get_or places i 0 ≡ w) (fits : i + 1 < length places)
      (g : FuncsGone rows values places w i) (k : Kept (4 * i) rows rows') (a : FuncRead s cells sorts (get_or lines i 0) rows' (4 * i) (Some q))
      (many : n ≡ item_count cells 2 q (length values - w)) (kv : Kept w values values') (wrote : take (w + n) values' ≡ take w values ++ map byte_of (item_values cells q n))
      (end : x ≡ w + n) where
    -- those before keep their rows and values
    before_kept : (y : Func) (j : ℕ) → j < i → FuncBefore y rows values places w j → FuncBefore y rows' values' (set places (i + 1) x) (w + n) j
    before_kept y j l b =
        let had = b.row in
        let p₀ : get_or (set places (i + 1) x) j 0 ≡ get_or places j 0 = get_or-set_other places (i + 1) j x 0 (λ z. omega arith) in
        let p₁ : get_or (set places (i + 1) x) (j + 1) 0 ≡ get_or places (j + 1) 0 = get_or-set_other places (i + 1) (j + 1) x 0 (λ z. omega arith) in
        let few = had.few in
        let last = had.values_end in
        let ends = b.ends in
        record {
          row = record {
            some_sort = had.some_sort;
            few = few;
            takes = sorts_kept (4 * i) rows rows' y.takes (func_width * j) k (omega arith) had.takes;
            gives = kept_at (4 * i) rows rows' (func_width * j + 3) k (omega arith) ∙ had.gives;
            values_are = (drop (length y.values) (drop (get_or places j 0) values'), rw p₀ (part_kept w values values' (get_or places j 0) y.values had.values_are.0 kv had.values_are.1 (omega arith)));
            values_end = p₁ ∙ (last ∙ ap (λ (m : ℕ). m + length y.values) (sym p₀));
          };
          ends = omega arith;
        }

    pub funcs_go : FuncsGone rows' values' (set places (i + 1) x) (w + n) (i + 1)
    unfolding FormedFunc all
    funcs_go N ls ns l f v b =
        let (y, d, at) = each_next (λ p l. At s cells (enc_func l) p) lines ls i l h in
        let formed = every_at FormedFunc ls i y (drop (i + 1) ls) f d in
        let small = every_at SmallValues ls i y (drop (i + 1) ls) v d in
        let size = kv.same in
        let G = g N ls ns l f v (omega arith) in
        let (z, e, t) = yields_some (λ z q. FuncRow z y (symbols s cells) at.0 rows' (4 * i) q) (resolve_func N y) q (a N y at.0 ns at.1 formed) in
        let left : length (all_values (drop i ls)) ≡ length y.values + length (all_values (drop (i + 1) ls)) = ap (λ (m : List FuncLine). length (all_values m)) d ∙ length-append y.values (all_values (drop (i + 1) ls)) in
        let room = G.room in
        let count = count_is s cells enc_numeral 1 (λ u. refl) y.values q (length values - w) at.0 t.next in
        let n_is : n ≡ length y.values = omega arith in
        let vals : map byte_of (item_values cells q n) ≡ z.values
        = ap (λ (m : ℕ). map byte_of (item_values cells q m)) n_is ∙ (ap (map byte_of) (values_are s cells y.values q at.0 t.next) ∙ (bytes_small y.values small ∙ sym t.values)) in
        let p₀ : get_or (set places (i + 1) x) i 0 ≡ w = get_or-set_other places (i + 1) i x 0 (λ u. omega arith) ∙ here in
        let p₁ : get_or (set places (i + 1) x) (i + 1) 0 ≡ x = get_or-set_same places (i + 1) x 0 fits in
        let arity = t.arity in
        let n_values : length z.values ≡ n = ap length t.values ∙ sym n_is in
        let least = formed.0.0 in
        let most = formed.0.1 in
        record {
          gone = gone_goes (resolve_func N) no_func (λ g j. FuncBefore g rows values places w j) (λ g j. FuncBefore g rows' values' (set places (i + 1) x) (w + n) j) ls i y z G.gone d e before_kept
              (record {
                row = record {
                  some_sort = omega arith;
                  few = omega arith;
                  takes = t.takes;
                  gives = t.gives;
                  values_are = (drop (w + n) values', rw p₀ (part_written w (w + n) values values' z.values within (wrote ∙ ap (λ (m : List ℕ). take w values ++ m) vals)));
                  values_end = omega arith;
                };
                ends = omega arith;
              });
          room = omega arith;
        }
