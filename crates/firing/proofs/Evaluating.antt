-- Terms one behind another: each is worth its value, and the next one stands where it ends.
use mathlib.Core.Path.{◌≡◌, refl, sym, ap, ap₂, ◌∙◌}
use mathlib.Core.List.{List, [], ◌++◌, map}
use Prim.Native.Nat.{ℕ, ◌+◌, ◌-◌, ◌≤◌, ◌<◌}
use native.Mathlib.Omega.{arith}
use lib.ListN.{length, get_or, take, drop, set, length-append, length-drop, length-map, drop_of_length-le}
use lib.Seq.{drop-drop, take_at, drop_at, take_all}
use Rattle.pcrl.specs.Tests.{Each}
use Rattle.pcrl.specs.Reader.{all}
use Rattle.pcrl.specs.Sheet.{Data, val, Sig}
use Rattle.pcrl.specs.Values.{eval}
use Rattle.pcrl.specs.Stream.{encode_data}
use Rattle.pcrl.specs.Right.{RightTerm}
use Rattle.laws.specs.Each.{each_at, each_length}
use Rattle.laws.specs.Lists.{get_d_map}
use Rattle.laws.specs.TermLength.{max_term, term_length}
use Rattle.blocks.proofs.Fronts.{copied_more}
use Rattle.evaluation.specs.Run.{extent, run, top}
use Rattle.evaluation.proofs.Bytes.{extent_none}
use Rattle.evaluation.proofs.Terms.{some_byte, extent_data, value_is}
use Rattle.opening.proofs.Standing.{all_first}
use Rattle.firing.specs.Known.{Valued}

module _ (S : Sig) (s funcs e Γ vs : List ℕ) (valued : Valued S s funcs e Γ vs) where
  module _ (d : Data) (D : ℕ) (right : RightTerm S Γ D d) (a : ℕ) (more : List ℕ) (here : drop a s ≡ encode_data d ++ more) (end : ℕ) (is_end : end ≡ a + extent s funcs (drop a s) 1) where
    ends : end ≡ a + length (encode_data d)
    ends =
        let x : extent s funcs (drop a s) 1 ≡ length (encode_data d) + extent s funcs more 0 = ap (λ (y : List ℕ). extent s funcs y 1) here ∙ extent_data S s funcs valued.known Γ valued.short d D more 0 right.0 in
        let z = extent_none s funcs more in omega arith

    pub term_rest : drop end s ≡ more
    term_rest = ap (λ (n : ℕ). drop n s) ends ∙ sym (drop-drop (length (encode_data d)) a s) ∙ ap (drop (length (encode_data d))) here ∙ drop_at (encode_data d) more (length (encode_data d)) refl

    inside : end ≤ length s
    inside =
        let l = ap length here in
        let p = some_byte S Γ d D right.0 in
        let e' = ends in
        omega (arith, length-drop a s, length-append (encode_data d) more)

    pub term_worth : (v : ℕ) → (a ≤ end → end ≤ a + max_term → end ≤ length s → v ≡ top (run s funcs e (take (end - a) (drop a s)))) → v ≡ eval S vs d
    term_worth v ev =
        let n = term_length S Γ D d right in
        let e' = ends in
        let z : end - a ≡ length (encode_data d) = omega arith in
        ev (omega arith) (omega arith) inside
        ∙ ap (λ (c : List ℕ). top (run s funcs e c)) (ap₂ (λ (k : ℕ) (y : List ℕ). take k y) z here ∙ take_at (encode_data d) more (length (encode_data d)) refl)
        ∙ value_is S s funcs valued.known Γ valued.short vs valued.in_sorts e d D valued.alike right.0

-- what is known before the i-th of n terms, which begins at a: the values of those before it stand over the front of o, and make it out
unfoldable pub Valuing : List ℕ → List ℕ → List ℕ → ℕ → ℕ → List ℕ → List ℕ → ℕ → ℕ → Type 0
Valuing s funcs e at n o out a i =
    (S : Sig) (Γ vs Ds : List ℕ) (ds : List Data) (rest : List ℕ) → Valued S s funcs e Γ vs → Each (RightTerm S Γ) Ds ds → length ds ≡ n → drop at s ≡ all encode_data ds ++ rest
    → (out ≡ take i (map (eval S vs) ds) ++ drop i o) × (drop a s ≡ all encode_data (drop i ds) ++ rest)

module _ (s funcs e : List ℕ) (at n : ℕ) (o : List ℕ) where
  pub valuing_none : Valuing s funcs e at n o o at 0
  unfolding Valuing
  valuing_none S Γ vs Ds ds rest valued right l here = (refl, here)

  pub valuing_more : (out : List ℕ) (a i end v : ℕ) → i < n → n ≤ length o → end ≡ a + extent s funcs (drop a s) 1
      → (a ≤ end → end ≤ a + max_term → end ≤ length s → v ≡ top (run s funcs e (take (end - a) (drop a s)))) → Valuing s funcs e at n o out a i → Valuing s funcs e at n o (set out i v) end (i + 1)
  unfolding Valuing
  valuing_more out a i end v k room ee ev old S Γ vs Ds ds rest valued right l here =
      let (written, left) = old S Γ vs Ds ds rest valued right l here in
      let d : Data = get_or ds i (val 0) in
      let below : i < length ds = omega arith in
      let m = each_length (RightTerm S Γ) Ds ds right in
      let r : RightTerm S Γ (get_or Ds i 0) d = each_at (RightTerm S Γ) Ds ds i 0 (val 0) (omega arith) right in
      let more : List ℕ = all encode_data (drop (i + 1) ds) ++ rest in
      let here' : drop a s ≡ encode_data d ++ more = left ∙ all_first encode_data ds i (val 0) rest below in
      let w : v ≡ get_or (map (eval S vs) ds) i 0 = term_worth S s funcs e Γ vs valued d (get_or Ds i 0) r a more here' end ee v ev ∙ sym (get_d_map (eval S vs) ds i (val 0) 0 below) in
      let n' = length-map ds (eval S vs) in (
        ap₂ (λ (x : List ℕ) (y : ℕ). set x i y) written w ∙ copied_more i (map (eval S vs) ds) o (omega arith) (omega arith),
        term_rest S s funcs e Γ vs valued d (get_or Ds i 0) r a more here' end ee,
      )

  pub valuing_all : (out : List ℕ) (a i : ℕ) → i ≡ n → Valuing s funcs e at n o out a i
      → (S : Sig) (Γ vs Ds : List ℕ) (ds : List Data) (rest : List ℕ) → Valued S s funcs e Γ vs → Each (RightTerm S Γ) Ds ds → length ds ≡ n → drop at s ≡ all encode_data ds ++ rest
      → (out ≡ map (eval S vs) ds ++ drop n o) × (drop a s ≡ rest)
  unfolding Valuing all
  valuing_all out a i z old S Γ vs Ds ds rest valued right l here =
      let (written, left) = old S Γ vs Ds ds rest valued right l here in
      let none : drop i ds ≡ [] = drop_of_length-le ds {i = i} (omega arith) in
      let n' = length-map ds (eval S vs) in
      let whole : take i (map (eval S vs) ds) ≡ map (eval S vs) ds = take_all i (map (eval S vs) ds) (omega arith) in
      (written ∙ ap₂ (λ (x : List ℕ) (k : ℕ). x ++ drop k o) whole z, left ∙ ap (λ (l : List Data). all encode_data l ++ rest) none)
