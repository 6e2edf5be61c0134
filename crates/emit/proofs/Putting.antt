-- Laws of `PutsTo`: nothing, one byte, one list behind another.
use mathlib.Core.Path.{◌≡◌, refl, sym, ap, ap₂, subst, ◌∙◌}
use mathlib.Core.List.{List, [], ◌∷◌, ◌++◌, append_assoc, append-nil}
use Prim.Native.Nat.{ℕ, zero, suc, ◌+◌, ◌%◌, ◌≤◌, ◌<◌}
use native.Mathlib.Decide.{dec_le}
use native.Mathlib.Numerals.{add-one}
use native.Mathlib.Omega.{arith}
use lib.ListN.{length, take, set, length-append, length-set}
use lib.Seq.{take-suc-set}
use Rattle.pcrl.specs.Blocks.{concatenated}
use Rattle.codec.specs.Cut.{concatenated_zero, concatenated_last}
use Rattle.nodes.specs.Layout.{byte_limit}
use Rattle.emit.specs.Putting.{PutsTo, NoRoom}

pub puts_none : (w : ℕ) (o : List ℕ) → PutsTo [] w o w o
puts_none w o = record { same = refl; fits = λ h. (omega arith, sym (append-nil (take w o))); over = λ h. omega arith; inside = λ h. h }

pub puts_one : (b w : ℕ) (o : List ℕ) → w < length o → PutsTo (b ∷ []) w o (w + 1) (set o w b)
puts_one b w o h = record { same = length-set o w b; fits = λ k. (refl, ap (λ (n : ℕ). take n (set o w b)) (add-one w) ∙ take-suc-set o w b h); over = λ k. absurd (omega arith); inside = λ k. omega arith }

pub no_place : (b w : ℕ) (o : List ℕ) → length o ≤ w → NoRoom (b ∷ []) w o o
no_place b w o h = record { same = refl; over = omega arith }

-- no room for more than there was no room for
pub no_room_as : {e d : List ℕ} {w : ℕ} {o p : List ℕ} → length e ≤ length d → NoRoom e w o p → NoRoom d w o p
no_room_as l h = record { same = h.same; over = let k = h.over in omega arith }

-- ONE LIST BEHIND ANOTHER
pub puts_then : {e d : List ℕ} {w : ℕ} {o : List ℕ} {v : ℕ} {p : List ℕ} {r : ℕ} {q : List ℕ} → PutsTo e w o v p → PutsTo d v p r q → PutsTo (e ++ d) w o r q
puts_then {e} {d} {w} {o} {v} {p} {r} {q} f g =
    let size = length-append e d in
    let sf = f.same in
    let sg = g.same in
    record {
      same = sg ∙ sf;
      fits = λ h.
          let a = f.fits (omega arith) in
          let b = g.fits (omega (arith, a.0)) in
          (omega (arith, a.0, b.0), b.1 ∙ ap (λ (l : List ℕ). l ++ d) a.1 ∙ append_assoc (take w o) e d);
      over = λ h. elim (dec_le (w + length e) (length o)) [
        | yes k ↦ let a = f.fits k in omega (arith, g.over (omega (arith, a.0)))
        | no k ↦ omega (arith, g.over (omega (arith, f.over (omega arith))))
      ];
      inside = λ h. omega (arith, g.inside (omega (arith, f.inside h)));
    }

-- the first had no room, or the second behind it
pub no_room_first : {e : List ℕ} (d : List ℕ) {w : ℕ} {o p : List ℕ} → NoRoom e w o p → NoRoom (e ++ d) w o p
no_room_first {e} d h = no_room_as (omega (arith, length-append e d)) h

pub no_room_then : {e d : List ℕ} {w : ℕ} {o : List ℕ} {v : ℕ} {p q : List ℕ} → PutsTo e w o v p → NoRoom d v p q → NoRoom (e ++ d) w o q
no_room_then {e} {d} {w} {o} {v} {p} {q} f g =
    let size = length-append e d in
    let sf = f.same in
    let sg = g.same in
    record {
      same = sg ∙ sf;
      over = elim (dec_le (w + length e) (length o)) [
        | yes k ↦ let a = (f.fits k).0 in let b = g.over in omega arith
        | no k ↦ omega arith
      ];
    }

pub puts_as : {e d : List ℕ} (w : ℕ) (o : List ℕ) (v : ℕ) (p : List ℕ) → e ≡ d → PutsTo e w o v p → PutsTo d w o v p
puts_as w o v p z h = subst (λ (l : List ℕ). PutsTo l w o v p) z h

-- a loop that puts one part after another, behind e
module _ (e : List ℕ) (f : ℕ → List ℕ) (w : ℕ) (o : List ℕ) where
  pub concatenated_none : (v : ℕ) (p : List ℕ) → PutsTo e w o v p → PutsTo (e ++ concatenated 0 f) w o v p
  concatenated_none v p h = puts_as w o v p (sym (append-nil e) ∙ ap (λ (l : List ℕ). e ++ l) (sym (concatenated_zero f))) h

  pub concatenated_more : (i v : ℕ) (p : List ℕ) (r : ℕ) (q : List ℕ) → PutsTo (e ++ concatenated i f) w o v p → PutsTo (f i) v p r q → PutsTo (e ++ concatenated (i + 1) f) w o r q
  concatenated_more i v p r q h k =
      puts_as w o r q (append_assoc e (concatenated i f) (f i) ∙ ap (λ (l : List ℕ). e ++ l) (sym (concatenated_last i f)) ∙ ap (λ (n : ℕ). e ++ concatenated n f) (sym (add-one i))) (puts_then h k)

-- a count, and behind it as many parts
pub counted_put : (f : ℕ → List ℕ) (n b i w : ℕ) (o : List ℕ) (v : ℕ) (p : List ℕ) (r : ℕ) (q : List ℕ) → b ≡ n % byte_limit → i ≡ n → PutsTo (b ∷ []) w o v p → PutsTo (concatenated i f) v p r q
    → PutsTo ((n % byte_limit ∷ []) ++ concatenated n f) w o r q
counted_put f n b i w o v p r q eb ei h k = puts_as w o r q (ap₂ (λ (x y : ℕ). (x ∷ []) ++ concatenated y f) eb ei) (puts_then h k)

-- so many parts are no shorter than fewer
pub concatenated_longer : (f : ℕ → List ℕ) (i n : ℕ) → i ≤ n → length (concatenated i f) ≤ length (concatenated n f)
concatenated_longer f i zero h = let z : i ≡ zero = omega arith in omega (arith, ap (λ (k : ℕ). length (concatenated k f)) z)
concatenated_longer f i (suc n) h = elim (dec_le i n) [
  | yes k ↦ omega (arith, concatenated_longer f i n k, ap length (concatenated_last n f), length-append (concatenated n f) (f n))
  | no k ↦ let z : i ≡ suc n = omega arith in omega (arith, ap (λ (k : ℕ). length (concatenated k f)) z)
]

-- no room for part i of n
pub concatenated_no_room : (f : ℕ → List ℕ) (n i w : ℕ) (o : List ℕ) (v : ℕ) (p q : List ℕ) → i < n → PutsTo (concatenated i f) w o v p → NoRoom (f i) v p q → NoRoom (concatenated n f) w o q
concatenated_no_room f n i w o v p q h k g =
    no_room_as (omega (arith, ap length (concatenated_last i f), concatenated_longer f (suc i) n (omega arith))) (no_room_then k g)

-- nor behind their count
pub counted_no_room : (f : ℕ → List ℕ) (n b i w : ℕ) (o : List ℕ) (v : ℕ) (p : List ℕ) (r : ℕ) (q t : List ℕ) → i < n → PutsTo (b ∷ []) w o v p → PutsTo (concatenated i f) v p r q → NoRoom (f i) r q t
    → NoRoom ((n % byte_limit ∷ []) ++ concatenated n f) w o t
counted_no_room f n b i w o v p r q t l h k g = let g' = concatenated_no_room f n i v p r q t l k g in no_room_as (omega arith) (no_room_then h g')
