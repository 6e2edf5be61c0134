-- How tokens are rendered one behind another: a mark but `=` never merges, a word and the name behind it do.
use Rattle.std.specs.Prelude.{◌≡◌, refl, List, [], ◌∷◌, ◌++◌, Bool, true, false, ℕ, eqb, get_or}
use Rattle.std.proofs.Common.{sym, ap, append-nil, arith}
use Rattle.std.proofs.Math.Decide.{ℕ_discrete}
use Rattle.pcrl.specs.Text.{bytes, byte, decimal}
use Rattle.pcrl.specs.Tests.{or, and, same?, among}
use Rattle.pcrl.specs.Bytes.{letter, digit, name_byte}
use Rattle.pcrl.specs.Tokens.{Token, name, numeral, sign, the, words}
use Rattle.pcrl.specs.Render.{blank_byte, write, goes_on, between, render}

-- nothing stands next, or a token whose first byte does not pass the test
unfoldable pub Avoids : (ℕ → Bool) → List Token → Type 0
Avoids test [] = Unit {0}
Avoids test (t ∷ ts) = test (get_or (write t) 0 0) ≡ false

pub avoids_append : (test : ℕ → Bool) (ts us : List Token) → Avoids test ts → Avoids test us → Avoids test (ts ++ us)
unfolding Avoids
avoids_append test [] us h k = k
avoids_append test (t ∷ ts) us h k = h

-- a mark, or nothing
abbrev pub Marked : List Token → Type 0
Marked ts = Avoids name_byte ts

-- nothing that begins with `=`
abbrev pub Unequal : List Token → Type 0
Unequal ts = Avoids (λ b. eqb b (byte "=")) ts

-- any token but `=`, which another `=` would go on with
abbrev pub Lone : Token → Type 0
Lone (name n) = Unit {0}
Lone (numeral v) = Unit {0}
Lone (sign w) = among w (bytes "=" ∷ []) ≡ false

-- with a byte that is in no name no such token goes on
pub stops : (t : Token) → Lone t → (b : ℕ) → name_byte b ≡ false → goes_on t b ≡ false
unfolding goes_on
stops (name n) l b e = e
stops (numeral v) l b e = by (letter b) (digit b) _ e
  where
    by : (c d f : Bool) → or c (or d f) ≡ false → d ≡ false
    by true d f e = absurd (let z : ◌≡◌ {A = Bool} true false = e in no_true z)
      where
        no_true : true ≡ false → ⊥
        no_true z = let y : ◌≡◌ {A = ℕ} 0 1 = cc in omega arith
    by false true f e = absurd (let y : ◌≡◌ {A = ℕ} 0 1 = cc in omega arith)
    by false false f e = refl
stops (sign w) l b e = by (among w words) (among w (bytes "=" ∷ [])) l
  where
    by : (c d : Bool) → d ≡ false → or (and c (name_byte b)) (and d (eqb b (byte "="))) ≡ false
    by true d f = rw (e, f)
    by false d f = rw f

-- two tokens that do not merge, and two that do
pub apart : (t u : Token) (us : List Token) → goes_on t (get_or (write u) 0 0) ≡ false → render (t ∷ u ∷ us) ≡ write t ++ render (u ∷ us)
unfolding render between
apart t u us e = ap (λ (c : Bool). write t ++ (elim c as (λ _. List ℕ) [ true ↦ blank_byte ∷ [] | false ↦ [] ] ++ render (u ∷ us))) e

pub merged : (t u : Token) (us : List Token) → goes_on t (get_or (write u) 0 0) ≡ true → render (t ∷ u ∷ us) ≡ write t ++ (blank_byte ∷ render (u ∷ us))
unfolding render between
merged t u us e = ap (λ (c : Bool). write t ++ (elim c as (λ _. List ℕ) [ true ↦ blank_byte ∷ [] | false ↦ [] ] ++ render (u ∷ us))) e

-- a token before a mark, or before nothing
pub before_mark : (t : Token) → Lone t → (us : List Token) → Marked us → render (t ∷ us) ≡ write t ++ render us
unfolding Avoids render
before_mark t l [] m = sym (append-nil (write t))
before_mark t l (u ∷ us) m = apart t u us (stops t l (get_or (write u) 0 0) m)

-- a mark but `=` before anything
pub mark_before : (w : List ℕ) → among w (bytes "=" ∷ words) ≡ false → (us : List Token) → render (sign w ∷ us) ≡ w ++ render us
unfolding render goes_on write among
mark_before w e [] = sym (append-nil w)
mark_before w e (u ∷ us) = apart (sign w) u us (by (same? w (bytes "=")) e)
  where
    by : (d : Dec (w ≡ bytes "=")) → (elim d [ yes f ↦ true | no f ↦ among w words ]) ≡ false
        → or (and (among w words) (name_byte (get_or (write u) 0 0))) (and (elim d [ yes f ↦ true | no f ↦ false ]) (eqb (get_or (write u) 0 0) (byte "="))) ≡ false
    by (yes f) g = absurd (let z : ◌≡◌ {A = ℕ} 0 1 = cc in omega arith)
    by (no f) g = rw g

-- `=` before anything that does not begin with it
pub equals_before : (us : List Token) → Unequal us → render (the "=" ∷ us) ≡ bytes "=" ++ render us
unfolding Avoids render goes_on write among words same? ℕ_discrete
equals_before [] h = refl
equals_before (u ∷ us) h = apart (the "=") u us h

-- a word before a name, and a name before a numeral: one blank
pub word_before : (w n : List ℕ) (us : List Token) → among w words ≡ true → name_byte (get_or n 0 0) ≡ true → render (sign w ∷ name n ∷ us) ≡ w ++ (blank_byte ∷ render (name n ∷ us))
unfolding goes_on write
word_before w n us e k = merged (sign w) (name n) us (rw (e, k))

pub name_before : (n : List ℕ) (v : ℕ) (us : List Token) → name_byte (get_or (decimal v) 0 0) ≡ true → render (name n ∷ numeral v ∷ us) ≡ n ++ (blank_byte ∷ render (numeral v ∷ us))
unfolding goes_on write
name_before n v us k = merged (name n) (numeral v) us k
