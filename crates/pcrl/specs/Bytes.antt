-- "Bytes of ASCII." Questions 1 and 2.
use Rattle.std.specs.Prelude.{List, Bool, ℕ, ◌≤◌, eqb, T, length}
use Rattle.std.proofs.Math.Decide.{dec_le}
use Rattle.pcrl.specs.Text.{byte}
use Rattle.pcrl.specs.Limits.{max_bytes}
use Rattle.pcrl.specs.Tests.{or, within, T?, Every, every?}

-- "Blanks (hex 20) and line feeds (hex 0A) separate tokens."
abbrev pub separator : ℕ → Bool
separator b = or (eqb b 0x20) (eqb b 0x0A)

abbrev pub letter : ℕ → Bool
letter b = or (within (byte "A") (byte "Z") b) (within (byte "a") (byte "z") b)

abbrev pub digit : ℕ → Bool
digit b = within (byte "0") (byte "9") b

-- "letters, digits or underscores"
abbrev pub name_byte : ℕ → Bool
name_byte b = or (letter b) (or (digit b) (eqb b (byte "_")))

-- 1: "At most 4,096 bytes?"
abbrev pub Short : List ℕ → Type 0
Short s = length s ≤ max_bytes

unfoldable pub short? : (s : List ℕ) → Dec (Short s)
short? s = dec_le (length s) max_bytes

-- 2: "Each byte hex 20 to 7E or hex 0A?"
abbrev pub printable : ℕ → Bool
printable b = or (within 0x20 0x7E b) (eqb b 0x0A)

unfoldable pub Printable : List ℕ → Type 0
Printable s = Every (λ b. T (printable b)) s

unfoldable pub printable? : (s : List ℕ) → Dec (Printable s)
unfolding Printable
printable? s = every? (λ b. T? (printable b)) s
