-- The signs and their cells: each sign has one cell, so the code compares cells where the definition compares tokens.
use mathlib.Core.Path.{◌≡◌, refl, sym, ap, ◌∙◌}
use mathlib.Core.List.{List}
use Prim.Native.Nat.{ℕ, ◌<◌}
use Prim.Native.String.{String}
use lib.Dec.{T, lit<}
use Rattle.pcrl.specs.Text.{bytes}
use Rattle.pcrl.specs.Tokens.{sign, words, the}
use Rattle.lexer.specs.Classes.{one_of}
use Rattle.lexer.specs.Cells.{long_marks, spelling, cell_token}
use Rattle.lexer.proofs.Cells.{cell_sign, sign_cells, sign_once}

-- c is the cell of the sign, and the only one
pub record Sign (c : ℕ) (t : String) : Type 0 where
  pub some : 0 < c
  pub is : (s : List ℕ) → cell_token s c ≡ the t
  pub only : (s : List ℕ) (x : ℕ) → cell_token s x ≡ the t → x ≡ c

sign_of : (t : String) (c : ℕ) → 0 < c → c < 256 → spelling c ≡ bytes t → T (one_of sign_cells c) → Sign c t
sign_of t c g l e o =
    let is : (s : List ℕ) → cell_token s c ≡ the t = λ s. cell_sign s c l ∙ ap sign e in
    record { some = g; is = is; only = λ s x f. sign_once s x c o (f ∙ sym (is s)) }

pub bang_sign : Sign 33 "!"
unfolding spelling long_marks words
bang_sign = sign_of "!" 33 (lit< tt) (lit< tt) refl tt

pub hash_sign : Sign 35 "#"
unfolding spelling long_marks words
hash_sign = sign_of "#" 35 (lit< tt) (lit< tt) refl tt

pub open_sign : Sign 40 "("
unfolding spelling long_marks words
open_sign = sign_of "(" 40 (lit< tt) (lit< tt) refl tt

pub close_sign : Sign 41 ")"
unfolding spelling long_marks words
close_sign = sign_of ")" 41 (lit< tt) (lit< tt) refl tt

pub plus_sign : Sign 43 "+"
unfolding spelling long_marks words
plus_sign = sign_of "+" 43 (lit< tt) (lit< tt) refl tt

pub comma_sign : Sign 44 ","
unfolding spelling long_marks words
comma_sign = sign_of "," 44 (lit< tt) (lit< tt) refl tt

pub dot_sign : Sign 46 "."
unfolding spelling long_marks words
dot_sign = sign_of "." 46 (lit< tt) (lit< tt) refl tt

pub colon_sign : Sign 58 ":"
unfolding spelling long_marks words
colon_sign = sign_of ":" 58 (lit< tt) (lit< tt) refl tt

pub semicolon_sign : Sign 59 ";"
unfolding spelling long_marks words
semicolon_sign = sign_of ";" 59 (lit< tt) (lit< tt) refl tt

pub equals_sign : Sign 61 "="
unfolding spelling long_marks words
equals_sign = sign_of "=" 61 (lit< tt) (lit< tt) refl tt

pub arrow_sign : Sign 128 "->"
unfolding spelling long_marks words
arrow_sign = sign_of "->" 128 (lit< tt) (lit< tt) refl tt

pub if_sign : Sign 129 "<|"
unfolding spelling long_marks words
if_sign = sign_of "<|" 129 (lit< tt) (lit< tt) refl tt

pub else_sign : Sign 130 "|>"
unfolding spelling long_marks words
else_sign = sign_of "|>" 130 (lit< tt) (lit< tt) refl tt

pub same_sign : Sign 131 "=="
unfolding spelling long_marks words
same_sign = sign_of "==" 131 (lit< tt) (lit< tt) refl tt

pub and_sign : Sign 132 "/\\"
unfolding spelling long_marks words
and_sign = sign_of "/\\" 132 (lit< tt) (lit< tt) refl tt

pub or_sign : Sign 133 "\\/"
unfolding spelling long_marks words
or_sign = sign_of "\\/" 133 (lit< tt) (lit< tt) refl tt

pub sort_sign : Sign 160 "sort"
unfolding spelling long_marks words
sort_sign = sign_of "sort" 160 (lit< tt) (lit< tt) refl tt

pub func_sign : Sign 161 "func"
unfolding spelling long_marks words
func_sign = sign_of "func" 161 (lit< tt) (lit< tt) refl tt

pub act_sign : Sign 162 "act"
unfolding spelling long_marks words
act_sign = sign_of "act" 162 (lit< tt) (lit< tt) refl tt

pub proc_sign : Sign 163 "proc"
unfolding spelling long_marks words
proc_sign = sign_of "proc" 163 (lit< tt) (lit< tt) refl tt

pub init_sign : Sign 164 "init"
unfolding spelling long_marks words
init_sign = sign_of "init" 164 (lit< tt) (lit< tt) refl tt

pub sum_sign : Sign 165 "sum"
unfolding spelling long_marks words
sum_sign = sign_of "sum" 165 (lit< tt) (lit< tt) refl tt

pub delta_sign : Sign 166 "delta"
unfolding spelling long_marks words
delta_sign = sign_of "delta" 166 (lit< tt) (lit< tt) refl tt

pub tau_sign : Sign 167 "tau"
unfolding spelling long_marks words
tau_sign = sign_of "tau" 167 (lit< tt) (lit< tt) refl tt
