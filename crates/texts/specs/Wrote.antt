-- A piece of text written from a place on, as far as there is room. (`fits` and `text` say what stands before the new place; the rest is as it was.)
use Rattle.std.specs.Prelude.{◌≡◌, List, ◌++◌, ℕ, ◌+◌, min, length, take, drop}

pub record Wrote (out : List ℕ) (at : ℕ) (piece out' : List ℕ) (r : ℕ) : Type 0 where
  pub same : length out' ≡ length out
  pub place : r ≡ min (length out) (at + length piece)
  pub text : take r out' ≡ take (length out) (take at out ++ piece)
  pub rest : drop r out' ≡ drop r out
