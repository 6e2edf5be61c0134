-- What is written for a right table are bytes: each number is below its limit, and every limit is below 256.
use Prim.Native.Nat.{ℕ, ◌<◌}

abbrev pub Byte : ℕ → Type 0
Byte b = b < 256
