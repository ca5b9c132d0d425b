-- Counts of lines and kept lists, as a number of 64 bits can tell them.
use Rattle.std.specs.Prelude.{ℕ, min}

-- a count, or the largest number of 64 bits where there are more
abbrev pub capped : ℕ → ℕ
capped n = min n 18446744073709551615
