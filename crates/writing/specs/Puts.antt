-- What a step of writing leaves: the bytes from a buffer's start on, if they fit.
use Rattle.std.specs.Prelude.{◌≡◌, ℕ, cond, List, length, Some, None, Option, nat_le}
use Rattle.rules.specs.Records.{overlaid}

pub record Put (w : List ℕ) (r : Option ℕ) (out out' : List ℕ) : Type 0 where
  pub result : r ≡ cond (nat_le (length w) (length out)) (Some (length w)) None
  pub bytes : out' ≡ cond (nat_le (length w) (length out)) (overlaid out w) out
