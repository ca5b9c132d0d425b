use Rattle.std.proofs.Common.{◌≡◌, ℕ, min, List, ◌++◌, length, take, drop, replicate, arith}
use Rattle.std.proofs.lemmas.Grind.{common_steps}
use Rattle.std.proofs.lemmas.List.{take_all, drop-replicate}
use Rattle.rules.specs.Records.{padded}
use Rattle.entries.proofs.filled.filled.Goals as goal

-- a buffer of n that begins with k records, as many as there are and fit
filled : {X : Type 0} (xs : List X) (z : X) (n k : ℕ) → k ≡ min (length xs) n → take k xs ++ drop k (replicate n z) ≡ padded (take n xs) z n
filled xs z n k e = grind (arith, common_steps, take_all, drop-replicate)

pub returns : goal.returns
returns g c = rw c.copy_from_slice.ensures.after (filled _ _ _ _ c.min-n.ensures)
