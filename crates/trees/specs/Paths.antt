-- What is wrong with a path, in the order in which it is told.
use Rattle.std.specs.Prelude.{ℕ, cond, List, length, Ok, Err, Result, nat_le}
use Rattle.rules.specs.declared.refusal.Refusal.{Refusal}
use Rattle.rules.specs.declared.refusal.Refusal.TheVariants.{LongPath, Unrooted}
use Rattle.rules.specs.Paths.{longest_path, rooted}

abbrev pub path_fault : List ℕ → Result (Unit {0}) Refusal
path_fault p = cond (nat_le (length p) longest_path) (cond (rooted p) (Ok tt) (Err Unrooted)) (Err LongPath)
