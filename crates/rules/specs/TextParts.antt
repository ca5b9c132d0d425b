-- PLACES IN A TEXT, and the parts of it that stand there.
use Rattle.std.specs.Prelude.{ℕ, ◌-◌, Bool, cond, ◌||◌, List, length, take, drop, Some, None, Option, nat_lt}
use Rattle.rules.specs.declared.values.TextPlace.{TextPlace}

-- the bytes at a place
abbrev pub bytes_in : List ℕ → TextPlace → List ℕ
bytes_in text p = take p.len (drop p.start text)

-- a place that does not lie within its text
abbrev pub outside : List ℕ → TextPlace → Bool
outside text p = nat_lt (length text) p.start || nat_lt (length text - p.start) p.len

-- the bytes at a place, if it lies within its text
abbrev pub part_of : List ℕ → TextPlace → Option (List ℕ)
part_of text p = cond (outside text p) None (Some (bytes_in text p))
