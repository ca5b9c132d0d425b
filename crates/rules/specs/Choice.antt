-- The first of two that is there.
use Rattle.std.specs.Prelude.{Some, None, Option}

abbrev pub or_else : {A : Type 0} → Option A → Option A → Option A
or_else None o = o
or_else (Some a) o = Some a
