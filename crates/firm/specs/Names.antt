-- THE NAMES OF PARAMETERS in a forest.
use Rattle.std.specs.Prelude.{ℕ, cond, List, [], ◌++◌, codes, Some, None, Option, ◌==◌, slice_get}
use Rattle.rules.specs.Entries.{Entry, unit, static, param, optional, splat}
use Rattle.rules.specs.Forests.{Forest, none, leaf, nest}

-- the name of an entry that has a value, and `value` for any other
abbrev pub value_name : Option Entry → List ℕ
value_name None = codes "value"
value_name (Some unit) = codes "value"
value_name (Some (static t)) = codes "value"
value_name (Some (param x)) = x
value_name (Some (optional x)) = x
value_name (Some (splat x)) = x

-- the entries of the routes of an id
abbrev pub entries_with : ℕ → Forest → List Entry
entries_with id none = []
entries_with id (leaf r f) = cond (r.id == id) r.entries [] ++ entries_with id f
entries_with id (nest r k f) = cond (r.id == id) r.entries [] ++ (entries_with id k ++ entries_with id f)

-- what a parameter stands for, by its route and its entry's number there
abbrev pub name_in : Forest → ℕ → ℕ → List ℕ
name_in f id n = value_name (slice_get (entries_with id f) n)
