-- KEEPING: a route keeps its first n OptionalParams as Param and drops the others.
use Rattle.std.specs.Prelude.{ℕ, zero, suc, ◌+◌, Bool, true, false, cond, not, ◌&&◌, ◌||◌, List, [], ◌∷◌, length, Some, None, Option, nat_le}
use Rattle.rules.specs.Entries.{Entry, unit, static, param, optional, splat, is_optional}

-- how many OptionalParams there are
abbrev pub optionals : List Entry → ℕ
optionals [] = 0
optionals (e ∷ es) = cond (is_optional e) (optionals es + 1) (optionals es)

-- whether there is one
abbrev pub has_optional : List Entry → Bool
has_optional [] = false
has_optional (e ∷ es) = is_optional e || has_optional es

-- an OptionalParam beside another entry
abbrev pub mixed : List Entry → Bool
mixed es = has_optional es && not (nat_le (length es) 1)

-- an entry where it is kept
abbrev pub as_kept : Entry → Entry
as_kept unit = unit
as_kept (static t) = static t
as_kept (param x) = param x
as_kept (optional x) = param x
as_kept (splat x) = splat x

-- How many OptionalParams are still to keep behind an entry, of n before it, or None where that entry is dropped.
abbrev pub still_kept : Bool → ℕ → Option ℕ
still_kept false n = Some n
still_kept true zero = None
still_kept true (suc n) = Some n

-- an entry that is kept, with its number among all entries of its route
pub record Numbered : Type 0 where
  pub number : ℕ
  pub entry : Entry

abbrev pub keep_or_drop : {A B : Type 0} → Option A → B → (A → B) → B
keep_or_drop None dropped f = dropped
keep_or_drop (Some a) dropped f = f a

-- what is left of some entries, numbered from i, where the first n OptionalParams are kept
abbrev pub kept_from : ℕ → ℕ → List Entry → List Numbered
kept_from i n [] = []
kept_from i n (e ∷ es) = keep_or_drop (still_kept (is_optional e) n) (kept_from (i + 1) 0 es) (λ m. record { number = i; entry = as_kept e } ∷ kept_from (i + 1) m es)

-- the same entries without their numbers
abbrev pub plainly : List Numbered → List Entry
plainly [] = []
plainly (k ∷ ks) = k.entry ∷ plainly ks
