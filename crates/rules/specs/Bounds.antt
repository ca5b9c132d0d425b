-- BOUNDS: how many records the answers of a forest may need.
use Rattle.std.specs.Prelude.{ℕ, ◌+◌, ◌≤◌, max, Bool, ◌&&◌, List, [], ◌∷◌, length, nat_le}
use Rattle.rules.specs.Forests.{Forest, none, leaf, nest}

-- BOUNDS: as many levels and entries as an answer may need.
pub record Bounds : Type 0 where
  pub levels : ℕ
  pub entries : ℕ

abbrev pub no_bounds : Bounds
no_bounds = record { levels = 0; entries = 0 }

-- one level with n entries over some others
abbrev pub level_over : ℕ → Bounds → Bounds
level_over n b = record { levels = b.levels + 1; entries = n + b.entries }

abbrev pub larger : Bounds → Bounds → Bounds
larger a b = record { levels = max a.levels b.levels; entries = max a.entries b.entries }

-- the largest of some items
abbrev pub largest : {X : Type 0} → (X → Bounds) → List X → Bounds
largest b [] = no_bounds
largest b (x ∷ xs) = larger (b x) (largest b xs)

-- the bounds of a forest
abbrev pub bounds_of : Forest → Bounds
bounds_of none = no_bounds
bounds_of (leaf r f) = larger (level_over (length r.entries) no_bounds) (bounds_of f)
bounds_of (nest r k f) = larger (level_over (length r.entries) (bounds_of k)) (bounds_of f)

-- some bounds suffice for each answer of a forest
pub record Enough (f : Forest) (b : Bounds) : Type 0 where
  pub levels : (bounds_of f).levels ≤ b.levels
  pub entries : (bounds_of f).entries ≤ b.entries

-- whether buffers of these lengths reach some bounds
abbrev pub reaches : Bounds → ℕ → ℕ → Bool
reaches b levels params = nat_le b.levels levels && nat_le b.entries params
