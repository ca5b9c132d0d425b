-- ROUTES, and forests of them.
use Rattle.std.specs.Prelude.{ℕ, Bool, true, ◌&&◌, List, [], ◌∷◌}
use Rattle.rules.specs.declared.mode.SsrMode.{SsrMode}
use Rattle.rules.specs.Entries.{Entry, lawful_entries}

-- ROUTE: an id, a list of entries, a mode, and a hook, 0 for none, which counts only under the mode Static.
pub record Route : Type 0 where
  pub id : ℕ
  pub entries : List Entry
  pub mode : SsrMode
  pub hook : ℕ

abbrev pub route_of : ℕ → List Entry → SsrMode → ℕ → Route
route_of id es mode hook = record { id = id; entries = es; mode = mode; hook = hook }

-- FOREST, an ordered list of routes: none; a childless route and then the others; a route over its children, which may be none,
-- and then the others. A childless route and one over no children differ.
pub data Forest : Type 0 where
  none : Forest
  leaf : Route → Forest → Forest
  nest : Route → Forest → Forest → Forest

-- the routes of one forest, and then those of another
abbrev pub beside : Forest → Forest → Forest
beside none g = g
beside (leaf r f) g = leaf r (beside f g)
beside (nest r k f) g = nest r k (beside f g)

-- the forests of some items, one after another
abbrev pub forest_of : {X : Type 0} → (X → Forest) → List X → Forest
forest_of f [] = none
forest_of f (x ∷ xs) = beside (f x) (forest_of f xs)

-- each entry of each route keeps the rules of texts and names
abbrev pub lawful_forest : Forest → Bool
lawful_forest none = true
lawful_forest (leaf r f) = lawful_entries r.entries && lawful_forest f
lawful_forest (nest r k f) = lawful_entries r.entries && (lawful_forest k && lawful_forest f)
