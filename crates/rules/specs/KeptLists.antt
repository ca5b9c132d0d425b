-- THE KEPT LISTS of a forest.
use Rattle.std.specs.Prelude.{◌≡◌, ℕ, zero, suc, ◌+◌, ◌<◌, cond, List, [], ◌∷◌, ◌++◌, length, ◌==◌, slice_index_or}
use Rattle.std.specs.List.{AllByRecursion}
use Rattle.rules.specs.Entries.{Entry}
use Rattle.rules.specs.Keeping.{optionals, Numbered, kept_from, plainly}
use Rattle.rules.specs.Forests.{Route, Forest, none, leaf, nest}
use Rattle.rules.specs.Lines.{Line, no_line, lines}

-- a route that keeps the first n of its OptionalParams
pub record KeptRoute : Type 0 where
  pub id : ℕ
  pub keeps : ℕ
  pub entries : List Numbered

abbrev pub keeping : Route → ℕ → KeptRoute
keeping r n = record { id = r.id; keeps = n; entries = kept_from 0 n r.entries }

-- KEPT LIST: a route that keeps some of its OptionalParams, and what a child of it keeps, and so on down to a childless route;
-- with the number of the line of that route.
pub record KeptList : Type 0 where
  pub line : ℕ
  pub routes : List KeptRoute

-- a kept list put after a route's kept entries
abbrev pub put : KeptRoute → KeptList → KeptList
put k l = record { line = l.line; routes = k ∷ l.routes }

-- each of some kept lists
abbrev pub under : KeptRoute → List KeptList → List KeptList
under k [] = []
under k (l ∷ ls) = put k l ∷ under k ls

-- the same for each n, from the largest down to none
abbrev pub each_keeping : Route → ℕ → List KeptList → List KeptList
each_keeping r zero ls = under (keeping r zero) ls
each_keeping r (suc n) ls = under (keeping r (suc n)) ls ++ each_keeping r n ls

-- a route over the kept lists of what stands below it
abbrev pub kept_over : Route → List KeptList → List KeptList
kept_over r ls = each_keeping r (optionals r.entries) ls

-- below a childless route nothing is left to keep
abbrev pub childless : List KeptList
childless = record { line = 0; routes = [] } ∷ []

-- some kept lists behind n other lines
abbrev pub after_lines : ℕ → List KeptList → List KeptList
after_lines n [] = []
after_lines n (l ∷ ls) = record { line = n + l.line; routes = l.routes } ∷ after_lines n ls

-- THE KEPT LISTS of a forest, in order: routes as declared; within a route n from the largest; within one n the children's.
abbrev pub kept : Forest → List KeptList
kept none = []
kept (leaf r f) = kept_over r childless ++ after_lines 1 (kept f)
kept (nest r k f) = kept_over r (kept k) ++ after_lines (length (lines k)) (kept f)

-- the entries of a kept list, root first
abbrev pub entries_of : List KeptRoute → List Entry
entries_of [] = []
entries_of (k ∷ ks) = plainly k.entries ++ entries_of ks

-- THE KEPT LISTS OF A LINE, numbered from 0 in this order.
abbrev pub of_line : ℕ → List KeptList → List KeptList
of_line n [] = []
of_line n (l ∷ ls) = cond (l.line == n) (l ∷ of_line n ls) (of_line n ls)

-- no kept list
abbrev pub no_list : KeptList
no_list = record { line = 0; routes = [] }

-- the ids of a kept list, root first
abbrev pub ids_of : List KeptRoute → List ℕ
ids_of [] = []
ids_of (k ∷ ks) = k.id ∷ ids_of ks

-- a kept list stands on the line of its number: that line is there, and has its ids
pub record OnLine (ls : List Line) (k : KeptList) : Type 0 where
  pub there : k.line < length ls
  pub ids : ids_of k.routes ≡ (slice_index_or ls k.line no_line).ids

-- Each kept list of a forest stands on one of the forest's lines.
abbrev pub KeptOnLines : Type 0
KeptOnLines = (f : Forest) → AllByRecursion (OnLine (lines f)) (kept f)
