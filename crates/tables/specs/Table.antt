-- WHAT A TABLE MEANS. It holds the routes of a tree in one list, each route before what stands below it, with the number of routes
-- above it, its depth.
use Rattle.std.specs.Prelude.{ℕ, ◌+◌, Bool, true, cond, not, ◌&&◌, List, [], ◌∷◌, take, ◌==◌, nat_le, nat_lt}
use Rattle.rules.specs.declared.mode.SsrMode.TheVariants.{OutOfOrder}
use Rattle.rules.specs.Entries.{Entry}
use Rattle.rules.specs.Places.{entry_in}
use Rattle.rules.specs.Forests.{Route, route_of, Forest, none}
use Rattle.rules.specs.PlainBook.{route_over, most_levels}
use Rattle.entries.specs.declared.segment.Segment.{Segment}
use Rattle.tables.specs.declared.route_record.RouteRecord.{RouteRecord}

-- the entries of some segments
abbrev pub entries_held : List Segment → List Entry
entries_held [] = []
entries_held (s ∷ ss) = entry_in s.given ∷ entries_held ss

-- the route of a record
abbrev pub route_in : RouteRecord → Route
route_in x = route_of x.id (entries_held (take x.count x.entries)) x.rendering.mode x.rendering.hook

-- The routes of depth d up to the first that is less deep, each over what stands below it. A route with nothing below it is
-- childless.
abbrev pub tree_at : ℕ → List RouteRecord → Forest
tree_at d [] = none
tree_at d (x ∷ xs) = cond (nat_lt x.depth d) none (cond (x.depth == d) (route_over (route_in x) (tree_at (d + 1) xs) (tree_at d xs)) (tree_at d xs))

-- THE TREE OF A TABLE
abbrev pub tree_of : List RouteRecord → Forest
tree_of xs = tree_at 0 xs

-- each route is at most one deeper than the one before it, and the first at most d deep
abbrev pub stepped : ℕ → List RouteRecord → Bool
stepped d [] = true
stepped d (x ∷ xs) = nat_le x.depth d && stepped (x.depth + 1) xs

-- no route has more than seven above it, and none has more than six entries
abbrev pub shallow : List RouteRecord → Bool
shallow [] = true
shallow (x ∷ xs) = nat_lt x.depth most_levels && shallow xs

abbrev pub brief : List RouteRecord → Bool
brief [] = true
brief (x ∷ xs) = nat_le x.count 6 && brief xs

-- no route has the id w
abbrev pub absent : ℕ → List RouteRecord → Bool
absent w [] = true
absent w (x ∷ xs) = not (x.id == w) && absent w xs

-- no two routes have one id
abbrev pub distinct : List RouteRecord → Bool
distinct [] = true
distinct (x ∷ xs) = absent x.id xs && distinct xs

-- what is read past a table's end
abbrev pub blank : RouteRecord
blank = record { id = 0; depth = 0; rendering = record { mode = OutOfOrder; hook = 0 }; count = 0; entries = [] }
