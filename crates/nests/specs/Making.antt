-- WHAT BECOMES OF A ROUTE'S PARTS: a route, or a refusal.
use Rattle.std.specs.Prelude.{ℕ, ◌+◌, cond, List, length, ◌==◌, nat_le}
use Rattle.rules.specs.declared.refusal.Cause.TheVariants.{Count}
use Rattle.rules.specs.Entries.{Entry}
use Rattle.rules.specs.Forests.{Route, route_of, Forest}
use Rattle.rules.specs.Bounds.{Bounds}
use Rattle.rules.specs.Keeping.{mixed}
use Rattle.rules.specs.declared.mode.SsrMode.TheVariants.{OutOfOrder}
use Rattle.rules.specs.Places.{route_limit}
use Rattle.rules.specs.Refusals.{Told, answered, refused, bare, entry}

-- An id that is not 0 and at most 6 entries make a childless route, of the mode OutOfOrder and without a hook.
abbrev pub route_made : ℕ → List Entry → Told Route
route_made id es = cond (id == 0) (refused (5, bare)) (cond (nat_le (length es) route_limit) (answered (route_of id es OutOfOrder 0)) (refused (9, entry route_limit Count)))

-- the most levels of a tree that is made of nests
abbrev pub level_limit : ℕ
level_limit = 16

-- A route over a tree of children, if it is not too deep, and not mixed.
abbrev pub nest_made : Route → Forest → Bounds → Told (Route × Forest)
nest_made r f b = cond (nat_le (b.levels + 1) level_limit) (cond (mixed r.entries) (refused (10, bare)) (answered (r, f))) (refused (7, bare))
