-- CHAINS: the routes of a line from the root down to its childless route, in the order of the lines.
use Rattle.std.specs.Prelude.{List, [], ◌∷◌, ◌++◌}
use Rattle.rules.specs.Forests.{Route, Forest, none, leaf, nest}
use Rattle.rules.specs.Lines.{Line, no_line, line_under}

-- some chains below a route
abbrev pub chains_under : Route → List (List Route) → List (List Route)
chains_under r [] = []
chains_under r (c ∷ cs) = (r ∷ c) ∷ chains_under r cs

abbrev pub chains : Forest → List (List Route)
chains none = []
chains (leaf r f) = (r ∷ []) ∷ chains f
chains (nest r k f) = chains_under r (chains k) ++ chains f

-- the line of a chain
abbrev pub line_of_chain : List Route → Line
line_of_chain [] = no_line
line_of_chain (r ∷ rs) = line_under r (line_of_chain rs)

abbrev pub lines_of_chains : List (List Route) → List Line
lines_of_chains [] = []
lines_of_chains (c ∷ cs) = line_of_chain c ∷ lines_of_chains cs
