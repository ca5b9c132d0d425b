-- LINES: one for each childless route, as the routes are declared, a parent's children in its stead.
use Rattle.std.specs.Prelude.{ℕ, cond, not, ◌&&◌, List, [], ◌∷◌, ◌++◌, length, ◌==◌}
use Rattle.rules.specs.declared.mode.SsrMode.{SsrMode}
use Rattle.rules.specs.declared.mode.SsrMode.TheVariants.{OutOfOrder}
use Rattle.rules.specs.declared.records.LineRecord.{LineRecord}
use Rattle.rules.specs.Entries.{Entry}
use Rattle.rules.specs.Modes.{higher, is_static}
use Rattle.rules.specs.Forests.{Route, Forest, none, leaf, nest}

-- LINE: the ids from the root down, all their entries in order, their highest-ranked mode, and the hooks other than 0 of the
-- Static routes on it, root first.
pub record Line : Type 0 where
  pub ids : List ℕ
  pub entries : List Entry
  pub mode : SsrMode
  pub hooks : List ℕ

-- how much a line has, and its mode
abbrev pub line_record : Line → LineRecord
line_record l = record { ids = length l.ids; entries = length l.entries; hooks = length l.hooks; mode = l.mode }

-- the end of a line, behind its last route
abbrev pub no_line : Line
no_line = record { ids = []; entries = []; mode = OutOfOrder; hooks = [] }

-- a route's hook, if it counts
abbrev pub hook_of : SsrMode → ℕ → List ℕ
hook_of mode hook = cond (is_static mode && not (hook == 0)) (hook ∷ []) []

abbrev pub hooks_of : Route → List ℕ
hooks_of r = hook_of r.mode r.hook

-- the line of a childless route
abbrev pub line_of : Route → Line
line_of r = record { ids = r.id ∷ []; entries = r.entries; mode = r.mode; hooks = hooks_of r }

-- a line below a route
abbrev pub line_under : Route → Line → Line
line_under r l = record { ids = r.id ∷ l.ids; entries = r.entries ++ l.entries; mode = higher r.mode l.mode; hooks = hooks_of r ++ l.hooks }

abbrev pub lines_under : Route → List Line → List Line
lines_under r [] = []
lines_under r (l ∷ ls) = line_under r l ∷ lines_under r ls

abbrev pub lines : Forest → List Line
lines none = []
lines (leaf r f) = line_of r ∷ lines f
lines (nest r k f) = lines_under r (lines k) ++ lines f
