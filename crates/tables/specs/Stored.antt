-- WHAT A BOOK STORES OF ITS LINES.
use Rattle.std.specs.Prelude.{List, [], ◌∷◌, length}
use Rattle.rules.specs.declared.mode.SsrMode.TheVariants.{OutOfOrder}
use Rattle.rules.specs.Forests.{Route}
use Rattle.rules.specs.PlainBook.{most_levels}
use Rattle.rules.specs.Records.{padded}
use Rattle.tables.specs.declared.stored_line.LineStep.{LineStep}
use Rattle.tables.specs.declared.stored_line.StoredLine.{StoredLine}

-- one step for each route
abbrev pub step_of : Route → LineStep
step_of r = record { id = r.id; rendering = record { mode = r.mode; hook = r.hook } }

abbrev pub steps_of : List Route → List LineStep
steps_of [] = []
steps_of (r ∷ rs) = step_of r ∷ steps_of rs

abbrev pub zero_step : LineStep
zero_step = record { id = 0; rendering = record { mode = OutOfOrder; hook = 0 } }

-- the chain of a line, as it is stored
abbrev pub stored_of : List Route → StoredLine
stored_of c = record { count = length c; steps = padded (steps_of c) zero_step most_levels }

abbrev pub stored_lines : List (List Route) → List StoredLine
stored_lines [] = []
stored_lines (c ∷ cs) = stored_of c ∷ stored_lines cs
