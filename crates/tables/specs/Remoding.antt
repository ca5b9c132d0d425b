-- A record of a table with another mode and hook.
use Rattle.std.specs.Prelude.{ℕ}
use Rattle.rules.specs.declared.mode.SsrMode.{SsrMode}
use Rattle.tables.specs.declared.route_record.RouteRecord.{RouteRecord}

abbrev pub with_mode_of : SsrMode → ℕ → RouteRecord → RouteRecord
with_mode_of m h x = record { id = x.id; depth = x.depth; rendering = record { mode = m; hook = h }; count = x.count; entries = x.entries }
