use Rattle.std.proofs.Common.{◌≡◌, ◌+◌, drop}
use Rattle.std.specs.List.{prefix_len}
use Rattle.rules.specs.Paths.{plain}
use Rattle.segments.proofs.param_segments.value_len.Given as goal

abbrev pub invariant-loop-i : goal.invariant-loop-i
invariant-loop-i l = prefix_len plain l.rest ≡ l.i + prefix_len plain (drop l.i l.rest)
