use Rattle.std.proofs.Common.{arith}
use Rattle.std.proofs.lemmas.Grind.{common_steps}
use Rattle.std.proofs.lemmas.List.Sums.{prefix_len-le-length}
use Rattle.segments.proofs.param_segments.take_param.Goals as goal

pub overflow_add-len : goal.overflow_add-len
overflow_add-len c = grind (arith, common_steps, prefix_len-le-length, c.value_len-len.ensures)
