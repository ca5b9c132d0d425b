use Rattle.std.proofs.Common.{length}
use Rattle.writing.proofs.paths.+put_path.Given as goal

abbrev pub decreases-put_path : goal.decreases-put_path
decreases-put_path l = length l.list.entries.now
