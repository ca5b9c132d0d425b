use Rattle.std.proofs.Common.{sym, refl}
use Rattle.std.proofs.lemmas.List.{set_past}
use Rattle.entries.proofs.record.append_record.Goals as goal

pub returns-else-at-path : goal.returns-else-at-path
returns-else-at-path c = record { count = refl; entries = sym (set_past c.args.path.now c.args.at c.args.segment c.if-at-path.false) }
