use Rattle.std.proofs.Common.{◌≡◌, ◌*◌, ◌≤◌, min, length, drop}
use Rattle.rules.specs.Places.{entries_in}
use Rattle.rules.specs.Values.{path_choices}
use Rattle.writing.proofs.values.ValueTable.count_choices.Given as goal

abbrev pub invariant-loop-entry : goal.invariant-loop-entry
invariant-loop-entry l =
    (l.count ≤ 65536)
    × (min (l.count * length (path_choices l.self.text.now l.self.records.now (entries_in l.list.text.now (drop l.entry-index l.list.entries.now)))) 65536 ≡ min (length (path_choices l.self.text.now l.self.records.now (entries_in l.list.text.now l.list.entries.now))) 65536)
