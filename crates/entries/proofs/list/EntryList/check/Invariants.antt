use Rattle.std.proofs.Common.{◌≡◌, drop}
use Rattle.rules.specs.Places.{first_fault}
use Rattle.entries.proofs.list.EntryList.check.Given as goal

abbrev pub invariant-loop-i : goal.invariant-loop-i
invariant-loop-i l = first_fault l.self.text.now l.i (drop l.i l.self.entries.now) ≡ first_fault l.self.text.now 0 l.self.entries.now
