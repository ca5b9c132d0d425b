-- The entries of a list that is handed over.
use Rattle.std.specs.Prelude.{List}
use Rattle.rules.specs.Entries.{Entry}
use Rattle.rules.specs.Places.{entries_in}
use Rattle.entries.specs.declared.list.EntryList.{EntryList}

abbrev pub listed : EntryList → List Entry
listed l = entries_in l.text.now l.entries.now
