use Rattle.std.proofs.Common.{◌∙◌, rules, tests}
use Rattle.std.proofs.lemmas.Iterator.{YieldsList-from_slice}
use Rattle.std.proofs.lemmas.Iterator.Search.{all_from_yields_List}
use Rattle.rules.specs.Places.{entry_at}
use Rattle.rules.specs.Writing.{is_silent}
use Rattle.writing.proofs.Lists.{silent_all}
use Rattle.writing.proofs.entry.all_silent.Goals as goal

pub returns : goal.returns
returns c =
    all_from_yields_List (λ p. is_silent (entry_at c.args.list.text.now p)) _ _ _ c.all.ensures.ran (YieldsList-from_slice c.args.list.entries.now cc) (λ x b q k. search (rules, tests))
    ∙ silent_all c.args.list.text.now c.args.list.entries.now
