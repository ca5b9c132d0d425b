use Rattle.std.proofs.Common.{◌||◌, Some, None, sym, ◌∙◌, rules, tests}
use Rattle.std.proofs.lemmas.Iterator.{YieldsList-from_slice}
use Rattle.std.proofs.lemmas.Iterator.Search.{position_from_yields_List}
use Rattle.rules.specs.TextParts.{outside}
use Rattle.writing.proofs.Tables.{fault_at}
use Rattle.writing.proofs.values.ValueTable.check.Goals as goal

pub returns-in-Some : goal.returns-in-Some
returns-in-Some c =
    fault_at c.args.self.text.now c.args.self.records.now (Some c.in-Some.number)
    (sym c.in-Some.is ∙ position_from_yields_List (λ r. outside c.args.self.text.now r.name || outside c.args.self.text.now r.value) _ _ _ c.position-first.ensures.ran (YieldsList-from_slice c.args.self.records.now cc) (λ x b q k. search (rules, tests)))

pub returns-in-None : goal.returns-in-None
returns-in-None c =
    fault_at c.args.self.text.now c.args.self.records.now None
    (sym c.in-None.is ∙ position_from_yields_List (λ r. outside c.args.self.text.now r.name || outside c.args.self.text.now r.value) _ _ _ c.position-first.ensures.ran (YieldsList-from_slice c.args.self.records.now cc) (λ x b q k. search (rules, tests)))
