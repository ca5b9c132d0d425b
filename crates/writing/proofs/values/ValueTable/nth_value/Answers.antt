use Rattle.std.proofs.Common.{rules, tests}
use Rattle.std.specs.Str.{bytes_eq}
use Rattle.std.proofs.lemmas.Iterator.{YieldsList-from_slice, YieldsList-from_map_by}
use Rattle.std.proofs.lemmas.Iterator.Consumers.{YieldsList-at, YieldsList-from_filter, nth_from_yields_List}
use Rattle.rules.specs.TextParts.{bytes_in}
use Rattle.writing.proofs.values.ValueTable.nth_value.Goals as goal

pub returns : goal.returns
returns c =
    nth_from_yields_List c.nth.result c.nth.new.self c.args.n c.nth.ensures.ran
    (YieldsList-from_map_by _ (λ r. r.now) (λ r. bytes_in c.args.self.text.now r.value)
    (YieldsList-at c.map.ensures.source (YieldsList-from_filter _ (λ r. bytes_eq (bytes_in c.args.self.text.now r.name) c.args.name.now) (YieldsList-at c.filter.ensures.source (YieldsList-from_slice c.args.self.records.now cc)) c.filter.ensures.closure (λ x b q k. search (rules, tests))))
    c.map.ensures.closure (λ x r q k. search rules))
