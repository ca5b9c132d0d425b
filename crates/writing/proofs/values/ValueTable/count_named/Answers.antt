use Rattle.std.proofs.Common.{◌≡◌, ◌∙◌, rules}
use Rattle.std.specs.Str.{bytes_eq}
use Rattle.std.specs.List.{count_by}
use Rattle.rules.specs.TextParts.{bytes_in}
use Rattle.writing.proofs.Tables.{named_count}
use Rattle.writing.proofs.values.ValueTable.count_named.Goals as goal

pub returns : goal.returns
returns c =
    let e : c.count.result ≡ count_by (λ r. bytes_eq (bytes_in c.args.self.text.now r.name) c.args.name.now) c.args.self.records.now = search rules in
    e ∙ named_count c.args.self.text.now c.args.name.now c.args.self.records.now
