use Rattle.std.proofs.Common.{◌≡◌, [], ◌∙◌, rules}
use Rattle.std.specs.List.{count_by}
use Rattle.rules.specs.Entries.{is_optional}
use Rattle.rules.specs.Places.{entry_of}
use Rattle.writing.proofs.Lists.{optionals_count}
use Rattle.writing.proofs.entry.count_optionals.Goals as goal

pub returns : goal.returns
returns c =
    let e : c.count.result ≡ count_by (λ p. is_optional (entry_of p.kind [])) c.args.list.entries.now = search rules in
    e ∙ optionals_count c.args.list.text.now c.args.list.entries.now
