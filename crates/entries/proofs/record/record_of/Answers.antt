use Rattle.std.proofs.Common.{◌≡◌, length, take, sym, ◌∙◌, length-take}
use Rattle.entries.proofs.record.record_of.Goals as goal

pub returns : goal.returns
returns c =
    let text = c.filled.ensures in
    let len : c.min.result ≡ length (take 24 c.args.text.now) = c.min.ensures ∙ sym (length-take 24 c.args.text.now) in
    cc
