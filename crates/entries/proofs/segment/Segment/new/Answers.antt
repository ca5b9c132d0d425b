use Rattle.std.proofs.Common.{Ok, sym, ap, ◌∙◌}
use Rattle.rules.specs.Places.{entry_of, or_fault}
use Rattle.rules.proofs.RecordOf.{record_whole}
use Rattle.entries.proofs.segment.Segment.new.Goals as goal

pub invariant_of-result-2 : goal.invariant_of-result-2
invariant_of-result-2 c =
    let w = (record_whole c.args.kind c.args.text.now c.record_of.result (sym c.if-is_unit.ensures) (sym c.in_ok-check_segment.ensures) c.record_of.ensures).0 in
    record { short = w.short; whole = w.whole; lawful = w.lawful }

pub returns : goal.returns
returns c =
    let k = c.args.kind in
    let t = c.args.text.now in
    let f = sym c.in_ok-check_segment.ensures in
    let w = (record_whole k t c.record_of.result (sym c.if-is_unit.ensures) f c.record_of.ensures).1 in
    ap Ok w ∙ ap (or_fault (entry_of k t)) (sym f)
