use Rattle.std.proofs.Common.{length, ◌∙◌, ap, arith, length-drop}
use Rattle.rules.specs.Taking.{testing}
use Rattle.rules.specs.Steps.{meaning_kept}
use Rattle.rules.proofs.Takes.{took, list_took, took_few, entries_length, value_le}
use Rattle.lists.proofs.chain.ChainKindList.take.Goals as goal

pub behind-requires : goal.behind-requires
behind-requires g c =
    let oe = g.K.PossibleRouteMatch.meaning c.args.self.now.head in
    let t = took (meaning_kept oe) c.args.rest.bytes.now (c.in_ok-taken.taken, c.in_ok-taken.field-0-1, c.in_ok-taken.field-0-2) c.args.rest.lawful (c.in_ok-taken.ensures ∙ ap (testing (meaning_kept oe)) c.bytes.ensures) in
    record { within = t.within; rooted = t.rooted_rest }

pub overflow_add-result : goal.overflow_add-result
overflow_add-result g c =
    let oe = g.K.PossibleRouteMatch.meaning c.args.self.now.head in
    let es = g.R.KindList.entries c.args.self.now.tail in
    let t = took (meaning_kept oe) c.args.rest.bytes.now (c.in_ok-taken.taken, c.in_ok-taken.field-0-1, c.in_ok-taken.field-0-2) c.args.rest.lawful (c.in_ok-taken.ensures ∙ ap (testing (meaning_kept oe)) c.bytes.ensures) in
    let s = list_took c.in-Some.left es c.behind.result.bytes.now c.in_ok-more.more c.in_ok-more.values c.behind.result.lawful c.in_ok-more.ensures in
    omega (arith, t.within, s.within, ap length c.behind.ensures.bytes, length-drop c.in_ok-taken.taken c.args.rest.bytes.now, c.args.rest.placed)

pub overflow_add-result-2 : goal.overflow_add-result-2
overflow_add-result-2 g c =
    let oe = g.K.PossibleRouteMatch.meaning c.args.self.now.head in
    let es = g.R.KindList.entries c.args.self.now.tail in
    let s = took_few c.in-Some.left es _ _ c.in_ok-more.ensures in
    omega (arith, c.value_count-own.ensures, value_le oe, s, entries_length oe es, c.requires)
