use Rattle.std.proofs.Common.{arith}
use Rattle.rules.proofs.Takes.{kept_few, entries_length}
use Rattle.lists.proofs.chain.ChainKindList.generate_kept.Goals as goal

pub overflow_add-result : goal.overflow_add-result
overflow_add-result g c =
    let oe = g.K.PossibleRouteMatch.meaning c.args.self.now.head in
    let es = g.R.KindList.entries c.args.self.now.tail in
    omega (arith, c.requires, c.put_kept-own.ensures.count, c.generate_kept-2.ensures.count, kept_few c.in-Some.left es, entries_length oe es, c.ranges, c.generate_kept-2.type_inv)
