use Rattle.std.proofs.Common.{◌+◌, ◌≤◌, length, sym, ap, ◌∙◌, arith}
use Rattle.std.specs.Option.{is_some}
use Rattle.rules.specs.Entries.{means_value}
use Rattle.rules.specs.Taking.{testing}
use Rattle.rules.specs.Keeping.{still_kept}
use Rattle.rules.specs.Steps.{meaning_kept}
use Rattle.rules.proofs.Takes.{took, entries_length, value_le}
use Rattle.rules.proofs.ReadMore.{read_at, exit_none, exit_same, exit_more}
use Rattle.lists.proofs.chain.ChainKindList.read.Goals as goal

pub behind-requires : goal.behind-requires
behind-requires g c =
    let oe = g.K.PossibleRouteMatch.meaning c.args.self.now.head in
    let t = took (meaning_kept oe) c.args.rest.bytes.now (c.in_ok-taken.taken, c.in_ok-taken.start, c.in_ok-taken.len) c.args.rest.lawful (c.in_ok-taken.ensures ∙ ap (testing (meaning_kept oe)) c.bytes.ensures) in
    record { within = t.within; rooted = t.rooted_rest }

pub returns-in_err-read : goal.returns-in_err-read
returns-in_err-read g c =
    let oe = g.K.PossibleRouteMatch.meaning c.args.self.now.head in
    let es = g.R.KindList.entries c.args.self.now.tail in
    let t = took (meaning_kept oe) c.args.rest.bytes.now (c.in_ok-taken.taken, c.in_ok-taken.start, c.in_ok-taken.len) c.args.rest.lawful (c.in_ok-taken.ensures ∙ ap (testing (meaning_kept oe)) c.bytes.ensures) in
    let left = c.in-Some.ensures ∙ ap (λ v. still_kept v c.args.keep) c.optional.ensures in
    let is = read_at oe es c.args.number c.args.keep c.in-Some.left c.args.level c.args.rest.start c.args.rest.bytes.now _ _ _ _ left t.is (ap (λ k. c.args.number + k) c.entry_count.ensures) c.behind.ensures.start c.behind.ensures.bytes in
    let room : c.value_count-own.result ≤ length c.args.params.now = omega (arith, c.requires.room, entries_length oe es, value_le oe, c.value_count-own.ensures) in
    let x = exit_none _ _ _ (means_value oe) _ _ _ _ c.args.params.now _ is c.value_count-own.ensures room c.read-2.ensures.written (sym (ap is_some c.in_err-read.was) ∙ c.read-2.ensures.test) in
    record { test = ap is_some c.from_residual-in_err-read.ensures ∙ x.test; written = x.written }

pub returns-then-own-gt0 : goal.returns-then-own-gt0
returns-then-own-gt0 g c =
    let oe = g.K.PossibleRouteMatch.meaning c.args.self.now.head in
    let es = g.R.KindList.entries c.args.self.now.tail in
    let t = took (meaning_kept oe) c.args.rest.bytes.now (c.in_ok-taken.taken, c.in_ok-taken.start, c.in_ok-taken.len) c.args.rest.lawful (c.in_ok-taken.ensures ∙ ap (testing (meaning_kept oe)) c.bytes.ensures) in
    let left = c.in-Some.ensures ∙ ap (λ v. still_kept v c.args.keep) c.optional.ensures in
    let is = read_at oe es c.args.number c.args.keep c.in-Some.left c.args.level c.args.rest.start c.args.rest.bytes.now _ _ _ _ left t.is (ap (λ k. c.args.number + k) c.entry_count.ensures) c.behind.ensures.start c.behind.ensures.bytes in
    let room : c.value_count-own.result ≤ length c.args.params.now = omega (arith, c.requires.room, entries_length oe es, value_le oe, c.value_count-own.ensures) in
    let x = exit_more _ _ _ (means_value oe) _ _ _ _ c.args.params.now _ is c.value_count-own.ensures room c.read-2.ensures.written (sym (ap is_some c.in_ok-read.was) ∙ c.read-2.ensures.test) (λ z. omega (arith, z, c.if-own-gt0.true)) in
    record { test = x.test; written = rw c.start.ensures x.written }

pub returns-else-own-gt0 : goal.returns-else-own-gt0
returns-else-own-gt0 g c =
    let oe = g.K.PossibleRouteMatch.meaning c.args.self.now.head in
    let es = g.R.KindList.entries c.args.self.now.tail in
    let t = took (meaning_kept oe) c.args.rest.bytes.now (c.in_ok-taken.taken, c.in_ok-taken.start, c.in_ok-taken.len) c.args.rest.lawful (c.in_ok-taken.ensures ∙ ap (testing (meaning_kept oe)) c.bytes.ensures) in
    let left = c.in-Some.ensures ∙ ap (λ v. still_kept v c.args.keep) c.optional.ensures in
    let is = read_at oe es c.args.number c.args.keep c.in-Some.left c.args.level c.args.rest.start c.args.rest.bytes.now _ _ _ _ left t.is (ap (λ k. c.args.number + k) c.entry_count.ensures) c.behind.ensures.start c.behind.ensures.bytes in
    let room : c.value_count-own.result ≤ length c.args.params.now = omega (arith, c.requires.room, entries_length oe es, value_le oe, c.value_count-own.ensures) in
    let x = exit_same _ _ _ (means_value oe) _ _ _ _ c.args.params.now _ is c.value_count-own.ensures room c.read-2.ensures.written (sym (ap is_some c.in_ok-read.was) ∙ c.read-2.ensures.test) (omega (arith, c.if-own-gt0.false)) in
    record { test = x.test; written = x.written }
