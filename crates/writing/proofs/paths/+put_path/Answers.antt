use Rattle.std.proofs.Common.{◌+◌, ◌++◌, Some, sym, ◌∙◌, subst, arith}
use Rattle.rules.specs.Values.{path_values}
use Rattle.rules.specs.Writing.{written_after}
use Rattle.entries.specs.Listed.{listed}
use Rattle.writing.specs.Told.{piece_bytes}
use Rattle.writing.specs.Puts.{Put}
use Rattle.writing.proofs.Parts.{put_unfit, put_break, put_more}
use Rattle.writing.proofs.Steps.{chooses, writes, fewer}
use Rattle.writing.proofs.paths.+put_path.Goals as goal

pub nonzero_div-n : goal.nonzero_div-n
nonzero_div-n t c = (chooses c.args.list.text.now c.args.list.entries.now c.args.values.text.now c.args.values.records.now c.args.n c.args.total _ _ c.in-len1-up.len_at_least c.entry_at-first.ensures c.choice_count-own.ensures c.requires.count c.requires.number).left_pos

pub nonzero_rem-n : goal.nonzero_rem-n
nonzero_rem-n t c = (chooses c.args.list.text.now c.args.list.entries.now c.args.values.text.now c.args.values.records.now c.args.n c.args.total _ _ c.in-len1-up.len_at_least c.entry_at-first.ensures c.choice_count-own.ensures c.requires.count c.requires.number).left_pos

pub put_path-requires : goal.put_path-requires
put_path-requires t c =
    let s = chooses c.args.list.text.now c.args.list.entries.now c.args.values.text.now c.args.values.records.now c.args.n c.args.total _ _ c.in-len1-up.len_at_least c.entry_at-first.ensures c.choice_count-own.ensures c.requires.count c.requires.number in
    let f = fewer c.args.list.entries.now c.in-len1-up.len_at_least in
    (omega (arith, c.decreases, f), (s.left, s.others))

pub returns-in_err-out : goal.returns-in_err-out
returns-in_err-out t c =
    let list = c.args.list in
    let values = c.args.values in
    let b = piece_bytes c.of-piece.result.slash c.of-piece.result.body.now in
    let w = writes list.text.now list.entries.now values.text.now values.records.now c.args.n c.args.total _ _ c.args.ended c.ends_slash-ends.result _ _ b c.in-len1-up.len_at_least c.entry_at-first.ensures c.choice_count-own.ensures c.requires.count c.requires.number c.chosen_value-value.ensures c.is_due.ensures c.of-piece.ensures c.ends_slash-ends.ensures in
    subst (λ r. Put (written_after c.args.ended (listed list) (path_values values.text.now values.records.now (listed list) c.args.n)) r c.args.out.now c.args.out.now) (sym c.from_residual.ensures)
    (put_unfit _ b _ c.args.out.now w (omega (arith, c.in_err-out.ensures.cases, c.len.ensures)))

pub returns-in_err-more : goal.returns-in_err-more
returns-in_err-more t c =
    let list = c.args.list in
    let values = c.args.values in
    let b = piece_bytes c.of-piece.result.slash c.of-piece.result.body.now in
    let w = writes list.text.now list.entries.now values.text.now values.records.now c.args.n c.args.total _ _ c.args.ended c.ends_slash-ends.result _ _ b c.in-len1-up.len_at_least c.entry_at-first.ensures c.choice_count-own.ensures c.requires.count c.requires.number c.chosen_value-value.ensures c.is_due.ensures c.of-piece.ensures c.ends_slash-ends.ensures in
    subst (λ r. Put (written_after c.args.ended (listed list) (path_values values.text.now values.records.now (listed list) c.args.n)) r c.args.out.now (c.in_ok-out.front.now ++ c.put_path.new.out)) (sym c.from_residual-in_err-more.ensures)
    (put_break _ b _ c.in_ok-out.front.now c.in_ok-out.back.now c.put_path.new.out c.args.out.now c.put_path.result w c.in_ok-out.ensures.cases.0 (c.in_ok-out.ensures.cases.1 ∙ c.len.ensures) c.put_path.ensures c.in_err-more.was)

pub returns : goal.returns
returns t c =
    let list = c.args.list in
    let values = c.args.values in
    let b = piece_bytes c.of-piece.result.slash c.of-piece.result.body.now in
    let w = writes list.text.now list.entries.now values.text.now values.records.now c.args.n c.args.total _ _ c.args.ended c.ends_slash-ends.result _ _ b c.in-len1-up.len_at_least c.entry_at-first.ensures c.choice_count-own.ensures c.requires.count c.requires.number c.chosen_value-value.ensures c.is_due.ensures c.of-piece.ensures c.ends_slash-ends.ensures in
    subst (λ front. Put (written_after c.args.ended (listed list) (path_values values.text.now values.records.now (listed list) c.args.n)) (Some (c.len-2.result + c.in_ok-more.more)) c.args.out.now (front ++ c.put_path.new.out)) (sym c.put.ensures)
    (put_more _ b _ c.in_ok-out.front.now c.in_ok-out.back.now c.put_path.new.out c.args.out.now c.put_path.result c.in_ok-more.more c.len-2.result w c.in_ok-out.ensures.cases.0 (c.in_ok-out.ensures.cases.1 ∙ c.len.ensures) c.put_path.ensures c.in_ok-more.was c.len-2.ensures)
