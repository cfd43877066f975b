use Rattle.std.proofs.Common.{sym, subst, vec_capacity}
use Rattle.mail_fetch.proofs.BodyLemmas.{if_none, no_header, body_within, no_block, has_lines, lines_are_read, told_of_stored, stored_of_told}
use Rattle.mail_fetch.specs.Region.{IsToldByLines}
use Rattle.mail_fetch.proofs.message.stored_message.Goals as goal

pub returns-in_err-size-clause-none : goal.returns-in_err-size-clause-none
returns-in_err-size-clause-none c = if_none c.from_residual.result _ (no_header c.args.from.now c.args.head.now c.args.behind.now c.requires.head c.in_err-size.ensures.none)

pub returns-in_err-block-clause-none : goal.returns-in_err-block-clause-none
returns-in_err-block-clause-none c = if_none c.from_residual-in_err-block.result _ (body_within c.args.from.now c.args.head.now c.args.behind.now c.in_ok-size.size c.requires.head c.in_ok-size.ensures.some c.in_err-block.ensures.cases)

pub returns-in_err-lines_in-clause-none : goal.returns-in_err-lines_in-clause-none
returns-in_err-lines_in-clause-none c =
    if_none c.from_residual-in_err-lines_in.result _ (no_block c.args.from.now c.args.head.now c.args.behind.now c.in_ok-block.block.now c.in_ok-size.size c.requires.head c.in_ok-size.ensures.some c.in_ok-block.ensures.cases.2 c.in_err-lines_in.ensures.none)

pub returns-in_err-brief-clause-none : goal.returns-in_err-brief-clause-none
returns-in_err-brief-clause-none c =
    let lines = has_lines c.args.head.now c.args.behind.now c.in_ok-block.block.now c.in_ok-lines_in.field-0.now c.in_ok-size.size c.requires.head c.in_ok-size.ensures.some c.in_ok-block.ensures.cases.2 c.in_ok-lines_in.ensures.some in
    if_none c.from_residual-in_err-brief.result _ (lines_are_read c.args.from.now c.args.head.now c.args.behind.now _ c.in_ok-size.size (vec_capacity c.args.refs) lines c.requires.room c.in_err-brief.ensures.none)

pub returns-then-not-is_told-clause-none : goal.returns-then-not-is_told-clause-none
returns-then-not-is_told-clause-none c h =
    let lines = has_lines c.args.head.now c.args.behind.now c.in_ok-block.block.now c.in_ok-lines_in.field-0.now c.in_ok-size.size c.requires.head c.in_ok-size.ensures.some c.in_ok-block.ensures.cases.2 c.in_ok-lines_in.ensures.some in
    let yes = c.is_told.ensures.1 (subst (IsToldByLines c.in_ok-brief.brief c.args.from.now) (sym c.from.ensures) (told_of_stored c.args.from.now c.args.head.now c.args.behind.now _ c.in_ok-size.size c.in_ok-brief.brief lines c.in_ok-brief.ensures.some h)) in
    let no = c.if-not-is_told.true in
    cc (yes, no)

pub returns-clause-some : goal.returns-clause-some
returns-clause-some c =
    let lines = has_lines c.args.head.now c.args.behind.now c.in_ok-block.block.now c.in_ok-lines_in.field-0.now c.in_ok-size.size c.requires.head c.in_ok-size.ensures.some c.in_ok-block.ensures.cases.2 c.in_ok-lines_in.ensures.some in
    let found = stored_of_told c.args.from.now c.args.head.now c.args.behind.now _ c.in_ok-size.size c.in_ok-brief.brief lines c.in_ok-block.ensures.cases.0 c.in_ok-brief.ensures.some (subst (IsToldByLines c.in_ok-brief.brief c.args.from.now) c.from.ensures (c.is_told.ensures.0 c.if-not-is_told.false)) in
    (found.within, (found.stored, found.body, found.size_is, found.refs_are))
