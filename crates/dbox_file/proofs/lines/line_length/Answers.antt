use Rattle.std.proofs.Common.{arith, ◌+◌}
use Rattle.std.proofs.lemmas.List.{nil_from_length}
use Rattle.dbox_file.specs.Rows.{HasLine}
use Rattle.dbox_file.proofs.RowLemmas.{nothing_yet, unended, unended_late, too_long, line_ends, none_at_all, is_key}
use Rattle.dbox_file.proofs.lines.line_length.Goals as goal

pub returns-in_default-clause-flaw : goal.returns-in_default-clause-flaw
returns-in_default-clause-flaw c =
    nothing_yet c.args.text.now c.args.room (nil_from_length c.args.text.now c.in_default.ensures.cases) (omega arith)

pub returns-in-Some-memchr-clause-line : goal.returns-in-Some-memchr-clause-line
returns-in-Some-memchr-clause-line c =
    let found = c.in-Some-memchr.ensures in (
      line_ends c.in-Some.key.now c.in-Some-memchr.end c.in-Some.value.now c.args.text.now c.in-Some.ensures.cases.0 c.if-key-eq10.false found.0.high found.1 found.0.before,
      c.if-end-room.true,
    )

pub returns-in-None-clause-flaw : goal.returns-in-None-clause-flaw
returns-in-None-clause-flaw c =
    unended c.in-Some.key.now c.in-Some.value.now c.args.text.now c.args.room c.in-Some.ensures.cases.0 (is_key _ c.if-key-eq10.false) (none_at_all _ c.in-None.ensures) c.if-text-room.true

pub returns-in_default-memchr-clause-flaw : goal.returns-in_default-memchr-clause-flaw
returns-in_default-memchr-clause-flaw c =
    let found = c.in-Some-memchr.ensures in
    let line : HasLine c.args.text.now (c.in-Some-memchr.end + 2) =
    line_ends c.in-Some.key.now c.in-Some-memchr.end c.in-Some.value.now c.args.text.now c.in-Some.ensures.cases.0 c.if-key-eq10.false found.0.high found.1 found.0.before in
    too_long line.0 c.args.text.now _ c.args.room line.1 line.2 (omega (arith, line.3))

pub returns-in_default-memchr-2-clause-flaw : goal.returns-in_default-memchr-2-clause-flaw
returns-in_default-memchr-2-clause-flaw c =
    unended_late c.in-Some.key.now c.in-Some.value.now c.args.text.now c.args.room c.in-Some.ensures.cases.0 (is_key _ c.if-key-eq10.false) (none_at_all _ c.in-None.ensures) c.if-text-room.false
