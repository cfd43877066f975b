use Rattle.std.proofs.Common.{◌+◌, refl, true, Bool, subst}
use Rattle.mime_parts.specs.Reading.{Ended}
use Rattle.mime_parts.proofs.ReaderLemmas.{delimit_all, delimit_next, ended_many, by_test}
use Rattle.mime_parts.proofs.reader.Reader.delimit.Goals as goal

pub returns-then-not-branch : goal.returns-then-not-branch
returns-then-not-branch c = ended_many c.args.message.now c.args.self.now c.end_open.new.self c.args.line.start c.end_at-end.result _ _ c.requires.read c.end_at-end.ensures
    (delimit_all c.args.message.now c.args.self.now c.args.line c.args.k c.requires.read c.requires.line c.requires.ends)
    (subst (λ (b : Bool). Ended c.args.message.now c.args.self.now c.end_open.new.self c.end_at-end.result b) c.if-not-branch.true c.in_ok-end_open.ensures)

pub returns : goal.returns
returns c =
    let d : Ended c.args.message.now c.args.self.now c.end_open.new.self c.end_at-end.result true = subst (λ (b : Bool). Ended c.args.message.now c.args.self.now c.end_open.new.self c.end_at-end.result b) c.if-not-branch.false c.in_ok-end_open.ensures in
    let both = delimit_next c.args.message.now c.args.self.now c.end_open.new.self _ c.args.line c.args.k c.end_at-end.result c.requires.read c.requires.line c.requires.ends c.end_at-end.ensures d c.truncate.ensures.items refl refl refl in
    by_test (c.args.k + 1) 64 both.0 both.1
