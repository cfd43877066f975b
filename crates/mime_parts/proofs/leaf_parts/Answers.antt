use Rattle.std.proofs.Common.{refl, sym, ◌∙◌, subst, Bool, length, []}
use Rattle.mime_parts.specs.Reading.{Ended}
use Rattle.mime_parts.proofs.ReaderLemmas.{end_behind, parts_end, ended_many}
use Rattle.mime_parts.proofs.leaf_parts.Goals as goal

pub returns-then-not-branch-2 : goal.returns-then-not-branch-2
returns-then-not-branch-2 c = c.empty-then-not-branch-2.ensures ∙ sym (ended_many c.args.message.now c.loop-line.reader c.end_open.new.self c.loop-line.at (length c.args.message.now) (length c.args.message.now) [] c.loop-line.invariant refl
    (end_behind c.args.message.now c.loop-line.reader c.loop-line.at c.loop-line.invariant c.in_default.ensures.end)
    (subst (λ (b : Bool). Ended c.args.message.now c.loop-line.reader c.end_open.new.self (length c.args.message.now) b) c.if-not-branch-2.true c.in_ok-end_open.ensures))

pub returns : goal.returns
returns c = c.into_parts.ensures ∙ parts_end c.args.message.now c.loop-line.reader c.end_open.new.self c.loop-line.at c.loop-line.invariant c.in_default.ensures.end
    (subst (λ (b : Bool). Ended c.args.message.now c.loop-line.reader c.end_open.new.self (length c.args.message.now) b) c.if-not-branch-2.false c.in_ok-end_open.ensures)
