use Rattle.std.proofs.Common.{sym}
use Rattle.mime_parts.proofs.ReaderLemmas.{part_big, part_small, part_plain}
use Rattle.mime_parts.proofs.reader.make_part.Goals as goal
use Rattle.mime_parts.proofs.reader.make_part.Goals.{else-other-via-then-other+else-size-ge-LEAST_DETACHED, else-other-via-else-other}

pub returns-then-size-ge-LEAST_DETACHED : goal.returns-then-size-ge-LEAST_DETACHED
returns-then-size-ge-LEAST_DETACHED c = sym (part_big c.args.message.now c.args.coding c.args.other c.args.start c.args.end c.trimmed-size.result c.trimmed-size.ensures.value c.if-other.true c.if-size-ge-LEAST_DETACHED.true)

pub returns-else-other : goal.returns-else-other
returns-else-other c = elim c.else-other.branch [
  | else-other-via-then-other+else-size-ge-LEAST_DETACHED w ↦ sym (part_small c.args.message.now c.args.coding c.args.start c.args.end c.trimmed-size.result c.trimmed-size.ensures.value w.if-size-ge-LEAST_DETACHED.false c.args.other)
  | else-other-via-else-other w ↦ sym (part_plain c.args.message.now c.args.coding c.args.start c.args.end c.args.other w.if-other.false)
]
