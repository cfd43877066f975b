use Rattle.std.proofs.Common.{refl, arith}
use Rattle.mime_parts.proofs.ReaderLemmas.{ended_some, ended_full}
use Rattle.mime_parts.proofs.reader.Reader.end_open.Goals as goal

pub returns-then-len-ge-MOST_LEAVES : goal.returns-then-len-ge-MOST_LEAVES
returns-then-len-ge-MOST_LEAVES c = ended_full c.args.message.now c.args.self.now _ c.args.end c.in-Some.part c.in-Some.ensures (omega (arith, c.len.ensures, c.if-len-ge-MOST_LEAVES.true)) refl refl

pub returns-in_ok-push : goal.returns-in_ok-push
returns-in_ok-push c = ended_some c.args.message.now c.args.self.now _ c.args.end c.in-Some.part c.in-Some.ensures (omega (arith, c.len.ensures, c.if-len-ge-MOST_LEAVES.false)) refl refl c.in_ok-push.ensures.items
