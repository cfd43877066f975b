use Rattle.std.proofs.Common.{refl}
use Rattle.b64_lines.proofs.WritingLemmas.{written_next, written_end}
use Rattle.b64_lines.proofs.write.push_each.Goals as goal

pub loop-rest-preserved : goal.loop-rest-preserved
loop-rest-preserved c = written_next c.args.form c.args.octets.now _ _ _ _ _ _ _ _ c.requires c.loop-rest.invariant refl c.loop-rest-test.true
    c.split_at.ensures.front_len c.split_at.ensures.back_len c.split_at.ensures.by_index.0 c.in_ok-push_encoded.ensures.ok c.in_ok-push_break.ensures.ok

pub returns-clause-ok : goal.returns-clause-ok
returns-clause-ok c = written_end c.args.form c.args.octets.now _ _ _ _ _ c.requires c.loop-rest.invariant refl c.loop-rest-test.false c.in_ok-push_encoded-2.ensures.ok
