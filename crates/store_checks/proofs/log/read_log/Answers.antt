use Rattle.std.proofs.Common.{refl}
use Rattle.store_checks.proofs.ReplayLemmas.{some_text, none_text}
use Rattle.store_checks.proofs.TextWalkLemmas.{bad_replay}
use Rattle.store_checks.proofs.log.read_log.Goals as goal

pub returns-in-Some-clause-refused : goal.returns-in-Some-clause-refused
returns-in-Some-clause-refused g c =
    let t = c.in-Ok.ensures.text in
    (refl, bad_replay g.F.Replay.is_replay g.F.Replay.refuses _ c.args.name c.args.head c.in-Ok.found.1 t.0 c.in-Some.place _ t.1 c.in-Ok.ensures.log.3 c.in-Ok.ensures.octets (some_text _ _ _ _ c.in-Some.is (c.in_ok-place.ensures.replayed t.0 t.1)))

pub returns-clause-read : goal.returns-clause-read
returns-clause-read g c =
    let t = c.in-Ok.ensures.text in
    record {
      texts = t.0;
      text_is = t.1;
      head_is = c.in-Ok.ensures.log.3;
      replayed = none_text _ _ _ c.in_default.is (c.in_ok-place.ensures.replayed t.0 t.1);
      told = c.in-Ok.ensures.octets;
      stands = c.in-Ok.ensures.stands t.0 t.1;
    }
