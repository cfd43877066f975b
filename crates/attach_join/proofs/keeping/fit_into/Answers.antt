use Rattle.std.proofs.Common.{arith}
use Rattle.attach_join.specs.Behind.{octets_in}
use Rattle.attach_join.proofs.KeptLemmas.{whole_is_right, whole_texts}
use Rattle.attach_join.proofs.keeping.fit_into.Goals as goal

pub returns-in-Ok-clause-no : goal.returns-in-Ok-clause-no
returns-in-Ok-clause-no c differs text body octets whole long many size =
    let yes = c.texts_fit.ensures.1 (whole_texts 0 text body c.args.refs.now c.args.rows.now octets c.requires.forms whole many) in
    cc (yes, differs)

pub returns-in-Err-clause-no : goal.returns-in-Err-clause-no
returns-in-Err-clause-no c differs text body octets whole long many size =
    whole_is_right text body c.args.refs.now (octets_in c.args.rows.now octets) c.args.stored c.args.whole _ _ whole long size (let few = c.requires.few in omega (arith, few)) c.in-Err.ensures.err
