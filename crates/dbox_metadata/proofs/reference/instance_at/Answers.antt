use Rattle.std.proofs.Common.{◌++◌, ◌<◌, sym, ◌∙◌, ap, arith, length, length-append}
use Rattle.std.proofs.lemmas.List.{take-append-drop}
use Rattle.model_storage.specs.References.{instance_path}
use Rattle.dbox_metadata.proofs.InstanceLemmas.{path_length, front_of_path}
use Rattle.dbox_metadata.proofs.reference.instance_at.Goals as goal

pub returns-in_err-path-clause-none : goal.returns-in_err-path-clause-none
returns-in_err-path-clause-none c =
    rw c.from_residual.ensures (λ hash id behind names e.
    let short : length c.args.text.now < 79 = c.in_err-path.ensures.cases in
    absurd (omega (arith, short, ap length e, length-append (instance_path hash id) behind, path_length hash id names)))

pub returns-in_err-hash-clause-none : goal.returns-in_err-hash-clause-none
returns-in_err-hash-clause-none c =
    rw c.from_residual-in_err-hash.ensures (λ hash id behind names e.
    c.in_err-hash.ensures.none hash id (names, c.in_ok-path.ensures.cases.0 ∙ front_of_path c.args.text.now behind hash id names e))

pub returns-clause-some : goal.returns-clause-some
returns-clause-some c =
    let path = c.in_ok-hash.ensures.some in (
      path.0,
      sym (take-append-drop 79 c.args.text.now) ∙ rw (← c.in_ok-path.ensures.cases.0, ← c.in_ok-path.ensures.cases.1) (ap (λ o. o ++ c.in_ok-path.rest.now) path.1),
    )
