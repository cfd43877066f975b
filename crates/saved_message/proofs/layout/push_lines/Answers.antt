use Rattle.std.proofs.Common.{subst, sym, ◌∙◌, ap, length, List}
use Rattle.std.specs.List.{AllByRecursion}
use Rattle.dbox_metadata.specs.MadeMetadata.{IsMadeMetadata}
use Rattle.model_storage.specs.Metadata.{metadata_text}
use Rattle.model_storage.specs.References.{ReferenceFits}
use Rattle.attach_detach.specs.declared.message.Detached.{Detached}
use Rattle.saved_message.specs.Region.{references_naming, unknown_ids}
use Rattle.saved_message.proofs.LayoutLemmas.{first_pushed, lines_pushed, names_made, numbers_written}
use Rattle.saved_message.proofs.layout.push_lines.Goals as goal

pub push_metadata-requires : goal.push_metadata-requires
push_metadata-requires c = (metadata_text c.numbers_of-numbers.result, c.made_metadata_is_said.ensures c.numbers_of-numbers.result c.numbers_of-numbers.ensures.made)

pub push_metadata-requires-2 : goal.push_metadata-requires-2
push_metadata-requires-2 c =
    let fit = subst (λ (x : List Detached). AllByRecursion ReferenceFits (references_naming x (unknown_ids x))) (sym c.as_slice.ensures) c.requires.refs in
    let made = subst IsMadeMetadata (sym c.in_ok-names.ensures) (names_made c.as_octets.result.now c.as_slice.result.now c.as_octets.ensures.name fit) in
    (metadata_text c.in_ok-names.names, c.made_metadata_is_said.ensures c.in_ok-names.names made)

pub returns-clause-text : goal.returns-clause-text
returns-clause-text c = lines_pushed c.args.name.now c.as_octets.result.now c.args.time c.args.prepared.now c.as_slice.result.now c.empty-lines.result c.push_metadata.new.out c.push_metadata-2.new.out c.numbers_of-numbers.result c.in_ok-names.names
    c.empty-lines.ensures c.numbers_of-numbers.ensures.is c.in_ok-names.ensures c.as_octets.ensures.same c.as_slice.ensures c.in_ok-push_metadata.ensures.ok c.in_ok-push_metadata-2.ensures.ok

pub returns-clause-before : goal.returns-clause-before
returns-clause-before c =
    let first = first_pushed c.args.time c.args.prepared.now c.empty-lines.result c.push_metadata.new.out c.numbers_of-numbers.result c.empty-lines.ensures c.numbers_of-numbers.ensures.is c.in_ok-push_metadata.ensures.ok in
    c.length-before.ensures ∙ ap length (first ∙ numbers_written c.args.time c.args.prepared.now)
