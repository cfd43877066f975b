use Rattle.std.proofs.Common.{◌∙◌, sym, ap}
use Rattle.mdbox_base.specs.Streams.{MemorySource}
use Rattle.mdbox_base.proofs.StreamLemmas.{copied_slice}
use Rattle.mdbox_base.proofs.mem_stream.MemSourceSource.take.Goals as goal

pub returns-clause-octets : goal.returns-clause-octets
returns-clause-octets c =
    sym (ap (λ (m : MemorySource). m.left) c.self.view_is)
    ∙ copied_slice c.self.inside.octets c.as_slice-2.result.now c.args.into.now c.copy_from_slice.new.self c.self.inside.start c.min-count.result
    c.as_slice-2.ensures c.self.invariant c.min-count.ensures c.copy_from_slice.ensures.after
