use Rattle.std.proofs.Common.{◌≡◌, []}
use Rattle.model_storage.specs.StorageFile.{values_of}
use Rattle.dbox_metadata.proofs.ReaderLemmas.{found_origin}
use Rattle.dbox_metadata.proofs.reader.Reader.take_origin.Goals as goal

pub returns-else-is_none : goal.returns-else-is_none
returns-else-is_none c = λ lines taken.
    let none : values_of 66 lines ≡ [] = rw c.if-self.false at taken.origin in
    found_origin lines c.args.self.now c.args.value.now c.in_ok-self.field-0 c.requires taken none c.in_ok-self.ensures.some c.if-is_none.ensures
