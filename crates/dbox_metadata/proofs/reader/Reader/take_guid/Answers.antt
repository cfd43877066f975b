use Rattle.std.proofs.Common.{◌≡◌, []}
use Rattle.model_storage.specs.StorageFile.{values_of}
use Rattle.dbox_metadata.proofs.ReaderLemmas.{found_guid}
use Rattle.dbox_metadata.proofs.reader.Reader.take_guid.Goals as goal

pub returns-else-is_none : goal.returns-else-is_none
returns-else-is_none c = λ lines taken.
    let none : values_of 71 lines ≡ [] = rw c.if-self.false at taken.guid in
    found_guid lines c.args.self.now c.args.value.now c.guid_of-self.result c.requires taken none c.guid_of-self.ensures.some c.if-is_none.ensures
