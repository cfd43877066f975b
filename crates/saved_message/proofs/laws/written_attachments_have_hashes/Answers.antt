use Rattle.saved_message.proofs.StoredLemmas.{hashes_own}
use Rattle.saved_message.proofs.laws.written_attachments_have_hashes.Goals as goal

pub returns : goal.returns
returns c = λ files row name time message p can has. hashes_own files p.parts row.instances has.instances can.form.hashes has.octets
