use denote.Param.Send.{sendable}
use Rattle.mdbox_start.proofs.SendLemmas.{FolderDisk-send, KeptFolder-send}
use Rattle.mdbox_start.proofs.folder.run_in.Goals as goal

pub run-requires-send-D : goal.run-requires-send-D
run-requires-send-D g c κs within = search (FolderDisk-send, KeptFolder-send, sendable) depth 200 fits 100000
