-- What a fetch replies that has the store to itself.
use Rattle.std.specs.Prelude.{◌≡◌, ◌⊎◌, ◌++◌, ℕ, List, flat_map, Option}
use Rattle.disk_model.specs.Disk.{DiskState, History, IfTold, reading}
use Rattle.disk_model.specs.declared.name.FileName.TheVariants.{Mail, Inst}
use Rattle.mdbox_base.specs.declared.replies.Refusal.TheVariants as refusal
use Rattle.mdbox_base.specs.declared.replies.Reply.{Reply}
use Rattle.mdbox_base.specs.declared.replies.Reply.TheVariants as reply
use Rattle.model_meaning.specs.BoxMeaning.{LogRow}
use Rattle.model_meaning.specs.MapMeaning.{MapRecord}
use Rattle.storage_files.specs.OnDisk.{piece_read}
use Rattle.mail_fetch.specs.Region.{stored_at, IsReplyFor}

-- the octets that a disk reads at a record's region, and behind them those of each instance that it names
abbrev pub message_read : MapRecord → DiskState → List ℕ
message_read entry disk = piece_read entry.offset entry.size (reading (disk (Mail entry.file))) ++ flat_map (λ row. piece_read 0 row.size (reading (disk (Inst row.hash.0 row.id.0)))) entry.instances

-- A read failed, and that is replied; or what the disk reads there is replied: the octets of the message that it is, or that it is
-- damaged if and only if it is none.
abbrev pub IsFetchAnswer : LogRow → MapRecord → Option History → Reply → Type 0
IsFetchAnswer row entry history given =
    (given ≡ reply.Refused refusal.ReadFault) ⊎ ((read : List ℕ) × IfTold history (λ disk. read ≡ message_read entry disk) × IsReplyFor (stored_at row entry) read given)
