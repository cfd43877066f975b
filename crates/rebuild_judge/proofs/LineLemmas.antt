-- What the lines of a found message say.
use Rattle.std.proofs.Common.{◌≡◌, ◌-◌, ℕ, List, take, drop, sym, ◌∙◌, ap, subst, Option, Some, None, Result, Err, ◌⊎◌, inl, inr}
use Rattle.std.specs.Prelude.{flat_map}
use Rattle.dbox_metadata.specs.MetadataRead.{MetadataGives}
use Rattle.dbox_metadata.specs.declared.error.MetaError.{MetaError}
use Rattle.dbox_metadata.specs.declared.error.MetaError.TheVariants as bad
use Rattle.disk_model.specs.Disk.{DiskState, reading}
use Rattle.disk_model.specs.declared.name.FileName.TheVariants as file
use Rattle.model_storage.proofs.MetadataLemmas.{lines_same, no_bad_line}
use Rattle.model_storage.specs.declared.metadata_value.Metadata.{Metadata}
use Rattle.model_storage.specs.declared.places.MessageAt.{MessageAt}
use Rattle.model_storage.specs.Metadata.{IsMetadata, IsMetadataText}
use Rattle.model_storage.specs.StorageFile.{AreLines, Line, Message, line_text}
use Rattle.rebuild_judge.proofs.RegionLemmas.{lines_in}
use Rattle.rebuild_judge.specs.Reading.{HasMessageAt, SayOn, SayThis, TextSays}
use Rattle.storage_files.specs.OnDisk.{piece_read}

are_lines : (octets : List ℕ) (place : MessageAt) (m : Message) (text : List ℕ) → (s : HasMessageAt octets place m) → text ≡ flat_map line_text m.lines → AreLines text m.lines
are_lines octets place m text s e = record { each = s.is_message.ends.each; spelled = e }

pub bad_line : (text : List ℕ) (error : MetaError) (offset : ℕ) → error ≡ bad.BadLine offset → (◌≡◌ {A = Result Metadata MetaError} (Err error) (Err bad.NoMemory)) ⊎ MetadataGives text (Err error) → (meta : Metadata) → IsMetadataText text meta → ⊥
bad_line text error offset e (inl none) meta is = absurd (let w : error ≡ bad.NoMemory = cc none in let k = sym e ∙ w in cc k)
bad_line text error offset e (inr gives) meta is = no_bad_line text meta offset is (subst (λ (x : MetaError). MetadataGives text (Err x)) e gives)

pub text_says : (octets : List ℕ) (place : MessageAt) (m : Message) (text : List ℕ) (meta : Option Metadata) → HasMessageAt octets place m → text ≡ flat_map line_text m.lines → TextSays text meta → SayThis m meta
text_says octets place m text None s e says = λ meta is. says meta (record { lines = m.lines; are = are_lines octets place m text s e; say = is })
text_says octets place m text (Some meta) s e says = subst (λ (ls : List Line). IsMetadata ls meta) (lines_same text says.lines m.lines says.are (are_lines octets place m text s e)) says.say

pub lines_say : (number : ℕ) (place : MessageAt) (text : List ℕ) (meta : Option Metadata) (n : ℕ) (disk : DiskState) → n ≡ place.end - place.lines - 1 → text ≡ piece_read place.lines n (reading (disk (file.Mail number))) → TextSays text meta → SayOn number place meta disk
lines_say number place text meta n disk size read says m has =
    let here : text ≡ flat_map line_text m.lines =
    read ∙ (ap (piece_read place.lines n) has.read ∙ (ap (λ (k : ℕ). take k (drop place.lines has.octets)) size ∙ lines_in has.octets place m has.stands)) in
    text_says has.octets place m text meta has.stands here says
