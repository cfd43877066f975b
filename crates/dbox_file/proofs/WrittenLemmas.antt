-- Written messages are found, and make a file.
use Rattle.std.specs.Prelude.{◌<◌, ◌^◌, ℕ, List, [], ◌∷◌, ◌++◌, length, flat_map, Ok, refl}
use Rattle.std.specs.List.{AllByRecursion}
use Rattle.std.proofs.Math.Seq.{drop-append_seam}
use Rattle.model_storage.specs.StorageFile.{Message, AreMessages, IsFile, PlaceGives, place_at}
use Rattle.model_storage.specs.WrittenFile.{FitsInFile, written_header, written_message}
use Rattle.model_storage.proofs.WrittenFileLemmas.{written_message_spells, written_header_spells}

pub found_where_written : (before after : List ℕ) (m : Message) → FitsInFile m → PlaceGives (before ++ (written_message m ++ after)) (length before) (Ok (place_at (length before) m))
found_where_written before after m fits = (written_message m, after, m, drop-append_seam before (written_message m ++ after), written_message_spells m fits, refl)

written_follow : (messages : List Message) → AllByRecursion FitsInFile messages → AreMessages (flat_map written_message messages) messages
written_follow [] fit = refl
written_follow (m ∷ rest) fit = (written_message m, flat_map written_message rest, refl, written_message_spells m fit.0, written_follow rest fit.1)

pub written_is_file : (time : ℕ) (messages : List Message) → time < 2 ^ 64 → AllByRecursion FitsInFile messages → IsFile (written_header time ++ flat_map written_message messages) (written_header time) messages
written_is_file time messages lt fit = record {
  rest = flat_map written_message messages;
  parts = refl;
  begins = written_header_spells time lt;
  follow = written_follow messages fit;
}
