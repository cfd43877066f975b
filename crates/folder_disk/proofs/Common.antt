-- The names that most proofs of this crate cite, passed on from one place. Declares nothing.
pub use Rattle.std.proofs.Common.{All, Bool, Contains, Err, IfNone, IfSome, IsTrue, IsUtf8, List, None, Ok, Option, Result, Some, [], ap, arith, codes, false, get_or, if◌then◌else◌, inl, inr, length, map, not, refl, slice_get, string_bytes, subst, suc, sym, take, true, ℕ, ◌&&◌, ◌++◌, ◌+◌, ◌<◌, ◌==◌, ◌||◌, ◌∙◌, ◌∷◌, ◌≡◌, ◌≢◌, ◌≤◌, ◌⊎◌}
pub use Rattle.std.proofs.Math.Logic.{∥∥₁_elim, ∥∥₁_map}
pub use Rattle.std.proofs.Props.{props}
pub use Rattle.std.proofs.lemmas.Bool.{cases_Bool, cond-false, cond-true, false≢true}
pub use Rattle.std.proofs.lemmas.List.Elements.{Contains-append_right}
pub use Rattle.std.specs.BTreeSet.{BTreeSet, contains}
pub use Rattle.std.specs.List.{list_all}
pub use Rattle.std.specs.declared.cmp.Ordering.{Ordering}
pub use Rattle.std.specs.declared.cmp.Ordering.TheVariants.{Greater, Less}
pub use Rattle.disk_files.proofs.ImageLemmas.{covered}
pub use Rattle.disk_files.proofs.SpelledLemmas.{spelled}
pub use Rattle.disk_files.proofs.StepLemmas.{content_follows, reads_there}
pub use Rattle.disk_files.specs.Follows.{CoversFile, CoversSystem, FollowsSystem, HasDurableNames, StaysFolder, octets_at}
pub use Rattle.disk_model.proofs.NameLemmas.{same_name-true, same_octets-true}
pub use Rattle.disk_model.specs.Disk.{AfterFailed, DiskState, FileState, History, IfTold, IsNext, MayLeave, after, change_all, cut_to, half_cut, half_made, half_removed, half_written, made, named, no_file, reading, removed, synced, written}
pub use Rattle.disk_model.specs.Name.{same_name, same_octets}
pub use Rattle.disk_model.specs.contracts.name.FileNameOrd.TheImpl.{ghosts}
pub use Rattle.disk_model.specs.declared.name.FileName.{FileName}
pub use Rattle.disk_record.specs.Record.{state_after}
pub use Rattle.disk_record.specs.declared.change.Change.{Change}
pub use Rattle.file_paths.proofs.OneFileLemmas.{own_paths}
pub use Rattle.file_paths.specs.Paths.{IsStoreFile, path_text}
pub use Rattle.folder_model.proofs.PastLemmas.{first_or_later}
pub use Rattle.folder_model.specs.Calls.{AreSince, Becomes, HasPassed, IfModelled, IfSound, IsDoneOrNot, IsLocked, Modelled, done_by, kind_of_node}
pub use Rattle.folder_model.specs.Paths.{IsPath, folder_at}
pub use Rattle.folder_model.specs.System.{AFolder, Another, ArePathsIn, IsHalfCut, IsSystem, MayStand, Node, Nothing, PlainFile, System, with_content, with_new_file, with_node, with_synced_file, with_synced_names}
pub use Rattle.folder_model.specs.declared.folder.Kind.{Kind}
pub use Rattle.hex.specs.Hex.{encode_lower}
pub use Rattle.folder_disk.specs.Changed.{ChangesName, IsToSync, KeepsNames, NotesNames}
pub use Rattle.folder_disk.specs.Files.{HasFileAt, HasNoFile, IsChanged, IsOpenedAt, IsPartlyChanged, IsSettledLog, IsSoundSystem}
pub use Rattle.folder_disk.specs.Folders.{AreSynced, HasAllFolders, HasFoldersOf, HasOctetNames, HasSameNodes, IsFolderName, IsSyncedFolder, IsUnseen, KeepsAll, StandInFolders, folder_for, folder_text, upper_of}
pub use Rattle.folder_disk.specs.Known.{AreKnownNames}
pub use Rattle.folder_disk.specs.Names.{AddsFiles, AreFileNames}
pub use Rattle.folder_disk.specs.Over.{HasFolders, IsCovered, IsDiskOf, IsDiskOver, IsFailedChange, IsOver, IsStoreDisk, IsStoreSystem, told_history}
pub use Rattle.folder_disk.specs.ReadsImage.{hold_is}
pub use Rattle.folder_disk.specs.Start.{is_store_file}
pub use Rattle.folder_disk.specs.declared.folder_name.FolderName.{FolderName}
