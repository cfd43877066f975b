-- The names that most proofs of this crate cite, passed on from one place. Declares nothing.
pub use Rattle.std.proofs.Common.{All, Bool, Err, List, None, Option, Some, [], ap, append-nil, append_assoc, arith, cond, drop, false, inl, inr, length, map, not, refl, rules, subst, sym, take, true, ℕ, ◌&&◌, ◌++◌, ◌+◌, ◌-◌, ◌<◌, ◌==◌, ◌^◌, ◌||◌, ◌∙◌, ◌∷◌, ◌≡◌, ◌≢◌, ◌≤◌, ◌⊎◌}
pub use Rattle.std.proofs.Math.Seq.{drop-append_seam}
pub use Rattle.std.proofs.lemmas.Bool.{cases_eq, cond-false, cond-true, eq-eqb, ne_eqb}
pub use Rattle.std.proofs.lemmas.Grind.{common_steps, flat_map-append}
pub use Rattle.std.proofs.lemmas.List.{length-append}
pub use Rattle.std.proofs.lemmas.List.Elements.{All-append, All-cons, All-contains, All-head, All-nil, All-tail, All-weaker}
pub use Rattle.std.proofs.lemmas.List.Folds.{list_any-append}
pub use Rattle.std.proofs.lemmas.List.Sums.{sum_by-cons}
pub use Rattle.std.proofs.lemmas.Slice.Eq.{bytes_eq-Decides}
pub use Rattle.std.specs.Int.{to_be_bytes, w32}
pub use Rattle.std.specs.List.{AllByRecursion, list_any}
pub use Rattle.std.specs.Option.{option_and_then, option_map, option_map_or, option_or}
pub use Rattle.std.specs.Prelude.{Contains, IsSome, filter, find, flat_map, if◌then◌else◌, is_none, is_some, nat_le, nat_lt, slice_get, ◌↔◌}
pub use Rattle.std.specs.Str.{bytes_eq}
pub use Rattle.attach_detach.specs.Prepared.{IsPrepared}
pub use Rattle.attach_detach.specs.declared.message.Detached.{Detached}
pub use Rattle.attach_detach.specs.declared.message.Prepared.{Prepared}
pub use Rattle.disk_model.proofs.BetweenLemmas.{between-both, between-map, between-on}
pub use Rattle.disk_model.proofs.MomentLemmas.{if_told-map}
pub use Rattle.disk_model.specs.Disk.{Between, DiskState, Faults, History, IfTold, reading, told_calls}
pub use Rattle.disk_model.specs.FaultCounts.{ChangeFaultCounted, NoFault}
pub use Rattle.disk_model.specs.declared.name.FileName.{FileName}
pub use Rattle.disk_model.specs.declared.name.FileName.TheVariants.{Inst, Mail}
pub use Rattle.journal.proofs.RunLemmas.{drawn_none}
pub use Rattle.journal.specs.Events.{Around, next_part}
pub use Rattle.journal.specs.Found.{FindsPlace, is_same_instance}
pub use Rattle.list_machine.specs.Machine.{first_refusal, is_step, part_checks, refused_where}
pub use Rattle.list_machine.specs.Run.{Compares, EventPart, First, GivesBack, Last, PlacesInstance, PlacesMessage, Run, RunEvent, StoresRecord, TakesFile, and_then, drawn_also, drawn_of, is_one_of, map_of, own_events}
pub use Rattle.mdbox_base.specs.Words.{IsName, IsOctets}
pub use Rattle.mdbox_base.specs.declared.entries.BoxEntry.{BoxEntry}
pub use Rattle.mdbox_base.specs.declared.entries.Highest.{Highest}
pub use Rattle.mdbox_base.specs.declared.entries.InstRow.{InstRow}
pub use Rattle.mdbox_base.specs.declared.entries.MapEntry.{MapEntry}
pub use Rattle.mdbox_base.specs.declared.ids.FileNo.{FileNo}
pub use Rattle.mdbox_base.specs.declared.ids.Guid.{Guid}
pub use Rattle.mdbox_base.specs.declared.ids.Hash.{Hash}
pub use Rattle.mdbox_base.specs.declared.ids.InstId.{InstId}
pub use Rattle.mdbox_base.specs.declared.ids.MapUid.{MapUid}
pub use Rattle.mdbox_base.specs.declared.ids.Uid.{Uid}
pub use Rattle.mdbox_base.specs.declared.progress.Did.{Did}
pub use Rattle.mdbox_base.specs.declared.progress.Progress.{Progress}
pub use Rattle.mdbox_base.specs.declared.replies.Refusal.{Refusal}
pub use Rattle.mdbox_base.specs.declared.replies.Reply.{Reply}
pub use Rattle.mdbox_base.specs.declared.requests.Request.{Request}
pub use Rattle.model_appends.specs.Amounts.{bit}
pub use Rattle.model_appends.specs.Appending.{lists_by, meanings_by}
pub use Rattle.model_kept.proofs.KeptLemmas.{kept_begins}
pub use Rattle.model_kept.specs.Kept.{MailIsKept}
pub use Rattle.model_lists.specs.Lists.{Lists}
pub use Rattle.model_logs.specs.Entries.{RowInRange}
pub use Rattle.model_meaning.specs.BoxMeaning.{BoxMeaning, LogRow, box_applied}
pub use Rattle.model_meaning.specs.MapFits.{HasRecord, IsFree, MapFits}
pub use Rattle.model_meaning.specs.MapMeaning.{MapBox, MapMeaning, MapRecord, guid_file, is_own, map_applied, no_numbers, number_at, record_at}
pub use Rattle.model_mime.specs.Parts.{parts_in}
pub use Rattle.model_store.specs.Listing.{ShowLists}
pub use Rattle.model_store.specs.Settled.{IsSettledFor, Leaves, files_of}
pub use Rattle.model_store.specs.Stands.{StoresMessage}
pub use Rattle.save_instances.specs.Attaching.{AreHeld, AreOfParts, AttachingValue, found_let_go, next_attachment, next_candidate, nothing_found, part_row, parts_left, with_compared, with_found}
pub use Rattle.saved_message.specs.Laid.{IsLaid}
pub use Rattle.saved_message.specs.Region.{unknown_guid}
pub use Rattle.saved_message.specs.Saved.{HasWritten, ids_in}
pub use Rattle.sis_store.specs.Instances.{AreInstances, InstancesValue, after_placing, holders_in, next_id}
pub use Rattle.sis_store.specs.OnDisk.{instance_file}
pub use Rattle.sis_store.specs.declared.instance.KnownInstance.{KnownInstance}
pub use Rattle.storage_files.proofs.FileListLemmas.{file-before_begun, file-begun, file-other}
pub use Rattle.storage_files.proofs.KnownLemmas.{taken-there}
pub use Rattle.storage_files.specs.Files.{AreFilesInOrder, FilesValue, IsTakeFor, MayBeTakenFor, changed_in, end_in, ending_at, file_begun, file_in, given_back, is_doomed_in, is_taken_in, place_begun_in, released_in, with_taken, without_file}
pub use Rattle.storage_files.specs.OnDisk.{IsAddedTo}
pub use Rattle.storage_files.specs.declared.file.MailFile.{MailFile}
pub use Rattle.storage_files.specs.declared.file.Take.{Take}
pub use Rattle.storage_files.specs.declared.file.Take.TheVariants.{Full, Known, New}
pub use Rattle.store_core.proofs.BoxCrashLemmas.{leaves_none}
pub use Rattle.store_core.proofs.KeptFileLemmas.{none_begun}
pub use Rattle.store_core.proofs.MailChangeLemmas.{Own}
pub use Rattle.store_core.specs.Dues.{KeepsStored, Moves, amounts_in, due_at, number_beside}
pub use Rattle.store_core.specs.Keeping.{KeepsFirm, KeepsInstances, KeepsUids, MovesHolds, holds_of}
pub use Rattle.store_core.specs.Knows.{knows_instance}
pub use Rattle.store_core.specs.MapAppend.{IsReadyToStore}
pub use Rattle.store_core.specs.Running.{IsStore}
pub use Rattle.store_core.specs.StoreInstances.{AreInstancesKept, IsKnownRow}
pub use Rattle.store_core.specs.Value.{StoreValue, indexes_of, list_named, references_to}
pub use Rattle.store_seen.specs.Seeing.{seen_of}
pub use Rattle.task_claims.specs.Claims.{Claims, Due, Held, Taken, one_if}
pub use Rattle.task_claims.specs.Leaving.{IsSameOrSynced, LeavesOthers, LeavesUnlisted}
pub use Rattle.task_claims.specs.Stable.{Beside}
pub use Rattle.task_steps.proofs.EventLaws.{Lasts, fall, step_calm, unstepped}
pub use Rattle.task_steps.proofs.KeptStoreLemmas.{comes_drawn}
pub use Rattle.task_steps.specs.ExpungeStages.{one_due}
pub use Rattle.task_steps.specs.Step.{HasComeTo, HasNotBegun, Leads, Seen, ShowsSeen}
pub use Rattle.mail_save.specs.Added.{entry_added}
pub use Rattle.mail_save.specs.Claims.{save_claims}
pub use Rattle.mail_save.specs.Events.{box_refusal, save_refusal, uid_refusal}
pub use Rattle.mail_save.specs.Held.{HasHoldRoom, save_amounts}
pub use Rattle.mail_save.specs.Left.{HoldsFile, HoldsRegion}
pub use Rattle.mail_save.specs.MailFiles.{HasAppended, ReadsSameMail, TakesWithHeader, WritesAttachment}
pub use Rattle.mail_save.specs.Parts.{AreAttached}
pub use Rattle.mail_save.specs.Ready.{IsLeftSoOrGone, IsPlacedReady, IsReadyToSave}
pub use Rattle.mail_save.specs.Record.{entry_lowered, entry_stored}
pub use Rattle.mail_save.specs.SaveEffects.{AddsStored, AreSpared, AttachesNext, AttachesNone, IsLeftAlone, LetsGo, LowersRecord, PlacesParts, SaveEffects, StoresNone, StoresPlaced, TakesFileFor, TakesNone, TookAs, roomy_files, saved_row, taken_files}
pub use Rattle.mail_save.specs.SaveSeen.{HasItsParts, IsAtSave, StepsWithRoom, around_saving, room_at}
pub use Rattle.mail_save.specs.SaveStages.{AreAttachedSoFar, HasAttached, IsAddingMessage, IsLoweringCount, IsPlacingMessage, IsStoringMessage, IsTakingFile}
pub use Rattle.mail_save.specs.Task.{FaultsAt, HasLeft, IsAttached, RepliesAt, Saves, stopped_reply}
pub use Rattle.mail_save.specs.declared.add.Added.{Added}
pub use Rattle.mail_save.specs.declared.first.SavedParts.{SavedParts}
pub use Rattle.mail_save.specs.declared.place.SavedAt.{SavedAt}
pub use Rattle.mail_save.specs.declared.task.SaveStage.{SaveStage}
