-- The names that most proofs of this crate cite, passed on from one place. Declares nothing.
pub use Rattle.std.proofs.Common.{All, Bool, List, None, Option, Some, [], ap, append_assoc, arith, cond, drop, false, fold, get_or, inl, inr, length, map, not, refl, subst, suc, sym, take, true, zero, ℕ, ◌&&◌, ◌*◌, ◌++◌, ◌+◌, ◌-◌, ◌<◌, ◌==◌, ◌||◌, ◌∙◌, ◌∷◌, ◌≡◌, ◌≢◌, ◌≤◌}
pub use Rattle.std.proofs.lemmas.Bool.{cases_Bool, cases_eq, cases_lt, eq-eqb, eqb-true, ne_eqb}
pub use Rattle.std.proofs.lemmas.Bool.Decides.{nat_tests}
pub use Rattle.std.proofs.lemmas.Grind.{common_steps}
pub use Rattle.std.proofs.lemmas.List.{append-nil, drop_all, drop_more, get_or_default, length-drop, length-map, length-take-le}
pub use Rattle.std.proofs.lemmas.List.Elements.{All-cons, All-contains, All-contains_itself, All-filter, All-head, All-nil, All-push, All-tail, All-weaker, Contains-append_left, Contains-append_right, Contains-push}
pub use Rattle.std.proofs.lemmas.List.Folds.{list_any-append}
pub use Rattle.std.proofs.lemmas.List.Kept.{AllPairs-cons, AllPairs-from_increasing}
pub use Rattle.std.proofs.lemmas.List.Sums.{count_by-le-length, sum_by-cons}
pub use Rattle.std.specs.List.{AllZip, list_any}
pub use Rattle.std.specs.List.Sorted.{IsStrictlyIncreasing}
pub use Rattle.std.specs.Option.{IfSome, option_and_then, option_map, option_map_or, option_or}
pub use Rattle.std.specs.Prelude.{AllPairs, Contains, Err, IfOk, IsSome, Ok, Result, count_by, filter, find, flat_map, if◌then◌else◌, is_some, max, nat_le, nat_lt, slice_get, sum_by, ◌⊎◌}
pub use Rattle.std.specs.Str.{bytes_eq}
pub use Rattle.disk_model.proofs.BetweenLemmas.{between-begins, between-both, between-if, between-map, between-on}
pub use Rattle.disk_model.proofs.IdleLemmas.{idle-begins}
pub use Rattle.disk_model.specs.Disk.{Between, DiskState, Faults, FileState, Files, Grows, History, IfTold, IsIdle, Keeps, MayLeave, SameButFor, named, reading, told_calls}
pub use Rattle.disk_model.specs.FaultCounts.{NoFault}
pub use Rattle.disk_model.specs.declared.name.FileName.{FileName}
pub use Rattle.disk_model.specs.declared.name.FileName.TheVariants.{Mail}
pub use Rattle.gate_log.specs.State.{LogState}
pub use Rattle.journal.proofs.OwnEventLemmas.{own_more}
pub use Rattle.journal.proofs.RunLemmas.{comes_on}
pub use Rattle.journal.specs.Events.{Around, begun_in, ended_in, is_done, last_refusal, next_part, next_taken, purge_goes_on, targets_of, was_pinned}
pub use Rattle.journal.specs.Makes.{HasCome}
pub use Rattle.journal.specs.QuietPurge.{HasSameOctets, IsClean, IsCleanFile, RunTo, apart_from_place}
pub use Rattle.list_machine.specs.Machine.{first_refusal, purge_checks}
pub use Rattle.list_machine.specs.Run.{CopiesMessage, EventPart, First, Last, MakesTarget, RemovesFile, RemovesInstance, Run, RunEvent, Switches, TakenFile, and_then, before, drawn_of, dropped_in, event_of, how_many, is_copied_from, is_one_of, map_of, own_events, target_length, with_targets}
pub use Rattle.map_index.specs.Shown.{is_instance_named, record_from, shown_record}
pub use Rattle.map_rows.specs.declared.rows.MapRow.{MapRow}
pub use Rattle.mdbox_base.specs.declared.entries.Highest.{Highest}
pub use Rattle.mdbox_base.specs.declared.entries.InstRow.{InstRow}
pub use Rattle.mdbox_base.specs.declared.entries.MapEntry.{MapEntry}
pub use Rattle.mdbox_base.specs.declared.entries.MapPlace.{MapPlace}
pub use Rattle.mdbox_base.specs.declared.ids.FileNo.{FileNo}
pub use Rattle.mdbox_base.specs.declared.ids.InstId.{InstId}
pub use Rattle.mdbox_base.specs.declared.ids.MapUid.{MapUid}
pub use Rattle.mdbox_base.specs.declared.progress.Did.{Did}
pub use Rattle.mdbox_base.specs.declared.progress.Progress.{Progress}
pub use Rattle.mdbox_base.specs.declared.replies.Refusal.{Refusal}
pub use Rattle.mdbox_base.specs.declared.replies.Reply.{Reply}
pub use Rattle.model_appends.specs.MapAppending.{AreCopied, IsCopiedTo}
pub use Rattle.model_kept.proofs.KeptLemmas.{kept_then}
pub use Rattle.model_kept.specs.Kept.{MailIsKept}
pub use Rattle.model_lists.specs.Lists.{Lists}
pub use Rattle.model_meaning.proofs.MapPlaceLemmas.{equal_is, equal_yes}
pub use Rattle.model_meaning.specs.MapFits.{HasRecord, MapFits, size_at}
pub use Rattle.model_meaning.specs.MapMeaning.{MapMeaning, MapRecord, greatest, has_map_uid, instance_number, is_own, is_sealed, map_applied, moved_record, named_instances, no_numbers, number_at, place_given, record_at}
pub use Rattle.model_meaning.specs.Sound.{IsSoundMap, IsSoundRecord}
pub use Rattle.model_octets.proofs.PairLemmas.{found_holds, pairs_head, pairs_nil, pairs_push, pairs_tail}
pub use Rattle.model_octets.proofs.SearchLemmas.{among, found_none, found_one, text_is, text_yes}
pub use Rattle.model_storage.specs.StorageFile.{IsHeaderLine}
pub use Rattle.model_store.proofs.OpeningSafeLemmas.{at_uid}
pub use Rattle.model_store.specs.Safe.{LiesInFile}
pub use Rattle.model_store.specs.Settled.{IsSettledFor, Leaves, files_of}
pub use Rattle.sis_store.proofs.IdLemmas.{instance-in, same_id}
pub use Rattle.sis_store.specs.Instances.{AreInstances, HasDrawnNumber, has_id, holders_in, instance_in, without_instance}
pub use Rattle.sis_store.specs.OnDisk.{instance_file}
pub use Rattle.sis_store.specs.declared.instance.KnownInstance.{KnownInstance}
pub use Rattle.storage_files.proofs.FileListLemmas.{ends-kept, file-gone, file-here, file-other, file-without}
pub use Rattle.storage_files.specs.Files.{AreFilesInOrder, FilesValue, IsUsedFile, changed_in, end_in, ending_at, file_begun, file_in, given_back, is_doomed_in, is_emptied_in, is_taken_in, made_doomed, pins_in, place_begun_in, released_in, to_empty, with_pins, without_file}
pub use Rattle.storage_files.specs.OnDisk.{IsPieceAdded, OthersAreNamed}
pub use Rattle.storage_files.specs.declared.file.MailFile.{MailFile}
pub use Rattle.store_core.proofs.BoxAppendLemmas.{store_sound}
pub use Rattle.store_core.proofs.InstanceKeepingLemmas.{kept_same}
pub use Rattle.store_core.proofs.KnownInstanceLemmas.{firm_same}
pub use Rattle.store_core.proofs.MailChangeLemmas.{named_reads}
pub use Rattle.store_core.specs.Dues.{IsSpared, KeepsStored, due_at}
pub use Rattle.store_core.specs.Files.{AreFilesKept}
pub use Rattle.store_core.specs.Keeping.{KeepsFirm, KeepsInstances, ReadsInstances}
pub use Rattle.store_core.specs.Knows.{knows_file}
pub use Rattle.store_core.specs.Removing.{AreElsewhere, is_useless, useless_past}
pub use Rattle.store_core.specs.Running.{IsStore}
pub use Rattle.store_core.specs.StoreInstances.{HasKnownInstances, IsKnownRow}
pub use Rattle.store_core.specs.Value.{StoreValue}
pub use Rattle.store_seen.specs.Seeing.{may_be_used}
pub use Rattle.task_claims.proofs.CountedLemmas.{unraised_same}
pub use Rattle.task_claims.proofs.RestLemmas.{instance_kept, none_placed}
pub use Rattle.task_claims.specs.Claims.{Claims, Due, Emptied, Held, Made, MovesClaims, Pinned, PlacingPieces, Removing, Taken, Thing, amount_in, is_to_remove, one_if}
pub use Rattle.task_claims.specs.Leaving.{HasRegionOctets, HaveSameInstances, IsSameOrSynced, LeavesOthers, LeavesRecord, MayOnlyGrow, OnlyGrows, OthersTook, but_count, records_within}
pub use Rattle.task_steps.proofs.EventLaws.{DidBy, fall, stands_by}
pub use Rattle.task_steps.proofs.OneEventLemmas.{never_more, next_first}
pub use Rattle.task_steps.proofs.SeenLemmas.{doomed_still, file_still_known, given_still, gone_still, pins_still, placed_still, there_before, used_still}
pub use Rattle.task_steps.proofs.UnmovedLemmas.{mail_still}
pub use Rattle.task_steps.specs.Step.{DidEvent, HasComeTo, HasNotBegun, Seen, ShowsSeen, was_given, was_used}
pub use Rattle.purge_task.specs.Claims.{claims_of_sources, claims_of_switched, claims_of_target, purge_claims, sources_left}
pub use Rattle.purge_task.specs.Clause.{IsPurgeStep, PurgeSteps, answer_of, around_purging, at_stage, came_to, seen_by_purge, uncounted}
pub use Rattle.purge_task.specs.Copied.{AreUnwantedFrom, IsNextWanted, IsRegionAdded, IsSourceWith, IsTargetAt, NotesCopy}
pub use Rattle.purge_task.specs.Dropped.{DropsUnwanted, TellsCounts}
pub use Rattle.purge_task.specs.Found.{AreAllBut, AreContents, HasFound, IsFoundFile, IsFullToEnd, MayBeEmptied, found_numbers, messages_in}
pub use Rattle.purge_task.specs.Keeping.{AreCopiedUpTo, AreSourcesApart, HasPurged, HasSwitchRoom, HasTargetHeader, IsBeginningFirst, IsCopyingFirst, IsCopyingTo, IsRemovingFirst, IsSourceCopied, IsTargetFirst, IsTargetToMake, IsToBegin, IsUnwanted, PurgeValue, target_header}
pub use Rattle.purge_task.specs.Left.{IsFurther}
pub use Rattle.purge_task.specs.Quiet.{CopiesRunTo, HasEmptied, HaveSameRegions, HaveWanted, HoldsCopied, HoldsCopies, IsAtHand, IsOnlyTask, IsQuietFrom, IsQuietSoFar, KeepsQuiet, StaysQuiet, but_file, files_to_empty, sources_to_empty, stays_beside, with_file}
pub use Rattle.purge_task.specs.Reserved.{IsNewSource}
pub use Rattle.purge_task.specs.Stages.{CopiesBehind, GoesOnBehind, HaveCopied, HaveTaken, IsAtPurge, IsAtPurgeStage, IsAtSwitched, IsNextStage, IsPurging, RemovesBehind, told_taken, went_on}
pub use Rattle.purge_task.specs.SwitchEvent.{IsBehindSwitch, IsToSwitch, IsUnwantedFirst, answer_of_switch, came_by_switch}
pub use Rattle.purge_task.specs.Switched.{AreSwitchLists, IsFirst, IsReadyToSwitch, IsSwitched, IsTargetWritten, KeepsButTarget, ReadsMail, files_switched, is_wanted_at, target_named, target_released, target_synced}
pub use Rattle.purge_task.specs.Taken.{CanRelease, CanTake, CanTakeAll, all_released, source_taken, take_all, taken_to_empty, target_drawn, targets_given, with_target}
pub use Rattle.purge_task.specs.declared.finding.Found.{Found}
pub use Rattle.purge_task.specs.declared.finding.FoundFile.{FoundFile}
pub use Rattle.purge_task.specs.declared.switch_event.SwitchedFile.{SwitchedFile}
pub use Rattle.purge_task.specs.declared.switching.Switched.{Switched}
pub use Rattle.purge_task.specs.declared.task.PurgeStage.{PurgeStage}
pub use Rattle.purge_task.specs.declared.work.Source.{Source}
pub use Rattle.purge_task.specs.declared.work.Work.{Work}
