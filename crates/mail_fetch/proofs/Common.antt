-- The names that most proofs of this crate cite, passed on from one place. Declares nothing.
pub use Rattle.std.proofs.Common.{All, Bool, List, None, Option, Some, [], ap, append-nil, append_assoc, arith, cond, drop, false, get_or, inl, inr, length, length-append, map, not, refl, subst, suc, sym, take, true, ℕ, ◌&&◌, ◌++◌, ◌+◌, ◌-◌, ◌<◌, ◌==◌, ◌||◌, ◌∙◌, ◌∷◌, ◌≡◌, ◌≢◌, ◌≤◌, ◌⊎◌}
pub use Rattle.std.proofs.Math.Seq.{take-append_seam}
pub use Rattle.std.proofs.lemmas.Bool.{cases_eq, cases_lt, cond-true, eq-eqb, eqb-true, ne_eqb}
pub use Rattle.std.proofs.lemmas.Grind.{common_steps}
pub use Rattle.std.proofs.lemmas.List.{length-drop, length-take, take_all}
pub use Rattle.std.proofs.lemmas.List.Elements.{All-cons, All-contains, All-head, All-nil, All-tail, All-weaker}
pub use Rattle.std.proofs.lemmas.List.Sums.{sum_by-cons}
pub use Rattle.std.specs.List.{list_any}
pub use Rattle.std.specs.Option.{option_and_then, option_map, option_map_or, option_or}
pub use Rattle.std.specs.Prelude.{filter, if◌then◌else◌, is_some, nat_lt, sum_by}
pub use Rattle.std.specs.Str.{bytes_eq}
pub use Rattle.disk_model.proofs.IdleLemmas.{idle-begins}
pub use Rattle.disk_model.specs.Disk.{DiskState, Faults, Files, Grows, History, IfTold, IsIdle, told_calls}
pub use Rattle.disk_model.specs.FaultCounts.{NoFault}
pub use Rattle.journal.proofs.OwnEventLemmas.{own_more, own_other}
pub use Rattle.journal.specs.Events.{Around, behind_event, last_refusal, leaves_doomed, next_part, piece_left, pieces_to_read}
pub use Rattle.journal.specs.Journal.{IsReplyOf, refusal_in}
pub use Rattle.list_machine.specs.Machine.{PartAnswers}
pub use Rattle.list_machine.specs.Run.{EventPart, First, Pin, ReadsPiece, RemovesFile, Run, RunEvent, Unpins, and_then, has_unpinned, is_doomed, is_one_of, is_pinned, is_unpinning, own_events}
pub use Rattle.mdbox_base.specs.declared.entries.InstRow.{InstRow}
pub use Rattle.mdbox_base.specs.declared.ids.FileNo.{FileNo}
pub use Rattle.mdbox_base.specs.declared.ids.InstId.{InstId}
pub use Rattle.mdbox_base.specs.declared.ids.Uid.{Uid}
pub use Rattle.mdbox_base.specs.declared.metadata.ExtRef.{ExtRef}
pub use Rattle.mdbox_base.specs.declared.progress.Progress.{Progress}
pub use Rattle.mdbox_base.specs.declared.replies.Refusal.{Refusal}
pub use Rattle.mdbox_base.specs.declared.replies.Reply.{Reply}
pub use Rattle.model_lists.specs.Lists.{Lists}
pub use Rattle.model_meaning.specs.BoxMeaning.{BoxMeaning, LogRow, row_at}
pub use Rattle.model_meaning.specs.MapMeaning.{MapMeaning, MapRecord, named_instances, record_at}
pub use Rattle.model_octets.proofs.SearchLemmas.{found_one}
pub use Rattle.model_storage.specs.StorageFile.{Message}
pub use Rattle.model_storage.specs.declared.metadata_value.Metadata.{Metadata}
pub use Rattle.model_store.specs.Safe.{IsThereWhole}
pub use Rattle.model_store.specs.Settled.{IsSettledFor, Leaves, files_of}
pub use Rattle.model_store.specs.Stands.{NameInstances}
pub use Rattle.save_instances.specs.Attaching.{found_let_go}
pub use Rattle.sis_store.specs.Instances.{holders_in}
pub use Rattle.sis_store.specs.declared.instance.KnownInstance.{KnownInstance}
pub use Rattle.storage_files.proofs.FileListLemmas.{file-gone, file-without}
pub use Rattle.storage_files.specs.Files.{end_in, file_in, is_doomed_in, pins_in}
pub use Rattle.storage_files.specs.OnDisk.{piece_read}
pub use Rattle.storage_files.specs.declared.file.MailFile.{MailFile}
pub use Rattle.store_core.specs.Keeping.{KeepsInstances, MovesHolds, holds_of}
pub use Rattle.store_core.specs.Removing.{AreElsewhere}
pub use Rattle.store_core.specs.Running.{IsStore}
pub use Rattle.store_core.specs.StoreInstances.{IsKnownRow}
pub use Rattle.store_core.specs.Value.{StoreValue}
pub use Rattle.task_claims.proofs.CountedLemmas.{unraised_same}
pub use Rattle.task_claims.specs.Claims.{AreIn, Claims, Due, Emptied, Held, Made, MovesClaims, Pinned, PlacingPieces, Removing, Taken, Thing, amount_in, no_claims, one_if}
pub use Rattle.task_claims.specs.Leaving.{IsSameOrSynced, LeavesOthers}
pub use Rattle.task_steps.proofs.EventLaws.{unstepped}
pub use Rattle.task_steps.specs.Step.{HasComeTo, Seen, pins_of}
pub use Rattle.mail_fetch.specs.Claims.{HasClaimed, IsReadyToFetch, claims_of_pinned, fetch_claims, held_for, with_claims, without_claims}
pub use Rattle.mail_fetch.specs.Clause.{FetchSteps}
pub use Rattle.mail_fetch.specs.Events.{IsBegun, IsPieceRead, IsPinned, fetch_refusal, next_piece, with_piece}
pub use Rattle.mail_fetch.specs.Parts.{KnowsSource, has_octets, instance_part, left_after, octets_to_read, part_read, parts_read, parts_to_read, pieces_left, region_part, source_file}
pub use Rattle.mail_fetch.specs.Region.{HoldsWhole, IsReplyFor, IsStoredMessage, RegionValue, stored_at}
pub use Rattle.mail_fetch.specs.Removal.{CanRemove, is_last_pin}
pub use Rattle.mail_fetch.specs.Room.{IsPart}
pub use Rattle.mail_fetch.specs.Stages.{HasPinned, HasReadAllBut, IsFrontOfStored, IsTrueReply, RemovesNext, UnpinsNext}
pub use Rattle.mail_fetch.specs.Task.{HasPieceLeft, one_pin, seen_in}
pub use Rattle.mail_fetch.specs.declared.parts.Part.{Part}
pub use Rattle.mail_fetch.specs.declared.parts.StoredAt.{StoredAt}
pub use Rattle.mail_fetch.specs.declared.task.FetchStage.{FetchStage}
