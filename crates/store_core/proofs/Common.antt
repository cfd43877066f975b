-- The names that most proofs of this crate cite, passed on from one place. Declares nothing.
pub use Rattle.std.proofs.Common.{All, Bool, List, None, Option, Some, [], ap, append-nil, arith, cond, drop, false, find, get_or, inl, inr, length, length-append, map, refl, rules, slice_get, slice_index_or, slice_set, subst, suc, sym, take, true, zero, ℕ, ◌*◌, ◌++◌, ◌+◌, ◌-◌, ◌<◌, ◌==◌, ◌^◌, ◌∙◌, ◌∷◌, ◌≡◌, ◌≢◌, ◌≤◌}
pub use Rattle.std.proofs.lemmas.Bool.{cases_Bool, cases_eq, cond-false, cond-true, eq-eqb, false≢true, ne_eqb, true≢false}
pub use Rattle.std.proofs.lemmas.Bool.Decides.{nat_tests}
pub use Rattle.std.proofs.lemmas.List.{length-map, map-append}
pub use Rattle.std.proofs.lemmas.List.Elements.{All-append, All-cons, All-contains, All-contains_itself, All-filter, All-head, All-nil, All-tail, All-weaker}
pub use Rattle.std.proofs.lemmas.List.Sums.{sum_by-cons}
pub use Rattle.std.proofs.lemmas.Option.{same_Some, slice_get-get_or}
pub use Rattle.std.proofs.lemmas.Slice.Eq.{bytes_eq-Decides}
pub use Rattle.std.specs.Cmp.Lexicographic.{slice_cmp}
pub use Rattle.std.specs.List.{list_any}
pub use Rattle.std.specs.Option.{option_and_then, option_map, option_map_or}
pub use Rattle.std.specs.Ordering.{nat_cmp}
pub use Rattle.std.specs.Prelude.{AllPairs, Contains, count_by, filter, flat_map, if◌then◌else◌, not, sum_by, ◌&&◌, ◌||◌, ◌⊎◌}
pub use Rattle.std.specs.Str.{bytes_eq}
pub use Rattle.std.specs.declared.cmp.Ordering.TheVariants.{Less}
pub use Rattle.box_index.specs.Row.{row_of}
pub use Rattle.box_index.specs.declared.index.BoxRow.{BoxRow}
pub use Rattle.disk_model.proofs.BetweenLemmas.{between-map, between-on}
pub use Rattle.disk_model.proofs.FirmLemmas.{reads_there}
pub use Rattle.disk_model.proofs.MomentLemmas.{each_image-map, if_told-map}
pub use Rattle.disk_model.proofs.NameLemmas.{same_name-apart, same_name-true}
pub use Rattle.disk_model.proofs.OneFileLemmas.{named-narrows}
pub use Rattle.disk_model.specs.Disk.{Between, DiskState, EachImage, FileState, Files, Grows, History, IfTold, IsImage, IsThere, Keeps, MayLeave, OthersStay, SameButFor, SameState, named, no_file, reading, removed}
pub use Rattle.disk_model.specs.Name.{same_name}
pub use Rattle.disk_model.specs.declared.name.FileName.{FileName}
pub use Rattle.gate_log.specs.Log.{Holds, IsLogHeld, IsLogRead, IsLogWithOrWithout, NamedButFor, Reads}
pub use Rattle.gate_log.specs.State.{IsSameLog, LogState}
pub use Rattle.map_index.specs.Shown.{is_instance_named}
pub use Rattle.mdbox_base.specs.declared.entries.BoxEntry.{BoxEntry}
pub use Rattle.mdbox_base.specs.declared.entries.Highest.{Highest}
pub use Rattle.mdbox_base.specs.declared.entries.InstRow.{InstRow}
pub use Rattle.mdbox_base.specs.declared.entries.MapEntry.{MapEntry}
pub use Rattle.mdbox_base.specs.declared.entries.MapPlace.{MapPlace}
pub use Rattle.mdbox_base.specs.declared.ids.BoxNo.{BoxNo}
pub use Rattle.mdbox_base.specs.declared.ids.FileNo.{FileNo}
pub use Rattle.mdbox_base.specs.declared.ids.Hash.{Hash}
pub use Rattle.mdbox_base.specs.declared.ids.InstId.{InstId}
pub use Rattle.mdbox_base.specs.declared.ids.MapUid.{MapUid}
pub use Rattle.model_appends.proofs.AmountLemmas.{accounted_counted}
pub use Rattle.model_appends.proofs.AppendFileLemmas.{count_itself, kept_as, log_as, map_stored, mixed, mixed-here, mixed-other}
pub use Rattle.model_appends.proofs.AppendMapOpenLemmas.{same_record}
pub use Rattle.model_appends.proofs.AppendSafeLemmas.{more_log, others_carry, safe_without, same_log}
pub use Rattle.model_appends.proofs.AppendSafeMapLemmas.{settled_by_map_append}
pub use Rattle.model_appends.specs.Amounts.{IsAccounted, bit, due_by_box}
pub use Rattle.model_appends.specs.Appending.{HasOneMore, LeavesAsRead, LeftBut, logs_by, meanings_by}
pub use Rattle.model_appends.specs.MapAppending.{logs_made, stored_row}
pub use Rattle.model_kept.proofs.KeptLemmas.{kept_begins, kept_beside}
pub use Rattle.model_kept.specs.Kept.{MailIsKept}
pub use Rattle.model_lists.specs.Lists.{Lists, empty_mailbox}
pub use Rattle.model_logs.specs.Entries.{BoxInRange, MapInRange, box_text, map_text}
pub use Rattle.model_logs.specs.LogFile.{IsLogFile}
pub use Rattle.model_logs.specs.declared.log_head.LogHead.{LogHead}
pub use Rattle.model_meaning.proofs.KeptRowLemmas.{kept_all, kept_rows}
pub use Rattle.model_meaning.proofs.MapLemmas.{map_more}
pub use Rattle.model_meaning.proofs.MapPlaceLemmas.{changed_same, equal_is}
pub use Rattle.model_meaning.specs.BoxMeaning.{BoxMeaning, LogRow, box_applied, box_meaning, row_made, rows_after}
pub use Rattle.model_meaning.specs.MapFits.{HasRecord, MapFits}
pub use Rattle.model_meaning.specs.MapMeaning.{MapBox, MapMeaning, MapRecord, has_map_uid, is_own, is_sealed, map_applied, map_meaning, named_instances, number_at, record_at, record_changed, record_made, record_rules}
pub use Rattle.model_meaning.specs.Sound.{IsSoundMap, IsSoundRecord}
pub use Rattle.model_octets.proofs.PairLemmas.{found_holds, pairs_head, pairs_tail}
pub use Rattle.model_octets.proofs.SearchLemmas.{found_one}
pub use Rattle.model_store.proofs.CarryingLemmas.{each_name}
pub use Rattle.model_store.proofs.SettledLemmas.{has_all_carried, kept_along, map_along, safe_carried}
pub use Rattle.model_store.proofs.StandsLemmas.{map_same, root_same}
pub use Rattle.model_store.specs.Carrying.{CarriesOver, CarryOver}
pub use Rattle.model_store.specs.GoodLogs.{AreGoodLogs}
pub use Rattle.model_store.specs.Listing.{meaning_numbered}
pub use Rattle.model_store.specs.Opening.{HasItsRecord, IsCounted, Opens, listed_of}
pub use Rattle.model_store.specs.Safe.{HasAll, IsThereWhole, LiesInFile, Safe, SafeBy}
pub use Rattle.model_store.specs.Settled.{AreAlike, HasSameInstance, HasSameRegion, IsSameRegion, IsSettled, IsSettledFor, Leaves, files_of}
pub use Rattle.model_store.specs.Stands.{HasBox, HasRoot, StoresMessage, head_of}
pub use Rattle.sis_store.proofs.IdLemmas.{instance-in, lt_less, same_id, turned}
pub use Rattle.sis_store.proofs.KeysLemmas.{found-among}
pub use Rattle.sis_store.specs.Instances.{AreInstances, HasDrawnNumber, InstancesValue, after_placing, has_id, instance_in, instance_placed, is_of_kind, next_id, with_holders, with_instance}
pub use Rattle.sis_store.specs.OnDisk.{IsUnlikeKnown, instance_file, next_instance_file}
pub use Rattle.sis_store.specs.declared.instance.KnownInstance.{KnownInstance}
pub use Rattle.storage_files.specs.Files.{AreFilesInOrder, FilesValue, changed_in, end_in, ending_at, file_in, is_doomed_in, is_emptied_in, is_taken_in, made_doomed}
pub use Rattle.storage_files.specs.OnDisk.{FrontStays, IsAddedTo, IsAsKnown, OthersAreNamed}
pub use Rattle.storage_files.specs.declared.file.MailFile.{MailFile}
pub use Rattle.store_core.specs.Append.{AddsText, IsSameBox, change_beside, due_change_of, dues_by}
pub use Rattle.store_core.specs.Beside.{StandBeside, in_boxes, in_rows}
pub use Rattle.store_core.specs.Dues.{KeepsStored, due_at, leak_at, listed_at, number_beside}
pub use Rattle.store_core.specs.Files.{AreFilesKept, EndsBehind, LiesBelowEnd, MayGrow, StayThere}
pub use Rattle.store_core.specs.Keeping.{KeepsFirm, KeepsMail}
pub use Rattle.store_core.specs.MadeLogs.{HaveOtherNumbers, IsMadeLog, IsUnnamed, KeepsMadeLogs, has_made_log, without_box}
pub use Rattle.store_core.specs.MapAppend.{IsAppendable, NamesFirm, NamesFirst, NamesKnown, drawn_by}
pub use Rattle.store_core.specs.Removing.{AreElsewhere, useless_past}
pub use Rattle.store_core.specs.Running.{AreBoxLogs, CoverDues, HasEntryRoom, IsRunning, IsStore, IsUpTo, ReadBoxLogs}
pub use Rattle.store_core.specs.StoreInstances.{AreInstancesFirm, AreInstancesThere, HasKnownInstances, IsFirmInstance, IsFirstKnown, IsKnownRow, IsOtherThan}
pub use Rattle.store_core.specs.Value.{StoreValue, entry_room, indexes_of, list_numbered, roomy_box}
pub use Rattle.store_core.specs.declared.store.OpenBox.{OpenBox}
