-- The names that most proofs of this crate cite, passed on from one place. Declares nothing.
pub use Rattle.std.proofs.Common.{Bool, List, None, Option, Some, [], ap, append-nil, arith, cond, drop, false, inl, inr, length, length-append, map, refl, subst, suc, sym, take, true, zero, ℕ, ◌++◌, ◌+◌, ◌-◌, ◌<◌, ◌==◌, ◌∙◌, ◌∷◌, ◌≡◌, ◌≤◌, ◌⊎◌}
pub use Rattle.std.proofs.lemmas.Bool.{eq-eqb, eqb-true}
pub use Rattle.std.proofs.lemmas.List.{drop-drop, length-drop, length-take, length-take-le, take-take}
pub use Rattle.std.proofs.lemmas.List.Elements.{All-cons, All-contains, All-contains_itself, All-head, All-map, All-nil, All-tail, All-weaker}
pub use Rattle.std.proofs.lemmas.List.Sums.{sum_by-cons}
pub use Rattle.std.specs.Prelude.{All, AllPairs, Contains, Err, IsTrue, Ok, Result, count_by, if◌then◌else◌, sum_by, ◌↔◌, ◌≢◌}
pub use Rattle.disk_model.specs.Disk.{DiskState, Faults, History, reading}
pub use Rattle.disk_model.specs.FaultCounts.{NoFault}
pub use Rattle.journal.specs.Events.{Around}
pub use Rattle.list_machine.specs.Run.{Run, RunEvent, own_events}
pub use Rattle.map_index.specs.Shown.{MapRow, shown_record}
pub use Rattle.mdbox_base.specs.declared.entries.BoxEntry.{BoxEntry}
pub use Rattle.mdbox_base.specs.declared.entries.MapCount.{MapCount}
pub use Rattle.mdbox_base.specs.declared.replies.Refusal.{Refusal}
pub use Rattle.mdbox_base.specs.declared.replies.Reply.{Reply}
pub use Rattle.model_lists.specs.Lists.{Lists}
pub use Rattle.model_meaning.proofs.AppliedLemmas.{records_by_counted}
pub use Rattle.model_meaning.proofs.MapSoundLemmas.{map_sound}
pub use Rattle.model_meaning.specs.BoxMeaning.{BoxMeaning, LogRow}
pub use Rattle.model_meaning.specs.MapFits.{HasRecord, MapFits}
pub use Rattle.model_meaning.specs.MapMeaning.{MapMeaning, MapRecord, count_given, record_at}
pub use Rattle.model_meaning.specs.Sound.{IsSoundMap, IsSoundRecord}
pub use Rattle.model_storage.specs.StorageFile.{IsMessage, Message}
pub use Rattle.model_store.specs.Listing.{refs_in}
pub use Rattle.model_store.specs.Opening.{listed_of}
pub use Rattle.storage_files.specs.OnDisk.{piece_read}
pub use Rattle.store_core.proofs.DueLemmas.{listed_meant}
pub use Rattle.store_core.specs.Dues.{due_at, listed_at}
pub use Rattle.store_core.specs.Running.{IsStore}
pub use Rattle.store_core.specs.Value.{StoreValue, indexes_of}
pub use Rattle.store_seen.specs.Seeing.{seen_of}
pub use Rattle.task_claims.specs.Claims.{no_claims}
pub use Rattle.task_steps.proofs.EventLaws.{fall}
pub use Rattle.task_steps.proofs.KeptStoreLemmas.{StaysSo}
pub use Rattle.task_steps.specs.Step.{DidEvent, Leads, Seen, ShowsSeen}
pub use Rattle.resync_task.specs.Correcting.{PutsRight}
pub use Rattle.resync_task.specs.Damage.{HasDamagedRegion, IsMessageWith, TellsWhole}
pub use Rattle.resync_task.specs.Files.{AreRecordFiles, region_file}
pub use Rattle.resync_task.specs.Reading.{ReadsStoreOnly}
pub use Rattle.resync_task.specs.Stages.{AreWrongCounts, HasRead, ResyncAt, ToList, ToRead, corrected_map, many_corrected}
pub use Rattle.resync_task.specs.Window.{EndsBefore, IsHeaderAt, IsReadOf, bodiless_header}
pub use Rattle.resync_task.specs.WrongCounts.{wrong_beside, wrong_of}
