-- The names that most proofs of this crate cite, passed on from one place. Declares nothing.
pub use Rattle.std.proofs.Common.{ap, arith, inl, inr, subst, sym, ◌∙◌}
pub use Rattle.std.proofs.lemmas.Bool.{false≢true}
pub use Rattle.std.proofs.lemmas.List.Elements.{All-append, All-cons, All-contains, All-contains_itself, All-head, All-nil, All-tail, All-weaker}
pub use Rattle.std.proofs.lemmas.List.Sums.{sum_by-append, sum_by-cons}
pub use Rattle.std.specs.List.{AllByRecursion}
pub use Rattle.std.specs.Option.{option_map_or}
pub use Rattle.std.specs.Prelude.{All, AllPairs, Bool, Contains, List, None, Option, Some, [], cond, count_by, drop, false, filter, find, flat_map, if◌then◌else◌, length, map, not, refl, sum_by, take, true, ℕ, ◌++◌, ◌+◌, ◌<◌, ◌==◌, ◌∷◌, ◌≡◌, ◌≢◌, ◌≤◌}
pub use Rattle.std.specs.Str.{bytes_eq}
pub use Rattle.disk_model.proofs.NameLemmas.{same_name-apart, same_name-true}
pub use Rattle.disk_model.specs.Disk.{DiskState, Files, IsImage, reading}
pub use Rattle.disk_model.specs.Name.{same_name}
pub use Rattle.disk_model.specs.declared.name.FileName.{FileName}
pub use Rattle.mdbox_base.specs.declared.entries.BoxEntry.{BoxEntry}
pub use Rattle.mdbox_base.specs.declared.entries.InstRow.{InstRow}
pub use Rattle.mdbox_base.specs.declared.entries.MapCount.{MapCount}
pub use Rattle.mdbox_base.specs.declared.entries.MapEntry.{MapEntry}
pub use Rattle.mdbox_base.specs.declared.ids.BoxNo.{BoxNo}
pub use Rattle.mdbox_base.specs.declared.ids.FileNo.{FileNo}
pub use Rattle.mdbox_base.specs.declared.ids.Guid.{Guid}
pub use Rattle.mdbox_base.specs.declared.ids.MapUid.{MapUid}
pub use Rattle.mdbox_base.specs.declared.ids.Uid.{Uid}
pub use Rattle.model_lists.specs.Lists.{ListedMessage, Lists, Mailbox, empty_mailbox, refs_of}
pub use Rattle.model_logs.specs.Entries.{BoxInRange, MapInRange, box_text, map_text}
pub use Rattle.model_meaning.proofs.AppliedLemmas.{boxes_by_deleted, boxes_by_renamed, only_changes}
pub use Rattle.model_meaning.proofs.FitLemmas.{each_more, map_fit_more}
pub use Rattle.model_meaning.proofs.MapLemmas.{map_more}
pub use Rattle.model_meaning.proofs.MapPlaceLemmas.{equal_is, equal_yes}
pub use Rattle.model_meaning.proofs.MapSoundLemmas.{map_sound}
pub use Rattle.model_meaning.proofs.RowLemmas.{one_more}
pub use Rattle.model_meaning.specs.BoxMeaning.{BoxFits, BoxMeaning, LogRow, box_meaning, row_made, row_rules, rows_after}
pub use Rattle.model_meaning.specs.MapFits.{MapFits}
pub use Rattle.model_meaning.specs.MapMeaning.{MapBox, MapMeaning, MapRecord, box_changed, box_made, count_of, has_map_uid, map_meaning, record_at, record_changed, record_made, record_of, record_rules}
pub use Rattle.model_meaning.specs.Rows.{rows_by}
pub use Rattle.model_meaning.specs.Sound.{IsSoundMap}
pub use Rattle.model_octets.proofs.PairLemmas.{all_map, pairs_head, pairs_tail}
pub use Rattle.model_octets.proofs.SearchLemmas.{found_one, text_is}
pub use Rattle.model_store.proofs.OpeningSafeLemmas.{at_uid, count_is}
pub use Rattle.model_store.specs.Carrying.{CarriesOver, CarryOver}
pub use Rattle.model_store.specs.GoodLogs.{AreGoodLogs}
pub use Rattle.model_store.specs.Listing.{meaning_numbered}
pub use Rattle.model_store.specs.Opening.{AreBoxEntries, HasItsRecord, IsCounted, Opens, PassBoxes, listed_of}
pub use Rattle.model_store.specs.Safe.{IsThereWhole, LiesInFile, SafeBy}
pub use Rattle.model_store.specs.Settled.{AreAlike, HasSameInstance, HasSameRegion, IsSettled, files_of}
pub use Rattle.model_store.specs.Stands.{AreListed, AreMailboxes, HasBox, IsMailbox, KeepsDetached, NamesAny, NamesOwn, StandsBy, StoredOnce, StoresMessage}
pub use Rattle.model_appends.specs.Amounts.{IsAccounted, bit}
pub use Rattle.model_appends.specs.Appending.{CarryMore, HasOneMore, LeavesAsRead, SameBut, lists_by, logs_by, message_made}
pub use Rattle.model_appends.specs.MapAppending.{IsMapStep, LeavesAlike, OnlyAdds, logs_made}
