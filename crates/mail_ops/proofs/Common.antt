-- The names that most proofs of this crate cite, passed on from one place. Declares nothing.
pub use Rattle.std.proofs.Common.{Bool, List, None, Option, Some, [], ap, arith, cond, false, inl, inr, map, not, refl, subst, sym, take, true, ℕ, ◌++◌, ◌+◌, ◌<◌, ◌==◌, ◌||◌, ◌∙◌, ◌∷◌, ◌≡◌, ◌≤◌}
pub use Rattle.std.proofs.lemmas.Bool.{eq-eqb, eqb-true, ne_eqb}
pub use Rattle.std.proofs.lemmas.Bool.Decides.{nat_tests}
pub use Rattle.std.proofs.lemmas.Grind.{common_steps}
pub use Rattle.std.proofs.lemmas.List.{map-append}
pub use Rattle.std.proofs.lemmas.List.Elements.{All-cons, All-nil}
pub use Rattle.std.proofs.lemmas.List.Sums.{sum_by-cons}
pub use Rattle.std.specs.Option.{option_copied, option_map, option_map_or, option_or}
pub use Rattle.std.specs.Prelude.{All, count_by, filter, find, flat_map, if◌then◌else◌, is_some, length, nat_le, nat_lt, slice_get, sum_by, ◌⊎◌}
pub use Rattle.std.specs.Str.{bytes_eq}
pub use Rattle.box_index.specs.Row.{row_of}
pub use Rattle.box_index.specs.State.{BoxState}
pub use Rattle.disk_model.specs.Disk.{Faults, Grows, History, told_calls}
pub use Rattle.disk_model.specs.FaultCounts.{NoFault}
pub use Rattle.journal.proofs.OwnEventLemmas.{own_more, own_other}
pub use Rattle.journal.specs.Events.{Around, is_elsewhere, last_refusal, next_part}
pub use Rattle.journal.specs.Journal.{IsReplyOf, halves_of}
pub use Rattle.list_machine.proofs.MachineOrderLemmas.{answers_well}
pub use Rattle.list_machine.specs.Machine.{HasMailbox, HasUid, PartAnswers, first_refusal, is_step, mailbox_named, message_in, part_checks, refused_where}
pub use Rattle.list_machine.specs.Run.{BoxAppend, EventPart, First, GivesBack, Last, Run, RunEvent, StartsOver, and_then, drawn_also, event_of, map_of, own_events, source_of, uid_copied}
pub use Rattle.mdbox_base.specs.Words.{IsNumber, count_different}
pub use Rattle.mdbox_base.specs.declared.entries.BoxEntry.{BoxEntry}
pub use Rattle.mdbox_base.specs.declared.entries.Highest.{Highest}
pub use Rattle.mdbox_base.specs.declared.entries.MapEntry.{MapEntry}
pub use Rattle.mdbox_base.specs.declared.ids.BoxNo.{BoxNo}
pub use Rattle.mdbox_base.specs.declared.ids.MapUid.{MapUid}
pub use Rattle.mdbox_base.specs.declared.ids.Uid.{Uid}
pub use Rattle.mdbox_base.specs.declared.progress.Did.{Did}
pub use Rattle.mdbox_base.specs.declared.progress.Progress.{Progress}
pub use Rattle.mdbox_base.specs.declared.replies.ListRow.{ListRow}
pub use Rattle.mdbox_base.specs.declared.replies.Refusal.{Refusal}
pub use Rattle.mdbox_base.specs.declared.replies.Reply.{Reply}
pub use Rattle.mdbox_base.specs.declared.requests.Request.{Request}
pub use Rattle.mdbox_base.specs.declared.script.Half.{Half}
pub use Rattle.model_appends.specs.Appending.{lists_by, meanings_by}
pub use Rattle.model_kept.specs.Kept.{MailIsKept}
pub use Rattle.model_lists.specs.Lists.{AreWellFormed, ListedMessage, Lists, Mailbox, listing_row}
pub use Rattle.model_meaning.proofs.MapPlaceLemmas.{equal_is}
pub use Rattle.model_meaning.specs.BoxMeaning.{BoxMeaning, LogRow, box_applied, box_meaning, row_at, row_changed}
pub use Rattle.model_meaning.specs.MapFits.{MapFits}
pub use Rattle.model_meaning.specs.MapMeaning.{MapBox, MapMeaning, MapRecord, map_applied, map_meaning, no_numbers, record_at, record_of}
pub use Rattle.model_store.specs.Listing.{ShowLists, listed_row, meaning_named, meaning_numbered, refs_in}
pub use Rattle.model_store.specs.Settled.{IsSettledFor, Leaves}
pub use Rattle.store_core.proofs.DueLemmas.{moves_as}
pub use Rattle.store_core.specs.Append.{Brings}
pub use Rattle.store_core.specs.Dues.{Moves, amounts_in, due_at}
pub use Rattle.store_core.specs.Keeping.{KeepsMail, KeepsRest, KeepsUid, KeepsUids}
pub use Rattle.store_core.specs.MadeLogs.{has_made_log}
pub use Rattle.store_core.specs.Running.{IsStore}
pub use Rattle.store_core.specs.Value.{StoreValue, indexes_of, list_named}
pub use Rattle.store_core.specs.declared.store.OpenBox.{OpenBox}
pub use Rattle.store_seen.proofs.SeeingLemmas.{due_as_before}
pub use Rattle.store_seen.specs.Seeing.{seen_of}
pub use Rattle.task_claims.proofs.NameLemmas.{names_stay_same}
pub use Rattle.task_claims.proofs.RestLemmas.{due_claims}
pub use Rattle.task_claims.specs.Claims.{no_claims}
pub use Rattle.task_claims.specs.Leaving.{NamesStay, SyncsMail, number_named}
pub use Rattle.task_steps.proofs.EventLaws.{CanRefuse, did_check, did_fall, did_forget, did_own, did_stop, ends_well, fall, no_reply, own_event, refuses, replied_so, some_reply, stands_by, stays_left}
pub use Rattle.task_steps.proofs.KeptStoreLemmas.{comes_along, stays_itself}
pub use Rattle.task_steps.proofs.OneEventLemmas.{IsPlain, first_reply, never_more, not_true, ok_is_none, plain_stopped, refusal_last}
pub use Rattle.task_steps.proofs.SeenLemmas.{not_begun_stays, tells_itself}
pub use Rattle.task_steps.proofs.UnmovedLemmas.{mail_still, nothing}
pub use Rattle.task_steps.specs.ExpungeStages.{one_due}
pub use Rattle.task_steps.specs.Step.{HasComeTo, HasNotBegun, IsKept, Seen, ShowsSeen, Steps, ended_by}
pub use Rattle.task_steps.specs.Tells.{TellsSame}
pub use Rattle.mail_ops.specs.Appends.{BoxFell, BoxTook, MapFell, MapTook, lowering_of}
pub use Rattle.mail_ops.specs.Claims.{copy_claims, expunge_claims, move_claims}
pub use Rattle.mail_ops.specs.Copy.{CopiesOn}
pub use Rattle.mail_ops.specs.CopyStages.{IsHolding}
pub use Rattle.mail_ops.specs.Copying.{AddsRow, FellAdding, IsNotRaised, IsRaiseRefusal, RaisesRow, added_copy, copy_refusal, raising_of, room_refusal}
pub use Rattle.mail_ops.specs.Event.{refusal_told, told_as}
pub use Rattle.mail_ops.specs.Expunging.{ExpungesOn, FellRemoving, RemovesRow, expunge_amounts}
pub use Rattle.mail_ops.specs.MakeStages.{EndsInPart}
pub use Rattle.mail_ops.specs.Making.{CanBeNamed, FellChanging, HasChangedDisk, IsReadyToMake, IsStoppedSo, MadeLogSo, NamesLog, making_refusal, naming_refusal, with_drawn_box}
pub use Rattle.mail_ops.specs.Messages.{IsRowOf, missing_message}
pub use Rattle.mail_ops.specs.Moving.{IsReadyToMove, MovesOn}
pub use Rattle.mail_ops.specs.OnlyLogs.{ChangesOnlyLogs}
pub use Rattle.mail_ops.specs.Owing.{AreDueIn}
pub use Rattle.mail_ops.specs.declared.copy.CopyStage.{CopyStage}
pub use Rattle.mail_ops.specs.declared.event.NotDone.{NotDone}
pub use Rattle.mail_ops.specs.declared.expunging.ExpungeStage.{ExpungeStage}
pub use Rattle.mail_ops.specs.declared.making.MakeStage.{MakeStage}
pub use Rattle.mail_ops.specs.declared.moving.MoveStage.{MoveStage}
