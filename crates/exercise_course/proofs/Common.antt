-- The names that most proofs of this crate cite, passed on from one place. Declares nothing.
pub use Rattle.std.proofs.Common.{ap, arith, inl, inr, subst, sym, ◌∙◌}
pub use Rattle.std.proofs.Math.Nat.{mod-lt}
pub use Rattle.std.proofs.lemmas.Bool.{eq-eqb, eqb-false, eqb-true, ltb-false, ltb-true}
pub use Rattle.std.proofs.lemmas.Grind.{common_steps}
pub use Rattle.std.proofs.lemmas.List.{append-nil, length-append, take_more}
pub use Rattle.std.proofs.lemmas.List.Elements.{All-head, All-tail, All-weaker}
pub use Rattle.std.proofs.lemmas.List.Folds.{find-append}
pub use Rattle.std.proofs.lemmas.List.Sums.{sum_by-cons, sum_by_push}
pub use Rattle.std.proofs.lemmas.Option.{slice_get-get_or, slice_get-map, slice_get_within}
pub use Rattle.std.specs.List.{AllByRecursion}
pub use Rattle.std.specs.Option.{option_map, option_map_or, option_or}
pub use Rattle.std.specs.Prelude.{All, AllPairs, Bool, List, None, Option, Some, [], cond, false, filter, find, flat_map, if◌then◌else◌, is_some, length, map, nat_lt, not, refl, slice_get, slice_index_or, suc, sum_by, take, true, zero, ℕ, ◌%◌, ◌*◌, ◌++◌, ◌+◌, ◌-◌, ◌/◌, ◌<◌, ◌==◌, ◌∷◌, ◌≡◌, ◌≢◌, ◌≤◌, ◌⊎◌}
pub use Rattle.std.specs.Str.{bytes_eq}
pub use Rattle.disk_model.specs.Disk.{Faults}
pub use Rattle.journal.proofs.OwnEventLemmas.{own_more, own_other}
pub use Rattle.journal.proofs.RunLemmas.{entries_more}
pub use Rattle.journal.specs.Events.{Around, DidNothing, DidPart, IsEvent, IsNextEvent, behind_delivery, behind_event, last_refusal}
pub use Rattle.journal.specs.Journal.{AreSteps, Broken, IsStep, JournalStep, left_by, refusal_in}
pub use Rattle.journal.specs.Makes.{AreNextEvents, IsServed, lists_before}
pub use Rattle.list_machine.specs.Machine.{Answers, Does, add_last, add_message, expunge, has_name, is_message_of_uid, mailbox_named, message_at, message_in, set_flags, without_first}
pub use Rattle.list_machine.specs.Run.{Compares, EventPart, First, GivesBack, Last, PlacesInstance, PlacesMessage, Run, RunEvent, StartsOver, StoresRecord, TakesFile, and_then, before, entries_of, first_in, map_of, own_events}
pub use Rattle.mdbox_base.specs.declared.entries.Highest.{Highest}
pub use Rattle.mdbox_base.specs.declared.entries.MapEntry.{MapEntry}
pub use Rattle.mdbox_base.specs.declared.ids.Uid.{Uid}
pub use Rattle.mdbox_base.specs.declared.replies.Refusal.{Refusal}
pub use Rattle.mdbox_base.specs.declared.replies.Reply.{Reply}
pub use Rattle.mdbox_base.specs.declared.requests.Request.{Request}
pub use Rattle.model_lists.specs.Lists.{ListedMessage, Lists, Mailbox, change_first, empty_mailbox}
pub use Rattle.model_meaning.proofs.MapLemmas.{map_more}
pub use Rattle.model_meaning.specs.MapFits.{MapFits}
pub use Rattle.model_meaning.specs.MapMeaning.{MapMeaning, MapRecord, count_of, map_applied, map_meaning, record_changed}
pub use Rattle.model_octets.proofs.PairLemmas.{pairs_head, pairs_tail}
pub use Rattle.model_octets.proofs.SearchLemmas.{text_is}
pub use Rattle.script_text.specs.MadeScript.{below, lane_name, made_request, made_round, made_turn}
pub use Rattle.exercise_course.specs.Hindered.{BeginsFree, is_hindered, is_ok}
