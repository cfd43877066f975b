-- The names that most proofs of this crate cite, passed on from one place. Declares nothing.
pub use Rattle.std.proofs.Common.{Bool, List, None, Option, Some, [], ap, arith, cond, false, inl, inr, map, refl, subst, suc, sym, true, ℕ, ◌++◌, ◌+◌, ◌<◌, ◌==◌, ◌∙◌, ◌∷◌, ◌≡◌}
pub use Rattle.std.proofs.lemmas.Bool.{eq-eqb, ne_eqb}
pub use Rattle.std.proofs.lemmas.Grind.{common_steps}
pub use Rattle.std.proofs.lemmas.List.Elements.{All-cons, All-head, All-nil, All-tail}
pub use Rattle.std.proofs.lemmas.List.Folds.{list_any-append}
pub use Rattle.std.proofs.lemmas.List.Sums.{sum_by-cons}
pub use Rattle.std.specs.List.{list_any}
pub use Rattle.std.specs.Option.{option_map_or}
pub use Rattle.std.specs.Prelude.{All, drop, flat_map, is_none, ◌&&◌, ◌||◌, ◌≢◌, ◌≤◌, ◌⊎◌}
pub use Rattle.disk_model.specs.Disk.{Faults, History}
pub use Rattle.journal.proofs.OwnEventLemmas.{own_more, own_other}
pub use Rattle.journal.specs.Events.{Around, is_done}
pub use Rattle.journal.specs.Found.{gave_back, is_storing, took_file}
pub use Rattle.list_machine.specs.Run.{EventPart, First, Run, RunEvent, TakenFile, and_then, is_one_of, own_events}
pub use Rattle.mail_fetch.specs.Claims.{fetch_claims}
pub use Rattle.mail_fetch.specs.Stages.{IsAtFetch}
pub use Rattle.mail_fetch.specs.declared.task.FetchStage.{FetchStage}
pub use Rattle.mail_ops.specs.Claims.{make_claims}
pub use Rattle.mail_ops.specs.Making.{MakeAnswers}
pub use Rattle.mail_ops.specs.Task.{IsAt}
pub use Rattle.mail_ops.specs.declared.making.MakeStage.{MakeStage}
pub use Rattle.mail_save.specs.Claims.{save_claims}
pub use Rattle.mail_save.specs.SaveEffects.{SaveEffects}
pub use Rattle.mail_save.specs.SaveSeen.{IsAtSave}
pub use Rattle.mail_save.specs.Task.{IsReadyToDeliver, SaveValue}
pub use Rattle.mail_save.specs.declared.task.SaveStage.{SaveStage}
pub use Rattle.mdbox_base.specs.declared.entries.InstRow.{InstRow}
pub use Rattle.mdbox_base.specs.declared.ids.FileNo.{FileNo}
pub use Rattle.mdbox_base.specs.declared.ids.Uid.{Uid}
pub use Rattle.mdbox_base.specs.declared.progress.Progress.{Progress}
pub use Rattle.mdbox_base.specs.declared.replies.Refusal.{Refusal}
pub use Rattle.mdbox_base.specs.declared.replies.Reply.{Reply}
pub use Rattle.mdbox_base.specs.declared.requests.Request.{Request}
pub use Rattle.model_lists.specs.Lists.{Lists}
pub use Rattle.model_meaning.specs.MapMeaning.{MapMeaning}
pub use Rattle.purge_task.specs.Claims.{claims_of_sources, claims_of_switched, claims_of_target, purge_claims, sources_left}
pub use Rattle.purge_task.specs.Keeping.{PurgeValue}
pub use Rattle.purge_task.specs.Stages.{IsAtPurgeStage}
pub use Rattle.purge_task.specs.declared.task.PurgeStage.{PurgeStage}
pub use Rattle.purge_task.specs.declared.work.Source.{Source}
pub use Rattle.storage_files.specs.Files.{AreFilesInOrder}
pub use Rattle.store_core.specs.Running.{IsStore}
pub use Rattle.store_core.specs.Value.{StoreValue}
pub use Rattle.task_claims.specs.Claims.{Claims, Emptied, Held, Taken, one_if}
pub use Rattle.task_steps.specs.Step.{ended_by}
pub use Rattle.lane_tasks.specs.Tasks.{HasNamedFound, IsMakeNumber, IsReadyTask, StandsTask, TookNoFile, claims_at, work_left}
pub use Rattle.lane_tasks.specs.declared.task.Task.{Task}
