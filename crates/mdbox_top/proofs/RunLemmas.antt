-- How a run ends, by its command.
use Rattle.std.specs.Prelude.{◌≡◌, ◌⊎◌, ℕ, List, [], ◌∷◌, Option, refl}
use Rattle.std.proofs.Common.{sym, ◌∙◌, ap, subst, inl, inr, arith}
use Rattle.disk_model.specs.Disk.{History, Faults, IsIdle}
use Rattle.disk_model.proofs.IdleLemmas.{idle-begins}
use Rattle.disk_model.proofs.MomentLemmas.{each_image-map, if_told-all}
use Rattle.store_open.proofs.SweptStoreLemmas.{carries-idle}
use Rattle.store_open.specs.Opened.{IsClosedWell}
use Rattle.mdbox_base.specs.declared.requests.Request.TheVariants as request
use Rattle.model_kept.proofs.KeptLemmas.{kept_begins}
use Rattle.model_lists.specs.Lists.{Lists}
use Rattle.model_meaning.specs.MapMeaning.{map_meaning}
use Rattle.model_store.specs.Safe.{Safe}
use Rattle.list_machine.specs.Machine.{delete_mailbox, rename_mailbox, set_flags}
use Rattle.mail_ops.specs.Copy.{copied_lists}
use Rattle.request_text.specs.Commands.{IsInRange, NamesMailbox}
use Rattle.disk_model.specs.declared.name.FileName.{FileName}
use Rattle.request_text.specs.Outcomes.{status_of, EndsAs}
use Rattle.request_text.specs.declared.command.Command.{Command}
use Rattle.request_text.specs.declared.command.Command.TheVariants as command
use Rattle.request_text.specs.declared.outcome.InputRefusal.{InputRefusal}
use Rattle.request_text.specs.declared.outcome.StoreRefusal.TheVariants as store
use Rattle.request_text.specs.declared.outcome.Outcome.{Outcome}
use Rattle.request_text.specs.declared.outcome.Outcome.TheVariants as outcome
use Rattle.mdbox_top.specs.InputRun.{DumpPrints, DumpRefuses, LogDumpPrints, LogDumpRefuses, IsOneOf}
use Rattle.mdbox_top.specs.RebuildRun.{RebuildNotes, RebuildTells}
use Rattle.mdbox_top.specs.Run.{Ends, Notes, RunOutcome, Moments, Rests, HasStatus, MayHaveFailed}
use Rattle.mdbox_top.proofs.InputLemmas.{dumps_apart, log_dumps_apart, input_status, shows_status}
use Rattle.mdbox_top.proofs.InitLemmas.{init_status}
use Rattle.mdbox_top.proofs.RebuildLemmas.{rebuild_status}
use Rattle.mdbox_top.specs.ListRun.{IsListReply, ListMoments}
use Rattle.mdbox_top.specs.FetchRun.{IsFetchReply}
use Rattle.mdbox_top.specs.FlagRun.{IsFlagReply}
use Rattle.script_run.specs.One.{moved_lists}
use Rattle.mdbox_top.specs.CopyRun.{IsCopyReply}
use Rattle.mdbox_top.specs.MakeRun.{IsMakeReply, AreMade}
use Rattle.mdbox_top.specs.MoveRun.{IsMoveReply}
use Rattle.mdbox_top.specs.DeleteRun.{IsDeleteReply}
use Rattle.mdbox_top.specs.RenameRun.{IsRenameReply}
use Rattle.mdbox_top.specs.ExpungeRun.{IsExpungeReply, lists_without_message}
use Rattle.mdbox_top.specs.KeywordsRun.{IsKeywordsReply, lists_with_words}
use Rattle.mdbox_top.specs.CountsRun.{IsCountsReply}
use Rattle.mdbox_top.specs.PurgeRun.{IsPurgeReply}
use Rattle.mdbox_top.specs.ResyncRun.{IsResyncReply}
use Rattle.mdbox_top.proofs.BatchLemmas.{batch_damage, batch_input, batch_rests_as, batch_status, batch_used}
use Rattle.mdbox_top.proofs.BoxesLemmas.{boxes_damage, boxes_input, boxes_status, boxes_used}
use Rattle.mdbox_top.proofs.CountsLemmas.{counts_status}
use Rattle.mdbox_top.proofs.ResyncLemmas.{resync_status}
use Rattle.mdbox_top.proofs.ExerciseLemmas.{exercise_damage, exercise_input, exercise_rests_as, exercise_status, exercise_used}
use Rattle.mdbox_top.proofs.DeliverLemmas.{deliver_input, deliver_damage, deliver_status, deliver_used, deliver_rests_as}
use Rattle.mdbox_top.specs.SessionRun.{MayEndFailed}
use Rattle.mdbox_top.proofs.SessionLemmas.{serve_damage, serve_input_memory, serve_status, serve_used}
use Rattle.mdbox_top.proofs.RequestLemmas.{request_status, request_used, request_input, request_damage, still_safe, unasked}

-- a refused input whose text finds no memory
input_memory : (D : Type 0) (c : Command) (left : Option (List ℕ)) (told : Option ℕ) (h k : Option (List ℕ)) (old new : Option History) (f g : Faults) (why : InputRefusal) → Ends D c left told h k old new f g (outcome.InputRefused why) → Ends D c left told h k old new f g outcome.NoMemory
input_memory D command.Dump left told h k old new f g why e = inl e.1
input_memory D command.LogDump left told h k old new f g why e = inl e.1
input_memory D (command.Init id) left told h k old new f g why e = absurd e
input_memory D (command.Deliver name) left told h k old new f g why e = deliver_input name left told h k old new f g why e
input_memory D (command.List name) left told h k old new f g why e = absurd (request_input (IsListReply name) (request.List name) h k old new f g why e)
input_memory D (command.Fetch name uid) left told h k old new f g why e = absurd (request_input (IsFetchReply name uid) (request.Fetch name uid) h k old new f g why e)
input_memory D (command.Flag name uid flags) left told h k old new f g why e = absurd (request_input (IsFlagReply name uid flags) (request.Flag name uid flags) h k old new f g why e)
input_memory D (command.Expunge name uid) left told h k old new f g why e = absurd (request_input (IsExpungeReply name uid) (request.Expunge name uid) h k old new f g why e)
input_memory D (command.Keywords name uid words) left told h k old new f g why e = absurd (request_input (IsKeywordsReply name uid words) (request.Keywords name uid words) h k old new f g why e)
input_memory D (command.Copy name uid target) left told h k old new f g why e = absurd (request_input (IsCopyReply name uid target) (request.Copy name uid target) h k old new f g why e)
input_memory D (command.Move name uid target) left told h k old new f g why e = absurd (request_input (IsMoveReply name uid target) (request.Move name uid target) h k old new f g why e)
input_memory D (command.Make name) left told h k old new f g why e = absurd (request_input (IsMakeReply name) (request.Make name) h k old new f g why e)
input_memory D (command.Delete name) left told h k old new f g why e = absurd (request_input (IsDeleteReply name) (request.Delete name) h k old new f g why e)
input_memory D (command.Rename name target) left told h k old new f g why e = absurd (request_input (IsRenameReply name target) (request.Rename name target) h k old new f g why e)
input_memory D command.Boxes left told h k old new f g why e = absurd (boxes_input h k old new f g why e)
input_memory D command.Counts left told h k old new f g why e = absurd (request_input IsCountsReply request.Counts h k old new f g why e)
input_memory D command.Resync left told h k old new f g why e = absurd (request_input IsResyncReply request.Resync h k old new f g why e)
input_memory D command.Purge left told h k old new f g why e = absurd (request_input IsPurgeReply request.Purge h k old new f g why e)
input_memory D (command.Batch lanes) left told h k old new f g why e = batch_input lanes left h k old new f g why e
input_memory D command.Serve left told h k old new f g why e = serve_input_memory left h k old new f g why e
input_memory D (command.Exercise lanes count number) left told h k old new f g why e = absurd (exercise_input lanes count number h k old new f g why e)
input_memory D (command.Rebuild id) left told h k old new f g why e = absurd e
input_memory D command.Help left told h k old new f g why e = absurd e
input_memory D command.Version left told h k old new f g why e = absurd e

-- damage whose text finds no memory
damage_memory : (D : Type 0) (c : Command) (left : Option (List ℕ)) (told : Option ℕ) (h k : Option (List ℕ)) (old new : Option History) (f g : Faults) (name : FileName) (place : ℕ) → Ends D c left told h k old new f g (outcome.StoreRefused (store.Damaged name place)) → Ends D c left told h k old new f g outcome.NoMemory
damage_memory D (command.Init id) left told h k old new f g name place e = absurd e.1
damage_memory D (command.Deliver box) left told h k old new f g name place e = deliver_damage box left told h k old new f g (store.Damaged name place) e
damage_memory D (command.List box) left told h k old new f g name place e = request_damage (IsListReply box) (request.List box) h k old new f g (store.Damaged name place) e
damage_memory D (command.Fetch box uid) left told h k old new f g name place e = request_damage (IsFetchReply box uid) (request.Fetch box uid) h k old new f g (store.Damaged name place) e
damage_memory D (command.Flag box uid flags) left told h k old new f g name place e = request_damage (IsFlagReply box uid flags) (request.Flag box uid flags) h k old new f g (store.Damaged name place) e
damage_memory D (command.Expunge box uid) left told h k old new f g name place e = request_damage (IsExpungeReply box uid) (request.Expunge box uid) h k old new f g (store.Damaged name place) e
damage_memory D (command.Keywords box uid words) left told h k old new f g name place e = request_damage (IsKeywordsReply box uid words) (request.Keywords box uid words) h k old new f g (store.Damaged name place) e
damage_memory D (command.Copy box uid target) left told h k old new f g name place e = request_damage (IsCopyReply box uid target) (request.Copy box uid target) h k old new f g (store.Damaged name place) e
damage_memory D (command.Move box uid target) left told h k old new f g name place e = request_damage (IsMoveReply box uid target) (request.Move box uid target) h k old new f g (store.Damaged name place) e
damage_memory D (command.Make box) left told h k old new f g name place e = request_damage (IsMakeReply box) (request.Make box) h k old new f g (store.Damaged name place) e
damage_memory D (command.Delete box) left told h k old new f g name place e = request_damage (IsDeleteReply box) (request.Delete box) h k old new f g (store.Damaged name place) e
damage_memory D (command.Rename box target) left told h k old new f g name place e = request_damage (IsRenameReply box target) (request.Rename box target) h k old new f g (store.Damaged name place) e
damage_memory D command.Boxes left told h k old new f g name place e = boxes_damage h k old new f g (store.Damaged name place) e
damage_memory D command.Counts left told h k old new f g name place e = request_damage IsCountsReply request.Counts h k old new f g (store.Damaged name place) e
damage_memory D command.Resync left told h k old new f g name place e = request_damage IsResyncReply request.Resync h k old new f g (store.Damaged name place) e
damage_memory D command.Purge left told h k old new f g name place e = request_damage IsPurgeReply request.Purge h k old new f g (store.Damaged name place) e
damage_memory D (command.Batch lanes) left told h k old new f g name place e = batch_damage lanes left h k old new f g (store.Damaged name place) e
damage_memory D command.Serve left told h k old new f g name place e = serve_damage left h k old new f g (store.Damaged name place) e
damage_memory D (command.Exercise lanes count number) left told h k old new f g name place e = exercise_damage lanes count number h k old new f g (store.Damaged name place) e
damage_memory D (command.Rebuild id) left told h k old new f g name place e = absurd e
damage_memory D command.Dump left told h k old new f g name place e = absurd e
damage_memory D command.LogDump left told h k old new f g name place e = absurd e
damage_memory D command.Help left told h k old new f g name place e = absurd e
damage_memory D command.Version left told h k old new f g name place e = absurd e

-- the last end is one that the command may have
pub last_ends : (D : Type 0) (c : Command) (left : Option (List ℕ)) (told : Option ℕ) (h k : Option (List ℕ)) (old new : Option History) (f g : Faults) (o last : Outcome) → EndsAs o last → Ends D c left told h k old new f g o → Ends D c left told h k old new f g last
last_ends D c left told h k old new f g (outcome.InputRefused why) last y e = elim y [
  | inl same ↦ subst (Ends D c left told h k old new f g) (sym same) e
  | inr none ↦ subst (Ends D c left told h k old new f g) (sym none) (input_memory D c left told h k old new f g why e)
]
last_ends D c left told h k old new f g (outcome.StoreRefused (store.Damaged name place)) last y e = elim y [
  | inl same ↦ subst (Ends D c left told h k old new f g) (sym same) e
  | inr none ↦ subst (Ends D c left told h k old new f g) (sym none) (damage_memory D c left told h k old new f g name place e)
]
last_ends D c left told h k old new f g (outcome.StoreRefused store.NoStore) last y e = subst (Ends D c left told h k old new f g) (sym y) e
last_ends D c left told h k old new f g (outcome.StoreRefused store.StoreWhole) last y e = subst (Ends D c left told h k old new f g) (sym y) e
last_ends D c left told h k old new f g (outcome.StoreRefused store.MailFiles) last y e = subst (Ends D c left told h k old new f g) (sym y) e
last_ends D c left told h k old new f g outcome.Done last y e = subst (Ends D c left told h k old new f g) (sym y) e
last_ends D c left told h k old new f g outcome.No last y e = subst (Ends D c left told h k old new f g) (sym y) e
last_ends D c left told h k old new f g outcome.Usage last y e = subst (Ends D c left told h k old new f g) (sym y) e
last_ends D c left told h k old new f g outcome.SessionFull last y e = subst (Ends D c left told h k old new f g) (sym y) e
last_ends D c left told h k old new f g outcome.NoMemory last y e = subst (Ends D c left told h k old new f g) (sym y) e
last_ends D c left told h k old new f g outcome.DiskFault last y e = subst (Ends D c left told h k old new f g) (sym y) e
last_ends D c left told h k old new f g outcome.ReadFault last y e = subst (Ends D c left told h k old new f g) (sym y) e
last_ends D c left told h k old new f g outcome.WriteFault last y e = subst (Ends D c left told h k old new f g) (sym y) e

pub has_status : (D : Type 0) (c : Command) → IsInRange c → (left : Option (List ℕ)) (told : Option ℕ) (h k : Option (List ℕ)) (old new : Option History) (f g : Faults) (o : Outcome) → Ends D c left told h k old new f g o → HasStatus c left old (status_of o)
has_status D (command.Init id) r left told h k old new f g o e = λ free. init_status id.0 h k old new o e free
has_status D (command.Deliver name) r left told h k old new f g o e = deliver_status name left told h k old new f g o e
has_status D (command.List name) r left told h k old new f g o e = λ lists s. request_status (IsListReply name) (request.List name) h k old new f g o e lists s
has_status D (command.Fetch name uid) r left told h k old new f g o e = λ lists s. request_status (IsFetchReply name uid) (request.Fetch name uid) h k old new f g o e lists s
has_status D (command.Flag name uid flags) r left told h k old new f g o e = λ lists s. request_status (IsFlagReply name uid flags) (request.Flag name uid flags) h k old new f g o e lists s
has_status D (command.Expunge name uid) r left told h k old new f g o e = λ lists s. request_status (IsExpungeReply name uid) (request.Expunge name uid) h k old new f g o e lists s
has_status D (command.Keywords name uid words) r left told h k old new f g o e = λ lists s. request_status (IsKeywordsReply name uid words) (request.Keywords name uid words) h k old new f g o e lists s
has_status D (command.Copy name uid target) r left told h k old new f g o e = λ lists s. request_status (IsCopyReply name uid target) (request.Copy name uid target) h k old new f g o e lists s
has_status D (command.Move name uid target) r left told h k old new f g o e = λ lists s. request_status (IsMoveReply name uid target) (request.Move name uid target) h k old new f g o e lists s
has_status D (command.Make name) r left told h k old new f g o e = λ lists s. request_status (IsMakeReply name) (request.Make name) h k old new f g o e lists s
has_status D (command.Delete name) r left told h k old new f g o e = λ lists s. request_status (IsDeleteReply name) (request.Delete name) h k old new f g o e lists s
has_status D (command.Rename name target) r left told h k old new f g o e = λ lists s. request_status (IsRenameReply name target) (request.Rename name target) h k old new f g o e lists s
has_status D command.Boxes r left told h k old new f g o e = λ lists s. boxes_status h k old new f g o e lists s
has_status D command.Counts r left told h k old new f g o e = λ lists s. counts_status h k old new f g o e lists s
has_status D command.Resync r left told h k old new f g o e = λ lists s. resync_status h k old new f g o e lists s
has_status D command.Purge r left told h k old new f g o e = λ lists s. request_status IsPurgeReply request.Purge h k old new f g o e lists s
has_status D (command.Batch lanes) r left told h k old new f g o e = batch_status lanes left h k old new f g o (omega (arith, r.1)) e
has_status D command.Serve r left told h k old new f g o e = serve_status left h k old new f g o e
has_status D (command.Exercise lanes count number) r left told h k old new f g o e = λ lists s. exercise_status lanes count number h k old new f g o e lists s
has_status D (command.Rebuild id) r left told h k old new f g o e = rebuild_status id.0 h k old new o e
has_status D command.Dump r left told h k old new f g o e = input_status DumpPrints DumpRefuses left h k o dumps_apart e
has_status D command.LogDump r left told h k old new f g o e = input_status LogDumpPrints LogDumpRefuses left h k o log_dumps_apart e
has_status D command.Help r left told h k old new f g o e = shows_status _ h k o e
has_status D command.Version r left told h k old new f g o e = shows_status _ h k o e

-- no command ends as unknown words
used : (D : Type 0) (c : Command) (left : Option (List ℕ)) (told : Option ℕ) (h k : Option (List ℕ)) (old new : Option History) (f g : Faults) → Ends D c left told h k old new f g outcome.Usage → ⊥
used D (command.Init id) left told h k old new f g e = e
used D (command.Deliver name) left told h k old new f g e = deliver_used name left told h k old new f g e
used D (command.List name) left told h k old new f g e = request_used (IsListReply name) (request.List name) h k old new f g e
used D (command.Fetch name uid) left told h k old new f g e = request_used (IsFetchReply name uid) (request.Fetch name uid) h k old new f g e
used D (command.Flag name uid flags) left told h k old new f g e = request_used (IsFlagReply name uid flags) (request.Flag name uid flags) h k old new f g e
used D (command.Expunge name uid) left told h k old new f g e = request_used (IsExpungeReply name uid) (request.Expunge name uid) h k old new f g e
used D (command.Keywords name uid words) left told h k old new f g e = request_used (IsKeywordsReply name uid words) (request.Keywords name uid words) h k old new f g e
used D (command.Copy name uid target) left told h k old new f g e = request_used (IsCopyReply name uid target) (request.Copy name uid target) h k old new f g e
used D (command.Move name uid target) left told h k old new f g e = request_used (IsMoveReply name uid target) (request.Move name uid target) h k old new f g e
used D (command.Make name) left told h k old new f g e = request_used (IsMakeReply name) (request.Make name) h k old new f g e
used D (command.Delete name) left told h k old new f g e = request_used (IsDeleteReply name) (request.Delete name) h k old new f g e
used D (command.Rename name target) left told h k old new f g e = request_used (IsRenameReply name target) (request.Rename name target) h k old new f g e
used D command.Boxes left told h k old new f g e = boxes_used h k old new f g e
used D command.Counts left told h k old new f g e = request_used IsCountsReply request.Counts h k old new f g e
used D command.Resync left told h k old new f g e = request_used IsResyncReply request.Resync h k old new f g e
used D command.Purge left told h k old new f g e = request_used IsPurgeReply request.Purge h k old new f g e
used D (command.Batch lanes) left told h k old new f g e = batch_used lanes left h k old new f g e
used D command.Serve left told h k old new f g e = serve_used left h k old new f g e
used D (command.Exercise lanes count number) left told h k old new f g e = exercise_used lanes count number h k old new f g e
used D (command.Rebuild id) left told h k old new f g e = e
used D command.Dump left told h k old new f g e = e
used D command.LogDump left told h k old new f g e = e
used D command.Help left told h k old new f g e = e
used D command.Version left told h k old new f g e = e

-- what a status says of the end
two : (o : Outcome) → status_of o ≡ 2 → o ≡ outcome.Usage
two outcome.Usage e = refl
two outcome.SessionFull e = absurd (omega (arith, e))
two outcome.Done e = absurd (omega (arith, e))
two outcome.No e = absurd (omega (arith, e))
two outcome.NoMemory e = absurd (omega (arith, e))
two outcome.DiskFault e = absurd (omega (arith, e))
two outcome.ReadFault e = absurd (omega (arith, e))
two outcome.WriteFault e = absurd (omega (arith, e))
two (outcome.StoreRefused why) e = absurd (omega (arith, e))
two (outcome.InputRefused why) e = absurd (omega (arith, e))

six : (o : Outcome) → status_of o ≡ 6 → o ≡ outcome.DiskFault
six outcome.DiskFault e = refl
six outcome.Done e = absurd (omega (arith, e))
six outcome.No e = absurd (omega (arith, e))
six outcome.NoMemory e = absurd (omega (arith, e))
six outcome.Usage e = absurd (omega (arith, e))
six outcome.SessionFull e = absurd (omega (arith, e))
six outcome.ReadFault e = absurd (omega (arith, e))
six outcome.WriteFault e = absurd (omega (arith, e))
six (outcome.StoreRefused why) e = absurd (omega (arith, e))
six (outcome.InputRefused why) e = absurd (omega (arith, e))

four : (o : Outcome) → status_of o ≡ 4 → (why : InputRefusal) × (o ≡ outcome.InputRefused why)
four (outcome.InputRefused why) e = (why, refl)
four outcome.Done e = absurd (omega (arith, e))
four outcome.No e = absurd (omega (arith, e))
four outcome.NoMemory e = absurd (omega (arith, e))
four outcome.Usage e = absurd (omega (arith, e))
four outcome.SessionFull e = absurd (omega (arith, e))
four outcome.DiskFault e = absurd (omega (arith, e))
four outcome.ReadFault e = absurd (omega (arith, e))
four outcome.WriteFault e = absurd (omega (arith, e))
four (outcome.StoreRefused why) e = absurd (omega (arith, e))

seven : (o : Outcome) → status_of o ≡ 7 → o ≡ outcome.ReadFault
seven outcome.ReadFault e = refl
seven outcome.Done e = absurd (omega (arith, e))
seven outcome.No e = absurd (omega (arith, e))
seven outcome.NoMemory e = absurd (omega (arith, e))
seven outcome.Usage e = absurd (omega (arith, e))
seven outcome.SessionFull e = absurd (omega (arith, e))
seven outcome.DiskFault e = absurd (omega (arith, e))
seven outcome.WriteFault e = absurd (omega (arith, e))
seven (outcome.StoreRefused why) e = absurd (omega (arith, e))
seven (outcome.InputRefused why) e = absurd (omega (arith, e))

eight : (o : Outcome) → status_of o ≡ 8 → o ≡ outcome.WriteFault
eight outcome.WriteFault e = refl
eight outcome.Done e = absurd (omega (arith, e))
eight outcome.No e = absurd (omega (arith, e))
eight outcome.NoMemory e = absurd (omega (arith, e))
eight outcome.Usage e = absurd (omega (arith, e))
eight outcome.SessionFull e = absurd (omega (arith, e))
eight outcome.DiskFault e = absurd (omega (arith, e))
eight outcome.ReadFault e = absurd (omega (arith, e))
eight (outcome.StoreRefused why) e = absurd (omega (arith, e))
eight (outcome.InputRefused why) e = absurd (omega (arith, e))

-- the same end, or out of memory
kept : (o last : Outcome) → EndsAs o last → (last ≡ o) ⊎ (last ≡ outcome.NoMemory)
kept (outcome.InputRefused why) last y = y
kept (outcome.StoreRefused (store.Damaged name place)) last y = y
kept (outcome.StoreRefused store.NoStore) last y = inl y
kept (outcome.StoreRefused store.StoreWhole) last y = inl y
kept (outcome.StoreRefused store.MailFiles) last y = inl y
kept outcome.Done last y = inl y
kept outcome.No last y = inl y
kept outcome.Usage last y = inl y
kept outcome.SessionFull last y = inl y
kept outcome.NoMemory last y = inl y
kept outcome.DiskFault last y = inl y
kept outcome.ReadFault last y = inl y
kept outcome.WriteFault last y = inl y

pub faulted : (o last : Outcome) (n : ℕ) → EndsAs o last → n ≡ status_of last → n ≡ 6 → o ≡ outcome.DiskFault
faulted o last n y s e =
    let l : last ≡ outcome.DiskFault = six last (sym s ∙ e) in
    elim (kept o last y) [ inl same ↦ sym same ∙ l | inr none ↦ absurd (cc (sym none ∙ l)) ]

pub unread : (o last : Outcome) (n : ℕ) → EndsAs o last → n ≡ status_of last → n ≡ 7 → o ≡ outcome.ReadFault
unread o last n y s e =
    let l : last ≡ outcome.ReadFault = seven last (sym s ∙ e) in
    elim (kept o last y) [ inl same ↦ sym same ∙ l | inr none ↦ absurd (cc (sym none ∙ l)) ]

pub uninput : (o last : Outcome) (n : ℕ) → EndsAs o last → n ≡ status_of last → n ≡ 4 → (why : InputRefusal) × (o ≡ outcome.InputRefused why)
uninput o last n y s e =
    let l = four last (sym s ∙ e) in
    elim (kept o last y) [ inl same ↦ (l.0, sym same ∙ l.1) | inr none ↦ absurd (let k : outcome.NoMemory ≡ outcome.InputRefused l.0 = sym none ∙ l.1 in cc k) ]

pub unwritten : (o last : Outcome) (n : ℕ) → EndsAs o last → n ≡ status_of last → n ≡ 8 → o ≡ outcome.WriteFault
unwritten o last n y s e =
    let l : last ≡ outcome.WriteFault = eight last (sym s ∙ e) in
    elim (kept o last y) [ inl same ↦ sym same ∙ l | inr none ↦ absurd (cc (sym none ∙ l)) ]

-- a run of a command doesn't end with status 2
pub known_words : (D : Type 0) (c : Command) (left : Option (List ℕ)) (told : Option ℕ) (h k : Option (List ℕ)) (old new : Option History) (f g : Faults) (n : ℕ) (MayNote : Outcome → Option (List ℕ) → ℕ → Option (List ℕ) → ℕ → Type 0) (eh : Option (List ℕ)) (ef : ℕ) (ek : Option (List ℕ)) (eg : ℕ) → RunOutcome (Ends D c left told h k old new f g) MayNote n eh ef ek eg → n ≡ 2 → ⊥
known_words D c left told h k old new f g n MayNote eh ef ek eg r e = used D c left told h k old new f g (subst (Ends D c left told h k old new f g) (two r.outcome (sym r.status_is ∙ e)) r.ended)

-- ---- what is noted before the end

-- without memory for its text, a rebuild that was told is still told
lacks_text : (now : Option History) (o : Outcome) (text : List ℕ) → RebuildTells now o text → RebuildTells now outcome.NoMemory text
lacks_text now outcome.Done text t = inl t
lacks_text now outcome.WriteFault text t = inl t
lacks_text now outcome.NoMemory text t = t
lacks_text now other text t = inr t

rebuild_notes : (now : Option History) (o last : Outcome) (h k : Option (List ℕ)) (f g : ℕ) → EndsAs o last → RebuildNotes now o h f k g → RebuildNotes now last h f k g
rebuild_notes now o last h k f g y n = elim (kept o last y) [
  | inl same ↦ subst (λ (x : Outcome). RebuildNotes now x h f k g) (sym same) n
  | inr none ↦ subst (λ (x : Outcome). RebuildNotes now x h f k g) (sym none) (n.0, lacks_text now o n.0 n.1, n.2)
]

pub notes_last : (c : Command) (now : Option History) (o last : Outcome) (h k : Option (List ℕ)) (f g : ℕ) → EndsAs o last → Notes c now o h f k g → Notes c now last h f k g
notes_last (command.Rebuild id) now o last h k f g y n = rebuild_notes now o last h k f g y n
notes_last other now o last h k f g y n = n

pub named_unnoted : (c : Command) → NamesMailbox c → (now : Option History) (h : Option (List ℕ)) (f : ℕ) → Notes c now outcome.NoMemory h f h f
named_unnoted (command.Deliver name) named now h f = (refl, refl)
named_unnoted (command.List name) named now h f = (refl, refl)
named_unnoted (command.Fetch name uid) named now h f = (refl, refl)
named_unnoted (command.Flag name uid flags) named now h f = (refl, refl)
named_unnoted (command.Expunge name uid) named now h f = (refl, refl)
named_unnoted (command.Keywords name uid words) named now h f = (refl, refl)
named_unnoted (command.Copy name uid target) named now h f = (refl, refl)
named_unnoted (command.Move name uid target) named now h f = (refl, refl)
named_unnoted (command.Make name) named now h f = (refl, refl)
named_unnoted (command.Delete name) named now h f = (refl, refl)
named_unnoted (command.Rename name target) named now h f = (refl, refl)
named_unnoted other named now h f = absurd named

-- ---- faults of the disk

-- a fault is told as itself
six_last : (o last : Outcome) → EndsAs o last → status_of o ≡ 6 → status_of last ≡ 6
six_last o last y e = let d : o ≡ outcome.DiskFault = six o e in ap status_of (subst (λ (x : Outcome). EndsAs x last) d y)

one_last : (o last : Outcome) → EndsAs o last → IsOneOf (5 ∷ 6 ∷ 8 ∷ []) (status_of o) → IsOneOf (5 ∷ 6 ∷ 8 ∷ []) (status_of last)
one_last o last y e = elim (kept o last y) [
  | inl same ↦ subst (λ (x : Outcome). IsOneOf (5 ∷ 6 ∷ 8 ∷ []) (status_of x)) (sym same) e
  | inr none ↦ inl (ap status_of none)
]

not_few : (n : ℕ) → (n ≡ 3) ⊎ (n ≡ 4) → IsOneOf (6 ∷ 8 ∷ []) n → ⊥
not_few n (inl a) (inl e) = omega (arith, a, e)
not_few n (inr a) (inl e) = omega (arith, a, e)
not_few n (inl a) (inr (inl e)) = omega (arith, a, e)
not_few n (inr a) (inr (inl e)) = omega (arith, a, e)
not_few n a (inr (inr e)) = e

few_last : (o last : Outcome) → EndsAs o last → IsOneOf (6 ∷ 8 ∷ []) (status_of o) → IsOneOf (6 ∷ 8 ∷ []) (status_of last)
few_last (outcome.InputRefused why) last y e = absurd (not_few 4 (inr refl) e)
few_last (outcome.StoreRefused why) last y e = absurd (not_few 3 (inl refl) e)
few_last other last y e = subst (λ (x : Outcome). IsOneOf (6 ∷ 8 ∷ []) (status_of x)) (sym y) e

served_last : (o last : Outcome) → EndsAs o last → MayEndFailed (status_of o) → MayEndFailed (status_of last)
served_last o last y e = elim (kept o last y) [
  | inl same ↦ subst (λ (x : Outcome). MayEndFailed (status_of x)) (sym same) e
  | inr none ↦ inr (inr (inl (ap status_of none)))
]

-- so the last end may follow a fault where the first may
pub fails_last : (c : Command) (o last : Outcome) → EndsAs o last → MayHaveFailed c (status_of o) → MayHaveFailed c (status_of last)
fails_last (command.Deliver name) o last y e = few_last o last y e
fails_last (command.Fetch name uid) o last y e = few_last o last y e
fails_last (command.Flag name uid flags) o last y e = few_last o last y e
fails_last (command.Expunge name uid) o last y e = few_last o last y e
fails_last (command.Keywords name uid words) o last y e = few_last o last y e
fails_last (command.Copy name uid target) o last y e = few_last o last y e
fails_last (command.Move name uid target) o last y e = few_last o last y e
fails_last (command.Make name) o last y e = few_last o last y e
fails_last (command.Delete name) o last y e = few_last o last y e
fails_last (command.Rename name target) o last y e = few_last o last y e
fails_last command.Resync o last y e = few_last o last y e
fails_last command.Purge o last y e = few_last o last y e
fails_last (command.Batch lanes) o last y e = one_last o last y e
fails_last command.Serve o last y e = served_last o last y e
fails_last other o last y e = six_last o last y e

pub rests_last : (c : Command) (left : Option (List ℕ)) (told : Option ℕ) (F G : Type 0) (f g : Faults) (old new : Option History) → (F → G) → Rests c left told F f g old new → Rests c left told G f g old new
rests_last (command.Deliver name) left told F G f g old new h r = deliver_rests_as name left told F G f g old new h r
rests_last (command.List name) left told F G f g old new h r = λ none. r (λ failed. none (h failed))
rests_last (command.Fetch name uid) left told F G f g old new h r = λ none. r (λ failed. none (h failed))
rests_last (command.Flag name uid flags) left told F G f g old new h r = λ none. r (λ failed. none (h failed))
rests_last (command.Expunge name uid) left told F G f g old new h r = λ none. r (λ failed. none (h failed))
rests_last (command.Keywords name uid words) left told F G f g old new h r = λ none. r (λ failed. none (h failed))
rests_last (command.Copy name uid target) left told F G f g old new h r = λ none. r (λ failed. none (h failed))
rests_last (command.Move name uid target) left told F G f g old new h r = λ none. r (λ failed. none (h failed))
rests_last (command.Make name) left told F G f g old new h r = λ none. r (λ failed. none (h failed))
rests_last (command.Delete name) left told F G f g old new h r = λ none. r (λ failed. none (h failed))
rests_last (command.Rename name target) left told F G f g old new h r = λ none. r (λ failed. none (h failed))
rests_last command.Boxes left told F G f g old new h r = λ none. r (λ failed. none (h failed))
rests_last command.Counts left told F G f g old new h r = λ none. r (λ failed. none (h failed))
rests_last command.Resync left told F G f g old new h r = λ none. r (λ failed. none (h failed))
rests_last command.Purge left told F G f g old new h r = λ none. r (λ failed. none (h failed))
rests_last (command.Batch lanes) left told F G f g old new h r = batch_rests_as lanes left F G f g old new h r
rests_last command.Serve left told F G f g old new h r = (r.0, r.1, λ none. r.2 (λ failed. none (h failed)))
rests_last (command.Exercise lanes count number) left told F G f g old new h r = exercise_rests_as lanes count number F G f g old new h r
rests_last other left told F G f g old new h r = tt

-- ---- words that name a mailbox, whose name finds no memory

pub named_unasked : (D : Type 0) (c : Command) → NamesMailbox c → (left : Option (List ℕ)) (told : Option ℕ) (h : Option (List ℕ)) (old : Option History) (f : Faults) → Ends D c left told h h old old f f outcome.NoMemory
named_unasked D (command.Deliver name) named left told h old f = inl (tt, refl, refl, refl)
named_unasked D (command.List name) named left told h old f = unasked (IsListReply name) (request.List name) h old f
named_unasked D (command.Fetch name uid) named left told h old f = unasked (IsFetchReply name uid) (request.Fetch name uid) h old f
named_unasked D (command.Flag name uid flags) named left told h old f = unasked (IsFlagReply name uid flags) (request.Flag name uid flags) h old f
named_unasked D (command.Expunge name uid) named left told h old f = unasked (IsExpungeReply name uid) (request.Expunge name uid) h old f
named_unasked D (command.Keywords name uid words) named left told h old f = unasked (IsKeywordsReply name uid words) (request.Keywords name uid words) h old f
named_unasked D (command.Copy name uid target) named left told h old f = unasked (IsCopyReply name uid target) (request.Copy name uid target) h old f
named_unasked D (command.Move name uid target) named left told h old f = unasked (IsMoveReply name uid target) (request.Move name uid target) h old f
named_unasked D (command.Make name) named left told h old f = unasked (IsMakeReply name) (request.Make name) h old f
named_unasked D (command.Delete name) named left told h old f = unasked (IsDeleteReply name) (request.Delete name) h old f
named_unasked D (command.Rename name target) named left told h old f = unasked (IsRenameReply name target) (request.Rename name target) h old f
named_unasked D other named left told h old f = absurd named

-- a listing of which no call is made
still_moments : (h : Option History) → ListMoments h h
still_moments h = record {
  safe = λ lists s. still_safe lists h s;
  stays = λ store entries logs opens. kept_begins (map_meaning store entries) h;
  closed_well = if_told-all (λ disk. IsClosedWell disk → IsIdle h h) h (λ disk well. idle-begins h);
}

pub named_still : (c : Command) → NamesMailbox c → (left : Option (List ℕ)) (told : Option ℕ) (h : Option History) → Moments c left told h h
named_still (command.Deliver name) named left told h = inl refl
named_still (command.List name) named left told h = still_moments h
named_still (command.Fetch name uid) named left told h = still_moments h
named_still (command.Flag name uid flags) named left told h = λ lists s. each_image-map (λ _ image. Safe image lists) (λ _ image. Safe image lists ⊎ Safe image (set_flags name uid.0 flags lists)) h h (λ m image safe. inl safe) (still_safe lists h s)
named_still (command.Expunge name uid) named left told h = λ lists s. each_image-map (λ _ image. Safe image lists) (λ _ image. Safe image lists ⊎ Safe image (lists_without_message name uid lists)) h h (λ m image safe. inl safe) (still_safe lists h s)
named_still (command.Keywords name uid words) named left told h = λ lists s. each_image-map (λ _ image. Safe image lists) (λ _ image. Safe image lists ⊎ Safe image (lists_with_words name uid words lists)) h h (λ m image safe. inl safe) (still_safe lists h s)
named_still (command.Copy name uid target) named left told h = λ lists s. each_image-map (λ _ image. Safe image lists) (λ _ image. Safe image lists ⊎ Safe image (copied_lists name uid target lists)) h h (λ m image safe. inl safe) (still_safe lists h s)
named_still (command.Move name uid target) named left told h = λ lists s. each_image-map (λ _ image. Safe image lists) (λ _ image. Safe image lists ⊎ (Safe image (copied_lists name uid target lists) ⊎ Safe image (moved_lists name uid target lists))) h h (λ m image safe. inl safe) (still_safe lists h s)
named_still (command.Make name) named left told h = λ lists s. each_image-map (λ _ image. Safe image lists) (λ _ image. Safe image lists ⊎ ((some : Lists) × AreMade name h lists some × Safe image some)) h h (λ m image safe. inl safe) (still_safe lists h s)
named_still (command.Delete name) named left told h = λ lists s. each_image-map (λ _ image. Safe image lists) (λ _ image. Safe image lists ⊎ Safe image (delete_mailbox name lists)) h h (λ m image safe. inl safe) (still_safe lists h s)
named_still (command.Rename name target) named left told h = λ lists s. each_image-map (λ _ image. Safe image lists) (λ _ image. Safe image lists ⊎ Safe image (rename_mailbox name target lists)) h h (λ m image safe. inl safe) (still_safe lists h s)
named_still other named left told h = absurd named

pub named_rests : (c : Command) → NamesMailbox c → (left : Option (List ℕ)) (told : Option ℕ) (failed : Type 0) (f g : Faults) (h : Option History) → Rests c left told failed f g h h
named_rests (command.Deliver name) named left told failed f g h = inl refl
named_rests (command.List name) named left told failed f g h = λ none. (λ lists s. s, carries-idle h h (idle-begins h))
named_rests (command.Fetch name uid) named left told failed f g h = λ none. (λ lists s. s, carries-idle h h (idle-begins h))
named_rests (command.Flag name uid flags) named left told failed f g h = λ none lists s. inl s
named_rests (command.Expunge name uid) named left told failed f g h = λ none lists s. inl s
named_rests (command.Keywords name uid words) named left told failed f g h = λ none lists s. inl s
named_rests (command.Copy name uid target) named left told failed f g h = λ none lists s. inl s
named_rests (command.Move name uid target) named left told failed f g h = λ none lists s. inl s
named_rests (command.Make name) named left told failed f g h = λ none lists s. inl s
named_rests (command.Delete name) named left told failed f g h = λ none lists s. inl s
named_rests (command.Rename name target) named left told failed f g h = λ none lists s. inl s
named_rests other named left told failed f g h = absurd named
