-- Events that change no more than logs: that did nothing, that made an append, and in which a change of the disk failed.
use Rattle.mail_ops.proofs.Common.{◌≡◌, ◌≤◌, ◌∙◌, ℕ, true, false, List, Option, Some, None, refl, arith, inr, ap, History, Faults, NoFault, BoxEntry, MapEntry, Progress, Refusal, Reply, MailIsKept, MapMeaning, KeepsMail, KeepsRest, StoreValue, SyncsMail, BoxFell, BoxTook, MapFell, MapTook}
use Rattle.mail_ops.proofs.Common.{ChangesOnlyLogs, fall}
use Rattle.std.proofs.Common.{◌↔◌}
use Rattle.disk_model.specs.declared.name.FileName.TheVariants as file
use Rattle.gate_log.specs.Log.{NamedButFor}
use Rattle.mdbox_base.specs.Streams.{Rose}
use Rattle.mdbox_base.specs.declared.progress.Progress.TheVariants as progress
use Rattle.mdbox_base.specs.declared.replies.Refusal.TheVariants as refusal
use Rattle.mdbox_base.specs.declared.replies.Reply.TheVariants as reply
use Rattle.model_kept.proofs.KeptLemmas.{kept_begins}
use Rattle.task_claims.proofs.RestLemmas.{mail_same}
use Rattle.mail_ops.specs.SparedMail.{SparesMail}
use Rattle.mail_ops.specs.declared.task.TaskStage.{TaskStage}
use Rattle.mail_ops.specs.declared.task.TaskStage.TheVariants as task_stage

-- ---- files

-- where nothing has happened
pub same_mail : (history : Option History) → KeepsMail history history
same_mail None = refl
same_mail (Some h) = (λ number. refl, λ hash id. refl)

mail_no_box : (number place generation : ℕ) → file.Mail number ≡ file.Box place generation → ⊥
mail_no_box number place generation e = cc e

inst_no_box : (hash id : List ℕ) (place generation : ℕ) → file.Inst hash id ≡ file.Box place generation → ⊥
inst_no_box hash id place generation e = cc e

-- and so they are where all names were synced, and one log has changed
pub mail_named : (number : ℕ) (before after : Option History) → NamedButFor (file.Box number 1) before after → SyncsMail before after
mail_named number None after k = k
mail_named number (Some b) None k = absurd k
mail_named number (Some b) (Some a) k = (λ place. inr (k (file.Mail place) (mail_no_box place number 1)), λ hash id. inr (k (file.Inst hash id) (inst_no_box hash id number 1)))

pub spared_none : (unfailed : Type 0) (history : Option History) → SparesMail unfailed history history
spared_none unfailed history = record { stays = λ m. kept_begins m history; left = λ same. mail_same history history (same_mail history) }

-- an append was made
pub took_spares : (unfailed : Type 0) (before after : Option History) → ((m : MapMeaning) → MailIsKept m before after) → KeepsMail before after → SparesMail unfailed before after
took_spares unfailed before after stays mail = record { stays = stays; left = λ same. mail_same before after mail }

-- ---- events

abbrev pub IsStoppedReply : Progress → Type 0
IsStoppedReply answer = answer ≡ progress.Done (reply.Refused refusal.Stopped)

pub refused_not : (why : Refusal) → (why ≡ refusal.Stopped → ⊥) → IsStoppedReply (progress.Done (reply.Refused why)) → ⊥
refused_not why other e = let k : reply.Refused why ≡ reply.Refused refusal.Stopped = cc e in other (cc k)

pub done_not : IsStoppedReply (progress.Done reply.Done) → ⊥
done_not e = let k : reply.Done ≡ reply.Refused refusal.Stopped = cc e in cc k

-- nothing has changed, and the stage is as it was
pub unchanged_keeps : {D Stage : Type 0} → (Rest : Type 0) (now next : Stage) (answer : Progress) (store : StoreValue D) (history : Option History) (faults : Faults) → next ≡ now → IsStoppedReply answer ↔ (store.stopped ≡ true) → Rest → ChangesOnlyLogs Rest now next answer store store history history faults faults
unchanged_keeps Rest now next answer store history faults same stopped rest = record {
  stopped = stopped;
  still = λ halted. (refl, same);
  fault = λ ran. record { reads = refl; changes = omega arith; rose = λ e. absurd (fall store.stopped (stopped.0 e) ran) };
  unfailed = λ other. refl;
  rest = rest;
  mail = spared_none (store.stopped ≡ store.stopped) history;
}

-- of a store that was stopped
pub halted_keeps : {D Stage : Type 0} → (Rest : Type 0) (now next : Stage) (store : StoreValue D) (history : Option History) (faults : Faults) → store.stopped ≡ true → next ≡ now → Rest → ChangesOnlyLogs Rest now next (progress.Done (reply.Refused refusal.Stopped)) store store history history faults faults
halted_keeps Rest now next store history faults halted same rest = unchanged_keeps Rest now next (progress.Done (reply.Refused refusal.Stopped)) store history faults same (λ e. halted, λ e. refl) rest

-- no call of the disk failed
pub done_keeps : {D Stage : Type 0} → (Rest : Type 0) (now next : Stage) (answer : Progress) (old new : StoreValue D) (before after : Option History) (began faults : Faults) → old.stopped ≡ false → new.stopped ≡ false → (IsStoppedReply answer → ⊥) → NoFault began faults → Rest → SparesMail (new.stopped ≡ old.stopped) before after
    → ChangesOnlyLogs Rest now next answer old new before after began faults
done_keeps Rest now next answer old new before after began faults ran runs other none rest mail = record {
  stopped = (λ e. absurd (other e), λ e. absurd (fall new.stopped e runs));
  still = λ halted. absurd (fall old.stopped halted ran);
  fault = λ still. record { reads = ap (λ (f : Faults). f.reads) none; changes = let e = ap (λ (f : Faults). f.changes) none in omega (arith, e); rose = λ e. absurd (other e) };
  unfailed = λ e. none;
  rest = rest;
  mail = mail;
}

-- nothing was done
pub idle_keeps : {D Stage : Type 0} → (Rest : Type 0) (now next : Stage) (answer : Progress) (store : StoreValue D) (history : Option History) (faults : Faults) → store.stopped ≡ false → (IsStoppedReply answer → ⊥) → Rest → ChangesOnlyLogs Rest now next answer store store history history faults faults
idle_keeps Rest now next answer store history faults runs other rest = done_keeps Rest now next answer store store history history faults faults runs runs other refl rest (spared_none (store.stopped ≡ store.stopped) history)

-- a change of the disk failed
pub fell_keeps : {D Stage : Type 0} → (Rest : Type 0) (now next : Stage) (old new : StoreValue D) (before after : Option History) (began faults : Faults) → old.stopped ≡ false → new.stopped ≡ true → faults.reads ≡ began.reads → began.changes ≤ faults.changes → Rose began.changes faults.changes → Rest → ((m : MapMeaning) → MailIsKept m before after)
    → ChangesOnlyLogs Rest now next (progress.Done (reply.Refused refusal.Stopped)) old new before after began faults
fell_keeps Rest now next old new before after began faults ran stops reads changes rose rest stays = record {
  stopped = (λ e. stops, λ e. refl);
  still = λ halted. absurd (fall old.stopped halted ran);
  fault = λ still. record { reads = reads; changes = changes; rose = λ e. rose };
  unfailed = λ other. absurd (other refl);
  rest = rest;
  mail = record { stays = stays; left = λ same. absurd (fall new.stopped stops (same ∙ ran)) };
}

-- ---- an append to the map log, or to that of a mailbox

pub map_took_keeps : {D Stage : Type 0} → (entry : MapEntry) (now next : Stage) (answer : Progress) (old new : StoreValue D) (before after : Option History) (began faults : Faults) → old.stopped ≡ false → (IsStoppedReply answer → ⊥) → MapTook entry old new before after began faults
    → ChangesOnlyLogs (KeepsRest old new) now next answer old new before after began faults
map_took_keeps entry now next answer old new before after began faults ran other t =
    done_keeps (KeepsRest old new) now next answer old new before after began faults ran t.runs other t.unfailed t.appends.rest (took_spares (new.stopped ≡ old.stopped) before after t.appends.stays t.mail)

pub map_fell_keeps : {D Stage : Type 0} → (now next : Stage) (old new : StoreValue D) (before after : Option History) (began faults : Faults) → old.stopped ≡ false → MapFell old new before after began faults → ChangesOnlyLogs (KeepsRest old new) now next (progress.Done (reply.Refused refusal.Stopped)) old new before after began faults
map_fell_keeps now next old new before after began faults ran f = fell_keeps (KeepsRest old new) now next old new before after began faults ran f.stopped f.appends.reads f.appends.changes f.rose f.appends.rest f.appends.stays

pub box_took_keeps : {D Stage : Type 0} → (number : ℕ) (entry : BoxEntry) (now next : Stage) (answer : Progress) (old new : StoreValue D) (before after : Option History) (began faults : Faults) → old.stopped ≡ false → (IsStoppedReply answer → ⊥) → BoxTook number entry old new before after began faults
    → ChangesOnlyLogs (KeepsRest old new) now next answer old new before after began faults
box_took_keeps number entry now next answer old new before after began faults ran other t =
    done_keeps (KeepsRest old new) now next answer old new before after began faults ran t.runs other t.unfailed t.appends.rest (took_spares (new.stopped ≡ old.stopped) before after t.appends.stays t.mail)

pub box_fell_keeps : {D Stage : Type 0} → (number : ℕ) (entry : BoxEntry) (now next : Stage) (old new : StoreValue D) (before after : Option History) (began faults : Faults) → old.stopped ≡ false → BoxFell number entry old new before after began faults
    → ChangesOnlyLogs (KeepsRest old new) now next (progress.Done (reply.Refused refusal.Stopped)) old new before after began faults
box_fell_keeps number entry now next old new before after began faults ran f = fell_keeps (KeepsRest old new) now next old new before after began faults ran f.stopped f.appends.reads f.appends.changes f.rose f.appends.rest f.appends.stays

-- ---- an event that is the only one of its request

done_same : (a b : Reply) → progress.Done a ≡ progress.Done b → a ≡ b
done_same a b e = cc e

pub ends_same : (said given : Reply) (P : Type 0) → (said ≡ given) ↔ P → (progress.Done said ≡ progress.Done given) ↔ P
ends_same said given P h = (λ e. h.0 (done_same said given e), λ p. ap progress.Done (h.1 p))

pub only_keeps : {D : Type 0} → (Rest : Type 0) (now next : TaskStage) (answer : Progress) (old new : StoreValue D) (before after : Option History) (began faults : Faults) → ChangesOnlyLogs Rest task_stage.First task_stage.First answer old new before after began faults → ChangesOnlyLogs Rest now next answer old new before after began faults
only_keeps Rest task_stage.First task_stage.First answer old new before after began faults k = k
