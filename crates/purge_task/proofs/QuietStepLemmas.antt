-- What a part of a step says of a purge beside no other task, the step says.
use Rattle.purge_task.proofs.Common.{◌≡◌, ◌∙◌, Option, sym, ap, subst, Result, Files, History, between-map, Did, Progress, Refusal, MapMeaning, files_of, StoreValue, answer_of, at_stage, came_to, PurgeValue, IsQuietFrom, KeepsQuiet, StaysQuiet, answer_of_switch, came_by_switch, SwitchedFile}
use Rattle.purge_task.proofs.Common.{PurgeStage}
use Rattle.mdbox_base.specs.declared.progress.Progress.TheVariants as progress
use Rattle.mdbox_base.specs.declared.replies.Reply.TheVariants as reply
use Rattle.purge_task.specs.Quiet.{HasBeenQuiet}
use Rattle.purge_task.specs.declared.task.PurgeStage.TheVariants as stage
use Rattle.purge_task.proofs.StepLemmas.{came_counts, switched_same}

-- A part's answer, and the task that came to it.
pub part_so : (P : PurgeValue → Progress → Type 0) (result : Result PurgeStage Refusal) (s u next : PurgeValue) (answer : Progress) → next ≡ came_to result u → answer ≡ answer_of result → s.dropped ≡ u.dropped → s.files ≡ u.files → s.instances ≡ u.instances → P (came_to result s) (answer_of result) → P next answer
part_so P result s u next answer is told dropped files instances h = subst (λ (n : PurgeValue). P n answer) (came_counts result s u dropped files instances ∙ sym is) (subst (λ (a : Progress). P (came_to result s) a) (sym told) h)

-- A switch's answer, and the task that came to it.
pub switch_so : (P : PurgeValue → Progress → Type 0) (result : Result SwitchedFile Refusal) (t u next : PurgeValue) (answer : Progress) → next ≡ came_by_switch result u → answer ≡ answer_of_switch result → at_stage t.stage u ≡ t → P (came_by_switch result t) (answer_of_switch result) → P next answer
switch_so P result t u next answer is told of h = subst (λ (n : PurgeValue). P n answer) (ap (came_by_switch result) (sym of) ∙ (switched_same result t.stage u ∙ sym is)) (subst (λ (a : Progress). P (came_by_switch result t) a) (sym told) h)

-- ---- what its last event did, is of no use to the next

from_did : {D : Type 0} → (s : PurgeStage) (began files : Files) (first : MapMeaning) (t : PurgeValue) (d : Did) (store : StoreValue D) → IsQuietFrom s began first t store files → IsQuietFrom s began first (record t { did = d }) store files
from_did stage.First began files first t d store h = h
from_did (stage.Begin work) began files first t d store h = h
from_did (stage.Copying work) began files first t d store h = h
from_did (stage.Removing work) began files first t d store h = h
from_did stage.Instances began files first t d store h = h

pub quiet_did : {D : Type 0} → (inside t next : PurgeValue) (d : Did) (answer : Progress) (old new : StoreValue D) (before later : Option History) → inside ≡ t → KeepsQuiet (record inside { did = d }) next answer old new before later → KeepsQuiet t next answer old new before later
quiet_did inside t next d answer old new before later same h = subst (λ (v : PurgeValue). KeepsQuiet v next answer old new before later) same (by_answer answer h)
  where
    by_answer : (a : Progress) → KeepsQuiet (record inside { did = d }) next a old new before later → KeepsQuiet inside next a old new before later
    by_answer progress.More k = λ runs. between-map (StaysQuiet (record inside { did = d }) next old new) (StaysQuiet inside next old new) before later (λ a b stays began first q. stays began first (from_did inside.stage began (files_of a) first inside d old q)) (k runs)
    by_answer (progress.Done (reply.Purged dropped emptied removed)) k = λ runs. between-map (HasBeenQuiet dropped emptied removed (record inside { did = d }) old new) (HasBeenQuiet dropped emptied removed inside old new) before later (λ a b been began first q. been began first (from_did inside.stage began (files_of a) first inside d old q)) (k runs)
    by_answer (progress.Done (reply.Saved uid guid)) k = tt
    by_answer (progress.Done (reply.Listed rows)) k = tt
    by_answer (progress.Done (reply.Fetched octets)) k = tt
    by_answer (progress.Done reply.Done) k = tt
    by_answer (progress.Done (reply.Copied uid)) k = tt
    by_answer (progress.Done (reply.Moved uid gone)) k = tt
    by_answer (progress.Done (reply.Counted records references counts instances)) k = tt
    by_answer (progress.Done (reply.Resynced corrected damaged)) k = tt
    by_answer (progress.Done (reply.AltMoved moved dropped)) k = tt
    by_answer (progress.Done (reply.Refused why)) k = tt
