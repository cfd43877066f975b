-- A store that stays as it is, but for its disk and the numbers that it drew, and the run that has come to it.
use Rattle.std.proofs.Common.{◌≡◌, ◌≤◌, ℕ, List, [], ◌++◌, Option, refl, sym, ◌∙◌, ap, arith}
use Rattle.std.proofs.lemmas.List.{append-nil}
use Rattle.std.proofs.lemmas.List.Elements.{All-push, All-weaker}
use Rattle.disk_model.specs.Disk.{History, Grows, told_calls}
use Rattle.mdbox_base.specs.declared.entries.Highest.{Highest}
use Rattle.mdbox_base.specs.declared.entries.MapEntry.{MapEntry}
use Rattle.model_kept.specs.Kept.{MailIsKept}
use Rattle.model_meaning.specs.MapMeaning.{map_meaning, no_numbers}
use Rattle.list_machine.specs.Run.{RunEvent, Run, and_then, drawn_also, entries_of}
use Rattle.journal.specs.Makes.{HasCome}
use Rattle.journal.proofs.RunLemmas.{drawn_more, drawn_none, entries_more}
use Rattle.task_steps.specs.Step.{Seen, HasComeTo}
use Rattle.task_steps.specs.Tells.{TellsSame}
use Rattle.task_steps.proofs.SeenLemmas.{tells_itself}
use Rattle.task_steps.proofs.UnmovedLemmas.{mail_still}

-- The store keeps its map, its numbers, and what is due; its disk may have gone on.
pub record StaysSo (old new : Seen) : Type 0 where
  pub map : new.map ≡ old.map
  pub drawn : new.drawn ≡ old.drawn
  pub due : (uid : ℕ) → new.due uid ≡ old.due uid
  pub tells : TellsSame old new
  pub grows : Grows old.history new.history
  pub mail : MailIsKept old.map old.history new.history
  pub reads : old.faults.reads ≤ new.faults.reads
  pub changes : old.faults.changes ≤ new.faults.changes

pub stays_itself : (seen : Seen) → StaysSo seen seen
stays_itself seen = record { map = refl; drawn = refl; due = λ uid. refl; tells = tells_itself seen; grows = omega arith; mail = mail_still seen.map seen.history; reads = omega arith; changes = omega arith }

-- the run with an event that adds no entry to the map log has come to where the store stands
pub comes_drawn : (run : Run) (event : RunEvent) (old new : Seen) → HasComeTo run old → new.map ≡ old.map → new.drawn ≡ drawn_also old.drawn event.drew → Grows old.history new.history → event.moment ≡ told_calls new.history → event.map_entries ≡ []
    → HasCome (and_then run event) new.map new.drawn (told_calls new.history)
comes_drawn run event old new come map drawn grows moment entries = record {
  map_is = (ap (λ (es : List MapEntry). map_meaning run.store es) ((entries_more run event ∙ ap (λ (es : List MapEntry). entries_of run ++ es) entries) ∙ append-nil (entries_of run)) ∙ come.come.map_is) ∙ sym map;
  drawn_is = (drawn_more run event ∙ ap (λ (d : Highest). drawn_also d event.drew) come.come.drawn_is) ∙ sym drawn;
  moments =
      let later : told_calls old.history ≤ told_calls new.history = grows in
      All-push (λ (e : RunEvent). e.moment ≤ told_calls new.history) run.events event
      (All-weaker (λ (e : RunEvent). e.moment ≤ told_calls old.history) (λ (e : RunEvent). e.moment ≤ told_calls new.history) (λ e h. omega (arith, h, later)) run.events come.come.moments) (omega (arith, moment));
}

-- so has one that drew no number
pub comes_along : (run : Run) (event : RunEvent) (old new : Seen) → HasComeTo run old → new.map ≡ old.map → new.drawn ≡ old.drawn → Grows old.history new.history → event.moment ≡ told_calls new.history → event.map_entries ≡ [] → event.drew ≡ no_numbers
    → HasCome (and_then run event) new.map new.drawn (told_calls new.history)
comes_along run event old new come map drawn grows moment entries drew = comes_drawn run event old new come map (drawn ∙ (sym (drawn_none old.drawn) ∙ ap (λ (d : Highest). drawn_also old.drawn d) (sym drew))) grows moment entries
