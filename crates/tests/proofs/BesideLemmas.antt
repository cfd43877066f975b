-- Two deliveries that take turns are beside one another after each event.
use Rattle.std.specs.Prelude.{◌≡◌, ◌≤◌, ◌+◌, ℕ, List, Option, Some, IsSome, false}
use Rattle.std.proofs.Common.{refl, sym, subst, inl, inr, arith}
use Rattle.disk_mem.specs.Mem.{told}
use Rattle.disk_mem.specs.declared.disk.MemDisk.{MemDisk}
use Rattle.disk_model.specs.Disk.{Faults, History}
use Rattle.mail_save.specs.Held.{save_dues, save_holds}
use Rattle.mail_save.specs.Others.{IsOwnFile}
use Rattle.mail_save.specs.Task.{HasLeft, SaveValue, Saves}
use Rattle.mail_save.specs.declared.task.SaveStage.{SaveStage}
use Rattle.mail_save.specs.declared.task.SaveStage.TheVariants as stage
use Rattle.mdbox_base.specs.declared.ids.InstId.{InstId}
use Rattle.mdbox_base.specs.declared.progress.Did.{Did}
use Rattle.mdbox_base.specs.declared.progress.Progress.{Progress}
use Rattle.mdbox_base.specs.declared.progress.Progress.TheVariants as progress
use Rattle.mdbox_base.specs.declared.replies.Reply.{Reply}
use Rattle.sis_store.specs.Instances.{holders_in}
use Rattle.store_core.specs.Dues.{due_at}
use Rattle.store_core.specs.Value.{StoreValue}
use Rattle.tests.specs.Deliveries.{AreBeside, IsFresh, IsHeldByNone}
use Rattle.tests.specs.declared.tasks.turn.Turns.{Turns}
use Rattle.tests.proofs.HeldLemmas.{fresh_left}
use Rattle.tests.proofs.StepLemmas.{at_end, few_held}
use Rattle.tests.proofs.TurnLemmas.{Turn, apart_from, due_then, goes_then, held_then}

-- What the event of one says, in a store that isn't stopped then.
abbrev Says : Turns → SaveValue → Progress → Did → StoreValue MemDisk → StoreValue MemDisk → Faults → Faults → Type 0
Says one task answer how old new began ended = Saves one.task.stage task.stage one.task.name one.task.time one.task.size answer how old new (Some (told old.disk)) (Some (told new.disk)) began ended

turn_of : (one other : Turns) (task : SaveValue) (answer : Progress) (how : Did) (old new : StoreValue MemDisk) (began ended : Faults) → AreBeside one other old → Says one task answer how old new began ended → new.stopped ≡ false
    → Turn one.task.stage task.stage other.task.stage one.task.name one.task.time one.task.size answer how old new (Some (told old.disk)) (Some (told new.disk)) began ended
turn_of one other task answer how old new began ended b says runs = record { says = says; runs = runs; held = b.held; due = b.due; apart = b.apart }

-- after a reply
pub done_beside : (one other : Turns) (task : SaveValue) (given : Reply) (how : Did) (old new : StoreValue MemDisk) (began ended : Faults) → AreBeside one other old → Says one task (progress.Done given) how old new began ended → new.stopped ≡ false
    → AreBeside (record { task = task; reply = Some given }) other new
done_beside one other task given how old new began ended b says runs =
    let t = turn_of one other task (progress.Done given) how old new began ended b says runs in
    let ends : task.stage ≡ stage.Ended = at_end one.task.stage task.stage one.task.name one.task.time one.task.size given old new says.effects in
    let few : (id : InstId) → save_holds task.stage id ≤ 65535 = λ id. subst (λ (s : SaveStage). save_holds s id ≤ 65535) (sym ends) (omega arith) in
    record {
      one_goes = inr (ends, refl);
      other_goes = goes_then one.task.stage task.stage other.task.stage one.task.name other.task.name one.task.time other.task.time one.task.size (progress.Done given) how old new (Some (told old.disk)) (Some (told new.disk)) began ended (IsSome other.reply) t few b.other_goes;
      held = held_then one.task.stage task.stage other.task.stage one.task.name one.task.time one.task.size (progress.Done given) how old new (Some (told old.disk)) (Some (told new.disk)) began ended t;
      due = due_then one.task.stage task.stage other.task.stage one.task.name one.task.time one.task.size (progress.Done given) how old new (Some (told old.disk)) (Some (told new.disk)) began ended t;
      apart = λ number mine own. let none : IsOwnFile stage.Ended number = subst (λ (s : SaveStage). IsOwnFile s number) ends mine in none;
    }

left_as : (now : SaveStage) (name mine : List ℕ) (time when : ℕ) (store : StoreValue MemDisk) (history : Option History) → mine ≡ name → when ≡ time → HasLeft now name time store history → HasLeft now mine when store history
left_as now name mine time when store history same at left = subst (λ (n : List ℕ). HasLeft now n when store history) (sym same) (subst (λ (t : ℕ). HasLeft now name t store history) (sym at) left)

-- where the request goes on
pub more_beside : (one other : Turns) (task : SaveValue) (answer : Progress) (how : Did) (old new : StoreValue MemDisk) (began ended : Faults) → answer ≡ progress.More → (task.name ≡ one.task.name) × (task.time ≡ one.task.time) × (task.size ≡ one.task.size)
    → AreBeside one other old → Says one task answer how old new began ended → new.stopped ≡ false → AreBeside (record { task = task; reply = one.reply }) other new
more_beside one other task answer how old new began ended more same b says runs =
    let t = turn_of one other task answer how old new began ended b says runs in
    let left : HasLeft task.stage one.task.name one.task.time new (Some (told new.disk)) = says.left more in
    record {
      one_goes = inl (left_as task.stage one.task.name task.name one.task.time task.time new (Some (told new.disk)) same.0 same.1 left);
      other_goes = goes_then one.task.stage task.stage other.task.stage one.task.name other.task.name one.task.time other.task.time one.task.size answer how old new (Some (told old.disk)) (Some (told new.disk)) began ended (IsSome other.reply) t (few_held task.stage one.task.name one.task.time new (Some (told new.disk)) left) b.other_goes;
      held = held_then one.task.stage task.stage other.task.stage one.task.name one.task.time one.task.size answer how old new (Some (told old.disk)) (Some (told new.disk)) began ended t;
      due = due_then one.task.stage task.stage other.task.stage one.task.name one.task.time one.task.size answer how old new (Some (told old.disk)) (Some (told new.disk)) began ended t;
      apart = apart_from one.task.stage task.stage other.task.stage one.task.name other.task.name one.task.time other.task.time one.task.size answer how old new (Some (told old.disk)) (Some (told new.disk)) began ended (IsSome other.reply) more t b.other_goes;
    }

-- before their first events
pub fresh_beside : (one other : Turns) (store : StoreValue MemDisk) → IsFresh one.task → IsFresh other.task → IsHeldByNone store → AreBeside one other store
fresh_beside one other store first second none = record {
  one_goes = inl (fresh_left one.task store first none);
  other_goes = inl (fresh_left other.task store second none);
  held = λ id. subst (λ (s : SaveStage). holders_in id store.instances.known ≡ save_holds s id + save_holds other.task.stage id) (sym first.first) (subst (λ (s : SaveStage). holders_in id store.instances.known ≡ 0 + save_holds s id) (sym second.first) (none id));
  due = λ uid. subst (λ (s : SaveStage). save_dues s uid + save_dues other.task.stage uid ≤ due_at uid store) (sym first.first) (subst (λ (s : SaveStage). 0 + save_dues s uid ≤ due_at uid store) (sym second.first) (omega arith));
  apart = λ number mine own. let none : IsOwnFile (stage.First first.prepared) number = subst (λ (s : SaveStage). IsOwnFile s number) first.first mine in none;
}

-- whichever of them is named first
pub beside_too : (one other : Turns) (store : StoreValue MemDisk) → AreBeside one other store → AreBeside other one store
beside_too one other store b = record {
  one_goes = b.other_goes;
  other_goes = b.one_goes;
  held = λ id. let h = b.held id in omega (arith, h);
  due = λ uid. let d = b.due uid in omega (arith, d);
  apart = λ number mine own. b.apart number own mine;
}
