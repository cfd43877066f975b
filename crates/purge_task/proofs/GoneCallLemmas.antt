-- What a purge says that removes an instance, or replies.
use Rattle.purge_task.proofs.Common.{◌≡◌, ◌≢◌, ◌≤◌, ◌+◌, ◌==◌, ◌&&◌, ℕ, Bool, true, false, not, List, [], ◌∷◌, length, Option, Some, None, refl, sym, ◌∙◌, ap, subst, arith, inl, inr, ◌⊎◌, find, option_map, option_map_or, bytes_eq, All-contains, cases_Bool, eqb-true, Faults, Grows, History}
use Rattle.purge_task.proofs.Common.{SameButFor, FileName, NoFault, idle-begins, is_instance_named, InstId, Progress, MailIsKept, Lists, MapMeaning, instance_number, found_one, text_is, text_yes, IsSettledFor, Leaves, AreInstances, HasDrawnNumber, holders_in, instance_in, without_instance}
use Rattle.purge_task.proofs.Common.{instance_file, KnownInstance, instance-in, same_id, KeepsFirm, is_useless, useless_past, HasKnownInstances, StoreValue, Due, Emptied, Held, Made, MovesClaims, Pinned, PlacingPieces, Removing, Taken, Thing, amount_in, LeavesOthers, mail_still, purge_claims}
use Rattle.purge_task.proofs.Common.{IsPurgeStep, PurgeSteps, at_stage, HasPurged, PurgeValue, PurgeStage, fall, IsStore}
use Rattle.std.specs.Prelude.{cond}
use Rattle.disk_model.specs.declared.name.FileName.TheVariants as file
use Rattle.disk_model.specs.FaultCounts.{ChangeFaultCounted}
use Rattle.mdbox_base.specs.declared.progress.Did.TheVariants as did
use Rattle.mdbox_base.specs.declared.progress.Progress.TheVariants as progress
use Rattle.mdbox_base.specs.declared.replies.Refusal.TheVariants as refusal
use Rattle.mdbox_base.specs.declared.replies.Reply.TheVariants as reply
use Rattle.mdbox_base.specs.declared.script.Half.TheVariants as half
use Rattle.sis_store.specs.OnDisk.{file_of}
use Rattle.store_core.proofs.InstanceRemovalLemmas.{names_others}
use Rattle.mdbox_base.specs.Words.{IsOctets}
use Rattle.task_claims.proofs.RestLemmas.{idle_leaves}
use Rattle.purge_task.specs.declared.task.PurgeStage.TheVariants as stage
use Rattle.purge_task.proofs.EventLemmas.{same_refusal}
use Rattle.purge_task.proofs.FailLemmas.{fail_steps}
use Rattle.purge_task.proofs.GoneLemmas.{gone_steps, last_steps}
use Rattle.purge_task.proofs.InstanceSeenLemmas.{none_with, other_with, without_it}
use Rattle.purge_task.proofs.LeavingLemmas.{gone_leaves}
use Rattle.purge_task.proofs.NumberLemmas.{drawn_id}
use Rattle.purge_task.proofs.SameSeenLemmas.{tells_same}
use Rattle.purge_task.proofs.SameRegionLemmas.{regions_gone, regions_idle}

-- ---- which instance it is

alone : (b : Bool) → (b && true) ≡ b
alone true = refl
alone false = refl

same_find : (p q : KnownInstance → Bool) → ((k : KnownInstance) → p k ≡ q k) → (known : List KnownInstance) → find p known ≡ find q known
same_find p q h [] = refl
same_find p q h (k ∷ known) = ap (λ (b : Bool). cond b (Some k) (find p known)) (h k) ∙ ap (λ (o : Option KnownInstance). cond (q k) (Some k) o) (same_find p q h known)

find_of : (m : MapMeaning) (known : List KnownInstance) → useless_past None m known ≡ option_map (λ k. k.row.id) (find (λ k. is_useless m k) known)
find_of m known = ap (λ (o : Option KnownInstance). option_map (λ k. k.row.id) o) (same_find (λ (k : KnownInstance). is_useless m k && true) (λ (k : KnownInstance). is_useless m k) (λ k. alone (is_useless m k)) known)

pub none_useless : (m : MapMeaning) (known : List KnownInstance) → useless_past None m known ≡ None → find (λ k. is_useless m k) known ≡ None
none_useless m known e = by_case (find (λ (k : KnownInstance). is_useless m k) known) (sym (find_of m known) ∙ e)
  where
    by_case : (o : Option KnownInstance) → option_map (λ k. k.row.id) o ≡ None → o ≡ None
    by_case None k = refl
    by_case (Some j) k = absurd (let w : Some j.row.id ≡ None = k in cc w)

-- the instance of this id, which is of no use
pub record IsUselessOne {D : Type 0} (store : StoreValue D) (id : InstId) : Type 0 where
  pub k : KnownInstance
  pub found : find (λ k. is_useless store.map k) store.instances.known ≡ Some k
  pub id_is : k.row.id ≡ id
  pub known : instance_in k.row.id store.instances.known ≡ Some k
  pub unheld : holders_in k.row.id store.instances.known ≡ 0
  pub unnamed : is_instance_named store.map k.row.id.0 ≡ false

both_true : (a b : Bool) → (a && b) ≡ true → (a ≡ true) × (b ≡ true)
both_true true b e = (refl, e)
both_true false b e = absurd (cc e)

of_not : (b : Bool) → not b ≡ true → b ≡ false
of_not true e = absurd (let k : false ≡ true = e in cc k)
of_not false e = refl

pub useless_one : {D : Type 0} → (store : StoreValue D) (id : InstId) → AreInstances store.instances → useless_past None store.map store.instances.known ≡ Some id → IsUselessOne store id
useless_one store id ids e = by_case (find (λ (k : KnownInstance). is_useless store.map k) store.instances.known) refl (sym (find_of store.map store.instances.known) ∙ e)
  where
    by_case : (o : Option KnownInstance) → find (λ k. is_useless store.map k) store.instances.known ≡ o → option_map (λ k. k.row.id) o ≡ Some id → IsUselessOne store id
    by_case None is w = absurd (let k : None ≡ Some id = w in cc k)
    by_case (Some k) is w =
        let there = found_one (λ (j : KnownInstance). is_useless store.map j) store.instances.known k is in
        let parts = both_true (k.holders == 0) (not (is_instance_named store.map k.row.id.0)) there.1 in
        let at : instance_in k.row.id store.instances.known ≡ Some k = instance-in store.instances.known k ids.rising there.0 in
        record {
          k = k;
          found = is;
          id_is = let j : k.row.id ≡ id = cc w in j;
          known = at;
          unheld = ap (λ (o : Option KnownInstance). option_map_or (λ j. j.holders) o 0) at ∙ eqb-true k.holders 0 parts.0;
          unnamed = of_not (is_instance_named store.map k.row.id.0) parts.1;
        }

-- ---- claims

gone_amount : {D : Type 0} → (id : InstId) (disk : D) (store : StoreValue D) → holders_in id store.instances.known ≡ 0 → (thing : Thing) → amount_in thing (without_it id disk store) ≡ amount_in thing store
gone_amount id disk store none (Due uid) = refl
gone_amount id disk store none (Pinned n) = refl
gone_amount id disk store none (Taken n) = refl
gone_amount id disk store none (Emptied n) = refl
gone_amount id disk store none (PlacingPieces n) = refl
gone_amount id disk store none (Removing n) = refl
gone_amount id disk store none (Made n) = refl
gone_amount id disk store none (Held i) = elim (cases_Bool (bytes_eq i.0 id.0)) [
  | inl is ↦ subst (λ (j : InstId). holders_in j (without_instance id store.instances.known) ≡ holders_in j store.instances.known) (sym (same_id i id (text_is i.0 id.0 is)))
      (ap (λ (o : Option KnownInstance). option_map_or (λ k. k.holders) o 0) (none_with id store.instances.known) ∙ sym none)
  | inr apart ↦ ap (λ (o : Option KnownInstance). option_map_or (λ k. k.holders) o 0) (other_with id i store.instances.known (λ same. fall (bytes_eq i.0 id.0) (text_yes i.0 id.0 (ap (λ (j : InstId). j.0) same)) apart))
]

no_claim : (s : PurgeStage) (thing : Thing) → (s ≡ stage.Instances) ⊎ (s ≡ stage.First) → purge_claims s thing ≡ 0
no_claim s thing (inl e) = ap (λ (x : PurgeStage). purge_claims x thing) e
no_claim s thing (inr e) = ap (λ (x : PurgeStage). purge_claims x thing) e

moves_none : {D : Type 0} → (s next : PurgeStage) (old new : StoreValue D) → (s ≡ stage.Instances) ⊎ (s ≡ stage.First) → (next ≡ stage.Instances) ⊎ (next ≡ stage.First) → ((thing : Thing) → amount_in thing new ≡ amount_in thing old) → MovesClaims (purge_claims s) (purge_claims next) old new
moves_none s next old new at to same thing = let a = no_claim s thing at in let b = no_claim next thing to in let c = same thing in omega (arith, a, b, c)

-- ---- the calls

pub last_says : {D : Type 0} → (t next : PurgeValue) (store : StoreValue D) (history : Option History) (faults : Faults) → t.stage ≡ stage.Instances → next.stage ≡ stage.First → next.did ≡ did.Step half.Whole → store.stopped ≡ false → HasKnownInstances history store → useless_past None store.map store.instances.known ≡ None → IsStore history store
    → IsPurgeStep t next (progress.Done (reply.Purged t.dropped t.files t.instances)) store store history history faults faults
last_says t next store history faults at to how runs known none is = record {
  ready = λ e. absurd (let k : progress.Done (reply.Purged t.dropped t.files t.instances) ≡ progress.More = e in cc k);
  does = ([], λ around. last_steps around t next store history faults at how runs known (none_useless store.map store.instances.known none));
  first = λ begins. absurd (let e : stage.Instances ≡ stage.First = sym at ∙ begins in cc e);
  refused = λ why e read stop. absurd (let k : reply.Purged t.dropped t.files t.instances ≡ reply.Refused why = cc e in cc k);
  stopped = record { 0 = λ e. absurd (let k : reply.Purged t.dropped t.files t.instances ≡ reply.Refused refusal.Stopped = cc e in cc k); 1 = λ e. absurd (fall store.stopped e runs) };
  regions = λ r. regions_idle store store.map history history is runs refl (idle-begins history);
  claims = λ r. record {
    moves = moves_none t.stage next.stage store store (inl at) (inr to) (λ thing. refl);
    leaves = idle_leaves (purge_claims t.stage) store history history (idle-begins history);
    ended = λ given e thing. no_claim next.stage thing (inr to);
  };
  grows = omega arith;
  mail = mail_still store.map history;
  reads = omega arith;
  changes = omega arith;
  calm = λ told. refl;
  unfailed = λ r. refl;
  fell = λ was e. absurd (fall store.stopped e runs);
}

pub gone_says : {D : Type 0} → (H : D → Option History) (F : D → Faults) (t next : PurgeValue) (id : InstId) (old new : StoreValue D) → t.stage ≡ stage.Instances → next.stage ≡ stage.Instances → next.did ≡ did.Quiet → next.dropped ≡ t.dropped → next.files ≡ t.files → next.instances ≡ t.instances + 1 → old.stopped ≡ false → HasKnownInstances (H old.disk) old
    → AreInstances old.instances → length id.0 ≡ 16 → IsOctets id.0 → useless_past None old.map old.instances.known ≡ Some id → ((lists : Lists) → IsSettledFor lists (H old.disk) → Leaves lists lists (H old.disk) (H new.disk)) → MailIsKept old.map (H old.disk) (H new.disk) → ((lists : Lists) → IsSettledFor lists (H old.disk) → IsSettledFor lists (H new.disk))
    → SameButFor (file_of id old.instances.known) (H old.disk) (H new.disk) → KeepsFirm old new (H old.disk) (H new.disk) → new ≡ record old { disk = new.disk; instances = record old.instances { known = without_instance id old.instances.known } } → Grows (H old.disk) (H new.disk) → NoFault (F old.disk) (F new.disk) → IsStore (H old.disk) old
    → IsPurgeStep t next progress.More old new (H old.disk) (H new.disk) (F old.disk) (F new.disk)
gone_says {D = D} H F t next id old new at to how dropped files instances runs known ids long octets useless moments mail rests others firm is grows quiet store = record {
  ready = λ more r. subst (λ (s : PurgeStage). HasPurged s new (H new.disk)) (sym to) tt;
  does = (
    [],
    λ around. subst (λ (s : StoreValue D). PurgeSteps [] around t next old s (H old.disk) (H new.disk) (F old.disk) (F new.disk) None) (sym now)
        (gone_steps around t next one.k new.disk old (H old.disk) (H new.disk) (F old.disk) (F new.disk) at to how dropped files instances runs known ids one.found drawn (record { moments = moments; rests = rests; grows = grows; mail = mail; quiet = quiet })),
  );
  first = λ begins. absurd (let e : stage.Instances ≡ stage.First = sym at ∙ begins in cc e);
  refused = λ why e read stop. absurd (let k : progress.More ≡ progress.Done (reply.Refused why) = e in cc k);
  stopped = record { 0 = λ e. absurd (let k : progress.More ≡ progress.Done (reply.Refused refusal.Stopped) = e in cc k); 1 = λ e. absurd (fall old.stopped (ap (λ (s : StoreValue D). s.stopped) (sym now) ∙ e) runs) };
  regions = λ r. regions_gone one.k.row.hash.0 one.k.row.id.0 old new.map (H old.disk) (H new.disk) store runs (ap (λ (s : StoreValue D). s.map) now) (subst (λ (n : FileName). SameButFor n (H old.disk) (H new.disk)) file_is others);
  claims = λ r. record {
    moves = moves_none t.stage next.stage old new (inl at) (inl to) (λ thing. ap (λ (s : StoreValue D). amount_in thing s) now ∙ gone_amount one.k.row.id new.disk old one.unheld thing);
    leaves = subst (λ (s : StoreValue D). LeavesOthers (purge_claims t.stage) old s (H old.disk) (H new.disk)) (sym now)
        (gone_leaves (purge_claims t.stage) one.k new.disk old (H old.disk) (H new.disk) one.unheld (names_others old.map one.k.row.id.0 one.unnamed) (subst (λ (n : FileName). SameButFor n (H old.disk) (H new.disk)) file_is others) (subst (λ (s : StoreValue D). KeepsFirm old s (H old.disk) (H new.disk)) now firm));
    ended = λ given e. absurd (let k : progress.More ≡ progress.Done given = e in cc k);
  };
  grows = grows;
  mail = mail;
  reads = let e = ap (λ (f : Faults). f.reads) quiet in omega (arith, e);
  changes = let e = ap (λ (f : Faults). f.changes) quiet in omega (arith, e);
  calm = λ told. ap (λ (f : Faults). f.reads) quiet;
  unfailed = λ r. ap (λ (f : Faults). f.changes) quiet;
  fell = λ was e. absurd (fall old.stopped (ap (λ (s : StoreValue D). s.stopped) (sym now) ∙ e) runs);
}
  where
    one : IsUselessOne old id
    one = useless_one old id ids useless

    now : new ≡ without_it one.k.row.id new.disk old
    now = is ∙ ap (λ (i : InstId). without_it i new.disk old) (sym one.id_is)

    file_is : file_of id old.instances.known ≡ instance_file one.k.row
    file_is = ap (λ (i : InstId). file_of i old.instances.known) (sym one.id_is) ∙ ap (λ (o : Option KnownInstance). file.Inst (option_map_or (λ k. k.row.hash.0) o []) one.k.row.id.0) one.known

    drawn : instance_number old.map.store one.k.row.id.0 ≤ old.drawn.instance
    drawn =
        let number = drawn_id old.instances.store old.instances.highest one.k.row.id (All-contains (λ (k : KnownInstance). HasDrawnNumber old.instances.store old.instances.highest k.row.id) old.instances.known one.k ids.drawn (found_one (λ (k : KnownInstance). is_useless old.map k) old.instances.known one.k one.found).0)
        (ap (λ (i : InstId). length i.0) one.id_is ∙ long) (subst (λ (i : InstId). IsOctets i.0) (sym one.id_is) octets) in
        subst (λ (n : ℕ). instance_number old.map.store one.k.row.id.0 ≤ n) known.kept.highest (subst (λ (s : List ℕ). instance_number s one.k.row.id.0 ≤ old.instances.highest) known.kept.store number)

-- a change of the disk failed, and nothing else has changed
pub failed_says : {D : Type 0} → (H : D → Option History) (F : D → Faults) (t next : PurgeValue) (old new : StoreValue D) → next.did ≡ did.Failed → old.stopped ≡ false → ((lists : Lists) → IsSettledFor lists (H old.disk) → Leaves lists lists (H old.disk) (H new.disk)) → MailIsKept old.map (H old.disk) (H new.disk)
    → new ≡ record old { disk = new.disk; stopped = true } → Grows (H old.disk) (H new.disk) → (Failed : Type 0) → Failed → ChangeFaultCounted Failed (F old.disk) (F new.disk) → t.stage ≢ stage.First → IsPurgeStep t next (progress.Done (reply.Refused refusal.Stopped)) old new (H old.disk) (H new.disk) (F old.disk) (F new.disk)
failed_says {D = D} H F t next old new how runs moments mail is grows Failed failed fault begun = record {
  ready = λ e. absurd (let k : progress.Done (reply.Refused refusal.Stopped) ≡ progress.More = e in cc k);
  does = (
    [],
    λ around. subst (λ (s : StoreValue D). PurgeSteps [] around t next old s (H old.disk) (H new.disk) (F old.disk) (F new.disk) (Some (reply.Refused refusal.Stopped))) (sym is)
        (fail_steps around t next new.disk old.files old (H old.disk) (H new.disk) (F old.disk) (F new.disk) how runs (tells_same old.files.files) (record { moments = moments; grows = grows; mail = mail; reads = let e = fault.reads in omega (arith, e); changes = fault.changes; rose = fault.rose failed })),
  );
  first = λ begins. absurd (begun begins);
  refused = λ why e read stop. absurd (stop (same_refusal refusal.Stopped why e));
  stopped = record { 0 = λ e. ap (λ (s : StoreValue D). s.stopped) is; 1 = λ e. refl };
  regions = λ r. absurd (fall new.stopped (ap (λ (s : StoreValue D). s.stopped) is) r);
  claims = λ r. absurd (fall new.stopped (ap (λ (s : StoreValue D). s.stopped) is) r);
  grows = grows;
  mail = mail;
  reads = let e = fault.reads in omega (arith, e);
  changes = fault.changes;
  calm = λ told. fault.reads;
  unfailed = λ r. absurd (fall new.stopped (ap (λ (s : StoreValue D). s.stopped) is) r);
  fell = λ was e. (fault.rose failed, fault.reads);
}

-- of a task as its fields are seen
pub stage_as : {D : Type 0} → (s : PurgeStage) (inside t next : PurgeValue) (answer : Progress) (old new : StoreValue D) (before later : Option History) (began faults : Faults) → inside ≡ t → IsPurgeStep (at_stage s inside) next answer old new before later began faults → IsPurgeStep (at_stage s t) next answer old new before later began faults
stage_as s inside t next answer old new before later began faults same h = subst (λ (v : PurgeValue). IsPurgeStep (at_stage s v) next answer old new before later began faults) same h
