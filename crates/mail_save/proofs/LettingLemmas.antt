-- What an event says that lets the instances go which were found: what it said before it did.
use Rattle.mail_save.proofs.Common.{◌≡◌, ◌<◌, ◌+◌, ℕ, List, false, true, Option, sym, ◌∙◌, ap, subst, arith, ◌↔◌, Faults, History, InstRow, InstId, Did, Progress, InstancesValue, holders_in, MailIsKept, Moves, amounts_in, KeepsInstances, MovesHolds, StoreValue, found_let_go, save_amounts}
use Rattle.mail_save.proofs.Common.{IsReadyToSave, AreSpared, LetsGo, SaveEffects, FaultsAt, HasLeft, RepliesAt, Saves, stopped_reply, SaveStage}
use Rattle.disk_model.specs.Disk.{Grows}
use Rattle.mdbox_base.specs.declared.progress.Progress.TheVariants as progress
use Rattle.store_core.proofs.InstanceKeepingLemmas.{kept_both}
use Rattle.mail_save.specs.Held.{save_holds}
use Rattle.mail_save.specs.MailFiles.{WritesMail}
use Rattle.mail_save.specs.Others.{KeepsOthers}
use Rattle.mail_save.specs.Task.{MomentsAt, RestsAt, save_events_left, saved_did}

-- ---- what stays

-- the store that has let them go
abbrev pub let_go_store : {D : Type 0} → List InstRow → StoreValue D → StoreValue D
let_go_store found left = record left { instances = record left.instances { known = found_let_go found left.instances.known } }

others_same : {D : Type 0} → (now : SaveStage) (found : List InstRow) (old left : StoreValue D) → KeepsOthers now old left → KeepsOthers now old (let_go_store found left)
others_same now found old left k = record {
  files = λ number size own h. let n = k.files number size own h in record { some = n.some; taken = n.taken; unbegun = n.unbegun; end = n.end; ends = n.ends; fits = n.fits };
  regions = λ at own h.
      let n = k.regions at own h in
      record { some = n.some; taken = n.taken; unbegun = n.unbegun; end = n.end; ends = n.ends; inside = n.inside; small = n.small; free = n.free; guid_file = n.guid_file; guid_offset = n.guid_offset; guid_new = n.guid_new };
}

pub others_let_go : {D : Type 0} → (now : SaveStage) (found : List InstRow) (old left new : StoreValue D) → LetsGo found left new → KeepsOthers now old left → KeepsOthers now old new
others_let_go now found old left new same k = subst (λ (s : StoreValue _). KeepsOthers now old s) (sym same) (others_same now found old left k)

spared_same : {D : Type 0} → (found : List InstRow) (old left : StoreValue D) (before after : Option History) → AreSpared old left before after → AreSpared old (let_go_store found left) before after
spared_same found old left before after k = λ uid row there. let n = k uid row there in record { now = n.now; there = n.there; guid = n.guid; stores = n.stores }

pub spared_let_go : {D : Type 0} → (found : List InstRow) (old left new : StoreValue D) (before after : Option History) → LetsGo found left new → AreSpared old left before after → AreSpared old new before after
spared_let_go found old left new before after same k = subst (λ (s : StoreValue _). AreSpared old s before after) (sym same) (spared_same found old left before after k)

sums : (new left old mine found later : ℕ) → left + mine ≡ old + found → new + found ≡ left + later → new + mine ≡ old + later
sums new left old mine found later a b = omega (arith, a, b)

-- one event behind another moves holds as both do
pub moves_then : {D : Type 0} → (mine between later : InstId → ℕ) (old left new : StoreValue D) → MovesHolds mine between old left → MovesHolds between later left new → MovesHolds mine later old new
moves_then mine between later old left new a b id = sums (holders_in id new.instances.known) (holders_in id left.instances.known) (holders_in id old.instances.known) (mine id) (between id) (later id) (a id) (b id)

-- an event that leaves the instances moves none
pub moves_same : {D : Type 0} → (mine : InstId → ℕ) (old new : StoreValue D) → new.instances ≡ old.instances → MovesHolds mine mine old new
moves_same mine old new same id = ap (λ (i : InstancesValue). holders_in id i.known + mine id) same

-- what the event and the letting go keep for others that find instances
pub keeps_let_go : {D : Type 0} → (told : D → Option History) (found : List InstRow) (old left new : StoreValue D) → LetsGo found left new → KeepsInstances left new (told left.disk) (told new.disk) → KeepsInstances old left (told old.disk) (told left.disk) → KeepsInstances old new (told old.disk) (told left.disk)
keeps_let_go told found old left new same later first =
    subst (λ (h : Option History). KeepsInstances old new (told old.disk) h) (ap (λ (v : StoreValue _). told v.disk) same) (kept_both old left new (told old.disk) (told left.disk) (told new.disk) first later)

-- ---- the event

-- What an event says of the store as it was before it let these go (`left`), and of the stage behind it what that needs of the
-- store then.
pub record SavesLetting {D : Type 0} (now next : SaveStage) (found : List InstRow) (name : List ℕ) (time size : ℕ) (answer : Progress) (how : Did) (old left new : StoreValue D) (before after : Option History) (began ended : Faults) : Type 0 where
  pub replies : RepliesAt now name answer next old
  pub did_is : how ≡ saved_did now next answer
  pub moments : MomentsAt now name old before after
  pub stays : MailIsKept old.map before after
  pub rests : left.stopped ≡ false → RestsAt now name answer old before after
  pub mail : left.stopped ≡ false → WritesMail now next name time old before after
  pub ready : answer ≡ progress.More → (octets : List ℕ) → IsReadyToSave now name time size octets old before → IsReadyToSave next name time size octets new after
  pub left_is : answer ≡ progress.More → HasLeft next name time new after
  pub fewer : answer ≡ progress.More → save_events_left next new.instances < save_events_left now old.instances
  pub effects : SaveEffects now next name time size answer old new
  pub spared : left.stopped ≡ false → AreSpared old left before after
  pub others : KeepsOthers now old left
  pub moves : left.stopped ≡ false → Moves (save_amounts now) (save_amounts next) (amounts_in old) (amounts_in left)
  pub holds : MovesHolds (save_holds now) (save_holds next) old new
  pub instances : new.stopped ≡ false → KeepsInstances old new before after
  pub stopped : (answer ≡ stopped_reply) ↔ (left.stopped ≡ true)
  pub faults : FaultsAt answer began ended
  pub grows : Grows before after

pub saves_let_go : {D : Type 0} → (told : D → Option History) (counted : D → Faults) (now next : SaveStage) (found : List InstRow) (name : List ℕ) (time size : ℕ) (answer : Progress) (how : Did) (old left new : StoreValue D) → LetsGo found left new
    → SavesLetting now next found name time size answer how old left new (told old.disk) (told left.disk) (counted old.disk) (counted left.disk) → Saves now next name time size answer how old new (told old.disk) (told new.disk) (counted old.disk) (counted new.disk)
saves_let_go told counted now next found name time size answer how old left new same s =
    let disk : new.disk ≡ left.disk = ap (λ (v : StoreValue _). v.disk) same in
    let stop : new.stopped ≡ left.stopped = ap (λ (v : StoreValue _). v.stopped) same in
    subst (λ (d : _). Saves now next name time size answer how old new (told old.disk) (told d) (counted old.disk) (counted d)) (sym disk) (record {
      replies = s.replies;
      did_is = s.did_is;
      moments = s.moments;
      stays = s.stays;
      rests = λ ran. s.rests (sym stop ∙ ran);
      mail = λ ran. s.mail (sym stop ∙ ran);
      ready = s.ready;
      left = s.left_is;
      fewer = s.fewer;
      effects = s.effects;
      idle = λ e. ap told (sym disk ∙ ap (λ (v : StoreValue _). v.disk) e);
      spared = λ ran. spared_let_go found old left new (told old.disk) (told left.disk) same (s.spared (sym stop ∙ ran));
      others = others_let_go now found old left new same s.others;
      moves = λ ran. subst (λ (v : StoreValue _). Moves (save_amounts now) (save_amounts next) (amounts_in old) (amounts_in v)) (sym same) (s.moves (sym stop ∙ ran));
      holds = s.holds;
      instances = s.instances;
      stopped = record { 0 = λ e. stop ∙ s.stopped.0 e; 1 = λ e. s.stopped.1 (sym stop ∙ e) };
      faults = s.faults;
      grows = s.grows;
    })
