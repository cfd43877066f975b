-- The clause of a step of a delivery: what it stands on, and that instances may be let go as the event ends.
use Rattle.mail_save.proofs.Common.{◌≡◌, ◌<◌, ◌^◌, ℕ, Bool, true, false, List, length, Option, sym, ◌∙◌, ap, subst, ◌↔◌, History, Faults, IfTold, IsOctets, InstRow, Did, Progress, Reply, Request, Lists, RunEvent, Run, and_then, Around, found_let_go, AreInstances, AreFilesInOrder, Own}
use Rattle.mail_save.proofs.Common.{knows_instance, IsStore, AreInstancesKept, KnownInstance, StoreValue, fall, Lasts, Seen, HasComeTo, Leads, seen_of, IsReadyToSave, LetsGo, HasItsParts, IsAtSave, StepsWithRoom, around_saving, FaultsAt, HasLeft, RepliesAt, stopped_reply, SaveStage}
use Rattle.mdbox_base.specs.declared.progress.Did.TheVariants as did
use Rattle.mdbox_base.specs.declared.requests.Request.TheVariants as request
use Rattle.task_steps.specs.Step.{FindsRoom, Fell, Went, EndsRequest, DidEvent, Steps, ended_by}
use Rattle.mail_save.specs.Task.{MomentsAt, RestsAt, saved_did}
use Rattle.mail_save.proofs.SeenInstanceLemmas.{knows_let_go}

-- ---- an event

-- What is known as a step of a delivery ends, of a store that wasn't stopped: but what it made of the store's value. If instances
-- were let go then, the new store is that in front of this.
pub record EventOf {D : Type 0} (now next : SaveStage) (name : List ℕ) (time size : ℕ) (octets : List ℕ) (answer : Progress) (how : Did) (old new : StoreValue D) (before after : Option History) (began faulted : Faults) : Type 0 where
  pub is : IsStore before old
  pub order : AreFilesInOrder old.files
  pub ids : AreInstances old.instances
  pub kept : AreInstancesKept old.instances old.drawn old.map
  pub ran : old.stopped ≡ false
  pub left : HasLeft now name time old before
  pub ready : IsReadyToSave now name time size octets old before
  pub parts : HasItsParts now octets
  pub timed : time < 2 ^ 64
  pub id_long : length old.map.store ≡ 8
  pub id_octets : IsOctets old.map.store
  pub own : IfTold before Own
  pub idle : new.disk ≡ old.disk → (after ≡ before) × (faulted ≡ began)
  pub replies : RepliesAt now name answer next old
  pub did_is : how ≡ saved_did now next answer
  pub moments : MomentsAt now name old before after
  pub rests : new.stopped ≡ false → RestsAt now name answer old before after
  pub stopped : (answer ≡ stopped_reply) ↔ (new.stopped ≡ true)
  pub faults : FaultsAt answer began faulted
  pub grows : Lasts old.map before after

abbrev pub DeliveryClause : {D : Type 0} → (pins : ℕ → ℕ) → List ℕ → SaveStage → SaveStage → List ℕ → ℕ → Progress → Did → StoreValue D → StoreValue D → Option History → Option History → Faults → Faults → Type 0
DeliveryClause pins octets now next name time answer how old new before after began faulted =
    (behind : Around) → StepsWithRoom (IsAtSave now) (IsAtSave next) (around_saving octets now old) behind (request.Deliver name time octets) (seen_of pins old before began) (seen_of pins new after faulted) how (ended_by answer)

pub with_did : {D : Type 0} → (pins : ℕ → ℕ) (octets : List ℕ) (now next : SaveStage) (name : List ℕ) (time : ℕ) (answer : Progress) (how known : Did) (old new : StoreValue D) (before after : Option History) (began faulted : Faults) → how ≡ known
    → DeliveryClause pins octets now next name time answer known old new before after began faulted → DeliveryClause pins octets now next name time answer how old new before after began faulted
with_did pins octets now next name time answer how known old new before after began faulted same = subst (λ (h : Did). DeliveryClause pins octets now next name time answer h old new before after began faulted) (sym same)

-- ---- instances are let go

-- a store that tells other instances
abbrev telling : Seen → (InstRow → Bool) → List KnownInstance → Seen
telling seen instances known = record seen { instances = instances; known = known }

leads_as : (lists left : Lists) (old new : Seen) (f : InstRow → Bool) (known : List KnownInstance) → Leads lists left old new → Leads lists left old (telling new f known)
leads_as lists left old new f known l = record { stops = l.stops; settled = l.settled }

fell_as : (event : RunEvent) (answer : Option Reply) (old new : Seen) (f : InstRow → Bool) (known : List KnownInstance) → Fell event answer old new → Fell event answer old (telling new f known)
fell_as event answer old new f known k = record { refused = k.refused; unanswered = k.unanswered; ran = k.ran; stopped = k.stopped }

went_as : (how : Did) (q : Request) (run : Run) (lists left : Lists) (event : RunEvent) (answer : Option Reply) (old new : Seen) (f : InstRow → Bool) (known : List KnownInstance) → Went how q run lists left event answer old new → Went how q run lists left event answer old (telling new f known)
went_as did.Quiet q run lists left event answer old new f known w = (w.0, w.1, leads_as lists lists old new f known w.2)
went_as (did.Step half) q run lists left event answer old new f known w = (w.0, w.1, w.2, leads_as lists left old new f known w.3)
went_as did.Failed q run lists left event answer old new f known w = (fell_as event answer old new f known w.0, w.1)
went_as (did.Broken half) q run lists left event answer old new f known w = (fell_as event answer old new f known w.0, w.1, w.2)

come_as : (run : Run) (new : Seen) (f : InstRow → Bool) (known : List KnownInstance) → ((row : InstRow) → f row ≡ new.instances row) → HasComeTo run new → HasComeTo run (telling new f known)
come_as run new f known same h = record {
  come = h.come;
  keeps = λ runs. let k = h.keeps runs in record { due = k.due; pins = k.pins; doomed = k.doomed; instances = λ row. k.instances row ∙ sym (same row); files = k.files };
  used = h.used;
  barred = h.barred;
  gave = h.gave;
  gone = h.gone;
  files = h.files;
}

ends_as : (q : Request) (said : List Reply) (event : RunEvent) (answer ended : Option Reply) (how : Did) (old new : Seen) (f : InstRow → Bool) (known : List KnownInstance) → old.stopped ≡ false → EndsRequest q said event answer ended how old new → EndsRequest q said event answer ended how old (telling new f known)
ends_as q said event answer ended how old new f known ran e = record {
  in_turn = e.in_turn;
  replied = e.replied;
  halts = e.halts;
  still = λ stopped. absurd (fall old.stopped stopped ran);
  reads = e.reads;
  faults = e.faults;
  unfailed = e.unfailed;
}

did_as : (around after : Around) (run : Run) (lane place : ℕ) (said : List Reply) (q : Request) (lists : Lists) (old new : Seen) (how : Did) (ended : Option Reply) (f : InstRow → Bool) (known : List KnownInstance) → old.stopped ≡ false → ((row : InstRow) → f row ≡ new.instances row)
    → DidEvent around after run lane place said q lists old new how ended → DidEvent around after run lane place said q lists old (telling new f known) how ended
did_as around after run lane place said q lists old new how ended f known ran same d = record {
  left = d.left;
  shown = d.shown;
  makes = d.makes;
  found = d.found;
  come = come_as (and_then run d.makes.event) new f known same d.come;
  gives = d.gives;
  went = went_as how q run lists d.left d.makes.event d.makes.answer old new f known d.went;
  grows = d.grows;
  mail = d.mail;
  ends = ends_as q said d.makes.event d.makes.answer ended how old new f known ran d.ends;
}

steps_as : (Stood Stands : Run → ℕ → List Reply → Type 0) (around after : Around) (q : Request) (old new : Seen) (how : Did) (ended : Option Reply) (f : InstRow → Bool) (known : List KnownInstance) → old.stopped ≡ false → ((row : InstRow) → f row ≡ new.instances row)
    → Steps Stood Stands around after q old new how ended → Steps Stood Stands around after q old (telling new f known) how ended
unfolding did_as
steps_as Stood Stands around after q old new how ended f known ran same does = λ run lane place said lists come shows stood.
    let d = does run lane place said lists come shows stood in
    (did_as around after run lane place said q lists old new how ended f known ran same d.0, d.1)

abbrev let_go_of : {D : Type 0} → List InstRow → StoreValue D → StoreValue D
let_go_of found store = record store { instances = record store.instances { known = found_let_go found store.instances.known } }

-- It is the same event where these instances are let go as it ends.
pub lets_go_does : {D : Type 0} → (pins : ℕ → ℕ) (octets : List ℕ) (now next : SaveStage) (name : List ℕ) (time : ℕ) (answer : Progress) (how : Did) (old left new : StoreValue D) (before after : Option History) (began faulted : Faults) (found : List InstRow) → old.stopped ≡ false → LetsGo found left new
    → DeliveryClause pins octets now next name time answer how old left before after began faulted → DeliveryClause pins octets now next name time answer how old new before after began faulted
lets_go_does pins octets now next name time answer how old left new before after began faulted found ran gone does =
    subst (λ (n : StoreValue _). DeliveryClause pins octets now next name time answer how old n before after began faulted) (sym gone)
    (λ behind. steps_as (λ run place said. IsAtSave now run place said × (old.stopped ≡ false → FindsRoom (around_saving octets now old) run)) (IsAtSave next) (around_saving octets now old) behind (request.Deliver name time octets) (seen_of pins old before began) (seen_of pins left after faulted) how (ended_by answer)
    (λ row. knows_instance (let_go_of found left) row) (found_let_go found left.instances.known) ran (λ row. knows_let_go row found left.instances.known) (does behind))

-- ---- the store in front of that

pub before_letting : {D : Type 0} → (now next : SaveStage) (name : List ℕ) (time size : ℕ) (octets : List ℕ) (answer : Progress) (how : Did) (old left new : StoreValue D) (before after : Option History) (began faulted : Faults) (found : List InstRow) → LetsGo found left new
    → EventOf now next name time size octets answer how old new before after began faulted → EventOf now next name time size octets answer how old left before after began faulted
before_letting now next name time size octets answer how old left new before after began faulted found gone e = record {
  is = e.is;
  order = e.order;
  ids = e.ids;
  kept = e.kept;
  ran = e.ran;
  left = e.left;
  ready = e.ready;
  parts = e.parts;
  timed = e.timed;
  id_long = e.id_long;
  id_octets = e.id_octets;
  own = e.own;
  idle = λ same. e.idle (ap (λ (v : StoreValue _). v.disk) gone ∙ same);
  replies = e.replies;
  did_is = e.did_is;
  moments = e.moments;
  rests = λ runs. e.rests (ap (λ (v : StoreValue _). v.stopped) gone ∙ runs);
  stopped = record { 0 = λ k. sym (ap (λ (v : StoreValue _). v.stopped) gone) ∙ e.stopped.0 k; 1 = λ k. e.stopped.1 (ap (λ (v : StoreValue _). v.stopped) gone ∙ k) };
  faults = e.faults;
  grows = e.grows;
}
