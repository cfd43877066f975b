-- A store that makes or extends a draft of a mailbox log, by what the calls have at hand.
use Rattle.store_core.proofs.Common.{◌≡◌, ◌≢◌, ◌<◌, ◌≤◌, ℕ, false, List, [], ◌++◌, map, Option, All, sym, ◌∙◌, ap, subst, arith, All-nil, All-weaker, map-append, History, SameButFor, Highest, BoxEntry, box_text, BoxInRange, BoxMeaning, box_applied, box_meaning, row_made}
use Rattle.store_core.proofs.Common.{HasItsRecord, LogState, Holds, MapBox, MapMeaning, head_of, OthersAreNamed, KeepsMadeLogs, has_made_log, StoreValue, OpenBox}
use Rattle.std.proofs.Common.{fold, Result, Ok, Err, OnOk}
use Rattle.std.specs.List.{AllByRecursion}
use Rattle.disk_model.specs.declared.name.FileName.TheVariants as file
use Rattle.gate_log.specs.Log.{Drafts}
use Rattle.gate_log.proofs.DraftLemmas.{held_draft}
use Rattle.model_logs.specs.declared.log_head.LogKind.TheVariants as kind
use Rattle.store_core.specs.Drafts.{AllFitBehind, BoxDraftValue, IsBoxDraft, IsHeldDraft, IsNewer, IsOutOfForce}
use Rattle.store_core.proofs.DraftLemmas.{drafts_nothing, extended}
use Rattle.store_core.proofs.MadeLogLemmas.{apart_from_made, held_beside, held_named, made_kept, no_less, none_has}

-- ---- a generation that the store doesn't need

pub free_newer : {D : Type 0} → (v : StoreValue D) (n g : ℕ) → IsNewer n g v → IsOutOfForce n g v.map
free_newer v n g w =
    All-weaker (λ (box : MapBox). box.number ≡ n → box.generation < g) (λ (box : MapBox). box.number ≡ n → box.generation ≢ g)
    (λ box later is same. let less : box.generation < g = later is in absurd (omega (arith, less, same))) v.map.boxes w.later

pub newer_as : {D : Type 0} → (v w : StoreValue D) (n g : ℕ) → w.map ≡ v.map → w.drawn ≡ v.drawn → w.made ≡ v.made → IsNewer n g v → IsNewer n g w
newer_as v w n g map drawn made h = record {
  is_number = h.is_number;
  was_drawn = subst (λ (d : Highest). n ≤ d.mailbox) (sym drawn) h.was_drawn;
  is_generation = h.is_generation;
  later = subst (λ (m : MapMeaning). All (λ (box : MapBox). box.number ≡ n → box.generation < g) m.boxes) (sym map) h.later;
  unmade = subst (λ (bs : List OpenBox). has_made_log n (record w { made = bs }) ≡ false) (sym made) h.unmade;
}

-- ---- the logs that were made

pub made_draft_named : {D : Type 0} → (old new : Option History) (v w : StoreValue D) (n g : ℕ) → v.stopped ≡ false → w.made ≡ v.made → w.map ≡ v.map → w.drawn ≡ v.drawn → has_made_log n v ≡ false → OthersAreNamed (file.Box n g) old new → KeepsMadeLogs old v → KeepsMadeLogs new w
made_draft_named old new v w n g runs made same drawn none others k =
    made_kept old new v w made (ap (λ (m : MapMeaning). m.boxes) same) (ap (λ (m : MapMeaning). m.store) same) (no_less v w (ap (λ (d : Highest). d.mailbox) drawn))
    (λ _. held_named (file.Box n g) old new v.made others (apart_from_made v.map v.drawn n g v.made (none_has n v.made none) k.are_made) (k.held runs)) k

pub made_draft_same : {D : Type 0} → (old new : Option History) (v w : StoreValue D) (n g : ℕ) → v.stopped ≡ false → w.made ≡ v.made → w.map ≡ v.map → w.drawn ≡ v.drawn → has_made_log n v ≡ false → SameButFor (file.Box n g) old new → KeepsMadeLogs old v → KeepsMadeLogs new w
made_draft_same old new v w n g runs made same drawn none others k =
    made_kept old new v w made (ap (λ (m : MapMeaning). m.boxes) same) (ap (λ (m : MapMeaning). m.store) same) (no_less v w (ap (λ (d : Highest). d.mailbox) drawn))
    (λ _. held_beside (file.Box n g) old new v.made others (apart_from_made v.map v.drawn n g v.made (none_has n v.made none) k.are_made) (k.held runs)) k

-- ---- a draft

-- one that was just made
pub new_draft : {D : Type 0} → (h : Option History) (w : StoreValue D) (draft : BoxDraftValue) (log : LogState) (id : List ℕ) (room : ℕ) → IsNewer draft.number.0 draft.generation w → id ≡ w.map.store
    → log ≡ record { name = file.Box draft.number.0 draft.generation; head = head_of id kind.Box draft.number.0 draft.generation; end = 25; count = 0; room = 0 } → draft.log ≡ record log { room = room } → draft.index.meaning ≡ box_meaning [] → Holds log [] h → IsBoxDraft h draft w
new_draft h w draft log id room newer same logged roomy empty held = record {
  entries = [];
  good = (tt, tt);
  means = empty;
  name = ap (λ (l : LogState). l.name) roomy ∙ ap (λ (l : LogState). l.name) logged;
  head = ap (λ (l : LogState). l.head) roomy ∙ ap (λ (l : LogState). l.head) logged ∙ ap (λ (i : List ℕ). head_of i kind.Box draft.number.0 draft.generation) same;
  reads = drafts_nothing log draft.log room h roomy held;
  records = subst (λ (m : BoxMeaning). All (HasItsRecord w.map) m.rows) (sym empty) (All-nil (HasItsRecord w.map));
  newer = newer;
}

-- one with entries more
pub draft_extended : {D : Type 0} → (old new : Option History) (v w : StoreValue D) (draft later : BoxDraftValue) (entries : List BoxEntry) → IsBoxDraft old draft v → AllByRecursion BoxInRange entries → AllFitBehind draft.index.meaning entries
    → All (λ e. All (HasItsRecord v.map) (row_made e)) entries → w.map ≡ v.map → w.drawn ≡ v.drawn → w.made ≡ v.made → later.number ≡ draft.number → later.generation ≡ draft.generation → later.log.name ≡ draft.log.name → later.log.head ≡ draft.log.head
    → later.index.meaning ≡ fold (λ m e. box_applied e m) draft.index.meaning entries → ((texts : List (List ℕ)) → Drafts draft.log texts old → Drafts later.log (texts ++ map box_text entries) new) → IsBoxDraft new later w
draft_extended old new v w draft later entries d in_range fit made map_same drawn made_same number generation name head means drafted =
    let e = extended v.map d.entries entries d.good in_range (subst (λ (m : BoxMeaning). AllFitBehind m entries) d.means fit) (subst (λ (m : BoxMeaning). All (HasItsRecord v.map) m.rows) d.means d.records) made in
    let means_now : later.index.meaning ≡ box_meaning (d.entries ++ entries) = means ∙ ap (λ (m : BoxMeaning). fold (λ x y. box_applied y x) m entries) d.means ∙ e.means in
    record {
      entries = d.entries ++ entries;
      good = e.good;
      means = means_now;
      name = name ∙ d.name ∙ ap (λ (k : _). file.Box k.0 draft.generation) (sym number) ∙ ap (λ (g : ℕ). file.Box later.number.0 g) (sym generation);
      head = head ∙ d.head ∙ ap (λ (k : _). head_of v.map.store kind.Box k.0 draft.generation) (sym number) ∙ ap (λ (g : ℕ). head_of v.map.store kind.Box later.number.0 g) (sym generation)
          ∙ ap (λ (m : MapMeaning). head_of m.store kind.Box later.number.0 later.generation) (sym map_same);
      reads = subst (λ (texts : List (List ℕ)). Drafts later.log texts new) (sym (map-append box_text d.entries entries)) (drafted (map box_text d.entries) d.reads);
      records = subst (λ (m : MapMeaning). All (HasItsRecord m) later.index.meaning.rows) (sym map_same) (subst (λ (m : BoxMeaning). All (HasItsRecord v.map) m.rows) (sym means_now) e.records);
      newer = subst (λ (g : ℕ). IsNewer later.number.0 g w) (sym generation) (subst (λ (k : _). IsNewer k.0 draft.generation w) (sym number) (newer_as v w draft.number.0 draft.generation map_same drawn made_same d.newer));
    }

-- the same draft of the store as its value is seen
pub draft_seen : {D : Type 0} → (H : D → Option History) (v now : StoreValue D) (draft seen : BoxDraftValue) → v ≡ now → draft ≡ seen → IsBoxDraft (H now.disk) seen now → IsBoxDraft (H v.disk) draft v
draft_seen H v now draft seen is same d = subst (λ (x : StoreValue _). IsBoxDraft (H x.disk) draft x) (sym is) (subst (λ (x : BoxDraftValue). IsBoxDraft (H now.disk) x now) (sym same) d)

-- a draft that was synced
pub draft_settled : {D : Type 0} → (old new : Option History) (v w : StoreValue D) (draft : BoxDraftValue) → (d : IsBoxDraft old draft v) → w.map ≡ v.map → w.drawn ≡ v.drawn → w.made ≡ v.made → ((texts : List (List ℕ)) → Drafts draft.log texts old → Holds draft.log texts new) → IsHeldDraft new draft w
draft_settled old new v w draft d map_same drawn made_same hold =
    let held : Holds draft.log (map box_text d.entries) new = hold (map box_text d.entries) d.reads in
    record {
      drafted = record {
        entries = d.entries;
        good = d.good;
        means = d.means;
        name = d.name;
        head = d.head ∙ ap (λ (m : MapMeaning). head_of m.store kind.Box draft.number.0 draft.generation) (sym map_same);
        reads = held_draft draft.log (map box_text d.entries) new held;
        records = subst (λ (m : MapMeaning). All (HasItsRecord m) draft.index.meaning.rows) (sym map_same) d.records;
        newer = newer_as v w draft.number.0 draft.generation map_same drawn made_same d.newer;
      };
      held = held;
    }

pub held_seen : {D : Type 0} → (h : Option History) (w : StoreValue D) (draft seen : BoxDraftValue) → draft ≡ seen → IsHeldDraft h draft w → IsHeldDraft h seen w
held_seen h w draft seen is d = subst (λ (x : BoxDraftValue). IsHeldDraft h x w) is d

-- ---- by what the call answers

pub none_ok : {T E : Type 0} → (r : Result T E) (e : E) (P : Type 0) → r ≡ Err e → OnOk r P
none_ok r e P is = subst (λ (x : Result _ _). OnOk x P) (sym is) tt

pub draft_ok : {D T E : Type 0} → (H : D → Option History) (s w : StoreValue D) (draft : BoxDraftValue) (r : Result T E) (x : T) → r ≡ Ok x → s ≡ w → IsBoxDraft (H w.disk) draft w → OnOk r (IsBoxDraft (H s.disk) draft s)
draft_ok H s w draft r x is same d =
    subst (λ (y : Result _ _). OnOk y (IsBoxDraft (H s.disk) draft s)) (sym is) (subst (λ (y : StoreValue _). IsBoxDraft (H y.disk) draft y) (sym same) d)
