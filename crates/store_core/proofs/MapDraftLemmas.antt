-- A store that makes or extends a draft of the map log, by what the calls have at hand.
use Rattle.store_core.proofs.Common.{◌≡◌, ◌≢◌, ◌<◌, ◌+◌, ℕ, List, [], ◌++◌, map, Option, sym, ◌∙◌, ap, subst, arith, map-append, History, MapEntry, map_text, MapInRange, LogState, Holds, MapMeaning, map_meaning, map_applied, head_of, IsStore, StoreValue}
use Rattle.std.proofs.Common.{fold, Result, Ok, OnOk}
use Rattle.std.specs.List.{AllByRecursion}
use Rattle.disk_model.specs.declared.name.FileName.TheVariants as file
use Rattle.gate_log.specs.Log.{Drafts}
use Rattle.gate_log.proofs.DraftLemmas.{held_draft}
use Rattle.mdbox_base.specs.Words.{IsNumber}
use Rattle.model_logs.specs.declared.log_head.LogKind.TheVariants as kind
use Rattle.model_rewritten.specs.Unneeded.{IsUnneeded}
use Rattle.model_rewritten.proofs.OutOfForceLemmas.{unneeded_map}
use Rattle.store_core.specs.MapDrafts.{AllMapFitBehind, IsHeldMapDraft, IsMapDraft, MapDraftValue}
use Rattle.store_core.proofs.DraftLemmas.{drafts_nothing, map_extended}

-- the store needs no log of another generation
pub free_map : {D : Type 0} → (h : Option History) (v : StoreValue D) (g : ℕ) → (s : IsStore h v) → v.map_log.name ≢ file.Map g → IsUnneeded s.generation v.map (file.Map g)
free_map h v g s other = unneeded_map s.generation g v.map (λ e. other (s.map_name ∙ ap (λ (n : ℕ). file.Map n) (sym e)))

-- the next generation is another
pub next_map : (name : _) (g next : ℕ) → name ≡ file.Map g → next ≡ g + 1 → name ≢ file.Map next
next_map name g next is more e = let w : file.Map g ≡ file.Map next = sym is ∙ e in let same : g ≡ next = cc w in absurd (omega (arith, more, same))

pub next_number : (g next : ℕ) → g < 4294967294 → next ≡ g + 1 → IsNumber next
next_number g next less more = record { low = omega (arith, more); high = omega (arith, less, more) }

-- a draft that was just made
pub new_map_draft : {D : Type 0} → (h : Option History) (w : StoreValue D) (draft : MapDraftValue) (log : LogState) (id : List ℕ) (room : ℕ) → IsNumber draft.generation → w.map_log.name ≢ file.Map draft.generation → id ≡ w.map.store
    → log ≡ record { name = file.Map draft.generation; head = head_of id kind.Map 0 draft.generation; end = 25; count = 0; room = 0 } → draft.log ≡ record log { room = room } → draft.map.meaning ≡ map_meaning id [] → Holds log [] h → IsMapDraft h draft w
new_map_draft h w draft log id room number other same logged roomy empty held = record {
  entries = [];
  good = (tt, tt);
  means = empty ∙ ap (λ (i : List ℕ). map_meaning i []) same;
  name = ap (λ (l : LogState). l.name) roomy ∙ ap (λ (l : LogState). l.name) logged;
  head = ap (λ (l : LogState). l.head) roomy ∙ ap (λ (l : LogState). l.head) logged ∙ ap (λ (i : List ℕ). head_of i kind.Map 0 draft.generation) same;
  reads = drafts_nothing log draft.log room h roomy held;
  is_generation = number;
  other = other;
}

-- one with entries more
pub map_draft_extended : {D : Type 0} → (old new : Option History) (v w : StoreValue D) (draft later : MapDraftValue) (entries : List MapEntry) → IsMapDraft old draft v → AllByRecursion MapInRange entries → AllMapFitBehind draft.map.meaning entries → w.map ≡ v.map → w.map_log ≡ v.map_log
    → later.generation ≡ draft.generation → later.log.name ≡ draft.log.name → later.log.head ≡ draft.log.head → later.map.meaning ≡ fold (λ m e. map_applied e m) draft.map.meaning entries → ((texts : List (List ℕ)) → Drafts draft.log texts old → Drafts later.log (texts ++ map map_text entries) new)
    → IsMapDraft new later w
map_draft_extended old new v w draft later entries d in_range fit map_same log_same generation name head means drafted =
    let e = map_extended v.map.store d.entries entries d.good in_range (subst (λ (m : MapMeaning). AllMapFitBehind m entries) d.means fit) in
    subst (λ (g : ℕ). IsMapDraft new (record later { generation = g }) w) (sym generation)
    (subst (λ (m : MapMeaning). IsMapDraft new (record later { generation = draft.generation }) (record w { map = m })) (sym map_same) (record {
      entries = d.entries ++ entries;
      good = e.good;
      means = means ∙ ap (λ (m : MapMeaning). fold (λ x y. map_applied y x) m entries) d.means ∙ e.means;
      name = name ∙ d.name;
      head = head ∙ d.head;
      reads = subst (λ (texts : List (List ℕ)). Drafts later.log texts new) (sym (map-append map_text d.entries entries)) (drafted (map map_text d.entries) d.reads);
      is_generation = d.is_generation;
      other = subst (λ (l : LogState). l.name ≢ file.Map draft.generation) (sym log_same) d.other;
    }))

pub map_draft_seen : {D : Type 0} → (H : D → Option History) (v now : StoreValue D) (draft seen : MapDraftValue) → v ≡ now → draft ≡ seen → IsMapDraft (H now.disk) seen now → IsMapDraft (H v.disk) draft v
map_draft_seen H v now draft seen is same d = subst (λ (x : StoreValue _). IsMapDraft (H x.disk) draft x) (sym is) (subst (λ (x : MapDraftValue). IsMapDraft (H now.disk) x now) (sym same) d)

pub map_draft_ok : {D T E : Type 0} → (H : D → Option History) (s w : StoreValue D) (draft : MapDraftValue) (r : Result T E) (x : T) → r ≡ Ok x → s ≡ w → IsMapDraft (H w.disk) draft w → OnOk r (IsMapDraft (H s.disk) draft s)
map_draft_ok H s w draft r x is same d =
    subst (λ (y : Result _ _). OnOk y (IsMapDraft (H s.disk) draft s)) (sym is) (subst (λ (y : StoreValue _). IsMapDraft (H y.disk) draft y) (sym same) d)

-- a draft that was synced
pub map_draft_settled : {D : Type 0} → (old new : Option History) (v w : StoreValue D) (draft : MapDraftValue) → (d : IsMapDraft old draft v) → w.map ≡ v.map → w.map_log ≡ v.map_log → ((texts : List (List ℕ)) → Drafts draft.log texts old → Holds draft.log texts new) → IsHeldMapDraft new draft w
map_draft_settled old new v w draft d map_same log_same hold =
    let held : Holds draft.log (map map_text d.entries) new = hold (map map_text d.entries) d.reads in
    subst (λ (m : MapMeaning). IsHeldMapDraft new draft (record w { map = m })) (sym map_same) (record {
      drafted = record {
        entries = d.entries;
        good = d.good;
        means = d.means;
        name = d.name;
        head = d.head;
        reads = held_draft draft.log (map map_text d.entries) new held;
        is_generation = d.is_generation;
        other = subst (λ (l : LogState). l.name ≢ file.Map draft.generation) (sym log_same) d.other;
      };
      held = held;
    })

pub map_held_seen : {D : Type 0} → (h : Option History) (w : StoreValue D) (draft seen : MapDraftValue) → draft ≡ seen → IsHeldMapDraft h draft w → IsHeldMapDraft h seen w
map_held_seen h w draft seen is d = subst (λ (x : MapDraftValue). IsHeldMapDraft h x w) is d
