-- Files whose every name carries over what a store reads there carry it over.
use Rattle.std.specs.Prelude.{◌≡◌, ℕ, List, [], ◌∷◌, All, refl}
use Rattle.std.proofs.lemmas.List.Elements.{All-nil, All-cons, All-head, All-tail}
use Rattle.disk_model.specs.Disk.{Files}
use Rattle.disk_model.specs.declared.name.FileName.{FileName}
use Rattle.disk_model.specs.declared.name.FileName.TheVariants as file
use Rattle.mdbox_base.specs.declared.entries.InstRow.{InstRow}
use Rattle.model_meaning.specs.MapMeaning.{MapRecord, MapBox, MapMeaning}
use Rattle.model_store.specs.Settled.{IsSameRegion, HasSameRegion, HasSameInstance}
use Rattle.model_store.specs.Carrying.{HasSameEntries, CarryOver, CarriesOver}

-- what holds of an element by its own place in the list holds of each
all_by : {X : Type 0} → (P : X → Type 0) (Q : X → X → Type 0) → ((x : X) → Q x x → P x) → (xs : List X) → ((x : X) → All (Q x) xs) → All P xs
all_by P Q h [] a = All-nil P
all_by P Q h (x ∷ xs) a = All-cons P x xs (h x (All-head (Q x) x xs (a x))) (all_by P Q h xs (λ y. All-tail (Q y) x xs (a y)))

pub each_name : (generation : ℕ) (m : MapMeaning) (a b : Files) → ((name : FileName) → CarriesOver generation m a name (b name)) → CarryOver generation m a b
each_name g m a b h = record {
  root = h file.Root;
  map = h (file.Map g) refl;
  boxes = all_by (λ (box : MapBox). HasSameEntries (a (file.Box box.number box.generation)) (b (file.Box box.number box.generation)))
      (λ (at box : MapBox). box.number ≡ at.number → box.generation ≡ at.generation → HasSameEntries (a (file.Box at.number at.generation)) (b (file.Box at.number at.generation)))
      (λ box f. f refl refl) m.boxes (λ box. h (file.Box box.number box.generation));
  regions = all_by (HasSameRegion a b)
      (λ (at row : MapRecord). row.file ≡ at.file → IsSameRegion (a (file.Mail at.file)) (b (file.Mail at.file)) row)
      (λ row f. f refl) m.records (λ row. h (file.Mail row.file));
  instances = instances m.records (λ inst. h (file.Inst inst.hash.0 inst.id.0));
}
  where
    instances : (rows : List MapRecord) → ((at : InstRow) → All (λ row. All (λ inst. inst.hash.0 ≡ at.hash.0 → inst.id.0 ≡ at.id.0 → b (file.Inst at.hash.0 at.id.0) ≡ a (file.Inst at.hash.0 at.id.0)) row.instances) rows) → All (λ row. All (HasSameInstance a b) row.instances) rows
    instances [] f = All-nil (λ (row : MapRecord). All (HasSameInstance a b) row.instances)
    instances (row ∷ rows) f = All-cons (λ (r : MapRecord). All (HasSameInstance a b) r.instances) row rows
        (all_by (HasSameInstance a b) (λ (at inst : InstRow). inst.hash.0 ≡ at.hash.0 → inst.id.0 ≡ at.id.0 → b (file.Inst at.hash.0 at.id.0) ≡ a (file.Inst at.hash.0 at.id.0))
        (λ inst g. g refl refl) row.instances (λ at. All-head (λ (r : MapRecord). All (λ (inst : InstRow). inst.hash.0 ≡ at.hash.0 → inst.id.0 ≡ at.id.0 → b (file.Inst at.hash.0 at.id.0) ≡ a (file.Inst at.hash.0 at.id.0)) r.instances) row rows (f at)))
        (instances rows (λ at. All-tail (λ (r : MapRecord). All (λ (inst : InstRow). inst.hash.0 ≡ at.hash.0 → inst.id.0 ≡ at.id.0 → b (file.Inst at.hash.0 at.id.0) ≡ a (file.Inst at.hash.0 at.id.0)) r.instances) row rows (f at)))
