-- Storage files and instances have what a map needed at the start, as long as no entry moves or drops its records.
use Rattle.std.specs.Prelude.{◌≡◌, ◌==◌, ◌+◌, ◌-◌, ◌||◌, ◌⊎◌, Bool, true, false, List, [], ◌∷◌, ◌++◌, All, Contains, ℕ, Option, Some, None, flat_map, if◌then◌else◌, cond, map, filter, not}
use Rattle.std.specs.List.{list_any}
use Rattle.std.proofs.Common.{refl, sym, ◌∙◌, ap, subst, append-nil, append_assoc, arith, inl}
use Rattle.std.proofs.lemmas.List.Elements.{All-nil, All-cons, All-head, All-tail, All-weaker, All-contains_itself, All-contains, Contains-append_left, Contains-append_right}
use Rattle.std.proofs.lemmas.List.Folds.{list_any-append}
use Rattle.disk_model.specs.Disk.{History, IfTold}
use Rattle.disk_model.proofs.MomentLemmas.{each_image-begins}
use Rattle.mdbox_base.specs.declared.entries.MapEntry.{MapEntry}
use Rattle.mdbox_base.specs.declared.entries.MapEntry.TheVariants as map_entry
use Rattle.model_kept.specs.Kept.{IsPlacedIn, MailIsKept, MailStays, NeedsAllOf}
use Rattle.model_kept.proofs.KeptLemmas.{ReadsImage, kept_for_less, kept_then, left_stays}
use Rattle.model_lists.specs.Lists.{Lists}
use Rattle.model_meaning.specs.MapMeaning.{MapMeaning, MapRecord, has_map_uid, map_applied, map_meaning, record_changed, record_dropped, record_made, seals}
use Rattle.model_meaning.proofs.MapLemmas.{map_more}
use Rattle.model_meaning.proofs.SealedLemmas.{sealed_is}
use Rattle.model_store.specs.Safe.{Safe}
use Rattle.model_store.specs.Settled.{IsSettledFor, Leaves}
use Rattle.model_store.proofs.SettledLemmas.{settled_safe}
use Rattle.list_machine.specs.Run.{Run, RunEvent, before, map_of}
use Rattle.task_steps.specs.Serves.{NoneMoved, moves_records}
use Rattle.task_steps.specs.Step.{Leads, Seen}

-- ---- one entry

-- an entry that moves no record leaves each its place and its instances, and drops none
abbrev HasPlaceOf : MapRecord → MapRecord → Type 0
HasPlaceOf row now = (now.file ≡ row.file) × (now.offset ≡ row.offset) × (now.size ≡ row.size) × (now.instances ≡ row.instances)

either : (b : Bool) (row now : MapRecord) → HasPlaceOf row now → HasPlaceOf row (if b then now else row)
either true row now h = h
either false row now h = (refl, refl, refl, refl)

place_stays : (entry : MapEntry) (row : MapRecord) → moves_records entry ≡ false → HasPlaceOf row (record_changed entry row)
place_stays (map_entry.H h) row e = (refl, refl, refl, refl)
place_stays (map_entry.B m g n) row e = (refl, refl, refl, refl)
place_stays (map_entry.G m g) row e = (refl, refl, refl, refl)
place_stays (map_entry.S o c u f a z g is) row e = (refl, refl, refl, refl)
place_stays (map_entry.U u) row e = either (u.0 == row.uid) row (record row { count = row.count + 1 }) (refl, refl, refl, refl)
place_stays (map_entry.D us) row e = either (has_map_uid row.uid us) row (record row { count = row.count - 1 }) (refl, refl, refl, refl)
place_stays (map_entry.T cs) row e = (refl, refl, refl, refl)
place_stays (map_entry.P f t ms us) row e = absurd (let k : true ≡ false = e in cc k)
place_stays (map_entry.E f) row e = (refl, refl, refl, refl)
place_stays (map_entry.X m cs) row e = (refl, refl, refl, refl)
place_stays (map_entry.V m n) row e = (refl, refl, refl, refl)

none_dropped : (entry : MapEntry) (row : MapRecord) → moves_records entry ≡ false → not (record_dropped entry row) ≡ true
none_dropped (map_entry.H h) row e = refl
none_dropped (map_entry.B m g n) row e = refl
none_dropped (map_entry.G m g) row e = refl
none_dropped (map_entry.S o c u f a z g is) row e = refl
none_dropped (map_entry.U u) row e = refl
none_dropped (map_entry.D us) row e = refl
none_dropped (map_entry.T cs) row e = refl
none_dropped (map_entry.P f t ms us) row e = absurd (let k : true ≡ false = e in cc k)
none_dropped (map_entry.E f) row e = refl
none_dropped (map_entry.X m cs) row e = refl
none_dropped (map_entry.V m n) row e = refl

all_pass : (p : MapRecord → Bool) (rows : List MapRecord) → ((row : MapRecord) → p row ≡ true) → filter p rows ≡ rows
all_pass p [] h = refl
all_pass p (row ∷ rows) h = ap (λ (b : Bool). cond b (row ∷ filter p rows) (filter p rows)) (h row) ∙ ap (λ (rs : List MapRecord). row ∷ rs) (all_pass p rows h)

each_changed : (f : MapRecord → MapRecord) (rows : List MapRecord) → All (λ row. Contains (map f rows) (f row)) rows
each_changed f [] = All-nil _
each_changed f (row ∷ rows) =
    All-cons (λ x. Contains (map f (row ∷ rows)) (f x)) row rows (0, omega arith, refl)
    (All-weaker (λ x. Contains (map f rows) (f x)) (λ x. Contains (map f (row ∷ rows)) (f x)) (λ x c. Contains-append_right (f row ∷ []) (map f rows) (f x) c) rows (each_changed f rows))

needs_one : (store : List ℕ) (entries : List MapEntry) (entry : MapEntry) → moves_records entry ≡ false → NeedsAllOf (map_meaning store (entries ++ entry ∷ [])) (map_meaning store entries)
needs_one store entries entry stays = record {
  sealed = λ number is. sealed_is store (entries ++ entry ∷ []) number ∙ (list_any-append (seals number) entries (entry ∷ []) ∙ ap (λ (b : Bool). b || list_any (seals number) (entry ∷ [])) (sym (sealed_is store entries number) ∙ is));
  records = subst (λ (n : MapMeaning). All (IsPlacedIn n) m.records) (sym (map_more store entries entry))
      (All-weaker (λ row. Contains (map (record_changed entry) m.records) (record_changed entry row)) (IsPlacedIn (map_applied entry m)) placed m.records (each_changed (record_changed entry) m.records));
}
  where
    m : MapMeaning
    m = map_meaning store entries

    whole : filter (λ row. not (record_dropped entry row)) m.records ≡ m.records
    whole = all_pass (λ row. not (record_dropped entry row)) m.records (λ row. none_dropped entry row stays)

    placed : (row : MapRecord) → Contains (map (record_changed entry) m.records) (record_changed entry row) → IsPlacedIn (map_applied entry m) row
    placed row c =
        let p = place_stays entry row stays in
        record {
          now = record_changed entry row;
          there = Contains-append_left (map (record_changed entry) (filter (λ r. not (record_dropped entry r)) m.records)) (record_made entry) (record_changed entry row)
              (subst (λ (rs : List MapRecord). Contains (map (record_changed entry) rs) (record_changed entry row)) (sym whole) c);
          file = p.0;
          offset = p.1;
          size = p.2;
          instances = p.3;
        }

-- ---- more entries

needs_itself : (m : MapMeaning) → NeedsAllOf m m
needs_itself m = record {
  sealed = λ number is. is;
  records = All-weaker (Contains m.records) (IsPlacedIn m) (λ row own. record { now = row; there = own; file = refl; offset = refl; size = refl; instances = refl }) m.records (All-contains_itself m.records);
}

needs_then : (a b c : MapMeaning) → NeedsAllOf c b → NeedsAllOf b a → NeedsAllOf c a
needs_then a b c h k = record {
  sealed = λ number is. h.sealed number (k.sealed number is);
  records = All-weaker (IsPlacedIn b) (IsPlacedIn c) (λ row p.
      let q = All-contains (IsPlacedIn c) b.records p.now h.records p.there in
      record { now = q.now; there = q.there; file = q.file ∙ p.file; offset = q.offset ∙ p.offset; size = q.size ∙ p.size; instances = q.instances ∙ p.instances }) a.records k.records;
}

any_first : (b rest : Bool) → (b || rest) ≡ false → (b ≡ false) × (rest ≡ false)
any_first true rest e = absurd (let k : true ≡ false = e in cc k)
any_first false rest e = (refl, e)

needs_more : (store : List ℕ) (entries more : List MapEntry) → list_any moves_records more ≡ false → NeedsAllOf (map_meaning store (entries ++ more)) (map_meaning store entries)
needs_more store entries [] none = subst (λ (es : List MapEntry). NeedsAllOf (map_meaning store es) (map_meaning store entries)) (sym (append-nil entries)) (needs_itself (map_meaning store entries))
needs_more store entries (entry ∷ more) none =
    let k = any_first (moves_records entry) (list_any moves_records more) none in
    subst (λ (es : List MapEntry). NeedsAllOf (map_meaning store es) (map_meaning store entries)) (append_assoc entries (entry ∷ []) more)
    (needs_then (map_meaning store entries) (map_meaning store (entries ++ entry ∷ [])) (map_meaning store ((entries ++ entry ∷ []) ++ more)) (needs_more store (entries ++ entry ∷ []) more k.1) (needs_one store entries entry k.0))

none_in_all : (events : List RunEvent) → NoneMoved events → list_any moves_records (flat_map (λ e. e.map_entries) events) ≡ false
none_in_all [] none = refl
none_in_all (event ∷ events) none =
    list_any-append moves_records event.map_entries (flat_map (λ e. e.map_entries) events)
    ∙ (ap (λ (b : Bool). b || list_any moves_records (flat_map (λ (e : RunEvent). e.map_entries) events)) (All-head (λ (e : RunEvent). list_any moves_records e.map_entries ≡ false) event events none)
    ∙ none_in_all events (All-tail (λ (e : RunEvent). list_any moves_records e.map_entries ≡ false) event events none))

-- the map of a run whose events moved none needs all that it needed at the start
run_needs : (run : Run) → NoneMoved run.events → NeedsAllOf (map_of run) (map_of (before 0 run))
run_needs run none =
    subst (λ (es : List MapEntry). NeedsAllOf (map_of run) (map_meaning run.store es)) (sym (append-nil run.start))
    (needs_more run.store run.start (flat_map (λ e. e.map_entries) run.events) (none_in_all run.events none))

-- ---- a run

-- nothing has happened
pub mail_still : (m : MapMeaning) (history : Option History) → MailIsKept m history history
mail_still m None = refl
mail_still m (Some old) = each_image-begins (λ _ image. MailStays m (Some old) image) (Some old) (λ moment image is name. left_stays m name (old.now name) (image name) (is name))

-- each image is safe for the lists of a settled disk
pub leaves_none : (old : Option History) (later : Lists) (lists : Lists) → IsSettledFor lists old → Leaves lists later old old
leaves_none None later lists settled = absurd settled
leaves_none (Some old) later lists settled = each_image-begins (λ _ image. Safe image lists ⊎ Safe image later) (Some old) (λ moment image is. inl (settled_safe old.now lists image settled is))

pub nothing : (lists : Lists) (seen : Seen) → Leads lists lists seen seen
nothing lists seen = record { stops = λ s. leaves_none seen.history lists lists s.0; settled = λ s. s.0 }

none_in_front : (events : List RunEvent) (event : RunEvent) → NoneMoved (events ++ event ∷ []) → NoneMoved events
none_in_front [] event h = All-nil _
none_in_front (x ∷ xs) event h = All-cons (λ (e : RunEvent). list_any moves_records e.map_entries ≡ false) x xs (All-head (λ (e : RunEvent). list_any moves_records e.map_entries ≡ false) x (xs ++ event ∷ []) h)
    (none_in_front xs event (All-tail (λ (e : RunEvent). list_any moves_records e.map_entries ≡ false) x (xs ++ event ∷ []) h))

-- What was kept since the start is kept with one event more, which keeps what the map needs as it begins.
pub mail_on : (run : Run) (m n : MapMeaning) (began now new : Option History) → map_of (before 0 run) ≡ m → map_of run ≡ n → IfTold now ReadsImage → (NoneMoved run.events → MailIsKept m began now) → MailIsKept n now new → (event : RunEvent) → NoneMoved (run.events ++ event ∷ []) → MailIsKept m began new
mail_on run m n began now new first is reads kept next event moved =
    let none = none_in_front run.events event moved in
    kept_then m began now new reads (kept none)
    (kept_for_less n m now new (subst (λ (x : MapMeaning). NeedsAllOf x m) is (subst (λ (x : MapMeaning). NeedsAllOf (map_of run) x) first (run_needs run none))) next)
