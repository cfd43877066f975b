-- The first entry that adds a listed message without a record of its GUID.
use Rattle.std.proofs.Common.{◌≡◌, ◌<◌, ◌≤◌, ◌+◌, ◌==◌, ℕ, suc, zero, List, [], ◌∷◌, ◌++◌, length, map, take, drop, slice_get, Some, None, All, find, inl, inr, refl, sym, ◌∙◌, ap, subst, arith, eqb-true}
use Rattle.std.specs.Prelude.{Contains}
use Rattle.std.specs.Option.{option_map}
use Rattle.std.proofs.lemmas.Bool.{cases_lt}
use Rattle.std.proofs.lemmas.List.{take-map, take_at}
use Rattle.std.proofs.lemmas.Option.{slice_get-map}
use Rattle.std.proofs.lemmas.List.Elements.{All-from_recursion, All-contains_itself}
use Rattle.mdbox_base.specs.declared.entries.BoxEntry.{BoxEntry}
use Rattle.mdbox_base.specs.declared.entries.BoxEntry.TheVariants as box
use Rattle.model_logs.specs.LogFile.{end_from, log_end}
use Rattle.model_meaning.specs.BoxMeaning.{LogRow, BoxMeaning, box_meaning, row_at, rows_after}
use Rattle.model_meaning.proofs.BoxSoundLemmas.{box_sound}
use Rattle.model_meaning.specs.MapMeaning.{MapMeaning}
use Rattle.model_logs.specs.Entries.{box_text, BoxInRange}
use Rattle.model_logs.proofs.EntryLemmas.{box_one}
use Rattle.model_octets.proofs.PairLemmas.{found_holds}
use Rattle.model_store.specs.Opening.{AreBoxEntries, HasItsRecord, IsDangling}
use Rattle.store_checks.specs.Replays.{IsBoxReplay}
use Rattle.std.specs.Borrow.{Bor}
use Rattle.std.proofs.Math.Seq.{take-append_seam}
use Rattle.std.proofs.lemmas.List.Elements.{All-push}
use Rattle.gate_log.specs.Text.{IsLogText}
use Rattle.gate_log.specs.declared.text.LogText.{LogText}
use Rattle.store_checks.proofs.TextWalkLemmas.{Walk, Step, Next, walk-more, walk-next, walk-end, same_texts}
use Rattle.store_checks.specs.Dangling.{added_uid, AddsDangling, AddsNoDangling, IsFirstDangling}
use Rattle.store_checks.proofs.AddedRowLemmas.{Added, added, HasAdded, rows_added}
use Rattle.store_checks.proofs.WalkLemmas.{split_at, behind, at_place, before_place, place_in, find_self}

-- the entry whose text stands at a place
pub entry_at : {E : Type 0} → (text : E → List ℕ) (entries : List E) (texts : List (List ℕ)) (k : ℕ) (one : List ℕ) → texts ≡ map text entries → slice_get texts k ≡ Some one → (entry : E) × (slice_get entries k ≡ Some entry) × (one ≡ text entry)
entry_at text entries texts k one is at =
    behind text (slice_get entries k) one (sym at ∙ ap (λ (ts : List (List ℕ)). slice_get ts k) is ∙ slice_get-map text entries k)

text_at : {E : Type 0} → (text : E → List ℕ) (entries : List E) (texts : List (List ℕ)) (k : ℕ) (entry : E) → texts ≡ map text entries → slice_get entries k ≡ Some entry → slice_get texts k ≡ Some (text entry)
text_at text entries texts k entry is at = ap (λ (ts : List (List ℕ)). slice_get ts k) is ∙ slice_get-map text entries k ∙ ap (option_map text) at

in_range : (entries : List BoxEntry) (k : ℕ) (entry : BoxEntry) → AreBoxEntries entries → slice_get entries k ≡ Some entry → BoxInRange entry
in_range entries k entry good at = at_place BoxInRange entries k entry at (All-from_recursion BoxInRange entries good.0)

front_is : (entries : List BoxEntry) (texts : List (List ℕ)) (k : ℕ) → texts ≡ map box_text entries → take k texts ≡ map box_text (take k entries)
front_is entries texts k is = ap (take k) is ∙ take-map box_text k entries

-- the record of an entry that adds such a message
dangling_at : (m : MapMeaning) (b : BoxMeaning) (texts : List (List ℕ)) (k place : ℕ) (text : List ℕ) (entries : List BoxEntry)
    → slice_get texts k ≡ Some text → AddsDangling m b text → place ≡ log_end (take k texts) + 1
    → texts ≡ map box_text entries → AreBoxEntries entries → b ≡ box_meaning entries → IsDangling m entries place
dangling_at m b texts k place text entries at adds is texts_are good means =
    let e = entry_at box_text entries texts k text texts_are at in
    let same : adds.entry ≡ e.0 = box_one 2 adds.entry e.0 adds.is.in_range (in_range entries k e.0 good e.1) (sym adds.is.text ∙ e.2) in
    let a : Added e.0 adds.uid = added e.0 adds.uid (subst (λ (x : BoxEntry). added_uid x ≡ Some adds.uid) same adds.added) in
    let held = found_holds (λ (r : LogRow). r.uid == adds.uid) b.rows adds.lacks.row (Contains b.rows) adds.lacks.found (All-contains_itself b.rows) in
    record {
      before = take k entries;
      uid = a.uid;
      flags = a.flags;
      time = a.time;
      size = a.size;
      map_uid = a.map_uid;
      guid = a.guid;
      words = a.words;
      behind = drop (k + 1) entries;
      split = split_at entries k e.0 e.1 ∙ ap (λ (x : BoxEntry). take k entries ++ x ∷ drop (k + 1) entries) a.is;
      row = adds.lacks.row;
      listed = subst (λ (z : BoxMeaning). Contains z.rows adds.lacks.row) means held.0;
      same = eqb-true adds.lacks.row.uid adds.uid held.1 ∙ sym a.same;
      bare = adds.lacks.none;
      is = is ∙ ap (λ (ts : List (List ℕ)). log_end ts + 1) (front_is entries texts k texts_are);
    }

-- a listed row is found by its UID
row_found : (entries : List BoxEntry) (row : LogRow) → AreBoxEntries entries → Contains (rows_after entries) row → row_at (box_meaning entries) row.uid ≡ Some row
row_found entries row good listed =
    let p = place_in (rows_after entries) row listed in
    at_place (λ (r : LogRow). find (λ (x : LogRow). x.uid == r.uid) (rows_after entries) ≡ Some r) (rows_after entries) p.0 row p.1 (find_self (λ (r : LogRow). r.uid) (rows_after entries) (box_sound entries good.1 good.0).rising)

-- where a split stands
split_place : {X : Type 0} → (before behind : List X) (x : X) → slice_get (before ++ x ∷ behind) (length before) ≡ Some x
split_place [] behind x = refl
split_place (y ∷ before) behind x = split_place before behind x

-- no such record stands before this place
none_before : (m : MapMeaning) (b : BoxMeaning) (texts : List (List ℕ)) (k other : ℕ) (entries : List BoxEntry) → All (AddsNoDangling m b) (take k texts)
    → texts ≡ map box_text entries → AreBoxEntries entries → b ≡ box_meaning entries → (bare : IsDangling m entries other) → length bare.before < k → ⊥
none_before m b texts k other entries none texts_are good means bare lt =
    let entry : BoxEntry = box.A bare.uid bare.flags bare.time bare.size bare.map_uid bare.guid bare.words in
    let at : slice_get entries (length bare.before) ≡ Some entry = ap (λ (es : List BoxEntry). slice_get es (length bare.before)) bare.split ∙ split_place bare.before bare.behind entry in
    let has = before_place (AddsNoDangling m b) texts k (length bare.before) (box_text entry) (text_at box_text entries texts (length bare.before) entry texts_are at) lt none in
    let found : row_at b bare.uid.0 ≡ Some bare.row =
    subst (λ (z : BoxMeaning). row_at z bare.uid.0 ≡ Some bare.row) (sym means) (subst (λ (n : ℕ). row_at (box_meaning entries) n ≡ Some bare.row) bare.same (row_found entries bare.row good bare.listed)) in
    bare.bare (has entry bare.uid.0 (record { text = refl; in_range = in_range entries (length bare.before) entry good at }) refl bare.row found)

ends_from : (gate : ℕ) (texts : List (List ℕ)) → gate ≤ end_from gate texts
ends_from gate [] = omega arith
ends_from gate (t ∷ ts) = let h = ends_from (gate + 5 + length t) ts in omega (arith, h)

no_texts : (n : ℕ) → take {A = List ℕ} n [] ≡ []
no_texts zero = refl
no_texts (suc n) = refl

ends_rise : (gate : ℕ) (texts : List (List ℕ)) (j k : ℕ) → k ≤ j → end_from gate (take k texts) ≤ end_from gate (take j texts)
ends_rise gate [] j k le = let e : end_from gate (take k []) ≡ gate = ap (end_from gate) (no_texts k) in let f = ends_from gate (take j []) in omega (arith, e, f)
ends_rise gate (t ∷ ts) j zero le = ends_from gate (take j (t ∷ ts))
ends_rise gate (t ∷ ts) zero (suc k) le = absurd (omega (arith, le))
ends_rise gate (t ∷ ts) (suc j) (suc k) le = ends_rise (gate + 5 + length t) ts j k (omega (arith, le))

seam : (done behind : List (List ℕ)) (text : List ℕ) → slice_get (done ++ text ∷ behind) (length done) ≡ Some text
seam [] behind text = refl
seam (d ∷ ds) behind text = seam ds behind text

-- the first place of such an entry
pub first_dangling : (m : MapMeaning) (b : BoxMeaning) (texts done : List (List ℕ)) (place : ℕ) (text : List ℕ) → Next texts done place text → AddsDangling m b text → All (AddsNoDangling m b) done → IsFirstDangling m b texts place
first_dangling m b texts done place text n adds before entries texts_are good means =
    let k : ℕ = length done in
    let front_texts : take k texts ≡ done = ap (take k) n.split ∙ take-append_seam done (text ∷ n.behind) in
    let at : slice_get texts k ≡ Some text = ap (λ (ts : List (List ℕ)). slice_get ts k) n.split ∙ seam done n.behind text in
    let none : All (AddsNoDangling m b) (take k texts) = subst (All (AddsNoDangling m b)) (sym front_texts) before in
    let here : place ≡ log_end (take k texts) + 1 = n.at ∙ ap (λ (ts : List (List ℕ)). log_end ts + 1) (sym front_texts) in (
      dangling_at m b texts k place text entries at adds here texts_are good means,
      λ other bare. elim (cases_lt (length bare.before) k) [
        | inl lt ↦ absurd (none_before m b texts k other entries none texts_are good means bare lt)
        | inr le ↦
            let rise : log_end (take k texts) ≤ log_end (take (length bare.before) texts) = ends_rise 25 texts (length bare.before) k le in
            let front : take (length bare.before) entries ≡ bare.before = ap (take (length bare.before)) bare.split ∙ take_at bare.before _ (length bare.before) refl in
            let there : other ≡ log_end (take (length bare.before) texts) + 1 =
            bare.is ∙ ap (λ (es : List BoxEntry). log_end (map box_text es) + 1) (sym front) ∙ ap (λ (ts : List (List ℕ)). log_end ts + 1) (sym (front_is entries texts (length bare.before) texts_are)) in
            omega (arith, here, rise, there)
      ],
    )

-- each listed message has its record where no entry adds one without
pub none_dangling : (m : MapMeaning) (b : BoxMeaning) (texts : List (List ℕ)) → IsBoxReplay b texts → All (AddsNoDangling m b) texts → All (HasItsRecord m) b.rows
none_dangling m b texts f none =
    subst (λ (z : BoxMeaning). All (HasItsRecord m) z.rows) (sym f.meaning)
    (λ k d lt. each _ (rows_added f.entries k d lt) (find_self (λ (r : LogRow). r.uid) (rows_after f.entries) (box_sound f.entries f.good.1 f.good.0).rising k d lt))
  where
    each : (row : LogRow) → HasAdded f.entries row → find (λ r. r.uid == row.uid) (rows_after f.entries) ≡ Some row → HasItsRecord m row
    each row h found =
        at_place (AddsNoDangling m b) texts h.0 (box_text h.1) (text_at box_text f.entries texts h.0 h.1 f.texts_are h.2) none h.1 row.uid
        (record { text = refl; in_range = in_range f.entries h.0 h.1 f.good h.2 }) h.3 row (subst (λ (z : BoxMeaning). row_at z row.uid ≡ Some row) (sym f.meaning) found)

-- the entries so far add none, and the others stand behind this gate
pub record Searched (m : MapMeaning) (b : BoxMeaning) (text : LogText) (octets : List ℕ) (gate : ℕ) : Type 0 where
  pub texts : List (List ℕ)
  pub is : IsLogText text texts
  pub replayed : IsBoxReplay b texts
  pub walk : Walk texts octets gate
  pub none : All (AddsNoDangling m b) walk.done

pub searched-more : (m : MapMeaning) (b : BoxMeaning) (text : LogText) (octets others : List ℕ) (gate next place : ℕ) (entry : Bor (List ℕ)) → Searched m b text octets gate → Step octets gate others next (Some (place, entry)) → AddsNoDangling m b entry.now → Searched m b text others next
searched-more m b text octets others gate next place entry s step no_more = record {
  texts = s.texts;
  is = s.is;
  replayed = s.replayed;
  walk = walk-more s.texts octets others gate next place entry s.walk step;
  none = All-push (AddsNoDangling m b) s.walk.done entry.now s.none no_more;
}

pub searched-found : (m : MapMeaning) (b : BoxMeaning) (text : LogText) (octets others : List ℕ) (gate next place : ℕ) (entry : Bor (List ℕ)) → Searched m b text octets gate → Step octets gate others next (Some (place, entry)) → AddsDangling m b entry.now
    → (texts : List (List ℕ)) → IsLogText text texts → IsFirstDangling m b texts place
searched-found m b text octets others gate next place entry s step adds texts is =
    subst (λ (ts : List (List ℕ)). IsFirstDangling m b ts place) (same_texts text s.texts texts s.is is)
    (first_dangling m b s.texts s.walk.done place entry.now (walk-next s.texts octets others gate next place entry s.walk step) adds s.none)

pub searched-all : (m : MapMeaning) (b : BoxMeaning) (text : LogText) (octets others : List ℕ) (gate next : ℕ) → Searched m b text octets gate → Step octets gate others next None → All (HasItsRecord m) b.rows
searched-all m b text octets others gate next s step =
    none_dangling m b s.texts s.replayed (subst (All (AddsNoDangling m b)) (sym (walk-end s.texts octets others gate next s.walk step)) s.none)
