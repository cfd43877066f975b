-- Drafts of mailbox logs: the texts of entries, and what a draft means with entries more.
use Rattle.store_core.proofs.Common.{◌≡◌, ◌≤◌, ◌<◌, ◌+◌, ◌-◌, ℕ, List, [], ◌∷◌, ◌++◌, length, map, take, drop, All, Option, refl, sym, ◌∙◌, ap, subst, arith, append-nil, get_or, length-append, map-append, All-nil, All-cons, All-append, All-head, All-tail, History, if_told-map}
use Rattle.store_core.proofs.Common.{BoxEntry, MapEntry, map_text, map_more, map_meaning, map_applied, MapInRange, box_text, BoxInRange, BoxMeaning, box_applied, box_meaning, row_made, HasItsRecord, MapMeaning, LogState, Reads, Holds, IsLogRead}
use Rattle.std.proofs.Common.{fold, sum, append_assoc, length-drop}
use Rattle.std.proofs.Math.Seq.{take-length}
use Rattle.std.proofs.lemmas.List.{take-append-le, drop-append-le, take_more}
use Rattle.std.proofs.lemmas.List.Sums.{sum_by-cons, sum_by-append}
use Rattle.std.specs.List.{AllByRecursion}
use Rattle.gate_log.specs.Log.{Drafts, IsLogDrafted, cut_by}
use Rattle.gate_log.proofs.DraftLemmas.{held_draft}
use Rattle.mdbox_base.specs.declared.entries.BoxEntry.TheVariants as entry
use Rattle.model_appends.proofs.AppendOpenLemmas.{box_more_good, rows_have}
use Rattle.model_meaning.proofs.BoxLemmas.{box_more}
use Rattle.model_store.specs.Opening.{AreBoxEntries}
use Rattle.store_core.specs.Drafts.{AllFitBehind, AreEntryTexts}
use Rattle.store_core.specs.MapDrafts.{AllMapFitBehind, HasRoomForAll, rooms_of}
use Rattle.store_core.proofs.MapAppendLemmas.{some_octets}
use Rattle.map_index.specs.Value.{IsNoLessRoom, MapIndexValue, larger_room, room_for, room_left}
use Rattle.map_index.specs.declared.room.MapRoom.{MapRoom}
use Rattle.model_meaning.proofs.FitLemmas.{each_more, map_fit_more}
use Rattle.model_store.specs.Opening.{AreMapEntries}

-- ---- the texts of entries

cut-more : (lengths octets : List ℕ) (size : ℕ) (text : List ℕ) → sum lengths ≡ length octets → size ≡ length text → cut_by (lengths ++ size ∷ []) (octets ++ text) ≡ cut_by lengths octets ++ text ∷ []
cut-more [] [] size text whole e = ap (λ (t : List ℕ). t ∷ []) (ap (λ (n : ℕ). take n text) e ∙ take-length text)
cut-more [] (o ∷ octets) size text whole e = let h : 0 ≡ length (o ∷ octets) = whole in absurd (omega (arith, h))
cut-more (n ∷ ns) octets size text whole e =
    let more : sum (n ∷ ns) ≡ n + sum ns = sum_by-cons (λ x. x) n ns in
    let within : n ≤ length octets = omega (arith, more, whole) in
    let rest : length (drop n octets) ≡ length octets - n = length-drop n octets in
    ap (λ (t : List ℕ). t ∷ cut_by (ns ++ size ∷ []) (drop n (octets ++ text))) (take-append-le n octets text within)
    ∙ ap (λ (t : List ℕ). take n octets ∷ cut_by (ns ++ size ∷ []) t) (drop-append-le n octets text within)
    ∙ ap (λ (ts : List (List ℕ)). take n octets ∷ ts) (cut-more ns (drop n octets) size text (omega (arith, more, whole, rest)) e)

sum-more : (lengths : List ℕ) (octets text : List ℕ) → sum lengths ≡ length octets → sum (lengths ++ length text ∷ []) ≡ length (octets ++ text)
sum-more lengths octets text whole =
    let s : sum (lengths ++ length text ∷ []) ≡ sum lengths + sum (length text ∷ []) = sum_by-append (λ x. x) lengths (length text ∷ []) in
    let one : sum (length text ∷ []) ≡ length text + sum [] = sum_by-cons (λ x. x) (length text) [] in
    let none : sum [] ≡ 0 = refl in
    omega (arith, s, one, none, whole, length-append octets text)

some_text : (e : BoxEntry) → 1 ≤ length (box_text e)
some_text (entry.N n) = omega arith
some_text (entry.A u f t z k g w) = omega arith
some_text (entry.F u f) = omega arith
some_text (entry.K u w) = omega arith
some_text (entry.R u) = omega arith

texts_more : (texts : List (List ℕ)) (text octets lengths octets_now lengths_now : List ℕ) → 1 ≤ length text → AreEntryTexts texts octets lengths → octets_now ≡ octets ++ text → lengths_now ≡ lengths ++ length text ∷ [] → AreEntryTexts (texts ++ text ∷ []) octets_now lengths_now
texts_more texts text octets lengths octets_now lengths_now one t o l =
    subst (λ (os : List ℕ). AreEntryTexts (texts ++ text ∷ []) os lengths_now) (sym o)
    (subst (λ (ls : List ℕ). AreEntryTexts (texts ++ text ∷ []) (octets ++ text) ls) (sym l)
    (record {
      cut = cut-more lengths octets (length text) text t.whole refl ∙ ap (λ (ts : List (List ℕ)). ts ++ text ∷ []) t.cut;
      whole = sum-more lengths octets text t.whole;
      some = All-append (λ (n : ℕ). 1 ≤ n) lengths (length text ∷ []) t.some (All-cons (λ (n : ℕ). 1 ≤ n) (length text) [] one (All-nil (λ (n : ℕ). 1 ≤ n)));
      many = let a = length-append lengths (length text ∷ []) in let b = length-append texts (text ∷ []) in let c = t.many in omega (arith, a, b, c);
    }))

-- one of the entries more
texts_next : {E : Type 0} → (text : E → List ℕ) (entries : List E) (i : ℕ) (e : E) (octets lengths octets_now lengths_now : List ℕ) → 1 ≤ length (text e) → i < length entries → e ≡ get_or entries i e → AreEntryTexts (map text (take i entries)) octets lengths → octets_now ≡ octets ++ text e
    → lengths_now ≡ lengths ++ length (text e) ∷ [] → AreEntryTexts (map text (take (i + 1) entries)) octets_now lengths_now
texts_next text entries i e octets lengths octets_now lengths_now one below is t o l =
    let more : take (i + 1) entries ≡ take i entries ++ e ∷ [] = take_more entries i e below ∙ ap (λ (x : _). take i entries ++ x ∷ []) (sym is) in
    subst (λ (ts : List (List ℕ)). AreEntryTexts ts octets_now lengths_now) (sym (ap (map text) more ∙ map-append text (take i entries) (e ∷ [])))
    (texts_more (map text (take i entries)) (text e) octets lengths octets_now lengths_now one t o l)

pub texts_step : (entries : List BoxEntry) (i : ℕ) (e : BoxEntry) (octets lengths octets_now lengths_now : List ℕ) → i < length entries → e ≡ get_or entries i e → AreEntryTexts (map box_text (take i entries)) octets lengths → octets_now ≡ octets ++ box_text e
    → lengths_now ≡ lengths ++ length (box_text e) ∷ [] → AreEntryTexts (map box_text (take (i + 1) entries)) octets_now lengths_now
texts_step entries i e octets lengths octets_now lengths_now below is t o l = texts_next box_text entries i e octets lengths octets_now lengths_now (some_text e) below is t o l

pub map_texts_step : (entries : List MapEntry) (i : ℕ) (e : MapEntry) (octets lengths octets_now lengths_now : List ℕ) → i < length entries → e ≡ get_or entries i e → AreEntryTexts (map map_text (take i entries)) octets lengths → octets_now ≡ octets ++ map_text e
    → lengths_now ≡ lengths ++ length (map_text e) ∷ [] → AreEntryTexts (map map_text (take (i + 1) entries)) octets_now lengths_now
map_texts_step entries i e octets lengths octets_now lengths_now below is t o l = texts_next map_text entries i e octets lengths octets_now lengths_now (some_octets e) below is t o l

-- ---- what a draft means with entries more

-- the entries, and what they mean
pub record Extended (m : MapMeaning) (before entries : List BoxEntry) : Type 0 where
  pub good : AreBoxEntries (before ++ entries)
  pub means : fold (λ n e. box_applied e n) (box_meaning before) entries ≡ box_meaning (before ++ entries)
  pub records : All (HasItsRecord m) (box_meaning (before ++ entries)).rows

pub extended : (m : MapMeaning) (before entries : List BoxEntry) → AreBoxEntries before → AllByRecursion BoxInRange entries → AllFitBehind (box_meaning before) entries → All (HasItsRecord m) (box_meaning before).rows → All (λ e. All (HasItsRecord m) (row_made e)) entries
    → Extended m before entries
extended m before [] good in_range fit records made =
    let same : before ++ [] ≡ before = append-nil before in
    record {
      good = subst AreBoxEntries (sym same) good;
      means = ap box_meaning (sym same);
      records = subst (λ (es : List BoxEntry). All (HasItsRecord m) (box_meaning es).rows) (sym same) records;
    }
extended m before (e ∷ es) good in_range fit records made =
    let one : (before ++ e ∷ []) ++ es ≡ before ++ e ∷ es = append_assoc before (e ∷ []) es in
    let more : box_meaning (before ++ e ∷ []) ≡ box_applied e (box_meaning before) = box_more before e in
    let rest : Extended m (before ++ e ∷ []) es =
    extended m (before ++ e ∷ []) es (box_more_good e in_range.0 before fit.0 good) in_range.1 (subst (λ (n : BoxMeaning). AllFitBehind n es) (sym more) fit.1)
    (rows_have m e (All-head (λ (x : BoxEntry). All (HasItsRecord m) (row_made x)) e es made) before fit.0 records) (All-tail (λ (x : BoxEntry). All (HasItsRecord m) (row_made x)) e es made) in
    record {
      good = subst AreBoxEntries one rest.good;
      means = ap (λ (n : BoxMeaning). fold (λ x y. box_applied y x) n es) (sym more) ∙ rest.means ∙ ap box_meaning one;
      records = subst (λ (xs : List BoxEntry). All (HasItsRecord m) (box_meaning xs).rows) one rest.records;
    }

-- a draft that is read can be extended
pub read_draft : (log : LogState) (texts : List (List ℕ)) (h : Option History) → Drafts log texts h → Reads log texts h
read_draft log texts h d = if_told-map (IsLogDrafted log texts) (IsLogRead log texts) h (λ disk l. l.reads) d

-- the room of a log is of no account
roomier_draft : (log : LogState) (room : ℕ) (texts : List (List ℕ)) (h : Option History) → Drafts log texts h → Drafts (record log { room = room }) texts h
roomier_draft log room texts h d = if_told-map (IsLogDrafted log texts) (IsLogDrafted (record log { room = room }) texts) h
    (λ disk l. record { reads = record { file = l.reads.file; end = l.reads.end; count = l.reads.count; head_fits = l.reads.head_fits; entries_fit = l.reads.entries_fit }; named = l.named; are_octets = l.are_octets }) d

-- a log that was just made has no entries
pub drafts_nothing : (log later : LogState) (room : ℕ) (h : Option History) → later ≡ record log { room = room } → Holds log [] h → Drafts later [] h
drafts_nothing log later room h roomy held = subst (λ (l : LogState). Drafts l [] h) (sym roomy) (roomier_draft log room [] h (held_draft log [] h held))

-- ---- the map log

pub record MapExtended (store : List ℕ) (before entries : List MapEntry) : Type 0 where
  pub good : AreMapEntries store (before ++ entries)
  pub means : fold (λ n e. map_applied e n) (map_meaning store before) entries ≡ map_meaning store (before ++ entries)

pub map_extended : (store : List ℕ) (before entries : List MapEntry) → AreMapEntries store before → AllByRecursion MapInRange entries → AllMapFitBehind (map_meaning store before) entries → MapExtended store before entries
map_extended store before [] good in_range fit =
    let same : before ++ [] ≡ before = append-nil before in
    record { good = subst (AreMapEntries store) (sym same) good; means = ap (map_meaning store) (sym same) }
map_extended store before (e ∷ es) good in_range fit =
    let one : (before ++ e ∷ []) ++ es ≡ before ++ e ∷ es = append_assoc before (e ∷ []) es in
    let more : map_meaning store (before ++ e ∷ []) ≡ map_applied e (map_meaning store before) = map_more store before e in
    let rest : MapExtended store (before ++ e ∷ []) es =
    map_extended store (before ++ e ∷ []) es (each_more MapInRange before e good.0 in_range.0, map_fit_more store [] before e good.1 fit.0) in_range.1 (subst (λ (n : MapMeaning). AllMapFitBehind n es) (sym more) fit.1) in
    record {
      good = subst (AreMapEntries store) one rest.good;
      means = ap (λ (n : MapMeaning). fold (λ x y. map_applied y x) n es) (sym more) ∙ rest.means ∙ ap (map_meaning store) one;
    }

-- room for all entries together is room for one behind another
room_for_all : (entries : List MapEntry) (room : MapRoom) → IsNoLessRoom (rooms_of entries) room → HasRoomForAll entries room
room_for_all [] room least = tt
room_for_all (e ∷ es) room least =
    let a = sum_by-cons (λ (x : MapEntry). (room_for x).records) e es in
    let b = sum_by-cons (λ (x : MapEntry). (room_for x).instances) e es in
    let c = sum_by-cons (λ (x : MapEntry). (room_for x).boxes) e es in
    let d = sum_by-cons (λ (x : MapEntry). (room_for x).files) e es in
    let p = least.records in
    let q = least.instances in
    let r = least.boxes in
    let s = least.files in (
      record { records = omega (arith, a, p); instances = omega (arith, b, q); boxes = omega (arith, c, r); files = omega (arith, d, s) },
      room_for_all es (room_left e room) (record { records = omega (arith, a, p); instances = omega (arith, b, q); boxes = omega (arith, c, r); files = omega (arith, d, s) }),
    )

larger_has : (a b : MapRoom) → IsNoLessRoom b (larger_room a b)
larger_has a b = record { records = omega arith; instances = omega arith; boxes = omega arith; files = omega arith }

pub room_after_reserve : (entries : List MapEntry) (wanted : MapRoom) (old new : MapIndexValue) → wanted ≡ rooms_of entries → new ≡ record { meaning = old.meaning; room = larger_room old.room wanted } → HasRoomForAll entries new.room
room_after_reserve entries wanted old new is made =
    room_for_all entries new.room (subst (λ (r : MapRoom). IsNoLessRoom (rooms_of entries) r) (sym (ap (λ (i : MapIndexValue). i.room) made)) (subst (λ (w : MapRoom). IsNoLessRoom w (larger_room old.room wanted)) is (larger_has old.room wanted)))
