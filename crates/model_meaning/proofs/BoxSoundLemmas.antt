-- The meaning of a mailbox log whose entries fit is sound.
use Rattle.std.specs.Prelude.{◌≡◌, ◌<◌, ◌≤◌, ◌+◌, ◌==◌, ℕ, max, Bool, true, false, List, [], ◌∷◌, ◌++◌, length, All, AllPairs, refl, if◌then◌else◌}
use Rattle.std.specs.List.{AllByRecursion}
use Rattle.std.proofs.Common.{sym, arith, subst, append-nil, append_assoc, length-append}
use Rattle.std.proofs.lemmas.List.Elements.{All-nil, All-weaker, All-push}
use Rattle.mdbox_base.specs.Keywords.{AreWords}
use Rattle.mdbox_base.specs.declared.entries.BoxEntry.{BoxEntry}
use Rattle.mdbox_base.specs.declared.entries.BoxEntry.TheVariants as box
use Rattle.model_meaning.specs.BoxMeaning.{LogRow, BoxMeaning, box_meaning, box_applied, row_changed, row_rules, BoxFits, AllBoxFit}
use Rattle.model_meaning.proofs.BoxLemmas.{box_more}
use Rattle.model_logs.specs.Entries.{BoxInRange}
use Rattle.model_octets.proofs.PairLemmas.{pairs_nil, pairs_push}
use Rattle.model_meaning.proofs.KeptRowLemmas.{kept_rows, kept_all, kept_pairs, kept_length}
use Rattle.model_meaning.specs.Sound.{IsSoundRow, IsSoundBox}

-- an entry changes flags and keywords alone, and these to flags and keywords
abbrev ChangesFit : BoxEntry → Type 0
ChangesFit (box.F uid flags) = flags ≤ 31
ChangesFit (box.K uid words) = AreWords words
ChangesFit entry = Unit {0}

with_flags : (hit : Bool) (flags next : ℕ) (row : LogRow) → flags ≤ 31 → IsSoundRow next row → IsSoundRow next (if hit then record row { flags = flags } else row)
with_flags true flags next row f r = record { uid_some = r.uid_some; below = r.below; flags = f; time = r.time; size = r.size; map_uid = r.map_uid; guid = r.guid; words = r.words }
with_flags false flags next row f r = r

with_words : (hit : Bool) (words : List (List ℕ)) (next : ℕ) (row : LogRow) → AreWords words → IsSoundRow next row → IsSoundRow next (if hit then record row { words = words } else row)
with_words true words next row f r = record { uid_some = r.uid_some; below = r.below; flags = r.flags; time = r.time; size = r.size; map_uid = r.map_uid; guid = r.guid; words = f }
with_words false words next row f r = r

row_stays : (entry : BoxEntry) (next : ℕ) (row : LogRow) → ChangesFit entry → IsSoundRow next row → IsSoundRow next (row_changed entry row)
row_stays (box.N n) next row f r = r
row_stays (box.A u fl t s m g w) next row f r = r
row_stays (box.F u fl) next row f r = with_flags (u.0 == row.uid) fl next row f r
row_stays (box.K u w) next row f r = with_words (u.0 == row.uid) w next row f r
row_stays (box.R u) next row f r = r

flagged_uid : (hit : Bool) (flags : ℕ) (row : LogRow) → (if hit then record row { flags = flags } else row).uid ≡ row.uid
flagged_uid true flags row = refl
flagged_uid false flags row = refl

worded_uid : (hit : Bool) (words : List (List ℕ)) (row : LogRow) → (if hit then record row { words = words } else row).uid ≡ row.uid
worded_uid true words row = refl
worded_uid false words row = refl

pub changed_uid : (entry : BoxEntry) (row : LogRow) → (row_changed entry row).uid ≡ row.uid
changed_uid (box.N n) row = refl
changed_uid (box.A u fl t s m g w) row = refl
changed_uid (box.F u fl) row = flagged_uid (u.0 == row.uid) fl row
changed_uid (box.K u w) row = worded_uid (u.0 == row.uid) w row
changed_uid (box.R u) row = refl

raised : (next more : ℕ) → next ≤ more → (row : LogRow) → IsSoundRow next row → IsSoundRow more row
raised next more le row r = record { uid_some = r.uid_some; below = (let b = r.below in omega (arith, le, b)); flags = r.flags; time = r.time; size = r.size; map_uid = r.map_uid; guid = r.guid; words = r.words }

-- the rows that an entry keeps are sound below each greater next UID
kept_sound : (m : BoxMeaning) (entry : BoxEntry) (more : ℕ) → m.next ≤ more → ChangesFit entry → IsSoundBox m → All (IsSoundRow more) (kept_rows row_rules entry m.rows)
kept_sound m entry more le f s = kept_all row_rules entry m.rows (IsSoundRow m.next) (IsSoundRow more) (λ row r. raised m.next more le (row_changed entry row) (row_stays entry m.next row f r)) s.rows

abbrev Rises : LogRow → LogRow → Type 0
Rises a b = a.uid < b.uid

kept_rising : (m : BoxMeaning) (entry : BoxEntry) → IsSoundBox m → AllPairs Rises (kept_rows row_rules entry m.rows)
kept_rising m entry s = kept_pairs row_rules entry m.rows Rises (λ a b h. let p = changed_uid entry a in let q = changed_uid entry b in omega (arith, h, p, q)) s.rising

-- an entry that makes no row
none_made : (rows : List LogRow) (m : BoxMeaning) (next : ℕ) → IsSoundBox m → m.next ≤ next → next ≤ 4294967295 → All (IsSoundRow next) rows → AllPairs Rises rows → length rows ≤ length m.rows → IsSoundBox (record { rows = rows ++ []; next = next })
none_made rows m next s le fits all rising room =
    let some : 1 ≤ next = (let a = s.some in omega (arith, a, le)) in
    let short : length rows ≤ 1000000 = (let a = s.room in omega (arith, a, room)) in
    subst (λ (rs : List LogRow). IsSoundBox (record { rows = rs; next = next })) (sym (append-nil rows)) (record { some = some; fits = fits; rising = rising; rows = all; room = short })

next_of : (a b : ℕ) → b ≤ a → max a b ≡ a
next_of a b h = omega (arith, h)

-- One entry more that fits keeps the meaning sound.
pub box_sound_more : (m : BoxMeaning) (entry : BoxEntry) → IsSoundBox m → BoxFits m entry → BoxInRange entry → IsSoundBox (box_applied entry m)
box_sound_more m (box.N n) s f r =
    none_made _ m (max m.next n) s (omega arith) (let a = f.2 in let b = s.fits in omega (arith, a, b)) (kept_sound m (box.N n) _ (omega arith) tt s) (kept_rising m (box.N n) s) (kept_length row_rules (box.N n) m.rows)
box_sound_more m (box.F u fl) s f r =
    none_made _ m (max m.next 1) s (omega arith) (let b = s.fits in omega (arith, b)) (kept_sound m (box.F u fl) _ (omega arith) f.1 s) (kept_rising m (box.F u fl) s) (kept_length row_rules (box.F u fl) m.rows)
box_sound_more m (box.K u w) s f r =
    none_made _ m (max m.next 1) s (omega arith) (let b = s.fits in omega (arith, b)) (kept_sound m (box.K u w) _ (omega arith) f.1 s) (kept_rising m (box.K u w) s) (kept_length row_rules (box.K u w) m.rows)
box_sound_more m (box.R u) s f r =
    none_made _ m (max m.next 1) s (omega arith) (let b = s.fits in omega (arith, b)) (kept_sound m (box.R u) _ (omega arith) tt s) (kept_rising m (box.R u) s) (kept_length row_rules (box.R u) m.rows)
box_sound_more m (box.A u fl t size map_uid guid words) s f r =
    let entry : BoxEntry = box.A u fl t size map_uid guid words in
    let rows : List LogRow = kept_rows row_rules entry m.rows in
    let le : m.next ≤ max m.next (u.0 + 1) = omega arith in
    let low = f.0 in
    let high = f.1 in
    let first = s.some in
    let fits = s.fits in
    let room = f.4 in
    let short = kept_length row_rules entry m.rows in
    let kept = kept_sound m entry (max m.next (u.0 + 1)) le tt s in
    let old : All (λ (row : LogRow). row.uid < m.next) rows = kept_all row_rules entry m.rows (IsSoundRow m.next) (λ (row : LogRow). row.uid < m.next) (λ row h. h.below) s.rows in
    let row : LogRow = record { uid = u.0; flags = fl; time = t; size = size; map_uid = map_uid.0; guid = guid.0; words = words } in
    record {
      some = omega (arith, first);
      fits = omega (arith, fits, high);
      rising = pairs_push Rises rows row (kept_rising m entry s) (All-weaker (λ (a : LogRow). a.uid < m.next) (λ (a : LogRow). a.uid < u.0) (λ a h. omega (arith, h, low)) rows old);
      rows = All-push (IsSoundRow (max m.next (u.0 + 1))) rows row kept
          (record { uid_some = omega (arith, first, low); below = omega arith; flags = f.2; time = r.2; size = f.3; map_uid = r.4; guid = r.5; words = f.5 });
      room = (let l = length-append rows (row ∷ []) in omega (arith, l, short, room));
    }

-- no entries
pub box_sound_empty : IsSoundBox (box_meaning [])
box_sound_empty = record { some = omega arith; fits = omega arith; rising = pairs_nil Rises; rows = All-nil (IsSoundRow 1); room = omega arith }

sound_from : (before entries : List BoxEntry) → IsSoundBox (box_meaning before) → AllBoxFit before entries → AllByRecursion BoxInRange entries → IsSoundBox (box_meaning (before ++ entries))
sound_from before [] s f r = subst (λ (es : List BoxEntry). IsSoundBox (box_meaning es)) (sym (append-nil before)) s
sound_from before (entry ∷ entries) s f r =
    let one : IsSoundBox (box_meaning (before ++ entry ∷ [])) = subst IsSoundBox (sym (box_more before entry)) (box_sound_more (box_meaning before) entry s f.0 r.0) in
    subst (λ (es : List BoxEntry). IsSoundBox (box_meaning es)) (append_assoc before (entry ∷ []) entries) (sound_from (before ++ entry ∷ []) entries one f.1 r.1)

-- The meaning of entries that fit is sound.
pub box_sound : (entries : List BoxEntry) → AllBoxFit [] entries → AllByRecursion BoxInRange entries → IsSoundBox (box_meaning entries)
box_sound entries f r = sound_from [] entries box_sound_empty f r
