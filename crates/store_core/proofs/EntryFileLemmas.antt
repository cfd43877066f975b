-- What a store keeps of its storage files, with one entry more in the map log that moves and drops no record and seals no file.
use Rattle.store_core.proofs.Common.{not, ◌||◌, filter, if◌then◌else◌, list_any, inl, inr, ◌≡◌, ◌+◌, ◌==◌, ℕ, Bool, true, false, List, [], ◌∷◌, ◌++◌, map, All, refl, sym, ◌∙◌, ap, subst, cases_Bool, cond-true, All-append, DiskState, Highest, MapEntry, MapRecord, MapMeaning, map_applied, record_made}
use Rattle.store_core.proofs.Common.{record_changed, record_rules, has_map_uid, is_own, number_at, kept_all, kept_rows, MailFile, FilesValue, is_doomed_in, EndsBehind, LiesBelowEnd, AreFilesKept, StayThere}
use Rattle.std.specs.Prelude.{◌-◌}
use Rattle.mdbox_base.specs.declared.entries.MapEntry.TheVariants as entry
use Rattle.model_meaning.specs.MapMeaning.{record_dropped, sealed_by}

-- entries that leave each record where it is, and seal nothing
abbrev pub LeavesPlaces : MapEntry → Type 0
LeavesPlaces (entry.P f target moved dropped) = ⊥
LeavesPlaces (entry.E f) = ⊥
LeavesPlaces e = Unit {0}

record IsSamePlace (a b : MapRecord) : Type 0 where
  file : b.file ≡ a.file
  offset : b.offset ≡ a.offset
  size : b.size ≡ a.size
  guid : b.guid ≡ a.guid

place_itself : (row : MapRecord) → IsSamePlace row row
place_itself row = record { file = refl; offset = refl; size = refl; guid = refl }

counted_place : (hit : Bool) (n : ℕ) (row : MapRecord) → IsSamePlace row (if hit then record row { count = n } else row)
counted_place true n row = record { file = refl; offset = refl; size = refl; guid = refl }
counted_place false n row = place_itself row

place_same : (e : MapEntry) (row : MapRecord) → LeavesPlaces e → IsSamePlace row (record_changed e row)
place_same (entry.H h) row l = place_itself row
place_same (entry.B b g n) row l = place_itself row
place_same (entry.G b g) row l = place_itself row
place_same (entry.S o c u f a z g is) row l = place_itself row
place_same (entry.U u) row l = counted_place (u.0 == row.uid) (row.count + 1) row
place_same (entry.D us) row l = counted_place (has_map_uid row.uid us) (row.count - 1) row
place_same (entry.T cs) row l = record { file = refl; offset = refl; size = refl; guid = refl }
place_same (entry.P f t ms us) row l = absurd l
place_same (entry.E f) row l = absurd l
place_same (entry.X b cs) row l = record { file = refl; offset = refl; size = refl; guid = refl }
place_same (entry.V b n) row l = place_itself row

pub none_dropped : (e : MapEntry) (row : MapRecord) → LeavesPlaces e → record_dropped e row ≡ false
none_dropped (entry.H h) row l = refl
none_dropped (entry.B b g n) row l = refl
none_dropped (entry.G b g) row l = refl
none_dropped (entry.S o c u f a z g is) row l = refl
none_dropped (entry.U u) row l = refl
none_dropped (entry.D us) row l = refl
none_dropped (entry.T cs) row l = refl
none_dropped (entry.P f t ms us) row l = absurd l
none_dropped (entry.E f) row l = absurd l
none_dropped (entry.X b cs) row l = refl
none_dropped (entry.V b n) row l = refl

none_sealed : (e : MapEntry) (files : List ℕ) → LeavesPlaces e → sealed_by e files ≡ files
none_sealed (entry.H h) files l = refl
none_sealed (entry.B b g n) files l = refl
none_sealed (entry.G b g) files l = refl
none_sealed (entry.S o c u f a z g is) files l = refl
none_sealed (entry.U u) files l = refl
none_sealed (entry.D us) files l = refl
none_sealed (entry.T cs) files l = refl
none_sealed (entry.P f t ms us) files l = absurd l
none_sealed (entry.E f) files l = absurd l
none_sealed (entry.X b cs) files l = refl
none_sealed (entry.V b n) files l = refl

-- ---- regions are still there

any_append : (p : MapRecord → Bool) (xs ys : List MapRecord) → list_any p xs ≡ true → list_any p (xs ++ ys) ≡ true
any_append p [] ys is = absurd (let w : false ≡ true = is in cc w)
any_append p (x ∷ xs) ys is = elim (cases_Bool (p x)) [
  | inl hit ↦ ap (λ (t : Bool). t || list_any p (xs ++ ys)) hit
  | inr miss ↦ ap (λ (t : Bool). t || list_any p (xs ++ ys)) miss ∙ any_append p xs ys (sym (ap (λ (t : Bool). t || list_any p xs) miss) ∙ is)
]

any_kept : (e : MapEntry) (n : ℕ) (rows : List MapRecord) → LeavesPlaces e → list_any (λ row. row.file == n) (kept_rows record_rules e rows) ≡ list_any (λ row. row.file == n) rows
any_kept e n [] l = refl
any_kept e n (row ∷ rows) l =
    let stays : not (record_dropped e row) ≡ true = ap not (none_dropped e row l) in
    ap (λ (rs : List MapRecord). list_any (λ r. r.file == n) (map (record_changed e) rs)) (cond-true (not (record_dropped e row)) (row ∷ filter (λ r. not (record_dropped e r)) rows) (filter (λ r. not (record_dropped e r)) rows) stays)
    ∙ ap (λ (k : ℕ). (k == n) || list_any (λ r. r.file == n) (kept_rows record_rules e rows)) (place_same e row l).file
    ∙ ap (λ (t : Bool). (row.file == n) || t) (any_kept e n rows l)

-- ---- below the ends

below_same : (store : List ℕ) (files : List MailFile) (a b : MapRecord) → IsSamePlace a b → LiesBelowEnd store files a → LiesBelowEnd store files b
below_same store files a b s l =
    let region : EndsBehind b.file (a.offset + a.size) files = subst (λ (n : ℕ). EndsBehind n (a.offset + a.size) files) (sym s.file) l.region in
    let moved : EndsBehind b.file (b.offset + a.size) files = subst (λ (n : ℕ). EndsBehind b.file (n + a.size) files) (sym s.offset) region in
    record {
      region = subst (λ (n : ℕ). EndsBehind b.file (b.offset + n) files) (sym s.size) moved;
      guid = subst (λ (g : List ℕ). is_own store g ≡ true → EndsBehind (number_at 8 g) (number_at 12 g + 1) files) (sym s.guid) l.guid;
      undoomed = subst (λ (n : ℕ). is_doomed_in n files ≡ false) (sym s.file) l.undoomed;
    }

pub kept_applied : (files : FilesValue) (drawn later : Highest) (m : MapMeaning) (e : MapEntry) → LeavesPlaces e → later.file ≡ drawn.file → All (LiesBelowEnd m.store files.files) (record_made e) → AreFilesKept files drawn m → AreFilesKept files later (map_applied e m)
kept_applied files drawn later m e l same made k = record {
  highest = k.highest ∙ sym same;
  numbered = k.numbered;
  taken = k.taken;
  sealed = λ number f found. k.sealed number f found ∙ sym (ap (λ (ns : List ℕ). list_any (λ n. n == number) ns) (none_sealed e m.sealed l));
  pinned = λ number f found is. elim (k.pinned number f found is) [
    | inl doomed ↦ inl doomed
    | inr has ↦ inr (any_append (λ row. row.file == number) (kept_rows record_rules e m.records) (record_made e) (any_kept e number m.records l ∙ has))
  ];
  below = All-append (LiesBelowEnd m.store files.files) (kept_rows record_rules e m.records) (record_made e)
      (kept_all record_rules e m.records (LiesBelowEnd m.store files.files) (LiesBelowEnd m.store files.files) (λ row b. below_same m.store files.files row (record_changed e row) (place_same e row l) b) k.below) made;
}

pub stay_applied : (files : List MailFile) (m : MapMeaning) (e : MapEntry) (disk : DiskState) → LeavesPlaces e → StayThere files m.records disk → StayThere files (map_applied e m).records disk
stay_applied files m e disk l stay = λ number f found grows there. elim (stay number f found grows there) [
  | inl has ↦ inl (any_append (λ row. row.file == number) (kept_rows record_rules e m.records) (record_made e) (any_kept e number m.records l ∙ has))
  | inr firm ↦ inr firm
]
