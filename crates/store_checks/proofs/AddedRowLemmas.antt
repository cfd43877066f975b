-- Entries that add messages, and the rows that they make.
use Rattle.std.proofs.Common.{◌≡◌, ℕ, suc, Bool, true, false, cond, List, [], ◌∷◌, slice_get, Some, All, refl, sym, ◌∙◌, ap}
use Rattle.std.specs.List.{flat_map}
use Rattle.std.proofs.lemmas.List.Elements.{All-nil, All-cons, All-append, All-weaker}
use Rattle.mdbox_base.specs.declared.ids.Uid.{Uid}
use Rattle.mdbox_base.specs.declared.ids.MapUid.{MapUid}
use Rattle.mdbox_base.specs.declared.ids.Guid.{Guid}
use Rattle.mdbox_base.specs.declared.entries.BoxEntry.{BoxEntry}
use Rattle.mdbox_base.specs.declared.entries.BoxEntry.TheVariants as box
use Rattle.model_meaning.specs.Rows.{row_behind, rows_of}
use Rattle.model_meaning.specs.BoxMeaning.{LogRow, row_rules, row_made, row_removed, row_changed, rows_after}
use Rattle.model_meaning.proofs.BoxSoundLemmas.{changed_uid}
use Rattle.store_checks.specs.Dangling.{added_uid}

-- the fields of an entry that adds the message with this UID
pub record Added (entry : BoxEntry) (number : ℕ) : Type 0 where
  pub uid : Uid
  pub flags : ℕ
  pub time : ℕ
  pub size : ℕ
  pub map_uid : MapUid
  pub guid : Guid
  pub words : List (List ℕ)
  pub is : entry ≡ box.A uid flags time size map_uid guid words
  pub same : uid.0 ≡ number

pub added : (entry : BoxEntry) (number : ℕ) → added_uid entry ≡ Some number → Added entry number
added (box.A u f t s m g w) number e = record { uid = u; flags = f; time = t; size = s; map_uid = m; guid = g; words = w; is = refl; same = (let h : u.0 ≡ number = cc e in h) }
added (box.N n) number e = absurd (cc e)
added (box.F u f) number e = absurd (cc e)
added (box.K u w) number e = absurd (cc e)
added (box.R u) number e = absurd (cc e)

-- a later row has the UID of the one that was made
behind_step : (gone : Bool) (uid : ℕ) (rows : List LogRow) → All (λ (r : LogRow). r.uid ≡ uid) rows → All (λ (r : LogRow). r.uid ≡ uid) (cond gone [] rows)
behind_step true uid rows a = All-nil (λ (r : LogRow). r.uid ≡ uid)
behind_step false uid rows a = a

behind_uid : (es : List BoxEntry) (row : LogRow) → All (λ (r : LogRow). r.uid ≡ row.uid) (row_behind row_rules es row)
behind_uid [] row = All-cons (λ (r : LogRow). r.uid ≡ row.uid) row [] refl (All-nil (λ (r : LogRow). r.uid ≡ row.uid))
behind_uid (e ∷ es) row =
    behind_step (row_removed e row) row.uid (row_behind row_rules es (row_changed e row))
    (All-weaker (λ (r : LogRow). r.uid ≡ (row_changed e row).uid) (λ (r : LogRow). r.uid ≡ row.uid) (λ r h. h ∙ changed_uid e row) _ (behind_uid es (row_changed e row)))

-- one of the entries adds the row
abbrev pub HasAdded : List BoxEntry → LogRow → Type 0
HasAdded entries row = (k : ℕ) × (entry : BoxEntry) × (slice_get entries k ≡ Some entry) × (added_uid entry ≡ Some row.uid)

first_added : (e : BoxEntry) (es : List BoxEntry) → All (HasAdded (e ∷ es)) (flat_map (row_behind row_rules es) (row_made e))
first_added (box.A u f t s m g w) es =
    let row : LogRow = record { uid = u.0; flags = f; time = t; size = s; map_uid = m.0; guid = g.0; words = w } in
    All-append (HasAdded (box.A u f t s m g w ∷ es)) (row_behind row_rules es row) []
    (All-weaker (λ (r : LogRow). r.uid ≡ u.0) (HasAdded (box.A u f t s m g w ∷ es)) (λ r h. (0, box.A u f t s m g w, refl, ap Some (sym h))) _ (behind_uid es row))
    (All-nil (HasAdded (box.A u f t s m g w ∷ es)))
first_added (box.N n) es = All-nil (HasAdded (box.N n ∷ es))
first_added (box.F u f) es = All-nil (HasAdded (box.F u f ∷ es))
first_added (box.K u w) es = All-nil (HasAdded (box.K u w ∷ es))
first_added (box.R u) es = All-nil (HasAdded (box.R u ∷ es))

-- each row was added
pub rows_added : (entries : List BoxEntry) → All (HasAdded entries) (rows_after entries)
rows_added [] = All-nil (HasAdded [])
rows_added (e ∷ es) =
    All-append (HasAdded (e ∷ es)) (flat_map (row_behind row_rules es) (row_made e)) (rows_of row_rules es) (first_added e es)
    (All-weaker (HasAdded es) (HasAdded (e ∷ es)) (λ row h. (suc h.0, h.1, h.2, h.3)) (rows_of row_rules es) (rows_added es))
