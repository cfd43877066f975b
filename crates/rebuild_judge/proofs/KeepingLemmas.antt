-- One message more is kept.
use Rattle.std.proofs.Common.{refl, ◌≡◌, ℕ, zero, suc, Bool, true, false, cond, List, [], ◌∷◌, ◌++◌, length, map, sym, ◌∙◌, ap, subst, append-nil, Option, Some, None}
use Rattle.std.proofs.lemmas.Grind.{flat_map-append}
use Rattle.std.proofs.lemmas.List.{length-map, map-append}
use Rattle.std.proofs.lemmas.List.Elements.{All-nil, All-push}
use Rattle.std.proofs.lemmas.List.Folds.{find-append}
use Rattle.std.proofs.lemmas.Map.Text.{is_eq-slice_cmp}
use Rattle.std.specs.BTreeMap.{BTreeMap, get, is_at}
use Rattle.std.specs.Cmp.Lexicographic.{slice_cmp}
use Rattle.std.specs.Ordering.{nat_cmp}
use Rattle.std.specs.Prelude.{slice_get, codes}
use Rattle.std.specs.Str.{bytes_eq}
use Rattle.disk_model.specs.Disk.{Files}
use Rattle.mdbox_base.specs.declared.entries.InstRow.{InstRow}
use Rattle.model_octets.proofs.SearchLemmas.{text_is, text_yes}
use Rattle.model_taken.specs.Taken.{TakenMessage, instances_taken, taken_with}
use Rattle.rebuild_judge.proofs.MetLemmas.{counted_more}
use Rattle.rebuild_judge.specs.Kept.{AreHashesOf, AreKept, CanBeKept, IsGuidPlace, IsRejoined, NameNoOther, are_full, taken_row, with_one_more}
use Rattle.rebuild_judge.specs.declared.taken.Keeping.{Keeping}
use Rattle.rebuild_judge.specs.declared.taken.TakenRow.{TakenRow}

-- ---- places of GUIDs

at_seam : {X : Type 0} → (xs : List X) (x : X) → slice_get (xs ++ x ∷ []) (length xs) ≡ Some x
at_seam [] x = refl
at_seam (y ∷ xs) x = at_seam xs x

at_left : {X : Type 0} → (xs ys : List X) (i : ℕ) (x : X) → slice_get xs i ≡ Some x → slice_get (xs ++ ys) i ≡ Some x
at_left [] ys i x e = absurd (cc e)
at_left (y ∷ xs) ys zero x e = e
at_left (y ∷ xs) ys (suc i) x e = at_left xs ys i x e

new_place : (taken : List TakenMessage) (t : TakenMessage) (guid : List ℕ) → taken_with t.guid taken ≡ None → t.guid ≡ guid → IsGuidPlace guid (taken ++ t ∷ []) (Some (length taken))
new_place taken t guid none e = (
  t,
  at_seam taken t,
  find-append (λ u. bytes_eq u.guid guid) taken (t ∷ []) ∙ rw (ap (λ (g : List ℕ). taken_with g taken) (sym e) ∙ none, text_yes t.guid guid e) refl,
)

old_place : (taken : List TakenMessage) (t : TakenMessage) (guid : List ℕ) (place : Option ℕ) → bytes_eq t.guid guid ≡ false → IsGuidPlace guid taken place → IsGuidPlace guid (taken ++ t ∷ []) place
old_place taken t guid None e is = find-append (λ u. bytes_eq u.guid guid) taken (t ∷ []) ∙ rw (is, e) refl
old_place taken t guid (Some place) e (u, at, found) = (u, at_left taken (t ∷ []) place u at, find-append (λ u. bytes_eq u.guid guid) taken (t ∷ []) ∙ rw found refl)

place_for : (taken : List TakenMessage) (t : TakenMessage) (guid : List ℕ) (place : Option ℕ) (b : Bool) → taken_with t.guid taken ≡ None → bytes_eq t.guid guid ≡ b → IsGuidPlace guid taken place → IsGuidPlace guid (taken ++ t ∷ []) (cond b (Some (length taken)) place)
place_for taken t guid place true none e is = new_place taken t guid none (text_is t.guid guid e)
place_for taken t guid place false none e is = old_place taken t guid place e is

places_more : (old new : BTreeMap (List ℕ) ℕ) (taken : List TakenMessage) (t : TakenMessage) (id : List ℕ) (n : ℕ) → id ≡ t.guid → n ≡ length taken → taken_with t.guid taken ≡ None
    → ((guid : List ℕ) → IsGuidPlace guid taken (get (slice_cmp nat_cmp) old guid)) → ((q : List ℕ) → get (slice_cmp nat_cmp) new q ≡ cond (is_at (slice_cmp nat_cmp id) q) (Some n) (get (slice_cmp nat_cmp) old q))
    → (guid : List ℕ) → IsGuidPlace guid (taken ++ t ∷ []) (get (slice_cmp nat_cmp) new guid)
places_more old new taken t id n is at none places updates guid =
    let test : is_at (slice_cmp nat_cmp id) guid ≡ bytes_eq t.guid guid = is_eq-slice_cmp id guid ∙ ap (λ (g : List ℕ). bytes_eq g guid) is in
    let found : get (slice_cmp nat_cmp) new guid ≡ cond (bytes_eq t.guid guid) (Some (length taken)) (get (slice_cmp nat_cmp) old guid) =
    updates guid ∙ (ap (λ (b : Bool). cond b (Some n) (get (slice_cmp nat_cmp) old guid)) test ∙ ap (λ (k : ℕ). cond (bytes_eq t.guid guid) (Some k) (get (slice_cmp nat_cmp) old guid)) at) in
    subst (IsGuidPlace guid (taken ++ t ∷ [])) (sym found) (place_for taken t guid (get (slice_cmp nat_cmp) old guid) (bytes_eq t.guid guid) none refl (places guid))

-- ---- all of it

pub kept_more : (files : Files) (taken : List TakenMessage) (t : TakenMessage) (row : TakenRow) (old new : Keeping) → AreKept files taken old → CanBeKept files taken t → row ≡ taken_row t
    → (are_full row.mailbox old.mailboxes.items ≡ false → new.mailboxes.items ≡ with_one_more row.mailbox old.mailboxes.items)
    → ((named : List InstRow) → AreHashesOf old.hashes named → NameNoOther named row.instances → AreHashesOf new.hashes (named ++ row.instances))
    → ((q : List ℕ) → get (slice_cmp nat_cmp) new.by_guid q ≡ cond (is_at (slice_cmp nat_cmp row.guid.0) q) (Some (length old.taken)) (get (slice_cmp nat_cmp) old.by_guid q))
    → new.taken ≡ old.taken ++ row ∷ [] → AreKept files (taken ++ t ∷ []) new
kept_more files taken t row old new was can is met hashes places pushed = record {
  rows = pushed ∙ (ap (λ (xs : List TakenRow). xs ++ row ∷ []) was.rows ∙ (ap (λ (r : TakenRow). map taken_row taken ++ r ∷ []) is ∙ sym (map-append taken_row taken (t ∷ []))));
  places = places_more old.by_guid new.by_guid taken t row.guid.0 (length old.taken) (ap (λ (r : TakenRow). r.guid.0) is) (ap length was.rows ∙ length-map taken taken_row) can.new was.places places;
  hashes =
      let rows : row.instances ≡ t.instances = ap (λ (r : TakenRow). r.instances) is in
      let all : instances_taken (taken ++ t ∷ []) ≡ instances_taken taken ++ t.instances = flat_map-append (λ (u : TakenMessage). u.instances) taken (t ∷ []) ∙ ap (λ (xs : List InstRow). instances_taken taken ++ xs) (append-nil t.instances) in
      rw all (rw (sym rows) (hashes (instances_taken taken) was.hashes (rw rows can.alike)));
  mailboxes = met (ap (λ (r : TakenRow). are_full r.mailbox old.mailboxes.items) is ∙ (ap (are_full t.mailbox) was.mailboxes ∙ can.room)) ∙ (ap (λ (r : TakenRow). with_one_more r.mailbox old.mailboxes.items) is ∙ (ap (with_one_more t.mailbox) was.mailboxes ∙ counted_more taken t));
  rejoined = All-push (IsRejoined files) taken t was.rejoined can.rejoined;
}

pub kept_none : (files : Files) (keeping : Keeping) (name : List ℕ) → name ≡ codes "INBOX" → keeping.mailboxes.items ≡ record { name = name; count = 0 } ∷ [] → keeping.taken ≡ [] → keeping.by_guid.entries ≡ [] → keeping.hashes.entries ≡ [] → AreKept files [] keeping
kept_none files keeping name is met none guids hashes = record {
  rows = none;
  places = λ guid. subst (IsGuidPlace guid []) (sym (no_entry keeping.by_guid guid guids)) refl;
  hashes = λ ref. rw (no_entry keeping.hashes ref.id.0 hashes) refl;
  mailboxes = met ∙ ap (λ (n : List ℕ). record { name = n; count = 0 } ∷ []) is;
  rejoined = All-nil (IsRejoined files);
}
  where
    no_entry : {X : Type 0} → (m : BTreeMap (List ℕ) X) (q : List ℕ) → m.entries ≡ [] → get (slice_cmp nat_cmp) m q ≡ None
    no_entry m q e = rw e refl
