-- The hash that is kept of each id.
use Rattle.std.proofs.Common.{refl, ◌≡◌, ℕ, Bool, true, false, List, [], ◌∷◌, ◌++◌, sym, ◌∙◌, ap, subst, append_assoc, append-nil, cond, Some}
use Rattle.std.proofs.lemmas.List.Folds.{list_any-append}
use Rattle.std.proofs.lemmas.Map.Text.{is_eq-slice_cmp}
use Rattle.std.specs.BTreeMap.{BTreeMap, get, is_at}
use Rattle.std.specs.Cmp.Lexicographic.{slice_cmp}
use Rattle.std.specs.List.{list_any}
use Rattle.std.specs.Ordering.{nat_cmp}
use Rattle.std.specs.Prelude.{◌&&◌, ◌||◌, not}
use Rattle.std.specs.Str.{bytes_eq}
use Rattle.mdbox_base.specs.declared.entries.InstRow.{InstRow}
use Rattle.mdbox_base.specs.declared.ids.Hash.{Hash}
use Rattle.mdbox_base.specs.declared.metadata.ExtRef.{ExtRef}
use Rattle.model_octets.proofs.SearchLemmas.{text_is}
use Rattle.model_taken.specs.NamedInstances.{is_other_hash, names_otherwise}
use Rattle.rebuild_judge.specs.Kept.{AreHashesOf, NameNoOther, is_hash_but, naming}

-- ---- references, one after another

abbrev names_first : List InstRow → ExtRef → List ExtRef → Bool
names_first named ref refs = list_any (λ row. is_other_hash row.hash row.id ref) named || list_any (λ other. is_other_hash ref.hash ref.id other) refs

pub names_yes : (named : List InstRow) (all refs : List ExtRef) (ref : ExtRef) (b : Bool) → all ≡ ref ∷ refs → b ≡ names_first named ref refs → b ≡ true → names_otherwise named all ≡ true
names_yes named all refs ref b parts said t = ap (names_otherwise named) parts ∙ either (list_any (λ row. is_other_hash row.hash row.id ref) named) (list_any (λ other. is_other_hash ref.hash ref.id other) refs) (names_otherwise named refs) (sym said ∙ t)
  where
    either : (a b r : Bool) → (a || b) ≡ true → (a || (b || r)) ≡ true
    either true b r e = refl
    either false true r e = refl
    either false false r e = absurd (cc e)

pub names_on : (named : List InstRow) (all refs : List ExtRef) (ref : ExtRef) (b : Bool) → all ≡ ref ∷ refs → b ≡ names_first named ref refs → b ≡ false → names_otherwise named all ≡ names_otherwise named refs
names_on named all refs ref b parts said t = ap (names_otherwise named) parts ∙ neither (list_any (λ row. is_other_hash row.hash row.id ref) named) (list_any (λ other. is_other_hash ref.hash ref.id other) refs) (names_otherwise named refs) (sym said ∙ t)
  where
    neither : (a b r : Bool) → (a || b) ≡ false → (a || (b || r)) ≡ r
    neither true b r e = absurd (cc e)
    neither false true r e = absurd (cc e)
    neither false false r e = refl

pub or_left : (r a b : Bool) → r ≡ a → r ≡ true → r ≡ (a || b)
or_left r true b e t = e
or_left r false b e t = absurd (let k : true ≡ false = sym t ∙ e in cc k)

pub or_right : (x r a b : Bool) → x ≡ a → x ≡ false → r ≡ b → r ≡ (a || b)
or_right x r true b e t is = absurd (let k : true ≡ false = sym e ∙ t in cc k)
or_right x r false b e t is = is

-- ---- one instance more

-- some instance has this id with another hash
abbrev has_otherwise : List InstRow → List ℕ → List ℕ → Bool
has_otherwise named id hash = list_any (λ row. bytes_eq row.id.0 id && not (bytes_eq row.hash.0 hash)) named

hash_here : (named : List InstRow) (row : InstRow) (ref : ExtRef) (b : Bool) → has_otherwise named row.id.0 row.hash.0 ≡ false → row.id.0 ≡ ref.id.0 → bytes_eq row.hash.0 ref.hash.0 ≡ b
    → (has_otherwise named ref.id.0 ref.hash.0 || (not b || false)) ≡ not b
hash_here named row ref true none id h = ap (λ (x : List ℕ). has_otherwise named x ref.hash.0 || (not true || false)) (sym id) ∙ ap (λ (x : List ℕ). has_otherwise named row.id.0 x || (not true || false)) (sym (text_is row.hash.0 ref.hash.0 h)) ∙ ap (λ (x : Bool). x || (not true || false)) none
hash_here named row ref false none id h = last (has_otherwise named ref.id.0 ref.hash.0)
  where
    last : (a : Bool) → (a || (true || false)) ≡ true
    last true = refl
    last false = refl

hash_for : (old new : BTreeMap (List ℕ) Hash) (named : List InstRow) (row : InstRow) (ref : ExtRef) (b : Bool) → AreHashesOf old named → has_otherwise named row.id.0 row.hash.0 ≡ false → bytes_eq row.id.0 ref.id.0 ≡ b
    → get (slice_cmp nat_cmp) new ref.id.0 ≡ cond b (Some row.hash) (get (slice_cmp nat_cmp) old ref.id.0)
    → (has_otherwise named ref.id.0 ref.hash.0 || ((b && not (bytes_eq row.hash.0 ref.hash.0)) || false)) ≡ is_hash_but ref.hash (get (slice_cmp nat_cmp) new ref.id.0)
hash_for old new named row ref true are none e found = hash_here named row ref (bytes_eq row.hash.0 ref.hash.0) none (text_is row.id.0 ref.id.0 e) refl ∙ sym (ap (is_hash_but ref.hash) found)
hash_for old new named row ref false are none e found = same (has_otherwise named ref.id.0 ref.hash.0) ∙ are ref ∙ sym (ap (is_hash_but ref.hash) found)
  where
    same : (a : Bool) → (a || ((false && not (bytes_eq row.hash.0 ref.hash.0)) || false)) ≡ a
    same true = refl
    same false = refl

hash_added : (old new : BTreeMap (List ℕ) Hash) (named : List InstRow) (row : InstRow) → AreHashesOf old named → list_any (λ other. is_other_hash other.hash other.id (naming row)) named ≡ false
    → ((q : List ℕ) → get (slice_cmp nat_cmp) new q ≡ cond (is_at (slice_cmp nat_cmp row.id.0) q) (Some row.hash) (get (slice_cmp nat_cmp) old q)) → AreHashesOf new (named ++ row ∷ [])
hash_added old new named row are none updates = λ ref.
    list_any-append (λ (r : InstRow). is_other_hash r.hash r.id ref) named (row ∷ [])
    ∙ hash_for old new named row ref (bytes_eq row.id.0 ref.id.0) are none refl (updates ref.id.0 ∙ ap (λ (b : Bool). cond b (Some row.hash) (get (slice_cmp nat_cmp) old ref.id.0)) (is_eq-slice_cmp row.id.0 ref.id.0))

-- those before these are added
pub record IsAdding (hashes : BTreeMap (List ℕ) Hash) (named rows rest : List InstRow) : Type 0 where
  pub done : List InstRow
  pub hashes_of : AreHashesOf hashes (named ++ done)
  pub alike : NameNoOther (named ++ done) rest
  pub parts : rows ≡ done ++ rest

pub adding_begins : (hashes : BTreeMap (List ℕ) Hash) (named rows : List InstRow) → AreHashesOf hashes named → NameNoOther named rows → IsAdding hashes named rows rows
adding_begins hashes named rows are alike = record { done = []; hashes_of = subst (AreHashesOf hashes) (sym (append-nil named)) are; alike = subst (λ (ns : List InstRow). NameNoOther ns rows) (sym (append-nil named)) alike; parts = refl }

pub adding_more : (old new : BTreeMap (List ℕ) Hash) (named rows rest others : List InstRow) (row : InstRow) → IsAdding old named rows rest → rest ≡ row ∷ others
    → ((q : List ℕ) → get (slice_cmp nat_cmp) new q ≡ cond (is_at (slice_cmp nat_cmp row.id.0) q) (Some row.hash) (get (slice_cmp nat_cmp) old q)) → IsAdding new named rows others
adding_more old new named rows rest others row was parts updates =
    let alike : NameNoOther (named ++ was.done) (row ∷ others) = subst (NameNoOther (named ++ was.done)) parts was.alike in
    let e : (named ++ was.done) ++ row ∷ [] ≡ named ++ (was.done ++ row ∷ []) = append_assoc named was.done (row ∷ []) in
    record {
      done = was.done ++ row ∷ [];
      hashes_of = subst (AreHashesOf new) e (hash_added old new (named ++ was.done) row was.hashes_of alike.0 updates);
      alike = subst (λ (ns : List InstRow). NameNoOther ns others) e alike.1;
      parts = was.parts ∙ ap (λ (xs : List InstRow). was.done ++ xs) parts ∙ sym (append_assoc was.done (row ∷ []) others);
    }

pub adding_ends : (hashes : BTreeMap (List ℕ) Hash) (named rows : List InstRow) → IsAdding hashes named rows [] → AreHashesOf hashes (named ++ rows)
adding_ends hashes named rows was = let e : was.done ≡ rows = sym (append-nil was.done) ∙ sym was.parts in subst (λ (xs : List InstRow). AreHashesOf hashes (named ++ xs)) e was.hashes_of
