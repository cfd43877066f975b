-- Entries that are replayed, and such as are refused.
use Rattle.std.proofs.Common.{◌≡◌, ℕ, List, [], ◌∷◌, ◌++◌, map, Option, Some, None, MatchOption, refl, sym, ◌∙◌, ap, subst}
use Rattle.std.proofs.lemmas.List.{map-append}
use Rattle.std.proofs.lemmas.Option.{MatchOption-at_some, MatchOption-at_none}
use Rattle.mdbox_base.specs.declared.entries.BoxEntry.{BoxEntry}
use Rattle.mdbox_base.specs.declared.entries.RootEntry.{RootEntry}
use Rattle.mdbox_base.specs.declared.entries.RootEntry.TheVariants as root
use Rattle.model_meaning.specs.BoxMeaning.{BoxMeaning, box_meaning, box_applied, BoxFits}
use Rattle.model_meaning.proofs.BoxLemmas.{box_more}
use Rattle.model_meaning.specs.MapMeaning.{MapMeaning, map_meaning, map_applied}
use Rattle.model_meaning.specs.MapFits.{MapFits}
use Rattle.model_meaning.proofs.MapLemmas.{map_more}
use Rattle.model_logs.proofs.MapEntryLemmas.{map_one}
use Rattle.model_store.specs.Opening.{AreMapEntries}
use Rattle.mdbox_base.specs.declared.entries.MapEntry.{MapEntry}
use Rattle.model_logs.specs.Entries.{root_text, box_text, map_text, RootInRange, BoxInRange, MapInRange, IsRootText, IsBoxText, IsMapText}
use Rattle.model_logs.proofs.EntryLemmas.{box_one}
use Rattle.model_meaning.proofs.FitLemmas.{each_more, each_of, box_fit_more, box_fit_of, map_fit_more, map_fit_of}
use Rattle.store_checks.specs.Replays.{IsRootReplay, IsBoxReplay, IsMapReplay, RefusesRoot, RefusesBox, RefusesMap, generation_of}

more_texts : {E : Type 0} → (text : E → List ℕ) (texts : List (List ℕ)) (entries : List E) (one : List ℕ) (entry : E) → texts ≡ map text entries → one ≡ text entry → texts ++ one ∷ [] ≡ map text (entries ++ entry ∷ [])
more_texts text texts entries one entry e f = ap (λ (ts : List (List ℕ)). ts ++ one ∷ []) e ∙ ap (λ (t : List ℕ). map text entries ++ t ∷ []) f ∙ sym (map-append text entries (entry ∷ []))

-- ---- the root log

pub root_taken : (last : Option ℕ) (texts : List (List ℕ)) (one : List ℕ) (entry : RootEntry) (generation : ℕ) → generation ≡ generation_of entry → IsRootText one entry → IsRootReplay last texts → IsRootReplay (Some generation) (texts ++ one ∷ [])
root_taken last texts one (root.M g) generation e is f = subst (λ (n : ℕ). IsRootReplay (Some n) (texts ++ one ∷ [])) (sym e) (record {
  entries = f.entries ++ root.M g ∷ [];
  texts_are = more_texts root_text texts f.entries one (root.M g) f.texts_are is.text;
  good = each_more RootInRange f.entries (root.M g) f.good is.in_range;
  last_is = (f.entries, refl);
})

pub root_refused : (text : List ℕ) → ((other : RootEntry) → IsRootText text other → ⊥) → RefusesRoot text
root_refused text none before entry is good = none entry (record { text = is; in_range = (each_of RootInRange before [] entry good).1 })

-- ---- a mailbox log

pub box_taken : (old new : BoxMeaning) (texts : List (List ℕ)) (one : List ℕ) (entry : BoxEntry) → IsBoxText 2 one entry → BoxFits old entry → new ≡ box_applied entry old → IsBoxReplay old texts → IsBoxReplay new (texts ++ one ∷ [])
box_taken old new texts one entry is fits e f = record {
  entries = f.entries ++ entry ∷ [];
  texts_are = more_texts box_text texts f.entries one entry f.texts_are is.text;
  good = (each_more BoxInRange f.entries entry f.good.0 is.in_range, box_fit_more [] f.entries entry f.good.1 (subst (λ (m : BoxMeaning). BoxFits m entry) f.meaning fits));
  meaning = e ∙ ap (box_applied entry) f.meaning ∙ sym (box_more f.entries entry);
}

pub box_no_entry : (m : BoxMeaning) (text : List ℕ) → ((other : BoxEntry) → IsBoxText 2 text other → ⊥) → RefusesBox m text
box_no_entry m text none before entry _ is good = none entry (record { text = is; in_range = (each_of BoxInRange before [] entry good.0).1 })

pub box_misfit : (m : BoxMeaning) (text : List ℕ) (one : BoxEntry) → IsBoxText 2 text one → (BoxFits m one → ⊥) → RefusesBox m text
box_misfit m text one has misfit before entry means is good =
    let range : BoxInRange entry = (each_of BoxInRange before [] entry good.0).1 in
    let same : entry ≡ one = box_one 2 entry one range has.in_range (sym is ∙ has.text) in
    let fits : BoxFits (box_meaning before) entry = (box_fit_of [] before [] entry good.1).1 in
    misfit (subst (λ (e : BoxEntry). BoxFits m e) same (subst (λ (k : BoxMeaning). BoxFits k entry) (sym means) fits))

-- ---- the map log

pub map_taken : (old new : MapMeaning) (texts : List (List ℕ)) (one : List ℕ) (entry : MapEntry) → IsMapText one entry → MapFits old entry → new ≡ map_applied entry old → IsMapReplay old texts → IsMapReplay new (texts ++ one ∷ [])
map_taken old new texts one entry is fits e f =
    let same : old.store ≡ new.store = sym (ap (λ (m : MapMeaning). m.store) e) in
    let more : new ≡ map_meaning old.store (f.entries ++ entry ∷ []) = e ∙ ap (map_applied entry) f.meaning ∙ sym (map_more old.store f.entries entry) in
    let fits' : MapFits (map_meaning old.store f.entries) entry = subst (λ (m : MapMeaning). MapFits m entry) f.meaning fits in
    let good : AreMapEntries old.store (f.entries ++ entry ∷ []) = (each_more MapInRange f.entries entry f.good.0 is.in_range, map_fit_more old.store [] f.entries entry f.good.1 fits') in
    record {
      entries = f.entries ++ entry ∷ [];
      texts_are = more_texts map_text texts f.entries one entry f.texts_are is.text;
      good = subst (λ (s : List ℕ). AreMapEntries s (f.entries ++ entry ∷ [])) same good;
      meaning = more ∙ ap (λ (s : List ℕ). map_meaning s (f.entries ++ entry ∷ [])) same;
    }

pub map_no_entry : (m : MapMeaning) (text : List ℕ) → ((other : MapEntry) → IsMapText text other → ⊥) → RefusesMap m text
map_no_entry m text none before entry _ is good = none entry (record { text = is; in_range = (each_of MapInRange before [] entry good.0).1 })

pub map_misfit : (m : MapMeaning) (text : List ℕ) (one : MapEntry) → IsMapText text one → (MapFits m one → ⊥) → RefusesMap m text
map_misfit m text one has misfit before entry means is good =
    let range : MapInRange entry = (each_of MapInRange before [] entry good.0).1 in
    let same : entry ≡ one = map_one entry one range has.in_range (sym is ∙ has.text) in
    let fits : MapFits (map_meaning m.store before) entry = (map_fit_of m.store [] before [] entry good.1).1 in
    misfit (subst (λ (e : MapEntry). MapFits m e) same (subst (λ (k : MapMeaning). MapFits k entry) (sym means) fits))

-- an entry that was read
pub some_text : {E : Type 0} → (found : Option E) (none : Type 0) (Q : E → Type 0) (one : E) → found ≡ Some one → MatchOption found none Q → Q one
some_text found none Q one e h = MatchOption-at_some none Q one e h

pub none_text : {E : Type 0} → (found : Option E) (none : Type 0) (Q : E → Type 0) → found ≡ None → MatchOption found none Q → none
none_text found none Q e h = MatchOption-at_none none Q e h
