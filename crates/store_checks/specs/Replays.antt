-- What a value means to which the entries of a log are applied, one after another.
use Rattle.std.specs.Prelude.{◌≡◌, ℕ, List, [], ◌∷◌, ◌++◌, map, Option, Some, None}
use Rattle.mdbox_base.specs.declared.entries.BoxEntry.{BoxEntry}
use Rattle.mdbox_base.specs.declared.entries.MapEntry.{MapEntry}
use Rattle.mdbox_base.specs.declared.entries.RootEntry.{RootEntry}
use Rattle.mdbox_base.specs.declared.entries.RootEntry.TheVariants as root
use Rattle.model_meaning.specs.BoxMeaning.{BoxMeaning, box_meaning}
use Rattle.model_meaning.specs.MapMeaning.{MapMeaning, map_meaning}
use Rattle.model_logs.specs.Entries.{root_text, box_text, map_text}
use Rattle.model_store.specs.Opening.{AreRootEntries, AreBoxEntries, AreMapEntries}

-- the generation that a root entry names
abbrev pub generation_of : RootEntry → ℕ
generation_of (root.M generation) = generation

-- the generation that the last entry names, where there is one
abbrev pub NamesLast : Option ℕ → List RootEntry → Type 0
NamesLast None entries = entries ≡ []
NamesLast (Some generation) entries = (before : List RootEntry) × (entries ≡ before ++ root.M generation ∷ [])

-- ---- good entries with these texts, and what they mean

pub record IsRootReplay (last : Option ℕ) (texts : List (List ℕ)) : Type 0 where
  pub entries : List RootEntry
  pub texts_are : texts ≡ map root_text entries
  pub good : AreRootEntries entries
  pub last_is : NamesLast last entries

pub record IsBoxReplay (m : BoxMeaning) (texts : List (List ℕ)) : Type 0 where
  pub entries : List BoxEntry
  pub texts_are : texts ≡ map box_text entries
  pub good : AreBoxEntries entries
  pub meaning : m ≡ box_meaning entries

pub record IsMapReplay (m : MapMeaning) (texts : List (List ℕ)) : Type 0 where
  pub entries : List MapEntry
  pub texts_are : texts ≡ map map_text entries
  pub good : AreMapEntries m.store entries
  pub meaning : m ≡ map_meaning m.store entries

-- ---- no entry with this text is good behind entries of this meaning

abbrev pub RefusesRoot : List ℕ → Type 0
RefusesRoot text = (before : List RootEntry) (entry : RootEntry) → text ≡ root_text entry → AreRootEntries (before ++ entry ∷ []) → ⊥

abbrev pub RefusesBox : BoxMeaning → List ℕ → Type 0
RefusesBox m text = (before : List BoxEntry) (entry : BoxEntry) → m ≡ box_meaning before → text ≡ box_text entry → AreBoxEntries (before ++ entry ∷ []) → ⊥

abbrev pub RefusesMap : MapMeaning → List ℕ → Type 0
RefusesMap m text = (before : List MapEntry) (entry : MapEntry) → m ≡ map_meaning m.store before → text ≡ map_text entry → AreMapEntries m.store (before ++ entry ∷ []) → ⊥
