-- Fields that no entry of a letter has.
use Rattle.std.specs.Prelude.{◌≡◌, ◌<◌, ◌^◌, ℕ, List, ◌∷◌, ◌++◌, length, flat_map}
use Rattle.std.specs.List.{AllByRecursion}
use Rattle.std.specs.Int.{w16, to_be_bytes}
use Rattle.mdbox_base.specs.Words.{IsName}
use Rattle.mdbox_base.specs.declared.ids.FileNo.{FileNo}
use Rattle.mdbox_base.specs.declared.ids.Guid.{Guid}
use Rattle.mdbox_base.specs.declared.ids.MapUid.{MapUid}
use Rattle.mdbox_base.specs.declared.entries.InstRow.{InstRow}
use Rattle.mdbox_base.specs.declared.entries.MapCount.{MapCount}
use Rattle.mdbox_base.specs.declared.entries.MapPlace.{MapPlace}
use Rattle.model_logs.specs.Entries.{four, list_text, name_text, instance_row_text, RowInRange}

abbrev pub IsNotMade : List ℕ → Type 0
IsNotMade fields = (mailbox generation : ℕ) (name : List ℕ) → mailbox < 2 ^ 32 → generation < 2 ^ 32 → IsName name → fields ≡ four mailbox ++ (four generation ++ name_text name) → ⊥

abbrev pub IsNotStored : List ℕ → Type 0
IsNotStored fields = (origin count : ℕ) (uid : MapUid) (file : FileNo) (offset size : ℕ) (guid : Guid) (instances : List InstRow) → length guid.0 ≡ 16 → length instances < 2 ^ 16 → AllByRecursion RowInRange instances
    → fields ≡ origin ∷ (to_be_bytes w16 count ++ (four uid.0 ++ (four file.0 ++ (four offset ++ (four size ++ (guid.0 ++ (to_be_bytes w16 (length instances) ++ flat_map instance_row_text instances))))))) → ⊥

abbrev pub IsNotLowered : List ℕ → Type 0
IsNotLowered fields = (uids : List MapUid) → length uids < 2 ^ 32 → AllByRecursion (λ u. u.0 < 2 ^ 32) uids → fields ≡ list_text (λ u. four u.0) uids → ⊥

abbrev pub IsNotCounted : List ℕ → Type 0
IsNotCounted fields = (counts : List MapCount) → length counts < 2 ^ 32 → AllByRecursion (λ c. (c.uid.0 < 2 ^ 32) × (c.count < 2 ^ 16)) counts
    → fields ≡ list_text (λ c. four c.uid.0 ++ to_be_bytes w16 c.count) counts → ⊥

abbrev pub IsNotPurged : List ℕ → Type 0
IsNotPurged fields = (file target : ℕ) (moved : List MapPlace) (dropped : List MapUid) → file < 2 ^ 32 → target < 2 ^ 32 → length moved < 2 ^ 32 → length dropped < 2 ^ 32
    → AllByRecursion (λ p. (p.uid.0 < 2 ^ 32) × (p.offset < 2 ^ 32)) moved → AllByRecursion (λ u. u.0 < 2 ^ 32) dropped
    → fields ≡ four file ++ (four target ++ (list_text (λ p. four p.uid.0 ++ four p.offset) moved ++ list_text (λ u. four u.0) dropped)) → ⊥

abbrev pub IsNotDeleted : List ℕ → Type 0
IsNotDeleted fields = (mailbox : ℕ) (amounts : List MapCount) → mailbox < 2 ^ 32 → length amounts < 2 ^ 32 → AllByRecursion (λ c. (c.uid.0 < 2 ^ 32) × (c.count < 2 ^ 16)) amounts
    → fields ≡ four mailbox ++ list_text (λ c. four c.uid.0 ++ to_be_bytes w16 c.count) amounts → ⊥

abbrev pub IsNotRenamed : List ℕ → Type 0
IsNotRenamed fields = (mailbox : ℕ) (name : List ℕ) → mailbox < 2 ^ 32 → IsName name → fields ≡ four mailbox ++ name_text name → ⊥
