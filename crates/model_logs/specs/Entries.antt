-- The octets of entries of logs. Numbers are big-endian.
use Rattle.std.specs.Prelude.{◌≡◌, ◌==◌, ◌<◌, ◌^◌, ℕ, List, [], ◌∷◌, ◌++◌, Bool, true, false, length, flat_map}
use Rattle.std.specs.List.{AllByRecursion}
use Rattle.std.specs.Int.{w16, w32, w64, to_be_bytes}
use Rattle.mdbox_base.specs.Words.{IsName}
use Rattle.mdbox_base.specs.declared.entries.InstRow.{InstRow}
use Rattle.mdbox_base.specs.declared.entries.MapEntry.{MapEntry}
use Rattle.mdbox_base.specs.declared.entries.MapEntry.TheVariants as map
use Rattle.mdbox_base.specs.declared.entries.BoxEntry.{BoxEntry}
use Rattle.mdbox_base.specs.declared.entries.BoxEntry.TheVariants as box
use Rattle.mdbox_base.specs.declared.entries.RootEntry.{RootEntry}
use Rattle.mdbox_base.specs.declared.entries.RootEntry.TheVariants as root

-- a number in four octets
abbrev pub four : ℕ → List ℕ
four n = to_be_bytes w32 n

-- a list: the number of items in four octets, and the items
abbrev pub list_text : {X : Type 0} → (X → List ℕ) → List X → List ℕ
list_text item items = four (length items) ++ flat_map item items

-- a name: its length in one octet, and its octets
abbrev pub name_text : List ℕ → List ℕ
name_text name = length name ∷ name

-- The text of a root entry: a letter, and the fields.
abbrev pub root_text : RootEntry → List ℕ
root_text (root.M generation) = 77 ∷ four generation

-- a list of keywords: their number in one octet, and each with its length before it
abbrev pub words_text : List (List ℕ) → List ℕ
words_text words = length words ∷ flat_map name_text words

-- what stands behind the GUID of an added message: its keywords, where the log has them
abbrev pub added_words : Bool → List (List ℕ) → List ℕ
added_words true words = words_text words
added_words false words = []

-- The text of an entry of a mailbox log of this version. One of version 1 has no keywords.
abbrev pub text_in : ℕ → BoxEntry → List ℕ
text_in version (box.N next) = 78 ∷ four next
text_in version (box.A uid flags time size map_uid guid words) =
    65 ∷ (four uid.0 ++ (flags ∷ (to_be_bytes w64 time ++ (four size ++ (four map_uid.0 ++ (guid.0 ++ added_words (version == 2) words))))))
text_in version (box.F uid flags) = 70 ∷ (four uid.0 ++ flags ∷ [])
text_in version (box.K uid words) = 75 ∷ (four uid.0 ++ words_text words)
text_in version (box.R uid) = 82 ∷ four uid.0

-- the text in the version that is written
abbrev pub box_text : BoxEntry → List ℕ
box_text = text_in 2

-- an instance in a map entry: hash, id and size
abbrev pub instance_row_text : InstRow → List ℕ
instance_row_text row = row.hash.0 ++ (row.id.0 ++ four row.size)

-- The text of an entry of the map log.
abbrev pub map_text : MapEntry → List ℕ
map_text (map.H h) = 72 ∷ (four h.file ++ (four h.map ++ (four h.instance ++ four h.mailbox)))
map_text (map.B mailbox generation name) = 66 ∷ (four mailbox.0 ++ (four generation ++ name_text name))
map_text (map.G mailbox generation) = 71 ∷ (four mailbox.0 ++ four generation)
map_text (map.S origin count uid file offset size guid instances) =
    83 ∷ origin ∷ (to_be_bytes w16 count ++ (four uid.0 ++ (four file.0 ++ (four offset ++ (four size ++ (guid.0
    ++ (to_be_bytes w16 (length instances) ++ flat_map instance_row_text instances)))))))
map_text (map.U uid) = 85 ∷ four uid.0
map_text (map.D uids) = 68 ∷ list_text (λ u. four u.0) uids
map_text (map.T counts) = 84 ∷ list_text (λ c. four c.uid.0 ++ to_be_bytes w16 c.count) counts
map_text (map.P file target moved dropped) =
    80 ∷ (four file.0 ++ (four target ++ (list_text (λ p. four p.uid.0 ++ four p.offset) moved ++ list_text (λ u. four u.0) dropped)))
map_text (map.E file) = 69 ∷ four file.0
map_text (map.X mailbox amounts) = 88 ∷ (four mailbox.0 ++ list_text (λ c. four c.uid.0 ++ to_be_bytes w16 c.count) amounts)
map_text (map.V mailbox name) = 86 ∷ (four mailbox.0 ++ name_text name)

-- The numbers of an entry fit their widths, its lists and ids have the lengths that their widths allow, its name is one.
abbrev pub RootInRange : RootEntry → Type 0
RootInRange (root.M generation) = generation < 2 ^ 32

-- fewer than 256 keywords of fewer than 256 octets each; none where the log has no keywords
abbrev pub WordsInRange : Bool → List (List ℕ) → Type 0
WordsInRange true words = (length words < 256) × AllByRecursion (λ word. length word < 256) words
WordsInRange false words = words ≡ []

-- keywords are set only where the log has them
abbrev pub SetInRange : Bool → List (List ℕ) → Type 0
SetInRange true words = WordsInRange true words
SetInRange false words = ⊥

-- of an entry of a mailbox log of this version
abbrev pub InRangeIn : ℕ → BoxEntry → Type 0
InRangeIn version (box.N next) = next < 2 ^ 32
InRangeIn version (box.A uid flags time size map_uid guid words) = (uid.0 < 2 ^ 32) × (flags < 256) × (time < 2 ^ 64) × (size < 2 ^ 32) × (map_uid.0 < 2 ^ 32) × (length guid.0 ≡ 16)
    × WordsInRange (version == 2) words
InRangeIn version (box.F uid flags) = (uid.0 < 2 ^ 32) × (flags < 256)
InRangeIn version (box.K uid words) = (uid.0 < 2 ^ 32) × SetInRange (version == 2) words
InRangeIn version (box.R uid) = uid.0 < 2 ^ 32

-- in the version that is written
abbrev pub BoxInRange : BoxEntry → Type 0
BoxInRange = InRangeIn 2

abbrev pub RowInRange : InstRow → Type 0
RowInRange row = (length row.hash.0 ≡ 20) × (length row.id.0 ≡ 16) × (row.size < 2 ^ 32)

abbrev pub MapInRange : MapEntry → Type 0
MapInRange (map.H h) = (h.file < 2 ^ 32) × (h.map < 2 ^ 32) × (h.instance < 2 ^ 32) × (h.mailbox < 2 ^ 32)
MapInRange (map.B mailbox generation name) = (mailbox.0 < 2 ^ 32) × (generation < 2 ^ 32) × IsName name
MapInRange (map.G mailbox generation) = (mailbox.0 < 2 ^ 32) × (generation < 2 ^ 32)
MapInRange (map.S origin count uid file offset size guid instances) =
    (origin < 256) × (count < 2 ^ 16) × (uid.0 < 2 ^ 32) × (file.0 < 2 ^ 32) × (offset < 2 ^ 32) × (size < 2 ^ 32) × (length guid.0 ≡ 16)
    × (length instances < 2 ^ 16) × AllByRecursion RowInRange instances
MapInRange (map.U uid) = uid.0 < 2 ^ 32
MapInRange (map.D uids) = (length uids < 2 ^ 32) × AllByRecursion (λ u. u.0 < 2 ^ 32) uids
MapInRange (map.T counts) = (length counts < 2 ^ 32) × AllByRecursion (λ c. (c.uid.0 < 2 ^ 32) × (c.count < 2 ^ 16)) counts
MapInRange (map.P file target moved dropped) = (file.0 < 2 ^ 32) × (target < 2 ^ 32) × (length moved < 2 ^ 32) × (length dropped < 2 ^ 32)
    × AllByRecursion (λ p. (p.uid.0 < 2 ^ 32) × (p.offset < 2 ^ 32)) moved × AllByRecursion (λ u. u.0 < 2 ^ 32) dropped
MapInRange (map.E file) = file.0 < 2 ^ 32
MapInRange (map.X mailbox amounts) = (mailbox.0 < 2 ^ 32) × (length amounts < 2 ^ 32) × AllByRecursion (λ c. (c.uid.0 < 2 ^ 32) × (c.count < 2 ^ 16)) amounts
MapInRange (map.V mailbox name) = (mailbox.0 < 2 ^ 32) × IsName name

-- The octets are one entry.
pub record IsRootText (octets : List ℕ) (entry : RootEntry) : Type 0 where
  pub text : octets ≡ root_text entry
  pub in_range : RootInRange entry

pub record IsBoxText (version : ℕ) (octets : List ℕ) (entry : BoxEntry) : Type 0 where
  pub text : octets ≡ text_in version entry
  pub in_range : InRangeIn version entry

pub record IsMapText (octets : List ℕ) (entry : MapEntry) : Type 0 where
  pub text : octets ≡ map_text entry
  pub in_range : MapInRange entry

-- no two in range have one text
abbrev pub HasOneText : {X : Type 0} → (X → List ℕ) → (X → Type 0) → Type 0
HasOneText text InRange = (a b : _) → InRange a → InRange b → text a ≡ text b → a ≡ b
