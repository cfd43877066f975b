-- An image stands for one lists at most.
use Rattle.std.specs.Prelude.{◌≡◌, ℕ, List, [], ◌∷◌, ◌++◌, map, take, drop, refl, Option, Some}
use Rattle.std.specs.List.{AllByRecursion}
use Rattle.std.proofs.Common.{sym, ◌∙◌, ap, subst}
use Rattle.disk_model.specs.Disk.{Files}
use Rattle.disk_model.specs.declared.name.FileName.{FileName}
use Rattle.disk_model.specs.declared.name.FileName.TheVariants as file
use Rattle.model_logs.specs.declared.log_head.LogHead.{LogHead}
use Rattle.model_logs.specs.declared.log_head.LogKind.TheVariants as kind
use Rattle.mdbox_base.specs.declared.entries.InstRow.{InstRow}
use Rattle.mdbox_base.specs.declared.entries.MapEntry.{MapEntry}
use Rattle.mdbox_base.specs.declared.entries.BoxEntry.{BoxEntry}
use Rattle.mdbox_base.specs.declared.entries.RootEntry.TheVariants as root
use Rattle.mdbox_base.specs.declared.metadata.ExtRef.{ExtRef}
use Rattle.model_lists.specs.Lists.{ListedMessage, Mailbox, Lists}
use Rattle.model_meaning.specs.BoxMeaning.{LogRow, rows_after, next_after}
use Rattle.model_meaning.specs.MapMeaning.{MapRecord, MapBox, MapMeaning, map_meaning}
use Rattle.model_logs.specs.LogFile.{IsLog}
use Rattle.model_logs.proofs.LogFileLemmas.{one_log}
use Rattle.model_storage.specs.StorageFile.{Message, IsMessage}
use Rattle.model_storage.proofs.FileLemmas.{message_same}
use Rattle.model_storage.specs.Metadata.{IsMetadata}
use Rattle.model_storage.proofs.MetadataLemmas.{metadata_same}
use Rattle.model_attach.specs.Rejoined.{IsWhole}
use Rattle.model_attach.proofs.RejoinedLemmas.{whole_same}
use Rattle.model_logs.specs.Entries.{root_text, map_text, box_text, RootInRange, MapInRange, BoxInRange, HasOneText}
use Rattle.model_logs.proofs.EntryLemmas.{texts_same, root_one, box_one}
use Rattle.model_logs.proofs.MapEntryLemmas.{map_one}
use Rattle.model_store.specs.Stands.{head_of, HasLog, HasRoot, HasMap, HasInstances, StoresMessage, IsListed, AreListed, IsMailbox, AreMailboxes, Stands}

some_same : {X : Type 0} → (o : Option X) (a b : X) → o ≡ Some a → o ≡ Some b → a ≡ b
some_same o a b p q = let h : Some a ≡ Some b = sym p ∙ q in cc h

-- the last of a list is one
last_same : {X : Type 0} → (xs ys : List X) (a b : X) → xs ++ a ∷ [] ≡ ys ++ b ∷ [] → a ≡ b
last_same [] [] a b e = cc e
last_same [] (y ∷ ys) a b e = absurd (no_tail ys b (let t : [] ≡ ys ++ b ∷ [] = cc in t))
  where
    no_tail : {X : Type 0} → (ys : List X) (b : X) → [] ≡ ys ++ b ∷ [] → ⊥
    no_tail [] b e = cc e
    no_tail (y ∷ ys) b e = cc e
last_same (x ∷ xs) [] a b e = absurd (no_tail xs a (let t : [] ≡ xs ++ a ∷ [] = cc in t))
  where
    no_tail : {X : Type 0} → (ys : List X) (b : X) → [] ≡ ys ++ b ∷ [] → ⊥
    no_tail [] b e = cc e
    no_tail (y ∷ ys) b e = cc e
last_same (x ∷ xs) (y ∷ ys) a b e = last_same xs ys a b (let t : xs ++ a ∷ [] ≡ ys ++ b ∷ [] = cc in t)

-- instances are found as one row of octets
pub instances_same : (image : Files) (rows : List InstRow) (is js : List (List ℕ)) → HasInstances image rows is → HasInstances image rows js → is ≡ js
instances_same image [] [] [] a b = refl
instances_same image [] [] (j ∷ js) a b = absurd b
instances_same image [] (i ∷ is) js a b = absurd a
instances_same image (r ∷ rows) [] js a b = absurd a
instances_same image (r ∷ rows) (i ∷ is) [] a b = absurd b
instances_same image (r ∷ rows) (i ∷ is) (j ∷ js) a b =
    let h : i ≡ j = some_same (image (file.Inst r.hash.0 r.id.0)) i j a.0 b.0 in
    let t : is ≡ js = instances_same image rows is js a.1 b.1 in
    cc (h, t)

whole_along : (w v b1 b2 : List ℕ) (r1 r2 : List ExtRef) (i1 i2 : List (List ℕ)) → b1 ≡ b2 → r1 ≡ r2 → i1 ≡ i2 → IsWhole w b1 r1 i1 → IsWhole v b2 r2 i2 → w ≡ v
whole_along w v b1 b2 r1 r2 i1 i2 e1 e2 e3 a b =
    whole_same 0 w v b2 r2 i2
    (subst (λ (o : List ℕ). IsWhole w o r2 i2) e1 (subst (λ (o : List ExtRef). IsWhole w b1 o i2) e2 (subst (λ (o : List (List ℕ)). IsWhole w b1 r1 o) e3 a))) b

region_same : (f1 f2 : List ℕ) (row : MapRecord) (m n : Message) → f1 ≡ f2 → IsMessage (take row.size (drop row.offset f1)) m → IsMessage (take row.size (drop row.offset f2)) n → m ≡ n
region_same f1 f2 row m n e a b =
    let a2 = subst (λ (o : List ℕ). IsMessage (take row.size (drop row.offset o)) m) e a in
    (message_same _ _ [] [] m n a2 b refl).1

-- a record stores one text at most
pub kept_same : (image : Files) (row : MapRecord) (x y : List ℕ) → StoresMessage image row x → StoresMessage image row y → x ≡ y
kept_same image row x y a b =
    let stored = some_same (image (file.Mail row.file)) a.stored.octets_there b.stored.octets_there a.stored.there b.stored.there in
    let m = region_same a.stored.octets_there b.stored.octets_there row a.stored.message b.stored.message stored a.stored.region b.stored.region in
    let meta = metadata_same b.stored.message.lines a.stored.meta b.stored.meta (subst (λ (o : Message). IsMetadata o.lines a.stored.meta) m a.stored.says) b.stored.says in
    let i = instances_same image row.instances a.instances b.instances a.found b.found in
    whole_along x y a.stored.message.body b.stored.message.body a.stored.meta.refs b.stored.meta.refs a.instances b.instances (ap (λ (o : Message). o.body) m) (ap (λ o. o.refs) meta) i a.whole b.whole

made_message : ℕ → ℕ → ℕ → List ℕ → List ℕ → List (List ℕ) → ListedMessage
made_message uid flags time guid octets words = record { uid = uid; flags = flags; time = time; guid = guid; octets = octets; words = words }

message_equal : (a b : ListedMessage) → a.uid ≡ b.uid → a.flags ≡ b.flags → a.time ≡ b.time → a.guid ≡ b.guid → a.octets ≡ b.octets → a.words ≡ b.words → a ≡ b
unfolding made_message
message_equal a b e1 e2 e3 e4 e5 e6 = let h : made_message a.uid a.flags a.time a.guid a.octets a.words ≡ made_message b.uid b.flags b.time b.guid b.octets b.words = cc in h

listed_same : (image : Files) (m : MapMeaning) (row : LogRow) (x y : ListedMessage) → IsListed image m row x → IsListed image m row y → x ≡ y
listed_same image m row x y a b =
    let e : a.entry ≡ b.entry = some_same _ a.entry b.entry a.found b.found in
    let o : x.octets ≡ y.octets = kept_same image b.entry x.octets y.octets (subst (λ (r : MapRecord). StoresMessage image r x.octets) e a.octets) b.octets in
    message_equal x y (a.uid ∙ sym b.uid) (a.flags ∙ sym b.flags) (a.time ∙ sym b.time) (a.guid ∙ sym b.guid) o (a.words ∙ sym b.words)

rows_same : (image : Files) (m : MapMeaning) (rows : List LogRow) (xs ys : List ListedMessage) → AreListed image m rows xs → AreListed image m rows ys → xs ≡ ys
rows_same image m [] [] [] a b = refl
rows_same image m [] [] (y ∷ ys) a b = absurd b
rows_same image m [] (x ∷ xs) ys a b = absurd a
rows_same image m (r ∷ rows) [] ys a b = absurd a
rows_same image m (r ∷ rows) (x ∷ xs) [] a b = absurd b
rows_same image m (r ∷ rows) (x ∷ xs) (y ∷ ys) a b =
    let h : x ≡ y = listed_same image m r x y a.0 b.0 in
    let t : xs ≡ ys = rows_same image m rows xs ys a.1 b.1 in
    cc (h, t)

-- two logs in one file have one head and one list of entries
pub log_same : {X : Type 0} → (text : X → List ℕ) (InRange : X → Type 0) → HasOneText text InRange → (image : Files) (name : FileName) (h k : LogHead) (xs ys : List X) →
    AllByRecursion InRange xs → AllByRecursion InRange ys → HasLog image name h (map text xs) → HasLog image name k (map text ys) → (h ≡ k) × (xs ≡ ys)
log_same text InRange one image name h k xs ys p q a b =
    let o = some_same (image name) a.octets b.octets a.there b.there in
    let r = one_log b.octets h k _ _ (subst (λ (x : List ℕ). IsLog x h (map text xs)) o a.whole) b.whole in
    (r.0, texts_same text InRange one xs ys p q r.1)

made_mailbox : ℕ → List ℕ → ℕ → List ListedMessage → Mailbox
made_mailbox number name next messages = record { number = number; name = name; next_uid = next; messages = messages }

mailbox_same : (image : Files) (m : MapMeaning) (box : MapBox) (x y : Mailbox) → IsMailbox image m box x → IsMailbox image m box y → x ≡ y
unfolding made_mailbox
mailbox_same image m box x y a b =
    let es : a.entries ≡ b.entries = (log_same box_text BoxInRange (box_one 2) image _ _ _ a.entries b.entries a.log.in_range b.log.in_range a.log.log b.log.log).1 in
    let messages : x.messages ≡ y.messages = rows_same image m (rows_after b.entries) x.messages y.messages (subst (λ (o : List BoxEntry). AreListed image m (rows_after o) x.messages) es a.messages) b.messages in
    let next : x.next_uid ≡ y.next_uid = a.next ∙ ap next_after es ∙ sym b.next in
    let name : x.name ≡ y.name = a.name ∙ sym b.name in
    let number : x.number ≡ y.number = a.number ∙ sym b.number in
    let h : made_mailbox x.number x.name x.next_uid x.messages ≡ made_mailbox y.number y.name y.next_uid y.messages = cc in h

boxes_same : (image : Files) (m : MapMeaning) (bs : List MapBox) (xs ys : Lists) → AreMailboxes image m bs xs → AreMailboxes image m bs ys → xs ≡ ys
boxes_same image m [] [] [] a b = refl
boxes_same image m [] [] (y ∷ ys) a b = absurd b
boxes_same image m [] (x ∷ xs) ys a b = absurd a
boxes_same image m (box ∷ bs) [] ys a b = absurd a
boxes_same image m (box ∷ bs) (x ∷ xs) [] a b = absurd b
boxes_same image m (box ∷ bs) (x ∷ xs) (y ∷ ys) a b =
    let h : x ≡ y = mailbox_same image m box x y a.0 b.0 in
    let r : xs ≡ ys = boxes_same image m bs xs ys a.1 b.1 in
    cc (h, r)

generation_of : (g h : ℕ) → root.M g ≡ root.M h → g ≡ h
generation_of g h e = cc

-- the root log names one generation, of one store
pub root_same : (image : Files) (s t : List ℕ) (g h : ℕ) → HasRoot image s g → HasRoot image t h → (s ≡ t) × (g ≡ h)
root_same image s t g h a b =
    let r = log_same root_text RootInRange root_one image file.Root _ _ _ _ a.in_range b.in_range a.log b.log in
    (ap (λ (k : LogHead). k.store.0) r.0, generation_of g h (last_same a.before b.before _ _ r.1))

-- an image has one store id and one list of map entries at most
pub map_same : (image : Files) (s t : List ℕ) (es fs : List MapEntry) → HasMap image s es → HasMap image t fs → (s ≡ t) × (es ≡ fs)
map_same image s t es fs a b =
    let r = root_same image s t a.generation b.generation a.root b.root in
    let log = subst (λ (n : ℕ). HasLog image (file.Map n) (head_of s kind.Map 0 a.generation) (map map_text es)) r.1 a.log in
    (r.0, (log_same map_text MapInRange map_one image (file.Map b.generation) (head_of s kind.Map 0 a.generation) (head_of t kind.Map 0 b.generation) es fs a.in_range b.in_range log b.log).1)

-- An image stands for one lists at most.
pub stands_once : (image : Files) (xs ys : Lists) → Stands image xs → Stands image ys → xs ≡ ys
stands_once image xs ys a b =
    let r = map_same image a.store b.store a.entries b.entries a.by.map_log b.by.map_log in
    let m : map_meaning a.store a.entries ≡ map_meaning b.store b.entries = both (λ (s : List ℕ) (es : List MapEntry). map_meaning s es) r.0 r.1 in
    boxes_same image (map_meaning b.store b.entries) (map_meaning b.store b.entries).boxes xs ys
    (subst (λ (o : MapMeaning). AreMailboxes image o o.boxes xs) m a.by.mailboxes) b.by.mailboxes
  where
    both : {X Y Z : Type 0} → (f : X → Y → Z) {x x' : X} {y y' : Y} → x ≡ x' → y ≡ y' → f x y ≡ f x' y'
    both f p q = cc (p, q)

-- images of the same files are one
pub same_image : (c d : Files) → ((name : FileName) → c name ≡ d name) → c ≡ d
same_image c d h = λ i. λ name. h name i

-- the same files stand for the same lists
pub stands_along : (c d : Files) (lists : Lists) → ((name : FileName) → c name ≡ d name) → Stands d lists → Stands c lists
stands_along c d lists h s = subst (λ (image : Files). Stands image lists) (sym (same_image c d h)) s
