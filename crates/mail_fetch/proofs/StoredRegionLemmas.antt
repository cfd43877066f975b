-- A message that is read piece by piece, as the disk stores it.
use Rattle.mail_fetch.proofs.Common.{◌≡◌, ◌+◌, ℕ, List, [], ◌∷◌, ◌++◌, length, take, drop, map, Some, refl, sym, ◌∙◌, ap, subst, arith, inl, inr, All, append_assoc, append-nil, length-append, sum_by, take-append_seam, take_all, length-take, length-drop, All-head, All-tail, sum_by-cons, Files}
use Rattle.mail_fetch.proofs.Common.{DiskState, InstRow, ExtRef, Reply, LogRow, MapRecord, Message, Metadata, IsThereWhole, files_of, piece_read, next_piece, with_piece, instance_part, left_after, octets_to_read, part_read, parts_to_read, parts_read, pieces_left, region_part, RegionValue}
use Rattle.mail_fetch.proofs.Common.{HoldsWhole, IsReplyFor, IsStoredMessage, stored_at, IsFrontOfStored, IsTrueReply, StoredAt}
use Rattle.std.proofs.Math.Seq.{drop-append_seam}
use Rattle.attach_join.specs.Behind.{octets_in}
use Rattle.disk_model.specs.declared.name.FileName.TheVariants.{Inst}
use Rattle.mdbox_base.specs.declared.replies.Reply.TheVariants as reply
use Rattle.model_attach.specs.Rejoined.{IsWhole, IsWholeFrom, part_text}
use Rattle.model_storage.specs.StorageFile.{IsMessage}
use Rattle.model_store.specs.Stands.{StoresMessage, HasInstances}
use Rattle.mail_fetch.proofs.MessageLemmas.{same_stored}
use Rattle.mail_fetch.proofs.PartLemmas.{reads_after, reads_none, reads_of_parts}

-- ---- the first octets of what is stored

-- one piece more
pub front_more : (region : RegionValue) (octets piece : List ℕ) (disk : DiskState) → IsFrontOfStored region octets (files_of disk) → piece ≡ next_piece region disk → IsFrontOfStored (with_piece region piece) octets (files_of disk)
front_more region octets piece disk f is = record {
  row = f.row;
  entry = f.entry;
  from = f.from;
  listed = f.listed;
  stores = f.stores;
  sizes = f.sizes;
  front =
      append_assoc region.octets piece (parts_read (files_of disk) (left_after region.left))
      ∙ (ap (λ (xs : List ℕ). region.octets ++ xs) (ap (λ (xs : List ℕ). xs ++ parts_read (files_of disk) (left_after region.left)) is ∙ reads_after (files_of disk) region.left)
      ∙ f.front);
}

-- Once all is read, it is all that the files have.
pub front_whole : (region : RegionValue) (octets : List ℕ) (files : Files) → (f : IsFrontOfStored region octets files) → pieces_left region.left ≡ 0 → region.octets ≡ parts_read files (parts_to_read (stored_at f.row f.entry))
front_whole region octets files f none =
    sym (append-nil region.octets)
    ∙ (ap (λ (xs : List ℕ). region.octets ++ xs) (sym (reads_none files region.left none))
    ∙ (f.front ∙ ap (λ (from : StoredAt). parts_read files (parts_to_read from)) f.from))

-- ---- the instances

-- what a file has of an instance that is there with its size
instance_read : (files : Files) (row : InstRow) (octets : List ℕ) → files (Inst row.hash.0 row.id.0) ≡ Some octets → IsThereWhole files row → (part_read files (instance_part row) ≡ octets) × (length octets ≡ row.size)
instance_read files row octets there whole =
    let same : whole.octets ≡ octets = (let k : Some whole.octets ≡ Some octets = sym whole.there ∙ there in cc k) in
    let size : length octets ≡ row.size = ap (λ (xs : List ℕ). length xs) (sym same) ∙ whole.size in
    (ap (piece_read 0 row.size) there ∙ take_all row.size octets (omega (arith, size)), size)

-- all of them, one behind another
all_read : (files : Files) (rows : List InstRow) (instances : List (List ℕ)) → HasInstances files rows instances → All (IsThereWhole files) rows → (octets_in rows (parts_read files (map instance_part rows)) ≡ instances) × (length (parts_read files (map instance_part rows)) ≡ sum_by (λ row. row.size) rows)
all_read files [] [] has whole = (refl, refl)
all_read files [] (octets ∷ rest) has whole = absurd has
all_read files (row ∷ rows) [] has whole = absurd has
all_read files (row ∷ rows) (octets ∷ rest) has whole =
    let one = instance_read files row octets has.0 (All-head (IsThereWhole files) row rows whole) in
    let more = all_read files rows rest has.1 (All-tail (IsThereWhole files) row rows whole) in
    let behind = parts_read files (map instance_part rows) in
    let joined : parts_read files (map instance_part (row ∷ rows)) ≡ octets ++ behind = ap (λ (xs : List ℕ). xs ++ behind) one.0 in
    let first : take row.size (octets ++ behind) ≡ octets = subst (λ (n : ℕ). take n (octets ++ behind) ≡ octets) one.1 (take-append_seam octets behind) in
    let others : drop row.size (octets ++ behind) ≡ behind = subst (λ (n : ℕ). drop n (octets ++ behind) ≡ behind) one.1 (drop-append_seam octets behind) in (
      ap (λ (xs : List ℕ). octets_in (row ∷ rows) xs) joined
          ∙ (ap (λ (xs : List ℕ). xs ∷ octets_in rows (drop row.size (octets ++ behind))) first ∙ ap (λ (xs : List (List ℕ)). octets ∷ xs) (ap (octets_in rows) others ∙ more.0)),
      ap (λ (xs : List ℕ). length xs) joined
          ∙ (let a = length-append octets behind in let b = more.1 in let c = one.1 in let d = sum_by-cons (λ (r : InstRow). r.size) row rows in let w : length (octets ++ behind) ≡ sum_by (λ (r : InstRow). r.size) (row ∷ rows) = omega (arith, a, b, c, d) in w),
    )

-- ---- what is stored is held

-- What the files have of a stored message: its region, and behind it its instances.
record ReadsStored (files : Files) (row : LogRow) (entry : MapRecord) (octets : List ℕ) (stores : StoresMessage files entry octets) : Type 0 where
  long : length (parts_read files (parts_to_read (stored_at row entry))) ≡ octets_to_read (stored_at row entry)
  region : take entry.size (parts_read files (parts_to_read (stored_at row entry))) ≡ take entry.size (drop entry.offset stores.stored.octets_there)
  instances : octets_in entry.instances (drop entry.size (parts_read files (parts_to_read (stored_at row entry)))) ≡ stores.instances

reads_stored : (files : Files) (row : LogRow) (entry : MapRecord) (octets : List ℕ) → (stores : StoresMessage files entry octets) → All (IsThereWhole files) entry.instances → ReadsStored files row entry octets stores
reads_stored files row entry octets stores sizes =
    let stored = stores.stored in
    let text = take entry.size (drop entry.offset stored.octets_there) in
    let behind = parts_read files (map instance_part entry.instances) in
    let all = all_read files entry.instances stores.instances stores.found sizes in
    let here : part_read files (region_part (stored_at row entry)) ≡ text = ap (piece_read entry.offset entry.size) stored.there in
    let joined : parts_read files (parts_to_read (stored_at row entry)) ≡ text ++ behind = reads_of_parts files (stored_at row entry) ∙ ap (λ (xs : List ℕ). xs ++ behind) here in
    let size : length text ≡ entry.size = (let a = length-take entry.size (drop entry.offset stored.octets_there) in let b = length-drop entry.offset stored.octets_there in let i = stored.inside in omega (arith, a, b, i)) in
    record {
      long = ap (λ (xs : List ℕ). length xs) joined ∙ (let a = length-append text behind in let b = all.1 in let w : length (text ++ behind) ≡ octets_to_read (stored_at row entry) = omega (arith, a, b, size) in w);
      region = ap (take entry.size) joined ∙ subst (λ (n : ℕ). take n (text ++ behind) ≡ text) size (take-append_seam text behind);
      instances = ap (λ (xs : List ℕ). octets_in entry.instances (drop entry.size xs)) joined ∙ (ap (octets_in entry.instances) (subst (λ (n : ℕ). drop n (text ++ behind) ≡ behind) size (drop-append_seam text behind)) ∙ all.0);
    }

-- the message that is stored there
message_there : (files : Files) (row : LogRow) (entry : MapRecord) (octets region : List ℕ) → (stores : StoresMessage files entry octets) → length octets ≡ row.size → region ≡ take entry.size (drop entry.offset stores.stored.octets_there) → IsStoredMessage (stored_at row entry) region
message_there files row entry octets region stores listed is = record {
  message = stores.stored.message;
  meta = stores.stored.meta;
  spelled = subst (λ (xs : List ℕ). IsMessage xs stores.stored.message) (sym is) stores.stored.region;
  says = stores.stored.says;
  guid = stores.stored.guid;
  names = stores.names;
  size = sym stores.size ∙ listed;
}

pub stored_fetched : (files : Files) (row : LogRow) (entry : MapRecord) (octets : List ℕ) → StoresMessage files entry octets → All (IsThereWhole files) entry.instances → length octets ≡ row.size → HoldsWhole (stored_at row entry) (parts_read files (parts_to_read (stored_at row entry))) octets
unfolding message_there
stored_fetched files row entry octets stores sizes listed =
    let r = reads_stored files row entry octets stores sizes in
    record {
      long = r.long;
      stored = message_there files row entry octets _ stores listed r.region;
      whole = subst (λ (xs : List (List ℕ)). IsWhole octets stores.stored.message.body stores.stored.meta.refs xs) (sym r.instances) stores.whole;
      size = listed;
    }

-- ---- one whole

split_at : (front front' rest rest' : List ℕ) → length front ≡ length front' → front ++ rest ≡ front' ++ rest' → (front ≡ front') × (rest ≡ rest')
split_at front front' rest rest' long e = (
  sym (take-append_seam front rest) ∙ (ap (take (length front)) e ∙ subst (λ (n : ℕ). take n (front' ++ rest') ≡ front') (sym long) (take-append_seam front' rest')),
  sym (drop-append_seam front rest) ∙ (ap (drop (length front)) e ∙ subst (λ (n : ℕ). drop n (front' ++ rest') ≡ rest') (sym long) (drop-append_seam front' rest')),
)

-- a body, references and instances have one whole
one_whole : (place : ℕ) (a b body : List ℕ) (refs : List ExtRef) (instances : List (List ℕ)) → IsWholeFrom place a body refs instances → IsWholeFrom place b body refs instances → a ≡ b
one_whole place a b body [] [] h k = h ∙ sym k
one_whole place a b body [] (octets ∷ instances) h k = absurd h
one_whole place a b body (ref ∷ refs) [] h k = absurd h
one_whole place a b body (ref ∷ refs) (octets ∷ instances) (front, rest, behind, whole, body_is, at, size, more) (front', rest', behind', whole', body_is', at', size', more') =
    let parts = split_at front front' behind behind' (omega (arith, at, at')) (sym body_is ∙ body_is') in
    let same = one_whole (ref.start + ref.count) rest rest' behind refs instances more (subst (λ (xs : List ℕ). IsWholeFrom (ref.start + ref.count) rest' xs refs instances) (sym parts.1) more') in
    whole ∙ (ap (λ (xs : List ℕ). xs ++ (part_text ref.form octets ++ rest)) parts.0 ∙ (ap (λ (xs : List ℕ). front' ++ (part_text ref.form octets ++ xs)) same ∙ sym whole'))

-- what is held of the same octets is the same
held_once : (from : StoredAt) (read a b : List ℕ) → HoldsWhole from read a → HoldsWhole from read b → a ≡ b
held_once from read a b h k =
    let same = same_stored from (take from.size read) k.stored h.stored in
    one_whole 0 a b h.stored.message.body h.stored.meta.refs (octets_in from.instances (drop from.size read)) h.whole
    (subst (λ (body : List ℕ). IsWhole b body h.stored.meta.refs (octets_in from.instances (drop from.size read))) (ap (λ (m : Message). m.body) same.message)
    (subst (λ (refs : List ExtRef). IsWhole b k.stored.message.body refs (octets_in from.instances (drop from.size read))) (ap (λ (m : Metadata). m.refs) same.meta) k.whole))

-- So the reply is true.
pub true_reply : (region : RegionValue) (octets : List ℕ) (files : Files) (given : Reply) → IsFrontOfStored region octets files → pieces_left region.left ≡ 0 → IsReplyFor region.from region.octets given → IsTrueReply octets given
true_reply region octets files given f none is = by_reply is
  where
    held : HoldsWhole region.from region.octets octets
    held =
        subst (λ (from : StoredAt). HoldsWhole from region.octets octets) (sym f.from)
        (subst (λ (xs : List ℕ). HoldsWhole (stored_at f.row f.entry) xs octets) (sym (front_whole region octets files f none)) (stored_fetched files f.row f.entry octets f.stores f.sizes f.listed))

    by_reply : IsReplyFor region.from region.octets given → IsTrueReply octets given
    by_reply (inl (text, h, e)) = inl (e ∙ ap reply.Fetched (held_once region.from region.octets text octets h held))
    by_reply (inr (unheld, e)) = absurd (unheld octets held)
