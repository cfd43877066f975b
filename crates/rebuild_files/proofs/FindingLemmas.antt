-- What is found in storage files, file by file.
use Rattle.std.specs.Prelude.{◌≡◌, ◌≤◌, ◌<◌, ◌+◌, ℕ, List, [], ◌∷◌, ◌++◌, length, take, drop, map, slice_get, get_or, Option, Some, None, Result, Ok, Err, OnOk, IsErrOf, Contains, refl}
use Rattle.std.proofs.Common.{sym, ◌∙◌, ap, subst, arith, append_assoc, append-nil, length-drop}
use Rattle.std.proofs.lemmas.Bool.{cond-true}
use Rattle.std.proofs.lemmas.List.{map-append, length-map, get_or-map, take_all, take_more}
use Rattle.std.proofs.lemmas.List.Elements.{All-get_or}
use Rattle.std.proofs.lemmas.Option.{slice_get_within, get_or_from_slice_get}
use Rattle.dbox_file.proofs.ScanLemmas.{IsScanned, scanned_all, scanned_header, scanned_message}
use Rattle.disk_model.proofs.MomentLemmas.{if_told-all, if_told-map, if_told-both}
use Rattle.disk_model.specs.Disk.{DiskState, FileState, History, IfTold, IsThere, reading}
use Rattle.disk_model.specs.declared.name.FileName.TheVariants as file
use Rattle.mdbox_base.specs.Words.{IsNumber}
use Rattle.mdbox_base.specs.declared.ids.FileNo.{FileNo}
use Rattle.model_found.specs.Findings.{NumberedFile, IsThereAs, Finding, Stored, Unread, stored_from, HasFindings, FileFinding, findings_of, HaveFindings}
use Rattle.model_found.specs.declared.reason.Reason.{Reason}
use Rattle.model_found.specs.declared.reason.Reason.TheVariants as reason
use Rattle.model_octets.proofs.PairLemmas.{all_map, pairs_map}
use Rattle.model_storage.specs.Grammars.{Begins, IsFrontOf}
use Rattle.model_storage.specs.declared.places.MessageAt.{MessageAt}
use Rattle.model_storage.specs.declared.places.PlaceError.{PlaceError}
use Rattle.model_storage.specs.declared.places.PlaceError.TheVariants as at
use Rattle.model_storage.specs.declared.places.ScanError.{ScanError}
use Rattle.model_storage.specs.declared.places.ScanError.TheVariants as scan
use Rattle.model_storage.specs.Places.{refusal_of}
use Rattle.model_storage.specs.StorageFile.{Message, IsMessage, PlaceGives, StopsAt, message_places_from, place_at}
use Rattle.model_store.specs.Settled.{files_of}
use Rattle.rebuild_files.proofs.ListingLemmas.{there_of}
use Rattle.rebuild_files.specs.Listing.{AreStorageNumbers}
use Rattle.rebuild_files.specs.Places.{found_at, place_in_file, AddsFindings, AddsFindingsOn, AddsUnread, AreAllFindings}
use Rattle.rebuild_files.specs.declared.found.FoundAt.{FoundAt}
use Rattle.rebuild_files.specs.declared.found.FoundPlace.{FoundPlace}
use Rattle.rebuild_files.specs.declared.found.FoundPlace.TheVariants as place
use Rattle.scan_pieces.specs.Pieces.{HeaderGives}
use Rattle.scan_pieces.specs.WindowValue.{WindowValue, GivesOn, HeaderOn, IsWindowOn}

-- ---- one file

-- the message at this place of a file
abbrev pub message_found : ℕ → MessageAt → FoundAt
message_found number at = record { file = record { 0 = number }; place = place.Message at }

-- Up to this offset the messages of the file were added.
pub record IsFoundTo (number : ℕ) (octets : List ℕ) (offset : ℕ) (old new : List FoundAt) : Type 0 where
  pub places : List MessageAt
  pub scanned : IsScanned octets offset places
  pub added : new ≡ old ++ map (message_found number) places

pub IsFoundToOn : ℕ → ℕ → List FoundAt → List FoundAt → DiskState → Type 0
IsFoundToOn number offset old new disk = (octets : List ℕ) → reading (disk (file.Mail number)) ≡ Some octets → IsFoundTo number octets offset old new

pub file_begins : (h : Option History) (number n : ℕ) (old : List FoundAt) → IfTold h (HeaderOn number (Ok n)) → IfTold h (IsFoundToOn number n old old)
unfolding IsFoundToOn
file_begins h number n old header = if_told-map (HeaderOn number (Ok n)) (IsFoundToOn number n old old) h
    (λ disk on octets there. record { places = []; scanned = scanned_header octets n [] refl (on octets there); added = sym (append-nil old) }) header

pub file_goes_on : (h : Option History) (number offset : ℕ) (at : MessageAt) (old mid new : List FoundAt) → IfTold h (IsFoundToOn number offset old mid) → IfTold h (GivesOn number offset (Ok at)) → new ≡ mid ++ message_found number at ∷ [] → IfTold h (IsFoundToOn number at.end old new)
unfolding IsFoundToOn
file_goes_on h number offset at old mid new f gives e = if_told-both (IsFoundToOn number offset old mid) (GivesOn number offset (Ok at)) (IsFoundToOn number at.end old new) h
    (λ disk p q octets there.
    let s = p octets there in
    record {
      places = s.places ++ at ∷ [];
      scanned = scanned_message octets offset at s.places (s.places ++ at ∷ []) s.scanned (q octets there) refl;
      added = e ∙ ap (λ (ps : List FoundAt). ps ++ message_found number at ∷ []) s.added ∙ append_assoc old (map (message_found number) s.places) (message_found number at ∷ [])
          ∙ ap (λ (ps : List FoundAt). old ++ ps) (sym (map-append (message_found number) s.places (at ∷ [])));
    }) f gives

-- the places of messages are those of what is stored
stored_places : (number offset : ℕ) (ms : List Message) → map (message_found number) (message_places_from offset ms) ≡ map (found_at number) (stored_from offset ms)
stored_places number offset [] = refl
stored_places number offset (m ∷ ms) = ap (λ (ps : List FoundAt). found_at number (Stored (place_at offset m) m) ∷ ps) (stored_places number (place_at offset m).end ms)

whole_file : (number : ℕ) (octets : List ℕ) (offset : ℕ) (old new : List FoundAt) → IsFoundTo number octets offset old new → length octets ≤ offset → AddsFindings number octets old new
whole_file number octets offset old new f last =
    let all = scanned_all octets offset f.places f.scanned last in (
      stored_from (length all.0) all.1,
      record { answer = Ok f.places; by = (all.0, all.1, all.2, all.3, refl) },
      f.added ∙ ap (λ (ps : List FoundAt). old ++ ps) (ap (map (message_found number)) all.3 ∙ stored_places number (length all.0) all.1),
    )

size_is : (w : WindowValue) (disk : DiskState) (number : ℕ) (octets : List ℕ) → IsWindowOn w disk → w.number ≡ number → reading (disk (file.Mail number)) ≡ Some octets → w.size ≡ length octets
size_is w disk number octets is e there = (is octets (subst (λ (n : ℕ). reading (disk (file.Mail n)) ≡ Some octets) (sym e) there)).size

pub file_ends : (h : Option History) (w : WindowValue) (number offset : ℕ) (old new : List FoundAt) → IfTold h (IsFoundToOn number offset old new) → IfTold h (IsWindowOn w) → w.number ≡ number → w.size ≤ offset → IfTold h (AddsFindingsOn number old new)
unfolding IsFoundToOn
file_ends h w number offset old new f is same last = if_told-both (IsFoundToOn number offset old new) (IsWindowOn w) (AddsFindingsOn number old new) h
    (λ disk p q octets there. let size = size_is w disk number octets q same there in whole_file number octets offset old new (p octets there) (omega (arith, size, last))) f is

-- ---- a refusal

header_bad : (number : ℕ) (octets : List ℕ) (error : ScanError) (old new : List FoundAt) → HeaderGives octets (Err error) → AddsUnread number error old new → AddsFindings number octets old new
header_bad number octets scan.BadHeader old new r a =
    (Unread 0 reason.BadHeader ∷ [], record { answer = Err scan.BadHeader; by = (r, refl) }, a.2 ∙ ap (λ (p : FoundPlace). old ++ record { file = record { 0 = number }; place = p } ∷ []) a.1)
header_bad number octets (scan.HeaderSize size) old new r a =
    (Unread 0 reason.HeaderSize ∷ [], record { answer = Err (scan.HeaderSize size); by = (r, refl) }, a.2 ∙ ap (λ (p : FoundPlace). old ++ record { file = record { 0 = number }; place = p } ∷ []) a.1)
header_bad number octets (scan.Truncated offset) old new r a = absurd r
header_bad number octets (scan.BadMessage offset) old new r a = absurd r
header_bad number octets scan.NoMemory old new r a = absurd a.1

pub header_stops : (h : Option History) (number : ℕ) (error : ScanError) (old new : List FoundAt) → IfTold h (HeaderOn number (Err error)) → AddsUnread number error old new → IfTold h (AddsFindingsOn number old new)
header_stops h number error old new header a = if_told-map (HeaderOn number (Err error)) (AddsFindingsOn number old new) h (λ disk r octets there. header_bad number octets error old new (r octets there) a) header

abbrev stop_of : (octets : List ℕ) (offset : ℕ) (places : List MessageAt) → IsScanned octets offset places → offset < length octets → ¬ Begins IsMessage (drop offset octets) → StopsAt octets offset (drop offset octets)
stop_of octets offset places s less none = record {
  header = s.header;
  front = s.front;
  messages = s.messages;
  parts = s.parts;
  begins = s.begins;
  whole = s.whole;
  offset_is = s.offset_is;
  some = λ e. omega (arith, less, ap length e, length-drop offset octets);
  none = none;
}

-- the place at which the file stops, after its messages
unread_added : (number : ℕ) (octets : List ℕ) (offset : ℕ) (why : Reason) (old mid new : List FoundAt) → (f : IsFoundTo number octets offset old mid) → new ≡ mid ++ found_at number (Unread offset why) ∷ []
    → new ≡ old ++ map (found_at number) (stored_from (length f.scanned.header) f.scanned.messages ++ Unread offset why ∷ [])
unread_added number octets offset why old mid new f e =
    let last = found_at number (Unread offset why) in
    let stored = stored_from (length f.scanned.header) f.scanned.messages in
    e ∙ ap (λ (ps : List FoundAt). ps ++ last ∷ []) f.added
    ∙ append_assoc old (map (message_found number) f.places) (last ∷ [])
    ∙ ap (λ (ps : List FoundAt). old ++ (ps ++ last ∷ [])) (ap (map (message_found number)) f.scanned.places_are ∙ stored_places number (length f.scanned.header) f.scanned.messages)
    ∙ ap (λ (ps : List FoundAt). old ++ ps) (sym (map-append (found_at number) stored (Unread offset why ∷ [])))

cut_off : (number : ℕ) (octets : List ℕ) (offset : ℕ) (old mid new : List FoundAt) → IsFoundTo number octets offset old mid → offset < length octets → ¬ Begins IsMessage (drop offset octets) → IsFrontOf IsMessage (drop offset octets)
    → AddsUnread number (scan.Truncated offset) mid new → AddsFindings number octets old new
cut_off number octets offset old mid new f less none front a = (
  stored_from (length f.scanned.header) f.scanned.messages ++ Unread offset reason.Truncated ∷ [],
  record { answer = Err (scan.Truncated offset); by = (record { rest = drop offset octets; stops = stop_of octets offset f.places f.scanned less none; are = refl }, front) },
  unread_added number octets offset reason.Truncated old mid new f (a.2 ∙ ap (λ (p : FoundPlace). mid ++ record { file = record { 0 = number }; place = p } ∷ []) a.1),
)

no_message : (number : ℕ) (octets : List ℕ) (offset : ℕ) (old mid new : List FoundAt) → IsFoundTo number octets offset old mid → offset < length octets → ¬ Begins IsMessage (drop offset octets) → ¬ IsFrontOf IsMessage (drop offset octets)
    → AddsUnread number (scan.BadMessage offset) mid new → AddsFindings number octets old new
no_message number octets offset old mid new f less none front a = (
  stored_from (length f.scanned.header) f.scanned.messages ++ Unread offset reason.BadMessage ∷ [],
  record { answer = Err (scan.BadMessage offset); by = (record { rest = drop offset octets; stops = stop_of octets offset f.places f.scanned less none; are = refl }, front) },
  unread_added number octets offset reason.BadMessage old mid new f (a.2 ∙ ap (λ (p : FoundPlace). mid ++ record { file = record { 0 = number }; place = p } ∷ []) a.1),
)

place_bad : (number : ℕ) (octets : List ℕ) (offset : ℕ) (error : PlaceError) (old mid new : List FoundAt) → IsFoundTo number octets offset old mid → offset < length octets → PlaceGives octets offset (Err error) → AddsUnread number (refusal_of error) mid new → AddsFindings number octets old new
place_bad number octets offset (at.Truncated n) old mid new f less p a = cut_off number octets offset old mid new f less p.1 p.2 (subst (λ (k : ℕ). AddsUnread number (scan.Truncated k) mid new) p.0 a)
place_bad number octets offset (at.BadMessage n) old mid new f less p a = no_message number octets offset old mid new f less p.1 p.2 (subst (λ (k : ℕ). AddsUnread number (scan.BadMessage k) mid new) p.0 a)

pub file_stops : (h : Option History) (w : WindowValue) (number offset : ℕ) (error : PlaceError) (old mid new : List FoundAt) → IfTold h (IsFoundToOn number offset old mid) → IfTold h (IsWindowOn w) → w.number ≡ number → offset < w.size → IfTold h (GivesOn number offset (Err error))
    → AddsUnread number (refusal_of error) mid new → IfTold h (AddsFindingsOn number old new)
unfolding IsFoundToOn
file_stops None w number offset error old mid new f is same less gives a = tt
file_stops (Some h) w number offset error old mid new f is same less gives a = λ octets there.
    let size = size_is w h.now number octets is same there in
    place_bad number octets offset error old mid new (f octets there) (omega (arith, size, less)) (gives octets there) a

-- ---- all files

-- the storage file with this number, as the disk reads it
abbrev pub file_at : DiskState → FileNo → NumberedFile
file_at disk n = record { number = n.0; octets = (disk (file.Mail n.0)).octets }

-- These are the places of what is found in the storage files with these numbers.
pub AreFoundIn : List FileNo → List FoundAt → DiskState → Type 0
AreFoundIn numbers places disk = (found : List FileFinding) × HaveFindings (map (file_at disk) numbers) found × (places ≡ map place_in_file found)

pub found_begins : (h : Option History) (places : List FoundAt) → places ≡ [] → IfTold h (AreFoundIn [] places)
unfolding AreFoundIn
found_begins h places e = if_told-all (AreFoundIn [] places) h (λ disk. ([], refl, e))

findings_more : (storage : List NumberedFile) (found : List FileFinding) (f : NumberedFile) (fs : List Finding) → HaveFindings storage found → HasFindings f.octets fs → HaveFindings (storage ++ f ∷ []) (found ++ findings_of f.number fs)
findings_more [] found f fs e h = (fs, [], h, refl, ap (λ (xs : List FileFinding). xs ++ findings_of f.number fs) e ∙ sym (append-nil (findings_of f.number fs)))
findings_more (g ∷ storage) found f fs p h =
    (p.0, p.1 ++ findings_of f.number fs, p.2, findings_more storage p.1 f fs p.3 h, ap (λ (xs : List FileFinding). xs ++ findings_of f.number fs) p.4 ∙ append_assoc (findings_of g.number p.0) p.1 (findings_of f.number fs))

map_findings : (number : ℕ) (fs : List Finding) → map place_in_file (findings_of number fs) ≡ map (found_at number) fs
map_findings number [] = refl
map_findings number (f ∷ fs) = ap (λ (ps : List FoundAt). found_at number f ∷ ps) (map_findings number fs)

octets_read : (f : FileState) → IsThere f → reading f ≡ Some f.octets
octets_read f there = cond-true f.is_there (Some f.octets) None there

one_file_more : (disk : DiskState) (done : List FileNo) (n : FileNo) (old new : List FoundAt) → AreFoundIn done old disk → IsThere (disk (file.Mail n.0)) → AddsFindingsOn n.0 old new disk → AreFoundIn (done ++ n ∷ []) new disk
unfolding AreFoundIn
one_file_more disk done n old new p there adds =
    let a = adds (disk (file.Mail n.0)).octets (octets_read (disk (file.Mail n.0)) there) in (
      p.0 ++ findings_of n.0 a.0,
      subst (λ (storage : List NumberedFile). HaveFindings storage (p.0 ++ findings_of n.0 a.0)) (sym (map-append (file_at disk) done (n ∷ []))) (findings_more (map (file_at disk) done) p.0 (file_at disk n) a.0 p.1 a.1),
      a.2 ∙ ap (λ (ps : List FoundAt). ps ++ map (found_at n.0) a.0) p.2 ∙ ap (λ (ps : List FoundAt). map place_in_file p.0 ++ ps) (sym (map_findings n.0 a.0)) ∙ sym (map-append place_in_file p.0 (findings_of n.0 a.0)),
    )

contains_mapped : {X Y : Type 0} → (f : X → Y) (xs : List X) (x : X) → Contains xs x → Contains (map f xs) (f x)
contains_mapped f xs x c = let at = c.1 in let long = length-map xs f in (c.0, omega (arith, at, long), get_or-map f xs c.0 x (f x) at ∙ ap f c.2)

pub found_goes_on : (h : Option History) (numbers : List FileNo) (k : ℕ) (n : FileNo) (old new : List FoundAt) → IfTold h (AreStorageNumbers numbers) → slice_get numbers k ≡ Some n → IfTold h (AreFoundIn (take k numbers) old) → IfTold h (AddsFindingsOn n.0 old new) → IfTold h (AreFoundIn (take (k + 1) numbers) new)
found_goes_on None numbers k n old new are is p adds = tt
found_goes_on (Some h) numbers k n old new are is p adds =
    let less : k < length numbers = slice_get_within numbers k n is in
    let at : get_or numbers k n ≡ n = get_or_from_slice_get numbers k n n is in
    let there = subst (λ (m : FileNo). IsNumber m.0 × IsThere (h.now (file.Mail m.0))) at (All-get_or (λ (m : FileNo). IsNumber m.0 × IsThere (h.now (file.Mail m.0))) numbers k n less are.there) in
    let more : take (k + 1) numbers ≡ take k numbers ++ n ∷ [] = take_more numbers k n less ∙ ap (λ (m : FileNo). take k numbers ++ m ∷ []) at in
    subst (λ (ns : List FileNo). AreFoundIn ns new h.now) (sym more) (one_file_more h.now (take k numbers) n old new p there.1 adds)

all_found : (numbers : List FileNo) (places : List FoundAt) (disk : DiskState) → AreStorageNumbers numbers disk → AreFoundIn numbers places disk → AreAllFindings places disk
unfolding AreFoundIn
all_found numbers places disk are p = (
  map (file_at disk) numbers,
  p.0,
  record {
    rising = pairs_map (λ (a b : FileNo). a.0 < b.0) (λ (a b : NumberedFile). a.number < b.number) (file_at disk) (λ a b l. l) numbers are.rising;
    there = all_map (λ (n : FileNo). IsNumber n.0 × IsThere (disk (file.Mail n.0))) (IsThereAs (files_of disk)) (file_at disk) (λ n t. (t.0, octets_read (disk (file.Mail n.0)) t.1)) numbers are.there;
    every = λ f t.
        let there = there_of (disk (file.Mail f.number)) (λ e. let k : Some f.octets ≡ None = sym t.1 ∙ e in cc) in
        let read = octets_read (disk (file.Mail f.number)) there in
        let same : (disk (file.Mail f.number)).octets ≡ f.octets = let k : Some (disk (file.Mail f.number)).octets ≡ Some f.octets = sym read ∙ t.1 in cc in
        subst (λ (g : NumberedFile). Contains (map (file_at disk) numbers) g) (ap (λ (octets : List ℕ). record { number = f.number; octets = octets }) same)
        (contains_mapped (file_at disk) numbers (record { 0 = f.number }) (are.every f.number t.0 there));
  },
  p.1,
  p.2,
)

pub found_ends : (h : Option History) (numbers : List FileNo) (k : ℕ) (places : List FoundAt) → IfTold h (AreStorageNumbers numbers) → length numbers ≤ k → IfTold h (AreFoundIn (take k numbers) places) → IfTold h (AreAllFindings places)
found_ends None numbers k places are last p = tt
found_ends (Some h) numbers k places are last p = all_found numbers places h.now are (subst (λ (ns : List FileNo). AreFoundIn ns places h.now) (take_all k numbers last) p)

-- what follows where a call succeeds
pub on_ok : {T E : Type 0} → (r : Result T E) (P Q : Type 0) → (P → Q) → OnOk r P → OnOk r Q
on_ok (Ok x) P Q f p = f p
on_ok (Err e) P Q f p = tt

pub ok_no_error : {T E : Type 0} → (x : T) (e : E) → IsErrOf {T = T} {E = E} (Ok x) e → ⊥
ok_no_error x e is = let k : Ok x ≡ Err e = is in cc
