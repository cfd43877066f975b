-- What joining a message at its place answers, by its sizes.
use Rattle.std.proofs.Common.{refl, ◌≡◌, ℕ, Bool, true, false, List, [], ◌∷◌, ◌++◌, map, length, take, drop, min, sym, ◌∙◌, ap, subst, arith, Option, Some, None, Result, Ok, Err}
use Rattle.std.specs.Option.{option_map_or, unwrap_or}
use Rattle.std.specs.Prelude.{◌==◌, IfOk, if◌then◌else◌, option_map}
use Rattle.disk_model.proofs.MomentLemmas.{if_told-all}
use Rattle.disk_model.specs.Disk.{DiskState, History, IfTold, reading}
use Rattle.disk_model.specs.declared.name.FileName.TheVariants as file
use Rattle.mdbox_base.specs.declared.metadata.ExtRef.{ExtRef}
use Rattle.model_attach.specs.Rejoined.{first_bad, first_differs, found_size, is_compressed, join_error, one_later, part_text, range_error}
use Rattle.model_attach.specs.declared.join_error.JoinError.{JoinError}
use Rattle.model_attach.specs.declared.join_error.JoinError.TheVariants as join
use Rattle.model_found.specs.declared.reason.Reason.{Reason}
use Rattle.model_found.specs.declared.reason.Reason.TheVariants as reason
use Rattle.model_storage.specs.declared.metadata_value.Metadata.{Metadata}
use Rattle.model_storage.specs.declared.places.MessageAt.{MessageAt}
use Rattle.model_storage.specs.StorageFile.{Message}
use Rattle.model_store.specs.Stands.{whole_size}
use Rattle.rebuild_judge.proofs.RegionLemmas.{body_front}
use Rattle.rebuild_judge.specs.Joining.{JoinsAs}
use Rattle.rebuild_judge.specs.Judges.{IsCompressedOn, IsSizeOn, JoinsOn, JoinsOr}
use Rattle.rebuild_judge.specs.Reading.{HasMessageOn}
use Rattle.storage_files.specs.OnDisk.{piece_read}

pub unwrap_is : (o : Option ℕ) (d : ℕ) → unwrap_or o d ≡ option_map_or (λ n. n) o d
unwrap_is None d = refl
unwrap_is (Some n) d = refl

-- what sizes tell of a body of any octets and of instances of these sizes
abbrev pub AreItsSizes : ℕ → ℕ → Metadata → List ℕ → Result ℕ Reason → Type 0
AreItsSizes stored whole meta sizes answer = (body : List ℕ) (octets : List (List ℕ)) → length body ≡ stored → map length octets ≡ sizes → JoinsAs (join_error body whole meta.refs octets) answer

-- the size of its body, which is a number of 32 bits
stored_is : (number : ℕ) (place : MessageAt) (m : Message) (stored : ℕ) (disk : DiskState) → stored ≡ min place.size 4294967295 → HasMessageOn number place m disk → length m.body ≡ stored
stored_is number place m stored disk is has =
    let size = ap (λ (p : MessageAt). p.size) has.stands.place_is in
    let fits = has.stands.is_message.begins.fits in
    omega (arith, is, size, fits)

whole_is : (number : ℕ) (place : MessageAt) (m : Message) (meta : Metadata) (stored whole : ℕ) (disk : DiskState) → stored ≡ min place.size 4294967295 → whole ≡ option_map_or (λ told. told) meta.physical stored → HasMessageOn number place m disk → whole ≡ whole_size meta m.body
whole_is number place m meta stored whole disk is told has = told ∙ ap (option_map_or (λ (n : ℕ). n) meta.physical) (sym (stored_is number place m stored disk is has))

size_told : (number : ℕ) (place : MessageAt) (meta : Metadata) (stored whole size : ℕ) (disk : DiskState) → stored ≡ min place.size 4294967295 → whole ≡ option_map_or (λ told. told) meta.physical stored → size ≡ whole → IsSizeOn number place meta size disk
size_told number place meta stored whole size disk is told same m has = same ∙ whole_is number place m meta stored whole disk is told has

pub size_on : (h : Option History) (number : ℕ) (place : MessageAt) (meta : Metadata) (stored whole : ℕ) (answer : Result ℕ Reason) → stored ≡ min place.size 4294967295 → whole ≡ option_map_or (λ told. told) meta.physical stored
    → IfOk answer (λ size. (size ≡ whole) × (size ≡ found_size stored meta.refs)) → IfOk answer (λ size. IfTold h (IsSizeOn number place meta size))
size_on h number place meta stored whole (Ok size) is told ok = if_told-all _ h (λ disk. size_told number place meta stored whole size disk is told ok.0)
size_on h number place meta stored whole (Err why) is told ok = tt

at_sizes : (number : ℕ) (place : MessageAt) (m : Message) (meta : Metadata) (stored whole : ℕ) (sizes : List ℕ) (octets : List (List ℕ)) (answer : Result ℕ Reason) (disk : DiskState) → stored ≡ min place.size 4294967295 → whole ≡ option_map_or (λ told. told) meta.physical stored
    → AreItsSizes stored whole meta sizes answer → HasMessageOn number place m disk → map length octets ≡ sizes → JoinsAs (join_error m.body (whole_size meta m.body) meta.refs octets) answer
at_sizes number place m meta stored whole sizes octets answer disk is told by_sizes has e =
    subst (λ (n : ℕ). JoinsAs (join_error m.body n meta.refs octets) answer) (whole_is number place m meta stored whole disk is told has) (by_sizes m.body octets (stored_is number place m stored disk is has) e)

-- ---- not by size

other_as : (error : Option JoinError) (answer : Result ℕ Reason) → (answer ≡ Err reason.SizeDiffers → ⊥) → JoinsAs error answer → JoinsOr error answer
other_as None answer other is = is
other_as (Some (join.RangeBad index)) answer other is = (reason.RangeBad, refl, is)
other_as (Some join.Compressed) answer other is = absurd (other is)
other_as (Some (join.SizeDiffers kept found)) answer other is = absurd (other is)
other_as (Some (join.InstanceDiffers index kept found)) answer other is = (reason.InstanceDiffers, refl, is)
other_as (Some join.NoMemory) answer other is = absurd is

pub other_told : (number : ℕ) (place : MessageAt) (meta : Metadata) (stored whole : ℕ) (sizes : List ℕ) (answer : Result ℕ Reason) (disk : DiskState) → stored ≡ min place.size 4294967295 → whole ≡ option_map_or (λ told. told) meta.physical stored
    → AreItsSizes stored whole meta sizes answer → (answer ≡ Err reason.SizeDiffers → ⊥) → JoinsOn number place meta sizes answer disk
other_told number place meta stored whole sizes answer disk is told by_sizes other m has octets e =
    other_as (join_error m.body (whole_size meta m.body) meta.refs octets) answer other (at_sizes number place m meta stored whole sizes octets answer disk is told by_sizes has e)

-- ---- by size

-- texts that differ are of an instance
abbrev IsText : Option JoinError → Type 0
IsText None = Unit {0}
IsText (Some (join.RangeBad index)) = ⊥
IsText (Some join.Compressed) = ⊥
IsText (Some (join.SizeDiffers kept found)) = ⊥
IsText (Some (join.InstanceDiffers index kept found)) = Unit {0}
IsText (Some join.NoMemory) = ⊥

later_text : (error : Option JoinError) → IsText error → IsText (option_map one_later error)
later_text None is = is
later_text (Some (join.RangeBad index)) is = absurd is
later_text (Some join.Compressed) is = absurd is
later_text (Some (join.SizeDiffers kept found)) is = absurd is
later_text (Some (join.InstanceDiffers index kept found)) is = tt
later_text (Some join.NoMemory) is = absurd is

either_text : (b : Bool) (rest : Option JoinError) (kept found : ℕ) → IsText rest → IsText (if b then option_map one_later rest else Some (join.InstanceDiffers 0 kept found))
either_text true rest kept found is = later_text rest is
either_text false rest kept found is = tt

is_text : (refs : List ExtRef) (octets : List (List ℕ)) → IsText (first_differs refs octets)
unfolding first_differs
is_text [] octets = tt
is_text (ref ∷ refs) [] = tt
is_text (ref ∷ refs) (o ∷ octets) = either_text (length (part_text ref.form o) == ref.count) (first_differs refs octets) ref.count (length (part_text ref.form o)) (is_text refs octets)

no_text : (texts : Option JoinError) (answer : Result ℕ Reason) → IsText texts → JoinsAs texts (Err reason.SizeDiffers) → JoinsOr texts answer
no_text None answer text (size, is) = absurd (cc is)
no_text (Some (join.RangeBad index)) answer text is = absurd text
no_text (Some join.Compressed) answer text is = absurd text
no_text (Some (join.SizeDiffers kept found)) answer text is = absurd text
no_text (Some (join.InstanceDiffers index kept found)) answer text is = absurd (cc is)
no_text (Some join.NoMemory) answer text is = absurd text

size_as : (bad : Option ℕ) (same gzip : Bool) (texts : Option JoinError) (whole found : ℕ) → IsText texts → JoinsAs (range_error bad (if same then texts else Some (if gzip then join.Compressed else join.SizeDiffers whole found))) (Err reason.SizeDiffers)
    → JoinsOr (range_error bad (if same then texts else Some (if gzip then join.Compressed else join.SizeDiffers whole found))) (Err (if gzip then reason.Compressed else reason.SizeDiffers))
size_as (Some i) same gzip texts whole found text is = absurd (cc is)
size_as None true gzip texts whole found text is = no_text texts (Err (if gzip then reason.Compressed else reason.SizeDiffers)) text is
size_as None false true texts whole found text is = (reason.Compressed, refl, refl)
size_as None false false texts whole found text is = (reason.SizeDiffers, refl, refl)

pub by_body : (number : ℕ) (place : MessageAt) (meta : Metadata) (stored whole : ℕ) (sizes : List ℕ) (b : Bool) (why : Reason) (disk : DiskState) → stored ≡ min place.size 4294967295 → whole ≡ option_map_or (λ told. told) meta.physical stored
    → AreItsSizes stored whole meta sizes (Err reason.SizeDiffers) → IsCompressedOn number place b disk → why ≡ (if b then reason.Compressed else reason.SizeDiffers) → JoinsOn number place meta sizes (Err why) disk
by_body number place meta stored whole sizes b why disk is told by_sizes gzip chosen m has octets e =
    let size = whole_size meta m.body in
    let answer = size_as (first_bad 0 (length m.body) meta.refs) (size == found_size (length m.body) meta.refs) (is_compressed m.body) (first_differs meta.refs octets) size (found_size (length m.body) meta.refs) (is_text meta.refs octets)
    (at_sizes number place m meta stored whole sizes octets (Err reason.SizeDiffers) disk is told by_sizes has e) in
    let same : why ≡ (if is_compressed m.body then reason.Compressed else reason.SizeDiffers) = chosen ∙ ap (λ (x : Bool). if x then reason.Compressed else reason.SizeDiffers) (gzip m has) in
    subst (λ (r : Reason). JoinsOr (join_error m.body size meta.refs octets) (Err r)) (sym same) answer

-- ---- how the body begins

-- two octets tell it
two_tell : (xs : List ℕ) → is_compressed (take 2 xs) ≡ is_compressed xs
two_tell [] = refl
two_tell (a ∷ []) = refl
two_tell (a ∷ b ∷ rest) = refl

front_take : (n size : ℕ) (body rest : List ℕ) → n ≡ min size 2 → length body ≡ size → take n (body ++ rest) ≡ take 2 body
front_take n size [] rest is e = let z : n ≡ 0 = omega (arith, is, e) in ap (λ (k : ℕ). take k rest) z
front_take n size (a ∷ []) rest is e = let one : n ≡ 1 = omega (arith, is, e) in ap (λ (k : ℕ). take k (a ∷ rest)) one
front_take n size (a ∷ b ∷ more) rest is e = let two : n ≡ 2 = omega (arith, is, e) in ap (λ (k : ℕ). take k (a ∷ b ∷ (more ++ rest))) two

pub gzip_told : (number : ℕ) (place : MessageAt) (n : ℕ) (start : List ℕ) (b : Bool) (disk : DiskState) → n ≡ min place.size 2 → start ≡ piece_read place.body n (reading (disk (file.Mail number))) → b ≡ is_compressed start → IsCompressedOn number place b disk
gzip_told number place n start b disk is read said m has =
    let size = ap (λ (p : MessageAt). p.size) has.stands.place_is in
    let front : start ≡ take 2 m.body = read ∙ (ap (piece_read place.body n) has.read ∙ (ap (take n) (body_front has.octets place m has.stands) ∙ front_take n place.size m.body (drop (length m.body) (drop place.body has.octets)) is (sym size))) in
    said ∙ (ap is_compressed front ∙ two_tell m.body)
